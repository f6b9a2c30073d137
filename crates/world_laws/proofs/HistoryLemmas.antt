-- A history and the changes of one branch in it: one more change, and the settlement of a branch.
use Rattle.std.proofs.Common.{◌≡◌, ℕ, List, [], ◌∷◌, ◌++◌, map, Bool, true, false, if◌then◌else◌, refl, sym, ◌∙◌, ap}
use Rattle.vms_model.specs.Ids.{Id}
use Rattle.vms_model.specs.Transactions.{Outcome, Abort, Commit}
use Rattle.run_model.specs.records_model.Records.{Records, Change, set_key, applied}
use Rattle.run_model.specs.records_model.History.{History, LiveChanges, same_id, changes_by, with_change, with_changes, without, records, settled_at, settled_with}
use Rattle.world_laws.proofs.IdLemmas.{id_is}

-- the branches of changes
abbrev pub serials_in : List LiveChanges → List Id
serials_in ls = map (λ l. l.serial) ls

-- ids that are the same test alike
pub same_as : (a b c : Id) → same_id b c ≡ true → same_id a b ≡ same_id a c
same_as a b c e = ap (same_id a) (id_is b c e)

-- the changes of a branch, after one more change of a branch
pub by_with_change : (id serial : Id) (c : Change) (ls : List LiveChanges) → changes_by id (with_change serial c ls) ≡ (if same_id id serial then c ∷ changes_by id ls else changes_by id ls)
by_with_change id serial c [] = refl
by_with_change id serial c (l ∷ ls) = go (same_id serial l.serial) (same_id id l.serial) refl refl (by_with_change id serial c ls)
  where
    other : (b : Bool) → same_id id serial ≡ b → same_id serial l.serial ≡ false → same_id id l.serial ≡ true → same_id id serial ≡ false
    other true f e k = let clash : true ≡ false = sym k ∙ (ap (λ x. same_id x l.serial) (id_is id serial f) ∙ e) in cc
    other false f e k = f

    rest : (t : Bool) → same_id id l.serial ≡ t → same_id serial l.serial ≡ false → changes_by id (with_change serial c ls) ≡ (if same_id id serial then c ∷ changes_by id ls else changes_by id ls) →
        (if t then l.changes else changes_by id (with_change serial c ls)) ≡ (if same_id id serial then c ∷ (if t then l.changes else changes_by id ls) else (if t then l.changes else changes_by id ls))
    rest true k e more = rw (other (same_id id serial) refl e k) refl
    rest false k e more = more

    go : (b t : Bool) → same_id serial l.serial ≡ b → same_id id l.serial ≡ t → changes_by id (with_change serial c ls) ≡ (if same_id id serial then c ∷ changes_by id ls else changes_by id ls) →
        changes_by id (if b then record l { changes = c ∷ l.changes } ∷ ls else l ∷ with_change serial c ls) ≡ (if same_id id serial then c ∷ (if t then l.changes else changes_by id ls) else (if t then l.changes else changes_by id ls))
    go true true e k more = rw (same_as id serial l.serial e, k) refl
    go true false e k more = rw (same_as id serial l.serial e, k) refl
    go false t e k more = rw k (rest t k e more)

-- after more changes of a branch
pub by_with_changes : (id serial : Id) (cs : List Change) (ls : List LiveChanges) → changes_by id (with_changes serial cs ls) ≡ (if same_id id serial then cs ++ changes_by id ls else changes_by id ls)
by_with_changes id serial [] ls = go (same_id id serial)
  where
    go : (b : Bool) → changes_by id ls ≡ (if b then changes_by id ls else changes_by id ls)
    go true = refl
    go false = refl
by_with_changes id serial (c ∷ cs) ls = by_with_change id serial c (with_changes serial cs ls) ∙ go (same_id id serial) (by_with_changes id serial cs ls)
  where
    go : (b : Bool) → changes_by id (with_changes serial cs ls) ≡ (if b then cs ++ changes_by id ls else changes_by id ls) →
        (if b then c ∷ changes_by id (with_changes serial cs ls) else changes_by id (with_changes serial cs ls)) ≡ (if b then c ∷ (cs ++ changes_by id ls) else changes_by id ls)
    go true more = ap (λ ds. c ∷ ds) more
    go false more = more

-- changes behind others are applied before them
pub applied_append : (cs ds : List Change) (m : Records) → applied (cs ++ ds) m ≡ applied cs (applied ds m)
applied_append [] ds m = refl
applied_append (c ∷ cs) ds m = ap (λ k. set_key k c.key c.after) (applied_append cs ds m)

-- the changes of another branch, where those of one are gone
pub by_without : (id serial : Id) (ls : List LiveChanges) → same_id id serial ≡ false → changes_by id (without serial ls) ≡ changes_by id ls
by_without id serial [] other = refl
by_without id serial (l ∷ ls) other = go (same_id serial l.serial) refl (by_without id serial ls other)
  where
    go : (b : Bool) → same_id serial l.serial ≡ b → changes_by id (without serial ls) ≡ changes_by id ls →
        changes_by id (if b then ls else l ∷ without serial ls) ≡ (if same_id id l.serial then l.changes else changes_by id ls)
    go true e more = rw (sym (same_as id serial l.serial e), other) refl
    go false e more = ap (λ cs. if same_id id l.serial then l.changes else cs) more

-- where a branch commits, its changes come on top of the records
pub committed_leaves : (serial : Id) (moment : ℕ) (h : History) → records (settled_at serial Commit moment h) ≡ applied (changes_by serial h.live) (records h)
committed_leaves serial moment h = go (changes_by serial h.live)
  where
    go : (cs : List Change) → records (settled_with serial Commit moment cs h) ≡ applied cs (records h)
    go [] = refl
    go (c ∷ cs) = refl

-- where one is aborted, the records stay
pub aborted_leaves : (serial : Id) (moment : ℕ) (h : History) → records (settled_at serial Abort moment h) ≡ records h
aborted_leaves serial moment h = go (changes_by serial h.live)
  where
    go : (cs : List Change) → records (settled_with serial Abort moment cs h) ≡ records h
    go [] = refl
    go (c ∷ cs) = refl

-- the other branches keep their changes
pub by_settled : (id serial : Id) (outcome : Outcome) (moment : ℕ) (h : History) → same_id id serial ≡ false → changes_by id (settled_at serial outcome moment h).live ≡ changes_by id h.live
by_settled id serial outcome moment h other = go (changes_by serial h.live)
  where
    go : (cs : List Change) → changes_by id (settled_with serial outcome moment cs h).live ≡ changes_by id h.live
    go [] = refl
    go (c ∷ cs) = by_without id serial h.live other
