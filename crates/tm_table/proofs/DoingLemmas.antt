-- What an act and a list of acts do.
use Rattle.std.proofs.Common.{◌≡◌, List, [], ◌∷◌, ◌++◌, refl, ap, sym, subst, ◌∙◌, append_assoc, Bool, true, false, if◌then◌else◌}
use Rattle.std.specs.List.{list_any}
use Rattle.vms_model.specs.Ids.{Id}
use Rattle.std.proofs.lemmas.List.{append-nil}
use Rattle.commit_protocol.specs.Messages.{Name}
use Rattle.commit_protocol.specs.Table.{Act, Acknowledges, Releases, after_act, after, records_after, Key, waits_for, holds}
use Rattle.commit_protocol.specs.Rows.{ack_row}
use Rattle.commit_protocol.specs.Effects.{act_effects, effects_of, acknowledge_effects, release_effects}
use Rattle.tm_table.specs.Doing.{Doing, did, does, released_row}

pub did_by : (a : Act) (s t : Doing) → t.tm ≡ after_act a s.tm → t.effects ≡ s.effects ++ act_effects a s.tm.records → t ≡ did a s
unfolding did
did_by a s t e f = λ i. record { tm = e i; effects = f i }

-- an act without effects
pub did_quietly : (a : Act) (s t : Doing) → t.tm ≡ after_act a s.tm → t.effects ≡ s.effects → act_effects a s.tm.records ≡ [] → t ≡ did a s
did_quietly a s t e f g = did_by a s t e (f ∙ (sym (append-nil s.effects) ∙ ap (λ es. s.effects ++ es) (sym g)))

pub does_append : (xs ys : List Act) (s : Doing) → does (xs ++ ys) s ≡ does ys (does xs s)
does_append [] ys s = refl
does_append (x ∷ xs) ys s = does_append xs ys (did x s)

-- the rows that take something out of a record
pub ack_some : (k : Key) (s t : Doing) → list_any (λ r. waits_for k r) s.tm.records ≡ true → t.tm ≡ after_act (Acknowledges k) s.tm → t.effects ≡ s.effects ++ acknowledge_effects k s.tm.records → t ≡ does (ack_row k s.tm.records) s
ack_some k s t h e f = let P : Bool → Type 0 = λ b. t ≡ does (if b then Acknowledges k ∷ [] else []) s in subst P (sym h) (did_by (Acknowledges k) s t e f)

pub ack_none : (k : Key) (s : Doing) → list_any (λ r. waits_for k r) s.tm.records ≡ false → s ≡ does (ack_row k s.tm.records) s
ack_none k s h = let P : Bool → Type 0 = λ b. s ≡ does (if b then Acknowledges k ∷ [] else []) s in subst P (sym h) refl

pub release_some : (i : Id) (x : Name) (s t : Doing) → list_any (λ r. holds i x r) s.tm.records ≡ true → t.tm ≡ after_act (Releases i x) s.tm → t.effects ≡ s.effects ++ release_effects i x s.tm.records → t ≡ does (released_row i x s.tm.records) s
release_some i x s t h e f = let P : Bool → Type 0 = λ b. t ≡ does (if b then Releases i x ∷ [] else []) s in subst P (sym h) (did_by (Releases i x) s t e f)

pub release_none : (i : Id) (x : Name) (s : Doing) → list_any (λ r. holds i x r) s.tm.records ≡ false → s ≡ does (released_row i x s.tm.records) s
release_none i x s h = let P : Bool → Type 0 = λ b. s ≡ does (if b then Releases i x ∷ [] else []) s in subst P (sym h) refl

-- one act and three lists of acts, one after another
pub parts3 : (a : Act) (xs ys zs : List Act) (s0 s1 s2 s3 s4 : Doing) → s1 ≡ did a s0 → s2 ≡ does xs s1 → s3 ≡ does ys s2 → s4 ≡ does zs s3 → s4 ≡ does (a ∷ (xs ++ (ys ++ zs))) s0
parts3 a xs ys zs s0 s1 s2 s3 s4 e1 e2 e3 e4 =
    let f2 : s2 ≡ does xs (did a s0) = e2 ∙ ap (λ (z : Doing). does xs z) e1 in
    let f3 : s3 ≡ does ys (does xs (did a s0)) = e3 ∙ ap (λ (z : Doing). does ys z) f2 in
    let f4 : s4 ≡ does zs (does ys (does xs (did a s0))) = e4 ∙ ap (λ (z : Doing). does zs z) f3 in
    f4 ∙ (sym (does_append ys zs (does xs (did a s0))) ∙ sym (does_append xs (ys ++ zs) (did a s0)))

pub parts2 : (a : Act) (xs ys : List Act) (s0 s1 s2 s3 : Doing) → s1 ≡ did a s0 → s2 ≡ does xs s1 → s3 ≡ does ys s2 → s3 ≡ does (a ∷ (xs ++ ys)) s0
parts2 a xs ys s0 s1 s2 s3 e1 e2 e3 =
    let f2 : s2 ≡ does xs (did a s0) = e2 ∙ ap (λ (z : Doing). does xs z) e1 in
    e3 ∙ (ap (λ (z : Doing). does ys z) f2 ∙ sym (does_append xs ys (did a s0)))

-- a list of acts is done as the protocol says: what the node knows after them, and their effects
pub does_is : (acts : List Act) (s : Doing) → does acts s ≡ record { tm = after acts s.tm; effects = s.effects ++ effects_of acts s.tm.records }
unfolding did
does_is [] s = λ i. record { tm = s.tm; effects = sym (append-nil s.effects) i }
does_is (a ∷ acts) s =
    does_is acts (did a s) ∙ (λ i. record { tm = after acts (after_act a s.tm); effects = append_assoc s.effects (act_effects a s.tm.records) (effects_of acts (records_after a s.tm.records)) i })
