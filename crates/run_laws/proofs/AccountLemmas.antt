-- Accounts of a file: what is told in them, and who has left what it set.
use Rattle.std.proofs.Common.{◌≡◌, ℕ, List, [], ◌∷◌, ◌++◌, map, Bool, true, false, Option, Some, None, if◌then◌else◌, refl, sym, ◌∙◌, ap, subst, inl, inr}
use Rattle.std.specs.Prelude.{slice_set}
use Rattle.std.specs.List.{AllByRecursion, list_any}
use Rattle.std.specs.Str.{bytes_eq}
use Rattle.std.specs.Option.{option_map}
use Rattle.std.proofs.lemmas.Bool.{false_from_ne_true}
use Rattle.std.proofs.lemmas.Slice.Eq.{bytes_eq-Decides}
use Rattle.vms_model.specs.Ids.{Id}
use Rattle.vms_model.specs.Transactions.{Outcome, Commit, Abort, Reason}
use Rattle.run_said.specs.transcript_model.Lines as line
use Rattle.run_said.specs.transcript_model.Lines.{Line}
use Rattle.unit_laws.specs.records_model.Records.{Records, Change, applied, set_key}
use Rattle.unit_laws.specs.records_model.History.{History, LiveChanges, changes_by, same_id, settled_at, settled_with}
use Rattle.unit_laws.specs.Units.{SerialsDiffer}
use Rattle.run_said.specs.run_model.World.{File, Node, Settlement, find_file, free_place, settled_file, with_file}
use Rattle.run_said.specs.run_model.Answers.{last_line, last_lines}
use Rattle.run_laws.specs.Accounts.{Account, MayHave, Told, commits_here, left_by, left_sets, told_by, with_sets}
use Rattle.recovery_laws.specs.world_laws.Running.{history_in, history_of}
use Rattle.recovery_laws.proofs.world_laws.IdLemmas.{id_is, id_itself}
use Rattle.recovery_laws.proofs.world_laws.FindLemmas.{mapped_file, placed_file}
use Rattle.recovery_laws.proofs.world_laws.HeldLemmas.{file_after}
use Rattle.run_laws.proofs.EachRow.{ArePlain}

-- nothing is told that sets a key
abbrev pub IsQuiet : List Told → Type 0
IsQuiet told = (x : Id) (m : Records) → told_by x told m ≡ m

-- one tells just what another does
abbrev pub TellSame : List Told → List Told → Type 0
TellSame told new = (x : Id) (m : Records) → told_by x new m ≡ told_by x told m

-- where nothing is in doubt, the file has the records of its account
pub sure_records : (a : Account) (m : Records) → a.given ≡ None → MayHave a m → a.records ≡ m
sure_records a m sure (inl is) = is
sure_records a m sure (inr is) = let clash : ◌≡◌ {A = Option Records} None (Some m) = sym sure ∙ is in let no : ⊥ = cc in absurd no

-- while the records are in doubt, no unsettled branch has changed the file
abbrev pub IsStill : Account → List LiveChanges → Type 0
IsStill a ls = (m : Records) → a.given ≡ Some m → ls ≡ []

pub sure_still : (a : Account) (ls : List LiveChanges) → a.given ≡ None → IsStill a ls
sure_still a ls sure m is = let clash : ◌≡◌ {A = Option Records} None (Some m) = sym sure ∙ is in let no : ⊥ = cc in absurd no

-- of this branch nothing is told, and it has left nothing
abbrev pub IsUntold : Account → Id → Type 0
IsUntold a x = ((m : Records) → told_by x a.told m ≡ m) × (list_any (same_id x) a.left ≡ false)

-- Lines.

module _ (node : List ℕ) where
  pub commits_append : (xs ys : List Line) (a : Account) → commits_here node (xs ++ ys) a ≡ commits_here node ys (commits_here node xs a)
  commits_append [] ys a = refl
  commits_append (line.Committed tid serial moment ∷ xs) ys a = commits_append xs ys (left_by node serial a)
  commits_append (line.LastCommitted tid serial moment ∷ xs) ys a = commits_append xs ys (left_by node serial a)
  commits_append (other ∷ xs) ys a = commits_append xs ys a

  pub commits_plain : (ls : List Line) (a : Account) → ArePlain ls → commits_here node ls a ≡ a
  commits_plain [] a h = refl
  commits_plain (line.Committed tid serial moment ∷ ls) a h = let none : true ≡ false = sym h.0 in let never : ⊥ = cc in absurd never
  commits_plain (line.LastCommitted tid serial moment ∷ ls) a h = let none : true ≡ false = sym h.0 in let never : ⊥ = cc in absurd never
  commits_plain (other ∷ ls) a h = commits_plain ls a h.1

  -- the account once the last settlement of a disk is shown
  abbrev pub last_left : Option Settlement → Account → Account
  last_left None a = a
  last_left (Some s) a = elim s.outcome [ Commit ↦ left_by node s.serial a | Abort ↦ a ]

  -- a boot shows it
  pub commits_last : (n : Node) (a : Account) → commits_here node (last_lines n) a ≡ last_left n.durable.last a
  commits_last n a = go n.durable.last
    where
      lasts : (s : Settlement) (o : Outcome) (r : Option Reason) →
          commits_here node (elim o as (λ x. List Line) [ Commit ↦ line.LastCommitted s.tid s.serial s.moment ∷ [] | Abort ↦ elim r as (λ x. List Line) [ Some reason ↦ line.LastAborted s.tid s.serial reason s.moment ∷ [] | None ↦ [] ] ]) a ≡
          (elim o as (λ x. Account) [ Commit ↦ left_by node s.serial a | Abort ↦ a ])
      lasts s Commit r = refl
      lasts s Abort (Some reason) = refl
      lasts s Abort None = refl

      go : (o : Option Settlement) → commits_here node (elim o as (λ x. List Line) [ Some s ↦ last_line s | None ↦ [] ]) a ≡ last_left o a
      go (Some s) = lasts s s.outcome s.reason
      go None = refl

  -- Leaving.

  -- a branch of another node leaves nothing
  pub left_beside : (x : Id) (a : Account) → (x.node ≡ node → ⊥) → left_by node x a ≡ a
  left_beside x a other = ap (λ b. if b then (if list_any (same_id x) a.left then a else record a { records = told_by x a.told a.records; left = x ∷ a.left }) else a) (false_from_ne_true _ (λ t. other ((bytes_eq-Decides x.node node).0 t)))

  -- one of this node leaves what it set, unless it has left it
  pub left_own : (x : Id) (a : Account) → x.node ≡ node → left_by node x a ≡ (if list_any (same_id x) a.left then a else record a { records = told_by x a.told a.records; left = x ∷ a.left })
  left_own x a own = ap (λ b. if b then (if list_any (same_id x) a.left then a else record a { records = told_by x a.told a.records; left = x ∷ a.left }) else a) ((bytes_eq-Decides x.node node).1 own)

  pub left_first : (x : Id) (a : Account) → x.node ≡ node → list_any (same_id x) a.left ≡ false → left_by node x a ≡ record a { records = told_by x a.told a.records; left = x ∷ a.left }
  left_first x a own e = left_own x a own ∙ ap (λ b. if b then a else record a { records = told_by x a.told a.records; left = x ∷ a.left }) e

  pub left_again : (x : Id) (a : Account) → list_any (same_id x) a.left ≡ true → left_by node x a ≡ a
  left_again x a e = go (bytes_eq x.node node)
    where
      go : (b : Bool) → (if b then (if list_any (same_id x) a.left then a else record a { records = told_by x a.told a.records; left = x ∷ a.left }) else a) ≡ a
      go true = ap (λ b. if b then a else record a { records = told_by x a.told a.records; left = x ∷ a.left }) e
      go false = refl

  -- then it has
  pub left_is : (x : Id) (a : Account) → x.node ≡ node → list_any (same_id x) (left_by node x a).left ≡ true
  left_is x a own = ap (λ (b : Account). list_any (same_id x) b.left) (left_own x a own) ∙ go (list_any (same_id x) a.left) refl
    where
      go : (b : Bool) → list_any (same_id x) a.left ≡ b → list_any (same_id x) (if b then a else record a { records = told_by x a.told a.records; left = x ∷ a.left }).left ≡ true
      go true t = t
      go false t = rw (id_itself x) refl

  -- and what is told stays
  pub left_told : (x : Id) (a : Account) → (left_by node x a).told ≡ a.told
  left_told x a = go (bytes_eq x.node node) (list_any (same_id x) a.left)
    where
      go : (b c : Bool) → (if b then (if c then a else record a { records = told_by x a.told a.records; left = x ∷ a.left }) else a).told ≡ a.told
      go true true = refl
      go true false = refl
      go false c = refl

  -- and so does what is in doubt
  pub left_given : (x : Id) (a : Account) → (left_by node x a).given ≡ a.given
  left_given x a = go (bytes_eq x.node node) (list_any (same_id x) a.left)
    where
      go : (b c : Bool) → (if b then (if c then a else record a { records = told_by x a.told a.records; left = x ∷ a.left }) else a).given ≡ a.given
      go true true = refl
      go true false = refl
      go false c = refl

  pub last_given : (o : Option Settlement) (a : Account) → (last_left o a).given ≡ a.given
  last_given None a = refl
  last_given (Some s) a = go s.outcome
    where
      go : (c : Outcome) → (elim c as (λ x. Account) [ Commit ↦ left_by node s.serial a | Abort ↦ a ]).given ≡ a.given
      go Commit = left_given s.serial a
      go Abort = refl

  -- and the file has what it left on top, where that is nothing while there is doubt
  pub left_may : (x : Id) (a : Account) (m : Records) → x.node ≡ node → list_any (same_id x) a.left ≡ false → (a.given ≡ Some m → told_by x a.told m ≡ m) → MayHave a m → MayHave (left_by node x a) (told_by x a.told m)
  left_may x a m own e none may = subst (λ (b : Account). MayHave b (told_by x a.told m)) (sym (left_first x a own e)) (elim may [ inl is ↦ inl (ap (told_by x a.told) is) | inr is ↦ inr (is ∙ ap (λ r. Some r) (sym (none is))) ])

  -- who has left, before and besides
  pub left_others : (x y : Id) (a : Account) → same_id y x ≡ false → list_any (same_id y) a.left ≡ false → list_any (same_id y) (left_by node x a).left ≡ false
  left_others x y a other none = go (bytes_eq x.node node) (list_any (same_id x) a.left)
    where
      go : (b c : Bool) → list_any (same_id y) (if b then (if c then a else record a { records = told_by x a.told a.records; left = x ∷ a.left }) else a).left ≡ false
      go true true = none
      go true false = rw other none
      go false c = none

  -- that the last settlement is shown
  abbrev pub IsShownBy : Option Settlement → List Id → Type 0
  IsShownBy None left = Unit {0}
  IsShownBy (Some s) left = elim s.outcome [ Commit ↦ list_any (same_id s.serial) left ≡ true | Abort ↦ Unit {0} ]

  pub shown_left : (last : Option Settlement) (a : Account) → IsShownBy last a.left → last_left last a ≡ a
  shown_left None a h = refl
  shown_left (Some s) a h = go s.outcome h
    where
      go : (o : Outcome) → (elim o as (λ x. Type 0) [ Commit ↦ list_any (same_id s.serial) a.left ≡ true | Abort ↦ Unit {0} ]) → (elim o [ Commit ↦ left_by node s.serial a | Abort ↦ a ]) ≡ a
      go Commit k = left_again s.serial a k
      go Abort k = refl

  pub left_shown : (last : Option Settlement) (a : Account) → ((s : Settlement) → last ≡ Some s → s.serial.node ≡ node) → IsShownBy last (last_left last a).left
  left_shown None a own = tt
  left_shown (Some s) a own = go s.outcome
    where
      go : (o : Outcome) → elim o as (λ x. Type 0) [ Commit ↦ list_any (same_id s.serial) (elim o as (λ x. Account) [ Commit ↦ left_by node s.serial a | Abort ↦ a ]).left ≡ true | Abort ↦ Unit {0} ]
      go Commit = left_is s.serial a (own s refl)
      go Abort = tt

  pub last_told : (last : Option Settlement) (a : Account) → (last_left last a).told ≡ a.told
  last_told None a = refl
  last_told (Some s) a = go s.outcome
    where
      go : (o : Outcome) → (elim o as (λ x. Account) [ Commit ↦ left_by node s.serial a | Abort ↦ a ]).told ≡ a.told
      go Commit = left_told s.serial a
      go Abort = refl

  -- the same is told in other words
  pub last_same : (last : Option Settlement) (a : Account) (told : List Told) (m : Records) → TellSame a.told told → MayHave (last_left last a) m → MayHave (last_left last (record a { told = told })) m
  last_same None a told m same may = may
  last_same (Some s) a told m same may = go s.outcome (bytes_eq s.serial.node node) (list_any (same_id s.serial) a.left) may
    where
      go : (o : Outcome) (b c : Bool) →
          MayHave (elim o as (λ x. Account) [ Commit ↦ (if b then (if c then a else record a { records = told_by s.serial a.told a.records; left = s.serial ∷ a.left }) else a) | Abort ↦ a ]) m →
          MayHave (elim o as (λ x. Account) [ Commit ↦ (if b then (if c then record a { told = told } else record a { records = told_by s.serial told a.records; told = told; left = s.serial ∷ a.left }) else record a { told = told }) | Abort ↦ record a { told = told } ]) m
      go Commit true true k = k
      go Commit true false k = elim k [ inl is ↦ inl (same s.serial a.records ∙ is) | inr is ↦ inr is ]
      go Commit false c k = k
      go Abort b c k = k

-- What an earlier run left.

pub sets_apply : (cs : List Change) (m : Records) → with_sets (map (λ c. (c.key, c.after)) cs) m ≡ applied cs m
sets_apply [] m = refl
sets_apply (c ∷ cs) m = ap (λ k. set_key k c.key c.after) (sets_apply cs m)

pub untold_left : (x : Id) (ls : List LiveChanges) (m : Records) → AllByRecursion (λ (l : LiveChanges). same_id x l.serial ≡ false) ls → told_by x (map left_sets ls) m ≡ m
untold_left x [] m h = refl
untold_left x (l ∷ ls) m h = ap (λ b. if b then with_sets (map (λ c. (c.key, c.after)) l.changes) (told_by x (map left_sets ls) m) else told_by x (map left_sets ls) m) h.0 ∙ untold_left x ls m h.1

-- branches with changes of a file are told of in its opening
pub opening_tells : (x : Id) (ls : List LiveChanges) (m : Records) → SerialsDiffer ls → told_by x (map left_sets ls) m ≡ applied (changes_by x ls) m
opening_tells x [] m d = refl
opening_tells x (l ∷ ls) m d = go (same_id x l.serial) refl (opening_tells x ls m d.1)
  where
    go : (b : Bool) → same_id x l.serial ≡ b → told_by x (map left_sets ls) m ≡ applied (changes_by x ls) m →
        (if b then with_sets (map (λ c. (c.key, c.after)) l.changes) (told_by x (map left_sets ls) m) else told_by x (map left_sets ls) m) ≡ applied (if b then l.changes else changes_by x ls) m
    go true t more = ap (with_sets (map (λ c. (c.key, c.after)) l.changes)) (untold_left x ls m (subst (λ y. AllByRecursion (λ (k : LiveChanges). same_id y k.serial ≡ false) ls) (sym (id_is x l.serial t)) d.0)) ∙ sets_apply l.changes m
    go false t more = more

-- Histories.

pub history_settled : (file : List ℕ) (s : Settlement) (fs : List (Option File)) → history_in file (map (option_map (settled_file s)) fs) ≡ settled_at s.serial s.outcome s.moment (history_in file fs)
history_settled file s fs = ap history_of (mapped_file file (settled_file s) fs (λ f. refl)) ∙ go (find_file file fs)
  where
    go : (o : Option File) → history_of (option_map (settled_file s) o) ≡ settled_at s.serial s.outcome s.moment (history_of o)
    go (Some f) = refl
    go None = refl

pub none_settled : (file : List ℕ) (s : Settlement) (fs : List (Option File)) → find_file file (map (option_map (settled_file s)) fs) ≡ None → find_file file fs ≡ None
none_settled file s fs e = go (find_file file fs) (sym (mapped_file file (settled_file s) fs (λ f. refl)) ∙ e)
  where
    go : (o : Option File) → option_map (settled_file s) o ≡ None → o ≡ None
    go (Some f) k = let none : ⊥ = cc in absurd none
    go None k = refl

-- where no branch is unsettled, a settlement leaves none
pub still_settled : (file : List ℕ) (s : Settlement) (fs : List (Option File)) → (history_in file fs).live ≡ [] → (history_in file (map (option_map (settled_file s)) fs)).live ≡ []
still_settled file s fs e = ap (λ (h : History). h.live) (history_settled file s fs) ∙ ap (λ (ls : List LiveChanges). (settled_with s.serial s.outcome s.moment (changes_by s.serial ls) (history_in file fs)).live) e ∙ e

-- a change of a file under which these of its history stay
pub history_kept : {A : Type 0} (part : History → A) (file other : List ℕ) (change : File → File) (fs : List (Option File)) → ((f : File) → (change f).name ≡ f.name) → ((f : File) → part (change f).history ≡ part f.history) →
    part (history_in file (with_file other change fs)) ≡ part (history_in file fs)
history_kept part file other change fs named same = ap (λ o. part (history_of o)) (file_after file other change fs named) ∙ go (bytes_eq other file) (find_file file fs)
  where
    go : (b : Bool) (o : Option File) → part (history_of (if b then option_map change o else o)) ≡ part (history_of o)
    go true (Some f) = same f
    go true None = refl
    go false o = refl

-- a change of another file
pub history_other : (file other : List ℕ) (change : File → File) (fs : List (Option File)) → ((f : File) → (change f).name ≡ f.name) → bytes_eq other file ≡ false → history_in file (with_file other change fs) ≡ history_in file fs
history_other file other change fs named apart = ap history_of (file_after file other change fs named ∙ ap (λ b. if b then option_map change (find_file file fs) else find_file file fs) apart)

-- and of this one
pub history_here : (file : List ℕ) (change : File → File) (fs : List (Option File)) (f : File) → ((f : File) → (change f).name ≡ f.name) → find_file file fs ≡ Some f → history_in file (with_file file change fs) ≡ (change f).history
history_here file change fs f named found =
    ap history_of (file_after file file change fs named ∙ ap (λ b. if b then option_map change (find_file file fs) else find_file file fs) ((bytes_eq-Decides file file).1 refl) ∙ ap (option_map change) found)

pub history_placed : (file : List ℕ) (f : File) (fs : List (Option File)) (place : ℕ) → free_place fs ≡ Some place → find_file f.name fs ≡ None → history_in file (slice_set fs place (Some f)) ≡ (if bytes_eq file f.name then f.history else history_in file fs)
history_placed file f fs place free none = ap history_of (placed_file file f fs place free none) ∙ go (bytes_eq file f.name)
  where
    go : (b : Bool) → history_of (if b then Some f else find_file file fs) ≡ (if b then f.history else history_in file fs)
    go true = refl
    go false = refl
