-- Changes of a branch that is committed at once keep what a restart needs.
use Rattle.std.proofs.Common.{◌≡◌, ℕ, List, [], ◌∷◌, ◌++◌, map, Bool, true, false, Option, Some, None, if◌then◌else◌, refl, sym, ◌∙◌, ap, subst}
use Rattle.std.specs.Prelude.{is_some}
use Rattle.std.specs.List.{AllByRecursion}
use Rattle.std.specs.Str.{bytes_eq}
use Rattle.std.proofs.lemmas.Bool.{both_ways, false_from_ne_true}
use Rattle.vms_model.specs.Ids.{Id}
use Rattle.vms_model.specs.Keys.{Key}
use Rattle.vms_model.specs.Transactions.{Commit}
use Rattle.run_model.specs.records_model.Records.{Change, Found}
use Rattle.run_model.specs.records_model.History.{History, LiveChanges, same_id, changes_by, changed_with, current, settled_at, settled_with, with_change, with_changes, without}
use Rattle.run_model.specs.unit_laws.Units.{SerialsDiffer, has_changes, is_free}
use Rattle.run_model.specs.unit_laws.Journal.{Journal, find_unit, note_of, trimmed}
use Rattle.run_model.specs.unit_laws.JournalLaws.{HasNotes, is_unit}
use Rattle.run_model.proofs.unit_laws.LiveLemmas.{by_changes}
use Rattle.run_model.proofs.unit_laws.HistoryLaws.{changes_more, commits_one}
use Rattle.run_model.proofs.unit_laws.TrimLemmas.{trim_keeps_units}
use Rattle.run_model.specs.Locks.{is_locked}
use Rattle.run_model.specs.World.{File, Settlement, directly_changed, find_file, with_file}
use Rattle.world_laws.specs.Restarts.{AllNoted, DirectsCanRestart}
use Rattle.world_laws.proofs.IdLemmas.{id_is, id_itself}
use Rattle.world_laws.proofs.KeepingLemmas.{found_here, found_behind}

-- A journal without the entries before the earliest unsettled change.

all_as : (P Q : LiveChanges → Type 0) (ls : List LiveChanges) → ((l : LiveChanges) → P l → Q l) → AllByRecursion P ls → AllByRecursion Q ls
all_as P Q [] f h = tt
all_as P Q (l ∷ ls) f h = (f l h.0, all_as P Q ls f h.1)

pub unit_before : (j : Journal) (x : Id) → is_unit x (trimmed j) ≡ true → is_unit x j ≡ true
unit_before j x u = subst (λ us. is_some (find_unit x us) ≡ true) (trim_keeps_units j).units u

pub trim_noted : (j : Journal) (name : List ℕ) (h : History) → HasNotes j name h → HasNotes (trimmed j) name h
trim_noted j name h n = record {
  notes = λ x u. (trim_keeps_units j).notes x name (unit_before j x u) ∙ n.notes x (unit_before j x u);
  units = all_as (λ l. is_unit l.serial j ≡ true) (λ l. is_unit l.serial (trimmed j) ≡ true) h.live (λ l u. subst (λ us. is_some (find_unit l.serial us) ≡ true) (sym (trim_keeps_units j).units) u) n.units;
  some = n.some;
  differ = n.differ;
  orderly = n.orderly;
}

pub trim_all : (j : Journal) (fs : List (Option File)) → AllNoted j fs → AllNoted (trimmed j) fs
trim_all j [] h = tt
trim_all j (None ∷ fs) h = trim_all j fs h
trim_all j (Some f ∷ fs) h = (trim_noted j f.name f.history h.0, trim_all j fs h.1)

-- A branch joins the unsettled ones and leaves them at once.

module _ (s : Id) where
  abbrev own : List Change → LiveChanges
  own cs = record { serial = s; changes = cs }

  -- it is none of these
  abbrev IsNone : List LiveChanges → Type 0
  IsNone ls = AllByRecursion (λ (l : LiveChanges). same_id s l.serial ≡ false) ls

  joins : (c : Change) (ls : List LiveChanges) → IsNone ls → with_change s c ls ≡ ls ++ own (c ∷ []) ∷ []
  joins c [] a = refl
  joins c (l ∷ ls) a = rw a.0 (ap (λ xs. l ∷ xs) (joins c ls a.1))

  adds : (c : Change) (cs : List Change) (ls : List LiveChanges) → IsNone ls → with_change s c (ls ++ own cs ∷ []) ≡ ls ++ own (c ∷ cs) ∷ []
  adds c cs [] a = rw (id_itself s) refl
  adds c cs (l ∷ ls) a = rw a.0 (ap (λ xs. l ∷ xs) (adds c cs ls a.1))

  adds_all : (c : Change) (cs : List Change) (ls : List LiveChanges) → IsNone ls → with_changes s (c ∷ cs) ls ≡ ls ++ own (c ∷ cs) ∷ []
  adds_all c [] ls a = joins c ls a
  adds_all c (d ∷ ds) ls a = ap (with_change s c) (adds_all d ds ls a) ∙ adds c (d ∷ ds) ls a

  leaves : (cs : List Change) (ls : List LiveChanges) → IsNone ls → without s (ls ++ own cs ∷ []) ≡ ls
  leaves cs [] a = rw (id_itself s) refl
  leaves cs (l ∷ ls) a = rw a.0 (ap (λ xs. l ∷ xs) (leaves cs ls a.1))

  pub live_same : (c : Change) (cs : List Change) (moment : ℕ) (h : History) → IsNone h.live → (settled_at s Commit moment (changed_with s (c ∷ cs) h)).live ≡ h.live
  live_same c cs moment h a =
      ap (λ ds. (settled_with s Commit moment ds (changed_with s (c ∷ cs) h)).live) (by_changes s (c ∷ cs) h.live)
      ∙ ap (without s) (adds_all c cs h.live a) ∙ leaves (c ∷ cs) h.live a

-- a branch that is no unit has no changes that are not settled
pub none_of : (j : Journal) (s : Id) (ls : List LiveChanges) → is_unit s j ≡ false → AllByRecursion (λ (l : LiveChanges). is_unit l.serial j ≡ true) ls → AllByRecursion (λ (l : LiveChanges). same_id s l.serial ≡ false) ls
none_of j s ls fresh h = all_as (λ l. is_unit l.serial j ≡ true) (λ l. same_id s l.serial ≡ false) ls
    (λ l u. false_from_ne_true _ (λ e. both_ways _ fresh (subst (λ x. is_unit x j ≡ true) (sym (id_is s l.serial e)) u))) h

direct_noted : (j : Journal) (name : List ℕ) (s : Id) (c : Change) (cs : List Change) (moment : ℕ) (h : History) → is_unit s j ≡ false → HasNotes j name h →
    AllByRecursion (λ (c : Change). is_free s h.live c.key ≡ true) (c ∷ cs) → Found (c ∷ cs) (current h) → HasNotes (trimmed j) name (settled_at s Commit moment (changed_with s (c ∷ cs) h))
direct_noted j name s c cs moment h fresh n free found =
    let same = sym (live_same s c cs moment h (none_of j s h.live fresh n.units)) in
    let base = trim_noted j name h n in
    record {
      notes = λ x u. base.notes x u ∙ ap (λ ls. map note_of (changes_by x ls)) same;
      units = subst (AllByRecursion (λ (l : LiveChanges). is_unit l.serial (trimmed j) ≡ true)) same base.units;
      some = subst (AllByRecursion (λ (l : LiveChanges). has_changes l.changes ≡ true)) same base.some;
      differ = subst SerialsDiffer same base.differ;
      orderly = (commits_one (changed_with s (c ∷ cs) h) s moment (changes_more h s (c ∷ cs) n.orderly free found).orderly).orderly;
    }

module _ (j : Journal) (tid serial : Id) (moment : ℕ) (file : List ℕ) (c : Change) (cs : List Change) (held : Key → Bool) (fresh : is_unit serial j ≡ false) where
  abbrev settled : Settlement
  settled = record { tid = tid; serial = serial; outcome = Commit; reason = None; moment = moment }

  abbrev AreFree : File → Type 0
  AreFree f = AllByRecursion (λ (c : Change). is_free serial f.history.live c.key ≡ true) (c ∷ cs) × Found (c ∷ cs) (current f.history)

  pub directs_noted : (fs : List (Option File)) → AllNoted j fs → ((f : File) → find_file file fs ≡ Some f → AreFree f) → AllNoted (trimmed j) (with_file file (directly_changed held settled (c ∷ cs)) fs)
  directs_noted [] h free = tt
  directs_noted (None ∷ fs) h free = directs_noted fs h free
  directs_noted (Some f ∷ fs) h free = go (bytes_eq file f.name) refl (λ t. directs_noted fs h.1 (λ g e. free g (found_behind file f g fs t e)))
    where
      go : (b : Bool) → bytes_eq file f.name ≡ b → (bytes_eq file f.name ≡ false → AllNoted (trimmed j) (with_file file (directly_changed held settled (c ∷ cs)) fs)) →
          AllNoted (trimmed j) (if b then Some (directly_changed held settled (c ∷ cs) f) ∷ fs else Some f ∷ with_file file (directly_changed held settled (c ∷ cs)) fs)
      go true t more = let k = free f (found_here file f fs t) in (direct_noted j f.name serial c cs moment f.history fresh h.0 k.0 k.1, trim_all j fs h.1)
      go false t more = (trim_noted j f.name f.history h.0, more t)

pub directs_can_restart : DirectsCanRestart
directs_can_restart d v file [] tid serial moment h m = let s : has_changes [] ≡ true = m.some in let none : ⊥ = cc in absurd none
directs_can_restart d v file (c ∷ cs) tid serial moment h m = directs_noted d.units tid serial moment file c cs (is_locked v.locks file) m.fresh d.directory h (λ f e. (m.free f e, m.found f e))
