-- What a volume tells of the changes of a branch and of the next moment, and what the world does.
use Rattle.std.proofs.Common.{◌≡◌, ℕ, ◌+◌, List, [], ◌∷◌, Bool, true, false, Option, if◌then◌else◌, length, map, refl, sym, ◌∙◌, ap, arith, append-nil}
use Rattle.std.specs.Prelude.{nat_le}
use Rattle.std.specs.List.{AllByRecursion}
use Rattle.std.proofs.lemmas.List.Concat.{flat_map-cons}
use Rattle.file_base.specs.declared.head.FileHead.{FileHead}
use Rattle.vms_model.specs.Ids.{Id}
use Rattle.journal_model.specs.Entries.{Entry, IsEntry, spelling}
use Rattle.volume_format.specs.declared.home.Home.{Home}
use Rattle.recovery_units.specs.unit_entries.Reading.{changes_of, is_change_of, placed}
use Rattle.recovery_units.specs.unit_entries.Reading as reading
use Rattle.unit_laws.specs.Journal.{ChangeEntry, JournalEntry, PreparedEntry, SettledEntry, entry_size}
use Rattle.rms_units.specs.unit_journal.Settling as journal
use Rattle.recovery_units.specs.run_model.World.{Node, next_moment}
use Rattle.recovery_units.specs.volume_model.Entries.{AreEntries, IsFileOf, entry_for}
use Rattle.recovery_units.specs.volume_model.Homes.{HasHome}
use Rattle.recovery_units.proofs.volume_model.EntryLemmas.{entries_follow}
use Rattle.recovery_units.specs.State.{is_change_by, positions_of}

-- The changes of a branch begin on the disk where they begin in the world's journal.

pub entry_long : (heads : List (Option FileHead)) (e : JournalEntry) (d : Entry) (f : ℕ) → IsFileOf heads e f → d ≡ entry_for f e → IsEntry d → length (spelling d) ≡ entry_size e
entry_long heads e d f of is entry =
    let all = entries_follow.sized heads (e ∷ []) (d ∷ []) (f, of, is, tt) (entry, tt) in
    let one = ap length (flat_map-cons spelling d [] ∙ append-nil (spelling d)) in
    omega (arith, all, one)

change_alike : (x : Id) (f : ℕ) (e : JournalEntry) → is_change_of x (entry_for f e) ≡ is_change_by x e
change_alike x f (ChangeEntry tid by file key before) = refl
change_alike x f (PreparedEntry tid by) = refl
change_alike x f (SettledEntry tid by outcome moment) = refl

pub positions_alike : (heads : List (Option FileHead)) (x : Id) (p : ℕ) (es : List JournalEntry) (ds : List Entry) → AreEntries heads es ds → AllByRecursion IsEntry ds → reading.positions_of x (placed p ds) ≡ positions_of x p es
positions_alike heads x p [] [] are all = refl
positions_alike heads x p [] (d ∷ ds) are all = absurd are
positions_alike heads x p (e ∷ es) [] are all = absurd are
positions_alike heads x p (e ∷ es) (d ∷ ds) are all =
    let long = entry_long heads e d are.0 are.1 are.2 all.0 in
    let test : is_change_of x d ≡ is_change_by x e = ap (is_change_of x) are.2 ∙ change_alike x are.0 e in
    let rest : reading.positions_of x (placed (p + length (spelling d)) ds) ≡ positions_of x (p + entry_size e) es =
    ap (λ (k : ℕ). reading.positions_of x (placed (p + k) ds)) long ∙ positions_alike heads x (p + entry_size e) es ds are.3 all.1 in
    go (is_change_of x d) ∙ (λ i. if test i then p ∷ rest i else rest i)
  where
    go : (b : Bool) → map (λ (y : ℕ × Entry). y.0) (if b then (p, d) ∷ changes_of x (placed (p + length (spelling d)) ds) else changes_of x (placed (p + length (spelling d)) ds))
        ≡ (if b then p ∷ reading.positions_of x (placed (p + length (spelling d)) ds) else reading.positions_of x (placed (p + length (spelling d)) ds))
    go true = refl
    go false = refl

-- the moment of a node's next settlement is that of its volume's
pub next_alike : (clock : ℕ) (h : Home) (n : Node) → HasHome h n → n.clock ≡ clock → journal.next_moment clock h ≡ next_moment n
next_alike clock h n has same = λ i. if nat_le (sym same i) (sym has.greatest i + 1) then sym has.greatest i + 1 else sym same i
