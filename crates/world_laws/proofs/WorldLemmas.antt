-- What holds of each node in each world of a legal transcript.
use Rattle.std.proofs.Common.{◌≡◌, ℕ, zero, suc, List, [], ◌∷◌, Bool, true, false, Option, Some, None, if◌then◌else◌, refl, sym, ◌∙◌, ap, subst, arith}
use Rattle.std.specs.Prelude.{is_some, slice_index_or}
use Rattle.std.specs.Str.{bytes_eq}
use Rattle.std.proofs.lemmas.Bool.{both_ways}
use Rattle.std.proofs.lemmas.Slice.Eq.{bytes_eq-Decides}
use Rattle.vms_model.specs.Ids.{Id}
use Rattle.run_model.specs.unit_laws.Journal.{RecoveryUnit, find_unit, is_settled_in, units_in}
use Rattle.run_model.specs.unit_laws.JournalLaws.{is_unit}
use Rattle.run_model.proofs.unit_laws.NoteLemmas.{unchanged_has_notes}
use Rattle.run_model.specs.commit_protocol.Table.{branch_serials}
use Rattle.run_model.specs.commit_protocol.World.{In}
use Rattle.run_model.specs.World.{AreUnitsOf, File, HavePlainEnds, IsLogInOrder, IsOpening, IsPlainCarried, Node, find_file, find_node, opened, serials_of, TellsUnits, Shared, Act}
use Rattle.run_model.specs.Transcript.{AreOpening}
use Rattle.world_laws.specs.Restarts.{AllNoted, CanRestart, HasNoName, NamesDiffer}
use Rattle.world_laws.specs.Running.{no_history}
use Rattle.world_laws.specs.Worlds.{BranchesAreUnsettled, ChangesAreHeld, ChangesFind, InAllWorlds, JournalsTellUnits, LocksAreBranches, LogsAreInOrder, NamesAreDifferent, TablesAreTold, UnitsAreBranches, UnitsNameFiles, WorldsCanRestart}
use Rattle.world_laws.proofs.KeptImages.{all_keep}
use Rattle.world_laws.proofs.MomentLemmas.{kept_by}
use Rattle.world_laws.proofs.DiskLemmas.{not_found, place_of}
use Rattle.world_laws.proofs.FindLemmas.{some_is}
use Rattle.world_laws.proofs.FoundLemmas.{changes_found}
use Rattle.world_laws.proofs.HeldLemmas.{noted_at}
use Rattle.world_laws.proofs.Induction.{legal_kept}
use Rattle.world_laws.proofs.OperationLemmas.{held_of}
use Rattle.world_laws.proofs.PlainLemmas.{plain_file}
use Rattle.world_laws.proofs.TableLemmas.{in_serials, of_serial, same_serials}
use Rattle.world_laws.specs.Nodes.{IsKeptNode, IsPlain, IsUp}

-- The opening.

-- the file at a place is found by its name, where names differ
place_found : (fs : List (Option File)) (place : ℕ) (f : File) → NamesDiffer fs → slice_index_or fs place None ≡ Some f → find_file f.name fs ≡ Some f
place_found [] place f d e = let none : ⊥ = cc in absurd none
place_found (None ∷ fs) zero f d e = let none : ⊥ = cc in absurd none
place_found (None ∷ fs) (suc place) f d e = place_found fs place f d e
place_found (Some g ∷ fs) zero f d e = let same = some_is g f e in subst (λ (w : File). find_file w.name (Some g ∷ fs) ≡ Some w) same (ap (λ b. if b then Some g else find_file g.name fs) ((bytes_eq-Decides g.name g.name).1 refl))
place_found (Some g ∷ fs) (suc place) f d e = go (bytes_eq f.name g.name) refl (place_found fs place f d.1 e)
  where
    there : (fs : List (Option File)) (place : ℕ) → slice_index_or fs place None ≡ Some f → HasNoName f.name fs → ⊥
    there [] place k h = let none : ⊥ = cc in none
    there (None ∷ fs) zero k h = let none : ⊥ = cc in none
    there (None ∷ fs) (suc place) k h = there fs place k h
    there (Some x ∷ fs) zero k h = h.0 (ap (λ (w : File). w.name) (sym (some_is x f k)))
    there (Some x ∷ fs) (suc place) k h = there fs place k h.1

    go : (b : Bool) → bytes_eq f.name g.name ≡ b → find_file f.name fs ≡ Some f → ◌≡◌ {A = Option File} (if b then Some g else find_file f.name fs) (Some f)
    go true t more = absurd (there fs place e (subst (λ y. HasNoName y fs) (sym ((bytes_eq-Decides f.name g.name).0 t)) d.0))
    go false t more = more

names_of : (fs : List (Option File)) → ((p q : ℕ) (f g : File) → slice_index_or fs p None ≡ Some f → slice_index_or fs q None ≡ Some g → f.name ≡ g.name → p ≡ q) → NamesDiffer fs
names_of [] h = tt
names_of (None ∷ fs) h = names_of fs (λ p q f g e k same. suc_is p q (h (suc p) (suc q) f g e k same))
  where
    suc_is : (p q : ℕ) → suc p ≡ suc q → p ≡ q
    suc_is p q e = omega (arith, e)
names_of (Some x ∷ fs) h = (unnamed fs (λ q g e same. apart q (h 0 (suc q) x g refl e same)), names_of fs (λ p q f g e k same. suc_is p q (h (suc p) (suc q) f g e k same)))
  where
    suc_is : (p q : ℕ) → suc p ≡ suc q → p ≡ q
    suc_is p q e = omega (arith, e)

    apart : (q : ℕ) → 0 ≡ suc q → ⊥
    apart q e = omega (arith, e)

    unnamed : (fs : List (Option File)) → ((q : ℕ) (g : File) → slice_index_or fs q None ≡ Some g → x.name ≡ g.name → ⊥) → HasNoName x.name fs
    unnamed [] k = tt
    unnamed (None ∷ fs) k = unnamed fs (λ q g e. k (suc q) g e)
    unnamed (Some y ∷ fs) k = (k 0 y refl, unnamed fs (λ q g e. k (suc q) g e))

noted_of : (n : Node) (fs : List (Option File)) → ((place : ℕ) (f : File) → slice_index_or fs place None ≡ Some f → TellsUnits n.durable.units f) → AllNoted n.durable.units fs
noted_of n [] h = tt
noted_of n (None ∷ fs) h = noted_of n fs (λ p f e. h (suc p) f e)
noted_of n (Some f ∷ fs) h = ((h 0 f refl).notes, noted_of n fs (λ p g e. h (suc p) g e))

plain_of_all : (fs : List (Option File)) → HavePlainEnds fs → (file : List ℕ) (f : File) → find_file file fs ≡ Some f → IsPlain f.history
plain_of_all [] h file f e = let none : ⊥ = cc in absurd none
plain_of_all (None ∷ fs) h file f e = plain_of_all fs h file f e
plain_of_all (Some g ∷ fs) h file f e = go (bytes_eq file g.name) e (plain_of_all fs h.1 file f)
  where
    go : (b : Bool) → ◌≡◌ {A = Option File} (if b then Some g else find_file file fs) (Some f) → (find_file file fs ≡ Some f → IsPlain f.history) → IsPlain f.history
    go true k more = subst (λ (w : File). IsPlain w.history) (some_is g f k) (plain_file g h.0)
    go false k more = more k

carries_of_all : (fs : List (Option File)) → HavePlainEnds fs → (file : List ℕ) (f : File) → find_file file fs ≡ Some f → IsPlainCarried f.carried
carries_of_all [] h file f e = let none : ⊥ = cc in absurd none
carries_of_all (None ∷ fs) h file f e = carries_of_all fs h file f e
carries_of_all (Some g ∷ fs) h file f e = go (bytes_eq file g.name) e (carries_of_all fs h.1 file f)
  where
    go : (b : Bool) → ◌≡◌ {A = Option File} (if b then Some g else find_file file fs) (Some f) → (find_file file fs ≡ Some f → IsPlainCarried f.carried) → IsPlainCarried f.carried
    go true k more = subst (λ (w : File). IsPlainCarried w.carried) (some_is g f k) h.0.carried
    go false k more = more k

pub opening_kept : (n : Node) (s : Shared) → IsOpening n → IsKeptNode s n
opening_kept n s o = record {
  disk = record {
    filed = record {
      can = noted_of n n.durable.directory o.units.tells;
      names = names_of n.durable.directory o.units.names;
      reached = o.units.reached;
      plain = plain_of_all n.durable.directory o.ends;
      carries = carries_of_all n.durable.directory o.ends;
      moments = λ file f e. kept_by n.name n.durable.boot n.durable.greatest f (all_keep n n.durable.directory o.images file f e);
      images = all_keep n n.durable.directory o.images;
      one = λ file f e. let p = place_of file n.durable.directory f e in (o.units.tells p.0 f p.1).end;
    };
    log = o.log;
    unnoted = λ name e. unchanged_has_notes n.durable.units name no_history refl (o.named name e);
    few = o.few_locks;
  };
  way = λ act e. let clash : ◌≡◌ {A = Option Act} None (Some act) = sym o.under_way ∙ e in let none : ⊥ = cc in absurd none;
  runs = λ e. absurd (both_ways n.up o.down e);
  unused = λ e. (o.down, o.under_way);
}

pub each_opening : (ns : List Node) → AreOpening ns → (node : List ℕ) (n : Node) → find_node node ns ≡ Some n → IsOpening n
each_opening [] h node n e = let none : ⊥ = cc in absurd none
each_opening (m ∷ ns) h node n e = go (bytes_eq node m.name) e (each_opening ns h.1 node n)
  where
    go : (b : Bool) → ◌≡◌ {A = Option Node} (if b then Some m else find_node node ns) (Some n) → (find_node node ns ≡ Some n → IsOpening n) → IsOpening n
    go true k more = subst IsOpening (some_is m n k) h.0
    go false k more = more k

-- what follows for each node holds in all worlds
in_all_worlds : (P : Node → Type 0) → ((s : Shared) (n : Node) → IsKeptNode s n → P n) → InAllWorlds P
in_all_worlds P f nodes disks es closing opens legal node n found =
    f closing.shared n (legal_kept (opened nodes disks) es closing (λ name m e. opening_kept m (opened nodes disks).shared (each_opening nodes opens name m e)) legal node n found)

-- The laws.

pub worlds_can_restart : WorldsCanRestart
worlds_can_restart = in_all_worlds (λ n. CanRestart n.durable) (λ s n h. h.disk.filed.can)

pub logs_are_in_order : LogsAreInOrder
logs_are_in_order = in_all_worlds IsLogInOrder (λ s n h. h.disk.log)

pub names_are_different : NamesAreDifferent
names_are_different = in_all_worlds (λ n. NamesDiffer n.durable.directory) (λ s n h. h.disk.filed.names)

pub tables_are_told : TablesAreTold
tables_are_told = in_all_worlds _ (λ s n h up. ((h.runs up).0.table, (h.runs up).1))

pub changes_are_held : ChangesAreHeld
changes_are_held = in_all_worlds _ (λ s n h up file f found. held_of n file f found (h.runs up).0.running.held (noted_at n.durable.units file n.durable.directory f h.disk.filed.can found).differ)

unit_branch : (n : Node) (h : IsUp n) (x : Id) → is_unit x n.durable.units ≡ true → In x (serials_of n.volatile.branches)
unit_branch n h x u = go (find_unit x (units_in n.durable.units.entries)) refl u
  where
    go : (o : Option RecoveryUnit) → find_unit x (units_in n.durable.units.entries) ≡ o → is_some o ≡ true → In x (serials_of n.volatile.branches)
    go (Some v) e k = let r = h.table.branches x v e in subst (In x) (sym (same_serials n.volatile.branches)) (subst (λ y. In y (branch_serials n.volatile.branches)) r.serial (in_serials r.branch n.volatile.branches r.there))
    go None e k = let none : ⊥ = cc in absurd none

pub units_are_branches : UnitsAreBranches
units_are_branches = in_all_worlds _ (λ s n h up x u. unit_branch n (h.runs up).0 x u)

pub branches_are_unsettled : BranchesAreUnsettled
branches_are_unsettled = in_all_worlds _ (λ s n h up x i.
    let r = of_serial x n.volatile.branches (subst (In x) (same_serials n.volatile.branches) i) in
    subst (λ y. is_settled_in y n.durable.units.entries ≡ false) r.serial ((h.runs up).0.table.entries r.branch r.there).unsettled)

pub units_name_files : UnitsNameFiles
units_name_files = in_all_worlds _ (λ s n h up x name u none. ((h.runs up).0.running.unnoted name (not_found name n.durable.directory none)).notes x u)

pub locks_are_branches : LocksAreBranches
locks_are_branches = in_all_worlds _ (λ s n h up.
    let k = (h.runs up).0 in
    record {
      held = λ file f found. held_of n file f found k.running.held (noted_at n.durable.units file n.durable.directory f h.disk.filed.can found).differ;
      ends = λ file f found. (k.holding.files file f found).end;
      by = k.holding.by;
      few_branches = k.table.limits.table;
      few_locks = k.holding.few_locks;
    })

one_place : (fs : List (Option File)) (p q : ℕ) (f g : File) → NamesDiffer fs → slice_index_or fs p None ≡ Some f → slice_index_or fs q None ≡ Some g → f.name ≡ g.name → p ≡ q
one_place [] p q f g d e k same = let none : ⊥ = cc in absurd none
one_place (None ∷ fs) zero q f g d e k same = let none : ⊥ = cc in absurd none
one_place (None ∷ fs) (suc p) zero f g d e k same = let none : ⊥ = cc in absurd none
one_place (None ∷ fs) (suc p) (suc q) f g d e k same = ap suc (one_place fs p q f g d e k same)
one_place (Some x ∷ fs) zero zero f g d e k same = refl
one_place (Some x ∷ fs) zero (suc q) f g d e k same = absurd (there fs q k)
  where
    name : x.name ≡ g.name
    name = ap (λ (w : File). w.name) (some_is x f e) ∙ same

    at : (fs : List (Option File)) (q : ℕ) → HasNoName x.name fs → slice_index_or fs q None ≡ Some g → ⊥
    at [] q h j = let none : ⊥ = cc in none
    at (None ∷ fs) zero h j = let none : ⊥ = cc in none
    at (None ∷ fs) (suc q) h j = at fs q h j
    at (Some y ∷ fs) zero h j = h.0 (name ∙ ap (λ (w : File). w.name) (sym (some_is y g j)))
    at (Some y ∷ fs) (suc q) h j = at fs q h.1 j

    there : (gs : List (Option File)) (q : ℕ) → slice_index_or fs q None ≡ Some g → ⊥
    there gs q j = at fs q d.0 j
one_place (Some x ∷ fs) (suc p) zero f g d e k same = absurd (at fs p d.0 e)
  where
    at : (fs : List (Option File)) (q : ℕ) → HasNoName x.name fs → slice_index_or fs q None ≡ Some f → ⊥
    at [] q h j = let none : ⊥ = cc in none
    at (None ∷ fs) zero h j = let none : ⊥ = cc in none
    at (None ∷ fs) (suc q) h j = at fs q h j
    at (Some y ∷ fs) zero h j = h.0 (ap (λ (w : File). w.name) (some_is x g k) ∙ sym same ∙ ap (λ (w : File). w.name) (sym (some_is y f j)))
    at (Some y ∷ fs) (suc q) h j = at fs q h.1 j
one_place (Some x ∷ fs) (suc p) (suc q) f g d e k same = ap suc (one_place fs p q f g d.1 e k same)

pub journals_tell_units : JournalsTellUnits
journals_tell_units = in_all_worlds AreUnitsOf (λ s n h. record {
  tells = λ place f e.
      let found = place_found n.durable.directory place f h.disk.filed.names e in
      record { notes = noted_at n.durable.units f.name n.durable.directory f h.disk.filed.can found; end = h.disk.filed.one f.name f found };
  marked = λ up place f e. ((h.runs up).0.holding.files f.name f (place_found n.durable.directory place f h.disk.filed.names e)).marked;
  reached = h.disk.filed.reached;
  names = λ p q f g e k same. one_place n.durable.directory p q f g h.disk.filed.names e k same;
})

pub changes_find : ChangesFind
changes_find f op = changes_found f op
