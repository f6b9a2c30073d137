-- A read of the units is one of the world.
use Rattle.std.proofs.Common.{◌≡◌, ℕ, ◌+◌, ◌≤◌, List, [], ◌∷◌, Bool, false, not, Option, Some, None, length, nat_lt, refl, sym, ◌∙◌, ap, subst, arith}
use Rattle.std.proofs.lemmas.Bool.Decides.{nat_tests}
use Rattle.std.specs.Prelude.{option_map}
use Rattle.vms_model.specs.Limits.{change_limit}
use Rattle.file_base.specs.declared.head.FileHead.{FileHead}
use Rattle.file_base.specs.declared.head.Organization.{Organization}
use Rattle.volume_files.specs.record_files.Any.{reads_by}
use Rattle.transcript_model.specs.Lines as line
use Rattle.transcript_model.specs.Lines.{Line}
use Rattle.commit_protocol.specs.Table.{Branch}
use Rattle.vms_model.specs.Ids.{Id}
use Rattle.vms_model.specs.Keys.{Key}
use Rattle.volume.specs.State.{VolumeState}
use Rattle.unit_laws.specs.Journal.{RecoveryUnit, find_unit, units_in}
use Rattle.unit_table.specs.Units.{OpenUnit}
use Rattle.log_laws.specs.Slots.{Slots}
use Rattle.record_locks.specs.Locks as table
use Rattle.record_operations.specs.Asking.{read_file_in}
use Rattle.record_operations.specs.Causes.{Cause, cause_if, first_cause, NotForUnits}
use Rattle.record_operations.specs.Forms as form
use Rattle.record_operations.specs.declared.ops.ReadOp.{ReadOp}
use Rattle.record_operations.specs.declared.ops.ReadOp.TheVariants as read
use Rattle.recovery_units.specs.run_model.Answers.{free_journal, is_marked, journal_full, more_changes, more_locks, needs_unit, images_full}
use Rattle.recovery_units.specs.run_model.Operations.{changes_of, file_full, first_of, form_refused, free_buckets, keys_held, need_of, operation_answer, refused_if}
use Rattle.recovery_units.specs.run_model.World.{Act, AreUnitsOf, File, Holds, Node, acted, changes_made, find_file, next_id}
use Rattle.recovery_units.proofs.world_laws.FindLemmas.{found_serial}
use Rattle.recovery_units.proofs.world_laws.FewLemmas.{few_in}
use Rattle.unit_world.specs.directory_model.Files.{AreFiles, IsFile, head_at}
use Rattle.unit_world.proofs.directory_model.Places.{file_there}
use Rattle.recovery_units.specs.Calls as calls
use Rattle.recovery_units.specs.Calls.{IsAsked, IsAskedAlone, IsDone, IsSeen, alone_refused_after_reading, alone_refused_before_reading, cause_line, read_said, record_line, unit_act, unit_refused_after_reading, unit_refused_before_reading}
use Rattle.recovery_units.specs.State.{IsKept, UnitsState}
use Rattle.recovery_units.proofs.FormLemmas.{forms}
use Rattle.recovery_units.proofs.ReadLemmas.{kept_read}
use Rattle.unit_world.proofs.Found.{found_by}
use Rattle.rms_units.specs.Calls as rms
use Rattle.rms_units.specs.State as state
use Rattle.rms_units.specs.State.{IsInOrder}
use Rattle.node_units.specs.Seen.{seen}
use Rattle.node_units.proofs.Finding.{ReadsIn, reads_in}
use Rattle.node_units.proofs.Holding.{kept_holds, once_of}
use Rattle.node_units.proofs.Locking.{AreOnce}
use Rattle.node_units.proofs.Refusing.{marked_alike, more_alike}

-- Of a read.

pub changes_none : (file : File) (op : ReadOp) → changes_of file (read_said op) ≡ []
changes_none file (read.Get f key) = refl
changes_none file (read.Next f after) = refl

need_none : (file : File) (op : ReadOp) → need_of file (read_said op) ≡ 0
need_none file (read.Get f key) = refl
need_none file (read.Next f after) = refl

pub act_is : (b : Branch) (name : List ℕ) (file : File) (op : ReadOp) → unit_act b name file (read_said op) ≡ Holds b.key.serial name (keys_held file (read_said op))
act_is b name file (read.Get f key) = refl
act_is b name file (read.Next f after) = refl

pub alone_may : (file : File) (op : ReadOp) → needs_unit (read_said op) file ≡ None
alone_may file (read.Get f key) = refl
alone_may file (read.Next f after) = refl

pub below_none : (x : ℕ) → nat_lt x 0 ≡ false
below_none x = grind (arith, nat_tests)

not_below : (x y : ℕ) → y ≤ x → nat_lt x y ≡ false
not_below x y less = grind (arith, nat_tests)

pub first_none : (a b : Option Cause) → first_cause a b ≡ None → (a ≡ None) × (b ≡ None)
first_none None b e = (refl, e)
first_none (Some c) b e = let never : ⊥ = cc in absurd never

pub line_none : (o : Option Cause) (p : Option Line) → option_map cause_line o ≡ p → o ≡ None → p ≡ None
line_none o p is none = sym is ∙ ap (option_map cause_line) none

-- no quota refuses it but that of locks
pub changes_few : (n : Node) (b : Branch) → ((serial : Id) (u : RecoveryUnit) → find_unit serial (units_in n.durable.units.entries) ≡ Some u → u.changes ≤ change_limit) → more_changes n [] b ≡ None
changes_few n b few = ap (λ (t : Bool). refused_if t (line.QuotaExceeded line.Changes change_limit)) (not_below change_limit (changes_made b.key.serial n.durable.units + 0) (go (find_unit b.key.serial (units_in n.durable.units.entries)) refl))
  where
    go : (o : Option RecoveryUnit) → find_unit b.key.serial (units_in n.durable.units.entries) ≡ o → (elim o [ Some u ↦ u.changes | None ↦ 0 ]) + 0 ≤ change_limit
    go (Some u) is = let k = few b.key.serial u is in omega (arith, k)
    go None is = omega arith

pub full_none : (file : File) (op : ReadOp) → file_full file (read_said op) ≡ None
full_none file op =
    let need = need_none file op in
    (λ i. refused_if (nat_lt (free_buckets file) (need i)) (line.FileFull (free_buckets file) (need i)))
    ∙ ap (λ (t : Bool). refused_if t (line.FileFull (free_buckets file) 0)) (below_none (free_buckets file))

pub journal_none : (n : Node) (name : List ℕ) (b : Branch) → journal_full n name [] b ≡ None
journal_none n name b = ap (λ (t : Bool). refused_if t (line.JournalFull (free_journal n) 0)) (below_none (free_journal n))

-- The file that is asked for.
pub asked_file : (content : List (List ℕ)) (heads : List (Option FileHead)) (n : Node) (f : ℕ) (h : FileHead) (file : File) → AreFiles content heads n.durable.directory → AreUnitsOf n → head_at heads f ≡ Some h →
    find_file h.name n.durable.directory ≡ Some file → IsFile content h file
asked_file content heads n f h file files units there found =
    let at = file_there content heads n.durable.directory f h files there in
    subst (IsFile content h) (one at.0 (sym (ap (λ x. find_file x n.durable.directory) (at.2.head.name)) ∙ (found_by n f at.0 units at.1).found)) at.2
  where
    one : (x : File) → find_file h.name n.durable.directory ≡ Some x → x ≡ file
    one x e = some (sym e ∙ found)
      where
        some : ◌≡◌ {A = Option File} (Some x) (Some file) → x ≡ file
        some k = cc

-- A read that was done.
module _ (place : ℕ) (u : OpenUnit) (op : ReadOp) (key : Key) (bytes : List ℕ) (s : state.UnitsState) (v : VolumeState) (t : state.UnitsState) (w : VolumeState) (log : Slots) (order : IsInOrder s v) (n : Node) (file : File) (b : Branch) (h : FileHead)
    (r : rms.ReadsOk u h op key bytes s v t w) (kept : IsKept (seen s log) v n) (there : head_at v.catalog.heads (read_file_in op) ≡ Some h) (found : find_file h.name n.durable.directory ≡ Some file) (own : u.serial ≡ b.key.serial) where
  once : AreOnce v.catalog.heads
  once = once_of v.catalog.home.node v.store.disk.size v.catalog order.sound order.heads

  is_file : IsFile kept.content h file
  is_file = asked_file kept.content v.catalog.heads n (read_file_in op) h file kept.has.files kept.has.units there found

  reads : ReadsIn n (Some b.key.serial) h.name file op key bytes
  reads = subst (λ (x : Id). ReadsIn n (Some x) h.name file op key bytes) own
      (reads_in v.catalog.heads once (read_file_in op) h there n s.locks kept.locks kept.content file is_file (Some u.serial) op key bytes refl (r.finds kept.content kept.told is_file.head.form is_file.laid))

  early : unit_refused_before_reading n b h.name file (read_said op) ≡ None
  early =
      let both = first_none (form.read_form_refused h op) (cause_if (not h.marks.ru) NotForUnits) r.early in
      let one = line_none (form.read_form_refused h op) (form_refused file (read_said op)) (forms.reads h file op is_file.head) both.0 in
      let two = line_none (cause_if (not h.marks.ru) NotForUnits) (is_marked file) (marked_alike h file is_file.head) both.1 in
      λ i. first_of (one i) (first_of (two i) (reads.asked i))

  few : more_locks n h.name (key ∷ []) ≡ None
  few = line_none _ (more_locks n h.name (key ∷ [])) (more_alike v.catalog.heads once (read_file_in op) h there n s.locks kept.locks (key ∷ [])) r.few

  late : unit_refused_after_reading n b h.name file (read_said op) ≡ None
  late =
      let none = changes_none file op in
      let two = ap (λ cs. more_changes n cs b) none ∙ changes_few n b (few_in n.durable.units.entries kept.has.order.few).changes in
      let three = ap (more_locks n h.name) reads.held ∙ few in
      let five = ap (λ cs. journal_full n h.name cs b) none ∙ journal_none n h.name b in
      let six = ap (λ cs. images_full b.key.serial cs file) none in
      λ i. first_of (reads.found i) (first_of (two i) (first_of (three i) (first_of (full_none file op i) (first_of (five i) (six i)))))

  held : IsKept (seen t log) w (acted (unit_act b h.name file (read_said op)) n)
  held =
      let after = kept_holds (seen s log) v n (read_file_in op) h b.key.serial (key ∷ []) kept once there in
      let act : Holds b.key.serial h.name (key ∷ []) ≡ unit_act b h.name file (read_said op) = ap (Holds b.key.serial h.name) (sym reads.held) ∙ sym (act_is b h.name file op) in
      let units : record (seen s log) { locks = table.with_locks b.key.serial (read_file_in op) (key ∷ []) s.locks } ≡ seen t log =
      ap (λ (x : Id). seen (rms.holding x (read_file_in op) (key ∷ []) s) log) (sym own) ∙ ap (λ (x : state.UnitsState). seen x log) (sym r.held) in
      kept_read v w r.same (seen t log) (acted (unit_act b h.name file (read_said op)) n)
      (subst (λ (x : UnitsState). IsKept x v (acted (unit_act b h.name file (read_said op)) n)) units
      (subst (λ (a : Act). IsKept (record (seen s log) { locks = table.with_locks b.key.serial (read_file_in op) (key ∷ []) s.locks }) v (acted a n)) act after))

  pub read_done : IsDone (unit_refused_before_reading n b h.name file (read_said op)) (unit_refused_after_reading n b h.name file (read_said op)) (unit_act b h.name file (read_said op)) (operation_answer file (read_said op)) (record_line op key bytes) n (seen t log) w
  read_done = record { allowed = (λ i. first_of (early i) (late i)); kept = held; answers = reads.answers }

pub reads_ok : (place : ℕ) (u : OpenUnit) (op : ReadOp) (key : Key) (bytes : List ℕ) (s : state.UnitsState) (v : VolumeState) (t : state.UnitsState) (w : VolumeState) (log : Slots) → IsInOrder s v →
    ((h : FileHead) → head_at v.catalog.heads (read_file_in op) ≡ Some h → rms.ReadsOk u h op key bytes s v t w) → calls.ReadsOk u.serial op key bytes (seen s log) v (seen t log) w
reads_ok place u op key bytes s v t w log order r n name file b asked =
    subst (λ (x : List ℕ). IsDone (unit_refused_before_reading n b x file (read_said op)) (unit_refused_after_reading n b x file (read_said op)) (unit_act b x file (read_said op)) (operation_answer file (read_said op)) (record_line op key bytes) n (seen t log) w) asked.named.called
    (read_done place u op key bytes s v t w log order n file b asked.head (r asked.head asked.named.there) asked.kept asked.named.there (ap (λ x. find_file x n.durable.directory) asked.named.called ∙ asked.found)
    (found_serial u.serial n.volatile.branches b asked.branch))

-- A read of a key of an indexed file reads no more blocks than there are in one bucket of each level.
pub reads_few : (op : ReadOp) (v w : VolumeState) → ((h : FileHead) → head_at v.catalog.heads (read_file_in op) ≡ Some h → rms.ReadsFew h op v w) → calls.ReadsFew op v w
reads_few (read.Get f key) v w few = λ h there indexed. subst (λ (o : Organization). w.store.reads ≤ v.store.reads + reads_by o h) indexed (few h there)
reads_few (read.Next f after) v w few = tt

-- A record was looked at.
pub looks_ok : (op : ReadOp) (key : Key) (bytes : List ℕ) (s : state.UnitsState) (v w : VolumeState) (log : Slots) → IsInOrder s v → ((h : FileHead) → head_at v.catalog.heads (read_file_in op) ≡ Some h → rms.LooksOk h op key bytes s v w) →
    calls.LooksOk op key bytes (seen s log) v
looks_ok op key bytes s v w log order r n name file asked =
    subst (λ (x : List ℕ). IsSeen (alone_refused_before_reading n x file (read_said op)) (alone_refused_after_reading n x file (read_said op)) (operation_answer file (read_said op)) (record_line op key bytes)) asked.named.called here
  where
    h : FileHead
    h = asked.head

    is : rms.LooksOk h op key bytes s v w
    is = r h asked.named.there

    is_file : IsFile asked.kept.content h file
    is_file = asked_file asked.kept.content v.catalog.heads n (read_file_in op) h file asked.kept.has.files asked.kept.has.units asked.named.there (ap (λ x. find_file x n.durable.directory) asked.named.called ∙ asked.found)

    reads : ReadsIn n None h.name file op key bytes
    reads = reads_in v.catalog.heads (once_of v.catalog.home.node v.store.disk.size v.catalog order.sound order.heads) (read_file_in op) h asked.named.there n s.locks asked.kept.locks asked.kept.content file is_file None op key bytes refl
        (is.finds asked.kept.content asked.kept.told is_file.head.form is_file.laid)

    here : IsSeen (alone_refused_before_reading n h.name file (read_said op)) (alone_refused_after_reading n h.name file (read_said op)) (operation_answer file (read_said op)) (record_line op key bytes)
    here =
        let one = line_none (form.read_form_refused h op) (form_refused file (read_said op)) (forms.reads h file op is_file.head) is.early in
        let few = ap (λ cs. refused_if (nat_lt change_limit (length cs)) (line.QuotaExceeded line.Changes change_limit)) (changes_none file op) in
        let rings = ap (λ cs. images_full (next_id n) cs file) (changes_none file op) in
        record {
          allowed = (λ i. first_of (first_of (one i) (first_of (alone_may file op i) (reads.asked i))) (first_of (reads.found i) (first_of (few i) (first_of (full_none file op i) (rings i)))));
          answers = reads.answers;
        }
