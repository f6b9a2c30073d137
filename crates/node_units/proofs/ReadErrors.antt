-- A read of the units that was not done is one of the world that was not done.
use Rattle.std.proofs.Common.{◌≡◌, ℕ, List, [], ◌∷◌, not, Option, Some, None, length, nat_lt, refl, sym, ◌∙◌, ap, subst, inl, inr}
use Rattle.std.specs.Prelude.{option_map}
use Rattle.block_disk.specs.Disk.{DiskState}
use Rattle.vms_model.specs.Limits.{change_limit}
use Rattle.careful_write.specs.declared.down.Down.{Down}
use Rattle.file_base.specs.declared.head.FileHead.{FileHead}
use Rattle.transcript_model.specs.Lines as line
use Rattle.transcript_model.specs.Lines.{Line}
use Rattle.commit_protocol.specs.Table.{Branch}
use Rattle.vms_model.specs.Ids.{Id}
use Rattle.volume.specs.State.{SameVolume, VolumeState}
use Rattle.log_laws.specs.Slots.{Slots}
use Rattle.unit_table.specs.Units.{OpenUnit}
use Rattle.record_operations.specs.Asking.{read_file_in}
use Rattle.record_operations.specs.Causes.{Cause, IfRefused, NotForUnits, cause_if}
use Rattle.record_operations.specs.Forms as form
use Rattle.record_operations.specs.declared.errors.RecErr.{RecErr}
use Rattle.record_operations.specs.declared.ops.ReadOp.{ReadOp}
use Rattle.record_operations.specs.declared.ops.ReadOp.TheVariants as read
use Rattle.volume_files.specs.record_files.Any.{map_of}
use Rattle.recovery_units.specs.run_model.Answers.{found_refused, images_full, is_marked, journal_full, keys_refused, more_changes, more_locks}
use Rattle.recovery_units.specs.run_model.Operations.{changes_of, file_full, first_of, form_refused, keys_asked, keys_held, refused_if}
use Rattle.recovery_units.specs.run_model.World.{Act, File, Node, find_file, next_id}
use Rattle.recovery_units.proofs.world_laws.FindLemmas.{found_serial}
use Rattle.unit_world.specs.directory_model.Files.{IsFile, head_at}
use Rattle.recovery_units.specs.Calls as calls
use Rattle.recovery_units.specs.Calls.{IsAsked, IsBroken, IsNotDone, alone_refused_after_reading, alone_refused_before_reading, cause_line, read_said, unit_act, unit_refused_after_reading, unit_refused_before_reading}
use Rattle.recovery_units.specs.State.{IsKept}
use Rattle.recovery_units.proofs.FormLemmas.{forms, lines_first}
use Rattle.recovery_units.specs.volume_model.Volumes.{HasDisk}
use Rattle.recovery_units.specs.run_model.World.{fallen}
use Rattle.recovery_units.proofs.world_laws.FewLemmas.{few_in}
use Rattle.rms_units.specs.unit_journal.Leaving.{FellIn}
use Rattle.rms_units.specs.Calls as rms
use Rattle.rms_units.specs.Calls.{MayLook, MayRead}
use Rattle.rms_units.specs.key_changes.Changing.{locks_refuse}
use Rattle.rms_units.specs.Reading.{FindsNone, read_keys}
use Rattle.rms_units.specs.State as state
use Rattle.rms_units.specs.State.{IsInOrder}
use Rattle.node_units.specs.Seen.{seen}
use Rattle.node_units.proofs.Falling.{fell_kept}
use Rattle.node_units.proofs.Finding.{ReadsIn, reads_in}
use Rattle.node_units.proofs.Holding.{once_of}
use Rattle.node_units.proofs.Locking.{AreOnce}
use Rattle.node_units.proofs.Looking.{finds_none, first_again, first_some, refused_cases}
use Rattle.node_units.proofs.ReadLemmas.{alone_may, asked_file, changes_few, changes_none, first_none, line_none}
use Rattle.node_units.proofs.Refusing.{locks_alike, marked_alike, more_alike}

keys_are : (file : File) (op : ReadOp) → keys_asked file (read_said op) ≡ read_keys op
keys_are file (read.Get f key) = refl
keys_are file (read.Next f after) = refl

-- what an answer says of what was asked, by its line
abbrev pub NotDoneBy : (early late : Option Line) → Act → Node → DiskState → Option Line → Type 0
NotDoneBy early late act n d o = elim o [ Some l ↦ first_of early late ≡ Some l | None ↦ IsBroken early late act n d ]

pub not_done : (e : RecErr) (early late : Option Line) (act : Act) (n : Node) (d : DiskState) (P : Cause → Type 0) (Q : Down → Type 0) → IfRefused e P Q → ((c : Cause) → P c → first_of early late ≡ Some (cause_line c)) →
    ((down : Down) → Q down → IsBroken early late act n d) → IsNotDone e early late act n d
not_done e early late act n d P Q r refused broken = elim (refused_cases e P Q r) [
  | inl x ↦ subst (NotDoneBy early late act n d) (sym (ap (option_map cause_line) x.1)) (refused x.0 x.2)
  | inr x ↦ subst (NotDoneBy early late act n d) (sym (ap (option_map cause_line) x.1)) (broken x.0 x.2)
]

module _ (u : OpenUnit) (op : ReadOp) (e : RecErr) (s : state.UnitsState) (v w : VolumeState) (log : Slots) (order : IsInOrder s v) (n : Node) (file : File) (b : Branch) (h : FileHead) (kept : IsKept (seen s log) v n)
    (there : head_at v.catalog.heads (read_file_in op) ≡ Some h) (found : find_file h.name n.durable.directory ≡ Some file) (own : u.serial ≡ b.key.serial) where
  once : AreOnce v.catalog.heads
  once = once_of v.catalog.home.node v.store.disk.size v.catalog order.sound order.heads

  is_file : IsFile kept.content h file
  is_file = asked_file kept.content v.catalog.heads n (read_file_in op) h file kept.has.files kept.has.units there found

  form_is : option_map cause_line (form.read_form_refused h op) ≡ form_refused file (read_said op)
  form_is = forms.reads h file op is_file.head

  mark_is : option_map cause_line (cause_if (not h.marks.ru) NotForUnits) ≡ is_marked file
  mark_is = marked_alike h file is_file.head

  abbrev E3 : Option Line
  E3 = keys_refused n (Some b.key.serial) h.name (keys_asked file (read_said op))

  abbrev F : Option Line
  F = found_refused n (Some b.key.serial) h.name (read_said op) file

  abbrev rest : Option Line
  rest = first_of (more_changes n (changes_of file (read_said op)) b) (first_of (more_locks n h.name (keys_held file (read_said op))) (first_of (file_full file (read_said op)) (first_of (journal_full n h.name (changes_of file (read_said op)) b) (images_full b.key.serial (changes_of file (read_said op)) file))))

  -- before the keys are looked at nothing refuses it
  passes : rms.read_refused_before_reading h op ≡ None → (form_refused file (read_said op) ≡ None) × (is_marked file ≡ None)
  passes none =
      let both = first_none (form.read_form_refused h op) (cause_if (not h.marks.ru) NotForUnits) none in
      (line_none (form.read_form_refused h op) (form_refused file (read_said op)) form_is both.0, line_none (cause_if (not h.marks.ru) NotForUnits) (is_marked file) mark_is both.1)

  refused : (c : Cause) → rms.ReadRefused u h op c s v → first_of (unit_refused_before_reading n b h.name file (read_said op)) (unit_refused_after_reading n b h.name file (read_said op)) ≡ Some (cause_line c)
  refused c (inl early) =
      let k : first_of (form_refused file (read_said op)) (is_marked file) ≡ Some (cause_line c) =
      (λ i. first_of (sym form_is i) (sym mark_is i)) ∙ sym (lines_first (form.read_form_refused h op) (cause_if (not h.marks.ru) NotForUnits)) ∙ ap (option_map cause_line) early in
      first_some (unit_refused_before_reading n b h.name file (read_said op)) (first_of F rest) (cause_line c)
      (first_again (form_refused file (read_said op)) (is_marked file) E3 ∙ first_some (first_of (form_refused file (read_said op)) (is_marked file)) E3 (cause_line c) k)
  refused c (inr (inl none)) =
      let p = passes none.0 in
      let k = finds_none v.catalog.heads once (read_file_in op) h there n s.locks kept.locks kept.content file is_file (Some b.key.serial) op c refl
      (subst (λ (x : Id). FindsNone op (Some x) s.locks c (map_of h kept.content)) own (none.1 kept.content kept.told is_file.head.form is_file.laid)) in
      (λ i. first_of (first_of (p.0 i) (first_of (p.1 i) E3)) (first_of F rest)) ∙ first_again E3 F rest ∙ first_some (first_of E3 F) rest (cause_line c) k
  refused c (inr (inr many)) =
      let p = passes many.0 in
      let key = many.1.0 in
      let reads : ReadsIn n (Some b.key.serial) h.name file op key many.1.1 =
      subst (λ (x : Id). ReadsIn n (Some x) h.name file op key many.1.1) own
      (reads_in v.catalog.heads once (read_file_in op) h there n s.locks kept.locks kept.content file is_file (Some u.serial) op key many.1.1 refl (many.1.2 kept.content kept.told is_file.head.form is_file.laid)) in
      let few = ap (λ cs. more_changes n cs b) (changes_none file op) ∙ changes_few n b (few_in n.durable.units.entries kept.has.order.few).changes in
      let full : more_locks n h.name (keys_held file (read_said op)) ≡ Some (cause_line c) =
      ap (more_locks n h.name) reads.held ∙ sym (more_alike v.catalog.heads once (read_file_in op) h there n s.locks kept.locks (key ∷ [])) ∙ ap (option_map cause_line) many.1.3 in
      λ i. first_of (first_of (p.0 i) (first_of (p.1 i) (reads.asked i))) (first_of (reads.found i) (first_of (few i) (first_of (full i) (first_of (file_full file (read_said op)) (first_of (journal_full n h.name (changes_of file (read_said op)) b) (images_full b.key.serial (changes_of file (read_said op)) file))))))

  broken : (down : Down) → MayRead u h op s × FellIn down v w → IsBroken (unit_refused_before_reading n b h.name file (read_said op)) (unit_refused_after_reading n b h.name file (read_said op)) (unit_act b h.name file (read_said op)) n w.store.disk
  broken down fell =
      let p = passes fell.0.0 in
      let locks = ap (keys_refused n (Some b.key.serial) h.name) (keys_are file op)
      ∙ line_none (locks_refuse (Some b.key.serial) (read_file_in op) (read_keys op) s.locks) (keys_refused n (Some b.key.serial) h.name (read_keys op))
      (locks_alike v.catalog.heads once (read_file_in op) h there n s.locks kept.locks (Some b.key.serial) (read_keys op)) (subst (λ (x : Id). locks_refuse (Some x) (read_file_in op) (read_keys op) s.locks ≡ None) own fell.0.1) in
      record { begun = (λ i. first_of (p.0 i) (first_of (p.1 i) (locks i))); disk = inl (fell_kept (seen s log) v w n down kept order.sound order.holds order.idle fell.1) }

  pub read_not_done : IfRefused e (λ c. rms.ReadRefused u h op c s v × SameVolume v w) (λ down. MayRead u h op s × FellIn down v w) →
      IsNotDone e (unit_refused_before_reading n b h.name file (read_said op)) (unit_refused_after_reading n b h.name file (read_said op)) (unit_act b h.name file (read_said op)) n w.store.disk
  read_not_done r =
      not_done e (unit_refused_before_reading n b h.name file (read_said op)) (unit_refused_after_reading n b h.name file (read_said op)) (unit_act b h.name file (read_said op)) n w.store.disk (λ c. rms.ReadRefused u h op c s v × SameVolume v w) (λ down. MayRead u h op s × FellIn down v w) r
      (λ c k. refused c k.0) broken

pub reads_err : (u : OpenUnit) (op : ReadOp) (e : RecErr) (s : state.UnitsState) (v w : VolumeState) (log : Slots) → IsInOrder s v →
    ((h : FileHead) → head_at v.catalog.heads (read_file_in op) ≡ Some h → IfRefused e (λ c. rms.ReadRefused u h op c s v × SameVolume v w) (λ down. MayRead u h op s × FellIn down v w)) → calls.ReadsErr u.serial op e (seen s log) v w
reads_err u op e s v w log order r n name file b asked =
    subst (λ (x : List ℕ). IsNotDone e (unit_refused_before_reading n b x file (read_said op)) (unit_refused_after_reading n b x file (read_said op)) (unit_act b x file (read_said op)) n w.store.disk) asked.named.called
    (read_not_done u op e s v w log order n file b asked.head asked.kept asked.named.there (ap (λ x. find_file x n.durable.directory) asked.named.called ∙ asked.found) (found_serial u.serial n.volatile.branches b asked.branch)
    (r asked.head asked.named.there))

-- A look that was not done.
abbrev LookBy : (early late : Option Line) → Type 0 → Option Line → Type 0
LookBy early late broken o = elim o [ Some l ↦ first_of early late ≡ Some l | None ↦ broken ]

pub looks_err : (op : ReadOp) (e : RecErr) (s : state.UnitsState) (v w : VolumeState) (log : Slots) → IsInOrder s v →
    ((h : FileHead) → head_at v.catalog.heads (read_file_in op) ≡ Some h → IfRefused e (λ c. rms.LookRefused h op c s v × SameVolume v w) (λ down. MayLook h op s × FellIn down v w)) → calls.LooksErr op e (seen s log) v w
looks_err op e s v w log order r n name file asked =
    subst (λ (x : List ℕ). LookBy (alone_refused_before_reading n x file (read_said op)) (alone_refused_after_reading n x file (read_said op)) ((alone_refused_before_reading n x file (read_said op) ≡ None) × HasDisk (fallen None n) w.store.disk) (calls.refusal_of e)) asked.named.called here
  where
    h : FileHead
    h = asked.head

    is_file : IsFile asked.kept.content h file
    is_file = asked_file asked.kept.content v.catalog.heads n (read_file_in op) h file asked.kept.has.files asked.kept.has.units asked.named.there (ap (λ x. find_file x n.durable.directory) asked.named.called ∙ asked.found)

    once : AreOnce v.catalog.heads
    once = once_of v.catalog.home.node v.store.disk.size v.catalog order.sound order.heads

    early : Option Line
    early = alone_refused_before_reading n h.name file (read_said op)

    E3 : Option Line
    E3 = keys_refused n None h.name (keys_asked file (read_said op))

    F : Option Line
    F = found_refused n None h.name (read_said op) file

    rest : Option Line
    rest = first_of (refused_if (nat_lt change_limit (length (changes_of file (read_said op)))) (line.QuotaExceeded line.Changes change_limit)) (first_of (file_full file (read_said op)) (images_full (next_id n) (changes_of file (read_said op)) file))

    form_is : option_map cause_line (form.read_form_refused h op) ≡ form_refused file (read_said op)
    form_is = forms.reads h file op is_file.head

    refused : (c : Cause) → rms.LookRefused h op c s v → first_of early (first_of F rest) ≡ Some (cause_line c)
    refused c (inl k) = first_some early (first_of F rest) (cause_line c) (first_some (form_refused file (read_said op)) _ (cause_line c) (sym form_is ∙ ap (option_map cause_line) k))
    refused c (inr none) =
        let one = line_none (form.read_form_refused h op) (form_refused file (read_said op)) form_is none.0 in
        let k = finds_none v.catalog.heads once (read_file_in op) h asked.named.there n s.locks asked.kept.locks asked.kept.content file is_file None op c refl (none.1 asked.kept.content asked.kept.told is_file.head.form is_file.laid) in
        (λ i. first_of (first_of (one i) (first_of (alone_may file op i) E3)) (first_of F rest)) ∙ first_again E3 F rest ∙ first_some (first_of E3 F) rest (cause_line c) k

    broken : (down : Down) → MayLook h op s × FellIn down v w → (early ≡ None) × HasDisk (fallen None n) w.store.disk
    broken down fell =
        let one = line_none (form.read_form_refused h op) (form_refused file (read_said op)) form_is fell.0.0 in
        let locks = ap (keys_refused n None h.name) (keys_are file op)
        ∙ line_none (locks_refuse None (read_file_in op) (read_keys op) s.locks) (keys_refused n None h.name (read_keys op)) (locks_alike v.catalog.heads once (read_file_in op) h asked.named.there n s.locks asked.kept.locks None (read_keys op)) fell.0.1 in
        ((λ i. first_of (one i) (first_of (alone_may file op i) (locks i))), fell_kept (seen s log) v w n down asked.kept order.sound order.holds order.idle fell.1)

    here : LookBy early (first_of F rest) ((early ≡ None) × HasDisk (fallen None n) w.store.disk) (calls.refusal_of e)
    here = elim (refused_cases e (λ c. rms.LookRefused h op c s v × SameVolume v w) (λ down. MayLook h op s × FellIn down v w) (r h asked.named.there)) [
      | inl x ↦ subst (LookBy early (first_of F rest) ((early ≡ None) × HasDisk (fallen None n) w.store.disk)) (sym (ap (option_map cause_line) x.1)) (refused x.0 x.2.0)
      | inr x ↦ subst (LookBy early (first_of F rest) ((early ≡ None) × HasDisk (fallen None n) w.store.disk)) (sym (ap (option_map cause_line) x.1)) (broken x.0 x.2)
    ]
