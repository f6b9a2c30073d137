-- A change without a unit that was not done is one of the world that was not done.
use Rattle.unit_world.specs.directory_model.Files.{IsFile}
use Rattle.std.proofs.Common.{◌≡◌, ℕ, ◌≤◌, List, [], ◌∷◌, true, Option, Some, None, length, refl, sym, ◌∙◌, ap, subst, arith, inl, inr, ⊎_elim}
use Rattle.std.specs.Prelude.{option_map}
use Rattle.block_disk.specs.Disk.{DiskState}
use Rattle.careful_write.specs.Content.{content_of}
use Rattle.careful_write.specs.State.{IsEither, Leaves, content}
use Rattle.file_base.specs.declared.head.FileHead.{FileHead}
use Rattle.transcript_model.specs.Lines.{Line}
use Rattle.vms_model.specs.Ids.{IsId}
use Rattle.vms_base.specs.Ids.{tid_of}
use Rattle.vms_base.specs.declared.ids.Tid.{Tid}
use Rattle.volume.specs.State.{VolumeState}
use Rattle.record_operations.specs.Asking.{file_in, is_of_key, written}
use Rattle.record_operations.specs.Causes.{Cause, first_cause}
use Rattle.record_operations.specs.declared.ops.RecordOp.{RecordOp}
use Rattle.record_operations.specs.declared.ops.RecordOp.TheVariants as op
use Rattle.records_model.specs.Records.{Change}
use Rattle.recovery_units.specs.run_model.World.{Act, Directs, File, Node, acted, fallen, next_id}
use Rattle.log_laws.specs.Slots.{Slots}
use Rattle.recovery_units.specs.world_laws.Nodes.{IsUp}
use Rattle.recovery_units.specs.run_model.Operations.{first_of}
use Rattle.recovery_units.specs.volume_model.Volumes.{HasDisk, IsEitherOf, IsLeftBy}
use Rattle.rms_units.specs.unit_journal.Groups.{LeavesEither, LeavesOld}
use Rattle.unit_table.specs.Units.{OpenUnit}
use Rattle.recovery_units.specs.Calls.{IsBroken, KeepsUp, alone_refused_after_reading, alone_refused_before_reading, cause_line, change_said, direct_act}
use Rattle.recovery_units.specs.run_model.World.{is_durable}
use Rattle.rms_units.specs.Calls as rms
use Rattle.rms_units.specs.key_changes.Changing as keys_by
use Rattle.rms_units.specs.key_changes.Keys.{change_in, key_in}
use Rattle.rms_units.specs.State as state
use Rattle.rms_units.specs.unit_journal.Settling as settling
use Rattle.node_units.specs.Seen.{seen}
use Rattle.node_units.proofs.Falling.{disk_sound, leaves_kept, same_some}
use Rattle.node_units.proofs.DirectMade.{DirectsFile, direct_left, own_settlement}
use Rattle.recovery_units.specs.run_model.Operations.{changes_of, keys_asked}
use Rattle.script_model.specs.Statements.{Truncate}
use Rattle.rms_units.specs.key_changes.Changing.{locks_refuse}
use Rattle.rms_units.specs.Truncating.{DirectCutBroke, DirectCutRefused, IsDirectCut, cut_asked, number_refused}
use Rattle.rms_units.specs.unit_cuts.Truncating.{AllTold, LeavesCut, removed_from}
use Rattle.node_units.proofs.AskedCut.{keys_alike}
use Rattle.node_units.proofs.CutAlike.{cut_some}
use Rattle.node_units.proofs.Looking.{first_some}
use Rattle.node_units.proofs.ReadLemmas.{first_none}
use Rattle.node_units.proofs.CutImages.{cut_left}
use Rattle.node_units.proofs.DirectCut.{cut_free, cut_full, cut_late_is, cut_late_none, left_cut, sequential}
use Rattle.node_units.proofs.DirectDone.{IsAskedOf, change, changes_are, directs_key, early_locked, is_file, key_early, key_set, keys_are, late_is, late_is_none, of_node, comes}

-- What the disk has where it went down.
module _ (o : RecordOp) (bytes : List ℕ) (s : state.UnitsState) (log : Slots) (v : VolumeState) (n : Node) (h : FileHead) (file : File) (asked : IsAskedOf o s log v n h file) (d : DiskState) where
  -- each image has the volume as it was
  old_there : (act : Option Act) (c : List (List ℕ)) → Some c ≡ content v.store → IsEitherOf (fallen act n) c
  old_there act c is = inl (subst (λ x. IsLeftBy x (fallen act n)) (sym (same_some c asked.kept.content (is ∙ sym asked.order.idle.current ∙ asked.kept.told))) (leaves_kept (seen s log) v n act asked.order.sound asked.order.holds asked.kept))

  pub disk_old : (act : Option Act) → LeavesOld v d → HasDisk (fallen act n) d
  disk_old act old = disk_sound (fallen act n) d asked.kept.has.home.volume (λ image may. let l = old image may in (l.0, old_there act _ l.1))

  -- or what is made
  pub disk_either : (tid : Tid) (clock : ℕ) (c : Change) (cs : List Change) (left : List (Option OpenUnit)) (b : List (List ℕ)) (mid made : VolumeState) (new : FileHead) → DirectsFile n (file_in o) h h.name file tid clock (c ∷ cs) left asked.kept.content b v mid made new → IsUp (acted (Directs h.name (c ∷ cs) (own_settlement n)) n) →
      Leaves (IsEither (content v.store) made.store.current) d → HasDisk (fallen (Some (Directs h.name (c ∷ cs) (own_settlement n))) n) d
  disk_either tid clock c cs left b mid made new direct comes leaves =
      let act = Directs h.name (c ∷ cs) (own_settlement n) in
      disk_sound (fallen (Some act) n) d asked.kept.has.home.volume (λ image may. let l = leaves image may in (l.0, ⊎_elim (old_there (Some act) _) (new_there _) l.1))
    where
      new_there : (x : List (List ℕ)) → Some x ≡ made.store.current → IsEitherOf (fallen (Some (Directs h.name (c ∷ cs) (own_settlement n))) n) x
      new_there x is = inr (inl (
        Directs h.name (c ∷ cs) (own_settlement n),
        refl,
        direct_left n (file_in o) h h.name file tid clock c cs left asked.kept.content b v mid made new asked.kept.has asked.up (of_node o bytes s log v n h file asked) direct comes x (sym is) (Some (Directs h.name (c ∷ cs) (own_settlement n))),
      ))

-- A change of one key.
module _ (o : RecordOp) (bytes : List ℕ) (s : state.UnitsState) (log : Slots) (v w : VolumeState) (n : Node) (h : FileHead) (file : File) (asked : IsAskedOf o s log v n h file) (one : is_of_key o ≡ true) (tid : Tid) (clock : ℕ) (early : rms.direct_refused_before_reading h o (written o bytes) ≡ None) where
  abbrev now_early : Option Line
  now_early = alone_refused_before_reading n h.name file (change_said o bytes)

  abbrev now_late : Option Line
  now_late = alone_refused_after_reading n h.name file (change_said o bytes)

  pub key_refused : (c : Cause) → rms.DirectKeyRefused (file_in o) h (change_in o) (key_in h o (written o bytes)) (written o bytes) c s v → first_of now_early now_late ≡ Some (cause_line c)
  key_refused c (inl locked) =
      first_some now_early now_late (cause_line c)
      (early_locked o bytes s log v n h file asked (keys_by.keys_asked h (change_in o) (key_in h o (written o bytes))) (keys_are o bytes s log v w n h file asked one tid clock early) early c locked)
  key_refused c (inr late) =
      let before = key_early o bytes s log v w n h file asked one tid clock early late.0 in
      let is = is_file o bytes s log v n h file asked in
      ap (λ l. first_of l now_late) before
      ∙ sym (late_is o bytes s log v w n h file asked one tid clock early)
      ∙ ap (option_map cause_line) (late.1 asked.kept.content asked.kept.told is.head.form is.laid)

  pub key_broken : rms.DirectKeyBroke tid clock (file_in o) h (change_in o) (key_in h o (written o bytes)) (written o bytes) s v w → tid_of tid ≡ next_id n → IsId (tid_of tid) → n.clock ≡ clock → settling.next_moment clock v.catalog.home ≤ 24113056319999 →
      KeepsUp now_early now_late (direct_act n h.name file (change_said o bytes)) n → IsBroken now_early now_late (direct_act n h.name file (change_said o bytes)) n w.store.disk
  key_broken broke own is_id ticks moment keeps = record {
    begun = key_early o bytes s log v w n h file asked one tid clock early broke.early;
    disk = ⊎_elim (λ old. inl (disk_old o bytes s log v n h file asked w.store.disk None old)) (λ either. inr (made either)) broke.breaks;
  }
    where
      made : LeavesEither (rms.CommitsChange tid clock (file_in o) h (change_in o) (key_in h o (written o bytes)) (written o bytes) s v) v w.store.disk →
          (now_late ≡ None) × (is_durable (direct_act n h.name file (change_said o bytes)) ≡ true) × HasDisk (fallen (Some (direct_act n h.name file (change_said o bytes))) n) w.store.disk
      made either = (
        late_is_none o bytes s log v either.made n h file asked one tid clock early either.is,
        refl,
        subst (λ (cs : List Change). HasDisk (fallen (Some (Directs h.name cs (own_settlement n))) n) w.store.disk) (sym (changes_are o bytes s log v w n h file asked one tid clock early))
            (disk_either o bytes s log v n h file asked w.store.disk tid clock (change o bytes s log v w n h file asked one tid clock) [] s.units.places
            (key_set o bytes s log v either.made n h file asked one tid clock early either.is).0 either.is.commits.set either.made either.is.commits.head
            (directs_key o bytes s log v either.made n h file asked one tid clock early either.is own is_id ticks moment broke.early keeps) (comes o bytes s log v either.made n h file asked one tid clock early either.is own is_id ticks moment broke.early keeps) either.either),
      )

-- A truncation.
module _ (g from : ℕ) (bytes : List ℕ) (s : state.UnitsState) (log : Slots) (v w : VolumeState) (n : Node) (h : FileHead) (file : File) (asked : IsAskedOf (op.Truncate g from) s log v n h file) (tid : Tid) (clock : ℕ) (early : rms.direct_refused_before_reading h (op.Truncate g from) [] ≡ None) where
  abbrev cut_early_now : Option Line
  cut_early_now = alone_refused_before_reading n h.name file (Truncate from)

  abbrev cut_late_now : Option Line
  cut_late_now = alone_refused_after_reading n h.name file (Truncate from)

  abbrev cut_act : Act
  cut_act = direct_act n h.name file (Truncate from)

  cut_keys_are : keys_asked file (Truncate from) ≡ cut_asked h from
  cut_keys_are = keys_alike asked.kept.content h file (is_file (op.Truncate g from) bytes s log v n h file asked) (sequential g from bytes s log v w n h file asked tid clock early) from

  cut_file_here : IsFile asked.kept.content h file
  cut_file_here = is_file (op.Truncate g from) bytes s log v n h file asked

  pub cut_refused : (c : Cause) → DirectCutRefused g h from c s v → first_of cut_early_now cut_late_now ≡ Some (cause_line c)
  cut_refused c (inl refused) = go (locks_refuse None g (cut_asked h from) s.locks) refl refused
    where
      go : (a : Option Cause) → locks_refuse None g (cut_asked h from) s.locks ≡ a → first_cause a (number_refused 0 (removed_from h.count from)) ≡ Some c → first_of cut_early_now cut_late_now ≡ Some (cause_line c)
      go (Some l) is k = first_some cut_early_now cut_late_now (cause_line c) (early_locked (op.Truncate g from) bytes s log v n h file asked (cut_asked h from) cut_keys_are early c (is ∙ k))
      go None is k =
          ap (λ l. first_of l cut_late_now) (cut_free g from bytes s log v w n h file asked tid clock early is) ∙ sym (cut_late_is g from bytes s log v w n h file asked tid clock early)
          ∙ ap (λ (x : Option Cause). option_map cause_line (first_cause x (cut_full g from bytes s log v w n h file asked tid clock early))) k
  cut_refused c (inr late) =
      let both = first_none (locks_refuse None g (cut_asked h from) s.locks) (number_refused 0 (removed_from h.count from)) late.0 in
      ap (λ l. first_of l cut_late_now) (cut_free g from bytes s log v w n h file asked tid clock early both.0) ∙ sym (cut_late_is g from bytes s log v w n h file asked tid clock early)
      ∙ ap (option_map cause_line) (ap (λ (x : Option Cause). first_cause x (cut_full g from bytes s log v w n h file asked tid clock early)) both.1 ∙ late.1 asked.kept.content asked.kept.told cut_file_here.head.form cut_file_here.laid)

  pub cut_broken : DirectCutBroke tid clock g h from s v w → tid_of tid ≡ next_id n → IsId (tid_of tid) → n.clock ≡ clock → settling.next_moment clock v.catalog.home ≤ 24113056319999 →
      KeepsUp cut_early_now cut_late_now cut_act n → IsBroken cut_early_now cut_late_now cut_act n w.store.disk
  cut_broken broke own is_id ticks moment keeps =
      let both = first_none (locks_refuse None g (cut_asked h from) s.locks) (number_refused 0 (removed_from h.count from)) broke.early in
      record {
        begun = cut_free g from bytes s log v w n h file asked tid clock early both.0;
        disk = ⊎_elim
            (λ old. inl (disk_sound (fallen None n) w.store.disk asked.kept.has.home.volume (λ image may. let l = old image may in (l.0, inl (told_there None (content_of image) l.1)))))
            (λ either. inr (made both.1 both.0 either)) broke.breaks;
      }
    where
      told_there : (act : Option Act) (c : List (List ℕ)) → AllTold h v.catalog.ru (content v.store) c → IsLeftBy c (fallen act n)
      told_there act c told = cut_left s v asked.order n log asked.kept g h asked.named.there act c told

      made : number_refused 0 (removed_from h.count from) ≡ None → locks_refuse None g (cut_asked h from) s.locks ≡ None → LeavesCut h (IsDirectCut tid clock g h from s v) v w.store.disk →
          (cut_late_now ≡ None) × (is_durable cut_act ≡ true) × HasDisk (fallen (Some cut_act) n) w.store.disk
      made some free either = (
        cut_late_none g from bytes s log v either.made n h file asked tid clock early some either.is,
        refl,
        go (changes_of file (Truncate from)) refl,
      )
        where
          go : (cs : List Change) → changes_of file (Truncate from) ≡ cs → HasDisk (fallen (Some (Directs h.name (changes_of file (Truncate from)) (own_settlement n))) n) w.store.disk
          go [] is =
              let many = (cut_some asked.kept.content h file (is_file (op.Truncate g from) bytes s log v n h file asked) (sequential g from bytes s log v w n h file asked tid clock early) from some).1 in
              let none = ap length is in
              absurd (omega (arith, many, none))
          go (c ∷ cs) is = subst (λ (xs : List Change). HasDisk (fallen (Some (Directs h.name xs (own_settlement n))) n) w.store.disk) (sym is)
              (disk_sound (fallen (Some (Directs h.name (c ∷ cs) (own_settlement n))) n) w.store.disk asked.kept.has.home.volume
              (λ image may. let l = either.either image may in (l.0, ⊎_elim (λ told. inl (told_there (Some (Directs h.name (c ∷ cs) (own_settlement n))) (content_of image) told)) (new_there (content_of image)) l.1)))
            where
              new_there : (x : List (List ℕ)) → Some x ≡ either.made.store.current → IsEitherOf (fallen (Some (Directs h.name (c ∷ cs) (own_settlement n))) n) x
              new_there x now = inr (inl (
                Directs h.name (c ∷ cs) (own_settlement n),
                refl,
                left_cut g from bytes s log v either.made n h file asked tid clock early some either.is own is_id ticks moment free keeps c cs is x (sym now) (Some (Directs h.name (c ∷ cs) (own_settlement n))),
              ))
