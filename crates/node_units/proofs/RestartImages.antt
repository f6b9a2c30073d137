-- The outcome of a branch that a restart undoes, in the journals of images of the files that it changed.
use Rattle.std.proofs.Common.{◌≡◌, ℕ, ◌+◌, ◌-◌, ◌<◌, ◌≤◌, ◌^◌, List, [], ◌∷◌, Bool, true, false, Option, Some, None, length, slice_index_or, refl, sym, ◌∙◌, ap, subst, arith}
use Rattle.std.specs.Option.{option_map}
use Rattle.file_base.specs.declared.head.FileHead.{FileHead}
use Rattle.file_base.specs.declared.head.Span.{Span}
use Rattle.unit_world.specs.file_images.Images.{entry_by}
use Rattle.recovery_units.specs.image_appends.declared.side.Side.{Side}
use Rattle.recovery_units.specs.image_appends.declared.side.Side.TheVariants.{After, Before}
use Rattle.recovery_units.specs.image_appends.Images.{is_kept, span_of}
use Rattle.undo_laws.specs.image_groups.Groups.{AreToldBy, HaveRoom, IsToldBy, MayEnter, outcome_of}
use Rattle.recovery_units.specs.image_room.Room.{ImagesAreLow}
use Rattle.journal_format.proofs.Decoding.{total_is}
use Rattle.journal_model.specs.Entries.{Entry, IsEntry, spelling}
use Rattle.journal_model.specs.Ring.{ring_size}
use Rattle.recovery_model.specs.File.{ImageJournal, all_of}
use Rattle.recovery_model.specs.Room.{HasRoom, unsettled_in}
use Rattle.records_model.specs.History.{LiveChanges, changed_it, changes_by}
use Rattle.rms_units.specs.unit_journal.Entries.{settled_entry}
use Rattle.rms_units.proofs.unit_journal.EntryLemmas.{settled_is}
use Rattle.undo_laws.specs.unit_undo.Undoing.{journals_of}
use Rattle.vms_model.specs.Ids.{Id, IsId}
use Rattle.recovery_units.specs.run_model.World.{AreUnitsOf, File, KeepsImages, Node, Settlement}
use Rattle.recovery_units.specs.world_laws.Nodes.{FileKeepsImages}
use Rattle.recovery_units.specs.world_laws.Running.{AllFound}
use Rattle.unit_world.specs.directory_model.Files.{IsCarried, file_at, head_at}
use Rattle.unit_world.specs.directory_model.Laws.{spelled_entry}
use Rattle.unit_world.specs.directory_model.Restoring.{AreLeft, IsPlaceLeft}
use Rattle.recovery_units.specs.State.{changed_at}
use Rattle.unit_world.proofs.Found.{found_by}
use Rattle.node_units.proofs.Imaging.{KeepsJournals, had_journals, kept_by, low_by, outcome_entry, span_by}
use Rattle.node_units.proofs.ImagesAlike.{after_count, before_count}

-- a branch with changes is one of those that are unsettled
some_live : (x : Id) (ls : List LiveChanges) → ◌≡◌ {A = Bool} (elim (changes_by x ls) [ [] ↦ false | c ∷ cs ↦ true ]) true → 1 ≤ length ls
some_live x [] is = let no : ⊥ = cc in absurd no
some_live x (l ∷ ls) is = omega arith

-- the file of a place that a branch changed
pub record ChangedAt (x : Id) (p : Option File) : Type 0 where
  pub file : File
  pub there : p ≡ Some file
  pub changed : changed_it file.history x ≡ true

changed_there : (x : Id) (p : Option File) → changed_at x p ≡ true → ChangedAt x p
changed_there x None is = let no : ⊥ = cc in absurd no
changed_there x (Some file) is = record { file = file; there = refl; changed = is }

module _ (m : Node) (a : List (List ℕ)) (heads : List (Option FileHead)) (left : AreLeft a heads m.durable.directory) (units : AreUnitsOf m) (keeps : AllFound (FileKeepsImages m.name m.durable.boot m.durable.greatest) m.durable.directory)
    (x : Id) (files : List Bool) (says : (f : ℕ) → changed_at x (file_at m.durable.directory f) ≡ slice_index_or files f false) where
  pub told_left : (c : Settlement) → c.serial ≡ x → AreToldBy c files m.durable.directory
  told_left c own f = go (file_at m.durable.directory f) refl
    where
      go : (p : Option File) → file_at m.durable.directory f ≡ p → IsToldBy c (slice_index_or files f false) p
      go None there = sym (says f) ∙ ap (changed_at x) there
      go (Some file) there = ap (changed_it file.history) own ∙ sym (ap (changed_at x) there) ∙ says f

  -- a ring has room for a settlement of a branch that changed the file
  room_of : (s : Span) (j : ImageJournal) (live : List LiveChanges) → s.blocks ≡ j.blocks → s.first ≡ j.first → s.end ≡ j.end → HasRoom j live → unsettled_in (all_of j.entries) live ≡ length live → 1 ≤ length live → s.end - s.first + 48 ≤ ring_size s
  room_of s j live blocks first end room count some = omega (arith, blocks, first, end, room, count, some)

  module _ (f : ℕ) (old : FileHead) (at_old : head_at heads f ≡ Some old) (here : ChangedAt x (file_at m.durable.directory f)) where
    file : File
    file = here.file

    carried : IsCarried a f old here.file.carried
    carried = (subst (λ o. IsPlaceLeft a f o (Some here.file)) at_old (subst (λ p. IsPlaceLeft a f (head_at heads f) p) here.there (left.each f))).1

    keeps_here : KeepsImages m.name m.durable.boot m.durable.greatest here.file
    keeps_here = keeps here.file.name here.file (found_by m f here.file units here.there).found

    some : 1 ≤ length here.file.history.live
    some = some_live x here.file.history.live here.changed

    pub ring_room : (side : Side) → is_kept side old ≡ true → (span_of side old).end - (span_of side old).first + 48 ≤ ring_size (span_of side old)
    ring_room After kept =
        let on = carried.after.on ∙ kept in
        room_of old.ai here.file.carried.after here.file.history.live carried.after.blocks carried.after.first carried.after.end (keeps_here.after_room on) (after_count m units f here.file here.there keeps_here on) some
    ring_room Before kept =
        let on = carried.before.on ∙ kept in
        room_of old.bi here.file.carried.before here.file.history.live carried.before.blocks carried.before.first carried.before.end (keeps_here.before_room on) (before_count m units f here.file here.there keeps_here on) some

  pub room_left : (new : List (Option FileHead)) → KeepsJournals heads new → ImagesAreLow 48 heads → (c : Settlement) → IsId c.tid → IsId c.serial → c.moment < 2 ^ 64 → HaveRoom c files new
  room_left new journals lows c tid serial bound f on = (enter After, enter Before)
    where
      here : ChangedAt x (file_at m.durable.directory f)
      here = changed_there x (file_at m.durable.directory f) (says f ∙ on)

      entry_is : IsEntry (settled_entry c.tid c.serial c.outcome c.moment)
      entry_is = settled_is c.tid c.serial c.outcome c.moment tid serial bound

      same : entry_by f c.tid (outcome_of c) ≡ settled_entry c.tid c.serial c.outcome c.moment
      same = outcome_entry f c.tid c.serial c.outcome c.moment

      entry_long : length (spelling (settled_entry c.tid c.serial c.outcome c.moment)) ≡ 48
      entry_long = total_is (settled_entry c.tid c.serial c.outcome c.moment) entry_is

      enter : (side : Side) → MayEnter side f new c.tid (outcome_of c)
      enter side h there kept =
          let old = had_journals (head_at heads f) h (sym (journals.journals f) ∙ ap (option_map journals_of) there) in
          let room = ring_room f old.0 old.1 here side (kept_by side old.0 h old.2 ∙ kept) in
          let low = low_by side old.0 48 (lows f old.0 old.1) in
          let span = span_by side old.0 h old.2 in
          let end : (span_of side old.0).end ≡ (span_of side h).end = ap (λ (r : Span). r.end) span in
          let long : length (spelled_entry f c.tid (outcome_of c)) ≡ 48 = ap (λ (e : Entry). length (spelling e)) same ∙ entry_long in
          record {
            can = record { is = subst IsEntry (sym same) entry_is; of = tt; suited = tt; room = subst (λ (r : Span). r.end - r.first + 48 ≤ ring_size r) span room };
            head = journals.told f h there;
            far = omega (arith, low, end, long);
          }
