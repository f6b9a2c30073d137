-- The outcome of a unit's branch in the journals of images of the files that the unit changed.
use Rattle.std.proofs.Common.{◌≡◌, ℕ, ◌+◌, ◌-◌, ◌*◌, ◌<◌, ◌≤◌, ◌^◌, List, [], ◌∷◌, Bool, true, false, Option, Some, None, if◌then◌else◌, length, slice_index_or, slice_set, suc, refl, sym, ◌∙◌, ap, subst, arith, inl, inr, get_or-set_same, get_or-set_other}
use Rattle.std.proofs.lemmas.Bool.{cases_eq}
use Rattle.std.specs.Option.{option_map}
use Rattle.file_base.specs.declared.head.FileHead.{FileHead}
use Rattle.file_base.specs.declared.head.Span.{Span}
use Rattle.unit_world.specs.file_images.Images.{entry_by}
use Rattle.recovery_units.specs.image_appends.declared.side.Side.{Side}
use Rattle.recovery_units.specs.image_appends.declared.side.Side.TheVariants.{After, Before}
use Rattle.recovery_units.specs.image_appends.Images.{files_grown, grown, heads_with, is_kept, span_of}
use Rattle.recovery_units.specs.image_appends.Settling.{content_from, heads_from, heads_if}
use Rattle.undo_laws.specs.image_groups.Groups.{AreToldBy, HaveRoom, IsToldBy, MayEnter, outcome_of}
use Rattle.recovery_units.specs.image_room.Room.{SettlementsFit}
use Rattle.recovery_units.proofs.image_room.Keeping.{room_to_settle}
use Rattle.rms_units.specs.file_settlements.Settling.{EntersSettled, content_settled, heads_settled}
use Rattle.journal_format.proofs.Decoding.{total_is}
use Rattle.journal_model.specs.Entries.{Entry, IsEntry, spelling}
use Rattle.journal_model.specs.Ring.{ring_size}
use Rattle.recovery_model.specs.Journal.{Settled}
use Rattle.unit_laws.specs.JournalLaws.{is_unit}
use Rattle.rms_units.specs.unit_journal.Entries.{settled_entry}
use Rattle.rms_units.specs.unit_journal.Settling.{entry_if}
use Rattle.rms_units.proofs.unit_journal.EntryLemmas.{settled_is}
use Rattle.unit_table.specs.Units.{OpenUnit, has_changed}
use Rattle.undo_laws.specs.unit_undo.Undoing.{Journals, journals_at, journals_of}
use Rattle.vms_model.specs.Ids.{Id, IsId}
use Rattle.vms_model.specs.Transactions.{Abort, Commit, Outcome}
use Rattle.records_model.specs.History.{changed_it}
use Rattle.commit_protocol.specs.Table.{Key}
use Rattle.log_laws.specs.Slots.{Slots}
use Rattle.recovery_units.specs.run_model.World.{File, Node, Settlement}
use Rattle.unit_world.specs.directory_model.Files.{Fit, file_at, head_at}
use Rattle.unit_world.specs.directory_model.Laws.{spelled_entry}
use Rattle.unit_world.proofs.directory_model.Places.{within_list}
use Rattle.recovery_units.specs.volume_model.Laws.{KeepsNames}
use Rattle.volume.specs.declared.catalog.Catalog.{Catalog}
use Rattle.volume.specs.Catalogs.{IsSound, TellsCatalog, entry_of}
use Rattle.volume.specs.Limits.{data_area}
use Rattle.volume.specs.State.{VolumeState}
use Rattle.volume_format.specs.Head.{IsEntry as IsDirectoryEntry, IsHead}
use Rattle.volume_format.specs.Home.{sizes_of}
use Rattle.careful_write.specs.State.{EachWhole}
use Rattle.undo_laws.specs.Undone.{IsToldIn}
use Rattle.unit_world.proofs.Found.{unchanged}
use Rattle.rms_units.specs.State as rms
use Rattle.recovery_units.specs.State.{changed_at}
use Rattle.node_units.proofs.Making.{Owns, is_unit_of}

-- an outcome's entry is that of a settlement
pub outcome_entry : (f : ℕ) (tid serial : Id) (outcome : Outcome) (moment : ℕ) → entry_by f tid (Settled serial outcome moment) ≡ settled_entry tid serial outcome moment
outcome_entry f tid serial Commit moment = refl
outcome_entry f tid serial Abort moment = refl

-- the extents of a sound volume fit
pub fits : (node : List ℕ) (size : ℕ) (k : Catalog) → length k.heads ≡ 64 → IsSound node size k → Fit (data_area (sizes_of k.home)) k.heads
fits node size k long sound = record { heads_long = long; behind = omega arith; each = sound.extents }

-- the heads that a content tells
pub told_heads : (k : Catalog) (c : List (List ℕ)) → TellsCatalog k c → length k.heads ≡ 64 → (f : ℕ) (h : FileHead) → head_at k.heads f ≡ Some h → IsHead h
told_heads k c tells long f h there =
    let below = within_list k.heads f h there in
    subst (λ (o : Option FileHead). IsDirectoryEntry (entry_of o)) there (tells.heads f (omega (arith, below, long))).ranges

-- Journals of one side.

pub span_by : (side : Side) (x h : FileHead) → journals_of x ≡ journals_of h → span_of side x ≡ span_of side h
span_by After x h same = ap (λ (j : Journals). j.ai) same
span_by Before x h same = ap (λ (j : Journals). j.bi) same

pub kept_by : (side : Side) (x h : FileHead) → journals_of x ≡ journals_of h → is_kept side x ≡ is_kept side h
kept_by After x h same = ap (λ (j : Journals). j.marks.ai) same
kept_by Before x h same = ap (λ (j : Journals). j.marks.bi) same

fit_by : (side : Side) (h : FileHead) (f : ℕ) (us : List (Option OpenUnit)) → SettlementsFit After h f us × SettlementsFit Before h f us → SettlementsFit side h f us
fit_by After h f us fit = fit.0
fit_by Before h f us fit = fit.1

pub low_by : (side : Side) (h : FileHead) (more : ℕ) → ((span_of After h).end + more ≤ 2 ^ 62) × ((span_of Before h).end + more ≤ 2 ^ 62) → (span_of side h).end + more ≤ 2 ^ 62
low_by After h more low = low.0
low_by Before h more low = low.1

-- Each file has the journals that it had, and is one of a directory block.
pub record KeepsJournals (old heads : List (Option FileHead)) : Type 0 where
  pub journals : (f : ℕ) → journals_at heads f ≡ journals_at old f
  pub told : (f : ℕ) (h : FileHead) → head_at heads f ≡ Some h → IsHead h

-- a file that has the journals of another
pub had_journals : (o : Option FileHead) (h : FileHead) → option_map journals_of o ≡ Some (journals_of h) → (x : FileHead) × (o ≡ Some x) × (journals_of x ≡ journals_of h)
had_journals None h is = let no : ⊥ = cc in absurd no
had_journals (Some x) h is = (x, refl, one (journals_of x) (journals_of h) is)
  where
    one : (x y : Journals) → Some x ≡ Some y → x ≡ y
    one x y e = cc

-- The files that tell the outcome of a unit's branch: those that it changed, where it is a unit of the journal.
abbrev pub files_telling : Bool → List Bool → List Bool
files_telling unit files = if unit then files else []

module _ (place : ℕ) (u : OpenUnit) (s : rms.UnitsState) (log : Slots) (v : VolumeState) (n : Node) (k : Key) (o : Owns place u s log v n k) where
  abbrev unit : Bool
  unit = is_unit k.serial n.durable.units

  pub told_by : (c : Settlement) → c.serial ≡ k.serial → AreToldBy c (files_telling (is_unit k.serial n.durable.units) u.files) n.durable.directory
  told_by c own f = go (is_unit k.serial n.durable.units) refl (file_at n.durable.directory f) refl
    where
      files : changed_at u.serial (file_at n.durable.directory f) ≡ has_changed u f
      files = (is_unit_of place u s log v n k o).files f

      go : (b : Bool) → is_unit k.serial n.durable.units ≡ b → (p : Option File) → file_at n.durable.directory f ≡ p → IsToldBy c (slice_index_or (if b then u.files else []) f false) p
      go true is None there = sym files ∙ ap (changed_at u.serial) there
      go true is (Some file) there = ap (changed_it file.history) (own ∙ sym o.own) ∙ sym (ap (changed_at u.serial) there) ∙ files
      go false is None there = refl
      go false is (Some file) there = ap (changed_it file.history) own ∙ unchanged n f file k.serial o.kept.has.units there is

  -- for which the journals have room
  pub room_for : (heads : List (Option FileHead)) → KeepsJournals v.catalog.heads heads → rms.IsInOrder s v → rms.IsEarly v → (c : Settlement) → IsId c.tid → IsId c.serial → c.moment < 2 ^ 64 →
      HaveRoom c (files_telling (is_unit k.serial n.durable.units) u.files) heads
  room_for heads keeps order early c tid serial bound f on = (enter After, enter Before)
    where
      changed : has_changed u f ≡ true
      changed = go (is_unit k.serial n.durable.units) on
        where
          go : (b : Bool) → slice_index_or (if b then u.files else []) f false ≡ true → has_changed u f ≡ true
          go true is = is
          go false is = let no : ⊥ = cc in absurd no

      entry_is : IsEntry (settled_entry c.tid c.serial c.outcome c.moment)
      entry_is = settled_is c.tid c.serial c.outcome c.moment tid serial bound

      same : entry_by f c.tid (outcome_of c) ≡ settled_entry c.tid c.serial c.outcome c.moment
      same = outcome_entry f c.tid c.serial c.outcome c.moment

      entry_long : length (spelling (settled_entry c.tid c.serial c.outcome c.moment)) ≡ 48
      entry_long = total_is (settled_entry c.tid c.serial c.outcome c.moment) entry_is

      enter : (side : Side) → MayEnter side f heads c.tid (outcome_of c)
      enter side h there kept =
          let old = had_journals (head_at v.catalog.heads f) h (sym (keeps.journals f) ∙ ap (option_map journals_of) there) in
          let room = room_to_settle side old.0 f s.units.places place u o.there changed (fit_by side old.0 f s.units.places (order.images f old.0 old.1)) (kept_by side old.0 h old.2 ∙ kept) in
          let low = low_by side old.0 (2 ^ 24) (early.images f old.0 old.1) in
          let span = span_by side old.0 h old.2 in
          let end : (span_of side old.0).end ≡ (span_of side h).end = ap (λ (r : Span). r.end) span in
          let long : length (spelled_entry f c.tid (outcome_of c)) ≡ 48 = ap (λ (e : Entry). length (spelling e)) same ∙ entry_long in
          record {
            can = record { is = subst IsEntry (sym same) entry_is; of = tt; suited = tt; room = subst (λ (r : Span). r.end - r.first + 48 ≤ ring_size r) span room };
            head = keeps.told f h there;
            far = omega (arith, low, end, long);
          }

-- Files keep their names.

names_after : (a b c : List (Option FileHead)) → KeepsNames a b → KeepsNames b c → KeepsNames a c
names_after a b c first second f h there = let x = first f h there in let y = second f x.0 x.1 in (y.0, y.1, y.2 ∙ x.2)

names_same : (heads : List (Option FileHead)) → KeepsNames heads heads
names_same heads f h there = (h, there, refl)

named_grown : (side : Side) (size : ℕ) (h : FileHead) → (grown side size h).name ≡ h.name
named_grown After size h = refl
named_grown Before size h = refl

one_head : (x y : FileHead) → ◌≡◌ {A = Option FileHead} (Some x) (Some y) → x ≡ y
one_head x y e = cc

names_with : (file : ℕ) (side : Side) (size : ℕ) (heads : List (Option FileHead)) → KeepsNames heads (heads_with file side size heads)
names_with file side size heads = go (head_at heads file) refl
  where
    go : (o : Option FileHead) → head_at heads file ≡ o → KeepsNames heads (files_grown o file side size heads)
    go None is = names_same heads
    go (Some x) is = by_mark (is_kept side x)
      where
        by_mark : (b : Bool) → KeepsNames heads (if b then slice_set heads file (Some (grown side size x)) else heads)
        by_mark false = names_same heads
        by_mark true = λ g h there. elim (cases_eq g file) [
          | inl here ↦ (
            grown side size x,
            ap (λ (j : ℕ). head_at (slice_set heads file (Some (grown side size x))) j) here ∙ get_or-set_same heads file (Some (grown side size x)) None (within_list heads file x is),
            named_grown side size x ∙ ap (λ (y : FileHead). y.name) (one_head x h (sym is ∙ ap (head_at heads) (sym here) ∙ there)),
          )
          | inr other ↦ (h, get_or-set_other heads file g (Some (grown side size x)) None other ∙ there, refl)
        ]

names_if : (takes : Bool) (file size : ℕ) (heads : List (Option FileHead)) → KeepsNames heads (heads_if takes file size heads)
names_if false file size heads = names_same heads
names_if true file size heads = names_after heads (heads_with file After size heads) (heads_with file Before size (heads_with file After size heads)) (names_with file After size heads) (names_with file Before size (heads_with file After size heads))

names_from : (file : ℕ) (files : List Bool) (size : ℕ) (heads : List (Option FileHead)) → KeepsNames heads (heads_from file files size heads)
names_from file [] size heads = names_same heads
names_from file (takes ∷ others) size heads = names_after heads (heads_if takes file size heads) (heads_from (suc file) others size (heads_if takes file size heads)) (names_if takes file size heads) (names_from (suc file) others size (heads_if takes file size heads))

-- What the entry of a settlement makes of the journals is what the files that tell it do.
content_telling : (b : Bool) (e : Entry) (files : List Bool) (heads : List (Option FileHead)) (c : List (List ℕ)) → content_settled (entry_if b e) files heads c ≡ content_from 0 (files_telling b files) (spelling e) heads c
content_telling true e files heads c = refl
content_telling false e files heads c = refl

heads_telling : (b : Bool) (e : Entry) (files : List Bool) (heads : List (Option FileHead)) → heads_settled (entry_if b e) files heads ≡ heads_from 0 (files_telling b files) (length (spelling e)) heads
heads_telling true e files heads = refl
heads_telling false e files heads = refl

-- A volume in whose journals a settlement was entered.
module _ (unit : Bool) (files : List Bool) (c : Settlement) (old mid : VolumeState) (enters : EntersSettled files (entry_if unit (settled_entry c.tid c.serial c.outcome c.moment)) old mid) where
  spelled : spelling (settled_entry c.tid c.serial c.outcome c.moment) ≡ spelled_entry 0 c.tid (outcome_of c)
  spelled = ap spelling (sym (outcome_entry 0 c.tid c.serial c.outcome c.moment))

  -- the content that tells the outcome
  abbrev pub imaged : List (List ℕ) → List (List ℕ)
  imaged b = content_from 0 (files_telling unit files) (spelled_entry 0 c.tid (outcome_of c)) old.catalog.heads b

  pub imaged_current : mid.store.current ≡ option_map (content_from 0 (files_telling unit files) (spelled_entry 0 c.tid (outcome_of c)) old.catalog.heads) old.store.current
  imaged_current = enters.current ∙ (λ i. option_map (λ b.
      (content_telling unit (settled_entry c.tid c.serial c.outcome c.moment) files old.catalog.heads b ∙ (λ j. content_from 0 (files_telling unit files) (spelled j) old.catalog.heads b)) i) old.store.current)

  pub imaged_told : (b : List (List ℕ)) → old.store.current ≡ Some b → mid.store.current ≡ Some (imaged b)
  imaged_told b told = imaged_current ∙ ap (option_map (content_from 0 (files_telling unit files) (spelled_entry 0 c.tid (outcome_of c)) old.catalog.heads)) told

  pub imaged_catalog : mid.catalog ≡ record old.catalog { heads = heads_from 0 (files_telling unit files) (length (spelled_entry 0 c.tid (outcome_of c))) old.catalog.heads }
  imaged_catalog = enters.catalog ∙ (λ i. record old.catalog { heads = heads_telling unit (settled_entry c.tid c.serial c.outcome c.moment) files old.catalog.heads i })
      ∙ (λ i. record old.catalog { heads = heads_from 0 (files_telling unit files) (length (spelled i)) old.catalog.heads })

  pub names_imaged : KeepsNames old.catalog.heads mid.catalog.heads
  names_imaged = subst (KeepsNames old.catalog.heads) (sym (ap (λ (y : Catalog). y.heads) imaged_catalog)) (names_from 0 (files_telling unit files) (length (spelled_entry 0 c.tid (outcome_of c))) old.catalog.heads)

  pub imaged_home : mid.catalog.home ≡ old.catalog.home
  imaged_home = ap (λ (y : Catalog). y.home) imaged_catalog

  pub imaged_ru : mid.catalog.ru ≡ old.catalog.ru
  imaged_ru = ap (λ (y : Catalog). y.ru) imaged_catalog

  pub told_in : (d : List (Option File)) (b : List (List ℕ)) → AreToldBy c (files_telling unit files) d → HaveRoom c (files_telling unit files) old.catalog.heads → Fit (data_area (sizes_of old.catalog.home)) old.catalog.heads → EachWhole b → IsToldIn c d b (imaged b) old.catalog mid.catalog
  told_in d b by room fit whole = record { files = files_telling unit files; by = by; room = room; fit = fit; whole = whole; content = refl; catalog = imaged_catalog }
