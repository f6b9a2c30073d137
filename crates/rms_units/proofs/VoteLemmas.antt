-- What holds of units and a volume on any disk, where a unit votes and where one that voted yes is settled.
use Rattle.std.proofs.Common.{◌≡◌, ℕ, ◌+◌, ◌-◌, ◌<◌, ◌≤◌, ◌^◌, ◌==◌, Bool, true, false, List, [], ◌∷◌, Option, Some, None, length, slice_set, if◌then◌else◌, not, refl, sym, ap, subst, ◌∙◌, arith}
use Rattle.careful_write.specs.State.{IsIdle}
use Rattle.change_set.specs.Files.{free_frames}
use Rattle.unit_entries.specs.commit_protocol.Messages.{LogRecord, Name}
use Rattle.file_base.specs.declared.head.Span.{Span}
use Rattle.journal_model.specs.Entries.{Entry}
use Rattle.journal_model.specs.Ring.{ring_size}
use Rattle.unit_entries.specs.log_laws.Slots.{Slots}
use Rattle.unit_restarts.specs.unit_aborts.Aborting.{abort_entry}
use Rattle.unit_journal.specs.Entries.{settled_entry}
use Rattle.unit_journal.specs.Groups.{GrowsOnce}
use Rattle.unit_journal.specs.Settling.{next_moment, span_with}
use Rattle.unit_table.specs.Units.{OpenUnit, owed, owed_for, prepared_unit, unit_at}
use Rattle.unit_votes.specs.Logging.{SetsRecord, nothing, written}
use Rattle.unit_votes.specs.Voting.{AbortsLogged, MakesLogged, MakesVote, vote_entry, vote_record}
use Rattle.vms_base.specs.Ids.{serial_of, tid_of}
use Rattle.vms_base.specs.declared.ids.Serial.{Serial}
use Rattle.vms_base.specs.declared.ids.Tid.{Tid}
use Rattle.vms_base.specs.declared.outcomes.Reason.{Reason}
use Rattle.vms_model.specs.Ids.{Id}
use Rattle.vms_model.specs.Transactions.{Abort}
use Rattle.volume.specs.Catalogs.{IsSound}
use Rattle.volume.specs.State.{Holds, VolumeState}
use Rattle.volume.specs.declared.catalog.Catalog.{Catalog}
use Rattle.volume_format.specs.declared.home.Ending.TheVariants as ending
use Rattle.rms_units.specs.Aborting.{abortion_of}
use Rattle.rms_units.specs.Calls.{is_some_change}
use Rattle.rms_units.specs.State.{AreAscending, Ascend, IsEarly, IsInOrder, UnitsState, unit_of, without_place}
use Rattle.rms_units.specs.Voting.{MakesVoteOf, commit_of}
use Rattle.rms_units.proofs.AbortLemmas.{entry_owed}
use Rattle.rms_units.proofs.OrderLemmas.{owed_set}
use Rattle.rms_units.proofs.PositionLemmas.{ascend_longer, ascending_gone, ascending_within, each_put, owed_gone}
use Rattle.rms_units.proofs.SettledLemmas.{bytes_of, has_some, next_bound, next_later, order_settled_in, owed_some, sound_with, with_blocks, with_end, with_first}
use Rattle.image_room.specs.Room.{AllSettlementsFit, ImagesAreLow}
use Rattle.rms_units.proofs.ImageOrder.{fits_gone, fits_same_files}
use Rattle.unit_restarts.proofs.unit_aborts.ImageLemmas.{fit_on, low_less, low_on}
use Rattle.volume_files.proofs.Places.{within_list}

-- what sets a record of the log leaves what is kept of the volume
pub catalog_set : (serial : Id) (entry : Option LogRecord) (ss ts : Slots) (v w : VolumeState) → SetsRecord serial entry ss ts v w → w.catalog ≡ v.catalog
catalog_set serial entry ss ts v w (written slots writes) = writes.catalog
catalog_set serial entry ss ts v w (nothing none free same current catalog) = catalog

-- A unit is prepared.

-- and owed less by as much as its entry takes
owed_prepared : (prepared : Bool) (ps : List ℕ) → prepared ≡ false → owed_for true ps + (if is_some_change ps then 48 else 0) ≡ owed_for prepared ps
owed_prepared true ps active = let no : ⊥ = cc in absurd no
owed_prepared false [] active = refl
owed_prepared false (p ∷ ps) active = refl

module _ (place : ℕ) (u : OpenUnit) (r : LogRecord) (e : Option Entry) (ss ts : Slots) (s t : UnitsState) (v w : VolumeState) (at : unit_of place s ≡ Some u) (active : u.prepared ≡ false)
    (places : t.units.places ≡ slice_set s.units.places place (Some (prepared_unit u))) (makes : MakesVote r e ss ts v w) (ends : w.catalog.ru.end ≡ v.catalog.ru.end + (if is_some_change u.positions then 48 else 0)) where
  below : place < length s.units.places
  below = within_list s.units.places place u at

  ru : w.catalog.ru ≡ span_with e v.catalog.ru
  ru = ap (λ (c : Catalog). c.ru) makes.catalog

  first : w.catalog.ru.first ≡ v.catalog.ru.first
  first = ap (λ (x : Span). x.first) ru ∙ with_first e v.catalog.ru

  blocks : w.catalog.ru.blocks ≡ v.catalog.ru.blocks
  blocks = ap (λ (x : Span). x.blocks) ru ∙ with_blocks e v.catalog.ru

  abbrev more : ℕ
  more = if is_some_change u.positions then 48 else 0

  ascends : IsInOrder s v → AreAscending w.catalog.ru.first w.catalog.ru.end t.units.places
  ascends o = subst (AreAscending w.catalog.ru.first w.catalog.ru.end) (sym places)
      (subst (λ (n : ℕ). AreAscending n w.catalog.ru.end (slice_set s.units.places place (Some (prepared_unit u)))) (sym first)
      (subst (λ (n : ℕ). AreAscending v.catalog.ru.first n (slice_set s.units.places place (Some (prepared_unit u)))) (sym ends)
      (each_put (Ascend v.catalog.ru.first v.catalog.ru.end) (Ascend v.catalog.ru.first (v.catalog.ru.end + more)) s.units.places place (Some (prepared_unit u)) below o.ascending (ascend_longer v.catalog.ru.first v.catalog.ru.end more)
      (λ x same. let it : prepared_unit u ≡ x = cc in subst (λ (y : OpenUnit). Ascend v.catalog.ru.first (v.catalog.ru.end + more) y.positions) it (ascend_longer v.catalog.ru.first v.catalog.ru.end more u.positions (o.ascending place u at))))))

  pub order_voted : IsInOrder s v → IsIdle w.store → Holds w → w.store.disk.size ≡ v.store.disk.size → w.store.pool ≡ v.store.pool → IsInOrder t w
  order_voted o idle holds size pool = record {
    idle = idle;
    frames = subst (λ ps. 32 ≤ free_frames ps) (sym pool) o.frames;
    heads = ap (λ (c : Catalog). length c.heads) makes.catalog ∙ o.heads;
    sound = subst (λ (n : ℕ). IsSound w.catalog.home.node n w.catalog) (sym size)
        (subst (λ (c : Catalog). IsSound c.home.node v.store.disk.size c) (sym makes.catalog) (sound_with v.catalog.home.node v.store.disk.size e v.catalog o.sound));
    holds = holds;
    least = let a = o.least in omega (arith, a, size);
    most = let a = o.most in omega (arith, a, size);
    ascends = let a = o.ascends in omega (arith, a, first, ends);
    room =
        let a = o.room in
        let b = o.ascends in
        let set = owed_set s.units.places place u (prepared_unit u) at in
        let less = owed_prepared u.prepared u.positions active in
        let now = ap owed places in
        omega (arith, a, b, set, less, now, first, ends, blocks);
    within = ascending_within w.catalog.ru.first w.catalog.ru.end t.units.places (ascends o);
    ascending = ascends o;
    images = subst (λ (us : List (Option OpenUnit)). AllSettlementsFit us w.catalog.heads) (sym places)
        (subst (λ (c : Catalog). AllSettlementsFit (slice_set s.units.places place (Some (prepared_unit u))) c.heads) (sym makes.catalog) (fits_same_files s.units.places v.catalog.heads place u (prepared_unit u) at below refl o.images));
  }

-- A unit is settled, and what the log has of it is set in the same group.
module _ (place : ℕ) (u : OpenUnit) (tid : Tid) (serial : Serial) (clock moment : ℕ) (ss ts : Slots) (s t : UnitsState) (v w : VolumeState) (at : unit_of place s ≡ Some u) (is : moment ≡ next_moment clock v.catalog.home) (spent : t ≡ without_place place u.serial s) where
  gone : t.units.places ≡ slice_set s.units.places place None
  gone = ap (λ (x : UnitsState). x.units.places) spent

  later : v.catalog.home.greatest_moment.0 ≤ moment
  later = let a = next_later clock v.catalog.home in omega (arith, a, is)

  bound : IsEarly v → clock < 24000001000066 → moment ≤ 24000001000066
  bound early before = let a = next_bound clock v.catalog.home early.moment before in omega (arith, a, is)

  pub order_committed_logged : (rec : Option LogRecord) → IsInOrder s v → IsEarly v → clock < 24000001000066 → MakesLogged (commit_of u tid serial moment t) rec ss ts v w → w.catalog.ru.end ≡ v.catalog.ru.end + (if is_some_change u.positions then 48 else 0)
      → IsIdle w.store → Holds w → w.store.disk.size ≡ v.store.disk.size → w.store.pool ≡ v.store.pool → IsInOrder t w
  order_committed_logged rec o early before makes end idle holds size pool =
      let logged = makes.logged in
      let settles = makes.makes in
      let entry : Option Entry = (commit_of u tid serial moment t).entry in
      let same : logged.catalog ≡ v.catalog = catalog_set (serial_of serial) rec ss ts v logged makes.log in
      let ru_end : settles.mid.catalog.ru.end ≡ v.catalog.ru.end = ap (λ (c : Catalog). c.ru.end) settles.entered.catalog ∙ ap (λ (c : Catalog). c.ru.end) same in
      let ends : w.catalog.ru.end ≡ settles.mid.catalog.ru.end + bytes_of entry = ap (λ (c : Catalog). c.ru.end) settles.settles.catalog ∙ with_end entry settles.mid.catalog.ru in
      let owes = owed_some u.prepared u.positions in
      let most = at_most (is_some_change u.positions) in
      order_settled_in place u tid serial ending.Commit moment entry s t v logged w o at gone (ap (λ (c : Catalog). c.home) same) (ap (λ (c : Catalog). c.ru) same) (ap (λ (c : Catalog). length c.heads) same ∙ o.heads)
      (subst (IsSound v.catalog.home.node v.store.disk.size) (sym same) o.sound) (subst (λ (c : Catalog). ImagesAreLow 48 c.heads) (sym same) (low_less 48 (2 ^ 24) v.catalog.heads (omega arith) early.images))
      (subst (λ (c : Catalog). AllSettlementsFit s.units.places c.heads) (sym same) o.images) later (bound early before) (omega (arith, ru_end, ends, end, most)) (omega (arith, ru_end, ends, end, owes)) settles idle holds size pool
    where
      at_most : (b : Bool) → (if b then 48 else 0) ≤ 48
      at_most true = omega arith
      at_most false = omega arith

  pub order_aborted_logged : (reason : Reason) → IsInOrder s v → IsEarly v → clock < 24000001000066 → AbortsLogged (abortion_of u tid serial reason moment t) ss ts v w → GrowsOnce moment v w
      → IsIdle w.store → Holds w → w.store.disk.size ≡ v.store.disk.size → w.store.pool ≡ v.store.pool → IsInOrder t w
  order_aborted_logged reason o early before aborts once idle holds size pool =
      let mid = aborts.mid in
      let logged = aborts.makes.logged in
      let entry : Option Entry = abort_entry (abortion_of u tid serial reason moment t) in
      let set : logged.catalog ≡ mid.catalog = catalog_set (serial_of serial) None ss ts mid logged aborts.makes.log in
      let home = ap (λ (c : Catalog). c.home) (set ∙ aborts.goes.catalog) in
      let ru = ap (λ (c : Catalog). c.ru) (set ∙ aborts.goes.catalog) in
      let settles = aborts.makes.makes in
      let same : settles.mid.catalog.ru.end ≡ v.catalog.ru.end = ap (λ (c : Catalog). c.ru.end) settles.entered.catalog ∙ ap (λ (c : Catalog). c.ru.end) (set ∙ aborts.goes.catalog) in
      let ends : w.catalog.ru.end ≡ settles.mid.catalog.ru.end + bytes_of entry = ap (λ (c : Catalog). c.ru.end) settles.settles.catalog ∙ with_end entry settles.mid.catalog.ru in
      let few : bytes_of entry ≤ 48 = let a = once.end in omega (arith, a, ends, same) in
      let owes = entry_owed u.prepared u.positions (settled_entry (tid_of tid) (serial_of serial) Abort moment) few in
      order_settled_in place u tid serial (ending.Abort reason) moment entry s t v logged w o at gone home ru (ap (λ (c : Catalog). length c.heads) set ∙ aborts.goes.long ∙ o.heads)
      (subst (IsSound v.catalog.home.node v.store.disk.size) (sym set) (aborts.goes.sound v.catalog.home.node o.sound))
      (subst (λ (c : Catalog). ImagesAreLow 48 c.heads) (sym set) (low_on v mid aborts.goes.journals 48 (low_less 48 (2 ^ 24) v.catalog.heads (omega arith) early.images)))
      (subst (λ (c : Catalog). AllSettlementsFit s.units.places c.heads) (sym set) (fit_on s.units.places v mid aborts.goes.journals o.images)) later (bound early before) few owes settles idle holds size pool

-- A unit is no more, and nothing is written.
pub order_spent : (place : ℕ) (u : OpenUnit) (s t : UnitsState) (v : VolumeState) → unit_of place s ≡ Some u → t ≡ without_place place u.serial s → IsInOrder s v → IsInOrder t v
order_spent place u s t v at spent o = record {
  idle = o.idle;
  frames = o.frames;
  heads = o.heads;
  sound = o.sound;
  holds = o.holds;
  least = o.least;
  most = o.most;
  ascends = o.ascends;
  room = let a = o.room in let less = owed_gone s.units.places place u at in let now = ap owed gone in omega (arith, a, less, now);
  within = ascending_within v.catalog.ru.first v.catalog.ru.end t.units.places each;
  ascending = each;
  images = subst (λ (us : List (Option OpenUnit)). AllSettlementsFit us v.catalog.heads) (sym gone) (fits_gone s.units.places v.catalog.heads place (within_list s.units.places place u at) o.images);
}
  where
    gone : t.units.places ≡ slice_set s.units.places place None
    gone = ap (λ (x : UnitsState). x.units.places) spent

    each : AreAscending v.catalog.ru.first v.catalog.ru.end t.units.places
    each = subst (AreAscending v.catalog.ru.first v.catalog.ru.end) (sym gone) (ascending_gone v.catalog.ru.first v.catalog.ru.end s.units.places place (within_list s.units.places place u at) o.ascending)

-- whether a unit changed something
pub is_changed : (empty : Bool) (ps qs : List ℕ) → empty ≡ (length ps == 0) → ps ≡ qs → not empty ≡ is_some_change qs
is_changed empty ps qs is same = ap not is ∙ has_some ps ∙ ap is_some_change same

-- what holds of a vote holds of a unit's vote
pub vote_of : (F : (VolumeState → Type 0) → Type 0) (u : OpenUnit) (tid serial : Id) (rms : List Name) (changed : Bool) (ss ts : Slots) (v : VolumeState) → tid ≡ u.tid → serial ≡ u.serial → changed ≡ is_some_change u.positions
    → F (MakesVote (vote_record tid serial rms) (vote_entry changed tid serial) ss ts v) → F (MakesVoteOf u rms ss ts v)
vote_of F u tid serial rms changed ss ts v a b c = subst F (λ i. MakesVote (vote_record (a i) (b i) rms) (vote_entry (c i) (a i) (b i)) ss ts v)
