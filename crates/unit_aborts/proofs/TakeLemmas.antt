-- Units are aborted one after another.
use Rattle.std.proofs.Common.{◌≡◌, ℕ, zero, suc, ◌+◌, ◌-◌, ◌*◌, ◌^◌, ◌<◌, ◌≤◌, not, nat_le, Bool, true, false, List, [], ◌∷◌, Option, Some, None, IfSome, length, map, if◌then◌else◌, refl, sym, ap, subst, ◌∙◌, arith, inl, inr}
use Rattle.std.specs.Prelude.{unwrap_or, nat_lt, option_map, slice_index_or, IsSome}
use Rattle.std.specs.List.{All, AllByRecursion}
use Rattle.std.proofs.lemmas.Bool.{leb-false}
use Rattle.std.proofs.lemmas.Bool.Decides.{nat_tests}
use Rattle.std.proofs.lemmas.List.Elements.{All-head, All-weaker}
use Rattle.block_disk.specs.Disk.{DiskState}
use Rattle.careful_write.specs.State.{IsIdle}
use Rattle.careful_write.specs.Steps.{Quiet}
use Rattle.careful_write.proofs.Reading.{idle_read}
use Rattle.unit_journal.specs.change_set.Files.{free_frames}
use Rattle.file_base.specs.declared.head.FileHead.{FileHead}
use Rattle.file_base.specs.declared.head.Span.{Span}
use Rattle.journal_format.specs.journal_model.Entries.{Entry}
use Rattle.journal_format.specs.journal_model.Ring.{IsJournal, ring_size}
use Rattle.unit_journal.specs.journal_store.Rings.{IsRing}
use Rattle.ru_journal.specs.Told.{UnitTold}
use Rattle.unit_entries.specs.Opening.{AreAlike, AreChangesIn, AreFiledIn, AreFiledOf, AreFilesOf, AscendWithin, BeginWithin, IsAlike}
use Rattle.unit_entries.specs.Reading.{placed, positions_of}
use Rattle.unit_entries.proofs.OpenLemmas.{all_less, first_holds}
use Rattle.unit_journal.specs.Settling.{MakesSettlement, content_with, from_earliest, next_moment, settled_home, span_with, starting, with_front}
use Rattle.unit_table.specs.Places.{AreInOrder}
use Rattle.unit_table.specs.Units.{Ascend, OpenUnit, Units, begun, changers, earlier, earliest, first_of, first_that, is_active, one_changer, unit_at, without_first, without_place}
use Rattle.unit_table.proofs.BegunLemmas.{earliest_in, earliest_seen}
use Rattle.unit_table.proofs.OrderLemmas.{gone_in_order}
use Rattle.vms_base.specs.declared.ids.Serial.{Serial}
use Rattle.vms_base.specs.declared.ids.Tid.{Tid}
use Rattle.vms_base.specs.declared.outcomes.Reason.TheVariants as reason
use Rattle.volume.specs.declared.catalog.Catalog.{Catalog}
use Rattle.volume.specs.Catalogs.{IsSound, head_at}
use Rattle.volume.specs.Limits.{EntryFits, SaveFits}
use Rattle.volume.specs.State.{VolumeState, Holds, SameVolume}
use Rattle.volume.proofs.Reading.{store_of_same}
use Rattle.volume_format.specs.declared.home.Ending.{Ending}
use Rattle.volume_format.specs.declared.home.Ending.TheVariants as ending
use Rattle.volume_format.specs.declared.home.Home.{Home}
use Rattle.kept_files.specs.file_settlements.Settling.{SettlesFiles, heads_settled}
use Rattle.image_room.specs.image_appends.declared.side.Side.{Side}
use Rattle.image_room.specs.image_appends.declared.side.Side.TheVariants.{After, Before}
use Rattle.image_room.specs.image_appends.Images.{FileHasRoom}
use Rattle.image_room.proofs.Entered.{Counts}
use Rattle.image_room.proofs.Rings.{ring_in}
use Rattle.image_room.specs.Room.{AllSettlementsFit, ImagesAreLow, SettlementsFit}
use Rattle.unit_aborts.specs.Aborting.{Aborts, BreaksOff, HasRoom, ImagesHaveRoom, MayAbort, abort_entry}
use Rattle.unit_aborts.proofs.ImageLemmas.{fit_on, fit_told, long_told, low_less, low_on, low_told, sound_told}
use Rattle.unit_aborts.specs.Reopening.{AreFoundIn, MayReopen, MayTake, but_next, failed_at, left_unit, left_units, next_of}

-- A later moment.

save_later : (saved : Bool) (a b : ℕ) (h : FileHead) → a ≤ b → SaveFits saved a h → SaveFits saved b h
save_later true a b h le s = record { buckets = s.buckets; position = s.position; moment = let m = s.moment in omega (arith, m, le) }
save_later false a b h le s = s

entry_later : (a b : ℕ) (o : Option FileHead) → a ≤ b → EntryFits a o → EntryFits b o
entry_later a b None le e = tt
entry_later a b (Some h) le e = record {
  bucket = e.bucket;
  keys = e.keys;
  buckets = e.buckets;
  ai = e.ai;
  bi = e.bi;
  since = let m = e.since in omega (arith, m, le);
  save = save_later h.marks.save a b h le e.save;
}

sound_settled : (node : List ℕ) (size : ℕ) (tid : Tid) (serial : Serial) (ending : Ending) (moment : ℕ) (c : Catalog) (ru : Span) → c.home.greatest_moment.0 ≤ moment → moment ≤ 24000001000066 →
    ru.start ≡ c.ru.start → ru.blocks ≡ c.ru.blocks → IsSound node size c → IsSound node size (record c { home = settled_home tid serial ending moment c.home; ru = ru })
sound_settled node size tid serial ending moment c ru later bound start blocks s = record {
  version = s.version;
  sizes = s.sizes;
  home = record { owner = s.home.owner; moment = omega (arith, bound) };
  files = λ f below. entry_later c.home.greatest_moment.0 moment (head_at c.heads f) later (s.files f below);
  names = s.names;
  extents = s.extents;
  ru_start = start ∙ s.ru_start;
  ru_blocks = blocks ∙ s.ru_blocks;
}

-- Where the journal begins with the units that are left.

abbrev IsWithin : (from to : ℕ) → Option ℕ → Type 0
IsWithin from to None = Unit {0}
IsWithin from to (Some p) = (from ≤ p) × (p ≤ to)

earlier_within : (from to : ℕ) (a b : Option ℕ) → IsWithin from to a → IsWithin from to b → IsWithin from to (earlier a b)
earlier_within from to None b x y = y
earlier_within from to (Some m) None x y = x
earlier_within from to (Some m) (Some n) x y = (omega (arith, x.0, y.0), omega (arith, x.1))

first_within : (from to : ℕ) (ps : List ℕ) → All (λ p. (from ≤ p) × (p ≤ to)) ps → IsWithin from to (first_of ps)
first_within from to [] all = tt
first_within from to (p ∷ ps) all = All-head (λ q. (from ≤ q) × (q ≤ to)) p ps all

abbrev AreWithin : (from to : ℕ) → List OpenUnit → Type 0
AreWithin from to us = AllByRecursion (λ (u : OpenUnit). All (λ p. (from ≤ p) × (p ≤ to)) u.positions) us

earliest_within : (from to : ℕ) (us : List OpenUnit) → AreWithin from to us → IsWithin from to (earliest (map Some us))
earliest_within from to [] all = tt
earliest_within from to (u ∷ us) all = earlier_within from to (first_of u.positions) (earliest (map Some us)) (first_within from to u.positions all.0) (earliest_within from to us all.1)

-- No change begins before the earliest.

abbrev IsLeastOf : Option ℕ → List ℕ → Type 0
IsLeastOf o [] = Unit {0}
IsLeastOf None (p ∷ ps) = ⊥
IsLeastOf (Some n) (p ∷ ps) = n ≤ p

least_self : (o : Option ℕ) (ps : List ℕ) → IsLeastOf (earlier (first_of ps) o) ps
least_self o [] = tt
least_self None (p ∷ ps) = omega arith
least_self (Some n) (p ∷ ps) = omega arith

least_more : (a o : Option ℕ) (ps : List ℕ) → IsLeastOf o ps → IsLeastOf (earlier a o) ps
least_more a o [] is = tt
least_more a None (p ∷ ps) is = absurd is
least_more None (Some n) (p ∷ ps) is = is
least_more (Some m) (Some n) (p ∷ ps) is = omega (arith, is)

all_more : (a o : Option ℕ) (us : List OpenUnit) → AllByRecursion (λ (u : OpenUnit). IsLeastOf o u.positions) us → AllByRecursion (λ (u : OpenUnit). IsLeastOf (earlier a o) u.positions) us
all_more a o [] all = tt
all_more a o (u ∷ us) all = (least_more a o u.positions all.0, all_more a o us all.1)

earliest_least : (us : List OpenUnit) → AllByRecursion (λ (u : OpenUnit). IsLeastOf (earliest (map Some us)) u.positions) us
earliest_least [] = tt
earliest_least (u ∷ us) = (least_self (earliest (map Some us)) u.positions, all_more (first_of u.positions) (earliest (map Some us)) us (earliest_least us))

ascend_longer : (from a b : ℕ) (ps : List ℕ) → a ≤ b → Ascend from a ps → Ascend from b ps
ascend_longer from a b [] le all = omega (arith, le, all)
ascend_longer from a b (p ∷ ps) le all = (all.0, ascend_longer (p + 1) a b ps le all.1)

ascend_again : (a b c d : ℕ) (o : Option ℕ) (ps : List ℕ) → b ≤ d → c ≡ unwrap_or o d → c ≤ d → IsLeastOf o ps → Ascend a b ps → Ascend c d ps
ascend_again a b c d o [] le is order least all = order
ascend_again a b c d None (p ∷ ps) le is order least all = absurd least
ascend_again a b c d (Some n) (p ∷ ps) le is order least all = (omega (arith, is, least), ascend_longer (p + 1) b d ps le all.1)

ascends_again : (a b c d : ℕ) (o : Option ℕ) (us : List OpenUnit) → b ≤ d → c ≡ unwrap_or o d → c ≤ d → AllByRecursion (λ (u : OpenUnit). IsLeastOf o u.positions) us → AscendWithin a b us → AscendWithin c d us
ascends_again a b c d o [] le is order least all = tt
ascends_again a b c d o (u ∷ us) le is order least all = (ascend_again a b c d o u.positions le is order least.0 all.0, ascends_again a b c d o us le is order least.1 all.1)

or_end : (from to : ℕ) (o : Option ℕ) → from ≤ to → IsWithin from to o → (from ≤ unwrap_or o to) × (unwrap_or o to ≤ to)
or_end from to None order is = (order, omega arith)
or_end from to (Some p) order is = is

longer_within : (from to more : ℕ) (us : List OpenUnit) → to ≤ more → AreWithin from to us → AreWithin from more us
longer_within from to more [] le all = tt
longer_within from to more (u ∷ us) le all = (All-weaker (λ p. (from ≤ p) × (p ≤ to)) (λ p. (from ≤ p) × (p ≤ more)) (λ p is. (is.0, (let last = is.1 in omega (arith, last, le)))) u.positions all.0, longer_within from to more us le all.1)

with_start : (e : Option Entry) (s : Span) → (span_with e s).start ≡ s.start
with_start None s = refl
with_start (Some e) s = refl

with_blocks : (e : Option Entry) (s : Span) → (span_with e s).blocks ≡ s.blocks
with_blocks None s = refl
with_blocks (Some e) s = refl

-- the next moment is later, and near
next_moment_is : (clock : ℕ) (home : Home) (more most : ℕ) → home.greatest_moment.0 + (more + 1) ≤ most → clock + (more + 1) ≤ most → (home.greatest_moment.0 ≤ next_moment clock home) × (next_moment clock home + more ≤ most)
next_moment_is clock home more most g c = go (nat_le clock (home.greatest_moment.0 + 1)) refl
  where
    go : (b : Bool) → nat_le clock (home.greatest_moment.0 + 1) ≡ b → (home.greatest_moment.0 ≤ (if b then home.greatest_moment.0 + 1 else clock)) × ((if b then home.greatest_moment.0 + 1 else clock) + more ≤ most)
    go true e = (omega arith, omega (arith, g))
    go false e = let far = leb-false clock (home.greatest_moment.0 + 1) e in (omega (arith, far), omega (arith, c))

longer_with : (e : Option Entry) (s : Span) → s.end ≤ (span_with e s).end
longer_with None s = omega arith
longer_with (Some e) s = omega arith

-- Of the units that are left no more counts than where the earliest change begins.

settles_as : (tid : Tid) (serial : Serial) (ending : Ending) (moment : ℕ) (e : Option Entry) (a b : List (Option OpenUnit)) (v w : VolumeState) → earliest a ≡ earliest b → MakesSettlement tid serial ending moment e a v w → MakesSettlement tid serial ending moment e b v w
settles_as tid serial ending moment e a b v w same m = record {
  current = m.current ∙ ap (λ (o : Option ℕ). option_map (λ c. with_front (settled_home tid serial ending moment v.catalog.home) (starting o (span_with e v.catalog.ru)) (content_with e v.catalog.ru c)) v.store.current) same;
  catalog = m.catalog ∙ ap (λ (o : Option ℕ). record v.catalog { home = settled_home tid serial ending moment v.catalog.home; ru = starting o (span_with e v.catalog.ru) }) same;
}

makes_as : (files : List Bool) (tid : Tid) (serial : Serial) (ending : Ending) (moment : ℕ) (e : Option Entry) (a b : List (Option OpenUnit)) (v w : VolumeState) → earliest a ≡ earliest b → SettlesFiles files tid serial ending moment e a v w → SettlesFiles files tid serial ending moment e b v w
makes_as files tid serial ending moment e a b v w same s = record { mid = s.mid; entered = s.entered; settles = settles_as tid serial ending moment e a b s.mid w same s.settles }

pub aborts_as : (ps : List ℕ) (files : List Bool) (tid : Tid) (serial : Serial) (moment : ℕ) (a b : List (Option OpenUnit)) (v w : VolumeState) → earliest a ≡ earliest b → Aborts (failed_at ps files tid serial moment a) v w → Aborts (failed_at ps files tid serial moment b) v w
aborts_as ps files tid serial moment a b v w same x = record {
  mid = x.mid;
  goes = x.goes;
  undoes = x.undoes;
  makes = makes_as files tid serial (ending.Abort reason.SegFail) moment (abort_entry (failed_at ps files tid serial moment a)) a b x.mid w same x.makes;
}

pub breaks_as : (ps : List ℕ) (files : List Bool) (tid : Tid) (serial : Serial) (moment : ℕ) (a b : List (Option OpenUnit)) (v w : VolumeState) → earliest a ≡ earliest b → BreaksOff (failed_at ps files tid serial moment a) v w → BreaksOff (failed_at ps files tid serial moment b) v w
breaks_as ps files tid serial moment a b v w same (inl fails) = inl fails
breaks_as ps files tid serial moment a b v w same (inr x) = inr record {
  mid = x.mid;
  goes = x.goes;
  undoes = x.undoes;
  breaks = elim x.breaks [
    | inl old ↦ inl old
    | inr either ↦ inr record { made = either.made; is = makes_as files tid serial (ending.Abort reason.SegFail) moment (abort_entry (failed_at ps files tid serial moment a)) a b x.mid either.made same either.is; either = either.either }
  ];
}

-- The units of a table.

pub some_units : (us : List OpenUnit) → earliest (map Some us) ≡ earliest_in us
some_units [] = refl
some_units (u ∷ us) = ap (earlier (first_of u.positions)) (some_units us)

pub one_fewer : (P : OpenUnit → Bool) (us : List OpenUnit) (u : OpenUnit) → first_that P us ≡ Some u → length us ≡ length (without_first P us) + 1
one_fewer P [] u at = let never : ⊥ = cc in absurd never
one_fewer P (w ∷ us) u at = go (P w) at (one_fewer P us u)
  where
    go : (b : Bool) → (if b then Some w else first_that P us) ≡ Some u → (first_that P us ≡ Some u → length us ≡ length (without_first P us) + 1) → length (w ∷ us) ≡ length (if b then us else w ∷ without_first P us) + 1
    go true here rest = omega arith
    go false here rest = let more = rest here in omega (arith, more)

no_changes : (k : ℕ) → 0 ≡ k → nat_lt 0 k ≡ false
no_changes k is = grind (arith, nat_tests, is)

some_changes : (k : ℕ) → 1 ≤ k → nat_lt 0 k ≡ true
some_changes k le = grind (arith, nat_tests, le)

left_first : (changes first : ℕ) (u : UnitTold) (ps : List ℕ) → length ps ≡ changes → (1 ≤ changes → first_of ps ≡ Some first) → (rest : Option ℕ) (us : List (Option OpenUnit)) → earliest us ≡ rest →
    earliest (left_unit u (if nat_lt 0 changes then Some first else None) ∷ us) ≡ earlier (first_of ps) rest
left_first changes first u [] long is rest us at = (λ k. earliest (left_unit u (if no_changes changes long k then Some first else None) ∷ us)) ∙ at
left_first changes first u (p ∷ ps) long is rest us at =
    let some : 1 ≤ changes = omega (arith, long) in
    (λ k. earliest (left_unit u (if some_changes changes some k then Some first else None) ∷ us)) ∙ (λ k. earlier (sym (is some) k) (at k))

pub left_begins : (us : List UnitTold) (ws : List OpenUnit) → AreAlike us ws → earliest (left_units us) ≡ earliest (map Some ws)
left_begins [] [] a = refl
left_begins [] (w ∷ ws) a = absurd a
left_begins (u ∷ us) [] a = absurd a
left_begins (u ∷ us) (w ∷ ws) a = left_first u.changes u.first u w.positions a.0.changes a.0.first (earliest (map Some ws)) (left_units us) (left_begins us ws a.1)

-- The next of those that are told is that of the table.

pub next_alike : (us : List UnitTold) (ws : List OpenUnit) (w : OpenUnit) → AreAlike us ws → first_that is_active ws ≡ Some w → (u : UnitTold) × (next_of us ≡ Some u) × IsAlike u w
next_alike [] [] w a at = let never : ⊥ = cc in absurd never
next_alike [] (y ∷ ws) w a at = absurd a
next_alike (u ∷ us) [] w a at = absurd a
next_alike (u ∷ us) (y ∷ ws) w a at = go u.prepared refl y.prepared a.0.prepared at (next_alike us ws w a.1)
  where
    same : ◌≡◌ {A = Option OpenUnit} (Some y) (Some w) → y ≡ w
    same e = cc

    go : (b : Bool) → u.prepared ≡ b → (c : Bool) → c ≡ u.prepared → (if not c then Some y else first_that is_active ws) ≡ Some w → (first_that is_active ws ≡ Some w → (v : UnitTold) × (next_of us ≡ Some v) × IsAlike v w) →
        (v : UnitTold) × ((if u.prepared then next_of us else Some u) ≡ Some v) × IsAlike v w
    go true is true e here rest = let r = rest here in (r.0, ap (λ (b : Bool). if b then next_of us else Some u) is ∙ r.1, r.2)
    go false is false e here rest = (u, ap (λ (b : Bool). if b then next_of us else Some u) is, subst (IsAlike u) (same here) a.0)
    go true is false e here rest = let never : ⊥ = cc in absurd never
    go false is true e here rest = let never : ⊥ = cc in absurd never

pub none_alike : (us : List UnitTold) (ws : List OpenUnit) → AreAlike us ws → first_that is_active ws ≡ None → next_of us ≡ None
none_alike [] [] a none = refl
none_alike [] (y ∷ ws) a none = absurd a
none_alike (u ∷ us) [] a none = absurd a
none_alike (u ∷ us) (y ∷ ws) a none = go u.prepared refl y.prepared a.0.prepared none (none_alike us ws a.1)
  where
    go : (b : Bool) → u.prepared ≡ b → (c : Bool) → c ≡ u.prepared → (if not c then Some y else first_that is_active ws) ≡ None → (first_that is_active ws ≡ None → next_of us ≡ None) → (if u.prepared then next_of us else Some u) ≡ None
    go true is true e here rest = ap (λ (b : Bool). if b then next_of us else Some u) is ∙ rest here
    go b is false e here rest = let never : ⊥ = cc in absurd never
    go false is true e here rest = let never : ⊥ = cc in absurd never

pub rest_alike : (us : List UnitTold) (ws : List OpenUnit) → AreAlike us ws → AreAlike (but_next us) (without_first is_active ws)
rest_alike [] [] a = tt
rest_alike [] (y ∷ ws) a = absurd a
rest_alike (u ∷ us) [] a = absurd a
rest_alike (u ∷ us) (y ∷ ws) a = go u.prepared y.prepared a.0.prepared (rest_alike us ws a.1)
  where
    go : (b c : Bool) → c ≡ b → AreAlike (but_next us) (without_first is_active ws) → AreAlike (if b then u ∷ but_next us else us) (if not c then ws else y ∷ without_first is_active ws)
    go true true e rest = (a.0, rest)
    go false false e rest = a.1
    go true false e rest = let never : ⊥ = cc in absurd never
    go false true e rest = let never : ⊥ = cc in absurd never

-- each of some units has its positions in the journal, where that is one
pub each_found : (v : VolumeState) (us : List OpenUnit) → IfSome v.store.current (λ c. (es : List Entry) → IsJournal c v.catalog.ru es → AreChangesIn (placed v.catalog.ru.first es) us) → AreFoundIn v us
each_found v us found = go v.store.current found
  where
    none : (us : List OpenUnit) → AllByRecursion (λ (u : OpenUnit). IfSome {T = List (List ℕ)} None (λ c. (es : List Entry) → IsJournal c v.catalog.ru es → u.positions ≡ positions_of u.serial (placed v.catalog.ru.first es))) us
    none [] = tt
    none (u ∷ us) = (tt, none us)

    some : (c : List (List ℕ)) (us : List OpenUnit) → ((es : List Entry) → IsJournal c v.catalog.ru es → AreChangesIn (placed v.catalog.ru.first es) us) →
        AllByRecursion (λ (u : OpenUnit). (es : List Entry) → IsJournal c v.catalog.ru es → u.positions ≡ positions_of u.serial (placed v.catalog.ru.first es)) us
    some c [] all = tt
    some c (u ∷ us) all = (λ es journal. (all es journal).0, some c us (λ es journal. (all es journal).1))

    go : (o : Option (List (List ℕ))) → IfSome o (λ c. (es : List Entry) → IsJournal c v.catalog.ru es → AreChangesIn (placed v.catalog.ru.first es) us) →
        AllByRecursion (λ (u : OpenUnit). IfSome o (λ c. (es : List Entry) → IsJournal c v.catalog.ru es → u.positions ≡ positions_of u.serial (placed v.catalog.ru.first es))) us
    go None h = none us
    go (Some c) h = some c us h

-- each of some units has the files of its entries
pub each_filed : (v : VolumeState) (us : List OpenUnit) → IfSome v.store.current (λ c. AreFiledOf v.catalog.ru c us) → AreFiledIn v us
each_filed v us filed = go v.store.current filed
  where
    none : (us : List OpenUnit) → AllByRecursion (λ (u : OpenUnit). IfSome {T = List (List ℕ)} None (λ c. AreFilesOf v.catalog.ru c u.positions u.files)) us
    none [] = tt
    none (u ∷ us) = (tt, none us)

    go : (o : Option (List (List ℕ))) → IfSome o (λ c. AreFiledOf v.catalog.ru c us) → AllByRecursion (λ (u : OpenUnit). IfSome o (λ c. AreFilesOf v.catalog.ru c u.positions u.files)) us
    go None h = none us
    go (Some c) h = h

-- one unit less changed the files of the first
pub changers_without : (P : OpenUnit → Bool) (us : List OpenUnit) (u : OpenUnit) → first_that P us ≡ Some u → Counts (map Some us) (map Some (without_first P us)) u.files
changers_without P [] u at file = let never : ⊥ = cc in absurd never
changers_without P (w ∷ us) u at file = go (P w) at (λ later. changers_without P us u later file)
  where
    one_unit : (a b : OpenUnit) → ◌≡◌ {A = Option OpenUnit} (Some a) (Some b) → a ≡ b
    one_unit a b e = cc

    go : (b : Bool) → (if b then Some w else first_that P us) ≡ Some u → (first_that P us ≡ Some u → changers file (map Some us) ≡ changers file (map Some (without_first P us)) + (if slice_index_or u.files file false then 1 else 0)) →
        changers file (map Some (w ∷ us)) ≡ changers file (map Some (if b then us else w ∷ without_first P us)) + (if slice_index_or u.files file false then 1 else 0)
    go true here rest = let same = ap (λ (x : OpenUnit). one_changer file (Some x)) (one_unit w u here) in omega (arith, same)
    go false here rest = let more = rest here in omega (arith, more)

module _ (start : ℕ) (us : List OpenUnit) (u : OpenUnit) (clock : ℕ) (v w : VolumeState) (ps : List ℕ) (tid : Tid) (serial : Serial) (moment : ℕ) (may : MayTake start us clock v) (at : first_that is_active us ≡ Some u) (is : moment ≡ next_moment clock v.catalog.home)
    (aborts : Aborts (failed_at ps u.files tid serial moment (map Some (without_first is_active us))) v w) (short : w.catalog.ru.end ≤ v.catalog.ru.end + 48) where
  abbrev left : List OpenUnit
  left = without_first is_active us

  -- what was set back, and then told in the journals of the files
  abbrev undone : Catalog
  undone = aborts.mid.catalog

  abbrev mid : Catalog
  mid = aborts.makes.mid.catalog

  abbrev entry : Option Entry
  entry = abort_entry (failed_at ps u.files tid serial moment (map Some left))

  told : mid ≡ record undone { heads = heads_settled entry u.files undone.heads }
  told = aborts.makes.entered.catalog

  one : length us ≡ length left + 1
  one = one_fewer is_active us u at

  home : mid.home ≡ v.catalog.home
  home = ap (λ (c : Catalog). c.home) told ∙ ap (λ (c : Catalog). c.home) aborts.goes.catalog

  ru : mid.ru ≡ v.catalog.ru
  ru = ap (λ (c : Catalog). c.ru) told ∙ ap (λ (c : Catalog). c.ru) aborts.goes.catalog

  now_ends : w.catalog.ru.end ≡ (span_with entry mid.ru).end
  now_ends = ap (λ (c : Catalog). c.ru.end) aborts.makes.settles.catalog

  longer : v.catalog.ru.end ≤ w.catalog.ru.end
  longer = let more = longer_with entry mid.ru in let same = ap (λ (r : Span). r.end) ru in omega (arith, more, same, now_ends)

  now_begins : w.catalog.ru.first ≡ unwrap_or (earliest (map Some left)) w.catalog.ru.end
  now_begins = ap (λ (c : Catalog). c.ru.first) aborts.makes.settles.catalog ∙ ap (λ (n : ℕ). unwrap_or (earliest (map Some left)) n) (sym now_ends)

  now_blocks : w.catalog.ru.blocks ≡ v.catalog.ru.blocks
  now_blocks = ap (λ (c : Catalog). c.ru.blocks) aborts.makes.settles.catalog ∙ with_blocks entry mid.ru ∙ ap (λ (r : Span). r.blocks) ru

  within : AreWithin start w.catalog.ru.end left
  within = longer_within start v.catalog.ru.end w.catalog.ru.end left longer (all_less (λ (x : OpenUnit). All (λ p. (start ≤ p) × (p ≤ v.catalog.ru.end)) x.positions) is_active us may.within)

  begins : (start ≤ w.catalog.ru.first) × (w.catalog.ru.first ≤ w.catalog.ru.end)
  begins =
      let order = may.ascends in let behind = may.behind in
      let o = or_end start w.catalog.ru.end (earliest (map Some left)) (omega (arith, order, behind, longer)) (earliest_within start w.catalog.ru.end left within) in
      (omega (arith, now_begins, o.0), omega (arith, now_begins, o.1))

  moments : (v.catalog.home.greatest_moment.0 ≤ moment) × (moment + length left ≤ 24000001000066)
  moments =
      let g = may.moment in let c = may.clock_bound in
      let n = next_moment_is clock v.catalog.home (length left) 24000001000066 (omega (arith, g, one)) (omega (arith, c, one)) in
      (omega (arith, n.0, is), omega (arith, n.1, is))

  heads : w.catalog.heads ≡ heads_settled entry u.files undone.heads
  heads = ap (λ (c : Catalog). c.heads) aborts.makes.settles.catalog ∙ ap (λ (c : Catalog). c.heads) told

  -- the entry has as many bytes as the journal grew by
  few : (span_with entry v.catalog.ru).end ≤ v.catalog.ru.end + 48
  few = let same = ap (λ (r : Span). (span_with entry r).end) ru in omega (arith, short, now_ends, same)

  long : length undone.heads ≡ 64
  long = aborts.goes.long ∙ may.long

  low : ImagesAreLow (48 * length left + 48) undone.heads
  low = low_on v aborts.mid aborts.goes.journals (48 * length left + 48) (subst (λ (n : ℕ). ImagesAreLow n v.catalog.heads) (let more : 48 * length us ≡ 48 * length left + 48 = omega (arith, one) in more) may.early)

  sound : IsSound may.node v.store.disk.size mid
  sound = subst (IsSound may.node v.store.disk.size) (sym told) (sound_told may.node v.store.disk.size entry u.files v.catalog.ru undone few long (low_less 48 (48 * length left + 48) undone.heads (omega arith) low) (aborts.goes.sound may.node may.sound))

  pub next_may : IsIdle w.store → Holds w → w.store.disk.size ≡ v.store.disk.size → w.store.pool ≡ v.store.pool → MayTake start left clock w
  next_may idle holds size pool = record {
    idle = idle;
    holds = holds;
    node = may.node;
    sound = subst (λ (n : ℕ). IsSound may.node n w.catalog) (sym size) (subst (IsSound may.node v.store.disk.size) (sym aborts.makes.settles.catalog)
        (sound_settled may.node v.store.disk.size tid serial _ moment mid (from_earliest (map Some left) (span_with entry mid.ru)) (let m = moments in let same : mid.home.greatest_moment.0 ≡ v.catalog.home.greatest_moment.0 = ap (λ (h : Home). h.greatest_moment.0) home in omega (arith, m.0, same))
        (let m = moments in omega (arith, m.1)) (with_start entry mid.ru) (with_blocks entry mid.ru) sound));
    long = ap length heads ∙ long_told entry u.files undone.heads ∙ long;
    least = let l = may.least in omega (arith, l, size);
    most = let m = may.most in omega (arith, m, size);
    frames = subst (λ fs. 32 ≤ free_frames fs) (sym pool) may.frames;
    behind = begins.0;
    ascends = begins.1;
    room = let r = may.room in omega (arith, r, short, one, now_blocks);
    low = let l = may.low in omega (arith, l, short, one);
    moment = let m = moments in let same : w.catalog.home.greatest_moment.0 ≡ moment = ap (λ (c : Catalog). c.home.greatest_moment.0) aborts.makes.settles.catalog in omega (arith, m.1, same);
    clock_bound = let c = may.clock_bound in omega (arith, c, one);
    within = within;
    positions = ascends_again v.catalog.ru.first v.catalog.ru.end w.catalog.ru.first w.catalog.ru.end (earliest (map Some left)) left longer now_begins begins.1 (earliest_least left)
        (all_less (λ (x : OpenUnit). Ascend v.catalog.ru.first v.catalog.ru.end x.positions) is_active us may.positions);
    images = subst (AllSettlementsFit (map Some left)) (sym heads)
        (fit_told entry u.files v.catalog.ru undone.heads (map Some us) (map Some left) few (changers_without is_active us u at) (fit_on (map Some us) v aborts.mid aborts.goes.journals may.images));
    early = subst (ImagesAreLow (48 * length left)) (sym heads) (low_told entry u.files v.catalog.ru (48 * length left) undone.heads few low);
  }

-- the units that are left stand in their order
pub order_gone : (s t : Units) (p : ℕ) → AreInOrder s.places s.order → p < 64 → IsSome (unit_at s.places p) → t ≡ without_place p s → AreInOrder t.places t.order
order_gone s t p order below some is = subst (λ (x : Units). AreInOrder x.places x.order) (sym is) (gone_in_order s.places s.order order p below some)

pub left_seen : (t : Units) → AreInOrder t.places t.order → earliest t.places ≡ earliest (map Some (begun t))
left_seen t order = earliest_seen t.places t.order order ∙ sym (some_units (begun t))

-- what the calls ask for

module _ (start : ℕ) (us : List OpenUnit) (clock : ℕ) (v : VolumeState) (m : MayTake start us clock v) where
  pub ring_taken : IsRing v.catalog.ru v.store.disk
  ring_taken = record {
    from = let a = m.sound.ru_start in omega (arith, a);
    to = let a = m.sound.ru_start in let b = m.sound.ru_blocks in let c = m.sound.sizes.room in omega (arith, a, b, c);
    fits = m.most;
    some = let b = m.sound.ru_blocks in let c = m.sound.sizes.least_journal in omega (arith, b, c);
    order = m.ascends;
    low = let a = m.low in omega (arith, a);
    room = let a = m.room in let b = m.behind in omega (arith, a, b);
  }

  pub may_abort : MayAbort v
  may_abort = record {
    idle = m.idle;
    holds = m.holds;
    node = m.node;
    sound = m.sound;
    least = m.least;
    most = m.most;
    frames = m.frames;
    ring = ring_taken;
  }

  -- of one of them
  pub low_taken : (u : OpenUnit) → first_that is_active us ≡ Some u → All (λ p. p ≤ 2 ^ 62) u.positions
  low_taken u at =
      All-weaker (λ p. (start ≤ p) × (p ≤ v.catalog.ru.end)) (λ p. p ≤ 2 ^ 62) (λ p is. (let last = is.1 in let low = m.low in omega (arith, last, low))) u.positions (first_holds (λ (x : OpenUnit). All (λ p. (start ≤ p) × (p ≤ v.catalog.ru.end)) x.positions) is_active us u m.within at)

  pub rooms_taken : (u : OpenUnit) → first_that is_active us ≡ Some u → ImagesHaveRoom u.positions u.files v
  rooms_taken u at has file takes = (room After, room Before)
    where
      taken_one : one_changer file (Some u) ≡ 1
      taken_one = ap (λ (b : Bool). if b then 1 else 0) takes

      counts : 1 ≤ changers file (map Some us)
      counts =
          let more = changers_without is_active us u at file in
          omega (arith, more, taken_one)

      fits : (side : Side) (h : FileHead) → head_at v.catalog.heads file ≡ Some h → SettlementsFit side h file (map Some us)
      fits After h there = (m.images file h there).0
      fits Before h there = (m.images file h there).1

      room : (side : Side) → FileHasRoom side 48 file v.catalog.heads v.store.disk
      room side h there kept = ring_in m.node v.catalog v.store.disk m.long m.sound side file h there kept 48 m.most (let fit = fits side h there kept in omega (arith, fit, counts))

  pub room_taken : (u : OpenUnit) → first_that is_active us ≡ Some u → HasRoom u.positions v
  room_taken u at has = let more = one_fewer is_active us u at in let a = m.room in let b = m.behind in omega (arith, more, a, b)

-- The first of them.

within_begin : (s : Span) (us : List OpenUnit) → BeginWithin s us → AreWithin s.first s.end us
within_begin s [] all = tt
within_begin s (u ∷ us) all = (All-weaker (λ p. (s.first ≤ p) × (p < s.end)) (λ p. (s.first ≤ p) × (p ≤ s.end)) (λ p is. (is.0, (let before = is.1 in omega (arith, before)))) u.positions all.0, within_begin s us all.1)

pub may_begin : (us : List OpenUnit) (clock : ℕ) (v : VolumeState) → MayReopen clock v → BeginWithin v.catalog.ru us → AscendWithin v.catalog.ru.first v.catalog.ru.end us → length us ≤ 64 → v.catalog.ru.end - v.catalog.ru.first + 48 * length us ≤ ring_size v.catalog.ru → length v.catalog.heads ≡ 64 →
    AllSettlementsFit (map Some us) v.catalog.heads → MayTake v.catalog.ru.first us clock v
may_begin us clock v m within ascends few room long images = record {
  idle = m.may.idle;
  holds = m.may.holds;
  node = m.may.node;
  sound = m.may.sound;
  least = m.may.least;
  most = m.may.most;
  frames = m.may.frames;
  behind = omega arith;
  ascends = m.may.ring.order;
  room = let o = m.may.ring.order in omega (arith, room, o);
  low = let l = m.low in omega (arith, l, few);
  moment = let g = m.moment in omega (arith, g, few);
  clock_bound = let c = m.clock_bound in omega (arith, c, few);
  within = within_begin v.catalog.ru us within;
  positions = ascends;
  long = long;
  images = images;
  early = low_less (48 * length us) 3072 v.catalog.heads (omega (arith, few)) m.early;
}

-- no count rose

pub quiet_there : (d : DiskState) → Quiet d d
quiet_there d = record { size = refl; calls = refl; faults = refl; stops = refl; told = refl }

pub quiet_on : (a b c : DiskState) → Quiet a b → Quiet b c → Quiet a c
quiet_on a b c p q = record { size = q.size ∙ p.size; calls = q.calls ∙ p.calls; faults = q.faults ∙ p.faults; stops = q.stops ∙ p.stops; told = q.told ∙ p.told }

-- units may be taken on a volume that is the same but for reads
pub take_read : (start : ℕ) (us : List OpenUnit) (clock : ℕ) (v w : VolumeState) → SameVolume v w → MayTake start us clock v → MayTake start us clock w
take_read start us clock v w same may = record {
  idle = idle_read v.store w.store (store_of_same v w same) may.idle;
  holds = subst Holds (sym same) may.holds;
  node = may.node;
  sound = subst (λ (x : VolumeState). IsSound may.node x.store.disk.size x.catalog) (sym same) may.sound;
  least = subst (λ (x : VolumeState). 4096 ≤ x.store.disk.size) (sym same) may.least;
  most = subst (λ (x : VolumeState). x.store.disk.size ≤ 65536) (sym same) may.most;
  frames = subst (λ (x : VolumeState). 32 ≤ free_frames x.store.pool) (sym same) may.frames;
  behind = subst (λ (x : VolumeState). start ≤ x.catalog.ru.first) (sym same) may.behind;
  ascends = subst (λ (x : VolumeState). x.catalog.ru.first ≤ x.catalog.ru.end) (sym same) may.ascends;
  room = subst (λ (x : VolumeState). x.catalog.ru.end + 48 * length us ≤ start + ring_size x.catalog.ru) (sym same) may.room;
  low = subst (λ (x : VolumeState). x.catalog.ru.end + 48 * length us ≤ 2 ^ 62) (sym same) may.low;
  moment = subst (λ (x : VolumeState). x.catalog.home.greatest_moment.0 + length us ≤ 24000001000066) (sym same) may.moment;
  clock_bound = may.clock_bound;
  within = subst (λ (x : VolumeState). AllByRecursion (λ (u : OpenUnit). All (λ p. (start ≤ p) × (p ≤ x.catalog.ru.end)) u.positions) us) (sym same) may.within;
  positions = subst (λ (x : VolumeState). AscendWithin x.catalog.ru.first x.catalog.ru.end us) (sym same) may.positions;
  long = subst (λ (x : VolumeState). length x.catalog.heads ≡ 64) (sym same) may.long;
  images = subst (λ (x : VolumeState). AllSettlementsFit (map Some us) x.catalog.heads) (sym same) may.images;
  early = subst (λ (x : VolumeState). ImagesAreLow (48 * length us) x.catalog.heads) (sym same) may.early;
}
