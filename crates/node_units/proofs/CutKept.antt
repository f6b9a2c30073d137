-- A unit truncated a file: the node is kept, and the call is one of the world.
use Rattle.std.proofs.Common.{◌≡◌, ℕ, suc, if◌then◌else◌, length-set, ◌+◌, ◌<◌, ◌≤◌, List, [], ◌∷◌, ◌++◌, Bool, true, false, Option, Some, None, length, map, slice_set, refl, sym, ◌∙◌, ap, subst, arith, inl, inr, append-nil, get_or-set_same, get_or-set_other}
use Rattle.std.specs.Prelude.{◌⊎◌, IsSome}
use Rattle.std.specs.List.{AllByRecursion}
use Rattle.std.proofs.lemmas.Bool.{both_ways, cases_eq}
use Rattle.careful_write.specs.State.{content}
use Rattle.commit_protocol.specs.Table.{Branch}
use Rattle.file_base.specs.declared.head.FileHead.{FileHead}
use Rattle.vms_model.specs.Ids.{Id}
use Rattle.vms_model.specs.Keys.{Key, Number, Text, End}
use Rattle.volume.specs.declared.catalog.Catalog.{Catalog}
use Rattle.volume.specs.State.{VolumeState}
use Rattle.records_model.specs.Records.{Change}
use Rattle.records_model.specs.History.{History, changed_it, changed_with, same_id}
use Rattle.record_locks.specs.Locks as table
use Rattle.unit_laws.specs.Journal.{ChangeEntry, JournalEntry, entries_size, serial_in}
use Rattle.unit_laws.proofs.LiveLemmas.{by_changes, by_others}
use Rattle.unit_table.specs.Places.{AreInOrder}
use Rattle.unit_table.specs.Units.{OpenUnit, begun, has_changed, unit_at, units_of, with_position}
use Rattle.unit_table.proofs.OrderLemmas.{at_below}
use Rattle.recovery_units.specs.run_model.World.{tid_in}
use Rattle.recovery_units.specs.run_model.World.{Act, File, Node, acted, changed_file, fallen, find_branch, find_file, is_durable}
use Rattle.recovery_units.specs.run_model.Locks.{is_locked}
use Rattle.recovery_units.specs.run_model.Operations.{first_of, operation_answer}
use Rattle.recovery_units.proofs.world_laws.IdLemmas.{id_itself}
use Rattle.recovery_units.proofs.world_laws.EntryLemmas.{all_append}
use Rattle.unit_world.specs.directory_model.Files.{file_at, head_at}
use Rattle.recovery_units.specs.volume_model.Volumes.{HasDisk, HasVolume, IsEitherOf, IsLeftBy}
use Rattle.careful_write.specs.Content.{content_of}
use Rattle.unit_world.proofs.volume_laws.WholeLemmas.{volume_falls}
use Rattle.recovery_units.specs.Calls.{IsBroken, IsDone, KeepsUp, position_line, unit_act, unit_refused_after_reading, unit_refused_before_reading}
use Rattle.recovery_units.specs.State.{AreLocks, AreOfBranches, IsKept, IsUnitOf, are_there, changed_at, positions_of}
use Rattle.unit_world.proofs.Leaving.{down}
use Rattle.unit_world.proofs.Staying.{changed_set}
use Rattle.rms_units.specs.Calls as rms
use Rattle.rms_units.specs.State as state
use Rattle.rms_units.specs.State.{IsEarly, IsInOrder}
use Rattle.log_laws.specs.Slots.{Slots}
use Rattle.commit_protocol.specs.Allowed.{is_prepared}
use Rattle.recovery_units.specs.world_laws.Nodes.{IsUp}
use Rattle.node_units.specs.Seen.{seen}
use Rattle.node_units.proofs.Falling.{disk_sound}
use Rattle.node_units.proofs.Locking.{locks_more}
use Rattle.node_units.proofs.Seeing.{all_seen}
use Rattle.node_units.proofs.UnitCounts.{different, once_there, unit_is}
use Rattle.node_units.proofs.UnitsMore.{apart_at, changed_branches}
use Rattle.journal_model.specs.Entries.{Entry, IsEntry, spelling}
use Rattle.record_operations.specs.declared.ops.RecordOp.TheVariants as op
use Rattle.script_model.specs.Statements.{Truncate}
use Rattle.unit_laws.specs.Journal.{entries_for, entry_size}
use Rattle.unit_laws.specs.Journal as journal
use Rattle.recovery_units.specs.run_model.Operations.{changes_of}
use Rattle.recovery_units.proofs.world_laws.EntryLemmas.{all_entered}
use Rattle.recovery_units.specs.State.{is_change_by}
use Rattle.recovery_units.specs.volume_model.Entries.{entry_for}
use Rattle.unit_world.specs.file_images.Images as images
use Rattle.journal_format.proofs.Decoding.{total_is}
use Rattle.records_model.specs.Slots.{size_of}
use Rattle.volume_files.proofs.Places.{head_below}
use Rattle.node_units.proofs.Holding.{once_of}
use Rattle.rms_units.specs.Truncating.{ChangesCut, CutBroke, IsCut, cut_asked, with_positions}
use Rattle.rms_units.specs.unit_cuts.Truncating.{AllTold, BreaksCut, begins_at}
use Rattle.rms_units.proofs.CutOrder as cut_order
use Rattle.node_units.proofs.CutImages.{cut_left}
use Rattle.node_units.proofs.CutMade as made_by
use Rattle.node_units.proofs.CutRefusals.{cut_begun}
use Rattle.node_units.proofs.KeyMade.{locks_renamed}

abbrev Content : Type 0
Content = List (List ℕ)

one_content : (x y : Content) → ◌≡◌ {A = Option Content} (Some x) (Some y) → x ≡ y
one_content x y e = cc

one_unit : (u w : OpenUnit) → ◌≡◌ {A = Option OpenUnit} (Some u) (Some w) → u ≡ w
one_unit u w e = cc

-- What a unit knows of positions that are noted.

same_serial : (ps : List ℕ) (file : ℕ) (u : OpenUnit) → (with_positions ps file u).serial ≡ u.serial
same_serial [] file u = refl
same_serial (p ∷ ps) file u = same_serial ps file (with_position p file u)

same_tid : (ps : List ℕ) (file : ℕ) (u : OpenUnit) → (with_positions ps file u).tid ≡ u.tid
same_tid [] file u = refl
same_tid (p ∷ ps) file u = same_tid ps file (with_position p file u)

known_still : (ps : List ℕ) (file : ℕ) (u : OpenUnit) → file < length u.files → has_changed u file ≡ true → has_changed (with_positions ps file u) file ≡ true
known_still [] file u wide known = known
known_still (p ∷ ps) file u wide known = known_still ps file (with_position p file u) (let long = length-set u.files file true in omega (arith, wide, long)) (get_or-set_same u.files file true false wide)

known_then : (ps : List ℕ) (file : ℕ) (u : OpenUnit) → file < length u.files → 1 ≤ length ps → has_changed (with_positions ps file u) file ≡ true
known_then [] file u wide some = absurd (omega (arith, some))
known_then (p ∷ ps) file u wide some = known_still ps file (with_position p file u) (let long = length-set u.files file true in omega (arith, wide, long)) (get_or-set_same u.files file true false wide)

known_other : (ps : List ℕ) (file g : ℕ) (u : OpenUnit) → (g ≡ file → ⊥) → has_changed (with_positions ps file u) g ≡ has_changed u g
known_other [] file g u apart = refl
known_other (p ∷ ps) file g u apart = known_other ps file g (with_position p file u) apart ∙ get_or-set_other u.files file g true false apart

are_some : (ps qs : List ℕ) → 1 ≤ length qs → are_there (ps ++ qs) ≡ true
are_some [] [] some = absurd (omega (arith, some))
are_some [] (q ∷ qs) some = refl
are_some (p ∷ ps) qs some = refl

-- Where changes begin.

positions_append : (x : Id) (p : ℕ) (es fs : List JournalEntry) → positions_of x p (es ++ fs) ≡ positions_of x p es ++ positions_of x (p + entries_size es) fs
positions_append x p [] fs = ap (λ (q : ℕ). positions_of x q fs) (omega arith)
positions_append x p (e ∷ es) fs = go (is_change_by x e) (positions_append x (p + entry_size e) es fs ∙ ap (λ (q : ℕ). positions_of x (p + entry_size e) es ++ positions_of x q fs) far)
  where
    far : p + entry_size e + entries_size es ≡ p + (entry_size e + entries_size es)
    far = omega arith

    go : (t : Bool) → positions_of x (p + entry_size e) (es ++ fs) ≡ positions_of x (p + entry_size e) es ++ positions_of x (p + (entry_size e + entries_size es)) fs →
        (if t then p ∷ positions_of x (p + entry_size e) (es ++ fs) else positions_of x (p + entry_size e) (es ++ fs)) ≡ (if t then p ∷ positions_of x (p + entry_size e) es else positions_of x (p + entry_size e) es) ++ positions_of x (p + (entry_size e + entries_size es)) fs
    go true rest = ap (λ ps. p ∷ ps) rest
    go false rest = rest

-- each of these is a change of a branch whose entry on a disk is as long
abbrev IsOwn : Id → (f : ℕ) → JournalEntry → Type 0
IsOwn x f e = (is_change_by x e ≡ true) × (length (spelling (entry_for f e)) ≡ entry_size e)

own_positions : (x : Id) (f p : ℕ) (es : List JournalEntry) → AllByRecursion (IsOwn x f) es → begins_at p (map (entry_for f) es) ≡ positions_of x p es
own_positions x f p [] all = refl
own_positions x f p (e ∷ es) all =
    ap (λ (k : ℕ). p ∷ begins_at (p + k) (map (entry_for f) es)) all.0.1 ∙ ap (λ ps. p ∷ ps) (own_positions x f (p + entry_size e) es all.1)
    ∙ sym (ap (λ (t : Bool). if t then p ∷ positions_of x (p + entry_size e) es else positions_of x (p + entry_size e) es) all.0.0)

other_positions : (x : Id) (p : ℕ) (es : List JournalEntry) → AllByRecursion (λ (e : JournalEntry). is_change_by x e ≡ false) es → positions_of x p es ≡ []
other_positions x p [] all = refl
other_positions x p (e ∷ es) all = ap (λ (t : Bool). if t then p ∷ positions_of x (p + entry_size e) es else positions_of x (p + entry_size e) es) all.0 ∙ other_positions x (p + entry_size e) es all.1

begins_many : (p : ℕ) (es : List Entry) → length (begins_at p es) ≡ length es
begins_many p [] = refl
begins_many p (e ∷ es) = ap suc (begins_many (p + length (spelling e)) es)

-- what a branch changed in a file, once it changed more of it
pub now_changed : (x : Id) (cs : List Change) (h : History) → 1 ≤ length cs → changed_it (changed_with x cs h) x ≡ true
now_changed x [] h some = absurd (omega (arith, some))
now_changed x (c ∷ cs) h some = ap (λ (ds : List Change). elim ds [ [] ↦ false | d ∷ es ↦ true ]) (by_changes x (c ∷ cs) h.live)

still_changed : (x y : Id) (cs : List Change) (h : History) → same_id x y ≡ false → changed_it (changed_with y cs h) x ≡ changed_it h x
still_changed x y cs h other = ap (λ (ds : List Change). elim ds [ [] ↦ false | d ∷ es ↦ true ]) (by_others x y cs h.live other)

key_long : (key : Key) → length (images.key_bytes key) ≡ journal.key_size key
key_long (Number n) = refl
key_long (Text t) = refl
key_long End = refl

image_long : (before : Option (List ℕ)) → length (images.image_bytes before) ≡ size_of before
image_long None = refl
image_long (Some r) = refl

own_sized : (tid serial : Id) (f : ℕ) (name : List ℕ) (key : Key) (before : Option (List ℕ)) → IsEntry (entry_for f (ChangeEntry tid serial name key before)) → length (spelling (entry_for f (ChangeEntry tid serial name key before))) ≡ entry_size (ChangeEntry tid serial name key before)
own_sized tid serial f name key before is = let total = total_is (entry_for f (ChangeEntry tid serial name key before)) is in let k = key_long key in let i = image_long before in omega (arith, total, k, i)

split_all : (f : ℕ) (xs : List JournalEntry) (y : JournalEntry) → AllByRecursion IsEntry (map (entry_for f) (xs ++ y ∷ [])) → AllByRecursion IsEntry (map (entry_for f) xs) × IsEntry (entry_for f y)
split_all f [] y all = (tt, all.0)
split_all f (x ∷ xs) y all = let rest = split_all f xs y all.1 in ((all.0, rest.0), rest.1)

each_own : (tid serial : Id) (f : ℕ) (name : List ℕ) (cs : List Change) → AllByRecursion IsEntry (map (entry_for f) (entries_for tid serial name cs)) → AllByRecursion (IsOwn serial f) (entries_for tid serial name cs)
each_own tid serial f name [] all = tt
each_own tid serial f name (c ∷ cs) all =
    let parts = split_all f (entries_for tid serial name cs) (ChangeEntry tid serial name c.key c.before) all in
    all_append (IsOwn serial f) (entries_for tid serial name cs) (ChangeEntry tid serial name c.key c.before ∷ []) (each_own tid serial f name cs parts.0) ((id_itself serial, own_sized tid serial f name c.key c.before parts.1), tt)

module _ (s : state.UnitsState) (v : VolumeState) (order : IsInOrder s v) (at : AreInOrder s.units.places s.units.order) (place : ℕ) (u : OpenUnit) (at_place : unit_at s.units.places place ≡ Some u) (n : Node) (file : File) (b : Branch) (h : FileHead) (log : Slots) (up : IsUp n) (unprepared : is_prepared b.state ≡ false)
    (kept : IsKept (seen s log) v n) (f from : ℕ) (there : head_at v.catalog.heads f ≡ Some h) (found : find_file h.name n.durable.directory ≡ Some file) (found_b : find_branch u.serial n.volatile.branches ≡ Some b) (allowed : rms.change_refused_before_reading h (op.Truncate f from) [] ≡ None)
    (low : IsEarly v)
    (t : state.UnitsState) (w : VolumeState) (done : ChangesCut place u f h from s v t w) (size : w.store.disk.size ≡ v.store.disk.size)
    (keeps : KeepsUp (unit_refused_before_reading n b h.name file (Truncate from)) (unit_refused_after_reading n b h.name file (Truncate from)) (unit_act b h.name file (Truncate from)) n) where
  abbrev es : List Entry
  es = done.entries.had

  abbrev cs : List Change
  cs = changes_of file (Truncate from)

  abbrev keys : List Key
  keys = cut_asked h from

  abbrev m : Node
  m = made_by.m s v order at place u at_place n file b h log up unprepared kept f from there found found_b allowed low done.early w done.late done.entries done.made keeps

  abbrev ps : List ℕ
  ps = begins_at v.catalog.ru.end es

  abbrev more : OpenUnit
  more = with_positions ps f u

  abbrev places : List (Option OpenUnit)
  places = slice_set s.units.places place (Some more)

  abbrev js : List JournalEntry
  js = n.durable.units.entries

  abbrev fs : List JournalEntry
  fs = entries_for u.tid u.serial h.name cs

  some_cs : 1 ≤ length cs
  some_cs = made_by.many s v order at place u at_place n file b h log up unprepared kept f from there found found_b allowed low done.early w done.late done.entries done.made keeps

  some_ps : 1 ≤ length ps
  some_ps = let many = begins_many v.catalog.ru.end es in let entries = made_by.es_many s v order at place u at_place n file b h log up unprepared kept f from there found found_b allowed low done.early w done.late done.entries done.made keeps in omega (arith, many, entries)

  begun_is : (seen t log).begun ≡ units_of places s.units.order
  begun_is = ap begun done.units

  below : place < length s.units.places
  below = at_below s.units.places place (subst IsSome (sym at_place) refl)

  changed_so : are_there more.positions ≡ true
  changed_so = ap are_there (cut_order.positions_of ps f u) ∙ are_some u.positions ps some_ps

  branches_are : AreOfBranches (seen t log).begun m.volatile.branches
  branches_are = subst (λ us. AreOfBranches us m.volatile.branches) (sym begun_is)
      (changed_branches place u more (same_tid ps f u) (same_serial ps f u) (cut_order.prepared_still ps f u) changed_so s.units.places s.units.order below at_place (once_there s log v order at n up kept place u at_place)
      (different s log v order at n up kept) n.volatile.branches kept.branches)

  locks_are : AreLocks w.catalog.heads (seen t log).locks m.volatile.locks
  locks_are = subst (λ (c : Catalog). AreLocks c.heads (seen t log).locks m.volatile.locks) (sym (made_by.catalog_is s v order at place u at_place n file b h log up unprepared kept f from there found found_b allowed low done.early w done.late done.entries done.made keeps))
      (subst (λ ls. AreLocks (made_by.W s v order at place u at_place n file b h log up unprepared kept f from there found found_b allowed low done.early w done.late done.entries done.made keeps).heads ls m.volatile.locks) (sym done.locks)
      (locks_renamed v.catalog.heads (made_by.W s v order at place u at_place n file b h log up unprepared kept f from there found found_b allowed low done.early w done.late done.entries done.made keeps).heads (made_by.names_are s v order at place u at_place n file b h log up unprepared kept f from there found found_b allowed low done.early w done.late done.entries done.made keeps) (table.with_locks u.serial f keys s.locks) m.volatile.locks
      (locks_more v.catalog.heads (once_of v.catalog.home.node v.store.disk.size v.catalog order.sound order.heads) f h there u.serial keys s.locks n.volatile.locks kept.locks)))

  abbrev new_file : File
  new_file = changed_file (is_locked n.volatile.locks h.name) u.tid u.serial cs file

  directory_is : m.durable.directory ≡ slice_set n.durable.directory f (Some new_file)
  directory_is = made_by.directory_after s v order at place u at_place n file b h log up unprepared kept f from there found found_b allowed low done.early w done.late done.entries done.made keeps

  f_small : f < 64
  f_small = head_below v.catalog.heads f h order.heads there

  wide : f < length n.durable.directory
  wide = let long = kept.has.files.directory_long in let small = f_small in omega (arith, long, small)

  known : f < length u.files
  known = let long = done.files in let small = f_small in omega (arith, long, small)

  own_fs : AllByRecursion (IsOwn u.serial f) fs
  own_fs = each_own u.tid u.serial f h.name cs (subst (AllByRecursion IsEntry) (made_by.es_are s v order at place u at_place n file b h log up unprepared kept f from there found found_b allowed low done.early w done.late done.entries done.made keeps) (made_by.enters s v order at place u at_place n file b h log up unprepared kept f from there found found_b allowed low done.early w done.late done.entries done.made keeps).entered.each)

  own_after : IsUnitOf m more
  own_after =
      let is = unit_is s log v order at n up kept place u at_place in
      let end : v.catalog.ru.end ≡ n.durable.units.first + entries_size js = kept.has.journal.end in
      record {
        positions = cut_order.positions_of ps f u
            ∙ (λ i. is.positions i ++ (ap (begins_at v.catalog.ru.end) (made_by.es_are s v order at place u at_place n file b h log up unprepared kept f from there found found_b allowed low done.early w done.late done.entries done.made keeps) ∙ own_positions u.serial f v.catalog.ru.end fs own_fs ∙ ap (λ (q : ℕ). positions_of u.serial q fs) end) i)
            ∙ sym (positions_append u.serial n.durable.units.first js fs) ∙ ap (λ (x : Id). positions_of x n.durable.units.first (js ++ fs)) (sym (same_serial ps f u));
        files = λ g. ap (λ (x : Id). changed_at x (file_at m.durable.directory g)) (same_serial ps f u) ∙ elim (cases_eq g f) [
          | inl here ↦
              ap (λ k. changed_at u.serial (file_at m.durable.directory k)) here
              ∙ ap (λ ds. changed_at u.serial (file_at ds f)) directory_is ∙ ap (changed_at u.serial) (get_or-set_same n.durable.directory f (Some new_file) None wide)
              ∙ now_changed u.serial cs file.history some_cs ∙ sym (known_then ps f u known some_ps) ∙ ap (has_changed more) (sym here)
          | inr apart ↦
              ap (λ ds. changed_at u.serial (file_at ds g)) directory_is ∙ ap (changed_at u.serial) (get_or-set_other n.durable.directory f g (Some new_file) None apart)
              ∙ is.files g ∙ sym (known_other ps f g u apart)
        ];
        transaction = subst (λ (x : Id). AllByRecursion (λ (e : JournalEntry). same_id x (serial_in e) ≡ true → more.tid ≡ tid_in e) (js ++ fs)) (sym (same_serial ps f u))
            (subst (λ (y : Id). AllByRecursion (λ (e : JournalEntry). same_id u.serial (serial_in e) ≡ true → y ≡ tid_in e) (js ++ fs)) (sym (same_tid ps f u))
            (all_append (λ (e : JournalEntry). same_id u.serial (serial_in e) ≡ true → u.tid ≡ tid_in e) js fs is.transaction
            (all_entered (λ (e : JournalEntry). same_id u.serial (serial_in e) ≡ true → u.tid ≡ tid_in e) u.tid u.serial h.name cs (λ c same. refl))));
      }

  other_after : (x : OpenUnit) → IsUnitOf n x → same_id x.serial u.serial ≡ false → IsUnitOf m x
  other_after x is other = record {
    positions = is.positions ∙ sym (append-nil (positions_of x.serial n.durable.units.first js))
        ∙ (λ i. positions_of x.serial n.durable.units.first js ++ sym (other_positions x.serial (n.durable.units.first + entries_size js) fs (all_entered (λ (e : JournalEntry). is_change_by x.serial e ≡ false) u.tid u.serial h.name cs (λ c. other))) i)
        ∙ sym (positions_append x.serial n.durable.units.first js fs);
    files = λ g.
        ap (λ ds. changed_at x.serial (file_at ds g)) directory_is
        ∙ changed_set n.durable.directory f new_file x.serial wide (still_changed x.serial u.serial cs file.history other ∙ ap (changed_at x.serial) (sym (made_by.at_f s v order at place u at_place n file b h log up unprepared kept f from there found found_b allowed low done.early w done.late done.entries done.made keeps))) g ∙ is.files g;
    transaction = all_append (λ (e : JournalEntry). same_id x.serial (serial_in e) ≡ true → x.tid ≡ tid_in e) js fs is.transaction
        (all_entered (λ (e : JournalEntry). same_id x.serial (serial_in e) ≡ true → x.tid ≡ tid_in e) u.tid u.serial h.name cs (λ c same. absurd (both_ways _ other same)));
  }

  each_after : AllByRecursion (IsUnitOf m) (seen t log).begun
  each_after = subst (AllByRecursion (IsUnitOf m)) (sym begun_is)
      (all_seen (IsUnitOf m) places s.units.order (λ p x at_p. elim (cases_eq p place) [
        | inl here ↦ subst (IsUnitOf m) (one_unit more x (sym (get_or-set_same s.units.places place (Some more) None below) ∙ ap (unit_at places) (sym here) ∙ at_p)) own_after
        | inr apart ↦
            let old : unit_at s.units.places p ≡ Some x = sym (get_or-set_other s.units.places place p (Some more) None apart) ∙ at_p in
            let own_once = once_there s log v order at n up kept place u at_place in
            let its_once = once_there s log v order at n up kept p x old in
            other_after x (unit_is s log v order at n up kept p x old)
            (apart_at s.units.places s.units.order p place x u apart old at_place (omega (arith, its_once)) (omega (arith, own_once)) (different s log v order at n up kept))
      ]))

  now : (d : Content) × (w.store.current ≡ Some d)
  now = made_by.told_after s v order at place u at_place n file b h log up unprepared kept f from there found found_b allowed low done.early w done.late done.entries done.made keeps

  kept_then : IsKept (seen t log) w m
  kept_then = record {
    content = now.0;
    told = now.1;
    name = kept.name ∙ sym (made_by.node_after s v order at place u at_place n file b h log up unprepared kept f from there found found_b allowed low done.early w done.late done.entries done.made keeps);
    blocks = kept.blocks ∙ sym size;
    has = subst (λ (c : Catalog). HasVolume now.0 c m) (sym (made_by.catalog_is s v order at place u at_place n file b h log up unprepared kept f from there found found_b allowed low done.early w done.late done.entries done.made keeps)) (made_by.volume_after s v order at place u at_place n file b h log up unprepared kept f from there found found_b allowed low done.early w done.late done.entries done.made keeps now.0 now.1);
    log = kept.log;
    branches = branches_are;
    locks = locks_are;
    each = each_after;
  }

  pub cut_done : (told : ℕ) → told ≡ 0 → IsDone (unit_refused_before_reading n b h.name file (Truncate from)) (unit_refused_after_reading n b h.name file (Truncate from)) (unit_act b h.name file (Truncate from)) (operation_answer file (Truncate from)) (position_line told) n (seen t log) w
  cut_done told is = record {
    allowed = (λ i. first_of (made_by.early_none s v order at place u at_place n file b h log up unprepared kept f from there found found_b allowed low done.early w done.late done.entries done.made keeps i) (made_by.late_none s v order at place u at_place n file b h log up unprepared kept f from there found found_b allowed low done.early w done.late done.entries done.made keeps i));
    kept = subst (λ (act : Act). IsKept (seen t log) w (acted act n)) (made_by.act_is s v order at place u at_place n file b h log up unprepared kept f from there found found_b allowed low done.early w done.late done.entries done.made keeps) kept_then;
    answers = ap position_line (sym is);
  }

-- The disk went down.
module _ (s : state.UnitsState) (v : VolumeState) (order : IsInOrder s v) (at : AreInOrder s.units.places s.units.order) (place : ℕ) (u : OpenUnit) (at_place : unit_at s.units.places place ≡ Some u) (n : Node) (file : File) (b : Branch) (h : FileHead) (log : Slots) (up : IsUp n) (unprepared : is_prepared b.state ≡ false)
    (kept : IsKept (seen s log) v n) (f from : ℕ) (there : head_at v.catalog.heads f ≡ Some h) (found : find_file h.name n.durable.directory ≡ Some file) (found_b : find_branch u.serial n.volatile.branches ≡ Some b) (allowed : rms.change_refused_before_reading h (op.Truncate f from) [] ≡ None)
    (low : IsEarly v)
    (w : VolumeState) (broke : CutBroke u f h from s v w)
    (keeps : KeepsUp (unit_refused_before_reading n b h.name file (Truncate from)) (unit_refused_after_reading n b h.name file (Truncate from)) (unit_act b h.name file (Truncate from)) n) where
  abbrev act : Act
  act = unit_act b h.name file (Truncate from)

  module _ (new : VolumeState) (is : IsCut u f h from s v new) where
    left_after : (d : Content) → Some d ≡ new.store.current → IsLeftBy d (acted act (fallen (Some act) n))
    left_after d told = subst (λ (x : Act). IsLeftBy d (acted x (fallen (Some act) n))) (made_by.act_is s v order at place u at_place n file b h log up unprepared kept f from there found found_b allowed low broke.early new is.late is.entries is.makes keeps) record {
      catalog = made_by.W s v order at place u at_place n file b h log up unprepared kept f from there found found_b allowed low broke.early new is.late is.entries is.makes keeps;
      tells = made_by.tells_after s v order at place u at_place n file b h log up unprepared kept f from there found found_b allowed low broke.early new is.late is.entries is.makes keeps d (sym told);
      sound = made_by.sound_after s v order at place u at_place n file b h log up unprepared kept f from there found found_b allowed low broke.early new is.late is.entries is.makes keeps;
      leaves = λ whole. down d (made_by.W s v order at place u at_place n file b h log up unprepared kept f from there found found_b allowed low broke.early new is.late is.entries is.makes keeps) (made_by.m s v order at place u at_place n file b h log up unprepared kept f from there found found_b allowed low broke.early new is.late is.entries is.makes keeps) (acted (made_by.deed s v order at place u at_place n file b h log up unprepared kept f from there found found_b allowed low broke.early new is.late is.entries is.makes keeps) (fallen (Some act) n)) (volume_falls d (made_by.W s v order at place u at_place n file b h log up unprepared kept f from there found found_b allowed low broke.early new is.late is.entries is.makes keeps) (made_by.m s v order at place u at_place n file b h log up unprepared kept f from there found found_b allowed low broke.early new is.late is.entries is.makes keeps) (made_by.volume_after s v order at place u at_place n file b h log up unprepared kept f from there found found_b allowed low broke.early new is.late is.entries is.makes keeps d (sym told))) refl refl refl;
    }

    either_left : (d : Content) → AllTold h v.catalog.ru (content v.store) d ⊎ (Some d ≡ new.store.current) → IsEitherOf (fallen (Some act) n) d
    either_left d (inl old) = inl (cut_left s v order n log kept f h there (Some act) d old)
    either_left d (inr now) = inr (inl (act, refl, left_after d now))

    durable_act : is_durable act ≡ true
    durable_act = ap is_durable (sym (made_by.act_is s v order at place u at_place n file b h log up unprepared kept f from there found found_b allowed low broke.early new is.late is.entries is.makes keeps))

    late_then : unit_refused_after_reading n b h.name file (Truncate from) ≡ None
    late_then = made_by.late_none s v order at place u at_place n file b h log up unprepared kept f from there found found_b allowed low broke.early new is.late is.entries is.makes keeps

  pub cut_broken : IsBroken (unit_refused_before_reading n b h.name file (Truncate from)) (unit_refused_after_reading n b h.name file (Truncate from)) act n w.store.disk
  cut_broken = record { begun = cut_begun s v order at place u at_place n file b h log up unprepared kept f from there found found_b allowed broke.early; disk = go broke.breaks }
    where
      go : BreaksCut h (IsCut u f h from s v) v w →
          HasDisk (fallen None n) w.store.disk ⊎ ((unit_refused_after_reading n b h.name file (Truncate from) ≡ None) × (is_durable act ≡ true) × HasDisk (fallen (Some act) n) w.store.disk)
      go (inl old) = inl (disk_sound (fallen None n) w.store.disk kept.has.home.volume (λ image may. let is = old image may in (is.0, inl (cut_left s v order n log kept f h there None (content_of image) is.1))))
      go (inr new) = inr (late_then new.made new.is, durable_act new.made new.is, disk_sound (fallen (Some act) n) w.store.disk kept.has.home.volume (λ image may. let is = new.either image may in (is.0, either_left new.made new.is (content_of image) is.1)))
