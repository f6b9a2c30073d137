-- Worked scripts, played.
use Rattle.std.proofs.Common.{◌≡◌, ℕ, zero, suc, ◌+◌, ◌*◌, List, [], ◌∷◌, ◌++◌, Bool, true, false, Option, Some, None, cond, refl, sym, ◌∙◌, ap, codes, length}
use Rattle.std.specs.Prelude.{replicate}
use Rattle.std.specs.Ordering.{eq_by_cmp}
use Rattle.std.specs.FinMap.{empty, insert, get, get-empty}
use Rattle.vms_model.specs.Keys.{Number}
use Rattle.vms_model.specs.Transactions.{Commit}
use Rattle.world_laws.specs.transcript_model.Lines as line
use Rattle.world_laws.specs.script_model.Statements.{AfterImages, BeforeImages, Direct, DumpImages, EndTrans, Put, Records}
use Rattle.unit_laws.specs.records_model.Records.{Change, Records as RecordMap, key_cmp, set_key}
use Rattle.unit_laws.specs.records_model.History.{LiveChanges, SettledChanges}
use Rattle.unit_laws.proofs.records_model.RecordsLemmas.{get-set_key, set_back}
use Rattle.unit_laws.specs.tree_model.Layouts.{no_layout}
use Rattle.unit_laws.specs.Journal.{Journal, ChangeEntry, empty_journal}
use Rattle.world_laws.specs.recovery_model.Journal.{Changed, Settled}
use Rattle.world_laws.specs.recovery_model.File.{Placed}
use Rattle.world_laws.specs.commit_protocol.Messages.{same_name, same_id}
use Rattle.world_laws.specs.commit_protocol.Table.{Active, same_key}
use Rattle.world_laws.specs.commit_protocol.Rows.{blank}
use Rattle.world_laws.specs.run_model.Locks.{Lock}
use Rattle.world_laws.specs.run_model.World.{Carried, File, Power, Relative, Settlement, Sound, World, nothing_carried}
use Rattle.world_laws.specs.run_model.Rows.{Move, base_lines, id, says, shown}
use Rattle.world_laws.proofs.run_model.RowLemmas.{last_plays, then_plays}
use Rattle.recovery_laws.specs.Rows.{FivePutsFill, ImagesAreKept, NewJournalIsShort, RingIsFull, WorkedFileRecovers, first_two, kept_lines, put_lines, put_move}

-- T puts a record in F, which keeps images of both kinds and is saved.

abbrev carried : (after before : ℕ) → (afters befores : List Placed) → Carried
carried after before afters befores = record {
  after = record { on = true; start = 715; blocks = 64; first = 512; end = after; entries = afters };
  before = record { on = true; start = 779; blocks = 64; first = 512; end = before; entries = befores };
  since = 0;
  save = Some (record { start = 843; buckets = 3; position = 512; moment = 0; records = empty });
}

abbrev file_f : Carried → (units : Bool) → List LiveChanges → File
file_f r units live = record {
  name = codes "F";
  bucket = 1;
  record_size = 100;
  organization = Relative 10;
  start = 712;
  buckets = 3;
  carried = r;
  recovery_units = units;
  history = record { base = empty; moment = 0; settled = []; live = live };
  past = λ moment. empty;
  layout = no_layout;
}

abbrev world_f : Journal → File → (changed : Bool) → List Lock → World
world_f units f changed locks = record {
  nodes = record {
    name = codes "A";
    blocks = 1000;
    durable = record { volume = Sound; log = replicate 64 None; journal = 64; boot = 1; greatest = 0; last = None; units = units; directory = Some f ∷ replicate 63 None };
    volatile = record { drawn = 1; branches = record (blank (id 1 1) (id 1 1) None Active None) { changed = changed } ∷ []; records = []; preparation = []; locks = locks; declared = [] };
    unmade = false;
    up = true;
    was_up = true;
    clock = 0;
    settled = [];
    calls = Power 0 ∷ Power 0 ∷ [];
    under_way = None;
  } ∷ [];
  disks = record { faults = 0; stops = 0 } ∷ [];
  shared = record { labels = record { name = codes "T"; node = codes "A"; tid = id 1 1; bid = None; serial = Some (id 1 1) } ∷ []; in_use = true; wire = []; accepted = []; read_only = [] };
}

abbrev begun : World
begun = world_f empty_journal (file_f (carried 512 512 [] []) true []) false []

abbrev change : Change
change = record { key = Number 1; before = None; after = Some (codes "a") }

abbrev put : World
put = world_f (record { first = 0; entries = ChangeEntry (id 1 1) (id 1 1) (codes "F") (Number 1) None ∷ [] })
    (file_f (carried 565 564 (record { at = 512; tid = id 1 1; entry = Changed (id 1 1) (Number 1) (Some (codes "a")) } ∷ []) (record { at = 512; tid = id 1 1; entry = Changed (id 1 1) (Number 1) None } ∷ [])) true (record { serial = id 1 1; changes = change ∷ [] } ∷ []))
    true (record { file = codes "F"; key = Number 1; by = id 1 1 } ∷ [])

abbrev put_said : Move
put_said = says (Records (codes "T") (codes "F") (Put (Some 1) (codes "a")))

puts : shown begun put_said ≡ record { lines = line.RecordNormal ∷ []; world = put }
unfolding same_name same_id same_key
puts = rw (get-empty, get-empty) refl

pub images_are_kept : ImagesAreKept
unfolding same_name same_id same_key
images_are_kept = ap (λ x. base_lines ++ kept_lines ++ (line.NormalId (id 1 1) ∷ []) ∷ x)
    (then_plays begun put_said (line.RecordNormal ∷ []) put (says (EndTrans (codes "T")) ∷ says (DumpImages (codes "F") AfterImages) ∷ says (DumpImages (codes "F") BeforeImages) ∷ []) puts)

pub new_journal_is_short : NewJournalIsShort
unfolding same_name same_id same_key
new_journal_is_short = refl

-- A file H whose journal of after images has one block.

abbrev file_h : (size buckets end : ℕ) → List Placed → List SettledChanges → File
file_h size buckets end entries done = record {
  name = codes "H";
  bucket = 1;
  record_size = size;
  organization = Relative 10;
  start = 715;
  buckets = buckets;
  carried = record nothing_carried { after = record { on = true; start = 715 + buckets; blocks = 1; first = 512; end = end; entries = entries } };
  recovery_units = false;
  history = record { base = empty; moment = 0; settled = done; live = [] };
  past = λ moment. empty;
  layout = no_layout;
}

abbrev settlement : Settlement
settlement = record { tid = id 1 1; serial = id 1 1; outcome = Commit; reason = None; moment = 1 }

abbrev world_h : (greatest drawn : ℕ) → Option Settlement → List Settlement → File → World
world_h greatest drawn last settled h = record {
  nodes = record {
    name = codes "A";
    blocks = 1000;
    durable = record { volume = Sound; log = replicate 64 None; journal = 64; boot = 1; greatest = greatest; last = last; units = empty_journal; directory = Some (file_f nothing_carried true []) ∷ Some h ∷ replicate 62 None };
    volatile = record { drawn = drawn; branches = []; records = []; preparation = []; locks = []; declared = [] };
    unmade = false;
    up = true;
    was_up = true;
    clock = 0;
    settled = settled;
    calls = Power 0 ∷ Power 0 ∷ [];
    under_way = None;
  } ∷ [];
  disks = record { faults = 0; stops = 0 } ∷ [];
  shared = record { labels = []; in_use = true; wire = []; accepted = []; read_only = [] };
}

abbrev marked_h : World
marked_h = world_h 0 0 None [] (file_h 480 10 512 [] [])

abbrev put_h : List ℕ → World
put_h bytes = world_h 1 1 (Some settlement) (settlement ∷ [])
    (file_h 480 10 1017 (record { at = 969; tid = id 1 1; entry = Settled (id 1 1) Commit 1 } ∷ record { at = 512; tid = id 1 1; entry = Changed (id 1 1) (Number 1) (Some bytes) } ∷ [])
    (record { serial = id 1 1; outcome = Commit; moment = 1; changes = record { key = Number 1; before = None; after = Some bytes } ∷ [] } ∷ []))

abbrev direct_h : (number : ℕ) → List ℕ → Move
direct_h number bytes = says (Direct (codes "H") (Put (Some number) bytes))

directs : (bytes : List ℕ) → length bytes ≡ 405 → shown marked_h (direct_h 1 bytes) ≡ record { lines = line.Committed (id 1 1) (id 1 1) 1 ∷ line.RecordNormal ∷ []; world = put_h bytes }
unfolding same_name same_id same_key
directs bytes e = rw (e, get-empty, e, get-empty, e) refl

abbrev one_record : List ℕ → RecordMap
one_record bytes = insert empty (Number 1) bytes

no_second : (bytes : List ℕ) → get (one_record bytes) (Number 2) ≡ None
no_second bytes = get-set_key empty (Number 1) (Number 2) (Some bytes) ∙ get-empty key_cmp (Number 2)

is_full : (bytes : List ℕ) → (shown (put_h bytes) (direct_h 2 (codes "a"))).lines ≡ line.AftersFull 7 101 ∷ []
unfolding same_name same_id same_key
is_full bytes = rw (no_second bytes) refl

pub ring_is_full : RingIsFull
unfolding same_name same_id same_key
ring_is_full bytes e = ap (λ x. base_lines ++ (line.Normal ∷ []) ∷ (line.Normal ∷ []) ∷ x)
    (then_plays marked_h (direct_h 1 bytes) (line.Committed (id 1 1) (id 1 1) 1 ∷ line.RecordNormal ∷ []) (put_h bytes) (direct_h 2 (codes "a") ∷ []) (directs bytes e)
    ∙ ap (λ x. (line.Committed (id 1 1) (id 1 1) 1 ∷ line.RecordNormal ∷ []) ∷ x) (last_plays (put_h bytes) (direct_h 2 (codes "a")) (line.AftersFull 7 101 ∷ []) (is_full bytes)))

-- The same by five records of one byte.

abbrev put_settled : ℕ → Settlement
put_settled k = record { tid = id 1 k; serial = id 1 k; outcome = Commit; reason = None; moment = k }

abbrev last_put : ℕ → Option Settlement
last_put zero = None
last_put (suc k) = Some (put_settled (suc k))

abbrev all_settled : ℕ → List Settlement
all_settled zero = []
all_settled (suc k) = put_settled (suc k) ∷ all_settled k

abbrev all_entries : ℕ → List Placed
all_entries zero = []
all_entries (suc k) = record { at = 565 + 101 * k; tid = id 1 (suc k); entry = Settled (id 1 (suc k)) Commit (suc k) }
    ∷ record { at = 512 + 101 * k; tid = id 1 (suc k); entry = Changed (id 1 (suc k)) (Number (suc k)) (Some (codes "a")) } ∷ all_entries k

abbrev all_done : ℕ → List SettledChanges
all_done zero = []
all_done (suc k) = record { serial = id 1 (suc k); outcome = Commit; moment = suc k; changes = record { key = Number (suc k); before = None; after = Some (codes "a") } ∷ [] } ∷ all_done k

abbrev all_records : ℕ → RecordMap
all_records zero = empty
all_records (suc k) = insert (all_records k) (Number (suc k)) (codes "a")

-- the world behind so many changes
abbrev filled : ℕ → World
filled k = world_h k k (last_put k) (all_settled k) (file_h 100 3 (512 + 101 * k) (all_entries k) (all_done k))

-- whether a number is none of so many from one on
abbrev none_of : (k j : ℕ) → Bool
none_of zero j = true
none_of (suc k) j = cond (eq_by_cmp key_cmp (Number j) (Number (suc k))) false (none_of k j)

not_there : (b : Bool) (v w : Option (List ℕ)) (rest : Bool) → cond b false rest ≡ true → (rest ≡ true → w ≡ None) → cond b v w ≡ None
not_there true v w rest e f = cc
not_there false v w rest e f = f e

absent : (k j : ℕ) → none_of k j ≡ true → get (all_records k) (Number j) ≡ None
absent zero j e = get-empty key_cmp (Number j)
absent (suc k) j e = get-set_key (all_records k) (Number (suc k)) (Number j) (Some (codes "a"))
    ∙ not_there (eq_by_cmp key_cmp (Number j) (Number (suc k))) (Some (codes "a")) (get (all_records k) (Number j)) (none_of k j) e (absent k j)

abbrev Puts : ℕ → Type 0
Puts k = shown (filled k) (put_move (suc k)) ≡ record { lines = put_lines (suc k); world = filled (suc k) }

puts_first : Puts 0
unfolding same_name same_id same_key
puts_first = rw (absent 0 1 refl, absent 0 1 refl) refl

puts_second : Puts 1
unfolding same_name same_id same_key
puts_second = rw (absent 1 2 refl, absent 1 2 refl) refl

puts_third : Puts 2
unfolding same_name same_id same_key
puts_third = rw (absent 2 3 refl, absent 2 3 refl) refl

puts_fourth : Puts 3
unfolding same_name same_id same_key
puts_fourth = rw (absent 3 4 refl, absent 3 4 refl) refl

puts_fifth : Puts 4
unfolding same_name same_id same_key
puts_fifth = rw (absent 4 5 refl, absent 4 5 refl) refl

sixth_is_full : (shown (filled 5) (put_move 6)).lines ≡ line.AftersFull 7 101 ∷ []
unfolding same_name same_id same_key
sixth_is_full = rw (absent 5 6 refl) refl

pub five_puts_fill : FivePutsFill
unfolding same_name same_id same_key
five_puts_fill = ap (λ x. base_lines ++ (line.Normal ∷ []) ∷ (line.Normal ∷ []) ∷ x)
    (then_plays (filled 0) (put_move 1) (put_lines 1) (filled 1) (put_move 2 ∷ put_move 3 ∷ put_move 4 ∷ put_move 5 ∷ put_move 6 ∷ []) puts_first
    ∙ ap (λ x. put_lines 1 ∷ x) (then_plays (filled 1) (put_move 2) (put_lines 2) (filled 2) (put_move 3 ∷ put_move 4 ∷ put_move 5 ∷ put_move 6 ∷ []) puts_second
    ∙ ap (λ x. put_lines 2 ∷ x) (then_plays (filled 2) (put_move 3) (put_lines 3) (filled 3) (put_move 4 ∷ put_move 5 ∷ put_move 6 ∷ []) puts_third
    ∙ ap (λ x. put_lines 3 ∷ x) (then_plays (filled 3) (put_move 4) (put_lines 4) (filled 4) (put_move 5 ∷ put_move 6 ∷ []) puts_fourth
    ∙ ap (λ x. put_lines 4 ∷ x) (then_plays (filled 4) (put_move 5) (put_lines 5) (filled 5) (put_move 6 ∷ []) puts_fifth
    ∙ ap (λ x. put_lines 5 ∷ x) (last_plays (filled 5) (put_move 6) (line.AftersFull 7 101 ∷ []) sixth_is_full))))))

-- Files.

no_fourth : get first_two (Number 4) ≡ None
no_fourth = get-set_key (insert empty (Number 1) (97 ∷ [])) (Number 2) (Number 4) (Some (98 ∷ [])) ∙ get-set_key empty (Number 1) (Number 4) (Some (97 ∷ [])) ∙ get-empty key_cmp (Number 4)

pub worked_file_recovers : WorkedFileRecovers
worked_file_recovers = record {
  forward = refl;
  moment = refl;
  backward = sym (ap (set_key (set_key first_two (Number 4) (Some (100 ∷ []))) (Number 4)) no_fourth) ∙ set_back first_two (Number 4) (Some (100 ∷ []));
  behind = refl;
}
