-- What a request that tells the table nothing leaves a node to spare.
use Rattle.std.proofs.Common.{◌≡◌, ℕ, ◌+◌, ◌*◌, ◌-◌, ◌<◌, ◌≤◌, List, [], ◌∷◌, ◌++◌, Bool, true, false, Option, Some, None, if◌then◌else◌, refl, sym, ap, subst, ◌∙◌, map, arith}
use Rattle.std.specs.Prelude.{not, ◌&&◌, nat_le, nat_lt, ◌^◌}
use Rattle.std.specs.Option.{option_and_then}
use Rattle.std.proofs.lemmas.Bool.Decides.{nat_tests}
use Rattle.vms_model.specs.Keys.{Key}
use Rattle.vms_model.specs.Times.{CanBeWritten}
use Rattle.reference_index.specs.transcript_model.Lines as line
use Rattle.script_lang.specs.script_model.Statements as said
use Rattle.script_lang.specs.script_model.Statements.{Request}
use Rattle.records_model.specs.Records.{Change}
use Rattle.unit_laws.specs.Journal.{JournalEntry, end_of, entries_for, entries_size, find_unit, owed, units_in}
use Rattle.unit_laws.proofs.TrimLemmas.{trim_keeps_units}
use Rattle.log_laws.specs.commit_protocol.Table.{Branch}
use Rattle.log_laws.specs.Slots.{slot_records}
use Rattle.reference_index.specs.run_model.Answers as answers
use Rattle.reference_index.specs.run_model.Answers.{branch_labelled, changes_at, free_journal, journal_full, keys_at, more_changes, more_locks, of_file, operation_act, operation_refused, owed_first, service}
use Rattle.reference_index.specs.run_model.Operations.{file_full, first_of, keys_held, refused_if}
use Rattle.reference_index.specs.run_model.Steps.{node_after, node_after_rows}
use Rattle.reference_index.specs.run_model.World as world
use Rattle.reference_index.specs.run_model.World.{Node, Shared, acted}
use Rattle.reference_tasks.specs.Serving.{HasUnits, IsSetEarly}
use Rattle.reference_tasks.proofs.UnitsLemmas.{less_units}

-- the entries of changes come behind those that are there
size_both : (es fs : List JournalEntry) → entries_size (es ++ fs) ≡ entries_size es + entries_size fs
size_both [] fs = omega arith
size_both (e ∷ es) fs = let more = size_both es fs in omega (arith, more)

-- an operation of a branch: what it enters fits the journal
operated_units : (units : ℕ) (n : Node) (b : Branch) (file : List ℕ) (cs : List Change) (keys : List Key) → journal_full n file cs b ≡ None → HasUnits (units + 64) n → HasUnits units (acted (operation_act b file cs keys) n)
operated_units units n b file [] keys fits h = record {
  journal = h.journal;
  boot = (let x = h.boot in omega arith);
  drawn = (let x = h.drawn in omega arith);
  time = record { greatest = (let g = h.time.greatest in omega arith); clock = (let c = h.time.clock in omega arith); end = (let e = h.time.end in omega arith) };
}
operated_units units n b file (c ∷ cs) keys fits h =
    let es = entries_for b.key.tid b.key.serial file (c ∷ cs) in
    let more = owed_first (find_unit b.key.serial (units_in n.durable.units.entries)) in
    let need : entries_size es ≤ 512 * n.durable.journal =
    few (entries_size n.durable.units.entries) (owed (units_in n.durable.units.entries)) (entries_size es) more (nat_lt (free_journal n) (entries_size es + more)) refl fits in
    let size = size_both n.durable.units.entries es in
    record {
      journal = h.journal;
      boot = (let x = h.boot in omega arith);
      drawn = (let x = h.drawn in omega arith);
      time = record {
        greatest = (let g = h.time.greatest in omega arith);
        clock = (let k = h.time.clock in omega arith);
        end = (let e = h.time.end in let j = h.journal in omega (arith, e, j, need, size));
      };
    }
  where
    less : (journal a b size more : ℕ) → nat_lt (512 * journal - a - b) (size + more) ≡ false → size ≤ 512 * journal
    less journal a b size more e = grind (arith, nat_tests)

    few : (a b size more : ℕ) (t : Bool) → nat_lt (512 * n.durable.journal - a - b) (size + more) ≡ t → refused_if t (line.JournalFull (512 * n.durable.journal - a - b) (size + more)) ≡ None → size ≤ 512 * n.durable.journal
    few a b size more true is e = let never : ⊥ = cc in absurd never
    few a b size more false is e = less n.durable.journal a b size more is

none_last : (a b : Option line.Line) → first_of a b ≡ None → (a ≡ None) × (b ≡ None)
none_last None b e = (refl, e)
none_last (Some x) b e = let never : ⊥ = cc in absurd never

-- nothing refuses it
fits_of : (s : Shared) (n : Node) (label file : List ℕ) (op : said.Operation) (b : Branch) → branch_labelled s n label ≡ Some b → operation_refused s n label file op ≡ None → journal_full n file (changes_at n file op) b ≡ None
fits_of s n label file op b found e =
    let full = option_and_then (journal_full n file (changes_at n file op)) (branch_labelled s n label) in
    let buckets = of_file n file (λ f. file_full f op) in
    let locks = of_file n file (λ f. more_locks n file (keys_held f op)) in
    let many = option_and_then (more_changes n (changes_at n file op)) (branch_labelled s n label) in
    let images = option_and_then (λ (b : Branch). of_file n file (answers.images_full b.key.serial (changes_at n file op))) (branch_labelled s n label) in
    let one = (none_last (of_file n file (answers.found_refused n (world.serial_labelled n.name label s.labels) file op)) (first_of many (first_of locks (first_of buckets (first_of full images)))) e).1 in
    let two = (none_last many (first_of locks (first_of buckets (first_of full images))) one).1 in
    let three = (none_last locks (first_of buckets (first_of full images)) two).1 in
    let four = (none_last buckets (first_of full images) three).1 in
    let five = (none_last full images four).0 in
    ap (option_and_then (journal_full n file (changes_at n file op))) (sym found) ∙ five

-- changes that were committed at once
directed_units : (units : ℕ) (n : Node) (file : List ℕ) (cs : List Change) → HasUnits (units + 64) n → HasUnits units (node_after_rows (answers.directed n file cs) n)
directed_units units n file [] h = less_units (units + 64) units n (omega arith) h
directed_units units n file (c ∷ cs) h = record {
  journal = h.journal;
  boot = (let x = h.boot in omega arith);
  drawn = (let x = h.drawn in omega arith);
  time = record {
    greatest = go (nat_le n.clock (n.durable.greatest + 1));
    clock = (let k = h.time.clock in omega arith);
    end = (let e = h.time.end in let t = (trim_keeps_units n.durable.units).end in omega (arith, e, t));
  };
}
  where
    go : (b : Bool) → CanBeWritten ((if b then n.durable.greatest + 1 else n.clock) + 2048 * units)
    go true = let g = h.time.greatest in omega arith
    go false = let k = h.time.clock in omega arith

-- nothing is changed but what is held, marked, made or called
same_units : (units : ℕ) (n m : Node) → m.durable.journal ≡ n.durable.journal → m.durable.boot ≡ n.durable.boot → m.volatile.drawn ≡ n.volatile.drawn → m.durable.greatest ≡ n.durable.greatest → m.clock ≡ n.clock → m.durable.units ≡ n.durable.units →
    HasUnits (units + 64) n → HasUnits units m
same_units units n m journal boot drawn greatest clock journals h = record {
  journal = (let x = h.journal in omega (arith, journal, x));
  boot = (let x = h.boot in omega (arith, boot, x));
  drawn = (let x = h.drawn in omega (arith, drawn, x));
  time = record {
    greatest = (let x = h.time.greatest in omega (arith, greatest, x));
    clock = (let x = h.time.clock in omega (arith, clock, x));
    end = subst (λ j. end_of j + 48 * (2048 * units) < 2 ^ 64) (sym journals) (let x = h.time.end in omega arith);
  };
}

-- rows that show records or entries
shown_rows : {A : Type 0} (f : A → answers.Row) (xs : List A) (n : Node) → ((x : A) → (f x).act ≡ None) → node_after_rows (map f xs) n ≡ n
shown_rows f [] n silent = refl
shown_rows f (x ∷ xs) n silent = ap (λ o. node_after_rows (map f xs) (node_after o n)) (silent x) ∙ shown_rows f xs n silent

-- a new volume
made_small : (slots journal : ℕ) (s : Shared) (n : Node) → (service (said.Init slots journal)).refused_before_reading s n ≡ None → journal ≤ 8192
made_small slots journal s n e = go (answers.is_volume_form slots journal n) refl (none_last (refused_if s.in_use line.VolumeInUse) (refused_if (not (answers.is_volume_form slots journal n)) line.BadParameter) e).1
  where
    second : (a b c : Bool) (k : ℕ) → ((a && (b && nat_le k 8192)) && c) ≡ true → k ≤ 8192
    second a b c k e = grind (arith, nat_tests)

    go : (t : Bool) → answers.is_volume_form slots journal n ≡ t → refused_if (not t) line.BadParameter ≡ None → journal ≤ 8192
    go true is h = second (nat_le 64 slots && nat_le slots 512) (nat_le 64 journal) (nat_lt (584 + slots + journal) n.blocks) journal is
    go false is h = let never : ⊥ = cc in absurd never

made_units : (units slots journal : ℕ) (n : Node) → journal ≤ 8192 → HasUnits (units + 64) n → HasUnits units (acted (world.Formats slots journal) n)
made_units units slots journal n few h = record {
  journal = few;
  boot = (let x = h.boot in omega arith);
  drawn = (let x = h.drawn in omega arith);
  time = record { greatest = (let x = h.time.greatest in omega arith); clock = (let x = h.time.clock in omega arith); end = (let x = h.time.end in omega arith) };
}

created_units : (units : ℕ) (n : Node) (made : ℕ → world.File) (need : ℕ) → HasUnits (units + 64) n → HasUnits units (node_after_rows (answers.creates n made need) n)
created_units units n made need h = go (world.free_place n.durable.directory) (world.lowest_free n need)
  where
    go : (at lies : Option ℕ) → HasUnits units (node_after_rows (elim at as (λ _. List answers.Row) [ Some place ↦ elim lies as (λ _. List answers.Row) [ Some start ↦ record { act = Some (world.Creates place (made start)); lines = [] } ∷ [] | None ↦ [] ] | None ↦ [] ]) n)
    go (Some place) (Some start) = same_units units n _ refl refl refl refl refl refl h
    go (Some place) None = less_units (units + 64) units n (omega arith) h
    go None lies = less_units (units + 64) units n (omega arith) h

operate_units : (units : ℕ) (s : Shared) (n : Node) (label file : List ℕ) (op : said.Operation) → operation_refused s n label file op ≡ None → HasUnits (units + 64) n → HasUnits units (node_after_rows ((service (said.Records label file op)).rows s n) n)
operate_units units s n label file op e h = go (branch_labelled s n label) refl
  where
    go : (o : Option Branch) → branch_labelled s n label ≡ o → HasUnits units (node_after_rows (elim o as (λ _. List answers.Row) [ Some b ↦ answers.operated n file op b ∷ [] | None ↦ [] ]) n)
    go (Some b) found = operated_units units n b file (changes_at n file op) (keys_at n file op) (fits_of s n label file op b found e) h
    go None found = less_units (units + 64) units n (omega arith) h

-- a mark, a save and a recovery change a file alone
set_units : (units : ℕ) (n : Node) (file : List ℕ) (setting : said.Setting) → HasUnits (units + 64) n → HasUnits units (node_after_rows (answers.sets n file setting) n)
set_units units n file said.RecoveryUnits h = same_units units n _ refl refl refl refl refl refl h
set_units units n file said.NoRecoveryUnits h = same_units units n _ refl refl refl refl refl refl h
set_units units n file (said.Images side blocks) h = same_units units n _ refl refl refl refl refl refl h
set_units units n file (said.NoImages side) h = same_units units n _ refl refl refl refl refl refl h

-- what is done to a file leaves the node its units where it does so to any
file_units : (units : ℕ) (n : Node) (file : List ℕ) (does : world.File → List answers.Row) → ((f : world.File) → HasUnits units (node_after_rows (does f) n)) → HasUnits (units + 64) n → HasUnits units (node_after_rows (answers.to_file n file does) n)
file_units units n file does each h = go (world.find_file file n.durable.directory)
  where
    go : (o : Option world.File) → HasUnits units (node_after_rows (elim o as (λ _. List answers.Row) [ Some f ↦ does f | None ↦ [] ]) n)
    go (Some f) = each f
    go None = less_units (units + 64) units n (omega arith) h

-- the request tells the table nothing, and boots no node
abbrev pub IsQuiet : Request → Type 0
IsQuiet (said.Records label file operation) = Unit {0}
IsQuiet (said.Direct file operation) = Unit {0}
IsQuiet (said.Init slots blocks) = Unit {0}
IsQuiet said.Boot = ⊥
IsQuiet (said.Create file bucket size form) = Unit {0}
IsQuiet (said.SetFile file setting) = Unit {0}
IsQuiet (said.StartTrans label seconds) = ⊥
IsQuiet (said.AddBranch label other new) = ⊥
IsQuiet (said.StartBranch label) = ⊥
IsQuiet (said.EndBranch label) = ⊥
IsQuiet (said.EndTrans label) = ⊥
IsQuiet (said.AbortTrans label) = ⊥
IsQuiet (said.Inquire who) = ⊥
IsQuiet (said.DeclareRm rm) = Unit {0}
IsQuiet (said.JoinRm label rm) = ⊥
IsQuiet (said.AckEvent who rm reply) = ⊥
IsQuiet (said.ForgetRm rm) = Unit {0}
IsQuiet (said.GetDti who) = Unit {0}
IsQuiet said.LmcpShow = Unit {0}
IsQuiet said.LmcpDump = Unit {0}
IsQuiet (said.Dump file) = Unit {0}
IsQuiet said.DumpJournal = Unit {0}
IsQuiet (said.DumpImages file side) = Unit {0}
IsQuiet (said.Backup file) = Unit {0}
IsQuiet (said.Recover file way) = Unit {0}
IsQuiet (said.Fuse writes choice) = Unit {0}
IsQuiet said.Crash = Unit {0}
IsQuiet (said.Clock now) = Unit {0}

pub request_units : (units : ℕ) (s : Shared) (n m : Node) (r : Request) → IsQuiet r → IsSetEarly units r → (service r).refused_before_reading s n ≡ None → (service r).refused_after_reading s n ≡ None →
    m ≡ node_after (service r).closing (node_after_rows ((service r).rows s n) n) → HasUnits (units + 64) n → HasUnits units m
request_units units s n m r quiet early before after is h = subst (HasUnits units) (sym is) (by r quiet early before after)
  where
    by : (r : Request) → IsQuiet r → IsSetEarly units r → (service r).refused_before_reading s n ≡ None → (service r).refused_after_reading s n ≡ None → HasUnits units (node_after (service r).closing (node_after_rows ((service r).rows s n) n))
    by (said.Records label file op) q e b a = operate_units units s n label file op a h
    by (said.Direct file op) q e b a = directed_units units n file (changes_at n file op) h
    by (said.Init slots blocks) q e b a = made_units units slots blocks n (made_small slots blocks s n b) h
    by said.Boot q e b a = absurd q
    by (said.Create file bucket size form) q e b a = created_units units n (λ start. answers.created file bucket size form start n.durable.greatest) (answers.blocks_for bucket size form) h
    by (said.SetFile file setting) q e b a = set_units units n file setting h
    by (said.StartTrans label seconds) q e b a = absurd q
    by (said.AddBranch label other new) q e b a = absurd q
    by (said.StartBranch label) q e b a = absurd q
    by (said.EndBranch label) q e b a = absurd q
    by (said.EndTrans label) q e b a = absurd q
    by (said.AbortTrans label) q e b a = absurd q
    by (said.Inquire who) q e b a = absurd q
    by (said.DeclareRm rm) q e b a = same_units units n _ refl refl refl refl refl refl h
    by (said.JoinRm label rm) q e b a = absurd q
    by (said.AckEvent who rm reply) q e b a = absurd q
    by (said.ForgetRm rm) q e b a = same_units units n _ refl refl refl refl refl refl h
    by (said.GetDti who) q e b a = less_units (units + 64) units n (omega arith) h
    by said.LmcpShow q e b a = less_units (units + 64) units n (omega arith) h
    by said.LmcpDump q e b a = subst (HasUnits units) (sym (shown_rows answers.shown_line (map answers.log_line (slot_records 0 n.durable.log)) n (λ x. refl))) (less_units (units + 64) units n (omega arith) h)
    by (said.Dump file) q e b a = subst (HasUnits units) (sym (shown_rows answers.shown_record (answers.records_of n file) n (λ x. refl))) (less_units (units + 64) units n (omega arith) h)
    by said.DumpJournal q e b a = subst (HasUnits units) (sym (shown_rows answers.shown_line (answers.entry_lines n.durable.units.first n.durable.units.entries) n (λ x. refl))) (less_units (units + 64) units n (omega arith) h)
    by (said.DumpImages file side) q e b a = file_units units n file (λ f. map answers.shown_line (answers.image_lines file (answers.journal_at side f).entries))
        (λ f. subst (HasUnits units) (sym (shown_rows answers.shown_line (answers.image_lines file (answers.journal_at side f).entries) n (λ x. refl))) (less_units (units + 64) units n (omega arith) h)) h
    by (said.Backup file) q e b a = file_units units n file (λ f. answers.on_free n (answers.blocks_of f) (world.Saves file)) (λ f. same_units units n _ refl refl refl refl refl refl h) h
    by (said.Recover file way) q e b a = file_units units n file (answers.recovers n file way) (λ f. same_units units n _ refl refl refl refl refl refl h) h
    by (said.Fuse writes choice) q e b a = same_units units n _ refl refl refl refl refl refl h
    by said.Crash q e b a = same_units units n _ refl refl refl refl refl refl h
    by (said.Clock now) q e b a = record {
      journal = h.journal;
      boot = (let x = h.boot in omega arith);
      drawn = (let x = h.drawn in omega arith);
      time = record { greatest = (let x = h.time.greatest in omega arith); clock = e; end = (let x = h.time.end in omega arith) };
    }
