-- The acts of a row, done one after another by their effects.
use Rattle.std.proofs.Common.{◌≡◌, ℕ, ◌+◌, ◌*◌, ◌<◌, ◌≤◌, List, [], ◌∷◌, ◌++◌, Bool, true, false, Option, Some, None, ◌⊎◌, inl, inr, Result, Ok, Err, refl, sym, ap, subst, ◌∙◌, length, get_or, suc, arith}
use Rattle.std.specs.Prelude.{if◌then◌else◌, map, option_map, nat_le, ◌^◌, OnOk}
use Rattle.vms_model.specs.Ids.{Id}
use Rattle.vms_model.specs.Times.{CanBeWritten}
use Rattle.world_laws.specs.transcript_model.Lines as line
use Rattle.unit_laws.specs.Journal.{Journal, JournalEntry, PreparedEntry, RecoveryUnit, end_of, entries_size, find_unit, units_in, with_entries, with_settled}
use Rattle.unit_laws.specs.JournalLaws.{HasSettled, is_unit}
use Rattle.unit_laws.proofs.TrimLemmas.{settles_unit}
use Rattle.vms_model.specs.Transactions.{Outcome, Abort}
use Rattle.commit_protocol.specs.Effects.{Effect, ForgetEffect, KeepEffect, act_effects, acknowledge_effects, effects_of, record_effects, release_effects, JoinedEffect, PrepareEffect, SettleEffect, ReadOnlyEffect, SendEffect, line_effect}
use Rattle.commit_protocol.specs.Messages.{LogRecord, Name}
use Rattle.commit_protocol.specs.Rows.{Event, row}
use Rattle.commit_protocol.specs.Table.{Act, Accepts, Acknowledges, Branch, Key, Leaves, Notes, Prepares, Prints, Releases, Sends, Settles, Tm, Undoes, acknowledged, after, after_act, holding, holds, nothing_left, records_after, released, waits_for}
use Rattle.world_laws.specs.log_laws.Slots.{Slots, slots_after, record_effects_in}
use Rattle.world_laws.specs.run_model.Answers.{acknowledged_lines, released_lines, shown_by, table_rows}
use Rattle.world_laws.specs.run_model.Steps.{lines_of_rows, node_after_rows, shared_after_rows}
use Rattle.world_laws.specs.run_model.World.{Node, Shared, Tables, acted, next_moment, shared_after, tm_of}
use Rattle.reference_world.specs.Standing.{line_of}
use Rattle.reference_world.specs.declared.line.Line.{Line}
use Rattle.reference_disk.specs.Disks.{one_line}
use Rattle.reference_node.specs.Telling.{AllTellable, Applies, AppliesAll, AppliesEvent, HasTime, IsTellable, MayApply, done_by, with_records, with_tm}
use Rattle.reference_index.proofs.ListLemmas.{behind_first, parts}
use Rattle.reference_node.proofs.KeyLemmas.{after_as, row_as}
use Rattle.reference_node.proofs.Viewing.{acknowledge_still, release_still}

-- An act has one effect or none.

abbrev Few : List Effect → Type 0
Few es = (es ≡ []) ⊎ ((x : Effect) × (es ≡ x ∷ []))

few_record : (r : LogRecord) → Few (record_effects r)
few_record r = go (nothing_left r.waiting r.rms)
  where
    go : (b : Bool) → Few (if b then ForgetEffect r.serial ∷ [] else KeepEffect r ∷ [])
    go true = inr (ForgetEffect r.serial, refl)
    go false = inr (KeepEffect r, refl)

few_acknowledge : (k : Key) (rs : List LogRecord) → Few (acknowledge_effects k rs)
few_acknowledge k [] = inl refl
few_acknowledge k (r ∷ rs) = go (waits_for k r) (few_acknowledge k rs)
  where
    go : (b : Bool) → Few (acknowledge_effects k rs) → Few (if b then record_effects (acknowledged k r) else acknowledge_effects k rs)
    go true more = few_record (acknowledged k r)
    go false more = more

few_release : (s : Id) (m : Name) (rs : List LogRecord) → Few (release_effects s m rs)
few_release s m [] = inl refl
few_release s m (r ∷ rs) = go (holds s m r) (few_release s m rs)
  where
    go : (b : Bool) → Few (release_effects s m rs) → Few (if b then record_effects (released m r) else release_effects s m rs)
    go true more = few_record (released m r)
    go false more = more

few : (a : Act) (rs : List LogRecord) → Few (act_effects a rs)
few (Notes b) rs = inl refl
few (Accepts b c) rs = inr (JoinedEffect c.serial, refl)
few (Prepares b) rs = inr (PrepareEffect b.key.serial (holding b.managers), refl)
few (Settles k o why r) rs = inr (SettleEffect k.serial o why r, refl)
few (Leaves k) rs = inr (ReadOnlyEffect k.serial, refl)
few (Acknowledges k) rs = few_acknowledge k rs
few (Releases s m) rs = few_release s m rs
few (Undoes k) rs = inl refl
few (Sends m) rs = inr (SendEffect m, refl)
few (Prints l) rs = inr (line_effect l, refl)

-- An act without an effect changes the table alone.

pub record IsStill (a : Act) (rs : List LogRecord) (ss : Slots) : Type 0 where
  pub node : (n : Node) → n.durable.log ≡ ss → done_by a rs n ≡ n
  pub shared : (moment : ℕ) (s : Shared) → shared_after (Tables a moment) s ≡ s
  pub lines : (moment : ℕ) (n : Node) (s : Shared) → n.volatile.records ≡ rs → shown_by a moment n s ≡ []
  pub slots : slots_after a rs ss ≡ ss

never_none : {A : Type 0} (x : A) → x ∷ [] ≡ [] → ⊥
never_none x e = cc

acknowledges_none : (k : Key) (rs : List LogRecord) (n : Node) → acknowledge_effects k rs ≡ [] → done_by (Acknowledges k) rs n ≡ n
acknowledges_none k rs n e = ap (λ (es : List Effect). (let m : Node = record n { durable = record n.durable { log = record_effects_in es n.durable.log } } in m)) e

releases_none : (serial : Id) (x : Name) (rs : List LogRecord) (n : Node) → release_effects serial x rs ≡ [] → done_by (Releases serial x) rs n ≡ n
releases_none serial x rs n e = ap (λ (es : List Effect). (let m : Node = record n { durable = record n.durable { log = record_effects_in es n.durable.log } } in m)) e

still : (before : List Key) (tid : Id) (a : Act) (rs : List LogRecord) (ss : Slots) → IsTellable before tid a rs ss → act_effects a rs ≡ [] → IsStill a rs ss
still before tid (Notes b) rs ss h e = record { node = λ n at. refl; shared = λ moment s. refl; lines = λ moment n s at. refl; slots = refl }
still before tid (Accepts b c) rs ss h e = absurd (never_none _ e)
still before tid (Prepares b) rs ss h e = absurd (never_none _ e)
still before tid (Settles k o why r) rs ss h e = absurd (never_none _ e)
still before tid (Leaves k) rs ss h e = absurd (never_none _ e)
still before tid (Acknowledges k) rs ss h e = record {
  node = λ n at. acknowledges_none k rs n e;
  shared = λ moment s. refl;
  lines = λ moment n s at. ap (acknowledged_lines k) at ∙ (acknowledge_still k rs e).1;
  slots = ap (λ es. record_effects_in es ss) e;
}
still before tid (Releases serial x) rs ss h e = record {
  node = λ n at. releases_none serial x rs n e;
  shared = λ moment s. refl;
  lines = λ moment n s at. ap (released_lines serial x) at ∙ (release_still serial x rs e).1;
  slots = ap (λ es. record_effects_in es ss) e;
}
still before tid (Undoes k) rs ss h e = absurd h
still before tid (Sends m) rs ss h e = absurd (never_none _ e)
still before tid (Prints l) rs ss h e = absurd (never_none _ e)

-- An act at a node with this table.

acted_is : (a : Act) (tm : Tm) (n : Node) → acted (Tables a (next_moment n)) (with_tm tm n) ≡ with_tm (after_act a tm) (done_by a tm.records n)
acted_is a tm n = refl

-- the log after it
pub log_after : (a : Act) (rs : List LogRecord) (n : Node) → (done_by a rs n).durable.log ≡ slots_after a rs n.durable.log
log_after (Notes b) rs n = refl
log_after (Accepts b c) rs n = refl
log_after (Prepares b) rs n = refl
log_after (Settles k o why r) rs n = refl
log_after (Leaves k) rs n = refl
log_after (Acknowledges k) rs n = refl
log_after (Releases s m) rs n = refl
log_after (Undoes k) rs n = refl
log_after (Sends m) rs n = refl
log_after (Prints l) rs n = refl

-- what it shows depends on the records alone
shown_records : (a : Act) (moment : ℕ) (tm : Tm) (n : Node) (s : Shared) → shown_by a moment (with_records tm.records n) s ≡ shown_by a moment (with_tm tm n) s
shown_records (Notes b) moment tm n s = refl
shown_records (Accepts b c) moment tm n s = refl
shown_records (Prepares b) moment tm n s = refl
shown_records (Settles k o why r) moment tm n s = refl
shown_records (Leaves k) moment tm n s = refl
shown_records (Acknowledges k) moment tm n s = refl
shown_records (Releases i x) moment tm n s = refl
shown_records (Undoes k) moment tm n s = refl
shown_records (Sends m) moment tm n s = refl
shown_records (Prints l) moment tm n s = refl

-- Rows from an act on.

pub record Rows (s t : Shared) (n m : Node) (lines : List line.Line) (acts : List Act) : Type 0 where
  pub shows : lines ≡ lines_of_rows (table_rows acts s n)
  pub shared : t ≡ shared_after_rows (table_rows acts s n) s
  pub node : m ≡ node_after_rows (table_rows acts s n) n

-- behind an act without an effect
still_first : (a : Act) (acts : List Act) (tm : Tm) (ss : Slots) (s t : Shared) (n m : Node) (lines : List line.Line) → IsStill a tm.records ss → n.durable.log ≡ ss →
    Rows s t (with_tm (after_act a tm) n) m lines acts → Rows s t (with_tm tm n) m lines (a ∷ acts)
still_first a acts tm ss s t n m lines is at rows =
    let moved : acted (Tables a (next_moment n)) (with_tm tm n) ≡ with_tm (after_act a tm) n = ap (with_tm (after_act a tm)) (is.node n at) in
    let shared = is.shared (next_moment n) s in
    let silent = is.lines (next_moment n) (with_tm tm n) s refl in
    record {
      shows = rows.shows ∙ sym (ap (λ ls. ls ++ lines_of_rows (table_rows acts (shared_after (Tables a (next_moment n)) s) (acted (Tables a (next_moment n)) (with_tm tm n)))) silent
          ∙ (λ i. lines_of_rows (table_rows acts (shared i) (moved i))));
      shared = rows.shared ∙ sym (λ i. shared_after_rows (table_rows acts (shared i) (moved i)) (shared i));
      node = rows.node ∙ sym (λ i. node_after_rows (table_rows acts (shared i) (moved i)) (moved i));
    }

-- behind one that was done
done_first : (a : Act) (acts : List Act) (tm : Tm) (s u t : Shared) (n o m : Node) (first lines : List line.Line) →
    first ≡ shown_by a (next_moment n) (with_tm tm n) s → u ≡ shared_after (Tables a (next_moment n)) s → o ≡ done_by a tm.records n →
    Rows u t (with_tm (after_act a tm) o) m lines acts → Rows s t (with_tm tm n) m (first ++ lines) (a ∷ acts)
done_first a acts tm s u t n o m first lines shows shared node rows =
    let moved : with_tm (after_act a tm) o ≡ acted (Tables a (next_moment n)) (with_tm tm n) = ap (with_tm (after_act a tm)) node in
    record {
      shows = (λ i. shows i ++ rows.shows i) ∙ (λ i. shown_by a (next_moment n) (with_tm tm n) s ++ lines_of_rows (table_rows acts (shared i) (moved i)));
      shared = rows.shared ∙ (λ i. shared_after_rows (table_rows acts (shared i) (moved i)) (shared i));
      node = rows.node ∙ (λ i. node_after_rows (table_rows acts (shared i) (moved i)) (moved i));
    }

-- The next act that has an effect.

-- some acts up to one with this effect: those before it change the table alone
pub record Next (before : List Key) (tid : Id) (acts : List Act) (tm : Tm) (ss : Slots) (e : Effect) (es : List Effect) : Type 0 where
  pub act : Act
  pub rest : List Act
  pub by_then : Tm
  pub gives : act_effects act by_then.records ≡ e ∷ []
  pub tellable : IsTellable before tid act by_then.records ss
  pub more : AllTellable before tid rest (records_after act by_then.records) (slots_after act by_then.records ss)
  pub left : effects_of rest (records_after act by_then.records) ≡ es
  pub same : after acts tm ≡ after (act ∷ rest) by_then
  pub rows : (s t : Shared) (n m : Node) (lines : List line.Line) → n.durable.log ≡ ss → Rows s t (with_tm by_then n) m lines (act ∷ rest) → Rows s t (with_tm tm n) m lines acts

first_one : (x e : Effect) (xs es : List Effect) → x ∷ xs ≡ e ∷ es → x ≡ e
first_one x e xs es q = cc

other_ones : (x e : Effect) (xs es : List Effect) → x ∷ xs ≡ e ∷ es → xs ≡ es
other_ones x e xs es q = cc

pub next : (before : List Key) (tid : Id) (acts : List Act) (tm : Tm) (ss : Slots) (e : Effect) (es : List Effect) → AllTellable before tid acts tm.records ss → effects_of acts tm.records ≡ e ∷ es → Next before tid acts tm ss e es
next before tid [] tm ss e es h q = let never : ⊥ = cc in absurd never
next before tid (a ∷ acts) tm ss e es h q = go (few a tm.records) (next before tid acts (after_act a tm) ss e es)
  where
    go : Few (act_effects a tm.records) → (AllTellable before tid acts (records_after a tm.records) ss → effects_of acts (records_after a tm.records) ≡ e ∷ es → Next before tid acts (after_act a tm) ss e es) → Next before tid (a ∷ acts) tm ss e es
    go (inl none) more =
        let is = still before tid a tm.records ss h.0 none in
        let w = more (subst (λ x. AllTellable before tid acts (records_after a tm.records) x) is.slots h.1) (ap (λ xs. xs ++ effects_of acts (records_after a tm.records)) (sym none) ∙ q) in
        record {
          act = w.act;
          rest = w.rest;
          by_then = w.by_then;
          gives = w.gives;
          tellable = w.tellable;
          more = w.more;
          left = w.left;
          same = w.same;
          rows = λ s t n m lines at rows. still_first a acts tm ss s t n m lines is at (w.rows s t n m lines at rows);
        }
    go (inr one) more =
        let all : one.0 ∷ effects_of acts (records_after a tm.records) ≡ e ∷ es = ap (λ xs. xs ++ effects_of acts (records_after a tm.records)) (sym one.1) ∙ q in
        record {
          act = a;
          rest = acts;
          by_then = tm;
          gives = one.1 ∙ ap (λ x. x ∷ []) (first_one one.0 e (effects_of acts (records_after a tm.records)) es all);
          tellable = h.0;
          more = h.1;
          left = other_ones one.0 e (effects_of acts (records_after a tm.records)) es all;
          same = refl;
          rows = λ s t n m lines at rows. rows;
        }

-- All acts.

-- acts without an effect
pub none_left : (before : List Key) (tid : Id) (acts : List Act) (tm : Tm) (s : Shared) (n : Node) → AllTellable before tid acts tm.records n.durable.log → effects_of acts tm.records ≡ [] → Rows s s (with_tm tm n) (with_tm (after acts tm) n) [] acts
none_left before tid [] tm s n h q = record { shows = refl; shared = refl; node = refl }
none_left before tid (a ∷ acts) tm s n h q = go (few a tm.records) (none_left before tid acts (after_act a tm) s n)
  where
    go : Few (act_effects a tm.records) → (AllTellable before tid acts (records_after a tm.records) n.durable.log → effects_of acts (records_after a tm.records) ≡ [] → Rows s s (with_tm (after_act a tm) n) (with_tm (after acts (after_act a tm)) n) [] acts)
        → Rows s s (with_tm tm n) (with_tm (after (a ∷ acts) tm) n) [] (a ∷ acts)
    go (inl none) more =
        let is = still before tid a tm.records n.durable.log h.0 none in
        still_first a acts tm n.durable.log s s n (with_tm (after acts (after_act a tm)) n) [] is refl
        (more (subst (λ x. AllTellable before tid acts (records_after a tm.records) x) is.slots h.1) (ap (λ xs. xs ++ effects_of acts (records_after a tm.records)) (sym none) ∙ q))
    go (inr one) more = let all : one.0 ∷ effects_of acts (records_after a tm.records) ≡ [] = ap (λ xs. xs ++ effects_of acts (records_after a tm.records)) (sym one.1) ∙ q in let never : ⊥ = cc in absurd never

pub all_none : (before : List Key) (tid : Id) (acts : List Act) (tm : Tm) (s : Shared) (n : Node) → AllTellable before tid acts tm.records n.durable.log → effects_of acts tm.records ≡ [] → AppliesAll acts tm s n [] s n
all_none before tid acts tm s n h q = let r = none_left before tid acts tm s n h q in record { shows = r.shows; shared = r.shared; node = r.node; table = refl }

-- one with an effect, and then the others
pub all_more : (before : List Key) (tid : Id) (acts : List Act) (tm : Tm) (e : Effect) (es : List Effect) (s u t : Shared) (n o m : Node) (first : Option Line) (lines all : List Line) →
    AllTellable before tid acts tm.records n.durable.log → effects_of acts tm.records ≡ e ∷ es → map line_of all ≡ one_line (option_map line_of first) ++ map line_of lines →
    ((a : Act) (rs : List LogRecord) → act_effects a rs ≡ e ∷ [] → IsTellable before tid a rs n.durable.log → Applies a rs s n first u o) →
    ((rest : List Act) (by_then : Tm) → effects_of rest by_then.records ≡ es → AllTellable before tid rest by_then.records o.durable.log → AppliesAll rest by_then u o lines t m) →
    AppliesAll acts tm s n all t m
all_more before tid acts tm e es s u t n o m first lines all h q joined one more =
    let w = next before tid acts tm n.durable.log e es h q in
    let a = one w.act w.by_then.records w.gives w.tellable in
    let log : o.durable.log ≡ slots_after w.act w.by_then.records n.durable.log = ap (λ (x : Node). x.durable.log) a.node ∙ log_after w.act w.by_then.records n in
    let b = more w.rest (after_act w.act w.by_then) w.left (subst (λ ss. AllTellable before tid w.rest (records_after w.act w.by_then.records) ss) (sym log) w.more) in
    let rows = done_first w.act w.rest w.by_then s u t n o (with_tm (after w.rest (after_act w.act w.by_then)) m) (one_line (option_map line_of first)) (map line_of lines) (a.shows ∙ shown_records w.act (next_moment n) w.by_then n s) a.shared a.node
    (record { shows = b.shows; shared = b.shared; node = b.node }) in
    let r = w.rows s t n (with_tm (after w.rest (after_act w.act w.by_then)) m) (one_line (option_map line_of first) ++ map line_of lines) refl rows in
    record {
      shows = joined ∙ r.shows;
      shared = r.shared;
      node = ap (λ (x : Tm). with_tm x m) w.same ∙ r.node;
      table = (λ i. with_tm (tm_of (sym a.node i)) m) ∙ b.table;
    }

-- Time.

at_most : (b : Bool) → (if b then 48 else 0) ≤ 48
at_most true = omega arith
at_most false = omega arith

settled_end : (tid serial : Id) (outcome : Outcome) (moment : ℕ) (j : Journal) → end_of (with_settled tid serial outcome moment j) ≤ end_of j + 48
settled_end tid serial outcome moment j =
    let law : HasSettled serial j (with_settled tid serial outcome moment j) = settles_unit tid serial outcome moment j in
    let most = at_most (is_unit serial j) in
    omega (arith, law.end, most)

moment_within : (clock greatest count : ℕ) → CanBeWritten (greatest + (count + 1)) → CanBeWritten (clock + (count + 1)) → CanBeWritten ((if nat_le clock (greatest + 1) then greatest + 1 else clock) + count)
moment_within clock greatest count g c = go (nat_le clock (greatest + 1))
  where
    go : (b : Bool) → CanBeWritten ((if b then greatest + 1 else clock) + count)
    go true = omega arith
    go false = omega arith

one_less : (count : ℕ) (n : Node) → HasTime (count + 1) n → HasTime count n
one_less count n h = record { greatest = (let g = h.greatest in omega arith); clock = (let c = h.clock in omega arith); end = (let e = h.end in omega arith) }

settled_time : (count : ℕ) (n m : Node) (tid serial : Id) (outcome : Outcome) (moment : ℕ) → m.durable.greatest ≡ next_moment n → m.clock ≡ n.clock → m.durable.units ≡ with_settled tid serial outcome moment n.durable.units →
    HasTime (count + 1) n → HasTime count m
settled_time count n m tid serial outcome moment g c u h = record {
  greatest = subst (λ x. CanBeWritten (x + count)) (sym g) (moment_within n.clock n.durable.greatest count h.greatest h.clock);
  clock = (let b = h.clock in omega (arith, c, b));
  end = subst (λ j. end_of j + 48 * count < 2 ^ 64) (sym u) (let e = settled_end tid serial outcome moment n.durable.units in let b = h.end in omega (arith, e, b));
}

prepared_time : (count : ℕ) (b : Branch) (rs : List LogRecord) (n : Node) → HasTime (count + 1) n → HasTime count (done_by (Prepares b) rs n)
prepared_time count b rs n h = record {
  greatest = (let g = h.greatest in omega arith);
  clock = (let c = h.clock in omega arith);
  end = go (find_unit b.key.serial (units_in n.durable.units.entries));
}
  where
    longer : (es : List JournalEntry) → entries_size (es ++ PreparedEntry b.key.tid b.key.serial ∷ []) ≡ entries_size es + 48
    longer [] = refl
    longer (e ∷ es) = let more = longer es in omega arith

    go : (o : Option RecoveryUnit) → end_of (elim o as (λ _. Journal) [ Some u ↦ with_entries (PreparedEntry b.key.tid b.key.serial ∷ []) n.durable.units | None ↦ n.durable.units ]) + 48 * count < 2 ^ 64
    go (Some u) = let l = longer n.durable.units.entries in let e = h.end in omega arith
    go None = let e = h.end in omega arith

-- one act takes the time of one settlement at the most
pub act_time : (count : ℕ) (a : Act) (rs : List LogRecord) (n : Node) → HasTime (count + 1) n → HasTime count (done_by a rs n)
act_time count (Notes b) rs n h = one_less count (done_by (Notes b) rs n) (record { greatest = h.greatest; clock = h.clock; end = h.end })
act_time count (Accepts b c) rs n h = one_less count (done_by (Accepts b c) rs n) (record { greatest = h.greatest; clock = h.clock; end = h.end })
act_time count (Prepares b) rs n h = prepared_time count b rs n h
act_time count (Settles k o why r) rs n h = settled_time count n (done_by (Settles k o why r) rs n) k.tid k.serial o (next_moment n) refl refl refl h
act_time count (Leaves k) rs n h = one_less count (done_by (Leaves k) rs n) (record { greatest = h.greatest; clock = h.clock; end = h.end })
act_time count (Acknowledges k) rs n h = one_less count (done_by (Acknowledges k) rs n) (record { greatest = h.greatest; clock = h.clock; end = h.end })
act_time count (Releases s m) rs n h = one_less count (done_by (Releases s m) rs n) (record { greatest = h.greatest; clock = h.clock; end = h.end })
act_time count (Undoes k) rs n h = settled_time count n (done_by (Undoes k) rs n) k.tid k.serial Abort (next_moment n) refl refl refl h
act_time count (Sends m) rs n h = one_less count (done_by (Sends m) rs n) (record { greatest = h.greatest; clock = h.clock; end = h.end })
act_time count (Prints l) rs n h = one_less count (done_by (Prints l) rs n) (record { greatest = h.greatest; clock = h.clock; end = h.end })

-- Behind the first effect.

pub first_time : (before : List Key) (tid : Id) (e : Effect) (es : List Effect) (s u : Shared) (n o : Node) (first : Option Line) (count : ℕ) → MayApply before tid (e ∷ es) n →
    ((a : Act) (rs : List LogRecord) → act_effects a rs ≡ e ∷ [] → IsTellable before tid a rs n.durable.log → Applies a rs s n first u o) → HasTime (count + 1) n → HasTime count o
first_time before tid e es s u n o first count may one h =
    let w = next before tid may.1 may.0 n.durable.log e es may.3 may.2 in
    let a = one w.act w.by_then.records w.gives w.tellable in
    subst (λ (x : Node). HasTime count x) (sym a.node) (act_time count w.act w.by_then.records n h)

pub rest_may : (before : List Key) (tid : Id) (e : Effect) (es : List Effect) (s u : Shared) (n o : Node) (first : Option Line) → MayApply before tid (e ∷ es) n →
    ((a : Act) (rs : List LogRecord) → act_effects a rs ≡ e ∷ [] → IsTellable before tid a rs n.durable.log → Applies a rs s n first u o) → MayApply before tid es o
rest_may before tid e es s u n o first may one =
    let w = next before tid may.1 may.0 n.durable.log e es may.3 may.2 in
    let a = one w.act w.by_then.records w.gives w.tellable in
    let log : o.durable.log ≡ slots_after w.act w.by_then.records n.durable.log = ap (λ (x : Node). x.durable.log) a.node ∙ log_after w.act w.by_then.records n in
    (after_act w.act w.by_then, w.rest, w.left, subst (λ ss. AllTellable before tid w.rest (records_after w.act w.by_then.records) ss) (sym log) w.more)

-- Lists by their first elements.

pub shorter : {A : Type 0} (xs : List A) (x : A) → 1 ≤ length xs → x ≡ get_or xs 0 x → length xs ≡ suc (length (behind_first xs))
shorter xs x some is = ap length (parts xs x some is)

pub no_items : {A : Type 0} (xs : List A) → length xs < 1 → xs ≡ []
no_items [] few = refl
no_items (x ∷ xs) few = absurd (omega arith)

pub on_ok : {T E : Type 0} {P : Type 0} (r : Result T E) → P → OnOk r P
on_ok (Ok x) p = p
on_ok (Err e) p = tt

-- A unit is undone.

pub undone_time : (count : ℕ) (k : Key) (n o : Node) → o ≡ acted (Tables (Undoes k) (next_moment n)) n → HasTime (count + 1) n → HasTime count o
undone_time count k n o is h = subst (λ (x : Node). HasTime count x) (sym is) (settled_time count n (acted (Tables (Undoes k) (next_moment n)) n) k.tid k.serial Abort (next_moment n) refl refl refl h)

-- An event was told to a table, which is this before it, and that behind it.

pub told_whole : (e : Event) (name : List ℕ) (before behind : Tm) (s t : Shared) (n o m : Node) (lines : List Line) → with_tm (record before { node = name }) o ≡ n → tm_of n ≡ record before { node = name } → with_tm (tm_of o) m ≡ with_tm behind m →
    behind ≡ after (row before e) before → AppliesAll (row (record before { node = name }) e) (record before { node = name }) s o lines t m → AppliesEvent e s n lines t m
told_whole e name before behind s t n o m lines there table kept stepped all =
    let tm : Tm = record before { node = name } in
    let left : after (row tm e) tm ≡ record (after (row before e) before) { node = name } = ap (λ acts. after acts tm) (row_as name before e) ∙ after_as name (row before e) before in
    let end : m ≡ with_tm (after (row tm e) tm) m = sym all.table ∙ kept ∙ ap (λ (x : Tm). with_tm x m) stepped ∙ sym (ap (λ (x : Tm). with_tm x m) left) in
    let acts : row tm e ≡ row (tm_of n) e = ap (λ (x : Tm). row x e) (sym table) in
    record {
      shows = all.shows ∙ (λ i. lines_of_rows (table_rows (acts i) s (there i)));
      shared = all.shared ∙ (λ i. shared_after_rows (table_rows (acts i) s (there i)) s);
      node = end ∙ all.node ∙ (λ i. node_after_rows (table_rows (acts i) s (there i)) (there i));
    }

pub less_time : (more count : ℕ) (n : Node) → count ≤ more → HasTime more n → HasTime count n
less_time more count n few h = record { greatest = (let g = h.greatest in omega arith); clock = (let c = h.clock in omega arith); end = (let e = h.end in omega arith) }
