-- A restart undoes units, row after row, as calls on units tell it.
use Rattle.std.proofs.Common.{◌≡◌, ℕ, zero, suc, ◌≤◌, List, [], ◌∷◌, Bool, true, false, if◌then◌else◌, length, map, take, drop, refl, sym, ap, subst, ◌∙◌, arith}
use Rattle.std.specs.List.{AllByRecursion}
use Rattle.std.proofs.Math.Seq.{take-length}
use Rattle.std.proofs.lemmas.List.{length-map}
use Rattle.emitter_model.specs.commit_protocol.Messages.{Message}
use Rattle.emitter_model.specs.commit_protocol.Table.{Branch, Key, cut, same_key}
use Rattle.emitter_model.specs.commit_protocol.World.{undo_all}
use Rattle.emitter_model.specs.transcript_model.Lines as line
use Rattle.emitter_model.specs.transcript_model.Lines.{Line}
use Rattle.vms_model.specs.Transactions.{Abort, SegFail}
use Rattle.unit_laws.specs.Journal.{RecoveryUnit}
use Rattle.world_laws.specs.run_model.World.{Node, Settlement, Shared, acted, next_moment, settlement}
use Rattle.world_laws.specs.run_model.Answers.{Row, table_rows, unit_key}
use Rattle.world_laws.specs.run_model.Steps.{act_begun, lines_of_rows, node_after_rows, shared_after_rows}
use Rattle.recovery_units.specs.Calls.{after_undone, settlements_of, told_in, told_settlement, undone_act, undone_next}
use Rattle.recovery_units.specs.declared.settled.SettledUnit.{SettledUnit}
use Rattle.node_requests.specs.node_table.Telling.{IsOfWork, wire_after}
use Rattle.dtm_node.specs.Nodes.{undone_line}
use Rattle.dtm_node.proofs.Performing.{Same, same_itself, same_on}

-- the rows of a restart
abbrev pub undone_rows : Shared → Node → List RecoveryUnit → List Row
undone_rows s n us = table_rows (undo_all (map unit_key us)) s n

abbrev line_in : Settlement → Line
line_in s = line.Aborted s.tid s.serial SegFail s.moment

none_told : (told : List SettledUnit) → told_in told ≡ [] → [] ≡ map undone_line told
none_told [] e = refl
none_told (t ∷ ts) e = let none : ⊥ = cc in absurd none

-- they show what is told
pub undone_shown : (k : ℕ) (s : Shared) (n : Node) (us : List RecoveryUnit) (told : List SettledUnit) → told_in told ≡ settlements_of k n us → lines_of_rows (take k (undone_rows s n us)) ≡ map undone_line told
undone_shown zero s n us told e = none_told told e
undone_shown (suc k) s n [] told e = none_told told e
undone_shown (suc k) s n (u ∷ us) [] e = let none : ⊥ = cc in absurd none
undone_shown (suc k) s n (u ∷ us) (t ∷ ts) e =
    let first : told_settlement Abort SegFail t ≡ settlement (unit_key u) Abort SegFail (next_moment n) = cc in
    let rest : told_in ts ≡ settlements_of k (acted (undone_act n u) n) us = cc in
    λ i. line_in (sym first i) ∷ undone_shown k s (acted (undone_act n u) n) us ts rest i

pub undone_nodes : (k : ℕ) (s : Shared) (n : Node) (us : List RecoveryUnit) → node_after_rows (take k (undone_rows s n us)) n ≡ after_undone k n us
undone_nodes zero s n us = refl
undone_nodes (suc k) s n [] = refl
undone_nodes (suc k) s n (u ∷ us) = undone_nodes k s (acted (undone_act n u) n) us

pub undone_begun : (k : ℕ) (s : Shared) (n : Node) (us : List RecoveryUnit) → act_begun true (drop k (undone_rows s n us)) ≡ undone_next k n us
undone_begun zero s n [] = refl
undone_begun zero s n (u ∷ us) = refl
undone_begun (suc k) s n [] = refl
undone_begun (suc k) s n (u ∷ us) = undone_begun k s (acted (undone_act n u) n) us

pub undone_shared : (k : ℕ) (s : Shared) (n : Node) (us : List RecoveryUnit) → shared_after_rows (take k (undone_rows s n us)) s ≡ s
undone_shared zero s n us = refl
undone_shared (suc k) s n [] = refl
undone_shared (suc k) s n (u ∷ us) = undone_shared k s (acted (undone_act n u) n) us

pub undone_count : (s : Shared) (n : Node) (us : List RecoveryUnit) → length (undone_rows s n us) ≡ length us
undone_count s n [] = refl
undone_count s n (u ∷ us) = ap suc (undone_count s (acted (undone_act n u) n) us)

settled_few : (k : ℕ) (n : Node) (us : List RecoveryUnit) → length (settlements_of k n us) ≤ length us
settled_few zero n us = omega arith
settled_few (suc k) n [] = omega arith
settled_few (suc k) n (u ∷ us) = let few = settled_few k (acted (undone_act n u) n) us in omega (arith, few)

-- no more are told than there were
pub told_few : (k : ℕ) (n : Node) (us : List RecoveryUnit) (told : List SettledUnit) → told_in told ≡ settlements_of k n us → length told ≤ length us
told_few k n us told e =
    let few = settled_few k n us in
    let same = sym (length-map told (told_settlement Abort SegFail)) ∙ ap length e in
    omega (arith, few, same)

pub all_rows : (s : Shared) (n : Node) (us : List RecoveryUnit) → take (length us) (undone_rows s n us) ≡ undone_rows s n us
all_rows s n us = ap (λ k. take k (undone_rows s n us)) (sym (undone_count s n us)) ∙ take-length (undone_rows s n us)

-- What they leave of a node.

pub record StaysSo (m n : Node) : Type 0 where
  pub same : Same m n
  pub up : m.up ≡ n.up
  pub was_up : m.was_up ≡ n.was_up
  pub under_way : m.under_way ≡ n.under_way
  pub drawn : m.volatile.drawn ≡ n.volatile.drawn
  pub declared : m.volatile.declared ≡ n.volatile.declared
  pub records : m.volatile.records ≡ n.volatile.records
  pub preparation : m.volatile.preparation ≡ n.volatile.preparation
  pub log : m.durable.log ≡ n.durable.log
  pub boot : m.durable.boot ≡ n.durable.boot

stays_itself : (n : Node) → StaysSo n n
stays_itself n = record { same = same_itself n; up = refl; was_up = refl; under_way = refl; drawn = refl; declared = refl; records = refl; preparation = refl; log = refl; boot = refl }

pub undone_same : (k : ℕ) (n : Node) (us : List RecoveryUnit) → StaysSo (after_undone k n us) n
undone_same zero n us = stays_itself n
undone_same (suc k) n [] = stays_itself n
undone_same (suc k) n (u ∷ us) =
    let r = undone_same k (acted (undone_act n u) n) us in
    record {
      same = same_on (after_undone k (acted (undone_act n u) n) us) (acted (undone_act n u) n) n r.same (record { name = refl; blocks = refl; clock = refl; unmade = refl; calls = refl });
      up = r.up;
      was_up = r.was_up;
      under_way = r.under_way;
      drawn = r.drawn;
      declared = r.declared;
      records = r.records;
      preparation = r.preparation;
      log = r.log;
      boot = r.boot;
    }

-- No branch of the table goes with them, where as many are left.

cut_few : (k : Key) (bs : List Branch) → length (cut k bs) ≤ length bs
cut_few k [] = omega arith
cut_few k (b ∷ bs) = go (same_key b.key k) (cut_few k bs)
  where
    go : (t : Bool) → length (cut k bs) ≤ length bs → length (let xs : List Branch = if t then cut k bs else b ∷ cut k bs in xs) ≤ suc (length bs)
    go true few = omega (arith, few)
    go false few = omega (arith, few)

cut_none : (k : Key) (bs : List Branch) → length bs ≤ length (cut k bs) → cut k bs ≡ bs
cut_none k [] few = refl
cut_none k (b ∷ bs) few = go (same_key b.key k) few (cut_none k bs)
  where
    go : (t : Bool) → suc (length bs) ≤ length (let xs : List Branch = if t then cut k bs else b ∷ cut k bs in xs) → (length bs ≤ length (cut k bs) → cut k bs ≡ bs) → (let xs : List Branch = if t then cut k bs else b ∷ cut k bs in xs) ≡ b ∷ bs
    go true h rest = let less = cut_few k bs in absurd (omega (arith, h, less))
    go false h rest = ap (λ (xs : List Branch). b ∷ xs) (rest (omega (arith, h)))

pub undone_branches : (k : ℕ) (n : Node) (us : List RecoveryUnit) → length n.volatile.branches ≤ length (after_undone k n us).volatile.branches → (after_undone k n us).volatile.branches ≡ n.volatile.branches
undone_branches zero n us few = refl
undone_branches (suc k) n [] few = refl
undone_branches (suc k) n (u ∷ us) few =
    let less = cut_few (unit_key u) n.volatile.branches in
    let rest = undone_branches k (acted (undone_act n u) n) us (omega (arith, less, few)) in
    rest ∙ cut_none (unit_key u) n.volatile.branches (subst (λ (xs : List Branch). length n.volatile.branches ≤ length xs) rest few)

pub undone_unsent : (told : List SettledUnit) (wire : List Message) → wire_after (map undone_line told) wire ≡ wire
undone_unsent [] wire = refl
undone_unsent (t ∷ ts) wire = undone_unsent ts wire

-- What a restart shows is the node's work.
pub undone_work : (told : List SettledUnit) → AllByRecursion IsOfWork (map undone_line told)
undone_work [] = tt
undone_work (t ∷ ts) = (refl, undone_work ts)
