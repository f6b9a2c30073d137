-- What a node has to spare, before and behind what it does.
use Rattle.std.proofs.Common.{◌≡◌, ℕ, ◌+◌, ◌*◌, ◌≤◌, List, [], ◌∷◌, Bool, true, false, if◌then◌else◌, refl, sym, ap, subst, ◌∙◌, map, arith}
use Rattle.log_laws.specs.commit_protocol.Rows.{Event, row}
use Rattle.log_laws.specs.commit_protocol.Table.{Act, Accepts, Acknowledges, Leaves, Notes, Prepares, Prints, Releases, Sends, Settles, Undoes}
use Rattle.log_laws.specs.commit_protocol.World.{undo_all}
use Rattle.reference_index.specs.run_model.Answers.{Service, left_active, powers, spoils, table_rows, unit_key}
use Rattle.reference_index.specs.run_model.Steps.{node_after_rows, ready_node, with_unknown_volume}
use Rattle.reference_index.specs.run_model.World.{Boots, Lost, Node, Shared, Tables, acted, next_moment, powered, tm_of}
use Rattle.reference_world.specs.declared.line.Line.{Line}
use Rattle.reference_node.specs.Telling.{AppliesEvent, HasTime, Restarts}
use Rattle.reference_node.proofs.TellLemmas.{less_time}
use Rattle.reference_tasks.specs.Serving.{HasUnits}

pub less_units : (more units : ℕ) (n : Node) → units ≤ more → HasUnits more n → HasUnits units n
less_units more units n few h = record { journal = h.journal; boot = (let b = h.boot in omega arith); drawn = (let d = h.drawn in omega arith); time = less_time (2048 * more) (2048 * units) n (omega arith) h.time }

-- rows of a table boot no node, and draw nothing
act_boot : (a : Act) (moment : ℕ) (n : Node) → (acted (Tables a moment) n).durable.boot ≡ n.durable.boot
act_boot (Notes b) moment n = refl
act_boot (Accepts b c) moment n = refl
act_boot (Prepares b) moment n = refl
act_boot (Settles k o why r) moment n = refl
act_boot (Leaves k) moment n = refl
act_boot (Acknowledges k) moment n = refl
act_boot (Releases i x) moment n = refl
act_boot (Undoes k) moment n = refl
act_boot (Sends m) moment n = refl
act_boot (Prints l) moment n = refl

act_journal : (a : Act) (moment : ℕ) (n : Node) → (acted (Tables a moment) n).durable.journal ≡ n.durable.journal
act_journal (Notes b) moment n = refl
act_journal (Accepts b c) moment n = refl
act_journal (Prepares b) moment n = refl
act_journal (Settles k o why r) moment n = refl
act_journal (Leaves k) moment n = refl
act_journal (Acknowledges k) moment n = refl
act_journal (Releases i x) moment n = refl
act_journal (Undoes k) moment n = refl
act_journal (Sends m) moment n = refl
act_journal (Prints l) moment n = refl

pub rows_journal : (acts : List Act) (s : Shared) (n : Node) → (node_after_rows (table_rows acts s n) n).durable.journal ≡ n.durable.journal
rows_journal [] s n = refl
rows_journal (a ∷ acts) s n = rows_journal acts _ (acted (Tables a (next_moment n)) n) ∙ act_journal a (next_moment n) n

pub rows_boot : (acts : List Act) (s : Shared) (n : Node) → (node_after_rows (table_rows acts s n) n).durable.boot ≡ n.durable.boot
rows_boot [] s n = refl
rows_boot (a ∷ acts) s n = rows_boot acts _ (acted (Tables a (next_moment n)) n) ∙ act_boot a (next_moment n) n

pub rows_drawn : (acts : List Act) (s : Shared) (n : Node) → (node_after_rows (table_rows acts s n) n).volatile.drawn ≡ n.volatile.drawn
rows_drawn [] s n = refl
rows_drawn (a ∷ acts) s n = rows_drawn acts _ (acted (Tables a (next_moment n)) n)

-- where time passed, and perhaps the node was booted or drew an id
pub units_pass : (units : ℕ) (n m : Node) → ((count : ℕ) → HasTime (count + 2048) n → HasTime count m) → m.durable.journal ≡ n.durable.journal → m.durable.boot ≤ n.durable.boot + 1 → m.volatile.drawn ≤ n.volatile.drawn + 1 → HasUnits (units + 1) n → HasUnits units m
units_pass units n m passes journal boot drawn h = record {
  journal = subst (λ j. j ≤ 8192) (sym journal) h.journal;
  boot = (let b = h.boot in omega arith);
  drawn = (let d = h.drawn in omega arith);
  time = passes (2048 * units) (less_time (2048 * (units + 1)) (2048 * units + 2048) n (omega arith) h.time);
}

-- a node once its disk runs again
pub units_ready : (units : ℕ) (e : Service) (n o : Node) → o ≡ ready_node Lost 0 e n → HasUnits units n → HasUnits units o
units_ready units e n o readied h = subst (HasUnits units) (sym readied) (go (powers e) (spoils e))
  where
    go : (p q : Bool) → HasUnits units (if p then with_unknown_volume q (powered Lost 0 n) else n)
    go false q = h
    go true false = record { journal = h.journal; boot = h.boot; drawn = h.drawn; time = record { greatest = h.time.greatest; clock = h.time.clock; end = h.time.end } }
    go true true = record { journal = h.journal; boot = h.boot; drawn = h.drawn; time = record { greatest = h.time.greatest; clock = h.time.clock; end = h.time.end } }

-- A node that told its table an event, and one that came up.

pub told_units : (units : ℕ) (e : Event) (s t : Shared) (n m : Node) (shown : List Line) → AppliesEvent e s n shown t m → ((count : ℕ) → HasTime (count + 2048) n → HasTime count m) → HasUnits (units + 1) n → HasUnits units m
told_units units e s t n m shown tells passes h =
    let acts = row (tm_of n) e in
    let boot : m.durable.boot ≡ n.durable.boot = ap (λ (x : Node). x.durable.boot) tells.node ∙ rows_boot acts s n in
    let drawn : m.volatile.drawn ≡ n.volatile.drawn = ap (λ (x : Node). x.volatile.drawn) tells.node ∙ rows_drawn acts s n in
    units_pass units n m passes (ap (λ (x : Node). x.durable.journal) tells.node ∙ rows_journal acts s n) (omega arith) (omega arith) h

pub boot_units : (units : ℕ) (s : Shared) (n m : Node) (shown : List Line) → Restarts s n shown m → ((count : ℕ) → HasTime (count + 64) n → HasTime count m) → HasUnits (units + 1) n → HasUnits units m
boot_units units s n m shown restarts passes h =
    let acts = undo_all (map unit_key (left_active n)) in
    let o = acted Boots n in
    let boot : m.durable.boot ≡ n.durable.boot + 1 = ap (λ (x : Node). x.durable.boot) restarts.node ∙ rows_boot acts s o in
    let drawn : m.volatile.drawn ≡ 0 = ap (λ (x : Node). x.volatile.drawn) restarts.node ∙ rows_drawn acts s o in
    units_pass units n m (λ count time. passes count (less_time (count + 2048) (count + 64) n (omega arith) time)) (ap (λ (x : Node). x.durable.journal) restarts.node ∙ rows_journal acts s o) (omega arith) (omega arith) h

pub time_ready : (count : ℕ) (e : Service) (n o : Node) → o ≡ ready_node Lost 0 e n → HasTime count n → HasTime count o
time_ready count e n o readied h = subst (HasTime count) (sym readied) (go (powers e) (spoils e))
  where
    go : (p q : Bool) → HasTime count (if p then with_unknown_volume q (powered Lost 0 n) else n)
    go false q = h
    go true false = record { greatest = h.greatest; clock = h.clock; end = h.end }
    go true true = record { greatest = h.greatest; clock = h.clock; end = h.end }
