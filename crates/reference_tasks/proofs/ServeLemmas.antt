-- A task that is served at a node.
use Rattle.std.proofs.Common.{◌≡◌, ◌+◌, List, [], ◌∷◌, ◌++◌, append_assoc, Bool, true, false, Some, None, if◌then◌else◌, refl, sym, ap, subst, ◌∙◌, map}
use Rattle.std.specs.Prelude.{not, ◌||◌}
use Rattle.reference_index.specs.transcript_model.Lines as line
use Rattle.reference_index.specs.run_model.Answers.{Service, powers, refused_before_reading, spoils}
use Rattle.reference_index.specs.run_model.Operations.{refused_if}
use Rattle.reference_index.specs.run_model.Steps.{lines_of_rows, node_after, node_after_rows, occupied, ready_node, shared_after_rows, shared_then, with_unknown_volume}
use Rattle.reference_index.specs.run_model.World.{Lost, Node, Shared, powered}
use Rattle.reference_node.specs.world_laws.Nodes.{IsKeptDisk, IsKeptNode}
use Rattle.reference_world.specs.Standing.{line_of}
use Rattle.reference_world.specs.declared.line.Line.{Line}
use Rattle.reference_node.specs.Nodes.{Does}
use Rattle.reference_node.specs.Telling.{CanTell}
use Rattle.reference_node.proofs.ManagerLemmas.{none_first}
use Rattle.reference_tasks.specs.Serving.{HasUnits, Serves}

-- one that is refused before the disk is read
pub serves_early : (s : Shared) (n : Node) (e : Service) (shown : List Line) (refusal : line.Line) → refused_before_reading s n e ≡ Some refusal → map line_of shown ≡ refusal ∷ [] → Serves s n e shown n s
serves_early s n e shown refusal refuses shows = record { shows = rw refuses shows; node = rw refuses refl; shared = rw refuses refl }

-- by what the disk has, or a quota
pub serves_late : (s : Shared) (n o : Node) (e : Service) (shown : List Line) (refusal : line.Line) → refused_before_reading s n e ≡ None → o ≡ ready_node Lost 0 e n → e.refused_after_reading s o ≡ Some refusal →
    map line_of shown ≡ refusal ∷ [] → Serves s n e shown o s
serves_late s n o e shown refusal allowed readied refuses shows =
    let late : e.refused_after_reading s (ready_node Lost 0 e n) ≡ Some refusal = ap (e.refused_after_reading s) (sym readied) ∙ refuses in
    record { shows = rw (allowed, late) shows; node = rw (allowed, late) readied; shared = rw (allowed, late) refl }

-- and one that nothing refuses, with whose success a node may be in use
pub serves_done : (s t u : Shared) (n o m : Node) (e : Service) (shown : List Line) → refused_before_reading s n e ≡ None → o ≡ ready_node Lost 0 e n → e.refused_after_reading s o ≡ None → Does s o e shown m t → u ≡ occupied e t → Serves s n e shown m u
serves_done s t u n o m e shown allowed readied refuses does occupies =
    let ready = ready_node Lost 0 e n in
    let late : e.refused_after_reading s ready ≡ None = ap (e.refused_after_reading s) (sym readied) ∙ refuses in
    record {
      shows = rw (allowed, late) (does.shows ∙ ap (λ x. lines_of_rows (e.rows s x) ++ (e.closing_lines x ++ e.answer s x ∷ [])) readied ∙ sym (append_assoc (lines_of_rows (e.rows s ready)) (e.closing_lines ready) (e.answer s ready ∷ [])));
      node = rw (allowed, late) (does.node ∙ ap (λ x. node_after e.closing (node_after_rows (e.rows s x) x)) readied);
      shared = rw (allowed, late) (occupies ∙ ap (occupied e) (does.shared ∙ ap (λ x. shared_then e.closing (shared_after_rows (e.rows s x) s)) readied));
    }

-- A node once its disk runs again.

pub ready_still : (e : Service) (n : Node) → powers e ≡ false → ready_node Lost 0 e n ≡ n
ready_still e n is = ap (λ b. (let m : Node = if b then with_unknown_volume (spoils e) (powered Lost 0 n) else n in m)) is

disk_kept : (n o : Node) → o.name ≡ n.name → o.durable ≡ n.durable → IsKeptDisk n → IsKeptDisk o
disk_kept n o name durable h = subst (λ d. IsKeptDisk (record o { durable = d })) (sym durable) (subst (λ x. IsKeptDisk (record o { name = x; durable = n.durable })) (sym name) (record {
  filed = h.filed;
  log = record {
    distinct = h.log.distinct;
    reached = h.log.reached;
    prepared_within = h.log.prepared_within;
    committed_within = h.log.committed_within;
    prepared = h.log.prepared;
    active = h.log.active;
    transactions = h.log.transactions;
    unsettled = h.log.unsettled;
    few = h.log.few;
    slots = h.log.slots;
  };
  unnoted = h.unnoted;
  few = h.few;
}))

pub ready_kept : (e : Service) (n o : Node) → o ≡ ready_node Lost 0 e n → IsKeptDisk n → spoils e ≡ false → IsKeptDisk o
ready_kept e n o readied h clean = subst IsKeptDisk (sym readied) (go (powers e) (spoils e) clean)
  where
    go : (p q : Bool) → q ≡ false → IsKeptDisk (if p then with_unknown_volume q (powered Lost 0 n) else n)
    go false q clean = h
    go true false clean = disk_kept n (powered Lost 0 n) refl refl h
    go true true clean = let never : ⊥ = cc in absurd never

pub ready_units : (e : Service) (n o : Node) → o ≡ ready_node Lost 0 e n → HasUnits 1 n → HasUnits 1 o
ready_units e n o readied h = subst (HasUnits 1) (sym readied) (go (powers e) (spoils e))
  where
    go : (p q : Bool) → HasUnits 1 (if p then with_unknown_volume q (powered Lost 0 n) else n)
    go false q = h
    go true false = record { journal = h.journal; boot = h.boot; drawn = h.drawn; time = record { greatest = h.time.greatest; clock = h.time.clock; end = h.time.end } }
    go true true = record { journal = h.journal; boot = h.boot; drawn = h.drawn; time = record { greatest = h.time.greatest; clock = h.time.clock; end = h.time.end } }

-- a node that is up can tell its table an event
pub can_tell : (s : Shared) (n : Node) → IsKeptNode s n → HasUnits 1 n → n.up ≡ true → CanTell n
can_tell s n h w up =
    let runs = h.runs up in
    record { told = record { tells = runs.0.table.log; apart = runs.0.table.apart; room = runs.1 }; within = runs.0.table.limits; time = w.time }

pub ready_can : (s : Shared) (e : Service) (n o : Node) → o ≡ ready_node Lost 0 e n → IsKeptNode s n → HasUnits 1 n → o.up ≡ true → CanTell o
ready_can s e n o readied h w = subst (λ x. x.up ≡ true → CanTell x) (sym readied) (go (powers e) (spoils e))
  where
    go : (p q : Bool) → (let m : Node = if p then with_unknown_volume q (powered Lost 0 n) else n in m.up ≡ true → CanTell m)
    go false q up = can_tell s n h w up
    go true false up = let c = can_tell s n h w up in record { told = c.told; within = c.within; time = record { greatest = c.time.greatest; clock = c.time.clock; end = c.time.end } }
    go true true up = let c = can_tell s n h w up in record { told = c.told; within = c.within; time = record { greatest = c.time.greatest; clock = c.time.clock; end = c.time.end } }

-- its log and its journal's end
pub ready_slots : (e : Service) (n o : Node) → o ≡ ready_node Lost 0 e n → o.durable.log ≡ n.durable.log
ready_slots e n o readied = ap (λ (x : Node). x.durable.log) readied ∙ go (powers e) (spoils e)
  where
    go : (p q : Bool) → (if p then with_unknown_volume q (powered Lost 0 n) else n).durable.log ≡ n.durable.log
    go false q = refl
    go true false = refl
    go true true = refl

-- What an early refusal would have been.

pub early_rest : (s : Shared) (n : Node) (e : Service) → refused_before_reading s n e ≡ None → e.refused_before_reading s n ≡ None
early_rest s n e h = (none_first (refused_if (not (n.up || e.while_down)) line.NodeDown) (e.refused_before_reading s n) h).1

pub early_up : (s : Shared) (n : Node) (e : Service) → e.while_down ≡ false → refused_before_reading s n e ≡ None → n.up ≡ true
early_up s n e down h = go n.up (ap (λ b. refused_if (not (n.up || b)) line.NodeDown) (sym down) ∙ (none_first (refused_if (not (n.up || e.while_down)) line.NodeDown) (e.refused_before_reading s n) h).0)
  where
    go : (b : Bool) → refused_if (not (b || false)) line.NodeDown ≡ None → b ≡ true
    go true k = refl
    go false k = let never : ⊥ = cc in absurd never
