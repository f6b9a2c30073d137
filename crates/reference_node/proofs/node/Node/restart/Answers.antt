use Rattle.std.proofs.Common.{◌≡◌, ℕ, ◌≤◌, ◌+◌, ◌∙◌, ◌∷◌, ◌++◌, [], List, ap, sym, subst, length, refl, arith}
use Rattle.std.specs.Prelude.{map}
use Rattle.std.proofs.lemmas.List.{length-map, map-append}
use Rattle.std.proofs.lemmas.Result.{IfOk-weaker}
use Rattle.world_laws.specs.transcript_model.Lines as model
use Rattle.unit_laws.specs.Journal.{RecoveryUnit}
use Rattle.commit_protocol.specs.Table.{Branch, Key}
use Rattle.commit_protocol.specs.World.{undo_all}
use Rattle.world_laws.specs.run_model.Answers.{last_lines, left_active, prepared_lines, table_rows, unit_key}
use Rattle.world_laws.specs.run_model.Steps.{lines_of_rows, node_after_rows}
use Rattle.world_laws.specs.run_model.World as world
use Rattle.world_laws.specs.run_model.World.{Boots, ComesUp, acted, prepared_left}
use Rattle.reference_world.specs.Standing.{branch_key_of, line_of}
use Rattle.reference_units.specs.Entries.{unit_of, units_of}
use Rattle.std.specs.Option.{option_map}
use Rattle.reference_disk.specs.Disks.{one_line}
use Rattle.reference_node.specs.Nodes.{AreUnknown, node_of}
use Rattle.reference_branches.specs.Lines.{key_line}
use Rattle.reference_node.specs.Telling.{HasTime}
use Rattle.reference_node.proofs.BootLemmas.{are_unknown, few_left, has_restarted, may_begin, shown_prepared}
use Rattle.reference_node.proofs.TellLemmas.{on_ok, less_time}
use Rattle.reference_node.proofs.node.Node.restart.Goals as goal

nothing_more : (xs : List model.Line) → xs ++ [] ≡ xs
nothing_more [] = refl
nothing_more (x ∷ xs) = ap (λ ys. x ∷ ys) (nothing_more xs)

boots_time : (count : ℕ) (n o : world.Node) → o ≡ acted Boots n → HasTime count n → HasTime count o
boots_time count n o is h = subst (λ (x : world.Node). HasTime count x) (sym is) (record { greatest = h.greatest; clock = h.clock; end = h.end })

comes_time : (count : ℕ) (n : world.Node) → HasTime count n → HasTime count (acted ComesUp n)
comes_time count n h = record { greatest = h.greatest; clock = h.clock; end = h.end }

pub begin_boot-requires-clause-restarts : goal.begin_boot-requires-clause-restarts
begin_boot-requires-clause-restarts c = may_begin c.nodes_stay_kept.ensures.boots (node_of c.args.self.now) c.requires.kept

pub undo_each-requires-clause-time : goal.undo_each-requires-clause-time
undo_each-requires-clause-time c =
    let n = node_of c.args.self.now in
    let units : units_of c.as_slice-2.result.now ≡ left_active n = ap units_of c.as_slice-2.ensures.value ∙ c.in_ok-left.ensures in
    let count : length c.as_slice-2.result.now ≡ length (left_active n) = sym (length-map c.as_slice-2.result.now unit_of) ∙ ap length units in
    let few = few_left n c.requires.kept in
    boots_time (length c.as_slice-2.result.now) n (node_of c.begin_boot.new.self) c.in_ok-begin_boot.ensures (less_time 64 (length c.as_slice-2.result.now) n (omega (arith, count, few)) c.requires.time)

pub undo_each-requires-clause-unknown : goal.undo_each-requires-clause-unknown
undo_each-requires-clause-unknown c =
    let n = node_of c.args.self.now in
    let units : units_of c.as_slice-2.result.now ≡ left_active n = ap units_of c.as_slice-2.ensures.value ∙ c.in_ok-left.ensures in
    subst (λ (us : List RecoveryUnit). AreUnknown (map unit_key us) (node_of c.begin_boot.new.self).volatile.branches) (sym units)
    (subst (λ (bs : List Branch). AreUnknown (map unit_key (left_active n)) bs) (sym (ap (λ (x : world.Node). x.volatile.branches) c.in_ok-begin_boot.ensures)) (are_unknown n c.requires.kept))

pub returns-clause-restarts : goal.returns-clause-restarts
returns-clause-restarts c = λ s.
    let n = node_of c.args.self.now in
    let o = node_of c.begin_boot.new.self in
    let units : units_of c.as_slice-2.result.now ≡ left_active n = ap units_of c.as_slice-2.ensures.value ∙ c.in_ok-left.ensures in
    let last : map line_of c.in_ok-last.last.items ≡ last_lines n = c.in_ok-last.ensures ∙ (λ i. one_line (option_map line_of c.last_shown.result) ++ map line_of (c.new.ensures.items i)) ∙ nothing_more (one_line (option_map line_of c.last_shown.result)) ∙ c.last_shown.ensures in
    let undone : map line_of c.in_ok-undone.undone.items ≡ lines_of_rows (table_rows (undo_all (map unit_key (left_active n))) s o) = c.in_ok-undone.ensures.lines s ∙ ap (λ us. lines_of_rows (table_rows (undo_all (map unit_key us)) s o)) units in
    let found : map line_of c.in_ok-found.found.items ≡ prepared_lines n = c.in_ok-found.ensures ∙ ap (λ ks. map key_line (map branch_key_of ks)) c.as_slice.ensures.value
    ∙ ap (λ (x : world.Node). map key_line x.volatile.preparation) c.in_ok-begin_boot.ensures ∙ shown_prepared (prepared_left n.durable) in
    let ran = c.in_ok-undone.ensures.node s ∙ ap (λ us. node_after_rows (table_rows (undo_all (map unit_key us)) s o) o) units in
    IfOk-weaker c.append-2.result _ _ (λ lines joined. has_restarted s n o (acted ComesUp (node_of c.undo_each.new.self)) (map line_of c.in_ok-last.last.items) (map line_of c.in_ok-undone.undone.items) (map line_of c.in_ok-found.found.items) lines.items
    last c.in_ok-begin_boot.ensures undone found
    (ap (map line_of) joined ∙ map-append line_of c.in_ok-append.field-0.items c.in_ok-found.found.items ∙ ap (λ ls. ls ++ map line_of c.in_ok-found.found.items) (ap (map line_of) c.in_ok-append.ensures ∙ map-append line_of c.in_ok-last.last.items c.in_ok-undone.undone.items))
    (ap (acted ComesUp) ran)) c.append-2.ensures

pub returns-clause-time : goal.returns-clause-time
returns-clause-time c = λ count h.
    let n = node_of c.args.self.now in
    let units : units_of c.as_slice-2.result.now ≡ left_active n = ap units_of c.as_slice-2.ensures.value ∙ c.in_ok-left.ensures in
    let size : length c.as_slice-2.result.now ≡ length (left_active n) = sym (length-map c.as_slice-2.result.now unit_of) ∙ ap length units in
    let few = few_left n c.requires.kept in
    on_ok c.append-2.result (comes_time count (node_of c.undo_each.new.self) (c.in_ok-undone.ensures.time count
    (boots_time (count + length c.as_slice-2.result.now) n (node_of c.begin_boot.new.self) c.in_ok-begin_boot.ensures (less_time (count + 64) (count + length c.as_slice-2.result.now) n (omega (arith, size, few)) h))))
