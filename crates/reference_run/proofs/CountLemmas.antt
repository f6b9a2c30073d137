-- No statement makes a node, or takes one away.
use Rattle.std.proofs.Common.{◌≡◌, ℕ, List, [], ◌∷◌, ◌++◌, Bool, true, false, Option, Some, None, if◌then◌else◌, refl, sym, ap, ◌∙◌, length, map, suc}
use Rattle.std.specs.Str.{bytes_eq}
use Rattle.world_laws.specs.transcript_model.Lines as model
use Rattle.script_lang.specs.script_model.Statements.{At, Deliver, LinkDown, Settle, Statement}
use Rattle.world_laws.specs.run_model.Answers.{Hears, Task}
use Rattle.world_laws.specs.run_model.Steps.{Whole, task_effect}
use Rattle.world_laws.specs.run_model.Statements.{Asks, Does, Doubtful, Heard, Part, PartEffect, Phase, Question, Unanswered, begun_with, done_at, no_node, part_effect, phases_of, put_into, question, question_effect, refused_at_once, stops_at}
use Rattle.world_laws.specs.run_model.World.{Lost, Node, World, find_node, with_node}
use Rattle.reference_world.specs.Standing.{line_of}
use Rattle.reference_law.specs.Whole.{StatementShown, begins_shown, parts_shown, phases_shown, shown_whole}
use Rattle.reference_tasks.specs.declared.tasks.TaskShown.{TaskShown}
use Rattle.reference_run.specs.Served.{Runs, followed}

count_put : (name : List ℕ) (f : Node → Node) (ns : List Node) → length (with_node name f ns) ≡ length ns
count_put name f [] = refl
count_put name f (n ∷ ns) = go (bytes_eq name n.name) (count_put name f ns)
  where
    go : (b : Bool) → length (with_node name f ns) ≡ length ns → length (if b then f n ∷ ns else n ∷ with_node name f ns) ≡ length (n ∷ ns)
    go true more = refl
    go false more = ap suc more

done_count : (w : World) (name : List ℕ) (t : Task) → length (done_at w name t (Whole Lost)).world.nodes ≡ length w.nodes
done_count w name t = go (find_node name w.nodes)
  where
    go : (o : Option Node) → length (elim o as (λ _. PartEffect) [ Some n ↦ put_into w name (task_effect w.shared (stops_at name w) n t (Whole Lost)) | None ↦ no_node w ]).world.nodes ≡ length w.nodes
    go (Some n) = count_put name (λ k. (task_effect w.shared (stops_at name w) n t (Whole Lost)).node) w.nodes
    go None = refl

asked_count : (w : World) (q : Question) → length (question_effect w (Whole Lost) q).world.nodes ≡ length w.nodes
asked_count w (Heard m) = done_count w m.to (Hears m)
asked_count w Unanswered = refl
asked_count w (Doubtful k) = refl

part_count : (w : World) (p : Part) → length (part_effect w p (Whole Lost)).world.nodes ≡ length w.nodes
part_count w (Does node t) = done_count w node t
part_count w (Asks node serial) = asked_count w (question w node serial)

-- whatever is behind keeps so many nodes
abbrev Keeps : ℕ → (World → model.Line → StatementShown) → Type 0
Keeps n behind = (w : World) (given : model.Line) → length w.nodes ≡ n → length (behind w given).world.nodes ≡ n

parts_count : (n : ℕ) (ps : List Part) (behind : World → model.Line → StatementShown) → Keeps n behind → Keeps n (parts_shown ps behind)
parts_count n [] behind keeps = λ w given is. keeps w given is
parts_count n (p ∷ ps) behind keeps = λ w given is.
    let e = part_effect w p (Whole Lost) in
    let here : length e.world.nodes ≡ n = part_count w p ∙ is in
    turned w e.ends here (parts_count n ps behind keeps e.world e.answer here)
  where
    turned : (w : World) (b : Bool) → (let e = part_effect w p (Whole Lost) in length e.world.nodes ≡ n → length (parts_shown ps behind e.world e.answer).world.nodes ≡ n →
        length (let r : StatementShown = if b then record { lines = e.lines ++ e.answer ∷ []; world = e.world } else record { lines = e.lines ++ (parts_shown ps behind e.world e.answer).lines; world = (parts_shown ps behind e.world e.answer).world } in r).world.nodes ≡ n)
    turned w true here more = here
    turned w false here more = more

phases_count : (n : ℕ) (ps : List Phase) → Keeps n (phases_shown ps)
phases_count n [] = λ w given is. is
phases_count n (p ∷ ps) = λ w given is. parts_count n (p w) (phases_shown ps) (phases_count n ps) w given is

begun_count : (s : Statement) (w : World) → length (begun_with s w).nodes ≡ length w.nodes
begun_count (At node request) w = refl
begun_count (Deliver number) w = refl
begun_count (LinkDown a b) w = refl
begun_count Settle w = refl

pub shown_count : (s : Statement) (w : World) → length (shown_whole w s).world.nodes ≡ length w.nodes
shown_count s w = go (refused_at_once w s)
  where
    go : (o : Option model.Line) → length (begins_shown o w s).world.nodes ≡ length w.nodes
    go (Some refusal) = refl
    go None = phases_count (length w.nodes) (phases_of s) (begun_with s w) model.Normal (begun_count s w)

-- nothing more is done
abbrev over : World → model.Line → StatementShown
over w given = record { lines = []; world = w }

followed_over : (x : TaskShown) (v : World) → (followed x v over).world ≡ v
followed_over x v = go x.ends
  where
    go : (b : Bool) → (let r : StatementShown = if b then record { lines = map line_of x.lines.items ++ line_of x.answer ∷ []; world = v } else record { lines = map line_of x.lines.items ++ []; world = v } in r).world ≡ v
    go true = refl
    go false = refl

-- parts that were done one after another
pub runs_count : (ps : List Part) (w v : World) (given : model.Line) (x : TaskShown) → Runs ps w given x v → length v.nodes ≡ length w.nodes
runs_count ps w v given x runs = sym (ap (λ (u : World). length u.nodes) (ap (λ (r : StatementShown). r.world) (runs over) ∙ followed_over x v)) ∙ parts_count (length w.nodes) ps over (λ u g is. is) w given refl
