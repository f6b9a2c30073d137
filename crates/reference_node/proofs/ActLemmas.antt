-- What a task does that nothing refuses, by its rows.
use Rattle.std.proofs.Common.{◌≡◌, ℕ, List, [], ◌∷◌, ◌++◌, Bool, true, false, Option, Some, None, refl, sym, ap, ◌∙◌, length, arith}
use Rattle.std.specs.Prelude.{map, ◌==◌, not}
use Rattle.std.proofs.lemmas.Bool.Decides.{nat_tests}
use Rattle.vms_model.specs.Keys.{Key}
use Rattle.world_laws.specs.transcript_model.Lines as model
use Rattle.script_lang.specs.script_model.Statements.{Records, Direct, Operation}
use Rattle.records_model.specs.Records.{Change}
use Rattle.commit_protocol.specs.Table.{Branch}
use Rattle.commit_protocol.specs.Allowed.{is_working}
use Rattle.world_laws.specs.run_model.World.{Node, Shared, Settlement, acted, Changes, Directs, Holds, next_id, next_moment, shared_after}
use Rattle.world_laws.specs.run_model.Operations.{refused_if}
use Rattle.world_laws.specs.run_model.Answers.{Row, Service, service, branch_labelled, in_state, changes_at, keys_at, commit_settlement, directed, operation_act, operated, operation_told}
use Rattle.world_laws.specs.run_model.Steps.{node_after, node_after_rows, shared_then, shared_after_rows, lines_of_rows}
use Rattle.reference_world.specs.declared.line.Line.{Line}
use Rattle.reference_world.specs.Standing.{line_of}
use Rattle.reference_node.specs.Nodes.{Does}

-- where nothing is done or shown with its answer
pub does_rows : (s t : Shared) (n m : Node) (e : Service) (rs : List Row) (lines : List Line) → e.rows s n ≡ rs → e.closing ≡ None → e.closing_lines n ≡ [] →
    map line_of lines ≡ lines_of_rows rs ++ e.answer s n ∷ [] → m ≡ node_after_rows rs n → t ≡ shared_after_rows rs s → Does s n e lines m t
does_rows s t n m e rs lines are none silent shown node shared = record {
  shows = shown ∙ sym (ap (λ xs. lines_of_rows xs ++ e.answer s n ∷ []) are) ∙ sym (ap (λ xs. lines_of_rows (e.rows s n) ++ (xs ++ e.answer s n ∷ [])) silent);
  node = node ∙ sym (ap (λ xs. node_after_rows xs n) are) ∙ sym (ap (λ o. node_after o (node_after_rows (e.rows s n) n)) none);
  shared = shared ∙ sym (ap (λ xs. shared_after_rows xs s) are) ∙ sym (ap (λ o. shared_then o (shared_after_rows (e.rows s n) s)) none);
}

-- changes leave what nodes share
shares_still : (b : Branch) (file : List ℕ) (cs : List Change) (keys : List Key) (s : Shared) → s ≡ shared_after (operation_act b file cs keys) s
shares_still b file [] keys s = refl
shares_still b file (c ∷ cs) keys s = refl

-- an operation of a branch that the label names
pub operates : (s : Shared) (n m : Node) (label file : List ℕ) (op : Operation) (b : Branch) (cs : List Change) (keys : List Key) (told : model.Line) (lines : List Line) →
    Some b ≡ branch_labelled s n label → cs ≡ changes_at n file op → keys ≡ keys_at n file op → told ≡ operation_told n file op →
    map line_of lines ≡ told ∷ [] → m ≡ acted (operation_act b file cs keys) n → Does s n (service (Records label file op)) lines m s
operates s n m label file op b cs keys told lines found changes holds tells shown node = does_rows s s n m (service (Records label file op)) (operated n file op b ∷ []) lines
    (ap (λ (o : Option Branch). elim o as (λ _. List Row) [ Some x ↦ operated n file op x ∷ [] | None ↦ [] ]) (sym found))
    refl refl (shown ∙ ap (λ l. l ∷ []) tells)
    (node ∙ ap (λ xs. acted (operation_act b file xs keys) n) changes ∙ ap (λ ks. acted (operation_act b file (changes_at n file op) ks) n) holds)
    (shares_still b file (changes_at n file op) (keys_at n file op) s)

-- one of no branch changes nothing
pub operates_nothing : (s : Shared) (n : Node) (label file : List ℕ) (op : Operation) (told : model.Line) (lines : List Line) →
    None ≡ branch_labelled s n label → told ≡ operation_told n file op → map line_of lines ≡ told ∷ [] → Does s n (service (Records label file op)) lines n s
operates_nothing s n label file op told lines none tells shown = does_rows s s n n (service (Records label file op)) [] lines
    (ap (λ (o : Option Branch). elim o as (λ _. List Row) [ Some x ↦ operated n file op x ∷ [] | None ↦ [] ]) (sym none))
    refl refl (shown ∙ ap (λ l. l ∷ []) tells) refl refl

-- its changes are an act, where there are some; else it holds what it read
pub some_act : (b : Branch) (file : List ℕ) (cs : List Change) (keys : List Key) → (length cs == 0) ≡ false → operation_act b file cs keys ≡ Changes b.key.tid b.key.serial file cs keys
some_act b file [] keys e = let none : ⊥ = cc in absurd none
some_act b file (c ∷ cs) keys e = refl

some_length : (c : Change) (cs : List Change) → (length (c ∷ cs) == 0) ≡ true → ⊥
some_length c cs e = grind (arith, nat_tests)

pub no_act : (b : Branch) (file : List ℕ) (cs : List Change) (keys : List Key) → (length cs == 0) ≡ true → operation_act b file cs keys ≡ Holds b.key.serial file keys
no_act b file [] keys e = refl
no_act b file (c ∷ cs) keys e = absurd (some_length c cs e)

-- a branch that works, where its state refuses nothing
working : (b : Branch) (holds : Bool) → is_working b ≡ holds → refused_if (not holds) model.WrongState ≡ None → is_working b ≡ true
working b true is e = is
working b false is e = let none : ⊥ = cc in absurd none

pub works : (o : Option Branch) (b : Branch) → Some b ≡ o → in_state is_working o ≡ None → is_working b ≡ true
works o b found e = working b (is_working b) refl (ap (in_state is_working) found ∙ e)

-- Operations without a label.

directed_some : (n : Node) (file : List ℕ) (cs : List Change) → (length cs == 0) ≡ false →
    directed n file cs ≡ record { act = Some (Directs file cs (commit_settlement n (next_id n) (next_id n))); lines = model.Committed (next_id n) (next_id n) (next_moment n) ∷ [] } ∷ []
directed_some n file [] e = let none : ⊥ = cc in absurd none
directed_some n file (c ∷ cs) e = refl

directed_none : (n : Node) (file : List ℕ) (cs : List Change) → (length cs == 0) ≡ true → directed n file cs ≡ []
directed_none n file [] e = refl
directed_none n file (c ∷ cs) e = absurd (some_length c cs e)

-- changes of a branch of its own
pub directs : (s : Shared) (n m : Node) (file : List ℕ) (op : Operation) (cs : List Change) (end : Settlement) (told : model.Line) (lines : List Line) → (length cs == 0) ≡ false → cs ≡ changes_at n file op →
    end ≡ commit_settlement n (next_id n) (next_id n) → told ≡ operation_told n file op →
    map line_of lines ≡ model.Committed (next_id n) (next_id n) (next_moment n) ∷ told ∷ [] → m ≡ acted (Directs file cs end) n → Does s n (service (Direct file op)) lines m s
directs s n m file op cs end told lines some changes settles tells shown node =
    does_rows s s n m (service (Direct file op)) (record { act = Some (Directs file cs (commit_settlement n (next_id n) (next_id n))); lines = model.Committed (next_id n) (next_id n) (next_moment n) ∷ [] } ∷ []) lines
    (ap (directed n file) (sym changes) ∙ directed_some n file cs some) refl refl
    (shown ∙ ap (λ l. model.Committed (next_id n) (next_id n) (next_moment n) ∷ l ∷ []) tells) (node ∙ ap (λ x. acted (Directs file cs x) n) settles) refl

-- what is read is answered alone
pub reads_directly : (s : Shared) (n : Node) (file : List ℕ) (op : Operation) (cs : List Change) (told : model.Line) (lines : List Line) → (length cs == 0) ≡ true → cs ≡ changes_at n file op →
    told ≡ operation_told n file op → map line_of lines ≡ told ∷ [] → Does s n (service (Direct file op)) lines n s
reads_directly s n file op cs told lines none changes tells shown = does_rows s s n n (service (Direct file op)) [] lines
    (ap (directed n file) (sym changes) ∙ directed_none n file cs none) refl refl (shown ∙ ap (λ l. l ∷ []) tells) refl refl
