-- An entry that makes a volume anew is an INIT that succeeded, and its node has the volume that it made.
use Rattle.std.proofs.Common.{◌≡◌, ℕ, true, false, List, [], ◌∷◌, ◌++◌, Option, Some, None, refl, sym, ◌∙◌, ap, subst}
use Rattle.std.specs.Str.{bytes_eq}
use Rattle.std.proofs.lemmas.Slice.Eq.{bytes_eq-Decides}
use Rattle.run_said.specs.transcript_model.Lines as line
use Rattle.run_said.specs.transcript_model.Lines.{Line}
use Rattle.run_said.specs.script_model.Statements.{At, Bad, Blank, Deliver, Init, LinkDown, Reading, Request, Says, Settle}
use Rattle.run_said.specs.run_model.World as world
use Rattle.run_said.specs.run_model.World.{Node, Outturn, World, acted, empty_directory, find_node, powered}
use Rattle.run_said.specs.run_model.Answers.{Serves, refused_before_reading, service}
use Rattle.run_said.specs.run_model.Statements.{Step, stops_at}
use Rattle.run_said.specs.run_model.StepLaws.{is_refusal}
use Rattle.run_said.specs.run_model.Steps.{Choice, Cut, TaskEffect, Unpowered, Whole, WithoutMemory, ready_node, task_effect, whole, with_unknown_volume}
use Rattle.run_said.specs.run_model.Transcript.{Turn}
use Rattle.run_said.proofs.run_model.CauseLemmas.{refuses_first}
use Rattle.run_said.proofs.run_model.NodeLists.{put_node, some_is}
use Rattle.run_said.proofs.run_model.Refusing.{same_last}
use Rattle.run_said.proofs.run_model.TaskLemmas.{effect_name}
use Rattle.run_laws.specs.Accounts.{made_anew}
use Rattle.run_laws.proofs.Named.{Ended, Refused, Turned, ended}

pub made_says : (node : List ℕ) (r : Reading) (lines : List Line) → made_anew node r lines ≡ true → (slots : ℕ) × (journal : ℕ) × (r ≡ Says (At node (Init slots journal))) × (lines ≡ line.Normal ∷ [])
made_says node (Says (At other request)) lines e = go request e
  where
    by_lines : (slots journal : ℕ) (lines : List Line) → made_anew node (Says (At other (Init slots journal))) lines ≡ true → (bytes_eq other node ≡ true) × (lines ≡ line.Normal ∷ [])
    by_lines slots journal [] e = let no : ⊥ = cc in absurd no
    by_lines slots journal (line.Normal ∷ []) e = (e, refl)
    by_lines slots journal (line.Normal ∷ y ∷ ls) e = let no : ⊥ = cc in absurd no
    by_lines slots journal (x ∷ ls) e = let no : ⊥ = cc in absurd no

    go : (request : Request) → made_anew node (Says (At other request)) lines ≡ true → (slots : ℕ) × (journal : ℕ) × (Says (At other request) ≡ Says (At node (Init slots journal))) × (lines ≡ line.Normal ∷ [])
    go (Init slots journal) e = let x = by_lines slots journal lines e in (slots, journal, ap (λ y. Says (At y (Init slots journal))) ((bytes_eq-Decides other node).0 x.0), x.1)
    go _ e = let no : ⊥ = cc in absurd no
made_says node (Says (Deliver number)) lines e = let no : ⊥ = cc in absurd no
made_says node (Says (LinkDown a b)) lines e = let no : ⊥ = cc in absurd no
made_says node (Says Settle) lines e = let no : ⊥ = cc in absurd no
made_says node Blank lines e = let no : ⊥ = cc in absurd no
made_says node (Bad column) lines e = let no : ⊥ = cc in absurd no

-- what its node is behind it: a volume was made on the disk that ran again of the node that was there
pub record IsNew (w : World) (node : List ℕ) (n : Node) : Type 0 where
  pub old : Node
  pub was : find_node node w.nodes ≡ Some old
  pub outturn : Outturn
  pub stops : ℕ
  pub slots : ℕ
  pub journal : ℕ
  pub unrefused : refused_before_reading w.shared old (service (Init slots journal)) ≡ None
  pub is : acted (world.Formats slots journal) (with_unknown_volume true (powered outturn stops old)) ≡ n

init_new : (w v : World) (node : List ℕ) (slots journal : ℕ) → Step w (At node (Init slots journal)) (line.Normal ∷ []) v → (m : Node) → find_node node v.nodes ≡ Some m → IsNew w node m
init_new w v node slots journal step m now = go (ended w v (At node (Init slots journal)) (line.Normal ∷ []) node (Serves (Init slots journal)) refl step)
  where
    go : Ended w v node (Serves (Init slots journal)) (line.Normal ∷ []) → IsNew w node m
    go (Refused refusal h shows goes) = let same : line.Normal ≡ refusal = (same_last [] [] line.Normal refusal shows).1 in let clash : false ≡ true = ap is_refusal same ∙ h in let no : ⊥ = cc in absurd no
    go (Turned n found c allowed shows goes) = subst (IsNew w node) (some_is e.node m (sym there ∙ now)) (done c shows)
      where
        e : TaskEffect
        e = task_effect w.shared (stops_at node w) n (Serves (Init slots journal)) c

        there : find_node node v.nodes ≡ Some (task_effect w.shared (stops_at node w) n (Serves (Init slots journal)) c).node
        there = ap (λ (x : World). find_node node x.nodes) goes ∙ put_node node n e.node w.nodes (effect_name w.shared (stops_at node w) n (Serves (Init slots journal)) c) found

        whole_done : (o : Outturn) (q : Option Line) → refused_before_reading w.shared n (service (Init slots journal)) ≡ q → let x = whole w.shared n (ready_node o (stops_at node w) (service (Init slots journal)) n) (service (Init slots journal)) q in line.Normal ∷ [] ≡ x.lines ++ x.answer ∷ [] → IsNew w node x.node
        whole_done o (Some refusal) first k =
            let same : line.Normal ≡ refusal = (same_last [] [] line.Normal refusal k).1 in
            let clash : true ≡ false = sym ((refuses_first w.shared n (Serves (Init slots journal))).says refusal first) ∙ ap is_refusal (sym same) in let no : ⊥ = cc in absurd no
        whole_done o None first k = record { old = n; was = found; outturn = o; stops = stops_at node w; slots = slots; journal = journal; unrefused = first; is = refl }

        done : (c : Choice) → line.Normal ∷ [] ≡ (task_effect w.shared (stops_at node w) n (Serves (Init slots journal)) c).lines ++ (task_effect w.shared (stops_at node w) n (Serves (Init slots journal)) c).answer ∷ [] → IsNew w node (task_effect w.shared (stops_at node w) n (Serves (Init slots journal)) c).node
        done (Whole o) k = whole_done o (refused_before_reading w.shared n (service (Init slots journal))) refl k
        done WithoutMemory k = let no : ⊥ = cc in absurd no
        done Unpowered k = let no : ⊥ = cc in absurd no
        done (Cut o j b cause) k = let x = task_effect w.shared (stops_at node w) n (Serves (Init slots journal)) (Cut o j b cause) in let same : line.Normal ≡ line.Broken cause = (same_last [] x.lines line.Normal (line.Broken cause) k).1 in let no : ⊥ = cc in absurd no

pub made_new : (w v : World) (node : List ℕ) (r : Reading) (lines : List Line) → Turn w r lines v → made_anew node r lines ≡ true → (m : Node) → find_node node v.nodes ≡ Some m → IsNew w node m
made_new w v node r lines turn made m now =
    let x = made_says node r lines made in
    init_new w v node x.0 x.1 (subst (λ ls. Step w (At node (Init x.0 x.1)) ls v) x.3 (subst (λ y. Turn w y lines v) x.2 turn)) m now

-- so its disk has no last settlement
pub made_last : (w v : World) (node : List ℕ) (r : Reading) (lines : List Line) → Turn w r lines v → made_anew node r lines ≡ true → (m : Node) → find_node node v.nodes ≡ Some m → m.durable.last ≡ None
made_last w v node r lines turn made m now =
    let new = made_new w v node r lines turn made m now in
    subst (λ (y : Node). y.durable.last ≡ None) new.is refl

-- and no file; and nothing is under way there
pub made_empty : (w v : World) (node : List ℕ) (r : Reading) (lines : List Line) → Turn w r lines v → made_anew node r lines ≡ true → (m : Node) → find_node node v.nodes ≡ Some m → (m.durable.directory ≡ empty_directory) × (m.under_way ≡ None)
made_empty w v node r lines turn made m now =
    let new = made_new w v node r lines turn made m now in
    subst (λ (y : Node). (y.durable.directory ≡ empty_directory) × (y.under_way ≡ None)) new.is (refl, refl)
