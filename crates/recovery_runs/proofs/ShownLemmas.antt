-- Recoveries that a transcript shows to have succeeded.
use Rattle.std.proofs.Common.{◌≡◌, ℕ, inl, inr, List, [], ◌∷◌, ◌++◌, true, false, not, ◌||◌, Option, Some, None, refl, sym, ◌∙◌, ap, subst}
use Rattle.std.proofs.lemmas.Bool.{both_ways, cases_Bool}
use Rattle.transcript_model.specs.Lines as line
use Rattle.transcript_model.specs.Lines.{Line, Cause}
use Rattle.script_model.specs.Statements.{At, Recover, Recovery}
use Rattle.recovery_model.specs.Recovery.{rolled}
use Rattle.recovery_laws.specs.run_model.World.{File, Node, World, find_file, find_node, opened, state_of}
use Rattle.recovery_laws.specs.run_model.Answers.{Service, Serves, refused_before_reading, service, there_is_file, way_of}
use Rattle.recovery_laws.specs.run_model.Operations.{first_of, refused_if}
use Rattle.recovery_laws.specs.run_model.Steps.{Choice, Cut, TaskAllowed, TaskEffect, Unpowered, Whole, WithoutMemory, begun, node_after_rows, task_effect, whole}
use Rattle.recovery_laws.specs.run_model.Statements.{Begins, Phases, RoseAt, Step, begun_with, phases_of, refused_at_once, stops_at}
use Rattle.recovery_laws.specs.run_model.StepLaws.{IsTask, is_refusal}
use Rattle.recovery_laws.specs.run_model.Transcript.{Turn as LineTurn}
use Rattle.recovery_laws.proofs.run_model.CauseLemmas.{refuses_first, refuses_then}
use Rattle.recovery_laws.proofs.run_model.Failing.{once_refuses}
use Rattle.recovery_laws.proofs.run_model.NodeLists.{put_node}
use Rattle.recovery_laws.proofs.run_model.PartLemmas.{turn}
use Rattle.recovery_laws.proofs.run_model.TaskLemmas.{effect_name}
use Rattle.recovery_laws.proofs.world_laws.AnswerLemmas.{neither}
use Rattle.recovery_laws.proofs.world_laws.FindLemmas.{some_is}
use Rattle.recovery_laws.proofs.world_laws.ServedLemmas.{there_is as there_is_one}
use Rattle.run_laws.specs.run_agreement.Laws.{IsReplaced}
use Rattle.run_laws.proofs.run_agreement.Told.{used_replace_none}
use Rattle.run_laws.proofs.DumpsShown.{ends_alike, legal_on, split_on}
use Rattle.run_laws.proofs.Labelling.{served_up}
use Rattle.run_laws.proofs.SoundWorlds.{IsSound, legal_sound, opening_sound}
use Rattle.recovery_laws.specs.Loading.{HasNoGap}
use Rattle.recovery_laws.specs.Recovering.{IsRecovered}
use Rattle.recovery_laws.proofs.LoadingLemmas.{loads_as_it_is}
use Rattle.recovery_runs.specs.Runs.{AreLawful, AreWhole, HasNoGaps, HasRecovered, MayOnly, ShownRecoveriesHold, StandsAt}
use Rattle.recovery_runs.proofs.RunLemmas.{recoveries_hold, up_files_whole}

-- what was done: the file was there, nothing refused, the answer is that of the service, and its rows were done
record IsDone (w : World) (n : Node) (file : List ℕ) (way : Recovery) (count : ℕ) (x : TaskEffect) : Type 0 where
  up : n.up ≡ true
  first : refused_before_reading w.shared n (service (Recover file way)) ≡ None
  answers : line.NormalCount count ≡ (service (Recover file way)).answer w.shared n
  node : x.node ≡ node_after_rows ((service (Recover file way)).rows w.shared n) n

abbrev count_of : Line → ℕ
count_of (line.NormalCount k) = k
count_of other = 0

module _ (w v : World) (node file : List ℕ) (way : Recovery) (count : ℕ) (step : Step w (At node (Recover file way)) (line.NormalCount count ∷ []) v) where
  abbrev e : Service
  e = service (Recover file way)

  ended : (step.events ≡ []) × (step.answer ≡ line.NormalCount count)
  ended = let r = ends_alike step.events [] step.answer (line.NormalCount count) (sym step.shows) in (r.0, r.1)

  no_refusal : (o : Option Line) (refusal : Line) → o ≡ Some refusal → refused_at_once w (At node (Recover file way)) ≡ o → ⊥
  no_refusal o refusal q is =
      let d = begins_refused (refused_at_once w (At node (Recover file way))) refusal (is ∙ q) step.does in
      both_ways _ (ap is_refusal ended.1) (ap is_refusal d ∙ (once_refuses w (At node (Recover file way))).says refusal (is ∙ q))
    where
      begins_refused : (o : Option Line) (refusal : Line) → o ≡ Some refusal → Begins o (Phases (phases_of (At node (Recover file way))) v.disks (begun_with (At node (Recover file way)) w) line.Normal) w step.events step.answer step.world → step.answer ≡ refusal
      begins_refused (Some x) refusal q d = d.1 ∙ some_is x refusal q
      begins_refused None refusal q d = let no : ⊥ = cc in absurd no

  module _ (n : Node) where
    late_done : n.up ≡ true → refused_before_reading w.shared n (service (Recover file way)) ≡ None → (o : Option Line) → (service (Recover file way)).refused_after_reading w.shared n ≡ o → line.NormalCount count ≡ (begun w.shared n (service (Recover file way)) o).answer →
        IsDone w n file way count (begun w.shared n (service (Recover file way)) o)
    late_done up first (Some refusal) late answers = absurd (both_ways _ (ap is_refusal (sym answers)) ((refuses_then w.shared n (Serves (Recover file way))).says refusal late))
    late_done up first None late answers = record { up = up; first = first; answers = answers; node = refl }

    whole_done : (o : Option Line) → refused_before_reading w.shared n (service (Recover file way)) ≡ o → line.NormalCount count ≡ (whole w.shared n n (service (Recover file way)) o).answer → IsDone w n file way count (whole w.shared n n (service (Recover file way)) o)
    whole_done (Some refusal) first answers = absurd (both_ways _ (ap is_refusal (sym answers)) ((refuses_first w.shared n (Serves (Recover file way))).says refusal first))
    whole_done None first answers = late_done (served_up n _ first) first ((service (Recover file way)).refused_after_reading w.shared n) refl answers

    by_choice : (c : Choice) (rises : Cause → Type 0) → TaskAllowed w.shared (stops_at node w) n (Serves (Recover file way)) rises c → line.NormalCount count ≡ (task_effect w.shared (stops_at node w) n (Serves (Recover file way)) c).answer →
        IsDone w n file way count (task_effect w.shared (stops_at node w) n (Serves (Recover file way)) c)
    by_choice (Whole o) rises may answers = whole_done (refused_before_reading w.shared n (service (Recover file way))) refl answers
    by_choice WithoutMemory rises may answers = let no : ⊥ = cc in absurd no
    by_choice Unpowered rises may answers = let no : ⊥ = cc in absurd no
    by_choice (Cut o j b cause) rises may answers = let no : ⊥ = cc in absurd no

  -- by what recovery can tell of the file
  shown : ((n : Node) (f : File) → find_node node w.nodes ≡ Some n → n.up ≡ true → find_file file n.durable.directory ≡ Some f → refused_before_reading w.shared n (service (Recover file way)) ≡ None → IsRecovered w.shared n file way f × HasNoGaps f) → HasRecovered w v node file way count
  shown recovers = go (find_node node w.nodes) refl
    where
      at : (n : Node) → find_node node w.nodes ≡ Some n → HasRecovered w v node file way count
      at n found =
          let it : IsTask w (At node (Recover file way)) node (Serves (Recover file way)) n = record { begins = ap (λ o. first_of o None) (ap (λ (o : Option Node). elim o as (λ x. Option Line) [ Some m ↦ None | None ↦ Some line.NoSuchNode ]) found); task = refl; found = found } in
          let t = turn w v (At node (Recover file way)) node (Serves (Recover file way)) n (line.NormalCount count ∷ []) it step in
          let d = by_choice n t.choice (λ cause. RoseAt w node cause v.disks) t.allowed (sym ended.1 ∙ t.answers) in
          let there = there_is_one n file (neither (there_is_file n file) _ (neither (refused_if (not (n.up || false)) line.NodeDown) _ d.first).1).0 in
          let all = recovers n there.0 found d.up there.1 d.first in
          let r = all.0 in
          let gaps : HasNoGap (there.0).organization (rolled (way_of way) (state_of there.0)) = subst (HasNoGap (there.0).organization) (sym r.told) (all.1.given (way_of way) r.reached) in
          let x = (task_effect w.shared (stops_at node w) n (Serves (Recover file way)) t.choice).node in
          record {
            before = n;
            found = found;
            old = there.0;
            was_there = there.1;
            after = x;
            stands = ap (λ (u : World). find_node node u.nodes) t.goes ∙ put_node node n x w.nodes (effect_name w.shared (stops_at node w) n (Serves (Recover file way)) t.choice) found;
            new = r.left;
            is_there = ap (λ (m : Node). find_file file m.durable.directory) d.node ∙ r.there;
            gives = r.stands ∙ r.moment (loads_as_it_is (there.0).organization (rolled (way_of way) (state_of there.0)) gaps);
            counted = ap count_of (d.answers ∙ r.counted);
          }

      go : (o : Option Node) → find_node node w.nodes ≡ o → HasRecovered w v node file way count
      go (Some n) found = at n found
      go None found = absurd (no_refusal (Some line.NoSuchNode) line.NoSuchNode refl (ap (λ (o : Option Node). first_of (elim o as (λ x. Option Line) [ Some m ↦ None | None ↦ Some line.NoSuchNode ]) None) found))

-- a node that is up may have been in use
up_used : (w : World) → IsSound w → (node : List ℕ) (n : Node) → find_node node w.nodes ≡ Some n → n.up ≡ true → w.shared.in_use ≡ true
up_used w sound node n found up = elim (cases_Bool w.shared.in_use) [ inl on ↦ on | inr off ↦ absurd (both_ways n.up ((sound.kept node n found).unused off).0 up) ]

pub shown_recoveries_hold : ShownRecoveriesHold
shown_recoveries_hold nodes disks later after es e v closing may waits node file way count opens lawful whole only said lines legal on =
    let w = legal.0 in
    let step : Step w (At node (Recover file way)) (line.NormalCount count ∷ []) v = subst (λ ls. Step w (At node (Recover file way)) ls v) lines (subst (λ r. LineTurn w r e.lines v) said legal.2) in
    let same = ap (λ xs. later ++ xs) (split_on after e es) in
    let before = subst (λ xs. MayOnly may (opened nodes disks) xs closing) (sym same) only in
    let behind = legal_on w v closing e after legal.2 on in
    let sound = legal_sound (opened nodes disks) w es (opening_sound nodes disks opens) legal.1 in
    let stays : w.shared.in_use ≡ true → (name : List ℕ) (n : Node) → StandsAt name es (opened nodes disks) n → StandsAt name (after ++ e ∷ es) (opened nodes disks) n =
    λ used name n left. (left.0, λ k. left.1 ((used_replace_none name w closing es (after ++ e ∷ []) behind used).1 (subst (IsReplaced name) (sym (split_on after e es)) k))) in
    let found_lawful : w.shared.in_use ≡ true → AreLawful may waits (opened nodes disks) es = λ used name n left. lawful name n (stays used name n left) in
    let found_whole : w.shared.in_use ≡ true → AreWhole (opened nodes disks) es = λ used name n left. whole name n (stays used name n left) in (
      w,
      legal.1,
      legal.2,
      shown w v node file way count step (λ n f found up there first.
          let used = up_used w sound node n found up in (
            recoveries_hold nodes disks later (after ++ e ∷ []) es w closing may waits opens (found_lawful used) before legal.1 behind node n found up file way f there first,
            up_files_whole nodes disks later (after ++ e ∷ []) es w closing may waits opens (found_lawful used) (found_whole used) before legal.1 behind node n found up file f there,
          )),
    )
