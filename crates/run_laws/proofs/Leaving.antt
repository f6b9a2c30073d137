-- What a statement leaves of a settlement: it stood there before, or is shown; and where it is left under way, another step of the statement shows it.
use Rattle.std.proofs.Common.{◌≡◌, ℕ, ◌⊎◌, List, [], ◌∷◌, ◌++◌, inl, inr, Option, Some, None, refl, sym, ◌∙◌, subst}
use Rattle.std.proofs.lemmas.Bool.{both_ways}
use Rattle.std.proofs.lemmas.List.{append_assoc}
use Rattle.run_said.specs.transcript_model.Lines as line
use Rattle.run_said.specs.transcript_model.Lines.{Line, Cause}
use Rattle.run_said.specs.script_model.Statements.{Statement, At, Settle, Deliver, LinkDown}
use Rattle.commit_protocol.specs.World.{In}
use Rattle.commit_protocol.proofs.Lists.{in_left, in_right}
use Rattle.run_said.specs.run_model.World.{World, Settlement}
use Rattle.run_said.specs.run_model.Statements.{Begins, Phases, Step, begun_with, part_effect, phases_of, refused_at_once}
use Rattle.run_said.proofs.run_model.PartLemmas.{phases_fold}
use Rattle.run_said.proofs.run_model.Refusing.{each_phase}
use Rattle.run_laws.specs.Promises.{settlements_of}
use Rattle.run_laws.proofs.Traces.{IsQuick, IsUnder, part_in, part_under, phases_trace}
use Rattle.run_laws.proofs.Unshown.{IsLineOf}

-- another step of a statement that a failure ended: it shows this line before the one of the node that is down
pub record Another (y : List ℕ) (it : Line) (w v : World) (st : Statement) (lines : List Line) : Type 0 where
  pub front : List Line
  pub cause : Cause
  pub other : World
  pub is : lines ≡ (front ++ line.Down y cause ∷ []) ++ line.Broken cause ∷ []
  pub step : Step w st (front ++ it ∷ line.Down y cause ∷ line.Broken cause ∷ []) other

module _ (y : List ℕ) (s : Settlement) (it : Line) (is_line : IsLineOf s it) (quick : IsQuick s) where
  abbrev UnderIt : World → Type 0
  UnderIt w = IsUnder y s w

  abbrev StandsAt : World → Type 0
  StandsAt w = In s (settlements_of y w)

  begun_stands : (st : Statement) (w : World) → StandsAt (begun_with st w) → StandsAt w
  begun_stands Settle w i = i
  begun_stands (At node request) w i = i
  begun_stands (Deliver number) w i = i
  begun_stands (LinkDown a b) w i = i

  begun_under : (st : Statement) (w : World) → UnderIt (begun_with st w) → UnderIt w
  begun_under Settle w i = i
  begun_under (At node request) w i = i
  begun_under (Deliver number) w i = i
  begun_under (LinkDown a b) w i = i

  pub step_in : (w v : World) (st : Statement) (lines : List Line) → (step : Step w st lines v) → StandsAt v → StandsAt w ⊎ UnderIt w ⊎ In it step.events
  step_in w v st lines step i = go (refused_at_once w st) step.does (subst StandsAt step.goes i)
    where
      go : (o : Option Line) → Begins o (Phases (phases_of st) v.disks (begun_with st w) line.Normal) w step.events step.answer step.world → StandsAt step.world → StandsAt w ⊎ UnderIt w ⊎ In it step.events
      go (Some refusal) d j = inl (subst StandsAt d.2 j)
      go None d j = elim (phases_fold v.disks (λ p. Unit {0}) (λ g. Unit {0}) (λ u rest a x. StandsAt x → StandsAt u ⊎ UnderIt u ⊎ In it rest)
          (λ u g q k. inl k)
          (λ u p c ok allowed ends k. part_in y s it is_line u p c k)
          (λ u p c ok allowed on. (
            tt,
            λ rest a x more k. elim (more k) [
              | inl q ↦ elim (part_in y s it is_line u p c q) [ inl r ↦ inl r | inr r ↦ elim r [ inl t ↦ inr (inl t) | inr t ↦ inr (inr (in_left _ (part_effect u p c).lines rest t)) ] ]
              | inr q ↦ elim q [
                | inl under ↦ elim (part_under y s it is_line quick u p c v.disks allowed under) [ inl r ↦ inr (inl r) | inr r ↦ absurd (both_ways (part_effect u p c).ends on r.ends) ]
                | inr shown ↦ inr (inr (in_right _ (part_effect u p c).lines rest shown))
              ]
            ],
          ))
          (phases_of st) (each_phase st) (begun_with st w) line.Normal step.events step.answer step.world tt d j) [
            | inl k ↦ inl (begun_stands st w k)
            | inr k ↦ elim k [ inl t ↦ inr (inl (begun_under st w t)) | inr t ↦ inr (inr t) ]
          ]

  pub step_under : (w v : World) (st : Statement) (lines : List Line) → Step w st lines v → UnderIt v → UnderIt w ⊎ Another y it w v st lines
  step_under w v st lines step h = go (refused_at_once w st) refl step.does (subst UnderIt step.goes h)
    where
      go : (o : Option Line) → refused_at_once w st ≡ o → Begins o (Phases (phases_of st) v.disks (begun_with st w) line.Normal) w step.events step.answer step.world → UnderIt step.world → UnderIt w ⊎ Another y it w v st lines
      go (Some refusal) e d k = inl (subst UnderIt d.2 k)
      go None e d k = elim (phases_trace y s it is_line quick (phases_of st) v.disks (begun_with st w) line.Normal step.events step.answer step.world d k) [
        | inl q ↦ inl (begun_under st w q)
        | inr q ↦ inr (record {
          front = q.0;
          cause = q.1;
          other = record q.2 { disks = v.disks };
          is = step.shows ∙ (λ i. q.3 i ++ q.4 i ∷ []);
          step = record {
            events = q.0 ++ it ∷ line.Down y q.1 ∷ [];
            answer = line.Broken q.1;
            world = q.2;
            does = subst (λ o. Begins o (Phases (phases_of st) v.disks (begun_with st w) line.Normal) w (q.0 ++ it ∷ line.Down y q.1 ∷ []) (line.Broken q.1) q.2) (sym e) q.5;
            counts = step.counts;
            shows = sym (append_assoc q.0 (it ∷ line.Down y q.1 ∷ []) (line.Broken q.1 ∷ []));
            goes = refl;
          };
        })
      ]
