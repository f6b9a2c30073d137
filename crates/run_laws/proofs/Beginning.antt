-- What is known of the first branch of a transaction once it began.
use Rattle.std.proofs.Common.{◌≡◌, ℕ, ◌+◌, List, [], ◌∷◌, inl, inr, true, false, Option, Some, None, refl, sym, ◌∙◌, ap, subst, arith}
use Rattle.std.proofs.lemmas.Bool.{both_ways, cases_Bool}
use Rattle.vms_model.specs.Ids.{Id}
use Rattle.run_said.specs.transcript_model.Lines as line
use Rattle.run_said.specs.transcript_model.Lines.{Line}
use Rattle.run_said.specs.script_model.Statements.{At, StartTrans}
use Rattle.commit_protocol.specs.Table.{Active, Branch}
use Rattle.commit_protocol.specs.Rows.{blank}
use Rattle.commit_protocol.specs.Allowed.{is_prepared}
use Rattle.commit_protocol.specs.World.{In}
use Rattle.run_said.specs.run_model.World.{World, Node, Act, Settlement, find_node, next_id}
use Rattle.run_said.specs.run_model.Answers as answers
use Rattle.run_said.specs.run_model.Answers.{service}
use Rattle.run_said.specs.run_model.Steps.{succeeded}
use Rattle.run_said.specs.run_model.Statements.{Step}
use Rattle.run_said.specs.run_model.StepLaws.{is_refusal}
use Rattle.run_said.proofs.run_model.NodeLists.{found_name, put_node, some_is}
use Rattle.recovery_laws.specs.world_laws.Nodes.{IsUp}
use Rattle.recovery_laws.proofs.world_laws.ServedLemmas.{undrawn}
use Rattle.recovery_laws.proofs.world_laws.TableLemmas.{in_serials}
use Rattle.recovery_laws.proofs.world_laws.UpLemmas.{branch_drawn}
use Rattle.run_laws.proofs.FirstBranch.{IsFirst, first, first_keeps}
use Rattle.run_laws.proofs.Keeping.{Kept}
use Rattle.run_laws.proofs.Labelling.{Succeeds, request_ends, served_up}
use Rattle.run_laws.proofs.LastOwn.{lasting, lasting_keeps}
use Rattle.run_laws.proofs.Moving.{in_put}
use Rattle.run_laws.proofs.OneBranch as branch
use Rattle.run_laws.proofs.Paths.{IsOn}
use Rattle.run_laws.proofs.SoundWorlds.{IsSound, step_sound}

-- Its node had drawn no such id, and has drawn it then; it is a first branch, and the last settlement of the disk is of another.
pub record Begins (x : Id) (w v : World) : Type 0 where
  pub n : Node
  pub found : find_node x.node w.nodes ≡ Some n
  pub up : n.up ≡ true
  pub new : x ≡ next_id n
  pub is_first : IsFirst x v
  pub own : IsOn (lasting x) (lasting_keeps x) x.node tt (λ ls. refl) (λ m. tt) v

pub transaction_begins : (w v : World) (node label : List ℕ) (seconds : Option ℕ) (x : Id) → IsSound w → Step w (At node (StartTrans label seconds)) (line.NormalId x ∷ []) v → (x.node ≡ node) × Begins x w v
transaction_begins w v node label seconds x sound step = elim (request_ends w v node (StartTrans label seconds) (line.NormalId x ∷ []) refl refl refl step) [
  | inl r ↦ absurd (refused_not r.0 r.1 r.2)
  | inr s ↦ at s
]
  where
    refused_not : (refusal : Line) → is_refusal refusal ≡ true → line.NormalId x ∷ [] ≡ refusal ∷ [] → ⊥
    refused_not refusal is e = let same : line.NormalId x ≡ refusal = cc in let clash : false ≡ true = ap is_refusal same ∙ is in let no : ⊥ = cc in no

    at : Succeeds w v node (StartTrans label seconds) (line.NormalId x ∷ []) → (x.node ≡ node) × Begins x w v
    at s = (home, record { n = n; found = subst (λ name. find_node name w.nodes ≡ Some n) (sym home) s.found; up = up; new = is; is_first = is_first; own = own })
      where
        n : Node
        n = s.n

        m : Node
        m = (succeeded w.shared s.n (service (StartTrans label seconds))).node

        up : s.n.up ≡ true
        up = served_up s.n _ s.first

        is : x ≡ next_id s.n
        is = let same : line.NormalId x ∷ [] ≡ line.NormalId (next_id s.n) ∷ [] = s.shows in cc

        home : x.node ≡ node
        home = ap (λ (y : Id). y.node) is ∙ found_name node w.nodes s.n s.found

        sound_v : IsSound v
        sound_v = step_sound w v (At node (StartTrans label seconds)) (line.NormalId x ∷ []) step sound

        there : find_node node v.nodes ≡ Some (succeeded w.shared s.n (service (StartTrans label seconds))).node
        there = ap (λ (y : World). find_node node y.nodes) s.goes ∙ put_node node s.n (succeeded w.shared s.n (service (StartTrans label seconds))).node w.nodes refl s.found

        there_x : find_node x.node v.nodes ≡ Some (succeeded w.shared s.n (service (StartTrans label seconds))).node
        there_x = ap (λ name. find_node name v.nodes) home ∙ there

        up_n : IsUp s.n
        up_n = ((sound.kept node s.n s.found).runs up).0

        up_m : IsUp (succeeded w.shared s.n (service (StartTrans label seconds))).node
        up_m = ((sound_v.kept node (succeeded w.shared s.n (service (StartTrans label seconds))).node there).runs up).0

        used : v.shared.in_use ≡ true
        used = elim (cases_Bool v.shared.in_use) [ inl on ↦ on | inr off ↦ absurd (both_ways s.n.up ((sound_v.kept node (succeeded w.shared s.n (service (StartTrans label seconds))).node there).unused off).0 up) ]

        quiet : (act : Act) → s.n.under_way ≡ Some act → ⊥
        quiet act e = both_ways s.n.up ((sound.kept node s.n s.found).way act e).2 up

        on : branch.IsOn x (λ t. t ≡ x) (λ t. ⊥) (λ y. y.tid ≡ x) false (succeeded w.shared s.n (service (StartTrans label seconds))).node
        on = record {
          drawn = subst (λ y. Rattle.recovery_laws.specs.world_laws.Running.IsDrawn s.n.name s.n.durable.boot (s.n.volatile.drawn + 1) y) (sym is) (refl, inr (refl, omega arith));
          fresh = λ e. let no : ⊥ = cc in absurd no;
          branch = λ b i e. elim (in_put (blank (next_id s.n) (next_id s.n) None Active (answers.due_after s.n seconds)) b s.n.volatile.branches i) [
            | inl same ↦ (ap (λ (y : Branch). y.key.tid) same ∙ sym is, λ p. let clash : false ≡ true = ap (λ (y : Branch). is_prepared y.state) (sym same) ∙ p in let no : ⊥ = cc in no)
            | inr old ↦ absurd (undrawn s.n b.key.serial (branch_drawn s.n up_n.table b.key.serial (in_serials b s.n.volatile.branches old)) (e ∙ is))
          ];
          commits = λ y i e c. absurd (undrawn s.n y.serial (((sound.once node s.n s.found).runs up).drawn y i) (e ∙ is));
        }

        first_kept : Kept (first x) (first_keeps x) tt (succeeded w.shared s.n (service (StartTrans label seconds))).node
        first_kept = record {
          disk = (first_keeps x).falls false tt (succeeded w.shared s.n (service (StartTrans label seconds))).node up_m on;
          way = λ act e. absurd (quiet act e);
          runs = λ q. on;
        }

        is_first : IsFirst x v
        is_first = record { sound = sound_v; used = used; tracked = λ k f. subst (Kept (first x) (first_keeps x) tt) (some_is (succeeded w.shared s.n (service (StartTrans label seconds))).node k (sym there_x ∙ f)) first_kept }

        none_last : (y : Settlement) → s.n.durable.last ≡ Some y → y.serial ≡ x → In y s.n.settled
        none_last y e same = absurd (undrawn s.n y.serial (((sound.once node s.n s.found).runs up).last y e) (same ∙ is))

        own_kept : Kept (lasting x) (lasting_keeps x) tt (succeeded w.shared s.n (service (StartTrans label seconds))).node
        own_kept = record { disk = none_last; way = λ act e. absurd (quiet act e); runs = λ q. none_last }

        own : IsOn (lasting x) (lasting_keeps x) x.node tt (λ ls. refl) (λ k. tt) v
        own = record { sound = sound_v; used = used; tracked = λ k f. subst (Kept (lasting x) (lasting_keeps x) tt) (some_is (succeeded w.shared s.n (service (StartTrans label seconds))).node k (sym there_x ∙ f)) own_kept }
