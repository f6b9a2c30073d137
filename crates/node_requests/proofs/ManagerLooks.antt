-- DECLARE_RM, FORGET_RM, GETDTI and LMCP at a node that is up.
use Rattle.std.proofs.Common.{◌≡◌, ◌⊎◌, inl, inr, ℕ, List, [], ◌∷◌, ◌++◌, Bool, true, false, Option, Some, None, Ok, map, length, refl, ◌∙◌, ap, sym, subst}
use Rattle.emitter_model.specs.commit_protocol.Messages.{Name}
use Rattle.emitter_model.specs.commit_protocol.Table.{without_rm}
use Rattle.world_laws.specs.log_laws.Slots.{committed_of, free_slots, prepared_of, records_in, slot_records, waiting_for}
use Rattle.emitter_model.specs.Emitting.{Emits, Shown, Since}
use Rattle.emitter_model.specs.transcript_model.Lines as line
use Rattle.emitter_model.specs.transcript_model.Lines.{Line}
use Rattle.script_lang.specs.script_model.Statements.{ByLabel, BySerial, DeclareRm, ForgetRm, GetDti, LmcpDump, LmcpShow, Named}
use Rattle.file_requests.specs.run_said.Said.{Said, line_said, refused_by_lines}
use Rattle.file_requests.specs.said_steps.Answers.{is_served}
use Rattle.world_laws.specs.run_model.Operations.{first_of}
use Rattle.world_laws.specs.run_model.World.{Declares, Node, Shared, acted}
use Rattle.world_laws.specs.run_model.Answers.{log_line, made_name, owed_line, service, shown_line, standing}
use Rattle.world_laws.specs.Nodes.{IsKeptNode}
use Rattle.node_table.specs.recovery_units.Laws.{KeepsNodes}
use Rattle.run_shared.specs.Sharing.{IsShared, SharedState}
use Rattle.participants.specs.Refusing.{refused_declaration, refused_forgetting}
use Rattle.node_table.specs.Standing.{IsUp, Up, UpRepresents}
use Rattle.node_requests.specs.Managers.{known_at, made_of, serial_in}
use Rattle.node_requests.specs.Requests.{DoesRequest, node_up}
use Rattle.node_requests.specs.Running.{name_of}
use Rattle.file_requests.specs.node_standing.Telling.{said_shared}
use Rattle.node_requests.proofs.Looking.{Looks, log_still, log_work, looks, owed_still, owed_work, shown_lines, shown_node, shown_shared, stands_declared, with_declared}
use Rattle.node_requests.proofs.ManagerStatements.{by_lines, known_is, unrefused}
use Rattle.node_requests.proofs.Statements.{branches_are, made_name_is}
use Rattle.node_requests.proofs.Transacting.{refuses}

no_refusal : (x : Line) → ◌≡◌ {A = Option Line} None (Some x) → ⊥
no_refusal x e = cc

first_end : (x : Option Line) → first_of x None ≡ x
first_end (Some l) = refl
first_end None = refl

-- A manager is declared.
module _ (rm : Name) (clock : ℕ) (r : Up) (sh : SharedState) (a b : Shown) where
  declares_is : (s : Shared) (n : Node) → UpRepresents clock r n → first_of ((service (DeclareRm rm)).refused_before_reading s n) ((service (DeclareRm rm)).refused_after_reading s n) ≡ refused_declaration rm r.declared
  declares_is s n h = ap (refused_declaration rm) h.declared

  pub declare_refuses : (l : Line) → IsUp r → Since a b → Emits a (l ∷ []) b → ((s : Said) → line_said l s ≡ s) → is_served l ≡ true → refused_declaration rm r.declared ≡ Some l → DoesRequest {T = Unit {0}} (Ok tt) (DeclareRm rm) clock r r sh sh a b
  declare_refuses l up since shows quiet served refused = refuses (DeclareRm rm) clock r sh a b l up since shows quiet (λ s. refl) (λ refusal e. absurd (no_refusal refusal e)) (λ e. served) (λ s n h share kept. declares_is s n h ∙ refused)

  pub declare_serves : KeepsNodes → IsUp r → Since a b → Emits a (map (owed_line rm) (waiting_for rm (committed_of (records_in r.stored.units.log))) ++ line.Normal ∷ []) b → refused_declaration rm r.declared ≡ None
      → DoesRequest {T = Unit {0}} (Ok tt) (DeclareRm rm) clock r (with_declared (r.declared ++ rm ∷ []) r) sh sh a b
  declare_serves law up since shows none = looks (DeclareRm rm) clock r (r.declared ++ rm ∷ []) sh a b (map (owed_line rm) (waiting_for rm (committed_of (records_in r.stored.units.log)))) line.Normal up since shows
      (owed_work rm (waiting_for rm (committed_of (records_in r.stored.units.log)))) (λ s. refl) (owed_still rm (waiting_for rm (committed_of (records_in r.stored.units.log)))) (λ s. refl) refl refl (λ s n h share kept. (
        acted (Declares (r.declared ++ rm ∷ [])) n,
        record {
          allowed = declares_is s n h ∙ none;
          lines = append_none (map (owed_line rm) (waiting_for rm (committed_of (records_in n.durable.log)))) ∙ ap (λ ss. map (owed_line rm) (waiting_for rm (committed_of (records_in ss)))) h.stands.kept.log;
          answer = refl;
          shared = refl;
          node = ap (λ (rms : List Name). acted (Declares (rms ++ rm ∷ [])) n) h.declared;
        },
        stands_declared law clock r (r.declared ++ rm ∷ []) n h,
      ))
    where
      append_none : (ls : List Line) → ls ++ [] ≡ ls
      append_none [] = refl
      append_none (l ∷ ls) = ap (λ x. l ∷ x) (append_none ls)

-- A manager is declared no more.
module _ (rm : Name) (clock : ℕ) (r : Up) (sh : SharedState) (a b : Shown) where
  forgets_is : (s : Shared) (n : Node) → UpRepresents clock r n → IsShared sh s → first_of ((service (ForgetRm rm)).refused_before_reading s n) None ≡ refused_forgetting rm r.declared r.tm.table
  forgets_is s n h share = first_end (refused_forgetting rm n.volatile.declared n.volatile.branches) ∙ (λ i. refused_forgetting rm (h.declared i) (branches_are clock r sh s n h share i))

  pub forget_refuses : (l : Line) → IsUp r → Since a b → Emits a (l ∷ []) b → ((s : Said) → line_said l s ≡ s) → is_served l ≡ true → refused_forgetting rm r.declared r.tm.table ≡ Some l → DoesRequest {T = Unit {0}} (Ok tt) (ForgetRm rm) clock r r sh sh a b
  forget_refuses l up since shows quiet served refused = refuses (ForgetRm rm) clock r sh a b l up since shows quiet (λ s. refl) (λ refusal e. absurd (no_refusal refusal e)) (λ e. served) (λ s n h share kept. forgets_is s n h share ∙ refused)

  pub forget_serves : KeepsNodes → IsUp r → Since a b → Emits a (line.Normal ∷ []) b → refused_forgetting rm r.declared r.tm.table ≡ None → DoesRequest {T = Unit {0}} (Ok tt) (ForgetRm rm) clock r (with_declared (without_rm rm r.declared) r) sh sh a b
  forget_serves law up since shows none = looks (ForgetRm rm) clock r (without_rm rm r.declared) sh a b [] line.Normal up since shows tt (λ s. refl) (λ s. refl) (λ s. refl) refl refl (λ s n h share kept. (
    acted (Declares (without_rm rm r.declared)) n,
    record {
      allowed = forgets_is s n h share ∙ none;
      lines = refl;
      answer = refl;
      shared = refl;
      node = ap (λ (rms : List Name). acted (Declares (without_rm rm rms)) n) h.declared;
    },
    stands_declared law clock r (without_rm rm r.declared) n h,
  ))

-- How a branch stands is told.
module _ (who : Named) (clock : ℕ) (r : Up) (sh : SharedState) (a b : Shown) where
  pub dti_serves : IsUp r → Since a b → Emits a (line.NormalStanding (standing (known_at r.tm (serial_in who sh.labels r))) ∷ []) b → made_of who (name_of r) sh.labels ≡ None → DoesRequest {T = Unit {0}} (Ok tt) (GetDti who) clock r r sh sh a b
  dti_serves up since shows made = looks (GetDti who) clock r r.declared sh a b [] (line.NormalStanding (standing (known_at r.tm (serial_in who sh.labels r)))) up since shows tt (λ s. refl) (λ s. refl) (λ s. refl)
      (unrefused (GetDti who) who clock r sh a b refl (λ name l s. refl) made) refl (λ s n h share kept. (
        n,
        record {
          allowed = first_end (made_name s n who) ∙ made_name_is who clock r sh s n h share ∙ made;
          lines = refl;
          answer = ap (λ k. line.NormalStanding (standing k)) (known_is clock r sh s n h share who);
          shared = refl;
          node = refl;
        },
        h,
      ))

  pub dti_refuses : IsUp r → Since a b → Emits a (line.BadLabel ∷ []) b → made_of who (name_of r) sh.labels ≡ Some line.BadLabel → DoesRequest {T = Unit {0}} (Ok tt) (GetDti who) clock r r sh sh a b
  dti_refuses up since shows made = refuses (GetDti who) clock r sh a b line.BadLabel up since shows (λ s. refl) (λ s. refl) (λ refusal e. one_line line.BadLabel refusal (sym made ∙ sym said ∙ e)) (λ e. absurd (no_refusal line.BadLabel (sym e ∙ said ∙ made)))
      (λ s n h share kept. first_end (made_name s n who) ∙ made_name_is who clock r sh s n h share ∙ made)
    where
      said : refused_by_lines (said_shared sh) (node_up (name_of r)) (GetDti who) ≡ made_of who (name_of r) sh.labels
      said = by_lines (GetDti who) who clock r sh a b refl (λ name l s. refl)

      one_line : (x y : Line) → ◌≡◌ {A = Option Line} (Some x) (Some y) → x ≡ y
      one_line x y e = cc

-- The log is shown.
module _ (clock : ℕ) (r : Up) (sh : SharedState) (a b : Shown) where
  pub show_serves : (committed prepared free : ℕ) → IsUp r → Since a b → Emits a (line.NormalLog committed prepared free ∷ []) b → committed ≡ length (committed_of (records_in r.stored.units.log)) → prepared ≡ length (prepared_of (records_in r.stored.units.log))
      → free ≡ free_slots r.stored.units.log → DoesRequest {T = Unit {0}} (Ok tt) LmcpShow clock r r sh sh a b
  show_serves committed prepared free up since shows c p f = looks LmcpShow clock r r.declared sh a b [] (line.NormalLog committed prepared free) up since shows tt (λ s. refl) (λ s. refl) (λ s. refl) refl refl (λ s n h share kept. (
    n,
    record {
      allowed = refl;
      lines = refl;
      answer = ap (λ ss. line.NormalLog (length (committed_of (records_in ss))) (length (prepared_of (records_in ss))) (free_slots ss)) h.stands.kept.log ∙ sym (λ i. line.NormalLog (c i) (p i) (f i));
      shared = refl;
      node = refl;
    },
    h,
  ))

  pub dump_serves : (count : ℕ) → IsUp r → Since a b → Emits a (map log_line (slot_records 0 r.stored.units.log) ++ line.NormalCount count ∷ []) b → count ≡ length (records_in r.stored.units.log) → DoesRequest {T = Unit {0}} (Ok tt) LmcpDump clock r r sh sh a b
  dump_serves count up since shows is = looks LmcpDump clock r r.declared sh a b (map log_line (slot_records 0 r.stored.units.log)) (line.NormalCount count) up since shows
      (log_work (slot_records 0 r.stored.units.log)) (λ s. refl) (log_still (slot_records 0 r.stored.units.log)) (λ s. refl) refl refl (λ s n h share kept. (
        n,
        record {
          allowed = refl;
          lines = shown_lines (map log_line (slot_records 0 n.durable.log)) ∙ ap (λ ss. map log_line (slot_records 0 ss)) h.stands.kept.log;
          answer = ap (λ ss. line.NormalCount (length (records_in ss))) h.stands.kept.log ∙ sym (ap line.NormalCount is);
          shared = shown_shared (map log_line (slot_records 0 n.durable.log)) s;
          node = shown_node (map log_line (slot_records 0 n.durable.log)) n;
        },
        h,
      ))
