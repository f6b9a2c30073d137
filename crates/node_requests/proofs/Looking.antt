-- Statements that change nothing but which resource managers are declared, and use no disk: what they show, and that their node is the world's still.
use Rattle.std.proofs.Common.{◌≡◌, ◌⊎◌, inl, inr, ℕ, ◌≤◌, List, [], ◌∷◌, ◌++◌, Bool, true, false, Option, Some, None, Ok, map, refl, ◌∙◌, ap, sym, subst, arith}
use Rattle.std.specs.List.{AllByRecursion}
use Rattle.emitter_model.specs.commit_protocol.Messages.{LogRecord, Name}
use Rattle.emitter_model.specs.Emitting.{Emits, Shown, Since}
use Rattle.emitter_model.specs.transcript_model.Lines as line
use Rattle.emitter_model.specs.transcript_model.Lines.{Line}
use Rattle.script_lang.specs.script_model.Statements.{Request}
use Rattle.file_requests.specs.run_said.Said.{Said, line_said, lines_said, refused_by_lines, request_said}
use Rattle.file_requests.specs.said_steps.Answers.{is_served}
use Rattle.world_laws.specs.run_model.Operations.{first_of}
use Rattle.world_laws.specs.run_model.World.{Declares, Node, Shared, acted}
use Rattle.world_laws.specs.run_model.Answers.{log_line, owed_line, service, shown_line}
use Rattle.world_laws.specs.run_model.Steps.{lines_of_rows, node_after_rows, shared_after_rows}
use Rattle.world_laws.specs.Nodes.{IsKeptNode}
use Rattle.node_table.specs.recovery_units.Laws.{KeepsNodes}
use Rattle.run_shared.specs.Sharing.{IsShared, SharedState}
use Rattle.node_table.specs.Standing.{IsUp, Up, UpRepresents}
use Rattle.node_table.specs.Telling.{IsOfWork}
use Rattle.node_requests.specs.Requests.{DoesRequest, node_up, said_up}
use Rattle.node_requests.specs.Running.{name_of}
use Rattle.file_requests.specs.node_standing.Telling.{said_shared}

-- What such a statement is at a node of the world: nothing refuses it, it shows these lines and this answer, shares nothing new, and leaves the node so that these
-- managers are declared.
pub record Looks (request : Request) (s : Shared) (n m : Node) (ls : List Line) (l : Line) : Type 0 where
  pub allowed : first_of ((service request).refused_before_reading s n) ((service request).refused_after_reading s n) ≡ None
  pub lines : lines_of_rows ((service request).rows s n) ≡ ls
  pub answer : (service request).answer s n ≡ l
  pub shared : shared_after_rows ((service request).rows s n) s ≡ s
  pub node : node_after_rows ((service request).rows s n) n ≡ m

-- managers are declared, and nothing else has changed
abbrev pub with_declared : List Name → Up → Up
with_declared rms r = record r { declared = rms }

pub stands_declared : KeepsNodes → (clock : ℕ) (r : Up) (rms : List Name) (n : Node) → UpRepresents clock r n → UpRepresents clock (with_declared rms r) (acted (Declares rms) n)
stands_declared law clock r rms n h =
    let k = h.stands in
    record {
      stands = record {
        kept = law.stays r.stored.units r.stored.volume n (acted (Declares rms) n) k.kept refl refl refl refl refl refl;
        table = k.table;
        clock_is = k.clock_is;
        doubt = k.doubt;
        names = k.names;
        up = k.up;
        was_up = k.was_up;
        under_way = k.under_way;
      };
      drawn = h.drawn;
      declared = refl;
      preparation = h.preparation;
    }

module _ (request : Request) (clock : ℕ) (r : Up) (rms : List Name) (sh : SharedState) (a b : Shown) (ls : List Line) (l : Line) where
  pub looks : IsUp r → Since a b → Emits a (ls ++ l ∷ []) b → AllByRecursion IsOfWork ls → ((s : Said) → line_said l s ≡ s) → ((s : Said) → lines_said ls s ≡ s) → ((s : Said) → request_said (name_of r) request l s ≡ s)
      → refused_by_lines (said_shared sh) (node_up (name_of r)) request ≡ None → is_served l ≡ true
      → ((s : Shared) (n : Node) → UpRepresents clock r n → IsShared sh s → IsKeptNode s n → (m : Node) × Looks request s n m ls l × UpRepresents clock (with_declared rms r) m) → DoesRequest {T = Unit {0}} (Ok tt) request clock r (with_declared rms r) sh sh a b
  looks up since shows work quiet still said unrefused served here = record {
    keeps = record {
      up = record { follows = up.follows; within = up.within };
      goes = record { size = refl; calls = refl; faults = λ c. omega arith; stops = λ c. omega arith; counted = λ c. c; told = refl };
      cause = tt;
      pool = refl;
      node = refl;
      boot = refl;
      drawn = (omega arith, omega arith);
      moved = record { moment = omega arith; end = omega arith };
      since = since;
    };
    uses = tt;
    leaves = λ refusal e. refl;
    says = record {
      lines = ls;
      answer = l;
      emits = shows;
      work = work;
      still = quiet;
      refused = λ refusal q. absurd (let z : ◌≡◌ {A = Option Line} None (Some refusal) = sym unrefused ∙ q in (let f : ⊥ = cc in f));
      others = λ none. served;
      says = said (lines_said ls (said_up (name_of r) sh)) ∙ still (said_up (name_of r) sh);
    };
    serves = λ s n stands share kept. (let w = here s n stands share kept in inr (record {
      allowed = w.1.allowed;
      shows = subst (λ x. Emits a (x ++ (service request).answer s n ∷ []) b) (sym w.1.lines) (subst (λ x. Emits a (ls ++ x ∷ []) b) (sym w.1.answer) shows);
      shared = subst (IsShared sh) (sym w.1.shared) share;
      node = subst (UpRepresents clock (with_declared rms r)) (sym w.1.node) w.2;
    }));
  }

-- Lines of events that are owed, and of the log, are of work, and say nothing.

pub owed_work : (rm : Name) (rs : List LogRecord) → AllByRecursion IsOfWork (map (owed_line rm) rs)
owed_work rm [] = tt
owed_work rm (r ∷ rs) = (refl, owed_work rm rs)

pub owed_still : (rm : Name) (rs : List LogRecord) (s : Said) → lines_said (map (owed_line rm) rs) s ≡ s
owed_still rm [] s = refl
owed_still rm (r ∷ rs) s = owed_still rm rs s

pub log_work : (es : List (ℕ × LogRecord)) → AllByRecursion IsOfWork (map log_line es)
log_work [] = tt
log_work (e ∷ es) = (refl, log_work es)

pub log_still : (es : List (ℕ × LogRecord)) (s : Said) → lines_said (map log_line es) s ≡ s
log_still [] s = refl
log_still (e ∷ es) s = log_still es s

-- Rows that show a line each, and do nothing.

pub shown_lines : (ls : List Line) → lines_of_rows (map shown_line ls) ≡ ls
shown_lines [] = refl
shown_lines (l ∷ ls) = ap (λ x. l ∷ x) (shown_lines ls)

pub shown_shared : (ls : List Line) (s : Shared) → shared_after_rows (map shown_line ls) s ≡ s
shown_shared [] s = refl
shown_shared (l ∷ ls) s = shown_shared ls s

pub shown_node : (ls : List Line) (n : Node) → node_after_rows (map shown_line ls) n ≡ n
shown_node [] n = refl
shown_node (l ∷ ls) n = shown_node ls n
