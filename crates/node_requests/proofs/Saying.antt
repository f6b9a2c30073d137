-- What the lines of requests say.
use Rattle.std.proofs.Common.{◌≡◌, ℕ, List, [], ◌∷◌, ◌++◌, true, false, Option, Some, None, Result, Ok, Err, refl, ap, sym, ◌∙◌}
use Rattle.std.specs.List.{AllByRecursion}
use Rattle.careful_write.specs.declared.down.Down.{Down}
use Rattle.emitter_model.specs.Emitting.{Emits, Shown}
use Rattle.emitter_model.specs.transcript_model.Lines as line
use Rattle.emitter_model.specs.transcript_model.Lines.{Line}
use Rattle.script_lang.specs.script_model.Statements.{Request}
use Rattle.file_requests.specs.run_said.Said.{Said, line_said, lines_said, refused_by_lines, request_said}
use Rattle.file_requests.specs.said_steps.Answers.{is_served}
use Rattle.run_shared.specs.Sharing.{SharedState}
use Rattle.file_requests.specs.Replying.{IsQuiet, Replies, RepliesIf, ShowsQuietly}
use Rattle.node_table.specs.Telling.{IsOfWork}
use Rattle.node_requests.specs.Requests.{SaysRequest, node_up, said_up}
use Rattle.file_requests.specs.node_standing.Telling.{said_shared}

pub quiet_work : (l : Line) → IsQuiet l → IsOfWork l
quiet_work (line.Sent number m) h = let no : ⊥ = cc in absurd no
quiet_work (line.Down node cause) h = let no : ⊥ = cc in absurd no
quiet_work (line.Broken cause) h = let no : ⊥ = cc in absurd no
quiet_work (line.Crashed node) h = let no : ⊥ = cc in absurd no
quiet_work (line.Booted node boot) h = let no : ⊥ = cc in absurd no
quiet_work _ h = refl

pub quiet_still : (l : Line) → IsQuiet l → (said : Said) → line_said l said ≡ said
quiet_still (line.Sent number m) h said = let no : ⊥ = cc in absurd no
quiet_still (line.Down node cause) h said = let no : ⊥ = cc in absurd no
quiet_still (line.Broken cause) h said = let no : ⊥ = cc in absurd no
quiet_still (line.Crashed node) h said = let no : ⊥ = cc in absurd no
quiet_still (line.Booted node boot) h said = let no : ⊥ = cc in absurd no
quiet_still _ h said = refl

all_work : (ls : List Line) → AllByRecursion IsQuiet ls → AllByRecursion IsOfWork ls
all_work [] h = tt
all_work (l ∷ ls) h = (quiet_work l h.0, all_work ls h.1)

all_still : (ls : List Line) → AllByRecursion IsQuiet ls → (said : Said) → lines_said ls said ≡ said
all_still [] h said = refl
all_still (l ∷ ls) h said = ap (lines_said ls) (quiet_still l h.0 said) ∙ all_still ls h.1 said

no_refusal : (x : Line) → ◌≡◌ {A = Option Line} None (Some x) → ⊥
no_refusal x e = cc

-- a request whose answer says nothing of what nodes share
abbrev pub IsStillRequest : List ℕ → Request → Type 0
IsStillRequest name request = (answer : Line) (said : Said) → request_said name request answer said ≡ said

module _ (name : List ℕ) (request : Request) (s : SharedState) (a b : Shown) (still : IsStillRequest name request) where
  -- what was said before does not refuse it
  pub says_replies : {T : Type 0} (r : Result T Down) → refused_by_lines (said_shared s) (node_up name) request ≡ None → RepliesIf r a b → SaysRequest r name request s s a b
  says_replies (Ok v) none h = record {
    lines = h.lines;
    answer = h.answer;
    emits = h.shows;
    work = all_work h.lines h.quiet;
    still = quiet_still h.answer h.plain.0;
    refused = λ refusal e. absurd (no_refusal refusal (sym none ∙ e));
    others = λ e. h.plain.1;
    says = still h.answer (lines_said h.lines (said_up name s)) ∙ all_still h.lines h.quiet (said_up name s);
  }
  says_replies (Err d) none h = record {
    lines = h.lines;
    answer = line.Normal;
    emits = h.shows;
    work = all_work h.lines h.quiet;
    still = λ said. refl;
    refused = λ refusal e. absurd (no_refusal refusal (sym none ∙ e));
    others = λ e. tt;
    says = all_still h.lines h.quiet (said_up name s);
  }

  -- one answer alone, which refuses it
  pub says_refusal : {T : Type 0} (x : T) (l : Line) → IsQuiet l → Emits a (l ∷ []) b → ((refusal : Line) → refused_by_lines (said_shared s) (node_up name) request ≡ Some refusal → l ≡ refusal) → (refused_by_lines (said_shared s) (node_up name) request ≡ None → is_served l ≡ true)
      → SaysRequest {T = T} (Ok x) name request s s a b
  says_refusal x l quiet m by_lines others = record {
    lines = [];
    answer = l;
    emits = m;
    work = tt;
    still = quiet_still l quiet;
    refused = λ refusal e. (refl, by_lines refusal e);
    others = others;
    says = still l (said_up name s);
  }
