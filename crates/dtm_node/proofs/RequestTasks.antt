-- A request that a node has to be up for.
use Rattle.std.proofs.Common.{◌≡◌, inl, inr, ℕ, List, [], ◌∷◌, ◌++◌, Bool, true, false, Option, Some, None, Ok, Err, not, is_some, refl, ◌∙◌, ap, sym, subst, append_assoc, arith}
use Rattle.std.specs.Prelude.{◌||◌, ◌&&◌}
use Rattle.block_disk.specs.Disk.{CallLog, DiskState}
use Rattle.careful_write.specs.declared.down.Down.{Down}
use Rattle.emitter_model.specs.Emitting.{Emits, Shown}
use Rattle.emitter_model.specs.transcript_model.Lines as line
use Rattle.emitter_model.specs.transcript_model.Lines.{Cause, Line}
use Rattle.emitter_model.specs.transcript_model.Outside.{Rose}
use Rattle.emitter_model.proofs.EmittingLemmas.{emits_on}
use Rattle.script_lang.specs.script_model.Statements.{AbortTrans, AckEvent, AddBranch, Backup, Boot, Clock, Crash, Create, DeclareRm, Direct, Dump, DumpImages, DumpJournal, EndBranch, EndTrans, ForgetRm, Fuse, GetDti, Init, Inquire, JoinRm, LmcpDump, LmcpShow, Records, Recover, Request, SetFile, StartBranch, StartTrans}
use Rattle.said_steps.specs.run_said.Said.{Said, SaidShared, line_said, lines_said, refused_by_lines, request_said}
use Rattle.said_steps.specs.Answers.{is_broken, is_lacking, is_served, may_answer}
use Rattle.said_steps.proofs.Refusals.{refusal_of_lines}
use Rattle.said_steps.specs.Own.{IsOwn}
use Rattle.world_laws.specs.run_model.Operations.{first_of, refused_if}
use Rattle.world_laws.specs.run_model.World.{Node, Shared}
use Rattle.world_laws.specs.run_model.Answers.{Restarts, Serves, service, touches}
use Rattle.world_laws.specs.run_model.Steps.{count_of}
use Rattle.run_shared.specs.Sharing.{IsShared, SharedState}
use Rattle.node_requests.specs.node_table.Serving.{DoesService, service_at}
use Rattle.node_requests.specs.node_table.Standing.{Up, UpRepresents}
use Rattle.dtm_node.specs.Causes.{cause_of}
use Rattle.node_requests.specs.node_standing.Keeping.{Performs, PerformsRequest}
use Rattle.node_requests.specs.Requests.{DoesRequest, IsForUp, LacksMemory, node_up, said_up}
use Rattle.node_requests.specs.Running.{name_of}
use Rattle.node_requests.specs.node_standing.Standing.{IsDown, NodeState, RepresentsNode, counts_of, disk_of}
use Rattle.node_requests.specs.node_standing.Telling.{TellsTask, calls_after_task, said_alone, said_shared}
use Rattle.dtm_node.proofs.Answered.{calm_answers, fell_answers, may_of, refused_answers, refused_unbroken, served_other, served_unbroken}
use Rattle.dtm_node.proofs.Held.{holds_is}
use Rattle.dtm_node.proofs.Coming.{down_performs}
use Rattle.dtm_node.proofs.EventTasks.{passes_of}
use Rattle.dtm_node.proofs.Performing.{cut_performs, kept_fallen, kept_up, lacking_performs, refused_performs, rose_of, served_performs}
use Rattle.dtm_node.proofs.Requested.{rows_rest}
use Rattle.node_requests.proofs.SaysLemmas.{all_on, alone_down, calm_not_down, down_behind, lines_on, own_calm}
use Rattle.dtm_node.proofs.Stepping.{IsPlain}

-- What is so of each of them, at a node that is down as well.
pub record IsUpRequest (request : Request) : Type 0 where
  pub plain : IsPlain (service request) false
  pub while_down : (service request).while_down ≡ false
  pub calls : (ends : Bool) (l : Line) (stops : ℕ) (calls : CallLog) → calls_after_task (Serves request) ends l stops calls ≡ calls
  pub no_fuse : (writes choice : ℕ) → Serves request ≡ Serves (Fuse writes choice) → ⊥
  pub down : (s : SaidShared) (name : List ℕ) (unmade : Bool) → refused_by_lines s (record { name = name; up = false; unmade = unmade }) request ≡ Some line.NodeDown
  pub broken : (name : List ℕ) (cause : Cause) (s : Said) → request_said name request (line.Broken cause) s ≡ s
  pub refused_down : (name : List ℕ) (s : Said) → request_said name request line.NodeDown s ≡ s
  pub no_crash : Serves request ≡ Serves Crash → ⊥
  pub may : (answer : Line) → is_served answer ≡ true → may_answer request answer ≡ true
  pub may_break : (cause : Cause) → touches (service request) ≡ true → may_answer request (line.Broken cause) ≡ true

second_of : (a b : Bool) → b ≡ true → (a || b) ≡ true
second_of true b e = refl
second_of false b e = e

pub request_is : (request : Request) → IsForUp request → IsUpRequest request
request_is (Init slots journal) h = absurd h
request_is Boot h = absurd h
request_is (Fuse writes choice) h = absurd h
request_is Crash h = absurd h
request_is (Clock now) h = absurd h
request_is (Create file bucket size form) h = record { plain = record { powers = refl; occupies = refl; closing = refl; closing_lines = λ n. refl; goes = refl }; while_down = refl; calls = λ ends l stops calls. refl; no_fuse = λ w c q. (let f : ⊥ = cc in f); down = λ s name unmade. refl; broken = λ name cause s. refl; refused_down = λ name s. refl; no_crash = λ q. (let f : ⊥ = cc in f); may = λ answer e. may_of (is_served answer) (is_broken answer && touches (service (Create file bucket size form))) e; may_break = λ cause t. t }
request_is (SetFile file setting) h = record { plain = record { powers = refl; occupies = refl; closing = refl; closing_lines = λ n. refl; goes = refl }; while_down = refl; calls = λ ends l stops calls. refl; no_fuse = λ w c q. (let f : ⊥ = cc in f); down = λ s name unmade. refl; broken = λ name cause s. refl; refused_down = λ name s. refl; no_crash = λ q. (let f : ⊥ = cc in f); may = λ answer e. may_of (is_served answer) (is_broken answer && touches (service (SetFile file setting))) e; may_break = λ cause t. t }
request_is (StartTrans label seconds) h = record { plain = record { powers = refl; occupies = refl; closing = refl; closing_lines = λ n. refl; goes = refl }; while_down = refl; calls = λ ends l stops calls. refl; no_fuse = λ w c q. (let f : ⊥ = cc in f); down = λ s name unmade. refl; broken = λ name cause s. refl; refused_down = λ name s. refl; no_crash = λ q. (let f : ⊥ = cc in f); may = λ answer e. may_of (is_served answer) (is_broken answer && touches (service (StartTrans label seconds))) e; may_break = λ cause t. t }
request_is (AddBranch label other new) h = record { plain = record { powers = refl; occupies = refl; closing = refl; closing_lines = λ n. refl; goes = refl }; while_down = refl; calls = λ ends l stops calls. refl; no_fuse = λ w c q. (let f : ⊥ = cc in f); down = λ s name unmade. refl; broken = λ name cause s. refl; refused_down = λ name s. refl; no_crash = λ q. (let f : ⊥ = cc in f); may = λ answer e. may_of (is_served answer) (is_broken answer && touches (service (AddBranch label other new))) e; may_break = λ cause t. t }
request_is (StartBranch label) h = record { plain = record { powers = refl; occupies = refl; closing = refl; closing_lines = λ n. refl; goes = refl }; while_down = refl; calls = λ ends l stops calls. refl; no_fuse = λ w c q. (let f : ⊥ = cc in f); down = λ s name unmade. refl; broken = λ name cause s. refl; refused_down = λ name s. refl; no_crash = λ q. (let f : ⊥ = cc in f); may = λ answer e. may_of (is_served answer) (is_broken answer && touches (service (StartBranch label))) e; may_break = λ cause t. t }
request_is (Records label file op) h = record { plain = record { powers = refl; occupies = refl; closing = refl; closing_lines = λ n. refl; goes = refl }; while_down = refl; calls = λ ends l stops calls. refl; no_fuse = λ w c q. (let f : ⊥ = cc in f); down = λ s name unmade. refl; broken = λ name cause s. refl; refused_down = λ name s. refl; no_crash = λ q. (let f : ⊥ = cc in f); may = λ answer e. may_of (is_served answer) (is_broken answer && touches (service (Records label file op))) e; may_break = λ cause t. t }
request_is (Direct file op) h = record { plain = record { powers = refl; occupies = refl; closing = refl; closing_lines = λ n. refl; goes = refl }; while_down = refl; calls = λ ends l stops calls. refl; no_fuse = λ w c q. (let f : ⊥ = cc in f); down = λ s name unmade. refl; broken = λ name cause s. refl; refused_down = λ name s. refl; no_crash = λ q. (let f : ⊥ = cc in f); may = λ answer e. may_of (is_served answer) (is_broken answer && touches (service (Direct file op))) e; may_break = λ cause t. t }
request_is (EndBranch label) h = record { plain = record { powers = refl; occupies = refl; closing = refl; closing_lines = λ n. refl; goes = refl }; while_down = refl; calls = λ ends l stops calls. refl; no_fuse = λ w c q. (let f : ⊥ = cc in f); down = λ s name unmade. refl; broken = λ name cause s. refl; refused_down = λ name s. refl; no_crash = λ q. (let f : ⊥ = cc in f); may = λ answer e. may_of (is_served answer) (is_broken answer && touches (service (EndBranch label))) e; may_break = λ cause t. t }
request_is (EndTrans label) h = record { plain = record { powers = refl; occupies = refl; closing = refl; closing_lines = λ n. refl; goes = refl }; while_down = refl; calls = λ ends l stops calls. refl; no_fuse = λ w c q. (let f : ⊥ = cc in f); down = λ s name unmade. refl; broken = λ name cause s. refl; refused_down = λ name s. refl; no_crash = λ q. (let f : ⊥ = cc in f); may = λ answer e. may_of (is_served answer) (is_broken answer && touches (service (EndTrans label))) e; may_break = λ cause t. t }
request_is (AbortTrans label) h = record { plain = record { powers = refl; occupies = refl; closing = refl; closing_lines = λ n. refl; goes = refl }; while_down = refl; calls = λ ends l stops calls. refl; no_fuse = λ w c q. (let f : ⊥ = cc in f); down = λ s name unmade. refl; broken = λ name cause s. refl; refused_down = λ name s. refl; no_crash = λ q. (let f : ⊥ = cc in f); may = λ answer e. may_of (is_served answer) (is_broken answer && touches (service (AbortTrans label))) e; may_break = λ cause t. t }
request_is (Inquire who) h = record { plain = record { powers = refl; occupies = refl; closing = refl; closing_lines = λ n. refl; goes = refl }; while_down = refl; calls = λ ends l stops calls. refl; no_fuse = λ w c q. (let f : ⊥ = cc in f); down = λ s name unmade. refl; broken = λ name cause s. refl; refused_down = λ name s. refl; no_crash = λ q. (let f : ⊥ = cc in f); may = λ answer e. may_of (is_served answer) (is_broken answer && touches (service (Inquire who))) e; may_break = λ cause t. t }
request_is (DeclareRm rm) h = record { plain = record { powers = refl; occupies = refl; closing = refl; closing_lines = λ n. refl; goes = refl }; while_down = refl; calls = λ ends l stops calls. refl; no_fuse = λ w c q. (let f : ⊥ = cc in f); down = λ s name unmade. refl; broken = λ name cause s. refl; refused_down = λ name s. refl; no_crash = λ q. (let f : ⊥ = cc in f); may = λ answer e. may_of (is_served answer) (is_broken answer && touches (service (DeclareRm rm))) e; may_break = λ cause t. t }
request_is (JoinRm label rm) h = record { plain = record { powers = refl; occupies = refl; closing = refl; closing_lines = λ n. refl; goes = refl }; while_down = refl; calls = λ ends l stops calls. refl; no_fuse = λ w c q. (let f : ⊥ = cc in f); down = λ s name unmade. refl; broken = λ name cause s. refl; refused_down = λ name s. refl; no_crash = λ q. (let f : ⊥ = cc in f); may = λ answer e. may_of (is_served answer) (is_broken answer && touches (service (JoinRm label rm))) e; may_break = λ cause t. t }
request_is (AckEvent who rm reply) h = record { plain = record { powers = refl; occupies = refl; closing = refl; closing_lines = λ n. refl; goes = refl }; while_down = refl; calls = λ ends l stops calls. refl; no_fuse = λ w c q. (let f : ⊥ = cc in f); down = λ s name unmade. refl; broken = λ name cause s. refl; refused_down = λ name s. refl; no_crash = λ q. (let f : ⊥ = cc in f); may = λ answer e. may_of (is_served answer) (is_broken answer && touches (service (AckEvent who rm reply))) e; may_break = λ cause t. t }
request_is (ForgetRm rm) h = record { plain = record { powers = refl; occupies = refl; closing = refl; closing_lines = λ n. refl; goes = refl }; while_down = refl; calls = λ ends l stops calls. refl; no_fuse = λ w c q. (let f : ⊥ = cc in f); down = λ s name unmade. refl; broken = λ name cause s. refl; refused_down = λ name s. refl; no_crash = λ q. (let f : ⊥ = cc in f); may = λ answer e. may_of (is_served answer) (is_broken answer && touches (service (ForgetRm rm))) e; may_break = λ cause t. t }
request_is (GetDti who) h = record { plain = record { powers = refl; occupies = refl; closing = refl; closing_lines = λ n. refl; goes = refl }; while_down = refl; calls = λ ends l stops calls. refl; no_fuse = λ w c q. (let f : ⊥ = cc in f); down = λ s name unmade. refl; broken = λ name cause s. refl; refused_down = λ name s. refl; no_crash = λ q. (let f : ⊥ = cc in f); may = λ answer e. may_of (is_served answer) (is_broken answer && touches (service (GetDti who))) e; may_break = λ cause t. t }
request_is LmcpShow h = record { plain = record { powers = refl; occupies = refl; closing = refl; closing_lines = λ n. refl; goes = refl }; while_down = refl; calls = λ ends l stops calls. refl; no_fuse = λ w c q. (let f : ⊥ = cc in f); down = λ s name unmade. refl; broken = λ name cause s. refl; refused_down = λ name s. refl; no_crash = λ q. (let f : ⊥ = cc in f); may = λ answer e. may_of (is_served answer) (is_broken answer && touches (service LmcpShow)) e; may_break = λ cause t. t }
request_is LmcpDump h = record { plain = record { powers = refl; occupies = refl; closing = refl; closing_lines = λ n. refl; goes = refl }; while_down = refl; calls = λ ends l stops calls. refl; no_fuse = λ w c q. (let f : ⊥ = cc in f); down = λ s name unmade. refl; broken = λ name cause s. refl; refused_down = λ name s. refl; no_crash = λ q. (let f : ⊥ = cc in f); may = λ answer e. may_of (is_served answer) (is_broken answer && touches (service LmcpDump)) e; may_break = λ cause t. t }
request_is (Dump file) h = record { plain = record { powers = refl; occupies = refl; closing = refl; closing_lines = λ n. refl; goes = refl }; while_down = refl; calls = λ ends l stops calls. refl; no_fuse = λ w c q. (let f : ⊥ = cc in f); down = λ s name unmade. refl; broken = λ name cause s. refl; refused_down = λ name s. refl; no_crash = λ q. (let f : ⊥ = cc in f); may = λ answer e. may_of (is_served answer) (is_broken answer && touches (service (Dump file))) e; may_break = λ cause t. t }
request_is DumpJournal h = record { plain = record { powers = refl; occupies = refl; closing = refl; closing_lines = λ n. refl; goes = refl }; while_down = refl; calls = λ ends l stops calls. refl; no_fuse = λ w c q. (let f : ⊥ = cc in f); down = λ s name unmade. refl; broken = λ name cause s. refl; refused_down = λ name s. refl; no_crash = λ q. (let f : ⊥ = cc in f); may = λ answer e. may_of (is_served answer) (is_broken answer && touches (service DumpJournal)) e; may_break = λ cause t. t }
request_is (DumpImages file side) h = record { plain = record { powers = refl; occupies = refl; closing = refl; closing_lines = λ n. refl; goes = refl }; while_down = refl; calls = λ ends l stops calls. refl; no_fuse = λ w c q. (let f : ⊥ = cc in f); down = λ s name unmade. refl; broken = λ name cause s. refl; refused_down = λ name s. refl; no_crash = λ q. (let f : ⊥ = cc in f); may = λ answer e. may_of (is_served answer) (is_broken answer && touches (service (DumpImages file side))) e; may_break = λ cause t. t }
request_is (Backup file) h = record { plain = record { powers = refl; occupies = refl; closing = refl; closing_lines = λ n. refl; goes = refl }; while_down = refl; calls = λ ends l stops calls. refl; no_fuse = λ w c q. (let f : ⊥ = cc in f); down = λ s name unmade. refl; broken = λ name cause s. refl; refused_down = λ name s. refl; no_crash = λ q. (let f : ⊥ = cc in f); may = λ answer e. may_of (is_served answer) (is_broken answer && touches (service (Backup file))) e; may_break = λ cause t. t }
request_is (Recover file way) h = record { plain = record { powers = refl; occupies = refl; closing = refl; closing_lines = λ n. refl; goes = refl }; while_down = refl; calls = λ ends l stops calls. refl; no_fuse = λ w c q. (let f : ⊥ = cc in f); down = λ s name unmade. refl; broken = λ name cause s. refl; refused_down = λ name s. refl; no_crash = λ q. (let f : ⊥ = cc in f); may = λ answer e. second_of (is_lacking answer) (is_served answer || (is_broken answer && touches (service (Recover file way)))) (may_of (is_served answer) (is_broken answer && touches (service (Recover file way))) e); may_break = λ cause t. t }

no_restart : (request : Request) → Serves request ≡ Restarts → ⊥
no_restart request q = let f : ⊥ = cc in f

module _ (request : Request) (asks : IsForUp request) (clock : ℕ) (old new : Up) (before after : SharedState) (a b : Shown) where
  -- It was answered,
  pub request_tells : (d : DoesRequest {T = Unit {0}} (Ok tt) request clock old new before after a b) → TellsTask (Serves request) true true (kept_up (name_of old) clock old) before a b (kept_up (name_of old) clock new) after
  request_tells d =
      let is = request_is request asks in
      let says = d.says in
      record {
        lines = says.lines;
        answer = says.answer;
        emits = says.emits;
        own = own_calm (name_of old) says.lines says.work;
        refused = λ refusal r. (let k = says.refused refusal r in (k.0, k.1, refl, d.leaves refusal r));
        others = λ none. served_other says.answer (says.others none);
        says = says.says;
        calls = d.keeps.goes.calls ∙ sym (is.calls true says.answer (disk_of old).stops (disk_of old).calls);
        failures = λ cause i counted. absurd (calm_not_down says.lines (name_of old) cause says.work i);
        passes = passes_of (disk_of old) (disk_of new) d.keeps.goes;
        quiet = says.still;
        fused = λ writes choice q. absurd (is.no_fuse writes choice q);
        boots = λ q. absurd (no_restart request q);
        answered = calm_answers (Serves request) (name_of old) (refused_by_lines (said_shared before) (node_up (name_of old)) request) says.lines says.answer true says.work (unbroken (refused_by_lines (said_shared before) (node_up (name_of old)) request) refl) (λ q none. is.no_crash q) (λ none. is.may says.answer (says.others none));
        held = λ down unused. (let f : ⊥ = cc in absurd f);
      }
    where
      unbroken : (o : Option Line) → refused_by_lines (said_shared before) (node_up (name_of old)) request ≡ o → is_broken d.says.answer ≡ false
      unbroken None e = served_unbroken d.says.answer (d.says.others e)
      unbroken (Some refusal) e = ap is_broken (d.says.refused refusal e).1 ∙ refused_unbroken refusal (refusal_of_lines (said_shared before) (node_up (name_of old)) request refusal e)

  -- or memory was lacking, and that was answered;
  pub request_lacks : (c : Shown) → LacksMemory request clock old new before after a b → Emits b (line.NoMemory ∷ []) c → TellsTask (Serves request) true true (kept_up (name_of old) clock old) before a c (kept_up (name_of old) clock new) after
  request_lacks c d shows =
      let is = request_is request asks in
      record {
        lines = [];
        answer = line.NoMemory;
        emits = subst (λ x. Emits x (line.NoMemory ∷ []) c) d.shown shows;
        own = tt;
        refused = λ refusal r. absurd (let q : None ≡ Some refusal = sym d.unrefused ∙ r in (let f : ⊥ = cc in f));
        others = λ none. refl;
        says = d.still (said_up (name_of old) before) ∙ ap (said_up (name_of old)) (sym d.shared);
        calls = d.keeps.goes.calls ∙ sym (is.calls true line.NoMemory (disk_of old).stops (disk_of old).calls);
        failures = λ cause i counted. absurd i;
        passes = passes_of (disk_of old) (disk_of new) d.keeps.goes;
        quiet = λ s. refl;
        fused = λ writes choice q. absurd (is.no_fuse writes choice q);
        boots = λ q. absurd (no_restart request q);
        answered = calm_answers (Serves request) (name_of old) (refused_by_lines (said_shared before) (node_up (name_of old)) request) [] line.NoMemory true tt refl (λ q none. is.no_crash q) (λ none. d.may);
        held = λ down unused. (let f : ⊥ = cc in absurd f);
      }

  -- or the disk went down in it, which was shown and answered;
  pub request_fails : (e : Down) (c : Shown) (d : DoesRequest {T = Unit {0}} (Err e) request clock old new before after a b) → Emits b (line.Down (name_of old) (cause_of e) ∷ line.Broken (cause_of e) ∷ []) c
      → TellsTask (Serves request) true true (kept_up (name_of old) clock old) before a c (kept_fallen (name_of old) clock (disk_of new)) after
  request_fails e c d shows =
      let is = request_is request asks in
      let says = d.says in
      let name = name_of old in
      record {
        lines = says.lines ++ line.Down name (cause_of e) ∷ [];
        answer = line.Broken (cause_of e);
        emits = subst (λ ls. Emits a ls c) (sym (append_assoc says.lines (line.Down name (cause_of e) ∷ []) (line.Broken (cause_of e) ∷ []))) (emits_on a b c says.lines (line.Down name (cause_of e) ∷ line.Broken (cause_of e) ∷ []) says.emits shows);
        own = all_on (IsOwn name) says.lines (line.Down name (cause_of e) ∷ []) (own_calm name says.lines says.work) (refl, tt);
        refused = λ refusal r. absurd (says.refused refusal r);
        others = λ none. refl;
        says = is.broken name (cause_of e) (lines_said (says.lines ++ line.Down name (cause_of e) ∷ []) (said_up name before)) ∙ lines_on says.lines (line.Down name (cause_of e) ∷ []) (said_up name before) ∙ ap (line_said (line.Down name (cause_of e))) says.says
            ∙ alone_down (record { name = name; up = true; unmade = false }) (said_shared after) (cause_of e);
        calls = d.keeps.goes.calls ∙ sym (is.calls true (line.Broken (cause_of e)) (disk_of old).stops (disk_of old).calls);
        failures = λ cause i counted. subst (λ x. Rose (count_of x (counts_of (disk_of old))) (count_of x (counts_of (disk_of new)))) (sym (down_behind says.lines name name cause (cause_of e) says.work i)) (rose_of e (disk_of old) (disk_of new) d.keeps.cause counted);
        passes = passes_of (disk_of old) (disk_of new) d.keeps.goes;
        quiet = λ s. refl;
        fused = λ writes choice q. absurd (is.no_fuse writes choice q);
        boots = λ q. absurd (no_restart request q);
        answered = fell_answers (Serves request) name (refused_by_lines (said_shared before) (node_up name) request) says.lines (cause_of e) says.work is.no_crash (λ none. is.may_break (cause_of e) d.uses);
        held = λ down unused. (let f : ⊥ = cc in absurd f);
      }

  module _ (told : (n : Node) → UpRepresents clock old n → is_some (disk_of old).seen ≡ true) where
    -- each is a step of the node of the world.
    pub request_performs : DoesRequest {T = Unit {0}} (Ok tt) request clock old new before after a b → PerformsRequest request (kept_up (name_of old) clock old) before a b (kept_up (name_of old) clock new) after
    request_performs d = λ log n s h share kept promised. go log n s h (d.serves s n h.place share kept)
      where
        go : (log : CallLog) (n : Node) (s : Shared) → RepresentsNode log (kept_up (name_of old) clock old) n → DoesService {T = Unit {0}} (Ok tt) (service_at (service request) s n) s n a b (UpRepresents clock new n × IsShared after s) (IsShared after) (UpRepresents clock new) (disk_of new)
            → (ends : Bool) × Performs log s n (counts_of (disk_of old)) (Serves request) true ends a b (kept_up (name_of old) clock new) after
        go log n s h (inl refused) = (true, refused_performs log s n (name_of old) clock old h refl (told n h.place) (Serves request) false (request_is request asks).plain new d.keeps.goes d.keeps.node after a b refused)
        go log n s h (inr served) = (false, served_performs log s n (name_of old) clock old h refl (told n h.place) (Serves request) false (request_is request asks).plain new d.keeps.goes d.keeps.node after (rows_rest request asks s n) a b served)

    pub request_starves : (c : Shown) → LacksMemory request clock old new before after a b → Emits b (line.NoMemory ∷ []) c → PerformsRequest request (kept_up (name_of old) clock old) before a c (kept_up (name_of old) clock new) after
    request_starves c d shows = λ log n s h share kept promised. (
      true,
      (let at = d.serves s n h.place share kept in
          lacking_performs log s n (name_of old) clock old h refl (told n h.place) (Serves request) false (request_is request asks).plain new d.keeps.goes d.keeps.node after a c at.0 (d.takes n) at.1 at.2 (subst (λ x. Emits x (line.NoMemory ∷ []) c) d.shown shows)),
    )

    pub request_breaks : (e : Down) (c : Shown) → DoesRequest {T = Unit {0}} (Err e) request clock old new before after a b → Emits b (line.Down (name_of old) (cause_of e) ∷ line.Broken (cause_of e) ∷ []) c
        → PerformsRequest request (kept_up (name_of old) clock old) before a c (kept_fallen (name_of old) clock (disk_of new)) after
    request_breaks e c d shows = λ log n s h share kept promised. (
      true,
      cut_performs log s n (name_of old) clock old h refl (told n h.place) (Serves request) false (request_is request asks).plain new d.keeps.goes d.keeps.node after (rows_rest request asks s n) e a b c d.keeps.cause d.uses (d.serves s n h.place share kept) true shows,
    )

-- A node that is down answers with that.
module _ (request : Request) (asks : IsForUp request) (name : List ℕ) (unmade : Bool) (clock : ℕ) (has_parts : Bool) (d : DiskState) (s : SharedState) (a b : Shown) (shows : Emits a (line.NodeDown ∷ []) b) where
  abbrev kept : NodeState
  kept = record { name = name; unmade = unmade; clock = clock; place = IsDown has_parts d }

  pub down_tells : TellsTask (Serves request) true true kept s a b kept s
  down_tells =
      let is = request_is request asks in
      record {
        lines = [];
        answer = line.NodeDown;
        emits = shows;
        own = tt;
        refused = λ refusal r. (let q : Some line.NodeDown ≡ Some refusal = sym (is.down (said_shared s) name unmade) ∙ r in (refl, (let z : line.NodeDown ≡ refusal = cc in z), refl, refl));
        others = λ none. absurd (let q : Some line.NodeDown ≡ None = sym (is.down (said_shared s) name unmade) ∙ none in (let f : ⊥ = cc in f));
        says = is.refused_down name (said_alone kept s);
        calls = sym (is.calls true line.NodeDown d.stops d.calls);
        failures = λ cause i counted. absurd i;
        passes = record { size = refl; faults = λ c. omega arith; stops = λ c. omega arith; counted = λ c. c; told = refl };
        quiet = λ x. refl;
        fused = λ writes choice q. absurd (is.no_fuse writes choice q);
        boots = λ q. absurd (no_restart request q);
        answered = refused_answers (Serves request) name (refused_by_lines (said_shared s) (record { name = name; up = false; unmade = unmade }) request) line.NodeDown true (is.down (said_shared s) name unmade) refl;
        held = λ down unused. (refl, holds_is d d refl);
      }

  pub down_answers : PerformsRequest request kept s a b kept s
  down_answers = λ log n w h share kept_node promised. (
    true,
    down_performs (Serves request) false (request_is request asks).plain kept s a b
        (λ w n down. ap (λ (t : Bool). first_of (refused_if (not (t || (service request).while_down)) line.NodeDown) ((service request).refused_before_reading w n)) down
        ∙ ap (λ (t : Bool). first_of (refused_if (not t) line.NodeDown) ((service request).refused_before_reading w n)) (request_is request asks).while_down)
        (λ log n h. h.place.down) shows log n w h share kept_node promised,
  )
