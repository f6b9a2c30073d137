-- A boot that ends its statement, by its lines and in the world.
use Rattle.std.proofs.Common.{◌≡◌, ℕ, List, [], ◌∷◌, ◌++◌, Bool, true, false, not, Option, None, if◌then◌else◌, refl, ◌∙◌, ap, sym, subst}
use Rattle.std.specs.Prelude.{◌||◌, ◌&&◌}
use Rattle.std.specs.List.{AllByRecursion}
use Rattle.block_disk.specs.Disk.{CallLog, DiskState, noted}
use Rattle.block_disk.specs.declared.disk.DiskCall.TheVariants as disk_call
use Rattle.emitter_model.specs.commit_protocol.World.{In}
use Rattle.emitter_model.specs.Emitting.{Emits, Shown}
use Rattle.emitter_model.specs.transcript_model.Lines as line
use Rattle.emitter_model.specs.transcript_model.Lines.{Cause, Line}
use Rattle.emitter_model.specs.transcript_model.Outside.{Rose}
use Rattle.script_lang.specs.script_model.Statements as said
use Rattle.script_lang.specs.script_model.Statements.{Boot}
use Rattle.said_steps.specs.run_said.Said.{Said, is_of_lines, line_said, lines_said, request_said, with_use}
use Rattle.said_steps.specs.Answers.{ends_boot as ends_boot_by}
use Rattle.said_steps.specs.Calls.{is_boot_refusal, shows_boot}
use Rattle.said_steps.specs.Own.{IsOwn}
use Rattle.world_laws.specs.run_model.Answers.{Restarts, Serves, Task, refused_before_reading, task_service}
use Rattle.world_laws.specs.run_model.Operations.{first_of, refused_if}
use Rattle.world_laws.specs.run_model.Steps.{count_of}
use Rattle.world_laws.specs.run_model.World.{Node, Shared}
use Rattle.world_laws.specs.Nodes.{IsKeptNode}
use Rattle.recovery_units.specs.Uses.{IsCounted}
use Rattle.run_shared.specs.Sharing.{IsShared, SharedState}
use Rattle.node_requests.specs.node_table.Telling.{IsOfWork, wire_after}
use Rattle.emitter_model.specs.commit_protocol.Messages.{Message}
use Rattle.dtm_node.specs.Boots.{IsBootRefusal}
use Rattle.node_requests.specs.node_standing.Keeping.{IsPromised, Performs}
use Rattle.dtm_node.specs.Opening.{EndsBoot, EndsTask, boots_node, kept_down, used}
use Rattle.node_requests.specs.node_standing.Standing.{RepresentsNode, counts_of}
use Rattle.node_requests.specs.node_standing.Holding.{HoldsAs}
use Rattle.node_requests.specs.node_standing.Telling.{AnswersTask, DiskAdvancesOverCalls, TellsTask, may_answer_task, powered_task, said_alone, said_shared}
use Rattle.dtm_node.proofs.Answered.{boot_may, calm_answers, fell_answers, restart_may}
use Rattle.dtm_node.proofs.BootSteps.{IsBoot, boot_is, in_use, restart_is}
use Rattle.node_requests.proofs.SaysLemmas.{all_on, alone_down, down_behind, lines_calm, lines_on, own_calm, with_wire}

-- the two tasks that boot a node
pub each_boot : (P : Task → Type 0) → P (Serves Boot) → P Restarts → (t : Task) → boots_node t ≡ true → P t
each_boot P b r (Serves said.Boot) e = b
each_boot P b r Restarts e = r
each_boot P b r _ e = let f : ⊥ = cc in absurd f

-- nothing refuses them before the disk is read, at a node that is down and for which no INIT failed
pub early_boot : (w : Shared) (n : Node) → n.up ≡ false → n.unmade ≡ false → refused_before_reading w n (task_service (Serves Boot)) ≡ None
early_boot w n down made = λ i. first_of (refused_if (not (down i || true)) line.NodeDown) (first_of (refused_if (down i) line.NodeUp) (refused_if (made i) line.NotInitialized))

pub early_restart : (w : Shared) (n : Node) → n.up ≡ false → n.unmade ≡ false → refused_before_reading w n (task_service Restarts) ≡ None
early_restart w n down made = λ i. first_of (refused_if (not (down i || true)) line.NodeDown) (first_of (refused_if (down i) line.NodeUp) (refused_if (made i) (line.NotInitializedAt n.name)))

pub shares_used : (s : SharedState) (w : Shared) → IsShared s w → IsShared (used s) (in_use w)
shares_used s w h = record { labels = h.labels; in_use = refl; wire = h.wire }

-- What the end of a boot says: whether the disk was made to run again before it, and whether a node may be in use from it on.
pub record IsEnding (name : List ℕ) (lines : List Line) (answer : Line) (powers uses : Bool) : Type 0 where
  pub own : AllByRecursion (IsOwn name) lines
  pub says : (s : Said) → s.nodes ≡ record { name = name; up = false; unmade = false } ∷ [] → lines_said lines s ≡ s
  pub none_up : shows_boot name lines ≡ false
  pub plain : is_of_lines answer ≡ false
  pub quiet : (s : Said) → line_said answer s ≡ s
  pub boot_said : (s : Said) → request_said name Boot answer s ≡ (let t : Said = if uses then with_use s else s in t)
  pub boot_powers : powered_task (Serves Boot) true answer ≡ powers
  pub restart_powers : powered_task Restarts true answer ≡ powers
  pub made : (node : List ℕ) → answer ≡ line.NotInitializedAt node → ⊥
  pub may : ends_boot_by answer ≡ true
  pub answers : (task : Task) → (task ≡ Serves said.Crash → ⊥) → (refusal : Option Line) → (refusal ≡ None → may_answer_task task true answer ≡ true) → AnswersTask task name refusal lines answer true

module _ (name : List ℕ) (clock : ℕ) (has_parts has_then : Bool) (d0 d : DiskState) (lines : List Line) (answer : Line) (powers uses : Bool) (e : IsEnding name lines answer powers uses) (passes : DiskAdvancesOverCalls d0 d)
    (calls : d.calls ≡ (let cs : CallLog = if powers then noted (disk_call.Power d0.stops) d0.calls else d0.calls in cs))
    (failures : (cause : Cause) → In (line.Down name cause) lines → IsCounted d0 → Rose (count_of cause (counts_of d0)) (count_of cause (counts_of d)))
    (held : powers && not (is_boot_refusal answer) ≡ false → HoldsAs d0 d) where
  module _ (s : SharedState) (a b : Shown) (m : Emits a (lines ++ answer ∷ []) b) where
    boot_ends : TellsTask (Serves Boot) true true (kept_down name clock has_parts d0) s a b (kept_down name clock has_then d) (if uses then used s else s)
    boot_ends = record {
      lines = lines;
      answer = answer;
      emits = m;
      own = e.own;
      refused = λ refusal q. (let f : ⊥ = cc in absurd f);
      others = λ none. e.plain;
      says = e.boot_said (lines_said lines (said_alone (kept_down name clock has_parts d0) s)) ∙ ap (λ (x : Said). if uses then with_use x else x) (e.says (said_alone (kept_down name clock has_parts d0) s) refl) ∙ used_said uses;
      calls = calls ∙ ap (λ (x : Bool). if x then noted (disk_call.Power d0.stops) d0.calls else d0.calls) (sym e.boot_powers);
      failures = failures;
      passes = passes;
      quiet = e.quiet;
      fused = λ writes choice q. (let f : ⊥ = cc in absurd f);
      boots = λ q. (let f : ⊥ = cc in absurd f);
      answered = e.answers (Serves Boot) (λ q. (let f : ⊥ = cc in f)) None (λ none. boot_may answer e.may);
      held = λ down unused. (refl, held (ap (λ (x : Bool). x && not (is_boot_refusal answer)) (sym e.boot_powers) ∙ unused));
    }
      where
        used_said : (u : Bool) → (let t : Said = if u then with_use (said_alone (kept_down name clock has_parts d0) s) else said_alone (kept_down name clock has_parts d0) s in t) ≡ said_alone (kept_down name clock has_then d) (if u then used s else s)
        used_said true = refl
        used_said false = refl

    restart_ends : (uses ≡ true → s.in_use ≡ true) → TellsTask Restarts true true (kept_down name clock has_parts d0) s a b (kept_down name clock has_then d) (if uses then used s else s)
    restart_ends in_use_before = record {
      lines = lines;
      answer = answer;
      emits = m;
      own = e.own;
      refused = λ refusal q. (let f : ⊥ = cc in absurd f);
      others = λ none. e.plain;
      says = e.says (said_alone (kept_down name clock has_parts d0) s) refl ∙ used_said uses in_use_before;
      calls = calls ∙ ap (λ (x : Bool). if x then noted (disk_call.Power d0.stops) d0.calls else d0.calls) (sym e.restart_powers);
      failures = failures;
      passes = passes;
      quiet = e.quiet;
      fused = λ writes choice q. (let f : ⊥ = cc in absurd f);
      boots = λ q. record { shown = e.none_up; up = λ on. (let f : ⊥ = cc in absurd f); unmade = λ u. (let f : ⊥ = cc in absurd f); made = λ u node r. e.made node r };
      answered = e.answers Restarts (λ q. (let f : ⊥ = cc in f)) None (λ none. restart_may answer e.may);
      held = λ down unused. (refl, held (ap (λ (x : Bool). x && not (is_boot_refusal answer)) (sym e.restart_powers) ∙ unused));
    }
      where
        used_said : (u : Bool) → (u ≡ true → s.in_use ≡ true) → said_alone (kept_down name clock has_parts d0) s ≡ said_alone (kept_down name clock has_then d) (if u then used s else s)
        used_said true h = λ i. record { nodes = record { name = name; up = false; unmade = false } ∷ []; shared = record (said_shared s) { in_use = h refl i } }
        used_said false h = refl

  -- with its step at each node of the world
  pub ends_boot : ((t : Task) (p : IsBoot t) (log : CallLog) (w : Shared) (n : Node) (h : RepresentsNode log (kept_down name clock has_parts d0) n) → refused_before_reading w n (task_service t) ≡ None → IsKeptNode w n → IsPromised Restarts n → (s : SharedState) → IsShared s w → (a b : Shown) → Emits a (lines ++ answer ∷ []) b
      → Performs log w n (counts_of d0) t true true a b (kept_down name clock has_then d) (if uses then used s else s)) → EndsBoot (kept_down name clock has_parts d0) lines answer uses (kept_down name clock has_then d)
  ends_boot performs = λ task is s in_use_before a b m. each_boot (λ t. (t ≡ Restarts → s.in_use ≡ true) → EndsTask t (kept_down name clock has_parts d0) s a b (kept_down name clock has_then d) (if uses then used s else s))
      (λ u. (boot_ends s a b m, λ log n w h share kept promised. performs (Serves Boot) boot_is log w n h (early_boot w n h.place.down h.unmade) kept promised s share a b m))
      (λ u. (restart_ends s a b m (λ x. u refl), λ log n w h share kept promised. performs Restarts restart_is log w n h (early_restart w n h.place.down h.unmade) kept promised s share a b m))
      task is in_use_before

-- The ends.

-- memory is missing
pub lacking_end : (name : List ℕ) → IsEnding name [] line.NoMemory false false
lacking_end name = record { own = tt; says = λ s is. refl; none_up = refl; plain = refl; quiet = λ s. refl; boot_said = λ s. refl; boot_powers = refl; restart_powers = refl; made = λ node q. (let f : ⊥ = cc in f); may = refl; answers = λ t no_crash refusal may. calm_answers t name refusal [] line.NoMemory true tt refl (λ q none. no_crash q) may }

-- what the disk has refuses it, or a quota
pub refused_end : (name : List ℕ) (answer : Line) → IsBootRefusal answer → IsEnding name [] answer true false
refused_end name (line.NoVolume node condition block) is = record { own = tt; says = λ s e. refl; none_up = refl; plain = refl; quiet = λ s. refl; boot_said = λ s. refl; boot_powers = refl; restart_powers = refl; made = λ other q. (let f : ⊥ = cc in f); may = refl; answers = λ t no_crash refusal may. calm_answers t name refusal [] (line.NoVolume node condition block) true tt refl (λ q none. no_crash q) may }
refused_end name (line.QuotaExceeded quota limit) is = record { own = tt; says = λ s e. refl; none_up = refl; plain = refl; quiet = λ s. refl; boot_said = λ s. refl; boot_powers = refl; restart_powers = refl; made = λ other q. (let f : ⊥ = cc in f); may = refl; answers = λ t no_crash refusal may. calm_answers t name refusal [] (line.QuotaExceeded quota limit) true tt refl (λ q none. no_crash q) may }
refused_end name _ is = let f : ⊥ = cc in absurd f

-- the disk went down, behind lines of work by which nothing is sent
pub fallen_end : (name : List ℕ) (ls : List Line) (cause : Cause) → AllByRecursion IsOfWork ls → ((wire : List Message) → wire_after ls wire ≡ wire) → IsEnding name (ls ++ line.Down name cause ∷ []) (line.Broken cause) true true
fallen_end name ls cause calm unsent = record {
  own = all_on (IsOwn name) ls (line.Down name cause ∷ []) (own_calm name ls calm) (refl, tt);
  says = says;
  none_up = shows ls calm;
  plain = refl;
  quiet = λ s. refl;
  boot_said = λ s. refl;
  boot_powers = refl;
  restart_powers = refl;
  made = λ node q. (let f : ⊥ = cc in f);
  may = refl;
  answers = λ t no_crash refusal may. fell_answers t name refusal ls cause calm no_crash may;
}
  where
    says : (s : Said) → s.nodes ≡ record { name = name; up = false; unmade = false } ∷ [] → lines_said (ls ++ line.Down name cause ∷ []) s ≡ s
    says s is =
        lines_on ls (line.Down name cause ∷ []) s
        ∙ ap (line_said (line.Down name cause)) (lines_calm ls s calm ∙ ap (λ (w : List Message). with_wire w s) (unsent s.shared.wire))
        ∙ (λ i. line_said (line.Down name cause) (record { nodes = is i; shared = s.shared }))
        ∙ alone_down (record { name = name; up = false; unmade = false }) s.shared cause
        ∙ (λ i. record { nodes = sym is i; shared = s.shared })

    first : (l : Line) (rest : List Line) → IsOfWork l → shows_boot name rest ≡ false → shows_boot name (l ∷ rest) ≡ false
    first (line.Booted node boot) rest f g = let none : ⊥ = cc in absurd none
    first _ rest f g = g

    shows : (ks : List Line) → AllByRecursion IsOfWork ks → shows_boot name (ks ++ line.Down name cause ∷ []) ≡ false
    shows [] h = refl
    shows (k ∷ ks) h = first k (ks ++ line.Down name cause ∷ []) h.0 (shows ks h.1)

-- each failure that is shown then is that one
pub fallen_rose : (name : List ℕ) (ls : List Line) (cause : Cause) (d0 d : DiskState) → AllByRecursion IsOfWork ls → (IsCounted d0 → Rose (count_of cause (counts_of d0)) (count_of cause (counts_of d)))
    → (shown : Cause) → In (line.Down name shown) (ls ++ line.Down name cause ∷ []) → IsCounted d0 → Rose (count_of shown (counts_of d0)) (count_of shown (counts_of d))
fallen_rose name ls cause d0 d calm rose shown i counted = subst (λ x. Rose (count_of x (counts_of d0)) (count_of x (counts_of d))) (sym (down_behind ls name name shown cause calm i)) (rose counted)
