-- What a boot came to, as the statement or the settling is answered that it is of.
use Rattle.std.proofs.Common.{◌≡◌, inl, inr, ℕ, List, [], ◌∷◌, ◌++◌, Bool, true, false, not, Option, Some, None, if◌then◌else◌, map, refl, ◌∙◌, ap, sym, subst, append_assoc, append-nil, arith}
use Rattle.std.specs.Prelude.{◌||◌}
use Rattle.std.specs.List.{AllByRecursion}
use Rattle.std.specs.Str.{bytes_eq}
use Rattle.block_disk.specs.Disk.{CallLog, DiskState, noted}
use Rattle.block_disk.specs.declared.disk.DiskCall.TheVariants as disk_call
use Rattle.emitter_model.specs.commit_protocol.Messages.{Message}
use Rattle.emitter_model.specs.commit_protocol.World.{In}
use Rattle.transcript.specs.Forms.{HasTime, line_of}
use Rattle.transcript.specs.declared.form.Form.{Form}
use Rattle.emitter_model.specs.Emitting.{Emits, Shown}
use Rattle.emitter_model.specs.transcript_model.Lines as line
use Rattle.emitter_model.specs.transcript_model.Lines.{Cause, Line}
use Rattle.emitter_model.proofs.EmittingLemmas.{emits_on}
use Rattle.script_lang.specs.script_model.Statements.{Boot, Fuse}
use Rattle.careful_write.specs.declared.down.Down.{Down}
use Rattle.said_steps.specs.run_said.Said.{Said, is_of_lines, line_said, lines_said, with_said, with_up, with_use}
use Rattle.said_steps.specs.Calls.{shows_boot}
use Rattle.said_steps.specs.Own.{IsOwn}
use Rattle.world_laws.specs.run_model.Answers.{Restarts, Serves, Task, refused_before_reading, task_service}
use Rattle.world_laws.specs.run_model.Operations.{first_of, refused_if}
use Rattle.world_laws.specs.run_model.Steps.{NodeStep}
use Rattle.world_laws.specs.run_model.World.{Node, Shared}
use Rattle.run_shared.specs.Sharing.{IsShared, SharedState}
use Rattle.node_requests.specs.node_table.Telling.{IsOfWork}
use Rattle.dtm_node.specs.declared.node.Opened.TheVariants as opened
use Rattle.dtm_node.specs.Causes.{cause_of}
use Rattle.node_requests.specs.node_standing.Keeping.{PerformsRequest, PerformsTask}
use Rattle.dtm_node.specs.Nodes.{last_lines_of, undone_line}
use Rattle.dtm_node.specs.Opening.{ComesTo, EndsBoot, EndsTask, IsOpen, Opens, Reopens, Rises, kept_down, used}
use Rattle.node_requests.specs.node_standing.Standing.{IsDown, IsRunning, NodeState, Place, PlaceRepresents, RepresentsNode, counts_of, disk_in, is_up}
use Rattle.said_steps.specs.Answers.{IsSteady}
use Rattle.said_steps.proofs.Falls.{steady_on}
use Rattle.dtm_node.proofs.Answered.{calm_answers, calm_steady, refused_answers, steady_answers}
use Rattle.dtm_node.proofs.Held.{holds_is}
use Rattle.node_requests.specs.node_standing.Telling.{AnswersTask, RestartTold, TellsTask, armed_task, powered_task, refused_task, said_alone, said_node, said_shared, task_said}
use Rattle.node_requests.specs.TheLaws.{TheLaws}
use Rattle.dtm_node.proofs.BootEnds.{shares_used}
use Rattle.dtm_node.proofs.BootSteps.{IsBoot, boot_is, restart_is, step_first}
use Rattle.dtm_node.proofs.Passing.{passes_same}
use Rattle.dtm_node.proofs.Rising.{came_down, came_up}
use Rattle.node_requests.proofs.SaysLemmas.{all_on, calm_not_down, lines_calm, lines_on, own_calm, same_text, with_wire}

-- What an opening came to.

pub opens_open : (k : NodeState) (p : Place) → Opens k p opened.Up → IsOpen k.name p
opens_open k (IsDown has_parts d) h = h
opens_open k (IsRunning r) h = (h.raised, h.none)

pub opens_lacks : (k : NodeState) (p : Place) → Opens k p opened.NoMemory → (is_up p ≡ false) × EndsBoot k [] line.NoMemory false (record k { place = p })
opens_lacks k (IsDown has_parts d) h = (refl, h)
opens_lacks k (IsRunning r) h = absurd h

pub opens_refused : (k : NodeState) (p : Place) (form : Form) → Opens k p (opened.Refused form) → (is_up p ≡ false) × HasTime form × EndsBoot k [] (line_of form) false (record k { place = p })
opens_refused k (IsDown has_parts d) form h = (refl, h.0, h.1)
opens_refused k (IsRunning r) form h = absurd h

pub opens_fell : (k : NodeState) (p : Place) (down : Down) → Opens k p (opened.Fell down) → (is_up p ≡ false) × EndsBoot k (line.Down k.name (cause_of down) ∷ []) (line.Broken (cause_of down)) true (record k { place = p })
opens_fell k (IsDown has_parts d) down h = (refl, h)
opens_fell k (IsRunning r) down h = absurd h

-- a boot that ended so
pub ended_comes : (k : NodeState) (p : Place) (lines : List Line) (answer : Line) (uses : Bool) → k.unmade ≡ false → EndsBoot (record k { unmade = false }) lines answer uses (record k { unmade = false; place = p }) → (s : SharedState) (a b : Shown) → Emits a (lines ++ answer ∷ []) b → ComesTo k s None a b (record k { place = p }) (if uses then used s else s)
ended_comes k p lines answer uses made ends s a b m =
    subst (λ (u : Bool). ComesTo (record k { unmade = u }) s None a b (record k { unmade = u; place = p }) (if uses then used s else s)) (sym made) (λ task is before. ends task is s before a b m)

-- a boot whose node was opened
up_at : TheLaws → (name : List ℕ) (clock : ℕ) (has_parts : Bool) (d0 : DiskState) (p q : Place) (result : Option ℕ) (s : SharedState) (a b : Shown) → Opens (kept_down name clock has_parts d0) p opened.Up → Reopens name clock p result q a b
    → ComesTo (kept_down name clock has_parts d0) s result a b (record (kept_down name clock has_parts d0) { place = q }) (used s)
up_at laws name clock has_parts d0 (IsDown other e) q result s a b opens re = absurd opens
up_at laws name clock has_parts d0 (IsRunning r0) (IsRunning r) (Some boot) s a b opens re = came_up laws name clock has_parts d0 r0 opens boot r a b re s
up_at laws name clock has_parts d0 (IsRunning r0) (IsDown other d) (Some boot) s a b opens re = absurd re
up_at laws name clock has_parts d0 (IsRunning r0) (IsRunning r) None s a b opens re = absurd re
up_at laws name clock has_parts d0 (IsRunning r0) (IsDown other d) None s a b opens re = λ task is before.
    let last = last_lines_of r0.stored.volume.catalog.home in
    let undone = map undone_line re.1.told.settled in
    let fall = line.Down name (cause_of re.1.down) ∷ [] in
    let broken = line.Broken (cause_of re.1.down) ∷ [] in
    subst (λ (x : Bool). EndsTask task (kept_down name clock has_parts d0) s a b (kept_down name clock x d) (used s)) (sym re.0)
    (came_down laws name clock has_parts d0 r0 opens d a b re.1 task is s before a b (subst (λ (ls : List Line). Emits a ls b) (sym (append_assoc (last ++ undone) fall broken ∙ append_assoc last undone (fall ++ broken))) re.1.emits))

pub up_comes : TheLaws → (k : NodeState) (p q : Place) (result : Option ℕ) (s : SharedState) (a b : Shown) → k.unmade ≡ false → is_up k.place ≡ false → Opens (record k { unmade = false }) p opened.Up → Reopens k.name k.clock p result q a b → ComesTo k s result a b (record k { place = q }) (used s)
up_comes laws k p q result s a b made down opens re =
    subst (λ (u : Bool). ComesTo (record k { unmade = u }) s result a b (record k { unmade = u; place = q }) (used s)) (sym made) (go k.place down opens)
  where
    go : (x : Place) → is_up x ≡ false → Opens (record { name = k.name; unmade = false; clock = k.clock; place = x }) p opened.Up → ComesTo (record { name = k.name; unmade = false; clock = k.clock; place = x }) s result a b (record { name = k.name; unmade = false; clock = k.clock; place = q }) (used s)
    go (IsDown has_parts d0) f o = up_at laws k.name k.clock has_parts d0 p q result s a b o re
    go (IsRunning r) f o = let none : ⊥ = cc in absurd none

-- The node is up, and that is answered.

module _ (k : NodeState) (s : SharedState) (boot : ℕ) (a mid b : Shown) (l : NodeState) (t : SharedState) (r : Rises k s boot a mid l t) (made : k.unmade ≡ false) (down : is_up k.place ≡ false) where
  -- what its lines say
  calm : lines_said r.lines (said_alone k s) ≡ said_alone k s
  calm = lines_calm r.lines (said_alone k s) r.work ∙ ap (λ (w : List Message). with_wire w (said_alone k s)) (r.unsent s.wire)

  -- a node that is up alone
  abbrev alone_up : (i : Bool) → Said
  alone_up i = record { nodes = record { name = k.name; up = true; unmade = k.unmade } ∷ []; shared = record (said_shared s) { in_use = i } }

  up_said : (u : Said) → u.nodes ≡ said_node k ∷ [] → (with_up k.name true u).nodes ≡ record { name = k.name; up = true; unmade = k.unmade } ∷ []
  up_said u is = (λ i. with_said k.name (λ n. record n { up = true }) (is i)) ∙ ap (λ (x : Bool). if x then record { name = k.name; up = true; unmade = k.unmade } ∷ [] else said_node k ∷ []) (same_text k.name)

  said_then : said_alone l t ≡ alone_up true
  said_then = (λ i. said_alone (r.kept i) (r.shared i)) ∙ (λ i. record { nodes = record { name = k.name; up = r.up i; unmade = k.unmade } ∷ []; shared = record (said_shared s) { in_use = true } })

  no_fall : (name : List ℕ) (cause : Cause) → In (line.Down name cause) r.lines → ⊥
  no_fall name cause i = calm_not_down r.lines name cause r.work i

  module _ (m : Emits mid (line.NormalCount boot ∷ []) b) where
    pub boot_tells : TellsTask (Serves Boot) true false k s a b l t
    boot_tells = record {
      lines = r.lines;
      answer = line.NormalCount boot;
      emits = emits_on a mid b r.lines (line.NormalCount boot ∷ []) r.emits m;
      own = own_calm k.name r.lines r.work;
      refused = λ refusal q. absurd (let e : None ≡ Some refusal = sym unrefused ∙ q in (let f : ⊥ = cc in f));
      others = λ none. refl;
      says = ap (λ (u : Said). with_up k.name true (with_use u)) calm ∙ (λ i. record { nodes = up_said (with_use (said_alone k s)) refl i; shared = record (said_shared s) { in_use = true } }) ∙ sym said_then;
      calls = r.calls;
      failures = λ cause i counted. absurd (no_fall k.name cause i);
      passes = r.passes;
      quiet = λ u. refl;
      fused = λ writes choice q. (let f : ⊥ = cc in absurd f);
      boots = λ q. (let f : ⊥ = cc in absurd f);
      answered = calm_answers (Serves Boot) k.name (refused_task (said_shared s) (said_node k) (Serves Boot)) r.lines (line.NormalCount boot) false r.work refl (λ q none. (let f : ⊥ = cc in f)) (λ none. refl);
      held = λ d unused. (let f : ⊥ = cc in absurd f);
    }
      where
        unrefused : refused_task (said_shared s) (said_node k) (Serves Boot) ≡ None
        unrefused = λ i. first_of (refused_if (down i) line.NodeUp) (refused_if (made i) line.NotInitialized)

    pub boot_performs : PerformsRequest Boot k s a b l t
    boot_performs = λ log n w h share kept promised.
        let here = r.world log n w h share kept promised in (
          false,
          record {
            lines = r.lines;
            answer = line.NormalCount boot;
            node = here.node;
            shared = record w { in_use = true };
            step = subst (λ (ls : List Line). NodeStep w n (counts_of (disk_in k.place)) (Serves Boot) ls (line.NormalCount boot) false here.node (record w { in_use = true }) (counts_of (disk_in l.place))) (append-nil r.lines) (here.step (Serves Boot) refl);
            emits = emits_on a mid b r.lines (line.NormalCount boot ∷ []) r.emits m;
            alike = subst (λ (x : SharedState). IsShared x (record w { in_use = true })) (sym r.shared) (shares_used s w share);
            stands = here.stands;
          },
        )

  module _ (m : Emits mid (line.Booted k.name boot ∷ []) b) where
    abbrev booted : List Line
    booted = line.Booted k.name boot ∷ []

    pub restart_tells : s.in_use ≡ true → TellsTask Restarts false false k s a b l t
    restart_tells in_use = record {
      lines = r.lines ++ booted;
      answer = line.Normal;
      emits = emits_on a mid b r.lines booted r.emits m;
      own = all_on (IsOwn k.name) r.lines booted (own_calm k.name r.lines r.work) (refl, tt);
      refused = λ refusal q. (let f : ⊥ = cc in absurd f);
      others = λ none. refl;
      says = lines_on r.lines booted (said_alone k s) ∙ ap (lines_said booted) calm ∙ (λ i. record { nodes = up_said (said_alone k s) refl i; shared = record (said_shared s) { in_use = in_use i } }) ∙ sym said_then;
      calls = r.calls;
      failures = λ cause i counted. absurd (not_down r.lines r.work cause i);
      passes = r.passes;
      quiet = λ u. refl;
      fused = λ writes choice q. (let f : ⊥ = cc in absurd f);
      boots = λ q. record { shown = shown r.lines; up = λ on. r.up; unmade = λ u. absurd (let e : true ≡ false = sym u ∙ made in (let f : ⊥ = cc in f)); made = λ u node e. (let f : ⊥ = cc in f) };
      answered = steady_answers Restarts k.name None (r.lines ++ booted) line.Normal false (steady_on r.lines booted (calm_steady r.lines r.work) booted_steady) refl (λ q none. (let f : ⊥ = cc in f)) (λ none. refl);
      held = λ d unused. (let f : ⊥ = cc in absurd f);
    }
      where
        booted_steady : IsSteady booted
        booted_steady = record { down = λ node cause i. elim i [ inl e ↦ (let f : ⊥ = cc in f) | inr x ↦ x ]; crash = λ node i. elim i [ inl e ↦ (let f : ⊥ = cc in f) | inr x ↦ x ] }

        not_down : (ls : List Line) → AllByRecursion IsOfWork ls → (cause : Cause) → In (line.Down k.name cause) (ls ++ booted) → ⊥
        not_down [] h cause (inl e) = cc
        not_down [] h cause (inr i) = i
        not_down (x ∷ xs) h cause (inl e) = (let f : IsOfWork (line.Down k.name cause) = subst IsOfWork (sym e) h.0 in (let g : ⊥ = cc in g))
        not_down (x ∷ xs) h cause (inr i) = not_down xs h.1 cause i

        behind : (l : Line) (ls : List Line) → shows_boot k.name ls ≡ true → shows_boot k.name (l ∷ ls) ≡ true
        behind (line.Booted node count) ls e = go (bytes_eq k.name node)
          where
            go : (x : Bool) → (if x then true else shows_boot k.name ls) ≡ true
            go true = refl
            go false = e
        behind _ ls e = e

        shown : (ls : List Line) → shows_boot k.name (ls ++ booted) ≡ true
        shown [] = ap (λ (x : Bool). if x then true else false) (same_text k.name)
        shown (x ∷ xs) = behind x (xs ++ booted) (shown xs)

    pub restart_performs : PerformsTask Restarts false false k s a b l t
    restart_performs = λ log n w h share kept promised.
        let here = r.world log n w h share kept promised in
        record {
          lines = r.lines ++ booted;
          answer = line.Normal;
          node = here.node;
          shared = record w { in_use = true };
          step = here.step Restarts refl;
          emits = emits_on a mid b r.lines booted r.emits m;
          alike = subst (λ (x : SharedState). IsShared x (record w { in_use = true })) (sym r.shared) (shares_used s w share);
          stands = here.stands;
        }

-- Refusals before the disk is made to run again.

abbrev IsStill : Task → Line → NodeState → SharedState → Type 0
IsStill task answer k s = (task_said task [] answer k s ≡ said_alone k s) × ((u : Said) → line_said answer u ≡ u) × (powered_task task true answer ≡ false)

module _ (k : NodeState) (s : SharedState) (a b : Shown) where
  still_tells : (task : Task) (answer : Line) → Emits a (answer ∷ []) b → IsStill task answer k s → ((calls : CallLog) → armed_task task calls ≡ calls) → ((writes choice : ℕ) → task ≡ Serves (Fuse writes choice) → ⊥)
      → ((refusal : Line) → refused_task (said_shared s) (said_node k) task ≡ Some refusal → answer ≡ refusal) → (refused_task (said_shared s) (said_node k) task ≡ None → is_of_lines answer ≡ false) → (task ≡ Restarts → RestartTold k k [] answer true) → AnswersTask task k.name (refused_task (said_shared s) (said_node k) task) [] answer true → TellsTask task true true k s a b k s
  still_tells task answer m still unarmed no_fuse refuses others boots answered = record {
    lines = [];
    answer = answer;
    emits = m;
    own = tt;
    refused = λ refusal q. (refl, refuses refusal q, refl, refl);
    others = others;
    says = still.0;
    calls = sym (ap (λ (x : Bool). if x then noted (disk_call.Power (disk_in k.place).stops) (disk_in k.place).calls else armed_task task (disk_in k.place).calls) still.2 ∙ unarmed (disk_in k.place).calls);
    failures = λ cause i counted. absurd i;
    passes = passes_same (disk_in k.place);
    quiet = still.1;
    fused = λ writes choice q. absurd (no_fuse writes choice q);
    boots = boots;
    answered = answered;
    held = λ d unused. (d, holds_is (disk_in k.place) (disk_in k.place) refl);
  }

  first_performs : (task : Task) (p : IsBoot task) (answer : Line) → Emits a (answer ∷ []) b → ((log : CallLog) (w : Shared) (n : Node) → RepresentsNode log k n → refused_before_reading w n (task_service task) ≡ Some answer) → PerformsTask task true true k s a b k s
  first_performs task p answer m refuses = λ log n w h share kept promised. record {
    lines = [];
    answer = answer;
    node = n;
    shared = w;
    step = step_first w n task (counts_of (disk_in k.place)) (counts_of (disk_in k.place)) (omega arith) (omega arith) p answer (refuses log w n h);
    emits = m;
    alike = share;
    stands = h;
  }

  some_answer : (x y : Line) → ◌≡◌ {A = Option Line} (Some x) (Some y) → x ≡ y
  some_answer x y e = cc

  -- the node is up
  up_node : (log : CallLog) (n : Node) → is_up k.place ≡ true → RepresentsNode log k n → n.up ≡ true
  up_node log n up h = go k.place up h.place
    where
      go : (p : Place) → is_up p ≡ true → PlaceRepresents k.clock p n → n.up ≡ true
      go (IsDown has_parts d) e x = let none : ⊥ = cc in absurd none
      go (IsRunning r) e x = x.stands.up

  down_node : (log : CallLog) (n : Node) → is_up k.place ≡ false → RepresentsNode log k n → n.up ≡ false
  down_node log n down h = go k.place down h.place
    where
      go : (p : Place) → is_up p ≡ false → PlaceRepresents k.clock p n → n.up ≡ false
      go (IsDown has_parts d) e x = x.down
      go (IsRunning r) e x = let none : ⊥ = cc in absurd none

  pub boot_at_up : is_up k.place ≡ true → Emits a (line.NodeUp ∷ []) b → TellsTask (Serves Boot) true true k s a b k s × PerformsRequest Boot k s a b k s
  boot_at_up up m =
      let says : refused_task (said_shared s) (said_node k) (Serves Boot) ≡ Some line.NodeUp = ap (λ (x : Bool). first_of (refused_if x line.NodeUp) (refused_if k.unmade line.NotInitialized)) up in (
        still_tells (Serves Boot) line.NodeUp m (refl, λ u. refl, refl) (λ calls. refl) (λ writes choice q. (let f : ⊥ = cc in f)) (λ refusal q. some_answer line.NodeUp refusal (sym says ∙ q))
            (λ none. absurd (let e : ◌≡◌ {A = Option Line} (Some line.NodeUp) None = sym says ∙ none in (let f : ⊥ = cc in f))) (λ q. (let f : ⊥ = cc in absurd f)) (refused_answers (Serves Boot) k.name (refused_task (said_shared s) (said_node k) (Serves Boot)) line.NodeUp true says refl),
        λ log n w h share kept promised. (true, first_performs (Serves Boot) boot_is line.NodeUp m (λ l x y z. ap (λ (u : Bool). first_of (refused_if (not (u || true)) line.NodeDown) (first_of (refused_if u line.NodeUp) (refused_if y.unmade line.NotInitialized))) (up_node l y up z)) log n w h share kept promised),
      )

  module _ (down : is_up k.place ≡ false) (unmade : k.unmade ≡ true) where
    pub boot_unmade : Emits a (line.NotInitialized ∷ []) b → TellsTask (Serves Boot) true true k s a b k s × PerformsRequest Boot k s a b k s
    boot_unmade m =
        let says : refused_task (said_shared s) (said_node k) (Serves Boot) ≡ Some line.NotInitialized = λ i. first_of (refused_if (down i) line.NodeUp) (refused_if (unmade i) line.NotInitialized) in (
          still_tells (Serves Boot) line.NotInitialized m (refl, λ u. refl, refl) (λ calls. refl) (λ writes choice q. (let f : ⊥ = cc in f)) (λ refusal q. some_answer line.NotInitialized refusal (sym says ∙ q))
              (λ none. absurd (let e : ◌≡◌ {A = Option Line} (Some line.NotInitialized) None = sym says ∙ none in (let f : ⊥ = cc in f))) (λ q. (let f : ⊥ = cc in absurd f)) (refused_answers (Serves Boot) k.name (refused_task (said_shared s) (said_node k) (Serves Boot)) line.NotInitialized true says refl),
          λ log n w h share kept promised. (true, first_performs (Serves Boot) boot_is line.NotInitialized m (λ l x y z. (λ i. first_of (refused_if (not (down_node l y down z i || true)) line.NodeDown) (first_of (refused_if (down_node l y down z i) line.NodeUp) (refused_if ((z.unmade ∙ unmade) i) line.NotInitialized)))) log n w h share kept promised),
        )

    pub restart_unmade : Emits a (line.NotInitializedAt k.name ∷ []) b → TellsTask Restarts true true k s a b k s × PerformsTask Restarts true true k s a b k s
    restart_unmade m = (
      still_tells Restarts (line.NotInitializedAt k.name) m (refl, λ u. refl, refl) (λ calls. refl) (λ writes choice q. (let f : ⊥ = cc in f)) (λ refusal q. (let f : ⊥ = cc in absurd f)) (λ none. refl)
          (λ q. record { shown = refl; up = λ on. (let f : ⊥ = cc in absurd f); unmade = λ u. (refl, refl, refl); made = λ u. absurd (let e : true ≡ false = sym unmade ∙ u in (let f : ⊥ = cc in f)) })
          (calm_answers Restarts k.name None [] (line.NotInitializedAt k.name) true tt refl (λ q none. (let f : ⊥ = cc in f)) (λ none. refl)),
      first_performs Restarts restart_is (line.NotInitializedAt k.name) m (λ l x y z. (λ i. first_of (refused_if (not (down_node l y down z i || true)) line.NodeDown) (first_of (refused_if (down_node l y down z i) line.NodeUp) (refused_if ((z.unmade ∙ unmade) i) (line.NotInitializedAt (z.name i)))))),
    )
