-- What a disk had is forgotten once a volume is made on it.
use Rattle.std.specs.Prelude.{◌||◌, not}
use Rattle.std.specs.List.{last_or}
use Rattle.std.specs.Str.{bytes_eq}
use Rattle.std.proofs.Common.{◌≡◌, ◌⊎◌, inl, inr, ℕ, zero, suc, Bool, true, false, List, [], ◌∷◌, ◌++◌, Option, Some, None, if◌then◌else◌, refl, ap, sym, subst, ◌∙◌, append_assoc}
use Rattle.run_said.specs.transcript_model.Lines as line
use Rattle.run_said.specs.transcript_model.Lines.{Cause, Line, Normal}
use Rattle.run_said.specs.script_model.Statements as said
use Rattle.run_said.specs.script_model.Statements.{At, Bad, Blank, Boot, Clock, Deliver, Fuse, Init, LinkDown, Reading, Request, Says, Settle, Statement}
use Rattle.run_said.specs.script_model.Grammar.{reading}
use Rattle.vms_model.specs.Ids.{Id}
use Rattle.commit_protocol.specs.Allowed.{is_prepared}
use Rattle.commit_protocol.specs.Messages.{Message, Name}
use Rattle.commit_protocol.specs.Table.{Branch, Key as BranchKey, coordinator_of}
use Rattle.commit_protocol.specs.World.{arranged}
use Rattle.commit_protocol.proofs.Lists.{cases_name}
use Rattle.run_said.specs.run_model.World as world
use Rattle.run_said.specs.run_model.World.{DiskCounts, Node, Lost, Shared, World, disk_of, find_node, opened, powered, unpowered, with_node}
use Rattle.run_said.specs.run_model.Operations.{first_of, refused_if}
use Rattle.run_said.specs.run_model.Answers as answers
use Rattle.run_said.specs.run_model.Answers.{Hears, LosesLink, Restarts, RunsDown, Serves, Service, Takes, Task, Ticks, refused_before_reading, task_service}
use Rattle.run_said.specs.run_model.Steps as steps
use Rattle.run_said.specs.run_model.Steps.{Choice, Cut, TaskAllowed, TaskEffect, Unpowered, Whole, WithoutMemory, count_of, ready_node, service_effect, task_effect}
use Rattle.run_said.specs.run_model.StepLaws.{is_refusal}
use Rattle.run_said.specs.run_model.Statements.{Allowed, AllowedAt, AllowedOf, Asks, Begins, Does, Doubtful, Heard, Onward, Part, PartEffect, Parts, Phase, Phases, Question, RoseAt, Step, Then, Unanswered, all_questions, answer_of, asked, asking, begun_with, done_at, in_doubt, is_up, message_at, named_node, other_node, part_effect, phases_of, put_into, question, question_effect, questions_of, refused_at_once, restarts_of, run_downs_of, stops_at, where_up}
use Rattle.run_said.specs.run_model.Transcript.{AreOpening, Entry, Legal, Turn}
use Rattle.run_said.specs.transcript_model.Outside.{Rose}
use Rattle.run_said.proofs.run_model.CauseLemmas.{refuses_first}
use Rattle.run_said.proofs.run_model.NodeLists.{some_is}
use Rattle.run_said.proofs.run_model.PartLemmas.{allowed_here, done_here, ended, ends_so, here_allowed}
use Rattle.run_agreement.specs.Laws.{NamesApart}
use Rattle.run_agreement.proofs.Barred.{quiet_powered}
use Rattle.run_agreement.proofs.Found.{bytes_itself, bytes_same, found_put, found_there, name_found}
use Rattle.run_agreement.proofs.Tasks.{awake_refused, none_some}
use Rattle.recovery_laws.proofs.world_laws.Induction.{acts_name}
use Rattle.run_laws.specs.Anew.{AreForgotten, InitsForget, IsMadeAnew, IsMadeIn, Makes}
use Rattle.run_laws.proofs.AgreedRuns.{legal_names}

abbrev is_boot : Task → Bool
is_boot (Serves Boot) = true
is_boot Restarts = true
is_boot _ = false

abbrev is_init : Task → Bool
is_init (Serves (Init slots journal)) = true
is_init _ = false

-- A task at a node that is down, and at one that has another disk.

-- it shows the same, and so does it with the node but for its disk, whose content is the same where it was, or where a volume was made
record IsAlike (n m : Node) (init : Bool) (f g : TaskEffect) : Type 0 where
  lines : g.lines ≡ f.lines
  answer : g.answer ≡ f.answer
  ends : g.ends ≡ f.ends
  shared : g.shared ≡ f.shared
  down : f.node.up ≡ false
  quiet : f.node.under_way ≡ None
  node : g.node ≡ record f.node { durable = g.node.durable }
  same : m ≡ n → g.node ≡ f.node
  made : init ≡ true → f.answer ≡ Normal → g.node ≡ f.node

module _ (n : Node) (d : world.Durable) (s : Shared) (stops : ℕ) (rises : Cause → Type 0) (down : n.up ≡ false) (quiet : n.under_way ≡ None) where
  abbrev m : Node
  m = record n { durable = d }

  -- the task may be done so, by another choice
  abbrev DoneAlike : Task → Choice → Type 0
  DoneAlike t c = (b : Choice) × TaskAllowed s stops m t rises b × IsAlike n m (is_init t) (task_effect s stops n t c) (task_effect s stops m t b)

  down_refused : (x : Node) (e : Service) → x.up ≡ false → e.while_down ≡ false → refused_before_reading s x e ≡ Some line.NodeDown
  down_refused x e is off = ap (λ b. first_of (refused_if (not (b || e.while_down)) line.NodeDown) (e.refused_before_reading s x)) is ∙ ap (λ b. first_of (refused_if (not (false || b)) line.NodeDown) (e.refused_before_reading s x)) off

  refused_alike : (init : Bool) (refusal : Line) → is_refusal refusal ≡ true → IsAlike n m init (steps.refused s n refusal) (steps.refused s m refusal)
  refused_alike init refusal is = record { lines = refl; answer = refl; ends = refl; shared = refl; down = down; quiet = quiet; node = refl; same = λ e. e; made = λ i normal. (let no : true ≡ false = sym is ∙ ap is_refusal normal in let none : ⊥ = cc in absurd none) }

  plain_alike : (t : Task) → (task_service t).while_down ≡ false → (c : Choice) → TaskAllowed s stops n t rises c → DoneAlike t c
  plain_alike t off (Whole o) may =
      let e = task_service t in (
        Whole Lost,
        tt,
        subst (λ (l : Option Line). IsAlike n m (is_init t) (steps.whole s n (ready_node o stops e n) e l) (service_effect s stops m e (Whole Lost))) (sym (down_refused n e down off))
            (subst (λ (l : Option Line). IsAlike n m (is_init t) (steps.refused s n line.NodeDown) (steps.whole s m (ready_node Lost stops e m) e l)) (sym (down_refused m e down off)) (refused_alike (is_init t) line.NodeDown refl)),
      )
  plain_alike t off WithoutMemory may = absurd (none_some line.NodeDown (refused_before_reading s n (task_service t)) (down_refused n (task_service t) down off) may.0)
  plain_alike t off Unpowered may = absurd (none_some line.NodeDown (refused_before_reading s n (task_service t)) (down_refused n (task_service t) down off) may.0)
  plain_alike t off (Cut o done begun cause) may = absurd (none_some line.NodeDown (refused_before_reading s n (task_service t)) (down_refused n (task_service t) down off) may.0)

  fuse_alike : (writes choice : ℕ) (c : Choice) → TaskAllowed s stops n (Serves (Fuse writes choice)) rises c → DoneAlike (Serves (Fuse writes choice)) c
  fuse_alike writes choice (Whole o) may =
      let e = answers.service (Fuse writes choice) in (
        Whole Lost,
        tt,
        subst (λ (l : Option Line). IsAlike n m false (steps.whole s n n e l) (service_effect s stops m e (Whole Lost))) (sym (awake_refused s n e refl))
            (subst (λ (l : Option Line). IsAlike n m false (steps.whole s n n e None) (steps.whole s m m e l)) (sym (awake_refused s m e refl))
            (record { lines = refl; answer = refl; ends = refl; shared = refl; down = down; quiet = quiet; node = refl; same = λ is. ap (world.acted (world.Arms writes choice)) is; made = λ i. let none : ⊥ = cc in absurd none })),
      )
  fuse_alike writes choice WithoutMemory may = absurd (let f : false ≡ true = may.1 in cc)
  fuse_alike writes choice Unpowered may = absurd (let f : false ≡ true = may.1 in cc)
  fuse_alike writes choice (Cut o done begun cause) may = absurd (let f : false ≡ true = may.1 in cc)

  clock_alike : (now : ℕ) (c : Choice) → TaskAllowed s stops n (Serves (Clock now)) rises c → DoneAlike (Serves (Clock now)) c
  clock_alike now (Whole o) may =
      let e = answers.service (Clock now) in (
        Whole Lost,
        tt,
        subst (λ (l : Option Line). IsAlike n m false (steps.whole s n n e l) (service_effect s stops m e (Whole Lost))) (sym (awake_refused s n e refl))
            (subst (λ (l : Option Line). IsAlike n m false (steps.whole s n n e None) (steps.whole s m m e l)) (sym (awake_refused s m e refl))
            (record { lines = refl; answer = refl; ends = refl; shared = refl; down = down; quiet = quiet; node = refl; same = λ is. ap (world.acted (world.Clocks now)) is; made = λ i. let none : ⊥ = cc in absurd none })),
      )
  clock_alike now WithoutMemory may = absurd (let f : false ≡ true = may.1 in cc)
  clock_alike now Unpowered may = absurd (let f : false ≡ true = may.1 in cc)
  clock_alike now (Cut o done begun cause) may = absurd (let f : false ≡ true = may.1 in cc)

  -- the node once its disk runs again
  abbrev awake : Node → Node
  awake x = record x { calls = world.Power stops ∷ x.calls; under_way = None }

  abbrev format : (slots journal : ℕ) → Node → Node
  format slots journal x = world.acted (world.Formats slots journal) (steps.with_unknown_volume true x)

  abbrev cut_at : (slots journal : ℕ) → Cause → Node → ℕ → Bool → TaskEffect
  cut_at slots journal cause x done begun = steps.cut s x (answers.service (Init slots journal)) [] done begun cause

  abbrev fell : Node → Node
  fell x = world.fallen None (steps.with_unknown_volume true (awake x))

  init_alike : (slots journal : ℕ) (c : Choice) → TaskAllowed s stops n (Serves (Init slots journal)) rises c → DoneAlike (Serves (Init slots journal)) c
  init_alike slots journal (Whole o) may = (Whole Lost, tt, by (refused_before_reading s n (answers.service (Init slots journal))) refl)
    where
      by : (l : Option Line) → refused_before_reading s n (answers.service (Init slots journal)) ≡ l →
          IsAlike n m true (steps.whole s n (steps.with_unknown_volume true (powered o stops n)) (answers.service (Init slots journal)) l) (steps.whole s m (steps.with_unknown_volume true (powered Lost stops m)) (answers.service (Init slots journal)) l)
      by (Some refusal) is = refused_alike true refusal ((refuses_first s n (Serves (Init slots journal))).says refusal is)
      by None is =
          let f = quiet_powered o stops n quiet in
          let new : format slots journal (powered Lost stops m) ≡ format slots journal (powered o stops n) = sym (ap (format slots journal) f) in
          record {
            lines = refl;
            answer = refl;
            ends = refl;
            shared = refl;
            down = ap (λ (x : Node). x.up) f ∙ down;
            quiet = ap (λ (x : Node). x.under_way) f;
            node = new;
            same = λ is. new;
            made = λ i normal. new;
          }
  init_alike slots journal WithoutMemory may = absurd (let f : false ≡ true = may.1 in cc)
  init_alike slots journal Unpowered may = (
    Unpowered,
    may,
    record { lines = refl; answer = refl; ends = refl; shared = refl; down = refl; quiet = quiet; node = refl; same = λ is. ap (λ (x : Node). steps.with_unknown_volume true (unpowered stops x)) is; made = λ i normal. let none : ⊥ = cc in absurd none },
  )
  init_alike slots journal (Cut o done begun cause) may = (
    Cut Lost done begun cause,
    (may.0, may.1, tt, may.3, may.4),
    subst (λ (x : Node). IsAlike n m true (cut_at slots journal cause (steps.with_unknown_volume true x) done begun) (cut_at slots journal cause (steps.with_unknown_volume true (awake m)) done begun)) (sym (quiet_powered o stops n quiet)) (go done begun),
  )
    where
      go : (k : ℕ) (b : Bool) → IsAlike n m true (cut_at slots journal cause (steps.with_unknown_volume true (awake n)) k b) (cut_at slots journal cause (steps.with_unknown_volume true (awake m)) k b)
      go zero true = record { lines = refl; answer = refl; ends = refl; shared = refl; down = refl; quiet = refl; node = refl; same = λ is. ap fell is; made = λ i normal. let none : ⊥ = cc in absurd none }
      go zero false = record { lines = refl; answer = refl; ends = refl; shared = refl; down = refl; quiet = refl; node = refl; same = λ is. ap fell is; made = λ i normal. let none : ⊥ = cc in absurd none }
      go (suc k) true = record { lines = refl; answer = refl; ends = refl; shared = refl; down = refl; quiet = refl; node = refl; same = λ is. ap fell is; made = λ i normal. let none : ⊥ = cc in absurd none }
      go (suc k) false = record { lines = refl; answer = refl; ends = refl; shared = refl; down = refl; quiet = refl; node = refl; same = λ is. ap fell is; made = λ i normal. let none : ⊥ = cc in absurd none }

  request_alike : (r : Request) (c : Choice) → is_boot (Serves r) ≡ false → TaskAllowed s stops n (Serves r) rises c → DoneAlike (Serves r) c
  request_alike (Init slots journal) c other may = init_alike slots journal c may
  request_alike Boot c other may = let none : ⊥ = cc in absurd none
  request_alike (Fuse writes choice) c other may = fuse_alike writes choice c may
  request_alike (Clock now) c other may = clock_alike now c may
  request_alike (said.Create file bucket size form) c other may = plain_alike (Serves (said.Create file bucket size form)) refl c may
  request_alike (said.SetFile file setting) c other may = plain_alike (Serves (said.SetFile file setting)) refl c may
  request_alike (said.StartTrans label seconds) c other may = plain_alike (Serves (said.StartTrans label seconds)) refl c may
  request_alike (said.AddBranch label it new) c other may = plain_alike (Serves (said.AddBranch label it new)) refl c may
  request_alike (said.StartBranch label) c other may = plain_alike (Serves (said.StartBranch label)) refl c may
  request_alike (said.Records label file op) c other may = plain_alike (Serves (said.Records label file op)) refl c may
  request_alike (said.Direct file op) c other may = plain_alike (Serves (said.Direct file op)) refl c may
  request_alike (said.EndBranch label) c other may = plain_alike (Serves (said.EndBranch label)) refl c may
  request_alike (said.EndTrans label) c other may = plain_alike (Serves (said.EndTrans label)) refl c may
  request_alike (said.AbortTrans label) c other may = plain_alike (Serves (said.AbortTrans label)) refl c may
  request_alike (said.Inquire who) c other may = plain_alike (Serves (said.Inquire who)) refl c may
  request_alike (said.DeclareRm rm) c other may = plain_alike (Serves (said.DeclareRm rm)) refl c may
  request_alike (said.JoinRm label rm) c other may = plain_alike (Serves (said.JoinRm label rm)) refl c may
  request_alike (said.AckEvent who rm reply) c other may = plain_alike (Serves (said.AckEvent who rm reply)) refl c may
  request_alike (said.ForgetRm rm) c other may = plain_alike (Serves (said.ForgetRm rm)) refl c may
  request_alike (said.GetDti who) c other may = plain_alike (Serves (said.GetDti who)) refl c may
  request_alike said.LmcpShow c other may = plain_alike (Serves said.LmcpShow) refl c may
  request_alike said.LmcpDump c other may = plain_alike (Serves said.LmcpDump) refl c may
  request_alike (said.Dump file) c other may = plain_alike (Serves (said.Dump file)) refl c may
  request_alike said.DumpJournal c other may = plain_alike (Serves said.DumpJournal) refl c may
  request_alike (said.DumpImages file side) c other may = plain_alike (Serves (said.DumpImages file side)) refl c may
  request_alike (said.Backup file) c other may = plain_alike (Serves (said.Backup file)) refl c may
  request_alike (said.Recover file way) c other may = plain_alike (Serves (said.Recover file way)) refl c may
  request_alike said.Crash c other may = plain_alike (Serves said.Crash) refl c may

  task_alike : (t : Task) (c : Choice) → is_boot t ≡ false → TaskAllowed s stops n t rises c → DoneAlike t c
  task_alike (Serves r) c other may = request_alike r c other may
  task_alike Ticks c other may = plain_alike Ticks refl c may
  task_alike (Takes x) c other may = plain_alike (Takes x) refl c may
  task_alike (Hears x) c other may = plain_alike (Hears x) refl c may
  task_alike (LosesLink it) c other may = plain_alike (LosesLink it) refl c may
  task_alike RunsDown c other may = plain_alike RunsDown refl c may
  task_alike Restarts c other may = let none : ⊥ = cc in absurd none

-- Worlds. M has the names of nodes whose disks may have something else.
module _ (M : Name → Type 0) where
  pub record IsOther (n m : Node) : Type 0 where
    pub down : n.up ≡ false
    pub quiet : n.under_way ≡ None
    pub but : m ≡ record n { durable = m.durable }
    pub may : M n.name

  abbrev pub AreLike : Node → Node → Type 0
  AreLike n m = (m ≡ n) ⊎ IsOther n m

  abbrev pub AllLike : List Node → List Node → Type 0
  AllLike [] [] = Unit {0}
  AllLike [] (m ∷ ms) = ⊥
  AllLike (n ∷ ns) [] = ⊥
  AllLike (n ∷ ns) (m ∷ ms) = AreLike n m × AllLike ns ms

  abbrev pub in_place : World → List Node → World
  in_place w ms = record w { nodes = ms }

  -- what does not look at the disk is the same
  pub like_by : {A : Type 0} (f : Node → A) → ((n : Node) (d : world.Durable) → f (record n { durable = d }) ≡ f n) → (n m : Node) → AreLike n m → f m ≡ f n
  like_by f h n m (inl same) = ap f same
  like_by f h n m (inr other) = ap f other.but ∙ h n m.durable

  pub like_name : (n m : Node) → AreLike n m → m.name ≡ n.name
  like_name n m l = like_by (λ (x : Node). x.name) (λ x d. refl) n m l

  -- the node of a name, by what it is and by what there is where it is missing
  abbrev pub look : {A : Type 0} → (Node → A) → A → Option Node → A
  look f none o = elim o [ Some n ↦ f n | None ↦ none ]

  pub looked : {A : Type 0} (f : Node → A) (none : A) → ((n : Node) (d : world.Durable) → f (record n { durable = d }) ≡ f n) → (name : Name) (ns ms : List Node) → AllLike ns ms → look f none (find_node name ms) ≡ look f none (find_node name ns)
  looked f none h name [] [] l = refl
  looked f none h name [] (m ∷ ms) l = absurd l
  looked f none h name (n ∷ ns) [] l = absurd l
  looked f none h name (n ∷ ns) (m ∷ ms) l = ap (λ (x : Name). look f none (if bytes_eq name x then Some m else find_node name ms)) (like_name n m l.0) ∙ go (bytes_eq name n.name) (looked f none h name ns ms l.1)
    where
      go : (b : Bool) → look f none (find_node name ms) ≡ look f none (find_node name ns) → look f none (if b then Some m else find_node name ms) ≡ look f none (if b then Some n else find_node name ns)
      go true more = like_by f h n m l.0
      go false more = more

  pub missing_like : (name : Name) (ns ms : List Node) → AllLike ns ms → find_node name ns ≡ None → find_node name ms ≡ None
  missing_like name ns ms l none = go (find_node name ms) refl (looked (λ n. true) false (λ n d. refl) name ns ms l ∙ ap (look (λ n. true) false) none)
    where
      go : (o : Option Node) → find_node name ms ≡ o → look (λ n. true) false o ≡ false → find_node name ms ≡ None
      go None e f = e
      go (Some m) e f = let no : ⊥ = cc in absurd no

  pub record Found (name : Name) (ms : List Node) (n : Node) : Type 0 where
    pub node : Node
    pub there : find_node name ms ≡ Some node
    pub like : AreLike n node

  pub found_like : (name : Name) (ns ms : List Node) (n : Node) → AllLike ns ms → find_node name ns ≡ Some n → Found name ms n
  found_like name [] ms n l e = let none : ⊥ = cc in absurd none
  found_like name (x ∷ ns) [] n l e = absurd l
  found_like name (x ∷ ns) (m ∷ ms) n l e = go (bytes_eq name x.name) refl e (found_like name ns ms n l.1)
    where
      here : (b : Bool) → bytes_eq name x.name ≡ b → find_node name (m ∷ ms) ≡ (if b then Some m else find_node name ms)
      here b is = ap (λ (c : Bool). if c then Some m else find_node name ms) (ap (bytes_eq name) (like_name x m l.0) ∙ is)

      go : (b : Bool) → bytes_eq name x.name ≡ b → ◌≡◌ {A = Option Node} (if b then Some x else find_node name ns) (Some n) → (find_node name ns ≡ Some n → Found name ms n) → Found name (m ∷ ms) n
      go true is k more = record { node = m; there = here true is; like = subst (λ (y : Node). AreLike y m) (some_is x n k) l.0 }
      go false is k more = let r = more k in record { node = r.node; there = here false is ∙ r.there; like = r.like }

  disk_like : (name : Name) (ns ms : List Node) (ds : List DiskCounts) → AllLike ns ms → disk_of name ms ds ≡ disk_of name ns ds
  disk_like name [] [] ds l = refl
  disk_like name [] (m ∷ ms) ds l = absurd l
  disk_like name (n ∷ ns) [] ds l = absurd l
  disk_like name (n ∷ ns) (m ∷ ms) [] l = refl
  disk_like name (n ∷ ns) (m ∷ ms) (d ∷ ds) l = ap (λ (x : Name). if bytes_eq name x then Some d else disk_of name ms ds) (like_name n m l.0) ∙ ap (λ (o : Option DiskCounts). if bytes_eq name n.name then Some d else o) (disk_like name ns ms ds l.1)

  put_like : (name : Name) (f g : Node) (ns ms : List Node) → AreLike f g → AllLike ns ms → AllLike (with_node name (λ k. f) ns) (with_node name (λ k. g) ms)
  put_like name f g [] [] it l = tt
  put_like name f g [] (m ∷ ms) it l = absurd l
  put_like name f g (n ∷ ns) [] it l = absurd l
  put_like name f g (n ∷ ns) (m ∷ ms) it l = subst (λ (x : Name). AllLike (with_node name (λ k. f) (n ∷ ns)) (if bytes_eq name x then g ∷ ms else m ∷ with_node name (λ k. g) ms)) (sym (like_name n m l.0)) (go (bytes_eq name n.name) (put_like name f g ns ms it l.1))
    where
      go : (b : Bool) → AllLike (with_node name (λ k. f) ns) (with_node name (λ k. g) ms) → AllLike (if b then f ∷ ns else n ∷ with_node name (λ k. f) ns) (if b then g ∷ ms else m ∷ with_node name (λ k. g) ms)
      go true more = (it, l.1)
      go false more = (l.0, more)

  pub apart_like : (ns ms : List Node) → AllLike ns ms → NamesApart ns → NamesApart ms
  apart_like [] [] l h = tt
  apart_like [] (m ∷ ms) l h = absurd l
  apart_like (n ∷ ns) [] l h = absurd l
  apart_like (n ∷ ns) (m ∷ ms) l h = (subst (λ (x : Name). find_node x ms ≡ None) (sym (like_name n m l.0)) (missing_like n.name ns ms l.1 h.0), apart_like ns ms l.1 h.1)

  -- S has the names of nodes that are the same again.
  module _ (S : Name → Type 0) where
    pub record IsLike (ns ms : List Node) : Type 0 where
      pub all : AllLike ns ms
      pub again : (name : Name) → S name → find_node name ms ≡ find_node name ns

    -- Parts.

    -- a part shows the same and comes to such nodes, where nodes are so before it
    record PartsAlike (e f : PartEffect) : Type 0 where
      nodes : List Node
      is : f ≡ record e { world = in_place e.world nodes }
      like : IsLike e.world.nodes nodes

    abbrev same_part : (e f : PartEffect) (ms : List Node) → f.lines ≡ e.lines → f.answer ≡ e.answer → f.ends ≡ e.ends → f.world ≡ in_place e.world ms → IsLike e.world.nodes ms → PartsAlike e f
    same_part e f ms lines answer ends goes l = record { nodes = ms; is = λ i. record { lines = lines i; answer = answer i; ends = ends i; world = goes i }; like = l }

    -- a boot is asked only of a node that is the same again
    abbrev Fits : Name → Task → Type 0
    Fits node t = is_boot t ≡ true → M node → S node

    -- a task was done at both
    record DoneBoth (w : World) (ms : List Node) (node : Name) (t : Task) (after : List DiskCounts) (c : Choice) : Type 0 where
      choice : Choice
      allowed : AllowedAt (in_place w ms) node t after choice
      alike : PartsAlike (done_at w node t c) (done_at (in_place w ms) node t choice)
      made : is_init t ≡ true → (done_at w node t c).answer ≡ Normal → find_node node alike.nodes ≡ find_node node (done_at w node t c).world.nodes

    abbrev rose_by : Option DiskCounts → Option DiskCounts → Cause → Type 0
    rose_by o p cause = elim o [ Some old ↦ elim p [ Some new ↦ Rose (count_of cause old) (count_of cause new) | None ↦ ⊥ ] | None ↦ ⊥ ]

    module _ (w : World) (ms : List Node) (l : IsLike w.nodes ms) (node : Name) (t : Task) (after : List DiskCounts) (c : Choice) where
      stops_like : stops_at node (in_place w ms) ≡ stops_at node w
      stops_like = ap (λ (o : Option DiskCounts). elim o as (λ x. ℕ) [ Some d ↦ d.stops | None ↦ 0 ]) (disk_like node w.nodes ms w.disks l.all)

      -- what is allowed there, by the same counts
      allowed_like : (m : Node) (b : Choice) → TaskAllowed w.shared (stops_at node w) m t (λ cause. RoseAt w node cause after) b → TaskAllowed w.shared (stops_at node (in_place w ms)) m t (λ cause. RoseAt (in_place w ms) node cause after) b
      allowed_like m b h =
          subst (λ k. TaskAllowed w.shared k m t (λ cause. RoseAt (in_place w ms) node cause after) b) (sym stops_like)
          (subst (λ o. TaskAllowed w.shared (stops_at node w) m t (λ cause. rose_by o (disk_of node ms after) cause) b) (sym (disk_like node w.nodes ms w.disks l.all))
          (subst (λ o. TaskAllowed w.shared (stops_at node w) m t (λ cause. rose_by (disk_of node w.nodes w.disks) o cause) b) (sym (disk_like node w.nodes ms after l.all)) h))

      module _ (n : Node) (found : find_node node w.nodes ≡ Some n) (m : Node) (there : find_node node ms ≡ Some m) where
        abbrev x : Node
        x = (task_effect w.shared (stops_at node w) n t c).node

        put_both : (b : Choice) (g : TaskEffect) → task_effect w.shared (stops_at node w) m t b ≡ g → TaskAllowed w.shared (stops_at node w) m t (λ cause. RoseAt w node cause after) b →
            g.lines ≡ (task_effect w.shared (stops_at node w) n t c).lines → g.answer ≡ (task_effect w.shared (stops_at node w) n t c).answer → g.ends ≡ (task_effect w.shared (stops_at node w) n t c).ends → g.shared ≡ (task_effect w.shared (stops_at node w) n t c).shared →
            AreLike (task_effect w.shared (stops_at node w) n t c).node g.node → (m ≡ n → g.node ≡ (task_effect w.shared (stops_at node w) n t c).node) →
            (is_init t ≡ true → (task_effect w.shared (stops_at node w) n t c).answer ≡ Normal → g.node ≡ (task_effect w.shared (stops_at node w) n t c).node) → DoneBoth w ms node t after c
        put_both b g is may lines answer ends shared like same made = record {
          choice = b;
          allowed = here_allowed (in_place w ms) node t m after b there (allowed_like m b may);
          alike = same_part (done_at w node t c) (done_at (in_place w ms) node t b) (with_node node (λ k. g.node) ms)
              (ap (λ (e : PartEffect). e.lines) other ∙ lines ∙ ap (λ (e : PartEffect). e.lines) (sym mine)) (ap (λ (e : PartEffect). e.answer) other ∙ answer ∙ ap (λ (e : PartEffect). e.answer) (sym mine)) (ap (λ (e : PartEffect). e.ends) other ∙ ends ∙ ap (λ (e : PartEffect). e.ends) (sym mine))
              (ap (λ (e : PartEffect). e.world) other ∙ (λ i. record w { nodes = with_node node (λ k. g.node) ms; shared = shared i }) ∙ ap (λ (e : PartEffect). in_place e.world (with_node node (λ k. g.node) ms)) (sym mine))
              (subst (λ (e : PartEffect). IsLike e.world.nodes (with_node node (λ k. g.node) ms)) (sym mine) (record { all = put_like node x g.node w.nodes ms like l.all; again = again }));
          made = λ i normal. put_found ms m g.node own_g there ∙ ap (λ (y : Node). Some y) (made i (sym (ap (λ (e : PartEffect). e.answer) mine) ∙ normal)) ∙ sym (put_found w.nodes n x own_x found) ∙ ap (λ (e : PartEffect). find_node node e.world.nodes) (sym mine);
        }
          where
            mine : done_at w node t c ≡ put_into w node (task_effect w.shared (stops_at node w) n t c)
            mine = done_here w node t n c found

            other : done_at (in_place w ms) node t b ≡ put_into (in_place w ms) node g
            other = done_here (in_place w ms) node t m b there ∙ ap (λ k. put_into (in_place w ms) node (task_effect w.shared k m t b)) stops_like ∙ ap (put_into (in_place w ms) node) is

            own_x : x.name ≡ node
            own_x = acts_name w.shared (stops_at node w) n t c ∙ name_found node w.nodes n found

            own_g : g.node.name ≡ node
            own_g = ap (λ (e : TaskEffect). e.node.name) (sym is) ∙ acts_name w.shared (stops_at node w) m t b ∙ name_found node ms m there

            put_found : (ks : List Node) (y z : Node) → z.name ≡ node → find_node node ks ≡ Some y → find_node node (with_node node (λ k. z) ks) ≡ Some z
            put_found ks y z named at = found_put node z y ks named at

            again : (name : Name) → S name → find_node name (with_node node (λ k. g.node) ms) ≡ find_node name (with_node node (λ k. x) w.nodes)
            again name s = elim (cases_name name node) [
              | inl is_node ↦
                  let here : find_node node ms ≡ find_node node w.nodes = ap (λ (y : Name). find_node y ms) (sym is_node) ∙ l.again name s ∙ ap (λ (y : Name). find_node y w.nodes) is_node in
                  let both : m ≡ n = some_is m n (sym there ∙ here ∙ found) in
                  ap (λ (y : Name). find_node y (with_node node (λ k. g.node) ms)) is_node ∙ put_found ms m g.node own_g there ∙ ap (λ (y : Node). Some y) (same both) ∙ sym (put_found w.nodes n x own_x found) ∙ ap (λ (y : Name). find_node y (with_node node (λ k. x) w.nodes)) (sym is_node)
              | inr away ↦ found_there name node g.node ms own_g away ∙ l.again name s ∙ sym (found_there name node x w.nodes own_x away)
            ]

        -- both are the same
        both_same : m ≡ n → TaskAllowed w.shared (stops_at node w) n t (λ cause. RoseAt w node cause after) c → DoneBoth w ms node t after c
        both_same is may = put_both c (task_effect w.shared (stops_at node w) n t c) (ap (λ (y : Node). task_effect w.shared (stops_at node w) y t c) is) (subst (λ (y : Node). TaskAllowed w.shared (stops_at node w) y t (λ cause. RoseAt w node cause after) c) (sym is) may) refl refl refl refl (inl refl) (λ e. refl) (λ i normal. refl)

        both_other : Fits node t → AreLike n m → TaskAllowed w.shared (stops_at node w) n t (λ cause. RoseAt w node cause after) c → DoneBoth w ms node t after c
        both_other fits (inl is) may = both_same is may
        both_other fits (inr other) may = go (is_boot t) refl
          where
            go : (b : Bool) → is_boot t ≡ b → DoneBoth w ms node t after c
            go true boot =
                let s = fits boot (subst M (name_found node w.nodes n found) other.may) in
                both_same (some_is m n (sym there ∙ l.again node s ∙ found)) may
            go false off =
                let r = task_alike n m.durable w.shared (stops_at node w) (λ cause. RoseAt w node cause after) other.down other.quiet t c off may in
                let h = r.2 in
                put_both r.0 (task_effect w.shared (stops_at node w) (record n { durable = m.durable }) t r.0) (ap (λ (y : Node). task_effect w.shared (stops_at node w) y t r.0) other.but) (subst (λ (y : Node). TaskAllowed w.shared (stops_at node w) y t (λ cause. RoseAt w node cause after) r.0) (sym other.but) r.1)
                h.lines h.answer h.ends h.shared
                (inr (record { down = h.down; quiet = h.quiet; but = h.node; may = subst M (sym (acts_name w.shared (stops_at node w) n t c)) other.may })) (λ e. h.same (sym other.but ∙ e)) h.made

      done_both : Fits node t → AllowedAt w node t after c → DoneBoth w ms node t after c
      done_both fits may = go (find_node node w.nodes) refl
        where
          go : (o : Option Node) → find_node node w.nodes ≡ o → DoneBoth w ms node t after c
          go (Some n) found = let r = found_like node w.nodes ms n l.all found in both_other n found r.node r.there fits r.like (allowed_here w node t n after c found may)
          go None none =
              let gone = missing_like node w.nodes ms l.all none in
              let mine : done_at w node t c ≡ Rattle.run_said.specs.run_model.Statements.no_node w = rw (none, done_at) refl in
              let other : done_at (in_place w ms) node t c ≡ Rattle.run_said.specs.run_model.Statements.no_node (in_place w ms) = rw (gone, done_at) refl in
              record {
                choice = c;
                allowed = subst (λ o. elim o as (λ x. Type 0) [ Some m ↦ TaskAllowed w.shared (stops_at node (in_place w ms)) m t (λ cause. RoseAt (in_place w ms) node cause after) c | None ↦ Unit {0} ]) (sym gone) tt;
                alike = record { nodes = ms; is = other ∙ ap (λ (e : PartEffect). record e { world = in_place e.world ms }) (sym mine); like = subst (λ (e : PartEffect). IsLike e.world.nodes ms) (sym mine) l };
                made = λ i normal. let no : line.NoSuchNode ≡ Normal = ap (λ (e : PartEffect). e.answer) (sym mine) ∙ normal in let never : ⊥ = cc in absurd never;
              }

    -- Questions of prepared branches do not look at disks.

    asking_like : (w : World) (ms : List Node) → AllLike w.nodes ms → (node : Name) (serial : Id) → asking (in_place w ms) node serial ≡ asking w node serial
    asking_like w ms l node serial = looked {A = Option Branch} (in_doubt serial) None (λ n d. refl) node w.nodes ms l

    asked_like : (w : World) (ms : List Node) → AllLike w.nodes ms → (k : BranchKey) → asked (in_place w ms) k ≡ asked w k
    asked_like w ms l k = looked {A = Question} (λ n. elim (answer_of n k) [ Some m ↦ Heard m | None ↦ Unanswered ]) (Doubtful k) (λ n d. refl) (coordinator_of k) w.nodes ms l

    question_like : (w : World) (ms : List Node) → AllLike w.nodes ms → (node : Name) (serial : Id) → question (in_place w ms) node serial ≡ question w node serial
    question_like w ms l node serial = ap (λ (o : Option Branch). elim o as (λ x. Question) [ Some b ↦ asked (in_place w ms) b.key | None ↦ Unanswered ]) (asking_like w ms l node serial) ∙ go (asking w node serial)
      where
        go : (o : Option Branch) → ◌≡◌ {A = Question} (elim o [ Some b ↦ asked (in_place w ms) b.key | None ↦ Unanswered ]) (elim o [ Some b ↦ asked w b.key | None ↦ Unanswered ])
        go (Some b) = asked_like w ms l b.key
        go None = refl

    abbrev PartFits : Part → Type 0
    PartFits (Does node t) = Fits node t
    PartFits (Asks node serial) = Unit {0}

    record BothDone (w : World) (ms : List Node) (p : Part) (after : List DiskCounts) (c : Choice) : Type 0 where
      choice : Choice
      allowed : Allowed (in_place w ms) p after choice
      alike : PartsAlike (part_effect w p c) (part_effect (in_place w ms) p choice)

    asks_both : (w : World) (ms : List Node) → IsLike w.nodes ms → (after : List DiskCounts) (c : Choice) (q : Question) → AllowedOf w after c q → (b : Choice) × AllowedOf (in_place w ms) after b q × PartsAlike (question_effect w c q) (question_effect (in_place w ms) b q)
    asks_both w ms l after c (Heard x) may = let r = done_both w ms l x.to (Hears x) after c (λ boot. let no : ⊥ = cc in absurd no) may in (r.choice, r.allowed, r.alike)
    asks_both w ms l after c Unanswered may = (c, tt, record { nodes = ms; is = refl; like = l })
    asks_both w ms l after c (Doubtful k) may = (c, tt, record { nodes = ms; is = refl; like = l })

    part_both : (w : World) (ms : List Node) → IsLike w.nodes ms → (p : Part) → PartFits p → (after : List DiskCounts) (c : Choice) → Allowed w p after c → BothDone w ms p after c
    part_both w ms l (Does node t) fits after c may = let r = done_both w ms l node t after c fits may in record { choice = r.choice; allowed = r.allowed; alike = r.alike }
    part_both w ms l (Asks node serial) fits after c may =
        let q = question_like w ms l.all node serial in
        let r = asks_both w ms l after c (question w node serial) may in
        record {
          choice = r.0;
          allowed = subst (AllowedOf (in_place w ms) after r.0) (sym q) r.1;
          alike = subst (λ (x : Question). PartsAlike (question_effect w c (question w node serial)) (question_effect (in_place w ms) r.0 x)) (sym q) r.2;
        }

    -- Phases.

    -- what follows from a world follows from it with the other nodes
    abbrev Follows : Onward → Onward → Type 0
    Follows A B = (w : World) (ms : List Node) (given : Line) (lines : List Line) (answer : Line) (v : World) → IsLike w.nodes ms → A w given lines answer v → (ks : List Node) × B (in_place w ms) given lines answer (in_place v ks) × IsLike v.nodes ks

    then_both : (e f : PartEffect) → PartsAlike e f → (A B : Onward) → Follows A B → (lines : List Line) (answer : Line) (v : World) → Then e A lines answer v → (ks : List Node) × Then f B lines answer (in_place v ks) × IsLike v.nodes ks
    then_both e f a A B follows lines answer v h = let r = go e.ends h in (r.0, subst (λ (x : PartEffect). Then x B lines answer (in_place v r.0)) (sym a.is) r.1, r.2)
      where
        go : (b : Bool) → Then (record e { ends = b }) A lines answer v → (ks : List Node) × Then (record e { ends = b; world = in_place e.world a.nodes }) B lines answer (in_place v ks) × IsLike v.nodes ks
        go true k = (a.nodes, (k.0, k.1, ap (λ (x : World). in_place x a.nodes) k.2), subst (λ (x : World). IsLike x.nodes a.nodes) (sym k.2) a.like)
        go false k = let r = follows e.world a.nodes e.answer k.0 answer v a.like k.2 in (r.0, (k.0, k.1, r.1), r.2)

    abbrev AllFit : List Part → Type 0
    AllFit [] = Unit {0}
    AllFit (p ∷ ps) = PartFits p × AllFit ps

    parts_both : (after : List DiskCounts) (ps : List Part) → AllFit ps → (A B : Onward) → Follows A B → Follows (Parts ps after A) (Parts ps after B)
    parts_both after [] fit A B follows w ms given lines answer v l h = follows w ms given lines answer v l h
    parts_both after (p ∷ ps) fit A B follows w ms given lines answer v l h =
        let r = part_both w ms l p fit.0 after h.0 h.1 in
        let t = then_both (part_effect w p h.0) (part_effect (in_place w ms) p r.choice) r.alike (Parts ps after A) (Parts ps after B) (parts_both after ps fit.1 A B follows) lines answer v h.2 in
        (t.0, (r.choice, r.allowed, t.1), t.2)

    -- a phase has the same parts, which fit
    record PhaseFits (p : Phase) : Type 0 where
      same : (w : World) (ms : List Node) → AllLike w.nodes ms → p (in_place w ms) ≡ p w
      fit : (w : World) → AllFit (p w)

    abbrev PhasesFit : List Phase → Type 0
    PhasesFit [] = Unit {0}
    PhasesFit (p ∷ ps) = PhaseFits p × PhasesFit ps

    phases_both : (after : List DiskCounts) (ps : List Phase) → PhasesFit ps → Follows (Phases ps after) (Phases ps after)
    phases_both after [] fit w ms given lines answer v l h = (ms, (h.0, h.1, ap (λ (x : World). in_place x ms) h.2), subst (λ (x : World). IsLike x.nodes ms) (sym h.2) l)
    phases_both after (p ∷ ps) fit w ms given lines answer v l h =
        let r = parts_both after (p w) (fit.0.fit w) (Phases ps after) (Phases ps after) (phases_both after ps fit.1) w ms given lines answer v l h in
        (r.0, subst (λ (qs : List Part). Parts qs after (Phases ps after) (in_place w ms) given lines answer (in_place v r.0)) (sym (fit.0.same w ms l.all)) r.1, r.2)

    -- Statements.

    -- each node that a statement boots is the same again
    abbrev pub Boots : Statement → Name → Type 0
    Boots s node = (s ≡ At node Boot) ⊎ (s ≡ Settle)

    abbrev pub StatementFits : Statement → Type 0
    StatementFits s = (node : Name) → Boots s node → M node → S node

    up_fits : (node : Name) (t : Task) → Fits node t → PhaseFits (where_up node t)
    up_fits node t fits = record {
      same = λ w ms l. ap (λ (b : Bool). if b then Does node t ∷ [] else []) (looked {A = Bool} (λ n. n.up) false (λ n d. refl) node w.nodes ms l);
      fit = λ w. go (is_up node w);
    }
      where
        go : (b : Bool) → AllFit (if b then Does node t ∷ [] else [])
        go true = (fits, tt)
        go false = tt

    one_fits : (node : Name) (t : Task) → Fits node t → PhaseFits (λ w. Does node t ∷ [])
    one_fits node t fits = record { same = λ w ms l. refl; fit = λ w. (fits, tt) }

    no_boot : (node : Name) (t : Task) → is_boot t ≡ false → Fits node t
    no_boot node t off boot = let no : false ≡ true = sym off ∙ boot in let none : ⊥ = cc in absurd none

    request_fits : (node : Name) (r : Request) → StatementFits (At node r) → PhasesFit (phases_of (At node r))
    request_fits node (Clock now) h = (one_fits node (Serves (Clock now)) (no_boot node (Serves (Clock now)) refl), (up_fits node Ticks (no_boot node Ticks refl), tt))
    request_fits node Boot h = (one_fits node (Serves Boot) (λ boot. h node (inl refl)), tt)
    request_fits node (Init slots journal) h = (one_fits node (Serves (Init slots journal)) (no_boot node (Serves (Init slots journal)) refl), tt)
    request_fits node (Fuse writes choice) h = (one_fits node (Serves (Fuse writes choice)) (no_boot node (Serves (Fuse writes choice)) refl), tt)
    request_fits node (said.Create file bucket size form) h = (one_fits node (Serves (said.Create file bucket size form)) (no_boot node (Serves (said.Create file bucket size form)) refl), tt)
    request_fits node (said.SetFile file setting) h = (one_fits node (Serves (said.SetFile file setting)) (no_boot node (Serves (said.SetFile file setting)) refl), tt)
    request_fits node (said.StartTrans label seconds) h = (one_fits node (Serves (said.StartTrans label seconds)) (no_boot node (Serves (said.StartTrans label seconds)) refl), tt)
    request_fits node (said.AddBranch label it new) h = (one_fits node (Serves (said.AddBranch label it new)) (no_boot node (Serves (said.AddBranch label it new)) refl), tt)
    request_fits node (said.StartBranch label) h = (one_fits node (Serves (said.StartBranch label)) (no_boot node (Serves (said.StartBranch label)) refl), tt)
    request_fits node (said.Records label file op) h = (one_fits node (Serves (said.Records label file op)) (no_boot node (Serves (said.Records label file op)) refl), tt)
    request_fits node (said.Direct file op) h = (one_fits node (Serves (said.Direct file op)) (no_boot node (Serves (said.Direct file op)) refl), tt)
    request_fits node (said.EndBranch label) h = (one_fits node (Serves (said.EndBranch label)) (no_boot node (Serves (said.EndBranch label)) refl), tt)
    request_fits node (said.EndTrans label) h = (one_fits node (Serves (said.EndTrans label)) (no_boot node (Serves (said.EndTrans label)) refl), tt)
    request_fits node (said.AbortTrans label) h = (one_fits node (Serves (said.AbortTrans label)) (no_boot node (Serves (said.AbortTrans label)) refl), tt)
    request_fits node (said.Inquire who) h = (one_fits node (Serves (said.Inquire who)) (no_boot node (Serves (said.Inquire who)) refl), tt)
    request_fits node (said.DeclareRm rm) h = (one_fits node (Serves (said.DeclareRm rm)) (no_boot node (Serves (said.DeclareRm rm)) refl), tt)
    request_fits node (said.JoinRm label rm) h = (one_fits node (Serves (said.JoinRm label rm)) (no_boot node (Serves (said.JoinRm label rm)) refl), tt)
    request_fits node (said.AckEvent who rm reply) h = (one_fits node (Serves (said.AckEvent who rm reply)) (no_boot node (Serves (said.AckEvent who rm reply)) refl), tt)
    request_fits node (said.ForgetRm rm) h = (one_fits node (Serves (said.ForgetRm rm)) (no_boot node (Serves (said.ForgetRm rm)) refl), tt)
    request_fits node (said.GetDti who) h = (one_fits node (Serves (said.GetDti who)) (no_boot node (Serves (said.GetDti who)) refl), tt)
    request_fits node said.LmcpShow h = (one_fits node (Serves said.LmcpShow) (no_boot node (Serves said.LmcpShow) refl), tt)
    request_fits node said.LmcpDump h = (one_fits node (Serves said.LmcpDump) (no_boot node (Serves said.LmcpDump) refl), tt)
    request_fits node (said.Dump file) h = (one_fits node (Serves (said.Dump file)) (no_boot node (Serves (said.Dump file)) refl), tt)
    request_fits node said.DumpJournal h = (one_fits node (Serves said.DumpJournal) (no_boot node (Serves said.DumpJournal) refl), tt)
    request_fits node (said.DumpImages file side) h = (one_fits node (Serves (said.DumpImages file side)) (no_boot node (Serves (said.DumpImages file side)) refl), tt)
    request_fits node (said.Backup file) h = (one_fits node (Serves (said.Backup file)) (no_boot node (Serves (said.Backup file)) refl), tt)
    request_fits node (said.Recover file way) h = (one_fits node (Serves (said.Recover file way)) (no_boot node (Serves (said.Recover file way)) refl), tt)
    request_fits node said.Crash h = (one_fits node (Serves said.Crash) (no_boot node (Serves said.Crash) refl), tt)

    restarts_like : (ns ms : List Node) → AllLike ns ms → restarts_of ms ≡ restarts_of ns
    restarts_like [] [] l = refl
    restarts_like [] (m ∷ ms) l = absurd l
    restarts_like (n ∷ ns) [] l = absurd l
    restarts_like (n ∷ ns) (m ∷ ms) l =
        let up : m.up ≡ n.up = like_by (λ (x : Node). x.up) (λ x d. refl) n m l.0 in
        let name = like_name n m l.0 in
        (λ i. if up i then restarts_of ms else Does (name i) Restarts ∷ restarts_of ms) ∙ ap (λ ps. if n.up then ps else Does n.name Restarts ∷ ps) (restarts_like ns ms l.1)

    run_downs_like : (ns ms : List Node) → AllLike ns ms → run_downs_of ms ≡ run_downs_of ns
    run_downs_like [] [] l = refl
    run_downs_like [] (m ∷ ms) l = absurd l
    run_downs_like (n ∷ ns) [] l = absurd l
    run_downs_like (n ∷ ns) (m ∷ ms) l = λ i. Does (like_name n m l.0 i) RunsDown ∷ run_downs_like ns ms l.1 i

    questions_like : (ns ms : List Node) → AllLike ns ms → all_questions ms ≡ all_questions ns
    questions_like [] [] l = refl
    questions_like [] (m ∷ ms) l = absurd l
    questions_like (n ∷ ns) [] l = absurd l
    questions_like (n ∷ ns) (m ∷ ms) l =
        let own : questions_of m.name (arranged m.volatile.preparation m.volatile.branches) ≡ questions_of n.name (arranged n.volatile.preparation n.volatile.branches) =
        like_by (λ (x : Node). questions_of x.name (arranged x.volatile.preparation x.volatile.branches)) (λ x d. refl) n m l.0 in
        λ i. own i ++ questions_like ns ms l.1 i

    restarts_fit : ((node : Name) → Fits node Restarts) → (ns : List Node) → AllFit (restarts_of ns)
    restarts_fit h [] = tt
    restarts_fit h (n ∷ ns) = go n.up (restarts_fit h ns)
      where
        go : (b : Bool) → AllFit (restarts_of ns) → AllFit (if b then restarts_of ns else Does n.name Restarts ∷ restarts_of ns)
        go true more = more
        go false more = (h n.name, more)

    run_downs_fit : (ns : List Node) → AllFit (run_downs_of ns)
    run_downs_fit [] = tt
    run_downs_fit (n ∷ ns) = (no_boot n.name RunsDown refl, run_downs_fit ns)

    fit_on : (ps qs : List Part) → AllFit ps → AllFit qs → AllFit (ps ++ qs)
    fit_on [] qs h k = k
    fit_on (p ∷ ps) qs h k = (h.0, fit_on ps qs h.1 k)

    one_asked : (node : Name) (bs : List Branch) → AllFit (questions_of node bs)
    one_asked node [] = tt
    one_asked node (b ∷ bs) = go (is_prepared b.state) (one_asked node bs)
      where
        go : (t : Bool) → AllFit (questions_of node bs) → AllFit (if t then Asks node b.key.serial ∷ questions_of node bs else questions_of node bs)
        go true more = (tt, more)
        go false more = more

    questions_fit : (ns : List Node) → AllFit (all_questions ns)
    questions_fit [] = tt
    questions_fit (n ∷ ns) = fit_on (questions_of n.name (arranged n.volatile.preparation n.volatile.branches)) (all_questions ns) (one_asked n.name (arranged n.volatile.preparation n.volatile.branches)) (questions_fit ns)

    statement_fits : (s : Statement) → StatementFits s → PhasesFit (phases_of s)
    statement_fits (At node r) h = request_fits node r h
    statement_fits (Deliver number) h = (record { same = λ w ms l. refl; fit = λ w. go (message_at number w.shared.wire) }, tt)
      where
        go : (o : Option Message) → AllFit (elim o [ Some m ↦ Does m.to (Takes m) ∷ [] | None ↦ [] ])
        go (Some m) = (no_boot m.to (Takes m) refl, tt)
        go None = tt
    statement_fits (LinkDown a b) h = (up_fits a (LosesLink b) (no_boot a (LosesLink b) refl), (up_fits b (LosesLink a) (no_boot b (LosesLink a) refl), tt))
    statement_fits Settle h = (
      record { same = λ w ms l. restarts_like w.nodes ms l; fit = λ w. restarts_fit (λ node boot. h node (inr refl)) w.nodes },
      (record { same = λ w ms l. run_downs_like w.nodes ms l; fit = λ w. run_downs_fit w.nodes }, (record { same = λ w ms l. questions_like w.nodes ms l; fit = λ w. questions_fit w.nodes }, tt)),
    )

    named_like : (w : World) (ms : List Node) → AllLike w.nodes ms → (node : Name) → named_node (in_place w ms) node ≡ named_node w node
    named_like w ms l node = looked {A = Option Line} (λ n. None) (Some line.NoSuchNode) (λ n d. refl) node w.nodes ms l

    other_like : (w : World) (ms : List Node) → AllLike w.nodes ms → (r : Request) → other_node (in_place w ms) r ≡ other_node w r
    other_like w ms l (said.AddBranch label it new) = named_like w ms l it
    other_like w ms l _ = refl

    refused_like : (w : World) (ms : List Node) → AllLike w.nodes ms → (s : Statement) → refused_at_once (in_place w ms) s ≡ refused_at_once w s
    refused_like w ms l (At node r) = λ i. first_of (named_like w ms l node i) (other_like w ms l r i)
    refused_like w ms l (Deliver number) = go (message_at number w.shared.wire)
      where
        go : (o : Option Message) → ◌≡◌ {A = Option Line} (elim o [ Some m ↦ named_node (in_place w ms) m.to | None ↦ Some line.NoSuchMessage ]) (elim o [ Some m ↦ named_node w m.to | None ↦ Some line.NoSuchMessage ])
        go (Some m) = named_like w ms l m.to
        go None = refl
    refused_like w ms l (LinkDown a b) = λ i. first_of (named_like w ms l a i) (first_of (named_like w ms l b i) (refused_if (bytes_eq a b) line.BadParameter))
    refused_like w ms l Settle = refl

    begun_like : (s : Statement) (w : World) (ms : List Node) → IsLike w.nodes ms → (begun_with s (in_place w ms) ≡ in_place (begun_with s w) ms) × IsLike (begun_with s w).nodes ms
    begun_like Settle w ms l = (refl, l)
    begun_like (At node r) w ms l = (refl, l)
    begun_like (Deliver number) w ms l = (refl, l)
    begun_like (LinkDown a b) w ms l = (refl, l)

    pub record StepLike (w : World) (ms : List Node) (s : Statement) (lines : List Line) (v : World) : Type 0 where
      pub nodes : List Node
      pub step : Step (in_place w ms) s lines (in_place v nodes)
      pub like : IsLike v.nodes nodes

    -- what a statement does, by the other nodes
    abbrev step_by : (w v : World) (ms : List Node) (s : Statement) (lines : List Line) → IsLike w.nodes ms → (step : Step w s lines v) → (ks : List Node) → Begins (refused_at_once w s) (Phases (phases_of s) v.disks (begun_with s (in_place w ms)) Normal) (in_place w ms) step.events step.answer (in_place step.world ks) → IsLike step.world.nodes ks → StepLike w ms s lines v
    step_by w v ms s lines l step ks does like = record {
      nodes = ks;
      step = record {
        events = step.events;
        answer = step.answer;
        world = in_place step.world ks;
        does = subst (λ o. Begins o (Phases (phases_of s) v.disks (begun_with s (in_place w ms)) Normal) (in_place w ms) step.events step.answer (in_place step.world ks)) (sym (refused_like w ms l.all s)) does;
        counts = step.counts;
        shows = step.shows;
        goes = ap (λ (x : World). in_place x ks) step.goes;
      };
      like = subst (λ (x : World). IsLike x.nodes ks) (sym step.goes) like;
    }

    pub step_like : (w v : World) (ms : List Node) (s : Statement) (lines : List Line) → IsLike w.nodes ms → StatementFits s → Step w s lines v → StepLike w ms s lines v
    step_like w v ms s lines l fits step = let r = go (refused_at_once w s) step.does in step_by w v ms s lines l step r.0 r.1 r.2
      where
        go : (o : Option Line) → Begins o (Phases (phases_of s) v.disks (begun_with s w) Normal) w step.events step.answer step.world →
            (ks : List Node) × Begins o (Phases (phases_of s) v.disks (begun_with s (in_place w ms)) Normal) (in_place w ms) step.events step.answer (in_place step.world ks) × IsLike step.world.nodes ks
        go (Some refusal) k = (ms, (k.0, k.1, ap (λ (x : World). in_place x ms) k.2), subst (λ (x : World). IsLike x.nodes ms) (sym k.2) l)
        go None k =
            let b = begun_like s w ms l in
            let r = phases_both v.disks (phases_of s) (statement_fits s fits) (begun_with s w) ms Normal step.events step.answer step.world b.1 k in
            (r.0, subst (λ (x : World). Phases (phases_of s) v.disks x Normal step.events step.answer (in_place step.world r.0)) (sym b.0) r.1, r.2)

    -- an INIT that succeeds leaves the same node
    record InitLike (w : World) (ms : List Node) (node : Name) (s : Statement) (lines : List Line) (v : World) : Type 0 where
      by : StepLike w ms s lines v
      made : find_node node by.nodes ≡ find_node node v.nodes

    init_like : (w v : World) (ms : List Node) (node : Name) (slots journal : ℕ) (lines : List Line) → IsLike w.nodes ms → Step w (At node (Init slots journal)) lines v → last_or None lines ≡ Some Normal → InitLike w ms node (At node (Init slots journal)) lines v
    init_like w v ms node slots journal lines l step answered = go (refused_at_once w (At node (Init slots journal))) refl step.does
      where
        last_behind : (xs : List Line) (x : Line) → last_or None (xs ++ x ∷ []) ≡ Some x
        last_behind [] x = refl
        last_behind (y ∷ []) x = refl
        last_behind (y ∷ z ∷ xs) x = last_behind (z ∷ xs) x

        normal : step.answer ≡ Normal
        normal = some_is step.answer Normal (sym (last_behind step.events step.answer) ∙ sym (ap (λ (ls : List Line). last_or None ls) step.shows) ∙ answered)

        no_refusal : (o : Option Node) → first_of (elim o [ Some n ↦ None | None ↦ Some line.NoSuchNode ]) None ≡ Some Normal → ⊥
        no_refusal (Some n) e = let no : ⊥ = cc in no
        no_refusal None e = let no : ⊥ = cc in no

        go : (o : Option Line) → refused_at_once w (At node (Init slots journal)) ≡ o → Begins o (Phases (phases_of (At node (Init slots journal))) v.disks w Normal) w step.events step.answer step.world → InitLike w ms node (At node (Init slots journal)) lines v
        go (Some refusal) is k = absurd (no_refusal (find_node node w.nodes) (is ∙ ap (λ (x : Line). Some x) (sym k.1 ∙ normal)))
        go None is k =
            let t = Serves (Init slots journal) in
            let r = done_both w ms l node t v.disks k.0 (λ boot. let no : ⊥ = cc in absurd no) k.1 in
            let e = ended (done_at w node t k.0) v.disks step.events step.answer step.world k.2 in
            let f : PartEffect = done_at (in_place w ms) node t r.choice in
            let all_done : Then f (Parts [] v.disks (Phases [] v.disks)) f.lines f.answer f.world = ends_so f v.disks in
            let lines_are : f.lines ≡ step.events = ap (λ (x : PartEffect). x.lines) r.alike.is ∙ sym e.0 in
            let answer_is : f.answer ≡ step.answer = ap (λ (x : PartEffect). x.answer) r.alike.is ∙ sym e.1 in
            let world_is : f.world ≡ in_place step.world r.alike.nodes = ap (λ (x : PartEffect). x.world) r.alike.is ∙ ap (λ (x : World). in_place x r.alike.nodes) (sym e.2) in
            let done : Phases (phases_of (At node (Init slots journal))) v.disks (in_place w ms) Normal step.events step.answer (in_place step.world r.alike.nodes) = (
              r.choice,
              r.allowed,
              subst (λ x. Then (done_at (in_place w ms) node t r.choice) (Parts [] v.disks (Phases [] v.disks)) step.events step.answer x) world_is
                  (subst (λ x. Then (done_at (in_place w ms) node t r.choice) (Parts [] v.disks (Phases [] v.disks)) step.events x (done_at (in_place w ms) node t r.choice).world) answer_is
                  (subst (λ x. Then (done_at (in_place w ms) node t r.choice) (Parts [] v.disks (Phases [] v.disks)) x (done_at (in_place w ms) node t r.choice).answer (done_at (in_place w ms) node t r.choice).world) lines_are all_done)),
            ) in
            record {
              by = step_by w v ms (At node (Init slots journal)) lines l step r.alike.nodes (subst (λ o. Begins o (Phases (phases_of (At node (Init slots journal))) v.disks (in_place w ms) Normal) (in_place w ms) step.events step.answer (in_place step.world r.alike.nodes)) (sym is) done)
                  (subst (λ (x : World). IsLike x.nodes r.alike.nodes) (sym e.2) r.alike.like);
              made = r.made refl (sym e.1 ∙ normal) ∙ ap (λ (x : World). find_node node x.nodes) (sym (step.goes ∙ ap (λ (x : World). record x { disks = v.disks }) e.2));
            }

-- Entries.

pub no_split : (front back : List Entry) (f : Entry) → [] ≡ front ++ f ∷ back → ⊥
no_split [] back f e = let none : ⊥ = cc in none
no_split (x ∷ front) back f e = let none : ⊥ = cc in none

moved_on : (full later es : List Entry) (e : Entry) → full ≡ later ++ e ∷ es → full ≡ (later ++ e ∷ []) ++ es
moved_on full later es e parts = parts ∙ sym (append_assoc later (e ∷ []) es)

-- it is made by the newest entry, or was before
pub made_by : (node : Name) (e : Entry) (es : List Entry) → IsMadeIn node (e ∷ es) → Makes node e ⊎ IsMadeIn node es
made_by node e es (f, [], back, is, makes) = inl (subst (Makes node) (sym (let same : e ≡ f = cc in same)) makes)
made_by node e es (f, x ∷ front, back, is, makes) = inr (f, front, back, (let same : es ≡ front ++ f ∷ back = cc in same), makes)

module _ (full : List Entry) (T : Name → Type 0) where
  abbrev pub M : Name → Type 0
  M node = IsMadeAnew node full

  -- nodes that are the same again: these, and those of which a volume was made
  abbrev pub Again : List Entry → Name → Type 0
  Again es node = T node ⊎ IsMadeIn node es

  abbrev pub Like : List Entry → List Node → List Node → Type 0
  Like es ns ms = IsLike M (Again es) ns ms

  pub record TurnLike (w : World) (ms : List Node) (r : Reading) (e : Entry) (es : List Entry) (v : World) : Type 0 where
    pub nodes : List Node
    pub turn : Turn (record w { nodes = ms }) r e.lines (record v { nodes = nodes })
    pub like : Like (e ∷ es) v.nodes nodes

  -- an entry that makes no volume
  more_like : (e : Entry) (es : List Entry) (ns ms : List Node) → ((node : Name) → Makes node e → find_node node ms ≡ find_node node ns) → Like es ns ms → Like (e ∷ es) ns ms
  more_like e es ns ms makes l = record { all = l.all; again = λ node s. elim s [ inl t ↦ l.again node (inl t) | inr made ↦ elim (made_by node e es made) [ inl m ↦ makes node m | inr before ↦ l.again node (inr before) ] ] }

  -- an entry that makes a volume is an INIT of that node
  pub turn_like : (w v : World) (ms : List Node) (e : Entry) (es : List Entry) (r : Reading) → reading e.source.text ≡ r → Like es w.nodes ms → ((s : Statement) (node : Name) → reading e.source.text ≡ Says s → (s ≡ At node Boot) ⊎ (s ≡ Settle) → M node → Again es node) → Turn w r e.lines v → TurnLike w ms r e es v
  turn_like w v ms e es Blank says l fits turn = record {
    nodes = ms;
    turn = (turn.0, ap (λ (x : World). record x { nodes = ms }) turn.1);
    like = more_like e es v.nodes ms (λ node m. let no : ◌≡◌ {A = Reading} Blank (Says (At node (Init m.slots m.journal))) = sym says ∙ m.says in let none : ⊥ = cc in absurd none) (subst (λ (x : World). Like es x.nodes ms) (sym turn.1) l);
  }
  turn_like w v ms e es (Bad column) says l fits turn = absurd turn
  turn_like w v ms e es (Says s) says l fits turn = by s says turn
    where
      plain : (s : Statement) → reading e.source.text ≡ Says s → ((node : Name) (slots journal : ℕ) → s ≡ At node (Init slots journal) → ⊥) → Step w s e.lines v → TurnLike w ms (Says s) e es v
      plain s says other step =
          let r = step_like M (Again es) w v ms s e.lines l (λ node boots. fits s node says boots) step in
          record { nodes = r.nodes; turn = r.step; like = more_like e es v.nodes r.nodes (λ node m. let is : ◌≡◌ {A = Reading} (Says s) (Says (At node (Init m.slots m.journal))) = sym says ∙ m.says in let same : s ≡ At node (Init m.slots m.journal) = cc in absurd (other node m.slots m.journal same)) r.like }

      -- one that succeeds, or does not
      inits : (m : Name) (slots journal : ℕ) → reading e.source.text ≡ Says (At m (Init slots journal)) → Step w (At m (Init slots journal)) e.lines v → (o : Option Line) → last_or None e.lines ≡ o → TurnLike w ms (Says (At m (Init slots journal))) e es v
      inits m slots journal says step (Some Normal) answered =
          let r = init_like M (Again es) w v ms m slots journal e.lines l step answered in
          record {
            nodes = r.by.nodes;
            turn = r.by.step;
            like = more_like e es v.nodes r.by.nodes (λ node x. (let is : ◌≡◌ {A = Reading} (Says (At m (Init slots journal))) (Says (At node (Init x.slots x.journal))) = sym says ∙ x.says in let same : m ≡ node = cc in subst (λ (y : Name). find_node y r.by.nodes ≡ find_node y v.nodes) same r.made)) r.by.like;
          }
      inits m slots journal says step o answered =
          let r = step_like M (Again es) w v ms (At m (Init slots journal)) e.lines l (λ node boots. fits (At m (Init slots journal)) node says boots) step in
          record { nodes = r.nodes; turn = r.step; like = more_like e es v.nodes r.nodes (λ node x. let is : o ≡ Some Normal = sym answered ∙ x.answered in let none : ⊥ = cc in absurd none) r.like }

      request : (m : Name) (q : Request) → reading e.source.text ≡ Says (At m q) → Step w (At m q) e.lines v → TurnLike w ms (Says (At m q)) e es v
      request m (Init slots journal) says step = inits m slots journal says step (last_or None e.lines) refl
      request m q says step = plain (At m q) says (λ node slots journal same. let none : ⊥ = cc in none) step

      by : (s : Statement) → reading e.source.text ≡ Says s → Step w s e.lines v → TurnLike w ms (Says s) e es v
      by (At m q) says step = request m q says step
      by (Deliver number) says step = plain (Deliver number) says (λ node slots journal same. let none : ⊥ = cc in none) step
      by (LinkDown a b) says step = plain (LinkDown a b) says (λ node slots journal same. let none : ⊥ = cc in none) step
      by Settle says step = plain Settle says (λ node slots journal same. let none : ⊥ = cc in none) step

  -- entries that lead on from such worlds
  pub record PathLike (start : World) (first : List Node) (before es : List Entry) (w : World) : Type 0 where
    pub nodes : List Node
    pub legal : Legal (record start { nodes = first }) es (record w { nodes = nodes })
    pub like : Like (es ++ before) w.nodes nodes

  pub path_like : (start : World) (first : List Node) (before : List Entry) → Like before start.nodes first → (later es : List Entry) (w : World) → full ≡ later ++ (es ++ before) → Legal start es w → PathLike start first before es w
  path_like start first before l later [] w parts legal = record { nodes = first; legal = ap (λ (x : World). record x { nodes = first }) legal; like = subst (λ (x : World). Like before x.nodes first) (sym legal) l }
  path_like start first before l later (e ∷ es) w parts legal =
      let front = path_like start first before l (later ++ e ∷ []) es legal.0 (moved_on full later (es ++ before) e parts) legal.1 in
      let r = turn_like legal.0 w front.nodes e (es ++ before) (reading e.source.text) refl front.like (λ s node says boots m. inr (m.first (es ++ before) later e s parts says boots)) legal.2 in
      record { nodes = r.nodes; legal = (record legal.0 { nodes = front.nodes }, front.legal, r.turn); like = r.like }

  pub record LegalLike (others : List Node) (disks : List DiskCounts) (es : List Entry) (w : World) : Type 0 where
    pub nodes : List Node
    pub legal : Legal (opened others disks) es (record w { nodes = nodes })
    pub like : Like es w.nodes nodes

  pub legal_like : (nodes others : List Node) (disks : List DiskCounts) → Like [] nodes others → (later es : List Entry) (w : World) → full ≡ later ++ es → Legal (opened nodes disks) es w → LegalLike others disks es w
  legal_like nodes others disks first later [] w parts legal = record { nodes = others; legal = ap (λ (x : World). record x { nodes = others }) legal; like = subst (λ (x : World). Like [] x.nodes others) (sym legal) first }
  legal_like nodes others disks first later (e ∷ es) w parts legal =
      let before = legal_like nodes others disks first (later ++ e ∷ []) es legal.0 (moved_on full later es e parts) legal.1 in
      let r = turn_like legal.0 w before.nodes e es (reading e.source.text) refl before.like (λ s node says boots m. inr (m.first es later e s parts says boots)) legal.2 in
      record { nodes = r.nodes; legal = (record legal.0 { nodes = before.nodes }, before.legal, r.turn); like = r.like }

  pub opening_like : (nodes others : List Node) → AreOpening nodes → AreOpening others → AreForgotten full nodes others → AllLike M nodes others
  opening_like [] [] o p f = tt
  opening_like [] (m ∷ ms) o p f = absurd f
  opening_like (n ∷ ns) [] o p f = absurd f
  opening_like (n ∷ ns) (m ∷ ms) o p f = (one f.0, opening_like ns ms o.1 p.1 f.1)
    where
      a : Rattle.run_said.specs.run_model.World.IsOpening n
      a = o.0

      b : Rattle.run_said.specs.run_model.World.IsOpening m
      b = p.0

      one : (m ≡ n) ⊎ (IsMadeAnew n.name full × (m.name ≡ n.name) × (m.blocks ≡ n.blocks)) → AreLike M n m
      one (inl same) = inl same
      one (inr other) = inr (record {
        down = a.down;
        quiet = a.under_way;
        but = λ i. record {
          name = other.1 i;
          blocks = other.2 i;
          durable = m.durable;
          volatile = (b.volatile ∙ sym a.volatile) i;
          unmade = (b.made ∙ sym a.made) i;
          up = (b.down ∙ sym a.down) i;
          was_up = (b.was_down ∙ sym a.was_down) i;
          clock = (b.clock ∙ sym a.clock) i;
          settled = (b.settled ∙ sym a.settled) i;
          calls = (b.calls ∙ sym a.calls) i;
          under_way = (b.under_way ∙ sym a.under_way) i;
        };
        may = other.0;
      })

  -- where each is made anew, all are the same again
  pub all_again : (ns ms : List Node) → NamesApart ns → AllLike M ns ms → ((node : Name) → M node → find_node node ms ≡ find_node node ns) → ms ≡ ns
  all_again [] [] apart l again = refl
  all_again [] (m ∷ ms) apart l again = absurd l
  all_again (n ∷ ns) [] apart l again = absurd l
  all_again (n ∷ ns) (m ∷ ms) apart l again = λ i. one l.0 i ∷ all_again ns ms apart.1 l.1 rest i
    where
      named : m.name ≡ n.name
      named = like_name M n m l.0

      head : (x : Node) (xs : List Node) (b : Bool) (name : Name) → bytes_eq name x.name ≡ b → find_node name (x ∷ xs) ≡ (if b then Some x else find_node name xs)
      head x xs b name is = ap (λ (c : Bool). if c then Some x else find_node name xs) is

      one : AreLike M n m → m ≡ n
      one (inl same) = same
      one (inr other) = some_is m n (sym (head m ms true n.name (bytes_itself n.name m.name (sym named))) ∙ again n.name other.may ∙ head n ns true n.name (bytes_itself n.name n.name refl))

      rest : (node : Name) → M node → find_node node ms ≡ find_node node ns
      rest node may = go (bytes_eq node n.name) refl
        where
          go : (b : Bool) → bytes_eq node n.name ≡ b → find_node node ms ≡ find_node node ns
          go true is =
              let gone : find_node node ns ≡ None = subst (λ (y : Name). find_node y ns ≡ None) (sym (bytes_same node n.name is)) apart.0 in
              missing_like M node ns ms l.1 gone ∙ sym gone
          go false is = sym (head m ms false node (ap (bytes_eq node) named ∙ is)) ∙ again node may ∙ head n ns false node is

-- no other node is the same from the first
abbrev pub no_other : Name → Type 0
no_other node = ⊥

pub inits_forget : InitsForget
inits_forget nodes others disks es closing opening opens apart forgotten legal =
    let first : Like es no_other [] nodes others = record { all = opening_like es no_other nodes others opening opens forgotten; again = λ node s. elim s [ inl none ↦ absurd none | inr made ↦ absurd (no_split made.1 made.2 made.0 made.3) ] } in
    let r = legal_like es no_other nodes others disks first [] es closing refl legal in
    let same = all_again es no_other closing.nodes r.nodes (legal_names (opened nodes disks) closing es apart legal) r.like.all (λ node m. r.like.again node (inr m.made)) in
    subst (λ (ns : List Node). Legal (opened others disks) es (record closing { nodes = ns })) same r.legal
