-- A branch whose abort a fall found under way is never committed.
use Rattle.std.proofs.Common.{◌≡◌, ℕ, zero, suc, ◌⊎◌, List, [], ◌∷◌, ◌++◌, take, inl, inr, Bool, true, false, Option, Some, None, if◌then◌else◌, refl, sym, ◌∙◌, ap, subst}
use Rattle.std.specs.Prelude.{nat_lt, length}
use Rattle.std.specs.Option.{option_map}
use Rattle.std.proofs.lemmas.Bool.{both_ways}
use Rattle.vms_model.specs.Ids.{Id}
use Rattle.vms_model.specs.Transactions.{Reason}
use Rattle.vms_model.specs.Limits.{message_limit}
use Rattle.run_said.specs.transcript_model.Lines as line
use Rattle.run_said.specs.transcript_model.Lines.{Line}
use Rattle.run_said.specs.script_model.Statements.{Statement, At, Deliver, LinkDown, Settle, Clock}
use Rattle.commit_protocol.specs.Messages as message
use Rattle.commit_protocol.specs.Messages.{LogRecord, Message}
use Rattle.commit_protocol.specs.Table as table
use Rattle.commit_protocol.specs.Table.{Branch, Key as BranchKey, coordinator_of, key_of, prepared_records}
use Rattle.commit_protocol.specs.World.{In}
use Rattle.commit_protocol.specs.Opening.{Opening}
use Rattle.commit_protocol.proofs.Lists.{in_left, slice_in}
use Rattle.run_said.specs.log_laws.Slots.{prepared_of, records_in}
use Rattle.run_said.specs.run_model.World as world
use Rattle.run_said.specs.run_model.World.{World, Shared, Node, Act, DiskCounts, find_node, posted, shared_after, shared_tabled, with_node}
use Rattle.run_said.specs.run_model.Answers.{Row, Task, Serves, Ticks, Takes, Hears, LosesLink, RunsDown, Restarts, refused_before_reading, task_service}
use Rattle.run_said.specs.run_model.Steps.{Choice, Cut, Unpowered, Whole, WithoutMemory, begun, ready_node, rows_to_cut, shared_after_rows, shared_then, TaskEffect, task_effect, whole}
use Rattle.run_said.specs.run_model.Statements.{Part, Does, Asks, PartEffect, Question, Heard, Unanswered, Doubtful, Onward, Parts, Phase, Phases, Step, Allowed, RoseAt, Begins, all_questions, answer_of, asked, asking, begun_with, message_at, named_node, part_effect, phases_of, put_into, question, question_effect, refused_at_once, restarts_of, run_downs_of, stops_at}
use Rattle.run_said.specs.run_model.StepLaws.{TaskAt, asked_by, task_of, task_of_part}
use Rattle.run_said.proofs.run_model.NodeLists.{found_name, some_is}
use Rattle.run_said.proofs.run_model.PartLemmas.{EachPhase, done_here, here_allowed, phases_fold}
use Rattle.run_said.proofs.run_model.PartTasks.{View, Doing, Fixed, each_up, view}
use Rattle.run_said.proofs.run_model.TaskLemmas.{effect_name}
use Rattle.run_agreement.proofs.Parts.{AllUp}
use Rattle.run_agreement.proofs.Runs.{AreDowns, AreRestarts, Asking, Booting, Downing, all_ask, are_downs, are_restarts, asking_carries, booted_all, booting_carries, downing_carries, to_boot}
use Rattle.run_laws.proofs.Dying.{HasNone, answers_none}
use Rattle.run_laws.proofs.Falling.{Fell, NoRecord, RecordsOf, ToldSo, Unprepared, Was, IsMessage, aborting, fell_effect}
use Rattle.run_laws.proofs.Named.{Ended, Refused, Turned, ended}
use Rattle.run_laws.proofs.SoundWorlds.{Beside, Changed, Here, IsSound, begins_sound, changed, part_sound, sound_node}
use Rattle.run_laws.proofs.Staying.{find_put}

-- What was sent stays sent.

posts : (m : Message) (wire : List Message) (x : Message) → In x wire → In x (posted m wire)
posts m wire x i = go (nat_lt (length wire) message_limit)
  where
    go : (b : Bool) → In x (if b then wire ++ m ∷ [] else wire)
    go true = in_left x wire (m ∷ []) i
    go false = i

tabled_sent : (a : table.Act) (s : Shared) (x : Message) → In x s.wire → In x (shared_tabled a s).wire
tabled_sent (table.Sends m) s x i = posts m s.wire x i
tabled_sent _ s x i = i

act_sent : (act : Act) (s : Shared) (x : Message) → In x s.wire → In x (shared_after act s).wire
act_sent (world.Tables a moment) s x i = tabled_sent a s x i
act_sent _ s x i = i

then_sent : (o : Option Act) (s : Shared) (x : Message) → In x s.wire → In x (shared_then o s).wire
then_sent None s x i = i
then_sent (Some act) s x i = act_sent act s x i

rows_sent : (rs : List Row) (s : Shared) (x : Message) → In x s.wire → In x (shared_after_rows rs s).wire
rows_sent [] s x i = i
rows_sent (r ∷ rs) s x i = rows_sent rs (shared_then r.act s) x (then_sent r.act s x i)

effect_sent : (s : Shared) (stops : ℕ) (n : Node) (t : Task) (c : Choice) (x : Message) → In x s.wire → In x (task_effect s stops n t c).shared.wire
effect_sent s stops n t (Whole o) x i = go (refused_before_reading s n (task_service t))
  where
    ready : Node
    ready = ready_node o stops (task_service t) n

    late : (q : Option Line) → In x (begun s ready (task_service t) q).shared.wire
    late (Some refusal) = i
    late None = then_sent (task_service t).closing (shared_after_rows ((task_service t).rows s ready) s) x (rows_sent ((task_service t).rows s ready) s x i)

    go : (q : Option Line) → In x (whole s n ready (task_service t) q).shared.wire
    go (Some refusal) = i
    go None = late ((task_service t).refused_after_reading s ready)
effect_sent s stops n t WithoutMemory x i = i
effect_sent s stops n t Unpowered x i = i
effect_sent s stops n t (Cut o j b cause) x i = rows_sent (take j (rows_to_cut s (ready_node o stops (task_service t) n) (task_service t))) s x i

module _ (k : BranchKey) (reason : Reason) (r : Option LogRecord) (moment : ℕ) where
  abbrev act : Act
  act = aborting k reason r moment

  -- it is under way at this node
  abbrev pub IsAborting : World → List ℕ → Node → Type 0
  IsAborting w node n = (find_node node w.nodes ≡ Some n) × (n.under_way ≡ Some act)

  -- it was so in the world before, with the same log
  abbrev pub Before : World → List ℕ → Node → Type 0
  Before w node n = (m : Node) × IsAborting w node m × (n.durable.log ≡ m.durable.log)

  -- What a part leaves: the branch was told to abort, by a message that its node took or heard.
  pub record WasTold (w : World) (p : Part) (node : List ℕ) (n : Node) : Type 0 where
    pub task : Task
    pub old : Node
    pub message : Message
    pub is : task_of_part w p ≡ Some (record { node = node; task = task })
    pub found : find_node node w.nodes ≡ Some old
    pub told : IsMessage task message
    pub kind : message.kind ≡ Rattle.commit_protocol.specs.Messages.Abort
    pub key : k ≡ key_of message
    pub up : old.up ≡ true
    pub records : RecordsOf n k
    pub same : (task ≡ Hears message) → (n.durable ≡ old.durable) × (n.volatile ≡ old.volatile)

  abbrev pub PartLeaves : World → Part → List ℕ → Node → Type 0
  PartLeaves w p node n = Before w node n ⊎ NoRecord n k.serial ⊎ WasTold w p node n

  pub part_leaves : (w : World) (p : Part) (c : Choice) (after : List DiskCounts) → Allowed w p after c → IsSound w → (node : List ℕ) (n : Node) → IsAborting (part_effect w p c).world node n → PartLeaves w p node n
  part_leaves w p c after allowed sound node n at = go (view w p)
    where
      go : View w p → PartLeaves w p node n
      go (Fixed answer ends kind is) = inl (n, subst (λ (x : PartEffect). IsAborting x.world node n) (is c) at, refl)
      go (Doing other t m named found does may) =
          let e = task_effect w.shared (stops_at other w) m t c in
          let there = subst (λ (x : PartEffect). IsAborting x.world node n) (does c) at in
          by (changed other node m w.nodes e.node n (effect_name w.shared (stops_at other w) m t c) found there.0)
        where
          by : Changed other node m w.nodes (task_effect w.shared (stops_at other w) m t c).node n → PartLeaves w p node n
          by (Beside apart is) = inl (n, (is, at.1), refl)
          by (Here same is) = of (fell_effect k reason r moment w.shared (stops_at other w) m (sound_node w sound other m found).kept t c (λ cause. RoseAt w other cause after) (may after c allowed) (ap (λ (x : Node). x.under_way) (sym is) ∙ at.1))
            where
              here : find_node node w.nodes ≡ Some m
              here = ap (λ x. find_node x w.nodes) same ∙ found

              of : Fell m t k reason r moment (task_effect w.shared (stops_at other w) m t c).node → PartLeaves w p node n
              of (Was was log) = inl (m, (here, was), ap (λ (x : Node). x.durable.log) is ∙ log)
              of (Unprepared up none) = inr (inl (subst (λ (x : Node). NoRecord x k.serial) (sym is) none))
              of (ToldSo x told kind key up records eq) = inr (inr (record {
                task = t;
                old = m;
                message = x;
                is = subst (λ y. task_of_part w p ≡ Some (record { node = y; task = t })) (sym same) named;
                found = here;
                told = told;
                kind = kind;
                key = key;
                up = up;
                records = subst (λ (y : Node). RecordsOf y k) (sym is) records;
                same = λ q. (ap (λ (y : Node). y.durable) is ∙ (eq q).0, ap (λ (y : Node). y.volatile) is ∙ (eq q).1);
              }))

  -- Statements.

  -- its coordinator, which is up or the node itself, has no record of its transaction, and does not run it
  pub record IsAnswered (v : World) (node : List ℕ) (n : Node) : Type 0 where
    pub records : RecordsOf n k
    pub answered : ((y : Node) × (find_node (coordinator_of k) v.nodes ≡ Some y) × (y.up ≡ true) × HasNone y k.tid)
        ⊎ ((coordinator_of k ≡ node) × HasNone n k.tid × ((d : LogRecord) → In d (records_in n.durable.log) → In d (prepared_records n.volatile.branches) ⊎ In d n.volatile.records))

  -- the branch was sent an Abort
  pub record IsSent (v : World) (n : Node) : Type 0 where
    pub message : Message
    pub sent : In message v.shared.wire
    pub kind : message.kind ≡ Rattle.commit_protocol.specs.Messages.Abort
    pub key : k ≡ key_of message
    pub records : RecordsOf n k

  -- what is known behind a statement that leaves it so, whatever was known before
  abbrev pub Told : World → List ℕ → Node → Type 0
  Told v node n = NoRecord n k.serial ⊎ IsSent v n ⊎ IsAnswered v node n

  -- one statement from one world to another
  abbrev pub Leaves : World → World → Type 0
  Leaves w v = (node : List ℕ) (n : Node) → IsAborting v node n → Before w node n ⊎ Told v node n

  pub same_leaves : (w v : World) → v.nodes ≡ w.nodes → Leaves w v
  same_leaves w v same node n at = inl (n, (ap (λ ns. find_node node ns) (sym same) ∙ at.0, at.1), refl)

  -- A statement that is one task.

  taken : (w : World) (s : Statement) (node : List ℕ) (t : Task) (x : Message) → task_of w s ≡ Some (record { node = node; task = t }) → IsMessage t x → In x w.shared.wire
  taken w (At other (Clock now)) node t x e told = let no : ⊥ = cc in absurd no
  taken w (At other request) node t x e told = absurd (subst (λ (a : TaskAt). IsMessage a.task x) (sym (some_is _ _ e)) told)
  taken w (Deliver number) node t x e told = go number (message_at number w.shared.wire) refl e
    where
      there : (number : ℕ) (m : Message) → message_at number w.shared.wire ≡ Some m → In m w.shared.wire
      there zero m f = let no : ⊥ = cc in absurd no
      there (suc i) m f = slice_in w.shared.wire i m f

      go : (number : ℕ) (o : Option Message) → message_at number w.shared.wire ≡ o → option_map {U = TaskAt} (λ m. record { node = m.to; task = Takes m }) o ≡ Some (record { node = node; task = t }) → In x w.shared.wire
      go number (Some m) is f = let same : m ≡ x = subst (λ (a : TaskAt). IsMessage a.task x) (sym (some_is _ _ f)) told in subst (λ y. In y w.shared.wire) same (there number m is)
      go number None is f = let no : ⊥ = cc in absurd no
  taken w (LinkDown a b) node t x e told = let no : ⊥ = cc in absurd no
  taken w Settle node t x e told = let no : ⊥ = cc in absurd no

  one_leaves : (w v : World) (s : Statement) (lines : List Line) (a : TaskAt) → IsSound w → task_of w s ≡ Some a → Step w s lines v → Leaves w v
  one_leaves w v s lines a sound is step node n at = go (ended w v s lines a.node a.task is step)
    where
      go : Ended w v a.node a.task lines → Before w node n ⊎ Told v node n
      go (Refused refusal f shows goes) = same_leaves w v (ap (λ (x : World). x.nodes) goes) node n at
      go (Turned m found c allowed shows goes) =
          let p = Does a.node a.task in
          let world = done_here w a.node a.task m c found in
          let there = subst (λ (x : PartEffect). IsAborting x.world node n) (sym world) (subst (λ ns. find_node node ns ≡ Some n) (ap (λ (x : World). x.nodes) goes) at.0, at.1) in
          elim (part_leaves w p c v.disks (here_allowed w a.node a.task m v.disks c found allowed) sound node n there) [
            | inl was ↦ inl was
            | inr more ↦ elim more [
              | inl none ↦ inr (inl none)
              | inr told ↦ inr (inr (inl (
                  let x = taken w s a.node a.task told.message is (subst (λ t. IsMessage t told.message) (sym (ap (λ (y : TaskAt). y.task) (some_is _ _ told.is))) told.told) in
                  let sent = effect_sent w.shared (stops_at a.node w) m a.task c told.message x in
                  record { message = told.message; sent = subst (λ (y : World). In told.message y.shared.wire) (sym goes) sent; kind = told.kind; key = told.key; records = told.records }
                  )))
            ]
          ]

  -- Statements of parts that tell no node a message.

  abbrev IsQuiet : Part → Type 0
  IsQuiet p = (u : World) (node : List ℕ) (t : Task) → task_of_part u p ≡ Some (record { node = node; task = t }) → (x : Message) → IsMessage t x → ⊥

  does_quiet : (other : List ℕ) (t : Task) → ((x : Message) → IsMessage t x → ⊥) → IsQuiet (Does other t)
  does_quiet other t h u node task e x told = h x (subst (λ (a : TaskAt). IsMessage a.task x) (sym (some_is _ _ e)) told)

  abbrev Bares : World → World → Type 0
  Bares w v = (node : List ℕ) (n : Node) → IsAborting v node n → Before w node n ⊎ NoRecord n k.serial

  bares_on : (w u v : World) → Bares w u → Bares u v → Bares w v
  bares_on w u v f g node n at = elim (g node n at) [
    | inl before ↦ elim (f node before.0 before.1) [
      | inl was ↦ inl (was.0, was.1, before.2 ∙ was.2)
      | inr none ↦ inr (λ q i. none q (subst (λ log. In q (prepared_of (records_in log))) before.2 i))
    ]
    | inr none ↦ inr none
  ]

  quiet_bares : (w : World) (p : Part) (c : Choice) (after : List DiskCounts) → Allowed w p after c → IsQuiet p → IsSound w → Bares w (part_effect w p c).world
  quiet_bares w p c after allowed quiet sound node n at = elim (part_leaves w p c after allowed sound node n at) [
    | inl was ↦ inl was
    | inr more ↦ elim more [ inl none ↦ inr none | inr told ↦ absurd (quiet w node told.task told.is told.message told.told) ]
  ]

  phases_bare : (disks : List DiskCounts) (ps : List Phase) → EachPhase IsQuiet ps → (w : World) (given : Line) (lines : List Line) (answer : Line) (v : World) → Phases ps disks w given lines answer v → IsSound w → Bares w v
  phases_bare disks ps ok w given lines answer v d sound = (phases_fold disks IsQuiet (λ g. Unit {0}) (λ u rest a x. IsSound u → Bares u x × IsSound x)
      (λ u g q s. ((λ node n at. inl (n, at, refl)), s))
      (λ u p c ok allowed ends s. (quiet_bares u p c disks allowed ok s, part_sound u p c disks allowed s))
      (λ u p c ok allowed on. (tt, λ rest a x more s. let next = more (part_sound u p c disks allowed s) in (bares_on u (part_effect u p c).world x (quiet_bares u p c disks allowed ok s) next.0, next.1)))
      ps ok w given lines answer v tt d sound).0

  -- A settling.

  -- parts one after another, of which something is known that each keeps with which the statement does not end
  parts_end : (after : List DiskCounts) (P : List Part → World → Type 0) (E : World → World → Type 0) →
      ((p : Part) (ps : List Part) (w : World) (c : Choice) → P (p ∷ ps) w → Allowed w p after c → (part_effect w p c).ends ≡ false → P ps (part_effect w p c).world) →
      ((p : Part) (ps : List Part) (w : World) (c : Choice) → P (p ∷ ps) w → Allowed w p after c → IsSound w → E w (part_effect w p c).world) →
      ((p : Part) (ps : List Part) (w : World) (c : Choice) (x : World) → P (p ∷ ps) w → Allowed w p after c → IsSound w → E (part_effect w p c).world x → E w x) →
      (more : Onward) → ((u : World) (given answer : Line) (lines : List Line) (v : World) → P [] u → IsSound u → more u given lines answer v → E u v) →
      (ps : List Part) (w : World) (given : Line) (lines : List Line) (answer : Line) (v : World) → P ps w → IsSound w → Parts ps after more w given lines answer v → E w v
  parts_end after P E keep stop on more onward [] w given lines answer v k s h = onward w given answer lines v k s h
  parts_end after P E keep stop on more onward (p ∷ ps) w given lines answer v k s h =
      let e : PartEffect = part_effect w p h.0 in
      go e.ends refl h.2 (λ rest m j. parts_end after P E keep stop on more onward ps e.world e.answer rest answer v m (part_sound w p h.0 after h.1 s) j)
    where
      go : (b : Bool) → (part_effect w p h.0).ends ≡ b
          → (let t : Type 0 = elim b [
            | true ↦ (lines ≡ (part_effect w p h.0).lines) × (answer ≡ (part_effect w p h.0).answer) × (v ≡ (part_effect w p h.0).world)
            | false ↦ (rest : List Line) × (lines ≡ (part_effect w p h.0).lines ++ rest) × Parts ps after more (part_effect w p h.0).world (part_effect w p h.0).answer rest answer v
          ] in t)
          → ((rest : List Line) → P ps (part_effect w p h.0).world → Parts ps after more (part_effect w p h.0).world (part_effect w p h.0).answer rest answer v → E (part_effect w p h.0).world v) → E w v
      go true is t rec = subst (E w) (sym t.2) (stop p ps w h.0 k h.1 s)
      go false is t rec = on p ps w h.0 v k h.1 s (rec t.0 (keep p ps w h.0 k h.1 is) t.2)

  -- nothing is under way where all nodes are up
  none_before : (w : World) → AllUp w → IsSound w → (node : List ℕ) (n : Node) → Before w node n → ⊥
  none_before w ups sound node n was = both_ways was.0.up ((sound.kept node was.0 was.1.0).way act was.1.1).2 (ups node was.0 was.1.0)

  abbrev AllTold : World → World → Type 0
  AllTold w v = (node : List ℕ) (n : Node) → IsAborting v node n → Told v node n

  -- the question of a prepared branch
  question_parts : (w : World) (node : List ℕ) (serial : Id) (m : Message) → question w node serial ≡ Heard m → (j : BranchKey) × (y : Node) × (find_node (coordinator_of j) w.nodes ≡ Some y) × (answer_of y j ≡ Some m)
  question_parts w node serial m e = by (asking w node serial) e
    where
      answers : (j : BranchKey) (y : Node) (o : Option Message) → answer_of y j ≡ o → find_node (coordinator_of j) w.nodes ≡ Some y → ◌≡◌ {A = Question} (elim o [ Some x ↦ Heard x | None ↦ Unanswered ]) (Heard m) → (j : BranchKey) × (y : Node) × (find_node (coordinator_of j) w.nodes ≡ Some y) × (answer_of y j ≡ Some m)
      answers j y (Some x) is found f = let same : x ≡ m = cc in (j, y, found, is ∙ ap Some same)
      answers j y None is found f = let no : ⊥ = cc in absurd no

      at : (j : BranchKey) (o : Option Node) → find_node (coordinator_of j) w.nodes ≡ o → ◌≡◌ {A = Question} (elim o [ Some y ↦ elim (answer_of y j) [ Some x ↦ Heard x | None ↦ Unanswered ] | None ↦ Doubtful j ]) (Heard m) → (j : BranchKey) × (y : Node) × (find_node (coordinator_of j) w.nodes ≡ Some y) × (answer_of y j ≡ Some m)
      at j (Some y) found f = answers j y (answer_of y j) refl found f
      at j None found f = let no : ⊥ = cc in absurd no

      by : (o : Option Branch) → ◌≡◌ {A = Question} (elim o [ Some b ↦ asked w b.key | None ↦ Unanswered ]) (Heard m) → (j : BranchKey) × (y : Node) × (find_node (coordinator_of j) w.nodes ≡ Some y) × (answer_of y j ≡ Some m)
      by (Some b) f = at b.key (find_node (coordinator_of b.key) w.nodes) refl f
      by None f = let no : ⊥ = cc in absurd no

  -- what a branch leaves that heard its answer
  heard_leaves : (w : World) (nd : List ℕ) (serial : Id) (c : Choice) → AllUp w → IsSound w → (node : List ℕ) (n : Node) → WasTold w (Asks nd serial) node n → IsAborting (part_effect w (Asks nd serial) c).world node n → IsAnswered (part_effect w (Asks nd serial) c).world node n
  heard_leaves w nd serial c ups sound node n told at = go (question w nd serial) refl told.is
    where
      go : (q : Question) → question w nd serial ≡ q → asked_by q ≡ Some (record { node = node; task = told.task }) → IsAnswered (part_effect w (Asks nd serial) c).world node n
      go (Heard m) e is = by (question_parts w nd serial m e)
        where
          task : Hears m ≡ told.task
          task = ap (λ (a : TaskAt). a.task) (some_is _ _ is)

          to : m.to ≡ node
          to = ap (λ (a : TaskAt). a.node) (some_is _ _ is)

          same : m ≡ told.message
          same = subst (λ t. IsMessage t told.message) (sym task) told.told

          found : find_node m.to w.nodes ≡ Some told.old
          found = ap (λ name. find_node name w.nodes) to ∙ told.found

          eff : TaskEffect
          eff = task_effect w.shared (stops_at m.to w) told.old (Hears m) c

          world : part_effect w (Asks nd serial) c ≡ put_into w m.to (task_effect w.shared (stops_at m.to w) told.old (Hears m) c)
          world = ap (question_effect w c) e ∙ done_here w m.to (Hears m) told.old c found

          by : (j : BranchKey) × (y : Node) × (find_node (coordinator_of j) w.nodes ≡ Some y) × (answer_of y j ≡ Some m) → IsAnswered (part_effect w (Asks nd serial) c).world node n
          by (j, y, there, answers) =
              let none = answers_none y j m answers (ap (λ (x : Message). x.kind) same ∙ told.kind) in
              let key : j ≡ k = sym none.1 ∙ ap key_of same ∙ sym told.key in
              let at_k : find_node (coordinator_of k) w.nodes ≡ Some y = subst (λ (i : BranchKey). find_node (coordinator_of i) w.nodes ≡ Some y) key there in
              let none_k : HasNone y k.tid = subst (λ (i : BranchKey). HasNone y i.tid) key none.0 in
              record {
                records = told.records;
                answered = elim (find_put (coordinator_of k) m.to told.old (task_effect w.shared (stops_at m.to w) told.old (Hears m) c).node w.nodes (effect_name w.shared (stops_at m.to w) told.old (Hears m) c) found) [
                  | inl kept ↦ inl (y, subst (λ (x : PartEffect). find_node (coordinator_of k) x.world.nodes ≡ Some y) (sym world) (kept ∙ at_k), ups (coordinator_of k) y at_k, none_k)
                  | inr own ↦ (
                      let old : y ≡ told.old = some_is y told.old (sym at_k ∙ own.1) in
                      let up = ((sound.kept node told.old told.found).runs told.up).0 in
                      let eq = told.same (sym task ∙ ap Hears same) in
                      let name : coordinator_of k ≡ node = sym (found_name (coordinator_of k) w.nodes told.old own.1) ∙ found_name node w.nodes told.old told.found in
                      inr (
                        name,
                        subst (λ (v : Rattle.run_said.specs.run_model.World.Volatile). HasNone (record n { volatile = v }) k.tid) (ap (λ (x : Node). x.volatile) old ∙ sym eq.1) (record { records = none_k.records; branch = none_k.branch }),
                        λ d i. subst (λ (v : Rattle.run_said.specs.run_model.World.Volatile). In d (prepared_records v.branches) ⊎ In d v.records) (sym eq.1) (up.table.log.from d (subst (λ (x : Rattle.run_said.specs.run_model.World.Durable). In d (records_in x.log)) eq.0 i)),
                      )
                      )
                ];
              }
      go Unanswered e is = let no : ⊥ = cc in absurd no
      go (Doubtful j) e is = let no : ⊥ = cc in absurd no

  settle_told : (o : Opening) (after : List DiskCounts) (w : World) (given : Line) (lines : List Line) (answer : Line) (v : World) → Phases (phases_of Settle) after w given lines answer v → IsSound w → Leaves w v
  settle_told o after w given lines answer v d sound =
      parts_end after Booting Leaves (λ p ps u c h may e. (booting_carries o after).keep p ps u c h may e) boots_stop boots_on (Phases ((λ u. run_downs_of u.nodes) ∷ (λ u. all_questions u.nodes) ∷ []) after)
      (λ u g a ls x k s j. told_leaves u x (parts_end after Downing AllTold (λ p ps y c h may e. (downing_carries o after).keep p ps y c h may e) downs_stop (λ p ps y c z h may q e. e) (Phases ((λ y. all_questions y.nodes) ∷ []) after)
      (λ u2 g2 a2 ls2 x2 k2 s2 j2. parts_end after Asking AllTold (λ p ps y c h may e. (asking_carries o after).keep p ps y c h may e) asks_stop (λ p ps y c z h may q e. e) (Phases [] after) finished
      (all_questions u2.nodes) u2 g2 ls2 a2 x2 (all_ask u2.nodes, k2.1) s2 j2)
      (run_downs_of u.nodes) u g ls a x (are_downs u.nodes, booted_all u k) s j))
      (restarts_of w.nodes) w given lines answer v (are_restarts w.nodes, to_boot w.nodes) sound d
    where
      told_leaves : (u x : World) → AllTold u x → Leaves u x
      told_leaves u x h node n at = inr (h node n at)

      restart_quiet : (p : Part) (ps : List Part) → AreRestarts (p ∷ ps) → IsQuiet p
      restart_quiet (Does n Restarts) ps h = does_quiet n Restarts (λ x told. told)
      restart_quiet (Asks n serial) ps h = absurd h
      restart_quiet (Does n (Serves request)) ps h = absurd h
      restart_quiet (Does n Ticks) ps h = absurd h
      restart_quiet (Does n (Takes m)) ps h = absurd h
      restart_quiet (Does n (Hears m)) ps h = absurd h
      restart_quiet (Does n (LosesLink other)) ps h = absurd h
      restart_quiet (Does n RunsDown) ps h = absurd h

      down_quiet : (p : Part) (ps : List Part) → AreDowns (p ∷ ps) → IsQuiet p
      down_quiet (Does n RunsDown) ps h = does_quiet n RunsDown (λ x told. told)
      down_quiet (Asks n serial) ps h = absurd h
      down_quiet (Does n (Serves request)) ps h = absurd h
      down_quiet (Does n Ticks) ps h = absurd h
      down_quiet (Does n (Takes m)) ps h = absurd h
      down_quiet (Does n (Hears m)) ps h = absurd h
      down_quiet (Does n (LosesLink other)) ps h = absurd h
      down_quiet (Does n Restarts) ps h = absurd h

      boots_stop : (p : Part) (ps : List Part) (u : World) (c : Choice) → Booting (p ∷ ps) u → Allowed u p after c → IsSound u → Leaves u (part_effect u p c).world
      boots_stop p ps u c h may s node n at = elim (quiet_bares u p c after may (restart_quiet p ps h.0) s node n at) [ inl was ↦ inl was | inr none ↦ inr (inl none) ]

      boots_on : (p : Part) (ps : List Part) (u : World) (c : Choice) (x : World) → Booting (p ∷ ps) u → Allowed u p after c → IsSound u → Leaves (part_effect u p c).world x → Leaves u x
      boots_on p ps u c x h may s more node n at = elim (more node n at) [
        | inl before ↦ elim (quiet_bares u p c after may (restart_quiet p ps h.0) s node before.0 before.1) [
          | inl was ↦ inl (was.0, was.1, before.2 ∙ was.2)
          | inr none ↦ inr (inl (λ q i. none q (subst (λ log. In q (prepared_of (records_in log))) before.2 i)))
        ]
        | inr told ↦ inr told
      ]

      downs_stop : (p : Part) (ps : List Part) (u : World) (c : Choice) → Downing (p ∷ ps) u → Allowed u p after c → IsSound u → AllTold u (part_effect u p c).world
      downs_stop p ps u c h may s node n at = elim (quiet_bares u p c after may (down_quiet p ps h.0) s node n at) [ inl was ↦ absurd (none_before u h.1 s node n was) | inr none ↦ inl none ]

      asks_stop : (p : Part) (ps : List Part) (u : World) (c : Choice) → Asking (p ∷ ps) u → Allowed u p after c → IsSound u → AllTold u (part_effect u p c).world
      asks_stop (Asks nd serial) ps u c h may s node n at = elim (part_leaves u (Asks nd serial) c after may s node n at) [
        | inl was ↦ absurd (none_before u h.1 s node n was)
        | inr more ↦ elim more [ inl none ↦ inl none | inr told ↦ inr (inr (heard_leaves u nd serial c h.1 s node n told at)) ]
      ]
      asks_stop (Does other t) ps u c h may s node n at = absurd h.0

      finished : (u : World) (given answer : Line) (lines : List Line) (x : World) → Asking [] u → IsSound u → Phases [] after u given lines answer x → AllTold u x
      finished u given answer lines x h s d node n at = absurd (none_before u h.1 s node n (n, subst (λ (y : World). IsAborting y node n) d.2 at, refl))

  -- What any statement leaves.
  pub step_leaves : (w v : World) (s : Statement) (lines : List Line) → IsSound w → Step w s lines v → Leaves w v
  step_leaves w v s lines sound step = by_task (task_of w s) refl
    where
      goes : v.nodes ≡ step.world.nodes
      goes = ap (λ (x : World). x.nodes) step.goes

      to_v : Leaves w step.world → Leaves w v
      to_v h node n at = elim (h node n (ap (λ ns. find_node node ns) (sym goes) ∙ at.0, at.1)) [
        | inl was ↦ inl was
        | inr told ↦ inr (subst (λ (x : World). Told x node n) (sym step.goes) (elim told [
          | inl none ↦ inl none
          | inr more ↦ elim more [
            | inl sent ↦ inr (inl (record { message = sent.message; sent = sent.sent; kind = sent.kind; key = sent.key; records = sent.records }))
            | inr answered ↦ inr (inr (record { records = answered.records; answered = answered.answered }))
          ]
        ]))
      ]

      bare : Bares w step.world → Leaves w v
      bare h = to_v (λ node n at. elim (h node n at) [ inl was ↦ inl was | inr none ↦ inr (inl none) ])

      many : (s : Statement) → task_of w s ≡ None → (o : Option Line) → Begins o (Phases (phases_of s) v.disks (begun_with s w) line.Normal) w step.events step.answer step.world → refused_at_once w s ≡ o → Leaves w v
      many s none (Some refusal) d e = to_v (same_leaves w step.world (ap (λ (x : World). x.nodes) d.2))
      many Settle none None d e =
          let told = settle_told (record { images = [] }) v.disks (begun_with Settle w) line.Normal step.events step.answer step.world d (begins_sound Settle w sound) in
          to_v (λ node n at. elim (told node n at) [ inl was ↦ inl (was.0, was.1, was.2) | inr more ↦ inr more ])
      many (LinkDown a b) none None d e = bare (phases_bare v.disks (phases_of (LinkDown a b))
          (each_up IsQuiet a (LosesLink b) (does_quiet a (LosesLink b) (λ x told. told)), (each_up IsQuiet b (LosesLink a) (does_quiet b (LosesLink a) (λ x told. told)), tt)) w line.Normal step.events step.answer step.world d sound)
      many (At node (Clock now)) none None d e = bare (phases_bare v.disks (phases_of (At node (Clock now)))
          ((λ u. (does_quiet node (Serves (Clock now)) (λ x told. told), tt)), (each_up IsQuiet node Ticks (does_quiet node Ticks (λ x told. told)), tt)) w line.Normal step.events step.answer step.world d sound)
      many (At node _) none None d e = let no : ⊥ = cc in absurd no
      many (Deliver number) none None d e = go (message_at number w.shared.wire) none e
        where
          go : (o : Option Message) → option_map {U = TaskAt} (λ m. record { node = m.to; task = Takes m }) o ≡ None → ◌≡◌ {A = Option Line} (elim o [ Some m ↦ named_node w m.to | None ↦ Some line.NoSuchMessage ]) None → Leaves w v
          go (Some m) f q = let no : ⊥ = cc in absurd no
          go None f q = let no : ⊥ = cc in absurd no

      by_task : (o : Option TaskAt) → task_of w s ≡ o → Leaves w v
      by_task (Some a) is = one_leaves w v s lines a sound is step
      by_task None none = many s none (refused_at_once w s) step.does refl
