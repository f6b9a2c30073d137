-- What is known of one node along a run in which a node may have been in use, so that no volume is made any more.
use Rattle.std.proofs.Common.{◌≡◌, ℕ, List, [], ◌∷◌, inl, inr, true, false, Option, Some, None, refl, sym, ◌∙◌, ap, subst}
use Rattle.std.specs.Option.{option_map}
use Rattle.std.proofs.lemmas.Bool.{both_ways, cases_Bool}
use Rattle.vms_model.specs.Ids.{Id}
use Rattle.run_said.specs.transcript_model.Lines as line
use Rattle.run_said.specs.transcript_model.Lines.{Line}
use Rattle.run_said.specs.script_model.Statements.{Statement, At, Deliver, LinkDown, Settle, Clock, Reading, Blank, Says, Bad}
use Rattle.run_said.specs.script_model.Grammar.{reading}
use Rattle.commit_protocol.specs.Messages.{Message}
use Rattle.run_said.specs.run_model.World.{World, Shared, Node, DiskCounts, Act, find_node}
use Rattle.run_said.specs.run_model.Answers.{Task, Serves, Ticks, Takes, Hears, LosesLink, RunsDown, Restarts, powers, task_service}
use Rattle.run_said.specs.run_model.Steps.{Choice, task_effect}
use Rattle.run_said.specs.run_model.Statements.{Part, Does, Asks, PartEffect, Question, Heard, Unanswered, Doubtful, Begins, Phases, Step, Allowed, RoseAt, begun_with, message_at, named_node, part_effect, phases_of, put_into, question, refused_at_once, stops_at}
use Rattle.run_said.specs.run_model.StepLaws.{TaskAt, asked_by, task_of, task_of_part}
use Rattle.run_said.specs.run_model.Transcript.{Entry, Legal, Turn as LineTurn}
use Rattle.run_said.proofs.run_model.NodeLists.{some_is}
use Rattle.run_said.proofs.run_model.TaskLemmas.{effect_name}
use Rattle.run_said.proofs.run_model.PartLemmas.{EachPhase, here_allowed, done_here, phases_fold}
use Rattle.run_said.proofs.run_model.PartTasks.{View, Doing, Fixed, all_asked, each_restart, each_run_down, each_up, view}
use Rattle.run_laws.proofs.Keeping.{AllTake, Kept, Keeps, Scheme, all_take, any_effect}
use Rattle.run_laws.proofs.Named.{Ended, Refused, Turned, effect_use, ended}
use Rattle.run_laws.proofs.Reasons.{heard_kind}
use Rattle.run_laws.proofs.SoundWorlds.{Changed, Here, Beside, IsSound, Tracked, begins_sound, changed, part_sound, sound_node, unused}
use Rattle.run_laws.proofs.ToldParts.{IsThinning}

-- that a node may have been in use stays so
used_after : (s : Shared) (stops : ℕ) (n : Node) (t : Task) (c : Choice) → s.in_use ≡ true → (task_effect s stops n t c).shared.in_use ≡ true
used_after s stops n t c used = elim (cases_Bool (task_effect s stops n t c).shared.in_use) [ inl on ↦ on | inr off ↦ absurd (both_ways s.in_use (effect_use s stops n t c off) used) ]

pub part_used : (w : World) (p : Part) (c : Choice) → w.shared.in_use ≡ true → (part_effect w p c).world.shared.in_use ≡ true
part_used w p c used = go (view w p)
  where
    go : View w p → (part_effect w p c).world.shared.in_use ≡ true
    go (Fixed answer ends kind is) = ap (λ (x : PartEffect). x.world.shared.in_use) (is c) ∙ used
    go (Doing node t n named found does may) = ap (λ (x : PartEffect). x.world.shared.in_use) (does c) ∙ used_after w.shared (stops_at node w) n t c used

pub begins_used : (s : Statement) (w : World) → w.shared.in_use ≡ true → (begun_with s w).shared.in_use ≡ true
begins_used Settle w used = refl
begins_used (At node request) w used = used
begins_used (Deliver number) w used = used
begins_used (LinkDown a b) w used = used

module _ (t : Scheme) (k : Keeps t) (node : List ℕ) (a : t.Told) (quiet : (ls : List Line) → t.more ls a ≡ a) (ready : (n : Node) → t.Ready n) where
  pub record IsOn (w : World) : Type 0 where
    pub sound : IsSound w
    pub used : w.shared.in_use ≡ true
    pub tracked : Tracked t k node a w

  -- what is said of acts is so of the rows of this node's task that a part is
  abbrev pub TakesAt : World → Part → Type 0
  TakesAt w p = (task : Task) (n : Node) → task_of_part w p ≡ Some (record { node = node; task = task }) → find_node node w.nodes ≡ Some n → powers (task_service task) ≡ false → AllTake t ((task_service task).rows w.shared n)

  pub part_on : (w : World) (p : Part) (c : Choice) (after : List DiskCounts) → Allowed w p after c → TakesAt w p → IsOn w → IsOn (part_effect w p c).world
  part_on w p c after allowed takes h = record { sound = part_sound w p c after allowed h.sound; used = part_used w p c h.used; tracked = go (view w p) }
    where
      go : View w p → Tracked t k node a (part_effect w p c).world
      go (Fixed answer ends kind is) = subst (λ (x : PartEffect). Tracked t k node a x.world) (sym (is c)) h.tracked
      go (Doing other task n named found does may) =
          let e = task_effect w.shared (stops_at other w) n task c in
          subst (λ (x : PartEffect). Tracked t k node a x.world) (sym (does c)) (λ m is. at m (changed other node n w.nodes e.node m (effect_name w.shared (stops_at other w) n task c) found is))
        where
          at : (m : Node) → Changed other node n w.nodes (task_effect w.shared (stops_at other w) n task c).node m → Kept t k a m
          at m (Here same is) =
              let here : find_node node w.nodes ≡ Some n = subst (λ x. find_node x w.nodes ≡ Some n) (sym same) found in
              let known = sound_node w h.sound other n found in
              subst (Kept t k a) (sym is)
              (subst (λ b. Kept t k b (task_effect w.shared (stops_at other w) n task c).node) (quiet (task_effect w.shared (stops_at other w) n task c).lines)
              (any_effect t k w.shared (stops_at other w) n a known.kept (h.tracked n here) (unused w.shared n known) (λ off slots journal x none. absurd (both_ways w.shared.in_use off h.used)) task
              (takes task n (subst (λ x. task_of_part w p ≡ Some (record { node = x; task = task })) (sym same) named) here) (λ on. ready n) c (λ cause. RoseAt w other cause after) (may after c allowed)))
          at m (Beside apart is) = h.tracked m is

  pub begins_on : (s : Statement) (w : World) → IsOn w → IsOn (begun_with s w)
  begins_on s w h = record { sound = begins_sound s w h.sound; used = begins_used s w h.used; tracked = tracked s }
    where
      tracked : (s : Statement) → Tracked t k node a (begun_with s w)
      tracked Settle = h.tracked
      tracked (At other request) = h.tracked
      tracked (Deliver number) = h.tracked
      tracked (LinkDown x y) = h.tracked

  pub disks_on : (w : World) (disks : List DiskCounts) → IsOn w → IsOn (record w { disks = disks })
  disks_on w disks h = record {
    sound = record { kept = h.sound.kept; moments = h.sound.moments; once = h.sound.once };
    used = h.used;
    tracked = h.tracked;
  }

  -- Where it is said of what a sweep, a question and a clock do, a statement of more than one part keeps what is known.
  module _ (thin : (s : Shared) (n : Node) (task : Task) → IsThinning task → AllTake t ((task_service task).rows s n)) (clocks : (s : Shared) (n : Node) (now : ℕ) → AllTake t ((task_service (Serves (Clock now))).rows s n)) where
    abbrev Suits : Part → Type 0
    Suits p = (u : World) → TakesAt u p

    does_suits : (other : List ℕ) (task : Task) → ((s : Shared) (n : Node) → AllTake t ((task_service task).rows s n)) → Suits (Does other task)
    does_suits other task h u other_task n is found off = subst (λ (x : TaskAt). AllTake t ((task_service x.task).rows u.shared n)) (some_is _ _ is) (h u.shared n)

    asks_suits : (other : List ℕ) (serial : Id) → Suits (Asks other serial)
    asks_suits other serial u task n is found off = go (question u other serial) refl is
      where
        go : (q : Question) → question u other serial ≡ q → asked_by q ≡ Some (record { node = node; task = task }) → AllTake t ((task_service task).rows u.shared n)
        go (Heard m) e is = subst (λ (x : TaskAt). AllTake t ((task_service x.task).rows u.shared n)) (some_is _ _ is) (thin u.shared n (Hears m) (heard_kind u other serial m e))
        go Unanswered e is = let no : ⊥ = cc in absurd no
        go (Doubtful j) e is = let no : ⊥ = cc in absurd no

    pub settle_suits : EachPhase Suits (phases_of Settle)
    settle_suits = (
      λ u. each_restart Suits (λ other. does_suits other Restarts (λ s n. thin s n Restarts refl)) u.nodes,
      (λ u. each_run_down Suits (λ other. does_suits other RunsDown (λ s n. thin s n RunsDown refl)) u.nodes, (λ u. all_asked Suits asks_suits u.nodes, tt)),
    )

    many_suit : (w : World) (s : Statement) → task_of w s ≡ None → refused_at_once w s ≡ None → EachPhase Suits (phases_of s)
    many_suit w Settle none once = settle_suits
    many_suit w (LinkDown x y) none once =
        (each_up Suits x (LosesLink y) (does_suits x (LosesLink y) (λ s n. thin s n (LosesLink y) refl)), (each_up Suits y (LosesLink x) (does_suits y (LosesLink x) (λ s n. thin s n (LosesLink x) refl)), tt))
    many_suit w (At other (Clock now)) none once = (λ u. (does_suits other (Serves (Clock now)) (λ s n. clocks s n now), tt), (each_up Suits other Ticks (does_suits other Ticks (λ s n. thin s n Ticks refl)), tt))
    many_suit w (At other _) none once = let no : ⊥ = cc in absurd no
    many_suit w (Deliver number) none once = go (message_at number w.shared.wire) none once
      where
        go : (o : Option Message) → option_map {U = TaskAt} (λ m. record { node = m.to; task = Takes m }) o ≡ None → ◌≡◌ {A = Option Line} (elim o [ Some m ↦ named_node w m.to | None ↦ Some line.NoSuchMessage ]) None → EachPhase Suits (phases_of (Deliver number))
        go (Some m) e q = let no : ⊥ = cc in absurd no
        go None e q = let no : ⊥ = cc in absurd no

    -- what the one task of a statement does is so, where it has one
    abbrev pub OneTakes : World → Statement → Type 0
    OneTakes w s = (task : Task) (n : Node) → task_of w s ≡ Some (record { node = node; task = task }) → find_node node w.nodes ≡ Some n → powers (task_service task) ≡ false → AllTake t ((task_service task).rows w.shared n)

    pub step_on : (w v : World) (s : Statement) (lines : List Line) → OneTakes w s → Step w s lines v → IsOn w → IsOn v
    step_on w v s lines takes step h = by_task (task_of w s) refl
      where
        many : task_of w s ≡ None → (o : Option Line) → refused_at_once w s ≡ o → Begins o (Phases (phases_of s) v.disks (begun_with s w) line.Normal) w step.events step.answer step.world → IsOn step.world
        many none (Some refusal) e d = subst IsOn (sym d.2) h
        many none None e d = phases_fold v.disks Suits (λ given. Unit {0}) (λ u rest answer x. IsOn u → IsOn x)
            (λ u given q g. g)
            (λ u p c ok allowed ends g. part_on u p c v.disks allowed (ok u) g)
            (λ u p c ok allowed on. (tt, λ rest answer x more g. more (part_on u p c v.disks allowed (ok u) g)))
            (phases_of s) (many_suit w s none e) (begun_with s w) line.Normal step.events step.answer step.world tt d (begins_on s w h)

        by_task : (o : Option TaskAt) → task_of w s ≡ o → IsOn v
        by_task None none = subst IsOn (sym step.goes) (disks_on step.world v.disks (many none (refused_at_once w s) refl step.does))
        by_task (Some b) is = go (ended w v s lines b.node b.task is step)
          where
            go : Ended w v b.node b.task lines → IsOn v
            go (Refused refusal r shows goes) = subst IsOn (sym goes) (disks_on w v.disks h)
            go (Turned n found c allowed shows goes) = subst IsOn (sym goes) (disks_on (put_into w b.node (task_effect w.shared (stops_at b.node w) n b.task c)).world v.disks
                (subst (λ (x : PartEffect). IsOn x.world) (done_here w b.node b.task n c found)
                (part_on w (Does b.node b.task) c v.disks (here_allowed w b.node b.task n v.disks c found allowed)
                (λ task m named there off. takes task m (is ∙ ap Some (some_is _ _ named)) there off) h)))

    pub turn_on : (w v : World) (r : Reading) (lines : List Line) → ((s : Statement) → r ≡ Says s → OneTakes w s) → LineTurn w r lines v → IsOn w → IsOn v
    turn_on w v Blank lines takes turn h = subst IsOn (sym turn.1) h
    turn_on w v (Says s) lines takes turn h = step_on w v s lines (takes s refl) turn h
    turn_on w v (Bad column) lines takes turn h = absurd turn

-- Where it is said of all acts, it is kept along all entries.
module _ (t : Scheme) (k : Keeps t) (node : List ℕ) (a : t.Told) (quiet : (ls : List Line) → t.more ls a ≡ a) (ready : (n : Node) → t.Ready n) (all : (o : Option Act) → t.Takes o) where
  pub path_on : (w v : World) (es : List Entry) → Legal w es v → IsOn t k node a quiet ready w → IsOn t k node a quiet ready v
  path_on w v [] legal h = subst (IsOn t k node a quiet ready) (sym legal) h
  path_on w v (e ∷ es) legal h = turn_on t k node a quiet ready (λ s n task thin. all_take t all ((task_service task).rows s n)) (λ s n now. all_take t all ((task_service (Serves (Clock now))).rows s n)) legal.0 v (reading e.source.text) e.lines
      (λ s is task n named found off. all_take t all ((task_service task).rows legal.0.shared n)) legal.2 (path_on w legal.0 es legal.1 h)
