-- What tasks leave of it that a record of a prepared branch has its reason.
use Rattle.std.proofs.Common.{◌≡◌, ℕ, List, [], ◌∷◌, ◌++◌, Bool, true, false, Option, Some, None, refl, sym, ◌∙◌, ap, subst}
use Rattle.std.proofs.lemmas.Bool.{both_ways}
use Rattle.vms_model.specs.Ids.{Id}
use Rattle.run_said.specs.transcript_model.Lines as line
use Rattle.run_said.specs.transcript_model.Lines.{Line, Cause}
use Rattle.run_said.specs.script_model.Statements.{Statement, At, Clock, Deliver, LinkDown, Settle}
use Rattle.commit_protocol.specs.Table.{Branch, Prepares, child}
use Rattle.run_said.specs.run_model.World.{World, Shared, Node, Act, DiskCounts, Outturn, Settlement, Tables, find_node, with_node}
use Rattle.run_said.specs.run_model.Answers.{Row, Task, Serves, Ticks, Hears, LosesLink, RunsDown, Restarts, powers, task_service}
use Rattle.run_said.specs.run_model.Steps.{Choice, Cut, TaskAllowed, TaskEffect, Unpowered, Whole, WithoutMemory, task_effect}
use Rattle.run_said.specs.run_model.Statements.{Part, Does, Asks, PartEffect, Question, Heard, Unanswered, Doubtful, Allowed, Begins, Phases, RoseAt, Step, begun_with, part_effect, phases_of, question, refused_at_once, stops_at}
use Rattle.run_said.specs.run_model.StepLaws.{TaskAt, asked_by, task_of, task_of_part}
use Rattle.run_said.proofs.run_model.NodeLists.{found_name, some_is}
use Rattle.run_said.proofs.run_model.PartLemmas.{EachPhase, phases_fold}
use Rattle.run_said.proofs.run_model.PartTasks.{View, Doing, Fixed, all_asked, each_restart, each_run_down, each_up, view}
use Rattle.run_said.proofs.run_model.Refusing.{same_last}
use Rattle.run_said.proofs.run_model.TaskLemmas.{effect_name}
use Rattle.run_laws.specs.Promises.{prepared_by}
use Rattle.run_laws.proofs.Casting.{AllCast, CastsIn, TaskCasts, task_casts, thin_casts}
use Rattle.run_laws.proofs.Keeping.{AllTake, Kept, down_effect, else_effect, is_init, whole_effect}
use Rattle.run_laws.proofs.Named.{Ended, Refused, Turned, ended}
use Rattle.run_laws.proofs.OwnLines.{line_in, task_owns}
use Rattle.run_laws.proofs.Reasons.{heard_kind}
use Rattle.run_laws.proofs.Recorded.{PreparesIt, recorded, recorded_keeps, rows_up}
use Rattle.run_laws.proofs.ShownSettled.{answer_plain, answer_voteless, refusal_other, refusal_voteless}
use Rattle.run_laws.proofs.SoundWorlds.{Beside, Changed, Here, IsSound, IsSoundNode, Tracked, begins_sound, changed, part_sound, sound_node}
use Rattle.run_laws.proofs.StayPrepared.{foreign, told_append, told_steady}
use Rattle.run_laws.proofs.ToldParts.{IsThinning}
use Rattle.run_laws.proofs.VoteOwners.{vote_owns}

thin_init : (t : Task) → IsThinning t → is_init t ≡ false
thin_init (Serves r) h = let no : false ≡ true = h in let none : ⊥ = cc in absurd none
thin_init _ h = refl

module _ (tid serial : Id) (W : Type 0) (o : Option Node) (late : (s : Settlement) → (m : Node) → o ≡ Some m → m.durable.last ≡ Some s → s.serial ≡ serial → W) where
  abbrev pub KeptNode : Bool → Node → Type 0
  KeptNode a n = Kept (recorded tid serial W o late) (recorded_keeps tid serial W o late) a n

  abbrev pub IsKnown : Bool → World → Type 0
  IsKnown a w = Tracked (recorded tid serial W o late) (recorded_keeps tid serial W o late) serial.node a w

  -- what a task prepares tells the reason
  abbrev pub Gives : Shared → Node → Task → Type 0
  Gives s n t = (b : Branch) → TaskCasts s n t b → b.key ≡ child tid serial → W

  takes_of : (R : Branch → Type 0) (rs : List Row) → AllCast R rs → ((b : Branch) → R b → b.key ≡ child tid serial → W) → AllTake (recorded tid serial W o late) rs
  takes_of R [] h f = tt
  takes_of R (r ∷ rs) h f = (one r.act h.0, takes_of R rs h.1 f)
    where
      one : (x : Option Act) → CastsIn R x → PreparesIt tid serial x → W
      one (Some (Tables (Prepares b) moment)) q same = f b q same
      one _ q same = absurd same

  -- A task of its node.

  -- it stays so
  abbrev StaysKnown : (s : Shared) (stops : ℕ) (n : Node) → Task → Choice → Bool → Type 0
  StaysKnown s stops n task c a = KeptNode (prepared_by serial (task_effect s stops n task c).lines a) (task_effect s stops n task c).node

  pub own : (s : Shared) (stops : ℕ) (n : Node) (task : Task) (c : Choice) (rises : Cause → Type 0) (a : Bool) → IsSoundNode s n → is_init task ≡ false → Gives s n task → TaskAllowed s stops n task rises c → KeptNode a n → StaysKnown s stops n task c a
  own s stops n task c rises a sound other gives may h =
      else_effect (recorded tid serial W o late) (recorded_keeps tid serial W o late) s stops n a sound.kept h task other (λ off. takes_of (TaskCasts s n task) ((task_service task).rows s n) (task_casts s n task) gives) (λ on. tt) c rises may

  -- where only a failure needs the reason: what is done whole tells that it is prepared
  pub own_whole : (s : Shared) (stops : ℕ) (n : Node) (task : Task) (c : Choice) (rises : Cause → Type 0) (a : Bool) → IsSoundNode s n → is_init task ≡ false → powers (task_service task) ≡ false → (n.up ≡ true → (outturn : Outturn) (j : ℕ) (b : Bool) (cause : Cause) → c ≡ Cut outturn j b cause → Gives s n task) →
      TaskAllowed s stops n task rises c → KeptNode a n → StaysKnown s stops n task c a
  own_whole s stops n task c rises a sound other off cut may h = go n.up refl
    where
      by : n.up ≡ true → (x : Choice) → c ≡ x → TaskAllowed s stops n task rises x → StaysKnown s stops n task x a
      by up (Whole outturn) is m = whole_effect (recorded tid serial W o late) (recorded_keeps tid serial W o late) s stops n task a sound.kept h off up (λ f. let r = rows_up tid serial W o late false ((task_service task).rows s n) n a f (h.runs up) in (r.0, (r.1, r.2, r.3))) outturn
      by up WithoutMemory is m = h
      by up Unpowered is m = absurd (both_ways (powers (task_service task)) off m.1)
      by up (Cut outturn j b cause) is m = own s stops n task (Cut outturn j b cause) rises a sound other (cut up outturn j b cause is) m h

      go : (b : Bool) → n.up ≡ b → StaysKnown s stops n task c a
      go true up = by up c refl may
      go false down = down_effect (recorded tid serial W o late) (recorded_keeps tid serial W o late) s stops n task a sound.kept h off down c rises may

  -- A task of any node.

  pub put_known : (u : World) (other : List ℕ) (n : Node) (task : Task) (c : Choice) (rises : Cause → Type 0) (a : Bool) → find_node other u.nodes ≡ Some n → TaskAllowed u.shared (stops_at other u) n task rises c → IsSound u → (other ≡ serial.node → KeptNode a n → StaysKnown u.shared (stops_at other u) n task c a) → IsKnown a u →
      (m : Node) → find_node serial.node (with_node other (λ x. (task_effect u.shared (stops_at other u) n task c).node) u.nodes) ≡ Some m → KeptNode (prepared_by serial (task_effect u.shared (stops_at other u) n task c).lines a) m
  put_known u other n task c rises a found may sound does h m is = go (changed other serial.node n u.nodes e.node m (effect_name u.shared (stops_at other u) n task c) found is)
    where
      e : TaskEffect
      e = task_effect u.shared (stops_at other u) n task c

      known : IsSoundNode u.shared n
      known = sound_node u sound other n found

      go : Changed other serial.node n u.nodes (task_effect u.shared (stops_at other u) n task c).node m → KeptNode (prepared_by serial (task_effect u.shared (stops_at other u) n task c).lines a) m
      go (Here same there) = subst (KeptNode (prepared_by serial (task_effect u.shared (stops_at other u) n task c).lines a)) (sym there) (does (sym same) (h n (subst (λ x. find_node x u.nodes ≡ Some n) (sym same) found)))
      go (Beside apart there) = subst (λ b. KeptNode b m)
          (sym (foreign serial (task_effect u.shared (stops_at other u) n task c).lines a
          (λ l id i e own. apart (sym own ∙ vote_owns u.shared (stops_at other u) n task c rises known may l id i e ∙ found_name other u.nodes n found))
          (λ l x i e own. apart (sym own ∙ task_owns u.shared (stops_at other u) n task c rises known may x (line_in (task_effect u.shared (stops_at other u) n task c).lines l x [] i e) ∙ found_name other u.nodes n found)))) (h m there)

  -- Statements.

  -- an answer tells nothing of it
  steady_answer : (w v : World) (s : Statement) (lines events : List Line) (answer : Line) → Step w s lines v → lines ≡ events ++ answer ∷ [] → (a : Bool) → prepared_by serial lines a ≡ prepared_by serial events a
  steady_answer w v s lines events answer step shows a =
      let same : step.answer ≡ answer = (same_last step.events events step.answer answer (sym step.shows ∙ shows)).1 in
      ap (λ ls. prepared_by serial ls a) shows ∙ told_append serial events (answer ∷ []) a ∙ ap (λ x. prepared_by serial (x ∷ []) (prepared_by serial events a)) (sym same)
      ∙ told_steady serial (step.answer ∷ []) (prepared_by serial events a) (answer_plain w v s lines step, tt) (answer_voteless w v s lines step, tt)

  -- one that is one task
  pub one_known : (w v : World) (s : Statement) (lines : List Line) (node : List ℕ) (task : Task) (a : Bool) → task_of w s ≡ Some (record { node = node; task = task }) → Step w s lines v → IsSound w →
      ((n : Node) (c : Choice) → node ≡ serial.node → find_node node w.nodes ≡ Some n → TaskAllowed w.shared (stops_at node w) n task (λ cause. RoseAt w node cause v.disks) c →
      lines ≡ (task_effect w.shared (stops_at node w) n task c).lines ++ (task_effect w.shared (stops_at node w) n task c).answer ∷ [] → KeptNode a n → StaysKnown w.shared (stops_at node w) n task c a) → IsKnown a w → IsKnown (prepared_by serial lines a) v
  one_known w v s lines node task a is step sound does h m now = go (ended w v s lines node task is step)
    where
      go : Ended w v node task lines → KeptNode (prepared_by serial lines a) m
      go (Refused refusal r shows goes) = subst (λ b. KeptNode b m) (sym (ap (λ ls. prepared_by serial ls a) shows ∙ told_steady serial (refusal ∷ []) a (refusal_other refusal r, tt) (refusal_voteless refusal r, tt)))
          (h m (subst (λ (x : World). find_node serial.node x.nodes ≡ Some m) goes now))
      go (Turned n found c allowed shows goes) =
          let e = task_effect w.shared (stops_at node w) n task c in
          subst (λ b. KeptNode b m) (sym (steady_answer w v s lines e.lines e.answer step shows a))
          (put_known w node n task c (λ cause. RoseAt w node cause v.disks) a found allowed sound (λ home k. does n c home found allowed shows k) h m (subst (λ (x : World). find_node serial.node x.nodes ≡ Some m) goes now))

  -- one of more parts, by which nothing is prepared
  abbrev pub Suits : Part → Type 0
  Suits p = (u : World) (other : List ℕ) (task : Task) → task_of_part u p ≡ Some (record { node = other; task = task }) → (is_init task ≡ false) × ((s : Shared) (n : Node) (b : Branch) → TaskCasts s n task b → ⊥)

  pub part_known : (u : World) (p : Part) (c : Choice) (after : List DiskCounts) (a : Bool) → Allowed u p after c → IsSound u → Suits p → IsKnown a u → IsKnown (prepared_by serial (part_effect u p c).lines a) (part_effect u p c).world
  part_known u p c after a allowed sound suits h = go (view u p)
    where
      go : View u p → IsKnown (prepared_by serial (part_effect u p c).lines a) (part_effect u p c).world
      go (Fixed answer ends kind is) = subst (λ (x : PartEffect). IsKnown (prepared_by serial x.lines a) x.world) (sym (is c)) h
      go (Doing other task n named found does may) =
          let s = suits u other task named in
          subst (λ (x : PartEffect). IsKnown (prepared_by serial x.lines a) x.world) (sym (does c)) (λ m is. put_known u other n task c (λ cause. RoseAt u other cause after) a found (may after c allowed) sound
          (λ home k. own u.shared (stops_at other u) n task c (λ cause. RoseAt u other cause after) a (sound_node u sound other n found) s.0 (λ b q same. absurd (s.1 u.shared n b q)) (may after c allowed) k) h m is)

  does_suits : (other : List ℕ) (task : Task) → is_init task ≡ false → ((s : Shared) (n : Node) (b : Branch) → TaskCasts s n task b → ⊥) → Suits (Does other task)
  does_suits other task off none u x t is = let same : task ≡ t = ap (λ (y : TaskAt). y.task) (some_is _ _ is) in subst (λ y. (is_init y ≡ false) × ((s : Shared) (n : Node) (b : Branch) → TaskCasts s n y b → ⊥)) same (off, none)

  thin_suits : (other : List ℕ) (task : Task) → IsThinning task → Suits (Does other task)
  thin_suits other task thin = does_suits other task (thin_init task thin) (λ s n b q. thin_casts s n task thin b q)

  pub asks_suits : (other : List ℕ) (x : Id) → Suits (Asks other x)
  asks_suits other x u y t is = go (question u other x) refl is
    where
      go : (q : Question) → question u other x ≡ q → asked_by q ≡ Some (record { node = y; task = t }) → (is_init t ≡ false) × ((s : Shared) (n : Node) (b : Branch) → TaskCasts s n t b → ⊥)
      go (Heard m) e is =
          let thin = heard_kind u other x m e in
          subst (λ (z : TaskAt). (is_init z.task ≡ false) × ((s : Shared) (n : Node) (b : Branch) → TaskCasts s n z.task b → ⊥)) (some_is _ _ is) (thin_init (Hears m) thin, λ s n b q. thin_casts s n (Hears m) thin b q)
      go Unanswered e is = let no : ⊥ = cc in absurd no
      go (Doubtful k) e is = let no : ⊥ = cc in absurd no

  pub phases_known : (w v : World) (s : Statement) (lines : List Line) (a : Bool) → EachPhase Suits (phases_of s) → Step w s lines v → IsSound w → IsKnown a w → IsKnown (prepared_by serial lines a) v
  phases_known w v s lines a each step sound h = subst (λ b. IsKnown b v) (sym (steady_answer w v s lines step.events step.answer step step.shows a))
      (subst (IsKnown (prepared_by serial step.events a)) (sym step.goes) (go (refused_at_once w s) step.does))
    where
      begun : (s : Statement) → IsKnown a (begun_with s w)
      begun Settle = h
      begun (At other request) = h
      begun (Deliver number) = h
      begun (LinkDown x y) = h

      go : (q : Option Line) → Begins q (Phases (phases_of s) v.disks (begun_with s w) line.Normal) w step.events step.answer step.world → IsKnown (prepared_by serial step.events a) step.world
      go (Some refusal) d = subst (λ ls. IsKnown (prepared_by serial ls a) step.world) (sym d.0) (subst (IsKnown a) (sym d.2) h)
      go None d = phases_fold v.disks Suits (λ g. Unit {0}) (λ u rest answer x. (b : Bool) → IsSound u → IsKnown b u → IsKnown (prepared_by serial rest b) x)
          (λ u g q b sd k. k)
          (λ u p c ok allowed ends b sd k. part_known u p c v.disks b allowed sd ok k)
          (λ u p c ok allowed on. (
            tt,
            λ rest answer x more b sd k. subst (λ y. IsKnown y x) (sym (told_append serial (part_effect u p c).lines rest b))
                (more (prepared_by serial (part_effect u p c).lines b) (part_sound u p c v.disks allowed sd) (part_known u p c v.disks b allowed sd ok k)),
          ))
          (phases_of s) each (begun_with s w) line.Normal step.events step.answer step.world tt d a (begins_sound s w sound) (begun s)

  pub settle_suits : EachPhase Suits (phases_of Settle)
  settle_suits = (
    λ u. each_restart Suits (λ other. thin_suits other Restarts refl) u.nodes,
    (λ u. each_run_down Suits (λ other. thin_suits other RunsDown refl) u.nodes, (λ u. all_asked Suits asks_suits u.nodes, tt)),
  )

  pub link_suits : (x y : List ℕ) → EachPhase Suits (phases_of (LinkDown x y))
  link_suits x y = (each_up Suits x (LosesLink y) (thin_suits x (LosesLink y) refl), (each_up Suits y (LosesLink x) (thin_suits y (LosesLink x) refl), tt))

  pub clock_suits : (other : List ℕ) (now : ℕ) → EachPhase Suits (phases_of (At other (Clock now)))
  clock_suits other now = (λ u. (does_suits other (Serves (Clock now)) refl (λ s n b q. q), tt), (each_up Suits other Ticks (thin_suits other Ticks refl), tt))
