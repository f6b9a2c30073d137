-- A line that a branch is prepared or leaves as read-only has its cause: a delivery that asks for its vote, an END_BRANCH of it or a reply of a resource manager; or a
-- boot or a settling shows that it is prepared.
use Rattle.std.proofs.Common.{◌≡◌, ℕ, ◌⊎◌, zero, suc, List, [], ◌∷◌, take, inl, inr, Bool, true, false, Option, Some, None, refl, sym, ◌∙◌, ap, subst}
use Rattle.std.specs.Option.{option_map}
use Rattle.std.proofs.lemmas.Bool.{both_ways}
use Rattle.vms_model.specs.Ids.{Id}
use Rattle.run_said.specs.transcript_model.Lines as line
use Rattle.run_said.specs.transcript_model.Lines.{Line, Cause}
use Rattle.run_said.specs.script_model.Statements.{AckEvent, At, Bad, Blank, Boot, Clock, Deliver, EndBranch, Init, LinkDown, Reading, Request, Says, Settle, Statement}
use Rattle.commit_protocol.specs.Messages.{Message}
use Rattle.commit_protocol.specs.Table.{Branch, Key as BranchKey, Leaves, Accepts, Prepares, child}
use Rattle.commit_protocol.specs.World.{In}
use Rattle.run_said.specs.run_model.World as world
use Rattle.run_said.specs.run_model.World.{DiskCounts, Node, Outturn, Shared, Tables, World, find_node, opened, tm_of}
use Rattle.run_said.specs.run_model.Answers.{prepared_lines, LosesLink, Restarts, Row, RunsDown, Serves, Takes, Task, Ticks, powers, refused_before_reading, service, task_service}
use Rattle.run_said.specs.run_model.Steps.{Choice, Cut, Unpowered, Whole, WithoutMemory, begun, lines_of_rows, node_after, ready_node, rows_if, task_effect, whole}
use Rattle.run_said.specs.run_model.Statements.{Begins, Does, Part, PartEffect, Phases, RoseAt, Step, begun_with, message_at, named_node, part_effect, phases_of, refused_at_once, stops_at}
use Rattle.run_said.specs.run_model.StepLaws.{TaskAt, task_of, task_of_part}
use Rattle.run_said.specs.run_model.Transcript.{AreOpening, Entry, Legal, Turn}
use Rattle.run_said.proofs.run_model.NodeLists.{found_name, some_is}
use Rattle.run_said.proofs.run_model.PartLemmas.{EachPhase, phases_fold}
use Rattle.run_said.proofs.run_model.PartTasks.{Doing, Fixed, View, all_asked, each_restart, each_run_down, each_up, view}
use Rattle.run_said.proofs.run_model.Refusing.{not_ready, refusals, same_last}
use Rattle.run_said.proofs.Passing.{AllPass, append_passes, prepared_passes}
use Rattle.run_laws.specs.Laws.{LeavesCausedHold, VotesCausedHold}
use Rattle.run_laws.specs.Promises.{IsPreparing, ShownThere}
use Rattle.run_laws.proofs.Casting.{AllCast, CastsIn, TaskCasts, task_casts}
use Rattle.run_laws.proofs.EachRow.{AreVoteless, EachRow, VotesSo, cut_each, is_voteless, take_each}
use Rattle.run_laws.proofs.Labelling.{first_none, served_up}
use Rattle.run_laws.proofs.Named.{Ended, Refused, Turned, ended}
use Rattle.run_laws.proofs.PreparedLines.{passes_in}
use Rattle.run_laws.proofs.RecordedTasks.{asks_suits}
use Rattle.run_laws.proofs.RecordedRuns.{deliver_prepares, end_prepares, reply_prepares}
use Rattle.run_laws.proofs.RowFits.{Votes, each_votes}
use Rattle.run_laws.proofs.ShownSettled.{answer_voteless, here_in, in_append, refusal_voteless}
use Rattle.run_laws.proofs.SoundWorlds.{IsSound, legal_sound, opening_sound, sound_node}
use Rattle.run_laws.proofs.Staying.{stays}
use Rattle.run_laws.proofs.VoteOwners.{vote_owns, voter_in}

take_casts : (R : Branch → Type 0) (j : ℕ) (rs : List Row) → AllCast R rs → AllCast R (take j rs)
take_casts R zero rs h = tt
take_casts R (suc j) [] h = tt
take_casts R (suc j) (r ∷ rs) h = (h.0, take_casts R j rs h.1)

cut_casts : (R : Branch → Type 0) (o : Option Line) (rs : List Row) → AllCast R rs → AllCast R (rows_if o rs)
cut_casts R (Some refusal) rs h = tt
cut_casts R None rs h = h

-- these show what a boot found
abbrev is_boot : Task → Bool
is_boot (Serves Boot) = true
is_boot Restarts = true
is_boot _ = false

-- of these lines a boot shows one alone
abbrev is_boots_own : Line → Bool
is_boots_own (line.ReadOnly tid serial) = false
is_boots_own _ = true

module _ (tid serial : Id) (l : Line) (is_vote : (l ≡ line.Prepared tid serial) ⊎ (l ≡ line.ReadOnly tid serial)) where
  -- a branch that is prepared is the one that is shown
  abbrev IsCast : (Branch → Type 0) → Type 0
  IsCast R = (b : Branch) × R b × (b.key ≡ child tid serial)

  in_voteless : (ls : List Line) → AreVoteless ls → In l ls → ⊥
  in_voteless ls h i =
      let off : is_voteless l ≡ false = elim is_vote [ inl e ↦ ap is_voteless e | inr e ↦ ap is_voteless e ] in
      both_ways (is_voteless l) off (passes_in is_voteless ls l h i)

  row_prepared : (R : Branch → Type 0) (o : Option world.Act) (ls : List Line) → VotesSo o ls → CastsIn R o → In l ls → IsCast R
  row_prepared R (Some (Tables (Prepares b) moment)) ls v a i = elim (subst (In l) v i) [
    | inl same ↦ elim is_vote [ inl e ↦ (b, a, key_so b.key (sym e ∙ same)) | inr e ↦ (let clash : line.ReadOnly tid serial ≡ line.Prepared b.key.tid b.key.serial = sym e ∙ same in let no : ⊥ = cc in absurd no) ]
    | inr none ↦ absurd none
  ]
    where
      key_so : (k : BranchKey) → line.Prepared tid serial ≡ line.Prepared k.tid k.serial → k ≡ child tid serial
      key_so k same =
          let t : k.tid ≡ tid = cc in
          let s : k.serial ≡ serial = cc in
          λ i. record { tid = t i; serial = s i }
  row_prepared R (Some (Tables (Leaves k) moment)) ls v a i = elim (subst (In l) v i) [
    | inl same ↦ elim is_vote [ inl e ↦ (let clash : line.Prepared tid serial ≡ line.ReadOnly k.tid k.serial = sym e ∙ same in let no : ⊥ = cc in absurd no) | inr e ↦ (a.0, a.1, a.2 ∙ key_so k (sym e ∙ same)) ]
    | inr none ↦ absurd none
  ]
    where
      key_so : (k : BranchKey) → line.ReadOnly tid serial ≡ line.ReadOnly k.tid k.serial → k ≡ child tid serial
      key_so k same =
          let t : k.tid ≡ tid = cc in
          let s : k.serial ≡ serial = cc in
          λ i. record { tid = t i; serial = s i }
  row_prepared R (Some (Tables (Accepts b c) moment)) ls v a i = elim (subst (In l) v i) [
    | inl same ↦ elim is_vote [
      | inl e ↦ (let clash : line.Prepared tid serial ≡ line.Joined b.key.tid c.serial = sym e ∙ same in let no : ⊥ = cc in absurd no)
      | inr e ↦ (let clash : line.ReadOnly tid serial ≡ line.Joined b.key.tid c.serial = sym e ∙ same in let no : ⊥ = cc in absurd no)
    ]
    | inr none ↦ absurd none
  ]
  row_prepared R (Some (Tables _ moment)) ls v a i = absurd (in_voteless ls v i)
  row_prepared R _ ls v a i = absurd (in_voteless ls v i)

  rows_prepared : (R : Branch → Type 0) (rs : List Row) (n : Node) → EachRow Votes rs n → AllCast R rs → In l (lines_of_rows rs) → IsCast R
  rows_prepared R [] n v a i = absurd i
  rows_prepared R (r ∷ rs) n v a i = elim (in_append l r.lines (lines_of_rows rs) i) [ inl j ↦ row_prepared R r.act r.lines v.0 a.0 j | inr j ↦ rows_prepared R rs (node_after r.act n) v.1 a.1 j ]

  -- Tasks.

  -- it is shown by a boot, or its task prepares it
  abbrev IsBoots : Task → Type 0
  IsBoots t = (l ≡ line.Prepared tid serial) × (is_boot t ≡ true)

  abbrev CameSo : Shared → Node → Task → Type 0
  CameSo s n t = IsBoots t ⊎ IsCast (TaskCasts s n t)

  boots_own : (ls : List Line) → AllPass is_boots_own ls → In l ls → l ≡ line.Prepared tid serial
  boots_own ls h i = elim is_vote [ inl e ↦ e | inr e ↦ absurd (both_ways (is_boots_own l) (ap is_boots_own e) (passes_in is_boots_own ls l h i)) ]

  closing_prepared : (t : Task) (n : Node) → In l ((task_service t).closing_lines n) → IsBoots t
  closing_prepared (Serves r) n i = of_request r i
    where
      of_request : (r : Request) → In l ((service r).closing_lines n) → IsBoots (Serves r)
      of_request Boot i = (boots_own ((service Boot).closing_lines n) (prepared_passes is_boots_own (λ t s. refl) _) i, refl)
      of_request _ i = absurd i
  closing_prepared Restarts n i = (boots_own ((task_service Restarts).closing_lines n) (append_passes is_boots_own (prepared_lines n) _ (prepared_passes is_boots_own (λ t s. refl) _) (refl, tt)) i, refl)
  closing_prepared _ n i = absurd i

  of_ready : (s : Shared) (stops : ℕ) (o : Outturn) (n : Node) (t : Task) → IsCast (TaskCasts s (ready_node o stops (task_service t) n) t) → CameSo s n t
  of_ready s stops o n t h = go (powers (task_service t)) refl
    where
      booting : (t : Task) → powers (task_service t) ≡ true → IsCast (TaskCasts s (ready_node o stops (task_service t) n) t) → CameSo s n t
      booting (Serves request) on g = of_request request on g
        where
          of_request : (r : Request) → powers (service r) ≡ true → IsCast (TaskCasts s (ready_node o stops (service r) n) (Serves r)) → CameSo s n (Serves r)
          of_request Boot on g = absurd g.1
          of_request (Init slots journal) on g = absurd g.1
          of_request _ on g = let no : ⊥ = cc in absurd no
      booting Restarts on g = absurd g.1
      booting _ on g = let no : ⊥ = cc in absurd no

      go : (b : Bool) → powers (task_service t) ≡ b → CameSo s n t
      go true on = booting t on h
      go false off = inr (subst (λ m. IsCast (TaskCasts s m t)) (not_ready o stops (task_service t) n off) h)

  effect_prepared : (s : Shared) (stops : ℕ) (n : Node) (t : Task) (c : Choice) → In l (task_effect s stops n t c).lines → CameSo s n t
  effect_prepared s stops n t (Whole o) i = at_first (refused_before_reading s n (task_service t)) i
    where
      ready : Node
      ready = ready_node o stops (task_service t) n

      late : (q : Option Line) → In l (begun s ready (task_service t) q).lines → CameSo s n t
      late (Some refusal) j = absurd j
      late None j = elim (in_append l (lines_of_rows ((task_service t).rows s ready)) ((task_service t).closing_lines ready) j) [
        | inl k ↦ of_ready s stops o n t (rows_prepared (TaskCasts s ready t) ((task_service t).rows s ready) ready (each_votes s ready t) (task_casts s ready t) k)
        | inr k ↦ inl (closing_prepared t ready k)
      ]

      at_first : (q : Option Line) → In l (whole s n ready (task_service t) q).lines → CameSo s n t
      at_first (Some refusal) j = absurd j
      at_first None j = late ((task_service t).refused_after_reading s ready) j
  effect_prepared s stops n t WithoutMemory i = absurd i
  effect_prepared s stops n t Unpowered i = absurd (in_voteless (line.Down n.name line.Failed ∷ []) (refl, tt) i)
  effect_prepared s stops n t (Cut o j b cause) i =
      let ready = ready_node o stops (task_service t) n in
      let late = (task_service t).refused_after_reading s ready in
      let all = (task_service t).rows s ready in
      elim (in_append l (lines_of_rows (take j (rows_if late all))) (line.Down ready.name cause ∷ []) i) [
        | inl k ↦ of_ready s stops o n t (rows_prepared (TaskCasts s ready t) (take j (rows_if late all)) ready (take_each Votes j (rows_if late all) ready (cut_each Votes late all ready (each_votes s ready t))) (take_casts (TaskCasts s ready t) j (rows_if late all) (cut_casts (TaskCasts s ready t) late all (task_casts s ready t))) k)
        | inr k ↦ absurd (in_voteless (line.Down ready.name cause ∷ []) (refl, tt) k)
      ]

  -- Parts that prepare none.

  abbrev IsQuietTask : Task → Type 0
  IsQuietTask t = (l ≡ line.Prepared tid serial → is_boot t ≡ false) × ((s : Shared) (n : Node) (b : Branch) → TaskCasts s n t b → ⊥)

  abbrev IsQuietPart : Part → Type 0
  IsQuietPart p = (u : World) (other : List ℕ) (task : Task) → task_of_part u p ≡ Some (record { node = other; task = task }) → IsQuietTask task

  does_quiet : (other : List ℕ) (task : Task) → IsQuietTask task → IsQuietPart (Does other task)
  does_quiet other task quiet u x t is = let same : task ≡ t = ap (λ (y : TaskAt). y.task) (some_is _ _ is) in subst IsQuietTask same quiet

  link_quiet : (x y : List ℕ) → EachPhase IsQuietPart (phases_of (LinkDown x y))
  link_quiet x y = (each_up IsQuietPart x (LosesLink y) (does_quiet x (LosesLink y) (λ e. refl, λ s n b q. q)), (each_up IsQuietPart y (LosesLink x) (does_quiet y (LosesLink x) (λ e. refl, λ s n b q. q)), tt))

  clock_quiet : (other : List ℕ) (now : ℕ) → EachPhase IsQuietPart (phases_of (At other (Clock now)))
  clock_quiet other now = (λ u. (does_quiet other (Serves (Clock now)) (λ e. refl, λ s n b q. q), tt), (each_up IsQuietPart other Ticks (does_quiet other Ticks (λ e. refl, λ s n b q. q)), tt))

  -- none of a settling leaves as read-only
  settle_quiet : l ≡ line.ReadOnly tid serial → EachPhase IsQuietPart (phases_of Settle)
  settle_quiet left = (
    λ u. each_restart IsQuietPart (λ other. does_quiet other Restarts (never, λ s n b q. q)) u.nodes,
    (λ u. each_run_down IsQuietPart (λ other. does_quiet other RunsDown (never, λ s n b q. q)) u.nodes, (λ u. all_asked IsQuietPart (λ other x u y t is. (never, (asks_suits tid serial (Unit {0}) None (λ s m e f g. tt) other x u y t is).1)) u.nodes, tt)),
  )
    where
      never : {b : Bool} → l ≡ line.Prepared tid serial → b ≡ false
      never e = let clash : line.Prepared tid serial ≡ line.ReadOnly tid serial = sym e ∙ left in let no : ⊥ = cc in absurd no

  part_quiet : (u : World) (p : Part) (c : Choice) → IsQuietPart p → In l (part_effect u p c).lines → ⊥
  part_quiet u p c quiet = go (view u p)
    where
      go : View u p → In l (part_effect u p c).lines → ⊥
      go (Fixed answer ends kind is) i = subst (λ (e : PartEffect). In l e.lines) (is c) i
      go (Doing other task n named found does may) i =
          let q = quiet u other task named in
          elim (effect_prepared u.shared (stops_at other u) n task c (subst (λ (e : PartEffect). In l e.lines) (does c) i)) [
            | inl boots ↦ (let clash : false ≡ true = sym (q.0 boots.0) ∙ boots.1 in let no : ⊥ = cc in no)
            | inr b ↦ q.1 u.shared n b.0 b.1
          ]

  -- a line of a step is none of its answer
  in_events : (w v : World) (s : Statement) (lines : List Line) (step : Step w s lines v) → In l lines → In l step.events
  in_events w v s lines step i = elim (in_append l step.events (step.answer ∷ []) (subst (In l) step.shows i)) [
    | inl j ↦ j
    | inr j ↦ absurd (in_voteless (step.answer ∷ []) (answer_voteless w v s lines step, tt) j)
  ]

  phased : (w v : World) (s : Statement) (lines : List Line) → EachPhase IsQuietPart (phases_of s) → Step w s lines v → In l lines → ⊥
  phased w v s lines each step i = go (refused_at_once w s) step.does (in_events w v s lines step i)
    where
      go : (o : Option Line) → Begins o (Phases (phases_of s) v.disks (begun_with s w) line.Normal) w step.events step.answer step.world → In l step.events → ⊥
      go (Some refusal) d j = subst (In l) d.0 j
      go None d j = phases_fold v.disks IsQuietPart (λ g. Unit {0}) (λ u rest answer x. In l rest → ⊥)
          (λ u g none k. k)
          (λ u p c ok allowed ends k. part_quiet u p c ok k)
          (λ u p c ok allowed on. (
            tt,
            λ rest answer x more k. elim (in_append l (part_effect u p c).lines rest k) [
              | inl here ↦ part_quiet u p c ok here
              | inr later ↦ more later
            ],
          ))
          (phases_of s) each (begun_with s w) line.Normal step.events step.answer step.world tt d j

-- Statements.
module _ (nodes : List Node) (disks : List DiskCounts) (opening : AreOpening nodes) (tid serial : Id) (es : List Entry) (w v : World) (legal : Legal (opened nodes disks) es w) (lines : List Line) (l : Line) (is_vote : (l ≡ line.Prepared tid serial) ⊎ (l ≡ line.ReadOnly tid serial)) (here : In l lines) where
  abbrev Comes : Reading → Type 0
  Comes said = ((l ≡ line.Prepared tid serial) × ((said ≡ Says (At serial.node Boot)) ⊎ (said ≡ Says Settle))) ⊎ ((s : Statement) × (said ≡ Says s) × IsPreparing es s tid serial)

  by : (s : Statement) → IsPreparing es s tid serial → Comes (Says s)
  by s h = inr (s, refl, h)

  sound : IsSound w
  sound = legal_sound (opened nodes disks) w es (opening_sound nodes disks opening) legal

  single : (s : Statement) (node : List ℕ) (task : Task) → task_of w s ≡ Some (record { node = node; task = task }) → Step w s lines v →
      ((n : Node) → node ≡ serial.node → find_node node w.nodes ≡ Some n → refused_before_reading w.shared n (task_service task) ≡ None → CameSo tid serial l is_vote w.shared n task → Comes (Says s)) → Comes (Says s)
  single s node task is step comes = go (ended w v s lines node task is step)
    where
      go : Ended w v node task lines → Comes (Says s)
      go (Refused refusal r shows goes) = absurd (in_voteless tid serial l is_vote (refusal ∷ []) (refusal_voteless refusal r, tt) (subst (In l) shows here))
      go (Turned n found c allowed shows goes) =
          let e = task_effect w.shared (stops_at node w) n task c in
          let i = subst (In l) (same_last step.events e.lines step.answer e.answer (sym step.shows ∙ shows)).0 (in_events tid serial l is_vote w v s lines step here) in
          let own = vote_owns w.shared (stops_at node w) n task c (λ cause. RoseAt w node cause v.disks) (sound_node w sound node n found) allowed l serial i (elim is_vote [ inl e ↦ ap voter_in e | inr e ↦ ap voter_in e ]) in
          comes n (sym (found_name node w.nodes n found) ∙ sym own) found (first_none w.shared (stops_at node w) n task (λ cause. RoseAt w node cause v.disks) c l allowed i)
          (effect_prepared tid serial l is_vote w.shared (stops_at node w) n task c i)

  request_comes : (node : List ℕ) (r : Request) → Step w (At node r) lines v → Comes (Says (At node r))
  request_comes node (Clock now) step = absurd (phased tid serial l is_vote w v (At node (Clock now)) lines (clock_quiet tid serial l is_vote node now) step here)
  request_comes node Boot step = single (At node Boot) node (Serves Boot) refl step (λ n home found first came. elim came [ inl boots ↦ inl (boots.0, inl (ap (λ y. Says (At y Boot)) home)) | inr b ↦ absurd b.1 ])
  request_comes node (EndBranch label) step = single (At node (EndBranch label)) node (Serves (EndBranch label)) refl step (λ n home found first came. elim came [
    | inl off ↦ (let clash : false ≡ true = off.1 in let no : ⊥ = cc in absurd no)
    | inr b ↦ by (At node (EndBranch label)) (end_prepares nodes disks opening tid serial es w legal node label n (served_up n _ first) home found b.0 b.1 b.2)
  ])
  request_comes node (AckEvent who rm reply) step = single (At node (AckEvent who rm reply)) node (Serves (AckEvent who rm reply)) refl step (λ n home found first came. elim came [
    | inl off ↦ (let clash : false ≡ true = off.1 in let no : ⊥ = cc in absurd no)
    | inr b ↦ by (At node (AckEvent who rm reply)) (reply_prepares nodes disks opening tid serial es w legal node who rm reply n home found b.0 b.1 b.2)
  ])
  request_comes node r step = single (At node r) node (Serves r) refl step (λ n home found first came. elim came [
    | inl off ↦ (let clash : false ≡ true = off.1 in let no : ⊥ = cc in absurd no)
    | inr b ↦ absurd b.1
  ])

  deliver_comes : (number : ℕ) → Step w (Deliver number) lines v → Comes (Says (Deliver number))
  deliver_comes number step = go (message_at number w.shared.wire) refl
    where
      go : (o : Option Message) → message_at number w.shared.wire ≡ o → Comes (Says (Deliver number))
      go (Some m) is = single (Deliver number) m.to (Takes m) (ap (option_map {U = TaskAt} (λ (x : Message). record { node = x.to; task = Takes x })) is) step (λ n home found first came. elim came [
        | inl off ↦ (let clash : false ≡ true = off.1 in let no : ⊥ = cc in absurd no)
        | inr b ↦ by (Deliver number) (deliver_prepares nodes disks opening tid serial es w legal number m n is b.0 b.1 b.2)
      ])
      go None is = absurd (in_voteless tid serial l is_vote (line.NoSuchMessage ∷ []) (refl, tt) (subst (In l) (refusals.0 w v (Deliver number) lines line.NoSuchMessage step (ap (λ (o : Option Message). elim o as (λ x. Option Line) [ Some m ↦ named_node w m.to | None ↦ Some line.NoSuchMessage ]) is)).0 here))

  settle_comes : (l ≡ line.Prepared tid serial) ⊎ (l ≡ line.ReadOnly tid serial) → Step w Settle lines v → Comes (Says Settle)
  settle_comes (inl e) step = inl (e, inr refl)
  settle_comes (inr e) step = absurd (phased tid serial l is_vote w v Settle lines (settle_quiet tid serial l is_vote e) step here)

  turn_comes : (r : Reading) → Turn w r lines v → Comes r
  turn_comes Blank turn = absurd (subst (In l) turn.0 here)
  turn_comes (Bad column) turn = absurd turn
  turn_comes (Says (At node r)) turn = request_comes node r turn
  turn_comes (Says (Deliver number)) turn = deliver_comes number turn
  turn_comes (Says (LinkDown x y)) turn = absurd (phased tid serial l is_vote w v (LinkDown x y) lines (link_quiet tid serial l is_vote x y) turn here)
  turn_comes (Says Settle) turn = settle_comes is_vote turn

comes_there : (nodes : List Node) (disks : List DiskCounts) (es before : List Entry) (closing : World) (said : Reading) (front behind : List Line) (tid serial : Id) (l : Line) → (l ≡ line.Prepared tid serial) ⊎ (l ≡ line.ReadOnly tid serial) → AreOpening nodes → Legal (opened nodes disks) es closing → ShownThere es before said front l behind →
    ((l ≡ line.Prepared tid serial) × ((said ≡ Says (At serial.node Boot)) ⊎ (said ≡ Says Settle))) ⊎ ((s : Statement) × (said ≡ Says s) × IsPreparing before s tid serial)
comes_there nodes disks es before closing said front behind tid serial l is_vote opening legal there =
    let r = stays (opened nodes disks) closing there.after (there.entry ∷ before) (subst (λ xs. Legal (opened nodes disks) xs closing) there.stands legal) in
    turn_comes nodes disks opening tid serial before (r.1).0 r.0 (r.1).1 there.entry.lines l is_vote (subst (In l) (sym there.shown) (here_in front l behind)) said
    (subst (λ y. Turn (r.1).0 y there.entry.lines r.0) there.read (r.1).2)

pub votes_caused_hold : VotesCausedHold
votes_caused_hold nodes disks es closing opening legal before said front behind tid serial there = elim (comes_there nodes disks es before closing said front behind tid serial (line.Prepared tid serial) (inl refl) opening legal there) [
  | inl boots ↦ elim boots.1 [ inl boot ↦ inl boot | inr settle ↦ inr (inl settle) ]
  | inr h ↦ inr (inr h)
]

pub leaves_caused_hold : LeavesCausedHold
leaves_caused_hold nodes disks es closing opening legal before said front behind tid serial there = elim (comes_there nodes disks es before closing said front behind tid serial (line.ReadOnly tid serial) (inr refl) opening legal there) [
  | inl boots ↦ (let clash : line.ReadOnly tid serial ≡ line.Prepared tid serial = boots.0 in let no : ⊥ = cc in absurd no)
  | inr h ↦ h
]
