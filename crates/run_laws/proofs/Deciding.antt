-- A boot decides each transaction that was begun at its node before.
use Rattle.std.proofs.Common.{◌≡◌, ℕ, ◌⊎◌, List, [], ◌∷◌, ◌++◌, inl, inr, Bool, true, false, ◌&&◌, ◌||◌, Option, Some, None, if◌then◌else◌, refl, sym, ◌∙◌, ap, subst}
use Rattle.std.specs.List.{list_any}
use Rattle.std.specs.Str.{bytes_eq}
use Rattle.std.proofs.lemmas.Bool.{both_ways, cases_Bool}
use Rattle.vms_model.specs.Ids.{Id}
use Rattle.vms_model.specs.Transactions.{Outcome, Commit, Abort}
use Rattle.run_said.specs.transcript_model.Lines as line
use Rattle.run_said.specs.transcript_model.Lines.{Line, Cause}
use Rattle.run_said.specs.script_model.Statements.{Statement, At, Settle, Boot, Reading, Blank, Says, Bad}
use Rattle.run_said.specs.script_model.Grammar.{reading}
use Rattle.unit_laws.specs.records_model.History.{same_id}
use Rattle.commit_protocol.specs.Table.{Branch, Prepares}
use Rattle.commit_protocol.specs.Allowed.{is_prepared}
use Rattle.commit_protocol.specs.World.{In}
use Rattle.commit_protocol.proofs.Lists.{in_left, in_right}
use Rattle.run_said.specs.run_model.World as world
use Rattle.run_said.specs.run_model.World.{World, Shared, Node, Act, DiskCounts, Outturn, MayTurnOut, Settlement, Tables, acted, find_node, opened, powered}
use Rattle.run_said.specs.run_model.Answers.{Task, Serves, Ticks, Takes, Hears, LosesLink, RunsDown, Restarts, boot_rows, powers, task_service}
use Rattle.run_said.specs.run_model.Steps.{succeeded, Choice, TaskEffect, node_after_rows, task_effect}
use Rattle.run_said.specs.run_model.Statements.{Part, Does, Asks, PartEffect, Question, Heard, Unanswered, Doubtful, Step, Allowed, RoseAt, begun_with, part_effect, phases_of, put_into, question, stops_at}
use Rattle.run_said.specs.run_model.StepLaws.{TaskAt, asked_by, is_refusal, task_of_part}
use Rattle.run_said.specs.run_model.Transcript.{Entry, Legal, AreOpening, Turn}
use Rattle.run_said.proofs.run_model.NodeLists.{found_name, put_node, some_is}
use Rattle.run_said.proofs.run_model.PartTasks.{View, Doing, Fixed, view}
use Rattle.run_said.proofs.run_model.CauseLemmas.{refuses_first, refuses_then}
use Rattle.run_said.proofs.run_model.TaskLemmas as tasks
use Rattle.run_said.proofs.run_model.TaskLemmas.{First, Failing, Lacking, Late, Success, effect_name, outcome}
use Rattle.recovery_laws.proofs.world_laws.IdLemmas.{id_is, id_itself}
use Rattle.recovery_laws.proofs.world_laws.Induction.{powered_name}
use Rattle.recovery_laws.proofs.world_laws.ServedLemmas.{undrawn}
use Rattle.run_laws.specs.Promises.{commitment, settlement_in, settlements_of}
use Rattle.run_laws.proofs.AllShown.{IsFormed, legal_shown, shown, shown_from, shown_hold, shown_is, shown_keeps, shown_of, shown_on, shown_tracks}
use Rattle.run_laws.proofs.Beginning.{Begins as BeginsSo}
use Rattle.run_laws.proofs.Coming.{boot_none}
use Rattle.run_laws.proofs.DumpsShown.{ends_alike}
use Rattle.run_laws.proofs.FirstBranch.{IsFirst, first, first_keeps, first_on, thin_takes}
use Rattle.run_laws.proofs.Keeping.{behind_down, node_down, Kept, all_take, is_special}
use Rattle.run_laws.proofs.LastOwn.{lasting, lasting_keeps}
use Rattle.run_laws.proofs.LastShown.{Any, IsLasting, IsOld, all_old, drawn_so, lasting_on, old_on, seen_at, settled_so, step_sighted}
use Rattle.run_laws.proofs.Named.{Ended, Refused, Turned, ended}
use Rattle.run_laws.proofs.OneBranch.{one, one_keeps}
use Rattle.run_laws.proofs.Paths.{IsOn, begins_on, disks_on, part_on, path_on}
use Rattle.run_laws.proofs.Restarting.{IsBooted, down_unbooted, heard_unbooted, link_unbooted, restart_seen, tick_unbooted}
use Rattle.run_laws.proofs.SoundWorlds.{IsSound, Tracked, begins_sound, legal_sound, opening_sound, part_sound, part_tracked, sound_node, step_sound}
use Rattle.run_laws.proofs.Staying.{found_settled, part_stays, stays}
use Rattle.run_laws.proofs.ToldParts.{IsThinPart, settle_phases}
use Rattle.run_laws.proofs.Walking.{Sighted, phases_walk, sighted, walk_keeps, walk_tells}

-- Lists.

pub in_split : {A : Type 0} (x : A) (xs : List A) → In x xs → (front : List A) × (back : List A) × (xs ≡ front ++ x ∷ back)
in_split x [] i = absurd i
in_split x (y ∷ ys) (inl e) = ([], ys, ap (λ z. z ∷ ys) (sym e))
in_split x (y ∷ ys) (inr i) = let r = in_split x ys i in (y ∷ r.0, r.1, ap (λ zs. y ∷ zs) r.2)

pub any_in : {A : Type 0} (test : A → Bool) (xs : List A) → list_any test xs ≡ true → (x : A) × In x xs × (test x ≡ true)
any_in test [] e = let no : ⊥ = cc in absurd no
any_in {A} test (x ∷ xs) e = go (test x) refl e (any_in test xs)
  where
    go : (b : Bool) → test x ≡ b → (b || list_any test xs) ≡ true → (list_any test xs ≡ true → (y : A) × In y xs × (test y ≡ true)) → (y : A) × In y (x ∷ xs) × (test y ≡ true)
    go true is e more = (x, inl refl, is)
    go false is e more = let r = more e in (r.0, inr r.1, r.2)

pub in_any : {A : Type 0} (test : A → Bool) (x : A) (xs : List A) → In x xs → test x ≡ true → list_any test xs ≡ true
in_any test x [] i e = absurd i
in_any test x (y ∷ ys) (inl same) e = ap (λ b. b || list_any test ys) (ap test (sym same) ∙ e)
in_any {A} test x (y ∷ ys) (inr i) e = go (test y) (in_any test x ys i e)
  where
    go : (b : Bool) → list_any test ys ≡ true → (b || list_any test ys) ≡ true
    go true more = refl
    go false more = more

pub split_legal : (a c : World) (ys xs : List Entry) → Legal a (ys ++ xs) c → (b : World) × Legal a xs b × Legal b ys c
split_legal a c [] xs legal = (c, legal, refl)
split_legal a c (y ∷ ys) xs legal = let r = split_legal a legal.0 ys xs legal.1 in (r.0, r.1, (legal.0, r.2, legal.2))

pub join_legal : (a b c : World) (ys xs : List Entry) → Legal a xs b → Legal b ys c → Legal a (ys ++ xs) c
join_legal a b c [] xs legal path = subst (Legal a xs) (sym path) legal
join_legal a b c (y ∷ ys) xs legal path = (path.0, join_legal a b path.0 ys xs legal path.1, path.2)

pub commit_or_none : (x : Id) (ss : List Settlement) → ((s : Settlement) × In s ss × (s.serial ≡ x) × (s.outcome ≡ Commit)) ⊎ ((s : Settlement) → In s ss → s.serial ≡ x → s.outcome ≡ Commit → ⊥)
commit_or_none x [] = inr (λ s i e c. i)
commit_or_none x (y ∷ ys) = go (same_id x y.serial) refl y.outcome refl (commit_or_none x ys)
  where
    go : (b : Bool) → same_id x y.serial ≡ b → (o : Outcome) → y.outcome ≡ o → ((s : Settlement) × In s ys × (s.serial ≡ x) × (s.outcome ≡ Commit)) ⊎ ((s : Settlement) → In s ys → s.serial ≡ x → s.outcome ≡ Commit → ⊥) → ((s : Settlement) × In s (y ∷ ys) × (s.serial ≡ x) × (s.outcome ≡ Commit)) ⊎ ((s : Settlement) → In s (y ∷ ys) → s.serial ≡ x → s.outcome ≡ Commit → ⊥)
    go true t Commit c more = inl (y, inl refl, sym (id_is x y.serial t), c)
    go b t o c (inl r) = inl (r.0, inr r.1, r.2, r.3)
    go false t o c (inr none) = inr (λ s i e q. elim i [
      | inl same ↦ both_ways (same_id x y.serial) t (ap (same_id x) (ap (λ (z : Settlement). z.serial) (sym same) ∙ e) ∙ id_itself x)
      | inr j ↦ none s j e q
    ])
    go true t Abort c (inr none) = inr (λ s i e q. elim i [
      | inl same ↦ (let clash : Abort ≡ Commit = sym c ∙ ap (λ (z : Settlement). z.outcome) (sym same) ∙ q in let no : ⊥ = cc in no)
      | inr j ↦ none s j e q
    ])

-- Last settlements that were shown.

module _ (x : Id) where
  lasting_part : (disks : List DiskCounts) (u : World) (p : Part) (c : Choice) → Any p → Allowed u p disks c → IsLasting x u → IsLasting x (part_effect u p c).world
  lasting_part disks u p c ok allowed h = part_on (lasting x) (lasting_keeps x) x.node tt (λ ls. refl) (λ m. tt) u p c disks allowed (λ task n is found off. all_take (lasting x) (λ o. tt) ((task_service task).rows u.shared n)) h

  old_part : (disks : List DiskCounts) (u : World) (p : Part) (c : Choice) → Any p → Allowed u p disks c → IsOld x u → IsOld x (part_effect u p c).world
  old_part disks u p c ok allowed h = part_on (one x (λ t. Unit {0}) (λ t. Unit {0}) (λ s. Unit {0})) (one_keeps x (λ t. Unit {0}) (λ t. Unit {0}) (λ s. Unit {0}) (λ t p. p) (λ s e h. h)) x.node tt (λ ls. refl) (λ m. tt) u p c disks allowed
      (λ task n is found off. all_take (one x (λ t. Unit {0}) (λ t. Unit {0}) (λ s. Unit {0})) (all_old x) ((task_service task).rows u.shared n)) h

  -- behind the begin of the transaction it was settled so,
  step_committed : (w v : World) (s : Statement) (lines : List Line) (t : Id) (moment : ℕ) → IsLasting x w → Step w s lines v → In (line.LastCommitted t x moment) lines → (y : Settlement) × In y (settlements_of x.node v) × (y.serial ≡ x) × (y.outcome ≡ Commit)
  step_committed w v s lines t moment h step i =
      let sg = step_sighted w v s lines step (line.LastCommitted t x moment) (commitment t x moment) i refl in
      let r = walk_keeps Any v.disks (IsLasting x) (lasting_part v.disks) sg.front (begun_with s w) sg.before sg.there sg.first (begins_on (lasting x) (lasting_keeps x) x.node tt (λ ls. refl) (λ m. tt) s w h) in
      let a = seen_at x sg.there sg.part sg.choice v.disks t moment r.sound sg.allowed sg.shown in
      let here = settled_so x sg.there sg.part sg.choice v.disks t moment r a in
      let on = walk_keeps Any v.disks (λ u. In a.s (settlements_of x.node u)) (λ u p c ok allowed j. part_stays u p c x.node a.s j) sg.back (part_effect sg.there sg.part sg.choice).world sg.rest step.world sg.then here in
      (a.s, subst (λ (u : World). In a.s (settlements_of x.node u)) (sym step.goes) on, a.serial, a.outcome)

  turn_committed : (w v : World) (r : Reading) (lines : List Line) (t : Id) (moment : ℕ) → IsLasting x w → Turn w r lines v → In (line.LastCommitted t x moment) lines → (y : Settlement) × In y (settlements_of x.node v) × (y.serial ≡ x) × (y.outcome ≡ Commit)
  turn_committed w v Blank lines t moment h turn i = absurd (subst (In (line.LastCommitted t x moment)) turn.0 i)
  turn_committed w v (Says s) lines t moment h turn i = step_committed w v s lines t moment h turn i
  turn_committed w v (Bad column) lines t moment h turn i = absurd turn

  pub committed_after : (v0 closing : World) (after before : List Entry) (e : Entry) (t : Id) (moment : ℕ) → IsLasting x v0 → Legal v0 (after ++ e ∷ before) closing → In (line.LastCommitted t x moment) e.lines → (y : Settlement) × In y (settlements_of x.node closing) × (y.serial ≡ x) × (y.outcome ≡ Commit)
  committed_after v0 closing after before e t moment h legal i =
      let r = stays v0 closing after (e ∷ before) legal in
      let l = r.1 in
      let y = turn_committed l.0 r.0 (reading e.source.text) e.lines t moment (lasting_on x v0 l.0 before l.1 h) l.2 i in
      (y.0, r.2 x.node y.0 y.1, y.2, y.3)

  -- and before it its id was drawn
  step_old : (w v : World) (s : Statement) (lines : List Line) (t : Id) (moment : ℕ) → IsSound w → Step w s lines v → In (line.LastCommitted t x moment) lines → IsOld x v
  step_old w v s lines t moment sound step i =
      let sg = step_sighted w v s lines step (line.LastCommitted t x moment) (commitment t x moment) i refl in
      let r = walk_keeps Any v.disks IsSound (λ u p c ok allowed h. part_sound u p c v.disks allowed h) sg.front (begun_with s w) sg.before sg.there sg.first (begins_sound s w sound) in
      let a = seen_at x sg.there sg.part sg.choice v.disks t moment r sg.allowed sg.shown in
      let here = drawn_so x sg.there sg.part sg.choice v.disks t moment r sg.allowed a in
      let on = walk_keeps Any v.disks (IsOld x) (old_part v.disks) sg.back (part_effect sg.there sg.part sg.choice).world sg.rest step.world sg.then here in
      subst (IsOld x) (sym step.goes) (disks_on (one x (λ t. Unit {0}) (λ t. Unit {0}) (λ s. Unit {0})) (one_keeps x (λ t. Unit {0}) (λ t. Unit {0}) (λ s. Unit {0}) (λ t p. p) (λ s e h. h)) x.node tt (λ ls. refl) (λ m. tt) step.world v.disks on)

  turn_old : (w v : World) (r : Reading) (lines : List Line) (t : Id) (moment : ℕ) → IsSound w → Turn w r lines v → In (line.LastCommitted t x moment) lines → IsOld x v
  turn_old w v Blank lines t moment h turn i = absurd (subst (In (line.LastCommitted t x moment)) turn.0 i)
  turn_old w v (Says s) lines t moment h turn i = step_old w v s lines t moment h turn i
  turn_old w v (Bad column) lines t moment h turn i = absurd turn

  pub none_before : (nodes : List Node) (disks : List DiskCounts) (opening : AreOpening nodes) (w0 v0 : World) (after before : List Entry) (e : Entry) (t : Id) (moment : ℕ) → Legal (opened nodes disks) (after ++ e ∷ before) w0 → BeginsSo x w0 v0 → In (line.LastCommitted t x moment) e.lines → ⊥
  none_before nodes disks opening w0 v0 after before e t moment legal b i =
      let r = split_legal (opened nodes disks) w0 after (e ∷ before) legal in
      let l = r.1 in
      let old = turn_old l.0 r.0 (reading e.source.text) e.lines t moment (legal_sound (opened nodes disks) l.0 before (opening_sound nodes disks opening) l.1) l.2 i in
      let h = old_on x r.0 w0 after r.2 old in
      undrawn b.n x ((h.tracked b.n b.found).runs b.up).drawn b.new

-- What is known behind a boot.

module _ (x : Id) where
  -- a branch that is gone: it is committed only as one of these settlements
  abbrev pub IsGone : List Settlement → World → Type 0
  IsGone ss w = IsOn (one x (λ t. ⊥) (λ t. ⊥) (λ s. In s ss)) (one_keeps x (λ t. ⊥) (λ t. ⊥) (λ s. In s ss) (λ t p. p) (λ s e h. absurd h)) x.node tt (λ ls. refl) (λ m. tt) w

  all_gone : (ss : List Settlement) (o : Option Act) → (one x (λ t. ⊥) (λ t. ⊥) (λ s. In s ss)).Takes o
  all_gone ss (Some (Tables (Prepares b) moment)) = λ e h. h
  all_gone ss (Some (Tables _ moment)) = tt
  all_gone ss (Some _) = tt
  all_gone ss None = tt

  pub gone_on : (ss : List Settlement) (w v : World) (es : List Entry) → Legal w es v → IsGone ss w → IsGone ss v
  gone_on ss w v es legal h = path_on (one x (λ t. ⊥) (λ t. ⊥) (λ s. In s ss)) (one_keeps x (λ t. ⊥) (λ t. ⊥) (λ s. In s ss) (λ t p. p) (λ s e h. absurd h)) x.node tt (λ ls. refl) (λ m. tt) (all_gone ss) w v es legal h

  gone_part : (ss : List Settlement) (disks : List DiskCounts) (u : World) (p : Part) (c : Choice) → Allowed u p disks c → IsGone ss u → IsGone ss (part_effect u p c).world
  gone_part ss disks u p c allowed h = part_on (one x (λ t. ⊥) (λ t. ⊥) (λ s. In s ss)) (one_keeps x (λ t. ⊥) (λ t. ⊥) (λ s. In s ss) (λ t p. p) (λ s e h. absurd h)) x.node tt (λ ls. refl) (λ m. tt) u p c disks allowed
      (λ task n is found off. all_take (one x (λ t. ⊥) (λ t. ⊥) (λ s. In s ss)) (all_gone ss) ((task_service task).rows u.shared n)) h

  gone_disks : (ss : List Settlement) (u : World) (disks : List DiskCounts) → IsGone ss u → IsGone ss (record u { disks = disks })
  gone_disks ss u disks h = disks_on (one x (λ t. ⊥) (λ t. ⊥) (λ s. In s ss)) (one_keeps x (λ t. ⊥) (λ t. ⊥) (λ s. In s ss) (λ t p. p) (λ s e h. absurd h)) x.node tt (λ ls. refl) (λ m. tt) u disks h

  -- where a node is up all of whose branches are prepared, a first branch is gone
  gone_from : (u : World) (m : Node) → IsFirst x u → find_node x.node u.nodes ≡ Some m → m.up ≡ true → ((b : Branch) → In b m.volatile.branches → is_prepared b.state ≡ false → ⊥) → IsGone m.settled u
  gone_from u m h found up none = record { sound = h.sound; used = h.used; tracked = λ k is. subst (Kept (one x (λ t. ⊥) (λ t. ⊥) (λ s. In s m.settled)) (one_keeps x (λ t. ⊥) (λ t. ⊥) (λ s. In s m.settled) (λ t p. p) (λ s e h. absurd h)) tt) (some_is m k (sym found ∙ is)) kept }
    where
      absent : (b : Branch) → In b m.volatile.branches → b.key.serial ≡ x → ⊥
      absent b i e = elim (cases_Bool (is_prepared b.state)) [ inl on ↦ (((h.tracked m found).runs up).branch b i e).1 on | inr off ↦ none b i off ]

      kept : Kept (one x (λ t. ⊥) (λ t. ⊥) (λ s. In s m.settled)) (one_keeps x (λ t. ⊥) (λ t. ⊥) (λ s. In s m.settled) (λ t p. p) (λ s e h. absurd h)) tt m
      kept = record {
        disk = record { of = (h.tracked m found).disk.of; prepared = (h.tracked m found).disk.prepared; commits = λ s i e c. i };
        way = λ act e. absurd (both_ways m.up ((h.sound.kept x.node m found).way act e).2 up);
        runs = λ q. record {
          drawn = ((h.tracked m found).runs up).drawn;
          fresh = λ e. let no : ⊥ = cc in absurd no;
          branch = λ b i e. absurd (absent b i e);
          commits = λ s i e c. i;
        };
      }

  first_part : (disks : List DiskCounts) (u : World) (p : Part) (c : Choice) → IsThinPart p → Allowed u p disks c → IsFirst x u → IsFirst x (part_effect u p c).world
  first_part disks u p c ok allowed h = part_on (first x) (first_keeps x) x.node tt (λ ls. refl) (λ m. tt) u p c disks allowed (takes p ok) h
    where
      takes : (p : Part) → IsThinPart p → (task : Task) (n : Node) → task_of_part u p ≡ Some (record { node = x.node; task = task }) → find_node x.node u.nodes ≡ Some n → powers (task_service task) ≡ false → Rattle.run_laws.proofs.Keeping.AllTake (first x) ((task_service task).rows u.shared n)
      takes (Does other t) thin task n is found off = subst (λ (a : TaskAt). Rattle.run_laws.proofs.Keeping.AllTake (first x) ((task_service a.task).rows u.shared n)) (some_is _ _ is) (of_thin t thin)
        where
          of_thin : (t : Task) → IsThinPart (Does other t) → Rattle.run_laws.proofs.Keeping.AllTake (first x) ((task_service t).rows u.shared n)
          of_thin Ticks h = thin_takes x u.shared n Ticks refl
          of_thin (LosesLink o) h = thin_takes x u.shared n (LosesLink o) refl
          of_thin RunsDown h = thin_takes x u.shared n RunsDown refl
          of_thin Restarts h = thin_takes x u.shared n Restarts refl
          of_thin (Serves r) h = let no : ⊥ = cc in absurd no
          of_thin (Takes m) h = let no : ⊥ = cc in absurd no
          of_thin (Hears m) h = let no : ⊥ = cc in absurd no
      takes (Asks other serial) thin task n is found off = hears (question u other serial) refl is
        where
          hears : (q : Question) → question u other serial ≡ q → asked_by q ≡ Some (record { node = x.node; task = task }) → Rattle.run_laws.proofs.Keeping.AllTake (first x) ((task_service task).rows u.shared n)
          hears (Heard m) e f = subst (λ (a : TaskAt). Rattle.run_laws.proofs.Keeping.AllTake (first x) ((task_service a.task).rows u.shared n)) (some_is _ _ f) (thin_takes x u.shared n (Hears m) (Rattle.run_laws.proofs.Reasons.heard_kind u other serial m e))
          hears Unanswered e f = let no : ⊥ = cc in absurd no
          hears (Doubtful j) e f = let no : ⊥ = cc in absurd no

-- A node that a settling boots.
pub record BootedAt (u : World) (p : Part) (c : Choice) (node : List ℕ) : Type 0 where
  pub n : Node
  pub found : find_node node u.nodes ≡ Some n
  pub e : TaskEffect
  pub world : part_effect u p c ≡ put_into u node e
  pub named : e.node.name ≡ n.name
  pub booted : IsBooted u.shared (stops_at node u) n node e

pub part_booted : (u : World) (p : Part) (c : Choice) (disks : List DiskCounts) (node : List ℕ) (count : ℕ) → IsThinPart p → Allowed u p disks c → In (line.Booted node count) (part_effect u p c).lines → BootedAt u p c node
part_booted u p c disks node count thin allowed i = go (view u p)
  where
    go : View u p → BootedAt u p c node
    go (Fixed answer ends kind is) = absurd (subst (λ (e : PartEffect). In (line.Booted node count) e.lines) (is c) i)
    go (Doing other t n named found does may) = by p thin named
      where
        j : In (line.Booted node count) (task_effect u.shared (stops_at other u) n t c).lines
        j = subst (λ (e : PartEffect). In (line.Booted node count) e.lines) (does c) i

        boots : Restarts ≡ t → BootedAt u p c node
        boots is =
            let e = task_effect u.shared (stops_at other u) n Restarts c in
            let allowed_so = subst (λ y. Rattle.run_said.specs.run_model.Steps.TaskAllowed u.shared (stops_at other u) n y (λ cause. RoseAt u other cause disks) c) (sym is) (may disks c allowed) in
            let b = restart_seen u.shared (stops_at other u) n c (λ cause. RoseAt u other cause disks) node count allowed_so (subst (λ y. In (line.Booted node count) (task_effect u.shared (stops_at other u) n y c).lines) (sym is) j) in
            let home : other ≡ node = sym (sym b.named ∙ powered_name b.outturn (stops_at other u) n ∙ found_name other u.nodes n found) in
            let world = subst (λ y. part_effect u p c ≡ put_into u other (task_effect u.shared (stops_at other u) n y c)) (sym is) (does c) in
            at other home found e world (effect_name u.shared (stops_at other u) n Restarts c) b
          where
            at : (name : List ℕ) → name ≡ node → find_node name u.nodes ≡ Some n → (e : TaskEffect) → part_effect u p c ≡ put_into u name e → e.node.name ≡ n.name → IsBooted u.shared (stops_at name u) n node e → BootedAt u p c node
            at name home f e w named b = subst (λ (y : List ℕ). find_node y u.nodes ≡ Some n → part_effect u p c ≡ put_into u y e → IsBooted u.shared (stops_at y u) n node e → BootedAt u p c node) (sym home)
                (λ f2 w2 b2. record { n = n; found = f2; e = e; world = w2; named = named; booted = b2 }) f w b

        of_thin : (s : Task) → IsThinPart (Does other s) → s ≡ t → BootedAt u p c node
        of_thin Ticks h is = absurd (tick_unbooted u.shared (stops_at other u) n c node count (subst (λ y. In (line.Booted node count) (task_effect u.shared (stops_at other u) n y c).lines) (sym is) j))
        of_thin (LosesLink o) h is = absurd (link_unbooted u.shared (stops_at other u) n o c node count (subst (λ y. In (line.Booted node count) (task_effect u.shared (stops_at other u) n y c).lines) (sym is) j))
        of_thin RunsDown h is = absurd (down_unbooted u.shared (stops_at other u) n c node count (subst (λ y. In (line.Booted node count) (task_effect u.shared (stops_at other u) n y c).lines) (sym is) j))
        of_thin Restarts h is = boots is
        of_thin (Serves r) h is = let no : ⊥ = cc in absurd no
        of_thin (Takes m) h is = let no : ⊥ = cc in absurd no
        of_thin (Hears m) h is = let no : ⊥ = cc in absurd no

        by : (q : Part) → IsThinPart q → task_of_part u q ≡ Some (record { node = other; task = t }) → BootedAt u p c node
        by (Does name s) h e = of_thin s h (ap (λ (a : TaskAt). a.task) (some_is _ _ e))
        by (Asks name serial) h e = hears (question u name serial) e
          where
            hears : (q : Question) → asked_by q ≡ Some (record { node = other; task = t }) → BootedAt u p c node
            hears (Heard m) f = absurd (heard_unbooted u.shared (stops_at other u) n m c node count (subst (λ y. In (line.Booted node count) (task_effect u.shared (stops_at other u) n y c).lines) (sym (ap (λ (a : TaskAt). a.task) (some_is _ _ f))) j))
            hears Unanswered f = let no : ⊥ = cc in absurd no
            hears (Doubtful k) f = let no : ⊥ = cc in absurd no

-- What is known in the world behind a boot, of a first branch that began before: what its node had settled by then was shown, and it will not be committed besides.
pub record IsPast (x : Id) (before : List Entry) (lines : List Line) (v : World) : Type 0 where
  pub ss : List Settlement
  pub shown : (s : Settlement) → In s ss → In s (shown_of before) ⊎ ((l : Line) × In l lines × (settlement_in l ≡ Some s))
  pub formed : (s : Settlement) → In s ss → IsFormed s
  pub own : (s : Settlement) → In s ss → s.serial ≡ x → s.outcome ≡ Commit → s.tid ≡ x
  pub stay : (s : Settlement) → In s ss → In s (settlements_of x.node v)
  pub gone : IsGone x ss v

-- a BOOT that was answered with its count was whole
pub boot_whole : (s : Shared) (stops : ℕ) (n : Node) (rises : Cause → Type 0) (count : ℕ) (e : TaskEffect) → tasks.Outcome s stops n (Serves Boot) rises e → e.answer ≡ line.NormalCount count → (o : Outturn) × MayTurnOut n o × (n.up ≡ false) × (e ≡ succeeded s (powered o stops n) (task_service (Serves Boot)))
boot_whole s stops n rises count e outcome answer = go outcome
  where
    refusal_is : (l : Line) → is_refusal l ≡ true → l ≡ line.NormalCount count → (o : Outturn) × MayTurnOut n o × (n.up ≡ false) × (e ≡ succeeded s (powered o stops n) (task_service (Serves Boot)))
    refusal_is l h is = let clash : false ≡ true = ap is_refusal (sym is) ∙ h in let no : ⊥ = cc in absurd no

    go : tasks.Outcome s stops n (Serves Boot) rises e → (o : Outturn) × MayTurnOut n o × (n.up ≡ false) × (e ≡ succeeded s (powered o stops n) (task_service (Serves Boot)))
    go (First refusal first is) = refusal_is refusal ((refuses_first s n (Serves Boot)).says refusal first) (sym (ap (λ (x : TaskEffect). x.answer) is) ∙ answer)
    go (Late o refusal may first late is) = refusal_is refusal ((refuses_then s (powered o stops n) (Serves Boot)).says refusal late) (sym (ap (λ (x : TaskEffect). x.answer) is) ∙ answer)
    go (Success o may first late is) = (o, may, node_down n _ (behind_down n (task_service (Serves Boot)) s first), is)
    go (Lacking first takes is) = let clash : line.NoMemory ≡ line.NormalCount count = sym (ap (λ (x : TaskEffect). x.answer) is) ∙ answer in let no : ⊥ = cc in absurd no
    go (Failing cause shown goes_on first rose lines down is ends) = by goes_on (sym is ∙ answer)
      where
        by : (b : Bool) → (if b then line.Normal else line.Broken cause) ≡ line.NormalCount count → (o : Outturn) × MayTurnOut n o × (n.up ≡ false) × (e ≡ succeeded s (powered o stops n) (task_service (Serves Boot)))
        by true q = let no : ⊥ = cc in absurd no
        by false q = let no : ⊥ = cc in absurd no

boot_done : (s : Shared) (stops : ℕ) (n : Node) (rises : Cause → Type 0) (count : ℕ) (e : TaskEffect) → tasks.Outcome s stops n (Serves Boot) rises e → e.answer ≡ line.NormalCount count → (o : Outturn) × (e.node ≡ acted world.ComesUp (node_after_rows (boot_rows s (powered o stops n)) (powered o stops n)))
boot_done s stops n rises count e outcome answer = let r = boot_whole s stops n rises count e outcome answer in (r.0, ap (λ (x : TaskEffect). x.node) r.3)

module _ (nodes : List Node) (disks : List DiskCounts) (opening : AreOpening nodes) (before : List Entry) (entry : Entry) (w v : World) (x : Id) (legal : Legal (opened nodes disks) before w) (turn : Turn w (reading entry.source.text) entry.lines v) (is_first : IsFirst x w) where
  abbrev first_world : World
  first_world = opened nodes disks

  all : Legal (opened nodes disks) (entry ∷ before) v
  all = (w, legal, turn)

  first_v : IsFirst x v
  first_v = first_on x nodes disks opening before (entry ∷ []) w v legal (w, refl, turn) is_first

  -- behind a BOOT
  pub past_boot : (count : ℕ) (shown_lines : List Line) → Step w (At x.node Boot) (shown_lines ++ line.NormalCount count ∷ []) v → entry.lines ≡ shown_lines ++ line.NormalCount count ∷ [] → IsPast x before entry.lines v
  past_boot count shown_lines step is = go (ended w v (At x.node Boot) (shown_lines ++ line.NormalCount count ∷ []) x.node (Serves Boot) refl step)
    where
      go : Ended w v x.node (Serves Boot) (shown_lines ++ line.NormalCount count ∷ []) → IsPast x before entry.lines v
      go (Refused refusal h shows goes) =
          let same = (ends_alike shown_lines [] (line.NormalCount count) refusal shows).1 in
          let clash : false ≡ true = ap is_refusal same ∙ h in
          let no : ⊥ = cc in
          absurd no
      go (Turned n found c allowed shows goes) =
          let e = task_effect w.shared (stops_at x.node w) n (Serves Boot) c in
          let answer = (ends_alike shown_lines e.lines (line.NormalCount count) e.answer shows).1 in
          let d = boot_done w.shared (stops_at x.node w) n (λ cause. RoseAt w x.node cause v.disks) count e (outcome w.shared (stops_at x.node w) n (Serves Boot) (λ cause. RoseAt w x.node cause v.disks) c allowed) (sym answer) in
          let there : find_node x.node v.nodes ≡ Some e.node = ap (λ (y : World). find_node x.node y.nodes) goes ∙ put_node x.node n e.node w.nodes (effect_name w.shared (stops_at x.node w) n (Serves Boot) c) found in
          let up : e.node.up ≡ true = ap (λ (y : Node). y.up) d.1 in
          let h = legal_shown nodes disks (entry ∷ before) v x.node opening all e.node there in
          record {
            ss = e.node.settled;
            shown = λ s i. shown_from entry.lines (shown_of before) s ((h.runs up).shown s i);
            formed = λ s i. (h.runs up).formed s i;
            own = λ s i same q. (first_v.tracked e.node there).disk.commits s i same q;
            stay = λ s i. subst (In s) (sym (found_settled x.node v e.node there)) i;
            gone = gone_from x v e.node first_v there up (λ b i u. boot_none w.shared (powered d.0 (stops_at x.node w) n) b (subst (λ (y : Node). In b y.volatile.branches) d.1 i) u);
          }

  -- behind a settling that booted its node
  pub past_settle : (count : ℕ) (shown_lines : List Line) (answer : Line) → Step w Settle (shown_lines ++ answer ∷ []) v → entry.lines ≡ shown_lines ++ answer ∷ [] → In (line.Booted x.node count) shown_lines → IsPast x before entry.lines v
  past_settle count shown_lines answer step is i =
      let events = (ends_alike step.events shown_lines step.answer answer (sym step.shows)).0 in
      let walk = phases_walk IsThinPart v.disks (phases_of Settle) settle_phases (begun_with Settle w) line.Normal step.events step.answer step.world step.does in
      at (sighted IsThinPart v.disks walk.0 (begun_with Settle w) step.events step.world (line.Booted x.node count) walk.1 (subst (In (line.Booted x.node count)) (sym events) i)) (λ l j. subst (In l) (sym (is ∙ ap (λ ls. ls ++ answer ∷ []) (sym events))) (in_left l step.events (answer ∷ []) j))
    where
      sound_w : IsSound w
      sound_w = legal_sound (opened nodes disks) w before (opening_sound nodes disks opening) legal

      Shown : List Settlement → World → Type 0
      Shown ss u = IsSound u × Tracked shown shown_keeps x.node ss u

      keep_shown : (ss : List Settlement) (u : World) (p : Part) (c : Choice) → IsThinPart p → Allowed u p v.disks c → IsSound u × Tracked shown shown_keeps x.node ss u → IsSound (part_effect u p c).world × Tracked shown shown_keeps x.node (shown_on (part_effect u p c).lines ss) (part_effect u p c).world
      keep_shown ss u p c ok allowed h = (part_sound u p c v.disks allowed h.0, part_tracked shown shown_keeps x.node (shown_tracks x.node) u p c v.disks ss (plain p) (λ on n f. tt) allowed h.0 h.1)
        where
          never : (b : Bool) → (b && false) ≡ false
          never true = refl
          never false = refl

          task : (t : Task) → is_special shown t ≡ false
          task (Serves r) = refl
          task _ = refl

          plain : (p : Part) → Rattle.run_laws.proofs.SoundWorlds.special_part shown shown_keeps x.node p ≡ false
          plain (Does other t) = subst (λ b. (bytes_eq other x.node && b) ≡ false) (sym (task t)) (never (bytes_eq other x.node))
          plain (Asks other serial) = refl

      at : Sighted IsThinPart v.disks (begun_with Settle w) step.events step.world (line.Booted x.node count) → ((l : Line) → In l step.events → In l entry.lines) → IsPast x before entry.lines v
      at sg into =
          let first_u = walk_keeps IsThinPart v.disks (IsFirst x) (λ u p c ok allowed h. first_part x v.disks u p c ok allowed h) sg.front (begun_with Settle w) sg.before sg.there sg.first (begins_on (first x) (first_keeps x) x.node tt (λ ls. refl) (λ m. tt) Settle w is_first) in
          let shown_u = walk_tells IsThinPart v.disks (List Settlement) shown_on (λ a. refl) Rattle.run_laws.proofs.AllShown.shown_append (λ ss u. IsSound u × Tracked shown shown_keeps x.node ss u) (λ ss u p c ok allowed h. keep_shown ss u p c ok allowed h) sg.front (shown_of before) (begun_with Settle w) sg.before sg.there sg.first
          (begins_sound Settle w sound_w, legal_shown nodes disks before w x.node opening legal) in
          let b = part_booted sg.there sg.part sg.choice v.disks x.node count sg.ok sg.allowed sg.shown in
          let u2 = (part_effect sg.there sg.part sg.choice).world in
          let ls2 = (part_effect sg.there sg.part sg.choice).lines in
          let first2 = first_part x v.disks sg.there sg.part sg.choice sg.ok sg.allowed first_u in
          let shown2 = keep_shown (shown_on sg.before (shown_of before)) sg.there sg.part sg.choice sg.ok sg.allowed shown_u in
          let there : find_node x.node u2.nodes ≡ Some b.e.node = ap (λ (y : PartEffect). find_node x.node y.world.nodes) b.world ∙ put_node x.node b.n b.e.node sg.there.nodes b.named b.found in
          let up : b.e.node.up ≡ true = ap (λ (y : Node). y.up) b.booted.node in
          let h = shown2.1 b.e.node there in
          let gone2 = gone_from x u2 b.e.node first2 there up (λ c j u. boot_none sg.there.shared (powered b.booted.outturn (stops_at x.node sg.there) b.n) c (subst (λ (y : Node). In c y.volatile.branches) b.booted.node j) u) in
          let gone = walk_keeps IsThinPart v.disks (IsGone x b.e.node.settled) (λ u p c ok allowed g. gone_part x b.e.node.settled v.disks u p c allowed g) sg.back u2 sg.rest step.world sg.then gone2 in
          record {
            ss = b.e.node.settled;
            shown = λ s j. elim (shown_from ls2 (shown_on sg.before (shown_of before)) s ((h.runs up).shown s j)) [
              | inl k ↦ elim (shown_from sg.before (shown_of before) s k) [ inl old ↦ inl old | inr r ↦ inr (r.0, into r.0 (subst (In r.0) (sym sg.is) (in_left r.0 sg.before (ls2 ++ sg.rest) r.1)), r.2) ]
              | inr r ↦ inr (r.0, into r.0 (subst (In r.0) (sym sg.is) (in_right r.0 sg.before (ls2 ++ sg.rest) (in_left r.0 ls2 sg.rest r.1))), r.2)
            ];
            formed = λ s j. (h.runs up).formed s j;
            own = λ s j same q. (first2.tracked b.e.node there).disk.commits s j same q;
            stay = λ s j. subst (λ (y : World). In s (settlements_of x.node y)) (sym step.goes) (walk_keeps IsThinPart v.disks (λ u. In s (settlements_of x.node u)) (λ u p c ok allowed k. part_stays u p c x.node s k) sg.back u2 sg.rest step.world sg.then (subst (In s) (sym (found_settled x.node u2 b.e.node there)) j));
            gone = subst (IsGone x b.e.node.settled) (sym step.goes) (gone_disks x b.e.node.settled step.world v.disks gone);
          }
