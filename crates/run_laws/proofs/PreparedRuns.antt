-- A branch that is told to be prepared is settled only as it is told.
use Rattle.std.proofs.Common.{◌≡◌, ℕ, ◌⊎◌, List, [], ◌∷◌, ◌++◌, inl, inr, map, Bool, true, false, not, ◌&&◌, Option, Some, None, if◌then◌else◌, refl, sym, ◌∙◌, ap, subst}
use Rattle.std.specs.List.{list_any}
use Rattle.std.specs.Str.{bytes_eq}
use Rattle.std.specs.Option.{option_map}
use Rattle.std.proofs.lemmas.Bool.{both_ways, cases_Bool}
use Rattle.std.proofs.lemmas.Slice.Eq.{bytes_eq-Decides}
use Rattle.vms_model.specs.Ids.{Id}
use Rattle.vms_model.specs.Transactions.{Outcome, Commit, Abort, Reason, Aborted, Vetoed, SyncFail, Timeout, CommFail, SegFail}
use Rattle.run_said.specs.transcript_model.Lines as line
use Rattle.run_said.specs.transcript_model.Lines.{Line, Cause}
use Rattle.run_said.specs.script_model.Statements.{At, Blank, Bad, Clock, Deliver, Direct, EndTrans, AbortTrans, Init, LinkDown, Reading, Request, Says, Settle, Statement, AckEvent}
use Rattle.run_said.specs.script_model.Grammar.{reading}
use Rattle.unit_laws.specs.records_model.History.{same_id}
use Rattle.commit_protocol.specs.Messages as message
use Rattle.commit_protocol.specs.Messages.{LogRecord, Message, VetoReply}
use Rattle.commit_protocol.specs.Table.{Key as BranchKey, key_of}
use Rattle.commit_protocol.specs.World.{In}
use Rattle.run_said.specs.log_laws.Slots.{prepared_of, records_in}
use Rattle.run_said.specs.run_model.World as world
use Rattle.run_said.specs.run_model.World.{World, Node, Act, DiskCounts, IsOpening, Settlement, find_node, opened, prepared_left, prepared_serials, settlement}
use Rattle.run_said.specs.run_model.Answers.{Task, Serves, Ticks, Takes, Hears, LosesLink, Restarts, RunsDown, refused_before_reading, service}
use Rattle.run_said.specs.run_model.Steps.{Choice, TaskEffect, Whole, TaskAllowed, task_effect, whole, ready_node}
use Rattle.run_said.specs.run_model.Statements.{Part, named_node, Does, Asks, PartEffect, Phases, Begins, Step, Allowed, RoseAt, begun_with, message_at, part_effect, phases_of, refused_at_once, stops_at}
use Rattle.run_said.specs.run_model.StepLaws.{TaskAt, task_of_part}
use Rattle.run_said.specs.run_model.Transcript.{AreOpening, Entry, Legal, Turn}
use Rattle.run_said.proofs.run_model.NodeLists.{found_name, put_node, some_is}
use Rattle.run_said.proofs.run_model.PartLemmas.{EachPhase, phases_fold}
use Rattle.run_said.proofs.run_model.PartTasks.{Doing, Fixed, View, all_asked, each_restart, each_run_down, each_up, view}
use Rattle.run_said.proofs.run_model.Refusing.{refusals, same_last}
use Rattle.run_said.proofs.run_model.TaskLemmas.{effect_name, outcome}
use Rattle.recovery_laws.proofs.world_laws.IdLemmas.{id_is}
use Rattle.recovery_laws.proofs.world_laws.WorldLemmas.{each_opening}
use Rattle.run_laws.specs.Accounts.{made_anew}
use Rattle.run_laws.specs.Causes.{AbortCause, CommitCause, DeliversTo, IsDirect, WasSent}
use Rattle.run_laws.specs.Laws.{PreparedHold}
use Rattle.run_laws.specs.Promises.{IsTold, ShownThere, abort, commitment, is_left_prepared, is_told_prepared, prepared_by, settlement_in, shown_in}
use Rattle.run_laws.proofs.CauseRuns.{aborted_hold, commits_hold}
use Rattle.run_laws.proofs.EachRow.{is_plain}
use Rattle.run_laws.proofs.Keeping.{Kept, init_else, is_init}
use Rattle.run_laws.proofs.Named.{Ended, Refused, Turned, ended}
use Rattle.run_laws.proofs.OneBranch.{in_order}
use Rattle.run_laws.proofs.OwnLines.{line_in, task_owns}
use Rattle.run_laws.proofs.PreparedTasks.{IsToldBy, SettledThere, none_settled, plain_settled, split_so, task_settled}
use Rattle.run_laws.proofs.ShownSettled.{answer_plain, answer_voteless, here_in, outcome_other, refusal_other, refusal_voteless}
use Rattle.run_laws.proofs.SoundWorlds.{IsPlainReading, IsSound, Tracked, begins_sound, legal_sound, opening_sound, part_sound, part_tracked, sound_node, special_part, turn_tracked, unused}
use Rattle.run_laws.proofs.Staying.{stays}
use Rattle.run_laws.proofs.StayPrepared.{kept_false, preparing, preparing_keeps, preparing_tracks, told_append, told_steady}
use Rattle.run_laws.proofs.TaskCauses.{effect_caused}
use Rattle.run_laws.proofs.Wires.{was_sent}

abbrev TrackedFor : Id → Bool → World → Type 0
TrackedFor serial a w = Tracked (preparing serial) (preparing_keeps serial) serial.node a w

-- A volume that is not made anew.

pub not_made : (node at : List ℕ) (r : Request) → (bytes_eq at node && is_init (Serves r)) ≡ false → (lines : List Line) → made_anew node (Says (At at r)) lines ≡ false
not_made node at (Init slots journal) e lines = go lines
  where
    other : bytes_eq at node ≡ false
    other = by (bytes_eq at node) e
      where
        by : (b : Bool) → (b && true) ≡ false → b ≡ false
        by true k = k
        by false k = refl

    go : (lines : List Line) → made_anew node (Says (At at (Init slots journal))) lines ≡ false
    go [] = refl
    go (line.Normal ∷ []) = other
    go (line.Normal ∷ y ∷ ls) = refl
    go (x ∷ ls) = refl
not_made node at _ e lines = refl

-- Worlds.

record_there : (serial : Id) (rs : List LogRecord) → list_any (λ (r : LogRecord). same_id serial r.serial) rs ≡ true → (r : LogRecord) × In r rs × (r.serial ≡ serial)
record_there serial [] e = let no : ⊥ = cc in absurd no
record_there serial (r ∷ rs) e = go (same_id serial r.serial) refl e (λ k. record_there serial rs k)
  where
    go : (b : Bool) → same_id serial r.serial ≡ b → (Rattle.std.proofs.Common.◌||◌ b (list_any (λ (q : LogRecord). same_id serial q.serial) rs)) ≡ true → (list_any (λ (q : LogRecord). same_id serial q.serial) rs ≡ true → (q : LogRecord) × In q rs × (q.serial ≡ serial)) → (q : LogRecord) × In q (r ∷ rs) × (q.serial ≡ serial)
    go true is k more = (r, inl refl, sym (id_is serial r.serial is))
    go false is k more = let q = more k in (q.0, inr q.1, q.2)

module _ (nodes : List Node) (disks : List DiskCounts) (opening : AreOpening nodes) (serial : Id) where
  abbrev start : World
  start = opened nodes disks

  opening_kept : (n : Node) → find_node serial.node nodes ≡ Some n → IsOpening n → Kept (preparing serial) (preparing_keeps serial) (is_left_prepared serial start) n
  opening_kept n found o = record {
    disk = λ e.
        let q = record_there serial (prepared_left n.durable) (sym (ap (λ (x : Option Node). elim x as (λ y. Bool) [ Some m ↦ list_any (λ (r : LogRecord). same_id serial r.serial) (prepared_left m.durable) | None ↦ false ]) found) ∙ e) in
        inl (q.0, in_order (prepared_serials n.durable.units.entries) (prepared_of (records_in n.durable.log)) q.0 q.1, q.2);
    way = λ act is e. let clash : ◌≡◌ {A = Option Act} None (Some act) = sym o.under_way ∙ is in let no : ⊥ = cc in absurd no;
    runs = λ up. absurd (both_ways n.up o.down up);
  }

  -- an INIT of the node
  init_told : (w v : World) (slots journal : ℕ) (lines : List Line) (a : Bool) → IsSound w → Step w (At serial.node (Init slots journal)) lines v → TrackedFor serial a w →
      TrackedFor serial (not (made_anew serial.node (Says (At serial.node (Init slots journal))) lines) && prepared_by serial lines a) v
  init_told w v slots journal lines a sound step h m now = by (cases_Bool (made_anew serial.node (Says (At serial.node (Init slots journal))) lines))
    where
      said : Statement
      said = At serial.node (Init slots journal)

      made : Bool
      made = made_anew serial.node (Says (At serial.node (Init slots journal))) lines

      answer_steady : (b : Bool) → prepared_by serial (step.answer ∷ []) b ≡ b
      answer_steady b = told_steady serial (step.answer ∷ []) b (answer_plain w v (At serial.node (Init slots journal)) lines step, tt) (answer_voteless w v (At serial.node (Init slots journal)) lines step, tt)

      go : made ≡ false → Ended w v serial.node (Serves (Init slots journal)) lines → Kept (preparing serial) (preparing_keeps serial) (prepared_by serial lines a) m
      go off (Refused refusal r shows goes) = subst (λ b. Kept (preparing serial) (preparing_keeps serial) b m) (sym (ap (λ ls. prepared_by serial ls a) shows ∙ told_steady serial (refusal ∷ []) a (refusal_other refusal r, tt) (refusal_voteless refusal r, tt)))
          (h m (subst (λ (x : World). find_node serial.node x.nodes ≡ Some m) goes now))
      go off (Turned n found c allowed shows goes) =
          let e = task_effect w.shared (stops_at serial.node w) n (Serves (Init slots journal)) c in
          let at = sound_node w sound serial.node n found in
          let kept = init_else (preparing serial) (preparing_keeps serial) w.shared (stops_at serial.node w) n (Serves (Init slots journal)) a at.kept (h n found) (unused w.shared n at) slots journal c (λ cause. RoseAt w serial.node cause v.disks) allowed fails in
          let answer_so : e.answer ≡ step.answer = (same_last e.lines step.events e.answer step.answer (sym shows ∙ step.shows)).1 in
          let lines_so : prepared_by serial lines a ≡ prepared_by serial e.lines a =
          ap (λ ls. prepared_by serial ls a) shows ∙ told_append serial e.lines (e.answer ∷ []) a ∙ ap (λ x. prepared_by serial (x ∷ []) (prepared_by serial e.lines a)) answer_so ∙ answer_steady (prepared_by serial e.lines a) in
          let there : find_node serial.node v.nodes ≡ Some e.node = ap (λ (y : World). find_node serial.node y.nodes) goes ∙ put_node serial.node n e.node w.nodes (effect_name w.shared (stops_at serial.node w) n (Serves (Init slots journal)) c) found in
          subst (λ b. Kept (preparing serial) (preparing_keeps serial) b m) (sym lines_so) (subst (Kept (preparing serial) (preparing_keeps serial) (prepared_by serial e.lines a)) (some_is e.node m (sym there ∙ now)) kept)
        where
          fails : (o : world.Outturn) → c ≡ Whole o → refused_before_reading w.shared n (service (Init slots journal)) ≡ None → ⊥
          fails o is first =
              let whole_so : lines ≡ line.Normal ∷ [] = shows ∙ (λ i. (task_effect w.shared (stops_at serial.node w) n (Serves (Init slots journal)) (is i)).lines ++ (task_effect w.shared (stops_at serial.node w) n (Serves (Init slots journal)) (is i)).answer ∷ [])
              ∙ ap (λ q. (whole w.shared n (ready_node o (stops_at serial.node w) (service (Init slots journal)) n) (service (Init slots journal)) q).lines ++ (whole w.shared n (ready_node o (stops_at serial.node w) (service (Init slots journal)) n) (service (Init slots journal)) q).answer ∷ []) first in
              both_ways made off (ap (made_anew serial.node (Says (At serial.node (Init slots journal)))) whole_so ∙ (bytes_eq-Decides serial.node serial.node).1 refl)

      by : (made ≡ true) ⊎ (made ≡ false) → Kept (preparing serial) (preparing_keeps serial) (not made && prepared_by serial lines a) m
      by (inl on) = subst (λ b. Kept (preparing serial) (preparing_keeps serial) (not b && prepared_by serial lines a) m) (sym on) (kept_false serial m)
      by (inr off) = subst (λ b. Kept (preparing serial) (preparing_keeps serial) (not b && prepared_by serial lines a) m) (sym off) (go off (ended w v (At serial.node (Init slots journal)) lines serial.node (Serves (Init slots journal)) refl step))

  turn_prepared : (w v : World) (r : Reading) (lines : List Line) (a : Bool) → IsSound w → Turn w r lines v → TrackedFor serial a w → TrackedFor serial (not (made_anew serial.node r lines) && prepared_by serial lines a) v
  turn_prepared w v r lines a sound turn h = go r turn
    where
      plainly : (r : Reading) → IsPlainReading (preparing serial) (preparing_keeps serial) serial.node (preparing_tracks serial) r → made_anew serial.node r lines ≡ false → Turn w r lines v → TrackedFor serial (not (made_anew serial.node r lines) && prepared_by serial lines a) v
      plainly r plain off t = subst (λ b. TrackedFor serial (not b && prepared_by serial lines a) v) (sym off) (turn_tracked (preparing serial) (preparing_keeps serial) serial.node (preparing_tracks serial) w v (λ n found. tt) r lines a plain t sound h)

      at : (other : List ℕ) (request : Request) (b : Bool) → bytes_eq other serial.node ≡ b → Turn w (Says (At other request)) lines v → TrackedFor serial (not (made_anew serial.node (Says (At other request)) lines) && prepared_by serial lines a) v
      at other request false q t = let plain = ap (λ b. b && is_init (Serves request)) q in plainly (Says (At other request)) plain (not_made serial.node other request plain lines) t
      at other request true q t = of_request request t
        where
          others : (r : Request) → is_init (Serves r) ≡ false → Turn w (Says (At other r)) lines v → TrackedFor serial (not (made_anew serial.node (Says (At other r)) lines) && prepared_by serial lines a) v
          others r is t = let plain : (bytes_eq other serial.node && is_init (Serves r)) ≡ false = (λ i. q i && is i) in plainly (Says (At other r)) plain (not_made serial.node other r plain lines) t

          of_request : (r : Request) → Turn w (Says (At other r)) lines v → TrackedFor serial (not (made_anew serial.node (Says (At other r)) lines) && prepared_by serial lines a) v
          of_request (Init slots journal) t = subst (λ name. Step w (At name (Init slots journal)) lines v → TrackedFor serial (not (made_anew serial.node (Says (At name (Init slots journal))) lines) && prepared_by serial lines a) v) (sym ((bytes_eq-Decides other serial.node).0 q))
              (λ s. init_told w v slots journal lines a sound s h) t
          of_request r t = others r refl t

      says : (s : Statement) → Turn w (Says s) lines v → TrackedFor serial (not (made_anew serial.node (Says s) lines) && prepared_by serial lines a) v
      says (At other request) t = at other request (bytes_eq other serial.node) refl t
      says s t = plainly (Says s) tt refl t

      go : (r : Reading) → Turn w r lines v → TrackedFor serial (not (made_anew serial.node r lines) && prepared_by serial lines a) v
      go (Says s) t = says s t
      go r t = plainly r tt refl t

  pub legal_prepared : (es : List Entry) (w : World) → Legal start es w → TrackedFor serial (is_told_prepared serial start es) w
  legal_prepared [] w legal = subst (TrackedFor serial (is_left_prepared serial start)) (sym legal) (λ n found. opening_kept n found (each_opening nodes opening serial.node n found))
  legal_prepared (e ∷ es) w legal = turn_prepared legal.0 w (reading e.source.text) e.lines (is_told_prepared serial start es) (legal_sound start legal.0 es (opening_sound nodes disks opening) legal.1) legal.2 (legal_prepared es legal.0 legal.1)

-- Statements.

shown_so : (l : Line) (x : Settlement) → shown_in l ≡ Some x → settlement_in l ≡ Some x
shown_so (line.LastCommitted tid s moment) x e = let no : ⊥ = cc in absurd no
shown_so (line.LastAborted tid s reason moment) x e = let no : ⊥ = cc in absurd no
shown_so _ x e = e

module _ (serial : Id) (X : Settlement → Type 0) where
  -- no settlement of a branch that is told to be prepared is shown of which this is said
  abbrev NoneSuch : Bool → List Line → Type 0
  NoneSuch a ls = (t : SettledThere serial a ls) → X t.it → ⊥

  -- a task of a part tells no outcome of which this is said
  abbrev IsSilent : Part → Type 0
  IsSilent p = (u : World) (other : List ℕ) (t : Task) → task_of_part u p ≡ Some (record { node = other; task = t }) → (k : BranchKey) (o : Outcome) (reason : Reason) (moment : ℕ) → IsToldBy t k o reason → X (settlement k o reason moment) → ⊥

  abbrev IsFit : Part → Type 0
  IsFit p = (special_part (preparing serial) (preparing_keeps serial) serial.node p ≡ false) × IsSilent p

  part_none : (disks : List DiskCounts) (u : World) (p : Part) (c : Choice) (a : Bool) → IsSilent p → Allowed u p disks c → IsSound u → TrackedFor serial a u → NoneSuch a (part_effect u p c).lines
  part_none disks u p c a silent allowed sound h = go (view u p)
    where
      go : View u p → NoneSuch a (part_effect u p c).lines
      go (Fixed answer ends kind is) = subst (λ (e : PartEffect). NoneSuch a e.lines) (sym (is c)) (λ t x. plain_settled serial a [] tt t)
      go (Doing other t n named found does may) = subst (λ (e : PartEffect). NoneSuch a e.lines) (sym (does c)) (λ q x.
          let at = sound_node u sound other n found in
          let own = task_owns u.shared (stops_at other u) n t c (λ cause. RoseAt u other cause disks) at (may disks c allowed) q.it (line_in _ q.this q.it [] (subst (In q.this) (sym q.stands) (here_in q.front q.this q.behind)) (shown_so q.this q.it q.shows)) in
          let home : other ≡ serial.node = sym (found_name other u.nodes n found) ∙ sym own ∙ ap (λ (y : Id). y.node) q.same in
          let r = task_settled serial u.shared (stops_at other u) n (λ cause. RoseAt u other cause disks) a at (h n (subst (λ name. find_node name u.nodes ≡ Some n) home found)) t c (may disks c allowed) q in
          silent u other t named r.key r.outcome_is r.reason_is r.moment r.by (subst X r.is x))

  step_none : (w v : World) (s : Statement) (lines : List Line) (a : Bool) → EachPhase IsFit (phases_of s) → Step w s lines v → IsSound w → TrackedFor serial a w → NoneSuch a lines
  step_none w v s lines a fit step sound h = subst (NoneSuch a) (sym step.shows) (λ t x. elim (split_so serial a step.events (step.answer ∷ []) t) [
    | inl front ↦ go (refused_at_once w s) step.does front.0 (subst X front.1 x)
    | inr behind ↦ plain_settled serial (prepared_by serial step.events a) (step.answer ∷ []) (answer_plain w v s lines step, tt) behind.0
  ])
    where
      begun_tracked : (s : Statement) → TrackedFor serial a w → TrackedFor serial a (begun_with s w)
      begun_tracked Settle k = k
      begun_tracked (At other request) k = k
      begun_tracked (Deliver number) k = k
      begun_tracked (LinkDown x y) k = k

      go : (o : Option Line) → Begins o (Phases (phases_of s) v.disks (begun_with s w) line.Normal) w step.events step.answer step.world → NoneSuch a step.events
      go (Some refusal) d = subst (NoneSuch a) (sym d.0) (λ t x. plain_settled serial a [] tt t)
      go None d = phases_fold v.disks IsFit (λ g. Unit {0}) (λ u rest answer x. (b : Bool) → IsSound u → TrackedFor serial b u → NoneSuch b rest)
          (λ u g q b sd k t x. plain_settled serial b [] tt t)
          (λ u p c ok allowed ends b sd k. part_none v.disks u p c b ok.1 allowed sd k)
          (λ u p c ok allowed on. (
            tt,
            λ rest answer x more b sd k t y. elim (split_so serial b (part_effect u p c).lines rest t) [
              | inl front ↦ part_none v.disks u p c b ok.1 allowed sd k front.0 (subst X front.1 y)
              | inr behind ↦ more (prepared_by serial (part_effect u p c).lines b) (part_sound u p c v.disks allowed sd)
                  (part_tracked (preparing serial) (preparing_keeps serial) serial.node (preparing_tracks serial) u p c v.disks b ok.0 (λ on n found. tt) allowed sd k) behind.0 (subst X behind.1 y)
            ],
          ))
          (phases_of s) fit (begun_with s w) line.Normal step.events step.answer step.world tt d a (begins_sound s w sound) (begun_tracked s h)

-- Which parts are fit.

never_init : (b : Bool) → (b && false) ≡ false
never_init true = refl
never_init false = refl

module _ (serial : Id) where
  abbrev Anything : Settlement → Type 0
  Anything x = Unit {0}

  -- a task that takes and hears nothing
  abbrev IsDeaf : Task → Type 0
  IsDeaf t = (m : Message) → ((t ≡ Takes m) ⊎ (t ≡ Hears m)) → ⊥

  deaf_silent : (node : List ℕ) (t : Task) → IsDeaf t → IsSilent serial Anything (Does node t)
  deaf_silent node t deaf u other x named k o reason moment told y =
      let same : t ≡ x = ap (λ (q : TaskAt). q.task) (some_is _ _ named) in
      deaf told.0 (elim told.1 [ inl e ↦ inl (same ∙ e) | inr e ↦ inr (same ∙ e) ])

  request_fit : (node : List ℕ) (r : Request) → (bytes_eq node serial.node && is_init (Serves r)) ≡ false → IsFit serial Anything (Does node (Serves r))
  request_fit node r plain = (plain, deaf_silent node (Serves r) (λ m e. elim e [ inl is ↦ (let no : ⊥ = cc in no) | inr is ↦ (let no : ⊥ = cc in no) ]))

  request_phases : (node : List ℕ) (r : Request) → (bytes_eq node serial.node && is_init (Serves r)) ≡ false → EachPhase (IsFit serial Anything) (phases_of (At node r))
  request_phases node (Clock now) plain =
      ((λ u. (request_fit node (Clock now) plain, tt)), ((λ u. each_up (IsFit serial Anything) node Ticks (never_init (bytes_eq node serial.node), deaf_silent node Ticks (λ m e. elim e [ inl is ↦ (let no : ⊥ = cc in no) | inr is ↦ (let no : ⊥ = cc in no) ])) u), tt))
  request_phases node r plain = ((λ u. (request_fit node r plain, tt)), tt)

  link_phases : (a b : List ℕ) → EachPhase (IsFit serial Anything) (phases_of (LinkDown a b))
  link_phases a b = (
    (λ u. each_up (IsFit serial Anything) a (LosesLink b) (never_init (bytes_eq a serial.node), deaf_silent a (LosesLink b) (λ m e. elim e [ inl is ↦ (let no : ⊥ = cc in no) | inr is ↦ (let no : ⊥ = cc in no) ])) u),
    ((λ u. each_up (IsFit serial Anything) b (LosesLink a) (never_init (bytes_eq b serial.node), deaf_silent b (LosesLink a) (λ m e. elim e [ inl is ↦ (let no : ⊥ = cc in no) | inr is ↦ (let no : ⊥ = cc in no) ])) u), tt),
  )

  abbrev Fell : Settlement → Type 0
  Fell x = x.reason ≡ Some SegFail

  -- no message tells of a fall
  told_none : (t : Task) (k : BranchKey) (o : Outcome) (reason : Reason) (moment : ℕ) → IsToldBy t k o reason → Fell (settlement k o reason moment) → ⊥
  told_none t k o reason moment (m, is, inl commit) fell = let clash : None ≡ Some SegFail = ap (λ out. world.reason_of out reason) (sym commit.1) ∙ fell in let no : ⊥ = cc in no
  told_none t k o reason moment (m, is, inr ab) fell = let clash : Some Aborted ≡ Some SegFail = (λ i. world.reason_of (sym ab.1 i) (sym ab.2 i)) ∙ fell in let no : ⊥ = cc in no

  any_silent : (p : Part) → IsSilent serial Fell p
  any_silent p u other t named k o reason moment told fell = told_none t k o reason moment told fell

  settle_phases : EachPhase (IsFit serial Fell) (phases_of Settle)
  settle_phases = (
    (λ u. each_restart (IsFit serial Fell) (λ node. (never_init (bytes_eq node serial.node), any_silent (Does node Restarts))) u.nodes),
    ((λ u. each_run_down (IsFit serial Fell) (λ node. (never_init (bytes_eq node serial.node), any_silent (Does node RunsDown))) u.nodes), ((λ u. all_asked (IsFit serial Fell) (λ node s. (refl, any_silent (Asks node s))) u.nodes), tt)),
  )

-- A delivery.
module _ (nodes : List Node) (disks : List DiskCounts) (opening : AreOpening nodes) (es : List Entry) (w v : World) (serial : Id) (legal : Legal (opened nodes disks) es w) (sound : IsSound w) where
  outcome_told : (said : Reading) (front : List Line) (number : ℕ) (m : Message) (k : BranchKey) (o : Outcome) (reason : Reason) → said ≡ Says (Deliver number) → message_at number w.shared.wire ≡ Some m → IsToldBy (Takes m) k o reason → IsTold es said front k.tid k.serial o
  outcome_told said front number m k o reason is there (x, same, told) = by told
    where
      one : m ≡ x
      one = elim same [ inl e ↦ (let takes : Takes m ≡ Takes x = e in cc) | inr e ↦ (let no : ⊥ = cc in absurd no) ]

      sent : WasSent es number m
      sent = was_sent nodes disks es w number m opening legal there

      delivers : (kind : message.Kind) → x.kind ≡ kind → k ≡ key_of x → DeliversTo es said kind k.tid k.serial
      delivers kind e key = (number, m, is, sent, ap (λ (y : Message). y.kind) one ∙ e, ap (λ (y : Message). y.tid) one ∙ ap (λ (j : BranchKey). j.tid) (sym key), ap (λ (y : Message). y.serial) one ∙ ap (λ (j : BranchKey). j.serial) (sym key))

      by : (((x.kind ≡ message.Commit) × (o ≡ Commit) × (k ≡ key_of x)) ⊎ ((x.kind ≡ message.Abort) × (o ≡ Abort) × (reason ≡ Aborted) × (k ≡ key_of x))) → IsTold es said front k.tid k.serial o
      by (inl c) = subst (IsTold es said front k.tid k.serial) (sym c.1) (inl (delivers message.Commit c.0 c.2))
      by (inr c) = subst (IsTold es said front k.tid k.serial) (sym c.1) (inl (delivers message.Abort c.0 c.3))

  module _ (number : ℕ) (front : List Line) (a : Bool) (h : TrackedFor serial a w) where
    abbrev Goal : List Line → Type 0
    Goal ls = (t : SettledThere serial a ls) → IsTold es (Says (Deliver number)) front t.it.tid t.it.serial t.it.outcome

    single : (answer : Line) → is_plain answer ≡ true → Goal (answer ∷ [])
    single answer plain t = absurd (plain_settled serial a (answer ∷ []) (plain, tt) t)

    turned : (m : Message) (n : Node) (c : Choice) → message_at number w.shared.wire ≡ Some m → find_node m.to w.nodes ≡ Some n → TaskAllowed w.shared (stops_at m.to w) n (Takes m) (λ cause. RoseAt w m.to cause v.disks) c →
        Goal ((task_effect w.shared (stops_at m.to w) n (Takes m) c).lines ++ (task_effect w.shared (stops_at m.to w) n (Takes m) c).answer ∷ [])
    turned m n c is found allowed t = elim (split_so serial a e.lines (e.answer ∷ []) t) [
      | inl q ↦ subst (λ (x : Settlement). IsTold es (Says (Deliver number)) front x.tid x.serial x.outcome) (sym q.1) (told q.0)
      | inr q ↦ absurd (plain_settled serial (prepared_by serial e.lines a) (e.answer ∷ []) (outcome_other w.shared (stops_at m.to w) n (Takes m) (λ cause. RoseAt w m.to cause v.disks) e (outcome w.shared (stops_at m.to w) n (Takes m) (λ cause. RoseAt w m.to cause v.disks) c allowed), tt) q.0)
    ]
      where
        e : TaskEffect
        e = task_effect w.shared (stops_at m.to w) n (Takes m) c

        told : (q : SettledThere serial a (task_effect w.shared (stops_at m.to w) n (Takes m) c).lines) → IsTold es (Says (Deliver number)) front q.it.tid q.it.serial q.it.outcome
        told q =
            let at = sound_node w sound m.to n found in
            let own = task_owns w.shared (stops_at m.to w) n (Takes m) c (λ cause. RoseAt w m.to cause v.disks) at allowed q.it (line_in _ q.this q.it [] (subst (In q.this) (sym q.stands) (here_in q.front q.this q.behind)) (shown_so q.this q.it q.shows)) in
            let home : m.to ≡ serial.node = sym (found_name m.to w.nodes n found) ∙ sym own ∙ ap (λ (y : Id). y.node) q.same in
            let r = task_settled serial w.shared (stops_at m.to w) n (λ cause. RoseAt w m.to cause v.disks) a at (h n (subst (λ name. find_node name w.nodes ≡ Some n) home found)) (Takes m) c allowed q in
            subst (λ (x : Settlement). IsTold es (Says (Deliver number)) front x.tid x.serial x.outcome) (sym r.is) (outcome_told (Says (Deliver number)) front number m r.key r.outcome_is r.reason_is refl is r.by)

    deliver_told : (lines : List Line) → Step w (Deliver number) lines v → Goal lines
    deliver_told lines step = go (message_at number w.shared.wire) refl
      where
        go : (o : Option Message) → message_at number w.shared.wire ≡ o → Goal lines
        go (Some m) is = of (ended w v (Deliver number) lines m.to (Takes m) (ap (option_map {U = TaskAt} (λ (x : Message). record { node = x.to; task = Takes x })) is) step)
          where
            of : Ended w v m.to (Takes m) lines → Goal lines
            of (Refused refusal r shows goes) = subst Goal (sym shows) (single refusal (refusal_other refusal r))
            of (Turned n found c allowed shows goes) = subst Goal (sym shows) (turned m n c is found allowed)
        go None is = subst Goal (sym (refusals.0 w v (Deliver number) lines line.NoSuchMessage step (ap (λ (o : Option Message). elim o as (λ x. Option Line) [ Some m ↦ named_node w m.to | None ↦ Some line.NoSuchMessage ]) is)).0) (single line.NoSuchMessage refl)

-- An INIT settles none.
init_none : (w v : World) (node : List ℕ) (slots journal : ℕ) (lines : List Line) (serial : Id) (a : Bool) → Step w (At node (Init slots journal)) lines v → SettledThere serial a lines → ⊥
init_none w v node slots journal lines serial a step = go (ended w v (At node (Init slots journal)) lines node (Serves (Init slots journal)) refl step)
  where
    go : Ended w v node (Serves (Init slots journal)) lines → SettledThere serial a lines → ⊥
    go (Refused refusal r shows goes) = subst (λ ls. SettledThere serial a ls → ⊥) (sym shows) (λ t. plain_settled serial a (refusal ∷ []) (refusal_other refusal r, tt) t)
    go (Turned n found c allowed shows goes) =
        let e = task_effect w.shared (stops_at node w) n (Serves (Init slots journal)) c in
        subst (λ ls. SettledThere serial a ls → ⊥) (sym shows) (λ t. elim (split_so serial a e.lines (e.answer ∷ []) t) [
          | inl q ↦ none_settled serial a e.lines (λ l x i shown same. (effect_caused w.shared (stops_at node w) n (Serves (Init slots journal)) c l x i shown).5) q.0
          | inr q ↦ plain_settled serial (prepared_by serial e.lines a) (e.answer ∷ []) (outcome_other w.shared (stops_at node w) n (Serves (Init slots journal)) (λ cause. RoseAt w node cause v.disks) e (outcome w.shared (stops_at node w) n (Serves (Init slots journal)) (λ cause. RoseAt w node cause v.disks) c allowed), tt) q.0
        ])

-- A settling asks before it settles a branch that is prepared.

settle_delivers : (es : List Entry) (kind : message.Kind) (tid serial : Id) → DeliversTo es (Says Settle) kind tid serial → {A : Type 0} → A
settle_delivers es kind tid serial d = let no : Says Settle ≡ Says (Deliver d.0) = d.2 in let none : ⊥ = cc in absurd none

settle_commits : (es : List Entry) (front : List Line) (tid serial : Id) → CommitCause es (Says Settle) front tid serial ⊎ IsDirect (Says Settle) tid serial → IsTold es (Says Settle) front tid serial Commit
settle_commits es front tid serial (inl (inl k)) = let e : Says Settle ≡ Says (At tid.node (EndTrans k.0)) = k.1 in let no : ⊥ = cc in absurd no
settle_commits es front tid serial (inl (inr (inl k))) = elim k.0 [ inl vote ↦ settle_delivers es _ tid vote.0 vote.1 | inr vote ↦ settle_delivers es _ tid vote.0 vote.1 ]
settle_commits es front tid serial (inl (inr (inr (inl k)))) = let e : Says Settle ≡ Says (At serial.node (AckEvent (k.1).0 (k.1).1 k.0)) = (k.1).2 in let no : ⊥ = cc in absurd no
settle_commits es front tid serial (inl (inr (inr (inr (inl d))))) = inl d
settle_commits es front tid serial (inl (inr (inr (inr (inr asked))))) = inr asked
settle_commits es front tid serial (inr d) = let e : Says Settle ≡ Says (At serial.node (Direct d.0 d.1)) = d.2 in let no : ⊥ = cc in absurd no

settle_aborts : (es : List Entry) (front : List Line) (tid serial : Id) (reason : Reason) → AbortCause es (Says Settle) front reason tid serial → IsTold es (Says Settle) front tid serial Abort ⊎ (reason ≡ SegFail)
settle_aborts es front tid serial Aborted (inl k) = let e : Says Settle ≡ Says (At serial.node (AbortTrans k.0)) = k.1 in let no : ⊥ = cc in absurd no
settle_aborts es front tid serial Aborted (inr (inl d)) = inl (inl d)
settle_aborts es front tid serial Aborted (inr (inr asked)) = inl (inr asked)
settle_aborts es front tid serial Vetoed (inl (vote, same)) = settle_delivers es _ tid vote.0 vote.1
settle_aborts es front tid serial Vetoed (inr (k, began)) = let e : Says Settle ≡ Says (At serial.node (AckEvent k.0 k.1 VetoReply)) = k.2 in let no : ⊥ = cc in absurd no
settle_aborts es front tid serial SyncFail (inl k) = let e : Says Settle ≡ Says (At serial.node (EndTrans k.0)) = k.1 in let no : ⊥ = cc in absurd no
settle_aborts es front tid serial SyncFail (inr d) = settle_delivers es _ tid serial d.0
settle_aborts es front tid serial Timeout k = let e : Says Settle ≡ Says (At serial.node (Clock k.0)) = k.1 in let no : ⊥ = cc in absurd no
settle_aborts es front tid serial CommFail k = let e : Says Settle ≡ Says (LinkDown k.0 k.1) = k.2 in let no : ⊥ = cc in absurd no
settle_aborts es front tid serial SegFail k = inr refl

pub prepared_hold : PreparedHold
prepared_hold nodes disks es closing opening legal before said front behind this s there shows told = by said refl
  where
    begin : World
    begin = opened nodes disks

    r : (u : World) × Legal (opened nodes disks) (there.entry ∷ before) u × Rattle.run_laws.proofs.Staying.Stay u closing
    r = stays (opened nodes disks) closing there.after (there.entry ∷ before) (subst (λ xs. Legal (opened nodes disks) xs closing) there.stands legal)

    mid : World
    mid = (r.1).0

    sound : IsSound mid
    sound = legal_sound (opened nodes disks) mid before (opening_sound nodes disks opening) (r.1).1

    a : Bool
    a = is_told_prepared s.serial (opened nodes disks) before

    h : TrackedFor s.serial (is_told_prepared s.serial (opened nodes disks) before) mid
    h = legal_prepared nodes disks opening s.serial before mid (r.1).1

    t : SettledThere s.serial (is_told_prepared s.serial (opened nodes disks) before) there.entry.lines
    t = record { front = front; behind = behind; this = this; it = s; stands = there.shown; shows = shows; same = refl; told = told }

    turn : (x : Reading) → said ≡ x → Turn mid x there.entry.lines r.0
    turn x is = subst (λ y. Turn mid y there.entry.lines r.0) (there.read ∙ is) (r.1).2

    here : ShownThere (there.entry ∷ before) before said front this behind
    here = record { after = []; entry = there.entry; stands = refl; read = there.read; shown = there.shown }

    settled : said ≡ Says Settle → (l : Line) → this ≡ l → shown_in l ≡ Some s → IsTold before (Says Settle) front s.tid s.serial s.outcome
    settled is (line.Committed tid serial moment) same e =
        let one : commitment tid serial moment ≡ s = some_is (commitment tid serial moment) s e in
        let cause = (commits_hold nodes disks (there.entry ∷ before) r.0 opening (r.1) before (Says Settle) front behind tid serial moment (subst (λ x. ShownThere (there.entry ∷ before) before x front (line.Committed tid serial moment) behind) is (subst (λ x. ShownThere (there.entry ∷ before) before said front x behind) same here))).0 in
        subst (λ (x : Settlement). IsTold before (Says Settle) front x.tid x.serial x.outcome) one (settle_commits before front tid serial cause)
    settled is (line.Aborted tid serial reason moment) same e =
        let one : abort tid serial reason moment ≡ s = some_is (abort tid serial reason moment) s e in
        let cause = (aborted_hold nodes disks (there.entry ∷ before) r.0 opening (r.1) before (Says Settle) front behind tid serial reason moment (subst (λ x. ShownThere (there.entry ∷ before) before x front (line.Aborted tid serial reason moment) behind) is (subst (λ x. ShownThere (there.entry ∷ before) before said front x behind) same here))).0 in
        elim (settle_aborts before front tid serial reason cause) [
          | inl k ↦ subst (λ (x : Settlement). IsTold before (Says Settle) front x.tid x.serial x.outcome) one k
          | inr fell ↦ absurd (step_none s.serial (Fell s.serial) mid r.0 Settle there.entry.lines a (settle_phases s.serial) (turn (Says Settle) is) sound h t (ap (λ (x : Settlement). x.reason) (sym one) ∙ ap Some fell))
        ]
    settled is _ same e = let no : ⊥ = cc in absurd no

    requested : (node : List ℕ) (request : Request) → Step mid (At node request) there.entry.lines r.0 → ⊥
    requested node (Init slots journal) step = init_none mid r.0 node slots journal there.entry.lines s.serial a step t
    requested node request step = step_none s.serial (Anything s.serial) mid r.0 (At node request) there.entry.lines a (request_phases s.serial node request (never_init (bytes_eq node s.serial.node))) step sound h t tt

    by : (x : Reading) → said ≡ x → IsTold before said front s.tid s.serial s.outcome
    by (Says (Deliver number)) is = subst (λ y. IsTold before y front s.tid s.serial s.outcome) (sym is) (deliver_told nodes disks opening before mid r.0 s.serial (r.1).1 sound number front a h there.entry.lines (turn (Says (Deliver number)) is) t)
    by (Says (At node request)) is = absurd (requested node request (turn (Says (At node request)) is))
    by (Says (LinkDown x y)) is = absurd (step_none s.serial (Anything s.serial) mid r.0 (LinkDown x y) there.entry.lines a (link_phases s.serial x y) (turn (Says (LinkDown x y)) is) sound h t tt)
    by (Says Settle) is = subst (λ y. IsTold before y front s.tid s.serial s.outcome) (sym is) (settled is this refl shows)
    by Blank is = absurd (none_settled s.serial a there.entry.lines (λ l x i e same. subst (In l) (turn Blank is).0 i) t)
    by (Bad column) is = absurd (turn (Bad column) is)
