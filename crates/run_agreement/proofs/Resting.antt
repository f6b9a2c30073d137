-- A settling that succeeds leaves no branch unsettled.
use Rattle.std.specs.Prelude.{if◌then◌else◌, ◌||◌, not, nat_lt, ◌==◌}
use Rattle.std.specs.Option.{option_and_then}
use Rattle.std.specs.List.{list_any}
use Rattle.std.specs.Str.{bytes_eq}
use Rattle.std.proofs.Common.{◌≡◌, ℕ, Bool, true, false, List, [], ◌∷◌, ◌++◌, Option, Some, None, ◌⊎◌, inl, inr, refl, ap, sym, subst, ◌∙◌}
use Rattle.std.proofs.lemmas.Bool.{both_ways, cases_Bool}
use Rattle.vms_model.specs.Ids.{Id}
use Rattle.vms_model.specs.Transactions.{Commit as ToCommit, Abort as ToAbort, Aborted as ByRequest}
use Rattle.vms_model.specs.Limits.{boot_limit, moment_limit, position_limit}
use Rattle.run_model.specs.transcript_model.Lines as line
use Rattle.run_model.specs.transcript_model.Lines.{Line, Cause}
use Rattle.run_model.specs.script_model.Statements.{Settle}
use Rattle.run_model.specs.records_model.History.{same_id}
use Rattle.commit_protocol.specs.Messages as message
use Rattle.commit_protocol.specs.Messages.{Name, Kind, Message, Inquire, Ack, CommitEvent, AbortEvent}
use Rattle.commit_protocol.specs.Table as table
use Rattle.commit_protocol.specs.Table.{Key, Branch, State, Prepared, Tm, Settles, Sends, first, key_of, coordinator_of, home_of, find, cut, holding, branch_serials, record_serials}
use Rattle.commit_protocol.specs.Rows as rows
use Rattle.commit_protocol.specs.Rows.{row, Got, RunDown, up, down, answer, answer_state, commit_state, undone_quietly, interested, tells}
use Rattle.commit_protocol.specs.Allowed.{is_prepared}
use Rattle.commit_protocol.specs.World as protocol
use Rattle.commit_protocol.specs.World.{In, run, arranged, acts_all}
use Rattle.commit_protocol.specs.Settling.{run_down}
use Rattle.commit_protocol.specs.Opening.{Opening, IsAgreeing, opened}
use Rattle.commit_protocol.specs.Agreement.{Distinct}
use Rattle.commit_protocol.proofs.Lists.{cases_name, told_key, same_key-refl, find_serial-key, in_left, in_right, Unique}
use Rattle.commit_protocol.proofs.Following.{tables_follow}
use Rattle.commit_protocol.proofs.WithinRows.{after_shown, shown_tells}
use Rattle.commit_protocol.proofs.Within.{find_in}
use Rattle.commit_protocol.proofs.Restarts.{find-arranged}
use Rattle.commit_protocol.proofs.Serials.{parts_apart, unique_of}
use Rattle.run_model.specs.World as world
use Rattle.run_model.specs.World.{World, Node, Shared, DiskCounts, find_node, find_branch, tm_of}
use Rattle.run_model.specs.Operations.{first_of, refused_if}
use Rattle.run_model.specs.Answers as answers
use Rattle.run_model.specs.Answers.{Service, Task, Hears, RunsDown, Restarts, Serves, Ticks, Takes, LosesLink, task_service, refused_before_reading}
use Rattle.run_model.specs.Steps as steps
use Rattle.run_model.specs.Steps.{Choice, Whole, WithoutMemory, Unpowered, Cut, service_effect, task_effect, ready_node}
use Rattle.run_model.specs.Statements as statements
use Rattle.run_model.specs.Statements.{Part, Does, Asks, PartEffect, Question, Heard, Unanswered, Doubtful, Onward, Parts, Phases, Finished, Step, stops_at, put_into, done_at, part_effect, question_effect, question, asking, asked, answer_of, answer_in, in_doubt, Allowed, restarts_of, run_downs_of, questions_of, all_questions, phases_of, begun_with}
use Rattle.run_model.specs.Transcript.{Entry}
use Rattle.run_agreement.specs.Seen.{Resolution, has_volume}
use Rattle.run_agreement.specs.Following.{Shows, opening_of}
use Rattle.run_agreement.specs.Laws.{IsRun, IsReachedBy, IsAtRest}
use Rattle.run_agreement.proofs.Found.{some_is, bytes_same}
use Rattle.run_agreement.proofs.Events.{IsReached, up_of_face}
use Rattle.run_agreement.proofs.Changing.{branch_serial, branch_found}
use Rattle.run_agreement.proofs.Telling.{keys_alone}
use Rattle.run_agreement.proofs.Booting.{good_at}
use Rattle.run_agreement.proofs.Units.{same_from}
use Rattle.run_agreement.proofs.Parts.{WorldSim, does_sim, AllUp}
use Rattle.run_agreement.proofs.Going.{Moves, IsUp, done_moves, run_down_effect, hears_effect}
use Rattle.run_agreement.proofs.Runs.{Booting, booting_keep, booted_all, are_restarts, to_boot, AreDowns, are_downs, AreAsks, all_ask, asks_sim, part_name, question_ups}
use Rattle.run_agreement.proofs.Openings.{reached_by}

-- Answers.

abbrev pub is_normal : Line → Bool
is_normal line.Normal = true
is_normal _ = false

-- a refusal is not the success
abbrev pub NotNormal : Option Line → Type 0
NotNormal o = (l : Line) → o ≡ Some l → is_normal l ≡ false

pub not_if : (b : Bool) (l : Line) → is_normal l ≡ false → NotNormal (refused_if b l)
not_if true l n m e = let same : l ≡ m = cc in ap is_normal (sym same) ∙ n
not_if false l n m e = absurd (let f : ⊥ = cc in f)

pub not_first : (a b : Option Line) → NotNormal a → NotNormal b → NotNormal (first_of a b)
not_first (Some x) b p q = p
not_first None b p q = q

pub not_none : NotNormal None
not_none l e = absurd (let f : ⊥ = cc in f)

not_bootable : (y : Node) → NotNormal (answers.bootable y)
not_bootable y l e = by y.durable.volume refl
  where
    barred_line : (bar : world.Bar) → is_normal (answers.bar_line y.name bar) ≡ false
    barred_line (world.NoRing block) = refl
    barred_line (world.NoIndex block) = refl
    barred_line world.AllBoots = refl
    barred_line world.LateMoment = refl
    barred_line world.FarPosition = refl

    by : (v : world.Volume) → y.durable.volume ≡ v → is_normal l ≡ false
    by world.Sound f =
        let P : world.Volume → Type 0 = λ v. answers.bootable (record y { durable = record y.durable { volume = v } }) ≡ Some l in
        let boots : Line = line.QuotaExceeded line.Boots boot_limit in
        let moments : Line = line.QuotaExceeded line.Moments moment_limit in
        let positions : Line = line.QuotaExceeded line.Positions position_limit in
        let late : Bool = nat_lt moment_limit y.durable.greatest in
        let far : Bool = nat_lt position_limit (answers.last_position y) in
        not_first (refused_if (y.durable.boot == boot_limit) boots) (first_of (refused_if late moments) (refused_if far positions)) (not_if (y.durable.boot == boot_limit) boots refl)
        (not_first (refused_if late moments) (refused_if far positions) (not_if late moments refl) (not_if far positions refl)) l (subst P f e)
    by (world.Faulty condition block) f =
        let P : world.Volume → Type 0 = λ v. answers.bootable (record y { durable = record y.durable { volume = v } }) ≡ Some l in
        let k : Some (line.NoVolume y.name condition block) ≡ Some l = subst P f e in
        let same : line.NoVolume y.name condition block ≡ l = some_is (line.NoVolume y.name condition block) l k in
        ap is_normal (sym same)
    by (world.Barred bar) f =
        let P : world.Volume → Type 0 = λ v. answers.bootable (record y { durable = record y.durable { volume = v } }) ≡ Some l in
        let k : Some (answers.bar_line y.name bar) ≡ Some l = subst P f e in
        let same : answers.bar_line y.name bar ≡ l = some_is (answers.bar_line y.name bar) l k in
        ap is_normal (sym same) ∙ barred_line bar
    by world.Unknown f =
        let P : world.Volume → Type 0 = λ v. answers.bootable (record y { durable = record y.durable { volume = v } }) ≡ Some l in
        absurd (let k : None ≡ Some l = subst P f e in let g : ⊥ = cc in g)

-- a task with which the statement ends is not answered with the success
pub stopped_by : (s : Shared) (stops : ℕ) (x : Node) (e : Service) (c : Choice) → e.goes_on ≡ false → NotNormal (refused_before_reading s x e) → ((y : Node) → NotNormal (e.refused_after_reading s y)) → (service_effect s stops x e c).ends ≡ true → is_normal (service_effect s stops x e c).answer ≡ false
stopped_by s stops x e (Whole outturn) g before after h = by (refused_before_reading s x e) refl h
  where
    begins : (l : Option Line) → e.refused_after_reading s (ready_node outturn stops e x) ≡ l → (steps.begun s (ready_node outturn stops e x) e l).ends ≡ true → is_normal (steps.begun s (ready_node outturn stops e x) e l).answer ≡ false
    begins (Some l) f k = after (ready_node outturn stops e x) l f
    begins None f k = absurd (let z : false ≡ true = k in cc)

    by : (l : Option Line) → refused_before_reading s x e ≡ l → (steps.whole s x (ready_node outturn stops e x) e l).ends ≡ true → is_normal (steps.whole s x (ready_node outturn stops e x) e l).answer ≡ false
    by (Some l) f k = before l f
    by None f k = begins (e.refused_after_reading s (ready_node outturn stops e x)) refl k
stopped_by s stops x e WithoutMemory g before after h = refl
stopped_by s stops x e Unpowered g before after h = refl
stopped_by s stops x e (Cut outturn done begun cause) g before after h = ap (λ b. is_normal (if b then line.Normal else line.Broken cause)) g

stopped_at : (w : World) (n : Name) (t : Task) (c : Choice) → ((x : Node) → (task_effect w.shared (stops_at n w) x t c).ends ≡ true → is_normal (task_effect w.shared (stops_at n w) x t c).answer ≡ false) → (done_at w n t c).ends ≡ true → is_normal (done_at w n t c).answer ≡ false
stopped_at w n t c each h = by (find_node n w.nodes) h
  where
    by : (d : Option Node) → (let e : PartEffect = elim d [ Some x ↦ put_into w n (task_effect w.shared (stops_at n w) x t c) | None ↦ statements.no_node w ] in e).ends ≡ true
        → is_normal (let e : PartEffect = elim d [ Some x ↦ put_into w n (task_effect w.shared (stops_at n w) x t c) | None ↦ statements.no_node w ] in e).answer ≡ false
    by None k = refl
    by (Some x) k = each x k

restart_stops : (w : World) (n : Name) (c : Choice) → (done_at w n Restarts c).ends ≡ true → is_normal (done_at w n Restarts c).answer ≡ false
restart_stops w n c h = stopped_at w n Restarts c (λ x k. stopped_by w.shared (stops_at n w) x (task_service Restarts) c refl
    (not_first (refused_if (not (x.up || true)) line.NodeDown) (first_of (refused_if x.up line.NodeUp) (refused_if x.unmade (line.NotInitializedAt x.name))) (not_if (not (x.up || true)) line.NodeDown refl)
    (not_first (refused_if x.up line.NodeUp) (refused_if x.unmade (line.NotInitializedAt x.name)) (not_if x.up line.NodeUp refl) (not_if x.unmade (line.NotInitializedAt x.name) refl))) (λ y. not_bootable y) k) h

down_stops : (w : World) (n : Name) (c : Choice) → (done_at w n RunsDown c).ends ≡ true → is_normal (done_at w n RunsDown c).answer ≡ false
down_stops w n c h = stopped_at w n RunsDown c (λ x k. stopped_by w.shared (stops_at n w) x (task_service RunsDown) c refl (not_first (refused_if (not (x.up || false)) line.NodeDown) None (not_if (not (x.up || false)) line.NodeDown refl) not_none) (λ y. not_none) k) h

hear_stops : (w : World) (m : Message) (c : Choice) → (done_at w m.to (Hears m) c).ends ≡ true → is_normal (done_at w m.to (Hears m) c).answer ≡ false
hear_stops w m c h = stopped_at w m.to (Hears m) c (λ x k. stopped_by w.shared (stops_at m.to w) x (task_service (Hears m)) c refl (not_first (refused_if (not (x.up || false)) line.NodeDown) None (not_if (not (x.up || false)) line.NodeDown refl) not_none) (λ y. not_none) k) h

question_stops : (w : World) (c : Choice) (q : Question) → (question_effect w c q).ends ≡ true → is_normal (question_effect w c q).answer ≡ false
question_stops w c (Heard m) h = hear_stops w m c h
question_stops w c Unanswered h = absurd (let z : false ≡ true = h in cc)
question_stops w c (Doubtful k) h = refl

-- Parts one after another.

abbrev Comes : Line → World → Type 0
Comes answer v = (is_normal answer ≡ false) ⊎ IsAtRest v

pub record Leads (after : List DiskCounts) (P : List Part → World → Type 0) : Type 0 where
  pub stop : (p : Part) (ps : List Part) (w : World) (c : Choice) → P (p ∷ ps) w → (part_effect w p c).ends ≡ true → is_normal (part_effect w p c).answer ≡ false
  pub keep : (p : Part) (ps : List Part) (w : World) (c : Choice) → P (p ∷ ps) w → Allowed w p after c → (part_effect w p c).ends ≡ false → P ps (part_effect w p c).world

parts_lead : (after : List DiskCounts) (P : List Part → World → Type 0) (more : Onward) → Leads after P → ((u : World) (given answer : Line) (lines : List Line) (v : World) → P [] u → more u given lines answer v → Comes answer v)
    → (ps : List Part) (w : World) (given : Line) (lines : List Line) (answer : Line) (v : World) → P ps w → Parts ps after more w given lines answer v → Comes answer v
parts_lead after P more leads onward [] w given lines answer v k h = onward w given answer lines v k h
parts_lead after P more leads onward (p ∷ ps) w given lines answer v k h =
    let e : PartEffect = part_effect w p h.0 in
    go e.ends refl h.2 (λ rest m j. parts_lead after P more leads onward ps e.world e.answer rest answer v m j)
  where
    go : (b : Bool) → (part_effect w p h.0).ends ≡ b
        → (let t : Type 0 = elim b [
          | true ↦ (lines ≡ (part_effect w p h.0).lines) × (answer ≡ (part_effect w p h.0).answer) × (v ≡ (part_effect w p h.0).world)
          | false ↦ (rest : List Line) × (lines ≡ (part_effect w p h.0).lines ++ rest) × Parts ps after more (part_effect w p h.0).world (part_effect w p h.0).answer rest answer v
        ] in t)
        → ((rest : List Line) → P ps (part_effect w p h.0).world → Parts ps after more (part_effect w p h.0).world (part_effect w p h.0).answer rest answer v → Comes answer v) → Comes answer v
    go true e t rec = inl (ap is_normal t.1 ∙ leads.stop p ps w h.0 k e)
    go false e t rec = rec t.0 (leads.keep p ps w h.0 k h.1 e) t.2

-- What is reached.

abbrev pub Reached : World → World → Type 0
Reached base w = (r : Resolution) → IsReachedBy base r w

pub reached_next : (base w v : World) → IsAgreeing (opening_of base) → WorldSim (opening_of base) w v → Reached base w → Reached base v
reached_next base w v agrees sim h r =
    let o : Opening = opening_of base in
    let q = sim r in
    let x = h q.0 in
    let p : protocol.World = run x.steps (opened o) in
    let reached : IsReached o p = record { agrees = agrees; steps = x.steps; is = refl } in
    let y = q.1 p tt reached x.shows in
    let P : protocol.World → Type 0 = λ u. Shows o r v u in
    record { steps = x.steps ++ y.0; shows = subst P (sym (Rattle.commit_protocol.proofs.Running.run-append x.steps y.0 (opened o))) y.1 }

-- what is known of the branches of a node that is up
pub record Fit (n : Name) (z : Node) : Type 0 where
  pub home : (b : Branch) → find b.key z.volatile.branches ≡ Some b → b.key.serial.node ≡ n
  pub distinct : Distinct (branch_serials z.volatile.branches)

pub fits : (base w : World) (n : Name) (z : Node) → IsAgreeing (opening_of base) → Reached base w → find_node n w.nodes ≡ Some z → z.up ≡ true → Fit n z
fits base w n z agrees reached found up =
    let o : Opening = opening_of base in
    let r : Resolution = λ m. false in
    let x = reached r in
    let p : protocol.World = run x.steps (opened o) in
    let good = good_at o p (record { agrees = agrees; steps = x.steps; is = refl }) in
    let sound : has_volume z ≡ true = elim (cases_Bool (has_volume z)) [ inl s ↦ s | inr s ↦ absurd (both_ways z.up (x.shows.are.without n z found s).1.down up) ] in
    let f = x.shows.are.there n z found sound in
    let face = up_of_face (r n) z f.0 up f.2 in
    let node : (p.nodes n).table ≡ z.volatile.branches = ap (λ (y : protocol.Node). y.table) (x.shows.follows.nodes n f.0 f.1 ∙ face.node) in
    record {
      home = λ b e. good.home n b.key b (ap (find b.key) node ∙ e);
      distinct = (parts_apart (branch_serials z.volatile.branches) (record_serials z.volatile.records) face.told.apart).one;
    }

-- The run-downs.

abbrev pub ArePrepared : List Branch → Type 0
ArePrepared bs = (b : Branch) → In b bs → b.state ≡ Prepared

abbrev pub RunDownLaw : Type 0
RunDownLaw = (w : protocol.World) (n : Name) → (w.nodes n).up ≡ true → (b : Branch) → In b ((run_down n w).nodes n).table → b.state ≡ Prepared

run_down_leaves : RunDownLaw → (x : Node) → ArePrepared (table.after (row (tm_of x) RunDown) (tm_of x)).table
run_down_leaves law x b i =
    let n : Name = x.name in
    let p : protocol.World = record { rack = λ m. true; nodes = λ m. (let y : protocol.Node = record { up = true; boot = 0; seq = 0; table = x.volatile.branches; records = x.volatile.records; lost = []; last = None } in y); sent = []; accepted = []; read_only = []; settled = []; shown = []; labels = []; made = [] } in
    let todo : List table.Act = row (tm_of x) RunDown in
    let is : ((run_down n p).nodes n).table ≡ (table.after todo (tm_of x)).table = ap (λ (t : Tm). t.table) (tables_follow p n todo) in
    let P : List Branch → Type 0 = λ bs. In b bs in
    law p n refl b (subst P (sym is) i)

-- each node has prepared branches alone, or is still to be run down
pub record Downing (base : World) (ps : List Part) (w : World) : Type 0 where
  pub downs : AreDowns ps
  pub ups : AllUp w
  pub reached : Reached base w
  pub each : (n : Name) (y : Node) → find_node n w.nodes ≡ Some y → ArePrepared y.volatile.branches ⊎ In (Does n RunsDown) ps

abbrev IsDown : Node → Type 0
IsDown y = IsUp y × ArePrepared y.volatile.branches

pub downing_leads : RunDownLaw → (base : World) → IsAgreeing (opening_of base) → (after : List DiskCounts) → Leads after (Downing base)
downing_leads law base agrees after = record { stop = stop; keep = keep }
  where
    stop : (p : Part) (ps : List Part) (w : World) (c : Choice) → Downing base (p ∷ ps) w → (part_effect w p c).ends ≡ true → is_normal (part_effect w p c).answer ≡ false
    stop (Does n RunsDown) ps w c k e = down_stops w n c e
    stop (Asks n serial) ps w c k e = absurd k.downs
    stop (Does n (Serves request)) ps w c k e = absurd k.downs
    stop (Does n Ticks) ps w c k e = absurd k.downs
    stop (Does n (Takes m)) ps w c k e = absurd k.downs
    stop (Does n (Hears m)) ps w c k e = absurd k.downs
    stop (Does n (LosesLink other)) ps w c k e = absurd k.downs
    stop (Does n Restarts) ps w c k e = absurd k.downs

    keep : (p : Part) (ps : List Part) (w : World) (c : Choice) → Downing base (p ∷ ps) w → Allowed w p after c → (part_effect w p c).ends ≡ false → Downing base ps (part_effect w p c).world
    keep (Does n RunsDown) ps w c k may e =
        let v : World = (done_at w n RunsDown c).world in
        let m : Moves n w v IsDown = done_moves w n RunsDown c IsDown (λ x f g. let q = run_down_effect w.shared (stops_at n w) x c g in
        (q.0, (q.1.up, λ b i. (let P : List Branch → Type 0 = λ bs. In b bs in run_down_leaves law x b (subst P (ap (λ (t : Tm). t.table) q.1.knows) i))))) e in
        record {
          downs = k.downs;
          ups = λ j y f. elim (cases_name j n) [
            | inl same ↦ (let P : Name → Type 0 = λ i. find_node i v.nodes ≡ Some y in (m.here y (subst P same f)).0)
            | inr away ↦ k.ups j y (sym (m.there j away) ∙ f)
          ];
          reached = reached_next base w v agrees (does_sim (opening_of base) w n RunsDown after c tt (λ slots journal q. absurd (let f : ⊥ = cc in f)) may) k.reached;
          each = λ j y f. elim (cases_name j n) [
            | inl same ↦ (let P : Name → Type 0 = λ i. find_node i v.nodes ≡ Some y in inl (m.here y (subst P same f)).1)
            | inr away ↦ elim (k.each j y (sym (m.there j away) ∙ f)) [
              | inl done ↦ inl done
              | inr i ↦ elim i [ inl eq ↦ absurd (away (ap part_name eq)) | inr z ↦ inr z ]
            ]
          ];
        }
    keep (Asks n serial) ps w c k may e = absurd k.downs
    keep (Does n (Serves request)) ps w c k may e = absurd k.downs
    keep (Does n Ticks) ps w c k may e = absurd k.downs
    keep (Does n (Takes m)) ps w c k may e = absurd k.downs
    keep (Does n (Hears m)) ps w c k may e = absurd k.downs
    keep (Does n (LosesLink other)) ps w c k may e = absurd k.downs
    keep (Does n Restarts) ps w c k may e = absurd k.downs

pub to_run_down : (ns : List Node) (n : Name) (y : Node) → find_node n ns ≡ Some y → In (Does n RunsDown) (run_downs_of ns)
to_run_down [] n y e = absurd cc
to_run_down (x ∷ xs) n y e = go (bytes_eq n x.name) refl (to_run_down xs n y) e
  where
    go : (b : Bool) → bytes_eq n x.name ≡ b → (find_node n xs ≡ Some y → In (Does n RunsDown) (run_downs_of xs)) → (let d : Option Node = if b then Some x else find_node n xs in d) ≡ Some y → In (Does n RunsDown) (run_downs_of (x ∷ xs))
    go true is more k = inl (ap (λ i. Does i RunsDown) (bytes_same n x.name is))
    go false is more k = inr (more k)

-- The questions.

-- a coordinator without unprepared branches answers
pub record Answers (y : Node) (k : Key) : Type 0 where
  pub kind : Kind
  pub either : (kind ≡ message.Commit) ⊎ (kind ≡ message.Abort)
  pub sends : row (tm_of y) (Got (up Inquire k)) ≡ Sends (down kind k) ∷ []

pub answers_by : (y : Node) (k : Key) → ArePrepared y.volatile.branches → Answers y k
answers_by y k prepared = by (list_any (λ r. message.same_id r.tid k.tid) y.volatile.records) refl (find (first k.tid) y.volatile.branches) refl
  where
    by : (t : Bool) → list_any (λ r. message.same_id r.tid k.tid) y.volatile.records ≡ t → (d : Option Branch) → find (first k.tid) y.volatile.branches ≡ d → Answers y k
    by true e d f = record { kind = message.Commit; either = inl refl; sends = ap (λ (t : Bool). if t then Sends (down message.Commit k) ∷ [] else answer (up Inquire k) (find (first k.tid) y.volatile.branches)) e }
    by false e None f = record {
      kind = message.Abort;
      either = inr refl;
      sends = ap (λ (t : Bool). if t then Sends (down message.Commit k) ∷ [] else answer (up Inquire k) (find (first k.tid) y.volatile.branches)) e ∙ ap (answer (up Inquire k)) f;
    }
    by false e (Some d) f = record {
      kind = message.Abort;
      either = inr refl;
      sends = ap (λ (t : Bool). if t then Sends (down message.Commit k) ∷ [] else answer (up Inquire k) (find (first k.tid) y.volatile.branches)) e
          ∙ (ap (answer (up Inquire k)) f ∙ ap (answer_state (up Inquire k) d) (prepared d (find_in (first k.tid) y.volatile.branches d f)));
    }

-- the answer settles the branch
settles_branch : (z : Node) (b : Branch) (d : Kind) → (d ≡ message.Commit) ⊎ (d ≡ message.Abort) → find b.key z.volatile.branches ≡ Some b → b.state ≡ Prepared → (table.after (row (tm_of z) (Got (down d b.key))) (tm_of z)).table ≡ cut b.key z.volatile.branches
settles_branch z b d (inl e) f st =
    let G : Kind → Type 0 = λ x. (table.after (row (tm_of z) (Got (down x b.key))) (tm_of z)).table ≡ cut b.key z.volatile.branches in
    let acts : rows.commit_row (down message.Commit b.key) (find b.key z.volatile.branches) ≡ commit_state b Prepared = ap (rows.commit_row (down message.Commit b.key)) f ∙ ap (commit_state b) st in
    let rest : List table.Act = Sends (up Ack b.key) ∷ tells CommitEvent b.key (holding b.managers) in
    let first_act : table.Act = Settles b.key ToCommit ByRequest (rows.owing b.key [] (holding b.managers)) in
    subst G (sym e) (ap (λ todo. (table.after todo (tm_of z)).table) acts ∙ ap (λ (t : Tm). t.table) (after_shown rest (table.after_act first_act (tm_of z)) (shown_tells CommitEvent b.key (holding b.managers))))
settles_branch z b d (inr e) f st =
    let G : Kind → Type 0 = λ x. (table.after (row (tm_of z) (Got (down x b.key))) (tm_of z)).table ≡ cut b.key z.volatile.branches in
    let acts : rows.abort_row (find b.key z.volatile.branches) ≡ rows.abort_state b Prepared = ap rows.abort_row f ∙ ap (rows.abort_state b) st in
    let rest : List table.Act = tells AbortEvent b.key (interested b.managers) in
    let first_act : table.Act = Settles b.key ToAbort ByRequest None in
    subst G (sym e) (ap (λ todo. (table.after todo (tm_of z)).table) acts ∙ ap (λ (t : Tm). t.table) (after_shown rest (table.after_act first_act (tm_of z)) (shown_tells AbortEvent b.key (interested b.managers))))

in_cut : (k : Key) (bs : List Branch) (b : Branch) → In b (cut k bs) → In b bs × (b.key ≡ k → ⊥)
in_cut k [] b h = absurd h
in_cut k (x ∷ xs) b h = elim (told_key x.key k) [
  | inl e ↦ (let h' : In b (cut k xs) = rw (e.0) at h in let q = in_cut k xs b h' in (inr q.0, q.1))
  | inr e ↦ (let h' : In b (x ∷ cut k xs) = rw (e.0) at h in elim h' [
    | inl z ↦ (inl z, λ q. e.1 (ap (λ (y : Branch). y.key) (sym z) ∙ q))
    | inr z ↦ (let q = in_cut k xs b z in (inr q.0, q.1))
  ])
]

pub found_of : (bs : List Branch) (b : Branch) → Unique bs → In b bs → find b.key bs ≡ Some b
found_of [] b u i = absurd i
found_of (x ∷ xs) b u i = elim i [
  | inl e ↦ (let P : Branch → Type 0 = λ y. find y.key (x ∷ xs) ≡ Some y in subst P (sym e) (rw (same_key-refl x.key) refl))
  | inr j ↦ elim (told_key x.key b.key) [
    | inl q ↦ absurd (let P : Key → Type 0 = λ k. find k xs ≡ None in let none : None ≡ Some b = sym (subst P q.1 u.0) ∙ found_of xs b u.1 j in let f : ⊥ = cc in f)
    | inr q ↦ rw (q.0) (found_of xs b u.1 j)
  ]
]

-- the first branch of a serial is there
serial_there : (bs : List Branch) (b : Branch) → In b bs → (d : Branch) × (find_branch b.key.serial bs ≡ Some d)
serial_there [] b i = absurd i
serial_there (x ∷ xs) b i = go (same_id b.key.serial x.key.serial) refl (λ j. serial_there xs b j)
  where
    go : (t : Bool) → same_id b.key.serial x.key.serial ≡ t → (In b xs → (d : Branch) × (find_branch b.key.serial xs ≡ Some d)) → (d : Branch) × ((let o : Option Branch = if t then Some x else find_branch b.key.serial xs in o) ≡ Some d)
    go true e more = (x, refl)
    go false e more = elim i [
      | inl s ↦ absurd (both_ways (same_id b.key.serial x.key.serial) e (same_from b.key.serial x.key.serial (ap (λ (y : Branch). y.key.serial) s)))
      | inr j ↦ more j
    ]

-- all nodes are up with prepared branches alone, each of which is still to ask
pub record Asking (base : World) (ps : List Part) (w : World) : Type 0 where
  pub asks : AreAsks ps
  pub ups : AllUp w
  pub reached : Reached base w
  pub prepared : (n : Name) (y : Node) → find_node n w.nodes ≡ Some y → ArePrepared y.volatile.branches
  pub each : (n : Name) (y : Node) (b : Branch) → find_node n w.nodes ≡ Some y → In b y.volatile.branches → In (Asks n b.key.serial) ps

abbrev asked_serial : Id → Part → Id
asked_serial i (Asks n serial) = serial
asked_serial i (Does n t) = i

-- what is left of the branches once one has asked
abbrev Less : Id → List Branch → Node → Type 0
Less serial bs y = IsUp y × ((b : Branch) → In b y.volatile.branches → In b bs × (b.key.serial ≡ serial → ⊥))

pub asking_leads : (base : World) → IsAgreeing (opening_of base) → (after : List DiskCounts) → Leads after (Asking base)
asking_leads base agrees after = record { stop = stop; keep = keep }
  where
    stop : (p : Part) (ps : List Part) (w : World) (c : Choice) → Asking base (p ∷ ps) w → (part_effect w p c).ends ≡ true → is_normal (part_effect w p c).answer ≡ false
    stop (Asks n serial) ps w c k e = question_stops w c (question w n serial) e
    stop (Does n t) ps w c k e = absurd k.asks

    -- one node has lost the branch of this serial, and the others are as they were
    on : (n : Name) (serial : Id) (ps : List Part) (w v : World) → Asking base (Asks n serial ∷ ps) w → Reached base v → AllUp v
        → ((j : Name) (y : Node) → find_node j v.nodes ≡ Some y → (x : Node) × (find_node j w.nodes ≡ Some x) × ((b : Branch) → In b y.volatile.branches → In b x.volatile.branches × (j ≡ n → b.key.serial ≡ serial → ⊥))) → Asking base ps v
    on n serial ps w v k reached ups less = record {
      asks = k.asks;
      ups = ups;
      reached = reached;
      prepared = λ j y f b i. (let q = less j y f in k.prepared j q.0 q.1 b (q.2 b i).0);
      each = λ j y b f i. (
          let q = less j y f in
          let z = q.2 b i in
          elim (k.each j q.0 b q.1 z.0) [
            | inl e ↦ absurd (z.1 (ap part_name e) (ap (asked_serial serial) e))
            | inr m ↦ m
          ]);
    }

    same_world : (n : Name) (serial : Id) (ps : List Part) (w : World) → Asking base (Asks n serial ∷ ps) w → ((x : Node) → find_node n w.nodes ≡ Some x → find_branch serial x.volatile.branches ≡ None) → Asking base ps w
    same_world n serial ps w k none = on n serial ps w w k k.reached k.ups (λ j y f. (
      y,
      f,
      λ b i. (
        i,
        λ e s. (
            let P : Name → Type 0 = λ m. find_node m w.nodes ≡ Some y in
            let d = serial_there y.volatile.branches b i in
            let Q : Id → Type 0 = λ m. find_branch m y.volatile.branches ≡ Some d.0 in
            let z : None ≡ Some d.0 = sym (none y (subst P e f)) ∙ subst Q s d.1 in
            let g : ⊥ = cc in g),
      ),
    ))

    heard : (n : Name) (serial : Id) (ps : List Part) (w : World) (c : Choice) (x : Node) (b : Branch) (y : Node) → Asking base (Asks n serial ∷ ps) w → find_node n w.nodes ≡ Some x → find_branch serial x.volatile.branches ≡ Some b → find_node (coordinator_of b.key) w.nodes ≡ Some y
        → WorldSim (opening_of base) w (question_effect w c (elim (answer_of y b.key) [ Some m ↦ Heard m | None ↦ Unanswered ])).world → (question_effect w c (elim (answer_of y b.key) [ Some m ↦ Heard m | None ↦ Unanswered ])).ends ≡ false
        → Asking base ps (question_effect w c (elim (answer_of y b.key) [ Some m ↦ Heard m | None ↦ Unanswered ])).world
    heard n serial ps w c x b y k fx fb fy sim e =
        let a = answers_by y b.key (k.prepared (coordinator_of b.key) y fy) in
        let m : Message = down a.kind b.key in
        let is : answer_of y b.key ≡ Some m = ap answer_in a.sends in
        let P : Option Message → Type 0 = λ d. WorldSim (opening_of base) w (question_effect w c (elim d [ Some z ↦ Heard z | None ↦ Unanswered ])).world in
        let Q : Option Message → Type 0 = λ d. (question_effect w c (elim d [ Some z ↦ Heard z | None ↦ Unanswered ])).ends ≡ false in
        let R : Option Message → Type 0 = λ d. Asking base ps (question_effect w c (elim d [ Some z ↦ Heard z | None ↦ Unanswered ])).world in
        subst R (sym is) (go a.kind a.either (subst P is sim) (subst Q is e))
      where
        go : (d : Kind) → (d ≡ message.Commit) ⊎ (d ≡ message.Abort) → WorldSim (opening_of base) w (done_at w (down d b.key).to (Hears (down d b.key)) c).world → (done_at w (down d b.key).to (Hears (down d b.key)) c).ends ≡ false
            → Asking base ps (done_at w (down d b.key).to (Hears (down d b.key)) c).world
        go d either s f =
            let m : Message = down d b.key in
            let v : World = (done_at w m.to (Hears m) c).world in
            let fit = fits base w n x agrees k.reached fx (k.ups n x fx) in
            let found : find b.key x.volatile.branches ≡ Some b = find_serial-key serial x.volatile.branches b (branch_found serial x.volatile.branches b fb) in
            let home : m.to ≡ n = fit.home b found in
            let st : b.state ≡ Prepared = k.prepared n x fx b (find_in b.key x.volatile.branches b found) in
            let bs : List Branch = x.volatile.branches in
            let moves : Moves m.to w v (Less serial bs) = done_moves w m.to (Hears m) c (Less serial bs) (λ z fz g.
            let q = hears_effect w.shared (stops_at m.to w) z m c g in
            let N : Name → Type 0 = λ i. find_node i w.nodes ≡ Some z in
            let same : z ≡ x = some_is z x (sym (subst N home fz) ∙ fx) in
            let T : Node → Type 0 = λ u. (table.after (row (tm_of u) (Got m)) (tm_of u)).table ≡ cut b.key bs in
            let left : (task_effect w.shared (stops_at m.to w) z (Hears m) c).node.volatile.branches ≡ cut b.key bs = ap (λ (t : Tm). t.table) q.1.knows ∙ subst T (sym same) (settles_branch x b d either found st) in (
              q.0,
              (
                q.1.up,
                λ j i. (
                    let I : List Branch → Type 0 = λ us. In j us in
                    let r = in_cut b.key bs j (subst I left i) in
                    (r.0, λ t. r.1 (keys_alone bs j.key b.key fit.distinct (j, found_of bs j (unique_of bs fit.distinct) r.0) (b, found) (t ∙ sym (branch_serial serial bs b fb))))),
              ),
            )) f in
            on n serial ps w v k (reached_next base w v agrees s k.reached) (question_ups w c (Heard m) k.ups f) (λ j y2 g. elim (cases_name j n) [
              | inl e2 ↦ (
                  let N : Name → Type 0 = λ i. find_node i v.nodes ≡ Some y2 in
                  let M : Name → Type 0 = λ i. find_node i w.nodes ≡ Some x in
                  let less = moves.here y2 (subst N (e2 ∙ sym home) g) in
                  (x, subst M (sym e2) fx, λ q i. (let r = less.1 q i in (r.0, λ u t. r.1 t))))
              | inr away ↦ (y2, sym (moves.there j (λ u. away (u ∙ home))) ∙ g, λ q i. (i, λ u t. away u))
            ])

    coordinator : (n : Name) (serial : Id) (ps : List Part) (w : World) (c : Choice) (x : Node) (b : Branch) → Asking base (Asks n serial ∷ ps) w → find_node n w.nodes ≡ Some x → find_branch serial x.volatile.branches ≡ Some b
        → WorldSim (opening_of base) w (question_effect w c (asked w b.key)).world → (question_effect w c (asked w b.key)).ends ≡ false → Asking base ps (question_effect w c (asked w b.key)).world
    coordinator n serial ps w c x b k fx fb sim e = by (find_node (coordinator_of b.key) w.nodes) refl sim e
      where
        by : (d : Option Node) → find_node (coordinator_of b.key) w.nodes ≡ d
            → WorldSim (opening_of base) w (question_effect w c (elim d [ Some y ↦ elim (answer_of y b.key) [ Some m ↦ Heard m | None ↦ Unanswered ] | None ↦ Doubtful b.key ])).world
            → (question_effect w c (elim d [ Some y ↦ elim (answer_of y b.key) [ Some m ↦ Heard m | None ↦ Unanswered ] | None ↦ Doubtful b.key ])).ends ≡ false
            → Asking base ps (question_effect w c (elim d [ Some y ↦ elim (answer_of y b.key) [ Some m ↦ Heard m | None ↦ Unanswered ] | None ↦ Doubtful b.key ])).world
        by None f s g = absurd (let z : true ≡ false = g in cc)
        by (Some y) f s g = heard n serial ps w c x b y k fx fb f s g

    keep : (p : Part) (ps : List Part) (w : World) (c : Choice) → Asking base (p ∷ ps) w → Allowed w p after c → (part_effect w p c).ends ≡ false → Asking base ps (part_effect w p c).world
    keep (Does n t) ps w c k may e = absurd k.asks
    keep (Asks n serial) ps w c k may e = node (find_node n w.nodes) refl (asks_sim (opening_of base) w n serial after c k.ups may) e
      where
        Goal : Option Branch → Type 0
        Goal d = WorldSim (opening_of base) w (question_effect w c (elim d [ Some b ↦ asked w b.key | None ↦ Unanswered ])).world → (question_effect w c (elim d [ Some b ↦ asked w b.key | None ↦ Unanswered ])).ends ≡ false
            → Asking base ps (question_effect w c (elim d [ Some b ↦ asked w b.key | None ↦ Unanswered ])).world

        branch : (x : Node) → find_node n w.nodes ≡ Some x → (d : Option Branch) → find_branch serial x.volatile.branches ≡ d → Goal (option_and_then (λ (b : Branch). if is_prepared b.state then Some b else None) d)
        branch x fx None fb s g = same_world n serial ps w k (λ z fz. (let same : x ≡ z = some_is x z (sym fx ∙ fz) in let P : Node → Type 0 = λ u. find_branch serial u.volatile.branches ≡ None in subst P same fb))
        branch x fx (Some b) fb s g =
            let found : find b.key x.volatile.branches ≡ Some b = find_serial-key serial x.volatile.branches b (branch_found serial x.volatile.branches b fb) in
            let st : is_prepared b.state ≡ true = ap is_prepared (k.prepared n x fx b (find_in b.key x.volatile.branches b found)) in
            let P : Bool → Type 0 = λ t. Goal (if t then Some b else None) in
            subst P (sym st) (λ s2 g2. coordinator n serial ps w c x b k fx fb s2 g2) s g

        node : (d : Option Node) → find_node n w.nodes ≡ d → Goal (option_and_then (in_doubt serial) d)
        node None f s g = same_world n serial ps w k (λ z fz. absurd (let q : None ≡ Some z = sym f ∙ fz in let h : ⊥ = cc in h))
        node (Some x) f s g = branch x f (find_branch serial x.volatile.branches) refl s g

-- each prepared branch is among those that ask

in_questions : (n : Name) (bs : List Branch) (b : Branch) → In b bs → b.state ≡ Prepared → In (Asks n b.key.serial) (questions_of n bs)
in_questions n [] b i st = absurd i
in_questions n (x ∷ xs) b i st = elim i [
  | inl e ↦ (
      let P : Branch → Type 0 = λ y. is_prepared y.state ≡ true in
      let Q : Branch → Type 0 = λ y. In (Asks n b.key.serial) (if is_prepared y.state then Asks n y.key.serial ∷ questions_of n xs else questions_of n xs) in
      let R : Bool → Type 0 = λ t. In (Asks n b.key.serial) (if t then Asks n b.key.serial ∷ questions_of n xs else questions_of n xs) in
      subst Q e (subst R (sym (ap is_prepared st)) (inl refl)))
  | inr j ↦ behind (is_prepared x.state) (in_questions n xs b j st)
]
  where
    behind : (t : Bool) → In (Asks n b.key.serial) (questions_of n xs) → In (Asks n b.key.serial) (if t then Asks n x.key.serial ∷ questions_of n xs else questions_of n xs)
    behind true m = inr m
    behind false m = m

pub to_ask : (ns : List Node) (n : Name) (y : Node) (b : Branch) → find_node n ns ≡ Some y → In b (arranged y.volatile.preparation y.volatile.branches) → b.state ≡ Prepared → In (Asks n b.key.serial) (all_questions ns)
to_ask [] n y b e i st = absurd (let f : ⊥ = cc in f)
to_ask (x ∷ xs) n y b e i st = go (bytes_eq n x.name) refl e (λ f. to_ask xs n y b f i st)
  where
    go : (t : Bool) → bytes_eq n x.name ≡ t → (let d : Option Node = if t then Some x else find_node n xs in d) ≡ Some y → (find_node n xs ≡ Some y → In (Asks n b.key.serial) (all_questions xs))
        → In (Asks n b.key.serial) (questions_of x.name (arranged x.volatile.preparation x.volatile.branches) ++ all_questions xs)
    go true is k more =
        let same : y ≡ x = sym (some_is x y k) in
        let P : Node → Type 0 = λ z. In b (arranged z.volatile.preparation z.volatile.branches) in
        let Q : Name → Type 0 = λ m. In (Asks m b.key.serial) (questions_of x.name (arranged x.volatile.preparation x.volatile.branches)) in
        in_left (Asks n b.key.serial) (questions_of x.name (arranged x.volatile.preparation x.volatile.branches)) (all_questions xs) (subst Q (sym (bytes_same n x.name is)) (in_questions x.name (arranged x.volatile.preparation x.volatile.branches) b (subst P same i) st))
    go false is k more = in_right (Asks n b.key.serial) (questions_of x.name (arranged x.volatile.preparation x.volatile.branches)) (all_questions xs) (more k)

-- The whole settling.

finishes : (base u : World) (given answer : Line) (lines : List Line) (v : World) → Asking base [] u → Finished u given lines answer v → Comes answer v
finishes base u given answer lines v k h = inr (let P : World → Type 0 = λ x. IsAtRest x in subst P (sym h.2) (λ n y f. (k.ups n y f, none y.volatile.branches (λ b i. k.each n y b f i))))
  where
    none : (bs : List Branch) → ((b : Branch) → In b bs → ⊥) → bs ≡ []
    none [] g = refl
    none (b ∷ bs) g = absurd (g b (inl refl))

-- each node is booted
pub record Starting (base : World) (ps : List Part) (w : World) : Type 0 where
  pub booting : Booting ps w
  pub reached : Reached base w

pub starting_leads : (base : World) → IsAgreeing (opening_of base) → (after : List DiskCounts) → Leads after (Starting base)
starting_leads base agrees after = record { stop = stop; keep = keep }
  where
    stop : (p : Part) (ps : List Part) (w : World) (c : Choice) → Starting base (p ∷ ps) w → (part_effect w p c).ends ≡ true → is_normal (part_effect w p c).answer ≡ false
    stop (Does n Restarts) ps w c k e = restart_stops w n c e
    stop (Asks n serial) ps w c k e = absurd k.booting.0
    stop (Does n (Serves request)) ps w c k e = absurd k.booting.0
    stop (Does n Ticks) ps w c k e = absurd k.booting.0
    stop (Does n (Takes m)) ps w c k e = absurd k.booting.0
    stop (Does n (Hears m)) ps w c k e = absurd k.booting.0
    stop (Does n (LosesLink other)) ps w c k e = absurd k.booting.0
    stop (Does n RunsDown) ps w c k e = absurd k.booting.0

    keep : (p : Part) (ps : List Part) (w : World) (c : Choice) → Starting base (p ∷ ps) w → Allowed w p after c → (part_effect w p c).ends ≡ false → Starting base ps (part_effect w p c).world
    keep (Does n Restarts) ps w c k may e = record {
      booting = booting_keep (Does n Restarts) ps w c k.booting e;
      reached = reached_next base w (done_at w n Restarts c).world agrees (does_sim (opening_of base) w n Restarts after c tt (λ slots journal q. absurd (let f : ⊥ = cc in f)) may) k.reached;
    }
    keep (Asks n serial) ps w c k may e = absurd k.booting.0
    keep (Does n (Serves request)) ps w c k may e = absurd k.booting.0
    keep (Does n Ticks) ps w c k may e = absurd k.booting.0
    keep (Does n (Takes m)) ps w c k may e = absurd k.booting.0
    keep (Does n (Hears m)) ps w c k may e = absurd k.booting.0
    keep (Does n (LosesLink other)) ps w c k may e = absurd k.booting.0
    keep (Does n RunsDown) ps w c k may e = absurd k.booting.0

pub asking_starts : (base : World) → IsAgreeing (opening_of base) → (u : World) → Downing base [] u → Asking base (all_questions u.nodes) u
asking_starts base agrees u k =
    let prepared : (n : Name) (y : Node) → find_node n u.nodes ≡ Some y → ArePrepared y.volatile.branches = λ n y f. elim (k.each n y f) [ inl done ↦ done | inr none ↦ absurd none ] in
    record {
      asks = all_ask u.nodes;
      ups = k.ups;
      reached = k.reached;
      prepared = prepared;
      each = λ n y b f i. (
          let fit = fits base u n y agrees k.reached f (k.ups n y f) in
          let found = found_of y.volatile.branches b (unique_of y.volatile.branches fit.distinct) i in
          let there : find b.key (arranged y.volatile.preparation y.volatile.branches) ≡ Some b = find-arranged y.volatile.preparation y.volatile.branches b.key ∙ found in
          to_ask u.nodes n y b f (find_in b.key (arranged y.volatile.preparation y.volatile.branches) b there) (prepared n y f b i));
    }

pub settles_so : RunDownLaw → (base w : World) → IsAgreeing (opening_of base) → Reached base w → (after : List DiskCounts) (given : Line) (lines : List Line) (answer : Line) (v : World) → Phases (phases_of Settle) after w given lines answer v → Comes answer v
settles_so law base w agrees reached after given lines answer v h =
    parts_lead after (Starting base) (Phases ((λ u. run_downs_of u.nodes) ∷ (λ u. all_questions u.nodes) ∷ []) after) (starting_leads base agrees after)
    (λ u g a ls x k j. parts_lead after (Downing base) (Phases ((λ u2. all_questions u2.nodes) ∷ []) after) (downing_leads law base agrees after)
    (λ u2 g2 a2 ls2 x2 k2 j2. parts_lead after (Asking base) (Phases [] after) (asking_leads base agrees after) (λ u3 g3 a3 ls3 x3 k3 j3. finishes base u3 g3 a3 ls3 x3 k3 j3)
    (all_questions u2.nodes) u2 g2 ls2 a2 x2 (asking_starts base agrees u2 k2) j2)
    (run_downs_of u.nodes) u g ls a x (record { downs = are_downs u.nodes; ups = booted_all u k.booting; reached = k.reached; each = λ n y f. inr (to_run_down u.nodes n y f) }) j)
    (restarts_of w.nodes) w given lines answer v (record { booting = (are_restarts w.nodes, to_boot w.nodes); reached = reached }) h

-- The answer stands last.

abbrev last_or : Line → List Line → Line
last_or d [] = d
last_or d (x ∷ xs) = last_or x xs

last_is : (d : Line) (xs : List Line) (a : Line) → last_or d (xs ++ a ∷ []) ≡ a
last_is d [] a = refl
last_is d (x ∷ xs) a = last_is x xs a

pub last_same : (xs ys : List Line) (a b : Line) → xs ++ a ∷ [] ≡ ys ++ b ∷ [] → a ≡ b
last_same xs ys a b e = sym (last_is line.Normal xs a) ∙ (ap (last_or line.Normal) e ∙ last_is line.Normal ys b)

pub settling_rests : RunDownLaw → (base v u : World) (es : List Entry) (events : List Line) → IsRun base es v → Step v Settle (events ++ line.Normal ∷ []) u → IsAtRest u
settling_rests law base v u es events h step =
    let reached : Reached base v = λ r. reached_by base v es h r in
    let w : World = begun_with Settle v in
    let used : Reached base w = reached_next base v w h.agrees (Rattle.run_agreement.proofs.Runs.used_sim (opening_of base) v) reached in
    let normal : line.Normal ≡ step.answer = last_same events step.events line.Normal step.answer step.shows in
    let c : Comes step.answer step.world = settles_so law base w h.agrees used u.disks line.Normal step.events step.answer step.world step.does in
    elim c [
      | inl other ↦ absurd (let z : true ≡ false = ap is_normal normal ∙ other in let f : ⊥ = cc in f)
      | inr rest ↦ (let P : World → Type 0 = λ x. IsAtRest x in subst P (sym step.goes) (λ n y f. rest n y f))
    ]
