-- How a settling may end that does not succeed.
use Rattle.std.specs.Prelude.{if◌then◌else◌, ◌||◌, not, nat_lt, ◌==◌}
use Rattle.std.proofs.Common.{◌≡◌, ℕ, Bool, true, false, List, [], ◌∷◌, ◌++◌, Option, Some, None, ◌⊎◌, inl, inr, refl, ap, sym, subst, ◌∙◌, drop, bytes_eq}
use Rattle.vms_model.specs.Ids.{Id}
use Rattle.vms_model.specs.Limits.{boot_limit, moment_limit, position_limit}
use Rattle.run_model.specs.transcript_model.Lines as line
use Rattle.run_model.specs.transcript_model.Lines.{Line, Cause}
use Rattle.run_model.specs.script_model.Statements.{Settle}
use Rattle.commit_protocol.specs.Messages.{Name, Message}
use Rattle.commit_protocol.specs.Table.{Branch, coordinator_of, find}
use Rattle.commit_protocol.specs.Rows.{down}
use Rattle.commit_protocol.specs.World.{In}
use Rattle.commit_protocol.specs.Opening.{IsAgreeing}
use Rattle.run_model.specs.records_model.History.{same_id}
use Rattle.commit_protocol.proofs.Lists.{cases_name, find_serial-key}
use Rattle.run_model.specs.World as world
use Rattle.run_model.specs.World.{World, Node, Shared, DiskCounts, Outturn, find_node, with_node, find_branch}
use Rattle.run_model.specs.Operations.{first_of, refused_if}
use Rattle.run_model.specs.Answers as answers
use Rattle.run_model.specs.Answers.{Service, Task, Hears, RunsDown, Restarts, Serves, Ticks, Takes, LosesLink, task_service, refused_before_reading}
use Rattle.run_model.specs.Steps as steps
use Rattle.run_model.specs.Steps.{Choice, Whole, WithoutMemory, Unpowered, Cut, ServiceAllowed, TaskAllowed, TaskEffect, service_effect, task_effect, ready_node}
use Rattle.run_model.specs.Statements as statements
use Rattle.run_model.specs.Statements.{Part, Does, Asks, PartEffect, Question, Heard, Unanswered, Doubtful, Onward, Parts, Phases, Finished, Step, Allowed, AllowedAt, AllowedOf, RoseAt, stops_at, put_into, done_at, part_effect, question_effect, question, asking, asked, answer_of, answer_in, restarts_of, run_downs_of, all_questions, phases_of, begun_with}
use Rattle.run_model.specs.StepLaws.{FailurePutsDown}
use Rattle.run_model.proofs.PartLemmas.{allowed_here}
use Rattle.std.proofs.lemmas.Bool.{both_ways, cases_Bool}
use Rattle.run_agreement.specs.Following.{opening_of}
use Rattle.run_agreement.specs.Laws.{NamesApart, HasFailed, EndedAtBoot, EndsFor, SettlingEnds, first_down}
use Rattle.run_agreement.specs.Seen.{has_volume}
use Rattle.run_agreement.proofs.Found.{some_is, name_found, found_put, bytes_itself, bytes_other}
use Rattle.run_agreement.proofs.Tasks.{awake_refused}
use Rattle.run_agreement.proofs.Barred.{quiet_powered}
use Rattle.run_agreement.proofs.Booting.{power_goes, taken_of}
use Rattle.run_agreement.proofs.Events.{down_of_face}
use Rattle.run_agreement.proofs.Changing.{branch_found}
use Rattle.run_agreement.proofs.Parts.{AllUp, IsAsking, asking_is}
use Rattle.run_agreement.proofs.Going.{went_on, restart_moves, powered_name}
use Rattle.run_agreement.proofs.Runs.{are_restarts, to_boot, booted_all, are_downs, part_name, down_moves, used_sim}
use Rattle.run_agreement.proofs.Resting.{Reached, RunDownLaw, Leads, Starting, Downing, Asking, starting_leads, downing_leads, asking_leads, asking_starts, answers_by, to_run_down, fits, reached_next, last_same}
use Rattle.run_agreement.proofs.Openings.{reached_by}

-- What a refusal has for its cause in the world that it leaves; of a failure nothing is said yet.
abbrev Ends : World → Line → Type 0
Ends u (line.Broken cause) = Unit {0}
Ends u answer = EndsFor u u [] answer

-- The first node that is down.

-- it may become another that is down
put_first : (ns : List Node) (n : Name) (x z : Node) → find_node n ns ≡ Some x → first_down ns ≡ Some x → x.name ≡ n → z.up ≡ false → first_down (with_node n (λ y. z) ns) ≡ Some z
put_first [] n x z found first named off = absurd (let f : ⊥ = cc in f)
put_first (y ∷ ys) n x z found first named off = go (bytes_eq n y.name) y.up refl refl (λ f g. put_first ys n x z f g named off) found first
  where
    go : (b up : Bool) → bytes_eq n y.name ≡ b → y.up ≡ up → (find_node n ys ≡ Some x → first_down ys ≡ Some x → first_down (with_node n (λ k. z) ys) ≡ Some z)
        → (let o : Option Node = if b then Some y else find_node n ys in o) ≡ Some x → (let o : Option Node = if up then first_down ys else Some y in o) ≡ Some x
        → first_down (if b then z ∷ ys else y ∷ with_node n (λ k. z) ys) ≡ Some z
    go true up is at more f g = ap (λ d. if d then first_down ys else Some z) off
    go false true is at more f g = ap (λ d. if d then first_down (with_node n (λ k. z) ys) else Some y) at ∙ more f g
    go false false is at more f g = absurd (both_ways (bytes_eq n y.name) is (bytes_itself n y.name (sym (ap (λ (k : Node). k.name) (some_is y x g) ∙ named))))

-- it is the node of the first boot
first_is : (ns : List Node) (n : Name) (x : Node) (ps : List Part) → restarts_of ns ≡ Does n Restarts ∷ ps → find_node n ns ≡ Some x → x.up ≡ false → first_down ns ≡ Some x
first_is [] n x ps left found off = absurd (let f : ⊥ = cc in f)
first_is (y ∷ ys) n x ps left found off = go y.up (bytes_eq n y.name) refl refl left found (λ l f. first_is ys n x ps l f off)
  where
    go : (up b : Bool) → y.up ≡ up → bytes_eq n y.name ≡ b → (let qs : List Part = if up then restarts_of ys else Does y.name Restarts ∷ restarts_of ys in qs) ≡ Does n Restarts ∷ ps
        → (let o : Option Node = if b then Some y else find_node n ys in o) ≡ Some x → (restarts_of ys ≡ Does n Restarts ∷ ps → find_node n ys ≡ Some x → first_down ys ≡ Some x)
        → (let o : Option Node = if up then first_down ys else Some y in o) ≡ Some x
    go true true at is l f more = absurd (both_ways x.up off (ap (λ (k : Node). k.up) (sym (some_is y x f)) ∙ at))
    go true false at is l f more = more l f
    go false true at is l f more = f
    go false false at is l f more = let same : y.name ≡ n = cc in absurd (both_ways (bytes_eq n y.name) is (bytes_itself n y.name (sym same)))

-- once it is up, the other boots are left
restarts_left : (ns : List Node) (n : Name) (x z : Node) (ps : List Part) → restarts_of ns ≡ Does n Restarts ∷ ps → find_node n ns ≡ Some x → x.up ≡ false → z.up ≡ true → restarts_of (with_node n (λ y. z) ns) ≡ ps
restarts_left [] n x z ps left found off alive = absurd (let f : ⊥ = cc in f)
restarts_left (y ∷ ys) n x z ps left found off alive = go y.up (bytes_eq n y.name) refl refl left found (λ l f. restarts_left ys n x z ps l f off alive)
  where
    go : (up b : Bool) → y.up ≡ up → bytes_eq n y.name ≡ b → (let qs : List Part = if up then restarts_of ys else Does y.name Restarts ∷ restarts_of ys in qs) ≡ Does n Restarts ∷ ps
        → (let o : Option Node = if b then Some y else find_node n ys in o) ≡ Some x → (restarts_of ys ≡ Does n Restarts ∷ ps → find_node n ys ≡ Some x → restarts_of (with_node n (λ k. z) ys) ≡ ps)
        → restarts_of (if b then z ∷ ys else y ∷ with_node n (λ k. z) ys) ≡ ps
    go true true at is l f more = absurd (both_ways x.up off (ap (λ (k : Node). k.up) (sym (some_is y x f)) ∙ at))
    go true false at is l f more = ap (λ d. if d then restarts_of (with_node n (λ k. z) ys) else Does y.name Restarts ∷ restarts_of (with_node n (λ k. z) ys)) at ∙ more l f
    go false true at is l f more = ap (λ d. if d then restarts_of ys else Does z.name Restarts ∷ restarts_of ys) alive ∙ ap (drop 1) l
    go false false at is l f more = let same : y.name ≡ n = cc in absurd (both_ways (bytes_eq n y.name) is (bytes_itself n y.name (sym same)))

-- so it is behind a boot with which the settling goes on
boots_left : (w : World) (n : Name) (c : Choice) (x : Node) (ps : List Part) → find_node n w.nodes ≡ Some x → x.up ≡ false → restarts_of w.nodes ≡ Does n Restarts ∷ ps → (done_at w n Restarts c).ends ≡ false → restarts_of (done_at w n Restarts c).world.nodes ≡ ps
boots_left w n c x ps found off left h =
    let P : Option Node → Type 0 = λ d. (let e : PartEffect = elim d [ Some y ↦ put_into w n (task_effect w.shared (stops_at n w) y Restarts c) | None ↦ statements.no_node w ] in e).ends ≡ false
    → restarts_of (let e : PartEffect = elim d [ Some y ↦ put_into w n (task_effect w.shared (stops_at n w) y Restarts c) | None ↦ statements.no_node w ] in e).world.nodes ≡ ps in
    subst P (sym found) (λ k.
    let g = went_on w.shared (stops_at n w) x (task_service Restarts) c refl k in
    restarts_left w.nodes n x (task_effect w.shared (stops_at n w) x Restarts c).node ps left found off (ap (λ (z : Node). z.up) g.node)) h

-- a node that is down is so once its disk runs again, whatever its act under way turned out to be
stays_off : (base w : World) (n : Name) (x : Node) (outturn : Outturn) (stops : ℕ) → Reached base w → find_node n w.nodes ≡ Some x → x.up ≡ false → (world.powered outturn stops x).up ≡ false
stays_off base w n x outturn stops reached found off =
    let are = (reached (λ m. taken_of outturn)).shows.are in
    elim (cases_Bool (has_volume x)) [
      | inl sound ↦ (let f = are.there n x found sound in (power_goes outturn stops x f.0 off (down_of_face (taken_of outturn) x f.0 off f.2)).down)
      | inr none ↦ ap (λ (z : Node). z.up) (quiet_powered outturn stops x (are.without n x found none).1.quiet) ∙ off
    ]

-- Tasks that end their statement.

-- a node that cannot be booted says why
bootable_ends : (u : World) (n : Name) (r : Node) (l : Line) → EndedAtBoot u.nodes n r → r.name ≡ n → answers.bootable r ≡ Some l → Ends u l
bootable_ends u n r l at named e = by r.durable.volume refl
  where
    ends : (m : Line) → Ends u m → m ≡ l → Ends u l
    ends m h same = let P : Line → Type 0 = λ k. Ends u k in subst P same h

    quotas : (a b c : Bool) → (r.durable.boot == boot_limit) ≡ a → nat_lt moment_limit r.durable.greatest ≡ b → nat_lt position_limit (answers.last_position r) ≡ c
        → first_of (refused_if a (line.QuotaExceeded line.Boots boot_limit)) (first_of (refused_if b (line.QuotaExceeded line.Moments moment_limit)) (refused_if c (line.QuotaExceeded line.Positions position_limit))) ≡ Some l → Ends u l
    quotas true b c p q s k = ends (line.QuotaExceeded line.Boots boot_limit) (refl, (n, r, at, inl p)) (some_is (line.QuotaExceeded line.Boots boot_limit) l k)
    quotas false true c p q s k = ends (line.QuotaExceeded line.Moments moment_limit) (refl, (n, r, at, inl q)) (some_is (line.QuotaExceeded line.Moments moment_limit) l k)
    quotas false false true p q s k = ends (line.QuotaExceeded line.Positions position_limit) (refl, (n, r, at, inl s)) (some_is (line.QuotaExceeded line.Positions position_limit) l k)
    quotas false false false p q s k = absurd (let f : ⊥ = cc in f)

    by : (v : world.Volume) → r.durable.volume ≡ v → Ends u l
    by world.Sound f =
        let P : world.Volume → Type 0 = λ v. answers.bootable (record r { durable = record r.durable { volume = v } }) ≡ Some l in
        quotas (r.durable.boot == boot_limit) (nat_lt moment_limit r.durable.greatest) (nat_lt position_limit (answers.last_position r)) refl refl refl (subst P f e)
    by (world.Faulty condition block) f =
        let P : world.Volume → Type 0 = λ v. answers.bootable (record r { durable = record r.durable { volume = v } }) ≡ Some l in
        let same : line.NoVolume r.name condition block ≡ l = some_is (line.NoVolume r.name condition block) l (subst P f e) in
        let Q : Name → Type 0 = λ m. EndedAtBoot u.nodes m r in
        let R : Line → Type 0 = λ m. Ends u m in
        subst R same (r, subst Q (sym named) at, inl f)
    by (world.Barred bar) f =
        let P : world.Volume → Type 0 = λ v. answers.bootable (record r { durable = record r.durable { volume = v } }) ≡ Some l in
        let same : answers.bar_line r.name bar ≡ l = some_is (answers.bar_line r.name bar) l (subst P f e) in
        let R : Line → Type 0 = λ m. Ends u m in
        subst R same (bars bar f)
      where
        bars : (b : world.Bar) → r.durable.volume ≡ world.Barred b → Ends u (answers.bar_line r.name b)
        bars (world.NoRing block) g = let Q : Name → Type 0 = λ m. EndedAtBoot u.nodes m r in (r, subst Q (sym named) at, inr (inl (refl, g)))
        bars (world.NoIndex block) g = let Q : Name → Type 0 = λ m. EndedAtBoot u.nodes m r in (r, subst Q (sym named) at, inr (inr (refl, g)))
        bars world.AllBoots g = (refl, (n, r, at, inr g))
        bars world.LateMoment g = (refl, (n, r, at, inr g))
        bars world.FarPosition g = (refl, (n, r, at, inr g))
    by world.Unknown f =
        let P : world.Volume → Type 0 = λ v. answers.bootable (record r { durable = record r.durable { volume = v } }) ≡ Some l in
        absurd (let k : None ≡ Some l = subst P f e in let g : ⊥ = cc in g)

restart_ends : (w : World) (n : Name) (c : Choice) (x : Node) (rises : Cause → Type 0) → TaskAllowed w.shared (stops_at n w) x Restarts rises c → find_node n w.nodes ≡ Some x → x.up ≡ false → first_down w.nodes ≡ Some x
    → ((outturn : Outturn) → (world.powered outturn (stops_at n w) x).up ≡ false) → (task_effect w.shared (stops_at n w) x Restarts c).ends ≡ true
    → Ends (put_into w n (task_effect w.shared (stops_at n w) x Restarts c)).world (task_effect w.shared (stops_at n w) x Restarts c).answer
restart_ends w n (Whole outturn) x rises may found is_down first off h = by x.unmade refl
  where
    e : Service
    e = task_service Restarts

    s : Shared
    s = w.shared

    named : x.name ≡ n
    named = name_found n w.nodes x found

    G : Option Line → Type 0
    G l = (steps.whole w.shared x (ready_node outturn (stops_at n w) (task_service Restarts) x) (task_service Restarts) l).ends ≡ true
        → Ends (put_into w n (steps.whole w.shared x (ready_node outturn (stops_at n w) (task_service Restarts) x) (task_service Restarts) l)).world (steps.whole w.shared x (ready_node outturn (stops_at n w) (task_service Restarts) x) (task_service Restarts) l).answer

    before : refused_before_reading w.shared x (task_service Restarts) ≡ refused_if x.unmade (line.NotInitializedAt x.name)
    before = awake_refused w.shared x (task_service Restarts) refl ∙ ap (λ b. first_of (refused_if b line.NodeUp) (refused_if x.unmade (line.NotInitializedAt x.name))) is_down

    begins : (l : Option Line) → answers.bootable (ready_node outturn (stops_at n w) (task_service Restarts) x) ≡ l → (steps.begun w.shared (ready_node outturn (stops_at n w) (task_service Restarts) x) (task_service Restarts) l).ends ≡ true
        → Ends (put_into w n (steps.begun w.shared (ready_node outturn (stops_at n w) (task_service Restarts) x) (task_service Restarts) l)).world (steps.begun w.shared (ready_node outturn (stops_at n w) (task_service Restarts) x) (task_service Restarts) l).answer
    begins (Some l) f k =
        let r : Node = ready_node outturn (stops_at n w) (task_service Restarts) x in
        let name : r.name ≡ n = powered_name outturn (stops_at n w) x ∙ named in
        bootable_ends (put_into w n (steps.refused w.shared r l)).world n r l (record { there = found_put n r x w.nodes name found; first = put_first w.nodes n x r found first named (off outturn) }) name f
    begins None f k = absurd (let z : false ≡ true = k in let g : ⊥ = cc in g)

    by : (b : Bool) → x.unmade ≡ b → Ends (put_into w n (task_effect w.shared (stops_at n w) x Restarts (Whole outturn))).world (task_effect w.shared (stops_at n w) x Restarts (Whole outturn)).answer
    by true u =
        let P : Name → Type 0 = λ m. EndedAtBoot (with_node n (λ y. x) w.nodes) m x in
        subst G (sym (before ∙ ap (λ b. refused_if b (line.NotInitializedAt x.name)) u)) (λ k. (x, subst P (sym named) (record { there = found_put n x x w.nodes named found; first = put_first w.nodes n x x found first named is_down }), u)) h
    by false u = subst G (sym (before ∙ ap (λ b. refused_if b (line.NotInitializedAt x.name)) u)) (begins (answers.bootable (ready_node outturn (stops_at n w) (task_service Restarts) x)) refl) h
restart_ends w n WithoutMemory x rises may found is_down first off h =
    let named = name_found n w.nodes x found in
    (n, x, record { there = found_put n x x w.nodes named found; first = put_first w.nodes n x x found first named is_down }, was_down x.was_up may.1)
  where
    was_down : (b : Bool) → not b ≡ true → b ≡ false
    was_down true k = absurd (let f : ⊥ = cc in f)
    was_down false k = refl
restart_ends w n Unpowered x rises may found is_down first off h = tt
restart_ends w n (Cut outturn done begun cause) x rises may found is_down first off h = tt

-- a task that nothing refuses ends its statement by its disk alone
quiet_ends : (u : World) (s : Shared) (stops : ℕ) (x : Node) (e : Service) (c : Choice) (rises : Cause → Type 0) → ServiceAllowed s stops x e rises c → e.takes_memory x ≡ false → e.goes_on ≡ false → refused_before_reading s x e ≡ None → ((y : Node) → e.refused_after_reading s y ≡ None) → (service_effect s stops x e c).ends ≡ true → Ends u (service_effect s stops x e c).answer
quiet_ends u s stops x e (Whole outturn) rises may memory g before after h =
    let r : Node = ready_node outturn stops e x in
    let P : Option Line → Type 0 = λ l. (steps.whole s x r e l).ends ≡ true → Ends u (steps.whole s x r e l).answer in
    let Q : Option Line → Type 0 = λ l. (steps.begun s r e l).ends ≡ true → Ends u (steps.begun s r e l).answer in
    subst P (sym before) (subst Q (sym (after r)) (λ k. absurd (let z : false ≡ true = k in let f : ⊥ = cc in f))) h
quiet_ends u s stops x e WithoutMemory rises may memory g before after h = absurd (both_ways (e.takes_memory x) memory may.1)
quiet_ends u s stops x e Unpowered rises may memory g before after h = tt
quiet_ends u s stops x e (Cut outturn done begun cause) rises may memory g before after h = let P : Bool → Type 0 = λ b. Ends u (if b then line.Normal else line.Broken cause) in subst P (sym g) tt

awake : (s : Shared) (x : Node) → x.up ≡ true → first_of (refused_if (not (x.up || false)) line.NodeDown) None ≡ None
awake s x up = ap (λ b. first_of (refused_if (not (b || false)) line.NodeDown) None) up

-- at a node that is found
ends_at : (w : World) (n : Name) (t : Task) (c : Choice) (x : Node) → find_node n w.nodes ≡ Some x → ((task_effect w.shared (stops_at n w) x t c).ends ≡ true → Ends (put_into w n (task_effect w.shared (stops_at n w) x t c)).world (task_effect w.shared (stops_at n w) x t c).answer)
    → (done_at w n t c).ends ≡ true → Ends (done_at w n t c).world (done_at w n t c).answer
ends_at w n t c x found each h =
    let P : Option Node → Type 0 = λ d. (let e : PartEffect = elim d [ Some y ↦ put_into w n (task_effect w.shared (stops_at n w) y t c) | None ↦ statements.no_node w ] in e).ends ≡ true
    → Ends (let e : PartEffect = elim d [ Some y ↦ put_into w n (task_effect w.shared (stops_at n w) y t c) | None ↦ statements.no_node w ] in e).world (let e : PartEffect = elim d [ Some y ↦ put_into w n (task_effect w.shared (stops_at n w) y t c) | None ↦ statements.no_node w ] in e).answer in
    subst P (sym found) each h

-- one with which the statement goes on has the success for its answer
normal_at : (w : World) (n : Name) (t : Task) (c : Choice) → (task_service t).goes_on ≡ false → ((s : Shared) (y : Node) → (task_service t).answer s y ≡ line.Normal) → (done_at w n t c).ends ≡ false → (done_at w n t c).answer ≡ line.Normal
normal_at w n t c g normal h = by (find_node n w.nodes) h
  where
    by : (d : Option Node) → (let e : PartEffect = elim d [ Some x ↦ put_into w n (task_effect w.shared (stops_at n w) x t c) | None ↦ statements.no_node w ] in e).ends ≡ false
        → (let e : PartEffect = elim d [ Some x ↦ put_into w n (task_effect w.shared (stops_at n w) x t c) | None ↦ statements.no_node w ] in e).answer ≡ line.Normal
    by None k = absurd (let z : true ≡ false = k in let f : ⊥ = cc in f)
    by (Some x) k = let q = went_on w.shared (stops_at n w) x (task_service t) c g k in q.answer ∙ normal w.shared (ready_node q.outturn (stops_at n w) (task_service t) x)

-- Parts one after another.

abbrev Closes : Line → World → Type 0
Closes answer v = (answer ≡ line.Normal) ⊎ Ends v answer

record Stops (after : List DiskCounts) (P : List Part → World → Type 0) : Type 0 where
  stop : (p : Part) (ps : List Part) (w : World) (c : Choice) → P (p ∷ ps) w → Allowed w p after c → (part_effect w p c).ends ≡ true → Ends (part_effect w p c).world (part_effect w p c).answer
  normal : (p : Part) (ps : List Part) (w : World) (c : Choice) → P (p ∷ ps) w → (part_effect w p c).ends ≡ false → (part_effect w p c).answer ≡ line.Normal
  keep : (p : Part) (ps : List Part) (w : World) (c : Choice) → P (p ∷ ps) w → Allowed w p after c → (part_effect w p c).ends ≡ false → P ps (part_effect w p c).world

parts_close : (after : List DiskCounts) (P : List Part → World → Type 0) (more : Onward) → Stops after P → ((u : World) (given answer : Line) (lines : List Line) (v : World) → given ≡ line.Normal → P [] u → more u given lines answer v → Closes answer v)
    → (ps : List Part) (w : World) (given : Line) (lines : List Line) (answer : Line) (v : World) → given ≡ line.Normal → P ps w → Parts ps after more w given lines answer v → Closes answer v
parts_close after P more stops onward [] w given lines answer v g k h = onward w given answer lines v g k h
parts_close after P more stops onward (p ∷ ps) w given lines answer v g k h =
    let e : PartEffect = part_effect w p h.0 in
    go e.ends refl h.2 (λ rest n m j. parts_close after P more stops onward ps e.world e.answer rest answer v n m j)
  where
    go : (b : Bool) → (part_effect w p h.0).ends ≡ b
        → (let t : Type 0 = elim b [
          | true ↦ (lines ≡ (part_effect w p h.0).lines) × (answer ≡ (part_effect w p h.0).answer) × (v ≡ (part_effect w p h.0).world)
          | false ↦ (rest : List Line) × (lines ≡ (part_effect w p h.0).lines ++ rest) × Parts ps after more (part_effect w p h.0).world (part_effect w p h.0).answer rest answer v
        ] in t)
        → ((rest : List Line) → (part_effect w p h.0).answer ≡ line.Normal → P ps (part_effect w p h.0).world → Parts ps after more (part_effect w p h.0).world (part_effect w p h.0).answer rest answer v → Closes answer v) → Closes answer v
    go true e t rec =
        let P1 : World → Type 0 = λ z. Ends z answer in
        let P2 : Line → Type 0 = λ l. Ends (part_effect w p h.0).world l in
        inr (subst P1 (sym t.2) (subst P2 (sym t.1) (stops.stop p ps w h.0 k h.1 e)))
    go false e t rec = rec t.0 (stops.normal p ps w h.0 k e) (stops.keep p ps w h.0 k h.1 e) t.2

-- The boots.

abbrev names_of : List Part → List Name
names_of [] = []
names_of (p ∷ ps) = part_name p ∷ names_of ps

abbrev AreApart : List Name → Type 0
AreApart [] = Unit {0}
AreApart (n ∷ ns) = (In n ns → ⊥) × AreApart ns

-- each node that is still to boot is there and down, and comes once; and no other is down
record Boots (base : World) (ps : List Part) (w : World) : Type 0 where
  starting : Starting base ps w
  apart : AreApart (names_of ps)
  down : (n : Name) → In n (names_of ps) → (x : Node) × (find_node n w.nodes ≡ Some x) × (x.up ≡ false)
  left : restarts_of w.nodes ≡ ps

boots_stop : (base : World) → IsAgreeing (opening_of base) → (after : List DiskCounts) → Stops after (Boots base)
boots_stop base agrees after = record { stop = stop; normal = normal; keep = keep }
  where
    stop : (p : Part) (ps : List Part) (w : World) (c : Choice) → Boots base (p ∷ ps) w → Allowed w p after c → (part_effect w p c).ends ≡ true → Ends (part_effect w p c).world (part_effect w p c).answer
    stop (Does n Restarts) ps w c k may e =
        let x = k.down n (inl refl) in
        ends_at w n Restarts c x.0 x.1 (restart_ends w n c x.0 (λ cause. RoseAt w n cause after) (allowed_here w n Restarts x.0 after c x.1 may) x.1 x.2
        (first_is w.nodes n x.0 ps k.left x.1 x.2) (λ outturn. stays_off base w n x.0 outturn (stops_at n w) k.starting.reached x.1 x.2)) e
    stop (Asks n serial) ps w c k may e = absurd k.starting.booting.0
    stop (Does n (Serves request)) ps w c k may e = absurd k.starting.booting.0
    stop (Does n Ticks) ps w c k may e = absurd k.starting.booting.0
    stop (Does n (Takes m)) ps w c k may e = absurd k.starting.booting.0
    stop (Does n (Hears m)) ps w c k may e = absurd k.starting.booting.0
    stop (Does n (LosesLink other)) ps w c k may e = absurd k.starting.booting.0
    stop (Does n RunsDown) ps w c k may e = absurd k.starting.booting.0

    normal : (p : Part) (ps : List Part) (w : World) (c : Choice) → Boots base (p ∷ ps) w → (part_effect w p c).ends ≡ false → (part_effect w p c).answer ≡ line.Normal
    normal (Does n Restarts) ps w c k e = normal_at w n Restarts c refl (λ s y. refl) e
    normal (Asks n serial) ps w c k e = absurd k.starting.booting.0
    normal (Does n (Serves request)) ps w c k e = absurd k.starting.booting.0
    normal (Does n Ticks) ps w c k e = absurd k.starting.booting.0
    normal (Does n (Takes m)) ps w c k e = absurd k.starting.booting.0
    normal (Does n (Hears m)) ps w c k e = absurd k.starting.booting.0
    normal (Does n (LosesLink other)) ps w c k e = absurd k.starting.booting.0
    normal (Does n RunsDown) ps w c k e = absurd k.starting.booting.0

    keep : (p : Part) (ps : List Part) (w : World) (c : Choice) → Boots base (p ∷ ps) w → Allowed w p after c → (part_effect w p c).ends ≡ false → Boots base ps (part_effect w p c).world
    keep (Does n Restarts) ps w c k may e =
        let m = restart_moves w n c e in
        record {
          starting = (starting_leads base agrees after).keep (Does n Restarts) ps w c k.starting may e;
          apart = k.apart.1;
          down = λ j i. (
              let x = k.down j (inr i) in
              (x.0, m.there j (λ same. k.apart.0 (let P : Name → Type 0 = λ z. In z (names_of ps) in subst P same i)) ∙ x.1, x.2));
          left = (let x = k.down n (inl refl) in boots_left w n c x.0 ps x.1 x.2 k.left e);
        }
    keep (Asks n serial) ps w c k may e = absurd k.starting.booting.0
    keep (Does n (Serves request)) ps w c k may e = absurd k.starting.booting.0
    keep (Does n Ticks) ps w c k may e = absurd k.starting.booting.0
    keep (Does n (Takes m)) ps w c k may e = absurd k.starting.booting.0
    keep (Does n (Hears m)) ps w c k may e = absurd k.starting.booting.0
    keep (Does n (LosesLink other)) ps w c k may e = absurd k.starting.booting.0
    keep (Does n RunsDown) ps w c k may e = absurd k.starting.booting.0

-- the nodes that are down, with their names
down_there : (ns : List Node) (n : Name) → NamesApart ns → In n (names_of (restarts_of ns)) → (x : Node) × (find_node n ns ≡ Some x) × (x.up ≡ false)
down_there [] n apart i = absurd i
down_there (y ∷ ys) n apart i = go y.up refl i (down_there ys n apart.1)
  where
    later : ((x : Node) × (find_node n ys ≡ Some x) × (x.up ≡ false)) → (x : Node) × (find_node n (y ∷ ys) ≡ Some x) × (x.up ≡ false)
    later q = elim (cases_name n y.name) [
      | inl same ↦ absurd (let P : Name → Type 0 = λ m. find_node m ys ≡ None in let z : None ≡ Some q.0 = sym (subst P (sym same) apart.0) ∙ q.1 in let f : ⊥ = cc in f)
      | inr away ↦ (q.0, rw (bytes_other n y.name away) q.1, q.2)
    ]

    go : (b : Bool) → y.up ≡ b → In n (names_of (if b then restarts_of ys else Does y.name Restarts ∷ restarts_of ys)) → (In n (names_of (restarts_of ys)) → (x : Node) × (find_node n ys ≡ Some x) × (x.up ≡ false)) → (x : Node) × (find_node n (y ∷ ys) ≡ Some x) × (x.up ≡ false)
    go true u j more = later (more j)
    go false u j more = elim j [
      | inl same ↦ (y, rw (bytes_itself n y.name same) refl, u)
      | inr z ↦ later (more z)
    ]

restarts_apart : (ns : List Node) → NamesApart ns → AreApart (names_of (restarts_of ns))
restarts_apart [] apart = tt
restarts_apart (y ∷ ys) apart = go y.up (restarts_apart ys apart.1)
  where
    go : (b : Bool) → AreApart (names_of (restarts_of ys)) → AreApart (names_of (if b then restarts_of ys else Does y.name Restarts ∷ restarts_of ys))
    go true more = more
    go false more = ((λ i. let q = down_there ys y.name apart.1 i in let z : None ≡ Some q.0 = sym apart.0 ∙ q.1 in let f : ⊥ = cc in f), more)

-- The run-downs.

record RunDowns (base : World) (ps : List Part) (w : World) : Type 0 where
  downing : Downing base ps w
  found : (n : Name) → In n (names_of ps) → (x : Node) × (find_node n w.nodes ≡ Some x)

downs_stop : RunDownLaw → (base : World) → IsAgreeing (opening_of base) → (after : List DiskCounts) → Stops after (RunDowns base)
downs_stop law base agrees after = record { stop = stop; normal = normal; keep = keep }
  where
    stop : (p : Part) (ps : List Part) (w : World) (c : Choice) → RunDowns base (p ∷ ps) w → Allowed w p after c → (part_effect w p c).ends ≡ true → Ends (part_effect w p c).world (part_effect w p c).answer
    stop (Does n RunsDown) ps w c k may e =
        let x = k.found n (inl refl) in
        ends_at w n RunsDown c x.0 x.1 (λ h. quiet_ends (put_into w n (task_effect w.shared (stops_at n w) x.0 RunsDown c)).world w.shared (stops_at n w) x.0 (task_service RunsDown) c (λ cause. RoseAt w n cause after) (allowed_here w n RunsDown x.0 after c x.1 may) refl refl (awake w.shared x.0 (k.downing.ups n x.0 x.1)) (λ y. refl) h) e
    stop (Asks n serial) ps w c k may e = absurd k.downing.downs
    stop (Does n (Serves request)) ps w c k may e = absurd k.downing.downs
    stop (Does n Ticks) ps w c k may e = absurd k.downing.downs
    stop (Does n (Takes m)) ps w c k may e = absurd k.downing.downs
    stop (Does n (Hears m)) ps w c k may e = absurd k.downing.downs
    stop (Does n (LosesLink other)) ps w c k may e = absurd k.downing.downs
    stop (Does n Restarts) ps w c k may e = absurd k.downing.downs

    normal : (p : Part) (ps : List Part) (w : World) (c : Choice) → RunDowns base (p ∷ ps) w → (part_effect w p c).ends ≡ false → (part_effect w p c).answer ≡ line.Normal
    normal (Does n RunsDown) ps w c k e = normal_at w n RunsDown c refl (λ s y. refl) e
    normal (Asks n serial) ps w c k e = absurd k.downing.downs
    normal (Does n (Serves request)) ps w c k e = absurd k.downing.downs
    normal (Does n Ticks) ps w c k e = absurd k.downing.downs
    normal (Does n (Takes m)) ps w c k e = absurd k.downing.downs
    normal (Does n (Hears m)) ps w c k e = absurd k.downing.downs
    normal (Does n (LosesLink other)) ps w c k e = absurd k.downing.downs
    normal (Does n Restarts) ps w c k e = absurd k.downing.downs

    keep : (p : Part) (ps : List Part) (w : World) (c : Choice) → RunDowns base (p ∷ ps) w → Allowed w p after c → (part_effect w p c).ends ≡ false → RunDowns base ps (part_effect w p c).world
    keep (Does n RunsDown) ps w c k may e =
        let m = down_moves w n c e in
        record {
          downing = (downing_leads law base agrees after).keep (Does n RunsDown) ps w c k.downing may e;
          found = λ j i. elim (cases_name j n) [
            | inl same ↦ (let P : Name → Type 0 = λ z. (x : Node) × (find_node z (part_effect w (Does n RunsDown) c).world.nodes ≡ Some x) in subst P (sym same) m.left)
            | inr away ↦ (let x = k.found j (inr i) in (x.0, m.there j away ∙ x.1))
          ];
        }
    keep (Asks n serial) ps w c k may e = absurd k.downing.downs
    keep (Does n (Serves request)) ps w c k may e = absurd k.downing.downs
    keep (Does n Ticks) ps w c k may e = absurd k.downing.downs
    keep (Does n (Takes m)) ps w c k may e = absurd k.downing.downs
    keep (Does n (Hears m)) ps w c k may e = absurd k.downing.downs
    keep (Does n (LosesLink other)) ps w c k may e = absurd k.downing.downs
    keep (Does n Restarts) ps w c k may e = absurd k.downing.downs

downs_found : (ns : List Node) (n : Name) → In n (names_of (run_downs_of ns)) → (x : Node) × (find_node n ns ≡ Some x)
downs_found [] n i = absurd i
downs_found (y ∷ ys) n i = elim (cases_name n y.name) [
  | inl same ↦ (y, rw (bytes_itself n y.name same) refl)
  | inr away ↦ elim i [
    | inl same ↦ absurd (away same)
    | inr j ↦ (let q = downs_found ys n j in (q.0, rw (bytes_other n y.name away) q.1))
  ]
]

-- The questions.

heard_stops : (base w : World) (n : Name) (serial : Id) (b : Branch) (y : Node) (m : Message) (c : Choice) (after : List DiskCounts) → AllowedAt w m.to (Hears m) after c → IsAgreeing (opening_of base) → Reached base w → AllUp w → IsAsking w n serial b → ((j : Name) (z : Node) → find_node j w.nodes ≡ Some z → Rattle.run_agreement.proofs.Resting.ArePrepared z.volatile.branches)
    → find_node (coordinator_of b.key) w.nodes ≡ Some y → answer_of y b.key ≡ Some m → (done_at w m.to (Hears m) c).ends ≡ true → Ends (done_at w m.to (Hears m) c).world (done_at w m.to (Hears m) c).answer
heard_stops base w n serial b y m c after may agrees reached ups a prepared fy answers h =
    let q = answers_by y b.key (prepared (coordinator_of b.key) y fy) in
    let same : down q.kind b.key ≡ m = some_is (down q.kind b.key) m (sym (ap answer_in q.sends) ∙ answers) in
    let x : Node = a.node in
    let found : find b.key x.volatile.branches ≡ Some b = find_serial-key serial x.volatile.branches b (branch_found serial x.volatile.branches b a.branch) in
    let home : m.to ≡ n = ap (λ (z : Message). z.to) (sym same) ∙ (fits base w n x agrees reached a.found (ups n x a.found)).home b found in
    let P : Name → Type 0 = λ i. find_node i w.nodes ≡ Some x in
    let there : find_node m.to w.nodes ≡ Some x = subst P (sym home) a.found in
    ends_at w m.to (Hears m) c x there (λ k. quiet_ends (put_into w m.to (task_effect w.shared (stops_at m.to w) x (Hears m) c)).world w.shared (stops_at m.to w) x (task_service (Hears m)) c (λ cause. RoseAt w m.to cause after) (allowed_here w m.to (Hears m) x after c there may) refl refl (awake w.shared x (ups n x a.found)) (λ z. refl) k) h

question_normal : (w : World) (c : Choice) (q : Question) → (question_effect w c q).ends ≡ false → (question_effect w c q).answer ≡ line.Normal
question_normal w c (Heard m) e = normal_at w m.to (Hears m) c refl (λ s y. refl) e
question_normal w c Unanswered e = refl
question_normal w c (Doubtful k) e = absurd (let z : true ≡ false = e in let f : ⊥ = cc in f)

branch_in : (serial : Id) (bs : List Branch) (b : Branch) → find_branch serial bs ≡ Some b → In b bs
branch_in serial [] b e = absurd (let f : ⊥ = cc in f)
branch_in serial (y ∷ ys) b e = go (same_id serial y.key.serial) e (branch_in serial ys b)
  where
    go : (t : Bool) → (let o : Option Branch = if t then Some y else find_branch serial ys in o) ≡ Some b → (find_branch serial ys ≡ Some b → In b ys) → In b (y ∷ ys)
    go true k more = inl (sym (some_is y b k))
    go false k more = inr (more k)

asks_stop : (base : World) → IsAgreeing (opening_of base) → (after : List DiskCounts) → Stops after (Asking base)
asks_stop base agrees after = record { stop = stop; normal = normal; keep = (asking_leads base agrees after).keep }
  where
    normal : (p : Part) (ps : List Part) (w : World) (c : Choice) → Asking base (p ∷ ps) w → (part_effect w p c).ends ≡ false → (part_effect w p c).answer ≡ line.Normal
    normal (Asks n serial) ps w c k e = question_normal w c (question w n serial) e
    normal (Does n t) ps w c k e = absurd k.asks

    stop : (p : Part) (ps : List Part) (w : World) (c : Choice) → Asking base (p ∷ ps) w → Allowed w p after c → (part_effect w p c).ends ≡ true → Ends (part_effect w p c).world (part_effect w p c).answer
    stop (Does n t) ps w c k may e = absurd k.asks
    stop (Asks n serial) ps w c k may e = by (asking w n serial) refl may e
      where
        G : Question → Type 0
        G q = AllowedOf w after c q → (question_effect w c q).ends ≡ true → Ends (question_effect w c q).world (question_effect w c q).answer

        answered : (b : Branch) (y : Node) → asking w n serial ≡ Some b → find_node (coordinator_of b.key) w.nodes ≡ Some y → (d : Option Message) → answer_of y b.key ≡ d → G (elim d [ Some m ↦ Heard m | None ↦ Unanswered ])
        answered b y f g None i ok h = absurd (let z : false ≡ true = h in let q : ⊥ = cc in q)
        answered b y f g (Some m) i ok h = heard_stops base w n serial b y m c after ok agrees k.reached k.ups (asking_is w n serial b f) k.prepared g i h

        coordinator : (b : Branch) → asking w n serial ≡ Some b → (d : Option Node) → find_node (coordinator_of b.key) w.nodes ≡ d → G (elim d [ Some y ↦ elim (answer_of y b.key) [ Some m ↦ Heard m | None ↦ Unanswered ] | None ↦ Doubtful b.key ])
        coordinator b f None g ok h = let a = asking_is w n serial b f in (g, (n, a.node, a.found, (b, branch_in serial a.node.volatile.branches b a.branch, refl, refl, a.prepared)))
        coordinator b f (Some y) g ok h = answered b y f g (answer_of y b.key) refl ok h

        by : (d : Option Branch) → asking w n serial ≡ d → G (elim d [ Some b ↦ asked w b.key | None ↦ Unanswered ])
        by None f ok h = absurd (let z : false ≡ true = h in let q : ⊥ = cc in q)
        by (Some b) f ok h = coordinator b f (find_node (coordinator_of b.key) w.nodes) refl ok h

-- The whole settling.

closes_so : RunDownLaw → (base w : World) → IsAgreeing (opening_of base) → Reached base w → NamesApart w.nodes → (after : List DiskCounts) (lines : List Line) (answer : Line) (v : World) → Phases (phases_of Settle) after w line.Normal lines answer v → Closes answer v
closes_so law base w agrees reached apart after lines answer v h =
    parts_close after (Boots base) (Phases ((λ u. run_downs_of u.nodes) ∷ (λ u. all_questions u.nodes) ∷ []) after) (boots_stop base agrees after)
    (λ u g a ls x n k j. parts_close after (RunDowns base) (Phases ((λ u2. all_questions u2.nodes) ∷ []) after) (downs_stop law base agrees after)
    (λ u2 g2 a2 ls2 x2 n2 k2 j2. parts_close after (Asking base) (Phases [] after) (asks_stop base agrees after) (λ u3 g3 a3 ls3 x3 n3 k3 j3. inl (j3.1 ∙ n3))
    (all_questions u2.nodes) u2 g2 ls2 a2 x2 n2 (asking_starts base agrees u2 k2.downing) j2)
    (run_downs_of u.nodes) u g ls a x n (record {
      downing = record { downs = are_downs u.nodes; ups = booted_all u k.starting.booting; reached = k.starting.reached; each = λ m y f. inr (to_run_down u.nodes m y f) };
      found = downs_found u.nodes;
    }) j)
    (restarts_of w.nodes) w line.Normal lines answer v refl (record {
      starting = record { booting = (are_restarts w.nodes, to_boot w.nodes); reached = reached };
      apart = restarts_apart w.nodes apart;
      down = λ n i. down_there w.nodes n apart i;
      left = refl;
    }) h

-- so it ends from any world and with any lines, but for a failure
ends_for : (w u : World) (events : List Line) (answer : Line) → ((cause : Cause) → answer ≡ line.Broken cause → HasFailed w u events cause) → Ends u answer → EndsFor w u events answer
ends_for w u events (line.Broken cause) failed k = failed cause refl
ends_for w u events (line.QuotaExceeded line.Boots limit) failed k = k
ends_for w u events (line.QuotaExceeded line.Moments limit) failed k = k
ends_for w u events (line.QuotaExceeded line.Positions limit) failed k = k
ends_for w u events _ failed k = k

pub settling_ends : FailurePutsDown → RunDownLaw → SettlingEnds
settling_ends fails law base v u es events answer h apart step =
    let w : World = begun_with Settle v in
    let used : Reached base w = reached_next base v w h.agrees (used_sim (opening_of base) v) (λ r. reached_by base v es h r) in
    let same : answer ≡ step.answer = last_same events step.events answer step.answer step.shows in
    let P : Line → Type 0 = λ l. Closes l u in
    let c : Closes step.answer step.world = closes_so law base w h.agrees used apart u.disks step.events step.answer step.world step.does in
    let closes : Closes answer u = subst P (sym same) (elim c [
      | inl n ↦ inl n
      | inr k ↦ inr (let R : World → Type 0 = λ z. Ends z step.answer in subst R (sym step.goes) (to_disks step.answer k))
    ]) in
    elim closes [ inl n ↦ inl n | inr k ↦ inr (ends_for v u events answer failed k) ]
  where
    to_disks : (l : Line) → Ends step.world l → Ends (record step.world { disks = u.disks }) l
    to_disks l k = k

    failed : (cause : Cause) → answer ≡ line.Broken cause → HasFailed v u events cause
    failed cause is =
        let P : Line → Type 0 = λ l. Step v Settle (events ++ l ∷ []) u in
        let f = fails v u Settle events cause (subst P is step) in
        record { node = f.0; shown = f.1; told = f.2; down = f.3; rose = f.4 }
