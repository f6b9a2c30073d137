-- What becomes of a node without a volume: it stays down, and the protocol sees nothing of it.
use Rattle.std.proofs.Common.{◌≡◌, ℕ, take, Bool, true, false, List, [], ◌∷◌, Option, Some, None, refl, ap, sym, subst, ◌∙◌}
use Rattle.std.proofs.lemmas.Bool.{both_ways}
use Rattle.run_model.specs.transcript_model.Lines as line
use Rattle.run_model.specs.transcript_model.Lines.{Line, Cause}
use Rattle.run_model.specs.script_model.Statements.{Init, Boot, Create, SetFile, StartTrans, AddBranch, StartBranch, Records, Direct, EndBranch, EndTrans, AbortTrans, Inquire, DeclareRm, JoinRm, AckEvent, ForgetRm, GetDti, LmcpShow, LmcpDump, Dump, DumpJournal, DumpImages, Backup, Recover, Fuse, Crash, Clock}
use Rattle.commit_protocol.specs.World as protocol
use Rattle.commit_protocol.specs.Opening.{Opening}
use Rattle.run_model.specs.World as world
use Rattle.run_model.specs.World.{Act, Node, Shared, Volume, Sound, Faulty, Unknown, Outturn, Lost, Taken, Half, powered, unpowered}
use Rattle.run_model.specs.Answers as answers
use Rattle.run_model.specs.Answers.{Row, Service, Task, Serves, Ticks, Takes, Hears, LosesLink, RunsDown, Restarts, task_service, service, refused_before_reading, spoils}
use Rattle.run_model.specs.Steps as steps
use Rattle.run_model.specs.Steps.{Choice, Whole, WithoutMemory, Unpowered, Cut, ready_node, occupied, whole, cut, rows_if, rows_to_cut, service_effect, task_effect, ServiceAllowed, TaskAllowed, shared_after_rows}
use Rattle.run_agreement.specs.Seen.{IsBarred, has_volume}
use Rattle.run_agreement.specs.Following.{Faces, Follows}
use Rattle.run_agreement.proofs.Serving.{IsPlain, follows_in_use, serves_up}
use Rattle.run_agreement.proofs.Tasks.{IsBoot, boot_is, restart_is, ready_is, nothing_cut, nothing_shared, awake_refused, init_refused, none_some}

-- what such a node becomes, and what nodes share then
pub record BarredTo (x z : Node) (s t : Shared) : Type 0 where
  pub named : z.name ≡ x.name
  pub volume : has_volume z ≡ has_volume x
  pub barred : IsBarred z
  pub shared : (o : Opening) (fs : Faces) (p : protocol.World) → Follows o fs s p → Follows o fs t p

barred_same : (x : Node) (s : Shared) → IsBarred x → BarredTo x x s s
barred_same x s b = record { named = refl; volume = refl; barred = b; shared = λ o fs p h. h }

barred_used : (x z : Node) (s t : Shared) (e : Service) → BarredTo x z s t → BarredTo x z s (occupied e t)
barred_used x z s t e h = record { named = h.named; volume = h.volume; barred = h.barred; shared = λ o fs p f. follows_in_use o fs t (occupied e t).in_use p (h.shared o fs p f) }

abbrev BarredBy : Node → Shared → ℕ → Service → Choice → Type 0
BarredBy x s stops e c = BarredTo x (service_effect s stops x e c).node s (service_effect s stops x e c).shared

pub plain_down : (s : Shared) (x : Node) (e : Service) → IsPlain e → x.up ≡ false → refused_before_reading s x e ≡ None → ⊥
plain_down s x e plain down h = both_ways x.up down (serves_up s x e plain.awake h).0

barred_plain : (x : Node) (s : Shared) (stops : ℕ) (e : Service) (rises : Cause → Type 0) (c : Choice) → IsPlain e → IsBarred x → ServiceAllowed s stops x e rises c → BarredBy x s stops e c
barred_plain x s stops e rises (Whole outturn) plain b may = by (refused_before_reading s x e) refl
  where
    by : (l : Option Line) → refused_before_reading s x e ≡ l → BarredTo x (whole s x (ready_node outturn stops e x) e l).node s (whole s x (ready_node outturn stops e x) e l).shared
    by (Some l) h = barred_same x s b
    by None h = absurd (plain_down s x e plain b.down h)
barred_plain x s stops e rises WithoutMemory plain b may = barred_same x s b
barred_plain x s stops e rises Unpowered plain b may = absurd (plain_down s x e plain b.down may.0)
barred_plain x s stops e rises (Cut outturn done begun cause) plain b may = absurd (plain_down s x e plain b.down may.0)

barred_fuse : (x : Node) (s : Shared) (stops : ℕ) (writes choice : ℕ) (rises : Cause → Type 0) (c : Choice) → IsBarred x → ServiceAllowed s stops x (service (Fuse writes choice)) rises c → BarredBy x s stops (service (Fuse writes choice)) c
barred_fuse x s stops writes choice rises (Whole outturn) b may =
    let e : Service = service (Fuse writes choice) in
    let P : Option Line → Type 0 = λ l. BarredTo x (whole s x x e l).node s (whole s x x e l).shared in
    subst P (sym (awake_refused s x e refl)) (barred_used x (world.acted (world.Arms writes choice) x) s s e (record { named = refl; volume = refl; barred = record { down = b.down; quiet = b.quiet; none = b.none; known = b.known }; shared = λ o fs p h. h }))
barred_fuse x s stops writes choice rises WithoutMemory b may = barred_same x s b
barred_fuse x s stops writes choice rises Unpowered b may = absurd (let f : false ≡ true = may.1 in cc)
barred_fuse x s stops writes choice rises (Cut outturn done begun cause) b may = absurd (let f : false ≡ true = may.1 in cc)

barred_clock : (x : Node) (s : Shared) (stops : ℕ) (now : ℕ) (rises : Cause → Type 0) (c : Choice) → IsBarred x → ServiceAllowed s stops x (service (Clock now)) rises c → BarredBy x s stops (service (Clock now)) c
barred_clock x s stops now rises (Whole outturn) b may =
    let e : Service = service (Clock now) in
    let P : Option Line → Type 0 = λ l. BarredTo x (whole s x x e l).node s (whole s x x e l).shared in
    subst P (sym (awake_refused s x e refl)) (barred_used x (world.acted (world.Clocks now) x) s s e (record { named = refl; volume = refl; barred = record { down = b.down; quiet = b.quiet; none = b.none; known = b.known }; shared = λ o fs p h. h }))
barred_clock x s stops now rises WithoutMemory b may = barred_same x s b
barred_clock x s stops now rises Unpowered b may = absurd (let f : false ≡ true = may.1 in cc)
barred_clock x s stops now rises (Cut outturn done begun cause) b may = absurd (let f : false ≡ true = may.1 in cc)

barred_init : (x : Node) (s : Shared) (stops : ℕ) (slots journal : ℕ) (rises : Cause → Type 0) (c : Choice) → IsBarred x → s.in_use ≡ true → ServiceAllowed s stops x (service (Init slots journal)) rises c → BarredBy x s stops (service (Init slots journal)) c
barred_init x s stops slots journal rises (Whole outturn) b used may =
    let e : Service = service (Init slots journal) in
    let P : Option Line → Type 0 = λ l. BarredTo x (whole s x (ready_node outturn stops e x) e l).node s (whole s x (ready_node outturn stops e x) e l).shared in
    subst P (sym (init_refused s x slots journal used)) (barred_same x s b)
barred_init x s stops slots journal rises WithoutMemory b used may = barred_same x s b
barred_init x s stops slots journal rises Unpowered b used may = absurd (none_some line.VolumeInUse (refused_before_reading s x (service (Init slots journal))) (init_refused s x slots journal used) may.0)
barred_init x s stops slots journal rises (Cut outturn done begun cause) b used may = absurd (none_some line.VolumeInUse (refused_before_reading s x (service (Init slots journal))) (init_refused s x slots journal used) may.0)

-- a boot

pub quiet_powered : (outturn : Outturn) (stops : ℕ) (x : Node) → x.under_way ≡ None → powered outturn stops x ≡ (let z : Node = record x { calls = world.Power stops ∷ x.calls; under_way = None } in z)
quiet_powered outturn stops x e =
    let P : Option Act → Type 0 = λ u. powered outturn stops (record x { under_way = u }) ≡ (let z : Node = record x { calls = world.Power stops ∷ x.calls; under_way = None } in z) in
    subst P (sym e) (by outturn)
  where
    by : (a : Outturn) → powered a stops (record x { under_way = None }) ≡ (let z : Node = record x { calls = world.Power stops ∷ x.calls; under_way = None } in z)
    by Lost = refl
    by Taken = refl
    by (Half standing) = refl

-- without a volume, of a disk of which something is known, a boot finds none
no_boot : (x : Node) → IsBarred x → has_volume x ≡ false → x.unmade ≡ false → (l : Line) × (answers.bootable x ≡ Some l)
no_boot x b none made = by x.durable.volume refl
  where
    by : (v : Volume) → x.durable.volume ≡ v → (l : Line) × (answers.bootable x ≡ Some l)
    by Sound e = absurd (both_ways (has_volume x) none (ap (λ d. elim d [ Sound ↦ true | Faulty condition block ↦ false | world.Barred bar ↦ false | Unknown ↦ false ]) e))
    by (Faulty condition block) e =
        let P : Volume → Type 0 = λ v. answers.bootable (record x { durable = record x.durable { volume = v } }) ≡ Some (line.NoVolume x.name condition block) in
        (line.NoVolume x.name condition block, subst P (sym e) refl)
    by (world.Barred bar) e =
        let P : Volume → Type 0 = λ v. answers.bootable (record x { durable = record x.durable { volume = v } }) ≡ Some (answers.bar_line x.name bar) in
        (answers.bar_line x.name bar, subst P (sym e) refl)
    by Unknown e = absurd (both_ways x.unmade made (b.known e))

barred_boot : (x : Node) (s : Shared) (stops : ℕ) (e : Service) (rises : Cause → Type 0) (c : Choice) → IsBoot e → IsBarred x → has_volume x ≡ false → ServiceAllowed s stops x e rises c → BarredBy x s stops e c
barred_boot x s stops e rises (Whole outturn) boot b none may =
    let P : Node → Type 0 = λ y. BarredTo x (whole s x y e (refused_before_reading s x e)).node s (whole s x y e (refused_before_reading s x e)).shared in
    subst P (sym (ready_is outturn stops e x boot ∙ quiet_powered outturn stops x b.quiet)) (by (refused_before_reading s x e) refl)
  where
    y : Node
    y = record x { calls = world.Power stops ∷ x.calls; under_way = None }

    by : (l : Option Line) → refused_before_reading s x e ≡ l → BarredTo x (whole s x (let z : Node = record x { calls = world.Power stops ∷ x.calls; under_way = None } in z) e l).node s (whole s x (let z : Node = record x { calls = world.Power stops ∷ x.calls; under_way = None } in z) e l).shared
    by (Some l) h = barred_same x s b
    by None h =
        let z : Node = record x { calls = world.Power stops ∷ x.calls; under_way = None } in
        let n = no_boot x b none (boot.down s x h).1 in
        let P : Option Line → Type 0 = λ l. BarredTo x (steps.begun s z e l).node s (steps.begun s z e l).shared in
        subst P (sym (boot.reads s z ∙ n.1)) (record { named = refl; volume = refl; barred = record { down = b.down; quiet = refl; none = b.none; known = b.known }; shared = λ o fs p k. k })
barred_boot x s stops e rises WithoutMemory boot b none may = barred_same x s b
barred_boot x s stops e rises Unpowered boot b none may =
    let P : Bool → Type 0 = λ t. BarredTo x (steps.with_unknown_volume t (unpowered stops x)) s (occupied e s) in
    subst P (sym boot.spoils) (barred_used x (unpowered stops x) s s e (record { named = refl; volume = refl; barred = record { down = refl; quiet = b.quiet; none = b.none; known = b.known }; shared = λ o fs p h. h }))
barred_boot x s stops e rises (Cut outturn done begun cause) boot b none may =
    let y : Node = record x { calls = world.Power stops ∷ x.calls; under_way = None } in
    let P : Node → Type 0 = λ z. BarredTo x (cut s z e (rows_to_cut s z e) done begun cause).node s (cut s z e (rows_to_cut s z e) done begun cause).shared in
    let n = no_boot x b none (boot.down s x may.0).1 in
    let Q : Option Line → Type 0 = λ l. BarredTo x (cut s y e (rows_if l (e.rows s y)) done begun cause).node s (cut s y e (rows_if l (e.rows s y)) done begun cause).shared in
    let R : Node → Type 0 = λ z. BarredTo x z s (occupied e (let rs : List Row = [] in shared_after_rows (take done rs) s)) in
    let S : Shared → Type 0 = λ t. BarredTo x (world.fallen None y) s (occupied e t) in
    subst P (sym (ready_is outturn stops e x boot ∙ quiet_powered outturn stops x b.quiet)) (subst Q (sym (boot.reads s y ∙ n.1))
    (subst R (sym (nothing_cut done begun y)) (subst S (sym (nothing_shared done s)) (barred_used x (world.fallen None y) s s e (record { named = refl; volume = refl; barred = record { down = refl; quiet = refl; none = b.none; known = b.known }; shared = λ o fs p h. h })))))

pub barred_task : (x : Node) (n : List ℕ) (s : Shared) (stops : ℕ) (t : Task) (rises : Cause → Type 0) (c : Choice) → IsBarred x → has_volume x ≡ false → (((slots journal : ℕ) → t ≡ Serves (Init slots journal) → s.in_use ≡ true)) → TaskAllowed s stops x t rises c → BarredBy x s stops (task_service t) c
barred_task x n s stops (Serves (Init slots journal)) rises c b none used may = barred_init x s stops slots journal rises c b (used slots journal refl) may
barred_task x n s stops (Serves Boot) rises c b none used may = barred_boot x s stops (service Boot) rises c boot_is b none may
barred_task x n s stops (Serves (Create file bucket size form)) rises c b none used may = barred_plain x s stops (service (Create file bucket size form)) rises c (record { powers = refl; closing = refl; awake = refl }) b may
barred_task x n s stops (Serves (SetFile file setting)) rises c b none used may = barred_plain x s stops (service (SetFile file setting)) rises c (record { powers = refl; closing = refl; awake = refl }) b may
barred_task x n s stops (Serves (StartTrans label seconds)) rises c b none used may = barred_plain x s stops (service (StartTrans label seconds)) rises c (record { powers = refl; closing = refl; awake = refl }) b may
barred_task x n s stops (Serves (AddBranch label other new)) rises c b none used may = barred_plain x s stops (service (AddBranch label other new)) rises c (record { powers = refl; closing = refl; awake = refl }) b may
barred_task x n s stops (Serves (StartBranch label)) rises c b none used may = barred_plain x s stops (service (StartBranch label)) rises c (record { powers = refl; closing = refl; awake = refl }) b may
barred_task x n s stops (Serves (Records label file op)) rises c b none used may = barred_plain x s stops (service (Records label file op)) rises c (record { powers = refl; closing = refl; awake = refl }) b may
barred_task x n s stops (Serves (Direct file op)) rises c b none used may = barred_plain x s stops (service (Direct file op)) rises c (record { powers = refl; closing = refl; awake = refl }) b may
barred_task x n s stops (Serves (EndBranch label)) rises c b none used may = barred_plain x s stops (service (EndBranch label)) rises c (record { powers = refl; closing = refl; awake = refl }) b may
barred_task x n s stops (Serves (EndTrans label)) rises c b none used may = barred_plain x s stops (service (EndTrans label)) rises c (record { powers = refl; closing = refl; awake = refl }) b may
barred_task x n s stops (Serves (AbortTrans label)) rises c b none used may = barred_plain x s stops (service (AbortTrans label)) rises c (record { powers = refl; closing = refl; awake = refl }) b may
barred_task x n s stops (Serves (Inquire who)) rises c b none used may = barred_plain x s stops (service (Inquire who)) rises c (record { powers = refl; closing = refl; awake = refl }) b may
barred_task x n s stops (Serves (DeclareRm rm)) rises c b none used may = barred_plain x s stops (service (DeclareRm rm)) rises c (record { powers = refl; closing = refl; awake = refl }) b may
barred_task x n s stops (Serves (JoinRm label rm)) rises c b none used may = barred_plain x s stops (service (JoinRm label rm)) rises c (record { powers = refl; closing = refl; awake = refl }) b may
barred_task x n s stops (Serves (AckEvent who rm reply)) rises c b none used may = barred_plain x s stops (service (AckEvent who rm reply)) rises c (record { powers = refl; closing = refl; awake = refl }) b may
barred_task x n s stops (Serves (ForgetRm rm)) rises c b none used may = barred_plain x s stops (service (ForgetRm rm)) rises c (record { powers = refl; closing = refl; awake = refl }) b may
barred_task x n s stops (Serves (GetDti who)) rises c b none used may = barred_plain x s stops (service (GetDti who)) rises c (record { powers = refl; closing = refl; awake = refl }) b may
barred_task x n s stops (Serves LmcpShow) rises c b none used may = barred_plain x s stops (service LmcpShow) rises c (record { powers = refl; closing = refl; awake = refl }) b may
barred_task x n s stops (Serves LmcpDump) rises c b none used may = barred_plain x s stops (service LmcpDump) rises c (record { powers = refl; closing = refl; awake = refl }) b may
barred_task x n s stops (Serves (Dump file)) rises c b none used may = barred_plain x s stops (service (Dump file)) rises c (record { powers = refl; closing = refl; awake = refl }) b may
barred_task x n s stops (Serves DumpJournal) rises c b none used may = barred_plain x s stops (service DumpJournal) rises c (record { powers = refl; closing = refl; awake = refl }) b may
barred_task x n s stops (Serves (DumpImages file side)) rises c b none used may = barred_plain x s stops (service (DumpImages file side)) rises c (record { powers = refl; closing = refl; awake = refl }) b may
barred_task x n s stops (Serves (Backup file)) rises c b none used may = barred_plain x s stops (service (Backup file)) rises c (record { powers = refl; closing = refl; awake = refl }) b may
barred_task x n s stops (Serves (Recover file way)) rises c b none used may = barred_plain x s stops (service (Recover file way)) rises c (record { powers = refl; closing = refl; awake = refl }) b may
barred_task x n s stops (Serves (Fuse writes choice)) rises c b none used may = barred_fuse x s stops writes choice rises c b may
barred_task x n s stops (Serves Crash) rises c b none used may = barred_plain x s stops (service Crash) rises c (record { powers = refl; closing = refl; awake = refl }) b may
barred_task x n s stops (Serves (Clock now)) rises c b none used may = barred_clock x s stops now rises c b may
barred_task x n s stops Ticks rises c b none used may = barred_plain x s stops (task_service Ticks) rises c (record { powers = refl; closing = refl; awake = refl }) b may
barred_task x n s stops (Takes m) rises c b none used may = barred_plain x s stops (task_service (Takes m)) rises c (record { powers = refl; closing = refl; awake = refl }) b may
barred_task x n s stops (Hears m) rises c b none used may = barred_plain x s stops (task_service (Hears m)) rises c (record { powers = refl; closing = refl; awake = refl }) b may
barred_task x n s stops (LosesLink other) rises c b none used may = barred_plain x s stops (task_service (LosesLink other)) rises c (record { powers = refl; closing = refl; awake = refl }) b may
barred_task x n s stops RunsDown rises c b none used may = barred_plain x s stops (task_service RunsDown) rises c (record { powers = refl; closing = refl; awake = refl }) b may
barred_task x n s stops Restarts rises c b none used may = barred_boot x s stops (task_service Restarts) rises c restart_is b none may
