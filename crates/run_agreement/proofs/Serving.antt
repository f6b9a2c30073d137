-- Each task of a node is steps of the protocol.
use Rattle.std.specs.Prelude.{if◌then◌else◌, ◌||◌, ◌&&◌, not}
use Rattle.std.specs.Option.{option_and_then}
use Rattle.std.proofs.Common.{◌≡◌, ℕ, take, map, Bool, true, false, List, [], ◌∷◌, Option, Some, None, refl, ap, sym, subst, ◌∙◌}
use Rattle.std.proofs.lemmas.Bool.{both_ways}
use Rattle.vms_model.specs.Ids.{Id}
use Rattle.run_model.specs.transcript_model.Lines as line
use Rattle.run_model.specs.transcript_model.Lines.{Line, Cause}
use Rattle.commit_protocol.specs.Messages.{Name}
use Rattle.commit_protocol.specs.Table.{Key, Branch, first, is_first, find, find_serial}
use Rattle.commit_protocol.specs.Rows.{Event, row}
use Rattle.commit_protocol.specs.Allowed.{allowed, there_is}
use Rattle.commit_protocol.specs.World as protocol
use Rattle.commit_protocol.specs.World.{In, draws_none}
use Rattle.commit_protocol.specs.Opening.{Opening}
use Rattle.commit_protocol.specs.Standing.{BeginsNothing}
use Rattle.commit_protocol.proofs.Lists.{find_serial-key, same_key-true}
use Rattle.run_model.specs.log_laws.Slots.{IsFresh, branches_added}
use Rattle.run_model.specs.script_model.Statements as said
use Rattle.run_model.specs.World as world
use Rattle.run_model.specs.World.{Act, Arms, Clocks, ComesUp, Node, Shared, Label, File, Call, DiskCounts, Outturn, acted, find_branch, serial_labelled, powered, unpowered, tm_of}
use Rattle.run_model.specs.Operations.{first_of, refused_if}
use Rattle.run_model.specs.Answers as answers
use Rattle.run_model.specs.Answers.{Row, Service, Task, Serves, Ticks, Takes, Hears, LosesLink, RunsDown, Restarts, Telling, just, told_rows, task_service, service, refused_before_reading, powers, spoils, touches, unsettled, in_state, branch_labelled, branch_named, is_first_active, boot_rows, silent}
use Rattle.run_model.specs.Steps as steps
use Rattle.run_model.specs.Steps.{Choice, Whole, WithoutMemory, Unpowered, Cut, TaskEffect, node_after_rows, shared_after_rows, ready_node, occupied, whole, cut, rows_if, rows_to_cut, service_effect, task_effect, ServiceAllowed, TaskAllowed, act_begun}
use Rattle.run_agreement.specs.Seen.{Face}
use Rattle.run_agreement.specs.Following.{Faces, Follows}
use Rattle.run_agreement.proofs.Faces.{put_face, follows_same}
use Rattle.run_agreement.proofs.Rows.{cut_node, put_itself, rows_match}
use Rattle.run_agreement.proofs.Telling.{quiet_told}
use Rattle.run_agreement.proofs.Events.{Arrives, IsAt, IsUpAt, RowsGo, up_at, given_goes}
use Rattle.run_agreement.proofs.Drawing.{WholeGoes}
use Rattle.run_agreement.proofs.Changing.{AreUnseen, IsRowUnseen, IsUnseen, unseen_goes, creates_unseen, marks_unseen, branch_serial, branch_found}

-- What a node comes to, of worlds of the protocol of which this is known.
abbrev pub Known : Type 1
Known = protocol.World → Type 0

abbrev pub Anything : Known
Anything p = Unit {0}

abbrev pub NodeSimFor : Known → Opening → Name → Node → Shared → Node → Shared → Type 0
NodeSimFor K o n x s z t = (b : Bool) → (a : Bool) × ((fs : Faces) (f : Face) (p : protocol.World) → K p → IsAt o n x s a fs f p → Arrives o n b z t fs p)

abbrev pub WholeFor : Known → Opening → Name → List Row → Node → Shared → Type 0
WholeFor K o n rs x s = (b : Bool) (fs : Faces) (p : protocol.World) → K p → IsUpAt o n x s fs p → Arrives o n b (node_after_rows rs x) (shared_after_rows rs s) fs p

abbrev pub CutFor : Known → Opening → Name → List Row → Node → Shared → Type 0
CutFor K o n rs x s = (j : ℕ) (branches_added b : Bool) (fs : Faces) (p : protocol.World) → K p → IsUpAt o n x s fs p → Arrives o n b (cut_node rs j branches_added x) (shared_after_rows (take j rs) s) fs p

pub same_sim : (K : Known) (o : Opening) (n : Name) (x : Node) (s : Shared) → NodeSimFor K o n x s x s
same_sim K o n x s b = (b, λ fs f p k h. record { steps = []; face = f; is = h.is; follows = follows_same o fs (put_face n f fs) s p (put_itself n f fs h.found) h.follows; named = h.named; volume = h.volume })

pub follows_in_use : (o : Opening) (fs : Faces) (s : Shared) (used : Bool) (p : protocol.World) → Follows o fs s p → Follows o fs (record s { in_use = used }) p
follows_in_use o fs s used p h = record { rack = h.rack; nodes = h.nodes; sent = h.sent; accepted = h.accepted; read_only = h.read_only; labels = h.labels; settled = h.settled; given = h.given; back = h.back }

pub occupied_sim : (K : Known) (o : Opening) (n : Name) (x z : Node) (s t : Shared) (e : Service) → NodeSimFor K o n x s z t → NodeSimFor K o n x s z (occupied e t)
occupied_sim K o n x z s t e sim b =
    let q = sim b in (
      q.0,
      λ fs f p k h.
          let a = q.1 fs f p k h in
          record { steps = a.steps; face = a.face; is = a.is; follows = follows_in_use o (put_face n a.face fs) t (occupied e t).in_use (protocol.run a.steps p) a.follows; named = a.named; volume = a.volume },
    )

pub up_sim : (K : Known) (o : Opening) (n : Name) (x z : Node) (s t : Shared) → x.up ≡ true → ((b : Bool) (fs : Faces) (p : protocol.World) → K p → IsUpAt o n x s fs p → Arrives o n b z t fs p) → NodeSimFor K o n x s z t
up_sim K o n x z s t up goes b = (b, λ fs f p k h. goes b fs p k (up_at o n x s b fs f p up h))

-- Refusals.

pub first_none : (a b : Option Line) → first_of a b ≡ None → (a ≡ None) × (b ≡ None)
first_none None b e = (refl, e)
first_none (Some l) b e = absurd (let f : ⊥ = cc in f)

pub refused_none : (c : Bool) (l : Line) → refused_if c l ≡ None → c ≡ false
refused_none true l e = absurd (let f : ⊥ = cc in f)
refused_none false l e = refl

pub not_false : (c : Bool) → not c ≡ false → c ≡ true
not_false true e = refl
not_false false e = absurd (let f : true ≡ false = e in cc)

or_false : (c d : Bool) → d ≡ false → (c || d) ≡ true → c ≡ true
or_false true d e h = refl
or_false false d e h = absurd (both_ways d e h)

-- a node that serves such a service is up, and its own causes do not refuse it
pub serves_up : (s : Shared) (x : Node) (e : Service) → e.while_down ≡ false → refused_before_reading s x e ≡ None → (x.up ≡ true) × (e.refused_before_reading s x ≡ None)
serves_up s x e wd h =
    let q = first_none (refused_if (not (x.up || e.while_down)) line.NodeDown) (e.refused_before_reading s x) h in
    (or_false x.up e.while_down wd (not_false (x.up || e.while_down) (refused_none (not (x.up || e.while_down)) line.NodeDown q.0)), q.1)

-- A service that neither makes the disk run nor serves a node that is down.
pub record IsPlain (e : Service) : Type 0 where
  pub powers : powers e ≡ false
  pub closing : e.closing ≡ None
  pub awake : e.while_down ≡ false

pub plain_sim : (K : Known) (o : Opening) (n : Name) (x : Node) (s : Shared) (stops : ℕ) (e : Service) (rises : Cause → Type 0) (c : Choice) → IsPlain e
    → (x.up ≡ true → e.refused_before_reading s x ≡ None → e.refused_after_reading s x ≡ None → WholeFor K o n (e.rows s x) x s)
    → (touches e ≡ true → x.up ≡ true → e.refused_before_reading s x ≡ None → e.refused_after_reading s x ≡ None → CutFor K o n (e.rows s x) x s)
    → ServiceAllowed s stops x e rises c → NodeSimFor K o n x s (service_effect s stops x e c).node (service_effect s stops x e c).shared
plain_sim K o n x s stops e rises (Whole outturn) plain goes cuts may =
    let ready : ready_node outturn stops e x ≡ x = ap (λ b. if b then steps.with_unknown_volume (spoils e) (powered outturn stops x) else x) plain.powers in
    let P : Node → Type 0 = λ r. NodeSimFor K o n x s (whole s x r e (refused_before_reading s x e)).node (whole s x r e (refused_before_reading s x e)).shared in
    subst P (sym ready) (by (refused_before_reading s x e) refl)
  where
    succeeds : WholeFor K o n (e.rows s x) x s → x.up ≡ true → NodeSimFor K o n x s (steps.succeeded s x e).node (steps.succeeded s x e).shared
    succeeds go up =
        let z : Node = node_after_rows (e.rows s x) x in
        let t : Shared = shared_after_rows (e.rows s x) s in
        let P : Option Act → Type 0 = λ a. NodeSimFor K o n x s (steps.node_after a z) (occupied e (steps.shared_then a t)) in
        subst P (sym plain.closing) (occupied_sim K o n x z s t e (up_sim K o n x z s t up go))

    begins : (l : Option Line) → e.refused_after_reading s x ≡ l → refused_before_reading s x e ≡ None → NodeSimFor K o n x s (steps.begun s x e l).node (steps.begun s x e l).shared
    begins (Some l) q h = same_sim K o n x s
    begins None q h = let u = serves_up s x e plain.awake h in succeeds (goes u.0 u.1 q) u.0

    by : (l : Option Line) → refused_before_reading s x e ≡ l → NodeSimFor K o n x s (whole s x x e l).node (whole s x x e l).shared
    by (Some l) h = same_sim K o n x s
    by None h = begins (e.refused_after_reading s x) refl h
plain_sim K o n x s stops e rises WithoutMemory plain goes cuts may = same_sim K o n x s
plain_sim K o n x s stops e rises Unpowered plain goes cuts may = absurd (both_ways (powers e) plain.powers may.1)
plain_sim K o n x s stops e rises (Cut outturn done branches_added cause) plain goes cuts may =
    let ready : ready_node outturn stops e x ≡ x = ap (λ b. if b then steps.with_unknown_volume (spoils e) (powered outturn stops x) else x) plain.powers in
    let P : Node → Type 0 = λ r. NodeSimFor K o n x s (cut s r e (rows_to_cut s r e) done branches_added cause).node (cut s r e (rows_to_cut s r e) done branches_added cause).shared in
    let u = serves_up s x e plain.awake may.0 in
    subst P (sym ready) (by u.0 u.1 (e.refused_after_reading s x) refl)
  where
    by : x.up ≡ true → e.refused_before_reading s x ≡ None → (l : Option Line) → e.refused_after_reading s x ≡ l
        → NodeSimFor K o n x s (cut s x e (rows_if l (e.rows s x)) done branches_added cause).node (cut s x e (rows_if l (e.rows s x)) done branches_added cause).shared
    by up h None q = occupied_sim K o n x (cut_node (e.rows s x) done branches_added x) s (shared_after_rows (take done (e.rows s x)) s) e (up_sim K o n x (cut_node (e.rows s x) done branches_added x) s (shared_after_rows (take done (e.rows s x)) s) up (cuts may.1 up h q done branches_added))
    by up h (Some l) q =
        let none : List Row = [] in
        occupied_sim K o n x (cut_node none done branches_added x) s (shared_after_rows (take done none) s) e (up_sim K o n x (cut_node none done branches_added x) s (shared_after_rows (take done none) s) up (λ b fs p k a. (unseen_goes o n none x s tt).cut done branches_added b fs p a))

-- by rows that go
pub rows_sim : (o : Opening) (n : Name) (x : Node) (s : Shared) (stops : ℕ) (e : Service) (rises : Cause → Type 0) (c : Choice) → IsPlain e
    → (x.up ≡ true → e.refused_before_reading s x ≡ None → e.refused_after_reading s x ≡ None → RowsGo o n (e.rows s x) x s)
    → ServiceAllowed s stops x e rises c → NodeSimFor Anything o n x s (service_effect s stops x e c).node (service_effect s stops x e c).shared
rows_sim o n x s stops e rises c plain goes may = plain_sim Anything o n x s stops e rises c plain (λ up h q b fs p k a. (goes up h q).whole b fs p a) (λ t up h q j branches_added b fs p k a. (goes up h q).cut j branches_added b fs p a) may

-- where the disk is not used
pub unused_sim : (o : Opening) (n : Name) (x : Node) (s : Shared) (stops : ℕ) (e : Service) (rises : Cause → Type 0) (c : Choice) → IsPlain e → touches e ≡ false
    → (x.up ≡ true → e.refused_before_reading s x ≡ None → e.refused_after_reading s x ≡ None → WholeGoes o n (e.rows s x) x s)
    → ServiceAllowed s stops x e rises c → NodeSimFor Anything o n x s (service_effect s stops x e c).node (service_effect s stops x e c).shared
unused_sim o n x s stops e rises c plain unused goes may = plain_sim Anything o n x s stops e rises c plain (λ up h q b fs p k a. goes up h q b fs p a) (λ t up h q j branches_added b fs p k a. absurd (both_ways (touches e) unused t)) may

-- an event that draws nothing, by which no branch begins and none changes anything for the first time
pub event_goes : (o : Opening) (n : Name) (x : Node) (s : Shared) (e : Event) → draws_none e ≡ true → allowed (tm_of x) e ≡ true → branches_added e ≡ 0 → BeginsNothing e → IsFresh (tm_of x) e → RowsGo o n (told_rows s x (just e)) x s
event_goes o n x s e none may few quiet fresh = given_goes o n e (told_rows s x (just e)) x s none may few (λ fs p h. rows_match (row (tm_of x) e) [] x s (quiet_told e x h.told h.room quiet fresh))

-- Branches that labels name.

pub named_branch : (d : Option Branch) (holds : Branch → Bool) → unsettled d ≡ None → in_state holds d ≡ None → (b : Branch) × (d ≡ Some b) × (holds b ≡ true)
named_branch None holds u h = absurd (let f : ⊥ = cc in f)
named_branch (Some b) holds u h = (b, refl, not_false (holds b) (refused_none (not (holds b)) line.WrongState h))

pub labelled_found : (s : Shared) (x : Node) (name : List ℕ) (b : Branch) → branch_labelled s x name ≡ Some b → find_branch b.key.serial x.volatile.branches ≡ Some b
labelled_found s x name b e = go (serial_labelled x.name name s.labels) e
  where
    go : (d : Option Id) → option_and_then (λ serial. find_branch serial x.volatile.branches) d ≡ Some b → find_branch b.key.serial x.volatile.branches ≡ Some b
    go None h = absurd (let f : ⊥ = cc in f)
    go (Some serial) h = let P : Id → Type 0 = λ i. find_branch i x.volatile.branches ≡ Some b in subst P (sym (branch_serial serial x.volatile.branches b h)) h

pub serial_found : (x : Node) (b : Branch) → find_branch b.key.serial x.volatile.branches ≡ Some b → find_serial b.key.serial x.volatile.branches ≡ Some b
serial_found x b e = branch_found b.key.serial x.volatile.branches b e

pub first_found : (x : Node) (b : Branch) → find_branch b.key.serial x.volatile.branches ≡ Some b → is_first b ≡ true → find (first b.key.tid) x.volatile.branches ≡ Some b
first_found x b e one =
    let P : Key → Type 0 = λ k. find k x.volatile.branches ≡ Some b in
    subst P (same_key-true b.key (first b.key.tid) one) (find_serial-key b.key.serial x.volatile.branches b (serial_found x b e))

pub parts_true : (c d : Bool) → (c && d) ≡ true → (c ≡ true) × (d ≡ true)
parts_true true d h = (refl, h)
parts_true false d h = absurd (let f : false ≡ true = h in cc)

-- rows of the branch that a label names
pub branch_rows : (o : Opening) (n : Name) (s : Shared) (x : Node) (label : List ℕ) (holds : Branch → Bool) (does : Branch → List Row) → answers.unsettled_label s x label ≡ None → in_state holds (branch_labelled s x label) ≡ None
    → ((b : Branch) → find_branch b.key.serial x.volatile.branches ≡ Some b → holds b ≡ true → RowsGo o n (does b) x s) → RowsGo o n (answers.to_branch s x label does) x s
branch_rows o n s x label holds does u h goes =
    let q = named_branch (branch_labelled s x label) holds u h in
    let P : Option Branch → Type 0 = λ d. RowsGo o n (elim d [ Some b ↦ does b | None ↦ [] ]) x s in
    subst P (sym q.1) (goes q.0 (labelled_found s x label q.0 q.1) q.2)

pub branch_whole : (o : Opening) (n : Name) (s : Shared) (x : Node) (label : List ℕ) (holds : Branch → Bool) (does : Branch → List Row) → answers.unsettled_label s x label ≡ None → in_state holds (branch_labelled s x label) ≡ None
    → ((b : Branch) → branch_labelled s x label ≡ Some b → find_branch b.key.serial x.volatile.branches ≡ Some b → holds b ≡ true → WholeGoes o n (does b) x s) → WholeGoes o n (answers.to_branch s x label does) x s
branch_whole o n s x label holds does u h goes =
    let q = named_branch (branch_labelled s x label) holds u h in
    let P : Option Branch → Type 0 = λ d. WholeGoes o n (elim d [ Some b ↦ does b | None ↦ [] ]) x s in
    subst P (sym q.1) (goes q.0 q.1 (labelled_found s x label q.0 q.1) q.2)

pub there : (d : Option Branch) (b : Branch) (test : Branch → Bool) → d ≡ Some b → test b ≡ true → there_is d test ≡ true
there d b test e h = ap (λ z. there_is z test) e ∙ h

-- Rows of which nothing is seen.

pub shown_unseen : (A : Type 0) (xs : List A) (shown : A → Row) (x : Node) → ((y : A) → (shown y).act ≡ None) → AreUnseen (map shown xs) x
shown_unseen A [] shown x none = tt
shown_unseen A (y ∷ ys) shown x none =
    let P : Option Act → Type 0 = λ a. IsRowUnseen a x × AreUnseen (map shown ys) (steps.node_after a x) in
    subst P (sym (none y)) (tt, shown_unseen A ys shown x none)

pub on_free_unseen : (x : Node) (need : ℕ) (act : ℕ → Act) → ((start : ℕ) → IsUnseen (act start) x) → AreUnseen (answers.on_free x need act) x
on_free_unseen x need act each = (each (answers.start_of (world.lowest_free x need)), tt)

pub to_file_unseen : (x : Node) (file : List ℕ) (does : File → List Row) → ((f : File) → AreUnseen (does f) x) → AreUnseen (answers.to_file x file does) x
to_file_unseen x file does each = by (world.find_file file x.durable.directory)
  where
    by : (q : Option File) → AreUnseen (elim q [ Some f ↦ does f | None ↦ [] ]) x
    by None = tt
    by (Some f) = each f

pub sets_are_unseen : (x : Node) (file : List ℕ) (setting : said.Setting) → AreUnseen (answers.sets x file setting) x
sets_are_unseen x file said.RecoveryUnits = (marks_unseen file (world.ForUnits true) x, tt)
sets_are_unseen x file said.NoRecoveryUnits = (marks_unseen file (world.ForUnits false) x, tt)
sets_are_unseen x file (said.Images side blocks) = on_free_unseen x blocks (λ start. world.Marks file (world.BeginsImages side start blocks)) (λ start. marks_unseen file (world.BeginsImages side start blocks) x)
sets_are_unseen x file (said.NoImages side) = (marks_unseen file (world.EndsImages side) x, tt)

pub creates_are_unseen : (x : Node) (made : ℕ → File) (need : ℕ) → AreUnseen (answers.creates x made need) x
creates_are_unseen x made need = by (world.free_place x.durable.directory) (world.lowest_free x need)
  where
    by : (p : Option ℕ) (q : Option ℕ) → AreUnseen (elim p [ Some place ↦ elim q [ Some start ↦ record { act = Some (world.Creates place (made start)); lines = [] } ∷ [] | None ↦ [] ] | None ↦ [] ]) x
    by None q = tt
    by (Some place) None = tt
    by (Some place) (Some start) = (creates_unseen place (made start) x, tt)
