-- Events of one node are steps of the protocol.
use Rattle.std.specs.Prelude.{if◌then◌else◌, slice_get}
use Rattle.std.proofs.Common.{◌≡◌, ℕ, ◌+◌, ◌≤◌, take, length, Bool, true, false, List, [], ◌∷◌, ◌++◌, Option, Some, None, refl, ap, sym, subst, ◌∙◌, arith}
use Rattle.vms_model.specs.Ids.{Id}
use Rattle.commit_protocol.specs.Messages.{Name, Message}
use Rattle.commit_protocol.specs.Table as table
use Rattle.commit_protocol.specs.Table.{Key, Branch, Tm, child, find}
use Rattle.commit_protocol.specs.Rows.{Event, Got, row}
use Rattle.commit_protocol.specs.Allowed.{allowed}
use Rattle.commit_protocol.specs.World as protocol
use Rattle.commit_protocol.specs.World.{In, Step, Does, Stops, Crash, At, Comes, Given, StartTrans, AddBranch, StartBranch, happens, run, done, stopped, planned, comes, begins, plan, plan_if, tells_event, given, draws_none, draws, labelled, next_id, crashes, acts_all, tm_at, lost_after}
use Rattle.commit_protocol.specs.Agreement.{Gone, Running, Ready, phase, phase_of, view, Agrees}
use Rattle.commit_protocol.specs.Opening.{Opening, IsAgreeing, opened}
use Rattle.commit_protocol.proofs.Lists.{in_slice}
use Rattle.commit_protocol.proofs.Opened.{agreement_from}
use Rattle.commit_protocol.proofs.Running.{run-append}
use Rattle.run_model.specs.log_laws.Slots.{size}
use Rattle.run_model.proofs.log_laws.RowSlots.{row_size}
use Rattle.run_model.specs.World as world
use Rattle.run_model.specs.World.{Act, Node, Shared, acted, tm_of}
use Rattle.run_model.specs.Answers.{Row}
use Rattle.run_model.specs.Steps.{node_after_rows, shared_after_rows}
use Rattle.run_agreement.specs.Seen.{Face, IsFace, IsUpFace, IsDownFace, IsTold, raw, has_volume}
use Rattle.run_agreement.specs.Following.{Faces, Follows}
use Rattle.run_agreement.proofs.Faces.{put_face}
use Rattle.run_agreement.proofs.Rows.{standing, lost_all, lost_none, Match, rows_go, rows_told, rows_keep, rows_tm, cut_node, cut_goes, take_match}

-- a world of the protocol that is reached from images that agree
pub record IsReached (o : Opening) (p : protocol.World) : Type 0 where
  pub agrees : IsAgreeing o
  pub steps : List Step
  pub is : p ≡ run steps (opened o)

pub reached_on : (o : Opening) (p : protocol.World) (more : List Step) → IsReached o p → IsReached o (run more p)
reached_on o p more h = record { agrees = h.agrees; steps = h.steps ++ more; is = ap (run more) h.is ∙ sym (run-append h.steps more (opened o)) }

-- The protocol has steps from p to a world that shows what a node has become, and what nodes share.
pub record Arrives (o : Opening) (n : Name) (b : Bool) (z : Node) (t : Shared) (fs : Faces) (p : protocol.World) : Type 0 where
  pub steps : List Step
  pub face : Face
  pub is : IsFace b z face
  pub follows : Follows o (put_face n face fs) t (run steps p)
  pub named : z.name ≡ n
  pub volume : has_volume z ≡ true

-- the protocol has of a node what it should have
pub record IsAt (o : Opening) (n : Name) (x : Node) (s : Shared) (a : Bool) (fs : Faces) (f : Face) (p : protocol.World) : Type 0 where
  pub reached : IsReached o p
  pub follows : Follows o fs s p
  pub found : fs n ≡ Some f
  pub is : IsFace a x f
  pub named : x.name ≡ n
  pub volume : has_volume x ≡ true

-- Whatever turns out of the node's act under way in the later world, there is what turned out of it in the earlier one by which the protocol comes there.
abbrev pub NodeSim : Opening → Name → Node → Shared → Node → Shared → Type 0
NodeSim o n x s z t = (b : Bool) → (a : Bool) × ((fs : Faces) (f : Face) (p : protocol.World) → IsAt o n x s a fs f p → Arrives o n b z t fs p)

pub face_up : (b : Bool) (z : Node) (f : Face) → z.up ≡ true → IsUpFace z f → IsFace b z f
face_up b z f e h = let P : Bool → Type 0 = λ u. elim u [ true ↦ IsUpFace z f | false ↦ IsDownFace b z f ] in subst P (sym e) h

pub up_of_face : (b : Bool) (z : Node) (f : Face) → z.up ≡ true → IsFace b z f → IsUpFace z f
up_of_face b z f e h = let P : Bool → Type 0 = λ u. elim u [ true ↦ IsUpFace z f | false ↦ IsDownFace b z f ] in subst P e h

pub face_down : (b : Bool) (z : Node) (f : Face) → z.up ≡ false → IsDownFace b z f → IsFace b z f
face_down b z f e h = let P : Bool → Type 0 = λ u. elim u [ true ↦ IsUpFace z f | false ↦ IsDownFace b z f ] in subst P (sym e) h

pub down_of_face : (b : Bool) (z : Node) (f : Face) → z.up ≡ false → IsFace b z f → IsDownFace b z f
down_of_face b z f e h = let P : Bool → Type 0 = λ u. elim u [ true ↦ IsUpFace z f | false ↦ IsDownFace b z f ] in subst P e h

-- what the protocol has of a node that is up

pub record IsUpAt (o : Opening) (n : Name) (x : Node) (s : Shared) (fs : Faces) (p : protocol.World) : Type 0 where
  pub reached : IsReached o p
  pub follows : Follows o fs s p
  pub found : fs n ≡ Some (standing [] x)
  pub told : IsTold [] x
  pub room : size (tm_of x) ≤ length x.durable.log
  pub quiet : x.under_way ≡ None
  pub up : x.up ≡ true
  pub named : x.name ≡ n
  pub volume : has_volume x ≡ true

pub up_at : (o : Opening) (n : Name) (x : Node) (s : Shared) (a : Bool) (fs : Faces) (f : Face) (p : protocol.World) → x.up ≡ true → IsAt o n x s a fs f p → IsUpAt o n x s fs p
up_at o n x s a fs f p up h =
    let u = up_of_face a x f up h.is in
    record { reached = h.reached; follows = h.follows; found = h.found ∙ ap (λ (g : Face). Some g) (λ i. record { node = u.node i; settled = u.settled i }); told = u.told; room = u.room; quiet = u.quiet; up = up; named = h.named; volume = h.volume }

pub node_at : (o : Opening) (n : Name) (x : Node) (s : Shared) (fs : Faces) (p : protocol.World) → IsUpAt o n x s fs p → p.nodes n ≡ raw [] x
node_at o n x s fs p h = h.follows.nodes n (standing [] x) h.found

pub alive_at : (o : Opening) (n : Name) (x : Node) (s : Shared) (fs : Faces) (p : protocol.World) → IsUpAt o n x s fs p → (p.nodes n).up ≡ true
alive_at o n x s fs p h = ap (λ (y : protocol.Node). y.up) (node_at o n x s fs p h)

pub tm_is : (o : Opening) (n : Name) (x : Node) (s : Shared) (fs : Faces) (p : protocol.World) → IsUpAt o n x s fs p → tm_at p n ≡ tm_of x
tm_is o n x s fs p h = let e = node_at o n x s fs p h in λ i. record { node = sym h.named i; table = (e i).table; records = (e i).records }

pub id_is : (o : Opening) (n : Name) (x : Node) (s : Shared) (fs : Faces) (p : protocol.World) → IsUpAt o n x s fs p → next_id p n ≡ world.next_id x
id_is o n x s fs p h = let e = node_at o n x s fs p h in λ i. record { node = sym h.named i; boot = (e i).boot; seq = (e i).seq + 1 }

-- the id that a node draws next is no branch's
pub next_is_new : (o : Opening) (n : Name) (x : Node) (s : Shared) (fs : Faces) (p : protocol.World) → IsUpAt o n x s fs p → (t : Id) → find (child t (world.next_id x)) x.volatile.branches ≡ None
next_is_new o n x s fs p h t = go (find k x.volatile.branches) refl
  where
    k : Key
    k = child t (world.next_id x)

    node : p.nodes n ≡ raw [] x
    node = node_at o n x s fs p h

    agrees : Agrees (view p)
    agrees = let P : protocol.World → Type 0 = λ q. Agrees (view q) in subst P (sym h.reached.is) (agreement_from o h.reached.agrees h.reached.steps)

    seen : (view p).at k ≡ find k x.volatile.branches
    seen = ap (λ m. find k (p.nodes m).table) h.named ∙ ap (λ (y : protocol.Node). find k y.table) node

    status : (p.nodes x.name).seq ≡ x.volatile.drawn
    status = ap (λ m. (p.nodes m).seq) h.named ∙ ap (λ (y : protocol.Node). y.seq) node

    boot : x.durable.boot ≡ (p.nodes x.name).boot
    boot = sym (ap (λ m. (p.nodes m).boot) h.named ∙ ap (λ (y : protocol.Node). y.boot) node)

    awake : (p.nodes x.name).up ≡ true
    awake = ap (λ m. (p.nodes m).up) h.named ∙ ap (λ (y : protocol.Node). y.up) node

    there : (d : Branch) → find k x.volatile.branches ≡ Some d → phase ((view p).at k) ≡ Gone → ⊥
    there d e g = by d.state (sym (ap phase (seen ∙ e)) ∙ g)
      where
        by : (st : table.State) → phase_of st ≡ Gone → ⊥
        by table.Joining f = (let z : Running ≡ Gone = f in cc)
        by table.Active f = (let z : Running ≡ Gone = f in cc)
        by table.Ending f = (let z : Running ≡ Gone = f in cc)
        by table.Voting f = (let z : Running ≡ Gone = f in cc)
        by table.Prepared f = (let z : Ready ≡ Gone = f in cc)

    go : (d : Option Branch) → find k x.volatile.branches ≡ d → d ≡ None
    go None e = refl
    go (Some d) e =
        let old = agrees.ids.at k (there d e) in
        let least : x.volatile.drawn + 1 ≤ (p.nodes x.name).seq = old.serial.seq awake boot in
        let P : ℕ → Type 0 = λ m. x.volatile.drawn + 1 ≤ m in
        let less : x.volatile.drawn + 1 ≤ x.volatile.drawn = subst P status least in
        absurd (omega arith)

-- a plan is done, or stopped, where its node is up

pub done_is : (p base : protocol.World) (n : Name) (todo : List table.Act) → (p.nodes n).up ≡ true → done p (plan n base todo) ≡ acts_all n todo base
done_is p base n todo alive = ap (λ b. if b then acts_all n todo base else p) alive

pub stopped_is : (p base : protocol.World) (n : Name) (j : ℕ) (todo : List table.Act) → (p.nodes n).up ≡ true → stopped p j (plan n base todo) ≡ crashes n (acts_all n (take j todo) base)
stopped_is p base n j todo alive = ap (λ b. if b then crashes n (acts_all n (take j todo) base) else p) alive

-- what is planned at an event that draws nothing
pub given_is : (n : Name) (p : protocol.World) (e : Event) (tm : Tm) → draws_none e ≡ true → tm_at p n ≡ tm → allowed tm e ≡ true → planned p (At n (Given e)) ≡ plan n p (row tm e)
given_is n p e tm none is may = ap (λ b. given b n p e) none ∙ (ap (λ b. plan_if b n p p e) (ap (λ t. allowed t e) is ∙ may) ∙ ap (λ t. plan n p (row t e)) is)

pub comes_is : (which : ℕ) (p : protocol.World) (m : Message) (tm : Tm) → slice_get p.sent which ≡ Some m → tm_at p m.to ≡ tm → planned p (Comes which) ≡ plan m.to p (row tm (Got m))
comes_is which p m tm at is = ap (comes p) at ∙ ap (λ t. plan m.to p (row t (Got m))) is

-- What rows come to, whole and cut.

-- rows at a node that is up are one step, whole
pub whole_arrives : (o : Opening) (n : Name) (b : Bool) (rs : List Row) (todo : List table.Act) (st : Step) (x : Node) (s : Shared) (fs : Faces) (p base : protocol.World) → Match rs todo [] x → Follows o fs s base → fs n ≡ Some (standing [] x) → IsTold [] x → x.up ≡ true → x.under_way ≡ None → x.name ≡ n → has_volume x ≡ true
    → size (table.after todo (tm_of x)) ≤ length x.durable.log → happens p st ≡ acts_all n todo base → Arrives o n b (node_after_rows rs x) (shared_after_rows rs s) fs p
whole_arrives o n b rs todo st x s fs p base match h found told up quiet named volume room is =
    let z : Node = node_after_rows rs x in
    let k = rows_keep rs todo [] x match in
    let none : lost_all todo [] ≡ [] = lost_none todo in
    let P : List Key → Type 0 = λ ls. IsTold ls z in
    let Q : ℕ → Type 0 = λ m. size (tm_of z) ≤ m in
    let R : Tm → Type 0 = λ t. size t ≤ length x.durable.log in
    let F : protocol.World → Type 0 = λ q. Follows o (put_face n (standing (lost_all todo []) z) fs) (shared_after_rows rs s) q in
    record {
      steps = st ∷ [];
      face = standing (lost_all todo []) z;
      is = face_up b z (standing (lost_all todo []) z) (k.up ∙ up) (record {
        node = ap (λ ls. raw ls z) none;
        settled = refl;
        told = subst P none (rows_told rs todo [] x match told);
        room = subst Q (sym k.slots) (subst R (sym (rows_tm rs todo [] x match)) room);
        quiet = k.under_way ∙ quiet;
      });
      follows = subst F (sym is) (rows_go o n rs todo [] x fs s base match h found);
      named = k.name ∙ named;
      volume = k.volume ∙ volume;
    }

-- and cut
pub cut_arrives : (o : Opening) (n : Name) (b : Bool) (rs : List Row) (todo : List table.Act) (j : ℕ) (begun : Bool) (st : ℕ → Step) (x : Node) (s : Shared) (fs : Faces) (p base : protocol.World) → Match rs todo [] x → Follows o fs s base → fs n ≡ Some (standing [] x) → IsTold [] x → x.name ≡ n → has_volume x ≡ true
    → ((i : ℕ) → happens p (st i) ≡ crashes n (acts_all n (take i todo) base)) → Arrives o n b (cut_node rs j begun x) (shared_after_rows (take j rs) s) fs p
cut_arrives o n b rs todo j begun st x s fs p base match h found told named volume is =
    let k = rows_keep (take j rs) (take j todo) [] x (take_match j rs todo [] x match) in
    let c = cut_goes o n b rs todo j begun [] x fs s base match told h found in
    let F : protocol.World → Type 0 = λ q. Follows o (put_face n c.fell.face fs) (shared_after_rows (take j rs) s) q in
    record { steps = st c.done ∷ []; face = c.fell.face; is = face_down b (cut_node rs j begun x) c.fell.face refl c.fell.is; follows = subst F (sym (is c.done)) c.fell.follows; named = k.name ∙ named; volume = k.volume ∙ volume }

-- What rows of a node come to, done whole or cut.
pub record RowsGo (o : Opening) (n : Name) (rs : List Row) (x : Node) (s : Shared) : Type 0 where
  pub whole : (b : Bool) (fs : Faces) (p : protocol.World) → IsUpAt o n x s fs p → Arrives o n b (node_after_rows rs x) (shared_after_rows rs s) fs p
  pub cut : (j : ℕ) (begun b : Bool) (fs : Faces) (p : protocol.World) → IsUpAt o n x s fs p → Arrives o n b (cut_node rs j begun x) (shared_after_rows (take j rs) s) fs p

-- the size after a row by which no branch begins
pub fits_after : (o : Opening) (n : Name) (x : Node) (s : Shared) (fs : Faces) (p : protocol.World) (e : Event) → IsUpAt o n x s fs p → Rattle.run_model.specs.log_laws.Slots.branches_added e ≡ 0 → size (table.after (row (tm_of x) e) (tm_of x)) ≤ length x.durable.log
fits_after o n x s fs p e h none =
    let one = row_size (tm_of x) e h.told.apart in
    let P : ℕ → Type 0 = λ m. size (table.after (row (tm_of x) e) (tm_of x)) ≤ size (tm_of x) + m in
    let two : size (table.after (row (tm_of x) e) (tm_of x)) ≤ size (tm_of x) + 0 = subst P none one in
    let r = h.room in
    omega arith

-- an event that draws nothing
pub given_goes : (o : Opening) (n : Name) (e : Event) (rs : List Row) (x : Node) (s : Shared) → draws_none e ≡ true → allowed (tm_of x) e ≡ true → Rattle.run_model.specs.log_laws.Slots.branches_added e ≡ 0
    → ((fs : Faces) (p : protocol.World) → IsUpAt o n x s fs p → Match rs (row (tm_of x) e) [] x) → RowsGo o n rs x s
given_goes o n e rs x s none may few match = record {
  whole = λ b fs p h.
      let is : happens p (Does (At n (Given e))) ≡ acts_all n (row (tm_of x) e) p =
      ap (done p) (given_is n p e (tm_of x) none (tm_is o n x s fs p h) may) ∙ done_is p p n (row (tm_of x) e) (alive_at o n x s fs p h) in
      whole_arrives o n b rs (row (tm_of x) e) (Does (At n (Given e))) x s fs p p (match fs p h) h.follows h.found h.told h.up h.quiet h.named h.volume (fits_after o n x s fs p e h few) is;
  cut = λ j begun b fs p h.
      cut_arrives o n b rs (row (tm_of x) e) j begun (λ i. Stops i (At n (Given e))) x s fs p p (match fs p h) h.follows h.found h.told h.named h.volume
      (λ i. ap (stopped p i) (given_is n p e (tm_of x) none (tm_is o n x s fs p h) may) ∙ stopped_is p p n i (row (tm_of x) e) (alive_at o n x s fs p h));
}

-- a message comes that was sent
pub comes_whole : (o : Opening) (m : Message) (b : Bool) (rs : List Row) (x : Node) (s : Shared) (fs : Faces) (p : protocol.World) → In m p.sent → IsUpAt o m.to x s fs p → Match rs (row (tm_of x) (Got m)) [] x → Arrives o m.to b (node_after_rows rs x) (shared_after_rows rs s) fs p
comes_whole o m b rs x s fs p sent h match =
    let at = in_slice p.sent m sent in
    let n : Name = m.to in
    let is : happens p (Does (Comes at.0)) ≡ acts_all n (row (tm_of x) (Got m)) p =
    ap (done p) (comes_is at.0 p m (tm_of x) at.1 (tm_is o n x s fs p h)) ∙ done_is p p n (row (tm_of x) (Got m)) (alive_at o n x s fs p h) in
    whole_arrives o n b rs (row (tm_of x) (Got m)) (Does (Comes at.0)) x s fs p p match h.follows h.found h.told h.up h.quiet h.named h.volume (fits_after o n x s fs p (Got m) h refl) is

pub comes_cut : (o : Opening) (m : Message) (j : ℕ) (begun b : Bool) (rs : List Row) (x : Node) (s : Shared) (fs : Faces) (p : protocol.World) → In m p.sent → IsUpAt o m.to x s fs p → Match rs (row (tm_of x) (Got m)) [] x → Arrives o m.to b (cut_node rs j begun x) (shared_after_rows (take j rs) s) fs p
comes_cut o m j begun b rs x s fs p sent h match =
    let at = in_slice p.sent m sent in
    let n : Name = m.to in
    cut_arrives o n b rs (row (tm_of x) (Got m)) j begun (λ i. Stops i (Comes at.0)) x s fs p p match h.follows h.found h.told h.named h.volume
    (λ i. ap (stopped p i) (comes_is at.0 p m (tm_of x) at.1 (tm_is o n x s fs p h)) ∙ stopped_is p p n i (row (tm_of x) (Got m)) (alive_at o n x s fs p h))

pub comes_goes : (o : Opening) (m : Message) (rs : List Row) (x : Node) (s : Shared) → ((fs : Faces) (p : protocol.World) → IsUpAt o m.to x s fs p → In m p.sent) → ((fs : Faces) (p : protocol.World) → IsUpAt o m.to x s fs p → Match rs (row (tm_of x) (Got m)) [] x) → RowsGo o m.to rs x s
comes_goes o m rs x s sent match = record {
  whole = λ b fs p h. comes_whole o m b rs x s fs p (sent fs p h) h (match fs p h);
  cut = λ j begun b fs p h. comes_cut o m j begun b rs x s fs p (sent fs p h) h (match fs p h);
}
