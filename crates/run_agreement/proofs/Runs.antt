-- Statements and whole transcripts are runs of the protocol.
use Rattle.std.specs.Prelude.{if◌then◌else◌}
use Rattle.std.specs.Str.{bytes_eq}
use Rattle.std.proofs.Common.{◌≡◌, ℕ, zero, suc, Bool, true, false, List, [], ◌∷◌, ◌++◌, Option, Some, None, ◌⊎◌, inl, inr, refl, ap, sym, subst, ◌∙◌}
use Rattle.std.proofs.lemmas.Bool.{both_ways, cases_Bool}
use Rattle.vms_model.specs.Ids.{Id}
use Rattle.run_model.specs.transcript_model.Lines as line
use Rattle.run_model.specs.transcript_model.Lines.{Line, Cause}
use Rattle.run_model.specs.script_model.Statements as said
use Rattle.run_model.specs.script_model.Statements.{Statement, At, Deliver, LinkDown, Settle, Request, Init, Boot, Clock, Reading, Blank, Says, Bad}
use Rattle.commit_protocol.specs.Messages.{Name, Message}
use Rattle.commit_protocol.specs.Table.{Branch, coordinator_of}
use Rattle.commit_protocol.specs.World as protocol
use Rattle.commit_protocol.specs.World.{In, Step, run}
use Rattle.commit_protocol.specs.Opening.{Opening}
use Rattle.commit_protocol.proofs.Lists.{cases_name, slice_in}
use Rattle.commit_protocol.proofs.Running.{run-append}
use Rattle.run_model.specs.World.{World, Node, Shared, DiskCounts, find_node}
use Rattle.run_model.specs.Answers.{Task, Serves, Ticks, Takes, Hears, LosesLink, RunsDown, Restarts}
use Rattle.run_model.specs.Steps.{Choice, TaskEffect, task_effect, TaskAllowed}
use Rattle.run_model.specs.Statements as statements
use Rattle.run_model.specs.Statements.{Part, Does, Asks, PartEffect, Question, Heard, Unanswered, Doubtful, Onward, Then, Parts, Phase, Phases, Finished, Begins, stops_at, put_into, done_at, part_effect, question_effect, question, asking, asked, answer_of, Allowed, AllowedOf, RoseAt, is_up, where_up, message_at, delivery, restarts_of, run_downs_of, questions_of, all_questions, phases_at, phases_of, refused_at_once, begun_with}
use Rattle.run_agreement.specs.Seen.{has_volume}
use Rattle.run_agreement.specs.Following.{Shows}
use Rattle.run_agreement.proofs.Found.{bytes_same}
use Rattle.run_agreement.proofs.Events.{reached_on}
use Rattle.run_agreement.proofs.Tasks.{Suits, hears_sim}
use Rattle.run_agreement.proofs.Barred.{barred_task}
use Rattle.run_agreement.proofs.Found.{name_found, faces_without}
use Rattle.run_agreement.proofs.Parts.{WorldSim, sim_same, sim_on, sim_to, sim_disks, lifted, NoVolumeMade, does_sim, AllUp, asking_is, question_steps}
use Rattle.run_agreement.proofs.Going.{Moves, IsUp, restart_moves, done_moves, run_down_effect, hears_effect}

-- The question of a prepared branch, where all nodes are up.

pub heard_sim : (o : Opening) (w : World) (n : Name) (serial : Id) (b : Branch) (y : Node) (m : Message) (after : List DiskCounts) (c : Choice) → AllUp w → asking w n serial ≡ Some b → find_node (coordinator_of b.key) w.nodes ≡ Some y → answer_of y b.key ≡ Some m
    → AllowedOf w after c (Heard m) → WorldSim o w (question_effect w c (Heard m)).world
heard_sim o w n serial b y m after c ups asks fy answers may = by (find_node m.to w.nodes) refl may
  where
    hearing : (z : Node) → find_node m.to w.nodes ≡ Some z → TaskAllowed w.shared (stops_at m.to w) z (Hears m) (λ cause. RoseAt w m.to cause after) c → WorldSim o w (put_into w m.to (task_effect w.shared (stops_at m.to w) z (Hears m) c)).world
    hearing z fz allowed r =
        let e : TaskEffect = task_effect w.shared (stops_at m.to w) z (Hears m) c in
        let later = lifted (λ p. In m p.sent) o w m.to z e.node e.shared fz (λ v. hears_sim o m z w.shared (stops_at m.to w) (λ cause. RoseAt w m.to cause after) c allowed)
        (λ v o2 r2 fs p are h.
        let b2 = (are.without m.to z fz v).1 in
        let to = barred_task z m.to w.shared (stops_at m.to w) (Hears m) (λ cause. RoseAt w m.to cause after) c b2 v (λ slots journal q. absurd (let f : ⊥ = cc in f)) allowed in
        (faces_without r2 m.to e.node z w.nodes fs are fz v (to.named ∙ name_found m.to w.nodes z fz) (to.volume ∙ v) to.barred, to.shared o2 fs p h)) r in (
          later.0,
          λ p k reached h.
              let sound : (x : Node) (i : Name) → find_node i w.nodes ≡ Some x → has_volume x ≡ true = λ x i f. elim (cases_Bool (has_volume x)) [
                | inl v ↦ v
                | inr v ↦ absurd (both_ways x.up (h.are.without i x f v).1.down (ups i x f))
              ] in
              let q = question_steps o w n serial b y m later.0 p ups (asking_is w n serial b asks) fy answers reached h sound in
              let a = later.1 (run q.0 p) q.1.0 (reached_on o p q.0 reached) q.1.1 in
              let P : protocol.World → Type 0 = λ u. Shows o r (put_into w m.to (task_effect w.shared (stops_at m.to w) z (Hears m) c)).world u in
              (q.0 ++ a.0, subst P (sym (run-append q.0 a.0 p)) a.1),
        )

    by : (d : Option Node) → find_node m.to w.nodes ≡ d → (let a : Type 0 = elim d [ Some z ↦ TaskAllowed w.shared (stops_at m.to w) z (Hears m) (λ cause. RoseAt w m.to cause after) c | None ↦ Unit {0} ] in a)
        → WorldSim o w (let e : PartEffect = elim d [ Some z ↦ put_into w m.to (task_effect w.shared (stops_at m.to w) z (Hears m) c) | None ↦ statements.no_node w ] in e).world
    by None e k = sim_same o w
    by (Some z) e k = hearing z e k

pub asks_sim : (o : Opening) (w : World) (n : Name) (serial : Id) (after : List DiskCounts) (c : Choice) → AllUp w → Allowed w (Asks n serial) after c → WorldSim o w (part_effect w (Asks n serial) c).world
asks_sim o w n serial after c ups may = by (asking w n serial) refl may
  where
    answered : (b : Branch) (y : Node) → asking w n serial ≡ Some b → find_node (coordinator_of b.key) w.nodes ≡ Some y → (d : Option Message) → answer_of y b.key ≡ d
        → (let a : Type 0 = AllowedOf w after c (elim d [ Some m ↦ Heard m | None ↦ Unanswered ]) in a) → WorldSim o w (question_effect w c (elim d [ Some m ↦ Heard m | None ↦ Unanswered ])).world
    answered b y e f None g k = sim_same o w
    answered b y e f (Some m) g k = heard_sim o w n serial b y m after c ups e f g k

    coordinator : (b : Branch) → asking w n serial ≡ Some b → (d : Option Node) → find_node (coordinator_of b.key) w.nodes ≡ d
        → AllowedOf w after c (elim d [ Some y ↦ elim (answer_of y b.key) [ Some m ↦ Heard m | None ↦ Unanswered ] | None ↦ Doubtful b.key ])
        → WorldSim o w (question_effect w c (elim d [ Some y ↦ elim (answer_of y b.key) [ Some m ↦ Heard m | None ↦ Unanswered ] | None ↦ Doubtful b.key ])).world
    coordinator b e None f k = sim_same o w
    coordinator b e (Some y) f k = answered b y e f (answer_of y b.key) refl k

    by : (d : Option Branch) → asking w n serial ≡ d → AllowedOf w after c (elim d [ Some b ↦ asked w b.key | None ↦ Unanswered ]) → WorldSim o w (question_effect w c (elim d [ Some b ↦ asked w b.key | None ↦ Unanswered ])).world
    by None e k = sim_same o w
    by (Some b) e k = coordinator b e (find_node (coordinator_of b.key) w.nodes) refl k

-- Parts one after another.

-- what is known of the parts to come and of the world, and kept by each part with which the statement does not end
pub record Carries (o : Opening) (after : List DiskCounts) (P : List Part → World → Type 0) : Type 0 where
  pub sim : (p : Part) (ps : List Part) (w : World) (c : Choice) → P (p ∷ ps) w → Allowed w p after c → WorldSim o w (part_effect w p c).world
  pub keep : (p : Part) (ps : List Part) (w : World) (c : Choice) → P (p ∷ ps) w → Allowed w p after c → (part_effect w p c).ends ≡ false → P ps (part_effect w p c).world

pub parts_sim : (o : Opening) (after : List DiskCounts) (P : List Part → World → Type 0) (more : Onward) → Carries o after P → ((u : World) (given answer : Line) (lines : List Line) (v : World) → P [] u → more u given lines answer v → WorldSim o u v)
    → (ps : List Part) (w : World) (given : Line) (lines : List Line) (answer : Line) (v : World) → P ps w → Parts ps after more w given lines answer v → WorldSim o w v
parts_sim o after P more carries onward [] w given lines answer v k h = onward w given answer lines v k h
parts_sim o after P more carries onward (p ∷ ps) w given lines answer v k h =
    let e : PartEffect = part_effect w p h.0 in
    go e.ends refl h.2 (λ rest m j. parts_sim o after P more carries onward ps e.world e.answer rest answer v m j)
  where
    go : (b : Bool) → (part_effect w p h.0).ends ≡ b
        → (let t : Type 0 = elim b [
          | true ↦ (lines ≡ (part_effect w p h.0).lines) × (answer ≡ (part_effect w p h.0).answer) × (v ≡ (part_effect w p h.0).world)
          | false ↦ (rest : List Line) × (lines ≡ (part_effect w p h.0).lines ++ rest) × Parts ps after more (part_effect w p h.0).world (part_effect w p h.0).answer rest answer v
        ] in t)
        → ((rest : List Line) → P ps (part_effect w p h.0).world → Parts ps after more (part_effect w p h.0).world (part_effect w p h.0).answer rest answer v → WorldSim o (part_effect w p h.0).world v) → WorldSim o w v
    go true e t rec = sim_to o w (part_effect w p h.0).world v t.2 (carries.sim p ps w h.0 k h.1)
    go false e t rec = sim_on o w (part_effect w p h.0).world v (carries.sim p ps w h.0 k h.1) (rec t.0 (carries.keep p ps w h.0 k h.1 e) t.2)

-- nothing more
pub finished_sim : (o : Opening) (u : World) (given answer : Line) (lines : List Line) (v : World) → Finished u given lines answer v → WorldSim o u v
finished_sim o u given answer lines v h = sim_to o u u v h.2 (sim_same o u)

-- Tasks that suit.

abbrev pub IsEasy : Part → Shared → Type 0
IsEasy (Does n t) s = Suits t n s × NoVolumeMade t s
IsEasy (Asks n serial) s = ⊥

-- at most one part, which suits
abbrev pub OneEasy : List Part → World → Type 0
OneEasy [] w = Unit {0}
OneEasy (p ∷ []) w = IsEasy p w.shared
OneEasy (p ∷ q ∷ ps) w = ⊥

easy_sim : (o : Opening) (w : World) (p : Part) (after : List DiskCounts) (c : Choice) → IsEasy p w.shared → Allowed w p after c → WorldSim o w (part_effect w p c).world
easy_sim o w (Does n t) after c easy may = does_sim o w n t after c easy.0 easy.1 may
easy_sim o w (Asks n serial) after c easy may = absurd easy

one_carries : (o : Opening) (after : List DiskCounts) → Carries o after OneEasy
one_carries o after = record {
  sim = sim;
  keep = keep;
}
  where
    sim : (p : Part) (ps : List Part) (w : World) (c : Choice) → OneEasy (p ∷ ps) w → Allowed w p after c → WorldSim o w (part_effect w p c).world
    sim p [] w c k may = easy_sim o w p after c k may
    sim p (q ∷ ps) w c k may = absurd k

    keep : (p : Part) (ps : List Part) (w : World) (c : Choice) → OneEasy (p ∷ ps) w → Allowed w p after c → (part_effect w p c).ends ≡ false → OneEasy ps (part_effect w p c).world
    keep p [] w c k may e = tt
    keep p (q ∷ ps) w c k may e = absurd k

-- a phase of at most one part, and what comes behind it
one_phase : (o : Opening) (after : List DiskCounts) (more : Onward) → ((u : World) (given answer : Line) (lines : List Line) (v : World) → more u given lines answer v → WorldSim o u v)
    → (ps : List Part) (w : World) (given : Line) (lines : List Line) (answer : Line) (v : World) → OneEasy ps w → Parts ps after more w given lines answer v → WorldSim o w v
one_phase o after more onward ps w given lines answer v k h = parts_sim o after OneEasy more (one_carries o after) (λ u g a ls x t j. onward u g a ls x j) ps w given lines answer v k h

easy_where_up : (n : Name) (t : Task) (w : World) → IsEasy (Does n t) w.shared → OneEasy (where_up n t w) w
easy_where_up n t w easy = go (is_up n w)
  where
    go : (b : Bool) → OneEasy (if b then Does n t ∷ [] else []) w
    go true = easy
    go false = tt

-- A request to a node.

-- it makes no volume
abbrev pub MakesNone : Request → Shared → Type 0
MakesNone request s = (slots journal : ℕ) → request ≡ Init slots journal → s.in_use ≡ true

suits_request : (request : Request) (n : Name) (s : Shared) → MakesNone request s → Suits (Serves request) n s
suits_request (Init slots journal) n s h = h slots journal refl
suits_request Boot n s h = tt
suits_request (said.Create file bucket size form) n s h = tt
suits_request (said.SetFile file setting) n s h = tt
suits_request (said.StartTrans label seconds) n s h = tt
suits_request (said.AddBranch label other new) n s h = tt
suits_request (said.StartBranch label) n s h = tt
suits_request (said.Records label file op) n s h = tt
suits_request (said.Direct file op) n s h = tt
suits_request (said.EndBranch label) n s h = tt
suits_request (said.EndTrans label) n s h = tt
suits_request (said.AbortTrans label) n s h = tt
suits_request (said.Inquire who) n s h = tt
suits_request (said.DeclareRm rm) n s h = tt
suits_request (said.JoinRm label rm) n s h = tt
suits_request (said.AckEvent who rm reply) n s h = tt
suits_request (said.ForgetRm rm) n s h = tt
suits_request (said.GetDti who) n s h = tt
suits_request said.LmcpShow n s h = tt
suits_request said.LmcpDump n s h = tt
suits_request (said.Dump file) n s h = tt
suits_request said.DumpJournal n s h = tt
suits_request (said.DumpImages file side) n s h = tt
suits_request (said.Backup file) n s h = tt
suits_request (said.Recover file way) n s h = tt
suits_request (said.Fuse writes choice) n s h = tt
suits_request said.Crash n s h = tt
suits_request (Clock now) n s h = tt

easy_request : (request : Request) (n : Name) (s : Shared) → MakesNone request s → IsEasy (Does n (Serves request)) s
easy_request request n s h = (suits_request request n s h, λ slots journal e. h slots journal (let q : request ≡ Init slots journal = cc in q))

at_sim : (o : Opening) (n : Name) (request : Request) (after : List DiskCounts) (w : World) (given : Line) (lines : List Line) (answer : Line) (v : World) → MakesNone request w.shared → Phases (phases_at n request) after w given lines answer v → WorldSim o w v
at_sim o n request after w given lines answer v makes h = by request makes h
  where
    single : (q : Request) → MakesNone q w.shared → Phases ((λ u. Does n (Serves q) ∷ []) ∷ []) after w given lines answer v → WorldSim o w v
    single q m k = one_phase o after (Phases [] after) (λ u g a ls x j. finished_sim o u g a ls x j) (Does n (Serves q) ∷ []) w given lines answer v (easy_request q n w.shared m) k

    by : (q : Request) → MakesNone q w.shared → Phases (phases_at n q) after w given lines answer v → WorldSim o w v
    by (Clock now) m k = one_phase o after (Phases (where_up n Ticks ∷ []) after)
        (λ u g a ls x j. one_phase o after (Phases [] after) (λ u2 g2 a2 ls2 x2 j2. finished_sim o u2 g2 a2 ls2 x2 j2) (where_up n Ticks u) u g ls a x (easy_where_up n Ticks u (tt, λ slots journal e. absurd (let f : ⊥ = cc in f))) j)
        (Does n (Serves (Clock now)) ∷ []) w given lines answer v (easy_request (Clock now) n w.shared m) k
    by (Init slots journal) m k = single (Init slots journal) m k
    by Boot m k = single Boot m k
    by (said.Create file bucket size form) m k = single (said.Create file bucket size form) m k
    by (said.SetFile file setting) m k = single (said.SetFile file setting) m k
    by (said.StartTrans label seconds) m k = single (said.StartTrans label seconds) m k
    by (said.AddBranch label other new) m k = single (said.AddBranch label other new) m k
    by (said.StartBranch label) m k = single (said.StartBranch label) m k
    by (said.Records label file op) m k = single (said.Records label file op) m k
    by (said.Direct file op) m k = single (said.Direct file op) m k
    by (said.EndBranch label) m k = single (said.EndBranch label) m k
    by (said.EndTrans label) m k = single (said.EndTrans label) m k
    by (said.AbortTrans label) m k = single (said.AbortTrans label) m k
    by (said.Inquire who) m k = single (said.Inquire who) m k
    by (said.DeclareRm rm) m k = single (said.DeclareRm rm) m k
    by (said.JoinRm label rm) m k = single (said.JoinRm label rm) m k
    by (said.AckEvent who rm reply) m k = single (said.AckEvent who rm reply) m k
    by (said.ForgetRm rm) m k = single (said.ForgetRm rm) m k
    by (said.GetDti who) m k = single (said.GetDti who) m k
    by said.LmcpShow m k = single said.LmcpShow m k
    by said.LmcpDump m k = single said.LmcpDump m k
    by (said.Dump file) m k = single (said.Dump file) m k
    by said.DumpJournal m k = single said.DumpJournal m k
    by (said.DumpImages file side) m k = single (said.DumpImages file side) m k
    by (said.Backup file) m k = single (said.Backup file) m k
    by (said.Recover file way) m k = single (said.Recover file way) m k
    by (said.Fuse writes choice) m k = single (said.Fuse writes choice) m k
    by said.Crash m k = single said.Crash m k

-- A message that has a number was posted.

message_in : (k : ℕ) (ms : List Message) (m : Message) → message_at k ms ≡ Some m → In m ms
message_in zero ms m e = absurd cc
message_in (suc k) ms m e = slice_in ms k m e

deliver_sim : (o : Opening) (number : ℕ) (after : List DiskCounts) (w : World) (given : Line) (lines : List Line) (answer : Line) (v : World) → Phases (delivery number ∷ []) after w given lines answer v → WorldSim o w v
deliver_sim o number after w given lines answer v h = one_phase o after (Phases [] after) (λ u g a ls x j. finished_sim o u g a ls x j) (delivery number w) w given lines answer v (easy (message_at number w.shared.wire) refl) h
  where
    easy : (d : Option Message) → message_at number w.shared.wire ≡ d → OneEasy (elim d [ Some m ↦ Does m.to (Takes m) ∷ [] | None ↦ [] ]) w
    easy None e = tt
    easy (Some m) e = ((refl, message_in number w.shared.wire m e), λ slots journal q. absurd (let f : ⊥ = cc in f))

link_sim : (o : Opening) (a b : Name) (after : List DiskCounts) (w : World) (given : Line) (lines : List Line) (answer : Line) (v : World) → Phases (where_up a (LosesLink b) ∷ where_up b (LosesLink a) ∷ []) after w given lines answer v → WorldSim o w v
link_sim o a b after w given lines answer v h = one_phase o after (Phases (where_up b (LosesLink a) ∷ []) after)
    (λ u g k ls x j. one_phase o after (Phases [] after) (λ u2 g2 a2 ls2 x2 j2. finished_sim o u2 g2 a2 ls2 x2 j2) (where_up b (LosesLink a) u) u g ls k x (easy_where_up b (LosesLink a) u (tt, λ slots journal e. absurd (let f : ⊥ = cc in f))) j)
    (where_up a (LosesLink b) w) w given lines answer v (easy_where_up a (LosesLink b) w (tt, λ slots journal e. absurd (let f : ⊥ = cc in f))) h

-- A settling: each node is booted, or was up already.

abbrev pub part_name : Part → Name
part_name (Does n t) = n
part_name (Asks n serial) = n

abbrev pub AreRestarts : List Part → Type 0
AreRestarts [] = Unit {0}
AreRestarts (Does n Restarts ∷ ps) = AreRestarts ps
AreRestarts (_ ∷ ps) = ⊥

abbrev pub Booting : List Part → World → Type 0
Booting ps w = AreRestarts ps × ((n : Name) (y : Node) → find_node n w.nodes ≡ Some y → IsUp y ⊎ In (Does n Restarts) ps)

pub booting_keep : (p : Part) (ps : List Part) (w : World) (c : Choice) → Booting (p ∷ ps) w → (part_effect w p c).ends ≡ false → Booting ps (part_effect w p c).world
booting_keep (Asks n serial) ps w c h e = absurd h.0
booting_keep (Does n Restarts) ps w c h e =
    let m = restart_moves w n c e in (
      h.0,
      λ k y f. elim (cases_name k n) [
        | inl same ↦ (let P : Name → Type 0 = λ i. find_node i (part_effect w (Does n Restarts) c).world.nodes ≡ Some y in inl (m.here y (subst P same f)))
        | inr away ↦ elim (h.1 k y (sym (m.there k away) ∙ f)) [
          | inl alive ↦ inl alive
          | inr i ↦ elim i [ inl eq ↦ absurd (away (ap part_name eq)) | inr j ↦ inr j ]
        ]
      ],
    )
booting_keep (Does n (Serves request)) ps w c h e = absurd h.0
booting_keep (Does n Ticks) ps w c h e = absurd h.0
booting_keep (Does n (Takes m)) ps w c h e = absurd h.0
booting_keep (Does n (Hears m)) ps w c h e = absurd h.0
booting_keep (Does n (LosesLink other)) ps w c h e = absurd h.0
booting_keep (Does n RunsDown) ps w c h e = absurd h.0

pub booting_carries : (o : Opening) (after : List DiskCounts) → Carries o after Booting
booting_carries o after = record { sim = sim; keep = λ p ps w c k may e. booting_keep p ps w c k e }
  where
    sim : (p : Part) (ps : List Part) (w : World) (c : Choice) → Booting (p ∷ ps) w → Allowed w p after c → WorldSim o w (part_effect w p c).world
    sim (Asks n serial) ps w c k may = absurd k.0
    sim (Does n Restarts) ps w c k may = does_sim o w n Restarts after c tt (λ slots journal e. absurd (let f : ⊥ = cc in f)) may
    sim (Does n (Serves request)) ps w c k may = absurd k.0
    sim (Does n Ticks) ps w c k may = absurd k.0
    sim (Does n (Takes m)) ps w c k may = absurd k.0
    sim (Does n (Hears m)) ps w c k may = absurd k.0
    sim (Does n (LosesLink other)) ps w c k may = absurd k.0
    sim (Does n RunsDown) ps w c k may = absurd k.0

pub are_restarts : (ns : List Node) → AreRestarts (restarts_of ns)
are_restarts [] = tt
are_restarts (x ∷ xs) = go x.up (are_restarts xs)
  where
    go : (b : Bool) → AreRestarts (restarts_of xs) → AreRestarts (if b then restarts_of xs else Does x.name Restarts ∷ restarts_of xs)
    go true h = h
    go false h = h

pub to_boot : (ns : List Node) (n : Name) (y : Node) → find_node n ns ≡ Some y → IsUp y ⊎ In (Does n Restarts) (restarts_of ns)
to_boot [] n y e = absurd cc
to_boot (x ∷ xs) n y e = go (bytes_eq n x.name) refl x.up refl (to_boot xs n y) e
  where
    go : (b : Bool) → bytes_eq n x.name ≡ b → (t : Bool) → x.up ≡ t → (find_node n xs ≡ Some y → IsUp y ⊎ In (Does n Restarts) (restarts_of xs)) → (let d : Option Node = if b then Some x else find_node n xs in d) ≡ Some y
        → IsUp y ⊎ In (Does n Restarts) (if t then restarts_of xs else Does x.name Restarts ∷ restarts_of xs)
    go true is true u more k = let same : x ≡ y = cc in inl (ap (λ (z : Node). z.up) (sym same) ∙ u)
    go true is false u more k = inr (inl (ap (λ i. Does i Restarts) (bytes_same n x.name is)))
    go false is true u more k = more k
    go false is false u more k = elim (more k) [ inl alive ↦ inl alive | inr i ↦ inr (inr i) ]

pub booted_all : (u : World) → Booting [] u → AllUp u
booted_all u h n y e = elim (h.1 n y e) [ inl alive ↦ alive | inr none ↦ absurd none ]

-- It runs down each node, and each stays up.

abbrev pub AreDowns : List Part → Type 0
AreDowns [] = Unit {0}
AreDowns (Does n RunsDown ∷ ps) = AreDowns ps
AreDowns (_ ∷ ps) = ⊥

abbrev pub Downing : List Part → World → Type 0
Downing ps w = AreDowns ps × AllUp w

-- a part at one node, which is up behind it
pub ups_after : (n : Name) (w v : World) → Moves n w v IsUp → AllUp w → AllUp v
ups_after n w v m ups k y f = elim (cases_name k n) [
  | inl same ↦ (let P : Name → Type 0 = λ i. find_node i v.nodes ≡ Some y in m.here y (subst P same f))
  | inr away ↦ ups k y (sym (m.there k away) ∙ f)
]

pub down_moves : (w : World) (n : Name) (c : Choice) → (done_at w n RunsDown c).ends ≡ false → Moves n w (done_at w n RunsDown c).world IsUp
down_moves w n c e = done_moves w n RunsDown c IsUp (λ x f k. let q = run_down_effect w.shared (stops_at n w) x c k in (q.0, q.1.up)) e

pub hear_moves : (w : World) (m : Message) (c : Choice) → (done_at w m.to (Hears m) c).ends ≡ false → Moves m.to w (done_at w m.to (Hears m) c).world IsUp
hear_moves w m c e = done_moves w m.to (Hears m) c IsUp (λ x f k. let q = hears_effect w.shared (stops_at m.to w) x m c k in (q.0, q.1.up)) e

pub downing_carries : (o : Opening) (after : List DiskCounts) → Carries o after Downing
downing_carries o after = record { sim = sim; keep = keep }
  where
    sim : (p : Part) (ps : List Part) (w : World) (c : Choice) → Downing (p ∷ ps) w → Allowed w p after c → WorldSim o w (part_effect w p c).world
    sim (Asks n serial) ps w c k may = absurd k.0
    sim (Does n RunsDown) ps w c k may = does_sim o w n RunsDown after c tt (λ slots journal e. absurd (let f : ⊥ = cc in f)) may
    sim (Does n (Serves request)) ps w c k may = absurd k.0
    sim (Does n Ticks) ps w c k may = absurd k.0
    sim (Does n (Takes m)) ps w c k may = absurd k.0
    sim (Does n (Hears m)) ps w c k may = absurd k.0
    sim (Does n (LosesLink other)) ps w c k may = absurd k.0
    sim (Does n Restarts) ps w c k may = absurd k.0

    keep : (p : Part) (ps : List Part) (w : World) (c : Choice) → Downing (p ∷ ps) w → Allowed w p after c → (part_effect w p c).ends ≡ false → Downing ps (part_effect w p c).world
    keep (Asks n serial) ps w c k may e = absurd k.0
    keep (Does n RunsDown) ps w c k may e = (k.0, ups_after n w (part_effect w (Does n RunsDown) c).world (down_moves w n c e) k.1)
    keep (Does n (Serves request)) ps w c k may e = absurd k.0
    keep (Does n Ticks) ps w c k may e = absurd k.0
    keep (Does n (Takes m)) ps w c k may e = absurd k.0
    keep (Does n (Hears m)) ps w c k may e = absurd k.0
    keep (Does n (LosesLink other)) ps w c k may e = absurd k.0
    keep (Does n Restarts) ps w c k may e = absurd k.0

pub are_downs : (ns : List Node) → AreDowns (run_downs_of ns)
are_downs [] = tt
are_downs (x ∷ xs) = are_downs xs

-- It asks for each prepared branch.

abbrev pub AreAsks : List Part → Type 0
AreAsks [] = Unit {0}
AreAsks (Asks n serial ∷ ps) = AreAsks ps
AreAsks (Does n t ∷ ps) = ⊥

abbrev pub Asking : List Part → World → Type 0
Asking ps w = AreAsks ps × AllUp w

pub question_ups : (w : World) (c : Choice) (q : Question) → AllUp w → (question_effect w c q).ends ≡ false → AllUp (question_effect w c q).world
question_ups w c (Heard m) ups e = ups_after m.to w (done_at w m.to (Hears m) c).world (hear_moves w m c e) ups
question_ups w c Unanswered ups e = ups
question_ups w c (Doubtful k) ups e = ups

pub asking_carries : (o : Opening) (after : List DiskCounts) → Carries o after Asking
asking_carries o after = record { sim = sim; keep = keep }
  where
    sim : (p : Part) (ps : List Part) (w : World) (c : Choice) → Asking (p ∷ ps) w → Allowed w p after c → WorldSim o w (part_effect w p c).world
    sim (Asks n serial) ps w c k may = asks_sim o w n serial after c k.1 may
    sim (Does n t) ps w c k may = absurd k.0

    keep : (p : Part) (ps : List Part) (w : World) (c : Choice) → Asking (p ∷ ps) w → Allowed w p after c → (part_effect w p c).ends ≡ false → Asking ps (part_effect w p c).world
    keep (Asks n serial) ps w c k may e = (k.0, question_ups w c (question w n serial) k.1 e)
    keep (Does n t) ps w c k may e = absurd k.0

asks_append : (n : Name) (bs : List Branch) (ps : List Part) → AreAsks ps → AreAsks (questions_of n bs ++ ps)
asks_append n [] ps h = h
asks_append n (b ∷ bs) ps h = go (Rattle.commit_protocol.specs.Allowed.is_prepared b.state) (asks_append n bs ps h)
  where
    go : (t : Bool) → AreAsks (questions_of n bs ++ ps) → AreAsks ((if t then Asks n b.key.serial ∷ questions_of n bs else questions_of n bs) ++ ps)
    go true k = k
    go false k = k

pub all_ask : (ns : List Node) → AreAsks (all_questions ns)
all_ask [] = tt
all_ask (x ∷ xs) = asks_append x.name (protocol.arranged x.volatile.preparation x.volatile.branches) (all_questions xs) (all_ask xs)

pub settle_sim : (o : Opening) (after : List DiskCounts) (w : World) (given : Line) (lines : List Line) (answer : Line) (v : World) → Phases (phases_of Settle) after w given lines answer v → WorldSim o w v
settle_sim o after w given lines answer v h =
    parts_sim o after Booting (Phases ((λ u. run_downs_of u.nodes) ∷ (λ u. all_questions u.nodes) ∷ []) after) (booting_carries o after)
    (λ u g a ls x k j. parts_sim o after Downing (Phases ((λ u2. all_questions u2.nodes) ∷ []) after) (downing_carries o after)
    (λ u2 g2 a2 ls2 x2 k2 j2. parts_sim o after Asking (Phases [] after) (asking_carries o after) (λ u3 g3 a3 ls3 x3 k3 j3. finished_sim o u3 g3 a3 ls3 x3 j3)
    (all_questions u2.nodes) u2 g2 ls2 a2 x2 (all_ask u2.nodes, k2.1) j2)
    (run_downs_of u.nodes) u g ls a x (are_downs u.nodes, booted_all u k) j)
    (restarts_of w.nodes) w given lines answer v (are_restarts w.nodes, to_boot w.nodes) h

-- Statements.

-- no volume is made by it, since a node may have been in use
abbrev pub MakesNoVolume : Statement → Shared → Type 0
MakesNoVolume s sh = (n : Name) (slots journal : ℕ) → s ≡ At n (Init slots journal) → sh.in_use ≡ true

pub used_sim : (o : Opening) (w : World) → WorldSim o w (record w { shared = record w.shared { in_use = true } })
used_sim o w r = (r, λ p k reached h. ([], record { faces = h.faces; are = h.are; follows = Rattle.run_agreement.proofs.Serving.follows_in_use o h.faces w.shared true p h.follows }))

pub step_sim : (o : Opening) (w : World) (s : Statement) (lines : List Line) (new : World) → MakesNoVolume s w.shared → statements.Step w s lines new → WorldSim o w new
step_sim o w s lines new makes h =
    sim_to o w (record h.world { disks = new.disks }) new h.goes (sim_on o w h.world (record h.world { disks = new.disks }) (begins (refused_at_once w s) h.does) (sim_disks o h.world new.disks))
  where
    does : (q : Statement) → MakesNoVolume q w.shared → Phases (phases_of q) new.disks (begun_with q w) line.Normal h.events h.answer h.world → WorldSim o w h.world
    does (At n request) m k = at_sim o n request new.disks w line.Normal h.events h.answer h.world (λ slots journal e. m n slots journal (ap (λ z. At n z) e)) k
    does (Deliver number) m k = deliver_sim o number new.disks w line.Normal h.events h.answer h.world k
    does (LinkDown a b) m k = link_sim o a b new.disks w line.Normal h.events h.answer h.world k
    does Settle m k = sim_on o w (begun_with Settle w) h.world (used_sim o w) (settle_sim o new.disks (begun_with Settle w) line.Normal h.events h.answer h.world k)

    begins : (l : Option Line) → Begins l (Phases (phases_of s) new.disks (begun_with s w) line.Normal) w h.events h.answer h.world → WorldSim o w h.world
    begins (Some refusal) k = sim_to o w w h.world k.2 (sim_same o w)
    begins None k = does s makes k
