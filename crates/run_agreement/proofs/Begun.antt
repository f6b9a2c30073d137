-- Each legal transcript leads to a rack in no use, and is a run from there on.
use Rattle.std.specs.Prelude.{if◌then◌else◌}
use Rattle.std.specs.Str.{bytes_eq}
use Rattle.std.proofs.Common.{◌≡◌, ℕ, Bool, true, false, List, [], ◌∷◌, ◌++◌, Option, Some, None, ◌⊎◌, inl, inr, refl, ap, sym, subst, ◌∙◌}
use Rattle.std.proofs.lemmas.Bool.{both_ways}
use Rattle.run_model.specs.transcript_model.Lines as line
use Rattle.run_model.specs.transcript_model.Lines.{Line}
use Rattle.run_model.specs.script_model.Statements.{Statement, At, Deliver, LinkDown, Settle, Init, Reading, Blank, Says, Bad}
use Rattle.run_model.specs.script_model.Grammar.{reading}
use Rattle.commit_protocol.specs.Messages.{Name}
use Rattle.commit_protocol.specs.Table.{coordinator_of}
use Rattle.commit_protocol.proofs.Lists.{cases_name}
use Rattle.run_model.specs.World.{World, Node, DiskCounts, IsOpening, find_node, with_node, opened}
use Rattle.run_model.specs.Answers.{Task, Serves}
use Rattle.run_model.specs.Steps.{Choice, TaskEffect, task_effect}
use Rattle.run_model.specs.Statements.{Part, PartEffect, Phase, Phases, Step, Begins, AllowedAt, Allowed, RoseAt, no_node, nothing_done, ended_by, stops_at, put_into, done_at, part_effect, phases_of, begun_with, refused_at_once}
use Rattle.run_model.specs.Transcript.{Entry, Turn, Legal, AreOpening}
use Rattle.run_model.proofs.PartLemmas.{Way, Done, Missing, Idle, Doubted, EachPart, EachPhase, way, phases_fold, ended, allowed_here, done_here}
use Rattle.run_agreement.specs.Laws.{NamesApart, MakesNoVolume, RunsFrom}
use Rattle.run_agreement.proofs.Found.{some_is, name_found, found_put, found_there, bytes_same, bytes_itself}
use Rattle.run_agreement.proofs.Bases.{Beginning, IsIdle, IsRack, StaysUnused, TaskLeaves, used_part, init_stays, task_turns}

-- One node has become another in no use.

pub apart_put : (n : Name) (z : Node) (xs : List Node) → z.name ≡ n → NamesApart xs → NamesApart (with_node n (λ y. z) xs)
apart_put n z [] named apart = tt
apart_put n z (y ∷ ys) named apart = go (bytes_eq n y.name) refl (apart_put n z ys named apart.1)
  where
    go : (b : Bool) → bytes_eq n y.name ≡ b → NamesApart (with_node n (λ u. z) ys) → NamesApart (if b then z ∷ ys else y ∷ with_node n (λ u. z) ys)
    go true is rest = let P : Name → Type 0 = λ m. find_node m ys ≡ None in (subst P (sym (bytes_same n y.name is) ∙ sym named) apart.0, apart.1)
    go false is rest = (found_there y.name n z ys named (λ q. both_ways (bytes_eq n y.name) is (bytes_itself n y.name (sym q))) ∙ apart.0, rest)

pub rack_put : (D : Type 0) (w : World) (n : Name) (x : Node) (e : TaskEffect) → find_node n w.nodes ≡ Some x → StaysUnused x e.node w.shared e.shared D → IsRack w → IsRack (put_into w n e).world
rack_put D w n x e found h base = record {
  nodes = nodes;
  apart = apart_put n e.node w.nodes named base.apart;
  labels = h.labels ∙ base.labels;
  wire = h.wire ∙ base.wire;
  accepted = h.accepted ∙ base.accepted;
  read_only = h.read_only ∙ base.read_only;
}
  where
    named : e.node.name ≡ n
    named = h.named ∙ name_found n w.nodes x found

    nodes : (m : Name) (y : Node) → find_node m (with_node n (λ u. e.node) w.nodes) ≡ Some y → IsIdle y
    nodes m y is = elim (cases_name m n) [
      | inl same ↦
          let P : Name → Type 0 = λ k. find_node k (with_node n (λ u. e.node) w.nodes) ≡ Some y in
          subst IsIdle (some_is e.node y (sym (found_put n e.node x w.nodes named found) ∙ subst P same is)) h.idle
      | inr away ↦ base.nodes m y (sym (found_there m n e.node w.nodes named away) ∙ is)
    ]

-- Parts and phases.

part_begins : (after : List DiskCounts) (w : World) (p : Part) (c : Choice) → Allowed w p after c → Beginning w → Beginning (part_effect w p c).world
part_begins after w p c may (inl used) = inl (used_part w p c used)
part_begins after w p c may (inr base) = by (way w p c after may)
  where
    to : (e : PartEffect) → part_effect w p c ≡ e → Beginning e.world → Beginning (part_effect w p c).world
    to e is b = let P : PartEffect → Type 0 = λ f. Beginning f.world in subst P (sym is) b

    by : Way w p c after → Beginning (part_effect w p c).world
    by (Done node t x found allowed is) =
        let e : TaskEffect = task_effect w.shared (stops_at node w) x t c in
        to (put_into w node e) is (elim (task_turns t x w.shared (stops_at node w) (λ cause. RoseAt w node cause after) c (base.0.nodes node x found) allowed) [ inl used ↦ inl used | inr h ↦ inr (rack_put (TaskLeaves t x e) w node x e found h base.0, h.use_same ∙ base.1) ])
    by (Missing node none is) = to (no_node w) is (inr base)
    by (Idle is) = to (nothing_done w) is (inr base)
    by (Doubted node serial b asks none is) = to (ended_by w (line.InDoubt b.key.serial (coordinator_of b.key))) is (inr base)

abbrev pub AnyPart : Part → Type 0
AnyPart p = Unit {0}

any_parts : (ps : List Part) → EachPart AnyPart ps
any_parts [] = tt
any_parts (p ∷ ps) = (tt, any_parts ps)

pub any_phases : (ps : List Phase) → EachPhase AnyPart ps
any_phases [] = tt
any_phases (p ∷ ps) = (λ w. any_parts (p w), any_phases ps)

phases_begin : (after : List DiskCounts) (ps : List Phase) (w : World) (given : Line) (lines : List Line) (answer : Line) (v : World) → Phases ps after w given lines answer v → Beginning w → Beginning v
phases_begin after ps w given lines answer v h =
    let Q : Line → Type 0 = λ l. Unit {0} in
    let S : World → List Line → Line → World → Type 0 = λ u ls a x. Beginning u → Beginning x in
    phases_fold after AnyPart Q S (λ u g q b. b) (λ u p c ok may ends b. part_begins after u p c may b) (λ u p c ok may ends. (tt, λ rest a x more b. more (part_begins after u p c may b))) ps (any_phases ps) w given lines answer v tt h

-- Statements.

pub disks_rack : (w : World) (ds : List DiskCounts) → IsRack w → IsRack (let v : World = record w { disks = ds } in v)
disks_rack w ds b = record { nodes = b.nodes; apart = b.apart; labels = b.labels; wire = b.wire; accepted = b.accepted; read_only = b.read_only }

disks_begin : (w : World) (ds : List DiskCounts) → Beginning w → Beginning (let v : World = record w { disks = ds } in v)
disks_begin w ds (inl used) = inl used
disks_begin w ds (inr base) = inr (disks_rack w ds base.0, base.1)

begun_begins : (s : Statement) (w : World) → Beginning w → Beginning (begun_with s w)
begun_begins Settle w b = inl refl
begun_begins (At node request) w b = b
begun_begins (Deliver number) w b = b
begun_begins (LinkDown one other) w b = b

step_begins : (w v : World) (s : Statement) (lines : List Line) → Step w s lines v → Beginning w → Beginning v
step_begins w v s lines step b = subst Beginning (sym step.goes) (disks_begin step.world v.disks (by (refused_at_once w s) step.does))
  where
    by : (o : Option Line) → Begins o (Phases (phases_of s) v.disks (begun_with s w) line.Normal) w step.events step.answer step.world → Beginning step.world
    by (Some l) h = subst Beginning (sym h.2) b
    by None h = phases_begin v.disks (phases_of s) (begun_with s w) line.Normal step.events step.answer step.world h (begun_begins s w b)

-- An INIT that may make a volume leaves a rack in no use.

-- a rack in which no node may be in use
abbrev pub IsFresh : World → Type 0
IsFresh w = IsRack w × (w.shared.in_use ≡ false)

disks_fresh : (w : World) (ds : List DiskCounts) → IsFresh w → IsFresh (let v : World = record w { disks = ds } in v)
disks_fresh w ds b = (disks_rack w ds b.0, b.1)

init_done : (after : List DiskCounts) (w : World) (n : Name) (slots journal : ℕ) (c : Choice) → AllowedAt w n (Serves (Init slots journal)) after c → IsFresh w → IsFresh (done_at w n (Serves (Init slots journal)) c).world
init_done after w n slots journal c may base = by (find_node n w.nodes) refl
  where
    to : (e : PartEffect) → done_at w n (Serves (Init slots journal)) c ≡ e → IsFresh e.world → IsFresh (done_at w n (Serves (Init slots journal)) c).world
    to e is b = let P : PartEffect → Type 0 = λ f. IsFresh f.world in subst P (sym is) b

    by : (d : Option Node) → find_node n w.nodes ≡ d → IsFresh (done_at w n (Serves (Init slots journal)) c).world
    by None none = to (no_node w) (rw (none, done_at) refl) base
    by (Some x) found =
        let t : Task = Serves (Init slots journal) in
        let e : TaskEffect = task_effect w.shared (stops_at n w) x t c in
        let h = init_stays x w.shared (stops_at n w) slots journal (λ cause. RoseAt w n cause after) c (base.0.nodes n x found) (allowed_here w n t x after c found may) in
        to (put_into w n e) (done_here w n t x c found) (rack_put (TaskLeaves t x e) w n x e found h base.0, h.use_same ∙ base.1)

init_base : (w v : World) (n : Name) (slots journal : ℕ) (lines : List Line) → Step w (At n (Init slots journal)) lines v → IsFresh w → IsFresh v
init_base w v n slots journal lines step base = subst IsFresh (sym step.goes) (disks_fresh step.world v.disks (by (refused_at_once w (At n (Init slots journal))) step.does))
  where
    by : (o : Option Line) → Begins o (Phases (phases_of (At n (Init slots journal))) v.disks w line.Normal) w step.events step.answer step.world → IsFresh step.world
    by (Some l) h = subst IsFresh (sym h.2) base
    by None h = subst IsFresh (sym (ended (done_at w n (Serves (Init slots journal)) h.0) v.disks step.events step.answer step.world h.2).2) (init_done v.disks w n slots journal h.0 h.1 base)

-- Entries: each makes no volume, or leaves a rack in no use.

statement_turns : (w v : World) (s : Statement) (lines : List Line) → Step w s lines v → Beginning w → MakesNoVolume w (Says s) ⊎ IsFresh v
statement_turns w v (At n (Init slots journal)) lines step (inl used) = inl (λ node k j e. used)
statement_turns w v (At n (Init slots journal)) lines step (inr base) = inr (init_base w v n slots journal lines step base)
statement_turns w v (At n _) lines step b = inl (λ node k j e. absurd (let f : ⊥ = cc in f))
statement_turns w v (Deliver number) lines step b = inl (λ node k j e. absurd (let f : ⊥ = cc in f))
statement_turns w v (LinkDown one other) lines step b = inl (λ node k j e. absurd (let f : ⊥ = cc in f))
statement_turns w v Settle lines step b = inl (λ node k j e. absurd (let f : ⊥ = cc in f))

entry_turns : (w v : World) (r : Reading) (lines : List Line) → Turn w r lines v → Beginning w → Beginning v × (MakesNoVolume w r ⊎ IsFresh v)
entry_turns w v Blank lines turn b = (subst Beginning (sym turn.1) b, inl tt)
entry_turns w v (Says s) lines step b = (step_begins w v s lines step b, statement_turns w v s lines step b)
entry_turns w v (Bad column) lines turn b = absurd turn

-- the oldest entries lead to a rack in which no node may be in use, and the others are a run from there on
abbrev pub HasBase : World → List Entry → World → Type 0
HasBase first es v = (base : World) × (before : List Entry) × (since : List Entry) × (es ≡ since ++ before) × Legal first before base × IsRack base × RunsFrom base since v × (base.shared.in_use ≡ false)

pub transcript_begins : (first v : World) (es : List Entry) → IsFresh first → Legal first es v → Beginning v × HasBase first es v
transcript_begins first v [] base is = let P : World → Type 0 = λ u. Beginning u × HasBase first [] u in subst P (sym is) (inr base, (first, [], [], refl, refl, base.0, refl, base.1))
transcript_begins first v (e ∷ es) base legal =
    let earlier = transcript_begins first legal.0 es base legal.1 in
    let turned = entry_turns legal.0 v (reading e.source.text) e.lines legal.2 earlier.0 in
    let run = earlier.1 in
    (turned.0, elim turned.1 [ inl none ↦ (run.0, run.1, e ∷ run.2, ap (λ xs. e ∷ xs) run.3, run.4, run.5, (legal.0, run.6, none, legal.2), run.7) | inr made ↦ (v, e ∷ es, [], refl, legal, made.0, refl, made.1) ])

-- A rack before its first line.

opening_found : (ns : List Node) → AreOpening ns → (m : Name) (x : Node) → find_node m ns ≡ Some x → IsOpening x
opening_found [] are m x e = absurd (let f : ⊥ = cc in f)
opening_found (y ∷ ys) are m x e = go (bytes_eq m y.name) (opening_found ys are.1 m x) e
  where
    go : (b : Bool) → (find_node m ys ≡ Some x → IsOpening x) → (let o : Option Node = if b then Some y else find_node m ys in o) ≡ Some x → IsOpening x
    go true more k = subst IsOpening (some_is y x k) are.0
    go false more k = more k

pub opening_rack : (nodes : List Node) (disks : List DiskCounts) → AreOpening nodes → NamesApart nodes → IsRack (opened nodes disks)
opening_rack nodes disks are apart = record {
  nodes = λ n x found. let o = opening_found nodes are n x found in record { down = o.down; quiet = o.under_way; settled = o.settled; log = λ v. o.log };
  apart = apart;
  labels = refl;
  wire = refl;
  accepted = refl;
  read_only = refl;
}
