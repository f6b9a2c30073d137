-- What the lines of a statement tell of each disk and say of each node.
use Rattle.std.specs.Prelude.{◌||◌, ◌&&◌, not, slice_get, slice_set}
use Rattle.std.proofs.Common.{◌≡◌, ℕ, zero, suc, ◌≤◌, List, [], ◌∷◌, ◌++◌, map, Bool, true, false, Some, if◌then◌else◌, inl, inr, refl, sym, ◌∙◌, ap, subst, arith}
use Rattle.std.specs.Str.{bytes_eq}
use Rattle.std.proofs.lemmas.Slice.Eq.{bytes_eq-Decides}
use Rattle.block_disk.specs.Disk.{CallLog, DiskState, noted}
use Rattle.block_disk.specs.declared.disk.DiskCall.TheVariants as disk_call
use Rattle.emitter_model.specs.commit_protocol.World.{In}
use Rattle.emitter_model.proofs.commit_protocol.Lists.{in_parts}
use Rattle.emitter_model.specs.transcript_model.Lines as line
use Rattle.emitter_model.specs.transcript_model.Lines.{Cause, Line, Normal}
use Rattle.emitter_model.specs.Emitting.{Shown}
use Rattle.said_steps.specs.run_said.Said.{Said, SaidNode, line_said, lines_said}
use Rattle.said_steps.proofs.run_said.Views.{said_append}
use Rattle.said_steps.specs.run_model.Answers.{Task}
use Rattle.said_steps.specs.run_model.Steps.{count_of}
use Rattle.said_steps.proofs.run_model.NodeLists.{some_is}
use Rattle.dtm_node.specs.recovery_units.Uses.{IsCounted}
use Rattle.dtm_node.specs.run_shared.Sharing.{SharedState}
use Rattle.dtm_node.specs.node_standing.Holding.{HoldsAs}
use Rattle.dtm_node.specs.node_standing.Standing.{NodeState, counts_of, disk_in, is_up}
use Rattle.dtm_node.specs.node_standing.Telling.{DiskAdvancesOverCalls, TellsTask, armed_task, powered_task, said_node, said_shared}
use Rattle.dtm_node.proofs.Held.{holds_is, holds_on}
use Rattle.said_steps.specs.Calls.{is_boot_refusal, is_named}
use Rattle.said_steps.specs.Own.{alone}
use Rattle.said_steps.proofs.OwnLines.{own_down, own_lines_say}
use Rattle.statement_steps.proofs.Counting.{rose_over}
use Rattle.run_nodes.specs.Names.{AreApart, is_among}
use Rattle.run_nodes.specs.Together.{said_together}
use Rattle.run_nodes.specs.Told.{DiskFollowsShown, DisksFollowShown, kept_names}
use Rattle.run_nodes.proofs.Places.{names_set, said_found, said_put}

-- A disk from one state to a later one.

pub passes_same : (d : DiskState) → DiskAdvancesOverCalls d d
passes_same d = record { size = refl; faults = λ c. omega arith; stops = λ c. omega arith; counted = λ c. c; told = refl }

pub passes_on : (x y z : DiskState) → DiskAdvancesOverCalls x y → DiskAdvancesOverCalls y z → DiskAdvancesOverCalls x z
passes_on x y z p q = record {
  size = q.size ∙ p.size;
  faults = λ c. (let f = p.faults c in let g = q.faults (p.counted c) in omega arith);
  stops = λ c. (let f = p.stops c in let g = q.stops (p.counted c) in omega arith);
  counted = λ c. q.counted (p.counted c);
  told = q.told ∙ p.told;
}

pub count_passes : (cause : Cause) (x y : DiskState) → DiskAdvancesOverCalls x y → IsCounted x → count_of cause (counts_of x) ≤ count_of cause (counts_of y)
count_passes line.Failed x y p c = p.faults c
count_passes line.Stopped x y p c = p.stops c

pub disk_same : (name : List ℕ) (touched : List (List ℕ)) (lines : List Line) (d : DiskState) → ((cause : Cause) → In (line.Down name cause) lines → ⊥) → DiskFollowsShown name touched lines d d
disk_same name touched lines d none = record { calls = refl; failures = λ cause i c. absurd (none cause i); passes = passes_same d; elsewhere = λ e. refl }

pub disk_on : (name : List ℕ) (touched : List (List ℕ)) (front rest : List Line) (x y z : DiskState) → DiskFollowsShown name touched front x y → DiskFollowsShown name touched rest y z → DiskFollowsShown name touched (front ++ rest) x z
disk_on name touched front rest x y z h k = record {
  calls = k.calls ∙ h.calls;
  failures = λ cause i c. elim (in_parts (line.Down name cause) front rest i) [
    | inl j ↦ rose_over (count_of cause (counts_of x)) (count_of cause (counts_of x)) (count_of cause (counts_of y)) (count_of cause (counts_of z)) (omega arith) (count_passes cause y z k.passes (h.passes.counted c)) (h.failures cause j c)
    | inr j ↦ rose_over (count_of cause (counts_of x)) (count_of cause (counts_of y)) (count_of cause (counts_of z)) (count_of cause (counts_of z)) (count_passes cause x y h.passes c) (omega arith) (k.failures cause j (h.passes.counted c))
  ];
  passes = passes_on x y z h.passes k.passes;
  elsewhere = λ e. k.elsewhere e ∙ h.elsewhere e;
}

pub name_there : (ks : List NodeState) (ls : List NodeState) (place : ℕ) (k : NodeState) → kept_names ls ≡ kept_names ks → slice_get ks place ≡ Some k → (l : NodeState) × (slice_get ls place ≡ Some l) × (l.name ≡ k.name)
name_there [] ls place k names e = let none : ⊥ = cc in absurd none
name_there (x ∷ ks) [] place k names e = let none : ⊥ = cc (names) in absurd none
name_there (x ∷ ks) (y ∷ ls) zero k names e = (y, refl, (let both : y.name ≡ x.name = cc (names) in both ∙ ap (λ (z : NodeState). z.name) (some_is x k e)))
name_there (x ∷ ks) (y ∷ ls) (suc place) k names e = let more : kept_names ls ≡ kept_names ks = cc (names) in name_there ks ls place k more e

-- what was down is as it was
pub held_same : (k l : NodeState) → l ≡ k → is_up k.place ≡ false → (is_up l.place ≡ false) × HoldsAs (disk_in k.place) (disk_in l.place)
held_same k l e down = (ap (λ (x : NodeState). is_up x.place) e ∙ down, holds_is (disk_in k.place) (disk_in l.place) (ap (λ (x : NodeState). disk_in x.place) e))

pub told_none : (touched : List (List ℕ)) (ks : List NodeState) (s : SharedState) → DisksFollowShown touched [] ks s ks s
told_none touched ks s = record {
  says = refl;
  names = refl;
  held = λ place k l e f down. held_same k l (some_is l k (sym f ∙ e)) down;
  each = λ place k l e f.
      let same : k ≡ l = some_is k l (sym e ∙ f) in
      subst (λ (x : NodeState). DiskFollowsShown k.name touched [] (disk_in k.place) (disk_in x.place)) same (disk_same k.name touched [] (disk_in k.place) (λ cause i. i));
}

pub told_on : (touched : List (List ℕ)) (front rest : List Line) (ks : List NodeState) (s : SharedState) (ms : List NodeState) (u : SharedState) (ls : List NodeState) (t : SharedState) → DisksFollowShown touched front ks s ms u → DisksFollowShown touched rest ms u ls t → DisksFollowShown touched (front ++ rest) ks s ls t
told_on touched front rest ks s ms u ls t h k = record {
  says = said_append front rest (said_together ks s) ∙ ap (lines_said rest) h.says ∙ k.says;
  names = k.names ∙ h.names;
  held = λ place x z e f down.
      let y = name_there ks ms place x h.names e in
      let first = h.held place x y.0 e y.1 down in
      let second = k.held place y.0 z y.1 f first.0 in
      (second.0, holds_on (disk_in x.place) (disk_in y.0.place) (disk_in z.place) first.1 second.1);
  each = λ place x z e f.
      let y = name_there ks ms place x h.names e in
      disk_on x.name touched front rest (disk_in x.place) (disk_in y.0.place) (disk_in z.place) (h.each place x y.0 e y.1)
      (subst (λ n. DiskFollowsShown n touched rest (disk_in y.0.place) (disk_in z.place)) y.2 (k.each place y.0 z y.1 f));
}

-- Places.

its_name : (name : List ℕ) → bytes_eq name name ≡ true
its_name name = (bytes_eq-Decides name name).1 refl

pub among_there : (name : List ℕ) (ks : List NodeState) (place : ℕ) (k : NodeState) → slice_get ks place ≡ Some k → k.name ≡ name → is_among name (kept_names ks) ≡ true
among_there name [] place k e same = let none : ⊥ = cc in absurd none
among_there name (x ∷ ks) zero k e same = rw ((bytes_eq-Decides x.name name).1 (ap (λ (y : NodeState). y.name) (some_is x k e) ∙ same)) refl
among_there name (x ∷ ks) (suc place) k e same = ap (λ b. bytes_eq x.name name || b) (among_there name ks place k e same) ∙ or_true (bytes_eq x.name name)
  where
    or_true : (b : Bool) → b || true ≡ true
    or_true true = refl
    or_true false = refl

-- What a place has once another was put at one: that, or what it had, under another name.
pub data WasPut (ks : List NodeState) (place : ℕ) (k l : NodeState) (other : ℕ) (x y : NodeState) : Type 0 where
  Here : x ≡ k → y ≡ l → WasPut ks place k l other x y
  There : y ≡ x → (x.name ≡ k.name → ⊥) → WasPut ks place k l other x y

pub was_put : (ks : List NodeState) (place : ℕ) (k l : NodeState) → AreApart (kept_names ks) → slice_get ks place ≡ Some k → (other : ℕ) (x y : NodeState) → slice_get ks other ≡ Some x → slice_get (slice_set ks place l) other ≡ Some y → WasPut ks place k l other x y
was_put [] place k l apart e other x y f g = let none : ⊥ = cc in absurd none
was_put (z ∷ ks) zero k l apart e zero x y f g = Here (some_is x k (sym f ∙ e)) (sym (some_is l y g))
was_put (z ∷ ks) zero k l apart e (suc other) x y f g =
    There (some_is y x (sym g ∙ f)) (λ same. (let among : true ≡ false = sym (among_there z.name ks other x f (same ∙ ap (λ (v : NodeState). v.name) (sym (some_is z k e)))) ∙ apart.0 in let none : ⊥ = cc in none))
was_put (z ∷ ks) (suc place) k l apart e zero x y f g =
    There (some_is y x (sym g ∙ f)) (λ same. (let among : true ≡ false = sym (among_there z.name ks place k e (sym same ∙ ap (λ (v : NodeState). v.name) (sym (some_is z x f)))) ∙ apart.0 in let none : ⊥ = cc in none))
was_put (z ∷ ks) (suc place) k l apart e (suc other) x y f g = elim (was_put ks place k l apart.1 e other x y f g) [
  | Here p q ↦ Here p q
  | There p q ↦ There p q
]

-- An answer that says nothing shows no fall, and no boot.

abbrev alone_up : (node : List ℕ) (up : Bool) → Said
alone_up node up = record { nodes = record { name = node; up = up; unmade = false } ∷ []; shared = record { labels = []; in_use = false; wire = [] } }

abbrev is_up_first : Said → Bool
is_up_first said = by said.nodes
  where
    by : List SaidNode → Bool
    by [] = false
    by (n ∷ ns) = n.up

pub quiet_fall : (node : List ℕ) (cause : Cause) → ((said : Said) → line_said (line.Down node cause) said ≡ said) → ⊥
quiet_fall node cause quiet =
    let put : line_said (line.Down node cause) (alone_up node true) ≡ alone_up node false = rw (its_name node) refl in
    let no : false ≡ true = ap is_up_first (sym put ∙ quiet (alone_up node true)) in
    let none : ⊥ = cc in none

pub quiet_rise : (node : List ℕ) (boot : ℕ) → ((said : Said) → line_said (line.Booted node boot) said ≡ said) → ⊥
quiet_rise node boot quiet =
    let put : line_said (line.Booted node boot) (alone_up node false) ≡ alone_up node true = rw (its_name node) refl in
    let no : true ≡ false = ap is_up_first (sym put ∙ quiet (alone_up node false)) in
    let none : ⊥ = cc in none

pub quiet_down : (answer : Line) (node : List ℕ) (cause : Cause) → ((said : Said) → line_said answer said ≡ said) → line.Down node cause ≡ answer → ⊥
quiet_down answer node cause quiet e = quiet_fall node cause (subst (λ l. (said : Said) → line_said l said ≡ said) (sym e) quiet)

pub not_last : (node : List ℕ) (cause : Cause) (lines : List Line) (answer : Line) → ((said : Said) → line_said answer said ≡ said) → In (line.Down node cause) (lines ++ answer ∷ []) → In (line.Down node cause) lines
not_last node cause lines answer quiet i = elim (in_parts (line.Down node cause) lines (answer ∷ []) i) [
  | inl j ↦ j
  | inr j ↦ elim j [ inl e ↦ absurd (quiet_down answer node cause quiet e) | inr x ↦ absurd x ]
]

-- A task of the node at a place that does not make its disk run again, and does not arm it.
pub task_told : (touched : List (List ℕ)) (place : ℕ) (task : Task) (answers ends : Bool) (ks : List NodeState) (s : SharedState) (a b : Shown) (k l : NodeState) (t : SharedState) → AreApart (kept_names ks) → slice_get ks place ≡ Some k → l.name ≡ k.name → is_named k.name touched ≡ true →
    (d : TellsTask task answers ends k s a b l t) → ((ending : Bool) (answer : Line) → powered_task task ending answer ≡ false) → ((calls : CallLog) → armed_task task calls ≡ calls) → lines_said d.lines (alone (said_node k) (said_shared s)) ≡ alone (said_node l) (said_shared t) →
    DisksFollowShown touched d.lines ks s (slice_set ks place l) t
task_told touched place task answers ends ks s a b k l t apart e same named d unpowered unarmed says = record {
  says = own_lines_say k.name (map said_node ks) d.lines (said_node k) (said_node l) (said_shared s) (said_shared t) d.own (said_found ks place k apart e) says ∙ ap (λ ns. record { nodes = ns; shared = said_shared t }) (said_put ks place k l apart e);
  names = names_set ks place k l e same;
  held = λ other x y f g down. elim (was_put ks place k l apart e other x y f g) [
    | Here p q ↦
        let i = d.held (ap (λ (z : NodeState). is_up z.place) (sym p) ∙ down) (ap (λ (u : Bool). u && not (is_boot_refusal d.answer)) (unpowered ends d.answer)) in
        (ap (λ (z : NodeState). is_up z.place) q ∙ i.0, subst (λ (z : NodeState). HoldsAs (disk_in z.place) (disk_in y.place)) (sym p) (subst (λ (z : NodeState). HoldsAs (disk_in k.place) (disk_in z.place)) (sym q) i.1))
    | There p q ↦ held_same x y p down
  ];
  each = λ other x y f g. elim (was_put ks place k l apart e other x y f g) [
    | Here p q ↦ subst (λ (z : NodeState). DiskFollowsShown z.name touched d.lines (disk_in z.place) (disk_in y.place)) (sym p) (subst (λ (z : NodeState). DiskFollowsShown k.name touched d.lines (disk_in k.place) (disk_in z.place)) (sym q) here)
    | There p q ↦ subst (λ (z : NodeState). DiskFollowsShown x.name touched d.lines (disk_in x.place) (disk_in z.place)) (sym p) (disk_same x.name touched d.lines (disk_in x.place) (λ cause i. q (own_down x.name k.name cause d.lines d.own i)))
  ];
}
  where
    here : DiskFollowsShown k.name touched d.lines (disk_in k.place) (disk_in l.place)
    here = record {
      calls = d.calls ∙ ap (λ (p : Bool). if p then noted (disk_call.Power (disk_in k.place).stops) (disk_in k.place).calls else armed_task task (disk_in k.place).calls) (unpowered ends d.answer) ∙ unarmed (disk_in k.place).calls;
      failures = d.failures;
      passes = d.passes;
      elsewhere = λ f. let no : true ≡ false = sym named ∙ f in let none : ⊥ = cc in absurd none;
    }
