-- The calls of the disk of each node after a statement.
use Rattle.std.specs.Prelude.{◌&&◌, not}
use Rattle.std.proofs.Common.{◌≡◌, ℕ, List, [], ◌∷◌, ◌++◌, Bool, true, false, ◌||◌, Option, Some, None, if◌then◌else◌, refl, sym, ◌∙◌, ap, subst}
use Rattle.std.specs.List.{last_or}
use Rattle.std.specs.Str.{bytes_eq}
use Rattle.std.proofs.lemmas.Bool.{false_from_ne_true}
use Rattle.std.proofs.lemmas.Slice.Eq.{bytes_eq-Decides}
use Rattle.block_disk.specs.Disk.{CallLog, noted}
use Rattle.block_disk.specs.declared.disk.DiskCall.TheVariants as disk_call
use Rattle.run_said.specs.transcript_model.Lines as line
use Rattle.run_said.specs.transcript_model.Lines.{Line}
use Rattle.run_said.specs.script_model.Statements.{At, Deliver, Fuse, LinkDown, Request, Says, Settle}
use Rattle.run_said.specs.Said.{Said, SaidNode, lines_said, line_said, node_in, said_here, with_use}
use Rattle.said_steps.specs.Calls.{CameUp, NamesDiffer, armed_by, calls_after, down_names, has_powered, has_used, is_boot_refusal, is_named, is_tried, refuses_boot, restarted, shows_boot, tried_last}
use Rattle.said_steps.proofs.OwnLines.{here_said, last_is}
use Rattle.said_steps.proofs.Restarted.{all_restarted, some_restarted}

-- Names.

its_name : (name : List ℕ) → bytes_eq name name ≡ true
its_name name = (bytes_eq-Decides name name).1 refl

other_name : (a b : List ℕ) → (a ≡ b → ⊥) → bytes_eq a b ≡ false
other_name a b ne = false_from_ne_true (bytes_eq a b) (λ e. ne ((bytes_eq-Decides a b).0 e))

named_append : (name : List ℕ) (xs ys : List (List ℕ)) → is_named name (xs ++ ys) ≡ is_named name xs || is_named name ys
named_append name [] ys = refl
named_append name (x ∷ xs) ys = go (bytes_eq name x) (named_append name xs ys)
  where
    go : (b : Bool) → is_named name (xs ++ ys) ≡ is_named name xs || is_named name ys → b || is_named name (xs ++ ys) ≡ (b || is_named name xs) || is_named name ys
    go true more = refl
    go false more = more

none_down : (name : List ℕ) (ns : List SaidNode) → node_in name ns ≡ None → is_named name (down_names ns) ≡ false
none_down name [] e = refl
none_down name (n ∷ ns) e = go (bytes_eq name n.name) n.up refl e (none_down name ns)
  where
    go : (b up : Bool) → bytes_eq name n.name ≡ b → ◌≡◌ {A = Option SaidNode} (if b then Some n else node_in name ns) None → (node_in name ns ≡ None → is_named name (down_names ns) ≡ false) → is_named name (if up then down_names ns else n.name ∷ down_names ns) ≡ false
    go true up is k more = let none : ⊥ = cc (k) in absurd none
    go false true is k more = more k
    go false false is k more = rw is (more k)

pub down_named : (name : List ℕ) (ns : List SaidNode) (n : SaidNode) → NamesDiffer ns → node_in name ns ≡ Some n → is_named name (down_names ns) ≡ not n.up
down_named name [] n apart e = let none : ⊥ = cc in absurd none
down_named name (x ∷ ns) n apart e = go (bytes_eq name x.name) refl e (down_named name ns n apart.1)
  where
    here : (up : Bool) → bytes_eq name x.name ≡ true → is_named name (if up then down_names ns else x.name ∷ down_names ns) ≡ not up
    here true is = none_down name ns (subst (λ y. node_in y ns ≡ None) (sym ((bytes_eq-Decides name x.name).0 is)) apart.0)
    here false is = rw is refl

    away : (up : Bool) → bytes_eq name x.name ≡ false → is_named name (down_names ns) ≡ not n.up → is_named name (if up then down_names ns else x.name ∷ down_names ns) ≡ not n.up
    away true is more = more
    away false is more = rw is more

    go : (b : Bool) → bytes_eq name x.name ≡ b → ◌≡◌ {A = Option SaidNode} (if b then Some x else node_in name ns) (Some n) → (node_in name ns ≡ Some n → is_named name (down_names ns) ≡ not n.up) → is_named name (down_names (x ∷ ns)) ≡ not n.up
    go true is k more = let same : x ≡ n = cc in here x.up is ∙ ap (λ (y : SaidNode). not y.up) same
    go false is k more = away x.up is (more k)

tried_here : (name : List ℕ) (o : Option Line) → is_named name (tried_last name o) ≡ is_tried o
tried_here name (Some line.NoMemory) = refl
tried_here name (Some _) = rw (its_name name) refl
tried_here name None = rw (its_name name) refl

tried_there : (name other : List ℕ) (o : Option Line) → (name ≡ other → ⊥) → is_named name (tried_last other o) ≡ false
tried_there name other (Some line.NoMemory) ne = refl
tried_there name other (Some _) ne = rw (other_name name other ne) refl
tried_there name other None ne = rw (other_name name other ne) refl

-- A settling in which each node came up that was down made the disks of these run again.
pub restarted_all : (name : List ℕ) (ns : List SaidNode) (n : SaidNode) (lines : List Line) → CameUp ns lines → NamesDiffer ns → node_in name ns ≡ Some n → is_named name (restarted ns lines) ≡ not n.up
restarted_all name ns n lines came apart e = ap (is_named name) (all_restarted ns lines came) ∙ down_named name ns n apart e

-- One that ended with the boot of a node made those run again in front of it, and its own perhaps.
module _ (front : List SaidNode) (m : SaidNode) (back : List SaidNode) (lines : List Line) (came : CameUp front lines) (down : m.up ≡ false) (none : shows_boot m.name lines ≡ false) where
  abbrev tail : List (List ℕ)
  tail = if m.unmade then [] else tried_last m.name (last_or None lines)

  split : (name : List ℕ) → is_named name (restarted (front ++ m ∷ back) lines) ≡ is_named name (down_names front) || is_named name tail
  split name = ap (is_named name) (some_restarted front m back lines came down none) ∙ named_append name (down_names front) tail

  tail_other : (name : List ℕ) → (name ≡ m.name → ⊥) → is_named name tail ≡ false
  tail_other name ne = go m.unmade
    where
      go : (b : Bool) → is_named name (if b then [] else tried_last m.name (last_or None lines)) ≡ false
      go true = refl
      go false = tried_there name m.name (last_or None lines) ne

  -- a node in front,
  pub restarted_before : (name : List ℕ) (n : SaidNode) → (name ≡ m.name → ⊥) → NamesDiffer front → node_in name front ≡ Some n → is_named name (restarted (front ++ m ∷ back) lines) ≡ not n.up
  restarted_before name n ne apart e = split name ∙ (λ i. down_named name front n apart e i || tail_other name ne i) ∙ or_false (not n.up)
    where
      or_false : (b : Bool) → b || false ≡ b
      or_false true = refl
      or_false false = refl

  -- the node itself,
  pub restarted_last : node_in m.name front ≡ None → is_named m.name (restarted (front ++ m ∷ back) lines) ≡ (if m.unmade then false else is_tried (last_or None lines))
  restarted_last e = split m.name ∙ ap (λ b. b || is_named m.name tail) (none_down m.name front e) ∙ go m.unmade
    where
      go : (b : Bool) → is_named m.name (if b then [] else tried_last m.name (last_or None lines)) ≡ (if b then false else is_tried (last_or None lines))
      go true = refl
      go false = tried_here m.name (last_or None lines)

  -- and one behind it
  pub restarted_behind : (name : List ℕ) → (name ≡ m.name → ⊥) → node_in name front ≡ None → is_named name (restarted (front ++ m ∷ back) lines) ≡ false
  restarted_behind name ne e = split name ∙ (λ i. none_down name front e i || tail_other name ne i)

-- Calls.

-- a disk of which a settling tells so
pub settling_calls : (name : List ℕ) (said : Said) (lines : List Line) (stops : ℕ) (calls : CallLog) (b : Bool) → is_named name (restarted said.nodes lines) ≡ b → calls_after name said Settle lines stops calls ≡ (if b then noted (disk_call.Power stops) calls else calls)
settling_calls name said lines stops calls b e = ap (λ x. if x then noted (disk_call.Power stops) calls else armed_by name Settle (last_or None lines) calls) e ∙ go (last_or None lines)
  where
    go : (o : Option Line) → ◌≡◌ {A = CallLog} (if b then noted (disk_call.Power stops) calls else armed_by name Settle o calls) (if b then noted (disk_call.Power stops) calls else calls)
    go o = refl

-- a message and a lost link neither arm a disk nor make one run again
pub delivery_calls : (name : List ℕ) (said : Said) (number : ℕ) (lines : List Line) (stops : ℕ) (calls : CallLog) → calls_after name said (Deliver number) lines stops calls ≡ calls
delivery_calls name said number lines stops calls = refl

pub link_calls : (name : List ℕ) (said : Said) (a b : List ℕ) (lines : List Line) (stops : ℕ) (calls : CallLog) → calls_after name said (LinkDown a b) lines stops calls ≡ calls
link_calls name said a b lines stops calls = refl

armed_other : (name node : List ℕ) (request : Request) (o : Option Line) (calls : CallLog) → (name ≡ node → ⊥) → armed_by name (At node request) o calls ≡ calls
armed_other name node (Fuse writes choice) (Some line.Normal) calls ne = rw (other_name name node ne) refl
armed_other name node (Fuse writes choice) (Some _) calls ne = refl
armed_other name node (Fuse writes choice) None calls ne = refl
armed_other name node _ o calls ne = refl

-- a request to another node
pub other_calls : (name node : List ℕ) (said : Said) (request : Request) (lines : List Line) (answer : Line) (stops : ℕ) (calls : CallLog) → (name ≡ node → ⊥) → calls_after name said (At node request) (lines ++ answer ∷ []) stops calls ≡ calls
other_calls name node said request lines answer stops calls ne =
    ap (λ (o : Option Line). if is_named name (elim o [ Some a ↦ (if has_powered request a then node ∷ [] else []) | None ↦ [] ]) then noted (disk_call.Power stops) calls else armed_by name (At node request) o calls) (last_is None lines answer) ∙ go (has_powered request answer)
  where
    go : (b : Bool) → ◌≡◌ {A = CallLog} (if is_named name (if b then node ∷ [] else []) then noted (disk_call.Power stops) calls else armed_by name (At node request) (Some answer) calls) calls
    go true = rw (other_name name node ne) (armed_other name node request (Some answer) calls ne)
    go false = armed_other name node request (Some answer) calls ne

-- a request to the node itself
pub own_calls : (name : List ℕ) (said : Said) (request : Request) (lines : List Line) (answer : Line) (stops : ℕ) (calls : CallLog) →
    calls_after name said (At name request) (lines ++ answer ∷ []) stops calls ≡ (if has_powered request answer then noted (disk_call.Power stops) calls else armed_by name (At name request) (Some answer) calls)
own_calls name said request lines answer stops calls =
    ap (λ (o : Option Line). if is_named name (elim o [ Some a ↦ (if has_powered request a then name ∷ [] else []) | None ↦ [] ]) then noted (disk_call.Power stops) calls else armed_by name (At name request) o calls) (last_is None lines answer) ∙ go (has_powered request answer)
  where
    go : (b : Bool) → ◌≡◌ {A = CallLog} (if is_named name (if b then name ∷ [] else []) then noted (disk_call.Power stops) calls else armed_by name (At name request) (Some answer) calls) (if b then noted (disk_call.Power stops) calls else armed_by name (At name request) (Some answer) calls)
    go true = rw (its_name name) refl
    go false = refl

-- What is said once a settling, a delivery or a lost link was answered so, where the answer itself says nothing.
pub settling_said : (lines : List Line) (answer : Line) (said : Said) → ((x : Said) → line_said answer x ≡ x) → said_here (Says Settle) (lines ++ answer ∷ []) said ≡ with_use (lines_said lines said)
settling_said lines answer said quiet = ap (λ (o : Option Line). elim o [ Some a ↦ with_use (lines_said (lines ++ answer ∷ []) said) | None ↦ said ]) (last_is None lines answer) ∙ ap with_use (here_said lines answer said quiet)

pub delivery_said : (number : ℕ) (lines : List Line) (answer : Line) (said : Said) → ((x : Said) → line_said answer x ≡ x) → said_here (Says (Deliver number)) (lines ++ answer ∷ []) said ≡ lines_said lines said
delivery_said number lines answer said quiet = ap (λ (o : Option Line). elim o [ Some a ↦ lines_said (lines ++ answer ∷ []) said | None ↦ said ]) (last_is None lines answer) ∙ here_said lines answer said quiet

pub link_said : (a b : List ℕ) (lines : List Line) (answer : Line) (said : Said) → ((x : Said) → line_said answer x ≡ x) → said_here (Says (LinkDown a b)) (lines ++ answer ∷ []) said ≡ lines_said lines said
link_said a b lines answer said quiet = ap (λ (o : Option Line). elim o [ Some c ↦ lines_said (lines ++ answer ∷ []) said | None ↦ said ]) (last_is None lines answer) ∙ here_said lines answer said quiet

-- Whether a disk was used that was made to run again.

used_by : (powered shows refusal : Bool) → powered && (shows || not refusal) ≡ false → powered && not refusal ≡ false
used_by true true refusal e = let none : ⊥ = cc in absurd none
used_by true false refusal e = e
used_by false shows refusal e = refl

-- by a request to the node itself
pub used_request : (name : List ℕ) (said : Said) (request : Request) (lines : List Line) (answer : Line) → has_used name said (At name request) (lines ++ answer ∷ []) ≡ false → has_powered request answer && not (is_boot_refusal answer) ≡ false
used_request name said request lines answer unused =
    used_by (has_powered request answer) (shows_boot name (lines ++ answer ∷ [])) (is_boot_refusal answer)
    (ap (λ x. x && (shows_boot name (lines ++ answer ∷ []) || not (is_boot_refusal answer))) (sym (named (has_powered request answer)))
    ∙ ap (λ (o : Option Line). is_named name (elim o [ Some a ↦ (if has_powered request a then name ∷ [] else []) | None ↦ [] ]) && (shows_boot name (lines ++ answer ∷ []) || not (refuses_boot o))) (sym (last_is None lines answer)) ∙ unused)
  where
    named : (b : Bool) → is_named name (if b then name ∷ [] else []) ≡ b
    named true = rw (its_name name) refl
    named false = refl

-- and by a settling: that of a node that came up,
pub used_came : (name : List ℕ) (said : Said) (lines : List Line) → is_named name (restarted said.nodes lines) ≡ true → shows_boot name lines ≡ true → has_used name said Settle lines ≡ true
used_came name said lines named shown = (λ i. named i && (shown i || not (refuses_boot (last_or None lines))))

-- and that of the one that did not
pub used_stuck : (name : List ℕ) (said : Said) (lines : List Line) (answer : Line) (powered : Bool) → is_named name (restarted said.nodes (lines ++ answer ∷ [])) ≡ powered → shows_boot name (lines ++ answer ∷ []) ≡ false → has_used name said Settle (lines ++ answer ∷ []) ≡ false → powered && not (is_boot_refusal answer) ≡ false
used_stuck name said lines answer powered named none unused =
    (λ i. sym named i && (sym none i || not (is_boot_refusal answer))) ∙ ap (λ (o : Option Line). is_named name (restarted said.nodes (lines ++ answer ∷ [])) && (shows_boot name (lines ++ answer ∷ []) || not (refuses_boot o))) (sym (last_is None lines answer)) ∙ unused
