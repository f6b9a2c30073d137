-- The line of a last settlement is shown by a boot of its node, and by nothing else.
use Rattle.std.proofs.Common.{◌≡◌, ◌≤◌, ℕ, ◌⊎◌, zero, suc, List, [], ◌∷◌, ◌++◌, inl, inr, take, Bool, true, false, not, ◌||◌, Option, Some, None, if◌then◌else◌, refl, sym, ◌∙◌, ap, subst}
use Rattle.std.proofs.lemmas.Bool.{both_ways}
use Rattle.vms_model.specs.Ids.{Id}
use Rattle.vms_model.specs.Transactions.{Outcome, Commit, Abort, Reason}
use Rattle.run_said.specs.transcript_model.Lines as line
use Rattle.run_said.specs.transcript_model.Lines.{Line, Cause}
use Rattle.run_said.specs.script_model.Statements.{Statement, At, Deliver, LinkDown, Settle, Reading, Blank, Says, Bad, Request, Init, Boot, Fuse, Clock}
use Rattle.run_said.specs.script_model.Grammar.{reading}
use Rattle.commit_protocol.specs.Messages.{Message}
use Rattle.commit_protocol.specs.Table as table
use Rattle.commit_protocol.specs.Table.{Key as BranchKey, Settles, Undoes}
use Rattle.commit_protocol.specs.World.{In}
use Rattle.run_said.specs.run_model.World.{World, Shared, Node, DiskCounts, Act, Boots, Directs, Tables, IsOpening, LastIsReached, Outturn, Settlement, find_node, opened, powered}
use Rattle.run_said.specs.run_model.Operations.{refused_if}
use Rattle.run_said.specs.run_model.Answers.{Row, Service, Task, LosesLink, Restarts, RunsDown, Serves, Takes, Ticks, last_line, powers, refused_before_reading, service, settled_line, spoils, task_service}
use Rattle.run_said.specs.run_model.Steps.{Choice, Cut, TaskAllowed, Unpowered, Whole, WithoutMemory, begun, lines_of_rows, node_after, ready_node, rows_if, rows_to_cut, task_effect, whole, with_unknown_volume}
use Rattle.run_said.specs.run_model.Statements.{Part, Asks, Does, PartEffect, Begins, Phases, Step, Allowed, RoseAt, begun_with, message_at, part_effect, phases_of, refused_at_once, stops_at}
use Rattle.run_said.specs.run_model.StepLaws.{TaskAt, task_of_part}
use Rattle.run_said.specs.run_model.Transcript.{Entry, Legal, AreOpening, Turn}
use Rattle.run_said.proofs.run_model.NodeLists.{found_name, some_is}
use Rattle.run_said.proofs.run_model.TaskLemmas.{effect_name}
use Rattle.run_said.proofs.run_model.PartLemmas.{EachPart, EachPhase, phases_fold}
use Rattle.run_said.proofs.run_model.PartTasks.{View, Doing, Fixed, all_asked, each_restart, each_run_down, each_up, view}
use Rattle.run_said.proofs.run_model.Refusing.{each_phase}
use Rattle.recovery_laws.specs.world_laws.Nodes.{IsKeptNode}
use Rattle.recovery_laws.proofs.world_laws.AnswerLemmas.{neither, not_refused}
use Rattle.recovery_laws.proofs.world_laws.WorldLemmas.{each_opening}
use Rattle.run_laws.specs.Promises.{WasLast, WasShownSo, abort, commitment, last_in, settlement_in, settlements_of}
use Rattle.run_laws.specs.Laws.{LastsHold}
use Rattle.run_laws.proofs.AllShown.{IsFormed, legal_shown}
use Rattle.run_laws.proofs.EachRow.{ArePlain, closing_plain, is_plain}
use Rattle.run_laws.proofs.LastSettled.{lasts_settled, left_found}
use Rattle.run_laws.proofs.NewestLast.{newest_last}
use Rattle.run_laws.proofs.OwnLines.{line_in, task_owns}
use Rattle.run_laws.proofs.RowFits.{EachFits, Fits, RowFits, TellsAct, free_after, task_fits}
use Rattle.run_laws.proofs.ShownSettled.{answer_plain, here_in, in_append}
use Rattle.run_laws.proofs.SoundWorlds.{IsSound, begins_sound, legal_sound, opening_sound, part_sound, sound_node}
use Rattle.run_laws.proofs.Staying.{find_put, stays}

-- Lines that show no last settlement.

abbrev pub NoLast : List Line → Type 0
NoLast ls = (l : Line) (s : Settlement) → In l ls → last_in l ≡ Some s → ⊥

pub plain_one : (l : Line) (s : Settlement) → is_plain l ≡ true → last_in l ≡ Some s → ⊥
plain_one (line.LastCommitted tid serial moment) s h e = cc
plain_one (line.LastAborted tid serial reason moment) s h e = cc
plain_one _ s h e = cc

plain_last : (ls : List Line) → ArePlain ls → NoLast ls
plain_last [] h l s i e = i
plain_last (x ∷ ls) h l s i e = elim i [ inl same ↦ plain_one x s h.0 (ap last_in (sym same) ∙ e) | inr j ↦ plain_last ls h.1 l s j e ]

pub none_last : NoLast []
none_last l s i e = i

pub append_last : (xs ys : List Line) → NoLast xs → NoLast ys → NoLast (xs ++ ys)
append_last xs ys h k l s i e = elim (in_append l xs ys i) [ inl j ↦ h l s j e | inr j ↦ k l s j e ]

-- rows at a node that is up
pub settled_last : (k : BranchKey) (o : Outcome) (reason : Reason) (moment : ℕ) → NoLast (settled_line k o reason moment ∷ [])
settled_last k Commit reason moment l s (inl same) e = let no : ◌≡◌ {A = Option Settlement} None (Some s) = sym (ap last_in same) ∙ e in cc
settled_last k Abort reason moment l s (inl same) e = let no : ◌≡◌ {A = Option Settlement} None (Some s) = sym (ap last_in same) ∙ e in cc
settled_last k o reason moment l s (inr i) e = i

row_last : (free : Bool) (r : Row) (n : Node) → RowFits free r n → NoLast r.lines
row_last free r n f = go r.act f.fits f.tells
  where
    tabled : (x : table.Act) (moment : ℕ) → Fits free (Some (Tables x moment)) n → TellsAct (Some (Tables x moment)) r.lines n → NoLast r.lines
    tabled (Settles k o reason q) moment g t = subst NoLast (sym t) (settled_last k o reason moment)
    tabled (Undoes k) moment g t = absurd g.row
    tabled _ moment g t = plain_last r.lines t

    go : (o : Option Act) → Fits free o n → TellsAct o r.lines n → NoLast r.lines
    go None g t = plain_last r.lines t
    go (Some (Tables x moment)) g t = tabled x moment g t
    go (Some (Directs file cs s)) g t = subst NoLast (sym t) (λ l x i e. elim i [ inl same ↦ (let no : ◌≡◌ {A = Option Settlement} None (Some x) = sym (ap last_in same) ∙ e in let never : ⊥ = cc in never) | inr j ↦ j ])
    go (Some Boots) g t = absurd g
    go (Some _) g t = plain_last r.lines t

rows_last : (j : ℕ) (free : Bool) (rs : List Row) (n : Node) → EachFits free rs n → NoLast (lines_of_rows (take j rs))
rows_last zero free rs n f = none_last
rows_last (suc j) free [] n f = none_last
rows_last (suc j) free (r ∷ rs) n f = append_last r.lines (lines_of_rows (take j rs)) (row_last free r n f.0) (rows_last j (free_after free r.act) rs (node_after r.act n) f.1)

all_last : (free : Bool) (rs : List Row) (n : Node) → EachFits free rs n → NoLast (lines_of_rows rs)
all_last free [] n f = none_last
all_last free (r ∷ rs) n f = append_last r.lines (lines_of_rows rs) (row_last free r n f.0) (all_last (free_after free r.act) rs (node_after r.act n) f.1)

-- A task that does not boot its node.

abbrev pub boots : Task → Bool
boots (Serves Boot) = true
boots Restarts = true
boots _ = false

down_last : (name : List ℕ) (cause : Cause) → NoLast (line.Down name cause ∷ [])
down_last name cause = plain_last (line.Down name cause ∷ []) (refl, tt)

module _ (s : Shared) (stops : ℕ) (n : Node) (task : Task) (kept : IsKeptNode s n) (off : powers (task_service task) ≡ false) where
  abbrev e : Service
  e = task_service task

  abbrev rows : List Row
  rows = e.rows s n

  -- where the node is down, it shows nothing
  served_down : n.up ≡ false → refused_before_reading s n e ≡ None → lines_of_rows rows ≡ []
  served_down down first = of_task task (go e.while_down (subst (λ up. not (up || e.while_down) ≡ false) down (not_refused _ line.NodeDown (neither (refused_if (not (n.up || e.while_down)) line.NodeDown) (e.refused_before_reading s n) first).0))) off
    where
      go : (b : Bool) → not (false || b) ≡ false → b ≡ true
      go true q = refl
      go false q = let no : ⊥ = cc in absurd no

      of_request : (r : Request) → (service r).while_down ≡ true → powers (service r) ≡ false → lines_of_rows ((service r).rows s n) ≡ []
      of_request (Fuse writes choice) q p = refl
      of_request (Clock now) q p = refl
      of_request (Init slots journal) q p = refl
      of_request Boot q p = let no : ⊥ = cc in absurd no
      of_request _ q p = let no : ⊥ = cc in absurd no

      of_task : (u : Task) → (task_service u).while_down ≡ true → powers (task_service u) ≡ false → lines_of_rows ((task_service u).rows s n) ≡ []
      of_task (Serves r) q p = of_request r q p
      of_task Restarts q p = let no : ⊥ = cc in absurd no
      of_task _ q p = let no : ⊥ = cc in absurd no

  none_taken : (j : ℕ) (rs : List Row) → lines_of_rows rs ≡ [] → NoLast (lines_of_rows (take j rs))
  none_taken zero rs h = none_last
  none_taken (suc j) [] h = none_last
  none_taken (suc j) (r ∷ rs) h = append_last r.lines (lines_of_rows (take j rs)) (λ l x i f. subst (In l) (both r.lines (lines_of_rows rs) h).0 i) (none_taken j rs (both r.lines (lines_of_rows rs) h).1)
    where
      both : (xs ys : List Line) → xs ++ ys ≡ [] → (xs ≡ []) × (ys ≡ [])
      both [] ys q = (refl, q)
      both (x ∷ xs) ys q = let no : ⊥ = cc in absurd no

  rows_show : refused_before_reading s n e ≡ None → e.refused_after_reading s n ≡ None → (j : ℕ) → NoLast (lines_of_rows (take j rows)) × NoLast (lines_of_rows rows)
  rows_show first late j = go n.up refl
    where
      go : (b : Bool) → n.up ≡ b → NoLast (lines_of_rows (take j rows)) × NoLast (lines_of_rows rows)
      go true up = let f = task_fits s n task kept up off first late in (rows_last j false rows n f, all_last false rows n f)
      go false down = let none = served_down down first in (none_taken j rows none, λ l x i f. subst (In l) none i)

  quiet_last : (c : Choice) (rises : Cause → Type 0) → TaskAllowed s stops n task rises c → NoLast (task_effect s stops n task c).lines
  quiet_last (Whole o) rises may = subst (λ m. NoLast (whole s n m e (refused_before_reading s n e)).lines) (sym (same o)) (go (refused_before_reading s n e) refl)
    where
      same : (o : Outturn) → ready_node o stops e n ≡ n
      same o = ap (λ b. if b then with_unknown_volume (spoils e) (powered o stops n) else n) off

      late : refused_before_reading s n e ≡ None → (q : Option Line) → e.refused_after_reading s n ≡ q → NoLast (begun s n e q).lines
      late first (Some refusal) is = none_last
      late first None is = append_last (lines_of_rows rows) (e.closing_lines n) (rows_show first is 0).1 (plain_last (e.closing_lines n) (closing_plain n task))

      go : (q : Option Line) → refused_before_reading s n e ≡ q → NoLast (whole s n n e q).lines
      go (Some refusal) is = none_last
      go None is = late is (e.refused_after_reading s n) refl
  quiet_last WithoutMemory rises may = none_last
  quiet_last Unpowered rises may = absurd (both_ways (powers e) off may.1)
  quiet_last (Cut o j b cause) rises may = subst (λ m. NoLast (lines_of_rows (take j (rows_to_cut s m e)) ++ line.Down m.name cause ∷ [])) (sym (ap (λ t. if t then with_unknown_volume (spoils e) (powered o stops n) else n) off))
      (append_last (lines_of_rows (take j (rows_to_cut s n e))) (line.Down n.name cause ∷ []) (go (e.refused_after_reading s n) refl) (down_last n.name cause))
    where
      go : (q : Option Line) → e.refused_after_reading s n ≡ q → NoLast (lines_of_rows (take j (rows_if q rows)))
      go (Some refusal) is = none_taken j [] refl
      go None is = (rows_show may.0 is j).0

-- one that makes a volume
init_last : (s : Shared) (stops : ℕ) (n : Node) (slots journal : ℕ) (c : Choice) → NoLast (task_effect s stops n (Serves (Init slots journal)) c).lines
init_last s stops n slots journal (Whole o) = go (refused_before_reading s n (service (Init slots journal)))
  where
    go : (q : Option Line) → NoLast (whole s n (ready_node o stops (service (Init slots journal)) n) (service (Init slots journal)) q).lines
    go (Some refusal) = none_last
    go None = none_last
init_last s stops n slots journal WithoutMemory = none_last
init_last s stops n slots journal Unpowered = down_last n.name line.Failed
init_last s stops n slots journal (Cut o j b cause) = append_last (lines_of_rows (take j [])) (line.Down (ready_node o stops (service (Init slots journal)) n).name cause ∷ []) (none j) (down_last _ cause)
  where
    none : (j : ℕ) → NoLast (lines_of_rows (take j []))
    none zero = none_last
    none (suc j) = none_last

else_task : (task : Task) → boots task ≡ false → (powers (task_service task) ≡ false) ⊎ ((slots : ℕ) × (journal : ℕ) × (task ≡ Serves (Init slots journal)))
else_task (Serves r) off = go r off
  where
    go : (r : Request) → boots (Serves r) ≡ false → (powers (service r) ≡ false) ⊎ ((slots : ℕ) × (journal : ℕ) × (Serves r ≡ Serves (Init slots journal)))
    go (Init slots journal) f = inr (slots, journal, refl)
    go Boot f = let no : ⊥ = cc in absurd no
    go _ f = inl refl
else_task Restarts off = let no : ⊥ = cc in absurd no
else_task _ off = inl refl

pub else_last : (s : Shared) (stops : ℕ) (n : Node) (task : Task) (c : Choice) (rises : Cause → Type 0) → IsKeptNode s n → boots task ≡ false → TaskAllowed s stops n task rises c → NoLast (task_effect s stops n task c).lines
else_last s stops n task c rises kept off may = elim (else_task task off) [
  | inl quiet ↦ quiet_last s stops n task kept quiet c rises may
  | inr made ↦ subst (λ t. NoLast (task_effect s stops n t c).lines) (sym made.2) (init_last s stops n made.0 made.1 c)
]

-- Parts and statements.

-- lines in which each last settlement is shown by a boot of its node, or by a settling
abbrev Booted : Reading → List Line → Type 0
Booted said ls = (l : Line) (s : Settlement) → In l ls → last_in l ≡ Some s → (said ≡ Says (At s.serial.node Boot)) ⊎ (said ≡ Says Settle)

-- a part of a statement shows them so
abbrev PartBoots : Statement → Part → Type 0
PartBoots s p = (w : World) (c : Choice) (after : List DiskCounts) → IsSound w → Allowed w p after c → Booted (Says s) (part_effect w p c).lines

none_booted : (said : Reading) (ls : List Line) → NoLast ls → Booted said ls
none_booted said ls h l s i e = absurd (h l s i e)

part_else : (s : Statement) (p : Part) → ((w : World) (t : TaskAt) → task_of_part w p ≡ Some t → boots t.task ≡ false) → PartBoots s p
part_else s p off w c after sound allowed = go (view w p)
  where
    go : View w p → Booted (Says s) (part_effect w p c).lines
    go (Fixed answer ends kind is) = subst (λ (x : PartEffect). Booted (Says s) x.lines) (sym (is c)) (none_booted (Says s) [] none_last)
    go (Doing node t n named found does may) = subst (λ (x : PartEffect). Booted (Says s) x.lines) (sym (does c))
        (none_booted (Says s) _ (else_last w.shared (stops_at node w) n t c (λ cause. RoseAt w node cause after) (sound_node w sound node n found).kept (off w _ named) (may after c allowed)))

does_else : (s : Statement) (node : List ℕ) (t : Task) → boots t ≡ false → PartBoots s (Does node t)
does_else s node t off = part_else s (Does node t) (λ w x e. subst (λ (y : TaskAt). boots y.task ≡ false) (sym (some_is x (record { node = node; task = t }) (sym e))) off)

-- a boot is one of its node
boot_part : (node : List ℕ) → PartBoots (At node Boot) (Does node (Serves Boot))
boot_part node w c after sound allowed = go (view w (Does node (Serves Boot)))
  where
    last_settlement : (l : Line) (s : Settlement) → last_in l ≡ Some s → settlement_in l ≡ Some s
    last_settlement (line.LastCommitted tid serial moment) s e = e
    last_settlement (line.LastAborted tid serial reason moment) s e = e
    last_settlement _ s e = let no : ⊥ = cc in absurd no

    go : View w (Does node (Serves Boot)) → Booted (Says (At node Boot)) (part_effect w (Does node (Serves Boot)) c).lines
    go (Fixed answer ends kind is) = subst (λ (x : PartEffect). Booted (Says (At node Boot)) x.lines) (sym (is c)) (none_booted (Says (At node Boot)) [] none_last)
    go (Doing other t n named found does may) = subst (λ (x : PartEffect). Booted (Says (At node Boot)) x.lines) (sym (does c))
        (λ l s i e. inl (ap (λ x. Says (At x Boot)) (sym (
        task_owns w.shared (stops_at other w) n t c (λ cause. RoseAt w other cause after) (sound_node w sound other n found) (may after c allowed) s (line_in (task_effect w.shared (stops_at other w) n t c).lines l s [] i (last_settlement l s e))
        ∙ found_name other w.nodes n found ∙ ap (λ (x : TaskAt). x.node) (sym (some_is _ _ named))))))

settle_part : (p : Part) → PartBoots Settle p
settle_part p w c after sound allowed l s i e = inr refl

append_booted : (said : Reading) (xs ys : List Line) → Booted said xs → Booted said ys → Booted said (xs ++ ys)
append_booted said xs ys h k l s i e = elim (in_append l xs ys i) [ inl j ↦ h l s j e | inr j ↦ k l s j e ]

phases_boot : (s : Statement) → EachPhase (PartBoots s) (phases_of s)
phases_boot Settle = ((λ u. each_restart (PartBoots Settle) (λ x. settle_part (Does x Restarts)) u.nodes), ((λ u. each_run_down (PartBoots Settle) (λ x. settle_part (Does x RunsDown)) u.nodes), ((λ u. all_asked (PartBoots Settle) (λ x y. settle_part (Asks x y)) u.nodes), tt)))
phases_boot (Deliver number) = ((λ u. delivered (message_at number u.shared.wire)), tt)
  where
    delivered : (o : Option Message) → EachPart (PartBoots (Deliver number)) (elim o [ Some m ↦ Does m.to (Takes m) ∷ [] | None ↦ [] ])
    delivered (Some m) = (does_else (Deliver number) m.to (Takes m) refl, tt)
    delivered None = tt
phases_boot (LinkDown a b) = ((λ u. each_up (PartBoots (LinkDown a b)) a (LosesLink b) (does_else (LinkDown a b) a (LosesLink b) refl) u), ((λ u. each_up (PartBoots (LinkDown a b)) b (LosesLink a) (does_else (LinkDown a b) b (LosesLink a) refl) u), tt))
phases_boot (At node request) = go request
  where
    go : (r : Request) → EachPhase (PartBoots (At node r)) (phases_of (At node r))
    go Boot = ((λ u. (boot_part node, tt)), tt)
    go (Clock now) = ((λ u. (does_else (At node (Clock now)) node (Serves (Clock now)) refl, tt)), ((λ u. each_up (PartBoots (At node (Clock now))) node Ticks (does_else (At node (Clock now)) node Ticks refl) u), tt))
    go r = ((λ u. (does_else (At node r) node (Serves r) refl, tt)), tt)

step_boots : (w v : World) (s : Statement) (lines : List Line) → Step w s lines v → IsSound w → Booted (Says s) lines
step_boots w v s lines step sound = subst (Booted (Says s)) (sym step.shows) (append_booted (Says s) step.events (step.answer ∷ []) (go (refused_at_once w s) step.does) (none_booted (Says s) (step.answer ∷ []) (plain_last (step.answer ∷ []) (answer_plain w v s lines step, tt))))
  where
    go : (o : Option Line) → Begins o (Phases (phases_of s) v.disks (begun_with s w) line.Normal) w step.events step.answer step.world → Booted (Says s) step.events
    go (Some refusal) d = subst (Booted (Says s)) (sym d.0) (none_booted (Says s) [] none_last)
    go None d = phases_fold v.disks (PartBoots s) (λ given. Unit {0}) (λ u rest answer x. IsSound u → Booted (Says s) rest)
        (λ u given q sd. none_booted (Says s) [] none_last)
        (λ u p c ok allowed ends sd. ok u c v.disks sd allowed)
        (λ u p c ok allowed on. (tt, λ rest answer x more sd. append_booted (Says s) (part_effect u p c).lines rest (ok u c v.disks sd allowed) (more (part_sound u p c v.disks allowed sd))))
        (phases_of s) (phases_boot s) (begun_with s w) line.Normal step.events step.answer step.world tt d (begins_sound s w sound)

turn_boots : (w v : World) (r : Reading) (lines : List Line) → Turn w r lines v → IsSound w → Booted r lines
turn_boots w v Blank lines t sound = subst (Booted Blank) (sym t.0) (none_booted Blank [] none_last)
turn_boots w v (Says s) lines t sound = step_boots w v s lines t sound
turn_boots w v (Bad column) lines t sound = absurd t

-- A node stays there.

abbrev Has : List ℕ → World → Type 0
Has node w = (n : Node) × (find_node node w.nodes ≡ Some n)

part_has : (node : List ℕ) (w : World) (p : Part) (c : Choice) → Has node w → Has node (part_effect w p c).world
part_has node w p c has = go (view w p)
  where
    go : View w p → Has node (part_effect w p c).world
    go (Fixed answer ends kind is) = subst (λ (x : PartEffect). Has node x.world) (sym (is c)) has
    go (Doing other t n named found does may) =
        let e = task_effect w.shared (stops_at other w) n t c in
        subst (λ (x : PartEffect). Has node x.world) (sym (does c)) (elim (find_put node other n e.node w.nodes (effect_name w.shared (stops_at other w) n t c) found) [
          | inl same ↦ (has.0, same ∙ has.1)
          | inr both ↦ (e.node, both.0)
        ])

step_has : (node : List ℕ) (w v : World) (s : Statement) (lines : List Line) → Step w s lines v → Has node w → Has node v
step_has node w v s lines step has = subst (Has node) (sym step.goes) (go (refused_at_once w s) step.does)
  where
    begins : (s : Statement) → Has node w → Has node (begun_with s w)
    begins Settle h = h
    begins (At other request) h = h
    begins (Deliver number) h = h
    begins (LinkDown a b) h = h

    go : (o : Option Line) → Begins o (Phases (phases_of s) v.disks (begun_with s w) line.Normal) w step.events step.answer step.world → Has node (record step.world { disks = v.disks })
    go (Some refusal) d = subst (λ (x : World). Has node (record x { disks = v.disks })) (sym d.2) has
    go None d = phases_fold v.disks (λ p. Unit {0}) (λ given. Unit {0}) (λ u rest answer x. Has node u → Has node (record x { disks = v.disks }))
        (λ u given q h. h)
        (λ u p c ok allowed ends h. part_has node u p c h)
        (λ u p c ok allowed on. (tt, λ rest answer x more h. more (part_has node u p c h)))
        (phases_of s) (each_phase s) (begun_with s w) line.Normal step.events step.answer step.world tt d (begins s has)

turn_has : (node : List ℕ) (w v : World) (r : Reading) (lines : List Line) → Turn w r lines v → Has node w → Has node v
turn_has node w v Blank lines t has = subst (Has node) (sym t.1) has
turn_has node w v (Says s) lines t has = step_has node w v s lines t has
turn_has node w v (Bad column) lines t has = absurd t

pub legal_has : (node : List ℕ) (opening w : World) (es : List Entry) → Legal opening es w → Has node opening → Has node w
legal_has node opening w [] legal has = subst (Has node) (sym legal) has
legal_has node opening w (e ∷ es) legal has = turn_has node legal.0 w (reading e.source.text) e.lines legal.2 (legal_has node opening legal.0 es legal.1 has)

-- The promise.

-- one line is another
one_line : (x y : Line) → x ∷ [] ≡ y ∷ [] → x ≡ y
one_line x y q = cc

-- the settlement whose line is one that shows a last settlement
pub line_of : (t s : Settlement) (l : Line) → IsFormed t → last_line t ≡ l ∷ [] → last_in l ≡ Some s → t ≡ s
line_of t s l (inl is) e f =
    let one : line.LastCommitted t.tid t.serial t.moment ≡ l = one_line _ l (sym (ap last_line is) ∙ e) in
    is ∙ sym (some_is s (commitment t.tid t.serial t.moment) (sym f ∙ ap last_in (sym one)))
line_of t s l (inr r) e f =
    let one : line.LastAborted t.tid t.serial r.0 t.moment ≡ l = one_line _ l (sym (ap last_line r.1) ∙ e) in
    r.1 ∙ sym (some_is s (abort t.tid t.serial r.0 t.moment) (sym f ∙ ap last_in (sym one)))

-- at least its branch, whatever the disk had
pub serial_of : (t s : Settlement) (l : Line) → last_line t ≡ l ∷ [] → last_in l ≡ Some s → s.serial ≡ t.serial
serial_of t s l e f = go t.outcome t.reason e
  where
    go : (o : Outcome) (r : Option Reason) → (elim o as (λ x. List Line) [ Commit ↦ line.LastCommitted t.tid t.serial t.moment ∷ [] | Abort ↦ elim r as (λ x. List Line) [ Some reason ↦ line.LastAborted t.tid t.serial reason t.moment ∷ [] | None ↦ [] ] ]) ≡ l ∷ [] → s.serial ≡ t.serial
    go Commit r q = ap (λ (x : Settlement). x.serial) (some_is s (commitment t.tid t.serial t.moment) (sym f ∙ ap last_in (sym (one_line _ l q))))
    go Abort (Some reason) q = ap (λ (x : Settlement). x.serial) (some_is s (abort t.tid t.serial reason t.moment) (sym f ∙ ap last_in (sym (one_line _ l q))))
    go Abort None q = let no : ⊥ = cc in absurd no

-- the node of the branch of a last settlement of an opening disk
pub opening_own : (nodes : List Node) (disks : List DiskCounts) (node : List ℕ) (s : Settlement) (l : Line) → (es : List Entry) → AreOpening nodes → WasLast node l (opened nodes disks) es → last_in l ≡ Some s → s.serial.node ≡ node
opening_own nodes disks node s l es opening was f = go (was.0).durable.last refl was.2
  where
    found : find_node node nodes ≡ Some was.0
    found = left_found node es (opened nodes disks) was.0 was.1

    of : IsOpening was.0
    of = each_opening nodes opening node was.0 found

    go : (o : Option Settlement) → (was.0).durable.last ≡ o → (elim o as (λ x. List Line) [ Some t ↦ last_line t | None ↦ [] ]) ≡ l ∷ [] → s.serial.node ≡ node
    go (Some t) e q =
        let reached : LastIsReached was.0 (Some t) = subst (LastIsReached was.0) e of.last in
        ap (λ (x : Id). x.node) (serial_of t s l q f) ∙ reached.0 ∙ found_name node nodes was.0 found
    go None e q = let no : ⊥ = cc in absurd no

-- that of one that a node settled
pub settled_own : (nodes : List Node) (disks : List DiskCounts) (es : List Entry) (closing : World) (node : List ℕ) (s t : Settlement) (l : Line) → AreOpening nodes → Legal (opened nodes disks) es closing → In t (settlements_of node closing) → last_line t ≡ l ∷ [] → last_in l ≡ Some s →
    (s.serial.node ≡ node) × In s (settlements_of node closing) × Has node closing
settled_own nodes disks es closing node s t l opening legal i e f = go (find_node node closing.nodes) refl i
  where
    go : (o : Option Node) → find_node node closing.nodes ≡ o → In t (elim o as (λ x. List Settlement) [ Some n ↦ n.settled | None ↦ [] ]) → (s.serial.node ≡ node) × In s (settlements_of node closing) × Has node closing
    go (Some n) found j =
        let formed = (legal_shown nodes disks es closing node opening legal n found).disk.formed t j in
        let same = line_of t s l formed e f in
        let own = ((legal_sound (opened nodes disks) closing es (opening_sound nodes disks opening) legal).once node n found).disk.own t j in
        (ap (λ (x : Settlement). x.serial.node) (sym same) ∙ own.0 ∙ found_name node closing.nodes n found, subst (λ x. In x (settlements_of node closing)) same i, (n, found))
    go None found j = absurd j

pub lasts_hold : LastsHold
lasts_hold nodes disks es closing opening legal before said front behind this s there is = let r = settled (lasts_settled nodes disks es closing opening legal before said front behind this s there is) in (kind, r.0, r.1)
  where
    kind : (said ≡ Says (At s.serial.node Boot)) ⊎ (said ≡ Says Settle)
    kind =
        let l = (stays (opened nodes disks) closing there.after (there.entry ∷ before) (subst (λ x. Legal (opened nodes disks) x closing) there.stands legal)) in
        subst (λ r. (r ≡ Says (At s.serial.node Boot)) ⊎ (r ≡ Says Settle)) there.read
        (turn_boots (l.1).0 l.0 (reading there.entry.source.text) there.entry.lines (l.1).2 (legal_sound (opened nodes disks) (l.1).0 before (opening_sound nodes disks opening) (l.1).1) this s (subst (In this) (sym there.shown) (here_in front this behind)) is)

    newest : (node : List ℕ) → s.serial.node ≡ node → Has node closing → (t : Settlement) → WasShownSo t before front → t.serial.node ≡ s.serial.node → t.moment ≤ s.moment
    newest node own has t was mine = newest_last node nodes disks es there.after before there.entry closing opening legal has.0 has.1 there.stands front behind this s there.shown is own t was (mine ∙ own)

    settled : ((node : List ℕ) × (((t : Settlement) × In t (settlements_of node closing) × (last_line t ≡ this ∷ [])) ⊎ WasLast node this (opened nodes disks) before)) →
        (In s (settlements_of s.serial.node closing) ⊎ WasLast s.serial.node this (opened nodes disks) before) × ((t : Settlement) → WasShownSo t before front → t.serial.node ≡ s.serial.node → t.moment ≤ s.moment)
    settled (node, (inl k)) =
        let o = settled_own nodes disks es closing node s k.0 this opening legal k.1 k.2 is in
        (inl (subst (λ x. In s (settlements_of x closing)) (sym o.0) o.1), newest node o.0 o.2)
    settled (node, (inr was)) =
        let own = opening_own nodes disks node s this before opening was is in
        (inr (subst (λ x. WasLast x this (opened nodes disks) before) (sym own) was), newest node own (legal_has node (opened nodes disks) closing es legal (was.0, left_found node before (opened nodes disks) was.0 was.1)))
