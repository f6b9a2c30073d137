-- A BOOT shows the last settlement of its disk before all else.
use Rattle.std.proofs.Common.{◌≡◌, ℕ, List, [], ◌∷◌, ◌++◌, inl, inr, map, take, zero, suc, Option, Some, None, refl, sym, ◌∙◌, ap, subst}
use Rattle.vms_model.specs.Transactions.{Outcome, Commit, Abort, Reason}
use Rattle.run_said.specs.transcript_model.Lines as line
use Rattle.run_said.specs.transcript_model.Lines.{Line, Cause}
use Rattle.run_said.specs.script_model.Statements.{At, Boot}
use Rattle.commit_protocol.specs.World.{In}
use Rattle.run_said.specs.run_model.World as world
use Rattle.run_said.specs.run_model.World.{World, Shared, Node, Settlement, acted, opened, find_node}
use Rattle.run_said.specs.run_model.Answers.{Serves, service, refused_before_reading, boot_rows, last_line, last_lines, left_active, unit_key}
use Rattle.run_said.specs.run_model.Steps.{Choice, Whole, WithoutMemory, Unpowered, Cut, task_effect, ready_node, rows_if, rows_to_cut, whole, begun, lines_of_rows}
use Rattle.run_said.specs.run_model.Statements.{Step, stops_at}
use Rattle.run_said.specs.run_model.Transcript.{Legal, Turn as LineTurn}
use Rattle.run_said.proofs.run_model.Refusing.{same_last}
use Rattle.run_laws.specs.Promises.{last_in}
use Rattle.run_laws.specs.Laws.{LastsFirstHold}
use Rattle.run_laws.proofs.LastBoots.{NoLast, none_last, plain_one}
use Rattle.run_laws.proofs.Named.{Ended, Refused, Turned, ended}
use Rattle.run_laws.proofs.Restarting.{prepared_last, undone_last}
use Rattle.run_laws.proofs.ShownSettled.{answer_plain, here_in}
use Rattle.run_laws.proofs.Splits.{split_append}
use Rattle.run_laws.proofs.Staying.{stays}

-- a line of a last settlement stands first among these, if it stands there
abbrev IsFirst : List Line → Type 0
IsFirst ls = (front : List Line) (this : Line) (behind : List Line) (x : Settlement) → ls ≡ front ++ this ∷ behind → last_in this ≡ Some x → front ≡ []

none_first : (ls : List Line) → NoLast ls → IsFirst ls
none_first ls h front this behind x e is = absurd (h this x (subst (In this) (sym e) (here_in front this behind)) is)

first_more : (xs ys : List Line) → IsFirst xs → NoLast ys → IsFirst (xs ++ ys)
first_more xs ys f h front this behind x e is = elim (split_append xs ys front this behind e) [
  | inl r ↦ f front this r.0 x r.1 is
  | inr r ↦ absurd (h this x (subst (In this) (sym r.2) (here_in r.0 this behind)) is)
]

one_first : (l : Line) → IsFirst (l ∷ [])
one_first l [] this behind x e is = refl
one_first l (y ∷ []) this behind x e is = let none : ⊥ = cc in absurd none
one_first l (y ∷ z ∷ front) this behind x e is = let none : ⊥ = cc in absurd none

last_line_first : (s : Settlement) → IsFirst (last_line s)
last_line_first s = go s.outcome s.reason
  where
    go : (o : Outcome) (r : Option Reason) → IsFirst (elim o as (λ x. List Line) [ Commit ↦ line.LastCommitted s.tid s.serial s.moment ∷ [] | Abort ↦ elim r as (λ x. List Line) [ Some reason ↦ line.LastAborted s.tid s.serial reason s.moment ∷ [] | None ↦ [] ] ])
    go Commit r = one_first (line.LastCommitted s.tid s.serial s.moment)
    go Abort (Some reason) = one_first (line.LastAborted s.tid s.serial reason s.moment)
    go Abort None = none_first [] none_last

last_first : (n : Node) → IsFirst (last_lines n)
last_first n = go n.durable.last
  where
    go : (o : Option Settlement) → IsFirst (elim o as (λ x. List Line) [ Some s ↦ last_line s | None ↦ [] ])
    go (Some s) = last_line_first s
    go None = none_first [] none_last

down_none : (name : List ℕ) (cause : Cause) → NoLast (line.Down name cause ∷ [])
down_none name cause l x (inl same) e = let clash : ◌≡◌ {A = Option Settlement} None (Some x) = sym (ap last_in same) ∙ e in let no : ⊥ = cc in no
down_none name cause l x (inr i) e = i

-- the lines of a boot
module _ (s : Shared) (stops : ℕ) (n : Node) where
  rows_first : (r : Node) → IsFirst (lines_of_rows (boot_rows s r))
  rows_first r = first_more (last_lines r) _ (last_first r) (undone_last (map unit_key (left_active r)) s (acted world.Boots r) zero).1

  cut_first : (r : Node) (k : ℕ) (o : Option Line) → IsFirst (lines_of_rows (take k (rows_if o (boot_rows s r))))
  cut_first r zero (Some refusal) = none_first [] none_last
  cut_first r (suc k) (Some refusal) = none_first [] none_last
  cut_first r zero None = none_first [] none_last
  cut_first r (suc k) None = first_more (last_lines r) _ (last_first r) (undone_last (map unit_key (left_active r)) s (acted world.Boots r) k).0

  late_first : (r : Node) (o : Option Line) → IsFirst (begun s r (service Boot) o).lines
  late_first r (Some refusal) = none_first [] none_last
  late_first r None = first_more (lines_of_rows (boot_rows s r)) _ (rows_first r) (prepared_last (world.booted r.durable).branches)

  whole_first : (r : Node) (o : Option Line) → IsFirst (whole s n r (service Boot) o).lines
  whole_first r (Some refusal) = none_first [] none_last
  whole_first r None = late_first r ((service Boot).refused_after_reading s r)

  effect_first : (c : Choice) → IsFirst (task_effect s stops n (Serves Boot) c).lines
  effect_first (Whole outturn) = whole_first (ready_node outturn stops (service Boot) n) (refused_before_reading s n (service Boot))
  effect_first WithoutMemory = none_first [] none_last
  effect_first Unpowered = none_first (line.Down n.name line.Failed ∷ []) (down_none n.name line.Failed)
  effect_first (Cut outturn done started cause) =
      let ready = ready_node outturn stops (service Boot) n in
      first_more (lines_of_rows (take done (rows_to_cut s ready (service Boot)))) (line.Down ready.name cause ∷ []) (cut_first ready done ((service Boot).refused_after_reading s ready)) (down_none ready.name cause)

boot_first : (w v : World) (node : List ℕ) (lines : List Line) → Step w (At node Boot) lines v → IsFirst lines
boot_first w v node lines step = subst IsFirst (sym step.shows) (first_more step.events (step.answer ∷ []) (go (ended w v (At node Boot) lines node (Serves Boot) refl step)) (λ l x i e. elim i [
  | inl same ↦ plain_one step.answer x (answer_plain w v (At node Boot) lines step) (ap last_in (sym same) ∙ e)
  | inr none ↦ none
]))
  where
    go : Ended w v node (Serves Boot) lines → IsFirst step.events
    go (Refused refusal h shows goes) = subst IsFirst (sym (same_last step.events [] step.answer refusal (sym step.shows ∙ shows)).0) (none_first [] none_last)
    go (Turned n found c allowed shows goes) =
        let x = task_effect w.shared (stops_at node w) n (Serves Boot) c in
        subst IsFirst (sym (same_last step.events x.lines step.answer x.answer (sym step.shows ∙ shows)).0) (effect_first w.shared (stops_at node w) n c)

pub lasts_first : LastsFirstHold
lasts_first nodes disks es closing opening legal before node front behind this s there is =
    let r = stays (opened nodes disks) closing there.after (there.entry ∷ before) (subst (λ es. Legal (opened nodes disks) es closing) there.stands legal) in
    boot_first r.1.0 r.0 node there.entry.lines (subst (λ said. LineTurn r.1.0 said there.entry.lines r.0) there.read r.1.2) front this behind s there.shown is
