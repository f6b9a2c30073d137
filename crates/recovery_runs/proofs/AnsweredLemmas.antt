-- What a recovery is answered, from what its task did.
use Rattle.std.proofs.Common.{◌≡◌, ◌∙◌, ◌<◌, ◌⊎◌, inl, inr, ℕ, zero, suc, List, [], ◌∷◌, ◌++◌, Bool, true, false, not, ◌||◌, Option, Some, None, refl, sym, ap, subst, arith, take, length, if◌then◌else◌}
use Rattle.std.specs.FinMap.{entries}
use Rattle.std.specs.Prelude.{nat_lt, option_map}
use Rattle.std.proofs.lemmas.Bool.Decides.{nat_tests}
use Rattle.vms_model.specs.Ids.{Id}
use Rattle.transcript_model.specs.Lines as line
use Rattle.transcript_model.specs.Lines.{Line, Cause}
use Rattle.script_model.specs.Statements as said
use Rattle.script_model.specs.Statements.{At, Reading, Recover, Recovery, Says}
use Rattle.records_model.specs.History.{History, changed_it, first_to_change}
use Rattle.recovery_model.specs.File.{Save}
use Rattle.recovery_model.specs.Recovery as recovery
use Rattle.recovery_model.specs.Recovery.{Refusal, first_of, in_use, no_journal, no_save, positions_missing, refusal, refused_if, too_early}
use Rattle.recovery_laws.specs.run_model.World.{Act, File, Node, World, find_file, find_node, longest_free, state_of}
use Rattle.recovery_laws.specs.run_model.Answers.{Row, Serves, blocks_recovered, of_file, records_recovered, recovers, recovery_refused, refusal_line, refused_before_reading, service, silent, there_is_file, to_file, volume_full, way_of}
use Rattle.recovery_laws.specs.run_model.Operations as asked
use Rattle.recovery_laws.specs.run_model.Operations.{refused_if as refused_so}
use Rattle.recovery_laws.specs.run_model.Steps.{Choice, Cut, TaskAllowed, TaskEffect, Unpowered, Whole, WithoutMemory, begun, cut, lines_of_rows, refused, rows_if, rows_to_cut, succeeded, task_effect, whole}
use Rattle.recovery_laws.specs.run_model.Statements.{Begins, Phases, RoseAt, Step, begun_with, phases_of, put_into, refused_at_once, stops_at}
use Rattle.recovery_laws.specs.run_model.StepLaws.{IsTask}
use Rattle.recovery_laws.specs.run_model.Transcript.{Turn as LineTurn}
use Rattle.recovery_laws.proofs.run_model.NodeLists.{found_name, put_same}
use Rattle.recovery_laws.proofs.run_model.PartLemmas.{turn}
use Rattle.recovery_laws.proofs.world_laws.AnswerLemmas.{neither}
use Rattle.recovery_laws.proofs.world_laws.ServedLemmas.{there_is as there_is_one}
use Rattle.recovery_runs.specs.Answered.{FileRefuses, InUse, Full, IsAnswered, MomentsMissing, NoJournal, NoSave, PositionsMissing, Refuses, TooEarly, journal_read}
use Rattle.recovery_runs.specs.Answered as answered

less_test : (a b : ℕ) → nat_lt a b ≡ true → a < b
less_test a b h = grind (arith, nat_tests)

-- Refusals of a file.

-- the first of two refusals is either
first_says : (a b : Option Refusal) (r : Refusal) → first_of a b ≡ Some r → (a ≡ Some r) ⊎ (b ≡ Some r)
first_says None b r e = inr e
first_says (Some x) b r e = inl e

if_says : (b : Bool) (x r : Refusal) → refused_if b x ≡ Some r → (b ≡ true) × (x ≡ r)
if_says true x r e = let same : x ≡ r = cc in (refl, same)
if_says false x r e = let no : ⊥ = cc in absurd no

use_says : (user : Option Id) (r : Refusal) → in_use user ≡ Some r → (s : Id) × (user ≡ Some s) × (recovery.InUse s ≡ r)
use_says None r e = let no : ⊥ = cc in absurd no
use_says (Some s) r e = let same : recovery.InUse s ≡ r = cc in (s, refl, same)

save_says : (v : Option Save) (r : Refusal) → no_save v ≡ Some r → (v ≡ None) × (recovery.NoSave ≡ r)
save_says None r e = let same : recovery.NoSave ≡ r = cc in (refl, same)
save_says (Some v) r e = let no : ⊥ = cc in absurd no

record IsEarly (until : Option ℕ) (o : Option Save) (r : Refusal) : Type 0 where
  moment : ℕ
  save : Save
  asks : until ≡ Some moment
  has : o ≡ Some save
  below : moment < save.moment
  says : recovery.TooEarly moment save.moment ≡ r

early_says : (until : Option ℕ) (o : Option Save) (r : Refusal) → too_early until o ≡ Some r → IsEarly until o r
early_says None o r e = let no : ⊥ = cc in absurd no
early_says (Some u) None r e = let no : ⊥ = cc in absurd no
early_says (Some u) (Some v) r e = let k = if_says (nat_lt u v.moment) (recovery.TooEarly u v.moment) r e in record { moment = u; save = v; asks = refl; has = refl; below = less_test u v.moment k.0; says = k.1 }

changed_first : (h : History) (order : List Id) (s : Id) → first_to_change h order ≡ Some s → changed_it h s ≡ true
changed_first h [] s e = let no : ⊥ = cc in absurd no
changed_first h (x ∷ xs) s e = go (changed_it h x) refl (changed_first h xs s) e
  where
    go : (b : Bool) → changed_it h x ≡ b → (first_to_change h xs ≡ Some s → changed_it h s ≡ true) → ◌≡◌ {A = Option Id} (if b then Some x else first_to_change h xs) (Some s) → changed_it h s ≡ true
    go true is more k = let same : x ≡ s = cc in subst (λ y. changed_it h y ≡ true) same is
    go false is more k = more k

is_off : (b : Bool) → not b ≡ true → b ≡ false
is_off true e = let no : ⊥ = cc in absurd no
is_off false e = refl

some_says : (o : Option Refusal) (answer : Line) → option_map refusal_line o ≡ Some answer → (r : Refusal) × (o ≡ Some r) × (answer ≡ refusal_line r)
some_says None answer e = let no : ⊥ = cc in absurd no
some_says (Some r) answer e = let same : answer ≡ refusal_line r = cc in (r, refl, same)

module _ (n : Node) (f : File) (order : List Id) (answer : Line) where
  refuses_by : (way : Recovery) (r : Refusal) → refusal (way_of way) (first_to_change f.history order) (state_of f) ≡ Some r → answer ≡ refusal_line r → FileRefuses n way f answer
  refuses_by (said.Forward until) r e is = journal (first_says (no_journal f.carried.after) _ r e)
    where
      span : (o : Option Save) → f.carried.save ≡ o → positions_missing f.carried.after o ≡ Some r → FileRefuses n (said.Forward until) f answer
      span None has k = let no : ⊥ = cc in absurd no
      span (Some v) has k =
          let x = if_says (nat_lt v.position f.carried.after.first) (recovery.PositionsMissing v.position f.carried.after.first) r k in
          PositionsMissing until v refl has (less_test v.position f.carried.after.first x.0) (is ∙ ap refusal_line (sym x.1))

      early : too_early until f.carried.save ≡ Some r → FileRefuses n (said.Forward until) f answer
      early k = let x = early_says until f.carried.save r k in TooEarly x.moment x.save (ap said.Forward x.asks) x.has x.below (is ∙ ap refusal_line (sym x.says))

      last : (too_early until f.carried.save ≡ Some r) ⊎ (positions_missing f.carried.after f.carried.save ≡ Some r) → FileRefuses n (said.Forward until) f answer
      last (inl k) = early k
      last (inr k) = span f.carried.save refl k

      user : (in_use (first_to_change f.history order) ≡ Some r) ⊎ (first_of (too_early until f.carried.save) (positions_missing f.carried.after f.carried.save) ≡ Some r) → FileRefuses n (said.Forward until) f answer
      user (inl k) = let x = use_says (first_to_change f.history order) r k in InUse x.0 (changed_first f.history order x.0 x.1) (is ∙ ap refusal_line (sym x.2))
      user (inr k) = last (first_says (too_early until f.carried.save) _ r k)

      save : (no_save f.carried.save ≡ Some r) ⊎ (first_of (in_use (first_to_change f.history order)) (first_of (too_early until f.carried.save) (positions_missing f.carried.after f.carried.save)) ≡ Some r) → FileRefuses n (said.Forward until) f answer
      save (inl k) = let x = save_says f.carried.save r k in NoSave until refl x.0 (is ∙ ap refusal_line (sym x.1))
      save (inr k) = user (first_says (in_use (first_to_change f.history order)) _ r k)

      journal : (no_journal f.carried.after ≡ Some r) ⊎ (first_of (no_save f.carried.save) (first_of (in_use (first_to_change f.history order)) (first_of (too_early until f.carried.save) (positions_missing f.carried.after f.carried.save))) ≡ Some r) → FileRefuses n (said.Forward until) f answer
      journal (inl k) = let x = if_says (not f.carried.after.on) recovery.NoJournal r k in NoJournal (is_off f.carried.after.on x.0) (is ∙ ap refusal_line (sym x.1))
      journal (inr k) = save (first_says (no_save f.carried.save) _ r k)
  refuses_by (said.Backward until) r e is = journal (first_says (no_journal f.carried.before) _ r e)
    where
      user : (in_use (first_to_change f.history order) ≡ Some r) ⊎ (refused_if (nat_lt until f.carried.since) (recovery.MomentsMissing until f.carried.since) ≡ Some r) → FileRefuses n (said.Backward until) f answer
      user (inl k) = let x = use_says (first_to_change f.history order) r k in InUse x.0 (changed_first f.history order x.0 x.1) (is ∙ ap refusal_line (sym x.2))
      user (inr k) = let x = if_says (nat_lt until f.carried.since) (recovery.MomentsMissing until f.carried.since) r k in MomentsMissing until refl (less_test until f.carried.since x.0) (is ∙ ap refusal_line (sym x.1))

      journal : (no_journal f.carried.before ≡ Some r) ⊎ (first_of (in_use (first_to_change f.history order)) (refused_if (nat_lt until f.carried.since) (recovery.MomentsMissing until f.carried.since)) ≡ Some r) → FileRefuses n (said.Backward until) f answer
      journal (inl k) = let x = if_says (not f.carried.before.on) recovery.NoJournal r k in NoJournal (is_off f.carried.before.on x.0) (is ∙ ap refusal_line (sym x.1))
      journal (inr k) = user (first_says (in_use (first_to_change f.history order)) _ r k)

  pub refuses_recovery : (way : Recovery) → option_map refusal_line (refusal (way_of way) (first_to_change f.history order) (state_of f)) ≡ Some answer → FileRefuses n way f answer
  refuses_recovery way e = let x = some_says _ answer e in refuses_by way x.0 x.1 x.2

full_says : (n : Node) (way : Recovery) (f : File) (answer : Line) → volume_full n (blocks_recovered way f) ≡ Some answer → FileRefuses n way f answer
full_says n way f answer e = go (nat_lt (longest_free n) (blocks_recovered way f)) refl e
  where
    go : (b : Bool) → nat_lt (longest_free n) (blocks_recovered way f) ≡ b → refused_so b (line.VolumeFull (longest_free n) (blocks_recovered way f)) ≡ Some answer → FileRefuses n way f answer
    go true is k = let same : answer ≡ line.VolumeFull (longest_free n) (blocks_recovered way f) = cc in Full (less_test _ _ is) same
    go false is k = let no : ⊥ = cc in absurd no

-- Of a node that is there.

module _ (w : World) (node file : List ℕ) (way : Recovery) (n : Node) (found : find_node node w.nodes ≡ Some n) where
  -- before the disk is read
  early_says_why : (answer : Line) → refused_before_reading w.shared n (service (Recover file way)) ≡ Some answer → Refuses w node file way answer
  early_says_why answer k = node_says n.up refl k
    where
      by_file : n.up ≡ true → (o : Option File) → find_file file n.durable.directory ≡ o →
          asked.first_of (elim o as (λ x. Option Line) [ Some f ↦ None | None ↦ Some line.FileNotFound ]) (elim o as (λ x. Option Line) [ Some f ↦ recovery_refused n way f | None ↦ None ]) ≡ Some answer → Refuses w node file way answer
      by_file up None is q = let same : answer ≡ line.FileNotFound = cc in answered.FileMissing n found up is same
      by_file up (Some f) is q = answered.ByFile n f found up is (refuses_recovery n f _ answer way q)

      node_says : (b : Bool) → n.up ≡ b → asked.first_of (refused_so (not (b || false)) line.NodeDown) (asked.first_of (there_is_file n file) (of_file n file (recovery_refused n way))) ≡ Some answer → Refuses w node file way answer
      node_says true up q = by_file up (find_file file n.durable.directory) refl q
      node_says false down q = let same : answer ≡ line.NodeDown = cc in answered.NodeDown n found down same

  -- and behind that
  late_says_why : n.up ≡ true → (answer : Line) → of_file n file (λ f. volume_full n (blocks_recovered way f)) ≡ Some answer → Refuses w node file way answer
  late_says_why up answer k = go (find_file file n.durable.directory) refl k
    where
      go : (o : Option File) → find_file file n.durable.directory ≡ o → (elim o as (λ x. Option Line) [ Some f ↦ volume_full n (blocks_recovered way f) | None ↦ None ]) ≡ Some answer → Refuses w node file way answer
      go None is q = let no : ⊥ = cc in absurd no
      go (Some f) is q = answered.ByFile n f found up is (full_says n way f answer q)

  -- a node that is not refused so is up
  stands_up : refused_before_reading w.shared n (service (Recover file way)) ≡ None → n.up ≡ true
  stands_up k = go n.up refl k
    where
      go : (b : Bool) → n.up ≡ b → asked.first_of (refused_so (not (b || false)) line.NodeDown) (asked.first_of (there_is_file n file) (of_file n file (recovery_refused n way))) ≡ None → n.up ≡ true
      go true is q = is
      go false is q = let no : ⊥ = cc in absurd no

-- The rows of a recovery show nothing.

none_shown : (done : ℕ) → lines_of_rows (take {A = Row} done []) ≡ []
none_shown zero = refl
none_shown (suc k) = refl

one_shown : (done : ℕ) (act : Act) → lines_of_rows (take done (silent act ∷ [])) ≡ []
one_shown zero act = refl
one_shown (suc k) act = none_shown k

silent_rows : (n : Node) (file : List ℕ) (way : Recovery) (done : ℕ) (o : Option Line) → lines_of_rows (take done (rows_if o (to_file n file (recovers n file way)))) ≡ []
silent_rows n file way done (Some refusal) = none_shown done
silent_rows n file way done None = go (find_file file n.durable.directory)
  where
    go : (o : Option File) → lines_of_rows (take done (elim o as (λ x. List Row) [ Some f ↦ recovers n file way f | None ↦ [] ])) ≡ []
    go (Some f) = one_shown done _
    go None = none_shown done

all_silent : (n : Node) (file : List ℕ) (way : Recovery) → lines_of_rows (to_file n file (recovers n file way)) ≡ []
all_silent n file way = go (find_file file n.durable.directory)
  where
    go : (o : Option File) → lines_of_rows (elim o as (λ x. List Row) [ Some f ↦ recovers n file way f | None ↦ [] ]) ≡ []
    go (Some f) = refl
    go None = refl

-- The statement.

module _ (w v : World) (node file : List ℕ) (way : Recovery) (lines : List Line) (step : Step w (At node (Recover file way)) lines v) where
  one : (answer : Line) → step.events ≡ [] → step.answer ≡ answer → lines ≡ answer ∷ []
  one answer e f = step.shows ∙ ap (λ xs. xs ++ step.answer ∷ []) e ∙ ap (λ a. a ∷ []) f

  -- its task showed this and led there
  record Does (x : TaskEffect) : Type 0 where
    shows : step.events ≡ x.lines
    answers : step.answer ≡ x.answer
    goes : v ≡ record (put_into w node x).world { disks = v.disks }

  module _ (n : Node) (found : find_node node w.nodes ≡ Some n) where
    left_so : (answer : Line) → Does (refused w.shared n answer) → (v.nodes ≡ w.nodes) × (v.shared ≡ w.shared)
    left_so answer d = (ap (λ (u : World). u.nodes) d.goes ∙ put_same node n w.nodes found, ap (λ (u : World). u.shared) d.goes)

    done : refused_before_reading w.shared n (service (Recover file way)) ≡ None → Does (succeeded w.shared n (service (Recover file way))) → IsAnswered w v node file way lines
    done first d =
        let there = there_is_one n file (neither (there_is_file n file) _ (neither (refused_so (not (n.up || false)) line.NodeDown) _ first).1).0 in
        answered.Done (length (entries (records_recovered way there.0)))
        (one _ (d.shows ∙ ap (λ xs. xs ++ []) (all_silent n file way)) (d.answers ∙ ap (λ o. elim o as (λ x. Line) [ Some f ↦ line.NormalCount (length (entries (records_recovered way f))) | None ↦ line.Normal ]) there.1))

    late : refused_before_reading w.shared n (service (Recover file way)) ≡ None → (o : Option Line) → (service (Recover file way)).refused_after_reading w.shared n ≡ o → Does (begun w.shared n (service (Recover file way)) o) → IsAnswered w v node file way lines
    late first (Some refusal) is d = answered.Refused refusal (one refusal d.shows d.answers) (late_says_why w node file way n found (stands_up w node file way n found first) refusal is) (left_so refusal d)
    late first None is d = done first d

    whole_is : (o : Option Line) → refused_before_reading w.shared n (service (Recover file way)) ≡ o → Does (whole w.shared n n (service (Recover file way)) o) → IsAnswered w v node file way lines
    whole_is (Some refusal) is d = answered.Refused refusal (one refusal d.shows d.answers) (early_says_why w node file way n found refusal is) (left_so refusal d)
    whole_is None is d = late is ((service (Recover file way)).refused_after_reading w.shared n) refl d

    cut_is : (done : ℕ) (b : Bool) (cause : Cause) → RoseAt w node cause v.disks → Does (cut w.shared n (service (Recover file way)) (rows_to_cut w.shared n (service (Recover file way))) done b cause) → IsAnswered w v node file way lines
    cut_is done b cause rose d =
        answered.Broken cause
        (step.shows ∙ ap (λ xs. xs ++ step.answer ∷ []) (d.shows ∙ ap (λ xs. xs ++ line.Down n.name cause ∷ []) (silent_rows n file way done ((service (Recover file way)).refused_after_reading w.shared n)) ∙ ap (λ (name : List ℕ). line.Down name cause ∷ []) (found_name node w.nodes n found))
        ∙ ap (λ a. line.Down node cause ∷ a ∷ []) d.answers)
        rose

    by_choice : (c : Choice) → TaskAllowed w.shared (stops_at node w) n (Serves (Recover file way)) (λ cause. RoseAt w node cause v.disks) c → Does (task_effect w.shared (stops_at node w) n (Serves (Recover file way)) c) → IsAnswered w v node file way lines
    by_choice (Whole o) may d = whole_is (refused_before_reading w.shared n (service (Recover file way))) refl d
    by_choice WithoutMemory may d = answered.NoMemory (one line.NoMemory d.shows d.answers) (left_so line.NoMemory d)
    by_choice Unpowered may d = let off : false ≡ true = may.1 in let no : ⊥ = cc in absurd no
    by_choice (Cut o done b cause) may d = cut_is done b cause may.4 d

  answered_at : (o : Option Node) → find_node node w.nodes ≡ o → IsAnswered w v node file way lines
  answered_at (Some n) found =
      let it : IsTask w (At node (Recover file way)) node (Serves (Recover file way)) n = record { begins = ap (λ o. asked.first_of o None) (ap (λ (o : Option Node). elim o as (λ x. Option Line) [ Some m ↦ None | None ↦ Some line.NoSuchNode ]) found); task = refl; found = found } in
      let t = turn w v (At node (Recover file way)) node (Serves (Recover file way)) n lines it step in
      by_choice n found t.choice t.allowed (record { shows = t.shows; answers = t.answers; goes = t.goes })
  answered_at None found =
      let d = at_once (refused_at_once w (At node (Recover file way))) (ap (λ (o : Option Node). asked.first_of (elim o as (λ x. Option Line) [ Some m ↦ None | None ↦ Some line.NoSuchNode ]) None) found) step.does in
      answered.Refused line.NoSuchNode (one line.NoSuchNode d.0 d.1) (answered.NodeMissing found refl)
      (ap (λ (u : World). u.nodes) step.goes ∙ ap (λ (u : World). u.nodes) d.2, ap (λ (u : World). u.shared) step.goes ∙ ap (λ (u : World). u.shared) d.2)
    where
      at_once : (o : Option Line) → o ≡ Some line.NoSuchNode → Begins o (Phases (phases_of (At node (Recover file way))) v.disks (begun_with (At node (Recover file way)) w) line.Normal) w step.events step.answer step.world →
          (step.events ≡ []) × (step.answer ≡ line.NoSuchNode) × (step.world ≡ w)
      at_once (Some x) q d = let same : x ≡ line.NoSuchNode = cc in (d.0, d.1 ∙ same, d.2)
      at_once None q d = let no : ⊥ = cc in absurd no

pub is_answered : (w v : World) (node file : List ℕ) (way : Recovery) (said : Reading) (lines : List Line) → said ≡ Says (At node (Recover file way)) → LineTurn w said lines v → IsAnswered w v node file way lines
is_answered w v node file way said lines is turned = answered_at w v node file way lines (subst (λ r. LineTurn w r lines v) is turned) (find_node node w.nodes) refl
