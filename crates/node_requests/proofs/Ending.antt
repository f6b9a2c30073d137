-- END_TRANS at a node that is up: it may be told of a first branch that is active, and is answered by the effects of its row and the branch that is left.
use Rattle.std.proofs.Common.{◌≡◌, ℕ, Bool, true, false, List, [], ◌∷◌, Option, Some, None, refl, ap, sym, subst, ◌∙◌}
use Rattle.std.specs.Prelude.{if◌then◌else◌}
use Rattle.std.proofs.lemmas.Bool.{and_parts}
use Rattle.vms_model.specs.Ids.{Id}
use Rattle.vms_model.specs.Transactions.{Abort, Commit, Outcome, Reason}
use Rattle.emitter_model.specs.commit_protocol.Allowed.{is_active, there_is}
use Rattle.emitter_model.specs.commit_protocol.Effects.{Effect, PrepareEffect, SettleEffect, KeepEffect, ForgetEffect, SendEffect, TellEffect, JoinedEffect, StartedEffect, ReadOnlyEffect, EndedEffect, effects_of}
use Rattle.emitter_model.specs.commit_protocol.Messages.{same_id}
use Rattle.emitter_model.specs.commit_protocol.Rows as rows
use Rattle.emitter_model.specs.commit_protocol.Rows.{row}
use Rattle.emitter_model.specs.commit_protocol.Table.{Branch, Key, Tm, after, find, find_serial, first, is_first}
use Rattle.emitter_model.proofs.commit_protocol.Lists.{find_serial-key, same_key-true}
use Rattle.emitter_model.specs.transcript_model.Lines as line
use Rattle.emitter_model.specs.transcript_model.Lines.{Line}
use Rattle.script_lang.specs.script_model.Statements.{ByLabel, EndTrans}
use Rattle.file_requests.specs.run_said.Said.{Said, line_said}
use Rattle.file_requests.specs.said_steps.Answers.{is_served}
use Rattle.world_laws.specs.run_model.World.{Node, Shared, tm_of}
use Rattle.world_laws.specs.run_model.Answers.{end_answer, is_first_active, missing, service, unreplied}
use Rattle.run_shared.specs.Sharing.{IsShared, SharedState}
use Rattle.node_table.specs.Standing.{Up, UpRepresents}
use Rattle.node_requests.specs.Labelled.{branch_in}
use Rattle.node_requests.specs.Running.{name_of}
use Rattle.node_requests.specs.Transacting.{ended_in, ending_in, ending_line}
use Rattle.node_requests.proofs.EndAnswers.{ends_answered}
use Rattle.node_requests.proofs.Statements.{branch_is, named_again}

-- A first branch is found by its transaction.

pub first_parts : (b : Branch) → is_first_active b ≡ true → (is_first b ≡ true) × (is_active b.state ≡ true)
first_parts b h = and_parts (is_first b) (is_active b.state) h

pub first_there : (bs : List Branch) (b : Branch) → find_serial b.key.serial bs ≡ Some b → is_first b ≡ true → find (first b.key.tid) bs ≡ Some b
first_there bs b found is = subst (λ k. find k bs ≡ Some b) (same_key-true b.key (first b.key.tid) is) (find_serial-key b.key.serial bs b found)

first_serial : (bs : List Branch) (b : Branch) → find_serial b.key.serial bs ≡ Some b → is_first b ≡ true → find_serial b.key.tid bs ≡ Some b
first_serial bs b found is = subst (λ s. find_serial s bs ≡ Some b) (ap (λ (k : Key). k.serial) (same_key-true b.key (first b.key.tid) is)) found

-- it may be told of such a branch
pub ends_allowed : (bs : List Branch) (b : Branch) → find_serial b.key.serial bs ≡ Some b → is_first_active b ≡ true → there_is (find (first b.key.tid) bs) (λ x. is_active x.state) ≡ true
ends_allowed bs b found h = ap (λ (o : Option Branch). there_is o (λ x. is_active x.state)) (first_there bs b found (first_parts b h).0) ∙ (first_parts b h).1

-- A line that says nothing, and is none of the refusals by lines.
pub record IsCalm (l : Line) : Type 0 where
  pub quiet : (s : Said) → line_said l s ≡ s
  pub other : is_served l ≡ true

abbrev IsCalmIf : Option Line → Type 0
IsCalmIf (Some l) = IsCalm l
IsCalmIf None = Unit {0}

calm_line : (outcome : Outcome) (reason : Reason) → IsCalm (ending_line outcome reason)
calm_line Commit reason = record { quiet = λ s. refl; other = refl }
calm_line Abort reason = record { quiet = λ s. refl; other = refl }

calm_ending : (t : Id) (es : List Effect) → IsCalmIf (ending_in t es)
calm_ending t [] = tt
calm_ending t (SettleEffect serial outcome reason r ∷ es) = go (same_id serial t) (calm_ending t es)
  where
    go : (b : Bool) → IsCalmIf (ending_in t es) → IsCalmIf (if b then Some (ending_line outcome reason) else ending_in t es)
    go true h = calm_line outcome reason
    go false h = h
calm_ending t (PrepareEffect serial rms ∷ es) = calm_ending t es
calm_ending t (KeepEffect r ∷ es) = calm_ending t es
calm_ending t (ForgetEffect serial ∷ es) = calm_ending t es
calm_ending t (SendEffect m ∷ es) = calm_ending t es
calm_ending t (TellEffect event tid serial rm ∷ es) = calm_ending t es
calm_ending t (JoinedEffect serial ∷ es) = calm_ending t es
calm_ending t (StartedEffect serial ∷ es) = calm_ending t es
calm_ending t (ReadOnlyEffect serial ∷ es) = calm_ending t es
calm_ending t (EndedEffect tid reason ∷ es) = calm_ending t es

-- how END_TRANS is answered is such a line
pub calm_ended : (t : Id) (es : List Effect) (bs : List Branch) → IsCalm (ended_in t es bs)
calm_ended t es bs = go (ending_in t es) (calm_ending t es)
  where
    left : (o : Option Branch) → IsCalm (elim o [ Some b ↦ line.Pending (missing b.accepted) (unreplied b.managers) | None ↦ line.Normal ])
    left (Some b) = record { quiet = λ s. refl; other = refl }
    left None = record { quiet = λ s. refl; other = refl }

    go : (o : Option Line) → IsCalmIf o → IsCalm (elim o [ Some l ↦ l | None ↦ elim (find_serial t bs) [ Some b ↦ line.Pending (missing b.accepted) (unreplied b.managers) | None ↦ line.Normal ] ])
    go (Some l) h = h
    go None h = left (find_serial t bs)

-- The answer by the effects, where one settles the transaction; and by what is left, where none does.

pub ended_settled : (t : Id) (es : List Effect) (bs : List Branch) (l : Line) → ending_in t es ≡ Some l → ended_in t es bs ≡ l
ended_settled t es bs l e = ap (λ (o : Option Line). elim o [ Some k ↦ k | None ↦ elim (find_serial t bs) [ Some b ↦ line.Pending (missing b.accepted) (unreplied b.managers) | None ↦ line.Normal ] ]) e

pub ended_left : (t : Id) (es : List Effect) (bs : List Branch) (o : Option Branch) → ending_in t es ≡ None → find_serial t bs ≡ o → ended_in t es bs ≡ elim o [ Some b ↦ line.Pending (missing b.accepted) (unreplied b.managers) | None ↦ line.Normal ]
ended_left t es bs o e f = ap (λ (p : Option Line). elim p [ Some k ↦ k | None ↦ elim (find_serial t bs) [ Some b ↦ line.Pending (missing b.accepted) (unreplied b.managers) | None ↦ line.Normal ] ]) e
    ∙ ap (λ (p : Option Branch). elim p [ Some b ↦ line.Pending (missing b.accepted) (unreplied b.managers) | None ↦ line.Normal ]) f

-- The world's answer is that.
module _ (label : List ℕ) (clock : ℕ) (r : Up) (sh : SharedState) (x : Branch) (found : branch_in (name_of r) label sh.labels r.tm.table ≡ Some x) (holds : is_first_active x ≡ true) where
  pub end_is : (es : List Effect) (tm : Tm) → es ≡ effects_of (row r.tm (rows.EndTrans x.key.tid)) r.tm.records → tm ≡ after (row r.tm (rows.EndTrans x.key.tid)) r.tm
      → (s : Shared) (n : Node) → UpRepresents clock r n → IsShared sh s → (service (EndTrans label)).answer s n ≡ ended_in x.key.tid es tm.table
  end_is es tm effects table s n h share =
      let there = first_serial r.tm.table x (named_again (ByLabel label) r sh.labels x found) (first_parts x holds).0 in
      ap (λ (o : Option Branch). elim o [ Some b ↦ end_answer (row (tm_of n) (rows.EndTrans b.key.tid)) line.Normal | None ↦ line.Normal ]) (branch_is clock r sh s n h share label ∙ found)
      ∙ ap (λ (t : Tm). end_answer (row t (rows.EndTrans x.key.tid)) line.Normal) h.stands.table
      ∙ ends_answered r.tm x.key.tid x there holds refl
      ∙ (λ i. ended_in x.key.tid (sym effects i) (sym table i).table)
