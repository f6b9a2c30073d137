-- What is noted of a branch that has changed something, and what a question changes.
use Rattle.std.proofs.Common.{◌≡◌, Bool, true, false, List, [], ◌∷◌, Option, Some, None, ◌⊎◌, inl, inr, refl, ap, sym, ◌∙◌}
use Rattle.std.specs.Prelude.{if◌then◌else◌, not}
use Rattle.std.specs.List.{list_any}
use Rattle.std.proofs.lemmas.Bool.{and_parts}
use Rattle.net_wire.specs.commit_protocol.Allowed.{allowed, is_active, is_working, there_is}
use Rattle.net_wire.specs.commit_protocol.Effects.{SendEffect, effects_of}
use Rattle.net_wire.specs.commit_protocol.Messages.{Commit, Inquire, LogRecord, Message, same_id}
use Rattle.net_wire.specs.commit_protocol.Rows as rows
use Rattle.net_wire.specs.commit_protocol.Rows.{Changed, Got, has_changed, row, up}
use Rattle.net_wire.specs.commit_protocol.Table.{Act, Active, Branch, Ending, Joining, Key, Prepared, Sends, State, Tm, Voting, after, find, find_serial, first, key_of, put}
use Rattle.emitter_model.proofs.commit_protocol.Lists.{find_serial-serial, told_id, told_key}
use Rattle.records_model.specs.History as history
use Rattle.row_laws.specs.run_model.Statements.{answer_in}
use Rattle.row_laws.specs.run_model.World.{with_changed}
use Rattle.vms_model.specs.Ids.{Id}
use Rattle.node_table.proofs.Branching.{told_serial}

-- the branch of this serial is put where it stands
put_changed : (s : Id) (bs : List Branch) (b : Branch) → find_serial s bs ≡ Some b → put (has_changed b) bs ≡ with_changed s bs
put_changed s [] b e = absurd (let f : None ≡ Some b = e in cc)
put_changed s (x ∷ xs) b e = elim (told_id x.key.serial s) [
  | inl q ↦
      let e' : Some x ≡ Some b = rw (q.0) at e in
      let same : x ≡ b = cc in
      let f : history.same_id s x.key.serial ≡ true = elim (told_serial s x.key.serial) [ inl t ↦ t.0 | inr t ↦ absurd (t.1 (sym q.1)) ] in
      elim (told_key x.key b.key) [
        | inl r ↦ rw (r.0, f) (ap (λ (y : Branch). has_changed y ∷ xs) (sym same))
        | inr r ↦ absurd (r.1 (ap (λ (y : Branch). y.key) same))
      ]
  | inr q ↦
      let e' : find_serial s xs ≡ Some b = rw (q.0) at e in
      let f : history.same_id s x.key.serial ≡ false = elim (told_serial s x.key.serial) [ inl t ↦ absurd (q.1 (sym t.1)) | inr t ↦ t.0 ] in
      elim (told_key x.key b.key) [
        | inl r ↦ absurd (q.1 (ap (λ (k : Key). k.serial) r.1 ∙ find_serial-serial s xs b e'))
        | inr r ↦ rw (r.0, f) (ap (λ ys. x ∷ ys) (put_changed s xs b e'))
      ]
]

pub changed_after : (tm : Tm) (s : Id) → allowed tm (Changed s) ≡ true → after (row tm (Changed s)) tm ≡ record tm { table = with_changed s tm.table }
changed_after tm s allows = go (find_serial s tm.table) refl allows
  where
    by : (b : Branch) (z : State) → is_active z ≡ true → find_serial s tm.table ≡ Some b → after (rows.note_state has_changed b z) tm ≡ record tm { table = with_changed s tm.table }
    by b Active e f = ap (λ bs. record tm { table = bs }) (put_changed s tm.table b f)
    by b Joining e f = absurd (let g : false ≡ true = e in cc)
    by b Ending e f = absurd (let g : false ≡ true = e in cc)
    by b Voting e f = absurd (let g : false ≡ true = e in cc)
    by b Prepared e f = absurd (let g : false ≡ true = e in cc)

    go : (o : Option Branch) → find_serial s tm.table ≡ o → there_is o is_working ≡ true → after (rows.note_row has_changed o) tm ≡ record tm { table = with_changed s tm.table }
    go None f e = absurd (let g : false ≡ true = e in cc)
    go (Some b) f e = by b b.state (and_parts (is_active b.state) (not b.ended) e).0 f

-- A question is answered by one message, or not; and the table stays.
pub record Answers (acts : List Act) (tm : Tm) : Type 0 where
  pub same : after acts tm ≡ tm
  pub told : (effects_of acts tm.records ≡ []) × (answer_in acts ≡ None) ⊎ ((m : Message) × (effects_of acts tm.records ≡ SendEffect m ∷ []) × (answer_in acts ≡ Some m))

no_answer : (tm : Tm) → Answers [] tm
no_answer tm = record { same = refl; told = inl (refl, refl) }

one_answer : (m : Message) (tm : Tm) → Answers (Sends m ∷ []) tm
one_answer m tm = record { same = refl; told = inr (m, refl, refl) }

pub asked_answers : (tm : Tm) (k : Key) → Answers (row tm (Got (up Inquire k))) tm
asked_answers tm k = go (list_any (λ (r : LogRecord). same_id r.tid k.tid) tm.records) (find (first k.tid) tm.table)
  where
    by : (b : Branch) (z : State) → Answers (rows.answer_state (up Inquire k) b z) tm
    by b Prepared = one_answer _ tm
    by b Joining = no_answer tm
    by b Active = no_answer tm
    by b Ending = no_answer tm
    by b Voting = no_answer tm

    of : (o : Option Branch) → Answers (rows.answer (up Inquire k) o) tm
    of None = one_answer _ tm
    of (Some b) = by b b.state

    go : (t : Bool) (o : Option Branch) → Answers (if t then Sends (rows.down Commit (key_of (up Inquire k))) ∷ [] else rows.answer (up Inquire k) o) tm
    go true o = one_answer _ tm
    go false o = of o
