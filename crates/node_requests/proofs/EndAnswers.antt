-- What END_TRANS is answered, by its effects and the branch that is left.
use Rattle.std.proofs.Common.{◌≡◌, inl, inr, ◌<◌, ◌+◌, ℕ, suc, length, map, take, drop, get_or, arith, Bool, true, false, List, [], ◌∷◌, ◌++◌, Option, Some, None, refl, ap, sym, subst, ◌∙◌}
use Rattle.std.specs.Prelude.{◌&&◌, if◌then◌else◌}
use Rattle.std.proofs.Math.Seq.{take-suc}
use Rattle.std.proofs.lemmas.Bool.{and_parts}
use Rattle.std.proofs.lemmas.List.{map-append, map_push, take-append-drop}
use Rattle.vms_model.specs.Ids.{Id}
use Rattle.vms_model.specs.Transactions.{SyncFail}
use Rattle.emitter_model.specs.commit_protocol.Allowed.{is_active}
use Rattle.emitter_model.specs.commit_protocol.Effects.{Effect, PrepareEffect, SettleEffect, KeepEffect, ForgetEffect, SendEffect, TellEffect, JoinedEffect, StartedEffect, ReadOnlyEffect, EndedEffect, effects_of}
use Rattle.emitter_model.specs.commit_protocol.Messages.{LogRecord, Message, Name, Prepare, RmEvent, same_id}
use Rattle.emitter_model.specs.commit_protocol.Rows as rows
use Rattle.emitter_model.specs.commit_protocol.Rows.{all_replied, all_taken, all_voted, begins_ending, commits_if_all, ending, end_trans_row, end_trans_state, joined, row, sends_all, serials, tells, to_each, which_event}
use Rattle.emitter_model.specs.commit_protocol.Table.{Act, Active, Branch, Ending, Joining, Key, Prepared, State, Tm, Voting, after, find, find_serial, first, is_first, put}
use Rattle.emitter_model.proofs.commit_protocol.Lists.{same_id-refl, told_id, told_key}
use Rattle.emitter_model.specs.transcript_model.Lines as line
use Rattle.emitter_model.specs.transcript_model.Lines.{Line}
use Rattle.world_laws.specs.run_model.Answers.{end_answer, is_first_active, missing, unreplied}
use Rattle.node_requests.specs.Transacting.{ended_in, ending_in, ending_line}

-- Messages and events of managers settle nothing.

sends_answer : (ms : List Message) (todo : List Act) (x : Line) → end_answer (sends_all ms ++ todo) x ≡ end_answer todo x
sends_answer [] todo x = refl
sends_answer (m ∷ ms) todo x = sends_answer ms todo x

tells_answer : (e : RmEvent) (k : Key) (xs : List Name) (todo : List Act) (x : Line) → end_answer (tells e k xs ++ todo) x ≡ end_answer todo x
tells_answer e k [] todo x = refl
tells_answer e k (y ∷ xs) todo x = tells_answer e k xs todo x

sends_end : (t : Id) (ms : List Message) (todo : List Act) (rs : List LogRecord) → ending_in t (effects_of (sends_all ms ++ todo) rs) ≡ ending_in t (effects_of todo rs)
sends_end t [] todo rs = refl
sends_end t (m ∷ ms) todo rs = sends_end t ms todo rs

tells_end : (t : Id) (e : RmEvent) (k : Key) (xs : List Name) (todo : List Act) (rs : List LogRecord) → ending_in t (effects_of (tells e k xs ++ todo) rs) ≡ ending_in t (effects_of todo rs)
tells_end t e k [] todo rs = refl
tells_end t e k (y ∷ xs) todo rs = tells_end t e k xs todo rs

sends_after : (ms : List Message) (todo : List Act) (tm : Tm) → after (sends_all ms ++ todo) tm ≡ after todo tm
sends_after [] todo tm = refl
sends_after (m ∷ ms) todo tm = sends_after ms todo tm

tells_after : (e : RmEvent) (k : Key) (xs : List Name) (todo : List Act) (tm : Tm) → after (tells e k xs ++ todo) tm ≡ after todo tm
tells_after e k [] todo tm = refl
tells_after e k (y ∷ xs) todo tm = tells_after e k xs todo tm

-- The first branch of a transaction, by its serial.

found_first : (t : Id) (bs : List Branch) (b : Branch) → find_serial t bs ≡ Some b → b.key ≡ first t → find (first t) bs ≡ Some b
found_first t [] b e k = absurd (let f : ◌≡◌ {A = Option Branch} None (Some b) = e in let no : ⊥ = cc in no)
found_first t (x ∷ xs) b e k = elim (told_id x.key.serial t) [
  | inl q ↦
      let e' : ◌≡◌ {A = Option Branch} (Some x) (Some b) = rw (q.0) at e in
      let same : x ≡ b = cc in
      elim (told_key x.key (first t)) [
        | inl r ↦ rw (r.0) e'
        | inr r ↦ absurd (r.1 (ap (λ (y : Branch). y.key) same ∙ k))
      ]
  | inr q ↦
      let e' : find_serial t xs ≡ Some b = rw (q.0) at e in
      elim (told_key x.key (first t)) [
        | inl r ↦ absurd (q.1 (ap (λ (y : Key). y.serial) r.1))
        | inr r ↦ rw (r.0) (found_first t xs b e' k)
      ]
]

put_found : (t : Id) (bs : List Branch) (b c : Branch) → find_serial t bs ≡ Some b → b.key ≡ first t → c.key ≡ b.key → find_serial t (put c bs) ≡ Some c
put_found t [] b c e k s = absurd (let f : ◌≡◌ {A = Option Branch} None (Some b) = e in let no : ⊥ = cc in no)
put_found t (x ∷ xs) b c e k s = elim (told_id x.key.serial t) [
  | inl q ↦
      let e' : ◌≡◌ {A = Option Branch} (Some x) (Some b) = rw (q.0) at e in
      let same : x ≡ b = cc in
      elim (told_key x.key c.key) [
        | inl r ↦ rw (r.0) (own c (ap (λ (y : Key). y.serial) (s ∙ k)) xs)
        | inr r ↦ absurd (r.1 (ap (λ (y : Branch). y.key) same ∙ sym s))
      ]
  | inr q ↦
      let e' : find_serial t xs ≡ Some b = rw (q.0) at e in
      elim (told_key x.key c.key) [
        | inl r ↦ absurd (q.1 (ap (λ (y : Key). y.serial) (r.1 ∙ s ∙ k)))
        | inr r ↦ rw (r.0, q.0) (put_found t xs b c e' k s)
      ]
]
  where
    own : (y : Branch) → y.key.serial ≡ t → (ys : List Branch) → find_serial t (y ∷ ys) ≡ Some y
    own y is ys = (let f : same_id y.key.serial t ≡ true = subst (λ i. same_id i t ≡ true) (sym is) (same_id-refl t) in rw f refl)

-- the key of a first branch
first_key : (b : Branch) → is_first b ≡ true → b.key ≡ first b.key.tid
first_key b h = elim (told_key b.key (first b.key.tid)) [
  | inl q ↦ q.1
  | inr q ↦ absurd (let f : false ≡ true = sym q.0 ∙ h in let no : ⊥ = cc in no)
]

active_state : (b : Branch) → is_active b.state ≡ true → b.state ≡ Active
active_state b h = go b.state h
  where
    go : (z : State) → is_active z ≡ true → z ≡ Active
    go Active e = refl
    go Joining e = let no : ⊥ = cc in absurd no
    go Ending e = let no : ⊥ = cc in absurd no
    go Voting e = let no : ⊥ = cc in absurd no
    go Prepared e = let no : ⊥ = cc in absurd no

-- What is settled is settled under the serial of the first branch.
settles_first : (t : Id) (b : Branch) (l : Line) (rest : Option Line) → b.key.serial ≡ t → ◌≡◌ {A = Option Line} (if same_id b.key.serial t then Some l else rest) (Some l)
settles_first t b l rest is = (let f : same_id b.key.serial t ≡ true = subst (λ i. same_id i t ≡ true) (sym is) (same_id-refl t) in rw f refl)

module _ (tm : Tm) (t : Id) (b : Branch) (found : find_serial t tm.table ≡ Some b) (key : b.key ≡ first t) where
  serial_is : b.key.serial ≡ t
  serial_is = ap (λ (k : Key). k.serial) key

  -- all votes are in, or some are missing
  ending_answered : (c : Bool) (x : Line) → (let acts : List Act = if c then rows.commits (ending b) [] else [] in
      end_answer acts (line.Pending (missing b.accepted) (unreplied (ending b).managers)) ≡ elim (ending_in t (effects_of acts tm.records)) [ Some l ↦ l | None ↦ elim (find_serial t (after acts (record tm { table = put (ending b) tm.table })).table) [ Some y ↦ line.Pending (missing y.accepted) (unreplied y.managers) | None ↦ line.Normal ] ])
  ending_answered true x = sym (ap (λ (o : Option Line). elim o [ Some l ↦ l | None ↦ elim (find_serial t (after (rows.commits (ending b) []) (record tm { table = put (ending b) tm.table })).table) [ Some y ↦ line.Pending (missing y.accepted) (unreplied y.managers) | None ↦ line.Normal ] ]) (settles_first t b line.Normal _ serial_is))
  ending_answered false x = sym (ap (λ (o : Option Branch). elim o [ Some y ↦ line.Pending (missing y.accepted) (unreplied y.managers) | None ↦ line.Normal ]) (put_found t tm.table b (ending b) found key refl))

  -- the branch begins to end
  begins_answered : end_answer (begins_ending b) line.Normal ≡ ended_in t (effects_of (begins_ending b) tm.records) (after (begins_ending b) tm).table
  begins_answered =
      let ms = to_each Prepare b.key.tid (serials b.accepted) in
      let e = which_event b.changed b.accepted b.managers in
      let xs = joined b.managers in
      let rest = commits_if_all (ending b) [] in
      let mid : Tm = record tm { table = put (ending b) tm.table } in
      sends_answer ms (tells e b.key xs ++ rest) (line.Pending (missing b.accepted) (unreplied (ending b).managers)) ∙ tells_answer e b.key xs rest (line.Pending (missing b.accepted) (unreplied (ending b).managers))
      ∙ ending_answered (all_voted (ending b).accepted && all_replied (ending b).managers) line.Normal
      ∙ (λ i. elim (sym (sends_end t ms (tells e b.key xs ++ rest) tm.records ∙ tells_end t e b.key xs rest tm.records) i) [
        | Some l ↦ l
        | None ↦ elim (find_serial t (sym (sends_after ms (tells e b.key xs ++ rest) mid ∙ tells_after e b.key xs rest mid) i).table) [ Some y ↦ line.Pending (missing y.accepted) (unreplied y.managers) | None ↦ line.Normal ]
      ])

  -- or it is aborted at once
  state_answered : (taken : Bool) → (let acts : List Act = if taken then begins_ending b else rows.aborts SyncFail b in end_answer acts line.Normal ≡ ended_in t (effects_of acts tm.records) (after acts tm).table)
  state_answered true = begins_answered
  state_answered false = sym (ap (λ (o : Option Line). elim o [ Some l ↦ l | None ↦ elim (find_serial t (after (rows.aborts SyncFail b) tm).table) [ Some y ↦ line.Pending (missing y.accepted) (unreplied y.managers) | None ↦ line.Normal ] ]) (settles_first t b (line.TransactionAborted SyncFail) _ serial_is))

-- The world's answer to END_TRANS of a branch that is the first of its transaction and active.
pub ends_answered : (tm : Tm) (t : Id) (b : Branch) → find_serial t tm.table ≡ Some b → is_first_active b ≡ true → b.key.tid ≡ t → end_answer (row tm (rows.EndTrans t)) line.Normal ≡ ended_in t (effects_of (row tm (rows.EndTrans t)) tm.records) (after (row tm (rows.EndTrans t)) tm).table
ends_answered tm t b found holds of =
    let parts = and_parts (is_first b) (is_active b.state) holds in
    let key : b.key ≡ first t = first_key b parts.0 ∙ ap first of in
    let is : row tm (rows.EndTrans t) ≡ end_trans_state b Active = ap end_trans_row (found_first t tm.table b found key) ∙ ap (end_trans_state b) (active_state b parts.1) in
    subst (λ acts. end_answer acts line.Normal ≡ ended_in t (effects_of acts tm.records) (after acts tm).table) (sym is) (state_answered tm t b found key (all_taken b.bids b.accepted))

-- How an outcome is found among effects, one after another.

ending_front : (t : Id) (xs ys : List Effect) → ending_in t xs ≡ None → ending_in t (xs ++ ys) ≡ ending_in t ys
ending_front t [] ys e = refl
ending_front t (SettleEffect serial outcome reason r ∷ xs) ys e = go (same_id serial t) e (ending_front t xs ys)
  where
    go : (s : Bool) → ◌≡◌ {A = Option Line} (if s then Some (ending_line outcome reason) else ending_in t xs) None → (ending_in t xs ≡ None → ending_in t (xs ++ ys) ≡ ending_in t ys) → ◌≡◌ {A = Option Line} (if s then Some (ending_line outcome reason) else ending_in t (xs ++ ys)) (ending_in t ys)
    go true f more = let no : ⊥ = cc in absurd no
    go false f more = more f
ending_front t (PrepareEffect serial rms ∷ xs) ys e = ending_front t xs ys e
ending_front t (KeepEffect r ∷ xs) ys e = ending_front t xs ys e
ending_front t (ForgetEffect serial ∷ xs) ys e = ending_front t xs ys e
ending_front t (SendEffect m ∷ xs) ys e = ending_front t xs ys e
ending_front t (TellEffect event tid serial rm ∷ xs) ys e = ending_front t xs ys e
ending_front t (JoinedEffect serial ∷ xs) ys e = ending_front t xs ys e
ending_front t (StartedEffect serial ∷ xs) ys e = ending_front t xs ys e
ending_front t (ReadOnlyEffect serial ∷ xs) ys e = ending_front t xs ys e
ending_front t (EndedEffect tid reason ∷ xs) ys e = ending_front t xs ys e

-- an outcome that is found stays, whatever is behind it
ending_found : (t : Id) (xs ys : List Effect) (l : Line) → ending_in t xs ≡ Some l → ending_in t (xs ++ ys) ≡ Some l
ending_found t [] ys l e = absurd (let f : ◌≡◌ {A = Option Line} None (Some l) = e in let no : ⊥ = cc in no)
ending_found t (SettleEffect serial outcome reason r ∷ xs) ys l e = go (same_id serial t) e (ending_found t xs ys l)
  where
    go : (s : Bool) → ◌≡◌ {A = Option Line} (if s then Some (ending_line outcome reason) else ending_in t xs) (Some l) → (ending_in t xs ≡ Some l → ending_in t (xs ++ ys) ≡ Some l) → ◌≡◌ {A = Option Line} (if s then Some (ending_line outcome reason) else ending_in t (xs ++ ys)) (Some l)
    go true f more = f
    go false f more = more f
ending_found t (PrepareEffect serial rms ∷ xs) ys l e = ending_found t xs ys l e
ending_found t (KeepEffect r ∷ xs) ys l e = ending_found t xs ys l e
ending_found t (ForgetEffect serial ∷ xs) ys l e = ending_found t xs ys l e
ending_found t (SendEffect m ∷ xs) ys l e = ending_found t xs ys l e
ending_found t (TellEffect event tid serial rm ∷ xs) ys l e = ending_found t xs ys l e
ending_found t (JoinedEffect serial ∷ xs) ys l e = ending_found t xs ys l e
ending_found t (StartedEffect serial ∷ xs) ys l e = ending_found t xs ys l e
ending_found t (ReadOnlyEffect serial ∷ xs) ys l e = ending_found t xs ys l e
ending_found t (EndedEffect tid reason ∷ xs) ys l e = ending_found t xs ys l e

-- the effects up to a place, and the one there
place_split : {X : Type 0} (xs : List X) (i : ℕ) (x : X) → i < length xs → x ≡ get_or xs i x → take (i + 1) xs ≡ take i xs ++ x ∷ []
place_split xs i x below is = (let next : i + 1 ≡ suc i = omega arith in ap (λ (k : ℕ). take k xs) next ∙ take-suc xs i x below ∙ ap (λ y. take i xs ++ y ∷ []) (sym is))

module _ {X : Type 0} (f : X → Effect) (t : Id) (xs : List X) (i : ℕ) (x : X) (below : i < length xs) (is : x ≡ get_or xs i x) (none : ending_in t (map f (take i xs)) ≡ None) where
  -- none is found up to the next place,
  pub ending_on : ending_in t (map f (take (i + 1) xs)) ≡ ending_in t (f x ∷ [])
  ending_on = ap (λ ys. ending_in t (map f ys)) (place_split xs i x below is) ∙ ap (ending_in t) (map_push f (take i xs) x) ∙ ending_front t (map f (take i xs)) (f x ∷ []) none

  -- or it is that of the effect there.
  pub ending_at : (l : Line) → ending_in t (f x ∷ []) ≡ Some l → ending_in t (map f xs) ≡ Some l
  ending_at l e =
      let parts : map f (take (i + 1) xs) ++ map f (drop (i + 1) xs) ≡ map f xs = sym (map-append f (take (i + 1) xs) (drop (i + 1) xs)) ∙ ap (map f) (take-append-drop (i + 1) xs) in
      subst (λ ys. ending_in t ys ≡ Some l) parts (ending_found t (map f (take (i + 1) xs)) (map f (drop (i + 1) xs)) l (ending_on ∙ e))
