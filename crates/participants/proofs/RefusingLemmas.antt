-- What refuses a reply, test by test, and that what nothing refuses the table may be told.
use Rattle.std.proofs.Common.{◌≡◌, ◌&&◌, ◌||◌, Bool, true, false, not, List, [], ◌∷◌, Option, Some, None, length, if◌then◌else◌, refl, sym, ap, ◌∙◌}
use Rattle.std.specs.Prelude.{nat_le, nat_lt}
use Rattle.std.specs.List.{list_any}
use Rattle.std.proofs.lemmas.Bool.{and_from, leb-false, lt-ltb}
use Rattle.vms_model.specs.Ids.{Id}
use Rattle.vms_model.specs.Limits.{manager_limit}
use Rattle.run_model.specs.transcript_model.Lines as line
use Rattle.run_model.specs.transcript_model.Lines.{Line}
use Rattle.run_model.specs.commit_protocol.Messages.{CommitEvent, LogRecord, Name, Reply, same_id, same_name}
use Rattle.run_model.specs.commit_protocol.Table.{Branch, Tm, find_serial, holds}
use Rattle.run_model.specs.commit_protocol.Rows.{JoinRm, Replied}
use Rattle.run_model.specs.commit_protocol.Allowed.{allowed, answers, is_working, may_join, may_reply, reply_allowed, there_is}
use Rattle.run_model.specs.Answers.{Known, Unsettled, Recorded, has_joined, is_joinable}
use Rattle.run_model.specs.Operations.{first_of, refused_if}
use Rattle.tm_table.specs.Restarts.{record_of}
use Rattle.participants.specs.Refusing.{is_among, refused_reply, undeclared}

-- of a branch that knows the manager, or not, and waits for the reply, or not
pub reply_tests : (rm : Name) (reply : Reply) (rms : List Name) (declared joined awaited : Bool) → declared ≡ is_among rm rms → first_of (refused_if (not declared) line.NoSuchManager) (first_of (refused_if (not joined) line.NoSuchManager) (refused_if (not awaited) line.WrongState)) ≡
    (if declared && joined then (if awaited then None else Some line.WrongState) else Some line.NoSuchManager)
reply_tests rm reply rms true true true is = refl
reply_tests rm reply rms true true false is = refl
reply_tests rm reply rms true false awaited is = refl
reply_tests rm reply rms false joined awaited is = refl

-- the table may be told that a manager joins
pub joins_allowed : (tm : Tm) (serial : Id) (rm : Name) (b : Branch) → find_serial serial tm.table ≡ Some b → is_joinable rm b ≡ true → nat_le manager_limit (length b.managers) ≡ false → allowed tm (JoinRm serial rm) ≡ true
joins_allowed tm serial rm b found joinable few =
    let p = parts (is_working b) (not (has_joined rm b)) joinable in
    ap (λ (o : Option Branch). there_is o (may_join rm)) found ∙ and_from _ _ (and_from (is_working b) (nat_lt (length b.managers) 8) p.0 (lt-ltb (length b.managers) 8 (leb-false 8 (length b.managers) few))) p.1
  where
    parts : (x y : Bool) → (x && y) ≡ true → (x ≡ true) × (y ≡ true)
    parts true true e = (refl, refl)
    parts true false e = let no : ⊥ = cc in absurd no
    parts false y e = let no : ⊥ = cc in absurd no

-- that it replies to an event of an unsettled branch
pub replies_allowed : (tm : Tm) (serial : Id) (rm : Name) (reply : Reply) (b : Branch) → find_serial serial tm.table ≡ Some b → may_reply rm reply b ≡ true → allowed tm (Replied serial rm reply) ≡ true
replies_allowed tm serial rm reply b found may = ap (λ (o : Option Branch). reply_allowed serial rm reply o tm.records) found ∙ may

-- the record of a serial that waits for a manager
held : (serial : Id) (rm : Name) (rs : List LogRecord) (r : LogRecord) → record_of serial rs ≡ Some r → list_any (λ x. same_name x rm) r.rms ≡ true → list_any (λ q. holds serial rm q) rs ≡ true
held serial rm [] r e waits = let no : ⊥ = cc in absurd no
held serial rm (q ∷ rs) r e waits = go (same_id q.serial serial) refl e (held serial rm rs r)
  where
    go : (t : Bool) → same_id q.serial serial ≡ t → ◌≡◌ {A = Option LogRecord} (if t then Some q else record_of serial rs) (Some r) → (record_of serial rs ≡ Some r → list_any (λ x. same_name x rm) r.rms ≡ true → list_any (λ x. holds serial rm x) rs ≡ true) → (holds serial rm q || list_any (λ x. holds serial rm x) rs) ≡ true
    go true is f more = let same : q ≡ r = cc in or_left (holds serial rm q) _ (and_from (same_id q.serial serial) _ is (ap (λ (x : LogRecord). list_any (λ y. same_name y rm) x.rms) same ∙ waits))
      where
        or_left : (a b : Bool) → a ≡ true → (a || b) ≡ true
        or_left true b e = refl
        or_left false b e = let no : ⊥ = cc in absurd no
    go false is f more = or_right (holds serial rm q) _ (more f waits)
      where
        or_right : (a b : Bool) → b ≡ true → (a || b) ≡ true
        or_right true b e = refl
        or_right false b e = e

-- that it replies to the event of a committed record
pub records_allowed : (tm : Tm) (serial : Id) (rm : Name) (reply : Reply) (r : LogRecord) → find_serial serial tm.table ≡ None → record_of serial tm.records ≡ Some r → list_any (λ x. same_name x rm) r.rms ≡ true → answers CommitEvent reply ≡ true → allowed tm (Replied serial rm reply) ≡ true
records_allowed tm serial rm reply r none found waits answers_it = ap (λ (o : Option Branch). reply_allowed serial rm reply o tm.records) none ∙ and_from _ _ (held serial rm tm.records r found waits) answers_it

-- A reply that nothing refuses is awaited.

waited : (d j a : Bool) → first_of (refused_if (not d) line.NoSuchManager) (first_of (refused_if (not j) line.NoSuchManager) (refused_if (not a) line.WrongState)) ≡ None → (j ≡ true) × (a ≡ true)
waited true true true e = (refl, refl)
waited true true false e = let no : ⊥ = cc in absurd no
waited true false a e = let no : ⊥ = cc in absurd no
waited false j a e = let no : ⊥ = cc in absurd no

pub taken_branch : (rm : Name) (reply : Reply) (rms : List Name) (b : Branch) → refused_reply rm reply rms (Unsettled b) ≡ None → may_reply rm reply b ≡ true
taken_branch rm reply rms b e = (waited (is_among rm rms) (has_joined rm b) (may_reply rm reply b) e).1

pub taken_record : (rm : Name) (reply : Reply) (rms : List Name) (r : LogRecord) → refused_reply rm reply rms (Recorded r) ≡ None → (list_any (λ x. same_name x rm) r.rms ≡ true) × (answers CommitEvent reply ≡ true)
taken_record rm reply rms r e = waited (is_among rm rms) (list_any (λ x. same_name x rm) r.rms) (answers CommitEvent reply) e
