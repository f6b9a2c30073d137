-- A reply that nothing refuses is an event that the table may be told.
use Rattle.std.proofs.Common.{◌≡◌, List, [], ◌∷◌, Bool, true, false, not, ◌&&◌, ◌||◌, Option, Some, None, if◌then◌else◌, refl, sym, ap, subst, inl, inr}
use Rattle.std.specs.List.{list_any}
use Rattle.std.proofs.lemmas.Bool.{and_from, both_ways}
use Rattle.transcript_model.specs.vms_model.Ids.{Id}
use Rattle.transcript_model.specs.Lines as line
use Rattle.recovery_model.specs.records_model.History.{same_id}
use Rattle.recovery_model.proofs.unit_laws.LiveLemmas.{id_is, id_itself}
use Rattle.transcript_model.specs.commit_protocol.Messages.{Name, Reply, LogRecord, CommitEvent, same_name}
use Rattle.transcript_model.specs.commit_protocol.Table.{Branch, find_serial, holds}
use Rattle.transcript_model.specs.commit_protocol.Rows.{Replied}
use Rattle.transcript_model.specs.commit_protocol.Allowed.{allowed, answers, may_reply, reply_allowed}
use Rattle.transcript_model.proofs.commit_protocol.Lists.{told_id}
use Rattle.run_model.specs.World.{Node, find_branch, find_record, tm_of}
use Rattle.run_model.specs.Answers.{Known, Unsettled, Recorded, Unheard, awaited_reply, known_branch, known_manager, known_serial}
use Rattle.run_model.specs.Operations.{refused_if}
use Rattle.run_model.proofs.NodeLists.{some_is}

-- what a test refuses where it fails
pub is_so : (b : Bool) (refusal : line.Line) → refused_if (not b) refusal ≡ None → b ≡ true
is_so true refusal e = refl
is_so false refusal e = let none : ⊥ = cc in absurd none

-- a branch is found by its serial either way
pub same_found : (serial : Id) (bs : List Branch) → find_branch serial bs ≡ find_serial serial bs
same_found serial [] = refl
same_found serial (b ∷ bs) = go (same_id serial b.key.serial) refl (same_found serial bs)
  where
    go : (t : Bool) → same_id serial b.key.serial ≡ t → find_branch serial bs ≡ find_serial serial bs → ◌≡◌ {A = Option Branch} (if t then Some b else find_branch serial bs) (find_serial serial (b ∷ bs))
    go true is more = elim (told_id b.key.serial serial) [
      | inl q ↦ rw (q.0) refl
      | inr q ↦ absurd (q.1 (sym (id_is serial b.key.serial is)))
    ]
    go false is more = elim (told_id b.key.serial serial) [
      | inl q ↦ absurd (both_ways _ is (subst (λ x. same_id serial x ≡ true) (sym q.1) (id_itself serial)))
      | inr q ↦ rw (q.0) more
    ]

or_left : (a b : Bool) → a ≡ true → (a || b) ≡ true
or_left true b e = refl
or_left false b e = let none : ⊥ = cc in absurd none

or_right : (a b : Bool) → b ≡ true → (a || b) ≡ true
or_right true b e = refl
or_right false b e = e

-- the first record of a serial waits for a manager, so that one of all records does
record_waits : (serial : Id) (rm : Name) (rs : List LogRecord) (r : LogRecord) → find_record serial rs ≡ Some r → list_any (λ x. same_name x rm) r.rms ≡ true → list_any (λ q. holds serial rm q) rs ≡ true
record_waits serial rm [] r e waits = let none : ⊥ = cc in absurd none
record_waits serial rm (p ∷ rs) r e waits = go (same_id serial p.serial) refl e (record_waits serial rm rs r)
  where
    go : (b : Bool) → same_id serial p.serial ≡ b → ◌≡◌ {A = Option LogRecord} (if b then Some p else find_record serial rs) (Some r) → (find_record serial rs ≡ Some r → list_any (λ x. same_name x rm) r.rms ≡ true → list_any (λ q. holds serial rm q) rs ≡ true) →
        (holds serial rm p || list_any (λ q. holds serial rm q) rs) ≡ true
    go true is k more = or_left (holds serial rm p) _ (elim (told_id p.serial serial) [
      | inl q ↦ and_from _ _ (q.0) (subst (λ (x : LogRecord). list_any (λ x. same_name x rm) x.rms ≡ true) (sym (some_is p r k)) waits)
      | inr q ↦ absurd (q.1 (sym (id_is serial p.serial is)))
    ])
    go false is k more = or_right (holds serial rm p) _ (more k waits)

pub reply_is_allowed : (n : Node) (serial : Id) (rm : Name) (reply : Reply) → known_branch (known_serial n serial) ≡ None → known_manager rm (known_serial n serial) ≡ None → awaited_reply rm reply (known_serial n serial) ≡ None →
    allowed (tm_of n) (Replied serial rm reply) ≡ true
reply_is_allowed n serial rm reply x y z = subst (λ o. reply_allowed serial rm reply o n.volatile.records ≡ true) (same_found serial n.volatile.branches) (branch (find_branch serial n.volatile.branches) x y z)
  where
    recorded : (q : Option LogRecord) → find_record serial n.volatile.records ≡ q → known_branch (elim q [ Some r ↦ Recorded r | None ↦ Unheard ]) ≡ None → known_manager rm (elim q [ Some r ↦ Recorded r | None ↦ Unheard ]) ≡ None →
        awaited_reply rm reply (elim q [ Some r ↦ Recorded r | None ↦ Unheard ]) ≡ None → (list_any (λ q. holds serial rm q) n.volatile.records && answers CommitEvent reply) ≡ true
    recorded (Some r) e x y z = and_from _ _ (record_waits serial rm n.volatile.records r e (is_so _ line.NoSuchManager y)) (is_so (answers CommitEvent reply) line.WrongState z)
    recorded None e x y z = let none : ⊥ = cc in absurd none

    branch : (o : Option Branch) → known_branch (elim o [ Some b ↦ Unsettled b | None ↦ elim (find_record serial n.volatile.records) [ Some r ↦ Recorded r | None ↦ Unheard ] ]) ≡ None
        → known_manager rm (elim o [ Some b ↦ Unsettled b | None ↦ elim (find_record serial n.volatile.records) [ Some r ↦ Recorded r | None ↦ Unheard ] ]) ≡ None
        → awaited_reply rm reply (elim o [ Some b ↦ Unsettled b | None ↦ elim (find_record serial n.volatile.records) [ Some r ↦ Recorded r | None ↦ Unheard ] ]) ≡ None → reply_allowed serial rm reply o n.volatile.records ≡ true
    branch (Some b) x y z = is_so (may_reply rm reply b) line.WrongState z
    branch None x y z = recorded (find_record serial n.volatile.records) refl x y z
