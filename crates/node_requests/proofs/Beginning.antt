-- A branch that is to begin at a node that is up, and statements whose rows use no disk.
use Rattle.std.proofs.Common.{◌≡◌, inl, inr, ℕ, ◌≤◌, ◌<◌, ◌+◌, List, [], ◌∷◌, ◌++◌, Bool, true, false, Option, Some, None, length, refl, ◌∙◌, ap, sym, arith}
use Rattle.std.specs.Prelude.{nat_le, nat_lt, is_some, option_copied}
use Rattle.std.specs.Borrow.{Bor}
use Rattle.std.specs.Option.{option_map}
use Rattle.std.specs.List.{list_any}
use Rattle.std.proofs.lemmas.Bool.{leb-false, lt-ltb}
use Rattle.vms_model.specs.Limits.{branch_limit}
use Rattle.emitter_model.specs.commit_protocol.Allowed.{has_room}
use Rattle.emitter_model.specs.commit_protocol.Effects.{effects_of}
use Rattle.emitter_model.specs.commit_protocol.Messages.{LogRecord}
use Rattle.emitter_model.specs.commit_protocol.Rows as rows
use Rattle.emitter_model.specs.commit_protocol.Rows.{authorise_row, authorise_state, row}
use Rattle.emitter_model.specs.commit_protocol.Table.{Active, Branch, Ending, Joining, Prepared, State, Tm, Voting, branch_serials, find_serial, record_serials}
use Rattle.emitter_model.specs.commit_protocol.World.{In}
use Rattle.emitter_model.proofs.commit_protocol.Lists.{in_left, in_parts, in_right, told_id}
use Rattle.vms_model.specs.Ids.{Id}
use Rattle.emitter_model.specs.transcript_model.Lines as line
use Rattle.world_laws.specs.log_laws.Slots.{branches_added}
use Rattle.world_laws.specs.run_model.Operations.{first_of, refused_if}
use Rattle.participants.specs.tm_table.Restarts.{record_of}
use Rattle.node_table.specs.Running.{IsFreshOf}
use Rattle.node_table.specs.Standing.{IsUp, Up}
use Rattle.node_table.specs.Telling.{uses_disk}
use Rattle.node_requests.specs.Transacting.{more_in}
use Rattle.node_requests.proofs.Drawing.{with_drawn}

-- There is room for one branch more.

record HasRoom (r : Up) : Type 0 where
  pub few : length r.tm.table < 64
  pub free : length r.tm.table + length r.tm.records < length r.stored.units.log

room_in : (r : Up) → more_in r ≡ None → HasRoom r
room_in r e = go (nat_le branch_limit (length r.tm.table)) (nat_le (length r.stored.units.log) (length r.tm.table + length r.tm.records)) refl refl e
  where
    go : (x y : Bool) → nat_le branch_limit (length r.tm.table) ≡ x → nat_le (length r.stored.units.log) (length r.tm.table + length r.tm.records) ≡ y
        → first_of (refused_if x (line.QuotaExceeded line.Branches branch_limit)) (refused_if y (line.QuotaExceeded line.Slots (length r.stored.units.log))) ≡ None → HasRoom r
    go true y f g k = let no : ⊥ = cc in absurd no
    go false true f g k = let no : ⊥ = cc in absurd no
    go false false f g k = record { few = leb-false branch_limit (length r.tm.table) f; free = leb-false (length r.stored.units.log) (length r.tm.table + length r.tm.records) g }

-- a log has at most 512 slots
log_few : (r : Up) → IsUp r → length r.stored.units.log ≤ 512
log_few r up =
    let order = up.follows.order in
    let slots = order.slots in
    let start = order.sound.ru_start in
    let most = order.sound.sizes.most_slots in
    omega arith

-- a branch may be begun
pub room_allows : (r : Up) → IsUp r → more_in r ≡ None → has_room r.tm ≡ true
room_allows r up e =
    let h = room_in r e in
    let few = h.few in
    let free = h.free in
    let log = log_few r up in
    let one : nat_lt (length r.tm.table) 64 ≡ true = lt-ltb (length r.tm.table) 64 few in
    let two : nat_lt (length r.tm.table + length r.tm.records) 512 ≡ true = lt-ltb (length r.tm.table + length r.tm.records) 512 (omega arith) in
    rw (one, two) refl

-- under an id that is free
pub fresh_for : (r : Up) (serial : Id) → more_in r ≡ None → (In serial (branch_serials r.tm.table ++ record_serials r.tm.records) → ⊥) → IsFreshOf (with_drawn r) serial
fresh_for r serial e new = record { room = (room_in r e).free; new = new }

-- Rows without an effect that uses the disk.

pub starts_surely : (tm : Tm) (tid : Id) (due : Option ℕ) (rs : List LogRecord) → list_any uses_disk (effects_of (row tm (rows.Start tid due)) rs) ≡ true → ⊥
starts_surely tm tid due rs h = let no : ⊥ = cc in no

pub begins_surely : (tm : Tm) (tid serial bid : Id) (rs : List LogRecord) → list_any uses_disk (effects_of (row tm (rows.Begin tid serial bid)) rs) ≡ true → ⊥
begins_surely tm tid serial bid rs h = let no : ⊥ = cc in no

pub authorises_surely : (bid : Id) (o : Option Branch) (rs : List LogRecord) → list_any uses_disk (effects_of (authorise_row bid o) rs) ≡ true → ⊥
authorises_surely bid None rs h = let no : ⊥ = cc in no
authorises_surely bid (Some b) rs h = go b.state h
  where
    go : (s : State) → list_any uses_disk (effects_of (authorise_state bid b s) rs) ≡ true → ⊥
    go Joining e = let no : ⊥ = cc in no
    go Active e = let no : ⊥ = cc in no
    go Ending e = let no : ⊥ = cc in no
    go Voting e = let no : ⊥ = cc in no
    go Prepared e = let no : ⊥ = cc in no

-- Whether a branch or a committed record has a serial.

branch_taken : (s : Id) (bs : List Branch) → is_some (find_serial s bs) ≡ true → In s (branch_serials bs)
branch_taken s [] h = let no : ⊥ = cc in absurd no
branch_taken s (b ∷ bs) h = elim (told_id b.key.serial s) [
  | inl t ↦ inl (sym t.1)
  | inr t ↦ inr (branch_taken s bs (rw (t.0) at h))
]

branch_free : (s : Id) (bs : List Branch) → is_some (find_serial s bs) ≡ false → In s (branch_serials bs) → ⊥
branch_free s [] h i = i
branch_free s (b ∷ bs) h i = elim (told_id b.key.serial s) [
  | inl t ↦ (let f : true ≡ false = (rw (t.0) at h) in let no : ⊥ = cc in no)
  | inr t ↦ elim i [ inl here ↦ t.1 (sym here) | inr there ↦ branch_free s bs (rw (t.0) at h) there ]
]

record_taken : (s : Id) (rs : List LogRecord) → is_some (record_of s rs) ≡ true → In s (record_serials rs)
record_taken s [] h = let no : ⊥ = cc in absurd no
record_taken s (r ∷ rs) h = elim (told_id r.serial s) [
  | inl t ↦ inl (sym t.1)
  | inr t ↦ inr (record_taken s rs (rw (t.0) at h))
]

record_free : (s : Id) (rs : List LogRecord) → is_some (record_of s rs) ≡ false → In s (record_serials rs) → ⊥
record_free s [] h i = i
record_free s (r ∷ rs) h i = elim (told_id r.serial s) [
  | inl t ↦ (let f : true ≡ false = (rw (t.0) at h) in let no : ⊥ = cc in no)
  | inr t ↦ elim i [ inl here ↦ t.1 (sym here) | inr there ↦ record_free s rs (rw (t.0) at h) there ]
]

pub taken_by_branch : (s : Id) (bs : List Branch) (rs : List LogRecord) → is_some (find_serial s bs) ≡ true → In s (branch_serials bs ++ record_serials rs)
taken_by_branch s bs rs h = in_left s (branch_serials bs) (record_serials rs) (branch_taken s bs h)

pub taken_by_record : (s : Id) (bs : List Branch) (rs : List LogRecord) → is_some (record_of s rs) ≡ true → In s (branch_serials bs ++ record_serials rs)
taken_by_record s bs rs h = in_right s (branch_serials bs) (record_serials rs) (record_taken s rs h)

pub taken_by_none : (s : Id) (bs : List Branch) (rs : List LogRecord) → is_some (find_serial s bs) ≡ false → is_some (record_of s rs) ≡ false → In s (branch_serials bs ++ record_serials rs) → ⊥
taken_by_none s bs rs h k i = elim (in_parts s (branch_serials bs) (record_serials rs) i) [ inl here ↦ branch_free s bs h here | inr there ↦ record_free s rs k there ]

-- whether there is one is told by what the model has
pub some_copied : {A B : Type 0} (f : A → B) (o : Option (Bor A)) (p : Option B) → option_map f (option_copied o) ≡ p → is_some o ≡ is_some p
some_copied {A = A} f o p e = shape o ∙ ap is_some e
  where
    shape : (q : Option (Bor A)) → is_some q ≡ is_some (option_map f (option_copied q))
    shape None = refl
    shape (Some x) = refl
