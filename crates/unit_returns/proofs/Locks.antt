-- Keys are locked one after another.
use Rattle.std.proofs.Common.{◌≡◌, ℕ, suc, ◌≤◌, ◌==◌, ◌&&◌, ◌||◌, nat_le, Bool, true, false, List, [], ◌∷◌, ◌++◌, Option, Some, None, Result, Ok, Err, OnOk, OnErr, if◌then◌else◌, length, map, refl, sym, ap, subst, ◌∙◌, arith, length-append}
use Rattle.std.proofs.lemmas.Bool.{leb-false, leb-true}
use Rattle.std.specs.Ordering.{eq_by_cmp}
use Rattle.file_base.specs.declared.head.FileHead.{FileHead}
use Rattle.file_base.specs.declared.head.Organization.{Organization}
use Rattle.file_base.specs.declared.head.Organization.TheVariants.{Indexed, Relative, Sequential}
use Rattle.journal_model.specs.Entries.{Entry}
use Rattle.record_locks.specs.Locks.{Full, Held, Lock, LockTable, Refusal, holder, is_lock_of, is_locked, lock_refused, not_locked, with_locks}
use Rattle.record_locks.specs.Refusals.{refusal_of}
use Rattle.record_locks.specs.declared.locks.LockErr.{LockErr}
use Rattle.record_locks.specs.declared.locks.LockErr.TheVariants as refused
use Rattle.record_locks.proofs.LockLemmas.{locked_already, locked_now}
use Rattle.records_model.specs.Records.{key_cmp}
use Rattle.vms_model.specs.Ids.{Id}
use Rattle.vms_model.specs.Keys.{End, Key, Number, Text}
use Rattle.volume.specs.Catalogs.{head_at}
use Rattle.unit_returns.specs.Locking.{Holds, keys_left, keys_with_end, moves_end, relocked_by}
use Rattle.unit_returns.specs.Returning.{StayFew}

-- Locks only come.

pub with_longer : (by : Id) (file : ℕ) (keys : List Key) (ls : List Lock) → length ls ≤ length (with_locks by file keys ls)
with_longer by file keys ls = let more = length-append (map (λ (k : Key). let l : Lock = record { file = file; key = k; by = by } in l) (not_locked ls file keys)) ls in omega (arith, more)

pub relocked_longer : (heads : List (Option FileHead)) (by : Id) (es : List Entry) (ls : List Lock) → length ls ≤ length (relocked_by heads by es ls)
relocked_longer heads by [] ls = omega arith
relocked_longer heads by (e ∷ es) ls =
    let one = with_longer by e.file (keys_left (head_at heads e.file) e) ls in
    let more = relocked_longer heads by es (with_locks by e.file (keys_left (head_at heads e.file) e) ls) in
    omega (arith, one, more)

-- One key.

one_refusal : (a b : Refusal) → ◌≡◌ {A = Option Refusal} (Some a) (Some b) → a ≡ b
one_refusal a b e = cc

held_full : (by h : Id) → Held h ≡ Full → ⊥
held_full by h e = cc

module _ (by : Id) (file : ℕ) (key : Key) (old new : LockTable) where
  -- it is locked, or not, since nothing else may be or another holds it
  still : (new ≡ old) → (length (with_locks by file (key ∷ []) old.locks) ≤ old.most → with_locks by file (key ∷ []) old.locks ≡ old.locks) → Holds by file (key ∷ []) old new
  still same is = record {
    most = ap (λ (t : LockTable). t.most) same;
    few = λ few. subst (λ (t : LockTable). length t.locks ≤ t.most) (sym same) few;
    locked = λ room. ap (λ (t : LockTable). t.locks) same ∙ sym (is room);
  }

  longer_now : holder old.locks file key ≡ None → length (with_locks by file (key ∷ []) old.locks) ≡ suc (length old.locks)
  longer_now none = ap length (locked_now old.locks file key by none)

  refusal_none : (o : Option Id) → holder old.locks file key ≡ o → lock_refused by o (length old.locks) old.most ≡ None → length old.locks ≤ old.most → length (with_locks by file (key ∷ []) old.locks) ≤ old.most
  refusal_none (Some h) is none few = subst (λ (ls : List Lock). length ls ≤ old.most) (sym (locked_already old.locks file key by h is)) few
  refusal_none None is none few = go (nat_le old.most (length old.locks)) refl none
    where
      go : (b : Bool) → nat_le old.most (length old.locks) ≡ b → (let o : Option Refusal = if b then Some Full else None in o) ≡ None → length (with_locks by file (key ∷ []) old.locks) ≤ old.most
      go true le gone = let never : ⊥ = cc in absurd never
      go false le gone = let room = leb-false old.most (length old.locks) le in let more = longer_now is in omega (arith, room, more)

  refusal_held : (o : Option Id) → holder old.locks file key ≡ o → (r : Refusal) → Some r ≡ lock_refused by o (length old.locks) old.most → length (with_locks by file (key ∷ []) old.locks) ≤ old.most → with_locks by file (key ∷ []) old.locks ≡ old.locks
  refusal_held (Some h) is r told room = locked_already old.locks file key by h is
  refusal_held None is r told room = go (nat_le old.most (length old.locks)) refl told
    where
      go : (b : Bool) → nat_le old.most (length old.locks) ≡ b → Some r ≡ (let o : Option Refusal = if b then Some Full else None in o) → with_locks by file (key ∷ []) old.locks ≡ old.locks
      go true le told = let full = leb-true old.most (length old.locks) le in let more = longer_now is in absurd (omega (arith, full, more, room))
      go false le told = let never : ⊥ = cc in absurd never

  refuses : (e : LockErr) → (r : Refusal) × (refusal_of {T = Unit {0}} (Err e) ≡ Some r)
  refuses (refused.HeldBy h) = (_, refl)
  refuses refused.Quota = (_, refl)

  pub held_one : (r : Result (Unit {0}) LockErr) → OnOk r (new ≡ record old { locks = with_locks by file (key ∷ []) old.locks }) → refusal_of r ≡ lock_refused by (holder old.locks file key) (length old.locks) old.most → OnErr r (new ≡ old) → Holds by file (key ∷ []) old new
  held_one (Ok x) is told same = record {
    most = ap (λ (t : LockTable). t.most) is;
    few = λ few. subst (λ (t : LockTable). length t.locks ≤ t.most) (sym is) (refusal_none (holder old.locks file key) refl (sym told) few);
    locked = λ room. ap (λ (t : LockTable). t.locks) is;
  }
  held_one (Err e) is told same = let r = refuses e in still same (refusal_held (holder old.locks file key) refl r.0 (sym r.1 ∙ told))

-- Two keys.

pub held_then : (by : Id) (file : ℕ) (ks js both : List Key) (a b c : LockTable) → with_locks by file both a.locks ≡ with_locks by file js (with_locks by file ks a.locks) → Holds by file ks a b → Holds by file js b c → Holds by file both a c
held_then by file ks js both a b c same h k = record {
  most = k.most ∙ h.most;
  few = λ few. k.few (h.few few);
  locked = λ room.
      let first = with_longer by file js (with_locks by file ks a.locks) in
      let whole = ap length same in
      let mid : b.locks ≡ with_locks by file ks a.locks = h.locked (omega (arith, first, whole, room)) in
      let most = h.most in
      let later = ap (λ (ls : List Lock). length (with_locks by file js ls)) mid in
      k.locked (omega (arith, later, whole, room, most)) ∙ ap (with_locks by file js) mid ∙ sym same;
}

end_apart : (by : Id) (file n : ℕ) → (let l : Lock = record { file = file; key = End; by = by } in is_lock_of file (Number n) l) ≡ false
end_apart by file n = go (file == file)
  where
    go : (b : Bool) → (b && eq_by_cmp key_cmp (Number n) End) ≡ false
    go true = refl
    go false = refl

pub with_end : (by : Id) (file n : ℕ) (ls : List Lock) → with_locks by file (Number n ∷ End ∷ []) ls ≡ with_locks by file (Number n ∷ []) (with_locks by file (End ∷ []) ls)
with_end by file n ls = go (is_locked ls file End) refl (is_locked ls file (Number n)) refl
  where
    lock_of : Key → Lock
    lock_of k = record { file = file; key = k; by = by }

    -- whether the number is locked once the end is
    apart : is_locked (lock_of End ∷ ls) file (Number n) ≡ is_locked ls file (Number n)
    apart = ap (λ (b : Bool). b || is_locked ls file (Number n)) (end_apart by file n)

    both : (d e : Bool) → List Lock
    both d e = map lock_of (if d then (if e then [] else End ∷ []) else Number n ∷ (if e then [] else End ∷ [])) ++ ls

    one : (d : Bool) → List Lock → List Lock
    one d ms = map lock_of (if d then [] else Number n ∷ []) ++ ms

    first : (e : Bool) → List Lock
    first e = map lock_of (if e then [] else End ∷ []) ++ ls

    after : (e d : Bool) → is_locked ls file (Number n) ≡ d → one (is_locked (first e) file (Number n)) (first e) ≡ both d e
    after true true number = ap (λ (b : Bool). one b ls) number
    after true false number = ap (λ (b : Bool). one b ls) number
    after false true number = ap (λ (b : Bool). one b (lock_of End ∷ ls)) (apart ∙ number)
    after false false number = ap (λ (b : Bool). one b (lock_of End ∷ ls)) (apart ∙ number)

    go : (e : Bool) → is_locked ls file End ≡ e → (d : Bool) → is_locked ls file (Number n) ≡ d → with_locks by file (Number n ∷ End ∷ []) ls ≡ with_locks by file (Number n ∷ []) (with_locks by file (End ∷ []) ls)
    go e end d number = ap (λ (x : Bool). both x (is_locked ls file End)) number ∙ ap (both d) end ∙ sym (ap (λ (x : Bool). one (is_locked (first x) file (Number n)) (first x)) end ∙ after e d number)

-- What the entry of a change tells.

pub held_end : (by : Id) (file : ℕ) (organization : Organization) (count : ℕ) (had : Bool) (key : Key) (a b c : LockTable) → moves_end organization count had key ≡ true → Holds by file (End ∷ []) a b → Holds by file (key ∷ []) b c
    → Holds by file (keys_with_end organization count had (Some key)) a c
held_end by file organization count had key a b c is h k = go key is k
  where
    none : (o : Organization) → (bytes : List ℕ) → moves_end o count had (Text bytes) ≡ false
    none Sequential bytes = refl
    none Relative bytes = refl
    none Indexed bytes = refl

    no_end : (o : Organization) → moves_end o count had End ≡ false
    no_end Sequential = refl
    no_end Relative = refl
    no_end Indexed = refl

    go : (x : Key) → moves_end organization count had x ≡ true → Holds by file (x ∷ []) b c → Holds by file (keys_with_end organization count had (Some x)) a c
    go (Number n) is k = subst (λ (t : Bool). Holds by file (if t then Number n ∷ End ∷ [] else Number n ∷ []) a c) (sym is)
        (held_then by file (End ∷ []) (Number n ∷ []) (Number n ∷ End ∷ []) a b c (with_end by file n a.locks) h k)
    go (Text bytes) is k = let no = none organization bytes in let never : ⊥ = cc in absurd never
    go End is k = let no = no_end organization in let never : ⊥ = cc in absurd never

pub held_key : (by : Id) (file : ℕ) (organization : Organization) (count : ℕ) (had : Bool) (key : Key) (a b : LockTable) → moves_end organization count had key ≡ false → Holds by file (key ∷ []) a b → Holds by file (keys_with_end organization count had (Some key)) a b
held_key by file organization count had key a b is h = subst (λ (t : Bool). Holds by file (if t then key ∷ End ∷ [] else key ∷ []) a b) (sym is) h

pub held_none : (by : Id) (file : ℕ) (a : LockTable) → Holds by file [] a a
held_none by file a = record { most = refl; few = λ few. few; locked = λ room. refl }

pub stay_few : (by : Id) (file : ℕ) (keys : List Key) (a b : LockTable) → Holds by file keys a b → StayFew a b
stay_few by file keys a b h = record { most = h.most; few = h.few }

pub few_still : (a : LockTable) → StayFew a a
few_still a = record { most = refl; few = λ few. few }

pub few_then : (a b c : LockTable) → StayFew a b → StayFew b c → StayFew a c
few_then a b c h k = record { most = k.most ∙ h.most; few = λ few. k.few (h.few few) }
