-- A log of locks stays one, with its maps, as a key is locked, a turn ends, or all is taken out.
use Rattle.std.proofs.Common.{◌≡◌, ℕ, ◌+◌, ◌≤◌, ◌<◌, List, [], ◌∷◌, ◌++◌, length, Some, None, cond, refl, sym, ap, subst, ◌∙◌, arith}
use Rattle.std.proofs.lemmas.List.{length-append}
use Rattle.std.specs.List.{IsDistinct}
use Rattle.std.specs.Map.{keys_of, lookup}
use Rattle.indexmap.specs.IndexMap.{IndexMap, IsUnique, get, spare}
use Rattle.table_keys.specs.declared.key.BranchKey.{BranchKey}
use Rattle.vms_base.specs.Ids.{serial_of}
use Rattle.vms_base.specs.declared.ids.Serial.{Serial}
use Rattle.table_keys.specs.records_model.History.{same_id}
use Rattle.table_keys.specs.declared.place.Place.{Place}
use Rattle.record_locks.specs.declared.turns.Turn.{Turn}
use Rattle.record_locks.specs.declared.turns.Hold.{Hold}
use Rattle.record_locks.specs.declared.lock_log.Entry.{Entry}
use Rattle.record_locks.specs.Table.{others_of}
use Rattle.table_keys.specs.Places.{same_place}
use Rattle.record_locks.specs.Turns.{turn_of, held_now, found_now, turn_count, one_more, count_of, same_branch, IsLog}
use Rattle.record_locks.proofs.LockLemmas.{no_some, alike_places}
use Rattle.record_locks.proofs.LogLemmas.{turns_by_ids, held_added, found_added, count_added, before_behind, distinct_behind, latest_added, turn_changed, since_before, IsTurned, turn_ended, held_ended, found_ended, count_ended, count_parts, held_length, others_distinct}

-- a branch holds no more keys than stand in the log
pub few_counted : {S T : Type 0} (log : List Entry) (latest : IndexMap Place Hold S) (turns : IndexMap BranchKey Turn T) (count room capacity : ℕ) (by : Serial) → IsLog log latest turns count room capacity
    → turn_count (turn_of turns.entries by) ≤ length log
few_counted log latest turns count room capacity by is =
    let mine = is.counts by in
    let all = count_parts (serial_of by) (held_now (turn_of turns.entries) log) in
    let few = held_length (turn_of turns.entries) log in
    omega (arith, mine, all, few)

-- and no more than are held
pub few_held : {S T : Type 0} (log : List Entry) (latest : IndexMap Place Hold S) (turns : IndexMap BranchKey Turn T) (count room capacity : ℕ) (by : Serial) → IsLog log latest turns count room capacity
    → turn_count (turn_of turns.entries by) ≤ count
few_held log latest turns count room capacity by is =
    let mine = is.counts by in
    let all = count_parts (serial_of by) (held_now (turn_of turns.entries) log) in
    let counted = is.counted in
    omega (arith, mine, all, counted)

abbrev entry : Place → Serial → Turn → Entry
entry p by turn = record { place = p; hold = record { by = by; since = turn.since } }

-- a key is locked, in this turn of its branch
module _ {S T : Type 0} (log : List Entry) (latest later : IndexMap Place Hold S) (turns then_turns : IndexMap BranchKey Turn T) (count room capacity : ℕ) (p : Place) (by : Serial)
    (is : IsLog log latest turns count room capacity) (free : lookup (same_place p) (held_now (turn_of turns.entries) log) ≡ None) where
  abbrev next : Turn
  next = one_more (length log) (turn_of turns.entries by)

  module _ (more : IsTurned (turn_of turns.entries) (turn_of then_turns.entries) by next) where
    pub held_after : held_now (turn_of then_turns.entries) (log ++ entry p by next ∷ []) ≡ held_now (turn_of turns.entries) log ++ (p, by) ∷ []
    held_after = held_added (turn_of turns.entries) (turn_of then_turns.entries) by (length log) more (turns_by_ids turns.entries) log p is.locked_before

    module _ (locked : (q : Place) → get same_place later q ≡ cond (same_place p q) (Some (entry p by next).hold) (get same_place latest q)) where
      longer : length (log ++ entry p by next ∷ []) ≡ length log + 1
      longer = length-append log (entry p by next ∷ [])

      begun : next.since ≤ length log
      begun = since_before (length log) (turn_of turns.entries by) (is.began_before by)

      grown : length log ≤ length (log ++ entry p by next ∷ [])
      grown = let more_long = longer in omega (arith, more_long)

      reached : next.since < length (log ++ entry p by next ∷ [])
      reached = let more_long = longer in let b = begun in omega (arith, more_long, b)

      pub log_with : IsUnique same_place later → IsUnique same_branch then_turns → length later.entries ≤ length latest.entries + 1 → length then_turns.entries ≤ length turns.entries + 1
          → length latest.entries + spare latest ≤ length later.entries + spare later → length turns.entries + spare turns ≤ length then_turns.entries + spare then_turns
          → IsLog (log ++ entry p by next ∷ []) later then_turns (count + 1) room capacity
      log_with places branches few_later few_then room_later room_then =
          let more_long = longer in
          let few_places = is.few_places in
          let few_turns = is.few_turns in
          let place_room = is.place_room in
          let turn_room = is.turn_room in
          let counted = is.counted in
          let held_long = ap length held_after ∙ length-append (held_now (turn_of turns.entries) log) ((p, by) ∷ []) in
          record {
            unique_places = places;
            unique_turns = branches;
            locked_before = before_behind log (entry p by next) (length log) (length (log ++ entry p by next ∷ [])) is.locked_before grown reached;
            latest_before = λ q h at.
                latest_added (same_place p q) (get same_place latest q) (entry p by next).hold (length log) (length (log ++ entry p by next ∷ [])) (is.latest_before q) grown reached h (sym (locked q) ∙ at);
            began_before = λ q t at.
                turn_changed (same_id (serial_of by) (serial_of q)) (turn_of turns.entries q) next (length log) (length (log ++ entry p by next ∷ [])) (is.began_before q) grown (let b = begun in let g = grown in omega (arith, b, g)) t (sym (more q) ∙ at);
            found = λ q.
                found_added (turn_of turns.entries) (turn_of then_turns.entries) by (length log) more (turns_by_ids turns.entries) p q (held_now (turn_of turns.entries) log) (get same_place latest) (get same_place later q) (is.latest_before q) (is.found q) (locked q)
                (λ same. sym (alike_places p q (held_now (turn_of turns.entries) log) same) ∙ free) ∙ ap (lookup (same_place q)) (sym held_after);
            distinct = subst (λ (es : List (Place × Serial)). IsDistinct same_place (keys_of es)) (sym held_after) (distinct_behind p by (held_now (turn_of turns.entries) log) is.distinct free);
            counts = λ q.
                count_added (turn_of turns.entries) (turn_of then_turns.entries) by (length log) more (turns_by_ids turns.entries) p q (held_now (turn_of turns.entries) log) (is.counts q) (is.counts by) ∙ ap (count_of (serial_of q)) (sym held_after);
            counted = omega (arith, counted, held_long);
            few_places = omega (arith, more_long, few_places, few_later);
            few_turns = omega (arith, more_long, few_turns, few_then);
            place_room = omega (arith, place_room, room_later);
            turn_room = omega (arith, turn_room, room_then);
            log_room = is.log_room;
          }

-- the same, of what a call made
module _ {S T : Type 0} (log now : List Entry) (latest later : IndexMap Place Hold S) (turns then_turns : IndexMap BranchKey Turn T) (count room capacity : ℕ) (p : Place) (by : Serial) (turn : Turn)
    (is : IsLog log latest turns count room capacity) (free : lookup (same_place p) (held_now (turn_of turns.entries) log) ≡ None) (turn_is : turn ≡ one_more (length log) (turn_of turns.entries by))
    (more : IsTurned (turn_of turns.entries) (turn_of then_turns.entries) by turn) (pushed : now ≡ log ++ record { place = p; hold = record { by = by; since = turn.since } } ∷ []) where
  more_next : IsTurned (turn_of turns.entries) (turn_of then_turns.entries) by (one_more (length log) (turn_of turns.entries by))
  more_next q = more q ∙ ap (λ (t : Turn). cond (same_id (serial_of by) (serial_of q)) (Some t) (turn_of turns.entries q)) turn_is

  now_is : now ≡ log ++ entry p by (one_more (length log) (turn_of turns.entries by)) ∷ []
  now_is = pushed ∙ ap (λ (t : Turn). log ++ record { place = p; hold = record { by = by; since = t.since } } ∷ []) turn_is

  pub held_put : held_now (turn_of then_turns.entries) now ≡ held_now (turn_of turns.entries) log ++ (p, by) ∷ []
  held_put = ap (held_now (turn_of then_turns.entries)) now_is ∙ held_after log latest later turns then_turns count room capacity p by is free more_next

  pub log_put : (k : ℕ) → k ≡ capacity → ((q : Place) → get same_place later q ≡ cond (same_place p q) (Some (record { by = by; since = turn.since })) (get same_place latest q)) → IsUnique same_place later → IsUnique same_branch then_turns
      → length later.entries ≤ length latest.entries + 1 → length then_turns.entries ≤ length turns.entries + 1
      → length latest.entries + spare latest ≤ length later.entries + spare later → length turns.entries + spare turns ≤ length then_turns.entries + spare then_turns
      → IsLog now later then_turns (count + 1) room k
  log_put k wide locked places branches few_later few_then room_later room_then =
      subst (λ (es : List Entry). IsLog es later then_turns (count + 1) room k) (sym now_is)
      (subst (λ (m : ℕ). IsLog (log ++ entry p by (one_more (length log) (turn_of turns.entries by)) ∷ []) later then_turns (count + 1) room m) (sym wide)
      (log_with log latest later turns then_turns count room capacity p by is free more_next
      (λ q. locked q ∙ ap (λ (t : Turn). cond (same_place p q) (Some (record { by = by; since = t.since })) (get same_place latest q)) turn_is) places branches few_later few_then room_later room_then))

-- a branch lets go of its keys
module _ {S T : Type 0} (log : List Entry) (latest : IndexMap Place Hold S) (turns then_turns : IndexMap BranchKey Turn T) (count left room capacity : ℕ) (by : Serial) (is : IsLog log latest turns count room capacity)
    (ended : IsTurned (turn_of turns.entries) (turn_of then_turns.entries) by (record { since = length log; count = 0 })) where
  pub held_left : held_now (turn_of then_turns.entries) log ≡ others_of (serial_of by) (held_now (turn_of turns.entries) log)
  held_left = held_ended (turn_of turns.entries) (turn_of then_turns.entries) by (length log) (turn_ended (turn_of turns.entries) (turn_of then_turns.entries) by (length log) ended) log is.locked_before

  pub log_without : IsUnique same_branch then_turns → length then_turns.entries ≤ length turns.entries → length turns.entries + spare turns ≤ length then_turns.entries + spare then_turns
      → left + turn_count (turn_of turns.entries by) ≡ count → IsLog log latest then_turns left room capacity
  log_without branches few_then room_then parts =
      let few_turns = is.few_turns in
      let turn_room = is.turn_room in
      let counted = is.counted in
      let mine = is.counts by in
      let all = count_parts (serial_of by) (held_now (turn_of turns.entries) log) in
      let left_long = ap length held_left in
      record {
        unique_places = is.unique_places;
        unique_turns = branches;
        locked_before = is.locked_before;
        latest_before = is.latest_before;
        began_before = λ q t at.
            turn_changed (same_id (serial_of by) (serial_of q)) (turn_of turns.entries q) (record { since = length log; count = 0 }) (length log) (length log) (is.began_before q) (omega arith) (omega arith) t (sym (ended q) ∙ at);
        found = λ q.
            found_ended (turn_of turns.entries) (turn_of then_turns.entries) by (length log) (turn_ended (turn_of turns.entries) (turn_of then_turns.entries) by (length log) ended) q (held_now (turn_of turns.entries) log)
            (get same_place latest q) is.distinct (is.latest_before q) (is.found q) ∙ ap (lookup (same_place q)) (sym held_left);
        distinct = subst (λ (es : List (Place × Serial)). IsDistinct same_place (keys_of es)) (sym held_left) (others_distinct (serial_of by) (held_now (turn_of turns.entries) log) is.distinct);
        counts = λ q.
            count_ended (turn_of turns.entries) (turn_of then_turns.entries) by (length log) q (held_now (turn_of turns.entries) log) ended (is.counts q) ∙ ap (count_of (serial_of q)) (sym held_left);
        counted = omega (arith, counted, mine, all, left_long, parts);
        few_places = is.few_places;
        few_turns = omega (arith, few_turns, few_then);
        place_room = is.place_room;
        turn_room = omega (arith, turn_room, room_then);
        log_room = is.log_room;
      }

-- no lock stands in it
pub log_without_locks : {S T : Type 0} (latest : IndexMap Place Hold S) (turns : IndexMap BranchKey Turn T) (room capacity : ℕ) → latest.entries ≡ [] → turns.entries ≡ [] → IsUnique same_place latest → IsUnique same_branch turns
    → room ≤ spare latest → room ≤ spare turns → room ≤ capacity → IsLog [] latest turns 0 room capacity
unfolding IsDistinct
log_without_locks latest turns room capacity no_latest no_turns places branches place_room turn_room log_room =
    let places_none : length latest.entries ≡ 0 = ap length no_latest in
    let turns_none : length turns.entries ≡ 0 = ap length no_turns in
    record {
      unique_places = places;
      unique_turns = branches;
      locked_before = tt;
      latest_before = λ q h at. absurd (no_some (sym (ap (lookup (same_place q)) no_latest) ∙ at));
      began_before = λ q t at. absurd (no_some (sym (ap (λ (es : List (BranchKey × Turn)). turn_of es q) no_turns) ∙ at));
      found = λ q. ap (λ (es : List (Place × Hold)). found_now (turn_of turns.entries) (lookup (same_place q) es)) no_latest;
      distinct = tt;
      counts = λ q. ap (λ (es : List (BranchKey × Turn)). turn_count (turn_of es q)) no_turns;
      counted = refl;
      few_places = omega (arith, places_none);
      few_turns = omega (arith, turns_none);
      place_room = omega (arith, place_room);
      turn_room = omega (arith, turn_room);
      log_room = log_room;
    }
