use Rattle.std.proofs.Common.{◌≡◌, ◌≤◌, ◌+◌, List, ℕ, Option, Some, None, IfSome, refl, subst, sym, ap, ◌∙◌, arith}
use Rattle.std.specs.Prelude.{option_map}
use Rattle.std.specs.Option.{option_copied}
use Rattle.std.specs.FinMap.{empty}
use Rattle.block_disk.specs.Disk.{DiskState}
use Rattle.change_set.specs.Files.{IsPlaced, free_frames}
use Rattle.change_set.specs.Maps.{IsNext, EndsAfter}
use Rattle.change_set.specs.declared.walk.Place.{Place}
use Rattle.records_model.specs.Records.{Records, set_key}
use Rattle.record_files.specs.Any.{Begins, IsFile, IsLaidOut, map_of}
use Rattle.record_files.specs.Local.{begins_first_law}
use Rattle.vms_base.specs.Keys.{key_of}
use Rattle.image_laws.proofs.unit_entries.StoreLemmas.{stays_so, stays_read, fell_later, of_any, of_content, of_both}
use Rattle.rolled_records.proofs.ReadLemmas.{HasRead, nothing_read, has_next, has_all, all_counted, same_stays, same_fell}
use Rattle.rolled_records.proofs.reading.read_records.Goals as goal

pub loop-count-init : goal.loop-count-init
loop-count-init g c =
    let form = c.is_formed.ensures.formed c.if-not-is_formed.false in
    record {
      stays = stays_so c.args.store.now;
      most = omega arith;
      begins = of_any c.args.store.now.current (λ x laid. subst (Begins c.args.head.now x None) (sym c.first-place.ensures) (begins_first_law c.args.head.now x None form));
      read = of_any c.args.store.now.current (λ x laid. subst (λ (m : Records). HasRead (map_of c.args.head.now x) None m 0) (sym c.new-map.ensures) (nothing_read (map_of c.args.head.now x)));
    }

pub next_from-requires-clause-form : goal.next_from-requires-clause-form
next_from-requires-clause-form g c = c.is_formed.ensures.formed c.if-not-is_formed.false

pub next_from-requires-clause-placed : goal.next_from-requires-clause-placed
next_from-requires-clause-placed g c = subst (IsPlaced c.args.head.now) (sym c.loop-count.invariant.stays.disk) c.requires.placed

pub next_from-requires-clause-frames : goal.next_from-requires-clause-frames
next_from-requires-clause-frames g c = subst (λ (p : List (Option (List ℕ))). 32 ≤ free_frames p) (sym c.loop-count.invariant.stays.pool) c.requires.frames

pub next_from-requires-clause-begins : goal.next_from-requires-clause-begins
next_from-requires-clause-begins g c =
    let head = c.args.head.now in
    subst (λ (o : Option (List (List ℕ))). IfSome o (λ content. IsLaidOut head content → Begins head content (option_map key_of (option_copied c.as_ref.result)) c.loop-count.place)) (sym c.loop-count.invariant.stays.current)
    (subst (λ a. IfSome c.args.store.now.current (λ content. IsLaidOut head content → Begins head content (option_map key_of a) c.loop-count.place)) (sym c.as_ref.ensures.value) c.loop-count.invariant.begins)

pub loop-count-preserved : goal.loop-count-preserved
loop-count-preserved g c =
    let head = c.args.head.now in
    let key = c.next_from.new.found in
    let stays = same_stays c.loop-count.store c.next_from.new.store c.in-Ok-true.ensures.same in
    let here = c.loop-count.invariant.stays.current in
    let begins = subst (λ (o : Option (List (List ℕ))). IfSome o (λ x. IsLaidOut head x → Begins head x (Some (key_of key)) c.next_from.new.place)) here (c.in-Ok-true.ensures.begins c.in-Ok-true.field-0-test) in
    let found = subst (λ (o : Option (List (List ℕ))). IfSome o (λ x. IsLaidOut head x → IsNext (map_of head x) (option_map key_of (option_copied c.as_ref.result)) (key_of key) c.next_from.new.out)) here (c.in-Ok-true.ensures.found c.in-Ok-true.field-0-test) in
    record {
      stays = stays_read c.args.store.now c.loop-count.store c.next_from.new.store c.loop-count.invariant.stays tt stays;
      most = (let lt = c.loop-count-test.true in omega (arith, lt));
      begins = begins;
      read = of_both c.args.store.now.current (λ x before next laid.
          let at = subst (λ a. IsNext (map_of head x) (option_map key_of a) (key_of key) c.next_from.new.out) c.as_ref.ensures.value (next laid) in
          subst (λ (m : Records). HasRead (map_of head x) (Some (key_of key)) m (c.loop-count.count + 1)) (sym c.in-Ok.ensures.set)
          (has_next (map_of head x) (option_map key_of c.loop-count.after) c.loop-count.map c.loop-count.count (before laid) (key_of key) c.next_from.new.out at)) c.loop-count.invariant.read found;
    }

pub returns-in-Ok-false-clause-read : goal.returns-in-Ok-false-clause-read
returns-in-Ok-false-clause-read g c =
    let head = c.args.head.now in
    let none = subst (λ (o : Option (List (List ℕ))). IfSome o (λ x. IsLaidOut head x → EndsAfter (map_of head x) (option_map key_of (option_copied c.as_ref.result)))) c.loop-count.invariant.stays.current (c.in-Ok-false.ensures.none c.in-Ok-false.field-0-test) in
    of_both c.args.store.now.current (λ x before ends form laid.
    has_all (map_of head x) (option_map key_of c.loop-count.after) c.loop-count.map c.loop-count.count (before laid) (subst (λ a. EndsAfter (map_of head x) (option_map key_of a)) c.as_ref.ensures.value (ends laid))) c.loop-count.invariant.read none

pub returns-clause-read : goal.returns-clause-read
returns-clause-read g c =
    let head = c.args.head.now in
    let all = c.loop-count-test.false in
    of_content c.args.store.now.current (λ x before form laid.
    absurd (all_counted (map_of head x) (option_map key_of c.loop-count.after) c.loop-count.map c.loop-count.count (before laid) (omega (arith, all)) (let few = c.len-count.ensures.few in let same = c.len-count.ensures.count in omega (arith, few, same)))) c.loop-count.invariant.read

pub returns-in-Err-clause-err : goal.returns-in-Err-clause-err
returns-in-Err-clause-err g c = fell_later c.args.store.now c.loop-count.store c.next_from.new.store c.loop-count.invariant.stays c.in-Err.down (same_fell c.in-Err.down c.loop-count.store c.next_from.new.store c.in-Err.ensures.down)
