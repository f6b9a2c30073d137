use Rattle.std.proofs.Common.{◌∷◌, [], Option, Some, None, IfSome, rules, ap, sym, subst, ◌∙◌, arith, List, ℕ, refl}
use Rattle.std.specs.Prelude.{option_map}
use Rattle.std.specs.Option.{option_copied}
use Rattle.change_set.specs.Files.{IsPlaced}
use Rattle.change_set.specs.Maps.{IsNext, EndsAfter}
use Rattle.change_set.specs.declared.walk.Place.{Place}
use Rattle.file_images.specs.record_files.Any.{Begins, IsFile, IsLaidOut, map_of}
use Rattle.vms_base.specs.Keys.{key_of}
use Rattle.emitter_model.specs.Emitting.{Emits}
use Rattle.emitter_model.specs.transcript_model.Lines as line
use Rattle.emitter_model.proofs.EmittingLemmas.{emits_nothing, since_on}
use Rattle.node_standing.specs.node_table.Code.{stored_of}
use Rattle.node_standing.specs.node_table.Standing.{Stored}
use Rattle.node_files.proofs.CatalogLemmas.{placed}
use Rattle.file_requests.proofs.Dumping.{begins_anew, emits_next, shown_few, shows_all, shows_most}
use Rattle.file_requests.proofs.Reading.{stored_of_volume, stored_on}
use Rattle.file_requests.proofs.Replied.{quiet_more, quiet_none, replies_after}
use Rattle.file_requests.proofs.files.show_records.Goals as goal

pub next_record_from-requires-clause-placed : goal.next_record_from-requires-clause-placed
next_record_from-requires-clause-placed g c =
    subst (λ (u : Stored). IsPlaced c.args.head.now u.volume.store.disk) (sym c.loop-count.invariant.same)
    (placed _ c.args.stored.now.volume.catalog c.requires.there.0 c.args.head.now _ c.the_laws.ensures.apart c.requires.order.heads c.requires.order.sound c.requires.order.most c.requires.there.1)

pub next_record_from-requires-clause-begins : goal.next_record_from-requires-clause-begins
next_record_from-requires-clause-begins g c =
    let head = c.args.head.now in
    let same = ap (λ (u : Stored). u.volume.store.current) c.loop-count.invariant.same in
    subst (λ (o : Option (List (List ℕ))). IfSome o (λ content. IsFile head → IsLaidOut head content → Begins head content (option_map key_of (option_copied c.as_ref.result)) c.loop-count.place)) (sym same)
    (subst (λ a. IfSome c.args.stored.now.volume.store.current (λ content. IsFile head → IsLaidOut head content → Begins head content (option_map key_of a) c.loop-count.place)) (sym c.as_ref.ensures.value) c.loop-count.invariant.begins)

pub loop-count-init : goal.loop-count-init
loop-count-init g c = record {
  same = refl;
  place = search rules;
  since = search rules;
  quiet = quiet_none _ _ (emits_nothing _);
  most = search rules;
  begins = subst (λ (p : Place). IfSome c.args.stored.now.volume.store.current (λ content. IsFile c.args.head.now → IsLaidOut c.args.head.now content → Begins c.args.head.now content None p)) (sym c.first-place.ensures)
      (begins_anew c.args.stored.now.volume.store.current c.args.head.now None);
  shows = search rules;
}

pub loop-count-preserved : goal.loop-count-preserved
loop-count-preserved g c =
    let head = c.args.head.now in
    let was = stored_of g.U.RecoveryUnits.state c.loop-count.stored in
    let now : Stored = record was { volume = c.next_record_from.new.volume } in
    record {
      same = stored_on (stored_of g.U.RecoveryUnits.state c.args.stored.now) was now c.loop-count.invariant.same (stored_of_volume was now c.in-Ok-true.ensures.same refl refl);
      place = c.emit.ensures.same_place ∙ c.loop-count.invariant.place;
      since = since_on _ _ _ c.loop-count.invariant.since c.emit.ensures.since;
      quiet = quiet_more _ _ _ _ c.loop-count.invariant.quiet c.emit.ensures.emits refl;
      most = (let lt = c.loop-count-test.true in omega (arith, lt));
      begins = subst (λ (o : Option (List (List ℕ))). IfSome o (λ content. IsFile head → IsLaidOut head content → Begins head content (Some (key_of c.next_record_from.new.key)) c.next_record_from.new.place))
          (ap (λ (u : Stored). u.volume.store.current) c.loop-count.invariant.same) (c.in-Ok-true.ensures.begins c.in-Ok-true.field-0-test);
      shows = λ content m told form laid same.
          let s = c.loop-count.invariant.shows content m told form laid same in
          let here = ap (λ (u : Stored). u.volume.store.current) c.loop-count.invariant.same ∙ told in
          let found = c.in-Ok-true.ensures.found c.in-Ok-true.field-0-test in
          let at = subst (λ (o : Option (List (List ℕ))). IfSome o (λ c'. IsFile head → IsLaidOut head c' → IsNext (map_of head c') (option_map key_of (option_copied c.as_ref.result)) (key_of c.next_record_from.new.key) c.next_record_from.new.found)) here found in
          let next = subst (λ a. IsNext (map_of head content) (option_map key_of a) (key_of c.next_record_from.new.key) c.next_record_from.new.found) c.as_ref.ensures.value (at form laid) in
          let n = c.the_laws.ensures.shows.next m (map_of head content) c.loop-count.count (option_map key_of c.loop-count.after) (key_of c.next_record_from.new.key) c.next_record_from.new.found same s.0 next in
          (n.0, emits_next m c.loop-count.count (key_of c.next_record_from.new.key) c.next_record_from.new.found _ _ _ n.1 s.1 c.emit.ensures.emits);
    }

pub returns-in-Ok-false-clause-same : goal.returns-in-Ok-false-clause-same
returns-in-Ok-false-clause-same g c =
    let was = stored_of g.U.RecoveryUnits.state c.loop-count.stored in
    let now : Stored = record was { volume = c.next_record_from.new.volume } in
    stored_on (stored_of g.U.RecoveryUnits.state c.args.stored.now) was now c.loop-count.invariant.same (stored_of_volume was now c.in-Ok-false.ensures.same refl refl)

pub returns-in-Ok-false-clause-shows : goal.returns-in-Ok-false-clause-shows
returns-in-Ok-false-clause-shows g c = λ content m told form laid few same.
    let head = c.args.head.now in
    let s = c.loop-count.invariant.shows content m told form laid same in
    let here = ap (λ (u : Stored). u.volume.store.current) c.loop-count.invariant.same ∙ told in
    let none = c.in-Ok-false.ensures.none c.in-Ok-false.field-0-test in
    let at = subst (λ (o : Option (List (List ℕ))). IfSome o (λ c'. IsFile head → IsLaidOut head c' → EndsAfter (map_of head c') (option_map key_of (option_copied c.as_ref.result)))) here none in
    let ends = subst (λ a. EndsAfter (map_of head content) (option_map key_of a)) c.as_ref.ensures.value (at form laid) in
    shows_all c.the_laws.ensures.shows m (map_of head content) c.loop-count.count (option_map key_of c.loop-count.after) _ _ _ same s.0 ends s.1
    (subst (λ n. Emits (g.E.Emit.shows c.loop-count.out) (line.NormalCount n ∷ []) (g.E.Emit.shows c.emit-in-Ok-false.new.self)) c.from.ensures c.emit-in-Ok-false.ensures.emits)

pub returns-clause-shows : goal.returns-clause-shows
returns-clause-shows g c = λ content m told form laid few same.
    let s = c.loop-count.invariant.shows content m told form laid same in
    shows_most m c.loop-count.count 4294967295 (option_map key_of c.loop-count.after) _ _ _ few c.loop-count-test.false s.0 s.1
    (subst (λ n. Emits (g.E.Emit.shows c.loop-count.out) (line.NormalCount n ∷ []) (g.E.Emit.shows c.emit-2.new.self)) c.from-2.ensures c.emit-2.ensures.emits)

pub returns-in-Ok-false-clause-replies : goal.returns-in-Ok-false-clause-replies
returns-in-Ok-false-clause-replies g c = replies_after _ _ _ _ c.loop-count.invariant.quiet c.emit-in-Ok-false.ensures.emits (refl, refl)

pub returns-clause-replies : goal.returns-clause-replies
returns-clause-replies g c = replies_after _ _ _ _ c.loop-count.invariant.quiet c.emit-2.ensures.emits (refl, refl)

pub returns-in-Err-clause-shows : goal.returns-in-Err-clause-shows
returns-in-Err-clause-shows g c = λ content m told form laid few same.
    let s = c.loop-count.invariant.shows content m told form laid same in
    shown_few m c.loop-count.count (option_map key_of c.loop-count.after) _ _ s.0 s.1 c.in-Err.down
