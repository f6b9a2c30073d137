-- A key is changed without a unit.
use Rattle.std.proofs.Common.{◌≡◌, ℕ, List, None, ap, subst, ◌∙◌, arith, length, ◌<◌}
use Rattle.record_operations.specs.Causes.{IfRefused}
use Rattle.unit_journal.specs.Settling.{next_moment}
use Rattle.vms_base.specs.Keys.{key_of}
use Rattle.volume.specs.State.{SameVolume}
use Rattle.rms_units.specs.Calls.{CommitsChange, DirectKeyBroke, DirectKeyRefused, DirectsKey}
use Rattle.key_changes.specs.Changing.{keys_asked, locks_refuse}
use Rattle.rms_units.specs.State.{UnitsState}
use Rattle.rms_units.proofs.ChangedLemmas.{committed, refused_breaks, uncommitted}
use Rattle.rms_units.proofs.ImageSound.{ordered_spans, settlements_at}
use Rattle.rms_units.proofs.OrderLemmas.{placed_in}
use Rattle.image_appends.proofs.Growing.{below_length}
use Rattle.rms_units.proofs.EndLemmas.{ends_keyed_directly}
use Rattle.rms_units.proofs.ReadLemmas.{order_held}
use Rattle.rms_units.proofs.units.Units.direct_key.Goals as goal

pub refuse_directly-requires-clause-placed : goal.refuse_directly-requires-clause-placed
refuse_directly-requires-clause-placed g c = placed_in c.args.self.now c.args.volume.now c.args.asked.now.file c.args.asked.now.head c.requires.order c.requires.head

pub refuse_directly-requires-clause-images : goal.refuse_directly-requires-clause-images
refuse_directly-requires-clause-images g c = settlements_at c.args.self.now (record { units = c.self.inside.table; locks = c.self.inside.locks.locks }) c.args.volume.now c.args.asked.now.file c.args.asked.now.head c.self.view_is c.requires.order c.requires.head

pub refuse_directly-requires-clause-ordered : goal.refuse_directly-requires-clause-ordered
refuse_directly-requires-clause-ordered g c = ordered_spans c.args.self.now c.args.volume.now c.args.asked.now.file c.args.asked.now.head c.requires.order c.requires.head

pub returns-in-Err-clause-err : goal.returns-in-Err-clause-err
returns-in-Err-clause-err g c =
    let v = c.args.volume.now in
    let a = c.args.asked.now in
    let s : UnitsState = record { units = c.self.inside.table; locks = c.self.inside.locks.locks } in
    let w = c.refuse_directly.new.volume in
    subst (λ (y : UnitsState). IfRefused c.in-Err.e (λ cause. DirectKeyRefused a.file a.head a.change (key_of a.key) c.args.value.now cause y v × SameVolume v w) (λ down. DirectKeyBroke c.args.tid c.args.clock.0 a.file a.head a.change (key_of a.key) c.args.value.now y v w)) c.self.view_is
    (refused_breaks c.in-Err.e (λ cause. DirectKeyRefused a.file a.head a.change (key_of a.key) c.args.value.now cause s v) (locks_refuse None a.file (keys_asked a.head a.change (key_of a.key)) s.locks ≡ None) v w c.in-Err.ensures.err
    (λ cause. DirectKeyRefused a.file a.head a.change (key_of a.key) c.args.value.now cause s v) (CommitsChange c.args.tid c.args.clock.0 a.file a.head a.change (key_of a.key) c.args.value.now s v)
    (DirectKeyBroke c.args.tid c.args.clock.0 a.file a.head a.change (key_of a.key) c.args.value.now s v w) c.one_content.ensures c.requires.order.idle.ready (λ cause x. x) (λ early breaks. record { early = early; breaks = breaks }))

pub returns-in-Err-make_directly-clause-err : goal.returns-in-Err-make_directly-clause-err
returns-in-Err-make_directly-clause-err g c =
    let v = c.args.volume.now in
    let a = c.args.asked.now in
    let s : UnitsState = record { units = c.self.inside.table; locks = c.self.inside.locks.locks } in
    let x = c.refuse_directly.new.volume in
    let w = c.make_directly.new.volume in
    let next = c.next_moment-moment.ensures ∙ ap (next_moment c.args.clock.0) c.home.ensures in
    subst (λ (y : UnitsState). DirectKeyBroke c.args.tid c.args.clock.0 a.file a.head a.change (key_of a.key) c.args.value.now y v w) c.self.view_is
    record {
      early = c.in-Ok.ensures.early;
      breaks = uncommitted c.args.tid c.args.clock.0 c.next_moment-moment.result.0 a.file a.head a.change (key_of a.key) c.args.value.now c.set.new.self c.refuse_directly.new.found s v x w c.set.ensures c.in-Ok.ensures.same next c.in-Ok.ensures.had c.in-Ok.ensures.late c.in-Err-make_directly.ensures.breaks;
    }

pub returns-clause-done : goal.returns-clause-done
returns-clause-done g c =
    let v = c.args.volume.now in
    let a = c.args.asked.now in
    let s : UnitsState = record { units = c.self.inside.table; locks = c.self.inside.locks.locks } in
    let x = c.refuse_directly.new.volume in
    let w = c.make_directly.new.volume in
    let next = c.next_moment-moment.ensures ∙ ap (next_moment c.args.clock.0) c.home.ensures in
    subst (λ (y : UnitsState). DirectsKey c.args.tid c.args.clock.0 a.file a.head a.change (key_of a.key) c.args.value.now y v w) c.self.view_is
    record {
      early = c.in-Ok.ensures.early;
      made = committed c.args.tid c.args.clock.0 c.next_moment-moment.result.0 a.file a.head a.change (key_of a.key) c.args.value.now c.set.new.self c.refuse_directly.new.found s v x w c.set.ensures c.in-Ok.ensures.same next c.in-Ok.ensures.had c.in-Ok.ensures.late c.in-Ok-make_directly.ensures.makes;
    }

pub returns-clause-images : goal.returns-clause-images
returns-clause-images g c =
    let v = c.args.volume.now in
    let a = c.args.asked.now in
    let inside = below_length v.catalog.heads a.file a.head c.requires.head in
    let long = c.requires.order.heads in
    ends_keyed_directly a.file a.head _ (key_of a.key) _ _ _ _ _ _ _ v c.make_directly.new.volume (omega (arith, inside, long)) c.requires.head (returns-clause-done g c).made.commits

pub make_directly-requires-clause-order : goal.make_directly-requires-clause-order
make_directly-requires-clause-order g c = order_held c.args.self.now c.self.inside.table c.self.inside.locks.locks c.args.volume.now c.refuse_directly.new.volume (ap (λ (x : UnitsState). x.units) c.self.view_is) c.in-Ok.ensures.same c.requires.order
