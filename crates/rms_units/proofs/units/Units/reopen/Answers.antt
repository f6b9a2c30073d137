-- A restart: the units that it took up are in order with the volume.
use Rattle.std.proofs.Common.{◌≡◌, ◌+◌, ◌≤◌, ◌^◌, [], refl, sym, subst, arith}
use Rattle.unit_restarts.proofs.unit_aborts.ImageLemmas.{low_less}
use Rattle.unit_table.specs.Units.{no_units}
use Rattle.rms_units.specs.State.{IsInOrder, nothing_begun}
use Rattle.rms_units.proofs.AbortLemmas.{may_abort}
use Rattle.rms_units.proofs.ImageSound.{fits_none}
use Rattle.rms_units.proofs.RestartLemmas.{order_restarted}
use Rattle.rms_units.proofs.EndLemmas.{ends_reopened}
use Rattle.rms_units.proofs.units.Units.reopen.Goals as goal

pub restart-requires-clause-may : goal.restart-requires-clause-may
restart-requires-clause-may g c =
    let v = c.args.volume.now in
    let o : IsInOrder nothing_begun v = subst (λ s. IsInOrder s v) c.requires.none c.requires.order in
    record {
      may = may_abort nothing_begun v o c.requires.early;
      low = let low = c.requires.early.low in omega (arith, low);
      moment = c.requires.moment;
      clock_bound = c.requires.clock;
      early = low_less 3072 (2 ^ 24) v.catalog.heads (omega arith) c.requires.early.images;
      images = fits_none no_units.places [] v.catalog.heads (λ g. refl) o.images;
    }

pub returns-clause-order : goal.returns-clause-order
returns-clause-order g c =
    order_restarted c.restart.new.table c.restart.new.locks.locks c.args.volume.now c.restart.new.volume (subst (λ s. IsInOrder s c.args.volume.now) c.requires.none c.requires.order) c.in-Ok.ensures.may c.in-Ok.ensures.heads c.stand_in_order.ensures c.in-Ok.ensures.owed c.in-Ok.ensures.ascends c.in-Ok.ensures.images

pub returns-clause-images : goal.returns-clause-images
returns-clause-images g c = ends_reopened c.args.clock.0 c.args.volume.now c.restart.new.volume _ _ c.in-Ok.ensures.done.reopens c.restart.ensures.grows
