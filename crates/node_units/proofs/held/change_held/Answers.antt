-- What the call answers is what is promised of the token.
use Rattle.std.proofs.Common.{◌≡◌, Some, sym, subst}
use Rattle.file_base.specs.declared.head.FileHead.{FileHead}
use Rattle.unit_table.specs.Units.{OpenUnit}
use Rattle.volume.specs.Catalogs.{head_at}
use Rattle.record_operations.specs.Asking.{file_in}
use Rattle.rms_units.specs.Calls.{ChangesErr, ChangesOk}
use Rattle.rms_units.specs.State.{unit_of}
use Rattle.node_units.specs.declared.begun.Token.{Token}
use Rattle.node_units.specs.Tokens.{place_in}
use Rattle.node_units.proofs.Answering.{err_as, ok_with}
use Rattle.node_units.proofs.held.change_held.Goals as goal

pub returns-clause-done : goal.returns-clause-done
returns-clause-done g c =
    ok_with _ _ c.change.result
    (λ told d. subst (λ (t : Token). (u : OpenUnit) (h : FileHead) → unit_of (place_in t) c.args.units.now ≡ Some u → head_at c.args.volume.now.catalog.heads (file_in c.args.op.now) ≡ Some h →
    ChangesOk (place_in t) u h c.args.op.now c.args.bytes.now told c.args.units.now c.args.volume.now c.change.new.self c.change.new.volume) (sym c.in-Active.is) d) c.change.ensures.done

pub returns-clause-err : goal.returns-clause-err
returns-clause-err g c =
    err_as _ _ c.change.result
    (λ e k. subst (λ (t : Token). (u : OpenUnit) (h : FileHead) → unit_of (place_in t) c.args.units.now ≡ Some u → head_at c.args.volume.now.catalog.heads (file_in c.args.op.now) ≡ Some h →
    ChangesErr u h c.args.op.now c.args.bytes.now e c.args.units.now c.args.volume.now c.change.new.self c.change.new.volume) (sym c.in-Active.is) k) c.change.ensures.err
