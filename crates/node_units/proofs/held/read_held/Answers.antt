-- What the call answers is what is promised of the token.
use Rattle.std.proofs.Common.{◌≡◌, Some, sym, subst}
use Rattle.file_base.specs.declared.head.FileHead.{FileHead}
use Rattle.unit_table.specs.Units.{OpenUnit}
use Rattle.volume.specs.Catalogs.{head_at}
use Rattle.vms_base.specs.Keys.{key_of}
use Rattle.record_operations.specs.Asking.{read_file_in}
use Rattle.rms_units.specs.Calls.{ReadsErr, ReadsOk}
use Rattle.rms_units.specs.State.{unit_of}
use Rattle.node_units.specs.declared.begun.Token.{Token}
use Rattle.node_units.specs.Tokens.{place_in}
use Rattle.node_units.proofs.Answering.{err_as, ok_as}
use Rattle.node_units.proofs.held.read_held.Goals as goal

pub returns-clause-done : goal.returns-clause-done
returns-clause-done g c =
    ok_as _ _ c.read.result
    (λ d. subst (λ (t : Token). (u : OpenUnit) (h : FileHead) → unit_of (place_in t) c.args.units.now ≡ Some u → head_at c.args.volume.now.catalog.heads (read_file_in c.args.op.now) ≡ Some h →
    ReadsOk u h c.args.op.now (key_of c.read.new.found) c.read.new.out c.args.units.now c.args.volume.now c.read.new.self c.read.new.volume) (sym c.in-Active.is) d) c.read.ensures.done

pub returns-clause-err : goal.returns-clause-err
returns-clause-err g c =
    err_as _ _ c.read.result
    (λ e k. subst (λ (t : Token). (u : OpenUnit) (h : FileHead) → unit_of (place_in t) c.args.units.now ≡ Some u → head_at c.args.volume.now.catalog.heads (read_file_in c.args.op.now) ≡ Some h →
    ReadsErr u h c.args.op.now e c.args.units.now c.args.volume.now c.read.new.self c.read.new.volume) (sym c.in-Active.is) k) c.read.ensures.err
