-- The file lies on the disk.
use Rattle.std.proofs.Common.{◌≡◌, ℕ, Some, subst}
use Rattle.std.proofs.lemmas.Result.{on_ok_weaker}
use Rattle.record_operations.specs.Asking.{read_file_in}
use Rattle.volume.specs.Catalogs.{head_at}
use Rattle.rms_units.proofs.OrderLemmas.{placed_in}
use Rattle.rms_units.proofs.ReadLemmas.{order_same}
use Rattle.rms_units.proofs.units.Units.look.Goals as goal

pub find-requires-clause-placed : goal.find-requires-clause-placed
find-requires-clause-placed g c =
    let v = c.args.volume.now in
    placed_in c.args.self.now v (read_file_in c.args.op.now) c.head_of-head.result c.requires.order (subst (λ (f : ℕ). head_at v.catalog.heads f ≡ Some c.head_of-head.result) c.file.ensures c.head_of-head.ensures.there)

pub returns-clause-order : goal.returns-clause-order
returns-clause-order g c = on_ok_weaker c.find.result (λ same. order_same c.args.self.now c.args.volume.now c.find.new.volume same c.requires.order) c.find.ensures.same
