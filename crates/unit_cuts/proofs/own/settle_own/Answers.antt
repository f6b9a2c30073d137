-- The entry of the settlement has its room in that file alone.
use Rattle.std.proofs.Common.{◌≡◌, ◌+◌, ◌*◌, ◌≤◌, ℕ, length, sym, subst, ap, ◌∙◌, arith}
use Rattle.std.proofs.lemmas.Result.{on_ok_weaker}
use Rattle.image_appends.specs.declared.side.Side.TheVariants.{After, Before}
use Rattle.image_appends.specs.Images.{FileHasRoom}
use Rattle.vms_base.specs.Ids.{serial_of, tid_of}
use Rattle.vms_model.specs.Transactions.{Commit}
use Rattle.unit_cuts.proofs.OwnLemmas.{one_file, only_of, settled_long}
use Rattle.unit_cuts.proofs.own.settle_own.Goals as goal

pub append_settlement-requires-clause-room : goal.append_settlement-requires-clause-room
append_settlement-requires-clause-room g c = λ file takes.
    let v = c.args.volume.now in
    let b = c.args.branch.now in
    let same = only_of c.args.file file takes in
    let long : length c.encode_settled.new.out ≡ 48 = ap length c.encode_settled.ensures.spelled ∙ settled_long (tid_of b.tid) (serial_of b.serial) Commit c.args.moment.0 c.encode_settled.ensures.is in
    subst (λ (n : ℕ). FileHasRoom After n file v.catalog.heads v.store.disk × FileHasRoom Before n file v.catalog.heads v.store.disk) (sym long)
    (subst (λ (f : ℕ). FileHasRoom After 48 f v.catalog.heads v.store.disk × FileHasRoom Before 48 f v.catalog.heads v.store.disk) (sym same) (c.requires.afters, c.requires.befores))

pub append_settlement-requires-clause-staged : goal.append_settlement-requires-clause-staged
append_settlement-requires-clause-staged g c = let one = one_file c.args.file in let s = c.requires.staged in omega (arith, one, s)

pub returns-clause-few : goal.returns-clause-few
returns-clause-few g c = on_ok_weaker c.append_settlement.result (λ few. let one = one_file c.args.file in omega (arith, one, few)) c.append_settlement.ensures.few
