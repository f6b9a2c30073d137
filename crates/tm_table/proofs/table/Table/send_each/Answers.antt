use Rattle.std.proofs.Common.{◌∷◌, List, map, refl, ap, ◌∙◌, arith, length}
use Rattle.vms_base.specs.Ids.{serial_of, tid_of}
use Rattle.vms_base.specs.declared.ids.Serial.{Serial}
use Rattle.tm_table.specs.Doing.{Doing}
use Rattle.std.proofs.Common.{◌+◌, drop}
use Rattle.commit_protocol.specs.Rows.{sends_all, to_each}
use Rattle.net_wire.specs.Messages.{kind_of}
use Rattle.tm_table.specs.Doing.{does}
use Rattle.tm_types.proofs.ListLemmas.{stepped}
use Rattle.tm_table.proofs.table.Table.send_each.Goals as goal

pub send_down-requires : goal.send_down-requires
send_down-requires c = let e = ap (λ (xs : List Serial). length xs) c.items-s-items.ensures.value in omega arith

pub loop-s-preserved : goal.loop-s-preserved
loop-s-preserved c =
    let k = kind_of c.args.kind in
    let t = tid_of c.args.tid.now in
    let xs = c.items-s-items.result.now in
    let i = c.loop-s.s-index in
    let F : List Serial → Doing = λ ys. does (sends_all (to_each k t (map serial_of ys))) c.loop-s.self in
    let sent = stepped F (does (sends_all (to_each k t (map serial_of xs))) c.args.self.now) xs i c.s-item.result (F (c.s-item.result ∷ drop (i + 1) xs)) c.loop-s-test.true c.s-item.is c.loop-s.invariant.done refl in
    record {
      done = ap (λ (z : Doing). does (sends_all (to_each k t (map serial_of (drop (i + 1) xs)))) z) c.send_down.ensures.done ∙ sent;
      table = c.send_down.ensures.table ∙ c.loop-s.invariant.table;
      room = let r = c.send_down.ensures.room in let q = c.loop-s.invariant.room in omega arith;
    }
