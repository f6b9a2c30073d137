use Rattle.std.proofs.Common.{◌-◌, ◌*◌, [], ◌∷◌, map, take, drop, nat_lt, sym, subst, ◌∙◌, arith}
use Rattle.std.proofs.lemmas.List.{length-map}
use Rattle.load_pages.specs.load_laws.Pages.{Slots, Adds}
use Rattle.load_pages.specs.load_laws.Chains.{next_for}
use Rattle.load_pages.proofs.load_laws.ChainLemmas.{packed_some}
use Rattle.load_pages.specs.Given.{raw_of}
use Rattle.file_loads.proofs.LoopLemmas.{chain_first, chain_more, chain_done, chain_room, stand_none}
use Rattle.file_loads.proofs.WriteLemmas.{written_more, leaves_later, quiet_more, on_err_any}
use Rattle.file_loads.proofs.chain.write_chain.Goals as goal

pub loop-from-init : goal.loop-from-init
loop-from-init g c =
    let h = c.args.head.now in
    let kind = c.args.kind in
    let raws = map (raw_of kind) c.args.records.now in
    let long = length-map c.args.records.now (raw_of kind) in
    let to = c.in_ok-first.first in
    let e = c.in_ok-first.ensures in
    let chunk = take (to - 0) (drop 0 raws) in
    let s0 = c.args.store.now.current in
    let s1 = c.write_bucket.new.store.current in
    record {
      to = chain_first h kind (512 * h.bucket - 16) raws to chunk s0 s1 (omega (arith, e.to.1, long)) e.filled (subst (λ m. Adds h 0 (Slots kind chunk (next_for kind (nat_lt to m) 0) ∷ []) s0 s1) (sym long) e.adds) (stand_none h s0);
      written = e.ok;
      quiet = e.counts;
      pool = e.pool;
      within = e.to.1;
    }

pub loop-from-preserved : goal.loop-from-preserved
loop-from-preserved g c =
    let h = c.args.head.now in
    let kind = c.args.kind in
    let raws = map (raw_of kind) c.args.records.now in
    let long = length-map c.args.records.now (raw_of kind) in
    let from = c.loop-from.from in
    let n = c.loop-from.n in
    let to = c.in_ok-end.end in
    let e = c.in_ok-end.ensures in
    let before = c.loop-from.invariant in
    let chunk = take (to - from) (drop from raws) in
    let s0 = c.loop-from.store.current in
    let s1 = c.write_bucket-in-loop-from.new.store.current in
    record {
      to = chain_more h kind (512 * h.bucket - 16) raws n from to chunk s0 s1 (omega (arith, c.loop-from-test.true, long)) (omega (arith, e.to.1, long)) e.filled (subst (λ m. Adds h n (Slots kind chunk (next_for kind (nat_lt to m) n) ∷ []) s0 s1) (sym long) e.adds) before.to;
      written = written_more h c.loop-from.staged c.write_bucket-in-loop-from.new.staged c.args.store.now c.loop-from.store c.write_bucket-in-loop-from.new.store before.written e.ok;
      quiet = quiet_more c.args.store.now.disk c.loop-from.store.disk c.write_bucket-in-loop-from.new.store.disk before.quiet e.counts;
      pool = e.pool ∙ before.pool;
      within = e.to.1;
    }

pub write_bucket-requires-clause-there : goal.write_bucket-requires-clause-there
write_bucket-requires-clause-there g c =
    let some = packed_some (512 * c.args.head.now.bucket - 16) [] (map (raw_of c.args.kind) c.args.records.now) in omega (arith, some, c.requires.few)

pub write_bucket-requires-in-loop-from-clause-there : goal.write_bucket-requires-in-loop-from-clause-there
write_bucket-requires-in-loop-from-clause-there g c =
    let h = c.args.head.now in
    let raws = map (raw_of c.args.kind) c.args.records.now in
    let long = length-map c.args.records.now (raw_of c.args.kind) in
    let room = chain_room h c.args.kind (512 * h.bucket - 16) raws c.loop-from.n c.loop-from.from c.loop-from.store.current (omega (arith, c.loop-from-test.true, long)) c.loop-from.invariant.to in omega (arith, room, c.requires.few)

pub returns-in_err-end-clause-down : goal.returns-in_err-end-clause-down
returns-in_err-end-clause-down g c =
    on_err_any (c.from_residual-in_err-end).result
    (leaves_later c.args.head.now c.loop-from.staged c.args.store.now c.loop-from.store c.write_bucket-in-loop-from.new.store c.loop-from.invariant.written c.in_err-end.ensures.down)

pub returns-clause-count : goal.returns-clause-count
returns-clause-count g c =
    let kind = c.args.kind in
    let h = c.args.head.now in
    let raws = map (raw_of kind) c.args.records.now in
    let long = length-map c.args.records.now (raw_of kind) in
    (chain_done h kind (512 * h.bucket - 16) raws c.loop-from.n c.loop-from.from c.loop-from.store.current (omega (arith, c.loop-from-test.false, long)) c.loop-from.invariant.to).count

pub returns-clause-stand : goal.returns-clause-stand
returns-clause-stand g c =
    let kind = c.args.kind in
    let h = c.args.head.now in
    let raws = map (raw_of kind) c.args.records.now in
    let long = length-map c.args.records.now (raw_of kind) in
    (chain_done h kind (512 * h.bucket - 16) raws c.loop-from.n c.loop-from.from c.loop-from.store.current (omega (arith, c.loop-from-test.false, long)) c.loop-from.invariant.to).stand
