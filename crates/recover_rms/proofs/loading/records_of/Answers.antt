use Rattle.std.proofs.Common.{◌≡◌, List, length, map, rules, ap, subst, sym, arith}
use Rattle.std.specs.FinMap.{empty, entries, len-entries}
use Rattle.load_pages.specs.load_laws.Records.{Keyed}
use Rattle.load_pages.specs.Given.{keyed}
use Rattle.load_pages.specs.declared.records.KeyedRecord.{KeyedRecord}
use Rattle.recover_rms.proofs.LoadLemmas.{Keeps, all_kept, all_there, next_kept, none_left, nothing_kept}
use Rattle.recover_rms.proofs.loading.records_of.Goals as goal

pub loop-key-init : goal.loop-key-init
loop-key-init c = record {
  kept = subst (λ (rs : List KeyedRecord). Keeps c.args.head.now c.args.map (map keyed rs) (entries c.args.map)) (sym c.new-records.ensures.items) (nothing_kept c.args.head.now.organization c.args.head.now c.args.map);
  few = (let none = ap length c.new-records.ensures.items in omega (arith, none));
}

pub loop-key-smaller : goal.loop-key-smaller
loop-key-smaller c =
    let is = ap length (rw (c.in-Some.key-is, c.in-Some.bytes-is) at c.in-Some.ensures.some) in
    let before = len-entries c.loop-key.map in
    let now = len-entries c.pop_first.new.self in
    omega (arith, is, before, now)

pub loop-key-preserved : goal.loop-key-preserved
loop-key-preserved c = record {
  kept = next_kept c.args.head.now c.args.map (map keyed c.loop-key.records.items) (map keyed c.keep_record.new.records.items) _ _ (entries c.loop-key.map) (entries c.pop_first.new.self) c.loop-key.invariant.kept (rw (c.in-Some.key-is, c.in-Some.bytes-is) at c.in-Some.ensures.some) c.in-Ok.ensures.kept;
  few = c.in-Ok.ensures.few c.loop-key.invariant.few;
}

pub returns-clause-kept : goal.returns-clause-kept
returns-clause-kept c =
    let none : c.loop-key.map ≡ empty = search rules in
    all_kept c.args.head.now c.args.map (map keyed c.loop-key.records.items) (subst (Keeps c.args.head.now c.args.map (map keyed c.loop-key.records.items)) (none_left c.loop-key.map none) c.loop-key.invariant.kept)

pub returns-clause-all : goal.returns-clause-all
returns-clause-all c =
    let none : c.loop-key.map ≡ empty = search rules in
    all_there c.args.head.now c.args.map (map keyed c.loop-key.records.items) (subst (Keeps c.args.head.now c.args.map (map keyed c.loop-key.records.items)) (none_left c.loop-key.map none) c.loop-key.invariant.kept)
