use Rattle.std.specs.Prelude.{IfSome}
use Rattle.std.proofs.Common.{◌≡◌, ℕ, ◌+◌, ◌-◌, List, [], ◌∷◌, ◌++◌, Option, length, map, sym, subst, ◌∙◌, ap, arith}
use Rattle.std.proofs.lemmas.List.{length_push}
use Rattle.block_disk.specs.Blocks.{block_at}
use Rattle.careful_write.specs.State.{StoreState}
use Rattle.careful_write.proofs.Reading.{same_on}
use Rattle.log_laws.specs.commit_protocol.Messages.{LogRecord}
use Rattle.log_laws.specs.commit_protocol.Table.{record_serials}
use Rattle.log_laws.specs.commit_protocol.World.{In}
use Rattle.log_laws.specs.commit_protocol.Agreement.{Distinct}
use Rattle.vms_base.specs.declared.protocol.LogRec.{LogRec}
use Rattle.tm_types.proofs.ListLemmas.{map_push}
use Rattle.log_laws.specs.Slots.{Slots, records_in}
use Rattle.lmcp_log.specs.Slot.{IsRecord}
use Rattle.lmcp_log.specs.Log.{slot_of, IsReading}
use Rattle.lmcp_log.proofs.Fields.{length_mapped}
use Rattle.lmcp_log.proofs.Reading.{IsEntry, told_more, records_more, distinct_read}
use Rattle.lmcp_log.proofs.Keepings.{told_kept, told_again}
use Rattle.lmcp_log.proofs.log.load_slots.Goals as goal

pub loop-i-preserved : goal.loop-i-preserved
loop-i-preserved g c =
    let before = c.loop-i.invariant in
    let items : List (Option LogRec) = c.loop-i.slots.items in
    let ss : Slots = map slot_of items in
    let e : Option LogRecord = slot_of c.entry_in-entry.result in
    let block : List ℕ = c.read.new.out in
    let told : Option (List (List ℕ)) = c.args.store.now.current in
    let entry : IsEntry block ss e = (let P : List (Option LogRec) → Type 0 = λ xs. IsEntry block (map slot_of xs) e in subst P c.deref.ensures.value c.entry_in-entry.ensures) in
    let read : IfSome told (λ (b : List (List ℕ)). block ≡ block_at b (584 + c.loop-i.i - 518)) =
    (let P : StoreState → Type 0 = λ s. IfSome s.current (λ (b : List (List ℕ)). block ≡ block_at b (584 + c.loop-i.i - 518)) in subst P before.same c.in_ok-read.ensures.read) in
    let n : 584 + c.loop-i.i - 518 ≡ 66 + length ss = let l = length_mapped slot_of items in let k = before.count in omega (arith, l, k) in
    let here : IfSome told (λ (b : List (List ℕ)). block ≡ block_at b (66 + length ss)) = (let P : ℕ → Type 0 = λ m. IfSome told (λ (b : List (List ℕ)). block ≡ block_at b m) in subst P n read) in
    let more : map slot_of c.push_reserved.new.self.items ≡ ss ++ e ∷ [] = ap (map slot_of) c.push_reserved.ensures.items ∙ map_push slot_of items c.entry_in-entry.result in
    let R : Slots → Type 0 = λ ts. IfSome told (IsReading ts) in
    let Q : Slots → Type 0 = λ ts. (r : LogRecord) → In r (records_in ts) → IsRecord r in
    let D : Slots → Type 0 = λ ts. Distinct (record_serials (records_in ts)) in
    record {
      same = same_on c.args.store.now c.loop-i.store c.read.new.self before.same c.in_ok-read.ensures.state;
      count = ap length c.push_reserved.ensures.items ∙ (length_push items c.entry_in-entry.result ∙ ap (λ (m : ℕ). m + 1) before.count);
      within = (let lt = c.loop-i-test.true in omega (arith, lt));
      room = let q = c.push_reserved.ensures.capacity in let r = before.room in omega arith;
      reading = subst R (sym more) (told_more told ss e block before.reading here entry);
      records = subst Q (sym more) (records_more ss e block before.records entry);
      distinct = subst D (sym more) (distinct_read ss e block before.distinct entry);
    }

pub returns-clause-kept : goal.returns-clause-kept
returns-clause-kept g c =
    let items : List (Option LogRec) = c.loop-i.slots.items in
    let n = length_mapped slot_of items in
    let count = c.loop-i.invariant.count in
    let within = c.loop-i.invariant.within in
    let end = c.loop-i-test.false in
    told_kept c.args.store.now.current (map slot_of items) _ (omega (arith, n, count, within, end)) c.loop-i.invariant.reading c.loop-i.invariant.distinct

pub returns-clause-again : goal.returns-clause-again
returns-clause-again g c = λ ss same.
    let items : List (Option LogRec) = c.loop-i.slots.items in
    let n = length_mapped slot_of items in
    let count = c.loop-i.invariant.count in
    let within = c.loop-i.invariant.within in
    let end = c.loop-i-test.false in
    told_again c.args.store.now.current (map slot_of items) ss (omega (arith, n, count, within, end, same)) c.loop-i.invariant.reading
