use Rattle.std.proofs.Common.{◌≡◌, ◌≤◌, ◌<◌, ◌+◌, ℕ, [], map, length, get_or, sym, ap, subst, ◌∙◌, List, arith}
use Rattle.std.proofs.lemmas.List.{length-map}
use Rattle.relative_file.specs.Cells.{cells_in}
use Rattle.load_laws.specs.Records.{Keyed}
use Rattle.load_laws.specs.Cells.{number_in, value_at}
use Rattle.load_pages.specs.declared.records.KeyedRecord.{KeyedRecord}
use Rattle.load_pages.specs.Given.{keyed}
use Rattle.load_pages.proofs.CellFills.{Fills, Between, fills_empty, fills_none, fills_cell, fills_all, none_next, between_none, between_other, between_here, short_at, keyed_at, get_any}
use Rattle.load_pages.proofs.cells.fill_cells.Goals as goal
use Rattle.load_pages.proofs.cells.fill_cells.Goals.{then-at-records+then-number-first, else-at-records, else-at-records-via-then-at-records+else-number-first, else-at-records-via-else-at-records}

pub loop-k-init : goal.loop-k-init
loop-k-init c =
    let h = c.args.head.now in
    let es = map keyed c.args.records.now in
    record {
      fills = fills_empty h es c.args.first c.fill_empty.new.bytes c.requires.one c.requires.blocks (omega (arith, c.fill_empty.auto.bytes, c.requires.long)) c.fill_empty.ensures;
      between = subst (λ n. Between n es c.args.from) (let same : c.args.first ≡ c.args.first + 0 = omega arith in same) (record { passed = c.requires.passed; climbs = c.requires.climbs });
      within = c.requires.there;
    }

pub write_cell-requires-clause-holds : goal.write_cell-requires-clause-holds
write_cell-requires-clause-holds c =
    let d = c.index-records-at-then-number-first.result in
    let rs = c.args.records.now in
    let long = length-map rs keyed in
    let short = short_at c.args.head.now.mrs (map keyed rs) c.loop-k.at (keyed d) (omega (arith, long, c.if-at-records.true)) c.requires.short in
    omega (arith, short, ap (λ (e : Keyed). length e.1) (keyed_at rs c.loop-k.at d), ap (λ (r : KeyedRecord). length r.bytes.items) c.index-records-at-then-number-first.is, ap (λ (x : List ℕ). length x) c.deref.ensures.value)

pub loop-k-preserved : goal.loop-k-preserved
loop-k-preserved c =
    let h = c.args.head.now in
    let rs = c.args.records.now in
    let es = map keyed rs in
    let first = c.args.first in
    let k = c.loop-k.k in
    let at = c.loop-k.at in
    let n = first + k in
    let long = length-map rs keyed in
    let fills = c.loop-k.invariant.fills in
    let between = c.loop-k.invariant.between in
    let within = c.loop-k.invariant.within in
    let below : k < cells_in h = omega (arith, c.loop-k-test.true, c.cells_of-count.ensures) in
    let next : n + 1 ≡ first + (k + 1) = omega arith in
    elim c.if-at-records.branch [
      | then-at-records+then-number-first w ↦
          let d = w.index-records-at.result in
          let e = w.index-records-at-then-number-first.result in
          let there : at < length es = omega (arith, long, w.if-at-records.true) in
          let here : get_or es at (keyed d) ≡ keyed (get_or rs at d) = keyed_at rs at d in
          let also : get_or es at (keyed d) ≡ keyed (get_or rs at e) = get_any es at (keyed d) (keyed e) there ∙ keyed_at rs at e in
          let number : number_in (get_or es at (keyed d)).0 ≡ n + 1 = ap (λ (x : Keyed). number_in x.0) here ∙ sym w.number.ensures ∙ w.if-number-first.true in
          let found = between_here n at es (keyed d) there number between in
          let value : value_at es (n + 1) ≡ w.deref.result.now = found.0 ∙ ap (λ (x : Keyed). x.1) also ∙ sym w.deref.ensures.value in
          let short = short_at h.mrs es at (keyed d) there c.requires.short in
          let few = ap (λ (x : List ℕ). length x) (sym found.0 ∙ value) in
          record {
            fills = subst (Fills h es first (k + 1)) (sym (w.bytes-is ∙ w.write_cell.ensures)) (fills_cell h es first k c.loop-k.bytes w.deref.result.now c.requires.one c.requires.blocks below (omega (arith, short, few)) value fills);
            between = subst (λ m. Between m es c.if-at-records.at) next (subst (Between (n + 1) es) (sym w.at-is) found.1);
            within = omega (arith, w.at-is, w.if-at-records.true);
          }
      | else-at-records w ↦
          let none : (value_at es (n + 1) ≡ []) × Between (n + 1) es at = elim w.else-at-records.branch [
            | else-at-records-via-then-at-records+else-number-first v ↦
                let d = v.index-records-at.result in
                let here : get_or es at (keyed d) ≡ keyed (get_or rs at d) = keyed_at rs at d in
                let number : number_in (get_or es at (keyed d)).0 ≡ v.number.result = ap (λ (x : Keyed). number_in x.0) here ∙ sym v.number.ensures in
                between_other n at es (keyed d) (omega (arith, long, v.if-at-records.true)) (λ same. omega (arith, v.if-number-first.false, number, same)) between
            | else-at-records-via-else-at-records v ↦
                let most : length es ≤ at = omega (arith, long, v.if-at-records.false) in (none_next n at es most between, between_none n at es most between)
          ] in
          record {
            fills = subst (Fills h es first (k + 1)) (sym w.bytes-is) (fills_none h es first k c.loop-k.bytes below none.0 fills);
            between = subst (λ m. Between m es c.if-at-records.at) next (subst (Between (n + 1) es) (sym w.at-is) none.1);
            within = omega (arith, w.at-is, within);
          }
    ]

pub returns-clause-cells : goal.returns-clause-cells
returns-clause-cells c =
    let h = c.args.head.now in
    let all : c.loop-k.k ≡ c.cells_of-count.result = omega (arith, c.loop-k-test.false, c.loop-k.auto.k-end) in
    fills_all h (map keyed c.args.records.now) c.args.first c.loop-k.bytes c.requires.one c.requires.blocks
    (subst (λ n. Fills h (map keyed c.args.records.now) c.args.first n c.loop-k.bytes) (all ∙ c.cells_of-count.ensures) c.loop-k.invariant.fills)
