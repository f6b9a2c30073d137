use Rattle.std.proofs.Common.{◌≡◌, ◌<◌, ⊎_elim, ◌+◌, ◌-◌, ◌*◌, ℕ, [], ◌∷◌, ◌++◌, map, length, get_or, sym, ap, subst, ◌∙◌, List, arith}
use Rattle.std.proofs.lemmas.List.{length-map}
use Rattle.std.proofs.lemmas.Bool.{cases_lt}
use Rattle.load_laws.specs.indexed_file.Chain.{kind_of}
use Rattle.load_laws.specs.Chains.{raw_for}
use Rattle.load_pages.specs.declared.records.KeyedRecord.{KeyedRecord}
use Rattle.load_pages.specs.Given.{raw_of}
use Rattle.load_pages.proofs.FillLemmas.{raw_at, map_at}
use Rattle.load_pages.proofs.KeyLemmas.{KeysTo, keys_none, keys_fit, keys_over, keys_all, key_of_raw, raw_holds}
use Rattle.load_pages.proofs.lowest.lowest_of.Goals as goal

pub loop-r-init : goal.loop-r-init
loop-r-init c =
    let h = c.args.head.now in
    record {
      keys_to = subst (KeysTo h (512 * h.bucket - 16) (map (raw_of (kind_of h)) c.args.records.now) 0 0) (sym c.in_ok-keys.ensures) (keys_none h (512 * h.bucket - 16) (map (raw_of (kind_of h)) c.args.records.now));
      few = omega arith;
    }

pub note_record-requires-clause-long : goal.note_record-requires-clause-long
note_record-requires-clause-long c =
    let h = c.args.head.now in
    let d = c.r-item.result in
    let is = raw_at (kind_of h) (512 * h.bucket) c.args.records.now c.loop-r.r-index d c.loop-r-test.true c.requires.fit in
    let read = c.deref.ensures.value in
    let item = ap (λ (r : KeyedRecord). r.bytes.items) c.r-item.is in
    let same : c.deref.result.now ≡ (get_or c.args.records.now c.loop-r.r-index d).bytes.items = cc in
    omega (arith, raw_holds h (get_or c.args.records.now c.loop-r.r-index d).bytes.items is.suit, ap (λ (x : List ℕ). length x) same)

pub note_record-requires-clause-short : goal.note_record-requires-clause-short
note_record-requires-clause-short c =
    let h = c.args.head.now in
    let d = c.r-item.result in
    let is = raw_at (kind_of h) (512 * h.bucket) c.args.records.now c.loop-r.r-index d c.loop-r-test.true c.requires.fit in
    let read = c.deref.ensures.value in
    let item = ap (λ (r : KeyedRecord). r.bytes.items) c.r-item.is in
    let same : c.deref.result.now ≡ (get_or c.args.records.now c.loop-r.r-index d).bytes.items = cc in
    let short = is.short in
    omega (arith, short, ap (λ (x : List ℕ). length x) same)

pub loop-r-preserved : goal.loop-r-preserved
loop-r-preserved c =
    let h = c.args.head.now in
    let cap = 512 * h.bucket - 16 in
    let rs = c.args.records.now in
    let raws = map (raw_of (kind_of h)) rs in
    let i = c.loop-r.r-index in
    let d = c.r-item.result in
    let v = c.deref.result.now in
    let read = c.deref.ensures.value in
    let item = ap (λ (r : KeyedRecord). r.bytes.items) c.r-item.is in
    let same : c.deref.result.now ≡ (get_or c.args.records.now c.loop-r.r-index d).bytes.items = cc in
    let below : i < length raws = omega (arith, c.loop-r-test.true, length-map rs (raw_of (kind_of h))) in
    let raw : get_or raws i [] ≡ raw_for (kind_of h) v = map_at (kind_of h) rs i d c.loop-r-test.true ∙ ap (raw_for (kind_of h)) (sym same) in
    let size : length (get_or raws i []) ≡ length v + 4 = ap (λ (x : List ℕ). length x) raw ∙ omega arith in
    let is = raw_at (kind_of h) (512 * h.bucket) rs i d c.loop-r-test.true c.requires.fit in
    let short = is.short in
    let long = ap (λ (x : List ℕ). length x) same in
    let before = c.loop-r.invariant.keys_to in
    let items = c.note_record.new.keys.items in
    let next = c.in_ok-filled.filled in
    ⊎_elim
    (λ over.
    let told = c.in_ok-filled.ensures.over over in
    let keys = keys_over h cap raws i c.loop-r.used (length v + 4) c.loop-r.keys.items below size over before in
    record {
      keys_to = subst (λ n. KeysTo h cap raws (i + 1) n items) (sym told.0) (subst (KeysTo h cap raws (i + 1) (length v + 4)) (ap (λ (k : List ℕ). c.loop-r.keys.items ++ k ∷ []) (key_of_raw h (get_or raws i []) v raw) ∙ sym told.1) keys);
      few = omega (arith, told.0, short, long);
    })
    (λ fits.
    let told = c.in_ok-filled.ensures.fits fits in
    let keys = keys_fit h cap raws i c.loop-r.used (length v + 4) c.loop-r.keys.items below size fits before in
    record {
      keys_to = subst (λ n. KeysTo h cap raws (i + 1) n items) (sym told.0) (subst (KeysTo h cap raws (i + 1) (c.loop-r.used + (length v + 4))) (sym told.1) keys);
      few = omega (arith, told.0, fits, c.requires.blocks);
    })
    (cases_lt cap (c.loop-r.used + (length v + 4)))

pub returns : goal.returns
returns c =
    let h = c.args.head.now in
    let raws = map (raw_of (kind_of h)) c.args.records.now in
    record { are = keys_all h (512 * h.bucket - 16) raws c.loop-r.r-index c.loop-r.used c.loop-r.keys.items (omega (arith, c.loop-r-test.false, length-map c.args.records.now (raw_of (kind_of h)))) c.loop-r.invariant.keys_to }
