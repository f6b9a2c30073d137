use Rattle.std.proofs.Common.{◌≡◌, ap, sym, ◌∙◌}
use Rattle.std.specs.Prelude.{◌*◌, map, max}
use Rattle.std.specs.FinMap.{entries, from_entries}
use Rattle.records_model.specs.Records.{Records}
use Rattle.reference_index.specs.recovery_model.Recovery.{rolled}
use Rattle.reference_index.specs.run_model.Answers.{records_recovered, way_of}
use Rattle.reference_index.specs.run_model.World.{buckets_taken, state_of}
use Rattle.script_lang.specs.Statements.{recovery_of}
use Rattle.reference_world.specs.Standing.{entry_of, file_of, kept_of, rows_of}
use Rattle.reference_world.proofs.EntryLemmas.{from_all}
use Rattle.reference_recovery.proofs.loading.recovered.Goals as goal

pub buckets_taken-requires : goal.buckets_taken-requires
buckets_taken-requires c =
    let f = file_of c.args.file.now in
    let m : Records = rolled (way_of (recovery_of c.args.way.now)) (state_of f) in
    let r : Records = records_recovered (recovery_of c.args.way.now) f in
    let made : map entry_of c.as_slice.result.now ≡ entries m = rw c.as_slice.ensures.value c.in_ok-made.ensures in
    let loaded : map entry_of c.in_ok-loaded.loaded.items ≡ entries r = c.in_ok-loaded.ensures m made in
    let rows : map kept_of c.in_ok-rows.rows.items ≡ entries r = c.in_ok-rows.ensures ∙ ap (map entry_of) c.as_slice-2.ensures.value ∙ loaded in
    let records : rows_of c.in_ok-rows.rows.items ≡ r = ap from_entries rows ∙ from_all r in
    record {
      rows = ap (map entry_of) c.as_slice-3.ensures.value ∙ loaded ∙ ap entries (sym records) ∙ ap (λ xs. entries (rows_of xs)) (sym c.as_slice-4.ensures.value);
      kept = ap (map kept_of) c.as_slice-4.ensures.value ∙ rows ∙ ap entries (sym records) ∙ ap (λ xs. entries (rows_of xs)) (sym c.as_slice-4.ensures.value);
    }

pub returns-clause-rows : goal.returns-clause-rows
returns-clause-rows c =
    let f = file_of c.args.file.now in
    let m : Records = rolled (way_of (recovery_of c.args.way.now)) (state_of f) in
    let made : map entry_of c.as_slice.result.now ≡ entries m = rw c.as_slice.ensures.value c.in_ok-made.ensures in
    c.in_ok-rows.ensures ∙ ap (map entry_of) c.as_slice-2.ensures.value ∙ c.in_ok-loaded.ensures m made

pub returns-clause-records : goal.returns-clause-records
returns-clause-records c =
    let f = file_of c.args.file.now in
    let m : Records = rolled (way_of (recovery_of c.args.way.now)) (state_of f) in
    let made : map entry_of c.as_slice.result.now ≡ entries m = rw c.as_slice.ensures.value c.in_ok-made.ensures in
    ap from_entries (c.in_ok-rows.ensures ∙ ap (map entry_of) c.as_slice-2.ensures.value ∙ c.in_ok-loaded.ensures m made) ∙ from_all (records_recovered (recovery_of c.args.way.now) f)

pub returns-clause-buckets : goal.returns-clause-buckets
returns-clause-buckets c =
    let f = file_of c.args.file.now in
    let m : Records = rolled (way_of (recovery_of c.args.way.now)) (state_of f) in
    let r : Records = records_recovered (recovery_of c.args.way.now) f in
    let made : map entry_of c.as_slice.result.now ≡ entries m = rw c.as_slice.ensures.value c.in_ok-made.ensures in
    let records : rows_of c.in_ok-rows.rows.items ≡ r = ap from_entries (c.in_ok-rows.ensures ∙ ap (map entry_of) c.as_slice-2.ensures.value ∙ c.in_ok-loaded.ensures m made) ∙ from_all r in
    c.buckets_kept-buckets.ensures ∙ ap (max f.buckets) (c.in_ok-taken.ensures ∙ ap (λ xs. buckets_taken f.organization f (rows_of xs)) c.as_slice-4.ensures.value ∙ ap (buckets_taken f.organization f) records)

pub returns-clause-blocks : goal.returns-clause-blocks
returns-clause-blocks c =
    let f = file_of c.args.file.now in
    let m : Records = rolled (way_of (recovery_of c.args.way.now)) (state_of f) in
    let r : Records = records_recovered (recovery_of c.args.way.now) f in
    let made : map entry_of c.as_slice.result.now ≡ entries m = rw c.as_slice.ensures.value c.in_ok-made.ensures in
    let records : rows_of c.in_ok-rows.rows.items ≡ r = ap from_entries (c.in_ok-rows.ensures ∙ ap (map entry_of) c.as_slice-2.ensures.value ∙ c.in_ok-loaded.ensures m made) ∙ from_all r in
    c.in_ok-blocks.ensures ∙ ap (λ n. n * f.bucket) (c.buckets_kept-buckets.ensures ∙ ap (max f.buckets) (c.in_ok-taken.ensures ∙ ap (λ xs. buckets_taken f.organization f (rows_of xs)) c.as_slice-4.ensures.value ∙ ap (buckets_taken f.organization f) records))
