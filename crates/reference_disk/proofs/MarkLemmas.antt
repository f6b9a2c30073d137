-- What marks, saves and recoveries make of a disk.
use Rattle.std.proofs.Common.{◌≡◌, ℕ, List, [], ◌∷◌, Option, Some, None, Result, Ok, Err, OnOk, refl, sym, ap, ◌∙◌, length}
use Rattle.std.specs.Prelude.{map}
use Rattle.std.specs.Option.{option_map}
use Rattle.std.specs.FinMap.{entries}
use Rattle.reference_index.specs.transcript_model.Lines as model
use Rattle.reference_index.specs.script_model.Statements.{Setting, RecoveryUnits, NoRecoveryUnits, Images, NoImages, Recovery}
use Rattle.reference_index.specs.run_model.Answers as answers
use Rattle.reference_index.specs.run_model.Steps.{node_after_rows}
use Rattle.reference_index.specs.run_model.World as world
use Rattle.reference_index.specs.run_model.World.{Node, File}
use Rattle.std.proofs.lemmas.List.{length-map}
use Rattle.records_model.specs.Records.{Records}
use Rattle.reference_recovery.specs.declared.loading.Load.{Load}
use Rattle.reference_world.specs.Standing.{kept_of, rows_of}
use Rattle.reference_disk.specs.Marks.{blocks_said, mark_said}
use Rattle.reference_disk.specs.Recovering.{IsGiven, IsRecoveredBy}

pub on_ok : {T E P : Type 0} (r : Result T E) → P → OnOk r P
on_ok (Ok x) p = p
on_ok (Err e) p = tt

-- a disk with a change of one file
abbrev pub changed_disk : world.Durable → (file : List ℕ) → (File → File) → world.Durable
changed_disk d file change = record d { directory = world.with_file file change d.directory }

pub sets_marks : (n : Node) (file : List ℕ) (setting : Setting) →
    (node_after_rows (answers.sets n file setting) n).durable ≡ changed_disk n.durable file (world.marked_file (mark_said setting (answers.start_of (world.lowest_free n (blocks_said setting)))) n.durable.greatest)
sets_marks n file RecoveryUnits = refl
sets_marks n file NoRecoveryUnits = refl
sets_marks n file (Images side blocks) = refl
sets_marks n file (NoImages side) = refl

-- the rows and the answer of BACKUP
abbrev pub saving : Node → List ℕ → List answers.Row
saving n file = answers.to_file n file (λ f. answers.on_free n (answers.blocks_of f) (world.Saves file))

abbrev pub saving_told : Node → List ℕ → model.Line
saving_told n file = answers.file_told n file (λ f. model.NormalSave f.carried.after.end n.durable.greatest)

-- a file is saved from a block on, where its journal of after images ends here
pub record IsSavedFrom (n : Node) (file : List ℕ) (start end : ℕ) : Type 0 where
  pub disk : (node_after_rows (saving n file) n).durable ≡ changed_disk n.durable file (world.saved_file start n.durable.greatest)
  pub told : saving_told n file ≡ model.NormalSave end n.durable.greatest

pub saved_from : (n : Node) (file : List ℕ) (need start end : ℕ) → Some need ≡ option_map answers.blocks_of (world.find_file file n.durable.directory) → start ≡ answers.start_of (world.lowest_free n need) →
    ((f : File) → world.find_file file n.durable.directory ≡ Some f → end ≡ f.carried.after.end) → IsSavedFrom n file start end
saved_from n file need start end blocks starts ends = go (world.find_file file n.durable.directory) refl blocks
  where
    go : (o : Option File) → world.find_file file n.durable.directory ≡ o → Some need ≡ option_map answers.blocks_of o → IsSavedFrom n file start end
    go None e b = let never : ⊥ = cc in absurd never
    go (Some f) e b =
        let same : need ≡ answers.blocks_of f = cc in
        let at : start ≡ answers.start_of (world.lowest_free n (answers.blocks_of f)) = starts ∙ ap (λ x. answers.start_of (world.lowest_free n x)) same in
        record {
          disk = ap (λ o. (node_after_rows (elim o as (λ _. List answers.Row) [ Some x ↦ answers.on_free n (answers.blocks_of x) (world.Saves file) | None ↦ [] ]) n).durable) e ∙ ap (λ x. changed_disk n.durable file (world.saved_file x n.durable.greatest)) (sym at);
          told = ap (λ o. elim o as (λ _. model.Line) [ Some x ↦ model.NormalSave x.carried.after.end n.durable.greatest | None ↦ model.Normal ]) e ∙ ap (λ x. model.NormalSave x n.durable.greatest) (sym (ends f e));
        }

-- nothing is done to a file that is not there
pub saved_nowhere : (n : Node) (file : List ℕ) → None ≡ option_map answers.blocks_of (world.find_file file n.durable.directory) → (n.durable ≡ (node_after_rows (saving n file) n).durable) × (model.Normal ≡ saving_told n file)
saved_nowhere n file none = go (world.find_file file n.durable.directory) refl none
  where
    go : (o : Option File) → world.find_file file n.durable.directory ≡ o → None ≡ option_map answers.blocks_of o → (n.durable ≡ (node_after_rows (saving n file) n).durable) × (model.Normal ≡ saving_told n file)
    go (Some f) e b = let never : ⊥ = cc in absurd never
    go None e b = (
      sym (ap (λ o. (node_after_rows (elim o as (λ _. List answers.Row) [ Some x ↦ answers.on_free n (answers.blocks_of x) (world.Saves file) | None ↦ [] ]) n).durable) e),
      sym (ap (λ o. elim o as (λ _. model.Line) [ Some x ↦ model.NormalSave x.carried.after.end n.durable.greatest | None ↦ model.Normal ]) e),
    )

-- the rows and the answer of RECOVER
abbrev pub recovering : Node → List ℕ → Recovery → List answers.Row
recovering n file way = answers.to_file n file (answers.recovers n file way)

abbrev pub recovering_told : Node → List ℕ → Recovery → model.Line
recovering_told n file way = answers.file_told n file (λ f. model.NormalCount (length (entries (answers.records_recovered way f))))

-- a file gets these records in so many buckets from a block on
pub record IsLoadedFrom (n : Node) (file : List ℕ) (way : Recovery) (start buckets count : ℕ) (m : Records) : Type 0 where
  pub disk : (node_after_rows (recovering n file way) n).durable ≡ changed_disk n.durable file (world.recovered_file start buckets m n.durable.greatest)
  pub told : recovering_told n file way ≡ model.NormalCount count

pub loaded_from : (n : Node) (file : List ℕ) (way : Recovery) (load : Load) (start : ℕ) → IsGiven way (world.find_file file n.durable.directory) (Some load) → start ≡ answers.start_of (world.lowest_free n load.blocks) →
    IsLoadedFrom n file way start load.buckets (length load.rows.items) (rows_of load.rows.items)
loaded_from n file way load start given starts = go (world.find_file file n.durable.directory) refl given
  where
    go : (o : Option File) → world.find_file file n.durable.directory ≡ o → IsGiven way o (Some load) → IsLoadedFrom n file way start load.buckets (length load.rows.items) (rows_of load.rows.items)
    go None e g = let never : ⊥ = cc in absurd never
    go (Some f) e g =
        let same : load ≡ g.value = (let is = g.is in cc) in
        let m = answers.records_recovered way f in
        let records : rows_of load.rows.items ≡ m = ap (λ (x : Load). rows_of x.rows.items) same ∙ g.map in
        let buckets : load.buckets ≡ world.buckets_loaded f m = ap (λ (x : Load). x.buckets) same ∙ g.buckets in
        let at : start ≡ answers.start_of (world.lowest_free n (answers.blocks_recovered way f)) = starts ∙ ap (λ (x : Load). answers.start_of (world.lowest_free n x.blocks)) same ∙ ap (λ k. answers.start_of (world.lowest_free n k)) g.blocks in
        let count : length load.rows.items ≡ length (entries m) = ap (λ (x : Load). length x.rows.items) same ∙ sym (length-map g.value.rows.items kept_of) ∙ ap length g.rows in
        record {
          disk = ap (λ o. (node_after_rows (elim o as (λ _. List answers.Row) [ Some x ↦ answers.recovers n file way x | None ↦ [] ]) n).durable) e
              ∙ (λ i. changed_disk n.durable file (world.recovered_file (sym at i) (sym buckets i) (sym records i) n.durable.greatest));
          told = ap (λ o. elim o as (λ _. model.Line) [ Some x ↦ model.NormalCount (length (entries (answers.records_recovered way x))) | None ↦ model.Normal ]) e ∙ ap model.NormalCount (sym count);
        }

pub loaded_nowhere : (n : Node) (file : List ℕ) (way : Recovery) → IsGiven way (world.find_file file n.durable.directory) None → (n.durable ≡ (node_after_rows (recovering n file way) n).durable) × (model.Normal ≡ recovering_told n file way)
loaded_nowhere n file way given = go (world.find_file file n.durable.directory) refl given
  where
    go : (o : Option File) → world.find_file file n.durable.directory ≡ o → IsGiven way o None → (n.durable ≡ (node_after_rows (recovering n file way) n).durable) × (model.Normal ≡ recovering_told n file way)
    go (Some f) e g = let never : ⊥ = (let is = g.is in cc) in absurd never
    go None e g = (
      sym (ap (λ o. (node_after_rows (elim o as (λ _. List answers.Row) [ Some x ↦ answers.recovers n file way x | None ↦ [] ]) n).durable) e),
      sym (ap (λ o. elim o as (λ _. model.Line) [ Some x ↦ model.NormalCount (length (entries (answers.records_recovered way x))) | None ↦ model.Normal ]) e),
    )

-- the rows that a recovery gives are those of a map, in the order of its keys
pub given_rows : (way : Recovery) (o : Option File) (load : Load) → IsGiven way o (Some load) → map kept_of load.rows.items ≡ entries (rows_of load.rows.items)
given_rows way None load g = let never : ⊥ = cc in absurd never
given_rows way (Some f) load g =
    let same : load ≡ g.value = (let is = g.is in cc) in
    ap (λ (x : Load). map kept_of x.rows.items) same ∙ g.rows ∙ ap entries (sym g.map) ∙ ap (λ (x : Load). entries (rows_of x.rows.items)) (sym same)
