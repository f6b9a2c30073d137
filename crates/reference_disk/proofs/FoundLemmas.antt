-- What is told of the file of a name, where there is one and where there is none.
use Rattle.std.proofs.Common.{◌≡◌, ℕ, List, [], ◌∷◌, ◌++◌, Option, Some, None, refl, sym, ap, subst, ◌∙◌, map}
use Rattle.std.specs.FinMap.{entries}
use Rattle.std.specs.Option.{option_map}
use Rattle.vms_model.specs.Ids.{Id}
use Rattle.reference_index.specs.transcript_model.Lines as model
use Rattle.reference_index.specs.script_model.Statements.{Recovery, Side}
use Rattle.records_model.specs.History.{first_to_change}
use Rattle.reference_index.specs.recovery_model.File.{ImageJournal}
use Rattle.reference_index.specs.recovery_model.Recovery.{refusal}
use Rattle.reference_index.specs.run_model.Answers as answers
use Rattle.reference_index.specs.run_model.Answers.{Row}
use Rattle.reference_index.specs.run_model.Steps.{lines_of_rows}
use Rattle.reference_index.specs.run_model.World as world
use Rattle.reference_index.specs.run_model.World.{File, Node}
use Rattle.reference_recovery.specs.declared.loading.Load.{Load}
use Rattle.reference_world.specs.Standing.{kept_of, rows_of}
use Rattle.reference_disk.specs.Recovering.{IsGiven, IsRecoveredBy}

-- what refuses a recovery of the file that is there
pub refuses_recovery : (n : Node) (fs : List (Option File)) (name : List ℕ) (way : Recovery) (f : File) (serials : List Id) → n.durable.directory ≡ fs → Some f ≡ world.find_file name fs → serials ≡ world.serials_of n.volatile.branches →
    option_map answers.refusal_line (refusal (answers.way_of way) (first_to_change f.history serials) (world.state_of f)) ≡ answers.of_file n name (answers.recovery_refused n way)
refuses_recovery n fs name way f serials same found changed =
    ap (λ ss. option_map answers.refusal_line (refusal (answers.way_of way) (first_to_change f.history ss) (world.state_of f))) changed
    ∙ ap (λ o. elim o as (λ _. Option model.Line) [ Some x ↦ answers.recovery_refused n way x | None ↦ None ]) (found ∙ ap (world.find_file name) (sym same))

pub refuses_nothing : (n : Node) (fs : List (Option File)) (name : List ℕ) (way : Recovery) → n.durable.directory ≡ fs → None ≡ world.find_file name fs → None ≡ answers.of_file n name (answers.recovery_refused n way)
refuses_nothing n fs name way same none = ap (λ o. elim o as (λ _. Option model.Line) [ Some x ↦ answers.recovery_refused n way x | None ↦ None ]) (none ∙ ap (world.find_file name) (sym same))

-- lines that are shown are those of their rows
only_lines : (ls : List model.Line) → lines_of_rows (map answers.shown_line ls) ≡ ls
only_lines [] = refl
only_lines (l ∷ ls) = ap (λ xs. l ∷ xs) (only_lines ls)

-- what is shown of a journal of images
abbrev pub images_told : List ℕ → ImageJournal → List model.Line
images_told name j = answers.image_lines name j.entries ++ model.NormalSpan j.first j.end ∷ []

-- and of the file of a name
abbrev pub found_told : (name : List ℕ) → Side → Option File → List model.Line
found_told name side o =
    lines_of_rows (elim o as (λ _. List Row) [ Some f ↦ map answers.shown_line (answers.image_lines name (answers.journal_at side f).entries) | None ↦ [] ])
    ++ (elim o as (λ _. model.Line) [ Some f ↦ model.NormalSpan (answers.journal_at side f).first (answers.journal_at side f).end | None ↦ model.Normal ]) ∷ []

pub shows_images : (name : List ℕ) (side : Side) (f : File) (o : Option File) → Some f ≡ o → images_told name (answers.journal_at side f) ≡ found_told name side o
shows_images name side f o found =
    let j = answers.journal_at side f in
    ap (λ ls. ls ++ model.NormalSpan j.first j.end ∷ []) (sym (only_lines (answers.image_lines name j.entries))) ∙ ap (found_told name side) found

pub shows_nothing : (name : List ℕ) (side : Side) (o : Option File) → None ≡ o → model.Normal ∷ [] ≡ found_told name side o
shows_nothing name side o none = ap (found_told name side) none

-- what a recovery gives the file that is there
pub given_by : (way : Recovery) (f : File) (o : Option File) (load : Load) → Some f ≡ o → map kept_of load.rows.items ≡ entries (answers.records_recovered way f) → rows_of load.rows.items ≡ answers.records_recovered way f →
    load.buckets ≡ world.buckets_loaded f (answers.records_recovered way f) → load.blocks ≡ answers.blocks_recovered way f → IsGiven way o (Some load)
given_by way f o load found rows records buckets blocks =
    subst (λ x. IsGiven way x (Some load)) found (let given : IsRecoveredBy way f (Some load) = record { value = load; is = refl; rows = rows; map = records; buckets = buckets; blocks = blocks } in given)

pub given_nothing : (way : Recovery) (o : Option File) → None ≡ o → IsGiven way o None
given_nothing way o none = subst (λ x. IsGiven way x None) none refl

-- and whether the disk has room for it
pub fills_given : (n : Node) (way : Recovery) (o : Option File) (load : Load) → IsGiven way o (Some load) →
    answers.volume_full n load.blocks ≡ elim o as (λ _. Option model.Line) [ Some f ↦ answers.volume_full n (answers.blocks_recovered way f) | None ↦ None ]
fills_given n way None load g = let never : ⊥ = cc in absurd never
fills_given n way (Some f) load g =
    let same : load ≡ g.value = (let is = g.is in cc) in
    ap (λ (x : Load). answers.volume_full n x.blocks) same ∙ ap (answers.volume_full n) g.blocks

pub fills_nothing : (n : Node) (way : Recovery) (o : Option File) → IsGiven way o None →
    None ≡ elim o as (λ _. Option model.Line) [ Some f ↦ answers.volume_full n (answers.blocks_recovered way f) | None ↦ None ]
fills_nothing n way None g = refl
fills_nothing n way (Some f) g = let never : ⊥ = (let is = g.is in cc) in absurd never

-- or for a save
pub fills_saved : (n : Node) (o : Option File) (need : ℕ) → Some need ≡ option_map answers.blocks_of o →
    answers.volume_full n need ≡ elim o as (λ _. Option model.Line) [ Some f ↦ answers.volume_full n (answers.blocks_of f) | None ↦ None ]
fills_saved n None need e = let never : ⊥ = cc in absurd never
fills_saved n (Some f) need e = ap (answers.volume_full n) (let same : need ≡ answers.blocks_of f = cc in same)

pub fills_unsaved : (n : Node) (o : Option File) → None ≡ option_map answers.blocks_of o →
    None ≡ elim o as (λ _. Option model.Line) [ Some f ↦ answers.volume_full n (answers.blocks_of f) | None ↦ None ]
fills_unsaved n None e = refl
fills_unsaved n (Some f) e = let never : ⊥ = cc in absurd never
