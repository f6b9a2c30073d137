-- What statements of files do, by their rows.
use Rattle.std.proofs.Common.{◌≡◌, ℕ, ◌+◌, List, [], ◌∷◌, ◌++◌, Bool, true, false, Option, Some, None, Result, Ok, Err, IfOk, OnOk, refl, sym, ap, subst, ◌∙◌, map, length}
use Rattle.std.proofs.lemmas.List.{length-map}
use Rattle.vms_model.specs.Keys.{Key}
use Rattle.world_laws.specs.transcript_model.Lines as model
use Rattle.std.specs.FinMap.{entries}
use Rattle.script_lang.specs.script_model.Statements.{Backup, Create, Dump, DumpImages, DumpJournal, Form, Images, LmcpDump, NoImages, NoRecoveryUnits, Recover, Recovery, RecoveryUnits, SetFile, Setting, Side}
use Rattle.unit_laws.specs.Journal.{end_of}
use Rattle.commit_protocol.specs.Messages.{LogRecord}
use Rattle.world_laws.specs.log_laws.Slots.{records_in, slot_records}
use Rattle.world_laws.proofs.log_laws.Counting.{slots_counted}
use Rattle.world_laws.specs.run_model.Answers as answers
use Rattle.world_laws.specs.run_model.Answers.{Row, created, creates, blocks_for, entry_lines, records_of, service, shown_line, shown_record}
use Rattle.world_laws.specs.run_model.Steps.{lines_of_rows, node_after_rows, shared_after_rows}
use Rattle.world_laws.specs.run_model.World as world
use Rattle.world_laws.specs.run_model.World.{Node, Shared, acted, shared_after, Volume, Sound, Faulty, Barred, Unknown}
use Rattle.reference_world.specs.declared.world.Volume.{Volume as VolumeKept}
use Rattle.reference_world.specs.declared.world.Volume.TheVariants as kept
use Rattle.reference_world.specs.declared.line.Line.{Line}
use Rattle.reference_world.specs.Standing.{is_unmade, line_of, volume_of}
use Rattle.reference_disk.specs.Disks.{after_creation, node_on}
use Rattle.reference_node.specs.Nodes.{Does}

pub both_ok : {T E : Type 0} {P R : T → Type 0} {Q : Type 0} (r : Result T E) → IfOk r P → OnOk r Q → ((x : T) → P x → Q → R x) → IfOk r R
both_ok (Ok x) p q f = f x p q
both_ok (Err e) p q f = tt

-- whether the last INIT failed, by what is known of the volume
abbrev pub unmade_by : Volume → Bool
unmade_by Sound = false
unmade_by (Faulty condition block) = false
unmade_by (Barred bar) = false
unmade_by Unknown = true

pub unmade_is : (v : VolumeKept) → is_unmade v ≡ unmade_by (volume_of v)
unmade_is kept.Sound = refl
unmade_is (kept.Faulty condition block) = refl
unmade_is kept.Unknown = refl

-- lines that are shown, and nothing is done
only_lines : (ls : List model.Line) → lines_of_rows (map shown_line ls) ≡ ls
only_lines [] = refl
only_lines (l ∷ ls) = ap (λ xs. l ∷ xs) (only_lines ls)

lines_only : (ls : List model.Line) (n : Node) → node_after_rows (map shown_line ls) n ≡ n
lines_only [] n = refl
lines_only (l ∷ ls) n = lines_only ls n

lines_still : (ls : List model.Line) (s : Shared) → shared_after_rows (map shown_line ls) s ≡ s
lines_still [] s = refl
lines_still (l ∷ ls) s = lines_still ls s

-- the journal is shown
pub dumps_journal : (s : Shared) (n : Node) (lines : List Line) → (let j = n.durable.units in map line_of lines ≡ entry_lines j.first j.entries ++ model.NormalSpan j.first (end_of j) ∷ []) → Does s n (service DumpJournal) lines n s
dumps_journal s n lines shown =
    let j = n.durable.units in
    let ls = entry_lines j.first j.entries in
    record { shows = shown ∙ ap (λ xs. xs ++ model.NormalSpan j.first (end_of j) ∷ []) (sym (only_lines ls)); node = sym (lines_only ls n); shared = sym (lines_still ls s) }

-- the transaction log is shown, record by record
pub dumps_log : (s : Shared) (n : Node) (before lines : List Line) (count : ℕ) → map line_of before ≡ map answers.log_line (slot_records 0 n.durable.log) → count ≡ length before →
    map line_of lines ≡ map line_of before ++ model.NormalCount count ∷ [] → Does s n (service LmcpDump) lines n s
dumps_log s n before lines count told counts shown =
    let numbered = slot_records 0 n.durable.log in
    let ls = map answers.log_line numbered in
    let all : count ≡ length (records_in n.durable.log) =
    counts ∙ sym (length-map before line_of) ∙ ap length told ∙ length-map numbered answers.log_line ∙ sym (length-map numbered (λ (e : ℕ × LogRecord). e.1)) ∙ ap length (slots_counted n.durable.log).records in
    record { shows = shown ∙ (λ i. told i ++ model.NormalCount (all i) ∷ []) ∙ ap (λ xs. xs ++ model.NormalCount (length (records_in n.durable.log)) ∷ []) (sym (only_lines ls)); node = sym (lines_only ls n); shared = sym (lines_still ls s) }

-- records are shown
shows_only : (es : List (Key × List ℕ)) (n : Node) → node_after_rows (map shown_record es) n ≡ n
shows_only [] n = refl
shows_only (e ∷ es) n = shows_only es n

shares_still : (es : List (Key × List ℕ)) (s : Shared) → shared_after_rows (map shown_record es) s ≡ s
shares_still [] s = refl
shares_still (e ∷ es) s = shares_still es s

pub dumps : (s : Shared) (n : Node) (name : List ℕ) (lines : List Line) → (let es = records_of n name in map line_of lines ≡ lines_of_rows (map shown_record es) ++ model.NormalCount (length es) ∷ []) → Does s n (service (Dump name)) lines n s
dumps s n name lines shown = record { shows = shown; node = sym (shows_only (records_of n name) n); shared = sym (shares_still (records_of n name) s) }

-- a journal of a file's images is shown
pub dumps_images : (s : Shared) (n : Node) (name : List ℕ) (side : Side) (lines : List Line) →
    map line_of lines ≡ lines_of_rows (answers.to_file n name (λ f. map shown_line (answers.image_lines name (answers.journal_at side f).entries)))
    ++ answers.file_told n name (λ f. model.NormalSpan (answers.journal_at side f).first (answers.journal_at side f).end) ∷ [] → Does s n (service (DumpImages name side)) lines n s
dumps_images s n name side lines shown = go (world.find_file name n.durable.directory) refl
  where
    does : world.File → List Row
    does f = map shown_line (answers.image_lines name (answers.journal_at side f).entries)

    nodes : (o : Option world.File) → node_after_rows (elim o as (λ _. List Row) [ Some f ↦ does f | None ↦ [] ]) n ≡ n
    nodes (Some f) = lines_only (answers.image_lines name (answers.journal_at side f).entries) n
    nodes None = refl

    others : (o : Option world.File) → shared_after_rows (elim o as (λ _. List Row) [ Some f ↦ does f | None ↦ [] ]) s ≡ s
    others (Some f) = lines_still (answers.image_lines name (answers.journal_at side f).entries) s
    others None = refl

    go : (o : Option world.File) → world.find_file name n.durable.directory ≡ o → Does s n (service (DumpImages name side)) lines n s
    go o e = record { shows = shown; node = sym (nodes (world.find_file name n.durable.directory)); shared = sym (others (world.find_file name n.durable.directory)) }

-- a file is marked
pub sets_file : (s : Shared) (n m : Node) (name : List ℕ) (setting : Setting) (lines : List Line) →
    m ≡ record n { durable = (node_after_rows (answers.sets (node_on [] n.blocks n.durable) name setting) (node_on [] n.blocks n.durable)).durable } → map line_of lines ≡ model.Normal ∷ [] → Does s n (service (SetFile name setting)) lines m s
sets_file s n m name RecoveryUnits lines is shown = record { shows = shown; node = is; shared = refl }
sets_file s n m name NoRecoveryUnits lines is shown = record { shows = shown; node = is; shared = refl }
sets_file s n m name (Images side blocks) lines is shown = record { shows = shown; node = is; shared = refl }
sets_file s n m name (NoImages side) lines is shown = record { shows = shown; node = is; shared = refl }

-- the volume stays as it is known
pub sets_volume : (n : Node) (name : List ℕ) (setting : Setting) → (node_after_rows (answers.sets (node_on [] n.blocks n.durable) name setting) (node_on [] n.blocks n.durable)).durable.volume ≡ n.durable.volume
sets_volume n name RecoveryUnits = refl
sets_volume n name NoRecoveryUnits = refl
sets_volume n name (Images side blocks) = refl
sets_volume n name (NoImages side) = refl

-- what is done to a file by one act that shows nothing, and is answered by what is told of it
module _ (s : Shared) (n : Node) (name : List ℕ) (need : world.File → ℕ) (act : world.File → ℕ → world.Act) where
  abbrev place : Node
  place = node_on [] n.blocks n.durable

  abbrev does : Node → world.File → List Row
  does x f = answers.on_free x (need f) (act f)

  -- the act changes the disk alone
  abbrev IsQuietAct : Type 0
  IsQuietAct = (f : world.File) (start : ℕ) → (record n { durable = (acted (act f start) place).durable } ≡ acted (act f start) n) × (shared_after (act f start) s ≡ s) × ((acted (act f start) place).durable.volume ≡ n.durable.volume)

  pub file_rows : IsQuietAct → (o : Option world.File) → record n { durable = (node_after_rows (elim o as (λ _. List Row) [ Some f ↦ does place f | None ↦ [] ]) place).durable } ≡ node_after_rows (elim o as (λ _. List Row) [ Some f ↦ does n f | None ↦ [] ]) n
  file_rows quiet (Some f) = (quiet f (answers.start_of (world.lowest_free n (need f)))).0
  file_rows quiet None = refl

  pub file_shares : IsQuietAct → (o : Option world.File) → shared_after_rows (elim o as (λ _. List Row) [ Some f ↦ does n f | None ↦ [] ]) s ≡ s
  file_shares quiet (Some f) = (quiet f (answers.start_of (world.lowest_free n (need f)))).1
  file_shares quiet None = refl

  pub file_volume : IsQuietAct → (o : Option world.File) → (node_after_rows (elim o as (λ _. List Row) [ Some f ↦ does place f | None ↦ [] ]) place).durable.volume ≡ n.durable.volume
  file_volume quiet (Some f) = (quiet f (answers.start_of (world.lowest_free n (need f)))).2
  file_volume quiet None = refl

  pub file_lines : (o : Option world.File) → lines_of_rows (elim o as (λ _. List Row) [ Some f ↦ does n f | None ↦ [] ]) ≡ []
  file_lines (Some f) = refl
  file_lines None = refl

-- a file is saved
pub saves_file : (s : Shared) (n m : Node) (name : List ℕ) (lines : List Line) →
    m ≡ record n { durable = (node_after_rows (answers.to_file (node_on [] n.blocks n.durable) name (λ f. answers.on_free (node_on [] n.blocks n.durable) (answers.blocks_of f) (world.Saves name))) (node_on [] n.blocks n.durable)).durable } →
    map line_of lines ≡ answers.file_told n name (λ f. model.NormalSave f.carried.after.end n.durable.greatest) ∷ [] → Does s n (service (Backup name)) lines m s
saves_file s n m name lines is shown =
    let o = world.find_file name n.durable.directory in
    let told = answers.file_told n name (λ f. model.NormalSave f.carried.after.end n.durable.greatest) in
    record {
      shows = shown ∙ sym (ap (λ ls. ls ++ told ∷ []) (file_lines s n name answers.blocks_of (λ f. world.Saves name) o));
      node = is ∙ file_rows s n name answers.blocks_of (λ f. world.Saves name) (λ f start. (refl, refl, refl)) o;
      shared = sym (file_shares s n name answers.blocks_of (λ f. world.Saves name) (λ f start. (refl, refl, refl)) o);
    }

-- a file is recovered
pub recovers_file : (s : Shared) (n m : Node) (name : List ℕ) (way : Recovery) (lines : List Line) →
    m ≡ record n { durable = (node_after_rows (answers.to_file (node_on [] n.blocks n.durable) name (answers.recovers (node_on [] n.blocks n.durable) name way)) (node_on [] n.blocks n.durable)).durable } →
    map line_of lines ≡ answers.file_told n name (λ f. model.NormalCount (length (entries (answers.records_recovered way f)))) ∷ [] → Does s n (service (Recover name way)) lines m s
recovers_file s n m name way lines is shown =
    let o = world.find_file name n.durable.directory in
    let told = answers.file_told n name (λ f. model.NormalCount (length (entries (answers.records_recovered way f)))) in
    record {
      shows = shown ∙ sym (ap (λ ls. ls ++ told ∷ []) (file_lines s n name (answers.blocks_recovered way) (given way) o));
      node = is ∙ file_rows s n name (answers.blocks_recovered way) (given way) (λ f start. (refl, refl, refl)) o;
      shared = sym (file_shares s n name (answers.blocks_recovered way) (given way) (λ f start. (refl, refl, refl)) o);
    }
  where
    given : Recovery → world.File → ℕ → world.Act
    given way f start = world.Recovers name start (world.buckets_loaded f (answers.records_recovered way f)) (answers.records_recovered way f)

-- a file is made where there is room for it
module _ (s : Shared) (n : Node) (name : List ℕ) (bucket size : ℕ) (form : Form) where
  abbrev made : ℕ → world.File
  made start = created name bucket size form start n.durable.greatest

  abbrev rows : Option ℕ → Option ℕ → List Row
  rows at lies = elim at as (λ _. List Row) [ Some place ↦ elim lies as (λ _. List Row) [ Some start ↦ record { act = Some (world.Creates place (made start)); lines = [] } ∷ [] | None ↦ [] ] | None ↦ [] ]

  abbrev disk : world.Node
  disk = node_on [] n.blocks n.durable

  silent_rows : (at lies : Option ℕ) → lines_of_rows (rows at lies) ≡ []
  silent_rows (Some place) (Some start) = refl
  silent_rows (Some place) None = refl
  silent_rows None lies = refl

  rows_share : (at lies : Option ℕ) → shared_after_rows (rows at lies) s ≡ s
  rows_share (Some place) (Some start) = refl
  rows_share (Some place) None = refl
  rows_share None lies = refl

  rows_make : (at lies : Option ℕ) → record n { durable = (node_after_rows (rows at lies) disk).durable } ≡ node_after_rows (rows at lies) n
  rows_make (Some place) (Some start) = refl
  rows_make (Some place) None = refl
  rows_make None lies = refl

  rows_volume : (at lies : Option ℕ) → (node_after_rows (rows at lies) disk).durable.volume ≡ n.durable.volume
  rows_volume (Some place) (Some start) = refl
  rows_volume (Some place) None = refl
  rows_volume None lies = refl

  pub makes : (m : Node) (lines : List Line) → m ≡ record n { durable = (after_creation name n.blocks bucket size form n.durable).durable } → map line_of lines ≡ model.Normal ∷ [] → Does s n (service (Create name bucket size form)) lines m s
  makes m lines is shown =
      let at = world.free_place n.durable.directory in
      let lies = world.lowest_free n (blocks_for bucket size form) in
      record {
        shows = shown ∙ sym (ap (λ ls. ls ++ model.Normal ∷ []) (silent_rows at lies));
        node = is ∙ rows_make at lies;
        shared = sym (rows_share at lies);
      }

  pub same_volume : (after_creation name n.blocks bucket size form n.durable).durable.volume ≡ n.durable.volume
  same_volume = rows_volume (world.free_place n.durable.directory) (world.lowest_free n (blocks_for bucket size form))
