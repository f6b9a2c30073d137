-- The rows by which a file is marked, saved or recovered, and by which a journal of images is shown: what holds of each of them holds of all.
use Rattle.std.proofs.Common.{◌≡◌, ℕ, List, [], ◌∷◌, ◌++◌, map, reverse, Bool, true, false, Option, Some, None, refl, subst, sym}
use Rattle.std.specs.List.{AllByRecursion}
use Rattle.std.proofs.lemmas.List.{reverse-append}
use Rattle.run_model.specs.transcript_model.Lines.{Line}
use Rattle.run_model.specs.script_model.Statements.{Images, NoImages, NoRecoveryUnits, Recovery, RecoveryUnits, Setting, Side}
use Rattle.run_model.specs.records_model.Records.{Records}
use Rattle.run_model.specs.unit_laws.Journal.{JournalEntry}
use Rattle.run_model.specs.recovery_model.File.{Placed}
use Rattle.run_model.specs.recovery_model.Journal.{entry_in}
use Rattle.run_model.specs.World.{Act, BeginsImages, EndsImages, File, ForUnits, Mark, Marks, Node, Recovers, Saves, buckets_loaded, find_file, lowest_free}
use Rattle.run_model.specs.Answers.{Row, blocks_of, blocks_recovered, entry_line, image_line, image_lines, journal_at, on_free, records_recovered, recovers, sets, shown_line, silent, start_of, to_file}
use Rattle.world_laws.proofs.EntryLemmas.{all_append}

-- a line is that of an entry
abbrev pub IsEntryLine : Line → Type 0
IsEntryLine l = (position : ℕ) × (e : JournalEntry) × (l ≡ entry_line position e)

images_are_entries : (file : List ℕ) (xs : List Placed) → AllByRecursion IsEntryLine (image_lines file xs)
images_are_entries file [] = tt
images_are_entries file (x ∷ xs) =
    subst (AllByRecursion IsEntryLine) (sym (reverse-append (image_line file x ∷ []) (map (image_line file) xs)))
    (all_append IsEntryLine (image_lines file xs) (image_line file x ∷ []) (images_are_entries file xs) ((x.at, entry_in x.tid file x.entry, refl), tt))

module _ (P : List Row → Type 0) (none : P []) where
  on_free_by : (n : Node) (need : ℕ) (act : ℕ → Act) → ((start : ℕ) → P (silent (act start) ∷ [])) → P (on_free n need act)
  on_free_by n need act each = each (start_of (lowest_free n need))

  to_file_by : (n : Node) (file : List ℕ) (does : File → List Row) → ((f : File) → P (does f)) → P (to_file n file does)
  to_file_by n file does each = go (find_file file n.durable.directory)
    where
      go : (o : Option File) → P (elim o as (λ o. List Row) [ Some f ↦ does f | None ↦ [] ])
      go (Some f) = each f
      go None = none

  -- a file is marked
  pub sets_by : (n : Node) (file : List ℕ) (setting : Setting) → ((mark : Mark) → P (silent (Marks file mark) ∷ [])) → P (sets n file setting)
  sets_by n file RecoveryUnits each = each (ForUnits true)
  sets_by n file NoRecoveryUnits each = each (ForUnits false)
  sets_by n file (Images side blocks) each = on_free_by n blocks (λ start. Marks file (BeginsImages side start blocks)) (λ start. each (BeginsImages side start blocks))
  sets_by n file (NoImages side) each = each (EndsImages side)

  -- it is saved
  pub saves_by : (n : Node) (file : List ℕ) → ((start : ℕ) → P (silent (Saves file start) ∷ [])) → P (to_file n file (λ f. on_free n (blocks_of f) (Saves file)))
  saves_by n file each = to_file_by n file (λ f. on_free n (blocks_of f) (Saves file)) (λ f. on_free_by n (blocks_of f) (Saves file) each)

  -- it is recovered
  pub recovers_by : (n : Node) (file : List ℕ) (way : Recovery) → ((start buckets : ℕ) (m : Records) → P (silent (Recovers file start buckets m) ∷ [])) → P (to_file n file (recovers n file way))
  recovers_by n file way each = to_file_by n file (recovers n file way) (λ f. let m = records_recovered way f in
      on_free_by n (blocks_recovered way f) (λ start. Recovers file start (buckets_loaded f m) m) (λ start. each start (buckets_loaded f m) m))

  -- and a journal of its images is shown
  pub images_by : (n : Node) (file : List ℕ) (side : Side) → ((ls : List Line) → AllByRecursion IsEntryLine ls → P (map shown_line ls)) → P (to_file n file (λ f. map shown_line (image_lines file (journal_at side f).entries)))
  images_by n file side each =
      to_file_by n file (λ f. map shown_line (image_lines file (journal_at side f).entries)) (λ f. each (image_lines file (journal_at side f).entries) (images_are_entries file (journal_at side f).entries))
