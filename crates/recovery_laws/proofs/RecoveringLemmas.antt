-- What a recovery at a node leaves of its file.
use Rattle.std.proofs.Common.{◌≡◌, List, [], ◌∷◌, Bool, true, false, not, ◌||◌, Some, None, length, refl, sym, ◌∙◌, ap, subst}
use Rattle.std.specs.FinMap.{entries}
use Rattle.std.specs.Option.{option_map}
use Rattle.world_laws.specs.transcript_model.Lines as line
use Rattle.world_laws.specs.transcript_model.Lines.{Line}
use Rattle.unit_laws.specs.records_model.Records.{Records}
use Rattle.unit_laws.specs.records_model.History.{LiveChanges, changes_by, first_to_change, on_top}
use Rattle.world_laws.specs.recovery_model.File.{IsStill}
use Rattle.world_laws.specs.recovery_model.Recovery.{refusal}
use Rattle.world_laws.specs.run_model.World.{File, buckets_loaded, find_file, lowest_free, recovered_file, serials_of, state_of}
use Rattle.world_laws.specs.run_model.Operations.{refused_if}
use Rattle.world_laws.specs.run_model.Answers.{Row, blocks_recovered, of_file, records_recovered, recovers, recovery_refused, start_of, there_is_file, way_of}
use Rattle.world_laws.specs.run_model.Steps.{node_after_rows}
use Rattle.world_laws.proofs.AnswerLemmas.{neither}
use Rattle.world_laws.proofs.FindLemmas.{changed_file}
use Rattle.world_laws.proofs.ServedLemmas.{file_says, no_line, recovery_rests, unused}
use Rattle.recovery_laws.specs.Recovering.{RecoveriesGiveRecords}
use Rattle.recovery_laws.proofs.LedLemmas.{told_recover}

pub recoveries_give_records : RecoveriesGiveRecords
recoveries_give_records s n file way f may waits kept up found first told = record {
  left = change f;
  there = subst (λ o. find_file file (node_after_rows (elim o as (λ x. List Row) [ Some g ↦ recovers n file way g | None ↦ [] ]) n).durable.directory ≡ Some (change f)) (sym found)
      (changed_file file change n.durable.directory (λ g. refl) ∙ ap (option_map change) found);
  reached = free;
  made = refl;
  told = told_recover may waits n.durable.greatest f told (way_of way) None still free;
  moment = λ as_loaded. as_loaded ∙ told_recover may waits n.durable.greatest f told (way_of way) None still free;
  stands = stands;
  counted = ap (λ o. elim o as (λ x. Line) [ Some g ↦ line.NormalCount (length (entries (records_recovered way g))) | None ↦ line.Normal ]) found ∙ ap (λ k. line.NormalCount (length (entries k))) (sym stands);
}
  where
    m : Records
    m = records_recovered way f

    change : File → File
    change = recovered_file (start_of (lowest_free n (blocks_recovered way f))) (buckets_loaded f m) m n.durable.greatest

    passes : of_file n file (recovery_refused n way) ≡ None
    passes = (neither (there_is_file n file) _ (neither (refused_if (not (n.up || false)) line.NodeDown) _ first).1).1

    rests : f.history.live ≡ []
    rests = recovery_rests n file (kept.runs up).0 (kept.runs up).1 way passes f found

    still : IsStill (state_of f)
    still x = ap (λ (ls : List LiveChanges). elim (changes_by x ls) as (λ y. Bool) [ [] ↦ false | c ∷ cs ↦ true ]) rests

    allowed : refusal (way_of way) (first_to_change f.history (serials_of n.volatile.branches)) (state_of f) ≡ None
    allowed = no_line n file (kept.runs up).0 (kept.runs up).1 _ (file_says n file f (recovery_refused n way) found passes)

    free : refusal (way_of way) None (state_of f) ≡ None
    free = ap (λ u. refusal (way_of way) u (state_of f)) (sym (unused n file (kept.runs up).0 (kept.runs up).1 (way_of way) _ (state_of f) allowed)) ∙ allowed

    stands : on_top f.history.live m ≡ m
    stands = ap (λ ls. on_top ls m) rests
