-- What a run promises of its recoveries, from the laws of these.
use Rattle.std.proofs.Common.{[], ◌∷◌, ◌++◌, subst}
use Rattle.std.specs.Prelude.{List}
use Rattle.recovery_laws.specs.run_model.World.{DiskCounts, Node, World, opened}
use Rattle.recovery_laws.specs.run_model.Transcript.{AreOpening, Entry, Legal}
use Rattle.run_laws.specs.run_agreement.Laws.{opening_told}
use Rattle.run_laws.specs.Laws.{AgreedPromisesAreKept}
use Rattle.run_laws.specs.Promises.{AbortsStand}
use Rattle.run_laws.proofs.AbortsStand.{legal_parts}
use Rattle.recovery_runs.specs.Runs.{AreLawful, AreWhole, MayOnly, committed_in}
use Rattle.recovery_runs.specs.Promises.{FilesAgree, RecoveriesGive, RecoveryPromisesHold, may_yet_commit}
use Rattle.recovery_runs.proofs.AnsweredLemmas.{is_answered}
use Rattle.recovery_runs.proofs.Awaited.{lawful}
use Rattle.recovery_runs.proofs.CommittedLemmas.{committed_only}
use Rattle.recovery_runs.proofs.RunLemmas.{next_files_hold, next_files_whole, next_last_images_hold, no_file_has_gaps}
use Rattle.recovery_runs.proofs.ShownLemmas.{shown_recoveries_hold}

-- those that are shown gave what they were to, where aborts stand
given : (nodes : List Node) (disks : List DiskCounts) (es : List Entry) (closing : World) → AreOpening nodes → Legal (opened nodes disks) es closing → AbortsStand (opened nodes disks) es → RecoveriesGive (opened nodes disks) es closing
given nodes disks es closing opens legal stand waits lawful whole before node file way count there lines =
    let on : Legal (opened nodes disks) (there.later ++ there.entry ∷ before) closing = subst (λ xs. Legal (opened nodes disks) xs closing) there.stands legal in
    let split = legal_parts (opened nodes disks) there.later (there.entry ∷ before) closing on in
    let only : MayOnly (committed_in closing) (opened nodes disks) ([] ++ (there.later ++ there.entry ∷ before)) closing = committed_only nodes disks (there.later ++ there.entry ∷ before) closing opens on (subst (AbortsStand (opened nodes disks)) there.stands stand) in
    let of : AreLawful (committed_in closing) waits (opened nodes disks) (there.later ++ there.entry ∷ before) = subst (AreLawful (committed_in closing) waits (opened nodes disks)) there.stands lawful in
    let gaps : AreWhole (opened nodes disks) (there.later ++ there.entry ∷ before) = subst (AreWhole (opened nodes disks)) there.stands whole in
    let shown = shown_recoveries_hold nodes disks [] there.later before there.entry split.0 closing (committed_in closing) waits node file way count opens of gaps only there.said lines split.1 split.2 in
    (shown.0, split.0, shown.1, shown.2, split.2, shown.3)

-- files that agree have no gaps
pub whole_of : (opening : World) (es : List Entry) → FilesAgree opening es → AreWhole opening es
whole_of opening es files node n left file f at = (files node n left file f at).1

pub recovery_promises_hold : AgreedPromisesAreKept → RecoveryPromisesHold
recovery_promises_hold promised nodes disks es closing opens legal = record {
  give = given nodes disks es closing opens legal;
  agree = λ apart known agrees files.
      let a = promised nodes disks es closing opens apart known agrees legal in
      given nodes disks es closing opens legal a.stand (may_yet_commit (opening_told nodes es))
      (lawful nodes disks es closing opens apart legal a files) (whole_of (opened nodes disks) es files);
  answered = λ before node file way there.
      let split = legal_parts (opened nodes disks) there.later (there.entry ∷ before) closing (subst (λ xs. Legal (opened nodes disks) xs closing) there.stands legal) in
      (split.1.0, split.0, split.1.1, split.1.2, is_answered split.1.0 split.0 node file way _ there.entry.lines there.said split.1.2);
  leaves = λ may waits next lawful only ends fewer. next_files_hold nodes disks es closing may waits next opens lawful only ends legal fewer;
  whole = λ may waits lawful whole only ends. next_files_whole nodes disks es closing may waits opens lawful whole only ends legal;
  lasts = λ may waits next lawful stands only fewer. next_last_images_hold nodes disks es closing may waits next opens lawful stands only legal fewer;
  gapless = λ gapless. no_file_has_gaps nodes disks es closing opens gapless legal;
}
