-- All that is proved of the promises, gathered.
use Rattle.std.proofs.Common.{inl, inr}
use Rattle.run_agreement.specs.Laws.{CommittedAreOfCommitted, LeaveAgreement, RestingAreWhole, SettleAlike, SettlingEnds, SettlingLeavesNone}
use Rattle.run_laws.specs.Laws.{AgreedPromisesAreKept, PromisesAreKept}
use Rattle.run_laws.proofs.AgreedRuns.{agreed_run, ended_for_all, ends_for_all, run_of, settles_whole}
use Rattle.run_laws.proofs.Anewed.{fits_of, sure_of}
use Rattle.run_laws.proofs.AbortsAsked.{caused_hold}
use Rattle.run_laws.proofs.AbortsStand.{sure_aborts_stand, sure_in_use, told_agree, up_once_made}
use Rattle.run_laws.proofs.AllShown.{shown_hold}
use Rattle.run_laws.proofs.AskedHold.{asked_hold}
use Rattle.run_laws.proofs.BootLines.{boots_show_last}
use Rattle.run_laws.proofs.RecordedRuns.{booted_hold}
use Rattle.run_laws.proofs.CauseRuns.{aborted_hold, commits_hold}
use Rattle.run_laws.proofs.DumpsShown.{dumps_hold_where}
use Rattle.run_laws.proofs.DownsHeld.{downs_end, downs_have_causes, failures_show_down}
use Rattle.run_laws.proofs.EndedComes.{ended_comes_hold}
use Rattle.run_laws.proofs.EndedHold.{ended_hold}
use Rattle.run_laws.proofs.Ending.{aborts_hold, ends_hold, fails_hold}
use Rattle.run_laws.proofs.FallsRuns.{falls_begun}
use Rattle.run_laws.proofs.Interrupted.{interrupted_hold}
use Rattle.run_laws.proofs.LastBoots.{lasts_hold}
use Rattle.run_laws.proofs.LastFalls.{last_falls_begun}
use Rattle.run_laws.proofs.LastFirst.{lasts_first}
use Rattle.run_laws.proofs.Missing.{missing_hold, pending_hold, waits_hold}
use Rattle.run_laws.proofs.NewIds.{directs_hold, ids_are_new}
use Rattle.run_laws.proofs.OthersPrepared.{others_hold}
use Rattle.run_laws.proofs.PreparedCaused.{leaves_caused_hold, votes_caused_hold}
use Rattle.run_laws.proofs.PreparedRuns.{prepared_hold}
use Rattle.run_laws.proofs.ReadOnlyRuns.{read_only_hold}
use Rattle.run_laws.proofs.RestartsDecide.{restarts_hold}
use Rattle.run_laws.proofs.ShowingLines.{aborts_show, directs_show, ends_show}
use Rattle.run_laws.proofs.SoundWorlds.{settles_once}

pub kept_promises : PromisesAreKept
kept_promises nodes disks es closing opening legal = record {
  ends = ends_hold nodes disks es closing opening legal;
  fails = fails_hold nodes disks es closing opening legal;
  missing = missing_hold nodes disks es closing opening legal;
  waits = waits_hold nodes disks es closing opening legal;
  pending = pending_hold nodes disks es closing opening legal;
  ended = ended_hold nodes disks es closing opening legal;
  ended_comes = ended_comes_hold nodes disks es closing opening legal;
  aborts = aborts_hold nodes disks es closing opening legal;
  directs = directs_hold nodes disks es closing opening legal;
  end_shows = ends_show nodes disks es closing opening legal;
  abort_shows = aborts_show nodes disks es closing opening legal;
  direct_shows = directs_show nodes disks es closing opening legal;
  new = ids_are_new nodes disks es closing opening legal;
  commits = commits_hold nodes disks es closing opening legal;
  undoes = aborted_hold nodes disks es closing opening legal;
  falls = falls_begun nodes disks es closing opening legal;
  last_falls = last_falls_begun nodes disks es closing opening legal;
  interrupted = interrupted_hold nodes disks es closing opening legal;
  restarts = restarts_hold nodes disks es closing opening legal;
  shown = shown_hold nodes disks es closing opening legal;
  lasts = lasts_hold nodes disks es closing opening legal;
  lasts_first = lasts_first nodes disks es closing opening legal;
  show_last = boots_show_last nodes disks es closing opening legal;
  asked = asked_hold nodes disks es closing opening legal;
  caused = caused_hold nodes disks es closing opening legal;
  downs = downs_have_causes nodes disks es closing opening legal;
  broken = failures_show_down nodes disks es closing opening legal;
  ending = downs_end nodes disks es closing opening legal;
  prepared = prepared_hold nodes disks es closing opening legal;
  booted = booted_hold nodes disks es closing opening legal;
  others = others_hold nodes disks es closing opening legal;
  votes = votes_caused_hold nodes disks es closing opening legal;
  leaves = leaves_caused_hold nodes disks es closing opening legal;
  read_only = read_only_hold nodes disks es closing opening legal;
  once = settles_once nodes disks es closing opening legal;
}

module _ (alike : SettleAlike) (committed : CommittedAreOfCommitted) (leave : LeaveAgreement) (whole : RestingAreWhole) (none : SettlingLeavesNone) (ends : SettlingEnds) where
  pub agreed_promises : AgreedPromisesAreKept
  agreed_promises nodes disks es closing opening apart h agrees legal =
      let sure = sure_of es nodes h in
      let in_time = sure_in_use nodes disks es closing opening sure legal in
      let agree = told_agree nodes disks es closing opening apart sure legal agrees in
      let b = run_of nodes disks es closing opening apart sure legal agrees in
      let kept = kept_promises nodes disks es closing opening legal in
      let stand = sure_aborts_stand nodes disks es opening apart in_time agree in
      record {
        kept = kept;
        base = b.base;
        before = b.before;
        since = b.since;
        parts = b.parts;
        begins = b.begins;
        unused = b.unused;
        told = b.told;
        run = agreed_run alike committed leave whole b.base b.since closing b.is_run;
        ends = ends_for_all b.base es closing kept.ends;
        ended = ended_for_all b.base es closing kept.ended;
        settles = settles_whole whole none ends nodes disks es closing opening apart sure legal agrees b.base b.told;
        dumps = dumps_hold_where nodes disks es closing opening (λ name n found. elim (fits_of es nodes h name n found) [
          | inl last ↦ inl last
          | inr how ↦ inr (up_once_made nodes disks es closing opening apart sure agrees legal name n found how)
        ]) legal stand;
        stand = stand;
      }
