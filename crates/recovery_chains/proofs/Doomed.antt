-- No branch whose abort a fall found under way is left bound to commit.
use Rattle.std.proofs.Common.{◌≡◌, ℕ, Option, List, [], ◌∷◌, ◌++◌, append_assoc, inl, inr, true, Some, refl, sym, ◌∙◌, ap, subst}
use Rattle.vms_model.specs.Ids.{Id}
use Rattle.vms_model.specs.Transactions.{Abort, Reason}
use Rattle.commit_protocol.specs.Messages.{LogRecord}
use Rattle.commit_protocol.specs.Agreement.{Commits, view}
use Rattle.commit_protocol.specs.Table.{Key as BranchKey, child}
use Rattle.commit_protocol.specs.World.{In}
use Rattle.log_laws.specs.Slots.{prepared_of, records_in}
use Rattle.world_laws.specs.run_model.World.{DiskCounts, Node, World, find_node, opened}
use Rattle.world_laws.specs.run_model.Transcript.{AreOpening, Entry, Legal}
use Rattle.run_laws.specs.run_agreement.Following.{opening_of}
use Rattle.run_laws.specs.run_agreement.Laws.{IsRun}
use Rattle.run_laws.specs.run_agreement.Seen.{Resolution}
use Rattle.run_laws.proofs.AbortsStand.{Bare, Dead, Fate, IsDoomed, agreed_doomed, sure_in_use, told_agree}
use Rattle.run_laws.proofs.Anewed.{sure_of}
use Rattle.run_laws.proofs.Dying.{ends_dead, runs_used}
use Rattle.run_laws.proofs.Falling.{aborting}
use Rattle.run_laws.proofs.OneBranch.{one, one_keeps}
use Rattle.run_laws.proofs.Undecided.{Known, down, is_known, known_on, used}
use Rattle.recovery_runs.specs.run_chains.Chains.{MayAgree}
use Rattle.recovery_runs.proofs.Awaited.{landed_known}
use Rattle.recovery_chains.proofs.Bound.{IsBound, bound_commits, bound_known}

-- A branch whose abort a fall found under way, and that is left bound to commit.
module _ (base closing : World) (since : List Entry) (is_run : IsRun base since closing) (r : Resolution) (k : BranchKey) (d : IsDoomed k closing) (t : Id) (b : IsBound base r closing k.serial t) where
  -- its transaction is one of those of its records
  is_so : (K : Id → Type 0) → ((q : LogRecord) → In q (prepared_of (records_in d.node.durable.log)) → q.serial ≡ k.serial → K q.tid) → K t
  is_so K recorded = bound_known base r closing k.serial t b K
      (landed_known (one k.serial K K (λ s. K s.tid)) (one_keeps k.serial K K (λ s. K s.tid) (λ u h. h) (λ s e h. h)) tt (r k.serial.node) b.node (known.tracked b.node b.found))
    where
      known : Known k.serial K (λ s. K s.tid) (λ s e h. h) closing
      known = known_on k.serial K (λ s. K s.tid) (λ s e h. h) d.world closing d.after d.leads
          (is_known d.world d.sound k.serial.node d.node d.found k d.reason d.noted d.moment d.under K (λ s. K s.tid) (λ s e h. h) recorded)

  pub doomed_apart : ⊥
  doomed_apart = by d.fate
    where
      by : Fate d.world d.node k → ⊥
      by (Bare none) = is_so (λ u. ⊥) none
      by (Dead records first before leads dead) =
          let same : t ≡ k.tid = is_so (λ u. u ≡ k.tid) records in
          let runs = (runs_used d.world closing d.after d.leads (used d.world d.sound k.serial.node d.node d.found k d.reason d.noted d.moment d.under)).0 in
          let e = ends_dead first d.world before leads k.serial.node d.node d.found k refl d.reason d.noted d.moment d.under (down d.world d.sound k.serial.node d.node d.found k d.reason d.noted d.moment d.under) dead d.after closing runs r in
          let c = bound_commits base closing since is_run r (opening_of first) leads.agrees e.0 e.1 e.2 k.serial t b in
          elim e.3 [
            | inl aborted ↦ c.1 (subst (λ (u : Id). In (child u k.serial, Abort) e.0.settled) (sym same) aborted)
            | inr gone ↦ gone.commits (subst (λ (u : Id). Commits (view e.0) u) same c.0)
          ]

-- A transcript from images that agree.
module _ (nodes : List Node) (disks : List DiskCounts) (es : List Entry) (closing : World) (may : MayAgree nodes es) (legal : Legal (opened nodes disks) es closing)
    (later after before : List Entry) (w : World) (split : es ≡ later ++ (after ++ before)) (first : Legal (opened nodes disks) before w) (on : Legal w after closing) where
  pub is_doomed : (n : Node) (k : BranchKey) (reason : Reason) (r : Option LogRecord) (moment : ℕ) → find_node k.serial.node w.nodes ≡ Some n → n.under_way ≡ Some (aborting k reason r moment) → IsDoomed k closing
  is_doomed n k reason r moment found under =
      let sure = sure_of es nodes may.disks in
      agreed_doomed nodes disks es may.opening may.names (sure_in_use nodes disks es closing may.opening sure legal) (told_agree nodes disks es closing may.opening may.names sure legal may.agree) later after before w closing n k reason r moment split first on found under
