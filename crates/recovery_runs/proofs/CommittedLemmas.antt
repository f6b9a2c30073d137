-- A run commits no branch of which a fall cut the abort short, where aborts stand.
use Rattle.std.proofs.Common.{◌≡◌, true, ◌&&◌, Some, refl, sym, ◌∙◌, ap, subst, inl}
use Rattle.std.proofs.lemmas.Bool.{and_from, and_parts, false_from_ne_true}
use Rattle.vms_model.specs.Transactions.{Outcome, Abort, Commit}
use Rattle.records_model.specs.History.{same_id}
use Rattle.recovery_model.specs.Journal.{is_commit}
use Rattle.transcript_model.specs.commit_protocol.Table.{Settles}
use Rattle.recovery_laws.specs.run_model.World.{Settlement, Tables, find_node, opened, settlement}
use Rattle.recovery_laws.proofs.run_model.NodeLists.{found_name}
use Rattle.recovery_laws.proofs.world_laws.IdLemmas.{id_is, id_itself}
use Rattle.run_laws.specs.Promises.{settlements_of}
use Rattle.run_laws.proofs.Deciding.{any_in, in_any}
use Rattle.run_laws.proofs.SoundWorlds.{legal_sound, opening_sound}
use Rattle.recovery_runs.specs.Runs.{CommittedOnly}

pub is_committed : (o : Outcome) → is_commit o ≡ true → o ≡ Commit
is_committed Commit e = refl
is_committed Abort e = let none : ⊥ = cc in absurd none

both_outcomes : (o : Outcome) → o ≡ Commit → o ≡ Abort → ⊥
both_outcomes o e f = let none : ⊥ = cc in none

pub committed_only : CommittedOnly
committed_only nodes disks es closing opens legal stand = record {
  commits = λ s i e. in_any (λ (t : Settlement). same_id s.serial t.serial && is_commit t.outcome) s (settlements_of s.serial.node closing) i (and_from _ _ (id_itself s.serial) (ap is_commit e));
  aborts = λ later after before w node n k reason r moment split first on found under. false_from_ne_true _ (λ t.
      let c = any_in (λ (x : Settlement). same_id k.serial x.serial && is_commit x.outcome) (settlements_of k.serial.node closing) t in
      let parts = and_parts (same_id k.serial c.0.serial) (is_commit c.0.outcome) c.2 in
      let own = (((legal_sound (opened nodes disks) w before (opening_sound nodes disks opens) first).once node n found).way (Tables (Settles k Abort reason r) moment) under).own (settlement k Abort reason moment) (inl refl) in
      let home = own.0 ∙ found_name node w.nodes n found in
      both_outcomes c.0.outcome (is_committed c.0.outcome parts.1)
      (stand later after before w closing n k reason r moment split first on (subst (λ x. find_node x w.nodes ≡ Some n) (sym home) found) under c.0 c.1 (sym (id_is k.serial c.0.serial parts.0))));
}
