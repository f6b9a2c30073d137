-- Committed records that wait for a manager, by the first of them.
use Rattle.std.proofs.Common.{◌≡◌, ◌≤◌, ◌∷◌, ◌∙◌, List, Bool, true, false, if◌then◌else◌, ap, sym, length, get_or, map}
use Rattle.std.specs.List.{list_any}
use Rattle.commit_protocol.specs.Messages.{Name, same_name}
use Rattle.log_laws.specs.Slots.{waiting_for}
use Rattle.reference_index.specs.run_model.Answers.{owed_line}
use Rattle.tm_types.specs.Parts.{log_record_of}
use Rattle.vms_base.specs.declared.protocol.LogRec.{LogRec}
use Rattle.reference_index.proofs.ListLemmas.{behind_first, parts}

module _ (rm : Name) (rs : List LogRec) (r : LogRec) (some : 1 ≤ length rs) (is : r ≡ get_or rs 0 r) where
  by_first : (t : Bool) → list_any (λ x. same_name x rm) (log_record_of r).rms ≡ t →
      (let more = waiting_for rm (map log_record_of (behind_first rs)) in map (owed_line rm) (if t then log_record_of r ∷ more else more)) ≡ map (owed_line rm) (waiting_for rm (map log_record_of rs))
  by_first t waits =
      let more = waiting_for rm (map log_record_of (behind_first rs)) in
      sym (ap (λ (b : Bool). map (owed_line rm) (if b then log_record_of r ∷ more else more)) waits) ∙ ap (λ (xs : List LogRec). map (owed_line rm) (waiting_for rm (map log_record_of xs))) (sym (parts rs r some is))

  pub owed_first : list_any (λ x. same_name x rm) (log_record_of r).rms ≡ true →
      owed_line rm (log_record_of r) ∷ map (owed_line rm) (waiting_for rm (map log_record_of (behind_first rs))) ≡ map (owed_line rm) (waiting_for rm (map log_record_of rs))
  owed_first waits = by_first true waits

  pub owed_later : list_any (λ x. same_name x rm) (log_record_of r).rms ≡ false → map (owed_line rm) (waiting_for rm (map log_record_of (behind_first rs))) ≡ map (owed_line rm) (waiting_for rm (map log_record_of rs))
  owed_later waits = by_first false waits
