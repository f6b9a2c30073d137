-- What an operation changes in a sequential file that nothing refuses leaves no gap, and moves the end only where no other branch did.
use Rattle.std.proofs.Common.{◌≡◌, ℕ, ◌+◌, ◌-◌, List, [], ◌∷◌, true, false, Option, Some, None, drop, map, take, take-append-drop, refl, sym, ap, subst, inl}
use Rattle.vms_model.specs.Ids.{Id}
use Rattle.vms_model.specs.Keys.{End, Key, Number}
use Rattle.world_laws.specs.script_model.Statements.{Operation, Put, Update, Delete, Truncate, Get, Next}
use Rattle.unit_laws.specs.records_model.Records.{Change, applied}
use Rattle.unit_laws.specs.records_model.History.{current}
use Rattle.unit_laws.specs.Units.{end_is_free, moves_end}
use Rattle.unit_laws.proofs.LiveLemmas.{clash}
use Rattle.world_laws.specs.commit_protocol.World.{In}
use Rattle.world_laws.specs.run_model.World.{File, Indexed, Node, Organization, Relative, Sequential, find_file}
use Rattle.world_laws.specs.run_model.Operations.{changes_of, count_of, data_refused, delete_refused, form_refused, in_order, key_put, key_refused, keys_asked, place_refused, put_keys, record_in, removed, set_in, size_refused, update_refused}
use Rattle.world_laws.specs.run_model.Answers.{keys_refused}
use Rattle.world_laws.specs.Nodes.{IsUp}
use Rattle.world_laws.proofs.AnswerLemmas.{neither}
use Rattle.world_laws.proofs.FoundLemmas.{changes_found}
use Rattle.world_laws.proofs.HeldLemmas.{IsFreeFor, free_for, noted_at}
use Rattle.world_laws.proofs.RunningLemmas.{end_is_free_for}
use Rattle.world_laws.proofs.UndoLemmas.{each_in}
use Rattle.recovery_laws.specs.Gaps.{LeavesNoGap}
use Rattle.recovery_laws.specs.Loading.{HasNoGap}
use Rattle.recovery_laws.proofs.GapLemmas.{stay_present}
use Rattle.recovery_laws.proofs.PositionLemmas.{cut_behind, put_behind, same_positions}

-- It leaves the end where it is, or asks for it: to put a record behind the last one, or to remove the last ones.
data Kind (f : File) (op : Operation) : Type 0 where
  Stays : moves_end (changes_of f op) ≡ false → Kind f op
  Appends : (bytes : List ℕ) → In End (keys_asked f op) → changes_of f op ≡ set_in f (Number (count_of f + 1)) (Some bytes) ∷ [] → Kind f op
  Cuts : (kept : ℕ) → In End (keys_asked f op) → changes_of f op ≡ map removed (drop kept (in_order f)) → Kind f op

update_keeps : (o : Organization) (key : Key) (before : Option (List ℕ)) (bytes : List ℕ) → update_refused o key before bytes ≡ None → let c : Change = record { key = key; before = before; after = Some bytes } in moves_end (c ∷ []) ≡ false
update_keeps o key None bytes passed = let no : ⊥ = cc in absurd no
update_keeps o key (Some old) bytes passed = refl

kind_of : (f : File) (op : Operation) → f.organization ≡ Sequential → form_refused f op ≡ None → data_refused f op ≡ None → Kind f op
kind_of f (Put (Some number) bytes) is form passed =
    let clash : place_refused Sequential (Some number) ≡ None = subst (λ o. place_refused o (Some number) ≡ None) is (neither (place_refused f.organization (Some number)) (size_refused f bytes) form).0 in
    let no : ⊥ = cc in absurd no
kind_of f (Put None bytes) is form passed =
    Appends bytes (subst (λ o. In End (put_keys o (count_of f) None bytes)) (sym is) (inl refl)) (ap (λ o. set_in f (key_put o (count_of f) None bytes) (Some bytes) ∷ []) is)
kind_of f (Update key bytes) is form passed = Stays (update_keeps f.organization key (record_in f key) bytes passed)
kind_of f (Delete key) is form passed =
    let clash : delete_refused Sequential ≡ None = subst (λ o. delete_refused o ≡ None) is (neither (key_refused f.organization key) (delete_refused f.organization) form).1 in
    let no : ⊥ = cc in absurd no
kind_of f (Truncate number) is form passed = Cuts (number - 1) (inl refl) refl
kind_of f (Get key) is form passed = Stays refl
kind_of f (Next after) is form passed = Stays refl

module _ (f : File) (op : Operation) (form : form_refused f op ≡ None) (passed : data_refused f op ≡ None) where
  leaves_none : HasNoGap Sequential (current f.history) → Kind f op → HasNoGap Sequential (applied (changes_of f op) (current f.history))
  leaves_none gaps (Stays still) = same_positions Sequential (current f.history) (applied (changes_of f op) (current f.history)) (stay_present (changes_of f op) (current f.history) (changes_found f op) still) gaps
  leaves_none gaps (Appends bytes asked is) = subst (λ cs. HasNoGap Sequential (applied cs (current f.history))) (sym is) (put_behind (current f.history) bytes gaps)
  leaves_none gaps (Cuts kept asked is) = subst (λ cs. HasNoGap Sequential (applied cs (current f.history))) (sym is)
      (cut_behind (current f.history) (take kept (in_order f)) (drop kept (in_order f)) (sym (take-append-drop kept (in_order f))) gaps)

  stands : (o : Organization) → f.organization ≡ o → HasNoGap o (current f.history) → HasNoGap o (applied (changes_of f op) (current f.history))
  stands Sequential is gaps = leaves_none gaps (kind_of f op is form passed)
  stands (Relative greatest) is gaps = tt
  stands (Indexed position size) is gaps = tt

  module _ (n : Node) (up : IsUp n) (serial : Id) (file : List ℕ) (found : find_file file n.durable.directory ≡ Some f) (free : keys_refused n (Some serial) file (keys_asked f op) ≡ None) where
    asked_free : f.organization ≡ Sequential → In End (keys_asked f op) → end_is_free serial f.history.live ≡ true
    asked_free is asked =
        end_is_free_for n.volatile.locks file serial f (noted_at n.durable.units file n.durable.directory f up.filed.can found).differ is (up.holding.files file f found).end
        (each_in (IsFreeFor n.volatile.locks file serial) (keys_asked f op) (free_for n serial file (keys_asked f op) free) End asked)

    end : f.organization ≡ Sequential → moves_end (changes_of f op) ≡ true → Kind f op → end_is_free serial f.history.live ≡ true
    end is moved (Stays still) = clash (moves_end (changes_of f op)) moved still
    end is moved (Appends bytes asked e) = asked_free is asked
    end is moved (Cuts kept asked e) = asked_free is asked

    pub leaves_no_gap : LeavesNoGap serial (changes_of f op) f
    leaves_no_gap = record { stands = stands f.organization refl; end = λ is moved. end is moved (kind_of f op is form passed) }
