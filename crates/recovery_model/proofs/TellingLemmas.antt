-- Each step keeps what journals tell of unsettled branches in the words of an opening.
use Rattle.std.proofs.Common.{◌≡◌, ℕ, List, [], ◌∷◌, Bool, true, false, Option, refl, sym, ◌∙◌, ap}
use Rattle.unit_laws.specs.vms_model.Ids.{Id}
use Rattle.unit_laws.specs.vms_model.Transactions.{Outcome}
use Rattle.unit_laws.specs.records_model.Records.{Change}
use Rattle.unit_laws.specs.records_model.History.{LiveChanges, same_id, with_change, without}
use Rattle.unit_laws.proofs.LiveLemmas.{id_is}
use Rattle.recovery_model.specs.Images.{afters, befores, keys_of}
use Rattle.recovery_model.specs.Journal.{Entry, Changed, Settled, is_settled, images_by, Locked}
use Rattle.recovery_model.specs.Opening.{TellsKeys}
use Rattle.recovery_model.proofs.Covering.{unsettled, Free}
use Rattle.recovery_model.proofs.BranchLemmas.{live_same, live_other, gone_other}
use Rattle.recovery_model.proofs.TieLemmas.{of_same, of_other, not_this}
use Rattle.recovery_model.proofs.LockedLemmas.{locked_changed}
use Rattle.recovery_model.proofs.OpeningLemmas.{same_touches}

-- of entries since a save: before a change of a key others that changed it are settled, and the keys of each unsettled branch are told in order
pub record ToldKeys (live : List LiveChanges) (es : List Entry) : Type 0 where
  pub locked : Locked es
  pub same : TellsKeys live es

pub befores_one : (es : List Entry) (bs : List LiveChanges) (s : Id) (c : Change) (r : Id) (b : Bool) → same_id r s ≡ b → images_by r es ≡ befores (unsettled bs r) → images_by r (Changed s c.key c.before ∷ es) ≡ befores (unsettled (with_change s c bs) r)
befores_one es bs s c r true e h =
    of_same s r c.key c.before es e ∙ ap (λ x. (c.key, c.before) ∷ x) (h ∙ ap (λ x. befores (unsettled bs x)) (id_is r s e)) ∙ ap befores (sym (live_same s r c bs e))
befores_one es bs s c r false e h = of_other s r c.key c.before es e ∙ h ∙ ap befores (sym (live_other s r c bs e))

pub keys_one : (es : List Entry) (bs : List LiveChanges) (s : Id) (c : Change) (v : Option (List ℕ)) (r : Id) (b : Bool) → same_id r s ≡ b → keys_of (images_by r es) ≡ keys_of (afters (unsettled bs r)) →
    keys_of (images_by r (Changed s c.key v ∷ es)) ≡ keys_of (afters (unsettled (with_change s c bs) r))
keys_one es bs s c v r true e h =
    ap keys_of (of_same s r c.key v es e) ∙ ap (λ x. c.key ∷ x) (h ∙ ap (λ x. keys_of (afters (unsettled bs x))) (id_is r s e)) ∙ ap (λ x. keys_of (afters x)) (sym (live_same s r c bs e))
keys_one es bs s c v r false e h = ap keys_of (of_other s r c.key v es e) ∙ h ∙ ap (λ x. keys_of (afters x)) (sym (live_other s r c bs e))

pub keys_changed_too : (es : List Entry) (bs : List LiveChanges) (s : Id) (c : Change) → Free c.key s (unsettled bs) → ToldKeys bs es → ToldKeys (with_change s c bs) (Changed s c.key c.after ∷ es)
keys_changed_too es bs s c free t = record {
  locked = locked_changed es s c.key c.after (unsettled bs) (λ r u. same_touches (images_by r es) (afters (unsettled bs r)) c.key (t.same r u)) free t.locked;
  same = λ r u. keys_one es bs s c c.after r (same_id r s) refl (t.same r u);
}

pub keys_settled : (t : ℕ) (es : List Entry) (bs : List LiveChanges) (s : Id) (outcome : Outcome) → ToldKeys bs es → ToldKeys (without s bs) (Settled s outcome t ∷ es)
keys_settled t es bs s outcome w = record {
  locked = w.locked;
  same = λ r u. let x = not_this s r (same_id r s) (is_settled es r) refl u in w.same r x.1 ∙ ap (λ y. keys_of (afters y)) (sym (gone_other s r bs x.0));
}

-- a new span, or a save, where no unsettled branch changed the file
pub keys_none : (bs : List LiveChanges) → ((s : Id) → unsettled bs s ≡ []) → ToldKeys bs []
keys_none bs n = record { locked = tt; same = λ s u. ap (λ x. keys_of (afters x)) (sym (n s)) }
