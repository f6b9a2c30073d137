-- A journal in which keys are locked to the settlement.
use Rattle.unit_laws.specs.vms_model.Ids.{Id}
use Rattle.unit_laws.specs.vms_model.Keys.{Key}
use Rattle.unit_laws.specs.records_model.History.{same_id}
use Rattle.unit_laws.specs.records_model.Records.{Change}
use Rattle.recovery_model.specs.Images.{touches}
use Rattle.recovery_model.specs.Journal.{Entry, Changed, Settled, is_settled, images_by, Locked}
use Rattle.std.proofs.Common.{◌≡◌, ℕ, List, [], ◌∷◌, Bool, true, false, Option, refl, ◌∙◌}
use Rattle.std.specs.Prelude.{if◌then◌else◌}
use Rattle.recovery_model.proofs.Images.{changes}
use Rattle.recovery_model.proofs.Covering.{Free, OnTop}
use Rattle.recovery_model.proofs.BranchLemmas.{turned}

settled_too : (b x : Bool) → (if b then true else x) ≡ false → x ≡ false
settled_too true x h = let no : ⊥ = cc in absurd no
settled_too false x h = h

off : (k : Key) (s : Id) (es : List Entry) (b : Bool) → touches k (images_by s es) ≡ b → (touches k (images_by s es) ≡ true → is_settled es s ≡ true) → is_settled es s ≡ false → b ≡ false
off k s es true e h u = let t : is_settled es s ≡ true = h e in let no : ⊥ = cc in absurd no
off k s es false e h u = refl

-- so an unsettled branch stands on top
pub on_top_from_locked : (es : List Entry) (s : Id) → Locked es → is_settled es s ≡ false → OnTop s es
on_top_from_locked [] s h u = tt
on_top_from_locked (Changed r k v ∷ es) s h u = (λ e. off k s es (touches k (images_by s es)) refl (h.0 s e) u, on_top_from_locked es s h.1 u)
on_top_from_locked (Settled r c t ∷ es) s h u = on_top_from_locked es s h (settled_too (same_id s r) (is_settled es s) u)

taken : (k : Key) (s : Id) (es : List Entry) (live : List Change) (b : Bool) → is_settled es s ≡ b → (is_settled es s ≡ false → touches k (images_by s es) ≡ changes k live) → changes k live ≡ false → touches k (images_by s es) ≡ true → b ≡ true
taken k s es live true e t f h = refl
taken k s es live false e t f h = let x : touches k (images_by s es) ≡ false = t e ∙ f in let no : ⊥ = cc in absurd no

-- and a change of a free key keeps it
pub locked_changed : (es : List Entry) (r : Id) (k : Key) (v : Option (List ℕ)) (live : Id → List Change) → ((s : Id) → is_settled es s ≡ false → touches k (images_by s es) ≡ changes k (live s)) → Free k r live → Locked es → Locked (Changed r k v ∷ es)
locked_changed es r k v live t free h = (λ s e x. taken k s es (live s) (is_settled es s) refl (t s) (free s (turned s r false e)) x, h)
