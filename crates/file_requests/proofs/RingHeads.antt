-- The rings of a volume's files where the head of one is another: their ends, and their room for settlements.
use Rattle.std.proofs.Common.{◌≡◌, ◌≢◌, ⊎_elim, ℕ, zero, suc, ◌+◌, ◌-◌, ◌*◌, ◌<◌, ◌≤◌, List, [], ◌∷◌, Bool, true, false, Option, Some, None, length, slice_set, if◌then◌else◌, refl, sym, ap, subst, ◌∙◌, arith}
use Rattle.std.specs.Prelude.{map, max}
use Rattle.std.proofs.Math.Nat.{le-max_left, le-max_right, max-le}
use Rattle.std.proofs.lemmas.Bool.{cases_eq}
use Rattle.file_base.specs.declared.head.FileHead.{FileHead}
use Rattle.file_base.specs.declared.head.Span.{Span}
use Rattle.vms_model.specs.Ids.{Id}
use Rattle.journal_format.specs.journal_model.Ring.{ring_size}
use Rattle.unit_table.specs.Units.{OpenUnit, changers, first_to_change, has_changed}
use Rattle.recovery_units.specs.image_appends.declared.side.Side.{Side as Ring}
use Rattle.recovery_units.specs.image_appends.declared.side.Side.TheVariants.{After, Before}
use Rattle.recovery_units.specs.image_appends.Images.{is_kept, span_of}
use Rattle.recovery_units.specs.image_room.Room.{AllSettlementsFit, SettlementsFit, images_end}
use Rattle.directory_model.specs.Files.{head_at}
use Rattle.node_files.proofs.CatalogLemmas.{head_below, head_other, head_set}

-- no unit changed the file
pub no_changer : (file : ℕ) (us : List OpenUnit) → first_to_change file us ≡ None → changers file (map Some us) ≡ 0
no_changer file [] none = refl
no_changer file (u ∷ us) none = by (has_changed u file) none (no_changer file us)
  where
    by : (b : Bool) → (if b then Some u.serial else first_to_change file us) ≡ None → (first_to_change file us ≡ None → changers file (map Some us) ≡ 0) → (if b then 1 else 0) + changers file (map Some us) ≡ 0
    by true e rest = let no_way : ⊥ = cc in absurd no_way
    by false e rest = let r = rest e in omega (arith, r)

-- a ring of a file that no unit changed has room for the settlements where its entries do not take more than it has
pub unchanged_fits : (side : Ring) (h : FileHead) (file : ℕ) (us : List OpenUnit) → first_to_change file us ≡ None → (is_kept side h ≡ true → (span_of side h).end - (span_of side h).first ≤ ring_size (span_of side h)) → SettlementsFit side h file (map Some us)
unchanged_fits side h file us none fits = λ kept. let zero_changers = no_changer file us none in let within = fits kept in omega (arith, zero_changers, within)

-- and it has no more where it had room
pub fits_within : (side : Ring) (h : FileHead) (file : ℕ) (us : List (Option OpenUnit)) → SettlementsFit side h file us → is_kept side h ≡ true → (span_of side h).end - (span_of side h).first ≤ ring_size (span_of side h)
fits_within side h file us f kept = let within = f kept in omega (arith, within)

-- all rings have room where those of one file have
pub all_fit_set : (heads : List (Option FileHead)) (file : ℕ) (h new : FileHead) (us : List (Option OpenUnit)) → length heads ≡ 64 → head_at heads file ≡ Some h → AllSettlementsFit us heads → SettlementsFit After new file us × SettlementsFit Before new file us → AllSettlementsFit us (slice_set heads file (Some new))
all_fit_set heads file h new us long there all fits = λ g k at.
    ⊎_elim
    (λ same. subst (λ x. SettlementsFit After x g us × SettlementsFit Before x g us) (one new k (sym (head_set heads file new long (head_below heads file h long there)) ∙ ap (head_at (slice_set heads file (Some new))) (sym same) ∙ at))
    (subst (λ x. SettlementsFit After new x us × SettlementsFit Before new x us) (sym same) fits))
    (λ apart. all g k (sym (head_other heads file g new apart) ∙ at))
    (cases_eq g file)
  where
    one : (x y : FileHead) → ◌≡◌ {A = Option FileHead} (Some x) (Some y) → x ≡ y
    one x y e = cc

-- so where a file without rings is new
pub all_fit_new : (heads : List (Option FileHead)) (file : ℕ) (new : FileHead) (us : List (Option OpenUnit)) → length heads ≡ 64 → file < 64 → AllSettlementsFit us heads → new.marks.ai ≡ false → new.marks.bi ≡ false → AllSettlementsFit us (slice_set heads file (Some new))
all_fit_new heads file new us long below all no_after no_before = λ g k at.
    ⊎_elim
    (λ same. subst (λ x. SettlementsFit After x g us × SettlementsFit Before x g us) (one new k (sym (head_set heads file new long below) ∙ ap (head_at (slice_set heads file (Some new))) (sym same) ∙ at))
    (λ kept. unkept (sym no_after ∙ kept), λ kept. unkept (sym no_before ∙ kept)))
    (λ apart. all g k (sym (head_other heads file g new apart) ∙ at))
    (cases_eq g file)
  where
    one : (x y : FileHead) → ◌≡◌ {A = Option FileHead} (Some x) (Some y) → x ≡ y
    one x y e = cc

    unkept : {P : Type 0} → ◌≡◌ {A = Bool} false true → P
    unkept e = let none : ⊥ = cc in absurd none

-- The ends of all rings.

max_least : (a b m : ℕ) → a ≤ m → b ≤ m → max a b ≤ m
max_least a b m p q = max-le p q

left_of_max : (a b m : ℕ) → max a b ≤ m → a ≤ m
left_of_max a b m p = let left = le-max_left a b in omega (arith, p, left)

right_of_max : (a b m : ℕ) → max a b ≤ m → b ≤ m
right_of_max a b m p = let right = le-max_right a b in omega (arith, p, right)

pub end_at : (heads : List (Option FileHead)) (file : ℕ) (h : FileHead) → head_at heads file ≡ Some h → (h.ai.end ≤ images_end heads) × (h.bi.end ≤ images_end heads)
end_at [] file h there = let no_way : ⊥ = cc in absurd no_way
end_at (None ∷ heads) zero h there = let no_way : ⊥ = cc in absurd no_way
end_at (None ∷ heads) (suc file) h there = end_at heads file h there
end_at (Some k ∷ heads) zero h there =
    let same : k ≡ h = cc in
    let most = max (max k.ai.end k.bi.end) (images_end heads) in
    subst (λ (x : FileHead). (x.ai.end ≤ most) × (x.bi.end ≤ most)) same (below k.ai.end (le-max_left k.ai.end k.bi.end), below k.bi.end (le-max_right k.ai.end k.bi.end))
  where
    below : (x : ℕ) → x ≤ max k.ai.end k.bi.end → x ≤ max (max k.ai.end k.bi.end) (images_end heads)
    below x le = let left = le-max_left (max k.ai.end k.bi.end) (images_end heads) in omega (arith, le, left)
end_at (Some k ∷ heads) (suc file) h there =
    let rest = end_at heads file h there in
    let right = le-max_right (max k.ai.end k.bi.end) (images_end heads) in
    (let a = rest.0 in omega (arith, a, right), let b = rest.1 in omega (arith, b, right))

pub end_set : (heads : List (Option FileHead)) (file : ℕ) (new : FileHead) (m : ℕ) → images_end heads ≤ m → new.ai.end ≤ m → new.bi.end ≤ m → images_end (slice_set heads file (Some new)) ≤ m
end_set [] file new m all a b = all
end_set (None ∷ heads) zero new m all a b = max_least (max new.ai.end new.bi.end) (images_end heads) m (max_least new.ai.end new.bi.end m a b) all
end_set (Some k ∷ heads) zero new m all a b = max_least (max new.ai.end new.bi.end) (images_end heads) m (max_least new.ai.end new.bi.end m a b) (right_of_max (max k.ai.end k.bi.end) (images_end heads) m all)
end_set (None ∷ heads) (suc file) new m all a b = end_set heads file new m all a b
end_set (Some k ∷ heads) (suc file) new m all a b =
    max_least (max k.ai.end k.bi.end) (images_end (slice_set heads file (Some new))) m (left_of_max (max k.ai.end k.bi.end) (images_end heads) m all) (end_set heads file new m (right_of_max (max k.ai.end k.bi.end) (images_end heads) m all) a b)
