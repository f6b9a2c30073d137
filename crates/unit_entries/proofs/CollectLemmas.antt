-- Keys are collected entry by entry.
use Rattle.std.proofs.Common.{◌≡◌, ℕ, zero, suc, ◌+◌, ◌≤◌, ◌<◌, true, List, [], ◌∷◌, length, take, get_or, Option, Some, None, subst, refl, sym, ap, ◌∙◌, arith}
use Rattle.std.proofs.lemmas.Bool.Decides.{nat_tests}
use Rattle.file_base.specs.declared.head.FileHead.{FileHead}
use Rattle.file_base.specs.declared.head.Span.{Span}
use Rattle.vms_base.specs.vms_model.Keys.{Key}
use Rattle.journal_format.specs.Heads.{entry_of}
use Rattle.journal_format.specs.declared.head.EntryHead.{EntryHead}
use Rattle.journal_format.specs.journal_model.Entries.{Entry, IsEntry, is_key}
use Rattle.journal_format.specs.journal_model.Ring.{StandsAt}
use Rattle.journal_store.specs.Reading.{Stands}
use Rattle.unit_entries.specs.Collecting.{IsChangeAt, AreChangesAt}
use Rattle.unit_entries.specs.Keys.{KeyTold, keys_with, keys_onto, keys_told, key_told}

-- the change at a position, and the keys with it
one_more : (s : Span) (c : List (List ℕ)) (heads : List (Option FileHead)) (ps : List ℕ) (es : List Entry) (i p : ℕ) (ks : List KeyTold) → AreChangesAt s ps es c → i < length ps → p ≡ get_or ps i p
    → (e : Entry) × IsChangeAt s p e c × (keys_onto heads ks (take (suc i) ps) es ≡ keys_with p e (key_told heads e) (keys_onto heads ks (take i ps) es))
one_more s c heads [] es i p ks at lt is = absurd (omega (arith, lt))
one_more s c heads (q ∷ ps) [] i p ks at lt is = absurd at
one_more s c heads (q ∷ ps) (e ∷ es) zero p ks at lt is = (e, subst (λ (n : ℕ). IsChangeAt s n e c) (sym is) at.0, ap (λ (n : ℕ). keys_with n e (key_told heads e) ks) (sym is))
one_more s c heads (q ∷ ps) (e ∷ es) (suc i) p ks at lt is = one_more s c heads ps es i p (keys_with q e (key_told heads e) ks) at.1 (omega (arith, lt)) is

pub any_default : (ps : List ℕ) (i d f : ℕ) → i < length ps → get_or ps i d ≡ get_or ps i f
any_default [] i d f lt = absurd (omega (arith, lt))
any_default (p ∷ ps) zero d f lt = refl
any_default (p ∷ ps) (suc i) d f lt = any_default ps i d f (omega (arith, lt))

-- no key has anything of an image
without_image : (p : ℕ) (h : EntryHead) (image : List ℕ) (key : Option Key) (ks : List KeyTold) → keys_with p (entry_of h []) key ks ≡ keys_with p (entry_of h image) key ks
without_image p h image None ks = refl
without_image p h image (Some key) ks = refl

has_key : (kind size : ℕ) → kind ≡ 1 → is_key kind size ≡ true → 1 ≤ size
has_key kind size is key = grind (arith, nat_tests)

pub collected : (s : Span) (c : List (List ℕ)) (heads : List (Option FileHead)) (ps : List ℕ) (es : List Entry) (i p : ℕ) (h : EntryHead) (next : ℕ) (image : List ℕ) (old new : List KeyTold) → AreChangesAt s ps es c → i < length ps → p ≡ get_or ps i p
    → Stands s p h next image c → ((entry_of h []).kind ≡ 1 → 1 ≤ length (entry_of h []).key → new ≡ keys_with p (entry_of h []) (key_told heads (entry_of h [])) old) → old ≡ keys_told heads (take i ps) es → new ≡ keys_told heads (take (i + 1) ps) es
collected s c heads ps es i p h next image old new at lt is stands noted before =
    let m = one_more s c heads ps es i p [] at lt is in
    let e = m.0 in
    let same : entry_of h image ≡ e = stands.only e m.1.is m.1.stands in
    let kind : (entry_of h []).kind ≡ 1 = ap (λ (e : Entry). e.kind) same ∙ m.1.kind in
    let key : 1 ≤ length (entry_of h []).key = has_key (entry_of h image).kind (length (entry_of h image).key) kind stands.is.key in
    let count : suc i ≡ i + 1 = omega arith in
    noted kind key ∙ without_image p h image (key_told heads (entry_of h image)) old ∙ ap (λ (e : Entry). keys_with p e (key_told heads e) old) same ∙ ap (keys_with p e (key_told heads e)) before
    ∙ sym m.2 ∙ ap (λ (n : ℕ). keys_told heads (take n ps) es) count

pub none_collected : (s : Span) (c : List (List ℕ)) (ps : List ℕ) (es : List Entry) (i p : ℕ) → AreChangesAt s ps es c → i < length ps → p ≡ get_or ps i p → ((e : Entry) → IsEntry e → StandsAt s p e c → ⊥) → ⊥
none_collected s c ps es i p at lt is none = let m = one_more s c [] ps es i p [] at lt is in none m.0 m.1.is m.1.stands
