use Rattle.std.proofs.Common.{◌≡◌, ℕ, ◌<◌, ◌≤◌, Option, Some, None, refl, sym, ◌∙◌, subst, arith}
use Rattle.volume.specs.State.{VolumeState}
use Rattle.volume_files.proofs.Places.{placed}
use Rattle.unit_undo.specs.Undoing.{ChangesFile, CutsFrom}
use Rattle.unit_undo.specs.FileWays.{CutsOff, FindsOff, cut, stays}
use Rattle.unit_undo.proofs.ReadLemmas.{changes_from, few_to, may_to}
use Rattle.unit_undo.proofs.StagedLemmas.{on_both}
use Rattle.unit_undo.proofs.undoing.cut_off.Goals as goal

some_number : (a b : ℕ) → Some a ≡ Some b → a ≡ b
some_number a b e = cc

-- another number than the one that was found is none
only_found : (found : Option ℕ) (from count : ℕ) → found ≡ Some from → (1 ≤ from → count < from) → (n : ℕ) → found ≡ Some n → 1 ≤ n → count < n
only_found found from count is far n other = let same : n ≡ from = some_number n from (sym other ∙ is) in λ one. let past = far (omega (arith, one, same)) in omega (arith, past, same)

pub first_off-requires-clause-placed : goal.first_off-requires-clause-placed
first_off-requires-clause-placed g c =
    let may = c.requires.may in
    let v = c.args.volume.now in
    placed may.node v.catalog c.args.file c.args.head.now v.store.disk may.whole may.sound may.most may.there

pub returns-in-Some-clause-cuts : goal.returns-in-Some-clause-cuts
returns-in-Some-clause-cuts g c =
    let v = c.args.volume.now in
    let h = c.args.head.now in
    let w = c.cut_from.new.volume in
    let new = c.cut_from.new.head in
    let from = c.in-Some.from in
    let finds = subst (FindsOff c.args.file h c.args.keys.now v) c.in-Some.is c.in_ok-from.ensures.finds in
    on_both (ChangesFile c.args.file h c.first_off.new.volume w new) (CutsFrom h from c.first_off.new.volume w new) (CutsOff c.args.file h c.args.keys.now v w new) c.cut_from.result
    (λ changes cuts.
    let same = c.in_ok-from.ensures.same in
    cut from finds (changes_from v c.first_off.new.volume same c.args.file h new w changes) (subst (λ (x : VolumeState). CutsFrom h from x w new) same cuts)) c.cut_from.ensures.changes c.cut_from.ensures.cuts

pub returns-in_default-clause-cuts : goal.returns-in_default-clause-cuts
returns-in_default-clause-cuts g c =
    let past = c.if-from-head.false in
    stays c.in_ok-from.field-0 c.in_ok-from.ensures.finds (only_found c.in_ok-from.field-0 c.in-Some.from c.args.head.now.count c.in-Some.is (λ one. past)) c.in_ok-from.ensures.same refl

pub returns-in_default-2-clause-cuts : goal.returns-in_default-2-clause-cuts
returns-in_default-2-clause-cuts g c =
    let zero = c.if-from-ge1.false in
    stays c.in_ok-from.field-0 c.in_ok-from.ensures.finds (only_found c.in_ok-from.field-0 c.in-Some.from c.args.head.now.count c.in-Some.is (λ one. absurd (omega (arith, zero, one)))) c.in_ok-from.ensures.same refl

pub returns-in_default-3-clause-cuts : goal.returns-in_default-3-clause-cuts
returns-in_default-3-clause-cuts g c = stays c.in_ok-from.field-0 c.in_ok-from.ensures.finds (λ n is one. let none : None ≡ Some n = sym c.in_default.is ∙ is in absurd cc) c.in_ok-from.ensures.same refl

pub cut_from-requires-clause-may : goal.cut_from-requires-clause-may
cut_from-requires-clause-may g c = may_to c.args.volume.now c.first_off.new.volume c.in_ok-from.ensures.same c.args.file c.args.head.now c.args.steps.now c.requires.may

pub returns-in_default-clause-few : goal.returns-in_default-clause-few
returns-in_default-clause-few g c = few_to c.args.volume.now c.first_off.new.volume c.in_ok-from.ensures.same c.args.steps.now c.requires.may.few

pub returns-in_default-2-clause-few : goal.returns-in_default-2-clause-few
returns-in_default-2-clause-few g c = few_to c.args.volume.now c.first_off.new.volume c.in_ok-from.ensures.same c.args.steps.now c.requires.may.few

pub returns-in_default-3-clause-few : goal.returns-in_default-3-clause-few
returns-in_default-3-clause-few g c = few_to c.args.volume.now c.first_off.new.volume c.in_ok-from.ensures.same c.args.steps.now c.requires.may.few
