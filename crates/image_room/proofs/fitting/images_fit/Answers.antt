use Rattle.std.proofs.Common.{◌≡◌, ◌<◌, ℕ, Option, Some, sym, ap, subst, ◌∙◌, arith, inl, inr}
use Rattle.std.proofs.lemmas.Bool.{cases_eq}
use Rattle.file_base.specs.declared.head.FileHead.{FileHead}
use Rattle.volume.specs.Catalogs.{head_at}
use Rattle.volume_files.proofs.Places.{within_list}
use Rattle.image_appends.specs.declared.side.Side.TheVariants.{After, Before}
use Rattle.image_room.specs.Room.{SettlementsFit}
use Rattle.image_room.proofs.fitting.images_fit.Goals as goal

one : (a b : FileHead) → ◌≡◌ {A = Option FileHead} (Some a) (Some b) → a ≡ b
one a b e = cc

pub loop-file-preserved : goal.loop-file-preserved
loop-file-preserved g c = λ file h below there.
    let i = c.loop-file.file in
    let heads = c.args.volume.now.catalog.heads in
    let us = c.args.units.now.places in
    let k = c.in-Some.head.now in
    elim (cases_eq file i) [
      | inl same ↦
          (let is : k ≡ h = one k h (c.in-Some.ensures.value ∙ ap (λ (n : ℕ). head_at heads n) (sym same) ∙ there) in
          subst (λ (n : ℕ). SettlementsFit After h n us × SettlementsFit Before h n us) (sym same)
          (subst (λ (x : FileHead). SettlementsFit After x i us × SettlementsFit Before x i us) is (c.ring_fits.ensures.yes c.if-not-ring_fits.false, c.ring_fits-in-loop-file.ensures.yes c.if-not-ring_fits-2.false)))
      | inr apart ↦ c.loop-file.invariant file h (omega (arith, below, apart)) there
    ]

pub returns-clause-yes : goal.returns-clause-yes
returns-clause-yes g c = λ yes file h there.
    let below = within_list c.args.volume.now.catalog.heads file h there in
    c.loop-file.invariant file h (omega (arith, below, c.is_whole.ensures, c.loop-file-test.false)) there
