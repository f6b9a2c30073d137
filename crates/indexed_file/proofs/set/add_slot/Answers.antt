use Rattle.std.proofs.Common.{◌≡◌, ◌<◌, ◌+◌, false, List, ℕ, length, take, subst, sym, ap, refl, ◌∙◌}
use Rattle.vms_base.specs.vms_model.Keys.{Text}
use Rattle.bucket_page.specs.declared.kind.PageKind.{PageKind}
use Rattle.bucket_page.specs.Pages.{slots_of, next_of, joined, inserted, IsPacked, Packs}
use Rattle.indexed_file.specs.Chain.{kind_of}
use Rattle.indexed_file.proofs.AddLaws.{added_fits, added_tidied, fits_of}
use Rattle.indexed_file.specs.Raws.{tidied_raws, Parted}
use Rattle.indexed_file.proofs.set.add_slot.Goals as goal

pub returns-then-insert_front-clause-parted : goal.returns-then-insert_front-clause-parted
returns-then-insert_front-clause-parted g c =
    let h = c.args.head.now in
    let size = c.args.size in
    let held = λ (t : List ℕ). g.H.Held.held c.args.held.now (Text t) in
    let old = take size c.args.low.now in
    let s = slots_of (kind_of h) old in
    let low1 = take size c.insert_front.new.frame in
    let put = subst (λ (q : PageKind). Packs q size (inserted (slots_of q old) c.args.i c.args.slot.now) (next_of old) low1) c.kind.ensures (c.insert_front.ensures.yes c.if-insert_front.true) in
    let over = subst (λ (q : PageKind). size < 16 + length (joined (slots_of q old)) + length c.args.slot.now → c.insert_front.result ≡ false) c.kind.ensures c.insert_front.ensures.full.1 in
    added_fits h held size h.used (next_of old) c.args.i s c.args.slot.now low1 (take size c.args.mid.now) (take size c.args.high.now)
    (fits_of c.insert_front.result size (length (joined s)) (length c.args.slot.now) c.if-insert_front.true over) put

pub add_tidied-requires-clause-packed : goal.add_tidied-requires-clause-packed
add_tidied-requires-clause-packed g c =
    let e = c.insert_front.ensures.not_yet c.if-insert_front.false in
    subst (λ (b : List ℕ). IsPacked (kind_of c.args.head.now) c.args.size (take c.args.size b)) (sym e) c.requires.packed

pub add_tidied-requires-clause-counted : goal.add_tidied-requires-clause-counted
add_tidied-requires-clause-counted g c =
    let e = c.insert_front.ensures.not_yet c.if-insert_front.false in
    c.requires.counted ∙ ap (λ (b : List ℕ). length (slots_of (kind_of c.args.head.now) (take c.args.size b))) (sym e)

pub returns-clause-parted : goal.returns-clause-parted
returns-clause-parted g c =
    let e = c.insert_front.ensures.not_yet c.if-insert_front.false in
    let h = c.args.head.now in
    let size = c.args.size in
    let held = λ (t : List ℕ). g.H.Held.held c.args.held.now (Text t) in
    let old = take size c.args.low.now in
    let s = slots_of (kind_of h) old in
    let x = c.args.slot.now in
    let full = subst (λ (k : PageKind). size < 16 + length (joined (slots_of k old)) + length x) c.kind.ensures (c.insert_front.ensures.full.0 c.if-insert_front.false) in
    let at : ℕ = length (tidied_raws h held (take c.args.i s)) in
    let P : List ℕ → Type 0 = λ b. Parted h size h.used (next_of (take size b)) (inserted (tidied_raws h held (slots_of (kind_of h) (take size b))) (length (tidied_raws h held (take c.args.i (slots_of (kind_of h) (take size b))))) x)
    (length (tidied_raws h held (take c.args.i (slots_of (kind_of h) (take size b))))) c.add_tidied.result (take size c.add_tidied.new.low) (take size c.add_tidied.new.mid) (take size c.add_tidied.new.high) in
    added_tidied h held size h.used (next_of old) c.args.i at c.add_tidied.result s x (take size c.add_tidied.new.low) (take size c.add_tidied.new.mid) (take size c.add_tidied.new.high) full refl (subst P e c.add_tidied.ensures.parted)
