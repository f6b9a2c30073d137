use Rattle.std.proofs.Common.{◌≡◌, List, ℕ, length, take, Option, Some, None, subst, sym, ap, refl, ◌∙◌, arith}
use Rattle.vms_base.specs.vms_model.Keys.{Text}
use Rattle.std.specs.Option.{option_copied}
use Rattle.indexed_file.specs.Chain.{SuitsText}
use Rattle.indexed_file.specs.Raws.{slot_bytes, Means}
use Rattle.indexed_file.proofs.RawLaws.{means_some, record_key}
use Rattle.indexed_file.proofs.LeafSetLaws.{sets_nothing, sets_new, sets_as}
use Rattle.indexed_file.proofs.set.set_missing.Goals as goal

pub add_record-requires-clause-key : goal.add_record-requires-clause-key
add_record-requires-clause-key g c =
    let is = ap option_copied c.in-Some.is ∙ ap Some (sym c.bytes.ensures.value) in
    record_key c.args.head.now c.args.key.now c.bytes.result.now c.requires.form.key (subst (λ (o : Option (List ℕ)). SuitsText c.args.head.now c.args.key.now o) is c.requires.suits)

pub add_record-requires-clause-alone : goal.add_record-requires-clause-alone
add_record-requires-clause-alone g c =
    let is = ap option_copied c.in-Some.is ∙ ap Some (sym c.bytes.ensures.value) in
    let suits : SuitsText c.args.head.now c.args.key.now (Some c.bytes.result.now) = subst (λ (o : Option (List ℕ)). SuitsText c.args.head.now c.args.key.now o) is c.requires.suits in
    omega (arith, suits.most, c.requires.records)

pub returns-in-Some-clause-sets : goal.returns-in-Some-clause-sets
returns-in-Some-clause-sets g c = λ kept.
    let h = c.args.head.now in
    let size = c.args.size in
    let k = c.args.key.now in
    let r = c.bytes.result.now in
    let held = λ (t : List ℕ). g.H.Held.held c.args.held.now (Text t) in
    let is : option_copied c.args.value ≡ Some r = ap option_copied c.in-Some.is ∙ ap Some (sym c.bytes.ensures.value) in
    let suits : SuitsText h k (Some r) = subst (λ (o : Option (List ℕ)). SuitsText h k o) is c.requires.suits in
    let x = slot_bytes (length r) (length r) 0 r in
    let means : Means h k (length r) (Some r) x = means_some h k r (length r) (Some r) x refl c.requires.form.key c.requires.form.holds suits (omega arith) refl in
    sets_as h held k (option_copied c.args.value) (Some r) size h.used (take size c.args.low.now) c.add_record.result (take size c.add_record.new.low) (take size c.add_record.new.mid) (take size c.add_record.new.high) is
    (sets_new h held k r size h.used c.args.i c.add_record.result x (take size c.args.low.now) (take size c.add_record.new.low) (take size c.add_record.new.mid) (take size c.add_record.new.high) (omega (arith, c.requires.records)) c.requires.form.key
    c.requires.bucket kept c.requires.place means c.add_record.ensures.parted)

pub returns-in-None-clause-sets : goal.returns-in-None-clause-sets
returns-in-None-clause-sets g c = λ kept.
    let h = c.args.head.now in
    let size = c.args.size in
    let held = λ (t : List ℕ). g.H.Held.held c.args.held.now (Text t) in
    let none : option_copied c.args.value ≡ None = ap option_copied c.in-None.is in
    sets_as h held c.args.key.now (option_copied c.args.value) None size h.used (take size c.args.low.now) 0 (take size c.args.low.now) (take size c.args.mid.now) (take size c.args.high.now) none
    (sets_nothing h held c.args.key.now size h.used c.args.i (take size c.args.low.now) (take size c.args.mid.now) (take size c.args.high.now) (omega (arith, c.requires.records)) c.requires.bucket kept c.requires.place)
