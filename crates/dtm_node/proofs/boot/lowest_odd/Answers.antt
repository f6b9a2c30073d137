use Rattle.std.proofs.Common.{◌≡◌, ◌<◌, ℕ, ap, min, length, sym, ◌∙◌, arith}
use Rattle.std.specs.Option.{option_copied}
use Rattle.recovery_units.specs.volume_model.Bars.{odd_ring, odd_root}
use Rattle.dtm_node.proofs.Raising.{lowest_before, lowest_whole, lowest_with}
use Rattle.dtm_node.proofs.boot.lowest_odd.Goals.{in-Some, in_default}
use Rattle.dtm_node.proofs.boot.lowest_odd.Goals as goal

pub loop-file-preserved : goal.loop-file-preserved
loop-file-preserved g c =
    let v = c.args.volume.now in
    let long : length v.catalog.heads ≡ 64 = c.head.ensures.whole in
    let below : c.loop-file.file < length v.catalog.heads = (let lt = c.loop-file-test.true in omega (arith, long, lt)) in
    elim c.match-head.branch [
      | in-Some w ↦ record {
        ring = w.ring-is ∙ w.min-ring.ensures ∙ ap (λ (x : ℕ). min c.loop-file.ring x) w.odd_ring.ensures
            ∙ lowest_with odd_ring v.catalog.heads c.loop-file.file c.loop-file.ring w.in-Some.head.now below (sym c.head.ensures.value ∙ ap option_copied w.in-Some.is) c.loop-file.invariant.ring;
        root = w.root-is ∙ w.min-root.ensures ∙ ap (λ (x : ℕ). min c.loop-file.root x) w.odd_root.ensures
            ∙ lowest_with odd_root v.catalog.heads c.loop-file.file c.loop-file.root w.in-Some.head.now below (sym c.head.ensures.value ∙ ap option_copied w.in-Some.is) c.loop-file.invariant.root;
        ring_most = (let is = w.ring-is in let least = w.min-ring.ensures in let most = c.loop-file.invariant.ring_most in omega (arith, is, least, most));
        root_most = (let is = w.root-is in let least = w.min-root.ensures in let most = c.loop-file.invariant.root_most in omega (arith, is, least, most));
        long = λ one. long;
      }
      | in_default w ↦ record {
        ring = w.ring-is ∙ lowest_before odd_ring v.catalog.heads c.loop-file.file c.loop-file.ring below (sym c.head.ensures.value ∙ ap option_copied w.in_default.is) c.loop-file.invariant.ring c.loop-file.invariant.ring_most;
        root = w.root-is ∙ lowest_before odd_root v.catalog.heads c.loop-file.file c.loop-file.root below (sym c.head.ensures.value ∙ ap option_copied w.in_default.is) c.loop-file.invariant.root c.loop-file.invariant.root_most;
        ring_most = (let is = w.ring-is in let most = c.loop-file.invariant.ring_most in omega (arith, is, most));
        root_most = (let is = w.root-is in let most = c.loop-file.invariant.root_most in omega (arith, is, most));
        long = λ one. long;
      }
    ]

pub returns-clause-ring : goal.returns-clause-ring
returns-clause-ring g c =
    let v = c.args.volume.now in
    let ends : 64 ≡ c.loop-file.file = (let past = c.loop-file-test.false in let most = c.loop-file.auto.file-end in omega (arith, past, most)) in
    let long : length v.catalog.heads ≡ 64 = c.loop-file.invariant.long (omega (arith, ends)) in
    c.loop-file.invariant.ring ∙ lowest_whole odd_ring v.catalog.heads c.loop-file.file (sym ends ∙ sym long)

pub returns-clause-root : goal.returns-clause-root
returns-clause-root g c =
    let v = c.args.volume.now in
    let ends : 64 ≡ c.loop-file.file = (let past = c.loop-file-test.false in let most = c.loop-file.auto.file-end in omega (arith, past, most)) in
    let long : length v.catalog.heads ≡ 64 = c.loop-file.invariant.long (omega (arith, ends)) in
    c.loop-file.invariant.root ∙ lowest_whole odd_root v.catalog.heads c.loop-file.file (sym ends ∙ sym long)
