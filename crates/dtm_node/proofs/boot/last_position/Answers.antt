use Rattle.std.proofs.Common.{◌≡◌, ◌<◌, ℕ, ap, max, length, sym, ◌∙◌, arith}
use Rattle.std.specs.Option.{option_copied}
use Rattle.dtm_node.proofs.Raising.{ends_before, ends_whole, ends_with}
use Rattle.dtm_node.proofs.boot.last_position.Goals.{in-Some, in_default}
use Rattle.dtm_node.proofs.boot.last_position.Goals as goal

pub loop-file-preserved : goal.loop-file-preserved
loop-file-preserved g c =
    let v = c.args.volume.now in
    let long : length v.catalog.heads ≡ 64 = c.head.ensures.whole in
    let below : c.loop-file.file < length v.catalog.heads = (let lt = c.loop-file-test.true in omega (arith, long, lt)) in
    elim c.match-head.branch [
      | in-Some w ↦ record {
        last = w.last-is ∙ w.max-last.ensures ∙ ap (λ (x : ℕ). max x w.in-Some.head.now.bi.end) w.max.ensures
            ∙ ends_with v.catalog.heads c.loop-file.file c.loop-file.last v.catalog.ru.end w.in-Some.head.now below (sym c.head.ensures.value ∙ ap option_copied w.in-Some.is) c.loop-file.invariant.last;
        long = λ one. long;
      }
      | in_default w ↦ record { last = w.last-is ∙ ends_before v.catalog.heads c.loop-file.file c.loop-file.last v.catalog.ru.end below (sym c.head.ensures.value ∙ ap option_copied w.in_default.is) c.loop-file.invariant.last; long = λ one. long }
    ]

pub returns : goal.returns
returns g c =
    let v = c.args.volume.now in
    let ends : 64 ≡ c.loop-file.file = (let past = c.loop-file-test.false in let most = c.loop-file.auto.file-end in omega (arith, past, most)) in
    let long : length v.catalog.heads ≡ 64 = c.loop-file.invariant.long (omega (arith, ends)) in
    c.loop-file.invariant.last ∙ ap (λ x. max v.catalog.ru.end x) (ends_whole v.catalog.heads c.loop-file.file (sym ends ∙ sym long))
