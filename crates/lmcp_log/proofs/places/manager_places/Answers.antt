use Rattle.std.proofs.Common.{◌≡◌, List, ℕ, length, get_or, ap, subst, ◌∙◌, ◌<◌, ◌*◌}
use Rattle.file_base.specs.Bytes.{spliced}
use Rattle.lmcp_log.proofs.Fields.{names_step}
use Rattle.lmcp_log.proofs.places.manager_places.Goals as goal

pub loop-i-preserved : goal.loop-i-preserved
loop-i-preserved c =
    let xs : List (List ℕ) = c.args.rms.now in
    let i = c.loop-i.i in
    let x = c.rm-item.result in
    let items = c.items-rm-items.ensures.value in
    let lt : i < length xs = (let P : List (List ℕ) → Type 0 = λ ys. i < length ys in subst P items c.loop-i-test.true) in
    let at : x ≡ get_or xs i x = c.rm-item.is ∙ ap (λ (ys : List (List ℕ)). get_or ys i x) items in
    let t = names_step xs i x c.loop-i.places c.splice.new.bytes lt c.items-rm-items.ensures.few at (record { bytes = c.loop-i.invariant.bytes; names = c.loop-i.invariant.names }) c.name_16.ensures.name
    (c.splice.ensures ∙ (λ k. spliced (c.as_mut_slice.ensures.value k) (16 * i) (c.name_16.ensures.bytes k))) in
    record { bytes = t.bytes; names = t.names }
