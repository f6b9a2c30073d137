use Rattle.std.proofs.Common.{◌≡◌, ℕ, ◌+◌, List, length, map, take, subst, ap, sym, ◌∙◌, arith}
use Rattle.std.proofs.lemmas.List.{length-take, length-map}
use Rattle.unit_entries.specs.Keys.{KeyTold, lesser}
use Rattle.unit_entries.specs.Rows.{key_said}
use Rattle.unit_entries.proofs.LeastLemmas.{IsLeastOf, no_number, number_more}
use Rattle.unit_entries.proofs.RowLemmas.{taken_more}
use Rattle.unit_entries.proofs.keys.ChangedKeys.next_number.Goals as goal
use Rattle.unit_entries.proofs.keys.ChangedKeys.next_number.Goals.{in-Some, in_default}

pub loop-i-preserved : goal.loop-i-preserved
loop-i-preserved c =
    let file = c.args.file in
    let from = c.args.from in
    let all = c.args.self.now in
    let ks = c.deref-key-items.result.now in
    let i = c.loop-i.i in
    let k = c.key-item.result in
    let said : map key_said ks ≡ all = ap (map key_said) c.deref-key-items.ensures.value ∙ c.self.view_is in
    let more = taken_more ks all i k said c.loop-i-test.true c.key-item.is in
    let before = c.loop-i.invariant in
    let long = ap length said in
    let same = length-map ks key_said in
    let lt = c.loop-i-test.true in
    let taken = length-take i all in
    let count : length (take i all) ≡ i = omega (arith, long, same, lt, taken) in
    elim c.match-number_for.branch [
      | in-Some w ↦
          let n = w.in-Some.n in
          let is = sym c.number_for.ensures ∙ w.in-Some.is in
          subst (IsLeastOf file from (take (i + 1) all)) (sym (w.least-is ∙ w.lesser-least.ensures ∙ ap (λ (m : ℕ). lesser from c.loop-i.least m n) (sym count)))
          (subst (λ (xs : List KeyTold). IsLeastOf file from xs (lesser from c.loop-i.least (length (take i all)) n)) (sym more) (number_more file from (take i all) (key_said k) c.loop-i.least n is before))
      | in_default w ↦
          let is = sym c.number_for.ensures ∙ w.in_default.is in
          subst (IsLeastOf file from (take (i + 1) all)) (sym w.least-is)
          (subst (λ (xs : List KeyTold). IsLeastOf file from xs c.loop-i.least) (sym more) (no_number file from (take i all) (key_said k) c.loop-i.least is before))
    ]
