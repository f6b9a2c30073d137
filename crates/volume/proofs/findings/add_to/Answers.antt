use Rattle.std.proofs.Common.{◌≡◌, ◌<◌, ◌≤◌, true, false, List, ◌∷◌, ◌++◌, length, take, drop, get_or, sym, ap, subst, ◌∙◌, arith}
use Rattle.std.proofs.lemmas.List.{get_or_read, take_all}
use Rattle.std.proofs.lemmas.Grind.{common_steps}
use Rattle.volume.specs.declared.load.Finding.{Finding}
use Rattle.volume.specs.Findings.{first_thousand, is_before, is_same}
use Rattle.volume.proofs.Places.{with_there, with_absent}
use Rattle.volume.proofs.findings.add_to.Goals as goal
use Rattle.volume.proofs.findings.add_to.Goals.{else-i-len-via-then-i-len+else-is_same, else-i-len-via-else-i-len}

pub returns-then-is_same-clause-items : goal.returns-then-is_same-clause-items
returns-then-is_same-clause-items c =
    let x = c.args.finding in
    let items = c.args.found.now.items in
    let i = c.place_of-i.result in
    let within : i < length items = omega arith in
    let read = get_or_read items i c.index.result.now within c.index.ensures x in
    sym (take_all 1000 items c.requires.few)
    ∙ ap first_thousand (with_there x items i
    (λ k less. subst (λ (ys : List Finding). is_before (get_or ys k x) x ≡ true) c.deref.ensures.value (c.place_of-i.ensures.before k less)) within
    (subst (λ (ys : List Finding). i < length ys → is_before (get_or ys i x) x ≡ false) c.deref.ensures.value c.place_of-i.ensures.here within)
    (ap (λ (y : Finding). is_same y x) (sym read) ∙ sym c.is_same.ensures ∙ c.if-is_same.true))

pub returns-clause-items : goal.returns-clause-items
returns-clause-items c =
    let x = c.args.finding in
    let items = c.args.found.now.items in
    let i = c.place_of-i.result in
    let inserted : c.insert.new.self.items ≡ take i items ++ x ∷ drop i items = grind (arith, common_steps, c.insert.ensures.items) in
    let within : i ≤ length items = subst (λ (ys : List Finding). i ≤ length ys) c.deref.ensures.value c.place_of-i.ensures.within in
    let other : i < length items → is_same (get_or items i x) x ≡ false = λ less. elim c.else-i-len.branch [
      | else-i-len-via-then-i-len+else-is_same w ↦
          let read = get_or_read items i w.index.result.now less w.index.ensures x in
          ap (λ (y : Finding). is_same y x) (sym read) ∙ sym w.is_same.ensures ∙ w.if-is_same.false
      | else-i-len-via-else-i-len w ↦ absurd (omega arith)
    ] in
    c.truncate.ensures.items
    ∙ ap (take 1000) (inserted ∙ with_absent x items i
    (λ k less. subst (λ (ys : List Finding). is_before (get_or ys k x) x ≡ true) c.deref.ensures.value (c.place_of-i.ensures.before k less)) within
    (subst (λ (ys : List Finding). i < length ys → is_before (get_or ys i x) x ≡ false) c.deref.ensures.value c.place_of-i.ensures.here) other)
