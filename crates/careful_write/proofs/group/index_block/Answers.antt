use Rattle.std.proofs.Common.{◌≡◌, ℕ, inl, inr, ◌+◌, ◌*◌, sym, ap, ◌∙◌, arith}
use Rattle.std.proofs.lemmas.Bool.{cases_lt}
use Rattle.careful_write.specs.Content.{word_of, word_for}
use Rattle.careful_write.proofs.Intents.{word_behind, word_of_zeros}
use Rattle.careful_write.proofs.group.index_block.Goals as goal

pub loop-k-init : goal.loop-k-init
loop-k-init c = record { told = λ i lt. absurd (omega arith); rest = λ i from lt. word_of_zeros i lt }

pub loop-k-preserved : goal.loop-k-preserved
loop-k-preserved c = record {
  told = λ i lt. elim (cases_lt i c.loop-k.k) [
    | inl less ↦ c.put_word.ensures.others i (omega arith) ∙ c.loop-k.invariant.told i less
    | inr le ↦ let here : i ≡ c.loop-k.k = omega arith in
        ap (word_of c.put_word.new.bytes) here ∙ c.put_word.ensures.here ∙ c.index_word_of.ensures ∙ ap (λ (n : ℕ). word_for c.args.group.now.entries (128 * c.args.j + n)) (sym here)
  ];
  rest = λ i from lt. c.put_word.ensures.others i (omega arith) ∙ c.loop-k.invariant.rest i (omega arith) lt;
}

pub returns : goal.returns
returns c = λ k lt. elim (cases_lt k c.loop-k.k) [
  | inl less ↦ c.loop-k.invariant.told k less
  | inr le ↦ c.loop-k.invariant.rest k le lt ∙ sym (word_behind c.args.group.now.entries (128 * c.args.j + k) (elim c.words_told-k-end.ensures.told [ inl all ↦ omega arith | inr some ↦ omega arith ]))
]
