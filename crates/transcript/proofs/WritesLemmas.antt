-- One more write.
use Rattle.std.proofs.Common.{◌≡◌, ℕ, ◌≤◌, List, [], ◌++◌, Option, take, drop, refl, sym, ◌∙◌, append_assoc, arith}
use Rattle.std.proofs.lemmas.List.{take-append-drop}
use Rattle.emitter_model.specs.transcript_model.Outside.{behind}
use Rattle.emitter_model.proofs.transcript_model.OutsideLemmas.{behind_none, behind_on}
use Rattle.transcript.specs.Writes.{WritesUpTo}

pub writes_none : (s : Option (List ℕ)) (n : ℕ) (bytes : List ℕ) → WritesUpTo s n bytes bytes s n
writes_none s n bytes = record { added = []; shows = sym (behind_none s); parts = refl; counts = omega arith }

pub writes_more : (old mid new : Option (List ℕ)) (before between after n : ℕ) (bytes rest tail : List ℕ) →
    WritesUpTo old before bytes rest mid between → new ≡ behind mid (take n rest) → between ≤ after → tail ≡ drop n rest → WritesUpTo old before bytes tail new after
writes_more old mid new before between after n bytes rest tail h e le is = record {
  added = h.added ++ take n rest;
  shows = e ∙ rw h.shows (behind_on old h.added (take n rest));
  parts = h.parts ∙ rw (is, append_assoc, take-append-drop n rest) refl;
  counts = omega arith;
}
