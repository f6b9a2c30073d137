-- Steps of an emitter, one after another.
use Rattle.std.proofs.Common.{◌≡◌, ℕ, ◌≤◌, List, [], ◌∷◌, ◌++◌, Bool, true, false, Option, Some, None, refl, ap, sym, ◌∙◌, append_assoc, append-nil, arith, subst}
use Rattle.std.proofs.lemmas.Grind.{flat_map-append}
use Rattle.transcript_model.specs.Outside.{Rose}
use Rattle.transcript_model.specs.Lines.{Line, line_text, lines_text}
use Rattle.std.specs.Option.{option_map}
use Rattle.emitter_model.specs.Tally.{Tally, tallied, tallied_by}
use Rattle.emitter_model.specs.Emitting.{Shown, Adds, Puts, Emits, Since}
use Rattle.transcript_model.proofs.OutsideLemmas.{behind_none, behind_on, rose_later, rose_earlier}

adds_on : (a b c : Bool) (x y p q : List ℕ) → Adds a b x p → Adds b c y q → Adds a c (x ++ y) (p ++ q)
adds_on false false false x y p q h k = cc
adds_on false false true x y p q h (rest, k) = (rest, rw (h, k) (sym (append_assoc x q rest)))
adds_on false true true x y p q (rest, h) k = (rest ++ y, rw (h, k) (rw append-nil (append_assoc p rest y)))
adds_on false true false x y p q h k = absurd k
adds_on true true true x y p q h k = rw (h, k) refl
adds_on true true false x y p q h k = absurd k
adds_on true false c x y p q h k = absurd h

adds_nothing : (a : Bool) → Adds a a [] []
adds_nothing false = refl
adds_nothing true = refl

cause_on : (a b c : Bool) (m n o : ℕ) → (a ≡ false → b ≡ true → Rose m n) → (b ≡ false → c ≡ true → Rose n o) → m ≤ n → n ≤ o → a ≡ false → c ≡ true → Rose m o
cause_on a false c m n o h k mn le isa isc = rose_earlier m n o mn (k refl isc)
cause_on a true c m n o h k mn le isa isc = rose_later m n o (h isa refl) le

no_cause : (a : Bool) (n : ℕ) → a ≡ false → a ≡ true → Rose n n
no_cause a n e f = cc

pub puts_nothing : (s : Shown) → Puts s [] s
puts_nothing s = record { number = refl; added = []; shows = sym (behind_none s.text); adds = adds_nothing s.failed; counts = omega arith; cause = no_cause s.failed s.faults }

pub puts_on : (a b c : Shown) (x y : List ℕ) → Puts a x b → Puts b y c → Puts a (x ++ y) c
puts_on a b c x y h k = record {
  number = k.number ∙ h.number;
  added = h.added ++ k.added;
  shows = k.shows ∙ rw h.shows (behind_on a.text h.added k.added);
  adds = adds_on a.failed b.failed c.failed x y h.added k.added h.adds k.adds;
  counts = omega arith;
  cause = cause_on a.failed b.failed c.failed a.faults b.faults c.faults h.cause k.cause h.counts k.counts;
}

-- what is counted of lines, and then of more

tallied_on : (xs ys : List Line) (t : Tally) → tallied_by (xs ++ ys) t ≡ tallied_by ys (tallied_by xs t)
tallied_on [] ys t = refl
tallied_on (x ∷ xs) ys t = tallied_on xs ys (tallied x t)

counted_on : (o : Option Tally) (xs ys : List Line) → option_map (tallied_by ys) (option_map (tallied_by xs) o) ≡ option_map (tallied_by (xs ++ ys)) o
counted_on None xs ys = refl
counted_on (Some t) xs ys = ap Some (sym (tallied_on xs ys t))

counted_none : (o : Option Tally) → o ≡ option_map (tallied_by []) o
counted_none None = refl
counted_none (Some t) = refl

-- a step that put the text of some lines, and then of more
pub emits_on : (a b c : Shown) (x y : List Line) → Emits a x b → Emits b y c → Emits a (x ++ y) c
emits_on a b c x y h k =
    let e : lines_text a.number (x ++ y) ≡ lines_text a.number x ++ lines_text a.number y = flat_map-append (line_text a.number) x y in
    let m : Puts b (lines_text a.number y) c = subst (λ n. Puts b (lines_text n y) c) h.puts.number k.puts in
    record {
      puts = subst (λ t. Puts a t c) (sym e) (puts_on a b c (lines_text a.number x) (lines_text a.number y) h.puts m);
      counted = k.counted ∙ ap (option_map (tallied_by y)) h.counted ∙ counted_on a.tally x y;
    }

-- several pieces of one text
pub puts2 : (a b c : Shown) (x y t : List ℕ) → Puts a x b → Puts b y c → t ≡ x ++ y → Puts a t c
puts2 a b c x y t h k e = subst (λ u. Puts a u c) (sym e) (puts_on a b c x y h k)

pub puts3 : (a b c d : Shown) (x y z t : List ℕ) → Puts a x b → Puts b y c → Puts c z d → t ≡ x ++ (y ++ z) → Puts a t d
puts3 a b c d x y z t h k l e = puts2 a b d x (y ++ z) t h (puts_on b c d y z k l) e

pub puts4 : (a b c d f : Shown) (x y z w t : List ℕ) → Puts a x b → Puts b y c → Puts c z d → Puts d w f → t ≡ x ++ (y ++ (z ++ w)) → Puts a t f
puts4 a b c d f x y z w t h k l m e = puts2 a b f x (y ++ (z ++ w)) t h (puts3 b c d f y z w _ k l m refl) e

pub emits_nothing : (s : Shown) → Emits s [] s
emits_nothing s = record { puts = puts_nothing s; counted = counted_none s.tally }

pub since_puts : (a b : Shown) (t : List ℕ) → Puts a t b → Since a b
since_puts a b t h = record { counts = h.counts; cause = h.cause }

pub since_same : (a : Shown) → Since a a
since_same a = record { counts = omega arith; cause = no_cause a.failed a.faults }

pub since_on : (a b c : Shown) → Since a b → Since b c → Since a c
since_on a b c h k = record { counts = omega arith; cause = cause_on a.failed b.failed c.failed a.faults b.faults c.faults h.cause k.cause h.counts k.counts }
