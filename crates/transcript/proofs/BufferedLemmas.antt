-- Texts that are put through a buffer, one after another.
use Rattle.std.proofs.Common.{◌≡◌, List, [], ◌∷◌, ◌++◌, ℕ, Bool, true, false, refl, sym, ◌∙◌, ap, subst, append-nil, append_assoc}
use Rattle.emitter_model.specs.Emitting.{Shown, Adds, Puts}
use Rattle.emitter_model.proofs.EmittingLemmas.{puts_on, puts_nothing, puts2}
use Rattle.transcript.specs.Buffered.{BufferedText, Holds, Appends}

-- after a failure any text is put
adds_any : (a b : Bool) (x y added : List ℕ) → a ≡ true → Adds a b x added → Adds a b y added
adds_any false b x y added e h = let z : ⊥ = cc in absurd z
adds_any true true x y added e h = h
adds_any true false x y added e h = h

puts_any : (a b : Shown) (x y : List ℕ) → a.failed ≡ true → Puts a x b → Puts a y b
puts_any a b x y e h = record { number = h.number; added = h.added; shows = h.shows; adds = adds_any a.failed b.failed x y h.added e h.adds; counts = h.counts; cause = h.cause }

-- what waits is put, or a write had failed before
puts_rest : (b c : Shown) (rest waiting : List ℕ) → (b.failed ≡ false → rest ≡ waiting) → Puts b waiting c → Puts b rest c
puts_rest b c rest waiting waits h =
    elim (b.failed) as (λ v. b.failed ≡ v → Puts b rest c) [
      | true ↦ λ e. puts_any b c waiting rest e h
      | false ↦ λ e. subst (λ t. Puts b t c) (sym (waits e)) h
    ] refl

-- at first nothing is put and nothing waits
pub holds_nothing : (a : Shown) → Holds a [] (record { shown = a; waiting = [] })
holds_nothing a = record { written = []; rest = []; parts = refl; puts = puts_nothing a; waits = λ _. refl }

-- once what waits is written, the whole text is put
pub puts_whole : (a : Shown) (text : List ℕ) (old : BufferedText) (new : Shown) → Holds a text old → Puts old.shown old.waiting new → Puts a text new
puts_whole a text old new h k = puts2 a old.shown new h.written h.rest text h.puts (puts_rest old.shown new h.rest old.waiting h.waits k) h.parts

holds_puts : (a new : Shown) (text : List ℕ) → Puts a text new → Holds a text (record { shown = new; waiting = [] })
holds_puts a new text h = record { written = text; rest = []; parts = sym (append-nil text); puts = h; waits = λ _. refl }

-- what waits is written
pub appends_flushed : (old : BufferedText) (new : Shown) → Puts old.shown old.waiting new → Appends old [] (record { shown = new; waiting = [] })
appends_flushed old new h = record { behind = λ a before k. holds_puts a new (before ++ []) (subst (λ t. Puts a t new) (sym (append-nil before)) (puts_whole a before old new k h)) }

-- more waits
pub appends_waiting : (s : Shown) (waiting text : List ℕ) → Appends (record { shown = s; waiting = waiting }) text (record { shown = s; waiting = waiting ++ text })
appends_waiting s waiting text = record {
  behind = λ a before k. record {
    written = k.written;
    rest = k.rest ++ text;
    parts = rw k.parts (append_assoc k.written k.rest text);
    puts = k.puts;
    waits = λ e. ap (λ t. t ++ text) (k.waits e);
  };
}

-- a text is written where nothing waits
pub appends_written : (old new : Shown) (text : List ℕ) → Puts old text new → Appends (record { shown = old; waiting = [] }) text (record { shown = new; waiting = [] })
appends_written old new text h = record {
  behind = λ a before k.
      holds_puts a new (before ++ text) (puts_on a old new before text (puts_whole a before (record { shown = old; waiting = [] }) old k (puts_nothing old)) h);
}

pub appends_none : (k : BufferedText) → Appends k [] k
appends_none k = record { behind = λ a before h. subst (λ t. Holds a t k) (sym (append-nil before)) h }

pub appends2 : (a b c : BufferedText) (x y t : List ℕ) → Appends a x b → Appends b y c → t ≡ x ++ y → Appends a t c
appends2 a b c x y t h k e = record {
  behind = λ s before held.
      subst (λ u. Holds s u c) (append_assoc before x y ∙ ap (λ u. before ++ u) (sym e)) (k.behind s (before ++ x) (h.behind s before held));
}

pub appends3 : (a b c d : BufferedText) (x y z t : List ℕ) → Appends a x b → Appends b y c → Appends c z d → t ≡ x ++ (y ++ z) → Appends a t d
appends3 a b c d x y z t h k l e = appends2 a b d x (y ++ z) t h (appends2 b c d y z _ k l refl) e

pub appends4 : (a b c d f : BufferedText) (x y z w t : List ℕ) → Appends a x b → Appends b y c → Appends c z d → Appends d w f → t ≡ x ++ (y ++ (z ++ w)) → Appends a t f
appends4 a b c d f x y z w t h k l m e = appends2 a b f x (y ++ (z ++ w)) t h (appends3 b c d f y z w _ k l m refl) e

pub appends5 : (a b c d f g : BufferedText) (x y z u v t : List ℕ) → Appends a x b → Appends b y c → Appends c z d → Appends d u f → Appends f v g → t ≡ x ++ (y ++ (z ++ (u ++ v))) → Appends a t g
appends5 a b c d f g x y z u v t p q r s i e = appends2 a b g x _ t p (appends4 b c d f g y z u v _ q r s i refl) e

pub appends6 : (a b c d f g h : BufferedText) (x y z u v w t : List ℕ) → Appends a x b → Appends b y c → Appends c z d → Appends d u f → Appends f v g → Appends g w h →
    t ≡ x ++ (y ++ (z ++ (u ++ (v ++ w)))) → Appends a t h
appends6 a b c d f g h x y z u v w t p q r s i j e = appends3 a b c h x y _ t p q (appends4 c d f g h z u v w _ r s i j refl) e

pub appends8 : (a b c d f g h i j : BufferedText) (x y z u v w m n t : List ℕ) → Appends a x b → Appends b y c → Appends c z d → Appends d u f → Appends f v g → Appends g w h → Appends h m i → Appends i n j →
    t ≡ x ++ (y ++ (z ++ (u ++ (v ++ (w ++ (m ++ n)))))) → Appends a t j
appends8 a b c d f g h i j x y z u v w m n t p q r s k l o ab e = appends3 a b c j x y _ t p q (appends6 c d f g h i j z u v w m n _ r s k l o ab refl) e

-- The steps of a put, over what is kept before and after each: nothing is held, what waits is written, and the text is held or written.
module _ (a h f : BufferedText) (same : h.shown ≡ a.shown) (waits : h.waiting ≡ a.waiting) (puts : Puts h.shown h.waiting f.shown) (empty : f.waiting ≡ []) where
  flushed : Appends a [] f
  flushed =
      let from_a : Puts a.shown a.waiting f.shown = subst (λ s. Puts s a.waiting f.shown) same (subst (λ w. Puts h.shown w f.shown) waits puts) in
      subst (λ w. Appends a [] (record { shown = f.shown; waiting = w })) (sym empty) (appends_flushed a f.shown from_a)

  held : (c : BufferedText) (text : List ℕ) → c.shown ≡ f.shown → c.waiting ≡ f.waiting ++ text → Appends f text c
  held c text s w =
      subst (λ t. Appends f text (record { shown = t; waiting = c.waiting })) (sym s) (subst (λ v. Appends f text (record { shown = f.shown; waiting = v })) (sym w) (appends_waiting f.shown f.waiting text))

  pub put_held : (c : BufferedText) (text : List ℕ) → c.shown ≡ f.shown → c.waiting ≡ f.waiting ++ text → Appends a text c
  put_held c text s w = appends2 a f c [] text text flushed (held c text s w) refl

  written : (g c : BufferedText) (text : List ℕ) → g.shown ≡ f.shown → Puts g.shown text c.shown → c.waiting ≡ [] → Appends f text c
  written g c text s p w =
      let from_f : Puts f.shown text c.shown = subst (λ t. Puts t text c.shown) s p in
      subst (λ v. Appends f text (record { shown = c.shown; waiting = v })) (sym w) (subst (λ v. Appends (record { shown = f.shown; waiting = v }) text (record { shown = c.shown; waiting = [] })) (sym empty) (appends_written f.shown c.shown text from_f))

  pub put_written : (g c : BufferedText) (text : List ℕ) → g.shown ≡ f.shown → g.waiting ≡ f.waiting → Puts g.shown text c.shown → c.waiting ≡ g.waiting → Appends a text c
  put_written g c text s w p v = appends2 a f c [] text text flushed (written g c text s p (v ∙ (w ∙ empty))) refl

-- a text that was put where nothing waited, once what waits is written
pub puts_through : (old now : BufferedText) (new : Shown) (text : List ℕ) → old.waiting ≡ [] → Appends old text now → Puts now.shown now.waiting new → Puts old.shown text new
puts_through old now new text empty h p =
    let nothing : Holds old.shown [] old = subst (λ w. Holds old.shown [] (record { shown = old.shown; waiting = w })) (sym empty) (holds_nothing old.shown) in
    puts_whole old.shown text now new (h.behind old.shown [] nothing) p

-- what stands behind an entry's branch
pub entry_behind : (a b c d e x : List ℕ) → a ++ (b ++ (c ++ (d ++ (32 ∷ (e ++ x))))) ≡ (a ++ (b ++ (c ++ (d ++ (32 ∷ e))))) ++ x
entry_behind a b c d e x = rw (append_assoc a (b ++ (c ++ (d ++ (32 ∷ e)))) x, append_assoc b (c ++ (d ++ (32 ∷ e))) x, append_assoc c (d ++ (32 ∷ e)) x, append_assoc d (32 ∷ e) x) refl
