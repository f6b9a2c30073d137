-- A line that says a statement, by the texts of its words.
use Rattle.std.proofs.Common.{◌≡◌, ℕ, ◌+◌, ◌==◌, List, [], ◌∷◌, Bool, true, false, Option, Some, None, ◌&&◌, map, refl, sym, ◌∙◌, ap, subst, if◌then◌else◌}
use Rattle.run_model.specs.script_model.LineWords.{Word, is_empty, Place, Between, Inside, Quoted, place_after, word_rest, words_from, words_of}
use Rattle.run_model.specs.script_model.Statements.{Reading, Says, Bad, Statement}
use Rattle.run_model.specs.script_model.Grammar.{Shape, Ends, Then, EndsOr, ThenMore, Meaning, is_skipped, line_shape, meaning, reading, reads}

-- the texts of the words that begin in these bytes
abbrev pub texts_from : Place → List ℕ → List (List ℕ)
texts_from place [] = []
texts_from Between (b ∷ bytes) = if b == 32 then texts_from Between bytes else (b ∷ word_rest (place_after Between b) bytes) ∷ texts_from (place_after Between b) bytes
texts_from Inside (b ∷ bytes) = texts_from (place_after Inside b) bytes
texts_from Quoted (b ∷ bytes) = texts_from (place_after Quoted b) bytes

abbrev texts : List Word → List (List ℕ)
texts ws = map (λ (w : Word). w.text) ws

texts_are : (place : Place) (column : ℕ) (bytes : List ℕ) → texts (words_from place column bytes) ≡ texts_from place bytes
texts_are Between column [] = refl
texts_are Inside column [] = refl
texts_are Quoted column [] = refl
texts_are Between column (b ∷ bytes) = by (b == 32) (texts_are Between (column + 1) bytes) (texts_are (place_after Between b) (column + 1) bytes)
  where
    by : (c : Bool) → texts (words_from Between (column + 1) bytes) ≡ texts_from Between bytes → texts (words_from (place_after Between b) (column + 1) bytes) ≡ texts_from (place_after Between b) bytes → texts (if c then words_from Between (column + 1) bytes else record { column = column; text = b ∷ word_rest (place_after Between b) bytes } ∷ words_from (place_after Between b) (column + 1) bytes)
        ≡ (if c then texts_from Between bytes else (b ∷ word_rest (place_after Between b) bytes) ∷ texts_from (place_after Between b) bytes)
    by true skipped word = skipped
    by false skipped word = ap (λ ts. (b ∷ word_rest (place_after Between b) bytes) ∷ ts) word
texts_are Inside column (b ∷ bytes) = texts_are (place_after Inside b) (column + 1) bytes
texts_are Quoted column (b ∷ bytes) = texts_are (place_after Quoted b) (column + 1) bytes

-- what words say in a shape, by their texts, where all of them can stand there
abbrev pub heard : Shape → List (List ℕ) → Option Statement
heard (Ends s) [] = Some s
heard (Ends s) (t ∷ ts) = None
heard (Then k next) [] = None
heard (Then k next) (t ∷ ts) = elim (meaning k t) [ Some m ↦ heard (next m) ts | None ↦ None ]
heard (EndsOr s shape) [] = Some s
heard (EndsOr s shape) (t ∷ ts) = heard shape (t ∷ ts)
heard (ThenMore k not_last next) [] = None
heard (ThenMore k not_last next) (t ∷ ts) = elim (meaning k t) [ Some m ↦ (if is_empty ts && not_last m then None else heard (next m) ts) | None ↦ None ]

none_are : (ws : List Word) → is_empty (texts ws) ≡ is_empty ws
none_are [] = refl
none_are (w ∷ ws) = refl

heard_reads : (shape : Shape) (ws : List Word) (end : ℕ) (s : Statement) → heard shape (texts ws) ≡ Some s → reads shape ws end ≡ Says s
heard_reads (Ends x) [] end s e = let same : x ≡ s = cc in ap Says same
heard_reads (Ends x) (w ∷ ws) end s e = let none : ⊥ = cc in absurd none
heard_reads (Then k next) [] end s e = let none : ⊥ = cc in absurd none
heard_reads (Then k next) (w ∷ ws) end s e = by (meaning k w.text) (λ m. heard_reads (next m) ws end s) e
  where
    by : (o : Option (Meaning k)) → ((m : Meaning k) → heard (next m) (texts ws) ≡ Some s → reads (next m) ws end ≡ Says s) → ◌≡◌ {A = Option Statement} (elim o [ Some m ↦ heard (next m) (texts ws) | None ↦ None ]) (Some s) → ◌≡◌ {A = Reading} (elim o [ Some m ↦ reads (next m) ws end | None ↦ Bad w.column ]) (Says s)
    by None more f = let none : ⊥ = cc in absurd none
    by (Some m) more f = more m f
heard_reads (EndsOr x shape) [] end s e = let same : x ≡ s = cc in ap Says same
heard_reads (EndsOr x shape) (w ∷ ws) end s e = heard_reads shape (w ∷ ws) end s e
heard_reads (ThenMore k not_last next) [] end s e = let none : ⊥ = cc in absurd none
heard_reads (ThenMore k not_last next) (w ∷ ws) end s e =
    by (meaning k w.text) (λ m. heard_reads (next m) ws end s) (subst (λ c. ◌≡◌ {A = Option Statement} (elim (meaning k w.text) [ Some m ↦ (if c && not_last m then None else heard (next m) (texts ws)) | None ↦ None ]) (Some s)) (none_are ws) e)
  where
    behind : (m : Meaning k) (c : Bool) → (heard (next m) (texts ws) ≡ Some s → reads (next m) ws end ≡ Says s) → ◌≡◌ {A = Option Statement} (if c then None else heard (next m) (texts ws)) (Some s) → ◌≡◌ {A = Reading} (if c then Bad w.column else reads (next m) ws end) (Says s)
    behind m true more f = let none : ⊥ = cc in absurd none
    behind m false more f = more f

    by : (o : Option (Meaning k)) → ((m : Meaning k) → heard (next m) (texts ws) ≡ Some s → reads (next m) ws end ≡ Says s) →
        ◌≡◌ {A = Option Statement} (elim o [ Some m ↦ (if is_empty ws && not_last m then None else heard (next m) (texts ws)) | None ↦ None ]) (Some s) → ◌≡◌ {A = Reading} (elim o [ Some m ↦ (if is_empty ws && not_last m then Bad w.column else reads (next m) ws end) | None ↦ Bad w.column ]) (Says s)
    by None more f = let none : ⊥ = cc in absurd none
    by (Some m) more f = behind m (is_empty ws && not_last m) (more m) f

not_skipped : (ws : List Word) (b : ℕ) (bs : List ℕ) (ts : List (List ℕ)) → texts ws ≡ (b ∷ bs) ∷ ts → (b == 33) ≡ false → is_skipped ws ≡ false
not_skipped [] b bs ts e f = let none : ⊥ = cc in absurd none
not_skipped (w ∷ ws) b bs ts e f = subst (λ (t : List ℕ). ◌≡◌ {A = Bool} (elim t [ [] ↦ false | x ∷ xs ↦ x == 33 ]) false) (sym (let same : w.text ≡ b ∷ bs = cc in same)) f

-- a line whose words have these texts says this
pub said_by : (line : List ℕ) (b : ℕ) (bs : List ℕ) (ts : List (List ℕ)) (s : Statement) → texts_from Between line ≡ (b ∷ bs) ∷ ts → (b == 33) ≡ false → heard line_shape ((b ∷ bs) ∷ ts) ≡ Some s → reading line ≡ Says s
said_by line b bs ts s e f h =
    let same : texts (words_of line).words ≡ (b ∷ bs) ∷ ts = texts_are Between 1 line ∙ e in
    rw (not_skipped (words_of line).words b bs ts same f) (heard_reads line_shape (words_of line).words (words_of line).end s (ap (heard line_shape) same ∙ h))
