-- What the reader of command lines makes of words of which none begins with a dash.
use Rattle.std.proofs.Common.{◌≡◌, ◌∙◌, ◌||◌, ◌&&◌, ◌==◌, ℕ, List, [], ◌∷◌, ◌++◌, Bool, true, false, Some, None, fold, unwrap_or, codes, refl, sym, ap}
use Rattle.std.specs.List.{list_any}
use Rattle.std.proofs.lemmas.Bool.{false≢true}
use Rattle.std.proofs.lemmas.List.{append_assoc}
use Rattle.clap.specs.Walk.{Row, Rule, Text, Walk, all_of, finished, positional, reading_by, walk_from, walked, nothing_held}
use Rattle.clap.specs.Simple.{App, Shape, app_of, app_of_fields, built, is_simple, matches_of, new_app, new_rule, new_shape, with_rule}
use Rattle.clap.specs.Takes.{takes, turn_passes, walk_passes}
use Rattle.clap.specs.declared.builder.action.ArgAction.TheVariants.{Append}
use Rattle.clap.specs.declared.builder.command.Command.{Command}
use Rattle.clap.specs.declared.builder.command.Command.TheOpen.{Command-F}
use Rattle.clap.specs.declared.builder.command.Command.TheViews.{out-Command}
use Rattle.clap.specs.declared.builder.value_parser.ValueParser.TheVariants as vp
use Rattle.clap.specs.declared.parser.matches.ValueSource.TheVariants.{CommandLine}
use Rattle.dtm_command.specs.Images.{is_dashed}

-- the only argument, as it is declared
abbrev pub image : Rule
image = record (new_rule (codes "IMAGE")) { action = Some Append }

-- the command before the argument is added, and with it
abbrev bare : App
bare = record { top = record (new_shape (codes "dtm")) { no_binary_name = true; disable_help_flag = true }; subs = [] }

abbrev pub reader : App
reader = with_rule bare image

pub is_bare : (made unnamed helpless : Command) → app_of made ≡ new_app (codes "dtm") → out-Command unnamed ≡ record (out-Command made) { no_binary_name = true } → out-Command helpless ≡ record (out-Command unnamed) { disable_help_flag = true } →
    app_of helpless ≡ bare
is_bare made unnamed helpless is first second =
    ap app_of_fields (second ∙ ap (λ (f : Command-F Command). record f { disable_help_flag = true }) first) ∙ ap (λ (a : App). record { top = record a.top { no_binary_name = true; disable_help_flag = true }; subs = a.subs }) is

-- the argument, once the command is built
abbrev full : Rule
full = record image { index = Some 1; range = Some (record { start_inclusive = 1; end_inclusive = 1 }); parser = Some vp.String }

-- what was found once these words were used
abbrev rows_with : List Text → List Row
rows_with [] = []
rows_with (v ∷ vs) = record { id = codes "IMAGE"; values = v ∷ vs; count = None; source = Some CommandLine; reading = reading_by full } ∷ []

-- between two words: these were used, and the last one waits
abbrev between : List Text → Text → Walk
between vs v = record { held = record { rows = rows_with vs; pending = Some (codes "IMAGE", v ∷ []); skip = 0 }; waiting = positional; position = 1; is_trailing = false; stopped = None }

-- the same test, as it is computed
as_digit : (b : ℕ) → is_dashed (b ∷ []) ≡ false → (b == 45) ≡ false
as_digit b plain = plain

walked_first : (word : Text) → is_dashed word ≡ false → walked (full ∷ []) [] (walk_from nothing_held) word ≡ between [] word
unfolding walked
walked_first [] plain = refl
walked_first (b ∷ word) plain = rw (plain, as_digit b plain) refl

walked_next : (vs : List Text) (v word : Text) → is_dashed word ≡ false → walked (full ∷ []) [] (between vs v) word ≡ between (vs ++ v ∷ []) word
unfolding walked
walked_next [] v [] plain = refl
walked_next [] v (b ∷ word) plain = rw (plain, as_digit b plain) refl
walked_next (x ∷ vs) v [] plain = refl
walked_next (x ∷ vs) v (b ∷ word) plain = rw (plain, as_digit b plain) refl

ends_between : (vs : List Text) (v : Text) → finished (full ∷ []) (between vs v).held ≡ rows_with (vs ++ v ∷ [])
ends_between [] v = refl
ends_between (x ∷ vs) v = refl

or_false : (a b : Bool) → (a || b) ≡ false → (a ≡ false) × (b ≡ false)
or_false false b e = (refl, e)
or_false true b e = absurd (false≢true (sym e))

reads_on : (vs : List Text) (v : Text) (words : List Text) → list_any is_dashed words ≡ false → finished (full ∷ []) (fold (walked (full ∷ []) []) (between vs v) words).held ≡ rows_with (vs ++ v ∷ words)
reads_on vs v [] plain = ends_between vs v
reads_on vs v (word ∷ words) plain =
    let parts = or_false (is_dashed word) (list_any is_dashed words) plain in
    ap (λ (w : Walk). finished (full ∷ []) (fold (walked (full ∷ []) []) w words).held) (walked_next vs v word parts.0)
    ∙ reads_on (vs ++ v ∷ []) word words parts.1
    ∙ ap rows_with (append_assoc vs (v ∷ []) (word ∷ words))

-- each word is a value, in order
pub values_read : (words : List Text) → list_any is_dashed words ≡ false → unwrap_or (all_of (codes "IMAGE") (matches_of reader words)) [] ≡ words
values_read [] plain = refl
values_read (word ∷ words) plain =
    let parts = or_false (is_dashed word) (list_any is_dashed words) plain in
    ap (λ rows. unwrap_or (all_of (codes "IMAGE") rows) [])
    (ap (λ (w : Walk). finished (full ∷ []) (fold (walked (full ∷ []) []) w words).held) (walked_first word parts.0) ∙ reads_on [] word words parts.1)

pub is_simple_reader : is_simple reader ≡ true
is_simple_reader = refl

-- no word is refused

abbrev shape : Shape
shape = (built reader).top

turn_first : (word : Text) → is_dashed word ≡ false → turn_passes shape [] (walk_from nothing_held) word ≡ true
turn_first [] plain = refl
turn_first (b ∷ word) plain = rw (plain, as_digit b plain) refl

turn_next : (vs : List Text) (v word : Text) → is_dashed word ≡ false → turn_passes shape [] (between vs v) word ≡ true
turn_next vs v [] plain = refl
turn_next vs v (b ∷ word) plain = rw (plain, as_digit b plain) refl

both_true : (a b : Bool) → a ≡ true → b ≡ true → (a && b) ≡ true
both_true a b e f = ap (λ c. c && b) e ∙ f

walk_passes_on : (vs : List Text) (v : Text) (words : List Text) → list_any is_dashed words ≡ false → walk_passes shape [] (between vs v) words ≡ true
unfolding walk_passes
walk_passes_on vs v [] plain = refl
walk_passes_on vs v (word ∷ words) plain =
    let parts = or_false (is_dashed word) (list_any is_dashed words) plain in
    both_true (turn_passes shape [] (between vs v) word) (walk_passes shape [] (walked (full ∷ []) [] (between vs v) word) words) (turn_next vs v word parts.0)
    (ap (λ (w : Walk). walk_passes shape [] w words) (walked_next vs v word parts.0) ∙ walk_passes_on (vs ++ v ∷ []) word words parts.1)

walk_passes_all : (words : List Text) → list_any is_dashed words ≡ false → walk_passes shape [] (walk_from nothing_held) words ≡ true
unfolding walk_passes
walk_passes_all [] plain = refl
walk_passes_all (word ∷ words) plain =
    let parts = or_false (is_dashed word) (list_any is_dashed words) plain in
    both_true (turn_passes shape [] (walk_from nothing_held) word) (walk_passes shape [] (walked (full ∷ []) [] (walk_from nothing_held) word) words) (turn_first word parts.0)
    (ap (λ (w : Walk). walk_passes shape [] w words) (walked_first word parts.0) ∙ walk_passes_on [] word words parts.1)

-- where a walk over such words ends
ends_at : (vs : List Text) (v : Text) (words : List Text) → list_any is_dashed words ≡ false → (us : List Text) × (u : Text) × (fold (walked (full ∷ []) []) (between vs v) words ≡ between us u)
ends_at vs v [] plain = (vs, v, refl)
ends_at vs v (word ∷ words) plain =
    let parts = or_false (is_dashed word) (list_any is_dashed words) plain in
    let rest = ends_at (vs ++ v ∷ []) word words parts.1 in
    (rest.0, rest.1, ap (λ (w : Walk). fold (walked (full ∷ []) []) w words) (walked_next vs v word parts.0) ∙ rest.2)

pub words_taken : (words : List Text) → list_any is_dashed words ≡ false → takes reader words ≡ true
words_taken [] plain = rw (walk_passes_all [] plain) refl
words_taken (word ∷ words) plain =
    let parts = or_false (is_dashed word) (list_any is_dashed words) plain in
    let end = ends_at [] word words parts.1 in
    let there : fold (walked (full ∷ []) []) (walked (full ∷ []) [] (walk_from nothing_held) word) words ≡ between end.0 end.1 =
    ap (λ (w : Walk). fold (walked (full ∷ []) []) w words) (walked_first word parts.0) ∙ end.2 in
    rw (there, walk_passes_all (word ∷ words) plain) refl
