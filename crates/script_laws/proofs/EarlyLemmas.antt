-- Moments to which a clock is set, or up to which a file is recovered, can be read.
use Rattle.std.proofs.Common.{◌≡◌, ℕ, ◌+◌, ◌-◌, ◌*◌, ◌<◌, ◌≤◌, List, [], ◌∷◌, Bool, true, false, Option, Some, None, if◌then◌else◌, refl, ap, subst, ℤ, pos, negsuc, ◌+ℤ◌, arith}
use Rattle.std.specs.Prelude.{◌&&◌, nat_le, ◌==◌, length}
use Rattle.std.specs.Option.{option_and_then, option_map}
use Rattle.std.specs.Char.{is_ascii_digit}
use Rattle.std.specs.List.{AllByRecursion}
use Rattle.std.specs.Str.{bytes_eq}
use Rattle.std.proofs.lemmas.Bool.Decides.{nat_tests}
use Rattle.jiff_core.specs.Calendar.{day_count, days_from_civil, days_in_month}
use Rattle.jiff_core.proofs.SignedLemmas.{signed_arith}
use Rattle.jiff_core.proofs.MarchLemmas.{day_count-early}
use Rattle.jiff_core.proofs.CalendarLemmas.{day_count-lt_year, days_from_civil-day_count}
use Rattle.vms_model.specs.Names.{upper}
use Rattle.vms_model.specs.Times.{CanBeRead, MomentSaid, NoDay, NoForm, TimeSaid, clock_said, date_said, day_number, day_said, digits_said, moment_at, months, natural, time_from, time_said}
use Rattle.vms_model.specs.Words.{among, number_from, number_next, parted_at}
use Rattle.script_model.specs.Grammar as grammar
use Rattle.script_model.specs.Grammar.{Ends, EndsOr, ThenMore, Kind, Meaning, Shape, Then, ATime, behind_first, form_operands, line_shape, meaning, operands, put_operands, reading, reads, world_operands}
use Rattle.script_model.specs.LineWords.{Word, is_empty, words_of}
use Rattle.script_model.specs.Operands.{KeyWord, Numbered, Spelled, moment_in, time_word_said, to_quote}
use Rattle.script_model.specs.Statements as said
use Rattle.script_model.specs.Statements.{Blank, Bad, Reading, Says, Statement}
use Rattle.script_laws.specs.Clocks.{IsEarly}

-- Numbers.

some_at : {A : Type 0} (x y : A) → Some x ≡ Some y → x ≡ y
some_at x y e = cc

-- digits make no more than their limit
next_within : (limit n b m : ℕ) → number_next limit n b ≡ Some m → m ≤ limit
next_within limit n b m e = go (is_ascii_digit b) (nat_le (n * 10 + (b - 48)) limit) refl e
  where
    go : (d t : Bool) → nat_le (n * 10 + (b - 48)) limit ≡ t → (let o : Option ℕ = if d && t then Some (n * 10 + (b - 48)) else None in o) ≡ Some m → m ≤ limit
    go true true is k = let same : n * 10 + (b - 48) ≡ m = some_at (n * 10 + (b - 48)) m k in grind (arith, nat_tests)
    go true false is k = let never : ⊥ = cc in absurd never
    go false t is k = let never : ⊥ = cc in absurd never

from_within : (limit n : ℕ) (bs : List ℕ) (m : ℕ) → n ≤ limit → number_from limit n bs ≡ Some m → m ≤ limit
from_within limit n [] m few e = let same : n ≡ m = some_at n m e in omega arith
from_within limit n (b ∷ bs) m few e = go (number_next limit n b) refl e (λ k within. from_within limit k bs m within)
  where
    go : (o : Option ℕ) → number_next limit n b ≡ o → option_and_then (λ k. number_from limit k bs) o ≡ Some m → ((k : ℕ) → k ≤ limit → number_from limit k bs ≡ Some m → m ≤ limit) → m ≤ limit
    go (Some k) is f more = more k (next_within limit n b k is) f
    go None is f more = let never : ⊥ = cc in absurd never

digits_within : (many limit : ℕ) (text : List ℕ) (m : ℕ) → digits_said many limit text ≡ Some m → m ≤ limit
digits_within many limit text m e = go (length text == many) e
  where
    go : (b : Bool) → (let o : Option ℕ = if b then number_from limit 0 text else None in o) ≡ Some m → m ≤ limit
    go true f = from_within limit 0 text m (omega arith) f
    go false f = let never : ⊥ = cc in absurd never

-- a value of a table
among_all : {A : Type 0} (P : A → Type 0) (rows : List (List ℕ × A)) (text : List ℕ) (x : A) → AllByRecursion (λ (row : List ℕ × A). P row.1) rows → among rows text ≡ Some x → P x
among_all {A = A} P [] text x h e = let never : ⊥ = cc in absurd never
among_all {A = A} P (row ∷ rows) text x h e = go (bytes_eq row.0 (upper text)) e (among_all P rows text x h.1)
  where
    go : (b : Bool) → (let o : Option A = if b then Some row.1 else among rows text in o) ≡ Some x → (among rows text ≡ Some x → P x) → P x
    go true f more = subst P (some_at row.1 x f) h.0
    go false f more = more f

month_within : (text : List ℕ) (m : ℕ) → among months text ≡ Some m → (1 ≤ m) × (m ≤ 12)
month_within text m e = among_all (λ k. (1 ≤ k) × (k ≤ 12)) months text m
    ((omega arith, omega arith), ((omega arith, omega arith), ((omega arith, omega arith), ((omega arith, omega arith), ((omega arith, omega arith), ((omega arith, omega arith), ((omega arith, omega arith), ((omega arith, omega arith), ((omega arith, omega arith), ((omega arith, omega arith), ((omega arith, omega arith), ((omega arith, omega arith), tt)))))))))))) e

-- Days.

-- the first day of the year 9000
day_count-9000 : day_count (pos 9000) 1 1 ≡ 6939608
day_count-9000 = day_count-early (pos 9000) 18999 1 1 refl (omega arith) (omega arith) (omega arith)

day_within : (year month day n : ℕ) → (1 ≤ month) × (month ≤ 12) → day_number year month day ≡ Some n → n < 2608242
day_within year month day n m e = go (nat_le 1 day) (nat_le day (days_in_month (pos year) month)) (nat_le year 8999) refl refl refl e
  where
    counted : (k : ℕ) → natural (days_from_civil (pos year) month day +ℤ pos 40587) ≡ Some k → day_count (pos year) month day < 6939608 → k < 2608242
    counted k f few = by (days_from_civil (pos year) month day +ℤ pos 40587) refl f
      where
        by : (z : ℤ) → days_from_civil (pos year) month day +ℤ pos 40587 ≡ z → natural z ≡ Some k → k < 2608242
        by (pos j) is g = let same : j ≡ k = some_at j k g in omega (arith, signed_arith, days_from_civil-day_count (pos year) month day, is, few)
        by (negsuc j) is g = let never : ⊥ = cc in absurd never

    go : (a b c : Bool) → nat_le 1 day ≡ a → nat_le day (days_in_month (pos year) month) ≡ b → nat_le year 8999 ≡ c →
        (let o : Option ℕ = if a && b && c then natural (days_from_civil (pos year) month day +ℤ pos 40587) else None in o) ≡ Some n → n < 2608242
    go true true true low high early f =
        let first : 1 ≤ day = grind (arith, nat_tests) in
        let last : day ≤ days_in_month (pos year) month = grind (arith, nat_tests) in
        let years : year ≤ 8999 = grind (arith, nat_tests) in
        counted n f (subst (λ k. day_count (pos year) month day < k) day_count-9000
        (day_count-lt_year (pos year) month day (pos 9000) 1 1 ((omega (arith, signed_arith), omega (arith, signed_arith)), (m.0, m.1), (first, last)) (omega arith) (omega (arith, signed_arith))))
    go true true false low high early f = let never : ⊥ = cc in absurd never
    go true false c low high early f = let never : ⊥ = cc in absurd never
    go false b c low high early f = let never : ⊥ = cc in absurd never

-- Dates and times.

and_then_some : {A B : Type 0} (f : A → Option B) (o : Option A) (y : B) → option_and_then f o ≡ Some y → (x : A) × (o ≡ Some x) × (f x ≡ Some y)
and_then_some f (Some x) y e = (x, refl, e)
and_then_some f None y e = let never : ⊥ = cc in absurd never

map_some : {A B : Type 0} (f : A → B) (o : Option A) (y : B) → option_map f o ≡ Some y → (x : A) × (o ≡ Some x) × (f x ≡ y)
map_some f (Some x) y e = (x, refl, some_at (f x) y e)
map_some f None y e = let never : ⊥ = cc in absurd never

date_month : (text : List ℕ) (date : ℕ × ℕ × ℕ) → date_said text ≡ Some date → (1 ≤ date.1) × (date.1 ≤ 12)
date_month text date e =
    let a = and_then_some (λ a. option_and_then (λ b. option_and_then (λ day. option_and_then (λ month. option_map (λ year. (let d : ℕ × ℕ × ℕ = (year, month, day) in d)) (digits_said 4 9999 b.1)) (among months b.0)) (day_said a.0)) (parted_at 45 a.1)) (parted_at 45 text) date e in
    let b = and_then_some (λ b. option_and_then (λ day. option_and_then (λ month. option_map (λ year. (let d : ℕ × ℕ × ℕ = (year, month, day) in d)) (digits_said 4 9999 b.1)) (among months b.0)) (day_said a.0.0)) (parted_at 45 a.0.1) date a.2 in
    let c = and_then_some (λ day. option_and_then (λ month. option_map (λ year. (let d : ℕ × ℕ × ℕ = (year, month, day) in d)) (digits_said 4 9999 b.0.1)) (among months b.0.0)) (day_said a.0.0) date b.2 in
    let d = and_then_some (λ month. option_map (λ year. (let d : ℕ × ℕ × ℕ = (year, month, c.0) in d)) (digits_said 4 9999 b.0.1)) (among months b.0.0) date c.2 in
    let y = map_some (λ year. (let z : ℕ × ℕ × ℕ = (year, d.0, c.0) in z)) (digits_said 4 9999 b.0.1) date d.2 in
    let m = month_within b.0.0 d.0 d.1 in
    subst (λ (z : ℕ × ℕ × ℕ). (1 ≤ z.1) × (z.1 ≤ 12)) y.2 m

clock_within : (text : List ℕ) (n : ℕ) → clock_said text ≡ Some n → n < 8640000
clock_within text n e =
    let a = and_then_some (λ a. option_and_then (λ b. option_and_then (λ c. option_and_then (λ hour. option_and_then (λ minute. option_and_then (λ second. option_map (λ part. ((hour * 60 + minute) * 60 + second) * 100 + part)
    (digits_said 2 99 c.1)) (digits_said 2 59 c.0)) (digits_said 2 59 b.0)) (digits_said 2 23 a.0)) (parted_at 46 b.1)) (parted_at 58 a.1)) (parted_at 58 text) n e in
    let b = and_then_some (λ b. option_and_then (λ c. option_and_then (λ hour. option_and_then (λ minute. option_and_then (λ second. option_map (λ part. ((hour * 60 + minute) * 60 + second) * 100 + part)
    (digits_said 2 99 c.1)) (digits_said 2 59 c.0)) (digits_said 2 59 b.0)) (digits_said 2 23 a.0.0)) (parted_at 46 b.1)) (parted_at 58 a.0.1) n a.2 in
    let c = and_then_some (λ c. option_and_then (λ hour. option_and_then (λ minute. option_and_then (λ second. option_map (λ part. ((hour * 60 + minute) * 60 + second) * 100 + part)
    (digits_said 2 99 c.1)) (digits_said 2 59 c.0)) (digits_said 2 59 b.0.0)) (digits_said 2 23 a.0.0)) (parted_at 46 b.0.1) n b.2 in
    let h = and_then_some (λ hour. option_and_then (λ minute. option_and_then (λ second. option_map (λ part. ((hour * 60 + minute) * 60 + second) * 100 + part)
    (digits_said 2 99 c.0.1)) (digits_said 2 59 c.0.0)) (digits_said 2 59 b.0.0)) (digits_said 2 23 a.0.0) n c.2 in
    let m = and_then_some (λ minute. option_and_then (λ second. option_map (λ part. ((h.0 * 60 + minute) * 60 + second) * 100 + part) (digits_said 2 99 c.0.1)) (digits_said 2 59 c.0.0)) (digits_said 2 59 b.0.0) n h.2 in
    let s = and_then_some (λ second. option_map (λ part. ((h.0 * 60 + m.0) * 60 + second) * 100 + part) (digits_said 2 99 c.0.1)) (digits_said 2 59 c.0.0) n m.2 in
    let p = map_some (λ part. ((h.0 * 60 + m.0) * 60 + s.0) * 100 + part) (digits_said 2 99 c.0.1) n s.2 in
    let hours = digits_within 2 23 a.0.0 h.0 h.1 in
    let minutes = digits_within 2 59 b.0.0 m.0 m.1 in
    let seconds = digits_within 2 59 c.0.0 s.0 s.1 in
    let parts = digits_within 2 99 c.0.1 p.0 p.1 in
    let is = p.2 in
    omega (arith, hours, minutes, seconds, parts, is)

moment_at_within : (o : Option ℕ) (clock m : ℕ) → moment_at o clock ≡ MomentSaid m → clock < 8640000 → ((n : ℕ) → o ≡ Some n → n < 2608242) → CanBeRead m
moment_at_within (Some days) clock m e few within = let same : days * 8640000 + clock ≡ m = cc in let d = within days refl in omega (arith, same, d, few)
moment_at_within None clock m e few within = let never : ⊥ = cc in absurd never

from_read : (d : Option (ℕ × ℕ × ℕ)) (c : Option ℕ) (m : ℕ) → time_from d c ≡ MomentSaid m → ((date : ℕ × ℕ × ℕ) → d ≡ Some date → (1 ≤ date.1) × (date.1 ≤ 12)) → ((n : ℕ) → c ≡ Some n → n < 8640000) → CanBeRead m
from_read (Some date) (Some clock) m e month few = moment_at_within (day_number date.0 date.1 date.2) clock m e (few clock refl) (λ n is. day_within date.0 date.1 date.2 n (month date refl) is)
from_read (Some date) None m e month few = let never : ⊥ = cc in absurd never
from_read None c m e month few = let never : ⊥ = cc in absurd never

said_read : (text : List ℕ) (m : ℕ) → time_said text ≡ MomentSaid m → CanBeRead m
unfolding time_said
said_read text m e = go (parted_at 32 text) e
  where
    go : (o : Option (List ℕ × List ℕ)) → (elim o as (λ _. TimeSaid) [ Some parts ↦ time_from (date_said parts.0) (clock_said parts.1) | None ↦ NoForm ]) ≡ MomentSaid m → CanBeRead m
    go (Some parts) f = from_read (date_said parts.0) (clock_said parts.1) m f (date_month parts.0) (clock_within parts.1)
    go None f = let never : ⊥ = cc in absurd never

moment_read : (t : TimeSaid) (m : ℕ) → moment_in t ≡ Some m → t ≡ MomentSaid m
moment_read NoForm m e = let never : ⊥ = cc in absurd never
moment_read NoDay m e = let never : ⊥ = cc in absurd never
moment_read (MomentSaid k) m e = ap MomentSaid (some_at k m e)

word_read : (text : List ℕ) (m : ℕ) → time_word_said text ≡ Some m → CanBeRead m
word_read [] m e = let never : ⊥ = cc in absurd never
word_read (b ∷ bs) m e = go (b == 34) e
  where
    go : (t : Bool) → (let o : Option ℕ = if t then option_and_then (λ text. moment_in (time_said text)) (to_quote bs) else None in o) ≡ Some m → CanBeRead m
    go true f = let p = and_then_some (λ text. moment_in (time_said text)) (to_quote bs) m f in said_read p.0 m (moment_read (time_said p.0) m p.2)
    go false f = let never : ⊥ = cc in absurd never

-- Statements.

abbrev IsMeant : (k : Kind) → Meaning k → Type 0
IsMeant ATime now = CanBeRead now
IsMeant _ m = Unit {0}

abbrev IsEarlyShape : Shape → Type 0
IsEarlyShape (Ends s) = IsEarly s
IsEarlyShape (Then k next) = (m : Meaning k) → IsMeant k m → IsEarlyShape (next m)
IsEarlyShape (EndsOr s shape) = IsEarly s × IsEarlyShape shape
IsEarlyShape (ThenMore k not_last next) = (m : Meaning k) → IsMeant k m → IsEarlyShape (next m)

said_so : (s t : Statement) → Says s ≡ Says t → s ≡ t
said_so s t e = cc

meant : (k : Kind) (text : List ℕ) (m : Meaning k) → meaning k text ≡ Some m → IsMeant k m
meant grammar.AFirst text m e = tt
meant grammar.AVerb text m e = tt
meant grammar.ANode text m e = tt
meant grammar.ALabel text m e = tt
meant grammar.ALabelOrNone text m e = tt
meant grammar.ABranch text m e = tt
meant grammar.AFile text m e = tt
meant grammar.AnOrganization text m e = tt
meant grammar.ASetting text m e = tt
meant grammar.ASide text m e = tt
meant grammar.ADirection text m e = tt
meant grammar.AManager text m e = tt
meant grammar.AReply text m e = tt
meant grammar.ALogWord text m e = tt
meant grammar.ANumber text m e = tt
meant grammar.ALongNumber text m e = tt
meant grammar.SomeBytes text m e = tt
meant grammar.AKey text m e = tt
meant grammar.ATime text m e = word_read text m e
meant grammar.ATimeout text m e = tt
meant grammar.AnUntil text m e = tt

reads_early : (shape : Shape) (ws : List Word) (end : ℕ) (s : Statement) → IsEarlyShape shape → reads shape ws end ≡ Says s → IsEarly s
reads_early (Ends t) [] end s h e = subst IsEarly (said_so t s e) h
reads_early (Ends t) (w ∷ ws) end s h e = let never : ⊥ = cc in absurd never
reads_early (Then k next) [] end s h e = let never : ⊥ = cc in absurd never
reads_early (Then k next) (w ∷ ws) end s h e = go (meaning k w.text) refl e (λ m early f. reads_early (next m) ws end s early f)
  where
    go : (o : Option (Meaning k)) → meaning k w.text ≡ o → (elim o as (λ _. Reading) [ Some m ↦ reads (next m) ws end | None ↦ Bad w.column ]) ≡ Says s → ((m : Meaning k) → IsEarlyShape (next m) → reads (next m) ws end ≡ Says s → IsEarly s) → IsEarly s
    go (Some m) is f more = more m (h m (meant k w.text m is)) f
    go None is f more = let never : ⊥ = cc in absurd never
reads_early (EndsOr t shape) [] end s h e = subst IsEarly (said_so t s e) h.0
reads_early (EndsOr t shape) (w ∷ ws) end s h e = reads_early shape (w ∷ ws) end s h.1 e
reads_early (ThenMore k not_last next) [] end s h e = let never : ⊥ = cc in absurd never
reads_early (ThenMore k not_last next) (w ∷ ws) end s h e = go (meaning k w.text) refl e (λ m early f. reads_early (next m) ws end s early f)
  where
    last : (m : Meaning k) (b : Bool) → (if b then Bad w.column else reads (next m) ws end) ≡ Says s → reads (next m) ws end ≡ Says s
    last m true f = let never : ⊥ = cc in absurd never
    last m false f = f

    go : (o : Option (Meaning k)) → meaning k w.text ≡ o → (elim o as (λ _. Reading) [ Some m ↦ (if is_empty ws && not_last m then Bad w.column else reads (next m) ws end) | None ↦ Bad w.column ]) ≡ Says s →
        ((m : Meaning k) → IsEarlyShape (next m) → reads (next m) ws end ≡ Says s → IsEarly s) → IsEarly s
    go (Some m) is f more = more m (h m (meant k w.text m is)) (last m (is_empty ws && not_last m) f)
    go None is f more = let never : ⊥ = cc in absurd never

form_early : (n f : List ℕ) (o : grammar.Organization) (bucket size count : ℕ) → IsEarlyShape (form_operands n f o bucket size count)
form_early n f grammar.Sequential bucket size count = tt
form_early n f grammar.Relative bucket size count = tt
form_early n f grammar.Indexed bucket size count = λ position p key k. tt

asked_early : (n : List ℕ) (l : Option (List ℕ)) (f : List ℕ) (op : said.Operation) → IsEarly (grammar.asked n l f op)
asked_early n (Some l) f op = tt
asked_early n None f op = tt

put_early : (n : List ℕ) (l : Option (List ℕ)) (f : List ℕ) (k : KeyWord) → IsEarlyShape (put_operands n l f k)
put_early n l f (Numbered number) = λ bytes b. asked_early n l f (said.Put (Some number) bytes)
put_early n l f (Spelled bytes) = asked_early n l f (said.Put None bytes)

log_early : (n : List ℕ) (w : grammar.LogWord) → IsEarly (said.At n (grammar.log_asked w))
log_early n grammar.Show = tt
log_early n grammar.Dumped = tt

mark_early : (n f : List ℕ) (mark : grammar.Mark) → IsEarlyShape (grammar.mark_operands n f mark)
mark_early n f (grammar.Whole setting) = tt
mark_early n f (grammar.OfBlocks side) = λ blocks b. tt

journal_early : (n f : List ℕ) → IsEarlyShape (grammar.journal_operands n f)
journal_early n f = go (bytes_eq f grammar.units_word)
  where
    go : (b : Bool) → IsEarlyShape (if b then EndsOr (said.At n said.DumpJournal) (grammar.image_operands n f) else grammar.image_operands n f)
    go true = (tt, λ side s. tt)
    go false = λ side s. tt

direction_early : (n f : List ℕ) (side : said.Side) → IsEarlyShape (grammar.direction_operands n f side)
direction_early n f said.AfterImages = (tt, λ u _ until early. early)
direction_early n f said.BeforeImages = λ u _ until early. early

operands_early : (n : List ℕ) (v : grammar.Verb) → IsEarlyShape (operands n v)
operands_early n grammar.Init = (tt, λ slots s blocks b. tt)
operands_early n grammar.Boot = tt
operands_early n grammar.Create = λ f _ o _ bucket _ size _ count _. form_early n f o bucket size count
operands_early n grammar.SetFile = λ f _ m _. mark_early n f m
operands_early n grammar.StartTrans = λ l _. (tt, λ t _ s _. tt)
operands_early n grammar.AddBranch = λ l _ o _ m _. tt
operands_early n grammar.StartBranch = λ l _. tt
operands_early n grammar.Put = λ l _ f _ k _. put_early n l f k
operands_early n grammar.Update = λ l _ f _ k _ bytes _. asked_early n l f _
operands_early n grammar.Delete = λ l _ f _ k _. asked_early n l f _
operands_early n grammar.Truncate = λ l _ f _ k _. asked_early n l f _
operands_early n grammar.Get = λ l _ f _ k _. asked_early n l f _
operands_early n grammar.Next = λ l _ f _. (asked_early n l f _, λ k _. asked_early n l f _)
operands_early n grammar.EndBranch = λ l _. tt
operands_early n grammar.EndTrans = λ l _. tt
operands_early n grammar.AbortTrans = λ l _. tt
operands_early n grammar.Inquire = λ b _. tt
operands_early n grammar.DeclareRm = λ rm _. tt
operands_early n grammar.JoinRm = λ l _ rm _. tt
operands_early n grammar.AckEvent = λ b _ rm _ reply _. tt
operands_early n grammar.ForgetRm = λ rm _. tt
operands_early n grammar.GetDti = λ b _. tt
operands_early n grammar.Lmcp = λ w _. log_early n w
operands_early n grammar.Dump = λ f _. tt
operands_early n grammar.DumpJournal = λ f _. journal_early n f
operands_early n grammar.Backup = λ f _. tt
operands_early n grammar.Recover = λ f _ side _. direction_early n f side

world_early : (v : grammar.WorldVerb) → IsEarlyShape (world_operands v)
world_early grammar.Fuse = λ n _ w _ c _. tt
world_early grammar.Crash = λ n _. tt
world_early grammar.Clock = λ n _ now early. early
world_early grammar.Deliver = λ k _. tt
world_early grammar.LinkDown = λ a _ b _. tt
world_early grammar.Settle = tt

first_early : (f : grammar.First) → IsEarlyShape (behind_first f)
first_early (grammar.ToNode n) = λ v _. operands_early n v
first_early (grammar.ToWorld v) = world_early v

-- what a line says
pub reading_early : (text : List ℕ) (s : Statement) → reading text ≡ Says s → IsEarly s
reading_early text s e = go (grammar.is_skipped (words_of text).words) e
  where
    go : (b : Bool) → (if b then Blank else reads line_shape (words_of text).words (words_of text).end) ≡ Says s → IsEarly s
    go true f = let never : ⊥ = cc in absurd never
    go false f = reads_early line_shape (words_of text).words (words_of text).end s (λ m _. first_early m) f
