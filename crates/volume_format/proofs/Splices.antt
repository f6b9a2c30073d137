-- What stands where after fields were written.
use Rattle.std.proofs.Common.{◌≡◌, ℕ, ◌+◌, ◌≤◌, ◌++◌, List, [], ◌∷◌, length, arith, rules, true, refl, ◌∙◌, ap, sym, replicate, Some, zero, suc}
use Rattle.std.proofs.lemmas.List.{same_lists, places}
use Rattle.std.proofs.lemmas.Bool.Decides.{nat_tests}
use Rattle.file_base.specs.vms_model.Ids.{padded}
use Rattle.file_base.specs.Bytes.{piece_at}
use Rattle.volume_format.specs.Layout.{spliced, Row, laid, in_order, AllWide, AllStand, row_at}

pub length-spliced : (bytes : List ℕ) (at : ℕ) (piece : List ℕ) → at + length piece ≤ length bytes → length (spliced bytes at piece) ≡ length bytes
unfolding spliced
length-spliced bytes at piece within = search (rules, places)

pub piece_at-spliced_same : (bytes : List ℕ) (at : ℕ) (piece : List ℕ) (count : ℕ) → at + length piece ≤ length bytes → count ≡ length piece → piece_at (spliced bytes at piece) at count ≡ piece
unfolding spliced
piece_at-spliced_same bytes at piece count within is = same_lists _ _ (search (rules, places)) (λ k d h. grind (arith, places))

pub piece_at-spliced_below : (bytes : List ℕ) (at : ℕ) (piece : List ℕ) (from count : ℕ) → at + length piece ≤ length bytes → from + count ≤ at → piece_at (spliced bytes at piece) from count ≡ piece_at bytes from count
unfolding spliced
piece_at-spliced_below bytes at piece from count within apart = same_lists _ _ (search (rules, places)) (λ k d h. grind (arith, places))

-- the first field of a table in order, and those behind it
first_of : (at : ℕ) (r : Row) (rows : List Row) → in_order at (r ∷ rows) ≡ true → (at ≤ r.at) × (in_order (r.at + r.wide) rows ≡ true)
first_of at r rows up = grind (arith, nat_tests)

last_of : (at : ℕ) → in_order at [] ≡ true → at ≤ 512
last_of at up = grind (arith, nat_tests)

-- a table in order ends within a block
pub ends_within : (at : ℕ) (rows : List Row) → in_order at rows ≡ true → at ≤ 512
ends_within at [] up = last_of at up
ends_within at (r ∷ rows) up =
    let f = first_of at r rows up in
    let e = ends_within (r.at + r.wide) rows f.1 in omega arith

-- writing fields leaves the number of bytes
pub length-laid : (at : ℕ) (rows : List Row) (block : List ℕ) → in_order at rows ≡ true → AllWide rows → length block ≡ 512 → length (laid rows block) ≡ 512
length-laid at [] block up wide long = long
length-laid at (r ∷ rows) block up wide long =
    let f = first_of at r rows up in
    let e = ends_within (r.at + r.wide) rows f.1 in
    length-laid (r.at + r.wide) rows (spliced block r.at r.bytes) f.1 wide.1 (length-spliced block r.at r.bytes (omega (arith, wide.0)) ∙ long)

-- and what stands before the first of them
pub laid_below : (at : ℕ) (rows : List Row) (block : List ℕ) (from count : ℕ) → in_order at rows ≡ true → AllWide rows → length block ≡ 512 → from + count ≤ at → piece_at (laid rows block) from count ≡ piece_at block from count
laid_below at [] block from count up wide long below = refl
laid_below at (r ∷ rows) block from count up wide long below =
    let f = first_of at r rows up in
    let e = ends_within (r.at + r.wide) rows f.1 in
    let within : r.at + length r.bytes ≤ length block = omega (arith, wide.0) in
    laid_below (r.at + r.wide) rows (spliced block r.at r.bytes) from count f.1 wide.1 (length-spliced block r.at r.bytes within ∙ long) (omega arith)
    ∙ piece_at-spliced_below block r.at r.bytes from count within (omega arith)

some_row : (a b : Row) → Some a ≡ Some b → a ≡ b
some_row a b h = cc

-- a field is read as it was written
pub laid_read : (at n : ℕ) (rows : List Row) (block : List ℕ) (r : Row) → row_at n rows ≡ Some r → in_order at rows ≡ true → AllWide rows → length block ≡ 512 → piece_at (laid rows block) r.at r.wide ≡ r.bytes
laid_read at n [] block r is up wide long = absurd (search rules)
laid_read at zero (q ∷ rows) block r is up wide long =
    let f = first_of at q rows up in
    let e = ends_within (q.at + q.wide) rows f.1 in
    let within : q.at + length q.bytes ≤ length block = omega (arith, wide.0) in
    rw (← some_row q r is)
    (laid_below (q.at + q.wide) rows (spliced block q.at q.bytes) q.at q.wide f.1 wide.1 (length-spliced block q.at q.bytes within ∙ long) (omega arith)
    ∙ piece_at-spliced_same block q.at q.bytes q.wide within (sym wide.0))
laid_read at (suc n) (q ∷ rows) block r is up wide long =
    let f = first_of at q rows up in
    let e = ends_within (q.at + q.wide) rows f.1 in
    let within : q.at + length q.bytes ≤ length block = omega (arith, wide.0) in
    laid_read (q.at + q.wide) n rows (spliced block q.at q.bytes) r is f.1 wide.1 (length-spliced block q.at q.bytes within ∙ long)

-- written over zeros
pub spliced_zeros : (n : ℕ) (piece : List ℕ) → length piece ≤ n → spliced (replicate {A = ℕ} n 0) 0 piece ≡ padded n piece
unfolding spliced
spliced_zeros n piece within = same_lists _ _ (search (rules, places)) (λ k d h. grind (arith, places))

-- each field of a table is read as it was written
pub laid_stand : (at : ℕ) (rows : List Row) (block : List ℕ) → in_order at rows ≡ true → AllWide rows → length block ≡ 512 → AllStand (laid rows block) rows
laid_stand at [] block up wide long = tt
laid_stand at (r ∷ rows) block up wide long =
    let f = first_of at r rows up in
    let e = ends_within (r.at + r.wide) rows f.1 in
    let within : r.at + length r.bytes ≤ length block = omega (arith, wide.0) in
    let longer = length-spliced block r.at r.bytes within ∙ long in (
      laid_below (r.at + r.wide) rows (spliced block r.at r.bytes) r.at r.wide f.1 wide.1 longer (omega arith)
          ∙ piece_at-spliced_same block r.at r.bytes r.wide within (sym wide.0),
      laid_stand (r.at + r.wide) rows (spliced block r.at r.bytes) f.1 wide.1 longer,
    )

-- the fields of two tables
pub stand_parts : (block : List ℕ) (a b : List Row) → AllStand block (a ++ b) → AllStand block a × AllStand block b
stand_parts block [] b all = (tt, all)
stand_parts block (r ∷ a) b all = let p = stand_parts block a b all.1 in ((all.0, p.0), p.1)

-- a table in two parts is written one behind the other
pub laid_parts : (a b : List Row) (block : List ℕ) → laid (a ++ b) block ≡ laid b (laid a block)
laid_parts [] b block = refl
laid_parts (r ∷ a) b block = laid_parts a b (spliced block r.at r.bytes)

-- a piece written where it stands changes nothing
spliced_same : (bytes : List ℕ) (at count : ℕ) → at + count ≤ length bytes → spliced bytes at (piece_at bytes at count) ≡ bytes
unfolding spliced
spliced_same bytes at count within = same_lists _ _ (search (rules, places)) (λ k d h. grind (arith, places))

-- nor do fields that stand
pub laid_again : (at : ℕ) (rows : List Row) (block : List ℕ) → in_order at rows ≡ true → AllWide rows → length block ≡ 512 → AllStand block rows → laid rows block ≡ block
laid_again at [] block up wide long all = refl
laid_again at (r ∷ rows) block up wide long all =
    let f = first_of at r rows up in
    let e = ends_within (r.at + r.wide) rows f.1 in
    ap (laid rows) (ap (spliced block r.at) (sym all.0) ∙ spliced_same block r.at r.wide (omega arith))
    ∙ laid_again (r.at + r.wide) rows block f.1 wide.1 long all.1
