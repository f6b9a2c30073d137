-- Runs of free blocks, as the world finds them, are those between a volume's extents.
use Rattle.std.proofs.Common.{◌≡◌, ℕ, zero, suc, ◌+◌, ◌-◌, ◌<◌, ◌≤◌, List, Bool, true, false, Option, Some, None, nat_le, if◌then◌else◌, refl, sym, ap, subst, ◌∙◌, arith, inl, inr}
use Rattle.std.proofs.lemmas.Bool.{leb-true, leb-false, cases_lt, cases_eq}
use Rattle.extents.specs.file_base.declared.head.FileHead.{FileHead}
use Rattle.extents.specs.Extents.{IsFreeRun, all_extents, is_used, is_free}
use Rattle.extents.proofs.Used.{covered, covering, free_is, is_free_block}
use Rattle.file_images.specs.run_model.Extents.{Extent, is_taken, run_from, longest_run, lowest_run}
use Rattle.extents.specs.declared.extent.Extent.{Extent as Area}
use Rattle.file_images.specs.run_model.World.{Node, area_start, extents_of, longest_free, lowest_free}
use Rattle.directory_model.specs.Files.{AreFiles}
use Rattle.directory_model.specs.Laws.{FindsRuns, area_of}
use Rattle.directory_model.proofs.Blocks.{takes_blocks}

-- so many blocks are free from one on
abbrev Free : List Extent → ℕ → ℕ → Type 0
Free es start blocks = (b : ℕ) → start ≤ b → b < start + blocks → is_taken es b ≡ false

module _ (es : List Extent) where
  run_zero : (n more : ℕ) → is_taken es n ≡ true → run_from es n (suc more) ≡ 0
  run_zero n more taken = ap (λ b. if b then 0 else suc (run_from es (suc n) more)) taken

  run_more : (n more : ℕ) → is_taken es n ≡ false → run_from es n (suc more) ≡ suc (run_from es (suc n) more)
  run_more n more free = ap (λ b. if b then 0 else suc (run_from es (suc n) more)) free

  -- a run that is found is free, and lies in the area
  run_fits : (n room : ℕ) → run_from es n room ≤ room
  run_fits n zero = omega arith
  run_fits n (suc more) = elim (is_taken es n) as (λ b. is_taken es n ≡ b → run_from es n (suc more) ≤ suc more) [
    | true ↦ λ t. let none = run_zero n more t in omega arith
    | false ↦ λ t. let one = run_more n more t in let rest = run_fits (suc n) more in omega arith
  ] refl

  run_free : (n room : ℕ) → Free es n (run_from es n room)
  run_free n zero b from below = absurd (omega arith)
  run_free n (suc more) b from below = elim (is_taken es n) as (λ t. is_taken es n ≡ t → is_taken es b ≡ false) [
    | true ↦ λ t. let none = run_zero n more t in absurd (omega arith)
    | false ↦ λ t. let one = run_more n more t in elim (cases_eq b n) [
      | inl same ↦ ap (is_taken es) same ∙ t
      | inr other ↦ run_free (suc n) more b (omega arith) (omega arith)
    ]
  ] refl

  -- and is as long as any that begins there
  run_most : (n room blocks : ℕ) → blocks ≤ room → Free es n blocks → blocks ≤ run_from es n room
  run_most n zero blocks few free = omega arith
  run_most n (suc more) zero few free = omega arith
  run_most n (suc more) (suc blocks) few free =
      let here : is_taken es n ≡ false = free n (omega arith) (omega arith) in
      let one = run_more n more here in
      let rest = run_most (suc n) more blocks (omega arith) (λ b from below. free b (omega arith) (omega arith)) in
      omega arith

  -- the longest run
  longest_most : (n room start blocks : ℕ) → n ≤ start → start + blocks ≤ n + room → Free es start blocks → blocks ≤ longest_run es n room
  longest_most n zero start blocks from to free = omega arith
  longest_most n (suc more) start blocks from to free = elim (cases_eq start n) [
    | inl same ↦ let here = run_most n (suc more) blocks (omega arith) (subst (λ x. Free es x blocks) same free) in omega arith
    | inr other ↦ let rest = longest_most (suc n) more start blocks (omega arith) (omega arith) free in omega arith
  ]

  longest_found : (n room : ℕ) → 0 < longest_run es n room → (start : ℕ) × (n ≤ start) × (start + longest_run es n room ≤ n + room) × Free es start (longest_run es n room)
  longest_found n zero some = absurd (omega arith)
  longest_found n (suc more) some = elim (cases_lt (run_from es n (suc more)) (longest_run es (suc n) more)) [
    | inl later ↦ let same : longest_run es n (suc more) ≡ longest_run es (suc n) more = omega arith in
        let rest = longest_found (suc n) more (omega arith) in
        (rest.0, omega (arith, rest.1), (let to = rest.2 in omega arith), subst (λ k. Free es rest.0 k) (sym same) rest.3)
    | inr here ↦ let same : longest_run es n (suc more) ≡ run_from es n (suc more) = omega arith in
        let fits = run_fits n (suc more) in
        (n, omega arith, omega arith, subst (λ k. Free es n k) (sym same) (run_free n (suc more)))
  ]

  -- the lowest run of a size
  lowest_step : (size n more : ℕ) (b : Bool) → nat_le size (run_from es n (suc more)) ≡ b → lowest_run es size n (suc more) ≡ (if b then Some n else lowest_run es size (suc n) more)
  lowest_step size n more b is = ap (λ t. if t then Some n else lowest_run es size (suc n) more) is

  lowest_is : (size n room start : ℕ) → 1 ≤ size → n ≤ start → start + size ≤ n + room → Free es start size → ((lower : ℕ) → n ≤ lower → lower < start → Free es lower size → ⊥) → lowest_run es size n room ≡ Some start
  lowest_is size n zero start one from to free lowest = absurd (omega arith)
  lowest_is size n (suc more) start one from to free lowest = elim (nat_le size (run_from es n (suc more))) as (λ b. nat_le size (run_from es n (suc more)) ≡ b → lowest_run es size n (suc more) ≡ Some start) [
    | true ↦ λ t. let long : size ≤ run_from es n (suc more) = leb-true size (run_from es n (suc more)) t in elim (cases_eq start n) [
      | inl same ↦ lowest_step size n more true t ∙ ap Some (sym same)
      | inr other ↦ absurd (lowest n (omega arith) (omega arith) (λ b low high. run_free n (suc more) b low (omega arith)))
    ]
    | false ↦ λ t. let short : run_from es n (suc more) < size = leb-false size (run_from es n (suc more)) t in elim (cases_eq start n) [
      | inl same ↦ let long = run_most n (suc more) size (omega arith) (subst (λ x. Free es x size) same free) in absurd (omega arith)
      | inr other ↦ lowest_step size n more false t ∙ lowest_is size (suc n) more start one (omega arith) (omega arith) free (λ lower low. lowest lower (omega arith))
    ]
  ] refl

  lowest_none : (size n room : ℕ) → 1 ≤ size → ((start : ℕ) → n ≤ start → start + size ≤ n + room → Free es start size → ⊥) → lowest_run es size n room ≡ None
  lowest_none size n zero one none = refl
  lowest_none size n (suc more) one none = elim (nat_le size (run_from es n (suc more))) as (λ b. nat_le size (run_from es n (suc more)) ≡ b → lowest_run es size n (suc more) ≡ None) [
    | true ↦ λ t. let long : size ≤ run_from es n (suc more) = leb-true size (run_from es n (suc more)) t in let fits = run_fits n (suc more) in
        absurd (none n (omega arith) (omega arith) (λ b low high. run_free n (suc more) b low (omega arith)))
    | false ↦ λ t. lowest_step size n more false t ∙ lowest_none size (suc n) more one (λ start from to. none start (omega arith) (omega arith))
  ] refl

-- Free runs of an area, by its extents.

module _ (content : List (List ℕ)) (heads : List (Option FileHead)) (n : Node) (are : AreFiles content heads n.durable.directory) where
  alike : (b : ℕ) → is_taken (extents_of n.durable.directory) b ≡ is_used (all_extents heads) b
  alike b = takes_blocks content heads n.durable.directory b are

  -- where a free run lies
  run_lies : (start blocks : ℕ) → IsFreeRun (area_of n) (all_extents heads) start blocks → (area_start n ≤ start) × (start < n.blocks) × (start + blocks ≤ area_start n + (n.blocks - area_start n)) × Free (extents_of n.durable.directory) start blocks
  run_lies start zero run = let first = covered (area_of n) start (free_is (area_of n) (all_extents heads) start run.first).0 in
      (first.0, first.1, (let low = first.0 in let high = first.1 in omega arith), λ b from below. absurd (omega arith))
  run_lies start (suc blocks) run =
      let first = covered (area_of n) start (free_is (area_of n) (all_extents heads) start run.first).0 in
      let last = covered (area_of n) (start + blocks) (free_is (area_of n) (all_extents heads) (start + blocks) (run.all (start + blocks) (omega arith) (omega arith))).0 in
      (first.0, first.1, (let low = first.0 in let high = last.1 in omega arith), λ b from below. alike b ∙ (free_is (area_of n) (all_extents heads) b (run.all b from below)).1)

  run_is : (start blocks : ℕ) → 1 ≤ blocks → area_start n ≤ start → start + blocks ≤ area_start n + (n.blocks - area_start n) → Free (extents_of n.durable.directory) start blocks → IsFreeRun (area_of n) (all_extents heads) start blocks
  run_is start blocks one from to free =
      let all : (b : ℕ) → start ≤ b → b < start + blocks → is_free (area_of n) (all_extents heads) b ≡ true = λ b low high. is_free_block (area_of n) (all_extents heads) b (covering (area_of n) b (omega arith) (omega arith)) (sym (alike b) ∙ free b low high) in
      record { first = all start (omega arith) (omega arith); all = all }

  longest_is : (most : ℕ) → (0 < most → (start : ℕ) × IsFreeRun (area_of n) (all_extents heads) start most) → ((start blocks : ℕ) → IsFreeRun (area_of n) (all_extents heads) start blocks → blocks ≤ most) → longest_free n ≡ most
  longest_is most found longest = same (longest_free n) most low high
    where
      same : (a b : ℕ) → a ≤ b → b ≤ a → a ≡ b
      same a b p q = omega arith

      low : longest_free n ≤ most
      low = elim (cases_lt 0 (longest_free n)) [
        | inl some ↦ let run = longest_found (extents_of n.durable.directory) (area_start n) (n.blocks - area_start n) some in longest run.0 (longest_free n) (run_is run.0 (longest_free n) (omega arith) run.1 run.2 run.3)
        | inr none ↦ omega arith
      ]

      high : most ≤ longest_free n
      high = elim (cases_lt 0 most) [
        | inl some ↦ let run = found some in let lies = run_lies run.0 most run.1 in longest_most (extents_of n.durable.directory) (area_start n) (n.blocks - area_start n) run.0 most lies.0 lies.2 lies.3
        | inr none ↦ omega arith
      ]

  lowest_free_is : (blocks start : ℕ) → 1 ≤ blocks → IsFreeRun (area_of n) (all_extents heads) start blocks → ((lower : ℕ) → lower < start → IsFreeRun (area_of n) (all_extents heads) lower blocks → ⊥) → lowest_free n blocks ≡ Some start
  lowest_free_is blocks start one run lowest =
      let lies = run_lies start blocks run in
      lowest_is (extents_of n.durable.directory) blocks (area_start n) (n.blocks - area_start n) start one lies.0 lies.2 lies.3
      (λ lower from below free. lowest lower below (run_is lower blocks one from (let to = lies.2 in omega arith) free))

  lowest_free_none : (blocks : ℕ) → 1 ≤ blocks → ((start : ℕ) → IsFreeRun (area_of n) (all_extents heads) start blocks → ⊥) → lowest_free n blocks ≡ None
  lowest_free_none blocks one none = lowest_none (extents_of n.durable.directory) blocks (area_start n) (n.blocks - area_start n) one (λ start from to free. none start (run_is start blocks one from to free))

  run_there : (blocks : ℕ) → 1 ≤ blocks → blocks ≤ longest_free n → (start : ℕ) × IsFreeRun (area_of n) (all_extents heads) start blocks
  run_there blocks one few =
      let run = longest_found (extents_of n.durable.directory) (area_start n) (n.blocks - area_start n) (omega arith) in
      (run.0, run_is run.0 blocks one run.1 (let to = run.2 in omega arith) (λ b from below. run.3 b from (omega arith)))

pub finds_runs : FindsRuns
finds_runs = record {
  longest = λ content heads n area most are is found longest. longest_is content heads n are most (subst (λ x. 0 < most → (start : ℕ) × IsFreeRun x (all_extents heads) start most) is found)
      (subst (λ x. (start blocks : ℕ) → IsFreeRun x (all_extents heads) start blocks → blocks ≤ most) is longest);
  lowest = λ content heads n area blocks start are is one run lowest. lowest_free_is content heads n are blocks start one (subst (λ x. IsFreeRun x (all_extents heads) start blocks) is run)
      (subst (λ x. (lower : ℕ) → lower < start → IsFreeRun x (all_extents heads) lower blocks → ⊥) is lowest);
  none = λ content heads n area blocks are is one none. lowest_free_none content heads n are blocks one (subst (λ x. (start : ℕ) → IsFreeRun x (all_extents heads) start blocks → ⊥) is none);
  there = λ content heads n area blocks are is one few. subst (λ x. (start : ℕ) × IsFreeRun x (all_extents heads) start blocks) (sym is) (run_there content heads n are blocks one few);
}

-- a free run is no longer than the longest
pub run_enough : (content : List (List ℕ)) (heads : List (Option FileHead)) (n : Node) (area : Area) (start blocks : ℕ) → AreFiles content heads n.durable.directory → area ≡ area_of n → IsFreeRun area (all_extents heads) start blocks → blocks ≤ longest_free n
run_enough content heads n area start blocks are is run =
    let lies = run_lies content heads n are start blocks (subst (λ x. IsFreeRun x (all_extents heads) start blocks) is run) in
    longest_most (extents_of n.durable.directory) (area_start n) (n.blocks - area_start n) start blocks lies.0 lies.2 lies.3
