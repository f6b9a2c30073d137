-- From what the steps of listing find to the failing conditions of a content.
use Rattle.std.proofs.Common.{◌≡◌, inl, inr, ℕ, zero, suc, ◌+◌, ◌-◌, ◌<◌, ◌≤◌, ◌⊎◌, List, [], ◌∷◌, Bool, Option, Some, None, IfSome, length, get_or, set, refl, sym, ap, subst, ◌∙◌, arith, length-set}
use Rattle.std.specs.List.{All, Contains}
use Rattle.std.proofs.lemmas.Bool.{cases_eq}
use Rattle.std.proofs.lemmas.List.{get_or-set_same, get_or-set_other}
use Rattle.std.proofs.lemmas.List.Elements.{All-nil, All-head, All-contains, All-push}
use Rattle.careful_write.specs.block_disk.Blocks.{block_at}
use Rattle.file_base.specs.declared.head.FileHead.{FileHead}
use Rattle.volume_format.specs.declared.home.Home.{Home}
use Rattle.volume_format.specs.Home.{sizes_of}
use Rattle.extents.specs.Extents.{FitsAt, all_extents}
use Rattle.volume.specs.declared.load.Finding.{Finding}
use Rattle.volume.specs.Limits.{EntryFits, data_area}
use Rattle.volume.specs.Catalogs.{TellsEntry, IsNew, NewName, head_at}
use Rattle.volume.specs.Conditions.{IsListed, IsNamed, IsPlaced, Meets, IsTested, IsFinding, IsFirstFinding}
use Rattle.volume.specs.Findings.{Ascends, IsBefore, first_thousand, with_finding}
use Rattle.volume.specs.Listing.{EntryTried, HeadsTried, IsEntered, IsIn, LiesApart, ListsFindings, ListsTo, LowerMeet, TakesEntry, fails_at}
use Rattle.volume.specs.Load.{EntryFound, EntryMisses, HeadsFound}
use Rattle.volume.proofs.Entries.{entry_kept}
use Rattle.volume.proofs.FirstFindings.{Homed, home_meets, lower_meet, placed_of, same_heads}
use Rattle.volume.proofs.Listings.{added_last, least, lists_holds, lists_more, one_list}

abbrev Content : Type 0
Content = List (List ℕ)

-- a file that was found meets condition 4
entered_of : (greatest : ℕ) (heads : List (Option FileHead)) (f : ℕ) (c : Content) (o : Option FileHead) → HeadsTried greatest heads f c → EntryFound greatest heads f (block_at c (1 + f)) o → IsEntered greatest c f
entered_of greatest heads f c o tried found = record { entry = o; tells = found.tells; fits = found.fits; named = named }
  where
    named : (h : FileHead) → o ≡ Some h → IsNamed greatest c f h
    named h is g other below tells fits same =
        let fresh : NewName heads f h.name = subst (IsNew heads f) is found.new in
        elim (tried g below) [
          | inl there ↦ fresh g other below (sym (there.one (Some other) tells)) same
          | inr missed ↦ missed.1 (Some other) tells fits (λ k older low has alike. fresh k older (omega arith) has (alike ∙ same))
        ]

-- a listed name is new among the files that were found
new_in : (greatest : ℕ) (heads : List (Option FileHead)) (f : ℕ) (c : Content) (o : Option FileHead) → HeadsTried greatest heads f c → ((h : FileHead) → o ≡ Some h → IsNamed greatest c f h) → IsNew heads f o
new_in greatest heads f c None tried named = tt
new_in greatest heads f c (Some h) tried named = λ g other below has same. elim (tried g below) [
  | inl there ↦ named h refl g other below (subst (TellsEntry (block_at c (1 + g))) has there.tells) (subst (EntryFits greatest) has there.fits) same
  | inr missed ↦ let free = missed.0 in let none : ⊥ = cc in none
]

-- one that was missed does not
unentered : (greatest : ℕ) (heads : List (Option FileHead)) (f : ℕ) (c : Content) → HeadsTried greatest heads f c → EntryMisses greatest heads f (block_at c (1 + f)) → IsEntered greatest c f → ⊥
unentered greatest heads f c tried misses entered = misses entered.entry entered.tells entered.fits (new_in greatest heads f c entered.entry tried entered.named)

-- a file of a higher number leaves what was tried of the lower ones
new_before : (heads : List (Option FileHead)) (k f : ℕ) (x o : Option FileHead) → k ≤ f → IsNew (set heads f x) k o → IsNew heads k o
new_before heads k f x None low new = tt
new_before heads k f x (Some h) low new = λ g other below has same. new g other below (get_or-set_other heads f g x None (λ is. absurd (omega arith)) ∙ has) same

misses_kept : (greatest : ℕ) (heads : List (Option FileHead)) (k f : ℕ) (block : List ℕ) (x : Option FileHead) → k ≤ f → EntryMisses greatest heads k block → EntryMisses greatest (set heads f x) k block
misses_kept greatest heads k f block x low misses = λ o tells fits new. misses o tells fits (new_before heads k f x o low new)

tried_kept : (greatest : ℕ) (heads : List (Option FileHead)) (k f : ℕ) (block : List ℕ) (x : Option FileHead) → k < f → EntryTried greatest heads k block → EntryTried greatest (set heads f x) k block
tried_kept greatest heads k f block x low tried =
    let there : head_at (set heads f x) k ≡ head_at heads k = get_or-set_other heads f k x None (λ is. absurd (omega arith)) in
    elim tried [
      | inl found ↦ inl (subst (EntryFound greatest (set heads f x) k block) (sym there) (entry_kept greatest heads k f block x (head_at heads k) (omega arith) found))
      | inr missed ↦ inr (there ∙ missed.0, misses_kept greatest heads k f block x (omega arith) missed.1)
    ]

tried_more : (greatest : ℕ) (heads : List (Option FileHead)) (f : ℕ) (c : Content) (x : Option FileHead) → HeadsTried greatest heads f c → EntryTried greatest (set heads f x) f (block_at c (1 + f)) → HeadsTried greatest (set heads f x) (f + 1) c
tried_more greatest heads f c x tried here k below = elim (cases_eq k f) [
  | inl is ↦ subst (λ n. EntryTried greatest (set heads f x) n (block_at c (1 + n))) (sym is) here
  | inr isnt ↦ tried_kept greatest heads k f (block_at c (1 + k)) x (omega arith) (tried k (omega arith))
]

found_here : (greatest : ℕ) (heads : List (Option FileHead)) (f : ℕ) (block : List ℕ) (o : Option FileHead) → f < length heads → EntryFound greatest heads f block o → EntryTried greatest (set heads f o) f block
found_here greatest heads f block o within found =
    inl (subst (EntryFound greatest (set heads f o) f block) (sym (get_or-set_same heads f o None within)) (entry_kept greatest heads f f block o o (omega arith) found))

missed_here : (greatest : ℕ) (heads : List (Option FileHead)) (f : ℕ) (block : List ℕ) → f < length heads → EntryMisses greatest heads f block → EntryTried greatest (set heads f None) f block
missed_here greatest heads f block within misses = inr (get_or-set_same heads f None None within, misses_kept greatest heads f f block None (omega arith) misses)

-- one more directory block, where the content is told
pub lists_taken : (greatest : ℕ) (heads new : List (Option FileHead)) (f : ℕ) (told : Option Content) (block : List ℕ) (found more : List Finding) → f < 64 → IfSome told (λ c. ListsTo 4 (IsEntered greatest c) f found) → IfSome told (HeadsTried greatest heads f)
    → IfSome told (λ c. block ≡ block_at c (519 + f - 518)) → TakesEntry greatest f block heads new found more → IfSome told (λ c. ListsTo 4 (IsEntered greatest c) (f + 1) more)
lists_taken greatest heads new f None block found more low lists tried is takes = tt
lists_taken greatest heads new f (Some c) block found more low lists tried is (inl kept) =
    let place : 519 + f - 518 ≡ 1 + f = omega arith in
    subst (ListsTo 4 (IsEntered greatest c) (f + 1)) (sym kept.3)
    (lists_holds 4 (IsEntered greatest c) f found lists (entered_of greatest heads f c kept.0 tried (subst (λ b. EntryFound greatest heads f b kept.0) (is ∙ ap (block_at c) place) kept.1)))
lists_taken greatest heads new f (Some c) block found more low lists tried is (inr missed) =
    let place : 519 + f - 518 ≡ 1 + f = omega arith in
    subst (ListsTo 4 (IsEntered greatest c) (f + 1)) (sym missed.2)
    (lists_more 4 (IsEntered greatest c) f found (omega arith) lists (unentered greatest heads f c tried (subst (EntryMisses greatest heads f) (is ∙ ap (block_at c) place) missed.0)))

pub tried_taken : (greatest : ℕ) (heads new : List (Option FileHead)) (f : ℕ) (told : Option Content) (block : List ℕ) (found more : List Finding) → f < length heads → IfSome told (HeadsTried greatest heads f)
    → IfSome told (λ c. block ≡ block_at c (519 + f - 518)) → TakesEntry greatest f block heads new found more → IfSome told (HeadsTried greatest new (f + 1))
tried_taken greatest heads new f None block found more within tried is takes = tt
tried_taken greatest heads new f (Some c) block found more within tried is (inl kept) =
    let place : 519 + f - 518 ≡ 1 + f = omega arith in
    subst (λ (hs : List (Option FileHead)). HeadsTried greatest hs (f + 1) c) (sym kept.2)
    (tried_more greatest heads f c kept.0 tried (subst (EntryTried greatest (set heads f kept.0) f) (is ∙ ap (block_at c) place) (found_here greatest heads f block kept.0 within kept.1)))
tried_taken greatest heads new f (Some c) block found more within tried is (inr missed) =
    let place : 519 + f - 518 ≡ 1 + f = omega arith in
    subst (λ (hs : List (Option FileHead)). HeadsTried greatest hs (f + 1) c) (sym missed.1)
    (tried_more greatest heads f c None tried (subst (EntryTried greatest (set heads f None) f) (is ∙ ap (block_at c) place) (missed_here greatest heads f block within missed.0)))

pub count_taken : (greatest f : ℕ) (block : List ℕ) (heads new : List (Option FileHead)) (found more : List Finding) → TakesEntry greatest f block heads new found more → length new ≡ length heads
count_taken greatest f block heads new found more (inl kept) = ap (λ (hs : List (Option FileHead)). length hs) kept.2 ∙ length-set heads f kept.0
count_taken greatest f block heads new found more (inr missed) = ap (λ (hs : List (Option FileHead)). length hs) missed.1 ∙ length-set heads f None

-- condition 4 with the home, and without it
listed_from : (node : List ℕ) (fits : Bool) (c : Content) (home : Home) (f : ℕ) → Homed node fits c home → IsEntered home.greatest_moment.0 c f → IsListed c f
listed_from node fits c home f homed entered = record { home = home; ranges = homed.ranges; stands = homed.stands; entry = entered.entry; tells = entered.tells; fits = entered.fits; named = entered.named }

entered_from : (node : List ℕ) (fits : Bool) (c : Content) (home : Home) (f : ℕ) → Homed node fits c home → IsListed c f → IsEntered home.greatest_moment.0 c f
entered_from node fits c home f homed listed =
    subst (λ (h : Home). IsEntered h.greatest_moment.0 c f) (homed.one listed.home listed.ranges listed.stands) (record { entry = listed.entry; tells = listed.tells; fits = listed.fits; named = listed.named })

directory_tested : (x : Finding) (n : ℕ) → 4 ≤ n → n ≤ 5 → IsIn n 64 x → IsTested x.number x.block
directory_tested x n low high is =
    let same = is.number_is in
    let from = is.from in
    let to = is.to in
    record { least = omega arith; most = omega arith; home = λ h. absurd (omega arith); directory = λ _. (from, omega arith) }

entry_finding : (node : List ℕ) (fits : Bool) (c : Content) (home : Home) (x : Finding) → Homed node fits c home → IsIn 4 64 x → (IsEntered home.greatest_moment.0 c (x.block - 519) → ⊥) → IsFinding node fits c x.number x.block
entry_finding node fits c home x homed is unmet =
    let same = is.number_is in
    record {
      tested = directory_tested x 4 (omega arith) (omega arith) is;
      fails = λ m. unmet (entered_from node fits c home (x.block - 519) homed (m.listed same));
      before = λ n b low tested. home_meets node fits c home homed n b (omega arith);
    }

-- a directory block where condition 4 was listed or holds
entry_whole : (node : List ℕ) (fits : Bool) (c : Content) (home : Home) (found : List Finding) (number block : ℕ) → Homed node fits c home → ListsTo 4 (IsEntered home.greatest_moment.0 c) 64 found → number ≡ 4 → IsTested number block
    → Contains found (fails_at number block) ⊎ Meets node fits c number block
entry_whole node fits c home found number block homed lists is tested =
    let at = tested.directory (omega arith) in
    let from = at.0 in
    let to = at.1 in
    let place : 519 + (block - 519) ≡ block = omega arith in
    elim (lists.whole (block - 519) (omega arith)) [
      | inl has ↦ inl (subst (λ n. Contains found (fails_at n block)) (sym is) (subst (λ b. Contains found (fails_at 4 b)) place has))
      | inr entered ↦ inr (record {
        front = λ e. absurd (omega arith);
        sized = λ e. absurd (omega arith);
        owned = λ e. absurd (omega arith);
        listed = λ _. listed_from node fits c home (block - 519) homed entered;
        placed = λ e. absurd (omega arith);
      })
    ]

-- where condition 4 fails, its findings are all
pub entries_listed : (node : List ℕ) (fits : Bool) (c : Content) (home : Home) (x : Finding) (rest : List Finding) → Homed node fits c home → ListsTo 4 (IsEntered home.greatest_moment.0 c) 64 (x ∷ rest) → ListsFindings node fits c (x ∷ rest)
entries_listed node fits c home x rest homed lists = record {
  ascends = lists.ascends;
  fails = all;
  whole = λ number block tested lower. elim (cases_eq number 4) [
    | inl is ↦ entry_whole node fits c home (x ∷ rest) number block homed lists is tested
    | inr isnt ↦ elim (cases_eq number 5) [
      | inl is ↦ let at = four in absurd (all_head.fails (lower x.number x.block (omega arith) all_head.tested))
      | inr other ↦ inr (home_meets node fits c home homed number block (low number block tested isnt other))
    ]
  ];
}
  where
    all : All (λ (y : Finding). IsFinding node fits c y.number y.block) (x ∷ rest)
    all k d below = entry_finding node fits c home (get_or (x ∷ rest) k d) homed (lists.within k d below) (lists.fails k d below)

    all_head : IsFinding node fits c x.number x.block
    all_head = All-head (λ (y : Finding). IsFinding node fits c y.number y.block) x rest all

    four : x.number ≡ 4
    four = (All-head (IsIn 4 64) x rest lists.within).number_is

    low : (number block : ℕ) → IsTested number block → (number ≡ 4 → ⊥) → (number ≡ 5 → ⊥) → number < 4
    low number block tested not_four not_five = let most = tested.most in elim (cases_eq number 4) [
      | inl is ↦ absurd (not_four is)
      | inr _ ↦ elim (cases_eq number 5) [ inl is ↦ absurd (not_five is) | inr _ ↦ omega arith ]
    ]

-- where it fails nowhere, the whole directory was found
pub heads_found : (greatest : ℕ) (heads : List (Option FileHead)) (c : Content) → HeadsTried greatest heads 64 c → ListsTo 4 (IsEntered greatest c) 64 [] → HeadsFound greatest heads 64 c
heads_found greatest heads c tried lists f within = elim (tried f within) [
  | inl found ↦ found
  | inr missed ↦ elim (lists.whole f within) [
    | inl has ↦ let none = has.1 in absurd (omega arith)
    | inr entered ↦ absurd (unentered greatest heads f c (λ g below. tried g (omega arith)) missed.1 entered)
  ]
]

apart_from : (node : List ℕ) (fits : Bool) (c : Content) (home : Home) (heads : List (Option FileHead)) (f : ℕ) → Homed node fits c home → HeadsFound home.greatest_moment.0 heads 64 c → length heads ≡ 64 → IsPlaced c f
    → LiesApart (data_area (sizes_of home)) (all_extents heads) f
apart_from node fits c home heads f homed found long placed i low high =
    let same : placed.home ≡ home = homed.one placed.home placed.ranges placed.stands in
    let alike : placed.heads ≡ heads = same_heads home.greatest_moment.0 heads placed.heads c found long placed.count placed.tells in
    let P : Home → Type 0 = λ h. FitsAt (data_area (sizes_of h)) (all_extents placed.heads) i in
    let Q : List (Option FileHead) → Type 0 = λ hs. FitsAt (data_area (sizes_of home)) (all_extents hs) i in
    subst Q alike (subst P same (placed.extents i low high))

extent_whole : (node : List ℕ) (fits : Bool) (c : Content) (home : Home) (heads : List (Option FileHead)) (found : List Finding) (number block : ℕ) → Homed node fits c home → HeadsFound home.greatest_moment.0 heads 64 c → length heads ≡ 64
    → ListsTo 5 (LiesApart (data_area (sizes_of home)) (all_extents heads)) 64 found → number ≡ 5 → IsTested number block → Contains found (fails_at number block) ⊎ Meets node fits c number block
extent_whole node fits c home heads found number block homed there long lists is tested =
    let at = tested.directory (omega arith) in
    let from = at.0 in
    let to = at.1 in
    let place : 519 + (block - 519) ≡ block = omega arith in
    elim (lists.whole (block - 519) (omega arith)) [
      | inl has ↦ inl (subst (λ n. Contains found (fails_at n block)) (sym is) (subst (λ b. Contains found (fails_at 5 b)) place has))
      | inr apart ↦ inr (record {
        front = λ e. absurd (omega arith);
        sized = λ e. absurd (omega arith);
        owned = λ e. absurd (omega arith);
        listed = λ e. absurd (omega arith);
        placed = λ _. placed_of node fits c home heads homed there long (block - 519) apart;
      })
    ]

-- where conditions 1 to 4 hold, the findings of condition 5 are all
pub extents_listed : (node : List ℕ) (fits : Bool) (c : Content) (home : Home) (heads : List (Option FileHead)) (found : List Finding) → Homed node fits c home → HeadsFound home.greatest_moment.0 heads 64 c → length heads ≡ 64
    → ListsTo 5 (LiesApart (data_area (sizes_of home)) (all_extents heads)) 64 found → ListsFindings node fits c found
extents_listed node fits c home heads found homed there long lists = record {
  ascends = lists.ascends;
  fails = λ k d below. extent_finding (get_or found k d) (lists.within k d below) (lists.fails k d below);
  whole = λ number block tested lower. let most = tested.most in elim (cases_eq number 5) [
    | inl is ↦ extent_whole node fits c home heads found number block homed there long lists is tested
    | inr isnt ↦ inr (lower_meet node fits c home heads homed there number block (omega arith) tested)
  ];
}
  where
    extent_finding : (x : Finding) → IsIn 5 64 x → (LiesApart (data_area (sizes_of home)) (all_extents heads) (x.block - 519) → ⊥) → IsFinding node fits c x.number x.block
    extent_finding x is unmet =
        let same = is.number_is in
        record {
          tested = directory_tested x 5 (omega arith) (omega arith) is;
          fails = λ m. unmet (apart_from node fits c home heads (x.block - 519) homed there long (m.placed same));
          before = λ n b low tested. lower_meet node fits c home heads homed there n b (omega arith) tested;
        }

-- one of the first three conditions fails, alone
home_listed : (node : List ℕ) (fits : Bool) (c : Content) (x : Finding) → IsFirstFinding node fits c x.number x.block → x.number ≤ 3 → ListsFindings node fits c (x ∷ [])
home_listed node fits c x first low = record {
  ascends = λ i j d less within. absurd (omega arith);
  fails = All-push (λ (y : Finding). IsFinding node fits c y.number y.block) [] x (All-nil (λ (y : Finding). IsFinding node fits c y.number y.block)) first.finding;
  whole = λ number block tested lower. elim (cases_eq number x.number) [
    | inl is ↦ let same : block ≡ x.block = tested.home (omega arith) ∙ sym (first.finding.tested.home low) in
        let whole : x ≡ fails_at number block = λ k. record { number = sym is k; block = sym same k } in
        inl (0, omega arith, whole)
    | inr isnt ↦ elim (cases_eq (number - x.number) 0) [
      | inl lesser ↦ inr (first.finding.before number block (omega arith) tested)
      | inr more ↦ absurd (first.finding.fails (lower x.number x.block (omega arith) first.finding.tested))
    ]
  ];
}

pub home_listed_told : (told : Option Content) (node : List ℕ) (fits : Bool) (x : Finding) → IfSome told (λ c. IsFirstFinding node fits c x.number x.block) → x.number ≤ 3 → IfSome told (λ c. ListsFindings node fits c (first_thousand (with_finding x [])))
home_listed_told None node fits x first low = tt
home_listed_told (Some c) node fits x first low =
    subst (ListsFindings node fits c) (sym (added_last x [] (All-nil (λ (y : Finding). IsBefore y x)) (omega arith))) (home_listed node fits c x first low)

pub entries_listed_told : (told : Option Content) (node : List ℕ) (fits : Bool) (home : Home) (found : List Finding) → IfSome told (λ c. Homed node fits c home) → IfSome told (λ c. ListsTo 4 (IsEntered home.greatest_moment.0 c) 64 found) → (found ≡ [] → ⊥)
    → IfSome told (λ c. ListsFindings node fits c found)
entries_listed_told None node fits home found homed lists some = tt
entries_listed_told (Some c) node fits home [] homed lists some = absurd (some refl)
entries_listed_told (Some c) node fits home (x ∷ rest) homed lists some = entries_listed node fits c home x rest homed lists

pub extents_listed_told : (told : Option Content) (node : List ℕ) (fits : Bool) (home : Home) (heads : List (Option FileHead)) (entries found : List Finding) → IfSome told (λ c. Homed node fits c home) → IfSome told (HeadsTried home.greatest_moment.0 heads 64)
    → IfSome told (λ c. ListsTo 4 (IsEntered home.greatest_moment.0 c) 64 entries) → entries ≡ [] → length heads ≡ 64 → ListsTo 5 (LiesApart (data_area (sizes_of home)) (all_extents heads)) 64 found → IfSome told (λ c. ListsFindings node fits c found)
extents_listed_told None node fits home heads entries found homed tried lists none long apart = tt
extents_listed_told (Some c) node fits home heads entries found homed tried lists none long apart =
    extents_listed node fits c home heads found homed (heads_found home.greatest_moment.0 heads c tried (subst (ListsTo 4 (IsEntered home.greatest_moment.0 c) 64) none lists)) long apart

-- a list of no findings is empty
no_finding : (found : List Finding) → length found ≡ 0 → found ≡ []
no_finding [] none = refl
no_finding (x ∷ rest) none = absurd (omega arith)

pub none_left : (found other : List Finding) → other ≡ found → length other ≡ 0 → found ≡ []
none_left found other same none = no_finding found (sym (ap (λ (l : List Finding). length l) same) ∙ none)

-- laws of the list of failing conditions
not_lower : (x : Finding) (rest : List Finding) (b : ℕ) → Ascends (x ∷ rest) → b < x.block → Contains (x ∷ rest) (fails_at x.number b) → ⊥
not_lower x rest b ascends below has = elim (least x rest (fails_at x.number b) ascends has) [
  | inl is ↦ let same = ap (λ (y : Finding). y.block) is in omega arith
  | inr before ↦ elim before [ inl less ↦ omega arith | inr less ↦ let later = less.1 in omega arith ]
]

pub first_is_first : (node : List ℕ) (fits : Bool) (c : Content) (x : Finding) (rest : List Finding) → ListsFindings node fits c (x ∷ rest) → IsFirstFinding node fits c x.number x.block
first_is_first node fits c x rest lists =
    let finding : IsFinding node fits c x.number x.block = All-head (λ (y : Finding). IsFinding node fits c y.number y.block) x rest lists.fails in
    record {
      finding = finding;
      lowest = λ b below tested. elim (lists.whole x.number b tested finding.before) [
        | inl has ↦ absurd (not_lower x rest b lists.ascends below has)
        | inr meets ↦ meets
      ];
    }

in_list : (node : List ℕ) (fits : Bool) (c : Content) (found : List Finding) (number block : ℕ) → ListsFindings node fits c found → IsFinding node fits c number block → Contains found (fails_at number block)
in_list node fits c found number block lists finding = elim (lists.whole number block finding.tested finding.before) [
  | inl has ↦ has
  | inr meets ↦ absurd (finding.fails meets)
]

not_earlier : (node : List ℕ) (fits : Bool) (c : Content) (x : Finding) (number block : ℕ) → IsFinding node fits c x.number x.block → IsFirstFinding node fits c number block → IsBefore x (fails_at number block) → ⊥
not_earlier node fits c x number block finding first (inl less) = finding.fails (first.finding.before x.number x.block less finding.tested)
not_earlier node fits c x number block finding first (inr less) =
    let same : number ≡ x.number = sym less.0 in
    finding.fails (subst (λ n. Meets node fits c n x.block) same (first.lowest x.block less.1 (subst (λ n. IsTested n x.block) less.0 finding.tested)))

begins_at : (node : List ℕ) (fits : Bool) (c : Content) (found : List Finding) (number block : ℕ) → ListsFindings node fits c found → IsFirstFinding node fits c number block → Contains found (fails_at number block)
    → (rest : List Finding) × (found ≡ fails_at number block ∷ rest)
begins_at node fits c [] number block lists first has = let none = has.1 in absurd (omega arith)
begins_at node fits c (x ∷ rest) number block lists first has = elim (least x rest (fails_at number block) lists.ascends has) [
  | inl is ↦ (rest, ap (λ (y : Finding). y ∷ rest) is)
  | inr before ↦ absurd (not_earlier node fits c x number block (All-head (λ (y : Finding). IsFinding node fits c y.number y.block) x rest lists.fails) first before)
]

pub begins_with_first : (node : List ℕ) (fits : Bool) (c : Content) (found : List Finding) (number block : ℕ) → ListsFindings node fits c found → IsFirstFinding node fits c number block → (rest : List Finding) × (found ≡ fails_at number block ∷ rest)
begins_with_first node fits c found number block lists first = begins_at node fits c found number block lists first (in_list node fits c found number block lists first.finding)

valid_below : (node : List ℕ) (fits : Bool) (c : Content) → ListsFindings node fits c [] → (n : ℕ) → LowerMeet node fits c n
valid_below node fits c lists zero = λ m b below tested. absurd (omega arith)
valid_below node fits c lists (suc n) = λ m b below tested. elim (lists.whole m b tested (λ k d low at. valid_below node fits c lists n k d (omega arith) at)) [
  | inl has ↦ let none = has.1 in absurd (omega arith)
  | inr meets ↦ meets
]

pub empty_is_valid : (node : List ℕ) (fits : Bool) (c : Content) → ListsFindings node fits c [] → (number block : ℕ) → IsTested number block → Meets node fits c number block
empty_is_valid node fits c lists number block tested = let most = tested.most in valid_below node fits c lists 6 number block (omega arith) tested

all_in : (node : List ℕ) (fits : Bool) (c : Content) (found other : List Finding) → ListsFindings node fits c found → ListsFindings node fits c other → (z : Finding) → Contains found z → Contains other z
all_in node fits c found other lists too z has = in_list node fits c other z.number z.block too (All-contains (λ (y : Finding). IsFinding node fits c y.number y.block) found z lists.fails has)

pub one_listing : (node : List ℕ) (fits : Bool) (c : Content) (found other : List Finding) → ListsFindings node fits c found → ListsFindings node fits c other → found ≡ other
one_listing node fits c found other lists too = one_list found other lists.ascends too.ascends (all_in node fits c found other lists too) (all_in node fits c other found too lists)
