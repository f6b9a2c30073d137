-- From what the steps of mounting find to the first failing condition, and to a valid volume.
use Rattle.std.proofs.Common.{◌≡◌, inl, inr, ℕ, ◌+◌, ◌-◌, ◌*◌, ◌/◌, ◌<◌, ◌≤◌, List, Bool, Option, Some, None, IfSome, length, refl, sym, ap, subst, ◌∙◌, arith}
use Rattle.std.proofs.lemmas.Bool.{cases_eq}
use Rattle.std.proofs.lemmas.List.{ext_get_or}
use Rattle.careful_write.specs.block_disk.Blocks.{block_at}
use Rattle.file_base.specs.declared.head.FileHead.{FileHead}
use Rattle.volume_format.specs.declared.home.Home.{Home}
use Rattle.volume_format.specs.Home.{HasRu, sizes_of}
use Rattle.extents.specs.declared.extent.Extent.{Extent}
use Rattle.extents.specs.Extents.{FitsAt, all_extents}
use Rattle.volume.specs.declared.catalog.Catalog.{Catalog}
use Rattle.volume.specs.Limits.{EntryFits, FileFits, data_area}
use Rattle.volume.specs.Catalogs.{TellsEntry, TellsHeads, IsNew, IsSound, NewName, head_at}
use Rattle.volume.specs.Conditions.{IsListed, IsPlaced, Meets, IsTested, IsFirstFinding, IsValid}
use Rattle.volume.specs.Load.{HomeFound, HomeMisses, HomeSound, EntryMisses, HeadsFound, HeadsSound, Loaded}

abbrev Content : Type 0
Content = List (List ℕ)

-- a home of the content that meets the first three conditions
abbrev pub Homed : List ℕ → Bool → Content → Home → Type 0
Homed node fits c home = HomeFound node fits (length c + 518) (block_at c 0) home

-- the first three conditions hold
pub home_meets : (node : List ℕ) (fits : Bool) (c : Content) (home : Home) → Homed node fits c home → (n b : ℕ) → n < 4 → Meets node fits c n b
home_meets node fits c home found n b low = record {
  front = λ _. found.front;
  sized = λ _. found.sized;
  owned = λ _. record { home = home; ranges = found.ranges; stands = found.stands; fit = found.fit };
  listed = λ e. absurd (omega arith);
  placed = λ e. absurd (omega arith);
}

-- the first of them that fails
pub home_finding : (node : List ℕ) (fits : Bool) (c : Content) (number : ℕ) → HomeMisses node fits (length c + 518) (block_at c 0) number → IsFirstFinding node fits c number 518
home_finding node fits c number misses =
    let least = misses.least in
    let most = misses.most in
    record {
      finding = record {
        tested = record { least = least; most = omega arith; home = λ _. refl; directory = λ h. absurd (omega arith) };
        fails = λ m. elim (cases_eq number 1) [
          | inl one ↦ misses.no_front one (m.front one)
          | inr more ↦ elim (cases_eq number 2) [
            | inl two ↦ misses.unsized two (m.sized two)
            | inr other ↦ let three : number ≡ 3 = number_three number least most more other in misses.foreign three (m.owned three)
          ]
        ];
        before = λ n b low tested. record {
          front = λ e. misses.front (omega arith);
          sized = λ e. misses.sized (omega arith);
          owned = λ e. absurd (omega arith);
          listed = λ e. absurd (omega arith);
          placed = λ e. absurd (omega arith);
        };
      };
      lowest = λ b low tested. let at = tested.home most in absurd (omega arith);
    }
  where
    number_three : (number : ℕ) → 1 ≤ number → number ≤ 3 → (number ≡ 1 → ⊥) → (number ≡ 2 → ⊥) → number ≡ 3
    number_three number least most not_one not_two = elim (cases_eq number 3) [
      | inl is ↦ is
      | inr isnt ↦ elim (cases_eq number 1) [
        | inl one ↦ absurd (not_one one)
        | inr _ ↦ elim (cases_eq number 2) [ inl two ↦ absurd (not_two two) | inr _ ↦ absurd (omega arith) ]
      ]
    ]

-- the names of files that were found are new
named_of : (greatest : ℕ) (heads : List (Option FileHead)) (count f : ℕ) (c : Content) → HeadsFound greatest heads count c → f < count → (o : Option FileHead) → IsNew heads f o → (h : FileHead) → o ≡ Some h
    → (g : ℕ) (other : FileHead) → g < f → TellsEntry (block_at c (1 + g)) (Some other) → FileFits greatest other → other.name ≡ h.name → ⊥
named_of greatest heads count f c found within o new h is g other below tells fits same =
    let P : Option FileHead → Type 0 = IsNew heads f in
    let fresh : NewName heads f h.name = subst P is new in
    fresh g other below (sym ((found g (omega arith)).one (Some other) tells)) same

-- directory blocks that were found meet condition 4
pub listed_of : (node : List ℕ) (fits : Bool) (c : Content) (home : Home) (heads : List (Option FileHead)) (count : ℕ) → Homed node fits c home → HeadsFound home.greatest_moment.0 heads count c
    → (f : ℕ) → f < count → IsListed c f
listed_of node fits c home heads count homed found f within =
    let here = found f within in
    record {
      home = home;
      ranges = homed.ranges;
      stands = homed.stands;
      entry = head_at heads f;
      tells = here.tells;
      fits = here.fits;
      named = named_of home.greatest_moment.0 heads count f c found within (head_at heads f) here.new;
    }

-- a listed entry has a new name
new_of : (greatest : ℕ) (heads : List (Option FileHead)) (f : ℕ) (c : Content) → HeadsFound greatest heads f c → (o : Option FileHead)
    → ((h : FileHead) → o ≡ Some h → (g : ℕ) (other : FileHead) → g < f → TellsEntry (block_at c (1 + g)) (Some other) → FileFits greatest other → other.name ≡ h.name → ⊥) → IsNew heads f o
new_of greatest heads f c found None named = tt
new_of greatest heads f c found (Some h) named = λ g other below has same.
    let there = found g below in
    named h refl g other below (subst (TellsEntry (block_at c (1 + g))) has there.tells) (subst (EntryFits greatest) has there.fits) same

-- a directory block that misses is not listed
unlisted : (node : List ℕ) (fits : Bool) (c : Content) (home : Home) (heads : List (Option FileHead)) (f : ℕ) → Homed node fits c home → HeadsFound home.greatest_moment.0 heads f c
    → EntryMisses home.greatest_moment.0 heads f (block_at c (1 + f)) → IsListed c f → ⊥
unlisted node fits c home heads f homed found misses listed =
    let same : listed.home ≡ home = homed.one listed.home listed.ranges listed.stands in
    let greatest : listed.home.greatest_moment.0 ≡ home.greatest_moment.0 = ap (λ (h : Home). h.greatest_moment.0) same in
    misses listed.entry listed.tells (subst (λ n. EntryFits n listed.entry) greatest listed.fits)
    (new_of home.greatest_moment.0 heads f c found listed.entry
    (λ h is g other below tells fits_there. listed.named h is g other below tells (subst (λ n. FileFits n other) (sym greatest) fits_there)))

-- condition 4 fails first there
pub listed_finding : (node : List ℕ) (fits : Bool) (c : Content) (home : Home) (heads : List (Option FileHead)) (f : ℕ) → f < 64 → Homed node fits c home → HeadsFound home.greatest_moment.0 heads f c
    → EntryMisses home.greatest_moment.0 heads f (block_at c (1 + f)) → IsFirstFinding node fits c 4 (519 + f)
listed_finding node fits c home heads f within homed found misses =
    let place : 519 + f - 519 ≡ f = omega arith in
    record {
      finding = record {
        tested = record { least = omega arith; most = omega arith; home = λ h. absurd (omega arith); directory = λ _. (omega arith, omega arith) };
        fails = λ m. unlisted node fits c home heads f homed found misses (subst (IsListed c) place (m.listed refl));
        before = λ n b low tested. home_meets node fits c home homed n b low;
      };
      lowest = λ b low tested.
          let from = (tested.directory (omega arith)).0 in
          record {
            front = λ e. absurd (omega arith);
            sized = λ e. absurd (omega arith);
            owned = λ e. absurd (omega arith);
            listed = λ _. listed_of node fits c home heads f homed found (b - 519) (omega arith);
            placed = λ e. absurd (omega arith);
          };
    }

-- conditions 1 to 4 hold where the whole directory was found
pub lower_meet : (node : List ℕ) (fits : Bool) (c : Content) (home : Home) (heads : List (Option FileHead)) → Homed node fits c home → HeadsFound home.greatest_moment.0 heads 64 c
    → (n b : ℕ) → n < 5 → IsTested n b → Meets node fits c n b
lower_meet node fits c home heads homed found n b low tested = record {
  front = λ _. homed.front;
  sized = λ _. homed.sized;
  owned = λ _. record { home = home; ranges = homed.ranges; stands = homed.stands; fit = homed.fit };
  listed = λ e. let at = tested.directory (omega arith) in let from = at.0 in let to = at.1 in listed_of node fits c home heads 64 homed found (b - 519) (omega arith);
  placed = λ e. absurd (omega arith);
}

-- two directories that one content tells are one
pub same_heads : (greatest : ℕ) (heads others : List (Option FileHead)) (c : Content) → HeadsFound greatest heads 64 c → length heads ≡ 64 → length others ≡ 64 → TellsHeads others c 64 → others ≡ heads
same_heads greatest heads others c found long too tells =
    ext_get_or None others heads (too ∙ sym long) (λ f within. let in_range : f < 64 = omega arith in (found f in_range).one (head_at others f) (tells f in_range))

tells_of : (greatest : ℕ) (heads : List (Option FileHead)) (c : Content) → HeadsFound greatest heads 64 c → TellsHeads heads c 64
tells_of greatest heads c found f within = (found f within).tells

-- condition 5 at a file number whose extents fit
pub placed_of : (node : List ℕ) (fits : Bool) (c : Content) (home : Home) (heads : List (Option FileHead)) → Homed node fits c home → HeadsFound home.greatest_moment.0 heads 64 c → length heads ≡ 64
    → (f : ℕ) → ((i : ℕ) → 4 * f ≤ i → i < 4 * f + 4 → FitsAt (data_area (sizes_of home)) (all_extents heads) i) → IsPlaced c f
placed_of node fits c home heads homed found long f all = record {
  home = home;
  ranges = homed.ranges;
  stands = homed.stands;
  heads = heads;
  count = long;
  tells = tells_of home.greatest_moment.0 heads c found;
  extents = all;
}

unplaced : (node : List ℕ) (fits : Bool) (c : Content) (home : Home) (heads : List (Option FileHead)) → Homed node fits c home → HeadsFound home.greatest_moment.0 heads 64 c → length heads ≡ 64
    → (f i : ℕ) → 4 * f ≤ i → i < 4 * f + 4 → (FitsAt (data_area (sizes_of home)) (all_extents heads) i → ⊥) → IsPlaced c f → ⊥
unplaced node fits c home heads homed found long f i low high misfit placed =
    let same : placed.home ≡ home = homed.one placed.home placed.ranges placed.stands in
    let alike : placed.heads ≡ heads = same_heads home.greatest_moment.0 heads placed.heads c found long placed.count placed.tells in
    let P : Home → Type 0 = λ h. FitsAt (data_area (sizes_of h)) (all_extents placed.heads) i in
    let Q : List (Option FileHead) → Type 0 = λ hs. FitsAt (data_area (sizes_of home)) (all_extents hs) i in
    misfit (subst Q alike (subst P same (placed.extents i low high)))

-- condition 5 fails first there
pub placed_finding : (node : List ℕ) (fits : Bool) (c : Content) (home : Home) (heads : List (Option FileHead)) (i : ℕ) → i < 256 → Homed node fits c home → HeadsFound home.greatest_moment.0 heads 64 c → length heads ≡ 64
    → (FitsAt (data_area (sizes_of home)) (all_extents heads) i → ⊥) → ((k : ℕ) → k < i → FitsAt (data_area (sizes_of home)) (all_extents heads) k) → IsFirstFinding node fits c 5 (519 + i / 4)
placed_finding node fits c home heads i within homed found long misfit lower =
    let place : 519 + i / 4 - 519 ≡ i / 4 = omega arith in
    record {
      finding = record {
        tested = record { least = omega arith; most = omega arith; home = λ h. absurd (omega arith); directory = λ _. (omega arith, omega arith) };
        fails = λ m. unplaced node fits c home heads homed found long (i / 4) i (omega arith) (omega arith) misfit (subst (IsPlaced c) place (m.placed refl));
        before = λ n b low tested. lower_meet node fits c home heads homed found n b low tested;
      };
      lowest = λ b low tested.
          let from = (tested.directory (omega arith)).0 in
          record {
            front = λ e. absurd (omega arith);
            sized = λ e. absurd (omega arith);
            owned = λ e. absurd (omega arith);
            listed = λ e. absurd (omega arith);
            placed = λ _. placed_of node fits c home heads homed found long (b - 519) (λ k at_least below. lower k (omega arith));
          };
    }

-- all five hold
pub all_meet : (node : List ℕ) (fits : Bool) (c : Content) (home : Home) (heads : List (Option FileHead)) → Homed node fits c home → HeadsFound home.greatest_moment.0 heads 64 c → length heads ≡ 64
    → ((k : ℕ) → k < 256 → FitsAt (data_area (sizes_of home)) (all_extents heads) k) → IsValid node fits c
all_meet node fits c home heads homed found long all number block tested = record {
  front = λ _. homed.front;
  sized = λ _. homed.sized;
  owned = λ _. record { home = home; ranges = homed.ranges; stands = homed.stands; fit = homed.fit };
  listed = λ e. let at = tested.directory (omega arith) in let from = at.0 in let to = at.1 in listed_of node fits c home heads 64 homed found (block - 519) (omega arith);
  placed = λ e. let at = tested.directory (omega arith) in let from = at.0 in let to = at.1 in
      placed_of node fits c home heads homed found long (block - 519) (λ k at_least below. all k (omega arith));
}

-- what is loaded
pub loaded_of : (node : List ℕ) (fits : Bool) (c : Content) (v : Catalog) → Homed node fits c v.home → HeadsFound v.home.greatest_moment.0 v.heads 64 c → length v.heads ≡ 64
    → ((k : ℕ) → k < 256 → FitsAt (data_area (sizes_of v.home)) (all_extents v.heads) k) → HasRu (block_at c 65) v.ru → Loaded node fits v c
loaded_of node fits c v homed found long all ru = record {
  tells = record { ranges = homed.ranges; home = homed.stands; heads = tells_of v.home.greatest_moment.0 v.heads c found; ru = ru };
  only = λ u tells many. (homed.one u.home tells.ranges tells.home, same_heads v.home.greatest_moment.0 v.heads u.heads c found long many tells.heads);
  valid = all_meet node fits c v.home v.heads homed found long all;
}

-- what is loaded is sound
pub sound_of : (node : List ℕ) (disk : ℕ) (v : Catalog) → HomeSound node disk v.home → HeadsSound v.home.greatest_moment.0 v.heads 64
    → ((k : ℕ) → k < 256 → FitsAt (data_area (sizes_of v.home)) (all_extents v.heads) k) → v.ru.start ≡ 584 + v.home.slots → v.ru.blocks ≡ v.home.ru_blocks → IsSound node disk v
sound_of node disk v home heads all start blocks = record {
  version = home.version;
  sizes = home.sizes;
  home = home.fit;
  files = λ f within. (heads f within).fits;
  names = λ f within. (heads f within).new;
  extents = all;
  ru_start = start;
  ru_blocks = blocks;
}

-- the same where the content is told
pub home_found_told : (told : Option Content) (node : List ℕ) (fits : Bool) (disk : ℕ) (block : List ℕ) (home : Home) → IfSome told (λ b. block ≡ block_at b 0) → IfSome told (λ b. length b + 518 ≡ disk)
    → HomeFound node fits disk block home → IfSome told (λ c. HomeFound node fits (length c + 518) (block_at c 0) home)
home_found_told None node fits disk block home is long found = tt
home_found_told (Some c) node fits disk block home is long found =
    subst (λ (b : List ℕ). HomeFound node fits (length c + 518) b home) is (subst (λ (n : ℕ). HomeFound node fits n block home) (sym long) found)

pub home_finding_told : (told : Option Content) (node : List ℕ) (fits : Bool) (disk : ℕ) (block : List ℕ) (number : ℕ) → IfSome told (λ b. block ≡ block_at b 0) → IfSome told (λ b. length b + 518 ≡ disk)
    → HomeMisses node fits disk block number → IfSome told (λ c. IsFirstFinding node fits c number 518)
home_finding_told None node fits disk block number is long misses = tt
home_finding_told (Some c) node fits disk block number is long misses =
    home_finding node fits c number (subst (λ (b : List ℕ). HomeMisses node fits (length c + 518) b number) is (subst (λ (n : ℕ). HomeMisses node fits n block number) (sym long) misses))

pub listed_finding_told : (told : Option Content) (node : List ℕ) (fits : Bool) (home : Home) (heads : List (Option FileHead)) (f : ℕ) → f < 64 → IfSome told (λ c. HomeFound node fits (length c + 518) (block_at c 0) home)
    → IfSome told (λ c. HeadsFound home.greatest_moment.0 heads f c × EntryMisses home.greatest_moment.0 heads f (block_at c (1 + f))) → IfSome told (λ c. IsFirstFinding node fits c 4 (519 + f))
listed_finding_told None node fits home heads f within homed found = tt
listed_finding_told (Some c) node fits home heads f within homed found = listed_finding node fits c home heads f within homed found.0 found.1

pub placed_finding_told : (told : Option Content) (node : List ℕ) (fits : Bool) (home : Home) (heads : List (Option FileHead)) (i : ℕ) → i < 256 → IfSome told (λ c. HomeFound node fits (length c + 518) (block_at c 0) home)
    → IfSome told (HeadsFound home.greatest_moment.0 heads 64) → length heads ≡ 64 → (FitsAt (data_area (sizes_of home)) (all_extents heads) i → ⊥)
    → ((k : ℕ) → k < i → FitsAt (data_area (sizes_of home)) (all_extents heads) k) → IfSome told (λ c. IsFirstFinding node fits c 5 (519 + i / 4))
placed_finding_told None node fits home heads i within homed found long misfit lower = tt
placed_finding_told (Some c) node fits home heads i within homed found long misfit lower = placed_finding node fits c home heads i within homed found long misfit lower

pub loaded_told : (told : Option Content) (node : List ℕ) (fits : Bool) (v : Catalog) → IfSome told (λ c. HomeFound node fits (length c + 518) (block_at c 0) v.home) → IfSome told (HeadsFound v.home.greatest_moment.0 v.heads 64)
    → length v.heads ≡ 64 → ((k : ℕ) → k < 256 → FitsAt (data_area (sizes_of v.home)) (all_extents v.heads) k) → IfSome told (λ c. HasRu (block_at c 65) v.ru) → IfSome told (Loaded node fits v)
loaded_told None node fits v homed found long all ru = tt
loaded_told (Some c) node fits v homed found long all ru = loaded_of node fits c v homed found long all ru

-- the extents that were tested are those of the heads, in the data area of the home
pub fit_all : (area : Extent) (es : List Extent) (home : Home) (heads : List (Option FileHead)) → area ≡ data_area (sizes_of home) → es ≡ all_extents heads → length es ≡ 256
    → ((k : ℕ) → k < length es → FitsAt area es k) → (k : ℕ) → k < 256 → FitsAt (data_area (sizes_of home)) (all_extents heads) k
fit_all area es home heads same alike long all k within =
    subst (λ (l : List Extent). FitsAt (data_area (sizes_of home)) l k) alike (subst (λ (a : Extent). FitsAt a es k) same (all k (omega arith)))

pub fit_below : (area : Extent) (es : List Extent) (home : Home) (heads : List (Option FileHead)) (i : ℕ) → area ≡ data_area (sizes_of home) → es ≡ all_extents heads
    → ((k : ℕ) → k < i → FitsAt area es k) → (k : ℕ) → k < i → FitsAt (data_area (sizes_of home)) (all_extents heads) k
fit_below area es home heads i same alike all k within =
    subst (λ (l : List Extent). FitsAt (data_area (sizes_of home)) l k) alike (subst (λ (a : Extent). FitsAt a es k) same (all k within))

pub misfit_at : (area : Extent) (es : List Extent) (home : Home) (heads : List (Option FileHead)) (i : ℕ) → area ≡ data_area (sizes_of home) → es ≡ all_extents heads
    → (FitsAt area es i → ⊥) → FitsAt (data_area (sizes_of home)) (all_extents heads) i → ⊥
misfit_at area es home heads i same alike misfit fit =
    misfit (subst (λ (a : Extent). FitsAt a es i) (sym same) (subst (λ (l : List Extent). FitsAt (data_area (sizes_of home)) l i) (sym alike) fit))
