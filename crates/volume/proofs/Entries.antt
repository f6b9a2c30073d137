-- Entries of the directory, found one after the other.
use Rattle.std.proofs.Common.{◌≡◌, ◌≢◌, ◌↔◌, inl, inr, ℕ, ◌+◌, ◌-◌, ◌<◌, ◌≤◌, List, Option, Some, None, IfSome, length, set, refl, sym, ap, subst, ◌∙◌, arith}
use Rattle.std.proofs.lemmas.Bool.{cases_eq}
use Rattle.std.proofs.lemmas.List.{get_or-set_same, get_or-set_other}
use Rattle.careful_write.specs.block_disk.Blocks.{block_at}
use Rattle.file_base.specs.declared.head.FileHead.{FileHead}
use Rattle.volume_format.specs.declared.head.DirectoryEntry.{DirectoryEntry}
use Rattle.volume_format.specs.declared.head.DirectoryEntry.TheVariants as entry
use Rattle.volume_format.specs.Head.{IsEntry, entry_block}
use Rattle.volume.specs.Limits.{EntryFits, FileFits}
use Rattle.volume.specs.Catalogs.{IsNew, NewName, head_at, entry_of}
use Rattle.volume.specs.Load.{EntryFound, EntryMisses, EntrySound, HeadsFound, HeadsSound}

pub some_same : {H : Type 0} (a b : H) → Some a ≡ Some b → a ≡ b
some_same a b h = cc

-- an entry is told by its directory block's reading
entry_same : (a b : Option FileHead) → entry_of a ≡ entry_of b → a ≡ b
entry_same None None h = refl
entry_same None (Some b) h = cc
entry_same (Some a) None h = cc
entry_same (Some a) (Some b) h = cc

pub entry_found : (greatest : ℕ) (heads : List (Option FileHead)) (f : ℕ) (block : List ℕ) (r : Option DirectoryEntry) (o : Option FileHead)
    → ((e : DirectoryEntry) → (r ≡ Some e) ↔ (IsEntry e × entry_block e ≡ block)) → r ≡ Some (entry_of o) → EntryFits greatest o → IsNew heads f o → EntryFound greatest heads f block o
entry_found greatest heads f block r o all is fits new =
    let told = (all (entry_of o)).0 is in
    record {
      tells = record { ranges = told.0; bytes = told.1 };
      one = λ other tells. entry_same other o (some_same (entry_of other) (entry_of o) (sym ((all (entry_of other)).1 (tells.ranges, tells.bytes)) ∙ is));
      fits = fits;
      new = new;
    }

missed : (greatest : ℕ) (heads : List (Option FileHead)) (f : ℕ) (h : FileHead) (o : Option FileHead) → Some (entry.File h) ≡ Some (entry_of o) → (FileFits greatest h → NewName heads f h.name → ⊥) → EntryFits greatest o → IsNew heads f o → ⊥
missed greatest heads f h None is unsuited fits new = cc
missed greatest heads f h (Some k) is unsuited fits new =
    let same : h ≡ k = cc in
    unsuited (subst (FileFits greatest) (sym same) fits) (subst (λ (x : FileHead). NewName heads f x.name) (sym same) new)

-- a block is the entry of no file where its own does not suit
pub entry_missed : (greatest : ℕ) (heads : List (Option FileHead)) (f : ℕ) (block : List ℕ) (r : Option DirectoryEntry) (h : FileHead)
    → ((e : DirectoryEntry) → (r ≡ Some e) ↔ (IsEntry e × entry_block e ≡ block)) → r ≡ Some (entry.File h) → (FileFits greatest h → NewName heads f h.name → ⊥) → EntryMisses greatest heads f block
entry_missed greatest heads f block r h all is unsuited o tells fits new =
    missed greatest heads f h o (sym is ∙ (all (entry_of o)).1 (tells.ranges, tells.bytes)) unsuited fits new

-- a file of a higher number leaves what was found of the lower ones
new_kept : (heads : List (Option FileHead)) (k f : ℕ) (x o : Option FileHead) → k ≤ f → IsNew heads k o → IsNew (set heads f x) k o
new_kept heads k f x None low new = tt
new_kept heads k f x (Some h) low new = λ g other below has same.
    let apart : g ≢ f = λ is. absurd (omega arith) in
    new g other below (sym (get_or-set_other heads f g x None apart) ∙ has) same

pub entry_kept : (greatest : ℕ) (heads : List (Option FileHead)) (k f : ℕ) (block : List ℕ) (x o : Option FileHead) → k ≤ f → EntryFound greatest heads k block o → EntryFound greatest (set heads f x) k block o
entry_kept greatest heads k f block x o low found = record { tells = found.tells; one = found.one; fits = found.fits; new = new_kept heads k f x o low found.new }

-- one more
pub heads_more : (greatest : ℕ) (heads : List (Option FileHead)) (f : ℕ) (c : List (List ℕ)) (o : Option FileHead) → f < length heads → HeadsFound greatest heads f c → EntryFound greatest heads f (block_at c (1 + f)) o
    → HeadsFound greatest (set heads f o) (f + 1) c
heads_more greatest heads f c o within found here k below =
    elim (cases_eq k f) [
      | inl is ↦ let there : head_at (set heads f o) f ≡ o = get_or-set_same heads f o None within in
          let P : ℕ → Type 0 = λ n. EntryFound greatest (set heads f o) n (block_at c (1 + n)) (head_at (set heads f o) n) in
          subst P (sym is) (subst (EntryFound greatest (set heads f o) f (block_at c (1 + f))) (sym there) (entry_kept greatest heads f f (block_at c (1 + f)) o o (omega arith) here))
      | inr isnt ↦ let there : head_at (set heads f o) k ≡ head_at heads k = get_or-set_other heads f k o None isnt in
          subst (EntryFound greatest (set heads f o) k (block_at c (1 + k))) (sym there) (entry_kept greatest heads k f (block_at c (1 + k)) o (head_at heads k) (omega arith) (found k (omega arith)))
    ]

-- the same where the content is told
pub heads_more_told : (greatest : ℕ) (heads : List (Option FileHead)) (f : ℕ) (told : Option (List (List ℕ))) (block : List ℕ) (o : Option FileHead) → f < length heads → IfSome told (HeadsFound greatest heads f)
    → IfSome told (λ c. block ≡ block_at c (519 + f - 518)) → EntryFound greatest heads f block o → IfSome told (HeadsFound greatest (set heads f o) (f + 1))
heads_more_told greatest heads f None block o within found is here = tt
heads_more_told greatest heads f (Some c) block o within found is here =
    let place : 519 + f - 518 ≡ 1 + f = omega arith in
    heads_more greatest heads f c o within found (subst (λ b. EntryFound greatest heads f b o) (is ∙ ap (block_at c) place) here)

pub misses_told : (greatest : ℕ) (heads : List (Option FileHead)) (f : ℕ) (told : Option (List (List ℕ))) (block : List ℕ) → IfSome told (HeadsFound greatest heads f)
    → IfSome told (λ c. block ≡ block_at c (519 + f - 518)) → EntryMisses greatest heads f block → IfSome told (λ c. HeadsFound greatest heads f c × EntryMisses greatest heads f (block_at c (1 + f)))
misses_told greatest heads f None block found is misses = tt
misses_told greatest heads f (Some c) block found is misses =
    let place : 519 + f - 518 ≡ 1 + f = omega arith in
    (found, subst (EntryMisses greatest heads f) (is ∙ ap (block_at c) place) misses)

pub none_found : (greatest : ℕ) (heads : List (Option FileHead)) (told : Option (List (List ℕ))) → IfSome told (HeadsFound greatest heads 0)
none_found greatest heads None = tt
none_found greatest heads (Some c) = λ f below. absurd (omega arith)

-- what fits stays so
sound_kept : (greatest : ℕ) (heads : List (Option FileHead)) (k f : ℕ) (x o : Option FileHead) → k ≤ f → head_at (set heads f x) k ≡ o → EntryFits greatest o → IsNew heads k o → EntrySound greatest (set heads f x) k
sound_kept greatest heads k f x o low is fits new = record { fits = subst (EntryFits greatest) (sym is) fits; new = subst (IsNew (set heads f x) k) (sym is) (new_kept heads k f x o low new) }

pub sound_more : (greatest : ℕ) (heads : List (Option FileHead)) (f : ℕ) (o : Option FileHead) → f < length heads → HeadsSound greatest heads f → EntryFits greatest o → IsNew heads f o → HeadsSound greatest (set heads f o) (f + 1)
sound_more greatest heads f o within sound fits new k below =
    elim (cases_eq k f) [
      | inl is ↦ let P : ℕ → Type 0 = EntrySound greatest (set heads f o) in
          subst P (sym is) (sound_kept greatest heads f f o o (omega arith) (get_or-set_same heads f o None within) fits new)
      | inr isnt ↦ let there = sound k (omega arith) in
          sound_kept greatest heads k f o (head_at heads k) (omega arith) (get_or-set_other heads f k o None isnt) there.fits there.new
    ]
