-- A staged block changes the part of the catalog that it tells, and no other.
use Rattle.std.proofs.Common.{◌≡◌, ◌≢◌, inl, inr, ℕ, ◌+◌, ◌-◌, ◌<◌, ◌≤◌, List, [], Option, Some, None, IfSome, length, set, refl, sym, ap, subst, ◌∙◌, arith, option_map, length-set}
use Rattle.std.proofs.lemmas.Bool.{cases_eq}
use Rattle.std.proofs.lemmas.List.{get_or-set_same, get_or-set_other}
use Rattle.careful_write.specs.block_disk.Blocks.{block_at}
use Rattle.careful_write.specs.State.{StoreState}
use Rattle.file_base.specs.declared.head.FileHead.{FileHead}
use Rattle.file_base.specs.declared.head.Span.{Span}
use Rattle.volume_format.specs.declared.home.Home.{Home}
use Rattle.volume_format.specs.Head.{IsHead, head_block_of}
use Rattle.volume_format.specs.Home.{IsHome, HasHome, HasRu}
use Rattle.volume.specs.declared.catalog.Catalog.{Catalog}
use Rattle.volume.specs.Catalogs.{TellsCatalog, TellsEntry, TellsHeads, head_at}
use Rattle.volume.specs.State.{with_block}

abbrev Content : Type 0
Content = List (List ℕ)

-- another block stays
other_block : (c : Content) (k n : ℕ) (b : List ℕ) → n ≢ k → block_at (set c k b) n ≡ block_at c n
other_block c k n b apart = get_or-set_other c k n b [] apart

heads_kept : (heads : List (Option FileHead)) (c : Content) (k : ℕ) (b : List ℕ) → ((f : ℕ) → f < 64 → 1 + f ≢ k) → TellsHeads heads c 64 → TellsHeads heads (set c k b) 64
heads_kept heads c k b apart tells f within = subst (λ (x : List ℕ). TellsEntry x (head_at heads f)) (sym (other_block c k (1 + f) b (apart f within))) (tells f within)

one_head : (heads : List (Option FileHead)) (c : Content) (file k : ℕ) (h : FileHead) (b : List ℕ) → k ≡ 1 + file → file < 64 → k < length c → length heads ≡ 64 → IsHead h → b ≡ head_block_of h
    → TellsHeads heads c 64 → TellsHeads (set heads file (Some h)) (set c k b) 64
one_head heads c file k h b place low within long is bytes tells f in_range =
    elim (cases_eq f file) [
      | inl same ↦
          let there : head_at (set heads file (Some h)) f ≡ Some h = ap (head_at (set heads file (Some h))) same ∙ get_or-set_same heads file (Some h) None (omega arith) in
          let written : block_at (set c k b) (1 + f) ≡ head_block_of h = ap (block_at (set c k b)) (let e : 1 + f ≡ k = omega arith in e) ∙ get_or-set_same c k b [] within ∙ bytes in
          subst (λ (x : List ℕ). TellsEntry x (head_at (set heads file (Some h)) f)) (sym written) (subst (λ (o : Option FileHead). TellsEntry (head_block_of h) o) (sym there) (record { ranges = is; bytes = refl }))
      | inr other ↦
          let there : head_at (set heads file (Some h)) f ≡ head_at heads f = get_or-set_other heads file f (Some h) None other in
          subst (λ (x : List ℕ). TellsEntry x (head_at (set heads file (Some h)) f)) (sym (other_block c k (1 + f) b (λ e. other (omega arith))))
          (subst (λ (o : Option FileHead). TellsEntry (block_at c (1 + f)) o) (sym there) (tells f in_range))
    ]

head_told : (v : Catalog) (current : Option Content) (file k : ℕ) (h : FileHead) (b : List ℕ) (size : ℕ) → k ≡ 1 + file → file < 64 → 4096 ≤ size → length v.heads ≡ 64 → IsHead h → b ≡ head_block_of h
    → IfSome (option_map (λ c. set c k b) current) (λ c. length c + 518 ≡ size) → IfSome current (TellsCatalog v) → IfSome (option_map (λ c. set c k b) current) (TellsCatalog (record v { heads = set v.heads file (Some h) }))
head_told v None file k h b size place low big long is bytes whole tells = tt
head_told v (Some c) file k h b size place low big long is bytes whole tells =
    let all : length c + 518 ≡ size = ap (λ n. n + 518) (sym (length-set c k b)) ∙ whole in
    record {
      ranges = tells.ranges;
      home = subst (λ (x : List ℕ). HasHome x v.home) (sym (other_block c k 0 b (λ e. absurd (omega arith)))) tells.home;
      heads = one_head v.heads c file k h b place low (omega arith) long is bytes tells.heads;
      ru = subst (λ (x : List ℕ). HasRu x v.ru) (sym (other_block c k 65 b (λ e. absurd (omega arith)))) tells.ru;
    }

home_told : (v : Catalog) (current : Option Content) (h : Home) (b : List ℕ) (size : ℕ) → 4096 ≤ size → IsHome h → HasHome b h
    → IfSome (option_map (λ c. set c 0 b) current) (λ c. length c + 518 ≡ size) → IfSome current (TellsCatalog v) → IfSome (option_map (λ c. set c 0 b) current) (TellsCatalog (record v { home = h }))
home_told v None h b size big is has whole tells = tt
home_told v (Some c) h b size big is has whole tells =
    let all : length c + 518 ≡ size = ap (λ n. n + 518) (sym (length-set c 0 b)) ∙ whole in
    record {
      ranges = is;
      home = subst (λ (x : List ℕ). HasHome x h) (sym (get_or-set_same c 0 b [] (omega arith))) has;
      heads = heads_kept v.heads c 0 b (λ f within e. absurd (omega arith)) tells.heads;
      ru = subst (λ (x : List ℕ). HasRu x v.ru) (sym (other_block c 0 65 b (λ e. absurd (omega arith)))) tells.ru;
    }

ru_told : (v : Catalog) (current : Option Content) (s : Span) (b : List ℕ) (size : ℕ) → 4096 ≤ size → HasRu b s
    → IfSome (option_map (λ c. set c 65 b) current) (λ c. length c + 518 ≡ size) → IfSome current (TellsCatalog v) → IfSome (option_map (λ c. set c 65 b) current) (TellsCatalog (record v { ru = s }))
ru_told v None s b size big has whole tells = tt
ru_told v (Some c) s b size big has whole tells =
    let all : length c + 518 ≡ size = ap (λ n. n + 518) (sym (length-set c 65 b)) ∙ whole in
    record {
      ranges = tells.ranges;
      home = subst (λ (x : List ℕ). HasHome x v.home) (sym (other_block c 65 0 b (λ e. absurd (omega arith)))) tells.home;
      heads = heads_kept v.heads c 65 b (λ f within e. absurd (omega arith)) tells.heads;
      ru = subst (λ (x : List ℕ). HasRu x s) (sym (get_or-set_same c 65 b [] (omega arith))) has;
    }

abbrev Whole : StoreState → Type 0
Whole s = IfSome s.current (λ c. length c + 518 ≡ s.disk.size)

-- the store before and after a block was staged
pub holds_head : (v : Catalog) (s new : StoreState) (file : ℕ) (h : FileHead) (b : List ℕ) → new ≡ with_block (519 + file) b s → Whole new → file < 64 → 4096 ≤ s.disk.size → length v.heads ≡ 64 → IsHead h → b ≡ head_block_of h
    → IfSome s.current (TellsCatalog v) → IfSome new.current (TellsCatalog (record v { heads = set v.heads file (Some h) }))
holds_head v s new file h b is whole low big long head bytes tells =
    subst (λ (t : StoreState). IfSome t.current (TellsCatalog (record v { heads = set v.heads file (Some h) }))) (sym is)
    (head_told v s.current file (519 + file - 518) h b s.disk.size (omega arith) low big long head bytes (subst Whole is whole) tells)

pub holds_home : (v : Catalog) (s new : StoreState) (h : Home) (b : List ℕ) → new ≡ with_block 518 b s → Whole new → 4096 ≤ s.disk.size → IsHome h → HasHome b h
    → IfSome s.current (TellsCatalog v) → IfSome new.current (TellsCatalog (record v { home = h }))
holds_home v s new h b is whole big home has tells =
    subst (λ (t : StoreState). IfSome t.current (TellsCatalog (record v { home = h }))) (sym is) (home_told v s.current h b s.disk.size big home has (subst Whole is whole) tells)

pub holds_ru : (v : Catalog) (s new : StoreState) (r : Span) (b : List ℕ) → new ≡ with_block 583 b s → Whole new → 4096 ≤ s.disk.size → HasRu b r
    → IfSome s.current (TellsCatalog v) → IfSome new.current (TellsCatalog (record v { ru = r }))
holds_ru v s new r b is whole big has tells =
    subst (λ (t : StoreState). IfSome t.current (TellsCatalog (record v { ru = r }))) (sym is) (ru_told v s.current r b s.disk.size big has (subst Whole is whole) tells)
