-- Settlements in the journals of files that keep none.
use Rattle.std.proofs.Common.{◌≡◌, ℕ, suc, zero, ◌+◌, Bool, true, false, List, [], ◌∷◌, Option, Some, None, length, option_map, slice_set, refl, sym, ap, subst, ◌∙◌, arith, if◌then◌else◌}
use Rattle.std.specs.Prelude.{slice_index_or}
use Rattle.volume_format.specs.file_base.declared.head.FileHead.{FileHead}
use Rattle.journal_format.specs.journal_model.Entries.{Entry, spelling}
use Rattle.unit_table.specs.Units.{OpenUnit}
use Rattle.vms_base.specs.declared.ids.Serial.{Serial}
use Rattle.vms_base.specs.declared.ids.Tid.{Tid}
use Rattle.volume.specs.Catalogs.{head_at}
use Rattle.volume.specs.State.{VolumeState}
use Rattle.volume.specs.declared.catalog.Catalog.{Catalog}
use Rattle.volume_format.specs.declared.home.Ending.{Ending}
use Rattle.unit_journal.specs.Settling.{MakesSettlement, content_with, from_earliest, settled_home, span_with, with_front}
use Rattle.image_appends.specs.declared.side.Side.{Side}
use Rattle.image_appends.specs.declared.side.Side.TheVariants.{After, Before}
use Rattle.image_appends.specs.Images.{content_grown, content_with as image_in, content_with_both, entered, files_grown, grown, heads_with, heads_with_both, is_kept}
use Rattle.image_appends.specs.Settling.{content_from, content_if, heads_from, heads_if}
use Rattle.file_settlements.specs.Settling.{EntersSettled, KeepNone, KeepsNone, SettlesFiles, content_settled, heads_settled}

-- One journal that is not kept.

heads_unkept : (o : Option FileHead) (file : ℕ) (side : Side) (size : ℕ) (heads : List (Option FileHead)) → ((h : FileHead) → o ≡ Some h → is_kept side h ≡ false) → files_grown o file side size heads ≡ heads
heads_unkept None file side size heads none = refl
heads_unkept (Some h) file side size heads none = ap (λ (b : Bool). if b then slice_set heads file (Some (grown side size h)) else heads) (none h refl)

content_unkept : (o : Option FileHead) (file : ℕ) (side : Side) (bytes : List ℕ) (c : List (List ℕ)) → ((h : FileHead) → o ≡ Some h → is_kept side h ≡ false) → content_grown o file side bytes c ≡ c
content_unkept None file side bytes c none = refl
content_unkept (Some h) file side bytes c none = ap (λ (b : Bool). if b then entered file side bytes h c else c) (none h refl)

-- Both, of a file that takes part or does not.

heads_both : (file size : ℕ) (heads : List (Option FileHead)) → ((h : FileHead) → head_at heads file ≡ Some h → KeepsNone h) → heads_with_both file size size heads ≡ heads
heads_both file size heads none =
    let first : heads_with file After size heads ≡ heads = heads_unkept (head_at heads file) file After size heads (λ h is. (none h is).afters) in
    ap (λ (hs : List (Option FileHead)). heads_with file Before size hs) first ∙ heads_unkept (head_at heads file) file Before size heads (λ h is. (none h is).befores)

content_both : (file : ℕ) (bytes : List ℕ) (heads : List (Option FileHead)) (c : List (List ℕ)) → ((h : FileHead) → head_at heads file ≡ Some h → KeepsNone h) → content_with_both file bytes bytes heads c ≡ c
content_both file bytes heads c none =
    let first : heads_with file After (length bytes) heads ≡ heads = heads_unkept (head_at heads file) file After (length bytes) heads (λ h is. (none h is).afters) in
    let second : image_in file After bytes heads c ≡ c = content_unkept (head_at heads file) file After bytes c (λ h is. (none h is).afters) in
    (λ i. image_in file Before bytes (first i) (second i)) ∙ content_unkept (head_at heads file) file Before bytes c (λ h is. (none h is).befores)

pub heads_one : (takes : Bool) (file size : ℕ) (heads : List (Option FileHead)) → (takes ≡ true → (h : FileHead) → head_at heads file ≡ Some h → KeepsNone h) → heads_if takes file size heads ≡ heads
heads_one true file size heads none = heads_both file size heads (none refl)
heads_one false file size heads none = refl

pub content_one : (takes : Bool) (file : ℕ) (bytes : List ℕ) (heads : List (Option FileHead)) (c : List (List ℕ)) → (takes ≡ true → (h : FileHead) → head_at heads file ≡ Some h → KeepsNone h) → content_if takes file bytes heads c ≡ c
content_one true file bytes heads c none = content_both file bytes heads c (none refl)
content_one false file bytes heads c none = refl

-- The files from a number on.

abbrev NoneFrom : (n : ℕ) → List Bool → List (Option FileHead) → Type 0
NoneFrom n files heads = (file : ℕ) (h : FileHead) → slice_index_or files file false ≡ true → head_at heads (n + file) ≡ Some h → KeepsNone h

none_here : (n : ℕ) (takes : Bool) (files : List Bool) (heads : List (Option FileHead)) → NoneFrom n (takes ∷ files) heads → takes ≡ true → (h : FileHead) → head_at heads n ≡ Some h → KeepsNone h
none_here n takes files heads none is h at = none 0 h is (ap (λ (m : ℕ). head_at heads m) (let e : n + 0 ≡ n = omega arith in e) ∙ at)

none_next : (n : ℕ) (takes : Bool) (files : List Bool) (heads : List (Option FileHead)) → NoneFrom n (takes ∷ files) heads → NoneFrom (suc n) files heads
none_next n takes files heads none file h is at = none (suc file) h is (ap (λ (m : ℕ). head_at heads m) (let e : n + suc file ≡ suc n + file = omega arith in e) ∙ at)

heads_all : (files : List Bool) (n size : ℕ) (heads : List (Option FileHead)) → NoneFrom n files heads → heads_from n files size heads ≡ heads
heads_all [] n size heads none = refl
heads_all (takes ∷ files) n size heads none =
    ap (λ (hs : List (Option FileHead)). heads_from (suc n) files size hs) (heads_one takes n size heads (none_here n takes files heads none)) ∙ heads_all files (suc n) size heads (none_next n takes files heads none)

content_all : (files : List Bool) (n : ℕ) (bytes : List ℕ) (heads : List (Option FileHead)) (c : List (List ℕ)) → NoneFrom n files heads → content_from n files bytes heads c ≡ c
content_all [] n bytes heads c none = refl
content_all (takes ∷ files) n bytes heads c none =
    let here = none_here n takes files heads none in
    (λ i. content_from (suc n) files bytes (heads_one takes n (length bytes) heads here i) (content_one takes n bytes heads c here i)) ∙ content_all files (suc n) bytes heads c (none_next n takes files heads none)

-- Settlements.

none_from : (files : List Bool) (heads : List (Option FileHead)) → KeepNone files heads → NoneFrom 0 files heads
none_from files heads none file h is at = none file h is (ap (λ (m : ℕ). head_at heads m) (let e : file ≡ 0 + file = omega arith in e) ∙ at)

heads_stay : (e : Option Entry) (files : List Bool) (heads : List (Option FileHead)) → KeepNone files heads → heads_settled e files heads ≡ heads
heads_stay None files heads none = refl
heads_stay (Some e) files heads none = heads_all files 0 (length (spelling e)) heads (none_from files heads none)

content_stays : (e : Option Entry) (files : List Bool) (heads : List (Option FileHead)) (c : List (List ℕ)) → KeepNone files heads → content_settled e files heads c ≡ c
content_stays None files heads c none = refl
content_stays (Some e) files heads c none = content_all files 0 (spelling e) heads c (none_from files heads none)

current_stays : (e : Option Entry) (files : List Bool) (heads : List (Option FileHead)) (o : Option (List (List ℕ))) → KeepNone files heads → option_map (content_settled e files heads) o ≡ o
current_stays e files heads None none = refl
current_stays e files heads (Some c) none = ap (λ (x : List (List ℕ)). Some x) (content_stays e files heads c none)

module _ (files : List Bool) (tid : Tid) (serial : Serial) (ending : Ending) (moment : ℕ) (e : Option Entry) (left : List (Option OpenUnit)) (v made : VolumeState) where
  pub is_plain : KeepNone files v.catalog.heads → SettlesFiles files tid serial ending moment e left v made → MakesSettlement tid serial ending moment e left v made
  is_plain none s =
      let mid = s.mid in
      let catalog : mid.catalog ≡ v.catalog = s.entered.catalog ∙ (λ i. record v.catalog { heads = heads_stay e files v.catalog.heads none i }) in
      let current : mid.store.current ≡ v.store.current = s.entered.current ∙ current_stays e files v.catalog.heads v.store.current none in
      record {
        current = s.settles.current ∙ (λ i. option_map (λ (c : List (List ℕ)). with_front (settled_home tid serial ending moment (catalog i).home) (from_earliest left (span_with e (catalog i).ru)) (content_with e (catalog i).ru c)) (current i));
        catalog = s.settles.catalog ∙ (λ i. record (catalog i) { home = settled_home tid serial ending moment (catalog i).home; ru = from_earliest left (span_with e (catalog i).ru) });
      }

  pub is_with_files : KeepNone files v.catalog.heads → MakesSettlement tid serial ending moment e left v made → SettlesFiles files tid serial ending moment e left v made
  is_with_files none makes = record {
    mid = v;
    entered = record {
      current = sym (current_stays e files v.catalog.heads v.store.current none);
      catalog = λ i. record v.catalog { heads = sym (heads_stay e files v.catalog.heads none) i };
    };
    settles = makes;
  }
