-- An entry of the journal as it is read and shown.
use Rattle.std.proofs.Common.{◌≡◌, ℕ, ◌+◌, ◌≤◌, Bool, true, false, List, [], ◌∷◌, length, Option, Some, None, IfSome, is_some, if◌then◌else◌, refl, sym, ap, subst, ◌∙◌, arith}
use Rattle.std.specs.Prelude.{unwrap_or}
use Rattle.std.proofs.lemmas.Nat.{from_le_bytes-to_le_bytes_4}
use Rattle.std.proofs.lemmas.Bool.Decides.{nat_tests}
use Rattle.std.proofs.lemmas.List.{append-nil}
use Rattle.file_base.specs.declared.head.FileHead.{FileHead}
use Rattle.file_base.specs.declared.head.Span.{Span}
use Rattle.file_base.specs.declared.head.Organization.{Organization}
use Rattle.file_base.specs.declared.head.Organization.TheVariants.{Sequential, Relative, Indexed}
use Rattle.vms_base.specs.Ids.{tid_of, serial_of}
use Rattle.vms_model.specs.Keys.{Key, Number, Text, End}
use Rattle.vms_model.specs.Ids.{Id}
use Rattle.journal_format.specs.journal_model.Entries.{Entry, IsEntry, is_key, spelling}
use Rattle.journal_format.specs.journal_model.Ring.{StandsAt}
use Rattle.journal_store.specs.Reading.{ReadsAt}
use Rattle.journal_format.specs.Heads.{entry_of, flag_of, kind_code}
use Rattle.journal_format.specs.declared.head.EntryHead.{EntryHead}
use Rattle.journal_format.specs.declared.head.EntryKind.{EntryKind}
use Rattle.journal_format.specs.declared.head.EntryKind.TheVariants.{Change}
use Rattle.emitter_model.specs.transcript_model.Lines as line
use Rattle.emitter_model.specs.transcript_model.Lines.{Line}
use Rattle.file_images.specs.unit_laws.Journal.{JournalEntry, ChangeEntry, PreparedEntry, SettledEntry, entry_size}
use Rattle.file_images.specs.run_model.Answers.{entry_line}
use Rattle.directory_model.specs.Files.{head_at}
use Rattle.volume.specs.State.{VolumeState}
use Rattle.file_images.specs.Images.{image_bytes, key_bytes}
use Rattle.recovery_units.specs.volume_model.Entries.{IsFileOf, entry_for}
use Rattle.recovery_units.proofs.volume_model.EntryLemmas.{entries_follow}
use Rattle.recovery_units.specs.State.{IsKeyBy, IsShowable}
use Rattle.file_requests.specs.Listing.{change_shown, key_by}

-- a key's bytes stand for it in a file so organized
key_again : (o : Organization) (key : Key) (bytes : List ℕ) → IsKeyBy o key → bytes ≡ key_bytes key → key_by o bytes ≡ Some key
key_again Sequential (Number n) bytes is e = ap (key_by Sequential) e ∙ ap (λ (m : ℕ). Some (Number m)) (from_le_bytes-to_le_bytes_4 n is)
key_again Relative (Number n) bytes is e = ap (key_by Relative) e ∙ ap (λ (m : ℕ). Some (Number m)) (from_le_bytes-to_le_bytes_4 n is)
key_again Indexed (Text text) bytes is e = ap (λ (bs : List ℕ). Some (Text bs)) e
key_again Sequential (Text text) bytes is e = absurd is
key_again Relative (Text text) bytes is e = absurd is
key_again Indexed (Number n) bytes is e = absurd is
key_again Sequential End bytes is e = absurd is
key_again Relative End bytes is e = absurd is
key_again Indexed End bytes is e = absurd is

-- an entry of a change has a key
some_key : (size : ℕ) → is_key 1 size ≡ true → 1 ≤ size
some_key size e = grind (arith, nat_tests)

key_there : (k : Option (List ℕ)) (bytes : List ℕ) → unwrap_or k [] ≡ bytes → is_key 1 (length (unwrap_or k [])) ≡ true → k ≡ Some bytes
key_there None bytes e is = let one : 1 ≤ 0 = some_key 0 is in absurd (omega (arith, one))
key_there (Some key) bytes e is = ap (λ (bs : List ℕ). Some bs) e

image_there : (present : Bool) (image : List ℕ) (before : Option (List ℕ)) → ◌≡◌ {A = ℕ} (if present then 1 else 0) (if is_some before then 1 else 0) → image ≡ image_bytes before → (if present then Some image else None) ≡ before
image_there true image (Some bytes) e is = ap (λ (bs : List ℕ). Some bs) is
image_there false image None e is = refl
image_there true image None e is = let none : ⊥ = omega (arith, e) in absurd none
image_there false image (Some bytes) e is = let none : ⊥ = omega (arith, e) in absurd none

abbrev shown_by : ℕ → EntryHead → Id → Id → List ℕ → (image : Option (List ℕ)) → Option Key → Option Line
shown_by position h tid serial name image k = elim k [ Some key ↦ Some (line.ChangeEntry position tid serial name key image) | None ↦ None ]

other_kind : (k : EntryKind) (n : ℕ) → k ≡ Change → kind_code k ≡ n → n ≡ 1
other_kind k n is e = sym e ∙ ap kind_code is

pub change_is : (heads : List (Option FileHead)) (greatest position : ℕ) (h : EntryHead) (image : List ℕ) (o : Option FileHead) (e : JournalEntry) (f : ℕ) → h.kind ≡ Change → o ≡ head_at heads h.file → IsFileOf heads e f → entry_of h image ≡ entry_for f e → IsShowable heads greatest e → IsEntry (entry_of h image) →
    change_shown position h o image ≡ Some (entry_line position e)
change_is heads greatest position h image o (PreparedEntry tid serial) f kind at file same showable is = let two : ◌≡◌ {A = ℕ} 2 1 = other_kind h.kind 2 kind (ap (λ (x : Entry). x.kind) same) in absurd (omega (arith, two))
change_is heads greatest position h image o (SettledEntry tid serial outcome moment) f kind at file same showable is = let two : ◌≡◌ {A = ℕ} 3 1 = other_kind h.kind 3 kind (ap (λ (x : Entry). x.kind) same) in absurd (omega (arith, two))
change_is heads greatest position h image o (ChangeEntry tid serial name key before) f kind at file same showable is =
    let head = file.0 in
    let number : h.file ≡ f = ap (λ (x : Entry). x.file) same in
    let there : o ≡ Some head = at ∙ ap (head_at heads) number ∙ file.1 in
    let bytes : unwrap_or h.key [] ≡ key_bytes key = ap (λ (x : Entry). x.key) same in
    let has : h.key ≡ Some (key_bytes key) = key_there h.key (key_bytes key) bytes (subst (λ k. is_key (kind_code k) (length (unwrap_or h.key [])) ≡ true) kind is.key) in
    let by : key_by head.organization (key_bytes key) ≡ Some key = key_again head.organization key (key_bytes key) (showable f head file.1 file.2) refl in
    let flag : ◌≡◌ {A = ℕ} (if h.present then 1 else 0) (if is_some before then 1 else 0) = subst (λ k. flag_of k h.present h.outcome ≡ (if is_some before then 1 else 0)) kind (ap (λ (x : Entry). x.flag) same) in
    let before_is = image_there h.present image before flag (ap (λ (x : Entry). x.image) same) in
    ap (λ (x : Option FileHead). change_shown position h x image) there
    ∙ ap (λ (k : Option (List ℕ)). shown_with head k) has
    ∙ ap (λ (k : Option Key). shown_by position h (tid_of h.tid) (serial_of h.serial) head.name (if h.present then Some image else None) k) by
    ∙ (λ i. Some (line.ChangeEntry position (ap (λ (x : Entry). x.tid) same i) (ap (λ (x : Entry). x.serial) same i) (file.2 i) key (before_is i)))
  where
    shown_with : FileHead → Option (List ℕ) → Option Line
    shown_with head None = None
    shown_with head (Some bytes) = shown_by position h (tid_of h.tid) (serial_of h.serial) head.name (if h.present then Some image else None) (key_by head.organization bytes)

-- What is read where an entry stands.

pub spelled_long : (heads : List (Option FileHead)) (e : JournalEntry) (f : ℕ) → IsFileOf heads e f → IsEntry (entry_for f e) → length (spelling (entry_for f e)) ≡ entry_size e
spelled_long heads e f file is =
    let one = entries_follow.sized heads (e ∷ []) (entry_for f e ∷ []) (f, file, refl, tt) (is, tt) in
    let alone = ap length (append-nil (spelling (entry_for f e))) in
    sym alone ∙ one ∙ omega arith

module _ (v : VolumeState) (s : Span) (position : ℕ) (content : List (List ℕ)) (e : JournalEntry) (f : ℕ) (told : v.store.current ≡ Some content) (file : IsFileOf v.catalog.heads e f) (is : IsEntry (entry_for f e)) (stands : StandsAt s position (entry_for f e) content)
    (now : Option (List (List ℕ))) (o : Option (EntryHead × ℕ)) (image : List ℕ) (same : now ≡ v.store.current) (reads : IfSome now (ReadsAt s position o image)) where
  at_here : (p : Option (EntryHead × ℕ)) → o ≡ p → ReadsAt s position p image content
  at_here p at = subst (λ (x : Option (List (List ℕ))). IfSome x (ReadsAt s position p image)) (same ∙ told) (subst (λ x. IfSome now (ReadsAt s position x image)) at reads)

  pub reads_some : o ≡ None → ⊥
  reads_some none = at_here None none (entry_for f e) is stands

  pub reads_it : (head : EntryHead) (next : ℕ) → o ≡ Some (head, next) → (entry_of head image ≡ entry_for f e) × (next ≡ position + entry_size e)
  reads_it head next at =
      let h = at_here (Some (head, next)) at in
      let it = h.only (entry_for f e) is stands in
      (it, h.behind ∙ ap (λ (d : Entry). position + length (spelling d)) it ∙ ap (λ (k : ℕ). position + k) (spelled_long v.catalog.heads e f file is))
