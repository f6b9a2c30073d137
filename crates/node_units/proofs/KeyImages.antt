-- The images of one change, as entries of the journals of a file.
use Rattle.std.proofs.lemmas.Bool.Decides.{nat_tests}
use Rattle.std.proofs.Common.{◌≡◌, ℕ, suc, ◌+◌, ◌-◌, ◌≤◌, ◌^◌, List, [], ◌∷◌, Bool, true, false, Option, Some, None, if◌then◌else◌, length, refl, sym, ◌∙◌, ap, subst, arith}
use Rattle.std.specs.Prelude.{is_some, nat_le, unwrap_or}
use Rattle.std.specs.Option.{IfSome}
use Rattle.change_set.specs.Files.{SameFile}
use Rattle.file_base.specs.declared.head.FileHead.{FileHead}
use Rattle.file_base.specs.declared.head.Span.{Span}
use Rattle.unit_world.specs.file_images.Files.{form_of}
use Rattle.unit_world.specs.file_images.Images as images
use Rattle.unit_world.specs.file_images.Images.{IsOf, IsSuited, entry_by}
use Rattle.unit_world.proofs.file_images.Forms.{suited_by_form}
use Rattle.unit_world.proofs.file_images.Sizes.{long_by}
use Rattle.recovery_units.specs.image_appends.declared.side.Side.{Side}
use Rattle.recovery_units.specs.image_appends.declared.side.Side.TheVariants.{After, Before}
use Rattle.recovery_units.specs.image_appends.Images.{is_kept, span_of}
use Rattle.undo_laws.specs.image_groups.Groups.{MayEnter}
use Rattle.unit_world.specs.directory_model.Files.{head_at}
use Rattle.journal_format.proofs.Decoding.{entry_size}
use Rattle.journal_model.specs.Entries.{Entry, IsEntry, spelling}
use Rattle.journal_model.specs.Ring.{ring_size}
use Rattle.volume_files.specs.record_files.Any.{Suits}
use Rattle.recovery_model.specs.Journal.{Changed, entry_length}
use Rattle.rms_units.specs.unit_journal.Entries as spelled
use Rattle.rms_units.specs.unit_journal.Entries.{change_entry}
use Rattle.volume_format.specs.Head.{IsHead}
use Rattle.vms_model.specs.Ids.{Id}
use Rattle.records_model.specs.Records.{Change}
use Rattle.records_model.specs.History.{History, changed_it, changed_with}
use Rattle.unit_laws.proofs.LiveLemmas.{by_changes}
use Rattle.vms_model.specs.Keys.{Key, Number, Text, End}

one_more : (n : ℕ) → nat_le 1 (suc n) ≡ true
one_more n = grind (arith, nat_tests)

flag_is : (v : Option (List ℕ)) → IfSome v (λ r. 1 ≤ length r) → ◌≡◌ {A = ℕ} (if is_some v then 1 else 0) (if nat_le 1 (length (unwrap_or v [])) then 1 else 0)
flag_is None some = refl
flag_is (Some []) some = absurd (omega (arith, some))
flag_is (Some (b ∷ r)) some = ap (λ (t : Bool). if◌then◌else◌ {A = ℕ} t 1 0) (sym (one_more (length r)))

key_is : (key : Key) → images.key_bytes key ≡ spelled.key_bytes key
key_is (Number n) = refl
key_is (Text t) = refl
key_is End = refl

image_is : (v : Option (List ℕ)) → images.image_bytes v ≡ unwrap_or v []
image_is None = refl
image_is (Some r) = refl

-- the entry of an image is that of a change in the journal of recovery units
pub change_is : (f : ℕ) (tid serial : Id) (key : Key) (v : Option (List ℕ)) → IfSome v (λ r. 1 ≤ length r) → entry_by f tid (Changed serial key v) ≡ change_entry tid serial f key v
change_is f tid serial key v some = λ i. record { kind = 1; flag = flag_is v some i; file = f; tid = tid; serial = serial; moment = 0; key = key_is key i; image = image_is v i }

-- what a branch changed in a file, once it changed more of it
pub now_changed : (x : Id) (c : Change) (h : History) → changed_it (changed_with x (c ∷ []) h) x ≡ true
now_changed x c h = ap (λ (ds : List Change). elim ds [ [] ↦ false | d ∷ es ↦ true ]) (by_changes x (c ∷ []) h.live)

-- The head of a file that was changed has the journals that it had.

pub span_same : (side : Side) (h new : FileHead) → SameFile h new → span_of side new ≡ span_of side h
span_same After h new same = ap (λ (x : FileHead). x.ai) same.is
span_same Before h new same = ap (λ (x : FileHead). x.bi) same.is

pub kept_same : (side : Side) (h new : FileHead) → SameFile h new → is_kept side new ≡ is_kept side h
kept_same After h new same = ap (λ (x : FileHead). x.marks.ai) same.is
kept_same Before h new same = ap (λ (x : FileHead). x.marks.bi) same.is

-- What is asked of an image of a key of a file: it can be spelled, is of the file's form, and there is room for it in the file's ring.
pub record IsImage (side : Side) (f : ℕ) (h : FileHead) (tid serial : Id) (key : Key) (v : Option (List ℕ)) : Type 0 where
  pub entry : IsEntry (change_entry tid serial f key v)
  pub some : IfSome v (λ r. 1 ≤ length r)
  pub of : IsOf h.organization (Changed serial key v)
  pub suits : Suits h key v
  pub room : is_kept side h ≡ true → (span_of side h).end - (span_of side h).first + length (spelling (change_entry tid serial f key v)) ≤ ring_size (span_of side h)
  pub low : (span_of side h).end + 2 ^ 24 ≤ 2 ^ 62

-- Then it may be put into the journal of the file once the file is changed.
module _ (side : Side) (f : ℕ) (h new : FileHead) (same : SameFile h new) (tid serial : Id) (key : Key) (v : Option (List ℕ)) (is : IsImage side f h tid serial key v) where
  pub entry_same : entry_by f tid (Changed serial key v) ≡ change_entry tid serial f key v
  entry_same = change_is f tid serial key v is.some

  entry_is : IsEntry (entry_by f tid (Changed serial key v))
  entry_is = subst IsEntry (sym entry_same) is.entry

  long : length (spelling (entry_by f tid (Changed serial key v))) ≡ length (spelling (change_entry tid serial f key v))
  long = ap (λ (e : Entry). length (spelling e)) entry_same

  organization_same : new.organization ≡ h.organization
  organization_same = ap (λ (x : FileHead). x.organization) same.is

  pub may_enter : (heads : List (Option FileHead)) → head_at heads f ≡ Some new → IsHead new → MayEnter side f heads tid (Changed serial key v)
  may_enter heads there is_head x at kept =
      let here : new ≡ x = one new x (sym there ∙ at) in
      let span : span_of side h ≡ span_of side x = sym (span_same side h new same) ∙ ap (span_of side) here in
      let room = is.room (sym (kept_same side h new same) ∙ ap (is_kept side) here ∙ kept) in
      let size = long_by f tid (Changed serial key v) entry_is in
      let end : (span_of side h).end ≡ (span_of side x).end = ap (λ (r : Span). r.end) span in
      let most = (entry_size (change_entry tid serial f key v) is.entry).1 in
      let low = is.low in
      record {
        can = record {
          is = entry_is;
          of = subst (λ o. IsOf o (Changed serial key v)) (sym organization_same ∙ ap (λ (y : FileHead). y.organization) here) is.of;
          suited = subst (λ (y : FileHead). IsSuited y (Changed serial key v)) (sym (ap form_of same.is) ∙ ap form_of here) (suited_by_form h (Changed serial key v) is.suits);
          room = subst (λ (r : Span). r.end - r.first + entry_length (Changed serial key v) ≤ ring_size r) span (omega (arith, room, size, long));
        };
        head = subst IsHead here is_head;
        far = omega (arith, low, end, most, long);
      }
    where
      one : (x y : FileHead) → ◌≡◌ {A = Option FileHead} (Some x) (Some y) → x ≡ y
      one x y e = cc
