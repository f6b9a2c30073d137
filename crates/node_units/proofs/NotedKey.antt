-- What a key has that is to be set: it can be noted in the journal, and is no empty record.
use Rattle.std.proofs.Common.{◌≡◌, ℕ, zero, suc, ◌<◌, ◌≤◌, ◌^◌, List, [], ◌∷◌, true, ◌&&◌, Option, Some, None, IfSome, length, refl, sym, ◌∙◌, ap, subst, arith, inl, inr}
use Rattle.std.proofs.lemmas.Bool.{cases_lt}
use Rattle.std.proofs.lemmas.Bool.Decides.{nat_tests}
use Rattle.std.specs.Prelude.{IsSomeAnd, nat_le}
use Rattle.file_base.specs.Bytes.{piece_at}
use Rattle.file_base.specs.declared.head.FileHead.{FileHead}
use Rattle.file_base.specs.declared.head.Organization.{Organization as Kept}
use Rattle.file_base.specs.declared.head.Organization.TheVariants as kept
use Rattle.vms_model.specs.Keys.{Key, Number, Text, End}
use Rattle.volume_files.specs.record_files.Any.{FormBy, LaidOutBy, SuitsBy, TakesBy, map_by}
use Rattle.volume_files.specs.seq_file.Layout as sequential
use Rattle.volume_files.specs.seq_file.Records.{record_at}
use Rattle.rms_units.proofs.seq_file.RecordLaws.{record_at_past}
use Rattle.volume_files.specs.relative_file.Cells as relative
use Rattle.volume_files.specs.indexed_file.Chain as slots
use Rattle.volume_files.specs.indexed_tree.Files as indexed
use Rattle.recovery_units.specs.world_laws.Ordered.{IsImageOf, IsKeyOf}
use Rattle.unit_world.specs.directory_model.Files.{IsWithin, organized_by}
use Rattle.unit_world.proofs.restart_laws.FoundLemmas.{Keeps, cell_suits, record_is, slot_suits}

abbrev Content : Type 0
Content = List (List ℕ)

-- it is of the file's form, and of a length that records have
pub record Noted (o : Kept) (h : FileHead) (key : Key) (before after : Option (List ℕ)) : Type 0 where
  pub form : IsKeyOf (organized_by o h) key
  pub image : IsImageOf (organized_by o h) h.mrs key before
  pub some : IfSome before (λ r. 1 ≤ length r)
  pub suits : SuitsBy o h key before
  pub later : IfSome after (λ r. 1 ≤ length r)

at_last : (h : FileHead) (a : Content) (n : ℕ) (after : Option (List ℕ)) → sequential.IsLaidOut h a → h.count < 4294967295 → sequential.Takes h a (Number n) after → n < 2 ^ 32
at_last h a n None laid few takes = omega (arith, takes, few)
at_last h a n (Some r) laid few (inl last) = let same = last.0 in omega (arith, same, few)
at_last h a n (Some r) laid few (inr old) = elim (cases_lt (length (sequential.records_in h a)) n) [
  | inl past ↦ absurd (subst (λ (x : Option (List ℕ)). IsSomeAnd x (λ q. length r ≡ length q)) (record_at_past (sequential.records_in h a) n past) old)
  | inr within ↦ (let size = laid.count in omega (arith, within, size, few))
]

has_cell_is : (n mrn : ℕ) → (nat_le 1 n && nat_le n mrn) ≡ true → (1 ≤ n) × (n ≤ mrn)
has_cell_is n mrn e = grind (arith, nat_tests)

sequential_image : (h : FileHead) (key : Key) (o : Option (List ℕ)) → IfSome o (sequential.IsRecord h.mrs) → IsImageOf (organized_by kept.Sequential h) h.mrs key o × IfSome o (λ r. 1 ≤ length r)
sequential_image h key None is = (tt, tt)
sequential_image h key (Some r) is = ((is.most, tt), is.one)

relative_image : (h : FileHead) (key : Key) (o : Option (List ℕ)) → IfSome o (λ r. (1 ≤ length r) × (length r ≤ h.mrs)) → IsImageOf (organized_by kept.Relative h) h.mrs key o × IfSome o (λ r. 1 ≤ length r)
relative_image h key None is = (tt, tt)
relative_image h key (Some r) is = ((is.1, tt), is.0)

piece_of_none : (at count : ℕ) → length (piece_at [] at count) ≡ 0
piece_of_none zero zero = refl
piece_of_none zero (suc n) = refl
piece_of_none (suc m) zero = refl
piece_of_none (suc m) (suc n) = refl

indexed_image : (h : FileHead) (t : List ℕ) (o : Option (List ℕ)) → length t ≡ h.key_size → 1 ≤ h.key_size → IfSome o (Keeps h t) → IsImageOf (organized_by kept.Indexed h) h.mrs (Text t) o × IfSome o (λ r. 1 ≤ length r)
indexed_image h t None size one is = (tt, tt)
indexed_image h t (Some []) size one is = let none = sym (piece_of_none h.key_pos h.key_size) ∙ ap length is.has in absurd (omega (arith, none, size, one))
indexed_image h t (Some (b ∷ r)) size one is = ((is.most, is.has), omega arith)

text_suits : (h : FileHead) (t : List ℕ) (o : Option (List ℕ)) → length t ≡ h.key_size → IfSome o (Keeps h t) → slots.SuitsText h t o
text_suits h t None size is = record { size = size; has = tt; most = tt }
text_suits h t (Some r) size is = record { size = size; has = is.has; most = is.most }

text_keeps : (h : FileHead) (t : List ℕ) (o : Option (List ℕ)) → slots.SuitsText h t o → IfSome o (Keeps h t)
text_keeps h t None suits = tt
text_keeps h t (Some r) suits = record { has = suits.has; most = suits.most }

pub noted_by : (o : Kept) (h : FileHead) (a : Content) (key : Key) (after : Option (List ℕ)) → FormBy o h → LaidOutBy o h a → IsWithin a h → (o ≡ kept.Sequential → h.count < 4294967295) → h.mrn < 2 ^ 32 → SuitsBy o h key after → TakesBy o h a key after →
    Noted o h key (map_by o h a key) after
noted_by kept.Sequential h a (Number n) after form laid within few mrn suits takes =
    let image = sequential_image h (Number n) (record_at (sequential.records_in h a) n) (record_is h.mrs (sequential.records_in h a) n laid.records) in
    record {
      form = (suits.0, at_last h a n after laid (few refl) takes);
      image = image.0;
      some = image.1;
      suits = (suits.0, record_is h.mrs (sequential.records_in h a) n laid.records);
      later = (sequential_image h (Number n) after suits.1).1;
    }
noted_by kept.Sequential h a (Text t) after form laid within few mrn suits takes = absurd suits
noted_by kept.Sequential h a End after form laid within few mrn suits takes = absurd suits
noted_by kept.Relative h a (Number n) after form laid within few mrn suits takes =
    let image = relative_image h (Number n) (relative.map_of h a (Number n)) (cell_suits a h n form within suits.0) in
    let cell = has_cell_is n h.mrn suits.0 in
    record {
      form = (cell.0, cell.1, (let most = cell.1 in omega (arith, most, mrn)));
      image = image.0;
      some = image.1;
      suits = (suits.0, cell_suits a h n form within suits.0);
      later = (relative_image h (Number n) after suits.1).1;
    }
noted_by kept.Relative h a (Text t) after form laid within few mrn suits takes = absurd suits
noted_by kept.Relative h a End after form laid within few mrn suits takes = absurd suits
noted_by kept.Indexed h a (Number n) after form laid within few mrn suits takes = absurd suits
noted_by kept.Indexed h a (Text t) after form laid within few mrn suits takes =
    let image = indexed_image h t (indexed.map_of h a (Text t)) suits.size form.keys.key (slot_suits a h t laid) in
    record {
      form = suits.size;
      image = image.0;
      some = image.1;
      suits = text_suits h t (indexed.map_of h a (Text t)) suits.size (slot_suits a h t laid);
      later = (indexed_image h t after suits.size form.keys.key (text_keeps h t after suits)).1;
    }
noted_by kept.Indexed h a End after form laid within few mrn suits takes = absurd suits
