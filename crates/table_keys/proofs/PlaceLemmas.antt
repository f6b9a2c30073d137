-- Keys of records that are texts.
use Rattle.std.proofs.Common.{◌≡◌, ℕ, List, [], Decides, ap}
use Rattle.std.proofs.lemmas.Bool.Decides.{same_from_decides}
use Rattle.std.proofs.lemmas.Slice.Eq.{bytes_eq-Decides}
use Rattle.std.specs.Ordering.{eq_by_cmp}
use Rattle.std.specs.Str.{bytes_eq}
use Rattle.vms_base.specs.vms_model.Keys.{Key, Number, Text, End}
use Rattle.records_model.specs.Records.{key_cmp}
use Rattle.table_keys.specs.Spots.{same_key_is}

-- texts are one where their bytes are
text_in : Key → List ℕ
text_in (Number n) = []
text_in (Text bytes) = bytes
text_in End = []

pub same_text : (x y : List ℕ) → bytes_eq x y ≡ eq_by_cmp key_cmp (Text x) (Text y)
unfolding text_in
same_text x y = same_from_decides _ _ (bytes_eq-Decides x y) alike
  where
    alike : Decides (eq_by_cmp key_cmp (Text x) (Text y)) (x ≡ y)
    alike = let d = same_key_is (Text x) (Text y) in (λ h. ap text_in (d.0 h), λ h. d.1 (ap (λ (b : List ℕ). Text b) h))
