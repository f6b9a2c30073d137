-- The entries of units are entries.
use Rattle.std.proofs.Common.{◌≡◌, ℕ, ◌<◌, ◌≤◌, ◌^◌, Bool, true, false, List, [], length, Option, refl, arith, nat_le, lit<}
use Rattle.std.specs.Prelude.{unwrap_or, if◌then◌else◌}
use Rattle.std.proofs.lemmas.Bool.Decides.{nat_tests}
use Rattle.journal_format.specs.journal_model.Entries.{IsEntry, has_image, is_flag, is_image, is_key}
use Rattle.vms_base.specs.vms_model.Ids.{Id, IsId}
use Rattle.vms_base.specs.vms_model.Keys.{Key}
use Rattle.vms_base.specs.vms_model.Transactions.{Outcome, Commit, Abort}
use Rattle.unit_journal.specs.Entries.{change_entry, key_bytes, outcome_code, prepared_entry, settled_entry}

flag_fits : (b : Bool) → is_flag 1 (if b then 1 else 0) ≡ true
flag_fits true = refl
flag_fits false = refl

key_fits : (n : ℕ) → 1 ≤ n → n ≤ 64 → is_key 1 n ≡ true
key_fits n some few = grind (arith, nat_tests)

image_fits : (n : ℕ) → n ≤ 8160 → is_image (has_image 1 (if nat_le 1 n then 1 else 0)) n ≡ true
image_fits n few = step (nat_le 1 n) refl
  where
    step : (b : Bool) → nat_le 1 n ≡ b → is_image (has_image 1 (if b then 1 else 0)) n ≡ true
    step true is = grind (arith, nat_tests, is)
    step false is = grind (arith, nat_tests, is)

pub change_is : (tid serial : Id) (file : ℕ) (key : Key) (before : Option (List ℕ)) → IsId tid → IsId serial → 1 ≤ length (key_bytes key) → length (key_bytes key) ≤ 64 → length (unwrap_or before []) ≤ 8160 → IsEntry (change_entry tid serial file key before)
change_is tid serial file key before t s some few image = record {
  kind = refl;
  flag = flag_fits (nat_le 1 (length (unwrap_or before [])));
  file = refl;
  key = key_fits (length (key_bytes key)) some few;
  image = image_fits (length (unwrap_or before [])) image;
  tid = t;
  serial = s;
  moment = refl;
  fits = lit< tt;
}

pub prepared_is : (tid serial : Id) → IsId tid → IsId serial → IsEntry (prepared_entry tid serial)
prepared_is tid serial t s = record { kind = refl; flag = refl; file = refl; key = refl; image = refl; tid = t; serial = s; moment = refl; fits = lit< tt }

outcome_fits : (o : Outcome) → is_flag 3 (outcome_code o) ≡ true
outcome_fits Commit = refl
outcome_fits Abort = refl

pub settled_is : (tid serial : Id) (outcome : Outcome) (moment : ℕ) → IsId tid → IsId serial → moment < 2 ^ 64 → IsEntry (settled_entry tid serial outcome moment)
settled_is tid serial outcome moment t s fits = record { kind = refl; flag = outcome_fits outcome; file = refl; key = refl; image = refl; tid = t; serial = s; moment = refl; fits = fits }
