-- A record suits a head just where it suits the form of the head.
use Rattle.std.proofs.Common.{ℕ, List, Option}
use Rattle.unit_entries.specs.file_base.declared.head.FileHead.{FileHead}
use Rattle.unit_entries.specs.file_base.declared.head.Organization.{Organization}
use Rattle.unit_entries.specs.file_base.declared.head.Organization.TheVariants.{Sequential, Relative, Indexed}
use Rattle.vms_model.specs.Keys.{Key, Number, Text, End}
use Rattle.save_laws.specs.record_files.Any.{SuitsBy}
use Rattle.unit_entries.specs.recovery_model.Journal.{Entry, Changed, Settled}
use Rattle.file_images.specs.Images.{IsSuited}
use Rattle.file_images.specs.Files.{form_of}

suits_form : (o : Organization) (h : FileHead) (k : Key) (v : Option (List ℕ)) → SuitsBy o h k v → SuitsBy o (form_of h) k v
suits_form Sequential h (Number n) v is = is
suits_form Sequential h (Text t) v is = absurd is
suits_form Sequential h End v is = absurd is
suits_form Relative h (Number n) v is = is
suits_form Relative h (Text t) v is = absurd is
suits_form Relative h End v is = absurd is
suits_form Indexed h (Number n) v is = absurd is
suits_form Indexed h (Text t) v is = record { size = is.size; has = is.has; most = is.most }
suits_form Indexed h End v is = absurd is

form_suits : (o : Organization) (h : FileHead) (k : Key) (v : Option (List ℕ)) → SuitsBy o (form_of h) k v → SuitsBy o h k v
form_suits Sequential h (Number n) v is = is
form_suits Sequential h (Text t) v is = absurd is
form_suits Sequential h End v is = absurd is
form_suits Relative h (Number n) v is = is
form_suits Relative h (Text t) v is = absurd is
form_suits Relative h End v is = absurd is
form_suits Indexed h (Number n) v is = absurd is
form_suits Indexed h (Text t) v is = record { size = is.size; has = is.has; most = is.most }
form_suits Indexed h End v is = absurd is

pub suited_by_form : (h : FileHead) (e : Entry) → IsSuited h e → IsSuited (form_of h) e
suited_by_form h (Changed s k v) is = suits_form h.organization h k v is
suited_by_form h (Settled s outcome t) is = tt

pub suited_by_head : (h : FileHead) (e : Entry) → IsSuited (form_of h) e → IsSuited h e
suited_by_head h (Changed s k v) is = form_suits h.organization h k v is
suited_by_head h (Settled s outcome t) is = tt
