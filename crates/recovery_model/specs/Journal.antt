-- A journal of images of one file by its entries, which stand newest first, and what a recovery makes by them.
use Rattle.std.specs.Prelude.{◌≡◌, ℕ, ◌≤◌, ◌<◌, ◌+◌, List, [], ◌∷◌, Bool, true, false, Option, if◌then◌else◌, ◌&&◌, nat_lt}
use Rattle.unit_laws.specs.vms_model.Ids.{Id}
use Rattle.unit_laws.specs.vms_model.Keys.{Key}
use Rattle.unit_laws.specs.vms_model.Transactions.{Outcome, Commit, Abort}
use Rattle.unit_laws.specs.records_model.Records.{Records, set_key}
use Rattle.unit_laws.specs.records_model.Slots.{size_of}
use Rattle.unit_laws.specs.records_model.History.{same_id, reached}
use Rattle.unit_laws.specs.Journal.{JournalEntry, ChangeEntry, SettledEntry, key_size}
use Rattle.recovery_model.specs.Images.{Image, touches}

-- An entry: a branch changed a key, which has this image, a record or none; or a branch was settled so, at this moment. There are no others.
pub data Entry : Type 0 where
  Changed : (serial : Id) → Key → (image : Option (List ℕ)) → Entry
  Settled : (serial : Id) → Outcome → (moment : ℕ) → Entry

-- how many bytes an entry takes
abbrev pub entry_length : Entry → ℕ
entry_length (Changed s k v) = 48 + key_size k + size_of v
entry_length (Settled s outcome t) = 48

-- the entry as one of any journal: with the transaction of the branch, and the name of the file
abbrev pub entry_in : (tid : Id) → (file : List ℕ) → Entry → JournalEntry
entry_in tid file (Changed s k v) = ChangeEntry tid s file k v
entry_in tid file (Settled s outcome t) = SettledEntry tid s outcome t

abbrev pub is_commit : Outcome → Bool
is_commit Commit = true
is_commit Abort = false

-- whether a branch was committed at a moment that passes
abbrev pub chosen : (ℕ → Bool) → List Entry → Id → Bool
chosen ok [] s = false
chosen ok (Changed r k v ∷ es) s = chosen ok es s
chosen ok (Settled r outcome t ∷ es) s = if same_id s r && (is_commit outcome && ok t) then true else chosen ok es s

-- records with the images of the branches that pass set, from the oldest on
abbrev pub forward : (Id → Bool) → List Entry → Records → Records
forward p [] m = m
forward p (Changed s k v ∷ es) m = if p s then set_key (forward p es m) k v else forward p es m
forward p (Settled s outcome t ∷ es) m = forward p es m

-- and from the newest on
abbrev pub backward : (Id → Bool) → List Entry → Records → Records
backward p [] m = m
backward p (Changed s k v ∷ es) m = backward p es (if p s then set_key m k v else m)
backward p (Settled s outcome t ∷ es) m = backward p es m

-- whether a moment is past another
abbrev pub beyond : ℕ → ℕ → Bool
beyond until moment = nat_lt until moment

-- What a recovery makes of the records of a save by after images: the changes of the branches committed by then are set, or of all where no moment is said.
abbrev pub rolled_forward : Option ℕ → List Entry → Records → Records
rolled_forward until es m = forward (chosen (reached until) es) es m

-- And of the records that stand by before images: the changes of the branches committed later are taken back.
abbrev pub rolled_back : ℕ → List Entry → Records → Records
rolled_back until es m = backward (chosen (beyond until) es) es m

-- whether an entry settles this branch
abbrev pub is_settled : List Entry → Id → Bool
is_settled [] s = false
is_settled (Changed r k v ∷ es) s = is_settled es s
is_settled (Settled r outcome t ∷ es) s = if same_id s r then true else is_settled es s

-- the images of one branch
abbrev pub images_by : Id → List Entry → List Image
images_by s [] = []
images_by s (Changed r k v ∷ es) = if same_id r s then (k, v) ∷ images_by s es else images_by s es
images_by s (Settled r outcome t ∷ es) = images_by s es

-- the moments of settlements are at most this one
abbrev pub Below : ℕ → List Entry → Type 0
Below g [] = Unit {0}
Below g (Changed r k v ∷ es) = Below g es
Below g (Settled r outcome t ∷ es) = (t ≤ g) × Below g es

-- they ascend, and all are before this one
abbrev pub Before : ℕ → List Entry → Type 0
Before g [] = Unit {0}
Before g (Changed r k v ∷ es) = Before g es
Before g (Settled r outcome t ∷ es) = (t < g) × Before t es

-- a branch is settled once, and has no entry behind that
abbrev pub Once : List Entry → Type 0
Once [] = Unit {0}
Once (Changed r k v ∷ es) = (is_settled es r ≡ false) × Once es
Once (Settled r outcome t ∷ es) = (is_settled es r ≡ false) × Once es

-- before a change of a key each other branch that had changed it is settled
abbrev pub Locked : List Entry → Type 0
Locked [] = Unit {0}
Locked (Changed r k v ∷ es) = ((s : Id) → same_id r s ≡ false → touches k (images_by s es) ≡ true → is_settled es s ≡ true) × Locked es
Locked (Settled r outcome t ∷ es) = Locked es
