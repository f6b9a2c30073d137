-- That a key may be set back rests on the file's extent alone.
use Rattle.std.proofs.Common.{◌≡◌, ⊎_elim, inl, inr, ℕ, ◌+◌, ◌-◌, ◌<◌, List, length, map, Option, Some, None, IsSomeAnd, ap, subst, arith}
use Rattle.std.specs.Prelude.{if◌then◌else◌, nat_le}
use Rattle.file_base.specs.declared.head.FileHead.{FileHead}
use Rattle.file_base.specs.declared.head.Organization.{Organization}
use Rattle.file_base.specs.declared.head.Organization.TheVariants.{Sequential, Relative, Indexed}
use Rattle.vms_base.specs.vms_model.Keys.{Key, Number, Text, End}
use Rattle.record_files.specs.bucket_page.declared.kind.PageKind.TheVariants.{Seq}
use Rattle.record_files.specs.bucket_page.Pages.{joined, slots_of}
use Rattle.change_set.specs.Files.{AgreesOn}
use Rattle.change_set.proofs.Extents.{extent_bucket}
use Rattle.record_files.specs.seq_file.Layout as sequential
use Rattle.record_files.specs.seq_file.Layout.{IsSequential, capacity, record_of, records_in, slots_at}
use Rattle.record_files.specs.seq_file.Local.{along_same}
use Rattle.record_files.specs.seq_file.Records.{record_at}
use Rattle.record_files.specs.Indexed as indexed
use Rattle.record_files.specs.Any.{FormBy, IsFile, IsLaidOut, LaidOutBy, Restores, RestoresBy}

slots_same : (h : FileHead) (a b : List (List ℕ)) (i : ℕ) → IsSequential h → AgreesOn h a b → i < h.used → slots_at h a i ≡ slots_at h b i
slots_same h a b i form agrees below = ap (slots_of Seq) (extent_bucket h a b i (omega (arith, form.used, below)) agrees)

records_same : (h : FileHead) (a b : List (List ℕ)) → IsSequential h → AgreesOn h a b → records_in h a ≡ records_in h b
records_same h a b form agrees = ap (map record_of) (along_same (slots_at h a) (slots_at h b) h.used (λ i below. slots_same h a b i form agrees below))

asks_same : (h : FileHead) (a b : List (List ℕ)) (size : ℕ) → IsSequential h → AgreesOn h a b → sequential.asks h a size ≡ sequential.asks h b size
asks_same h a b size form agrees =
    ap (λ (slots : List (List ℕ)). if nat_le (length (joined slots) + (size + 2)) (capacity h) then 0 else 1) (slots_same h a b (h.used - 1) form agrees (omega (arith, form.one)))

takes_same : (h : FileHead) (a b : List (List ℕ)) → IsSequential h → AgreesOn h a b → (key : Key) (value : Option (List ℕ)) → sequential.Takes h a key value → sequential.Takes h b key value
takes_same h a b form agrees (Number n) (Some r) takes =
    ⊎_elim (λ more. inl (more.0, (let e = asks_same h a b (length r) form agrees in omega (arith, more.1, e))))
    (λ there. inr (subst (λ (rs : List (List ℕ)). IsSomeAnd (record_at rs n) (λ old. length r ≡ length old)) (records_same h a b form agrees) there)) takes
takes_same h a b form agrees (Number n) None takes = takes
takes_same h a b form agrees (Text t) value takes = absurd takes
takes_same h a b form agrees End value takes = absurd takes

restores_by : (o : Organization) (h : FileHead) (a b : List (List ℕ)) → FormBy o h → AgreesOn h a b → LaidOutBy o h a → (key : Key) (value : Option (List ℕ)) → RestoresBy o h a key value → RestoresBy o h b key value
restores_by Sequential h a b form agrees laid key value was = takes_same h a b form agrees key value was
restores_by Relative h a b form agrees laid key value was = was
restores_by Indexed h a b form agrees laid key value was = let e = indexed.room_local_law h a b form agrees laid key in omega (arith, was, e)

pub restores_local : (h : FileHead) (a b : List (List ℕ)) → IsFile h → AgreesOn h a b → IsLaidOut h a → (key : Key) (value : Option (List ℕ)) → Restores h a key value → Restores h b key value
restores_local h = restores_by h.organization h
