-- The change of one key that is asked for, as the units say it and as the world does.
use Rattle.std.proofs.Common.{◌≡◌, ℕ, zero, suc, ◌+◌, ◌-◌, ◌<◌, ◌≤◌, List, [], ◌∷◌, true, Option, Some, None, if◌then◌else◌, length, min, refl, sym, ◌∙◌, ap, subst, arith, append-nil}
use Rattle.std.proofs.lemmas.Bool.{false≢true}
use Rattle.std.specs.Prelude.{option_map, is_some, nat_lt}
use Rattle.std.specs.FinMap.{get}
use Rattle.file_base.specs.declared.head.FileHead.{FileHead}
use Rattle.file_base.specs.declared.head.Organization.{Organization as Kept}
use Rattle.file_base.specs.declared.head.Organization.TheVariants as kept
use Rattle.transcript_model.specs.Lines as line
use Rattle.transcript_model.specs.Lines.{Line}
use Rattle.vms_model.specs.Keys.{Key, Number, Text, End}
use Rattle.vms_base.specs.Keys.{key_of}
use Rattle.vms_base.specs.declared.keys.Key.{Key as VmsKey}
use Rattle.records_model.specs.Records.{Records}
use Rattle.records_model.specs.History.{current}
use Rattle.volume_files.specs.record_files.Any.{LaidOutBy, asks, map_by, map_of}
use Rattle.record_operations.specs.Asking.{is_of_key, written}
use Rattle.record_operations.specs.Causes.{Cause, FileFull}
use Rattle.record_operations.specs.Forms as form
use Rattle.record_operations.specs.declared.ops.RecordOp.{RecordOp}
use Rattle.record_operations.specs.declared.ops.RecordOp.TheVariants as op
use Rattle.recovery_units.specs.run_model.Operations as said
use Rattle.recovery_units.specs.run_model.Operations.{changes_of, count_of, data_refused, file_full, free_buckets, keys_asked, keys_found, keys_held, need_of, operation_answer, refused_if, set_in}
use Rattle.recovery_units.specs.run_model.World as world
use Rattle.recovery_units.specs.run_model.World.{File}
use Rattle.script_model.specs.Statements.{Delete, Operation, Put, Update}
use Rattle.volume_files.specs.seq_file.Layout.{records_in}
use Rattle.rms_units.proofs.seq_file.RecordLaws.{record_at_past}
use Rattle.unit_world.specs.directory_model.Files.{IsFile, organized_by}
use Rattle.unit_world.proofs.directory_model.Reading.{reads_files}
use Rattle.recovery_units.specs.Calls.{IsNumber, IsNumbered, cause_line, change_said, number_of, position_line}
use Rattle.recovery_units.proofs.FormLemmas.{line_if}
use Rattle.rms_units.specs.key_changes.declared.asked.KeyChange.{KeyChange}
use Rattle.rms_units.specs.key_changes.declared.asked.KeyChange.TheVariants as how
use Rattle.rms_units.specs.key_changes.Changing as rms
use Rattle.rms_units.specs.key_changes.Changing.{after_change, found_refused}
use Rattle.rms_units.specs.key_changes.Keys.{change_in, key_in, key_put, position_by}
use Rattle.node_units.proofs.ReadLemmas.{first_none}

abbrev pub Content : Type 0
Content = List (List ℕ)

-- What an operation asks for is the change of one key, to which the world gives the same keys, refusals and answer.
pub record AsksKey (content : Content) (h : FileHead) (file : File) (o : RecordOp) (bytes : List ℕ) : Type 0 where
  pub changes : changes_of file (change_said o bytes) ≡ set_in file (key_in h o (written o bytes)) (after_change (change_in o) (written o bytes)) ∷ []
  pub asked : keys_asked file (change_said o bytes) ≡ rms.keys_asked h (change_in o) (key_in h o (written o bytes))
  pub held : keys_held file (change_said o bytes) ≡ rms.keys_asked h (change_in o) (key_in h o (written o bytes))
  pub none : keys_found file (change_said o bytes) ≡ []
  pub stands : option_map cause_line (found_refused h (change_in o) (key_in h o (written o bytes)) (map_of h content (key_in h o (written o bytes))) (written o bytes)) ≡ data_refused file (change_said o bytes)
  pub full : option_map cause_line (rms.file_refused h (rms.need_of h content (change_in o) (length (written o bytes)))) ≡ file_full file (change_said o bytes)
  pub answer : operation_answer file (change_said o bytes) ≡ position_line (position_by h.organization (change_in o) (key_in h o (written o bytes)))

-- Records that are put.

pub behind_last : (count : ℕ) → count < 4294967295 → min (count + 1) 4294967295 ≡ count + 1
behind_last count less = grind arith

told_position : (n : ℕ) → 1 ≤ n → position_line n ≡ line.RecordPosition n
told_position zero one = absurd (omega (arith, one))
told_position (suc n) one = refl

-- the key that is put
put_is : (o : Kept) (h : FileHead) (count : ℕ) (k : Option Key) (bytes : List ℕ) → (o ≡ kept.Sequential → (count ≡ h.count) × (h.count < 4294967295)) → form.place_refused_by o h k ≡ None → IsNumber k →
    said.key_put (organized_by o h) count (number_of k) bytes ≡ key_put o h k bytes
put_is kept.Sequential h count None bytes counts form number = let c = counts refl in ap (λ n. Number (n + 1)) c.0 ∙ ap Number (sym (behind_last h.count c.1))
put_is kept.Sequential h count (Some k) bytes counts form number = let never : ⊥ = cc in absurd never
put_is kept.Relative h count None bytes counts form number = let never : ⊥ = cc in absurd never
put_is kept.Relative h count (Some (Number n)) bytes counts form number = refl
put_is kept.Relative h count (Some (Text t)) bytes counts form number = absurd number
put_is kept.Relative h count (Some End) bytes counts form number = absurd number
put_is kept.Indexed h count None bytes counts form number = refl
put_is kept.Indexed h count (Some k) bytes counts form number = let never : ⊥ = cc in absurd never

put_keys_are : (o : Kept) (h : FileHead) (count : ℕ) (number : Option ℕ) (bytes : List ℕ) (key : Key) → said.key_put (organized_by o h) count number bytes ≡ key → said.put_keys (organized_by o h) count number bytes ≡ rms.keys_by o how.Put key
put_keys_are kept.Sequential h count number bytes key is = ap (λ k. End ∷ k ∷ []) is
put_keys_are kept.Relative h count number bytes key is = ap (λ k. k ∷ []) is
put_keys_are kept.Indexed h count number bytes key is = ap (λ k. k ∷ []) is

-- a record that is there
there_is : (c : Cause) (o : Option (List ℕ)) → option_map cause_line (elim o [ None ↦ None | Some old ↦ Some c ]) ≡ refused_if (is_some o) (cause_line c)
there_is c None = refl
there_is c (Some old) = refl

found_put : (h : FileHead) (key : Key) (found : Option (List ℕ)) (value : List ℕ) (o : Kept) → h.organization ≡ o → option_map cause_line (found_refused h how.Put key found value) ≡ refused_if (is_some found) (cause_line (rms.exists_by o))
found_put h key None value o is = refl
found_put h key (Some old) value o is = ap (λ q. Some (cause_line (rms.exists_by q))) is

put_data : (o : Kept) (h : FileHead) (m : Records) (k : Option Key) (bytes : List ℕ) → h.organization ≡ o → (o ≡ kept.Sequential → get m (key_put o h k bytes) ≡ None) → form.place_refused_by o h k ≡ None → IsNumber k →
    option_map cause_line (found_refused h how.Put (key_put o h k bytes) (get m (key_put o h k bytes)) bytes) ≡ said.put_refused (organized_by o h) m (number_of k) bytes
put_data kept.Sequential h m None bytes is none form number = ap (λ found. option_map cause_line (found_refused h how.Put (key_put kept.Sequential h None bytes) found bytes)) (none refl)
put_data kept.Sequential h m (Some k) bytes is none form number = let never : ⊥ = cc in absurd never
put_data kept.Relative h m None bytes is none form number = let never : ⊥ = cc in absurd never
put_data kept.Relative h m (Some (Number n)) bytes is none form number = found_put h (Number n) (get m (Number n)) bytes kept.Relative is
put_data kept.Relative h m (Some (Text t)) bytes is none form number = absurd number
put_data kept.Relative h m (Some End) bytes is none form number = absurd number
put_data kept.Indexed h m None bytes is none form number = let key = key_put kept.Indexed h None bytes in found_put h key (get m key) bytes kept.Indexed is
put_data kept.Indexed h m (Some k) bytes is none form number = let never : ⊥ = cc in absurd never

put_answered : (o : Kept) (h : FileHead) (count : ℕ) (k : Option Key) (bytes : List ℕ) → (o ≡ kept.Sequential → (count ≡ h.count) × (h.count < 4294967295)) → said.put_answer (organized_by o h) count ≡ position_line (position_by o how.Put (key_put o h k bytes))
put_answered kept.Sequential h count k bytes counts =
    let c = counts refl in ap (λ n. line.RecordPosition (n + 1)) c.0 ∙ sym (told_position (h.count + 1) (omega arith)) ∙ ap position_line (sym (behind_last h.count c.1))
put_answered kept.Relative h count k bytes counts = refl
put_answered kept.Indexed h count k bytes counts = refl

-- Records that take the place of others.

other_is : (o : Kept) (h : FileHead) (key : Key) (old new : List ℕ) → option_map cause_line (rms.other_refused_by o h key old new) ≡ said.other_refused (organized_by o h) key old new
other_is kept.Sequential h key old new = line_if _ _
other_is kept.Relative h key old new = refl
other_is kept.Indexed h key old new = line_if _ _

update_data : (h : FileHead) (key : Key) (found : Option (List ℕ)) (value : List ℕ) → option_map cause_line (found_refused h how.Replace key found value) ≡ said.update_refused (organized_by h.organization h) key found value
update_data h key None value = refl
update_data h key (Some old) value = other_is h.organization h key old value

one_key : (o : Kept) (change : KeyChange) (key : Key) → (change ≡ how.Put → ⊥) → rms.keys_by o change key ≡ key ∷ []
one_key kept.Sequential how.Put key other = absurd (other refl)
one_key kept.Sequential how.Replace key other = refl
one_key kept.Sequential how.Remove key other = refl
one_key kept.Relative change key other = refl
one_key kept.Indexed change key other = refl

pub no_position : (o : Kept) (change : KeyChange) (key : Key) → (change ≡ how.Put → ⊥) → position_by o change key ≡ 0
no_position kept.Sequential how.Put key other = absurd (other refl)
no_position kept.Sequential how.Replace key other = refl
no_position kept.Sequential how.Remove key other = refl
no_position kept.Relative change key other = refl
no_position kept.Indexed change key other = refl

update_needs : (o : Kept) (content : Content) (h : FileHead) (file : File) (key : Key) (bytes : List ℕ) → h.organization ≡ o → IsFile content h file → need_of file (Update key bytes) ≡ rms.need_of h content how.Replace (length bytes)
update_needs kept.Sequential content h file key bytes is of =
    ap (λ w. said.update_need w file) (of.head.organization ∙ ap (λ q. organized_by q h) is) ∙ sym (ap (λ q. if rms.asks_by q how.Replace then asks h content (length bytes) else 0) is)
update_needs kept.Relative content h file key bytes is of =
    ap (λ w. said.update_need w file) (of.head.organization ∙ ap (λ q. organized_by q h) is) ∙ sym (ap (λ q. if rms.asks_by q how.Replace then asks h content (length bytes) else 0) is)
update_needs kept.Indexed content h file key bytes is of =
    reads_files.update content h file key bytes of is ∙ sym (ap (λ q. if rms.asks_by q how.Replace then asks h content (length bytes) else 0) is)

remove_needs : (o : Kept) (content : Content) (h : FileHead) → h.organization ≡ o → rms.need_of h content how.Remove 0 ≡ 0
remove_needs kept.Sequential content h is = ap (λ q. if rms.asks_by q how.Remove then asks h content 0 else 0) is
remove_needs kept.Relative content h is = ap (λ q. if rms.asks_by q how.Remove then asks h content 0 else 0) is
remove_needs kept.Indexed content h is = ap (λ q. if rms.asks_by q how.Remove then asks h content 0 else 0) is

missing_is : (h : FileHead) (key : Key) (found : Option (List ℕ)) → option_map cause_line (found_refused h how.Remove key found []) ≡ said.missing found
missing_is h key None = refl
missing_is h key (Some old) = refl

module _ (content : Content) (h : FileHead) (file : File) (is : IsFile content h file) (few : h.organization ≡ kept.Sequential → h.count < 4294967295) where
  abbrev w : world.Organization
  w = organized_by h.organization h

  counts : h.organization ≡ kept.Sequential → (count_of file ≡ h.count) × (h.count < 4294967295)
  counts e = (reads_files.count content h file is e, few e)

  free_is : free_buckets file ≡ h.alloc - h.used
  free_is = λ i. is.head.buckets i - reads_files.used content h file is i

  full_is : (need : ℕ) (o : Operation) → need_of file o ≡ need → option_map cause_line (rms.file_refused h need) ≡ file_full file o
  full_is need o same = line_if (nat_lt (h.alloc - h.used) need) (FileFull (h.alloc - h.used) need) ∙ (λ i. refused_if (nat_lt (sym free_is i) (sym same i)) (line.FileFull (sym free_is i) (sym same i)))

  -- behind the last record of a sequential file there is none
  none_behind : (k : Option Key) (bytes : List ℕ) → h.organization ≡ kept.Sequential → get (current file.history) (key_put h.organization h k bytes) ≡ None
  none_behind k bytes e =
      let laid = subst (λ (q : Kept). LaidOutBy q h content) e is.laid in
      is.records (key_put h.organization h k bytes) ∙ (λ i. map_by (e i) h content (key_put (e i) h k bytes))
      ∙ record_at_past (records_in h content) (min (h.count + 1) 4294967295) (let last = behind_last h.count (few e) in let size = laid.count in omega (arith, last, size))

  asks_put : (f : ℕ) (key : Option VmsKey) (bytes : List ℕ) → form.form_refused h (op.Put f key) (length bytes) ≡ None → IsNumber (option_map key_of key) → AsksKey content h file (op.Put f key) bytes
  asks_put f key bytes none number =
      let k = option_map key_of key in
      let placed = (first_none (form.place_refused h k) (form.size_refused h (length bytes)) none).0 in
      let one : said.key_put file.organization (count_of file) (number_of k) bytes ≡ key_put h.organization h k bytes =
      ap (λ x. said.key_put x (count_of file) (number_of k) bytes) is.head.organization ∙ put_is h.organization h (count_of file) k bytes counts placed number in
      let keys : keys_asked file (change_said (op.Put f key) bytes) ≡ rms.keys_asked h how.Put (key_put h.organization h k bytes) =
      ap (λ x. said.put_keys x (count_of file) (number_of k) bytes) is.head.organization
      ∙ put_keys_are h.organization h (count_of file) (number_of k) bytes (key_put h.organization h k bytes) (put_is h.organization h (count_of file) k bytes counts placed number) in
      record {
        changes = ap (λ x. set_in file x (Some bytes) ∷ []) one;
        asked = keys;
        held = append-nil (keys_asked file (change_said (op.Put f key) bytes)) ∙ keys;
        none = refl;
        stands = ap (λ found. option_map cause_line (found_refused h how.Put (key_put h.organization h k bytes) found bytes)) (sym (is.records (key_put h.organization h k bytes)))
            ∙ put_data h.organization h (current file.history) k bytes refl (none_behind k bytes) placed number ∙ ap (λ x. said.put_refused x (current file.history) (number_of k) bytes) (sym is.head.organization);
        full = full_is (asks h content (length bytes)) (Put (number_of k) bytes) (reads_files.put content h file (number_of k) bytes is);
        answer = ap (λ x. said.put_answer x (count_of file)) is.head.organization ∙ put_answered h.organization h (count_of file) k bytes counts;
      }

  asks_update : (f : ℕ) (key : VmsKey) (bytes : List ℕ) → AsksKey content h file (op.Update f key) bytes
  asks_update f key bytes =
      let k = key_of key in
      let keys = sym (one_key h.organization how.Replace k (λ e. let never : ⊥ = cc in never)) in
      record {
        changes = refl;
        asked = keys;
        held = keys;
        none = refl;
        stands = update_data h k (map_of h content k) bytes ∙ (λ i. said.update_refused (sym is.head.organization i) k (sym (is.records k) i) bytes);
        full = full_is (rms.need_of h content how.Replace (length bytes)) (Update k bytes) (update_needs h.organization content h file k bytes refl is);
        answer = ap position_line (sym (no_position h.organization how.Replace k (λ e. let never : ⊥ = cc in never)));
      }

  asks_delete : (f : ℕ) (key : VmsKey) (bytes : List ℕ) → AsksKey content h file (op.Delete f key) bytes
  asks_delete f key bytes =
      let k = key_of key in
      let keys = sym (one_key h.organization how.Remove k (λ e. let never : ⊥ = cc in never)) in
      record {
        changes = refl;
        asked = keys;
        held = keys;
        none = refl;
        stands = missing_is h k (map_of h content k) ∙ ap said.missing (sym (is.records k));
        full = full_is (rms.need_of h content how.Remove 0) (Delete k) (sym (remove_needs h.organization content h refl));
        answer = ap position_line (sym (no_position h.organization how.Remove k (λ e. let never : ⊥ = cc in never)));
      }

  pub asks_key : (o : RecordOp) (bytes : List ℕ) → is_of_key o ≡ true → form.form_refused h o (length (written o bytes)) ≡ None → IsNumbered o → AsksKey content h file o bytes
  asks_key (op.Put f key) bytes one none number = asks_put f key bytes none number
  asks_key (op.Update f key) bytes one none number = asks_update f key bytes
  asks_key (op.Delete f key) bytes one none number = asks_delete f key bytes
  asks_key (op.Truncate f from) bytes one none number = absurd (false≢true one)
