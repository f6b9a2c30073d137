-- What operations set, as their answers tell.
use Rattle.std.proofs.Common.{◌≡◌, ℕ, ◌-◌, List, [], ◌∷◌, map, drop, Bool, true, false, ◌&&◌, Option, Some, None, if◌then◌else◌, refl, ap}
use Rattle.std.specs.Str.{bytes_eq}
use Rattle.vms_model.specs.Ids.{Id}
use Rattle.vms_model.specs.Keys.{Key}
use Rattle.run_said.specs.transcript_model.Lines as line
use Rattle.run_said.specs.transcript_model.Lines.{Line}
use Rattle.run_said.specs.script_model.Statements.{At, Records, Direct, Operation, Put, Update, Delete, Truncate, Get, Next, Reading, Says}
use Rattle.unit_laws.specs.records_model.Records.{Records as TheRecords, applied, set_key}
use Rattle.unit_laws.specs.records_model.History.{same_id}
use Rattle.run_said.specs.run_model.World.{World, File, Organization, Sequential, Relative, Indexed}
use Rattle.run_said.specs.run_model.Operations.{changes_of, count_of, form_refused, in_order, key_put, operation_answer, place_refused, put_answer, removed}
use Rattle.run_said.specs.run_model.Transcript.{Entry}
use Rattle.run_said.specs.run_model.StepLaws.{is_refusal}
use Rattle.run_laws.specs.Accounts.{Set, Told, broken_sets, direct_told, file_of, one_told, put_sets, serial_told, sets_here, sets_of, told_by, with_sets}
use Rattle.recovery_laws.proofs.world_laws.AnswerLemmas.{neither}
use Rattle.run_laws.proofs.AccountLemmas.{TellSame, sets_apply}

-- Refusals.

-- whether an answer is one of those by which records are changed
abbrev tells_change : Line → Bool
tells_change line.RecordNormal = true
tells_change (line.RecordPosition position) = true
tells_change answer = false

refusal_tells_none : (refusal : Line) → is_refusal refusal ≡ true → tells_change refusal ≡ false
refusal_tells_none line.RecordNormal h = let none : ⊥ = cc in absurd none
refusal_tells_none (line.RecordPosition position) h = let none : ⊥ = cc in absurd none
refusal_tells_none refusal h = refl

none_put : (o : Organization) (number : Option ℕ) (bytes : List ℕ) (answer : Line) → tells_change answer ≡ false → put_sets o number bytes answer ≡ []
none_put o number bytes line.RecordNormal h = let none : ⊥ = cc in absurd none
none_put o number bytes (line.RecordPosition position) h = let none : ⊥ = cc in absurd none
none_put Sequential None bytes answer h = refl
none_put Sequential (Some n) bytes answer h = refl
none_put (Relative greatest) None bytes answer h = refl
none_put (Relative greatest) (Some n) bytes answer h = refl
none_put (Indexed position size) None bytes answer h = refl
none_put (Indexed position size) (Some n) bytes answer h = refl

none_set : (op : Operation) (answer : Line) (f : File) → tells_change answer ≡ false → sets_of op answer f ≡ []
none_set (Put number bytes) answer f h = none_put f.organization number bytes answer h
none_set (Update key bytes) line.RecordNormal f h = let none : ⊥ = cc in absurd none
none_set (Delete key) line.RecordNormal f h = let none : ⊥ = cc in absurd none
none_set (Truncate number) line.RecordNormal f h = let none : ⊥ = cc in absurd none
none_set (Update key bytes) answer f h = refl
none_set (Delete key) answer f h = refl
none_set (Truncate number) answer f h = refl
none_set (Get key) answer f h = refl
none_set (Next after) answer f h = refl

pub set_none : (told : List Told) (tid : Id) (sets : List Set) → ((m : TheRecords) → with_sets sets m ≡ m) → TellSame told (record { serial = tid; sets = sets } ∷ told)
set_none told tid sets none x m = go (same_id x tid)
  where
    go : (b : Bool) → (if b then with_sets sets (told_by x told m) else told_by x told m) ≡ told_by x told m
    go true = none (told_by x told m)
    go false = refl

pub direct_single : (node file : List ℕ) (w : World) (op : Operation) (l : Line) (told : List Told) → direct_told node file w op (l ∷ []) told ≡ told
direct_single node file w op (line.Committed tid serial moment) told = refl
direct_single node file w op (line.Down m cause) told = refl
direct_single node file w op l told = refl

-- a refusal tells nothing more
pub refused_same : (node file : List ℕ) (es : List Entry) (w : World) (reading : Reading) (refusal : Line) (told : List Told) → is_refusal refusal ≡ true → TellSame told (sets_here node file es w reading (refusal ∷ []) told)
refused_same node file es w (Says (At n (Records l f op))) answer told h x m = go (bytes_eq n node && bytes_eq f file)
  where
    one : (o : Option Id) (g : Option File) → told_by x (one_told o g (sets_of op answer) told) m ≡ told_by x told m
    one (Some tid) (Some g) = set_none told tid (sets_of op answer g) (λ k. ap (λ sets. with_sets sets k) (none_set op answer g (refusal_tells_none answer h))) x m
    one (Some tid) None = refl
    one None g = refl

    go : (b : Bool) → told_by x (if b then one_told (serial_told n l es) (file_of node file w) (sets_of op answer) told else told) m ≡ told_by x told m
    go true = one (serial_told n l es) (file_of node file w)
    go false = refl
refused_same node file es w (Says (At n (Direct f op))) answer told h x m = go (bytes_eq n node && bytes_eq f file)
  where
    go : (b : Bool) → told_by x (if b then direct_told node file w op (answer ∷ []) told else told) m ≡ told_by x told m
    go true = ap (λ t. told_by x t m) (direct_single node file w op answer told)
    go false = refl
refused_same node file es w reading answer told h x m = refl

-- What an operation tells to be set are its changes.

put_are : (o : Organization) (count : ℕ) (number : Option ℕ) (bytes : List ℕ) (m : TheRecords) → place_refused o number ≡ None → with_sets (put_sets o number bytes (put_answer o count)) m ≡ set_key m (key_put o count number bytes) (Some bytes)
put_are Sequential count None bytes m e = refl
put_are Sequential count (Some n) bytes m e = let none : ⊥ = cc in absurd none
put_are (Relative greatest) count None bytes m e = let none : ⊥ = cc in absurd none
put_are (Relative greatest) count (Some n) bytes m e = refl
put_are (Indexed position size) count None bytes m e = refl
put_are (Indexed position size) count (Some n) bytes m e = let none : ⊥ = cc in absurd none

removed_are : (es : List (Key × List ℕ)) (m : TheRecords) → with_sets (map (λ e. (e.0, None)) es) m ≡ applied (map removed es) m
removed_are [] m = refl
removed_are (e ∷ es) m = ap (λ k. set_key k e.0 None) (removed_are es m)

pub sets_are : (f : File) (op : Operation) → form_refused f op ≡ None → (m : TheRecords) → with_sets (sets_of op (operation_answer f op) f) m ≡ applied (changes_of f op) m
sets_are f (Put number bytes) e m = put_are f.organization (count_of f) number bytes m (neither _ _ e).0
sets_are f (Update key bytes) e m = refl
sets_are f (Delete key) e m = refl
sets_are f (Truncate number) e m = removed_are (drop (number - 1) (in_order f)) m
sets_are f (Get key) e m = refl
sets_are f (Next after) e m = refl

pub broken_are : (f : File) (op : Operation) (m : TheRecords) → with_sets (broken_sets op f) m ≡ applied (changes_of f op) m
broken_are f op m = sets_apply (changes_of f op) m
