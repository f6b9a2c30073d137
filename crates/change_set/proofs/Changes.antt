-- Changes that are applied and undone.
use Rattle.std.proofs.Common.{◌≡◌, ℕ, Bool, true, false, List, [], ◌∷◌, Option, cond, if◌then◌else◌, refl, sym, ap, ◌∙◌}
use Rattle.std.specs.FinMap.{get}
use Rattle.tree_model.specs.vms_model.Keys.{Key}
use Rattle.tree_model.specs.records_model.Records.{Records, Change}
use Rattle.tree_model.specs.records_model.Records as records
use Rattle.tree_model.proofs.records_model.RecordsLemmas as lemmas
use Rattle.change_set.specs.Maps.{Map, same_key, set_key, applied, undone, Found, UndoRestoresMaps, map_of_records, ChangesAgree}

set_back : (b : Bool) (x y z : Option (List ℕ)) → (b ≡ true → x ≡ z) → (if b then x else (if b then y else z)) ≡ z
set_back true x y z h = h refl
set_back false x y z h = refl

-- a key set back to what it had
pub set_key_back : (key : Key) (before after : Option (List ℕ)) (m : Map) → before ≡ m key → set_key key before (set_key key after m) ≡ m
set_key_back key before after m had =
    λ i other. set_back (same_key other key) before after (m other) (λ same. had ∙ ap m (sym (lemmas.same_key other key same))) i

pub undone-applied : UndoRestoresMaps
undone-applied [] m found = refl
undone-applied (c ∷ cs) m found =
    ap (undone cs) (set_key_back c.key c.before c.after (applied cs m) found.0) ∙ undone-applied cs m found.1

as_if : (b : Bool) (x y : Option (List ℕ)) → cond b x y ≡ (if b then x else y)
as_if true x y = refl
as_if false x y = refl

-- a key of records that is set is a key of their map that is set
set_alike : (m : Records) (k : Key) (v : Option (List ℕ)) → map_of_records (records.set_key m k v) ≡ set_key k v (map_of_records m)
set_alike m k v = λ i q. (lemmas.get-set_key m k q v ∙ as_if (same_key q k) v (get m q)) i

applied_alike : (cs : List Change) (m : Records) → map_of_records (records.applied cs m) ≡ applied cs (map_of_records m)
applied_alike [] m = refl
applied_alike (c ∷ cs) m = set_alike (records.applied cs m) c.key c.after ∙ ap (set_key c.key c.after) (applied_alike cs m)

undone_alike : (cs : List Change) (m : Records) → map_of_records (records.undone cs m) ≡ undone cs (map_of_records m)
undone_alike [] m = refl
undone_alike (c ∷ cs) m = undone_alike cs (records.set_key m c.key c.before) ∙ ap (undone cs) (set_alike m c.key c.before)

found_alike : (cs : List Change) (m : Records) → records.Found cs m → Found cs (map_of_records m)
found_alike [] m found = found
found_alike (c ∷ cs) m found = (found.0 ∙ ap (λ (f : Map). f c.key) (applied_alike cs m), found_alike cs m found.1)

pub agree : ChangesAgree
agree = record { applied_alike = applied_alike; undone_alike = undone_alike; found_alike = found_alike }
