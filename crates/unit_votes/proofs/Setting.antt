-- A slot of the log is staged, or nothing is.
use Rattle.std.proofs.Common.{◌≡◌, ℕ, ◌+◌, ◌≤◌, Bool, true, false, List, [], length, Option, Some, None, IfSome, option_map, slice_set, refl, sym, ap, subst, ◌∙◌, arith, length-set, get_or-set_other}
use Rattle.careful_write.proofs.Touched.{length-with_number}
use Rattle.careful_write.specs.State.{IsReady, StoreState}
use Rattle.commit_protocol.specs.Messages.{LogRecord}
use Rattle.lmcp_log.specs.Keeping.{Keeps}
use Rattle.lmcp_log.specs.Log.{StagesSlot, block_of}
use Rattle.lmcp_log.proofs.SlotLemmas.{none_forgotten}
use Rattle.unit_entries.specs.log_laws.Slots.{Slots, forgotten, has_slot, settled_in}
use Rattle.vms_model.specs.Ids.{Id}
use Rattle.volume.specs.Catalogs.{StandsOnTheFront, TellsCatalog}
use Rattle.volume.specs.State.{Holds, VolumeState}
use Rattle.volume.specs.declared.catalog.Catalog.{Catalog}
use Rattle.unit_votes.specs.Logging.{HasLog, SetsRecord, nothing, written}

-- another block than those that tell the volume is other
front_stays : StandsOnTheFront → (k : Catalog) (c : List (List ℕ)) (place : ℕ) (bytes : List ℕ) → TellsCatalog k c → TellsCatalog k (slice_set c (66 + place) bytes)
front_stays front k c place bytes tells = front k c (slice_set c (66 + place) bytes) (λ n below. sym (get_or-set_other c (66 + place) n bytes [] (λ same. omega (arith, same, below)))) tells

still_tells : StandsOnTheFront → (k : Catalog) (place : ℕ) (bytes : List ℕ) (old : Option (List (List ℕ))) → IfSome old (TellsCatalog k) → IfSome (option_map (λ c. slice_set c (66 + place) bytes) old) (TellsCatalog k)
still_tells front k place bytes None tells = tt
still_tells front k place bytes (Some c) tells = front_stays front k c place bytes tells

-- what is known of a volume whose log has this of a branch from now on
pub record IsSet (serial : Id) (entry : Option LogRecord) (ss ts : Slots) (v w : VolumeState) : Type 0 where
  pub slots : ts ≡ settled_in serial entry ss
  pub sets : SetsRecord serial entry ss ts v w
  pub rest : w.store ≡ record v.store { current = w.store.current; touched = w.store.touched }
  pub few : length w.store.touched ≤ length v.store.touched + 1
  pub holds : Holds v → Holds w
  pub ready : IsReady v.store → IsReady w.store
  pub long : length ts ≡ length ss

module _ (front : StandsOnTheFront) (serial : Id) (ss ts : Slots) (v w : VolumeState) (catalog : w.catalog ≡ v.catalog) where
  pub is_written : (entry : Option LogRecord) → ts ≡ settled_in serial entry ss → StagesSlot ss ts v.store w.store entry → IsSet serial entry ss ts v w
  is_written entry slots st = record {
    slots = slots;
    sets = written slots (record { place = st.place; within = st.within; slots = st.slots; current = st.current; catalog = catalog });
    rest = st.rest;
    few = let same = ap length st.touched in let one = length-with_number (584 + st.place) v.store.touched in omega (arith, same, one);
    holds = λ h. subst (λ (k : Catalog). IfSome w.store.current (TellsCatalog k)) (sym catalog) (subst (λ (o : Option (List (List ℕ))). IfSome o (TellsCatalog v.catalog)) (sym st.current) (still_tells front v.catalog st.place (block_of entry) v.store.current h));
    ready = st.disk.ready;
    long = ap length st.slots ∙ length-set ss st.place entry;
  }

  pub is_as_it_was : has_slot serial ss ≡ false → ts ≡ forgotten serial ss → ts ≡ ss → w.store ≡ v.store → IsSet serial None ss ts v w
  is_as_it_was none slots same store = record {
    slots = slots;
    sets = nothing refl none same (ap (λ (s : StoreState). s.current) store) catalog;
    rest = subst (λ (s : StoreState). s ≡ record v.store { current = s.current; touched = s.touched }) (sym store) refl;
    few = let e = ap (λ (s : StoreState). length s.touched) store in omega (arith, e);
    holds = λ h. subst (λ (k : Catalog). IfSome w.store.current (TellsCatalog k)) (sym catalog) (subst (λ (s : StoreState). IfSome s.current (TellsCatalog v.catalog)) (sym store) h);
    ready = λ r. subst IsReady (sym store) r;
    long = ap length same;
  }

  -- a branch's slot is free from now on, where there was one
  pub is_forgotten : ts ≡ forgotten serial ss → (has_slot serial ss ≡ true → StagesSlot ss ts v.store w.store None) → (has_slot serial ss ≡ false → w.store ≡ v.store) → IsSet serial None ss ts v w
  is_forgotten slots some none = go (has_slot serial ss) refl
    where
      go : (b : Bool) → has_slot serial ss ≡ b → IsSet serial None ss ts v w
      go true is = is_written None slots (some is)
      go false is = is_as_it_was is slots (slots ∙ (none_forgotten serial ss is).0) (none is)

-- so it is where the volume lent its store
pub is_forgotten_from : StandsOnTheFront → (serial : Id) (ss ts : Slots) (v w : VolumeState) (s : StoreState) → w.catalog ≡ v.catalog → s ≡ v.store → ts ≡ forgotten serial ss → (has_slot serial ss ≡ true → StagesSlot ss ts s w.store None) → (has_slot serial ss ≡ false → w.store ≡ s) → IsSet serial None ss ts v w
is_forgotten_from front serial ss ts v w s catalog value slots some none =
    is_forgotten front serial ss ts v w catalog slots (λ has. subst (λ (x : StoreState). StagesSlot ss ts x w.store None) value (some has)) (λ free. none free ∙ value)

pub has_log : (ss ts : Slots) (v w : VolumeState) → length ts ≡ length ss → w.catalog ≡ v.catalog → (IfSome v.store.current (Keeps ss) → IfSome w.store.current (Keeps ts)) → HasLog ss v → HasLog ts w
has_log ss ts v w long catalog keeps h = record {
  before = let e = ap (λ (k : Catalog). k.ru.start) catalog in let b = h.before in omega (arith, long, e, b);
  keeps = keeps h.keeps;
}

-- what is staged is applied
pub sets_applied : (serial : Id) (entry : Option LogRecord) (ss ts : Slots) (v mid w : VolumeState) → w.store.current ≡ mid.store.current → SetsRecord serial entry ss ts v mid → w.catalog ≡ mid.catalog → SetsRecord serial entry ss ts v w
sets_applied serial entry ss ts v mid w current (written slots writes) same = written slots (record { place = writes.place; within = writes.within; slots = writes.slots; current = current ∙ writes.current; catalog = same ∙ writes.catalog })
sets_applied serial entry ss ts v mid w current (nothing none free slots as_it_was catalog) same = nothing none free slots (current ∙ as_it_was) (same ∙ catalog)
