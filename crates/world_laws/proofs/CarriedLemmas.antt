-- That nothing which a file carries for its recovery is of the file's end, and so no recovery makes a record there.
use Rattle.std.proofs.Common.{◌≡◌, ℕ, ◌+◌, List, [], ◌∷◌, Bool, true, false, cond, Option, Some, None, if◌then◌else◌, refl, ◌∙◌, ap, subst}
use Rattle.std.specs.Prelude.{nat_le}
use Rattle.std.specs.FinMap.{entries, get, get-empty}
use Rattle.std.specs.List.{AllByRecursion}
use Rattle.std.specs.Ordering.{eq_by_cmp}
use Rattle.vms_model.specs.Ids.{Id}
use Rattle.vms_model.specs.Keys.{Key, Number, End}
use Rattle.run_model.specs.script_model.Statements.{AfterImages, BeforeImages}
use Rattle.run_model.specs.records_model.Records.{Change, Records, key_cmp, set_key}
use Rattle.run_model.specs.records_model.History.{LiveChanges, current, on_top, reached, records}
use Rattle.run_model.proofs.records_model.RecordsLemmas.{get-set_key}
use Rattle.run_model.specs.recovery_model.Journal as image
use Rattle.run_model.specs.recovery_model.Journal.{backward, beyond, chosen, forward}
use Rattle.run_model.specs.recovery_model.File.{ImageJournal, Placed, Save, all_of, append, renewed, renewed_if_on, since}
use Rattle.run_model.specs.recovery_model.Recovery.{Way, Forward, Backward, rolled, rolled_on}
use Rattle.run_model.specs.World.{BeginsImages, Carried, EndsImages, File, ForUnits, Indexed, IsPlainCarried, IsPlainEntry, Mark, Organization, Relative, Sequential, Settlement, carried_marked, carried_recovered, loaded_map, records_from, saved_file, state_of, with_images, with_outcome}
use Rattle.world_laws.proofs.PlainLemmas.{ArePlain}

abbrev AllPlain : List image.Entry → Type 0
AllPlain es = AllByRecursion IsPlainEntry es

-- What keeps it so.

append_plain : (tid : Id) (e : image.Entry) (j : ImageJournal) → IsPlainEntry e → AllPlain (all_of j.entries) → AllPlain (all_of (append tid e j).entries)
append_plain tid e j p h = go j.on
  where
    go : (b : Bool) → AllPlain (all_of (if b then record j { end = j.end + image.entry_length e; entries = record { at = j.end; tid = tid; entry = e } ∷ j.entries } else j).entries)
    go true = (p, h)
    go false = h

renewed_plain : (j : ImageJournal) → AllPlain (all_of j.entries) → AllPlain (all_of (renewed_if_on j).entries)
renewed_plain j h = go j.on
  where
    go : (b : Bool) → AllPlain (all_of (if b then renewed j.start j.blocks j else j).entries)
    go true = tt
    go false = h

pub carried_changed : (tid serial : Id) (cs : List Change) (r : Carried) → ArePlain cs → IsPlainCarried r → IsPlainCarried (with_images tid serial cs r)
carried_changed tid serial [] r p h = h
carried_changed tid serial (c ∷ cs) r p h =
    let k = carried_changed tid serial cs r p.1 h in
    record {
      after = append_plain tid (image.Changed serial c.key c.after) (with_images tid serial cs r).after p.0 k.after;
      before = append_plain tid (image.Changed serial c.key c.before) (with_images tid serial cs r).before p.0 k.before;
      save = k.save;
    }

pub carried_settled : (changed : Bool) (s : Settlement) (r : Carried) → IsPlainCarried r → IsPlainCarried (with_outcome changed s r)
carried_settled false s r h = h
carried_settled true s r h = record {
  after = append_plain s.tid (image.Settled s.serial s.outcome s.moment) r.after tt h.after;
  before = append_plain s.tid (image.Settled s.serial s.outcome s.moment) r.before tt h.before;
  save = h.save;
}

pub carried_marks : (mark : Mark) (g : ℕ) (r : Carried) → IsPlainCarried r → IsPlainCarried (carried_marked mark g r)
carried_marks (ForUnits units) g r h = h
carried_marks (BeginsImages AfterImages start blocks) g r h = record { after = tt; before = h.before; save = h.save }
carried_marks (BeginsImages BeforeImages start blocks) g r h = record { after = h.after; before = tt; save = h.save }
carried_marks (EndsImages AfterImages) g r h = record { after = tt; before = h.before; save = h.save }
carried_marks (EndsImages BeforeImages) g r h = record { after = h.after; before = tt; save = h.save }

saved_is : (x v : Save) → Some x ≡ Some v → x ≡ v
saved_is x v e = cc

pub carried_saved : (start g : ℕ) (f : File) → get (current f.history) End ≡ None → IsPlainCarried f.carried → IsPlainCarried (saved_file start g f).carried
carried_saved start g f absent h = record { after = h.after; before = h.before; save = λ v e. subst (λ (w : Save). get w.records End ≡ None) (saved_is _ v e) absent }

pub carried_recovers : (g : ℕ) (r : Carried) → IsPlainCarried r → IsPlainCarried (carried_recovered g r)
carried_recovers g r h = record { after = renewed_plain r.after h.after; before = renewed_plain r.before h.before; save = h.save }

-- What a recovery makes.

set_plain : (m : Records) (key : Key) (v : Option (List ℕ)) → eq_by_cmp key_cmp End key ≡ false → get (set_key m key v) End ≡ get m End
set_plain m key v plain = get-set_key m key End v ∙ ap (λ b. cond b v (get m End)) plain

forward_plain : (p : Id → Bool) (es : List image.Entry) (m : Records) → AllPlain es → get m End ≡ None → get (forward p es m) End ≡ None
forward_plain p [] m h e = e
forward_plain p (image.Changed s key v ∷ es) m h e = go (p s) (forward_plain p es m h.1 e)
  where
    go : (b : Bool) → get (forward p es m) End ≡ None → get (if b then set_key (forward p es m) key v else forward p es m) End ≡ None
    go true k = set_plain (forward p es m) key v h.0 ∙ k
    go false k = k
forward_plain p (image.Settled s outcome moment ∷ es) m h e = forward_plain p es m h.1 e

backward_plain : (p : Id → Bool) (es : List image.Entry) (m : Records) → AllPlain es → get m End ≡ None → get (backward p es m) End ≡ None
backward_plain p [] m h e = e
backward_plain p (image.Changed s key v ∷ es) m h e = backward_plain p es (if p s then set_key m key v else m) h.1 (go (p s))
  where
    go : (b : Bool) → get (if b then set_key m key v else m) End ≡ None
    go true = set_plain m key v h.0 ∙ e
    go false = e
backward_plain p (image.Settled s outcome moment ∷ es) m h e = backward_plain p es m h.1 e

since_plain : (p : ℕ) (xs : List Placed) → AllPlain (all_of xs) → AllPlain (since p xs)
since_plain p [] h = tt
since_plain p (x ∷ xs) h = go (nat_le p x.at) (since_plain p xs h.1)
  where
    go : (b : Bool) → AllPlain (since p xs) → AllPlain (if b then x.entry ∷ since p xs else [])
    go true k = (h.0, k)
    go false k = tt

records_plain : (first : ℕ) (es : List (Key × List ℕ)) → get (records_from first es) End ≡ None
records_plain first [] = get-empty key_cmp End
records_plain first (e ∷ es) = get-set_key (records_from (first + 1) es) (Number first) End (Some e.1) ∙ records_plain (first + 1) es

loaded_plain : (o : Organization) (m : Records) → get m End ≡ None → get (loaded_map o m) End ≡ None
loaded_plain Sequential m e = records_plain 1 (entries m)
loaded_plain (Relative greatest) m e = e
loaded_plain (Indexed position size) m e = e

rolled_plain : (way : Way) (f : File) → IsPlainCarried f.carried → f.history.live ≡ [] → get (current f.history) End ≡ None → get (rolled way (state_of f)) End ≡ None
rolled_plain (Forward until) f h rests absent = on f.carried.save refl
  where
    on : (o : Option Save) → f.carried.save ≡ o → get (rolled_on until o (state_of f)) End ≡ None
    on None is = subst (λ (ls : List LiveChanges). get (on_top ls (records f.history)) End ≡ None) rests absent
    on (Some v) is =
        let es = since v.position f.carried.after.entries in
        forward_plain (chosen (reached until) es) es v.records (since_plain v.position f.carried.after.entries h.after) (h.save v is)
rolled_plain (Backward until) f h rests absent =
    backward_plain (chosen (beyond until) (all_of f.carried.before.entries)) (all_of f.carried.before.entries) (current f.history) h.before absent

pub recovered_plain : (way : Way) (f : File) → IsPlainCarried f.carried → f.history.live ≡ [] → get (current f.history) End ≡ None → get (loaded_map f.organization (rolled way (state_of f))) End ≡ None
recovered_plain way f h rests absent = loaded_plain f.organization (rolled way (state_of f)) (rolled_plain way f h rests absent)
