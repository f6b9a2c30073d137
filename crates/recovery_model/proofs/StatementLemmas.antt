-- Users of a file; and the changes of one statement, which fit the rings one after another.
use Rattle.std.proofs.Common.{◌≡◌, ℕ, ◌+◌, ◌-◌, ◌*◌, ◌≤◌, List, [], ◌∷◌, Bool, true, false, Option, Some, None, ◌||◌, ◌&&◌, refl, sym, ◌∙◌, ap, subst, arith}
use Rattle.std.specs.Prelude.{if◌then◌else◌, nat_lt}
use Rattle.std.proofs.lemmas.Bool.{ltb-false}
use Rattle.unit_laws.specs.vms_model.Ids.{Id}
use Rattle.unit_laws.specs.vms_model.Keys.{Key}
use Rattle.unit_laws.specs.records_model.Records.{Change}
use Rattle.unit_laws.specs.records_model.History.{History, LiveChanges, same_id, changes_by, with_change, changed_it, first_to_change, current, records}
use Rattle.unit_laws.specs.Units.{SerialsDiffer, has_changes}
use Rattle.unit_laws.proofs.LiveLemmas.{id_is, id_itself, by_change, once_change}
use Rattle.recovery_model.specs.Images.{afters, befores}
use Rattle.recovery_model.specs.Journal.{Changed, is_settled, entry_length}
use Rattle.recovery_model.specs.File.{ImageJournal, FileState, all_of, append, IsOpenIn, IsStill}
use Rattle.recovery_model.specs.Room.{has_entry, free_in, need_in, changes_length, is_short, full_of, Full}
use Rattle.recovery_model.specs.Recovery.{IsUser}
use Rattle.recovery_model.specs.Laws.{is_among, all_changed, EachFits, EachUserIsFirst, RoomSuffices}
use Rattle.recovery_model.proofs.BranchLemmas.{on_top_none}
use Rattle.recovery_model.proofs.FileLemmas.{on_append, still}
use Rattle.recovery_model.proofs.RoomLemmas.{needing, appended, count_changed, counts_one, less_needed}
use Rattle.recovery_model.proofs.PositionLemmas.{entry_counts}
use Rattle.recovery_model.proofs.OrderLemmas.{Journaled, Ordered, changed_has, changes_made, has_made, open_in}

-- where no branch changed the file, what stands is what has been committed
pub still_stands : (f : FileState) → SerialsDiffer f.timeline.history.live → IsStill f → current f.timeline.history ≡ records f.timeline.history
still_stands f d h = on_top_none f.timeline.history.live (records f.timeline.history) d (still f h)

-- Users.

not_among : (h : History) (s : Id) (b : Bool) → changed_it h s ≡ b → (changed_it h s ≡ true → false ≡ true) → b ≡ false
not_among h s true e known = let both : false ≡ true = known e in let never : ⊥ = cc in absurd never
not_among h s false e known = refl

among_rest : (h : History) (s r : Id) (rest : List Id) (b : Bool) → same_id s r ≡ b → changed_it h r ≡ false → changed_it h s ≡ true → (b || is_among s rest) ≡ true → is_among s rest ≡ true
among_rest h s r rest true is off on e = let both : changed_it h s ≡ false = ap (changed_it h) (id_is s r is) ∙ off in let never : ⊥ = cc in absurd never
among_rest h s r rest false is off on e = e

first_user : (f : FileState) (order : List Id) → ((s : Id) → changed_it f.timeline.history s ≡ true → is_among s order ≡ true) → IsUser (first_to_change f.timeline.history order) f
first_user f [] known = λ s. not_among f.timeline.history s (changed_it f.timeline.history s) refl (known s)
first_user f (r ∷ rest) known = go (changed_it f.timeline.history r) refl (first_user f rest)
  where
    go : (b : Bool) → changed_it f.timeline.history r ≡ b → (((s : Id) → changed_it f.timeline.history s ≡ true → is_among s rest ≡ true) → IsUser (first_to_change f.timeline.history rest) f) →
        IsUser (if b then Some r else first_to_change f.timeline.history rest) f
    go true e later = e
    go false e later = later (λ s on. among_rest f.timeline.history s r rest (same_id s r) refl e on (known s on))

pub users : EachUserIsFirst
users f order = record { first = first_user f order; still = still_stands f }

-- Room for the changes of a statement.

-- a branch may make changes of so many bytes more
record Ready (s : Id) (more : ℕ) (j : ImageJournal) (live : List LiveChanges) : Type 0 where
  on : j.on ≡ true
  differ : SerialsDiffer live
  known : has_entry s (all_of j.entries) ≡ true → has_changes (changes_by s live) ≡ true
  fits : needing (has_entry s (all_of j.entries)) more ≤ free_in j live

free_left : (s : Id) (c : Change) (tid : Id) (k : Key) (v : Option (List ℕ)) (more : ℕ) (j : ImageJournal) (live : List LiveChanges) → Ready s (more + entry_length (Changed s k v)) j live → more ≤ free_in (append tid (Changed s k v) j) (with_change s c live)
free_left s c tid k v more j live w =
    subst (λ x. more ≤ free_in x (with_change s c live)) (sym (appended tid (Changed s k v) j w.on))
    (subst (λ n. more ≤ 512 * j.blocks - (j.end + entry_length (Changed s k v) - j.first) - 48 * n) (sym (count_changed s c k v (all_of j.entries) live w.differ w.known))
    (less_needed (has_entry s (all_of j.entries)) j.first j.end (entry_length (Changed s k v)) more _ j.blocks w.fits (entry_counts (Changed s k v))))

in_front : (s : Id) (tid : Id) (k : Key) (v : Option (List ℕ)) (j : ImageJournal) → j.on ≡ true → has_entry s (all_of (append tid (Changed s k v) j).entries) ≡ true
in_front s tid k v j on = subst (λ (x : ImageJournal). has_entry s (all_of x.entries) ≡ true) (sym (appended tid (Changed s k v) j on)) (one_of (same_id s s) (id_itself s))
  where
    one_of : (b : Bool) → b ≡ true → (b || has_entry s (all_of j.entries)) ≡ true
    one_of true e = refl
    one_of false e = let no : ⊥ = cc in absurd no

needing_it : (b : Bool) (more free : ℕ) → b ≡ true → more ≤ free → needing b more ≤ free
needing_it true more free e l = l
needing_it false more free e l = let no : ⊥ = cc in absurd no

ready_step : (s : Id) (c : Change) (tid : Id) (v : Option (List ℕ)) (more : ℕ) (j : ImageJournal) (live : List LiveChanges) → Ready s (more + entry_length (Changed s c.key v)) j live → Ready s more (append tid (Changed s c.key v) j) (with_change s c live)
ready_step s c tid v more j live w = record {
  on = ap (λ (x : ImageJournal). x.on) (appended tid (Changed s c.key v) j w.on) ∙ w.on;
  differ = once_change s c live w.differ;
  known = λ has. ap has_changes (by_change s c live);
  fits = needing_it (has_entry s (all_of (append tid (Changed s c.key v) j).entries)) more (free_in (append tid (Changed s c.key v) j) (with_change s c live)) (in_front s tid c.key v j w.on) (free_left s c tid c.key v more j live w);
}

needing_less : (b : Bool) (x y free : ℕ) → y ≤ x → needing b x ≤ free → needing b y ≤ free
needing_less true x y free l h = omega (arith, h)
needing_less false x y free l h = omega (arith, h)

ready_for : (s : Id) (x y : ℕ) (j : ImageJournal) (live : List LiveChanges) → y ≤ x → Ready s x j live → Ready s y j live
ready_for s x y j live l w = record { on = w.on; differ = w.differ; known = w.known; fits = needing_less (has_entry s (all_of j.entries)) x y (free_in j live) l w.fits }

-- behind the older changes there is room for the newer ones
ready_afters : (tid s : Id) (cs : List Change) (f : FileState) (more : ℕ) → Ready s (more + changes_length (afters cs)) f.ai f.timeline.history.live → Ready s more (all_changed tid s cs f).ai (all_changed tid s cs f).timeline.history.live
ready_afters tid s [] f more w = ready_for s (more + 0) more f.ai f.timeline.history.live (omega arith) w
ready_afters tid s (c ∷ cs) f more w =
    ready_step s c tid c.after more (all_changed tid s cs f).ai (all_changed tid s cs f).timeline.history.live
    (ready_afters tid s cs f (more + entry_length (Changed s c.key c.after)) (ready_for s (more + (entry_length (Changed s c.key c.after) + changes_length (afters cs))) (more + entry_length (Changed s c.key c.after) + changes_length (afters cs)) f.ai f.timeline.history.live (omega arith) w))

ready_befores : (tid s : Id) (cs : List Change) (f : FileState) (more : ℕ) → Ready s (more + changes_length (befores cs)) f.bi f.timeline.history.live → Ready s more (all_changed tid s cs f).bi (all_changed tid s cs f).timeline.history.live
ready_befores tid s [] f more w = ready_for s (more + 0) more f.bi f.timeline.history.live (omega arith) w
ready_befores tid s (c ∷ cs) f more w =
    ready_step s c tid c.before more (all_changed tid s cs f).bi (all_changed tid s cs f).timeline.history.live
    (ready_befores tid s cs f (more + entry_length (Changed s c.key c.before)) (ready_for s (more + (entry_length (Changed s c.key c.before) + changes_length (befores cs))) (more + entry_length (Changed s c.key c.before) + changes_length (befores cs)) f.bi f.timeline.history.live (omega arith) w))

afters_were_on : (tid s : Id) (cs : List Change) (f : FileState) → (all_changed tid s cs f).ai.on ≡ true → f.ai.on ≡ true
afters_were_on tid s [] f on = on
afters_were_on tid s (c ∷ cs) f on = afters_were_on tid s cs f (on_append tid (Changed s c.key c.after) (all_changed tid s cs f).ai (all_changed tid s cs f).ai.on refl on)

befores_were_on : (tid s : Id) (cs : List Change) (f : FileState) → (all_changed tid s cs f).bi.on ≡ true → f.bi.on ≡ true
befores_were_on tid s [] f on = on
befores_were_on tid s (c ∷ cs) f on = befores_were_on tid s cs f (on_append tid (Changed s c.key c.before) (all_changed tid s cs f).bi (all_changed tid s cs f).bi.on refl on)

one_needed : (s : Id) (k : Key) (v : Option (List ℕ)) (j : ImageJournal) (live : List LiveChanges) → Ready s (entry_length (Changed s k v)) j live → need_in s ((k, v) ∷ []) j ≤ free_in j live
one_needed s k v j live w = go (has_entry s (all_of j.entries)) w.fits
  where
    go : (b : Bool) → needing b (entry_length (Changed s k v)) ≤ free_in j live → (if b then (entry_length (Changed s k v) + 0) else 48 + (entry_length (Changed s k v) + 0)) ≤ free_in j live
    go true h = omega (arith, h)
    go false h = omega (arith, h)

each_fits : (tid s : Id) (cs : List Change) (f : FileState) → (f.ai.on ≡ true → Ready s (changes_length (afters cs)) f.ai f.timeline.history.live) → (f.bi.on ≡ true → Ready s (changes_length (befores cs)) f.bi f.timeline.history.live) → EachFits tid s cs f
each_fits tid s [] f a b = tt
each_fits tid s (c ∷ cs) f a b = (
  record {
    afters = λ on. one_needed s c.key c.after (all_changed tid s cs f).ai (all_changed tid s cs f).timeline.history.live (ready_afters tid s cs f (entry_length (Changed s c.key c.after)) (a (afters_were_on tid s cs f on)));
    befores = λ on. one_needed s c.key c.before (all_changed tid s cs f).bi (all_changed tid s cs f).timeline.history.live (ready_befores tid s cs f (entry_length (Changed s c.key c.before)) (b (befores_were_on tid s cs f on)));
  },
  each_fits tid s cs f
      (λ on. ready_for s (entry_length (Changed s c.key c.after) + changes_length (afters cs)) (changes_length (afters cs)) f.ai f.timeline.history.live (omega arith) (a on))
      (λ on. ready_for s (entry_length (Changed s c.key c.before) + changes_length (befores cs)) (changes_length (befores cs)) f.bi f.timeline.history.live (omega arith) (b on)),
)

none_full : (a b : Bool) (x y : Full) → (if a then Some x else (if b then Some y else None)) ≡ None → (a ≡ false) × (b ≡ false)
none_full true b x y e = let no : ⊥ = cc in absurd no
none_full false true x y e = let no : ⊥ = cc in absurd no
none_full false false x y e = (refl, refl)

not_short : (on : Bool) (free need : ℕ) → (on && nat_lt free need) ≡ false → on ≡ true → need ≤ free
not_short true free need e on = ltb-false free need e
not_short false free need e on = let no : ⊥ = cc in absurd no

needed : (b : Bool) (n free : ℕ) → (if b then n else 48 + n) ≤ free → needing b n ≤ free
needed true n free h = h
needed false n free h = h

ready_now : (g : ℕ) (s : Id) (n : ℕ) (j : ImageJournal) (live : List LiveChanges) → j.on ≡ true → SerialsDiffer live → Journaled g live j → is_settled (all_of j.entries) s ≡ false → (if has_entry s (all_of j.entries) then n else 48 + n) ≤ free_in j live → Ready s n j live
ready_now g s n j live on d w open_now fits = record {
  on = on;
  differ = d;
  known = changes_made s (all_of j.entries) (changes_by s live) (has_changes (changes_by s live)) refl (w.keys s open_now);
  fits = needed (has_entry s (all_of j.entries)) n (free_in j live) fits;
}

statement_fits : (g : ℕ) (f : FileState) (tid s : Id) (cs : List Change) → SerialsDiffer f.timeline.history.live → Ordered g f → (changes_by s f.timeline.history.live ≡ [] → IsOpenIn s f) → full_of s cs f ≡ None → EachFits tid s cs f
statement_fits g f tid s cs d w begins e =
    let there = open_in g f s w begins in
    let short = none_full (is_short s (afters cs) f.ai f.timeline.history.live) (is_short s (befores cs) f.bi f.timeline.history.live) _ _ e in
    each_fits tid s cs f
    (λ on. ready_now g s (changes_length (afters cs)) f.ai f.timeline.history.live on d (w.ai on) there.0 (not_short f.ai.on (free_in f.ai f.timeline.history.live) (need_in s (afters cs) f.ai) short.0 on))
    (λ on. ready_now g s (changes_length (befores cs)) f.bi f.timeline.history.live on d (w.bi on) there.1 (not_short f.bi.on (free_in f.bi f.timeline.history.live) (need_in s (befores cs) f.bi) short.1 on))

settlement_fits : (g : ℕ) (s : Id) (j : ImageJournal) (live : List LiveChanges) → Journaled g live j → has_changes (changes_by s live) ≡ true → j.end - j.first + 48 ≤ 512 * j.blocks
settlement_fits g s j live w some = let one = counts_one s (all_of j.entries) live (has_made g live j s w some) some in let room = w.room in omega (arith, one, room)

pub room_suffices : (g : ℕ) (f : FileState) → SerialsDiffer f.timeline.history.live → Ordered g f → RoomSuffices f
room_suffices g f d w = record {
  changes = λ tid s cs begins e. statement_fits g f tid s cs d w begins e;
  afters = λ s e on. settlement_fits g s f.ai f.timeline.history.live (w.ai on) (changed_has f.timeline.history s e);
  befores = λ s e on. settlement_fits g s f.bi f.timeline.history.live (w.bi on) (changed_has f.timeline.history s e);
}
