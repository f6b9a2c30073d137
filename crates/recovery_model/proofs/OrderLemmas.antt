-- Each act keeps that entries stand in their rings in order and have room, and that journals tell of branches up to now.
use Rattle.std.proofs.Common.{◌≡◌, ℕ, ◌+◌, ◌<◌, ◌≤◌, List, [], ◌∷◌, Bool, true, false, Option, Some, None, ◌||◌, refl, sym, ◌∙◌, ap, subst, arith}
use Rattle.std.specs.Prelude.{if◌then◌else◌}
use Rattle.unit_laws.specs.vms_model.Ids.{Id}
use Rattle.unit_laws.specs.vms_model.Transactions.{Outcome}
use Rattle.unit_laws.specs.records_model.Records.{Records, Change}
use Rattle.unit_laws.specs.records_model.History.{History, LiveChanges, same_id, changes_by, changed_it, with_change, without}
use Rattle.unit_laws.proofs.records_model.SlotLaws.{if_true, if_false}
use Rattle.unit_laws.specs.Units.{SerialsDiffer, has_changes}
use Rattle.unit_laws.proofs.LiveLemmas.{id_is}
use Rattle.recovery_model.specs.Images.{Image, afters, befores, keys_of}
use Rattle.recovery_model.specs.Journal.{Entry, Changed, Settled, is_settled, images_by, Locked}
use Rattle.recovery_model.specs.File.{ImageJournal, Save, FileState, all_of, IsInOrder, IsPlace, append, renewed, ended, renewed_if_on, changed_file, with_its, half_aborted, no_images, IsOpenIn, created}
use Rattle.recovery_model.specs.Room.{has_entry, need_in, free_in, HasRoom}
use Rattle.recovery_model.specs.Opening.{TellsBranches, TellsKeys, TellsFound, IsSaved, IsLawful}
use Rattle.recovery_model.specs.Acts.{Act, Changes, Settles, HalfAborts, BeginsAfters, EndsAfters, BeginsBefores, EndsBefores, Saves, Recovers, greatest_after, file_after, MayChange, MayDo}
use Rattle.recovery_model.proofs.Covering.{unsettled, Free}
use Rattle.recovery_model.proofs.PositionLemmas.{before_later}
use Rattle.recovery_model.proofs.BranchLemmas.{free_for, live_other, gone_same, gone_other}
use Rattle.recovery_model.proofs.TieLemmas.{not_this}
use Rattle.recovery_model.proofs.LockedLemmas.{locked_changed}
use Rattle.recovery_model.proofs.FileLemmas.{end_up, first_append, on_append, all_append, settled_row, span_up, still, settled_is}
use Rattle.recovery_model.proofs.OpeningLemmas.{same_touches}
use Rattle.recovery_model.proofs.TellingLemmas.{keys_one, befores_one}
use Rattle.recovery_model.proofs.HalfLemmas.{no_befores, its_befores, its_keys, keys_befores}
use Rattle.recovery_model.proofs.RoomLemmas.{appended, room_changed, room_settled, room_half, room_new}

-- Entries in order.

pub order_append : (tid : Id) (e : Entry) (j : ImageJournal) (on : Bool) → j.on ≡ on → IsInOrder j → IsInOrder (append tid e j)
order_append tid e j true on w = subst IsInOrder (sym (appended tid e j on)) (record {
  places = (w.end on, w.places);
  within = let x = w.within in omega arith;
  end = λ on. let x = w.end on in omega arith;
  bare = λ off. let no : ⊥ = cc in absurd no;
})
order_append tid e j false off w = subst IsInOrder (sym (if_false j.on _ _ off)) w

order_renewed : (start blocks : ℕ) (j : ImageJournal) → IsInOrder (renewed start blocks j)
order_renewed start blocks j = record { places = tt; within = omega arith; end = λ on. omega arith; bare = λ off. let no : ⊥ = cc in absurd no }

order_ended : (j : ImageJournal) → IsInOrder j → IsInOrder (ended j)
order_ended j w = record { places = tt; within = let x = w.within in omega arith; end = λ on. (let no : ⊥ = cc in absurd no); bare = λ off. (refl, refl, refl) }

order_again : (j : ImageJournal) (on : Bool) → j.on ≡ on → IsInOrder j → IsInOrder (renewed_if_on j)
order_again j true on w = subst IsInOrder (sym (if_true j.on _ _ on)) (order_renewed j.start j.blocks j)
order_again j false off w = subst IsInOrder (sym (if_false j.on _ _ off)) w

-- What a journal tells of branches.

unsettled_here : (live : List LiveChanges) (es : List Entry) (s : Id) (b : Bool) → is_settled es s ≡ b → ((r : Id) → is_settled es r ≡ true → changes_by r live ≡ []) → (changes_by s live ≡ [] → is_settled es s ≡ false) → b ≡ false
unsettled_here live es s true e gone begins = let both : true ≡ false = sym e ∙ begins (gone s e) in let never : ⊥ = cc in absurd never
unsettled_here live es s false e gone begins = refl

gone_changed : (live : List LiveChanges) (es : List Entry) (s r : Id) (c : Change) (b : Bool) → same_id r s ≡ b → is_settled es s ≡ false → is_settled es r ≡ true → changes_by r live ≡ [] → changes_by r (with_change s c live) ≡ []
gone_changed live es s r c true is off on h = let both : is_settled es s ≡ true = ap (is_settled es) (sym (id_is r s is)) ∙ on in let never : ⊥ = cc in absurd never
gone_changed live es s r c false is off on h = live_other s r c live is ∙ h

branches_changed : (g : ℕ) (live : List LiveChanges) (es : List Entry) (s : Id) (c : Change) (v : Option (List ℕ)) → is_settled es s ≡ false → Locked (Changed s c.key v ∷ es) → TellsBranches g live es → TellsBranches g (with_change s c live) (Changed s c.key v ∷ es)
branches_changed g live es s c v off locked t = record {
  locked = locked;
  once = (off, t.once);
  rises = t.rises;
  gone = λ r on. gone_changed live es s r c (same_id r s) refl off on (t.gone r on);
}

gone_settled : (live : List LiveChanges) (es : List Entry) (s r : Id) (b : Bool) → same_id r s ≡ b → SerialsDiffer live → (if b then true else is_settled es r) ≡ true → (is_settled es r ≡ true → changes_by r live ≡ []) → changes_by r (without s live) ≡ []
gone_settled live es s r true is d on h = gone_same s r live d is
gone_settled live es s r false is d on h = gone_other s r live is ∙ h on

branches_settled : (g t : ℕ) (live : List LiveChanges) (es : List Entry) (s : Id) (outcome : Outcome) → g < t → SerialsDiffer live → is_settled es s ≡ false → TellsBranches g live es → TellsBranches t (without s live) (Settled s outcome t ∷ es)
branches_settled g t live es s outcome l d off w = record {
  locked = w.locked;
  once = (off, w.once);
  rises = (omega arith, before_later (g + 1) t es (omega arith) w.rises);
  gone = λ r on. gone_settled live es s r (same_id r s) refl d on (w.gone r);
}

branches_passed : (g t : ℕ) (live : List LiveChanges) (es : List Entry) → g ≤ t → TellsBranches g live es → TellsBranches t live es
branches_passed g t live es l w = record { locked = w.locked; once = w.once; rises = before_later (g + 1) (t + 1) es (omega arith) w.rises; gone = w.gone }

none_from : (cs ds : List Change) → befores cs ≡ befores ds → ds ≡ [] → cs ≡ []
none_from cs ds e n = no_befores cs (e ∙ ap befores n)

branches_half : (g : ℕ) (live : List LiveChanges) (es : List Entry) (s : Id) (cs : List Change) → befores cs ≡ befores (changes_by s live) → TellsBranches g live es → TellsBranches g (with_its s cs live) es
branches_half g live es s cs e w = record {
  locked = w.locked;
  once = w.once;
  rises = w.rises;
  gone = λ r on. none_from (changes_by r (with_its s cs live)) (changes_by r live) (its_befores s r cs live (same_id r s) refl e) (w.gone r on);
}

branches_none : (g : ℕ) (live : List LiveChanges) → TellsBranches g live []
branches_none g live = record { locked = tt; once = tt; rises = tt; gone = λ s on. let no : ⊥ = cc in absurd no }

-- A branch with changes has entries, and one with entries has changes.

some_images : (s : Id) (es : List Entry) → has_entry s es ≡ false → images_by s es ≡ []
some_images s [] h = refl
some_images s (Changed r k v ∷ es) h = go (same_id r s) h (some_images s es)
  where
    go : (b : Bool) → (b || has_entry s es) ≡ false → (has_entry s es ≡ false → images_by s es ≡ []) → (if b then (k, v) ∷ images_by s es else images_by s es) ≡ []
    go true e later = let no : ⊥ = cc in absurd no
    go false e later = later e
some_images s (Settled r outcome t ∷ es) h = some_images s es h

no_images_left : (s : Id) (es : List Entry) → images_by s es ≡ [] → has_entry s es ≡ false
no_images_left s [] h = refl
no_images_left s (Changed r k v ∷ es) h = go (same_id r s) h (no_images_left s es)
  where
    go : (b : Bool) → (if b then (k, v) ∷ images_by s es else images_by s es) ≡ [] → (images_by s es ≡ [] → has_entry s es ≡ false) → (b || has_entry s es) ≡ false
    go true e later = let no : ⊥ = cc in absurd no
    go false e later = later e
no_images_left s (Settled r outcome t ∷ es) h = no_images_left s es h

no_keys_changed : (cs : List Change) → keys_of (afters cs) ≡ [] → cs ≡ []
no_keys_changed [] e = refl
no_keys_changed (c ∷ cs) e = let no : ⊥ = cc in absurd no

no_keys_images : (is : List Image) → keys_of is ≡ [] → is ≡ []
no_keys_images [] e = refl
no_keys_images (i ∷ is) e = let no : ⊥ = cc in absurd no

pub entries_made : (s : Id) (es : List Entry) (cs : List Change) (b : Bool) → has_entry s es ≡ b → keys_of (images_by s es) ≡ keys_of (afters cs) → has_changes cs ≡ true → b ≡ true
entries_made s es cs true e h some = refl
entries_made s es cs false e h some =
    let none : cs ≡ [] = no_keys_changed cs (sym h ∙ ap keys_of (some_images s es e)) in
    let no : has_changes cs ≡ false = ap has_changes none in
    let never : ⊥ = cc in absurd never

pub changes_made : (s : Id) (es : List Entry) (cs : List Change) (b : Bool) → has_changes cs ≡ b → keys_of (images_by s es) ≡ keys_of (afters cs) → has_entry s es ≡ true → b ≡ true
changes_made s es cs true e h some = refl
changes_made s es (c ∷ cs) false e h some = let no : ⊥ = cc in absurd no
changes_made s es [] false e h some =
    let no : has_entry s es ≡ false = no_images_left s es (no_keys_images (images_by s es) h) in
    let never : ⊥ = cc in absurd never

-- One journal.

-- it has room, and tells of branches and of the keys that they changed
pub record Journaled (g : ℕ) (live : List LiveChanges) (j : ImageJournal) : Type 0 where
  pub room : HasRoom j live
  pub branches : TellsBranches g live (all_of j.entries)
  pub keys : TellsKeys live (all_of j.entries)

-- a branch that has changes is not settled there
pub open_changed : (g : ℕ) (live : List LiveChanges) (j : ImageJournal) (s : Id) → Journaled g live j → has_changes (changes_by s live) ≡ true → is_settled (all_of j.entries) s ≡ false
open_changed g live j s w some = unsettled_here live (all_of j.entries) s (is_settled (all_of j.entries) s) refl w.branches.gone (λ none. let no : has_changes (changes_by s live) ≡ false = ap has_changes none in let never : ⊥ = cc in absurd never)

pub has_made : (g : ℕ) (live : List LiveChanges) (j : ImageJournal) (s : Id) → Journaled g live j → has_changes (changes_by s live) ≡ true → has_entry s (all_of j.entries) ≡ true
has_made g live j s w some = entries_made s (all_of j.entries) (changes_by s live) (has_entry s (all_of j.entries)) refl (w.keys s (open_changed g live j s w some)) some

journal_changed : (g : ℕ) (tid s : Id) (c : Change) (v : Option (List ℕ)) (j : ImageJournal) (live : List LiveChanges) → j.on ≡ true → SerialsDiffer live → (changes_by s live ≡ [] → is_settled (all_of j.entries) s ≡ false) → Free c.key s (unsettled live) →
    need_in s ((c.key, v) ∷ []) j ≤ free_in j live → Journaled g live j → Journaled g (with_change s c live) (append tid (Changed s c.key v) j)
journal_changed g tid s c v j live on d begins free fits w =
    let es = all_of j.entries in
    let open_now : is_settled (all_of j.entries) s ≡ false = unsettled_here live (all_of j.entries) s (is_settled (all_of j.entries) s) refl w.branches.gone begins in
    record {
      room = room_changed tid s c c.key v j live on d (changes_made s es (changes_by s live) (has_changes (changes_by s live)) refl (w.keys s open_now)) fits w.room;
      branches = subst (TellsBranches g (with_change s c live)) (sym (all_append tid (Changed s c.key v) j on))
          (branches_changed g live es s c v open_now (locked_changed es s c.key v (unsettled live) (λ r u. same_touches (images_by r es) (afters (unsettled live r)) c.key (w.keys r u)) free w.branches.locked) w.branches);
      keys = subst (TellsKeys (with_change s c live)) (sym (all_append tid (Changed s c.key v) j on)) (λ r u. keys_one es live s c v r (same_id r s) refl (w.keys r u));
    }

keys_left : (live : List LiveChanges) (es : List Entry) (s : Id) (outcome : Outcome) (t : ℕ) → TellsKeys live es → TellsKeys (without s live) (Settled s outcome t ∷ es)
keys_left live es s outcome t w r u = let x = not_this s r (same_id r s) (is_settled es r) refl u in w r x.1 ∙ ap (λ y. keys_of (afters y)) (sym (gone_other s r live x.0))

found_left : (live : List LiveChanges) (es : List Entry) (s : Id) (outcome : Outcome) (t : ℕ) → TellsFound live es → TellsFound (without s live) (Settled s outcome t ∷ es)
found_left live es s outcome t w r u = let x = not_this s r (same_id r s) (is_settled es r) refl u in w r x.1 ∙ ap befores (sym (gone_other s r live x.0))

journal_settled : (g : ℕ) (tid s : Id) (outcome : Outcome) (t : ℕ) (j : ImageJournal) (live : List LiveChanges) → j.on ≡ true → g < t → SerialsDiffer live → has_changes (changes_by s live) ≡ true →
    Journaled g live j → Journaled t (without s live) (append tid (Settled s outcome t) j)
journal_settled g tid s outcome t j live on l d some w = record {
  room = room_settled tid s outcome t j live on (has_made g live j s w some) some w.room;
  branches = subst (TellsBranches t (without s live)) (sym (all_append tid (Settled s outcome t) j on)) (branches_settled g t live (all_of j.entries) s outcome l d (open_changed g live j s w some) w.branches);
  keys = subst (TellsKeys (without s live)) (sym (all_append tid (Settled s outcome t) j on)) (keys_left live (all_of j.entries) s outcome t w.keys);
}

journal_passed : (g t : ℕ) (j : ImageJournal) (live : List LiveChanges) → g ≤ t → Journaled g live j → Journaled t live j
journal_passed g t j live l w = record { room = w.room; branches = branches_passed g t live (all_of j.entries) l w.branches; keys = w.keys }

journal_half : (g : ℕ) (s : Id) (cs : List Change) (j : ImageJournal) (live : List LiveChanges) → befores cs ≡ befores (changes_by s live) → Journaled g live j → Journaled g (with_its s cs live) j
journal_half g s cs j live e w = record {
  room = room_half s cs j live w.room;
  branches = branches_half g live (all_of j.entries) s cs e w.branches;
  keys = λ r u. w.keys r u ∙ sym (its_keys s r cs live e);
}

journal_new : (g start blocks : ℕ) (j : ImageJournal) (live : List LiveChanges) → ((s : Id) → unsettled live s ≡ []) → Journaled g live (renewed start blocks j)
journal_new g start blocks j live n = record { room = room_new start blocks j live; branches = branches_none g live; keys = λ s u. ap (λ x. keys_of (afters x)) (sym (n s)) }

journal_again : (g : ℕ) (j : ImageJournal) (live : List LiveChanges) (on : Bool) → j.on ≡ on → ((s : Id) → unsettled live s ≡ []) → (renewed_if_on j).on ≡ true → Journaled g live (renewed_if_on j)
journal_again g j live true on n there = subst (Journaled g live) (sym (if_true j.on _ _ on)) (journal_new g j.start j.blocks j live n)
journal_again g j live false off n there = let same : (renewed_if_on j).on ≡ j.on = ap (λ (x : ImageJournal). x.on) (if_false j.on _ _ off) in let no : ⊥ = cc in absurd no

found_again : (j : ImageJournal) (live : List LiveChanges) (on : Bool) → j.on ≡ on → ((s : Id) → unsettled live s ≡ []) → (renewed_if_on j).on ≡ true → TellsFound live (all_of (renewed_if_on j).entries)
found_again j live true on n there = subst (λ (x : ImageJournal). TellsFound live (all_of x.entries)) (sym (if_true j.on _ _ on)) (λ s u. ap befores (sym (n s)))
found_again j live false off n there = let same : (renewed_if_on j).on ≡ j.on = ap (λ (x : ImageJournal). x.on) (if_false j.on _ _ off) in let no : ⊥ = cc in absurd no

-- A save.

abbrev pub SaveStands : ℕ → ImageJournal → Option Save → Type 0
SaveStands g j None = Unit {0}
SaveStands g j (Some v) = IsSaved g j v

place_append : (tid : Id) (e : Entry) (j : ImageJournal) (p : ℕ) → j.on ≡ true → IsPlace p j → IsPlace p (append tid e j)
place_append tid e j p on w = subst (IsPlace p) (sym (appended tid e j on)) (record { newer = record { at = j.end; tid = tid; entry = e } ∷ w.newer; older = w.older; split = ap (λ xs. record { at = j.end; tid = tid; entry = e } ∷ xs) w.split; at = w.at })

save_append : (g t : ℕ) (tid : Id) (e : Entry) (j : ImageJournal) (sv : Option Save) → g ≤ t → SaveStands g j sv → SaveStands t (append tid e j) sv
save_append g t tid e j None l w = tt
save_append g t tid e j (Some v) l w = record {
  moment = let x = w.moment in omega arith;
  position = end_up tid e j v.position j.on refl w.position;
  place = λ on cov.
      let old : j.on ≡ true = on_append tid e j j.on refl on in
      place_append tid e j v.position old (w.place old (subst (λ x. x ≤ v.position) (first_append tid e j j.on refl) cov));
}

save_passed : (g t : ℕ) (j : ImageJournal) (sv : Option Save) → g ≤ t → SaveStands g j sv → SaveStands t j sv
save_passed g t j None l w = tt
save_passed g t j (Some v) l w = record { moment = let x = w.moment in omega arith; position = w.position; place = w.place }

save_renewed : (g start blocks : ℕ) (j : ImageJournal) (sv : Option Save) → SaveStands g j sv → SaveStands g (renewed start blocks j) sv
save_renewed g start blocks j None w = tt
save_renewed g start blocks j (Some v) w = record {
  moment = w.moment;
  position = let x = span_up j.end in let y = w.position in omega arith;
  place = λ on cov. let x = span_up j.end in let y = w.position in absurd (omega arith);
}

save_ended : (g : ℕ) (j : ImageJournal) (sv : Option Save) → SaveStands g j sv → SaveStands g (ended j) sv
save_ended g j None w = tt
save_ended g j (Some v) w = record { moment = w.moment; position = w.position; place = λ on cov. let no : ⊥ = cc in absurd no }

save_again : (g : ℕ) (j : ImageJournal) (sv : Option Save) (on : Bool) → j.on ≡ on → SaveStands g j sv → SaveStands g (renewed_if_on j) sv
save_again g j sv true on w = subst (λ x. SaveStands g x sv) (sym (if_true j.on _ _ on)) (save_renewed g j.start j.blocks j sv w)
save_again g j sv false off w = subst (λ x. SaveStands g x sv) (sym (if_false j.on _ _ off)) w

-- A file.

pub record Ordered (g : ℕ) (f : FileState) : Type 0 where
  pub ai_order : IsInOrder f.ai
  pub bi_order : IsInOrder f.bi
  pub ai : f.ai.on ≡ true → Journaled g f.timeline.history.live f.ai
  pub bi : f.bi.on ≡ true → Journaled g f.timeline.history.live f.bi
  pub bi_found : f.bi.on ≡ true → TellsFound f.timeline.history.live (all_of f.bi.entries)
  pub since : f.bi_since ≤ g
  pub saved : SaveStands g f.ai f.save

-- what neither journal tells
open_one : (g : ℕ) (j : ImageJournal) (live : List LiveChanges) (s : Id) (on : Bool) → j.on ≡ on → IsInOrder j → (j.on ≡ true → Journaled g live j) → (changes_by s live ≡ [] → is_settled (all_of j.entries) s ≡ false) → is_settled (all_of j.entries) s ≡ false
open_one g j live s true on w h begins = unsettled_here live (all_of j.entries) s (is_settled (all_of j.entries) s) refl (h on).branches.gone begins
open_one g j live s false off w h begins = ap (λ xs. is_settled (all_of xs) s) (w.bare off).2

pub open_in : (g : ℕ) (f : FileState) (s : Id) → Ordered g f → (changes_by s f.timeline.history.live ≡ [] → IsOpenIn s f) → IsOpenIn s f
open_in g f s w begins = (
  open_one g f.ai f.timeline.history.live s f.ai.on refl w.ai_order w.ai (λ none. (begins none).0),
  open_one g f.bi f.timeline.history.live s f.bi.on refl w.bi_order w.bi (λ none. (begins none).1),
)

some_if : (cs : List Change) → (elim (cs) [ [] ↦ false | c ∷ more ↦ true ]) ≡ true → has_changes cs ≡ true
some_if [] e = let no : ⊥ = cc in absurd no
some_if (c ∷ cs) e = refl

-- a branch that changed the file has unsettled changes
pub changed_has : (h : History) (s : Id) → changed_it h s ≡ true → has_changes (changes_by s h.live) ≡ true
changed_has h s e = some_if (changes_by s h.live) e

pub open_in_changed : (g : ℕ) (f : FileState) (s : Id) → Ordered g f → changed_it f.timeline.history s ≡ true → IsOpenIn s f
open_in_changed g f s w e = open_in g f s w (λ none. let yes : has_changes (changes_by s f.timeline.history.live) ≡ true = changed_has f.timeline.history s e in let no : has_changes (changes_by s f.timeline.history.live) ≡ false = ap has_changes none in let never : ⊥ = cc in absurd never)

ordered_changed : (g : ℕ) (tid s : Id) (c : Change) (f : FileState) → MayChange s c f → SerialsDiffer f.timeline.history.live → Ordered g f → Ordered g (changed_file tid s c f)
ordered_changed g tid s c f m d w =
    let free = free_for c.key s f.timeline.history.live m.free in
    let there = open_in g f s w m.begins in
    record {
      ai_order = order_append tid (Changed s c.key c.after) f.ai f.ai.on refl w.ai_order;
      bi_order = order_append tid (Changed s c.key c.before) f.bi f.bi.on refl w.bi_order;
      ai = λ on. let old = on_append tid (Changed s c.key c.after) f.ai f.ai.on refl on in
          journal_changed g tid s c c.after f.ai f.timeline.history.live old d (λ none. there.0) free (m.fits.afters old) (w.ai old);
      bi = λ on. let old = on_append tid (Changed s c.key c.before) f.bi f.bi.on refl on in
          journal_changed g tid s c c.before f.bi f.timeline.history.live old d (λ none. there.1) free (m.fits.befores old) (w.bi old);
      bi_found = λ on. let old = on_append tid (Changed s c.key c.before) f.bi f.bi.on refl on in
          subst (TellsFound (with_change s c f.timeline.history.live)) (sym (all_append tid (Changed s c.key c.before) f.bi old))
          (λ r u. befores_one (all_of f.bi.entries) f.timeline.history.live s c r (same_id r s) refl (w.bi_found old r u));
      since = w.since;
      saved = save_append g g tid (Changed s c.key c.after) f.ai f.save (omega arith) w.saved;
    }

pub ordered_passed : (g t : ℕ) (f : FileState) → g ≤ t → Ordered g f → Ordered t f
ordered_passed g t f l w = record {
  ai_order = w.ai_order;
  bi_order = w.bi_order;
  ai = λ on. journal_passed g t f.ai f.timeline.history.live l (w.ai on);
  bi = λ on. journal_passed g t f.bi f.timeline.history.live l (w.bi on);
  bi_found = w.bi_found;
  since = let x = w.since in omega arith;
  saved = save_passed g t f.ai f.save l w.saved;
}

ordered_settled : (g : ℕ) (tid s : Id) (outcome : Outcome) (t : ℕ) (f : FileState) (b : Bool) → changed_it f.timeline.history s ≡ b → g < t → SerialsDiffer f.timeline.history.live → Ordered g f → Ordered t (if b then settled_row tid s outcome t f else f)
ordered_settled g tid s outcome t f true e l d w =
    let some = changed_has f.timeline.history s e in
    record {
      ai_order = order_append tid (Settled s outcome t) f.ai f.ai.on refl w.ai_order;
      bi_order = order_append tid (Settled s outcome t) f.bi f.bi.on refl w.bi_order;
      ai = λ on. let old = on_append tid (Settled s outcome t) f.ai f.ai.on refl on in journal_settled g tid s outcome t f.ai f.timeline.history.live old l d some (w.ai old);
      bi = λ on. let old = on_append tid (Settled s outcome t) f.bi f.bi.on refl on in journal_settled g tid s outcome t f.bi f.timeline.history.live old l d some (w.bi old);
      bi_found = λ on. let old = on_append tid (Settled s outcome t) f.bi f.bi.on refl on in
          subst (TellsFound (without s f.timeline.history.live)) (sym (all_append tid (Settled s outcome t) f.bi old)) (found_left f.timeline.history.live (all_of f.bi.entries) s outcome t (w.bi_found old));
      since = let x = w.since in omega arith;
      saved = save_append g t tid (Settled s outcome t) f.ai f.save (omega arith) w.saved;
    }
ordered_settled g tid s outcome t f false e l d w = ordered_passed g t f (omega arith) w

pub ordered_half : (g : ℕ) (s : Id) (cs : List Change) (f : FileState) → befores cs ≡ befores (changes_by s f.timeline.history.live) → Ordered g f → Ordered g (half_aborted s cs f)
ordered_half g s cs f same w = record {
  ai_order = w.ai_order;
  bi_order = w.bi_order;
  ai = λ on. journal_half g s cs f.ai f.timeline.history.live same (w.ai on);
  bi = λ on. journal_half g s cs f.bi f.timeline.history.live same (w.bi on);
  bi_found = λ on r u. w.bi_found on r u ∙ sym (its_befores s r cs f.timeline.history.live (same_id r s) refl same);
  since = w.since;
  saved = w.saved;
}

since_again : (on : Bool) (g since : ℕ) → since ≤ g → (if on then g else since) ≤ g
since_again true g since l = omega arith
since_again false g since l = l

pub act_ordered : (may : Id → Bool) (a : Act) (g : ℕ) (f : FileState) → MayDo may a g f → SerialsDiffer f.timeline.history.live → Ordered g f → Ordered (greatest_after a g) (file_after a g f)
act_ordered may (Changes tid s c) g f m k w = ordered_changed g tid s c f m k w
act_ordered may (Settles tid s outcome t) g f m k w =
    subst (Ordered t) (sym (settled_is tid s outcome t f (changed_it f.timeline.history s) refl)) (ordered_settled g tid s outcome t f (changed_it f.timeline.history s) refl m.0 k w)
act_ordered may (HalfAborts s cs) g f m k w = ordered_half g s cs f m.same w
act_ordered may (BeginsAfters start blocks) g f m k w = record {
  ai_order = order_renewed start blocks f.ai;
  bi_order = w.bi_order;
  ai = λ on. journal_new g start blocks f.ai f.timeline.history.live (still f m);
  bi = w.bi;
  bi_found = w.bi_found;
  since = w.since;
  saved = save_renewed g start blocks f.ai f.save w.saved;
}
act_ordered may EndsAfters g f m k w = record {
  ai_order = order_ended f.ai w.ai_order;
  bi_order = w.bi_order;
  ai = λ on. (let no : ⊥ = cc in absurd no);
  bi = w.bi;
  bi_found = w.bi_found;
  since = w.since;
  saved = save_ended g f.ai f.save w.saved;
}
act_ordered may (BeginsBefores start blocks) g f m k w = record {
  ai_order = w.ai_order;
  bi_order = order_renewed start blocks f.bi;
  ai = w.ai;
  bi = λ on. journal_new g start blocks f.bi f.timeline.history.live (still f m);
  bi_found = λ on s u. ap befores (sym (still f m s));
  since = omega arith;
  saved = w.saved;
}
act_ordered may EndsBefores g f m k w = record {
  ai_order = w.ai_order;
  bi_order = order_ended f.bi w.bi_order;
  ai = w.ai;
  bi = λ on. (let no : ⊥ = cc in absurd no);
  bi_found = λ on. (let no : ⊥ = cc in absurd no);
  since = w.since;
  saved = w.saved;
}
act_ordered may (Saves start buckets) g f m k w = record {
  ai_order = w.ai_order;
  bi_order = w.bi_order;
  ai = w.ai;
  bi = w.bi;
  bi_found = w.bi_found;
  since = w.since;
  saved = record { moment = omega arith; position = omega arith; place = λ on cov. record { newer = []; older = f.ai.entries; split = refl; at = w.ai_order.end on } };
}
act_ordered may (Recovers x) g f m k w = record {
  ai_order = order_again f.ai f.ai.on refl w.ai_order;
  bi_order = order_again f.bi f.bi.on refl w.bi_order;
  ai = journal_again g f.ai f.timeline.history.live f.ai.on refl (still f m);
  bi = journal_again g f.bi f.timeline.history.live f.bi.on refl (still f m);
  bi_found = found_again f.bi f.timeline.history.live f.bi.on refl (still f m);
  since = since_again f.bi.on g f.bi_since w.since;
  saved = save_again g f.ai f.save f.ai.on refl w.saved;
}

-- What a run finds, and what it makes.

save_found : (waits : Id → Bool) (g : ℕ) (f : FileState) (save : Option Save) → f.save ≡ save → IsLawful waits g f → SaveStands g f.ai save
save_found waits g f None e w = tt
save_found waits g f (Some v) e w = w.saved v e

pub found_ordered : (waits : Id → Bool) (g : ℕ) (f : FileState) → IsLawful waits g f → Ordered g f
found_ordered waits g f w = record {
  ai_order = w.ai_order;
  bi_order = w.bi_order;
  ai = λ on. record { room = w.ai_room on; branches = w.ai_branches on; keys = w.ai_keys on };
  bi = λ on. record { room = w.bi_room on; branches = w.bi_branches on; keys = λ s u. ap keys_of (w.bi_found on s u) ∙ keys_befores (changes_by s f.timeline.history.live) };
  bi_found = w.bi_found;
  since = w.begun;
  saved = save_found waits g f f.save refl w;
}

no_images_order : IsInOrder no_images
no_images_order = record { places = tt; within = omega arith; end = λ on. (let no : ⊥ = cc in absurd no); bare = λ off. (refl, refl, refl) }

pub created_ordered : (g : ℕ) (past : ℕ → Records) → Ordered g (created g past)
created_ordered g past = record {
  ai_order = no_images_order;
  bi_order = no_images_order;
  ai = λ on. (let no : ⊥ = cc in absurd no);
  bi = λ on. (let no : ⊥ = cc in absurd no);
  bi_found = λ on. (let no : ⊥ = cc in absurd no);
  since = omega arith;
  saved = tt;
}
