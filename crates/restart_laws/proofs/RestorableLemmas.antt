-- What the other branches changed, once one was undone.
use Rattle.std.proofs.Common.{◌≡◌, ℕ, suc, ◌≤◌, Bool, true, false, cond, List, [], ◌∷◌, map, Option, Some, None, refl, sym, ◌∙◌, ap, subst, inl, inr, arith}
use Rattle.std.specs.Option.{option_map}
use Rattle.std.specs.List.{AllByRecursion}
use Rattle.std.proofs.lemmas.Bool.{false_from_ne_true}
use Rattle.file_base.specs.declared.head.FileHead.{FileHead}
use Rattle.file_base.specs.declared.head.Organization.{Organization as Kept}
use Rattle.file_base.specs.declared.head.Organization.TheVariants.{Sequential, Relative, Indexed}
use Rattle.directory_model.specs.change_set.Files.{SameFile}
use Rattle.directory_model.specs.record_files.Any as any
use Rattle.directory_model.specs.relative_file.Cells as relative
use Rattle.directory_model.specs.indexed_file.Chain as leaf
use Rattle.directory_model.specs.indexed_tree.Files as indexed
use Rattle.directory_model.specs.indexed_tree.Maps.{all_slots}
use Rattle.directory_model.specs.indexed_tree.Rooted.{layout_in}
use Rattle.directory_model.specs.seq_file.Layout as sequential
use Rattle.directory_model.proofs.seq_file.FileLaws.{used_is}
use Rattle.vms_model.specs.Ids.{Id}
use Rattle.vms_model.specs.Keys.{Key, Number, Text, End}
use Rattle.index_model.specs.records_model.Records.{Change}
use Rattle.index_model.specs.records_model.Slots.{Slot, same_bytes, slot_at, room_in, room_of, size_of, with_value}
use Rattle.index_model.specs.tree_model.Layouts.{Layout, slots_along}
use Rattle.index_model.specs.records_model.History.{LiveChanges, same_id, changes_key, changes_by, settled_with, without}
use Rattle.index_model.proofs.records_model.SlotLaws.{if_true, if_false}
use Rattle.unit_laws.specs.Units.{Map, earliest_before, with_before_images, is_changed, Apart, HasImages, Represents, moves_end, has_changes, OneMovesEnd}
use Rattle.unit_laws.specs.Layouts.{slot_restored, layout_restored}
use Rattle.unit_laws.proofs.Tests.{both_ways, or_first, or_second}
use Rattle.unit_laws.proofs.LiveLemmas.{clash, left_so, no_such}
use Rattle.unit_laws.proofs.RestoredLemmas.{changed_of}
use Rattle.directory_model.specs.sequence_laws.Undoing.{GoesBack}
use Rattle.directory_model.proofs.sequence_laws.SequenceLemmas.{same_records}
use Rattle.directory_model.proofs.sequence_laws.OthersLemmas.{other_goes_back}
use Rattle.directory_model.proofs.sequence_laws.ChangeLemmas.{nothing_goes_back}
use Rattle.world_laws.specs.run_model.World.{File, Organization, Settlement, settled_file, OneMovesEndOf}
use Rattle.directory_model.specs.Files.{organized_by, head_at, file_at}
use Rattle.directory_model.specs.Restoring.{CanRestore, CanRestoreBy, IsLeft, IsPlaceLeft, IsRestored, IsPlaceRestored, IsPlaceRestorable}
use Rattle.directory_model.proofs.Acts.{settled_directory}
use Rattle.directory_model.proofs.Moving.{same_organization}
use Rattle.directory_model.proofs.Places.{file_mapped}
use Rattle.restart_laws.specs.Falls.{OthersStayRestorable, UndoesLeave}
use Rattle.restart_laws.proofs.UndoLemmas.{key_kept, all_restored, undone_leaves}

-- the unsettled changes of a file once a branch is settled
pub live_settled : (file : File) (s : Settlement) → AllByRecursion (λ (l : LiveChanges). has_changes l.changes ≡ true) file.history.live → (settled_file s file).history.live ≡ without s.serial file.history.live
live_settled file s some = go (changes_by s.serial file.history.live) refl
  where
    go : (cs : List Change) → changes_by s.serial file.history.live ≡ cs → (settled_with s.serial s.outcome s.moment cs file.history).live ≡ without s.serial file.history.live
    go [] none = sym (no_such s.serial file.history.live none some)
    go (c ∷ cs) is = refl

-- The keys of one of the branches are none of the others'.
pub keys_of : (s : Id) (ls : List LiveChanges) → Apart ls → AllByRecursion (λ (l : LiveChanges). (key : Key) → changes_key key (changes_by s ls) ≡ true → changes_key key l.changes ≡ false) (without s ls)
keys_of s [] apart = tt
keys_of s (l ∷ ls) apart = step (same_id s l.serial) (keys_of s ls apart.1)
  where
    each : (ks : List LiveChanges) → ((key : Key) → changes_key key l.changes ≡ true → is_changed ks key ≡ false) → AllByRecursion (λ (k : LiveChanges). (key : Key) → changes_key key l.changes ≡ true → changes_key key k.changes ≡ false) ks
    each [] h = tt
    each (k ∷ ks) h = ((λ key e. or_first _ _ (h key e)), each ks (λ key e. or_second (changes_key key k.changes) _ (h key e)))

    step : (x : Bool) → AllByRecursion (λ (k : LiveChanges). (key : Key) → changes_key key (changes_by s ls) ≡ true → changes_key key k.changes ≡ false) (without s ls)
        → AllByRecursion (λ (k : LiveChanges). (key : Key) → changes_key key (cond x l.changes (changes_by s ls)) ≡ true → changes_key key k.changes ≡ false) (cond x ls (l ∷ without s ls))
    step true later = each ls apart.0
    step false later = ((λ key e. false_from_ne_true _ (λ (mine : changes_key key l.changes ≡ true). clash (is_changed ls key) (changed_of s ls key e) (apart.0 key mine))), later)

-- Where one of them moves the end, the others do not.
ends_of : (s : Id) (ls : List LiveChanges) → OneMovesEnd ls → AllByRecursion (λ (l : LiveChanges). moves_end (changes_by s ls) ≡ true → moves_end l.changes ≡ false) (without s ls)
ends_of s [] one = tt
ends_of s (l ∷ ls) one = step (same_id s l.serial) (ends_of s ls one.1)
  where
    each : (ks : List LiveChanges) → (moves_end l.changes ≡ true → AllByRecursion (λ (k : LiveChanges). moves_end k.changes ≡ false) ks) → AllByRecursion (λ (k : LiveChanges). moves_end l.changes ≡ true → moves_end k.changes ≡ false) ks
    each [] h = tt
    each (k ∷ ks) h = ((λ e. (h e).0), each ks (λ e. (h e).1))

    -- one that is there moves no end where this one does
    found : (ks : List LiveChanges) → AllByRecursion (λ (k : LiveChanges). moves_end k.changes ≡ false) ks → moves_end (changes_by s ks) ≡ false
    found [] h = refl
    found (k ∷ ks) h = pick (same_id s k.serial) (found ks h.1)
      where
        pick : (x : Bool) → moves_end (changes_by s ks) ≡ false → moves_end (cond x k.changes (changes_by s ks)) ≡ false
        pick true later = h.0
        pick false later = later

    step : (x : Bool) → AllByRecursion (λ (k : LiveChanges). moves_end (changes_by s ls) ≡ true → moves_end k.changes ≡ false) (without s ls)
        → AllByRecursion (λ (k : LiveChanges). moves_end (cond x l.changes (changes_by s ls)) ≡ true → moves_end k.changes ≡ false) (cond x ls (l ∷ without s ls))
    step true later = each ls one.0
    step false later = ((λ e. false_from_ne_true _ (λ (mine : moves_end l.changes ≡ true). clash (moves_end (changes_by s ls)) e (found ls (one.0 mine)))), later)

-- what holds of all branches, and of no changes, holds of the changes of one
pub of_one : (P : List Change → Type 0) (s : Id) (ls : List LiveChanges) → P [] → AllByRecursion (λ (l : LiveChanges). P l.changes) ls → P (changes_by s ls)
of_one P s [] none all = none
of_one P s (l ∷ ls) none all = pick (same_id s l.serial) (of_one P s ls none all.1)
  where
    pick : (x : Bool) → P (changes_by s ls) → P (cond x l.changes (changes_by s ls))
    pick true later = all.0
    pick false later = later

-- Rooms of slots that are restored are no less.
room_grows : (cs : List Change) (ss : List Slot) (k : List ℕ) → room_of ss k ≤ room_of (map (slot_restored cs) ss) k
room_grows cs [] k = omega arith
room_grows cs (s ∷ ss) k = elim (both_ways (same_bytes k s.key)) [
  | inl here ↦
      subst (λ (m : ℕ). m ≤ room_of (map (slot_restored cs) (s ∷ ss)) k) (sym (ap room_in (if_true (same_bytes k s.key) (Some s) (slot_at k ss) here)))
      (subst (λ (m : ℕ). s.room ≤ m) (sym (ap room_in (if_true _ (Some (slot_restored cs s)) (slot_at k (map (slot_restored cs) ss)) (ap (same_bytes k) (key_kept cs s) ∙ here)))) (grows (changes_key (Text s.key) cs)))
  | inr other ↦
      subst (λ (m : ℕ). m ≤ room_of (map (slot_restored cs) (s ∷ ss)) k) (sym (ap room_in (if_false (same_bytes k s.key) (Some s) (slot_at k ss) other)))
      (subst (λ (m : ℕ). room_of ss k ≤ m) (sym (ap room_in (if_false _ (Some (slot_restored cs s)) (slot_at k (map (slot_restored cs) ss)) (ap (same_bytes k) (key_kept cs s) ∙ other)))) (room_grows cs ss k))
]
  where
    grows : (x : Bool) → s.room ≤ (cond x (with_value (earliest_before cs (Text s.key)) s) s).room
    grows true = omega arith
    grows false = omega arith

room_after : (h new : FileHead) (a b : List (List ℕ)) (cs : List Change) (key : Key) → layout_in new b ≡ layout_restored cs (layout_in h a) → indexed.room_at h a key ≤ indexed.room_at new b key
room_after h new a b cs (Text k) layout =
    let now : indexed.room_at new b (Text k) ≡ room_of (map (slot_restored cs) (all_slots h a)) k =
    ap (λ (l : Layout). room_of (slots_along l.leaves) k) layout ∙ ap (λ (ss : List Slot). room_of ss k) (all_restored cs (layout_in h a).leaves) in
    let more = room_grows cs (all_slots h a) k in
    omega (arith, now, more)
room_after h new a b cs (Number n) layout = omega arith
room_after h new a b cs End layout = omega arith

-- The same file's head takes the same.
pub goes_same : (h new : FileHead) (cs : List Change) (now back : List (List ℕ)) → SameFile h new → GoesBack h cs now back → GoesBack new cs now back
goes_same h new cs now back same g = subst (λ (x : FileHead). GoesBack x cs now back) (sym same.is) (record { restored = g.restored; own = g.own; whole = g.whole; same = g.same; records = g.records; fits = g.fits })

-- nothing has to go back where nothing was changed
pub goes_nowhere : (h : FileHead) (a : List (List ℕ)) → sequential.IsSequential h → sequential.IsLaidOut h a → GoesBack h [] (sequential.records_in h a) (sequential.records_in h a)
goes_nowhere h a form laid = nothing_goes_back h (sequential.records_in h a) laid.records (let placed = used_is h a form.one laid in omega (arith, placed, form.used))

goes_for : (h : FileHead) (a : List (List ℕ)) (s : Id) (ls : List LiveChanges) → sequential.IsSequential h → sequential.IsLaidOut h a → AllByRecursion (λ (l : LiveChanges). CanRestoreBy Sequential h a l.changes) ls → CanRestoreBy Sequential h a (changes_by s ls)
goes_for h a s ls form laid can = of_one (CanRestoreBy Sequential h a) s ls (sequential.records_in h a, goes_nowhere h a form laid) can

-- What is wanted of one of the other branches.
record Other (o : Kept) (h : FileHead) (a : List (List ℕ)) (m : Map) (cs : List Change) (l : LiveChanges) : Type 0 where
  can : CanRestoreBy o h a l.changes
  images : HasImages m l.changes
  keys : (key : Key) → changes_key key cs ≡ true → changes_key key l.changes ≡ false
  ends : o ≡ Sequential → moves_end cs ≡ true → moves_end l.changes ≡ false

pub suits_relative_same : (h new : FileHead) (key : Key) (v : Option (List ℕ)) → SameFile h new → relative.Suits h key v → relative.Suits new key v
suits_relative_same h new key v same suits = subst (λ (x : FileHead). relative.Suits x key v) (sym same.is) (as_is key suits)
  where
    as_is : (key : Key) → relative.Suits h key v → relative.Suits (record h { used = new.used; root = new.root; levels = new.levels; count = new.count }) key v
    as_is (Number n) suits = suits
    as_is (Text t) suits = suits
    as_is End suits = suits

pub suits_indexed_same : (h new : FileHead) (key : Key) (v : Option (List ℕ)) → SameFile h new → leaf.Suits h key v → leaf.Suits new key v
suits_indexed_same h new key v same suits = subst (λ (x : FileHead). leaf.Suits x key v) (sym same.is) (as_is key suits)
  where
    as_is : (key : Key) → leaf.Suits h key v → leaf.Suits (record h { used = new.used; root = new.root; levels = new.levels; count = new.count }) key v
    as_is (Number n) suits = suits
    as_is (Text t) suits = record { size = suits.size; has = suits.has; most = suits.most }
    as_is End suits = suits

relative_same : (h new : FileHead) (cs ds : List Change) → SameFile h new → AllByRecursion (λ (c : Change). relative.Suits h c.key (earliest_before ds c.key)) cs → AllByRecursion (λ (c : Change). relative.Suits new c.key (earliest_before ds c.key)) cs
relative_same h new [] ds same all = tt
relative_same h new (c ∷ cs) ds same all = (suits_relative_same h new c.key (earliest_before ds c.key) same all.0, relative_same h new cs ds same all.1)

indexed_same : (h new : FileHead) (a b : List (List ℕ)) (back cs ds : List Change) → SameFile h new → layout_in new b ≡ layout_restored back (layout_in h a)
    → AllByRecursion (λ (c : Change). leaf.Suits h c.key (earliest_before ds c.key) × (size_of (earliest_before ds c.key) ≤ indexed.room_at h a c.key)) cs
    → AllByRecursion (λ (c : Change). leaf.Suits new c.key (earliest_before ds c.key) × (size_of (earliest_before ds c.key) ≤ indexed.room_at new b c.key)) cs
indexed_same h new a b back [] ds same layout all = tt
indexed_same h new a b back (c ∷ cs) ds same layout all = (
  (suits_indexed_same h new c.key (earliest_before ds c.key) same all.0.0, (let room = room_after h new a b back c.key layout in let fits = all.0.1 in omega (arith, room, fits))),
  indexed_same h new a b back cs ds same layout all.1,
)

-- One of the other branches can be restored.
other_can : (o : Kept) (h new : FileHead) (a b : List (List ℕ)) (cs : List Change) (l : LiveChanges) → SameFile h new → any.FormBy o h → any.LaidOutBy o h a → any.layout_by o new b ≡ layout_restored cs (any.layout_by o h a) → any.map_by o new b ≡ with_before_images cs (any.map_by o h a)
    → CanRestoreBy o h a cs → HasImages (any.map_by o h a) cs → Other o h a (any.map_by o h a) cs l → CanRestoreBy o new b l.changes
other_can Relative h new a b cs l same form laid layout maps mine images it = relative_same h new l.changes l.changes same it.can
other_can Indexed h new a b cs l same form laid layout maps mine images it = indexed_same h new a b cs l.changes l.changes same layout it.can
other_can Sequential h new a b cs l same form laid layout maps mine images it =
    let goes = other_goes_back h cs l.changes (sequential.records_in h a) mine.0 it.can.0 mine.1 it.can.1 images it.images it.keys (it.ends refl) in
    (goes.0, goes_same h new l.changes (sequential.records_in new b) goes.0 same (subst (λ (rs : List (List ℕ)). GoesBack h l.changes rs goes.0) (sym now) goes.1))
  where
    now : sequential.records_in new b ≡ mine.0
    now = same_records (sequential.records_in new b) mine.0 (λ i. ap (λ (m : Map). m (Number (suc i))) maps ∙ sym (mine.1.restored (suc i) (omega arith)))

others_can : (o : Kept) (h new : FileHead) (a b : List (List ℕ)) (cs : List Change) (ls : List LiveChanges) → SameFile h new → any.FormBy o h → any.LaidOutBy o h a → any.layout_by o new b ≡ layout_restored cs (any.layout_by o h a) → any.map_by o new b ≡ with_before_images cs (any.map_by o h a)
    → CanRestoreBy o h a cs → HasImages (any.map_by o h a) cs → AllByRecursion (Other o h a (any.map_by o h a) cs) ls → AllByRecursion (λ (l : LiveChanges). CanRestoreBy o new b l.changes) ls
others_can o h new a b cs [] same form laid layout maps mine images all = tt
others_can o h new a b cs (l ∷ ls) same form laid layout maps mine images all = (other_can o h new a b cs l same form laid layout maps mine images all.0, others_can o h new a b cs ls same form laid layout maps mine images all.1)

-- All that is wanted of the others.
wanted : (o : Kept) (h : FileHead) (a : List (List ℕ)) (m committed : Map) (s : Id) (ls : List LiveChanges) → AllByRecursion (λ (l : LiveChanges). CanRestoreBy o h a l.changes) ls → Represents ls m committed → (o ≡ Sequential → OneMovesEnd ls) → AllByRecursion (Other o h a m (changes_by s ls)) (without s ls)
wanted o h a m committed s ls can represents one = all (without s ls) (left_so _ s ls can) (left_so (λ (l : LiveChanges). HasImages m l.changes) s ls represents.images) (keys_of s ls represents.apart) (ends o one)
  where
    ends : (p : Kept) → (p ≡ Sequential → OneMovesEnd ls) → AllByRecursion (λ (l : LiveChanges). p ≡ Sequential → moves_end (changes_by s ls) ≡ true → moves_end l.changes ≡ false) (without s ls)
    ends Sequential one = turn (without s ls) (ends_of s ls (one refl))
      where
        turn : (ks : List LiveChanges) → AllByRecursion (λ (l : LiveChanges). moves_end (changes_by s ls) ≡ true → moves_end l.changes ≡ false) ks → AllByRecursion (λ (l : LiveChanges). Sequential ≡ Sequential → moves_end (changes_by s ls) ≡ true → moves_end l.changes ≡ false) ks
        turn [] h = tt
        turn (k ∷ ks) h = ((λ is. h.0), turn ks h.1)
    ends Relative one = never (without s ls)
      where
        never : (ks : List LiveChanges) → AllByRecursion (λ (l : LiveChanges). Relative ≡ Sequential → moves_end (changes_by s ls) ≡ true → moves_end l.changes ≡ false) ks
        never [] = tt
        never (k ∷ ks) = ((λ is. let bad : ⊥ = cc in absurd bad), never ks)
    ends Indexed one = never (without s ls)
      where
        never : (ks : List LiveChanges) → AllByRecursion (λ (l : LiveChanges). Indexed ≡ Sequential → moves_end (changes_by s ls) ≡ true → moves_end l.changes ≡ false) ks
        never [] = tt
        never (k ∷ ks) = ((λ is. let bad : ⊥ = cc in absurd bad), never ks)

    all : (ks : List LiveChanges) → AllByRecursion (λ (l : LiveChanges). CanRestoreBy o h a l.changes) ks → AllByRecursion (λ (l : LiveChanges). HasImages m l.changes) ks
        → AllByRecursion (λ (l : LiveChanges). (key : Key) → changes_key key (changes_by s ls) ≡ true → changes_key key l.changes ≡ false) ks
        → AllByRecursion (λ (l : LiveChanges). o ≡ Sequential → moves_end (changes_by s ls) ≡ true → moves_end l.changes ≡ false) ks → AllByRecursion (Other o h a m (changes_by s ls)) ks
    all [] p q r t = tt
    all (k ∷ ks) p q r t = (record { can = p.0; images = q.0; keys = r.0; ends = t.0 }, all ks p.1 q.1 r.1 t.1)

-- a sequential file's head is a sequential file's in the world
end_of_head : (o : Kept) (h : FileHead) (w : Organization) (ls : List LiveChanges) → w ≡ organized_by o h → OneMovesEndOf w ls → o ≡ Sequential → OneMovesEnd ls
end_of_head Sequential h w ls is ends e = subst (λ (x : Organization). OneMovesEndOf x ls) is ends
end_of_head Relative h w ls is ends e = let bad : ⊥ = cc in absurd bad
end_of_head Indexed h w ls is ends e = let bad : ⊥ = cc in absurd bad

can_nothing : (o : Kept) (h : FileHead) (a : List (List ℕ)) → any.FormBy o h → any.LaidOutBy o h a → CanRestoreBy o h a []
can_nothing Sequential h a form laid = (sequential.records_in h a, goes_nowhere h a form laid)
can_nothing Relative h a form laid = tt
can_nothing Indexed h a form laid = tt

pub none_images : (m : Map) → HasImages m []
none_images m key ck = let never : ⊥ = cc in absurd never

restored_can : (a b : List (List ℕ)) (h new : FileHead) (file : File) (s : Settlement) → IsLeft a h file → OneMovesEndOf file.organization file.history.live → AllByRecursion (λ (l : LiveChanges). has_changes l.changes ≡ true) file.history.live → IsRestored a h (changes_by s.serial file.history.live) b new → CanRestore new b (settled_file s file).history.live
restored_can a b h new file s left ends made back =
    subst (CanRestore new b) (sym (live_settled file s made))
    (subst (λ (o : Kept). AllByRecursion (λ (l : LiveChanges). CanRestoreBy o new b l.changes) (without s.serial file.history.live)) (sym organization)
    (others_can h.organization h new a b (changes_by s.serial file.history.live) (without s.serial file.history.live) back.same left.head.form left.laid
    (subst (λ (o : Kept). any.layout_by o new b ≡ layout_restored (changes_by s.serial file.history.live) (any.layout_by h.organization h a)) organization back.layout)
    (subst (λ (o : Kept). any.map_by o new b ≡ with_before_images (changes_by s.serial file.history.live) (any.map_by h.organization h a)) organization back.map)
    (of_one (CanRestoreBy h.organization h a) s.serial file.history.live (can_nothing h.organization h a left.head.form left.laid) left.can)
    (of_one (HasImages (any.map_by h.organization h a)) s.serial file.history.live (none_images (any.map_by h.organization h a)) left.represents.images)
    (wanted h.organization h a (any.map_by h.organization h a) _ s.serial file.history.live left.can left.represents (end_of_head h.organization h file.organization file.history.live left.head.organization ends))))
  where
    organization : new.organization ≡ h.organization
    organization = same_organization h new back.same

place_can : (a b : List (List ℕ)) (f : ℕ) (o o' : Option FileHead) (p : Option File) (s : Settlement) → ((file : File) → p ≡ Some file → OneMovesEndOf file.organization file.history.live × AllByRecursion (λ (l : LiveChanges). has_changes l.changes ≡ true) file.history.live) → IsPlaceLeft a f o p → IsPlaceRestored s.serial a o p b o' → IsPlaceRestorable b o' (option_map (settled_file s) p)
place_can a b f None None None s tells left back = tt
place_can a b f None (Some new) None s tells left back = absurd back
place_can a b f None o' (Some file) s tells left back = absurd left
place_can a b f (Some h) o' None s tells left back = absurd left
place_can a b f (Some h) None (Some file) s tells left back = absurd back
place_can a b f (Some h) (Some new) (Some file) s tells left back = let t = tells file refl in restored_can a b h new file s left.0 t.0 t.1 back

pub others_stay_restorable : OthersStayRestorable
others_stay_restorable b c heads new n a moment s settles left units abort back = λ f.
    subst (λ (p : Option File). IsPlaceRestorable c (head_at new f) p) (sym (ap (λ (d : List (Option File)). file_at d f) (settled_directory n a moment s settles) ∙ file_mapped (settled_file s) n.durable.directory f))
    (place_can b c f (head_at heads f) (head_at new f) (file_at n.durable.directory f) s (λ file there. ((units.tells f file there).end, (units.tells f file there).notes.some)) (left.each f) (back.each f))

pub undoes_leave : UndoesLeave
undoes_leave b c heads new n s left units abort back = undone_leaves b c heads new n s left units abort back (λ f.
    place_can b c f (head_at heads f) (head_at new f) (file_at n.durable.directory f) s (λ file there. ((units.tells f file there).end, (units.tells f file there).notes.some)) (left.each f) (back.each f))
