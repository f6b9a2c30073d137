-- The calls on an indexed file, as those on a map from keys to records.
use Rattle.std.proofs.Common.{◌≡◌, ◌≤◌, ℕ, Bool, true, List, [], Option, Some, None, IfSome, IsSomeAnd, option_map, refl, sym, ap, subst, ◌∙◌, arith}
use Rattle.file_base.specs.declared.head.FileHead.{FileHead}
use Rattle.vms_base.specs.vms_model.Keys.{Key, Number, Text, End}
use Rattle.indexed_file.specs.change_set.Files.{AgreesOn, SameFile}
use Rattle.indexed_file.specs.change_set.Maps.{set_key, empty_map, IsNext, EndsAfter, is_after, key_before}
use Rattle.indexed_file.specs.records_model.Slots.{Slot, lookup, room_of, size_of}
use Rattle.indexed_file.specs.tree_model.Layouts.{Layout, slots_along, used_of}
use Rattle.indexed_file.specs.tree_model.Setting.{layout_set, layout_back}
use Rattle.index_blocks.specs.index_bucket.Entries.{sizes_of}
use Rattle.index_blocks.specs.Levels.{HasRoot}
use Rattle.indexed_file.specs.Behind.{first_behind, IsFound}
use Rattle.indexed_file.specs.Chain.{HasKeys}
use Rattle.indexed_file.proofs.MakeLaws as slots
use Rattle.indexed_file.proofs.ImplLaws.{First, first_is, none_behind, after_text}
use Rattle.indexed_tree.specs.Backs.{HasSetBack}
use Rattle.indexed_tree.specs.Files.{IsTreeHead, map_of, room_at, Restores, used_after, first_layout_of, IsNewHead, KeySet, KeyBack}
use Rattle.indexed_tree.specs.Laws.{IsBlank}
use Rattle.indexed_tree.specs.Maps.{all_slots, TakesKey, KeyIsSet}
use Rattle.indexed_tree.specs.Puts.{SameButIndex}
use Rattle.indexed_tree.specs.Rooted.{layout_in, IsRooted}
use Rattle.indexed_tree.proofs.LocalLaws.{rooted_stays, blank_is_rooted}
use Rattle.indexed_tree.proofs.RootLaws.{layout_tells}

abbrev Told : Type 0
Told = Option (List (List ℕ))

-- a key that was set, where the blocks are told
module _ (h h' : FileHead) (held : Key → Bool) (k : List ℕ) (v : Option (List ℕ)) (some : 1 ≤ h'.levels) (b : List (List ℕ)) where
  abbrev Set : List (List ℕ) → Type 0
  Set = KeyIsSet h h' (λ t. held (Text t)) k v b

  at_key : (c : List (List ℕ)) → Set c → (key : Key) → map_of h' c key ≡ set_key (Text k) v (map_of h b) key
  at_key c set (Text q) = set.sets q
  at_key c set (Number n) = refl
  at_key c set End = refl

  room_kept : (c : List (List ℕ)) → Set c → (other : Key) → held other ≡ true → room_at h b other ≤ room_at h' c other
  room_kept c set (Text q) is_held = set.rooms q is_held
  room_kept c set (Number n) is_held = omega arith
  room_kept c set End is_held = omega arith

  map_now : (o : Told) → IsSomeAnd o Set → option_map (map_of h') o ≡ Some (set_key (Text k) v (map_of h b))
  map_now None set = absurd set
  map_now (Some c) set = ap Some (λ i key. at_key c set key i)

  valid_now : (o : Told) → IsSomeAnd o Set → IfSome o (IsRooted h')
  valid_now None set = tt
  valid_now (Some c) set = set.file.rooted

  used_now : (o : Told) → IsSomeAnd o Set → h'.used ≡ used_after h b held (Text k) v
  used_now None set = absurd set
  used_now (Some c) set = sym (layout_tells h' c some set.file.rooted).used ∙ ap used_of set.file.layout

  rooms_now : (o : Told) → IsSomeAnd o Set → IfSome o (λ a. (other : Key) → held other ≡ true → room_at h b other ≤ room_at h' a other)
  rooms_now None set = tt
  rooms_now (Some c) set = room_kept c set

  layout_now : (o : Told) → IsSomeAnd o Set → option_map (layout_in h') o ≡ Some (layout_set (sizes_of h) held (Text k) v (layout_in h b))
  layout_now None set = absurd set
  layout_now (Some c) set = ap Some set.file.layout

  back_now : (o : Told) → IsSomeAnd o Set → IfSome o (λ a. Restores h' a (Text k) (map_of h b (Text k)))
  back_now None set = tt
  back_now (Some c) set = set.back

pub set_told : (h h' : FileHead) (held : Key → Bool) (k : List ℕ) (v : Option (List ℕ)) (told now : Told) → 1 ≤ h'.levels → IfSome told (λ old. IsRooted h old → TakesKey h old k v → IsSomeAnd now (KeyIsSet h h' (λ t. held (Text t)) k v old))
    → KeySet h h' held (Text k) v told now
set_told h h' held k v None now some set = record { map_is = tt; valid = tt; used = tt; rooms = tt; layout = tt; back = tt }
set_told h h' held k v (Some b) now some set = record {
  map_is = λ is takes. map_now h h' held k v some b now (set is takes);
  valid = λ is takes. valid_now h h' held k v some b now (set is takes);
  used = λ is takes. used_now h h' held k v some b now (set is takes);
  rooms = λ is takes. rooms_now h h' held k v some b now (set is takes);
  layout = λ is takes. layout_now h h' held k v some b now (set is takes);
  back = λ is takes. back_now h h' held k v some b now (set is takes);
}

-- and one that was set back
module _ (h : FileHead) (k : List ℕ) (v : Option (List ℕ)) (b : List (List ℕ)) where
  abbrev Back : List (List ℕ) → Type 0
  Back = HasSetBack h k v b

  back_key : (c : List (List ℕ)) → Back c → (key : Key) → map_of h c key ≡ set_key (Text k) v (map_of h b) key
  back_key c set (Text q) = set.sets q
  back_key c set (Number n) = refl
  back_key c set End = refl

  room_back : (c : List (List ℕ)) → Back c → (other : Key) → room_at h b other ≤ room_at h c other
  room_back c set (Text q) = set.rooms q
  room_back c set (Number n) = omega arith
  room_back c set End = omega arith

  map_back : (o : Told) → IsSomeAnd o Back → option_map (map_of h) o ≡ Some (set_key (Text k) v (map_of h b))
  map_back None set = absurd set
  map_back (Some c) set = ap Some (λ i key. back_key c set key i)

  valid_back : (o : Told) → IsSomeAnd o Back → IfSome o (IsRooted h)
  valid_back None set = tt
  valid_back (Some c) set = set.rooted

  rooms_back : (o : Told) → IsSomeAnd o Back → IfSome o (λ a. (other : Key) → room_at h b other ≤ room_at h a other)
  rooms_back None set = tt
  rooms_back (Some c) set = room_back c set

  layout_restored : (o : Told) → IsSomeAnd o Back → option_map (layout_in h) o ≡ Some (layout_back (Text k) v (layout_in h b))
  layout_restored None set = absurd set
  layout_restored (Some c) set = ap Some set.layout

pub back_told : (h : FileHead) (k : List ℕ) (v : Option (List ℕ)) (told now : Told) → IfSome told (λ old. IsRooted h old → size_of v ≤ room_of (all_slots h old) k → IsSomeAnd now (HasSetBack h k v old)) → KeyBack h (Text k) v told now
back_told h k v None now set = record { map_is = tt; valid = tt; rooms = tt; layout = tt }
back_told h k v (Some b) now set = record {
  map_is = λ is room. map_back h k v b now (set is room);
  valid = λ is room. valid_back h k v b now (set is room);
  rooms = λ is room. rooms_back h k v b now (set is room);
  layout = λ is room. layout_restored h k v b now (set is room);
}

-- A file rests on its extent alone.

pub slots_stay : (h : FileHead) (a b : List (List ℕ)) → IsTreeHead h → AgreesOn h a b → IsRooted h a → all_slots h b ≡ all_slots h a
slots_stay h a b form agrees is = ap (λ (l : Layout). slots_along l.leaves) (rooted_stays h a b form.root.root form.root.within agrees is).layout

pub map_stays : (h : FileHead) (a b : List (List ℕ)) → IsTreeHead h → AgreesOn h a b → IsRooted h a → map_of h a ≡ map_of h b
map_stays h a b form agrees is = λ i key. at_key key i
  where
    at_key : (key : Key) → map_of h a key ≡ map_of h b key
    at_key (Text k) = ap (λ (ss : List Slot). lookup ss k) (sym (slots_stay h a b form agrees is))
    at_key (Number n) = refl
    at_key End = refl

pub valid_stays : (h : FileHead) (a b : List (List ℕ)) → IsTreeHead h → AgreesOn h a b → IsRooted h a → IsRooted h b
valid_stays h a b form agrees is = (rooted_stays h a b form.root.root form.root.within agrees is).rooted

pub rooms_stay : (h : FileHead) (a b : List (List ℕ)) → IsTreeHead h → AgreesOn h a b → IsRooted h a → (key : Key) → room_at h a key ≡ room_at h b key
rooms_stay h a b form agrees is (Text k) = ap (λ (ss : List Slot). room_of ss k) (sym (slots_stay h a b form agrees is))
rooms_stay h a b form agrees is (Number n) = refl
rooms_stay h a b form agrees is End = refl

pub layout_stays : (h : FileHead) (a b : List (List ℕ)) → IsTreeHead h → AgreesOn h a b → IsRooted h a → layout_in h a ≡ layout_in h b
layout_stays h a b form agrees is = sym (rooted_stays h a b form.root.root form.root.within agrees is).layout

-- The next key.

next_text : (h : FileHead) (b : List (List ℕ)) (after : Option (List ℕ)) (k bytes : List ℕ) → First after (all_slots h b) k bytes → IsNext (map_of h b) (option_map Text after) (Text k) bytes
next_text h b after k bytes first = record { has = first.has; behind = after_text after k ∙ first.behind; least = λ other is_it before. at_key other is_it before }
  where
    at_key : (other : Key) → is_after (option_map Text after) other ≡ true → key_before other (Text k) ≡ true → map_of h b other ≡ None
    at_key (Number n) is_it before = refl
    at_key (Text q) is_it before = first.least q (sym (after_text after q) ∙ is_it) before
    at_key End is_it before = refl

pub next_told : (told : Told) (h : FileHead) (after : Option (List ℕ)) (k bytes : List ℕ) → IfSome told (λ b. IsRooted h b → IsFound (first_behind after (all_slots h b)) k bytes)
    → IfSome told (λ b. IsRooted h b → IsNext (map_of h b) (option_map Text after) (Text k) bytes)
next_told None h after k bytes found = tt
next_told (Some b) h after k bytes found = λ is. next_text h b after k bytes (first_is after (all_slots h b) k bytes is.tree.ordered (found is))

ends_text : (h : FileHead) (b : List (List ℕ)) (after : Option (List ℕ)) → first_behind after (all_slots h b) ≡ None → EndsAfter (map_of h b) (option_map Text after)
ends_text h b after none = λ other is_it. at_key other is_it
  where
    at_key : (other : Key) → is_after (option_map Text after) other ≡ true → map_of h b other ≡ None
    at_key (Number n) is_it = refl
    at_key (Text q) is_it = none_behind after (all_slots h b) none q (sym (after_text after q) ∙ is_it)
    at_key End is_it = refl

pub ends_told : (told : Told) (h : FileHead) (after : Option (List ℕ)) → IfSome told (λ b. IsRooted h b → first_behind after (all_slots h b) ≡ None) → IfSome told (λ b. IsRooted h b → EndsAfter (map_of h b) (option_map Text after))
ends_told None h after none = tt
ends_told (Some b) h after none = λ is. ends_text h b after (none is)

-- behind a number all texts come
next_number : (h : FileHead) (b : List (List ℕ)) (n : ℕ) (key : Key) (bytes : List ℕ) → IsNext (map_of h b) None key bytes → IsNext (map_of h b) (Some (Number n)) key bytes
next_number h b n (Text q) bytes next = record { has = next.has; behind = refl; least = λ other is_it before. next.least other refl before }
next_number h b n (Number m) bytes next = let wrong = next.has in cc
next_number h b n End bytes next = let wrong = next.has in cc

pub number_told : (told : Told) (h : FileHead) (n : ℕ) (key : Key) (bytes : List ℕ) → IfSome told (λ b. IsRooted h b → IsNext (map_of h b) None key bytes) → IfSome told (λ b. IsRooted h b → IsNext (map_of h b) (Some (Number n)) key bytes)
number_told None h n key bytes next = tt
number_told (Some b) h n key bytes next = λ is. next_number h b n key bytes (next is)

pub number_ends : (told : Told) (h : FileHead) (n : ℕ) → IfSome told (λ b. IsRooted h b → EndsAfter (map_of h b) None) → IfSome told (λ b. IsRooted h b → EndsAfter (map_of h b) (Some (Number n)))
number_ends None h n ends = tt
number_ends (Some b) h n ends = λ is other is_it. ends is other refl

ends_end : (h : FileHead) (b : List (List ℕ)) → EndsAfter (map_of h b) (Some End)
ends_end h b = λ other is_it. at_key other is_it
  where
    at_key : (other : Key) → is_after (Some End) other ≡ true → map_of h b other ≡ None
    at_key (Number n) is_it = refl
    at_key (Text q) is_it = cc
    at_key End is_it = refl

pub end_told : (told : Told) (h : FileHead) → IfSome told (λ b. IsRooted h b → EndsAfter (map_of h b) (Some End))
end_told None h = tt
end_told (Some b) h = λ is. ends_end h b

-- A new file.

new_map : (h : FileHead) (b : List (List ℕ)) → IsBlank h b → map_of h b ≡ empty_map
new_map h b blank = λ i key. at_key key i
  where
    none : all_slots h b ≡ []
    none = ap (λ (l : Layout). slots_along l.leaves) (blank_is_rooted h b blank).layout

    at_key : (key : Key) → map_of h b key ≡ empty_map key
    at_key (Number n) = refl
    at_key (Text q) = ap (λ (ss : List Slot). lookup ss q) none
    at_key End = refl

-- what is told of a new file
pub record MadeTold (h : FileHead) (now : Told) : Type 0 where
  pub map_is : IfSome now (λ b. map_of h b ≡ empty_map)
  pub valid : IfSome now (IsRooted h)
  pub layout : IfSome now (λ b. layout_in h b ≡ first_layout_of h)

pub made_told : (now : Told) (h : FileHead) → IsNewHead h → IfSome now (slots.IsBlank h) → MadeTold h now
made_told None h new made = record { map_is = tt; valid = tt; layout = tt }
made_told (Some b) h new made =
    let blank : IsBlank h b = record { levels = new.levels; root = new.root; used = new.used; holds = made.holds } in
    let is = blank_is_rooted h b blank in
    record { map_is = new_map h b blank; valid = is.rooted; layout = is.layout }

-- The head.

pub same_file : (h h' : FileHead) → SameButIndex h h' → SameFile h h'
same_file h h' same = record { is = same.is ∙ (λ i. record h { used = h'.used; root = h'.root; levels = h'.levels; count = sym (ap (λ (x : FileHead). x.count) same.is) i }) }

pub tree_head : (h h' : FileHead) → IsTreeHead h → SameButIndex h h' → HasRoot h' → IsTreeHead h'
tree_head h h' form same root = record {
  organization = ap (λ (x : FileHead). x.organization) same.is ∙ form.organization;
  root = root;
  keys = subst HasKeys (sym same.is) (record { key = form.keys.key; short = form.keys.short; holds = form.keys.holds });
  count = ap (λ (x : FileHead). x.count) same.is ∙ form.count;
}
