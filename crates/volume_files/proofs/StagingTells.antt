-- What a call of a file staged is what the file has once its directory block is staged too.
use Rattle.std.proofs.Common.{◌≡◌, ℕ, ◌+◌, ◌-◌, ◌*◌, ◌<◌, ◌≤◌, Bool, true, List, [], Option, Some, None, IfSome, option_map, refl, sym, ap, subst, ◌∙◌, arith}
use Rattle.std.proofs.lemmas.Nat.{mul-le}
use Rattle.careful_write.specs.State.{EachWhole, StoreState}
use Rattle.file_base.specs.declared.head.FileHead.{FileHead}
use Rattle.file_base.specs.declared.head.Organization.{Organization}
use Rattle.file_base.specs.declared.head.Organization.TheVariants.{Sequential, Relative, Indexed}
use Rattle.vms_base.specs.vms_model.Keys.{Key}
use Rattle.change_set.specs.tree_model.Layouts.{no_layout}
use Rattle.change_set.specs.tree_model.Setting.{layout_back, layout_set}
use Rattle.change_set.specs.Files.{AgreesOn, SameFile, in_extent, sizes_of}
use Rattle.change_set.specs.Maps.{set_key}
use Rattle.record_files.specs.seq_file.Records.{cut_from}
use Rattle.record_files.specs.Any as any
use Rattle.record_files.specs.Any.{FormBy, IsLaidOut, Restores, Takes, layout_by, layout_of, map_of, room_at}
use Rattle.record_files.specs.Local.{layout_local_law, local_law, room_local_law, valid_local_law}
use Rattle.volume_files.specs.Staging.{CutsFile, IsWithin, SetsBack, SetsKey}
use Rattle.volume_files.proofs.RestoreLemmas.{restores_local}
use Rattle.volume_files.proofs.StagingLemmas.{Moved, agrees_new, moved_told}

-- How many blocks a set stages.

levels_by : (o : Organization) (h : FileHead) → FormBy o h → h.levels ≤ 12
levels_by Sequential h form = let e = form.levels in omega (arith, e)
levels_by Relative h form = let e = form.levels in omega (arith, e)
levels_by Indexed h form = form.root.most

pub set_few : (h : FileHead) → any.IsFile h → h.bucket ≤ 16 → (2 * h.levels + 2) * h.bucket ≤ 416
set_few h form most = mul-le (2 * h.levels + 2) h.bucket 26 16 (let e = levels_by h.organization h form in omega (arith, e)) most

-- What the calls of a file promise.

pub record SetIn (h : FileHead) (held : Key → Bool) (key : Key) (value : Option (List ℕ)) (old now : StoreState) (new : FileHead) : Type 0 where
  pub map : IfSome old.current (λ a. IsLaidOut h a → Takes h a key value → option_map (map_of new) now.current ≡ Some (set_key key value (map_of h a)))
  pub valid : IfSome old.current (λ a. IsLaidOut h a → Takes h a key value → IfSome now.current (IsLaidOut new))
  pub rooms : IfSome old.current (λ a. IsLaidOut h a → Takes h a key value → IfSome now.current (λ c. (other : Key) → held other ≡ true → room_at h a other ≤ room_at new c other))
  pub layout : IfSome old.current (λ a. IsLaidOut h a → Takes h a key value → option_map (layout_of new) now.current ≡ Some (layout_set (sizes_of h) held key value (layout_of h a)))
  pub back : IfSome old.current (λ a. IsLaidOut h a → Takes h a key value → IfSome now.current (λ c. Restores new c key (map_of h a key)))

pub record BackIn (h : FileHead) (key : Key) (value : Option (List ℕ)) (old now : StoreState) (new : FileHead) : Type 0 where
  pub map : IfSome old.current (λ a. IsLaidOut h a → Restores h a key value → option_map (map_of new) now.current ≡ Some (set_key key value (map_of h a)))
  pub valid : IfSome old.current (λ a. IsLaidOut h a → Restores h a key value → IfSome now.current (IsLaidOut new))
  pub rooms : IfSome old.current (λ a. IsLaidOut h a → Restores h a key value → IfSome now.current (λ c. (other : Key) → room_at h a other ≤ room_at new c other))
  pub layout : IfSome old.current (λ a. IsLaidOut h a → Restores h a key value → option_map (layout_of new) now.current ≡ Some (layout_back key value (layout_of h a)))

pub record CutIn (h : FileHead) (from : ℕ) (old now : StoreState) (new : FileHead) : Type 0 where
  pub map : IfSome old.current (λ a. IsLaidOut h a → option_map (map_of new) now.current ≡ Some (cut_from from (map_of h a)))
  pub valid : IfSome old.current (λ a. IsLaidOut h a → IfSome now.current (IsLaidOut new))

-- an answer of a told content
pub record Gives {A : Type 0} (f : List (List ℕ) → A) (now : Option (List (List ℕ))) (y : A) : Type 0 where
  pub content : List (List ℕ)
  pub told : now ≡ Some content
  pub is : f content ≡ y

pub gives : {A : Type 0} (f : List (List ℕ) → A) (now : Option (List (List ℕ))) (y : A) → option_map f now ≡ Some y → Gives f now y
gives f None y e = let no_way : ⊥ = cc in absurd no_way
gives f (Some c) y e = record { content = c; told = refl; is = cc }

if_told : {A : Type 0} (o : Option A) (P : A → Type 0) (a : A) → o ≡ Some a → IfSome o P → P a
if_told o P a told f = subst (λ x. IfSome x P) told f

given_at : {A : Type 0} (f : List (List ℕ) → A) (now : Option (List (List ℕ))) (c : List (List ℕ)) (y : A) → now ≡ Some c → option_map f now ≡ Some y → f c ≡ y
given_at f now c y told e = let same : Some (f c) ≡ Some y = sym (ap (option_map f) told) ∙ e in cc

module _ (f : ℕ) (h new : FileHead) (old now then : StoreState) (below : f < 64) (behind : (n : ℕ) → in_extent h n ≡ true → 66 ≤ n) (same : SameFile h new) (form : any.IsFile new) (moved : Moved f new now then) where
  -- each block of the content that is told then has 512 bytes
  told_whole : (b : List (List ℕ)) → then.current ≡ Some b → IfSome then.current EachWhole → EachWhole b
  told_whole b told each = subst (λ o. IfSome o EachWhole) told each

  -- what a content has that agrees with the staged one on the file, where that is laid out
  record Stands (c b : List (List ℕ)) : Type 0 where
    pub laid : IsLaidOut new b
    pub map : map_of new b ≡ map_of new c
    pub layout : layout_of new b ≡ layout_of new c
    pub back : (key : Key) (value : Option (List ℕ)) → Restores new c key value → Restores new b key value
    pub rooms : (key : Key) → room_at new c key ≡ room_at new b key

  stands : (c b : List (List ℕ)) → AgreesOn h c b → IsLaidOut new c → Stands c b
  stands c b agrees laid =
      let on = agrees_new h new c b same agrees in
      record {
        laid = valid_local_law new c b form on laid;
        map = sym (local_law new c b form on laid);
        layout = sym (layout_local_law new c b form on laid);
        back = restores_local new c b form on laid;
        rooms = room_local_law new c b form on laid;
      }

  pub told_set : (holds : Key → Bool) (key : Key) (value : Option (List ℕ)) (a : List (List ℕ)) → SetIn h holds key value old now new → IsWithin a h → IfSome then.current EachWhole → old.current ≡ Some a → IsLaidOut h a → Takes h a key value →
      (b : List (List ℕ)) × (then.current ≡ Some b) × SetsKey h holds key value a b new
  told_set holds key value a s within each told laid takes =
      let g = gives (map_of new) now.current (set_key key value (map_of h a)) (if_told old.current _ a told s.map laid takes) in
      let t = moved_told f h new now then g.content below behind moved g.told in
      let st = stands g.content t.content t.agrees (if_told now.current (IsLaidOut new) g.content g.told (if_told old.current _ a told s.valid laid takes)) in (
        t.content,
        t.told,
        record {
          within = within;
          whole = told_whole t.content t.told each;
          form = form;
          laid = st.laid;
          map = st.map ∙ g.is;
          layout = st.layout ∙ given_at (layout_of new) now.current g.content _ g.told (if_told old.current _ a told s.layout laid takes);
          back = st.back key (map_of h a key) (if_told now.current (λ c. Restores new c key (map_of h a key)) g.content g.told (if_told old.current _ a told s.back laid takes));
          rooms = λ other held.
              let grown = if_told now.current (λ c. (k : Key) → holds k ≡ true → room_at h a k ≤ room_at new c k) g.content g.told (if_told old.current _ a told s.rooms laid takes) other held in
              let e = st.rooms other in omega (arith, grown, e);
        },
      )

  pub told_back : (key : Key) (value : Option (List ℕ)) (a : List (List ℕ)) → BackIn h key value old now new → old.current ≡ Some a → IsLaidOut h a → Restores h a key value →
      (b : List (List ℕ)) × (then.current ≡ Some b) × SetsBack h key value a b new
  told_back key value a s told laid restores =
      let g = gives (map_of new) now.current (set_key key value (map_of h a)) (if_told old.current _ a told s.map laid restores) in
      let t = moved_told f h new now then g.content below behind moved g.told in
      let st = stands g.content t.content t.agrees (if_told now.current (IsLaidOut new) g.content g.told (if_told old.current _ a told s.valid laid restores)) in (
        t.content,
        t.told,
        record {
          form = form;
          laid = st.laid;
          map = st.map ∙ g.is;
          layout = st.layout ∙ given_at (layout_of new) now.current g.content _ g.told (if_told old.current _ a told s.layout laid restores);
          rooms = λ other.
              let grown = if_told now.current (λ c. (k : Key) → room_at h a k ≤ room_at new c k) g.content g.told (if_told old.current _ a told s.rooms laid restores) other in
              let e = st.rooms other in omega (arith, grown, e);
        },
      )

  pub told_cut : (from : ℕ) (a : List (List ℕ)) → h.organization ≡ Sequential → CutIn h from old now new → IfSome then.current EachWhole → old.current ≡ Some a → IsLaidOut h a →
      (b : List (List ℕ)) × (then.current ≡ Some b) × CutsFile h from a b new
  told_cut from a kept s each told laid =
      let g = gives (map_of new) now.current (cut_from from (map_of h a)) (if_told old.current _ a told s.map laid) in
      let t = moved_told f h new now then g.content below behind moved g.told in
      let st = stands g.content t.content t.agrees (if_told now.current (IsLaidOut new) g.content g.told (if_told old.current _ a told s.valid laid)) in (
        t.content,
        t.told,
        record {
          whole = told_whole t.content t.told each;
          form = form;
          laid = st.laid;
          map = st.map ∙ g.is;
          layout = none new t.content (ap (λ (x : FileHead). x.organization) same.is ∙ kept) ∙ sym (none h a kept);
        },
      )
    where
      none : (x : FileHead) (b : List (List ℕ)) → x.organization ≡ Sequential → layout_of x b ≡ no_layout
      none x b is = ap (λ (o : Organization). layout_by o x b) is
