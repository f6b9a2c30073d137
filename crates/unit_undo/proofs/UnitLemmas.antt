-- A unit is undone in one file after another.
use Rattle.std.proofs.Common.{◌≡◌, ◌≢◌, ℕ, ◌+◌, ◌<◌, ◌≤◌, List, length, Option, Some, None, IfSome, refl, sym, ◌∙◌, ap, subst, inl, inr, arith}
use Rattle.std.proofs.lemmas.Bool.{cases_eq, cases_lt}
use Rattle.std.proofs.lemmas.List.{get_or_past, get_or-set_same, get_or-set_other}
use Rattle.careful_write.specs.State.{EachWhole, IsIdle, content}
use Rattle.careful_write.specs.Steps.{AgreesOff}
use Rattle.file_base.specs.declared.head.FileHead.{FileHead}
use Rattle.vms_model.specs.Ids.{Id}
use Rattle.records_model.specs.Records.{Change}
use Rattle.records_model.specs.History.{changes_by}
use Rattle.unit_entries.specs.change_set.Files.{AgreesOn, AgreesOut}
use Rattle.directory_model.specs.record_files.Local as local
use Rattle.unit_entries.specs.run_model.World.{File}
use Rattle.directory_model.specs.Files.{head_at, file_at}
use Rattle.directory_model.specs.Restoring.{IsLeft, IsPlaceLeft, IsRestored, IsPlaceRestored, AreGrouped}
use Rattle.journal_format.specs.journal_model.Entries.{Entry}
use Rattle.volume.specs.declared.catalog.Catalog.{Catalog}
use Rattle.volume.specs.Catalogs.{IsSound, TellsCatalog}
use Rattle.volume.specs.State.{VolumeState}
use Rattle.volume_files.specs.Staging.{is_of_file}
use Rattle.unit_entries.specs.Keys.{keys_told}
use Rattle.unit_entries.specs.Told.{TellsKeys}
use Rattle.unit_undo.specs.FileWays.{Undo, IsStill, IsBack, ChangesOnly}
use Rattle.unit_undo.specs.Way.{ArePartlyUndone, IsUndoable, IsUndone, KeepsJournal}
use Rattle.unit_undo.specs.UnitWays.{undo_of, IsUndoneIn}
use Rattle.unit_undo.proofs.ApartLemmas.{others_keep}
use Rattle.unit_undo.proofs.GroupLemmas.{partly_itself, grouped_itself}
use Rattle.unit_entries.proofs.KeyLemmas.{keys_tell}

-- a file that is restored stays so while its blocks stay
restored_local : (a b c : List (List ℕ)) (first h : FileHead) (cs : List Change) → AgreesOn h b c → IsRestored a first cs b h → IsRestored a first cs c h
restored_local a b c first h cs agrees is = record {
  same = is.same;
  form = is.form;
  laid = local.valid_local_law h b c is.form agrees is.laid;
  map = sym (local.local_law h b c is.form agrees is.laid) ∙ is.map;
  layout = sym (local.layout_local_law h b c is.form agrees is.laid) ∙ is.layout;
}

local_place : (serial : Id) (a b c : List (List ℕ)) (o : Option FileHead) (p : Option File) (m : Option FileHead) → ((h : FileHead) → m ≡ Some h → AgreesOn h b c) → IsPlaceRestored serial a o p b m → IsPlaceRestored serial a o p c m
local_place serial a b c None None None agrees is = tt
local_place serial a b c None None (Some h) agrees is = absurd is
local_place serial a b c None (Some file) m agrees is = absurd is
local_place serial a b c (Some first) None m agrees is = absurd is
local_place serial a b c (Some first) (Some file) None agrees is = absurd is
local_place serial a b c (Some first) (Some file) (Some h) agrees is = restored_local a b c first h (changes_by serial file.history.live) (agrees h refl) is

file_of : (a : List (List ℕ)) (f : ℕ) (h : FileHead) (p : Option File) → IsPlaceLeft a f (Some h) p → (file : File) × (p ≡ Some file) × IsLeft a h file
file_of a f h None left = absurd left
file_of a f h (Some file) left = (file, refl, left.0)

none_of : (a : List (List ℕ)) (f : ℕ) (p : Option File) → IsPlaceLeft a f None p → p ≡ None
none_of a f None left = refl
none_of a f (Some file) left = absurd left

none_at : (heads : List (Option FileHead)) (f : ℕ) → length heads ≡ 64 → 64 ≤ f → head_at heads f ≡ None
none_at heads f long past = get_or_past heads f None (omega (arith, long, past))

no_file_at : (files : List (Option File)) (f : ℕ) → length files ≡ 64 → 64 ≤ f → file_at files f ≡ None
no_file_at files f long past = get_or_past files f None (omega (arith, long, past))

nothing_restored : (serial : Id) (a b : List (List ℕ)) (o : Option FileHead) (p : Option File) (m : Option FileHead) → o ≡ None → p ≡ None → m ≡ None → IsPlaceRestored serial a o p b m
nothing_restored serial a b o p m head file new = subst (λ x. IsPlaceRestored serial a x p b m) (sym head) (subst (λ x. IsPlaceRestored serial a None x b m) (sym file) (subst (λ x. IsPlaceRestored serial a None None b x) (sym new) tt))

one_restored : (serial : Id) (a b : List (List ℕ)) (o : Option FileHead) (p : Option File) (m : Option FileHead) (first new : FileHead) (file : File) → o ≡ Some first → p ≡ Some file → m ≡ Some new → IsRestored a first (changes_by serial file.history.live) b new → IsPlaceRestored serial a o p b m
one_restored serial a b o p m first new file there named now is =
    subst (λ x. IsPlaceRestored serial a x p b m) (sym there) (subst (λ x. IsPlaceRestored serial a (Some first) x b m) (sym named) (subst (λ x. IsPlaceRestored serial a (Some first) (Some file) b x) (sym now) is))

module _ (serial : Id) (ps : List ℕ) (v : VolumeState) (a : List (List ℕ)) (directory : List (Option File)) (es : List Entry) (can : IsUndoable serial ps v a directory es) where
  abbrev u : Undo
  u = undo_of serial a v directory

  if_told : (o : Option (List (List ℕ))) (P : List (List ℕ) → Type 0) → o ≡ Some a → IfSome o P → P a
  if_told o P is h = subst (λ x. IfSome x P) is h

  -- nothing is undone yet
  pub unit_begins : (w : VolumeState) → IsIdle v.store → w.store.current ≡ v.store.current → content w.store ≡ content v.store → w.catalog ≡ v.catalog → IfSome v.store.current (λ blocks. length blocks + 518 ≡ w.store.disk.size) → IfSome v.store.current EachWhole → IsUndoneIn u 0 w
  unit_begins w idle now was same size whole = record {
    way = record {
      now = a;
      told = now ∙ can.told;
      tells = subst (λ k. TellsCatalog k a) (sym same) tells;
      size = if_told v.store.current (λ blocks. length blocks + 518 ≡ w.store.disk.size) can.told size;
      sound = λ node s. subst (IsSound node w.store.disk.size) (λ i. record w.catalog { heads = sym (ap (λ (k : Catalog). k.heads) same) i }) s;
      grouped = subst (λ k. AreGrouped a v.catalog.heads directory a k.heads) (sym same) grouped;
      partly = subst (λ k. ArePartlyUndone serial a v.catalog.heads directory a k.heads) (sym same) (partly_itself serial a v.catalog.heads directory);
      journal = keeps;
      before = a;
      applied = was ∙ sym idle.current ∙ can.told;
      way = record { new = v.catalog.heads; tells = subst (λ k. TellsCatalog (record k { heads = v.catalog.heads }) a) (sym same) tells; sound = λ node s. s; grouped = grouped; partly = partly_itself serial a v.catalog.heads directory; journal = keeps };
    };
    done = λ f below. absurd (omega (arith, below));
    rest = λ f le. ap (λ k. head_at k.heads f) same;
    agrees = λ f h le there n within. refl;
  }
    where
      keeps : KeepsJournal w.catalog.ru a a
      keeps = record { size = refl; whole = if_told v.store.current EachWhole can.told whole; blocks = λ n low high. refl }

      tells : TellsCatalog v.catalog a
      tells = if_told v.store.current (TellsCatalog v.catalog) can.told can.holds

      grouped : AreGrouped a v.catalog.heads directory a v.catalog.heads
      grouped = grouped_itself a v.catalog.heads directory (if_told v.store.current EachWhole can.told whole) can.left

  module _ (f : ℕ) (w : VolumeState) (d : IsUndoneIn u f w) where
    -- a number without a file
    pub unit_skips : head_at w.catalog.heads f ≡ None → IsUndoneIn u (f + 1) w
    unit_skips none = record {
      way = d.way;
      done = λ g below. elim (cases_lt g f) [ inl lt ↦ d.done g lt | inr le ↦ subst (λ k. IsPlaceRestored serial a (head_at v.catalog.heads k) (file_at directory k) d.way.now (head_at w.catalog.heads k)) (let same : f ≡ g = omega (arith, below, le) in same) here ];
      rest = λ g le. d.rest g (omega (arith, le));
      agrees = λ g h le there. d.agrees g h (omega (arith, le)) there;
    }
      where
        no_head : head_at v.catalog.heads f ≡ None
        no_head = sym (d.rest f (omega arith)) ∙ none

        here : IsPlaceRestored serial a (head_at v.catalog.heads f) (file_at directory f) d.way.now (head_at w.catalog.heads f)
        here = nothing_restored serial a d.way.now (head_at v.catalog.heads f) (file_at directory f) (head_at w.catalog.heads f) no_head (none_of a f (file_at directory f) (subst (λ o. IsPlaceLeft a f o (file_at directory f)) no_head (can.left.each f))) none

    module _ (first : FileHead) (there : head_at w.catalog.heads f ≡ Some first) where
      in_heads : head_at v.catalog.heads f ≡ Some first
      in_heads = sym (d.rest f (omega arith)) ∙ there

      pub the_file : (file : File) × (file_at directory f ≡ Some file) × IsLeft a first file
      the_file = file_of a f first (file_at directory f) (subst (λ o. IsPlaceLeft a f o (file_at directory f)) in_heads (can.left.each f))

      pub unit_still : w.catalog.ru ≡ v.catalog.ru → IsStill u f first the_file.0 (keys_told v.catalog.heads ps es) w
      unit_still same_ru = record {
        way = d.way;
        there = in_heads;
        named = the_file.1;
        agrees = d.agrees f first (omega arith) in_heads;
        left = the_file.2;
        tells = subst (λ s. TellsKeys s a f (keys_told v.catalog.heads ps es) (changes_by serial the_file.0.history.live)) (sym same_ru)
            (keys_tell v.catalog.ru a f v.catalog.heads ps es (changes_by serial the_file.0.history.live) can.entries (can.notes f the_file.0 the_file.1));
        positions = λ sequential. can.positions f first the_file.0 in_heads the_file.1 sequential;
        ends = λ sequential. can.ends f first the_file.0 in_heads the_file.1 sequential;
      }

      module _ (x : VolumeState) (new : FileHead) (node : List ℕ) (long : length w.catalog.heads ≡ 64) (sound : IsSound node w.store.disk.size w.catalog) (only : ChangesOnly f first w x new) (back : IsBack u first the_file.0 x new) where
        agrees : AgreesOff (is_of_file f first) d.way.now back.way.now
        agrees = at w.store.current x.store.current d.way.told back.way.told only.blocks
          where
            at : (o p : Option (List (List ℕ))) → o ≡ Some d.way.now → p ≡ Some back.way.now → AgreesOut (is_of_file f first) o p → AgreesOff (is_of_file f first) d.way.now back.way.now
            at o p was is out = let h = rw (was, is) at out in h

        keeps : (g : ℕ) (other : FileHead) → g ≢ f → head_at w.catalog.heads g ≡ Some other → AgreesOn other d.way.now back.way.now
        keeps g other differs at = others_keep node w.store.disk.size w.catalog long sound f first d.way.now back.way.now there agrees g other differs at

        head_elsewhere : (g : ℕ) → g ≢ f → head_at x.catalog.heads g ≡ head_at w.catalog.heads g
        head_elsewhere g differs = ap (λ hs. head_at hs g) only.heads ∙ get_or-set_other w.catalog.heads f g (Some new) None differs

        below : f < 64
        below = elim (cases_lt f 64) [ inl lt ↦ lt | inr past ↦ absurd (let none = none_at w.catalog.heads f long past in let never : ⊥ = cc in never) ]

        head_here : head_at x.catalog.heads f ≡ Some new
        head_here = ap (λ hs. head_at hs f) only.heads ∙ get_or-set_same w.catalog.heads f (Some new) None (omega (arith, below, long))

        pub unit_goes_on : IsUndoneIn u (f + 1) x
        unit_goes_on = record {
          way = back.way;
          done = λ g lt. elim (cases_eq f g) [
            | inl same ↦ subst (λ k. IsPlaceRestored serial a (head_at v.catalog.heads k) (file_at directory k) back.way.now (head_at x.catalog.heads k)) same
                (one_restored serial a back.way.now (head_at v.catalog.heads f) (file_at directory f) (head_at x.catalog.heads f) first new the_file.0 in_heads the_file.1 head_here back.restored)
            | inr other ↦ let differs : g ≢ f = λ e. other (sym e) in
                subst (λ m. IsPlaceRestored serial a (head_at v.catalog.heads g) (file_at directory g) back.way.now m) (sym (head_elsewhere g differs))
                (local_place serial a d.way.now back.way.now (head_at v.catalog.heads g) (file_at directory g) (head_at w.catalog.heads g) (λ h at. keeps g h differs at) (d.done g (omega (arith, lt, differs))))
          ];
          rest = λ g le. head_elsewhere g (λ e. omega (arith, le, e)) ∙ d.rest g (omega (arith, le));
          agrees = λ g h le in_first n within.
              d.agrees g h (omega (arith, le)) in_first n within ∙ keeps g h (λ e. omega (arith, le, e)) (d.rest g (omega (arith, le)) ∙ in_first) n within;
        }

  pub unit_ends : (w : VolumeState) → length w.catalog.heads ≡ 64 → IsUndoneIn u 64 w → IsUndone serial a v.catalog.heads directory w
  unit_ends w long d = record {
    way = d.way;
    restored = record {
      long = long ∙ sym can.left.heads_long;
      each = λ f. elim (cases_lt f 64) [
        | inl lt ↦ d.done f lt
        | inr past ↦ nothing_restored serial a d.way.now (head_at v.catalog.heads f) (file_at directory f) (head_at w.catalog.heads f) (none_at v.catalog.heads f can.left.heads_long past) (no_file_at directory f can.left.directory_long past) (none_at w.catalog.heads f long past)
      ];
      carried = d.way.grouped.carried;
    };
  }
