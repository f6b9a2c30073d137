-- Steps of an undo over a volume.
use Rattle.std.proofs.Common.{◌≡◌, ◌≢◌, ⊎_elim, ℕ, zero, suc, ◌+◌, ◌-◌, ◌<◌, ◌≤◌, Bool, false, List, [], ◌∷◌, length, Option, Some, None, IfSome, refl, sym, ◌∙◌, ap, subst, slice_set, option_map, arith, inl, inr, length-set, get_or-set_other}
use Rattle.std.proofs.lemmas.Bool.{cases_eq}
use Rattle.std.proofs.lemmas.List.{get_or-set_same}
use Rattle.block_disk.specs.Disk.{DiskState}
use Rattle.block_disk.specs.Counts.{counted}
use Rattle.careful_write.specs.State.{StoreState, EachWhole, IsEither, IsReady, Leaves, content}
use Rattle.careful_write.specs.Steps.{AgreesOff, CountsOnce, Quiet}
use Rattle.unit_entries.specs.change_set.Files.{AgreesOn, AgreesOut, SameFile, free_frames}
use Rattle.file_base.specs.declared.head.FileHead.{FileHead}
use Rattle.file_base.specs.declared.head.Organization.TheVariants.{Sequential}
use Rattle.directory_model.specs.record_files.Any.{map_of}
use Rattle.journal_store.specs.Rings.{IsRing}
use Rattle.volume.specs.declared.catalog.Catalog.{Catalog}
use Rattle.volume.specs.Catalogs.{IsSound, TellsCatalog}
use Rattle.volume.specs.State.{VolumeState}
use Rattle.unit_entries.specs.run_model.World.{File}
use Rattle.directory_model.specs.Files.{AgreesOnCarried, head_at, file_at}
use Rattle.directory_model.specs.Restoring.{AreGrouped, IsGrouped, IsPlaceGrouped}
use Rattle.volume_files.specs.Staging.{StagesFile, is_of_file}
use Rattle.volume_files.proofs.Places.{head_below}
use Rattle.unit_undo.proofs.ApartLemmas.{carried_keep, others_keep, journal_off}
use Rattle.unit_undo.specs.Undoing.{GoesOn, ChangesFile, ChangesHeads, Journals, MayGoOn, MayUndo, IsFew, journals_at, journals_of}
use Rattle.unit_undo.specs.FileWays.{Undo, IsGoing, FailsGoing, ChangesOnly, changes_in}
use Rattle.unit_undo.specs.Steps.{IsPartlyUndone}
use Rattle.unit_undo.specs.Way.{ArePartlyUndone, IsOnTheWay, KeepsJournal}
use Rattle.unit_undo.proofs.BackLemmas.{same_through}
use Rattle.unit_undo.proofs.GroupLemmas.{partly_more, grouped_more}

-- Nothing is counted where a call went well.

pub quiet_same : (d : DiskState) → Quiet d d
quiet_same d = record { size = refl; calls = refl; faults = refl; stops = refl; told = refl }

pub counts_through : (a b : Bool) (x y z : DiskState) → Quiet x y → CountsOnce a b y z → CountsOnce a b x z
counts_through a b x y z first second = record {
  size = second.size ∙ first.size;
  calls = second.calls ∙ first.calls;
  faults = second.faults ∙ ap (counted a) first.faults;
  stops = second.stops ∙ ap (counted b) first.stops;
  told = second.told ∙ first.told;
}

-- One step after another.

pub goes_same : (v : VolumeState) → IsReady v.store → GoesOn v v
goes_same v ready = record { ready = ready; pool = refl; catalog = refl; long = refl; journals = λ file. refl; sound = λ node s. s; holds = λ h. h; quiet = quiet_same v.store.disk }

pub goes_through : (u v w : VolumeState) → GoesOn u v → GoesOn v w → GoesOn u w
goes_through u v w first second = record {
  ready = second.ready;
  pool = second.pool ∙ first.pool;
  catalog = second.catalog ∙ (λ i. record (first.catalog i) { heads = w.catalog.heads });
  long = second.long ∙ first.long;
  journals = λ file. second.journals file ∙ first.journals file;
  sound = λ node s. subst (λ (n : ℕ). IsSound node n w.catalog) first.quiet.size (second.sound node (subst (λ (n : ℕ). IsSound node n v.catalog) (sym first.quiet.size) (first.sound node s)));
  holds = λ h. second.holds (first.holds h);
  quiet = counts_through false false u.store.disk v.store.disk w.store.disk first.quiet second.quiet;
}

-- where heads alone changed

pub heads_kept : (u v w : VolumeState) → ChangesHeads u v → w.catalog ≡ v.catalog → ChangesHeads u w
heads_kept u v w first same = same ∙ first ∙ (λ i. record u.catalog { heads = (sym same i).heads })

pub heads_through : (u v w : VolumeState) → ChangesHeads u v → ChangesHeads v w → ChangesHeads u w
heads_through u v w first second = second ∙ (λ i. record (first i) { heads = w.catalog.heads })

-- a file keeps its journals where its buckets alone change
journals_same : (h new : FileHead) → SameFile h new → journals_of new ≡ journals_of h
journals_same h new same = ap journals_of same.is

journals_set : (heads : List (Option FileHead)) (f : ℕ) (h new : FileHead) → head_at heads f ≡ Some h → f < length heads → journals_of new ≡ journals_of h → (g : ℕ) → journals_at (slice_set heads f (Some new)) g ≡ journals_at heads g
journals_set heads f h new there below same g = elim (cases_eq g f) [
  | inl is ↦ (λ i. journals_at (slice_set heads f (Some new)) (is i)) ∙ ap (option_map journals_of) (get_or-set_same heads f (Some new) None below) ∙ ap (λ (j : Journals). Some j) same ∙ sym (ap (option_map journals_of) there) ∙ (λ i. journals_at heads (sym is i))
  | inr apart ↦ ap (option_map journals_of) (get_or-set_other heads f g (Some new) None apart)
]

-- what is staged of a file
pub goes_staged : (f limit : ℕ) (h new : FileHead) (v w : VolumeState) → IsReady v.store → length v.catalog.heads ≡ 64 → head_at v.catalog.heads f ≡ Some h → StagesFile f h limit v w new → GoesOn v w
goes_staged f limit h new v w ready long there s = record {
  ready = subst IsReady (sym s.rest) (record { fitting = ready.fitting; settled = ready.settled; closed = ready.closed });
  pool = ap (λ (x : StoreState). x.pool) s.rest;
  catalog = s.catalog ∙ (λ i. record v.catalog { heads = sym (ap (λ (k : Catalog). k.heads) s.catalog) i });
  long = ap (λ (k : Catalog). length k.heads) s.catalog ∙ length-set v.catalog.heads f (Some new);
  journals = λ file. ap (λ (k : Catalog). journals_at k.heads file) s.catalog
      ∙ journals_set v.catalog.heads f h new there (let below = head_below v.catalog.heads f h long there in omega (arith, below, long)) (journals_same h new s.same) file;
  sound = s.sound;
  holds = s.holds;
  quiet = subst (λ (d : DiskState). Quiet v.store.disk d) (sym (ap (λ (x : StoreState). x.disk) s.rest)) (quiet_same v.store.disk);
}

-- agreements one after another
off_through : (p : ℕ → Bool) (a b c : List (List ℕ)) → AgreesOff p a b → AgreesOff p b c → AgreesOff p a c
off_through p a b c first second = record { size = second.size ∙ first.size; others = λ n off. second.others n off ∙ first.others n off }

out_through : (p : ℕ → Bool) (x y z : Option (List (List ℕ))) → AgreesOut p x y → AgreesOut p y z → AgreesOut p x z
out_through p None y z first second = subst (λ o. AgreesOut p o z) first second
out_through p (Some a) None z first second = absurd first
out_through p (Some a) (Some b) None first second = absurd second
out_through p (Some a) (Some b) (Some c) first second = off_through p a b c first second

pub out_same : (p : ℕ → Bool) (x : Option (List (List ℕ))) → AgreesOut p x x
out_same p None = refl
out_same p (Some a) = record { size = refl; others = λ n off. refl }

set_twice : (heads : List (Option FileHead)) (f : ℕ) (a b : Option FileHead) → slice_set (slice_set heads f a) f b ≡ slice_set heads f b
set_twice [] f a b = refl
set_twice (h ∷ heads) zero a b = refl
set_twice (h ∷ heads) (suc f) a b = ap (λ (r : List (Option FileHead)). h ∷ r) (set_twice heads f a b)

of_same : (f : ℕ) (h new : FileHead) → SameFile h new → is_of_file f new ≡ is_of_file f h
of_same f h new same = ap (λ (x : FileHead). is_of_file f x) same.is

pub set_itself : (heads : List (Option FileHead)) (f : ℕ) (h : FileHead) → head_at heads f ≡ Some h → slice_set heads f (Some h) ≡ heads
set_itself [] f h there = refl
set_itself (o ∷ heads) zero h there = ap (λ (x : Option FileHead). x ∷ heads) (sym there)
set_itself (o ∷ heads) (suc f) h there = ap (λ (r : List (Option FileHead)). o ∷ r) (set_itself heads f h there)

pub only_same : (f : ℕ) (h : FileHead) (v : VolumeState) → IsReady v.store → head_at v.catalog.heads f ≡ Some h → ChangesOnly f h v v h
only_same f h v ready there = record { goes = goes_same v ready; same = record { is = refl }; heads = sym (set_itself v.catalog.heads f h there); blocks = out_same (is_of_file f h) v.store.current }

pub only_through : (f : ℕ) (h mid new : FileHead) (u v w : VolumeState) → ChangesOnly f h u v mid → ChangesOnly f mid v w new → ChangesOnly f h u w new
only_through f h mid new u v w first second = record {
  goes = goes_through u v w first.goes second.goes;
  same = same_through h mid new first.same second.same;
  heads = second.heads ∙ ap (λ (hs : List (Option FileHead)). slice_set hs f (Some new)) first.heads ∙ set_twice u.catalog.heads f (Some mid) (Some new);
  blocks = out_through (is_of_file f h) u.store.current v.store.current w.store.current first.blocks (subst (λ (p : ℕ → Bool). AgreesOut p v.store.current w.store.current) (of_same f h mid first.same) second.blocks);
}

pub only_of : (f : ℕ) (h new : FileHead) (v w : VolumeState) → ChangesFile f h v w new → ChangesOnly f h v w new
only_of f h new v w c = record { goes = c.goes; same = c.same; heads = c.heads; blocks = c.blocks }

-- what may be undone in a volume still may once a part is

pub may_go : (steps : ℕ) (v w : VolumeState) → GoesOn v w → MayGoOn steps v → (few : ℕ) → IsFew few w → MayGoOn few w
may_go steps v w goes may few is_few = record {
  ready = goes.ready;
  node = may.node;
  sound = subst (λ (n : ℕ). IsSound may.node n w.catalog) (sym goes.quiet.size) (goes.sound may.node may.sound);
  least = subst (λ (n : ℕ). 4096 ≤ n) (sym goes.quiet.size) may.least;
  most = subst (λ (n : ℕ). n ≤ 65536) (sym goes.quiet.size) may.most;
  frames = subst (λ p. 32 ≤ free_frames p) (sym goes.pool) may.frames;
  ring = ring_on;
  few = is_few;
}
  where
    same_ru : w.catalog.ru ≡ v.catalog.ru
    same_ru = ap (λ (k : Catalog). k.ru) goes.catalog

    ring_on : IsRing w.catalog.ru w.store.disk
    ring_on = subst (λ s. IsRing s w.store.disk) (sym same_ru) (record {
      from = may.ring.from;
      to = subst (λ (n : ℕ). v.catalog.ru.start + v.catalog.ru.blocks ≤ n) (sym goes.quiet.size) may.ring.to;
      fits = subst (λ (n : ℕ). n ≤ 65536) (sym goes.quiet.size) may.ring.fits;
      some = may.ring.some;
      order = may.ring.order;
      low = may.ring.low;
      room = may.ring.room;
    })

pub may_at : (f : ℕ) (h : FileHead) (steps : ℕ) (v : VolumeState) → MayGoOn steps v → length v.catalog.heads ≡ 64 → head_at v.catalog.heads f ≡ Some h → MayUndo f h steps v
may_at f h steps v may whole there = record {
  ready = may.ready;
  there = there;
  whole = whole;
  node = may.node;
  sound = may.sound;
  least = may.least;
  most = may.most;
  frames = may.frames;
  ring = may.ring;
  few = may.few;
}

pub may_on : (f : ℕ) (h new : FileHead) (steps : ℕ) (v w : VolumeState) → GoesOn v w → MayUndo f h steps v → head_at w.catalog.heads f ≡ Some new → (few : ℕ) → IsFew few w → MayUndo f new few w
may_on f h new steps v w goes may there few is_few = may_at f new few w (may_go steps v w goes now few is_few) (goes.long ∙ may.whole) there
  where
    now : MayGoOn steps v
    now = record { ready = may.ready; node = may.node; sound = may.sound; least = may.least; most = may.most; frames = may.frames; ring = may.ring; few = may.few }

pub head_now : (f : ℕ) (h new : FileHead) (v w : VolumeState) → ChangesOnly f h v w new → length v.catalog.heads ≡ 64 → head_at v.catalog.heads f ≡ Some h → head_at w.catalog.heads f ≡ Some new
head_now f h new v w c long there = ap (λ (hs : List (Option FileHead)). head_at hs f) c.heads ∙ get_or-set_same v.catalog.heads f (Some new) None (let below = head_below v.catalog.heads f h long there in omega (arith, below, long))

-- What is told goes on its way.

pub same_way : (u : Undo) (k j : Catalog) (c : List (List ℕ)) → j ≡ record k { heads = j.heads } → IsOnTheWay u.serial u.content u.heads u.directory k c → IsOnTheWay u.serial u.content u.heads u.directory j c
same_way u k j c same way = record {
  new = way.new;
  tells = subst (λ (x : Catalog). TellsCatalog x c) (sym (λ i. record (same i) { heads = way.new })) way.tells;
  sound = λ node s.
      subst (IsSound node (length u.content + 518)) (sym (λ i. record (same i) { heads = way.new })) (way.sound node (subst (IsSound node (length u.content + 518)) (λ i. record (same i) { heads = u.heads }) s));
  grouped = way.grouped;
  partly = way.partly;
  journal = subst (λ (x : Catalog). KeepsJournal x.ru u.content c) (sym same) way.journal;
}

pub now_on_the_way : (u : Undo) (v : VolumeState) (g : IsGoing u v) → IsOnTheWay u.serial u.content u.heads u.directory v.catalog g.now
now_on_the_way u v g = record {
  new = v.catalog.heads;
  tells = g.tells;
  sound = λ node s. subst (λ (n : ℕ). IsSound node n v.catalog) (sym g.size) (g.sound node (subst (λ (n : ℕ). IsSound node n (record v.catalog { heads = u.heads })) g.size s));
  grouped = g.grouped;
  partly = g.partly;
  journal = g.journal;
}

-- what was sound at first still is
pub sound_on : (heads : List (Option FileHead)) (v w : VolumeState) → GoesOn v w → ((node : List ℕ) → IsSound node v.store.disk.size (record v.catalog { heads = heads }) → IsSound node v.store.disk.size v.catalog)
    → (node : List ℕ) → IsSound node w.store.disk.size (record w.catalog { heads = heads }) → IsSound node w.store.disk.size w.catalog
sound_on heads v w goes was node s =
    let first : IsSound node v.store.disk.size (record v.catalog { heads = heads }) =
    subst (IsSound node v.store.disk.size) (λ i. record (goes.catalog i) { heads = heads }) (subst (λ (n : ℕ). IsSound node n (record w.catalog { heads = heads })) goes.quiet.size s) in
    subst (λ (n : ℕ). IsSound node n w.catalog) (sym goes.quiet.size) (goes.sound node (was node first))

pub if_told : (o : Option (List (List ℕ))) (c : List (List ℕ)) (P : List (List ℕ) → Type 0) → o ≡ Some c → IfSome o P → P c
if_told o c P is h = subst (λ x. IfSome x P) is h

pub told_if : (o : Option (List (List ℕ))) (c : List (List ℕ)) (P : List (List ℕ) → Type 0) → o ≡ Some c → P c → IfSome o P
told_if o c P is h = subst (λ x. IfSome x P) (sym is) h

some_is : (a b : List (List ℕ)) → Some a ≡ Some b → a ≡ b
some_is a b e = cc

module _ (u : Undo) (f : ℕ) (first h new : FileHead) (file : File) (node : List ℕ) (v w : VolumeState) (long : length v.catalog.heads ≡ 64) (sound : IsSound node v.store.disk.size v.catalog) (there : head_at v.catalog.heads f ≡ Some h) (g : IsGoing u v) (c : List (List ℕ))
    (now : w.store.current ≡ Some c) (changes : ChangesFile f h v w new) where
  pub agrees : AgreesOff (is_of_file f h) g.now c
  agrees = at v.store.current w.store.current g.told now changes.blocks
    where
      at : (x y : Option (List (List ℕ))) → x ≡ Some g.now → y ≡ Some c → AgreesOut (is_of_file f h) x y → AgreesOff (is_of_file f h) g.now c
      at x y was is out = let o = rw (was, is) at out in o

  pub others_still : (k : ℕ) (other : FileHead) → k ≢ f → head_at v.catalog.heads k ≡ Some other → AgreesOn other g.now c
  others_still k other differs at = others_keep node v.store.disk.size v.catalog long sound f h g.now c there agrees k other differs at

  -- what each file carries stands: it is the same for a head of the file as it is now
  pub carried_still : (k : ℕ) (old : FileHead) → head_at u.heads k ≡ Some old → AgreesOnCarried old g.now c
  carried_still k old at = place (head_at v.catalog.heads k) refl (file_at u.directory k) (subst (λ o. IsPlaceGrouped u.content o (file_at u.directory k) g.now (head_at v.catalog.heads k)) at (g.grouped.each k))
    where
      place : (m : Option FileHead) → head_at v.catalog.heads k ≡ m → (p : Option File) → IsPlaceGrouped u.content (Some old) p g.now m → AgreesOnCarried old g.now c
      place None here None is = absurd is
      place None here (Some x) is = absurd is
      place (Some mid) here None is = absurd is
      place (Some mid) here (Some x) is =
          let stands = carried_keep node v.store.disk.size v.catalog long sound f h g.now c there agrees g.journal.whole (if_told w.store.current c EachWhole now changes.whole) k mid here in
          let same = subst (λ (y : FileHead). AgreesOnCarried y g.now c) is.same.is stands in
          record { after = same.after; before = same.before; save = same.save }

  unfoldable pub still_going : head_at u.heads f ≡ Some first → file_at u.directory f ≡ Some file → IsGrouped u.content first file.history.live c new → IsPartlyUndone (first.organization ≡ Sequential) (changes_in u file) (map_of first u.content) (map_of new c) → IsGoing u w
  still_going in_heads in_directory grouped partly = record {
    now = c;
    told = now;
    tells = if_told w.store.current c (TellsCatalog w.catalog) now (changes.goes.holds (told_if v.store.current g.now (TellsCatalog v.catalog) g.told g.tells));
    grouped = subst (λ (hs : List (Option FileHead)). AreGrouped u.content u.heads u.directory c hs) (sym changes.heads)
        (grouped_more u.content g.now c u.heads v.catalog.heads u.directory f first h new file g.grouped (let below = head_below v.catalog.heads f h long there in omega (arith, below, long)) in_heads in_directory grouped others_still carried_still);
    partly = subst (λ (hs : List (Option FileHead)). ArePartlyUndone u.serial u.content u.heads u.directory c hs) (sym changes.heads)
        (partly_more u.serial u.content g.now c u.heads v.catalog.heads u.directory f first h new file g.grouped g.partly (let below = head_below v.catalog.heads f h long there in omega (arith, below, long)) in_heads in_directory partly others_still);
    size = g.size ∙ sym changes.goes.quiet.size;
    sound = sound_on u.heads v w changes.goes g.sound;
    journal = record {
      size = agrees.size ∙ g.journal.size;
      whole = if_told w.store.current c EachWhole now changes.whole;
      blocks = λ n low high.
          let before : n < v.catalog.ru.start - 518 + v.catalog.ru.blocks = subst (λ (k : Catalog). n < k.ru.start - 518 + k.ru.blocks) changes.goes.catalog high in
          agrees.others n (journal_off node v.store.disk.size v.catalog long sound f h there n low before) ∙ g.journal.blocks n low before;
    };
    before = held.0;
    applied = held.1;
    way = held.2;
  }
    where
      held : (b : List (List ℕ)) × (content w.store ≡ Some b) × IsOnTheWay u.serial u.content u.heads u.directory w.catalog b
      held = ⊎_elim (λ same. (g.before, same ∙ g.applied, same_way u v.catalog w.catalog g.before changes.goes.catalog g.way))
          (λ done. (g.now, done ∙ g.told, same_way u v.catalog w.catalog g.now changes.goes.catalog (now_on_the_way u v g))) changes.applied

-- Where the disk goes down, each image has one of two contents that are on the way.
pub fails_going : (u : Undo) (v w : VolumeState) → IsGoing u v → Leaves (IsEither (content v.store) v.store.current) w.store.disk → FailsGoing u v w
fails_going u v w g leaves = λ image left. let l = leaves image left in (
  l.0,
  ⊎_elim
      (λ was. subst (λ (c : List (List ℕ)). IsOnTheWay u.serial u.content u.heads u.directory v.catalog c) (sym (some_is _ g.before (was ∙ g.applied))) g.way)
      (λ is. subst (λ (c : List (List ℕ)). IsOnTheWay u.serial u.content u.heads u.directory v.catalog c) (sym (some_is _ g.now (is ∙ g.told))) (now_on_the_way u v g))
      l.1,
)

-- and so from an earlier state on
pub failed_since : (u : Undo) (v w x : VolumeState) → GoesOn v w → FailsGoing u w x → FailsGoing u v x
failed_since u v w x goes fails = λ image left. let l = fails image left in (l.0, same_way u w.catalog v.catalog _ (λ i. record (sym goes.catalog i) { heads = v.catalog.heads }) l.1)
