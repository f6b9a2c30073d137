-- What is left on the way of an undo is what the node leaves.
use Rattle.std.proofs.Common.{◌≡◌, ℕ, ◌+◌, ◌≤◌, ◌^◌, Bool, true, false, cond, List, [], ◌∷◌, length, Option, Some, None, refl, sym, ◌∙◌, ap, subst, arith}
use Rattle.std.specs.List.{AllByRecursion}
use Rattle.std.proofs.lemmas.Bool.{both_ways, false_from_ne_true}
use Rattle.file_base.specs.declared.head.FileHead.{FileHead}
use Rattle.file_base.specs.declared.head.Span.{Span}
use Rattle.settlement_laws.specs.lmcp_log.Keeping.{SameSlots}
use Rattle.unit_undo.specs.record_files.Any.{map_of}
use Rattle.vms_model.specs.Ids.{Id}
use Rattle.vms_model.specs.Keys.{Key}
use Rattle.records_model.specs.Records.{Change}
use Rattle.records_model.specs.History.{LiveChanges, changes_by, changes_key, same_id}
use Rattle.unit_laws.specs.Units.{Apart, HasLatest, is_changed}
use Rattle.unit_laws.proofs.LiveLemmas.{id_is}
use Rattle.unit_laws.proofs.Tests.{or_one, or_other}
use Rattle.unit_undo.proofs.BranchLemmas.{not_by}
use Rattle.unit_laws.specs.Journal.{Journal}
use Rattle.world_laws.specs.run_model.World.{Node, File, IsPreparedUnit}
use Rattle.volume.specs.declared.catalog.Catalog.{Catalog}
use Rattle.volume.specs.Catalogs.{IsSound}
use Rattle.unit_undo.specs.directory_model.Files.{head_at, file_at}
use Rattle.unit_undo.specs.directory_model.Restoring.{AreGrouped, IsPlaceGrouped, IsPlaceLeft, IsPlacePrepared}
use Rattle.image_groups.proofs.restart_laws.FallLemmas.{groups_leave}
use Rattle.image_groups.proofs.restart_laws.ListLemmas.{all_as, both_as}
use Rattle.journal_model.specs.Ring.{IsJournal}
use Rattle.settlement_laws.specs.volume_model.Laws.{KeepsNames}
use Rattle.settlement_laws.proofs.volume_model.EntryLemmas.{entries_follow}
use Rattle.settlement_laws.specs.volume_model.Volumes.{LeavesVolume, IsLeftBy}
use Rattle.unit_undo.specs.file_images.Files.{SameRing}
use Rattle.settlement_laws.proofs.volume_laws.FollowLemmas.{follow}
use Rattle.settlement_laws.proofs.volume_laws.ToldLemmas.{logs_follow}
use Rattle.unit_undo.proofs.file_images.Rings.{journal_stands}
use Rattle.unit_undo.specs.Way.{IsOnTheWay, IsPlacePartly, KeepsJournal}
use Rattle.undo_laws.specs.Undone.{UndosLeave, UndosKeepJournal, WaysKeepOthers, WaysKeepPrepared}

-- files keep their names
place_named : (a b : List (List ℕ)) (o : Option FileHead) (p : Option File) (m : Option FileHead) (h : FileHead) → o ≡ Some h → IsPlaceGrouped a o p b m → (k : FileHead) × (m ≡ Some k) × (k.name ≡ h.name)
place_named a b None p m h there is = let never : ⊥ = cc in absurd never
place_named a b (Some k) None m h there is = absurd is
place_named a b (Some k) (Some file) None h there is = absurd is
place_named a b (Some k) (Some file) (Some new) h there is = let same : k ≡ h = cc in (new, refl, ap (λ (x : FileHead). x.name) is.same.is ∙ ap (λ (x : FileHead). x.name) same)

pub names_kept : (a b : List (List ℕ)) (heads new : List (Option FileHead)) (directory : List (Option File)) → AreGrouped a heads directory b new → KeepsNames heads new
names_kept a b heads new directory are f h there = place_named a b (head_at heads f) (file_at directory f) (head_at new f) h there (are.each f)

pub same_ring : (s : Span) (a b : List (List ℕ)) → 584 ≤ s.start → KeepsJournal s a b → SameRing s a b
same_ring s a b far keeps = record { size = keeps.size; whole = keeps.whole; blocks = λ k low high. keeps.blocks k (omega (arith, far, low)) high }

-- the start of the ring
pub far_off : (node : List ℕ) (size : ℕ) (k : Catalog) → IsSound node size k → 584 ≤ k.ru.start
far_off node size k sound = let start = sound.ru_start in omega (arith, start)

-- the log lies before the journal
pub log_kept : (a : List (List ℕ)) (k : Catalog) (n : Node) → LeavesVolume a k n → IsSound n.name n.blocks k → (c : List (List ℕ)) → KeepsJournal k.ru a c → SameSlots (length n.durable.log) a c
log_kept a k n left sound c keeps i below =
    let slots = left.home.slots in
    let start = sound.ru_start in
    keeps.blocks (66 + i) (omega arith) (omega (arith, below, slots, start))

-- a key that a branch changed is changed
each_changed : (ls : List LiveChanges) → AllByRecursion (λ (k : LiveChanges). (key : Key) → changes_key key k.changes ≡ true → is_changed ls key ≡ true) ls
each_changed [] = tt
each_changed (l ∷ ls) = (
  λ key changed. or_one (changes_key key l.changes) (is_changed ls key) changed,
  all_as (λ (k : LiveChanges). (key : Key) → changes_key key k.changes ≡ true → is_changed ls key ≡ true) (λ (k : LiveChanges). (key : Key) → changes_key key k.changes ≡ true → is_changed (l ∷ ls) key ≡ true) ls
      (λ k f key changed. or_other (changes_key key l.changes) (is_changed ls key) (f key changed)) (each_changed ls),
)

-- what another branch changed is not changed by this one
abbrev pub IsOther : Id → List Change → LiveChanges → Type 0
IsOther serial cs k = same_id serial k.serial ≡ false → (key : Key) → changes_key key k.changes ≡ true → changes_key key cs ≡ false

pub all_beside : (serial : Id) (ls : List LiveChanges) → Apart ls → AllByRecursion (IsOther serial (changes_by serial ls)) ls
all_beside serial [] apart = tt
all_beside serial (l ∷ ls) apart = step (same_id serial l.serial) refl (all_beside serial ls apart.1)
  where
    step : (b : Bool) → same_id serial l.serial ≡ b → AllByRecursion (IsOther serial (changes_by serial ls)) ls → AllByRecursion (IsOther serial (cond b l.changes (changes_by serial ls))) (l ∷ ls)
    step true is later = (
      λ no. absurd (both_ways (same_id serial l.serial) no is),
      all_as (λ (k : LiveChanges). (key : Key) → changes_key key k.changes ≡ true → is_changed ls key ≡ true) (IsOther serial l.changes) ls
          (λ k f no key changed. false_from_ne_true (changes_key key l.changes) (λ e. both_ways (is_changed ls key) (apart.0 key e) (f key changed))) (each_changed ls),
    )
    step false is later = (λ no key changed. not_by serial ls key (apart.0 key changed), later)

-- so what prepared branches changed stands there still, unless it is one of them that is undone
place_kept : (serial : Id) (units : Journal) (a c : List (List ℕ)) (f : ℕ) (o : Option FileHead) (p : Option File) (m : Option FileHead) → (IsPreparedUnit units serial → ⊥) → IsPlaceLeft a f o p → IsPlaceGrouped a o p c m → IsPlacePartly serial a o p c m → IsPlacePrepared units a o p → IsPlacePrepared units c m p
place_kept serial units a c f o p None none left grouped partly stands = tt
place_kept serial units a c f None p (Some new) none left grouped partly stands = nothing p grouped
  where
    nothing : (p : Option File) → IsPlaceGrouped a None p c (Some new) → IsPlacePrepared units c (Some new) p
    nothing None g = tt
    nothing (Some file) g = absurd g
place_kept serial units a c f (Some h) None (Some new) none left grouped partly stands = tt
place_kept serial units a c f (Some h) (Some file) (Some new) none left grouped partly stands =
    both_as (IsOther serial (changes_by serial file.history.live)) (λ (l : LiveChanges). IsPreparedUnit units l.serial → HasLatest (map_of h a) l.changes) (λ (l : LiveChanges). IsPreparedUnit units l.serial → HasLatest (map_of new c) l.changes) file.history.live
    (λ l other latest is key changed.
    let apart : same_id serial l.serial ≡ false = false_from_ne_true (same_id serial l.serial) (λ e. none (subst (IsPreparedUnit units) (sym (id_is serial l.serial e)) is)) in
    partly.others key (other apart key changed) ∙ latest is key changed)
    (all_beside serial file.history.live left.0.represents.apart) stands

pub ways_keep_others : WaysKeepOthers
ways_keep_others serial a k n left none c way f =
    place_kept serial n.durable.units a c f (head_at k.heads f) (file_at n.durable.directory f) (head_at way.new f) none (left.files.each f) (way.grouped.each f) (way.partly f) (left.prepared f)

pub left_on_the_way : (serial : Id) (a : List (List ℕ)) (k : Catalog) (n : Node) → LeavesVolume a k n → WaysKeepPrepared serial a k n → IsSound n.name n.blocks k → length a + 518 ≡ n.blocks → (c : List (List ℕ)) → IsOnTheWay serial a k.heads n.durable.directory k c → IsLeftBy c n
left_on_the_way serial a k n left ways sound size c way = record {
  catalog = record k { heads = way.new };
  tells = way.tells;
  sound = subst (λ (m : ℕ). IsSound n.name m (record k { heads = way.new })) size (way.sound n.name (subst (λ (m : ℕ). IsSound n.name m k) (sym size) sound));
  leaves = λ whole. record {
    home = left.home;
    log = logs_follow.stays a c n n left.log refl (log_kept a k n left sound c way.journal);
    journal = follow.stays a c k (record k { heads = way.new }) n n left.journal refl refl (names_kept a c k.heads way.new n.durable.directory way.grouped) (same_ring k.ru a c (far_off n.name n.blocks k sound) way.journal);
    units = left.units;
    order = left.order;
    told = left.told;
    files = groups_leave a c k.heads way.new n left.files way.grouped;
    prepared = ways c way;
  };
}

pub undos_leave : UndosLeave
undos_leave serial a k n left ways sound size d leaves = λ image may. let l = leaves image may in (l.0, left_on_the_way serial a k n left ways sound size _ l.1)

pub undos_keep_journal : UndosKeepJournal
undos_keep_journal a k n serial v left far same u = (
  record {
    entries = left.journal.entries;
    is = subst (λ (s : Span). IsJournal u.way.now s left.journal.entries) (sym ring) (journal_stands k.ru a u.way.now left.journal.entries left.journal.is (same_ring k.ru a u.way.now far (subst (λ (s : Span). KeepsJournal s a u.way.now) ring u.way.journal)));
    alike = entries_follow.renamed k.heads v.catalog.heads n.durable.units.entries left.journal.entries (names_kept a u.way.now k.heads v.catalog.heads n.durable.directory u.way.grouped) left.journal.alike;
    first = ap (λ (s : Span). s.first) ring ∙ left.journal.first;
    end = ap (λ (s : Span). s.end) ring ∙ left.journal.end;
    low = subst (λ (s : Span). s.end ≤ 2 ^ 62) (sym ring) left.journal.low;
  },
  refl,
)
  where
    ring : v.catalog.ru ≡ k.ru
    ring = ap (λ (x : Catalog). x.ru) same
