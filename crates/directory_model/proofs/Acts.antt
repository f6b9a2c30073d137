-- Heads and files over each act of the world.
use Rattle.std.proofs.Common.{◌≡◌, ℕ, zero, suc, ◌-◌, ◌+◌, ◌*◌, ◌/◌, List, [], ◌∷◌, Bool, Option, Some, None, map, replicate, slice_set, slice_index_or, refl, sym, ap, subst, ◌∙◌, arith}
use Rattle.std.specs.Option.{option_map}
use Rattle.std.specs.FinMap.{get}
use Rattle.std.proofs.lemmas.List.{length-map}
use Rattle.extents.specs.file_base.declared.head.FileHead.{FileHead}
use Rattle.extents.specs.file_base.declared.head.Organization.{Organization as Kept}
use Rattle.extents.specs.file_base.declared.head.Organization.TheVariants.{Sequential, Relative, Indexed}
use Rattle.file_images.specs.change_set.Files.{sizes_of as head_sizes}
use Rattle.file_images.specs.change_set.Maps.{Map, applied, map_of_records}
use Rattle.file_images.specs.change_set.Maps as maps
use Rattle.file_images.proofs.change_set.Changes.{agree}
use Rattle.file_images.specs.record_files.Any.{map_of, layout_by}
use Rattle.records_model.specs.vms_model.Ids.{Id}
use Rattle.records_model.specs.vms_model.Keys.{Key, Number, Text, End}
use Rattle.records_model.specs.vms_model.Transactions.{Outcome, Commit, Abort}
use Rattle.records_model.specs.Records.{Records, Change, Found}
use Rattle.records_model.specs.Records as base
use Rattle.file_images.specs.tree_model.Layouts.{Sizes, no_layout}
use Rattle.file_images.specs.tree_model.Setting.{layout_set, layout_changed}
use Rattle.records_model.specs.History.{current, changed_with, changes_by, settled_at}
use Rattle.file_images.specs.unit_laws.Units.{map_in, with_before_images, IsOrderly}
use Rattle.file_images.specs.unit_laws.Layouts.{layout_restored}
use Rattle.file_images.proofs.unit_laws.HistoryLaws.{aborts_one, changes_more, commits_one}
use Rattle.file_images.specs.run_model.Locks.{is_locked}
use Rattle.file_images.specs.run_model.World.{Durable, Node, File, Settlement, AreUnitsOf, Formats, Tables, Changes, Directs, acted, key_size_of, sizes_of, changed_file, directly_changed, settled_layout, settled_file, settlement_of, with_prepared, with_settlement}
use Rattle.file_images.specs.commit_protocol.Table as table
use Rattle.file_images.specs.log_laws.Slots.{slots_after}
use Rattle.directory_model.specs.Files.{IsCarried, IsFile, IsPlace, AreFiles, AgreesOnCarried, IsNamed, head_at, file_at, layout_of, organized_by}
use Rattle.directory_model.specs.Restoring.{IsRestored, IsPlaceRestored, AreRestored}
use Rattle.directory_model.specs.Laws.{KeepsFiles, AreFree, IsChanged, SameBut, carrying, changed_buckets, directly_buckets, settled_buckets}
use Rattle.directory_model.proofs.Places.{file_mapped, places_set, within_list}
use Rattle.directory_model.proofs.Finding.{finds_files}
use Rattle.directory_model.proofs.Dressing.{begins, ends, marks, saves}
use Rattle.directory_model.proofs.Moving.{carried_moved, file_moved, files_mapped, places_moved}
use Rattle.directory_model.proofs.Directly.{current_directly}

-- INIT
pub none_at : {A : Type 0} (count f : ℕ) → ◌≡◌ {A = Option A} (slice_index_or (replicate count None) f None) None
none_at zero f = refl
none_at (suc count) zero = refl
none_at (suc count) (suc f) = none_at count f

formats : (content : List (List ℕ)) (n : Node) (slots journal : ℕ) → AreFiles content (replicate 64 None) (acted (Formats slots journal) n).durable.directory
formats content n slots journal = record {
  heads_long = refl;
  directory_long = refl;
  each = λ f. subst (λ x. IsPlace content f x (file_at (acted (Formats slots journal) n).durable.directory f)) (sym (none_at {A = FileHead} 64 f)) (subst (λ x. IsPlace content f None x) (sym (none_at {A = File} 64 f)) tt);
}

-- PUT, UPDATE, DELETE, TRUNCATE

-- the file that is found is the one at its place
pub same_there : (directory : List (Option File)) (f : ℕ) (x y : File) → file_at directory f ≡ Some x → file_at directory f ≡ Some y → x ≡ y
same_there directory f x y p q = inside x y (sym p ∙ q)
  where
    inside : (x y : File) → Some x ≡ Some y → x ≡ y
    inside x y e = cc

-- what changes leave of the records, where these have what the keys have
applied_on : (m : Records) (keys : Map) (cs : List Change) (key : Key) → ((k : Key) → get m k ≡ keys k) → get (base.applied cs m) key ≡ applied cs keys key
applied_on m keys cs key same = ap (λ (x : Map). x key) (agree.applied_alike cs m) ∙ ap (λ (x : Map). applied cs x key) all
  where
    all : map_of_records m ≡ keys
    all = λ i k. same k i

-- what was found by the keys was found in the records
pub found_in : (m : Records) (keys : Map) (cs : List Change) → ((k : Key) → get m k ≡ keys k) → maps.Found cs keys → Found cs m
found_in m keys [] same found = tt
found_in m keys (c ∷ cs) same found = (found.0 ∙ sym (applied_on m keys cs c.key same), found_in m keys cs same found.1)

-- a file that is not indexed has no layout after changes
pub none_changed : (sizes : Sizes) (held : Key → Bool) (cs : List Change) → layout_changed sizes held cs no_layout ≡ no_layout
none_changed sizes held [] = refl
none_changed sizes held (c ∷ cs) = ap (layout_set sizes held c.key c.after) (none_changed sizes held cs) ∙ none_set c.key
  where
    none_set : (k : Key) → layout_set sizes held k c.after no_layout ≡ no_layout
    none_set (Text t) = refl
    none_set (Number n) = refl
    none_set End = refl

-- the sizes of an indexed file of the world are those of its head
sizes_are : (a : List (List ℕ)) (h : FileHead) (file : File) → IsFile a h file → h.organization ≡ Indexed → sizes_of file ≡ head_sizes h
sizes_are a h file is kind =
    ap (λ b. record { capacity = 512 * b - 16; fan_out = (512 * b - 16) / (key_size_of file.organization + 4) }) is.head.bucket
    ∙ ap (λ o. record { capacity = 512 * h.bucket - 16; fan_out = (512 * h.bucket - 16) / (key_size_of o + 4) }) (is.head.organization ∙ ap (λ o. organized_by o h) kind)

-- the layout of a file of the world after changes is that of its head
pub layout_after : (held : Key → Bool) (file : File) (cs : List Change) (a b : List (List ℕ)) (h new : FileHead) → IsFile a h file → layout_of new b ≡ layout_changed (head_sizes h) held cs (layout_of h a) →
    layout_changed (sizes_of file) held cs file.layout ≡ layout_of new b
layout_after held file cs a b h new is layout = ap (layout_changed (sizes_of file) held cs) is.layout ∙ go h.organization refl ∙ sym layout
  where
    go : (o : Kept) → h.organization ≡ o → layout_changed (sizes_of file) held cs (layout_by o h a) ≡ layout_changed (head_sizes h) held cs (layout_by o h a)
    go Sequential kind = none_changed (sizes_of file) held cs ∙ sym (none_changed (head_sizes h) held cs)
    go Relative kind = none_changed (sizes_of file) held cs ∙ sym (none_changed (head_sizes h) held cs)
    go Indexed kind = ap (λ (sizes : Sizes). layout_changed sizes held cs (layout_by Indexed h a)) (sizes_are a h file is kind)

changes : (a b : List (List ℕ)) (heads : List (Option FileHead)) (n : Node) (f : ℕ) (h new : FileHead) (name : List ℕ) (file : File) (tid serial : Id) (cs : List Change) → AreFiles a heads n.durable.directory → AreUnitsOf n →
    IsNamed heads f h name → file_at n.durable.directory f ≡ Some file → AreFree serial file cs → maps.Found cs (map_of h a) → IsChanged (is_locked n.volatile.locks name) cs a h b new → AgreesOnCarried h a b → SameBut f heads a b →
    AreFiles b (slice_set heads f (Some new)) (changed_buckets (is_locked n.volatile.locks name) tid serial cs f file n.durable.directory)
changes a b heads n f h new name file tid serial cs are units named there free found is stands same =
    let directory = n.durable.directory in
    let held = is_locked n.volatile.locks name in
    let at = finds_files.found a heads directory f h name are named in
    let one : at.0 ≡ file = same_there directory f at.0 file at.2.there there in
    let mine : IsFile a h file = subst (IsFile a h) one at.1 in
    let carried : IsCarried a f h file.carried = subst (λ (x : File). IsCarried a f h x.carried) one at.3 in
    let made = changes_more file.history serial cs (units.tells f file there).notes.orderly free (found_in (current file.history) (map_of h a) cs mine.records found) in
    places_moved a b heads directory f h new (carrying file.carried (changed_file held tid serial cs file)) are named.there
    (file_moved a b h new file (changed_with serial cs file.history) (layout_changed (sizes_of file) held cs file.layout) is.same is.form is.laid mine
    (λ key. made.current key ∙ applied_on (current file.history) (map_of h a) cs key mine.records ∙ ap (λ (m : Map). m key) (sym is.map))
    (layout_after held file cs a b h new mine is.layout)) (carried_moved a b f h new file.carried is.same stands carried) same

-- PUT, UPDATE, DELETE, TRUNCATE without a label
directs : (a b : List (List ℕ)) (heads : List (Option FileHead)) (n : Node) (f : ℕ) (h new : FileHead) (name : List ℕ) (file : File) (cs : List Change) (s : Settlement) → AreFiles a heads n.durable.directory → s.outcome ≡ Commit →
    IsNamed heads f h name → file_at n.durable.directory f ≡ Some file → file.history.live ≡ [] → IsChanged (is_locked n.volatile.locks name) cs a h b new → AgreesOnCarried h a b → SameBut f heads a b →
    AreFiles b (slice_set heads f (Some new)) (directly_buckets (is_locked n.volatile.locks name) s cs f file n.durable.directory)
directs a b heads n f h new name file cs s are commit named there none is stands same =
    let directory = n.durable.directory in
    let held = is_locked n.volatile.locks name in
    let at = finds_files.found a heads directory f h name are named in
    let one : at.0 ≡ file = same_there directory f at.0 file at.2.there there in
    let mine : IsFile a h file = subst (IsFile a h) one at.1 in
    let carried : IsCarried a f h file.carried = subst (λ (x : File). IsCarried a f h x.carried) one at.3 in
    let after : current (settled_at s.serial s.outcome s.moment (changed_with s.serial cs file.history)) ≡ base.applied cs (current file.history) =
    ap (λ (o : Outcome). current (settled_at s.serial o s.moment (changed_with s.serial cs file.history))) commit ∙ current_directly s.serial s.moment cs file.history none in
    places_moved a b heads directory f h new (carrying file.carried (directly_changed held s cs file)) are named.there
    (file_moved a b h new file (settled_at s.serial s.outcome s.moment (changed_with s.serial cs file.history)) (layout_changed (sizes_of file) held cs file.layout) is.same is.form is.laid mine
    (λ key. ap (λ (m : Records). get m key) after ∙ applied_on (current file.history) (map_of h a) cs key mine.records ∙ ap (λ (m : Map). m key) (sym is.map))
    (layout_after held file cs a b h new mine is.layout)) (carried_moved a b f h new file.carried is.same stands carried) same

-- The table.

-- what an act of the table makes of the directory: every file notes the settlement, where there is one
abbrev tabled_onto : Node → table.Act → ℕ → Durable
tabled_onto n a moment = record n.durable { log = slots_after a n.volatile.records n.durable.log; units = with_prepared a n.durable.units }

pub settled_directory : (n : Node) (a : table.Act) (moment : ℕ) (s : Settlement) → settlement_of a moment ≡ Some s → (acted (Tables a moment) n).durable.directory ≡ map (option_map (settled_file s)) n.durable.directory
settled_directory n a moment s is = ap (λ (o : Option Settlement). (with_settlement o (tabled_onto n a moment)).directory) is

pub quiet_directory : (n : Node) (a : table.Act) (moment : ℕ) → settlement_of a moment ≡ None → (acted (Tables a moment) n).durable.directory ≡ n.durable.directory
quiet_directory n a moment is = ap (λ (o : Option Settlement). (with_settlement o (tabled_onto n a moment)).directory) is

tables : (content : List (List ℕ)) (heads : List (Option FileHead)) (n : Node) (a : table.Act) (moment : ℕ) → settlement_of a moment ≡ None → AreFiles content heads n.durable.directory → AreFiles content heads (acted (Tables a moment) n).durable.directory
tables content heads n a moment none are = subst (AreFiles content heads) (sym (quiet_directory n a moment none)) are

-- END_TRANS
commits : (content : List (List ℕ)) (heads : List (Option FileHead)) (n : Node) (s : Settlement) → AreFiles content heads n.durable.directory → AreUnitsOf n → s.outcome ≡ Commit → AreFiles content heads (settled_buckets s n.durable.directory)
commits content heads n s are units commit = files_mapped content content heads n.durable.directory (λ file. carrying file.carried (settled_file s file)) are (λ f h file head there is carried. (
  subst (λ (o : Outcome). IsFile content h (record file { history = settled_at s.serial o s.moment file.history; layout = settled_layout o (changes_by s.serial file.history.live) file.layout })) (sym commit)
      (file_moved content content h h file (settled_at s.serial Commit s.moment file.history) file.layout (record { is = refl }) is.head.form is.laid is
      (λ key. (commits_one file.history s.serial s.moment (units.tells f file there).notes.orderly).current key ∙ is.records key) is.layout),
  carried,
))

-- ABORT_TRANS
file_aborted : (a b : List (List ℕ)) (h new : FileHead) (file : File) (s : Settlement) → s.outcome ≡ Abort → IsOrderly file.history → IsRestored a h (changes_by s.serial file.history.live) b new → IsFile a h file → IsFile b new (carrying file.carried (settled_file s file))
file_aborted a b h new file s abort orderly back is =
    let cs = changes_by s.serial file.history.live in
    subst (λ (o : Outcome). IsFile b new (record file { history = settled_at s.serial o s.moment file.history; layout = settled_layout o cs file.layout })) (sym abort)
    (file_moved a b h new file (settled_at s.serial Abort s.moment file.history) (layout_restored cs file.layout) back.same back.form back.laid is
    (λ key. (aborts_one file.history s.serial s.moment orderly).current key ∙ ap (λ (m : Map). with_before_images cs m key) all ∙ ap (λ (m : Map). m key) (sym back.map))
    (ap (layout_restored cs) is.layout ∙ sym back.layout))
  where
    all : map_in (current file.history) ≡ map_of h a
    all = λ i key. is.records key i

place_aborted : (a b : List (List ℕ)) (f : ℕ) (o o' : Option FileHead) (p : Option File) (s : Settlement) → s.outcome ≡ Abort → ((file : File) → p ≡ Some file → IsOrderly file.history) → IsPlaceRestored s.serial a o p b o' → ((h : FileHead) → o ≡ Some h → AgreesOnCarried h a b) → IsPlace a f o p →
    IsPlace b f o' (option_map (λ file. carrying file.carried (settled_file s file)) p)
place_aborted a b f None None None s abort orderly back stands is = tt
place_aborted a b f None (Some new) None s abort orderly back stands is = absurd back
place_aborted a b f None o' (Some file) s abort orderly back stands is = absurd is
place_aborted a b f (Some h) o' None s abort orderly back stands is = absurd is
place_aborted a b f (Some h) None (Some file) s abort orderly back stands is = absurd back
place_aborted a b f (Some h) (Some new) (Some file) s abort orderly back stands is = (file_aborted a b h new file s abort (orderly file refl) back is.0, carried_moved a b f h new file.carried back.same (stands h refl) is.1)

aborts : (b c : List (List ℕ)) (heads new : List (Option FileHead)) (n : Node) (s : Settlement) → AreFiles b heads n.durable.directory → AreUnitsOf n → s.outcome ≡ Abort → AreRestored s.serial b heads n.durable.directory c new →
    AreFiles c new (settled_buckets s n.durable.directory)
aborts b c heads new n s are units abort back = record {
  heads_long = back.long ∙ are.heads_long;
  directory_long = length-map n.durable.directory (option_map (λ file. carrying file.carried (settled_file s file))) ∙ are.directory_long;
  each = λ f. subst (λ x. IsPlace c f (head_at new f) x) (sym (file_mapped (λ file. carrying file.carried (settled_file s file)) n.durable.directory f))
      (place_aborted b c f (head_at heads f) (head_at new f) (file_at n.durable.directory f) s abort (λ file there. (units.tells f file there).notes.orderly) (back.each f) (back.carried f) (are.each f));
}

pub keeps_files : KeepsFiles
keeps_files = record {
  formats = formats;
  boots = λ content heads n are. are;
  draws = λ content heads n are. are;
  holds = λ content heads n serial name keys are. are;
  creates = λ content heads n f h file are within is carried. places_set content heads n.durable.directory f h file are within is carried;
  marks = marks;
  begins = begins;
  ends = ends;
  saves = saves;
  changes = changes;
  directs = directs;
  tables = tables;
  commits = commits;
  aborts = aborts;
}
