-- A node that a run left, as the next run finds it.
use Rattle.std.proofs.Common.{◌≡◌, ℕ, zero, suc, List, [], ◌∷◌, length, ◌≤◌, Bool, true, false, Option, Some, None, if◌then◌else◌, refl, sym, ◌∙◌, ap, subst}
use Rattle.std.specs.Prelude.{◌||◌, option_map}
use Rattle.std.specs.Str.{bytes_eq}
use Rattle.block_disk.specs.Disk.{DiskState}
use Rattle.careful_write.specs.Content.{content_of}
use Rattle.careful_write.specs.Load.{fitting}
use Rattle.careful_write.specs.State.{EachWhole}
use Rattle.file_base.specs.declared.head.FileHead.{FileHead}
use Rattle.file_base.specs.declared.head.Organization.{Organization as Kept}
use Rattle.file_base.specs.declared.head.Organization.TheVariants as kept
use Rattle.volume.specs.declared.catalog.Catalog.{Catalog}
use Rattle.vms_model.specs.Keys.{Key}
use Rattle.std.specs.List.{AllByRecursion, list_any}
use Rattle.std.proofs.lemmas.Slice.Eq.{bytes_eq-Decides}
use Rattle.vms_model.specs.Ids.{Id}
use Rattle.records_model.specs.History.{LiveChanges, changes_by, same_id}
use Rattle.table_keys.specs.IdLaws.{same_id_decides}
use Rattle.unit_laws.specs.Units.{SerialsDiffer}
use Rattle.commit_protocol.specs.Messages.{LogRecord}
use Rattle.world_laws.specs.run_model.Locks.{Lock, with_locks}
use Rattle.journal_model.specs.Entries.{Entry}
use Rattle.recovery_units.specs.volume_model.Entries.{AreEntries, IsFileOf}
use Rattle.unit_laws.specs.Journal.{is_of_file, Journal, JournalEntry, ChangeEntry, PreparedEntry, SettledEntry}
use Rattle.world_laws.specs.run_model.World.{Durable, FollowOneAnother, HasPlainEnd, HavePlainEnds, IsLogInOrder, keys_left, prepared_left, relocked, relocked_by, relocked_for, AreUnitsOf, File, IsOpening, LastIsReached, Node, Settlement, TellsUnits, AreResting, find_file, KeepAllImages, KeepsImages}
use Rattle.world_laws.specs.Ordered.{IsJournalInOrder, IsNoteOf, Suits}
use Rattle.world_laws.proofs.EntryLemmas.{all_more}
use Rattle.world_laws.specs.Nodes.{IsKeptDisk}
use Rattle.directory_model.specs.Files.{file_at, head_at}
use Rattle.directory_model.specs.Restoring.{AreLeft, IsLayoutOf, IsLeft, IsPlaceLeft, IsPlacePrepared, StandPrepared}
use Rattle.recovery_units.specs.volume_model.Volumes.{IsLeftBy, LeavesVolume}
use Rattle.recovery_units.specs.Uses.{IsCounted}
use Rattle.day_run.proofs.dtm_node.DiskLemmas.{ContentBy, have_disk}
use Rattle.dtm_run.specs.Headline.{DiskRepresents}
use Rattle.recovery_runs.specs.run_chains.Reopenings.{rebased_file, rebased_files, reopened}
use Rattle.dtm_run.proofs.Opened.{all_have, is_told}

-- Files.

module _ (moment : ℕ) where
  at_place : (fs : List (Option File)) (f : ℕ) → file_at (rebased_files moment fs) f ≡ option_map (rebased_file moment) (file_at fs f)
  at_place [] f = refl
  at_place (x ∷ fs) zero = refl
  at_place (x ∷ fs) (suc f) = at_place fs f

  by_name : (name : List ℕ) (fs : List (Option File)) → find_file name (rebased_files moment fs) ≡ option_map (rebased_file moment) (find_file name fs)
  by_name name [] = refl
  by_name name (None ∷ fs) = by_name name fs
  by_name name (Some f ∷ fs) = go (bytes_eq name f.name) (by_name name fs)
    where
      go : (b : Bool) → find_file name (rebased_files moment fs) ≡ option_map (rebased_file moment) (find_file name fs) →
          ◌≡◌ {A = Option File} (if b then Some (rebased_file moment f) else find_file name (rebased_files moment fs)) (option_map (rebased_file moment) (if b then Some f else find_file name fs))
      go true more = refl
      go false more = more

  as_many : (fs : List (Option File)) → length (rebased_files moment fs) ≡ length fs
  as_many [] = refl
  as_many (f ∷ fs) = ap suc (as_many fs)

  all_rest : (fs : List (Option File)) → AreResting (rebased_files moment fs)
  all_rest [] = tt
  all_rest (None ∷ fs) = all_rest fs
  all_rest (Some f ∷ fs) = (refl, all_rest fs)

  -- the file that one was
  pub record Was (o : Option File) (f : File) : Type 0 where
    pub file : File
    pub there : o ≡ Some file
    pub is : f ≡ rebased_file moment file

  was : (o : Option File) (f : File) → option_map (rebased_file moment) o ≡ Some f → Was o f
  was None f e = let none : ⊥ = cc in absurd none
  was (Some file) f e = let same : rebased_file moment file ≡ f = cc in record { file = file; there = refl; is = sym same }

  was_at : (fs : List (Option File)) (place : ℕ) (f : File) → file_at (rebased_files moment fs) place ≡ Some f → Was (file_at fs place) f
  was_at fs place f there = was (file_at fs place) f (sym (at_place fs place) ∙ there)

  pub was_named : (fs : List (Option File)) (name : List ℕ) (f : File) → find_file name (rebased_files moment fs) ≡ Some f → Was (find_file name fs) f
  was_named fs name f there = was (find_file name fs) f (sym (by_name name fs) ∙ there)

  own_again : (o : Kept) (file : File) → IsLayoutOf o file → IsLayoutOf o (rebased_file moment file)
  own_again kept.Sequential file h = h
  own_again kept.Relative file h = h
  own_again kept.Indexed file h = record { ordered = h.ordered; tells = h.tells }

  left_again : (content : List (List ℕ)) (h : FileHead) (file : File) → IsLeft content h file → IsLeft content h (rebased_file moment file)
  left_again content h file l = record {
    head = record { name = l.head.name; bucket = l.head.bucket; record_size = l.head.record_size; organization = l.head.organization; start = l.head.start; buckets = l.head.buckets; units = l.head.units; form = l.head.form };
    laid = l.laid;
    represents = l.represents;
    layout = l.layout;
    own = own_again h.organization file l.own;
    can = l.can;
  }

  place_again : (content : List (List ℕ)) (f : ℕ) (o : Option FileHead) (p : Option File) → IsPlaceLeft content f o p → IsPlaceLeft content f o (option_map (rebased_file moment) p)
  place_again content f None None l = tt
  place_again content f None (Some file) l = absurd l
  place_again content f (Some h) None l = absurd l
  place_again content f (Some h) (Some file) l = (left_again content h file l.0, l.1)

  files_again : (content : List (List ℕ)) (heads : List (Option FileHead)) (fs : List (Option File)) → AreLeft content heads fs → AreLeft content heads (rebased_files moment fs)
  files_again content heads fs l = record {
    heads_long = l.heads_long;
    directory_long = as_many fs ∙ l.directory_long;
    each = λ f. subst (IsPlaceLeft content f (head_at heads f)) (sym (at_place fs f)) (place_again content f (head_at heads f) (file_at fs f) (l.each f));
  }

  tells_again : (units : Journal) (f : File) → TellsUnits units f → TellsUnits units (rebased_file moment f)
  tells_again units f t = record {
    notes = record { notes = t.notes.notes; units = t.notes.units; some = t.notes.some; differ = t.notes.differ; orderly = record { represents = t.notes.orderly.represents; latest = t.notes.orderly.latest } };
    end = t.end;
  }

  note_again : (file f : File) (key : Key) (before : Option (List ℕ)) → f ≡ rebased_file moment file → IsNoteOf file key before → IsNoteOf f key before
  note_again file f key before is h = subst (λ (x : File). IsNoteOf x key before) (sym is) h

  suits_again : (fs : List (Option File)) (e : JournalEntry) → Suits fs e → Suits (rebased_files moment fs) e
  suits_again fs (ChangeEntry tid serial file key before) s = λ f there. let w = was_named fs file f there in note_again w.file f key before w.is (s w.file w.there)
  suits_again fs (PreparedEntry tid serial) s = tt
  suits_again fs (SettledEntry tid serial outcome moment) s = tt

  -- what prepared branches changed stands there again
  prepared_at : (units : Journal) (content : List (List ℕ)) (o : Option FileHead) (p : Option File) → IsPlacePrepared units content o p → IsPlacePrepared units content o (option_map (rebased_file moment) p)
  prepared_at units content None p h = tt
  prepared_at units content (Some x) None h = tt
  prepared_at units content (Some x) (Some file) h = h

  prepared_again : (units : Journal) (content : List (List ℕ)) (heads : List (Option FileHead)) (fs : List (Option File)) → StandPrepared units content heads fs → StandPrepared units content heads (rebased_files moment fs)
  prepared_again units content heads fs h = λ f. subst (IsPlacePrepared units content (head_at heads f)) (sym (at_place fs f)) (prepared_at units content (head_at heads f) (file_at fs f) (h f))

  -- The locks that a boot finds are the same.

  found_locks : (serial : Id) (key : Key) (before : Option (List ℕ)) (file : List ℕ) (ls : List Lock) (o : Option File) →
      ◌≡◌ {A = List Lock} (elim (option_map (rebased_file moment) o) [ Some f ↦ with_locks serial file (keys_left f key before) ls | None ↦ ls ]) (elim o [ Some f ↦ with_locks serial file (keys_left f key before) ls | None ↦ ls ])
  found_locks serial key before file ls None = refl
  found_locks serial key before file ls (Some f) = refl

  entry_locks : (serial : Id) (fs : List (Option File)) (e : JournalEntry) (ls : List Lock) → relocked_for serial (rebased_files moment fs) e ls ≡ relocked_for serial fs e ls
  entry_locks serial fs (ChangeEntry tid by file key before) ls =
      ap (λ (ms : List Lock). if same_id serial by then ms else ls) (ap (λ (o : Option File). elim o [ Some f ↦ with_locks serial file (keys_left f key before) ls | None ↦ ls ]) (by_name file fs) ∙ found_locks serial key before file ls (find_file file fs))
  entry_locks serial fs (PreparedEntry tid by) ls = refl
  entry_locks serial fs (SettledEntry tid by outcome at) ls = refl

  all_locks : (serial : Id) (fs : List (Option File)) (es : List JournalEntry) (ls : List Lock) → relocked_by serial (rebased_files moment fs) es ls ≡ relocked_by serial fs es ls
  all_locks serial fs [] ls = refl
  all_locks serial fs (e ∷ es) ls = ap (relocked_by serial (rebased_files moment fs) es) (entry_locks serial fs e ls) ∙ all_locks serial fs es (relocked_for serial fs e ls)

  locks_again : (rs : List LogRecord) (d : Durable) (ls : List Lock) → relocked rs (record d { directory = rebased_files moment d.directory }) ls ≡ relocked rs d ls
  locks_again [] d ls = refl
  locks_again (r ∷ rs) d ls = ap (relocked rs (record d { directory = rebased_files moment d.directory })) (all_locks r.serial d.directory d.units.entries ls) ∙ locks_again rs d (relocked_by r.serial d.directory d.units.entries ls)

  -- Branches' changes follow one another, and no record stands at the end.

  id_itself : (x : Id) → same_id x x ≡ true
  id_itself x = (same_id_decides x x).1 refl

  id_is : (x y : Id) → same_id x y ≡ true → x ≡ y
  id_is x y e = (same_id_decides x y).0 e

  others_differ : (x : Id) (ls : List LiveChanges) → AllByRecursion (λ (k : LiveChanges). same_id x k.serial ≡ false) ls → changes_by x ls ≡ []
  others_differ x [] h = refl
  others_differ x (l ∷ ls) h = ap (λ (b : Bool). if b then l.changes else changes_by x ls) h.0 ∙ others_differ x ls h.1

  each_follows : (ls : List LiveChanges) → SerialsDiffer ls → ((x : Id) → FollowOneAnother (changes_by x ls)) → AllByRecursion (λ (l : LiveChanges). FollowOneAnother l.changes) ls
  each_follows [] differ h = tt
  each_follows (l ∷ ls) differ h = (
    subst FollowOneAnother (ap (λ (b : Bool). if b then l.changes else changes_by l.serial ls) (id_itself l.serial)) (h l.serial),
    each_follows ls differ.1 (λ x. rest x (same_id x l.serial) refl (h x)),
  )
    where
      rest : (x : Id) (b : Bool) → same_id x l.serial ≡ b → FollowOneAnother (if b then l.changes else changes_by x ls) → FollowOneAnother (changes_by x ls)
      rest x true is k = subst FollowOneAnother (sym (others_differ x ls (subst (λ (y : Id). AllByRecursion (λ (m : LiveChanges). same_id y m.serial ≡ false) ls) (sym (id_is x l.serial is)) differ.0))) tt
      rest x false is k = k

  -- a file of a name is found
  record IsFoundNamed (fs : List (Option File)) (f : File) : Type 0 where
    place : ℕ
    file : File
    found : find_file f.name fs ≡ Some file
    at : file_at fs place ≡ Some file
    named : f.name ≡ file.name

  named_before : (fs : List (Option File)) (x f : File) → IsFoundNamed fs f → (b : Bool) → bytes_eq f.name x.name ≡ b → IsFoundNamed (Some x ∷ fs) f
  named_before fs x f r true is = record { place = zero; file = x; found = ap (λ (c : Bool). if c then Some x else find_file f.name fs) is; at = refl; named = (bytes_eq-Decides f.name x.name).0 is }
  named_before fs x f r false is = record { place = suc r.place; file = r.file; found = ap (λ (c : Bool). if c then Some x else find_file f.name fs) is ∙ r.found; at = r.at; named = r.named }

  found_named : (fs : List (Option File)) (p : ℕ) (f : File) → file_at fs p ≡ Some f → IsFoundNamed fs f
  found_named [] p f e = let none : ⊥ = cc in absurd none
  found_named (None ∷ fs) zero f e = let none : ⊥ = cc in absurd none
  found_named (None ∷ fs) (suc p) f e = let r = found_named fs p f e in record { place = suc r.place; file = r.file; found = r.found; at = r.at; named = r.named }
  found_named (Some x ∷ fs) zero f e =
      let same : x ≡ f = cc in
      record { place = zero; file = x; found = ap (λ (c : Bool). if c then Some x else find_file f.name fs) ((bytes_eq-Decides f.name x.name).1 (ap (λ (y : File). y.name) (sym same))); at = refl; named = ap (λ (y : File). y.name) (sym same) }
  found_named (Some x ∷ fs) (suc p) f e = named_before fs x f (found_named fs p f e) (bytes_eq f.name x.name) refl

  ends_again : (fs : List (Option File)) → ((p : ℕ) (f : File) → file_at fs p ≡ Some f → HasPlainEnd f) → HavePlainEnds (rebased_files moment fs)
  ends_again [] h = tt
  ends_again (None ∷ fs) h = ends_again fs (λ p f e. h (suc p) f e)
  ends_again (Some f ∷ fs) h = let k = h zero f refl in (record { follow = k.follow; absent = k.absent; carried = k.carried }, ends_again fs (λ p g e. h (suc p) g e))

  images_again : (m : Node) (fs : List (Option File)) → ((p : ℕ) (f : File) → file_at fs p ≡ Some f → KeepsImages m.name m.durable.boot m.durable.greatest f) → KeepAllImages m (rebased_files moment fs)
  images_again m [] h = tt
  images_again m (None ∷ fs) h = images_again m fs (λ p f e. h (suc p) f e)
  images_again m (Some f ∷ fs) h =
      let k = h zero f refl in (
        record {
          after_order = k.after_order;
          before_order = k.before_order;
          after_room = k.after_room;
          before_room = k.before_room;
          after_branches = k.after_branches;
          before_branches = k.before_branches;
          keys = k.keys;
          found = k.found;
          begun = k.begun;
          saved = k.saved;
          after_reached = k.after_reached;
          before_reached = k.before_reached;
        },
        images_again m fs (λ p g e. h (suc p) g e),
      )

-- The node.

module _ (content : List (List ℕ)) (v : Catalog) (n : Node) (l : LeavesVolume content v n) where
  again : ℕ
  again = n.durable.greatest

  pub units_again : AreUnitsOf (reopened n)
  units_again = record {
    tells = λ place f there. let w = was_at n.durable.greatest n.durable.directory place f there in subst (λ (x : File). TellsUnits n.durable.units x) (sym w.is) (tells_again n.durable.greatest n.durable.units w.file (l.units.tells place w.file w.there));
    marked = λ up. let none : ⊥ = cc in absurd none;
    reached = l.units.reached;
    names = λ p q f g at_p at_q same.
        let a = was_at n.durable.greatest n.durable.directory p f at_p in
        let b = was_at n.durable.greatest n.durable.directory q g at_q in
        l.units.names p q a.file b.file a.there b.there (sym (ap (λ (x : File). x.name) a.is) ∙ same ∙ ap (λ (x : File). x.name) b.is);
  }

  order_again : IsJournalInOrder (reopened n).durable
  order_again = record {
    suit = all_more (Suits n.durable.directory) (Suits (rebased_files n.durable.greatest n.durable.directory)) n.durable.units.entries (suits_again n.durable.greatest n.durable.directory) l.order.suit;
    order = l.order.order;
    few = l.order.few;
    moments = l.order.moments;
    fits = l.order.fits;
  }

  told_again : IsLogInOrder (reopened n)
  told_again = record {
    distinct = l.told.distinct;
    reached = l.told.reached;
    prepared_within = l.told.prepared_within;
    committed_within = l.told.committed_within;
    prepared = l.told.prepared;
    active = l.told.active;
    transactions = l.told.transactions;
    unsettled = l.told.unsettled;
    few = l.told.few;
    slots = l.told.slots;
  }

  pub leaves_again : LeavesVolume content v (reopened n)
  leaves_again = record {
    home = record { volume = l.home.volume; slots = l.home.slots; journal = l.home.journal; boot = l.home.boot; greatest = l.home.greatest; last = l.home.last };
    log = record { keeps = l.log.keeps; whole = l.log.whole };
    journal = record { entries = l.journal.entries; is = l.journal.is; alike = l.journal.alike; first = l.journal.first; end = l.journal.end; low = l.journal.low };
    units = units_again;
    order = order_again;
    told = told_again;
    files = files_again n.durable.greatest content v.heads n.durable.directory l.files;
    prepared = prepared_again n.durable.greatest n.durable.units content v.heads n.durable.directory l.prepared;
  }

  -- each entry is of a file that is there
  entry_named : (name : List ℕ) → find_file name n.durable.directory ≡ None → (es : List JournalEntry) (ds : List Entry) → AreEntries v.heads es ds → list_any (is_of_file name) es ≡ false
  entry_named name none [] ds h = refl
  entry_named name none (e ∷ es) [] h = absurd h
  entry_named name none (e ∷ es) (d ∷ ds) h = ap (λ b. b || list_any (is_of_file name) es) (by e h.1) ∙ entry_named name none es ds h.3
    where
      no_file : (o : Option FileHead) (p : Option File) (x : FileHead) → o ≡ Some x → IsPlaceLeft content h.0 o p → (file : File) × (p ≡ Some file) × (file.name ≡ x.name)
      no_file None p x e k = let never : ⊥ = cc in absurd never
      no_file (Some y) None x e k = absurd k
      no_file (Some y) (Some file) x e k = (file, refl, k.0.head.name ∙ ap (λ (z : FileHead). z.name) (let same : y ≡ x = cc in same))

      by : (x : JournalEntry) → IsFileOf v.heads x h.0 → is_of_file name x ≡ false
      by (ChangeEntry tid serial file key before) k = go (bytes_eq name file) refl
        where
          go : (b : Bool) → bytes_eq name file ≡ b → bytes_eq name file ≡ false
          go false is = is
          go true is =
              let f = no_file (head_at v.heads h.0) (file_at n.durable.directory h.0) k.0 k.1 (l.files.each h.0) in
              let r = found_named n.durable.greatest n.durable.directory h.0 f.0 f.1 in
              let same : f.0.name ≡ name = f.2 ∙ k.2 ∙ sym ((bytes_eq-Decides name file).0 is) in
              let found : find_file name n.durable.directory ≡ Some r.file = subst (λ y. find_file y n.durable.directory ≡ Some r.file) same r.found in
              let no : None ≡ Some r.file = sym none ∙ found in
              let never : ⊥ = cc in
              absurd never
      by (PreparedEntry tid serial) k = refl
      by (SettledEntry tid serial outcome at) k = refl

  pub named_again : (name : List ℕ) → find_file name (rebased_files n.durable.greatest n.durable.directory) ≡ None → list_any (is_of_file name) n.durable.units.entries ≡ false
  named_again name none = entry_named name (was_none (find_file name n.durable.directory) (sym (by_name n.durable.greatest name n.durable.directory) ∙ none)) n.durable.units.entries l.journal.entries l.journal.alike
    where
      was_none : (o : Option File) → option_map (rebased_file n.durable.greatest) o ≡ None → o ≡ None
      was_none None e = refl
      was_none (Some f) e = let never : ⊥ = cc in absurd never

  plain_at : IsKeptDisk n → (p : ℕ) (f : File) → file_at n.durable.directory p ≡ Some f → HasPlainEnd f
  plain_at k p f e =
      let r = found_named n.durable.greatest n.durable.directory p f e in
      let place : p ≡ r.place = l.units.names p r.place f r.file e r.at r.named in
      let same : f ≡ r.file = file_is f r.file (sym e ∙ ap (file_at n.durable.directory) place ∙ r.at) in
      let plain = k.filed.plain f.name f (r.found ∙ ap (λ (x : File). Some x) (sym same)) in
      record {
        follow = each_follows n.durable.greatest f.history.live (l.units.tells p f e).notes.differ plain.follow;
        absent = plain.absent;
        carried = k.filed.carries f.name f (r.found ∙ ap (λ (x : File). Some x) (sym same));
      }
    where
      file_is : (x y : File) → ◌≡◌ {A = Option File} (Some x) (Some y) → x ≡ y
      file_is x y q = cc

  images_at : IsKeptDisk n → (p : ℕ) (f : File) → file_at n.durable.directory p ≡ Some f → KeepsImages n.name n.durable.boot n.durable.greatest f
  images_at k p f e =
      let r = found_named n.durable.greatest n.durable.directory p f e in
      let place : p ≡ r.place = l.units.names p r.place f r.file e r.at r.named in
      let same : f ≡ r.file = file_is f r.file (sym e ∙ ap (file_at n.durable.directory) place ∙ r.at) in
      k.filed.images f.name f (r.found ∙ ap (λ (x : File). Some x) (sym same))
    where
      file_is : (x y : File) → ◌≡◌ {A = Option File} (Some x) (Some y) → x ≡ y
      file_is x y q = cc

  last_again : (o : Option Settlement) → LastIsReached n o → LastIsReached (reopened n) o
  last_again None h = tt
  last_again (Some s) h = h

  pub opens_again : IsKeptDisk n → LastIsReached n n.durable.last → IsOpening (reopened n)
  opens_again kept last = record {
    down = refl;
    made = refl;
    was_down = refl;
    clock = refl;
    volatile = refl;
    settled = refl;
    calls = refl;
    under_way = refl;
    resting = all_rest n.durable.greatest n.durable.directory;
    last = last_again n.durable.last last;
    units = units_again;
    log = told_again;
    ends = ends_again n.durable.greatest n.durable.directory (plain_at kept);
    images = images_again n.durable.greatest (reopened n) n.durable.directory (images_at kept);
    named = named_again;
    few_locks = subst (λ (ls : List Lock). length ls ≤ 4096) (sym (locks_again n.durable.greatest (prepared_left n.durable) n.durable [])) kept.few;
  }

pub left_by_again : (content : List (List ℕ)) (n : Node) → IsLeftBy content n → IsLeftBy content (reopened n)
left_by_again content n l = record { catalog = l.catalog; tells = l.tells; sound = l.sound; leaves = λ whole. leaves_again content l.catalog n (l.leaves whole) }

-- on a disk that has one image of such a content it stands as before the first line
pub stands_again : (name : List ℕ) (d : DiskState) (n : Node) (image : List (List ℕ)) → n.name ≡ name → n.blocks ≡ d.size → d.seen ≡ Some image → d.pending ≡ [] → IsCounted d → EachWhole (content_of image) → fitting image ≡ true → IsLeftBy (content_of image) n → DiskRepresents name d (reopened n)
stands_again name d n image named sized told settled counted whole fits left =
    let again = left_by_again (content_of image) n left in
    let sound = (left.leaves whole).home.volume in
    record {
      name_is = named;
      blocks = sized;
      told = is_told d.seen image told;
      counted = counted;
      has = have_disk (reopened n) (fitting image) (content_of image) d refl (all_have d image told settled) (subst (ContentBy (reopened n) (fitting image) (content_of image)) (sym sound) (fits, again));
    }
