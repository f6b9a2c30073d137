-- What the rows of a task leave of a node that is up.
use Rattle.std.proofs.Common.{◌≡◌, ◌<◌, ℕ, ◌+◌, List, [], ◌∷◌, ◌++◌, length, map, Bool, true, false, Option, Some, None, if◌then◌else◌, refl, sym, ◌∙◌, ap, subst, arith, inl, inr}
use Rattle.std.specs.Prelude.{is_some, nat_le, nat_lt}
use Rattle.std.specs.FinMap.{get-empty}
use Rattle.std.specs.List.{AllByRecursion}
use Rattle.std.specs.Option.{option_map}
use Rattle.std.proofs.lemmas.Bool.{and_from, both_ways, false_from_ne_true, leb-false, ltb-false}
use Rattle.vms_model.specs.Ids.{Id}
use Rattle.vms_model.specs.Keys.{End}
use Rattle.vms_model.specs.Limits.{branch_limit}
use Rattle.run_model.specs.transcript_model.Lines as line
use Rattle.run_model.specs.transcript_model.Lines.{Line}
use Rattle.run_model.specs.script_model.Statements.{Form, Images, NoImages, NoRecoveryUnits, Recovery, RecoveryUnits, Setting}
use Rattle.run_model.specs.records_model.Records.{Change, key_cmp}
use Rattle.run_model.specs.records_model.History.{LiveChanges, changed_it, changes_by, first_to_change, same_id}
use Rattle.run_model.specs.unit_laws.Units.{has_changes}
use Rattle.run_model.specs.unit_laws.Journal.{JournalEntry, RecoveryUnit, find_unit, serial_in, units_in}
use Rattle.run_model.specs.unit_laws.JournalLaws.{is_unit}
use Rattle.run_model.specs.recovery_model.File.{FileState}
use Rattle.run_model.specs.recovery_model.Recovery.{Backward, Forward, Refusal, Way, in_use, refusal, first_of as first_refusal}
use Rattle.run_model.specs.commit_protocol.Table as table
use Rattle.run_model.specs.commit_protocol.Table.{Branch, Key as BranchKey, Active, Joining, Notes, Tm, after, branch_serials, find, find_serial, first, is_first, record_serials}
use Rattle.run_model.specs.commit_protocol.Rows as rows
use Rattle.run_model.specs.commit_protocol.Rows.{Event, blank, row}
use Rattle.run_model.specs.commit_protocol.Allowed.{allowed, has_room, is_prepared}
use Rattle.run_model.specs.commit_protocol.Standing.{BeginsNothing}
use Rattle.run_model.specs.commit_protocol.World.{In}
use Rattle.run_model.proofs.commit_protocol.Lists.{in_left}
use Rattle.run_model.proofs.commit_protocol.Serials.{there_serial, unique_of}
use Rattle.run_model.proofs.commit_protocol.StandingRows.{rows_stand}
use Rattle.run_model.proofs.commit_protocol.Within.{ActsWithin}
use Rattle.run_model.proofs.commit_protocol.WithinRows.{row_within}
use Rattle.run_model.specs.log_laws.Slots.{AllTell, IsFresh, size, branches_added}
use Rattle.run_model.proofs.log_laws.RowSlots.{row_size, row_tells}
use Rattle.run_model.specs.World.{Act, BeginsImages, Creates, Draws, EndsImages, File, ForUnits, Mark, Marks, Node, Recovers, Saves, buckets_loaded, state_of, Shared, Tables, acted, find_file, free_place, lowest_free, next_id, next_moment, serials_of, shared_after, tm_of}
use Rattle.run_model.specs.Operations.{refused_if}
use Rattle.run_model.specs.Answers.{Row, blocks_for, blocks_of, blocks_recovered, created, creates, more_branches, new_file, of_file, on_free, records_recovered, recovers, recovery_refused, refusal_line, sets, silent, start_of, to_file, way_of, table_rows, there_is_file, unchanged_file}
use Rattle.run_model.specs.Steps.{node_after_rows}
use Rattle.world_laws.specs.Running.{AllFound, FileImages, LeavesOpen, IsDrawn}
use Rattle.world_laws.proofs.KeptImages.{keeps_created}
use Rattle.world_laws.proofs.ToldImages.{undrawn_open}
use Rattle.world_laws.proofs.IdLemmas.{id_is, id_itself}
use Rattle.world_laws.proofs.AnswerLemmas.{neither, not_refused}
use Rattle.world_laws.proofs.EntryLemmas.{all_more}
use Rattle.world_laws.proofs.FindLemmas.{some_is}
use Rattle.world_laws.proofs.HeldLemmas.{noted_at}
use Rattle.world_laws.proofs.DiskLemmas.{unnamed_found}
use Rattle.world_laws.proofs.CarriedLemmas.{recovered_plain}
use Rattle.world_laws.proofs.RowActs.{rows_are_row_acts}
use Rattle.world_laws.proofs.RowLemmas.{begun_up, log_after, rows_up}
use Rattle.world_laws.proofs.SlotLemmas.{length_slots}
use Rattle.world_laws.proofs.TableLemmas.{in_serials, same_serials}
use Rattle.world_laws.proofs.UpLemmas.{created_up, differ, drew_up, marked_up, recovered_up, saved_up}
use Rattle.world_laws.specs.Nodes.{AreUp, IsRoomy, IsUp}

-- rows keep a node that is up so, act by act
pub record RowsKeep (rs : List Row) (n : Node) : Type 0 where
  pub up : AreUp rs n
  pub room : IsRoomy (node_after_rows rs n)

-- Events of the table.

rows_tm : (acts : List table.Act) (s : Shared) (n : Node) → tm_of (node_after_rows (table_rows acts s n) n) ≡ after acts (tm_of n)
rows_tm [] s n = refl
rows_tm (a ∷ acts) s n = rows_tm acts (shared_after (Tables a (next_moment n)) s) (acted (Tables a (next_moment n)) n)

rows_slots : (acts : List table.Act) (s : Shared) (n : Node) → length (node_after_rows (table_rows acts s n) n).durable.log ≡ length n.durable.log
rows_slots [] s n = refl
rows_slots (a ∷ acts) s n = rows_slots acts (shared_after (Tables a (next_moment n)) s) (acted (Tables a (next_moment n)) n) ∙ ap length (log_after a (next_moment n) n) ∙ length_slots a n.volatile.records n.durable.log

begins_fresh : (tm : Tm) (e : Event) → BeginsNothing e → IsFresh tm e
begins_fresh tm (rows.Start t due) b = absurd b
begins_fresh tm (rows.Begin t s bid) b = absurd b
begins_fresh tm (rows.Authorise t bid) b = tt
begins_fresh tm (rows.JoinRm s x) b = tt
begins_fresh tm (rows.Changed s) b = tt
begins_fresh tm (rows.EndTrans t) b = tt
begins_fresh tm (rows.EndBranch s) b = tt
begins_fresh tm (rows.AbortBranch s why) b = tt
begins_fresh tm (rows.Replied s x r) b = tt
begins_fresh tm (rows.Got m) b = tt
begins_fresh tm (rows.Clock now) b = tt
begins_fresh tm (rows.LinkDown x) b = tt
begins_fresh tm rows.RunDown b = tt
begins_fresh tm (rows.InquireBranch s) b = tt

begins_none : (e : Event) → BeginsNothing e → branches_added e ≡ 0
begins_none (rows.Start t due) b = absurd b
begins_none (rows.Begin t s bid) b = absurd b
begins_none (rows.Authorise t bid) b = refl
begins_none (rows.JoinRm s x) b = refl
begins_none (rows.Changed s) b = refl
begins_none (rows.EndTrans t) b = refl
begins_none (rows.EndBranch s) b = refl
begins_none (rows.AbortBranch s why) b = refl
begins_none (rows.Replied s x r) b = refl
begins_none (rows.Got m) b = refl
begins_none (rows.Clock now) b = refl
begins_none (rows.LinkDown x) b = refl
begins_none rows.RunDown b = refl
begins_none (rows.InquireBranch s) b = refl

pub event_keeps : (e : Event) (s : Shared) (n : Node) → BeginsNothing e → allowed (tm_of n) e ≡ true → IsUp n → IsRoomy n → RowsKeep (table_rows (row (tm_of n) e) s n) n
event_keeps e s n b a h room = record {
  up = rows_up (row (tm_of n) e) s n h (rows_stand (tm_of n) e (unique_of n.volatile.branches (differ n h.table)) b) (row_tells (tm_of n) e n.durable.log h.table.apart (begins_fresh (tm_of n) e b) room h.table.log)
      (row_within (tm_of n) e h.table.limits a) (rows_are_row_acts (tm_of n) e);
  room =
      let tm = ap size (rows_tm (row (tm_of n) e) s n) in
      let slots = rows_slots (row (tm_of n) e) s n in
      let less = row_size (tm_of n) e h.table.apart in
      let none = begins_none e b in
      omega (arith, tm, slots, less, none, room);
}

-- ids that a node draws next are none that it has drawn
pub undrawn : (n : Node) (x : Id) → IsDrawn n.name n.durable.boot n.volatile.drawn x → x ≡ next_id n → ⊥
undrawn n x d e = elim d.1 [
  | inl earlier ↦ (let b : x.boot ≡ n.durable.boot = ap (λ (i : Id). i.boot) e in omega (arith, earlier, b))
  | inr here ↦ (let q : x.seq ≡ n.volatile.drawn + 1 = ap (λ (i : Id). i.seq) e in let low = here.1 in omega (arith, q, low))
]

none_find : (k : BranchKey) (bs : List Branch) → (In k.serial (branch_serials bs) → ⊥) → find k bs ≡ None
none_find k bs f = go (find k bs) refl
  where
    go : (o : Option Branch) → find k bs ≡ o → o ≡ None
    go (Some b) e = absurd (f (there_serial k bs (b, e)))
    go None e = refl

-- a branch begins under the id that is drawn, and perhaps sends a message
module _ (n : Node) (s : Shared) (h : IsUp n) (room : IsRoomy n) (refused : more_branches n ≡ None) where
  few : (length n.volatile.branches < 64) × (length n.volatile.branches + length n.volatile.records < length n.durable.log)
  few =
      let r = neither (refused_if (nat_le branch_limit (length n.volatile.branches)) (line.QuotaExceeded line.Branches branch_limit)) _ refused in (
        leb-false branch_limit (length n.volatile.branches) (not_refused (nat_le branch_limit (length n.volatile.branches)) (line.QuotaExceeded line.Branches branch_limit) r.0),
        leb-false (length n.durable.log) (length n.volatile.branches + length n.volatile.records) (not_refused (nat_le (length n.durable.log) (length n.volatile.branches + length n.volatile.records)) (line.QuotaExceeded line.Slots (length n.durable.log)) r.1),
      )

  fresh : In (next_id n) (branch_serials n.volatile.branches ++ record_serials n.volatile.records) → ⊥
  fresh i = undrawn n (next_id n) (h.table.drawn (next_id n) i) refl

  pub absent_next : (tid : Id) → find (table.child tid (next_id n)) n.volatile.branches ≡ None
  absent_next tid = none_find (table.child tid (next_id n)) n.volatile.branches (λ i. fresh (in_left (next_id n) (branch_serials n.volatile.branches) (record_serials n.volatile.records) i))

  -- the room that the protocol asks for
  pub roomy : has_room (tm_of n) ≡ true
  roomy = and_from _ _ (below (length n.volatile.branches) 64 few.0) (below (length n.volatile.branches + length n.volatile.records) 512 (let a = few.1 in let b = h.slots in omega (arith, a, b)))
    where
      below : (a b : ℕ) → a < b → nat_lt a b ≡ true
      below a b l = go (nat_lt a b) refl
        where
          go : (t : Bool) → nat_lt a b ≡ t → t ≡ true
          go true e = refl
          go false e = absurd (let k = ltb-false a b e in omega (arith, k, l))

  pub begin_keeps : (b : Branch) (e : Event) → b.key.serial ≡ next_id n → is_prepared b.state ≡ false → b.changed ≡ false → IsFresh (tm_of n) e → (more : List table.Act) → row (tm_of n) e ≡ Notes b ∷ more → allowed (tm_of n) e ≡ true → branches_added e ≡ 1 →
      ((m : Node) (r : Shared) → IsUp m → AreUp (table_rows more r m) m) → RowsKeep (table_rows (row (tm_of n) e) s (acted Draws n)) (acted Draws n)
  begin_keeps b e is state changed free more shape a one rest =
      let m = acted Draws n in
      let up = drew_up n h in
      let told = row_tells (tm_of n) e n.durable.log h.table.apart free room h.table.log in
      let within = row_within (tm_of n) e h.table.limits a in
      let other : AllByRecursion (λ (x : JournalEntry). same_id b.key.serial (serial_in x) ≡ false) n.durable.units.entries =
      all_more (λ (x : JournalEntry). IsDrawn n.name n.durable.boot n.volatile.drawn (serial_in x)) (λ (x : JournalEntry). same_id b.key.serial (serial_in x) ≡ false) n.durable.units.entries
      (λ x d. false_from_ne_true _ (λ t. undrawn n (serial_in x) d (sym (id_is b.key.serial (serial_in x) t) ∙ is))) h.running.drawn in
      let unsettled : AllFound (FileImages (LeavesOpen b.key.serial)) n.durable.directory =
      undrawn_open n.name n.durable.boot n.volatile.drawn b.key.serial n.durable.directory (λ y d e. undrawn n y d (e ∙ is)) h.running.images.drawn in
      let not_in : In b.key.serial (branch_serials n.volatile.branches ++ record_serials n.volatile.records) → ⊥ = λ i. fresh (subst (λ y. In y (branch_serials n.volatile.branches ++ record_serials n.volatile.records)) is i) in
      let branches_added = begun_up m (next_moment m) up b (none_find b.key n.volatile.branches (λ i. not_in (in_left b.key.serial (branch_serials n.volatile.branches) (record_serials n.volatile.records) i))) state changed other unsettled not_in
      (subst (IsDrawn n.name n.durable.boot (n.volatile.drawn + 1)) (sym is) (refl, inr (refl, omega arith))) (subst (λ acts. AllTell acts (tm_of n) n.durable.log) shape told).0 (subst (ActsWithin (tm_of n)) shape within).0 in
      record {
        up = subst (λ acts. AreUp (table_rows acts s m) m) (sym shape) (up, rest (acted (Tables (Notes b) (next_moment m)) m) (shared_after (Tables (Notes b) (next_moment m)) s) branches_added);
        room =
            let tm = ap size (rows_tm (row (tm_of n) e) s m) in
            let slots = rows_slots (row (tm_of n) e) s m in
            let less = row_size (tm_of n) e h.table.apart in
            let low = few.1 in
            omega (arith, tm, slots, less, one, low);
      }

-- Rows that show lines alone, or one act.

pub nothing_done : (n : Node) → IsUp n → IsRoomy n → RowsKeep [] n
nothing_done n h room = record { up = h; room = room }

pub shown_keeps : {A : Type 0} (shows : A → List Line) (xs : List A) (n : Node) → IsUp n → IsRoomy n → RowsKeep (map (λ x. record { act = None; lines = shows x }) xs) n
shown_keeps shows [] n h room = nothing_done n h room
shown_keeps shows (x ∷ xs) n h room = let more = shown_keeps shows xs n h room in record { up = (h, more.up); room = more.room }

pub not_there : (n : Node) (file : List ℕ) → new_file n file ≡ None → find_file file n.durable.directory ≡ None
not_there n file e = go (find_file file n.durable.directory) refl e
  where
    go : (o : Option File) → find_file file n.durable.directory ≡ o → ◌≡◌ {A = Option Line} (elim o [ Some f ↦ Some line.FileExists | None ↦ None ]) None → find_file file n.durable.directory ≡ None
    go (Some f) is k = let none : ⊥ = cc in absurd none
    go None is k = is

pub there_is : (n : Node) (file : List ℕ) → there_is_file n file ≡ None → (f : File) × (find_file file n.durable.directory ≡ Some f)
there_is n file e = go (find_file file n.durable.directory) refl e
  where
    go : (o : Option File) → find_file file n.durable.directory ≡ o → ◌≡◌ {A = Option Line} (elim o [ Some f ↦ None | None ↦ Some line.FileNotFound ]) None → (f : File) × (find_file file n.durable.directory ≡ Some f)
    go (Some f) is k = (f, is)
    go None is k = let none : ⊥ = cc in absurd none

pub file_says : (n : Node) (file : List ℕ) (f : File) (says : File → Option Line) → find_file file n.durable.directory ≡ Some f → of_file n file says ≡ None → says f ≡ None
file_says n file f says found e = go (find_file file n.durable.directory) found e
  where
    go : (o : Option File) → o ≡ Some f → ◌≡◌ {A = Option Line} (elim o [ Some g ↦ says g | None ↦ None ]) None → says f ≡ None
    go (Some g) is k = subst (λ (x : File). says x ≡ None) (some_is g f is) k
    go None is k = let none : ⊥ = cc in absurd none

-- A file is made, or marked.

pub create_keeps : (n : Node) (file : List ℕ) (bucket size : ℕ) (form : Form) → new_file n file ≡ None → IsUp n → IsRoomy n → RowsKeep (creates n (λ start. created file bucket size form start n.durable.greatest) (blocks_for bucket size form)) n
create_keeps n file bucket size form refused h room = go (free_place n.durable.directory) refl
  where
    none : find_file file n.durable.directory ≡ None
    none = not_there n file refused

    one : (place start : ℕ) → free_place n.durable.directory ≡ Some place → RowsKeep (silent (Creates place (created file bucket size form start n.durable.greatest)) ∷ []) n
    one place start free =
        let f = created file bucket size form start n.durable.greatest in
        record { up = (h, created_up place f n (refl, unnamed_found file n.durable.directory none, h.running.unnoted file none, free, get-empty key_cmp End, record { after = tt; before = tt; save = λ v e. let no : ⊥ = cc in absurd no }, keeps_created n.name n.durable.boot n.durable.greatest file bucket size form start) none (λ P. record { after = tt; before = tt }) h); room = room }

    with_start : (place : ℕ) → free_place n.durable.directory ≡ Some place → (o : Option ℕ) →
        RowsKeep (elim o [ Some start ↦ record { act = Some (Creates place (created file bucket size form start n.durable.greatest)); lines = [] } ∷ [] | None ↦ [] ]) n
    with_start place free (Some start) = one place start free
    with_start place free None = nothing_done n h room

    go : (o : Option ℕ) → free_place n.durable.directory ≡ o →
        RowsKeep (elim o [ Some place ↦ elim (lowest_free n (blocks_for bucket size form)) [ Some start ↦ record { act = Some (Creates place (created file bucket size form start n.durable.greatest)); lines = [] } ∷ [] | None ↦ [] ] | None ↦ [] ]) n
    go (Some place) free = with_start place free (lowest_free n (blocks_for bucket size form))
    go None free = nothing_done n h room

-- A file that no unsettled branch has changed has none.
module _ (n : Node) (file : List ℕ) (h : IsUp n) where
  none_of : (f : File) (xs : List Id) (x : Id) → first_to_change f.history xs ≡ None → In x xs → changed_it f.history x ≡ false
  none_of f [] x e i = absurd i
  none_of f (y ∷ ys) x e i = go (changed_it f.history y) refl e (none_of f ys x)
    where
      go : (b : Bool) → changed_it f.history y ≡ b → ◌≡◌ {A = Option Id} (if b then Some y else first_to_change f.history ys) None → (first_to_change f.history ys ≡ None → In x ys → changed_it f.history x ≡ false) → changed_it f.history x ≡ false
      go true t k more = let none : ⊥ = cc in absurd none
      go false t k more = elim i [ inl e ↦ subst (λ z. changed_it f.history z ≡ false) (sym e) t | inr m ↦ more k m ]

  first_none : (f : File) → unchanged_file n f ≡ None → first_to_change f.history (serials_of n.volatile.branches) ≡ None
  first_none f e = go (first_to_change f.history (serials_of n.volatile.branches)) e
    where
      go : (o : Option Id) → ◌≡◌ {A = Option Line} (elim o [ Some serial ↦ Some (line.FileLocked serial) | None ↦ None ]) None → o ≡ None
      go (Some x) k = let none : ⊥ = cc in absurd none
      go None k = refl

  changed : (f : File) (x : Id) → has_changes (changes_by x f.history.live) ≡ true → changed_it f.history x ≡ true
  changed f x e = go (changes_by x f.history.live) e
    where
      go : (cs : List Change) → has_changes cs ≡ true → (elim cs [ [] ↦ false | c ∷ ds ↦ true ]) ≡ true
      go [] k = k
      go (c ∷ cs) k = refl

  pub file_rests : (f : File) → find_file file n.durable.directory ≡ Some f → unchanged_file n f ≡ None → f.history.live ≡ []
  file_rests f found e = go f.history.live refl (noted_at n.durable.units file n.durable.directory f h.filed.can found).units (noted_at n.durable.units file n.durable.directory f h.filed.can found).some
    where
      unit_branch : (x : Id) (o : Option RecoveryUnit) → find_unit x (units_in n.durable.units.entries) ≡ o → is_some o ≡ true → In x (serials_of n.volatile.branches)
      unit_branch x (Some u) k j = let r = h.table.branches x u k in subst (In x) (sym (same_serials n.volatile.branches)) (subst (λ y. In y (branch_serials n.volatile.branches)) r.serial (in_serials r.branch n.volatile.branches r.there))
      unit_branch x None k j = let none : ⊥ = cc in absurd none

      go : (ls : List LiveChanges) → f.history.live ≡ ls → AllByRecursion (λ (l : LiveChanges). is_unit l.serial n.durable.units ≡ true) f.history.live → AllByRecursion (λ (l : LiveChanges). has_changes l.changes ≡ true) f.history.live → ls ≡ []
      go [] is u c = refl
      go (l ∷ ls) is u c =
          let first_unit = (subst (AllByRecursion (λ (l : LiveChanges). is_unit l.serial n.durable.units ≡ true)) is u).0 in
          let some = (subst (AllByRecursion (λ (l : LiveChanges). has_changes l.changes ≡ true)) is c).0 in
          let own : changes_by l.serial f.history.live ≡ l.changes = ap (changes_by l.serial) is ∙ ap (λ b. if b then l.changes else changes_by l.serial ls) (id_itself l.serial) in
          absurd (both_ways _ (none_of f (serials_of n.volatile.branches) l.serial (first_none f e) (unit_branch l.serial (find_unit l.serial (units_in n.durable.units.entries)) refl first_unit))
          (changed f l.serial (subst (λ cs. has_changes cs ≡ true) (sym own) some)))

pub unchanged_rests : (n : Node) (file : List ℕ) (f : File) → find_file file n.durable.directory ≡ Some f → unchanged_file n f ≡ None → IsUp n → f.history.live ≡ []
unchanged_rests n file f found e h = file_rests n file h f found e

-- what is done to a file, where it is there, and to free blocks, where there are so many
pub to_file_keeps : (n : Node) (file : List ℕ) (does : File → List Row) → ((f : File) → find_file file n.durable.directory ≡ Some f → RowsKeep (does f) n) → IsUp n → IsRoomy n → RowsKeep (to_file n file does) n
to_file_keeps n file does each h room = go (find_file file n.durable.directory) refl
  where
    go : (o : Option File) → find_file file n.durable.directory ≡ o → RowsKeep (elim o [ Some f ↦ does f | None ↦ [] ]) n
    go (Some f) e = each f e
    go None e = nothing_done n h room

on_free_keeps : (n : Node) (need : ℕ) (act : ℕ → Act) → ((start : ℕ) → RowsKeep (silent (act start) ∷ []) n) → IsUp n → IsRoomy n → RowsKeep (on_free n need act) n
on_free_keeps n need act each h room = each (start_of (lowest_free n need))

module _ (n : Node) (file : List ℕ) (h : IsUp n) (room : IsRoomy n) where
  rest : of_file n file (unchanged_file n) ≡ None → (f : File) → find_file file n.durable.directory ≡ Some f → f.history.live ≡ []
  rest unchanged f found = file_rests n file h f found (file_says n file f (unchanged_file n) found unchanged)

  mark_keeps : of_file n file (unchanged_file n) ≡ None → (mark : Mark) → RowsKeep (silent (Marks file mark) ∷ []) n
  mark_keeps unchanged mark = record { up = (h, marked_up file n (rest unchanged) h mark); room = room }

  pub sets_keep : of_file n file (unchanged_file n) ≡ None → (setting : Setting) → RowsKeep (sets n file setting) n
  sets_keep unchanged RecoveryUnits = mark_keeps unchanged (ForUnits true)
  sets_keep unchanged NoRecoveryUnits = mark_keeps unchanged (ForUnits false)
  sets_keep unchanged (Images side blocks) = on_free_keeps n blocks (λ start. Marks file (BeginsImages side start blocks)) (λ start. mark_keeps unchanged (BeginsImages side start blocks)) h room
  sets_keep unchanged (NoImages side) = mark_keeps unchanged (EndsImages side)

  pub saves_keep : of_file n file (unchanged_file n) ≡ None → RowsKeep (to_file n file (λ f. on_free n (blocks_of f) (Saves file))) n
  saves_keep unchanged =
      to_file_keeps n file (λ f. on_free n (blocks_of f) (Saves file)) (λ f found. on_free_keeps n (blocks_of f) (Saves file) (λ start. record { up = (h, saved_up file n (rest unchanged) h start); room = room }) h room) h room

  -- a recovery that nothing refuses is of a file that rests
  pub no_line : (o : Option Refusal) → option_map refusal_line o ≡ None → o ≡ None
  no_line (Some r) e = let none : ⊥ = cc in absurd none
  no_line None e = refl

  none_first : (a b : Option Refusal) → first_refusal a b ≡ None → (a ≡ None) × (b ≡ None)
  none_first (Some r) b e = let none : ⊥ = cc in absurd none
  none_first None b e = (refl, e)

  no_user : (user : Option Id) → in_use user ≡ None → user ≡ None
  no_user (Some x) e = let none : ⊥ = cc in absurd none
  no_user None e = refl

  pub unused : (way : Way) (user : Option Id) (g : FileState) → refusal way user g ≡ None → user ≡ None
  unused (Forward until) user g e = no_user user (none_first (in_use user) _ (none_first _ _ (none_first _ _ e).1).1).0
  unused (Backward until) user g e = no_user user (none_first (in_use user) _ (none_first _ _ e).1).0

  pub recovery_rests : (way : Recovery) → of_file n file (recovery_refused n way) ≡ None → (f : File) → find_file file n.durable.directory ≡ Some f → f.history.live ≡ []
  recovery_rests way passes f found =
      let nobody = unused (way_of way) (first_to_change f.history (serials_of n.volatile.branches)) (state_of f) (no_line _ (file_says n file f (recovery_refused n way) found passes)) in
      file_rests n file h f found (ap (λ o. elim o as (λ _. Option Line) [ Some serial ↦ Some (line.FileLocked serial) | None ↦ None ]) nobody)

  pub recovers_keep : (way : Recovery) → of_file n file (recovery_refused n way) ≡ None → RowsKeep (to_file n file (recovers n file way)) n
  recovers_keep way passes = to_file_keeps n file (recovers n file way) each h room
    where
      each : (f : File) → find_file file n.durable.directory ≡ Some f → RowsKeep (recovers n file way f) n
      each f found =
          let m = records_recovered way f in
          on_free_keeps n (blocks_recovered way f) (λ start. Recovers file start (buckets_loaded f m) m)
          (λ start. record { up = (h, recovered_up file n (recovery_rests way passes) h start (buckets_loaded f m) m (recovered_plain (way_of way) f (h.filed.carries file f found) (recovery_rests way passes f found) (h.filed.plain file f found).absent)); room = room }) h room
