-- A branch that is told to be prepared is so: in the table of its node while that is up, and in the log of its disk; or it is the last that its disk settled, which no
-- line has shown yet.
use Rattle.std.proofs.Common.{◌≡◌, ℕ, ◌⊎◌, List, [], ◌∷◌, ◌++◌, inl, inr, map, Bool, true, false, not, ◌&&◌, ◌||◌, Option, Some, None, if◌then◌else◌, refl, sym, ◌∙◌, ap, subst, arith}
use Rattle.std.proofs.lemmas.Bool.{and_parts, both_ways}
use Rattle.vms_model.specs.Ids.{Id}
use Rattle.vms_model.specs.Transactions.{Outcome, Commit, Abort, Reason}
use Rattle.run_said.specs.transcript_model.Lines as line
use Rattle.run_said.specs.transcript_model.Lines.{Line, Cause}
use Rattle.unit_laws.specs.records_model.History.{same_id}
use Rattle.commit_protocol.specs.Allowed.{is_prepared}
use Rattle.commit_protocol.specs.Messages as messages
use Rattle.commit_protocol.specs.Messages.{LogRecord}
use Rattle.commit_protocol.specs.Table as table
use Rattle.commit_protocol.specs.Table.{Branch, Prepared, State, Key as BranchKey, branch_serials, cut, find, prepared_record, prepared_records, put, same_key, table_after}
use Rattle.commit_protocol.specs.World.{In}
use Rattle.commit_protocol.proofs.Lists.{find-key, same_key-true}
use Rattle.run_said.specs.log_laws.Slots.{prepared_of, records_in}
use Rattle.run_said.proofs.log_laws.Reading.{is_prepared_one, prepared_is}
use Rattle.run_said.specs.run_model.World as world
use Rattle.run_said.specs.run_model.World.{Shared, Node, Act, Boots, ComesUp, Durable, Settlement, Tables, acted, aborted_prepared, booted, settlement, with_changed, with_half}
use Rattle.run_said.specs.run_model.Answers.{Row, Task, Serves, last_line, last_lines, prepared_line, settled_line, task_service}
use Rattle.run_said.specs.run_model.Steps.{node_after, task_effect}
use Rattle.recovery_laws.specs.world_laws.Nodes.{IsUp}
use Rattle.recovery_laws.proofs.world_laws.IdLemmas.{id_is, id_itself}
use Rattle.recovery_laws.proofs.world_laws.TableLemmas.{found_in, in_serials, one_branch}
use Rattle.recovery_laws.proofs.world_laws.UpLemmas.{branch_drawn, differ}
use Rattle.run_laws.specs.Promises.{abort, commitment, prepared_by, prepared_here, settlement_in}
use Rattle.run_laws.proofs.AllShown.{IsFormed, formed_settlement}
use Rattle.run_laws.proofs.EachRow.{ArePlain, AreVoteless, VotesSo, is_plain, is_voteless}
use Rattle.run_laws.proofs.Keeping.{Keeps, Kept, Scheme, all_take, else_effect, is_init, is_special}
use Rattle.run_laws.proofs.OwnLines.{line_in, task_owns}
use Rattle.run_laws.proofs.RowFits.{Fits, FitsTable, RowFits, TellsAct, free_after, latest_id}
use Rattle.run_laws.proofs.SoundWorlds.{Tracks}
use Rattle.run_laws.proofs.VoteOwners.{left_record, vote_owns, voter_in}

-- Branches after an act.

put_keeps : (b x : Branch) (bs : List Branch) → (x.key ≡ b.key → ⊥) → In x bs → In x (put b bs)
put_keeps b x [] apart i = absurd i
put_keeps b x (y ∷ bs) apart i = go (same_key y.key b.key) refl i (λ j. put_keeps b x bs apart j)
  where
    go : (t : Bool) → same_key y.key b.key ≡ t → In x (y ∷ bs) → (In x bs → In x (put b bs)) → In x (if t then b ∷ bs else y ∷ put b bs)
    go true is (inl same) more = absurd (apart (ap (λ (z : Branch). z.key) same ∙ same_key-true y.key b.key is))
    go true is (inr j) more = inr j
    go false is (inl same) more = inl same
    go false is (inr j) more = inr (more j)

put_there : (b : Branch) (bs : List Branch) → In b (put b bs)
put_there b [] = inl refl
put_there b (y ∷ bs) = go (same_key y.key b.key) (put_there b bs)
  where
    go : (t : Bool) → In b (put b bs) → In b (if t then b ∷ bs else y ∷ put b bs)
    go true more = inl refl
    go false more = inr more

cut_keeps : (k : BranchKey) (x : Branch) (bs : List Branch) → (x.key ≡ k → ⊥) → In x bs → In x (cut k bs)
cut_keeps k x [] apart i = absurd i
cut_keeps k x (y ∷ bs) apart i = go (same_key y.key k) refl i (λ j. cut_keeps k x bs apart j)
  where
    go : (t : Bool) → same_key y.key k ≡ t → In x (y ∷ bs) → (In x bs → In x (cut k bs)) → In x (if t then cut k bs else y ∷ cut k bs)
    go true is (inl same) more = absurd (apart (ap (λ (z : Branch). z.key) same ∙ same_key-true y.key k is))
    go true is (inr j) more = more j
    go false is (inl same) more = inl same
    go false is (inr j) more = inr (more j)

-- Records of prepared branches.

in_records : (x : Branch) (bs : List Branch) → In x bs → is_prepared x.state ≡ true → In (prepared_record x) (prepared_records bs)
in_records x [] i p = absurd i
in_records x (b ∷ bs) i p = go b.state refl i (λ j. in_records x bs j p)
  where
    clash : (s : State) → b.state ≡ s → is_prepared s ≡ false → x ≡ b → {A : Type 0} → A
    clash s is off same = absurd (both_ways (is_prepared x.state) (ap (λ (y : Branch). is_prepared y.state) same ∙ ap is_prepared is ∙ off) p)

    go : (s : State) → b.state ≡ s → In x (b ∷ bs) → (In x bs → In (prepared_record x) (prepared_records bs)) → In (prepared_record x) (table.prepared_state b s (prepared_records bs))
    go Prepared is (inl same) more = inl (ap prepared_record same)
    go Prepared is (inr j) more = inr (more j)
    go table.Joining is (inl same) more = clash table.Joining is refl same
    go table.Joining is (inr j) more = more j
    go table.Active is (inl same) more = clash table.Active is refl same
    go table.Active is (inr j) more = more j
    go table.Ending is (inl same) more = clash table.Ending is refl same
    go table.Ending is (inr j) more = more j
    go table.Voting is (inl same) more = clash table.Voting is refl same
    go table.Voting is (inr j) more = more j

record_of : (r : LogRecord) (bs : List Branch) → In r (prepared_records bs) → (x : Branch) × In x bs × (is_prepared x.state ≡ true) × (x.key.serial ≡ r.serial)
record_of r [] i = absurd i
record_of r (b ∷ bs) i = go b.state refl (λ j. record_of r bs j) i
  where
    later : ((x : Branch) × In x bs × (is_prepared x.state ≡ true) × (x.key.serial ≡ r.serial)) → (x : Branch) × In x (b ∷ bs) × (is_prepared x.state ≡ true) × (x.key.serial ≡ r.serial)
    later q = (q.0, inr q.1, q.2, q.3)

    go : (s : State) → b.state ≡ s → (In r (prepared_records bs) → (x : Branch) × In x bs × (is_prepared x.state ≡ true) × (x.key.serial ≡ r.serial)) → In r (table.prepared_state b s (prepared_records bs)) → (x : Branch) × In x (b ∷ bs) × (is_prepared x.state ≡ true) × (x.key.serial ≡ r.serial)
    go Prepared is more (inl same) = (b, inl refl, ap is_prepared is, sym (ap (λ (q : LogRecord). q.serial) same))
    go Prepared is more (inr j) = later (more j)
    go _ is more j = later (more j)

or_parts_true : (a b : Bool) → (a || b) ≡ true → (a ≡ true) ⊎ (b ≡ true)
or_parts_true true b e = inl refl
or_parts_true false b e = inr e

not_off : (b : Bool) → not b ≡ true → b ≡ false
not_off true e = let no : ⊥ = cc in absurd no
not_off false e = refl

module _ (serial : Id) where
  abbrev pub told_by : List Line → Bool → Bool
  told_by ls a = prepared_by serial ls a

  pub told_append : (xs ys : List Line) (a : Bool) → prepared_by serial (xs ++ ys) a ≡ prepared_by serial ys (prepared_by serial xs a)
  told_append [] ys a = refl
  told_append (x ∷ xs) ys a = told_append xs ys (prepared_here serial x a)

  steady_here : (l : Line) (a : Bool) → is_plain l ≡ true → is_voteless l ≡ true → prepared_here serial l a ≡ a
  steady_here (line.Prepared tid s) a h v = let no : ⊥ = cc in absurd no
  steady_here (line.Committed tid s moment) a h v = let no : ⊥ = cc in absurd no
  steady_here (line.Aborted tid s reason moment) a h v = let no : ⊥ = cc in absurd no
  steady_here (line.LastCommitted tid s moment) a h v = let no : ⊥ = cc in absurd no
  steady_here (line.LastAborted tid s reason moment) a h v = let no : ⊥ = cc in absurd no
  steady_here _ a h v = refl

  pub told_steady : (ls : List Line) (a : Bool) → ArePlain ls → AreVoteless ls → prepared_by serial ls a ≡ a
  told_steady [] a h v = refl
  told_steady (l ∷ ls) a h v = ap (prepared_by serial ls) (steady_here l a h.0 v.0) ∙ told_steady ls a h.1 v.1

  -- What is known.

  abbrev pub HasRecord : Durable → Type 0
  HasRecord d = (r : LogRecord) × In r (prepared_of (records_in d.log)) × (r.serial ≡ serial)

  abbrev pub IsIn : List Branch → Type 0
  IsIn bs = (x : Branch) × In x bs × (is_prepared x.state ≡ true) × (x.key.serial ≡ serial)

  abbrev pub IsLast : Durable → Type 0
  IsLast d = (s : Settlement) × (d.last ≡ Some s) × (s.serial ≡ serial) × IsFormed s

  abbrev pub preparing : Scheme
  preparing = record {
    Told = Bool;
    more = λ ls a. prepared_by serial ls a;
    Up = λ free a n. (a ≡ true → IsIn n.volatile.branches) × (free ≡ true → In (latest_id n) (branch_serials n.volatile.branches) → ⊥);
    Disk = λ a n. a ≡ true → HasRecord n.durable ⊎ IsLast n.durable;
    Boots = λ a n. a ≡ true → HasRecord n.durable;
    Ready = λ n. Unit {0};
    Takes = λ o. Unit {0};
    special = λ r. is_init (Serves r);
  }

  to_record : (n : Node) → IsUp n → IsIn n.volatile.branches → HasRecord n.durable
  to_record n up (x, i, p, e) = (prepared_record x, is_prepared_one (records_in n.durable.log) (prepared_record x) (up.table.log.prepared (prepared_record x) (in_records x n.volatile.branches i p)) refl, e)

  to_table : (n : Node) → IsUp n → HasRecord n.durable → IsIn n.volatile.branches
  to_table n up (r, i, e) = elim (up.table.log.from r (prepared_is (records_in n.durable.log) r i).0) [
    | inl p ↦ (let x = record_of r n.volatile.branches p in (x.0, x.1, x.2, x.3 ∙ e))
    | inr c ↦ (let clash : messages.PreparedRecord ≡ messages.CommittedRecord = sym (prepared_is (records_in n.durable.log) r i).1 ∙ (up.table.limits.records r c).kind in let no : ⊥ = cc in absurd no)
  ]

  -- Acts at a node that is up.

  keep_put : (b : Branch) (bs : List Branch) → ((x : Branch) → In x bs → is_prepared x.state ≡ true → x.key ≡ b.key → ⊥) → IsIn bs → IsIn (put b bs)
  keep_put b bs apart (x, i, p, e) = (x, put_keeps b x bs (apart x i p) i, p, e)

  keep_cut : (k : BranchKey) (bs : List Branch) → ((x : Branch) → In x bs → is_prepared x.state ≡ true → x.key.serial ≡ serial → x.key ≡ k → ⊥) → IsIn bs → IsIn (cut k bs)
  keep_cut k bs apart (x, i, p, e) = (x, cut_keeps k x bs (apart x i p e) i, p, e)

  keep_changed : (id : Id) (bs : List Branch) → IsIn bs → IsIn (with_changed id bs)
  keep_changed id [] h = h
  keep_changed id (b ∷ bs) (x, i, p, e) = go (same_id id b.key.serial) i (λ j. keep_changed id bs (x, j, p, e))
    where
      go : (t : Bool) → In x (b ∷ bs) → (In x bs → IsIn (with_changed id bs)) → IsIn (if t then record b { changed = true } ∷ bs else b ∷ with_changed id bs)
      go true (inl same) more = (record b { changed = true }, inl refl, ap (λ (y : Branch). is_prepared y.state) (sym same) ∙ p, ap (λ (y : Branch). y.key.serial) (sym same) ∙ e)
      go true (inr j) more = (x, inr j, p, e)
      go false (inl same) more = (x, inl same, p, e)
      go false (inr j) more = let q = more j in (q.0, inr q.1, q.2, q.3)

  not_unprepared : (n : Node) → IsUp n → (k : BranchKey) (old : Branch) → find k n.volatile.branches ≡ Some old → is_prepared old.state ≡ false → (x : Branch) → In x n.volatile.branches → is_prepared x.state ≡ true → x.key ≡ k → ⊥
  not_unprepared n up k old found off x i p same =
      let key = find-key k n.volatile.branches old found in
      let one = one_branch n.volatile.branches x old (differ n up.table) i (found_in k n.volatile.branches old found) (ap (λ (j : BranchKey). j.serial) (same ∙ sym key)) in
      both_ways (is_prepared old.state) off (ap (λ (y : Branch). is_prepared y.state) (sym one) ∙ p)

  -- it settles the branch
  abbrev SettlesIt : Option Act → Type 0
  SettlesIt (Some (Tables (table.Settles k o reason r) moment)) = k.serial ≡ serial
  SettlesIt _ = ⊥

  act_in : (free : Bool) (o : Option Act) (n : Node) → Fits free o n → IsUp n → (free ≡ true → In (latest_id n) (branch_serials n.volatile.branches) → ⊥) → IsIn n.volatile.branches → IsIn (node_after o n).volatile.branches ⊎ SettlesIt o
  act_in free None n f up fresh h = inl h
  act_in free (Some (Tables a moment)) n f up fresh h = go a f
    where
      bs : List Branch
      bs = n.volatile.branches

      settles : (k : BranchKey) (t : Bool) → same_id serial k.serial ≡ t → IsIn (cut k n.volatile.branches) ⊎ (k.serial ≡ serial)
      settles k true is = inr (sym (id_is serial k.serial is))
      settles k false is = inl (keep_cut k n.volatile.branches (λ x i p e same. both_ways (same_id serial k.serial) is (ap (same_id serial) (sym (ap (λ (j : BranchKey). j.serial) same) ∙ e) ∙ id_itself serial)) h)

      go : (a : table.Act) → FitsTable free a moment n → IsIn (table_after a n.volatile.branches) ⊎ SettlesIt (Some (Tables a moment))
      go (table.Notes b) g = elim g.stands [
        | inl st ↦ inl (keep_put b n.volatile.branches (λ x i p same. not_unprepared n up b.key st.old st.there st.unprepared x i p same) h)
        | inr begun ↦ inl (keep_put b n.volatile.branches (λ x i p same. fresh begun.0 (subst (λ y. In y (branch_serials n.volatile.branches)) (ap (λ (j : BranchKey). j.serial) same ∙ begun.1) (in_serials x n.volatile.branches i))) h)
      ]
      go (table.Accepts b c) g = elim g.stands [
        | inl st ↦ inl (keep_put (record b { accepted = b.accepted ++ c ∷ [] }) n.volatile.branches (λ x i p same. not_unprepared n up b.key st.old st.there st.unprepared x i p same) h)
        | inr none ↦ absurd none
      ]
      go (table.Prepares b) g = elim g.stands [
        | inl st ↦ inl (keep_put (record b { state = Prepared }) n.volatile.branches (λ x i p same. not_unprepared n up b.key st.branch st.there st.unprepared x i p same) h)
        | inr none ↦ absurd none
      ]
      go (table.Settles k o reason r) g = settles k (same_id serial k.serial) refl
      go (table.Leaves k) g = elim g.stands [
        | inl st ↦ inl (keep_cut k n.volatile.branches (λ x i p e same. not_unprepared n up k st.branch st.there st.unprepared x i p same) h)
        | inr none ↦ absurd none
      ]
      go (table.Undoes k) g = absurd g.row
      go (table.Acknowledges k) g = inl h
      go (table.Releases x rm) g = inl h
      go (table.Sends m) g = inl h
      go (table.Prints l) g = inl h
  act_in free (Some (world.Changes tid s file cs keys)) n f up fresh h = inl (keep_changed s n.volatile.branches h)
  act_in free (Some Boots) n f up fresh h = absurd f
  act_in free (Some _) n f up fresh h = inl h

  row_in : (free : Bool) (r : Row) (n : Node) (a : Bool) → RowFits free r n → (free ≡ true → In (latest_id n) (branch_serials n.volatile.branches) → ⊥) → (a ≡ true → IsIn n.volatile.branches) → prepared_by serial r.lines a ≡ true → IsIn (node_after r.act n).volatile.branches
  row_in free r n a f fresh h told = go r.act f.fits f.tells f.votes
    where
      quiet : (o : Option Act) → Fits free o n → (SettlesIt o → ⊥) → a ≡ true → IsIn (node_after o n).volatile.branches
      quiet o g other is = elim (act_in free o n g f.up fresh (h is)) [ inl k ↦ k | inr k ↦ absurd (other k) ]

      steady : ArePlain r.lines → AreVoteless r.lines → a ≡ true
      steady plain voteless = sym (told_steady r.lines a plain voteless) ∙ told

      settled : (k : BranchKey) (o : Outcome) (reason : Reason) (x : Option LogRecord) (moment : ℕ) → Fits free (Some (Tables (table.Settles k o reason x) moment)) n → r.lines ≡ settled_line k o reason moment ∷ [] → IsIn (cut k n.volatile.branches)
      settled k o reason x moment g t =
          let both = and_parts a (not (same_id serial k.serial)) (sym (one o) ∙ ap (λ ls. prepared_by serial ls a) (sym t) ∙ told) in
          quiet (Some (Tables (table.Settles k o reason x) moment)) g (λ e. both_ways (same_id serial k.serial) (not_off (same_id serial k.serial) both.1) (ap (same_id serial) e ∙ id_itself serial)) both.0
        where
          one : (o : Outcome) → prepared_by serial (settled_line k o reason moment ∷ []) a ≡ (a && not (same_id serial k.serial))
          one Commit = refl
          one Abort = refl

      tabled : (act : table.Act) (moment : ℕ) → Fits free (Some (Tables act moment)) n → TellsAct (Some (Tables act moment)) r.lines n → VotesSo (Some (Tables act moment)) r.lines → IsIn (table_after act n.volatile.branches)
      tabled (table.Settles k o reason x) moment g t v = settled k o reason x moment g t
      tabled (table.Prepares b) moment g t v = elim (or_parts_true a (same_id serial b.key.serial) (ap (λ ls. prepared_by serial ls a) (sym v) ∙ told)) [
        | inl is ↦ quiet (Some (Tables (table.Prepares b) moment)) g (λ e. e) is
        | inr is ↦ (record b { state = Prepared }, put_there (record b { state = Prepared }) n.volatile.branches, refl, sym (id_is serial b.key.serial is))
      ]
      tabled (table.Leaves k) moment g t v = quiet (Some (Tables (table.Leaves k) moment)) g (λ e. e) (ap (λ ls. prepared_by serial ls a) (sym v) ∙ told)
      tabled (table.Undoes k) moment g t v = absurd g.row
      tabled (table.Notes b) moment g t v = quiet (Some (Tables (table.Notes b) moment)) g (λ e. e) (steady t v)
      tabled (table.Accepts b c) moment g t v = quiet (Some (Tables (table.Accepts b c) moment)) g (λ e. e) (ap (λ ls. prepared_by serial ls a) (sym v) ∙ told)
      tabled (table.Acknowledges k) moment g t v = quiet (Some (Tables (table.Acknowledges k) moment)) g (λ e. e) (steady t v)
      tabled (table.Releases x rm) moment g t v = quiet (Some (Tables (table.Releases x rm) moment)) g (λ e. e) (steady t v)
      tabled (table.Sends m) moment g t v = quiet (Some (Tables (table.Sends m) moment)) g (λ e. e) (steady t v)
      tabled (table.Prints l) moment g t v = quiet (Some (Tables (table.Prints l) moment)) g (λ e. e) (steady t v)

      go : (o : Option Act) → Fits free o n → TellsAct o r.lines n → VotesSo o r.lines → IsIn (node_after o n).volatile.branches
      go None g t v = quiet None g (λ e. e) (steady t v)
      go (Some (Tables act moment)) g t v = tabled act moment g t v
      go (Some (world.Directs file cs s)) g t v = quiet (Some (world.Directs file cs s)) g (λ e. e) (and_parts a (not (same_id serial s.serial)) (ap (λ ls. prepared_by serial ls a) (sym t) ∙ told)).0
      go (Some Boots) g t v = absurd g
      go (Some (world.Formats slots journal)) g t v = absurd g
      go (Some ComesUp) g t v = absurd g
      go (Some (world.Creates place file)) g t v = quiet (Some (world.Creates place file)) g (λ e. e) (steady t v)
      go (Some (world.Marks file mark)) g t v = quiet (Some (world.Marks file mark)) g (λ e. e) (steady t v)
      go (Some (world.Saves file start)) g t v = quiet (Some (world.Saves file start)) g (λ e. e) (steady t v)
      go (Some (world.Recovers file start buckets m)) g t v = quiet (Some (world.Recovers file start buckets m)) g (λ e. e) (steady t v)
      go (Some world.Draws) g t v = quiet (Some world.Draws) g (λ e. e) (steady t v)
      go (Some (world.Labels l)) g t v = quiet (Some (world.Labels l)) g (λ e. e) (steady t v)
      go (Some (world.Numbers label id)) g t v = quiet (Some (world.Numbers label id)) g (λ e. e) (steady t v)
      go (Some (world.Changes tid id file cs keys)) g t v = quiet (Some (world.Changes tid id file cs keys)) g (λ e. e) (steady t v)
      go (Some (world.Holds id file keys)) g t v = quiet (Some (world.Holds id file keys)) g (λ e. e) (steady t v)
      go (Some (world.Arms writes choice)) g t v = quiet (Some (world.Arms writes choice)) g (λ e. e) (steady t v)
      go (Some (world.Clocks now)) g t v = quiet (Some (world.Clocks now)) g (λ e. e) (steady t v)
      go (Some (world.Declares rms)) g t v = quiet (Some (world.Declares rms)) g (λ e. e) (steady t v)
      go (Some world.Falls) g t v = quiet (Some world.Falls) g (λ e. e) (steady t v)

  fresh_after : (free : Bool) (o : Option Act) (n : Node) → IsUp n → (free ≡ true → In (latest_id n) (branch_serials n.volatile.branches) → ⊥) → free_after free o ≡ true → In (latest_id (node_after o n)) (branch_serials (node_after o n).volatile.branches) → ⊥
  fresh_after free (Some world.Draws) n up fresh e i = let d = branch_drawn n up.table (latest_id (acted world.Draws n)) i in elim d.1 [ inl low ↦ omega (arith, low) | inr here ↦ (let low = here.1 in omega (arith, low)) ]
  fresh_after free (Some (world.Labels l)) n up fresh e i = fresh e i
  fresh_after free (Some (world.Numbers label id)) n up fresh e i = fresh e i
  fresh_after free None n up fresh e i = let no : ⊥ = cc in no
  fresh_after free (Some _) n up fresh e i = let no : ⊥ = cc in no

  -- an act under way
  act_disk : (free : Bool) (act : Act) (n : Node) → Fits free (Some act) n → IsUp n → IsUp (acted act n) → (free ≡ true → In (latest_id n) (branch_serials n.volatile.branches) → ⊥) → IsIn n.volatile.branches → HasRecord (acted act n).durable ⊎ IsLast (acted act n).durable
  act_disk free act n f up is fresh h = elim (act_in free (Some act) n f up fresh h) [ inl k ↦ inl (to_record (acted act n) is k) | inr k ↦ inr (last act k) ]
    where
      last : (act : Act) → SettlesIt (Some act) → IsLast (acted act n).durable
      last (Tables (table.Settles k o reason r) moment) e = (settlement k o reason moment, refl, e, formed_settlement k o reason moment)
      last (Tables (table.Notes b) moment) e = absurd e
      last (Tables (table.Accepts b c) moment) e = absurd e
      last (Tables (table.Prepares b) moment) e = absurd e
      last (Tables (table.Leaves k) moment) e = absurd e
      last (Tables (table.Acknowledges k) moment) e = absurd e
      last (Tables (table.Releases x rm) moment) e = absurd e
      last (Tables (table.Undoes k) moment) e = absurd e
      last (Tables (table.Sends m) moment) e = absurd e
      last (Tables (table.Prints l) moment) e = absurd e
      last _ e = absurd e

  -- A boot.

  pub lasts_keep : (n : Node) (a : Bool) → prepared_by serial (last_lines n) a ≡ true → a ≡ true
  lasts_keep n a e = go n.durable.last e
    where
      at : (s : Settlement) (o : Outcome) (r : Option Reason) → prepared_by serial (elim o as (λ y. List Line) [ Commit ↦ line.LastCommitted s.tid s.serial s.moment ∷ [] | Abort ↦ elim r as (λ y. List Line) [ Some reason ↦ line.LastAborted s.tid s.serial reason s.moment ∷ [] | None ↦ [] ] ]) a ≡ true → a ≡ true
      at s Commit r k = (and_parts a (not (same_id serial s.serial)) k).0
      at s Abort (Some reason) k = (and_parts a (not (same_id serial s.serial)) k).0
      at s Abort None k = k

      go : (o : Option Settlement) → prepared_by serial (elim o as (λ y. List Line) [ Some s ↦ last_line s | None ↦ [] ]) a ≡ true → a ≡ true
      go (Some s) k = at s s.outcome s.reason k
      go None k = k

  pub lasts_clear : (n : Node) (a : Bool) → IsLast n.durable → prepared_by serial (last_lines n) a ≡ true → ⊥
  lasts_clear n a (s, e, same, formed) told = both_ways (same_id serial s.serial) (not_off (same_id serial s.serial) (and_parts a (not (same_id serial s.serial)) (sym (by formed) ∙ ap (λ (o : Option Settlement). prepared_by serial (elim o as (λ y. List Line) [ Some x ↦ last_line x | None ↦ [] ]) a) (sym e) ∙ told)).1) (ap (same_id serial) same ∙ id_itself serial)
    where
      by : IsFormed s → prepared_by serial (last_line s) a ≡ (a && not (same_id serial s.serial))
      by (inl is) = ap (λ (x : Settlement). prepared_by serial (last_line x) a) is
      by (inr r) = ap (λ (x : Settlement). prepared_by serial (last_line x) a) r.1

  closes_told : (bs : List Branch) (a : Bool) → prepared_by serial (map prepared_line bs) a ≡ true → (a ≡ true) ⊎ ((tid : Id) × In (line.Prepared tid serial) (map prepared_line bs))
  closes_told [] a e = inl e
  closes_told (b ∷ bs) a e = elim (closes_told bs (a || same_id serial b.key.serial) e) [
    | inl k ↦ elim (or_parts_true a (same_id serial b.key.serial) k) [ inl is ↦ inl is | inr is ↦ inr (b.key.tid, inl (ap (line.Prepared b.key.tid) (id_is serial b.key.serial is))) ]
    | inr q ↦ inr (q.0, inr q.1)
  ]

  half_disk : (o : Option Id) (standing : List ℕ → Rattle.unit_laws.specs.Units.Map) (d : Durable) → HasRecord d ⊎ IsLast d → HasRecord (with_half o standing d) ⊎ IsLast (with_half o standing d)
  half_disk None standing d h = h
  half_disk (Some id) standing d h = h

  pub preparing_keeps : Keeps preparing
  preparing_keeps = record {
    none = λ a. refl;
    append = told_append;
    plain = told_steady;
    same = λ a n m name durable settled h e. subst (λ d. HasRecord d ⊎ IsLast d) (sym durable) (h e);
    row = λ free r n a q f up h. (λ e. row_in free r n a f h.1 h.0 e, λ e i. fresh_after free r.act n f.up h.1 e i);
    under = λ free r n a act q f is d up h e. act_disk free act n (subst (λ o. Fits free o n) is f.fits) f.up up h.1 (h.0 e);
    falls = λ free a n up h e. inl (to_record n up (h.0 e));
    weaken = λ free a n h. (h.0, λ e i. let no : ⊥ = cc in no);
    half = λ a n standing k ready may h e. half_disk (aborted_prepared n.under_way n.durable) standing n.durable (h e);
    spoils = λ a n h e. h e;
    boots = λ a n k h e. elim (h (lasts_keep n a e)) [ inl r ↦ r | inr last ↦ absurd (lasts_clear n a last e) ];
    booting = λ a n k h e. h e;
    undoes = λ a n u next h e. h (and_parts a (not (same_id serial u.serial)) e).0;
    undoing = λ a n u next h e. inl (h e);
    rests = λ a n k h e. inl (h e);
    none_ready = λ n e. tt;
    same_ready = λ n m e h. tt;
    closes = λ a n m log up h e. elim (closes_told (booted n.durable).branches a e) [
      | inl is ↦ h is
      | inr q ↦ (let l = left_record n q.0 serial q.1 in (l.record_, subst (λ ss. In l.record_ (prepared_of (records_in ss))) (sym log) l.there, l.serial_is))
    ];
    comes = λ a n up h closed. (λ e. to_table (acted ComesUp n) up (h e), λ e i. let no : ⊥ = cc in no);
  }

  pub kept_false : (n : Node) → Kept preparing preparing_keeps false n
  kept_false n = record { disk = λ e. let no : ⊥ = cc in absurd no; way = λ act is e. let no : ⊥ = cc in absurd no; runs = λ up. (λ e. let no : ⊥ = cc in absurd no, λ e i. let no : ⊥ = cc in no) }

  -- Tasks.

  not_init : (t : Task) → is_special preparing t ≡ false → is_init t ≡ false
  not_init (Serves r) e = e
  not_init _ e = refl

  pub foreign : (ls : List Line) (a : Bool) → ((l : Line) (id : Id) → In l ls → voter_in l ≡ Some id → id.node ≡ serial.node → ⊥) → ((l : Line) (s : Settlement) → In l ls → settlement_in l ≡ Some s → s.serial.node ≡ serial.node → ⊥) → prepared_by serial ls a ≡ a
  foreign [] a f g = refl
  foreign (l ∷ ls) a f g = ap (prepared_by serial ls) (one l (λ id e own. f l id (inl refl) e own) (λ s e own. g l s (inl refl) e own)) ∙ foreign ls a (λ x id i. f x id (inr i)) (λ x s i. g x s (inr i))
    where
      apart : (id : Id) → (id.node ≡ serial.node → ⊥) → same_id serial id ≡ false
      apart id never = go (same_id serial id) refl
        where
          go : (t : Bool) → same_id serial id ≡ t → t ≡ false
          go true is = absurd (never (sym (ap (λ (y : Id). y.node) (id_is serial id is))))
          go false is = refl

      kept : (id : Id) → (id.node ≡ serial.node → ⊥) → (a && not (same_id serial id)) ≡ a
      kept id never = ap (λ b. a && not b) (apart id never) ∙ all a
        where
          all : (a : Bool) → (a && true) ≡ a
          all true = refl
          all false = refl

      no_more : (a b : Bool) → b ≡ false → (a || b) ≡ a
      no_more true b e = refl
      no_more false b e = e

      one : (l : Line) → ((id : Id) → voter_in l ≡ Some id → id.node ≡ serial.node → ⊥) → ((s : Settlement) → settlement_in l ≡ Some s → s.serial.node ≡ serial.node → ⊥) → prepared_here serial l a ≡ a
      one (line.Prepared tid id) f g = no_more a (same_id serial id) (apart id (f id refl))
      one (line.Committed tid id moment) f g = kept id (g (commitment tid id moment) refl)
      one (line.LastCommitted tid id moment) f g = kept id (g (commitment tid id moment) refl)
      one (line.Aborted tid id reason moment) f g = kept id (g (abort tid id reason moment) refl)
      one (line.LastAborted tid id reason moment) f g = kept id (g (abort tid id reason moment) refl)
      one _ f g = refl

  pub preparing_tracks : Tracks preparing preparing_keeps serial.node
  preparing_tracks = record {
    own = λ a s stops n task c rises named sound plain ready may h. else_effect preparing preparing_keeps s stops n a sound.kept h task (not_init task plain) (λ off. all_take preparing (λ o. tt) ((task_service task).rows s n)) ready c rises may;
    beside = λ a s stops n m task c rises other sound may h. subst (λ b. Kept preparing preparing_keeps b n)
        (sym (foreign (task_effect s stops m task c).lines a (λ l id i e own. other (sym (vote_owns s stops m task c rises sound may l id i e) ∙ own))
        (λ l x i e own. other (sym (task_owns s stops m task c rises sound may x (line_in (task_effect s stops m task c).lines l x [] i e)) ∙ own)))) h;
  }
