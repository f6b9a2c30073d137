-- What is told of a file agrees with its node, act by act: a scheme for one file of one node, over branches of which an abort was begun.
use Rattle.std.proofs.Common.{◌≡◌, ◌⊎◌, ◌≤◌, ◌<◌, ℕ, ◌+◌, List, [], ◌∷◌, map, Bool, true, false, ◌||◌, Option, Some, None, if◌then◌else◌, refl, sym, ◌∙◌, ap, subst, inl, inr, arith}
use Rattle.std.specs.Prelude.{is_some}
use Rattle.std.specs.List.{AllByRecursion, list_any}
use Rattle.std.specs.Str.{bytes_eq}
use Rattle.std.specs.Option.{option_and_then, option_map}
use Rattle.std.proofs.lemmas.Bool.{both_ways, false_from_ne_true}
use Rattle.vms_model.specs.Ids.{Id}
use Rattle.vms_model.specs.Transactions.{Outcome, Commit, Abort, Reason, Aborted, SegFail}
use Rattle.run_said.specs.transcript_model.Lines as line
use Rattle.run_said.specs.transcript_model.Lines.{Line}
use Rattle.run_said.specs.script_model.Statements.{Operation, Request, Init, Boot, Create, SetFile, StartTrans, AddBranch, StartBranch, Records, Direct, EndBranch, EndTrans, AbortTrans, Inquire, DeclareRm, JoinRm, AckEvent, ForgetRm, GetDti, LmcpShow, LmcpDump, Dump, DumpJournal, DumpImages, Backup, Recover, Fuse, Crash, Clock}
use Rattle.unit_laws.specs.records_model.Records.{Records as TheRecords, Change, applied}
use Rattle.unit_laws.specs.records_model.History.{History, LiveChanges, changes_by, records, same_id}
use Rattle.unit_laws.specs.Units.{Map}
use Rattle.unit_laws.specs.Journal.{Journal, RecoveryUnit, find_unit, units_in}
use Rattle.unit_laws.specs.JournalLaws.{is_unit}
use Rattle.commit_protocol.specs.Messages.{LogRecord, Name, Reply}
use Rattle.commit_protocol.specs.Table as table
use Rattle.commit_protocol.specs.Table.{Branch, Key as BranchKey, Accepts, Acknowledges, Leaves, Notes, Prepares, Prints, Releases, Sends, Settles, Undoes, branch_serials, cut, put, table_after}
use Rattle.commit_protocol.specs.Allowed.{is_prepared}
use Rattle.commit_protocol.specs.Rows as rows
use Rattle.commit_protocol.specs.Rows.{Event, row}
use Rattle.commit_protocol.specs.Standing.{Stands}
use Rattle.commit_protocol.specs.World.{In}
use Rattle.commit_protocol.proofs.Lists.{find-key}
use Rattle.run_said.specs.log_laws.Slots.{prepared_of, records_in, slot_records}
use Rattle.run_said.proofs.log_laws.Reading.{is_prepared_one}
use Rattle.run_said.specs.run_model.Locks.{is_locked}
use Rattle.run_said.specs.run_model.World as world
use Rattle.run_said.specs.run_model.World.{Shared, Node, Durable, File, Act, Arms, Boots, Changes, Clocks, ComesUp, Creates, Directs, Draws, Falls, Formats, Holds, Labels, Marks, Saves, Recovers, Numbers, Tables, Settlement, Half, MayTurnOut, aborted_prepared, acted, changed_file, directly_changed, find_file, free_place, half_undone, is_durable, next_id, next_moment, settled_file, settlement, settlement_of, with_file, with_half}
use Rattle.run_said.specs.run_model.Answers as answers
use Rattle.run_said.specs.run_model.Answers.{Row, Task, Serves, Ticks, Takes, Hears, LosesLink, RunsDown, Restarts, last_lines, powers, settled_line, task_service, unit_key}
use Rattle.run_said.specs.run_model.Steps.{node_after}
use Rattle.run_laws.specs.Accounts.{Account, MayHave, commits_here, left_by, told_by}
use Rattle.recovery_laws.specs.world_laws.Nodes.{IsOf, IsUp}
use Rattle.recovery_laws.specs.Entering.{FindsImages}
use Rattle.recovery_laws.specs.world_laws.Restarts.{AllNoted}
use Rattle.recovery_laws.specs.world_laws.Running.{IsDrawn, history_in, history_of}
use Rattle.recovery_laws.proofs.world_laws.IdLemmas.{id_is, id_other}
use Rattle.recovery_laws.proofs.world_laws.BootLemmas.{branch_in}
use Rattle.recovery_laws.proofs.world_laws.DirectLemmas.{none_of}
use Rattle.recovery_laws.proofs.world_laws.FindLemmas.{mapped_file, some_is}
use Rattle.recovery_laws.proofs.world_laws.HalfLemmas.{by_leaving}
use Rattle.recovery_laws.proofs.world_laws.HeldLemmas.{noted_at}
use Rattle.recovery_laws.proofs.world_laws.HistoryLemmas.{aborted_leaves, by_settled, committed_leaves}
use Rattle.recovery_laws.proofs.world_laws.LogLemmas.{branch_of, record_there, state_prepared}
use Rattle.recovery_laws.proofs.world_laws.PlainLemmas.{by_others}
use Rattle.recovery_laws.proofs.world_laws.RestartLemmas.{undone_unit}
use Rattle.recovery_laws.proofs.world_laws.RunningLemmas.{none_after}
use Rattle.recovery_laws.proofs.world_laws.FileRows.{images_by, recovers_by, saves_by, sets_by}
use Rattle.recovery_laws.proofs.world_laws.ServedLemmas.{undrawn}
use Rattle.recovery_laws.proofs.world_laws.TableLemmas.{changed_serials, found_in, in_cut, in_serials, of_serial, serials_apart}
use Rattle.recovery_laws.proofs.world_laws.UpLemmas.{branch_drawn, differ, drawn_more}
use Rattle.run_laws.proofs.AccountLemmas.{IsQuiet, IsShownBy, IsStill, IsUntold, commits_append, commits_last, commits_plain, history_kept, history_other, history_settled, last_left, last_told, left_is, left_given, left_may, last_given, still_settled, left_others, left_shown, left_told, none_settled, shown_left}
use Rattle.run_laws.proofs.EachRow.{ArePlain, VotesSo}
use Rattle.run_laws.proofs.Keeping.{AllTake, IsNextUnit, Keeps, Scheme, is_special, closes_plain}
use Rattle.run_laws.proofs.Once.{fewer_after, of_drawn, put_serials_new, unit_branch}
use Rattle.run_laws.proofs.RowFits.{Fits, FitsTable, RowFits, TellsAct, free_after, latest_id}

-- a branch that is no unit changed nothing
pub no_changes : (units : Journal) (fs : List (Option File)) (x : Id) (file : List ℕ) → AllNoted units fs → is_unit x units ≡ false → changes_by x (history_in file fs).live ≡ []
no_changes units fs x file noted none = go (find_file file fs) refl
  where
    turned : (ls : List LiveChanges) → AllByRecursion (λ (l : LiveChanges). same_id x l.serial ≡ false) ls → AllByRecursion (λ (l : LiveChanges). same_id l.serial x ≡ false) ls
    turned [] h = tt
    turned (l ∷ ls) h = (id_other x l.serial h.0, turned ls h.1)

    go : (o : Option File) → find_file file fs ≡ o → changes_by x (history_of o).live ≡ []
    go (Some f) found = by_others x f.history.live (turned f.history.live (none_of units x f.history.live none (noted_at units file fs f noted found).units))
    go None found = refl

module _ (node file : List ℕ) (D : Id → Type 0) where
  -- What is known.

  -- Of a branch just what it changed in the file is told, unless an abort of it was begun; and it has not left it.
  pub record IsTold (a : Account) (ls : List LiveChanges) (x : Id) : Type 0 where
    pub tells : D x ⊎ ((m : TheRecords) → told_by x a.told m ≡ applied (changes_by x ls) m)
    pub staying : list_any (same_id x) a.left ≡ false

  -- A branch is committed of which an abort was begun: of that nothing is said.
  abbrev pub Betrays : List Settlement → Type 0
  Betrays ss = (s : Settlement) × In s ss × (s.outcome ≡ Commit) × D s.serial

  -- Of a disk: once the last settlement is shown there is what it has committed; of branches that are prepared what they changed is told, and of ids that no boot has
  -- reached nothing.
  pub record IsToldDisk (a : Account) (name : List ℕ) (d : Durable) : Type 0 where
    pub named : name ≡ node
    pub records_are : MayHave (last_left node d.last a) (records (history_in file d.directory))
    pub still : IsStill a (history_in file d.directory).live
    pub quiet : find_file file d.directory ≡ None → IsQuiet a.told
    pub own : (s : Settlement) → d.last ≡ Some s → IsOf name d.boot s.serial
    pub apart : (s : Settlement) (r : LogRecord) → d.last ≡ Some s → s.outcome ≡ Commit → In r (prepared_of (records_in d.log)) → r.serial ≡ s.serial → ⊥
    pub only : (x : Id) → (IsOf name d.boot x → ⊥) → IsUntold a x
    pub prepared : (r : LogRecord) → In r (prepared_of (records_in d.log)) → IsTold a (history_in file d.directory).live r.serial

  -- Of a node that is up: the last settlement is shown, and of each branch what it changed is told.
  pub record IsToldUp (free : Bool) (a : Account) (n : Node) : Type 0 where
    pub named : n.name ≡ node
    pub shown : IsShownBy node n.durable.last a.left
    pub records_are : MayHave a (records (history_in file n.durable.directory))
    pub still : IsStill a (history_in file n.durable.directory).live
    pub quiet : find_file file n.durable.directory ≡ None → IsQuiet a.told
    pub own : (s : Settlement) → n.durable.last ≡ Some s → IsOf n.name n.durable.boot s.serial
    pub only : (x : Id) → (IsDrawn n.name n.durable.boot n.volatile.drawn x → ⊥) → IsUntold a x
    pub fresh : free ≡ true → IsUntold a (latest_id n) × (changes_by (latest_id n) (history_in file n.durable.directory).live ≡ [])
    pub told : (x : Id) → In x (branch_serials n.volatile.branches) → IsTold a (history_in file n.durable.directory).live x

  -- Of a node that is booted: the last settlement is shown, and all branches are prepared.
  pub record IsToldBoot (a : Account) (n : Node) : Type 0 where
    pub named : n.name ≡ node
    pub shown : IsShownBy node n.durable.last a.left
    pub records_are : MayHave a (records (history_in file n.durable.directory))
    pub still : IsStill a (history_in file n.durable.directory).live
    pub quiet : find_file file n.durable.directory ≡ None → IsQuiet a.told
    pub own : (s : Settlement) → n.durable.last ≡ Some s → IsOf n.name n.durable.boot s.serial
    pub only : (x : Id) → ((x.node ≡ n.name) × (x.boot < n.durable.boot) → ⊥) → IsUntold a x
    pub prepared : (r : LogRecord) → In r (prepared_of (records_in n.durable.log)) → IsTold a (history_in file n.durable.directory).live r.serial
    pub table : (b : Branch) → In b n.volatile.branches → is_prepared b.state ≡ true

  -- the acts by which nothing is told of the file
  abbrev pub Quiet : Option Act → Type 0
  Quiet (Some (Changes tid serial f cs keys)) = bytes_eq f file ≡ false
  Quiet (Some (Directs f cs s)) = bytes_eq f file ≡ false
  Quiet (Some (Creates place f)) = ⊥
  Quiet (Some (Recovers f start buckets m)) = bytes_eq f file ≡ false
  Quiet _ = Unit {0}

  -- an abort that is under way was begun
  abbrev pub IsDoomed : Node → Type 0
  IsDoomed n = (k : BranchKey) (reason : Reason) (r : Option LogRecord) (moment : ℕ) → n.under_way ≡ Some (Tables (Settles k Abort reason r) moment) → D k.serial

  -- Disks.

  -- an account that tells the same, and in which no fewer have left
  pub record IsBeneath (a b : Account) : Type 0 where
    pub told : b.told ≡ a.told
    pub doubt : b.given ≡ a.given
    pub left : (x : Id) → list_any (same_id x) b.left ≡ false → list_any (same_id x) a.left ≡ false

  untold_beneath : (a b : Account) (x : Id) → IsBeneath a b → IsUntold b x → IsUntold a x
  untold_beneath a b x l u = ((λ m. ap (λ t. told_by x t m) (sym l.told) ∙ u.0 m), l.left x u.1)

  told_beneath : (a b : Account) (ls : List LiveChanges) (x : Id) → IsBeneath a b → IsTold b ls x → IsTold a ls x
  told_beneath a b ls x l u = record { tells = elim u.tells [ inl d ↦ inl d | inr t ↦ inr (λ m. ap (λ t. told_by x t m) (sym l.told) ∙ t m) ]; staying = l.left x u.staying }

  -- what is known of the disk of a node that is up, by an account that shows no more
  pub disk_of : (free : Bool) (a b : Account) (n : Node) → IsBeneath a b → last_left node n.durable.last a ≡ b → IsUp n → IsToldUp free b n → IsToldDisk a n.name n.durable
  disk_of free a b n l same up h = record {
    named = h.named;
    records_are = subst (λ (c : Account). MayHave c (records (history_in file n.durable.directory))) (sym same) h.records_are;
    still = λ m e. h.still m (l.doubt ∙ e);
    quiet = λ gone x m. ap (λ t. told_by x t m) (sym l.told) ∙ h.quiet gone x m;
    own = h.own;
    apart = λ s r e commit i j. both_ways _ (ap (λ y. list_any (same_id y) b.left) (sym j) ∙ (told_record r i).staying) (left_last s e commit);
    only = λ x none. untold_beneath a b x l (h.only x (λ d. none (of_drawn n.name n.durable.boot n.volatile.drawn x d)));
    prepared = λ r i. told_beneath a b (history_in file n.durable.directory).live r.serial l (told_record r i);
  }
    where
      told_record : (r : LogRecord) → In r (prepared_of (records_in n.durable.log)) → IsTold b (history_in file n.durable.directory).live r.serial
      told_record r i = let c = branch_of n up.table r i in h.told r.serial (subst (λ (q : LogRecord). In q.serial (branch_serials n.volatile.branches)) (sym c.is) (in_serials c.branch n.volatile.branches c.there))

      left_last : (s : Settlement) → n.durable.last ≡ Some s → s.outcome ≡ Commit → list_any (same_id s.serial) b.left ≡ true
      left_last s e commit = subst (λ o. elim o as (λ x. Type 0) [ Commit ↦ list_any (same_id s.serial) b.left ≡ true | Abort ↦ Unit {0} ]) commit (subst (λ o. IsShownBy node o b.left) e h.shown)

  itself : (a : Account) → IsBeneath a a
  itself a = record { told = refl; doubt = refl; left = λ x e. e }

  pub falls_told : (free : Bool) (a : Account) (n : Node) → IsUp n → IsToldUp free a n → IsToldDisk a n.name n.durable
  falls_told free a n up h = disk_of free a a n (itself a) (shown_left node n.durable.last a h.shown) up h

  less_free : (free : Bool) (a : Account) (n : Node) → IsToldUp free a n → IsToldUp false a n
  less_free free a n h = record { named = h.named; shown = h.shown; records_are = h.records_are; still = h.still; quiet = h.quiet; own = h.own; only = h.only; fresh = λ e. let no : ⊥ = cc in absurd no; told = h.told }

  -- an abort is done in part
  half_told : (a : Account) (n : Node) (standing : List ℕ → Map) → IsDoomed n → MayTurnOut n (Half standing) → IsToldDisk a n.name n.durable → IsToldDisk a n.name (with_half (aborted_prepared n.under_way n.durable) standing n.durable)
  half_told a n standing doomed may h = subst (λ o. IsToldDisk a n.name (with_half o standing n.durable)) (sym may.1) (record {
    named = h.named;
    records_are = subst (MayHave (last_left node n.durable.last a)) (sym (kept (λ (k : History). records k) (λ f. refl))) h.records_are;
    still = λ m e. stays_still (find_file file n.durable.directory) refl (h.still m e);
    quiet = λ gone. h.quiet (none gone);
    own = h.own;
    apart = h.apart;
    only = h.only;
    prepared = λ r i. at r i (same_id r.serial may.0) refl;
  })
    where
      kept : {A : Type 0} (part : History → A) → ((f : File) → part (half_undone may.0 standing f).history ≡ part f.history) → part (history_in file (map (option_map (half_undone may.0 standing)) n.durable.directory)) ≡ part (history_in file n.durable.directory)
      kept part same = ap (λ o. part (history_of o)) (mapped_file file (half_undone may.0 standing) n.durable.directory (λ f. refl)) ∙ go (find_file file n.durable.directory)
        where
          go : (o : Option File) → part (history_of (option_map (half_undone may.0 standing) o)) ≡ part (history_of o)
          go (Some f) = same f
          go None = refl

      stays_still : (o : Option File) → find_file file n.durable.directory ≡ o → (history_in file n.durable.directory).live ≡ [] → (history_in file (map (option_map (half_undone may.0 standing)) n.durable.directory)).live ≡ []
      stays_still (Some f) found e = ap (λ o. (history_of o).live) (mapped_file file (half_undone may.0 standing) n.durable.directory (λ f. refl) ∙ ap (option_map (half_undone may.0 standing)) found)
          ∙ ap (world.live_leaving may.0 (standing f.name)) (ap (λ o. (history_of o).live) (sym found) ∙ e)
      stays_still None found e = ap (λ o. (history_of o).live) (mapped_file file (half_undone may.0 standing) n.durable.directory (λ f. refl) ∙ ap (option_map (half_undone may.0 standing)) found)

      none : find_file file (map (option_map (half_undone may.0 standing)) n.durable.directory) ≡ None → find_file file n.durable.directory ≡ None
      none e = go (find_file file n.durable.directory) (sym (mapped_file file (half_undone may.0 standing) n.durable.directory (λ f. refl)) ∙ e)
        where
          go : (o : Option File) → option_map (half_undone may.0 standing) o ≡ None → o ≡ None
          go (Some f) k = let no : ⊥ = cc in absurd no
          go None k = refl

      doom : (o : Option Act) → n.under_way ≡ o → aborted_prepared o n.durable ≡ Some may.0 → D may.0
      doom (Some (Tables (Settles k Abort reason r) moment)) e f = subst D (of_unit (find_unit k.serial (units_in n.durable.units.entries)) f) (doomed k reason r moment e)
        where
          of_unit : (o : Option RecoveryUnit) → ◌≡◌ {A = Option Id} (elim o [ Some u ↦ (if u.prepared then Some k.serial else None) | None ↦ None ]) (Some may.0) → k.serial ≡ may.0
          of_unit (Some u) g = pick u.prepared g
            where
              pick : (b : Bool) → ◌≡◌ {A = Option Id} (if b then Some k.serial else None) (Some may.0) → k.serial ≡ may.0
              pick true q = some_is k.serial may.0 q
              pick false q = let no : ⊥ = cc in absurd no
          of_unit None g = let no : ⊥ = cc in absurd no
      doom (Some (Tables (Settles k Commit reason r) moment)) e f = let no : ⊥ = cc in absurd no
      doom (Some (Tables (Notes b) moment)) e f = let no : ⊥ = cc in absurd no
      doom (Some (Tables (Accepts b c) moment)) e f = let no : ⊥ = cc in absurd no
      doom (Some (Tables (Prepares b) moment)) e f = let no : ⊥ = cc in absurd no
      doom (Some (Tables (Leaves k) moment)) e f = let no : ⊥ = cc in absurd no
      doom (Some (Tables (Acknowledges k) moment)) e f = let no : ⊥ = cc in absurd no
      doom (Some (Tables (Releases x rm) moment)) e f = let no : ⊥ = cc in absurd no
      doom (Some (Tables (Undoes k) moment)) e f = let no : ⊥ = cc in absurd no
      doom (Some (Tables (Sends m) moment)) e f = let no : ⊥ = cc in absurd no
      doom (Some (Tables (Prints l) moment)) e f = let no : ⊥ = cc in absurd no
      doom None e f = let no : ⊥ = cc in absurd no
      doom (Some _) e f = let no : ⊥ = cc in absurd no

      beside : (x : Id) → same_id x may.0 ≡ false → changes_by x (history_in file (map (option_map (half_undone may.0 standing)) n.durable.directory)).live ≡ changes_by x (history_in file n.durable.directory).live
      beside x other = kept (λ (k : History). changes_by x k.live) (λ f. by_leaving may.0 (standing f.name) x f.history.live ∙ ap (λ b. if b then world.leaving (standing f.name) [] (changes_by x f.history.live) else changes_by x f.history.live) other)

      at : (r : LogRecord) → In r (prepared_of (records_in n.durable.log)) → (b : Bool) → same_id r.serial may.0 ≡ b → IsTold a (history_in file (map (option_map (half_undone may.0 standing)) n.durable.directory)).live r.serial
      at r i true t = record { tells = inl (subst D (sym (id_is r.serial may.0 t)) (doom n.under_way refl may.1)); staying = (h.prepared r i).staying }
      at r i false t = record {
        tells = elim (h.prepared r i).tells [ inl d ↦ inl d | inr tells ↦ inr (λ m. tells m ∙ ap (λ cs. applied cs m) (sym (beside r.serial t))) ];
        staying = (h.prepared r i).staying;
      }

  -- Boots.

  booting_told : (a : Account) (n : Node) → IsToldDisk a n.name n.durable → IsToldDisk a n.name (acted Boots n).durable
  booting_told a n h = record {
    named = h.named;
    records_are = h.records_are;
    still = h.still;
    quiet = h.quiet;
    own = λ s e. let o = h.own s e in let low = o.1 in (o.0, omega (arith, low));
    apart = h.apart;
    only = λ x none. h.only x (λ o. none (o.0, (let low = o.1 in omega (arith, low))));
    prepared = h.prepared;
  }

  -- what is told of others once the last settlement is shown
  last_untold : (last : Option Settlement) (a : Account) (x : Id) → ((s : Settlement) → last ≡ Some s → s.outcome ≡ Commit → same_id x s.serial ≡ false) → list_any (same_id x) a.left ≡ false → list_any (same_id x) (last_left node last a).left ≡ false
  last_untold None a x apart none = none
  last_untold (Some s) a x apart none = go s.outcome refl
    where
      go : (o : Outcome) → s.outcome ≡ o → list_any (same_id x) (elim o as (λ y. Account) [ Commit ↦ left_by node s.serial a | Abort ↦ a ]).left ≡ false
      go Commit e = left_others node s.serial x a (apart s refl e) none
      go Abort e = none

  boots_told : (a : Account) (n : Node) → IsToldDisk a n.name n.durable → IsToldBoot (commits_here node (last_lines n) a) (acted Boots n)
  boots_told a n h = subst (λ b. IsToldBoot b (acted Boots n)) (sym (commits_last node n a)) (record {
    named = h.named;
    shown = left_shown node n.durable.last a (λ s e. (h.own s e).0 ∙ h.named);
    records_are = h.records_are;
    still = λ m e. h.still m (sym (last_given node n.durable.last a) ∙ e);
    quiet = λ gone x m. ap (λ t. told_by x t m) (last_told node n.durable.last a) ∙ h.quiet gone x m;
    own = λ s e. let o = h.own s e in let low = o.1 in (o.0, omega (arith, low));
    only = λ x none.
        let u = h.only x (λ o. none (o.0, (let low = o.1 in omega (arith, low)))) in (
          λ m. ap (λ t. told_by x t m) (last_told node n.durable.last a) ∙ u.0 m,
          last_untold n.durable.last a x (λ s e commit. false_from_ne_true _ (λ t. none (subst (λ y. (y.node ≡ n.name) × (y.boot < n.durable.boot + 1)) (sym (id_is x s.serial t)) (let o = h.own s e in let low = o.1 in (o.0, omega (arith, low)))))) u.1,
        );
    prepared = λ r i.
        let t = h.prepared r i in
        record {
          tells = elim t.tells [ inl d ↦ inl d | inr tells ↦ inr (λ m. ap (λ u. told_by r.serial u m) (last_told node n.durable.last a) ∙ tells m) ];
          staying = last_untold n.durable.last a r.serial (λ s e commit. false_from_ne_true _ (λ same. h.apart s r e commit i (id_is r.serial s.serial same))) t.staying;
        };
    table = λ b i. let r = branch_in (world.prepared_left n.durable) b i in ap (λ (c : Branch). is_prepared c.state) r.2;
  })

  undoes_told : (a : Account) (n : Node) (u : RecoveryUnit) → IsNextUnit n u → IsToldBoot a n → IsToldBoot a (undone_unit n u)
  undoes_told a n u next h = record {
    named = h.named;
    shown = tt;
    records_are = subst (MayHave a) (sym (aborted_leaves u.serial (next_moment n) (history_in file n.durable.directory)) ∙ ap records (sym (history_settled file s n.durable.directory))) h.records_are;
    still = λ m e. still_settled file s n.durable.directory (h.still m e);
    quiet = λ gone. h.quiet (none_settled file s n.durable.directory gone);
    own = λ x e. subst (λ (y : Settlement). IsOf n.name n.durable.boot y.serial) (some_is _ x e) next.of;
    only = h.only;
    prepared = λ r i.
        let t = h.prepared r i in
        record { tells = elim t.tells [ inl d ↦ inl d | inr tells ↦ inr (λ m. tells m ∙ ap (λ cs. applied cs m) (sym (stays r i))) ]; staying = t.staying };
    table = λ b i. h.table b (in_cut (unit_key u) b n.volatile.branches i).0;
  }
    where
      s : Settlement
      s = settlement (unit_key u) Abort SegFail (next_moment n)

      other : (r : LogRecord) → In r (prepared_of (records_in n.durable.log)) → same_id r.serial u.serial ≡ false
      other r i = false_from_ne_true _ (λ t. go t (find_unit u.serial (units_in n.durable.units.entries)) refl next.there)
        where
          go : same_id r.serial u.serial ≡ true → (o : Option RecoveryUnit) → find_unit u.serial (units_in n.durable.units.entries) ≡ o → is_some o ≡ true → ⊥
          go t (Some v) e k = both_ways _ (next.unprepared v e) (next.kept.log.active r v i (ap (λ y. find_unit y (units_in n.durable.units.entries)) (id_is r.serial u.serial t) ∙ e)).0
          go t None e k = let no : ⊥ = cc in no

      stays : (r : LogRecord) → In r (prepared_of (records_in n.durable.log)) → changes_by r.serial (history_in file (undone_unit n u).durable.directory).live ≡ changes_by r.serial (history_in file n.durable.directory).live
      stays r i = ap (λ (k : History). changes_by r.serial k.live) (history_settled file s n.durable.directory) ∙ by_settled r.serial u.serial Abort (next_moment n) (history_in file n.durable.directory) (other r i)

  rests_told : (a : Account) (n : Node) → IsToldBoot a n → ((s : Settlement) (r : LogRecord) → n.durable.last ≡ Some s → s.outcome ≡ Commit → In r (prepared_of (records_in n.durable.log)) → r.serial ≡ s.serial → ⊥) × IsToldDisk a n.name n.durable
  rests_told a n h = (
    apart,
    record {
      named = h.named;
      records_are = subst (λ (c : Account). MayHave c (records (history_in file n.durable.directory))) (sym (shown_left node n.durable.last a h.shown)) h.records_are;
      still = h.still;
      quiet = h.quiet;
      own = h.own;
      apart = apart;
      only = λ x none. h.only x (λ e. none (e.0, (let low = e.1 in omega (arith, low))));
      prepared = h.prepared;
    },
  )
    where
      apart : (s : Settlement) (r : LogRecord) → n.durable.last ≡ Some s → s.outcome ≡ Commit → In r (prepared_of (records_in n.durable.log)) → r.serial ≡ s.serial → ⊥
      apart s r e commit i j = both_ways _ (ap (λ y. list_any (same_id y) a.left) (sym j) ∙ (h.prepared r i).staying)
          (subst (λ o. elim o as (λ x. Type 0) [ Commit ↦ list_any (same_id s.serial) a.left ≡ true | Abort ↦ Unit {0} ]) commit (subst (λ o. IsShownBy node o a.left) e h.shown))

  comes_told : (a : Account) (n : Node) → IsUp (acted ComesUp n) → IsToldBoot a n → IsToldUp false a (acted ComesUp n)
  comes_told a n up h = record {
    named = h.named;
    shown = h.shown;
    records_are = h.records_are;
    still = h.still;
    quiet = h.quiet;
    own = h.own;
    only = λ x none. h.only x (λ e. none (e.0, inl e.1));
    fresh = λ e. let no : ⊥ = cc in absurd no;
    told = λ x i.
        let b = of_serial x n.volatile.branches i in
        let r = table.prepared_record b.branch in
        let state = state_prepared (b.branch).state (h.table b.branch b.there) in
        subst (IsTold a (history_in file n.durable.directory).live) b.serial
        (h.prepared r (is_prepared_one (records_in n.durable.log) r (up.table.log.prepared r (record_there n.volatile.branches b.branch b.there state)) refl));
  }

  -- Rows of a node that is up.

  -- nothing is committed, and no branch comes
  quiet_told : (free : Bool) (n m : Node) (a : Account) → m.name ≡ n.name → m.durable.boot ≡ n.durable.boot → m.durable.last ≡ n.durable.last → m.volatile.drawn ≡ n.volatile.drawn → records (history_in file m.durable.directory) ≡ records (history_in file n.durable.directory) →
      (history_in file m.durable.directory).live ≡ (history_in file n.durable.directory).live → (find_file file m.durable.directory ≡ None → find_file file n.durable.directory ≡ None) →
      ((x : Id) → In x (branch_serials m.volatile.branches) → In x (branch_serials n.volatile.branches)) → IsToldUp free a n → IsToldUp free a m
  quiet_told free n m a name boot last drawn same live none fewer h = record {
    named = name ∙ h.named;
    shown = subst (λ o. IsShownBy node o a.left) (sym last) h.shown;
    records_are = subst (MayHave a) (sym same) h.records_are;
    still = λ m e. live ∙ h.still m e;
    quiet = λ gone. h.quiet (none gone);
    own = λ s e. let o = h.own s (sym last ∙ e) in (o.0 ∙ sym name, subst (λ k. s.serial.boot ≤ k) (sym boot) o.1);
    only = λ x no. h.only x (λ d. no (d.0 ∙ sym name, elim d.1 [ inl e ↦ inl (subst (λ k. x.boot < k) (sym boot) e) | inr e ↦ inr (e.0 ∙ sym boot, subst (λ k. x.seq ≤ k) (sym drawn) e.1) ]));
    fresh = λ f. let u = h.fresh f in let id : latest_id m ≡ latest_id n = (λ j. record { node = name j; boot = boot j; seq = drawn j }) in
        subst (λ y. IsUntold a y × (changes_by y (history_in file m.durable.directory).live ≡ [])) (sym id) (u.0, ap (changes_by (latest_id n)) live ∙ u.1);
    told = λ x i. subst (λ ls. IsTold a ls x) (sym live) (h.told x (fewer x i));
  }

  drew_told : (free : Bool) (a : Account) (n : Node) → IsUp n → IsToldUp free a n → IsToldUp true a (acted Draws n)
  drew_told free a n up h = record {
    named = h.named;
    shown = h.shown;
    records_are = h.records_are;
    still = h.still;
    quiet = h.quiet;
    own = h.own;
    only = λ x none. h.only x (λ d. none (drawn_more n.name n.durable.boot n.volatile.drawn x d));
    fresh = λ e. (h.only (next_id n) (λ d. undrawn n (next_id n) d refl), no_changes n.durable.units n.durable.directory (next_id n) file up.filed.can next_no_unit);
    told = h.told;
  }
    where
      next_no_unit : is_unit (next_id n) n.durable.units ≡ false
      next_no_unit = false_from_ne_true _ (λ u. undrawn n (next_id n) (branch_drawn n up.table (next_id n) (unit_branch n up (next_id n) u)) refl)

  -- Settlements.

  -- whoever has not left then had not left before
  left_less : (x y : Id) (a : Account) → list_any (same_id y) (left_by node x a).left ≡ false → list_any (same_id y) a.left ≡ false
  left_less x y a = go (bytes_eq x.node node) (list_any (same_id x) a.left)
    where
      tail : (b c : Bool) → (b || c) ≡ false → c ≡ false
      tail true c e = let no : ⊥ = cc in absurd no
      tail false c e = e

      go : (b c : Bool) → list_any (same_id y) (if b then (if c then a else record a { records = told_by x a.told a.records; left = x ∷ a.left }) else a).left ≡ false → list_any (same_id y) a.left ≡ false
      go true true e = e
      go true false e = tail (same_id y x) (list_any (same_id y) a.left) e
      go false c e = e

  pub beneath_left : (x : Id) (a : Account) → IsBeneath a (left_by node x a)
  beneath_left x a = record { told = left_told node x a; doubt = left_given node x a; left = λ y e. left_less x y a e }

  module _ (n : Node) (k : BranchKey) (o : Outcome) (reason : Reason) (r : Option LogRecord) (moment : ℕ) (up : IsUp n) (stands : Stands n.volatile.branches (Settles k o reason r)) (free : Bool) (a : Account) (h : IsToldUp free a n) where
    found : (b : Branch) × In b n.volatile.branches × (b.key ≡ k)
    found = let t = stands.0 in (t.0, found_in k n.volatile.branches t.0 t.1, find-key k n.volatile.branches t.0 t.1)

    there : In k.serial (branch_serials n.volatile.branches)
    there = subst (λ (j : BranchKey). In j.serial (branch_serials n.volatile.branches)) found.2 (in_serials found.0 n.volatile.branches found.1)

    drawn : IsDrawn n.name n.durable.boot n.volatile.drawn k.serial
    drawn = branch_drawn n up.table k.serial there

    mine : k.serial.node ≡ node
    mine = drawn.0 ∙ h.named

    abbrev dir : List (Option File)
    dir = n.durable.directory

    -- the other branches stay
    other : (x : Id) → In x (branch_serials (cut k n.volatile.branches)) → In x (branch_serials n.volatile.branches) × (same_id x k.serial ≡ false)
    other x i = (fewer_after n (Settles k o reason r) up stands x i, false_from_ne_true _ (λ t. gone (subst (λ y. In y (branch_serials (cut k n.volatile.branches))) (id_is x k.serial t) i)))
      where
        gone : In k.serial (branch_serials (cut k n.volatile.branches)) → ⊥
        gone j =
            let b = of_serial k.serial (cut k n.volatile.branches) j in
            let c = in_cut k b.branch n.volatile.branches b.there in
            serials_apart n.volatile.branches b.branch found.0 (differ n up.table) c.0 found.1 (λ e. c.1 (e ∙ found.2)) (b.serial ∙ ap (λ (j : BranchKey). j.serial) (sym found.2))

    stays : (s : Settlement) → s.serial ≡ k.serial → (x : Id) → same_id x k.serial ≡ false → changes_by x (history_in file (map (option_map (settled_file s)) dir)).live ≡ changes_by x (history_in file dir).live
    stays s is x apart = ap (λ (q : History). changes_by x q.live) (history_settled file s dir) ∙ by_settled x s.serial s.outcome s.moment (history_in file dir) (subst (λ y. same_id x y ≡ false) (sym is) apart)

    undrawn_apart : (x : Id) → (IsDrawn n.name n.durable.boot n.volatile.drawn x → ⊥) → same_id x k.serial ≡ false
    undrawn_apart x none = false_from_ne_true _ (λ t. none (subst (IsDrawn n.name n.durable.boot n.volatile.drawn) (sym (id_is x k.serial t)) drawn))

  aborted_told : (n : Node) (k : BranchKey) (reason : Reason) (r : Option LogRecord) (moment : ℕ) → IsUp n → Stands n.volatile.branches (Settles k Abort reason r) → (free : Bool) (a : Account) → IsToldUp free a n → IsToldUp false a (acted (Tables (Settles k Abort reason r) moment) n)
  aborted_told n k reason r moment up stands free a h =
      let s = settlement k Abort reason moment in
      record {
        named = h.named;
        shown = tt;
        records_are = subst (MayHave a) (sym (aborted_leaves k.serial moment (history_in file n.durable.directory)) ∙ ap records (sym (history_settled file s n.durable.directory))) h.records_are;
        still = λ m e. still_settled file s n.durable.directory (h.still m e);
        quiet = λ gone. h.quiet (none_settled file s n.durable.directory gone);
        own = λ x e. subst (λ (y : Settlement). IsOf n.name n.durable.boot y.serial) (some_is s x e) (of_drawn n.name n.durable.boot n.volatile.drawn k.serial (drawn n k Abort reason r moment up stands free a h));
        only = h.only;
        fresh = λ e. let no : ⊥ = cc in absurd no;
        told = λ x i.
            let j = other n k Abort reason r moment up stands free a h x i in
            let t = h.told x j.0 in
            record { tells = elim t.tells [ inl d ↦ inl d | inr tells ↦ inr (λ m. tells m ∙ ap (λ cs. applied cs m) (sym (stays n k Abort reason r moment up stands free a h s refl x j.1))) ]; staying = t.staying };
      }

  committed_told : (n : Node) (k : BranchKey) (reason : Reason) (r : Option LogRecord) (moment : ℕ) → IsUp n → Stands n.volatile.branches (Settles k Commit reason r) → (free : Bool) (a : Account) → IsToldUp free a n →
      let m = acted (Tables (Settles k Commit reason r) moment) n in Betrays m.settled ⊎ IsToldUp false (left_by node k.serial a) m
  committed_told n k reason r moment up stands free a h = go (h.told k.serial (there n k Commit reason r moment up stands free a h)).tells
    where
      go : D k.serial ⊎ ((m : TheRecords) → told_by k.serial a.told m ≡ applied (changes_by k.serial (history_in file n.durable.directory).live) m) → let m = acted (Tables (Settles k Commit reason r) moment) n in Betrays m.settled ⊎ IsToldUp false (left_by node k.serial a) m
      go (inl d) = inl (settlement k Commit reason moment, inl refl, refl, d)
      go (inr tells) = inr (record {
        named = h.named;
        shown = left_is node k.serial a (mine n k Commit reason r moment up stands free a h);
        records_are = subst (MayHave (left_by node k.serial a))
            (tells (records (history_in file n.durable.directory)) ∙ sym (committed_leaves k.serial moment (history_in file n.durable.directory)) ∙ ap records (sym (history_settled file (settlement k Commit reason moment) n.durable.directory)))
            (left_may node k.serial a (records (history_in file n.durable.directory)) (mine n k Commit reason r moment up stands free a h) (h.told k.serial (there n k Commit reason r moment up stands free a h)).staying
            (λ e. tells (records (history_in file n.durable.directory)) ∙ ap (λ ls. applied (changes_by k.serial ls) (records (history_in file n.durable.directory))) (h.still (records (history_in file n.durable.directory)) e)) h.records_are);
        still = λ m e. still_settled file (settlement k Commit reason moment) n.durable.directory (h.still m (sym (left_given node k.serial a) ∙ e));
        quiet = λ gone x m. ap (λ t. told_by x t m) (left_told node k.serial a) ∙ h.quiet (none_settled file (settlement k Commit reason moment) n.durable.directory gone) x m;
        own = λ x e. subst (λ (y : Settlement). IsOf n.name n.durable.boot y.serial) (some_is (settlement k Commit reason moment) x e) (of_drawn n.name n.durable.boot n.volatile.drawn k.serial (drawn n k Commit reason r moment up stands free a h));
        only = λ x none. let u = h.only x none in ((λ m. ap (λ t. told_by x t m) (left_told node k.serial a) ∙ u.0 m), left_others node k.serial x a (undrawn_apart n k Commit reason r moment up stands free a h x none) u.1);
        fresh = λ e. let no : ⊥ = cc in absurd no;
        told = λ x i.
            let j = other n k Commit reason r moment up stands free a h x i in
            let t = h.told x j.0 in
            record {
              tells = elim t.tells [
                | inl d ↦ inl d
                | inr more ↦ inr (λ m. ap (λ u. told_by x u m) (left_told node k.serial a) ∙ more m ∙ ap (λ cs. applied cs m) (sym (stays n k Commit reason r moment up stands free a h (settlement k Commit reason moment) refl x j.1)))
              ];
              staying = left_others node k.serial x a j.1 t.staying;
            };
      })

  -- a change without a label of another file
  directed_told : (n : Node) (f : List ℕ) (cs : List Change) (a : Account) (free : Bool) → bytes_eq f file ≡ false → IsUp n → IsToldUp free a n → let s = answers.commit_settlement n (next_id n) (next_id n) in IsToldUp false (left_by node (next_id n) a) (acted (Directs f cs s) n)
  directed_told n f cs a free apart up h =
      let s = answers.commit_settlement n (next_id n) (next_id n) in
      let change = directly_changed (is_locked n.volatile.locks f) s cs in
      let same = history_other file f change n.durable.directory (λ g. refl) apart in
      let next = h.only (next_id n) (λ d. undrawn n (next_id n) d refl) in
      record {
        named = h.named;
        shown = left_is node (next_id n) a h.named;
        records_are = subst (MayHave (left_by node (next_id n) a)) (next.0 (records (history_in file n.durable.directory)) ∙ ap records (sym same)) (left_may node (next_id n) a (records (history_in file n.durable.directory)) h.named next.1 (λ e. next.0 (records (history_in file n.durable.directory))) h.records_are);
        still = λ m e. ap (λ (q : History). q.live) same ∙ h.still m (sym (left_given node (next_id n) a) ∙ e);
        quiet = λ gone x m. ap (λ t. told_by x t m) (left_told node (next_id n) a) ∙ h.quiet (none_after file f change n.durable.directory (λ g. refl) gone) x m;
        own = λ x e. subst (λ (y : Settlement). IsOf n.name n.durable.boot y.serial) (some_is s x e) (refl, omega arith);
        only = λ x none.
            let u = h.only x (λ d. none (drawn_more n.name n.durable.boot n.volatile.drawn x d)) in
            ((λ m. ap (λ t. told_by x t m) (left_told node (next_id n) a) ∙ u.0 m), left_others node (next_id n) x a (false_from_ne_true _ (λ t. none (subst (IsDrawn n.name n.durable.boot (n.volatile.drawn + 1)) (sym (id_is x (next_id n) t)) (refl, inr (refl, omega arith))))) u.1);
        fresh = λ e. let no : ⊥ = cc in absurd no;
        told = λ x i.
            let t = h.told x i in
            record {
              tells = elim t.tells [ inl d ↦ inl d | inr more ↦ inr (λ m. ap (λ u. told_by x u m) (left_told node (next_id n) a) ∙ more m ∙ ap (λ (q : History). applied (changes_by x q.live) m) (sym same)) ];
              staying = left_others node (next_id n) x a (false_from_ne_true _ (λ e. undrawn n x (branch_drawn n up.table x i) (id_is x (next_id n) e))) t.staying;
            };
      }

  -- a branch begins
  begun_told : (n : Node) (b : Branch) (moment : ℕ) (a : Account) → b.key.serial ≡ latest_id n → IsToldUp true a n → IsToldUp false a (acted (Tables (Notes b) moment) n)
  begun_told n b moment a is h = record {
    named = h.named;
    shown = h.shown;
    records_are = h.records_are;
    still = h.still;
    quiet = h.quiet;
    own = h.own;
    only = h.only;
    fresh = λ e. let no : ⊥ = cc in absurd no;
    told = λ x i. elim (put_serials_new b x n.volatile.branches i) [
      | inl old ↦ h.told x old
      | inr e ↦ let u = h.fresh refl in subst (IsTold a (history_in file n.durable.directory).live) (sym (e ∙ is)) (record { tells = inr (λ m. u.0.0 m ∙ ap (λ cs. applied cs m) (sym u.1)); staying = u.0.1 })
    ];
  }

  tabled_told : (free : Bool) (a : Account) (ls : List Line) (n : Node) (act : table.Act) (moment : ℕ) → IsUp n → FitsTable free act moment n → TellsAct (Some (Tables act moment)) ls n → IsToldUp free a n →
      let m = acted (Tables act moment) n in Betrays m.settled ⊎ IsToldUp false (commits_here node ls a) m
  tabled_told free a ls n act moment up f tells h = go act f tells
    where
      quiet : (act : table.Act) → settlement_of act moment ≡ None → ArePlain ls → Stands n.volatile.branches act → IsToldUp false (commits_here node ls a) (acted (Tables act moment) n)
      quiet act none plain stands = subst (λ b. IsToldUp false b (acted (Tables act moment) n)) (sym (commits_plain node ls a plain))
          (quiet_told false n (acted (Tables act moment) n) a refl (boot act none) (last act none) refl (ap (λ fs. records (history_in file fs)) (dir act none)) (ap (λ fs. (history_in file fs).live) (dir act none)) (λ e. ap (find_file file) (sym (dir act none)) ∙ e)
          (λ x i. fewer_after n act up stands x i) (less_free free a n h))
        where
          boot : (act : table.Act) → settlement_of act moment ≡ None → (acted (Tables act moment) n).durable.boot ≡ n.durable.boot
          boot (Settles k o reason r) e = refl
          boot (Undoes k) e = refl
          boot _ e = refl

          last : (act : table.Act) → settlement_of act moment ≡ None → (acted (Tables act moment) n).durable.last ≡ n.durable.last
          last (Settles k o reason r) e = let no : ⊥ = cc in absurd no
          last (Undoes k) e = let no : ⊥ = cc in absurd no
          last _ e = refl

          dir : (act : table.Act) → settlement_of act moment ≡ None → (acted (Tables act moment) n).durable.directory ≡ n.durable.directory
          dir (Settles k o reason r) e = let no : ⊥ = cc in absurd no
          dir (Undoes k) e = let no : ⊥ = cc in absurd no
          dir _ e = refl

      settled : (k : BranchKey) (o : Outcome) (reason : Reason) (r : Option LogRecord) → ls ≡ settled_line k o reason moment ∷ [] → Stands n.volatile.branches (Settles k o reason r) →
          let m = acted (Tables (Settles k o reason r) moment) n in Betrays m.settled ⊎ IsToldUp false (commits_here node ls a) m
      settled k Commit reason r is stands = subst (λ xs. let m = acted (Tables (Settles k Commit reason r) moment) n in Betrays m.settled ⊎ IsToldUp false (commits_here node xs a) m) (sym is) (committed_told n k reason r moment up stands free a h)
      settled k Abort reason r is stands = subst (λ xs. let m = acted (Tables (Settles k Abort reason r) moment) n in Betrays m.settled ⊎ IsToldUp false (commits_here node xs a) m) (sym is) (inr (aborted_told n k reason r moment up stands free a h))

      go : (act : table.Act) → FitsTable free act moment n → TellsAct (Some (Tables act moment)) ls n → let m = acted (Tables act moment) n in Betrays m.settled ⊎ IsToldUp false (commits_here node ls a) m
      go (Settles k o reason r) g t = elim g.stands [ inl stands ↦ settled k o reason r t stands | inr none ↦ absurd none ]
      go (Undoes k) g t = absurd g.row
      go (Notes b) g t = elim g.stands [
        | inl stands ↦ inr (quiet (Notes b) refl t stands)
        | inr begun ↦ inr (subst (λ c. IsToldUp false c (acted (Tables (Notes b) moment) n)) (sym (commits_plain node ls a t)) (begun_told n b moment a begun.1 (subst (λ c. IsToldUp c a n) begun.0 h)))
      ]
      go (Accepts b c) g t = elim g.stands [ inl stands ↦ inr (quiet (Accepts b c) refl t stands) | inr none ↦ absurd none ]
      go (Prepares b) g t = elim g.stands [ inl stands ↦ inr (quiet (Prepares b) refl t stands) | inr none ↦ absurd none ]
      go (Leaves k) g t = elim g.stands [ inl stands ↦ inr (quiet (Leaves k) refl t stands) | inr none ↦ absurd none ]
      go (Acknowledges k) g t = elim g.stands [ inl stands ↦ inr (quiet (Acknowledges k) refl t stands) | inr none ↦ absurd none ]
      go (Releases x rm) g t = elim g.stands [ inl stands ↦ inr (quiet (Releases x rm) refl t stands) | inr none ↦ absurd none ]
      go (Sends m) g t = elim g.stands [ inl stands ↦ inr (quiet (Sends m) refl t stands) | inr none ↦ absurd none ]
      go (Prints l) g t = elim g.stands [ inl stands ↦ inr (quiet (Prints l) refl t stands) | inr none ↦ absurd none ]

  -- Any row.

  acted_told : (free : Bool) (a : Account) (ls : List Line) (o : Option Act) (n : Node) → Quiet o → RowFits free (record { act = o; lines = ls }) n → IsToldUp free a n →
      let m = node_after o n in Betrays m.settled ⊎ IsToldUp (free_after free o) (commits_here node ls a) m
  acted_told free a ls o n quiet f h = go o quiet f
    where
      still : (m : Node) (b : Bool) → ArePlain ls → IsToldUp b a m → IsToldUp b (commits_here node ls a) m
      still m b plain k = subst (λ c. IsToldUp b c m) (sym (commits_plain node ls a plain)) k

      by_file : (f : List ℕ) (change : File → File) (m : Node) → bytes_eq f file ≡ false → ((g : File) → (change g).name ≡ g.name) → m.name ≡ n.name → m.durable.boot ≡ n.durable.boot → m.durable.last ≡ n.durable.last → m.volatile.drawn ≡ n.volatile.drawn →
          m.durable.directory ≡ with_file f change n.durable.directory → branch_serials m.volatile.branches ≡ branch_serials n.volatile.branches → IsToldUp false a m
      by_file f change m apart named name boot last drawn dir serials =
          let same = history_other file f change n.durable.directory named apart in
          quiet_told false n m a name boot last drawn (ap (λ fs. records (history_in file fs)) dir ∙ ap records same) (ap (λ fs. (history_in file fs).live) dir ∙ ap (λ (q : History). q.live) same)
          (λ e. none_after file f change n.durable.directory named (ap (find_file file) (sym dir) ∙ e)) (λ x i. subst (In x) serials i) (less_free free a n h)

      kept : (f : List ℕ) (change : File → File) → ((g : File) → (change g).name ≡ g.name) → ((g : File) → records (change g).history ≡ records g.history) → ((g : File) → (change g).history.live ≡ g.history.live) →
          IsToldUp false a (record n { durable = record n.durable { directory = world.with_file f change n.durable.directory } })
      kept f change named recs live =
          quiet_told false n (record n { durable = record n.durable { directory = world.with_file f change n.durable.directory } }) a refl refl refl refl
          (history_kept records file f change n.durable.directory named recs) (history_kept (λ (q : History). q.live) file f change n.durable.directory named live)
          (none_after file f change n.durable.directory named) (λ x i. i) (less_free free a n h)

      by_disk : (m : Node) → m.name ≡ n.name → m.durable ≡ n.durable → m.volatile.drawn ≡ n.volatile.drawn → m.volatile.branches ≡ n.volatile.branches → IsToldUp false a m
      by_disk m name durable drawn branches =
          quiet_told false n m a name (ap (λ (d : Durable). d.boot) durable) (ap (λ (d : Durable). d.last) durable) drawn (ap (λ (d : Durable). records (history_in file d.directory)) durable) (ap (λ (d : Durable). (history_in file d.directory).live) durable)
          (λ e. ap (λ (d : Durable). find_file file d.directory) (sym durable) ∙ e) (λ x i. subst (λ bs. In x (branch_serials bs)) branches i) (less_free free a n h)

      go : (o : Option Act) → Quiet o → RowFits free (record { act = o; lines = ls }) n → let m = node_after o n in Betrays m.settled ⊎ IsToldUp (free_after free o) (commits_here node ls a) m
      go None q g = inr (still n false g.tells (less_free free a n h))
      go (Some (Tables act moment)) q g = tabled_told free a ls n act moment g.up g.fits g.tells h
      go (Some (Directs f cs s)) q g = inr (subst (λ xs. IsToldUp false (commits_here node xs a) (acted (Directs f cs s) n)) (sym g.tells)
          (subst (λ (x : Settlement). IsToldUp false (left_by node x.serial a) (acted (Directs f cs x) n)) (sym g.fits) (directed_told n f cs a free q g.up h)))
      go (Some Draws) q g = inr (still (acted Draws n) true g.tells (drew_told free a n g.up h))
      go (Some (Labels l)) q g = inr (still n free g.tells h)
      go (Some (Numbers label serial)) q g = inr (still n free g.tells h)
      go (Some (Changes tid serial f cs keys)) q g = inr (still (acted (Changes tid serial f cs keys) n) false g.tells
          (by_file f (changed_file (is_locked n.volatile.locks f) tid serial cs) (acted (Changes tid serial f cs keys) n) q (λ x. refl) refl refl refl refl refl (changed_serials serial n.volatile.branches)))
      go (Some (Marks f mark)) q g = inr (still (acted (Marks f mark) n) false g.tells (kept f (world.marked_file mark n.durable.greatest) (λ x. refl) (λ x. refl) (λ x. refl)))
      go (Some (Saves f start)) q g = inr (still (acted (Saves f start) n) false g.tells (kept f (world.saved_file start n.durable.greatest) (λ x. refl) (λ x. refl) (λ x. refl)))
      go (Some (Recovers f start buckets m)) q g = inr (still (acted (Recovers f start buckets m) n) false g.tells
          (by_file f (world.recovered_file start buckets m n.durable.greatest) (acted (Recovers f start buckets m) n) q (λ x. refl) refl refl refl refl refl refl))
      go (Some (Creates place g)) q r = absurd q
      go (Some Boots) q g = absurd g.fits
      go (Some (Formats slots journal)) q g = absurd g.fits
      go (Some ComesUp) q g = absurd g.fits
      go (Some (Holds serial f keys)) q g = inr (still (acted (Holds serial f keys) n) false g.tells (by_disk (acted (Holds serial f keys) n) refl refl refl refl))
      go (Some (Arms writes choice)) q g = inr (still (acted (Arms writes choice) n) false g.tells (by_disk (acted (Arms writes choice) n) refl refl refl refl))
      go (Some (Clocks now)) q g = inr (still (acted (Clocks now) n) false g.tells (by_disk (acted (Clocks now) n) refl refl refl refl))
      go (Some (world.Declares rms)) q g = inr (still (acted (world.Declares rms) n) false g.tells (by_disk (acted (world.Declares rms) n) refl refl refl refl))
      go (Some Falls) q g = inr (still (acted Falls n) false g.tells (by_disk (acted Falls n) refl refl refl refl))

  -- what is known of the disk where a row was begun, of which no line was shown
  under_told : (free : Bool) (a : Account) (ls : List Line) (act : Act) (n : Node) → Quiet (Some act) → RowFits free (record { act = Some act; lines = ls }) n → IsUp (acted act n) → IsToldUp free a n → Betrays (acted act n).settled ⊎ IsToldDisk a (acted act n).name (acted act n).durable
  under_told free a ls act n quiet f up h = elim (acted_told free a ls (Some act) n quiet f h) [ inl b ↦ inl b | inr now ↦ inr (go act quiet f up now) ]
    where
      plainly : (m : Node) (b : Bool) → ArePlain ls → IsUp m → IsToldUp b (commits_here node ls a) m → IsToldDisk a m.name m.durable
      plainly m b plain up now = falls_told b a m up (subst (λ c. IsToldUp b c m) (commits_plain node ls a plain) now)

      leaves : (m : Node) (b : Bool) (s : Settlement) → m.durable.last ≡ Some s → s.outcome ≡ Commit → ls ≡ line.Committed s.tid s.serial s.moment ∷ [] → IsUp m → IsToldUp b (commits_here node ls a) m → IsToldDisk a m.name m.durable
      leaves m b s last commit is up now =
          disk_of b a (left_by node s.serial a) m (beneath_left s.serial a) (ap (λ o. last_left node o a) last ∙ ap (λ o. elim o as (λ x. Account) [ Commit ↦ left_by node s.serial a | Abort ↦ a ]) commit) up
          (subst (λ xs. IsToldUp b (commits_here node xs a) m) is now)

      tabled : (act : table.Act) (moment : ℕ) → RowFits free (record { act = Some (Tables act moment); lines = ls }) n → IsUp (acted (Tables act moment) n) → IsToldUp false (commits_here node ls a) (acted (Tables act moment) n) →
          IsToldDisk a (acted (Tables act moment) n).name (acted (Tables act moment) n).durable
      tabled (Settles k Commit reason r) moment g up now = leaves (acted (Tables (Settles k Commit reason r) moment) n) false (settlement k Commit reason moment) refl refl g.tells up now
      tabled (Settles k Abort reason r) moment g up now = falls_told false a (acted (Tables (Settles k Abort reason r) moment) n) up (subst (λ xs. IsToldUp false (commits_here node xs a) (acted (Tables (Settles k Abort reason r) moment) n)) g.tells now)
      tabled (Undoes k) moment g up now = absurd (g.fits).row
      tabled (Notes b) moment g up now = plainly (acted (Tables (Notes b) moment) n) false g.tells up now
      tabled (Accepts b c) moment g up now = plainly (acted (Tables (Accepts b c) moment) n) false g.tells up now
      tabled (Prepares b) moment g up now = plainly (acted (Tables (Prepares b) moment) n) false g.tells up now
      tabled (Leaves k) moment g up now = plainly (acted (Tables (Leaves k) moment) n) false g.tells up now
      tabled (Acknowledges k) moment g up now = plainly (acted (Tables (Acknowledges k) moment) n) false g.tells up now
      tabled (Releases x rm) moment g up now = plainly (acted (Tables (Releases x rm) moment) n) false g.tells up now
      tabled (Sends m) moment g up now = plainly (acted (Tables (Sends m) moment) n) false g.tells up now
      tabled (Prints l) moment g up now = plainly (acted (Tables (Prints l) moment) n) false g.tells up now

      go : (act : Act) → Quiet (Some act) → RowFits free (record { act = Some act; lines = ls }) n → IsUp (acted act n) → IsToldUp (free_after free (Some act)) (commits_here node ls a) (acted act n) → IsToldDisk a (acted act n).name (acted act n).durable
      go (Tables act moment) q g up now = tabled act moment g up now
      go (Directs f cs s) q g up now = leaves (acted (Directs f cs s) n) false s refl (ap (λ (x : Settlement). x.outcome) g.fits) g.tells up now
      go Draws q g up now = plainly (acted Draws n) true g.tells up now
      go (Labels l) q g up now = plainly n free g.tells up now
      go (Numbers label serial) q g up now = plainly n free g.tells up now
      go (Changes tid serial f cs keys) q g up now = plainly (acted (Changes tid serial f cs keys) n) false g.tells up now
      go (Marks f units) q g up now = plainly (acted (Marks f units) n) false g.tells up now
      go (Saves f start) q g up now = plainly (acted (Saves f start) n) false g.tells up now
      go (Recovers f start buckets m) q g up now = plainly (acted (Recovers f start buckets m) n) false g.tells up now
      go (Creates place x) q g up now = absurd q
      go Boots q g up now = absurd g.fits
      go (Formats slots journal) q g up now = absurd g.fits
      go ComesUp q g up now = absurd g.fits
      go (Holds serial f keys) q g up now = plainly (acted (Holds serial f keys) n) false g.tells up now
      go (Arms writes choice) q g up now = plainly (acted (Arms writes choice) n) false g.tells up now
      go (Clocks time) q g up now = plainly (acted (Clocks time) n) false g.tells up now
      go (world.Declares rms) q g up now = plainly (acted (world.Declares rms) n) false g.tells up now
      go Falls q g up now = plainly (acted Falls n) false g.tells up now

  -- Requests of which another file, or none, is told.

  -- whether a request is an operation on the file or recovers it, makes a file, or makes a volume
  abbrev pub tells_file : Request → Bool
  tells_file (Records label f op) = bytes_eq f file
  tells_file (Direct f op) = bytes_eq f file
  tells_file (Recover f way) = bytes_eq f file
  tells_file (Create f bucket size form) = true
  tells_file (Init slots journal) = true
  tells_file _ = false

  abbrev pub telling : Scheme
  telling = record {
    Told = Account;
    more = commits_here node;
    Up = λ free a n. Betrays n.settled ⊎ IsToldUp free a n;
    Disk = λ a n. Betrays n.settled ⊎ IsToldDisk a n.name n.durable;
    Boots = λ a n. Betrays n.settled ⊎ IsToldBoot a n;
    Ready = IsDoomed;
    Takes = Quiet;
    special = tells_file;
  }

  table_quiet : (todo : List table.Act) (s : Shared) (n : Node) → AllTake telling (answers.table_rows todo s n)
  table_quiet [] s n = tt
  table_quiet (a ∷ todo) s n = (tt, table_quiet todo (world.shared_after (Tables a (next_moment n)) s) (acted (Tables a (next_moment n)) n))

  module _ (s : Shared) (n : Node) where
    branch_quiet : (o : Option Branch) (does : Branch → List Row) → ((b : Branch) → AllTake telling (does b)) → AllTake telling (elim o [ Some b ↦ does b | None ↦ [] ])
    branch_quiet (Some b) does h = h b
    branch_quiet None does h = tt

    told_quiet : (e : Event) → AllTake telling (answers.told_rows s n (answers.just e))
    told_quiet e = table_quiet (row (world.tm_of n) e) s n

    drawn_quiet : (t : answers.Telling) → AllTake telling (answers.table_rows (row (world.tm_of n) t.event) (answers.all_shared t.before s) (answers.all_acted t.before n))
    drawn_quiet t = table_quiet (row (world.tm_of n) t.event) (answers.all_shared t.before s) (answers.all_acted t.before n)

    asked_quiet : (o : Option Branch) → AllTake telling (answers.told_if s n (option_map (λ (b : Branch). answers.just (rows.InquireBranch b.key.serial)) o))
    asked_quiet (Some b) = told_quiet (rows.InquireBranch b.key.serial)
    asked_quiet None = tt

    replied_quiet : (rm : Name) (reply : Reply) (o : Option Id) → AllTake telling (answers.told_if s n (option_map (λ serial. answers.just (rows.Replied serial rm reply)) o))
    replied_quiet rm reply (Some serial) = told_quiet (rows.Replied serial rm reply)
    replied_quiet rm reply None = tt

    begins_quiet : (o : Option world.Label) → AllTake telling (answers.told_if s n (option_and_then (answers.begins n) o))
    begins_quiet None = tt
    begins_quiet (Some l) = go l.bid
      where
        go : (o : Option Id) → AllTake telling (answers.told_if s n (option_map (λ bid. let t : answers.Telling = record { before = Draws ∷ Numbers l.name (next_id n) ∷ []; event = rows.Begin l.tid (next_id n) bid } in t) o))
        go None = tt
        go (Some bid) = (tt, (tt, table_quiet (row (world.tm_of n) (rows.Begin l.tid (next_id n) bid)) (answers.all_shared (Draws ∷ Numbers l.name (next_id n) ∷ []) s) (answers.all_acted (Draws ∷ Numbers l.name (next_id n) ∷ []) n)))

    lines_quiet : {A : Type 0} (shows : A → List Line) (xs : List A) → AllTake telling (map (λ x. record { act = None; lines = shows x }) xs)
    lines_quiet shows [] = tt
    lines_quiet shows (x ∷ xs) = (tt, lines_quiet shows xs)

    operated_quiet : (f : List ℕ) (op : Operation) (b : Branch) → bytes_eq f file ≡ false → AllTake telling (answers.operated n f op b ∷ [])
    operated_quiet f op b apart = go (answers.changes_at n f op)
      where
        go : (cs : List Change) → AllTake telling (answers.silent (answers.operation_act b f cs (answers.keys_at n f op)) ∷ [])
        go [] = (tt, tt)
        go (c ∷ cs) = (apart, tt)

    directed_quiet : (f : List ℕ) (cs : List Change) → bytes_eq f file ≡ false → AllTake telling (answers.directed n f cs)
    directed_quiet f [] apart = tt
    directed_quiet f (c ∷ cs) apart = (apart, tt)

    request_quiet : (r : Request) → tells_file r ≡ false → powers (answers.service r) ≡ false → AllTake telling ((answers.service r).rows s n)
    request_quiet (Init slots journal) e off = tt
    request_quiet Boot e off = let no : ⊥ = cc in absurd no
    request_quiet (Create f bucket size form) e off = let no : ⊥ = cc in absurd no
    request_quiet (SetFile f setting) e off = sets_by (AllTake telling) tt n f setting (λ mark. (tt, tt))
    request_quiet (StartTrans label seconds) e off = (tt, (tt, drawn_quiet (answers.starts n label seconds)))
    request_quiet (AddBranch label other new) e off = branch_quiet (answers.branch_labelled s n label) (λ b. answers.told_rows s n (answers.adds n other new b)) (λ b. (tt, (tt, drawn_quiet (answers.adds n other new b))))
    request_quiet (StartBranch label) e off = begins_quiet (world.labelled n.name label s.labels)
    request_quiet (Records label f op) e off = branch_quiet (answers.branch_labelled s n label) (λ b. answers.operated n f op b ∷ []) (λ b. operated_quiet f op b e)
    request_quiet (Direct f op) e off = directed_quiet f (answers.changes_at n f op) e
    request_quiet (EndBranch label) e off = branch_quiet (answers.branch_labelled s n label) (λ b. answers.told_rows s n (answers.just (rows.EndBranch b.key.serial))) (λ b. told_quiet (rows.EndBranch b.key.serial))
    request_quiet (EndTrans label) e off = branch_quiet (answers.branch_labelled s n label) (λ b. answers.told_rows s n (answers.just (rows.EndTrans b.key.tid))) (λ b. told_quiet (rows.EndTrans b.key.tid))
    request_quiet (AbortTrans label) e off = branch_quiet (answers.branch_labelled s n label) (λ b. answers.told_rows s n (answers.just (rows.AbortBranch b.key.serial Aborted))) (λ b. told_quiet (rows.AbortBranch b.key.serial Aborted))
    request_quiet (Inquire who) e off = asked_quiet (answers.branch_named s n who)
    request_quiet (DeclareRm rm) e off = (tt, tt)
    request_quiet (JoinRm label rm) e off = branch_quiet (answers.branch_labelled s n label) (λ b. answers.told_rows s n (answers.just (rows.JoinRm b.key.serial rm))) (λ b. told_quiet (rows.JoinRm b.key.serial rm))
    request_quiet (AckEvent who rm reply) e off = replied_quiet rm reply (answers.serial_named s n who)
    request_quiet (ForgetRm rm) e off = (tt, tt)
    request_quiet (GetDti who) e off = tt
    request_quiet LmcpShow e off = tt
    request_quiet LmcpDump e off = lines_quiet (λ l. l ∷ []) (map answers.log_line (slot_records 0 n.durable.log))
    request_quiet (Dump f) e off = lines_quiet (λ x. line.Record x.0 x.1 ∷ []) (answers.records_of n f)
    request_quiet DumpJournal e off = lines_quiet (λ l. l ∷ []) (answers.entry_lines n.durable.units.first n.durable.units.entries)
    request_quiet (DumpImages f side) e off = images_by (AllTake telling) tt n f side (λ ls k. lines_quiet (λ l. l ∷ []) ls)
    request_quiet (Backup f) e off = saves_by (AllTake telling) tt n f (λ start. (tt, tt))
    request_quiet (Recover f way) e off = recovers_by (AllTake telling) tt n f way (λ start buckets m. (e, tt))
    request_quiet (Fuse writes choice) e off = (tt, tt)
    request_quiet Crash e off = (tt, tt)
    request_quiet (Clock now) e off = (tt, tt)

    pub task_quiet : (t : Task) → is_special telling t ≡ false → powers (task_service t) ≡ false → AllTake telling ((task_service t).rows s n)
    task_quiet (Serves r) e off = request_quiet r e off
    task_quiet Ticks e off = told_quiet (rows.Clock n.clock)
    task_quiet (Takes m) e off = told_quiet (rows.Got m)
    task_quiet (Hears m) e off = (tt, told_quiet (rows.Got m))
    task_quiet (LosesLink other) e off = told_quiet (rows.LinkDown other)
    task_quiet RunsDown e off = told_quiet rows.RunDown
    task_quiet Restarts e off = let no : ⊥ = cc in absurd no

  betrays_more : (s : Settlement) (ss : List Settlement) → Betrays ss → Betrays (s ∷ ss)
  betrays_more s ss b = (b.0, inr b.1, b.2, b.3)

  pub betrays_acted : (act : Act) (n : Node) → Betrays n.settled → Betrays (acted act n).settled
  betrays_acted (Tables a moment) n b = go (settlement_of a moment)
    where
      go : (o : Option Settlement) → Betrays (world.settled_more o n.settled)
      go None = b
      go (Some s) = betrays_more s n.settled b
  betrays_acted (Directs f cs s) n b = betrays_more s n.settled b
  betrays_acted _ n b = b

  betrays_after : (o : Option Act) (n : Node) → Betrays n.settled → Betrays (node_after o n).settled
  betrays_after None n b = b
  betrays_after (Some act) n b = betrays_acted act n b

  -- what is known, or a branch betrays it
  pub or_else : {A B X Y : Type 0} → (A → B) → (X → B ⊎ Y) → A ⊎ X → B ⊎ Y
  or_else f g (inl a) = inl (f a)
  or_else f g (inr x) = g x

  pub telling_keeps : Keeps telling
  telling_keeps = record {
    none = λ a. refl;
    append = λ xs ys a. commits_append node xs ys a;
    plain = λ ls a h v. commits_plain node ls a h;
    closes = closes_plain telling (λ ls a h. commits_plain node ls a h);
    same = λ a n m name durable settled h. or_else (λ b. subst Betrays (sym settled) b) (λ k. inr (subst (λ x. IsToldDisk a x m.durable) (sym name) (subst (IsToldDisk a n.name) (sym durable) k))) h;
    row = λ free r n a q f up h. or_else (betrays_after r.act n) (λ k. acted_told free a r.lines r.act n q f k) h;
    under = λ free r n a act q f is d up h. or_else (betrays_acted act n) (λ k. under_told free a r.lines act n (subst Quiet is q) (fits_act free r n act is f) up k) h;
    falls = λ free a n up h. or_else (λ b. b) (λ k. inr (falls_told free a n up k)) h;
    weaken = λ free a n h. or_else (λ b. b) (λ k. inr (less_free free a n k)) h;
    half = λ a n standing k doomed may h. or_else (λ b. b) (λ x. inr (half_told a n standing doomed may x)) h;
    spoils = λ a n h. or_else (λ b. b) (λ x. inr (record { named = x.named; records_are = x.records_are; still = x.still; quiet = x.quiet; own = x.own; apart = x.apart; only = x.only; prepared = x.prepared })) h;
    boots = λ a n k h. or_else (λ b. b) (λ x. inr (boots_told a n x)) h;
    booting = λ a n k h. or_else (λ b. b) (λ x. inr (booting_told a n x)) h;
    undoes = λ a n u next h. or_else (betrays_more _ n.settled) (λ x. inr (undoes_told a n u next x)) h;
    undoing = λ a n u next h. or_else (betrays_more _ n.settled) (λ x. inr ((rests_told a (undone_unit n u) (undoes_told a n u next x)).1)) h;
    rests = λ a n k h. or_else (λ b. b) (λ x. inr ((rests_told a n x).1)) h;
    none_ready = λ n none k reason r moment e. let clash : ◌≡◌ {A = Option Act} None (Some (Tables (Settles k Abort reason r) moment)) = sym none ∙ e in let no : ⊥ = cc in absurd no;
    same_ready = λ n m under doomed k reason r moment e. doomed k reason r moment (sym under ∙ e);
    comes = λ a n up h closed. or_else (λ b. b) (λ x. inr (comes_told a n up x)) h;
  }
    where
      fits_act : (free : Bool) (r : Row) (n : Node) (act : Act) → r.act ≡ Some act → RowFits free r n → RowFits free (record { act = Some act; lines = r.lines }) n
      fits_act free r n act is f = record { images = subst (λ o. FindsImages o n) is f.images; up = f.up; fits = subst (λ o. Fits free o n) is f.fits; tells = subst (λ o. TellsAct o r.lines n) is f.tells; votes = subst (λ o. VotesSo o r.lines) is f.votes }
