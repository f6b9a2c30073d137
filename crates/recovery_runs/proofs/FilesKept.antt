-- What holds of each file of a node, act by act, unless a branch is committed that may not: a scheme for all files of one node.
use Rattle.std.proofs.Common.{◌≡◌, ◌⊎◌, ◌<◌, ℕ, List, [], ◌∷◌, map, Bool, true, false, Option, Some, None, if◌then◌else◌, refl, sym, ◌∙◌, ap, subst, inl, inr}
use Rattle.std.specs.FinMap.{empty}
use Rattle.std.specs.Option.{option_map}
use Rattle.std.proofs.lemmas.Bool.{false_from_ne_true}
use Rattle.vms_model.specs.Ids.{Id}
use Rattle.vms_model.specs.Keys.{Key}
use Rattle.vms_model.specs.Transactions.{Outcome, Abort, Commit, Reason, SegFail}
use Rattle.transcript_model.specs.Lines.{Line}
use Rattle.records_model.specs.Records.{Change, Records}
use Rattle.records_model.specs.History.{changed_it, changes_by}
use Rattle.recovery_model.specs.unit_laws.Units.{Map}
use Rattle.recovery_model.specs.unit_laws.Journal.{RecoveryUnit, find_unit, units_in}
use Rattle.recovery_model.specs.unit_laws.JournalLaws.{is_unit}
use Rattle.transcript_model.specs.commit_protocol.Messages.{LogRecord}
use Rattle.transcript_model.specs.commit_protocol.Table as table
use Rattle.transcript_model.specs.commit_protocol.Table.{Accepts, Acknowledges, Key as BranchKey, Leaves, Notes, Prepares, Prints, Releases, Sends, Settles, Undoes}
use Rattle.transcript_model.specs.commit_protocol.World.{In}
use Rattle.recovery_model.specs.File.{FileState, IsStill}
use Rattle.recovery_laws.specs.run_model.Locks.{is_locked}
use Rattle.recovery_laws.specs.run_model.World.{Act, Arms, Boots, Changes, Clocks, ComesUp, Creates, Declares, Directs, Draws, Durable, Falls, File, Formats, Half, Holds, Labels, Marks, MayTurnOut, Node, Numbers, Recovers, Saves, Settlement, Tables, aborted_prepared, acted, changed_file, directly_changed, find_file, half_undone, marked_file, next_id, next_moment, recovered_file, saved_file, settled_file, settlement, state_of, with_half}
use Rattle.recovery_laws.specs.run_model.Answers.{Row, commit_settlement, unit_key}
use Rattle.recovery_laws.specs.run_model.Steps.{node_after}
use Rattle.recovery_laws.specs.world_laws.Nodes.{IsUp}
use Rattle.recovery_laws.specs.world_laws.Running.{AllFound, history_of}
use Rattle.recovery_laws.proofs.world_laws.DiskLemmas.{place_of}
use Rattle.recovery_laws.proofs.world_laws.FileLemmas.{found_changed, found_mapped, found_placed}
use Rattle.recovery_laws.proofs.world_laws.FindLemmas.{some_is}
use Rattle.recovery_laws.proofs.world_laws.MomentLemmas.{next_later}
use Rattle.recovery_laws.proofs.world_laws.RestartLemmas.{undone_unit}
use Rattle.recovery_laws.proofs.world_laws.ServedLemmas.{undrawn}
use Rattle.recovery_laws.proofs.world_laws.UpLemmas.{branch_drawn}
use Rattle.run_laws.proofs.FileTelling.{no_changes}
use Rattle.run_laws.proofs.Keeping.{Keeps, Scheme, closes_plain}
use Rattle.run_laws.proofs.Once.{unit_branch}
use Rattle.run_laws.proofs.RowFits.{FitsTable, RowFits}
use Rattle.run_laws.proofs.Staying.{Grows, after_grows}
use Rattle.recovery_model.specs.File as recovery
use Rattle.recovery_laws.specs.run_model.World.{IsHalfUndone, Mark}
use Rattle.recovery_laws.specs.world_laws.Nodes.{IsFiled}
use Rattle.recovery_laws.proofs.world_laws.HeldLemmas.{noted_at}
use Rattle.run_laws.proofs.Keeping.{IsNextUnit}
use Rattle.recovery_laws.specs.Entering.{MayEnterFile}
use Rattle.recovery_laws.specs.Gaps.{IsShared}
use Rattle.recovery_laws.specs.Led.{MayBeSettled}
use Rattle.recovery_laws.specs.Loading.{HasNoGap}

-- What each act keeps of a file of a node, by what the act finds there, where these branches may commit, and a fall may cut the abort short of doomed ones.
pub record ActsKeep (may : Id → Bool) (Doomed : Id → Type 0) (Q : ℕ → File → Type 0) : Type 0 where
  pub changes : (g : ℕ) (f : File) (held : Key → Bool) (tid serial : Id) (cs : List Change) → IsShared f → Q g f → MayEnterFile serial cs f → Q g (changed_file held tid serial cs f)
  pub directs : (g : ℕ) (f : File) (held : Key → Bool) (s : Settlement) (cs : List Change) → IsShared f → Q g f → MayEnterFile s.serial cs f → g < s.moment → may s.serial ≡ true → Q s.moment (directly_changed held s cs f)
  pub settles : (g : ℕ) (f : File) (s : Settlement) → IsShared f → Q g f → MayBeSettled may g s f → Q s.moment (settled_file s f)
  -- a branch is settled that did not change the file
  pub passes : (g : ℕ) (f : File) (s : Settlement) → g < s.moment → changed_it f.history s.serial ≡ false → Q g f → Q s.moment f
  pub halves : (g : ℕ) (f : File) (serial : Id) (standing : List ℕ → Map) → Q g f → Doomed serial → IsHalfUndone serial standing f → Q g (half_undone serial standing f)
  pub marks : (g : ℕ) (f : File) (mark : Mark) → Q g f → f.history.live ≡ [] → Q g (marked_file mark g f)
  pub saves : (g : ℕ) (f : File) (start : ℕ) → Q g f → f.history.live ≡ [] → Q g (saved_file start g f)
  pub recovers : (g : ℕ) (f : File) (start buckets : ℕ) (m : Records) → Q g f → f.history.live ≡ [] → HasNoGap f.organization m → Q g (recovered_file start buckets m g f)
  pub creates : (g : ℕ) (f : File) → state_of f ≡ recovery.created g (λ u. empty) → Q g f

-- the branches that share a file
shared_at : (name : List ℕ) (d : Durable) → IsFiled name d → (file : List ℕ) (f : File) → find_file file d.directory ≡ Some f → IsShared f
shared_at name d filed file f found = let n = noted_at d.units file d.directory f filed.can found in record { orderly = n.orderly; differ = n.differ; one = filed.one file f found }

-- the abort of a prepared branch
record IsAborted (o : Option Act) (serial : Id) : Type 0 where
  key : BranchKey
  reason : Reason
  noted : Option LogRecord
  moment : ℕ
  under : o ≡ Some (Tables (Settles key Abort reason noted) moment)
  same : key.serial ≡ serial

aborted_by : (o : Option Act) (d : Durable) (serial : Id) → aborted_prepared o d ≡ Some serial → IsAborted o serial
aborted_by (Some (Tables (Settles k Abort reason r) moment)) d serial e = record { key = k; reason = reason; noted = r; moment = moment; under = refl; same = of_unit (find_unit k.serial (units_in d.units.entries)) e }
  where
    of_unit : (o : Option RecoveryUnit) → ◌≡◌ {A = Option Id} (elim o [ Some u ↦ (if u.prepared then Some k.serial else None) | None ↦ None ]) (Some serial) → k.serial ≡ serial
    of_unit (Some u) g = pick u.prepared g
      where
        pick : (b : Bool) → ◌≡◌ {A = Option Id} (if b then Some k.serial else None) (Some serial) → k.serial ≡ serial
        pick true q = some_is k.serial serial q
        pick false q = let no : ⊥ = cc in absurd no
    of_unit None g = let no : ⊥ = cc in absurd no
aborted_by (Some (Tables (Settles k Commit reason r) moment)) d serial e = let no : ⊥ = cc in absurd no
aborted_by (Some (Tables (Notes b) moment)) d serial e = let no : ⊥ = cc in absurd no
aborted_by (Some (Tables (Accepts b c) moment)) d serial e = let no : ⊥ = cc in absurd no
aborted_by (Some (Tables (Prepares b) moment)) d serial e = let no : ⊥ = cc in absurd no
aborted_by (Some (Tables (Leaves k) moment)) d serial e = let no : ⊥ = cc in absurd no
aborted_by (Some (Tables (Acknowledges k) moment)) d serial e = let no : ⊥ = cc in absurd no
aborted_by (Some (Tables (Releases x rm) moment)) d serial e = let no : ⊥ = cc in absurd no
aborted_by (Some (Tables (Undoes k) moment)) d serial e = let no : ⊥ = cc in absurd no
aborted_by (Some (Tables (Sends m) moment)) d serial e = let no : ⊥ = cc in absurd no
aborted_by (Some (Tables (Prints l) moment)) d serial e = let no : ⊥ = cc in absurd no
aborted_by None d serial e = let no : ⊥ = cc in absurd no
aborted_by (Some _) d serial e = let no : ⊥ = cc in absurd no

both_outcomes : {A : Type 0} (o : Outcome) → o ≡ Abort → o ≡ Commit → A
both_outcomes o e f = let none : ⊥ = cc in absurd none

module _ (may : Id → Bool) (Doomed : Id → Type 0) (Q : ℕ → File → Type 0) (keeps : ActsKeep may Doomed Q) where
  -- a branch is committed that may not
  abbrev pub Betrays : List Settlement → Type 0
  Betrays ss = (s : Settlement) × In s ss × (s.outcome ≡ Commit) × (may s.serial ≡ false)

  abbrev Here : ℕ → List ℕ → File → Type 0
  Here g file f = Q g f

  -- all files of a directory are so
  abbrev pub AreSo : ℕ → List (Option File) → Type 0
  AreSo g fs = AllFound (λ file f. Q g f) fs

  abbrev pub Known : Node → Type 0
  Known n = Betrays n.settled ⊎ AreSo n.durable.greatest n.durable.directory

  -- an abort that is under way is of a doomed branch
  abbrev pub IsDoomed : Node → Type 0
  IsDoomed n = (k : BranchKey) (reason : Reason) (r : Option LogRecord) (moment : ℕ) → n.under_way ≡ Some (Tables (Settles k Abort reason r) moment) → Doomed k.serial

  -- Settlements.

  settled_so : (name : List ℕ) (s : Settlement) (d : Durable) → IsFiled name d → d.greatest < s.moment → (s.outcome ≡ Commit → may s.serial ≡ true) → AreSo d.greatest d.directory → AreSo s.moment (map (option_map (settled_file s)) d.directory)
  settled_so name s d filed later fit h = found_mapped (Here d.greatest) (Here s.moment) (settled_file s) d.directory (λ f. refl)
      (λ file f found k. keeps.settles d.greatest f s (shared_at name d filed file f found) k (record { later = later; commits = λ here is. fit is })) h

  betrays_on : (n m : Node) → Grows n m → Betrays n.settled → Betrays m.settled
  betrays_on n m grows b = (b.0, grows b.0 b.1, b.2, b.3)

  tabled_known : (n : Node) (a : table.Act) (moment : ℕ) (free : Bool) → IsUp n → FitsTable free a moment n → AreSo n.durable.greatest n.durable.directory → Known (acted (Tables a moment) n)
  tabled_known n a moment free up f h = go a f
    where
      later : moment ≡ next_moment n → n.durable.greatest < moment
      later now = subst (λ m. n.durable.greatest < m) (sym now) (next_later n)

      commit : (k : BranchKey) (reason : Reason) (r : Option LogRecord) → moment ≡ next_moment n → (b : Bool) → may k.serial ≡ b → Known (acted (Tables (Settles k Commit reason r) moment) n)
      commit k reason r now true e = inr (settled_so n.name (settlement k Commit reason moment) n.durable up.filed (later now) (λ is. e) h)
      commit k reason r now false e = inl (settlement k Commit reason moment, inl refl, refl, e)

      go : (a : table.Act) → FitsTable free a moment n → Known (acted (Tables a moment) n)
      go (Settles k Commit reason r) g = commit k reason r g.now (may k.serial) refl
      go (Settles k Abort reason r) g = inr (settled_so n.name (settlement k Abort reason moment) n.durable up.filed (later g.now) (λ is. both_outcomes Abort refl is) h)
      go (Undoes k) g = absurd g.row
      go (Notes b) g = inr h
      go (Accepts b c) g = inr h
      go (Prepares b) g = inr h
      go (Leaves k) g = inr h
      go (Acknowledges k) g = inr h
      go (Releases x rm) g = inr h
      go (Sends m) g = inr h
      go (Prints l) g = inr h

  -- Changes without a label.
  directed_known : (n : Node) (file : List ℕ) (cs : List Change) → IsUp n → let s = commit_settlement n (next_id n) (next_id n) in ((f : File) → find_file file n.durable.directory ≡ Some f → MayEnterFile s.serial cs f) →
      AreSo n.durable.greatest n.durable.directory → Known (acted (Directs file cs s) n)
  directed_known n file cs up enter h = go (may (next_id n)) refl
    where
      next_no_unit : is_unit (next_id n) n.durable.units ≡ false
      next_no_unit = false_from_ne_true _ (λ u. undrawn n (next_id n) (branch_drawn n up.table (next_id n) (unit_branch n up (next_id n) u)) refl)

      untouched : (other : List ℕ) (f : File) → find_file other n.durable.directory ≡ Some f → changed_it f.history (next_id n) ≡ false
      untouched other f found = ap (λ ds. elim ds as (λ x. Bool) [ [] ↦ false | c ∷ more ↦ true ])
          (subst (λ o. changes_by (next_id n) (history_of o).live ≡ []) found (no_changes n.durable.units n.durable.directory (next_id n) other up.filed.can next_no_unit))

      go : (b : Bool) → may (next_id n) ≡ b → Known (acted (Directs file cs (commit_settlement n (next_id n) (next_id n))) n)
      go true e = inr (found_changed (λ other f. Q n.durable.greatest f × (find_file other n.durable.directory ≡ Some f)) (Here (next_moment n)) file
          (directly_changed (is_locked n.volatile.locks file) (commit_settlement n (next_id n) (next_id n)) cs) n.durable.directory (λ f. refl)
          (λ f found k. keeps.directs n.durable.greatest f (is_locked n.volatile.locks file) (commit_settlement n (next_id n) (next_id n)) cs (shared_at n.name n.durable up.filed file f found) k.0 (enter f found) (next_later n) e)
          (λ other f k. keeps.passes n.durable.greatest f (commit_settlement n (next_id n) (next_id n)) (next_later n) (untouched other f k.1) k.0) (λ other f found. (h other f found, found)))
      go false e = inl (commit_settlement n (next_id n) (next_id n), inl refl, refl, e)

  -- Any row.

  row_known : (free : Bool) (o : Option Act) (ls : List Line) (n : Node) → RowFits free (record { act = o; lines = ls }) n → AreSo n.durable.greatest n.durable.directory → Known (node_after o n)
  row_known free None ls n f h = inr h
  row_known free (Some (Tables a moment)) ls n f h = tabled_known n a moment free f.up f.fits h
  row_known free (Some (Directs file cs s)) ls n f h =
      subst (λ (x : Settlement). Known (acted (Directs file cs x) n)) (sym f.fits)
      (directed_known n file cs f.up (subst (λ (x : Settlement). (g : File) → find_file file n.durable.directory ≡ Some g → MayEnterFile x.serial cs g) f.fits f.images) h)
  row_known free (Some (Changes tid serial file cs keys)) ls n f h = inr (found_changed (Here n.durable.greatest) (Here n.durable.greatest) file (changed_file (is_locked n.volatile.locks file) tid serial cs) n.durable.directory (λ g. refl)
      (λ g found k. keeps.changes n.durable.greatest g (is_locked n.volatile.locks file) tid serial cs (shared_at n.name n.durable f.up.filed file g found) k (f.images g found)) (λ other g k. k) h)
  row_known free (Some (Marks file mark)) ls n f h = inr (found_changed (Here n.durable.greatest) (Here n.durable.greatest) file (marked_file mark n.durable.greatest) n.durable.directory (λ g. refl)
      (λ g found k. keeps.marks n.durable.greatest g mark k (f.images g found)) (λ other g k. k) h)
  row_known free (Some (Saves file start)) ls n f h = inr (found_changed (Here n.durable.greatest) (Here n.durable.greatest) file (saved_file start n.durable.greatest) n.durable.directory (λ g. refl)
      (λ g found k. keeps.saves n.durable.greatest g start k (f.images g found)) (λ other g k. k) h)
  row_known free (Some (Recovers file start buckets m)) ls n f h = inr (found_changed (Here n.durable.greatest) (Here n.durable.greatest) file (recovered_file start buckets m n.durable.greatest) n.durable.directory (λ g. refl)
      (λ g found k. keeps.recovers n.durable.greatest g start buckets m k (f.images g found).0 (f.images g found).1) (λ other g k. k) h)
  row_known free (Some (Creates place g)) ls n f h = let made = f.images in
      inr (found_placed (Here n.durable.greatest) g n.durable.directory place made.0 made.1 (keeps.creates n.durable.greatest g made.2) h)
  row_known free (Some Boots) ls n f h = absurd f.fits
  row_known free (Some (Formats slots journal)) ls n f h = absurd f.fits
  row_known free (Some ComesUp) ls n f h = absurd f.fits
  row_known free (Some Draws) ls n f h = inr h
  row_known free (Some (Labels l)) ls n f h = inr h
  row_known free (Some (Numbers label serial)) ls n f h = inr h
  row_known free (Some (Holds serial file keys)) ls n f h = inr h
  row_known free (Some (Arms writes choice)) ls n f h = inr h
  row_known free (Some (Clocks now)) ls n f h = inr h
  row_known free (Some (Declares rms)) ls n f h = inr h
  row_known free (Some Falls) ls n f h = inr h

  acted_known : (free : Bool) (r : Row) (n : Node) → RowFits free r n → Known n → Known (node_after r.act n)
  acted_known free r n f (inl b) = inl (betrays_on n (node_after r.act n) (after_grows r.act n) b)
  acted_known free r n f (inr h) = row_known free r.act r.lines n f h

  -- An abort that is done in part.
  pub half_known : (n : Node) (standing : List ℕ → Map) → IsDoomed n → MayTurnOut n (Half standing) → Known n → Known (record n { durable = with_half (aborted_prepared n.under_way n.durable) standing n.durable })
  half_known n standing doomed turns (inl b) = inl b
  half_known n standing doomed turns (inr h) = subst (λ o. Known (record n { durable = with_half o standing n.durable })) (sym turns.1)
      (inr (found_mapped (Here n.durable.greatest) (Here n.durable.greatest) (half_undone turns.0 standing) n.durable.directory (λ f. refl)
      (λ file f found k. let at = place_of file n.durable.directory f found in keeps.halves n.durable.greatest f turns.0 standing k dies (turns.2 at.0 f at.1)) h))
    where
      dies : Doomed turns.0
      dies = let a = aborted_by n.under_way n.durable turns.0 turns.1 in subst Doomed a.same (doomed a.key a.reason a.noted a.moment a.under)

  undone_known : (n : Node) (u : RecoveryUnit) → IsNextUnit n u → Known n → Known (undone_unit n u)
  undone_known n u next (inl b) = inl (b.0, inr b.1, b.2, b.3)
  undone_known n u next (inr h) = inr (settled_so n.name (settlement (unit_key u) Abort SegFail (next_moment n)) n.durable next.kept.filed (next_later n) (λ is. both_outcomes Abort refl is) h)

  abbrev pub scheme : Scheme
  scheme = record {
    Told = Unit {0};
    more = λ ls a. a;
    Up = λ free a n. Known n;
    Disk = λ a n. Known n;
    Boots = λ a n. Known n;
    Ready = IsDoomed;
    Takes = λ o. Unit {0};
    special = λ r. false;
  }

  same_known : (n m : Node) → m.durable ≡ n.durable → m.settled ≡ n.settled → Known n → Known m
  same_known n m durable settled (inl b) = inl (subst Betrays (sym settled) b)
  same_known n m durable settled (inr h) = inr (subst (λ (d : Durable). AreSo d.greatest d.directory) (sym durable) h)

  pub scheme_keeps : Keeps scheme
  scheme_keeps = record {
    none = λ a. refl;
    append = λ xs ys a. refl;
    plain = λ ls a h v. refl;
    closes = closes_plain scheme (λ ls a h. refl);
    same = λ a n m name durable settled h. same_known n m durable settled h;
    row = λ free r n a q f up h. acted_known free r n f h;
    under = λ free r n a act q f is d up h. subst (λ o. Known (node_after o n)) is (acted_known free r n f h);
    falls = λ free a n up h. h;
    weaken = λ free a n h. h;
    half = λ a n standing k ready may h. half_known n standing ready may h;
    spoils = λ a n h. h;
    boots = λ a n k h. h;
    booting = λ a n k h. h;
    undoes = λ a n u next h. undone_known n u next h;
    undoing = λ a n u next h. undone_known n u next h;
    rests = λ a n k h. h;
    none_ready = λ n e k reason r moment under. let clash : ◌≡◌ {A = Option Act} None (Some (Tables (Settles k Abort reason r) moment)) = sym e ∙ under in let no : ⊥ = cc in absurd no;
    same_ready = λ n m e h k reason r moment under. h k reason r moment (sym e ∙ under);
    comes = λ a n up h closed. h;
  }
