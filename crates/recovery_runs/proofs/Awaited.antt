-- A branch that a run finds unsettled is committed in it only where an image shows a commit of its transaction.
use Rattle.std.proofs.Common.{◌≡◌, ℕ, ◌≤◌, ◌⊎◌, List, [], ◌∷◌, ◌++◌, inl, inr, Bool, true, false, ◌&&◌, Option, Some, None, if◌then◌else◌, is_some, refl, sym, ◌∙◌, ap, subst}
use Rattle.std.specs.List.{last_or, list_any}
use Rattle.std.specs.Str.{bytes_eq}
use Rattle.std.proofs.lemmas.Bool.{and_from, and_parts, both_ways, cases_Bool}
use Rattle.vms_model.specs.Ids.{Id}
use Rattle.vms_model.specs.Transactions.{Commit}
use Rattle.transcript_model.specs.Lines.{Broken, Line, Normal}
use Rattle.script_model.specs.Grammar.{reading}
use Rattle.script_model.specs.Statements.{At, Blank, Bad, Clock, Deliver, Init, LinkDown, Reading, Request, Says, Settle}
use Rattle.records_model.specs.History.{changes_by, same_id as same}
use Rattle.recovery_model.specs.Journal.{is_commit}
use Rattle.recovery_model.specs.unit_laws.JournalLaws.{is_unit}
use Rattle.transcript_model.specs.commit_protocol.Messages.{LogRecord, same_id}
use Rattle.transcript_model.specs.commit_protocol.Agreement.{IsDead, view}
use Rattle.transcript_model.specs.commit_protocol.Opening.{Image, OldIn, no_image, Opening, commits_in, image_at, image_in, in_rack, opened as raised, or_none}
use Rattle.transcript_model.specs.commit_protocol.Table as table
use Rattle.transcript_model.specs.commit_protocol.Table.{Key as BranchKey, child, first}
use Rattle.transcript_model.specs.commit_protocol.World as protocol
use Rattle.transcript_model.specs.commit_protocol.World.{In, run}
use Rattle.transcript_model.proofs.commit_protocol.Acting.{Goes}
use Rattle.transcript_model.proofs.commit_protocol.Gathered.{is_shown}
use Rattle.transcript_model.proofs.commit_protocol.Lists.{same_id-refl}
use Rattle.transcript_model.proofs.commit_protocol.Opened.{good_opened, never_runs, old_of, shows_of}
use Rattle.transcript_model.proofs.commit_protocol.Running.{goes_run}
use Rattle.log_laws.specs.Slots.{prepared_of, records_in}
use Rattle.recovery_laws.specs.run_model.World as world
use Rattle.recovery_laws.specs.run_model.World.{Act, DiskCounts, Node, Settlement, World, acted, find_node, opened, prepared_left, state_of}
use Rattle.recovery_laws.specs.run_model.Answers.{Serves, Task, task_service}
use Rattle.recovery_laws.specs.run_model.Transcript.{AreOpening, Entry, Legal}
use Rattle.recovery_laws.proofs.run_model.NodeLists.{found_name, some_is}
use Rattle.run_laws.specs.run_agreement.Following.{opening_of}
use Rattle.run_laws.specs.run_agreement.Laws.{IsReachedBy, IsReplaced, IsUnused, MakesNoVolume, NamesApart, Replaces, RunsFrom, image_after_init, image_here, image_told, opening_told, volume_image}
use Rattle.run_laws.specs.run_agreement.Seen.{Resolution, has_volume, image_of, landed}
use Rattle.run_laws.proofs.run_agreement.Booting.{left_rearranged, ready_of}
use Rattle.run_laws.proofs.run_agreement.Events.{down_of_face}
use Rattle.run_laws.proofs.run_agreement.Openings.{image_found, opening_shows, reached_by, told_settled}
use Rattle.recovery_laws.specs.world_laws.Nodes.{IsKeptDisk}
use Rattle.recovery_laws.specs.world_laws.Running.{history_of}
use Rattle.recovery_laws.proofs.world_laws.IdLemmas.{id_is}
use Rattle.run_chains.specs.Chains.{is_made, made_by, made_here}
use Rattle.run_laws.proofs.ToldImages.{in_base, told_found}
use Rattle.run_chains.proofs.Told.{IsToldSo, told_so}
use Rattle.run_laws.specs.Laws.{AgreedPromises}
use Rattle.run_laws.specs.Promises.{settlements_of}
use Rattle.run_laws.proofs.run_agreement.Told.{IsQuiet, replaces_or_quiet}
use Rattle.run_laws.proofs.Deciding.{any_in, in_any}
use Rattle.run_laws.proofs.FileTelling.{no_changes}
use Rattle.run_laws.proofs.Keeping.{Kept, Keeps, Scheme, all_take, else_effect, is_init, is_special}
use Rattle.run_laws.proofs.OneBranch as branch
use Rattle.run_laws.proofs.OneBranch.{one, one_keeps}
use Rattle.run_laws.proofs.Once.{unit_of}
use Rattle.run_laws.proofs.Paths.{turn_on}
use Rattle.run_laws.proofs.SoundWorlds.{IsPlainReading, IsSound, Tracked, Tracks, legal_sound, opening_sound, turn_tracked}
use Rattle.run_laws.proofs.Staying.{found_settled}
use Rattle.recovery_runs.specs.Promises.{FilesAgree, may_yet_commit}
use Rattle.recovery_runs.specs.Runs.{AreLawful, StandsAt, committed_in}
use Rattle.recovery_runs.proofs.CommittedLemmas.{is_committed}

-- Along entries that make no volume.

-- Of a branch x, whose prepared records are of these transactions, each commitment is of one of them.
module _ (x : Id) (K : Id → Type 0) (node : List ℕ) where
  abbrev whole : Scheme
  whole = one x K K (λ s. K s.tid)

  whole_keeps : Keeps whole
  whole_keeps = one_keeps x K K (λ s. K s.tid) (λ t p. p) (λ s e k. k)

  -- the same, where an INIT is not spoken of
  abbrev other : Scheme
  other = record {
    Told = Unit {0};
    more = λ ls a. a;
    Up = λ free a n. branch.IsOn x K K (λ s. K s.tid) free n;
    Disk = λ a n. branch.IsDisk x K K (λ s. K s.tid) n.name n.durable n.settled;
    Boots = λ a n. branch.IsBooted x K K (λ s. K s.tid) n;
    Ready = λ n. Unit {0};
    Takes = branch.PreparesSo x K K (λ s. K s.tid);
    special = λ r. is_init (Serves r);
  }

  other_keeps : Keeps other
  other_keeps = record {
    none = whole_keeps.none;
    append = whole_keeps.append;
    plain = whole_keeps.plain;
    same = whole_keeps.same;
    row = whole_keeps.row;
    under = whole_keeps.under;
    falls = whole_keeps.falls;
    weaken = whole_keeps.weaken;
    half = whole_keeps.half;
    spoils = whole_keeps.spoils;
    boots = whole_keeps.boots;
    booting = whole_keeps.booting;
    undoes = whole_keeps.undoes;
    undoing = whole_keeps.undoing;
    rests = whole_keeps.rests;
    none_ready = whole_keeps.none_ready;
    same_ready = whole_keeps.same_ready;
    closes = whole_keeps.closes;
    comes = λ a n up h closed. whole_keeps.comes a n up h (record { before = closed.before; found = closed.found; log = closed.log; told = closed.told });
  }

  takes_all : (o : Option Act) → other.Takes o
  takes_all (Some (world.Tables (table.Prepares b) moment)) = λ e h. h
  takes_all (Some (world.Tables _ moment)) = tt
  takes_all (Some _) = tt
  takes_all None = tt

  no_init : (task : Task) → is_special other task ≡ false → is_init task ≡ false
  no_init (Serves r) e = e
  no_init _ e = refl

  tracks : Tracks other other_keeps node
  tracks = record {
    own = λ a s stops n task c rises named sound special ready allowed h. else_effect other other_keeps s stops n a sound.kept h task (no_init task special) (λ off. all_take other takes_all ((task_service task).rows s n)) (λ on. tt) c rises allowed;
    beside = λ a s stops n m task c rises apart sound allowed h. h;
  }

  and_false : (b : Bool) → (b && false) ≡ false
  and_false true = refl
  and_false false = refl

  plain_request : (r : Request) → ((slots : ℕ) (journal : ℕ) → r ≡ Init slots journal → ⊥) → is_init (Serves r) ≡ false
  plain_request (Init slots journal) none = absurd (none slots journal refl)
  plain_request _ none = refl

  plain_reading : (mid : World) (r : Reading) → MakesNoVolume mid r → mid.shared.in_use ≡ false → IsPlainReading other other_keeps node tracks r
  plain_reading mid (Says (At name request)) makes off = ap (λ b. bytes_eq name node && b) (plain_request request (λ slots journal e. both_ways mid.shared.in_use off (makes name slots journal (ap (At name) e)))) ∙ and_false (bytes_eq name node)
  plain_reading mid (Says (Deliver number)) makes off = tt
  plain_reading mid (Says (LinkDown a b)) makes off = tt
  plain_reading mid (Says Settle) makes off = tt
  plain_reading mid Blank makes off = tt
  plain_reading mid (Bad column) makes off = tt

  through : (base : World) (sounds : (fs : List Entry) (u : World) → RunsFrom base fs u → IsSound u) → Tracked other other_keeps node tt base → (es : List Entry) (v : World) → RunsFrom base es v → Tracked other other_keeps node tt v
  through base sounds h [] v runs = subst (Tracked other other_keeps node tt) (sym runs) h
  through base sounds h (e ∷ es) v runs = by runs.0.shared.in_use refl (through base sounds h es runs.0 runs.1)
    where
      by : (b : Bool) → runs.0.shared.in_use ≡ b → Tracked other other_keeps node tt runs.0 → Tracked other other_keeps node tt v
      by true used t = (turn_on other other_keeps node tt (λ ls. refl) (λ n. tt) (λ s n task thin. all_take other takes_all ((task_service task).rows s n)) (λ s n now. all_take other takes_all ((task_service (Serves (Clock now))).rows s n)) runs.0 v (reading e.source.text) e.lines
          (λ s is task n named found off. all_take other takes_all ((task_service task).rows runs.0.shared n)) runs.3 (record { sound = sounds es runs.0 runs.1; used = used; tracked = t })).tracked
      by false off t = turn_tracked other other_keeps node tracks runs.0 v (λ n found. tt) (reading e.source.text) e.lines tt (plain_reading runs.0 (reading e.source.text) runs.2 off) runs.3 (sounds es runs.0 runs.1) t

-- what is known of a node's disk, however its act under way turns out
abbrev after_act : Node → Option Act → Node
after_act n o = elim o [ Some act ↦ acted act n | None ↦ n ]

pub landed_known : (t : Scheme) (k : Keeps t) (a : t.Told) (taken : Bool) (n : Node) → Kept t k a n → t.Disk a (landed taken n)
landed_known t k a false n h = h.disk
landed_known t k a true n h = go n.under_way refl
  where
    go : (o : Option Act) → n.under_way ≡ o → t.Disk a (after_act n o)
    go (Some act) e = h.way act e
    go None e = h.disk

-- A volume that the lines make replaces what the disk had.

made_replaced : (node : List ℕ) (es : List Entry) → is_made node es ≡ true → IsReplaced node es
made_replaced node [] e = let no : ⊥ = cc in absurd no
made_replaced node (e ∷ es) made = go (replaces_or_quiet node e) (made_replaced node es)
  where
    -- an entry that tells of no other image makes none
    by : (r : Reading) (o : Option Line) → ((i : Option Image) → image_here node r o i ≡ i) → made_here node r o (is_made node es) ≡ true → is_made node es ≡ true
    by (Says (At m (Init slots journal))) o quiet h = at (bytes_eq m node) o quiet h
      where
        at : (b : Bool) (o : Option Line) → ((i : Option Image) → (if b then image_after_init o i else i) ≡ i) → (if b then made_by o (is_made node es) else is_made node es) ≡ true → is_made node es ≡ true
        at true (Some Normal) quiet h = let clash : ◌≡◌ {A = Option Image} (Some no_image) None = quiet None in let no : ⊥ = cc in absurd no
        at true (Some (Broken cause)) quiet h = let no : ⊥ = cc in absurd no
        at true (Some l) quiet h = h
        at true None quiet h = h
        at false o quiet h = h
    by (Says (At m r)) o quiet h = h
    by (Says s) o quiet h = h
    by r o quiet h = h

    go : Replaces node e ⊎ IsQuiet node e → (is_made node es ≡ true → IsReplaced node es) → IsReplaced node (e ∷ es)
    go (inl r) more = inl r
    go (inr quiet) more = inr (more (by (reading e.source.text) (last_or None e.lines) quiet made))

-- Branches that are committed.

module _ (nodes : List Node) (disks : List DiskCounts) (es : List Entry) (closing : World) (opens : AreOpening nodes) (apart : NamesApart nodes) (legal : Legal (opened nodes disks) es closing) (a : AgreedPromises (opened nodes disks) es closing) where
  abbrev pub o : Opening
  o = opening_of a.base

  abbrev none_taken : Resolution
  none_taken = λ m. false

  reached : IsReachedBy a.base none_taken closing
  reached = reached_by a.base closing a.since a.run.is_run none_taken

  abbrev last : protocol.World
  last = run reached.steps (raised o)

  goes : Goes (raised o) last
  goes = goes_run reached.steps (raised o) (good_opened o a.run.is_run.agrees (is_shown o a.run.is_run.agrees))

  legal_from : (fs : List Entry) (u : World) → RunsFrom a.base fs u → Legal (opened nodes disks) (fs ++ a.before) u
  legal_from [] u runs = subst (Legal (opened nodes disks) a.before) (sym runs) a.begins
  legal_from (e ∷ fs) u runs = (runs.0, legal_from fs runs.0 runs.1, runs.3)

  sounds : (fs : List Entry) (u : World) → RunsFrom a.base fs u → IsSound u
  sounds fs u runs = legal_sound (opened nodes disks) u (fs ++ a.before) (opening_sound nodes disks opens) (legal_from fs u runs)

  kept_disk : (node : List ℕ) (n : Node) → find_node node nodes ≡ Some n → IsKeptDisk n
  kept_disk node n found = ((opening_sound nodes disks opens).kept node n found).disk

  -- A unit x of a node's disk, which no entry replaces, and of whose node there is an image.
  module _ (x : Id) (n : Node) (left : StandsAt x.node es (opened nodes disks) n) (unit : is_unit x n.durable.units ≡ true) (there : in_rack o x.node ≡ true) where
    first_found : find_node x.node nodes ≡ Some n
    first_found = left.0

    told : image_in x.node o.images ≡ image_told x.node (volume_image n) es
    told = ap (λ (p : Opening). image_in x.node p.images) a.told ∙ told_found x.node nodes es n apart first_found

    not_none : image_in x.node o.images ≡ None → ⊥
    not_none e = both_ways (in_rack o x.node) (ap is_some e) there

    -- so its image is that of the disk
    its_image : image_in x.node o.images ≡ Some (image_of n)
    its_image = by (told_so x.node (volume_image n) es)
      where
        with_volume : (b : Bool) → has_volume n ≡ b → image_in x.node o.images ≡ (if b then Some (image_of n) else None) → image_in x.node o.images ≡ Some (image_of n)
        with_volume true has e = e
        with_volume false has e = absurd (not_none e)

        by : IsToldSo (volume_image n) (is_made x.node es) (image_told x.node (volume_image n) es) → image_in x.node o.images ≡ Some (image_of n)
        by (inl made) = absurd (left.1 (made_replaced x.node es made.0))
        by (inr kept) = elim kept.1 [
          | inl e ↦ with_volume (has_volume n) refl (told ∙ e)
          | inr e ↦ absurd (not_none (told ∙ e))
        ]

    -- a prepared record of the branch, of this transaction
    abbrev pub IsRecorded : Id → Type 0
    IsRecorded t = (q : LogRecord) × In q (image_at o x.node).prepared × (q.serial ≡ x) × (q.tid ≡ t)

    kept : (m : Node) → find_node x.node a.base.nodes ≡ Some m → Kept (other x IsRecorded x.node) (other_keeps x IsRecorded x.node) tt m
    kept m at = record {
      disk = record {
        of = (sym (found_name x.node a.base.nodes m at), subst (λ b. x.boot ≤ b) (sym (ap (λ (p : Image). p.boot) same_image)) (unit_of n (kept_disk x.node n first_found) x unit).1);
        prepared = λ r j e. (r, subst (λ (p : Image). In r p.prepared) (sym (ap or_none here)) (in_image r j), e, refl);
        commits = λ t j e c. absurd (subst (In t) unused.settled j);
      };
      way = λ act e. let clash : ◌≡◌ {A = Option Act} None (Some act) = sym unused.quiet ∙ e in let no : ⊥ = cc in absurd no;
      runs = λ up. absurd (both_ways m.up unused.down up);
    }
      where
        unused : IsUnused m
        unused = a.run.is_run.base_is.nodes x.node m at

        has : has_volume m ≡ true
        has = elim (cases_Bool (has_volume m)) [
          | inl is ↦ is
          | inr none ↦ absurd (not_none (image_found x.node a.base.nodes m a.run.is_run.base_is.apart at ∙ ap (λ b. if b then Some (image_of m) else None) none))
        ]

        here : image_in x.node o.images ≡ Some (image_of m)
        here = image_found x.node a.base.nodes m a.run.is_run.base_is.apart at ∙ ap (λ b. if b then Some (image_of m) else None) has

        same_image : image_of m ≡ image_of n
        same_image = some_is (image_of m) (image_of n) (sym here ∙ its_image)

        in_image : (r : LogRecord) → In r (prepared_of (records_in m.durable.log)) → In r (prepared_left m.durable)
        in_image r j =
            let shows = opening_shows a.base none_taken a.run.is_run.base_is in
            let f = shows.are.there x.node m at has in
            let left = (down_of_face false m f.0 unused.down f.2).left in
            (left_rearranged m.durable (ready_of m.durable f.0.node left)).back r j

    -- however the act under way at the node turns out, the branch is prepared and committed of such transactions alone
    pub recorded : (taken : Bool) (y : Node) → find_node x.node closing.nodes ≡ Some y → branch.IsDisk x IsRecorded IsRecorded (λ s. IsRecorded s.tid) (landed taken y).name (landed taken y).durable (landed taken y).settled
    recorded taken y found = landed_known (other x IsRecorded x.node) (other_keeps x IsRecorded x.node) tt taken y (through x IsRecorded x.node a.base sounds kept a.since closing a.run.is_run.runs y found)

    -- such a transaction is dead, or an image shows a commit of it
    pub awaited : (t : Id) → IsRecorded t → (IsDead (view (raised o)) t → ⊥) → may_yet_commit o x ≡ true
    awaited t r alive = in_any (λ (r : LogRecord). same_id x r.serial && list_any (same_id r.tid) (commits_in o)) r.0 (image_at o x.node).prepared r.1
        (and_from _ _ (ap (same_id x) r.2 ∙ same_id-refl x) (ap (λ t. list_any (same_id t) (commits_in o)) r.3 ∙ by (list_any (same_id t) (commits_in o)) refl))
      where
        gathered : Rattle.transcript_model.proofs.commit_protocol.Gathered.IsShown o
        gathered = is_shown o a.run.is_run.agrees

        dead : list_any (same_id t) (commits_in o) ≡ false → IsDead (view (raised o)) t
        dead none = record {
          old = old_of o t (subst (OldIn o) r.3 (a.run.is_run.agrees.old_prepared x.node r.0 r.1).tid);
          undecided = λ e. never_runs o (first t) e;
          commits = λ c. both_ways _ none (in_any (same_id t) t (commits_in o) (gathered.shown_has t (shows_of o gathered t c)) (same_id-refl t));
        }

        by : (b : Bool) → list_any (same_id t) (commits_in o) ≡ b → list_any (same_id t) (commits_in o) ≡ true
        by true is = is
        by false is = absurd (alive (dead is))

  -- It was committed.
  module _ (x : Id) (n : Node) (left : StandsAt x.node es (opened nodes disks) n) (unit : is_unit x n.durable.units ≡ true) (s : Settlement) (y : Node) (found : find_node x.node closing.nodes ≡ Some y) (i : In s y.settled) (same : s.serial ≡ x) (commits : s.outcome ≡ Commit) where
    abbrev key : BranchKey
    key = child s.tid x

    committed : In (key, Commit) last.settled
    committed = told_settled o none_taken closing last reached.shows key Commit (x.node, y, found, (s, i, λ j. (child s.tid (same j), commits j)))

    there : in_rack o x.node ≡ true
    there = elim (cases_Bool (has_volume y)) [
      | inl has ↦ in_base a.base closing a.since a.run.is_run none_taken x.node y found has
      | inr none ↦ absurd (subst (In s) (reached.shows.are.without x.node y found none).1.none i)
    ]

    -- its transaction would be dead, did no image show a commit of it
    shown : may_yet_commit o x ≡ true
    shown = awaited x n left unit there s.tid ((recorded x n left unit there false y found).commits s i same commits) (λ dead. (goes.later.dead s.tid dead).commits (goes.good.inv.upward key committed))

  -- Let each unit that may commit, on the disk of a node that no entry replaces, be such a branch. Then the files are lawful with these.
  pub lawful_with : (may : Id → Bool) → ((x : Id) (n : Node) → StandsAt x.node es (opened nodes disks) n → is_unit x n.durable.units ≡ true → may x ≡ true → may_yet_commit o x ≡ true) →
      FilesAgree (opened nodes disks) es → AreLawful may (may_yet_commit (opening_told nodes es)) (opened nodes disks) es
  lawful_with may waits agree node n left file f at = ((agree node n left file f at).0, λ x c. by x c (is_unit x n.durable.units) refl)
    where
      first_found : find_node node nodes ≡ Some n
      first_found = left.0

      disk : IsKeptDisk n
      disk = kept_disk node n first_found

      by : (x : Id) → may x ≡ true → (b : Bool) → is_unit x n.durable.units ≡ b → (may_yet_commit (opening_told nodes es) x ≡ true) ⊎ (changes_by x (state_of f).timeline.history.live ≡ [])
      by x c true unit =
          let home : x.node ≡ node = (unit_of n disk x unit).0 ∙ found_name node nodes n first_found in
          inl (subst (λ (p : Opening). may_yet_commit p x ≡ true) a.told (waits x n (subst (λ m. StandsAt m es (opened nodes disks) n) (sym home) left) unit c))
      by x c false none = inr (subst (λ q. changes_by x (history_of q).live ≡ []) at (no_changes n.durable.units n.durable.directory x file disk.filed.can none))

  -- So a branch that is committed, and had changed something in a file before, is one that may yet commit.
  pub lawful : FilesAgree (opened nodes disks) es → AreLawful (committed_in closing) (may_yet_commit (opening_told nodes es)) (opened nodes disks) es
  lawful agree = lawful_with (committed_in closing) (λ x n left unit c. shown_at x n left unit c (find_node x.node closing.nodes) refl) agree
    where
      shown_at : (x : Id) (n : Node) → StandsAt x.node es (opened nodes disks) n → is_unit x n.durable.units ≡ true → committed_in closing x ≡ true → (q : Option Node) → find_node x.node closing.nodes ≡ q → may_yet_commit o x ≡ true
      shown_at x n left unit c (Some y) found =
          let s = any_in (λ (t : Settlement). same x t.serial && is_commit t.outcome) (settlements_of x.node closing) c in
          let parts = and_parts (same x s.0.serial) (is_commit s.0.outcome) s.2 in
          let there : In s.0 y.settled = subst (In s.0) (found_settled x.node closing y found) s.1 in
          shown x n left unit s.0 y found there (sym (id_is x s.0.serial parts.0)) (is_committed s.0.outcome parts.1)
      shown_at x n left unit c None found = let s = any_in (λ (t : Settlement). same x t.serial && is_commit t.outcome) (settlements_of x.node closing) c in absurd (subst (λ (q : Option Node). In s.0 (elim q as (λ z. List Settlement) [ Some m ↦ m.settled | None ↦ [] ])) found s.1)
