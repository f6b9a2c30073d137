-- A record of a prepared branch in the log of its node's disk: the branch was told to be prepared, or a failure found it being prepared, or the disk had it before.
use Rattle.std.proofs.Common.{◌≡◌, ℕ, ◌⊎◌, List, [], ◌∷◌, inl, inr, map, Bool, true, false, not, ◌&&◌, ◌||◌, Option, Some, None, refl, sym, ◌∙◌, ap, subst}
use Rattle.std.proofs.lemmas.Bool.{both_ways}
use Rattle.vms_model.specs.Ids.{Id}
use Rattle.vms_model.specs.Transactions.{Outcome, Commit, Abort, Reason, SegFail}
use Rattle.run_said.specs.transcript_model.Lines as line
use Rattle.run_said.specs.transcript_model.Lines.{Line}
use Rattle.unit_laws.specs.records_model.History.{same_id}
use Rattle.commit_protocol.specs.Messages.{LogRecord}
use Rattle.commit_protocol.specs.Table as table
use Rattle.commit_protocol.specs.Table.{Branch, Key as BranchKey, child, cut, prepared_record, put, table_after}
use Rattle.commit_protocol.specs.World.{In}
use Rattle.run_said.specs.log_laws.Slots.{prepared_of, records_in}
use Rattle.run_said.proofs.log_laws.Reading.{is_prepared_one}
use Rattle.run_said.specs.run_model.World as world
use Rattle.run_said.specs.run_model.World.{Node, Act, Boots, ComesUp, Durable, Settlement, Tables, acted, aborted_prepared, booted, next_moment, prepared_left, prepared_serials, settlement, with_half}
use Rattle.run_said.specs.run_model.Answers.{Row, Serves, last_line, last_lines, prepared_line, settled_line, unit_key}
use Rattle.run_said.specs.run_model.Steps.{lines_of_rows, node_after, node_after_rows}
use Rattle.recovery_laws.specs.world_laws.Nodes.{IsUp}
use Rattle.recovery_laws.proofs.world_laws.IdLemmas.{id_is, id_itself}
use Rattle.recovery_laws.proofs.world_laws.LogLemmas.{branch_of, record_there}
use Rattle.run_laws.specs.Promises.{prepared_by}
use Rattle.run_laws.proofs.EachRow.{ArePlain, AreVoteless, VotesSo}
use Rattle.run_laws.proofs.BootsPrepared.{in_ordered}
use Rattle.run_laws.proofs.Keeping.{IsClosed, Keeps, Kept, Scheme, first_up, is_init}
use Rattle.run_laws.proofs.LastSettled.{HasLast, acted_last, after_last}
use Rattle.run_laws.proofs.Moving.{in_cut, in_put}
use Rattle.run_laws.proofs.Once.{IsOnceBoot, IsOnceDisk, IsOnceUp, once, once_keeps}
use Rattle.run_laws.proofs.RowFits.{EachFits, Fits, RowFits, TellsAct, free_after}
use Rattle.run_laws.proofs.StayPrepared.{told_append, told_steady}

module _ (tid serial : Id) where
  -- a disk has its record
  abbrev pub HasIt : Durable → Type 0
  HasIt d = (r : LogRecord) × In r (prepared_of (records_in d.log)) × (r.serial ≡ serial) × (r.tid ≡ tid)

  -- an act prepares it
  abbrev pub PreparesIt : Option Act → Type 0
  PreparesIt (Some (Tables (table.Prepares b) moment)) = b.key ≡ child tid serial
  PreparesIt _ = ⊥

  abbrev IsIn : List Branch → Type 0
  IsIn bs = (x : Branch) × In x bs × (x.state ≡ table.Prepared) × (x.key ≡ child tid serial)

  in_table : (n : Node) → IsUp n → HasIt n.durable → IsIn n.volatile.branches
  in_table n up (r, i, s, t) =
      let b = branch_of n up.table r i in
      (b.branch, b.there, b.state, (λ j. record { tid = (sym (ap (λ (q : LogRecord). q.tid) b.is) ∙ t) j; serial = (sym (ap (λ (q : LogRecord). q.serial) b.is) ∙ s) j }))

  pub in_log : (n : Node) → IsUp n → IsIn n.volatile.branches → HasIt n.durable
  in_log n up (x, i, state, key) =
      (prepared_record x, is_prepared_one (records_in n.durable.log) (prepared_record x) (up.table.log.prepared (prepared_record x) (record_there n.volatile.branches x i state)) refl, ap (λ (k : BranchKey). k.serial) key, ap (λ (k : BranchKey). k.tid) key)

  -- an act that leaves it on the disk found it there, or prepares it
  act_record : (free : Bool) (o : Option Act) (n : Node) → Fits free o n → IsUp n → IsUp (node_after o n) → HasIt (node_after o n).durable → HasIt n.durable ⊎ PreparesIt o
  act_record free None n f up is h = inl h
  act_record free (Some (Tables a moment)) n f up is h = go a is h
    where
      same : (a : table.Act) → table_after a n.volatile.branches ≡ n.volatile.branches → IsUp (acted (Tables a moment) n) → HasIt (acted (Tables a moment) n).durable → HasIt n.durable
      same a e is h = in_log n up (subst IsIn e (in_table (acted (Tables a moment) n) is h))

      fewer : (k : BranchKey) → IsIn (cut k n.volatile.branches) → HasIt n.durable
      fewer k (x, i, state, key) = in_log n up (x, in_cut k x n.volatile.branches i, state, key)

      go : (a : table.Act) → IsUp (acted (Tables a moment) n) → HasIt (acted (Tables a moment) n).durable → HasIt n.durable ⊎ PreparesIt (Some (Tables a moment))
      go (table.Prepares b) is h = let x = in_table (acted (Tables (table.Prepares b) moment) n) is h in elim (in_put (record b { state = table.Prepared }) x.0 n.volatile.branches x.1) [
        | inl new ↦ inr (ap (λ (y : Branch). y.key) (sym new) ∙ x.3)
        | inr old ↦ inl (in_log n up (x.0, old, x.2, x.3))
      ]
      go (table.Settles k o reason r) is h = inl (fewer k (in_table (acted (Tables (table.Settles k o reason r) moment) n) is h))
      go (table.Acknowledges k) is h = inl (same (table.Acknowledges k) refl is h)
      go (table.Releases x rm) is h = inl (same (table.Releases x rm) refl is h)
      go (table.Notes b) is h = inl h
      go (table.Accepts b c) is h = inl h
      go (table.Leaves k) is h = inl h
      go (table.Undoes k) is h = inl h
      go (table.Sends m) is h = inl h
      go (table.Prints l) is h = inl h
  act_record free (Some Boots) n f up is h = absurd f
  act_record free (Some (world.Formats slots journal)) n f up is h = absurd f
  act_record free (Some _) n f up is h = inl h

  -- Why a record is there that is not told of.
  module _ (W : Type 0) where
    abbrev pub Why : Bool → Type 0
    Why a = (a ≡ true) ⊎ W

    abbrev pub Fact : Bool → Durable → Type 0
    Fact a d = HasIt d → Why a

    added : (a b : Bool) → Why a → Why (a || b)
    added a b (inl is) = inl (ap (λ t. t || b) is)
    added a b (inr w) = inr w

    added_so : (a b : Bool) → b ≡ true → Why (a || b)
    added_so true b e = inl refl
    added_so false b e = inl e

    cleared : (a : Bool) (id : Id) → (id ≡ serial → ⊥) → Why a → Why (a && not (same_id serial id))
    cleared a id never (inr w) = inr w
    cleared a id never (inl is) = inl (go (same_id serial id) refl)
      where
        go : (t : Bool) → same_id serial id ≡ t → (a && not t) ≡ true
        go true same = absurd (never (sym (id_is serial id same)))
        go false same = ap (λ b. b && true) is

    -- what is told of while the node is up needs no reason
    told_why : (a : Bool) → (a ≡ true) ⊎ ⊥ → Why a
    told_why a (inl is) = inl is
    told_why a (inr none) = absurd none

    -- none that is settled has a record
    gone : (n : Node) (s : Settlement) → IsOnceDisk n.name n.durable n.settled → In s n.settled → HasIt n.durable → s.serial ≡ serial → ⊥
    gone n s once i (r, j, e, t) same = once.prepared s r i j (e ∙ sym same)

    row_fact : (free : Bool) (r : Row) (n : Node) (a : Bool) → RowFits free r n → IsUp (node_after r.act n) → IsOnceDisk (node_after r.act n).name (node_after r.act n).durable (node_after r.act n).settled → Fact a n.durable → Fact (prepared_by serial r.lines a) (node_after r.act n).durable
    row_fact free r n a f up once h has = go r.act f.fits f.tells f.votes up once has (act_record free r.act n f.fits f.up up has)
      where
        steady : ArePlain r.lines → AreVoteless r.lines → Why a → Why (prepared_by serial r.lines a)
        steady plain voteless w = subst Why (sym (told_steady serial r.lines a plain voteless)) w

        by : {A : Type 0} → HasIt n.durable ⊎ A → (A → ⊥) → Why a
        by (inl old) never = h old
        by (inr new) never = absurd (never new)

        settled : (k : BranchKey) (out : Outcome) (reason : Reason) (moment : ℕ) → (k.serial ≡ serial → ⊥) → Why a → Why (prepared_by serial (settled_line k out reason moment ∷ []) a)
        settled k Commit reason moment never w = cleared a k.serial never w
        settled k Abort reason moment never w = cleared a k.serial never w

        tabled : (act : table.Act) (moment : ℕ) → Fits free (Some (Tables act moment)) n → TellsAct (Some (Tables act moment)) r.lines n → VotesSo (Some (Tables act moment)) r.lines → IsOnceDisk (acted (Tables act moment) n).name (acted (Tables act moment) n).durable (acted (Tables act moment) n).settled → HasIt (acted (Tables act moment) n).durable →
            HasIt n.durable ⊎ PreparesIt (Some (Tables act moment)) → Why (prepared_by serial r.lines a)
        tabled (table.Settles k out reason x) moment g t v once has w = subst (λ ls. Why (prepared_by serial ls a)) (sym t) (settled k out reason moment (λ same. gone (acted (Tables (table.Settles k out reason x) moment) n) (settlement k out reason moment) once (inl refl) has same) (by w (λ e. e)))
        tabled (table.Prepares b) moment g t v once has (inl old) = subst (λ ls. Why (prepared_by serial ls a)) (sym v) (added a (same_id serial b.key.serial) (h old))
        tabled (table.Prepares b) moment g t v once has (inr new) = subst (λ ls. Why (prepared_by serial ls a)) (sym v) (added_so a (same_id serial b.key.serial) (ap (same_id serial) (ap (λ (k : BranchKey). k.serial) new) ∙ id_itself serial))
        tabled (table.Leaves k) moment g t v once has w = subst (λ ls. Why (prepared_by serial ls a)) (sym v) (by w (λ e. e))
        tabled (table.Accepts b c) moment g t v once has w = subst (λ ls. Why (prepared_by serial ls a)) (sym v) (by w (λ e. e))
        tabled (table.Undoes k) moment g t v once has w = absurd g.row
        tabled (table.Notes b) moment g t v once has w = steady t v (by w (λ e. e))
        tabled (table.Acknowledges k) moment g t v once has w = steady t v (by w (λ e. e))
        tabled (table.Releases x rm) moment g t v once has w = steady t v (by w (λ e. e))
        tabled (table.Sends m) moment g t v once has w = steady t v (by w (λ e. e))
        tabled (table.Prints l) moment g t v once has w = steady t v (by w (λ e. e))

        go : (act : Option Act) → Fits free act n → TellsAct act r.lines n → VotesSo act r.lines → IsUp (node_after act n) → IsOnceDisk (node_after act n).name (node_after act n).durable (node_after act n).settled → HasIt (node_after act n).durable → HasIt n.durable ⊎ PreparesIt act → Why (prepared_by serial r.lines a)
        go None g t v up once has w = steady t v (by w (λ e. e))
        go (Some (Tables act moment)) g t v up once has w = tabled act moment g t v once has w
        go (Some (world.Directs file cs s)) g t v up once has w = subst (λ ls. Why (prepared_by serial ls a)) (sym t) (cleared a s.serial (λ same. gone (acted (world.Directs file cs s) n) s once (inl refl) has same) (by w (λ e. e)))
        go (Some Boots) g t v up once has w = absurd g
        go (Some (world.Formats slots journal)) g t v up once has w = absurd g
        go (Some ComesUp) g t v up once has w = absurd g
        go (Some (world.Creates place file)) g t v up once has w = steady t v (by w (λ e. e))
        go (Some (world.Marks file mark)) g t v up once has w = steady t v (by w (λ e. e))
        go (Some (world.Saves file start)) g t v up once has w = steady t v (by w (λ e. e))
        go (Some (world.Recovers file start buckets m)) g t v up once has w = steady t v (by w (λ e. e))
        go (Some world.Draws) g t v up once has w = steady t v (by w (λ e. e))
        go (Some (world.Labels l)) g t v up once has w = steady t v (by w (λ e. e))
        go (Some (world.Numbers label id)) g t v up once has w = steady t v (by w (λ e. e))
        go (Some (world.Changes x id file cs keys)) g t v up once has w = steady t v (by w (λ e. e))
        go (Some (world.Holds id file keys)) g t v up once has w = steady t v (by w (λ e. e))
        go (Some (world.Arms writes choice)) g t v up once has w = steady t v (by w (λ e. e))
        go (Some (world.Clocks now)) g t v up once has w = steady t v (by w (λ e. e))
        go (Some (world.Declares rms)) g t v up once has w = steady t v (by w (λ e. e))
        go (Some world.Falls) g t v up once has w = steady t v (by w (λ e. e))

  -- the lines of branches that a boot found tell each
  tells_on : (ps : List LogRecord) → prepared_by serial (map prepared_line (table.branches_of ps)) true ≡ true
  tells_on [] = refl
  tells_on (q ∷ ps) = tells_on ps

  tells_it : (ps : List LogRecord) (a : Bool) (r : LogRecord) → In r ps → r.serial ≡ serial → prepared_by serial (map prepared_line (table.branches_of ps)) a ≡ true
  tells_it [] a r i same = absurd i
  tells_it (q ∷ ps) a r (inl is) same = ap (λ b. prepared_by serial (map prepared_line (table.branches_of ps)) b) (either a (same_id serial q.serial) (ap (λ (x : LogRecord). same_id serial x.serial) (sym is) ∙ (ap (same_id serial) same ∙ id_itself serial))) ∙ tells_on ps
    where
      either : (a b : Bool) → b ≡ true → (a || b) ≡ true
      either true b e = refl
      either false b e = e
  tells_it (q ∷ ps) a r (inr i) same = tells_it ps (a || same_id serial q.serial) r i same

  -- What the disk had at the opening is one reason.
  module _ (W : Type 0) (o : Option Node) (late : (s : Settlement) → (m : Node) → o ≡ Some m → m.durable.last ≡ Some s → s.serial ≡ serial → W) where
    abbrev pub recorded : Scheme
    recorded = record {
      Told = Bool;
      more = λ ls a. prepared_by serial ls a;
      Up = λ free a n. IsOnceUp free n × HasLast o n × Fact ⊥ a n.durable;
      Disk = λ a n. IsOnceDisk n.name n.durable n.settled × HasLast o n × Fact W a n.durable;
      Boots = λ a n. IsOnceBoot n × HasLast o n × Fact W a n.durable;
      Ready = λ n. Unit {0};
      Takes = λ act. PreparesIt act → W;
      special = λ r. is_init (Serves r);
    }

    under_fact : (free : Bool) (act : Act) (n : Node) (a : Bool) → Fits free (Some act) n → IsUp n → IsUp (acted act n) → (PreparesIt (Some act) → W) → Fact ⊥ a n.durable → Fact W a (acted act n).durable
    under_fact free act n a f up is q h has = elim (act_record free (Some act) n f up is has) [ inl old ↦ told_why W a (h old) | inr new ↦ inr (q new) ]

    lasts_fact : (n : Node) (a : Bool) → IsOnceDisk n.name n.durable n.settled → HasLast o n → Fact W a n.durable → Fact W (prepared_by serial (last_lines n) a) n.durable
    lasts_fact n a once last h has = go n.durable.last refl
      where
        at : (s : Settlement) → ((s.serial ≡ serial → ⊥) ⊎ W) → (out : Outcome) (r : Option Reason) → Why W (prepared_by serial (elim out as (λ y. List Line) [ Commit ↦ line.LastCommitted s.tid s.serial s.moment ∷ [] | Abort ↦ elim r as (λ y. List Line) [ Some reason ↦ line.LastAborted s.tid s.serial reason s.moment ∷ [] | None ↦ [] ] ]) a)
        at s (inr w) Commit r = inr w
        at s (inr w) Abort (Some reason) = inr w
        at s (inr w) Abort None = inr w
        at s (inl never) Commit r = cleared W a s.serial never (h has)
        at s (inl never) Abort (Some reason) = cleared W a s.serial never (h has)
        at s (inl never) Abort None = h has

        apart : (s : Settlement) → n.durable.last ≡ Some s → (b : Bool) → same_id serial s.serial ≡ b → (s.serial ≡ serial → ⊥) ⊎ W
        apart s is false off = inl (λ same. both_ways (same_id serial s.serial) off (ap (same_id serial) same ∙ id_itself serial))
        apart s is true on = elim (last s is) [ inl i ↦ inl (λ same. gone W n s once i has same) | inr m ↦ inr (late s m.0 m.1 m.2 (sym (id_is serial s.serial on))) ]

        go : (x : Option Settlement) → n.durable.last ≡ x → Why W (prepared_by serial (elim x as (λ y. List Line) [ Some s ↦ last_line s | None ↦ [] ]) a)
        go (Some s) is = at s (apart s is (same_id serial s.serial) refl) s.outcome s.reason
        go None is = h has

    closes_fact : (bs : List Branch) (a : Bool) → Why W a → Why W (prepared_by serial (map prepared_line bs) a)
    closes_fact [] a w = w
    closes_fact (b ∷ bs) a w = closes_fact bs (a || same_id serial b.key.serial) (added W a (same_id serial b.key.serial) w)

    half_fact : (x : Option Id) (standing : List ℕ → Rattle.unit_laws.specs.Units.Map) (d : Durable) (a : Bool) → Fact W a d → Fact W a (with_half x standing d)
    half_fact None standing d a h = h
    half_fact (Some id) standing d a h = h

    half_last : (x : Option Id) (standing : List ℕ → Rattle.unit_laws.specs.Units.Map) (d : Durable) → (with_half x standing d).last ≡ d.last
    half_last None standing d = refl
    half_last (Some id) standing d = refl

    pub row_up : (free : Bool) (r : Row) (n : Node) (a : Bool) → RowFits free r n → IsUp (node_after r.act n) → IsOnceUp free n × HasLast o n × Fact ⊥ a n.durable →
        IsOnceUp (free_after free r.act) (node_after r.act n) × HasLast o (node_after r.act n) × Fact ⊥ (prepared_by serial r.lines a) (node_after r.act n).durable
    row_up free r n a f up h =
        let once = once_keeps.row free r n tt tt f up h.0 in
        (once, after_last o r.act n h.1, row_fact ⊥ free r n a f up (once_keeps.falls (free_after free r.act) tt (node_after r.act n) up once) h.2)

    -- the same of rows, whatever they prepare
    pub rows_up : (free : Bool) (rs : List Row) (n : Node) (a : Bool) → EachFits free rs n → IsOnceUp free n × HasLast o n × Fact ⊥ a n.durable →
        IsUp (node_after_rows rs n) × IsOnceUp false (node_after_rows rs n) × HasLast o (node_after_rows rs n) × Fact ⊥ (prepared_by serial (lines_of_rows rs) a) (node_after_rows rs n).durable
    rows_up free [] n a f h = (f, once_keeps.weaken free tt n h.0, h.1, h.2)
    rows_up free (r ∷ rs) n a f h =
        let m = node_after r.act n in
        let more = rows_up (free_after free r.act) rs m (prepared_by serial r.lines a) f.1 (row_up free r n a f.0 (first_up (free_after free r.act) rs m f.1) h) in
        (more.0, more.1, more.2, subst (λ b. Fact ⊥ b (node_after_rows rs m).durable) (sym (told_append serial r.lines (lines_of_rows rs) a)) more.3)

    told_here : (a : Bool) (n : Node) → IsClosed recorded a n → HasIt n.durable → a ≡ true
    told_here a n closed (r, i, s, t) = closed.told
        ∙ tells_it (prepared_left (closed.found).durable) closed.before r (in_ordered (prepared_serials (closed.found).durable.units.entries) (prepared_of (records_in (closed.found).durable.log)) r (subst (λ ss. In r (prepared_of (records_in ss))) closed.log i)) s

    pub recorded_keeps : Keeps recorded
    recorded_keeps = record {
      none = λ a. refl;
      append = told_append serial;
      plain = told_steady serial;
      same = λ a n m name durable settled h. (
        once_keeps.same tt n m name durable settled h.0,
        λ t e. elim (h.1 t (ap (λ (d : Durable). d.last) (sym durable) ∙ e)) [ inl i ↦ inl (subst (In t) (sym settled) i) | inr was ↦ inr was ],
        subst (Fact W a) (sym durable) h.2,
      );
      row = λ free r n a q f up h. row_up free r n a f up h;
      under = λ free r n a act q f is d up h. (once_keeps.under free r n tt act tt f is d up h.0, acted_last o act n h.1, under_fact free act n a (subst (λ x. Fits free x n) is f.fits) f.up up (subst (λ x. PreparesIt x → W) is q) h.2);
      falls = λ free a n up h. (once_keeps.falls free tt n up h.0, h.1, λ has. told_why W a (h.2 has));
      weaken = λ free a n h. (once_keeps.weaken free tt n h.0, h.1, h.2);
      half = λ a n standing k ready may h. (
        once_keeps.half tt n standing k tt may h.0,
        λ t e. h.1 t (sym (half_last (aborted_prepared n.under_way n.durable) standing n.durable) ∙ e),
        half_fact (aborted_prepared n.under_way n.durable) standing n.durable a h.2,
      );
      spoils = λ a n h. (once_keeps.spoils tt n h.0, h.1, h.2);
      boots = λ a n k h. (once_keeps.boots tt n k h.0, h.1, lasts_fact n a h.0 h.1 h.2);
      booting = λ a n k h. (once_keeps.booting tt n k h.0, h.1, h.2);
      undoes = λ a n u next h.
          let once = once_keeps.undoes tt n u next h.0 in
          (once, acted_last o (Tables (table.Undoes (unit_key u)) (next_moment n)) n h.1, λ has. cleared W a u.serial (λ same. gone W (acted (Tables (table.Undoes (unit_key u)) (next_moment n)) n) (settlement (unit_key u) Abort SegFail (next_moment n)) once.disk (inl refl) has same) (h.2 has));
      undoing = λ a n u next h. (once_keeps.undoing tt n u next h.0, acted_last o (Tables (table.Undoes (unit_key u)) (next_moment n)) n h.1, h.2);
      rests = λ a n k h. (once_keeps.rests tt n k h.0, h.1, h.2);
      none_ready = λ n e. tt;
      same_ready = λ n m e h. tt;
      closes = λ a n m log up h. (h.0, h.1, λ has. closes_fact (booted n.durable).branches a (h.2 has));
      comes = λ a n up h closed. (once_keeps.comes tt n up h.0 (record { before = tt; found = n; log = refl; told = refl }), h.1, λ has. inl (told_here a n closed has));
    }

-- A reason for another.
pub kept_for : (tid serial : Id) (o : Option Node) (V W : Type 0) (f : (s : Settlement) → (m : Node) → o ≡ Some m → m.durable.last ≡ Some s → s.serial ≡ serial → V) (g : (s : Settlement) → (m : Node) → o ≡ Some m → m.durable.last ≡ Some s → s.serial ≡ serial → W) (a : Bool) (n : Node) → (V → W) →
    Kept (recorded tid serial V o f) (recorded_keeps tid serial V o f) a n → Kept (recorded tid serial W o g) (recorded_keeps tid serial W o g) a n
kept_for tid serial o V W f g a n gives h = record {
  disk = (h.disk.0, h.disk.1, λ has. on (h.disk.2 has));
  way = λ act e. let d = h.way act e in (d.0, d.1, λ has. on (d.2 has));
  runs = λ up. h.runs up;
}
  where
    on : (a ≡ true) ⊎ V → (a ≡ true) ⊎ W
    on (inl is) = inl is
    on (inr v) = inr (gives v)
