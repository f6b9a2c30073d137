-- Effects that units do: votes, settlements and records, by what their calls answered.
use Rattle.std.proofs.Common.{◌≡◌, ◌≤◌, ℕ, Bool, true, false, List, [], ◌∷◌, ◌++◌, Option, Some, None, Result, Ok, Err, ◌⊎◌, inr, refl, ap, sym, subst, ◌∙◌, length}
use Rattle.std.specs.Prelude.{IfSome, IsSome, is_some, OnErr, OnOk, ◌||◌, not, if◌then◌else◌}
use Rattle.emitter_model.proofs.EmittingLemmas.{emits_nothing, since_same}
use Rattle.careful_write.specs.declared.down.Down.{Down}
use Rattle.net_wire.specs.commit_protocol.Allowed.{is_prepared}
use Rattle.net_wire.specs.commit_protocol.Effects.{Effect, PrepareEffect, SettleEffect, KeepEffect, ForgetEffect, ReadOnlyEffect, act_effects}
use Rattle.net_wire.specs.commit_protocol.Limits.{AllLawful, IsLawful}
use Rattle.net_wire.specs.commit_protocol.Messages.{LogRecord, Message, Name, PreparedRecord}
use Rattle.net_wire.specs.commit_protocol.Standing.{writes}
use Rattle.net_wire.specs.commit_protocol.Rows.{is_empty}
use Rattle.net_wire.specs.commit_protocol.Table.{Act, Accepts, Acknowledges, Branch, Key, Leaves, Notes, Prepares, Prints, Releases, Sends, Settles, Tm, Undoes, child, find, holding, prepared_record, without}
use Rattle.net_wire.specs.commit_protocol.World.{In}
use Rattle.emitter_model.proofs.commit_protocol.Lists.{find-key as found_key}
use Rattle.recovery_units.specs.lmcp_log.Log.{record_with}
use Rattle.recovery_units.specs.lmcp_log.Slot.{HasForm}
use Rattle.row_laws.specs.log_laws.Slots.{forgotten, has_free, has_slot, put_in, record_effect_in, record_effects_in, settled_in}
use Rattle.row_laws.specs.run_model.Answers.{settled_line, shown_by}
use Rattle.row_laws.specs.run_model.World as world
use Rattle.row_laws.specs.run_model.World.{Node, Settlement, Tables, acted, next_moment, settlement, settlement_of, tm_of}
use Rattle.run_shared.specs.Sharing.{IsShared, SharedState}
use Rattle.row_laws.specs.May.{MayDo}
use Rattle.emitter_model.specs.Emitting.{Emits, Shown, Since}
use Rattle.emitter_model.specs.transcript_model.Lines as line
use Rattle.emitter_model.specs.transcript_model.Lines.{Line}
use Rattle.vms_model.specs.Ids.{Id}
use Rattle.vms_model.specs.Transactions.{Outcome, Commit, Abort, Reason}
use Rattle.vms_base.specs.Ids.{serial_of, tid_of}
use Rattle.unit_table.specs.Units.{OpenUnit}
use Rattle.records_model.specs.History.{same_id}
use Rattle.recovery_units.specs.declared.settled.SettledUnit.{SettledUnit}
use Rattle.volume.specs.State.{VolumeState}
use Rattle.recovery_units.specs.Calls.{Broken, Done, ForActs, SettlesOk, SettlesTo, told_settlement}
use Rattle.recovery_units.specs.State.{AreOfBranches, IsInOrder, IsKept, IsOfBranch, MayLeave, MayLog, MayVote, UnitsState, aborted, are_there, committed, is_begun, unit_of, vote_of, voted, with_prepared, without_begun, without_unit}
use Rattle.recovery_units.specs.Uses.{Caused, DiskAdvances, Grows, ImagesGrow, down_of}
use Rattle.node_table.specs.Growing.{IsEarlyFor}
use Rattle.node_table.specs.Standing.{AreInDoubt, Follows, NamesPrepared, Stored, unsettled_serials}
use Rattle.node_table.specs.Telling.{IsOfWork, Leads, MayTellOne, ShowsWork, TellsOne, done, uses_disk, wire_behind}
use Rattle.node_table.proofs.Acting.{Moves, Names, followed, moves_left, moves_prepared, moves_settled, names_left, names_prepared, names_settled, serials_apart}
use Rattle.node_table.proofs.Branching.{HasUnit, has_unit}
use Rattle.node_table.proofs.Grows.{grown_left, grown_prepared, grown_same, grown_settled, stays}
use Rattle.node_table.proofs.Logged.{form_within, logged_slot, unlogged}
use Rattle.node_table.proofs.Telling.{asked_of, at_some, broke, did, same_table, work_none, work_one}
use Rattle.node_table.proofs.Viewing.{IsOfRecords, record_lines, shows_forgotten, shows_kept, view}

-- The unit of a branch that is found.
pub record Found (serial : Id) (s : Stored) (o : Branch) : Type 0 where
  pub unit : OpenUnit
  pub there : unit_of serial s.units.begun ≡ Some unit
  pub of : IsOfBranch unit o

pub found_unit : (tm : Tm) (s : Stored) (k : Key) (o : Branch) (serial : Id) → Follows tm s → find k tm.table ≡ Some o → k.serial ≡ serial → Found serial s o
found_unit tm s k o serial f e q =
    let h : HasUnit s.units.begun o = has_unit s.units.begun tm.table k o f.branches (serials_apart tm s f) e in
    let same : o.key.serial ≡ serial = ap (λ (j : Key). j.serial) (found_key k tm.table o e) ∙ q in
    record { unit = h.unit; there = subst (λ i. unit_of i s.units.begun ≡ Some h.unit) same h.there; of = h.of }

-- A vote.

pub record Votes (serial : Id) (rms : List Name) (tid : Id) (act : Act) (tm : Tm) (s : Stored) : Type 0 where
  pub branch : Branch
  pub is : act ≡ Prepares branch
  pub serial_is : branch.key.serial ≡ serial
  pub rms_are : holding branch.managers ≡ rms
  pub there : find branch.key tm.table ≡ Some branch
  pub unprepared : is_prepared branch.state ≡ false
  pub unit : OpenUnit
  pub found : unit_of serial s.units.begun ≡ Some unit
  pub of : IsOfBranch unit branch
  pub may : MayVote unit rms s.units.log

pub votes : (serial : Id) (rms : List Name) (tid : Id) (act : Act) (tm : Tm) (s : Stored) → MayTellOne (PrepareEffect serial rms) tid act tm s → Votes serial rms tid act tm s
votes serial rms tid act tm s m =
    let v = view act tm.records (PrepareEffect serial rms) m.gives in
    let may : MayDo tid (Prepares v.0) tm s.units.log = subst (λ x. MayDo tid x tm s.units.log) v.1 m.may in
    let named = may.named in
    let e : Some may.stands.branch ≡ Some v.0 = sym may.stands.there ∙ named.0 in
    let is : may.stands.branch ≡ v.0 = cc in
    let un : is_prepared v.0.state ≡ false = ap (λ (y : Branch). is_prepared y.state) (sym is) ∙ may.stands.unprepared in
    let f = found_unit tm s v.0.key v.0 serial m.follows named.0 v.2 in
    let active : f.unit.prepared ≡ false = sym f.of.prepared ∙ un in
    let yes : (are_there f.unit.positions || not (is_empty (holding v.0.managers))) ≡ true = subst (λ c. (c || not (is_empty (holding v.0.managers))) ≡ true) (f.of.changed active) named.1 in
    record {
      branch = v.0;
      is = v.1;
      serial_is = v.2;
      rms_are = v.3;
      there = named.0;
      unprepared = un;
      unit = f.unit;
      found = f.there;
      of = f.of;
      may = record { active = active; yes = subst (λ xs. (are_there f.unit.positions || not (is_empty xs)) ≡ true) v.3 yes; slot = inr may.slot };
    }

-- the record of its vote
vote_is : (serial : Id) (rms : List Name) (tid : Id) (act : Act) (tm : Tm) (s : Stored) (v : Votes serial rms tid act tm s) → vote_of v.unit rms ≡ prepared_record v.branch
vote_is serial rms tid act tm s v = λ i. record { kind = PreparedRecord; tid = sym v.of.tid i; serial = sym v.of.serial i; waiting = []; rms = sym v.rms_are i }

-- what the call of a vote answered
pub record Voted (serial : Id) (rms : List Name) (told : Id) (s t : Stored) (a b : Shown) : Type 0 where
  pub units : IfSome (unit_of serial s.units.begun) (λ u. t.units ≡ voted u rms s.units)
  pub tid : IfSome (unit_of serial s.units.begun) (λ u. told ≡ u.tid)
  pub order : IsInOrder t.units t.volume
  pub grows : Grows 0 0 s.volume t.volume
  pub images : ImagesGrow s.volume t.volume
  pub acts : ForActs (PrepareEffect serial rms) s.units s.volume (Done t.units t.volume)
  pub doubt : t.in_doubt ≡ s.in_doubt ++ serial ∷ []
  pub since : Since a b
  pub shows : Emits a (line.Prepared told serial ∷ []) b

module _ (serial : Id) (rms : List Name) (told : Id) (s t : Stored) (a b : Shown) (c : Voted serial rms told s t a b) where
  vote_became : (tid : Id) (act : Act) (tm : Tm) (v : Votes serial rms tid act tm s) → t.units ≡ voted v.unit rms s.units
  vote_became tid act tm v = at_some (λ u. t.units ≡ voted u rms s.units) (unit_of serial s.units.begun) v.unit v.found c.units

  vote_begun : (tid : Id) (act : Act) (tm : Tm) (v : Votes serial rms tid act tm s) → t.units.begun ≡ with_prepared serial s.units.begun
  vote_begun tid act tm v = subst (λ i. t.units.begun ≡ with_prepared i s.units.begun) (sym v.of.serial ∙ v.serial_is) (ap (λ (x : UnitsState). x.begun) (vote_became tid act tm v))

  vote_moves : (tid : Id) (act : Act) (tm : Tm) (v : Votes serial rms tid act tm s) → Follows tm s → Moves (Prepares v.branch) tm s t
  vote_moves tid act tm v f = moves_prepared tm s t v.branch v.branch f v.there v.unprepared
      (subst (λ i. t.units.begun ≡ with_prepared i s.units.begun) (sym v.serial_is) (vote_begun tid act tm v))
      (ap (λ (x : UnitsState). x.log) (vote_became tid act tm v) ∙ ap (λ r. put_in r s.units.log) (vote_is serial rms tid act tm s v))
      (c.doubt ∙ ap (λ i. s.in_doubt ++ i ∷ []) (sym v.serial_is))

  vote_shows : (tid : Id) (act : Act) (tm : Tm) (v : Votes serial rms tid act tm s) → Emits a (line.Prepared v.branch.key.tid v.branch.key.serial ∷ []) b
  vote_shows tid act tm v =
      let t_is : told ≡ v.branch.key.tid = at_some (λ (u : OpenUnit). told ≡ u.tid) (unit_of serial s.units.begun) v.unit v.found c.tid ∙ sym v.of.tid in
      subst (λ i. Emits a (line.Prepared v.branch.key.tid i ∷ []) b) (sym v.serial_is) (subst (λ i. Emits a (line.Prepared i serial ∷ []) b) t_is c.shows)

  pub prepare_tells : (tid0 : Id) (act0 : Act) (tm0 : Tm) → MayTellOne (PrepareEffect serial rms) tid0 act0 tm0 s → (tid : Id) (clock : ℕ) (sh : SharedState) → TellsOne done (PrepareEffect serial rms) tid clock s t sh sh a b
  prepare_tells tid0 act0 tm0 m0 tid clock sh =
      let v0 = votes serial rms tid0 act0 tm0 s m0 in
      record {
        stays = stays (Ok tt) 0 0 clock s t c.grows tt (grown_prepared clock s t serial v0.unit c.grows c.images v0.found v0.may.active (vote_begun tid0 act0 tm0 v0));
        since = c.since;
        work = work_one sh sh a b (line.Prepared told serial) c.shows refl refl;
        uses = tt;
        leads = λ tm act m. (
            let v = votes serial rms tid act tm s m in
            let P : Act → Type 0 = λ x. MayDo tid x tm s.units.log → Leads x tm s t in
            let here : MayDo tid (Prepares v.branch) tm s.units.log → Leads (Prepares v.branch) tm s t = λ may. followed tid (Prepares v.branch) tm s t m.follows may c.order c.grows.node (vote_moves tid act tm v m.follows) in
            subst P (sym v.is) here m.may);
        does = λ tm act sw n m h share up after. (
            let m' = same_table (PrepareEffect serial rms) tid act tm s clock n h m in
            let v = votes serial rms tid act (tm_of n) s m' in
            let kept = c.acts n act h.kept (asked_of (PrepareEffect serial rms) tid act tm s clock n h m up after) in
            let names : Names (Prepares v.branch) n s.in_doubt t.in_doubt = subst (λ x. Names (Prepares v.branch) n s.in_doubt x) (ap (λ i. s.in_doubt ++ i ∷ []) v.serial_is ∙ sym c.doubt)
            (names_prepared v.branch v.branch n s.in_doubt (serials_apart (tm_of n) s m'.follows) v.there v.unprepared h.doubt h.names) in
            did (PrepareEffect serial rms) tid act tm clock s t sw n a b sh h kept
            (subst (λ x. Names x n s.in_doubt t.in_doubt) (sym v.is) names)
            (subst (λ x. Emits a (shown_by x (next_moment n) n sw) b) (sym v.is) (vote_shows tid act (tm_of n) v))
            (subst (λ x. IsShared sh (world.shared_after (Tables x (next_moment n)) sw)) (sym v.is) share));
      }

-- a line of a node's work by which no message is sent
abbrev pub IsStill : Line → Type 0
IsStill l = IsOfWork l × ((wire : List Message) → wire_behind l wire ≡ wire)

-- The disk went down in a call: an act that writes may be under way.
pub down_tells : (d : Down) (e : Effect) (s t : Stored) (at settlements : ℕ) → Grows settlements at s.volume t.volume → Caused (Some d) s.volume.store.disk t.volume.store.disk → ((act : Act) (tm : Tm) → act_effects act tm.records ≡ e ∷ [] → writes act ≡ true) → uses_disk e ≡ true
    → (clock : ℕ) → ForActs e s.units s.volume (λ n act. n.clock ≡ clock → Broken t.volume n act) → (tid : Id) (a b : Shown) → Emits a [] b → Since a b → (sh : SharedState) → TellsOne {T = Unit {0}} (Err d) e tid clock s t sh sh a b
down_tells d e s t at settlements grows cause writes_it uses clock acts tid a b shows since sh = record {
  stays = stays (Err d) settlements at clock s t grows cause tt;
  since = since;
  work = work_none sh a b shows;
  uses = uses;
  leads = tt;
  does = λ tm act sw n m h share up after. broke act sw n a b sh t.volume shows share (writes_it act tm m.gives) (acts n act h.kept (asked_of e tid act tm s clock n h m up after) h.clock_is);
}

-- A branch that leaves.

pub record Leaving (serial : Id) (tid : Id) (act : Act) (tm : Tm) (s : Stored) : Type 0 where
  pub key : Key
  pub is : act ≡ Leaves key
  pub serial_is : key.serial ≡ serial
  pub branch : Branch
  pub there : find key tm.table ≡ Some branch
  pub unprepared : is_prepared branch.state ≡ false
  pub unit : OpenUnit
  pub found : unit_of serial s.units.begun ≡ Some unit
  pub of : IsOfBranch unit branch
  pub may : MayLeave unit

none_there : (ps : List ℕ) → are_there ps ≡ false → ps ≡ []
none_there [] e = refl
none_there (p ∷ ps) e = absurd (let f : true ≡ false = e in cc)

pub leaving : (serial : Id) (tid : Id) (act : Act) (tm : Tm) (s : Stored) → MayTellOne (ReadOnlyEffect serial) tid act tm s → Leaving serial tid act tm s
leaving serial tid act tm s m =
    let v = view act tm.records (ReadOnlyEffect serial) m.gives in
    let may : MayDo tid (Leaves v.0) tm s.units.log = subst (λ x. MayDo tid x tm s.units.log) v.1 m.may in
    let q = may.stands in
    let f = found_unit tm s v.0 q.branch serial m.follows q.there v.2 in
    let active : f.unit.prepared ≡ false = sym f.of.prepared ∙ q.unprepared in
    record {
      key = v.0;
      is = v.1;
      serial_is = v.2;
      branch = q.branch;
      there = q.there;
      unprepared = q.unprepared;
      unit = f.unit;
      found = f.there;
      of = f.of;
      may = record { active = active; unchanged = none_there f.unit.positions (sym (f.of.changed active) ∙ q.unchanged) };
    }

-- what its call answered
pub record HasLeft (serial : Id) (told : Id) (s t : Stored) (a b : Shown) : Type 0 where
  pub volume : t.volume ≡ s.volume
  pub units : t.units ≡ without_begun serial s.units
  pub tid : IfSome (unit_of serial s.units.begun) (λ u. told ≡ u.tid)
  pub order : IsInOrder t.units t.volume
  pub acts : ForActs (ReadOnlyEffect serial) s.units s.volume (Done t.units s.volume)
  pub doubt : t.in_doubt ≡ s.in_doubt
  pub since : Since a b
  pub shows : Emits a (line.ReadOnly told serial ∷ []) b

pub leave_tells : (serial told : Id) (s t : Stored) (a b : Shown) → HasLeft serial told s t a b → DiskAdvances s.volume.store.disk s.volume.store.disk → (tid0 : Id) (act0 : Act) (tm0 : Tm) → MayTellOne (ReadOnlyEffect serial) tid0 act0 tm0 s
    → (tid : Id) (clock : ℕ) (sh : SharedState) → TellsOne done (ReadOnlyEffect serial) tid clock s t sh sh a b
leave_tells serial told s t a b c same tid0 act0 tm0 m0 tid clock sh =
    let v0 = leaving serial tid0 act0 tm0 s m0 in
    let begun : t.units.begun ≡ without_unit serial s.units.begun = ap (λ (x : UnitsState). x.begun) c.units in
    record {
      stays = record {
        goes = subst (λ (x : VolumeState). DiskAdvances s.volume.store.disk x.store.disk) (sym c.volume) same;
        cause = tt;
        pool = ap (λ (x : VolumeState). x.store.pool) c.volume;
        node = ap (λ (x : VolumeState). x.catalog.home.node) c.volume;
        boot = ap (λ (x : VolumeState). x.catalog.home.boot) c.volume;
        grown = grown_left clock s t serial v0.unit c.volume v0.found begun;
      };
      since = c.since;
      work = work_one sh sh a b (line.ReadOnly told serial) c.shows refl refl;
      uses = tt;
      leads = λ tm act m. (
          let v = leaving serial tid act tm s m in
          let P : Act → Type 0 = λ x. MayDo tid x tm s.units.log → Leads x tm s t in
          let here : MayDo tid (Leaves v.key) tm s.units.log → Leads (Leaves v.key) tm s t = λ may. followed tid (Leaves v.key) tm s t m.follows may c.order (ap (λ (x : VolumeState). x.catalog.home.node) c.volume)
          (moves_left tm s t v.key v.branch m.follows v.there v.unprepared (begun ∙ ap (λ i. without_unit i s.units.begun) (sym v.serial_is)) (ap (λ (x : UnitsState). x.log) c.units) c.doubt) in
          subst P (sym v.is) here m.may);
      does = λ tm act sw n m h share up after. (
          let m' = same_table (ReadOnlyEffect serial) tid act tm s clock n h m in
          let v = leaving serial tid act (tm_of n) s m' in
          let kept = c.acts n act h.kept (asked_of (ReadOnlyEffect serial) tid act tm s clock n h m up after) in
          let names : Names (Leaves v.key) n s.in_doubt t.in_doubt = subst (λ x. Names (Leaves v.key) n s.in_doubt x) (sym c.doubt) (names_left v.key v.branch n s.in_doubt v.there v.unprepared h.doubt h.names) in
          let of_key : v.branch.key ≡ v.key = found_key v.key n.volatile.branches v.branch v.there in
          let t_is : told ≡ v.key.tid = at_some (λ (u : OpenUnit). told ≡ u.tid) (unit_of serial s.units.begun) v.unit v.found c.tid ∙ sym v.of.tid ∙ ap (λ (k : Key). k.tid) of_key in
          did (ReadOnlyEffect serial) tid act tm clock s t sw n a b sh h (subst (λ (x : VolumeState). IsKept t.units x (acted (Tables act (next_moment n)) n)) (sym c.volume) kept)
          (subst (λ x. Names x n s.in_doubt t.in_doubt) (sym v.is) names)
          (subst (λ x. Emits a (shown_by x (next_moment n) n sw) b) (sym v.is) (subst (λ i. Emits a (line.ReadOnly v.key.tid i ∷ []) b) (sym v.serial_is) (subst (λ i. Emits a (line.ReadOnly i serial ∷ []) b) t_is c.shows)))
          (subst (λ x. IsShared sh (world.shared_after (Tables x (next_moment n)) sw)) (sym v.is) (record { labels = share.labels; in_use = share.in_use; wire = share.wire })));
    }

-- A settlement.

pub record Settling (serial : Id) (outcome : Outcome) (reason : Reason) (r : Option LogRecord) (tid : Id) (act : Act) (tm : Tm) (s : Stored) : Type 0 where
  pub key : Key
  pub is : act ≡ Settles key outcome reason r
  pub serial_is : key.serial ≡ serial
  pub branch : Branch
  pub there : find key tm.table ≡ Some branch
  pub unit : OpenUnit
  pub found : unit_of serial s.units.begun ≡ Some unit
  pub of : IsOfBranch unit branch

pub settling : (serial : Id) (outcome : Outcome) (reason : Reason) (r : Option LogRecord) (tid : Id) (act : Act) (tm : Tm) (s : Stored) → MayTellOne (SettleEffect serial outcome reason r) tid act tm s → Settling serial outcome reason r tid act tm s
settling serial outcome reason r tid act tm s m =
    let v = view act tm.records (SettleEffect serial outcome reason r) m.gives in
    let may : MayDo tid (Settles v.0 outcome reason r) tm s.units.log = subst (λ x. MayDo tid x tm s.units.log) v.1 m.may in
    let q = may.stands in
    let f = found_unit tm s v.0 q.0.0 serial m.follows q.0.1 v.2 in
    record { key = v.0; is = v.1; serial_is = v.2; branch = q.0.0; there = q.0.1; unit = f.unit; found = f.there; of = f.of }

-- a record that is written with it
pub may_log : (serial : Id) (outcome : Outcome) (reason : Reason) (r : LogRecord) (tid : Id) (act : Act) (tm : Tm) (s : Stored) → MayTellOne (SettleEffect serial outcome reason (Some r)) tid act tm s → MayLog serial r s.units.log
may_log serial outcome reason r tid act tm s m =
    let v = view act tm.records (SettleEffect serial outcome reason (Some r)) m.gives in
    let may : MayDo tid (Settles v.0 outcome reason (Some r)) tm s.units.log = subst (λ x. MayDo tid x tm s.units.log) v.1 m.may in
    let law : IsLawful tm.records (SettleEffect v.0.serial outcome reason (Some r)) = may.lawful.0 in
    let own : r.serial ≡ serial = law.1 ∙ v.2 in
    record { own = own; form = form_within r law.2; slot = subst (λ i. (has_slot i s.units.log ≡ true) ⊎ (has_free s.units.log ≡ true)) own may.slot }

-- what its call answered
pub record HasSettled (serial : Id) (outcome : Outcome) (reason : Reason) (r : Option LogRecord) (clock : ℕ) (told : SettledUnit) (s t : Stored) (a b : Shown) : Type 0 where
  pub begun : t.units.begun ≡ without_unit serial s.units.begun
  pub log : (tid : Id) (act : Act) (tm : Tm) → (v : Settling serial outcome reason r tid act tm s) → Follows tm s → t.units.log ≡ settled_in serial r s.units.log
  pub order : IsInOrder t.units t.volume
  pub grows : Grows 1 clock s.volume t.volume
  pub images : ImagesGrow s.volume t.volume
  pub acts : SettlesOk serial outcome reason r clock told s.units s.volume t.units t.volume
  pub doubt : t.in_doubt ≡ without serial s.in_doubt
  pub since : Since a b
  pub shows : Emits a (settled_line (child (tid_of told.tid) (serial_of told.serial)) outcome reason told.moment.0 ∷ []) b

module _ (serial : Id) (outcome : Outcome) (reason : Reason) (r : Option LogRecord) (clock : ℕ) (told : SettledUnit) (s t : Stored) (a b : Shown) (c : HasSettled serial outcome reason r clock told s t a b) where
  settle_moves : (tid : Id) (act : Act) (tm : Tm) (v : Settling serial outcome reason r tid act tm s) → Follows tm s → Moves (Settles v.key outcome reason r) tm s t
  settle_moves tid act tm v f = moves_settled tm s t v.key outcome reason r v.branch f v.there
      (c.begun ∙ ap (λ i. without_unit i s.units.begun) (sym v.serial_is))
      (c.log tid act tm v f ∙ ap (λ i. settled_in i r s.units.log) (sym v.serial_is))
      (c.doubt ∙ ap (λ i. without i s.in_doubt) (sym v.serial_is))

  -- what was shown is the settlement of the act
  settle_shows : (tid : Id) (act : Act) (tm : Tm) (v : Settling serial outcome reason r tid act tm s) (n : Node) → SettlesTo outcome reason told t.units t.volume n act → Emits a (settled_line v.key outcome reason (next_moment n) ∷ []) b
  settle_shows tid act tm v n to =
      let e : Some (settlement v.key outcome reason (next_moment n)) ≡ Some (told_settlement outcome reason told) = subst (λ x. settlement_of x (next_moment n) ≡ Some (told_settlement outcome reason told)) v.is to.settled in
      let is : settlement v.key outcome reason (next_moment n) ≡ told_settlement outcome reason told = cc in
      subst (λ (x : Settlement). Emits a (settled_line (child x.tid x.serial) outcome reason x.moment ∷ []) b) (sym is) c.shows

  pub settle_tells : (unit0 : OpenUnit) → unit_of serial s.units.begun ≡ Some unit0 → length s.units.begun ≤ 64 → IsEarlyFor s → IsStill (settled_line (child (tid_of told.tid) (serial_of told.serial)) outcome reason told.moment.0)
      → (tid : Id) (sh : SharedState) → TellsOne done (SettleEffect serial outcome reason r) tid clock s t sh sh a b
  settle_tells unit0 found0 few early still tid sh =
      record {
        stays = stays (Ok tt) 1 clock clock s t c.grows tt (grown_settled clock s t serial unit0 early c.grows c.images few found0 c.begun);
        since = c.since;
        work = work_one sh sh a b (settled_line (child (tid_of told.tid) (serial_of told.serial)) outcome reason told.moment.0) c.shows still.0 (ap (λ (w : List Message). record sh { wire = w }) (sym (still.1 sh.wire)));
        uses = tt;
        leads = λ tm act m. (
            let v = settling serial outcome reason r tid act tm s m in
            let P : Act → Type 0 = λ x. MayDo tid x tm s.units.log → Leads x tm s t in
            let here : MayDo tid (Settles v.key outcome reason r) tm s.units.log → Leads (Settles v.key outcome reason r) tm s t =
            λ may. followed tid (Settles v.key outcome reason r) tm s t m.follows may c.order c.grows.node (settle_moves tid act tm v m.follows) in
            subst P (sym v.is) here m.may);
        does = λ tm act sw n m h share up after. (
            let m' = same_table (SettleEffect serial outcome reason r) tid act tm s clock n h m in
            let v = settling serial outcome reason r tid act (tm_of n) s m' in
            let to = c.acts n act h.kept (asked_of (SettleEffect serial outcome reason r) tid act tm s clock n h m up after) h.clock_is in
            let names : Names (Settles v.key outcome reason r) n s.in_doubt t.in_doubt = subst (λ x. Names (Settles v.key outcome reason r) n s.in_doubt x) (ap (λ i. without i s.in_doubt) v.serial_is ∙ sym c.doubt)
            (names_settled v.key outcome reason r v.branch n s.in_doubt (serials_apart (tm_of n) s m'.follows) v.there h.doubt h.names) in
            did (SettleEffect serial outcome reason r) tid act tm clock s t sw n a b sh h to.done
            (subst (λ x. Names x n s.in_doubt t.in_doubt) (sym v.is) names)
            (subst (λ x. Emits a (shown_by x (next_moment n) n sw) b) (sym v.is) (settle_shows tid act (tm_of n) v n to))
            (subst (λ x. IsShared sh (world.shared_after (Tables x (next_moment n)) sw)) (sym v.is) share));
      }

-- the log after an abort: a branch that was not prepared has no slot
pub aborted_log : (serial : Id) (reason : Reason) (s t : Stored) → IfSome (unit_of serial s.units.begun) (λ u. t.units ≡ aborted u s.units) → (tid : Id) (act : Act) (tm : Tm) → (v : Settling serial Abort reason None tid act tm s) → Follows tm s → t.units.log ≡ settled_in serial None s.units.log
aborted_log serial reason s t units tid act tm v f =
    let became : t.units ≡ aborted v.unit s.units = at_some (λ u. t.units ≡ aborted u s.units) (unit_of serial s.units.begun) v.unit v.found units in
    let own : v.unit.serial ≡ serial = sym v.of.serial ∙ ap (λ (k : Key). k.serial) (found_key v.key tm.table v.branch v.there) ∙ v.serial_is in
    ap (λ (x : UnitsState). x.log) became ∙ go v.unit.prepared refl own
  where
    go : (p : Bool) → v.unit.prepared ≡ p → v.unit.serial ≡ serial → (if p then forgotten v.unit.serial s.units.log else s.units.log) ≡ forgotten serial s.units.log
    go true e own = ap (λ i. forgotten i s.units.log) own
    go false e own = subst (λ i. s.units.log ≡ forgotten i s.units.log) v.serial_is (sym (unlogged tm s.units.log v.key v.branch f.told v.there (v.of.prepared ∙ e)))

pub aborted_begun : (serial : Id) (reason : Reason) (s t : Stored) → IfSome (unit_of serial s.units.begun) (λ u. t.units ≡ aborted u s.units) → (tid : Id) (act : Act) (tm : Tm) → (v : Settling serial Abort reason None tid act tm s) → Follows tm s → t.units.begun ≡ without_unit serial s.units.begun
aborted_begun serial reason s t units tid act tm v f =
    let became : t.units ≡ aborted v.unit s.units = at_some (λ u. t.units ≡ aborted u s.units) (unit_of serial s.units.begun) v.unit v.found units in
    let own : v.unit.serial ≡ serial = sym v.of.serial ∙ ap (λ (k : Key). k.serial) (found_key v.key tm.table v.branch v.there) ∙ v.serial_is in
    ap (λ (x : UnitsState). x.begun) became ∙ ap (λ i. without_unit i s.units.begun) own

-- what writes, by its effect
pub settle_writes : (serial : Id) (outcome : Outcome) (reason : Reason) (r : Option LogRecord) (act : Act) (tm : Tm) → act_effects act tm.records ≡ SettleEffect serial outcome reason r ∷ [] → writes act ≡ true
settle_writes serial outcome reason r act tm e = ap writes (view act tm.records (SettleEffect serial outcome reason r) e).1

pub vote_writes : (serial : Id) (rms : List Name) (act : Act) (tm : Tm) → act_effects act tm.records ≡ PrepareEffect serial rms ∷ [] → writes act ≡ true
vote_writes serial rms act tm e = ap writes (view act tm.records (PrepareEffect serial rms) e).1

records_write : (act : Act) → IsOfRecords act → writes act ≡ true
records_write (Acknowledges k) is = refl
records_write (Releases i x) is = refl
records_write (Notes b) is = absurd is
records_write (Accepts b c) is = absurd is
records_write (Prepares b) is = absurd is
records_write (Settles k o why r) is = absurd is
records_write (Leaves k) is = absurd is
records_write (Undoes k) is = absurd is
records_write (Sends m) is = absurd is
records_write (Prints l) is = absurd is

pub keep_writes : (r : LogRecord) (act : Act) (tm : Tm) → act_effects act tm.records ≡ KeepEffect r ∷ [] → writes act ≡ true
keep_writes r act tm e = records_write act (view act tm.records (KeepEffect r) e)

pub forget_writes : (serial : Id) (act : Act) (tm : Tm) → act_effects act tm.records ≡ ForgetEffect serial ∷ [] → writes act ≡ true
forget_writes serial act tm e = records_write act (view act tm.records (ForgetEffect serial) e)

-- Committed records.

-- what an act on records makes of a table, of those in doubt and of the log, and shows
record_moves : (act : Act) (e : Effect) (tm : Tm) (s t : Stored) → IsOfRecords act → Follows tm s → act_effects act tm.records ≡ e ∷ [] → t.units.begun ≡ s.units.begun → t.units.log ≡ record_effect_in e s.units.log → t.in_doubt ≡ s.in_doubt → Moves act tm s t
record_moves (Acknowledges k) e tm s t is f g us log doubt = record {
  branches = subst (λ z. AreOfBranches z tm.table) (sym us) f.branches;
  log = log ∙ sym (ap (λ es. record_effects_in es s.units.log) g);
  doubt = subst (λ z. AreInDoubt z tm.table) (sym doubt) f.doubt;
}
record_moves (Releases i x) e tm s t is f g us log doubt = record {
  branches = subst (λ z. AreOfBranches z tm.table) (sym us) f.branches;
  log = log ∙ sym (ap (λ es. record_effects_in es s.units.log) g);
  doubt = subst (λ z. AreInDoubt z tm.table) (sym doubt) f.doubt;
}
record_moves (Notes b) e tm s t is f g us log doubt = absurd is
record_moves (Accepts b c) e tm s t is f g us log doubt = absurd is
record_moves (Prepares b) e tm s t is f g us log doubt = absurd is
record_moves (Settles k o why r) e tm s t is f g us log doubt = absurd is
record_moves (Leaves k) e tm s t is f g us log doubt = absurd is
record_moves (Undoes k) e tm s t is f g us log doubt = absurd is
record_moves (Sends m) e tm s t is f g us log doubt = absurd is
record_moves (Prints l) e tm s t is f g us log doubt = absurd is

record_names : (act : Act) (n : Node) (old new : List Id) → IsOfRecords act → unsettled_serials n.volatile.preparation n.volatile.branches ≡ old → NamesPrepared n.volatile.preparation n.volatile.branches → new ≡ old → Names act n old new
record_names (Acknowledges k) n old new is same h q = record { doubt = same ∙ sym q; names = h }
record_names (Releases i x) n old new is same h q = record { doubt = same ∙ sym q; names = h }
record_names (Notes b) n old new is same h q = absurd is
record_names (Accepts b c) n old new is same h q = absurd is
record_names (Prepares b) n old new is same h q = absurd is
record_names (Settles k o why r) n old new is same h q = absurd is
record_names (Leaves k) n old new is same h q = absurd is
record_names (Undoes k) n old new is same h q = absurd is
record_names (Sends m) n old new is same h q = absurd is
record_names (Prints l) n old new is same h q = absurd is

record_shown : (act : Act) (moment : ℕ) (n : Node) (sw : world.Shared) → IsOfRecords act → shown_by act moment n sw ≡ record_lines act n.volatile.records
record_shown (Acknowledges k) moment n sw is = refl
record_shown (Releases i x) moment n sw is = refl
record_shown (Notes b) moment n sw is = absurd is
record_shown (Accepts b c) moment n sw is = absurd is
record_shown (Prepares b) moment n sw is = absurd is
record_shown (Settles k o why r) moment n sw is = absurd is
record_shown (Leaves k) moment n sw is = absurd is
record_shown (Undoes k) moment n sw is = absurd is
record_shown (Sends m) moment n sw is = absurd is
record_shown (Prints l) moment n sw is = absurd is

record_shares : (act : Act) (moment : ℕ) (sh : SharedState) (sw : world.Shared) → IsOfRecords act → IsShared sh sw → IsShared sh (world.shared_after (Tables act moment) sw)
record_shares (Acknowledges k) moment sh sw is h = h
record_shares (Releases i x) moment sh sw is h = h
record_shares (Notes b) moment sh sw is h = absurd is
record_shares (Accepts b c) moment sh sw is h = absurd is
record_shares (Prepares b) moment sh sw is h = absurd is
record_shares (Settles k o why r) moment sh sw is h = absurd is
record_shares (Leaves k) moment sh sw is h = absurd is
record_shares (Undoes k) moment sh sw is h = absurd is
record_shares (Sends m) moment sh sw is h = absurd is
record_shares (Prints l) moment sh sw is h = absurd is

-- what a call for a committed record answered
pub record HasWritten (e : Effect) (s t : Stored) (a b : Shown) : Type 0 where
  pub begun : t.units.begun ≡ s.units.begun
  pub log : t.units.log ≡ record_effect_in e s.units.log
  pub order : IsInOrder t.units t.volume
  pub grows : Grows 0 0 s.volume t.volume
  pub catalog : t.volume.catalog ≡ s.volume.catalog
  pub acts : ForActs e s.units s.volume (Done t.units t.volume)
  pub doubt : t.in_doubt ≡ s.in_doubt
  pub since : Since a b
  pub work : (sh : SharedState) → ShowsWork sh sh a b
  pub of_records : (act : Act) (tm : Tm) → act_effects act tm.records ≡ e ∷ [] → IsOfRecords act
  pub shows : (tid : Id) (act : Act) (tm : Tm) → MayTellOne e tid act tm s → Emits a (record_lines act tm.records) b

pub written_tells : (e : Effect) (s t : Stored) (a b : Shown) → HasWritten e s t a b → (tid : Id) (clock : ℕ) (sh : SharedState) → TellsOne done e tid clock s t sh sh a b
written_tells e s t a b c tid clock sh = record {
  stays = stays (Ok tt) 0 0 clock s t c.grows tt (grown_same clock s t c.catalog c.begun);
  since = c.since;
  work = c.work sh;
  uses = tt;
  leads = λ tm act m. followed tid act tm s t m.follows m.may c.order c.grows.node (record_moves act e tm s t (c.of_records act tm m.gives) m.follows m.gives c.begun c.log c.doubt);
  does = λ tm act sw n m h share up after. (
      let m' = same_table e tid act tm s clock n h m in
      let is = c.of_records act (tm_of n) m'.gives in
      did e tid act tm clock s t sw n a b sh h (c.acts n act h.kept (asked_of e tid act tm s clock n h m up after)) (record_names act n s.in_doubt t.in_doubt is h.doubt h.names c.doubt)
      (subst (λ ls. Emits a ls b) (sym (record_shown act (next_moment n) n sw is)) (c.shows tid act (tm_of n) m')) (record_shares act (next_moment n) sh sw is share));
}

-- a record that is kept is there, in its form
pub record Keepable (r : LogRecord) (s : Stored) : Type 0 where
  pub form : HasForm r.kind r.waiting r.rms
  pub there : has_slot r.serial s.units.log ≡ true

pub keepable : (r : LogRecord) (tid : Id) (act : Act) (tm : Tm) (s : Stored) → MayTellOne (KeepEffect r) tid act tm s → Keepable r s
keepable r tid act tm s m =
    let law : AllLawful tm.records (KeepEffect r ∷ []) = subst (λ es. AllLawful tm.records es) m.gives m.may.lawful in
    record { form = form_within r law.0.0; there = subst (λ i. has_slot i s.units.log ≡ true) law.0.1.2 (logged_slot tm s.units.log law.0.1.0 m.follows.told law.0.1.1).0 }

-- a record that goes is there
pub goes_there : (serial : Id) (tid : Id) (act : Act) (tm : Tm) (s : Stored) → MayTellOne (ForgetEffect serial) tid act tm s → (q : LogRecord) × In q tm.records × (record_with serial s.units.log ≡ Some q) × (record_lines act tm.records ≡ line.Forgot q.tid serial ∷ [])
goes_there serial tid act tm s m =
    let f = shows_forgotten act tm.records serial m.gives in
    (f.0, f.1, subst (λ i. record_with i s.units.log ≡ Some f.0) f.2 (logged_slot tm s.units.log f.0 m.follows.told f.1).1, f.3)

-- a unit that is there
pub is_there : (o : Option OpenUnit) (u : OpenUnit) → o ≡ Some u → IsSome o
is_there o u e = ap is_some e

pub holds_there : (P : OpenUnit → Type 0) (o : Option OpenUnit) (u : OpenUnit) → o ≡ Some u → P u → IfSome o P
holds_there P o u e p = subst (λ (x : Option OpenUnit). IfSome x P) (sym e) p

-- a unit that is there has begun
pub has_begun : (serial : Id) (s : UnitsState) (u : OpenUnit) → unit_of serial s.begun ≡ Some u → is_begun serial s ≡ true
has_begun serial s u e = go s.begun e
  where
    go : (us : List OpenUnit) → unit_of serial us ≡ Some u → is_begun serial (record s { begun = us }) ≡ true
    go [] f = absurd (let g : None ≡ Some u = f in cc)
    go (x ∷ us) f = by (same_id serial x.serial) refl (go us)
      where
        by : (t : Bool) → same_id serial x.serial ≡ t → (unit_of serial us ≡ Some u → is_begun serial (record s { begun = us }) ≡ true) → is_begun serial (record s { begun = x ∷ us }) ≡ true
        by true q more = rw q refl
        by false q more = (let f' : unit_of serial us ≡ Some u = rw q at f in rw q (more f'))

-- a record that is there
pub record_there : (o : Option LogRecord) (r : LogRecord) → o ≡ Some r → IsSome o
record_there o r e = ap is_some e

pub forget_tells : (serial told : Id) (s t : Stored) (a b : Shown) → t.units ≡ record s.units { log = forgotten serial s.units.log } → IfSome (record_with serial s.units.log) (λ r. told ≡ r.tid) → IsInOrder t.units t.volume → Grows 0 0 s.volume t.volume → t.volume.catalog ≡ s.volume.catalog
    → ForActs (ForgetEffect serial) s.units s.volume (Done t.units t.volume) → t.in_doubt ≡ s.in_doubt → Since a b → Emits a (line.Forgot told serial ∷ []) b → (tid : Id) (clock : ℕ) (sh : SharedState) → TellsOne done (ForgetEffect serial) tid clock s t sh sh a b
forget_tells serial told s t a b units tids order grows catalog acts doubt since shows = λ tid clock sh. written_tells (ForgetEffect serial) s t a b (record {
  begun = ap (λ (x : UnitsState). x.begun) units;
  log = ap (λ (x : UnitsState). x.log) units;
  order = order;
  grows = grows;
  catalog = catalog;
  acts = acts;
  doubt = doubt;
  since = since;
  work = λ z. work_one z z a b (line.Forgot told serial) shows refl refl;
  of_records = λ act tm e. view act tm.records (ForgetEffect serial) e;
  shows = λ i act tm m. (
      let f = goes_there serial i act tm s m in
      let is : told ≡ f.0.tid = there (record_with serial s.units.log) f.0 f.2 tids in
      subst (λ ls. Emits a ls b) (sym f.3) (subst (λ z. Emits a (line.Forgot z serial ∷ []) b) is shows));
}) tid clock sh
  where
    there : (o : Option LogRecord) (r : LogRecord) → o ≡ Some r → IfSome o (λ q. told ≡ q.tid) → told ≡ r.tid
    there o r e h = let h' : IfSome (Some r) (λ (q : LogRecord). told ≡ q.tid) = subst (λ (x : Option LogRecord). IfSome x (λ q. told ≡ q.tid)) e h in h'

-- by what the call for a record with less to wait for answered
pub keep_tells : (q : Result (Unit {0}) Down) (r : LogRecord) (s t : Stored) → OnOk q (t.units ≡ record s.units { log = put_in r s.units.log }) → OnOk q (IsInOrder t.units t.volume) → Grows 0 0 s.volume t.volume → Caused (down_of q) s.volume.store.disk t.volume.store.disk → OnOk q (t.volume.catalog ≡ s.volume.catalog)
    → OnOk q (ForActs (KeepEffect r) s.units s.volume (Done t.units t.volume)) → OnErr q (ForActs (KeepEffect r) s.units s.volume (Broken t.volume)) → t.in_doubt ≡ s.in_doubt → (tid : Id) (clock : ℕ) (sh : SharedState) (a : Shown) → TellsOne q (KeepEffect r) tid clock s t sh sh a a
keep_tells (Ok v) r s t units order grows cause catalog acts broken doubt tid clock sh a = written_tells (KeepEffect r) s t a a (record {
  begun = ap (λ (x : UnitsState). x.begun) units;
  log = ap (λ (x : UnitsState). x.log) units;
  order = order;
  grows = grows;
  catalog = catalog;
  acts = acts;
  doubt = doubt;
  since = since_same a;
  work = λ z. work_none z a a (emits_nothing a);
  of_records = λ act tm e. view act tm.records (KeepEffect r) e;
  shows = λ i act tm m. subst (λ ls. Emits a ls a) (sym (shows_kept act tm.records r m.gives)) (emits_nothing a);
}) tid clock sh
keep_tells (Err d) r s t units order grows cause catalog acts broken doubt tid clock sh a = down_tells d (KeepEffect r) s t 0 0 grows cause (keep_writes r) refl clock (λ n act kept may at. broken n act kept may) tid a a (emits_nothing a) (since_same a) sh

-- the record that is written with a commitment, where one is
pub may_log_if : (serial : Id) (outcome : Outcome) (reason : Reason) (r : Option LogRecord) (tid : Id) (act : Act) (tm : Tm) (s : Stored) → MayTellOne (SettleEffect serial outcome reason r) tid act tm s → IfSome r (λ q. MayLog serial q s.units.log)
may_log_if serial outcome reason None tid act tm s m = tt
may_log_if serial outcome reason (Some r) tid act tm s m = may_log serial outcome reason r tid act tm s m

-- A commitment, by what its call answered,
pub committed_tells : (serial : Id) (reason : Reason) (r : Option LogRecord) (clock : ℕ) (told : SettledUnit) (s t : Stored) (a b : Shown) → t.units ≡ committed serial r s.units → IsInOrder t.units t.volume → Grows 1 clock s.volume t.volume → ImagesGrow s.volume t.volume → SettlesOk serial Commit reason r clock told s.units s.volume t.units t.volume
    → t.in_doubt ≡ without serial s.in_doubt → Since a b → Emits a (line.Committed (tid_of told.tid) (serial_of told.serial) told.moment.0 ∷ []) b → (unit0 : OpenUnit) → unit_of serial s.units.begun ≡ Some unit0 → length s.units.begun ≤ 64 → IsEarlyFor s
    → (tid : Id) (sh : SharedState) → TellsOne done (SettleEffect serial Commit reason r) tid clock s t sh sh a b
committed_tells serial reason r clock told s t a b units order grows images acts doubt since shows unit0 found0 few early tid sh = settle_tells serial Commit reason r clock told s t a b (record {
  begun = ap (λ (x : UnitsState). x.begun) units;
  log = λ i act tm v f. ap (λ (x : UnitsState). x.log) units;
  order = order;
  grows = grows;
  images = images;
  acts = acts;
  doubt = doubt;
  since = since;
  shows = shows;
}) unit0 found0 few early (refl, λ w. refl) tid sh

-- and an abort.
pub aborted_tells : (serial : Id) (reason : Reason) (clock : ℕ) (told : SettledUnit) (s t : Stored) (a b : Shown) → IfSome (unit_of serial s.units.begun) (λ u. t.units ≡ aborted u s.units) → IsInOrder t.units t.volume → Grows 1 clock s.volume t.volume → ImagesGrow s.volume t.volume → SettlesOk serial Abort reason None clock told s.units s.volume t.units t.volume
    → t.in_doubt ≡ without serial s.in_doubt → Since a b → Emits a (line.Aborted (tid_of told.tid) (serial_of told.serial) reason told.moment.0 ∷ []) b → (tid0 : Id) (act0 : Act) (tm0 : Tm) → MayTellOne (SettleEffect serial Abort reason None) tid0 act0 tm0 s → IsEarlyFor s
    → (tid : Id) (sh : SharedState) → TellsOne done (SettleEffect serial Abort reason None) tid clock s t sh sh a b
aborted_tells serial reason clock told s t a b units order grows images acts doubt since shows tid0 act0 tm0 m0 early tid sh =
    let v0 = settling serial Abort reason None tid0 act0 tm0 s m0 in
    settle_tells serial Abort reason None clock told s t a b (record {
      begun = aborted_begun serial reason s t units tid0 act0 tm0 v0 m0.follows;
      log = λ i act tm v f. aborted_log serial reason s t units i act tm v f;
      order = order;
      grows = grows;
      images = images;
      acts = acts;
      doubt = doubt;
      since = since;
      shows = shows;
    }) v0.unit v0.found m0.follows.order.few early (refl, λ w. refl) tid sh

-- An abort writes no record.
pub no_record : (serial : Id) (reason : Reason) (r : Option LogRecord) (tid : Id) (act : Act) (tm : Tm) (s : Stored) → MayTellOne (SettleEffect serial Abort reason r) tid act tm s → r ≡ None
no_record serial reason None tid act tm s m = refl
no_record serial reason (Some r) tid act tm s m =
    let v = view act tm.records (SettleEffect serial Abort reason (Some r)) m.gives in
    let may : MayDo tid (Settles v.0 Abort reason (Some r)) tm s.units.log = subst (λ x. MayDo tid x tm s.units.log) v.1 m.may in
    let law : IsLawful tm.records (SettleEffect v.0.serial Abort reason (Some r)) = may.lawful.0 in
    let e : Abort ≡ Commit = law.0 in
    absurd (let f : ⊥ = cc in f)

pub aborts_without : (serial : Id) (reason : Reason) (r : Option LogRecord) (tid : Id) (act : Act) (tm : Tm) (s : Stored) → MayTellOne (SettleEffect serial Abort reason r) tid act tm s → MayTellOne (SettleEffect serial Abort reason None) tid act tm s
aborts_without serial reason r tid act tm s m = subst (λ x. MayTellOne (SettleEffect serial Abort reason x) tid act tm s) (no_record serial reason r tid act tm s m) m

-- and so its telling is one without
pub abort_told : {T : Type 0} (q : Result T Down) (serial : Id) (reason : Reason) (r : Option LogRecord) (tid : Id) (clock : ℕ) (s t : Stored) (x y : SharedState) (a b : Shown) → r ≡ None → TellsOne q (SettleEffect serial Abort reason None) tid clock s t x y a b → TellsOne q (SettleEffect serial Abort reason r) tid clock s t x y a b
abort_told q serial reason r tid clock s t x y a b e h = subst (λ z. TellsOne q (SettleEffect serial Abort reason z) tid clock s t x y a b) (sym e) h
