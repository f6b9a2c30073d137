-- What an effect of a row comes to, by what its call answered.
use Rattle.std.proofs.Common.{◌≡◌, ◌+◌, ℕ, Bool, true, false, List, [], ◌∷◌, ◌++◌, Option, Some, None, refl, ap, sym, subst, ◌∙◌, length}
use Rattle.std.specs.Prelude.{IfSome, ◌==◌, nat_lt, if◌then◌else◌}
use Rattle.std.proofs.lemmas.Bool.{eq-eqb}
use Rattle.vms_model.specs.Limits.{message_limit}
use Rattle.net_wire.specs.commit_protocol.Agreement.{Distinct}
use Rattle.net_wire.specs.commit_protocol.Effects.{Effect, SendEffect, TellEffect, JoinedEffect, StartedEffect, EndedEffect}
use Rattle.net_wire.specs.commit_protocol.Messages.{Message, Name, RmEvent}
use Rattle.net_wire.specs.commit_protocol.Standing.{writes}
use Rattle.net_wire.specs.commit_protocol.Table.{Act, Accepts, Acknowledges, Key, Leaves, Notes, Prepares, Prints, Releases, Sends, Settles, Started, Tm, Undoes, after_act, branch_serials}
use Rattle.row_laws.specs.run_model.Answers.{sent_line, shown_by}
use Rattle.row_laws.specs.run_model.World as world
use Rattle.row_laws.specs.run_model.World.{Node, Tables, acted, fallen, next_moment, posted, settlement, settlement_of, shared_after, tm_of}
use Rattle.run_shared.specs.Sharing.{IsShared, SharedState}
use Rattle.row_laws.specs.May.{MayDo}
use Rattle.emitter_model.specs.Emitting.{Emits, Shown, Since}
use Rattle.emitter_model.specs.transcript_model.Lines as line
use Rattle.emitter_model.specs.transcript_model.Lines.{Line}
use Rattle.vms_model.specs.Ids.{Id}
use Rattle.vms_model.specs.Transactions.{Reason}
use Rattle.volume.specs.State.{VolumeState}
use Rattle.recovery_units.specs.volume_model.Volumes.{HasDisk}
use Rattle.recovery_units.specs.world_laws.Nodes as laws
use Rattle.recovery_units.specs.Calls as calls
use Rattle.recovery_units.specs.Calls.{ForActs, Done, Broken}
use Rattle.recovery_units.specs.Laws.{KeepsNodes}
use Rattle.recovery_units.specs.State.{IsKept}
use Rattle.node_table.specs.Growing.{Stays}
use Rattle.node_table.specs.Standing.{Follows, HasDeclared, Stored, StoredRepresents}
use Rattle.node_table.specs.Telling.{DidOne, IsOfWork, MayTellOne, ShowsWork, TellsOne, TellsOneWith, WentDownIn, done, event_lines, wire_behind}
use Rattle.participants.specs.Refusing.{is_among}
use Rattle.node_table.proofs.Acting.{IsQuiet, Names, followed, moves_quiet, names_quiet, serials_apart, stood}
use Rattle.node_table.proofs.Viewing.{view}

-- a fact of a unit that is there
pub at_some : {A : Type 0} (P : A → Type 0) (o : Option A) (x : A) → o ≡ Some x → IfSome o P → P x
at_some P o x e h = let h' : IfSome (Some x) P = subst (λ y. IfSome y P) e h in h'

-- the table of a node of the world that stands for it
pub same_table : (e : Effect) (tid : Id) (act : Act) (tm : Tm) (s : Stored) (clock : ℕ) (n : Node) → StoredRepresents clock s tm n → MayTellOne e tid act tm s → MayTellOne e tid act (tm_of n) s
same_table e tid act tm s clock n h m = subst (λ x. MayTellOne e tid act x s) (sym h.table) m

-- what units ask of a node and its act
pub asked_of : (e : Effect) (tid : Id) (act : Act) (tm : Tm) (s : Stored) (clock : ℕ) (n : Node) → StoredRepresents clock s tm n → MayTellOne e tid act tm s → laws.IsUp n → laws.IsUp (acted (Tables act (next_moment n)) n) → calls.MayDo n act e
asked_of e tid act tm s clock n h m up after = let w = same_table e tid act tm s clock n h m in record { up = up; gives = w.gives; stands = w.may.stands; after = after }

-- Done, and shown.

pub did : (e : Effect) (tid : Id) (act : Act) (tm : Tm) (clock : ℕ) (s t : Stored) (sw : world.Shared) (n : Node) (a b : Shown) (sh : SharedState) → StoredRepresents clock s tm n → IsKept t.units t.volume (acted (Tables act (next_moment n)) n) → Names act n s.in_doubt t.in_doubt
    → Emits a (shown_by act (next_moment n) n sw) b → IsShared sh (shared_after (Tables act (next_moment n)) sw) → DidOne act sw n a b sh (StoredRepresents clock t (after_act act tm))
did e tid act tm clock s t sw n a b sh h kept names shows shares = record { shows = shows; shares = shares; node = stood clock (next_moment n) act tm s t n h kept names }

-- the serials of a node's branches differ
apart_at : (tm : Tm) (s : Stored) (clock : ℕ) (n : Node) → StoredRepresents clock s tm n → Follows tm s → Distinct (branch_serials n.volatile.branches)
apart_at tm s clock n h f = serials_apart (tm_of n) s (subst (λ x. Follows x s) (sym h.table) f)

-- one line that shows no failure
pub work_one : (x y : SharedState) (a b : Shown) (l : Line) → Emits a (l ∷ []) b → IsOfWork l → y ≡ record x { wire = wire_behind l x.wire } → ShowsWork x y a b
work_one x y a b l m w s = record { lines = l ∷ []; emits = m; work = (w, tt); shared = s }

pub work_none : (x : SharedState) (a b : Shown) → Emits a [] b → ShowsWork x x a b
work_none x a b m = record { lines = []; emits = m; work = tt; shared = refl }

-- what nodes share is as it was, but for what promises alone speak of
shares_quiet : (act : Act) (moment : ℕ) (sh : SharedState) (sw : world.Shared) → IsShared sh sw → ((m : Message) → act ≡ Sends m → ⊥) → IsShared sh (shared_after (Tables act moment) sw)
shares_quiet (Notes b) moment sh sw h not_sent = h
shares_quiet (Accepts b c) moment sh sw h not_sent = record { labels = h.labels; in_use = h.in_use; wire = h.wire }
shares_quiet (Prepares b) moment sh sw h not_sent = h
shares_quiet (Settles k o why r) moment sh sw h not_sent = h
shares_quiet (Leaves k) moment sh sw h not_sent = record { labels = h.labels; in_use = h.in_use; wire = h.wire }
shares_quiet (Acknowledges k) moment sh sw h not_sent = h
shares_quiet (Releases i x) moment sh sw h not_sent = h
shares_quiet (Undoes k) moment sh sw h not_sent = h
shares_quiet (Sends m) moment sh sw h not_sent = absurd (not_sent m refl)
shares_quiet (Prints l) moment sh sw h not_sent = h

-- The disk went down: an act that writes may be under way.
pub broke : (act : Act) (sw : world.Shared) (n : Node) (a b : Shown) (sh : SharedState) (w : VolumeState) → Emits a [] b → IsShared sh sw → writes act ≡ true → Broken w n act → WentDownIn act sw n a b sh w.store.disk
broke act sw n a b sh w shows shares writes_it disk = record {
  shows = shows;
  shares = shares;
  disk = (let P : Bool → Type 0 = λ t. HasDisk (fallen (if t then Some (Tables act (next_moment n)) else None) n) w.store.disk in subst P (sym writes_it) disk);
}

-- Effects that leave the units as they are.

writes_not : (act : Act) → IsQuiet act → writes act ≡ false
writes_not (Notes b) is = refl
writes_not (Accepts b c) is = refl
writes_not (Sends m) is = refl
writes_not (Prints l) is = refl
writes_not (Prepares b) is = absurd is
writes_not (Settles k o why r) is = absurd is
writes_not (Leaves k) is = absurd is
writes_not (Acknowledges k) is = absurd is
writes_not (Releases i x) is = absurd is
writes_not (Undoes k) is = absurd is

leaves_not : (act : Act) → IsQuiet act → (k : Key) → act ≡ Leaves k → ⊥
leaves_not act is k q = let f : IsQuiet (Leaves k) = subst IsQuiet q is in f

pub quiet_tells : (laws_hold : KeepsNodes) (e : Effect) (tid : Id) (clock : ℕ) (s : Stored) (sh : SharedState) (after_sh : SharedState) (a b : Shown) → Stays done clock s s → Since a b → ShowsWork sh after_sh a b
    → ((act : Act) (tm : Tm) → MayTellOne e tid act tm s → IsQuiet act)
    → ((act : Act) (tm : Tm) (n : Node) (sw : world.Shared) (moment : ℕ) → MayTellOne e tid act tm s → IsShared sh sw → Emits a (shown_by act moment n sw) b × IsShared after_sh (shared_after (Tables act moment) sw))
    → TellsOne done e tid clock s s sh after_sh a b
quiet_tells laws_hold e tid clock s sh after_sh a b stays since work quiet shows = record {
  stays = stays;
  since = since;
  work = work;
  uses = tt;
  leads = λ tm act m. followed tid act tm s s m.follows m.may m.follows.order refl (moves_quiet act tm s m.follows (quiet act tm m) m.may.stands);
  does = λ tm act sw n m h share up after.
      let w = same_table e tid act tm s clock n h m in
      let is = quiet act tm m in
      let r = shows act tm n sw (next_moment n) m share in
      did e tid act tm clock s s sw n a b after_sh h (laws_hold.tables s.units s.volume n act (next_moment n) h.kept (writes_not act is) (leaves_not act is) w.may.stands)
      (names_quiet act n s.in_doubt (apart_at tm s clock n h m.follows) is w.may.stands h.doubt h.names) r.0 r.1;
}

-- a message that is sent is shown so
sent_work : (m : Message) (wire : List Message) → IsOfWork (sent_line m wire)
sent_work m wire = go (nat_lt (length wire) message_limit)
  where
    go : (t : Bool) → IsOfWork (if t then line.Sent (length wire + 1) m else line.Unsent m)
    go true = refl
    go false = refl

sent_posts : (m : Message) (wire : List Message) → wire_behind (sent_line m wire) wire ≡ posted m wire
sent_posts m wire = go (nat_lt (length wire) message_limit)
  where
    go : (t : Bool) → wire_behind (if t then line.Sent (length wire + 1) m else line.Unsent m) wire ≡ (if t then wire ++ m ∷ [] else wire)
    go true = let e : (length wire + 1 == length wire + 1) ≡ true = eq-eqb (length wire + 1) (length wire + 1) refl in rw e refl
    go false = refl

module _ (laws_hold : KeepsNodes) (tid : Id) (clock : ℕ) (s : Stored) (sh : SharedState) (a b : Shown) (stays : Stays done clock s s) (since : Since a b) where
  pub joined_tells : (serial : Id) → Emits a (line.Joined tid serial ∷ []) b → TellsOne done (JoinedEffect serial) tid clock s s sh sh a b
  joined_tells serial shows = quiet_tells laws_hold (JoinedEffect serial) tid clock s sh sh a b stays since (work_one sh sh a b (line.Joined tid serial) shows refl refl)
      (λ act tm m. let v = view act tm.records (JoinedEffect serial) m.gives in subst IsQuiet (sym v.2) tt)
      (λ act tm n sw moment m share.
      let v = view act tm.records (JoinedEffect serial) m.gives in
      let named : v.0.key.tid ≡ tid = (let f : MayDo tid (Accepts v.0 v.1) tm s.units.log = subst (λ x. MayDo tid x tm s.units.log) v.2 m.may in f.named) in
      let P : Act → Type 0 = λ x. Emits a (shown_by x moment n sw) b × IsShared sh (shared_after (Tables x moment) sw) in
      subst P (sym v.2) (subst (λ t. Emits a (line.Joined t v.1.serial ∷ []) b) (sym named) (subst (λ i. Emits a (line.Joined tid i ∷ []) b) (sym v.3) shows), record { labels = share.labels; in_use = share.in_use; wire = share.wire }))

  pub started_tells : (serial : Id) → Emits a (line.Started tid serial ∷ []) b → TellsOne done (StartedEffect serial) tid clock s s sh sh a b
  started_tells serial shows = quiet_tells laws_hold (StartedEffect serial) tid clock s sh sh a b stays since (work_one sh sh a b (line.Started tid serial) shows refl refl)
      (λ act tm m. let v = view act tm.records (StartedEffect serial) m.gives in subst IsQuiet (sym v.1) tt)
      (λ act tm n sw moment m share.
      let v = view act tm.records (StartedEffect serial) m.gives in
      let named : v.0.tid ≡ tid = (let f : MayDo tid (Prints (Started v.0)) tm s.units.log = subst (λ x. MayDo tid x tm s.units.log) v.1 m.may in f.named) in
      let P : Act → Type 0 = λ x. Emits a (shown_by x moment n sw) b × IsShared sh (shared_after (Tables x moment) sw) in
      subst P (sym v.1) (subst (λ t. Emits a (line.Started t v.0.serial ∷ []) b) (sym named) (subst (λ i. Emits a (line.Started tid i ∷ []) b) (sym v.2) shows), share))

  pub ended_tells : (t : Id) (reason : Option Reason) → Emits a (line.Ended t reason ∷ []) b → TellsOne done (EndedEffect t reason) tid clock s s sh sh a b
  ended_tells t reason shows = quiet_tells laws_hold (EndedEffect t reason) tid clock s sh sh a b stays since (work_one sh sh a b (line.Ended t reason) shows refl refl)
      (λ act tm m. subst IsQuiet (sym (view act tm.records (EndedEffect t reason) m.gives)) tt)
      (λ act tm n sw moment m share. let P : Act → Type 0 = λ x. Emits a (shown_by x moment n sw) b × IsShared sh (shared_after (Tables x moment) sw) in subst P (sym (view act tm.records (EndedEffect t reason) m.gives)) (shows, share))

  -- an event to a manager is shown where it is declared
  pub told_tells : (rms : List Name) (event : RmEvent) (t serial : Id) (rm : Name) → Emits a (event_lines rms event t serial rm) b → TellsOneWith rms done (TellEffect event t serial rm) tid clock s s sh sh a b
  told_tells rms event t serial rm shows = record {
    stays = stays;
    since = since;
    work = event_work (is_among rm rms) shows;
    uses = tt;
    leads = λ tm act m. followed tid act tm s s m.follows m.may m.follows.order refl (moves_quiet act tm s m.follows (quiet act tm m) m.may.stands);
    does = λ tm act sw n declared m h share up after.
        let w = same_table (TellEffect event t serial rm) tid act tm s clock n h m in
        let is = quiet act tm m in
        did (TellEffect event t serial rm) tid act tm clock s s sw n a b sh h (laws_hold.tables s.units s.volume n act (next_moment n) h.kept (writes_not act is) (leaves_not act is) w.may.stands)
        (names_quiet act n s.in_doubt (apart_at tm s clock n h m.follows) is w.may.stands h.doubt h.names)
        (shown_here act tm n sw m declared) (shared_here act tm n sw m share);
  }
    where
      quiet : (act : Act) (tm : Tm) → MayTellOne (TellEffect event t serial rm) tid act tm s → IsQuiet act
      quiet act tm m = subst IsQuiet (sym (view act tm.records (TellEffect event t serial rm) m.gives)) tt

      event_work : (known : Bool) → Emits a (if known then line.ManagerTold event t serial rm ∷ [] else []) b → ShowsWork sh sh a b
      event_work true e = work_one sh sh a b (line.ManagerTold event t serial rm) e refl refl
      event_work false e = work_none sh a b e

      shown_here : (act : Act) (tm : Tm) (n : Node) (sw : world.Shared) → MayTellOne (TellEffect event t serial rm) tid act tm s → HasDeclared rms n → Emits a (shown_by act (next_moment n) n sw) b
      shown_here act tm n sw m declared =
          let P : Act → Type 0 = λ x. Emits a (shown_by x (next_moment n) n sw) b in
          subst P (sym (view act tm.records (TellEffect event t serial rm) m.gives)) (subst (λ (known : List Name). Emits a (event_lines known event t serial rm) b) (sym declared) shows)

      shared_here : (act : Act) (tm : Tm) (n : Node) (sw : world.Shared) → MayTellOne (TellEffect event t serial rm) tid act tm s → IsShared sh sw → IsShared sh (shared_after (Tables act (next_moment n)) sw)
      shared_here act tm n sw m share = let P : Act → Type 0 = λ x. IsShared sh (shared_after (Tables x (next_moment n)) sw) in subst P (sym (view act tm.records (TellEffect event t serial rm) m.gives)) share

  pub sent_tells : (m : Message) (after_sh : SharedState) → after_sh ≡ record sh { wire = posted m sh.wire } → Emits a (sent_line m sh.wire ∷ []) b → TellsOne done (SendEffect m) tid clock s s sh after_sh a b
  sent_tells m after_sh posts shows = quiet_tells laws_hold (SendEffect m) tid clock s sh after_sh a b stays since (work_one sh after_sh a b (sent_line m sh.wire) shows (sent_work m sh.wire) (posts ∙ ap (λ (w : List Message). record sh { wire = w }) (sym (sent_posts m sh.wire))))
      (λ act tm may. subst IsQuiet (sym (view act tm.records (SendEffect m) may.gives)) tt)
      (λ act tm n sw moment may share.
      let P : Act → Type 0 = λ x. Emits a (shown_by x moment n sw) b × IsShared after_sh (shared_after (Tables x moment) sw) in
      subst P (sym (view act tm.records (SendEffect m) may.gives)) (
        subst (λ w. Emits a (sent_line m w ∷ []) b) (sym share.wire) shows,
        subst (λ z. IsShared z (record sw { wire = posted m sw.wire })) (sym posts) (record { labels = share.labels; in_use = share.in_use; wire = ap (posted m) share.wire }),
      ))
