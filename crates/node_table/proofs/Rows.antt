-- The effects of a row, one after another: acts that have none are passed.
use Rattle.std.proofs.Common.{◌≡◌, ◌≤◌, ◌<◌, ◌+◌, ℕ, suc, Bool, true, false, List, [], ◌∷◌, ◌++◌, Option, Some, None, Result, Ok, Err, refl, ap, sym, subst, ◌∙◌, length, map, take, drop, get_or, ◌-◌, arith}
use Rattle.std.specs.Prelude.{OnErr, OnOk, ◌||◌}
use Rattle.std.specs.List.{list_any}
use Rattle.tm_types.specs.Effects.{effect_of}
use Rattle.tm_types.specs.declared.effects.Effect.{Effect as EffectSaid}
use Rattle.std.proofs.Math.Seq.{take-length}
use Rattle.std.proofs.lemmas.List.{append-nil}
use Rattle.std.specs.List.{AllByRecursion}
use Rattle.block_disk.specs.Disk.{DiskState}
use Rattle.careful_write.specs.declared.down.Down.{Down}
use Rattle.careful_write.specs.declared.down.Down.TheVariants as down
use Rattle.net_wire.specs.commit_protocol.Effects.{Effect, act_effects, effects_of}
use Rattle.net_wire.specs.commit_protocol.Messages.{LogRecord, Message, Name}
use Rattle.net_wire.specs.commit_protocol.Table.{Act, Accepts, Acknowledges, Branch, Leaves, Notes, Prepares, Prints, Releases, Sends, Settles, Tm, Undoes, after, after_act, acknowledge, records_after, release}
use Rattle.net_wire.specs.commit_protocol.Table as table
use Rattle.row_laws.specs.log_laws.Handing.{HandsOn, records_after_all}
use Rattle.row_laws.specs.log_laws.Slots.{record_effects_in}
use Rattle.row_laws.proofs.log_laws.HandingOn.{effects_are_acts}
use Rattle.row_laws.specs.run_model.Answers.{Row, shown_by, table_rows}
use Rattle.row_laws.specs.run_model.World as world
use Rattle.row_laws.specs.run_model.World.{Node, Tables, acted, next_moment, shared_after, tm_of}
use Rattle.run_shared.specs.Sharing.{IsShared, SharedState}
use Rattle.row_laws.specs.Doing.{DoesRows}
use Rattle.row_laws.specs.May.{MayDo, MayDoAll}
use Rattle.row_laws.proofs.Composing.{did_none, does_more, down_first}
use Rattle.emitter_model.specs.Emitting.{Emits, Shown}
use Rattle.emitter_model.specs.transcript_model.Lines.{Line}
use Rattle.emitter_model.proofs.EmittingLemmas.{emits_nothing, emits_on, since_on, since_same}
use Rattle.emitter_model.proofs.transcript_model.OutsideLemmas.{rose_earlier}
use Rattle.vms_model.specs.Ids.{Id}
use Rattle.recovery_units.specs.volume_model.Volumes.{HasDisk}
use Rattle.recovery_units.specs.world_laws.Nodes as laws
use Rattle.recovery_units.specs.world_laws.Nodes.{AreUp}
use Rattle.recovery_units.specs.Laws.{KeepsNodes}
use Rattle.recovery_units.specs.Uses.{Caused, DiskAdvances, down_of}
use Rattle.node_table.specs.Growing.{Grown, IsEarlyFor, Stays}
use Rattle.node_table.specs.Standing.{Follows, HasDeclared, Stored, StoredRepresents}
use Rattle.node_table.specs.Telling.{DidOne, IsOfWork, Leads, MayTellAll, MayTellOne, ShowsWork, TellsAll, TellsOne, TellsOneWith, WentDownIn, done, uses_disk, wire_after, wire_behind}
use Rattle.node_table.proofs.Acting.{Moves, followed, moves_note, names_quiet, serials_apart, stood}
use Rattle.node_table.proofs.Telling.{work_none}
use Rattle.node_table.proofs.Viewing.{acknowledge_still, release_still}

-- Calls, one after another.

pub goes_same : (d : DiskState) → DiskAdvances d d
goes_same d = record { size = refl; calls = refl; faults = λ h. omega arith; stops = λ h. omega arith; counted = λ h. h; told = refl }

pub goes_on : (a b c : DiskState) → DiskAdvances a b → DiskAdvances b c → DiskAdvances a c
goes_on a b c f g = record {
  size = g.size ∙ f.size;
  calls = g.calls ∙ f.calls;
  faults = λ h. (let x = f.faults h in let y = g.faults (f.counted h) in omega arith);
  stops = λ h. (let x = f.stops h in let y = g.stops (f.counted h) in omega arith);
  counted = λ h. g.counted (f.counted h);
  told = g.told ∙ f.told;
}

caused_on : (d : Option Down) (a b c : DiskState) → DiskAdvances a b → Caused d b c → Caused d a c
caused_on None a b c f h = tt
caused_on (Some down.Failed) a b c f h = λ counted. rose_earlier a.faults b.faults c.faults (f.faults counted) (h (f.counted counted))
caused_on (Some down.Stopped) a b c f h = λ counted. rose_earlier a.stops b.stops c.stops (f.stops counted) (h (f.counted counted))

grown_on : {T : Type 0} (r : Result T Down) (clock : ℕ) (s t u : Stored) → Grown clock s t → OnOk r (Grown clock t u) → OnOk r (Grown clock s u)
grown_on (Ok x) clock s t u g h = (
    let a = g.moment in
    let b = h.moment in
    let c = g.end in
    let d = h.end in
    record { moment = omega arith; end = omega arith }
    )
grown_on (Err e) clock s t u g h = tt

pub stays_on : {T : Type 0} (r : Result T Down) (clock : ℕ) (s t u : Stored) → Stays done clock s t → Stays r clock t u → Stays r clock s u
stays_on r clock s t u f g = record {
  goes = goes_on s.volume.store.disk t.volume.store.disk u.volume.store.disk f.goes g.goes;
  cause = caused_on (down_of r) s.volume.store.disk t.volume.store.disk u.volume.store.disk f.goes g.cause;
  pool = g.pool ∙ f.pool;
  node = g.node ∙ f.node;
  boot = g.boot ∙ f.boot;
  grown = grown_on r clock s t u f.grown g.grown;
}

pub stays_same : (clock : ℕ) (s : Stored) → Stays done clock s s
stays_same clock s = record { goes = goes_same s.volume.store.disk; cause = tt; pool = refl; node = refl; boot = refl; grown = record { moment = omega arith; end = omega arith } }

-- numbers are as early behind a call
pub early_on : (clock : ℕ) (s t : Stored) → clock + 64 ≤ 24000001000066 → IsEarlyFor s → Grown clock s t → IsEarlyFor t
early_on clock s t c h g =
    let a = g.moment in
    let b = h.moment in
    let d = g.end in
    let e = h.low in
    record { moment = omega arith; low = omega arith }

all_on : (P : Line → Type 0) (xs ys : List Line) → AllByRecursion P xs → AllByRecursion P ys → AllByRecursion P (xs ++ ys)
all_on P [] ys h k = k
all_on P (x ∷ xs) ys h k = (h.0, all_on P xs ys h.1 k)

wire_on : (ls ms : List Line) (wire : List Message) → wire_after (ls ++ ms) wire ≡ wire_after ms (wire_after ls wire)
wire_on [] ms wire = refl
wire_on (l ∷ ls) ms wire = wire_on ls ms (wire_behind l wire)

pub work_on : (x y z : SharedState) (a b c : Shown) → ShowsWork x y a b → ShowsWork y z b c → ShowsWork x z a c
work_on x y z a b c f g = record {
  lines = f.lines ++ g.lines;
  emits = emits_on a b c f.lines g.lines f.emits g.emits;
  work = all_on IsOfWork f.lines g.lines f.work g.work;
  shared = g.shared ∙ ap (λ (s : SharedState). record s { wire = wire_after g.lines s.wire }) f.shared ∙ ap (λ (w : List Message). record x { wire = w }) (sym (wire_on f.lines g.lines x.wire));
}

-- Acts without effects.

still_moves : (tid : Id) (act : Act) (tm : Tm) (s : Stored) → Follows tm s → MayDo tid act tm s.units.log → act_effects act tm.records ≡ [] → Moves act tm s s
still_moves tid (Notes b) tm s f m e = moves_note tm s b f m.stands
still_moves tid (Acknowledges k) tm s f m e = record { branches = f.branches; log = ap (λ es. record_effects_in es s.units.log) (sym e); doubt = f.doubt }
still_moves tid (Releases i x) tm s f m e = record { branches = f.branches; log = ap (λ es. record_effects_in es s.units.log) (sym e); doubt = f.doubt }
still_moves tid (Undoes k) tm s f m e = absurd m.named
still_moves tid (Accepts b c) tm s f m e = absurd (let q : _ ∷ [] ≡ [] = e in cc)
still_moves tid (Prepares b) tm s f m e = absurd (let q : _ ∷ [] ≡ [] = e in cc)
still_moves tid (Settles k o why r) tm s f m e = absurd (let q : _ ∷ [] ≡ [] = e in cc)
still_moves tid (Leaves k) tm s f m e = absurd (let q : _ ∷ [] ≡ [] = e in cc)
still_moves tid (Sends x) tm s f m e = absurd (let q : _ ∷ [] ≡ [] = e in cc)
still_moves tid (Prints l) tm s f m e = absurd (let q : _ ∷ [] ≡ [] = e in cc)

still_leads : (tid : Id) (act : Act) (tm : Tm) (s : Stored) → Follows tm s → MayDo tid act tm s.units.log → act_effects act tm.records ≡ [] → Leads act tm s s
still_leads tid act tm s f m e = followed tid act tm s s f m f.order refl (still_moves tid act tm s f m e)

-- What such an act comes to in the world.
record Passes (act : Act) (clock : ℕ) (tm : Tm) (s : Stored) (n : Node) (sw : world.Shared) : Type 0 where
  stands : StoredRepresents clock s (after_act act tm) (acted (Tables act (next_moment n)) n)
  lines : shown_by act (next_moment n) n sw ≡ []
  shares : (sh : SharedState) → IsShared sh sw → IsShared sh (shared_after (Tables act (next_moment n)) sw)

-- an act on records that changes none leaves the node
same_acknowledged : (k : table.Key) (moment : ℕ) (n : Node) → act_effects (Acknowledges k) n.volatile.records ≡ [] → acted (Tables (Acknowledges k) moment) n ≡ n
same_acknowledged k moment n e =
    let p : acknowledge k n.volatile.records ≡ n.volatile.records = (acknowledge_still k n.volatile.records e).0 in
    λ i. record n { durable = record n.durable { log = record_effects_in (e i) n.durable.log }; volatile = record n.volatile { records = p i } }

same_released : (s : Id) (x : List ℕ) (moment : ℕ) (n : Node) → act_effects (Releases s x) n.volatile.records ≡ [] → acted (Tables (Releases s x) moment) n ≡ n
same_released s x moment n e =
    let p : release s x n.volatile.records ≡ n.volatile.records = (release_still s x n.volatile.records e).0 in
    λ i. record n { durable = record n.durable { log = record_effects_in (e i) n.durable.log }; volatile = record n.volatile { records = p i } }

stands_same : (act : Act) (clock : ℕ) (tm : Tm) (s : Stored) (n : Node) → StoredRepresents clock s tm n → acted (Tables act (next_moment n)) n ≡ n → StoredRepresents clock s (after_act act tm) (acted (Tables act (next_moment n)) n)
stands_same act clock tm s n h e =
    let again : StoredRepresents clock s tm (acted (Tables act (next_moment n)) n) = subst (λ m. StoredRepresents clock s tm m) (sym e) h in
    record {
      kept = again.kept;
      table = ap (after_act act) h.table;
      clock_is = again.clock_is;
      doubt = again.doubt;
      names = again.names;
      up = again.up;
      was_up = again.was_up;
      under_way = again.under_way;
    }

still_passes : (laws_hold : KeepsNodes) (tid : Id) (act : Act) (clock : ℕ) (tm : Tm) (s : Stored) (n : Node) (sw : world.Shared) → Follows tm s → MayDo tid act tm s.units.log → act_effects act tm.records ≡ [] → StoredRepresents clock s tm n → Passes act clock tm s n sw
still_passes laws_hold tid (Notes b) clock tm s n sw f m e h = (
    let at : tm_of n ≡ tm = h.table in
    let f' : Follows (tm_of n) s = subst (λ x. Follows x s) (sym at) f in
    let m' : MayDo tid (Notes b) (tm_of n) s.units.log = subst (λ x. MayDo tid (Notes b) x s.units.log) (sym at) m in
    record {
      stands = stood clock (next_moment n) (Notes b) tm s s n h (laws_hold.tables s.units s.volume n (Notes b) (next_moment n) h.kept refl (λ k q. let z : Notes b ≡ Leaves k = q in cc) m'.stands)
          (names_quiet (Notes b) n s.in_doubt (serials_apart (tm_of n) s f') tt m'.stands h.doubt h.names);
      lines = refl;
      shares = λ sh x. x;
    }
    )
still_passes laws_hold tid (Acknowledges k) clock tm s n sw f m e h = (
    let e' : act_effects (Acknowledges k) n.volatile.records ≡ [] = subst (λ (x : Tm). act_effects (Acknowledges k) x.records ≡ []) (sym h.table) e in
    record { stands = stands_same (Acknowledges k) clock tm s n h (same_acknowledged k (next_moment n) n e'); lines = (acknowledge_still k n.volatile.records e').1; shares = λ sh x. x }
    )
still_passes laws_hold tid (Releases i x) clock tm s n sw f m e h = (
    let e' : act_effects (Releases i x) n.volatile.records ≡ [] = subst (λ (y : Tm). act_effects (Releases i x) y.records ≡ []) (sym h.table) e in
    record { stands = stands_same (Releases i x) clock tm s n h (same_released i x (next_moment n) n e'); lines = (release_still i x n.volatile.records e').1; shares = λ sh y. y }
    )
still_passes laws_hold tid (Undoes k) clock tm s n sw f m e h = absurd m.named
still_passes laws_hold tid (Accepts b c) clock tm s n sw f m e h = absurd (let q : _ ∷ [] ≡ [] = e in cc)
still_passes laws_hold tid (Prepares b) clock tm s n sw f m e h = absurd (let q : _ ∷ [] ≡ [] = e in cc)
still_passes laws_hold tid (Settles k o why r) clock tm s n sw f m e h = absurd (let q : _ ∷ [] ≡ [] = e in cc)
still_passes laws_hold tid (Leaves k) clock tm s n sw f m e h = absurd (let q : _ ∷ [] ≡ [] = e in cc)
still_passes laws_hold tid (Sends x) clock tm s n sw f m e h = absurd (let q : _ ∷ [] ≡ [] = e in cc)
still_passes laws_hold tid (Prints l) clock tm s n sw f m e h = absurd (let q : _ ∷ [] ≡ [] = e in cc)

-- the first of some lists that are none is none
first_none : (xs ys : List Effect) → xs ++ ys ≡ [] → (xs ≡ []) × (ys ≡ [])
first_none [] ys e = (refl, e)
first_none (x ∷ xs) ys e = absurd (let q : x ∷ (xs ++ ys) ≡ [] = e in cc)

-- a node is up before the first of some rows
pub up_first : (rs : List Row) (n : Node) → AreUp rs n → laws.IsUp n
up_first [] n h = h
up_first (r ∷ rs) n h = h.0

-- Behind acts without effects.

module _ (laws_hold : KeepsNodes) (tid : Id) (s : Stored) where
  -- what follows them is followed
  pub passed_follows : (done rest : List Act) (tm : Tm) (u : Stored) → Follows tm s → MayDoAll tid (done ++ rest) tm s.units.log → effects_of done tm.records ≡ []
      → ((at : Tm) → at.records ≡ records_after_all done tm.records → Follows at s → MayDoAll tid rest at s.units.log → Follows (after rest at) u) → Follows (after (done ++ rest) tm) u
  passed_follows [] rest tm u f m e then = then tm refl f m
  passed_follows (a ∷ done) rest tm u f m e then =
      let none = first_none (act_effects a tm.records) (effects_of done (records_after a tm.records)) e in
      let l : Leads a tm s s = still_leads tid a tm s f m.0 none.0 in
      passed_follows done rest (after_act a tm) u l.follows (subst (λ z. MayDoAll tid (done ++ rest) (after_act a tm) z) (sym l.log) m.1) none.1 then

  pub passed_does : {rms : List Name} {T : Type 0} (r : Result T Down) (clock : ℕ) (sh : SharedState) (shares : world.Shared → Type 0) (falls : Node → Type 0) (stands : Tm → Node → Type 0) (a b : Shown) (done rest : List Act) (tm : Tm) (sw : world.Shared) (n : Node) → Follows tm s → MayDoAll tid (done ++ rest) tm s.units.log → effects_of done tm.records ≡ []
      → StoredRepresents clock s tm n → HasDeclared rms n → IsShared sh sw → AreUp (table_rows (done ++ rest) sw n) n
      → ((at : Tm) (sw' : world.Shared) (n' : Node) → at.records ≡ records_after_all done tm.records → Follows at s → MayDoAll tid rest at s.units.log → StoredRepresents clock s at n' → HasDeclared rms n' → IsShared sh sw' → AreUp (table_rows rest sw' n') n' → DoesRows r (table_rows rest sw' n') sw' n' a b shares (stands (after rest at)) falls)
      → DoesRows r (table_rows (done ++ rest) sw n) sw n a b shares (stands (after (done ++ rest) tm)) falls
  passed_does r clock sh shares falls stands a b [] rest tm sw n f m e h declared share up then = then tm sw n refl f m h declared share up
  passed_does {rms} r clock sh shares falls stands a b (x ∷ done) rest tm sw n f m e h declared share up then =
      let none = first_none (act_effects x tm.records) (effects_of done (records_after x tm.records)) e in
      let l : Leads x tm s s = still_leads tid x tm s f m.0 none.0 in
      let p : Passes x clock tm s n sw = still_passes laws_hold tid x clock tm s n sw f m.0 none.0 h in
      let row : Row = record { act = Some (Tables x (next_moment n)); lines = shown_by x (next_moment n) n sw } in
      does_more shares (stands (after (done ++ rest) (after_act x tm))) falls r row (table_rows (done ++ rest) (shared_after (Tables x (next_moment n)) sw) (acted (Tables x (next_moment n)) n)) sw n a a b
      (subst (λ ls. Emits a ls a) (sym p.lines) (emits_nothing a))
      (passed_does {rms = rms} r clock sh shares falls stands a b done rest (after_act x tm) (shared_after (Tables x (next_moment n)) sw) (acted (Tables x (next_moment n)) n) l.follows
      (subst (λ z. MayDoAll tid (done ++ rest) (after_act x tm) z) (sym l.log) m.1) none.1 p.stands declared (p.shares sh share) up.1 then)

any_first : (p q : Bool) → p ≡ true → (p || q) ≡ true
any_first p q h = rw h refl

any_second : (p q : Bool) → q ≡ true → (p || q) ≡ true
any_second true q h = refl
any_second false q h = h

-- Where no effect is left.
pub all_none : {rms : List Name} (laws_hold : KeepsNodes) (tid : Id) (clock : ℕ) (s : Stored) (sh : SharedState) (a : Shown) → TellsAll rms done [] tid clock s s sh sh a a
all_none {rms} laws_hold tid clock s sh a = record {
  stays = stays_same clock s;
  since = since_same a;
  work = work_none sh a a (emits_nothing a);
  uses = tt;
  follows = λ tm acts m.
      let m' : MayDoAll tid (acts ++ []) tm s.units.log = subst (λ z. MayDoAll tid z tm s.units.log) (sym (append-nil acts)) m.may in
      subst (λ z. Follows (after z tm) s) (append-nil acts) (passed_follows laws_hold tid s acts [] tm s m.follows m' m.gives (λ at e f q. f));
  does = λ tm acts sw n declared m h share up.
      let m' : MayDoAll tid (acts ++ []) tm s.units.log = subst (λ z. MayDoAll tid z tm s.units.log) (sym (append-nil acts)) m.may in
      let u' : AreUp (table_rows (acts ++ []) sw n) n = subst (λ z. AreUp (table_rows z sw n) n) (sym (append-nil acts)) up in
      subst (λ z. DoesRows done (table_rows z sw n) sw n a a (IsShared sh) (StoredRepresents clock s (after z tm)) (λ m. HasDisk m s.volume.store.disk)) (append-nil acts)
      (passed_does laws_hold tid s {rms = rms} done clock sh (IsShared sh) (λ m. HasDisk m s.volume.store.disk) (StoredRepresents clock s) a a acts [] tm sw n m.follows m' m.gives h declared share u'
      (λ at sw' n' e f q h' declared' share' up'. did_none sw' n' a share' h'));
}

-- The first effect, and the others.

-- the act of the first effect, behind acts without any
first_act : (acts : List Act) (rs : List LogRecord) (e : Effect) (es : List Effect) → effects_of acts rs ≡ e ∷ es → HandsOn acts rs [] e es
first_act acts rs e es g = effects_are_acts acts rs [] e es g

-- the one act
one_of : (e : Effect) (tid : Id) (act : Act) (rest : List Act) (at : Tm) (s : Stored) → Follows at s → MayDoAll tid (act ∷ rest) at s.units.log → act_effects act at.records ≡ e ∷ [] → MayTellOne e tid act at s
one_of e tid act rest at s f m g = record { follows = f; may = m.0; gives = g }

-- and those behind it
rest_of : (es : List Effect) (tid : Id) (act : Act) (rest : List Act) (at : Tm) (s t : Stored) → Leads act at s t → MayDoAll tid (act ∷ rest) at s.units.log → effects_of rest (records_after act at.records) ≡ es → MayTellAll es tid rest (after_act act at) t
rest_of es tid act rest at s t l m g = record { follows = l.follows; may = subst (λ z. MayDoAll tid rest (after_act act at) z) (sym l.log) m.1; gives = g }

-- what may be told stands for the parts of its acts
parts_of : (e : Effect) (es : List Effect) (tid : Id) (acts : List Act) (tm : Tm) (s : Stored) → MayTellAll (e ∷ es) tid acts tm s → (h : HandsOn acts tm.records [] e es) → MayDoAll tid (h.done ++ h.act ∷ h.rest) tm s.units.log
parts_of e es tid acts tm s m h = subst (λ z. MayDoAll tid z tm s.units.log) h.parts m.may

pub all_more : {rms : List Name} {T : Type 0} (laws_hold : KeepsNodes) (r : Result T Down) (e : Effect) (es : List Effect) (tid : Id) (clock : ℕ) (s t u : Stored) (x y z : SharedState) (a b c : Shown) → TellsOneWith rms done e tid clock s t x y a b → TellsAll rms r es tid clock t u y z b c → TellsAll rms r (e ∷ es) tid clock s u x z a c
all_more {rms} {T} laws_hold r e es tid clock s t u x y z a b c one all = record {
  stays = stays_on r clock s t u one.stays all.stays;
  since = since_on a b c one.since all.since;
  work = work_on x y z a b c one.work all.work;
  uses = any_behind r all.uses;
  follows = go r all.follows;
  does = λ tm acts sw n declared m h share up.
      let f = first_act acts tm.records e es m.gives in
      let u' : AreUp (table_rows (f.done ++ f.act ∷ f.rest) sw n) n = subst (λ q. AreUp (table_rows q sw n) n) f.parts up in
      subst (λ q. DoesRows r (table_rows q sw n) sw n a c (IsShared z) (StoredRepresents clock u (after q tm)) (λ k. HasDisk k u.volume.store.disk)) (sym f.parts)
      (passed_does laws_hold tid s {rms = rms} r clock x (IsShared z) (λ k. HasDisk k u.volume.store.disk) (StoredRepresents clock u) a c f.done (f.act ∷ f.rest) tm sw n m.follows (parts_of e es tid acts tm s m f) f.gave h declared share u'
      (λ at sw' n' same follows may stands declared' share' up'.
      let gives : act_effects f.act at.records ≡ e ∷ [] = subst (λ q. act_effects f.act q ≡ e ∷ []) (sym same) f.gives in
      let left : effects_of f.rest (records_after f.act at.records) ≡ es = subst (λ q. effects_of f.rest (records_after f.act q) ≡ es) (sym same) f.left in
      let m1 : MayTellOne e tid f.act at s = one_of e tid f.act f.rest at s follows may gives in
      let l : Leads f.act at s t = one.leads at f.act m1 in
      let m2 : MayTellAll es tid f.rest (after_act f.act at) t = rest_of es tid f.act f.rest at s t l may left in
      let d : DidOne f.act sw' n' a b y (StoredRepresents clock t (after_act f.act at)) = one.does at f.act sw' n' declared' m1 stands share' up'.0 (up_first (table_rows f.rest (shared_after (Tables f.act (next_moment n')) sw') (acted (Tables f.act (next_moment n')) n')) (acted (Tables f.act (next_moment n')) n') up'.1) in
      does_more (IsShared z) (StoredRepresents clock u (after f.rest (after_act f.act at))) (λ k. HasDisk k u.volume.store.disk) r (record { act = Some (Tables f.act (next_moment n')); lines = shown_by f.act (next_moment n') n' sw' })
      (table_rows f.rest (shared_after (Tables f.act (next_moment n')) sw') (acted (Tables f.act (next_moment n')) n')) sw' n' a b c d.shows
      (all.does (after_act f.act at) f.rest (shared_after (Tables f.act (next_moment n')) sw') (acted (Tables f.act (next_moment n')) n') declared' m2 d.node d.shares up'.1)));
}
  where
    any_behind : (q : Result T Down) → OnErr q (list_any uses_disk es ≡ true) → OnErr q (list_any uses_disk (e ∷ es) ≡ true)
    any_behind (Err d) h = any_second (uses_disk e) (list_any uses_disk es) h
    any_behind (Ok v) h = tt

    go : (q : Result T Down) → OnOk q ((tm : Tm) (acts : List Act) → MayTellAll es tid acts tm t → Follows (after acts tm) u) → OnOk q ((tm : Tm) (acts : List Act) → MayTellAll (e ∷ es) tid acts tm s → Follows (after acts tm) u)
    go (Err d) h = tt
    go (Ok v) h = λ tm acts m.
        let f = first_act acts tm.records e es m.gives in
        subst (λ q. Follows (after q tm) u) (sym f.parts) (passed_follows laws_hold tid s f.done (f.act ∷ f.rest) tm u m.follows (parts_of e es tid acts tm s m f) f.gave (λ at same follows may.
        let gives : act_effects f.act at.records ≡ e ∷ [] = subst (λ k. act_effects f.act k ≡ e ∷ []) (sym same) f.gives in
        let left : effects_of f.rest (records_after f.act at.records) ≡ es = subst (λ k. effects_of f.rest (records_after f.act k) ≡ es) (sym same) f.left in
        let l : Leads f.act at s t = one.leads at f.act (one_of e tid f.act f.rest at s follows may gives) in
        h (after_act f.act at) f.rest (rest_of es tid f.act f.rest at s t l may left)))

-- The disk went down in the first.
pub all_down : {rms : List Name} {T : Type 0} (laws_hold : KeepsNodes) (d : Down) (e : Effect) (es : List Effect) (tid : Id) (clock : ℕ) (s t : Stored) (x y : SharedState) (a b : Shown) → TellsOneWith rms {T = T} (Err d) e tid clock s t x y a b → TellsAll rms {T = T} (Err d) (e ∷ es) tid clock s t x y a b
all_down {rms} {T} laws_hold d e es tid clock s t x y a b one = record {
  stays = one.stays;
  since = one.since;
  work = one.work;
  uses = any_first (uses_disk e) (list_any uses_disk es) one.uses;
  follows = tt;
  does = λ tm acts sw n declared m h share up.
      let f = first_act acts tm.records e es m.gives in
      let u' : AreUp (table_rows (f.done ++ f.act ∷ f.rest) sw n) n = subst (λ q. AreUp (table_rows q sw n) n) f.parts up in
      subst (λ q. DoesRows {T = T} (Err d) (table_rows q sw n) sw n a b (IsShared y) (StoredRepresents clock t (after q tm)) (λ k. HasDisk k t.volume.store.disk)) (sym f.parts)
      (passed_does laws_hold tid s {rms = rms} {T = T} (Err d) clock x (IsShared y) (λ k. HasDisk k t.volume.store.disk) (StoredRepresents clock t) a b f.done (f.act ∷ f.rest) tm sw n m.follows (parts_of e es tid acts tm s m f) f.gave h declared share u'
      (λ at sw' n' same follows may stands declared' share' up'.
      let gives : act_effects f.act at.records ≡ e ∷ [] = subst (λ q. act_effects f.act q ≡ e ∷ []) (sym same) f.gives in
      let w : WentDownIn f.act sw' n' a b y t.volume.store.disk = one.does at f.act sw' n' declared' (one_of e tid f.act f.rest at s follows may gives) stands share' up'.0
      (up_first (table_rows f.rest (shared_after (Tables f.act (next_moment n')) sw') (acted (Tables f.act (next_moment n')) n')) (acted (Tables f.act (next_moment n')) n') up'.1) in
      down_first (record { act = Some (Tables f.act (next_moment n')); lines = shown_by f.act (next_moment n') n' sw' }) (table_rows f.rest (shared_after (Tables f.act (next_moment n')) sw') (acted (Tables f.act (next_moment n')) n')) sw' n' a b w.shows w.shares w.disk));
}

-- the acts that are to be told where the first effect was
pub first_may : (e : Effect) (es : List Effect) (tid : Id) (acts : List Act) (tm : Tm) (s : Stored) → MayTellAll (e ∷ es) tid acts tm s → (at : Tm) × (act : Act) × MayTellOne e tid act at s
first_may e es tid acts tm s m = go f.done tm m.follows (parts_of e es tid acts tm s m f) f.gave f.gives
  where
    f : HandsOn acts tm.records [] e es
    f = first_act acts tm.records e es m.gives

    go : (done : List Act) (at : Tm) → Follows at s → MayDoAll tid (done ++ f.act ∷ f.rest) at s.units.log → effects_of done at.records ≡ [] → act_effects f.act (records_after_all done at.records) ≡ e ∷ [] → (at' : Tm) × (act : Act) × MayTellOne e tid act at' s
    go [] at follows may none gives = (at, f.act, one_of e tid f.act f.rest at s follows may gives)
    go (x ∷ done) at follows may none gives =
        let first = first_none (act_effects x at.records) (effects_of done (records_after x at.records)) none in
        let l : Leads x at s s = still_leads tid x at s follows may.0 first.0 in
        go done (after_act x at) l.follows (subst (λ z. MayDoAll tid (done ++ f.act ∷ f.rest) (after_act x at) z) (sym l.log) may.1) first.1 gives

-- and those behind it
pub rest_may : {rms : List Name} (e : Effect) (es : List Effect) (tid : Id) (clock : ℕ) (acts : List Act) (tm : Tm) (s t : Stored) (x y : SharedState) (a b : Shown) → MayTellAll (e ∷ es) tid acts tm s → TellsOneWith rms done e tid clock s t x y a b → (at : Tm) × (rest : List Act) × MayTellAll es tid rest at t
rest_may e es tid clock acts tm s t x y a b m one = go f.done tm m.follows (parts_of e es tid acts tm s m f) f.gave f.gives f.left
  where
    f : HandsOn acts tm.records [] e es
    f = first_act acts tm.records e es m.gives

    go : (done : List Act) (at : Tm) → Follows at s → MayDoAll tid (done ++ f.act ∷ f.rest) at s.units.log → effects_of done at.records ≡ [] → act_effects f.act (records_after_all done at.records) ≡ e ∷ [] → effects_of f.rest (records_after f.act (records_after_all done at.records)) ≡ es → (at' : Tm) × (rest : List Act) × MayTellAll es tid rest at' t
    go [] at follows may none gives left = (after_act f.act at, f.rest, rest_of es tid f.act f.rest at s t (one.leads at f.act (one_of e tid f.act f.rest at s follows may gives)) may left)
    go (q ∷ done) at follows may none gives left =
        let first = first_none (act_effects q at.records) (effects_of done (records_after q at.records)) none in
        let l : Leads q at s s = still_leads tid q at s follows may.0 first.0 in
        go done (after_act q at) l.follows (subst (λ z. MayDoAll tid (done ++ f.act ∷ f.rest) (after_act q at) z) (sym l.log) may.1) first.1 gives left

-- An effect as the code has it.

pub may_as : (e f : Effect) (tid : Id) (act : Act) (tm : Tm) (s : Stored) → e ≡ f → MayTellOne e tid act tm s → MayTellOne f tid act tm s
may_as e f tid act tm s q m = subst (λ x. MayTellOne x tid act tm s) q m

-- what is so at every node is so whatever managers are declared there
pub with_any : {rms : List Name} {T : Type 0} (r : Result T Down) (e : Effect) (tid : Id) (clock : ℕ) (s t : Stored) (x y : SharedState) (a b : Shown) → TellsOne r e tid clock s t x y a b → TellsOneWith rms r e tid clock s t x y a b
with_any r e tid clock s t x y a b h = record { stays = h.stays; since = h.since; work = h.work; uses = h.uses; leads = h.leads; does = λ tm act sw n declared m stands share up after. h.does tm act sw n m stands share up after }

pub tells_as : {rms : List Name} {T : Type 0} (r : Result T Down) (e f : Effect) (tid : Id) (clock : ℕ) (s t : Stored) (x y : SharedState) (a b : Shown) → e ≡ f → TellsOne r f tid clock s t x y a b → TellsOneWith rms r e tid clock s t x y a b
tells_as {rms} r e f tid clock s t x y a b q h = with_any {rms = rms} r e tid clock s t x y a b (subst (λ z. TellsOne r z tid clock s t x y a b) (sym q) h)

pub tells_with : {rms : List Name} {T : Type 0} (r : Result T Down) (e f : Effect) (tid : Id) (clock : ℕ) (s t : Stored) (x y : SharedState) (a b : Shown) → e ≡ f → TellsOneWith rms r f tid clock s t x y a b → TellsOneWith rms r e tid clock s t x y a b
tells_with {rms} r e f tid clock s t x y a b q h = subst (λ z. TellsOneWith rms r z tid clock s t x y a b) (sym q) h

-- Effects as the code has them.

pub may_all_as : (es fs : List Effect) (tid : Id) (acts : List Act) (tm : Tm) (s : Stored) → es ≡ fs → MayTellAll es tid acts tm s → MayTellAll fs tid acts tm s
may_all_as es fs tid acts tm s q m = subst (λ x. MayTellAll x tid acts tm s) q m

pub tells_all_as : {rms : List Name} {T : Type 0} (r : Result T Down) (es fs : List Effect) (tid : Id) (clock : ℕ) (s t : Stored) (x y : SharedState) (a b : Shown) → es ≡ fs → TellsAll rms r fs tid clock s t x y a b → TellsAll rms r es tid clock s t x y a b
tells_all_as {rms} r es fs tid clock s t x y a b q h = subst (λ z. TellsAll rms r z tid clock s t x y a b) (sym q) h

-- the first of the code's effects, and the others
pub split_effects : (xs : List EffectSaid) (x : EffectSaid) → 1 ≤ length xs → x ≡ get_or xs 0 x → map effect_of xs ≡ effect_of x ∷ map effect_of (take (length xs - 1) (drop 1 xs))
split_effects [] x some at = absurd (omega (arith, some))
split_effects (y ∷ ys) x some at = λ i. effect_of (sym at i) ∷ map effect_of (sym behind i)
  where
    behind : take (length (y ∷ ys) - 1) ys ≡ ys
    behind = ap (λ (n : ℕ). take n ys) (omega arith) ∙ take-length ys

pub rest_shorter : (xs : List EffectSaid) → 1 ≤ length xs → suc (length (take (length xs - 1) (drop 1 xs))) ≡ length xs
rest_shorter [] some = absurd (omega (arith, some))
rest_shorter (y ∷ ys) some = ap (λ (zs : List EffectSaid). suc (length zs)) (ap (λ (n : ℕ). take n ys) (omega arith) ∙ take-length ys)

pub no_effects : (xs : List EffectSaid) → length xs < 1 → map effect_of xs ≡ []
no_effects [] few = refl
no_effects (x ∷ xs) few = absurd (omega (arith, few))
