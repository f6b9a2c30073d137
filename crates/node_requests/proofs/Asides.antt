-- A node that is up behind a request on its files: its table stays, and its disk is that of the volume.
use Rattle.std.proofs.Common.{◌≡◌, ◌≤◌, ◌+◌, ℕ, zero, suc, List, [], ◌∷◌, true, Option, Some, None, Result, Ok, Err, inl, inr, refl, ap, sym, subst, ◌∙◌, length, max, map, arith}
use Rattle.std.specs.Prelude.{OnOk}
use Rattle.careful_write.specs.declared.down.Down.{Down}
use Rattle.block_disk.specs.Disk.{DiskState}
use Rattle.emitter_model.specs.commit_protocol.Table.{Key, Tm}
use Rattle.emitter_model.specs.commit_protocol.World.{In}
use Rattle.emitter_model.specs.Emitting.{Emits, Shown, Since}
use Rattle.unit_table.specs.Units.{OpenUnit}
use Rattle.records_model.specs.Records.{Change}
use Rattle.emitter_model.specs.transcript_model.Lines.{Line}
use Rattle.vms_model.specs.Keys.{Key as RecordKey}
use Rattle.script_lang.specs.script_model.Statements.{Setting, RecoveryUnits, NoRecoveryUnits, Images, NoImages}
use Rattle.world_laws.specs.run_model.Answers.{Row, creates, sets, shown_line, shown_record, to_file}
use Rattle.world_laws.specs.run_model.Steps.{node_after, node_after_rows}
use Rattle.world_laws.specs.run_model.World as world
use Rattle.world_laws.specs.run_model.World.{Node, Volatile, tm_of}
use Rattle.node_table.specs.row_laws.May.{IsTold}
use Rattle.node_table.specs.recovery_units.State.{AreOfBranches, IsInOrder, IsKept, UnitsState}
use Rattle.node_table.specs.recovery_units.Uses.{DiskAdvances, ImagesGrow}
use Rattle.world_laws.specs.Running.{IsDrawn}
use Rattle.file_requests.specs.Serving.{KeepsStored, SameStored}
use Rattle.file_requests.proofs.Reading.{kept_still}
use Rattle.node_table.specs.Growing.{end_to_come, groups_left, moment_to_come}
use Rattle.node_table.specs.Serving.{DoesService, ServiceAt}
use Rattle.node_table.specs.Standing.{AreInDoubt, Follows, IsUp, NamesPrepared, Stored, Up, UpRepresents, unsettled_serials}
use Rattle.node_table.proofs.Rows.{goes_same}
use Rattle.node_requests.specs.Requests.{HasMoved, KeepsRequest}

-- Nothing was done.
pub keeps_same : {T : Type 0} (x : T) (clock : ℕ) (r : Up) (a b : Shown) → IsUp r → Since a b → KeepsRequest {T = T} (Ok x) clock r r a b
keeps_same x clock r a b up since = record {
  up = up;
  goes = goes_same r.stored.volume.store.disk;
  cause = tt;
  pool = refl;
  node = refl;
  boot = refl;
  drawn = (omega arith, omega arith);
  moved = record { moment = omega arith; end = omega arith };
  since = since;
}

-- The units stay as they are, and perhaps one id was drawn.
module _ (old : Up) (new : Stored) (drawn : ℕ) (units : new.units ≡ old.stored.units) (up : IsUp old) where
  abbrev pub beside : Up
  beside = record { stored = new; tm = old.tm; drawn = drawn; declared = old.declared }

  follows : IsInOrder new.units new.volume → new.volume.catalog.home.node ≡ old.stored.volume.catalog.home.node → new.in_doubt ≡ old.stored.in_doubt → Follows old.tm new
  follows order node doubts = record {
    order = order;
    node = up.follows.node ∙ sym node;
    branches = subst (λ (u : UnitsState). AreOfBranches u.begun old.tm.table) (sym units) up.follows.branches;
    told = subst (λ (u : UnitsState). IsTold old.tm u.log) (sym units) up.follows.told;
    doubt = subst (λ xs. AreInDoubt xs old.tm.table) (sym doubts) up.follows.doubt;
  }

  pub keeps_beside : {T : Type 0} (r : Result T Down) (settlements at clock : ℕ) (a b : Shown) → settlements ≤ 1 → at ≤ clock → (old.drawn ≤ drawn) × (drawn ≤ old.drawn + 1) → KeepsStored settlements at r old.stored new a b → KeepsRequest r clock old beside a b
  keeps_beside {T} r settlements at clock a b few early ids k = record {
    up = is_up r k.order;
    goes = k.grows.goes;
    cause = k.cause;
    pool = k.grows.pool;
    node = k.grows.node;
    boot = k.grows.boot;
    drawn = ids;
    moved = moved r k.images;
    since = k.since;
  }
    where
      is_up : (q : Result T Down) → OnOk q (IsInOrder new.units new.volume) → OnOk q (IsUp beside)
      is_up (Ok v) order = record { follows = follows order k.grows.node k.in_doubt; within = up.within }
      is_up (Err d) order = tt

      has_moved : ImagesGrow old.stored.volume new.volume → HasMoved clock old beside
      has_moved i =
          let g = k.grows.greatest in
          let e = k.grows.end in
          let most = up.follows.order.few in
          let count : length new.units.begun ≡ length old.stored.units.begun = ap (λ (u : UnitsState). length u.begun) units in
          let groups : groups_left new.units.begun ≡ groups_left old.stored.units.begun = ap (λ (u : UnitsState). groups_left u.begun) units in
          record { moment = omega arith; end = omega arith }

      moved : (q : Result T Down) → OnOk q (ImagesGrow old.stored.volume new.volume) → OnOk q (HasMoved clock old beside)
      moved (Ok v) i = has_moved i
      moved (Err d) i = tt

-- At the node of the world only the disk and the ids that were drawn may have changed.
pub record IsAside (n m : Node) (more : ℕ) : Type 0 where
  pub name : m.name ≡ n.name
  pub clock : m.clock ≡ n.clock
  pub branches : m.volatile.branches ≡ n.volatile.branches
  pub records : m.volatile.records ≡ n.volatile.records
  pub preparation : m.volatile.preparation ≡ n.volatile.preparation
  pub drawn : m.volatile.drawn ≡ n.volatile.drawn + more
  pub declared : m.volatile.declared ≡ n.volatile.declared
  pub boot : m.durable.boot ≡ n.durable.boot
  pub up : m.up ≡ n.up
  pub was_up : m.was_up ≡ n.was_up
  pub under_way : m.under_way ≡ n.under_way

-- an id that was drawn still is when more are
drawn_more : (name : List ℕ) (boot drawn more : ℕ) (k : Key) → IsDrawn name boot drawn k.serial → IsDrawn name boot (drawn + more) k.serial
drawn_more name boot drawn more k h = (
  h.0,
  elim h.1 [
    | inl earlier ↦ inl earlier
    | inr here ↦ (let l = here.1 in inr (here.0, omega arith))
  ],
)

pub stands_aside : (clock : ℕ) (old : Up) (new : Stored) (more : ℕ) (n m : Node) → new.in_doubt ≡ old.stored.in_doubt → UpRepresents clock old n → IsAside n m more → IsKept new.units new.volume m → UpRepresents clock (record { stored = new; tm = old.tm; drawn = old.drawn + more; declared = old.declared }) m
stands_aside clock old new more n m doubts h aside kept = record {
  stands = record {
    kept = kept;
    table = (λ i. record { node = aside.name i; table = aside.branches i; records = aside.records i }) ∙ h.stands.table;
    clock_is = aside.clock ∙ h.stands.clock_is;
    doubt = (λ i. unsettled_serials (aside.preparation i) (aside.branches i)) ∙ h.stands.doubt ∙ sym doubts;
    names = subst (λ ks. NamesPrepared ks m.volatile.branches) (sym aside.preparation) (subst (λ bs. NamesPrepared n.volatile.preparation bs) (sym aside.branches) h.stands.names);
    up = aside.up ∙ h.stands.up;
    was_up = aside.was_up ∙ h.stands.was_up;
    under_way = aside.under_way ∙ h.stands.under_way;
  };
  drawn = aside.drawn ∙ ap (λ (d : ℕ). d + more) h.drawn;
  declared = aside.declared ∙ h.declared;
  preparation = λ k i.
      let d = drawn_more n.name n.durable.boot n.volatile.drawn more k (h.preparation k (subst (λ ks. In k ks) aside.preparation i)) in
      subst (λ z. IsDrawn z m.durable.boot m.volatile.drawn k.serial) (sym aside.name) (subst (λ z. IsDrawn n.name z m.volatile.drawn k.serial) (sym aside.boot) (subst (λ z. IsDrawn n.name n.durable.boot z k.serial) (sym aside.drawn) d));
}

-- what is stored is the same but for reads
pub stands_still : (clock : ℕ) (old : Up) (new : Stored) (n : Node) → SameStored old.stored new → UpRepresents clock old n → UpRepresents clock (record { stored = new; tm = old.tm; drawn = old.drawn; declared = old.declared }) n
stands_still clock old new n same h = record {
  stands = record {
    kept = kept_still old.stored new same n h.stands.kept;
    table = h.stands.table;
    clock_is = h.stands.clock_is;
    doubt = h.stands.doubt ∙ sym (ap (λ (s : Stored). s.in_doubt) same);
    names = h.stands.names;
    up = h.stands.up;
    was_up = h.stands.was_up;
    under_way = h.stands.under_way;
  };
  drawn = h.drawn;
  declared = h.declared;
  preparation = h.preparation;
}

-- A service, by what it comes to.
pub service_as : {T : Type 0} (r : Result T Down) (q : ServiceAt) (s : world.Shared) (n : Node) (a b : Shown) (kept kept' : Type 0) (shares shares' : world.Shared → Type 0) (stands stands' : Node → Type 0) (d : DiskState) → (kept → kept') → ((x : world.Shared) → shares x → shares' x)
    → (stands (node_after_rows q.rows n) → stands' (node_after_rows q.rows n)) → DoesService r q s n a b kept shares stands d → DoesService r q s n a b kept' shares' stands' d
service_as (Ok v) q s n a b kept kept' shares shares' stands stands' d k f g h = elim h [
  | inl x ↦ inl (record { refusal = x.refusal; is = x.is; shows = x.shows; same = k x.same })
  | inr x ↦ inr (record { allowed = x.allowed; shows = x.shows; shared = f _ x.shared; node = g x.node })
]
service_as (Err e) q s n a b kept kept' shares shares' stands stands' d k f g h = record { unrefused = h.unrefused; done = h.done; begun = h.begun; within = h.within; shows = h.shows; shared = f _ h.shared; disk = h.disk }

-- Rows of a request on files.

-- an act that changes files alone, or none
abbrev pub IsAsideAct : Option world.Act → Type 0
IsAsideAct None = Unit {0}
IsAsideAct (Some (world.Creates place file)) = Unit {0}
IsAsideAct (Some (world.Marks file mark)) = Unit {0}
IsAsideAct (Some (world.Saves file start)) = Unit {0}
IsAsideAct (Some (world.Recovers file start buckets m)) = Unit {0}
IsAsideAct act = ⊥

abbrev pub AreAside : List Row → Type 0
AreAside [] = Unit {0}
AreAside (r ∷ rs) = IsAsideAct r.act × AreAside rs

aside_same : (n : Node) → IsAside n n 0
aside_same n = record { name = refl; clock = refl; branches = refl; records = refl; preparation = refl; drawn = omega arith; declared = refl; boot = refl; up = refl; was_up = refl; under_way = refl }

aside_on : (n m o : Node) → IsAside n m 0 → IsAside m o 0 → IsAside n o 0
aside_on n m o f g = record {
  name = g.name ∙ f.name;
  clock = g.clock ∙ f.clock;
  branches = g.branches ∙ f.branches;
  records = g.records ∙ f.records;
  preparation = g.preparation ∙ f.preparation;
  drawn = (let p = f.drawn in let q = g.drawn in omega arith);
  declared = g.declared ∙ f.declared;
  boot = g.boot ∙ f.boot;
  up = g.up ∙ f.up;
  was_up = g.was_up ∙ f.was_up;
  under_way = g.under_way ∙ f.under_way;
}

aside_act : (act : Option world.Act) (n : Node) → IsAsideAct act → IsAside n (node_after act n) 0
aside_act None n h = aside_same n
aside_act (Some (world.Creates place file)) n h = record { name = refl; clock = refl; branches = refl; records = refl; preparation = refl; drawn = omega arith; declared = refl; boot = refl; up = refl; was_up = refl; under_way = refl }
aside_act (Some (world.Marks file mark)) n h = record { name = refl; clock = refl; branches = refl; records = refl; preparation = refl; drawn = omega arith; declared = refl; boot = refl; up = refl; was_up = refl; under_way = refl }
aside_act (Some (world.Saves file start)) n h = record { name = refl; clock = refl; branches = refl; records = refl; preparation = refl; drawn = omega arith; declared = refl; boot = refl; up = refl; was_up = refl; under_way = refl }
aside_act (Some (world.Recovers file start buckets m)) n h = record { name = refl; clock = refl; branches = refl; records = refl; preparation = refl; drawn = omega arith; declared = refl; boot = refl; up = refl; was_up = refl; under_way = refl }
aside_act (Some _) n h = absurd h

pub aside_rows : (rs : List Row) (n : Node) → AreAside rs → IsAside n (node_after_rows rs n) 0
aside_rows [] n h = aside_same n
aside_rows (r ∷ rs) n h = aside_on n (node_after r.act n) (node_after_rows rs (node_after r.act n)) (aside_act r.act n h.0) (aside_rows rs (node_after r.act n) h.1)

pub aside_create : (n : Node) (made : ℕ → world.File) (need : ℕ) → AreAside (creates n made need)
aside_create n made need = go (world.free_place n.durable.directory) (world.lowest_free n need)
  where
    go : (place start : Option ℕ) → AreAside (elim place [ Some p ↦ elim start [ Some t ↦ record { act = Some (world.Creates p (made t)); lines = [] } ∷ [] | None ↦ [] ] | None ↦ [] ])
    go None start = tt
    go (Some p) None = tt
    go (Some p) (Some t) = (tt, tt)

pub aside_records : (es : List (RecordKey × List ℕ)) → AreAside (map shown_record es)
aside_records [] = tt
aside_records (e ∷ es) = (tt, aside_records es)

pub aside_lines : (ls : List Line) → AreAside (map shown_line ls)
aside_lines [] = tt
aside_lines (l ∷ ls) = (tt, aside_lines ls)

-- what a setting does to a file, and what is done to a file that is there
pub aside_sets : (n : Node) (file : List ℕ) (setting : Setting) → AreAside (sets n file setting)
aside_sets n file RecoveryUnits = (tt, tt)
aside_sets n file NoRecoveryUnits = (tt, tt)
aside_sets n file (Images side blocks) = (tt, tt)
aside_sets n file (NoImages side) = (tt, tt)

pub aside_file : (n : Node) (file : List ℕ) (does : world.File → List Row) → ((f : world.File) → AreAside (does f)) → AreAside (to_file n file does)
aside_file n file does each = go (world.find_file file n.durable.directory)
  where
    go : (o : Option world.File) → AreAside (elim o [ Some f ↦ does f | None ↦ [] ])
    go None = tt
    go (Some f) = each f

-- the one row of a change that no branch is asked for
pub aside_directs : (n : Node) (file : List ℕ) (cs : List Change) (s : world.Settlement) → IsAside n (world.acted (world.Directs file cs s) n) 1
aside_directs n file cs s = record { name = refl; clock = refl; branches = refl; records = refl; preparation = refl; drawn = refl; declared = refl; boot = refl; up = refl; was_up = refl; under_way = refl }
