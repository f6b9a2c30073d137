-- A committed record has less to wait for, or goes, as in the world.
use Rattle.std.proofs.Common.{◌≡◌, ℕ, List, [], ◌∷◌, Option, Some, length, refl, sym, ◌∙◌, ap, subst, arith}
use Rattle.vms_model.specs.Ids.{Id}
use Rattle.volume.specs.declared.catalog.Catalog.{Catalog}
use Rattle.volume.specs.Catalogs.{IsSound, TellsCatalog}
use Rattle.volume.specs.State.{VolumeState}
use Rattle.rms_units.specs.unit_journal.Groups.{Breaks}
use Rattle.rms_units.specs.unit_votes.Logging.{SetsRecord}
use Rattle.commit_protocol.specs.Effects.{Effect, act_effects, line_effect}
use Rattle.commit_protocol.specs.Messages.{LogRecord}
use Rattle.commit_protocol.specs.Table as table
use Rattle.commit_protocol.specs.Table.{Accepts, Acknowledges, Branch, Ended, Leaves, Line, Notes, Prepares, Prints, Releases, Sends, Settles, Started, Told, Undoes}
use Rattle.log_laws.specs.Slots.{Slots, record_effect_in, record_effects_in}
use Rattle.recovery_units.specs.run_model.World.{Durable, IsLogInOrder, Node, Tables, acted, fallen, next_moment}
use Rattle.recovery_units.specs.world_laws.Nodes.{IsUp}
use Rattle.recovery_units.proofs.world_laws.LogLemmas.{told_log}
use Rattle.unit_world.proofs.directory_model.Standing.{stands_on_extents}
use Rattle.unit_world.proofs.restart_laws.ListLemmas.{all_as}
use Rattle.unit_world.proofs.restart_laws.StayLemmas.{keeps_restorable}
use Rattle.unit_world.proofs.volume_laws.FollowLemmas.{follow}
use Rattle.unit_world.proofs.volume_laws.LogLemmas.{told}
use Rattle.recovery_units.specs.volume_model.Volumes.{HasVolume, IsLeftBy}
use Rattle.rms_units.specs.State as rms
use Rattle.recovery_units.specs.Calls.{Broken, Done, ForActs, MayDo}
use Rattle.recovery_units.specs.State.{AreLocks, IsKept, IsUnitOf}
use Rattle.unit_world.proofs.Blocks.{same_names}
use Rattle.unit_world.proofs.Keeping.{stays, volume_as}
use Rattle.node_units.specs.Seen.{seen}
use Rattle.node_units.proofs.Acting.{broken, left_after, one_of}
use Rattle.node_units.proofs.Committing.{HasLogged, content_long, keeps_now, tells_now, whole_now}
use Rattle.node_units.proofs.Ending.{IsOfRecord}
use Rattle.node_units.proofs.Logging.{IsRelogged, catalog_set, files_relogged, relogged, ring_relogged, tells_relogged}

-- A node whose log alone is other.

abbrev pub with_log : Slots → Node → Node
with_log ts n = record n { durable = record n.durable { log = ts } }

-- another node of which this alone is other in what units are of
pub record IsLogged (ts : Slots) (n m : Node) : Type 0 where
  pub name : m.name ≡ n.name
  pub blocks : m.blocks ≡ n.blocks
  pub durable : m.durable ≡ record n.durable { log = ts }
  pub up : m.up ≡ n.up
  pub branches : m.volatile.branches ≡ n.volatile.branches
  pub locks : m.volatile.locks ≡ n.volatile.locks

module _ (s : rms.UnitsState) (log ts : Slots) (v w : VolumeState) (x : Id) (entry : Option LogRecord) (is : HasLogged s log v entry) (sets : SetsRecord x entry log ts v w) (n m : Node) (kept : IsKept (seen s log) v n) (up : IsUp m) (logged : IsLogged ts n m) where
  pub relog : (b : List (List ℕ)) × (w.store.current ≡ Some b) × IsRelogged log ts kept.content b
  relog = relogged x entry log ts v w kept.content sets is.parts kept.told (keeps_now s log ts v entry is n kept) (whole_now s log ts v entry is n kept) kept.has.journal.is.ring.whole (content_long s log ts v entry is n kept)

  same : w.catalog ≡ v.catalog
  same = catalog_set x entry log ts v w sets

  in_order : IsLogInOrder (with_log ts n)
  in_order = told m (with_log ts n) (told_log m up.table up.slots) (sym logged.name) (let boot = ap (λ (d : Durable). d.boot) logged.durable in omega (arith, boot)) (sym (ap (λ (d : Durable). d.log) logged.durable)) (sym (ap (λ (d : Durable). d.units) logged.durable))

  volume_logged : HasVolume relog.0 v.catalog (with_log ts n)
  volume_logged =
      let has = kept.has in
      let agree = files_relogged log ts kept.content relog.0 relog.2 v.catalog is.before v.catalog.home.node v.store.disk.size is.order.sound is.order.heads in
      record {
        home = record { volume = has.home.volume; slots = relog.2.long ∙ ap length (sym kept.log) ∙ has.home.slots; journal = has.home.journal; boot = has.home.boot; greatest = has.home.greatest; last = has.home.last };
        log = record { keeps = relog.2.keeps; whole = relog.2.slots };
        journal = follow.stays kept.content relog.0 v.catalog v.catalog n (with_log ts n) has.journal refl refl (same_names v.catalog.heads) (ring_relogged log ts kept.content relog.0 relog.2 v.catalog is.before);
        units = record { tells = has.units.tells; marked = has.units.marked; reached = has.units.reached; names = has.units.names };
        order = record { suit = has.order.suit; order = has.order.order; few = has.order.few; moments = has.order.moments; fits = has.order.fits };
        told = in_order;
        files = stands_on_extents kept.content relog.0 v.catalog.heads n.durable.directory agree has.files;
        restorable = keeps_restorable.stands kept.content relog.0 v.catalog.heads n.durable.directory agree has.files has.restorable;
      }

  pub volume_then : HasVolume relog.0 w.catalog m
  volume_then = subst (λ (c : Catalog). HasVolume relog.0 c m) (sym same) (volume_as relog.0 v.catalog (with_log ts n) m volume_logged logged.name logged.durable logged.up)

  pub tells_then : TellsCatalog w.catalog relog.0
  tells_then = subst (λ (c : Catalog). TellsCatalog c relog.0) (sym same) (tells_relogged log ts kept.content relog.0 relog.2 v.catalog is.before (tells_now s log ts v entry is n kept))

  pub kept_then : w.store.disk.size ≡ v.store.disk.size → IsKept (seen s ts) w m
  kept_then size = stays (seen s ts) w (with_log ts n) m (record {
    content = relog.0;
    told = relog.1;
    name = kept.name ∙ ap (λ (c : Catalog). c.home.node) (sym same);
    blocks = kept.blocks ∙ sym size;
    has = subst (λ (c : Catalog). HasVolume relog.0 c (with_log ts n)) (sym same) volume_logged;
    log = refl;
    branches = kept.branches;
    locks = subst (λ (c : Catalog). AreLocks c.heads s.locks n.volatile.locks) (sym same) kept.locks;
    each = all_as (IsUnitOf n) (IsUnitOf (with_log ts n)) (seen s log).begun (λ u k. record { positions = k.positions; files = k.files; transaction = k.transaction }) kept.each;
  }) logged.name logged.blocks logged.durable logged.up logged.branches logged.locks

-- Acts by which a record alone is other.

record_line : (l : Line) → IsOfRecord (line_effect l) → ⊥
record_line (Started k) is = is
record_line (Ended t reason) is = is
record_line (Told d k rm) is = is

abbrev logs : Node → List Effect → Slots
logs n es = record_effects_in es n.durable.log

pub logs_alone : (n : Node) (a : table.Act) (e : Effect) (moment : ℕ) → IsOfRecord e → act_effects a n.volatile.records ≡ e ∷ [] → IsLogged (record_effect_in e n.durable.log) n (acted (Tables a moment) n)
logs_alone n (Acknowledges k) e moment of is = record { name = refl; blocks = refl; durable = ap (λ (es : List Effect). record n.durable { log = logs n es }) is; up = refl; branches = refl; locks = refl }
logs_alone n (Releases x rm) e moment of is = record { name = refl; blocks = refl; durable = ap (λ (es : List Effect). record n.durable { log = logs n es }) is; up = refl; branches = refl; locks = refl }
logs_alone n (Notes b) e moment of is = let never : ⊥ = cc in absurd never
logs_alone n (Undoes k) e moment of is = let never : ⊥ = cc in absurd never
logs_alone n (Accepts b c) e moment of is = absurd (subst IsOfRecord (sym (one_of _ e is)) of)
logs_alone n (Prepares b) e moment of is = absurd (subst IsOfRecord (sym (one_of _ e is)) of)
logs_alone n (Settles k o reason r) e moment of is = absurd (subst IsOfRecord (sym (one_of _ e is)) of)
logs_alone n (Leaves k) e moment of is = absurd (subst IsOfRecord (sym (one_of _ e is)) of)
logs_alone n (Sends m) e moment of is = absurd (subst IsOfRecord (sym (one_of _ e is)) of)
logs_alone n (Prints l) e moment of is = absurd (record_line l (subst IsOfRecord (sym (one_of (line_effect l) e is)) of))

-- The record is set so, and the act was done, or was perhaps under way where the disk went down.
module _ (s : rms.UnitsState) (log : Slots) (v w : VolumeState) (x : Id) (entry : Option LogRecord) (e : Effect) (of : IsOfRecord e) (is : HasLogged s log v entry) (ts : Slots) (slots : ts ≡ record_effect_in e log) where
  logged_so : (n : Node) (a : table.Act) → IsKept (seen s log) v n → MayDo n a e → IsLogged ts n (acted (Tables a (next_moment n)) n)
  logged_so n a kept may = subst (λ (us : Slots). IsLogged us n (acted (Tables a (next_moment n)) n)) (ap (record_effect_in e) kept.log ∙ sym slots) (logs_alone n a e (next_moment n) of may.gives)

  pub records : SetsRecord x entry log ts v w → w.store.disk.size ≡ v.store.disk.size → ForActs e (seen s log) v (Done (seen s ts) w)
  records sets size n a kept may = kept_then s log ts v w x entry is sets n (acted (Tables a (next_moment n)) n) kept may.after (logged_so n a kept may) size

  pub records_not : Breaks (SetsRecord x entry log ts v) v w → ForActs e (seen s log) v (Broken w)
  records_not breaks n a kept may = broken (seen s log) v n a (next_moment n) kept (SetsRecord x entry log ts v) w is.order.sound is.order.holds is.order.idle left breaks
    where
      one : (y z : List (List ℕ)) → ◌≡◌ {A = Option (List (List ℕ))} (Some y) (Some z) → y ≡ z
      one y z eq = cc

      left : (made : VolumeState) (b : List (List ℕ)) → SetsRecord x entry log ts v made → made.store.current ≡ Some b → IsLeftBy b (acted (Tables a (next_moment n)) (fallen (Some (Tables a (next_moment n))) n))
      left made b sets there =
          let m = acted (Tables a (next_moment n)) n in
          let logged = logged_so n a kept may in
          let re = relog s log ts v made x entry is sets n m kept may.after logged in
          subst (λ c. IsLeftBy c (acted (Tables a (next_moment n)) (fallen (Some (Tables a (next_moment n))) n))) (one re.0 b (sym re.1 ∙ there))
          (left_after (seen s log) v n a (next_moment n) kept re.0 made.catalog (volume_then s log ts v made x entry is sets n m kept may.after logged) (tells_then s log ts v made x entry is sets n m kept may.after logged)
          (subst (IsSound v.catalog.home.node v.store.disk.size) (sym (catalog_set x entry log ts v made sets)) is.order.sound))
