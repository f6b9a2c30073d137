-- A restart undoes what a fall left, and hands out the units of the prepared branches.
use Rattle.std.proofs.Common.{◌≡◌, ◌∙◌, ℕ, ◌+◌, ◌-◌, ◌++◌, ◌<◌, ◌≤◌, List, [], length, map, ap, sym, subst, arith}
use Rattle.std.specs.Option.{IfSome}
use Rattle.std.specs.List.{AllByRecursion}
use Rattle.commit_protocol.specs.Messages.{LogRecord}
use Rattle.commit_protocol.specs.Table.{branches_of}
use Rattle.lmcp_log.specs.Keeping.{Keeps}
use Rattle.lmcp_log.specs.Log.{OnlyRead}
use Rattle.lmcp_log.proofs.Few.{few_long}
use Rattle.log_laws.specs.Slots.{Slots}
use Rattle.lmcp_log.specs.tm_types.Parts.{log_record_of}
use Rattle.rms_units.specs.unit_restarts.Restarting.{RestartTold, Restarts}
use Rattle.unit_table.specs.Units.{begun}
use Rattle.vms_base.specs.declared.protocol.LogRec.{LogRec}
use Rattle.volume.specs.State.{VolumeState}
use Rattle.volume.specs.declared.catalog.Catalog.{Catalog}
use Rattle.recovery_units.specs.State.{AreOfBranches}
use Rattle.recovery_units.specs.Told.{ReopenedTold}
use Rattle.recovery_units.specs.declared.settled.SettledUnit.{SettledUnit}
use Rattle.rms_units.specs.State as rms
use Rattle.node_units.specs.declared.begun.BegunUnit.{BegunUnit}
use Rattle.node_units.specs.Told.{unit_settled}
use Rattle.node_units.specs.Tokens.{TokensRepresent, tokens_for}
use Rattle.node_units.proofs.Answering.{images_since}
use Rattle.node_units.proofs.Beginning.{begins_few, of_records}
use Rattle.node_units.proofs.Handing.{few_committed, no_tokens, places_many, stand_returned}
use Rattle.node_units.proofs.Loading.{opens_err, opens_ok, order_read, reading_err}
use Rattle.node_units.proofs.Nothing.{told_early}
use Rattle.node_units.proofs.Seeing.{early_since, order_seen}
use Rattle.node_units.proofs.Taking.{none_before, order_before, order_none, sized_read, start_reopened}
use Rattle.node_units.proofs.units.NodeUnitsRecoveryUnits.reopen.Goals as goal
use Rattle.node_units.proofs.units.NodeUnitsRecoveryUnits.reopen.Goals.{After-hold_prepared}

pub reopen-done-requires-clause-none : goal.reopen-done-requires-clause-none
reopen-done-requires-clause-none g c = none_before c.self.inside.units c.self.inside.log c.args.volume.now c.args.self.now c.stand_in_order.ensures c.self.view_is c.requires.empty c.requires.order

pub reopen-done-requires-clause-order : goal.reopen-done-requires-clause-order
reopen-done-requires-clause-order g c =
    order_read c.blocks_are_whole.new.volume c.load.new.vol c.load.ensures.catalog c.load.ensures.store c.self.inside.units
    (subst (rms.IsInOrder c.self.inside.units) (sym c.blocks_are_whole.ensures.same) (order_before c.self.inside.units c.self.inside.log c.args.volume.now c.args.self.now c.stand_in_order.ensures c.self.view_is c.requires.empty c.requires.order))

pub reopen-done-requires-clause-early : goal.reopen-done-requires-clause-early
reopen-done-requires-clause-early g c = early_since c.args.volume.now c.load.new.vol (c.load.ensures.catalog ∙ ap (λ (z : VolumeState). z.catalog) c.blocks_are_whole.ensures.same) c.requires.early

pub returns-in-Err-clause-err : goal.returns-in-Err-clause-err
returns-in-Err-clause-err g c =
    let v = c.args.volume.now in
    let only = subst (λ (z : VolumeState). OnlyRead z.store c.load.new.vol.store) c.blocks_are_whole.ensures.same c.load.ensures.store in
    reading_err c.args.clock.0 v c.load.new.vol c.args.out.now only (let far = c.requires.clock in omega (arith, far))
    (order_none c.self.inside.units c.self.inside.log v c.args.self.now c.stand_in_order.ensures c.self.view_is c.requires.empty c.requires.order) c.requires.early c.blocks_are_whole.ensures.whole (ap (λ (t : ReopenedTold). t.settled) c.requires.none)

pub returns-in-Err-done-clause-moments : goal.returns-in-Err-done-clause-moments
returns-in-Err-done-clause-moments g c =
    let w = c.reopen-done.new.volume in
    let told : c.tell_undone.new.out.settled ≡ map unit_settled c.reopen-done.new.out.undone = ap (λ (t : ReopenedTold). t.settled) c.tell_undone.ensures ∙ (λ i. (c.requires.none i).settled ++ map unit_settled (c.undone.ensures i)) in
    subst (AllByRecursion (λ (u : SettledUnit). u.moment.0 ≤ w.catalog.home.greatest_moment.0)) (sym told) (told_early w c.reopen-done.new.out.undone c.reopen-done.ensures.moments)

pub returns-in-Err-done-clause-err : goal.returns-in-Err-done-clause-err
returns-in-Err-done-clause-err g c =
    let v = c.args.volume.now in
    let x = c.load.new.vol in
    let same = c.blocks_are_whole.ensures.same in
    let only = subst (λ (z : VolumeState). OnlyRead z.store x.store) same c.load.ensures.store in
    let catalog : x.catalog ≡ v.catalog = c.load.ensures.catalog ∙ ap (λ (z : VolumeState). z.catalog) same in
    let told : c.tell_undone.new.out.settled ≡ map unit_settled c.reopen-done.new.out.undone = ap (λ (t : ReopenedTold). t.settled) c.tell_undone.ensures ∙ (λ i. (c.requires.none i).settled ++ map unit_settled (c.undone.ensures i)) in
    opens_err v x catalog only c.args.clock.0 (let far = c.requires.clock in omega (arith, far))
    (order_none c.self.inside.units c.self.inside.log v c.args.self.now c.stand_in_order.ensures c.self.view_is c.requires.empty c.requires.order) c.requires.early (sized_read v x only c.blocks_are_whole.ensures.whole)
    c.reopen-done.new.volume c.reopen-done.new.out.undone c.tell_undone.new.out c.in-Err-done.ensures.err told

pub tell_committed-requires : goal.tell_committed-requires
tell_committed-requires g c =
    let found = c.load.new.log in
    let committed : length c.tell_prepared.new.out.committed ≡ 0 = ap (λ (t : ReopenedTold). length t.committed) (c.tell_prepared.ensures ∙ ap (λ (t : ReopenedTold). record t { prepared = t.prepared ++ c.prepared.result.now }) c.tell_undone.ensures)
    ∙ ap (λ (t : ReopenedTold). length t.committed) c.requires.none in
    let slots : c.blocks_are_whole.new.volume.catalog.home.slots ≤ 512 = subst (λ (z : VolumeState). z.catalog.home.slots ≤ 512) (sym c.blocks_are_whole.ensures.same) c.requires.order.sound.sizes.most_slots in
    let long = ap (λ (ss : Slots). length ss) c.reopen-done.ensures.log ∙ few_long (64 - length c.reopen-done.new.out.undone) found ∙ c.in-Ok.ensures.count in
    let few = few_committed c.args.clock.0 c.load.new.vol c.reopen-done.new.volume found c.reopen-done.new.log c.reopen-done.new.self.units c.reopen-done.new.self.locks c.reopen-done.new.out c.in-Ok-done.ensures.done (omega (arith, long, slots)) in
    let same = ap (λ (rs : List LogRec). length rs) c.committed.ensures in
    omega (arith, committed, few, same)

pub hold_prepared-requires-clause-units : goal.hold_prepared-requires-clause-units
hold_prepared-requires-clause-units g c =
    let nothing : c.tell_undone.new.out.prepared ≡ [] = ap (λ (t : ReopenedTold). t.prepared) c.tell_undone.ensures ∙ ap (λ (t : ReopenedTold). t.prepared) c.requires.none in
    let prepared : c.tell_committed.new.out.prepared ≡ c.reopen-done.new.out.prepared = ap (λ (t : ReopenedTold). t.prepared) (c.tell_committed.ensures) ∙ ap (λ (t : ReopenedTold). t.prepared) c.tell_prepared.ensures ∙ (λ i. nothing i ++ c.prepared.ensures i) in
    places_many c.args.clock.0 c.load.new.vol c.reopen-done.new.volume c.load.new.log c.reopen-done.new.log c.reopen-done.new.self.units c.reopen-done.new.self.locks c.reopen-done.new.out c.in-Ok-done.ensures.done c.stand_in_order-2.ensures
    ∙ ap (λ (rs : List LogRec). length rs) (sym (c.prepared-2.ensures ∙ prepared))

module _ (g : _) (c : After-hold_prepared g) where
  abbrev v : VolumeState
  v = c.args.volume.now

  abbrev x : VolumeState
  x = c.load.new.vol

  abbrev w : VolumeState
  w = c.reopen-done.new.volume

  abbrev told : RestartTold
  told = c.reopen-done.new.out

  abbrev out : ReopenedTold
  out = c.tell_committed.new.out

  abbrev found : Slots
  found = c.load.new.log

  abbrev log : Slots
  log = c.reopen-done.new.log

  abbrev s : rms.UnitsState
  s = c.reopen-done.new.self

  restarts : Restarts c.args.clock.0 x found log s.units s.locks w told
  restarts = c.in-Ok-done.ensures.done

  settled : out.settled ≡ map unit_settled told.undone
  settled = ap (λ (t : ReopenedTold). t.settled) c.tell_committed.ensures ∙ ap (λ (t : ReopenedTold). t.settled) c.tell_prepared.ensures ∙ ap (λ (t : ReopenedTold). t.settled) c.tell_undone.ensures
      ∙ (λ i. (c.requires.none i).settled ++ map unit_settled (c.undone.ensures i))

  none_prepared : c.tell_undone.new.out.prepared ≡ []
  none_prepared = ap (λ (t : ReopenedTold). t.prepared) c.tell_undone.ensures ∙ ap (λ (t : ReopenedTold). t.prepared) c.requires.none

  prepared : out.prepared ≡ told.prepared
  prepared = ap (λ (t : ReopenedTold). t.prepared) c.tell_committed.ensures ∙ ap (λ (t : ReopenedTold). t.prepared) c.tell_prepared.ensures ∙ (λ i. none_prepared i ++ c.prepared.ensures i)

  none_committed : c.tell_prepared.new.out.committed ≡ []
  none_committed = ap (λ (t : ReopenedTold). t.committed) c.tell_prepared.ensures ∙ ap (λ (t : ReopenedTold). t.committed) c.tell_undone.ensures ∙ ap (λ (t : ReopenedTold). t.committed) c.requires.none

  committed : out.committed ≡ told.committed
  committed = ap (λ (t : ReopenedTold). t.committed) c.tell_committed.ensures ∙ (λ i. none_committed i ++ c.committed.ensures i)

  catalog : x.catalog ≡ v.catalog
  catalog = c.load.ensures.catalog ∙ ap (λ (z : VolumeState). z.catalog) c.blocks_are_whole.ensures.same

  only : OnlyRead v.store x.store
  only = subst (λ (z : VolumeState). OnlyRead z.store x.store) c.blocks_are_whole.ensures.same c.load.ensures.store

  long_found : length found ≡ v.catalog.home.slots
  long_found = c.in-Ok.ensures.count ∙ ap (λ (z : VolumeState). z.catalog.home.slots) c.blocks_are_whole.ensures.same

  long : length log ≡ v.catalog.home.slots
  long = ap (λ (ss : Slots). length ss) c.reopen-done.ensures.log ∙ few_long (64 - length told.undone) found ∙ long_found

  tokens : c.hold_prepared.new.begun.items ≡ tokens_for told.prepared told.units
  tokens =
      let before = no_tokens c.self.inside.begun.items c.self.inside.units c.self.invariant.0 (none_before c.self.inside.units c.self.inside.log v c.args.self.now c.stand_in_order.ensures c.self.view_is c.requires.empty c.requires.order) in
      c.hold_prepared.ensures.held ∙ (λ i. before i ++ tokens_for ((c.prepared-2.ensures ∙ prepared) i) told.units)

pub invariant_of-self-2 : goal.invariant_of-self-2
invariant_of-self-2 g c = (
  subst (λ (ts : List BegunUnit). TokensRepresent ts (s g c)) (sym (tokens g c))
      (stand_returned c.args.clock.0 (x g c) (w g c) (found g c) (log g c) (s g c).units (s g c).locks (told g c) (restarts g c) c.stand_in_order-2.ensures),
  (let room = c.self.invariant.1 in let more = c.hold_prepared.ensures.room in omega (arith, room, more)),
)

pub returns-clause-units : goal.returns-clause-units
returns-clause-units g c = subst (λ (rs : List LogRec). AreOfBranches (begun (s g c).units) (branches_of (map log_record_of rs))) (sym (prepared g c)) (of_records (map log_record_of (told g c).prepared) (begun (s g c).units) (restarts g c).records)

pub returns-clause-begins : goal.returns-clause-begins
returns-clause-begins g c =
    let most = c.requires.order.sound.sizes.most_slots in
    let many = long_found g c in
    let same = ap (λ (rs : List LogRec). length rs) (prepared g c) in
    let few = (restarts g c).few in
    begins_few (64 - length (told g c).undone) (found g c) (log g c) (out g c) (restarts g c).votes c.load.ensures.records c.load.ensures.distinct (omega (arith, many, most)) c.reopen-done.ensures.log
    (ap (λ (rs : List LogRec). map log_record_of rs) (prepared g c) ∙ (restarts g c).arranged) (ap (λ (rs : List LogRec). map log_record_of rs) (committed g c) ∙ (restarts g c).committed) (omega (arith, same, few))

pub returns-clause-order : goal.returns-clause-order
returns-clause-order g c =
    let start = start_reopened c.args.clock.0 (x g c) (w g c) (told g c).undone (restarts g c).left (restarts g c).reopens ∙ ap (λ (k : Catalog). k.ru.start) (catalog g c) in
    let begins = c.requires.order.sound.ru_start in
    let many = long g c in
    order_seen (s g c) (log g c) (w g c) c.stand_in_order-2.ensures (omega (arith, start, begins, many)) c.in-Ok-done.ensures.order

pub returns-clause-images : goal.returns-clause-images
returns-clause-images g c = images_since (v g c) (x g c) (w g c) (catalog g c) c.in-Ok-done.ensures.images

pub returns-clause-moments : goal.returns-clause-moments
returns-clause-moments g c = subst (AllByRecursion (λ (u : SettledUnit). u.moment.0 ≤ (w g c).catalog.home.greatest_moment.0)) (sym (settled g c)) (told_early (w g c) (told g c).undone c.reopen-done.ensures.moments)

pub returns-clause-done : goal.returns-clause-done
returns-clause-done g c =
    opens_ok (v g c) (x g c) (catalog g c) (only g c) c.args.clock.0 (let far = c.requires.clock in omega (arith, far))
    (order_none c.self.inside.units c.self.inside.log (v g c) c.args.self.now c.stand_in_order.ensures c.self.view_is c.requires.empty c.requires.order) c.requires.early (sized_read (v g c) (x g c) (only g c) c.blocks_are_whole.ensures.whole)
    (found g c) (log g c) (s g c).units (s g c).locks (w g c) (told g c) (out g c)
    (subst (λ (z : VolumeState). (ss : Slots) → length ss ≡ z.catalog.home.slots → IfSome z.store.current (λ a. Keeps ss a → found g c ≡ ss)) c.blocks_are_whole.ensures.same c.in-Ok.ensures.again)
    (restarts g c) c.reopen-done.ensures.log c.reopen-done.ensures.goes.size (settled g c) (prepared g c)
