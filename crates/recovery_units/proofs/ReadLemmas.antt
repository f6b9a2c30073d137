-- What holds of a volume holds of one that is the same but for reads.
use Rattle.std.proofs.Common.{ℕ, List, refl, sym, subst}
use Rattle.careful_write.specs.Reads.{as_read_by}
use Rattle.careful_write.proofs.Reading.{idle_read}
use Rattle.volume_model.specs.commit_protocol.Table.{Branch}
use Rattle.volume_model.specs.run_model.World.{Node, File}
use Rattle.vms_model.specs.Ids.{Id}
use Rattle.volume.specs.State.{SameVolume, VolumeState}
use Rattle.recovery_units.specs.Calls.{IsAsked, IsAskedAlone, IsRestarting}
use Rattle.recovery_units.specs.State.{IsEarly, IsInOrder, IsKept, UnitsState}
use Rattle.recovery_units.specs.Uses.{Grows}

-- the node of the world that units and volume are
pub kept_read : (v w : VolumeState) → SameVolume v w → (s : UnitsState) (n : Node) → IsKept s v n → IsKept s w n
kept_read v w same s n kept = subst (λ (x : VolumeState). IsKept s x n) (sym same) (record {
  content = kept.content;
  told = kept.told;
  name = kept.name;
  blocks = kept.blocks;
  has = kept.has;
  log = kept.log;
  branches = kept.branches;
  locks = kept.locks;
  each = kept.each;
})

module _ (v w : VolumeState) (same : SameVolume v w) where
  -- what holds on any disk
  pub order_read : (s : UnitsState) → IsInOrder s v → IsInOrder s w
  order_read s order = subst (IsInOrder s) (sym same) (record {
    idle = idle_read v.store (as_read_by w.store v.store) refl order.idle;
    frames = order.frames;
    heads = order.heads;
    sound = order.sound;
    holds = order.holds;
    least = order.least;
    most = order.most;
    ascends = order.ascends;
    room = order.room;
    within = order.within;
    few = order.few;
    slots = order.slots;
    images = order.images;
  })

  -- how far its numbers that only grow are from their ends
  pub early_read : IsEarly v → IsEarly w
  early_read early = subst IsEarly (sym same) (record { low = early.low; moment = early.moment; images = early.images })

  -- the node that is restarting on it
  pub restarting_read : (n : Node) → IsRestarting v n → IsRestarting w n
  restarting_read n is = subst (λ (x : VolumeState). IsRestarting x n) (sym same) (record {
    content = is.content;
    told = is.told;
    name = is.name;
    blocks = is.blocks;
    leaves = is.leaves;
    disk = is.disk;
    booted = is.booted;
  })

  -- what is asked of it for a branch
  pub asked_read : (serial : Id) (f : ℕ) (s : UnitsState) (n : Node) (name : List ℕ) (file : File) (b : Branch) → IsAsked serial f s v n name file b → IsAsked serial f s w n name file b
  asked_read serial f s n name file b asked = subst (λ (x : VolumeState). IsAsked serial f s x n name file b) (sym same) (record {
    kept = kept_read v (record v { store = as_read_by w.store v.store }) refl s n asked.kept;
    up = asked.up;
    branch = asked.branch;
    unprepared = asked.unprepared;
    head = asked.head;
    named = asked.named;
    found = asked.found;
  })

  -- and without one
  pub asked_alone_read : (f : ℕ) (s : UnitsState) (n : Node) (name : List ℕ) (file : File) → IsAskedAlone f s v n name file → IsAskedAlone f s w n name file
  asked_alone_read f s n name file asked = subst (λ (x : VolumeState). IsAskedAlone f s x n name file) (sym same) (record {
    kept = kept_read v (record v { store = as_read_by w.store v.store }) refl s n asked.kept;
    up = asked.up;
    head = asked.head;
    named = asked.named;
    found = asked.found;
  })

  -- what a call leaves of a volume: from it on, and up to it
  pub grows_from : (settlements clock : ℕ) (x : VolumeState) → Grows settlements clock w x → Grows settlements clock v x
  grows_from settlements clock x grows =
      let g = subst (λ (y : VolumeState). Grows settlements clock y x) same grows in
      record { goes = g.goes; pool = g.pool; node = g.node; boot = g.boot; greatest = g.greatest; end = g.end }

  pub grows_to : (settlements clock : ℕ) (u : VolumeState) → Grows settlements clock u v → Grows settlements clock u w
  grows_to settlements clock u g =
      subst (Grows settlements clock u) (sym same) (record { goes = g.goes; pool = g.pool; node = g.node; boot = g.boot; greatest = g.greatest; end = g.end })
