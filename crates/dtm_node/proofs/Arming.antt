-- FUSE: the disk of a node is armed.
use Rattle.std.proofs.Common.{◌≡◌, ℕ, [], ◌∷◌, Bool, true, false, None, refl, sym, ap, subst, ◌∙◌, arith}
use Rattle.std.specs.Prelude.{◌||◌, not}
use Rattle.block_disk.specs.Disk.{DiskState, armed, noted}
use Rattle.block_disk.specs.declared.disk.DiskCall.TheVariants as disk_call
use Rattle.recovery_units.specs.Uses.{IsCounted}
use Rattle.emitter_model.specs.Emitting.{Emits, Shown}
use Rattle.emitter_model.specs.transcript_model.Lines as line
use Rattle.script_lang.specs.script_model.Statements.{Fuse}
use Rattle.world_laws.specs.run_model.Operations.{first_of, refused_if}
use Rattle.world_laws.specs.run_model.World.{Arm, Arms, Node, acted}
use Rattle.world_laws.specs.run_model.Answers.{Serves, service}
use Rattle.recovery_units.specs.Laws.{KeepsNodes}
use Rattle.recovery_units.specs.State.{IsKept, UnitsState}
use Rattle.run_shared.specs.Sharing.{SharedState}
use Rattle.volume.specs.State.{VolumeState}
use Rattle.node_requests.specs.node_table.Standing.{IsUp, Up}
use Rattle.node_requests.specs.node_standing.Keeping.{PerformsRequest}
use Rattle.node_requests.specs.node_standing.Standing.{IsDown, IsRunning, NodeState, Place, PlaceRepresents, counts_of, disk_in, is_up}
use Rattle.dtm_node.specs.Nodes.{place_armed}
use Rattle.node_requests.specs.node_standing.Telling.{DiskAdvancesOverCalls, TellsTask, said_shared}
use Rattle.dtm_node.proofs.Answered.{calm_answers}
use Rattle.dtm_node.proofs.DiskLemmas.{disk_kept}
use Rattle.dtm_node.proofs.Held.{holds_same}
use Rattle.dtm_node.proofs.Stepping.{IsPlain, step_done}

abbrev pub armed_volume : ℕ → ℕ → VolumeState → VolumeState
armed_volume writes choice v = record v { store = record v.store { disk = armed writes choice v.store.disk } }

-- the node that a volume is on an armed disk
kept_armed : (writes choice : ℕ) (s : UnitsState) (v : VolumeState) (n : Node) → IsKept s v n → IsKept s (armed_volume writes choice v) n
kept_armed writes choice s v n h = record { content = h.content; told = h.told; name = h.name; blocks = h.blocks; has = h.has; log = h.log; branches = h.branches; locks = h.locks; each = h.each }

armed_stands : KeepsNodes → (writes choice clock : ℕ) (p : Place) (n : Node) → PlaceRepresents clock p n → PlaceRepresents clock (place_armed writes choice p) (acted (Arms writes choice) n)
armed_stands law writes choice clock (IsDown has_parts d) n s = record {
  down = s.down;
  reserved = s.reserved;
  told = s.told;
  disk = disk_kept n n.up (Arm writes choice ∷ n.calls) d (armed writes choice d) (λ e. e) refl refl s.disk;
}
armed_stands law writes choice clock (IsRunning r) n s =
    let k = s.stands in
    record {
      stands = record {
        kept = kept_armed writes choice r.stored.units r.stored.volume (acted (Arms writes choice) n) (law.stays r.stored.units r.stored.volume n (acted (Arms writes choice) n) k.kept refl refl refl refl refl refl);
        table = k.table;
        clock_is = k.clock_is;
        doubt = k.doubt;
        names = k.names;
        up = k.up;
        was_up = k.was_up;
        under_way = k.under_way;
      };
      drawn = s.drawn;
      declared = s.declared;
      preparation = s.preparation;
    }

armed_disk : (writes choice : ℕ) (p : Place) → disk_in (place_armed writes choice p) ≡ armed writes choice (disk_in p)
armed_disk writes choice (IsDown has_parts d) = refl
armed_disk writes choice (IsRunning r) = refl

armed_up : (writes choice : ℕ) (p : Place) → is_up (place_armed writes choice p) ≡ is_up p
armed_up writes choice (IsDown has_parts d) = refl
armed_up writes choice (IsRunning r) = refl

or_true : (b : Bool) → (b || true) ≡ true
or_true true = refl
or_true false = refl

fuse_plain : (writes choice : ℕ) → IsPlain (service (Fuse writes choice)) false
fuse_plain writes choice = record { powers = refl; occupies = refl; closing = refl; closing_lines = λ n. refl; goes = refl }

module _ (writes choice : ℕ) (k : NodeState) (s : SharedState) (a b : Shown) (shows : Emits a (line.Normal ∷ []) b) where
  abbrev pub kept_armed_so : NodeState
  kept_armed_so = record k { place = place_armed writes choice k.place }

  pub fuse_tells : TellsTask (Serves (Fuse writes choice)) true false k s a b kept_armed_so s
  fuse_tells = record {
    lines = [];
    answer = line.Normal;
    emits = shows;
    own = tt;
    refused = λ refusal r. (let f : ⊥ = cc in absurd f);
    others = λ none. refl;
    says = ap (λ (u : Bool). record { nodes = record { name = k.name; up = u; unmade = k.unmade } ∷ []; shared = said_shared s }) (sym (armed_up writes choice k.place));
    calls = ap (λ (d : DiskState). d.calls) (armed_disk writes choice k.place);
    failures = λ cause i counted. absurd i;
    passes = subst (λ d. DiskAdvancesOverCalls (disk_in k.place) d) (sym (armed_disk writes choice k.place)) (record { size = refl; faults = λ c. omega arith; stops = λ c. omega arith; counted = λ c. c; told = refl });
    quiet = λ x. refl;
    fused = λ w c q. refl;
    boots = λ q. (let f : ⊥ = cc in absurd f);
    answered = calm_answers (Serves (Fuse writes choice)) k.name None [] line.Normal false tt refl (λ q none. (let f : ⊥ = cc in f)) (λ none. refl);
    held = λ down unused. (armed_up writes choice k.place ∙ down, holds_same (disk_in k.place) (disk_in kept_armed_so.place) (ap (λ (d : DiskState). d.pending) (armed_disk writes choice k.place)) (ap (λ (d : DiskState). d.seen) (armed_disk writes choice k.place)));
  }

  pub fuse_performs : KeepsNodes → PerformsRequest (Fuse writes choice) k s a b kept_armed_so s
  fuse_performs law = λ log n w h share kept promised. (
    false,
    record {
      lines = [];
      answer = line.Normal;
      node = acted (Arms writes choice) n;
      shared = w;
      step = step_done w n (Serves (Fuse writes choice)) (counts_of (disk_in k.place)) (counts_of (disk_in kept_armed_so.place)) (rw (armed_disk writes choice k.place) (omega arith)) (rw (armed_disk writes choice k.place) (omega arith)) false (fuse_plain writes choice)
          (ap (λ (x : Bool). first_of (refused_if (not x) line.NodeDown) None) (or_true n.up)) refl;
      emits = shows;
      alike = share;
      stands = record {
        name = h.name;
        blocks = h.blocks ∙ ap (λ (d : DiskState). d.size) (sym (armed_disk writes choice k.place));
        clock = h.clock;
        unmade = h.unmade;
        place = armed_stands law writes choice k.clock k.place n h.place;
        calls = ap (λ (d : DiskState). d.calls) (armed_disk writes choice k.place) ∙ ap (noted (disk_call.Arm writes choice)) h.calls;
        counts = subst IsCounted (sym (armed_disk writes choice k.place)) h.counts;
      };
    },
  )

-- what is in order still is, on the armed disk
pub armed_order : (writes choice : ℕ) (r : Up) → IsUp r → IsUp (record r { stored = record r.stored { volume = armed_volume writes choice r.stored.volume } })
armed_order writes choice r h =
    let o = h.follows.order in
    record {
      follows = record {
        order = record { idle = record { ready = record { fitting = o.idle.ready.fitting; settled = o.idle.ready.settled; closed = o.idle.ready.closed }; unstaged = o.idle.unstaged; current = o.idle.current }; frames = o.frames; heads = o.heads; sound = o.sound; holds = o.holds; least = o.least; most = o.most; ascends = o.ascends; room = o.room; within = o.within; few = o.few; slots = o.slots; images = o.images };
        node = h.follows.node;
        branches = h.follows.branches;
        told = h.follows.told;
        doubt = h.follows.doubt;
      };
      within = h.within;
    }
