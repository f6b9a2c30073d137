-- A node that drew one id more.
use Rattle.std.proofs.Common.{inl, inr, ℕ, ◌+◌, List, refl, ap, arith}
use Rattle.world_laws.specs.run_model.World.{Draws, Node, acted}
use Rattle.world_laws.specs.Running.{IsDrawn}
use Rattle.vms_model.specs.Ids.{Id}
use Rattle.node_table.specs.recovery_units.Laws.{KeepsNodes}
use Rattle.node_table.specs.Standing.{IsUp, Up, UpRepresents}
use Rattle.node_requests.proofs.Drawing.{with_drawn}

drawn_more : (name : List ℕ) (boot drawn : ℕ) (id : Id) → IsDrawn name boot drawn id → IsDrawn name boot (drawn + 1) id
drawn_more name boot drawn id h = (
  h.0,
  elim h.1 [
    | inl earlier ↦ inl earlier
    | inr here ↦ (let l = here.1 in inr (here.0, omega arith))
  ],
)

pub draws : KeepsNodes → (clock : ℕ) (r : Up) (n : Node) → UpRepresents clock r n → UpRepresents clock (with_drawn r) (acted Draws n)
draws law clock r n h =
    let k = h.stands in
    record {
      stands = record {
        kept = law.stays r.stored.units r.stored.volume n (acted Draws n) k.kept refl refl refl refl refl refl;
        table = k.table;
        clock_is = k.clock_is;
        doubt = k.doubt;
        names = k.names;
        up = k.up;
        was_up = k.was_up;
        under_way = k.under_way;
      };
      drawn = ap (λ (d : ℕ). d + 1) h.drawn;
      declared = h.declared;
      preparation = λ key i. drawn_more n.name n.durable.boot n.volatile.drawn key.serial (h.preparation key i);
    }

pub drawn_up : (r : Up) → IsUp r → IsUp (with_drawn r)
drawn_up r up = record { follows = up.follows; within = up.within }
