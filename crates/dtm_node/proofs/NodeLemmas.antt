-- What the code keeps of a node, up and down.
use Rattle.std.proofs.Common.{◌≡◌, ℕ, ◌≤◌, ◌<◌, ◌+◌, true, false, Option, refl, arith}
use Rattle.block_disk.specs.Disk.{DiskState}
use Rattle.emitter_model.specs.commit_protocol.Rows as rows
use Rattle.emitter_model.specs.commit_protocol.Rows.{Event}
use Rattle.emitter_model.specs.commit_protocol.Allowed.{allowed}
use Rattle.emitter_model.specs.commit_protocol.Table.{Tm}
use Rattle.world_laws.specs.log_laws.Slots.{branches_added}
use Rattle.recovery_units.specs.State.{UnitsState}
use Rattle.run_shared.specs.Sharing.{SharedState}
use Rattle.node_requests.specs.node_table.Code.{up_of}
use Rattle.node_requests.specs.node_table.Running.{Grown, IsEarlyFor, IsFreshFor, IsTold}
use Rattle.node_requests.specs.node_table.Standing.{IsUp, Up}
use Rattle.node_requests.specs.node_table.declared.running.Running.{Running}
use Rattle.dtm_node.specs.declared.node.Node.{Node}
use Rattle.dtm_node.specs.declared.node.Parts.{Parts}
use Rattle.dtm_node.specs.declared.node.Place as code
use Rattle.dtm_node.specs.declared.node.Place.TheVariants as code_place
use Rattle.dtm_node.specs.Nodes.{IsFallen, IsPlaceOf, kept_of, place_of}
use Rattle.node_requests.specs.Requests.{HasMoved, MayServe}
use Rattle.node_requests.specs.Running.{ComesFreely, HasGrown}
use Rattle.dtm_node.proofs.Performing.{kept_up}

-- A free event is told to any table, by no branch that begins.

pub free_allowed : (tm : Tm) (e : Event) → ComesFreely e → allowed tm e ≡ true
free_allowed tm (rows.Got m) f = refl
free_allowed tm (rows.Clock now) f = refl
free_allowed tm (rows.LinkDown other) f = refl
free_allowed tm rows.RunDown f = refl
free_allowed tm (rows.Start tid due) f = absurd f
free_allowed tm (rows.Begin tid serial bid) f = absurd f
free_allowed tm (rows.Authorise tid bid) f = absurd f
free_allowed tm (rows.JoinRm serial rm) f = absurd f
free_allowed tm (rows.Changed serial) f = absurd f
free_allowed tm (rows.EndTrans tid) f = absurd f
free_allowed tm (rows.EndBranch serial) f = absurd f
free_allowed tm (rows.AbortBranch serial why) f = absurd f
free_allowed tm (rows.Replied serial rm reply) f = absurd f
free_allowed tm (rows.InquireBranch serial) f = absurd f

pub free_told : (e : Event) → ComesFreely e → IsTold e
free_told (rows.Changed serial) f = absurd f
free_told (rows.Got m) f = tt
free_told (rows.Clock now) f = tt
free_told (rows.LinkDown other) f = tt
free_told rows.RunDown f = tt
free_told (rows.Start tid due) f = tt
free_told (rows.Begin tid serial bid) f = tt
free_told (rows.Authorise tid bid) f = tt
free_told (rows.JoinRm serial rm) f = tt
free_told (rows.EndTrans tid) f = tt
free_told (rows.EndBranch serial) f = tt
free_told (rows.AbortBranch serial why) f = tt
free_told (rows.Replied serial rm reply) f = tt
free_told (rows.InquireBranch serial) f = tt

pub free_fresh : (r : Up) (e : Event) → ComesFreely e → IsFreshFor r e
free_fresh r (rows.Start tid due) f = absurd f
free_fresh r (rows.Begin tid serial bid) f = absurd f
free_fresh r (rows.Got m) f = tt
free_fresh r (rows.Clock now) f = tt
free_fresh r (rows.LinkDown other) f = tt
free_fresh r rows.RunDown f = tt
free_fresh r (rows.Authorise tid bid) f = tt
free_fresh r (rows.JoinRm serial rm) f = tt
free_fresh r (rows.Changed serial) f = tt
free_fresh r (rows.EndTrans tid) f = tt
free_fresh r (rows.EndBranch serial) f = tt
free_fresh r (rows.AbortBranch serial why) f = tt
free_fresh r (rows.Replied serial rm reply) f = tt
free_fresh r (rows.InquireBranch serial) f = tt

free_begun : (e : Event) → ComesFreely e → branches_added e ≡ 0
free_begun (rows.Got m) f = refl
free_begun (rows.Clock now) f = refl
free_begun (rows.LinkDown other) f = refl
free_begun rows.RunDown f = refl
free_begun (rows.Start tid due) f = absurd f
free_begun (rows.Begin tid serial bid) f = absurd f
free_begun (rows.Authorise tid bid) f = absurd f
free_begun (rows.JoinRm serial rm) f = absurd f
free_begun (rows.Changed serial) f = absurd f
free_begun (rows.EndTrans tid) f = absurd f
free_begun (rows.EndBranch serial) f = absurd f
free_begun (rows.AbortBranch serial why) f = absurd f
free_begun (rows.Replied serial rm reply) f = absurd f
free_begun (rows.InquireBranch serial) f = absurd f

-- Numbers that only grow.

pub free_early : (e : Event) (r : Up) (count : ℕ) → ComesFreely e → HasGrown count r → count < 1000002 → IsEarlyFor e r
free_early e r count f g few = let b = free_begun e f in let m = g.moment in let l = g.end in record { moment = omega arith; low = omega arith }

pub free_grown : (e : Event) (clock count : ℕ) (old new : Up) → ComesFreely e → clock ≤ 24000000000000 → Grown e clock old new → new.drawn ≡ old.drawn → HasGrown count old → HasGrown count new
free_grown e clock count old new f early g drawn h = let b = free_begun e f in let m = g.moment in let l = g.end in let x = h.moment in let y = h.end in let d = h.drawn in record { moment = omega arith; end = omega arith; drawn = omega arith }

pub moved_grown : (clock count : ℕ) (old new : Up) → clock ≤ 24000000000000 → HasMoved clock old new → new.drawn ≤ old.drawn + 1 → HasGrown count old → HasGrown (count + 1) new
moved_grown clock count old new early g drawn h = let m = g.moment in let l = g.end in let x = h.moment in let y = h.end in let d = h.drawn in record { moment = omega arith; end = omega arith; drawn = omega arith }

pub may_serve : (clock count : ℕ) (r : Up) → IsUp r → HasGrown count r → count < 1000002 → clock ≤ 24000000000000 → MayServe clock r
may_serve clock count r up h few early = let x = h.moment in let y = h.end in let d = h.drawn in record { up = up; moment = omega arith; low = omega arith; drawn = omega arith; time = omega arith }

pub grown_more : (count : ℕ) (r : Up) → HasGrown count r → HasGrown (count + 1) r
grown_more count r h = let x = h.moment in let y = h.end in let d = h.drawn in record { moment = omega arith; end = omega arith; drawn = omega arith }

-- What is kept.

module _ {D U : Type 0} (state : D → DiskState) (units : U → UnitsState) where
  pub kept_is_up : (n : Node D U) (r : Running D U) → n.place ≡ code_place.Up r → n.unmade ≡ false → kept_of state units n ≡ kept_up n.name n.clock.0 (up_of units r)
  kept_is_up n r is made = λ i. record { name = n.name; unmade = made i; clock = n.clock.0; place = place_of state units (is i) }

  pub kept_is_down : (n : Node D U) (disk : D) (parts : Option (Parts U)) → n.place ≡ code_place.Down disk parts → kept_of state units n ≡ record { name = n.name; unmade = n.unmade; clock = n.clock.0; place = place_of state units (code_place.Down disk parts) }
  kept_is_down n disk parts is = λ i. record { name = n.name; unmade = n.unmade; clock = n.clock.0; place = place_of state units (is i) }

  -- a place that fell may be that of any node after any statements
  pub fallen_place_of : (count : ℕ) (s : SharedState) (n : Node D U) (p : code.Place D U) → IsFallen state units p → IsPlaceOf state units count s n p
  fallen_place_of count s n (code_place.Down disk parts) h = h
  fallen_place_of count s n (code_place.Up r) h = absurd h
