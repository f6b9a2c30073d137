-- The place of a node over a boot or an INIT.
use Rattle.std.proofs.Common.{◌≡◌, ℕ, ◌+◌, ◌≤◌, List, [], ◌∷◌, ◌++◌, true, false, Some, None, map, refl, ◌∙◌, sym, subst, append_assoc, arith}
use Rattle.block_disk.specs.Disk.{DiskState}
use Rattle.careful_write.specs.declared.down.Down.{Down}
use Rattle.emitter_model.specs.Emitting.{Emits, Shown}
use Rattle.emitter_model.specs.transcript_model.Lines as line
use Rattle.emitter_model.specs.transcript_model.Lines.{Cause, Line}
use Rattle.emitter_model.proofs.EmittingLemmas.{emits_on}
use Rattle.volume.specs.State.{VolumeState}
use Rattle.recovery_units.specs.State.{UnitsState}
use Rattle.run_shared.specs.Sharing.{SharedState}
use Rattle.node_requests.specs.node_table.Code.{up_of}
use Rattle.node_requests.specs.node_table.Standing.{Up}
use Rattle.node_requests.specs.node_table.declared.running.Running.{Running}
use Rattle.dtm_node.specs.declared.node.Node.{Node}
use Rattle.dtm_node.specs.declared.node.Place as code
use Rattle.dtm_node.specs.declared.node.Place.TheVariants as code_place
use Rattle.dtm_node.specs.Causes.{cause_of}
use Rattle.dtm_node.specs.Nodes.{IsFallen, IsNode, IsPlaceOf, MayFall, last_lines_of, place_of, undone_line}
use Rattle.dtm_node.specs.Opening.{Breaks, IsOpen, ReopensUp, Reopens}
use Rattle.node_requests.specs.Running.{HasGrown}
use Rattle.node_requests.specs.node_standing.Standing.{IsDown, IsRunning, Place, is_up}
use Rattle.dtm_node.proofs.NodeEvents.{fall_shown}

module _ {D U : Type 0} (state : D → DiskState) (units : U → UnitsState) where
  -- a node that is down has its disk and its parts as they have to be
  pub down_fallen : (count : ℕ) (s : SharedState) (n : Node D U) (p : code.Place D U) → is_up (place_of state units p) ≡ false → IsPlaceOf state units count s n p → IsFallen state units p
  down_fallen count s n (code_place.Down disk parts) down h = h
  down_fallen count s n (code_place.Up r) down h = let none : ⊥ = cc in absurd none

  pub left_place : (count : ℕ) (s : SharedState) (n : Node D U) (p : code.Place D U) → is_up (place_of state units p) ≡ false → MayFall state units p → IsPlaceOf state units count s n p
  left_place count s n (code_place.Down disk parts) down h = h
  left_place count s n (code_place.Up r) down h = let none : ⊥ = cc in absurd none

  pub fallen_left : (count : ℕ) (s : SharedState) (n : Node D U) (p : code.Place D U) → IsFallen state units p → IsPlaceOf state units count s n p
  fallen_left count s n (code_place.Down disk parts) h = h
  fallen_left count s n (code_place.Up r) h = absurd h

  -- where no node may have been in use it is down
  pub unused_fallen : (count : ℕ) (s : SharedState) (n : Node D U) (p : code.Place D U) → s.in_use ≡ false → IsPlaceOf state units count s n p → IsFallen state units p
  unused_fallen count s n (code_place.Down disk parts) unused h = h
  unused_fallen count s n (code_place.Up r) unused h = absurd (let e : true ≡ false = sym h.2 ∙ unused in (let none : ⊥ = cc in none))

  grown_to : (count : ℕ) (r : Up) → HasGrown 0 r → HasGrown count r
  grown_to count r h = let m = h.moment in let e = h.end in let d = h.drawn in record { moment = omega (arith, m); end = omega (arith, e); drawn = omega (arith, d) }

  -- a node that came up
  pub risen_node : (n : Node D U) (q r : Running D U) (clock boot : ℕ) (a b : Shown) → IsOpen n.name (IsRunning (up_of units q)) → ReopensUp clock (up_of units q).stored.volume boot (up_of units r) a b → n.clock.0 ≤ 24000000000000 → (count : ℕ) (s : SharedState) → s.in_use ≡ true → n.unmade ≡ false
      → IsNode state units count s (record n { place = code_place.Up r })
  risen_node n q r clock boot a b opened up early count s used made = record {
    place = (up.up, sym (up.up.follows.node ∙ up.node ∙ opened.0.named), used, made, grown_to count (up_of units r) up.grown);
    clock = early;
  }

  pub reopened_as : (name : List ℕ) (clock : ℕ) (p : code.Place D U) (q r : Running D U) (boot : ℕ) (a b : Shown) → p ≡ code_place.Up q → ReopensUp clock (up_of units q).stored.volume boot (up_of units r) a b → Reopens name clock (place_of state units p) (Some boot) (IsRunning (up_of units r)) a b
  reopened_as name clock p q r boot a b is h = subst (λ x. Reopens name clock (place_of state units x) (Some boot) (IsRunning (up_of units r)) a b) (sym is) h

  -- or whose disk went down, which was shown and answered
  pub broken_as : (name : List ℕ) (clock : ℕ) (p : code.Place D U) (q : Running D U) (w : VolumeState) (down : Down) (after : Place) (shown : Cause) (a b c d : Shown) → p ≡ code_place.Up q → after ≡ IsDown true w.store.disk → Breaks clock (up_of units q).stored.volume w down a b
      → Emits b (line.Down name (cause_of down) ∷ []) c → shown ≡ cause_of down → Emits c (line.Broken shown ∷ []) d → Reopens name clock (place_of state units p) None after a d
  broken_as name clock p q w down after shown a b c d is fell h falls same answers =
      let last = last_lines_of (up_of units q).stored.volume.catalog.home in
      let undone = map undone_line h.told.settled in
      let fall : List Line = line.Down name (cause_of down) ∷ line.Broken (cause_of down) ∷ [] in
      subst (λ x. Reopens name clock (place_of state units x) None after a d) (sym is) (subst (λ (x : Place). Reopens name clock (IsRunning (up_of units q)) None x a d) (sym fell) (
        refl,
        record {
          told = h.told;
          down = down;
          emits = subst (λ (ls : List Line). Emits a ls d) (append_assoc last undone fall) (emits_on a b d (last ++ undone) fall h.emits (fall_shown name (cause_of down) shown b c d same falls answers));
          goes = h.goes;
          cause = h.cause;
          done = h.done;
        },
      ))
