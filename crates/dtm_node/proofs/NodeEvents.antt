-- An event comes to a node, by what the code keeps of it.
use Rattle.std.proofs.Common.{◌≡◌, ℕ, ◌<◌, List, [], ◌∷◌, Bool, true, false, not, Option, Ok, Err, if◌then◌else◌, refl, sym, subst, ◌∙◌}
use Rattle.block_disk.specs.Disk.{DiskState}
use Rattle.careful_write.specs.declared.down.Down.{Down}
use Rattle.emitter_model.specs.commit_protocol.Rows.{Event}
use Rattle.emitter_model.specs.Emitting.{Emits, Shown}
use Rattle.emitter_model.specs.transcript_model.Lines as line
use Rattle.emitter_model.specs.transcript_model.Lines.{Cause}
use Rattle.world_laws.specs.Nodes.{RowsKeepUp}
use Rattle.recovery_units.specs.State.{UnitsState}
use Rattle.run_shared.specs.Sharing.{SharedState}
use Rattle.node_requests.specs.node_table.Code.{up_of}
use Rattle.node_requests.specs.node_table.Running.{KeepsUp, TellsRows}
use Rattle.node_requests.specs.node_table.declared.running.Running.{Running}
use Rattle.dtm_node.specs.declared.node.Node.{Node}
use Rattle.dtm_node.specs.declared.node.Parts.{Parts}
use Rattle.dtm_node.specs.declared.node.Place.TheVariants as code_place
use Rattle.dtm_node.specs.Causes.{cause_of}
use Rattle.dtm_node.specs.Nodes.{IsNode, IsPlaceOf, fallen_place, kept_of}
use Rattle.node_requests.specs.Running.{ComesFreely, TellsEvent, shown_first}
use Rattle.emitter_model.specs.commit_protocol.Messages.{Message}
use Rattle.world_laws.specs.run_model.Answers.{Hears, Task, outcome_told}
use Rattle.vms_model.specs.Transactions.{Outcome}
use Rattle.emitter_model.proofs.EmittingLemmas.{emits_nothing, emits_on}
use Rattle.node_requests.specs.node_standing.Standing.{IsDown, IsRunning, NodeState, Place, disk_of, is_up}
use Rattle.dtm_node.proofs.Coming.{event_at_down, event_done, event_failed}
use Rattle.dtm_node.proofs.Falling.{told_up}
use Rattle.dtm_node.proofs.NodeLemmas.{kept_is_down, kept_is_up}
use Rattle.dtm_node.proofs.Performing.{kept_fallen, kept_up}

tells_as : (e : Event) (goes_on ends : Bool) (k k' : NodeState) (s t : SharedState) (a b : Shown) (l l' : NodeState) → k ≡ k' → l ≡ l' → TellsEvent e goes_on ends k' s a b l' t → TellsEvent e goes_on ends k s a b l t
tells_as e goes_on ends k k' s t a b l l' p q h = subst (λ x. TellsEvent e goes_on ends x s a b l t) (sym p) (subst (λ x. TellsEvent e goes_on ends k' s a b x t) (sym q) h)

module _ {D U : Type 0} (state : D → DiskState) (units : U → UnitsState) (rows : RowsKeepUp) (e : Event) (free : ComesFreely e) (n : Node D U) (s : SharedState) where
  module _ (r new : Running D U) (is : n.place ≡ code_place.Up r) (h : (count : ℕ) × (count < 1000002) × IsNode state units count s n) (t : SharedState) (a b : Shown) where
    at : IsPlaceOf state units h.0 s n (code_place.Up r)
    at = subst (IsPlaceOf state units h.0 s n) is h.2.place

    pub node_done : (goes_on : Bool) → KeepsUp {T = Unit {0}} (Ok tt) e n.clock.0 (up_of units r) (up_of units new) s t a b → TellsRows {T = Unit {0}} (Ok tt) e n.clock.0 (up_of units r) (up_of units new) s t a b
        → TellsEvent e goes_on false (kept_of state units n) s a b (kept_of state units (record n { place = code_place.Up new })) t
    node_done goes_on keeps does =
        let p = at in
        tells_as e goes_on false (kept_of state units n) (kept_up n.name n.clock.0 (up_of units r)) s t a b (kept_of state units (record n { place = code_place.Up new })) (kept_up n.name n.clock.0 (up_of units new))
        (kept_is_up state units n r is p.3) (kept_is_up state units (record n { place = code_place.Up new }) new refl p.3)
        (event_done rows e free n.name n.clock.0 (up_of units r) (up_of units new) s t a b (sym (p.1 ∙ p.0.follows.node)) (λ w stands. told_up n.clock.0 (up_of units r) w p.0 stands) keeps.goes keeps.node keeps.work goes_on does)

    pub node_failed : (d : Down) (c : Shown) (goes_on : Bool) (l : NodeState) → l ≡ record (kept_of state units (record n { place = code_place.Up new })) { place = fallen_place (kept_of state units (record n { place = code_place.Up new })).place }
        → Emits b (line.Down n.name (cause_of d) ∷ (if not goes_on then line.Broken (cause_of d) ∷ [] else [])) c → KeepsUp {T = Unit {0}} (Err d) e n.clock.0 (up_of units r) (up_of units new) s t a b → TellsRows {T = Unit {0}} (Err d) e n.clock.0 (up_of units r) (up_of units new) s t a b
        → TellsEvent e goes_on (not goes_on) (kept_of state units n) s a c l t
    node_failed d c goes_on l q shows keeps does =
        let p = at in
        tells_as e goes_on (not goes_on) (kept_of state units n) (kept_up n.name n.clock.0 (up_of units r)) s t a c l (kept_fallen n.name n.clock.0 (disk_of (up_of units new)))
        (kept_is_up state units n r is p.3) (q ∙ (λ i. kept_fallen_with (p.3 i)))
        (event_failed rows e free n.name n.clock.0 (up_of units r) (up_of units new) s t a b (sym (p.1 ∙ p.0.follows.node)) (λ w stands. told_up n.clock.0 (up_of units r) w p.0 stands) keeps.goes keeps.node keeps.work d c goes_on keeps.cause shows does)
      where
        kept_fallen_with : Bool → NodeState
        kept_fallen_with u = record (kept_fallen n.name n.clock.0 (disk_of (up_of units new))) { unmade = u }

  pub node_down : (disk : D) (parts : Option (Parts U)) → n.place ≡ code_place.Down disk parts → (a b : Shown) → Emits a (line.NodeDown ∷ []) b → TellsEvent e false true (kept_of state units n) s a b (kept_of state units n) s
  node_down disk parts is a b shows =
      let q = kept_is_down state units n disk parts is in
      tells_as e false true (kept_of state units n) _ s s a b (kept_of state units n) _ q q (event_at_down e n.name n.unmade n.clock.0 _ (state disk) s a b shows)

-- A node that is down, whatever its place is.

down_place : (e : Event) (name : List ℕ) (unmade : Bool) (clock : ℕ) (p : Place) (s : SharedState) (a b : Shown) → is_up p ≡ false → Emits a (line.NodeDown ∷ []) b → (let k : NodeState = record { name = name; unmade = unmade; clock = clock; place = p } in TellsEvent e false true k s a b k s)
down_place e name unmade clock (IsDown has_parts d) s a b down shows = event_at_down e name unmade clock has_parts d s a b shows
down_place e name unmade clock (IsRunning r) s a b down shows = let f : ⊥ = cc in absurd f

pub down_event : (e : Event) (k : NodeState) (s : SharedState) (a b : Shown) → is_up k.place ≡ false → Emits a (line.NodeDown ∷ []) b → TellsEvent e false true k s a b k s
down_event e k s a b down shows = down_place e k.name k.unmade k.clock k.place s a b down shows

pub none_first : (u : Bool) (m : Message) (a : Shown) → u ≡ false → Emits a (shown_first u (Hears m)) a
none_first true m a e = let f : ⊥ = cc in absurd f
none_first false m a e = emits_nothing a

pub asked_first : (u : Bool) (m : Message) (o : Outcome) (a b : Shown) → u ≡ true → o ≡ outcome_told m.kind → Emits a (line.Asked m.tid m.serial o ∷ []) b → Emits a (shown_first u (Hears m)) b
asked_first false m o a b e q shows = let f : ⊥ = cc in absurd f
asked_first true m o a b e q shows = subst (λ x. Emits a (line.Asked m.tid m.serial x ∷ []) b) q shows

-- a fall that is shown and answered
pub fall_shown : (name : List ℕ) (cause shown : Cause) (a b c : Shown) → shown ≡ cause → Emits a (line.Down name cause ∷ []) b → Emits b (line.Broken shown ∷ []) c → Emits a (line.Down name cause ∷ line.Broken cause ∷ []) c
fall_shown name cause shown a b c is down broken = emits_on a b c (line.Down name cause ∷ []) (line.Broken cause ∷ []) down (subst (λ x. Emits b (line.Broken x ∷ []) c) is broken)

pub shown_fall : (name : List ℕ) (cause shown : Cause) (a b c : Shown) → shown ≡ cause → Emits a (line.Down name shown ∷ []) b → Emits b (line.Broken shown ∷ []) c → Emits a (line.Down name cause ∷ line.Broken cause ∷ []) c
shown_fall name cause shown a b c is down broken = fall_shown name cause shown a b c is (subst (λ x. Emits a (line.Down name x ∷ []) b) is down) broken

-- a task that shows nothing first
pub nothing_first : (u : Bool) (t : Task) (a : Shown) → shown_first true t ≡ [] → shown_first false t ≡ [] → Emits a (shown_first u t) a
nothing_first true t a up down = subst (λ ls. Emits a ls a) (sym up) (emits_nothing a)
nothing_first false t a up down = subst (λ ls. Emits a ls a) (sym down) (emits_nothing a)
