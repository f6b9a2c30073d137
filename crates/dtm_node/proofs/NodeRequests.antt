-- A request that a node has to be up for comes to a node, by what the code keeps of it.
use Rattle.std.proofs.Common.{◌≡◌, ℕ, ◌≤◌, ◌<◌, ◌+◌, List, [], ◌∷◌, Bool, true, Option, Result, Ok, Err, is_some, refl, sym, ap, subst, ◌∙◌}
use Rattle.block_disk.specs.Disk.{DiskState}
use Rattle.careful_write.specs.declared.down.Down.{Down}
use Rattle.change_set.specs.Files.{free_frames}
use Rattle.emitter_model.specs.Emitting.{Emits, Shown}
use Rattle.emitter_model.specs.transcript_model.Lines as line
use Rattle.emitter_model.specs.transcript_model.Lines.{Line}
use Rattle.script_lang.specs.script_model.Statements.{AddBranch, Boot, Init, Request, StartTrans}
use Rattle.said_steps.specs.run_said.Said.{Said, lines_said, request_said}
use Rattle.world_laws.specs.run_model.Answers.{Serves}
use Rattle.world_laws.specs.run_model.World as world
use Rattle.recovery_units.specs.State.{UnitsState}
use Rattle.run_shared.specs.Sharing.{SharedState}
use Rattle.node_requests.specs.node_table.Code.{up_of}
use Rattle.node_requests.specs.node_table.Standing.{IsUp, UpRepresents}
use Rattle.node_requests.specs.node_table.declared.running.Running.{Running}
use Rattle.dtm_node.specs.declared.node.Node.{Node}
use Rattle.dtm_node.specs.declared.node.Parts.{Parts}
use Rattle.dtm_node.specs.declared.node.Place as code
use Rattle.dtm_node.specs.declared.node.Place.TheVariants as code_place
use Rattle.dtm_node.specs.Causes.{cause_of}
use Rattle.node_requests.specs.node_standing.Keeping.{PerformsRequest}
use Rattle.dtm_node.specs.Nodes.{IsNode, IsPlaceOf, MayFall, fallen_place, kept_of}
use Rattle.node_requests.specs.Requests.{DoesRequest, IsForUp, LacksMemory, MayServe, SaysRequest, said_up}
use Rattle.node_requests.specs.Running.{name_of}
use Rattle.node_requests.specs.node_standing.Standing.{NodeState, disk_of}
use Rattle.node_requests.specs.node_standing.Telling.{TellsTask}
use Rattle.dtm_node.proofs.Falling.{told_up}
use Rattle.dtm_node.proofs.NodeLemmas.{grown_more, kept_is_down, kept_is_up, may_serve, moved_grown}
use Rattle.dtm_node.proofs.Performing.{kept_fallen, kept_up}
use Rattle.dtm_node.proofs.RequestTasks.{down_answers, down_tells, request_breaks, request_fails, request_lacks, request_performs, request_starves, request_tells}
use Rattle.node_requests.proofs.SaysLemmas.{lines_calm}

-- By no such request a volume may be made again that could not be made before.

answer_use : (name : List ℕ) (request : Request) (answer : Line) (s : Said) → IsForUp request → (request_said name request answer s).shared.in_use ≡ s.shared.in_use
answer_use name (Init slots journal) answer s h = absurd h
answer_use name Boot answer s h = absurd h
answer_use name (StartTrans label seconds) (line.NormalId id) s h = refl
answer_use name (StartTrans label seconds) _ s h = refl
answer_use name (AddBranch label other new) (line.NormalId id) s h = refl
answer_use name (AddBranch label other new) _ s h = refl
answer_use name _ answer s h = refl

pub request_use : {T : Type 0} (r : Result T Down) (name : List ℕ) (request : Request) (before after : SharedState) (a b : Shown) → IsForUp request → SaysRequest r name request before after a b → before.in_use ≡ true → after.in_use ≡ true
request_use (Ok x) name request before after a b asks d h =
    sym (ap (λ (s : Said). s.shared.in_use) d.says) ∙ answer_use name request d.answer (lines_said d.lines (said_up name before)) asks ∙ ap (λ (s : Said). s.shared.in_use) (lines_calm d.lines (said_up name before) d.work) ∙ h
request_use (Err e) name request before after a b asks d h =
    sym (ap (λ (s : Said). s.shared.in_use) d.says) ∙ ap (λ (s : Said). s.shared.in_use) (lines_calm d.lines (said_up name before) d.work) ∙ h

module _ {D U : Type 0} (state : D → DiskState) (units : U → UnitsState) where
  place_more : (count : ℕ) (s : SharedState) (n : Node D U) (p : code.Place D U) → IsPlaceOf state units count s n p → IsPlaceOf state units (count + 1) s n p
  place_more count s n (code_place.Down disk parts) h = h
  place_more count s n (code_place.Up r) h = (h.0, h.1, h.2, h.3, grown_more count (up_of units r) h.4)

  -- what holds of a node holds after a statement more that left it
  pub node_more : (count : ℕ) (s : SharedState) (n : Node D U) → IsNode state units count s n → IsNode state units (count + 1) s n
  node_more count s n h = record { place = place_more count s n n.place h.place; clock = h.clock }

  module _ (n : Node D U) (s : SharedState) (r : Running D U) (is : n.place ≡ code_place.Up r) where
    at : (count : ℕ) → IsNode state units count s n → IsPlaceOf state units count s n (code_place.Up r)
    at count h = subst (IsPlaceOf state units count s n) is h.place

    named : (count : ℕ) → IsNode state units count s n → name_of (up_of units r) ≡ n.name
    named count h = let p = at count h in sym (p.1 ∙ p.0.follows.node)

    pub may_serve_node : (count : ℕ) × (count < 1000002) × IsNode state units count s n → MayServe n.clock.0 (up_of units r)
    may_serve_node h = let p = at h.0 h.2 in may_serve n.clock.0 h.0 (up_of units r) p.0 p.4 h.1 h.2.clock

    told : (count : ℕ) → IsNode state units count s n → (m : world.Node) → UpRepresents n.clock.0 (up_of units r) m → is_some (disk_of (up_of units r)).seen ≡ true
    told count h m stands = told_up n.clock.0 (up_of units r) m (at count h).0 stands

    module _ (request : Request) (asks : IsForUp request) (new : Running D U) (t : SharedState) (a b : Shown) where
      -- what is kept of the node before and behind
      kept_so : (count : ℕ) → IsNode state units count s n → (P : NodeState → NodeState → Type 0) → P (kept_up (name_of (up_of units r)) n.clock.0 (up_of units r)) (kept_up (name_of (up_of units r)) n.clock.0 (up_of units new))
          → P (kept_of state units n) (kept_of state units (record n { place = code_place.Up new }))
      kept_so count h P x =
          let made = (at count h).3 in
          let same = sym (named count h) in
          subst (λ k. P k (kept_of state units (record n { place = code_place.Up new }))) (sym (kept_is_up state units n r is made ∙ ap (λ (name : List ℕ). kept_up name n.clock.0 (up_of units r)) same))
          (subst (λ l. P (kept_up (name_of (up_of units r)) n.clock.0 (up_of units r)) l) (sym (kept_is_up state units (record n { place = code_place.Up new }) new refl made ∙ ap (λ (name : List ℕ). kept_up name n.clock.0 (up_of units new)) same)) x)

      fell_so : (count : ℕ) → IsNode state units count s n → (l : NodeState) → l ≡ record (kept_of state units (record n { place = code_place.Up new })) { place = fallen_place (kept_of state units (record n { place = code_place.Up new })).place } → (P : NodeState → NodeState → Type 0)
          → P (kept_up (name_of (up_of units r)) n.clock.0 (up_of units r)) (kept_fallen (name_of (up_of units r)) n.clock.0 (disk_of (up_of units new))) → P (kept_of state units n) l
      fell_so count h l q P x =
          let made = (at count h).3 in
          let same = sym (named count h) in
          subst (λ k. P k l) (sym (kept_is_up state units n r is made ∙ ap (λ (name : List ℕ). kept_up name n.clock.0 (up_of units r)) same))
          (subst (λ k. P (kept_up (name_of (up_of units r)) n.clock.0 (up_of units r)) k) (sym (q ∙ (λ i. record (kept_fallen n.name n.clock.0 (disk_of (up_of units new))) { name = same i; unmade = made i }))) x)

      module _ (does : DoesRequest {T = Unit {0}} (Ok tt) request n.clock.0 (up_of units r) (up_of units new) s t a b) where
        pub served_node : (count : ℕ) → IsNode state units count s n → IsNode state units (count + 1) t (record n { place = code_place.Up new })
        served_node count h =
            let p = at count h in
            let up : IsUp (up_of units new) = does.keeps.up in
            let in_use = request_use {T = Unit {0}} (Ok tt) (name_of (up_of units r)) request s t a b asks does.says p.2 in
            record {
              place = (up, p.1 ∙ p.0.follows.node ∙ sym does.keeps.node ∙ sym up.follows.node, in_use, p.3, moved_grown n.clock.0 count (up_of units r) (up_of units new) h.clock does.keeps.moved does.keeps.drawn.1 p.4);
              clock = h.clock;
            }

        pub served_tells : (count : ℕ) → IsNode state units count s n → (ends : Bool) × TellsTask (Serves request) true ends (kept_of state units n) s a b (kept_of state units (record n { place = code_place.Up new })) t
        served_tells count h = (true, kept_so count h (λ k l. TellsTask (Serves request) true true k s a b l t) (request_tells request asks n.clock.0 (up_of units r) (up_of units new) s t a b does))

        pub served_performs : (count : ℕ) → IsNode state units count s n → PerformsRequest request (kept_of state units n) s a b (kept_of state units (record n { place = code_place.Up new })) t
        served_performs count h = kept_so count h (λ k l. PerformsRequest request k s a b l t) (request_performs request asks n.clock.0 (up_of units r) (up_of units new) s t a b (told count h) does)

      -- memory was lacking for it
      module _ (lacks : LacksMemory request n.clock.0 (up_of units r) (up_of units new) s t a b) where
        pub lacking_use : s.in_use ≡ true → t.in_use ≡ true
        lacking_use used = ap (λ (x : SharedState). x.in_use) lacks.shared ∙ used

        pub lacking_node : (count : ℕ) → IsNode state units count s n → IsNode state units (count + 1) t (record n { place = code_place.Up new })
        lacking_node count h =
            let p = at count h in
            let up : IsUp (up_of units new) = lacks.keeps.up in
            record {
              place = (up, p.1 ∙ p.0.follows.node ∙ sym lacks.keeps.node ∙ sym up.follows.node, lacking_use p.2, p.3, moved_grown n.clock.0 count (up_of units r) (up_of units new) h.clock lacks.keeps.moved lacks.keeps.drawn.1 p.4);
              clock = h.clock;
            }

        module _ (c : Shown) (shows : Emits b (line.NoMemory ∷ []) c) where
          pub lacking_tells : (count : ℕ) → IsNode state units count s n → (ends : Bool) × TellsTask (Serves request) true ends (kept_of state units n) s a c (kept_of state units (record n { place = code_place.Up new })) t
          lacking_tells count h = (true, kept_so count h (λ k l. TellsTask (Serves request) true true k s a c l t) (request_lacks request asks n.clock.0 (up_of units r) (up_of units new) s t a b c lacks shows))

          pub lacking_performs : (count : ℕ) → IsNode state units count s n → PerformsRequest request (kept_of state units n) s a c (kept_of state units (record n { place = code_place.Up new })) t
          lacking_performs count h = kept_so count h (λ k l. PerformsRequest request k s a c l t) (request_starves request asks n.clock.0 (up_of units r) (up_of units new) s t a b (told count h) c lacks shows)

      -- the disk went down in it
      module _ (e : Down) (does : DoesRequest {T = Unit {0}} (Err e) request n.clock.0 (up_of units r) (up_of units new) s t a b) where
        pub broken_falls : (count : ℕ) → IsNode state units count s n → MayFall state units (code_place.Up new)
        broken_falls count h =
            let order = (at count h).0.follows.order in
            let size = sym does.keeps.goes.size in
            (subst (λ (d : ℕ). 4096 ≤ d) size order.least, subst (λ (d : ℕ). d ≤ 65536) size order.most, subst (λ p. 32 ≤ free_frames p) (sym does.keeps.pool) order.frames)

        module _ (c : Shown) (l : NodeState) (fell : l ≡ record (kept_of state units (record n { place = code_place.Up new })) { place = fallen_place (kept_of state units (record n { place = code_place.Up new })).place })
            (shows : Emits b (line.Down n.name (cause_of e) ∷ line.Broken (cause_of e) ∷ []) c) where
          named_so : (count : ℕ) → IsNode state units count s n → Emits b (line.Down (name_of (up_of units r)) (cause_of e) ∷ line.Broken (cause_of e) ∷ []) c
          named_so count h = subst (λ (name : List ℕ). Emits b (line.Down name (cause_of e) ∷ line.Broken (cause_of e) ∷ []) c) (sym (named count h)) shows

          pub broken_tells : (count : ℕ) → IsNode state units count s n → (ends : Bool) × TellsTask (Serves request) true ends (kept_of state units n) s a c l t
          broken_tells count h = (true, fell_so count h l fell (λ k m. TellsTask (Serves request) true true k s a c m t) (request_fails request asks n.clock.0 (up_of units r) (up_of units new) s t a b e c does (named_so count h)))

          pub broken_performs : (count : ℕ) → IsNode state units count s n → PerformsRequest request (kept_of state units n) s a c l t
          broken_performs count h = fell_so count h l fell (λ k m. PerformsRequest request k s a c m t) (request_breaks request asks n.clock.0 (up_of units r) (up_of units new) s t a b (told count h) e c does (named_so count h))

  -- the node is down
  module _ (n : Node D U) (s : SharedState) (disk : D) (parts : Option (Parts U)) (is : n.place ≡ code_place.Down disk parts) (request : Request) (asks : IsForUp request) (a b : Shown) (shows : Emits a (line.NodeDown ∷ []) b) where
    pub refused_tells : (ends : Bool) × TellsTask (Serves request) true ends (kept_of state units n) s a b (kept_of state units n) s
    refused_tells = (true, subst (λ k. TellsTask (Serves request) true true k s a b k s) (sym (kept_is_down state units n disk parts is)) (down_tells request asks n.name n.unmade n.clock.0 (is_some parts) (state disk) s a b shows))

    pub refused_performs : PerformsRequest request (kept_of state units n) s a b (kept_of state units n) s
    refused_performs = subst (λ k. PerformsRequest request k s a b k s) (sym (kept_is_down state units n disk parts is)) (down_answers request asks n.name n.unmade n.clock.0 (is_some parts) (state disk) s a b shows)
