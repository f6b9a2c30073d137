-- A request on files, at a node that is up.
use Rattle.std.proofs.Common.{◌≡◌, ◌≤◌, ◌+◌, ℕ, List, [], ◌∷◌, true, Option, Some, None, Result, Ok, Err, inl, inr, refl, ap, sym, subst, ◌∙◌, arith}
use Rattle.std.specs.Prelude.{OnErr}
use Rattle.careful_write.specs.declared.down.Down.{Down}
use Rattle.emitter_model.specs.Emitting.{Shown}
use Rattle.emitter_model.specs.transcript_model.Lines.{Line}
use Rattle.script_lang.specs.script_model.Statements as said
use Rattle.script_lang.specs.script_model.Statements.{Request}
use Rattle.file_requests.specs.run_said.Said.{refused_by_lines}
use Rattle.world_laws.specs.run_model.Answers.{service, touches}
use Rattle.world_laws.specs.run_model.Steps.{node_after_rows}
use Rattle.world_laws.specs.run_model.World as world
use Rattle.world_laws.specs.run_model.World.{Node}
use Rattle.run_shared.specs.Sharing.{IsShared, SharedState}
use Rattle.node_table.specs.recovery_units.State.{IsEarly, IsKept}
use Rattle.world_laws.specs.Nodes as laws
use Rattle.world_laws.specs.Nodes.{IsKeptNode}
use Rattle.file_requests.specs.Serving.{DoesThere, IsReady, SameStored, ServesFile}
use Rattle.node_table.specs.Growing.{end_to_come, moment_to_come}
use Rattle.node_table.specs.Serving.{DoesService, service_at}
use Rattle.node_table.specs.Standing.{IsUp, Stored, Up, UpRepresents}
use Rattle.node_requests.specs.Requests.{DoesRequest, KeepsRequest, MayServe, SaysRequest, ServesUp, node_up}
use Rattle.file_requests.specs.node_standing.Standing.{disk_of}
use Rattle.file_requests.specs.node_standing.Telling.{said_shared}
use Rattle.node_requests.proofs.Asides.{AreAside, IsAside, aside_create, aside_lines, aside_records, aside_rows, keeps_beside, service_as, stands_aside, stands_still}
use Rattle.node_requests.proofs.Saying.{IsStillRequest, says_replies}

-- what was asked of a node before a request is what a call asks of its volume
pub early_of : (clock : ℕ) (r : Up) → MayServe clock r → IsEarly r.stored.volume
early_of clock r m = (let e = m.low in let g = m.moment in record { low = omega arith; moment = omega arith; images = omega arith })

-- a node of the world that is up is ready for a request on files
pub ready_of : (clock : ℕ) (r : Up) (s : world.Shared) (n : Node) → UpRepresents clock r n → IsKeptNode s n → IsReady r.stored n
ready_of clock r s n h k = record { kept = h.stands.kept; up = (k.runs h.stands.up).0 }

-- the same stands for the node, with no id drawn
drawn_as : (clock : ℕ) (old : Up) (new : Stored) (m : Node) → UpRepresents clock (record { stored = new; tm = old.tm; drawn = old.drawn + 0; declared = old.declared }) m → UpRepresents clock (record { stored = new; tm = old.tm; drawn = old.drawn; declared = old.declared }) m
drawn_as clock old new m h = subst (λ (d : ℕ). UpRepresents clock (record { stored = new; tm = old.tm; drawn = d; declared = old.declared }) m) (omega arith) h

-- A request that was served over what is stored, whose rows change files alone.
pub serves_files : {T : Type 0} (r : Result T Down) (request : Request) (clock : ℕ) (old : Up) (new : Stored) (shared : SharedState) (a b : Shown) → MayServe clock old → IsStillRequest old.stored.volume.catalog.home.node request → refused_by_lines (said_shared shared) (node_up old.stored.volume.catalog.home.node) request ≡ None
    → touches (service request) ≡ true → ((s : world.Shared) (n : Node) → AreAside ((service request).rows s n)) → ServesFile r (service request) old.stored new a b → DoesRequest r request clock old (record { stored = new; tm = old.tm; drawn = old.drawn; declared = old.declared }) shared shared a b
serves_files {T} r request clock old new shared a b may still none touched rows h = record {
  keeps = keeps_beside old new old.drawn h.units may.up r 0 0 clock a b (omega arith) (omega arith) (omega arith, omega arith) h.keeps;
  uses = uses r;
  leaves = λ refusal e. absurd (let q : ◌≡◌ {A = Option Line} None (Some refusal) = sym none ∙ e in (let f : ⊥ = cc in f));
  says = says_replies old.stored.volume.catalog.home.node request shared a b still r none h.keeps.replies;
  serves = λ s n stands share kept.
      let q = service_at (service request) s n in
      let new' : Up = record { stored = new; tm = old.tm; drawn = old.drawn; declared = old.declared } in
      let same : SameStored old.stored new → UpRepresents clock new' n × IsShared shared s = λ e. (stands_still clock old new n e stands, share) in
      service_as r q s n a b (SameStored old.stored new) (UpRepresents clock new' n × IsShared shared s) (λ t. t ≡ s) (IsShared shared) (IsKept new.units new.volume) (UpRepresents clock new') (disk_of new')
      same
      (λ t e. subst (IsShared shared) (sym e) share)
      (λ k. drawn_as clock old new (node_after_rows q.rows n) (stands_aside clock old new 0 n (node_after_rows q.rows n) h.keeps.in_doubt stands (aside_rows q.rows n (rows s n)) k))
      (h.serves s n (ready_of clock old s n stands kept));
}
  where
    uses : (q : Result T Down) → OnErr q (touches (service request) ≡ true)
    uses (Ok v) = tt
    uses (Err d) = touched
