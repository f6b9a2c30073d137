-- A request by which a table is told an event, and one that is refused.
use Rattle.std.proofs.Common.{◌≡◌, inl, inr, ℕ, ◌≤◌, ◌+◌, List, [], ◌∷◌, ◌++◌, Bool, true, false, Option, Some, None, Result, Ok, Err, map, refl, ◌∙◌, ap, sym, subst, arith}
use Rattle.std.specs.Prelude.{OnOk, ◌||◌, not}
use Rattle.std.specs.List.{AllByRecursion}
use Rattle.careful_write.specs.declared.down.Down.{Down}
use Rattle.emitter_model.specs.commit_protocol.Messages.{Message}
use Rattle.emitter_model.specs.commit_protocol.Rows.{Event}
use Rattle.emitter_model.specs.Emitting.{Emits, Shown, Since}
use Rattle.emitter_model.specs.transcript_model.Lines as line
use Rattle.emitter_model.specs.transcript_model.Lines.{Line}
use Rattle.emitter_model.proofs.EmittingLemmas.{emits_nothing, emits_on, since_on}
use Rattle.script_lang.specs.script_model.Statements.{Request}
use Rattle.world_laws.specs.log_laws.Slots.{branches_added}
use Rattle.file_requests.specs.run_said.Said.{Said, line_said, lines_said, refused_by_lines, request_said}
use Rattle.file_requests.specs.said_steps.Answers.{is_served}
use Rattle.world_laws.specs.run_model.Operations.{first_of, refused_if}
use Rattle.world_laws.specs.run_model.World.{Act, Node, Shared, acted, shared_after}
use Rattle.world_laws.specs.run_model.Answers.{Row, Serves, all_acted, all_shared, just, refused_before_reading, service, silent, told_rows, touches}
use Rattle.world_laws.specs.run_model.Steps.{lines_of_rows, node_after_rows}
use Rattle.node_table.specs.volume_model.Volumes.{HasDisk}
use Rattle.world_laws.specs.Nodes.{AreUp, IsKeptNode, RowsKeepUp}
use Rattle.node_table.specs.row_laws.Doing.{DoesRows, WentDown}
use Rattle.node_table.proofs.row_laws.Composing.{does_more}
use Rattle.node_table.specs.recovery_units.Uses.{Caused, DiskAdvances, down_of}
use Rattle.run_shared.specs.Sharing.{IsShared, SharedState}
use Rattle.node_table.specs.Growing.{end_to_come, moment_to_come}
use Rattle.node_table.specs.Running.{Grown, IsNewFor, KeepsUp, TellsRows}
use Rattle.node_table.specs.Serving.{WasCut}
use Rattle.node_table.specs.Standing.{IsUp, Stored, Up, UpRepresents}
use Rattle.node_table.specs.Telling.{IsOfWork, wire_after}
use Rattle.node_requests.specs.Requests.{DoesRequest, HasMoved, KeepsRequest, node_up, said_up}
use Rattle.node_requests.specs.Running.{name_of}
use Rattle.file_requests.specs.node_standing.Standing.{disk_of}
use Rattle.file_requests.specs.node_standing.Telling.{said_shared}
use Rattle.node_requests.proofs.SaysLemmas.{lines_calm}

-- The first of several causes.

pub first_more : (x y z : Option Line) (l : Line) → first_of x y ≡ Some l → first_of x (first_of y z) ≡ Some l
first_more None (Some k) z l h = h
first_more None None z l h = let f : ⊥ = cc in absurd f
first_more (Some k) y z l h = h

pub first_none : (x y : Option Line) → first_of x y ≡ None → (x ≡ None) × (y ≡ None)
first_none None y h = (refl, h)
first_none (Some l) y h = let f : ⊥ = cc in absurd f

-- Refused.

-- one line alone was shown, which refuses the request; and nothing was done
pub refuses : (request : Request) (clock : ℕ) (r : Up) (sh : SharedState) (a b : Shown) (l : Line) → IsUp r → Since a b → Emits a (l ∷ []) b → ((s : Said) → line_said l s ≡ s) → ((s : Said) → request_said (name_of r) request l s ≡ s)
    → ((refusal : Line) → refused_by_lines (said_shared sh) (node_up (name_of r)) request ≡ Some refusal → l ≡ refusal) → (refused_by_lines (said_shared sh) (node_up (name_of r)) request ≡ None → is_served l ≡ true)
    → ((s : Shared) (n : Node) → UpRepresents clock r n → IsShared sh s → IsKeptNode s n → first_of ((service request).refused_before_reading s n) ((service request).refused_after_reading s n) ≡ Some l) → DoesRequest {T = Unit {0}} (Ok tt) request clock r r sh sh a b
refuses request clock r sh a b l up since shows quiet still by_lines others refused = record {
  keeps = record {
    up = up;
    goes = record { size = refl; calls = refl; faults = λ c. omega arith; stops = λ c. omega arith; counted = λ c. c; told = refl };
    cause = tt;
    pool = refl;
    node = refl;
    boot = refl;
    drawn = (omega arith, omega arith);
    moved = record { moment = omega arith; end = omega arith };
    since = since;
  };
  uses = tt;
  leaves = λ refusal e. refl;
  says = record {
    lines = [];
    answer = l;
    emits = shows;
    work = tt;
    still = quiet;
    refused = λ refusal q. (refl, by_lines refusal q);
    others = others;
    says = still (said_up (name_of r) sh);
  };
  serves = λ s n stands share kept. inl (record { refusal = l; is = refused s n stands share kept; shows = shows; same = (stands, share) });
}

-- Told.

-- acts that show nothing, and rows behind them
silent_does : {T : Type 0} (r : Result T Down) (acts : List Act) (rs : List Row) (s : Shared) (n : Node) (a b : Shown) (shares : Shared → Type 0) (stands falls : Node → Type 0) → DoesRows r rs (all_shared acts s) (all_acted acts n) a b shares stands falls → DoesRows r (map silent acts ++ rs) s n a b shares stands falls
silent_does r [] rs s n a b shares stands falls h = h
silent_does r (act ∷ acts) rs s n a b shares stands falls h = does_more shares stands falls r (silent act) (map silent acts ++ rs) s n a a b (emits_nothing a) (silent_does r acts rs (shared_after act s) (acted act n) a b shares stands falls h)

silent_up : (acts : List Act) (rs : List Row) (n : Node) → AreUp (map silent acts ++ rs) n → AreUp rs (all_acted acts n)
silent_up [] rs n h = h
silent_up (act ∷ acts) rs n h = silent_up acts rs (acted act n) h.1

-- What a request is at a node of the world: nothing refuses it, and its rows are those of an event behind such acts, by which what is kept stands for the node then.
pub record IsToldBy (request : Request) (acts : List Act) (e : Event) (clock : ℕ) (mid : Up) (sh : SharedState) (s : Shared) (n : Node) : Type 0 where
  pub early : (service request).refused_before_reading s n ≡ None
  pub late : (service request).refused_after_reading s n ≡ None
  pub rows : (service request).rows s n ≡ map silent acts ++ told_rows (all_shared acts s) (all_acted acts n) (just e)
  pub stands : UpRepresents clock mid (all_acted acts n)
  pub shares : IsShared sh (all_shared acts s)
  pub new : IsNewFor (all_acted acts n) e

module _ (rows_keep_up : RowsKeepUp) (request : Request) (e : Event) (clock : ℕ) (old mid new : Up) (before shared after : SharedState) (a b : Shown)
    (stored : mid.stored ≡ old.stored) (drawn : (old.drawn ≤ mid.drawn) × (mid.drawn ≤ old.drawn + 1)) (one : branches_added e ≤ 1) (wire : shared.wire ≡ before.wire) (acts : Node → List Act)
    (told : (s : Shared) (n : Node) → UpRepresents clock old n → IsShared before s → IsKeptNode s n → IsToldBy request (acts n) e clock mid shared s n) where
  module _ {T : Type 0} (r : Result T Down) (keeps : KeepsUp r e clock mid new shared after a b) (does : TellsRows r e clock mid new shared after a b) where
    rows_done : (s : Shared) (n : Node) → UpRepresents clock old n → IsShared before s → IsKeptNode s n → DoesRows r ((service request).rows s n) s n a b (IsShared after) (UpRepresents clock new) (λ m. HasDisk m (disk_of new))
    rows_done s n stands share kept =
        let t = told s n stands share kept in
        let before_here : refused_before_reading s n (service request) ≡ None = ap (λ (x : Bool). first_of (refused_if (not (x || (service request).while_down)) line.NodeDown) ((service request).refused_before_reading s n)) stands.stands.up ∙ t.early in
        let ups : AreUp ((service request).rows s n) n = rows_keep_up s n (Serves request) kept stands.stands.up before_here t.late in
        let there : AreUp (told_rows (all_shared (acts n) s) (all_acted (acts n) n) (just e)) (all_acted (acts n) n) = silent_up (acts n) (told_rows (all_shared (acts n) s) (all_acted (acts n) n) (just e)) n (subst (λ rs. AreUp rs n) t.rows ups) in
        subst (λ rs. DoesRows r rs s n a b (IsShared after) (UpRepresents clock new) (λ m. HasDisk m (disk_of new))) (sym t.rows)
        (silent_does r (acts n) (told_rows (all_shared (acts n) s) (all_acted (acts n) n) (just e)) s n a b (IsShared after) (UpRepresents clock new) (λ m. HasDisk m (disk_of new))
        (does (all_shared (acts n) s) (all_acted (acts n) n) t.stands t.new t.shares there))

    moment_is : moment_to_come mid.stored ≡ moment_to_come old.stored
    moment_is = ap moment_to_come stored

    end_is : end_to_come mid.stored ≡ end_to_come old.stored
    end_is = ap end_to_come stored

    kept_over : (c : Shown) → Since a c → KeepsRequest r clock old new a c
    kept_over c since = record {
      up = keeps.up;
      goes = subst (λ (x : Stored). DiskAdvances x.volume.store.disk (disk_of new)) stored keeps.goes;
      cause = subst (λ (x : Stored). Caused (down_of r) x.volume.store.disk (disk_of new)) stored keeps.cause;
      pool = keeps.pool ∙ ap (λ (x : Stored). x.volume.store.pool) stored;
      node = keeps.node ∙ ap (λ (x : Stored). x.volume.catalog.home.node) stored;
      boot = keeps.boot ∙ ap (λ (x : Stored). x.volume.catalog.home.boot) stored;
      drawn = (let p = drawn.0 in let q = drawn.1 in let d = keeps.drawn in (omega arith, omega arith));
      moved = moved r keeps.grown;
      since = since;
    }
      where
        moved : (q : Result T Down) → OnOk q (Grown e clock mid new) → OnOk q (HasMoved clock old new)
        moved (Ok x) g = (let m = g.moment in let f = g.end in let p = moment_is in let k = end_is in record { moment = omega arith; end = omega arith })
        moved (Err x) g = tt

  -- what lines of work say of a node that is up
  lines_up : (ls : List Line) → AllByRecursion IsOfWork ls → lines_said ls (said_up (name_of old) before) ≡ record { nodes = node_up (name_of old) ∷ []; shared = record (said_shared before) { wire = wire_after ls before.wire } }
  lines_up ls work = lines_calm ls (said_up (name_of old) before) work

  -- its disk went down in it
  pub told_fails : (d : Down) → touches (service request) ≡ true → (refused_by_lines (said_shared before) (node_up (name_of old)) request ≡ None) → shared ≡ before → KeepsUp {T = Unit {0}} (Err d) e clock mid new shared after a b → TellsRows {T = Unit {0}} (Err d) e clock mid new shared after a b
      → DoesRequest {T = Unit {0}} (Err d) request clock old new before after a b
  told_fails d touch unrefused same keeps does = record {
    keeps = kept_over {T = Unit {0}} (Err d) keeps does b keeps.since;
    uses = touch;
    leaves = λ refusal e. absurd (let q : ◌≡◌ {A = Option Line} None (Some refusal) = sym unrefused ∙ e in (let f : ⊥ = cc in f));
    says = record {
      lines = keeps.work.lines;
      answer = line.Normal;
      emits = keeps.work.emits;
      work = keeps.work.work;
      still = λ s. refl;
      refused = λ refusal q. (let z : None ≡ Some refusal = sym unrefused ∙ q in (let f : ⊥ = cc in f));
      others = λ none. tt;
      says = lines_up keeps.work.lines keeps.work.work ∙ ap (λ (x : SharedState). said_up (name_of old) (record x { wire = wire_after keeps.work.lines x.wire })) (sym same) ∙ ap (said_up (name_of old)) (sym keeps.work.shared);
    };
    serves = λ s n stands share kept.
        let t = told s n stands share kept in
        let w = rows_done {T = Unit {0}} (Err d) keeps does s n stands share kept in
        as_cut s n t.early ((service request).refused_after_reading s n) t.late w;
  }
    where
      as_cut : (s : Shared) (n : Node) → (service request).refused_before_reading s n ≡ None → (late : Option Line) → late ≡ None → WentDown ((service request).rows s n) s n a b (IsShared after) (λ m. HasDisk m (disk_of new))
          → WasCut (record { early = (service request).refused_before_reading s n; late = late; rows = (service request).rows s n; answer = (service request).answer s n }) s n a b (IsShared after) (disk_of new)
      as_cut s n early None is w = record { unrefused = early; done = w.done; begun = w.begun; within = w.within; shows = w.shows; shared = w.shared; disk = w.disk }
      as_cut s n early (Some x) is w = absurd (let f : ⊥ = cc in f)

  -- it was done, and answered so
  pub told_serves : (c : Shown) (l : Line) → Since b c → Emits b (l ∷ []) c → ((s : Said) → line_said l s ≡ s) → is_served l ≡ true → (refused_by_lines (said_shared before) (node_up (name_of old)) request ≡ None)
      → ((ws : List Message) → request_said (name_of old) request l (record { nodes = node_up (name_of old) ∷ []; shared = record (said_shared before) { wire = ws } }) ≡ record { nodes = node_up (name_of old) ∷ []; shared = record (said_shared shared) { wire = ws } })
      → KeepsUp {T = Unit {0}} (Ok tt) e clock mid new shared after a b → TellsRows {T = Unit {0}} (Ok tt) e clock mid new shared after a b
      → ((s : Shared) (n : Node) → UpRepresents clock old n → IsShared before s → IsKeptNode s n → UpRepresents clock new (node_after_rows ((service request).rows s n) n) → (service request).answer s n ≡ l)
      → DoesRequest {T = Unit {0}} (Ok tt) request clock old new before after a c
  told_serves c l since shows quiet other unrefused said keeps does answer = record {
    keeps = kept_over {T = Unit {0}} (Ok tt) keeps does c (since_on a b c keeps.since since);
    uses = tt;
    leaves = λ refusal e. absurd (let q : ◌≡◌ {A = Option Line} None (Some refusal) = sym unrefused ∙ e in (let f : ⊥ = cc in f));
    says = record {
      lines = keeps.work.lines;
      answer = l;
      emits = emits_on a b c keeps.work.lines (l ∷ []) keeps.work.emits shows;
      work = keeps.work.work;
      still = quiet;
      refused = λ refusal q. absurd (let z : None ≡ Some refusal = sym unrefused ∙ q in (let f : ⊥ = cc in f));
      others = λ none. other;
      says = ap (request_said (name_of old) request l) (lines_up keeps.work.lines keeps.work.work) ∙ said (wire_after keeps.work.lines before.wire)
          ∙ ap (λ (x : List Message). said_up (name_of old) (record shared { wire = wire_after keeps.work.lines x })) (sym wire) ∙ ap (said_up (name_of old)) (sym keeps.work.shared);
    };
    serves = λ s n stands share kept.
        let t = told s n stands share kept in
        let w = rows_done {T = Unit {0}} (Ok tt) keeps does s n stands share kept in
        inr (record {
          allowed = ap (λ x. first_of x ((service request).refused_after_reading s n)) t.early ∙ t.late;
          shows = subst (λ x. Emits a (lines_of_rows ((service request).rows s n) ++ x ∷ []) c) (sym (answer s n stands share kept w.node)) (emits_on a b c (lines_of_rows ((service request).rows s n)) (l ∷ []) w.shows shows);
          shared = w.shared;
          node = w.node;
        });
  }
