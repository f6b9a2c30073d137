-- Rows that are done one after another.
use Rattle.std.proofs.Common.{◌≡◌, ◌≤◌, ◌+◌, ℕ, suc, List, [], ◌∷◌, ◌++◌, Bool, true, false, Option, Some, None, Result, Ok, Err, refl, sym, ap, subst, length, take, drop, arith}
use Rattle.emitter_model.specs.Emitting.{Shown, Emits}
use Rattle.emitter_model.specs.transcript_model.Lines.{Line}
use Rattle.emitter_model.proofs.EmittingLemmas.{emits_nothing, emits_on}
use Rattle.run_model.specs.World.{Act, Node, Shared, fallen}
use Rattle.run_model.specs.Answers.{Row}
use Rattle.run_model.specs.Steps.{act_begun, if_durable, lines_of_rows, node_after, node_after_rows, shared_after_rows, shared_then}
use Rattle.row_laws.specs.Doing.{DidAll, DoesRows, WentDown}

-- none is done at once
pub did_none : {shares : Shared → Type 0} {stands : Node → Type 0} (s : Shared) (n : Node) (a : Shown) → shares s → stands n → DidAll [] s n a a shares stands
did_none s n a shared node = record { shows = emits_nothing a; shared = shared; node = node }

-- one, and then the others
pub did_more : {shares : Shared → Type 0} {stands : Node → Type 0} (r : Row) (rs : List Row) (s : Shared) (n : Node) (a b c : Shown) → Emits a r.lines b → DidAll rs (shared_then r.act s) (node_after r.act n) b c shares stands → DidAll (r ∷ rs) s n a c shares stands
did_more r rs s n a b c e d = record { shows = emits_on a b c r.lines (lines_of_rows rs) e d.shows; shared = d.shared; node = d.node }

pub down_later : {shares : Shared → Type 0} {falls : Node → Type 0} (r : Row) (rs : List Row) (s : Shared) (n : Node) (a b c : Shown) → Emits a r.lines b → WentDown rs (shared_then r.act s) (node_after r.act n) b c shares falls → WentDown (r ∷ rs) s n a c shares falls
down_later r rs s n a b c e d =
    let within = d.within in
    record { done = suc d.done; begun = d.begun; within = omega arith; shows = emits_on a b c r.lines (lines_of_rows (take d.done rs)) e d.shows; shared = d.shared; disk = d.disk }

-- the disk went down in the first
pub down_first : {shares : Shared → Type 0} {falls : Node → Type 0} (r : Row) (rs : List Row) (s : Shared) (n : Node) (a b : Shown) → Emits a [] b → shares s → falls (fallen (if_durable r.act) n) → WentDown (r ∷ rs) s n a b shares falls
down_first r rs s n a b e shared disk = record { done = 0; begun = true; within = omega arith; shows = e; shared = shared; disk = disk }

-- or before any of them
pub down_before : {shares : Shared → Type 0} {falls : Node → Type 0} (rs : List Row) (s : Shared) (n : Node) (a b : Shown) → Emits a [] b → shares s → falls (fallen None n) → WentDown rs s n a b shares falls
down_before rs s n a b e shared disk = record { done = 0; begun = false; within = omega arith; shows = e; shared = shared; disk = disk }

pub does_more : {T E : Type 0} (shares : Shared → Type 0) (stands falls : Node → Type 0) (x : Result T E) (r : Row) (rs : List Row) (s : Shared) (n : Node) (a b c : Shown) → Emits a r.lines b → DoesRows x rs (shared_then r.act s) (node_after r.act n) b c shares stands falls → DoesRows x (r ∷ rs) s n a c shares stands falls
does_more shares stands falls (Ok t) r rs s n a b c e d = did_more r rs s n a b c e d
does_more shares stands falls (Err t) r rs s n a b c e d = down_later r rs s n a b c e d
