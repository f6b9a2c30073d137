-- What operations on records are, in the world.
use Rattle.std.proofs.Common.{◌≡◌, ℕ, zero, suc, ◌-◌, ◌<◌, List, [], ◌∷◌, Bool, true, false, Option, Some, None, length, drop, map, nat_lt, refl, ap, subst, arith}
use Rattle.std.specs.Prelude.{◌||◌}
use Rattle.std.proofs.lemmas.Bool.{ltb-false}
use Rattle.emitter_model.specs.transcript_model.Lines as line
use Rattle.emitter_model.specs.transcript_model.Lines.{Line}
use Rattle.vms_model.specs.Keys.{Key}
use Rattle.script_lang.specs.script_model.Statements.{Operation, Put, Update, Delete, Truncate, Get, Next}
use Rattle.emitter_model.specs.commit_protocol.Table.{Branch}
use Rattle.records_model.specs.Records.{Change}
use Rattle.file_images.specs.run_model.World.{Directs, File, Node, Shared, next_id, next_moment, shared_after}
use Rattle.file_images.specs.run_model.Operations.{changes_of, count_of, data_refused, first_of, in_order, is_change, refused_if, removed}
use Rattle.file_images.specs.run_model.Answers.{commit_settlement, directed, found_refused, operation_act}
use Rattle.recovery_units.specs.world_laws.Nodes.{AreUp}
use Rattle.recovery_units.specs.Calls.{KeepsUp, alone_refused_after_reading, alone_refused_before_reading, direct_act, unit_act, unit_refused_after_reading, unit_refused_before_reading}
use Rattle.file_requests.specs.Acting.{StaysUp, alone_service, branch_service}
use Rattle.file_requests.proofs.Served.{both_none}

pub act_shares : (b : Branch) (name : List ℕ) (cs : List Change) (keys : List Key) (s : Shared) → shared_after (operation_act b name cs keys) s ≡ s
act_shares b name [] keys s = refl
act_shares b name (c ∷ cs) keys s = refl

-- the node is up behind the one act of an operation of a branch
pub branch_up : (n : Node) (b : Branch) (name : List ℕ) (f : File) (op : Operation) → StaysUp (branch_service n b name f op) n → KeepsUp (unit_refused_before_reading n b name f op) (unit_refused_after_reading n b name f op) (unit_act b name f op) n
branch_up n b name f op up = λ none. (up none).1

-- Operations without a branch.

no_refusal : (x : Line) → ◌≡◌ {A = Option Line} (Some x) None → ⊥
no_refusal x e = cc

not_refused : (b : Bool) (x : Line) → refused_if b x ≡ None → b ≡ false
not_refused true x e = absurd (no_refusal x e)
not_refused false x e = refl

neither : (a b : Bool) → (a || b) ≡ false → (a ≡ false) × (b ≡ false)
neither false false e = (refl, refl)
neither false true e = let none : ⊥ = cc in absurd none
neither true b e = let none : ⊥ = cc in absurd none

pub record HasOne (cs : List Change) : Type 0 where
  pub first : Change
  pub rest : List Change
  pub is : cs ≡ first ∷ rest

left_some : (k : ℕ) (es : List (Key × List ℕ)) → k < length es → HasOne (map removed (drop k es))
left_some k [] below = absurd (omega arith)
left_some zero (e ∷ es) below = record { first = removed e; rest = map removed es; is = refl }
left_some (suc k) (e ∷ es) below = left_some k es (omega arith)

-- a change that the records do not refuse changes something
pub changes_some : (f : File) (op : Operation) → is_change op ≡ true → data_refused f op ≡ None → HasOne (changes_of f op)
changes_some f (Put number bytes) c e = record { first = _; rest = []; is = refl }
changes_some f (Update key bytes) c e = record { first = _; rest = []; is = refl }
changes_some f (Delete key) c e = record { first = _; rest = []; is = refl }
changes_some f (Truncate number) c e =
    let t = neither (nat_lt number 1) (nat_lt (count_of f) number) (not_refused _ _ e) in
    let one = ltb-false number 1 t.0 in
    let most = ltb-false (count_of f) number t.1 in
    left_some (number - 1) (in_order f) (omega (arith, one, most))
changes_some f (Get key) c e = let none : ⊥ = cc in absurd none
changes_some f (Next after) c e = let none : ⊥ = cc in absurd none

-- a change that nothing refuses changes something, and so has one row
module _ (n : Node) (name : List ℕ) (f : File) (op : Operation) where
  pub alone_row : is_change op ≡ true → first_of (alone_refused_before_reading n name f op) (alone_refused_after_reading n name f op) ≡ None → directed n name (changes_of f op) ≡ record { act = Some (direct_act n name f op); lines = line.Committed (next_id n) (next_id n) (next_moment n) ∷ [] } ∷ []
  alone_row change e =
      let late = (both_none (alone_refused_before_reading n name f op) (alone_refused_after_reading n name f op) e).1 in
      let found_none = (both_none (found_refused n None name op f) _ late).0 in
      one (changes_of f op) (changes_some f op change (both_none (data_refused f op) _ found_none).0)
    where
      one : (cs : List Change) → HasOne cs → directed n name cs ≡ record { act = Some (Directs name cs (commit_settlement n (next_id n) (next_id n))); lines = line.Committed (next_id n) (next_id n) (next_moment n) ∷ [] } ∷ []
      one [] k = let none : ⊥ = (let e = k.is in cc) in absurd none
      one (c ∷ cs) k = refl

  pub alone_up : is_change op ≡ true → StaysUp (alone_service n name f op) n → KeepsUp (alone_refused_before_reading n name f op) (alone_refused_after_reading n name f op) (direct_act n name f op) n
  alone_up change up = λ none. (subst (λ rs. AreUp rs n) (alone_row change none) (up none)).1

  -- what is read leaves no row
  pub looks_row : is_change op ≡ false → directed n name (changes_of f op) ≡ []
  looks_row read = ap (directed n name) (reads_nothing op read)
    where
      reads_nothing : (o : Operation) → is_change o ≡ false → changes_of f o ≡ []
      reads_nothing (Get key) e = refl
      reads_nothing (Next after) e = refl
      reads_nothing (Put number bytes) e = let none : ⊥ = cc in absurd none
      reads_nothing (Update key bytes) e = let none : ⊥ = cc in absurd none
      reads_nothing (Delete key) e = let none : ⊥ = cc in absurd none
      reads_nothing (Truncate number) e = let none : ⊥ = cc in absurd none
