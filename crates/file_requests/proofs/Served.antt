-- How a service comes out at a node, by what the code did.
use Rattle.std.proofs.Common.{◌≡◌, ⊎_elim, inl, inr, ℕ, zero, suc, ◌≤◌, List, [], ◌∷◌, ◌++◌, Bool, true, false, Option, Some, None, Result, Ok, Err, length, take, map, refl, sym, ap, subst, ◌∙◌, arith}
use Rattle.std.specs.Prelude.{if◌then◌else◌}
use Rattle.std.proofs.lemmas.List.{append-nil, length-map}
use Rattle.block_disk.specs.Disk.{DiskState}
use Rattle.careful_write.specs.declared.down.Down.{Down}
use Rattle.emitter_model.specs.transcript_model.Lines.{Line}
use Rattle.emitter_model.specs.Emitting.{Shown, Emits}
use Rattle.emitter_model.proofs.EmittingLemmas.{emits_on}
use Rattle.record_operations.specs.declared.errors.RecErr.{RecErr}
use Rattle.file_images.specs.run_model.World.{Act, Node, Shared, acted, fallen, is_durable, shared_after}
use Rattle.file_images.specs.run_model.Operations.{first_of}
use Rattle.file_images.specs.run_model.Answers.{Row, shown_line}
use Rattle.file_images.specs.run_model.Steps.{act_begun, lines_of_rows, node_after_rows, rows_if, shared_after_rows}
use Rattle.recovery_units.specs.volume_model.Volumes.{HasDisk}
use Rattle.recovery_units.specs.Calls.{IsNotDone, refusal_of}
use Rattle.node_standing.specs.node_table.Serving.{DoesService, ServiceAt, rows_at_risk}
use Rattle.file_requests.specs.Listing.{Lists}

-- the first of two causes
pub both_none : (e l : Option Line) → first_of e l ≡ None → (e ≡ None) × (l ≡ None)
both_none None l h = (refl, h)
both_none (Some x) l h = let none : ⊥ = cc in absurd none

pub first_is : (e l : Option Line) (x : Line) → e ≡ Some x → first_of e l ≡ Some x
first_is e l x is = ap (λ o. first_of o l) is

pub second_is : (e l : Option Line) (x : Line) → e ≡ None → l ≡ Some x → first_of e l ≡ Some x
second_is e l x none is = ap (λ o. first_of o l) none ∙ is

-- Rows that only show.

lines_shown : (ls : List Line) → lines_of_rows (map shown_line ls) ≡ ls
lines_shown [] = refl
lines_shown (l ∷ ls) = ap (λ t. l ∷ t) (lines_shown ls)

leaves_node : (ls : List Line) (n : Node) → node_after_rows (map shown_line ls) n ≡ n
leaves_node [] n = refl
leaves_node (l ∷ ls) n = leaves_node ls n

leaves_shared : (ls : List Line) (s : Shared) → shared_after_rows (map shown_line ls) s ≡ s
leaves_shared [] s = refl
leaves_shared (l ∷ ls) s = leaves_shared ls s

take_shown : (k : ℕ) (ls : List Line) → take k (map shown_line ls) ≡ map shown_line (take k ls)
take_shown zero ls = refl
take_shown (suc k) [] = refl
take_shown (suc k) (l ∷ ls) = ap (λ t. shown_line l ∷ t) (take_shown k ls)

module _ (q : ServiceAt) (s : Shared) (n : Node) (a b : Shown) (kept : Type 0) (stands : Node → Type 0) (d : DiskState) where
  abbrev pub Comes : Result (Unit {0}) Down → Type 0
  Comes r = DoesService r q s n a b kept (λ t. t ≡ s) stands d

  pub refused : (T : Type 0) (x : T) (l : Line) → first_of q.early q.late ≡ Some l → kept → Emits a (l ∷ []) b → DoesService {T = T} (Ok x) q s n a b kept (λ t. t ≡ s) stands d
  refused T x l is same m = inl (record { refusal = l; is = is; shows = m; same = same })

  -- its one row was done
  pub served : (T : Type 0) (x : T) (act : Act) (ls : List Line) → first_of q.early q.late ≡ None → q.rows ≡ record { act = Some act; lines = ls } ∷ [] → shared_after act s ≡ s → stands (acted act n) → Emits a (ls ++ q.answer ∷ []) b →
      DoesService {T = T} (Ok x) q s n a b kept (λ t. t ≡ s) stands d
  served T x act ls allowed are same stood m = inr (record {
    allowed = allowed;
    shows = subst (λ rs. Emits a (lines_of_rows rs ++ q.answer ∷ []) b) (sym are) (subst (λ xs. Emits a (xs ++ q.answer ∷ []) b) (sym (append-nil ls)) m);
    shared = ap (λ rs. shared_after_rows rs s) are ∙ same;
    node = subst (λ rs. stands (node_after_rows rs n)) (sym are) stood;
  })

  -- the disk went down before any part was done
  pub cut_first : (T : Type 0) (e : Down) → q.early ≡ None → HasDisk (fallen None n) d → Emits a [] b → DoesService {T = T} (Err e) q s n a b kept (λ t. t ≡ s) stands d
  cut_first T e unrefused has m = record { unrefused = unrefused; done = 0; begun = false; within = omega arith; shows = m; shared = refl; disk = has }

  -- with the act of its one row perhaps under way
  pub cut_act : (T : Type 0) (e : Down) (act : Act) (ls : List Line) → q.early ≡ None → q.late ≡ None → q.rows ≡ record { act = Some act; lines = ls } ∷ [] → is_durable act ≡ true → HasDisk (fallen (Some act) n) d → Emits a [] b →
      DoesService {T = T} (Err e) q s n a b kept (λ t. t ≡ s) stands d
  cut_act T e act ls unrefused late are durable has m =
      let risk : rows_at_risk q ≡ record { act = Some act; lines = ls } ∷ [] = (λ i. rows_if (late i) (are i)) in
      record {
        unrefused = unrefused;
        done = 0;
        begun = true;
        within = omega arith;
        shows = m;
        shared = refl;
        disk = subst (λ rs. HasDisk (fallen (act_begun true rs) n) d) (sym risk) (subst (λ (t : Bool). HasDisk (fallen (if t then Some act else None) n) d) (sym durable) has);
      }

  -- by what a call on units answered

  pub refusal_comes : (T : Type 0) (x : T) (e : RecErr) (l : Line) (act : Act) (at : DiskState) → refusal_of e ≡ Some l → IsNotDone e q.early q.late act n at → kept → Emits a (l ∷ []) b → DoesService {T = T} (Ok x) q s n a b kept (λ t. t ≡ s) stands d
  refusal_comes T x e l act at is not_done same m = refused T x l (let k = not_done in rw (is, IsNotDone) at k) same m

  pub broken_comes : (T : Type 0) (down : Down) (e : RecErr) (act : Act) (ls : List Line) → refusal_of e ≡ None → IsNotDone e q.early q.late act n d → (first_of q.early q.late ≡ None → q.rows ≡ record { act = Some act; lines = ls } ∷ []) → Emits a [] b →
      DoesService {T = T} (Err down) q s n a b kept (λ t. t ≡ s) stands d
  broken_comes T down e act ls is not_done are m =
      let k = (let k = not_done in rw (is, IsNotDone) at k) in
      ⊎_elim
      (λ first. cut_first T down k.begun first m)
      (λ second. cut_act T down act ls k.begun second.0 (are (ap (λ x. first_of x q.late) k.begun ∙ second.0)) second.1 second.2 m)
      k.disk

  -- Rows that only show, all of them or so many.
  module _ (lines : List Line) (answer : Line) (early : q.early ≡ None) (late : q.late ≡ None) (are : q.rows ≡ map shown_line lines) (told : q.answer ≡ answer) where
    pub listed : stands n → Lists (Ok tt) lines answer a b → Comes (Ok tt)
    listed stood l = inr (record {
      allowed = ap (λ o. first_of o q.late) early ∙ late;
      shows = subst (λ (x : List Line). Emits a x b) (sym (λ i. (ap lines_of_rows are ∙ lines_shown lines) i ++ told i ∷ [])) (emits_on a l.0 b _ _ l.1 l.2);
      shared = ap (λ rs. shared_after_rows rs s) are ∙ leaves_shared lines s;
      node = subst stands (sym (ap (λ rs. node_after_rows rs n) are ∙ leaves_node lines n)) stood;
    })

    pub unlisted : (e : Down) → HasDisk (fallen None n) d → Lists (Err e) lines answer a b → Comes (Err e)
    unlisted e has l =
        let risk : rows_at_risk q ≡ map shown_line lines = (λ i. rows_if (late i) (are i)) in
        let shown : take l.0 (rows_at_risk q) ≡ map shown_line (take l.0 lines) = ap (take l.0) risk ∙ take_shown l.0 lines in
        record {
          unrefused = early;
          done = l.0;
          begun = false;
          within = subst (λ (rs : List Row). l.0 ≤ length rs) (sym risk) (rw (length-map {A = Line} {B = Row}) l.1);
          shows = subst (λ ls. Emits a ls b) (sym (ap lines_of_rows shown ∙ lines_shown (take l.0 lines))) l.2;
          shared = ap (λ rs. shared_after_rows rs s) shown ∙ leaves_shared (take l.0 lines) s;
          disk = subst (λ m. HasDisk (fallen None m) d) (sym (ap (λ rs. node_after_rows rs n) shown ∙ leaves_node (take l.0 lines) n)) has;
        }
