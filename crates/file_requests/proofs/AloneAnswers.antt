-- Operations that no branch is asked for, from what calls on units answer.
use Rattle.std.proofs.Common.{◌≡◌, ℕ, List, [], ◌∷◌, Bool, true, false, Option, Some, None, Result, Ok, Err, refl, sym, subst}
use Rattle.block_disk.specs.Disk.{DiskState}
use Rattle.careful_write.specs.declared.down.Down.{Down}
use Rattle.emitter_model.specs.transcript_model.Lines as line
use Rattle.emitter_model.specs.transcript_model.Lines.{Line}
use Rattle.emitter_model.specs.Emitting.{Shown, Emits}
use Rattle.emitter_model.proofs.EmittingLemmas.{emits_nothing}
use Rattle.script_lang.specs.script_model.Statements.{Operation}
use Rattle.vms_model.specs.Ids.{Id}
use Rattle.file_images.specs.run_model.World.{Act, File, Node, acted, fallen, next_id, next_moment}
use Rattle.file_images.specs.run_model.Operations.{first_of, is_change, operation_answer}
use Rattle.record_operations.specs.Causes.{down_in}
use Rattle.record_operations.specs.declared.errors.RecErr.{RecErr}
use Rattle.record_operations.specs.declared.ops.RecordOp.{RecordOp}
use Rattle.record_operations.specs.declared.ops.RecordOp.TheVariants as change
use Rattle.record_operations.specs.declared.ops.ReadOp.{ReadOp}
use Rattle.record_operations.specs.declared.ops.ReadOp.TheVariants as read
use Rattle.volume.specs.State.{SameVolume}
use Rattle.recovery_units.specs.volume_model.Volumes.{HasDisk}
use Rattle.recovery_units.specs.Calls.{IsAskedAlone, IsDone, IsNotDone, IsSeen, KeepsUp, alone_refused_after_reading, alone_refused_before_reading, change_said, direct_act, read_said, refusal_of}
use Rattle.recovery_units.specs.State.{IsInOrder, IsKept, UnitsState}
use Rattle.recovery_units.specs.Uses.{Caused, Grows, ImagesGrow}
use Rattle.node_standing.specs.node_table.Standing.{Stored}
use Rattle.file_requests.specs.Acting.{ActsAlone, LooksAlone, alone_service}
use Rattle.file_requests.specs.Asking.{ShowsCause}
use Rattle.file_requests.specs.Replying.{IsPlain, RepliesIf}
use Rattle.file_requests.specs.Serving.{SameStored, disk_of}
use Rattle.file_requests.proofs.BranchAnswers.{no_down}
use Rattle.file_requests.proofs.Kept.{keeps_same}
use Rattle.file_requests.proofs.Operating.{alone_row, alone_up, looks_row}
use Rattle.file_requests.proofs.Calls.{images_same}
use Rattle.file_requests.proofs.Reading.{kept_still, order_still, stored_of_volume}
use Rattle.file_requests.proofs.Replied.{since_emits}
use Rattle.file_requests.proofs.Served.{both_none, broken_comes, cut_first, listed, refusal_comes, refused, served}

pub change_changes : (op : RecordOp) (bytes : List ℕ) → is_change (change_said op bytes) ≡ true
change_changes (change.Put file key) bytes = refl
change_changes (change.Update file key) bytes = refl
change_changes (change.Delete file key) bytes = refl
change_changes (change.Truncate file from) bytes = refl

pub read_reads : (op : ReadOp) → is_change (read_said op) ≡ false
read_reads (read.Get file key) = refl
read_reads (read.Next file after) = refl

-- what the units answered to a change, at each node of the world that is asked so and is up behind its act too
abbrev pub ForAlone : (id : Id) (clock f : ℕ) (op : Operation) (u : Stored) → ((n : Node) (early late : Option Line) (act : Act) (file : File) → Type 0) → Type 0
ForAlone id clock f op u P = (n : Node) (name : List ℕ) (file : File) → IsAskedAlone f u.units u.volume n name file → next_id n ≡ id → n.clock ≡ clock → KeepsUp (alone_refused_before_reading n name file op) (alone_refused_after_reading n name file op) (direct_act n name file op) n →
    P n (alone_refused_before_reading n name file op) (alone_refused_after_reading n name file op) (direct_act n name file op) file

module _ (id : Id) (clock f : ℕ) (op : Operation) (u new : Stored) (o : IsInOrder u.units u.volume) (changes : is_change op ≡ true) (units : new.units ≡ u.units) (doubts : new.in_doubt ≡ u.in_doubt) (grows : Grows 1 clock u.volume new.volume) where
  -- it was done under this id
  pub alone_done : (moment : ℕ) (told : Line) (a b : Shown) → ImagesGrow u.volume new.volume → IsInOrder new.units new.volume → IsPlain told → Emits a (line.Committed id id moment ∷ told ∷ []) b →
      ForAlone id clock f op u (λ n early late act file. IsDone early late act (operation_answer file op) told n u.units new.volume × (moment ≡ next_moment n)) → ActsAlone (Ok true) id clock f op u new a b
  alone_done moment told a b far order plain m done = record {
    keeps = record { order = order; in_doubt = doubts; grows = grows; images = far; cause = tt; since = since_emits a b _ m; replies = record { lines = line.Committed id id moment ∷ []; answer = told; shows = m; quiet = (refl, tt); plain = plain } };
    units = units;
    acts = λ s n name file q next at up.
        let d = done n name file q next at (alone_up n name file op changes up) in
        served (alone_service n name file op) s n a b (SameStored u new × (true ≡ false)) (λ m. IsKept new.units new.volume m × (true ≡ true)) (disk_of new) Bool true (direct_act n name file op) (line.Committed (next_id n) (next_id n) (next_moment n) ∷ []) d.0.allowed
        (alone_row n name file op changes d.0.allowed) refl (subst (λ (x : UnitsState). IsKept x new.volume (acted (direct_act n name file op) n)) (sym units) d.0.kept, refl)
        (subst (λ (ls : List Line). Emits a ls b) (λ i. line.Committed (sym next i) (sym next i) (d.1 i) ∷ sym d.0.answers i ∷ []) m);
  }

  -- it was refused
  pub alone_refused : (e : RecErr) (l : Line) (a b : Shown) → (down_in e ≡ None → SameVolume u.volume new.volume) → RepliesIf {T = Unit {0}} (Ok tt) a b → refusal_of e ≡ Some l → Emits a (l ∷ []) b → ForAlone id clock f op u (λ n early late act file. IsNotDone e early late act n (disk_of new)) → ActsAlone (Ok false) id clock f op u new a b
  alone_refused e l a b same replies is m not_done =
      let still = same (no_down e l is) in
      let all = stored_of_volume u new still units doubts in
      record {
        keeps = record { order = order_still u new all o; in_doubt = doubts; grows = grows; images = images_same u.volume new.volume still; cause = tt; since = since_emits a b _ m; replies = replies };
        units = units;
        acts = λ s n name file q next at up.
            refusal_comes (alone_service n name file op) s n a b (SameStored u new × (false ≡ false)) (λ m. IsKept new.units new.volume m × (false ≡ true)) (disk_of new) Bool false e l (direct_act n name file op) (disk_of new) is (not_done n name file q next at (alone_up n name file op changes up)) (all, refl) m;
      }

  -- the disk went down
  pub alone_fell : (e : RecErr) (down : Down) (a b : Shown) → Caused (down_in e) (disk_of u) (disk_of new) → RepliesIf {T = Unit {0}} (Err down) a b → refusal_of e ≡ None → down_in e ≡ Some down → Emits a [] b → ForAlone id clock f op u (λ n early late act file. IsNotDone e early late act n (disk_of new)) →
      ActsAlone (Err down) id clock f op u new a b
  alone_fell e down a b caused replies is fell m not_done = record {
    keeps = record { order = tt; in_doubt = doubts; grows = grows; images = tt; cause = subst (λ o. Caused o (disk_of u) (disk_of new)) fell caused; since = since_emits a b _ m; replies = replies };
    units = units;
    acts = λ s n name file q next at up.
        broken_comes (alone_service n name file op) s n a b (SameStored u new × (Unit {0})) (λ m. IsKept new.units new.volume m × (Unit {0})) (disk_of new) Bool down e (direct_act n name file op) (line.Committed (next_id n) (next_id n) (next_moment n) ∷ []) is
        (not_done n name file q next at (alone_up n name file op changes up)) (alone_row n name file op changes) m;
  }

-- Reads.

-- what was looked at is the world's refusal, or the disk went down
abbrev pub IsNotSeen : RecErr → (early late : Option Line) → Node → DiskState → Type 0
IsNotSeen e early late n d = elim (refusal_of e) [ Some l ↦ first_of early late ≡ Some l | None ↦ (early ≡ None) × HasDisk (fallen None n) d ]

module _ (f : ℕ) (op : Operation) (u new : Stored) (o : IsInOrder u.units u.volume) (reads : is_change op ≡ false) (units : new.units ≡ u.units) (doubts : new.in_doubt ≡ u.in_doubt) (grows : Grows 0 0 u.volume new.volume) where
  pub looked_done : (told : Line) (a b : Shown) → SameStored u new → IsPlain told → Emits a (told ∷ []) b →
      ((n : Node) (name : List ℕ) (file : File) → IsAskedAlone f u.units u.volume n name file → IsSeen (alone_refused_before_reading n name file op) (alone_refused_after_reading n name file op) (operation_answer file op) told) → LooksAlone {T = Unit {0}} (Ok tt) f op u new a b
  looked_done told a b same plain m seen = record {
    keeps = keeps_same tt u new a b told o same plain m;
    same = same;
    units = units;
    acts = λ s n name file q.
        let x = seen n name file q in
        let none = both_none (alone_refused_before_reading n name file op) (alone_refused_after_reading n name file op) x.allowed in
        listed (alone_service n name file op) s n a b (SameStored u new) (IsKept new.units new.volume) (disk_of new) [] (operation_answer file op) none.0 none.1 (looks_row n name file op reads) refl (kept_still u new same n q.kept)
        (a, emits_nothing a, subst (λ (l : Line). Emits a (l ∷ []) b) (sym x.answers) m);
  }

  pub looked_err : (e : RecErr) (r : Result (Unit {0}) Down) (a b : Shown) → (down_in e ≡ None → SameVolume u.volume new.volume) → Caused (down_in e) (disk_of u) (disk_of new) → RepliesIf r a b → ShowsCause e r a b →
      ((n : Node) (name : List ℕ) (file : File) → IsAskedAlone f u.units u.volume n name file → IsNotSeen e (alone_refused_before_reading n name file op) (alone_refused_after_reading n name file op) n (disk_of new)) → LooksAlone r f op u new a b
  looked_err e (Ok tt) a b same caused replies shows not_seen =
      let still = same (no_down e shows.0 shows.1) in
      let is = stored_of_volume u new still units doubts in
      record {
        keeps = record { order = order_still u new is o; in_doubt = doubts; grows = grows; images = images_same u.volume new.volume still; cause = tt; since = since_emits a b _ shows.2; replies = replies };
        same = is;
        units = units;
        acts = λ s n name file q. refused (alone_service n name file op) s n a b (SameStored u new) (IsKept new.units new.volume) (disk_of new) (Unit {0}) tt shows.0 (refusal n name file q) is shows.2;
      }
    where
      refusal : (n : Node) (name : List ℕ) (file : File) → IsAskedAlone f u.units u.volume n name file → first_of (alone_refused_before_reading n name file op) (alone_refused_after_reading n name file op) ≡ Some shows.0
      refusal n name file q = let k = not_seen n name file q in let is = shows.1 in rw (is, IsNotSeen) at k
  looked_err e (Err down) a b same caused replies shows not_seen = record {
    keeps = record { order = tt; in_doubt = doubts; grows = grows; images = tt; cause = subst (λ o. Caused o (disk_of u) (disk_of new)) shows.1 caused; since = since_emits a b _ shows.2; replies = replies };
    same = tt;
    units = units;
    acts = λ s n name file q. cut_first (alone_service n name file op) s n a b (SameStored u new) (IsKept new.units new.volume) (disk_of new) (Unit {0}) down (broken n name file q).0 (broken n name file q).1 shows.2;
  }
    where
      broken : (n : Node) (name : List ℕ) (file : File) → IsAskedAlone f u.units u.volume n name file → (alone_refused_before_reading n name file op ≡ None) × HasDisk (fallen None n) (disk_of new)
      broken n name file q = let k = not_seen n name file q in let is = shows.0 in rw (is, IsNotSeen) at k
