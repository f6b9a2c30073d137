-- Locks by the numbers of files, and by their names.
use Rattle.std.proofs.Common.{◌≡◌, ℕ, ◌==◌, ◌&&◌, ◌||◌, ◌++◌, List, [], ◌∷◌, Bool, true, false, Option, Some, length, map, refl, sym, ◌∙◌, ap, subst, arith, if◌then◌else◌}
use Rattle.std.specs.Ordering.{eq_by_cmp}
use Rattle.std.specs.Str.{bytes_eq}
use Rattle.std.proofs.lemmas.Bool.Decides.{Decides-eqb, same_from_decides}
use Rattle.std.proofs.lemmas.Slice.Eq.{bytes_eq-Decides}
use Rattle.file_base.specs.declared.head.FileHead.{FileHead}
use Rattle.vms_model.specs.Ids.{Id}
use Rattle.vms_model.specs.Keys.{Key}
use Rattle.records_model.specs.Records.{key_cmp}
use Rattle.records_model.specs.History.{same_id}
use Rattle.record_locks.specs.Locks as table
use Rattle.recovery_units.specs.run_model.Locks as world
use Rattle.unit_world.specs.directory_model.Files.{head_at}
use Rattle.recovery_units.specs.State.{AreLocks, IsLock}

-- no two files have one name
abbrev pub AreOnce : List (Option FileHead) → Type 0
AreOnce heads = (f g : ℕ) (h k : FileHead) → head_at heads f ≡ Some h → head_at heads g ≡ Some k → h.name ≡ k.name → f ≡ g

module _ (heads : List (Option FileHead)) (once : AreOnce heads) (f : ℕ) (h : FileHead) (there : head_at heads f ≡ Some h) where
  file_alike : (l : table.Lock) (m : world.Lock) → IsLock heads l m → bytes_eq h.name m.file ≡ (f == l.file)
  file_alike l m is = same_from_decides _ _ (bytes_eq-Decides h.name m.file) (
    λ same. let at = (Decides-eqb f l.file).0 same in one (sym there ∙ ap (head_at heads) at ∙ is.there) ∙ sym is.file,
    λ same. (Decides-eqb f l.file).1 (once f l.file h is.head there is.there (same ∙ is.file)),
  )
    where
      one : ◌≡◌ {A = Option FileHead} (Some h) (Some is.head) → h.name ≡ is.head.name
      one e = cc

  lock_alike : (l : table.Lock) (m : world.Lock) (key : Key) → IsLock heads l m → world.is_lock_of h.name key m ≡ table.is_lock_of f key l
  lock_alike l m key is = λ i. file_alike l m is i && eq_by_cmp key_cmp key (is.key i)

  pub holder_alike : (ls : List table.Lock) (ms : List world.Lock) (key : Key) → AreLocks heads ls ms → world.holder ms h.name key ≡ table.holder ls f key
  holder_alike [] [] key are = refl
  holder_alike [] (m ∷ ms) key are = absurd are
  holder_alike (l ∷ ls) [] key are = absurd are
  holder_alike (l ∷ ls) (m ∷ ms) key are = λ i. if lock_alike l m key are.0 i then Some (are.0.by i) else holder_alike ls ms key are.1 i

  pub locked_alike : (ls : List table.Lock) (ms : List world.Lock) (key : Key) → AreLocks heads ls ms → world.is_locked ms h.name key ≡ table.is_locked ls f key
  locked_alike [] [] key are = refl
  locked_alike [] (m ∷ ms) key are = absurd are
  locked_alike (l ∷ ls) [] key are = absurd are
  locked_alike (l ∷ ls) (m ∷ ms) key are = λ i. lock_alike l m key are.0 i || locked_alike ls ms key are.1 i

  pub not_locked_alike : (ls : List table.Lock) (ms : List world.Lock) (ks : List Key) → AreLocks heads ls ms → world.not_locked ms h.name ks ≡ table.not_locked ls f ks
  not_locked_alike ls ms [] are = refl
  not_locked_alike ls ms (k ∷ ks) are = λ i. if locked_alike ls ms k are i then not_locked_alike ls ms ks are i else k ∷ not_locked_alike ls ms ks are i

  own_locks : (serial : Id) (js : List Key) (ls : List table.Lock) (ms : List world.Lock) → AreLocks heads ls ms →
      AreLocks heads (map (λ k. record { file = f; key = k; by = serial }) js ++ ls) (map (λ k. record { file = h.name; key = k; by = serial }) js ++ ms)
  own_locks serial [] ls ms are = are
  own_locks serial (j ∷ js) ls ms are = (record { key = refl; by = refl; head = h; there = there; file = refl }, own_locks serial js ls ms are)

  pub locks_more : (serial : Id) (ks : List Key) (ls : List table.Lock) (ms : List world.Lock) → AreLocks heads ls ms → AreLocks heads (table.with_locks serial f ks ls) (world.with_locks serial h.name ks ms)
  locks_more serial ks ls ms are =
      subst (λ (js : List Key). AreLocks heads (table.with_locks serial f ks ls) (map (λ k. record { file = h.name; key = k; by = serial }) js ++ ms)) (sym (not_locked_alike ls ms ks are))
      (own_locks serial (table.not_locked ls f ks) ls ms are)

pub locks_less : (heads : List (Option FileHead)) (serial : Id) (ls : List table.Lock) (ms : List world.Lock) → AreLocks heads ls ms → AreLocks heads (table.released serial ls) (world.released serial ms)
locks_less heads serial [] [] are = tt
locks_less heads serial [] (m ∷ ms) are = absurd are
locks_less heads serial (l ∷ ls) [] are = absurd are
locks_less heads serial (l ∷ ls) (m ∷ ms) are = subst (λ (x : Id). AreLocks heads (table.released serial (l ∷ ls)) (if same_id serial x then world.released serial ms else m ∷ world.released serial ms)) (sym are.0.by) (go (same_id serial l.by) (locks_less heads serial ls ms are.1))
  where
    go : (b : Bool) → AreLocks heads (table.released serial ls) (world.released serial ms) → AreLocks heads (if b then table.released serial ls else l ∷ table.released serial ls) (if b then world.released serial ms else m ∷ world.released serial ms)
    go true rest = rest
    go false rest = (are.0, rest)

pub many_alike : (heads : List (Option FileHead)) (ls : List table.Lock) (ms : List world.Lock) → AreLocks heads ls ms → length ms ≡ length ls
many_alike heads [] [] are = refl
many_alike heads [] (m ∷ ms) are = absurd are
many_alike heads (l ∷ ls) [] are = absurd are
many_alike heads (l ∷ ls) (m ∷ ms) are = let rest = many_alike heads ls ms are.1 in omega (arith, rest)
