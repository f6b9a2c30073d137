-- The blocks that files take, in the world and in a volume.
use Rattle.std.proofs.Common.{◌≡◌, ℕ, suc, ◌*◌, List, [], ◌∷◌, length, Bool, true, false, Option, Some, None, refl, sym, ap, ◌∙◌, arith}
use Rattle.std.specs.Prelude.{◌||◌}
use Rattle.std.proofs.lemmas.List.Folds.{list_any-append}
use Rattle.extents.specs.file_base.declared.head.FileHead.{FileHead}
use Rattle.extents.specs.Extents.{all_extents, covers, is_used, nowhere}
use Rattle.extents.specs.Extents as extents
use Rattle.extents.proofs.Used.{not_behind}
use Rattle.file_images.specs.run_model.Extents.{is_taken, in_extent}
use Rattle.file_images.specs.run_model.World.{File, extent_of, extents_of, others_of, save_extent}
use Rattle.file_images.specs.recovery_model.File.{Save}
use Rattle.file_images.specs.Files.{HasSave}
use Rattle.directory_model.specs.Files.{IsCarried, IsFile, IsPlace, head_at, file_at}
use Rattle.directory_model.specs.Laws.{TakesBlocks}

or_assoc : (a b c : Bool) → ((a || b) || c) ≡ (a || (b || c))
or_assoc true b c = refl
or_assoc false b c = refl

none_of : (a b : ℕ) → a ≡ 0 → a * b ≡ 0
none_of a b none = let zero_times : 0 * b ≡ 0 = omega arith in ap (λ x. x * b) none ∙ zero_times

-- the blocks of a save are those of its head
save_takes : (content : List (List ℕ)) (marked : Bool) (h : FileHead) (v : Option Save) → HasSave content marked h v → save_extent h.bucket v ≡ record { start = h.save.start; blocks = h.save.alloc * h.bucket }
save_takes content true h None has = absurd has
save_takes content true h (Some v) has = λ i. record { start = sym has.start i; blocks = sym has.buckets i * h.bucket }
save_takes content false h None has = let none : 0 ≡ h.save.alloc * h.bucket = sym (none_of h.save.alloc h.bucket has.1) in λ i. record { start = sym has.0 i; blocks = none i }
save_takes content false h (Some v) has = absurd has

-- a file takes what the four extents of its head have
file_takes : (content : List (List ℕ)) (f : ℕ) (h : FileHead) (file : File) (n : ℕ) → IsFile content h file → IsCarried content f h file.carried → is_taken (extent_of file ∷ others_of file) n ≡ is_used (extents.extents_of (Some h)) n
file_takes content f h file n is has =
    let saved : save_extent file.bucket file.carried.save ≡ record { start = h.save.start; blocks = h.save.alloc * h.bucket } = ap (λ b. save_extent b file.carried.save) is.head.bucket ∙ save_takes content h.marks.save h file.carried.save has.save in
    λ i. is_taken (record { start = is.head.start i; blocks = is.head.buckets i * is.head.bucket i }
    ∷ record { start = sym has.after.start i; blocks = sym has.after.blocks i } ∷ record { start = sym has.before.start i; blocks = sym has.before.blocks i } ∷ saved i ∷ []) n

-- no block lies in an empty extent
none_nowhere : (n : ℕ) → is_used (extents.extents_of None) n ≡ false
none_nowhere n = ap (λ b. b || (b || (b || (b || false)))) (empty n)
  where
    empty : (n : ℕ) → covers nowhere n ≡ false
    empty n = not_behind nowhere n (omega arith)

takes : (content : List (List ℕ)) (number : ℕ → ℕ) (heads : List (Option FileHead)) (directory : List (Option File)) (n : ℕ) → length directory ≡ length heads → ((f : ℕ) → IsPlace content (number f) (head_at heads f) (file_at directory f)) →
    is_taken (extents_of directory) n ≡ is_used (all_extents heads) n
takes content number [] [] n long each = refl
takes content number [] (o ∷ directory) n long each = absurd (omega arith)
takes content number (o ∷ heads) [] n long each = absurd (omega arith)
takes content number (None ∷ heads) (None ∷ directory) n long each =
    takes content (λ f. number (suc f)) heads directory n (omega arith) (λ f. each (suc f))
    ∙ sym (list_any-append (λ e. covers e n) (extents.extents_of None) (all_extents heads) ∙ ap (λ b. b || is_used (all_extents heads) n) (none_nowhere n))
takes content number (None ∷ heads) (Some file ∷ directory) n long each = absurd (each 0)
takes content number (Some h ∷ heads) (None ∷ directory) n long each = absurd (each 0)
takes content number (Some h ∷ heads) (Some file ∷ directory) n long each =
    ap (λ b. in_extent n (extent_of file) || b) (list_any-append (in_extent n) (others_of file) (extents_of directory))
    ∙ sym (or_assoc (in_extent n (extent_of file)) (is_taken (others_of file) n) (is_taken (extents_of directory) n))
    ∙ ap (λ b. b || is_taken (extents_of directory) n) (file_takes content (number 0) h file n (each 0).0 (each 0).1)
    ∙ ap (λ b. is_used (extents.extents_of (Some h)) n || b) (takes content (λ f. number (suc f)) heads directory n (omega arith) (λ f. each (suc f)))
    ∙ sym (list_any-append (λ e. covers e n) (extents.extents_of (Some h)) (all_extents heads))

pub takes_blocks : TakesBlocks
takes_blocks content heads directory n are = takes content (λ f. f) heads directory n (are.directory_long ∙ sym are.heads_long) are.each
