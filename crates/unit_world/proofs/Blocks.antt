-- Blocks in front of the files, and the ring.
use Rattle.std.proofs.Common.{◌≡◌, ℕ, ◌<◌, List, [], Option, Some, refl, sym, ◌∙◌, ap, subst, arith, length, slice_set, inl, inr, length-set, get_or-set_same, get_or-set_other}
use Rattle.std.proofs.lemmas.Bool.{cases_eq}
use Rattle.block_disk.specs.Blocks.{block_at}
use Rattle.change_set.specs.careful_write.State.{EachWhole}
use Rattle.extents.specs.file_base.declared.head.FileHead.{FileHead}
use Rattle.recovery_units.specs.volume.declared.catalog.Catalog.{Catalog}
use Rattle.recovery_units.specs.volume.Catalogs.{IsSound}
use Rattle.recovery_units.specs.volume.Limits.{data_area}
use Rattle.volume_format.specs.Home.{sizes_of}
use Rattle.volume_laws.specs.directory_model.Files.{AgreesOnFile, Fit, head_at}
use Rattle.volume_laws.proofs.directory_model.Apart.{writes_apart}
use Rattle.recovery_units.specs.run_model.World.{Node}
use Rattle.recovery_units.specs.volume_model.Laws.{KeepsNames}
use Rattle.recovery_units.specs.volume_model.Volumes.{HasJournal}
use Rattle.volume_laws.specs.file_images.Files.{SameRing}

pub other_block : (a : List (List ℕ)) (q k : ℕ) (bytes : List ℕ) → (k ≡ q → ⊥) → block_at (slice_set a q bytes) k ≡ block_at a k
other_block a q k bytes other = get_or-set_other a q k bytes [] other

-- the extents of a sound volume lie in its area
pub fit : (node : List ℕ) (disk : ℕ) (v : Catalog) → IsSound node disk v → length v.heads ≡ 64 → Fit (data_area (sizes_of v.home)) v.heads
fit node disk v sound long = record { heads_long = long; behind = omega arith; each = sound.extents }

pub ring_same : (a : List (List ℕ)) (v : Catalog) (n : Node) → HasJournal a v n → SameRing v.ru a a
ring_same a v n j = record { size = refl; whole = j.is.ring.whole; blocks = λ k from to. refl }

pub same_names : (heads : List (Option FileHead)) → KeepsNames heads heads
same_names heads f h at = (h, at, refl)

-- a block in front of the ring
module _ (node : List ℕ) (disk : ℕ) (v : Catalog) (sound : IsSound node disk v) (a : List (List ℕ)) (q : ℕ) (bytes : List ℕ) (front : q < 66) where
  pub ring_behind : EachWhole (slice_set a q bytes) → SameRing v.ru a (slice_set a q bytes)
  ring_behind whole = record {
    size = length-set a q bytes;
    whole = whole;
    blocks = λ k from to. other_block a q k bytes (λ is. let start = sound.ru_start in absurd (omega (arith, start, from, is, front)));
  }

  pub extents_behind : EachWhole (slice_set a q bytes) → length v.heads ≡ 64 → (f : ℕ) (h : FileHead) → head_at v.heads f ≡ Some h → AgreesOnFile h a (slice_set a q bytes)
  extents_behind whole long = writes_apart.before (data_area (sizes_of v.home)) v.heads a (slice_set a q bytes) (fit node disk v sound long) (length-set a q bytes) whole (λ n from. sym (other_block a q n bytes (λ is. absurd (omega (arith, from, is, front)))))

-- each block is whole still
pub whole_set : (a : List (List ℕ)) (q : ℕ) (bytes : List ℕ) → EachWhole a → length bytes ≡ 512 → EachWhole (slice_set a q bytes)
whole_set a q bytes whole is k below = elim (cases_eq k q) [
  | inl here ↦ subst (λ j. length (block_at (slice_set a q bytes) j) ≡ 512) (sym here) (ap length (get_or-set_same a q bytes [] (let size = length-set a q bytes in omega (arith, below, here, size))) ∙ is)
  | inr other ↦ ap length (other_block a q k bytes other) ∙ whole k (let size = length-set a q bytes in omega (arith, below, size))
]
