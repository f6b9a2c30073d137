-- A volume in whose files' journals images were entered: what stands in front of the files, and what it tells.
use Rattle.std.proofs.Common.{◌≡◌, ℕ, zero, suc, [], ◌∷◌, slice_set, ◌+◌, ◌-◌, ◌<◌, ◌≤◌, List, Option, Some, None, length, refl, sym, ◌∙◌, ap, subst, arith, inr}
use Rattle.block_disk.specs.Blocks.{block_at}
use Rattle.file_base.specs.declared.head.FileHead.{FileHead}
use Rattle.unit_world.specs.file_images.Files.{SameRing}
use Rattle.careful_write.specs.State.{EachWhole}
use Rattle.file_base.specs.declared.head.Span.{Span}
use Rattle.unit_world.specs.directory_model.Files.{AgreesOnFile, AreFiles, file_at, head_at}
use Rattle.unit_world.specs.directory_model.Restoring.{AreRestorable, CanRestore, IsPlaceRestorable}
use Rattle.unit_world.specs.restart_laws.Restorable.{SameLive}
use Rattle.unit_world.proofs.restart_laws.StayLemmas.{keeps_restorable}
use Rattle.undo_laws.specs.image_groups.Groups.{AllDressed, Enters}
use Rattle.recovery_units.specs.run_model.World.{File, Node}
use Rattle.undo_laws.proofs.ToldLemmas.{journal_beside, names_dressed}
use Rattle.volume.specs.Catalogs.{IsSound, TellsCatalog}
use Rattle.volume.specs.Limits.{data_area}
use Rattle.volume.specs.declared.catalog.Catalog.{Catalog}
use Rattle.volume_format.specs.Home.{sizes_of}
use Rattle.unit_world.proofs.volume_laws.ToldLemmas.{logs_follow}
use Rattle.recovery_units.specs.volume_model.Laws.{KeepsNames}
use Rattle.recovery_units.specs.volume_model.Volumes.{HasJournal, HasLog}

module _ (c b : List (List ℕ)) (k : Catalog) (new : List (Option FileHead)) (d : List (Option File)) (enters : Enters c k.heads b (data_area (sizes_of k.home)) new d) (n : Node) (sound : IsSound n.name n.blocks k) where
  pub front_entered : (i : ℕ) → 65 ≤ i → i + 518 < k.ru.start + k.ru.blocks → block_at b i ≡ block_at c i
  front_entered i from to = enters.front i (inr from) (let start = sound.ru_start in let blocks = sound.ru_blocks in omega (arith, to, start, blocks))

  pub ring_entered : SameRing k.ru c b
  ring_entered = record {
    size = enters.size;
    whole = enters.fitting.whole;
    blocks = λ i from to. front_entered i (let start = sound.ru_start in omega (arith, from, start)) (let start = sound.ru_start in omega (arith, to, start));
  }

  pub names_entered : KeepsNames k.heads new
  names_entered = names_dressed c b k.heads new enters.dressed

  pub journal_entered : (j : HasJournal c k n) → (x : HasJournal b (record k { heads = new }) n) × (x.entries ≡ j.entries)
  journal_entered j = journal_beside c b k (record k { heads = new }) n names_entered refl ring_entered j

  pub log_entered : HasLog c n → 584 + length n.durable.log ≤ k.ru.start → HasLog b n
  log_entered log before = logs_follow.stays c b n n log refl (λ i below. front_entered (66 + i) (omega arith) (omega (arith, below, before)))

  pub tells_entered : TellsCatalog k c → TellsCatalog (record k { heads = new }) b
  tells_entered tells = enters.tells k refl tells

  pub sound_entered : IsSound n.name n.blocks (record k { heads = new })
  sound_entered = enters.sound n.name n.blocks k refl sound

-- What is unsettled in the files does not change with what they carry.

pub same_live : (p : Option File) → SameLive p p
same_live None = tt
same_live (Some file) = refl

live_back : (p q : Option File) → SameLive p q → SameLive q p
live_back None None same = tt
live_back None (Some y) same = absurd same
live_back (Some x) None same = absurd same
live_back (Some x) (Some y) same = sym same

restorable_alike : (b : List (List ℕ)) (heads : List (Option FileHead)) (d e : List (Option File)) → ((f : ℕ) → SameLive (file_at d f) (file_at e f)) → AreRestorable b heads d → AreRestorable b heads e
restorable_alike b heads d e alike restorable f = place (head_at heads f) (file_at d f) (file_at e f) (alike f) (restorable f)
  where
    place : (o : Option FileHead) (p q : Option File) → SameLive p q → IsPlaceRestorable b o p → IsPlaceRestorable b o q
    place None p q same can = tt
    place (Some h) None None same can = tt
    place (Some h) None (Some y) same can = absurd same
    place (Some h) (Some x) None same can = absurd same
    place (Some h) (Some x) (Some y) same can = subst (CanRestore h b) (sym same) can

-- so what was unsettled can be restored behind the images too
pub dressed_restorable : (c b : List (List ℕ)) (heads new : List (Option FileHead)) (d e : List (Option File)) → AreFiles c heads d → AllDressed c heads b new → ((f : ℕ) → SameLive (file_at e f) (file_at d f)) → AreRestorable c heads e → AreRestorable b new e
dressed_restorable c b heads new d e files dressed live restorable = keeps_restorable.dresses c b heads new d e files dressed (λ f. live_back (file_at e f) (file_at d f) (live f)) (restorable_alike c heads e d live restorable)

-- so where one file alone carries something else
pub live_set : (directory : List (Option File)) (f g : ℕ) (one other : File) → other.history.live ≡ one.history.live → SameLive (file_at (slice_set directory f (Some one)) g) (file_at (slice_set directory f (Some other)) g)
live_set [] f g one other same = tt
live_set (p ∷ directory) zero zero one other same = same
live_set (p ∷ directory) zero (suc g) one other same = same_live (file_at directory g)
live_set (p ∷ directory) (suc f) zero one other same = same_live p
live_set (p ∷ directory) (suc f) (suc g) one other same = live_set directory f g one other same

-- All that a file has stands in the same content, and in a third where it does in a second.

pub stands_same : (h : FileHead) (a : List (List ℕ)) → EachWhole a → AgreesOnFile h a a
stands_same h a whole = record { own = λ n inside. refl; carried = record { after = λ on. ring; before = λ on. ring; save = λ on n inside. refl } }
  where
    ring : {s : Span} → SameRing s a a
    ring = record { size = refl; whole = whole; blocks = λ k from to. refl }

pub stands_on : (h : FileHead) (a b c : List (List ℕ)) → AgreesOnFile h a b → AgreesOnFile h b c → AgreesOnFile h a c
stands_on h a b c first second = record {
  own = λ n inside. first.own n inside ∙ second.own n inside;
  carried = record {
    after = λ on. rings (first.carried.after on) (second.carried.after on);
    before = λ on. rings (first.carried.before on) (second.carried.before on);
    save = λ on n inside. first.carried.save on n inside ∙ second.carried.save on n inside;
  };
}
  where
    rings : {s : Span} → SameRing s a b → SameRing s b c → SameRing s a c
    rings one two = record { size = two.size ∙ one.size; whole = two.whole; blocks = λ k from to. two.blocks k from to ∙ one.blocks k from to }
