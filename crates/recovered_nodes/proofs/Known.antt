-- What a recovery knows of a file is what the world does.
use Rattle.std.proofs.Common.{◌≡◌, ◌+◌, ◌-◌, ◌*◌, ◌<◌, ◌≤◌, ℕ, zero, suc, List, Bool, true, false, Option, Some, length, refl, sym, ◌∙◌, ap, subst, arith}
use Rattle.std.specs.Option.{option_map}
use Rattle.file_base.specs.declared.head.FileHead.{FileHead}
use Rattle.recover_rms.specs.file_recoveries.Causes as causes
use Rattle.recover_rms.specs.file_recoveries.Causes.{cause_of, refusal_by}
use Rattle.recover_rms.specs.file_recoveries.Files.{HasFile}
use Rattle.recover_rms.specs.file_recoveries.Suiting.{MayHave}
use Rattle.recover_rms.specs.file_recoveries.declared.causes.Way.{Way}
use Rattle.recover_rms.proofs.file_recoveries.CauseLemmas.{causes_are_refusals}
use Rattle.records_model.specs.History as history
use Rattle.records_model.specs.History.{current}
use Rattle.recover_rms.specs.Calls.{IsAsked}
use Rattle.world_laws.specs.recovery_model.Recovery.{refusal, rolled}
use Rattle.recover_rms.specs.save_laws.Saves.{save_head}
use Rattle.world_laws.specs.script_model.Statements.{Recovery}
use Rattle.vms_base.specs.Ids.{serial_of}
use Rattle.vms_base.specs.declared.ids.Serial.{Serial}
use Rattle.unit_world.specs.volume.Limits.{CopyFits, EntryFits, FileFits, SaveFits, data_area}
use Rattle.unit_world.specs.volume.State.{VolumeState}
use Rattle.volume_format.specs.Home.{sizes_of}
use Rattle.world_laws.specs.run_model.Answers.{recovery_refused, refusal_line, way_of}
use Rattle.world_laws.specs.run_model.World.{File, Node, serials_of, state_of}
use Rattle.unit_world.specs.directory_model.Files.{AreFiles, Fit, IsCarried, IsFile, IsFoundAt, IsWithin}
use Rattle.unit_world.proofs.directory_model.Apart.{holds_extent, in_area, lie_apart, number_low, save_is}
use Rattle.unit_world.proofs.directory_model.Finding.{finds_files}
use Rattle.unit_world.specs.recovery_units.State.{UnitsState}
use Rattle.recovered_nodes.proofs.KnownFiles.{files_known}
use Rattle.recovered_nodes.proofs.Suits.{records_may}
use Rattle.unit_world.proofs.Blocks.{fit}
use Rattle.recovered_nodes.specs.Laws.{IsAllowed, StandsThere}

some_is : {A : Type 0} {a b : A} → ◌≡◌ {A = Option A} (Some a) (Some b) → a ≡ b
some_is e = cc

some_product : (a b : ℕ) → 1 ≤ a → 1 ≤ b → 1 ≤ a * b
some_product a b one least = grind arith

fits_save : (marked : Bool) (greatest : ℕ) (h : FileHead) → marked ≡ true → SaveFits marked greatest h → CopyFits greatest h
fits_save true greatest h is fits = fits
fits_save false greatest h is fits = let no : ⊥ = cc in absurd no

module _ (s : UnitsState) (v : VolumeState) (n : Node) (f : ℕ) (h : FileHead) (name : List ℕ) (file : File) (content : List (List ℕ)) (stands : StandsThere s v n f h name file content) where
  pub same_content : stands.kept.content ≡ content
  same_content = some_is (sym stands.kept.told ∙ stands.told)

  pub files : AreFiles content v.catalog.heads n.durable.directory
  files = subst (λ c. AreFiles c v.catalog.heads n.durable.directory) same_content stands.kept.has.files

  there : (x : File) × IsFile content h x × IsFoundAt name n.durable.directory f x × IsCarried content f h x.carried
  there = finds_files.found content v.catalog.heads n.durable.directory f h name files stands.named

  one : there.0 ≡ file
  one = some_is (sym there.2.found ∙ stands.found)

  pub is_file : IsFile content h file
  is_file = subst (IsFile content h) one there.1

  pub is_at : IsFoundAt name n.durable.directory f file
  is_at = subst (IsFoundAt name n.durable.directory f) one there.2

  pub is_carried : IsCarried content f h file.carried
  is_carried = subst (λ (x : File). IsCarried content f h x.carried) one there.3

  pub knows : HasFile content f h (current file.history) (state_of file)
  knows = files_known content n.name n.durable.boot n.durable.greatest f h file is_file is_carried (stands.up.filed.images name file stands.found)

  pub refused_so : (r : Recovery) (way : Way) (user : Option Serial) → causes.way_of way ≡ way_of r → option_map serial_of user ≡ history.first_to_change file.history (serials_of n.volatile.branches) →
      recovery_refused n r file ≡ option_map refusal_line (refusal_by way (cause_of h way user))
  refused_so r way user said used =
      sym (ap (λ o. option_map refusal_line (refusal (way_of r) o (state_of file))) used)
      ∙ sym (ap (λ w. option_map refusal_line (refusal w (option_map serial_of user) (state_of file))) said)
      ∙ ap (option_map refusal_line) (causes_are_refusals content f h (current file.history) (state_of file) way user knows)

  -- Where the file's buckets and its save lie.

  pub fitting : Fit (data_area (sizes_of v.catalog.home)) v.catalog.heads
  fitting = fit v.catalog.home.node v.store.disk.size v.catalog stands.order.sound stands.order.heads

  low : f < 64
  low = number_low (data_area (sizes_of v.catalog.home)) v.catalog.heads fitting f h stands.named.there

  pub fits : FileFits v.catalog.home.greatest_moment.0 h
  fits = subst (EntryFits v.catalog.home.greatest_moment.0) stands.named.there (stands.order.sound.files f low)

  end_is : (data_area (sizes_of v.catalog.home)).end ≡ length content + 518
  end_is = stands.order.sound.sizes.blocks ∙ sym stands.long

  pub own_some : 1 ≤ h.alloc * h.bucket
  own_some = some_product h.alloc h.bucket (let least = fits.buckets.least in let most = fits.buckets.most in omega (arith, least, most)) fits.bucket.least_blocks

  own_within : IsWithin content h
  own_within =
      let lies = lie_apart.lies (data_area (sizes_of v.catalog.home)) v.catalog.heads f h fitting stands.named.there own_some in
      record { from = omega (arith, lies.0); to = (let end = end_is in omega (arith, lies.1, end)); whole = stands.whole }

  save_some : h.marks.save ≡ true → 1 ≤ h.save.alloc * h.bucket
  save_some marked =
      let copy = fits_save h.marks.save v.catalog.home.greatest_moment.0 h marked fits.save in
      some_product h.save.alloc h.bucket (let least = copy.buckets.least in let most = copy.buckets.most in omega (arith, least, most)) fits.bucket.least_blocks

  save_within : h.marks.save ≡ true → IsWithin content (save_head h)
  save_within marked = go (h.save.alloc * h.bucket) refl (save_some marked)
    where
      covered_at : (k : ℕ) → h.save.start - 518 ≤ k → k < h.save.start - 518 + h.save.alloc * h.bucket → ((data_area (sizes_of v.catalog.home)).start ≤ k + 518) × (k + 518 < (data_area (sizes_of v.catalog.home)).end)
      covered_at k from to = in_area (data_area (sizes_of v.catalog.home)) v.catalog.heads fitting (4 * f + 3) h.save.start (h.save.alloc * h.bucket) k (let below = low in omega (arith, below))
          (save_is (data_area (sizes_of v.catalog.home)) v.catalog.heads fitting f h stands.named.there) (holds_extent (h.save.start - 518) (h.save.alloc * h.bucket) k from to)

      go : (size : ℕ) → h.save.alloc * h.bucket ≡ size → 1 ≤ size → IsWithin content (save_head h)
      go zero is some = let no : ⊥ = omega (arith, some) in absurd no
      go (suc last) is some =
          let first = covered_at (h.save.start - 518) (omega arith) (omega (arith, is)) in
          let end = covered_at (h.save.start - 518 + last) (omega arith) (omega (arith, is)) in
          let whole = end_is in
          record { from = omega (arith, first.0); to = omega (arith, first.0, end.1, whole, is); whole = stands.whole }

  -- Records.

  pub may_made : (r : Recovery) (way : Way) → IsAllowed h way r → MayHave h (rolled (causes.way_of way) (state_of file))
  may_made r way is = records_may content f h way (state_of file) knows is.allowed own_within save_within

  pub asked_so : (r : Recovery) (way : Way) → IsAllowed h way r → IsAsked f way v h content (state_of file)
  asked_so r way is = record { told = stands.told; file = knows; may = may_made r way is }
