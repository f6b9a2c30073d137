-- Groups that change a volume.
use Rattle.std.specs.Prelude.{◌≡◌, ℕ, ◌+◌, List, [], Option, Result, OnOk, OnErr, IfSome, length}
use Rattle.block_disk.specs.Sizes.{content_start}
use Rattle.careful_write.specs.declared.down.Down.{Down}
use Rattle.careful_write.specs.Down.{Counts}
use Rattle.careful_write.specs.State.{EachWhole, IsEither, IsIdle, Leaves, content}
use Rattle.volume.specs.declared.catalog.Catalog.{Catalog}
use Rattle.volume.specs.Catalogs.{TellsCatalog}
use Rattle.volume.specs.State.{VolumeState, Holds}

-- One group was to make this content and this catalog of a volume's, in whole blocks. Where it failed, each image has the content before or after it.
pub record Writes {T : Type 0} (r : Result T Down) (after : Option (List (List ℕ))) (v : Catalog) (old new : VolumeState) : Type 0 where
  pub current : OnOk r (new.store.current ≡ after)
  pub idle : OnOk r (IsIdle new.store)
  pub catalog : new.catalog ≡ v
  pub tells : Holds old → IfSome after (TellsCatalog v)
  pub each : IfSome after EachWhole
  pub sized : IfSome after (λ c. length c + content_start ≡ old.store.disk.size)
  pub down : OnErr r (Leaves (IsEither (content old.store) after) new.store.disk)
  pub counts : Counts r old.store.disk new.store.disk
  pub ready : OnOk r (new.store.disk.pending ≡ [])
  pub pool : new.store.pool ≡ old.store.pool
