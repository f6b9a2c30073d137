-- What calls leave of a store. Nothing is said of fields that only tell of reads.
use Rattle.std.specs.Prelude.{◌≡◌, [], option_map, Result}
use Rattle.careful_write.specs.Content.{home}
use Rattle.careful_write.specs.Down.{answered, went_down}
use Rattle.careful_write.specs.State.{StoreState}
use Rattle.careful_write.specs.declared.down.Down.{Down}

-- what is staged, the content, the frames and the disk are as they were, but that the answer may have been counted
pub record OnlyReads {T : Type 0} (r : Result T Down) (old new : StoreState) : Type 0 where
  pub current : new.current ≡ old.current
  pub touched : new.touched ≡ old.touched
  pub disk : new.disk ≡ answered r old.disk
  pub pool : new.pool ≡ old.pool
  pub fits : new.fits ≡ old.fits

-- the disk went down, nothing is staged any more, and the frames are as they were
pub record Fell (down : Down) (old new : StoreState) : Type 0 where
  pub current : new.current ≡ option_map home old.disk.seen
  pub touched : new.touched ≡ []
  pub disk : new.disk ≡ went_down down old.disk
  pub pool : new.pool ≡ old.pool
  pub fits : new.fits ≡ old.fits
