-- What tests ask of a file.
use Rattle.std.specs.Prelude.{◌≡◌}
use Rattle.file_base.specs.declared.head.FileHead.{FileHead}

-- its keys have 64 bytes from the second on, so that few entries stand in an index bucket of one block
pub record HasLongKeys (h : FileHead) : Type 0 where
  pub pos : h.key_pos ≡ 1
  pub size : h.key_size ≡ 64
