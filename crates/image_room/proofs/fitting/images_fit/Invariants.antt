use Rattle.std.proofs.Common.{◌≡◌, ◌<◌, ℕ, Some}
use Rattle.file_base.specs.declared.head.FileHead.{FileHead}
use Rattle.volume.specs.Catalogs.{head_at}
use Rattle.image_appends.specs.declared.side.Side.TheVariants.{After, Before}
use Rattle.image_room.specs.Room.{SettlementsFit}
use Rattle.image_room.proofs.fitting.images_fit.Given as goal

abbrev pub invariant-loop-file : goal.invariant-loop-file
invariant-loop-file g l = (file : ℕ) (h : FileHead) → file < l.file → head_at l.volume.catalog.heads file ≡ Some h → SettlementsFit After h file l.units.places × SettlementsFit Before h file l.units.places
