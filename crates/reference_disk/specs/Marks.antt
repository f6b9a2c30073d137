-- What settings mark files with.
use Rattle.std.specs.Prelude.{ℕ, true, false}
use Rattle.reference_index.specs.script_model.Statements.{Setting, RecoveryUnits, NoRecoveryUnits, Images, NoImages}
use Rattle.reference_index.specs.run_model.World.{Mark, ForUnits, BeginsImages, EndsImages}

-- the mark of a setting, where a journal that begins has its blocks from this one on
abbrev pub mark_said : Setting → (start : ℕ) → Mark
mark_said RecoveryUnits start = ForUnits true
mark_said NoRecoveryUnits start = ForUnits false
mark_said (Images side blocks) start = BeginsImages side start blocks
mark_said (NoImages side) start = EndsImages side

-- how many blocks it wants
abbrev pub blocks_said : Setting → ℕ
blocks_said RecoveryUnits = 0
blocks_said NoRecoveryUnits = 0
blocks_said (Images side blocks) = blocks
blocks_said (NoImages side) = 0
