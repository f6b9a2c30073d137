-- The status of each end of a run.
use Rattle.std.specs.Prelude.{ℕ}
use Rattle.dtm_run.specs.declared.top.Exit.{Exit}
use Rattle.dtm_run.specs.declared.top.Exit.TheVariants as exit
use Rattle.dtm_command.specs.declared.images.OpenErr.{OpenErr}
use Rattle.dtm_command.specs.declared.images.OpenErr.TheVariants as open_err

abbrev pub status_of : Exit → ℕ
status_of exit.Done = 0
status_of exit.BadLine = 1
status_of exit.Usage = 2
status_of exit.ReadFault = 3
status_of exit.WriteFault = 4
status_of exit.Memory = 5
status_of exit.TooLong = 6

-- and where nothing was run, since an image cannot be opened or memory is missing
abbrev pub unopened : OpenErr → ℕ
unopened (open_err.Image path why) = 7
unopened open_err.Memory = 5
