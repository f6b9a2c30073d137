-- What a node knows of a branch.
use Rattle.reference_index.specs.run_model.Answers as answers
use Rattle.tm_types.specs.Branches.{branch_of}
use Rattle.tm_types.specs.Parts.{log_record_of}
use Rattle.reference_branches.specs.declared.managers.Known.{Known}
use Rattle.reference_branches.specs.declared.managers.Known.TheVariants as known

abbrev pub known_of : Known → answers.Known
known_of (known.Unsettled b) = answers.Unsettled (branch_of b)
known_of (known.Recorded r) = answers.Recorded (log_record_of r)
known_of known.Unheard = answers.Unheard
