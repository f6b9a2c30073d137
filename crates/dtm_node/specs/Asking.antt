-- The prepared branches of a node, what they ask, and what a coordinator answers.
use Rattle.std.specs.Prelude.{List, [], Bool, true, false, Option, None}
use Rattle.std.specs.Option.{option_and_then}
use Rattle.emitter_model.specs.commit_protocol.Messages.{Message}
use Rattle.emitter_model.specs.commit_protocol.Rows.{Got, row}
use Rattle.emitter_model.specs.commit_protocol.Table.{find_serial}
use Rattle.world_laws.specs.run_model.Statements.{answer_in}
use Rattle.statement_steps.specs.Settling.{question_of}
use Rattle.vms_model.specs.Ids.{Id}
use Rattle.dtm_node.specs.declared.node.Flow.{Flow}
use Rattle.dtm_node.specs.declared.node.Flow.TheVariants as flow
use Rattle.node_requests.specs.node_standing.Standing.{IsDown, IsRunning, Place}

-- whether a statement was ended and answered
abbrev pub is_over : Flow → Bool
is_over flow.GoesOn = false
is_over flow.Over = true

-- the serials of the prepared branches of a node that is up, in the order of their preparation
abbrev pub in_doubt_in : Place → List Id
in_doubt_in (IsDown has_parts d) = []
in_doubt_in (IsRunning r) = r.stored.in_doubt

-- the question of the branch of this serial, where it is prepared
abbrev pub question_in : Id → Place → Option Message
question_in serial (IsDown has_parts d) = None
question_in serial (IsRunning r) = option_and_then question_of (find_serial serial r.tm.table)

-- what is answered to a question: the one message that the row of it sends
abbrev pub answer_in_place : Message → Place → Option Message
answer_in_place m (IsDown has_parts d) = None
answer_in_place m (IsRunning r) = answer_in (row r.tm (Got m))
