use Rattle.statement_steps.proofs.Asking.{answer_comes, answer_leaves}
use Rattle.statement_steps.proofs.OneParts.{does_task}
use Rattle.statement_steps.proofs.Questions.{asks_hears, asks_lost, asks_nobody, asks_none, asks_vainly}
use Rattle.statement_steps.proofs.node_steps_do_parts.Goals as goal

pub returns-clause-tasks : goal.returns-clause-tasks
returns-clause-tasks c = does_task

pub returns-clause-questions : goal.returns-clause-questions
returns-clause-questions c begun w node serial n found = record {
  none = asks_none begun w node serial n found;
  nobody = asks_nobody begun w node serial n found;
  vain = asks_vainly begun w node serial n found;
  hears = asks_hears begun w node serial n found;
  lost = asks_lost begun w node serial n found;
}

pub returns-clause-answers : goal.returns-clause-answers
returns-clause-answers c s n d serial q m h up e answer = record { home = answer_comes s n d serial q m h up e answer; left = answer_leaves s n d serial q m h up e answer }
