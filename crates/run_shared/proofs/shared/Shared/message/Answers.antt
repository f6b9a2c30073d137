use Rattle.std.proofs.Common.{◌∙◌, ap}
use Rattle.std.specs.Option.{option_map}
use Rattle.net_wire.specs.Messages.{message_of}
use Rattle.run_model.specs.Statements.{message_at}
use Rattle.run_shared.specs.Sharing.{SharedState}
use Rattle.run_shared.proofs.Posting.{numbered_alike}
use Rattle.run_shared.proofs.shared.Shared.message.Goals as goal

pub returns : goal.returns
returns c = ap (option_map message_of) c.nth.ensures ∙ numbered_alike c.args.number c.self.inside.wire.messages ∙ ap (λ (s : SharedState). message_at c.args.number s.wire) c.self.view_is
