-- What nodes share, and branches by their states.
use Rattle.std.specs.Prelude.{List, [], ◌∷◌, Bool, false, Option, Some, None, if◌then◌else◌, map}
use Rattle.vms_model.specs.Ids.{Id}
use Rattle.reference_index.specs.records_model.History.{same_id}
use Rattle.commit_protocol.specs.Allowed as allowed
use Rattle.commit_protocol.specs.Allowed.{is_prepared}
use Rattle.commit_protocol.specs.Effects.{Effect, SendEffect}
use Rattle.commit_protocol.specs.Messages.{Message}
use Rattle.commit_protocol.specs.Table.{Branch, Key}
use Rattle.reference_index.specs.run_model.Answers.{is_first_active, is_open, is_in_doubt}
use Rattle.reference_index.specs.run_model.World as world
use Rattle.net_wire.specs.Messages.{message_of}
use Rattle.reference_world.specs.Standing.{branch_key_of, label_of}
use Rattle.reference_branches.specs.declared.shared.Shared.{Shared}
use Rattle.reference_branches.specs.declared.states.Wanted.{Wanted}
use Rattle.reference_branches.specs.declared.states.Wanted.TheVariants as wanted

-- what nodes share
abbrev pub shared_of : Shared → world.Shared
shared_of s = record { labels = map label_of s.labels.items; in_use = s.in_use; wire = map message_of s.wire.items; accepted = map branch_key_of s.accepted.items; read_only = map branch_key_of s.read_only.items }

-- nothing is shared yet
abbrev pub nothing_shared : world.Shared
nothing_shared = record { labels = []; in_use = false; wire = []; accepted = []; read_only = [] }

-- what a branch has to be for a statement
abbrev pub is_wanted : Wanted → Branch → Bool
is_wanted wanted.FirstActive b = is_first_active b
is_wanted wanted.MayEnd b = allowed.may_end b
is_wanted wanted.Working b = allowed.is_working b
is_wanted wanted.Open b = is_open b
is_wanted wanted.InDoubt b = is_in_doubt b
is_wanted wanted.Nowhere b = false

-- the transaction of a serial among these branches, or else the serial
abbrev pub tid_among : Id → List Key → Id
tid_among serial [] = serial
tid_among serial (k ∷ ks) = if same_id serial k.serial then k.tid else tid_among serial ks

-- the serials of prepared branches, in their order
abbrev pub serials_in_doubt : List Branch → List Id
serials_in_doubt [] = []
serials_in_doubt (b ∷ bs) = if is_prepared b.state then b.key.serial ∷ serials_in_doubt bs else serials_in_doubt bs

-- the message that these effects send, where they do nothing else
abbrev pub sent_alone : List Effect → Option Message
sent_alone (SendEffect m ∷ []) = Some m
sent_alone _ = None
