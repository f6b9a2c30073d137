-- The effects of the protocol that the code's values are.
use Rattle.std.specs.Option.{option_map}
use Rattle.commit_protocol.specs.Effects as effects
use Rattle.vms_base.specs.Ids.{tid_of, serial_of}
use Rattle.vms_base.specs.Outcomes.{outcome_of, reason_of}
use Rattle.net_wire.specs.Messages.{message_of}
use Rattle.tm_types.specs.Parts.{rm_event_of, log_record_of}
use Rattle.tm_types.specs.declared.effects.Effect.{Effect}
use Rattle.tm_types.specs.declared.effects.Effect.TheVariants as effect

abbrev pub effect_of : Effect → effects.Effect
effect_of (effect.Prepare s rms) = effects.PrepareEffect (serial_of s) rms
effect_of (effect.Settle s outcome reason rec) = effects.SettleEffect (serial_of s) (outcome_of outcome) (reason_of reason) (option_map log_record_of rec)
effect_of (effect.Keep rec) = effects.KeepEffect (log_record_of rec)
effect_of (effect.Forget s) = effects.ForgetEffect (serial_of s)
effect_of (effect.Send m) = effects.SendEffect (message_of m)
effect_of (effect.Tell event t s rm) = effects.TellEffect (rm_event_of event) (tid_of t) (serial_of s) rm
effect_of (effect.Joined s) = effects.JoinedEffect (serial_of s)
effect_of (effect.Started s) = effects.StartedEffect (serial_of s)
effect_of (effect.ReadOnly s) = effects.ReadOnlyEffect (serial_of s)
effect_of (effect.Ended t reason) = effects.EndedEffect (tid_of t) (option_map reason_of reason)
