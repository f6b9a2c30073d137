-- What a row hands to the layers above it, in order: writes to the disk, messages and lines.
use Rattle.std.specs.Prelude.{List, [], ◌∷◌, ◌++◌, Option, if◌then◌else◌}
use Rattle.vms_model.specs.Ids.{Id}
use Rattle.vms_model.specs.Transactions.{Outcome, Reason}
use Rattle.commit_protocol.specs.Messages.{Name, Message, RmEvent, LogRecord}
use Rattle.commit_protocol.specs.Table.{Act, Notes, Accepts, Prepares, Settles, Leaves, Acknowledges, Releases, Undoes, Sends, Prints, Line, Started, Ended, Told, Key, waits_for, holds, acknowledged, released, nothing_left, holding, records_after}

-- one thing that a row hands on
pub data Effect : Type 0 where
  -- the Prepared entry and the prepared record of the branch with this serial
  PrepareEffect : (serial : Id) (rms : List Name) → Effect
  -- its settlement, with the committed record where there is one; the reason counts for aborts alone
  SettleEffect : (serial : Id) (outcome : Outcome) (reason : Reason) (rec : Option LogRecord) → Effect
  -- a committed record is written again with less to wait for
  KeepEffect : (rec : LogRecord) → Effect
  -- the committed record of this serial goes
  ForgetEffect : (serial : Id) → Effect
  SendEffect : (m : Message) → Effect
  TellEffect : (event : RmEvent) (tid serial : Id) (rm : Name) → Effect
  JoinedEffect : (serial : Id) → Effect
  StartedEffect : (serial : Id) → Effect
  ReadOnlyEffect : (serial : Id) → Effect
  EndedEffect : (tid : Id) (reason : Option Reason) → Effect

-- a record with less to wait for is kept, or goes when nothing is left
abbrev pub record_effects : LogRecord → List Effect
record_effects r = if nothing_left r.waiting r.rms then ForgetEffect r.serial ∷ [] else KeepEffect r ∷ []

-- what becomes of the first record that waits for the serial
abbrev pub acknowledge_effects : Key → List LogRecord → List Effect
acknowledge_effects k [] = []
acknowledge_effects k (r ∷ rs) = if waits_for k r then record_effects (acknowledged k r) else acknowledge_effects k rs

-- what becomes of the first record that waits for the manager
abbrev pub release_effects : Id → Name → List LogRecord → List Effect
release_effects s x [] = []
release_effects s x (r ∷ rs) = if holds s x r then record_effects (released x r) else release_effects s x rs

-- the effect of a line
abbrev pub line_effect : Line → Effect
line_effect (Started k) = StartedEffect k.serial
line_effect (Ended t reason) = EndedEffect t reason
line_effect (Told e k rm) = TellEffect e k.tid k.serial rm

-- the effects of an act where these are the committed records
abbrev pub act_effects : Act → List LogRecord → List Effect
act_effects (Notes b) rs = []
act_effects (Accepts b c) rs = JoinedEffect c.serial ∷ []
act_effects (Prepares b) rs = PrepareEffect b.key.serial (holding b.managers) ∷ []
act_effects (Settles k o reason r) rs = SettleEffect k.serial o reason r ∷ []
act_effects (Leaves k) rs = ReadOnlyEffect k.serial ∷ []
act_effects (Acknowledges k) rs = acknowledge_effects k rs
act_effects (Releases s x) rs = release_effects s x rs
act_effects (Undoes k) rs = []
act_effects (Sends m) rs = SendEffect m ∷ []
act_effects (Prints l) rs = line_effect l ∷ []

-- the effects of a list of acts, in order
abbrev pub effects_of : List Act → List LogRecord → List Effect
effects_of [] rs = []
effects_of (a ∷ acts) rs = act_effects a rs ++ effects_of acts (records_after a rs)
