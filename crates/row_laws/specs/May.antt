-- What each act of a row finds where it is done, behind those before it.
use Rattle.std.specs.Prelude.{◌≡◌, ◌≤◌, ◌||◌, List, [], ◌∷◌, Some, true, false, not, length}
use Rattle.vms_model.specs.Ids.{Id}
use Rattle.run_model.specs.commit_protocol.Effects.{Effect, act_effects}
use Rattle.run_model.specs.commit_protocol.Limits.{AllLawful}
use Rattle.run_model.specs.commit_protocol.Rows.{Event, Got, is_empty}
use Rattle.run_model.specs.commit_protocol.Standing.{HasApartLog, Stands}
use Rattle.run_model.specs.commit_protocol.Table.{Act, Accepts, Branch, Line, Prepares, Prints, Started, Tm, Undoes, after_act, find, holding, table_after}
use Rattle.run_model.specs.log_laws.Slots.{HasSlot, LogTells, Slots, size, slots_after}

-- What an act tells that its effect does not: the effect of a branch that joined or started names no transaction, which is this; a branch that is prepared stands
-- there, and has changed something or has managers to tell. No row undoes a unit: only a boot does.
abbrev pub IsNamed : Id → List Branch → Act → Type 0
IsNamed tid bs (Accepts b c) = b.key.tid ≡ tid
IsNamed tid bs (Prints (Started k)) = k.tid ≡ tid
IsNamed tid bs (Prepares b) = (find b.key bs ≡ Some b) × ((b.changed || not (is_empty (holding b.managers))) ≡ true)
IsNamed tid bs (Undoes k) = ⊥
IsNamed tid bs _ = Unit {0}

-- so does each of some acts, at the branches that stand there by then
abbrev pub AllNamed : Id → List Branch → List Act → Type 0
AllNamed tid bs [] = Unit {0}
AllNamed tid bs (a ∷ acts) = IsNamed tid bs a × AllNamed tid (table_after a bs) acts

-- The log tells the table of its node, of whose branches and committed records no two have one serial, and which are no more than its slots.
pub record IsTold (tm : Tm) (ss : Slots) : Type 0 where
  pub tells : LogTells tm ss
  pub apart : HasApartLog tm
  pub room : size tm ≤ length ss

-- what an act finds
pub record MayDo (tid : Id) (act : Act) (tm : Tm) (ss : Slots) : Type 0 where
  pub stands : Stands tm.table act
  pub slot : HasSlot ss act
  pub lawful : AllLawful tm.records (act_effects act tm.records)
  pub named : IsNamed tid tm.table act

-- so does each of some acts behind those before it
abbrev pub MayDoAll : Id → List Act → Tm → Slots → Type 0
MayDoAll tid [] tm ss = Unit {0}
MayDoAll tid (a ∷ acts) tm ss = MayDo tid a tm ss × MayDoAll tid acts (after_act a tm) (slots_after a tm.records ss)

-- the transaction of an event that is a message
abbrev pub IsOfMessage : Id → Event → Type 0
IsOfMessage tid (Got m) = m.tid ≡ tid
IsOfMessage tid _ = Unit {0}
