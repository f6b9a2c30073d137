-- Worked lines of image journals, saves and recoveries, byte for byte.
use Rattle.std.specs.Prelude.{◌≡◌, ℕ, List, Some, None, codes}
use Rattle.commit_protocol.specs.vms_model.Keys.{Number}
use Rattle.commit_protocol.specs.vms_model.Transactions.{Commit}
use Rattle.transcript_model.specs.Lines.{ChangeEntry, SettledEntry, NormalSave, NoJournal, NoSave, TooEarly, PositionsMissing, MomentsMissing, AftersFull, BeforesFull}
use Rattle.transcript_model.specs.ManagerLines.{id, IsShown}

-- entries, and answers
pub record RecoveryLinesAreShown : Type 0 where
  pub changed : IsShown (ChangeEntry 512 (id 1) (id 1) (codes "F") (Number 1) (Some (codes "a"))) (codes "7 ENTRY 512 CHANGE A.1.1 A.1.1 F 1 \"a\"")
  pub absent : IsShown (ChangeEntry 512 (id 1) (id 1) (codes "F") (Number 1) None) (codes "7 ENTRY 512 CHANGE A.1.1 A.1.1 F 1 -")
  pub settled : IsShown (SettledEntry 565 (id 1) (id 1) Commit 1) (codes "7 ENTRY 565 SETTLED A.1.1 A.1.1 COMMIT \"17-NOV-1858 00:00:00.01\"")
  pub saved : IsShown (NormalSave 512 0) (codes "7 SS$_NORMAL 512 \"17-NOV-1858 00:00:00.00\"")
  pub unmarked : IsShown NoJournal (codes "7 NOTMARKED")
  pub unsaved : IsShown NoSave (codes "7 NOSAVE")
  pub early : IsShown (TooEarly 1 2) (codes "7 EARLY \"17-NOV-1858 00:00:00.01\" \"17-NOV-1858 00:00:00.02\"")
  pub positions : IsShown (PositionsMissing 512 1024) (codes "7 SPAN 512 1024")
  pub moments : IsShown (MomentsMissing 1 2) (codes "7 SPAN \"17-NOV-1858 00:00:00.01\" \"17-NOV-1858 00:00:00.02\"")
  pub afters : IsShown (AftersFull 7 101) (codes "7 RMS$_FUL AI 7 101")
  pub befores : IsShown (BeforesFull 7 100) (codes "7 RMS$_FUL BI 7 100")
