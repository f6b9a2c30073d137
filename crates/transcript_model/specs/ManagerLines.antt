-- Worked lines of resource managers and of the transaction log, byte for byte.
use Rattle.std.specs.Prelude.{◌≡◌, ℕ, List, [], ◌∷◌, ◌++◌, codes}
use Rattle.commit_protocol.specs.vms_model.Ids.{Id}
use Rattle.commit_protocol.specs.Messages.{PrepareEvent, CommitEvent, AbortEvent, OnePhaseEvent, PreparedRecord, CommittedRecord}
use Rattle.transcript_model.specs.Lines.{Line, ManagerTold, LogEntry, NormalStanding, NormalLog, Pending, NoSuchManager, QuotaExceeded, EndingBranch, CommittedBranch, Declared, Managers, line_text}

-- the id of node A that was drawn as this one in its first boot
abbrev pub id : ℕ → Id
id seq = record { node = codes "A"; boot = 1; seq = seq }

-- the line is shown so, as the answer to the script's seventh
abbrev pub IsShown : Line → List ℕ → Type 0
IsShown line text = line_text 7 line ≡ text ++ (10 ∷ [])

-- events, records of the log, and answers
pub record ManagerLinesAreShown : Type 0 where
  pub prepare : IsShown (ManagerTold PrepareEvent (id 1) (id 2) (codes "R")) (codes "7 EVENT PREPARE A.1.1 A.1.2 R")
  pub commit : IsShown (ManagerTold CommitEvent (id 1) (id 1) (codes "R")) (codes "7 EVENT COMMIT A.1.1 A.1.1 R")
  pub abort : IsShown (ManagerTold AbortEvent (id 1) (id 1) (codes "R")) (codes "7 EVENT ABORT A.1.1 A.1.1 R")
  pub one_phase : IsShown (ManagerTold OnePhaseEvent (id 1) (id 1) (codes "R")) (codes "7 EVENT ONEPHASE A.1.1 A.1.1 R")
  pub owed : IsShown (LogEntry 0 (record { kind = CommittedRecord; tid = id 1; serial = id 1; waiting = []; rms = codes "R" ∷ [] })) (codes "7 LOG 0 COMMITTED A.1.1 A.1.1 - R")
  pub waiting : IsShown (LogEntry 12 (record { kind = CommittedRecord; tid = id 1; serial = id 1; waiting = id 2 ∷ id 3 ∷ []; rms = [] })) (codes "7 LOG 12 COMMITTED A.1.1 A.1.1 A.1.2,A.1.3 -")
  pub prepared : IsShown (LogEntry 3 (record { kind = PreparedRecord; tid = id 1; serial = id 2; waiting = []; rms = codes "R" ∷ codes "Q" ∷ [] })) (codes "7 LOG 3 PREPARED A.1.1 A.1.2 R,Q")
  pub bare : IsShown (LogEntry 3 (record { kind = PreparedRecord; tid = id 1; serial = id 2; waiting = []; rms = [] })) (codes "7 LOG 3 PREPARED A.1.1 A.1.2 -")
  pub pending : IsShown (Pending (id 2 ∷ []) (codes "R" ∷ codes "Q" ∷ [])) (codes "7 PENDING A.1.2,R,Q")
  pub alone : IsShown (Pending [] (codes "R" ∷ [])) (codes "7 PENDING R")
  pub ending : IsShown (NormalStanding EndingBranch) (codes "7 SS$_NORMAL ENDING")
  pub committed : IsShown (NormalStanding CommittedBranch) (codes "7 SS$_NORMAL COMMITTED")
  pub counted : IsShown (NormalLog 0 1 127) (codes "7 SS$_NORMAL 0 1 127")
  pub unknown : IsShown NoSuchManager (codes "7 SS$_NOSUCHRM")
  pub declared : IsShown (QuotaExceeded Declared 64) (codes "7 SS$_EXQUOTA DECLARED 64")
  pub joined : IsShown (QuotaExceeded Managers 8) (codes "7 SS$_EXQUOTA RMS 8")
