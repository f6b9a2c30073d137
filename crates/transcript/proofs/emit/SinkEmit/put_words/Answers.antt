use Rattle.transcript.proofs.emit.SinkEmit.put_words.Goals as goal

pub returns-in-RecordPosition-clause-appends : goal.returns-in-RecordPosition-clause-appends
returns-in-RecordPosition-clause-appends g c = rw c.in-RecordPosition.is c.put_position.ensures.appends

pub returns-in-RecordFound-clause-appends : goal.returns-in-RecordFound-clause-appends
returns-in-RecordFound-clause-appends g c = rw c.in-RecordFound.is c.put_found.ensures.appends

pub returns-in-NextFound-clause-appends : goal.returns-in-NextFound-clause-appends
returns-in-NextFound-clause-appends g c = rw c.in-NextFound.is c.put_next_found.ensures.appends

pub returns-in-NoSuchTransaction-clause-appends : goal.returns-in-NoSuchTransaction-clause-appends
returns-in-NoSuchTransaction-clause-appends g c = rw c.in-NoSuchTransaction.is c.put-in-NoSuchTransaction.ensures.appends

pub returns-in-FileFull-clause-appends : goal.returns-in-FileFull-clause-appends
returns-in-FileFull-clause-appends g c = rw c.in-FileFull.is c.put_file_full.ensures.appends

pub returns-in-ManagerTold-clause-appends : goal.returns-in-ManagerTold-clause-appends
returns-in-ManagerTold-clause-appends g c = rw c.in-ManagerTold.is c.put_manager_told.ensures.appends

pub returns-in-LogEntry-clause-appends : goal.returns-in-LogEntry-clause-appends
returns-in-LogEntry-clause-appends g c = rw c.in-LogEntry.is c.put_log_entry.ensures.appends

pub returns-in-NormalStanding-clause-appends : goal.returns-in-NormalStanding-clause-appends
returns-in-NormalStanding-clause-appends g c = rw c.in-NormalStanding.is c.put_standing.ensures.appends

pub returns-in-NormalLog-clause-appends : goal.returns-in-NormalLog-clause-appends
returns-in-NormalLog-clause-appends g c = rw c.in-NormalLog.is c.put_log_counts.ensures.appends

pub returns-in-Pending-clause-appends : goal.returns-in-Pending-clause-appends
returns-in-Pending-clause-appends g c = rw c.in-Pending.is c.put_pending.ensures.appends

pub returns-in-NormalSave-clause-appends : goal.returns-in-NormalSave-clause-appends
returns-in-NormalSave-clause-appends g c = rw c.in-NormalSave.is c.put_save.ensures.appends

pub returns-in-TooEarly-clause-appends : goal.returns-in-TooEarly-clause-appends
returns-in-TooEarly-clause-appends g c = rw c.in-TooEarly.is c.put_too_early.ensures.appends

pub returns-in-MomentsMissing-clause-appends : goal.returns-in-MomentsMissing-clause-appends
returns-in-MomentsMissing-clause-appends g c = rw c.in-MomentsMissing.is c.put_moments_missing.ensures.appends
