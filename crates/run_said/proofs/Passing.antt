-- Lines of the table, all of which pass a test.
use Rattle.std.proofs.Common.{◌≡◌, ℕ, List, [], ◌∷◌, ◌++◌, map, Bool, true, false, Option, if◌then◌else◌}
use Rattle.vms_model.specs.Ids.{Id}
use Rattle.vms_model.specs.Transactions.{Reason}
use Rattle.run_model.specs.transcript_model.Lines as line
use Rattle.run_model.specs.transcript_model.Lines.{Line}
use Rattle.run_model.specs.commit_protocol.Messages.{LogRecord, RmEvent}
use Rattle.run_model.specs.commit_protocol.Table as table
use Rattle.run_model.specs.commit_protocol.Table.{Branch, Key as BranchKey, nothing_left, waits_for, holds, acknowledged}
use Rattle.run_model.specs.World.{Node}
use Rattle.run_model.specs.Answers.{acknowledged_lines, forgot_lines, is_declared, owed_line, prepared_line, released_lines, table_lines}

abbrev pub AllPass : (Line → Bool) → List Line → Type 0
AllPass test [] = Unit {0}
AllPass test (l ∷ ls) = (test l ≡ true) × AllPass test ls

module _ (test : Line → Bool) where
  pub append_passes : (k l : List Line) → AllPass test k → AllPass test l → AllPass test (k ++ l)
  append_passes [] l h g = g
  append_passes (x ∷ k) l h g = (h.0, append_passes k l h.1 g)

  module _ (told : (event : RmEvent) (tid serial : Id) (rm : List ℕ) → test (line.ManagerTold event tid serial rm) ≡ true) where
    pub told_passes : (event : RmEvent) (k : BranchKey) (rm : List ℕ) (b : Bool) → AllPass test (if b then line.ManagerTold event k.tid k.serial rm ∷ [] else [])
    told_passes event k rm true = (told event k.tid k.serial rm, tt)
    told_passes event k rm false = tt

    pub owed_passes : (rm : List ℕ) (rs : List LogRecord) → AllPass test (map (owed_line rm) rs)
    owed_passes rm [] = tt
    owed_passes rm (r ∷ rs) = (told _ r.tid r.serial rm, owed_passes rm rs)

    pub printed_passes : ((tid serial : Id) → test (line.Started tid serial) ≡ true) → ((tid : Id) (reason : Option Reason) → test (line.Ended tid reason) ≡ true) → (n : Node) (l : table.Line) → AllPass test (table_lines n l)
    printed_passes started ended n (table.Started k) = (started k.tid k.serial, tt)
    printed_passes started ended n (table.Ended tid reason) = (ended tid reason, tt)
    printed_passes started ended n (table.Told event k rm) = told_passes event k rm (is_declared n rm)

  pub prepared_passes : ((tid serial : Id) → test (line.Prepared tid serial) ≡ true) → (bs : List Branch) → AllPass test (map prepared_line bs)
  prepared_passes prepared [] = tt
  prepared_passes prepared (b ∷ bs) = (prepared b.key.tid b.key.serial, prepared_passes prepared bs)

  module _ (forgot : (tid serial : Id) → test (line.Forgot tid serial) ≡ true) where
    forgot_passes : (r : LogRecord) → AllPass test (forgot_lines r)
    forgot_passes r = go (nothing_left r.waiting r.rms)
      where
        go : (b : Bool) → AllPass test (if b then line.Forgot r.tid r.serial ∷ [] else [])
        go true = (forgot r.tid r.serial, tt)
        go false = tt

    pub acknowledged_passes : (k : BranchKey) (rs : List LogRecord) → AllPass test (acknowledged_lines k rs)
    acknowledged_passes k [] = tt
    acknowledged_passes k (r ∷ rs) = go (waits_for k r) (acknowledged_passes k rs)
      where
        go : (b : Bool) → AllPass test (acknowledged_lines k rs) → AllPass test (if b then forgot_lines (acknowledged k r) else acknowledged_lines k rs)
        go true more = forgot_passes (acknowledged k r)
        go false more = more

    pub released_passes : (serial : Id) (rm : List ℕ) (rs : List LogRecord) → AllPass test (released_lines serial rm rs)
    released_passes serial rm [] = tt
    released_passes serial rm (r ∷ rs) = go (holds serial rm r) (released_passes serial rm rs)
      where
        go : (b : Bool) → AllPass test (released_lines serial rm rs) → AllPass test (if b then forgot_lines (table.released rm r) else released_lines serial rm rs)
        go true more = forgot_passes (table.released rm r)
        go false more = more
