-- Worked scripts of journals of images, saves and recoveries, and what they show; and worked files.
use Rattle.std.specs.Prelude.{◌≡◌, ℕ, List, [], ◌∷◌, ◌++◌, false, Some, None, codes, length}
use Rattle.std.specs.FinMap.{empty, insert}
use Rattle.vms_model.specs.Keys.{Number}
use Rattle.vms_model.specs.Transactions.{Outcome, Commit, Abort}
use Rattle.world_laws.specs.transcript_model.Lines as line
use Rattle.world_laws.specs.transcript_model.Lines.{Line}
use Rattle.world_laws.specs.script_model.Statements as said
use Rattle.world_laws.specs.script_model.Statements.{AfterImages, BeforeImages, Backup, Create, Direct, DumpImages, EndTrans, Forward, Backward, Images, NoImages, Put, Records, Recover, SetFile, StartTrans}
use Rattle.unit_laws.specs.records_model.Records.{Records as RecordMap}
use Rattle.world_laws.specs.recovery_model.Recovery.{PositionsMissing, records_by, refusal}
use Rattle.world_laws.specs.recovery_model.Recovery as recovery
use Rattle.world_laws.specs.run_model.World.{BeginsImages, File, changed_file, marked_file, recovered_file, saved_file, settled_file, state_of}
use Rattle.world_laws.specs.run_model.Answers.{created, records_recovered}
use Rattle.world_laws.specs.run_model.Rows.{Move, base_lines, base_moves, id, played, says, zero_world}

-- on a disk of 1,000 blocks the moves that make the file F, and behind them these, show these lines
abbrev pub Plays : List Move → List (List Line) → Type 0
Plays moves lines = played (zero_world 1000) (base_moves ++ moves) ≡ base_lines ++ lines

-- F keeps images of both kinds and is saved; the position and the moment of the save are answered
abbrev pub kept_moves : List Move
kept_moves = says (SetFile (codes "F") (Images AfterImages 64)) ∷ says (SetFile (codes "F") (Images BeforeImages 64)) ∷ says (Backup (codes "F")) ∷ []

abbrev pub kept_lines : List (List Line)
kept_lines = (line.Normal ∷ []) ∷ (line.Normal ∷ []) ∷ (line.NormalSave 512 0 ∷ []) ∷ []

-- A branch that puts a record and commits is in both journals, with the image after and the image before, and with its settlement.
abbrev pub ImagesAreKept : Type 0
ImagesAreKept = Plays (kept_moves ++ says (StartTrans (codes "T") None) ∷ says (Records (codes "T") (codes "F") (Put (Some 1) (codes "a"))) ∷ says (EndTrans (codes "T")) ∷ says (DumpImages (codes "F") AfterImages) ∷ says (DumpImages (codes "F") BeforeImages) ∷ [])
    (kept_lines ++ (line.NormalId (id 1 1) ∷ []) ∷ (line.RecordNormal ∷ []) ∷ (line.Committed (id 1 1) (id 1 1) 1 ∷ line.Normal ∷ [])
    ∷ (line.ChangeEntry 512 (id 1 1) (id 1 1) (codes "F") (Number 1) (Some (codes "a")) ∷ line.SettledEntry 565 (id 1 1) (id 1 1) Commit 1 ∷ line.NormalSpan 512 613 ∷ [])
    ∷ (line.ChangeEntry 512 (id 1 1) (id 1 1) (codes "F") (Number 1) None ∷ line.SettledEntry 564 (id 1 1) (id 1 1) Commit 1 ∷ line.NormalSpan 512 612 ∷ []) ∷ [])

-- A journal that begins anew does not reach the save, and one that ended is not there.
abbrev pub NewJournalIsShort : Type 0
NewJournalIsShort = Plays (kept_moves ++ says (SetFile (codes "F") (Images AfterImages 64)) ∷ says (Recover (codes "F") (Forward None)) ∷ says (SetFile (codes "F") (NoImages AfterImages)) ∷ says (Recover (codes "F") (Forward None))
    ∷ says (DumpImages (codes "F") AfterImages) ∷ [])
    (kept_lines ++ (line.Normal ∷ []) ∷ (line.PositionsMissing 512 1024 ∷ []) ∷ (line.Normal ∷ []) ∷ (line.NoJournal ∷ []) ∷ (line.NoJournal ∷ []) ∷ [])

-- A ring of one block is full behind a record of 405 bytes and its settlement: seven bytes are free.
abbrev pub RingIsFull : Type 0
RingIsFull = (bytes : List ℕ) → length bytes ≡ 405 →
    Plays (says (Create (codes "H") 1 480 (said.Relative 10)) ∷ says (SetFile (codes "H") (Images AfterImages 1)) ∷ says (Direct (codes "H") (Put (Some 1) bytes)) ∷ says (Direct (codes "H") (Put (Some 2) (codes "a"))) ∷ [])
    ((line.Normal ∷ []) ∷ (line.Normal ∷ []) ∷ (line.Committed (id 1 1) (id 1 1) 1 ∷ line.RecordNormal ∷ []) ∷ (line.AftersFull 7 101 ∷ []) ∷ [])

-- a change without a label puts a record of one byte in H, and is told so
abbrev pub put_move : (number : ℕ) → Move
put_move number = says (Direct (codes "H") (Put (Some number) (codes "a")))

abbrev pub put_lines : (number : ℕ) → List Line
put_lines number = line.Committed (id 1 number) (id 1 number) number ∷ line.RecordNormal ∷ []

-- Five such changes fill a ring of one block up to seven bytes, and a sixth wants 101.
abbrev pub FivePutsFill : Type 0
FivePutsFill = Plays (says (Create (codes "H") 1 100 (said.Relative 10)) ∷ says (SetFile (codes "H") (Images AfterImages 1)) ∷ put_move 1 ∷ put_move 2 ∷ put_move 3 ∷ put_move 4 ∷ put_move 5 ∷ put_move 6 ∷ [])
    ((line.Normal ∷ []) ∷ (line.Normal ∷ []) ∷ put_lines 1 ∷ put_lines 2 ∷ put_lines 3 ∷ put_lines 4 ∷ put_lines 5 ∷ (line.AftersFull 7 101 ∷ []) ∷ [])

-- Files.

-- a branch puts a record of one byte at a number, and is settled so at a moment
abbrev pub puts : (seq : ℕ) → Outcome → (moment number byte : ℕ) → File → File
puts seq outcome moment number byte f =
    settled_file (record { tid = id 1 seq; serial = id 1 seq; outcome = outcome; reason = None; moment = moment })
    (changed_file (λ k. false) (id 1 seq) (id 1 seq) (record { key = Number number; before = None; after = Some (byte ∷ []) } ∷ []) f)

-- a file that keeps images of both kinds and is saved; then three branches put a record each at 1000, 1100 and 1200, and one is aborted at 1101
abbrev pub kept_file : File
kept_file = saved_file 843 0 (marked_file (BeginsImages BeforeImages 779 64) 0 (marked_file (BeginsImages AfterImages 715 64) 0 (created (codes "F") 1 100 (said.Relative 10) 712 0)))

abbrev pub worked_file : File
worked_file = puts 4 Commit 1200 4 100 (puts 3 Abort 1101 3 120 (puts 2 Commit 1100 2 98 (puts 1 Commit 1000 1 97 kept_file)))

-- the records of the first two
abbrev pub first_two : RecordMap
first_two = insert (insert empty (Number 1) (97 ∷ [])) (Number 2) (98 ∷ [])

-- At 1100 these are the records of the moment, and what a recovery gives, forward and backward; behind it the journal of after images does not reach the save.
pub record WorkedFileRecovers : Type 0 where
  pub forward : records_recovered (Forward (Some 1100)) worked_file ≡ first_two
  pub backward : records_recovered (Backward 1100) worked_file ≡ first_two
  pub moment : records_by (recovery.Backward 1100) (state_of worked_file) ≡ first_two
  pub behind : refusal (recovery.Forward None) None (state_of (recovered_file 846 3 first_two 1200 worked_file)) ≡ Some (PositionsMissing 512 1024)
