-- Scripts, and what they show.
use Rattle.std.specs.Prelude.{◌≡◌, ℕ, List, [], ◌∷◌, ◌++◌, codes, flat_map}
use Rattle.run_model.specs.Transcript.{Done, BadLine}
use Rattle.reference_law.specs.Whole.{PlaceSaid, run_of}

-- texts as lines, each with its line feed
abbrev pub fed : List (List ℕ) → List ℕ
fed lines = flat_map (λ l. l ++ (10 ∷ [])) lines

-- how many blocks the disk of a worked script has: eight more than a volume of the smallest journal takes to itself
abbrev pub disk_size : ℕ
disk_size = 720

-- the node A with a disk of so many blocks
abbrev pub alone : (blocks : ℕ) → List PlaceSaid
alone blocks = record { name = codes "A"; blocks = blocks } ∷ []

-- the statements that make the node and its file
abbrev pub base_script : List (List ℕ)
base_script = codes "A: INIT 64 64" ∷ codes "A: BOOT" ∷ codes "A: CREATE F REL 1 100 10" ∷ codes "A: SET_FILE F RU" ∷ []

-- what they show
abbrev pub base_shown : List (List ℕ)
base_shown = codes "1 SS$_NORMAL" ∷ codes "2 SS$_NORMAL 1" ∷ codes "3 SS$_NORMAL" ∷ codes "4 SS$_NORMAL" ∷ []

-- a script of these lines ends well, and shows these lines
abbrev pub Shows : List (List ℕ) → List (List ℕ) → Type 0
Shows script shown = run_of (alone disk_size) (fed script) ≡ record { exit = Done; text = fed shown }

-- a record is put in a transaction that is committed, and is there then
abbrev pub CommittedRecordIsShown : Type 0
CommittedRecordIsShown = Shows
    (base_script ++ codes "A: START_TRANS T" ∷ codes "A: PUT T F 1 \"a\"" ∷ codes "A: END_TRANS T" ∷ codes "A: DUMP F" ∷ [])
    (base_shown ++ codes "5 SS$_NORMAL A.1.1" ∷ codes "6 RMS$_NORMAL" ∷ codes "7 COMMIT A.1.1 A.1.1 \"17-NOV-1858 00:00:00.01\"" ∷ codes "7 SS$_NORMAL" ∷ codes "8 RECORD 1 \"a\"" ∷ codes "8 SS$_NORMAL 1" ∷ [])

-- a script without lines shows nothing
abbrev pub EmptyScriptShowsNothing : Type 0
EmptyScriptShowsNothing = Shows [] []

-- what was put in a transaction that is aborted is gone, and the transaction cannot be ended any more
abbrev pub AbortedRecordIsGone : Type 0
AbortedRecordIsGone = Shows
    (base_script ++ codes "A: START_TRANS T" ∷ codes "A: PUT T F 1 \"a\"" ∷ codes "A: ABORT_TRANS T" ∷ codes "A: DUMP F" ∷ codes "A: END_TRANS T" ∷ [])
    (base_shown ++ codes "5 SS$_NORMAL A.1.1" ∷ codes "6 RMS$_NORMAL" ∷ codes "7 ABORT A.1.1 A.1.1 DDTM$_ABORTED \"17-NOV-1858 00:00:00.01\"" ∷ codes "7 SS$_NORMAL" ∷ codes "8 SS$_NORMAL 0" ∷ codes "9 SS$_NOSUCHTID" ∷ [])

-- a record of an unsettled transaction stands in the way of another at its number, and of a dump; no record is put above the greatest number
abbrev pub UnsettledRecordStands : Type 0
UnsettledRecordStands = Shows
    (base_script ++ codes "A: START_TRANS T" ∷ codes "A: PUT T F 10 \"j\"" ∷ codes "A: PUT T F 11 \"k\"" ∷ codes "A: PUT T F 10 \"k\"" ∷ codes "A: DUMP F" ∷ [])
    (base_shown ++ codes "5 SS$_NORMAL A.1.1" ∷ codes "6 RMS$_NORMAL" ∷ codes "7 RMS$_MRN" ∷ codes "8 RMS$_REX" ∷ codes "9 RMS$_FLK A.1.1" ∷ [])

-- a disk of zeros has no volume, for the first condition of one fails at block 518; on it a volume is made
abbrev pub ZerosAreNoVolume : Type 0
ZerosAreNoVolume = Shows
    (codes "A: BOOT" ∷ codes "A: INIT 64 64" ∷ codes "A: BOOT" ∷ codes "A: INIT 64 64" ∷ [])
    (codes "1 VOLUME A 1 518" ∷ codes "2 SS$_NORMAL" ∷ codes "3 SS$_NORMAL 1" ∷ codes "4 VOLINUSE" ∷ [])

-- a boot behind a crash tells the last settlement on the disk
abbrev pub BootBehindCrashTellsLast : Type 0
BootBehindCrashTellsLast = Shows
    (base_script ++ codes "A: START_TRANS T" ∷ codes "A: PUT T F 1 \"a\"" ∷ codes "A: END_TRANS T" ∷ codes "CRASH A" ∷ codes "A: BOOT" ∷ [])
    (base_shown ++ codes "5 SS$_NORMAL A.1.1" ∷ codes "6 RMS$_NORMAL" ∷ codes "7 COMMIT A.1.1 A.1.1 \"17-NOV-1858 00:00:00.01\"" ∷ codes "7 SS$_NORMAL" ∷ codes "8 DOWN A CRASH" ∷ codes "8 SS$_NORMAL"
    ∷ codes "9 LAST COMMIT A.1.1 A.1.1 \"17-NOV-1858 00:00:00.01\"" ∷ codes "9 SS$_NORMAL 2" ∷ [])

-- a record whose quote is not closed is a bad line from there on
abbrev pub OpenQuoteIsBad : Type 0
OpenQuoteIsBad = run_of (alone disk_size) (fed (codes "A: PUT T F 1 \"a" ∷ [])) ≡ record { exit = BadLine; text = fed (codes "1 BADLINE 14" ∷ []) }

-- a record put into an indexed file whose buckets are too few for it is refused: one is free, and three are wanted
abbrev pub FileIsFull : Type 0
FileIsFull = Shows
    (base_script ++ codes "A: CREATE I IDX 1 40 2 0 2" ∷ codes "A: SET_FILE I RU" ∷ codes "A: START_TRANS T" ∷ codes "A: PUT T I \"aa\"" ∷ [])
    (base_shown ++ codes "5 SS$_NORMAL" ∷ codes "6 SS$_NORMAL" ∷ codes "7 SS$_NORMAL A.1.1" ∷ codes "8 RMS$_FUL FILE 1 3" ∷ [])

-- a sequential file: an aborted record's position is free again, a record keeps its length, is not deleted, and goes where the file is truncated
abbrev pub SequentialFileIsTruncated : Type 0
SequentialFileIsTruncated = Shows
    (base_script ++ codes "A: CREATE S SEQ 1 100 4" ∷ codes "A: SET_FILE S RU" ∷ codes "A: START_TRANS T" ∷ codes "A: PUT T S \"x\"" ∷ codes "A: ABORT_TRANS T" ∷ codes "A: START_TRANS U"
    ∷ codes "A: PUT U S \"y\"" ∷ codes "A: UPDATE U S 1 \"zz\"" ∷ codes "A: DELETE U S 1" ∷ codes "A: TRUNCATE U S 1" ∷ codes "A: PUT U S \"w\"" ∷ codes "A: END_TRANS U" ∷ codes "A: DUMP S" ∷ [])
    (base_shown ++ codes "5 SS$_NORMAL" ∷ codes "6 SS$_NORMAL" ∷ codes "7 SS$_NORMAL A.1.1" ∷ codes "8 RMS$_NORMAL 1" ∷ codes "9 ABORT A.1.1 A.1.1 DDTM$_ABORTED \"17-NOV-1858 00:00:00.01\"" ∷ codes "9 SS$_NORMAL"
    ∷ codes "10 SS$_NORMAL A.1.2" ∷ codes "11 RMS$_NORMAL 1" ∷ codes "12 RMS$_RSZ" ∷ codes "13 RMS$_IOP" ∷ codes "14 RMS$_NORMAL" ∷ codes "15 RMS$_NORMAL 1"
    ∷ codes "16 COMMIT A.1.2 A.1.2 \"17-NOV-1858 00:00:00.02\"" ∷ codes "16 SS$_NORMAL" ∷ codes "17 RECORD 1 \"w\"" ∷ codes "17 SS$_NORMAL 1" ∷ [])

-- how many blocks a disk has that holds an indexed file of twenty buckets too
abbrev pub larger_disk : ℕ
larger_disk = 752

-- an indexed file: a key stands once, and is that of its record, which holds it; what an aborted transaction deleted and put is undone
abbrev pub IndexedFileIsRestored : Type 0
IndexedFileIsRestored = run_of (alone larger_disk) (fed (base_script ++ codes "A: CREATE I IDX 1 40 20 0 2" ∷ codes "A: SET_FILE I RU" ∷ codes "A: START_TRANS T" ∷ codes "A: PUT T I \"bb1\"" ∷ codes "A: PUT T I \"aa2\"" ∷ codes "A: PUT T I \"aa9\""
    ∷ codes "A: UPDATE T I \"aa\" \"ab2\"" ∷ codes "A: PUT T I \"a\"" ∷ codes "A: END_TRANS T" ∷ codes "A: START_TRANS U" ∷ codes "A: DELETE U I \"aa\"" ∷ codes "A: PUT U I \"ab3\"" ∷ codes "A: ABORT_TRANS U" ∷ codes "A: DUMP I" ∷ []))
    ≡ record {
      exit = Done;
      text = fed (base_shown ++ codes "5 SS$_NORMAL" ∷ codes "6 SS$_NORMAL" ∷ codes "7 SS$_NORMAL A.1.1" ∷ codes "8 RMS$_NORMAL" ∷ codes "9 RMS$_NORMAL" ∷ codes "10 RMS$_DUP" ∷ codes "11 RMS$_CHG" ∷ codes "12 RMS$_RSZ"
          ∷ codes "13 COMMIT A.1.1 A.1.1 \"17-NOV-1858 00:00:00.01\"" ∷ codes "13 SS$_NORMAL" ∷ codes "14 SS$_NORMAL A.1.2" ∷ codes "15 RMS$_NORMAL" ∷ codes "16 RMS$_NORMAL"
          ∷ codes "17 ABORT A.1.2 A.1.2 DDTM$_ABORTED \"17-NOV-1858 00:00:00.02\"" ∷ codes "17 SS$_NORMAL" ∷ codes "18 RECORD \"aa\" \"aa2\"" ∷ codes "18 RECORD \"bb\" \"bb1\"" ∷ codes "18 SS$_NORMAL 2" ∷ []);
    }
