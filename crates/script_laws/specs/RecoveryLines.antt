-- What lines of image journals, saves and recoveries say.
use Rattle.std.specs.Prelude.{◌≡◌, ℕ, List, Some, None, codes}
use Rattle.script_model.specs.Statements as says
use Rattle.script_model.specs.Statements.{Request, Reading, Says, Bad, At, AfterImages, BeforeImages, Forward, Backward}
use Rattle.script_model.specs.Grammar.{reading}

-- a line asks this of node A
abbrev pub Asks : List ℕ → Request → Type 0
Asks line request = reading line ≡ Says (At (codes "A") request)

-- A journal of images has its blocks behind it. A last word RU, AI or BI names a journal and no file. Forward goes to the last moment where none is said.
pub record RecoveryLinesAreRead : Type 0 where
  pub marked : Asks (codes "A: SET_FILE F ru") (says.SetFile (codes "F") says.RecoveryUnits)
  pub afters : Asks (codes "A: SET_FILE F ai 64") (says.SetFile (codes "F") (says.Images AfterImages 64))
  pub no_afters : Asks (codes "A: SET_FILE F NOAI") (says.SetFile (codes "F") (says.NoImages AfterImages))
  pub befores : Asks (codes "A: SET_FILE F BI 0") (says.SetFile (codes "F") (says.Images BeforeImages 0))
  pub no_befores : Asks (codes "A: SET_FILE F NOBI") (says.SetFile (codes "F") (says.NoImages BeforeImages))
  pub no_blocks : reading (codes "A: SET_FILE F AI") ≡ Bad 17
  pub more_blocks : reading (codes "A: SET_FILE F NOAI 64") ≡ Bad 20
  pub saved : Asks (codes "A: BACKUP F") (says.Backup (codes "F"))
  pub forward : Asks (codes "A: RECOVER F FORWARD") (says.Recover (codes "F") (Forward None))
  pub forward_until : Asks (codes "A: RECOVER F forward UNTIL \"17-NOV-1858 00:00:00.01\"") (says.Recover (codes "F") (Forward (Some 1)))
  pub backward : Asks (codes "A: RECOVER F BACKWARD until \"17-NOV-1858 00:00:00.01\"") (says.Recover (codes "F") (Backward 1))
  pub no_moment : reading (codes "A: RECOVER F BACKWARD") ≡ Bad 22
  pub no_day : reading (codes "A: RECOVER F FORWARD UNTIL \"31-JUN-1900 00:00:00.00\"") ≡ Bad 28
  pub units : Asks (codes "A: DUMP_JOURNAL RU") says.DumpJournal
  pub images : Asks (codes "A: DUMP_JOURNAL F BI") (says.DumpImages (codes "F") BeforeImages)
  pub named_units : Asks (codes "A: DUMP_JOURNAL RU AI") (says.DumpImages (codes "RU") AfterImages)
  pub named_side : Asks (codes "A: DUMP_JOURNAL AI BI") (says.DumpImages (codes "AI") BeforeImages)
  pub alone : reading (codes "A: DUMP_JOURNAL AI") ≡ Bad 17
  pub file_alone : reading (codes "A: DUMP_JOURNAL F") ≡ Bad 18
  pub file_units : reading (codes "A: DUMP_JOURNAL F RU") ≡ Bad 19
