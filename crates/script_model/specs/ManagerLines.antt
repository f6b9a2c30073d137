-- What lines of resource managers, of a branch's state and of the transaction log say.
use Rattle.std.specs.Prelude.{◌≡◌, ℕ, List, codes}
use Rattle.commit_protocol.specs.vms_model.Ids.{Id}
use Rattle.commit_protocol.specs.Messages.{PreparedReply, RememberReply}
use Rattle.script_model.specs.Statements as says
use Rattle.script_model.specs.Statements.{Reading, Says, Bad, At, ByLabel, BySerial}
use Rattle.script_model.specs.Grammar.{reading}

-- the serial B.1.2
abbrev pub serial : Id
serial = record { node = codes "B"; boot = 1; seq = 2 }

-- Verbs, names and replies are read in either case. A word that cannot stand there is named by its column, and so is the place of one that is missing.
pub record ManagerLinesAreRead : Type 0 where
  pub declared : reading (codes "A: declare_rm r_1") ≡ Says (At (codes "A") (says.DeclareRm (codes "R_1")))
  pub joined : reading (codes "A: JOIN_RM T R") ≡ Says (At (codes "A") (says.JoinRm (codes "T") (codes "R")))
  pub by_label : reading (codes "A: ACK_EVENT T R SS$_Prepared") ≡ Says (At (codes "A") (says.AckEvent (ByLabel (codes "T")) (codes "R") PreparedReply))
  pub by_serial : reading (codes "A: ACK_EVENT B.1.2 R ss$_remember") ≡ Says (At (codes "A") (says.AckEvent (BySerial serial) (codes "R") RememberReply))
  pub forgotten : reading (codes "A: FORGET_RM R") ≡ Says (At (codes "A") (says.ForgetRm (codes "R")))
  pub state : reading (codes "A: GETDTI B.1.2") ≡ Says (At (codes "A") (says.GetDti (BySerial serial)))
  pub shown : reading (codes "A: LMCP show") ≡ Says (At (codes "A") says.LmcpShow)
  pub dumped : reading (codes "A: LMCP DUMP ") ≡ Says (At (codes "A") says.LmcpDump)
  pub no_reply : reading (codes "A: ACK_EVENT T R SS$_ABORT") ≡ Bad 18
  pub missing : reading (codes "A: JOIN_RM T") ≡ Bad 13
  pub no_manager : reading (codes "A: DECLARE_RM 1R") ≡ Bad 15
  pub more : reading (codes "A: LMCP SHOW 1") ≡ Bad 14
