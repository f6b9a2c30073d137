-- What follows from the lines of a run alone, whatever its disks tell: which nodes are up, for which an INIT failed, which labels were made, which messages were
-- sent, and whether a node may have been in use. The refusals by these alone are so exactly, but for those of a settling.
use Rattle.std.specs.Prelude.{ℕ, ◌+◌, ◌==◌, List, [], ◌∷◌, ◌++◌, Bool, true, false, not, ◌&&◌, Option, Some, None, if◌then◌else◌, length, map, nat_le}
use Rattle.std.specs.List.{last_or}
use Rattle.std.specs.Str.{bytes_eq}
use Rattle.vms_model.specs.Limits.{label_limit}
use Rattle.run_model.specs.transcript_model.Lines as line
use Rattle.run_model.specs.transcript_model.Lines.{Line}
use Rattle.run_model.specs.script_model.Statements.{Statement, At, Deliver, LinkDown, Settle, Request, Init, Boot, StartTrans, AddBranch, StartBranch, Records, EndBranch, EndTrans, AbortTrans, Inquire, JoinRm, AckEvent, GetDti, Fuse, Clock, Named, ByLabel, BySerial, Reading, Blank, Says, Bad}
use Rattle.run_model.specs.script_model.Grammar.{reading}
use Rattle.run_model.specs.commit_protocol.Messages.{Message}
use Rattle.run_model.specs.Operations.{first_of, refused_if}
use Rattle.run_model.specs.Statements.{message_at}
use Rattle.run_model.specs.Transcript.{Entry}

-- a label that was made, and the node that it was made for
pub record SaidLabel : Type 0 where
  pub name : List ℕ
  pub node : List ℕ

-- what the lines said of a node: whether it is up, and whether its last INIT that made its disk run failed
pub record SaidNode : Type 0 where
  pub name : List ℕ
  pub up : Bool
  pub unmade : Bool

-- What they said of what nodes share: the labels, the newest first; whether a BOOT succeeded or was ended by a failure of its disk, or a settling was asked for; and
-- the numbered messages, the first first.
pub record SaidShared : Type 0 where
  pub labels : List SaidLabel
  pub in_use : Bool
  pub wire : List Message

pub record Said : Type 0 where
  pub nodes : List SaidNode
  pub shared : SaidShared

-- the node of this name, where there is one, and the nodes after a change of it
abbrev pub node_in : List ℕ → List SaidNode → Option SaidNode
node_in name [] = None
node_in name (n ∷ ns) = if bytes_eq name n.name then Some n else node_in name ns

abbrev pub with_said : List ℕ → (SaidNode → SaidNode) → List SaidNode → List SaidNode
with_said name change [] = []
with_said name change (n ∷ ns) = if bytes_eq name n.name then change n ∷ ns else n ∷ with_said name change ns

-- What refuses a statement.

-- the label of this name, where there is one
abbrev pub find_said : List ℕ → List SaidLabel → Option SaidLabel
find_said name [] = None
find_said name (l ∷ ls) = if bytes_eq name l.name then Some l else find_said name ls

-- a label that is to be made, and one that is used at a node
abbrev pub new_said : List SaidLabel → List ℕ → Option Line
new_said ls name = elim (find_said name ls) [ Some l ↦ Some line.BadLabel | None ↦ refused_if (nat_le label_limit (length ls)) line.BadLabel ]

abbrev pub made_said : List SaidLabel → List ℕ → List ℕ → Option Line
made_said ls node name = elim (find_said name ls) [ Some l ↦ (if bytes_eq node l.node then None else Some line.BadLabel) | None ↦ Some line.BadLabel ]

abbrev pub named_said : List SaidLabel → List ℕ → Named → Option Line
named_said ls node (ByLabel label) = made_said ls node label
named_said ls node (BySerial serial) = None

-- a request to a node that is down
abbrev pub down_said : SaidNode → Option Line
down_said n = refused_if (not n.up) line.NodeDown

-- what refuses a request at a node by what was said alone
abbrev pub refused_by_lines : SaidShared → SaidNode → Request → Option Line
refused_by_lines s n (Init slots journal) = refused_if s.in_use line.VolumeInUse
refused_by_lines s n Boot = first_of (refused_if n.up line.NodeUp) (refused_if n.unmade line.NotInitialized)
refused_by_lines s n (StartTrans label seconds) = first_of (down_said n) (new_said s.labels label)
refused_by_lines s n (AddBranch label other new) = first_of (down_said n) (first_of (made_said s.labels n.name label) (new_said s.labels new))
refused_by_lines s n (StartBranch label) = first_of (down_said n) (made_said s.labels n.name label)
refused_by_lines s n (Records label file op) = first_of (down_said n) (made_said s.labels n.name label)
refused_by_lines s n (EndBranch label) = first_of (down_said n) (made_said s.labels n.name label)
refused_by_lines s n (EndTrans label) = first_of (down_said n) (made_said s.labels n.name label)
refused_by_lines s n (AbortTrans label) = first_of (down_said n) (made_said s.labels n.name label)
refused_by_lines s n (Inquire who) = first_of (down_said n) (named_said s.labels n.name who)
refused_by_lines s n (JoinRm label rm) = first_of (down_said n) (made_said s.labels n.name label)
refused_by_lines s n (AckEvent who rm reply) = first_of (down_said n) (named_said s.labels n.name who)
refused_by_lines s n (GetDti who) = first_of (down_said n) (named_said s.labels n.name who)
refused_by_lines s n (Fuse writes choice) = None
refused_by_lines s n (Clock now) = None
refused_by_lines s n _ = down_said n

-- a node that is named is not there
abbrev pub there_said : Said → List ℕ → Option Line
there_said said node = elim (node_in node said.nodes) [ Some n ↦ None | None ↦ Some line.NoSuchNode ]

-- the other node that a request names
abbrev pub other_said : Said → Request → Option Line
other_said said (AddBranch label other new) = there_said said other
other_said said request = None

-- what the node of this name says, or that it is not there
abbrev pub at_said : Said → List ℕ → (SaidNode → Option Line) → Option Line
at_said said node says = elim (node_in node said.nodes) [ Some n ↦ says n | None ↦ Some line.NoSuchNode ]

-- What refuses a statement by what was said alone. A settling is refused by what its nodes find, one after another, and of it nothing is said.
abbrev pub refused_by_said : Said → Statement → Option Line
refused_by_said said (At node request) = at_said said node (λ n. first_of (other_said said request) (refused_by_lines said.shared n request))
refused_by_said said (Deliver number) = elim (message_at number said.shared.wire) [ Some m ↦ at_said said m.to down_said | None ↦ Some line.NoSuchMessage ]
refused_by_said said (LinkDown a b) = first_of (there_said said a) (there_said said b)
refused_by_said said Settle = None

-- whether a statement is a settling
abbrev pub is_settling : Statement → Bool
is_settling (At node request) = false
is_settling (Deliver number) = false
is_settling (LinkDown a b) = false
is_settling Settle = true

-- whether an answer is one of these refusals
abbrev pub is_of_lines : Line → Bool
is_of_lines line.NoSuchNode = true
is_of_lines line.NodeDown = true
is_of_lines line.NodeUp = true
is_of_lines line.VolumeInUse = true
is_of_lines line.NotInitialized = true
is_of_lines line.NoSuchMessage = true
is_of_lines line.BadLabel = true
is_of_lines _ = false

abbrev pub is_by_lines : Statement → Line → Bool
is_by_lines s answer = not (is_settling s) && is_of_lines answer

-- What lines say.

-- a node is up from now on, or is not, and its volume is made, or is not
abbrev pub with_up : List ℕ → Bool → Said → Said
with_up node up said = record said { nodes = with_said node (λ n. record n { up = up }) said.nodes }

abbrev pub with_unmade : List ℕ → Bool → Said → Said
with_unmade node unmade said = record said { nodes = with_said node (λ n. record n { unmade = unmade }) said.nodes }

-- a label was made, for this node
abbrev pub with_label : List ℕ → List ℕ → Said → Said
with_label name node said = record said { shared = record said.shared { labels = record { name = name; node = node } ∷ said.shared.labels } }

-- no volume is made any more
abbrev pub with_use : Said → Said
with_use said = record said { shared = record said.shared { in_use = true } }

-- the messages with one more, where it has the next number
abbrev pub with_sent : ℕ → Message → List Message → List Message
with_sent number m wire = if number == length wire + 1 then wire ++ m ∷ [] else wire

-- a message was sent; a node went down, or was booted
abbrev pub line_said : Line → Said → Said
line_said (line.Sent number m) said = record said { shared = record said.shared { wire = with_sent number m said.shared.wire } }
line_said (line.Down node cause) said = with_up node false said
line_said (line.Crashed node) said = with_up node false said
line_said (line.Booted node boot) said = with_up node true said
line_said _ said = said

abbrev pub lines_said : List Line → Said → Said
lines_said [] said = said
lines_said (l ∷ ls) said = lines_said ls (line_said l said)

-- What an answer says besides: a node comes up with the success of BOOT, a volume is unmade from a failed INIT on to the next success, and a label is made with the
-- success of START_TRANS, or of ADD_BRANCH for the other node. No volume is made any more from the success of a BOOT on, or from a failure of the disk in one.
abbrev pub request_said : List ℕ → Request → Line → Said → Said
request_said node Boot (line.NormalCount boot) said = with_up node true (with_use said)
request_said node Boot (line.Broken cause) said = with_use said
request_said node (Init slots journal) line.Normal said = with_unmade node false said
request_said node (Init slots journal) (line.Broken cause) said = with_unmade node true said
request_said node (StartTrans label seconds) (line.NormalId id) said = with_label label node said
request_said node (AddBranch label other new) (line.NormalId id) said = with_label new other said
request_said node _ answer said = said

-- nor from a settling on
abbrev pub answer_said : Statement → Line → Said → Said
answer_said (At node request) answer said = request_said node request answer said
answer_said (Deliver number) answer said = said
answer_said (LinkDown a b) answer said = said
answer_said Settle answer said = with_use said

-- what is said of nodes of these names before the first line
abbrev pub nothing_said : List (List ℕ) → Said
nothing_said names = record { nodes = map (λ name. record { name = name; up = false; unmade = false }) names; shared = record { labels = []; in_use = false; wire = [] } }

-- what was said once a line was read so and these lines were shown for it, the last of which is the answer
abbrev pub said_here : Reading → List Line → Said → Said
said_here Blank lines said = said
said_here (Says s) lines said = elim (last_or None lines) [ Some answer ↦ answer_said s answer (lines_said lines said) | None ↦ said ]
said_here (Bad column) lines said = said

-- what these entries said of nodes of these names
abbrev pub said_of : List (List ℕ) → List Entry → Said
said_of names [] = nothing_said names
said_of names (e ∷ es) = said_here (reading e.source.text) e.lines (said_of names es)
