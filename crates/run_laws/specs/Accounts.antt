-- What a transcript tells of branches and of the records that they leave, in the words of those who keep records in such files. Of the world it asks only which
-- records were committed at the opening and what unsettled branches had set then, how a file keeps its records, which positions stood where it was truncated,
-- what a change without a label was to be where its disk failed in it, what a recovery was to give, and what became of one in which its disk failed.
use Rattle.std.specs.Prelude.{◌≡◌, ◌⊎◌, ℕ, List, [], ◌∷◌, Bool, false, ◌&&◌, if◌then◌else◌, ◌-◌, Option, Some, None, map, drop, is_some, option_map}
use Rattle.std.specs.List.{list_any}
use Rattle.std.specs.Str.{bytes_eq}
use Rattle.std.specs.FinMap.{empty}
use Rattle.vms_model.specs.Ids.{Id}
use Rattle.vms_model.specs.Keys.{Key, Number, Text}
use Rattle.run_said.specs.transcript_model.Lines as line
use Rattle.run_said.specs.transcript_model.Lines.{Line}
use Rattle.run_said.specs.script_model.Statements.{At, Reading, Says, Init, Create, Records, Direct, Recover, Recovery, Operation, Put, Update, Delete, Truncate}
use Rattle.run_said.specs.script_model.Grammar.{reading}
use Rattle.unit_laws.specs.records_model.Records as base
use Rattle.unit_laws.specs.records_model.Records.{set_key}
use Rattle.unit_laws.specs.records_model.History.{LiveChanges, same_id, records}
use Rattle.run_said.specs.run_model.World.{World, File, Organization, Indexed, find_node, find_file, next_id}
use Rattle.run_said.specs.run_model.Operations.{in_order, key_within, changes_of}
use Rattle.run_said.specs.run_model.Answers.{records_recovered}
use Rattle.run_said.specs.run_model.Transcript.{Entry, Turn}
use Rattle.run_laws.specs.Naming.{find_told, labels_told}

-- What a label names.

-- the branch that a label of a node names, where these entries tell of such a label and it names one
abbrev pub serial_told : List ℕ → List ℕ → List Entry → Option Id
serial_told node label es = elim (find_told label (labels_told es)) [ Some l ↦ (if bytes_eq node l.node then l.serial else None) | None ↦ None ]

-- What branches have set.

-- A key that was set: to a record, or to none.
abbrev pub Set : Type 0
Set = Key × Option (List ℕ)

-- records with these keys set, the newest last set first
abbrev pub with_sets : List Set → base.Records → base.Records
with_sets [] m = m
with_sets (k ∷ ks) m = set_key (with_sets ks m) k.0 k.1

-- what a branch has set of a file's keys, in one statement
pub record Told : Type 0 where
  pub serial : Id
  pub sets : List Set

-- records with all that a branch has set on top, of what is told, the newest first
abbrev pub told_by : Id → List Told → base.Records → base.Records
told_by serial [] m = m
told_by serial (t ∷ ts) m = if same_id serial t.serial then with_sets t.sets (told_by serial ts m) else told_by serial ts m

-- What a PUT has set that was answered so: a record at the number that was said, at the position that was answered, or, in an indexed file, at its own key.
abbrev pub put_sets : Organization → Option ℕ → List ℕ → Line → List Set
put_sets organization (Some number) bytes line.RecordNormal = (Number number, Some bytes) ∷ []
put_sets organization None bytes (line.RecordPosition position) = (Number position, Some bytes) ∷ []
put_sets (Indexed position size) None bytes line.RecordNormal = (Text (key_within position size bytes), Some bytes) ∷ []
put_sets organization number bytes answer = []

-- What an operation on a file has set that was answered so, the newest first: the record of a key, or none; and none at the positions from the last that
-- stood down to one. One that is refused, or only reads, has set nothing.
abbrev pub sets_of : Operation → Line → File → List Set
sets_of (Put number bytes) answer f = put_sets f.organization number bytes answer
sets_of (Update key bytes) line.RecordNormal f = (key, Some bytes) ∷ []
sets_of (Delete key) line.RecordNormal f = (key, None) ∷ []
sets_of (Truncate number) line.RecordNormal f = map (λ e. (e.0, None)) (drop (number - 1) (in_order f))
sets_of op answer f = []

-- the file of this name at a node
abbrev pub file_of : List ℕ → List ℕ → World → Option File
file_of node file w = elim (find_node node w.nodes) [ Some n ↦ find_file file n.durable.directory | None ↦ None ]

-- what is told, and what a branch has set, where there is the file and the branch
abbrev pub one_told : Option Id → Option File → (File → List Set) → List Told → List Told
one_told (Some serial) (Some f) sets before = record { serial = serial; sets = sets f } ∷ before
one_told (Some serial) None sets before = before
one_told None f sets before = before

-- what a change without a label was to set, and the id that it was to have, where its disk failed in it
abbrev pub broken_id : List ℕ → World → Option Id
broken_id node w = option_map next_id (find_node node w.nodes)

abbrev pub broken_sets : Operation → File → List Set
broken_sets op f = map (λ c. (c.key, c.after)) (changes_of f op)

-- what a change without a label has set that showed these lines, or was to set, of a file that stood so before
abbrev pub direct_told : List ℕ → List ℕ → World → Operation → List Line → List Told → List Told
direct_told node file w op (line.Committed tid serial moment ∷ answer ∷ []) before = one_told (Some serial) (file_of node file w) (sets_of op answer) before
direct_told node file w op (line.Committed tid serial moment ∷ line.Down m cause ∷ answer ∷ []) before = one_told (Some serial) (file_of node file w) (broken_sets op) before
direct_told node file w op (line.Down m cause ∷ answer ∷ []) before = one_told (broken_id node w) (file_of node file w) (broken_sets op) before
direct_told node file w op lines before = before

-- what is told after a line, of a file of this node that stood so before: more, where it was an operation on it
abbrev pub sets_here : List ℕ → List ℕ → List Entry → World → Reading → List Line → List Told → List Told
sets_here node file es w (Says (At n (Records l f op))) (answer ∷ []) before = if bytes_eq n node && bytes_eq f file then one_told (serial_told n l es) (file_of node file w) (sets_of op answer) before else before
sets_here node file es w (Says (At n (Direct f op))) lines before = if bytes_eq n node && bytes_eq f file then direct_told node file w op lines before else before
sets_here node file es w reading lines before = before

-- The account of a file.

-- What is told of a file: its records, which committed branches leave; what each branch has set, the newest first; which branches have left what they had
-- set; and what a recovery of it was to give that broke, while no line tells whether that took place: its records are in doubt then.
pub record Account : Type 0 where
  pub records : base.Records
  pub told : List Told
  pub left : List Id
  pub given : Option base.Records

-- a branch of this node leaves what it had set, unless it has left it; one of another node has set nothing here
abbrev pub left_by : List ℕ → Id → Account → Account
left_by node serial a = if bytes_eq serial.node node then (if list_any (same_id serial) a.left then a else record a { records = told_by serial a.told a.records; left = serial ∷ a.left }) else a

-- So does each whose commitment these lines show, whichever statement shows it, be it as the last that the node's disk has.
abbrev pub commits_here : List ℕ → List Line → Account → Account
commits_here node [] a = a
commits_here node (line.Committed tid serial moment ∷ lines) a = commits_here node lines (left_by node serial a)
commits_here node (line.LastCommitted tid serial moment ∷ lines) a = commits_here node lines (left_by node serial a)
commits_here node (other ∷ lines) a = commits_here node lines a

-- whether a line made this file of this node; and whether it made the node's volume anew
abbrev pub created_here : List ℕ → List ℕ → Reading → List Line → Bool
created_here node file (Says (At n (Create f bucket size form))) (line.Normal ∷ []) = bytes_eq n node && bytes_eq f file
created_here node file reading lines = false

abbrev pub made_anew : List ℕ → Reading → List Line → Bool
made_anew node (Says (At n (Init slots blocks))) (line.Normal ∷ []) = bytes_eq n node
made_anew node reading lines = false

-- the records of a file that are committed in a world; none where there is no such file
abbrev pub committed_in : List ℕ → List ℕ → World → base.Records
committed_in node file w = elim (file_of node file w) [ Some f ↦ records f.history | None ↦ empty ]

-- what unsettled branches have set of a file, as an earlier run left it: one that is prepared may yet be committed
abbrev pub left_sets : LiveChanges → Told
left_sets l = record { serial = l.serial; sets = map (λ c. (c.key, c.after)) l.changes }

abbrev pub unsettled_in : List ℕ → List ℕ → World → List Told
unsettled_in node file w = elim (file_of node file w) [ Some f ↦ map left_sets f.history.live | None ↦ [] ]

-- nothing is told of a file
abbrev pub no_account : Account
no_account = record { records = empty; told = []; left = []; given = None }

-- What a line that was said in this world leaves of an account: none, where it made the volume; no records, where it made the file; else what the branches leave on
-- top whose commitment it showed, in the order of these lines.
abbrev pub account_by : List ℕ → List ℕ → List Entry → World → Reading → List Line → Account → Account
account_by node file es w reading lines a = if made_anew node reading lines then no_account else
    (if created_here node file reading lines then record a { records = empty } else commits_here node lines (record a { told = sets_here node file es w reading lines a.told }))

-- Recoveries.

-- what a recovery of a file is to give, as the file stood before it: the records of the moment that was asked for
abbrev pub given_in : List ℕ → List ℕ → World → Recovery → base.Records
given_in node file w way = elim (file_of node file w) [ Some f ↦ records_recovered way f | None ↦ empty ]

-- what lines of a recovery leave of the file's account: the records that it gave; or doubt, where its disk failed in it
abbrev pub recovered_by : List ℕ → List ℕ → World → Recovery → List Line → Account → Account
recovered_by node file w way (line.NormalCount count ∷ []) a = record a { records = given_in node file w way }
recovered_by node file w way (line.Down m cause ∷ answer ∷ []) a = record a { given = Some (given_in node file w way) }
recovered_by node file w way lines a = a

-- and those of any line, which was said in this world
abbrev pub recovered_here : List ℕ → List ℕ → World → Reading → List Line → Account → Account
recovered_here node file w (Says (At n (Recover f way))) lines a = if bytes_eq n node && bytes_eq f file then recovered_by node file w way lines a else a
recovered_here node file w reading lines a = a

-- whether a node of this name is up
abbrev pub is_up_in : List ℕ → World → Bool
is_up_in node w = elim (find_node node w.nodes) [ Some n ↦ n.up | None ↦ false ]

-- Once its node is up again, the records of a file that were in doubt are those that are committed there.
abbrev pub known_again : List ℕ → List ℕ → World → Account → Account
known_again node file w a = if is_some a.given && is_up_in node w then record a { records = committed_in node file w; given = None } else a

-- what a line that was said in this world leaves of an account; its records may be in doubt behind it
abbrev pub account_behind : List ℕ → List ℕ → List Entry → World → Reading → List Line → Account → Account
account_behind node file es w reading lines a = recovered_here node file w reading lines (account_by node file es w reading lines a)

-- and once it has led to that world
abbrev pub account_after : List ℕ → List ℕ → List Entry → (w v : World) → Reading → List Line → Account → Account
account_after node file es w v reading lines a = known_again node file v (account_behind node file es w reading lines a)

-- a file may have these records by its account: those that are told, or those that a recovery was to give which are in doubt
abbrev pub MayHave : Account → base.Records → Type 0
MayHave a m = (a.records ≡ m) ⊎ (a.given ≡ Some m)

-- These entries lead from the opening world to this one, and tell this of the file: from the records that were committed at the opening, or none where the file
-- was made since, or those that a recovery gave, each branch whose commitment is shown leaves what it had set, over all restarts of the node.
abbrev pub HasAccount : List ℕ → List ℕ → World → List Entry → World → Account → Type 0
HasAccount node file opening [] w a = (w ≡ opening) × (a ≡ record { records = committed_in node file opening; told = unsettled_in node file opening; left = []; given = None })
HasAccount node file opening (e ∷ es) w a = (mid : World) × (before : Account) × HasAccount node file opening es mid before × Turn mid (reading e.source.text) e.lines w × (a ≡ account_after node file es mid w (reading e.source.text) e.lines before)
