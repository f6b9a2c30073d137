-- The grammar of a line: the words of each statement, in order.
use Rattle.std.specs.Prelude.{ℕ, List, [], ◌∷◌, Bool, true, false, ◌==◌, ◌&&◌, Option, Some, None, is_some, if◌then◌else◌, codes}
use Rattle.std.specs.Option.{option_map}
use Rattle.std.specs.Str.{bytes_eq}
use Rattle.commit_protocol.specs.vms_model.Names.{node_named, label_named, file_named}
use Rattle.commit_protocol.specs.vms_model.Words.{number_up_to, among}
use Rattle.commit_protocol.specs.Messages.{Reply, PreparedReply, ForgetReply, VetoReply, RememberReply, NormalReply}
use Rattle.script_model.specs.LineWords.{Word, is_empty, words_of}
use Rattle.script_model.specs.Operands.{KeyWord, Numbered, Spelled, bytes_said, key_word_said, key_of, prefix_said, branch_said, time_word_said}
use Rattle.script_model.specs.Statements as says
use Rattle.script_model.specs.Statements.{Statement, Reading, Setting, RecoveryUnits, NoRecoveryUnits, NoImages, Side, AfterImages, BeforeImages, Named}

-- the word that tells a statement to a node from others
pub data Verb : Type 0 where
  Init : Verb
  Boot : Verb
  Create : Verb
  SetFile : Verb
  StartTrans : Verb
  AddBranch : Verb
  StartBranch : Verb
  Put : Verb
  Update : Verb
  Delete : Verb
  Truncate : Verb
  Get : Verb
  Next : Verb
  EndBranch : Verb
  EndTrans : Verb
  AbortTrans : Verb
  Inquire : Verb
  DeclareRm : Verb
  JoinRm : Verb
  AckEvent : Verb
  ForgetRm : Verb
  GetDti : Verb
  Lmcp : Verb
  Dump : Verb
  DumpJournal : Verb
  Backup : Verb
  Recover : Verb

-- the word that begins a statement of the world
pub data WorldVerb : Type 0 where
  Fuse : WorldVerb
  Crash : WorldVerb
  Clock : WorldVerb
  Deliver : WorldVerb
  LinkDown : WorldVerb
  Settle : WorldVerb

-- how a new file keeps its records
pub data Organization : Type 0 where
  Sequential : Organization
  Relative : Organization
  Indexed : Organization

-- what the first word of a line says: the node that is spoken to, or what is done to the world
pub data First : Type 0 where
  ToNode : List ℕ → First
  ToWorld : WorldVerb → First

-- the verbs as they are written
abbrev pub verbs : List (List ℕ × Verb)
verbs =
    (codes "INIT", Init)
    ∷ (codes "BOOT", Boot)
    ∷ (codes "CREATE", Create)
    ∷ (codes "SET_FILE", SetFile)
    ∷ (codes "START_TRANS", StartTrans)
    ∷ (codes "ADD_BRANCH", AddBranch)
    ∷ (codes "START_BRANCH", StartBranch)
    ∷ (codes "PUT", Put)
    ∷ (codes "UPDATE", Update)
    ∷ (codes "DELETE", Delete)
    ∷ (codes "TRUNCATE", Truncate)
    ∷ (codes "GET", Get)
    ∷ (codes "NEXT", Next)
    ∷ (codes "END_BRANCH", EndBranch)
    ∷ (codes "END_TRANS", EndTrans)
    ∷ (codes "ABORT_TRANS", AbortTrans)
    ∷ (codes "INQUIRE", Inquire)
    ∷ (codes "DECLARE_RM", DeclareRm)
    ∷ (codes "JOIN_RM", JoinRm)
    ∷ (codes "ACK_EVENT", AckEvent)
    ∷ (codes "FORGET_RM", ForgetRm)
    ∷ (codes "GETDTI", GetDti)
    ∷ (codes "LMCP", Lmcp)
    ∷ (codes "DUMP", Dump)
    ∷ (codes "DUMP_JOURNAL", DumpJournal)
    ∷ (codes "BACKUP", Backup)
    ∷ (codes "RECOVER", Recover)
    ∷ []

-- those of the world
abbrev pub world_verbs : List (List ℕ × WorldVerb)
world_verbs =
    (codes "FUSE", Fuse)
    ∷ (codes "CRASH", Crash)
    ∷ (codes "CLOCK", Clock)
    ∷ (codes "DELIVER", Deliver)
    ∷ (codes "LINKDOWN", LinkDown)
    ∷ (codes "SETTLE", Settle)
    ∷ []

-- the organizations as they are written
abbrev pub organizations : List (List ℕ × Organization)
organizations = (codes "SEQ", Sequential) ∷ (codes "REL", Relative) ∷ (codes "IDX", Indexed) ∷ []

-- the word that names the journal of recovery units of a volume, as it is kept
abbrev pub units_word : List ℕ
units_word = codes "RU"

-- the journals of a file as they are written
abbrev pub sides : List (List ℕ × Side)
sides = (codes "AI", AfterImages) ∷ (codes "BI", BeforeImages) ∷ []

-- what a file may be marked with: all that is said of it, or a journal whose blocks are said behind it
pub data Mark : Type 0 where
  Whole : Setting → Mark
  OfBlocks : Side → Mark

-- those as they are written
abbrev pub settings : List (List ℕ × Mark)
settings =
    (codes "RU", Whole RecoveryUnits)
    ∷ (codes "NORU", Whole NoRecoveryUnits)
    ∷ (codes "AI", OfBlocks AfterImages)
    ∷ (codes "NOAI", Whole (NoImages AfterImages))
    ∷ (codes "BI", OfBlocks BeforeImages)
    ∷ (codes "NOBI", Whole (NoImages BeforeImages))
    ∷ []

-- the directions of a recovery, by the images that it takes, as they are written
abbrev pub directions : List (List ℕ × Side)
directions = (codes "FORWARD", AfterImages) ∷ (codes "BACKWARD", BeforeImages) ∷ []

-- the word before the moment of a recovery
pub data UntilWord : Type 0 where
  Until : UntilWord

-- that as it is written
abbrev pub until_words : List (List ℕ × UntilWord)
until_words = (codes "UNTIL", Until) ∷ []

-- the word before the seconds that a transaction is given
pub data TimeoutWord : Type 0 where
  Timeout : TimeoutWord

-- that as it is written
abbrev pub timeout_words : List (List ℕ × TimeoutWord)
timeout_words = (codes "TIMEOUT", Timeout) ∷ []

-- what is shown of a transaction log: how many records it has, or the records
pub data LogWord : Type 0 where
  Show : LogWord
  Dumped : LogWord

-- those as they are written
abbrev pub log_words : List (List ℕ × LogWord)
log_words = (codes "SHOW", Show) ∷ (codes "DUMP", Dumped) ∷ []

-- the replies of resource managers as they are written
abbrev pub replies : List (List ℕ × Reply)
replies =
    (codes "SS$_PREPARED", PreparedReply)
    ∷ (codes "SS$_FORGET", ForgetReply)
    ∷ (codes "SS$_VETO", VetoReply)
    ∷ (codes "SS$_REMEMBER", RememberReply)
    ∷ (codes "SS$_NORMAL", NormalReply)
    ∷ []

-- what a word may be: the first of a line, a verb, a node, a label, a label or none, a label or a serial, a resource manager, its reply, a file, an organization, a
-- setting, a journal of a file, the direction of a recovery, what is shown of a log, a number of 32 or 64 bits, bytes, a key, a time, the word before seconds, or that
-- before a recovery's moment
pub data Kind : Type 0 where
  AFirst : Kind
  AVerb : Kind
  ANode : Kind
  ALabel : Kind
  ALabelOrNone : Kind
  ABranch : Kind
  AManager : Kind
  AReply : Kind
  AFile : Kind
  AnOrganization : Kind
  ASetting : Kind
  ASide : Kind
  ADirection : Kind
  ALogWord : Kind
  ANumber : Kind
  ALongNumber : Kind
  SomeBytes : Kind
  AKey : Kind
  ATime : Kind
  ATimeout : Kind
  AnUntil : Kind

-- what such a word says
abbrev pub Meaning : Kind → Type 0
Meaning AFirst = First
Meaning AVerb = Verb
Meaning ANode = List ℕ
Meaning ALabel = List ℕ
Meaning ALabelOrNone = Option (List ℕ)
Meaning ABranch = Named
Meaning AManager = List ℕ
Meaning AReply = Reply
Meaning AFile = List ℕ
Meaning AnOrganization = Organization
Meaning ASetting = Mark
Meaning ASide = Side
Meaning ADirection = Side
Meaning ALogWord = LogWord
Meaning ANumber = ℕ
Meaning ALongNumber = ℕ
Meaning SomeBytes = List ℕ
Meaning AKey = KeyWord
Meaning ATime = ℕ
Meaning ATimeout = TimeoutWord
Meaning AnUntil = UntilWord

-- a node and a colon behind it, or a verb of the world
abbrev pub first_said : List ℕ → Option First
first_said text = elim (prefix_said text) [ Some node ↦ Some (ToNode node) | None ↦ option_map ToWorld (among world_verbs text) ]

-- a label, or a dash where there is none
abbrev pub label_or_none : List ℕ → Option (Option (List ℕ))
label_or_none text = if bytes_eq text (codes "-") then Some None else option_map Some (label_named text)

-- what this text says as a word of this kind, where it is one
abbrev pub meaning : (k : Kind) → List ℕ → Option (Meaning k)
meaning AFirst text = first_said text
meaning AVerb text = among verbs text
meaning ANode text = node_named text
meaning ALabel text = label_named text
meaning ALabelOrNone text = label_or_none text
meaning ABranch text = branch_said text
meaning AManager text = label_named text
meaning AReply text = among replies text
meaning AFile text = file_named text
meaning AnOrganization text = among organizations text
meaning ASetting text = among settings text
meaning ASide text = among sides text
meaning ADirection text = among directions text
meaning ALogWord text = among log_words text
meaning ANumber text = number_up_to 4294967295 text
meaning ALongNumber text = number_up_to 18446744073709551615 text
meaning SomeBytes text = bytes_said text
meaning AKey text = key_word_said text
meaning ATime text = time_word_said text
meaning ATimeout text = among timeout_words text
meaning AnUntil text = among until_words text

-- the words that a line still wants: none, and the line says this; a word of this kind, and then those that its meaning asks for;
-- none or these; or a word of this kind which may not stand last where this holds of its meaning, and then those that it asks for
pub data Shape : Type 0 where
  Ends : Statement → Shape
  Then : (k : Kind) → (Meaning k → Shape) → Shape
  EndsOr : Statement → Shape → Shape
  ThenMore : (k : Kind) → (not_last : Meaning k → Bool) → (Meaning k → Shape) → Shape

-- what words say in a shape: bad at the first word that cannot stand there, or behind the line where a word is missing
abbrev pub reads : Shape → List Word → ℕ → Reading
reads (Ends s) [] end = says.Says s
reads (Ends s) (w ∷ ws) end = says.Bad w.column
reads (Then k next) [] end = says.Bad end
reads (Then k next) (w ∷ ws) end = elim (meaning k w.text) [ Some m ↦ reads (next m) ws end | None ↦ says.Bad w.column ]
reads (EndsOr s shape) [] end = says.Says s
reads (EndsOr s shape) (w ∷ ws) end = reads shape (w ∷ ws) end
reads (ThenMore k not_last next) [] end = says.Bad end
reads (ThenMore k not_last next) (w ∷ ws) end = elim (meaning k w.text) [ Some m ↦ (if is_empty ws && not_last m then says.Bad w.column else reads (next m) ws end) | None ↦ says.Bad w.column ]

-- the log slots and the journal's blocks of a volume for which none are said
abbrev pub default_slots : ℕ
default_slots = 128

abbrev pub default_journal : ℕ
default_journal = 1024

-- the operands behind the count of a new file's buckets or records
abbrev pub form_operands : List ℕ → List ℕ → Organization → (bucket size count : ℕ) → Shape
form_operands n f Sequential bucket size count = Ends (says.At n (says.Create f bucket size (says.Sequential count)))
form_operands n f Relative bucket size count = Ends (says.At n (says.Create f bucket size (says.Relative count)))
form_operands n f Indexed bucket size count = Then ANumber λ position. Then ANumber λ key_size. Ends (says.At n (says.Create f bucket size (says.Indexed count position key_size)))

-- an operation that a label's branch is asked for, or that is done for itself where there is no label
abbrev pub asked : List ℕ → Option (List ℕ) → List ℕ → says.Operation → Statement
asked n (Some l) f op = says.At n (says.Records l f op)
asked n None f op = says.At n (says.Direct f op)

-- the operands behind the first word that is put: a number has a record behind it, and bytes are the record
abbrev pub put_operands : List ℕ → Option (List ℕ) → List ℕ → KeyWord → Shape
put_operands n l f (Numbered number) = Then SomeBytes λ bytes. Ends (asked n l f (says.Put (Some number) bytes))
put_operands n l f (Spelled bytes) = Ends (asked n l f (says.Put None bytes))

-- what is asked of a transaction log
abbrev pub log_asked : LogWord → says.Request
log_asked Show = says.LmcpShow
log_asked Dumped = says.LmcpDump

-- what a file is marked with: a journal that begins has its blocks behind it
abbrev pub mark_operands : List ℕ → List ℕ → Mark → Shape
mark_operands n f (Whole setting) = Ends (says.At n (says.SetFile f setting))
mark_operands n f (OfBlocks side) = Then ANumber λ blocks. Ends (says.At n (says.SetFile f (says.Images side blocks)))

-- a word that names a journal of a file: it is no file where it stands last
abbrev pub is_side : List ℕ → Bool
is_side f = is_some (among sides f)

-- the journal of a file is shown
abbrev pub image_operands : List ℕ → List ℕ → Shape
image_operands n f = Then ASide λ side. Ends (says.At n (says.DumpImages f side))

-- The word behind the verb is the journal of recovery units where it stands alone, and else a file.
abbrev pub journal_operands : List ℕ → List ℕ → Shape
journal_operands n f = if bytes_eq f units_word then EndsOr (says.At n says.DumpJournal) (image_operands n f) else image_operands n f

-- forward without a moment, or to one; backward always to one
abbrev pub direction_operands : List ℕ → List ℕ → Side → Shape
direction_operands n f AfterImages = EndsOr (says.At n (says.Recover f (says.Forward None))) (Then AnUntil λ u. Then ATime λ until. Ends (says.At n (says.Recover f (says.Forward (Some until)))))
direction_operands n f BeforeImages = Then AnUntil λ u. Then ATime λ until. Ends (says.At n (says.Recover f (says.Backward until)))

-- the operands of each verb, and the statement to this node that they make
abbrev pub operands : List ℕ → Verb → Shape
operands n Init = EndsOr (says.At n (says.Init default_slots default_journal)) (Then ANumber λ slots. Then ANumber λ blocks. Ends (says.At n (says.Init slots blocks)))
operands n Boot = Ends (says.At n says.Boot)
operands n Create = Then AFile λ f. Then AnOrganization λ o. Then ANumber λ bucket. Then ANumber λ size. Then ANumber λ count. form_operands n f o bucket size count
operands n SetFile = Then AFile λ f. Then ASetting λ mark. mark_operands n f mark
operands n StartTrans = Then ALabel λ l. EndsOr (says.At n (says.StartTrans l None)) (Then ATimeout λ t. Then ANumber λ seconds. Ends (says.At n (says.StartTrans l (Some seconds))))
operands n AddBranch = Then ALabel λ l. Then ANode λ other. Then ALabel λ new. Ends (says.At n (says.AddBranch l other new))
operands n StartBranch = Then ALabel λ l. Ends (says.At n (says.StartBranch l))
operands n Put = Then ALabelOrNone λ l. Then AFile λ f. Then AKey λ k. put_operands n l f k
operands n Update = Then ALabelOrNone λ l. Then AFile λ f. Then AKey λ k. Then SomeBytes λ bytes. Ends (asked n l f (says.Update (key_of k) bytes))
operands n Delete = Then ALabelOrNone λ l. Then AFile λ f. Then AKey λ k. Ends (asked n l f (says.Delete (key_of k)))
operands n Truncate = Then ALabelOrNone λ l. Then AFile λ f. Then ANumber λ k. Ends (asked n l f (says.Truncate k))
operands n Get = Then ALabelOrNone λ l. Then AFile λ f. Then AKey λ k. Ends (asked n l f (says.Get (key_of k)))
operands n Next = Then ALabelOrNone λ l. Then AFile λ f. EndsOr (asked n l f (says.Next None)) (Then AKey λ k. Ends (asked n l f (says.Next (Some (key_of k)))))
operands n EndBranch = Then ALabel λ l. Ends (says.At n (says.EndBranch l))
operands n EndTrans = Then ALabel λ l. Ends (says.At n (says.EndTrans l))
operands n AbortTrans = Then ALabel λ l. Ends (says.At n (says.AbortTrans l))
operands n Inquire = Then ABranch λ b. Ends (says.At n (says.Inquire b))
operands n DeclareRm = Then AManager λ rm. Ends (says.At n (says.DeclareRm rm))
operands n JoinRm = Then ALabel λ l. Then AManager λ rm. Ends (says.At n (says.JoinRm l rm))
operands n AckEvent = Then ABranch λ b. Then AManager λ rm. Then AReply λ reply. Ends (says.At n (says.AckEvent b rm reply))
operands n ForgetRm = Then AManager λ rm. Ends (says.At n (says.ForgetRm rm))
operands n GetDti = Then ABranch λ b. Ends (says.At n (says.GetDti b))
operands n Lmcp = Then ALogWord λ w. Ends (says.At n (log_asked w))
operands n Dump = Then AFile λ f. Ends (says.At n (says.Dump f))
operands n DumpJournal = ThenMore AFile is_side λ f. journal_operands n f
operands n Backup = Then AFile λ f. Ends (says.At n (says.Backup f))
operands n Recover = Then AFile λ f. Then ADirection λ side. direction_operands n f side

-- those of each verb of the world
abbrev pub world_operands : WorldVerb → Shape
world_operands Fuse = Then ANode λ n. Then ANumber λ writes. Then ALongNumber λ choice. Ends (says.At n (says.Fuse writes choice))
world_operands Crash = Then ANode λ n. Ends (says.At n says.Crash)
world_operands Clock = Then ANode λ n. Then ATime λ now. Ends (says.At n (says.Clock now))
world_operands Deliver = Then ANumber λ number. Ends (says.Deliver number)
world_operands LinkDown = Then ANode λ a. Then ANode λ b. Ends (says.LinkDown a b)
world_operands Settle = Ends says.Settle

-- what comes behind the first word
abbrev pub behind_first : First → Shape
behind_first (ToNode n) = Then AVerb λ v. operands n v
behind_first (ToWorld v) = world_operands v

-- a statement
abbrev pub line_shape : Shape
line_shape = Then AFirst behind_first

-- a line is skipped that has no word, or whose first word begins with an exclamation mark
abbrev pub is_skipped : List Word → Bool
is_skipped [] = true
is_skipped (w ∷ ws) = elim w.text [ [] ↦ false | b ∷ bs ↦ b == 33 ]

-- what a line says
abbrev pub reading : List ℕ → Reading
reading line = if is_skipped (words_of line).words then says.Blank else reads line_shape (words_of line).words (words_of line).end
