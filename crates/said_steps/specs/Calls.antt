-- Which statements arm the disk of a node, or make it run again, by their lines and by what was said before.
use Rattle.std.specs.Prelude.{◌≡◌, ◌&&◌, ◌||◌, not, ℕ, List, [], ◌∷◌, ◌++◌, Bool, true, false, Option, Some, None, if◌then◌else◌}
use Rattle.std.specs.List.{last_or, list_any}
use Rattle.std.specs.Str.{bytes_eq}
use Rattle.block_disk.specs.Disk.{CallLog, noted}
use Rattle.block_disk.specs.declared.disk.DiskCall.TheVariants as disk_call
use Rattle.run_said.specs.transcript_model.Lines as line
use Rattle.run_said.specs.transcript_model.Lines.{Line}
use Rattle.run_said.specs.script_model.Statements.{At, Boot, Deliver, Fuse, Init, LinkDown, Request, Settle, Statement}
use Rattle.run_said.specs.Said.{Said, SaidNode, node_in}
use Rattle.run_said.specs.run_model.Statements.{message_at}

-- whether a name is one of these
abbrev pub is_named : List ℕ → List (List ℕ) → Bool
is_named name names = list_any (bytes_eq name) names

-- The nodes that a statement speaks to, which alone it may use the disks of.
abbrev pub spoken_to : Said → Statement → List (List ℕ)
spoken_to said (At node request) = node ∷ []
spoken_to said (Deliver number) = elim (message_at number said.shared.wire) [ Some m ↦ m.to ∷ [] | None ↦ [] ]
spoken_to said (LinkDown a b) = a ∷ b ∷ []
spoken_to said Settle = names said.nodes
  where
    names : List SaidNode → List (List ℕ)
    names [] = []
    names (n ∷ ns) = n.name ∷ names ns

-- Whether a request that was answered so made its disk run again: an INIT or a BOOT that succeeded or in which the disk failed or was stopped, and a BOOT
-- that was refused by what the disk has or by a quota.
abbrev pub has_powered : Request → Line → Bool
has_powered (Init slots journal) line.Normal = true
has_powered (Init slots journal) (line.Broken cause) = true
has_powered Boot (line.NormalCount boot) = true
has_powered Boot (line.Broken cause) = true
has_powered Boot (line.NoVolume node condition block) = true
has_powered Boot (line.QuotaExceeded quota limit) = true
has_powered request answer = false

-- whether an answer refuses a boot once its disk runs again: by what the disk has, or by a quota
abbrev pub is_boot_refusal : Line → Bool
is_boot_refusal (line.NoVolume node condition block) = true
is_boot_refusal (line.QuotaExceeded quota limit) = true
is_boot_refusal answer = false

-- whether these lines show that a node of this name came up in a settling
abbrev pub shows_boot : List ℕ → List Line → Bool
shows_boot name [] = false
shows_boot name (line.Booted node boot ∷ ls) = if bytes_eq name node then true else shows_boot name ls
shows_boot name (l ∷ ls) = shows_boot name ls

-- The disk of a node that a settling was to boot and that did not come up was made to run again, unless memory was missing.
abbrev pub tried_last : List ℕ → Option Line → List (List ℕ)
tried_last name (Some line.NoMemory) = []
tried_last name answer = name ∷ []

-- The nodes whose disks a settling made run again: those that were down, one after another, up to the first that did not come up. One for which an INIT failed is
-- none of them.
abbrev pub restarted : List SaidNode → List Line → List (List ℕ)
restarted [] lines = []
restarted (n ∷ ns) lines =
    if n.up then restarted ns lines
    else (if n.unmade then []
    else (if shows_boot n.name lines then n.name ∷ restarted ns lines
    else tried_last n.name (last_or None lines)))

-- the nodes whose disks a statement made run again, by what was said before and what it showed
abbrev pub powered_by : Said → Statement → List Line → List (List ℕ)
powered_by said (At node request) lines = elim (last_or None lines) [ Some answer ↦ (if has_powered request answer then node ∷ [] else []) | None ↦ [] ]
powered_by said (Deliver number) lines = []
powered_by said (LinkDown a b) lines = []
powered_by said Settle lines = restarted said.nodes lines

-- the calls of a disk with one that arms it, where a statement does
abbrev pub armed_by : List ℕ → Statement → Option Line → CallLog → CallLog
armed_by name (At node (Fuse writes choice)) (Some line.Normal) calls = if bytes_eq name node then noted (disk_call.Arm writes choice) calls else calls
armed_by name s answer calls = calls

-- the calls of the disk of the node of this name after a statement, which began with so many stops of the disk
abbrev pub calls_after : List ℕ → Said → Statement → List Line → ℕ → CallLog → CallLog
calls_after name said s lines stops calls = if is_named name (powered_by said s lines) then noted (disk_call.Power stops) calls else armed_by name s (last_or None lines) calls

-- whether the node of this name was down
abbrev pub was_down : List ℕ → Said → Bool
was_down name said = elim (node_in name said.nodes) [ Some n ↦ not n.up | None ↦ false ]

abbrev pub refuses_boot : Option Line → Bool
refuses_boot (Some answer) = is_boot_refusal answer
refuses_boot None = false

-- whether a statement that made the disk of the node of this name run again used it then: not where its boot was refused by what it has or by a quota
abbrev pub has_used : List ℕ → Said → Statement → List Line → Bool
has_used name said s lines = is_named name (powered_by said s lines) && (shows_boot name lines || not (refuses_boot (last_or None lines)))

-- Each of these nodes was up, or it was down, came up and showed it in these lines.
abbrev pub CameUp : List SaidNode → List Line → Type 0
CameUp [] lines = Unit {0}
CameUp (n ∷ ns) lines = (n.up ≡ false → (n.unmade ≡ false) × (shows_boot n.name lines ≡ true)) × CameUp ns lines

-- the names of those that were down
abbrev pub down_names : List SaidNode → List (List ℕ)
down_names [] = []
down_names (n ∷ ns) = if n.up then down_names ns else n.name ∷ down_names ns

-- no two of these nodes have one name
abbrev pub NamesDiffer : List SaidNode → Type 0
NamesDiffer [] = Unit {0}
NamesDiffer (n ∷ ns) = (node_in n.name ns ≡ None) × NamesDiffer ns

-- whether the disk of a node that did not come up was made to run again, by what ended the settling
abbrev pub is_tried : Option Line → Bool
is_tried (Some line.NoMemory) = false
is_tried answer = true

-- Where each came up, the disks of those were made to run again that were down;
abbrev pub AllRestarted : Type 0
AllRestarted = (ns : List SaidNode) (lines : List Line) → CameUp ns lines → restarted ns lines ≡ down_names ns

-- and where each came up in front of one that did not, those in front, and that one unless an INIT of it failed or memory was missing.
abbrev pub SomeRestarted : Type 0
SomeRestarted = (front : List SaidNode) (n : SaidNode) (back : List SaidNode) (lines : List Line) → CameUp front lines → n.up ≡ false → shows_boot n.name lines ≡ false →
    restarted (front ++ n ∷ back) lines ≡ down_names front ++ (if n.unmade then [] else tried_last n.name (last_or None lines))
