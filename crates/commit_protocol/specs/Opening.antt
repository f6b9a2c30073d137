-- Images that a run begins with, and when they agree.
use Rattle.std.specs.Prelude.{is_some, ℕ, ◌≡◌, ◌≤◌, Bool, true, false, List, [], ◌∷◌, ◌++◌, Option, Some, None, ◌⊎◌, if◌then◌else◌}
use Rattle.std.specs.List.{list_any}
use Rattle.vms_model.specs.Ids.{Id}
use Rattle.vms_model.specs.Transactions.{Outcome, Commit as ToCommit, Abort as ToAbort}
use Rattle.commit_protocol.specs.Messages.{Name, LogRecord, same_name}
use Rattle.commit_protocol.specs.Table.{Key, first, child, home_of, coordinator_of, same_key, record_key, record_serials, branches_of, prepared_records}
use Rattle.commit_protocol.specs.World.{World, Node, In, units_of}
use Rattle.commit_protocol.specs.Agreement.{Distinct}

-- of one volume: its boot count, its last settlement, the prepared and the committed records of its log, and the unsettled units of its journal that have no
-- Prepared entry
pub record Image : Type 0 where
  pub boot : ℕ
  pub last : Option (Key × Outcome)
  pub prepared : List LogRecord
  pub committed : List LogRecord
  pub units : List Key

-- the nodes of the rack, each with its image
pub record Opening : Type 0 where
  pub images : List (Name × Image)

-- the image that stands first under this name
abbrev pub image_in : Name → List (Name × Image) → Option Image
image_in n [] = None
image_in n (p ∷ ps) = if same_name p.0 n then Some p.1 else image_in n ps

-- the node is in the rack
abbrev pub in_rack : Opening → Name → Bool
in_rack o n = is_some (image_in n o.images)

-- the image of a volume on which nothing ever happened
abbrev pub no_image : Image
no_image = record { boot = 0; last = None; prepared = []; committed = []; units = [] }

-- the image, or that of nothing
abbrev pub or_none : Option Image → Image
or_none None = no_image
or_none (Some i) = i

-- the image of a node of the rack; another node has none
abbrev pub image_at : Opening → Name → Image
image_at o n = or_none (image_in n o.images)

-- the node is down, with its prepared branches as their records tell them
abbrev pub node_of : Image → Node
node_of i = record { up = false; boot = i.boot; seq = 0; table = branches_of i.prepared; records = i.committed; lost = i.units; last = i.last }

-- the branch has a prepared record at its node
abbrev pub PreparedIn : Opening → Key → Type 0
PreparedIn o k = (r : LogRecord) × In r (image_at o (home_of k)).prepared × (record_key r ≡ k)

-- a committed record of this node waits for it
abbrev pub WaitsIn : Opening → Name → Key → Type 0
WaitsIn o n k = (r : LogRecord) × In r (image_at o n).committed × (r.tid ≡ k.tid) × In k.serial r.waiting

-- a committed record of some node waits for it
abbrev pub WaitedFor : Opening → Key → Type 0
WaitedFor o k = (n : Name) × WaitsIn o n k

-- an image shows it as last settled so
abbrev pub LastIn : Opening → Key → Outcome → Type 0
LastIn o k out = (n : Name) × ((image_at o n).last ≡ Some (k, out))

-- an image shows a commit of the transaction, by a last settlement or by a record
abbrev pub Shows : Opening → Id → Type 0
Shows o t = ((k : Key) × LastIn o k ToCommit × (k.tid ≡ t)) ⊎ ((n : Name) × ((r : LogRecord) × In r (image_at o n).committed × (r.tid ≡ t)))

-- an id of a node of the rack has a boot that this node has reached
abbrev pub OldIn : Opening → Id → Type 0
OldIn o i = in_rack o i.node ≡ true → i.boot ≤ (image_at o i.node).boot

-- the branch's two ids are reached
pub record OldKey (o : Opening) (k : Key) : Type 0 where
  pub tid : OldIn o k.tid
  pub serial : OldIn o k.serial

-- no two of these records are of one branch
abbrev pub DistinctKeys : List LogRecord → Type 0
DistinctKeys [] = Unit {0}
DistinctKeys (r ∷ rs) = ((q : LogRecord) → In q rs → record_key q ≡ record_key r → ⊥) × DistinctKeys rs

-- the serials of a log: those of its prepared and of its committed records
abbrev pub log_serials : Image → List Id
log_serials i = record_serials i.prepared ++ record_serials i.committed

-- The images agree, as far as the table goes.
pub record IsAgreeing (o : Opening) : Type 0 where
  -- of each volume: the records of its log and its units are of its own serials, no serial has two records, and a unit without a Prepared entry has none
  pub own_prepared : (n : Name) (r : LogRecord) → In r (image_at o n).prepared → r.serial.node ≡ n
  pub own_committed : (n : Name) (r : LogRecord) → In r (image_at o n).committed → r.serial.node ≡ n
  pub own_units : (n : Name) (k : Key) → In k (image_at o n).units → home_of k ≡ n
  pub distinct : (n : Name) → Distinct (log_serials (image_at o n))
  pub unprepared : (n : Name) (k : Key) → In k (image_at o n).units → PreparedIn o k → ⊥
  -- for each prepared branch whose coordinator is in the rack, a committed record of that coordinator waits for it, or no image shows a commit of its transaction
  pub owed : (k : Key) → PreparedIn o k → in_rack o (coordinator_of k) ≡ true → WaitsIn o (coordinator_of k) k ⊎ (Shows o k.tid → ⊥)
  -- no image shows a branch that a committed record waits for as last aborted, or as an unsettled unit without a Prepared entry
  pub waited_last : (k : Key) → WaitedFor o k → LastIn o k ToAbort → ⊥
  pub waited_unit : (n : Name) (k : Key) → WaitedFor o k → In k (image_at o n).units → ⊥
  -- likewise the first branch of a transaction of which an image shows a commit
  pub first_last : (t : Id) → Shows o t → LastIn o (first t) ToAbort → ⊥
  pub first_unit : (n : Name) (t : Id) → Shows o t → In (first t) (image_at o n).units → ⊥
  -- no volume shows its last settled branch as an unsettled unit or in a prepared record
  pub last_unit : (n : Name) (k : Key) (out : Outcome) → (image_at o n).last ≡ Some (k, out) → In k (image_at o n).units → ⊥
  pub last_prepared : (n : Name) (r : LogRecord) (out : Outcome) → (image_at o n).last ≡ Some (record_key r, out) → In r (image_at o n).prepared → ⊥
  -- each id of a node of the rack has a boot of at most that node's boot count
  pub old_prepared : (n : Name) (r : LogRecord) → In r (image_at o n).prepared → OldKey o (record_key r)
  pub old_waited : (k : Key) → WaitedFor o k → OldKey o k
  pub old_committed : (n : Name) (r : LogRecord) → In r (image_at o n).committed → OldKey o (record_key r)
  pub old_last : (k : Key) (out : Outcome) → LastIn o k out → OldKey o k
  pub old_unit : (n : Name) (k : Key) → In k (image_at o n).units → OldKey o k

-- What the images show, gathered over the rack.
abbrev pub gather : {A : Type 0} → (Name → Image → List A) → Opening → List (Name × Image) → List A
gather part o [] = []
gather part o (p ∷ ps) = part p.0 (image_at o p.0) ++ gather part o ps

-- the branches of these records
abbrev pub record_keys : List LogRecord → List Key
record_keys [] = []
record_keys (r ∷ rs) = record_key r ∷ record_keys rs

-- the branches of a transaction that have these serials
abbrev pub waiting_keys : Id → List Id → List Key
waiting_keys t [] = []
waiting_keys t (s ∷ ss) = child t s ∷ waiting_keys t ss

-- the branches that these records wait for
abbrev pub waited_keys : List LogRecord → List Key
waited_keys [] = []
waited_keys (r ∷ rs) = waiting_keys r.tid r.waiting ++ waited_keys rs

-- the branches that an image shows accepted: prepared, or waited for
abbrev pub shown_accepted : Name → Image → List Key
shown_accepted n i = record_keys i.prepared ++ waited_keys i.committed

-- the branches that the images show accepted
abbrev pub accepted_in : Opening → List Key
accepted_in o = gather shown_accepted o o.images

-- a node's last settlement, where it is of this node's own branch
abbrev pub own_last : Name → Option (Key × Outcome) → List (Key × Outcome)
own_last n None = []
own_last n (Some p) = if same_name (home_of p.0) n then p ∷ [] else []

-- one of these records is of the branch
abbrev pub has_prepared : Key → List LogRecord → Bool
has_prepared k rs = list_any (λ r. same_key (record_key r) k) rs

-- a branch that a record waits for, and that no image has prepared, counts as committed
abbrev pub counted : Opening → List Key → List (Key × Outcome)
counted o [] = []
counted o (k ∷ ks) = if has_prepared k (image_at o (home_of k)).prepared then counted o ks else (k, ToCommit) ∷ counted o ks

-- what an image shows settled: its last settlement, and what its records count as committed
abbrev pub shown_settled : Opening → Name → Image → List (Key × Outcome)
shown_settled o n i = own_last n i.last ++ counted o (waited_keys i.committed)

-- the settlements of other branches
abbrev pub without_key : Key → List (Key × Outcome) → List (Key × Outcome)
without_key k [] = []
without_key k (p ∷ ps) = if same_key p.0 k then without_key k ps else p ∷ without_key k ps

-- each branch once
abbrev pub settled_once : List (Key × Outcome) → List (Key × Outcome)
settled_once [] = []
settled_once (p ∷ ps) = p ∷ without_key p.0 (settled_once ps)

-- the settlements that the images show
abbrev pub settled_in : Opening → List (Key × Outcome)
settled_in o = settled_once (gather (shown_settled o) o o.images)

-- the transaction of a last settlement by commit
abbrev pub last_commit : Option (Key × Outcome) → List Id
last_commit (Some (k, ToCommit)) = k.tid ∷ []
last_commit _ = []

-- the transactions of these records
abbrev pub record_tids : List LogRecord → List Id
record_tids [] = []
record_tids (r ∷ rs) = r.tid ∷ record_tids rs

-- the transactions of which an image shows a commit
abbrev pub shown_commits : Name → Image → List Id
shown_commits n i = last_commit i.last ++ record_tids i.committed

-- the transactions of which the images show a commit
abbrev pub commits_in : Opening → List Id
commits_in o = gather shown_commits o o.images

-- the world with every node down
abbrev pub opened : Opening → World
opened o = record { rack = in_rack o; nodes = λ n. node_of (image_at o n); sent = []; accepted = accepted_in o; read_only = []; settled = settled_in o; shown = commits_in o; labels = []; made = [] }

-- the images that these nodes leave, whether they are up or down
abbrev pub image_left : Node → Image
image_left x = record { boot = x.boot; last = x.last; prepared = prepared_records x.table; committed = x.records; units = units_of x.table ++ x.lost }

-- the images that the nodes of these names leave
abbrev pub images_left : World → List (Name × Image) → List (Name × Image)
images_left w [] = []
images_left w (p ∷ ps) = (p.0, image_left (w.nodes p.0)) ∷ images_left w ps

-- the opening that a world leaves for the next run
abbrev pub left : World → Opening → Opening
left w o = record { images = images_left w o.images }

-- volumes that were just made: nothing was booted, settled or logged
abbrev pub new_images : List Name → List (Name × Image)
new_images [] = []
new_images (n ∷ ns) = (n, no_image) ∷ new_images ns

-- a rack of such volumes
abbrev pub new_volumes : List Name → Opening
new_volumes nodes = record { images = new_images nodes }

-- the same records of distinct branches, in whatever order
pub record AreRearranged (ps qs : List LogRecord) : Type 0 where
  pub distinct : DistinctKeys ps
  pub there : (r : LogRecord) → In r ps → In r qs
  pub back : (r : LogRecord) → In r qs → In r ps
