-- What is kept of a node, with what its lines told, wherever a task is cut: a scheme for what is known of a node that is up, of a disk, and of a boot under way.
use Rattle.std.proofs.Common.{◌≡◌, ℕ, ◌+◌, zero, suc, append-nil, List, [], ◌∷◌, ◌++◌, map, take, drop, Bool, true, false, not, ◌||◌, Option, Some, None, if◌then◌else◌, refl, sym, subst, ◌∙◌, ap}
use Rattle.std.specs.Prelude.{is_some}
use Rattle.std.specs.List.{AllByRecursion}
use Rattle.std.proofs.lemmas.Bool.{both_ways, false_from_ne_true}
use Rattle.vms_model.specs.Ids.{Id}
use Rattle.vms_model.specs.Transactions.{Abort, SegFail}
use Rattle.run_said.specs.transcript_model.Lines as line
use Rattle.run_said.specs.transcript_model.Lines.{Line, Cause}
use Rattle.run_said.specs.script_model.Statements.{Request, Init, Boot, Create, SetFile, StartTrans, AddBranch, StartBranch, Records, Direct, EndBranch, EndTrans, AbortTrans, Inquire, DeclareRm, JoinRm, AckEvent, ForgetRm, GetDti, LmcpShow, LmcpDump, Dump, DumpJournal, DumpImages, Backup, Recover, Fuse, Crash, Clock}
use Rattle.unit_laws.specs.records_model.History.{same_id}
use Rattle.unit_laws.specs.Units.{Map}
use Rattle.unit_laws.specs.Journal.{Journal, RecoveryUnit, active_units, find_unit, units_in}
use Rattle.unit_laws.specs.JournalLaws.{HasSettled, is_unit}
use Rattle.commit_protocol.specs.World.{undo_all}
use Rattle.run_said.specs.run_model.World.{Shared, Node, Act, Arms, Boots, Clocks, ComesUp, Directs, Formats, Tables, Outturn, Lost, Taken, Half, MayTurnOut, Settlement, Unknown, aborted_prepared, acted, durable_after, fallen, is_durable, next_moment, powered, settlement_of, settled_more, unpowered, with_half}
use Rattle.run_said.specs.run_model.Operations.{first_of, refused_if}
use Rattle.run_said.specs.run_model.Answers.{Row, Service, Task, Serves, Ticks, Takes, Hears, LosesLink, RunsDown, Restarts, boot_rows, left_active, last_lines, prepared_lines, powers, refused_before_reading, service, settled_line, spoils, table_rows, task_service, touches, unit_key}
use Rattle.run_said.specs.run_model.Steps.{Choice, Cut, TaskAllowed, Unpowered, Whole, WithoutMemory, act_begun, begun, if_durable, lines_of_rows, node_after, node_after_rows, ready_node, rows_if, rows_to_cut, task_effect, whole, with_unknown_volume}
use Rattle.recovery_laws.specs.world_laws.Nodes.{AreKept, IsKeptDisk, IsKeptNode, IsOf, IsUp}
use Rattle.recovery_laws.proofs.world_laws.IdLemmas.{id_is, id_itself}
use Rattle.recovery_laws.proofs.world_laws.AnswerLemmas.{neither, not_refused}
use Rattle.recovery_laws.proofs.world_laws.ComeUp.{come_up}
use Rattle.recovery_laws.proofs.world_laws.FindLemmas.{some_is}
use Rattle.recovery_laws.proofs.world_laws.NodeLemmas.{IsReady, acted_name, powered_ready, rows_way}
use Rattle.recovery_laws.proofs.world_laws.Induction.{powered_name}
use Rattle.recovery_laws.proofs.world_laws.RestartLemmas.{AreActive, IsUnprepared, active_settled, are_active, first_active, has_settled, undone_unit}
use Rattle.recovery_laws.proofs.world_laws.UndoLemmas.{boot_kept, left_of}
use Rattle.recovery_laws.proofs.world_laws.UnitSets.{UnitsDiffer, found_active, none_is, units_differ}
use Rattle.run_laws.proofs.EachRow.{ArePlain, AreVoteless, is_plain}
use Rattle.run_said.proofs.Passing.{prepared_passes}
use Rattle.run_laws.proofs.RowFits.{EachFits, RowFits, free_after, task_fits}

-- The scheme.

-- What is told so far, and what lines tell more. What is known, by it, of a node while it is up, where perhaps the id that was drawn last is of no branch yet; of a
-- node's disk; of a node while it is booted; and, whatever is told, of one whose disk is to run again.
pub record Scheme : Type 1 where
  pub Told : Type 0
  pub more : List Line → Told → Told
  pub Up : Bool → Told → Node → Type 0
  pub Disk : Told → Node → Type 0
  pub Boots : Told → Node → Type 0
  pub Ready : Node → Type 0
  -- the acts of which this is said, and the requests that may have others
  pub Takes : Option Act → Type 0
  pub special : Request → Bool

-- acts of rows of which it is said
abbrev pub AllTake : Scheme → List Row → Type 0
AllTake t [] = Unit {0}
AllTake t (r ∷ rs) = t.Takes r.act × AllTake t rs

-- whether a task is such a request
abbrev pub is_special : Scheme → Task → Bool
is_special t (Serves r) = t.special r
is_special t _ = false

-- a unit that a boot undoes next
pub record IsNextUnit (n : Node) (u : RecoveryUnit) : Type 0 where
  pub kept : IsKeptDisk n
  pub there : is_unit u.serial n.durable.units ≡ true
  pub found : find_unit u.serial (units_in n.durable.units.entries) ≡ Some u
  pub unprepared : IsUnprepared n.durable.units u.serial
  pub of : IsOf n.name n.durable.boot u.serial

-- the branches that a boot of this node found prepared on its disk are told
pub record IsClosed (t : Scheme) (a : t.Told) (n : Node) : Type 0 where
  pub before : t.Told
  pub found : Node
  pub log : n.durable.log ≡ found.durable.log
  pub told : a ≡ t.more (prepared_lines found) before

-- what is known is kept act by act
pub record Keeps (t : Scheme) : Type 0 where
  pub none : (a : t.Told) → t.more [] a ≡ a
  pub append : (xs ys : List Line) (a : t.Told) → t.more (xs ++ ys) a ≡ t.more ys (t.more xs a)
  pub plain : (ls : List Line) (a : t.Told) → ArePlain ls → AreVoteless ls → t.more ls a ≡ a
  -- of a disk the name, what it has and the settlements matter alone
  pub same : (a : t.Told) (n m : Node) → m.name ≡ n.name → m.durable ≡ n.durable → m.settled ≡ n.settled → t.Disk a n → t.Disk a m
  -- rows while it is up, what is under way, and a fall
  pub row : (free : Bool) (r : Row) (n : Node) (a : t.Told) → t.Takes r.act → RowFits free r n → IsUp (node_after r.act n) → t.Up free a n → t.Up (free_after free r.act) (t.more r.lines a) (node_after r.act n)
  pub under : (free : Bool) (r : Row) (n : Node) (a : t.Told) (act : Act) → t.Takes r.act → RowFits free r n → r.act ≡ Some act → is_durable act ≡ true → IsUp (acted act n) → t.Up free a n → t.Disk a (acted act n)
  pub falls : (free : Bool) (a : t.Told) (n : Node) → IsUp n → t.Up free a n → t.Disk a n
  pub weaken : (free : Bool) (a : t.Told) (n : Node) → t.Up free a n → t.Up false a n
  -- a disk of which an abort was done in part, or of which nothing is known
  pub half : (a : t.Told) (n : Node) (standing : List ℕ → Map) → IsKeptDisk n → t.Ready n → MayTurnOut n (Half standing) → t.Disk a n → t.Disk a (record n { durable = with_half (aborted_prepared n.under_way n.durable) standing n.durable })
  pub spoils : (a : t.Told) (n : Node) → t.Disk a n → t.Disk a (record n { durable = record n.durable { volume = Unknown }; unmade = true })
  -- a boot
  pub boots : (a : t.Told) (n : Node) → IsKeptDisk n → t.Disk a n → t.Boots (t.more (last_lines n) a) (acted Boots n)
  pub booting : (a : t.Told) (n : Node) → IsKeptDisk n → t.Disk a n → t.Disk a (acted Boots n)
  pub undoes : (a : t.Told) (n : Node) (u : RecoveryUnit) → IsNextUnit n u → t.Boots a n → t.Boots (t.more (settled_line (unit_key u) Abort SegFail (next_moment n) ∷ []) a) (undone_unit n u)
  pub undoing : (a : t.Told) (n : Node) (u : RecoveryUnit) → IsNextUnit n u → t.Boots a n → t.Disk a (undone_unit n u)
  pub rests : (a : t.Told) (n : Node) → IsKeptDisk n → t.Boots a n → t.Disk a n
  -- a disk that is to run again, where nothing is under way, or what was before
  pub none_ready : (n : Node) → n.under_way ≡ None → t.Ready n
  pub same_ready : (n m : Node) → m.under_way ≡ n.under_way → t.Ready n → t.Ready m
  -- the branches that a boot found prepared on the disk are shown behind its rows
  pub closes : (a : t.Told) (n m : Node) → m.durable.log ≡ n.durable.log → IsUp (acted ComesUp m) → t.Boots a m → t.Boots (t.more (prepared_lines n) a) m
  pub comes : (a : t.Told) (n : Node) → IsUp (acted ComesUp n) → t.Boots a n → IsClosed t a n → t.Up false a (acted ComesUp n)

-- the units that a boot is still to undo
record AreLeft (us : List RecoveryUnit) (units : Journal) : Type 0 where
  active : AreActive us units
  there : (x : Id) → is_some (find_unit x us) ≡ true → is_unit x units ≡ true
  found : (x : Id) (v : RecoveryUnit) → find_unit x us ≡ Some v → find_unit x (units_in units.entries) ≡ Some v
  differ : UnitsDiffer us

none_active : (us : List RecoveryUnit) (x : Id) → find_unit x us ≡ None → find_unit x (active_units us) ≡ None
none_active us x e = none_is _ (false_from_ne_true _ (λ t. both_ways _ (ap is_some e) (found_active us x t)))

active_differ : (us : List RecoveryUnit) → UnitsDiffer us → UnitsDiffer (active_units us)
active_differ [] d = tt
active_differ (u ∷ us) d = go u.prepared (active_differ us d.1)
  where
    go : (b : Bool) → UnitsDiffer (active_units us) → UnitsDiffer (if b then active_units us else u ∷ active_units us)
    go true more = more
    go false more = (none_active us u.serial d.0, more)

-- each active unit is found among all
active_found : (us : List RecoveryUnit) → UnitsDiffer us → (x : Id) (v : RecoveryUnit) → find_unit x (active_units us) ≡ Some v → find_unit x us ≡ Some v
active_found [] d x v e = e
active_found (u ∷ us) d x v e = go u.prepared (active_found us d.1 x v) e
  where
    beside : find_unit x us ≡ Some v → (t : Bool) → same_id x u.serial ≡ t → (if t then Some u else find_unit x us) ≡ Some v
    beside f true t = let clash : ◌≡◌ {A = Option RecoveryUnit} None (Some v) = sym d.0 ∙ ap (λ y. find_unit y us) (sym (id_is x u.serial t)) ∙ f in let no : ⊥ = cc in absurd no
    beside f false t = f

    both : (find_unit x (active_units us) ≡ Some v → find_unit x us ≡ Some v) → (t : Bool) → (if t then Some u else find_unit x (active_units us)) ≡ Some v → (if t then Some u else find_unit x us) ≡ Some v
    both more true k = k
    both more false k = more k

    go : (b : Bool) → (find_unit x (active_units us) ≡ Some v → find_unit x us ≡ Some v) → find_unit x (if b then active_units us else u ∷ active_units us) ≡ Some v → find_unit x (u ∷ us) ≡ Some v
    go true more k = beside (more k) (same_id x u.serial) refl
    go false more k = both more (same_id x u.serial) k

left_first : (n : Node) → AreLeft (left_active n) n.durable.units
left_first n = record { active = are_active n; there = λ x e. found_active (units_in n.durable.units.entries) x e; differ = active_differ (units_in n.durable.units.entries) (units_differ n.durable.units.entries); found = λ x v e. active_found (units_in n.durable.units.entries) (units_differ n.durable.units.entries) x v e }

left_next : (u : RecoveryUnit) (us : List RecoveryUnit) (j new : Journal) → HasSettled u.serial j new → AreLeft (u ∷ us) j → AreLeft us new
left_next u us j new h l = record { active = active_settled u us j new h l.active; there = λ x e. go x e (same_id x u.serial) refl; differ = l.differ.1; found = λ x v e. still x v e (same_id x u.serial) refl }
  where
    go : (x : Id) → is_some (find_unit x us) ≡ true → (b : Bool) → same_id x u.serial ≡ b → is_unit x new ≡ true
    go x e true t = let clash : true ≡ false = sym e ∙ ap is_some (ap (λ y. find_unit y us) (id_is x u.serial t) ∙ l.differ.0) in let no : ⊥ = cc in absurd no
    go x e false t = ap is_some (h.others x t) ∙ l.there x (subst (λ b. is_some (if b then Some u else find_unit x us) ≡ true) (sym t) e)

    still : (x : Id) (v : RecoveryUnit) → find_unit x us ≡ Some v → (b : Bool) → same_id x u.serial ≡ b → find_unit x (units_in new.entries) ≡ Some v
    still x v e true t = let clash : ◌≡◌ {A = Option RecoveryUnit} None (Some v) = sym l.differ.0 ∙ ap (λ y. find_unit y us) (sym (id_is x u.serial t)) ∙ e in let no : ⊥ = cc in absurd no
    still x v e false t = h.others x t ∙ l.found x v (subst (λ b. (if b then Some u else find_unit x us) ≡ Some v) (sym t) e)

head_there : (u : RecoveryUnit) (us : List RecoveryUnit) (units : Journal) → AreLeft (u ∷ us) units → is_unit u.serial units ≡ true
head_there u us units l = l.there u.serial (ap is_some (ap (λ b. if b then Some u else find_unit u.serial us) (id_itself u.serial)))

-- What an act makes of name, disk and settlements.

abbrev pub settled_by : Act → List Settlement → List Settlement
settled_by (Tables a moment) ss = settled_more (settlement_of a moment) ss
settled_by (Directs file cs s) ss = s ∷ ss
settled_by _ ss = ss

pub acted_settled : (act : Act) (n : Node) → (acted act n).settled ≡ settled_by act n.settled
acted_settled (Tables a moment) n = refl
acted_settled (Directs file cs s) n = refl
acted_settled _ n = refl

pub acted_durable : (act : Act) (n : Node) → (acted act n).durable ≡ durable_after act n.volatile n.durable
acted_durable (Tables a moment) n = refl
acted_durable _ n = refl

-- a node is another in all that an act looks at
pub record IsLike (n m : Node) : Type 0 where
  pub name : m.name ≡ n.name
  pub durable : m.durable ≡ n.durable
  pub volatile : m.volatile ≡ n.volatile
  pub settled : m.settled ≡ n.settled

pub first_up : (free : Bool) (rs : List Row) (n : Node) → EachFits free rs n → IsUp n
first_up free [] n f = f
first_up free (r ∷ rs) n f = f.0.up

first_kept : (rs : List Row) (n : Node) → AreKept rs n → IsKeptDisk n
first_kept [] n h = h
first_kept (r ∷ rs) n h = h.0

-- the act of a row that was begun
pub begun_act : (o : Option Act) (act : Act) → if_durable o ≡ Some act → (o ≡ Some act) × (is_durable act ≡ true)
begun_act None act e = let no : ⊥ = cc in absurd no
begun_act (Some x) act e = go (is_durable x) refl e
  where
    go : (b : Bool) → is_durable x ≡ b → ◌≡◌ {A = Option Act} (if b then Some x else None) (Some act) → (Some x ≡ Some act) × (is_durable act ≡ true)
    go true d f = (f, ap is_durable (sym (some_is x act f)) ∙ d)
    go false d f = let no : ⊥ = cc in absurd no

pub nothing_more : (xs ys : List Line) → ys ≡ [] → xs ++ ys ≡ xs
nothing_more [] ys e = e
nothing_more (x ∷ xs) ys e = ap (λ zs. x ∷ zs) (nothing_more xs ys e)

-- The lines behind the rows of a boot: what is prepared, and perhaps that the node is up.
abbrev pub ClosesBoot : List Line → Node → Type 0
ClosesBoot ls n = (rest : List Line) × (ls ≡ prepared_lines n ++ rest) × ArePlain rest × AreVoteless rest

-- its rows leave the log
undo_log : (us : List RecoveryUnit) (s : Shared) (n : Node) → (node_after_rows (table_rows (undo_all (map unit_key us)) s n) n).durable.log ≡ n.durable.log
undo_log [] s n = refl
undo_log (u ∷ us) s n = undo_log us s (undone_unit n u)

boot_log : (s : Shared) (n : Node) → (node_after_rows (boot_rows s n) n).durable.log ≡ n.durable.log
boot_log s n = undo_log (left_active n) s (acted Boots n)

-- whether a task makes a volume
abbrev pub is_init : Task → Bool
is_init (Serves (Init slots journal)) = true
is_init _ = false

pub node_down : (n : Node) (rest : Option Line) → first_of (refused_if n.up line.NodeUp) rest ≡ None → n.up ≡ false
node_down n rest first = not_refused n.up line.NodeUp (neither (refused_if n.up line.NodeUp) rest first).0

pub behind_down : (n : Node) (e : Service) (s : Shared) → refused_before_reading s n e ≡ None → e.refused_before_reading s n ≡ None
behind_down n e s first = (neither (refused_if (not (n.up || e.while_down)) line.NodeDown) (e.refused_before_reading s n) first).1

module _ (t : Scheme) (k : Keeps t) where
  -- What is known of a node: of its disk, also where what is under way has taken place; and of the node while it is up.
  pub record Kept (a : t.Told) (n : Node) : Type 0 where
    pub disk : t.Disk a n
    pub way : (act : Act) → n.under_way ≡ Some act → t.Disk a (acted act n)
    pub runs : n.up ≡ true → t.Up false a n

  none_here : (a : t.Told) (n : Node) → t.Disk a n → t.Disk (t.more [] a) n
  none_here a n h = subst (λ b. t.Disk b n) (sym (k.none a)) h

  acted_like : (act : Act) (a : t.Told) (n m : Node) → IsLike n m → t.Disk a (acted act n) → t.Disk a (acted act m)
  acted_like act a n m like h = k.same a (acted act n) (acted act m) (acted_name act m ∙ like.name ∙ sym (acted_name act n))
      (acted_durable act m ∙ (λ i. durable_after act (like.volatile i) (like.durable i)) ∙ sym (acted_durable act n)) (acted_settled act m ∙ ap (settled_by act) like.settled ∙ sym (acted_settled act n)) h

  -- Rows at a node that is up.

  pub rows_up : (free : Bool) (rs : List Row) (n : Node) (a : t.Told) → AllTake t rs → EachFits free rs n → t.Up free a n → IsUp (node_after_rows rs n) × t.Up false (t.more (lines_of_rows rs) a) (node_after_rows rs n)
  rows_up free [] n a q f h = (f, subst (λ b. t.Up false b n) (sym (k.none a)) (k.weaken free a n h))
  rows_up free (r ∷ rs) n a q f h =
      let m = node_after r.act n in
      let more = rows_up (free_after free r.act) rs m (t.more r.lines a) q.1 f.1 (k.row free r n a q.0 f.0 (first_up (free_after free r.act) rs m f.1) h) in
      (more.0, subst (λ b. t.Up false b (node_after_rows rs m)) (sym (k.append r.lines (lines_of_rows rs) a)) more.1)

  -- where they are cut
  pub rows_cut : (free : Bool) (j : ℕ) (rs : List Row) (n : Node) (a : t.Told) → AllTake t rs → EachFits free rs n → t.Up free a n → t.Disk (t.more (lines_of_rows (take j rs)) a) (node_after_rows (take j rs) n)
  rows_cut free zero rs n a q f h = none_here a n (k.falls free a n (first_up free rs n f) h)
  rows_cut free (suc j) [] n a q f h = none_here a n (k.falls free a n f h)
  rows_cut free (suc j) (r ∷ rs) n a q f h =
      let m = node_after r.act n in
      subst (λ b. t.Disk b (node_after_rows (take j rs) m)) (sym (k.append r.lines (lines_of_rows (take j rs)) a))
      (rows_cut (free_after free r.act) j rs m (t.more r.lines a) q.1 f.1 (k.row free r n a q.0 f.0 (first_up (free_after free r.act) rs m f.1) h))

  pub rows_under : (free b : Bool) (j : ℕ) (rs : List Row) (n : Node) (a : t.Told) → AllTake t rs → EachFits free rs n → t.Up free a n → (act : Act) → act_begun b (drop j rs) ≡ Some act → t.Disk (t.more (lines_of_rows (take j rs)) a) (acted act (node_after_rows (take j rs) n))
  rows_under free false j rs n a q f h act e = let no : ⊥ = cc in absurd no
  rows_under free true zero [] n a q f h act e = let no : ⊥ = cc in absurd no
  rows_under free true zero (r ∷ rs) n a q f h act e =
      let b = begun_act r.act act e in
      none_here a (acted act n) (k.under free r n a act q.0 f.0 b.0 b.1 (subst (λ o. IsUp (node_after o n)) b.0 (first_up (free_after free r.act) rs (node_after r.act n) f.1)) h)
  rows_under free true (suc j) [] n a q f h act e = let no : ⊥ = cc in absurd no
  rows_under free true (suc j) (r ∷ rs) n a q f h act e =
      let m = node_after r.act n in
      subst (λ b. t.Disk b (acted act (node_after_rows (take j rs) m))) (sym (k.append r.lines (lines_of_rows (take j rs)) a))
      (rows_under (free_after free r.act) true j rs m (t.more r.lines a) q.1 f.1 (k.row free r n a q.0 f.0 (first_up (free_after free r.act) rs m f.1) h) act e)

  -- Rows of a boot.

  abbrev undo_rows : List RecoveryUnit → Shared → Node → List Row
  undo_rows us s n = table_rows (undo_all (map unit_key us)) s n

  next_unit : (u : RecoveryUnit) (us : List RecoveryUnit) (s : Shared) (n : Node) → AreKept (undo_rows (u ∷ us) s n) n → AreLeft (u ∷ us) n.durable.units → IsOf n.name n.durable.boot u.serial → IsNextUnit n u
  next_unit u us s n kept left of = record { found = left.found u.serial u (ap (λ b. if b then Some u else find_unit u.serial us) (id_itself u.serial)); kept = kept.0; there = head_there u us n.durable.units left; unprepared = first_active u us n.durable.units left.active; of = of }

  abbrev AreOf : List RecoveryUnit → Node → Type 0
  AreOf us n = AllByRecursion (λ (u : RecoveryUnit). IsOf n.name n.durable.boot u.serial) us

  undo_booted : (us : List RecoveryUnit) (s : Shared) (n : Node) (a : t.Told) → AreKept (undo_rows us s n) n → AreLeft us n.durable.units → AreOf us n → t.Boots a n → t.Boots (t.more (lines_of_rows (undo_rows us s n)) a) (node_after_rows (undo_rows us s n) n)
  undo_booted [] s n a kept left of h = subst (λ b. t.Boots b n) (sym (k.none a)) h
  undo_booted (u ∷ us) s n a kept left of h =
      let m = undone_unit n u in
      let ls = settled_line (unit_key u) Abort SegFail (next_moment n) ∷ [] in
      let more = undo_booted us s m (t.more ls a) kept.1 (left_next u us n.durable.units m.durable.units (has_settled n u) left) of.1 (k.undoes a n u (next_unit u us s n kept left of.0) h) in
      subst (λ b. t.Boots b (node_after_rows (undo_rows us s m) m)) (sym (k.append ls (lines_of_rows (undo_rows us s m)) a)) more

  undo_cut : (j : ℕ) (us : List RecoveryUnit) (s : Shared) (n : Node) (a : t.Told) → AreKept (undo_rows us s n) n → AreLeft us n.durable.units → AreOf us n → t.Boots a n →
      t.Disk (t.more (lines_of_rows (take j (undo_rows us s n))) a) (node_after_rows (take j (undo_rows us s n)) n)
  undo_cut zero us s n a kept left of h = none_here a n (k.rests a n (first_kept (undo_rows us s n) n kept) h)
  undo_cut (suc j) [] s n a kept left of h = none_here a n (k.rests a n kept h)
  undo_cut (suc j) (u ∷ us) s n a kept left of h =
      let m = undone_unit n u in
      let ls = settled_line (unit_key u) Abort SegFail (next_moment n) ∷ [] in
      subst (λ b. t.Disk b (node_after_rows (take j (undo_rows us s m)) m)) (sym (k.append ls (lines_of_rows (take j (undo_rows us s m))) a))
      (undo_cut j us s m (t.more ls a) kept.1 (left_next u us n.durable.units m.durable.units (has_settled n u) left) of.1 (k.undoes a n u (next_unit u us s n kept left of.0) h))

  undo_under : (b : Bool) (j : ℕ) (us : List RecoveryUnit) (s : Shared) (n : Node) (a : t.Told) → AreKept (undo_rows us s n) n → AreLeft us n.durable.units → AreOf us n → t.Boots a n → (act : Act) → act_begun b (drop j (undo_rows us s n)) ≡ Some act →
      t.Disk (t.more (lines_of_rows (take j (undo_rows us s n))) a) (acted act (node_after_rows (take j (undo_rows us s n)) n))
  undo_under false j us s n a kept left of h act e = let no : ⊥ = cc in absurd no
  undo_under true zero [] s n a kept left of h act e = let no : ⊥ = cc in absurd no
  undo_under true zero (u ∷ us) s n a kept left of h act e =
      none_here a (acted act n) (subst (λ x. t.Disk a (acted x n)) (some_is _ act e) (k.undoing a n u (next_unit u us s n kept left of.0) h))
  undo_under true (suc j) [] s n a kept left of h act e = let no : ⊥ = cc in absurd no
  undo_under true (suc j) (u ∷ us) s n a kept left of h act e =
      let m = undone_unit n u in
      let ls = settled_line (unit_key u) Abort SegFail (next_moment n) ∷ [] in
      subst (λ c. t.Disk c (acted act (node_after_rows (take j (undo_rows us s m)) m))) (sym (k.append ls (lines_of_rows (take j (undo_rows us s m))) a))
      (undo_under true j us s m (t.more ls a) kept.1 (left_next u us n.durable.units m.durable.units (has_settled n u) left) of.1 (k.undoes a n u (next_unit u us s n kept left of.0) h) act e)

  module _ (s : Shared) (n : Node) (disk : IsKeptDisk n) (a : t.Told) (h : t.Disk a n) where
    abbrev m : Node
    m = acted Boots n

    abbrev us : List RecoveryUnit
    us = left_active n

    kept : AreKept (undo_rows us s m) m
    kept = (boot_kept s n disk).1

    on_lines : (ls : List Line) (x : Node) → t.Disk (t.more ls (t.more (last_lines n) a)) x → t.Disk (t.more (last_lines n ++ ls) a) x
    on_lines ls x d = subst (λ b. t.Disk b x) (sym (k.append (last_lines n) ls a)) d

    pub boot_whole : t.Boots (t.more (lines_of_rows (boot_rows s n)) a) (node_after_rows (boot_rows s n) n)
    boot_whole = subst (λ b. t.Boots b (node_after_rows (boot_rows s n) n)) (sym (k.append (last_lines n) (lines_of_rows (undo_rows us s m)) a)) (undo_booted us s m (t.more (last_lines n) a) kept (left_first n) (left_of n disk) (k.boots a n disk h))

    pub boot_cut : (j : ℕ) → t.Disk (t.more (lines_of_rows (take j (boot_rows s n))) a) (node_after_rows (take j (boot_rows s n)) n)
    boot_cut zero = none_here a n h
    boot_cut (suc j) = on_lines (lines_of_rows (take j (undo_rows us s m))) (node_after_rows (take j (undo_rows us s m)) m) (undo_cut j us s m (t.more (last_lines n) a) kept (left_first n) (left_of n disk) (k.boots a n disk h))

    pub boot_under : (b : Bool) (j : ℕ) (act : Act) → act_begun b (drop j (boot_rows s n)) ≡ Some act → t.Disk (t.more (lines_of_rows (take j (boot_rows s n))) a) (acted act (node_after_rows (take j (boot_rows s n)) n))
    boot_under false j act e = let no : ⊥ = cc in absurd no
    boot_under true zero act e = none_here a (acted act n) (subst (λ x. t.Disk a (acted x n)) (some_is Boots act e) (k.booting a n disk h))
    boot_under true (suc j) act e =
        on_lines (lines_of_rows (take j (undo_rows us s m))) (acted act (node_after_rows (take j (undo_rows us s m)) m)) (undo_under true j us s m (t.more (last_lines n) a) kept (left_first n) (left_of n disk) (k.boots a n disk h) act e)

  -- Nodes.

  -- rows were cut, and the node fell
  pub fell : (b : Bool) (j : ℕ) (rs : List Row) (n : Node) (a : t.Told) → t.Disk a (node_after_rows (take j rs) n) → ((act : Act) → act_begun b (drop j rs) ≡ Some act → t.Disk a (acted act (node_after_rows (take j rs) n))) →
      Kept a (fallen (act_begun b (drop j rs)) (node_after_rows (take j rs) n))
  fell b j rs n a disk way =
      let m = node_after_rows (take j rs) n in
      let f = fallen (act_begun b (drop j rs)) m in
      record {
        disk = k.same a m f refl refl refl disk;
        way = λ act e. acted_like act a m f (record { name = refl; durable = refl; volatile = refl; settled = refl }) (way act e);
        runs = λ e. let none : ⊥ = cc in absurd none;
      }

  none_under : (a : t.Told) (n : Node) (act : Act) → n.under_way ≡ None → n.under_way ≡ Some act → t.Disk a (acted act n)
  none_under a n act none e = let clash : ◌≡◌ {A = Option Act} None (Some act) = sym none ∙ e in let no : ⊥ = cc in absurd no

  -- a node whose disk runs again has nothing under way
  pub powered_kept : (o : Outturn) (stops : ℕ) (s : Shared) (n : Node) (a : t.Told) → IsKeptNode s n → t.Ready n → MayTurnOut n o → Kept a n → t.Disk a (powered o stops n) × ((powered o stops n).under_way ≡ None)
  powered_kept Lost stops s n a known first may h = (k.same a n (powered Lost stops n) refl refl refl h.disk, refl)
  powered_kept (Half standing) stops s n a known first may h =
      (k.same a (record n { durable = with_half (aborted_prepared n.under_way n.durable) standing n.durable }) (powered (Half standing) stops n) refl refl refl (k.half a n standing known.disk first may h.disk), refl)
  powered_kept Taken stops s n a known first may h = go n.under_way refl
    where
      go : (w : Option Act) → n.under_way ≡ w → t.Disk a (powered Taken stops (record n { under_way = w })) × ((powered Taken stops (record n { under_way = w })).under_way ≡ None)
      go None e = (k.same a n (powered Taken stops (record n { under_way = None })) refl refl refl h.disk, refl)
      go (Some act) e =
          let m = record n { under_way = Some act } in
          (k.same a (acted act m) (powered Taken stops m) refl refl refl (acted_like act a n m (record { name = refl; durable = refl; volatile = refl; settled = refl }) (h.way act e)), refl)

  -- one that touches neither its disk nor its table
  like_kept : (n m : Node) (a : t.Told) → IsLike n m → m.under_way ≡ n.under_way → m.up ≡ false → Kept a n → Kept a m
  like_kept n m a like under down h = record {
    disk = k.same a n m like.name like.durable like.settled h.disk;
    way = λ act e. acted_like act a n m like (h.way act (sym under ∙ e));
    runs = λ e. absurd (both_ways m.up down e);
  }

  abbrev KeptEffect : t.Told → (s : Shared) (stops : ℕ) (n : Node) → Task → Choice → Type 0
  KeptEffect a s stops n task c = Kept (t.more (task_effect s stops n task c).lines a) (task_effect s stops n task c).node

  still : (a : t.Told) (n : Node) → Kept a n → Kept (t.more [] a) n
  still a n h = subst (λ b. Kept b n) (sym (k.none a)) h

  -- A task that does not make the disk run again.

  -- it has nothing behind its rows
  pub closes_none : (task : Task) (n : Node) → powers (task_service task) ≡ false → ((task_service task).closing ≡ None) × ((task_service task).closing_lines n ≡ [])
  closes_none (Serves r) n off = go r off
    where
      go : (r : Request) → powers (service r) ≡ false → ((service r).closing ≡ None) × ((service r).closing_lines n ≡ [])
      go (Init slots journal) e = let no : ⊥ = cc in absurd no
      go Boot e = let no : ⊥ = cc in absurd no
      go _ e = (refl, refl)
  closes_none Restarts n off = let no : ⊥ = cc in absurd no
  closes_none _ n off = (refl, refl)

  module _ (s : Shared) (stops : ℕ) (n : Node) (task : Task) (a : t.Told) (kept : IsKeptNode s n) (h : Kept a n) where
    abbrev e : Service
    e = task_service task

    rests : n.up ≡ true → n.under_way ≡ None
    rests up = go n.under_way refl
      where
        go : (o : Option Act) → n.under_way ≡ o → o ≡ None
        go None q = refl
        go (Some act) q = absurd (both_ways n.up (kept.way act q).2 up)

    -- at a node that is up
    module _ (off : powers e ≡ false) (up : n.up ≡ true) where
      same_ready : (o : Outturn) → ready_node o stops e n ≡ n
      same_ready o = ap (λ b. if b then with_unknown_volume (spoils e) (powered o stops n) else n) off

      abbrev closed : Option Act → List Line → Node → Type 0
      closed act ls m = Kept (t.more (lines_of_rows (e.rows s n) ++ ls) a) (node_after act m)

      -- done whole, where its rows keep what is known
      module _ (rows : EachFits false (e.rows s n) n → IsUp (node_after_rows (e.rows s n) n) × t.Up false (t.more (lines_of_rows (e.rows s n)) a) (node_after_rows (e.rows s n) n)) where
        done_up : refused_before_reading s n e ≡ None → e.refused_after_reading s n ≡ None → closed e.closing (e.closing_lines n) (node_after_rows (e.rows s n) n)
        done_up first late =
            let r = rows (task_fits s n task kept up off first late) in
            let m = node_after_rows (e.rows s n) n in
            let b = t.more (lines_of_rows (e.rows s n)) a in
            let c = closes_none task n off in
            subst (λ o. closed o (e.closing_lines n) m) (sym c.0)
            (subst (λ ls. Kept (t.more ls a) m) (sym (nothing_more (lines_of_rows (e.rows s n)) (e.closing_lines n) c.1)) (record {
              disk = k.falls false b m r.0 r.1;
              way = λ act q. none_under b m act (rows_way (e.rows s n) n ∙ rests up) q;
              runs = λ q. r.1;
            }))

        begun_up : (o : Option Line) → e.refused_after_reading s n ≡ o → refused_before_reading s n e ≡ None → Kept (t.more (begun s n e o).lines a) (begun s n e o).node
        begun_up (Some refusal) late first = still a n h
        begun_up None late first = done_up first late

        whole_up : (o : Option Line) → refused_before_reading s n e ≡ o → Kept (t.more (whole s n n e o).lines a) (whole s n n e o).node
        whole_up (Some refusal) first = still a n h
        whole_up None first = begun_up (e.refused_after_reading s n) refl first

        pub whole_effect : (o : Outturn) → KeptEffect a s stops n task (Whole o)
        whole_effect o = subst (λ m. Kept (t.more (whole s n m e (refused_before_reading s n e)).lines a) (whole s n m e (refused_before_reading s n e)).node) (sym (same_ready o)) (whole_up (refused_before_reading s n e) refl)

      module _ (takes : AllTake t (e.rows s n)) where
        cut_up : (j : ℕ) (b : Bool) (cause : Cause) → refused_before_reading s n e ≡ None → (o : Option Line) → e.refused_after_reading s n ≡ o → let rs = rows_if o (e.rows s n) in
            Kept (t.more (lines_of_rows (take j rs) ++ line.Down n.name cause ∷ []) a) (fallen (act_begun b (drop j rs)) (node_after_rows (take j rs) n))
        cut_up j b cause first o late = go o late
          where
            down_lines : (rs : List Row) (m : Node) → Kept (t.more (lines_of_rows (take j rs)) a) m → Kept (t.more (lines_of_rows (take j rs) ++ line.Down n.name cause ∷ []) a) m
            down_lines rs m q = subst (λ c. Kept c m) (sym (k.append (lines_of_rows (take j rs)) (line.Down n.name cause ∷ []) a ∙ k.plain (line.Down n.name cause ∷ []) (t.more (lines_of_rows (take j rs)) a) (refl, tt) (refl, tt))) q

            of_rows : (rs : List Row) → AllTake t rs → EachFits false rs n → Kept (t.more (lines_of_rows (take j rs) ++ line.Down n.name cause ∷ []) a) (fallen (act_begun b (drop j rs)) (node_after_rows (take j rs) n))
            of_rows rs q f =
                down_lines rs (fallen (act_begun b (drop j rs)) (node_after_rows (take j rs) n))
                (fell b j rs n (t.more (lines_of_rows (take j rs)) a) (rows_cut false j rs n a q f (h.runs up)) (rows_under false b j rs n a q f (h.runs up)))

            go : (o : Option Line) → e.refused_after_reading s n ≡ o → let rs = rows_if o (e.rows s n) in Kept (t.more (lines_of_rows (take j rs) ++ line.Down n.name cause ∷ []) a) (fallen (act_begun b (drop j rs)) (node_after_rows (take j rs) n))
            go (Some refusal) q = of_rows [] tt (kept.runs up).0
            go None q = of_rows (e.rows s n) takes (task_fits s n task kept up off first q)

        pub up_effect : (c : Choice) (rises : Cause → Type 0) → TaskAllowed s stops n task rises c → KeptEffect a s stops n task c
        up_effect (Whole o) rises may = whole_effect (λ f. rows_up false (e.rows s n) n a takes f (h.runs up)) o
        up_effect WithoutMemory rises may = still a n h
        up_effect Unpowered rises may = absurd (both_ways (powers e) off may.1)
        up_effect (Cut o j b cause) rises may = subst (λ m. let rs = rows_to_cut s m e in Kept (t.more (lines_of_rows (take j rs) ++ line.Down m.name cause ∷ []) a) (fallen (act_begun b (drop j rs)) (node_after_rows (take j rs) m))) (sym (same_ready o))
            (cut_up j b cause may.0 (e.refused_after_reading s n) refl)

    -- at a node that is down
    module _ (off : powers e ≡ false) (down : n.up ≡ false) where
      served : refused_before_reading s n e ≡ None → e.while_down ≡ true
      served first = go e.while_down (subst (λ up. not (up || e.while_down) ≡ false) down (not_refused _ line.NodeDown (neither (refused_if (not (n.up || e.while_down)) line.NodeDown) (e.refused_before_reading s n) first).0))
        where
          go : (b : Bool) → not (false || b) ≡ false → b ≡ true
          go true q = refl
          go false q = let no : ⊥ = cc in absurd no

      -- it only arms the disk, or sets the clock
      quietly : e.while_down ≡ true → (m : Node) → m ≡ n → (touches e ≡ false) × ((o : Option Line) → e.refused_after_reading s m ≡ o → Kept (t.more (begun s m e o).lines a) (begun s m e o).node)
      quietly serves m is = of_task task serves off
        where
          like : (act : Act) → IsLike m (acted act m) → (acted act m).under_way ≡ m.under_way → (acted act m).up ≡ m.up → Kept (t.more [] a) (acted act m)
          like act l under up = still a (acted act m) (like_kept m (acted act m) a l under (up ∙ ap (λ (x : Node). x.up) is ∙ down) (subst (Kept a) (sym is) h))

          of_request : (r : Request) → (service r).while_down ≡ true → powers (service r) ≡ false →
              (touches (service r) ≡ false) × ((o : Option Line) → (service r).refused_after_reading s m ≡ o → Kept (t.more (begun s m (service r) o).lines a) (begun s m (service r) o).node)
          of_request (Fuse writes choice) q p = (refl, λ o f. subst (λ x. Kept (t.more (begun s m (service (Fuse writes choice)) x).lines a) (begun s m (service (Fuse writes choice)) x).node) f (like (Arms writes choice) (record { name = refl; durable = refl; volatile = refl; settled = refl }) refl refl))
          of_request (Clock now) q p = (refl, λ o f. subst (λ x. Kept (t.more (begun s m (service (Clock now)) x).lines a) (begun s m (service (Clock now)) x).node) f (like (Clocks now) (record { name = refl; durable = refl; volatile = refl; settled = refl }) refl refl))
          of_request (Init slots journal) q p = let no : ⊥ = cc in absurd no
          of_request Boot q p = let no : ⊥ = cc in absurd no
          of_request _ q p = let no : ⊥ = cc in absurd no

          of_task : (u : Task) → (task_service u).while_down ≡ true → powers (task_service u) ≡ false →
              (touches (task_service u) ≡ false) × ((o : Option Line) → (task_service u).refused_after_reading s m ≡ o → Kept (t.more (begun s m (task_service u) o).lines a) (begun s m (task_service u) o).node)
          of_task (Serves r) q p = of_request r q p
          of_task Restarts q p = let no : ⊥ = cc in absurd no
          of_task _ q p = let no : ⊥ = cc in absurd no

      whole_down : (m : Node) → m ≡ n → (o : Option Line) → refused_before_reading s n e ≡ o → Kept (t.more (whole s n m e o).lines a) (whole s n m e o).node
      whole_down m is (Some refusal) first = still a n h
      whole_down m is None first = (quietly (served first) m is).1 (e.refused_after_reading s m) refl

      pub down_effect : (c : Choice) (rises : Cause → Type 0) → TaskAllowed s stops n task rises c → KeptEffect a s stops n task c
      down_effect (Whole o) rises may = whole_down (ready_node o stops e n) (ap (λ b. if b then with_unknown_volume (spoils e) (powered o stops n) else n) off) (refused_before_reading s n e) refl
      down_effect WithoutMemory rises may = still a n h
      down_effect Unpowered rises may = absurd (both_ways (powers e) off may.1)
      down_effect (Cut o j b cause) rises may = absurd (both_ways (touches e) (quietly (served may.0) n refl).0 may.1)

    -- A boot.
    module _ (boots : (x : Shared) (m : Node) → e.rows x m ≡ boot_rows x m) (closing : e.closing ≡ Some ComesUp) (ready : (o : Outturn) → ready_node o stops e n ≡ powered o stops n) (whole_disk : spoils e ≡ false) (first_ready : t.Ready n) (down : refused_before_reading s n e ≡ None → n.up ≡ false) (shows : (m : Node) → ClosesBoot (e.closing_lines m) m) where
      module _ (o : Outturn) (may : MayTurnOut n o) where
        abbrev r : Node
        r = powered o stops n

        r_ready : IsReady n r
        r_ready = powered_ready o stops s n may kept

        r_kept : t.Disk a r × (r.under_way ≡ None)
        r_kept = powered_kept o stops s n a kept first_ready may h

        late_boot : n.up ≡ false → Kept a r
        late_boot d = record { disk = r_kept.0; way = λ act q. none_under a r act r_kept.1 q; runs = λ q. absurd (both_ways r.up (r_ready.up ∙ d) q) }

        came : Kept (t.more (lines_of_rows (e.rows s r) ++ e.closing_lines r) a) (node_after e.closing (node_after_rows (e.rows s r) r))
        came =
            let m = node_after_rows (boot_rows s r) r in
            let c = t.more (lines_of_rows (boot_rows s r)) a in
            let b = t.more (prepared_lines r) c in
            let x = shows r in
            let up = come_up s r r_ready.disk in
            let now = k.comes b m up (k.closes c r m (boot_log s r) up (boot_whole s r r_ready.disk a r_kept.0)) (record { before = c; found = r; log = boot_log s r; told = refl }) in
            let all : t.more (lines_of_rows (boot_rows s r) ++ e.closing_lines r) a ≡ b =
            k.append (lines_of_rows (boot_rows s r)) (e.closing_lines r) a ∙ ap (λ ls. t.more ls c) x.1 ∙ k.append (prepared_lines r) x.0 c ∙ k.plain x.0 b x.2 x.3 in
            subst (λ rs. Kept (t.more (lines_of_rows rs ++ e.closing_lines r) a) (node_after e.closing (node_after_rows rs r))) (sym (boots s r))
            (subst (λ act. Kept (t.more (lines_of_rows (boot_rows s r) ++ e.closing_lines r) a) (node_after act m)) (sym closing)
            (subst (λ c. Kept c (acted ComesUp m)) (sym all) (record {
              disk = k.falls false b (acted ComesUp m) up now;
              way = λ act q. none_under b (acted ComesUp m) act (rows_way (boot_rows s r) r ∙ r_kept.1) q;
              runs = λ q. now;
            })))

        begun_boot : n.up ≡ false → (q : Option Line) → Kept (t.more (begun s r e q).lines a) (begun s r e q).node
        begun_boot d (Some refusal) = still a r (late_boot d)
        begun_boot d None = came

        whole_boot : (q : Option Line) → refused_before_reading s n e ≡ q → Kept (t.more (whole s n r e q).lines a) (whole s n r e q).node
        whole_boot (Some refusal) first = still a n h
        whole_boot None first = begun_boot (down first) (e.refused_after_reading s r)

        cut_boot : (j : ℕ) (b : Bool) (cause : Cause) → (q : Option Line) → let rs = rows_if q (e.rows s r) in Kept (t.more (lines_of_rows (take j rs) ++ line.Down r.name cause ∷ []) a) (fallen (act_begun b (drop j rs)) (node_after_rows (take j rs) r))
        cut_boot j b cause q = go q
          where
            on_down : (rs : List Row) (m : Node) → Kept (t.more (lines_of_rows (take j rs)) a) m → Kept (t.more (lines_of_rows (take j rs) ++ line.Down r.name cause ∷ []) a) m
            on_down rs m x = subst (λ c. Kept c m) (sym (k.append (lines_of_rows (take j rs)) (line.Down r.name cause ∷ []) a ∙ k.plain (line.Down r.name cause ∷ []) (t.more (lines_of_rows (take j rs)) a) (refl, tt) (refl, tt))) x

            nothing : (j : ℕ) → node_after_rows (take j []) r ≡ r
            nothing zero = refl
            nothing (suc j) = refl

            no_lines : (j : ℕ) → lines_of_rows (take j []) ≡ []
            no_lines zero = refl
            no_lines (suc j) = refl

            no_act : (b : Bool) (j : ℕ) (act : Act) → act_begun b (drop j []) ≡ Some act → {X : Type 0} → X
            no_act false j act x = let none : ⊥ = cc in absurd none
            no_act true zero act x = let none : ⊥ = cc in absurd none
            no_act true (suc j) act x = let none : ⊥ = cc in absurd none

            go : (q : Option Line) → let rs = rows_if q (e.rows s r) in Kept (t.more (lines_of_rows (take j rs) ++ line.Down r.name cause ∷ []) a) (fallen (act_begun b (drop j rs)) (node_after_rows (take j rs) r))
            go (Some refusal) = on_down [] (fallen (act_begun b (drop j [])) (node_after_rows (take j []) r)) (fell b j [] r (t.more (lines_of_rows (take j [])) a)
                (subst (λ ls. t.Disk (t.more ls a) (node_after_rows (take j []) r)) (sym (no_lines j)) (subst (t.Disk (t.more [] a)) (sym (nothing j)) (none_here a r r_kept.0))) (λ act x. no_act b j act x))
            go None = subst (λ rs. Kept (t.more (lines_of_rows (take j rs) ++ line.Down r.name cause ∷ []) a) (fallen (act_begun b (drop j rs)) (node_after_rows (take j rs) r))) (sym (boots s r))
                (on_down (boot_rows s r) (fallen (act_begun b (drop j (boot_rows s r))) (node_after_rows (take j (boot_rows s r)) r))
                (fell b j (boot_rows s r) r (t.more (lines_of_rows (take j (boot_rows s r))) a) (boot_cut s r r_ready.disk a r_kept.0 j) (boot_under s r r_ready.disk a r_kept.0 b j)))

      dead_boot : Kept (t.more (line.Down n.name line.Failed ∷ []) a) (with_unknown_volume (spoils e) (unpowered stops n))
      dead_boot = subst (λ b. Kept (t.more (line.Down n.name line.Failed ∷ []) a) (with_unknown_volume b (unpowered stops n))) (sym whole_disk)
          (subst (λ c. Kept c (unpowered stops n)) (sym (k.plain (line.Down n.name line.Failed ∷ []) a (refl, tt) (refl, tt))) (like_kept n (unpowered stops n) a (record { name = refl; durable = refl; volatile = refl; settled = refl }) refl refl h))

      pub boot_effect : (c : Choice) (rises : Cause → Type 0) → TaskAllowed s stops n task rises c → KeptEffect a s stops n task c
      boot_effect (Whole o) rises may = subst (λ m. Kept (t.more (whole s n m e (refused_before_reading s n e)).lines a) (whole s n m e (refused_before_reading s n e)).node) (sym (ready o)) (whole_boot o may (refused_before_reading s n e) refl)
      boot_effect WithoutMemory rises may = still a n h
      boot_effect Unpowered rises may = dead_boot
      boot_effect (Cut o j b cause) rises may = subst (λ m. let rs = rows_to_cut s m e in Kept (t.more (lines_of_rows (take j rs) ++ line.Down m.name cause ∷ []) a) (fallen (act_begun b (drop j rs)) (node_after_rows (take j rs) m))) (sym (ready o))
          (cut_boot o may.2 j b cause (e.refused_after_reading s (powered o stops n)))

    -- A volume is made.
    module _ (unused : s.in_use ≡ false → n.settled ≡ []) where
      -- nothing was settled by then
      module _ (slots journal : ℕ) where
        abbrev makes : Service
        makes = service (Init slots journal)

        not_used : refused_before_reading s n makes ≡ None → s.in_use ≡ false
        not_used first = not_refused s.in_use line.VolumeInUse (neither (refused_if s.in_use line.VolumeInUse) _ (neither (refused_if (not (n.up || true)) line.NodeDown) _ first).1).0

        pub init_ready : (o : Outturn) → MayTurnOut n o → refused_before_reading s n makes ≡ None → t.Disk a (with_unknown_volume true (powered o stops n)) × ((powered o stops n).under_way ≡ None) × ((powered o stops n).up ≡ false) × ((powered o stops n).settled ≡ [])
        init_ready o may first =
            let off = not_used first in
            let p = powered_kept o stops s n a kept (k.none_ready n (kept.unused off).1) may h in
            let r = powered_ready o stops s n may kept in
            (k.spoils a (powered o stops n) p.0, p.1, r.up ∙ (kept.unused off).0, (powered_settled o ∙ unused off))
          where
            powered_settled : (o : Outturn) → (powered o stops n).settled ≡ n.settled
            powered_settled Lost = refl
            powered_settled (Half standing) = refl
            powered_settled Taken = go n.under_way (kept.unused (not_used first)).1
              where
                go : (w : Option Act) → w ≡ None → (powered Taken stops (record n { under_way = w })).settled ≡ n.settled
                go None q = refl
                go (Some act) q = let no : ⊥ = cc in absurd no

        init_cut : (o : Outturn) → MayTurnOut n o → refused_before_reading s n makes ≡ None → (j : ℕ) (b : Bool) (cause : Cause) →
            Kept (t.more (lines_of_rows (take j []) ++ line.Down n.name cause ∷ []) a) (fallen (act_begun b (drop j [])) (node_after_rows (take j []) (with_unknown_volume true (powered o stops n))))
        init_cut o may first j b cause = go j b
          where
            r : Node
            r = with_unknown_volume true (powered o stops n)

            done : Kept (t.more (line.Down n.name cause ∷ []) a) (fallen None r)
            done = subst (λ c. Kept c (fallen None r)) (sym (k.plain (line.Down n.name cause ∷ []) a (refl, tt) (refl, tt))) (record {
              disk = k.same a (with_unknown_volume true (powered o stops n)) (fallen None r) refl refl refl (init_ready o may first).0;
              way = λ act q. let no : ⊥ = cc in absurd no;
              runs = λ q. let no : ⊥ = cc in absurd no;
            })

            go : (j : ℕ) (b : Bool) → Kept (t.more (lines_of_rows (take j []) ++ line.Down n.name cause ∷ []) a) (fallen (act_begun b (drop j [])) (node_after_rows (take j []) r))
            go zero true = done
            go zero false = done
            go (suc j) true = done
            go (suc j) false = done

        init_dead : refused_before_reading s n makes ≡ None → Kept (t.more (line.Down n.name line.Failed ∷ []) a) (with_unknown_volume true (unpowered stops n))
        init_dead first = subst (λ c. Kept c (with_unknown_volume true (unpowered stops n))) (sym (k.plain (line.Down n.name line.Failed ∷ []) a (refl, tt) (refl, tt))) (record {
          disk = k.spoils a (unpowered stops n) (k.same a n (unpowered stops n) refl refl refl h.disk);
          way = λ act q. none_under a (with_unknown_volume true (unpowered stops n)) act (kept.unused (not_used first)).1 q;
          runs = λ q. let no : ⊥ = cc in absurd no;
        })

        -- one that does not succeed leaves what was known
        pub init_else : (c : Choice) (rises : Cause → Type 0) → TaskAllowed s stops n (Serves (Init slots journal)) rises c → ((o : Outturn) → c ≡ Whole o → refused_before_reading s n makes ≡ None → ⊥) → KeptEffect a s stops n (Serves (Init slots journal)) c
        init_else (Whole o) rises may fails = go (refused_before_reading s n makes) refl
          where
            go : (q : Option Line) → refused_before_reading s n makes ≡ q → Kept (t.more (whole s n (ready_node o stops makes n) makes q).lines a) (whole s n (ready_node o stops makes n) makes q).node
            go (Some refusal) first = still a n h
            go None first = absurd (fails o refl first)
        init_else WithoutMemory rises may fails = still a n h
        init_else Unpowered rises may fails = init_dead may.0
        init_else (Cut o j b cause) rises may fails = subst (λ (name : List ℕ). Kept (t.more (lines_of_rows (take j []) ++ line.Down name cause ∷ []) a) (fallen (act_begun b (drop j [])) (node_after_rows (take j []) (with_unknown_volume true (powered o stops n))))) (sym (named o)) (init_cut o may.2 may.0 j b cause)
          where
            named : (o : Outturn) → (powered o stops n).name ≡ n.name
            named o = powered_name o stops n

        -- one that does, what is known of the volume that it makes
        pub init_done : (b : t.Told) (o : Outturn) → MayTurnOut n o → refused_before_reading s n makes ≡ None → t.Disk b (acted (Formats slots journal) (with_unknown_volume true (powered o stops n))) → Kept b (acted (Formats slots journal) (with_unknown_volume true (powered o stops n)))
        init_done b o may first d =
            let r = init_ready o may first in
            record {
              disk = d;
              way = λ act q. none_under b (acted (Formats slots journal) (with_unknown_volume true (powered o stops n))) act r.1 q;
              runs = λ q. absurd (both_ways (powered o stops n).up r.2 q);
            }

      -- where the same is known of a new volume
      module _ (made : s.in_use ≡ false → (slots journal : ℕ) (m : Node) → m.settled ≡ [] → t.Disk a (acted (Formats slots journal) m)) where
        init_effect : (slots journal : ℕ) (c : Choice) (rises : Cause → Type 0) → TaskAllowed s stops n (Serves (Init slots journal)) rises c → KeptEffect a s stops n (Serves (Init slots journal)) c
        init_effect slots journal (Whole o) rises may = go (refused_before_reading s n (service (Init slots journal))) refl
          where
            go : (q : Option Line) → refused_before_reading s n (service (Init slots journal)) ≡ q → Kept (t.more (whole s n (ready_node o stops (service (Init slots journal)) n) (service (Init slots journal)) q).lines a) (whole s n (ready_node o stops (service (Init slots journal)) n) (service (Init slots journal)) q).node
            go (Some refusal) first = still a n h
            go None first = still a (acted (Formats slots journal) (with_unknown_volume true (powered o stops n))) (init_done slots journal a o may first (made (not_used slots journal first) slots journal (with_unknown_volume true (powered o stops n)) (init_ready slots journal o may first).3))
        init_effect slots journal c rises may = init_else slots journal c rises may (λ o is. let no : ⊥ = cc in absurd no)

  -- Tasks.

  module _ (s : Shared) (stops : ℕ) (n : Node) (a : t.Told) (known : IsKeptNode s n) (h : Kept a n) where
    plain_effect : (task : Task) → (powers (task_service task) ≡ false → AllTake t ((task_service task).rows s n)) → powers (task_service task) ≡ false → (c : Choice) (rises : Cause → Type 0) → TaskAllowed s stops n task rises c → KeptEffect a s stops n task c
    plain_effect task takes off c rises may = go n.up refl
      where
        go : (b : Bool) → n.up ≡ b → KeptEffect a s stops n task c
        go true up = up_effect s stops n task a known h off up (takes off) c rises may
        go false down = down_effect s stops n task a known h off down c rises may

    request_effect : (r : Request) → is_init (Serves r) ≡ false → (powers (service r) ≡ false → AllTake t ((service r).rows s n)) → (powers (service r) ≡ true → t.Ready n) → (c : Choice) (rises : Cause → Type 0) → TaskAllowed s stops n (Serves r) rises c → KeptEffect a s stops n (Serves r) c
    request_effect (Init slots journal) other takes ready c rises may = let no : ⊥ = cc in absurd no
    request_effect Boot other takes ready c rises may = boot_effect s stops n (Serves Boot) a known h (λ x m. refl) refl (λ o. refl) refl (ready refl) (λ first. node_down n _ (behind_down n (service Boot) s first)) (λ m. ([], sym (append-nil (prepared_lines m)), tt, tt)) c rises may
    request_effect (Create file bucket size form) other takes ready c rises may = plain_effect (Serves (Create file bucket size form)) takes refl c rises may
    request_effect (SetFile file setting) other takes ready c rises may = plain_effect (Serves (SetFile file setting)) takes refl c rises may
    request_effect (StartTrans label seconds) other takes ready c rises may = plain_effect (Serves (StartTrans label seconds)) takes refl c rises may
    request_effect (AddBranch label node new) other takes ready c rises may = plain_effect (Serves (AddBranch label node new)) takes refl c rises may
    request_effect (StartBranch label) other takes ready c rises may = plain_effect (Serves (StartBranch label)) takes refl c rises may
    request_effect (Records label file op) other takes ready c rises may = plain_effect (Serves (Records label file op)) takes refl c rises may
    request_effect (Direct file op) other takes ready c rises may = plain_effect (Serves (Direct file op)) takes refl c rises may
    request_effect (EndBranch label) other takes ready c rises may = plain_effect (Serves (EndBranch label)) takes refl c rises may
    request_effect (EndTrans label) other takes ready c rises may = plain_effect (Serves (EndTrans label)) takes refl c rises may
    request_effect (AbortTrans label) other takes ready c rises may = plain_effect (Serves (AbortTrans label)) takes refl c rises may
    request_effect (Inquire who) other takes ready c rises may = plain_effect (Serves (Inquire who)) takes refl c rises may
    request_effect (DeclareRm rm) other takes ready c rises may = plain_effect (Serves (DeclareRm rm)) takes refl c rises may
    request_effect (JoinRm label rm) other takes ready c rises may = plain_effect (Serves (JoinRm label rm)) takes refl c rises may
    request_effect (AckEvent who rm reply) other takes ready c rises may = plain_effect (Serves (AckEvent who rm reply)) takes refl c rises may
    request_effect (ForgetRm rm) other takes ready c rises may = plain_effect (Serves (ForgetRm rm)) takes refl c rises may
    request_effect (GetDti who) other takes ready c rises may = plain_effect (Serves (GetDti who)) takes refl c rises may
    request_effect LmcpShow other takes ready c rises may = plain_effect (Serves LmcpShow) takes refl c rises may
    request_effect LmcpDump other takes ready c rises may = plain_effect (Serves LmcpDump) takes refl c rises may
    request_effect (Dump file) other takes ready c rises may = plain_effect (Serves (Dump file)) takes refl c rises may
    request_effect DumpJournal other takes ready c rises may = plain_effect (Serves DumpJournal) takes refl c rises may
    request_effect (DumpImages file side) other takes ready c rises may = plain_effect (Serves (DumpImages file side)) takes refl c rises may
    request_effect (Backup file) other takes ready c rises may = plain_effect (Serves (Backup file)) takes refl c rises may
    request_effect (Recover file way) other takes ready c rises may = plain_effect (Serves (Recover file way)) takes refl c rises may
    request_effect (Fuse writes choice) other takes ready c rises may = plain_effect (Serves (Fuse writes choice)) takes refl c rises may
    request_effect Crash other takes ready c rises may = plain_effect (Serves Crash) takes refl c rises may
    request_effect (Clock now) other takes ready c rises may = plain_effect (Serves (Clock now)) takes refl c rises may

    -- a task that makes no volume
    pub else_effect : (task : Task) → is_init task ≡ false → (powers (task_service task) ≡ false → AllTake t ((task_service task).rows s n)) → (powers (task_service task) ≡ true → t.Ready n) → (c : Choice) (rises : Cause → Type 0) → TaskAllowed s stops n task rises c → KeptEffect a s stops n task c
    else_effect (Serves r) other takes ready c rises may = request_effect r other takes ready c rises may
    else_effect Ticks other takes ready c rises may = plain_effect Ticks takes refl c rises may
    else_effect (Takes m) other takes ready c rises may = plain_effect (Takes m) takes refl c rises may
    else_effect (Hears m) other takes ready c rises may = plain_effect (Hears m) takes refl c rises may
    else_effect (LosesLink node) other takes ready c rises may = plain_effect (LosesLink node) takes refl c rises may
    else_effect RunsDown other takes ready c rises may = plain_effect RunsDown takes refl c rises may
    else_effect Restarts other takes ready c rises may = boot_effect s stops n Restarts a known h (λ x m. refl) refl (λ o. refl) refl (ready refl) (λ first. node_down n _ (behind_down n (task_service Restarts) s first)) (λ m. (line.Booted m.name (m.durable.boot + 1) ∷ [], refl, (refl, tt), (refl, tt))) c rises may

    -- and any task, where the same is known of a new volume
    pub any_effect : (unused : s.in_use ≡ false → n.settled ≡ []) → (s.in_use ≡ false → (slots journal : ℕ) (m : Node) → m.settled ≡ [] → t.Disk a (acted (Formats slots journal) m)) → (task : Task) → (powers (task_service task) ≡ false → AllTake t ((task_service task).rows s n)) → (powers (task_service task) ≡ true → t.Ready n) → (c : Choice) (rises : Cause → Type 0) → TaskAllowed s stops n task rises c →
        KeptEffect a s stops n task c
    any_effect unused made task takes ready c rises may = go (is_init task) refl
      where
        go : (b : Bool) → is_init task ≡ b → KeptEffect a s stops n task c
        go true is = made_it task is may
          where
            made_it : (u : Task) → is_init u ≡ true → TaskAllowed s stops n u rises c → KeptEffect a s stops n u c
            made_it (Serves (Init slots journal)) is m = init_effect s stops n (Serves (Init slots journal)) a known h unused made slots journal c rises m
            made_it (Serves _) is m = let no : ⊥ = cc in absurd no
            made_it _ is m = let no : ⊥ = cc in absurd no
        go false other = else_effect task other takes ready c rises may

-- the branches that are prepared tell a scheme nothing that only settlements tell more
pub closes_plain : (t : Scheme) → ((ls : List Line) (a : t.Told) → ArePlain ls → t.more ls a ≡ a) → (a : t.Told) (n m : Node) → m.durable.log ≡ n.durable.log → IsUp (acted ComesUp m) → t.Boots a m → t.Boots (t.more (prepared_lines n) a) m
closes_plain t plain a n m log up h = subst (λ b. t.Boots b m) (sym (plain (prepared_lines n) a (prepared_passes is_plain (λ tid serial. refl) _))) h

-- where it is said of all acts
pub all_take : (t : Scheme) → ((o : Option Act) → t.Takes o) → (rs : List Row) → AllTake t rs
all_take t h [] = tt
all_take t h (r ∷ rs) = (h r.act, all_take t h rs)
