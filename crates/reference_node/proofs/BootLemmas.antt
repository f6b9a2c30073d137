-- What a boot finds, and what its undoing leaves.
use Rattle.std.proofs.Common.{◌≡◌, ℕ, ◌+◌, ◌<◌, ◌≤◌, List, [], ◌∷◌, ◌++◌, append_assoc, Bool, true, false, Option, Some, None, if◌then◌else◌, inl, inr, refl, sym, ap, subst, ◌∙◌, suc, length, map, arith}
use Rattle.std.specs.Prelude.{is_some}
use Rattle.std.specs.List.{AllByRecursion, list_all, list_any}
use Rattle.vms_model.specs.Ids.{Id}
use Rattle.vms_model.specs.Transactions.{Abort, SegFail}
use Rattle.records_model.specs.History.{same_id}
use Rattle.world_laws.specs.transcript_model.Lines as line
use Rattle.unit_laws.specs.Journal.{RecoveryUnit, active_units, find_unit, units_in}
use Rattle.commit_protocol.specs.Agreement.{Distinct}
use Rattle.commit_protocol.specs.Limits.{PreparedWithin, RecordWithin}
use Rattle.commit_protocol.specs.Messages.{LogRecord}
use Rattle.commit_protocol.specs.Messages as messages
use Rattle.commit_protocol.specs.Table.{Branch, Key, Undoes, branch_serials, branches_of, cut, record_key, record_serials}
use Rattle.commit_protocol.specs.World.{In, undo_all}
use Rattle.commit_protocol.proofs.Lists.{told_id, told_key}
use Rattle.world_laws.specs.log_laws.Slots.{committed_of, prepared_of, records_in}
use Rattle.world_laws.specs.run_model.Answers.{boot_rows, last_lines, left_active, prepared_line, prepared_lines, settled_line, table_rows, unit_key}
use Rattle.world_laws.specs.run_model.Steps.{lines_of_rows, node_after_rows, shared_after_rows}
use Rattle.world_laws.specs.run_model.World as world
use Rattle.world_laws.specs.run_model.World.{Boots, ComesUp, Node, Shared, Tables, acted, next_moment, prepared_left, shared_after}
use Rattle.tm_table.specs.Restarts as restarts
use Rattle.tm_table.specs.Restarts.{MayRestart, is_committed, is_prepared}
use Rattle.world_laws.specs.Nodes.{BootsKeepUp, IsKeptDisk}
use Rattle.world_laws.proofs.BootLemmas.{branch_in, left_reordered, serials_again}
use Rattle.world_laws.proofs.IdLemmas.{id_itself}
use Rattle.world_laws.proofs.RestartLemmas.{are_active}
use Rattle.world_laws.proofs.UnitSets.{found_active}
use Rattle.reference_world.specs.Standing.{line_of}
use Rattle.reference_world.specs.declared.line.Line.{Line}
use Rattle.reference_node.specs.Nodes.{AreUnknown}
use Rattle.reference_branches.specs.Lines.{key_line}
use Rattle.reference_node.specs.Telling.{HasTime, Restarts}

-- Units that are undone are no branches.

-- a branch is cut where its serial stands among branches
cut_nothing : (k : Key) (bs : List Branch) → ((b : Branch) → In b bs → b.key.serial ≡ k.serial → ⊥) → cut k bs ≡ bs
cut_nothing k [] f = refl
cut_nothing k (b ∷ bs) f = elim (told_key b.key k) [
  | inl q ↦ absurd (f b (inl refl) (ap (λ (j : Key). j.serial) q.1))
  | inr q ↦ rw (q.0) (ap (λ xs. b ∷ xs) (cut_nothing k bs (λ c i. f c (inr i))))
]

-- what holds of each unit that is found holds of all
all_of : (P : RecoveryUnit → Type 0) (us : List RecoveryUnit) → ((u : RecoveryUnit) → is_some (find_unit u.serial us) ≡ true → P u) → AllByRecursion P us
all_of P [] f = tt
all_of P (u ∷ us) f = (f u (rw (id_itself u.serial) refl), all_of P us (λ v e. f v (go v (same_id v.serial u.serial) e)))
  where
    go : (v : RecoveryUnit) (b : Bool) → is_some (find_unit v.serial us) ≡ true → is_some (if b then Some u else find_unit v.serial us) ≡ true
    go v true e = refl
    go v false e = e

none_unknown : (us : List RecoveryUnit) (bs : List Branch) → AllByRecursion (λ (u : RecoveryUnit). (b : Branch) → In b bs → b.key.serial ≡ u.serial → ⊥) us → AreUnknown (map unit_key us) bs
none_unknown [] bs h = tt
none_unknown (u ∷ us) bs h = (cut_nothing (unit_key u) bs h.0, none_unknown us bs h.1)

not_both : (v : RecoveryUnit) → v.prepared ≡ true → v.prepared ≡ false → ⊥
not_both v t f = let clash : true ≡ false = sym t ∙ f in cc

is_none : (n : Node) → IsKeptDisk n → (u : RecoveryUnit) → is_some (find_unit u.serial (left_active n)) ≡ true → (b : Branch) → In b (branches_of (prepared_left n.durable)) → b.key.serial ≡ u.serial → ⊥
is_none n k u e b i same =
    let r = branch_in (prepared_left n.durable) b i in
    let there : In r.0 (prepared_of (records_in n.durable.log)) = (left_reordered n.durable k.log.distinct).there r.0 r.1 in
    let serial : r.0.serial ≡ u.serial = sym (ap (λ (x : Branch). x.key.serial) r.2) ∙ same in
    go r.0 there serial (find_unit u.serial (units_in n.durable.units.entries)) refl (found_active (units_in n.durable.units.entries) u.serial e)
  where
    go : (r : LogRecord) → In r (prepared_of (records_in n.durable.log)) → r.serial ≡ u.serial → (o : Option RecoveryUnit) → find_unit u.serial (units_in n.durable.units.entries) ≡ o → is_some o ≡ true → ⊥
    go r there serial None f some = let never : ⊥ = cc in never
    go r there serial (Some v) f some = not_both v (k.log.active r v there (ap (λ x. find_unit x (units_in n.durable.units.entries)) serial ∙ f)).0 ((are_active n).only u.serial e v f)

pub are_unknown : (n : Node) → IsKeptDisk n → AreUnknown (map unit_key (left_active n)) (branches_of (prepared_left n.durable))
are_unknown n k = none_unknown (left_active n) (branches_of (prepared_left n.durable)) (all_of (λ (u : RecoveryUnit). (b : Branch) → In b (branches_of (prepared_left n.durable)) → b.key.serial ≡ u.serial → ⊥) (left_active n) (is_none n k))

-- What undoing them leaves.

-- the table
undone_branches : (ks : List Key) (s : Shared) (n : Node) → AreUnknown ks n.volatile.branches → (node_after_rows (table_rows (undo_all ks) s n) n).volatile.branches ≡ n.volatile.branches
undone_branches [] s n h = refl
undone_branches (k ∷ ks) s n h = undone_branches ks s (acted (Tables (Undoes k) (next_moment n)) n) (subst (AreUnknown ks) (sym h.0) h.1) ∙ h.0

undone_records : (ks : List Key) (s : Shared) (n : Node) → (node_after_rows (table_rows (undo_all ks) s n) n).volatile.records ≡ n.volatile.records
undone_records [] s n = refl
undone_records (k ∷ ks) s n = undone_records ks s (acted (Tables (Undoes k) (next_moment n)) n)

-- and what nodes share
pub undone_shares : (ks : List Key) (s : Shared) (n : Node) → shared_after_rows (table_rows (undo_all ks) s n) s ≡ s
undone_shares [] s n = refl
undone_shares (k ∷ ks) s n = undone_shares ks s (acted (Tables (Undoes k) (next_moment n)) n)

-- The records of a disk may begin a table.

all_prepared : (ps : List LogRecord) → ((r : LogRecord) → In r ps → PreparedWithin r) → list_all (λ (r : LogRecord). is_prepared r.kind) ps ≡ true
all_prepared [] h = refl
all_prepared (r ∷ ps) h = let e : is_prepared r.kind ≡ true = ap is_prepared (h r (inl refl)).kind in rw e (all_prepared ps (λ q i. h q (inr i)))

all_committed : (cs : List LogRecord) → ((r : LogRecord) → In r cs → RecordWithin r) → list_all (λ (r : LogRecord). is_committed r.kind) cs ≡ true
all_committed [] h = refl
all_committed (r ∷ cs) h = let e : is_committed r.kind ≡ true = ap is_committed (h r (inl refl)).kind in rw e (all_committed cs (λ q i. h q (inr i)))

not_any : (s : Id) (xs : List Id) → (In s xs → ⊥) → list_any (λ x. messages.same_id x s) xs ≡ false
not_any s [] h = refl
not_any s (x ∷ xs) h = elim (told_id x s) [
  | inl t ↦ absurd (h (inl (sym t.1)))
  | inr t ↦ rw (t.0) (not_any s xs (λ i. h (inr i)))
]

differ : (xs : List Id) → Distinct xs → restarts.Distinct xs
differ [] d = tt
differ (x ∷ xs) d = (not_any x xs d.0, differ xs d.1)

serials_alone : (rs : List LogRecord) → restarts.serials_of rs ≡ record_serials rs
serials_alone [] = refl
serials_alone (r ∷ rs) = ap (λ (z : List Id). r.serial ∷ z) (serials_alone rs)

serials_both : (ps cs : List LogRecord) → restarts.serials_of (ps ++ cs) ≡ record_serials ps ++ record_serials cs
serials_both [] cs = serials_alone cs
serials_both (r ∷ ps) cs = ap (λ (z : List Id). r.serial ∷ z) (serials_both ps cs)

length_back : (ps : List LogRecord) → length (branches_of ps) ≡ length ps
length_back [] = refl
length_back (r ∷ ps) = ap suc (length_back ps)

pub may_begin : BootsKeepUp → (n : Node) → IsKeptDisk n → MayRestart (prepared_left n.durable) (committed_of (records_in n.durable.log))
may_begin boots_keep_up n k =
    let ps = prepared_left n.durable in
    let cs = committed_of (records_in n.durable.log) in
    let s : Shared = record { labels = []; in_use = false; wire = []; accepted = []; read_only = [] } in
    let up = (boots_keep_up s n k).up in
    let m = node_after_rows (boot_rows s n) n in
    let bs : m.volatile.branches ≡ branches_of ps = undone_branches (map unit_key (left_active n)) s (acted Boots n) (are_unknown n k) in
    let rs : m.volatile.records ≡ cs = undone_records (map unit_key (left_active n)) s (acted Boots n) in
    let apart : Distinct (record_serials ps ++ record_serials cs) = subst (λ xs. Distinct (xs ++ record_serials cs)) (serials_again ps)
    (subst (λ qs. Distinct (branch_serials (branches_of ps) ++ record_serials qs)) rs (subst (λ xs. Distinct (branch_serials xs ++ record_serials m.volatile.records)) bs up.table.apart)) in
    let few : length ps ≤ 64 = subst (λ j. j ≤ 64) (length_back ps) (subst (λ xs. length xs ≤ 64) bs up.table.limits.table) in
    let most : length ps + length cs ≤ 512 = subst (λ j. j + length cs ≤ 512) (length_back ps) (subst (λ qs. length (branches_of ps) + length qs ≤ 512) rs (subst (λ xs. length xs + length m.volatile.records ≤ 512) bs up.table.limits.log)) in
    record {
      prepared_kinds = all_prepared ps (λ r i. k.log.prepared_within r ((left_reordered n.durable k.log.distinct).there r i));
      committed_kinds = all_committed cs k.log.committed_within;
      distinct = subst restarts.Distinct (sym (serials_both ps cs)) (differ (record_serials ps ++ record_serials cs) apart);
      few = few;
      slots = most;
    }

-- no more units are undone than there are
fewer_active : (us : List RecoveryUnit) → length (active_units us) ≤ length us
fewer_active [] = omega arith
fewer_active (u ∷ us) = go u.prepared (fewer_active us)
  where
    go : (p : Bool) → length (active_units us) ≤ length us → length (if p then active_units us else u ∷ active_units us) ≤ suc (length us)
    go true h = omega arith
    go false h = omega arith

pub few_left : (n : Node) → IsKeptDisk n → length (left_active n) ≤ 64
few_left n k = let f = k.log.few in let l = fewer_active (units_in n.durable.units.entries) in omega arith

-- What a boot shows.

pub shown_prepared : (rs : List LogRecord) → map key_line (map (λ (r : LogRecord). record_key r) rs) ≡ map prepared_line (branches_of rs)
shown_prepared [] = refl
shown_prepared (r ∷ rs) = ap (λ ls. line.Prepared r.tid r.serial ∷ ls) (shown_prepared rs)

pub has_restarted : (s : Shared) (n o m : Node) (last undone found : List line.Line) (shown : List Line) → last ≡ last_lines n → o ≡ acted Boots n →
    undone ≡ lines_of_rows (table_rows (undo_all (map unit_key (left_active n))) s o) → found ≡ prepared_lines n → map line_of shown ≡ (last ++ undone) ++ found →
    m ≡ acted ComesUp (node_after_rows (table_rows (undo_all (map unit_key (left_active n))) s o) o) → Restarts s n shown m
has_restarted s n o m last undone found shown lasts booted undoes finds shows comes = record {
  shows = shows ∙ (λ i. (lasts i ++ undoes i) ++ finds i) ∙ ap (λ x. (last_lines n ++ lines_of_rows (table_rows (undo_all (map unit_key (left_active n))) s x)) ++ prepared_lines n) booted;
  node = comes ∙ ap (λ x. acted ComesUp (node_after_rows (table_rows (undo_all (map unit_key (left_active n))) s x) x)) booted;
}

-- One unit is undone, and then the others.

pub undone_first : (k : Key) (ks : List Key) (s : Shared) (n o m : Node) → o ≡ acted (Tables (Undoes k) (next_moment n)) n → m ≡ node_after_rows (table_rows (undo_all ks) s o) o → m ≡ node_after_rows (table_rows (undo_all (k ∷ ks)) s n) n
undone_first k ks s n o m first rest = rest ∙ ap (λ x. node_after_rows (table_rows (undo_all ks) s x) x) first

pub undone_shown : (k : Key) (ks : List Key) (s : Shared) (n o : Node) (l : line.Line) (ls all : List line.Line) → o ≡ acted (Tables (Undoes k) (next_moment n)) n → l ≡ settled_line k Abort SegFail (next_moment n) → ls ≡ lines_of_rows (table_rows (undo_all ks) s o) → all ≡ l ∷ ls →
    all ≡ lines_of_rows (table_rows (undo_all (k ∷ ks)) s n)
undone_shown k ks s n o l ls all first shown rest joined = joined ∙ (λ i. shown i ∷ rest i) ∙ ap (λ x. settled_line k Abort SegFail (next_moment n) ∷ lines_of_rows (table_rows (undo_all ks) s x)) first

-- the others are unknown then, too
pub rest_unknown : (k : Key) (ks : List Key) (n o : Node) → AreUnknown (k ∷ ks) n.volatile.branches → o ≡ acted (Tables (Undoes k) (next_moment n)) n → AreUnknown ks o.volatile.branches
rest_unknown k ks n o h first = subst (AreUnknown ks) (sym (ap (λ (x : Node). x.volatile.branches) first ∙ h.0)) h.1
