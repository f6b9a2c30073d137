-- What holds of a node in every world is kept by each form of a task, at each choice.
use Rattle.std.proofs.Common.{◌≡◌, ◌≤◌, ℕ, zero, suc, ◌+◌, List, [], ◌∷◌, length, take, drop, Bool, true, false, not, ◌||◌, Option, Some, None, if◌then◌else◌, refl, sym, ◌∙◌, ap, subst, arith}
use Rattle.std.specs.Prelude.{replicate}
use Rattle.std.proofs.lemmas.Bool.{both_ways, or_parts}
use Rattle.vms_model.specs.Limits.{lock_limit}
use Rattle.run_model.specs.transcript_model.Lines as line
use Rattle.run_model.specs.transcript_model.Lines.{Line, Cause}
use Rattle.run_model.specs.unit_laws.Journal.{empty_journal, is_settled_in}
use Rattle.run_model.proofs.unit_laws.NoteLemmas.{unchanged_has_notes}
use Rattle.run_model.specs.commit_protocol.Messages.{LogRecord}
use Rattle.run_model.specs.commit_protocol.Table as table
use Rattle.run_model.specs.log_laws.Slots.{prepared_of, committed_of, records_in}
use Rattle.run_model.specs.Locks.{Lock}
use Rattle.run_model.specs.World.{Act, Arms, Boots, Changes, Clocks, ComesUp, Creates, Declares, Directs, Draws, Durable, Falls, Formats, Holds, IsLogInOrder, Labels, Marks, Saves, Recovers, MayTurnOut, Node, Numbers, Outturn, Shared, Tables, Unknown, acted, durable_after, made_volume, powered, prepared_left, relocked, relocked_by, shared_after, shared_tabled, unpowered, IsOfTransaction, without_units, IsReached}
use Rattle.run_model.specs.Answers.{Row, Service, Unused, Powered, MadeAnew, boot_rows, occupies, plain, powers, silent, spoils, refused_before_reading}
use Rattle.run_model.specs.Operations.{refused_if}
use Rattle.run_model.specs.Steps.{Choice, Cut, Unpowered, Whole, WithoutMemory, ServiceAllowed, act_begun, begun, cut, node_after, node_after_rows, occupied, ready_node, rows_if, rows_to_cut, service_effect, shared_after_rows, shared_then, with_unknown_volume, succeeded, whole}
use Rattle.world_laws.specs.Running.{no_history}
use Rattle.world_laws.proofs.AnswerLemmas.{neither, not_refused}
use Rattle.world_laws.proofs.ComeUp.{come_room, come_up}
use Rattle.world_laws.proofs.DiskLemmas.{disk_acted}
use Rattle.world_laws.proofs.ServedLemmas.{RowsKeep}
use Rattle.world_laws.proofs.UpLemmas.{same_up}
use Rattle.world_laws.proofs.UndoLemmas.{boot_kept, kept_up}
use Rattle.world_laws.proofs.NodeLemmas.{cut_kept, kept_as, last_up, not_up, powered_ready, rows_way, up_kept}
use Rattle.run_model.specs.commit_protocol.Table.{record_serials}
use Rattle.run_model.specs.commit_protocol.Agreement.{Distinct}
use Rattle.run_model.specs.commit_protocol.World.{In}
use Rattle.std.specs.List.{AllByRecursion}
use Rattle.world_laws.specs.Nodes.{AreKept, IsKeptDisk, IsKeptNode, on}

-- Whether a node may be in use.

tabled_use : (a : table.Act) (s : Shared) → (shared_tabled a s).in_use ≡ s.in_use
tabled_use (table.Accepts b c) s = refl
tabled_use (table.Leaves k) s = refl
tabled_use (table.Sends m) s = refl
tabled_use (table.Notes b) s = refl
tabled_use (table.Prepares b) s = refl
tabled_use (table.Settles k o reason r) s = refl
tabled_use (table.Acknowledges k) s = refl
tabled_use (table.Releases x rm) s = refl
tabled_use (table.Undoes k) s = refl
tabled_use (table.Prints l) s = refl

acted_use : (act : Act) (s : Shared) → (shared_after act s).in_use ≡ s.in_use
acted_use (Tables a moment) s = tabled_use a s
acted_use (Labels l) s = refl
acted_use (Numbers label serial) s = refl
acted_use (Formats slots journal) s = refl
acted_use Boots s = refl
acted_use ComesUp s = refl
acted_use (Creates place file) s = refl
acted_use (Marks file mark) s = refl
acted_use (Saves file start) s = refl
acted_use (Recovers file start buckets m) s = refl
acted_use Draws s = refl
acted_use (Changes tid serial file changes keys) s = refl
acted_use (Holds serial file keys) s = refl
acted_use (Directs file changes settlement) s = refl
acted_use (Arms writes choice) s = refl
acted_use (Clocks now) s = refl
acted_use (Declares rms) s = refl
acted_use Falls s = refl

then_use : (o : Option Act) (s : Shared) → (shared_then o s).in_use ≡ s.in_use
then_use None s = refl
then_use (Some act) s = acted_use act s

rows_use : (rs : List Row) (s : Shared) → (shared_after_rows rs s).in_use ≡ s.in_use
rows_use [] s = refl
rows_use (r ∷ rs) s = rows_use rs (shared_then r.act s) ∙ then_use r.act s

occupied_use : (e : Service) (s : Shared) → (occupied e s).in_use ≡ false → s.in_use ≡ false
occupied_use e s h = (or_parts s.in_use (occupies e) h).0

whole_use : (s : Shared) (n ready : Node) (e : Service) (o : Option Line) → (whole s n ready e o).shared.in_use ≡ false → s.in_use ≡ false
whole_use s n ready e (Some refusal) h = h
whole_use s n ready e None h = go (e.refused_after_reading s ready) h
  where
    go : (o : Option Line) → (begun s ready e o).shared.in_use ≡ false → s.in_use ≡ false
    go (Some refusal) k = k
    go None k = sym (then_use e.closing (shared_after_rows (e.rows s ready) s) ∙ rows_use (e.rows s ready) s) ∙ occupied_use e (shared_then e.closing (shared_after_rows (e.rows s ready) s)) k

-- where none may be in use after a task, none may have been before
pub use_before : (s : Shared) (stops : ℕ) (n : Node) (e : Service) (c : Choice) → (service_effect s stops n e c).shared.in_use ≡ false → s.in_use ≡ false
use_before s stops n e (Whole o) h = whole_use s n (ready_node o stops e n) e (refused_before_reading s n e) h
use_before s stops n e WithoutMemory h = h
use_before s stops n e Unpowered h = occupied_use e s h
use_before s stops n e (Cut o k b cause) h =
    let ready = ready_node o stops e n in
    sym (rows_use (take k (rows_to_cut s ready e)) s) ∙ occupied_use e (shared_after_rows (take k (rows_to_cut s ready e)) s) h

-- what is shared tells of a node no more than whether it may be in use
pub kept_sharing : (s t : Shared) (n : Node) → (t.in_use ≡ false → s.in_use ≡ false) → IsKeptNode s n → IsKeptNode t n
kept_sharing s t n f h = record { disk = h.disk; way = h.way; runs = h.runs; unused = λ e. h.unused (f e) }

none_under : (o : Option Act) → o ≡ None → (act : Act) → {A : Type 0} → o ≡ Some act → A
none_under o e act f = let clash : ◌≡◌ {A = Option Act} None (Some act) = sym e ∙ f in let none : ⊥ = cc in absurd none

-- A task of a node that is up.

module _ (e : Service) (p : powers e ≡ false) (closing : e.closing ≡ None) (down : e.while_down ≡ false) (s : Shared) (stops : ℕ) (n : Node) (h : IsKeptNode s n)
    (keeps : n.up ≡ true → refused_before_reading s n e ≡ None → e.refused_after_reading s n ≡ None → RowsKeep (e.rows s n) n) where
  same_ready : (o : Outturn) → ready_node o stops e n ≡ n
  same_ready o = ap (λ b. if b then with_unknown_volume (spoils e) (powered o stops n) else n) p

  is_up : refused_before_reading s n e ≡ None → n.up ≡ true
  is_up r = go n.up (subst (λ b. not (n.up || b) ≡ false) down (not_refused (not (n.up || e.while_down)) line.NodeDown (neither (refused_if (not (n.up || e.while_down)) line.NodeDown) (e.refused_before_reading s n) r).0))
    where
      go : (b : Bool) → not (b || false) ≡ false → b ≡ true
      go true k = refl
      go false k = let none : ⊥ = cc in absurd none

  rests : n.up ≡ true → n.under_way ≡ None
  rests up = go n.under_way refl
    where
      go : (o : Option Act) → n.under_way ≡ o → o ≡ None
      go None k = refl
      go (Some act) k = absurd (both_ways n.up (h.way act k).2 up)

  used : (t : Shared) → n.up ≡ true → (t.in_use ≡ false → s.in_use ≡ false) → t.in_use ≡ false → ⊥
  used t up f k = both_ways n.up (h.unused (f k)).0 up

  done_kept : (t : Shared) → n.up ≡ true → (t.in_use ≡ false → s.in_use ≡ false) → RowsKeep (e.rows s n) n → IsKeptNode t (node_after_rows (e.rows s n) n)
  done_kept t up f k = record {
    disk = kept_up (node_after_rows (e.rows s n) n) (last_up (e.rows s n) n k.up);
    way = λ act w. none_under (node_after_rows (e.rows s n) n).under_way (rows_way (e.rows s n) n ∙ rests up) act w;
    runs = λ u. (last_up (e.rows s n) n k.up, k.room);
    unused = λ q. absurd (used t up f q);
  }

  begun_kept : (o : Option Line) → e.refused_after_reading s n ≡ o → refused_before_reading s n e ≡ None → ((begun s n e o).shared.in_use ≡ false → s.in_use ≡ false) → IsKeptNode (begun s n e o).shared (begun s n e o).node
  begun_kept (Some refusal) q r f = h
  begun_kept None q r f =
      let k = done_kept (succeeded s n e).shared (is_up r) f (keeps (is_up r) r q) in
      subst (λ o. IsKeptNode (succeeded s n e).shared (node_after o (node_after_rows (e.rows s n) n))) (sym closing) k

  whole_kept : (o : Option Line) → refused_before_reading s n e ≡ o → ((whole s n n e o).shared.in_use ≡ false → s.in_use ≡ false) → IsKeptNode (whole s n n e o).shared (whole s n n e o).node
  whole_kept (Some refusal) r f = h
  whole_kept None r f = begun_kept (e.refused_after_reading s n) refl r f

  cut_rows : (o : Option Line) → e.refused_after_reading s n ≡ o → refused_before_reading s n e ≡ None → AreKept (rows_if o (e.rows s n)) n
  cut_rows (Some refusal) q r = h.disk
  cut_rows None q r = up_kept (e.rows s n) n (keeps (is_up r) r q).up

  cut_effect : (k : ℕ) (b : Bool) (cause : Cause) → refused_before_reading s n e ≡ None → ((cut s n e (rows_to_cut s n e) k b cause).shared.in_use ≡ false → s.in_use ≡ false) → IsKeptNode (cut s n e (rows_to_cut s n e) k b cause).shared (cut s n e (rows_to_cut s n e) k b cause).node
  cut_effect k b cause r f = cut_kept (cut s n e (rows_to_cut s n e) k b cause).shared b k (rows_to_cut s n e) n (cut_rows (e.refused_after_reading s n) refl r) (λ q. absurd (used (cut s n e (rows_to_cut s n e) k b cause).shared (is_up r) f q))

  pub up_effect : (c : Choice) (rises : Cause → Type 0) → ServiceAllowed s stops n e rises c → IsKeptNode (service_effect s stops n e c).shared (service_effect s stops n e c).node
  up_effect (Whole o) rises a = subst (λ m. ((whole s n m e (refused_before_reading s n e)).shared.in_use ≡ false → s.in_use ≡ false) → IsKeptNode (whole s n m e (refused_before_reading s n e)).shared (whole s n m e (refused_before_reading s n e)).node) (sym (same_ready o))
      (whole_kept (refused_before_reading s n e) refl) (use_before s stops n e (Whole o))
  up_effect WithoutMemory rises a = h
  up_effect Unpowered rises a = absurd (both_ways (powers e) p a.1)
  up_effect (Cut o k b cause) rises a = subst (λ m. ((cut s m e (rows_to_cut s m e) k b cause).shared.in_use ≡ false → s.in_use ≡ false) → IsKeptNode (cut s m e (rows_to_cut s m e) k b cause).shared (cut s m e (rows_to_cut s m e) k b cause).node) (sym (same_ready o))
      (cut_effect k b cause a.0) (use_before s stops n e (Cut o k b cause))

-- A task of any node that touches neither its disk nor its table.

pub same_kept : (s : Shared) (n m : Node) → m.name ≡ n.name → m.durable ≡ n.durable → m.volatile ≡ n.volatile → m.under_way ≡ n.under_way → m.up ≡ n.up → IsKeptNode s n → IsKeptNode s m
same_kept s n m name durable volatile way up h = record {
  disk = kept_as n m name durable h.disk;
  way = λ act e.
      let w = h.way act (sym way ∙ e) in
      (w.0, kept_as (on (durable_after act n.volatile n.durable) n) (on (durable_after act m.volatile m.durable) m) name (λ i. durable_after act (volatile i) (durable i)) w.1, up ∙ w.2);
  runs = λ e. let r = h.runs (sym up ∙ e) in (same_up n m name durable volatile r.0, subst (λ v. length v.branches + length v.records ≤ length m.durable.log) (sym volatile) (subst (λ d. length n.volatile.branches + length n.volatile.records ≤ length d.log) (sym durable) r.1));
  unused = λ e. let u = h.unused e in (up ∙ u.0, way ∙ u.1);
}

-- A boot.

kept_spoilt : (b : Bool) (n : Node) → IsKeptDisk n → IsKeptDisk (with_unknown_volume b n)
kept_spoilt false n k = k
kept_spoilt true n k = record {
  filed = record { can = k.filed.can; names = k.filed.names; reached = k.filed.reached; plain = k.filed.plain; carries = k.filed.carries; moments = k.filed.moments; images = k.filed.images; one = k.filed.one };
  log = record { distinct = k.log.distinct; reached = k.log.reached; prepared_within = k.log.prepared_within; committed_within = k.log.committed_within; prepared = k.log.prepared; active = k.log.active; transactions = k.log.transactions; unsettled = k.log.unsettled; few = k.log.few; slots = k.log.slots };
  unnoted = k.unnoted;
  few = subst (λ (ls : List Lock). length ls ≤ lock_limit) (sym (same_locks n.durable (prepared_left n.durable) [])) k.few;
}
  where
    same_locks : (d : Durable) (rs : List LogRecord) (ls : List Lock) → relocked rs (record d { volume = Unknown }) ls ≡ relocked rs d ls
    same_locks d [] ls = refl
    same_locks d (r ∷ rs) ls = same_locks d rs (relocked_by r.serial d.directory d.units.entries ls)

dead_kept : (s : Shared) (stops : ℕ) (n : Node) (e : Service) → IsKeptNode s n → IsKeptNode (occupied e s) (unpowered stops n)
dead_kept s stops n e h = record {
  disk = kept_as n (unpowered stops n) refl refl h.disk;
  way = λ act w. let k = h.way act w in (k.0, kept_as (on (durable_after act n.volatile n.durable) n) (on (durable_after act n.volatile n.durable) (unpowered stops n)) refl refl k.1, refl);
  runs = λ u. not_up u;
  unused = λ q. (refl, (h.unused (occupied_use e s q)).1);
}

-- where nothing is under way
spoilt_dead : (s : Shared) (stops : ℕ) (n : Node) (e : Service) → n.under_way ≡ None → IsKeptNode s n → IsKeptNode (occupied e s) (with_unknown_volume true (unpowered stops n))
spoilt_dead s stops n e rests h =
    let k = dead_kept s stops n e h in
    record { disk = kept_spoilt true (unpowered stops n) k.disk; way = λ act w. none_under n.under_way rests act w; runs = λ u. not_up u; unused = λ q. (refl, rests) }

-- Making a service of a boot.
abbrev pub boot_service : (before after : Shared → Node → Option Line) → (Shared → Node → Line) → (Node → Bool) → (Node → List Line) → Service
boot_service before after answer memory lines = record (plain Powered before after boot_rows answer) { while_down = true; takes_memory = memory; closing = Some ComesUp; closing_lines = lines }

module _ (before after : Shared → Node → Option Line) (answer : Shared → Node → Line) (memory : Node → Bool) (lines : Node → List Line) (s : Shared) (stops : ℕ) (n : Node) (h : IsKeptNode s n)
    (down : before s n ≡ None → n.up ≡ false) where
  abbrev boots : Service
  boots = boot_service before after answer memory lines

  is_down : refused_before_reading s n boots ≡ None → n.up ≡ false
  is_down r = down (neither (refused_if (not (n.up || true)) line.NodeDown) (before s n) r).1

  ready_kept : (o : Outturn) → MayTurnOut n o → n.up ≡ false → IsKeptNode s (powered o stops n)
  ready_kept o may d =
      let r = powered_ready o stops s n may h in
      record {
        disk = r.disk;
        way = λ act w. none_under (powered o stops n).under_way r.way act w;
        runs = λ u. not_up (sym (r.up ∙ d) ∙ u);
        unused = λ q. (r.up ∙ d, r.way);
      }

  come_kept : (o : Outturn) → MayTurnOut n o → (t : Shared) → (t.in_use ≡ true) → IsKeptNode t (acted ComesUp (node_after_rows (boot_rows s (powered o stops n)) (powered o stops n)))
  come_kept o may t used =
      let r = powered_ready o stops s n may h in
      let m = powered o stops n in
      let up = come_up s m r.disk in
      record {
        disk = kept_up (acted ComesUp (node_after_rows (boot_rows s m) m)) up;
        way = λ act w. none_under (acted ComesUp (node_after_rows (boot_rows s m) m)).under_way (rows_way (boot_rows s m) m ∙ r.way) act w;
        runs = λ u. (up, come_room s m r.disk);
        unused = λ q. absurd (both_ways t.in_use q used);
      }

  or_true : (b : Bool) → (b || true) ≡ true
  or_true true = refl
  or_true false = refl

  boot_begun : (o : Outturn) → MayTurnOut n o → n.up ≡ false → (q : Option Line) → IsKeptNode (begun s (powered o stops n) boots q).shared (begun s (powered o stops n) boots q).node
  boot_begun o may d (Some refusal) = ready_kept o may d
  boot_begun o may d None = come_kept o may (succeeded s (powered o stops n) boots).shared (or_true _)

  boot_whole : (o : Outturn) → MayTurnOut n o → (q : Option Line) → refused_before_reading s n boots ≡ q → IsKeptNode (whole s n (powered o stops n) boots q).shared (whole s n (powered o stops n) boots q).node
  boot_whole o may (Some refusal) r = h
  boot_whole o may None r = boot_begun o may (is_down r) (after s (powered o stops n))

  boot_rows_kept : (m : Node) → IsKeptDisk m → (q : Option Line) → AreKept (rows_if q (boot_rows s m)) m
  boot_rows_kept m k (Some refusal) = k
  boot_rows_kept m k None = boot_kept s m k

  pub boot_effect : (c : Choice) (rises : Cause → Type 0) → ServiceAllowed s stops n boots rises c → IsKeptNode (service_effect s stops n boots c).shared (service_effect s stops n boots c).node
  boot_effect (Whole o) rises a = boot_whole o a (refused_before_reading s n boots) refl
  boot_effect WithoutMemory rises a = h
  boot_effect Unpowered rises a = dead_kept s stops n boots h
  boot_effect (Cut o k b cause) rises a =
      let m = powered o stops n in
      let r = powered_ready o stops s n a.2 h in
      cut_kept (cut s m boots (rows_to_cut s m boots) k b cause).shared b k (rows_to_cut s m boots) m (boot_rows_kept m r.disk (after s m)) (λ q. absurd (both_ways _ q (or_true _)))

-- A volume is made.

pub none_in : (k : ℕ) → records_in (replicate k None) ≡ []
none_in zero = refl
none_in (suc k) = none_in k

count_of : (k : ℕ) → length {A = Option LogRecord} (replicate k None) ≡ k
count_of zero = refl
count_of (suc k) = ap suc (count_of k)

pub made_log : (m : Node) (slots journal : ℕ) → slots ≤ 512 → IsLogInOrder (acted (Formats slots journal) m)
made_log m slots journal bounds =
    let e = sym (none_in slots) in
    record {
      distinct = subst (λ rs. Distinct (record_serials rs)) e tt;
      reached = subst (AllByRecursion (λ (r : LogRecord). IsReached (acted (Formats slots journal) m) r.serial)) e tt;
      prepared_within = λ r i. absurd (subst (λ rs. In r (prepared_of rs)) (none_in slots) i);
      committed_within = λ r i. absurd (subst (λ rs. In r (committed_of rs)) (none_in slots) i);
      prepared = λ x u f p. let none : ⊥ = cc in absurd none;
      active = λ r u i f. absurd (subst (λ rs. In r (prepared_of rs)) (none_in slots) i);
      transactions = subst (λ rs. AllByRecursion (λ (r : LogRecord). AllByRecursion (IsOfTransaction r.tid r.serial) []) (prepared_of rs)) e tt;
      unsettled = subst (λ rs. AllByRecursion (λ (r : LogRecord). is_settled_in r.serial [] ≡ false) (prepared_of rs)) e tt;
      few = subst (λ rs. 0 + length (without_units empty_journal (prepared_of rs)) ≤ 64) e (omega arith);
      slots = let c = count_of slots in let high = bounds in omega (arith, c, high);
    }

pub made_kept : (m : Node) (slots journal : ℕ) → slots ≤ 512 → IsKeptDisk m → IsKeptDisk (acted (Formats slots journal) m)
made_kept m slots journal bounds k = record {
  filed = disk_acted (Formats slots journal) m.name m.volatile m.durable tt k.filed;
  log = made_log m slots journal bounds;
  unnoted = λ name e. unchanged_has_notes empty_journal name no_history refl refl;
  few = subst (λ rs. length (relocked (prepared_of rs) (made_volume slots journal) []) ≤ lock_limit) (sym (none_in slots)) (omega arith);
}

-- Making a service of an INIT.
abbrev pub init_service : (before : Shared → Node → Option Line) → (slots journal : ℕ) → (Shared → Node → Line) → Service
init_service before slots journal answer = record (plain MadeAnew before (λ s n. None) (λ s n. []) answer) { while_down = true; closing = Some (Formats slots journal) }

module _ (before : Shared → Node → Option Line) (slots journal : ℕ) (answer : Shared → Node → Line) (s : Shared) (stops : ℕ) (n : Node) (h : IsKeptNode s n) (bounds : before s n ≡ None → slots ≤ 512)
    (unused : before s n ≡ None → s.in_use ≡ false) where
  abbrev makes : Service
  makes = init_service before slots journal answer

  passes : refused_before_reading s n makes ≡ None → before s n ≡ None
  passes r = (neither (refused_if (not (n.up || true)) line.NodeDown) (before s n) r).1

  ready_spoilt : (o : Outturn) → MayTurnOut n o → refused_before_reading s n makes ≡ None → IsKeptNode s (with_unknown_volume true (powered o stops n))
  ready_spoilt o may r =
      let m = powered_ready o stops s n may h in
      let u = h.unused (unused (passes r)) in
      record { disk = kept_spoilt true (powered o stops n) m.disk; way = λ act w. none_under (powered o stops n).under_way m.way act w; runs = λ q. not_up (sym (m.up ∙ u.0) ∙ q); unused = λ q. (m.up ∙ u.0, m.way) }

  init_whole : (o : Outturn) → MayTurnOut n o → (q : Option Line) → refused_before_reading s n makes ≡ q → IsKeptNode (whole s n (with_unknown_volume true (powered o stops n)) makes q).shared (whole s n (with_unknown_volume true (powered o stops n)) makes q).node
  init_whole o may (Some refusal) r = h
  init_whole o may None r =
      let m = with_unknown_volume true (powered o stops n) in
      let k = ready_spoilt o may r in
      let u = h.unused (unused (passes r)) in
      let p = powered_ready o stops s n may h in
      record {
        disk = made_kept m slots journal (bounds (passes r)) k.disk;
        way = λ act w. none_under (powered o stops n).under_way p.way act w;
        runs = λ q. not_up (sym (p.up ∙ u.0) ∙ q);
        unused = λ q. (p.up ∙ u.0, p.way);
      }

  pub init_effect : (c : Choice) (rises : Cause → Type 0) → ServiceAllowed s stops n makes rises c → IsKeptNode (service_effect s stops n makes c).shared (service_effect s stops n makes c).node
  init_effect (Whole o) rises a = init_whole o a (refused_before_reading s n makes) refl
  init_effect WithoutMemory rises a = h
  init_effect Unpowered rises a = spoilt_dead s stops n makes (h.unused (unused (passes a.0))).1 h
  init_effect (Cut o k b cause) rises a =
      let m = with_unknown_volume true (powered o stops n) in
      cut_kept (cut s m makes (rows_to_cut s m makes) k b cause).shared b k [] m (ready_spoilt o a.2 a.0).disk (λ q. no_act b k)
    where
      no_act : (b : Bool) (k : ℕ) → act_begun b (drop k []) ≡ None
      no_act false k = refl
      no_act true zero = refl
      no_act true (suc k) = refl

-- A request that any node serves, and that touches no disk.

abbrev pub quiet_service : Act → Service
quiet_service act = record (plain Unused (λ s n. None) (λ s n. None) (λ s n. silent act ∷ []) (λ s n. line.Normal)) { while_down = true }

pub quiet_effect : (act : Act) (s : Shared) (stops : ℕ) (n : Node) → IsKeptNode s n → IsKeptNode s (acted act n) → (shared_after act s).in_use ≡ s.in_use → (c : Choice) (rises : Cause → Type 0) → ServiceAllowed s stops n (quiet_service act) rises c →
    IsKeptNode (service_effect s stops n (quiet_service act) c).shared (service_effect s stops n (quiet_service act) c).node
quiet_effect act s stops n h k same (Whole o) rises a = go (refused_before_reading s n (quiet_service act)) (use_before s stops n (quiet_service act) (Whole o))
  where
    go : (q : Option Line) → ((whole s n n (quiet_service act) q).shared.in_use ≡ false → s.in_use ≡ false) → IsKeptNode (whole s n n (quiet_service act) q).shared (whole s n n (quiet_service act) q).node
    go (Some refusal) f = h
    go None f = kept_sharing s (succeeded s n (quiet_service act)).shared (acted act n) f k
quiet_effect act s stops n h k same WithoutMemory rises a = h
quiet_effect act s stops n h k same Unpowered rises a = let b : false ≡ true = a.1 in let none : ⊥ = cc in absurd none
quiet_effect act s stops n h k same (Cut o j b cause) rises a = let b : false ≡ true = a.1 in let none : ⊥ = cc in absurd none
