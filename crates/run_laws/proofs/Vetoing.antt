-- A veto that is taken aborts its branch, and so the transaction everywhere.
use Rattle.std.proofs.Common.{◌≡◌, ℕ, List, [], ◌∷◌, ◌++◌, inl, inr, Bool, true, false, not, ◌&&◌, ◌||◌, Option, Some, None, if◌then◌else◌, refl, sym, ◌∙◌, ap, subst}
use Rattle.std.proofs.lemmas.Bool.{and_parts, both_ways}
use Rattle.std.specs.List.{list_any}
use Rattle.std.specs.Option.{option_map}
use Rattle.std.specs.Str.{bytes_eq}
use Rattle.vms_model.specs.Ids.{Id}
use Rattle.vms_model.specs.Transactions.{Abort, Vetoed}
use Rattle.run_said.specs.transcript_model.Lines as line
use Rattle.run_said.specs.transcript_model.Lines.{Line, Cause}
use Rattle.run_said.specs.script_model.Statements.{At, AckEvent, Named as SaidName, Reading, Says}
use Rattle.run_said.specs.script_model.Grammar.{reading}
use Rattle.unit_laws.specs.records_model.History.{same_id}
use Rattle.commit_protocol.specs.Messages.{LogRecord, Name, RmEvent, VetoReply, same_name}
use Rattle.commit_protocol.specs.Table as table
use Rattle.commit_protocol.specs.Table.{Branch, Manager, Settles, branches_of, is_first, managers_of, table_after}
use Rattle.commit_protocol.specs.Rows as rows
use Rattle.commit_protocol.specs.Rows.{row, reply_row, reply_state}
use Rattle.commit_protocol.specs.Allowed.{answers_waiting, is_prepared, may_reply}
use Rattle.commit_protocol.specs.World.{In}
use Rattle.commit_protocol.proofs.Lists.{find_serial-serial, in_left}
use Rattle.run_said.specs.run_model.World as world
use Rattle.run_said.specs.run_model.World.{Act, DiskCounts, IsOpening, Node, Shared, Tables, World, acted, find_branch, find_node, find_record, opened, prepared_left, tm_of, with_changed}
use Rattle.run_said.specs.run_model.Answers as answers
use Rattle.run_said.specs.run_model.Answers.{Known, Recorded, Row, Task, Unheard, Unsettled, just, known_branch, known_serial, powers, serial_named, table_rows, task_service, told_if}
use Rattle.run_said.specs.run_model.Steps.{Choice, TaskAllowed, lines_of_rows, node_after, task_effect}
use Rattle.run_said.specs.run_model.Transcript.{AreOpening, Entry, Legal}
use Rattle.recovery_laws.proofs.world_laws.WorldLemmas.{each_opening}
use Rattle.run_laws.specs.Causes.{Names}
use Rattle.run_laws.specs.Promises.{abort, settlements_of}
use Rattle.run_laws.specs.Vetoing.{VetoesEverywhere, VetoesHold}
use Rattle.run_laws.proofs.AgreedRuns.{aborted_for_all}
use Rattle.run_laws.proofs.CausesHold.{Known as WorldKnown, named_so}
use Rattle.run_laws.proofs.CauseRuns.{known_before}
use Rattle.run_laws.proofs.Directed.{neither, not_refused}
use Rattle.run_laws.proofs.Ending.{Done, done, found_serial, settles_shown, shown_so, standing}
use Rattle.run_laws.proofs.EventsTasks.{AllWaitSo, RowHolds, RowsHold, task_holds}
use Rattle.run_laws.proofs.EventsWait.{HoldsIn, WaitsSo}
use Rattle.run_laws.proofs.Keeping.{AllTake, Kept, Keeps, Scheme, any_effect, closes_plain, down_effect}
use Rattle.run_laws.proofs.Labelling.{refused_rest, served_up}
use Rattle.run_laws.proofs.Moving.{in_cut, in_put}
use Rattle.run_laws.proofs.Noting.{serial_in}
use Rattle.run_laws.proofs.RowFits.{Fits}
use Rattle.run_laws.proofs.Settling.{IsOpen}
use Rattle.run_laws.proofs.SoundWorlds.{IsPlainReading, IsSoundNode, Tracked, Tracks, legal_sound, opening_sound, turn_tracked, unused}

-- Branches.

-- those of a boot
booted_quiet : (xs : List Name) (m : Manager) (e : RmEvent) → In m (managers_of xs) → m.event ≡ Some e → ⊥
booted_quiet [] m e i is = i
booted_quiet (x ∷ xs) m e (inl same) is = let no : ◌≡◌ {A = Option RmEvent} None (Some e) = sym (ap (λ (y : Manager). y.event) same) ∙ is in let none : ⊥ = cc in none
booted_quiet (x ∷ xs) m e (inr i) is = booted_quiet xs m e i is

booted_so : (rs : List LogRecord) (b : Branch) → In b (branches_of rs) → WaitsSo b
booted_so [] b i = absurd i
booted_so (r ∷ rs) b (inl same) = subst WaitsSo (sym same) (λ m e j is. absurd (booted_quiet r.rms m e j is))
booted_so (r ∷ rs) b (inr i) = booted_so rs b i

changed_so : (serial : Id) (bs : List Branch) → ((b : Branch) → In b bs → WaitsSo b) → (x : Branch) → In x (with_changed serial bs) → WaitsSo x
changed_so serial [] h x i = absurd i
changed_so serial (b ∷ bs) h x i = go (same_id serial b.key.serial) i (changed_so serial bs (λ y j. h y (inr j)) x)
  where
    go : (t : Bool) → In x (if t then record b { changed = true } ∷ bs else b ∷ with_changed serial bs) → (In x (with_changed serial bs) → WaitsSo x) → WaitsSo x
    go true (inl same) more = subst WaitsSo (sym same) (h b (inl refl))
    go true (inr j) more = h x (inr j)
    go false (inl same) more = subst WaitsSo (sym same) (h b (inl refl))
    go false (inr j) more = more j

table_so : (a : table.Act) (bs : List Branch) → HoldsIn a → ((b : Branch) → In b bs → WaitsSo b) → (x : Branch) → In x (table_after a bs) → WaitsSo x
table_so (table.Notes b) bs q h x i = elim (in_put b x bs i) [ inl same ↦ subst WaitsSo (sym same) q | inr old ↦ h x old ]
table_so (table.Accepts b c) bs q h x i = elim (in_put (record b { accepted = b.accepted ++ c ∷ [] }) x bs i) [ inl same ↦ subst WaitsSo (sym same) q | inr old ↦ h x old ]
table_so (table.Prepares b) bs q h x i = elim (in_put (record b { state = table.Prepared }) x bs i) [ inl same ↦ subst WaitsSo (sym same) (λ m e j is. absurd (q m e j is)) | inr old ↦ h x old ]
table_so (table.Settles k o reason r) bs q h x i = h x (in_cut k x bs i)
table_so (table.Leaves k) bs q h x i = h x (in_cut k x bs i)
table_so (table.Undoes k) bs q h x i = h x (in_cut k x bs i)
table_so _ bs q h x i = h x i

act_so : (free : Bool) (o : Option Act) (n : Node) → Fits free o n → RowHolds o → AllWaitSo n → AllWaitSo (node_after o n)
act_so free None n f q h = h
act_so free (Some (Tables a moment)) n f q h = table_so a n.volatile.branches q h
act_so free (Some (world.Changes tid serial file cs keys)) n f q h = changed_so serial n.volatile.branches h
act_so free (Some world.Boots) n f q h = booted_so (prepared_left n.durable)
act_so free (Some _) n f q h = h

-- Of a node that is up, and of one that is booted.
abbrev waiting : Scheme
waiting = record { Told = Unit {0}; more = λ ls a. a; Up = λ free a n. AllWaitSo n; Disk = λ a n. Unit {0}; Boots = λ a n. AllWaitSo n; Ready = λ n. Unit {0}; Takes = λ o. RowHolds o; special = λ r. false }

waiting_keeps : Keeps waiting
waiting_keeps = record {
  none = λ a. refl;
  append = λ xs ys a. refl;
  plain = λ ls a h v. refl;
  closes = closes_plain waiting (λ ls a h. refl);
  same = λ a n m name durable settled h. tt;
  row = λ free r n a q f up h. act_so free r.act n f.fits q h;
  under = λ free r n a act q f is d up h. tt;
  falls = λ free a n up h. tt;
  weaken = λ free a n h. h;
  half = λ a n standing k ready may h. tt;
  spoils = λ a n h. tt;
  boots = λ a n k h. booted_so (prepared_left n.durable);
  booting = λ a n k h. tt;
  undoes = λ a n u next h. λ x i. h x (in_cut (answers.unit_key u) x n.volatile.branches i);
  undoing = λ a n u next h. tt;
  rests = λ a n k h. tt;
  none_ready = λ n e. tt;
  same_ready = λ n m e h. tt;
  comes = λ a n up h closed. h;
}

takes_of : (rs : List Row) → RowsHold rs → AllTake waiting rs
takes_of [] h = tt
takes_of (r ∷ rs) h = (h.0, takes_of rs h.1)

own_waits : (s : Shared) (stops : ℕ) (n : Node) (task : Task) (c : Choice) (rises : Cause → Type 0) → IsSoundNode s n → (powers (task_service task) ≡ true → Unit {0}) → TaskAllowed s stops n task rises c → Kept waiting waiting_keeps tt n → Kept waiting waiting_keeps tt (task_effect s stops n task c).node
own_waits s stops n task c rises sound ready may h = go n.up refl (powers (task_service task)) refl
  where
    any : (powers (task_service task) ≡ false → AllTake waiting ((task_service task).rows s n)) → Kept waiting waiting_keeps tt (task_effect s stops n task c).node
    any takes = any_effect waiting waiting_keeps s stops n tt sound.kept h (unused s n sound) (λ off slots journal m none. tt) task takes ready c rises may

    go : (b : Bool) → n.up ≡ b → (p : Bool) → powers (task_service task) ≡ p → Kept waiting waiting_keeps tt (task_effect s stops n task c).node
    go true up p is = any (λ off. takes_of ((task_service task).rows s n) (task_holds s n (h.runs up) task))
    go false down true on = any (λ off. absurd (both_ways (powers (task_service task)) off on))
    go false down false off = down_effect waiting waiting_keeps s stops n task tt sound.kept h off down c rises may

waiting_tracks : (node : List ℕ) → Tracks waiting waiting_keeps node
waiting_tracks node = record {
  own = λ a s stops n task c rises named sound plain ready may h. own_waits s stops n task c rises sound ready may h;
  beside = λ a s stops n m task c rises other sound may h. h;
}

plain_so : (node : List ℕ) (r : Reading) → IsPlainReading waiting waiting_keeps node (waiting_tracks node) r
plain_so node (Says (At other request)) = go (bytes_eq other node)
  where
    go : (b : Bool) → (b && false) ≡ false
    go true = refl
    go false = refl
plain_so node (Says _) = tt
plain_so node _ = tt

legal_waits : (nodes : List Node) (disks : List DiskCounts) (es : List Entry) (w : World) (node : List ℕ) → AreOpening nodes → Legal (opened nodes disks) es w → Tracked waiting waiting_keeps node tt w
legal_waits nodes disks [] w node opening legal = subst (Tracked waiting waiting_keeps node tt) (sym legal) (λ n found. at n (each_opening nodes opening node n found))
  where
    at : (n : Node) → IsOpening n → Kept waiting waiting_keeps tt n
    at n o = record { disk = tt; way = λ act e. tt; runs = λ up. absurd (both_ways n.up o.down up) }
legal_waits nodes disks (e ∷ es) w node opening legal =
    turn_tracked waiting waiting_keeps node (waiting_tracks node) legal.0 w (λ n found. tt) (reading e.source.text) e.lines tt (plain_so node (reading e.source.text)) legal.2 (legal_sound (opened nodes disks) legal.0 es (opening_sound nodes disks opening) legal.1) (legal_waits nodes disks es legal.0 node opening legal.1)

-- A veto.

-- an event waits for the manager
waits_there : (rm : Name) (ms : List Manager) → list_any (λ m. same_name m.rm rm && answers_waiting m.event VetoReply) ms ≡ true → (m : Manager) × (e : RmEvent) × In m ms × (m.event ≡ Some e)
waits_there rm [] e = let no : ⊥ = cc in absurd no
waits_there rm (x ∷ ms) e = go (same_name x.rm rm && answers_waiting x.event VetoReply) refl e (waits_there rm ms)
  where
    event_of : (o : Option RmEvent) → answers_waiting o VetoReply ≡ true → (v : RmEvent) × (o ≡ Some v)
    event_of (Some v) k = (v, refl)
    event_of None k = let no : ⊥ = cc in absurd no

    go : (b : Bool) → (same_name x.rm rm && answers_waiting x.event VetoReply) ≡ b → (b || list_any (λ m. same_name m.rm rm && answers_waiting m.event VetoReply) ms) ≡ true →
        (list_any (λ m. same_name m.rm rm && answers_waiting m.event VetoReply) ms ≡ true → (m : Manager) × (v : RmEvent) × In m ms × (m.event ≡ Some v)) → (m : Manager) × (v : RmEvent) × In m (x ∷ ms) × (m.event ≡ Some v)
    go true is k more = let v = event_of x.event (and_parts (same_name x.rm rm) (answers_waiting x.event VetoReply) is).1 in (x, v.0, inl refl, v.1)
    go false is k more = let y = more k in (y.0, y.1, inr y.2, y.3)

-- the branch is one that takes it
record Takes (b : Branch) : Type 0 where
  unprepared : is_prepared b.state ≡ false
  settles : (rm : Name) (rs : List LogRecord) → In (Settles b.key Abort Vetoed None) (reply_row b.key.serial rm VetoReply (Some b) rs)

takes : (rm : Name) (b : Branch) → WaitsSo b → may_reply rm VetoReply b ≡ true → Takes b
takes rm b h may =
    let x = waits_there rm b.managers may in
    elim (h x.0 x.1 x.2 x.3).1 [
      | inl first ↦ record { unprepared = ap is_prepared first.0; settles = λ y rs. subst (λ s. In (Settles b.key Abort Vetoed None) (reply_state y VetoReply b s)) (sym first.0) (at_first y (is_first b) first.1) }
      | inr other ↦ record { unprepared = ap is_prepared other.0; settles = λ y rs. subst (λ s. In (Settles b.key Abort Vetoed None) (reply_state y VetoReply b s)) (sym other.0) (at_other y b.asked other.1) }
    ]
  where
    at_first : (y : Name) (t : Bool) → t ≡ true → In (Settles b.key Abort Vetoed None) (if t then rows.first_reply y VetoReply b else [])
    at_first y true e = inl refl
    at_first y false e = let no : ⊥ = cc in absurd no

    at_other : (y : Name) (t : Bool) → t ≡ true → In (Settles b.key Abort Vetoed None) (if t then rows.branch_reply y VetoReply b else [])
    at_other y true e = inl refl
    at_other y false e = let no : ⊥ = cc in absurd no

found_in : (serial : Id) (bs : List Branch) (b : Branch) → find_branch serial bs ≡ Some b → In b bs × (b.key.serial ≡ serial)
found_in serial bs b e = let f = found_serial serial bs b e in (serial_in serial bs b f, find_serial-serial serial bs b f)

-- what refuses no veto of the manager
abbrev Unrefused : Name → Known → Type 0
Unrefused rm k = (known_branch k ≡ None) × (answers.awaited_reply rm VetoReply k ≡ None)

module _ (before : List Entry) (w v : World) (node : List ℕ) (who : SaidName) (rm : Name) (events : List Line) (known : WorldKnown before w) (d : Done w v node (AckEvent who rm VetoReply) events line.Normal) (waits : d.n.up ≡ true → AllWaitSo d.n) where
  record Vetoes : Type 0 where
    tid : Id
    serial : Id
    moment : ℕ
    names : Names before who tid serial
    home : serial.node ≡ node
    shown : In (line.Aborted tid serial Vetoed moment) events
    settled : In (abort tid serial Vetoed moment) (settlements_of serial.node v)

  -- the branch of this serial is unsettled at the node
  of_branch : (serial : Id) → serial_named w.shared d.n who ≡ Some serial → (b : Branch) → find_branch serial d.n.volatile.branches ≡ Some b → may_reply rm VetoReply b ≡ true → Vetoes
  of_branch serial is b found may =
      let up = served_up d.n _ d.first in
      let there = found_in serial d.n.volatile.branches b found in
      let t = takes rm b (waits up b there.0) may in
      let open_k : IsOpen d.n.volatile.branches b.key = record { branch = b; there = there.0; key = refl; unprepared = t.unprepared } in
      let home : b.key.serial.node ≡ node = known.named.home node d.n d.found b.key (b, there.0, t.unprepared, refl) in
      let todo = row (tm_of d.n) (rows.Replied serial rm VetoReply) in
      let found_row : todo ≡ reply_row serial rm VetoReply (Some b) d.n.volatile.records = ap (λ o. reply_row serial rm VetoReply o d.n.volatile.records) (found_serial serial d.n.volatile.branches b found) in
      let acts : In (Settles b.key Abort Vetoed None) todo = subst (In (Settles b.key Abort Vetoed None)) (sym found_row) (subst (λ x. In (Settles b.key Abort Vetoed None) (reply_row x rm VetoReply (Some b) d.n.volatile.records)) there.1 (t.settles rm d.n.volatile.records)) in
      let s = settles_shown b.key Abort Vetoed None todo w.shared d.n acts in
      let lines : events ≡ lines_of_rows (table_rows todo w.shared d.n) ++ [] = d.shows ∙ ap (λ (o : Option Id). lines_of_rows (told_if w.shared d.n (option_map (λ x. just (rows.Replied x rm VetoReply)) o)) ++ []) is in
      let shown : In (line.Aborted b.key.tid b.key.serial Vetoed s.0) events = subst (In (line.Aborted b.key.tid b.key.serial Vetoed s.0)) (sym lines) (in_left _ (lines_of_rows (table_rows todo w.shared d.n)) [] s.1) in
      record {
        tid = b.key.tid;
        serial = b.key.serial;
        moment = s.0;
        names = named_so before w known node d.n d.found who serial b.key is open_k there.1;
        home = home;
        shown = shown;
        settled = shown_so b.key Abort Vetoed s.0 node v events home shown d.settled;
      }

  -- what is known of it is a branch: a record waits for no veto
  vetoes : Vetoes
  vetoes = named (serial_named w.shared d.n who) refl refused
    where
      refused : Unrefused rm (answers.known w.shared d.n who)
      refused =
          let x = neither (answers.made_name w.shared d.n who) _ (refused_rest (not (d.n.up || false)) _ d.first) in
          let y = neither (known_branch (answers.known w.shared d.n who)) _ x.1 in
          let z = neither (answers.declared_manager d.n rm) _ y.1 in
          (y.0, (neither (answers.known_manager rm (answers.known w.shared d.n who)) (answers.awaited_reply rm VetoReply (answers.known w.shared d.n who)) z.1).1)

      unheard : ◌≡◌ {A = Option Line} (Some line.NoSuchTransaction) None → Vetoes
      unheard e = let no : ⊥ = cc in absurd no

      of_record : (o : Option LogRecord) → Unrefused rm (elim o [ Some r ↦ Recorded r | None ↦ Unheard ]) → Vetoes
      of_record (Some r) q = let no : true ≡ false = not_refused true line.WrongState q.1 in let none : ⊥ = cc in absurd none
      of_record None q = unheard q.0

      at : (serial : Id) → serial_named w.shared d.n who ≡ Some serial → (o : Option Branch) → find_branch serial d.n.volatile.branches ≡ o →
          Unrefused rm (elim o [ Some b ↦ Unsettled b | None ↦ elim (find_record serial d.n.volatile.records) [ Some r ↦ Recorded r | None ↦ Unheard ] ]) → Vetoes
      at serial is (Some b) found q = of_branch serial is b found (holds (may_reply rm VetoReply b) (not_refused (not (may_reply rm VetoReply b)) line.WrongState q.1))
        where
          holds : (t : Bool) → not t ≡ false → t ≡ true
          holds true e = refl
          holds false e = let no : ⊥ = cc in absurd no
      at serial is None found q = of_record (find_record serial d.n.volatile.records) q

      named : (o : Option Id) → serial_named w.shared d.n who ≡ o → Unrefused rm (elim o [ Some serial ↦ known_serial d.n serial | None ↦ Unheard ]) → Vetoes
      named (Some serial) is q = at serial is (find_branch serial d.n.volatile.branches) refl q
      named None is q = unheard q.0

pub vetoes_hold : VetoesHold
vetoes_hold nodes disks es closing opening legal before node who rm events there =
    let s = standing nodes disks es before (At node (AckEvent who rm VetoReply)) events line.Normal closing opening legal there in
    let d = done s.w s.v node (AckEvent who rm VetoReply) events line.Normal refl refl refl refl (λ cause e. let no : ⊥ = cc in no) s.step in
    let x = vetoes before s.w s.v node who rm events (known_before nodes disks before s.w opening s.legal) d (λ up. (legal_waits nodes disks before s.w node opening s.legal d.n d.found).runs up) in
    (x.tid, x.serial, x.moment, x.names, x.home, x.shown, (abort x.tid x.serial Vetoed x.moment, s.stay x.serial.node (abort x.tid x.serial Vetoed x.moment) x.settled, refl))

pub vetoes_everywhere : VetoesEverywhere
vetoes_everywhere base es since closing agreed vetoes before node who rm events there =
    let x = vetoes before node who rm events there in
    (x.0, x.1, x.3, λ r branch. agreed.alike r (table.child x.0 x.1) branch (aborted_for_all r closing x.0 x.1 Vetoed x.2 x.6 base))
