-- What a boot shows to be prepared was told to be so, or a failure cut short what was to prepare it, or the disk had it as its last settlement at the opening.
use Rattle.std.proofs.Common.{◌≡◌, ℕ, ◌⊎◌, List, [], ◌∷◌, ◌++◌, inl, inr, replicate, Bool, true, false, not, ◌&&◌, Option, Some, None, refl, sym, ◌∙◌, ap, subst}
use Rattle.std.specs.List.{list_any}
use Rattle.std.specs.Option.{option_map}
use Rattle.std.specs.Str.{bytes_eq}
use Rattle.std.proofs.lemmas.Bool.{and_parts, both_ways, cases_Bool}
use Rattle.std.proofs.lemmas.Slice.Eq.{bytes_eq-Decides}
use Rattle.vms_model.specs.Ids.{Id}
use Rattle.run_said.specs.transcript_model.Lines as line
use Rattle.run_said.specs.transcript_model.Lines.{Line, Cause}
use Rattle.run_said.specs.script_model.Statements.{Statement, At, AckEvent, Clock, Deliver, EndBranch, Init, LinkDown, Settle, Request, Reading, Blank, Says, Bad, Named as SaidName}
use Rattle.run_said.specs.script_model.Grammar.{reading}
use Rattle.unit_laws.specs.records_model.History.{same_id}
use Rattle.commit_protocol.specs.Messages.{LogRecord, Message, Name, Reply}
use Rattle.commit_protocol.specs.Table.{Branch, Key as BranchKey, child, key_of}
use Rattle.commit_protocol.specs.Rows as rows
use Rattle.commit_protocol.specs.Rows.{is_veto}
use Rattle.commit_protocol.specs.Allowed.{is_prepared}
use Rattle.commit_protocol.specs.World.{In}
use Rattle.run_said.specs.log_laws.Slots.{prepared_of, records_in}
use Rattle.run_said.specs.run_model.World.{World, Node, Act, DiskCounts, IsOpening, Outturn, Settlement, find_node, opened, powered, prepared_left, prepared_serials, with_node}
use Rattle.run_said.specs.run_model.Answers.{Serves, Takes, refused_before_reading, service}
use Rattle.run_said.specs.run_model.Steps.{Choice, Cut, TaskAllowed, TaskEffect, Unpowered, Whole, WithoutMemory, ready_node, task_effect, whole, with_unknown_volume}
use Rattle.run_said.specs.run_model.Statements.{Step, RoseAt, message_at, named_node, stops_at}
use Rattle.run_said.specs.run_model.StepLaws.{TaskAt, is_refusal}
use Rattle.run_said.specs.run_model.Transcript.{Entry, Legal, AreOpening, Turn}
use Rattle.run_said.proofs.run_model.CauseLemmas.{refuses_first}
use Rattle.run_said.proofs.run_model.NodeLists.{put_node, some_is}
use Rattle.run_said.proofs.run_model.Refusing.{refusals, same_last}
use Rattle.run_said.proofs.run_model.TaskLemmas.{effect_name}
use Rattle.recovery_laws.specs.world_laws.Nodes.{IsUp}
use Rattle.recovery_laws.proofs.world_laws.EffectLemmas.{none_in}
use Rattle.recovery_laws.proofs.world_laws.IdLemmas.{id_itself}
use Rattle.recovery_laws.proofs.world_laws.TableLemmas.{one_branch}
use Rattle.recovery_laws.proofs.world_laws.UpLemmas.{differ}
use Rattle.recovery_laws.proofs.world_laws.WorldLemmas.{each_opening}
use Rattle.run_laws.specs.Accounts.{made_anew}
use Rattle.run_laws.specs.Laws.{BootedHold}
use Rattle.run_laws.specs.Naming.{IsNamed}
use Rattle.run_laws.specs.Promises.{Boots, IsPreparing, WasItsLast, WasPreparing, is_left_prepared, is_told_prepared, prepared_by}
use Rattle.run_laws.proofs.BootsPrepared.{boots_find, disk_then, in_ordered, told_shown}
use Rattle.run_laws.proofs.Casting.{TaskCasts}
use Rattle.run_laws.proofs.CauseRuns.{known_before}
use Rattle.run_laws.proofs.CausesHold.{named_so}
use Rattle.run_laws.proofs.Deciding.{in_any}
use Rattle.run_laws.proofs.Ending.{NamedBranch, named_branch}
use Rattle.run_laws.proofs.Keeping.{init_done, init_else, init_ready, is_init, powered_kept}
use Rattle.run_laws.proofs.Labelling.{LabelOf, label_of}
use Rattle.run_laws.proofs.Named.{Ended, Refused, Turned, ended, said_later}
use Rattle.run_laws.proofs.NamedRuns.{legal_named}
use Rattle.run_laws.proofs.Preparing.{PreparesBy}
use Rattle.run_laws.proofs.PreparedRuns.{not_made}
use Rattle.run_laws.proofs.Recorded.{HasIt, kept_for, recorded, recorded_keeps}
use Rattle.run_laws.proofs.RecordedTasks.{IsKnown, KeptNode, clock_suits, link_suits, one_known, own, own_whole, phases_known, settle_suits}
use Rattle.run_laws.proofs.SoundWorlds.{IsSound, IsSoundNode, legal_sound, made_once, opening_sound, sound_node, unused}
use Rattle.run_laws.proofs.Staying.{stays}
use Rattle.run_laws.proofs.VoteOwners.{left_record}
use Rattle.run_laws.proofs.Wires.{was_sent}

-- Volumes that are made anew.

made_lines : (node at : List ℕ) (slots journal : ℕ) (lines : List Line) → made_anew node (Says (At at (Init slots journal))) lines ≡ true → lines ≡ line.Normal ∷ []
made_lines node at slots journal [] e = let no : ⊥ = cc in absurd no
made_lines node at slots journal (line.Normal ∷ []) e = refl
made_lines node at slots journal (line.Normal ∷ y ∷ ls) e = let no : ⊥ = cc in absurd no
made_lines node at slots journal (x ∷ ls) e = let no : ⊥ = cc in absurd no

none_made : (k : ℕ) (r : LogRecord) → In r (prepared_of (records_in (replicate k None))) → ⊥
none_made k r i = subst (λ rs. In r (prepared_of rs)) (none_in k) i

-- Runs.

module _ (nodes : List Node) (disks : List DiskCounts) (opening : AreOpening nodes) (tid serial : Id) where
  abbrev start : World
  start = opened nodes disks

  abbrev pub Reason : List Entry → Type 0
  Reason es = WasPreparing es tid serial ⊎ WasItsLast serial (opened nodes disks)

  pub late : (es : List Entry) (s : Settlement) (m : Node) → find_node serial.node nodes ≡ Some m → m.durable.last ≡ Some s → s.serial ≡ serial → Reason es
  late es s m is last same = inr (m, is, s, last, same)

  later_reason : (e : Entry) (es : List Entry) → Reason es → Reason (e ∷ es)
  later_reason e es (inl p) = inl (p.0, p.1, p.2, p.3, said_later e es p.0 p.1 p.2 (line.Broken p.3) p.4, p.5)
  later_reason e es (inr l) = inr l

  abbrev Keeps : List Entry → Bool → Node → Type 0
  Keeps es a n = KeptNode tid serial (Reason es) (find_node serial.node nodes) (late es) a n

  abbrev pub Known : List Entry → Bool → World → Type 0
  Known es a w = IsKnown tid serial (Reason es) (find_node serial.node nodes) (late es) a w

  opening_known : (n : Node) → find_node serial.node nodes ≡ Some n → IsOpening n → Keeps [] (is_left_prepared serial start) n
  opening_known n found o = record {
    disk = (((opening_sound nodes disks opening).once serial.node n found).disk, λ t e. inr (n, found, e), λ has. inl (left has));
    way = λ act is. let clash : ◌≡◌ {A = Option Act} None (Some act) = sym o.under_way ∙ is in let no : ⊥ = cc in absurd no;
    runs = λ up. absurd (both_ways n.up o.down up);
  }
    where
      left : HasIt tid serial n.durable → is_left_prepared serial (opened nodes disks) ≡ true
      left (r, i, s, t) = ap (λ (x : Option Node). elim x as (λ y. Bool) [ Some m ↦ list_any (λ (q : LogRecord). same_id serial q.serial) (prepared_left m.durable) | None ↦ false ]) found
          ∙ in_any (λ (q : LogRecord). same_id serial q.serial) r (prepared_left n.durable) (in_ordered (prepared_serials n.durable.units.entries) (prepared_of (records_in n.durable.log)) r i) (ap (same_id serial) s ∙ id_itself serial)

  -- What a task prepares tells what prepares it.
  module _ (es : List Entry) (w : World) (legal : Legal (opened nodes disks) es w) where
    pub deliver_prepares : (number : ℕ) (m : Message) (n : Node) → message_at number w.shared.wire ≡ Some m → (b : Branch) → PreparesBy n.volatile.branches (rows.Got m) b → b.key ≡ child tid serial → IsPreparing es (Deliver number) tid serial
    deliver_prepares number m n is b q same =
        let key : key_of m ≡ child tid serial = q.4.1 ∙ sym q.3 ∙ same in
        inl (number, m, refl, was_sent nodes disks es w number m opening legal is, q.4.0, ap (λ (k : BranchKey). k.tid) key, ap (λ (k : BranchKey). k.serial) key)

    pub end_prepares : (other label : List ℕ) (n : Node) → n.up ≡ true → other ≡ serial.node → find_node other w.nodes ≡ Some n → (b : Branch) → TaskCasts w.shared n (Serves (EndBranch label)) b → b.key ≡ child tid serial → IsPreparing es (At other (EndBranch label)) tid serial
    end_prepares other label n up home found b (c, is, q) same =
        let up_n : IsUp n = ((sound_node w (legal_sound (opened nodes disks) w es (opening_sound nodes disks opening) legal) other n found).kept.runs up).0 in
        let l : LabelOf w.shared n label c = label_of w.shared n label c is in
        let one : c ≡ q.0 = one_branch n.volatile.branches c q.0 (differ n up_n.table) l.branch q.1 (sym q.4.1) in
        let key : c.key ≡ child tid serial = ap (λ (y : Branch). y.key) one ∙ sym q.3 ∙ same in
        let nb : NamedBranch es other label c = named_branch es w other label n c (legal_named nodes disks es w opening legal) found is (ap (λ (y : Branch). is_prepared y.state) one ∙ q.2) in
        inr (inl (label, ap (λ y. At y (EndBranch label)) home, subst (λ y. IsNamed es y label tid serial) home (subst (λ (k : BranchKey). IsNamed es other label k.tid k.serial) key nb.named)))

    pub reply_prepares : (other : List ℕ) (who : SaidName) (rm : Name) (reply : Reply) (n : Node) → other ≡ serial.node → find_node other w.nodes ≡ Some n → (b : Branch) → TaskCasts w.shared n (Serves (AckEvent who rm reply)) b → b.key ≡ child tid serial → IsPreparing es (At other (AckEvent who rm reply)) tid serial
    reply_prepares other who rm reply n home found b (x, is, q) same =
        let key : (q.0).key ≡ child tid serial = sym q.3 ∙ same in
        inr (inr (
          reply,
          (
            who,
            rm,
            ap (λ y. Says (At y (AckEvent who rm reply))) home,
            named_so es w (known_before nodes disks es w opening legal) other n found who x (child tid serial) is (record { branch = q.0; there = q.1; key = key; unprepared = q.2 }) (ap (λ (k : BranchKey). k.serial) (sym key) ∙ q.4.3),
          ),
          q.4.1,
        ))

  -- One entry more.
  module _ (es : List Entry) (e : Entry) (w v : World) (legal : Legal (opened nodes disks) es w) where
    abbrev told : Bool
    told = is_told_prepared serial (opened nodes disks) es

    sound : IsSound w
    sound = legal_sound (opened nodes disks) w es (opening_sound nodes disks opening) legal

    abbrev Goal : Reading → Type 0
    Goal r = Known (e ∷ es) (not (made_anew serial.node r e.lines) && prepared_by serial e.lines told) v

    plainly : (r : Reading) → made_anew serial.node r e.lines ≡ false → Known (e ∷ es) (prepared_by serial e.lines told) v → Goal r
    plainly r off k = subst (λ b. Known (e ∷ es) (not b && prepared_by serial e.lines told) v) (sym off) k

    -- a failure ended it that was to prepare the branch
    broken : (s : Statement) → reading e.source.text ≡ Says s → (events : List Line) (cause : Cause) → e.lines ≡ events ++ line.Broken cause ∷ [] → IsPreparing es s tid serial → Reason (e ∷ es)
    broken s read events cause shown why = inl (es, s, events, cause, record { after = []; entry = e; stands = refl; said = read; shown = shown }, why)

    -- a delivery
    deliver_known : (number : ℕ) → reading e.source.text ≡ Says (Deliver number) → Step w (Deliver number) e.lines v → Known (e ∷ es) told w → Known (e ∷ es) (prepared_by serial e.lines told) v
    deliver_known number read step h = go (message_at number w.shared.wire) refl
      where
        go : (x : Option Message) → message_at number w.shared.wire ≡ x → Known (e ∷ es) (prepared_by serial e.lines told) v
        go (Some m) is = one_known tid serial (Reason (e ∷ es)) (find_node serial.node nodes) (late (e ∷ es)) w v (Deliver number) e.lines m.to (Takes m) told (ap (option_map {U = TaskAt} (λ (x : Message). record { node = x.to; task = Takes x })) is) step sound
            (λ n c home found allowed shows k. own_whole tid serial (Reason (e ∷ es)) (find_node serial.node nodes) (late (e ∷ es)) w.shared (stops_at m.to w) n (Takes m) c (λ cause. RoseAt w m.to cause v.disks) told (sound_node w sound m.to n found) refl refl
            (λ up outturn j b cause cut x q same. broken (Deliver number) read (task_effect w.shared (stops_at m.to w) n (Takes m) (Cut outturn j b cause)).lines cause
            (shows ∙ ap (λ y. (task_effect w.shared (stops_at m.to w) n (Takes m) y).lines ++ (task_effect w.shared (stops_at m.to w) n (Takes m) y).answer ∷ []) cut) (deliver_prepares es w legal number m n is x q same)) allowed k) h
        go None is =
            let r = refusals.0 w v (Deliver number) e.lines line.NoSuchMessage step (ap (λ (x : Option Message). elim x as (λ y. Option Line) [ Some m ↦ named_node w m.to | None ↦ Some line.NoSuchMessage ]) is) in
            subst (λ ls. Known (e ∷ es) (prepared_by serial ls told) v) (sym r.0) (subst (Known (e ∷ es) told) (sym r.1) h)

    -- an END_BRANCH
    end_known : (other label : List ℕ) → reading e.source.text ≡ Says (At other (EndBranch label)) → Step w (At other (EndBranch label)) e.lines v → Known (e ∷ es) told w → Known (e ∷ es) (prepared_by serial e.lines told) v
    end_known other label read step h = one_known tid serial (Reason (e ∷ es)) (find_node serial.node nodes) (late (e ∷ es)) w v (At other (EndBranch label)) e.lines other (Serves (EndBranch label)) told refl step sound
        (λ n c home found allowed shows k. own_whole tid serial (Reason (e ∷ es)) (find_node serial.node nodes) (late (e ∷ es)) w.shared (stops_at other w) n (Serves (EndBranch label)) c (λ cause. RoseAt w other cause v.disks) told (sound_node w sound other n found) refl refl
        (λ up outturn j b cause cut x q same. broken (At other (EndBranch label)) read (task_effect w.shared (stops_at other w) n (Serves (EndBranch label)) (Cut outturn j b cause)).lines cause
        (shows ∙ ap (λ y. (task_effect w.shared (stops_at other w) n (Serves (EndBranch label)) y).lines ++ (task_effect w.shared (stops_at other w) n (Serves (EndBranch label)) y).answer ∷ []) cut) (end_prepares es w legal other label n up home found x q same)) allowed k) h

    -- a reply of a resource manager
    reply_known : (other : List ℕ) (who : SaidName) (rm : Name) (reply : Reply) → reading e.source.text ≡ Says (At other (AckEvent who rm reply)) → Step w (At other (AckEvent who rm reply)) e.lines v → Known (e ∷ es) told w → Known (e ∷ es) (prepared_by serial e.lines told) v
    reply_known other who rm reply read step h = one_known tid serial (Reason (e ∷ es)) (find_node serial.node nodes) (late (e ∷ es)) w v (At other (AckEvent who rm reply)) e.lines other (Serves (AckEvent who rm reply)) told refl step sound
        (λ n c home found allowed shows k. own_whole tid serial (Reason (e ∷ es)) (find_node serial.node nodes) (late (e ∷ es)) w.shared (stops_at other w) n (Serves (AckEvent who rm reply)) c (λ cause. RoseAt w other cause v.disks) told (sound_node w sound other n found) refl refl
        (λ up outturn j b cause cut x q same. broken (At other (AckEvent who rm reply)) read (task_effect w.shared (stops_at other w) n (Serves (AckEvent who rm reply)) (Cut outturn j b cause)).lines cause
        (shows ∙ ap (λ y. (task_effect w.shared (stops_at other w) n (Serves (AckEvent who rm reply)) y).lines ++ (task_effect w.shared (stops_at other w) n (Serves (AckEvent who rm reply)) y).answer ∷ []) cut) (reply_prepares es w legal other who rm reply n home found x q same)) allowed k) h

    -- a request, but an INIT of the node
    request_known : (other : List ℕ) (request : Request) → (bytes_eq other serial.node && is_init (Serves request)) ≡ false → reading e.source.text ≡ Says (At other request) → Step w (At other request) e.lines v → Known (e ∷ es) told w → Known (e ∷ es) (prepared_by serial e.lines told) v
    request_known other (EndBranch label) off read step h = end_known other label read step h
    request_known other (AckEvent who rm reply) off read step h = reply_known other who rm reply read step h
    request_known other (Clock now) off read step h = phases_known tid serial (Reason (e ∷ es)) (find_node serial.node nodes) (late (e ∷ es)) w v (At other (Clock now)) e.lines told (clock_suits tid serial (Reason (e ∷ es)) (find_node serial.node nodes) (late (e ∷ es)) other now) step sound h
    request_known other (Init slots journal) off read step h = one_known tid serial (Reason (e ∷ es)) (find_node serial.node nodes) (late (e ∷ es)) w v (At other (Init slots journal)) e.lines other (Serves (Init slots journal)) told refl step sound
        (λ n c home found allowed shows k. absurd (both_ways (bytes_eq other serial.node && true) off (ap (λ b. b && true) ((bytes_eq-Decides other serial.node).1 home)))) h
    request_known other request off read step h = one_known tid serial (Reason (e ∷ es)) (find_node serial.node nodes) (late (e ∷ es)) w v (At other request) e.lines other (Serves request) told refl step sound
        (λ n c home found allowed shows k. own tid serial (Reason (e ∷ es)) (find_node serial.node nodes) (late (e ∷ es)) w.shared (stops_at other w) n (Serves request) c (λ cause. RoseAt w other cause v.disks) told (sound_node w sound other n found) refl (λ b q same. absurd q) allowed k) h

    -- an INIT of the node
    module _ (slots journal : ℕ) (step : Step w (At serial.node (Init slots journal)) e.lines v) (h : Known (e ∷ es) told w) where
      abbrev made : Bool
      made = made_anew serial.node (Says (At serial.node (Init slots journal))) e.lines

      abbrev effect : Node → Choice → TaskEffect
      effect n c = task_effect w.shared (stops_at serial.node w) n (Serves (Init slots journal)) c

      abbrev Rises : Cause → Type 0
      Rises cause = RoseAt w serial.node cause v.disks

      still_there : (n m : Node) (c : Choice) → find_node serial.node w.nodes ≡ Some n → find_node serial.node (with_node serial.node (λ x. (effect n c).node) w.nodes) ≡ Some m → (effect n c).node ≡ m
      still_there n m c found now = some_is (effect n c).node m (sym (put_node serial.node n (effect n c).node w.nodes (effect_name w.shared (stops_at serial.node w) n (Serves (Init slots journal)) c) found) ∙ now)

      -- it made the volume
      module _ (n : Node) (found : find_node serial.node w.nodes ≡ Some n) where
        known : IsSoundNode w.shared n
        known = sound_node w sound serial.node n found

        made_whole : (o : Outturn) → TaskAllowed w.shared (stops_at serial.node w) n (Serves (Init slots journal)) Rises (Whole o) → (q : Option Line) → refused_before_reading w.shared n (service (Init slots journal)) ≡ q →
            let x = whole w.shared n (ready_node o (stops_at serial.node w) (service (Init slots journal)) n) (service (Init slots journal)) q in x.lines ++ x.answer ∷ [] ≡ line.Normal ∷ [] → Keeps (e ∷ es) false x.node
        made_whole o may (Some refusal) first k =
            let same : refusal ≡ line.Normal = (same_last [] [] refusal line.Normal k).1 in
            let clash : true ≡ false = sym ((refuses_first w.shared n (Serves (Init slots journal))).says refusal first) ∙ ap is_refusal same in let no : ⊥ = cc in absurd no
        made_whole o may None first k =
            init_done (recorded tid serial (Reason (e ∷ es)) (find_node serial.node nodes) (late (e ∷ es))) (recorded_keeps tid serial (Reason (e ∷ es)) (find_node serial.node nodes) (late (e ∷ es))) w.shared (stops_at serial.node w) n (Serves (Init slots journal)) told known.kept (h n found) (unused w.shared n known) slots journal false o may first (
              made_once slots journal (with_unknown_volume true (powered o (stops_at serial.node w) n)) (init_ready (recorded tid serial (Reason (e ∷ es)) (find_node serial.node nodes) (late (e ∷ es))) (recorded_keeps tid serial (Reason (e ∷ es)) (find_node serial.node nodes) (late (e ∷ es))) w.shared (stops_at serial.node w) n (Serves (Init slots journal)) told known.kept (h n found) (unused w.shared n known) slots journal o may first).3,
              λ t is. let no : ⊥ = cc in absurd no,
              λ has. absurd (none_made slots has.0 has.1),
            )

        made_so : (c : Choice) → TaskAllowed w.shared (stops_at serial.node w) n (Serves (Init slots journal)) Rises c → (effect n c).lines ++ (effect n c).answer ∷ [] ≡ line.Normal ∷ [] → Keeps (e ∷ es) false (effect n c).node
        made_so (Whole o) may k = made_whole o may (refused_before_reading w.shared n (service (Init slots journal))) refl k
        made_so WithoutMemory may k = let no : ⊥ = cc in absurd no
        made_so Unpowered may k = let no : ⊥ = cc in absurd no
        made_so (Cut o j b cause) may k = let same : line.Broken cause ≡ line.Normal = (same_last (effect n (Cut o j b cause)).lines [] (line.Broken cause) line.Normal k).1 in let no : ⊥ = cc in absurd no

      made_known : made ≡ true → (m : Node) → find_node serial.node v.nodes ≡ Some m → Ended w v serial.node (Serves (Init slots journal)) e.lines → Keeps (e ∷ es) false m
      made_known on m now (Refused refusal r shows goes) =
          let same : refusal ≡ line.Normal = (same_last [] [] refusal line.Normal (sym shows ∙ made_lines serial.node serial.node slots journal e.lines on)).1 in
          let clash : true ≡ false = sym r ∙ ap is_refusal same in let no : ⊥ = cc in absurd no
      made_known on m now (Turned n found c allowed shows goes) =
          subst (Keeps (e ∷ es) false) (still_there n m c found (subst (λ (x : World). find_node serial.node x.nodes ≡ Some m) goes now)) (made_so n found c allowed (sym shows ∙ made_lines serial.node serial.node slots journal e.lines on))

      -- it did not
      unmade_known : made ≡ false → Known (e ∷ es) (prepared_by serial e.lines told) v
      unmade_known off = one_known tid serial (Reason (e ∷ es)) (find_node serial.node nodes) (late (e ∷ es)) w v (At serial.node (Init slots journal)) e.lines serial.node (Serves (Init slots journal)) told refl step sound
          (λ n c home found allowed shows k.
          init_else (recorded tid serial (Reason (e ∷ es)) (find_node serial.node nodes) (late (e ∷ es))) (recorded_keeps tid serial (Reason (e ∷ es)) (find_node serial.node nodes) (late (e ∷ es))) w.shared (stops_at serial.node w) n (Serves (Init slots journal)) told (sound_node w sound serial.node n found).kept k (unused w.shared n (sound_node w sound serial.node n found)) slots journal c Rises allowed
          (λ o is first. both_ways made off (ap (made_anew serial.node (Says (At serial.node (Init slots journal)))) (whole_so n c shows o is first) ∙ (bytes_eq-Decides serial.node serial.node).1 refl))) h
        where
          whole_so : (n : Node) (c : Choice) → e.lines ≡ (effect n c).lines ++ (effect n c).answer ∷ [] → (o : Outturn) → c ≡ Whole o → refused_before_reading w.shared n (service (Init slots journal)) ≡ None → e.lines ≡ line.Normal ∷ []
          whole_so n c shows o is first = shows ∙ (λ i. (effect n (is i)).lines ++ (effect n (is i)).answer ∷ [])
              ∙ ap (λ q. (whole w.shared n (ready_node o (stops_at serial.node w) (service (Init slots journal)) n) (service (Init slots journal)) q).lines ++ (whole w.shared n (ready_node o (stops_at serial.node w) (service (Init slots journal)) n) (service (Init slots journal)) q).answer ∷ []) first

      init_known : Goal (Says (At serial.node (Init slots journal)))
      init_known = elim (cases_Bool made) [
        | inl on ↦ subst (λ b. Known (e ∷ es) (not b && prepared_by serial e.lines told) v) (sym on) (λ m now. made_known on m now (ended w v (At serial.node (Init slots journal)) e.lines serial.node (Serves (Init slots journal)) refl step))
        | inr off ↦ plainly (Says (At serial.node (Init slots journal))) off (unmade_known off)
      ]

    turn_known : Turn w (reading e.source.text) e.lines v → Known es told w → Goal (reading e.source.text)
    turn_known turn before = go (reading e.source.text) refl turn
      where
        h : Known (e ∷ es) told w
        h n found = kept_for tid serial (find_node serial.node nodes) (Reason es) (Reason (e ∷ es)) (late es) (late (e ∷ es)) told n (later_reason e es) (before n found)

        at : (other : List ℕ) (request : Request) (b : Bool) → (bytes_eq other serial.node && is_init (Serves request)) ≡ b → reading e.source.text ≡ Says (At other request) → Step w (At other request) e.lines v → Goal (Says (At other request))
        at other request false off read step = plainly (Says (At other request)) (not_made serial.node other request off e.lines) (request_known other request off read step h)
        at other (Init slots journal) true on read step =
            let same : other ≡ serial.node = (bytes_eq-Decides other serial.node).0 (and_parts (bytes_eq other serial.node) true on).0 in
            subst (λ name. Step w (At name (Init slots journal)) e.lines v → Goal (Says (At name (Init slots journal)))) (sym same) (λ s. init_known slots journal s h) step
        at other request true on read step = let no : false ≡ true = (and_parts (bytes_eq other serial.node) false on).1 in let none : ⊥ = cc in absurd none

        go : (r : Reading) → reading e.source.text ≡ r → Turn w r e.lines v → Goal r
        go Blank is t = plainly Blank refl (subst (λ ls. Known (e ∷ es) (prepared_by serial ls told) v) (sym t.0) (subst (Known (e ∷ es) told) (sym t.1) h))
        go (Bad column) is t = absurd t
        go (Says (At other request)) is t = at other request (bytes_eq other serial.node && is_init (Serves request)) refl is t
        go (Says (Deliver number)) is t = plainly (Says (Deliver number)) refl (deliver_known number is t h)
        go (Says (LinkDown x y)) is t = plainly (Says (LinkDown x y)) refl (phases_known tid serial (Reason (e ∷ es)) (find_node serial.node nodes) (late (e ∷ es)) w v (LinkDown x y) e.lines told (link_suits tid serial (Reason (e ∷ es)) (find_node serial.node nodes) (late (e ∷ es)) x y) t sound h)
        go (Says Settle) is t = plainly (Says Settle) refl (phases_known tid serial (Reason (e ∷ es)) (find_node serial.node nodes) (late (e ∷ es)) w v Settle e.lines told (settle_suits tid serial (Reason (e ∷ es)) (find_node serial.node nodes) (late (e ∷ es))) t sound h)

  pub legal_known : (es : List Entry) (w : World) → Legal (opened nodes disks) es w → Known es (is_told_prepared serial (opened nodes disks) es) w
  legal_known [] w legal = subst (Known [] (is_left_prepared serial (opened nodes disks))) (sym legal) (λ n found. opening_known n found (each_opening nodes opening serial.node n found))
  legal_known (e ∷ es) w legal = turn_known es e legal.0 w legal.1 legal.2 (legal_known es legal.0 legal.1)

-- What is shown to be prepared has its reason.
shown_reason : (nodes : List Node) (disks : List DiskCounts) (before : List Entry) (w v : World) (s : Statement) (shown : List Line) (answer : Line) (y : List ℕ) → AreOpening nodes → Legal (opened nodes disks) before w → Step w s (shown ++ answer ∷ []) v → Boots y s shown answer → (serial : Id) → serial.node ≡ y →
    (tid : Id) → In (line.Prepared tid serial) shown → (is_told_prepared serial (opened nodes disks) before ≡ true) ⊎ WasPreparing before tid serial ⊎ WasItsLast serial (opened nodes disks)
shown_reason nodes disks before w v s shown answer y opening legal step boots serial home tid i =
    let sound = legal_sound (opened nodes disks) w before (opening_sound nodes disks opening) legal in
    let b = boots_find w v y sound s shown answer step boots tid serial home i in
    let l = left_record (disk_then w y b.0) tid serial b.1 in
    let known = sound_node w sound y b.0.n b.0.found in
    let kept = legal_known nodes disks opening tid serial before w legal b.0.n (subst (λ z. find_node z w.nodes ≡ Some b.0.n) (sym home) b.0.found) in
    let d = powered_kept (recorded tid serial (Reason nodes disks opening tid serial before) (find_node serial.node nodes) (late nodes disks opening tid serial before)) (recorded_keeps tid serial (Reason nodes disks opening tid serial before) (find_node serial.node nodes) (late nodes disks opening tid serial before)) b.0.outturn b.0.stops w.shared b.0.n (is_told_prepared serial (opened nodes disks) before) known.kept tt b.0.may kept in
    d.0.2 (l.record_, l.there, l.serial_is, l.tid_is)

pub booted_hold : BootedHold
booted_hold nodes disks es closing opening legal before node s shown answer there boots serial home =
    let r = stays (opened nodes disks) closing there.after (there.entry ∷ before) (subst (λ x. Legal (opened nodes disks) x closing) there.stands legal) in
    let step = subst (λ lines. Step (r.1).0 s lines r.0) there.shown (subst (λ x. Turn (r.1).0 x there.entry.lines r.0) there.said (r.1).2) in (
      told_shown nodes disks before (r.1).0 r.0 s shown answer node opening (r.1).1 step boots serial home,
      shown_reason nodes disks before (r.1).0 r.0 s shown answer node opening (r.1).1 step boots serial home,
    )
