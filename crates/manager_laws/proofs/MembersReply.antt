-- A reply of a resource manager is taken only for a branch that it joined.
use Rattle.std.proofs.Common.{◌≡◌, ℕ, Bool, true, false, not, ◌||◌, List, [], ◌∷◌, ◌++◌, inl, inr, Option, Some, None, if◌then◌else◌, refl, sym, ◌∙◌, ap, subst}
use Rattle.std.specs.List.{list_any}
use Rattle.std.specs.Option.{option_and_then}
use Rattle.vms_model.specs.Ids.{Id}
use Rattle.world_laws.specs.transcript_model.Lines as line
use Rattle.world_laws.specs.transcript_model.Lines.{Line, Cause}
use Rattle.world_laws.specs.script_model.Statements.{At, AckEvent, BySerial, ByLabel, Named as SaidName}
use Rattle.records_model.specs.History.{same_id}
use Rattle.commit_protocol.specs.Messages.{LogRecord, Name, Reply, same_name}
use Rattle.commit_protocol.specs.Table.{Branch, Manager, branch_serials, record_serials}
use Rattle.commit_protocol.specs.Rows.{joined}
use Rattle.commit_protocol.specs.World.{In}
use Rattle.commit_protocol.proofs.Lists.{in_left, in_right}
use Rattle.commit_protocol.proofs.Serials.{in_serial}
use Rattle.world_laws.specs.run_model.World.{DiskCounts, Label, Node, World, find_branch, find_node, find_record, labelled, opened}
use Rattle.world_laws.specs.run_model.Answers as answers
use Rattle.world_laws.specs.run_model.Answers.{Known, Row, Serves, has_joined, branch_labelled, just, known, refused_before_reading, serial_named, service, table_rows, told_rows}
use Rattle.world_laws.specs.run_model.Steps.{TaskEffect, task_effect}
use Rattle.world_laws.specs.run_model.Statements.{RoseAt, Step, stops_at}
use Rattle.world_laws.specs.run_model.StepLaws.{is_refusal}
use Rattle.world_laws.specs.run_model.Transcript.{AreOpening, Entry, Legal, Turn}
use Rattle.world_laws.proofs.run_model.CauseLemmas.{refuses_first}
use Rattle.world_laws.proofs.run_model.NodeLists.{found_name, some_is}
use Rattle.world_laws.proofs.run_model.Refusing.{same_last}
use Rattle.world_laws.proofs.run_model.TaskLemmas.{Failing, First, Lacking, Late, Outcome, Success, outcome}
use Rattle.world_laws.specs.Nodes.{IsUp}
use Rattle.world_laws.proofs.AnswerLemmas.{neither, not_refused}
use Rattle.world_laws.proofs.IdLemmas.{id_is}
use Rattle.world_laws.proofs.TableLemmas.{in_serials}
use Rattle.run_laws.specs.Naming.{find_told}
use Rattle.run_laws.proofs.Deciding.{split_legal}
use Rattle.run_laws.proofs.Labelling.{find_map, labelled_is, refused_rest, served_up}
use Rattle.run_laws.proofs.Named.{Ended, Named, Refused, Turned, ended, told}
use Rattle.run_laws.proofs.NamedRuns.{legal_named}
use Rattle.run_laws.proofs.SoundWorlds.{legal_sound, opening_sound}
use Rattle.manager_laws.specs.Members.{IsMember, NamesSerial, RepliesOfMembersHold}
use Rattle.manager_laws.specs.Replying.{IsTaken}
use Rattle.manager_laws.proofs.Members.{legal_members}
use Rattle.manager_laws.proofs.Replied.{found_branch_in}
use Rattle.manager_laws.proofs.Requests.{not_so}
use Rattle.manager_laws.proofs.Told.{among}
use Rattle.manager_laws.proofs.Unreplied.{record_in}

-- Replies.

joined_among : (rm : Name) (ms : List Manager) → list_any (λ m. same_name m.rm rm) ms ≡ true → In rm (joined ms)
joined_among rm [] e = let no : ⊥ = cc in absurd no
joined_among rm (m ∷ ms) e = go (same_name m.rm rm) refl e (joined_among rm ms)
  where
    go : (b : Bool) → same_name m.rm rm ≡ b → (b || list_any (λ y. same_name y.rm rm) ms) ≡ true → (list_any (λ y. same_name y.rm rm) ms ≡ true → In rm (joined ms)) → In rm (m.rm ∷ joined ms)
    go true is k more = inl (sym (Rattle.commit_protocol.proofs.Lists.same_name-true m.rm rm is))
    go false is k more = inr (more k)

found_serial_of : (serial : Id) (rs : List LogRecord) (r : LogRecord) → find_record serial rs ≡ Some r → r.serial ≡ serial
found_serial_of serial [] r e = let no : ⊥ = cc in absurd no
found_serial_of serial (q ∷ rs) r e = go (same_id serial q.serial) refl e (found_serial_of serial rs r)
  where
    go : (b : Bool) → same_id serial q.serial ≡ b → ◌≡◌ {A = Option LogRecord} (if b then Some q else find_record serial rs) (Some r) → (find_record serial rs ≡ Some r → r.serial ≡ serial) → r.serial ≡ serial
    go true is f more = ap (λ (x : LogRecord). x.serial) (sym (some_is q r f)) ∙ sym (id_is serial q.serial is)
    go false is f more = more f

-- what is named is a branch of a serial
named_serial : (es : List Entry) (w : World) (node : List ℕ) (n : Node) → Named es w → find_node node w.nodes ≡ Some n → (who : SaidName) (serial : Id) → serial.node ≡ node → serial_named w.shared n who ≡ Some serial → NamesSerial es who serial
named_serial es w node n h found (BySerial other) serial home is = some_is other serial is
named_serial es w node n h found (ByLabel label) serial home is = go (labelled n.name label w.shared.labels) refl is
  where
    go : (o : Option Label) → labelled n.name label w.shared.labels ≡ o → option_and_then (λ (l : Label). l.serial) o ≡ Some serial → NamesSerial es (ByLabel label) serial
    go (Some l) found_l has = let r = labelled_is n.name label w.shared.labels l found_l in (told l, ap (find_told label) h.labels ∙ find_map label w.shared.labels l r.0, r.1 ∙ (found_name node w.nodes n found ∙ sym home), has)
    go None found_l has = let no : ⊥ = cc in absurd no

module _ (nodes : List Node) (disks : List DiskCounts) (opening : AreOpening nodes) (before : List Entry) (w : World) (path : Legal (opened nodes disks) before w) (node : List ℕ) (n : Node) (found : find_node node w.nodes ≡ Some n) (who : SaidName) (rm : Name) (reply : Reply)
    (first : refused_before_reading w.shared n (service (AckEvent who rm reply)) ≡ None) where
  abbrev Result : Type 0
  Result = (tid : Id) × (serial : Id) × (serial.node ≡ node) × NamesSerial before who serial × IsMember (opened nodes disks) before tid serial rm

  up : n.up ≡ true
  up = served_up n _ first

  runs : IsUp n
  runs = (((legal_sound (opened nodes disks) w before (opening_sound nodes disks opening) path).kept node n found).runs up).0

  home : (serial : Id) → In serial (branch_serials n.volatile.branches ++ record_serials n.volatile.records) → serial.node ≡ node
  home serial i = (runs.table.drawn serial i).0 ∙ found_name node w.nodes n found

  at : (serial : Id) → serial.node ≡ node → find_node serial.node w.nodes ≡ Some n
  at serial is = subst (λ x. find_node x w.nodes ≡ Some n) (sym is) found

  names : (serial : Id) → serial.node ≡ node → serial_named w.shared n who ≡ Some serial → NamesSerial before who serial
  names serial is named = named_serial before w node n (legal_named nodes disks before w opening path) found who serial is named

  states : (answers.known_branch (known w.shared n who) ≡ None) × (answers.known_manager rm (known w.shared n who) ≡ None)
  states =
      let x = neither (answers.made_name w.shared n who) _ (refused_rest (not (n.up || false)) _ first) in
      let y = neither (answers.known_branch (known w.shared n who)) _ x.1 in
      let z = neither (answers.declared_manager n rm) _ y.1 in
      (y.0, (neither (answers.known_manager rm (known w.shared n who)) (answers.awaited_reply rm reply (known w.shared n who)) z.1).0)

  of_branch : (serial : Id) → serial_named w.shared n who ≡ Some serial → (b : Branch) → find_branch serial n.volatile.branches ≡ Some b → answers.known_manager rm (answers.Unsettled b) ≡ None → Result
  of_branch serial named b there q =
      let r = found_branch_in serial n.volatile.branches b there in
      let here = home serial (in_left serial (branch_serials n.volatile.branches) (record_serials n.volatile.records) (subst (λ x. In x (branch_serials n.volatile.branches)) r.1 (in_serials b n.volatile.branches r.0))) in (
        b.key.tid,
        serial,
        here,
        names serial here named,
        (((legal_members nodes disks opening b.key.tid serial rm before w path) n (at serial here)).runs up).0 b r.0 refl r.1 (joined_among rm b.managers (not_so (has_joined rm b) (not_refused (not (has_joined rm b)) line.NoSuchManager q))),
      )

  of_record : (serial : Id) → serial_named w.shared n who ≡ Some serial → (r : LogRecord) → find_record serial n.volatile.records ≡ Some r → answers.known_manager rm (answers.Recorded r) ≡ None → Result
  of_record serial named r there q =
      let i = record_in n.volatile.records serial r there in
      let is = found_serial_of serial n.volatile.records r there in
      let here = home serial (in_right serial (branch_serials n.volatile.branches) (record_serials n.volatile.records) (subst (λ x. In x (record_serials n.volatile.records)) is (in_serial r n.volatile.records i))) in (
        r.tid,
        serial,
        here,
        names serial here named,
        (((legal_members nodes disks opening r.tid serial rm before w path) n (at serial here)).runs up).1 (r, runs.table.log.committed r i, is, refl, among rm r.rms (not_so (list_any (λ x. same_name x rm) r.rms) (not_refused (not (list_any (λ x. same_name x rm) r.rms)) line.NoSuchManager q))),
      )

  member : Result
  member = by_name (serial_named w.shared n who) refl states
    where
      Known_so : Known → Type 0
      Known_so k = (answers.known_branch k ≡ None) × (answers.known_manager rm k ≡ None)

      unheard : Known_so answers.Unheard → Result
      unheard q = let no : ◌≡◌ {A = Option Line} (Some line.NoSuchTransaction) None = q.0 in let none : ⊥ = cc in absurd none

      by_record : (serial : Id) → serial_named w.shared n who ≡ Some serial → (o : Option LogRecord) → find_record serial n.volatile.records ≡ o → Known_so (elim o [ Some r ↦ answers.Recorded r | None ↦ answers.Unheard ]) → Result
      by_record serial named (Some r) there q = of_record serial named r there q.1
      by_record serial named None there q = unheard q

      by_branch : (serial : Id) → serial_named w.shared n who ≡ Some serial → (o : Option Branch) → find_branch serial n.volatile.branches ≡ o → Known_so (elim o [ Some b ↦ answers.Unsettled b | None ↦ elim (find_record serial n.volatile.records) [ Some r ↦ answers.Recorded r | None ↦ answers.Unheard ] ]) → Result
      by_branch serial named (Some b) there q = of_branch serial named b there q.1
      by_branch serial named None there q = by_record serial named (find_record serial n.volatile.records) refl q

      by_name : (o : Option Id) → serial_named w.shared n who ≡ o → Known_so (elim o [ Some serial ↦ answers.known_serial n serial | None ↦ answers.Unheard ]) → Result
      by_name (Some serial) named q = by_branch serial named (find_branch serial n.volatile.branches) refl q
      by_name None named q = unheard q

taken_fine : (answer : Line) → IsTaken answer → is_refusal answer ≡ true → ⊥
taken_fine answer (inl is) h = let no : false ≡ true = ap is_refusal (sym is) ∙ h in let none : ⊥ = cc in none
taken_fine answer (inr (cause, is)) h = let no : false ≡ true = ap is_refusal (sym is) ∙ h in let none : ⊥ = cc in none

pub replies_of_members : RepliesOfMembersHold
replies_of_members nodes disks es closing opening legal before node who rm reply events answer there taken =
    let start = opened nodes disks in
    let r = split_legal start closing there.after (there.entry ∷ before) (subst (λ xs. Legal start xs closing) there.stands legal) in
    let step : Step (r.1).0 (At node (AckEvent who rm reply)) (events ++ answer ∷ []) r.0 = subst (λ ls. Step (r.1).0 (At node (AckEvent who rm reply)) ls r.0) there.shown (subst (λ x. Turn (r.1).0 x there.entry.lines r.0) there.said (r.1).2) in
    go (r.1).0 r.0 (r.1).1 (ended (r.1).0 r.0 (At node (AckEvent who rm reply)) (events ++ answer ∷ []) node (Serves (AckEvent who rm reply)) refl step)
  where
    go : (w v : World) → Legal (opened nodes disks) before w → Ended w v node (Serves (AckEvent who rm reply)) (events ++ answer ∷ []) → (tid : Id) × (serial : Id) × (serial.node ≡ node) × NamesSerial before who serial × IsMember (opened nodes disks) before tid serial rm
    go w v path (Refused refusal h shows goes) = absurd (taken_fine answer taken (ap is_refusal (same_last events [] answer refusal shows).1 ∙ h))
    go w v path (Turned n found c allowed shows goes) = by (outcome w.shared (stops_at node w) n (Serves (AckEvent who rm reply)) (λ cause. RoseAt w node cause v.disks) c allowed)
      where
        Effect : TaskEffect
        Effect = task_effect w.shared (stops_at node w) n (Serves (AckEvent who rm reply)) c

        answered : answer ≡ Effect.answer
        answered = (same_last events Effect.lines answer Effect.answer shows).1

        by : Outcome w.shared (stops_at node w) n (Serves (AckEvent who rm reply)) (λ cause. RoseAt w node cause v.disks) Effect → (tid : Id) × (serial : Id) × (serial.node ≡ node) × NamesSerial before who serial × IsMember (opened nodes disks) before tid serial rm
        by (First refusal first same) = absurd (taken_fine answer taken (ap is_refusal (answered ∙ ap (λ (x : TaskEffect). x.answer) same) ∙ (refuses_first w.shared n (Serves (AckEvent who rm reply))).says refusal first))
        by (Late outturn refusal turns first late same) = let no : ⊥ = cc in absurd no
        by (Lacking first memory same) = let no : ⊥ = cc in absurd no
        by (Success outturn turns first late same) = member nodes disks opening before w path node n found who rm reply first
        by (Failing cause shown goes_on first rose ls down answered_so ends) = member nodes disks opening before w path node n found who rm reply first
