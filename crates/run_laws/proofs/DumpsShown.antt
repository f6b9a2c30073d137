-- Each dump shows just the records that are told of its file.
use Rattle.std.proofs.Common.{◌≡◌, ◌⊎◌, ℕ, List, [], ◌∷◌, ◌++◌, map, length, Bool, true, false, not, ◌||◌, ◌&&◌, Option, Some, None, if◌then◌else◌, refl, sym, ◌∙◌, ap, subst, inl, inr}
use Rattle.std.specs.Prelude.{is_some}
use Rattle.std.specs.Str.{bytes_eq}
use Rattle.std.specs.FinMap.{empty, entries}
use Rattle.std.proofs.lemmas.Bool.{both_ways, false_from_ne_true}
use Rattle.std.proofs.lemmas.Slice.Eq.{bytes_eq-Decides}
use Rattle.vms_model.specs.Ids.{Id}
use Rattle.vms_model.specs.Keys.{Key}
use Rattle.vms_model.specs.Transactions.{Outcome, Commit, Abort}
use Rattle.run_said.specs.transcript_model.Lines as line
use Rattle.run_said.specs.transcript_model.Lines.{Line, Cause}
use Rattle.run_said.specs.script_model.Statements.{At, Deliver, LinkDown, Settle, Request, Form, Init, Create, Records, Direct, Recover, Dump, Reading, Blank, Says, Bad}
use Rattle.run_said.specs.script_model.Grammar.{reading}
use Rattle.unit_laws.specs.records_model.Records.{Records as TheRecords}
use Rattle.unit_laws.specs.records_model.History.{current, on_top, records}
use Rattle.unit_laws.specs.Units.{SerialsDiffer}
use Rattle.unit_laws.specs.JournalLaws.{is_unit}
use Rattle.commit_protocol.specs.Table.{Settles}
use Rattle.commit_protocol.specs.World.{In}
use Rattle.run_said.specs.run_model.World.{World, Shared, Node, File, DiskCounts, Act, Formats, IsOpening, LastIsReached, Settlement, Tables, acted, powered, settlement, find_file, find_node, opened}
use Rattle.run_said.specs.run_model.Answers.{Serves, Task, of_file, records_of, refused_before_reading, service, shown_record, there_is_file, unchanged_file}
use Rattle.run_said.specs.run_model.Steps.{Choice, Cut, TaskAllowed, Unpowered, Whole, WithoutMemory, lines_of_rows, task_effect, whole, with_unknown_volume}
use Rattle.run_said.specs.run_model.Operations.{first_of, refused_if}
use Rattle.run_said.specs.run_model.Statements.{Step, Begins, Phases, RoseAt, begun_with, named_node, other_node, phases_of, refused_at_once, stops_at}
use Rattle.run_said.specs.run_model.StepLaws.{IsTask, is_refusal, task_of}
use Rattle.run_said.specs.run_model.Transcript.{Entry, Legal, AreOpening, Turn}
use Rattle.run_said.proofs.run_model.NodeLists.{found_name, put_node, some_is}
use Rattle.run_said.proofs.run_model.CauseLemmas.{refuses_first}
use Rattle.run_said.proofs.run_model.Failing.{once_refuses}
use Rattle.run_said.proofs.run_model.PartLemmas.{turn}
use Rattle.run_said.proofs.run_model.TaskLemmas.{effect_name}
use Rattle.run_laws.specs.Accounts.{Account, MayHave, Told, HasAccount, account_after, account_by, account_behind, commits_here, committed_in, is_up_in, known_again, recovered_by, recovered_here, created_here, file_of, left_sets, made_anew, no_account, direct_told, one_told, serial_told, sets_here, sets_of, told_by, unsettled_in}
use Rattle.run_laws.specs.Laws.{DumpsHold}
use Rattle.run_laws.specs.Promises.{AbortsStand, AreLastApart, DumpPromises, DumpsShow, DumpsShowByAll, RecoveriesAreWhole, Shows, IsLastApart, IsNeverCommitted, settlements_of}
use Rattle.recovery_laws.specs.world_laws.Nodes.{IsKeptDisk, IsKeptNode}
use Rattle.recovery_laws.specs.world_laws.Running.{history_in, history_of}
use Rattle.recovery_laws.proofs.world_laws.DirectLemmas.{none_of}
use Rattle.recovery_laws.proofs.world_laws.AnswerLemmas.{neither, not_refused}
use Rattle.recovery_laws.proofs.world_laws.ServedLemmas.{file_says, there_is as there_is_one, unchanged_rests}
use Rattle.recovery_laws.proofs.world_laws.HeldLemmas.{noted_at}
use Rattle.recovery_laws.proofs.world_laws.WorldLemmas.{each_opening}
use Rattle.run_laws.proofs.AccountLemmas.{last_left, opening_tells, sure_records, sure_still, untold_left}
use Rattle.run_agreement.proofs.Barred.{quiet_powered}
use Rattle.run_laws.proofs.FileRequests.{IsKept, new_told, special_effect}
use Rattle.run_laws.proofs.FileTelling.{Betrays, IsDoomed, IsToldDisk, IsToldUp, falls_told, or_else, task_quiet, telling, telling_keeps, tells_file}
use Rattle.run_laws.proofs.Keeping.{else_effect, is_init, is_special, nothing_more}
use Rattle.run_laws.proofs.Labelling.{served_up}
use Rattle.run_laws.proofs.MadeAnew.{made_new, made_says}
use Rattle.run_laws.proofs.Named.{Named}
use Rattle.run_laws.proofs.NamedRuns.{legal_named}
use Rattle.run_laws.proofs.Once.{unit_of}
use Rattle.run_laws.proofs.OwnLines.{beside_leaves}
use Rattle.run_laws.proofs.SoundWorlds.{IsPlainReading, IsSound, Tracked, Tracks, legal_sound, opening_sound, sound_node, turn_tracked}
use Rattle.run_laws.proofs.Staying.{found_settled, stays}

module _ (node file : List ℕ) (D : Id → Type 0) where
  -- what is told of the file agrees with its node in this world
  abbrev AreTold : Account → World → Type 0
  AreTold a w = Tracked (telling node file D) (telling_keeps node file D) node a w

  not_init : (t : Task) → is_special (telling node file D) t ≡ false → is_init t ≡ false
  not_init (Serves (Init slots journal)) e = let no : ⊥ = cc in absurd no
  not_init (Serves _) e = refl
  not_init _ e = refl

  tracks : Tracks (telling node file D) (telling_keeps node file D) node
  tracks = record {
    own = λ a s stops n task c rises named sound plain ready may h. else_effect (telling node file D) (telling_keeps node file D) s stops n a sound.kept h task (not_init task plain) (λ off. task_quiet node file D s n task plain off) ready c rises may;
    beside = λ a s stops n m task c rises other sound may h. subst (λ b. IsKept node file D b n) (sym (beside_leaves node s stops m task c rises a other sound may)) h;
  }

  -- Statements that tell nothing of the file but what they commit.

  not_here : (b : Bool) → (b && true) ≡ false → b ≡ false
  not_here true e = e
  not_here false e = refl

  not_made : (at : List ℕ) (slots journal : ℕ) → bytes_eq at node ≡ false → (lines : List Line) → made_anew node (Says (At at (Init slots journal))) lines ≡ false
  not_made at slots journal other [] = refl
  not_made at slots journal other (line.Normal ∷ []) = other
  not_made at slots journal other (line.Normal ∷ y ∷ ls) = refl
  not_made at slots journal other (x ∷ ls) = refl

  not_created : (at f : List ℕ) (bucket size : ℕ) (form : Form) → bytes_eq at node ≡ false → (lines : List Line) → created_here node file (Says (At at (Create f bucket size form))) lines ≡ false
  not_created at f bucket size form other [] = refl
  not_created at f bucket size form other (line.Normal ∷ []) = ap (λ b. b && bytes_eq f file) other
  not_created at f bucket size form other (line.Normal ∷ y ∷ ls) = refl
  not_created at f bucket size form other (x ∷ ls) = refl

  module _ (es : List Entry) (w : World) (a : Account) where
    abbrev by : Reading → List Line → Account
    by r lines = recovered_here node file w r lines (account_by node file es w r lines a)

    plain_request : (at : List ℕ) (r : Request) (lines : List Line) → (bytes_eq at node && tells_file node file D r) ≡ false → by (Says (At at r)) lines ≡ commits_here node lines a
    plain_request at (Records label f op) [] e = refl
    plain_request at (Records label f op) (x ∷ []) e = ap (λ b. commits_here node (x ∷ []) (record a { told = if b then one_told (serial_told at label es) (file_of node file w) (sets_of op x) a.told else a.told })) e
    plain_request at (Records label f op) (x ∷ y ∷ ls) e = refl
    plain_request at (Direct f op) lines e = ap (λ b. commits_here node lines (record a { told = if b then direct_told node file w op lines a.told else a.told })) e
    plain_request at (Create f bucket size form) lines e = ap (λ b. if b then record a { records = empty } else commits_here node lines a) (not_created at f bucket size form (not_here (bytes_eq at node) e) lines)
    plain_request at (Init slots journal) lines e = ap (λ b. if b then no_account else commits_here node lines a) (not_made at slots journal (not_here (bytes_eq at node) e) lines)
    plain_request at (Recover f way) lines e = ap (λ b. if b then recovered_by node file w way lines (commits_here node lines a) else commits_here node lines a) e
    plain_request at _ lines e = refl

    plain_by : (r : Reading) (lines : List Line) → IsPlainReading (telling node file D) (telling_keeps node file D) node tracks r → by r lines ≡ commits_here node lines a
    plain_by Blank lines e = refl
    plain_by (Bad column) lines e = refl
    plain_by (Says (At at r)) lines e = plain_request at r lines e
    plain_by (Says (Deliver number)) lines e = refl
    plain_by (Says (LinkDown x y)) lines e = refl
    plain_by (Says Settle) lines e = refl

    -- Statements that may tell more of it.

    special_step : (is_up_in node w ≡ true → a.given ≡ None) → (v : World) (r : Request) (lines : List Line) (at : List ℕ) → at ≡ node → tells_file node file D r ≡ true → Named es w → IsSound w → Step w (At at r) lines v → AreTold a w → AreTold (by (Says (At at r)) lines) v
    special_step sure v r lines at same is named sound step h = subst (λ x. Step w (At x r) lines v → AreTold (by (Says (At x r)) lines) v) (sym same) (λ q. go (find_node node w.nodes) refl q) step
      where
        -- there is no node of this name
        none_there : find_node node w.nodes ≡ None → (q : Step w (At node r) lines v) → AreTold (by (Says (At node r)) lines) v
        none_there none q n found =
            let d : (q.events ≡ []) × (q.answer ≡ line.NoSuchNode) × (q.world ≡ w) = ended (refused_at_once w (At node r)) (refused none r) q.does in
            let clash : ◌≡◌ {A = Option Node} None (Some n) = sym none ∙ ap (λ (x : World). find_node node x.nodes) (sym (q.goes ∙ ap (λ (x : World). record x { disks = v.disks }) d.2)) ∙ found in
            let no : ⊥ = cc in absurd no
          where
            refused : find_node node w.nodes ≡ None → (r : Request) → refused_at_once w (At node r) ≡ Some line.NoSuchNode
            refused none r = ap (λ (o : Option Node). first_of (elim o as (λ x. Option Line) [ Some n ↦ None | None ↦ Some line.NoSuchNode ]) (other_node w r)) none

            ended : (o : Option Line) → o ≡ Some line.NoSuchNode → Begins o (Phases (phases_of (At node r)) v.disks (begun_with (At node r) w) line.Normal) w q.events q.answer q.world → (q.events ≡ []) × (q.answer ≡ line.NoSuchNode) × (q.world ≡ w)
            ended (Some x) e d = (d.0, d.1 ∙ some_is x line.NoSuchNode e, d.2)
            ended None e d = let no : ⊥ = cc in absurd no

        there : (n : Node) → find_node node w.nodes ≡ Some n → (q : Step w (At node r) lines v) → AreTold (by (Says (At node r)) lines) v
        there n found q m now =
            let it : IsTask w (At node r) node (Serves r) n = record { begins = begins r is; task = tasked r is; found = found } in
            let t = turn w v (At node r) node (Serves r) n lines it q in
            let e = task_effect w.shared (stops_at node w) n (Serves r) t.choice in
            let k = special_effect node file D es w n found named (sound_node w sound node n found) (stops_at node w) a (h n found) (λ up. sure (ap (λ (o : Option Node). elim o as (λ x. Bool) [ Some k ↦ k.up | None ↦ false ]) found ∙ up)) r is t.choice (λ cause. RoseAt w node cause v.disks) t.allowed in
            let shown : lines ≡ e.lines ++ e.answer ∷ [] = q.shows ∙ (λ i. t.shows i ++ t.answers i ∷ []) in
            let is_now : e.node ≡ m = some_is e.node m (sym (put_node node n e.node w.nodes (effect_name w.shared (stops_at node w) n (Serves r) t.choice) found) ∙ ap (λ (x : World). find_node node x.nodes) (sym t.goes) ∙ now) in
            subst (λ ls. IsKept node file D (by (Says (At node r)) ls) m) (sym shown) (subst (IsKept node file D (by (Says (At node r)) (e.lines ++ e.answer ∷ []))) is_now k)
          where
            first : named_node w node ≡ None
            first = ap (λ (o : Option Node). elim o as (λ x. Option Line) [ Some n ↦ None | None ↦ Some line.NoSuchNode ]) found

            begins : (r : Request) → tells_file node file D r ≡ true → refused_at_once w (At node r) ≡ None
            begins (Records label f op) k = ap (λ o. first_of o None) first
            begins (Direct f op) k = ap (λ o. first_of o None) first
            begins (Recover f way) k = ap (λ o. first_of o None) first
            begins (Create f bucket size form) k = ap (λ o. first_of o None) first
            begins (Init slots journal) k = ap (λ o. first_of o None) first
            begins _ k = let no : ⊥ = cc in absurd no

            tasked : (r : Request) → tells_file node file D r ≡ true → task_of w (At node r) ≡ Some (record { node = node; task = Serves r })
            tasked (Records label f op) k = refl
            tasked (Direct f op) k = refl
            tasked (Recover f way) k = refl
            tasked (Create f bucket size form) k = refl
            tasked (Init slots journal) k = refl
            tasked _ k = let no : ⊥ = cc in absurd no

        go : (o : Option Node) → find_node node w.nodes ≡ o → (q : Step w (At node r) lines v) → AreTold (by (Says (At node r)) lines) v
        go (Some n) found q = there n found q
        go None none q = none_there none q

    turn_told : (is_up_in node w ≡ true → a.given ≡ None) → (v : World) (r : Reading) (lines : List Line) → Named es w → IsSound w → ((n : Node) → find_node node w.nodes ≡ Some n → IsDoomed node file D n) → Turn w r lines v → AreTold a w → AreTold (by r lines) v
    turn_told sure v r lines named sound doomed t h = go r t
      where
        plainly : (r : Reading) → IsPlainReading (telling node file D) (telling_keeps node file D) node tracks r → Turn w r lines v → AreTold (by r lines) v
        plainly r plain q = subst (λ b. AreTold b v) (sym (plain_by r lines plain)) (turn_tracked (telling node file D) (telling_keeps node file D) node tracks w v doomed r lines a plain q sound h)

        at_node : (at : List ℕ) (x : Request) (b c : Bool) → bytes_eq at node ≡ b → tells_file node file D x ≡ c → Step w (At at x) lines v → AreTold (by (Says (At at x)) lines) v
        at_node at x true true e f q = special_step sure v x lines at ((bytes_eq-Decides at node).0 e) f named sound q h
        at_node at x true false e f q = plainly (Says (At at x)) (ap (λ b. b && tells_file node file D x) e ∙ f) q
        at_node at x false c e f q = plainly (Says (At at x)) (ap (λ b. b && tells_file node file D x) e) q

        go : (r : Reading) → Turn w r lines v → AreTold (by r lines) v
        go Blank q = plainly Blank tt q
        go (Bad column) q = absurd q
        go (Says (At at x)) q = at_node at x (bytes_eq at node) (tells_file node file D x) refl refl q
        go (Says (Deliver number)) q = plainly (Says (Deliver number)) tt q
        go (Says (LinkDown x y)) q = plainly (Says (LinkDown x y)) tt q
        go (Says Settle) q = plainly (Says Settle) tt q

  -- Once the node is up, the records are those that are committed.

  module _ (v : World) (sound : IsSound v) where
    there_committed : (n : Node) → find_node node v.nodes ≡ Some n → committed_in node file v ≡ records (history_in file n.durable.directory)
    there_committed n found = ap (λ f. elim f as (λ x. TheRecords) [ Some g ↦ records g.history | None ↦ empty ]) file_there ∙ go (find_file file n.durable.directory)
      where
        file_there : file_of node file v ≡ find_file file n.durable.directory
        file_there = ap (λ (o : Option Node). elim o as (λ x. Option File) [ Some m ↦ find_file file m.durable.directory | None ↦ None ]) found

        go : (f : Option File) → (elim f as (λ x. TheRecords) [ Some g ↦ records g.history | None ↦ empty ]) ≡ records (history_of f)
        go (Some g) = refl
        go None = refl

    known_kept : (b : Account) (n : Node) → find_node node v.nodes ≡ Some n → n.up ≡ true → IsKept node file D b n → IsKept node file D (record b { records = committed_in node file v; given = None }) n
    known_kept b n found up k = record {
      disk = or_else node file D (λ x. x) (λ h. inr (falls_told node file D false (record b { records = committed_in node file v; given = None }) n (kept.runs up).0 h)) told;
      way = λ act e. absurd (both_ways n.up (kept.way act e).2 up);
      runs = λ u. told;
    }
      where
        kept : IsKeptNode v.shared n
        kept = (sound_node v sound node n found).kept

        told : Betrays node file D n.settled ⊎ IsToldUp node file D false (record b { records = committed_in node file v; given = None }) n
        told = or_else node file D (λ x. x) (λ h. inr (record {
          named = h.named;
          shown = h.shown;
          records_are = inl (there_committed n found);
          still = sure_still (record b { records = committed_in node file v; given = None }) (history_in file n.durable.directory).live refl;
          quiet = h.quiet;
          own = h.own;
          only = h.only;
          fresh = h.fresh;
          told = λ x i. let t = h.told x i in record { tells = t.tells; staying = t.staying };
        })) (k.runs up)

    known_told : (b : Account) → AreTold b v → AreTold (known_again node file v b) v
    known_told b h n found = go (is_some b.given) (is_up_in node v) refl
      where
        go : (d c : Bool) → is_up_in node v ≡ c → IsKept node file D (if d && c then record b { records = committed_in node file v; given = None } else b) n
        go true true up = known_kept b n found (sym (ap (λ (o : Option Node). elim o as (λ x. Bool) [ Some m ↦ m.up | None ↦ false ]) found) ∙ up) (h n found)
        go true false up = h n found
        go false c up = h n found

  -- A volume that was just made.

  pub made_told : (es : List Entry) (mid w : World) (e : Entry) (a : Account) → IsSound mid → Turn mid (reading e.source.text) e.lines w → made_anew node (reading e.source.text) e.lines ≡ true → AreTold (account_behind node file es mid (reading e.source.text) e.lines a) w
  made_told es mid w e a sound turn made m found =
      let new = made_new mid w node (reading e.source.text) e.lines turn made m found in
      let off : mid.shared.in_use ≡ false =
      not_refused mid.shared.in_use line.VolumeInUse (neither (refused_if mid.shared.in_use line.VolumeInUse) _ (neither (refused_if (not (new.old.up || true)) line.NodeDown) _ new.unrefused).1).0 in
      let unused = (sound.kept node new.old new.was).unused off in
      let ready : Node = with_unknown_volume true (powered new.outturn new.stops new.old) in
      let z : Node = acted (Formats new.slots new.journal) ready in
      let there : find_node node w.nodes ≡ Some z = found ∙ ap (λ (y : Node). Some y) (sym new.is) in
      let down : z.up ≡ false = ap (λ (y : Node). y.up) (quiet_powered new.outturn new.stops new.old unused.1) ∙ unused.0 in
      subst (λ b. IsKept node file D b m) (sym nothing) (subst (IsKept node file D no_account) new.is (record {
        disk = inr (new_told node file D new.slots new.journal ready (found_name node w.nodes z there));
        way = λ act under. let clash : ◌≡◌ {A = Option Act} None (Some act) = under in let no : ⊥ = cc in absurd no;
        runs = λ up. absurd (both_ways z.up down up);
      }))
    where
      nothing : account_behind node file es mid (reading e.source.text) e.lines a ≡ no_account
      nothing =
          let x = made_says node (reading e.source.text) e.lines made in
          (λ i. account_behind node file es mid (x.2 i) (x.3 i) a)
          ∙ ap (λ (b : Bool). if b then no_account else (commits_here node (line.Normal ∷ []) (record a { told = sets_here node file es mid (Says (At node (Init x.0 x.1))) (line.Normal ∷ []) a.told }))) ((bytes_eq-Decides node node).1 refl)

  -- The opening.

  abbrev opening_account : World → Account
  opening_account opening = record { records = committed_in node file opening; told = unsettled_in node file opening; left = []; given = None }

  module _ (nodes : List Node) (disks : List DiskCounts) (n : Node) (found : find_node node nodes ≡ Some n) (o : IsOpening n) (last : IsLastApart n) (kept : IsKeptDisk n) where
    file_here : file_of node file (opened nodes disks) ≡ find_file file n.durable.directory
    file_here = rw (found, file_of) refl

    records_here : committed_in node file (opened nodes disks) ≡ records (history_in file n.durable.directory)
    records_here = ap (λ f. elim f as (λ x. TheRecords) [ Some g ↦ records g.history | None ↦ empty ]) file_here ∙ go (find_file file n.durable.directory)
      where
        go : (f : Option File) → (elim f as (λ x. TheRecords) [ Some g ↦ records g.history | None ↦ empty ]) ≡ records (history_of f)
        go (Some g) = refl
        go None = refl

    told_here : unsettled_in node file (opened nodes disks) ≡ map left_sets (history_in file n.durable.directory).live
    told_here = ap (λ f. elim f as (λ x. List Told) [ Some g ↦ map left_sets g.history.live | None ↦ [] ]) file_here ∙ go (find_file file n.durable.directory)
      where
        go : (f : Option File) → (elim f as (λ x. List Told) [ Some g ↦ map left_sets g.history.live | None ↦ [] ]) ≡ map left_sets (history_of f).live
        go (Some g) = refl
        go None = refl

    -- one that is no unit is told nothing of
    no_unit_untold : (x : Id) → is_unit x n.durable.units ≡ false → (m : TheRecords) → told_by x (unsettled_in node file (opened nodes disks)) m ≡ m
    no_unit_untold x none m = ap (λ t. told_by x t m) told_here ∙ go (find_file file n.durable.directory) refl
      where
        go : (f : Option File) → find_file file n.durable.directory ≡ f → told_by x (map left_sets (history_of f).live) m ≡ m
        go (Some g) e = untold_left x g.history.live m (none_of n.durable.units x g.history.live none (noted_at n.durable.units file n.durable.directory g kept.filed.can e).units)
        go None e = refl

    live_differ : SerialsDiffer (history_in file n.durable.directory).live
    live_differ = go (find_file file n.durable.directory) refl
      where
        go : (f : Option File) → find_file file n.durable.directory ≡ f → SerialsDiffer (history_of f).live
        go (Some g) e = (noted_at n.durable.units file n.durable.directory g kept.filed.can e).differ
        go None e = tt

    opening_disk : IsToldDisk node file D (opening_account (opened nodes disks)) n.name n.durable
    opening_disk = record {
      named = found_name node nodes n found;
      records_are = inl (stay n.durable.last refl ∙ records_here);
      still = sure_still (opening_account (opened nodes disks)) (history_in file n.durable.directory).live refl;
      quiet = λ gone x m. ap (λ t. told_by x t m) (told_here ∙ ap (λ f. map left_sets (history_of f).live) gone);
      own = λ s e. let k : LastIsReached n (Some s) = subst (LastIsReached n) e o.last in k;
      apart = λ s r e commit i j. (last s e).1 r i j;
      only = λ x none. (no_unit_untold x (false_from_ne_true _ (λ u. none (unit_of n kept x u))), refl);
      prepared = λ r i. record { tells = inr (λ m. ap (λ t. told_by r.serial t m) told_here ∙ opening_tells r.serial (history_in file n.durable.directory).live m live_differ); staying = refl };
    }
      where
        stay : (l : Option Settlement) → n.durable.last ≡ l → (last_left node l (opening_account (opened nodes disks))).records ≡ committed_in node file (opened nodes disks)
        stay None e = refl
        stay (Some s) e = go s.outcome (bytes_eq s.serial.node node)
          where
            go : (c : Outcome) (b : Bool) → (elim c as (λ x. Account) [ Commit ↦ (if b then record { records = told_by s.serial (unsettled_in node file (opened nodes disks)) (committed_in node file (opened nodes disks)); told = unsettled_in node file (opened nodes disks); left = s.serial ∷ []; given = None } else opening_account (opened nodes disks)) | Abort ↦ opening_account (opened nodes disks) ]).records ≡ committed_in node file (opened nodes disks)
            go Commit true = no_unit_untold s.serial (last s e).0 (committed_in node file (opened nodes disks))
            go Commit false = refl
            go Abort b = refl

    opening_kept : IsKept node file D (opening_account (opened nodes disks)) n
    opening_kept = record {
      disk = inr opening_disk;
      way = λ act e. let clash : ◌≡◌ {A = Option Act} None (Some act) = sym o.under_way ∙ e in let no : ⊥ = cc in absurd no;
      runs = λ up. absurd (both_ways n.up o.down up);
    }

-- Paths.

pub legal_on : (w u v : World) (e : Entry) (after : List Entry) → Turn w (reading e.source.text) e.lines u → Legal u after v → Legal w (after ++ e ∷ []) v
legal_on w u v e [] t legal = (w, refl, subst (Turn w (reading e.source.text) e.lines) (sym legal) t)
legal_on w u v e (x ∷ after) t legal = (legal.0, legal_on w u legal.0 e after t legal.1, legal.2)

pub split_on : (after : List Entry) (e : Entry) (es : List Entry) → (after ++ e ∷ []) ++ es ≡ after ++ e ∷ es
split_on [] e es = refl
split_on (x ∷ after) e es = ap (λ xs. x ∷ xs) (split_on after e es)

pub tells_legal : (node file : List ℕ) (opening : World) (es : List Entry) (w : World) (a : Account) → HasAccount node file opening es w a → Legal opening es w
tells_legal node file opening [] w a tells = tells.0
tells_legal node file opening (e ∷ es) w a tells = (tells.0, tells_legal node file opening es tells.0 tells.1 tells.2, tells.3)

-- while its node is up, the records of a file are in no doubt
sure_up : (node file : List ℕ) (opening : World) (es : List Entry) (w : World) (a : Account) → HasAccount node file opening es w a → is_up_in node w ≡ true → a.given ≡ None
sure_up node file opening [] w a tells up = ap (λ (b : Account). b.given) tells.1
sure_up node file opening (e ∷ es) w a tells up = ap (λ (b : Account). b.given) tells.4 ∙ go (account_behind node file es tells.0 (reading e.source.text) e.lines tells.1)
  where
    go : (b : Account) → (known_again node file w b).given ≡ None
    go b = at b.given (is_up_in node w) refl up
      where
        at : (o : Option TheRecords) (c : Bool) → b.given ≡ o → c ≡ true → (if is_some o && c then record b { records = committed_in node file w; given = None } else b).given ≡ None
        at (Some m) true e k = refl
        at (Some m) false e k = let no : ⊥ = cc in absurd no
        at None c e k = e

pub legal_tells : (node file : List ℕ) (opening : World) (es : List Entry) (w : World) → Legal opening es w → (a : Account) × HasAccount node file opening es w a
legal_tells node file opening [] w legal = (record { records = committed_in node file opening; told = unsettled_in node file opening; left = []; given = None }, (legal, refl))
legal_tells node file opening (e ∷ es) w legal =
    let before = legal_tells node file opening es legal.0 legal.1 in
    (account_after node file es legal.0 w (reading e.source.text) e.lines before.0, (legal.0, before.0, before.1, legal.2, refl))

last_apart : (nodes : List Node) → AreLastApart nodes → (node : List ℕ) (n : Node) → find_node node nodes ≡ Some n → IsLastApart n
last_apart [] h node n e = let no : ⊥ = cc in absurd no
last_apart (m ∷ ns) h node n e = go (bytes_eq node m.name) e (last_apart ns h.1 node n)
  where
    go : (b : Bool) → ◌≡◌ {A = Option Node} (if b then Some m else find_node node ns) (Some n) → (find_node node ns ≡ Some n → IsLastApart n) → IsLastApart n
    go true k more = subst IsLastApart (some_is m n k) h.0
    go false k more = more k

-- one of these entries made the volume of this node anew
abbrev pub WasMade : List ℕ → List Entry → Type 0
WasMade node [] = ⊥
WasMade node (e ∷ es) = (made_anew node (reading e.source.text) e.lines ≡ true) ⊎ WasMade node es

-- What is told of a file agrees with its node in the world that these entries lead to, over branches that are never committed there.
module _ (node file : List ℕ) (nodes : List Node) (disks : List DiskCounts) (opens : AreOpening nodes) (all later : List Entry) (stand : AbortsStand (opened nodes disks) all) (closing : World) where
  abbrev Never : Id → Type 0
  Never x = IsNeverCommitted x closing

  doomed_at : (es after : List Entry) (w : World) → all ≡ later ++ (after ++ es) → Legal (opened nodes disks) es w → Legal w after closing → IsSound w → (n : Node) → find_node node w.nodes ≡ Some n → IsDoomed node file Never n
  doomed_at es after w split before legal sound n found k reason r moment under =
      let s = settlement k Abort reason moment in
      let own = (((sound.once node n found).way (Tables (Settles k Abort reason r) moment) under).own s (inl refl)).0 in
      stand later after es w closing n k reason r moment split before legal (subst (λ x. find_node x w.nodes ≡ Some n) (sym (own ∙ found_name node w.nodes n found)) found) under

  -- where the disk's last settlement at the opening is of no branch that stands unsettled there, or these entries made its volume
  abbrev pub Starts : List Entry → Type 0
  Starts es = ((n : Node) → find_node node nodes ≡ Some n → IsLastApart n) ⊎ WasMade node es

  -- by what is told before an entry, unless that makes the volume
  behind_told : (e : Entry) (es after : List Entry) (w : World) → all ≡ later ++ (after ++ e ∷ es) → (mid : World) (a : Account) → HasAccount node file (opened nodes disks) es mid a → (turn : Turn mid (reading e.source.text) e.lines w) → Legal w after closing → Starts (e ∷ es) →
      (Starts es → all ≡ later ++ ((after ++ e ∷ []) ++ es) → HasAccount node file (opened nodes disks) es mid a → Legal mid (after ++ e ∷ []) closing → AreTold node file Never a mid) → AreTold node file Never (account_behind node file es mid (reading e.source.text) e.lines a) w
  behind_told e es after w split mid a tells turn legal start more = elim start [ inl apart ↦ on_from (inl apart) | inr made ↦ elim made [ inl now ↦ made_told node file Never es mid w e a sound turn now | inr was ↦ on_from (inr was) ] ]
    where
      before : Legal (opened nodes disks) es mid
      before = tells_legal node file (opened nodes disks) es mid a tells

      on : Legal mid (after ++ e ∷ []) closing
      on = legal_on mid w closing e after turn legal

      here : all ≡ later ++ ((after ++ e ∷ []) ++ es)
      here = split ∙ ap (λ xs. later ++ xs) (sym (split_on after e es))

      sound : IsSound mid
      sound = legal_sound (opened nodes disks) mid es (opening_sound nodes disks opens) before

      on_from : Starts es → AreTold node file Never (account_behind node file es mid (reading e.source.text) e.lines a) w
      on_from s = turn_told node file Never es mid a (sure_up node file (opened nodes disks) es mid a tells) w (reading e.source.text) e.lines (legal_named nodes disks es mid opens before) sound (doomed_at es (after ++ e ∷ []) mid here before on sound) turn (more s here tells on)

  path_told : (es after : List Entry) (w : World) (a : Account) → Starts es → all ≡ later ++ (after ++ es) → HasAccount node file (opened nodes disks) es w a → Legal w after closing → AreTold node file Never a w
  path_told [] after w a (inr none) split tells legal = absurd none
  path_told [] after w a (inl apart) split tells legal = subst (λ b. AreTold node file Never b w) (sym tells.1) (subst (λ x. AreTold node file Never (opening_account node file Never (opened nodes disks)) x) (sym tells.0) (λ n found.
      opening_kept node file Never nodes disks n found (each_opening nodes opens node n found) (apart n found) ((opening_sound nodes disks opens).kept node n found).disk))
  path_told (e ∷ es) after w a start split tells legal =
      let mid = tells.0 in
      let then_sound = legal_sound (opened nodes disks) w (e ∷ es) (opening_sound nodes disks opens) (tells_legal node file (opened nodes disks) (e ∷ es) w a tells) in
      subst (λ b. AreTold node file Never b w) (sym tells.4)
      (known_told node file Never w then_sound (account_behind node file es mid (reading e.source.text) e.lines tells.1) (behind_told e es after w split mid tells.1 tells.2 tells.3 legal start (path_told es (after ++ e ∷ []) mid tells.1)))

-- Dumps.

-- lists with one more behind them
pub ends_alike : (xs ys : List Line) (a b : Line) → xs ++ a ∷ [] ≡ ys ++ b ∷ [] → (xs ≡ ys) × (a ≡ b)
ends_alike [] [] a b e = (refl, cc)
ends_alike [] (y ∷ []) a b e = let no : ⊥ = cc in absurd no
ends_alike [] (y ∷ z ∷ ys) a b e = let no : ⊥ = cc in absurd no
ends_alike (x ∷ []) [] a b e = let no : ⊥ = cc in absurd no
ends_alike (x ∷ z ∷ xs) [] a b e = let no : ⊥ = cc in absurd no
ends_alike (x ∷ xs) (y ∷ ys) a b e = let tail : xs ++ a ∷ [] ≡ ys ++ b ∷ [] = cc in let head : x ≡ y = cc in let r = ends_alike xs ys a b tail in ((λ i. head i ∷ r.0 i), r.1)

records_found : (n : Node) (file : List ℕ) (f : File) → find_file file n.durable.directory ≡ Some f → records_of n file ≡ entries (current f.history)
records_found n file f e = rw (e, records_of) refl

shown_lines : (es : List (Key × List ℕ)) → lines_of_rows (map shown_record es) ≡ map (λ e. line.Record e.0 e.1) es
shown_lines [] = refl
shown_lines (e ∷ es) = ap (λ lines. line.Record e.0 e.1 ∷ lines) (shown_lines es)

-- a dump that succeeded shows what the node has committed of the file
pub record IsDumped (n : Node) (file : List ℕ) (events : List Line) (count : ℕ) : Type 0 where
  pub up : n.up ≡ true
  pub shows : Shows events count (records (history_in file n.durable.directory))

dump_rows : (s : Shared) (n : Node) (file : List ℕ) → IsKeptNode s n → n.up ≡ true → (service (Dump file)).refused_before_reading s n ≡ None → Shows (lines_of_rows (map shown_record (records_of n file)) ++ []) (length (records_of n file)) (records (history_in file n.durable.directory))
dump_rows s n file kept up first =
    let behind_file = neither (there_is_file n file) (of_file n file (unchanged_file n)) first in
    let there = there_is_one n file behind_file.0 in
    let f = there.0 in
    let live = unchanged_rests n file f there.1 (file_says n file f (unchanged_file n) there.1 behind_file.1) (kept.runs up).0 in
    let same : records_of n file ≡ entries (records (history_in file n.durable.directory)) =
    records_found n file f there.1 ∙ ap (λ ls. entries (on_top ls (records f.history))) live ∙ ap (λ o. entries (records (history_of o))) (sym there.1) in
    (nothing_more (lines_of_rows (map shown_record (records_of n file))) [] refl ∙ shown_lines (records_of n file) ∙ ap (map (λ e. line.Record e.0 e.1)) same, ap length same)

pub dumped : (w v : World) (node file : List ℕ) (events : List Line) (count : ℕ) → IsSound w → Step w (At node (Dump file)) (events ++ line.NormalCount count ∷ []) v → (n : Node) × (find_node node w.nodes ≡ Some n) × IsDumped n file events count
dumped w v node file events count sound step = go (find_node node w.nodes) refl
  where
    ended : (step.events ≡ events) × (step.answer ≡ line.NormalCount count)
    ended = let r = ends_alike step.events events step.answer (line.NormalCount count) (sym step.shows) in (r.0, r.1)

    no_refusal : (o : Option Line) (refusal : Line) → o ≡ Some refusal → refused_at_once w (At node (Dump file)) ≡ o → ⊥
    no_refusal o refusal e is =
        let d = begins_refused (refused_at_once w (At node (Dump file))) refusal (is ∙ e) step.does in
        both_ways _ (ap is_refusal ended.1) (ap is_refusal d ∙ (once_refuses w (At node (Dump file))).says refusal (is ∙ e))
      where
        begins_refused : (o : Option Line) (refusal : Line) → o ≡ Some refusal → Begins o (Phases (phases_of (At node (Dump file))) v.disks (begun_with (At node (Dump file)) w) line.Normal) w step.events step.answer step.world → step.answer ≡ refusal
        begins_refused (Some x) refusal e d = d.1 ∙ some_is x refusal e
        begins_refused None refusal e d = let no : ⊥ = cc in absurd no

    at : (n : Node) → find_node node w.nodes ≡ Some n → IsDumped n file events count
    at n found =
        let it : IsTask w (At node (Dump file)) node (Serves (Dump file)) n = record { begins = ap (λ o. first_of o None) (ap (λ (o : Option Node). elim o as (λ x. Option Line) [ Some m ↦ None | None ↦ Some line.NoSuchNode ]) found); task = refl; found = found } in
        let t = turn w v (At node (Dump file)) node (Serves (Dump file)) n (events ++ line.NormalCount count ∷ []) it step in
        by_choice t.choice (λ cause. RoseAt w node cause v.disks) t.allowed (sym ended.0 ∙ t.shows) (sym ended.1 ∙ t.answers)
      where
        s : Shared
        s = w.shared

        whole_dump : (o : Option Line) → refused_before_reading w.shared n (service (Dump file)) ≡ o → events ≡ (whole w.shared n n (service (Dump file)) o).lines → line.NormalCount count ≡ (whole w.shared n n (service (Dump file)) o).answer → IsDumped n file events count
        whole_dump (Some refusal) first shows answers = absurd (both_ways _ (ap is_refusal (sym answers)) ((refuses_first w.shared n (Serves (Dump file))).says refusal first))
        whole_dump None first shows answers =
            let up = served_up n _ first in
            let rows = dump_rows w.shared n file (sound.kept node n found) up (neither (refused_if (not (n.up || false)) line.NodeDown) _ first).1 in
            let number : count ≡ length (records_of n file) = ap (λ (l : Line). elim l as (λ x. ℕ) [ line.NormalCount k ↦ k | _ ↦ 0 ]) answers in
            record { up = up; shows = (shows ∙ rows.0, number ∙ rows.1) }

        by_choice : (c : Choice) (rises : Cause → Type 0) → TaskAllowed w.shared (stops_at node w) n (Serves (Dump file)) rises c → events ≡ (task_effect w.shared (stops_at node w) n (Serves (Dump file)) c).lines → line.NormalCount count ≡ (task_effect w.shared (stops_at node w) n (Serves (Dump file)) c).answer → IsDumped n file events count
        by_choice (Whole o) rises may shows answers = whole_dump (refused_before_reading w.shared n (service (Dump file))) refl shows answers
        by_choice WithoutMemory rises may shows answers = let no : ⊥ = cc in absurd no
        by_choice Unpowered rises may shows answers = let no : ⊥ = cc in absurd no
        by_choice (Cut o j b cause) rises may shows answers = let no : ⊥ = cc in absurd no

    go : (o : Option Node) → find_node node w.nodes ≡ o → (n : Node) × (find_node node w.nodes ≡ Some n) × IsDumped n file events count
    go (Some n) found = (n, found, at n found)
    go None found = absurd (no_refusal (Some line.NoSuchNode) line.NoSuchNode refl (ap (λ (o : Option Node). first_of (elim o as (λ x. Option Line) [ Some m ↦ None | None ↦ Some line.NoSuchNode ]) None) found))

-- no branch of this world was committed that is never committed in it
not_betrayed : (node file : List ℕ) (mid : World) (n : Node) → IsSound mid → find_node node mid.nodes ≡ Some n → Betrays node file (λ x. IsNeverCommitted x mid) n.settled → ⊥
not_betrayed node file mid n sound found b =
    let s = b.0 in
    let own = ((sound.once node n found).disk.own s b.1).0 ∙ found_name node mid.nodes n found in
    let there : In s (settlements_of s.serial.node mid) = subst (λ x. In s (settlements_of x mid)) (sym own) (subst (In s) (sym (found_settled node mid n found)) b.1) in
    let clash : Abort ≡ Commit = sym (b.3 s there refl) ∙ b.2 in
    let no : ⊥ = cc in no

-- where a node is up in a world that the oldest of these entries lead to, they made its volume
abbrev pub IsUpOnceMade : World → List Entry → List ℕ → Type 0
IsUpOnceMade opening es node = (later before : List Entry) (w : World) (n : Node) → es ≡ later ++ before → Legal opening before w → find_node node w.nodes ≡ Some n → n.up ≡ true → WasMade node before

module _ (nodes : List Node) (disks : List DiskCounts) (es : List Entry) (closing : World) (opens : AreOpening nodes) (lasts : (node : List ℕ) (n : Node) → find_node node nodes ≡ Some n → IsLastApart n ⊎ IsUpOnceMade (opened nodes disks) es node) (legal : Legal (opened nodes disks) es closing)
    (stand : AbortsStand (opened nodes disks) es) where
  -- the last settlement of a node that is up in some world is of no branch that stands unsettled
  lasts_apart : (node : List ℕ) → ((n : Node) → find_node node nodes ≡ Some n → IsLastApart n) ⊎ IsUpOnceMade (opened nodes disks) es node
  lasts_apart node = go (find_node node nodes) refl
    where
      go : (o : Option Node) → find_node node nodes ≡ o → ((n : Node) → find_node node nodes ≡ Some n → IsLastApart n) ⊎ IsUpOnceMade (opened nodes disks) es node
      go None none = inl (λ n found. let clash : ◌≡◌ {A = Option Node} None (Some n) = sym none ∙ found in let no : ⊥ = cc in absurd no)
      go (Some m) there = elim (lasts node m there) [ inl last ↦ inl (λ n found. subst IsLastApart (some_is m n (sym there ∙ found)) last) | inr down ↦ inr down ]

  pub dumps_hold_where : DumpPromises (opened nodes disks) es
  dumps_hold_where = record { shows = shows; by_all = by_all; recoveries = recoveries }
    where
      recoveries : RecoveriesAreWhole (opened nodes disks) es
      recoveries later before e parts node file mid v closing a tells turn on up = at (find_node node v.nodes) refl
        where
          first : Legal (opened nodes disks) before mid
          first = tells_legal node file (opened nodes disks) before mid a tells

          then_sound : IsSound v
          then_sound = legal_sound (opened nodes disks) v (e ∷ before) (opening_sound nodes disks opens) (mid, first, turn)

          told : Starts node file nodes disks opens es later stand v (e ∷ before) → AreTold node file (λ x. IsNeverCommitted x v) (account_behind node file before mid (reading e.source.text) e.lines a) v
          told start = behind_told node file nodes disks opens es later stand v e before [] v parts mid a tells turn refl start (path_told node file nodes disks opens es later stand v before (e ∷ []) mid a)

          at : (o : Option Node) → find_node node v.nodes ≡ o → MayHave (account_behind node file before mid (reading e.source.text) e.lines a) (committed_in node file v)
          at (Some n) found =
              let is_up : n.up ≡ true = sym (ap (λ (o : Option Node). elim o as (λ x. Bool) [ Some m ↦ m.up | None ↦ false ]) found) ∙ up in
              let start : Starts node file nodes disks opens es later stand v (e ∷ before) = elim (lasts_apart node) [ inl apart ↦ inl apart | inr once ↦ inr (once later (e ∷ before) v n parts (mid, first, turn) found is_up) ] in
              elim ((told start n found).runs is_up) [
                | inl b ↦ absurd (not_betrayed node file v n then_sound found b)
                | inr k ↦ subst (MayHave (account_behind node file before mid (reading e.source.text) e.lines a)) (sym (there_committed node file (λ x. IsNeverCommitted x v) v then_sound n found)) k.records_are
              ]
          at None none = let clash : false ≡ true = sym (ap (λ (o : Option Node). elim o as (λ x. Bool) [ Some m ↦ m.up | None ↦ false ]) none) ∙ up in let no : ⊥ = cc in absurd no

      by_all : DumpsShowByAll (opened nodes disks) es
      by_all before node file events count there mid new a tells step =
          let first = tells_legal node file (opened nodes disks) before mid a tells in
          let sound = legal_sound (opened nodes disks) mid before (opening_sound nodes disks opens) first in
          let later = there.after ++ there.entry ∷ [] in
          let split : es ≡ later ++ ([] ++ before) = there.stands ∙ sym (split_on there.after there.entry before) in
          let d = dumped mid new node file events count sound step in
          let start : Starts node file nodes disks opens es later stand mid before = elim (lasts_apart node) [ inl apart ↦ inl apart | inr once ↦ inr (once later before mid d.0 split first d.1 d.2.up) ] in
          of_node d.0 d.1 d.2 sound (path_told node file nodes disks opens es later stand mid before [] mid a start split tells refl d.0 d.1)
        where
          of_node : (n : Node) → find_node node mid.nodes ≡ Some n → IsDumped n file events count → IsSound mid → IsKept node file (λ x. IsNeverCommitted x mid) a n → Shows events count a.records
          of_node n found d sound k = elim (k.runs d.up) [
            | inl b ↦ absurd (not_betrayed node file mid n sound found b)
            | inr up ↦ subst (Shows events count) (sym (sure_records a (records (history_in file n.durable.directory)) (sure_up node file (opened nodes disks) before mid a tells (ap (λ (o : Option Node). elim o as (λ x. Bool) [ Some m ↦ m.up | None ↦ false ]) found ∙ d.up)) up.records_are)) d.shows
          ]

      shows : DumpsShow (opened nodes disks) es
      shows before node file events count there =
          let r = stays (opened nodes disks) closing there.after (there.entry ∷ before) (subst (λ xs. Legal (opened nodes disks) xs closing) there.stands legal) in
          let l = r.1 in
          let t = legal_tells node file (opened nodes disks) before l.0 l.1 in
          let step : Step l.0 (At node (Dump file)) (events ++ line.NormalCount count ∷ []) r.0 = subst (λ ls. Step l.0 (At node (Dump file)) ls r.0) there.shown (subst (λ x. Turn l.0 x there.entry.lines r.0) there.said l.2) in
          (l.0, t.0, t.1, by_all before node file events count there l.0 r.0 t.0 t.1 step)

pub dumps_hold : DumpsHold
dumps_hold nodes disks es closing opens apart legal stand = dumps_hold_where nodes disks es closing opens (λ node n found. inl (last_apart nodes apart node n found)) legal stand
