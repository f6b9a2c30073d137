-- A branch that left as read-only has changed nothing.
use Rattle.std.proofs.Common.{◌≡◌, ℕ, ◌⊎◌, List, [], ◌∷◌, ◌++◌, inl, inr, map, Bool, true, false, ◌&&◌, ◌||◌, not, Option, Some, None, if◌then◌else◌, refl, sym, ◌∙◌, ap, subst}
use Rattle.std.specs.Str.{bytes_eq}
use Rattle.std.specs.Option.{option_and_then, option_map}
use Rattle.std.proofs.lemmas.Slice.Eq.{bytes_eq-Decides}
use Rattle.vms_model.specs.Ids.{Id}
use Rattle.run_said.specs.transcript_model.Lines as line
use Rattle.run_said.specs.transcript_model.Lines.{Line, Cause}
use Rattle.run_said.specs.script_model.Statements.{At, Operation, Reading, Records, Request, Says, StartBranch, StartTrans, Statement}
use Rattle.run_said.specs.script_model.Grammar.{reading}
use Rattle.unit_laws.specs.records_model.History.{same_id}
use Rattle.commit_protocol.specs.Agreement.{Distinct}
use Rattle.commit_protocol.specs.Allowed.{is_prepared}
use Rattle.commit_protocol.specs.Rows as rows
use Rattle.commit_protocol.specs.Table.{Branch, Key as BranchKey, branch_serials, child}
use Rattle.commit_protocol.specs.World.{In}
use Rattle.commit_protocol.proofs.Lists.{in_right}
use Rattle.run_said.specs.run_model.World as world
use Rattle.run_said.specs.run_model.World.{World, Shared, Node, Changes, DiskCounts, File, Label, acted, find_file, find_node, labelled, next_id, opened, serial_labelled, with_changed}
use Rattle.run_said.specs.run_model.Operations.{changes_of, data_refused, form_refused, is_change}
use Rattle.run_said.specs.run_model.Answers as answers
use Rattle.run_said.specs.run_model.Answers.{Row, Serves, begins, branch_labelled, changes_at, found_refused, in_state, keys_at, made_label, of_file, operated, operation_act, refused_before_reading, service, silent, there_is_file, told_if, unsettled_label}
use Rattle.run_said.specs.run_model.Steps.{TaskEffect, node_after_rows, ready_node, succeeded, task_effect}
use Rattle.run_said.specs.run_model.Statements.{Step, RoseAt, put_into, stops_at}
use Rattle.run_said.specs.run_model.Transcript.{AreOpening, Entry, Legal, Turn}
use Rattle.run_said.specs.run_model.StepLaws.{is_refusal, task_of}
use Rattle.run_said.proofs.run_model.CauseLemmas.{refuses_first, refuses_then}
use Rattle.run_said.proofs.run_model.NodeLists.{clash, found_name, put_node, some_is}
use Rattle.run_said.proofs.run_model.Refusing.{not_ready, same_last}
use Rattle.run_said.proofs.run_model.TaskLemmas.{Failing, First, Lacking, Late, Outcome, Success, acted_name, effect_name, outcome}
use Rattle.recovery_laws.proofs.world_laws.IdLemmas.{id_is, id_itself}
use Rattle.recovery_laws.proofs.world_laws.TableLemmas.{in_serials}
use Rattle.recovery_laws.proofs.world_laws.UpLemmas.{differ}
use Rattle.run_laws.specs.Laws.{ReadOnlyHold}
use Rattle.run_laws.specs.Naming.{IsNamed, ToldLabel, find_told, ids_here, ids_told}
use Rattle.run_laws.specs.Promises.{IsDoneAnswer}
use Rattle.run_laws.specs.SaidLaws.{SaidThere}
use Rattle.run_laws.proofs.Directed.{answer_fine, file_says, neither, not_ended, some_changed, there_is}
use Rattle.run_laws.proofs.FallsBegun.{with_fall}
use Rattle.run_laws.proofs.Keeping.{AllTake, Kept}
use Rattle.run_laws.proofs.Labelling.{find_map, label_of, refused_rest, served_up}
use Rattle.run_laws.proofs.LeftUnchanged.{NoneOf, is_beginning, left_in, leaving, leaving_effect, leaving_keeps, leaving_tracks, lefts_none, lefts_on}
use Rattle.run_laws.proofs.Making.{branch_there, not_past}
use Rattle.run_laws.proofs.Named.{Ended, Refused, Turned, Named, ended, told}
use Rattle.run_laws.proofs.NamedRuns.{legal_named}
use Rattle.run_laws.proofs.ShownSettled.{answer_voteless, refusal_voteless}
use Rattle.run_laws.proofs.SoundWorlds.{IsPlainReading, IsSound, Tracked, legal_sound, opening_sound, sound_node, turn_tracked}
use Rattle.run_laws.proofs.Staying.{stays}
use Rattle.run_laws.proofs.VoteOwners.{step_voter}

-- A change of records that was done.

-- it has changed the branch that its label names
record IsChangedBy (w v : World) (node label : List ℕ) : Type 0 where
  n : Node
  found : find_node node w.nodes ≡ Some n
  up : n.up ≡ true
  m : Node
  there : find_node node v.nodes ≡ Some m
  branch : Branch
  labelled_so : branch_labelled w.shared n label ≡ Some branch
  branches : m.volatile.branches ≡ with_changed branch.key.serial n.volatile.branches

module _ (w v : World) (node label file : List ℕ) (op : Operation) (is : is_change op ≡ true) where
  success_done : (n : Node) (e : TaskEffect) → find_node node w.nodes ≡ Some n → refused_before_reading w.shared n (service (Records label file op)) ≡ None → answers.operation_refused w.shared n label file op ≡ None → e ≡ succeeded w.shared n (service (Records label file op)) →
      v ≡ record (put_into w node e).world { disks = v.disks } → IsChangedBy w v node label
  success_done n e found first late done goes =
      let passed = refused_rest (not (n.up || false)) _ first in
      let behind_label = (neither (made_label w.shared n label) _ passed).1 in
      let behind_file = neither (there_is_file n file) _ behind_label in
      let behind_form = neither (of_file n file (λ g. form_refused g op)) _ behind_file.1 in
      let behind_branch = neither (unsettled_label w.shared n label) _ behind_form.1 in
      let at = there_is n file behind_file.0 in
      let b = branch_there (branch_labelled w.shared n label) behind_branch.0 in
      let fine = (neither (data_refused at.0 op) _ (file_says n file at.0 (found_refused n (serial_labelled n.name label w.shared.labels) file op) at.1 (neither _ _ late).0)).0 in
      let change = some_changed at.0 op is fine in
      let changes : changes_at n file op ≡ change.0 ∷ change.1 = ap (λ (o : Option File). elim o [ Some f ↦ changes_of f op | None ↦ [] ]) at.1 ∙ change.2 in
      let act = Changes b.0.key.tid b.0.key.serial file (change.0 ∷ change.1) (keys_at n file op) in
      let rows_so : (service (Records label file op)).rows w.shared n ≡ silent act ∷ [] = ap (λ (o : Option Branch). elim o as (λ x. List Row) [ Some x ↦ operated n file op x ∷ [] | None ↦ [] ]) b.1 ∙ ap (λ cs. silent (operation_act b.0 file cs (keys_at n file op)) ∷ []) changes in
      let now : e.node ≡ acted act n = ap (λ (x : TaskEffect). x.node) done ∙ ap (λ rs. node_after_rows rs n) rows_so in
      record {
        n = n;
        found = found;
        up = served_up n _ first;
        m = e.node;
        there = ap (λ (x : World). find_node node x.nodes) goes ∙ put_node node n e.node w.nodes (ap (λ (x : Node). x.name) now ∙ acted_name act n) found;
        branch = b.0;
        labelled_so = b.1;
        branches = ap (λ (x : Node). x.volatile.branches) now;
      }

  done_by : (n : Node) (answer : Line) (rises : Cause → Type 0) (e : TaskEffect) → IsDoneAnswer answer → find_node node w.nodes ≡ Some n → answer ≡ e.answer → v ≡ record (put_into w node e).world { disks = v.disks } → Outcome w.shared (stops_at node w) n (Serves (Records label file op)) rises e → IsChangedBy w v node label
  done_by n answer rises e fine found says goes (First refusal first f) =
      absurd (clash _ (ap is_refusal (says ∙ ap (λ (x : TaskEffect). x.answer) f) ∙ (refuses_first w.shared n (Serves (Records label file op))).says refusal first) (answer_fine answer fine))
  done_by n answer rises e fine found says goes (Late outturn refusal may first late f) =
      absurd (clash _ (ap is_refusal (says ∙ ap (λ (x : TaskEffect). x.answer) f) ∙ (refuses_then w.shared (ready_node outturn (stops_at node w) (service (Records label file op)) n) (Serves (Records label file op))).says refusal late) (answer_fine answer fine))
  done_by n answer rises e fine found says goes (Success outturn may first late f) =
      let ready = not_ready outturn (stops_at node w) (service (Records label file op)) n refl in
      success_done n e found first (subst (λ m. answers.operation_refused w.shared m label file op ≡ None) ready late) (f ∙ ap (λ m. succeeded w.shared m (service (Records label file op))) ready) goes
  done_by n answer rises e fine found says goes (Lacking first takes f) = absurd (clash _ (ap is_refusal (says ∙ ap (λ (x : TaskEffect). x.answer) f)) (answer_fine answer fine))
  done_by n answer rises e fine found says goes (Failing cause shown goes_on first rises_so told down failing ends) = absurd (not_ended answer cause goes_on fine (says ∙ failing))

  records_done : (events : List Line) (answer : Line) → IsDoneAnswer answer → Step w (At node (Records label file op)) (events ++ answer ∷ []) v → IsChangedBy w v node label
  records_done events answer fine step = go (ended w v (At node (Records label file op)) (events ++ answer ∷ []) node (Serves (Records label file op)) refl step)
    where
      go : Ended w v node (Serves (Records label file op)) (events ++ answer ∷ []) → IsChangedBy w v node label
      go (Refused refusal r shows goes) = absurd (clash _ (ap is_refusal (same_last events [] answer refusal shows).1 ∙ r) (answer_fine answer fine))
      go (Turned n found c allowed shows goes) =
          let e = task_effect w.shared (stops_at node w) n (Serves (Records label file op)) c in
          done_by n answer (λ cause. RoseAt w node cause v.disks) e fine found (same_last events e.lines answer e.answer shows).1 goes (outcome w.shared (stops_at node w) n (Serves (Records label file op)) (λ cause. RoseAt w node cause v.disks) c allowed)

-- the branch of this serial has changed something then
changed_one : (serial : Id) (bs : List Branch) → Distinct (branch_serials bs) → (x : Branch) → In x (with_changed serial bs) → x.key.serial ≡ serial → x.changed ≡ true
changed_one serial [] d x i same = absurd i
changed_one serial (b ∷ bs) d x i same = go (same_id serial b.key.serial) refl i (λ j. changed_one serial bs d.1 x j same)
  where
    go : (t : Bool) → same_id serial b.key.serial ≡ t → In x (if t then record b { changed = true } ∷ bs else b ∷ with_changed serial bs) → (In x (with_changed serial bs) → x.changed ≡ true) → x.changed ≡ true
    go true is (inl here) more = ap (λ (y : Branch). y.changed) here
    go true is (inr j) more = absurd (d.0 (subst (λ y. In y (branch_serials bs)) (same ∙ id_is serial b.key.serial is) (in_serials x bs j)))
    go false is (inl here) more = absurd (clash _ (ap (same_id serial) (sym (ap (λ (y : Branch). y.key.serial) here) ∙ same) ∙ id_itself serial) is)
    go false is (inr j) more = more j

-- What was changed, as entries tell.

abbrev WasChanged : List Entry → BranchKey → Type 0
WasChanged es k = (earlier : List Entry) × (at : List ℕ) × (label : List ℕ) × (file : List ℕ) × (op : Operation) × (events : List Line) × (answer : Line) × SaidThere es earlier (At at (Records label file op)) events answer × (is_change op ≡ true) × IsDoneAnswer answer × IsNamed earlier at label k.tid k.serial

-- by an entry, or by one before it
abbrev IsChangedHere : Entry → List Entry → BranchKey → Type 0
IsChangedHere e es k = (at : List ℕ) × (label : List ℕ) × (file : List ℕ) × (op : Operation) × (events : List Line) × (answer : Line) × (reading e.source.text ≡ Says (At at (Records label file op))) × (e.lines ≡ events ++ answer ∷ []) × (is_change op ≡ true) × IsDoneAnswer answer × IsNamed es at label k.tid k.serial

changed_split : (e : Entry) (es : List Entry) (k : BranchKey) → WasChanged (e ∷ es) k → WasChanged es k ⊎ IsChangedHere e es k
changed_split e es k (earlier, at, label, file, op, events, answer, there, is, fine, named) = go there.after there.stands
  where
    go : (after : List Entry) → e ∷ es ≡ after ++ there.entry ∷ earlier → WasChanged es k ⊎ IsChangedHere e es k
    go [] stands =
        let one : e ≡ there.entry = cc in
        let rest : es ≡ earlier = cc in
        inr (at, label, file, op, events, answer, ap (λ (x : Entry). reading x.source.text) one ∙ there.said, ap (λ (x : Entry). x.lines) one ∙ there.shown, is, fine, subst (λ xs. IsNamed xs at label k.tid k.serial) (sym rest) named)
    go (x ∷ after) stands =
        let rest : es ≡ after ++ there.entry ∷ earlier = cc in
        inl (earlier, at, label, file, op, events, answer, record { after = after; entry = there.entry; stands = rest; said = there.said; shown = there.shown }, is, fine, named)

pub ids_behind : (xs ys : List Entry) (id : Id) → In id (ids_told ys) → In id (ids_told (xs ++ ys))
ids_behind [] ys id i = i
ids_behind (x ∷ xs) ys id i = in_right id (ids_here (reading x.source.text) x.lines) (ids_told (xs ++ ys)) (ids_behind xs ys id i)

-- the label of which lines tell this
find_back : (name : List ℕ) (ls : List Label) (l : ToldLabel) → find_told name (map told ls) ≡ Some l → (x : Label) × In x ls × (told x ≡ l)
find_back name [] l e = let no : ⊥ = cc in absurd no
find_back name (x ∷ ls) l e = go (bytes_eq name x.name) e (find_back name ls l)
  where
    go : (t : Bool) → ◌≡◌ {A = Option ToldLabel} (if t then Some (told x) else find_told name (map told ls)) (Some l) → (find_told name (map told ls) ≡ Some l → (y : Label) × In y ls × (told y ≡ l)) → (y : Label) × In y (x ∷ ls) × (told y ≡ l)
    go true f more = (x, inl refl, some_is (told x) l f)
    go false f more = let r = more f in (r.0, inr r.1, r.2)

-- whether a reading is of a request by which a branch begins
abbrev is_begun : Reading → Bool
is_begun (Says (At other request)) = is_beginning request
is_begun _ = false

beginning_task : (w : World) (node : List ℕ) (r : Request) → is_beginning r ≡ true → task_of w (At node r) ≡ Some (record { node = node; task = Serves r })
beginning_task w node (StartTrans label seconds) h = refl
beginning_task w node (StartBranch label) h = refl
beginning_task w node _ h = let no : ⊥ = cc in absurd no

abbrev KeptFor : List ℕ → List Entry → List BranchKey → Node → Type 0
KeptFor node es ks n = Kept (leaving node (WasChanged es)) (leaving_keeps node (WasChanged es)) ks n

abbrev TrackedFor : List ℕ → List Entry → List BranchKey → World → Type 0
TrackedFor node es ks w = Tracked (leaving node (WasChanged es)) (leaving_keeps node (WasChanged es)) node ks w

module _ (nodes : List Node) (disks : List DiskCounts) (opening : AreOpening nodes) where
  abbrev start : World
  start = opened nodes disks

  -- a branch that was changed has an id that was told
  told_changed : (es : List Entry) (w : World) (k : BranchKey) → Legal start es w → WasChanged es k → In k.serial (ids_told es)
  told_changed es w k legal (earlier, at, label, file, op, events, answer, there, is, fine, (l, finds, home, tid, serial)) =
      let r = stays start w there.after (there.entry ∷ earlier) (subst (λ xs. Legal start xs w) there.stands legal) in
      let named = legal_named nodes disks earlier (r.1.0) opening (r.1.1) in
      let x = find_back label (r.1.0).shared.labels l (ap (find_told label) (sym named.labels) ∙ finds) in
      let among = (named.made x.0 x.1).serial k.serial (ap (λ (y : ToldLabel). y.serial) x.2 ∙ serial) in
      subst (λ xs. In k.serial (ids_told xs)) (sym there.stands) (ids_behind there.after (there.entry ∷ earlier) k.serial (in_right k.serial (ids_here (reading there.entry.source.text) there.entry.lines) (ids_told earlier) among))

  -- one that begins is none of them
  fresh : (es : List Entry) (w : World) (node : List ℕ) (n : Node) (tid : Id) → Legal start es w → Named es w → find_node node w.nodes ≡ Some n → WasChanged es (child tid (next_id n)) → ⊥
  fresh es w node n tid legal named found c =
      not_past n (named.drawn (next_id n) (told_changed es w (child tid (next_id n)) legal c) n (subst (λ name. find_node name w.nodes ≡ Some n) (sym (found_name node w.nodes n found)) found))

  module _ (node : List ℕ) where
    module _ (e : Entry) (es : List Entry) (w v : World) (named : Named es w) (after : Named (e ∷ es) v) (legal : Legal start es w) (sound : IsSound w) (h : TrackedFor node es [] w) where
      abbrev K : BranchKey → Type 0
      K = WasChanged es

      begin_takes : (n : Node) (r : Request) → find_node node w.nodes ≡ Some n → is_beginning r ≡ true → AllTake (leaving node (WasChanged es)) ((service r).rows w.shared n)
      begin_takes n (StartTrans label seconds) found b = (tt, (tt, ((λ u k. absurd (fresh es w node n (next_id n) legal named found k)), tt)))
      begin_takes n (StartBranch label) found b = go (labelled n.name label w.shared.labels)
        where
          go : (o : Option Label) → AllTake (leaving node (WasChanged es)) (told_if w.shared n (option_and_then (begins n) o))
          go None = tt
          go (Some l) = at l.bid
            where
              at : (o : Option Id) → AllTake (leaving node (WasChanged es)) (told_if w.shared n (option_map (λ bid. let t : answers.Telling = record { before = world.Draws ∷ world.Numbers l.name (next_id n) ∷ []; event = rows.Begin l.tid (next_id n) bid } in t) o))
              at None = tt
              at (Some bid) = (tt, (tt, ((λ u k. absurd (fresh es w node n l.tid legal named found k)), (tt, tt))))
      begin_takes n _ found b = let no : ⊥ = cc in absurd no

      began : (request : Request) → is_beginning request ≡ true → Step w (At node request) e.lines v → TrackedFor node es (lefts_on node e.lines []) v
      began request b step = go (ended w v (At node request) e.lines node (Serves request) (beginning_task w node request b) step)
        where
          go : Ended w v node (Serves request) e.lines → TrackedFor node es (lefts_on node e.lines []) v
          go (Refused refusal r shows goes) m found = subst (λ ls. KeptFor node es ls m) (sym (ap (λ ls. lefts_on node ls []) shows ∙ lefts_none node (refusal ∷ []) [] (refusal_voteless refusal r, tt)))
              (h m (subst (λ (x : World). find_node node x.nodes ≡ Some m) goes found))
          go (Turned n there c allowed shows goes) m found =
              let x = task_effect w.shared (stops_at node w) n (Serves request) c in
              let kept = leaving_effect node (WasChanged es) [] w.shared (stops_at node w) n (Serves request) c (λ cause. RoseAt w node cause v.disks) (sound_node w sound node n there) (λ known. begin_takes n request there b) allowed (h n there) in
              let now : find_node node v.nodes ≡ Some x.node = ap (λ (y : World). find_node node y.nodes) goes ∙ put_node node n x.node w.nodes (effect_name w.shared (stops_at node w) n (Serves request) c) there in
              let answer_so : x.answer ≡ step.answer = (same_last x.lines step.events x.answer step.answer (sym shows ∙ step.shows)).1 in
              let voteless = subst (λ l. Rattle.run_laws.proofs.EachRow.is_voteless l ≡ true) (sym answer_so) (answer_voteless w v (At node request) e.lines step) in
              let lines_so : lefts_on node e.lines [] ≡ lefts_on node x.lines [] =
              ap (λ ls. lefts_on node ls []) shows ∙ (leaving_keeps node (WasChanged es)).append x.lines (x.answer ∷ []) [] ∙ lefts_none node (x.answer ∷ []) (lefts_on node x.lines []) (voteless, tt) in
              subst (λ ks. KeptFor node es ks m) (sym lines_so) (subst (KeptFor node es (lefts_on node x.lines [])) (some_is x.node m (sym now ∙ found)) kept)

      turn_known : (r : Reading) → Turn w r e.lines v → TrackedFor node es (lefts_on node e.lines []) v
      turn_known r turn = go r turn
        where
          plainly : (r : Reading) → IsPlainReading (leaving node (WasChanged es)) (leaving_keeps node (WasChanged es)) node (leaving_tracks node (WasChanged es)) r → Turn w r e.lines v → TrackedFor node es (lefts_on node e.lines []) v
          plainly r plain t = turn_tracked (leaving node (WasChanged es)) (leaving_keeps node (WasChanged es)) node (leaving_tracks node (WasChanged es)) w v (λ n found. tt) r e.lines [] plain t sound h

          at : (other : List ℕ) (request : Request) (b : Bool) → bytes_eq other node ≡ b → (m : Bool) → is_beginning request ≡ m → Turn w (Says (At other request)) e.lines v → TrackedFor node es (lefts_on node e.lines []) v
          at other request false q m making t = plainly (Says (At other request)) (ap (λ b. b && is_beginning request) q) t
          at other request true q false making t = plainly (Says (At other request)) ((λ i. q i && making i)) t
          at other request true q true making t = began request making (subst (λ name. Step w (At name request) e.lines v) ((bytes_eq-Decides other node).0 q) t)

          says : (s : Statement) → Turn w (Says s) e.lines v → TrackedFor node es (lefts_on node e.lines []) v
          says (At other request) t = at other request (bytes_eq other node) refl (is_beginning request) refl t
          says s t = plainly (Says s) tt t

          go : (r : Reading) → Turn w r e.lines v → TrackedFor node es (lefts_on node e.lines []) v
          go (Says s) t = says s t
          go r t = plainly r tt t

      -- what this entry changed
      now_changed : Turn w (reading e.source.text) e.lines v → (n : Node) → find_node node v.nodes ≡ Some n → (b : Branch) → In b n.volatile.branches → is_prepared b.state ≡ false → IsChangedHere e es b.key → b.changed ≡ true
      now_changed turn n found b i u (at, label, file, op, events, answer, said, shown, is, fine, (l, finds, home, tid, serial)) =
          let r = records_done w v at label file op is events answer fine (subst (λ ls. Step w (At at (Records label file op)) ls v) shown (subst (λ x. Turn w x e.lines v) said turn)) in
          let x = label_of w.shared r.n label r.branch r.labelled_so in
          let same : l ≡ told x.label = some_is l (told x.label) (sym finds ∙ ap (find_told label) named.labels ∙ find_map label w.shared.labels x.label x.found) in
          let serial_is : b.key.serial ≡ r.branch.key.serial = some_is b.key.serial r.branch.key.serial (sym serial ∙ ap (λ (y : ToldLabel). y.serial) same ∙ x.serial) in
          let own : b.key.serial.node ≡ at =
          (named.made x.label (Rattle.run_laws.proofs.Labelling.found_label label w.shared.labels x.label x.found).0).own b.key.serial (sym (ap (λ (y : ToldLabel). y.serial) same) ∙ serial) ∙ x.node ∙ found_name at w.nodes r.n r.found in
          let here : node ≡ at = sym (after.home node n found b.key (b, i, u, refl)) ∙ own in
          let one : n ≡ r.m = some_is n r.m (sym found ∙ subst (λ name. find_node name v.nodes ≡ Some r.m) (sym here) r.there) in
          let j : In b (with_changed r.branch.key.serial r.n.volatile.branches) = subst (In b) r.branches (subst (λ (y : Node). In b y.volatile.branches) one i) in
          changed_one r.branch.key.serial r.n.volatile.branches (differ r.n ((sound.kept at r.n r.found).runs r.up).0.table) b j serial_is

      tracked_more : Turn w (reading e.source.text) e.lines v → TrackedFor node (e ∷ es) [] v
      tracked_more turn n found =
          let kept = turn_known (reading e.source.text) turn n found in
          record {
            disk = tt;
            way = λ act is. tt;
            runs = λ up. (tt, λ b i u k. elim (changed_split e es b.key k) [ inl before ↦ (kept.runs up).1 b i u before | inr here ↦ now_changed turn n found b i u here ]);
          }

    legal_tracked : (es : List Entry) (w : World) → Legal start es w → TrackedFor node es [] w
    legal_tracked [] w legal = λ n found. record {
      disk = tt;
      way = λ act is. tt;
      runs = λ up. (tt, λ b i u k. absurd (told_changed [] w b.key legal k));
    }
    legal_tracked (e ∷ es) w legal =
        tracked_more e es legal.0 w (legal_named nodes disks es legal.0 opening legal.1) (legal_named nodes disks (e ∷ es) w opening legal) legal.1 (legal_sound start legal.0 es (opening_sound nodes disks opening) legal.1) (legal_tracked es legal.0 legal.1) legal.2

-- Lines.

module _ (node : List ℕ) (K : BranchKey → Type 0) where
  all_back : (ls : List Line) (ks : List BranchKey) → NoneOf node K (lefts_on node ls ks) → NoneOf node K ks
  all_back [] ks h = h
  all_back (l ∷ ls) ks h = one (left_in node l) (all_back ls (with_fall (left_in node l) ks) h)
    where
      one : (o : Option BranchKey) → NoneOf node K (with_fall o ks) → NoneOf node K ks
      one None g = g
      one (Some k) g = g.1

  left_there : (tid serial : Id) (front behind : List Line) (ks : List BranchKey) → bytes_eq serial.node node ≡ true → NoneOf node K (lefts_on node (front ++ line.ReadOnly tid serial ∷ behind) ks) → K (child tid serial) → ⊥
  left_there tid serial [] behind ks own h =
      (subst (λ b. NoneOf node K (with_fall (if b then Some (child tid serial) else None) ks)) own (all_back behind (with_fall (left_in node (line.ReadOnly tid serial)) ks) h)).0
  left_there tid serial (x ∷ front) behind ks own h = left_there tid serial front behind (with_fall (left_in node x) ks) own h

here_in : (front : List Line) (this : Line) (behind : List Line) → In this (front ++ this ∷ behind)
here_in [] this behind = inl refl
here_in (x ∷ front) this behind = inr (here_in front this behind)

-- the node of a branch that leaves is there
voter_found : (w v : World) (r : Reading) (lines : List Line) → IsSound w → Turn w r lines v → (tid serial : Id) → In (line.ReadOnly tid serial) lines → (n : Node) × (find_node serial.node v.nodes ≡ Some n)
voter_found w v (Says s) lines sound t tid serial i = step_voter w v s lines sound t (line.ReadOnly tid serial) serial i refl
voter_found w v (Rattle.run_said.specs.script_model.Statements.Blank) lines sound t tid serial i = absurd (subst (In (line.ReadOnly tid serial)) t.0 i)
voter_found w v (Rattle.run_said.specs.script_model.Statements.Bad column) lines sound t tid serial i = absurd t

pub read_only_hold : ReadOnlyHold
read_only_hold nodes disks es closing opening legal before said front behind tid serial there earlier at label file op events answer done is fine named =
    let begin = opened nodes disks in
    let r = stays begin closing there.after (there.entry ∷ before) (subst (λ xs. Legal begin xs closing) there.stands legal) in
    let now : Legal begin (there.entry ∷ before) r.0 = (r.1.0, r.1.1, r.1.2) in
    let sound = legal_sound begin r.1.0 before (opening_sound nodes disks opening) r.1.1 in
    let n = voter_found r.1.0 r.0 (reading there.entry.source.text) there.entry.lines sound r.1.2 tid serial (subst (In (line.ReadOnly tid serial)) (sym there.shown) (here_in front (line.ReadOnly tid serial) behind)) in
    let kept = turn_known nodes disks opening serial.node there.entry before r.1.0 r.0 (legal_named nodes disks before r.1.0 opening r.1.1) (legal_named nodes disks (there.entry ∷ before) r.0 opening now) r.1.1 sound (legal_tracked nodes disks opening serial.node before r.1.0 r.1.1) (reading there.entry.source.text) r.1.2 n.0 n.1 in
    left_there serial.node (WasChanged before) tid serial front behind [] ((bytes_eq-Decides serial.node serial.node).1 refl) (subst (λ ls. NoneOf serial.node (WasChanged before) (lefts_on serial.node ls [])) there.shown kept.disk) (earlier, at, label, file, op, events, answer, done, is, fine, named)
