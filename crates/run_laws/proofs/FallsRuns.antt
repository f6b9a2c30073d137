-- The same over runs.
use Rattle.std.proofs.Common.{◌≡◌, ℕ, ◌⊎◌, List, [], ◌∷◌, ◌++◌, inl, inr, Bool, true, false, ◌&&◌, Option, Some, None, if◌then◌else◌, not, ◌||◌, refl, sym, ◌∙◌, ap, subst}
use Rattle.std.specs.Option.{is_some, option_and_then, option_map}
use Rattle.std.specs.Str.{bytes_eq}
use Rattle.std.proofs.lemmas.Bool.{both_ways}
use Rattle.std.proofs.lemmas.Slice.Eq.{bytes_eq-Decides}
use Rattle.vms_model.specs.Ids.{Id}
use Rattle.vms_model.specs.Transactions.{SegFail}
use Rattle.run_said.specs.transcript_model.Lines as line
use Rattle.run_said.specs.transcript_model.Lines.{Line, Cause}
use Rattle.run_said.specs.script_model.Statements.{Request, Statement, At, Reading, Says, StartTrans, AddBranch, StartBranch}
use Rattle.run_said.specs.script_model.Grammar.{reading}
use Rattle.unit_laws.specs.Journal.{find_unit, units_in}
use Rattle.commit_protocol.specs.Table as table
use Rattle.commit_protocol.specs.Table.{Branch, State, Key as BranchKey, child, find, first}
use Rattle.commit_protocol.specs.Rows as rows
use Rattle.commit_protocol.specs.Rows.{row}
use Rattle.commit_protocol.specs.World.{In}
use Rattle.run_said.specs.run_model.World as world
use Rattle.run_said.specs.run_model.World.{World, Shared, Node, Act, DiskCounts, IsOpening, Label, Settlement, Tables, acted, find_node, next_moment, opened, shared_after, tm_of}
use Rattle.run_said.specs.run_model.Answers as answers
use Rattle.run_said.specs.run_model.Answers.{Row, Serves, Service, begins, branch_labelled, refused_before_reading, service, table_rows, told_if, told_rows}
use Rattle.run_said.specs.run_model.Steps.{node_after, node_after_rows, succeeded}
use Rattle.run_said.specs.run_model.Statements.{Step}
use Rattle.run_said.specs.run_model.Transcript.{Entry, AreOpening, Legal, Turn}
use Rattle.run_said.specs.run_model.Operations.{first_of, refused_if}
use Rattle.run_said.specs.run_model.StepLaws.{task_of}
use Rattle.run_said.proofs.run_model.NodeLists.{found_name, put_node, some_is}
use Rattle.recovery_laws.specs.world_laws.Nodes.{IsKeptDisk, IsKeptNode}
use Rattle.run_said.proofs.run_model.TaskLemmas.{rows_name}
use Rattle.recovery_laws.proofs.world_laws.NodeLemmas.{rows_way}
use Rattle.recovery_laws.proofs.world_laws.WorldLemmas.{each_opening}
use Rattle.run_laws.specs.Causes.{AbortCause, HasBegun}
use Rattle.run_laws.specs.Promises.{ShownThere, WasLeft, abort, settlements_of}
use Rattle.run_laws.specs.Laws.{FallsBegunHold}
use Rattle.run_laws.proofs.AllShown.{shown_hold}
use Rattle.run_laws.proofs.CauseRuns.{aborted_hold}
use Rattle.run_laws.proofs.FallsBegun.{with_fall, AllIn, fall_in, falling, falling_keeps, falling_tracks, falls_on, is_making, unit_serial}
use Rattle.run_laws.proofs.Keeping.{Kept}
use Rattle.run_laws.proofs.Labelling.{Succeeds, request_ends, served_up}
use Rattle.run_laws.proofs.Named.{Named, born_later}
use Rattle.run_laws.proofs.NamedRuns.{legal_named}
use Rattle.run_laws.proofs.Once.{unit_of}
use Rattle.run_laws.proofs.ShownSettled.{shown_settled}
use Rattle.run_laws.proofs.SoundWorlds.{IsPlainReading, IsSound, Tracked, legal_sound, opening_sound, turn_tracked}
use Rattle.run_laws.proofs.Staying.{stays}

-- A request by which a label is made, or takes a branch, leaves what its node's disk has.

-- whether an act leaves it
abbrev is_still_table : table.Act → Bool
is_still_table (table.Notes b) = true
is_still_table (table.Sends m) = true
is_still_table _ = false

abbrev is_still : Act → Bool
is_still world.Draws = true
is_still (world.Labels l) = true
is_still (world.Numbers label serial) = true
is_still (Tables a moment) = is_still_table a
is_still _ = false

durable_same : (act : Act) (n : Node) → is_still act ≡ true → (acted act n).durable ≡ n.durable
durable_same (Tables a moment) n h = go a h
  where
    go : (a : table.Act) → is_still_table a ≡ true → (acted (Tables a moment) n).durable ≡ n.durable
    go (table.Notes b) k = refl
    go (table.Sends m) k = refl
    go _ k = let no : ⊥ = cc in absurd no
durable_same world.Draws n h = refl
durable_same (world.Labels l) n h = refl
durable_same (world.Numbers label serial) n h = refl
durable_same _ n h = let no : ⊥ = cc in absurd no

abbrev IsQuiet : Option Act → Type 0
IsQuiet None = Unit {0}
IsQuiet (Some act) = is_still act ≡ true

abbrev AreQuiet : List Row → Type 0
AreQuiet [] = Unit {0}
AreQuiet (r ∷ rs) = IsQuiet r.act × AreQuiet rs

quiet_same : (rs : List Row) (n : Node) → AreQuiet rs → (node_after_rows rs n).durable ≡ n.durable
quiet_same [] n h = refl
quiet_same (r ∷ rs) n h = quiet_same rs (node_after r.act n) h.1 ∙ one r.act h.0
  where
    one : (o : Option Act) → IsQuiet o → (node_after o n).durable ≡ n.durable
    one None q = refl
    one (Some act) q = durable_same act n q

begins_quiet : (s : Shared) (n : Node) (o : Option Label) → AreQuiet (told_if s n (option_and_then (begins n) o))
begins_quiet s n None = tt
begins_quiet s n (Some l) = go l.bid
  where
    go : (o : Option Id) → AreQuiet (told_if s n (option_map (λ bid. let t : answers.Telling = record { before = world.Draws ∷ world.Numbers l.name (world.next_id n) ∷ []; event = rows.Begin l.tid (world.next_id n) bid } in t) o))
    go None = tt
    go (Some bid) = (refl, (refl, (refl, (refl, tt))))

authorised_quiet : (bid : Id) (o : Option Branch) (s : Shared) (n : Node) → AreQuiet (table_rows (rows.authorise_row bid o) s n)
authorised_quiet bid None s n = tt
authorised_quiet bid (Some b) s n = go b.state
  where
    go : (x : State) → AreQuiet (table_rows (rows.authorise_state bid b x) s n)
    go table.Active = (refl, tt)
    go _ = tt

making_quiet : (s : Shared) (n : Node) (r : Request) → is_making r ≡ true → AreQuiet ((service r).rows s n)
making_quiet s n (StartTrans label seconds) h = (refl, (refl, (refl, tt)))
making_quiet s n (AddBranch label other new) h = go (branch_labelled s n label)
  where
    go : (o : Option Branch) → AreQuiet (elim o [ Some b ↦ told_rows s n (answers.adds n other new b) | None ↦ [] ])
    go None = tt
    go (Some b) = (refl, (refl, authorised_quiet _ (find (first b.key.tid) n.volatile.branches) _ _))
making_quiet s n (StartBranch label) h = begins_quiet s n (world.labelled n.name label s.labels)
making_quiet s n _ h = let no : ⊥ = cc in absurd no

making_ends : (r : Request) → is_making r ≡ true → ((service r).closing ≡ None) × (answers.powers (service r) ≡ false) × (answers.touches (service r) ≡ false) × ((service r).while_down ≡ false)
making_ends (StartTrans label seconds) h = (refl, refl, refl, refl)
making_ends (AddBranch label other new) h = (refl, refl, refl, refl)
making_ends (StartBranch label) h = (refl, refl, refl, refl)
making_ends _ h = let no : ⊥ = cc in absurd no

making_task : (w : World) (node : List ℕ) (r : Request) → is_making r ≡ true → task_of w (At node r) ≡ Some (record { node = node; task = Serves r })
making_task w node (StartTrans label seconds) h = refl
making_task w node (AddBranch label other new) h = refl
making_task w node (StartBranch label) h = refl
making_task w node _ h = let no : ⊥ = cc in absurd no

-- whether a statement is such a one
abbrev is_made : Reading → Bool
is_made (Says (At other request)) = is_making request
is_made _ = false

-- What may be aborted for a fall, behind these entries.

abbrev May : World → List Entry → BranchKey → Type 0
May opening es k = HasBegun es k.tid k.serial ⊎ WasLeft k.tid k.serial opening

may_later : (opening : World) (e : Entry) (es : List Entry) (k : BranchKey) → May opening es k → May opening (e ∷ es) k
may_later opening e es k (inl b) = inl (born_later e es k.tid k.serial b)
may_later opening e es k (inr l) = inr l

abbrev KeptFor : List ℕ → World → List Entry → List BranchKey → Node → Type 0
KeptFor node opening es ks n = Kept (falling node (May opening es)) (falling_keeps node (May opening es)) ks n

kept_later : (node : List ℕ) (opening : World) (e : Entry) (es : List Entry) (ks : List BranchKey) (n : Node) → KeptFor node opening es ks n → KeptFor node opening (e ∷ es) [] n
kept_later node opening e es ks n h = record {
  disk = (tt, λ x u found active. may_later opening e es _ (h.disk.1 x u found active));
  way = λ act way. (tt, λ x u found active. may_later opening e es _ ((h.way act way).1 x u found active));
  runs = λ up. (tt, λ k o. may_later opening e es k ((h.runs up).1 k o));
}

-- Each world.

abbrev TrackedFor : List ℕ → World → List Entry → List BranchKey → World → Type 0
TrackedFor node opening es ks w = Tracked (falling node (May opening es)) (falling_keeps node (May opening es)) node ks w

module _ (nodes : List Node) (disks : List DiskCounts) (opening : AreOpening nodes) (node : List ℕ) where
  abbrev start : World
  start = opened nodes disks

  opening_kept : (n : Node) → find_node node nodes ≡ Some n → IsOpening n → IsKeptDisk n → KeptFor node start [] [] n
  opening_kept n found o kept = record {
    disk = (
      tt,
      λ x u is active.
          let of = unit_of n kept x (ap is_some is) in
          let same = unit_serial x (units_in n.durable.units.entries) u is in
          let at : find_node u.serial.node nodes ≡ Some n = subst (λ name. find_node name nodes ≡ Some n) (sym (ap (λ (y : Id). y.node) (sym same) ∙ of.0 ∙ found_name node nodes n found)) found in
          inr (n, at, u, subst (λ y. find_unit y (units_in n.durable.units.entries) ≡ Some u) same is, refl, active),
    );
    way = λ act e. let no : ◌≡◌ {A = Option Act} None (Some act) = sym o.under_way ∙ e in let none : ⊥ = cc in absurd none;
    runs = λ up. absurd (both_ways n.up o.down up);
  }

  -- a statement at this node by which a label is made, or takes a branch
  module _ (e : Entry) (es : List Entry) (w v : World) (request : Request) (making : is_making request ≡ true) (named : Named (e ∷ es) v) (sound : IsSound w) (h : TrackedFor node start es [] w) where
    succeeds : Succeeds w v node request e.lines → TrackedFor node start (e ∷ es) [] v
    succeeds x m found =
        let n = x.n in
        let ends = making_ends request making in
        let rs = (service request).rows w.shared n in
        let after = node_after_rows rs n in
        let whole : (succeeded w.shared n (service request)).node ≡ after = ap (λ o. node_after o after) ends.0 in
        let kept = sound.kept node n x.found in
        let up = served_up n ((service request).refused_before_reading w.shared n) (subst (λ b. first_of (refused_if (not (n.up || b)) line.NodeDown) ((service request).refused_before_reading w.shared n) ≡ None) ends.3 x.first) in
        let under : n.under_way ≡ None = none_under n kept up n.under_way refl in
        let there : find_node node v.nodes ≡ Some (succeeded w.shared n (service request)).node = ap (λ (y : World). find_node node y.nodes) x.goes ∙ put_node node n (succeeded w.shared n (service request)).node w.nodes (ap (λ (y : Node). y.name) whole ∙ rows_name rs n) x.found in
        let same : after ≡ m = sym whole ∙ some_is _ m (sym there ∙ found) in
        let durable : m.durable ≡ n.durable = ap (λ (y : Node). y.durable) (sym same) ∙ quiet_same rs n (making_quiet w.shared n request making) in
        let way : m.under_way ≡ None = ap (λ (y : Node). y.under_way) (sym same) ∙ rows_way rs n ∙ under in
        record {
          disk = (tt, λ y u is active. may_later start e es _ ((h n x.found).disk.1 y u (subst (λ d. find_unit y (units_in d.units.entries) ≡ Some u) durable is) active));
          way = λ act q. let no : ◌≡◌ {A = Option Act} None (Some act) = sym way ∙ q in let none : ⊥ = cc in absurd none;
          runs = λ up. (tt, λ k o. inl (named.born node m found k o));
        }
      where
        none_under : (n : Node) → IsKeptNode w.shared n → n.up ≡ true → (o : Option Act) → n.under_way ≡ o → o ≡ None
        none_under n kept up None q = refl
        none_under n kept up (Some act) q = absurd (both_ways n.up (kept.way act q).2 up)

    pub made : Step w (At node request) e.lines v → TrackedFor node start (e ∷ es) [] v
    made step = elim (request_ends w v node request e.lines (making_task w node request making) (making_ends request making).1 (making_ends request making).2 step) [
      | inl r ↦ (λ n found. kept_later node start e es [] n (h n (subst (λ (x : World). find_node node x.nodes ≡ Some n) r.4 found)))
      | inr x ↦ succeeds x
    ]

  turn_known : (e : Entry) (es : List Entry) (w v : World) → Named (e ∷ es) v → IsSound w → TrackedFor node start es [] w → (r : Reading) → Turn w r e.lines v →
      TrackedFor node start (e ∷ es) [] v × ((n : Node) → find_node node v.nodes ≡ Some n → (is_made r ≡ true) ⊎ AllIn node (May start es) (falls_on node e.lines []))
  turn_known e es w v named sound h r turn = go r turn
    where
      plainly : (r : Reading) → IsPlainReading (falling node (May start es)) (falling_keeps node (May start es)) node (falling_tracks node (May start es)) r → Turn w r e.lines v →
          TrackedFor node start (e ∷ es) [] v × ((n : Node) → find_node node v.nodes ≡ Some n → (is_made r ≡ true) ⊎ AllIn node (May start es) (falls_on node e.lines []))
      plainly r plain t =
          let all = turn_tracked (falling node (May start es)) (falling_keeps node (May start es)) node (falling_tracks node (May start es)) w v (λ n found. tt) r e.lines [] plain t sound h in
          (λ n found. kept_later node start e es (falls_on node e.lines []) n (all n found), λ n found. inr (all n found).disk.0)

      at : (other : List ℕ) (request : Request) (b : Bool) → bytes_eq other node ≡ b → (m : Bool) → is_making request ≡ m → Turn w (Says (At other request)) e.lines v →
          TrackedFor node start (e ∷ es) [] v × ((n : Node) → find_node node v.nodes ≡ Some n → (is_made (Says (At other request)) ≡ true) ⊎ AllIn node (May start es) (falls_on node e.lines []))
      at other request false q m making t = plainly (Says (At other request)) (ap (λ b. b && is_making request) q) t
      at other request true q false making t = plainly (Says (At other request)) ((λ i. q i && making i)) t
      at other request true q true making t = (made e es w v request making named sound h (subst (λ name. Step w (At name request) e.lines v) ((bytes_eq-Decides other node).0 q) t), λ n found. inl making)

      go : (r : Reading) → Turn w r e.lines v → TrackedFor node start (e ∷ es) [] v × ((n : Node) → find_node node v.nodes ≡ Some n → (is_made r ≡ true) ⊎ AllIn node (May start es) (falls_on node e.lines []))
      go (Says (At other request)) t = at other request (bytes_eq other node) refl (is_making request) refl t
      go (Says s) t = plain_says s t
        where
          plain_says : (s : Statement) → Turn w (Says s) e.lines v → TrackedFor node start (e ∷ es) [] v × ((n : Node) → find_node node v.nodes ≡ Some n → (is_made (Says s) ≡ true) ⊎ AllIn node (May start es) (falls_on node e.lines []))
          plain_says (At other request) t = at other request (bytes_eq other node) refl (is_making request) refl t
          plain_says s t = plainly (Says s) tt t
      go r t = plainly r tt t

  legal_tracked : (es : List Entry) (w : World) → Legal start es w → TrackedFor node start es [] w
  legal_tracked [] w legal = subst (TrackedFor node start [] []) (sym legal) (λ n found. opening_kept n found (each_opening nodes opening node n found) ((opening_sound nodes disks opening).kept node n found).disk)
  legal_tracked (e ∷ es) w legal =
      (turn_known e es legal.0 w (legal_named nodes disks (e ∷ es) w opening legal) (legal_sound start legal.0 es (opening_sound nodes disks opening) legal.1) (legal_tracked es legal.0 legal.1) (reading e.source.text) legal.2).0

-- Lines.

module _ (node : List ℕ) (K : BranchKey → Type 0) where
  all_back : (ls : List Line) (ks : List BranchKey) → AllIn node K (falls_on node ls ks) → AllIn node K ks
  all_back [] ks h = h
  all_back (l ∷ ls) ks h = one (fall_in node l) (all_back ls (with_fall (fall_in node l) ks) h)
    where
      one : (o : Option BranchKey) → AllIn node K (with_fall o ks) → AllIn node K ks
      one None g = g
      one (Some k) g = g.1

  fall_there : (tid serial : Id) (moment : ℕ) (front behind : List Line) (ks : List BranchKey) → bytes_eq serial.node node ≡ true → AllIn node K (falls_on node (front ++ line.Aborted tid serial SegFail moment ∷ behind) ks) → K (child tid serial)
  fall_there tid serial moment [] behind ks own h =
      (subst (λ b. AllIn node K (with_fall (if b then Some (child tid serial) else None) ks)) own (all_back behind (with_fall (fall_in node (line.Aborted tid serial SegFail moment)) ks) h)).0
  fall_there tid serial moment (x ∷ front) behind ks own h = fall_there tid serial moment front behind (with_fall (fall_in node x) ks) own h

-- neither a settling nor a boot is a request by which a label is made
cause_plain : (es : List Entry) (said : Reading) (front : List Line) (tid serial : Id) → AbortCause es said front SegFail tid serial → is_made said ≡ false
cause_plain es said front tid serial (inl settle) = ap is_made settle
cause_plain es said front tid serial (inr boot) = ap is_made boot

pub falls_begun : FallsBegunHold
falls_begun nodes disks es closing opening legal before said front behind tid serial moment there =
    let start = opened nodes disks in
    let r = stays start closing there.after (there.entry ∷ before) (subst (λ xs. Legal start xs closing) there.stands legal) in
    let now : Legal start (there.entry ∷ before) r.0 = (r.1.0, r.1.1, r.1.2) in
    let here : ShownThere (there.entry ∷ before) before said front (line.Aborted tid serial SegFail moment) behind = record { after = []; entry = there.entry; stands = refl; read = there.read; shown = there.shown } in
    let cause = (aborted_hold nodes disks es closing opening legal before said front behind tid serial SegFail moment there).0 in
    let s = shown_settled nodes disks (there.entry ∷ before) r.0 opening now before said front behind (line.Aborted tid serial SegFail moment) (abort tid serial SegFail moment) here refl in
    let own = (shown_hold nodes disks (there.entry ∷ before) r.0 opening now s.0 (abort tid serial SegFail moment) s.1).0 in
    let n = settled_there serial.node r.0 (abort tid serial SegFail moment) (subst (λ name. In (abort tid serial SegFail moment) (settlements_of name r.0)) (sym own) s.1) in
    let all = (turn_known nodes disks opening serial.node there.entry before r.1.0 r.0 (legal_named nodes disks (there.entry ∷ before) r.0 opening now) (legal_sound start r.1.0 before (opening_sound nodes disks opening) r.1.1)
    (legal_tracked nodes disks opening serial.node before r.1.0 r.1.1) (reading there.entry.source.text) r.1.2).1 n.0 n.1 in
    elim all [
      | inl made ↦ absurd (both_ways (is_made said) (cause_plain before said front tid serial cause) (subst (λ x. is_made x ≡ true) there.read made))
      | inr falls ↦ fall_there serial.node (May start before) tid serial moment front behind [] ((bytes_eq-Decides serial.node serial.node).1 refl) (subst (λ ls. AllIn serial.node (May start before) (falls_on serial.node ls [])) there.shown falls)
    ]
  where
    settled_there : (node : List ℕ) (v : World) (s : Settlement) → In s (settlements_of node v) → (n : Node) × (find_node node v.nodes ≡ Some n)
    settled_there node v s i = found (find_node node v.nodes) refl i
      where
        found : (o : Option Node) → find_node node v.nodes ≡ o → In s (elim o [ Some n ↦ n.settled | None ↦ [] ]) → (n : Node) × (find_node node v.nodes ≡ Some n)
        found (Some n) e j = (n, e)
        found None e j = absurd j
