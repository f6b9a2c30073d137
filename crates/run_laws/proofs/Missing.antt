-- Where END_TRANS is answered that a branch is missing, an identifier was authorised by which none joined.
use Rattle.std.proofs.Common.{◌≡◌, ℕ, ◌⊎◌, List, [], ◌∷◌, ◌++◌, map, inl, inr, Bool, true, false, not, ◌&&◌, ◌||◌, Option, Some, None, if◌then◌else◌, refl, sym, ◌∙◌, ap, subst}
use Rattle.std.specs.Option.{option_map, option_and_then}
use Rattle.std.specs.Str.{bytes_eq}
use Rattle.std.proofs.lemmas.Bool.{and_parts, both_ways}
use Rattle.vms_model.specs.Ids.{Id}
use Rattle.run_said.specs.transcript_model.Lines as line
use Rattle.run_said.specs.transcript_model.Lines.{Line, Cause}
use Rattle.run_said.specs.script_model.Statements.{Statement, At, Deliver, LinkDown, Settle, Request, StartTrans, AddBranch, StartBranch, Clock, EndTrans, Reading, Blank, Says, Bad}
use Rattle.run_said.specs.script_model.Grammar.{reading}
use Rattle.commit_protocol.specs.Agreement.{Distinct}
use Rattle.commit_protocol.specs.Messages as message
use Rattle.commit_protocol.specs.Messages.{Message, same_id}
use Rattle.commit_protocol.specs.Table as table
use Rattle.commit_protocol.specs.Table.{Active, Branch, Child, Manager, Key as BranchKey, branch_serials, child, first, put, same_key}
use Rattle.commit_protocol.specs.Allowed.{is_prepared}
use Rattle.commit_protocol.specs.Rows as rows
use Rattle.commit_protocol.specs.Rows.{Event, Got, all_taken, authorise_row, authorise_state, blank, ending, has_bid, row}
use Rattle.commit_protocol.specs.World.{In}
use Rattle.commit_protocol.proofs.Lists.{find-key, in_left, in_right, same_id-refl, same_id-true, same_key-refl, same_key-true}
use Rattle.run_said.specs.run_model.World as world
use Rattle.run_said.specs.run_model.World.{World, Shared, Node, Label, DiskCounts, find_node, labelled, next_id, opened, tm_of, with_node}
use Rattle.run_said.specs.run_model.Answers as answers
use Rattle.run_said.specs.run_model.Answers.{Row, Task, is_first_active, made_label, new_label, unsettled_label, Serves, Ticks, Takes, Hears, LosesLink, RunsDown, Restarts, begins, branch_labelled, powers, refused_before_reading, service, table_rows, task_service, told_if, told_rows, touches}
use Rattle.run_said.specs.run_model.Steps.{Choice, TaskAllowed, TaskEffect, lines_of_rows, node_after_rows, succeeded, task_effect}
use Rattle.run_said.specs.run_model.Statements.{Part, PartEffect, Begins, Phase, Phases, Step, RoseAt, begun_with, message_at, named_node, part_effect, phases_of, put_into, refused_at_once, stops_at, where_up}
use Rattle.run_said.specs.run_model.StepLaws.{TaskAt, is_refusal, task_of}
use Rattle.run_said.specs.run_model.Transcript.{Entry, Legal, AreOpening, Turn as LineTurn}
use Rattle.run_said.proofs.run_model.NodeLists.{clash, put_node, some_is}
use Rattle.run_said.proofs.run_model.PartLemmas.{EachPhase, phases_fold}
use Rattle.run_said.proofs.run_model.PartTasks.{View, Doing, Fixed, each_up, view}
use Rattle.run_said.proofs.run_model.Refusing.{same_last}
use Rattle.run_said.proofs.run_model.TaskLemmas.{effect_name, rows_name}
use Rattle.recovery_laws.proofs.world_laws.TableLemmas.{in_serials}
use Rattle.recovery_laws.proofs.world_laws.UpLemmas.{differ}
use Rattle.run_laws.specs.Naming.{ToldLabel, find_told, ids_here, ids_told, labels_told}
use Rattle.run_laws.specs.Causes.{HasBegun, HasJoined, HasJoinedBy, IsMissing, IsWhole, JoinsBy, WasAuthorised, WasSent}
use Rattle.run_laws.specs.Laws.{MissingHold, PendingHold, WaitsHold}
use Rattle.run_laws.specs.SaidLaws.{SaidThere}
use Rattle.run_laws.proofs.Coming.{Came, Never, effect_came}
use Rattle.run_laws.proofs.Contents.{ArePutting, Comes, From, IsTold, TaskAccepts, TaskNotes, bare, begins_none, rows_come}
use Rattle.run_laws.proofs.Drawing.{next_new}
use Rattle.run_laws.proofs.Ending.{active_is, active_unprepared, done, end_lists, ends_abort, ends_waiting, find_first, named_branch, standing}
use Rattle.run_laws.proofs.EachRow.{is_voteless}
use Rattle.run_laws.proofs.Joining.{HearsJoin, TakesJoin, accepting, effect_joined, take_joined}
use Rattle.run_laws.proofs.Directed.{neither}
use Rattle.run_laws.proofs.Labelling.{Succeeds, first_none, label_of, refused_rest, request_ends, served_up}
use Rattle.run_laws.proofs.Making.{branch_there, state_holds}
use Rattle.run_laws.proofs.Moments.{opening_found}
use Rattle.run_laws.proofs.Named.{Ended, Refused, Turned, Named, ended, said_later, told}
use Rattle.run_laws.proofs.NamedRuns.{legal_named}
use Rattle.run_laws.proofs.Noting.{IsUnvoted, Stays, find_in, stays_like, stays_on}
use Rattle.run_laws.proofs.PreparedLines.{thin_done}
use Rattle.run_laws.proofs.ReadOnlyRuns.{ids_behind}
use Rattle.run_laws.proofs.ShownSettled.{answer_voteless, in_append}
use Rattle.run_laws.proofs.SoundWorlds.{IsSound, legal_sound, opening_sound}
use Rattle.run_laws.proofs.ToldParts.{HasHeirs, IsThinPart, IsThinning, Thins, clock_heirs, found_after, heirs_then, link_phases, phases_thin, same_heirs, settle_phases, thins_disks}
use Rattle.run_laws.proofs.ToldRuns.{ClockEnds, Unset, Set, clock_ends, legal_are_told}
use Rattle.run_laws.proofs.TurnsTell.{HaveSteps, found_step, last_is, legal_told}
use Rattle.run_laws.proofs.Wires.{was_sent}

-- What is told of the undecided transactions.

-- Of a first branch: each branch that joined it did so by a Join whose identifier it has; and each identifier that it has of one to come was authorised.
pub record BranchJoins (es : List Entry) (b : Branch) : Type 0 where
  pub joins : (before : List Entry) (s : Statement) (events : List Line) (answer : Line) (serial : Id) → SaidThere es before s events answer → In (line.Joined b.key.tid serial) events →
      (given : Id) × JoinsBy before s b.key.tid serial given × (has_bid given b.accepted ≡ true)
  pub bids : (bid : Id) → In bid b.bids → WasAuthorised es b.key.tid bid
  -- and the other way round: it has each that was authorised, and by each that one has a branch was told to have joined
  pub all : (bid : Id) → WasAuthorised es b.key.tid bid → In bid b.bids
  pub by : (bid : Id) → has_bid bid b.accepted ≡ true → HasJoinedBy es b.key.tid bid
  -- it has each branch that was told to have joined, and no vote while it does not end
  pub has : (serial : Id) → HasJoined es b.key.tid serial → (c : Child) × In c b.accepted × (c.serial ≡ serial)
  pub unvoted : IsUnvoted b

pub record AreJoined (es : List Entry) (w : World) : Type 0 where
  pub told : (node : List ℕ) (n : Node) → find_node node w.nodes ≡ Some n → (b : Branch) → In b n.volatile.branches → is_prepared b.state ≡ false → b.key ≡ first b.key.tid → BranchJoins es b
  pub drawn : (tid serial : Id) → HasJoined es tid serial → In tid (ids_told es)
  pub authorised : (tid bid : Id) → WasAuthorised es tid bid → In tid (ids_told es)

-- Entries.

said_parts : (e : Entry) (es before : List Entry) (s : Statement) (events : List Line) (answer : Line) → SaidThere (e ∷ es) before s events answer → ((before ≡ es) × (reading e.source.text ≡ Says s) × (e.lines ≡ events ++ answer ∷ [])) ⊎ SaidThere es before s events answer
said_parts e es before s events answer there = go there.after there.stands
  where
    go : (after : List Entry) → e ∷ es ≡ after ++ there.entry ∷ before → ((before ≡ es) × (reading e.source.text ≡ Says s) × (e.lines ≡ events ++ answer ∷ [])) ⊎ SaidThere es before s events answer
    go [] stands =
        let same : e ≡ there.entry = cc in
        let rest : es ≡ before = cc in
        inl (sym rest, ap (λ (y : Entry). reading y.source.text) same ∙ there.said, ap (λ (y : Entry). y.lines) same ∙ there.shown)
    go (x ∷ after) stands =
        let rest : es ≡ after ++ there.entry ∷ before = cc in
        inr (record { after = after; entry = there.entry; stands = rest; said = there.said; shown = there.shown })

authorised_later : (e : Entry) (es : List Entry) (tid bid : Id) → WasAuthorised es tid bid → WasAuthorised (e ∷ es) tid bid
authorised_later e es tid bid (before, label, other, new, l, there, found, of) = (before, label, other, new, l, said_later e es before _ [] (line.NormalId bid) there, found, of)

-- this entry authorises it
record AuthorisesNow (e : Entry) (es : List Entry) (tid bid : Id) : Type 0 where
  label : List ℕ
  other : List ℕ
  new : List ℕ
  l : ToldLabel
  said : reading e.source.text ≡ Says (At tid.node (AddBranch label other new))
  shown : e.lines ≡ line.NormalId bid ∷ []
  found : find_told label (labels_told es) ≡ Some l
  of : l.tid ≡ tid

authorised_parts : (e : Entry) (es : List Entry) (tid bid : Id) → WasAuthorised (e ∷ es) tid bid → AuthorisesNow e es tid bid ⊎ WasAuthorised es tid bid
authorised_parts e es tid bid (before, label, other, new, l, there, found, of) = elim (said_parts e es before (At tid.node (AddBranch label other new)) [] (line.NormalId bid) there) [
  | inl now ↦ inl (record { label = label; other = other; new = new; l = l; said = now.1; shown = now.2; found = subst (λ xs. find_told label (labels_told xs) ≡ Some l) now.0 found; of = of })
  | inr old ↦ inr (before, label, other, new, l, old, found, of)
]

-- no other statement does, and no refusal
abbrev is_adding : Statement → Bool
is_adding (At node (AddBranch label other new)) = true
is_adding s = false

never_reads : (e : Entry) (es : List Entry) (s : Statement) → reading e.source.text ≡ Says s → is_adding s ≡ false → (tid bid : Id) → AuthorisesNow e es tid bid → ⊥
never_reads e es s said off tid bid now =
    let same : Says s ≡ Says (At tid.node (AddBranch now.label now.other now.new)) = sym said ∙ now.said in
    let is : s ≡ At tid.node (AddBranch now.label now.other now.new) = cc in
    both_ways (is_adding s) off (ap is_adding is)

never_refused : (e : Entry) (es : List Entry) (refusal : Line) → is_refusal refusal ≡ true → e.lines ≡ refusal ∷ [] → (tid bid : Id) → AuthorisesNow e es tid bid → ⊥
never_refused e es refusal r shows tid bid now =
    let same : refusal ∷ [] ≡ line.NormalId bid ∷ [] = sym shows ∙ now.shown in
    let is : refusal ≡ line.NormalId bid = cc in
    let clash : true ≡ false = sym r ∙ ap is_refusal is in
    let no : ⊥ = cc in
    no

joined_by_later : (e : Entry) (es : List Entry) (tid bid : Id) → HasJoinedBy es tid bid → HasJoinedBy (e ∷ es) tid bid
joined_by_later e es tid bid (before, s, events, answer, serial, there, i, by) = (before, s, events, answer, serial, said_later e es before s events answer there, i, by)

ids_there : (es before : List Entry) (s : Statement) (events : List Line) (answer : Line) (id : Id) → SaidThere es before s events answer → In id (ids_here (Says s) (events ++ answer ∷ [])) → In id (ids_told es)
ids_there es before s events answer id there i =
    subst (λ xs. In id (ids_told xs)) (sym there.stands) (ids_behind there.after (there.entry ∷ before) id
    (in_left id (ids_here (reading there.entry.source.text) there.entry.lines) (ids_told before) (subst (λ r. In id (ids_here r there.entry.lines)) (sym there.said) (subst (λ ls. In id (ids_here (Says s) ls)) (sym there.shown) i))))

-- a transaction whose first branch began was drawn
begun_drawn : (es : List Entry) (tid serial : Id) → serial ≡ tid → HasBegun es tid serial → In tid (ids_told es)
begun_drawn es tid serial same (inl (label, is, (before, seconds, there))) = ids_there es before (At tid.node (StartTrans label seconds)) [] (line.NormalId tid) tid there (inl refl)
begun_drawn es tid serial same (inr (before, label, events, l, there, found, of)) =
    subst (λ i. In i (ids_told es)) same (ids_there es before (At serial.node (StartBranch label)) events (line.Pending (serial ∷ []) []) serial there
    (subst (λ o. In serial (Rattle.run_laws.specs.Naming.serial_begun o)) (sym (last_is None events (line.Pending (serial ∷ []) []))) (inl refl)))

-- a branch that comes of another, and what this entry tells of it
later_joins : (e : Entry) (es : List Entry) (b x : Branch) → x.key ≡ b.key → ((bid : Id) → has_bid bid b.accepted ≡ true → has_bid bid x.accepted ≡ true) → ((bid : Id) → In bid x.bids → In bid b.bids ⊎ WasAuthorised (e ∷ es) b.key.tid bid) →
    ((s : Statement) (serial : Id) → reading e.source.text ≡ Says s → In (line.Joined x.key.tid serial) e.lines → (given : Id) × JoinsBy es s x.key.tid serial given × (has_bid given x.accepted ≡ true)) → ((bid : Id) → In bid b.bids → In bid x.bids) → ((bid : Id) → AuthorisesNow e es x.key.tid bid → In bid x.bids) →
    ((bid : Id) → has_bid bid x.accepted ≡ true → (has_bid bid b.accepted ≡ true) ⊎ HasJoinedBy (e ∷ es) x.key.tid bid) → Stays b x →
    ((serial : Id) → In (line.Joined x.key.tid serial) e.lines → (c : Child) × In c x.accepted × (c.serial ≡ serial)) → BranchJoins es b → BranchJoins (e ∷ es) x
later_joins e es b x key taken bids here kept now given stays joins_now t = record {
  joins = λ before s events answer serial there i. elim (said_parts e es before s events answer there) [
    | inl this ↦ (
        let r = here s serial this.1 (subst (In (line.Joined x.key.tid serial)) (sym this.2) (in_left (line.Joined x.key.tid serial) events (answer ∷ []) i)) in
        (r.0, subst (λ es. JoinsBy es s x.key.tid serial r.0) (sym this.0) r.1, r.2)
        )
    | inr old ↦ (
        let r = t.joins before s events answer serial old (subst (λ (k : BranchKey). In (line.Joined k.tid serial) events) key i) in
        (r.0, subst (λ (k : BranchKey). JoinsBy before s k.tid serial r.0) (sym key) r.1, taken r.0 r.2)
        )
  ];
  bids = λ bid i. subst (λ (k : BranchKey). WasAuthorised (e ∷ es) k.tid bid) (sym key) (elim (bids bid i) [ inl j ↦ authorised_later e es b.key.tid bid (t.bids bid j) | inr a ↦ a ]);
  all = λ bid a. elim (authorised_parts e es x.key.tid bid a) [ inl new ↦ now bid new | inr old ↦ kept bid (t.all bid (subst (λ (k : BranchKey). WasAuthorised es k.tid bid) key old)) ];
  by = λ bid h. elim (given bid h) [ inl old ↦ subst (λ (k : BranchKey). HasJoinedBy (e ∷ es) k.tid bid) (sym key) (joined_by_later e es b.key.tid bid (t.by bid old)) | inr new ↦ new ];
  has = λ serial j. elim j.1 [
    | inl same ↦ joins_now serial (subst (λ (y : Entry). In (line.Joined x.key.tid serial) y.lines) same j.2)
    | inr i ↦ (let c = t.has serial (j.0, i, subst (λ (k : BranchKey). In (line.Joined k.tid serial) j.0.lines) key j.2) in let d = stays.children c.0 c.1 in (d.0, d.1, d.2 ∙ c.2))
  ];
  unvoted = stays.unvoted t.unvoted;
}

first_key : (b x : Branch) → x.key ≡ b.key → x.key ≡ first x.key.tid → b.key ≡ first b.key.tid
first_key b x key is = sym key ∙ is ∙ ap (λ (k : BranchKey). first k.tid) key

drawn_later : (e : Entry) (es : List Entry) (w : World) → AreJoined es w → ((tid serial : Id) → In (line.Joined tid serial) e.lines → In tid (ids_told (e ∷ es))) → (tid serial : Id) → HasJoined (e ∷ es) tid serial → In tid (ids_told (e ∷ es))
drawn_later e es w h here tid serial (f, inl same, i) = here tid serial (subst (λ (x : Entry). In (line.Joined tid serial) x.lines) same i)
drawn_later e es w h here tid serial (f, inr j, i) = in_right tid (ids_here (reading e.source.text) e.lines) (ids_told es) (h.drawn tid serial (f, j, i))

find_in_map : (name : List ℕ) (ls : List Label) (l : ToldLabel) → find_told name (map told ls) ≡ Some l → (y : Label) × In y ls × (told y ≡ l)
find_in_map name [] l e = let no : ⊥ = cc in absurd no
find_in_map name (x ∷ ls) l e = go (bytes_eq name x.name) e (find_in_map name ls l)
  where
    go : (t : Bool) → ◌≡◌ {A = Option ToldLabel} (if t then Some (told x) else find_told name (map told ls)) (Some l) → (find_told name (map told ls) ≡ Some l → (y : Label) × In y ls × (told y ≡ l)) → (y : Label) × In y (x ∷ ls) × (told y ≡ l)
    go true f more = (x, inl refl, some_is (told x) l f)
    go false f more = let r = more f in (r.0, inr r.1, r.2)

-- the transaction of a label was drawn
label_drawn : (w : World) (es : List Entry) → Named es w → (label : List ℕ) (l : ToldLabel) → find_told label (labels_told es) ≡ Some l → {tid : Id} → l.tid ≡ tid → In tid (ids_told es)
label_drawn w es named label l found of =
    let r = find_in_map label w.shared.labels l (ap (find_told label) (sym named.labels) ∙ found) in
    subst (λ y. In y (ids_told es)) (ap (λ (y : ToldLabel). y.tid) r.2 ∙ of) (named.made r.0 r.1).tid

authorised_drawn : (e : Entry) (es : List Entry) (w : World) → AreJoined es w → ((tid bid : Id) → AuthorisesNow e es tid bid → In tid (ids_told es)) → (tid bid : Id) → WasAuthorised (e ∷ es) tid bid → In tid (ids_told (e ∷ es))
authorised_drawn e es w h here tid bid a = in_right tid (ids_here (reading e.source.text) e.lines) (ids_told es) (elim (authorised_parts e es tid bid a) [ inl now ↦ here tid bid now | inr old ↦ h.authorised tid bid old ])

quiet_joined : (e : Entry) (es : List Entry) (w v : World) → ((tid serial : Id) → In (line.Joined tid serial) e.lines → ⊥) → ((tid bid : Id) → AuthorisesNow e es tid bid → ⊥) → HasHeirs w v → AreJoined es w → AreJoined (e ∷ es) v
quiet_joined e es w v none never f h = record {
  told = λ node m found x i u is.
      let y = f.node node m found in
      let b = y.2 x i u in
      later_joins e es b.0 x b.3.key b.3.taken (λ bid j. inl (b.3.bids bid j)) (λ s serial said j. absurd (none x.key.tid serial j)) b.3.kept (λ bid now. absurd (never x.key.tid bid now)) (λ bid t. inl (b.3.given bid t)) b.3.stays (λ serial i. absurd (none x.key.tid serial i))
      (h.told node y.0 y.1 b.0 b.1 b.2 (first_key b.0 x b.3.key is));
  drawn = drawn_later e es w h (λ tid serial i. absurd (none tid serial i));
  authorised = authorised_drawn e es w h (λ tid bid now. absurd (never tid bid now));
}

-- Statements by which none joins.

thin_unjoined : (t : Task) → IsThinning t → HearsJoin t → ⊥
thin_unjoined t thin (x, inl e, kind) = let no : false ≡ true = subst IsThinning e thin in let none : ⊥ = cc in none
thin_unjoined t thin (x, inr e, kind) = elim (subst IsThinning e thin) [ inl c ↦ (let clash : message.Commit ≡ message.Join = sym c ∙ kind in let no : ⊥ = cc in no) | inr a ↦ (let clash : message.Abort ≡ message.Join = sym a ∙ kind in let no : ⊥ = cc in no) ]

part_unjoined : (u : World) (p : Part) (c : Choice) → IsThinPart p → (tid serial : Id) → In (line.Joined tid serial) (part_effect u p c).lines → ⊥
part_unjoined u p c thin tid serial i = go (view u p)
  where
    go : View u p → ⊥
    go (Fixed answer ends kind is) = subst (λ (e : PartEffect). In (line.Joined tid serial) e.lines) (is c) i
    go (Doing other t n named found does may) = thin_unjoined t (thin_done u p other t thin named) (effect_joined tid serial u.shared (stops_at other u) n t c (subst (λ (e : PartEffect). In (line.Joined tid serial) e.lines) (does c) i))

phases_unjoined : (disks : List DiskCounts) (ps : List Phase) → EachPhase IsThinPart ps → (w : World) (lines : List Line) (answer : Line) (v : World) → Phases ps disks w line.Normal lines answer v → (tid serial : Id) → In (line.Joined tid serial) lines → ⊥
phases_unjoined disks ps ok w lines answer v d tid serial i = phases_fold disks IsThinPart (λ g. Unit {0}) (λ u rest a x. In (line.Joined tid serial) rest → ⊥)
    (λ u g q j. j)
    (λ u p c o allowed ends j. part_unjoined u p c o tid serial j)
    (λ u p c o allowed on. (tt, λ rest a x more j. elim (in_append (line.Joined tid serial) (part_effect u p c).lines rest j) [ inl k ↦ part_unjoined u p c o tid serial k | inr k ↦ more k ]))
    ps ok w line.Normal lines answer v tt d i

module _ (e : Entry) (es : List Entry) (w v : World) (s : Statement) (step : Step w s e.lines v) where
  -- a line of the answer tells of none
  in_events : (tid serial : Id) → In (line.Joined tid serial) e.lines → In (line.Joined tid serial) step.events
  in_events tid serial i = elim (in_append (line.Joined tid serial) step.events (step.answer ∷ []) (subst (In (line.Joined tid serial)) step.shows i)) [
    | inl j ↦ j
    | inr j ↦ elim j [ inl same ↦ (let clash : false ≡ true = ap is_voteless same ∙ answer_voteless w v s e.lines step in let no : ⊥ = cc in absurd no) | inr none ↦ absurd none ]
  ]

  -- one that is one task, which is no delivery
  task_unjoined : (node : List ℕ) (t : Task) → task_of w s ≡ Some (record { node = node; task = t }) → ((x : Message) → t ≡ Takes x → ⊥) → ((x : Message) → t ≡ Hears x → ⊥) → (tid serial : Id) → In (line.Joined tid serial) e.lines → ⊥
  task_unjoined node t is takes hears tid serial i = go (ended w v s e.lines node t is step)
    where
      told : HearsJoin t → ⊥
      told (x, inl same, kind) = takes x same
      told (x, inr same, kind) = hears x same

      go : Ended w v node t e.lines → ⊥
      go (Refused refusal r shows goes) = let j = in_events tid serial i in subst (In (line.Joined tid serial)) (same_last step.events [] step.answer refusal (sym step.shows ∙ shows)).0 j
      go (Turned n found c allowed shows goes) =
          let f = task_effect w.shared (stops_at node w) n t c in
          told (effect_joined tid serial w.shared (stops_at node w) n t c (subst (In (line.Joined tid serial)) (same_last step.events f.lines step.answer f.answer (sym step.shows ∙ shows)).0 (in_events tid serial i)))

-- Branches of a task.

pub put_one : (b x : Branch) (bs : List Branch) → Distinct (branch_serials bs) → In x (put b bs) → x.key ≡ b.key → x ≡ b
put_one b x [] d i key = elim i [ inl same ↦ same | inr none ↦ absurd none ]
put_one b x (y ∷ bs) d i key = go (same_key y.key b.key) refl i (λ j. put_one b x bs d.1 j key)
  where
    go : (t : Bool) → same_key y.key b.key ≡ t → In x (if t then b ∷ bs else y ∷ put b bs) → (In x (put b bs) → x ≡ b) → x ≡ b
    go true is (inl same) more = same
    go true is (inr j) more = absurd (d.0 (subst (λ i. In i (branch_serials bs)) (ap (λ (k : BranchKey). k.serial) (key ∙ sym (same_key-true y.key b.key is))) (in_serials x bs j)))
    go false is (inl same) more = absurd (clash _ (ap (λ k. same_key k b.key) (ap (λ (z : Branch). z.key) (sym same) ∙ key) ∙ same_key-refl b.key) is)
    go false is (inr j) more = more j

bid_last : (bid : Id) (c : Child) (cs : List Child) → c.bid ≡ bid → has_bid bid (cs ++ c ∷ []) ≡ true
bid_last bid c [] e = ap (λ t. t || false) (ap (λ x. same_id x bid) e ∙ same_id-refl bid)
bid_last bid c (d ∷ cs) e = go (same_id d.bid bid) (bid_last bid c cs e)
  where
    go : (t : Bool) → has_bid bid (cs ++ c ∷ []) ≡ true → t || has_bid bid (cs ++ c ∷ []) ≡ true
    go true more = refl
    go false more = more

bid_stays : (bid : Id) (cs ds : List Child) → has_bid bid cs ≡ true → has_bid bid (cs ++ ds) ≡ true
bid_stays bid [] ds h = let no : ⊥ = cc in absurd no
bid_stays bid (c ∷ cs) ds h = go (same_id c.bid bid) h (bid_stays bid cs ds)
  where
    go : (t : Bool) → t || has_bid bid cs ≡ true → (has_bid bid cs ≡ true → has_bid bid (cs ++ ds) ≡ true) → t || has_bid bid (cs ++ ds) ≡ true
    go true k more = refl
    go false k more = more k

bid_split : (bid : Id) (c : Child) (cs : List Child) → has_bid bid (cs ++ c ∷ []) ≡ true → (has_bid bid cs ≡ true) ⊎ (c.bid ≡ bid)
bid_split bid c [] h = go (same_id c.bid bid) refl h
  where
    go : (t : Bool) → same_id c.bid bid ≡ t → t || false ≡ true → (false ≡ true) ⊎ (c.bid ≡ bid)
    go true is k = inr (same_id-true c.bid bid is)
    go false is k = let no : ⊥ = cc in absurd no
bid_split bid c (d ∷ cs) h = go (same_id d.bid bid) h (bid_split bid c cs)
  where
    go : (t : Bool) → t || has_bid bid (cs ++ c ∷ []) ≡ true → (has_bid bid (cs ++ c ∷ []) ≡ true → (has_bid bid cs ≡ true) ⊎ (c.bid ≡ bid)) → (t || has_bid bid cs ≡ true) ⊎ (c.bid ≡ bid)
    go true k more = inl refl
    go false k more = more k

-- what an unprepared branch that a task leaves comes of
record Origin (s : Shared) (n : Node) (t : Task) (ls : List Line) (x : Branch) : Type 0 where
  b : Branch
  there : In b n.volatile.branches
  open_still : is_prepared b.state ≡ false
  key : x.key ≡ b.key
  taken : (bid : Id) → has_bid bid b.accepted ≡ true → has_bid bid x.accepted ≡ true
  bids : (bid : Id) → In bid x.bids → In bid b.bids ⊎ IsTold s n t (rows.Authorise b.key.tid bid)
  kept : (bid : Id) → In bid b.bids → In bid x.bids
  given : (bid : Id) → has_bid bid x.accepted ≡ true → (has_bid bid b.accepted ≡ true) ⊎ ((serial : Id) × In (line.Joined x.key.tid serial) ls)
  stays : Stays b x

bare_stays : (x y : Branch) → bare x ≡ bare y → Stays y x
bare_stays x y same = stays_like y x (ap (λ (z : Branch). z.accepted) same) (λ e. ap (λ (z : Branch). z.state) same ∙ e)

bare_taken : (x y : Branch) → bare x ≡ bare y → (bid : Id) → has_bid bid y.accepted ≡ true → has_bid bid x.accepted ≡ true
bare_taken x y same bid h = ap (λ (z : Branch). has_bid bid z.accepted) same ∙ h

bare_bids : (x y : Branch) → bare x ≡ bare y → (bid : Id) → In bid x.bids → In bid y.bids
bare_bids x y same bid i = subst (In bid) (ap (λ (z : Branch). z.bids) same) i

origin : (s : Shared) (n : Node) (t : Task) (ls : List Line) (x : Branch) → is_prepared x.state ≡ false → From (TaskNotes s n t) (TaskAccepts s n t) ls n.volatile.branches x → Origin s n t ls x
origin s n t ls x u (y, same, inl old) = record {
  b = y;
  there = old;
  open_still = ap (λ (z : Branch). is_prepared z.state) (sym same) ∙ u;
  key = ap (λ (z : Branch). z.key) same;
  taken = bare_taken x y same;
  bids = λ bid i. inl (bare_bids x y same bid i);
  kept = bare_bids y x (sym same);
  given = λ bid h. inl (bare_taken y x (sym same) bid h);
  stays = bare_stays x y same;
}
origin s n t ls x u (y, same, inr (inl (ev, is, (b, i, open_b, d)))) = record {
  b = b;
  there = i;
  open_still = open_b;
  key = ap (λ (z : Branch). z.key) same ∙ d.key;
  taken = λ bid h. bare_taken x y same bid (d.taken bid h);
  bids = λ bid j. elim (d.bids bid (bare_bids x y same bid j)) [ inl old ↦ inl old | inr by ↦ inr (subst (IsTold s n t) by is) ];
  kept = λ bid j. bare_bids y x (sym same) bid (d.kept bid j);
  given = λ bid h. inl (d.given bid (bare_taken y x (sym same) bid h));
  stays = stays_on b y x d.stays (bare_stays x y same);
}
origin s n t ls x u (y, same, inr (inr (b, c, (ev, is, a), shown, put_so))) =
    let same_b : bare x ≡ bare (record b { accepted = b.accepted ++ c ∷ [] }) = same ∙ ap bare put_so in
    record {
      b = b;
      there = a.0;
      open_still = a.1;
      key = ap (λ (z : Branch). z.key) same_b;
      taken = λ bid h. bare_taken x (record b { accepted = b.accepted ++ c ∷ [] }) same_b bid (bid_stays bid b.accepted (c ∷ []) h);
      bids = λ bid i. inl (bare_bids x (record b { accepted = b.accepted ++ c ∷ [] }) same_b bid i);
      kept = bare_bids (record b { accepted = b.accepted ++ c ∷ [] }) x (sym same_b);
      given = λ bid h. elim (bid_split bid c b.accepted (bare_taken (record b { accepted = b.accepted ++ c ∷ [] }) x (sym same_b) bid h)) [
        | inl old ↦ inl old
        | inr new ↦ inr (c.serial, subst (λ (k : BranchKey). In (line.Joined k.tid c.serial) ls) (sym (ap (λ (z : Branch). z.key) same_b)) shown)
      ];
      stays = record {
        children = λ d i. (d, subst (In d) (sym (ap (λ (z : Branch). z.accepted) same_b)) (in_left d b.accepted (c ∷ []) i), refl);
        unvoted = λ voted. elim voted [
          | inl ends ↦ inl (ap (λ (z : Branch). z.state) same_b ∙ ends)
          | inr none ↦ inr (λ d i. elim (in_append d b.accepted (c ∷ []) (subst (In d) (ap (λ (z : Branch). z.accepted) same_b) i)) [
            | inl j ↦ none d j
            | inr j ↦ elim j [ inl new ↦ ap (λ (z : Child). z.vote) new ∙ a.8 | inr never ↦ absurd never ]
          ])
        ];
      };
    }

-- Statements.
module _ (e : Entry) (es : List Entry) (w v : World) (h : AreJoined es w) (named : Named es w) (named_v : Named (e ∷ es) v) (sound : IsSound w) (steps : HaveSteps w.nodes) (sent : (number : ℕ) (m : Message) → message_at number w.shared.wire ≡ Some m → WasSent es number m) where
  -- one that is one task, by which no branch begins
  module _ (s : Statement) (said : reading e.source.text ≡ Says s) (node : List ℕ) (t : Task) (is : task_of w s ≡ Some (record { node = node; task = t })) (step : Step w s e.lines v) (begins : begins_none t ≡ true)
      (authorised : (b : Branch) (bid : Id) → (n : Node) → find_node node w.nodes ≡ Some n → In b n.volatile.branches → is_prepared b.state ≡ false → b.key ≡ first b.key.tid → IsTold w.shared n t (rows.Authorise b.key.tid bid) → WasAuthorised (e ∷ es) b.key.tid bid)
      (delivers : (x : Message) → t ≡ Takes x → (number : ℕ) × (s ≡ Deliver number) × (message_at number w.shared.wire ≡ Some x)) (hears : (x : Message) → t ≡ Hears x → ⊥)
      (adds : (name : List ℕ) (m : Node) (x : Branch) → find_node name v.nodes ≡ Some m → In x m.volatile.branches → is_prepared x.state ≡ false → x.key ≡ first x.key.tid → (bid : Id) → AuthorisesNow e es x.key.tid bid → In bid x.bids) where
    module _ (n : Node) (found : find_node node w.nodes ≡ Some n) (c : Choice) (allowed : TaskAllowed w.shared (stops_at node w) n t (λ cause. RoseAt w node cause v.disks) c)
        (shows : e.lines ≡ (task_effect w.shared (stops_at node w) n t c).lines ++ (task_effect w.shared (stops_at node w) n t c).answer ∷ []) (goes : v ≡ record (put_into w node (task_effect w.shared (stops_at node w) n t c)).world { disks = v.disks }) where
      abbrev eff : TaskEffect
      eff = task_effect w.shared (stops_at node w) n t c

      came : Came w.shared t (task_effect w.shared (stops_at node w) n t c).lines n (task_effect w.shared (stops_at node w) n t c).node
      came = effect_came w.shared (stops_at node w) n t c begins (found_step node w.nodes n steps found)

      there : (name : List ℕ) (x : Node) → find_node name v.nodes ≡ Some x → (find_node name w.nodes ≡ Some x) ⊎ ((find_node name w.nodes ≡ Some n) × (x ≡ (task_effect w.shared (stops_at node w) n t c).node))
      there = found_after w v node n (task_effect w.shared (stops_at node w) n t c).node (effect_name w.shared (stops_at node w) n t c) found (ap (λ (y : World). y.nodes) goes)

      lines_in : (tid serial : Id) → In (line.Joined tid serial) e.lines → In (line.Joined tid serial) (task_effect w.shared (stops_at node w) n t c).lines
      lines_in tid serial i = subst (In (line.Joined tid serial)) (same_last step.events (task_effect w.shared (stops_at node w) n t c).lines step.answer (task_effect w.shared (stops_at node w) n t c).answer (sym step.shows ∙ shows)).0 (in_events e es w v s step tid serial i)

      -- the Join that was taken, and what it left
      record Takes_it (tid serial : Id) : Type 0 where
        m : Message
        number : ℕ
        says : s ≡ Deliver number
        at : message_at number w.shared.wire ≡ Some m
        kind : m.kind ≡ message.Join
        up : n.up ≡ true
        joins : TakesJoin tid serial n m (task_effect w.shared (stops_at node w) n t c).node.volatile.branches

      takes_it : (tid serial : Id) → In (line.Joined tid serial) e.lines → Takes_it tid serial
      takes_it tid serial i = by (effect_joined tid serial w.shared (stops_at node w) n t c (lines_in tid serial i))
        where
          by : HearsJoin t → Takes_it tid serial
          by (x, inr same, kind) = absurd (hears x same)
          by (x, inl same, kind) =
              let d = delivers x same in
              record {
                m = x;
                number = d.0;
                says = d.1;
                at = d.2;
                kind = kind;
                up = served_up n None (subst (λ y. refused_before_reading w.shared n (task_service y) ≡ None) same (first_none w.shared (stops_at node w) n t (λ cause. RoseAt w node cause v.disks) c (line.Joined tid serial) allowed (lines_in tid serial i)));
                joins = subst (λ y. TakesJoin tid serial n x (task_effect w.shared (stops_at node w) n y c).node.volatile.branches) (sym same)
                    (take_joined tid serial w.shared (stops_at node w) n x kind c (subst (λ y. In (line.Joined tid serial) (task_effect w.shared (stops_at node w) n y c).lines) same (lines_in tid serial i)));
              }

      key_of_it : (tid serial : Id) (k : Takes_it tid serial) → k.joins.b.key ≡ first k.m.tid
      key_of_it tid serial k = find-key (first k.m.tid) n.volatile.branches k.joins.b k.joins.found

      tid_of_it : (tid serial : Id) (k : Takes_it tid serial) → tid ≡ k.m.tid
      tid_of_it tid serial k = k.joins.of ∙ ap (λ (j : BranchKey). j.tid) (key_of_it tid serial k)

      in_it : (tid serial : Id) (k : Takes_it tid serial) → In k.joins.b n.volatile.branches
      in_it tid serial k = find_in (first k.m.tid) n.volatile.branches k.joins.b k.joins.found

      drawn_it : (tid serial : Id) → In (line.Joined tid serial) e.lines → In tid (ids_told (e ∷ es))
      drawn_it tid serial i =
          let k = takes_it tid serial i in
          let b = k.joins.b in
          let key = key_of_it tid serial k in
          in_right tid (ids_here (reading e.source.text) e.lines) (ids_told es)
          (subst (λ y. In y (ids_told es)) (sym k.joins.of) (begun_drawn es b.key.tid b.key.serial (ap (λ (j : BranchKey). j.serial) key ∙ sym (ap (λ (j : BranchKey). j.tid) key)) (named.born node n found b.key (b, in_it tid serial k, k.joins.open_still, refl))))

      -- the first branch has the identifier
      left_one : (name : List ℕ) (m : Node) (x : Branch) → find_node name v.nodes ≡ Some m → In x m.volatile.branches → is_prepared x.state ≡ false → x.key ≡ first x.key.tid → (serial : Id) → (k : Takes_it x.key.tid serial) → x ≡ accepting k.joins.b k.joins.bid k.m
      left_one name m x is_m i u key_x serial k =
          let b = k.joins.b in
          let key_b = key_of_it x.key.tid serial k in
          let tid = tid_of_it x.key.tid serial k in
          let key : x.key ≡ b.key = key_x ∙ ap first tid ∙ sym key_b in
          let name_is : name ≡ node = sym (named_v.home name m is_m x.key (x, i, u, refl)) ∙ ap (λ (j : BranchKey). j.serial.node) key ∙ named.home node n found b.key (b, in_it x.key.tid serial k, k.joins.open_still, refl) in
          let at_node : find_node node v.nodes ≡ Some (task_effect w.shared (stops_at node w) n t c).node = ap (λ (y : World). find_node node y.nodes) goes ∙ put_node node n (task_effect w.shared (stops_at node w) n t c).node w.nodes (effect_name w.shared (stops_at node w) n t c) found in
          let same_m : m ≡ (task_effect w.shared (stops_at node w) n t c).node = some_is m _ (sym is_m ∙ ap (λ y. find_node y v.nodes) name_is ∙ at_node) in
          let in_put : In x (put (accepting b k.joins.bid k.m) n.volatile.branches) = subst (In x) k.joins.puts (subst (λ (y : Node). In x y.volatile.branches) same_m i) in
          put_one (accepting b k.joins.bid k.m) x n.volatile.branches (differ n ((sound.kept node n found).runs k.up).0.table) in_put key

      says_is : {number : ℕ} (st : Statement) → reading e.source.text ≡ Says st → s ≡ Deliver number → st ≡ Deliver number
      says_is st says is = let same : Says st ≡ Says s = sym says ∙ said in let one : st ≡ s = cc in one ∙ is

      joins_by : (tid serial : Id) (st : Statement) → reading e.source.text ≡ Says st → (k : Takes_it tid serial) → JoinsBy es st tid serial k.joins.bid
      joins_by tid serial st says k = (k.number, k.m, says_is st says k.says, sent k.number k.m k.at, k.kind, sym (tid_of_it tid serial k), sym k.joins.is, k.joins.named)

      joins_now : (name : List ℕ) (m : Node) (x : Branch) → find_node name v.nodes ≡ Some m → In x m.volatile.branches → is_prepared x.state ≡ false → x.key ≡ first x.key.tid → (st : Statement) (serial : Id) → reading e.source.text ≡ Says st → In (line.Joined x.key.tid serial) e.lines →
          (given : Id) × JoinsBy es st x.key.tid serial given × (has_bid given x.accepted ≡ true)
      joins_now name m x is_m i u key_x st serial says i_line =
          let k = takes_it x.key.tid serial i_line in (
            k.joins.bid,
            joins_by x.key.tid serial st says k,
            ap (λ (y : Branch). has_bid k.joins.bid y.accepted) (left_one name m x is_m i u key_x serial k) ∙ bid_last k.joins.bid (record { bid = k.joins.bid; serial = k.m.serial; vote = None }) k.joins.b.accepted refl,
          )

      -- and the branch that joins
      child_now : (name : List ℕ) (m : Node) (x : Branch) → find_node name v.nodes ≡ Some m → In x m.volatile.branches → is_prepared x.state ≡ false → x.key ≡ first x.key.tid → (serial : Id) → In (line.Joined x.key.tid serial) e.lines → (c : Child) × In c x.accepted × (c.serial ≡ serial)
      child_now name m x is_m i u key_x serial i_line =
          let k = takes_it x.key.tid serial i_line in
          let c : Child = record { bid = k.joins.bid; serial = k.m.serial; vote = None } in
          (c, subst (λ (y : Branch). In c y.accepted) (sym (left_one name m x is_m i u key_x serial k)) (in_right c k.joins.b.accepted (c ∷ []) (inl refl)), sym k.joins.is)

      -- and each identifier that one has is so of a branch that joined before, or joins now
      given_now : (name : List ℕ) (m : Node) (x : Branch) → find_node name v.nodes ≡ Some m → In x m.volatile.branches → is_prepared x.state ≡ false → x.key ≡ first x.key.tid → (bid : Id) → has_bid bid x.accepted ≡ true → (serial : Id) → In (line.Joined x.key.tid serial) e.lines → HasJoinedBy (e ∷ es) x.key.tid bid
      given_now name m x is_m i u key_x bid has serial i_line =
          let k = takes_it x.key.tid serial i_line in
          let b = k.joins.b in
          let one = left_one name m x is_m i u key_x serial k in
          let key_b = key_of_it x.key.tid serial k in
          let tid : b.key.tid ≡ x.key.tid = ap (λ (j : BranchKey). j.tid) key_b ∙ sym (tid_of_it x.key.tid serial k) in
          elim (bid_split bid (record { bid = k.joins.bid; serial = k.m.serial; vote = None }) b.accepted (ap (λ (y : Branch). has_bid bid y.accepted) (sym one) ∙ has)) [
            | inl old ↦ subst (λ y. HasJoinedBy (e ∷ es) y bid) tid (joined_by_later e es b.key.tid bid ((h.told node n found b (in_it x.key.tid serial k) k.joins.open_still (key_b ∙ ap (λ (j : BranchKey). first j.tid) (sym key_b))).by bid old))
            | inr same ↦ (
              es,
              s,
              step.events,
              step.answer,
              serial,
              record { after = []; entry = e; stands = refl; said = said; shown = step.shows },
              in_events e es w v s step x.key.tid serial i_line,
              subst (JoinsBy es s x.key.tid serial) same (joins_by x.key.tid serial s said k),
            )
          ]

      turned_joined : AreJoined (e ∷ es) v
      turned_joined = record {
        told = λ name m is_m x i u key. elim (there name m is_m) [
          | inl old ↦ later_joins e es x x refl (λ bid t. t) (λ bid j. inl j) (λ st serial says j. joins_now name m x is_m i u key st serial says j) (λ bid j. j) (λ bid now. adds name m x is_m i u key bid now) (λ bid t. inl t) (stays_like x x refl (λ q. q)) (λ serial j. child_now name m x is_m i u key serial j) (h.told name m old x i u key)
          | inr both ↦ (
              let j = subst (λ (y : Node). In x y.volatile.branches) both.1 i in
              let o = origin w.shared n t (task_effect w.shared (stops_at node w) n t c).lines x u (came.from x j u) in
              later_joins e es o.b x o.key o.taken
              (λ bid k. elim (o.bids bid k) [ inl old ↦ inl old | inr by ↦ inr (authorised o.b bid n found o.there o.open_still (first_key o.b x o.key key) by) ])
              (λ st serial says k. joins_now name m x is_m i u key st serial says k) o.kept (λ bid now. adds name m x is_m i u key bid now)
              (λ bid has. elim (o.given bid has) [ inl old ↦ inl old | inr shown ↦ inr (given_now name m x is_m i u key bid has shown.0 (subst (In (line.Joined x.key.tid shown.0)) (sym shows) (in_left (line.Joined x.key.tid shown.0) (task_effect w.shared (stops_at node w) n t c).lines ((task_effect w.shared (stops_at node w) n t c).answer ∷ []) shown.1))) ]) o.stays (λ serial k. child_now name m x is_m i u key serial k)
              (h.told name n both.0 o.b o.there o.open_still (first_key o.b x o.key key))
              )
        ];
        drawn = drawn_later e es w h drawn_it;
        authorised = authorised_drawn e es w h (λ tid bid now. label_drawn w es named now.label now.l now.found now.of);
      }

    one_joined : AreJoined (e ∷ es) v
    one_joined = go (ended w v s e.lines node t is step)
      where
        go : Ended w v node t e.lines → AreJoined (e ∷ es) v
        go (Refused refusal r shows goes) = quiet_joined e es w v (λ tid serial i. subst (In (line.Joined tid serial)) (same_last step.events [] step.answer refusal (sym step.shows ∙ shows)).0 (in_events e es w v s step tid serial i)) (never_refused e es refusal r shows) (same_heirs w v (ap (λ (y : World). y.nodes) goes)) h
        go (Turned n found c allowed shows goes) = turned_joined n found c allowed shows goes

  -- ADD_BRANCH
  module _ (node label other new : List ℕ) (said : reading e.source.text ≡ Says (At node (AddBranch label other new))) (z : Succeeds w v node (AddBranch label other new) e.lines) where
    states : (n : Node) → refused_before_reading w.shared n (service (AddBranch label other new)) ≡ None → (unsettled_label w.shared n label ≡ None) × (answers.in_state is_first_active (branch_labelled w.shared n label) ≡ None)
    states n none = neither (unsettled_label w.shared n label) _ (neither (new_label w.shared new) _ (neither (made_label w.shared n label) _ (refused_rest (not (n.up || false)) _ none)).1).1

    is_active : (y : Branch) (n : Node) → branch_labelled w.shared n label ≡ Some y → refused_before_reading w.shared n (service (AddBranch label other new)) ≡ None → is_first_active y ≡ true
    is_active y n labelled_y none = state_holds is_first_active (branch_labelled w.shared n label) y labelled_y (states n none).1

    silent : (m : Node) → (succeeded w.shared m (service (AddBranch label other new))).lines ≡ []
    silent m = by (branch_labelled w.shared m label)
      where
        state_silent : (bid : Id) (b : Branch) (st : table.State) (u : Shared) (k : Node) → lines_of_rows (table_rows (authorise_state bid b st) u k) ≡ []
        state_silent bid b Active u k = refl
        state_silent bid b _ u k = refl

        row_silent : (bid : Id) (o : Option Branch) (u : Shared) (k : Node) → lines_of_rows (table_rows (authorise_row bid o) u k) ≡ []
        row_silent bid None u k = refl
        row_silent bid (Some b) u k = state_silent bid b b.state u k

        by : (o : Option Branch) → lines_of_rows (elim o as (λ y. List Row) [ Some b ↦ told_rows w.shared m (answers.adds m other new b) | None ↦ [] ]) ++ [] ≡ []
        by None = refl
        by (Some b) = ap (λ ls. ls ++ []) (row_silent (next_id m) (table.find (first b.key.tid) m.volatile.branches) _ _)

    authorises : (b : Branch) (bid : Id) → (n : Node) → find_node node w.nodes ≡ Some n → In b n.volatile.branches → is_prepared b.state ≡ false → b.key ≡ first b.key.tid → IsTold w.shared n (Serves (AddBranch label other new)) (rows.Authorise b.key.tid bid) → WasAuthorised (e ∷ es) b.key.tid bid
    authorises b bid n found i u key (y, labelled_y, is) =
        let same_n : z.n ≡ n = some_is z.n n (sym z.found ∙ found) in
        let tid : b.key.tid ≡ y.key.tid = cc in
        let id : bid ≡ next_id n = cc in
        let active = is_active y n labelled_y (subst (λ (k : Node). refused_before_reading w.shared k (service (AddBranch label other new)) ≡ None) same_n z.first) in
        let nb = named_branch es w node label n y named found labelled_y (active_unprepared y (active_is y active).1) in
        let home : b.key.tid.node ≡ node = ap (λ (j : BranchKey). j.serial.node) (sym key) ∙ named.home node n found b.key (b, i, u, refl) in (
          es,
          label,
          other,
          new,
          nb.named.0,
          record {
            after = [];
            entry = e;
            stands = refl;
            said = said ∙ ap (λ name. Says (At name (AddBranch label other new))) (sym home);
            shown = z.shows ∙ ap (λ ls. ls ++ line.NormalId (next_id z.n) ∷ []) (silent z.n) ∙ ap (λ bid. line.NormalId bid ∷ []) (ap next_id same_n ∙ sym id);
          },
          nb.named.1,
          nb.named.3 ∙ sym tid,
        )

    -- what the row leaves of the branches
    row_leaves : (bid : Id) (y : Branch) (o : Option Branch) (u : Shared) (k : Node) → o ≡ Some y → y.state ≡ Active → (node_after_rows (table_rows (authorise_row bid o) u k) k).volatile.branches ≡ put (record y { bids = y.bids ++ bid ∷ [] }) k.volatile.branches
    row_leaves bid y o u k is active = subst (λ q. (node_after_rows (table_rows (authorise_row bid q) u k) k).volatile.branches ≡ put (record y { bids = y.bids ++ bid ∷ [] }) k.volatile.branches) (sym is)
        (subst (λ st. (node_after_rows (table_rows (authorise_state bid y st) u k) k).volatile.branches ≡ put (record y { bids = y.bids ++ bid ∷ [] }) k.volatile.branches) (sym active) refl)

    left : (y : Branch) → branch_labelled w.shared z.n label ≡ Some y → table.find (first y.key.tid) z.n.volatile.branches ≡ Some y → y.state ≡ Active →
        (succeeded w.shared z.n (service (AddBranch label other new))).node.volatile.branches ≡ put (record y { bids = y.bids ++ next_id z.n ∷ [] }) z.n.volatile.branches
    left y labelled_y finds active =
        let l : Label = record { name = new; node = other; tid = y.key.tid; bid = Some (next_id z.n); serial = None } in
        subst (λ (o : Option Branch). (node_after_rows (elim o as (λ q. List Row) [ Some b ↦ told_rows w.shared z.n (answers.adds z.n other new b) | None ↦ [] ]) z.n).volatile.branches ≡ put (record y { bids = y.bids ++ next_id z.n ∷ [] }) z.n.volatile.branches) (sym labelled_y)
        (row_leaves (next_id z.n) y (table.find (first y.key.tid) z.n.volatile.branches) (world.shared_after (world.Labels l) w.shared) (world.acted (world.Labels l) (world.acted world.Draws z.n)) finds active)

    -- so the branch has the identifier
    adds_bid : (name : List ℕ) (m : Node) (x : Branch) → find_node name v.nodes ≡ Some m → In x m.volatile.branches → is_prepared x.state ≡ false → x.key ≡ first x.key.tid → (bid : Id) → AuthorisesNow e es x.key.tid bid → In bid x.bids
    adds_bid name m x is_m i u key_x bid now =
        let there = branch_there (branch_labelled w.shared z.n label) (states z.n z.first).0 in
        let y = there.0 in
        let a = active_is y (is_active y z.n there.1 z.first) in
        let nb = named_branch es w node label z.n y named z.found there.1 (active_unprepared y a.1) in
        let l = label_of w.shared z.n label y there.1 in
        let same : Says (At node (AddBranch label other new)) ≡ Says (At x.key.tid.node (AddBranch now.label now.other now.new)) = sym said ∙ now.said in
        let labels : label ≡ now.label = cc in
        let one_label : now.l ≡ nb.named.0 = some_is now.l nb.named.0 (sym now.found ∙ ap (λ q. find_told q (labels_told es)) (sym labels) ∙ nb.named.1) in
        let tid : x.key.tid ≡ y.key.tid = sym now.of ∙ ap (λ (q : ToldLabel). q.tid) one_label ∙ nb.named.3 in
        let key : x.key ≡ y.key = key_x ∙ ap first tid ∙ sym a.0 in
        let name_is : name ≡ node = sym (named_v.home name m is_m x.key (x, i, u, refl)) ∙ ap (λ (j : BranchKey). j.serial.node) key ∙ named.home node z.n z.found y.key (y, l.branch, active_unprepared y a.1, refl) in
        let at_node : find_node node v.nodes ≡ Some (succeeded w.shared z.n (service (AddBranch label other new))).node =
        ap (λ (q : World). find_node node q.nodes) z.goes ∙ put_node node z.n (succeeded w.shared z.n (service (AddBranch label other new))).node w.nodes (rows_name ((service (AddBranch label other new)).rows w.shared z.n) z.n) z.found in
        let same_m : m ≡ (succeeded w.shared z.n (service (AddBranch label other new))).node = some_is m _ (sym is_m ∙ ap (λ q. find_node q v.nodes) name_is ∙ at_node) in
        let by_serial : y.key ≡ first y.key.serial = a.0 ∙ ap first (ap (λ (k : BranchKey). k.serial) (sym a.0)) in
        let finds : table.find (first y.key.tid) z.n.volatile.branches ≡ Some y = ap (λ t. table.find (first t) z.n.volatile.branches) (ap (λ (k : BranchKey). k.tid) by_serial) ∙ find_first y.key.serial z.n.volatile.branches y l.finds by_serial in
        let in_put : In x (put (record y { bids = y.bids ++ next_id z.n ∷ [] }) z.n.volatile.branches) = subst (In x) (left y there.1 finds a.1) (subst (λ (q : Node). In x q.volatile.branches) same_m i) in
        let one : x ≡ record y { bids = y.bids ++ next_id z.n ∷ [] } = put_one (record y { bids = y.bids ++ next_id z.n ∷ [] }) x z.n.volatile.branches (differ z.n ((sound.kept node z.n z.found).runs (served_up z.n _ z.first)).0.table) in_put key in
        let lines : line.NormalId bid ∷ [] ≡ line.NormalId (next_id z.n) ∷ [] = sym now.shown ∙ z.shows ∙ ap (λ ls. ls ++ line.NormalId (next_id z.n) ∷ []) (silent z.n) in
        let id : bid ≡ next_id z.n = cc in
        subst (λ (q : Branch). In bid q.bids) (sym one) (in_right bid y.bids (next_id z.n ∷ []) (inl id))

  -- START_TRANS and START_BRANCH
  begin_joined : (node : List ℕ) (n m : Node) (ls : List Line) (N : Branch → Type 0) → ((tid serial : Id) → In (line.Joined tid serial) e.lines → ⊥) → ((tid bid : Id) → AuthorisesNow e es tid bid → ⊥) → find_node node w.nodes ≡ Some n → m.name ≡ n.name → v.nodes ≡ with_node node (λ k. m) w.nodes → Comes N Never ls n m →
      ((y : Branch) → N y → (y.key.serial ≡ next_id n) × (y.bids ≡ []) × (y.accepted ≡ [])) → AreJoined (e ∷ es) v
  begin_joined node n m ls N none never found name nodes comes new = record {
    told = λ other k is x i u key. elim (found_after w v node n m name found nodes other k is) [
      | inl old ↦ later_joins e es x x refl (λ bid t. t) (λ bid j. inl j) (λ st serial says j. absurd (none x.key.tid serial j)) (λ bid j. j) (λ bid now. absurd (never x.key.tid bid now)) (λ bid t. inl t) (stays_like x x refl (λ q. q)) (λ serial j. absurd (none x.key.tid serial j)) (h.told other k old x i u key)
      | inr both ↦ (
          let y = comes.from x (subst (λ (z : Node). In x z.volatile.branches) both.1 i) u in
          elim y.2 [
            | inl old ↦ later_joins e es y.0 x (ap (λ (z : Branch). z.key) y.1) (bare_taken x y.0 y.1) (λ bid j. inl (bare_bids x y.0 y.1 bid j)) (λ st serial says j. absurd (none x.key.tid serial j)) (bare_bids y.0 x (sym y.1)) (λ bid now. absurd (never x.key.tid bid now)) (λ bid t. inl (bare_taken y.0 x (sym y.1) bid t)) (bare_stays x y.0 y.1) (λ serial j. absurd (none x.key.tid serial j))
                (h.told other n both.0 y.0 old (ap (λ (z : Branch). is_prepared z.state) (sym y.1) ∙ u) (first_key y.0 x (ap (λ (z : Branch). z.key) y.1) key))
            | inr put_so ↦ elim put_so [
              | inl is_new ↦ first_joins x y.0 y.1 (new y.0 is_new).1 (new y.0 is_new).2 (ap (λ (k : BranchKey). k.serial) (sym key) ∙ ap (λ (z : Branch). z.key.serial) y.1 ∙ (new y.0 is_new).0)
              | inr never ↦ absurd never.2
            ]
          ]
          )
    ];
    drawn = drawn_later e es w h (λ tid serial i. absurd (none tid serial i));
    authorised = authorised_drawn e es w h (λ tid bid now. absurd (never tid bid now));
  }
    where
      -- of a transaction that begins nothing is told yet
      first_joins : (x y : Branch) → bare x ≡ bare y → y.bids ≡ [] → y.accepted ≡ [] → x.key.tid ≡ next_id n → BranchJoins (e ∷ es) x
      first_joins x y same empty alone tid = record {
        joins = λ before s events answer serial there i. elim (said_parts e es before s events answer there) [
          | inl now ↦ absurd (none x.key.tid serial (subst (In (line.Joined x.key.tid serial)) (sym now.2) (in_left (line.Joined x.key.tid serial) events (answer ∷ []) i)))
          | inr old ↦ absurd (next_new es w node n x.key.tid named found (h.drawn x.key.tid serial (
            old.entry,
            subst (In old.entry) (sym old.stands) (in_right old.entry old.after (old.entry ∷ before) (inl refl)),
            subst (In (line.Joined x.key.tid serial)) (sym old.shown) (in_left (line.Joined x.key.tid serial) events (answer ∷ []) i),
          )) tid)
        ];
        bids = λ bid i. absurd (subst (In bid) empty (bare_bids x y same bid i));
        all = λ bid a. elim (authorised_parts e es x.key.tid bid a) [ inl now ↦ absurd (never x.key.tid bid now) | inr old ↦ absurd (next_new es w node n x.key.tid named found (h.authorised x.key.tid bid old) tid) ];
        by = λ bid has. let clash : false ≡ true = ap (has_bid bid) (sym alone) ∙ bare_taken y x (sym same) bid has in let no : ⊥ = cc in absurd no;
        has = λ serial j. elim j.1 [
          | inl this ↦ absurd (none x.key.tid serial (subst (λ (f : Entry). In (line.Joined x.key.tid serial) f.lines) this j.2))
          | inr i ↦ absurd (next_new es w node n x.key.tid named found (h.drawn x.key.tid serial (j.0, i, j.2)) tid)
        ];
        unvoted = inr (λ c i. absurd (subst (In c) (ap (λ (z : Branch). z.accepted) same ∙ alone) i));
      }

  request_joined : (node : List ℕ) (request : Request) → reading e.source.text ≡ Says (At node request) → Step w (At node request) e.lines v → AreJoined (e ∷ es) v
  request_joined node request said step = go request said step
    where
      refused_so : (request : Request) → task_of w (At node request) ≡ Some (record { node = node; task = Serves request }) → powers (service request) ≡ false → touches (service request) ≡ false → Step w (At node request) e.lines v → (Succeeds w v node request e.lines → AreJoined (e ∷ es) v) → AreJoined (e ∷ es) v
      refused_so request is off dry step does = elim (request_ends w v node request e.lines is off dry step) [
        | inl r ↦ quiet_joined e es w v (task_unjoined e es w v (At node request) step node (Serves request) is (λ x k. let no : ⊥ = cc in no) (λ x k. let no : ⊥ = cc in no)) (never_refused e es r.0 r.1 r.2) (same_heirs w v (ap (λ (y : World). y.nodes) r.4)) h
        | inr x ↦ does x
      ]

      none_of : (request : Request) → task_of w (At node request) ≡ Some (record { node = node; task = Serves request }) → Step w (At node request) e.lines v → (tid serial : Id) → In (line.Joined tid serial) e.lines → ⊥
      none_of request is step = task_unjoined e es w v (At node request) step node (Serves request) is (λ x k. let no : ⊥ = cc in no) (λ x k. let no : ⊥ = cc in no)

      never_told : (request : Request) → ((label other new : List ℕ) → request ≡ AddBranch label other new → ⊥) → (n : Node) (tid bid : Id) → IsTold w.shared n (Serves request) (rows.Authorise tid bid) → ⊥
      never_told (AddBranch label other new) never n tid bid told = never label other new refl
      never_told (EndTrans label) never n tid bid told = let no : rows.Authorise tid bid ≡ rows.EndTrans told.0.key.tid = told.2 in cc
      never_told (Rattle.run_said.specs.script_model.Statements.EndBranch label) never n tid bid told = let no : rows.Authorise tid bid ≡ rows.EndBranch told.0.key.serial = told.1 in cc
      never_told (Rattle.run_said.specs.script_model.Statements.AbortTrans label) never n tid bid told = let no : rows.Authorise tid bid ≡ rows.AbortBranch told.0.key.serial Rattle.vms_model.specs.Transactions.Aborted = told.1 in cc
      never_told (Rattle.run_said.specs.script_model.Statements.Inquire who) never n tid bid told = let no : rows.Authorise tid bid ≡ rows.InquireBranch told.0.key.serial = told.1 in cc
      never_told (Rattle.run_said.specs.script_model.Statements.JoinRm label rm) never n tid bid told = let no : rows.Authorise tid bid ≡ rows.JoinRm told.0.key.serial rm = told.1 in cc
      never_told (Rattle.run_said.specs.script_model.Statements.AckEvent who rm reply) never n tid bid told = let no : rows.Authorise tid bid ≡ rows.Replied told.0 rm reply = told.1 in cc
      never_told _ never n tid bid told = told

      clocked : (now : ℕ) → reading e.source.text ≡ Says (At node (Clock now)) → (step : Step w (At node (Clock now)) e.lines v) → AreJoined (e ∷ es) v
      clocked now said step = by (clock_ends w v node now e.lines steps step)
        where
          by : ClockEnds w v node now e.lines step → AreJoined (e ∷ es) v
          by (Unset refusal is none answered goes) = quiet_joined e es w v (λ tid serial i. subst (In (line.Joined tid serial)) none (in_events e es w v (At node (Clock now)) step tid serial i)) (never_reads e es (At node (Clock now)) said refl) (same_heirs w v (ap (λ (y : World). y.nodes) goes)) h
          by (Set n u found once goes steps_u p) =
              let thin = (phases_thin v.disks (where_up node Ticks ∷ []) (each_up IsThinPart node Ticks refl, tt) u line.Normal step.events step.answer step.world p steps_u).0 in
              quiet_joined e es w v (λ tid serial i. phases_unjoined v.disks (where_up node Ticks ∷ []) (each_up IsThinPart node Ticks refl, tt) u step.events step.answer step.world p tid serial (in_events e es w v (At node (Clock now)) step tid serial i)) (never_reads e es (At node (Clock now)) said refl)
              (heirs_then w u v (clock_heirs w u node n now found goes) (subst (Thins u) (sym step.goes) (thins_disks u step.world v.disks thin))) h

      go : (request : Request) → reading e.source.text ≡ Says (At node request) → Step w (At node request) e.lines v → AreJoined (e ∷ es) v
      go (StartTrans label seconds) said step = refused_so (StartTrans label seconds) refl refl refl step (λ x.
          let n = x.n in
          let rs = (service (StartTrans label seconds)).rows w.shared n in
          let N : Branch → Type 0 = λ y. (y.key.serial ≡ next_id n) × (y.bids ≡ []) × (y.accepted ≡ []) in
          begin_joined node n (succeeded w.shared n (service (StartTrans label seconds))).node (lines_of_rows rs) N (none_of (StartTrans label seconds) refl step) (never_reads e es (At node (StartTrans label seconds)) said refl) x.found refl (ap (λ (y : World). y.nodes) x.goes) (rows_come N Never rs n (tt, (tt, ((refl, refl, refl), tt)))) (λ y is. is))
      go (StartBranch label) said step = refused_so (StartBranch label) refl refl refl step (λ x.
          let n = x.n in
          let rs = (service (StartBranch label)).rows w.shared n in
          let N : Branch → Type 0 = λ y. (y.key.serial ≡ next_id n) × (y.bids ≡ []) × (y.accepted ≡ []) in
          begin_joined node n (succeeded w.shared n (service (StartBranch label))).node (lines_of_rows rs) N (none_of (StartBranch label) refl step) (never_reads e es (At node (StartBranch label)) said refl) x.found (rows_name rs n) (ap (λ (y : World). y.nodes) x.goes) (rows_come N Never rs n (begun_putting n (labelled n.name label w.shared.labels))) (λ y is. is))
        where
          begun_putting : (n : Node) (o : Option Label) → ArePutting (λ y. (y.key.serial ≡ next_id n) × (y.bids ≡ []) × (y.accepted ≡ [])) Never (told_if w.shared n (option_and_then (begins n) o))
          begun_putting n None = tt
          begun_putting n (Some l) = by l.bid
            where
              by : (o : Option Id) → ArePutting (λ y. (y.key.serial ≡ next_id n) × (y.bids ≡ []) × (y.accepted ≡ [])) Never (told_if w.shared n (option_map (λ bid. let t : answers.Telling = record { before = world.Draws ∷ world.Numbers l.name (next_id n) ∷ []; event = rows.Begin l.tid (next_id n) bid } in t) o))
              by None = tt
              by (Some bid) = (tt, (tt, ((refl, refl, refl), (tt, tt))))
      go (AddBranch label other new) said step = refused_so (AddBranch label other new) refl refl refl step (λ x. one_joined (At node (AddBranch label other new)) said node (Serves (AddBranch label other new)) refl step refl (authorises node label other new said x) (λ y k. let no : ⊥ = cc in absurd no) (λ y k. let no : ⊥ = cc in no) (adds_bid node label other new said x))
      go (Clock now) said step = clocked now said step
      go request said step = one_joined (At node request) said node (Serves request) refl step refl (λ b bid n found i u key told. absurd (never_told request (λ label other new k. let no : ⊥ = cc in no) n b.key.tid bid told)) (λ y k. let no : ⊥ = cc in absurd no) (λ y k. let no : ⊥ = cc in no)
          (λ name m x is_m i u key bid now. absurd (never_reads e es (At node request) said refl x.key.tid bid now))

  step_joined : (s : Statement) → reading e.source.text ≡ Says s → Step w s e.lines v → AreJoined (e ∷ es) v
  step_joined (At node request) said step = request_joined node request said step
  step_joined (Deliver number) said step = go (message_at number w.shared.wire) refl
    where
      go : (o : Option Message) → message_at number w.shared.wire ≡ o → AreJoined (e ∷ es) v
      go (Some m) is = one_joined (Deliver number) said m.to (Takes m) (ap (λ (o : Option Message). option_map {U = TaskAt} (λ m. record { node = m.to; task = Takes m }) o) is) step refl
          (λ b bid n found i u key told. let no : ⊥ = cc in absurd no) (λ x k. let same : m ≡ x = cc in (number, refl, is ∙ ap Some same)) (λ x k. let no : ⊥ = cc in no)
          (λ name k x is_k i u key bid now. absurd (never_reads e es (Deliver number) said refl x.key.tid bid now))
      go None is =
          let d = subst (λ (o : Option Message). Begins (elim o [ Some m ↦ named_node w m.to | None ↦ Some line.NoSuchMessage ]) (Phases (phases_of (Deliver number)) v.disks w line.Normal) w step.events step.answer step.world) is step.does in
          quiet_joined e es w v (λ tid serial i. subst (In (line.Joined tid serial)) d.0 (in_events e es w v (Deliver number) step tid serial i)) (never_reads e es (Deliver number) said refl) (same_heirs w v (ap (λ (y : World). y.nodes) (step.goes ∙ ap (λ (x : World). record x { disks = v.disks }) d.2))) h
  step_joined (LinkDown a b) said step = go (refused_at_once w (LinkDown a b)) step.does
    where
      go : (o : Option Line) → Begins o (Phases (phases_of (LinkDown a b)) v.disks w line.Normal) w step.events step.answer step.world → AreJoined (e ∷ es) v
      go (Some refusal) d = quiet_joined e es w v (λ tid serial i. subst (In (line.Joined tid serial)) d.0 (in_events e es w v (LinkDown a b) step tid serial i)) (never_reads e es (LinkDown a b) said refl) (same_heirs w v (ap (λ (y : World). y.nodes) (step.goes ∙ ap (λ (x : World). record x { disks = v.disks }) d.2))) h
      go None d = quiet_joined e es w v (λ tid serial i. phases_unjoined v.disks (phases_of (LinkDown a b)) (link_phases a b) w step.events step.answer step.world d tid serial (in_events e es w v (LinkDown a b) step tid serial i)) (never_reads e es (LinkDown a b) said refl)
          (heirs_then w w v (same_heirs w w refl) (subst (Thins w) (sym step.goes) (thins_disks w step.world v.disks (phases_thin v.disks (phases_of (LinkDown a b)) (link_phases a b) w line.Normal step.events step.answer step.world d steps).0))) h
  step_joined Settle said step =
      let base = begun_with Settle w in
      let f = phases_thin v.disks (phases_of Settle) settle_phases base line.Normal step.events step.answer step.world step.does steps in
      quiet_joined e es w v (λ tid serial i. phases_unjoined v.disks (phases_of Settle) settle_phases base step.events step.answer step.world step.does tid serial (in_events e es w v Settle step tid serial i)) (never_reads e es Settle said refl)
      (heirs_then w base v (same_heirs w base refl) (subst (Thins base) (sym step.goes) (thins_disks base step.world v.disks f.0))) h

  turn_joined : (r : Reading) → reading e.source.text ≡ r → LineTurn w r e.lines v → AreJoined (e ∷ es) v
  turn_joined Blank said t = quiet_joined e es w v (λ tid serial i. subst (In (line.Joined tid serial)) t.0 i) (λ tid bid now. let clash : Blank ≡ Says (At tid.node (AddBranch now.label now.other now.new)) = sym said ∙ now.said in let no : ⊥ = cc in no) (same_heirs w v (ap (λ (y : World). y.nodes) t.1)) h
  turn_joined (Says s) said t = step_joined s said t
  turn_joined (Bad column) said t = absurd t

-- Runs.

none_said : (before after : List Entry) (entry : Entry) → [] ≡ after ++ entry ∷ before → ⊥
none_said before [] entry stands = let no : ⊥ = cc in no
none_said before (x ∷ after) entry stands = let no : ⊥ = cc in no

pub legal_joined : (nodes : List Node) (disks : List DiskCounts) (es : List Entry) (w : World) → AreOpening nodes → Legal (opened nodes disks) es w → AreJoined es w
legal_joined nodes disks [] w opening legal = subst (AreJoined []) (sym legal) (record {
  told = λ node n found b i u key. absurd (subst (In b) (ap (λ (y : world.Volatile). y.branches) (opening_found nodes opening node n found).volatile) i);
  drawn = λ tid serial j. absurd j.1;
  authorised = λ tid bid a. absurd (none_said a.0 a.5.after a.5.entry a.5.stands);
})
legal_joined nodes disks (e ∷ es) w opening legal =
    turn_joined e es legal.0 w (legal_joined nodes disks es legal.0 opening legal.1) (legal_named nodes disks es legal.0 opening legal.1) (legal_named nodes disks (e ∷ es) w opening legal) (legal_sound (opened nodes disks) legal.0 es (opening_sound nodes disks opening) legal.1) (legal_told nodes disks legal.0 es opening legal.1).1
    (λ number m is. was_sent nodes disks es legal.0 number m opening legal.1 is) (reading e.source.text) refl legal.2

-- An identifier that none has.
not_taken : (bids : List Id) (cs : List Child) → all_taken bids cs ≡ false → (bid : Id) × In bid bids × (has_bid bid cs ≡ false)
not_taken [] cs e = let no : ⊥ = cc in absurd no
not_taken (x ∷ bids) cs e = go (has_bid x cs) refl e (not_taken bids cs)
  where
    go : (t : Bool) → has_bid x cs ≡ t → t && all_taken bids cs ≡ false → (all_taken bids cs ≡ false → (bid : Id) × In bid bids × (has_bid bid cs ≡ false)) → (bid : Id) × In bid (x ∷ bids) × (has_bid bid cs ≡ false)
    go true is k more = let r = more k in (r.0, inr r.1, r.2)
    go false is k more = (x, inl refl, is)

-- So a branch of an undecided transaction is missing where one of its identifiers has none.
pub lacks : (es : List Entry) (w : World) (node : List ℕ) (n : Node) (b : Branch) → AreJoined es w → find_node node w.nodes ≡ Some n → In b n.volatile.branches → is_prepared b.state ≡ false → b.key ≡ first b.key.tid → all_taken b.bids b.accepted ≡ false → IsMissing es b.key.tid
lacks es w node n b joined found there open_still key lacking =
    let told = joined.told node n found b there open_still key in
    let free = not_taken b.bids b.accepted lacking in (
      free.0,
      told.bids free.0 free.1,
      λ before s events answer serial said i.
          let j = told.joins before s events answer serial said i in
          (j.0, j.1, λ same. both_ways (has_bid j.0 b.accepted) (ap (λ bid. has_bid bid b.accepted) same ∙ free.2) j.2),
    )

taken_has : (bid : Id) (bids : List Id) (cs : List Child) → all_taken bids cs ≡ true → In bid bids → has_bid bid cs ≡ true
taken_has bid [] cs all i = absurd i
taken_has bid (x ∷ bids) cs all (inl same) = ap (λ y. has_bid y cs) same ∙ (and_parts (has_bid x cs) (all_taken bids cs) all).0
taken_has bid (x ∷ bids) cs all (inr i) = taken_has bid bids cs (and_parts (has_bid x cs) (all_taken bids cs) all).1 i

-- and none is where each of them has one
pub lacks_none : (es : List Entry) (w : World) (node : List ℕ) (n : Node) (b : Branch) → AreJoined es w → find_node node w.nodes ≡ Some n → In b n.volatile.branches → is_prepared b.state ≡ false → b.key ≡ first b.key.tid → all_taken b.bids b.accepted ≡ true → IsWhole es b.key.tid
lacks_none es w node n b joined found there open_still key all =
    let told = joined.told node n found b there open_still key in
    λ bid a. told.by bid (taken_has bid b.bids b.accepted all (told.all bid a))

pub waits_hold : WaitsHold
waits_hold nodes disks es closing opening legal before node label events serials rms there =
    let s = standing nodes disks es before (At node (EndTrans label)) events (line.Pending serials rms) closing opening legal there in
    let d = done s.w s.v node (EndTrans label) events (line.Pending serials rms) refl refl refl refl (λ cause e. let no : ⊥ = cc in no) s.step in
    let r = ends_waiting before s.w s.v node label events (line.Pending serials rms) s.named d serials rms refl in
    let b = r.0 in
    let a = active_is b r.2 in
    let l = label_of s.w.shared d.n label b r.1 in
    (b.key.tid, r.3, lacks_none before s.w node d.n b (legal_joined nodes disks before s.w opening s.legal) d.found l.branch (active_unprepared b a.1) a.0 r.4)

-- The lists of the answer.

in_missing : (cs : List Child) → ((c : Child) → In c cs → c.vote ≡ None) → (c : Child) → In c cs → In c.serial (answers.missing cs)
in_missing [] none c i = absurd i
in_missing (d ∷ cs) none c i = subst (λ o. In c.serial (if rows.is_noted o then answers.missing cs else d.serial ∷ answers.missing cs)) (sym (none d (inl refl))) (elim i [ inl same ↦ inl (ap (λ (z : Child). z.serial) same) | inr j ↦ inr (in_missing cs (λ y k. none y (inr k)) c j) ])

of_missing : (cs : List Child) (serial : Id) → In serial (answers.missing cs) → (c : Child) × In c cs × (c.serial ≡ serial)
of_missing [] serial i = absurd i
of_missing (d ∷ cs) serial i = go (rows.is_noted d.vote) i (of_missing cs serial)
  where
    go : (t : Bool) → In serial (if t then answers.missing cs else d.serial ∷ answers.missing cs) → (In serial (answers.missing cs) → (c : Child) × In c cs × (c.serial ≡ serial)) → (c : Child) × In c (d ∷ cs) × (c.serial ≡ serial)
    go true j more = let r = more j in (r.0, inr r.1, r.2)
    go false (inl same) more = (d, inl refl, sym same)
    go false (inr j) more = let r = more j in (r.0, inr r.1, r.2)

-- where none is missing, the transaction is committed
no_vote_missing : (cs : List Child) → answers.missing cs ≡ [] → rows.all_voted cs ≡ true
no_vote_missing [] e = refl
no_vote_missing (d ∷ cs) e = go (rows.is_noted d.vote) e (no_vote_missing cs)
  where
    go : (t : Bool) → (if t then answers.missing cs else d.serial ∷ answers.missing cs) ≡ [] → (answers.missing cs ≡ [] → rows.all_voted cs ≡ true) → (t && rows.all_voted cs) ≡ true
    go true k more = more k
    go false k more = let no : ⊥ = cc in absurd no

no_reply_missing : (ms : List Manager) → answers.unreplied ms ≡ [] → rows.all_replied ms ≡ true
no_reply_missing [] e = refl
no_reply_missing (d ∷ ms) e = go (rows.is_replied d.reply) e (no_reply_missing ms)
  where
    go : (t : Bool) → (if t then answers.unreplied ms else d.rm ∷ answers.unreplied ms) ≡ [] → (answers.unreplied ms ≡ [] → rows.all_replied ms ≡ true) → (t && rows.all_replied ms) ≡ true
    go true k more = more k
    go false k more = let no : ⊥ = cc in absurd no

pub pending_hold : PendingHold
pending_hold nodes disks es closing opening legal before node label events serials rms there =
    let s = standing nodes disks es before (At node (EndTrans label)) events (line.Pending serials rms) closing opening legal there in
    let d = done s.w s.v node (EndTrans label) events (line.Pending serials rms) refl refl refl refl (λ cause e. let no : ⊥ = cc in no) s.step in
    let r = ends_waiting before s.w s.v node label events (line.Pending serials rms) s.named d serials rms refl in
    let b = r.0 in
    let a = active_is b r.2 in
    let l = label_of s.w.shared d.n label b r.1 in
    let lists = end_lists b serials rms r.5 in
    let told = (legal_joined nodes disks before s.w opening s.legal).told node d.n d.found b l.branch (active_unprepared b a.1) a.0 in
    let joined = ((legal_are_told nodes disks before s.w opening s.legal).told node d.n d.found b l.branch (active_unprepared b a.1)).joined in (
      b.key.tid,
      r.3,
      λ serial i. let c = of_missing b.accepted serial (subst (In serial) lists.0 i) in subst (HasJoined before b.key.tid) c.2 (joined c.0 c.1),
      λ serial j. let c = told.has serial j in subst (λ y. In y serials) c.2 (subst (In (c.0).serial) (sym lists.0) (in_missing b.accepted (unvoted_active b a.1 told.unvoted) c.0 c.1)),
      λ none none_too. lists.2 (no_vote_missing b.accepted (sym lists.0 ∙ none)) (no_reply_missing (ending b).managers (sym lists.1 ∙ none_too)),
    )
  where
    unvoted_active : (b : Branch) → b.state ≡ Active → IsUnvoted b → (c : Child) → In c b.accepted → c.vote ≡ None
    unvoted_active b active (inl ends) c i = let clash : Active ≡ table.Ending = sym active ∙ ends in let no : ⊥ = cc in absurd no
    unvoted_active b active (inr none) c i = none c i

pub missing_hold : MissingHold
missing_hold nodes disks es closing opening legal before node label events reason there =
    let s = standing nodes disks es before (At node (EndTrans label)) events (line.TransactionAborted reason) closing opening legal there in
    let d = done s.w s.v node (EndTrans label) events (line.TransactionAborted reason) refl refl refl refl (λ cause e. let no : ⊥ = cc in no) s.step in
    let r = ends_abort before s.w s.v node label events (line.TransactionAborted reason) s.named d reason refl in
    let x = r.0 in
    let a = active_is x.b x.active in
    let l = label_of s.w.shared d.n label x.b x.found in
    let missing = lacks before s.w node d.n x.b (legal_joined nodes disks before s.w opening s.legal) d.found l.branch (active_unprepared x.b a.1) a.0 r.2 in
    (x.tid, x.moment, x.begun, x.shown, subst (IsMissing before) (ap (λ (k : BranchKey). k.tid) x.key) missing)
