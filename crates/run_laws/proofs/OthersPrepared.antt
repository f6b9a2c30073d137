-- A branch that is not the first of its transaction is committed only where it is told to be prepared.
use Rattle.std.proofs.Common.{◌≡◌, ℕ, ◌⊎◌, List, [], ◌∷◌, ◌++◌, inl, inr, Bool, true, false, Option, Some, None, refl, sym, ◌∙◌, ap, subst}
use Rattle.std.specs.Option.{option_map}
use Rattle.std.proofs.lemmas.Bool.{both_ways, cases_Bool}
use Rattle.vms_model.specs.Ids.{Id}
use Rattle.vms_model.specs.Transactions.{Outcome, Commit, Abort, Reason}
use Rattle.run_said.specs.transcript_model.Lines as line
use Rattle.run_said.specs.transcript_model.Lines.{Line, Cause}
use Rattle.run_said.specs.script_model.Statements.{AbortTrans, AckEvent, At, Bad, Blank, Boot, Clock, Deliver, Direct, EndTrans, LinkDown, Reading, Request, Says, Settle, Statement}
use Rattle.run_said.specs.script_model.Grammar.{reading}
use Rattle.commit_protocol.specs.Messages as message
use Rattle.commit_protocol.specs.Messages.{Message}
use Rattle.commit_protocol.specs.Table.{Key as BranchKey, child, first, key_of}
use Rattle.commit_protocol.specs.World.{In}
use Rattle.commit_protocol.proofs.Lists.{find-key}
use Rattle.run_said.specs.run_model.World.{DiskCounts, Node, Shared, World, find_node, opened, tm_of}
use Rattle.run_said.specs.run_model.Answers.{Hears, LosesLink, Restarts, RunsDown, Serves, Takes, Task, Ticks, refused_before_reading, task_service}
use Rattle.run_said.specs.run_model.Steps.{Choice, TaskAllowed, task_effect}
use Rattle.run_said.specs.run_model.Statements.{Allowed, Begins, Part, PartEffect, Phases, RoseAt, Step, begun_with, message_at, named_node, part_effect, phases_of, refused_at_once, stops_at}
use Rattle.run_said.specs.run_model.StepLaws.{TaskAt, task_of}
use Rattle.run_said.specs.run_model.Transcript.{AreOpening, Entry, Legal, Turn}
use Rattle.run_said.proofs.run_model.NodeLists.{found_name}
use Rattle.run_said.proofs.run_model.PartLemmas.{EachPhase, phases_fold}
use Rattle.run_said.proofs.run_model.PartTasks.{Doing, Fixed, View, view}
use Rattle.run_said.proofs.run_model.Refusing.{refusals}
use Rattle.run_said.proofs.run_model.TaskLemmas.{outcome}
use Rattle.recovery_laws.specs.world_laws.Nodes.{IsUp}
use Rattle.recovery_laws.proofs.world_laws.TableLemmas.{found_in}
use Rattle.run_laws.specs.Laws.{OthersHold}
use Rattle.run_laws.specs.Promises.{commitment, is_told_prepared, prepared_by}
use Rattle.run_laws.proofs.EachRow.{is_plain}
use Rattle.run_laws.proofs.Labelling.{first_none, served_up}
use Rattle.run_laws.proofs.Named.{Ended, Refused, Turned, ended}
use Rattle.run_laws.proofs.OwnLines.{line_in, task_owns}
use Rattle.run_laws.proofs.Recorded.{HasIt, in_log}
use Rattle.run_laws.proofs.RecordedRuns.{Known, Reason as Grounds, late, legal_known}
use Rattle.run_laws.proofs.RecordedTasks.{Suits, clock_suits, link_suits, part_known, settle_suits}
use Rattle.run_laws.proofs.Settling.{IsReady, MessageSettles}
use Rattle.run_laws.proofs.ShownSettled.{answer_plain, here_in, outcome_other, refusal_other}
use Rattle.run_laws.proofs.SoundWorlds.{IsSound, begins_sound, legal_sound, opening_sound, part_sound, sound_node}
use Rattle.run_laws.proofs.Splits.{heard_front, split_append, taken_front}
use Rattle.run_laws.proofs.StayPrepared.{told_append}
use Rattle.run_laws.proofs.Staying.{stays}
use Rattle.run_laws.proofs.TaskCauses.{RequestCause, TaskCause, effect_caused}

-- What commits a branch that is not the first: a Commit that its task takes or hears, where it is prepared.
record IsToldSo (n : Node) (t : Task) (k : BranchKey) : Type 0 where
  m : Message
  how : (t ≡ Takes m) ⊎ (t ≡ Hears m)
  kind : m.kind ≡ message.Commit
  key : k ≡ key_of m
  ready : IsReady n.volatile.branches m

told_so : (s : Shared) (n : Node) (t : Task) (k : BranchKey) (reason : Reason) → (k.serial ≡ k.tid → ⊥) → TaskCause s n t k Commit reason → IsToldSo n t k
told_so s n t k reason apart cause = go t cause
  where
    is_first : (x : Id) → k ≡ first x → ⊥
    is_first x e = apart (ap (λ (j : BranchKey). j.serial) e ∙ sym (ap (λ (j : BranchKey). j.tid) e))

    never : Commit ≡ Abort → {X : Type 0} → X
    never e = let no : ⊥ = cc in absurd no

    sent : (t : Task) (m : Message) → (t ≡ Takes m) ⊎ (t ≡ Hears m) → (kind : message.Kind) → m.kind ≡ kind → MessageSettles (tm_of n) kind m k Commit reason → IsToldSo n t k
    sent t m how message.Yes e h = absurd (is_first m.tid h.1)
    sent t m how message.ReadOnly e h = absurd (is_first m.tid h.1)
    sent t m how message.Commit e h = record { m = m; how = how; kind = e; key = h.1; ready = h.2 }
    sent t m how message.Abort e h = never h.0
    sent t m how message.JoinNo e h = never h.0
    sent t m how message.No e h = never h.0
    sent t m how _ e h = absurd h

    request : (r : Request) → RequestCause s n r k Commit reason → IsToldSo n (Serves r) k
    request Boot h = never h.0
    request (Direct file op) h = absurd (is_first _ h.1)
    request (EndTrans label) h = absurd (is_first _ h.2.0)
    request (AbortTrans label) h = never h.2.0
    request (AckEvent who rm reply) h = elim h.2.2 [ inl c ↦ absurd (is_first _ c.3) | inr a ↦ never a.0 ]
    request _ h = absurd h

    go : (t : Task) → TaskCause s n t k Commit reason → IsToldSo n t k
    go (Serves r) h = request r h
    go Ticks h = never h.0
    go (Takes m) h = sent (Takes m) m (inl refl) m.kind refl h
    go (Hears m) h = sent (Hears m) m (inr refl) m.kind refl h
    go (LosesLink other) h = never h.0
    go RunsDown h = never h.0
    go Restarts h = never h.0

module _ (nodes : List Node) (disks : List DiskCounts) (opening : AreOpening nodes) (es : List Entry) (tid serial : Id) (apart : serial ≡ tid → ⊥) (moment : ℕ) where
  abbrev it : Line
  it = line.Committed tid serial moment

  abbrev At_ : Bool → World → Type 0
  At_ a w = Known nodes disks opening tid serial es a w

  -- the line of the commitment stands where it is not told to be prepared
  record Untold (a : Bool) (ls : List Line) : Type 0 where
    front : List Line
    behind : List Line
    stands : ls ≡ front ++ line.Committed tid serial moment ∷ behind
    untold : prepared_by serial front a ≡ false

  none_untold : (ls : List Line) (a : Bool) → (In (line.Committed tid serial moment) ls → ⊥) → Untold a ls → ⊥
  none_untold ls a none t = none (subst (In (line.Committed tid serial moment)) (sym t.stands) (here_in t.front (line.Committed tid serial moment) t.behind))

  plain_untold : (l : Line) (a : Bool) → is_plain l ≡ true → Untold a (l ∷ []) → ⊥
  plain_untold l a plain t = none_untold (l ∷ []) a (λ i. elim i [ inl same ↦ (let clash : false ≡ true = ap is_plain same ∙ plain in let no : ⊥ = cc in no) | inr none ↦ none ]) t

  untold_split : (a : Bool) (xs ys : List Line) → Untold a (xs ++ ys) → Untold a xs ⊎ Untold (prepared_by serial xs a) ys
  untold_split a xs ys t = elim (split_append xs ys t.front (line.Committed tid serial moment) t.behind t.stands) [
    | inl r ↦ inl (record { front = t.front; behind = r.0; stands = r.1; untold = t.untold })
    | inr r ↦ inr (record { front = r.0; behind = t.behind; stands = r.2; untold = sym (told_append serial xs r.0 a) ∙ ap (λ ls. prepared_by serial ls a) (sym r.1) ∙ t.untold })
  ]

  -- Tasks.

  task_told : (u : World) (other : List ℕ) (n : Node) (task : Task) (c : Choice) (rises : Cause → Type 0) (a : Bool) → IsSound u → find_node other u.nodes ≡ Some n → TaskAllowed u.shared (stops_at other u) n task rises c → At_ a u → Untold a (task_effect u.shared (stops_at other u) n task c).lines → ⊥
  task_told u other n task c rises a sound found may h t = at_head x.how
    where
      ls : List Line
      ls = (task_effect u.shared (stops_at other u) n task c).lines

      here : In (line.Committed tid serial moment) (task_effect u.shared (stops_at other u) n task c).lines
      here = subst (In (line.Committed tid serial moment)) (sym t.stands) (here_in t.front (line.Committed tid serial moment) t.behind)

      home : other ≡ serial.node
      home = sym (found_name other u.nodes n found) ∙ sym (task_owns u.shared (stops_at other u) n task c rises (sound_node u sound other n found) may (commitment tid serial moment) (line_in (task_effect u.shared (stops_at other u) n task c).lines (line.Committed tid serial moment) (commitment tid serial moment) [] here refl))

      x : IsToldSo n task (child tid serial)
      x = let r = effect_caused u.shared (stops_at other u) n task c (line.Committed tid serial moment) (commitment tid serial moment) here refl in by r.0 r.1 r.2 r.3 r.4 r.5
        where
          by : (k : BranchKey) (o : Outcome) (reason : Reason) (at : ℕ) → line.Committed tid serial moment ≡ Rattle.run_said.specs.run_model.Answers.settled_line k o reason at → TaskCause u.shared n task k o reason → IsToldSo n task (child tid serial)
          by k Commit reason at e cause =
              let tids : k.tid ≡ tid = tid_of k at e in
              let serials : k.serial ≡ serial = serial_of k at e in
              subst (IsToldSo n task) (λ i. record { tid = tids i; serial = serials i }) (told_so u.shared n task k reason (λ same. apart (sym serials ∙ same ∙ tids)) cause)
            where
              tid_of : (k : BranchKey) (at : ℕ) → line.Committed tid serial moment ≡ line.Committed k.tid k.serial at → k.tid ≡ tid
              tid_of k at e = cc

              serial_of : (k : BranchKey) (at : ℕ) → line.Committed tid serial moment ≡ line.Committed k.tid k.serial at → k.serial ≡ serial
              serial_of k at e = cc
          by k Abort reason at e cause = let no : ⊥ = cc in absurd no

      up : n.up ≡ true
      up = go task x.how (first_none u.shared (stops_at other u) n task rises c (line.Committed tid serial moment) may here)
        where
          go : (t : Task) → (t ≡ Takes x.m) ⊎ (t ≡ Hears x.m) → refused_before_reading u.shared n (task_service t) ≡ None → n.up ≡ true
          go (Takes m) how e = served_up n _ e
          go (Hears m) how e = served_up n _ e
          go (Serves r) how e = elim how [ inl is ↦ (let no : ⊥ = cc in absurd no) | inr is ↦ (let no : ⊥ = cc in absurd no) ]
          go Ticks how e = elim how [ inl is ↦ (let no : ⊥ = cc in absurd no) | inr is ↦ (let no : ⊥ = cc in absurd no) ]
          go (LosesLink y) how e = elim how [ inl is ↦ (let no : ⊥ = cc in absurd no) | inr is ↦ (let no : ⊥ = cc in absurd no) ]
          go RunsDown how e = elim how [ inl is ↦ (let no : ⊥ = cc in absurd no) | inr is ↦ (let no : ⊥ = cc in absurd no) ]
          go Restarts how e = elim how [ inl is ↦ (let no : ⊥ = cc in absurd no) | inr is ↦ (let no : ⊥ = cc in absurd no) ]

      told : a ≡ true
      told =
          let is_up : IsUp n = ((sound_node u sound other n found).kept.runs up).0 in
          let r = x.ready in
          let has : HasIt tid serial n.durable = in_log tid serial n is_up (r.branch, found_in (key_of x.m) n.volatile.branches r.branch r.there, r.prepared, find-key (key_of x.m) n.volatile.branches r.branch r.there ∙ sym x.key) in
          elim (((h n (subst (λ y. find_node y u.nodes ≡ Some n) home found)).runs up).2 has) [ inl is ↦ is | inr none ↦ absurd none ]

      contradicts : (front : List Line) → prepared_by serial front a ≡ false → prepared_by serial front a ≡ a → ⊥
      contradicts front off same = both_ways a (sym same ∙ off) told

      at_head : (task ≡ Takes x.m) ⊎ (task ≡ Hears x.m) → ⊥
      at_head (inl is) =
          let front = taken_front u.shared (stops_at other u) n x.m c (inl x.kind) t.front (line.Committed tid serial moment) t.behind (commitment tid serial moment) (ap (λ y. (task_effect u.shared (stops_at other u) n y c).lines) (sym is) ∙ t.stands) refl in
          contradicts t.front t.untold (ap (λ ls. prepared_by serial ls a) front)
      at_head (inr is) =
          let front = heard_front u.shared (stops_at other u) n x.m c (inl x.kind) t.front (line.Committed tid serial moment) t.behind (commitment tid serial moment) (ap (λ y. (task_effect u.shared (stops_at other u) n y c).lines) (sym is) ∙ t.stands) refl in
          contradicts t.front t.untold (ap (λ ls. prepared_by serial ls a) front)

  part_told : (u : World) (p : Part) (c : Choice) (after : List DiskCounts) (a : Bool) → Allowed u p after c → IsSound u → At_ a u → Untold a (part_effect u p c).lines → ⊥
  part_told u p c after a allowed sound h = go (view u p)
    where
      go : View u p → Untold a (part_effect u p c).lines → ⊥
      go (Fixed answer ends kind is) t = none_untold [] a (λ i. i) (subst (λ (e : PartEffect). Untold a e.lines) (is c) t)
      go (Doing other task n named found does may) t = task_told u other n task c (λ cause. RoseAt u other cause after) a sound found (may after c allowed) h (subst (λ (e : PartEffect). Untold a e.lines) (does c) t)

  -- Statements.

  module _ (w v : World) (lines : List Line) (a : Bool) (sound : IsSound w) (h : At_ a w) where
    single : (s : Statement) (node : List ℕ) (task : Task) → task_of w s ≡ Some (record { node = node; task = task }) → Step w s lines v → Untold a lines → ⊥
    single s node task is step = go (ended w v s lines node task is step)
      where
        go : Ended w v node task lines → Untold a lines → ⊥
        go (Refused refusal r shows goes) t = plain_untold refusal a (refusal_other refusal r) (subst (Untold a) shows t)
        go (Turned n found c allowed shows goes) t =
            let e = task_effect w.shared (stops_at node w) n task c in
            elim (untold_split a e.lines (e.answer ∷ []) (subst (Untold a) shows t)) [
              | inl q ↦ task_told w node n task c (λ cause. RoseAt w node cause v.disks) a sound found allowed h q
              | inr q ↦ plain_untold e.answer (prepared_by serial e.lines a) (outcome_other w.shared (stops_at node w) n task (λ cause. RoseAt w node cause v.disks) e (outcome w.shared (stops_at node w) n task (λ cause. RoseAt w node cause v.disks) c allowed)) q
            ]

    phased : (s : Statement) → EachPhase (Suits tid serial (Grounds nodes disks opening tid serial es) (find_node serial.node nodes) (late nodes disks opening tid serial es)) (phases_of s) → Step w s lines v → Untold a lines → ⊥
    phased s each step t = elim (untold_split a step.events (step.answer ∷ []) (subst (Untold a) step.shows t)) [
      | inl q ↦ go (refused_at_once w s) step.does q
      | inr q ↦ plain_untold step.answer (prepared_by serial step.events a) (answer_plain w v s lines step) q
    ]
      where
        begun : (s : Statement) → At_ a (begun_with s w)
        begun Settle = h
        begun (At other request) = h
        begun (Deliver number) = h
        begun (LinkDown x y) = h

        go : (o : Option Line) → Begins o (Phases (phases_of s) v.disks (begun_with s w) line.Normal) w step.events step.answer step.world → Untold a step.events → ⊥
        go (Some refusal) d q = none_untold [] a (λ i. i) (subst (Untold a) d.0 q)
        go None d q = phases_fold v.disks (Suits tid serial (Grounds nodes disks opening tid serial es) (find_node serial.node nodes) (late nodes disks opening tid serial es)) (λ g. Unit {0}) (λ u rest answer x. (b : Bool) → IsSound u → At_ b u → Untold b rest → ⊥)
            (λ u g none b sd k t. none_untold [] b (λ i. i) t)
            (λ u p c ok allowed ends b sd k t. part_told u p c v.disks b allowed sd k t)
            (λ u p c ok allowed on. (
              tt,
              λ rest answer x more b sd k t. elim (untold_split b (part_effect u p c).lines rest t) [
                | inl f ↦ part_told u p c v.disks b allowed sd k f
                | inr f ↦ more (prepared_by serial (part_effect u p c).lines b) (part_sound u p c v.disks allowed sd) (part_known tid serial (Grounds nodes disks opening tid serial es) (find_node serial.node nodes) (late nodes disks opening tid serial es) u p c v.disks b allowed sd ok k) f
              ],
            ))
            (phases_of s) each (begun_with s w) line.Normal step.events step.answer step.world tt d a (begins_sound s w sound) (begun s) q

    request_told : (node : List ℕ) (r : Request) → Step w (At node r) lines v → Untold a lines → ⊥
    request_told node (Clock now) step = phased (At node (Clock now)) (clock_suits tid serial (Grounds nodes disks opening tid serial es) (find_node serial.node nodes) (late nodes disks opening tid serial es) node now) step
    request_told node r step = single (At node r) node (Serves r) refl step

    deliver_told : (number : ℕ) → Step w (Deliver number) lines v → Untold a lines → ⊥
    deliver_told number step = go (message_at number w.shared.wire) refl
      where
        go : (o : Option Message) → message_at number w.shared.wire ≡ o → Untold a lines → ⊥
        go (Some m) is t = single (Deliver number) m.to (Takes m) (ap (option_map {U = TaskAt} (λ (x : Message). record { node = x.to; task = Takes x })) is) step t
        go None is t =
            plain_untold line.NoSuchMessage a refl (subst (Untold a) (refusals.0 w v (Deliver number) lines line.NoSuchMessage step (ap (λ (o : Option Message). elim o as (λ x. Option Line) [ Some m ↦ named_node w m.to | None ↦ Some line.NoSuchMessage ]) is)).0 t)

    turn_told : (r : Reading) → Turn w r lines v → Untold a lines → ⊥
    turn_told Blank turn t = none_untold lines a (λ i. subst (In (line.Committed tid serial moment)) turn.0 i) t
    turn_told (Bad column) turn t = absurd turn
    turn_told (Says (At node r)) turn t = request_told node r turn t
    turn_told (Says (Deliver number)) turn t = deliver_told number turn t
    turn_told (Says (LinkDown x y)) turn t = phased (LinkDown x y) (link_suits tid serial (Grounds nodes disks opening tid serial es) (find_node serial.node nodes) (late nodes disks opening tid serial es) x y) turn t
    turn_told (Says Settle) turn t = phased Settle (settle_suits tid serial (Grounds nodes disks opening tid serial es) (find_node serial.node nodes) (late nodes disks opening tid serial es)) turn t

pub others_hold : OthersHold
others_hold nodes disks es closing opening legal before said front behind tid serial moment there apart = elim (cases_Bool (prepared_by serial front (is_told_prepared serial (opened nodes disks) before))) [
  | inl told ↦ told
  | inr off ↦ (
      let r = stays (opened nodes disks) closing there.after (there.entry ∷ before) (subst (λ xs. Legal (opened nodes disks) xs closing) there.stands legal) in
      let mid = (r.1).0 in
      let sound = legal_sound (opened nodes disks) mid before (opening_sound nodes disks opening) (r.1).1 in
      absurd (turn_told nodes disks opening before tid serial apart moment mid r.0 there.entry.lines (is_told_prepared serial (opened nodes disks) before) sound (legal_known nodes disks opening tid serial before mid (r.1).1) (reading there.entry.source.text) (r.1).2
      (record { front = front; behind = behind; stands = there.shown; untold = off }))
      )
]
