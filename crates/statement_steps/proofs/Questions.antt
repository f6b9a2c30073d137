-- The question of a prepared branch, and what becomes of it.
use Rattle.std.specs.Option.{option_and_then}
use Rattle.std.proofs.Common.{◌≡◌, ℕ, List, [], ◌∷◌, Bool, true, false, Option, Some, None, if◌then◌else◌, inl, inr, refl, sym, ◌∙◌, ap, subst}
use Rattle.vms_model.specs.Ids.{Id}
use Rattle.records_model.specs.History.{same_id as said_id}
use Rattle.world_laws.specs.transcript_model.Lines as line
use Rattle.world_laws.specs.transcript_model.Lines.{Line, Normal}
use Rattle.commit_protocol.specs.Allowed.{is_prepared}
use Rattle.commit_protocol.specs.Messages.{Inquire, Message}
use Rattle.commit_protocol.specs.Rows.{Got, row, up}
use Rattle.commit_protocol.specs.Table.{Branch, coordinator_of, find_serial}
use Rattle.commit_protocol.proofs.Lists.{find_serial-serial, told_id}
use Rattle.world_laws.specs.run_model.World.{DiskCounts, Node, Shared, World, disk_of, find_branch, find_node, tm_of}
use Rattle.world_laws.specs.run_model.Answers.{Hears}
use Rattle.world_laws.specs.run_model.Steps.{Choice, NodeStep, WithoutMemory}
use Rattle.world_laws.specs.run_model.Statements.{Allowed, AllowedAt, AllowedOf, Asks, Doubtful, Heard, NoneFalls, Part, PartEffect, Unanswered, answer_in, answer_of, asked, asking, done_at, in_doubt, part_effect, question, question_effect}
use Rattle.world_laws.specs.run_model.StepLaws.{asked_by}
use Rattle.world_laws.proofs.run_model.NodeLists.{none_falls_same, some_is}
use Rattle.world_laws.proofs.run_model.ReplyLemmas.{same_found}
use Rattle.statement_steps.specs.Doing.{Behind, DoesParts, Walked, as_begun, moved}
use Rattle.statement_steps.specs.Settling.{question_in, question_of}
use Rattle.statement_steps.proofs.OneParts.{does_task}

-- A part that is so, whatever is chosen.
fixed_part : (begun : List DiskCounts) (w : World) (p : Part) (ends : Bool) (answer : Line) → (ends ≡ false → answer ≡ Normal) → ((c : Choice) → part_effect (as_begun begun w) p c ≡ record { lines = []; answer = answer; ends = ends; world = as_begun begun w }) →
    Allowed (as_begun begun w) p w.disks WithoutMemory → DoesParts begun (p ∷ []) w ends [] answer w
fixed_part begun w p ends answer on is may = record {
  walked = (WithoutMemory, may, subst (λ (e : PartEffect). Behind e (Walked w.disks []) ends [] answer (as_begun begun w)) (sym (is WithoutMemory)) (go ends on));
  counts = none_falls_same w.disks;
}
  where
    go : (b : Bool) → (b ≡ false → answer ≡ Normal) → Behind (record { lines = []; answer = answer; ends = b; world = as_begun begun w }) (Walked w.disks []) b [] answer (as_begun begun w)
    go true f = (refl, refl, refl, refl)
    go false f = (f refl, [], refl, (refl, refl, f refl, refl))

-- a question that nobody answers
unanswered : (begun : List DiskCounts) (w : World) (node : List ℕ) (serial : Id) → question w node serial ≡ Unanswered → DoesParts begun (Asks node serial ∷ []) w false [] Normal w
unanswered begun w node serial e = fixed_part begun w (Asks node serial) false Normal (λ f. refl) (λ c. ap (question_effect (as_begun begun w) c) e) (subst (AllowedOf (as_begun begun w) w.disks WithoutMemory) (sym e) tt)

-- A branch asks this.
pub record IsAsker (serial : Id) (n : Node) (q : Message) : Type 0 where
  pub branch : Branch
  pub among : find_serial serial n.volatile.branches ≡ Some branch
  pub prepared : is_prepared branch.state ≡ true
  pub asks : q ≡ up Inquire branch.key

pub asker : (serial : Id) (n : Node) (q : Message) → question_in serial n.volatile.branches ≡ Some q → IsAsker serial n q
asker serial n q e = by (find_serial serial n.volatile.branches) refl e
  where
    by : (o : Option Branch) → find_serial serial n.volatile.branches ≡ o → option_and_then question_of o ≡ Some q → IsAsker serial n q
    by None f k = let none : ⊥ = cc (k) in absurd none
    by (Some b) f k = go (is_prepared b.state) refl k
      where
        go : (t : Bool) → is_prepared b.state ≡ t → ◌≡◌ {A = Option Message} (if t then Some (up Inquire b.key) else None) (Some q) → IsAsker serial n q
        go true p x = record { branch = b; among = f; prepared = p; asks = sym (some_is (up Inquire b.key) q x) }
        go false p x = let none : ⊥ = cc (x) in absurd none

-- The question of a branch at a node that is there.
module _ (begun : List DiskCounts) (w : World) (node : List ℕ) (serial : Id) (n : Node) (found : find_node node w.nodes ≡ Some n) where
  same_asking : asking w node serial ≡ option_and_then (λ (b : Branch). if is_prepared b.state then Some b else None) (find_serial serial n.volatile.branches)
  same_asking = ap (option_and_then (in_doubt serial)) found ∙ ap (option_and_then (λ (b : Branch). if is_prepared b.state then Some b else None)) (same_found serial n.volatile.branches)

  question_by : (o : Option Branch) → option_and_then (λ (b : Branch). if is_prepared b.state then Some b else None) (find_serial serial n.volatile.branches) ≡ o → question w node serial ≡ elim o [ Some b ↦ asked w b.key | None ↦ Unanswered ]
  question_by o e = ap (λ (d : Option Branch). elim d [ Some b ↦ asked w b.key | None ↦ Unanswered ]) (same_asking ∙ e)

  -- No branch asks.
  pub asks_none : question_in serial n.volatile.branches ≡ None → DoesParts begun (Asks node serial ∷ []) w false [] Normal w
  asks_none e = unanswered begun w node serial (question_by None (by (find_serial serial n.volatile.branches) e))
    where
      by : (o : Option Branch) → option_and_then question_of o ≡ None → ◌≡◌ {A = Option Branch} (option_and_then (λ (b : Branch). if is_prepared b.state then Some b else None) o) None
      by None k = refl
      by (Some b) k = go (is_prepared b.state) k
        where
          go : (t : Bool) → ◌≡◌ {A = Option Message} (if t then Some (up Inquire b.key) else None) None → ◌≡◌ {A = Option Branch} (if t then Some b else None) None
          go true x = let none : ⊥ = cc (x) in absurd none
          go false x = refl

  asked_is : (q : Message) (a : IsAsker serial n q) → question w node serial ≡ asked w a.branch.key
  asked_is q a = question_by (Some a.branch) (ap (option_and_then (λ (b : Branch). if is_prepared b.state then Some b else None)) a.among ∙ ap (λ t. if t then Some a.branch else None) a.prepared)

  -- Its coordinator is not there.
  pub asks_nobody : (q : Message) → question_in serial n.volatile.branches ≡ Some q → find_node q.to w.nodes ≡ None → DoesParts begun (Asks node serial ∷ []) w true [] (line.InDoubt serial q.to) w
  asks_nobody q e none =
      let a = asker serial n q e in
      let k = a.branch.key in
      let nobody : find_node (coordinator_of k) w.nodes ≡ None = subst (λ (m : Message). find_node m.to w.nodes ≡ None) a.asks none in
      let doubt : question w node serial ≡ Doubtful k = asked_is q a ∙ ap (λ (o : Option Node). elim o [ Some c ↦ elim (answer_of c k) [ Some m ↦ Heard m | None ↦ Unanswered ] | None ↦ Doubtful k ]) nobody in
      let told : line.InDoubt k.serial (coordinator_of k) ≡ line.InDoubt serial q.to = (λ i. line.InDoubt (find_serial-serial serial n.volatile.branches a.branch a.among i) (ap (λ (m : Message). m.to) (sym a.asks) i)) in
      subst (λ answer. DoesParts begun (Asks node serial ∷ []) w true [] answer w) told
      (fixed_part begun w (Asks node serial) true (line.InDoubt k.serial (coordinator_of k)) (λ f. let no : ⊥ = cc (f) in absurd no) (λ c. ap (question_effect (as_begun begun w) c) doubt) (subst (AllowedOf (as_begun begun w) w.disks WithoutMemory) (sym doubt) tt))

  answered_by : (q : Message) (c : Node) (o : Option Message) → (a : IsAsker serial n q) → find_node q.to w.nodes ≡ Some c → answer_in (row (tm_of c) (Got q)) ≡ o → question w node serial ≡ elim o [ Some m ↦ Heard m | None ↦ Unanswered ]
  answered_by q c o a there answer =
      let k = a.branch.key in
      let here : find_node (coordinator_of k) w.nodes ≡ Some c = subst (λ (m : Message). find_node m.to w.nodes ≡ Some c) a.asks there in
      let says : answer_of c k ≡ o = subst (λ (m : Message). answer_in (row (tm_of c) (Got m)) ≡ o) a.asks answer in
      asked_is q a ∙ ap (λ (d : Option Node). elim d [ Some c ↦ elim (answer_of c k) [ Some m ↦ Heard m | None ↦ Unanswered ] | None ↦ Doubtful k ]) here
      ∙ ap (λ (d : Option Message). elim d [ Some m ↦ Heard m | None ↦ Unanswered ]) says

  -- It does not answer.
  pub asks_vainly : (q : Message) (c : Node) → question_in serial n.volatile.branches ≡ Some q → find_node q.to w.nodes ≡ Some c → answer_in (row (tm_of c) (Got q)) ≡ None → DoesParts begun (Asks node serial ∷ []) w false [] Normal w
  asks_vainly q c e there answer = unanswered begun w node serial (answered_by q c None (asker serial n q e) there answer)

  -- It answers this, which comes to a node that hears it,
  pub asks_hears : (q : Message) (c : Node) (m : Message) → question_in serial n.volatile.branches ≡ Some q → find_node q.to w.nodes ≡ Some c → answer_in (row (tm_of c) (Got q)) ≡ Some m →
      (x y : Node) (mid new : DiskCounts) (lines : List Line) (last : Line) (ends : Bool) (after : Shared) → NoneFalls begun w.disks → find_node m.to w.nodes ≡ Some x → disk_of m.to w.nodes w.disks ≡ Some mid →
      NodeStep w.shared x mid (Hears m) lines last ends y after new → DoesParts begun (Asks node serial ∷ []) w ends lines last (moved w m.to y new after)
  asks_hears q c m e there answer x y mid new lines last ends after falls here disk step =
      does_task begun w (Asks node serial) m.to (Hears m) x y mid new lines last ends after falls (ap asked_by (answered_by q c (Some m) (asker serial n q e) there answer)) (λ s n. refl) here disk (λ p. let no : ⊥ = cc (p) in absurd no) step

  -- or to none.
  pub asks_lost : (q : Message) (c : Node) (m : Message) → question_in serial n.volatile.branches ≡ Some q → find_node q.to w.nodes ≡ Some c → answer_in (row (tm_of c) (Got q)) ≡ Some m → find_node m.to w.nodes ≡ None →
      DoesParts begun (Asks node serial ∷ []) w true [] line.NoSuchNode w
  asks_lost q c m e there answer none =
      let heard : question w node serial ≡ Heard m = answered_by q c (Some m) (asker serial n q e) there answer in
      fixed_part begun w (Asks node serial) true line.NoSuchNode (λ f. let no : ⊥ = cc (f) in absurd no) (λ c. ap (question_effect (as_begun begun w) c) heard ∙ rw (none, done_at) refl)
      (subst (AllowedOf (as_begun begun w) w.disks WithoutMemory) (sym heard) (rw (none, AllowedAt) tt))
