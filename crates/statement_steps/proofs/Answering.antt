-- The next branch of a node asks, in a world within a settling in which all nodes are up.
use Rattle.std.specs.Prelude.{slice_get}
use Rattle.std.proofs.Common.{◌≡◌, ℕ, ◌+◌, List, [], ◌∷◌, ◌++◌, length, Bool, true, false, Some, None, refl, sym, ◌∙◌, subst, append-nil}
use Rattle.vms_model.specs.Ids.{Id}
use Rattle.world_laws.specs.transcript_model.Lines.{InDoubt, Line, Normal}
use Rattle.commit_protocol.specs.Messages.{Message}
use Rattle.commit_protocol.specs.Rows.{Got, row}
use Rattle.world_laws.specs.run_model.World.{DiskCounts, Node, Shared, World, disk_of, find_node, tm_of}
use Rattle.world_laws.specs.run_model.Answers.{Hears}
use Rattle.world_laws.specs.run_model.Steps.{NodeStep}
use Rattle.world_laws.specs.run_model.Statements.{Asks, answer_in}
use Rattle.statement_steps.specs.Doing.{DoesParts, IsWithin, moved}
use Rattle.statement_steps.specs.Settling.{AreUp, Asking, asks, doubts_of, question_in}
use Rattle.statement_steps.proofs.Asking.{answer_comes, answer_leaves, asking_ended, asking_leaves, asking_stays}
use Rattle.statement_steps.proofs.Keeping.{kept_at}
use Rattle.statement_steps.proofs.OneParts.{step_on}
use Rattle.statement_steps.proofs.Places.{disk_at, find_at}
use Rattle.statement_steps.proofs.Questions.{asks_hears, asks_nobody, asks_none, asks_vainly}
use Rattle.statement_steps.proofs.Rising.{up_at}

module _ (begun : List DiskCounts) (node : List ℕ) (serials : List Id) (w : World) (unanswered : ℕ) (lines : List Line) (v : World) (place : ℕ) (n : Node) (serial : Id)
    (h : Asking begun node serials w unanswered (doubts_of n) lines v) (named : n.name ≡ node) (within : IsWithin begun v) (up : AreUp v.nodes) (here : slice_get v.nodes place ≡ Some n)
    (next : slice_get (doubts_of n) unanswered ≡ Some serial) where
  found_here : find_node node v.nodes ≡ Some n
  found_here = subst (λ x. find_node x v.nodes ≡ Some n) named (find_at v.nodes place n within.apart here)

  -- It gets no answer: it asks nobody,
  stays : DoesParts begun (Asks node serial ∷ []) v false [] Normal v → Asking begun node serials w (unanswered + 1) (doubts_of n) lines v
  stays does = subst (λ ls. Asking begun node serials w (unanswered + 1) (doubts_of n) ls v) (append-nil lines) (asking_stays begun node serials w unanswered (doubts_of n) lines v h serial [] v next does)

  pub next_none : question_in serial n.volatile.branches ≡ None → Asking begun node serials w (unanswered + 1) (doubts_of n) lines v
  next_none e = stays (asks_none begun v node serial n found_here e)

  -- or one that does not answer.
  pub next_vain : (q : Message) (c : Node) → question_in serial n.volatile.branches ≡ Some q → find_node q.to v.nodes ≡ Some c → answer_in (row (tm_of c) (Got q)) ≡ None → Asking begun node serials w (unanswered + 1) (doubts_of n) lines v
  next_vain q c e there answer = stays (asks_vainly begun v node serial n found_here q c e there answer)

  -- Its coordinator is not there: the settling ends.
  pub next_nobody : (q : Message) → question_in serial n.volatile.branches ≡ Some q → find_node q.to v.nodes ≡ None → DoesParts begun (asks node serials) w true lines (InDoubt serial q.to) v
  next_nobody q e none =
      subst (λ ls. DoesParts begun (asks node serials) w true ls (InDoubt serial q.to) v) (append-nil lines)
      (asking_ended begun node serials w unanswered (doubts_of n) lines v h serial [] (InDoubt serial q.to) v next (asks_nobody begun v node serial n found_here q e none))

  -- Its coordinator answers, and the answer comes to its own node.
  module _ (q : Message) (c : Node) (m : Message) (e : question_in serial n.volatile.branches ≡ Some q) (there : find_node q.to v.nodes ≡ Some c) (answer : answer_in (row (tm_of c) (Got q)) ≡ Some m) where
    pub comes_home : m.to ≡ node
    comes_home = answer_comes v.shared n c serial q m (kept_at v.shared v.nodes place n within.kept here) (up_at v.nodes place n up here) e answer ∙ named

    heard : (y : Node) (mid new : DiskCounts) (more : List Line) (last : Line) (ends : Bool) (after : Shared) → slice_get v.disks place ≡ Some mid → NodeStep v.shared n mid (Hears m) more last ends y after new → DoesParts begun (Asks node serial ∷ []) v ends more last (moved v n.name y new after)
    heard y mid new more last ends after disk step =
        subst (λ x. DoesParts begun (Asks node serial ∷ []) v ends more last (moved v x y new after)) (comes_home ∙ sym named)
        (asks_hears begun v node serial n found_here q c m e there answer n y mid new more last ends after within.falls (subst (λ x. find_node x v.nodes ≡ Some n) (sym comes_home) found_here)
        (subst (λ x. disk_of x v.nodes v.disks ≡ Some mid) (named ∙ sym comes_home) (disk_at v.nodes v.disks place n mid within.apart here disk)) step)

    -- Once it is heard the branch is in doubt no more, and the settling goes on;
    pub next_hears : (y : Node) (mid new : DiskCounts) (more : List Line) (last : Line) (after : Shared) → slice_get v.disks place ≡ Some mid → NodeStep v.shared n mid (Hears m) more last false y after new →
        Asking begun node serials w unanswered (doubts_of y) (lines ++ more) (moved v n.name y new after) × (slice_get (doubts_of y) unanswered ≡ Some serial → ⊥) × (length (doubts_of n) ≡ length (doubts_of y) + 1)
    next_hears y mid new more last after disk step =
        asking_leaves begun node serials w unanswered (doubts_of n) lines v h serial (doubts_of y) more (moved v n.name y new after) next
        (answer_leaves v.shared n c serial q m (kept_at v.shared v.nodes place n within.kept here) (up_at v.nodes place n up here) e answer mid new more last y after step)
        (subst (λ a. DoesParts begun (Asks node serial ∷ []) v false more a (moved v n.name y new after)) (step_on v.shared n mid (Hears m) more last false y after new (λ s x. refl) step refl) (heard y mid new more last false after disk step))

    -- or it ends with that.
    pub next_ended : (y : Node) (mid new : DiskCounts) (more : List Line) (last : Line) (after : Shared) → slice_get v.disks place ≡ Some mid → NodeStep v.shared n mid (Hears m) more last true y after new → DoesParts begun (asks node serials) w true (lines ++ more) last (moved v n.name y new after)
    next_ended y mid new more last after disk step =
        asking_ended begun node serials w unanswered (doubts_of n) lines v h serial more last (moved v n.name y new after) next (heard y mid new more last true after disk step)
