-- An END_TRANS that is answered that replies are missing names just the resource managers that joined, and where one commits at once nothing had joined.
use Rattle.std.proofs.Common.{◌≡◌, Bool, true, false, ◌&&◌, List, [], ◌∷◌, ◌++◌, inl, inr, Option, Some, None, if◌then◌else◌, refl, sym, ◌∙◌, ap, subst}
use Rattle.std.proofs.lemmas.Bool.{and_parts}
use Rattle.vms_model.specs.Ids.{Id}
use Rattle.vms_model.specs.Transactions.{SyncFail}
use Rattle.world_laws.specs.transcript_model.Lines as line
use Rattle.world_laws.specs.transcript_model.Lines.{Line}
use Rattle.world_laws.specs.script_model.Statements.{At, EndTrans}
use Rattle.commit_protocol.specs.Messages as message
use Rattle.commit_protocol.specs.Messages.{Message, Name, RmEvent}
use Rattle.commit_protocol.specs.Table as table
use Rattle.commit_protocol.specs.Table.{Active, Branch, Child, Key as BranchKey, Manager, first}
use Rattle.commit_protocol.specs.Rows as rows
use Rattle.commit_protocol.specs.Rows.{all_replied, all_taken, all_voted, asks, begins_ending, commits_if_all, ending, is_noted, is_replied, joined, row, sends_all, serials, tells, to_each, which_event}
use Rattle.commit_protocol.specs.World.{In}
use Rattle.world_laws.specs.run_model.World.{find_node, tm_of}
use Rattle.world_laws.specs.run_model.Answers as answers
use Rattle.world_laws.specs.run_model.Answers.{branch_labelled, end_answer}
use Rattle.run_laws.specs.Causes.{HasJoined}
use Rattle.run_laws.proofs.Ending.{active_is, active_unprepared, done, end_lists, end_row, ends_commit, ends_waiting, named_branch, row_is, sends_answer, standing, tells_answer}
use Rattle.run_laws.proofs.Labelling.{label_of, served_up}
use Rattle.run_laws.proofs.Missing.{legal_joined}
use Rattle.run_laws.proofs.Noting.{IsUnvoted}
use Rattle.manager_laws.specs.Joining.{AtOnceHold, ManagerJoined, PendingJoinedHold}
use Rattle.manager_laws.proofs.Asking.{asked_names, joined_in}
use Rattle.manager_laws.proofs.JoinedOnly.{legal_only}
use Rattle.manager_laws.proofs.JoinedStay.{joined_stays}

pub pending_joined : PendingJoinedHold
pending_joined nodes disks es closing opening legal before node label events serials rms there =
    let s = standing nodes disks es before (At node (EndTrans label)) events (line.Pending serials rms) closing opening legal there in
    let d = done s.w s.v node (EndTrans label) events (line.Pending serials rms) refl refl refl refl (λ cause e. let no : ⊥ = cc in no) s.step in
    let r = ends_waiting before s.w s.v node label events (line.Pending serials rms) s.named d serials rms refl in
    let b = r.0 in
    let a = active_is b r.2 in
    let up = served_up d.n _ d.first in
    let l = label_of s.w.shared d.n label b r.1 in
    let lists = end_lists b serials rms r.5 in
    let names : rms ≡ joined b.managers = lists.1 ∙ asked_names (which_event b.changed b.accepted b.managers) b.managers in
    let same : b.key.serial ≡ b.key.tid = ap (λ (k : BranchKey). k.serial) a.0 in
    let home : b.key.tid.node ≡ node = ap (λ (x : Id). x.node) (sym same) ∙ (named_branch before s.w node label d.n b s.named d.found r.1 (active_unprepared b a.1)).home in (
      b.key.tid,
      r.3,
      λ rm i.
          let m = joined_in b.managers rm (subst (In rm) names i) in
          subst (λ x. ManagerJoined before b.key.tid x rm) same (subst (ManagerJoined before b.key.tid b.key.serial) m.2 ((legal_only nodes disks opening node before s.w s.legal d.n d.found).runs up b l.branch (active_unprepared b a.1) m.0 m.1)),
      λ rm j. subst (In rm) (sym names) (joined_stays nodes disks opening before s.w s.legal b.key.tid b.key.tid rm j d.n (subst (λ x. find_node x s.w.nodes ≡ Some d.n) (sym home) d.found) up b l.branch same (active_unprepared b a.1)),
    )

-- Where it commits at once, no vote is missing, and no reply.

at_once : (b : Branch) → end_answer (end_row b) line.Normal ≡ line.Normal → (all_voted b.accepted ≡ true) × (all_replied (ending b).managers ≡ true)
at_once b e = taken (all_taken b.bids b.accepted) e
  where
    waiting : Line
    waiting = line.Pending (answers.missing b.accepted) (answers.unreplied (ending b).managers)

    event : RmEvent
    event = which_event b.changed b.accepted b.managers

    sent : List Message
    sent = to_each message.Prepare b.key.tid (serials b.accepted)

    passes : end_answer (begins_ending b) line.Normal ≡ end_answer (commits_if_all (ending b) []) waiting
    passes = sends_answer sent (tells event b.key (joined b.managers) ++ commits_if_all (ending b) []) waiting ∙ tells_answer event b.key (joined b.managers) (commits_if_all (ending b) []) waiting

    all : (t u : Bool) → all_voted b.accepted ≡ t → all_replied (ending b).managers ≡ u → end_answer (if t && u then rows.commits (ending b) [] else []) waiting ≡ line.Normal → (all_voted b.accepted ≡ true) × (all_replied (ending b).managers ≡ true)
    all true true v r k = (v, r)
    all false u v r k = let no : ⊥ = cc in absurd no
    all true false v r k = let no : ⊥ = cc in absurd no

    taken : (t : Bool) → end_answer (if t then begins_ending b else rows.aborts SyncFail b) line.Normal ≡ line.Normal → (all_voted b.accepted ≡ true) × (all_replied (ending b).managers ≡ true)
    taken true k = all (all_voted b.accepted) (all_replied (ending b).managers) refl refl (sym passes ∙ k)
    taken false k = let no : ⊥ = cc in absurd no

-- so there is none
no_manager : (e : RmEvent) (ms : List Manager) (rm : Name) → all_replied (asks e ms) ≡ true → In rm (joined ms) → ⊥
no_manager e [] rm all i = i
no_manager e (m ∷ ms) rm all i = let no : ⊥ = cc in no

no_child : (cs : List Child) (c : Child) → ((x : Child) → In x cs → x.vote ≡ None) → all_voted cs ≡ true → In c cs → ⊥
no_child [] c none all i = i
no_child (x ∷ cs) c none all i = let no : false ≡ true = sym (ap is_noted (none x (inl refl))) ∙ (and_parts (is_noted x.vote) (all_voted cs) all).0 in let clash : ⊥ = cc in clash

pub at_once_hold : AtOnceHold
at_once_hold nodes disks es closing opening legal before node label events there =
    let s = standing nodes disks es before (At node (EndTrans label)) events line.Normal closing opening legal there in
    let d = done s.w s.v node (EndTrans label) events line.Normal refl refl refl refl (λ cause e. let no : ⊥ = cc in no) s.step in
    let x = ends_commit before s.w s.v node label events line.Normal s.named d refl in
    let b = x.b in
    let a = active_is b x.active in
    let up = served_up d.n _ d.first in
    let l = label_of s.w.shared d.n label b x.found in
    let row_so : row (tm_of d.n) (rows.EndTrans b.key.tid) ≡ end_row b = row_is d.n b l.finds x.active in
    let answer_so : line.Normal ≡ end_answer (end_row b) line.Normal =
    d.answers ∙ ap (λ (o : Option Branch). elim o as (λ y. Line) [ Some y ↦ end_answer (row (tm_of d.n) (rows.EndTrans y.key.tid)) line.Normal | None ↦ line.Normal ]) x.found ∙ ap (λ todo. end_answer todo line.Normal) row_so in
    let all = at_once b (sym answer_so) in
    let key : b.key ≡ first b.key.tid = a.0 in
    let same : b.key.serial ≡ b.key.tid = ap (λ (k : BranchKey). k.serial) key in
    let tid : x.tid ≡ b.key.tid = ap (λ (k : BranchKey). k.tid) (sym x.key) in
    let told = (legal_joined nodes disks before s.w opening s.legal).told node d.n d.found b l.branch (active_unprepared b a.1) key in (
      x.tid,
      x.begun,
      λ serial j. let c = told.has serial (subst (λ t. HasJoined before t serial) tid j) in no_child b.accepted c.0 (unvoted_active b a.1 told.unvoted) all.0 c.1,
      λ rm j. no_manager (which_event b.changed b.accepted b.managers) b.managers rm all.1
          (joined_stays nodes disks opening before s.w s.legal x.tid x.tid rm j d.n (subst (λ y. find_node y s.w.nodes ≡ Some d.n) (sym x.home) d.found) up b l.branch (same ∙ sym tid) (active_unprepared b a.1)),
    )
  where
    unvoted_active : (b : Branch) → b.state ≡ Active → IsUnvoted b → (c : Child) → In c b.accepted → c.vote ≡ None
    unvoted_active b active (inl ends) c i = let clash : Active ≡ table.Ending = sym active ∙ ends in let no : ⊥ = cc in absurd no
    unvoted_active b active (inr none) c i = none c i
