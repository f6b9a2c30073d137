-- What lines tell of the unprepared branches of each world: with how much time they began, which branches joined them, and that END_TRANS was called of one that ends.
use Rattle.std.proofs.Common.{◌≡◌, ℕ, ◌+◌, ◌*◌, ◌⊎◌, List, [], ◌∷◌, ◌++◌, inl, inr, true, false, Some, refl, sym, ◌∙◌, ap, subst}
use Rattle.vms_model.specs.Ids.{Id}
use Rattle.run_said.specs.transcript_model.Lines as line
use Rattle.run_said.specs.transcript_model.Lines.{Line}
use Rattle.run_said.specs.script_model.Statements.{At, StartTrans}
use Rattle.commit_protocol.specs.Messages.{Message}
use Rattle.commit_protocol.specs.Table.{Branch, Child, Ending, Key as BranchKey, is_first, same_key, first}
use Rattle.commit_protocol.specs.Allowed.{is_prepared}
use Rattle.commit_protocol.specs.Rows as rows
use Rattle.commit_protocol.specs.Rows.{Event, has_bid}
use Rattle.commit_protocol.specs.World.{In}
use Rattle.commit_protocol.proofs.Lists.{in_parts}
use Rattle.run_said.specs.run_model.World.{World, Shared, Node, find_node}
use Rattle.run_said.specs.run_model.Answers.{Task}
use Rattle.run_said.specs.run_model.Transcript.{Entry}
use Rattle.run_laws.specs.Causes.{HasJoined, WasEnded, clock_told}
use Rattle.run_laws.specs.SaidLaws.{SaidThere}
use Rattle.run_laws.proofs.Contents.{From, IsTold, TaskAccepts, TaskNotes, bare}
use Rattle.run_laws.proofs.Named.{said_later}
use Rattle.run_laws.proofs.Noting.{IsAskedBy, Stays, stays_like, stays_on}
use Rattle.run_laws.proofs.Preparing.{is_leading}

-- a transaction began with so many seconds that its time is over then
abbrev pub WasGiven : List Entry → Id → ℕ → Type 0
WasGiven es tid due = (before : List Entry) × (label : List ℕ) × (seconds : ℕ) × SaidThere es before (At tid.node (StartTrans label (Some seconds))) [] (line.NormalId tid) × (clock_told tid.node before + 100 * seconds ≡ due)

-- a message by which a branch is brought into a transaction, or to its vote, is of none that is a first one
abbrev pub IsApart : Message → Type 0
IsApart m = is_leading m.kind ≡ true → m.serial ≡ m.tid → ⊥

pub record BranchTold (es : List Entry) (b : Branch) : Type 0 where
  pub given : is_first b ≡ true → (due : ℕ) → b.due ≡ Some due → WasGiven es b.key.tid due
  pub joined : (c : Child) → In c b.accepted → HasJoined es b.key.tid c.serial
  -- a first branch has not joined its transaction, and is not asked
  pub apart : (c : Child) → In c b.accepted → c.serial ≡ b.key.tid → ⊥
  pub unasked : b.asked ≡ true → b.key.serial ≡ b.key.tid → ⊥

pub record AreTold (es : List Entry) (w : World) : Type 0 where
  pub told : (node : List ℕ) (n : Node) → find_node node w.nodes ≡ Some n → (b : Branch) → In b n.volatile.branches → is_prepared b.state ≡ false → BranchTold es b
  pub ended : (node : List ℕ) (n : Node) → find_node node w.nodes ≡ Some n → n.up ≡ true → (b : Branch) → In b n.volatile.branches → is_prepared b.state ≡ false → b.state ≡ Ending → WasEnded es b.key.tid
  pub clocks : (node : List ℕ) (n : Node) → find_node node w.nodes ≡ Some n → n.clock ≡ clock_told node es

-- Later entries.

given_later : (e : Entry) (es : List Entry) (tid : Id) (due : ℕ) → WasGiven es tid due → WasGiven (e ∷ es) tid due
given_later e es tid due g = (g.0, g.1, g.2, said_later e es g.0 (At tid.node (StartTrans g.1 (Some g.2))) [] (line.NormalId tid) g.3, g.4)

joined_later : (e : Entry) (es : List Entry) (tid serial : Id) → HasJoined es tid serial → HasJoined (e ∷ es) tid serial
joined_later e es tid serial j = (j.0, inr j.1, j.2)

pub ended_later : (e : Entry) (es : List Entry) (tid : Id) → WasEnded es tid → WasEnded (e ∷ es) tid
ended_later e es tid w = (w.0, w.1, w.2, w.3, w.4, said_later e es w.0 _ w.2 (line.Pending w.3 w.4) w.5, w.6)

-- A branch comes of another: it has its key and its time, no more branches have joined it and none less, no more may, it ends only where that does, and no more votes are noted of it unless it does.
pub record IsHeir (b x : Branch) : Type 0 where
  pub key : x.key ≡ b.key
  pub due : x.due ≡ b.due
  pub accepted : (c : Child) → In c x.accepted → (d : Child) × In d b.accepted × (d.serial ≡ c.serial)
  pub ends : x.state ≡ Ending → b.state ≡ Ending
  pub asked : x.asked ≡ true → b.asked ≡ true
  pub taken : (bid : Id) → has_bid bid b.accepted ≡ true → has_bid bid x.accepted ≡ true
  pub given : (bid : Id) → has_bid bid x.accepted ≡ true → has_bid bid b.accepted ≡ true
  pub bids : (bid : Id) → In bid x.bids → In bid b.bids
  pub kept : (bid : Id) → In bid b.bids → In bid x.bids
  pub stays : Stays b x

pub heir_of_bare : (b x : Branch) → bare x ≡ bare b → IsHeir b x
heir_of_bare b x same = record {
  key = ap (λ (y : Branch). y.key) same;
  due = ap (λ (y : Branch). y.due) same;
  accepted = λ c i. (c, subst (In c) (ap (λ (y : Branch). y.accepted) same) i, refl);
  ends = λ e. ap (λ (y : Branch). y.state) (sym same) ∙ e;
  asked = λ e. ap (λ (y : Branch). y.asked) (sym same) ∙ e;
  taken = λ bid t. ap (λ (y : Branch). has_bid bid y.accepted) same ∙ t;
  given = λ bid t. ap (λ (y : Branch). has_bid bid y.accepted) (sym same) ∙ t;
  bids = λ bid i. subst (In bid) (ap (λ (y : Branch). y.bids) same) i;
  kept = λ bid i. subst (In bid) (ap (λ (y : Branch). y.bids) (sym same)) i;
  stays = stays_like b x (ap (λ (y : Branch). y.accepted) same) (λ e. ap (λ (y : Branch). y.state) same ∙ e);
}

pub heir_on : (b y x : Branch) → IsHeir b y → IsHeir y x → IsHeir b x
heir_on b y x f g = record {
  key = g.key ∙ f.key;
  due = g.due ∙ f.due;
  accepted = λ c i. let d = g.accepted c i in let a = f.accepted d.0 d.1 in (a.0, a.1, a.2 ∙ d.2);
  ends = λ e. f.ends (g.ends e);
  asked = λ e. f.asked (g.asked e);
  taken = λ bid t. g.taken bid (f.taken bid t);
  given = λ bid t. f.given bid (g.given bid t);
  bids = λ bid i. f.bids bid (g.bids bid i);
  kept = λ bid i. g.kept bid (f.kept bid i);
  stays = stays_on b y x f.stays g.stays;
}

first_same : (b x : Branch) → x.key ≡ b.key → is_first x ≡ is_first b
first_same b x same = ap (λ (k : BranchKey). same_key k (first k.tid)) same

alike_told : (e : Entry) (es : List Entry) (b x : Branch) → x.key ≡ b.key → x.due ≡ b.due → ((c : Child) → In c x.accepted → (d : Child) × In d b.accepted × (d.serial ≡ c.serial)) → (x.asked ≡ true → x.key.serial ≡ x.key.tid → ⊥) → BranchTold es b → BranchTold (e ∷ es) x
alike_told e es b x key due accepted unasked t = record {
  given = λ f time is. subst (λ (k : BranchKey). WasGiven (e ∷ es) k.tid time) (sym key) (given_later e es b.key.tid time (t.given (sym (first_same b x key) ∙ f) time (sym due ∙ is)));
  joined = λ c i. let d = accepted c i in subst (λ (k : BranchKey). HasJoined (e ∷ es) k.tid c.serial) (sym key) (subst (HasJoined (e ∷ es) b.key.tid) d.2 (joined_later e es b.key.tid d.0.serial (t.joined d.0 d.1)));
  apart = λ c i same. let d = accepted c i in t.apart d.0 d.1 (d.2 ∙ same ∙ ap (λ (k : BranchKey). k.tid) key);
  unasked = unasked;
}

pub heir_told : (e : Entry) (es : List Entry) (b x : Branch) → IsHeir b x → BranchTold es b → BranchTold (e ∷ es) x
heir_told e es b x h t = alike_told e es b x h.key h.due h.accepted (λ a same. t.unasked (h.asked a) (ap (λ (k : BranchKey). k.serial) (sym h.key) ∙ same ∙ ap (λ (k : BranchKey). k.tid) h.key)) t

-- Of a task.

-- what a branch that a task leaves is told
pub from_told : (e : Entry) (es : List Entry) (s : Shared) (n : Node) (t : Task) (ls : List Line) (x : Branch) → ((l : Line) → In l ls → In l e.lines) → ((b : Branch) → In b n.volatile.branches → is_prepared b.state ≡ false → BranchTold es b) → ((m : Message) → IsTold s n t (rows.Got m) → IsApart m) → is_prepared x.state ≡ false →
    From (TaskNotes s n t) (TaskAccepts s n t) ls n.volatile.branches x → BranchTold (e ∷ es) x
from_told e es s n t ls x f told leads u (y, same, inl old) = heir_told e es y x (heir_of_bare y x same) (told y old (ap (λ (b : Branch). is_prepared b.state) (sym same) ∙ u))
from_told e es s n t ls x f told leads u (y, same, inr (inl (ev, is, (b, i, open_b, d)))) =
    alike_told e es b x (ap (λ (z : Branch). z.key) same ∙ d.key) (ap (λ (z : Branch). z.due) same ∙ d.due) (λ c j. d.accepted c (subst (In c) (ap (λ (z : Branch). z.accepted) same) j))
    (λ a first_one. by (d.asked (ap (λ (z : Branch). z.asked) (sym same) ∙ a)) (ap (λ (k : BranchKey). k.serial) (sym (ap (λ (z : Branch). z.key) same ∙ d.key)) ∙ first_one ∙ ap (λ (k : BranchKey). k.tid) (ap (λ (z : Branch). z.key) same ∙ d.key))) (told b i open_b)
  where
    asked_by : (v : Event) → IsTold s n t v → IsAskedBy v b → b.key.serial ≡ b.key.tid → ⊥
    asked_by (rows.Got m) told_so a same = leads m told_so (ap is_leading a.0) (ap (λ (k : BranchKey). k.serial) a.1 ∙ same ∙ ap (λ (k : BranchKey). k.tid) (sym a.1))
    asked_by _ told_so a same = a

    by : (b.asked ≡ true) ⊎ IsAskedBy ev b → b.key.serial ≡ b.key.tid → ⊥
    by (inl was) same = (told b i open_b).unasked was same
    by (inr a) same = asked_by ev is a same
from_told e es s n t ls x f told leads u (y, same, inr (inr (b, c, (ev, is, a), shown, put))) =
    let t_b = told b a.0 a.1 in
    let same_b : bare x ≡ bare (record b { accepted = b.accepted ++ c ∷ [] }) = same ∙ ap bare put in
    let key : x.key ≡ b.key = ap (λ (z : Branch). z.key) same_b in
    record {
      given = λ q due has. subst (λ (k : BranchKey). WasGiven (e ∷ es) k.tid due) (sym key) (given_later e es b.key.tid due (t_b.given (sym (first_same b x key) ∙ q) due (sym (ap (λ (z : Branch). z.due) same_b) ∙ has)));
      joined = λ d i. subst (λ (k : BranchKey). HasJoined (e ∷ es) k.tid d.serial) (sym key) (elim (in_parts d b.accepted (c ∷ []) (subst (In d) (ap (λ (z : Branch). z.accepted) same_b) i)) [
        | inl old ↦ joined_later e es b.key.tid d.serial (t_b.joined d old)
        | inr new ↦ (e, inl refl, f (line.Joined b.key.tid d.serial) (subst (λ (z : Child). In (line.Joined b.key.tid z.serial) ls) (sym (only new)) shown))
      ]);
      apart = λ d i first_one. elim (in_parts d b.accepted (c ∷ []) (subst (In d) (ap (λ (z : Branch). z.accepted) same_b) i)) [
        | inl old ↦ t_b.apart d old (first_one ∙ ap (λ (k : BranchKey). k.tid) key)
        | inr new ↦ leads a.2 (subst (IsTold s n t) a.3 is) (ap is_leading a.7) (sym a.5 ∙ ap (λ (z : Child). z.serial) (sym (only new)) ∙ first_one ∙ ap (λ (k : BranchKey). k.tid) (key ∙ a.4))
      ];
      unasked = λ q first_one. t_b.unasked (ap (λ (z : Branch). z.asked) (sym same_b) ∙ q) (ap (λ (k : BranchKey). k.serial) (sym key) ∙ first_one ∙ ap (λ (k : BranchKey). k.tid) key);
    }
  where
    only : {d : Child} → In d (c ∷ []) → d ≡ c
    only (inl same) = same
    only (inr none) = absurd none

-- It ends only where it did before, or where the task is an END_TRANS of its transaction.
pub from_ending : (s : Shared) (n : Node) (t : Task) (ls : List Line) (x : Branch) → is_prepared x.state ≡ false → x.state ≡ Ending → From (TaskNotes s n t) (TaskAccepts s n t) ls n.volatile.branches x →
    ((b : Branch) × In b n.volatile.branches × (is_prepared b.state ≡ false) × (b.state ≡ Ending) × (x.key ≡ b.key)) ⊎ ((ev : Event) × IsTold s n t ev × (ev ≡ rows.EndTrans x.key.tid) × (x.key ≡ first x.key.tid))
from_ending s n t ls x u e (y, same, inl old) = inl (y, old, ap (λ (b : Branch). is_prepared b.state) (sym same) ∙ u, ap (λ (b : Branch). b.state) (sym same) ∙ e, ap (λ (b : Branch). b.key) same)
from_ending s n t ls x u e (y, same, inr (inl (ev, is, (b, i, open_b, d)))) =
    let key : x.key ≡ b.key = ap (λ (z : Branch). z.key) same ∙ d.key in
    elim (d.ends (ap (λ (z : Branch). z.state) (sym same) ∙ e)) [
      | inl ends ↦ inl (b, i, open_b, ends, key)
      | inr by ↦ inr (ev, is, by.0 ∙ ap (λ (k : BranchKey). rows.EndTrans k.tid) (sym key), key ∙ by.1 ∙ ap (λ (k : BranchKey). first k.tid) (sym key))
    ]
from_ending s n t ls x u e (y, same, inr (inr (b, c, (ev, is, a), shown, put))) =
    let same_b : bare x ≡ bare (record b { accepted = b.accepted ++ c ∷ [] }) = same ∙ ap bare put in
    inl (b, a.0, a.1, ap (λ (z : Branch). z.state) (sym same_b) ∙ e, ap (λ (z : Branch). z.key) same_b)
