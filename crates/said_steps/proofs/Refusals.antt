-- What was said of a node refuses a statement to it.
use Rattle.std.specs.Prelude.{not, nat_le}
use Rattle.std.proofs.Common.{◌≡◌, ℕ, List, Bool, true, false, Option, Some, None, if◌then◌else◌, length, refl, ◌∙◌, ap, subst}
use Rattle.std.specs.Str.{bytes_eq}
use Rattle.vms_model.specs.Limits.{label_limit}
use Rattle.run_said.specs.transcript_model.Lines as line
use Rattle.run_said.specs.transcript_model.Lines.{Line}
use Rattle.run_said.specs.script_model.Statements.{AbortTrans, AckEvent, AddBranch, At, Boot, ByLabel, BySerial, Clock, Deliver, EndBranch, EndTrans, Fuse, GetDti, Init, Inquire, JoinRm, LinkDown, Named, Records, Request, Settle, StartBranch, StartTrans, Statement}
use Rattle.commit_protocol.specs.Messages.{Message}
use Rattle.run_said.specs.run_model.Operations.{first_of, refused_if}
use Rattle.run_said.specs.run_model.Statements.{message_at}
use Rattle.run_said.specs.Said.{Said, SaidLabel, SaidNode, SaidShared, at_said, down_said, find_said, is_of_lines, made_said, named_said, new_said, node_in, other_said, refused_by_lines, refused_by_said, there_said}

pub request_said_at : (said : Said) (name : List ℕ) (request : Request) (n : SaidNode) → node_in name said.nodes ≡ Some n → other_said said request ≡ None → refused_by_said said (At name request) ≡ refused_by_lines said.shared n request
request_said_at said name request n found other = ap (λ (o : Option SaidNode). elim o [ Some x ↦ first_of (other_said said request) (refused_by_lines said.shared x request) | None ↦ Some line.NoSuchNode ]) found ∙ ap (λ o. first_of o (refused_by_lines said.shared n request)) other

pub request_said_missing : (said : Said) (name : List ℕ) (request : Request) → node_in name said.nodes ≡ None → refused_by_said said (At name request) ≡ Some line.NoSuchNode
request_said_missing said name request none = ap (λ (o : Option SaidNode). elim o [ Some x ↦ first_of (other_said said request) (refused_by_lines said.shared x request) | None ↦ Some line.NoSuchNode ]) none

pub request_said_alone : (said : Said) (name : List ℕ) (request : Request) (n : SaidNode) (refusal : Line) → node_in name said.nodes ≡ Some n → other_said said request ≡ Some refusal → refused_by_said said (At name request) ≡ Some refusal
request_said_alone said name request n refusal found other = ap (λ (o : Option SaidNode). elim o [ Some x ↦ first_of (other_said said request) (refused_by_lines said.shared x request) | None ↦ Some line.NoSuchNode ]) found ∙ ap (λ o. first_of o (refused_by_lines said.shared n request)) other

pub delivery_said_at : (said : Said) (number : ℕ) (m : Message) (n : SaidNode) → message_at number said.shared.wire ≡ Some m → node_in m.to said.nodes ≡ Some n → refused_by_said said (Deliver number) ≡ down_said n
delivery_said_at said number m n e found = ap (λ (o : Option Message). elim o [ Some x ↦ at_said said x.to down_said | None ↦ Some line.NoSuchMessage ]) e ∙ ap (λ (o : Option SaidNode). elim o [ Some x ↦ down_said x | None ↦ Some line.NoSuchNode ]) found

pub delivery_said_lost : (said : Said) (number : ℕ) (m : Message) → message_at number said.shared.wire ≡ Some m → node_in m.to said.nodes ≡ None → refused_by_said said (Deliver number) ≡ Some line.NoSuchNode
delivery_said_lost said number m e none = ap (λ (o : Option Message). elim o [ Some x ↦ at_said said x.to down_said | None ↦ Some line.NoSuchMessage ]) e ∙ ap (λ (o : Option SaidNode). elim o [ Some x ↦ down_said x | None ↦ Some line.NoSuchNode ]) none

pub delivery_said_missing : (said : Said) (number : ℕ) → message_at number said.shared.wire ≡ None → refused_by_said said (Deliver number) ≡ Some line.NoSuchMessage
delivery_said_missing said number none = ap (λ (o : Option Message). elim o [ Some x ↦ at_said said x.to down_said | None ↦ Some line.NoSuchMessage ]) none

pub there_said_at : (said : Said) (name : List ℕ) (n : SaidNode) → node_in name said.nodes ≡ Some n → there_said said name ≡ None
there_said_at said name n found = ap (λ (o : Option SaidNode). elim o [ Some x ↦ None | None ↦ Some line.NoSuchNode ]) found

pub there_said_missing : (said : Said) (name : List ℕ) → node_in name said.nodes ≡ None → there_said said name ≡ Some line.NoSuchNode
there_said_missing said name none = ap (λ (o : Option SaidNode). elim o [ Some x ↦ None | None ↦ Some line.NoSuchNode ]) none

pub link_said_at : (said : Said) (a b : List ℕ) (n m : SaidNode) → node_in a said.nodes ≡ Some n → node_in b said.nodes ≡ Some m → refused_by_said said (LinkDown a b) ≡ None
link_said_at said a b n m found there = (λ i. first_of (there_said_at said a n found i) (there_said_at said b m there i))

pub link_said_first : (said : Said) (a b : List ℕ) → node_in a said.nodes ≡ None → refused_by_said said (LinkDown a b) ≡ Some line.NoSuchNode
link_said_first said a b none = ap (λ o. first_of o (there_said said b)) (there_said_missing said a none)

pub link_said_second : (said : Said) (a b : List ℕ) (n : SaidNode) → node_in a said.nodes ≡ Some n → node_in b said.nodes ≡ None → refused_by_said said (LinkDown a b) ≡ Some line.NoSuchNode
link_said_second said a b n found none = (λ i. first_of (there_said_at said a n found i) (there_said_missing said b none i))

-- What refuses a statement so is one of these refusals.

refusal_if : (b : Bool) (x l : Line) → is_of_lines x ≡ true → refused_if b x ≡ Some l → is_of_lines l ≡ true
refusal_if true x l is e = let same : x ≡ l = cc in subst (λ y. is_of_lines y ≡ true) same is
refusal_if false x l is e = let none : ⊥ = cc in absurd none

abbrev OfLines : Option Line → Type 0
OfLines o = (l : Line) → o ≡ Some l → is_of_lines l ≡ true

of_first : (a b : Option Line) → OfLines a → OfLines b → OfLines (first_of a b)
of_first (Some x) b h k l e = h l e
of_first None b h k l e = k l e

of_none : OfLines None
of_none l e = let none : ⊥ = cc in absurd none

pub refusal_down : (n : SaidNode) → OfLines (down_said n)
refusal_down n l e = refusal_if (not n.up) line.NodeDown l refl e

of_new : (ls : List SaidLabel) (name : List ℕ) → OfLines (new_said ls name)
of_new ls name l e = go (find_said name ls) e
  where
    go : (o : Option SaidLabel) → ◌≡◌ {A = Option Line} (elim o [ Some x ↦ Some line.BadLabel | None ↦ refused_if (nat_le label_limit (length ls)) line.BadLabel ]) (Some l) → is_of_lines l ≡ true
    go (Some x) f = refusal_if true line.BadLabel l refl f
    go None f = refusal_if (nat_le label_limit (length ls)) line.BadLabel l refl f

of_made : (ls : List SaidLabel) (node name : List ℕ) → OfLines (made_said ls node name)
of_made ls node name l e = go (find_said name ls) e
  where
    by : (b : Bool) → ◌≡◌ {A = Option Line} (if b then None else Some line.BadLabel) (Some l) → is_of_lines l ≡ true
    by true f = of_none l f
    by false f = refusal_if true line.BadLabel l refl f

    go : (o : Option SaidLabel) → ◌≡◌ {A = Option Line} (elim o [ Some x ↦ (if bytes_eq node x.node then None else Some line.BadLabel) | None ↦ Some line.BadLabel ]) (Some l) → is_of_lines l ≡ true
    go (Some x) f = by (bytes_eq node x.node) f
    go None f = refusal_if true line.BadLabel l refl f

of_named : (ls : List SaidLabel) (node : List ℕ) (who : Named) → OfLines (named_said ls node who)
of_named ls node (ByLabel label) l e = of_made ls node label l e
of_named ls node (BySerial serial) l e = of_none l e

pub refusal_of_lines : (s : SaidShared) (n : SaidNode) (request : Request) → OfLines (refused_by_lines s n request)
refusal_of_lines s n (Init slots journal) = λ l e. refusal_if s.in_use line.VolumeInUse l refl e
refusal_of_lines s n Boot = of_first (refused_if n.up line.NodeUp) (refused_if n.unmade line.NotInitialized) (λ l e. refusal_if n.up line.NodeUp l refl e) (λ l e. refusal_if n.unmade line.NotInitialized l refl e)
refusal_of_lines s n (StartTrans label seconds) = of_first (down_said n) (new_said s.labels label) (refusal_down n) (of_new s.labels label)
refusal_of_lines s n (AddBranch label other new) = of_first (down_said n) (first_of (made_said s.labels n.name label) (new_said s.labels new)) (refusal_down n) (of_first (made_said s.labels n.name label) (new_said s.labels new) (of_made s.labels n.name label) (of_new s.labels new))
refusal_of_lines s n (StartBranch label) = of_first (down_said n) (made_said s.labels n.name label) (refusal_down n) (of_made s.labels n.name label)
refusal_of_lines s n (Records label file op) = of_first (down_said n) (made_said s.labels n.name label) (refusal_down n) (of_made s.labels n.name label)
refusal_of_lines s n (EndBranch label) = of_first (down_said n) (made_said s.labels n.name label) (refusal_down n) (of_made s.labels n.name label)
refusal_of_lines s n (EndTrans label) = of_first (down_said n) (made_said s.labels n.name label) (refusal_down n) (of_made s.labels n.name label)
refusal_of_lines s n (AbortTrans label) = of_first (down_said n) (made_said s.labels n.name label) (refusal_down n) (of_made s.labels n.name label)
refusal_of_lines s n (Inquire who) = of_first (down_said n) (named_said s.labels n.name who) (refusal_down n) (of_named s.labels n.name who)
refusal_of_lines s n (JoinRm label rm) = of_first (down_said n) (made_said s.labels n.name label) (refusal_down n) (of_made s.labels n.name label)
refusal_of_lines s n (AckEvent who rm reply) = of_first (down_said n) (named_said s.labels n.name who) (refusal_down n) (of_named s.labels n.name who)
refusal_of_lines s n (GetDti who) = of_first (down_said n) (named_said s.labels n.name who) (refusal_down n) (of_named s.labels n.name who)
refusal_of_lines s n (Fuse writes choice) = of_none
refusal_of_lines s n (Clock now) = of_none
refusal_of_lines s n _ = refusal_down n

there_of_lines : (said : Said) (node : List ℕ) → OfLines (there_said said node)
there_of_lines said node l e = go (node_in node said.nodes) e
  where
    go : (o : Option SaidNode) → ◌≡◌ {A = Option Line} (elim o [ Some n ↦ None | None ↦ Some line.NoSuchNode ]) (Some l) → is_of_lines l ≡ true
    go (Some n) f = of_none l f
    go None f = refusal_if true line.NoSuchNode l refl f

at_of_lines : (said : Said) (node : List ℕ) (says : SaidNode → Option Line) → ((n : SaidNode) → OfLines (says n)) → OfLines (at_said said node says)
at_of_lines said node says h l e = go (node_in node said.nodes) e
  where
    go : (o : Option SaidNode) → ◌≡◌ {A = Option Line} (elim o [ Some n ↦ says n | None ↦ Some line.NoSuchNode ]) (Some l) → is_of_lines l ≡ true
    go (Some n) f = h n l f
    go None f = refusal_if true line.NoSuchNode l refl f

other_of_lines : (said : Said) (request : Request) → OfLines (other_said said request)
other_of_lines said (AddBranch label other new) = there_of_lines said other
other_of_lines said _ = of_none

pub statement_of_lines : (said : Said) (s : Statement) → OfLines (refused_by_said said s)
statement_of_lines said (At node request) = at_of_lines said node (λ n. first_of (other_said said request) (refused_by_lines said.shared n request))
    (λ n. of_first (other_said said request) (refused_by_lines said.shared n request) (other_of_lines said request) (refusal_of_lines said.shared n request))
statement_of_lines said (Deliver number) = λ l e. go l (message_at number said.shared.wire) e
  where
    go : (l : Line) (o : Option Message) → ◌≡◌ {A = Option Line} (elim o [ Some m ↦ at_said said m.to down_said | None ↦ Some line.NoSuchMessage ]) (Some l) → is_of_lines l ≡ true
    go l (Some m) f = at_of_lines said m.to down_said refusal_down l f
    go l None f = refusal_if true line.NoSuchMessage l refl f
statement_of_lines said (LinkDown a b) = of_first (there_said said a) (there_said said b) (there_of_lines said a) (there_of_lines said b)
statement_of_lines said Settle = of_none
