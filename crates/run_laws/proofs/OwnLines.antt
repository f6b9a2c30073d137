-- The settlements that a task shows are of branches of its node.
use Rattle.std.proofs.Common.{◌≡◌, ℕ, List, [], ◌∷◌, inl, inr, Bool, false, Option, Some, None, refl, sym, ◌∙◌, ap, subst}
use Rattle.vms_model.specs.Transactions.{Outcome, Commit, Abort, Reason, SegFail}
use Rattle.run_said.specs.transcript_model.Lines as line
use Rattle.run_said.specs.transcript_model.Lines.{Line, Cause}
use Rattle.commit_protocol.specs.Table as table
use Rattle.commit_protocol.specs.Table.{Branch, Key as BranchKey, Settles, Undoes}
use Rattle.commit_protocol.specs.World.{In}
use Rattle.commit_protocol.proofs.Lists.{find-key}
use Rattle.run_said.specs.run_model.World as world
use Rattle.run_said.specs.run_model.World.{Shared, Node, Act, Directs, Formats, Tables, Settlement, acted, next_id, next_moment, settlement}
use Rattle.run_said.specs.run_model.Answers.{Row, Task, last_line, last_lines, settled_line, task_service, unit_key}
use Rattle.run_said.specs.run_model.Steps.{Choice, TaskAllowed, node_after, task_effect}
use Rattle.run_laws.specs.Accounts.{Account, commits_here}
use Rattle.run_laws.specs.Promises.{commitment, settlement_in}
use Rattle.run_said.proofs.run_model.TaskLemmas.{effect_name}
use Rattle.recovery_laws.proofs.world_laws.NodeLemmas.{acted_name}
use Rattle.recovery_laws.proofs.world_laws.TableLemmas.{found_in, in_serials}
use Rattle.recovery_laws.proofs.world_laws.UpLemmas.{branch_drawn}
use Rattle.run_laws.proofs.AccountLemmas.{left_beside}
use Rattle.run_laws.proofs.EachRow.{ArePlain}
use Rattle.run_laws.proofs.AllShown.{shown_append, shown_on, shown_more, shown_plain, shown_stays}
use Rattle.run_laws.proofs.Keeping.{Keeps, Kept, Scheme, all_take, any_effect, closes_plain}
use Rattle.run_laws.proofs.Once.{IsOnceBoot, IsOnceDisk, IsOnceUp, once_keeps}
use Rattle.run_laws.proofs.RowFits.{Fits, RowFits, TellsAct}
use Rattle.run_laws.proofs.SoundWorlds.{IsSoundNode, made_once, unused}

-- of branches of the node of this name
abbrev pub AreOwn : List Settlement → List ℕ → Type 0
AreOwn ss name = (s : Settlement) → In s ss → s.serial.node ≡ name

abbrev owned : Scheme
owned = record {
  Told = List Settlement;
  more = shown_on;
  Up = λ free ss n. IsOnceUp free n × AreOwn ss n.name;
  Disk = λ ss n. IsOnceDisk n.name n.durable n.settled × AreOwn ss n.name;
  Boots = λ ss n. IsOnceBoot n × AreOwn ss n.name;
  Ready = λ n. Unit {0};
  Takes = λ o. Unit {0};
  special = λ r. false;
}

-- one line more
own_line : (k : BranchKey) (o : Outcome) (reason : Reason) (moment : ℕ) (ss : List Settlement) (name : List ℕ) → k.serial.node ≡ name → AreOwn ss name → AreOwn (shown_on (settled_line k o reason moment ∷ []) ss) name
own_line k Commit reason moment ss name own h s i = elim i [ inl e ↦ ap (λ (x : Settlement). x.serial.node) e ∙ own | inr j ↦ h s j ]
own_line k Abort reason moment ss name own h s i = elim i [ inl e ↦ ap (λ (x : Settlement). x.serial.node) e ∙ own | inr j ↦ h s j ]

own_plain : (ls : List Line) (ss : List Settlement) (name : List ℕ) → ArePlain ls → AreOwn ss name → AreOwn (shown_on ls ss) name
own_plain ls ss name plain h = subst (λ xs. AreOwn xs name) (sym (shown_plain ls ss plain)) h

own_last : (s : Settlement) (ss : List Settlement) (name : List ℕ) → s.serial.node ≡ name → AreOwn ss name → AreOwn (shown_on (last_line s) ss) name
own_last s ss name own h = go s.outcome s.reason
  where
    go : (o : Outcome) (r : Option Reason) → AreOwn (shown_on (elim o as (λ x. List Line) [ Commit ↦ line.LastCommitted s.tid s.serial s.moment ∷ [] | Abort ↦ elim r as (λ x. List Line) [ Some reason ↦ line.LastAborted s.tid s.serial reason s.moment ∷ [] | None ↦ [] ] ]) ss) name
    go Commit r x i = elim i [ inl e ↦ ap (λ (y : Settlement). y.serial.node) e ∙ own | inr j ↦ h x j ]
    go Abort (Some reason) x i = elim i [ inl e ↦ ap (λ (y : Settlement). y.serial.node) e ∙ own | inr j ↦ h x j ]
    go Abort None x i = h x i

own_lasts : (n : Node) (ss : List Settlement) → ((s : Settlement) → n.durable.last ≡ Some s → s.serial.node ≡ n.name) → AreOwn ss n.name → AreOwn (shown_on (last_lines n) ss) n.name
own_lasts n ss own h = go n.durable.last refl
  where
    go : (o : Option Settlement) → n.durable.last ≡ o → AreOwn (shown_on (elim o as (λ x. List Line) [ Some s ↦ last_line s | None ↦ [] ]) ss) n.name
    go (Some s) e = own_last s ss n.name (own s e) h
    go None e = h

row_own : (free : Bool) (r : Row) (n : Node) (ss : List Settlement) → RowFits free r n → AreOwn ss n.name → AreOwn (shown_on r.lines ss) n.name
row_own free r n ss f h = go r.act f.fits f.tells
  where
    tabled : (a : table.Act) (moment : ℕ) → Fits free (Some (Tables a moment)) n → TellsAct (Some (Tables a moment)) r.lines n → AreOwn (shown_on r.lines ss) n.name
    tabled (Settles k o reason q) moment g t = elim g.stands [
      | inl stands ↦ (let b = stands.0 in
          subst (λ ls. AreOwn (shown_on ls ss) n.name) (sym t) (own_line k o reason moment ss n.name
          (subst (λ (j : BranchKey). j.serial.node ≡ n.name) (find-key k n.volatile.branches b.0 b.1) (branch_drawn n f.up.table (b.0).key.serial (in_serials b.0 n.volatile.branches (found_in k n.volatile.branches b.0 b.1))).0) h))
      | inr none ↦ absurd none
    ]
    tabled (Undoes k) moment g t = absurd g.row
    tabled (table.Notes b) moment g t = own_plain r.lines ss n.name t h
    tabled (table.Accepts b c) moment g t = own_plain r.lines ss n.name t h
    tabled (table.Prepares b) moment g t = own_plain r.lines ss n.name t h
    tabled (table.Leaves k) moment g t = own_plain r.lines ss n.name t h
    tabled (table.Acknowledges k) moment g t = own_plain r.lines ss n.name t h
    tabled (table.Releases x rm) moment g t = own_plain r.lines ss n.name t h
    tabled (table.Sends m) moment g t = own_plain r.lines ss n.name t h
    tabled (table.Prints l) moment g t = own_plain r.lines ss n.name t h

    go : (o : Option Act) → Fits free o n → TellsAct o r.lines n → AreOwn (shown_on r.lines ss) n.name
    go None g t = own_plain r.lines ss n.name t h
    go (Some (Tables a moment)) g t = tabled a moment g t
    go (Some (Directs file cs s)) g t = subst (λ ls. AreOwn (shown_on ls ss) n.name) (sym t) (λ x i. elim i [
      | inl e ↦ ap (λ (y : Settlement). y.serial.node) e ∙ ap (λ (y : Settlement). y.serial.node) g
      | inr j ↦ h x j
    ])
    go (Some world.Boots) g t = absurd g
    go (Some _) g t = own_plain r.lines ss n.name t h

owned_keeps : Keeps owned
owned_keeps = record {
  none = λ a. refl;
  append = shown_append;
  plain = λ ls a h v. shown_plain ls a h;
  closes = closes_plain owned (λ ls a h. shown_plain ls a h);
  same = λ a n m name durable settled h. (once_keeps.same tt n m name durable settled h.0, subst (AreOwn a) (sym name) h.1);
  row = λ free r n a q f up h. (once_keeps.row free r n tt tt f up h.0, subst (AreOwn (shown_on r.lines a)) (sym (after_name r.act n)) (row_own free r n a f h.1));
  under = λ free r n a act q f is d up h. (once_keeps.under free r n tt act tt f is d up h.0, subst (AreOwn a) (sym (after_name (Some act) n)) h.1);
  falls = λ free a n up h. (once_keeps.falls free tt n up h.0, h.1);
  weaken = λ free a n h. (once_keeps.weaken free tt n h.0, h.1);
  half = λ a n standing k ready may h. (once_keeps.half tt n standing k tt may h.0, h.1);
  spoils = λ a n h. (once_keeps.spoils tt n h.0, h.1);
  boots = λ a n k h. (once_keeps.boots tt n k h.0, own_lasts n a (λ s e. (h.0.last s e).0) h.1);
  booting = λ a n k h. (once_keeps.booting tt n k h.0, h.1);
  undoes = λ a n u next h. (once_keeps.undoes tt n u next h.0, own_line (unit_key u) Abort SegFail (next_moment n) a n.name next.of.0 h.1);
  undoing = λ a n u next h. (once_keeps.undoing tt n u next h.0, h.1);
  rests = λ a n k h. (once_keeps.rests tt n k h.0, h.1);
  none_ready = λ n e. tt;
  same_ready = λ n m e h. tt;
  comes = λ a n up h closed. (once_keeps.comes tt n up h.0 (record { before = tt; found = n; log = refl; told = refl }), h.1);
}
  where
    after_name : (o : Option Act) (n : Node) → (node_after o n).name ≡ n.name
    after_name None n = refl
    after_name (Some act) n = acted_name act n

pub task_owns : (s : Shared) (stops : ℕ) (n : Node) (task : Task) (c : Choice) (rises : Cause → Type 0) → IsSoundNode s n → TaskAllowed s stops n task rises c → AreOwn (shown_on (task_effect s stops n task c).lines []) n.name
task_owns s stops n task c rises sound may = subst (AreOwn (shown_on (task_effect s stops n task c).lines [])) (effect_name s stops n task c)
    (any_effect owned owned_keeps s stops n [] sound.kept start (unused s n sound) (λ off slots journal m none. (made_once slots journal m none, λ x i. absurd i)) task (λ off. all_take owned (λ o. tt) ((task_service task).rows s n)) (λ on. tt) c rises may).disk.1
  where
    start : Kept owned owned_keeps [] n
    start = record { disk = (sound.once.disk, λ x i. absurd i); way = λ act e. (sound.once.way act e, λ x i. absurd i); runs = λ up. (sound.once.runs up, λ x i. absurd i) }

-- lines of another node's branches leave an account
pub line_in : (ls : List Line) (l : Line) (s : Settlement) (ss : List Settlement) → In l ls → settlement_in l ≡ Some s → In s (shown_on ls ss)
line_in [] l s ss i e = absurd i
line_in (x ∷ ls) l s ss i e = elim i [ inl same ↦ shown_stays ls (shown_more x ss) s (subst (λ o. In s (elim o as (λ y. List Settlement) [ Some t ↦ t ∷ ss | None ↦ ss ])) (sym (ap settlement_in (sym same) ∙ e)) (inl refl)) | inr j ↦ line_in ls l s (shown_more x ss) j e ]

pub foreign_leaves : (node : List ℕ) (ls : List Line) (a : Account) → ((l : Line) (s : Settlement) → In l ls → settlement_in l ≡ Some s → s.serial.node ≡ node → ⊥) → commits_here node ls a ≡ a
foreign_leaves node [] a h = refl
foreign_leaves node (line.Committed tid serial moment ∷ ls) a h =
    ap (commits_here node ls) (left_beside node serial a (λ e. h (line.Committed tid serial moment) (commitment tid serial moment) (inl refl) refl e)) ∙ foreign_leaves node ls a (λ l s i. h l s (inr i))
foreign_leaves node (line.LastCommitted tid serial moment ∷ ls) a h =
    ap (commits_here node ls) (left_beside node serial a (λ e. h (line.LastCommitted tid serial moment) (commitment tid serial moment) (inl refl) refl e)) ∙ foreign_leaves node ls a (λ l s i. h l s (inr i))
foreign_leaves node (other ∷ ls) a h = foreign_leaves node ls a (λ l s i. h l s (inr i))

-- so a task of another node does
pub beside_leaves : (node : List ℕ) (s : Shared) (stops : ℕ) (m : Node) (task : Task) (c : Choice) (rises : Cause → Type 0) (a : Account) → (m.name ≡ node → ⊥) → IsSoundNode s m → TaskAllowed s stops m task rises c → commits_here node (task_effect s stops m task c).lines a ≡ a
beside_leaves node s stops m task c rises a other sound may = foreign_leaves node (task_effect s stops m task c).lines a (λ l x i e own. other (sym (task_owns s stops m task c rises sound may x (line_in (task_effect s stops m task c).lines l x [] i e)) ∙ own))
