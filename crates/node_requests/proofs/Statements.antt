-- Statements on transactions at a node that is up, by its labels and its table.
use Rattle.std.proofs.Common.{◌≡◌, ◌⊎◌, inl, inr, ℕ, ◌≤◌, List, [], ◌∷◌, Bool, true, false, Option, Some, None, Ok, Err, map, refl, ◌∙◌, ap, sym, subst, arith}
use Rattle.std.specs.Prelude.{not, ◌&&◌}
use Rattle.std.specs.Option.{option_map}
use Rattle.std.specs.List.{list_any}
use Rattle.careful_write.specs.declared.down.Down.{Down}
use Rattle.emitter_model.specs.commit_protocol.Allowed.{may_end, there_is}
use Rattle.emitter_model.proofs.commit_protocol.Lists.{find_serial-serial, told_id}
use Rattle.vms_model.specs.Ids.{Id}
use Rattle.emitter_model.specs.commit_protocol.Messages.{LogRecord, same_id}
use Rattle.emitter_model.specs.commit_protocol.Rows as rows
use Rattle.emitter_model.specs.commit_protocol.Effects.{effects_of}
use Rattle.emitter_model.specs.commit_protocol.Rows.{Event, asks_row, asks_state}
use Rattle.emitter_model.specs.commit_protocol.Table.{Active, Branch, Ending, Joining, Key, Prepared, State, Tm, Voting, find_serial, first, same_key}
use Rattle.emitter_model.specs.Emitting.{Emits, Shown, Since}
use Rattle.emitter_model.specs.transcript_model.Lines as line
use Rattle.emitter_model.specs.transcript_model.Lines.{Line}
use Rattle.script_lang.specs.script_model.Statements.{AbortTrans, ByLabel, BySerial, EndBranch, EndTrans, Inquire, Named, Request}
use Rattle.world_laws.specs.log_laws.Slots.{branches_added}
use Rattle.vms_model.specs.Transactions.{Aborted}
use Rattle.file_requests.specs.run_said.Said.{Said, line_said, named_said, refused_by_lines, request_said}
use Rattle.file_requests.specs.said_steps.Answers.{is_served}
use Rattle.world_laws.specs.run_model.Operations.{first_of, refused_if}
use Rattle.world_laws.specs.run_model.World.{Label, Node, Shared, labelled, serial_labelled}
use Rattle.world_laws.specs.run_model.Answers.{Row, branch_labelled, branch_named, in_state, is_first_active, is_in_doubt, is_open, just, made_label, made_name, service, told_if, told_rows, touches, unsettled, unsettled_label}
use Rattle.world_laws.specs.run_model.Steps.{node_after_rows}
use Rattle.world_laws.specs.Nodes.{IsKeptNode, RowsKeepUp}
use Rattle.run_shared.specs.Sharing.{IsShared, SharedState}
use Rattle.node_table.specs.Running.{IsNewFor, KeepsUp, TellsRows}
use Rattle.node_table.specs.Standing.{IsUp, Up, UpRepresents}
use Rattle.node_table.specs.Telling.{uses_disk}
use Rattle.node_requests.specs.Labelled.{branch_at, branch_in, made_in, unsettled_in}
use Rattle.node_requests.specs.Managers.{made_of}
use Rattle.node_requests.specs.Requests.{DoesRequest, node_up}
use Rattle.node_requests.specs.Running.{name_of}
use Rattle.file_requests.specs.node_standing.Telling.{said_label, said_shared}
use Rattle.node_requests.specs.Transacting.{named_in, unnamed_in}
use Rattle.node_requests.proofs.Labels.{branch_found, labelled_branch, made_says}
use Rattle.node_requests.proofs.Transacting.{IsToldBy, first_more, first_none, refuses, told_fails, told_serves}

-- The node of the world has the labels and the table that the code keeps.
module _ (clock : ℕ) (r : Up) (sh : SharedState) (s : Shared) (n : Node) (h : UpRepresents clock r n) (share : IsShared sh s) where
  pub name_is : n.name ≡ name_of r
  name_is = h.stands.kept.name

  pub branches_are : n.volatile.branches ≡ r.tm.table
  branches_are = ap (λ (t : Tm). t.table) h.stands.table

  pub made_is : (label : List ℕ) → made_label s n label ≡ made_in (name_of r) label sh.labels
  made_is label = λ i. made_in (name_is i) label (share.labels i)

  pub branch_is : (label : List ℕ) → branch_labelled s n label ≡ branch_in (name_of r) label sh.labels r.tm.table
  branch_is label = labelled_branch s n label ∙ (λ i. branch_in (name_is i) label (share.labels i) (branches_are i))

  pub named_is : (who : Named) → branch_named s n who ≡ named_in who sh.labels r
  named_is (ByLabel label) = branch_is label
  named_is (BySerial serial) = branch_found serial n.volatile.branches ∙ ap (find_serial serial) branches_are

  -- what a statement that asks for a branch is refused by
  pub unsettled_is : (label : List ℕ) → first_of (made_label s n label) (unsettled_label s n label) ≡ unsettled_in (name_of r) label sh.labels r.tm.table
  unsettled_is label = λ i. first_of (made_is label i) (unsettled (branch_is label i))

  pub unnamed_is : (who : Named) → first_of (made_name s n who) (unsettled (branch_named s n who)) ≡ unnamed_in who sh.labels r
  unnamed_is (ByLabel label) = unsettled_is label
  unnamed_is (BySerial serial) = ap unsettled (named_is (BySerial serial))

-- Lines that refuse a statement which asks for a branch.

-- a refusal for the label, or for the branch
pub which_refusal : (made : Option Line) (found : Option Branch) (l : Line) → ((made ≡ None) ⊎ (made ≡ Some line.BadLabel)) → first_of made (unsettled found) ≡ Some l → ((made ≡ Some line.BadLabel) × (l ≡ line.BadLabel)) ⊎ ((made ≡ None) × (l ≡ line.NoSuchTransaction))
which_refusal None None l d h = inr (refl, (let z : Some line.NoSuchTransaction ≡ Some l = h in cc))
which_refusal None (Some b) l d h = let f : ⊥ = cc in absurd f
which_refusal (Some k) found l (inl d) h = let f : ⊥ = cc in absurd f
which_refusal (Some k) found l (inr d) h = inl (d, (let z : Some k ≡ Some l = h in cc))

pub made_either : (node label : List ℕ) (ls : List Label) → (made_in node label ls ≡ None) ⊎ (made_in node label ls ≡ Some line.BadLabel)
made_either node label ls = go (labelled node label ls)
  where
    go : (o : Option Label) → (◌≡◌ {A = Option Line} (elim o [ Some l ↦ None | None ↦ Some line.BadLabel ]) None) ⊎ (◌≡◌ {A = Option Line} (elim o [ Some l ↦ None | None ↦ Some line.BadLabel ]) (Some line.BadLabel))
    go (Some l) = inl refl
    go None = inr refl

pub made_name_is : (who : Named) (clock : ℕ) (r : Up) (sh : SharedState) (s : Shared) (n : Node) → UpRepresents clock r n → IsShared sh s → made_name s n who ≡ made_of who (name_of r) sh.labels
made_name_is (ByLabel label) clock r sh s n h share = made_is clock r sh s n h share label
made_name_is (BySerial serial) clock r sh s n h share = refl

pub made_name_says : (who : Named) (node : List ℕ) (ls : List Label) → named_said (map said_label ls) node who ≡ made_of who node ls
made_name_says (ByLabel label) node ls = made_says node label ls
made_name_says (BySerial serial) node ls = refl

pub made_name_either : (who : Named) (node : List ℕ) (ls : List Label) → (made_of who node ls ≡ None) ⊎ (made_of who node ls ≡ Some line.BadLabel)
made_name_either (ByLabel label) node ls = made_either node label ls
made_name_either (BySerial serial) node ls = inl refl

unnamed_as : (who : Named) (r : Up) (ls : List Label) → unnamed_in who ls r ≡ first_of (made_of who (name_of r) ls) (unsettled (named_in who ls r))
unnamed_as (ByLabel label) r ls = refl
unnamed_as (BySerial serial) r ls = refl

-- a branch that is named by a label has one that was made
pub named_made : (who : Named) (r : Up) (ls : List Label) → unnamed_in who ls r ≡ None → made_of who (name_of r) ls ≡ None
named_made who r ls h = (first_none (made_of who (name_of r) ls) (unsettled (named_in who ls r)) (sym (unnamed_as who r ls) ∙ h)).0

-- A statement that asks for the branch of a label or a serial, in a state.
pub record AsksBranch (request : Request) (who : Named) (holds : Branch → Bool) (event : Branch → Event) : Type 0 where
  pub early : (s : Shared) (n : Node) → (service request).refused_before_reading s n ≡ first_of (made_name s n who) (first_of (unsettled (branch_named s n who)) (in_state holds (branch_named s n who)))
  pub late : (s : Shared) (n : Node) → (service request).refused_after_reading s n ≡ None
  pub rows : (s : Shared) (n : Node) (b : Branch) → branch_named s n who ≡ Some b → (service request).rows s n ≡ told_rows s n (just (event b))
  pub lines : (sh : SharedState) (name : List ℕ) → refused_by_lines (said_shared sh) (node_up name) request ≡ named_said (map said_label sh.labels) name who
  pub still : (name : List ℕ) (l : Line) (s : Said) → request_said name request l s ≡ s
  pub quiet : (b : Branch) (n : Node) → IsNewFor n (event b)
  pub one : (b : Branch) → branches_added (event b) ≤ 1

pub row_of : (s : Shared) (n : Node) (o : Option Branch) (b : Branch) (does : Branch → List Row) → o ≡ Some b → elim o [ Some x ↦ does x | None ↦ [] ] ≡ does b
row_of s n o b does e = ap (λ (x : Option Branch). elim x [ Some y ↦ does y | None ↦ [] ]) e

pub ends_branch : (label : List ℕ) → AsksBranch (EndBranch label) (ByLabel label) may_end (λ b. rows.EndBranch b.key.serial)
ends_branch label = record { early = λ s n. refl; late = λ s n. refl; rows = λ s n b e. row_of s n (branch_labelled s n label) b (λ x. told_rows s n (just (rows.EndBranch x.key.serial))) e; lines = λ sh name. refl; still = λ name l s. refl; quiet = λ b n. tt; one = λ b. omega arith }

pub ends_trans : (label : List ℕ) → AsksBranch (EndTrans label) (ByLabel label) is_first_active (λ b. rows.EndTrans b.key.tid)
ends_trans label = record { early = λ s n. refl; late = λ s n. refl; rows = λ s n b e. row_of s n (branch_labelled s n label) b (λ x. told_rows s n (just (rows.EndTrans x.key.tid))) e; lines = λ sh name. refl; still = λ name l s. refl; quiet = λ b n. tt; one = λ b. omega arith }

pub aborts_trans : (label : List ℕ) → AsksBranch (AbortTrans label) (ByLabel label) is_open (λ b. rows.AbortBranch b.key.serial Aborted)
aborts_trans label = record { early = λ s n. refl; late = λ s n. refl; rows = λ s n b e. row_of s n (branch_labelled s n label) b (λ x. told_rows s n (just (rows.AbortBranch x.key.serial Aborted))) e; lines = λ sh name. refl; still = λ name l s. refl; quiet = λ b n. tt; one = λ b. omega arith }

pub inquires : (who : Named) → AsksBranch (Inquire who) who is_in_doubt (λ b. rows.InquireBranch b.key.serial)
inquires who = record { early = λ s n. refl; late = λ s n. refl; rows = λ s n b e. ap (λ (o : Option Branch). told_if s n (option_map (λ (x : Branch). just (rows.InquireBranch x.key.serial)) o)) e; lines = λ sh name. refl; still = λ name l s. refl; quiet = λ b n. tt; one = λ b. omega arith }

no_line : (x : Line) → ◌≡◌ {A = Option Line} None (Some x) → ⊥
no_line x e = cc

one_line : (x y : Line) → ◌≡◌ {A = Option Line} (Some x) (Some y) → x ≡ y
one_line x y e = cc

module _ (request : Request) (who : Named) (holds : Branch → Bool) (event : Branch → Event) (q : AsksBranch request who holds event) (clock : ℕ) (r : Up) (sh : SharedState) (a b : Shown) where
  by_lines : refused_by_lines (said_shared sh) (node_up (name_of r)) request ≡ made_of who (name_of r) sh.labels
  by_lines = q.lines sh (name_of r) ∙ made_name_says who (name_of r) sh.labels

  -- its label names no branch of this node,
  pub missing_refuses : (l : Line) → IsUp r → Since a b → Emits a (l ∷ []) b → unnamed_in who sh.labels r ≡ Some l → DoesRequest {T = Unit {0}} (Ok tt) request clock r r sh sh a b
  missing_refuses l up since shows missing = refuses request clock r sh a b l up since shows (quiet_is which) (λ s. q.still (name_of r) l s) (said_is which) (other_is which) (λ s n h share kept.
      ap (λ x. first_of x ((service request).refused_after_reading s n)) (q.early s n ∙ first_more (made_name s n who) (unsettled (branch_named s n who)) (in_state holds (branch_named s n who)) l (unnamed_is clock r sh s n h share who ∙ missing)))
    where
      which : ((made_of who (name_of r) sh.labels ≡ Some line.BadLabel) × (l ≡ line.BadLabel)) ⊎ ((made_of who (name_of r) sh.labels ≡ None) × (l ≡ line.NoSuchTransaction))
      which = which_refusal (made_of who (name_of r) sh.labels) (named_in who sh.labels r) l (made_name_either who (name_of r) sh.labels) (sym (unnamed_as who r sh.labels) ∙ missing)

      quiet_is : ((made_of who (name_of r) sh.labels ≡ Some line.BadLabel) × (l ≡ line.BadLabel)) ⊎ ((made_of who (name_of r) sh.labels ≡ None) × (l ≡ line.NoSuchTransaction)) → (s : Said) → line_said l s ≡ s
      quiet_is (inl w) s = ap (λ x. line_said x s) w.1
      quiet_is (inr w) s = ap (λ x. line_said x s) w.1

      said_is : ((made_of who (name_of r) sh.labels ≡ Some line.BadLabel) × (l ≡ line.BadLabel)) ⊎ ((made_of who (name_of r) sh.labels ≡ None) × (l ≡ line.NoSuchTransaction)) → (refusal : Line) → refused_by_lines (said_shared sh) (node_up (name_of r)) request ≡ Some refusal → l ≡ refusal
      said_is (inl w) refusal e = w.1 ∙ one_line line.BadLabel refusal (sym w.0 ∙ sym by_lines ∙ e)
      said_is (inr w) refusal e = absurd (no_line refusal (sym w.0 ∙ sym by_lines ∙ e))

      other_is : ((made_of who (name_of r) sh.labels ≡ Some line.BadLabel) × (l ≡ line.BadLabel)) ⊎ ((made_of who (name_of r) sh.labels ≡ None) × (l ≡ line.NoSuchTransaction)) → refused_by_lines (said_shared sh) (node_up (name_of r)) request ≡ None → is_served l ≡ true
      other_is (inl w) e = absurd (no_line line.BadLabel (sym e ∙ by_lines ∙ w.0))
      other_is (inr w) e = ap is_served w.1

  module _ (x : Branch) (made : made_of who (name_of r) sh.labels ≡ None) (found : named_in who sh.labels r ≡ Some x) where
    -- what the state of its branch says of it
    early_is : (s : Shared) (n : Node) → UpRepresents clock r n → IsShared sh s → (service request).refused_before_reading s n ≡ refused_if (not (holds x)) line.WrongState
    early_is s n h share = q.early s n ∙ (λ i. first_of (((made_name_is who clock r sh s n h share) ∙ made) i) (first_of (unsettled ((named_is clock r sh s n h share who ∙ found) i)) (in_state holds ((named_is clock r sh s n h share who ∙ found) i))))

    unrefused : refused_by_lines (said_shared sh) (node_up (name_of r)) request ≡ None
    unrefused = by_lines ∙ made

    -- it is in another state
    pub state_refuses : IsUp r → Since a b → Emits a (line.WrongState ∷ []) b → holds x ≡ false → DoesRequest {T = Unit {0}} (Ok tt) request clock r r sh sh a b
    state_refuses up since shows fails = refuses request clock r sh a b line.WrongState up since shows (λ s. refl) (λ s. q.still (name_of r) line.WrongState s) (λ refusal e. absurd (no_line refusal (sym unrefused ∙ e))) (λ e. refl) (λ s n h share kept.
        ap (λ o. first_of o ((service request).refused_after_reading s n)) (early_is s n h share ∙ ap (λ (t : Bool). refused_if (not t) line.WrongState) fails))

    module _ (yes : holds x ≡ true) where
      told_here : (s : Shared) (n : Node) → UpRepresents clock r n → IsShared sh s → IsKeptNode s n → IsToldBy request [] (event x) clock r sh s n
      told_here s n h share kept = record {
        early = early_is s n h share ∙ ap (λ (t : Bool). refused_if (not t) line.WrongState) yes;
        late = q.late s n;
        rows = q.rows s n x (named_is clock r sh s n h share who ∙ found);
        stands = h;
        shares = share;
        new = q.quiet x n;
      }

      -- the table was told of it
      module _ (rows_keep_up : RowsKeepUp) (new : Up) (after : SharedState) where
        pub asked_fails : (d : Down) → touches (service request) ≡ true → KeepsUp {T = Unit {0}} (Err d) (event x) clock r new sh after a b → TellsRows {T = Unit {0}} (Err d) (event x) clock r new sh after a b → DoesRequest {T = Unit {0}} (Err d) request clock r new sh after a b
        asked_fails d touch keeps does = told_fails rows_keep_up request (event x) clock r r new sh sh after a b refl (omega arith, omega arith) (q.one x) refl (λ n. []) told_here d touch unrefused refl keeps does

        pub asked_serves : (c : Shown) (l : Line) → Since b c → Emits b (l ∷ []) c → ((s : Said) → line_said l s ≡ s) → is_served l ≡ true → KeepsUp {T = Unit {0}} (Ok tt) (event x) clock r new sh after a b → TellsRows {T = Unit {0}} (Ok tt) (event x) clock r new sh after a b
            → ((s : Shared) (n : Node) → UpRepresents clock r n → IsShared sh s → IsKeptNode s n → UpRepresents clock new (node_after_rows ((service request).rows s n) n) → (service request).answer s n ≡ l) → DoesRequest {T = Unit {0}} (Ok tt) request clock r new sh after a c
        asked_serves c l since shows quiet other keeps does answer = told_serves rows_keep_up request (event x) clock r r new sh sh after a b refl (omega arith, omega arith) (q.one x) refl (λ n. []) told_here c l since shows quiet other unrefused (λ ws. q.still (name_of r) l _) keeps does answer

-- The branch that is found is that of its serial.

serial_again : (o : Option Id) (bs : List Branch) (b : Branch) → branch_at o bs ≡ Some b → find_serial b.key.serial bs ≡ Some b
serial_again None bs b h = let f : ⊥ = cc in absurd f
serial_again (Some s) bs b h = subst (λ i. find_serial i bs ≡ Some b) (sym (find_serial-serial s bs b h)) h

pub named_again : (who : Named) (r : Up) (ls : List Label) (b : Branch) → named_in who ls r ≡ Some b → find_serial b.key.serial r.tm.table ≡ Some b
named_again (ByLabel label) r ls b h = serial_again (serial_labelled (name_of r) label ls) r.tm.table b h
named_again (BySerial serial) r ls b h = serial_again (Some serial) r.tm.table b h

-- it may be told of what its state allows
pub allowed_serial : (s : Id) (bs : List Branch) (b : Branch) (holds : Branch → Bool) → find_serial s bs ≡ Some b → holds b ≡ true → there_is (find_serial s bs) holds ≡ true
allowed_serial s bs b holds found holds_it = ap (λ (o : Option Branch). there_is o holds) found ∙ holds_it

-- A question uses no disk.
pub asks_surely : (o : Option Branch) (rs : List LogRecord) → list_any uses_disk (effects_of (asks_row o) rs) ≡ true → ⊥
asks_surely None rs h = let f : ⊥ = cc in f
asks_surely (Some b) rs h = go b.state h
  where
    go : (s : State) → list_any uses_disk (effects_of (asks_state b s) rs) ≡ true → ⊥
    go Joining e = let f : ⊥ = cc in f
    go Active e = let f : ⊥ = cc in f
    go Ending e = let f : ⊥ = cc in f
    go Voting e = let f : ⊥ = cc in f
    go Prepared e = let f : ⊥ = cc in f

-- A branch is the first of its transaction where both ids are the same.

first_so : (t s : Id) → same_id t s ≡ (same_id t t && same_id s t)
first_so t s = go (told_id t s) (told_id t t) (told_id s t)
  where
    go : (((same_id t s ≡ true) × (t ≡ s)) ⊎ ((same_id t s ≡ false) × (t ≡ s → ⊥))) → (((same_id t t ≡ true) × (t ≡ t)) ⊎ ((same_id t t ≡ false) × (t ≡ t → ⊥))) → (((same_id s t ≡ true) × (s ≡ t)) ⊎ ((same_id s t ≡ false) × (s ≡ t → ⊥))) → same_id t s ≡ (same_id t t && same_id s t)
    go (inl x) (inl y) (inl z) = rw (x.0, y.0, z.0) refl
    go (inl x) (inl y) (inr z) = absurd (z.1 (sym x.1))
    go (inr x) (inl y) (inl z) = absurd (x.1 (sym z.1))
    go (inr x) (inl y) (inr z) = rw (x.0, y.0, z.0) refl
    go x (inr y) z = absurd (y.1 refl)

pub first_is : (k : Key) → same_id k.tid k.serial ≡ same_key k (first k.tid)
unfolding same_key
first_is k = first_so k.tid k.serial
