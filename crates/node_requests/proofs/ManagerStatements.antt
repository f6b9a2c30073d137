-- Statements of resource managers at a node that is up, by its labels, its table and the managers that are declared.
use Rattle.std.proofs.Common.{◌≡◌, ◌⊎◌, inl, inr, ℕ, ◌≤◌, List, [], ◌∷◌, Bool, true, false, Option, Some, None, Ok, Err, map, refl, ◌∙◌, ap, sym, subst, arith}
use Rattle.std.specs.Prelude.{not}
use Rattle.std.specs.Option.{option_and_then, option_map}
use Rattle.std.specs.List.{list_any}
use Rattle.careful_write.specs.declared.down.Down.{Down}
use Rattle.emitter_model.specs.commit_protocol.Effects.{effects_of}
use Rattle.emitter_model.specs.commit_protocol.Messages.{LogRecord, Name, Reply}
use Rattle.records_model.specs.History.{same_id}
use Rattle.emitter_model.specs.commit_protocol.Rows as rows
use Rattle.emitter_model.specs.commit_protocol.Rows.{Event, note_row, with_manager}
use Rattle.emitter_model.specs.commit_protocol.Table.{Active, Branch, Ending, Joining, Prepared, State, Tm, Voting, find_serial}
use Rattle.emitter_model.proofs.commit_protocol.Lists.{find_serial-serial, told_id}
use Rattle.world_laws.specs.log_laws.Slots.{branches_added}
use Rattle.vms_model.specs.Ids.{Id}
use Rattle.emitter_model.specs.Emitting.{Emits, Shown, Since}
use Rattle.emitter_model.specs.transcript_model.Lines as line
use Rattle.emitter_model.specs.transcript_model.Lines.{Line, Quota}
use Rattle.script_lang.specs.script_model.Statements.{AckEvent, ByLabel, BySerial, JoinRm, Named, Request}
use Rattle.file_requests.specs.run_said.Said.{Said, line_said, named_said, refused_by_lines, request_said}
use Rattle.file_requests.specs.said_steps.Answers.{is_served}
use Rattle.world_laws.specs.run_model.Operations.{first_of, refused_if}
use Rattle.world_laws.specs.run_model.World.{Label, Node, Shared, find_branch, find_record, serial_labelled, tm_of}
use Rattle.world_laws.specs.run_model.Answers.{Known, Recorded, Unheard, Unsettled, awaited_reply, branch_labelled, declared_manager, in_state, is_joinable, just, known, known_branch, known_manager, known_serial, made_name, more_managers, serial_named, service, told_if, told_rows, unsettled}
use Rattle.world_laws.specs.run_model.Steps.{node_after_rows}
use Rattle.world_laws.specs.Nodes.{IsKeptNode, RowsKeepUp}
use Rattle.run_shared.specs.Sharing.{IsShared, SharedState}
use Rattle.participants.specs.Refusing.{known_in, refusal_line, refused_joining, refused_reply, undeclared}
use Rattle.participants.specs.declared.refusals.RmErr.{RmErr}
use Rattle.participants.specs.declared.refusals.RmErr.TheVariants as error
use Rattle.participants.specs.tm_table.Restarts.{record_of}
use Rattle.node_table.specs.Running.{KeepsUp, TellsRows}
use Rattle.node_table.specs.Standing.{IsUp, Up, UpRepresents}
use Rattle.node_table.specs.Telling.{uses_disk}
use Rattle.node_requests.specs.Labelled.{made_in}
use Rattle.node_requests.specs.Managers.{known_at, made_of, serial_in, unheard_in, without_serial}
use Rattle.node_requests.specs.Requests.{DoesRequest, node_up}
use Rattle.node_requests.specs.Running.{name_of}
use Rattle.file_requests.specs.node_standing.Telling.{said_label, said_shared}
use Rattle.node_table.proofs.Branching.{told_serial}
use Rattle.node_requests.proofs.Labels.{branch_found}
use Rattle.node_requests.proofs.Statements.{branches_are, made_name_either, made_name_is, made_name_says, name_is, row_of}
use Rattle.node_requests.proofs.Transacting.{IsToldBy, refuses, told_fails, told_serves}

-- What is known of a serial in the world is known of it in the table.

record_found : (serial : Id) (rs : List LogRecord) → find_record serial rs ≡ record_of serial rs
record_found serial [] = refl
record_found serial (r ∷ rs) = elim (told_id r.serial serial) [
  | inl t ↦ rw (t.0, own t.1) refl
  | inr t ↦ rw (t.0, other t.1) (record_found serial rs)
]
  where
    own : r.serial ≡ serial → same_id serial r.serial ≡ true
    own e = elim (told_serial serial r.serial) [ inl t ↦ t.0 | inr t ↦ absurd (t.1 (sym e)) ]

    other : (r.serial ≡ serial → ⊥) → same_id serial r.serial ≡ false
    other differs = elim (told_serial serial r.serial) [ inl t ↦ absurd (differs (sym t.1)) | inr t ↦ t.0 ]

abbrev heard : Option Branch → Option LogRecord → Known
heard o q = elim o [ Some b ↦ Unsettled b | None ↦ elim q [ Some r ↦ Recorded r | None ↦ Unheard ] ]

pub known_serial_is : (serial : Id) (n : Node) (tm : Tm) → tm_of n ≡ tm → known_serial n serial ≡ known_in tm serial
known_serial_is serial n tm same = (λ i. heard (branch_found serial n.volatile.branches i) (record_found serial n.volatile.records i)) ∙ ap (λ (t : Tm). known_in t serial) same

module _ (clock : ℕ) (r : Up) (sh : SharedState) (s : Shared) (n : Node) (h : UpRepresents clock r n) (share : IsShared sh s) where
  pub serial_is : (who : Named) → serial_named s n who ≡ serial_in who sh.labels r
  serial_is (ByLabel label) = λ i. serial_labelled (name_is clock r sh s n h share i) label (share.labels i)
  serial_is (BySerial serial) = refl

  pub known_is : (who : Named) → known s n who ≡ known_at r.tm (serial_in who sh.labels r)
  known_is who = ap (λ (o : Option Id). elim o [ Some serial ↦ known_serial n serial | None ↦ Unheard ]) (serial_is who) ∙ go (serial_in who sh.labels r)
    where
      go : (o : Option Id) → elim o [ Some serial ↦ known_serial n serial | None ↦ Unheard ] ≡ known_at r.tm o
      go (Some serial) = known_serial_is serial n r.tm h.stands.table
      go None = refl

  pub undeclared_is : (rm : Name) → declared_manager n rm ≡ undeclared rm r.declared
  undeclared_is rm = ap (undeclared rm) h.declared

-- The lines of errors refuse, and say nothing of nodes.

pub refusal_served : (q : Quota) (e : RmErr) → is_served (refusal_line q e) ≡ true
refusal_served q error.NoTid = refl
refusal_served q error.NoRm = refl
refusal_served q error.State = refl
refusal_served q (error.Quota limit) = refl

pub refusal_quiet : (q : Quota) (e : RmErr) (s : Said) → line_said (refusal_line q e) s ≡ s
refusal_quiet q error.NoTid s = refl
refusal_quiet q error.NoRm s = refl
refusal_quiet q error.State s = refl
refusal_quiet q (error.Quota limit) s = refl

no_line : (x : Line) → ◌≡◌ {A = Option Line} None (Some x) → ⊥
no_line x e = cc

one_line : (x y : Line) → ◌≡◌ {A = Option Line} (Some x) (Some y) → x ≡ y
one_line x y e = cc

-- a statement asks for a serial that is not there: for its label, or since none has begun for that
which_unheard : (made : Option Line) (o : Option Id) (l : Line) → ((made ≡ None) ⊎ (made ≡ Some line.BadLabel)) → first_of made (without_serial o) ≡ Some l → ((made ≡ Some line.BadLabel) × (l ≡ line.BadLabel)) ⊎ ((made ≡ None) × (l ≡ line.NoSuchTransaction))
which_unheard None None l d h = inr (refl, (let z : Some line.NoSuchTransaction ≡ Some l = h in cc))
which_unheard None (Some i) l d h = let f : ⊥ = cc in absurd f
which_unheard (Some k) o l (inl d) h = let f : ⊥ = cc in absurd f
which_unheard (Some k) o l (inr d) h = inl (d, (let z : Some k ≡ Some l = h in cc))

-- A statement on the serial of a label, or on a serial.
module _ (request : Request) (who : Named) (clock : ℕ) (r : Up) (sh : SharedState) (a b : Shown)
    (lines : refused_by_lines (said_shared sh) (node_up (name_of r)) request ≡ named_said (map said_label sh.labels) (name_of r) who) (still : (name : List ℕ) (l : Line) (s : Said) → request_said name request l s ≡ s) where
  pub by_lines : refused_by_lines (said_shared sh) (node_up (name_of r)) request ≡ made_of who (name_of r) sh.labels
  by_lines = lines ∙ made_name_says who (name_of r) sh.labels

  -- there is none;
  pub serial_refuses : (l : Line) → IsUp r → Since a b → Emits a (l ∷ []) b → unheard_in who sh.labels r ≡ Some l
      → ((s : Shared) (n : Node) → first_of (made_name s n who) (without_serial (serial_named s n who)) ≡ Some l → first_of ((service request).refused_before_reading s n) ((service request).refused_after_reading s n) ≡ Some l)
      → DoesRequest {T = Unit {0}} (Ok tt) request clock r r sh sh a b
  serial_refuses l up since shows unheard refused = refuses request clock r sh a b l up since shows (quiet_is which) (λ s. still (name_of r) l s) (said_is which) (other_is which) (λ s n h share kept.
      refused s n ((λ i. first_of (made_name_is who clock r sh s n h share i) (without_serial (serial_is clock r sh s n h share who i))) ∙ unheard))
    where
      which : ((made_of who (name_of r) sh.labels ≡ Some line.BadLabel) × (l ≡ line.BadLabel)) ⊎ ((made_of who (name_of r) sh.labels ≡ None) × (l ≡ line.NoSuchTransaction))
      which = which_unheard (made_of who (name_of r) sh.labels) (serial_in who sh.labels r) l (made_name_either who (name_of r) sh.labels) unheard

      quiet_is : ((made_of who (name_of r) sh.labels ≡ Some line.BadLabel) × (l ≡ line.BadLabel)) ⊎ ((made_of who (name_of r) sh.labels ≡ None) × (l ≡ line.NoSuchTransaction)) → (s : Said) → line_said l s ≡ s
      quiet_is (inl w) s = ap (λ x. line_said x s) w.1
      quiet_is (inr w) s = ap (λ x. line_said x s) w.1

      said_is : ((made_of who (name_of r) sh.labels ≡ Some line.BadLabel) × (l ≡ line.BadLabel)) ⊎ ((made_of who (name_of r) sh.labels ≡ None) × (l ≡ line.NoSuchTransaction)) → (refusal : Line) → refused_by_lines (said_shared sh) (node_up (name_of r)) request ≡ Some refusal → l ≡ refusal
      said_is (inl w) refusal e = w.1 ∙ one_line line.BadLabel refusal (sym w.0 ∙ sym by_lines ∙ e)
      said_is (inr w) refusal e = absurd (no_line refusal (sym w.0 ∙ sym by_lines ∙ e))

      other_is : ((made_of who (name_of r) sh.labels ≡ Some line.BadLabel) × (l ≡ line.BadLabel)) ⊎ ((made_of who (name_of r) sh.labels ≡ None) × (l ≡ line.NoSuchTransaction)) → refused_by_lines (said_shared sh) (node_up (name_of r)) request ≡ None → is_served l ≡ true
      other_is (inl w) e = absurd (no_line line.BadLabel (sym e ∙ by_lines ∙ w.0))
      other_is (inr w) e = ap is_served w.1

  module _ (made : made_of who (name_of r) sh.labels ≡ None) where
    pub unrefused : refused_by_lines (said_shared sh) (node_up (name_of r)) request ≡ None
    unrefused = by_lines ∙ made

    -- what is known of it refuses the statement
    pub error_refuses : (l : Line) → IsUp r → Since a b → Emits a (l ∷ []) b → ((s : Said) → line_said l s ≡ s) → is_served l ≡ true
        → ((s : Shared) (n : Node) → UpRepresents clock r n → IsShared sh s → first_of ((service request).refused_before_reading s n) ((service request).refused_after_reading s n) ≡ Some l) → DoesRequest {T = Unit {0}} (Ok tt) request clock r r sh sh a b
    error_refuses l up since shows quiet served refused =
        refuses request clock r sh a b l up since shows quiet (λ s. still (name_of r) l s) (λ refusal e. absurd (no_line refusal (sym unrefused ∙ e))) (λ e. served) (λ s n h share kept. refused s n h share)

-- A manager replies.

ack_unheard : (n : Node) (rm : Name) (reply : Reply) (m : Option Line) (o : Option Id) (l : Line) → first_of m (without_serial o) ≡ Some l →
    (let k : Known = elim o [ Some serial ↦ known_serial n serial | None ↦ Unheard ] in first_of (first_of m (first_of (known_branch k) (first_of (declared_manager n rm) (first_of (known_manager rm k) (awaited_reply rm reply k))))) None) ≡ Some l
ack_unheard n rm reply (Some x) o l h = h
ack_unheard n rm reply None None l h = h
ack_unheard n rm reply None (Some i) l h = absurd (no_line l h)

ack_known : (x : Option Line) → first_of (first_of None x) None ≡ x
ack_known (Some l) = refl
ack_known None = refl

module _ (who : Named) (rm : Name) (reply : Reply) (clock : ℕ) (r : Up) (sh : SharedState) (a b : Shown) where
  pub ack_unheard_refuses : (l : Line) → IsUp r → Since a b → Emits a (l ∷ []) b → unheard_in who sh.labels r ≡ Some l → DoesRequest {T = Unit {0}} (Ok tt) (AckEvent who rm reply) clock r r sh sh a b
  ack_unheard_refuses l up since shows unheard = serial_refuses (AckEvent who rm reply) who clock r sh a b refl (λ name x s. refl) l up since shows unheard (λ s n h. ack_unheard n rm reply (made_name s n who) (serial_named s n who) l h)

  module _ (serial : Id) (found : serial_in who sh.labels r ≡ Some serial) (made : made_of who (name_of r) sh.labels ≡ None) where
    ack_refused : (s : Shared) (n : Node) → UpRepresents clock r n → IsShared sh s → first_of ((service (AckEvent who rm reply)).refused_before_reading s n) None ≡ refused_reply rm reply r.declared (known_in r.tm serial)
    ack_refused s n h share =
        let k : known s n who ≡ known_in r.tm serial = known_is clock r sh s n h share who ∙ ap (known_at r.tm) found in
        (λ i. first_of (first_of ((made_name_is who clock r sh s n h share ∙ made) i) (first_of (known_branch (k i)) (first_of (undeclared_is clock r sh s n h share rm i) (first_of (known_manager rm (k i)) (awaited_reply rm reply (k i)))))) None)
        ∙ ack_known (refused_reply rm reply r.declared (known_in r.tm serial))

    pub ack_refuses : (l : Line) → IsUp r → Since a b → Emits a (l ∷ []) b → ((s : Said) → line_said l s ≡ s) → is_served l ≡ true → refused_reply rm reply r.declared (known_in r.tm serial) ≡ Some l → DoesRequest {T = Unit {0}} (Ok tt) (AckEvent who rm reply) clock r r sh sh a b
    ack_refuses l up since shows quiet served refused = error_refuses (AckEvent who rm reply) who clock r sh a b refl (λ name x s. refl) made l up since shows quiet served (λ s n h share. ack_refused s n h share ∙ refused)

    module _ (none : refused_reply rm reply r.declared (known_in r.tm serial) ≡ None) where
      ack_early : (s : Shared) (n : Node) → UpRepresents clock r n → IsShared sh s → (service (AckEvent who rm reply)).refused_before_reading s n ≡ None
      ack_early s n h share = go ((service (AckEvent who rm reply)).refused_before_reading s n) (ack_refused s n h share ∙ none)
        where
          go : (o : Option Line) → first_of o None ≡ None → o ≡ None
          go None e = refl
          go (Some l) e = absurd (no_line l (sym e))

      ack_told : (s : Shared) (n : Node) → UpRepresents clock r n → IsShared sh s → IsKeptNode s n → IsToldBy (AckEvent who rm reply) [] (rows.Replied serial rm reply) clock r sh s n
      ack_told s n h share kept = record {
        early = ack_early s n h share;
        late = refl;
        rows = ap (λ (o : Option Id). told_if s n (option_map (λ (i : Id). just (rows.Replied i rm reply)) o)) (serial_is clock r sh s n h share who ∙ found);
        stands = h;
        shares = share;
        new = tt;
      }

      module _ (rows_keep_up : RowsKeepUp) (new : Up) (after : SharedState) where
        pub ack_fails : (d : Down) (e : Event) → e ≡ rows.Replied serial rm reply → KeepsUp {T = Unit {0}} (Err d) e clock r new sh after a b → TellsRows {T = Unit {0}} (Err d) e clock r new sh after a b → DoesRequest {T = Unit {0}} (Err d) (AckEvent who rm reply) clock r new sh after a b
        ack_fails d e is keeps does = told_fails rows_keep_up (AckEvent who rm reply) (rows.Replied serial rm reply) clock r r new sh sh after a b refl (omega arith, omega arith) (omega arith) refl (λ n. []) ack_told d refl (unrefused (AckEvent who rm reply) who clock r sh a b refl (λ name x s. refl) made) refl
            (subst (λ x. KeepsUp {T = Unit {0}} (Err d) x clock r new sh after a b) is keeps) (subst (λ x. TellsRows {T = Unit {0}} (Err d) x clock r new sh after a b) is does)

        pub ack_serves : (c : Shown) → Since b c → Emits b (line.Normal ∷ []) c → (e : Event) → e ≡ rows.Replied serial rm reply → KeepsUp {T = Unit {0}} (Ok tt) e clock r new sh after a b → TellsRows {T = Unit {0}} (Ok tt) e clock r new sh after a b
            → DoesRequest {T = Unit {0}} (Ok tt) (AckEvent who rm reply) clock r new sh after a c
        ack_serves c since shows e is keeps does = told_serves rows_keep_up (AckEvent who rm reply) (rows.Replied serial rm reply) clock r r new sh sh after a b refl (omega arith, omega arith) (omega arith) refl (λ n. []) ack_told c line.Normal since shows (λ s. refl) refl
            (unrefused (AckEvent who rm reply) who clock r sh a b refl (λ name x s. refl) made) (λ ws. refl) (subst (λ x. KeepsUp {T = Unit {0}} (Ok tt) x clock r new sh after a b) is keeps) (subst (λ x. TellsRows {T = Unit {0}} (Ok tt) x clock r new sh after a b) is does)
            (λ s n h share kept stands. refl)

-- A manager joins.

first_assoc : (x y z : Option Line) → first_of (first_of x y) z ≡ first_of x (first_of y z)
first_assoc (Some l) y z = refl
first_assoc None y z = refl

join_order : (u d j m : Option Line) → first_of (first_of None (first_of u (first_of d j))) m ≡ first_of u (first_of d (first_of j m))
join_order (Some l) d j m = refl
join_order None d j m = first_assoc d j m

join_unheard : (n : Node) (rm : Name) (m : Option Line) (o : Option Id) (l : Line) → first_of m (without_serial o) ≡ Some l →
    (let x : Option Branch = option_and_then (λ serial. find_branch serial n.volatile.branches) o in first_of (first_of m (first_of (unsettled x) (first_of (declared_manager n rm) (in_state (is_joinable rm) x)))) (option_and_then more_managers x)) ≡ Some l
join_unheard n rm (Some k) o l h = h
join_unheard n rm None None l h = h
join_unheard n rm None (Some i) l h = absurd (no_line l h)

module _ (label : List ℕ) (rm : Name) (clock : ℕ) (r : Up) (sh : SharedState) (a b : Shown) where
  pub join_unheard_refuses : (l : Line) → IsUp r → Since a b → Emits a (l ∷ []) b → unheard_in (ByLabel label) sh.labels r ≡ Some l → DoesRequest {T = Unit {0}} (Ok tt) (JoinRm label rm) clock r r sh sh a b
  join_unheard_refuses l up since shows unheard = serial_refuses (JoinRm label rm) (ByLabel label) clock r sh a b refl (λ name x s. refl) l up since shows unheard (λ s n h. join_unheard n rm (made_name s n (ByLabel label)) (serial_labelled n.name label s.labels) l h)

  module _ (serial : Id) (found : serial_in (ByLabel label) sh.labels r ≡ Some serial) (made : made_in (name_of r) label sh.labels ≡ None) where
    join_branch : (s : Shared) (n : Node) → UpRepresents clock r n → IsShared sh s → branch_labelled s n label ≡ find_serial serial r.tm.table
    join_branch s n h share = ap (option_and_then (λ (i : Id). find_branch i n.volatile.branches)) (serial_is clock r sh s n h share (ByLabel label) ∙ found) ∙ branch_found serial n.volatile.branches ∙ ap (find_serial serial) (branches_are clock r sh s n h share)

    join_refused : (s : Shared) (n : Node) → UpRepresents clock r n → IsShared sh s → first_of ((service (JoinRm label rm)).refused_before_reading s n) ((service (JoinRm label rm)).refused_after_reading s n) ≡ refused_joining rm r.declared (find_serial serial r.tm.table)
    join_refused s n h share =
        let x : branch_labelled s n label ≡ find_serial serial r.tm.table = join_branch s n h share in
        (λ i. first_of (first_of ((made_name_is (ByLabel label) clock r sh s n h share ∙ made) i) (first_of (unsettled (x i)) (first_of (undeclared_is clock r sh s n h share rm i) (in_state (is_joinable rm) (x i))))) (option_and_then more_managers (x i)))
        ∙ join_order (unsettled (find_serial serial r.tm.table)) (undeclared rm r.declared) (in_state (is_joinable rm) (find_serial serial r.tm.table)) (option_and_then more_managers (find_serial serial r.tm.table))

    pub join_refuses : (l : Line) → IsUp r → Since a b → Emits a (l ∷ []) b → ((s : Said) → line_said l s ≡ s) → is_served l ≡ true → refused_joining rm r.declared (find_serial serial r.tm.table) ≡ Some l → DoesRequest {T = Unit {0}} (Ok tt) (JoinRm label rm) clock r r sh sh a b
    join_refuses l up since shows quiet served refused = error_refuses (JoinRm label rm) (ByLabel label) clock r sh a b refl (λ name x s. refl) made l up since shows quiet served (λ s n h share. join_refused s n h share ∙ refused)

    module _ (none : refused_joining rm r.declared (find_serial serial r.tm.table) ≡ None) where
      first_two : (x y : Option Line) → first_of x y ≡ None → (x ≡ None) × (y ≡ None)
      first_two None y e = (refl, e)
      first_two (Some l) y e = absurd (no_line l (sym e))

      is_there : (o : Option Branch) → refused_joining rm r.declared o ≡ None → (x : Branch) × (o ≡ Some x)
      is_there (Some x) e = (x, refl)
      is_there None e = absurd (no_line line.NoSuchTransaction (sym e))

      join_told : (s : Shared) (n : Node) → UpRepresents clock r n → IsShared sh s → IsKeptNode s n → IsToldBy (JoinRm label rm) [] (rows.JoinRm serial rm) clock r sh s n
      join_told s n h share kept =
          let w = is_there (find_serial serial r.tm.table) none in
          let two = first_two ((service (JoinRm label rm)).refused_before_reading s n) ((service (JoinRm label rm)).refused_after_reading s n) (join_refused s n h share ∙ none) in
          record {
            early = two.0;
            late = two.1;
            rows = row_of s n (branch_labelled s n label) w.0 (λ x. told_rows s n (just (rows.JoinRm x.key.serial rm))) (join_branch s n h share ∙ w.1) ∙ ap (λ (i : Id). told_rows s n (just (rows.JoinRm i rm))) (find_serial-serial serial r.tm.table w.0 w.1);
            stands = h;
            shares = share;
            new = tt;
          }

      module _ (rows_keep_up : RowsKeepUp) (new : Up) (after : SharedState) where
        pub join_serves : (c : Shown) → Since b c → Emits b (line.Normal ∷ []) c → (e : Event) → e ≡ rows.JoinRm serial rm → KeepsUp {T = Unit {0}} (Ok tt) e clock r new sh after a b → TellsRows {T = Unit {0}} (Ok tt) e clock r new sh after a b
            → DoesRequest {T = Unit {0}} (Ok tt) (JoinRm label rm) clock r new sh after a c
        join_serves c since shows e is keeps does = told_serves rows_keep_up (JoinRm label rm) (rows.JoinRm serial rm) clock r r new sh sh after a b refl (omega arith, omega arith) (omega arith) refl (λ n. []) join_told c line.Normal since shows (λ s. refl) refl
            (unrefused (JoinRm label rm) (ByLabel label) clock r sh a b refl (λ name x s. refl) made) (λ ws. refl) (subst (λ x. KeepsUp {T = Unit {0}} (Ok tt) x clock r new sh after a b) is keeps) (subst (λ x. TellsRows {T = Unit {0}} (Ok tt) x clock r new sh after a b) is does)
            (λ s n h share kept stands. refl)

-- A manager that joins uses no disk.
pub joins_surely : (o : Option Branch) (rm : Name) (rs : List LogRecord) → list_any uses_disk (effects_of (note_row (with_manager rm) o) rs) ≡ true → ⊥
joins_surely None rm rs h = let f : ⊥ = cc in f
joins_surely (Some b) rm rs h = go b.state h
  where
    go : (s : State) → list_any uses_disk (effects_of (rows.note_state (with_manager rm) b s) rs) ≡ true → ⊥
    go Joining e = let f : ⊥ = cc in f
    go Active e = let f : ⊥ = cc in f
    go Ending e = let f : ⊥ = cc in f
    go Voting e = let f : ⊥ = cc in f
    go Prepared e = let f : ⊥ = cc in f
