-- ADD_BRANCH at a node that is up.
use Rattle.std.proofs.Common.{◌≡◌, ℕ, List, [], ◌∷◌, Bool, true, false, Option, Some, None, Ok, length, nat_le, nat_lt, refl, ◌∙◌, ap, sym, subst, arith}
use Rattle.std.specs.Prelude.{not, ◌&&◌}
use Rattle.std.specs.Option.{option_and_then}
use Rattle.std.proofs.lemmas.Bool.{and_from, leb-false, lt-ltb}
use Rattle.vms_model.specs.Limits.{bid_limit}
use Rattle.emitter_model.specs.commit_protocol.Allowed.{may_authorise, there_is}
use Rattle.emitter_model.specs.commit_protocol.Rows as rows
use Rattle.emitter_model.specs.commit_protocol.Table.{Branch, find, find_serial, first}
use Rattle.vms_model.specs.Ids.{Id}
use Rattle.emitter_model.specs.Emitting.{Emits, Shown, Since}
use Rattle.emitter_model.specs.transcript_model.Lines as line
use Rattle.emitter_model.specs.transcript_model.Lines.{Line}
use Rattle.script_lang.specs.script_model.Statements.{AddBranch}
use Rattle.file_requests.specs.run_said.Said.{line_said, refused_by_lines, request_said}
use Rattle.file_requests.specs.said_steps.Answers.{is_served}
use Rattle.world_laws.specs.run_model.Operations.{first_of, refused_if}
use Rattle.world_laws.specs.run_model.World.{Draws, Node, Shared, acted}
use Rattle.world_laws.specs.run_model.Answers.{branch_labelled, in_state, is_first_active, made_label, more_bids, new_label, service, unsettled, unsettled_label}
use Rattle.world_laws.specs.Nodes.{RowsKeepUp}
use Rattle.run_shared.specs.Sharing.{IsShared, SharedState}
use Rattle.node_table.specs.Running.{KeepsUp, TellsRows}
use Rattle.node_table.specs.Standing.{IsUp, Up, UpRepresents}
use Rattle.node_requests.specs.Labelled.{branch_in, made_in, unsettled_in}
use Rattle.node_requests.specs.Requests.{DoesRequest, node_up}
use Rattle.node_requests.specs.Running.{name_of}
use Rattle.file_requests.specs.node_standing.Telling.{said_shared}
use Rattle.node_requests.specs.Transacting.{new_in}
use Rattle.node_requests.proofs.Drawing.{add_acts, add_told, id_next, new_is, next_is, with_drawn}
use Rattle.node_requests.proofs.Ending.{first_parts, first_there}
use Rattle.node_requests.proofs.Labels.{made_says}
use Rattle.node_requests.proofs.Starting.{new_says, no_line, one_line}
use Rattle.node_requests.proofs.Statements.{branch_is, made_is}
use Rattle.node_requests.proofs.Transacting.{IsToldBy, first_more, refuses, told_serves}

-- a branch that is asked for is not there
unsettled_line : (o : Option Branch) (l : Line) → unsettled o ≡ Some l → l ≡ line.NoSuchTransaction
unsettled_line None l e = sym (one_line line.NoSuchTransaction l e)
unsettled_line (Some b) l e = absurd (no_line l e)

-- one branch more may be authorised for a first branch that is active
bids_allow : (active : Bool) (k : ℕ) → active ≡ true → nat_le bid_limit k ≡ false → (active && nat_lt k 15) ≡ true
bids_allow active k is few = and_from active (nat_lt k 15) is (lt-ltb k 15 (leb-false bid_limit k few))

pub adds_allowed : (bs : List Branch) (b : Branch) → find_serial b.key.serial bs ≡ Some b → is_first_active b ≡ true → nat_le bid_limit (length b.bids) ≡ false → there_is (find (first b.key.tid) bs) may_authorise ≡ true
adds_allowed bs b found h few = ap (λ (o : Option Branch). there_is o may_authorise) (first_there bs b found (first_parts b h).0) ∙ bids_allow _ (length b.bids) (first_parts b h).1 few

module _ (label other new : List ℕ) (clock : ℕ) (r : Up) (sh : SharedState) (a b : Shown) (up : IsUp r) where
  by_lines : refused_by_lines (said_shared sh) (node_up (name_of r)) (AddBranch label other new) ≡ first_of (made_in (name_of r) label sh.labels) (new_in new sh.labels)
  by_lines = λ i. first_of (made_says (name_of r) label sh.labels i) (new_says new sh.labels i)

  -- its label names nothing of this node, or the other may not be made
  pub add_unlabelled : Since a b → Emits a (line.BadLabel ∷ []) b → first_of (made_in (name_of r) label sh.labels) (new_in new sh.labels) ≡ Some line.BadLabel → DoesRequest {T = Unit {0}} (Ok tt) (AddBranch label other new) clock r r sh sh a b
  add_unlabelled since shows bad = refuses (AddBranch label other new) clock r sh a b line.BadLabel up since shows (λ s. refl) (λ s. refl) (λ refusal e. one_line line.BadLabel refusal (sym bad ∙ sym by_lines ∙ e)) (λ e. absurd (no_line line.BadLabel (sym e ∙ by_lines ∙ bad)))
      (λ s n h share kept. ap (λ x. first_of x ((service (AddBranch label other new)).refused_after_reading s n)) (first_more (made_label s n label) (new_label s new) (first_of (unsettled_label s n label) (in_state is_first_active (branch_labelled s n label))) line.BadLabel
      ((λ i. first_of (made_is clock r sh s n h share label i) (new_is clock r sh s n h share new i)) ∙ bad)))

  module _ (made : made_in (name_of r) label sh.labels ≡ None) (fresh : new_in new sh.labels ≡ None) where
    unrefused : refused_by_lines (said_shared sh) (node_up (name_of r)) (AddBranch label other new) ≡ None
    unrefused = by_lines ∙ (λ i. first_of (made i) (fresh i))

    branch_early : (s : Shared) (n : Node) → UpRepresents clock r n → IsShared sh s → (o : Option Branch) → branch_in (name_of r) label sh.labels r.tm.table ≡ o → (service (AddBranch label other new)).refused_before_reading s n ≡ first_of (unsettled o) (in_state is_first_active o)
    branch_early s n h share o found = (λ i. first_of ((made_is clock r sh s n h share label ∙ made) i) (first_of ((new_is clock r sh s n h share new ∙ fresh) i) (first_of (unsettled_label s n label) (in_state is_first_active (branch_labelled s n label)))))
        ∙ (λ i. first_of (unsettled ((branch_is clock r sh s n h share label ∙ found) i)) (in_state is_first_active ((branch_is clock r sh s n h share label ∙ found) i)))

    -- it names no branch
    pub add_missing : (l : Line) → Since a b → Emits a (l ∷ []) b → unsettled_in (name_of r) label sh.labels r.tm.table ≡ Some l → DoesRequest {T = Unit {0}} (Ok tt) (AddBranch label other new) clock r r sh sh a b
    add_missing l since shows missing =
        let found = branch_in (name_of r) label sh.labels r.tm.table in
        let none : unsettled found ≡ Some l = sym (ap (λ x. first_of x (unsettled found)) made) ∙ missing in
        let is : l ≡ line.NoSuchTransaction = unsettled_line found l none in
        refuses (AddBranch label other new) clock r sh a b l up since shows (λ s. ap (λ x. line_said x s) is) (λ s. ap (λ x. request_said (name_of r) (AddBranch label other new) x s) is) (λ refusal e. absurd (no_line refusal (sym unrefused ∙ e))) (λ e. ap is_served is)
        (λ s n h share kept. ap (λ x. first_of x ((service (AddBranch label other new)).refused_after_reading s n)) (branch_early s n h share found refl ∙ ap (λ x. first_of x (in_state is_first_active found)) none))

    module _ (x : Branch) (found : branch_in (name_of r) label sh.labels r.tm.table ≡ Some x) where
      -- it is no first branch that is active
      pub add_inactive : Since a b → Emits a (line.WrongState ∷ []) b → is_first_active x ≡ false → DoesRequest {T = Unit {0}} (Ok tt) (AddBranch label other new) clock r r sh sh a b
      add_inactive since shows fails = refuses (AddBranch label other new) clock r sh a b line.WrongState up since shows (λ s. refl) (λ s. refl) (λ refusal e. absurd (no_line refusal (sym unrefused ∙ e))) (λ e. refl)
          (λ s n h share kept. ap (λ o. first_of o ((service (AddBranch label other new)).refused_after_reading s n)) (branch_early s n h share (Some x) found ∙ ap (λ (t : Bool). refused_if (not t) line.WrongState) fails))

      module _ (first : is_first_active x ≡ true) where
        -- as many branches are authorised as may be
        pub add_full : Since a b → Emits a (line.QuotaExceeded line.Bids bid_limit ∷ []) b → nat_le bid_limit (length x.bids) ≡ true → DoesRequest {T = Unit {0}} (Ok tt) (AddBranch label other new) clock r r sh sh a b
        add_full since shows full = refuses (AddBranch label other new) clock r sh a b (line.QuotaExceeded line.Bids bid_limit) up since shows (λ s. refl) (λ s. refl) (λ refusal e. absurd (no_line refusal (sym unrefused ∙ e))) (λ e. refl)
            (λ s n h share kept. (λ i. first_of ((branch_early s n h share (Some x) found ∙ ap (λ (t : Bool). refused_if (not t) line.WrongState) first) i) (option_and_then more_bids ((branch_is clock r sh s n h share label ∙ found) i)))
            ∙ ap (λ (t : Bool). refused_if t (line.QuotaExceeded line.Bids bid_limit)) full)

        module _ (few : nat_le bid_limit (length x.bids) ≡ false) (rows_keep_up : RowsKeepUp) (draws : (n : Node) → UpRepresents clock r n → UpRepresents clock (with_drawn r) (acted Draws n)) (after_up : Up) (after : SharedState) where
          abbrev pub labelled_so : Id → SharedState
          labelled_so id = record sh { labels = record { name = new; node = other; tid = x.key.tid; bid = Some id; serial = None } ∷ sh.labels }

          pub add_done : (id : Id) → id ≡ id_next r → (c : Shown) → Since b c → Emits b (line.NormalId id ∷ []) c → (mid : SharedState) → mid ≡ labelled_so id
              → KeepsUp {T = Unit {0}} (Ok tt) (rows.Authorise x.key.tid id) clock (with_drawn r) after_up mid after a b → TellsRows {T = Unit {0}} (Ok tt) (rows.Authorise x.key.tid id) clock (with_drawn r) after_up mid after a b
              → DoesRequest {T = Unit {0}} (Ok tt) (AddBranch label other new) clock r after_up sh after a c
          add_done id is c since shows mid made_so keeps does = told_serves rows_keep_up (AddBranch label other new) (rows.Authorise x.key.tid id) clock r (with_drawn r) after_up sh (labelled_so id) after a b refl (omega arith, omega arith) (omega arith) refl
              (add_acts clock r sh label other new draws x found)
              (λ s n h share kept. subst (λ y. IsToldBy (AddBranch label other new) (add_acts clock r sh label other new draws x found n) (rows.Authorise x.key.tid y) clock (with_drawn r) (labelled_so y) s n) (sym is)
              (add_told clock r sh label other new draws x found made fresh first (ap (λ (t : Bool). refused_if t (line.QuotaExceeded line.Bids bid_limit)) few) s n h share kept))
              c (line.NormalId id) since shows (λ s. refl) refl unrefused (λ ws. refl)
              (subst (λ m. KeepsUp {T = Unit {0}} (Ok tt) (rows.Authorise x.key.tid id) clock (with_drawn r) after_up m after a b) made_so keeps)
              (subst (λ m. TellsRows {T = Unit {0}} (Ok tt) (rows.Authorise x.key.tid id) clock (with_drawn r) after_up m after a b) made_so does)
              (λ s n h share kept stands. ap line.NormalId (next_is clock r sh s n h share ∙ sym is))
