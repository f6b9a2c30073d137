-- START_BRANCH at a node that is up.
use Rattle.std.proofs.Common.{◌≡◌, ℕ, ◌+◌, List, [], ◌∷◌, ◌++◌, Bool, true, false, Option, Some, None, Result, Ok, Err, map, refl, ◌∙◌, ap, sym, subst, arith}
use Rattle.std.specs.Prelude.{IfErr, IfOk, if◌then◌else◌, is_ok, not}
use Rattle.std.specs.Borrow.{Bor}
use Rattle.std.specs.Str.{bytes_eq}
use Rattle.emitter_model.specs.commit_protocol.Rows as rows
use Rattle.emitter_model.specs.commit_protocol.Table.{Branch, branch_serials, record_serials}
use Rattle.emitter_model.specs.commit_protocol.World.{In}
use Rattle.tm_types.specs.Branches.{branch_of}
use Rattle.tm_types.specs.declared.branch.BranchState.{BranchState}
use Rattle.transcript.specs.Forms.{line_of}
use Rattle.transcript.specs.declared.form.Form.{Form}
use Rattle.vms_model.specs.Ids.{Id}
use Rattle.emitter_model.specs.Emitting.{Emits, Shown, Since}
use Rattle.emitter_model.specs.transcript_model.Lines as line
use Rattle.emitter_model.specs.transcript_model.Lines.{Line}
use Rattle.script_lang.specs.script_model.Statements.{StartBranch}
use Rattle.file_requests.specs.run_said.Said.{SaidLabel, refused_by_lines}
use Rattle.world_laws.specs.run_model.Operations.{first_of}
use Rattle.world_laws.specs.run_model.World.{Draws, Label, Node, Shared, acted, labelled, with_serial}
use Rattle.world_laws.specs.run_model.Answers.{authorised, branch_labelled, in_state, more_branches, service, unsettled}
use Rattle.world_laws.specs.Nodes.{RowsKeepUp}
use Rattle.run_shared.specs.Sharing.{IsShared, SharedState}
use Rattle.node_table.specs.Running.{KeepsUp, TellsRows}
use Rattle.node_table.specs.Standing.{IsUp, Up, UpRepresents}
use Rattle.node_requests.specs.Labelled.{branch_in, made_in, unsettled_in}
use Rattle.node_requests.specs.Requests.{DoesRequest, node_up}
use Rattle.node_requests.specs.Running.{name_of}
use Rattle.file_requests.specs.node_standing.Telling.{said_label, said_shared}
use Rattle.node_requests.specs.Transacting.{IsQuota, more_in}
use Rattle.node_requests.proofs.Drawing.{begin_acts, begin_told, id_next, more_is, next_free, next_is, with_drawn}
use Rattle.node_requests.proofs.Labels.{made_says}
use Rattle.node_requests.proofs.Starting.{no_line, one_line, quota_other, quota_quiet}
use Rattle.node_requests.proofs.Statements.{branch_is, made_is}
use Rattle.node_requests.proofs.Transacting.{IsToldBy, refuses, told_serves}

-- A branch that is looked for: there is one, or a line refuses it.

pub found_one : {Y : Type 0} (r : Result (Bor BranchState) Y) (o : Option Branch) → is_ok r ≡ true → IfOk r (λ x. o ≡ Some (branch_of x.now)) → (b : Branch) × (o ≡ Some b)
found_one (Ok x) o is h = (branch_of x.now, h)
found_one (Err y) o is h = let no : ⊥ = cc in absurd no

pub found_none : {X : Type 0} (r : Result X Form) (o : Option Line) → is_ok r ≡ false → IfErr r (λ form. o ≡ Some (line_of form)) → (l : Line) × (o ≡ Some l)
found_none (Ok x) o is h = let no : ⊥ = cc in absurd no
found_none (Err form) o is h = (line_of form, h)

-- a label of a node refuses nothing
pub labelled_free : (node label : List ℕ) (ls : List Label) (l : Label) → labelled node label ls ≡ Some l → made_in node label ls ≡ None
labelled_free node label ls l e = ap (λ (o : Option Label). elim o [ Some k ↦ None | None ↦ Some line.BadLabel ]) e

pub labelled_bad : (node label : List ℕ) (ls : List Label) → labelled node label ls ≡ None → made_in node label ls ≡ Some line.BadLabel
labelled_bad node label ls e = ap (λ (o : Option Label). elim o [ Some k ↦ None | None ↦ Some line.BadLabel ]) e

-- lines do not tell a label's serial
said_numbered : (name : List ℕ) (serial : Id) (ls : List Label) → map said_label (with_serial name serial ls) ≡ map said_label ls
said_numbered name serial [] = refl
said_numbered name serial (l ∷ ls) = go (bytes_eq name l.name) (said_numbered name serial ls)
  where
    go : (t : Bool) → map said_label (with_serial name serial ls) ≡ map said_label ls → map said_label (if t then record l { serial = Some serial } ∷ ls else l ∷ with_serial name serial ls) ≡ said_label l ∷ map said_label ls
    go true h = refl
    go false h = ap (λ ks. said_label l ∷ ks) h

-- a label whose branch is asked for names none
no_branch : (o : Option Branch) (l : Line) → unsettled o ≡ Some l → o ≡ None
no_branch None l e = refl
no_branch (Some b) l e = absurd (no_line l e)

pub branch_missing : (node label : List ℕ) (ls : List Label) (bs : List Branch) (l : Line) → made_in node label ls ≡ None → unsettled_in node label ls bs ≡ Some l → branch_in node label ls bs ≡ None
branch_missing node label ls bs l made e = no_branch (branch_in node label ls bs) l (sym (ap (λ x. first_of x (unsettled (branch_in node label ls bs))) made) ∙ e)

module _ (label : List ℕ) (clock : ℕ) (r : Up) (sh : SharedState) (a b : Shown) (up : IsUp r) where
  by_lines : refused_by_lines (said_shared sh) (node_up (name_of r)) (StartBranch label) ≡ made_in (name_of r) label sh.labels
  by_lines = made_says (name_of r) label sh.labels

  -- its label was not made for this node
  pub begin_unlabelled : Since a b → Emits a (line.BadLabel ∷ []) b → labelled (name_of r) label sh.labels ≡ None → DoesRequest {T = Unit {0}} (Ok tt) (StartBranch label) clock r r sh sh a b
  begin_unlabelled since shows none =
      let bad = labelled_bad (name_of r) label sh.labels none in
      refuses (StartBranch label) clock r sh a b line.BadLabel up since shows (λ s. refl) (λ s. refl) (λ refusal e. one_line line.BadLabel refusal (sym bad ∙ sym by_lines ∙ e)) (λ e. absurd (no_line line.BadLabel (sym e ∙ by_lines ∙ bad)))
      (λ s n h share kept. ap (λ x. first_of (first_of x (first_of (elim (labelled n.name label s.labels) [ Some l ↦ authorised l | None ↦ None ]) (in_state (λ y. false) (branch_labelled s n label)))) (more_branches n)) (made_is clock r sh s n h share label ∙ bad))

  module _ (l : Label) (found : labelled (name_of r) label sh.labels ≡ Some l) where
    unrefused : refused_by_lines (said_shared sh) (node_up (name_of r)) (StartBranch label) ≡ None
    unrefused = by_lines ∙ labelled_free (name_of r) label sh.labels l found

    label_early : (s : Shared) (n : Node) → UpRepresents clock r n → IsShared sh s → (o : Option Branch) → branch_in (name_of r) label sh.labels r.tm.table ≡ o → (service (StartBranch label)).refused_before_reading s n ≡ first_of (authorised l) (in_state (λ y. false) o)
    label_early s n h share o at =
        let there : labelled n.name label s.labels ≡ Some l = (λ i. labelled (h.stands.kept.name i) label (share.labels i)) ∙ found in
        λ i. first_of (elim (there i) [ Some x ↦ None | None ↦ Some line.BadLabel ]) (first_of (elim (there i) [ Some x ↦ authorised x | None ↦ None ]) (in_state (λ y. false) ((branch_is clock r sh s n h share label ∙ at) i)))

    -- it names no identifier of a branch
    pub begin_unauthorised : Since a b → Emits a (line.NoSuchBranchId ∷ []) b → l.bid ≡ None → DoesRequest {T = Unit {0}} (Ok tt) (StartBranch label) clock r r sh sh a b
    begin_unauthorised since shows none = refuses (StartBranch label) clock r sh a b line.NoSuchBranchId up since shows (λ s. refl) (λ s. refl) (λ refusal e. absurd (no_line refusal (sym unrefused ∙ e))) (λ e. refl)
        (λ s n h share kept. ap (λ x. first_of x (more_branches n)) (label_early s n h share (branch_in (name_of r) label sh.labels r.tm.table) refl
        ∙ ap (λ (o : Option Id). first_of (elim o [ Some bid ↦ None | None ↦ Some line.NoSuchBranchId ]) (in_state (λ y. false) (branch_in (name_of r) label sh.labels r.tm.table))) none))

    module _ (bid : Id) (authorised_by : l.bid ≡ Some bid) where
      state_early : (s : Shared) (n : Node) → UpRepresents clock r n → IsShared sh s → (o : Option Branch) → branch_in (name_of r) label sh.labels r.tm.table ≡ o → (service (StartBranch label)).refused_before_reading s n ≡ in_state (λ y. false) o
      state_early s n h share o at = label_early s n h share o at ∙ ap (λ (p : Option Id). first_of (elim p [ Some y ↦ None | None ↦ Some line.NoSuchBranchId ]) (in_state (λ y. false) o)) authorised_by

      -- its branch has begun
      pub begin_stands : (x : Branch) → branch_in (name_of r) label sh.labels r.tm.table ≡ Some x → Since a b → Emits a (line.WrongState ∷ []) b → DoesRequest {T = Unit {0}} (Ok tt) (StartBranch label) clock r r sh sh a b
      begin_stands x at since shows = refuses (StartBranch label) clock r sh a b line.WrongState up since shows (λ s. refl) (λ s. refl) (λ refusal e. absurd (no_line refusal (sym unrefused ∙ e))) (λ e. refl)
          (λ s n h share kept. ap (λ o. first_of o (more_branches n)) (state_early s n h share (Some x) at))

      module _ (none : branch_in (name_of r) label sh.labels r.tm.table ≡ None) where
        -- there are as many branches as may be
        pub begin_full : (k : Line) → IsQuota k → Since a b → Emits a (k ∷ []) b → more_in r ≡ Some k → DoesRequest {T = Unit {0}} (Ok tt) (StartBranch label) clock r r sh sh a b
        begin_full k quota since shows full = refuses (StartBranch label) clock r sh a b k up since shows (quota_quiet k quota) (λ s. refl) (λ refusal e. absurd (no_line refusal (sym unrefused ∙ e))) (λ e. quota_other k quota)
            (λ s n h share kept. (λ i. first_of (state_early s n h share None none i) (more_is clock r sh s n h share i)) ∙ full)

        -- its serial stands in the table or in the log, which it does on no disk that tells its content
        pub begin_taken : Since a b → Emits a (line.WrongState ∷ []) b → In (id_next r) (branch_serials r.tm.table ++ record_serials r.tm.records) → DoesRequest {T = Unit {0}} (Ok tt) (StartBranch label) clock r r sh sh a b
        begin_taken since shows taken = refuses (StartBranch label) clock r sh a b line.WrongState up since shows (λ s. refl) (λ s. refl) (λ refusal e. absurd (no_line refusal (sym unrefused ∙ e))) (λ e. refl)
            (λ s n h share kept. absurd (next_free clock r sh s n h share kept taken))

        module _ (room : more_in r ≡ None) (rows_keep_up : RowsKeepUp) (draws : (n : Node) → UpRepresents clock r n → UpRepresents clock (with_drawn r) (acted Draws n)) (new : Up) (after : SharedState) where
          abbrev pub numbered_so : Id → SharedState
          numbered_so serial = record sh { labels = with_serial l.name serial sh.labels }

          pub begin_done : (serial : Id) → serial ≡ id_next r → (c : Shown) → Since b c → Emits b (line.Pending (serial ∷ []) [] ∷ []) c → (mid : SharedState) → mid ≡ numbered_so serial
              → KeepsUp {T = Unit {0}} (Ok tt) (rows.Begin l.tid serial bid) clock (with_drawn r) new mid after a b → TellsRows {T = Unit {0}} (Ok tt) (rows.Begin l.tid serial bid) clock (with_drawn r) new mid after a b
              → DoesRequest {T = Unit {0}} (Ok tt) (StartBranch label) clock r new sh after a c
          begin_done serial is c since shows mid made_so keeps does = told_serves rows_keep_up (StartBranch label) (rows.Begin l.tid serial bid) clock r (with_drawn r) new sh (numbered_so serial) after a b refl (omega arith, omega arith) (omega arith) refl
              (begin_acts clock r sh label draws l bid found authorised_by)
              (λ s n h share kept. subst (λ y. IsToldBy (StartBranch label) (begin_acts clock r sh label draws l bid found authorised_by n) (rows.Begin l.tid y bid) clock (with_drawn r) (numbered_so y) s n) (sym is)
              (begin_told clock r sh label draws l bid found authorised_by none room s n h share kept))
              c (line.Pending (serial ∷ []) []) since shows (λ s. refl) refl unrefused
              (λ ws. ap (λ (ks : List SaidLabel). record { nodes = node_up (name_of r) ∷ []; shared = record { labels = ks; in_use = sh.in_use; wire = ws } }) (sym (said_numbered l.name serial sh.labels)))
              (subst (λ m. KeepsUp {T = Unit {0}} (Ok tt) (rows.Begin l.tid serial bid) clock (with_drawn r) new m after a b) made_so keeps)
              (subst (λ m. TellsRows {T = Unit {0}} (Ok tt) (rows.Begin l.tid serial bid) clock (with_drawn r) new m after a b) made_so does)
              (λ s n h share kept stands. ap (λ (y : Id). line.Pending (y ∷ []) []) (next_is clock r sh s n h share ∙ sym is))
