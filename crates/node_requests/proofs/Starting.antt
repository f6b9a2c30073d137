-- START_TRANS at a node that is up.
use Rattle.std.proofs.Common.{◌≡◌, ℕ, ◌<◌, ◌+◌, List, [], ◌∷◌, ◌++◌, Bool, true, false, Option, Some, None, Ok, map, length, nat_le, refl, ◌∙◌, ap, sym, subst, arith}
use Rattle.std.proofs.lemmas.Bool.{lt-leb}
use Rattle.std.proofs.lemmas.List.{length-map}
use Rattle.std.specs.Option.{option_map}
use Rattle.vms_model.specs.Limits.{label_limit}
use Rattle.emitter_model.specs.commit_protocol.Rows as rows
use Rattle.emitter_model.specs.commit_protocol.Table.{branch_serials, record_serials}
use Rattle.emitter_model.specs.commit_protocol.World.{In}
use Rattle.vms_model.specs.Ids.{Id}
use Rattle.emitter_model.specs.Emitting.{Emits, Shown, Since}
use Rattle.emitter_model.specs.transcript_model.Lines as line
use Rattle.emitter_model.specs.transcript_model.Lines.{Line}
use Rattle.script_lang.specs.script_model.Statements.{StartTrans}
use Rattle.file_requests.specs.run_said.Said.{Said, line_said, new_said, refused_by_lines, request_said}
use Rattle.file_requests.specs.said_steps.Answers.{is_served}
use Rattle.world_laws.specs.run_model.Operations.{first_of, refused_if}
use Rattle.world_laws.specs.run_model.World.{Draws, Label, Node, Shared, acted, find_label}
use Rattle.world_laws.specs.run_model.Answers.{more_branches, new_label, seconds_refused}
use Rattle.world_laws.specs.Nodes.{RowsKeepUp}
use Rattle.run_shared.specs.Sharing.{IsShared, SharedState}
use Rattle.node_table.specs.Running.{KeepsUp, TellsRows}
use Rattle.node_table.specs.Standing.{IsUp, Up, UpRepresents}
use Rattle.node_requests.specs.Requests.{DoesRequest, node_up}
use Rattle.node_requests.specs.Running.{name_of}
use Rattle.file_requests.specs.node_standing.Telling.{said_label, said_shared}
use Rattle.node_requests.specs.Transacting.{IsQuota, due_in, more_in, new_in}
use Rattle.node_requests.proofs.Drawing.{id_next, more_is, new_is, next_free, next_is, start_acts, start_told, with_drawn}
use Rattle.node_requests.proofs.Labels.{said_found}
use Rattle.node_requests.proofs.Transacting.{IsToldBy, refuses, told_serves}

pub no_line : (x : Line) → ◌≡◌ {A = Option Line} None (Some x) → ⊥
no_line x e = cc

pub one_line : (x y : Line) → ◌≡◌ {A = Option Line} (Some x) (Some y) → x ≡ y
one_line x y e = cc

-- lines tell whether a label may be made
pub new_says : (name : List ℕ) (ls : List Label) → new_said (map said_label ls) name ≡ new_in name ls
new_says name ls =
    ap (λ o. elim o [ Some l ↦ Some line.BadLabel | None ↦ refused_if (nat_le label_limit (length (map said_label ls))) line.BadLabel ]) (said_found name ls)
    ∙ go (find_label name ls) ∙ ap (λ (k : ℕ). elim (find_label name ls) [ Some l ↦ Some line.BadLabel | None ↦ refused_if (nat_le label_limit k) line.BadLabel ]) (length-map ls said_label)
  where
    go : (o : Option Label) → ◌≡◌ {A = Option Line} (elim (option_map said_label o) [ Some l ↦ Some line.BadLabel | None ↦ refused_if (nat_le label_limit (length (map said_label ls))) line.BadLabel ]) (elim o [ Some l ↦ Some line.BadLabel | None ↦ refused_if (nat_le label_limit (length (map said_label ls))) line.BadLabel ])
    go (Some l) = refl
    go None = refl

-- a label that may be made is refused by nothing
pub made_free : (name : List ℕ) (ls : List Label) → (find_label name ls ≡ None) × (length ls < label_limit) → new_in name ls ≡ None
made_free name ls h = ap (λ (o : Option Label). elim o [ Some l ↦ Some line.BadLabel | None ↦ refused_if (nat_le label_limit (length ls)) line.BadLabel ]) h.0 ∙ ap (λ (t : Bool). refused_if t line.BadLabel) (lt-leb label_limit (length ls) h.1)

-- A quota is told by a line that says nothing else.

pub quota_quiet : (l : Line) → IsQuota l → (s : Said) → line_said l s ≡ s
quota_quiet (line.QuotaExceeded quota limit) q s = refl
quota_quiet _ q s = absurd q

pub quota_other : (l : Line) → IsQuota l → is_served l ≡ true
quota_other (line.QuotaExceeded quota limit) q = refl
quota_other _ q = absurd q

module _ (label : List ℕ) (seconds : Option ℕ) (clock : ℕ) (r : Up) (sh : SharedState) (a b : Shown) (up : IsUp r) where
  by_lines : refused_by_lines (said_shared sh) (node_up (name_of r)) (StartTrans label seconds) ≡ new_in label sh.labels
  by_lines = new_says label sh.labels

  -- its label may not be made
  pub start_unlabelled : Since a b → Emits a (line.BadLabel ∷ []) b → new_in label sh.labels ≡ Some line.BadLabel → DoesRequest {T = Unit {0}} (Ok tt) (StartTrans label seconds) clock r r sh sh a b
  start_unlabelled since shows bad = refuses (StartTrans label seconds) clock r sh a b line.BadLabel up since shows (λ s. refl) (λ s. refl) (λ refusal e. one_line line.BadLabel refusal (sym bad ∙ sym by_lines ∙ e)) (λ e. absurd (no_line line.BadLabel (sym e ∙ by_lines ∙ bad)))
      (λ s n h share kept. ap (λ x. first_of (first_of x (seconds_refused seconds)) (more_branches n)) (new_is clock r sh s n h share label ∙ bad))

  module _ (made : new_in label sh.labels ≡ None) where
    unrefused : refused_by_lines (said_shared sh) (node_up (name_of r)) (StartTrans label seconds) ≡ None
    unrefused = by_lines ∙ made

    behind : (l : Line) (s : Shared) (n : Node) → UpRepresents clock r n → IsShared sh s → first_of (seconds_refused seconds) (more_in r) ≡ Some l → first_of (first_of (new_label s label) (seconds_refused seconds)) (more_branches n) ≡ Some l
    behind l s n h share no_more = (λ i. first_of (first_of ((new_is clock r sh s n h share label ∙ made) i) (seconds_refused seconds)) (more_is clock r sh s n h share i)) ∙ no_more

    -- it is given too many seconds, or none
    pub start_untimed : Since a b → Emits a (line.BadParameter ∷ []) b → seconds_refused seconds ≡ Some line.BadParameter → DoesRequest {T = Unit {0}} (Ok tt) (StartTrans label seconds) clock r r sh sh a b
    start_untimed since shows bad = refuses (StartTrans label seconds) clock r sh a b line.BadParameter up since shows (λ s. refl) (λ s. refl) (λ refusal e. absurd (no_line refusal (sym unrefused ∙ e))) (λ e. refl)
        (λ s n h share kept. behind line.BadParameter s n h share (ap (λ x. first_of x (more_in r)) bad))

    module _ (given : seconds_refused seconds ≡ None) where
      -- there are as many branches as may be
      pub start_full : (l : Line) → IsQuota l → Since a b → Emits a (l ∷ []) b → more_in r ≡ Some l → DoesRequest {T = Unit {0}} (Ok tt) (StartTrans label seconds) clock r r sh sh a b
      start_full l quota since shows full = refuses (StartTrans label seconds) clock r sh a b l up since shows (quota_quiet l quota) (said_quota l quota) (λ refusal e. absurd (no_line refusal (sym unrefused ∙ e))) (λ e. quota_other l quota)
          (λ s n h share kept. behind l s n h share (ap (λ x. first_of x (more_in r)) given ∙ full))
        where
          said_quota : (k : Line) → IsQuota k → (s : Said) → request_said (name_of r) (StartTrans label seconds) k s ≡ s
          said_quota (line.QuotaExceeded quota limit) q s = refl
          said_quota _ q s = absurd q

      -- its id stands in the table or in the log, which it does on no disk that tells its content
      pub start_taken : Since a b → Emits a (line.WrongState ∷ []) b → In (id_next r) (branch_serials r.tm.table ++ record_serials r.tm.records) → DoesRequest {T = Unit {0}} (Ok tt) (StartTrans label seconds) clock r r sh sh a b
      start_taken since shows taken = refuses (StartTrans label seconds) clock r sh a b line.WrongState up since shows (λ s. refl) (λ s. refl) (λ refusal e. absurd (no_line refusal (sym unrefused ∙ e))) (λ e. refl)
          (λ s n h share kept. absurd (next_free clock r sh s n h share kept taken))

      module _ (room : more_in r ≡ None) (rows_keep_up : RowsKeepUp) (draws : (n : Node) → UpRepresents clock r n → UpRepresents clock (with_drawn r) (acted Draws n)) (new : Up) (after : SharedState) where
        abbrev labelled_so : Id → List ℕ → SharedState
        labelled_so id node = record sh { labels = record { name = label; node = node; tid = id; bid = None; serial = Some id } ∷ sh.labels }

        pub start_done : (id : Id) → id ≡ id_next r → (node : List ℕ) → node ≡ name_of r → (due : Option ℕ) → due ≡ due_in clock seconds → (c : Shown) → Since b c → Emits b (line.NormalId id ∷ []) c
            → (mid : SharedState) → mid ≡ labelled_so id node
            → KeepsUp {T = Unit {0}} (Ok tt) (rows.Start id due) clock (with_drawn r) new mid after a b → TellsRows {T = Unit {0}} (Ok tt) (rows.Start id due) clock (with_drawn r) new mid after a b
            → DoesRequest {T = Unit {0}} (Ok tt) (StartTrans label seconds) clock r new sh after a c
        start_done id is node named due due_is c since shows mid made_so keeps does = told_serves rows_keep_up (StartTrans label seconds) (rows.Start id due) clock r (with_drawn r) new sh (labelled_so id node) after a b refl (omega arith, omega arith) (omega arith) refl (start_acts clock r sh label seconds draws)
            (λ s n h share kept. subst (λ x. IsToldBy (StartTrans label seconds) (start_acts clock r sh label seconds draws n) (rows.Start x due) clock (with_drawn r) (labelled_so x node) s n) (sym is)
            (subst (λ x. IsToldBy (StartTrans label seconds) (start_acts clock r sh label seconds draws n) (rows.Start (id_next r) due) clock (with_drawn r) (labelled_so (id_next r) x) s n) (sym named)
            (subst (λ x. IsToldBy (StartTrans label seconds) (start_acts clock r sh label seconds draws n) (rows.Start (id_next r) x) clock (with_drawn r) (labelled_so (id_next r) (name_of r)) s n) (sym due_is)
            (start_told clock r sh label seconds draws made given room s n h share kept))))
            c (line.NormalId id) since shows (λ s. refl) refl unrefused
            (λ ws. ap (λ (x : List ℕ). record { nodes = node_up (name_of r) ∷ []; shared = record (said_shared (labelled_so id x)) { wire = ws } }) (sym named))
            (subst (λ m. KeepsUp {T = Unit {0}} (Ok tt) (rows.Start id due) clock (with_drawn r) new m after a b) made_so keeps) (subst (λ m. TellsRows {T = Unit {0}} (Ok tt) (rows.Start id due) clock (with_drawn r) new m after a b) made_so does)
            (λ s n h share kept stands. ap line.NormalId (next_is clock r sh s n h share ∙ sym is))
