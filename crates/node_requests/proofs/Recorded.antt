-- A request on records, at a node that is up.
use Rattle.std.proofs.Common.{◌≡◌, ℕ, Bool, true, false, List, [], ◌∷◌, ◌++◌, Option, Some, None, Result, Ok, Err, inl, inr, length, refl, ap, sym, subst, ◌∙◌}
use Rattle.std.specs.Prelude.{OnErr, ◌||◌, nat_lt, not}
use Rattle.std.specs.Option.{option_and_then}
use Rattle.vms_model.specs.Limits.{change_limit}
use Rattle.careful_write.specs.declared.down.Down.{Down}
use Rattle.emitter_model.specs.commit_protocol.Allowed.{is_working}
use Rattle.emitter_model.specs.commit_protocol.Table.{Branch, Tm, find_serial}
use Rattle.emitter_model.specs.Emitting.{Emits, Shown, Since}
use Rattle.emitter_model.specs.transcript_model.Lines as line
use Rattle.emitter_model.specs.transcript_model.Lines.{Line}
use Rattle.script_lang.specs.script_model.Statements as said
use Rattle.script_lang.specs.script_model.Statements.{Operation, Request}
use Rattle.vms_model.specs.Ids.{Id}
use Rattle.records_model.specs.Records.{Change}
use Rattle.file_requests.specs.run_said.Said.{refused_by_lines}
use Rattle.file_requests.specs.said_steps.Answers.{is_served}
use Rattle.world_laws.specs.run_model.Answers.{Serves, branch_labelled, directed, found_refused, images_full, in_state, is_marked, journal_full, keys_refused, more_changes, more_locks, needs_unit, operation_act, service, silent, touches, unsettled}
use Rattle.world_laws.specs.run_model.Operations.{changes_of, file_full, first_of, form_refused, keys_asked, keys_held, operation_answer, refused_if}
use Rattle.world_laws.specs.run_model.World as world
use Rattle.world_laws.specs.run_model.World.{File, Label, Node, find_branch, find_file, labelled, next_id, serial_labelled}
use Rattle.run_shared.specs.Sharing.{IsShared, SharedState}
use Rattle.world_laws.specs.Nodes.{IsKeptNode, RowsKeepUp}
use Rattle.world_laws.proofs.FindLemmas.{found_serial}
use Rattle.node_table.specs.recovery_units.Calls.{IsAsked, IsAskedAlone}
use Rattle.directory_model.specs.Files.{IsHeadOf, IsNamed, NoneNamed}
use Rattle.directory_model.specs.Laws.{FindsFiles}
use Rattle.file_base.specs.declared.head.FileHead.{FileHead}
use Rattle.file_requests.specs.Acting.{StaysUp, alone_service, branch_service}
use Rattle.file_requests.specs.Replying.{IsQuiet}
use Rattle.file_requests.proofs.Served.{both_none}
use Rattle.node_table.specs.Serving.{DoesService, ServiceAt, service_at}
use Rattle.node_table.specs.Standing.{IsUp, Up, UpRepresents}
use Rattle.node_requests.specs.Labelled.{branch_at, made_in}
use Rattle.node_requests.specs.Operating.{DoesUp, OperatesAlone, OperatesFor}
use Rattle.node_requests.specs.Requests.{DoesRequest, node_up}
use Rattle.file_requests.specs.node_standing.Standing.{disk_of}
use Rattle.file_requests.specs.node_standing.Telling.{said_shared}
use Rattle.node_requests.proofs.Asides.{keeps_same, service_as}
use Rattle.node_requests.proofs.Operated.{active_only}
use Rattle.node_requests.proofs.Labels.{branch_found, labelled_branch, made_says}
use Rattle.node_requests.proofs.Saying.{IsStillRequest, says_refusal, says_replies}

-- One answer, and nothing is done: what it refuses by is the world's first cause.
pub refused_request : (x : Unit {0}) (request : Request) (clock : ℕ) (r : Up) (shared : SharedState) (a b : Shown) (l : Line) → IsUp r → Since a b → Emits a (l ∷ []) b → IsQuiet l → IsStillRequest r.stored.volume.catalog.home.node request
    → ((refusal : Line) → refused_by_lines (said_shared shared) (node_up r.stored.volume.catalog.home.node) request ≡ Some refusal → l ≡ refusal) → (refused_by_lines (said_shared shared) (node_up r.stored.volume.catalog.home.node) request ≡ None → is_served l ≡ true)
    → ((s : world.Shared) (n : Node) → UpRepresents clock r n → IsShared shared s → IsKeptNode s n → first_of ((service request).refused_before_reading s n) ((service request).refused_after_reading s n) ≡ Some l)
    → DoesRequest {T = Unit {0}} (Ok x) request clock r r shared shared a b
refused_request x request clock r shared a b l up since m quiet still by_lines others refuses = record {
  keeps = keeps_same x clock r a b up since;
  uses = tt;
  leaves = λ refusal e. refl;
  says = says_refusal r.stored.volume.catalog.home.node request shared a b still x l quiet m by_lines others;
  serves = λ s n stands share kept. inl (record { refusal = l; is = refuses s n stands share kept; shows = m; same = (stands, share) });
}

-- What a request on records of a branch is, by what it finds.

abbrev pub made_by : Option Label → Option Line
made_by o = elim o [ Some l ↦ None | None ↦ Some line.BadLabel ]

abbrev there_by : Option File → Option Line
there_by o = elim o [ Some f ↦ None | None ↦ Some line.FileNotFound ]

abbrev file_by : Option File → (File → Option Line) → Option Line
file_by o says = elim o [ Some f ↦ says f | None ↦ None ]

some_is : (x y : Line) → ◌≡◌ {A = Option Line} (Some x) (Some y) → x ≡ y
some_is x y e = cc

module _ (n : Node) (name : List ℕ) (op : Operation) where
  abbrev early_by : Option Label → Option File → Option Id → Option Branch → Option Line
  early_by lo fo so bo = first_of (made_by lo) (first_of (there_by fo) (first_of (file_by fo (λ f. form_refused f op)) (first_of (unsettled bo)
      (first_of (in_state is_working bo) (first_of (file_by fo is_marked) (file_by fo (λ f. keys_refused n so name (keys_asked f op))))))))

  -- the label is none of this node; there is no such file; the form refuses it; or the branch is not there or not active
  pub no_label : (lo : Option Label) (fo : Option File) (so : Option Id) (bo : Option Branch) (late : Option Line) → lo ≡ None → first_of (early_by lo fo so bo) late ≡ Some line.BadLabel
  no_label lo fo so bo late e = ap (λ o. first_of (early_by o fo so bo) late) e

  pub no_file : (lo : Option Label) (fo : Option File) (so : Option Id) (bo : Option Branch) (late : Option Line) → made_by lo ≡ None → fo ≡ None → first_of (early_by lo fo so bo) late ≡ Some line.FileNotFound
  no_file lo fo so bo late made e = (λ i. first_of (first_of (made i) (first_of (there_by (e i)) (first_of (file_by (e i) (λ f. form_refused f op)) (first_of (unsettled bo)
      (first_of (in_state is_working bo) (first_of (file_by (e i) is_marked) (file_by (e i) (λ f. keys_refused n so name (keys_asked f op))))))))) late)

  pub no_form : (lo : Option Label) (fo : Option File) (so : Option Id) (bo : Option Branch) (late : Option Line) (file : File) (l : Line) → made_by lo ≡ None → fo ≡ Some file → form_refused file op ≡ Some l → first_of (early_by lo fo so bo) late ≡ Some l
  no_form lo fo so bo late file l made e form = (λ i. first_of (first_of (made i) (first_of (there_by (e i)) (first_of (file_by (e i) (λ f. form_refused f op)) (first_of (unsettled bo)
      (first_of (in_state is_working bo) (first_of (file_by (e i) is_marked) (file_by (e i) (λ f. keys_refused n so name (keys_asked f op))))))))) late)
      ∙ (λ i. first_of (first_of (form i) (first_of (unsettled bo) (first_of (in_state is_working bo) (first_of (is_marked file) (keys_refused n so name (keys_asked file op)))))) late)

  pub no_branch : (lo : Option Label) (fo : Option File) (so : Option Id) (bo : Option Branch) (late : Option Line) (file : File) (l : Line) → made_by lo ≡ None → fo ≡ Some file → form_refused file op ≡ None → first_of (unsettled bo) (in_state is_working bo) ≡ Some l → first_of (early_by lo fo so bo) late ≡ Some l
  no_branch lo fo so bo late file l made e form refused = (λ i. first_of (first_of (made i) (first_of (there_by (e i)) (first_of (file_by (e i) (λ f. form_refused f op)) (first_of (unsettled bo)
      (first_of (in_state is_working bo) (first_of (file_by (e i) is_marked) (file_by (e i) (λ f. keys_refused n so name (keys_asked f op))))))))) late)
      ∙ (λ i. first_of (first_of (form i) (first_of (unsettled bo) (first_of (in_state is_working bo) (first_of (is_marked file) (keys_refused n so name (keys_asked file op)))))) late)
      ∙ behind (unsettled bo) (in_state is_working bo) (first_of (is_marked file) (keys_refused n so name (keys_asked file op))) refused
    where
      behind : (x y z : Option Line) → first_of x y ≡ Some l → first_of (first_of x (first_of y z)) late ≡ Some l
      behind (Some u) y z h = h
      behind None (Some v) z h = h
      behind None None z h = absurd (let none : ◌≡◌ {A = Option Line} None (Some l) = h in let no : ⊥ = cc in no)

  -- else it is an operation of that branch
  module _ (s : world.Shared) (label : List ℕ) (l : Label) (file : File) (branch : Branch) (lo : labelled n.name label s.labels ≡ Some l) (fo : find_file name n.durable.directory ≡ Some file) (so : l.serial ≡ Some branch.key.serial) (bo : find_branch branch.key.serial n.volatile.branches ≡ Some branch) (works : is_working branch ≡ true) where
    serial_is : serial_labelled n.name label s.labels ≡ Some branch.key.serial
    serial_is = ap (λ o. option_and_then (λ (x : Label). x.serial) o) lo ∙ so

    branch_is : branch_labelled s n label ≡ Some branch
    branch_is = ap (λ o. option_and_then (λ serial. find_branch serial n.volatile.branches) o) serial_is ∙ bo

    early_is : (service_at (service (said.Records label name op)) s n).early ≡ (branch_service n branch name file op).early
    early_is = (λ i. early_by (lo i) (fo i) (serial_is i) (branch_is i))
        ∙ (λ i. first_of (form_refused file op) (first_of (refused_if (not (works i)) line.WrongState) (first_of (is_marked file) (keys_refused n (Some branch.key.serial) name (keys_asked file op)))))

    late_is : (service_at (service (said.Records label name op)) s n).late ≡ (branch_service n branch name file op).late
    late_is = λ i. first_of (file_by (fo i) (found_refused n (serial_is i) name op)) (first_of (option_and_then (more_changes n (elim (fo i) [ Some f ↦ changes_of f op | None ↦ [] ])) (branch_is i))
        (first_of (file_by (fo i) (λ f. more_locks n name (keys_held f op))) (first_of (file_by (fo i) (λ f. file_full f op)) (first_of (option_and_then (journal_full n name (elim (fo i) [ Some f ↦ changes_of f op | None ↦ [] ])) (branch_is i))
        (option_and_then (λ (b : Branch). file_by (fo i) (images_full b.key.serial (elim (fo i) [ Some f ↦ changes_of f op | None ↦ [] ]))) (branch_is i))))))

    rows_are : (service_at (service (said.Records label name op)) s n).rows ≡ (branch_service n branch name file op).rows
    rows_are = λ i. elim (branch_is i) [ Some b ↦ silent (operation_act b name (elim (fo i) [ Some f ↦ changes_of f op | None ↦ [] ]) (elim (fo i) [ Some f ↦ keys_held f op | None ↦ [] ])) ∷ [] | None ↦ [] ]

    answer_is : (service_at (service (said.Records label name op)) s n).answer ≡ (branch_service n branch name file op).answer
    answer_is = λ i. elim (fo i) [ Some f ↦ operation_answer f op | None ↦ line.RecordNormal ]

    pub records_are : service_at (service (said.Records label name op)) s n ≡ branch_service n branch name file op
    records_are = λ i. record { early = early_is i; late = late_is i; rows = rows_are i; answer = answer_is i }

-- one without a branch, on a file that is there
module _ (n : Node) (s : world.Shared) (name : List ℕ) (op : Operation) (file : File) (fo : find_file name n.durable.directory ≡ Some file) where
  pub direct_is : service_at (service (said.Direct name op)) s n ≡ alone_service n name file op
  direct_is = λ i. record {
    early = first_of (there_by (fo i)) (first_of (file_by (fo i) (λ f. form_refused f op)) (first_of (file_by (fo i) (needs_unit op)) (file_by (fo i) (λ f. keys_refused n None name (keys_asked f op)))));
    late = first_of (file_by (fo i) (found_refused n None name op)) (first_of (refused_if (nat_lt change_limit (length {A = Change} (elim (fo i) [ Some f ↦ changes_of f op | None ↦ [] ]))) (line.QuotaExceeded line.Changes change_limit))
        (first_of (file_by (fo i) (λ f. file_full f op)) (file_by (fo i) (images_full (next_id n) (elim (fo i) [ Some f ↦ changes_of f op | None ↦ [] ])))));
    rows = directed n name (elim (fo i) [ Some f ↦ changes_of f op | None ↦ [] ]);
    answer = elim (fo i) [ Some f ↦ operation_answer f op | None ↦ line.RecordNormal ];
  }

pub direct_absent : (n : Node) (s : world.Shared) (name : List ℕ) (op : Operation) → find_file name n.durable.directory ≡ None → first_of ((service (said.Direct name op)).refused_before_reading s n) ((service (said.Direct name op)).refused_after_reading s n) ≡ Some line.FileNotFound
direct_absent n s name op fo = λ i. first_of (first_of (there_by (fo i)) (first_of (file_by (fo i) (λ f. form_refused f op)) (first_of (file_by (fo i) (needs_unit op)) (file_by (fo i) (λ f. keys_refused n None name (keys_asked f op))))))
    ((service (said.Direct name op)).refused_after_reading s n)

pub direct_form : (n : Node) (s : world.Shared) (name : List ℕ) (op : Operation) (file : File) (l : Line) → find_file name n.durable.directory ≡ Some file → form_refused file op ≡ Some l → first_of ((service (said.Direct name op)).refused_before_reading s n) ((service (said.Direct name op)).refused_after_reading s n) ≡ Some l
direct_form n s name op file l fo form = (λ i. first_of (first_of (there_by (fo i)) (first_of (file_by (fo i) (λ f. form_refused f op)) (first_of (file_by (fo i) (needs_unit op)) (file_by (fo i) (λ f. keys_refused n None name (keys_asked f op))))))
    ((service (said.Direct name op)).refused_after_reading s n))
    ∙ (λ i. first_of (first_of (form i) (first_of (needs_unit op file) (keys_refused n None name (keys_asked file op)))) ((service (said.Direct name op)).refused_after_reading s n))

-- The node stays up behind the rows of a request that nothing refuses.
pub stays_up : RowsKeepUp → (request : Request) (s : world.Shared) (n : Node) (q : ServiceAt) → IsKeptNode s n → n.up ≡ true → service_at (service request) s n ≡ q → StaysUp q n
stays_up rows request s n q kept up is = subst (λ z. StaysUp z n) is (λ none.
    let e = both_none ((service request).refused_before_reading s n) ((service request).refused_after_reading s n) none in
    rows s n (Serves request) kept up (ap (λ (t : Bool). first_of (refused_if (not (t || (service request).while_down)) line.NodeDown) ((service request).refused_before_reading s n)) up ∙ e.0) e.1)

-- What a service leaves, with what nodes share.
shared_on : {T : Type 0} (r : Result T Down) (q : ServiceAt) (clock : ℕ) (s : world.Shared) (n : Node) (old new : Up) (shared : SharedState) (a b : Shown) → IsShared shared s → DoesUp r q clock s n old new a b
    → DoesService r q s n a b (UpRepresents clock new n × IsShared shared s) (IsShared shared) (UpRepresents clock new) (disk_of new)
shared_on r q clock s n old new shared a b share h = service_as r q s n a b (UpRepresents clock new n) (UpRepresents clock new n × IsShared shared s) (λ t. t ≡ s) (IsShared shared) (UpRepresents clock new) (UpRepresents clock new) (disk_of new)
    (λ x. (x, share)) (λ t e. subst (IsShared shared) (sym e) share) (λ x. x) h

module _ (finds : FindsFiles) (rows : RowsKeepUp) (name : List ℕ) (op : Operation) (clock : ℕ) (old : Up) (shared : SharedState) (a b : Shown) where
  -- a file of the volume in the world
  file_there : (n : Node) (f : ℕ) (head : FileHead) → UpRepresents clock old n → IsNamed old.stored.volume.catalog.heads f head name → (file : File) × IsHeadOf head file × (find_file name n.durable.directory ≡ Some file)
  file_there n f head stands named = (let x = finds.found stands.stands.kept.content old.stored.volume.catalog.heads n.durable.directory f head name stands.stands.kept.has.files named in (x.0, x.1.head, x.2.found))

  file_absent : (n : Node) → UpRepresents clock old n → NoneNamed old.stored.volume.catalog.heads 64 name → find_file name n.durable.directory ≡ None
  file_absent n stands none = finds.none stands.stands.kept.content old.stored.volume.catalog.heads n.durable.directory name stands.stands.kept.has.files none

  -- a label and its branch, in the world
  label_there : (n : Node) (s : world.Shared) (label : List ℕ) (o : Option Label) → UpRepresents clock old n → IsShared shared s → labelled old.stored.volume.catalog.home.node label shared.labels ≡ o → labelled n.name label s.labels ≡ o
  label_there n s label o stands share e = (λ i. labelled (stands.stands.kept.name i) label (share.labels i)) ∙ e

  table_there : (n : Node) → UpRepresents clock old n → n.volatile.branches ≡ old.tm.table
  table_there n stands = ap (λ (t : Tm). t.table) stands.stands.table

  module _ (label : List ℕ) where
    abbrev pub asks : Request
    asks = said.Records label name op

    by_lines : refused_by_lines (said_shared shared) (node_up old.stored.volume.catalog.home.node) asks ≡ made_in old.stored.volume.catalog.home.node label shared.labels
    by_lines = made_says old.stored.volume.catalog.home.node label shared.labels

    made_by_label : (o : Option Label) → labelled old.stored.volume.catalog.home.node label shared.labels ≡ o → made_in old.stored.volume.catalog.home.node label shared.labels ≡ made_by o
    made_by_label o e = ap made_by e

    -- An operation of the branch was done.
    pub records_done : {T : Type 0} (r : Result T Down) (serial : Id) (f : ℕ) (head : FileHead) (new : Up) (l : Label) (branch : Branch) → labelled old.stored.volume.catalog.home.node label shared.labels ≡ Some l → l.serial ≡ Some serial → find_serial serial old.tm.table ≡ Some branch → is_working branch ≡ true
        → IsNamed old.stored.volume.catalog.heads f head name → OperatesFor r serial f op clock old new a b → DoesRequest r asks clock old new shared shared a b
    records_done {T} r serial f head new l branch lab told found works named h = record {
      keeps = h.keeps;
      uses = uses r;
      leaves = λ refusal e. absurd (let q : ◌≡◌ {A = Option Line} None (Some refusal) = sym (by_lines ∙ made_by_label (Some l) lab) ∙ e in (let f : ⊥ = cc in f));
      says = says_replies old.stored.volume.catalog.home.node asks shared a b (λ answer said. refl) r (by_lines ∙ made_by_label (Some l) lab) h.replies;
      serves = λ s n stands share kept.
          let x = file_there n f head stands named in
          let there : find_branch serial n.volatile.branches ≡ Some branch = branch_found serial n.volatile.branches ∙ ap (find_serial serial) (table_there n stands) ∙ found in
          let own : serial ≡ branch.key.serial = found_serial serial n.volatile.branches branch there in
          let q : IsAsked serial f old.stored.units old.stored.volume n name x.0 branch = record { kept = stands.stands.kept; up = (kept.runs stands.stands.up).0; branch = there; unprepared = active_only branch works; head = head; named = named; found = x.2 } in
          let is : service_at (service asks) s n ≡ branch_service n branch name x.0 op = records_are n name op s label l x.0 branch (label_there n s label (Some l) stands share lab) x.2 (told ∙ ap (λ (i : Id). Some i) own) (subst (λ i. find_branch i n.volatile.branches ≡ Some branch) own there) works in
          subst (λ z. DoesService r z s n a b (UpRepresents clock new n × IsShared shared s) (IsShared shared) (UpRepresents clock new) (disk_of new)) (sym is)
          (shared_on r (branch_service n branch name x.0 op) clock s n old new shared a b share (h.acts s n name x.0 branch stands q (stays_up rows asks s n (branch_service n branch name x.0 op) kept stands.stands.up is)));
    }
      where
        uses : (q : Result T Down) → OnErr q (touches (service asks) ≡ true)
        uses (Ok v) = tt
        uses (Err d) = refl

    module _ (up : IsUp old) (since : Since a b) where
      -- It was refused: by its label,
      pub records_unlabelled : labelled old.stored.volume.catalog.home.node label shared.labels ≡ None → Emits a (line.BadLabel ∷ []) b → DoesRequest {T = Unit {0}} (Ok tt) asks clock old old shared shared a b
      records_unlabelled lab m = refused_request tt asks clock old shared a b line.BadLabel up since m refl (λ answer said. refl)
          (λ refusal e. some_is line.BadLabel refusal (sym (by_lines ∙ made_by_label None lab) ∙ e))
          (λ e. absurd (let f : ◌≡◌ {A = Option Line} (Some line.BadLabel) None = sym (by_lines ∙ made_by_label None lab) ∙ e in let no : ⊥ = cc in no))
          (λ s n stands share kept. no_label n name op _ _ _ _ _ (label_there n s label None stands share lab))

      -- behind it, by this line, which no label tells
      behind_label : (l : Label) (x : Line) → labelled old.stored.volume.catalog.home.node label shared.labels ≡ Some l → Emits a (x ∷ []) b → IsQuiet x → is_served x ≡ true
          → ((s : world.Shared) (n : Node) → UpRepresents clock old n → IsShared shared s → IsKeptNode s n → first_of ((service asks).refused_before_reading s n) ((service asks).refused_after_reading s n) ≡ Some x) → DoesRequest {T = Unit {0}} (Ok tt) asks clock old old shared shared a b
      behind_label l x lab m quiet other refuses = refused_request tt asks clock old shared a b x up since m quiet (λ answer said. refl)
          (λ refusal e. absurd (let f : ◌≡◌ {A = Option Line} None (Some refusal) = sym (by_lines ∙ made_by_label (Some l) lab) ∙ e in let no : ⊥ = cc in no))
          (λ e. other) refuses

      -- by its file,
      pub records_absent : (l : Label) → labelled old.stored.volume.catalog.home.node label shared.labels ≡ Some l → NoneNamed old.stored.volume.catalog.heads 64 name → Emits a (line.FileNotFound ∷ []) b → DoesRequest {T = Unit {0}} (Ok tt) asks clock old old shared shared a b
      records_absent l lab none m = behind_label l line.FileNotFound lab m refl refl
          (λ s n stands share kept. no_file n name op _ _ _ _ _ (ap made_by (label_there n s label (Some l) stands share lab)) (file_absent n stands none))

      -- by its form,
      pub records_misformed : (l : Label) (f : ℕ) (head : FileHead) (x : Line) → labelled old.stored.volume.catalog.home.node label shared.labels ≡ Some l → IsNamed old.stored.volume.catalog.heads f head name → ((file : File) → IsHeadOf head file → form_refused file op ≡ Some x) → IsQuiet x → is_served x ≡ true → Emits a (x ∷ []) b
          → DoesRequest {T = Unit {0}} (Ok tt) asks clock old old shared shared a b
      records_misformed l f head x lab named form quiet other m = behind_label l x lab m quiet other
          (λ s n stands share kept. (let y = file_there n f head stands named in no_form n name op _ _ _ _ _ y.0 x (ap made_by (label_there n s label (Some l) stands share lab)) y.2 (form y.0 y.1)))

      -- or by its branch.
      pub records_unworked : (l : Label) (f : ℕ) (head : FileHead) (x : Line) → labelled old.stored.volume.catalog.home.node label shared.labels ≡ Some l → IsNamed old.stored.volume.catalog.heads f head name → ((file : File) → IsHeadOf head file → form_refused file op ≡ None)
          → first_of (unsettled (branch_at l.serial old.tm.table)) (in_state is_working (branch_at l.serial old.tm.table)) ≡ Some x → IsQuiet x → is_served x ≡ true → Emits a (x ∷ []) b → DoesRequest {T = Unit {0}} (Ok tt) asks clock old old shared shared a b
      records_unworked l f head x lab named form refused quiet other m = behind_label l x lab m quiet other
          (λ s n stands share kept.
          let y = file_there n f head stands named in
          let here = label_there n s label (Some l) stands share lab in
          let branch : branch_labelled s n label ≡ branch_at l.serial old.tm.table = labelled_branch s n label ∙ (λ i. branch_at (option_and_then (λ (z : Label). z.serial) (here i)) (table_there n stands i)) in
          no_branch n name op _ _ _ _ _ y.0 x (ap made_by here) y.2 (form y.0 y.1) (subst (λ o. first_of (unsettled o) (in_state is_working o) ≡ Some x) (sym branch) refused))

  -- Without a branch.
  abbrev pub asks_alone : Request
  asks_alone = said.Direct name op

  pub direct_done : {T : Type 0} (r : Result T Down) (f : ℕ) (head : FileHead) (new : Up) → IsNamed old.stored.volume.catalog.heads f head name → OperatesAlone r f op clock old new a b → DoesRequest r asks_alone clock old new shared shared a b
  direct_done {T} r f head new named h = record {
    keeps = h.keeps;
    uses = uses r;
    leaves = λ refusal e. (let f : ⊥ = cc in absurd f);
    says = says_replies old.stored.volume.catalog.home.node asks_alone shared a b (λ answer said. refl) r refl h.replies;
    serves = λ s n stands share kept.
        let x = file_there n f head stands named in
        let q : IsAskedAlone f old.stored.units old.stored.volume n name x.0 = record { kept = stands.stands.kept; up = (kept.runs stands.stands.up).0; head = head; named = named; found = x.2 } in
        let is : service_at (service asks_alone) s n ≡ alone_service n name x.0 op = direct_is n s name op x.0 x.2 in
        subst (λ z. DoesService r z s n a b (UpRepresents clock new n × IsShared shared s) (IsShared shared) (UpRepresents clock new) (disk_of new)) (sym is)
        (shared_on r (alone_service n name x.0 op) clock s n old new shared a b share (h.acts s n name x.0 stands q (stays_up rows asks_alone s n (alone_service n name x.0 op) kept stands.stands.up is)));
  }
    where
      uses : (q : Result T Down) → OnErr q (touches (service asks_alone) ≡ true)
      uses (Ok v) = tt
      uses (Err d) = refl

  module _ (up : IsUp old) (since : Since a b) where
    alone_refused : (x : Line) → Emits a (x ∷ []) b → IsQuiet x → is_served x ≡ true → ((s : world.Shared) (n : Node) → UpRepresents clock old n → IsShared shared s → IsKeptNode s n → first_of ((service asks_alone).refused_before_reading s n) ((service asks_alone).refused_after_reading s n) ≡ Some x)
        → DoesRequest {T = Unit {0}} (Ok tt) asks_alone clock old old shared shared a b
    alone_refused x m quiet other refuses = refused_request tt asks_alone clock old shared a b x up since m quiet (λ answer said. refl)
        (λ refusal e. absurd (let f : ◌≡◌ {A = Option Line} None (Some refusal) = e in let no : ⊥ = cc in no))
        (λ e. other) refuses

    pub alone_absent : NoneNamed old.stored.volume.catalog.heads 64 name → Emits a (line.FileNotFound ∷ []) b → DoesRequest {T = Unit {0}} (Ok tt) asks_alone clock old old shared shared a b
    alone_absent none m = alone_refused line.FileNotFound m refl refl (λ s n stands share kept. direct_absent n s name op (file_absent n stands none))

    pub alone_misformed : (f : ℕ) (head : FileHead) (x : Line) → IsNamed old.stored.volume.catalog.heads f head name → ((file : File) → IsHeadOf head file → form_refused file op ≡ Some x) → IsQuiet x → is_served x ≡ true → Emits a (x ∷ []) b → DoesRequest {T = Unit {0}} (Ok tt) asks_alone clock old old shared shared a b
    alone_misformed f head x named form quiet other m = alone_refused x m quiet other (λ s n stands share kept. (let y = file_there n f head stands named in direct_form n s name op y.0 x y.2 (form y.0 y.1)))
