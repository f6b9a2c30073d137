-- What a statement shows to be committed or aborted has its cause in that statement and in the entries before it, and is so for good.
use Rattle.std.proofs.Common.{◌≡◌, ◌≤◌, ℕ, ◌+◌, ◌*◌, ◌⊎◌, List, [], ◌∷◌, ◌++◌, inl, inr, Bool, true, false, not, ◌||◌, ◌&&◌, Option, Some, None, refl, sym, ◌∙◌, ap, subst}
use Rattle.std.specs.List.{list_any}
use Rattle.std.specs.Option.{option_and_then}
use Rattle.std.proofs.lemmas.Bool.{and_parts, leb-true}
use Rattle.vms_model.specs.Ids.{Id}
use Rattle.vms_model.specs.Transactions.{Outcome, Commit, Abort, Reason, Aborted, Vetoed, SyncFail, Timeout, CommFail, SegFail}
use Rattle.run_said.specs.transcript_model.Lines as line
use Rattle.run_said.specs.transcript_model.Lines.{Line}
use Rattle.run_said.specs.script_model.Statements.{At, Deliver, Request, Boot, StartTrans, Direct, EndTrans, AbortTrans, AckEvent, Clock, Named as SaidName, ByLabel, BySerial, Reading, Says}
use Rattle.commit_protocol.specs.Messages as message
use Rattle.commit_protocol.specs.Messages.{Message, Reply, PreparedReply, ForgetReply, VetoReply, RememberReply, NormalReply}
use Rattle.commit_protocol.specs.Table as table
use Rattle.commit_protocol.specs.Table.{Branch, Child, Ending, Key as BranchKey, coordinator_of, first, is_first, key_of, same_key}
use Rattle.commit_protocol.specs.Allowed.{is_prepared}
use Rattle.commit_protocol.specs.Rows as rows
use Rattle.commit_protocol.specs.Rows.{is_cut_off, is_due, is_late, is_noted, is_under, is_veto}
use Rattle.commit_protocol.specs.World.{In}
use Rattle.commit_protocol.proofs.Lists.{same_key-true, same_name-true}
use Rattle.run_said.specs.run_model.World.{World, Node, Label, Settlement, find_node, labelled, serial_labelled, tm_of}
use Rattle.run_said.specs.run_model.Answers.{Serves, branch_labelled, in_state, is_first_active, is_open, made_label, refused_before_reading, serial_named, service, settled_line, unsettled_label}
use Rattle.run_said.specs.run_model.Statements.{message_at}
use Rattle.run_said.specs.run_model.Transcript.{Entry}
use Rattle.run_said.proofs.run_model.NodeLists.{found_name}
use Rattle.run_laws.specs.Naming.{IsNamed, find_told}
use Rattle.run_laws.specs.Causes.{AbortCause, CommitCause, DeliversTo, HasBegun, HasJoined, IsCutOff, IsDirect, IsMissing, IsWhole, Names, Replies, Votes, WasAsked, WasBegun, WasEnded, WasSent, clock_told}
use Rattle.run_laws.specs.SaidLaws.{SaidThere}
use Rattle.run_laws.specs.Promises.{shown_in}
use Rattle.run_laws.proofs.Directed.{neither}
use Rattle.run_laws.proofs.Ending.{active_is, active_unprepared, named_branch}
use Rattle.run_laws.proofs.Labelling.{label_of, labelled_is, find_map, refused_rest, found_label, served_up}
use Rattle.run_laws.proofs.Making.{state_holds}
use Rattle.run_laws.proofs.Missing.{AreJoined, lacks, lacks_none}
use Rattle.run_laws.proofs.Moving.{HasOpen}
use Rattle.run_laws.proofs.Named.{Named, ended, told}
use Rattle.run_laws.proofs.Settling.{EventSettles, HasAccepted, IsOpen, MessageSettles}
use Rattle.run_laws.proofs.Splits.{split_append}
use Rattle.run_laws.proofs.TaskCauses.{TaskCause}
use Rattle.run_laws.proofs.Told.{AreTold, BranchTold}
use Rattle.run_laws.proofs.ToldParts.{HasHeirs}

-- a branch is settled so for a cause that the statement and the entries before it tell
abbrev pub LineCause : List Entry → Reading → (front : List Line) → BranchKey → Outcome → Reason → Type 0
LineCause es said front k Commit reason = CommitCause es said front k.tid k.serial ⊎ IsDirect said k.tid k.serial
LineCause es said front k Abort reason = AbortCause es said front reason k.tid k.serial

abbrev pub IsCaused : List Entry → Reading → (front : List Line) → Line → Type 0
IsCaused es said front l = (k : BranchKey) × (o : Outcome) × (reason : Reason) × (moment : ℕ) × (l ≡ settled_line k o reason moment) × LineCause es said front k o reason

-- so is each line of a settlement
abbrev pub AllCaused : List Entry → Reading → List Line → Type 0
AllCaused es said lines = (front : List Line) (this : Line) (behind : List Line) (x : Settlement) → lines ≡ front ++ this ∷ behind → shown_in this ≡ Some x → IsCaused es said front this

-- Lines before.

append_assoc : (xs ys zs : List Line) → xs ++ (ys ++ zs) ≡ (xs ++ ys) ++ zs
append_assoc [] ys zs = refl
append_assoc (x ∷ xs) ys zs = ap (λ l. x ∷ l) (append_assoc xs ys zs)

asked_more : (said : Reading) (xs front : List Line) (tid serial : Id) (o : Outcome) → WasAsked said front tid serial o → WasAsked said (xs ++ front) tid serial o
asked_more said xs front tid serial o a = (a.0, xs ++ a.1, ap (λ ls. xs ++ ls) a.2 ∙ append_assoc xs a.1 (line.Asked tid serial o ∷ []))

pub cause_more : (es : List Entry) (said : Reading) (xs front : List Line) (k : BranchKey) (o : Outcome) (reason : Reason) → LineCause es said front k o reason → LineCause es said (xs ++ front) k o reason
cause_more es said xs front k Commit reason (inl (inr (inr (inr (inr asked))))) = inl (inr (inr (inr (inr (asked_more said xs front k.tid k.serial Commit asked)))))
cause_more es said xs front k Commit reason (inl (inr (inr (inr (inl told))))) = inl (inr (inr (inr (inl told))))
cause_more es said xs front k Commit reason (inl (inr (inr (inl replied)))) = inl (inr (inr (inl replied)))
cause_more es said xs front k Commit reason (inl (inr (inl voted))) = inl (inr (inl voted))
cause_more es said xs front k Commit reason (inl (inl ended)) = inl (inl ended)
cause_more es said xs front k Commit reason (inr direct) = inr direct
cause_more es said xs front k Abort Aborted (inr (inr asked)) = inr (inr (asked_more said xs front k.tid k.serial Abort asked))
cause_more es said xs front k Abort Aborted (inr (inl told)) = inr (inl told)
cause_more es said xs front k Abort Aborted (inl named) = inl named
cause_more es said xs front k Abort Vetoed h = h
cause_more es said xs front k Abort SyncFail h = h
cause_more es said xs front k Abort Timeout h = h
cause_more es said xs front k Abort CommFail h = h
cause_more es said xs front k Abort SegFail h = h

pub caused_append : (es : List Entry) (said : Reading) (xs ys : List Line) → AllCaused es said xs → AllCaused es said ys → AllCaused es said (xs ++ ys)
caused_append es said xs ys f g front this behind x e shown = elim (split_append xs ys front this behind e) [
  | inl r ↦ f front this r.0 x r.1 shown
  | inr r ↦ (
      let c = g r.0 this behind x r.2 shown in
      (c.0, c.1, c.2, c.3, c.4, subst (λ ls. LineCause es said ls c.0 c.1 c.2) (sym r.1) (cause_more es said xs r.0 c.0 c.1 c.2 c.5))
      )
]

pub none_caused : (es : List Entry) (said : Reading) → AllCaused es said []
none_caused es said [] this behind x e shown = let no : ⊥ = cc in absurd no
none_caused es said (y ∷ front) this behind x e shown = let no : ⊥ = cc in absurd no

-- What is known where a statement is said.
pub record Known (es : List Entry) (w : World) : Type 0 where
  pub named : Named es w
  pub told : AreTold es w
  pub sent : (number : ℕ) (m : Message) → message_at number w.shared.wire ≡ Some m → WasSent es number m
  pub joined : AreJoined es w

-- Requests.
module _ (es : List Entry) (w : World) (known : Known es w) (node : List ℕ) (n : Node) (found : find_node node w.nodes ≡ Some n) where
  at_home : n.name ≡ node
  at_home = found_name node w.nodes n found

  end_cause : (label : List ℕ) (front : List Line) (k : BranchKey) (o : Outcome) (reason : Reason) → refused_before_reading w.shared n (service (EndTrans label)) ≡ None → TaskCause w.shared n (Serves (EndTrans label)) k o reason → LineCause es (Says (At node (EndTrans label))) front k o reason
  end_cause label front k o reason first_so (b, labelled_b, (key, x, cause)) = go cause
    where
      states : (unsettled_label w.shared n label ≡ None) × (in_state is_first_active (branch_labelled w.shared n label) ≡ None)
      states = neither (unsettled_label w.shared n label) _ (neither (made_label w.shared n label) _ (refused_rest (not (n.up || false)) _ first_so)).1

      a : (b.key ≡ first b.key.tid) × (b.state ≡ table.Active)
      a = active_is b (state_holds is_first_active (branch_labelled w.shared n label) b labelled_b states.1)

      same : b.key.tid ≡ b.key.serial
      same = sym (ap (λ (j : BranchKey). j.serial) a.0)

      home : b.key.tid.node ≡ node
      home = ap (λ (y : Id). y.node) same ∙ (named_branch es w node label n b known.named found labelled_b (active_unprepared b a.1)).home

      begun : WasBegun es b.key.tid.node label b.key.tid
      begun = subst (λ y. WasBegun es y label b.key.tid) (sym home) ((named_branch es w node label n b known.named found labelled_b (active_unprepared b a.1)).begun same)

      of : x.branch.key ≡ first b.key.tid
      of = x.key ∙ key

      tid : x.branch.key.tid ≡ b.key.tid
      tid = ap (λ (j : BranchKey). j.tid) (x.key ∙ key)

      missing : rows.all_taken x.branch.bids x.branch.accepted ≡ false → IsMissing es b.key.tid
      missing lacking = subst (IsMissing es) tid (lacks es w node n x.branch known.joined found x.there x.unprepared (of ∙ ap first (sym tid)) lacking)

      whole : rows.all_taken x.branch.bids x.branch.accepted ≡ true → IsWhole es b.key.tid
      whole all = subst (IsWhole es) tid (lacks_none es w node n x.branch known.joined found x.there x.unprepared (of ∙ ap first (sym tid)) all)

      said : Says (At node (EndTrans label)) ≡ Says (At b.key.tid.node (EndTrans label))
      said = ap (λ y. Says (At y (EndTrans label))) (sym home)

      go : ((o ≡ Commit) × (rows.all_taken x.branch.bids x.branch.accepted ≡ true)) ⊎ ((o ≡ Abort) × (reason ≡ SyncFail) × (rows.all_taken x.branch.bids x.branch.accepted ≡ false)) → LineCause es (Says (At node (EndTrans label))) front k o reason
      go (inl (commit, all)) = subst (λ (j : BranchKey). LineCause es (Says (At node (EndTrans label))) front j o reason) (sym key) (subst (λ out. LineCause es (Says (At node (EndTrans label))) front (first b.key.tid) out reason) (sym commit) (inl (inl (label, said, begun, refl, whole all))))
      go (inr abort) = subst (λ (j : BranchKey). LineCause es (Says (At node (EndTrans label))) front j o reason) (sym key)
          (subst (λ out. LineCause es (Says (At node (EndTrans label))) front (first b.key.tid) out reason) (sym abort.0) (subst (λ why. AbortCause es (Says (At node (EndTrans label))) front why b.key.tid b.key.tid) (sym abort.1) (inl (label, said, begun, refl, missing abort.2))))

  abort_cause : (label : List ℕ) (front : List Line) (k : BranchKey) (o : Outcome) (reason : Reason) → refused_before_reading w.shared n (service (AbortTrans label)) ≡ None → TaskCause w.shared n (Serves (AbortTrans label)) k o reason → LineCause es (Says (At node (AbortTrans label))) front k o reason
  abort_cause label front k o reason first_so (b, labelled_b, (is_abort, why, serial, x)) =
      let states = neither (unsettled_label w.shared n label) _ (neither (made_label w.shared n label) _ (refused_rest (not (n.up || false)) _ first_so)).1 in
      let unprepared : is_prepared b.state ≡ false = open_is (is_prepared b.state) (state_holds is_open (branch_labelled w.shared n label) b labelled_b states.1) in
      let nb = named_branch es w node label n b known.named found labelled_b unprepared in
      let l = label_of w.shared n label b labelled_b in
      let made = known.named.made l.label (found_label label w.shared.labels l.label l.found).0 in
      let at : find_node l.label.node w.nodes ≡ Some n = subst (λ name. find_node name w.nodes ≡ Some n) (sym (l.node ∙ at_home)) found in
      let of_b : b.key.tid ≡ l.label.tid = made.fits n at b.key (b, l.branch, unprepared, refl) l.serial in
      let of_k : k.tid ≡ l.label.tid = made.fits n at k (x.branch, x.there, x.unprepared, x.key) (l.serial ∙ ap Some (sym serial)) in
      let same : k ≡ b.key = (λ i. record { tid = (of_k ∙ sym of_b) i; serial = serial i }) in
      subst (λ (j : BranchKey). LineCause es (Says (At node (AbortTrans label))) front j o reason) (sym same) (subst (λ out. LineCause es (Says (At node (AbortTrans label))) front b.key out reason) (sym is_abort)
      (subst (λ y. AbortCause es (Says (At node (AbortTrans label))) front y b.key.tid b.key.serial) (sym why) (inl (label, ap (λ y. Says (At y (AbortTrans label))) (sym nb.home), subst (λ y. IsNamed es y label b.key.tid b.key.serial) (sym nb.home) nb.named))))
    where
      open_is : (t : Bool) → not t ≡ true → t ≡ false
      open_is true q = let no : ⊥ = cc in absurd no
      open_is false q = refl

  -- the label of a branch that is not prepared names it
  label_names : (label : List ℕ) (serial : Id) (k : BranchKey) → serial_labelled n.name label w.shared.labels ≡ Some serial → IsOpen n.volatile.branches k → k.serial ≡ serial → IsNamed es k.serial.node label k.tid k.serial
  label_names label serial k is x same = go (labelled n.name label w.shared.labels) refl is
    where
      held : HasOpen n k
      held = (x.branch, x.there, x.unprepared, x.key)

      go : (o : Option Label) → labelled n.name label w.shared.labels ≡ o → option_and_then (λ (l : Label). l.serial) o ≡ Some serial → IsNamed es k.serial.node label k.tid k.serial
      go (Some l) found_l serial_l =
          let r = labelled_is n.name label w.shared.labels l found_l in
          let made = known.named.made l (found_label label w.shared.labels l r.0).0 in
          let at : l.node ≡ node = r.1 ∙ at_home in
          let has : l.serial ≡ Some k.serial = serial_l ∙ ap Some (sym same) in
          let tid : k.tid ≡ l.tid = made.fits n (subst (λ name. find_node name w.nodes ≡ Some n) (sym at) found) k held has in
          (told l, ap (find_told label) known.named.labels ∙ find_map label w.shared.labels l r.0, at ∙ sym (known.named.home node n found k held), sym tid, has)
      go None found_l serial_l = let no : ⊥ = cc in absurd no

  pub named_so : (who : SaidName) (serial : Id) (k : BranchKey) → serial_named w.shared n who ≡ Some serial → IsOpen n.volatile.branches k → k.serial ≡ serial → Names es who k.tid k.serial
  named_so (ByLabel label) serial k is x same = label_names label serial k is x same
  named_so (BySerial other) serial k is x same = let one : other ≡ serial = cc in one ∙ sym same

  reply_cause : (who : SaidName) (rm : List ℕ) (reply : Reply) (front : List Line) (k : BranchKey) (o : Outcome) (reason : Reason) → n.up ≡ true → TaskCause w.shared n (Serves (AckEvent who rm reply)) k o reason → LineCause es (Says (At node (AckEvent who rm reply))) front k o reason
  reply_cause who rm reply front k o reason up (serial, is, (same, x, cause)) = go cause
    where
      home : node ≡ k.serial.node
      home = sym (known.named.home node n found k (x.branch, x.there, x.unprepared, x.key))

      replies : (r : Reply) → reply ≡ r → Replies es (Says (At node (AckEvent who rm reply))) k.tid k.serial r
      replies r e = (who, rm, (λ i. Says (At (home i) (AckEvent who rm (e i)))), named_so who serial k is x same)

      veto : (r : Reply) → is_veto r ≡ true → r ≡ VetoReply
      veto VetoReply e = refl
      veto PreparedReply e = let no : ⊥ = cc in absurd no
      veto ForgetReply e = let no : ⊥ = cc in absurd no
      veto RememberReply e = let no : ⊥ = cc in absurd no
      veto NormalReply e = let no : ⊥ = cc in absurd no

      go : ((o ≡ Commit) × (is_veto reply ≡ false) × (x.branch.state ≡ Ending) × (k ≡ first k.tid)) ⊎ ((o ≡ Abort) × (reason ≡ Vetoed) × (is_veto reply ≡ true)) → LineCause es (Says (At node (AckEvent who rm reply))) front k o reason
      go (inl (commit, other, q, key)) = subst (λ out. LineCause es (Says (At node (AckEvent who rm reply))) front k out reason) (sym commit)
          (inl (inr (inr (inl (reply, replies reply refl, other, subst (λ (j : BranchKey). WasEnded es j.tid) x.key (known.told.ended node n found up x.branch x.there x.unprepared q), ap (λ (j : BranchKey). j.serial) key)))))
      go (inr (ab, why, e)) = subst (λ out. LineCause es (Says (At node (AckEvent who rm reply))) front k out reason) (sym ab)
          (subst (λ y. AbortCause es (Says (At node (AckEvent who rm reply))) front y k.tid k.serial) (sym why) (inr (replies VetoReply (veto reply e), known.named.born node n found k (x.branch, x.there, x.unprepared, x.key))))

  pub request_cause : (request : Request) (front : List Line) (k : BranchKey) (o : Outcome) (reason : Reason) → refused_before_reading w.shared n (service request) ≡ None → (request ≡ Boot → k.serial.node ≡ node) → TaskCause w.shared n (Serves request) k o reason → LineCause es (Says (At node request)) front k o reason
  request_cause Boot front k o reason first_so home (is, why) = subst (λ out. LineCause es (Says (At node Boot)) front k out reason) (sym is) (subst (λ y. AbortCause es (Says (At node Boot)) front y k.tid k.serial) (sym why) (inr (ap (λ y. Says (At y Boot)) (sym (home refl)))))
  request_cause (Direct file op) front k o reason first_so home (is, key) = subst (λ out. LineCause es (Says (At node (Direct file op))) front k out reason) (sym is)
      (subst (λ (j : BranchKey). CommitCause es (Says (At node (Direct file op))) front j.tid j.serial ⊎ IsDirect (Says (At node (Direct file op))) j.tid j.serial) (sym key) (inr (file, op, ap (λ y. Says (At y (Direct file op))) (sym at_home), refl)))
  request_cause (EndTrans label) front k o reason first_so home cause = end_cause label front k o reason first_so cause
  request_cause (AbortTrans label) front k o reason first_so home cause = abort_cause label front k o reason first_so cause
  request_cause (AckEvent who rm reply) front k o reason first_so home cause = reply_cause who rm reply front k o reason (served_up n _ first_so) cause
  request_cause _ front k o reason first_so home cause = absurd cause

  -- a message that is delivered
  pub message_cause : (number : ℕ) (m : Message) (front : List Line) (k : BranchKey) (o : Outcome) (reason : Reason) → message_at number w.shared.wire ≡ Some m → n.up ≡ true → MessageSettles (tm_of n) m.kind m k o reason → LineCause es (Says (Deliver number)) front k o reason
  message_cause number m front k o reason there up h = go m.kind refl h
    where
      to : (tid serial : Id) → m.tid ≡ tid → m.serial ≡ serial → (kind : message.Kind) → m.kind ≡ kind → DeliversTo es (Says (Deliver number)) kind tid serial
      to tid serial t s kind is = (number, m, refl, known.sent number m there, is, t, s)

      joined : (x : IsOpen n.volatile.branches k) → HasAccepted x.branch m.serial → HasJoined es k.tid m.serial
      joined x (c, i, s) = subst (HasJoined es k.tid) s (subst (λ (j : BranchKey). HasJoined es j.tid c.serial) x.key ((known.told.told node n found x.branch x.there x.unprepared).joined c i))

      votes : (kind : message.Kind) → m.kind ≡ kind → k ≡ first m.tid → (x : IsOpen n.volatile.branches k) → HasAccepted x.branch m.serial → Votes es (Says (Deliver number)) kind k.tid
      votes kind is key x acc = (m.serial, to k.tid m.serial (sym (ap (λ (j : BranchKey). j.tid) key)) refl kind is, joined x acc)

      same : k ≡ first m.tid → k.serial ≡ k.tid
      same key = ap (λ (j : BranchKey). j.serial) key ∙ sym (ap (λ (j : BranchKey). j.tid) key)

      ends : (x : IsOpen n.volatile.branches k) → x.branch.state ≡ Ending → WasEnded es k.tid
      ends x q = subst (λ (j : BranchKey). WasEnded es j.tid) x.key (known.told.ended node n found up x.branch x.there x.unprepared q)

      commit_so : o ≡ Commit → CommitCause es (Says (Deliver number)) front k.tid k.serial → LineCause es (Says (Deliver number)) front k o reason
      commit_so is c = subst (λ out. LineCause es (Says (Deliver number)) front k out reason) (sym is) (inl c)

      abort_so : (why : Reason) → o ≡ Abort → reason ≡ why → AbortCause es (Says (Deliver number)) front why k.tid k.serial → LineCause es (Says (Deliver number)) front k o reason
      abort_so why is r c = subst (λ out. LineCause es (Says (Deliver number)) front k out reason) (sym is) (subst (λ y. AbortCause es (Says (Deliver number)) front y k.tid k.serial) (sym r) c)

      go : (kind : message.Kind) → m.kind ≡ kind → MessageSettles (tm_of n) kind m k o reason → LineCause es (Says (Deliver number)) front k o reason
      go message.Yes is (commit, key, x, q, acc) = commit_so commit (inr (inl (inl (votes message.Yes is key x acc), ends x q, same key)))
      go message.ReadOnly is (commit, key, x, q, acc) = commit_so commit (inr (inl (inr (votes message.ReadOnly is key x acc), ends x q, same key)))
      go message.Commit is (commit, key, _) = commit_so commit (inr (inr (inr (inl (to k.tid k.serial (sym (ap (λ (j : BranchKey). j.tid) key)) (sym (ap (λ (j : BranchKey). j.serial) key)) message.Commit is)))))
      go message.Abort is (ab, why, key) = abort_so Aborted ab why (inr (inl (to k.tid k.serial (sym (ap (λ (j : BranchKey). j.tid) key)) (sym (ap (λ (j : BranchKey). j.serial) key)) message.Abort is)))
      go message.JoinNo is (ab, why, key, x) = abort_so SyncFail ab why (inr (to k.tid k.serial (sym (ap (λ (j : BranchKey). j.tid) key)) (sym (ap (λ (j : BranchKey). j.serial) key)) message.JoinNo is, known.named.born node n found k (x.branch, x.there, x.unprepared, x.key)))
      go message.No is (ab, why, key, x, acc) = abort_so Vetoed ab why (inl (votes message.No is key x acc, same key))
      go message.Join is q = absurd q
      go message.JoinOk is q = absurd q
      go message.Prepare is q = absurd q
      go message.Ack is q = absurd q
      go message.Inquire is q = absurd q

-- Sweeps, at a world that comes of the one in which the statement was said.

-- what is known of an unprepared branch there
record Swept (es : List Entry) (node : List ℕ) (k : BranchKey) (b : Branch) : Type 0 where
  home : k.serial.node ≡ node
  born : HasBegun es k.tid k.serial
  told : (origin : Branch) × (origin.key ≡ k) × (b.due ≡ origin.due) × ((c : Child) → In c b.accepted → (d : Child) × In d origin.accepted × (d.serial ≡ c.serial)) × BranchTold es origin

swept : (es : List Entry) (w u : World) (node : List ℕ) (n : Node) (k : BranchKey) (x : IsOpen n.volatile.branches k) → Known es w → HasHeirs w u → find_node node u.nodes ≡ Some n → Swept es node k x.branch
swept es w u node n k x known thins found =
    let m = thins.node node n found in
    let b = m.2 x.branch x.there x.unprepared in
    let key : b.0.key ≡ k = sym b.3.key ∙ x.key in
    record { home = known.named.home node m.0 m.1 k (b.0, b.1, b.2, key); born = known.named.born node m.0 m.1 k (b.0, b.1, b.2, key); told = (b.0, key, b.3.due, b.3.accepted, known.told.told node m.0 m.1 b.0 b.1 b.2) }

first_serial : (b : Branch) (k : BranchKey) → b.key ≡ k → is_first b ≡ true → k.serial ≡ k.tid
first_serial b k same f = ap (λ (j : BranchKey). j.serial) (sym same ∙ same_key-true b.key (first b.key.tid) f) ∙ ap (λ (j : BranchKey). j.tid) same

-- a time that ran out
pub clock_cause : (es : List Entry) (front : List Line) (w u : World) (node : List ℕ) (n : Node) (now : ℕ) (k : BranchKey) (o : Outcome) (reason : Reason) → Known es w → HasHeirs w u → find_node node u.nodes ≡ Some n → n.clock ≡ now → EventSettles (tm_of n) (rows.Clock n.clock) k o reason → LineCause es (Says (At node (Clock now))) front k o reason
clock_cause es front w u node n now k o reason known thins found clock (ab, why, x, due) =
    let s = swept es w u node n k x known thins found in
    let parts = and_parts (is_first x.branch) (is_late n.clock x.branch.due) due in
    let same = first_serial x.branch k x.key parts.0 in
    let late = late_due x.branch.due parts.1 in
    let g = (s.told.4).given (first_origin s parts.0) late.0 (sym s.told.2 ∙ late.1) in
    let given = subst (λ (j : BranchKey). (before : List Entry) × (label : List ℕ) × (seconds : ℕ) × SaidThere es before (At j.tid.node (StartTrans label (Some seconds))) [] (line.NormalId j.tid) × (clock_told j.tid.node before + 100 * seconds ≡ late.0)) s.told.1 g in
    let time : clock_told k.tid.node given.0 + 100 * given.2 ≤ now = subst (λ t. t ≤ now) (sym given.4) (subst (λ t. late.0 ≤ t) clock late.2) in
    subst (λ out. LineCause es (Says (At node (Clock now))) front k out reason) (sym ab) (subst (λ y. AbortCause es (Says (At node (Clock now))) front y k.tid k.serial) (sym why)
    (now, ap (λ y. Says (At y (Clock now))) (sym s.home), (given.0, given.1, given.2, given.3, time), same))
  where
    late_due : (o : Option ℕ) → is_late n.clock o ≡ true → (d : ℕ) × (o ≡ Some d) × (d ≤ n.clock)
    late_due (Some d) e = (d, refl, leb-true d n.clock e)
    late_due None e = let no : ⊥ = cc in absurd no

    first_origin : (s : Swept es node k x.branch) → is_first x.branch ≡ true → is_first s.told.0 ≡ true
    first_origin s f = ap (λ (j : BranchKey). same_key j (first j.tid)) (s.told.1 ∙ sym x.key) ∙ f

-- a link that failed
pub link_cause : (es : List Entry) (w u : World) (node other : List ℕ) (n : Node) (k : BranchKey) (o : Outcome) (reason : Reason) → Known es w → HasHeirs w u → find_node node u.nodes ≡ Some n → EventSettles (tm_of n) (rows.LinkDown other) k o reason →
    (o ≡ Abort) × (reason ≡ CommFail) × (k.serial.node ≡ node) × IsCutOff es k.tid k.serial other × HasBegun es k.tid k.serial
link_cause es w u node other n k o reason known thins found (ab, why, x, cause) = (ab, why, s.home, go cause, s.born)
  where
    s : Swept es node k x.branch
    s = swept es w u node n k x known thins found

    at_other : (test : Child → Bool) (cs : List Child) → ((c : Child) → test c ≡ true → c.serial.node ≡ other) → list_any test cs ≡ true → (c : Child) × In c cs × (c.serial.node ≡ other)
    at_other test [] f e = let no : ⊥ = cc in absurd no
    at_other test (c ∷ cs) f e = by (test c) refl e (at_other test cs f)
      where
        by : (t : Bool) → test c ≡ t → t || list_any test cs ≡ true → (list_any test cs ≡ true → (d : Child) × In d cs × (d.serial.node ≡ other)) → (d : Child) × In d (c ∷ cs) × (d.serial.node ≡ other)
        by true is q more = (c, inl refl, f c is)
        by false is q more = let r = more q in (r.0, inr r.1, r.2)

    go : (is_cut_off other x.branch ≡ true) ⊎ (is_under other x.branch ≡ true) → IsCutOff es k.tid k.serial other
    go (inl cut) =
        let parts = and_parts (is_first x.branch) _ cut in
        let c = at_other (λ c. message.same_name c.serial.node other && not (is_noted c.vote)) x.branch.accepted (λ c q. same_name-true c.serial.node other (and_parts (message.same_name c.serial.node other) _ q).0) parts.1 in
        let d = s.told.3 c.0 c.1 in
        inl (first_serial x.branch k x.key parts.0, c.0.serial, subst (HasJoined es k.tid) d.2 (subst (λ (j : BranchKey). HasJoined es j.tid d.0.serial) s.told.1 ((s.told.4).joined d.0 d.1)), c.2)
    go (inr under) =
        let parts = and_parts (not (is_first x.branch)) _ under in
        inr (ap (λ (j : BranchKey). j.tid.node) (sym x.key) ∙ same_name-true (coordinator_of x.branch.key) other parts.1)
