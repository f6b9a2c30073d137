-- Single effects, and the acts that they are of.
use Rattle.std.proofs.Common.{◌≡◌, ℕ, List, [], ◌∷◌, Option, Some, None, refl, sym, ap, subst, ◌∙◌}
use Rattle.std.specs.Prelude.{option_map}
use Rattle.vms_model.specs.Ids.{Id}
use Rattle.vms_model.specs.Transactions.{Outcome, Commit, Abort, Reason}
use Rattle.world_laws.specs.transcript_model.Lines as line
use Rattle.commit_protocol.specs.Effects.{Effect, PrepareEffect, SettleEffect, KeepEffect, ForgetEffect, SendEffect, TellEffect, JoinedEffect, StartedEffect, ReadOnlyEffect, EndedEffect, act_effects}
use Rattle.commit_protocol.specs.Messages.{LogRecord, Message, Name, RmEvent}
use Rattle.commit_protocol.specs.Table.{Act, Accepts, Acknowledges, Branch, Key, Leaves, Notes, Prepares, Prints, Releases, Sends, Settles, Started, Ended, Told, Undoes, child, holding}
use Rattle.world_laws.specs.log_laws.Slots.{forgotten, put_in, record_effects_in}
use Rattle.world_laws.specs.run_model.Answers.{sent_line, settled_line, table_lines}
use Rattle.world_laws.specs.run_model.World as world
use Rattle.world_laws.specs.run_model.World.{Node, Shared, next_moment, posted, settlement}
use Rattle.reference_world.specs.Standing.{line_of}
use Rattle.reference_world.specs.declared.line.Line.{Line}
use Rattle.reference_disk.specs.Disks.{logged_tid, one_line}
use Rattle.reference_node.specs.Nodes.{released_by}
use Rattle.reference_branches.specs.Branches.{tid_among}
use Rattle.reference_branches.specs.Lines.{key_line, settlement_line}
use Rattle.reference_node.specs.Telling.{Applies, IsTellable, prepared_by, settled_logged, settlement_so, with_log}
use Rattle.reference_node.proofs.Viewing.{IsOfRecords, shows_forgotten, shows_kept, view}

-- a branch whose parts are these
parts : (k : Key) (t s : Id) → t ≡ k.tid → s ≡ k.serial → (let j : Key = record { tid = t; serial = s } in j) ≡ k
parts k t s e f = λ i. record { tid = e i; serial = f i }

-- the branch of a serial among others
found : (before : List Key) (serial : Id) (k : Key) → k.serial ≡ serial → tid_among k.serial before ≡ k.tid → (let j : Key = record { tid = tid_among serial before; serial = serial } in j) ≡ k
found before serial k s t = parts k (tid_among serial before) serial (ap (λ x. tid_among x before) (sym s) ∙ t) (sym s)

pub prepare_applies : (before : List Key) (tid serial : Id) (rms : List Name) (a : Act) (rs : List LogRecord) (s : Shared) (n m : Node) (branch : Key) (l : Line) →
    act_effects a rs ≡ PrepareEffect serial rms ∷ [] → IsTellable before tid a rs n.durable.log → branch ≡ record { tid = tid_among serial before; serial = serial } →
    ((b : Branch) → b.key ≡ branch → holding b.managers ≡ rms → m ≡ prepared_by b n) → line_of l ≡ key_line branch → Applies a rs s n (Some l) s m
prepare_applies before tid serial rms a rs s n m branch l gives tellable among node shows =
    let v = view a rs (PrepareEffect serial rms) gives in
    let h : IsTellable before tid (Prepares v.0) rs n.durable.log = subst (λ x. IsTellable before tid x rs n.durable.log) v.1 tellable in
    let same : branch ≡ v.0.key = among ∙ found before serial v.0.key v.2 h in
    subst (λ x. Applies x rs s n (Some l) s m) (sym v.1) (record { shows = ap (λ x. x ∷ []) (shows ∙ ap key_line same); shared = refl; node = node v.0 (sym same) v.3 })

pub leave_applies : (before : List Key) (tid serial : Id) (a : Act) (rs : List LogRecord) (s t : Shared) (n m : Node) (branch : Key) (l : Line) →
    act_effects a rs ≡ ReadOnlyEffect serial ∷ [] → IsTellable before tid a rs n.durable.log → branch ≡ record { tid = tid_among serial before; serial = serial } →
    m ≡ released_by branch.serial n → t ≡ record s { read_only = branch ∷ s.read_only } → line_of l ≡ line.ReadOnly branch.tid branch.serial → Applies a rs s n (Some l) t m
leave_applies before tid serial a rs s t n m branch l gives tellable among node shared shows =
    let v = view a rs (ReadOnlyEffect serial) gives in
    let h : IsTellable before tid (Leaves v.0) rs n.durable.log = subst (λ x. IsTellable before tid x rs n.durable.log) v.1 tellable in
    let same : branch ≡ v.0 = among ∙ found before serial v.0 v.2 h in
    subst (λ x. Applies x rs s n (Some l) t m) (sym v.1) (record {
      shows = ap (λ x. x ∷ []) (shows ∙ ap (λ (k : Key). line.ReadOnly k.tid k.serial) same);
      shared = shared ∙ ap (λ (k : Key). (let z : Shared = record s { read_only = k ∷ s.read_only } in z)) same;
      node = node ∙ ap (λ (k : Key). released_by k.serial n) same;
    })

settlement_shown : (k : Key) (o : Outcome) (why : Reason) (moment : ℕ) → settlement_line (settlement k o why moment) ≡ settled_line k o why moment
settlement_shown k Commit why moment = refl
settlement_shown k Abort why moment = refl

pub settle_applies : (before : List Key) (tid serial : Id) (o p : Outcome) (why : Reason) (reason : Option Reason) (r : Option LogRecord) (a : Act) (rs : List LogRecord) (s : Shared) (n m : Node) (branch : Key) (l : Line) →
    act_effects a rs ≡ SettleEffect serial o why r ∷ [] → IsTellable before tid a rs n.durable.log → branch ≡ record { tid = tid_among serial before; serial = serial } → p ≡ o → reason ≡ world.reason_of o why →
    m ≡ settled_logged r (settlement_so branch p reason (next_moment n)) n → line_of l ≡ settlement_line (settlement_so branch p reason (next_moment n)) → Applies a rs s n (Some l) s m
settle_applies before tid serial o p why reason r a rs s n m branch l gives tellable among outcome because node shows =
    let v = view a rs (SettleEffect serial o why r) gives in
    let h : IsTellable before tid (Settles v.0 o why r) rs n.durable.log = subst (λ x. IsTellable before tid x rs n.durable.log) v.1 tellable in
    let same : branch ≡ v.0 = among ∙ found before serial v.0 v.2 h in
    let settles : settlement_so branch p reason (next_moment n) ≡ settlement v.0 o why (next_moment n) = λ i. settlement_so (same i) (outcome i) (because i) (next_moment n) in
    subst (λ x. Applies x rs s n (Some l) s m) (sym v.1) (record {
      shows = ap (λ x. x ∷ []) (shows ∙ ap settlement_line settles ∙ settlement_shown v.0 o why (next_moment n));
      shared = refl;
      node = node ∙ ap (λ x. settled_logged r x n) settles;
    })

pub keep_applies : (before : List Key) (tid : Id) (r : LogRecord) (a : Act) (rs : List LogRecord) (s : Shared) (n m : Node) →
    act_effects a rs ≡ KeepEffect r ∷ [] → m ≡ with_log (put_in r n.durable.log) n → Applies a rs s n None s m
keep_applies before tid r a rs s n m gives node = go a gives (view a rs (KeepEffect r) gives)
  where
    logs : List Effect → Node
    logs es = record n { durable = record n.durable { log = record_effects_in es n.durable.log } }

    go : (a : Act) → act_effects a rs ≡ KeepEffect r ∷ [] → IsOfRecords a → Applies a rs s n None s m
    go (Acknowledges k) gives is = record { shows = sym (shows_kept (Acknowledges k) rs r gives); shared = refl; node = node ∙ sym (ap logs gives) }
    go (Releases i x) gives is = record { shows = sym (shows_kept (Releases i x) rs r gives); shared = refl; node = node ∙ sym (ap logs gives) }
    go (Notes b) gives is = absurd is
    go (Accepts b c) gives is = absurd is
    go (Prepares b) gives is = absurd is
    go (Settles k o why q) gives is = absurd is
    go (Leaves k) gives is = absurd is
    go (Undoes k) gives is = absurd is
    go (Sends q) gives is = absurd is
    go (Prints q) gives is = absurd is

pub forget_applies : (before : List Key) (tid serial : Id) (a : Act) (rs : List LogRecord) (s : Shared) (n m : Node) (l : Line) →
    act_effects a rs ≡ ForgetEffect serial ∷ [] → IsTellable before tid a rs n.durable.log → m ≡ with_log (forgotten serial n.durable.log) n →
    line_of l ≡ line.Forgot (logged_tid serial n.durable.log) serial → Applies a rs s n (Some l) s m
forget_applies before tid serial a rs s n m l gives tellable node shows = go a gives (view a rs (ForgetEffect serial) gives) tellable
  where
    logs : List Effect → Node
    logs es = record n { durable = record n.durable { log = record_effects_in es n.durable.log } }

    shown : (r : LogRecord) → r.serial ≡ serial → logged_tid r.serial n.durable.log ≡ r.tid → line_of l ≡ line.Forgot r.tid serial
    shown r e t = shows ∙ ap (λ x. line.Forgot x serial) (ap (λ x. logged_tid x n.durable.log) (sym e) ∙ t)

    go : (a : Act) → act_effects a rs ≡ ForgetEffect serial ∷ [] → IsOfRecords a → IsTellable before tid a rs n.durable.log → Applies a rs s n (Some l) s m
    go (Acknowledges k) gives is h = let f = shows_forgotten (Acknowledges k) rs serial gives in
        record { shows = ap (λ x. x ∷ []) (shown f.0 f.2 (h f.0 f.1)) ∙ sym f.3; shared = refl; node = node ∙ sym (ap logs gives) }
    go (Releases i x) gives is h = let f = shows_forgotten (Releases i x) rs serial gives in
        record { shows = ap (λ x. x ∷ []) (shown f.0 f.2 (h f.0 f.1)) ∙ sym f.3; shared = refl; node = node ∙ sym (ap logs gives) }
    go (Notes b) gives is h = absurd is
    go (Accepts b c) gives is h = absurd is
    go (Prepares b) gives is h = absurd is
    go (Settles k o why q) gives is h = absurd is
    go (Leaves k) gives is h = absurd is
    go (Undoes k) gives is h = absurd is
    go (Sends q) gives is h = absurd is
    go (Prints q) gives is h = absurd is

pub send_applies : (q : Message) (a : Act) (rs : List LogRecord) (s t : Shared) (n : Node) (l : Line) → act_effects a rs ≡ SendEffect q ∷ [] →
    t ≡ record s { wire = posted q s.wire } → line_of l ≡ sent_line q s.wire → Applies a rs s n (Some l) t n
send_applies q a rs s t n l gives shared shows = subst (λ x. Applies x rs s n (Some l) t n) (sym (view a rs (SendEffect q) gives)) (record { shows = ap (λ x. x ∷ []) shows; shared = shared; node = refl })

pub tell_applies : (e : RmEvent) (tid serial : Id) (rm : Name) (a : Act) (rs : List LogRecord) (s : Shared) (n : Node) (branch : Key) (shown : Option Line) → act_effects a rs ≡ TellEffect e tid serial rm ∷ [] →
    branch ≡ record { tid = tid; serial = serial } → one_line (option_map line_of shown) ≡ table_lines n (Told e branch rm) → Applies a rs s n shown s n
tell_applies e tid serial rm a rs s n branch shown gives is shows = subst (λ x. Applies x rs s n shown s n) (sym (view a rs (TellEffect e tid serial rm) gives)) (record { shows = shows ∙ ap (λ (k : Key). table_lines n (Told e k rm)) is; shared = refl; node = refl })

pub join_applies : (before : List Key) (tid serial : Id) (a : Act) (rs : List LogRecord) (s t : Shared) (n : Node) (branch : Key) (l : Line) → act_effects a rs ≡ JoinedEffect serial ∷ [] → IsTellable before tid a rs n.durable.log →
    branch ≡ record { tid = tid; serial = serial } → t ≡ record s { accepted = branch ∷ s.accepted } → line_of l ≡ line.Joined branch.tid branch.serial → Applies a rs s n (Some l) t n
join_applies before tid serial a rs s t n branch l gives tellable is shared shows =
    let v = view a rs (JoinedEffect serial) gives in
    let h : IsTellable before tid (Accepts v.0 v.1) rs n.durable.log = subst (λ x. IsTellable before tid x rs n.durable.log) v.2 tellable in
    let same : branch ≡ child v.0.key.tid v.1.serial = is ∙ parts (child v.0.key.tid v.1.serial) tid serial (sym h) (sym v.3) in
    subst (λ x. Applies x rs s n (Some l) t n) (sym v.2) (record {
      shows = ap (λ x. x ∷ []) (shows ∙ ap (λ (k : Key). line.Joined k.tid k.serial) same);
      shared = shared ∙ ap (λ (k : Key). (let z : Shared = record s { accepted = k ∷ s.accepted } in z)) same;
      node = refl;
    })

pub start_applies : (before : List Key) (tid serial : Id) (a : Act) (rs : List LogRecord) (s : Shared) (n : Node) (branch : Key) (l : Line) → act_effects a rs ≡ StartedEffect serial ∷ [] → IsTellable before tid a rs n.durable.log →
    branch ≡ record { tid = tid; serial = serial } → line_of l ≡ line.Started branch.tid branch.serial → Applies a rs s n (Some l) s n
start_applies before tid serial a rs s n branch l gives tellable is shows =
    let v = view a rs (StartedEffect serial) gives in
    let h : IsTellable before tid (Prints (Started v.0)) rs n.durable.log = subst (λ x. IsTellable before tid x rs n.durable.log) v.1 tellable in
    let same : branch ≡ v.0 = is ∙ parts v.0 tid serial (sym h) (sym v.2) in
    subst (λ x. Applies x rs s n (Some l) s n) (sym v.1) (record { shows = ap (λ x. x ∷ []) (shows ∙ ap (λ (k : Key). line.Started k.tid k.serial) same); shared = refl; node = refl })

pub end_applies : (tid : Id) (why : Option Reason) (a : Act) (rs : List LogRecord) (s : Shared) (n : Node) (l : Line) → act_effects a rs ≡ EndedEffect tid why ∷ [] → line_of l ≡ line.Ended tid why → Applies a rs s n (Some l) s n
end_applies tid why a rs s n l gives shows = subst (λ x. Applies x rs s n (Some l) s n) (sym (view a rs (EndedEffect tid why) gives)) (record { shows = ap (λ x. x ∷ []) shows; shared = refl; node = refl })
