-- What a resource manager is owed stays in the log until it forgets.
use Rattle.std.proofs.Common.{◌≡◌, ℕ, List, [], ◌∷◌, inl, inr, Bool, true, false, ◌&&◌, ◌||◌, Option, Some, None, if◌then◌else◌, refl, sym, ◌∙◌, ap, subst}
use Rattle.std.proofs.lemmas.Bool.{and_parts, both_ways}
use Rattle.std.specs.List.{list_any}
use Rattle.std.specs.Str.{bytes_eq}
use Rattle.std.proofs.lemmas.Slice.Eq.{bytes_eq-Decides}
use Rattle.vms_model.specs.Ids.{Id}
use Rattle.unit_laws.specs.Units.{Map}
use Rattle.run_said.specs.script_model.Statements.{At, AckEvent, Init, Reading, Request, Says}
use Rattle.run_said.specs.script_model.Grammar.{reading}
use Rattle.commit_protocol.specs.Messages.{CommittedRecord, ForgetReply, LogRecord, Name, NormalReply, PreparedRecord, PreparedReply, RecordKind, RememberReply, Reply, VetoReply, same_id, same_name}
use Rattle.commit_protocol.specs.Table as table
use Rattle.commit_protocol.specs.Table.{Key as BranchKey, acknowledge, acknowledged, holds, keep_record, nothing_left, records_after, release, waits_for, without_rm}
use Rattle.commit_protocol.specs.Table.{released as record_released}
use Rattle.commit_protocol.specs.Rows.{is_forget}
use Rattle.commit_protocol.specs.World.{In}
use Rattle.commit_protocol.proofs.Lists.{in_left, same_id-true, same_name-refl, same_name-true}
use Rattle.run_said.specs.log_laws.Slots.{records_in}
use Rattle.run_said.proofs.log_laws.Reading.{committed_is, is_committed_one}
use Rattle.run_said.specs.run_model.World as world
use Rattle.run_said.specs.run_model.World.{Act, Durable, Node, Shared, Tables, World, aborted_prepared, acted, with_half}
use Rattle.run_said.specs.run_model.Answers.{Row, Serves, Task, task_service}
use Rattle.run_said.specs.run_model.Steps.{node_after}
use Rattle.run_said.specs.run_model.Transcript.{Entry, Legal}
use Rattle.recovery_laws.specs.world_laws.Nodes.{IsUp}
use Rattle.recovery_laws.proofs.world_laws.LogLemmas.{prepared_branch}
use Rattle.run_laws.specs.Owing.{IsOwed, MayForget, NoneForget, Waits}
use Rattle.run_laws.proofs.Keeping.{AllTake, Kept, Keeps, Scheme, closes_plain, else_effect, is_init, is_special}
use Rattle.run_laws.proofs.ReleasingTasks.{AllTakeOut, TakesOut, TaskReleases, task_releases}
use Rattle.run_laws.proofs.RowFits.{Fits}
use Rattle.run_laws.proofs.SoundWorlds.{IsPlainReading, IsSound, Tracked, Tracks, legal_sound, turn_tracked}

-- Tests.

none_holds : (a b : Bool) → (a || b) ≡ false → (a ≡ false) × (b ≡ false)
none_holds true b e = let no : ⊥ = cc in absurd no
none_holds false b e = (refl, e)

both_hold : (a b : Bool) → a ≡ true → b ≡ true → (a && b) ≡ true
both_hold true b f g = g
both_hold false b f g = let no : ⊥ = cc in absurd no

module _ (tid serial : Id) (rm : Name) where
  -- Records.

  -- one of these committed records is of the branch and waits for the manager
  abbrev pub InRecords : List LogRecord → Type 0
  InRecords rs = (r : LogRecord) × In r rs × (r.serial ≡ serial) × (r.tid ≡ tid) × In rm r.rms

  some_left : (xs : List Id) (ys : List Name) → In rm ys → nothing_left xs ys ≡ false
  some_left [] [] i = absurd i
  some_left [] (y ∷ ys) i = refl
  some_left (x ∷ xs) ys i = refl

  keeps_first : (q : LogRecord) (rs : List LogRecord) → q.serial ≡ serial → q.tid ≡ tid → In rm q.rms → InRecords (keep_record q rs)
  keeps_first q rs s t w = go (nothing_left q.waiting q.rms) (some_left q.waiting q.rms w)
    where
      go : (b : Bool) → b ≡ false → InRecords (if b then rs else q ∷ rs)
      go true e = let no : ⊥ = cc in absurd no
      go false e = (q, inl refl, s, t, w)

  keeps_rest : (q : LogRecord) (rs : List LogRecord) → InRecords rs → InRecords (keep_record q rs)
  keeps_rest q rs h = go (nothing_left q.waiting q.rms)
    where
      go : (b : Bool) → InRecords (if b then rs else q ∷ rs)
      go true = h
      go false = (h.0, inr h.1, h.2, h.3, h.4)

  -- an acknowledgement takes no manager out
  kept_acknowledged : (k : BranchKey) (rs : List LogRecord) → InRecords rs → InRecords (acknowledge k rs)
  kept_acknowledged k [] h = h
  kept_acknowledged k (q ∷ rs) (r, i, s, t, w) = go (waits_for k q) i (λ j. kept_acknowledged k rs (r, j, s, t, w))
    where
      go : (b : Bool) → In r (q ∷ rs) → (In r rs → InRecords (acknowledge k rs)) → InRecords (if b then keep_record (acknowledged k q) rs else q ∷ acknowledge k rs)
      go true (inl same) more =
          keeps_first (acknowledged k q) rs (ap (λ (x : LogRecord). x.serial) (sym same) ∙ s) (ap (λ (x : LogRecord). x.tid) (sym same) ∙ t) (subst (λ (x : LogRecord). In rm x.rms) same w)
      go true (inr j) more = keeps_rest (acknowledged k q) rs (r, j, s, t, w)
      go false (inl same) more = (r, inl same, s, t, w)
      go false (inr j) more = let x = more j in (x.0, inr x.1, x.2, x.3, x.4)

  stays_among : (x : Name) (ys : List Name) → (rm ≡ x → ⊥) → In rm ys → In rm (without_rm x ys)
  stays_among x [] apart i = i
  stays_among x (y ∷ ys) apart i = go (same_name y x) refl i (λ j. stays_among x ys apart j)
    where
      go : (b : Bool) → same_name y x ≡ b → In rm (y ∷ ys) → (In rm ys → In rm (without_rm x ys)) → In rm (if b then without_rm x ys else y ∷ without_rm x ys)
      go true is (inl same) more = absurd (apart (same ∙ same_name-true y x is))
      go true is (inr j) more = more j
      go false is (inl same) more = inl same
      go false is (inr j) more = inr (more j)

  -- nor is it taken out by the release of another manager, or of another branch
  kept_released : (z : Id) (x : Name) → (z ≡ serial → x ≡ rm → ⊥) → (rs : List LogRecord) → InRecords rs → InRecords (release z x rs)
  kept_released z x apart [] h = h
  kept_released z x apart (q ∷ rs) (r, i, s, t, w) = go (holds z x q) refl i (λ j. kept_released z x apart rs (r, j, s, t, w))
    where
      go : (b : Bool) → holds z x q ≡ b → In r (q ∷ rs) → (In r rs → InRecords (release z x rs)) → InRecords (if b then keep_record (record_released x q) rs else q ∷ release z x rs)
      go true is (inl same) more =
          let mine : q.serial ≡ serial = ap (λ (y : LogRecord). y.serial) (sym same) ∙ s in
          let parts = and_parts (same_id q.serial z) (list_any (λ y. same_name y x) q.rms) is in
          let here : z ≡ serial = sym (same_id-true q.serial z parts.0) ∙ mine in
          keeps_first (record_released x q) rs mine (ap (λ (y : LogRecord). y.tid) (sym same) ∙ t) (stays_among x q.rms (λ e. apart here (sym e)) (subst (λ (y : LogRecord). In rm y.rms) same w))
      go true is (inr j) more = keeps_rest (record_released x q) rs (r, j, s, t, w)
      go false is (inl same) more = (r, inl same, s, t, w)
      go false is (inr j) more = let y = more j in (y.0, inr y.1, y.2, y.3, y.4)

  -- what is not taken out by an act of the table
  abbrev Leaves : table.Act → Type 0
  Leaves (table.Releases z x) = z ≡ serial → x ≡ rm → ⊥
  Leaves _ = Unit {0}

  kept_after : (a : table.Act) (rs : List LogRecord) → Leaves a → InRecords rs → InRecords (records_after a rs)
  kept_after (table.Settles k o reason (Some x)) rs q h = (h.0, in_left h.0 rs (x ∷ []) h.1, h.2, h.3, h.4)
  kept_after (table.Settles k o reason None) rs q h = h
  kept_after (table.Acknowledges k) rs q h = kept_acknowledged k rs h
  kept_after (table.Releases z x) rs q h = kept_released z x q rs h
  kept_after _ rs q h = h

  -- Acts.

  pub in_table : (n : Node) → IsUp n → Waits tid serial rm n.durable → InRecords n.volatile.records
  in_table n up (r, i, s, t, w) = elim (up.table.log.from r there.0) [
    | inl prepared ↦ absurd (clash (sym (ap (λ (x : LogRecord). x.kind) (prepared_branch n.volatile.branches r prepared).is) ∙ there.1))
    | inr committed ↦ (r, committed, s, t, w)
  ]
    where
      there : In r (records_in n.durable.log) × (r.kind ≡ CommittedRecord)
      there = committed_is (records_in n.durable.log) r i

      clash : ◌≡◌ {A = RecordKind} PreparedRecord CommittedRecord → ⊥
      clash e = let no : ⊥ = cc in no

  in_log : (n : Node) → IsUp n → InRecords n.volatile.records → Waits tid serial rm n.durable
  in_log n up (r, i, s, t, w) = (r, is_committed_one (records_in n.durable.log) r (up.table.log.committed r i) (up.table.limits.records r i).kind, s, t, w)

  abbrev pub Lets : Option Act → Type 0
  Lets (Some (Tables a moment)) = Leaves a
  Lets _ = Unit {0}

  act_waits : (free : Bool) (o : Option Act) (n : Node) → Fits free o n → IsUp n → IsUp (node_after o n) → Lets o → Waits tid serial rm n.durable → Waits tid serial rm (node_after o n).durable
  act_waits free None n f up is q h = h
  act_waits free (Some (Tables a moment)) n f up is q h = in_log (acted (Tables a moment) n) is (kept_after a n.volatile.records q (in_table n up h))
  act_waits free (Some world.Boots) n f up is q h = absurd f
  act_waits free (Some (world.Formats slots journal)) n f up is q h = absurd f
  act_waits free (Some _) n f up is q h = h

  -- Tasks.

  -- a request by which it may go
  abbrev forgets : Request → Bool
  forgets (AckEvent who x reply) = same_name x rm && is_forget reply
  forgets _ = false

  abbrev pub owed : Scheme
  owed = record {
    Told = Unit {0};
    more = λ ls a. a;
    Up = λ free a n. Waits tid serial rm n.durable;
    Disk = λ a n. Waits tid serial rm n.durable;
    Boots = λ a n. Waits tid serial rm n.durable;
    Ready = λ n. Unit {0};
    Takes = λ o. Lets o;
    special = λ r. is_init (Serves r) || forgets r;
  }

  half_waits : (o : Option Id) (standing : List ℕ → Map) (d : Durable) → Waits tid serial rm d → Waits tid serial rm (with_half o standing d)
  half_waits None standing d h = h
  half_waits (Some id) standing d h = h

  pub owed_keeps : Keeps owed
  owed_keeps = record {
    none = λ a. refl;
    append = λ xs ys a. refl;
    plain = λ ls a h v. refl;
    closes = closes_plain owed (λ ls a h. refl);
    same = λ a n m name durable settled h. subst (Waits tid serial rm) (sym durable) h;
    row = λ free r n a q f up h. act_waits free r.act n f.fits f.up up q h;
    under = λ free r n a act q f is d up h. subst (λ o. Waits tid serial rm (node_after o n).durable) is (act_waits free r.act n f.fits f.up (subst (λ o. IsUp (node_after o n)) (sym is) up) q h);
    falls = λ free a n up h. h;
    weaken = λ free a n h. h;
    half = λ a n standing k ready may h. half_waits (aborted_prepared n.under_way n.durable) standing n.durable h;
    spoils = λ a n h. h;
    boots = λ a n k h. h;
    booting = λ a n k h. h;
    undoes = λ a n u next h. h;
    undoing = λ a n u next h. h;
    rests = λ a n k h. h;
    none_ready = λ n e. tt;
    same_ready = λ n m e h. tt;
    comes = λ a n up h closed. h;
  }

  not_init : (task : Task) → is_special owed task ≡ false → is_init task ≡ false
  not_init (Serves r) e = (none_holds (is_init (Serves r)) (forgets r) e).0
  not_init _ e = refl

  -- no such task takes the manager out
  pub leaves : (s : Shared) (n : Node) (task : Task) → is_special owed task ≡ false → (z : Id) (x : Name) → TaskReleases s n task z x → z ≡ serial → x ≡ rm → ⊥
  leaves s n (Serves (AckEvent who y reply)) e z x q at is =
      both_ways (same_name y rm && is_forget reply) e (both_hold (same_name y rm) (is_forget reply) (subst (λ v. same_name y v ≡ true) (sym q.0 ∙ is) (same_name-refl y)) q.1)
  leaves s n (Serves _) e z x q at is = q
  leaves s n _ e z x q at is = q

  pub takes_of : (R : Id → Name → Type 0) (rs : List Row) → ((z : Id) (x : Name) → R z x → z ≡ serial → x ≡ rm → ⊥) → AllTakeOut R rs → AllTake owed rs
  takes_of R [] f h = tt
  takes_of R (r ∷ rs) f h = (one r.act h.0, takes_of R rs f h.1)
    where
      one : (o : Option Act) → TakesOut R o → Lets o
      one (Some (Tables a moment)) q = by a q
        where
          by : (a : table.Act) → TakesOut R (Some (Tables a moment)) → Leaves a
          by (table.Releases z x) k = f z x k
          by _ k = tt
      one _ q = tt

  pub owed_tracks : Tracks owed owed_keeps serial.node
  owed_tracks = record {
    own = λ a s stops n task c rises named sound plain ready may h.
        else_effect owed owed_keeps s stops n a sound.kept h task (not_init task plain) (λ off. takes_of (TaskReleases s n task) ((task_service task).rows s n) (leaves s n task plain) (task_releases s n task)) ready c rises may;
    beside = λ a s stops n m task c rises other sound may h. h;
  }

  -- Runs.

  is_forget_reply : (reply : Reply) → is_forget reply ≡ true → reply ≡ ForgetReply
  is_forget_reply ForgetReply e = refl
  is_forget_reply PreparedReply e = let no : ⊥ = cc in absurd no
  is_forget_reply VetoReply e = let no : ⊥ = cc in absurd no
  is_forget_reply RememberReply e = let no : ⊥ = cc in absurd no
  is_forget_reply NormalReply e = let no : ⊥ = cc in absurd no

  plain_request : (request : Request) → (MayForget serial.node rm (Says (At serial.node request)) → ⊥) → (is_init (Serves request) || forgets request) ≡ false
  plain_request (Init slots journal) never = absurd (never (inr (slots, journal, refl)))
  plain_request (AckEvent who x reply) never = go (same_name x rm) (is_forget reply) refl refl
    where
      go : (a b : Bool) → same_name x rm ≡ a → is_forget reply ≡ b → (same_name x rm && is_forget reply) ≡ false
      go false b p q = ap (λ v. v && is_forget reply) p
      go true false p q = ap (λ v. v && is_forget reply) p ∙ q
      go true true p q = absurd (never (inl (who, (λ i. Says (At serial.node (AckEvent who (same_name-true x rm p i) (is_forget_reply reply q i)))))))
  plain_request _ never = refl

  pub plain_reading : (r : Reading) → (MayForget serial.node rm r → ⊥) → IsPlainReading owed owed_keeps serial.node owed_tracks r
  plain_reading (Says (At other request)) never = go (bytes_eq other serial.node) refl
    where
      go : (b : Bool) → bytes_eq other serial.node ≡ b → (b && (is_init (Serves request) || forgets request)) ≡ false
      go true is = plain_request request (λ m. never (subst (λ y. MayForget serial.node rm (Says (At y request))) (sym ((bytes_eq-Decides other serial.node).0 is)) m))
      go false is = refl
  plain_reading (Says _) never = tt
  plain_reading _ never = tt

  pub kept_of : (n : Node) → IsOwed tid serial rm n → Kept owed owed_keeps tt n
  kept_of n h = record { disk = h.disk; way = h.way; runs = λ up. h.disk }

  pub owed_of : (n : Node) → Kept owed owed_keeps tt n → IsOwed tid serial rm n
  owed_of n h = record { disk = h.disk; way = h.way }

  pub owed_on : (base : World) (es : List Entry) (w : World) → IsSound base → Legal base es w → NoneForget serial.node rm es → Tracked owed owed_keeps serial.node tt base → Tracked owed owed_keeps serial.node tt w
  owed_on base [] w sound legal none h = subst (Tracked owed owed_keeps serial.node tt) (sym legal) h
  owed_on base (e ∷ es) w sound legal none h =
      turn_tracked owed owed_keeps serial.node owed_tracks legal.0 w (λ n found. tt) (reading e.source.text) e.lines tt (plain_reading (reading e.source.text) none.0) legal.2 (legal_sound base legal.0 es sound legal.1) (owed_on base es legal.0 sound legal.1 none.1 h)
