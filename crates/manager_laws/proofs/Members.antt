-- Each resource manager of a branch, and each that a record of the log names, joined that branch, or did so before the first line.
use Rattle.std.proofs.Common.{◌≡◌, ◌⊎◌, ℕ, zero, suc, Bool, true, false, ◌&&◌, List, [], ◌∷◌, ◌++◌, inl, inr, Option, Some, None, refl, sym, ◌∙◌, ap, subst}
use Rattle.std.specs.Prelude.{replicate}
use Rattle.std.specs.Str.{bytes_eq}
use Rattle.std.proofs.lemmas.Bool.{both_ways}
use Rattle.std.proofs.lemmas.Slice.Eq.{bytes_eq-Decides}
use Rattle.vms_model.specs.Ids.{Id}
use Rattle.vms_model.specs.Transactions as settles
use Rattle.world_laws.specs.transcript_model.Lines as line
use Rattle.world_laws.specs.transcript_model.Lines.{Line, Cause}
use Rattle.world_laws.specs.script_model.Statements.{At, Request, Init, Boot, StartTrans, StartBranch, JoinRm, AckEvent, DeclareRm, ForgetRm, Reading, Says}
use Rattle.world_laws.specs.script_model.Grammar.{reading}
use Rattle.unit_laws.specs.Units.{Map}
use Rattle.commit_protocol.specs.Messages as message
use Rattle.commit_protocol.specs.Messages.{LogRecord, Message, Name, Reply, same_name}
use Rattle.commit_protocol.specs.Table as table
use Rattle.commit_protocol.specs.Table.{Active, Branch, Key as BranchKey, Manager, State, holding, managers_of, prepared_record, prepared_records, records_after}
use Rattle.commit_protocol.specs.Rows.{joined, with_manager, with_reply}
use Rattle.commit_protocol.specs.World.{In}
use Rattle.commit_protocol.proofs.Lists.{in_parts, same_name-true}
use Rattle.world_laws.specs.log_laws.Slots.{prepared_of, records_in}
use Rattle.world_laws.proofs.log_laws.Reading.{prepared_is}
use Rattle.world_laws.specs.run_model.World as world
use Rattle.world_laws.specs.run_model.World.{Act, DiskCounts, Durable, IsOpening, Node, Shared, Tables, World, aborted_prepared, acted, find_node, opened, prepared_left, with_half}
use Rattle.world_laws.specs.run_model.Answers.{Hears, Restarts, Row, Serves, Service, Takes, Task, powers, refused_before_reading, service, task_service, unit_key}
use Rattle.world_laws.specs.run_model.Statements.{RoseAt, Step, stops_at}
use Rattle.world_laws.specs.run_model.Steps.{Choice, Cut, TaskAllowed, TaskEffect, Unpowered, Whole, WithoutMemory, begun, node_after, task_effect, whole}
use Rattle.world_laws.specs.run_model.Transcript.{AreOpening, Entry, Legal, Turn}
use Rattle.world_laws.specs.Nodes.{IsUp}
use Rattle.world_laws.proofs.BootLemmas.{branch_in}
use Rattle.world_laws.proofs.WorldLemmas.{each_opening}
use Rattle.run_laws.specs.Accounts.{made_anew}
use Rattle.run_laws.proofs.Keeping.{AllTake, Kept, Keeps, Scheme, any_effect, closes_plain, down_effect}
use Rattle.run_laws.proofs.MadeAnew.{made_says}
use Rattle.run_laws.proofs.Moving.{in_cut}
use Rattle.run_laws.proofs.Named.{Named}
use Rattle.run_laws.proofs.NamedRuns.{legal_named}
use Rattle.run_laws.proofs.RowFits.{Fits}
use Rattle.run_laws.proofs.SoundWorlds.{IsPlainReading, IsSound, IsSoundNode, Tracked, Tracks, legal_sound, opening_sound, sound_node, turn_tracked, unused}
use Rattle.manager_laws.specs.Joining.{ManagerJoined}
use Rattle.manager_laws.specs.Members.{IsMember, Recorded}
use Rattle.manager_laws.proofs.Backing.{IsNew, made_at, was_acknowledged, was_released}
use Rattle.manager_laws.proofs.Carrying.{act_so}
use Rattle.manager_laws.proofs.JoinedOnly.{joined_later, joins_now}
use Rattle.manager_laws.proofs.Requests.{request_on}
use Rattle.manager_laws.proofs.Taking.{HoldsIn, IsSteady, VoteHolds, asked_names, held_joined, noted_names}
use Rattle.manager_laws.proofs.TasksTake.{AllSo, RowHolds, RowsHold, TaskHolds, task_holds}
use Rattle.manager_laws.proofs.Unreplied.{ordered_in}

-- Names.

-- the managers of a branch that a boot found are those of its record
found_names : (xs : List Name) → joined (managers_of xs) ≡ xs
found_names [] = refl
found_names (x ∷ xs) = ap (λ ys. x ∷ ys) (found_names xs)

split_name : (rm x : Name) (ms : List Manager) → In rm (joined (ms ++ record { rm = x; event = None; reply = None } ∷ [])) → In rm (joined ms) ⊎ (rm ≡ x)
split_name rm x [] (inl same) = inr same
split_name rm x [] (inr none) = absurd none
split_name rm x (m ∷ ms) (inl same) = inl (inl same)
split_name rm x (m ∷ ms) (inr i) = elim (split_name rm x ms i) [ inl j ↦ inl (inr j) | inr e ↦ inr e ]

prepared_one : (bs : List Branch) (r : LogRecord) → In r (prepared_records bs) → (b : Branch) × In b bs × (r ≡ prepared_record b)
prepared_one [] r i = absurd i
prepared_one (b ∷ bs) r i = go b.state i (prepared_one bs r)
  where
    go : (s : State) → In r (table.prepared_state b s (prepared_records bs)) → (In r (prepared_records bs) → (c : Branch) × In c bs × (r ≡ prepared_record c)) → (c : Branch) × In c (b ∷ bs) × (r ≡ prepared_record c)
    go table.Prepared (inl same) more = (b, inl refl, same)
    go table.Prepared (inr j) more = let x = more j in (x.0, inr x.1, x.2)
    go Active j more = let x = more j in (x.0, inr x.1, x.2)
    go table.Joining j more = let x = more j in (x.0, inr x.1, x.2)
    go table.Ending j more = let x = more j in (x.0, inr x.1, x.2)
    go table.Voting j more = let x = more j in (x.0, inr x.1, x.2)

none_made : (slots : ℕ) → records_in (replicate slots None) ≡ []
none_made zero = refl
none_made (suc slots) = none_made slots

abbrev pub AnyNames : List Name → Type 0
AnyNames rms = Unit {0}

-- whether a request is a JOIN_RM of this manager
abbrev pub joins_it : Name → Request → Bool
joins_it rm (JoinRm label x) = same_name x rm
joins_it rm _ = false

module _ (tid serial : Id) (rm : Name) (Else : Type 0) where
  -- where the branch has this manager, something is so
  abbrev pub Has : Branch → Type 0
  Has b = b.key.tid ≡ tid → b.key.serial ≡ serial → In rm (joined b.managers) → Else

  like : (b x : Branch) → x.key ≡ b.key → joined x.managers ≡ joined b.managers → Has b → Has x
  like b x key names h t s i = h (ap (λ (k : BranchKey). k.tid) (sym key) ∙ t) (ap (λ (k : BranchKey). k.serial) (sym key) ∙ s) (subst (In rm) names i)

  pub has_steady : IsSteady Has
  has_steady = record {
    alike = λ b x u v off key managers accepted h. like b x key (ap joined managers) h;
    asked = λ b x e asking one u v key managers accepted h. like b x key (ap joined managers ∙ asked_names e b.managers) h;
    accepts = λ b c h. h;
    prepares = λ b all h. h;
    changed = λ b h. h;
  }

  -- and so where a record of the log names it
  abbrev pub IsBacked : Durable → Type 0
  IsBacked d = Recorded tid serial rm d → Else

  -- Nodes.

  abbrev pub members : Scheme
  members = record { Told = Unit {0}; more = λ ls a. a; Up = λ free a n. AllSo Has n × IsBacked n.durable; Disk = λ a n. IsBacked n.durable; Boots = λ a n. AllSo Has n × IsBacked n.durable; Ready = λ n. Unit {0}; Takes = λ o. RowHolds Has AnyNames o; special = λ r. joins_it rm r }

  abbrev InRecords : List LogRecord → Type 0
  InRecords rs = (r : LogRecord) × In r rs × (r.serial ≡ serial) × (r.tid ≡ tid) × In rm r.rms

  -- a committed record behind an act stood before it, or is one that it writes
  was_before : (a : table.Act) (rs : List LogRecord) → HoldsIn Has a → (InRecords rs → Else) → InRecords (records_after a rs) → Else
  was_before (table.Settles k settles.Commit reason (Some x)) rs (b, h, key, nothing, q, owed) f (r, i, s, t, w) = elim (in_parts r rs (x ∷ []) i) [
    | inl old ↦ f (r, old, s, t, w)
    | inr new ↦ elim new [
      | inl same ↦ h (ap (λ (j : BranchKey). j.tid) key ∙ (sym q.0 ∙ (ap (λ (y : LogRecord). y.tid) (sym same) ∙ t))) (ap (λ (j : BranchKey). j.serial) key ∙ (sym q.1 ∙ (ap (λ (y : LogRecord). y.serial) (sym same) ∙ s))) (owed rm (subst (λ (y : LogRecord). In rm y.rms) same w))
      | inr none ↦ absurd none
    ]
  ]
  was_before (table.Settles k settles.Abort reason (Some x)) rs q f h = let no : ⊥ = cc in absurd no
  was_before (table.Settles k o reason None) rs q f h = f h
  was_before (table.Acknowledges k) rs q f h = f (was_acknowledged tid serial rm k rs h)
  was_before (table.Releases z x) rs q f h = f (was_released tid serial rm z x rs h)
  was_before _ rs q f h = f h

  -- a record of the log is that of a branch, or a committed one
  by_table : (n : Node) → IsUp n → AllSo Has n → (InRecords n.volatile.records → Else) → IsBacked n.durable
  by_table n up branches f (r, i, s, t, w) = elim (up.table.log.from r i) [
    | inl prepared ↦
        (let x = prepared_one n.volatile.branches r prepared in
        branches x.0 x.1 (ap (λ (y : LogRecord). y.tid) (sym x.2) ∙ t) (ap (λ (y : LogRecord). y.serial) (sym x.2) ∙ s) (held_joined (x.0).managers rm (subst (λ (y : LogRecord). In rm y.rms) x.2 w)))
    | inr committed ↦ f (r, committed, s, t, w)
  ]

  from_log : (n : Node) → IsUp n → IsBacked n.durable → InRecords n.volatile.records → Else
  from_log n up h (r, i, s, t, w) = h (r, up.table.log.committed r i, s, t, w)

  act_has : (free : Bool) (o : Option Act) (n : Node) → Fits free o n → IsUp n → IsUp (node_after o n) → RowHolds Has AnyNames o → AllSo Has n × IsBacked n.durable → AllSo Has (node_after o n) × IsBacked (node_after o n).durable
  act_has free o n f up is q h = (branches, go o f is q branches)
    where
      branches : AllSo Has (node_after o n)
      branches = act_so Has AnyNames has_steady o n q h.0

      go : (o : Option Act) → Fits free o n → IsUp (node_after o n) → RowHolds Has AnyNames o → AllSo Has (node_after o n) → IsBacked (node_after o n).durable
      go None f is q all = h.1
      go (Some (Tables a moment)) f is q all = by_table (acted (Tables a moment) n) is all (was_before a n.volatile.records q (from_log n up h.1))
      go (Some world.Boots) f is q all = absurd f
      go (Some (world.Formats slots journal)) f is q all = absurd f
      go (Some _) f is q all = h.1

  half_backed : (o : Option Id) (standing : List ℕ → Map) (d : Durable) → IsBacked d → IsBacked (with_half o standing d)
  half_backed None standing d h = h
  half_backed (Some id) standing d h = h

  booted_has : (n : Node) → IsBacked n.durable → AllSo Has (acted world.Boots n)
  booted_has n h b i t s w =
      let r = branch_in (prepared_left n.durable) b i in
      let there = (prepared_is (records_in n.durable.log) r.0 (ordered_in (world.prepared_serials n.durable.units.entries) (prepared_of (records_in n.durable.log)) r.0 r.1)).0 in
      h (r.0, there, ap (λ (x : Branch). x.key.serial) (sym r.2) ∙ s, ap (λ (x : Branch). x.key.tid) (sym r.2) ∙ t, subst (In rm) (found_names (r.0).rms) (subst (λ (x : Branch). In rm (joined x.managers)) r.2 w))

  pub members_keeps : Keeps members
  members_keeps = record {
    none = λ a. refl;
    append = λ xs ys a. refl;
    plain = λ ls a h v. refl;
    closes = closes_plain members (λ ls a h. refl);
    same = λ a n m name durable settled h. subst IsBacked (sym durable) h;
    row = λ free r n a q f up h. act_has free r.act n f.fits f.up up q h;
    under = λ free r n a act q f is d up h. subst (λ o. IsBacked (node_after o n).durable) is (act_has free r.act n f.fits f.up (subst (λ o. IsUp (node_after o n)) (sym is) up) q h).1;
    falls = λ free a n up h. h.1;
    weaken = λ free a n h. h;
    half = λ a n standing k ready may h. half_backed (aborted_prepared n.under_way n.durable) standing n.durable h;
    spoils = λ a n h. h;
    boots = λ a n k h. (booted_has n h, h);
    booting = λ a n k h. h;
    undoes = λ a n u next h. ((λ b i. h.0 b (in_cut (unit_key u) b n.volatile.branches i)), h.1);
    undoing = λ a n u next h. h.1;
    rests = λ a n k h. h.1;
    none_ready = λ n e. tt;
    same_ready = λ n m e h. tt;
    comes = λ a n up h closed. h;
  }

  abbrev pub HasAt : Node → Type 0
  HasAt n = Kept members members_keeps tt n

  -- on a new volume stands no record
  made_backed : (slots journal : ℕ) (n : Node) → IsBacked (acted (world.Formats slots journal) n).durable
  made_backed slots journal n (r, i, s, t, w) = absurd (subst (λ rs. In r rs) (none_made slots) i)

  -- Tasks.

  takes_of : (rs : List Row) → RowsHold Has AnyNames rs → AllTake members rs
  takes_of [] h = tt
  takes_of (r ∷ rs) h = (h.0, takes_of rs h.1)

  votes_have : (bs : List Branch) (m : Message) (k : message.Kind) → VoteHolds Has bs m k
  votes_have bs m message.Yes = λ b i key h. h
  votes_have bs m message.ReadOnly = λ b i key h. h
  votes_have bs m _ = tt

  joined_has : (x : Name) (b : Branch) → (b.key.tid ≡ tid → b.key.serial ≡ serial → rm ≡ x → Else) → Has b → Has (with_manager x b)
  joined_has x b new h t s i = elim (split_name rm x b.managers i) [ inl old ↦ h t s old | inr same ↦ new t s same ]

  request_has : (s : Shared) (n : Node) (r : Request) → joins_it rm r ≡ false → powers (service r) ≡ false → TaskHolds Has AnyNames s n (Serves r)
  request_has s n (StartTrans label seconds) other off = λ t z i. absurd i
  request_has s n (StartBranch label) other off = λ a bid t z i. absurd i
  request_has s n (JoinRm label x) other off = λ b is y i same active h. joined_has x y (λ t z e. absurd (both_ways (same_name x rm) other (Rattle.commit_protocol.proofs.Lists.same_name-eq x rm (sym e)))) h
  request_has s n (AckEvent who x reply) other off = λ id is b i same plain h. like b (with_reply x reply b) refl (noted_names x reply b.managers) h
  request_has s n (DeclareRm x) other off = tt
  request_has s n (ForgetRm x) other off = tt
  request_has s n Boot other off = let no : ⊥ = cc in absurd no
  request_has s n _ other off = tt

  pub task_has : (s : Shared) (n : Node) (t : Task) → Rattle.run_laws.proofs.Keeping.is_special members t ≡ false → powers (task_service t) ≡ false → TaskHolds Has AnyNames s n t
  task_has s n (Serves r) other off = request_has s n r other off
  task_has s n (Takes m) other off = votes_have n.volatile.branches m m.kind
  task_has s n (Hears m) other off = votes_have n.volatile.branches m m.kind
  task_has s n Restarts other off = let no : ⊥ = cc in absurd no
  task_has s n _ other off = tt

  own_has : (s : Shared) (stops : ℕ) (n : Node) (task : Task) (c : Choice) (rises : Cause → Type 0) → IsSoundNode s n → (n.up ≡ true → powers (task_service task) ≡ false → TaskHolds Has AnyNames s n task) → TaskAllowed s stops n task rises c → HasAt n → HasAt (task_effect s stops n task c).node
  own_has s stops n task c rises sound holds may h = go n.up refl (powers (task_service task)) refl
    where
      any : (powers (task_service task) ≡ false → AllTake members ((task_service task).rows s n)) → HasAt (task_effect s stops n task c).node
      any takes = any_effect members members_keeps s stops n tt sound.kept h (unused s n sound) (λ off slots journal m none. made_backed slots journal m) task takes (λ on. tt) c rises may

      go : (b : Bool) → n.up ≡ b → (p : Bool) → powers (task_service task) ≡ p → HasAt (task_effect s stops n task c).node
      go true up p is = any (λ off. takes_of ((task_service task).rows s n) (task_holds Has AnyNames has_steady s n (h.runs up).0 task (holds up off)))
      go false down true on = any (λ off. absurd (both_ways (powers (task_service task)) off on))
      go false down false off = down_effect members members_keeps s stops n task tt sound.kept h off down c rises may

  pub has_tracks : (node : List ℕ) → Tracks members members_keeps node
  has_tracks node = record {
    own = λ a s stops n task c rises named sound plain ready may h. own_has s stops n task c rises sound (λ up off. task_has s n task plain off) may h;
    beside = λ a s stops n m task c rises other sound may h. h;
  }

  -- a reading is a JOIN_RM of the manager at a node, or none there
  pub data Kind (node : List ℕ) (r : Reading) : Type 0 where
    Plain : IsPlainReading members members_keeps node (has_tracks node) r → Kind node r
    Joins : (label : List ℕ) → r ≡ Says (At node (JoinRm label rm)) → Kind node r

  pub kind : (node : List ℕ) (r : Reading) → Kind node r
  kind node (Says (At other request)) = go request (bytes_eq other node) refl
    where
      plainly : (request : Request) (b : Bool) → bytes_eq other node ≡ b → (b && joins_it rm request) ≡ false → Kind node (Says (At other request))
      plainly request b is e = Plain (subst (λ t. (t && joins_it rm request) ≡ false) (sym is) e)

      never : (b : Bool) → (b && false) ≡ false
      never true = refl
      never false = refl

      by_name : (label x : List ℕ) → bytes_eq other node ≡ true → (t : Bool) → same_name x rm ≡ t → Kind node (Says (At other (JoinRm label x)))
      by_name label x is true same = Joins label (λ i. Says (At ((bytes_eq-Decides other node).0 is i) (JoinRm label (same_name-true x rm same i))))
      by_name label x is false same = plainly (JoinRm label x) true is same

      go : (request : Request) (b : Bool) → bytes_eq other node ≡ b → Kind node (Says (At other request))
      go (JoinRm label x) true is = by_name label x is (same_name x rm) refl
      go (JoinRm label x) false is = plainly (JoinRm label x) false is refl
      go request b is = plainly request b is (never b)
  kind node (Says _) = Plain tt
  kind node _ = Plain tt

  -- A JOIN_RM of the manager, which is the reason where it succeeds.
  join_on : (e : Entry) (es : List Entry) (w v : World) (label : List ℕ) → Named es w → IsSound w → reading e.source.text ≡ Says (At serial.node (JoinRm label rm)) → (ManagerJoined (e ∷ es) tid serial rm → Else) → Step w (At serial.node (JoinRm label rm)) e.lines v →
      Tracked members members_keeps serial.node tt w → Tracked members members_keeps serial.node tt v
  join_on e es w v label known sound said now step h = elim (request_on members members_keeps serial.node w v (JoinRm label rm) e.lines tt ⊥ refl step (λ n c found allowed shows k. inr (one n c found allowed shows k)) h) [ inl none ↦ absurd none | inr x ↦ x ]
    where
      Effect : Node → Choice → TaskEffect
      Effect n c = task_effect w.shared (stops_at serial.node w) n (Serves (JoinRm label rm)) c

      e_join : Service
      e_join = service (JoinRm label rm)

      one : (n : Node) (c : Choice) → find_node serial.node w.nodes ≡ Some n → TaskAllowed w.shared (stops_at serial.node w) n (Serves (JoinRm label rm)) (λ cause. RoseAt w serial.node cause v.disks) c → e.lines ≡ (Effect n c).lines ++ (Effect n c).answer ∷ [] → HasAt n → HasAt (Effect n c).node
      one n (Whole outturn) found allowed shows k = go (refused_before_reading w.shared n e_join) refl (e_join.refused_after_reading w.shared n) refl
        where
          go : (q : Option Line) → refused_before_reading w.shared n e_join ≡ q → (r : Option Line) → e_join.refused_after_reading w.shared n ≡ r → HasAt (Effect n (Whole outturn)).node
          go (Some refusal) first r late = subst (λ x. HasAt (whole w.shared n n e_join x).node) (sym first) k
          go None first (Some refusal) late = subst (λ x. HasAt (whole w.shared n n e_join x).node) (sym first) (subst (λ x. HasAt (begun w.shared n e_join x).node) (sym late) k)
          go None first None late = own_has w.shared (stops_at serial.node w) n (Serves (JoinRm label rm)) (Whole outturn) (λ cause. RoseAt w serial.node cause v.disks) (sound_node w sound serial.node n found) (λ up off b at y i is_serial active old. joined_has rm y (λ t z name. now (it y t z (joins_now e es w v serial.node label rm known sound said n found ((sound.kept serial.node n found).runs up).0 (Effect n (Whole outturn)).lines answered b at y i is_serial active))) old) allowed k
            where
              answered : e.lines ≡ (Effect n (Whole outturn)).lines ++ line.Normal ∷ []
              answered = shows ∙ ap (λ x. (Effect n (Whole outturn)).lines ++ x ∷ []) (ap (λ x. (whole w.shared n n e_join x).answer) first ∙ ap (λ x. (begun w.shared n e_join x).answer) late)

              it : (y : Branch) → y.key.tid ≡ tid → y.key.serial ≡ serial → ManagerJoined (e ∷ es) y.key.tid y.key.serial rm → ManagerJoined (e ∷ es) tid serial rm
              it y t z j = subst (λ x. ManagerJoined (e ∷ es) x serial rm) t (subst (λ x. ManagerJoined (e ∷ es) y.key.tid x rm) z j)
      one n WithoutMemory found allowed shows k = let no : ⊥ = cc in absurd no
      one n Unpowered found allowed shows k = let no : ⊥ = cc in absurd no
      one n (Cut outturn j b cause) found allowed shows k = let no : ⊥ = cc in absurd no

has_more : (tid serial : Id) (rm : Name) (E F : Type 0) → (E → F) → (n : Node) → HasAt tid serial rm E n → HasAt tid serial rm F n
has_more tid serial rm E F f n h = record { disk = λ x. f (h.disk x); way = λ act is x. f (h.way act is x); runs = λ up. ((λ b i t s w. f ((h.runs up).0 b i t s w)), λ x. f ((h.runs up).1 x)) }

-- So it is in each world.
module _ (nodes : List Node) (disks : List DiskCounts) (opening : AreOpening nodes) (tid serial : Id) (rm : Name) where
  abbrev It : List Entry → Type 0
  It es = IsMember (opened nodes disks) es tid serial rm

  abbrev pub AreMembers : List Entry → World → Type 0
  AreMembers es w = Tracked (members tid serial rm (It es)) (members_keeps tid serial rm (It es)) serial.node tt w

  pub legal_members : (es : List Entry) (w : World) → Legal (opened nodes disks) es w → AreMembers es w
  legal_members [] w legal = subst (AreMembers []) (sym legal) (λ n found. at n found (each_opening nodes opening serial.node n found))
    where
      at : (n : Node) → find_node serial.node nodes ≡ Some n → IsOpening n → HasAt tid serial rm (It []) n
      at n found o = record {
        disk = λ stands. inr (n, found, stands, tt);
        way = λ act e. let no : ◌≡◌ {A = Option Act} None (Some act) = sym o.under_way ∙ e in let none : ⊥ = cc in absurd none;
        runs = λ up. absurd (both_ways n.up o.down up);
      }
  legal_members (e ∷ es) w legal = go (legal_members es legal.0 legal.1) (made_anew serial.node (reading e.source.text) e.lines) refl
    where
      sound : IsSound legal.0
      sound = legal_sound (opened nodes disks) legal.0 es (opening_sound nodes disks opening) legal.1

      later : made_anew serial.node (reading e.source.text) e.lines ≡ false → It es → It (e ∷ es)
      later kept (inl j) = inl (joined_later e es tid serial rm j)
      later kept (inr (n, found, stands, none)) = inr (n, found, stands, (kept, none))

      by : Kind tid serial rm (It (e ∷ es)) serial.node (reading e.source.text) → AreMembers (e ∷ es) legal.0 → AreMembers (e ∷ es) w
      by (Plain p) before = turn_tracked (members tid serial rm (It (e ∷ es))) (members_keeps tid serial rm (It (e ∷ es))) serial.node (has_tracks tid serial rm (It (e ∷ es)) serial.node) legal.0 w (λ n found. tt) (reading e.source.text) e.lines tt p legal.2 sound before
      by (Joins label is) before = join_on tid serial rm (It (e ∷ es)) e es legal.0 w label (legal_named nodes disks es legal.0 opening legal.1) sound is (λ j. inl j) (subst (λ r. Turn legal.0 r e.lines w) is legal.2) before

      go : AreMembers es legal.0 → (b : Bool) → made_anew serial.node (reading e.source.text) e.lines ≡ b → AreMembers (e ∷ es) w
      go before true made = λ m now.
          let x = made_says serial.node (reading e.source.text) e.lines made in
          at m (made_at legal.0 w serial.node x.0 x.1 sound (subst (λ ls. Step legal.0 (At serial.node (Init x.0 x.1)) ls w) x.3 (subst (λ r. Turn legal.0 r e.lines w) x.2 legal.2)) m now)
        where
          at : (m : Node) → IsNew m → HasAt tid serial rm (It (e ∷ es)) m
          at m (slots, journal, r, is, none, down) = subst (HasAt tid serial rm (It (e ∷ es))) (sym is) (record {
            disk = made_backed tid serial rm (It (e ∷ es)) slots journal r;
            way = λ act under. let clash : ◌≡◌ {A = Option Act} None (Some act) = sym none ∙ under in let no : ⊥ = cc in absurd no;
            runs = λ up. absurd (both_ways r.up down up);
          })
      go before false kept = by (kind tid serial rm (It (e ∷ es)) serial.node (reading e.source.text)) (λ n found. has_more tid serial rm (It es) (It (e ∷ es)) (later kept) n (before n found))
