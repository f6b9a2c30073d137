-- Each resource manager of a branch that is not prepared joined it by a JOIN_RM that succeeded.
use Rattle.std.proofs.Common.{◌≡◌, ℕ, Bool, true, false, ◌&&◌, List, [], ◌∷◌, ◌++◌, inl, inr, Some, None, refl, sym, ◌∙◌, ap, subst}
use Rattle.std.specs.Str.{bytes_eq}
use Rattle.std.proofs.lemmas.Bool.{both_ways}
use Rattle.std.proofs.lemmas.Slice.Eq.{bytes_eq-Decides}
use Rattle.vms_model.specs.Ids.{Id}
use Rattle.world_laws.specs.transcript_model.Lines as line
use Rattle.world_laws.specs.transcript_model.Lines.{Line, Cause}
use Rattle.world_laws.specs.script_model.Statements.{At, Request, Boot, StartTrans, StartBranch, JoinRm, AckEvent, DeclareRm, ForgetRm, Reading, Says}
use Rattle.world_laws.specs.script_model.Grammar.{reading}
use Rattle.commit_protocol.specs.Messages as message
use Rattle.commit_protocol.specs.Messages.{Message, Name, Reply}
use Rattle.commit_protocol.specs.Table.{Active, Branch, Key as BranchKey, Manager}
use Rattle.commit_protocol.specs.Rows.{with_manager, with_reply}
use Rattle.commit_protocol.specs.Allowed.{is_prepared}
use Rattle.commit_protocol.specs.World.{In}
use Rattle.commit_protocol.proofs.Lists.{in_parts}
use Rattle.world_laws.specs.run_model.World.{DiskCounts, IsOpening, Node, Shared, World, find_node, opened}
use Rattle.world_laws.specs.run_model.Answers.{Hears, Restarts, Row, Serves, Takes, Task, branch_labelled, powers, service, task_service, unit_key}
use Rattle.world_laws.specs.run_model.Statements.{RoseAt, Step, stops_at}
use Rattle.world_laws.specs.run_model.Steps.{Choice, TaskAllowed, TaskEffect, task_effect}
use Rattle.world_laws.specs.run_model.Transcript.{AreOpening, Entry, Legal, Turn}
use Rattle.world_laws.proofs.run_model.TaskLemmas.{Failing, First, Lacking, Late, Outcome, Success, outcome}
use Rattle.world_laws.specs.Nodes.{IsUp}
use Rattle.world_laws.proofs.BootLemmas.{branch_in}
use Rattle.world_laws.proofs.TableLemmas.{one_branch}
use Rattle.world_laws.proofs.UpLemmas.{differ}
use Rattle.world_laws.proofs.WorldLemmas.{each_opening}
use Rattle.run_laws.proofs.Ending.{named_branch}
use Rattle.run_laws.proofs.Keeping.{AllTake, Kept, Keeps, Scheme, any_effect, closes_plain, down_effect}
use Rattle.run_laws.proofs.Labelling.{label_of}
use Rattle.run_laws.proofs.Moving.{in_cut}
use Rattle.run_laws.proofs.Named.{Named}
use Rattle.run_laws.proofs.NamedRuns.{legal_named}
use Rattle.run_laws.proofs.SoundWorlds.{IsPlainReading, IsSound, IsSoundNode, Tracked, Tracks, legal_sound, opening_sound, sound_node, turn_tracked, unused}
use Rattle.manager_laws.specs.Joining.{JoinedAt, ManagerJoined}
use Rattle.manager_laws.proofs.Carrying.{act_so}
use Rattle.manager_laws.proofs.Declared.{asked_names, noted_names}
use Rattle.manager_laws.proofs.Requests.{request_on}
use Rattle.manager_laws.proofs.Taking.{IsSteady, VoteHolds}
use Rattle.manager_laws.proofs.TasksTake.{AllSo, RowHolds, RowsHold, TaskHolds, task_holds}

-- whether a request is a JOIN_RM
abbrev is_join : Request → Bool
is_join (JoinRm label rm) = true
is_join _ = false

abbrev AnyNames : List Name → Type 0
AnyNames rms = Unit {0}

-- Managers of which something is said.
module _ (X : Id → Id → Name → Type 0) where
  -- so it is of each manager of a branch that is not prepared
  abbrev pub Only : Branch → Type 0
  Only b = is_prepared b.state ≡ false → (m : Manager) → In m b.managers → X b.key.tid b.key.serial m.rm

  of_key : (k j : BranchKey) (x : Name) → k ≡ j → X j.tid j.serial x → X k.tid k.serial x
  of_key k j x same h = subst (λ (y : BranchKey). X y.tid y.serial x) (sym same) h

  only_steady : IsSteady Only
  only_steady = record {
    alike = λ b x u v off key managers accepted h p m i. of_key x.key b.key m.rm key (h u m (subst (In m) managers i));
    asked = λ b x e asking one u v key managers accepted h p m i. let y = asked_names e b.managers m (subst (In m) managers i) in of_key x.key b.key m.rm key (subst (X b.key.tid b.key.serial) (sym y.2) (h u y.0 y.1));
    accepts = λ b c h. h;
    prepares = λ b all h p. let no : ⊥ = cc in absurd no;
    changed = λ b h. h;
  }

  joined_only : (x : Name) (b : Branch) → X b.key.tid b.key.serial x → Only b → Only (with_manager x b)
  joined_only x b there h p m i = elim (in_parts m b.managers (record { rm = x; event = None; reply = None } ∷ []) i) [
    | inl old ↦ h p m old
    | inr new ↦ elim new [ inl same ↦ subst (X b.key.tid b.key.serial) (sym (ap (λ (y : Manager). y.rm) same)) there | inr none ↦ absurd none ]
  ]

  replied_only : (x : Name) (r : Reply) (b : Branch) → Only b → Only (with_reply x r b)
  replied_only x r b h p m i = let y = noted_names x r b.managers m i in subst (X b.key.tid b.key.serial) (sym y.2) (h p y.0 y.1)

  -- Nodes.

  abbrev pub only : Scheme
  only = record { Told = Unit {0}; more = λ ls a. a; Up = λ free a n. AllSo Only n; Disk = λ a n. Unit {0}; Boots = λ a n. AllSo Only n; Ready = λ n. Unit {0}; Takes = λ o. RowHolds Only AnyNames o; special = is_join }

  pub only_keeps : Keeps only
  only_keeps = record {
    none = λ a. refl;
    append = λ xs ys a. refl;
    plain = λ ls a h v. refl;
    closes = closes_plain only (λ ls a h. refl);
    same = λ a n m name durable settled h. tt;
    row = λ free r n a q f up h. act_so Only AnyNames only_steady r.act n q h;
    under = λ free r n a act q f is d up h. tt;
    falls = λ free a n up h. tt;
    weaken = λ free a n h. h;
    half = λ a n standing k ready may h. tt;
    spoils = λ a n h. tt;
    boots = λ a n k h b i p. let r = branch_in (Rattle.world_laws.specs.run_model.World.prepared_left n.durable) b i in absurd (both_ways (is_prepared b.state) p (ap (λ (x : Branch). is_prepared x.state) r.2));
    booting = λ a n k h. tt;
    undoes = λ a n u next h b i. h b (in_cut (unit_key u) b n.volatile.branches i);
    undoing = λ a n u next h. tt;
    rests = λ a n k h. tt;
    none_ready = λ n e. tt;
    same_ready = λ n m e h. tt;
    comes = λ a n up h closed. h;
  }

  abbrev pub OnlyAt : Node → Type 0
  OnlyAt n = Kept only only_keeps tt n

  -- Tasks.

  takes_of : (rs : List Row) → RowsHold Only AnyNames rs → AllTake only rs
  takes_of [] h = tt
  takes_of (r ∷ rs) h = (h.0, takes_of rs h.1)

  votes_only : (bs : List Branch) (m : Message) (k : message.Kind) → VoteHolds Only bs m k
  votes_only bs m message.Yes = λ b i key h. h
  votes_only bs m message.ReadOnly = λ b i key h. h
  votes_only bs m _ = tt

  request_only : (s : Shared) (n : Node) (r : Request) → is_join r ≡ false → powers (service r) ≡ false → TaskHolds Only AnyNames s n (Serves r)
  request_only s n (StartTrans label seconds) other off = λ p m i. absurd i
  request_only s n (StartBranch label) other off = λ t bid p m i. absurd i
  request_only s n (JoinRm label rm) other off = let no : ⊥ = cc in absurd no
  request_only s n (AckEvent who rm reply) other off = λ serial is b i same plain h. replied_only rm reply b h
  request_only s n (DeclareRm rm) other off = tt
  request_only s n (ForgetRm rm) other off = tt
  request_only s n Boot other off = let no : ⊥ = cc in absurd no
  request_only s n _ other off = tt

  task_only : (s : Shared) (n : Node) (t : Task) → Rattle.run_laws.proofs.Keeping.is_special only t ≡ false → powers (task_service t) ≡ false → TaskHolds Only AnyNames s n t
  task_only s n (Serves r) other off = request_only s n r other off
  task_only s n (Takes m) other off = votes_only n.volatile.branches m m.kind
  task_only s n (Hears m) other off = votes_only n.volatile.branches m m.kind
  task_only s n Restarts other off = let no : ⊥ = cc in absurd no
  task_only s n _ other off = tt

  own_only : (s : Shared) (stops : ℕ) (n : Node) (task : Task) (c : Choice) (rises : Cause → Type 0) → IsSoundNode s n → (n.up ≡ true → powers (task_service task) ≡ false → TaskHolds Only AnyNames s n task) → TaskAllowed s stops n task rises c → OnlyAt n → OnlyAt (task_effect s stops n task c).node
  own_only s stops n task c rises sound holds may h = go n.up refl (powers (task_service task)) refl
    where
      any : (powers (task_service task) ≡ false → AllTake only ((task_service task).rows s n)) → OnlyAt (task_effect s stops n task c).node
      any takes = any_effect only only_keeps s stops n tt sound.kept h (unused s n sound) (λ off slots journal m none. tt) task takes (λ on. tt) c rises may

      go : (b : Bool) → n.up ≡ b → (p : Bool) → powers (task_service task) ≡ p → OnlyAt (task_effect s stops n task c).node
      go true up p is = any (λ off. takes_of ((task_service task).rows s n) (task_holds Only AnyNames only_steady s n (h.runs up) task (holds up off)))
      go false down true on = any (λ off. absurd (both_ways (powers (task_service task)) off on))
      go false down false off = down_effect only only_keeps s stops n task tt sound.kept h off down c rises may

  only_tracks : (node : List ℕ) → Tracks only only_keeps node
  only_tracks node = record {
    own = λ a s stops n task c rises named sound plain ready may h. own_only s stops n task c rises sound (λ up off. task_only s n task plain off) may h;
    beside = λ a s stops n m task c rises other sound may h. h;
  }

  -- a reading is a JOIN_RM at a node, or none there
  data Kind (node : List ℕ) (r : Reading) : Type 0 where
    Plain : IsPlainReading only only_keeps node (only_tracks node) r → Kind node r
    Joins : (label rm : List ℕ) → r ≡ Says (At node (JoinRm label rm)) → Kind node r

  kind : (node : List ℕ) (r : Reading) → Kind node r
  kind node (Says (At other request)) = go request (bytes_eq other node) refl
    where
      plainly : (request : Request) (b : Bool) → bytes_eq other node ≡ b → (b && is_join request) ≡ false → Kind node (Says (At other request))
      plainly request b is e = Plain (subst (λ t. (t && is_join request) ≡ false) (sym is) e)

      never : (b : Bool) → (b && false) ≡ false
      never true = refl
      never false = refl

      go : (request : Request) (b : Bool) → bytes_eq other node ≡ b → Kind node (Says (At other request))
      go (JoinRm label rm) true is = Joins label rm (ap (λ x. Says (At x (JoinRm label rm))) ((bytes_eq-Decides other node).0 is))
      go (JoinRm label rm) false is = plainly (JoinRm label rm) false is refl
      go request b is = plainly request b is (never b)
  kind node (Says _) = Plain tt
  kind node _ = Plain tt

only_more : (X Y : Id → Id → Name → Type 0) → ((tid serial : Id) (rm : Name) → X tid serial rm → Y tid serial rm) → (n : Node) → OnlyAt X n → OnlyAt Y n
only_more X Y f n h = record { disk = tt; way = λ act is. tt; runs = λ up b i p m j. f b.key.tid b.key.serial m.rm (h.runs up b i p m j) }

-- a manager that joined before joined
pub joined_later : (e : Entry) (es : List Entry) (tid serial : Id) (rm : Name) → ManagerJoined es tid serial rm → ManagerJoined (e ∷ es) tid serial rm
joined_later e es tid serial rm (before, label, events, there, named) =
    (before, label, events, record { after = e ∷ there.after; entry = there.entry; stands = ap (λ xs. e ∷ xs) there.stands; said = there.said; shown = there.shown }, named)

-- A JOIN_RM.
module _ (e : Entry) (es : List Entry) (w v : World) (node label rm : List ℕ) (known : Named es w) (sound : IsSound w) (said : reading e.source.text ≡ Says (At node (JoinRm label rm))) where
  abbrev Now : Id → Id → Name → Type 0
  Now tid serial x = ManagerJoined (e ∷ es) tid serial x

  abbrev Effect : Node → Choice → TaskEffect
  Effect n c = task_effect w.shared (stops_at node w) n (Serves (JoinRm label rm)) c

  -- one that succeeds is of the branch that its label names
  pub joins_now : (n : Node) → find_node node w.nodes ≡ Some n → IsUp n → (events : List Line) → e.lines ≡ events ++ line.Normal ∷ [] → (b : Branch) → branch_labelled w.shared n label ≡ Some b → (y : Branch) → In y n.volatile.branches → y.key.serial ≡ b.key.serial → y.state ≡ Active → Now y.key.tid y.key.serial rm
  joins_now n found up events shown b is y i same active =
      let l = label_of w.shared n label b is in
      let one : b ≡ y = one_branch n.volatile.branches b y (differ n up.table) l.branch i (sym same) in
      let nb = named_branch es w node label n y known found (is ∙ ap Some one) (ap is_prepared active) in
      subst (λ x. JoinedAt (e ∷ es) x y.key.tid y.key.serial rm) (sym nb.home) (es, label, events, record { after = []; entry = e; stands = refl; said = said; shown = shown }, nb.named)

  join_on : Step w (At node (JoinRm label rm)) e.lines v → Tracked (only Now) (only_keeps Now) node tt w → Tracked (only Now) (only_keeps Now) node tt v
  join_on step h = elim (request_on (only Now) (only_keeps Now) node w v (JoinRm label rm) e.lines tt ⊥ refl step (λ n c found allowed shows k. inr (one n c found allowed shows k)) h) [ inl none ↦ absurd none | inr x ↦ x ]
    where
      one : (n : Node) (c : Choice) → find_node node w.nodes ≡ Some n → TaskAllowed w.shared (stops_at node w) n (Serves (JoinRm label rm)) (λ cause. RoseAt w node cause v.disks) c → e.lines ≡ (Effect n c).lines ++ (Effect n c).answer ∷ [] → OnlyAt Now n → OnlyAt Now (Effect n c).node
      one n c found allowed shows k = go (outcome w.shared (stops_at node w) n (Serves (JoinRm label rm)) (λ cause. RoseAt w node cause v.disks) c allowed)
        where
          go : Outcome w.shared (stops_at node w) n (Serves (JoinRm label rm)) (λ cause. RoseAt w node cause v.disks) (Effect n c) → OnlyAt Now (Effect n c).node
          go (First refusal first same) = subst (λ (x : TaskEffect). OnlyAt Now x.node) (sym same) k
          go (Late outturn refusal turns first late same) = subst (λ (x : TaskEffect). OnlyAt Now x.node) (sym same) k
          go (Lacking first memory same) = subst (λ (x : TaskEffect). OnlyAt Now x.node) (sym same) k
          go (Failing cause shown goes_on first rose ls down answered ends) = record { disk = tt; way = λ act is. tt; runs = λ up. absurd (both_ways (Effect n c).node.up down up) }
          go (Success outturn turns first late same) = own_only Now w.shared (stops_at node w) n (Serves (JoinRm label rm)) c (λ cause. RoseAt w node cause v.disks) (sound_node w sound node n found)
              (λ up off b is y i is_serial active h. joined_only Now rm y (joins_now n found ((sound.kept node n found).runs up).0 (Effect n c).lines (shows ∙ ap (λ (x : TaskEffect). (Effect n c).lines ++ x.answer ∷ []) same) b is y i is_serial active) h) allowed k

-- So it is in each world.
module _ (nodes : List Node) (disks : List DiskCounts) (opening : AreOpening nodes) (node : List ℕ) where
  abbrev pub AreJoinedOnly : List Entry → World → Type 0
  AreJoinedOnly es w = Tracked (only (ManagerJoined es)) (only_keeps (ManagerJoined es)) node tt w

  pub legal_only : (es : List Entry) (w : World) → Legal (opened nodes disks) es w → AreJoinedOnly es w
  legal_only [] w legal = subst (AreJoinedOnly []) (sym legal) (λ n found. at n (each_opening nodes opening node n found))
    where
      at : (n : Node) → IsOpening n → OnlyAt (ManagerJoined []) n
      at n o = record { disk = tt; way = λ act is. tt; runs = λ up. absurd (both_ways n.up o.down up) }
  legal_only (e ∷ es) w legal = go (kind (ManagerJoined (e ∷ es)) node (reading e.source.text)) (λ n found. only_more (ManagerJoined es) (ManagerJoined (e ∷ es)) (joined_later e es) n (legal_only es legal.0 legal.1 n found))
    where
      sound : IsSound legal.0
      sound = legal_sound (opened nodes disks) legal.0 es (opening_sound nodes disks opening) legal.1

      go : Kind (ManagerJoined (e ∷ es)) node (reading e.source.text) → AreJoinedOnly (e ∷ es) legal.0 → AreJoinedOnly (e ∷ es) w
      go (Plain p) before = turn_tracked (only (ManagerJoined (e ∷ es))) (only_keeps (ManagerJoined (e ∷ es))) node (only_tracks (ManagerJoined (e ∷ es)) node) legal.0 w (λ n found. tt) (reading e.source.text) e.lines tt p legal.2 sound before
      go (Joins label rm is) before = join_on e es legal.0 w node label rm (legal_named nodes disks es legal.0 opening legal.1) sound is (subst (λ r. Turn legal.0 r e.lines w) is legal.2) before
