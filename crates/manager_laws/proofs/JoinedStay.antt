-- A resource manager that joined a branch is one of the managers of that branch until it is prepared.
use Rattle.std.proofs.Common.{◌≡◌, ℕ, ◌+◌, ◌<◌, ◌≤◌, Bool, true, false, ◌&&◌, List, [], ◌∷◌, ◌++◌, inl, inr, Option, Some, None, refl, sym, ◌∙◌, ap, subst, arith}
use Rattle.std.specs.Str.{bytes_eq}
use Rattle.std.proofs.lemmas.Bool.{both_ways}
use Rattle.std.proofs.lemmas.Slice.Eq.{bytes_eq-Decides}
use Rattle.vms_model.specs.Ids.{Id}
use Rattle.world_laws.specs.transcript_model.Lines as line
use Rattle.world_laws.specs.transcript_model.Lines.{Line, Cause}
use Rattle.world_laws.specs.script_model.Statements.{At, Request, Init, Boot, StartTrans, StartBranch, JoinRm, AckEvent, DeclareRm, ForgetRm, Reading, Says}
use Rattle.world_laws.specs.script_model.Grammar.{reading}
use Rattle.unit_laws.specs.Units.{Map}
use Rattle.commit_protocol.specs.Messages as message
use Rattle.commit_protocol.specs.Messages.{Message, Name, Reply, RmEvent, same_name}
use Rattle.commit_protocol.specs.Table as table
use Rattle.commit_protocol.specs.Table.{Branch, Key as BranchKey, Manager}
use Rattle.commit_protocol.specs.Rows as rows
use Rattle.commit_protocol.specs.Rows.{asks, joined, note_reply, with_manager, with_reply}
use Rattle.commit_protocol.specs.Allowed.{is_prepared}
use Rattle.commit_protocol.specs.World.{In}
use Rattle.world_laws.specs.run_model.World as world
use Rattle.world_laws.specs.run_model.World.{Act, DiskCounts, Durable, Node, Settlement, Shared, Tables, World, acted, aborted_prepared, find_node, next_id, opened, prepared_left, settlement_of, with_half}
use Rattle.world_laws.specs.run_model.Answers as answers
use Rattle.world_laws.specs.run_model.Answers.{Hears, Restarts, Row, Serves, Takes, Task, powers, service, task_service, unit_key}
use Rattle.world_laws.specs.run_model.Statements.{Step}
use Rattle.world_laws.specs.run_model.Steps.{Choice, TaskAllowed, node_after, task_effect}
use Rattle.world_laws.specs.run_model.Transcript.{AreOpening, Entry, Legal, Turn}
use Rattle.world_laws.proofs.run_model.NodeLists.{some_is}
use Rattle.world_laws.specs.Nodes.{IsOf}
use Rattle.world_laws.specs.Running.{IsDrawn}
use Rattle.world_laws.proofs.BootLemmas.{branch_in}
use Rattle.world_laws.proofs.ServedLemmas.{undrawn}
use Rattle.world_laws.proofs.UpLemmas.{drawn_more, drawn_of}
use Rattle.run_laws.proofs.Deciding.{join_legal, split_legal}
use Rattle.run_laws.proofs.Dying.{runs_used}
use Rattle.run_laws.proofs.Keeping.{AllTake, Kept, Keeps, Scheme, closes_plain, down_effect, else_effect, is_init}
use Rattle.run_laws.proofs.Moving.{in_cut}
use Rattle.run_laws.proofs.RowFits.{Fits}
use Rattle.run_laws.proofs.SoundWorlds.{IsPlainReading, IsSound, IsSoundNode, Tracked, Tracks, legal_sound, opening_sound, turn_tracked}
use Rattle.manager_laws.specs.Joining.{ManagerJoined}
use Rattle.manager_laws.proofs.Carrying.{act_so}
use Rattle.manager_laws.proofs.Replied.{joins}
use Rattle.manager_laws.proofs.Requests.{init_on}
use Rattle.manager_laws.proofs.Taking.{IsSteady, VoteHolds, asked_names, noted_names}
use Rattle.manager_laws.proofs.TasksTake.{AllSo, RowHolds, RowsHold, TaskHolds, task_holds}

-- Names of managers.

more_names : (x rm : Name) (ms : List Manager) → In rm (joined ms) → In rm (joined (ms ++ record { rm = x; event = None; reply = None } ∷ []))
more_names x rm [] i = absurd i
more_names x rm (m ∷ ms) (inl same) = inl same
more_names x rm (m ∷ ms) (inr i) = inr (more_names x rm ms i)

last_name : (rm : Name) (ms : List Manager) → In rm (joined (ms ++ record { rm = rm; event = None; reply = None } ∷ []))
last_name rm [] = inl refl
last_name rm (m ∷ ms) = inr (last_name rm ms)

boot_same : (o : Option Settlement) (d : Durable) → (world.with_settlement o d).boot ≡ d.boot
boot_same None d = refl
boot_same (Some s) d = refl

abbrev AnyNames : List Name → Type 0
AnyNames rms = Unit {0}

module _ (serial : Id) (rm : Name) where
  -- a branch of this serial that is not prepared has this manager
  abbrev pub Stays : Branch → Type 0
  Stays b = b.key.serial ≡ serial → is_prepared b.state ≡ false → In rm (joined b.managers)

  serial_of : (k j : BranchKey) → k ≡ j → k.serial ≡ serial → j.serial ≡ serial
  serial_of k j same is = ap (λ (y : BranchKey). y.serial) (sym same) ∙ is

  stays_steady : IsSteady Stays
  stays_steady = record {
    alike = λ b x u v off key managers accepted h same p. subst (λ ms. In rm (joined ms)) (sym managers) (h (serial_of x.key b.key key same) u);
    asked = λ b x e asking one u v key managers accepted h same p. subst (λ ms. In rm (joined ms)) (sym managers) (subst (In rm) (sym (asked_names e b.managers)) (h (serial_of x.key b.key key same) u));
    accepts = λ b c h. h;
    prepares = λ b all h same p. let no : ⊥ = cc in absurd no;
    changed = λ b h. h;
  }

  -- Nodes.

  -- one that is up, a disk, and a node that is booted
  record IsHere (n : Node) : Type 0 where
    branches : AllSo Stays n
    drawn : IsDrawn n.name n.durable.boot n.volatile.drawn serial

  record IsBooted (n : Node) : Type 0 where
    branches : AllSo Stays n
    home : serial.node ≡ n.name
    earlier : serial.boot < n.durable.boot

  abbrev stay : Scheme
  stay = record {
    Told = Unit {0};
    more = λ ls a. a;
    Up = λ free a n. IsHere n;
    Disk = λ a n. IsOf n.name n.durable.boot serial;
    Boots = λ a n. IsBooted n;
    Ready = λ n. Unit {0};
    Takes = λ o. RowHolds Stays AnyNames o;
    special = λ r. is_init (Serves r);
  }

  act_here : (free : Bool) (o : Option Act) (n : Node) → RowHolds Stays AnyNames o → Fits free o n → IsHere n → IsHere (node_after o n)
  act_here free o n q f h = record { branches = act_so Stays AnyNames stays_steady o n q h.branches; drawn = go o q f }
    where
      go : (o : Option Act) → RowHolds Stays AnyNames o → Fits free o n → IsDrawn (node_after o n).name (node_after o n).durable.boot (node_after o n).volatile.drawn serial
      go None q f = h.drawn
      go (Some (Tables a moment)) q f = subst (λ boot. IsDrawn n.name boot n.volatile.drawn serial) (sym (boot_same (settlement_of a moment) _)) h.drawn
      go (Some (world.Directs file cs s)) q f = drawn_more n.name n.durable.boot n.volatile.drawn serial h.drawn
      go (Some world.Draws) q f = drawn_more n.name n.durable.boot n.volatile.drawn serial h.drawn
      go (Some world.Boots) q f = absurd q
      go (Some (world.Formats slots journal)) q f = absurd f
      go (Some _) q f = h.drawn

  fallen_of : (n : Node) → IsHere n → IsOf n.name n.durable.boot serial
  fallen_of n h = drawn_of n.name n.durable.boot n.volatile.drawn serial h.drawn

  half_of : (o : Option Id) (standing : List ℕ → Map) (name : List ℕ) (d : Durable) → IsOf name d.boot serial → IsOf name (with_half o standing d).boot serial
  half_of None standing name d h = h
  half_of (Some id) standing name d h = h

  later : (boot : ℕ) → serial.boot ≤ boot → serial.boot < boot + 1
  later boot h = omega arith

  more_boot : (boot : ℕ) → serial.boot ≤ boot → serial.boot ≤ boot + 1
  more_boot boot h = omega arith

  below : (boot : ℕ) → serial.boot < boot → serial.boot ≤ boot
  below boot h = omega arith

  stay_keeps : Keeps stay
  stay_keeps = record {
    none = λ a. refl;
    append = λ xs ys a. refl;
    plain = λ ls a h v. refl;
    closes = closes_plain stay (λ ls a h. refl);
    same = λ a n m name durable settled h. subst (λ x. IsOf x m.durable.boot serial) (sym name) (subst (λ (d : Durable). IsOf n.name d.boot serial) (sym durable) h);
    row = λ free r n a q f up h. act_here free r.act n q f.fits h;
    under = λ free r n a act q f is d up h. fallen_of (acted act n) (subst (λ o. IsHere (node_after o n)) is (act_here free r.act n q f.fits h));
    falls = λ free a n up h. fallen_of n h;
    weaken = λ free a n h. h;
    half = λ a n standing k ready may h. half_of (aborted_prepared n.under_way n.durable) standing n.name n.durable h;
    spoils = λ a n h. h;
    boots = λ a n k h. record {
      branches = λ b i same p. let r = branch_in (prepared_left n.durable) b i in absurd (both_ways (is_prepared b.state) p (ap (λ (x : Branch). is_prepared x.state) r.2));
      home = h.0;
      earlier = later n.durable.boot h.1;
    };
    booting = λ a n k h. (h.0, more_boot n.durable.boot h.1);
    undoes = λ a n u next h. record { branches = λ b i. h.branches b (in_cut (unit_key u) b n.volatile.branches i); home = h.home; earlier = h.earlier };
    undoing = λ a n u next h. (h.home, below n.durable.boot h.earlier);
    rests = λ a n k h. (h.home, below n.durable.boot h.earlier);
    none_ready = λ n e. tt;
    same_ready = λ n m e h. tt;
    comes = λ a n up h closed. record { branches = h.branches; drawn = (h.home, inl h.earlier) };
  }

  abbrev StaysAt : Node → Type 0
  StaysAt n = Kept stay stay_keeps tt n

  -- Tasks.

  takes_of : (rs : List Row) → RowsHold Stays AnyNames rs → AllTake stay rs
  takes_of [] h = tt
  takes_of (r ∷ rs) h = (h.0, takes_of rs h.1)

  votes_stay : (bs : List Branch) (m : Message) (k : message.Kind) → VoteHolds Stays bs m k
  votes_stay bs m message.Yes = λ b i key h. h
  votes_stay bs m message.ReadOnly = λ b i key h. h
  votes_stay bs m _ = tt

  new_stays : (n : Node) (b : Branch) → IsHere n → b.key.serial ≡ next_id n → Stays b
  new_stays n b h is same = absurd (undrawn n serial h.drawn (sym same ∙ is))

  request_stays : (s : Shared) (n : Node) (r : Request) → IsHere n → powers (service r) ≡ false → TaskHolds Stays AnyNames s n (Serves r)
  request_stays s n (StartTrans label seconds) h off = new_stays n (rows.blank (next_id n) (next_id n) None table.Active (answers.due_after n seconds)) h refl
  request_stays s n (StartBranch label) h off = λ t bid. new_stays n (rows.blank t (next_id n) (Some bid) table.Joining None) h refl
  request_stays s n (JoinRm label x) h off = λ b is y i same active old this p. more_names x rm y.managers (old this p)
  request_stays s n (AckEvent who x reply) h off = λ id is b i same plain old this p. subst (In rm) (sym (noted_names x reply b.managers)) (old this p)
  request_stays s n (DeclareRm x) h off = tt
  request_stays s n (ForgetRm x) h off = tt
  request_stays s n Boot h off = let no : ⊥ = cc in absurd no
  request_stays s n _ h off = tt

  task_stays : (s : Shared) (n : Node) (t : Task) → IsHere n → powers (task_service t) ≡ false → TaskHolds Stays AnyNames s n t
  task_stays s n (Serves r) h off = request_stays s n r h off
  task_stays s n (Takes m) h off = votes_stay n.volatile.branches m m.kind
  task_stays s n (Hears m) h off = votes_stay n.volatile.branches m m.kind
  task_stays s n Restarts h off = let no : ⊥ = cc in absurd no
  task_stays s n _ h off = tt

  own_stays : (s : Shared) (stops : ℕ) (n : Node) (task : Task) (c : Choice) (rises : Cause → Type 0) → IsSoundNode s n → is_init task ≡ false → TaskAllowed s stops n task rises c → StaysAt n → StaysAt (task_effect s stops n task c).node
  own_stays s stops n task c rises sound other may h = go n.up refl (powers (task_service task)) refl
    where
      any : (powers (task_service task) ≡ false → AllTake stay ((task_service task).rows s n)) → StaysAt (task_effect s stops n task c).node
      any takes = else_effect stay stay_keeps s stops n tt sound.kept h task other takes (λ on. tt) c rises may

      go : (b : Bool) → n.up ≡ b → (p : Bool) → powers (task_service task) ≡ p → StaysAt (task_effect s stops n task c).node
      go true up p is = any (λ off. takes_of ((task_service task).rows s n) (task_holds Stays AnyNames stays_steady s n (h.runs up).branches task (task_stays s n task (h.runs up) off)))
      go false down true on = any (λ off. absurd (both_ways (powers (task_service task)) off on))
      go false down false off = down_effect stay stay_keeps s stops n task tt sound.kept h off down c rises may

  not_init : (task : Task) → Rattle.run_laws.proofs.Keeping.is_special stay task ≡ false → is_init task ≡ false
  not_init (Serves r) e = e
  not_init _ e = refl

  stay_tracks : Tracks stay stay_keeps serial.node
  stay_tracks = record {
    own = λ a s stops n task c rises named sound plain ready may h. own_stays s stops n task c rises sound (not_init task plain) may h;
    beside = λ a s stops n m task c rises other sound may h. h;
  }

  abbrev On : World → Type 0
  On w = Tracked stay stay_keeps serial.node tt w

  -- Entries.

  -- a reading is an INIT of the node, or none
  data Kind (r : Reading) : Type 0 where
    Plain : IsPlainReading stay stay_keeps serial.node stay_tracks r → Kind r
    Makes : (slots journal : ℕ) → r ≡ Says (At serial.node (Init slots journal)) → Kind r

  kind : (r : Reading) → Kind r
  kind (Says (At other request)) = go request (bytes_eq other serial.node) refl
    where
      plainly : (request : Request) (b : Bool) → bytes_eq other serial.node ≡ b → (b && is_init (Serves request)) ≡ false → Kind (Says (At other request))
      plainly request b is e = Plain (subst (λ t. (t && is_init (Serves request)) ≡ false) (sym is) e)

      never : (b : Bool) → (b && false) ≡ false
      never true = refl
      never false = refl

      go : (request : Request) (b : Bool) → bytes_eq other serial.node ≡ b → Kind (Says (At other request))
      go (Init slots journal) true is = Makes slots journal (ap (λ x. Says (At x (Init slots journal))) ((bytes_eq-Decides other serial.node).0 is))
      go (Init slots journal) false is = plainly (Init slots journal) false is refl
      go request b is = plainly request b is (never b)
  kind (Says _) = Plain tt
  kind _ = Plain tt

  -- Many entries, behind some that left the node in use.
  module _ (nodes : List Node) (disks : List DiskCounts) (opening : AreOpening nodes) (earlier : List Entry) (base : World) (begins : Legal (opened nodes disks) earlier base) (used : base.shared.in_use ≡ true) (here : On base) where
    turn_on : (e : Entry) (es : List Entry) (w v : World) → Legal base es w → Turn w (reading e.source.text) e.lines v → On w → On v
    turn_on e es w v legal turn h = go (kind (reading e.source.text))
      where
        sound : IsSound w
        sound = legal_sound (opened nodes disks) w (es ++ earlier) (opening_sound nodes disks opening) (join_legal (opened nodes disks) base w es earlier begins legal)

        go : Kind (reading e.source.text) → On v
        go (Plain p) = turn_tracked stay stay_keeps serial.node stay_tracks w v (λ n found. tt) (reading e.source.text) e.lines tt p turn sound h
        go (Makes slots journal is) = init_on stay stay_keeps serial.node w v slots journal e.lines tt (runs_used base w es legal used).1 (subst (λ r. Turn w r e.lines v) is turn) h

    walk : (es : List Entry) (w : World) → Legal base es w → On w
    walk [] w legal = subst On (sym legal) here
    walk (e ∷ es) w legal = turn_on e es legal.0 w legal.1 legal.2 (walk es legal.0 legal.1)

-- A manager that joined is one of those of its branch.
pub joined_stays : (nodes : List Node) (disks : List DiskCounts) → AreOpening nodes → (es : List Entry) (w : World) → Legal (opened nodes disks) es w → (tid serial : Id) (rm : Name) → ManagerJoined es tid serial rm → (n : Node) → find_node serial.node w.nodes ≡ Some n → n.up ≡ true →
    (b : Branch) → In b n.volatile.branches → b.key.serial ≡ serial → is_prepared b.state ≡ false → In rm (joined b.managers)
joined_stays nodes disks opening es w legal tid serial rm (earlier, label, events, join, named) n found up =
    let start = opened nodes disks in
    let q = split_legal start w join.after (join.entry ∷ earlier) (subst (λ xs. Legal start xs w) join.stands legal) in
    let u = (q.1).0 in
    let step : Step u (At serial.node (JoinRm label rm)) (events ++ line.Normal ∷ []) q.0 = subst (λ ls. Step u (At serial.node (JoinRm label rm)) ls q.0) join.shown (subst (λ x. Turn u x join.entry.lines q.0) join.said (q.1).2) in
    let sound_v : IsSound q.0 = legal_sound start q.0 (join.entry ∷ earlier) (opening_sound nodes disks opening) q.1 in
    let j = joins nodes disks opening earlier u q.0 (q.1).1 tid serial label rm events step named sound_v in
    let kept = sound_v.kept serial.node j.m j.there in
    let used : (q.0).shared.in_use ≡ true = in_use_of (q.0).shared.in_use (q.0).shared.in_use refl (λ off. both_ways (j.m).up (kept.unused off).0 j.up) in
    let known : StaysAt serial rm j.m = record {
      disk = drawn_of (j.m).name (j.m).durable.boot (j.m).volatile.drawn serial j.drawn;
      way = λ act is. absurd (both_ways (j.m).up (kept.way act is).2 j.up);
      runs = λ on. record { branches = λ x i same p. subst (λ (y : Branch). In rm (joined y.managers)) (j.one x i same) (subst (λ ms. In rm (joined ms)) (sym j.managers) (last_name rm j.old)); drawn = j.drawn };
    } in
    let on : On serial rm q.0 = λ m at. subst (StaysAt serial rm) (some_is j.m m (sym j.there ∙ at)) known in
    ((walk serial rm nodes disks opening (join.entry ∷ earlier) q.0 q.1 used on join.after w q.2 n found).runs up).branches
  where
    in_use_of : (b c : Bool) → c ≡ b → (c ≡ false → ⊥) → c ≡ true
    in_use_of true c is off = is
    in_use_of false c is off = absurd (off is)
