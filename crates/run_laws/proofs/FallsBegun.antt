-- A boot and a settling abort for a fall only branches that began in the run, or that stood unsettled on their disk at its opening.
use Rattle.std.proofs.Common.{◌≡◌, ℕ, List, [], ◌∷◌, ◌++◌, inl, inr, Bool, true, false, Option, Some, None, if◌then◌else◌, refl, sym, ◌∙◌, ap, subst}
use Rattle.std.specs.List.{AllByRecursion}
use Rattle.std.specs.Str.{bytes_eq}
use Rattle.std.proofs.lemmas.Slice.Eq.{bytes_eq-Decides}
use Rattle.std.specs.Option.{is_some}
use Rattle.std.proofs.lemmas.Bool.{both_ways}
use Rattle.vms_model.specs.Ids.{Id}
use Rattle.vms_model.specs.Transactions.{Outcome, Commit, Abort, Reason, Aborted, Vetoed, SyncFail, Timeout, CommFail, SegFail}
use Rattle.run_said.specs.transcript_model.Lines as line
use Rattle.run_said.specs.transcript_model.Lines.{Line, Cause}
use Rattle.run_said.specs.script_model.Statements.{Request, Init, Boot, StartTrans, AddBranch, StartBranch, Direct, EndTrans, AbortTrans, AckEvent}
use Rattle.unit_laws.specs.records_model.History.{same_id}
use Rattle.unit_laws.specs.Journal.{RecoveryUnit, find_unit, units_in}
use Rattle.unit_laws.specs.Units.{Map}
use Rattle.unit_laws.proofs.LiveLemmas.{id_is}
use Rattle.commit_protocol.specs.Messages as message
use Rattle.commit_protocol.specs.Messages.{LogRecord, Message}
use Rattle.commit_protocol.specs.Table as table
use Rattle.commit_protocol.specs.Table.{Branch, Key as BranchKey, Settles, child}
use Rattle.commit_protocol.specs.Allowed.{is_prepared}
use Rattle.commit_protocol.specs.World.{In}
use Rattle.run_said.specs.run_model.World as world
use Rattle.run_said.specs.run_model.World.{World, Shared, Node, Act, Durable, Settlement, Tables, acted, next_moment, aborted_prepared, with_half, prepared_left, tm_of}
use Rattle.run_said.specs.run_model.Answers.{Row, Task, Serves, Ticks, Takes, Hears, LosesLink, RunsDown, Restarts, task_service, service, powers, last_line, last_lines, settled_line, unit_key}
use Rattle.run_said.specs.run_model.Steps.{Choice, TaskAllowed, task_effect, node_after}
use Rattle.recovery_laws.specs.world_laws.Nodes.{IsUp}
use Rattle.recovery_laws.proofs.world_laws.BootLemmas.{branch_in}
use Rattle.recovery_laws.proofs.world_laws.RestartLemmas.{has_settled, undone_unit}
use Rattle.recovery_laws.proofs.world_laws.TableLemmas.{in_cut}
use Rattle.run_laws.specs.Promises.{abort, settlement_in}
use Rattle.run_laws.proofs.EachRow.{ArePlain, is_plain}
use Rattle.run_laws.proofs.Keeping.{AllTake, Keeps, Kept, Scheme, any_effect, down_effect, is_special, closes_plain}
use Rattle.run_laws.proofs.Moving.{AreMild, HasOpen, IsMildIf, is_mild, rows_move, task_mild}
use Rattle.run_laws.proofs.Noting.{NotesIn}
use Rattle.run_laws.proofs.OwnLines.{line_in, task_owns}
use Rattle.run_laws.proofs.RowFits.{Fits, RowFits, TellsAct}
use Rattle.run_laws.proofs.Settling.{IsOpen, MessageSettles}
use Rattle.run_laws.proofs.SoundWorlds.{IsSoundNode, Tracks, unused}
use Rattle.run_laws.proofs.TaskCauses.{AreCaused, IsCaused, TaskCause, task_caused}

-- The branches of a node that a line shows to be aborted for a fall.

abbrev fall_of : List ℕ → (tid serial : Id) → Reason → Option BranchKey
fall_of node tid serial SegFail = if bytes_eq serial.node node then Some (child tid serial) else None
fall_of node tid serial _ = None

abbrev pub fall_in : List ℕ → Line → Option BranchKey
fall_in node (line.Aborted tid serial reason moment) = fall_of node tid serial reason
fall_in node _ = None

abbrev pub with_fall : Option BranchKey → List BranchKey → List BranchKey
with_fall None ks = ks
with_fall (Some k) ks = k ∷ ks

abbrev pub falls_on : List ℕ → List Line → List BranchKey → List BranchKey
falls_on node [] ks = ks
falls_on node (l ∷ ls) ks = falls_on node ls (with_fall (fall_in node l) ks)

falls_append : (node : List ℕ) (xs ys : List Line) (ks : List BranchKey) → falls_on node (xs ++ ys) ks ≡ falls_on node ys (falls_on node xs ks)
falls_append node [] ys ks = refl
falls_append node (x ∷ xs) ys ks = falls_append node xs ys (with_fall (fall_in node x) ks)

plain_fall : (node : List ℕ) (l : Line) → is_plain l ≡ true → fall_in node l ≡ None
plain_fall node (line.Aborted tid serial reason moment) h = let no : ⊥ = cc in absurd no
plain_fall node _ h = refl

falls_plain : (node : List ℕ) (ls : List Line) (ks : List BranchKey) → ArePlain ls → falls_on node ls ks ≡ ks
falls_plain node [] ks h = refl
falls_plain node (l ∷ ls) ks h = ap (λ o. falls_on node ls (with_fall o ks)) (plain_fall node l h.0) ∙ falls_plain node ls ks h.1

-- What is known of a node, where these branches may be aborted so.

pub unit_serial : (x : Id) (us : List RecoveryUnit) (u : RecoveryUnit) → find_unit x us ≡ Some u → x ≡ u.serial
unit_serial x [] u e = let no : ⊥ = cc in absurd no
unit_serial x (v ∷ us) u e = go (same_id x v.serial) refl e (unit_serial x us u)
  where
    go : (b : Bool) → same_id x v.serial ≡ b → ◌≡◌ {A = Option RecoveryUnit} (if b then Some v else find_unit x us) (Some u) → (find_unit x us ≡ Some u → x ≡ u.serial) → x ≡ u.serial
    go true t f more = let same : v ≡ u = cc in id_is x v.serial t ∙ ap (λ (y : RecoveryUnit). y.serial) same
    go false t f more = more f

-- a request by which a label is made, or takes a branch
abbrev pub is_making : Request → Bool
is_making (StartTrans label seconds) = true
is_making (AddBranch label other new) = true
is_making (StartBranch label) = true
is_making _ = false

-- no message aborts a branch for a fall
message_none : (n : Node) (kind : message.Kind) (m : Message) (k : BranchKey) → MessageSettles (tm_of n) kind m k Abort SegFail → ⊥
message_none n message.Yes m k h = let no : Abort ≡ Commit = h.0 in cc
message_none n message.ReadOnly m k h = let no : Abort ≡ Commit = h.0 in cc
message_none n message.Commit m k h = let no : Abort ≡ Commit = h.0 in cc
message_none n message.Abort m k h = let no : SegFail ≡ Aborted = h.1 in cc
message_none n message.JoinNo m k h = let no : SegFail ≡ SyncFail = h.1 in cc
message_none n message.No m k h = let no : SegFail ≡ Vetoed = h.1 in cc
message_none n _ m k h = h

module _ (node : List ℕ) (K : BranchKey → Type 0) where
  abbrev pub AllIn : List BranchKey → Type 0
  AllIn ks = AllByRecursion K ks

  -- the units that are not prepared are of these branches
  abbrev pub UnitsIn : Durable → Type 0
  UnitsIn d = (x : Id) (u : RecoveryUnit) → find_unit x (units_in d.units.entries) ≡ Some u → u.prepared ≡ false → K (unit_key u)

  abbrev pub OpenIn : Node → Type 0
  OpenIn n = (k : BranchKey) → HasOpen n k → K k

  abbrev ArePrepared : Node → Type 0
  ArePrepared n = (b : Branch) → In b n.volatile.branches → is_prepared b.state ≡ true

  abbrev FallsIn : Option Act → Type 0
  FallsIn (Some (Tables (Settles k Abort SegFail r) moment)) = K k
  FallsIn _ = Unit {0}

  abbrev pub falling : Scheme
  falling = record {
    Told = List BranchKey;
    more = falls_on node;
    Up = λ free ks n. AllIn ks × OpenIn n;
    Disk = λ ks n. AllIn ks × UnitsIn n.durable;
    Boots = λ ks n. AllIn ks × UnitsIn n.durable × ArePrepared n;
    Ready = λ n. Unit {0};
    Takes = λ o. IsMildIf K o × FallsIn o;
    special = is_making;
  }

  told_line : (k : BranchKey) (o : Outcome) (reason : Reason) (moment : ℕ) (ks : List BranchKey) → FallsIn (Some (Tables (Settles k o reason None) moment)) → AllIn ks → AllIn (falls_on node (settled_line k o reason moment ∷ []) ks)
  told_line k Commit reason moment ks f h = h
  told_line k Abort SegFail moment ks f h = go (bytes_eq k.serial.node node)
    where
      go : (b : Bool) → AllIn (with_fall (if b then Some (child k.tid k.serial) else None) ks)
      go true = (f, h)
      go false = h
  told_line k Abort _ moment ks f h = h

  told_plain : (ls : List Line) (ks : List BranchKey) → ArePlain ls → AllIn ks → AllIn (falls_on node ls ks)
  told_plain ls ks plain h = subst AllIn (sym (falls_plain node ls ks plain)) h

  row_told : (free : Bool) (r : Row) (n : Node) (ks : List BranchKey) → FallsIn r.act → RowFits free r n → AllIn ks → AllIn (falls_on node r.lines ks)
  row_told free r n ks q f h = go r.act q f.fits f.tells
    where
      settled : (k : BranchKey) (o : Outcome) (reason : Reason) (x : Option LogRecord) (moment : ℕ) → FallsIn (Some (Tables (Settles k o reason x) moment)) → r.lines ≡ settled_line k o reason moment ∷ [] → AllIn (falls_on node r.lines ks)
      settled k Commit reason x moment p t = subst (λ ls. AllIn (falls_on node ls ks)) (sym t) (told_line k Commit reason moment ks tt h)
      settled k Abort SegFail x moment p t = subst (λ ls. AllIn (falls_on node ls ks)) (sym t) (told_line k Abort SegFail moment ks p h)
      settled k Abort Aborted x moment p t = subst (λ ls. AllIn (falls_on node ls ks)) (sym t) (told_line k Abort Aborted moment ks tt h)
      settled k Abort Vetoed x moment p t = subst (λ ls. AllIn (falls_on node ls ks)) (sym t) (told_line k Abort Vetoed moment ks tt h)
      settled k Abort SyncFail x moment p t = subst (λ ls. AllIn (falls_on node ls ks)) (sym t) (told_line k Abort SyncFail moment ks tt h)
      settled k Abort Timeout x moment p t = subst (λ ls. AllIn (falls_on node ls ks)) (sym t) (told_line k Abort Timeout moment ks tt h)
      settled k Abort CommFail x moment p t = subst (λ ls. AllIn (falls_on node ls ks)) (sym t) (told_line k Abort CommFail moment ks tt h)

      tabled : (a : table.Act) (moment : ℕ) → FallsIn (Some (Tables a moment)) → Fits free (Some (Tables a moment)) n → TellsAct (Some (Tables a moment)) r.lines n → AllIn (falls_on node r.lines ks)
      tabled (Settles k o reason x) moment p g t = settled k o reason x moment p t
      tabled (table.Undoes k) moment p g t = absurd g.row
      tabled _ moment p g t = told_plain r.lines ks t h

      go : (o : Option Act) → FallsIn o → Fits free o n → TellsAct o r.lines n → AllIn (falls_on node r.lines ks)
      go None p g t = told_plain r.lines ks t h
      go (Some (Tables a moment)) p g t = tabled a moment p g t
      go (Some (world.Directs file cs s)) p g t = subst (λ ls. AllIn (falls_on node ls ks)) (sym t) h
      go (Some world.Boots) p g t = absurd g
      go (Some _) p g t = told_plain r.lines ks t h

  row_open : (r : Row) (n : Node) → IsMildIf K r.act → OpenIn n → OpenIn (node_after r.act n)
  row_open r n mild h k o = elim ((rows_move K (r ∷ []) n (mild, tt)).begun k o) [ inl old ↦ h k old | inr new ↦ new ]

  up_units : (n : Node) → IsUp n → OpenIn n → UnitsIn n.durable
  up_units n up known x u found active =
      let b = up.table.branches x u found in
      let key : b.branch.key ≡ unit_key u = λ i. child (b.tid i) ((b.serial ∙ unit_serial x (units_in n.durable.units.entries) u found) i) in
      subst K key (known b.branch.key (b.branch, b.there, b.prepared ∙ active, refl))

  last_told : (n : Node) (ks : List BranchKey) → falls_on node (last_lines n) ks ≡ ks
  last_told n ks = go n.durable.last
    where
      one : (s : Settlement) (o : Outcome) (r : Option Reason) → falls_on node (elim o as (λ x. List Line) [ Commit ↦ line.LastCommitted s.tid s.serial s.moment ∷ [] | Abort ↦ elim r as (λ x. List Line) [ Some reason ↦ line.LastAborted s.tid s.serial reason s.moment ∷ [] | None ↦ [] ] ]) ks ≡ ks
      one s Commit r = refl
      one s Abort (Some reason) = refl
      one s Abort None = refl

      go : (o : Option Settlement) → falls_on node (elim o as (λ x. List Line) [ Some s ↦ last_line s | None ↦ [] ]) ks ≡ ks
      go (Some s) = one s s.outcome s.reason
      go None = refl

  undone_units : (n : Node) (u : RecoveryUnit) → UnitsIn n.durable → UnitsIn (undone_unit n u).durable
  undone_units n u h x v found active = go (same_id x u.serial) refl
    where
      gone_is : (o : Option RecoveryUnit) → is_some o ≡ false → o ≡ None
      gone_is (Some w) e = let no : ⊥ = cc in absurd no
      gone_is None e = refl

      go : (b : Bool) → same_id x u.serial ≡ b → K (unit_key v)
      go true t = let clash : ◌≡◌ {A = Option RecoveryUnit} None (Some v) = sym (gone_is (find_unit u.serial (units_in (undone_unit n u).durable.units.entries)) (has_settled n u).gone) ∙ ap (λ y. find_unit y (units_in (undone_unit n u).durable.units.entries)) (sym (id_is x u.serial t)) ∙ found in let no : ⊥ = cc in absurd no
      go false t = h x v (sym ((has_settled n u).others x t) ∙ found) active

  half_units : (o : Option Id) (standing : List ℕ → Map) (d : Durable) → UnitsIn d → UnitsIn (with_half o standing d)
  half_units None standing d h = h
  half_units (Some serial) standing d h = h

  pub falling_keeps : Keeps falling
  falling_keeps = record {
    none = λ a. refl;
    append = falls_append node;
    plain = λ ls a h v. falls_plain node ls a h;
    closes = closes_plain falling (λ ls a h. falls_plain node ls a h);
    same = λ a n m name durable settled h. (h.0, subst UnitsIn (sym durable) h.1);
    row = λ free r n a q f up h. (row_told free r n a q.1 f h.0, row_open r n q.0 h.1);
    under = λ free r n a act q f is d up h. (h.0, up_units (acted act n) up (subst (λ o. OpenIn (node_after o n)) is (row_open r n q.0 h.1)));
    falls = λ free a n up h. (h.0, up_units n up h.1);
    weaken = λ free a n h. h;
    half = λ a n standing k ready may h. (h.0, half_units (aborted_prepared n.under_way n.durable) standing n.durable h.1);
    spoils = λ a n h. h;
    boots = λ a n k h. (subst AllIn (sym (last_told n a)) h.0, h.1, λ b i. let r = branch_in (prepared_left n.durable) b i in ap (λ (c : Branch). is_prepared c.state) r.2);
    booting = λ a n k h. h;
    undoes = λ a n u next h. (told_line (unit_key u) Abort SegFail (next_moment n) a (h.1 u.serial u next.found (next.unprepared u next.found)) h.0, undone_units n u h.1, λ b i. h.2 b (in_cut (unit_key u) b n.volatile.branches i).0);
    undoing = λ a n u next h. (h.0, undone_units n u h.1);
    rests = λ a n k h. (h.0, h.1);
    none_ready = λ n e. tt;
    same_ready = λ n m e h. tt;
    comes = λ a n up h closed. (h.0, λ k o. absurd (both_ways _ o.2 (h.2 o.0 o.1)));
  }

  -- Rows that it takes.

  more_mild : (n : Node) (o : Option Act) → OpenIn n → IsMildIf (HasOpen n) o → IsMildIf K o
  more_mild n None f h = tt
  more_mild n (Some (Tables a moment)) f h = go a h
    where
      go : (a : table.Act) → NotesIn (HasOpen n) a → NotesIn K a
      go (table.Notes b) g = f b.key g
      go (table.Accepts b c) g = f b.key g
      go _ g = tt
  more_mild n (Some (world.Labels l)) f h = absurd h
  more_mild n (Some (world.Numbers label serial)) f h = absurd h
  more_mild n (Some (world.Formats slots journal)) f h = absurd h
  more_mild n (Some _) f h = tt

  falls_so : (P : BranchKey → Outcome → Reason → Type 0) (o : Option Act) → ((k : BranchKey) → P k Abort SegFail → K k) → IsCaused P o → FallsIn o
  falls_so P (Some (Tables (Settles k Abort SegFail r) moment)) f h = f k h
  falls_so P _ f h = tt

  takes_all : (P : BranchKey → Outcome → Reason → Type 0) (n : Node) (rs : List Row) → OpenIn n → ((k : BranchKey) → P k Abort SegFail → K k) → AreMild (HasOpen n) rs → AreCaused P rs → AllTake falling rs
  takes_all P n [] known f m c = tt
  takes_all P n (r ∷ rs) known f m c = ((more_mild n r.act known m.0, falls_so P r.act f c.0), takes_all P n rs known f m.1 c.1)

  of_open : (n : Node) (k : BranchKey) → OpenIn n → IsOpen n.volatile.branches k → K k
  of_open n k known x = known k (x.branch, x.there, x.unprepared, x.key)

  fall_open : (s : Shared) (n : Node) (t : Task) → powers (task_service t) ≡ false → OpenIn n → (k : BranchKey) → TaskCause s n t k Abort SegFail → K k
  fall_open s n (Serves request) off known k h = go request off h
    where
      go : (r : Request) → powers (service r) ≡ false → TaskCause s n (Serves r) k Abort SegFail → K k
      go Boot o g = let no : ⊥ = cc in absurd no
      go (Direct file op) o g = let no : Abort ≡ Commit = g.0 in let none : ⊥ = cc in absurd none
      go (EndTrans label) o g = of_open n k known g.2.1
      go (AbortTrans label) o g = of_open n k known g.2.3
      go (AckEvent who rm reply) o g = of_open n k known g.2.1
      go _ o g = absurd g
  fall_open s n Ticks off known k h = of_open n k known h.2
  fall_open s n (LosesLink other) off known k h = of_open n k known h.2
  fall_open s n RunsDown off known k h = of_open n k known h.2
  fall_open s n (Takes m) off known k h = absurd (message_none n m.kind m k h)
  fall_open s n (Hears m) off known k h = absurd (message_none n m.kind m k h)
  fall_open s n Restarts off known k h = let no : ⊥ = cc in absurd no

  takes : (s : Shared) (n : Node) (t : Task) → is_special falling t ≡ false → OpenIn n → powers (task_service t) ≡ false → AllTake falling ((task_service t).rows s n)
  takes s n t plain known off = go t plain off
    where
      of_mild : (t : Task) → is_mild t ≡ true → powers (task_service t) ≡ false → AllTake falling ((task_service t).rows s n)
      of_mild t mild off = takes_all (TaskCause s n t) n ((task_service t).rows s n) known (fall_open s n t off known) (task_mild s n t mild) (task_caused s n t)

      go : (t : Task) → is_special falling t ≡ false → powers (task_service t) ≡ false → AllTake falling ((task_service t).rows s n)
      go (Serves (Init slots journal)) p q = tt
      go (Serves (StartTrans label seconds)) p q = let no : ⊥ = cc in absurd no
      go (Serves (AddBranch label other new)) p q = let no : ⊥ = cc in absurd no
      go (Serves (StartBranch label)) p q = let no : ⊥ = cc in absurd no
      go (Serves r) p q = of_mild (Serves r) refl q
      go t p q = of_mild t refl q

  -- A task that keeps what is known.

  foreign : (ls : List Line) (ks : List BranchKey) → ((l : Line) (s : Settlement) → In l ls → settlement_in l ≡ Some s → s.serial.node ≡ node → ⊥) → falls_on node ls ks ≡ ks
  foreign [] ks h = refl
  foreign (l ∷ ls) ks h = ap (λ o. falls_on node ls (with_fall o ks)) (one l (λ s e own. h l s (inl refl) e own)) ∙ foreign ls ks (λ x s i. h x s (inr i))
    where
      one : (l : Line) → ((s : Settlement) → settlement_in l ≡ Some s → s.serial.node ≡ node → ⊥) → fall_in node l ≡ None
      one (line.Aborted tid serial reason moment) g = of_reason reason (λ own. g (abort tid serial reason moment) refl own)
        where
          other : (b : Bool) → bytes_eq serial.node node ≡ b → (serial.node ≡ node → ⊥) → ◌≡◌ {A = Option BranchKey} (if b then Some (child tid serial) else None) None
          other true e f = absurd (f ((bytes_eq-Decides serial.node node).0 e))
          other false e f = refl

          of_reason : (r : Reason) → (serial.node ≡ node → ⊥) → fall_of node tid serial r ≡ None
          of_reason SegFail f = other (bytes_eq serial.node node) refl f
          of_reason _ f = refl
      one _ g = refl

  pub falling_tracks : Tracks falling falling_keeps node
  falling_tracks = record {
    own = λ a s stops n task c rises named sound plain ready may h. by_task a s stops n task c rises sound plain may h n.up refl (powers (task_service task)) refl;
    beside = λ a s stops n m task c rises other sound may h. subst (λ ks. Kept falling falling_keeps ks n)
        (sym (foreign (task_effect s stops m task c).lines a (λ l x i e own. other (sym (task_owns s stops m task c rises sound may x (line_in (task_effect s stops m task c).lines l x [] i e)) ∙ own)))) h;
  }
    where
      by_task : (a : List BranchKey) (s : Shared) (stops : ℕ) (n : Node) (task : Task) (c : Choice) (rises : Cause → Type 0) → IsSoundNode s n → is_special falling task ≡ false → TaskAllowed s stops n task rises c → Kept falling falling_keeps a n →
          (up : Bool) → n.up ≡ up → (on : Bool) → powers (task_service task) ≡ on → Kept falling falling_keeps (falls_on node (task_effect s stops n task c).lines a) (task_effect s stops n task c).node
      by_task a s stops n task c rises sound plain may h true up on power =
          any_effect falling falling_keeps s stops n a sound.kept h (unused s n sound) (λ off slots journal m none. (h.disk.0, λ x u f. let no : ⊥ = cc in absurd no)) task (λ off. takes s n task plain (h.runs up).1 off) (λ e. tt) c rises may
      by_task a s stops n task c rises sound plain may h false down true on =
          any_effect falling falling_keeps s stops n a sound.kept h (unused s n sound) (λ off slots journal m none. (h.disk.0, λ x u f. let no : ⊥ = cc in absurd no)) task (λ off. absurd (both_ways (powers (task_service task)) off on)) (λ e. tt) c rises may
      by_task a s stops n task c rises sound plain may h false down false off = down_effect falling falling_keeps s stops n task a sound.kept h off down c rises may
