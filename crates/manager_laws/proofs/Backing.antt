-- Each committed record that waits for a manager is that of a branch which was committed in the run, or stood on the disk before it.
use Rattle.std.proofs.Common.{◌≡◌, ◌⊎◌, ℕ, zero, suc, Bool, true, false, ◌&&◌, List, [], ◌∷◌, ◌++◌, inl, inr, Option, Some, None, if◌then◌else◌, refl, sym, ◌∙◌, ap, subst}
use Rattle.std.specs.Prelude.{replicate}
use Rattle.std.specs.Str.{bytes_eq}
use Rattle.std.proofs.lemmas.Bool.{both_ways}
use Rattle.vms_model.specs.Ids.{Id}
use Rattle.vms_model.specs.Transactions as settles
use Rattle.vms_model.specs.Transactions.{Aborted, Reason}
use Rattle.world_laws.specs.transcript_model.Lines as line
use Rattle.world_laws.specs.transcript_model.Lines.{Line}
use Rattle.world_laws.specs.script_model.Statements.{At, Init, Reading, Says, Request, Boot, StartTrans, StartBranch, DeclareRm, JoinRm, AckEvent, ForgetRm}
use Rattle.world_laws.specs.script_model.Grammar.{reading}
use Rattle.unit_laws.specs.Units.{Map}
use Rattle.commit_protocol.specs.Messages as message
use Rattle.commit_protocol.specs.Messages.{LogRecord, Message, Name, same_name}
use Rattle.commit_protocol.specs.Table as table
use Rattle.commit_protocol.specs.Table.{Branch, Key as BranchKey, acknowledge, acknowledged, holds, keep_record, nothing_left, records_after, release, waits_for, without_rm}
use Rattle.commit_protocol.specs.Table.{released as record_released}
use Rattle.commit_protocol.specs.World.{In}
use Rattle.commit_protocol.proofs.Lists.{in_parts}
use Rattle.world_laws.specs.log_laws.Slots.{committed_of, records_in}
use Rattle.world_laws.proofs.log_laws.Reading.{is_committed_one}
use Rattle.world_laws.specs.run_model.World as world
use Rattle.world_laws.specs.run_model.World.{Act, DiskCounts, Durable, IsOpening, MayTurnOut, Node, Outturn, Settlement, Shared, Tables, World, aborted_prepared, acted, find_node, next_moment, opened, powered, settlement_of, settled_more, with_half}
use Rattle.world_laws.specs.run_model.Answers.{Hears, Restarts, Row, Serves, Takes, Task, powers, refused_before_reading, service, task_service}
use Rattle.world_laws.specs.run_model.Statements.{RoseAt, Step, stops_at}
use Rattle.world_laws.specs.run_model.StepLaws.{is_refusal}
use Rattle.world_laws.specs.run_model.Steps.{Choice, Cut, TaskAllowed, TaskEffect, Unpowered, Whole, WithoutMemory, node_after, ready_node, task_effect, whole, with_unknown_volume}
use Rattle.world_laws.specs.run_model.Transcript.{AreOpening, Entry, Legal, Turn}
use Rattle.world_laws.proofs.run_model.CauseLemmas.{refuses_first}
use Rattle.world_laws.proofs.run_model.NodeLists.{put_node, some_is}
use Rattle.world_laws.proofs.run_model.Refusing.{same_last}
use Rattle.world_laws.proofs.run_model.TaskLemmas.{effect_name}
use Rattle.world_laws.specs.Nodes.{IsUp}
use Rattle.world_laws.proofs.WorldLemmas.{each_opening}
use Rattle.run_laws.specs.Accounts.{made_anew}
use Rattle.run_laws.specs.Owing.{Waits}
use Rattle.run_laws.specs.Promises.{commitment}
use Rattle.run_laws.proofs.Keeping.{AllTake, Kept, Keeps, Scheme, any_effect, closes_plain, init_ready}
use Rattle.run_laws.proofs.MadeAnew.{made_says}
use Rattle.run_laws.proofs.Named.{Ended, Refused, Turned, ended}
use Rattle.run_laws.proofs.Once.{once, once_keeps}
use Rattle.run_laws.proofs.Owed.{InRecords, in_table}
use Rattle.run_laws.proofs.RowFits.{Fits}
use Rattle.run_laws.proofs.SoundWorlds.{IsPlainReading, IsSound, IsSoundNode, Tracked, Tracks, legal_sound, opening_sound, sound_node, turn_tracked, unused}
use Rattle.manager_laws.specs.Telling.{WasOwed}
use Rattle.manager_laws.proofs.Taking.{HoldsIn, IsSteady, VoteHolds}
use Rattle.manager_laws.proofs.TasksTake.{RowHolds, RowsHold, TaskHolds, task_holds}

-- nothing is said of a branch, and of managers that are declared
abbrev AnyBranch : Branch → Type 0
AnyBranch b = Unit {0}

abbrev AnyNames : List Name → Type 0
AnyNames rms = Unit {0}

any_steady : IsSteady AnyBranch
any_steady = record { alike = λ b x u v off key managers accepted h. tt; asked = λ b x e asking one u v key managers accepted h. tt; accepts = λ b c h. tt; prepares = λ b all h. tt; changed = λ b h. tt }

any_votes : (bs : List Branch) (m : Message) (k : message.Kind) → VoteHolds AnyBranch bs m k
any_votes bs m message.Yes = λ b i key h. tt
any_votes bs m message.ReadOnly = λ b i key h. tt
any_votes bs m _ = tt

any_request : (s : Shared) (n : Node) (r : Request) → powers (service r) ≡ false → TaskHolds AnyBranch AnyNames s n (Serves r)
any_request s n (StartTrans label seconds) off = tt
any_request s n (StartBranch label) off = λ t bid. tt
any_request s n (JoinRm label rm) off = λ b is x i same active h. tt
any_request s n (AckEvent who rm reply) off = λ serial is b i same plain h. tt
any_request s n (DeclareRm rm) off = tt
any_request s n (ForgetRm rm) off = tt
any_request s n Boot off = let no : ⊥ = cc in absurd no
any_request s n _ off = tt

any_task : (s : Shared) (n : Node) (t : Task) → powers (task_service t) ≡ false → TaskHolds AnyBranch AnyNames s n t
any_task s n (Serves r) off = any_request s n r off
any_task s n (Takes m) off = any_votes n.volatile.branches m m.kind
any_task s n (Hears m) off = any_votes n.volatile.branches m m.kind
any_task s n Restarts off = let no : ⊥ = cc in absurd no
any_task s n _ off = tt

-- Records after an act wait for no manager for which none waited before, but one that a settlement writes.
module _ (tid serial : Id) (rm : Name) where
  abbrev Has : List LogRecord → Type 0
  Has rs = InRecords tid serial rm rs

  was_kept : (q : LogRecord) (rs : List LogRecord) → Has (keep_record q rs) → Has (q ∷ rs)
  was_kept q rs h = go (nothing_left q.waiting q.rms) h
    where
      go : (b : Bool) → Has (if b then rs else q ∷ rs) → Has (q ∷ rs)
      go true (r, i, s, t, w) = (r, inr i, s, t, w)
      go false k = k

  was_more : (q : LogRecord) (rs : List LogRecord) → Has rs → Has (q ∷ rs)
  was_more q rs (r, i, s, t, w) = (r, inr i, s, t, w)

  was_like : (q p : LogRecord) (rs : List LogRecord) → p.serial ≡ q.serial → p.tid ≡ q.tid → (In rm q.rms → In rm p.rms) → Has (q ∷ rs) → Has (p ∷ rs)
  was_like q p rs serials tids more (r, inl same, s, t, w) =
      (p, inl refl, serials ∙ (ap (λ (x : LogRecord). x.serial) (sym same) ∙ s), tids ∙ (ap (λ (x : LogRecord). x.tid) (sym same) ∙ t), more (subst (λ (x : LogRecord). In rm x.rms) same w))
  was_like q p rs serials tids more (r, inr i, s, t, w) = (r, inr i, s, t, w)

  pub was_acknowledged : (k : BranchKey) (rs : List LogRecord) → Has (acknowledge k rs) → Has rs
  was_acknowledged k [] h = h
  was_acknowledged k (q ∷ rs) h = go (waits_for k q) h (was_acknowledged k rs)
    where
      go : (b : Bool) → Has (if b then keep_record (acknowledged k q) rs else q ∷ acknowledge k rs) → (Has (acknowledge k rs) → Has rs) → Has (q ∷ rs)
      go true k1 more = was_like (acknowledged k q) q rs refl refl (λ w. w) (was_kept (acknowledged k q) rs k1)
      go false (r, inl same, s, t, w) more = (r, inl same, s, t, w)
      go false (r, inr i, s, t, w) more = was_more q rs (more (r, i, s, t, w))

  left_among : (x : Name) (ys : List Name) → In rm (without_rm x ys) → In rm ys
  left_among x [] i = i
  left_among x (y ∷ ys) i = go (same_name y x) i (left_among x ys)
    where
      go : (b : Bool) → In rm (if b then without_rm x ys else y ∷ without_rm x ys) → (In rm (without_rm x ys) → In rm ys) → In rm (y ∷ ys)
      go true j more = inr (more j)
      go false (inl same) more = inl same
      go false (inr j) more = inr (more j)

  pub was_released : (z : Id) (x : Name) (rs : List LogRecord) → Has (release z x rs) → Has rs
  was_released z x [] h = h
  was_released z x (q ∷ rs) h = go (holds z x q) h (was_released z x rs)
    where
      go : (b : Bool) → Has (if b then keep_record (record_released x q) rs else q ∷ release z x rs) → (Has (release z x rs) → Has rs) → Has (q ∷ rs)
      go true k more = was_like (record_released x q) q rs refl refl (left_among x q.rms) (was_kept (record_released x q) rs k)
      go false (r, inl same, s, t, w) more = (r, inl same, s, t, w)
      go false (r, inr i, s, t, w) more = was_more q rs (more (r, i, s, t, w))

  -- what an act of the table writes
  abbrev Writes : table.Act → Type 0
  Writes (table.Settles k settles.Commit reason (Some r)) = (k.tid ≡ tid) × (k.serial ≡ serial)
  Writes _ = ⊥

  was_before : (a : table.Act) (rs : List LogRecord) → HoldsIn AnyBranch a → Has (records_after a rs) → Has rs ⊎ Writes a
  was_before (table.Settles k settles.Commit reason (Some x)) rs (b, any, key, nothing, q, owed) (r, i, s, t, w) = elim (in_parts r rs (x ∷ []) i) [
    | inl old ↦ inl (r, old, s, t, w)
    | inr new ↦ elim new [
      | inl same ↦ inr (sym q.0 ∙ (ap (λ (y : LogRecord). y.tid) (sym same) ∙ t), sym q.1 ∙ (ap (λ (y : LogRecord). y.serial) (sym same) ∙ s))
      | inr none ↦ absurd none
    ]
  ]
  was_before (table.Settles k settles.Abort reason (Some x)) rs q h = let no : ⊥ = cc in absurd no
  was_before (table.Settles k o reason None) rs q h = inl h
  was_before (table.Acknowledges k) rs q h = inl (was_acknowledged k rs h)
  was_before (table.Releases z x) rs q h = inl (was_released z x rs h)
  was_before _ rs q h = inl h

  pub in_log : (n : Node) → IsUp n → Has n.volatile.records → Waits tid serial rm n.durable
  in_log n up (r, i, s, t, w) = (r, is_committed_one (records_in n.durable.log) r (up.table.log.committed r i) (up.table.limits.records r i).kind, s, t, w)

  -- Nodes.

  module _ (Else : Type 0) where
    -- a record that waits is that of a branch which was committed, or there is another reason
    abbrev pub IsBacked : Durable → List Settlement → Type 0
    IsBacked d ss = Waits tid serial rm d → ((moment : ℕ) × In (commitment tid serial moment) ss) ⊎ Else

    abbrev pub backing : Scheme
    backing = record { Told = Unit {0}; more = λ ls a. a; Up = λ free a n. IsBacked n.durable n.settled; Disk = λ a n. IsBacked n.durable n.settled; Boots = λ a n. IsBacked n.durable n.settled; Ready = λ n. Unit {0}; Takes = λ o. RowHolds AnyBranch AnyNames o; special = λ r. false }

    more_settled : (o : Option Settlement) (ss : List Settlement) → ((moment : ℕ) × In (commitment tid serial moment) ss) ⊎ Else → ((moment : ℕ) × In (commitment tid serial moment) (settled_more o ss)) ⊎ Else
    more_settled None ss h = h
    more_settled (Some s) ss (inl (moment, i)) = inl (moment, inr i)
    more_settled (Some s) ss (inr was) = inr was

    written : (a : table.Act) (moment : ℕ) (ss : List Settlement) → Writes a → In (commitment tid serial moment) (settled_more (settlement_of a moment) ss)
    written (table.Settles k settles.Commit reason (Some r)) moment ss (tids, serials) = inl (λ i. commitment (sym tids i) (sym serials i) moment)
    written _ moment ss h = absurd h

    act_backed : (free : Bool) (o : Option Act) (n : Node) → Fits free o n → IsUp n → IsUp (node_after o n) → RowHolds AnyBranch AnyNames o → IsBacked n.durable n.settled → IsBacked (node_after o n).durable (node_after o n).settled
    act_backed free None n f up is q h = h
    act_backed free (Some (Tables a moment)) n f up is q h = λ waits.
        elim (was_before a n.volatile.records q (in_table tid serial rm (acted (Tables a moment) n) is waits)) [
          | inl old ↦ more_settled (settlement_of a moment) n.settled (h (in_log n up old))
          | inr new ↦ inl (moment, written a moment n.settled new)
        ]
    act_backed free (Some (world.Directs file cs s)) n f up is q h = λ waits. more_settled (Some s) n.settled (h waits)
    act_backed free (Some world.Boots) n f up is q h = absurd f
    act_backed free (Some (world.Formats slots journal)) n f up is q h = absurd f
    act_backed free (Some _) n f up is q h = h

    half_backed : (o : Option Id) (standing : List ℕ → Map) (d : Durable) (ss : List Settlement) → IsBacked d ss → IsBacked (with_half o standing d) ss
    half_backed None standing d ss h = h
    half_backed (Some id) standing d ss h = h

    pub backing_keeps : Keeps backing
    backing_keeps = record {
      none = λ a. refl;
      append = λ xs ys a. refl;
      plain = λ ls a h v. refl;
      closes = closes_plain backing (λ ls a h. refl);
      same = λ a n m name durable settled h. subst (λ d. IsBacked d m.settled) (sym durable) (subst (IsBacked n.durable) (sym settled) h);
      row = λ free r n a q f up h. act_backed free r.act n f.fits f.up up q h;
      under = λ free r n a act q f is d up h. subst (λ o. IsBacked (node_after o n).durable (node_after o n).settled) is (act_backed free r.act n f.fits f.up (subst (λ o. IsUp (node_after o n)) (sym is) up) q h);
      falls = λ free a n up h. h;
      weaken = λ free a n h. h;
      half = λ a n standing k ready may h. half_backed (aborted_prepared n.under_way n.durable) standing n.durable n.settled h;
      spoils = λ a n h. h;
      boots = λ a n k h. h;
      booting = λ a n k h. h;
      undoes = λ a n u next h. λ waits. more_settled (Some (world.settlement (Rattle.world_laws.specs.run_model.Answers.unit_key u) settles.Abort settles.SegFail (next_moment n))) n.settled (h waits);
      undoing = λ a n u next h. λ waits. more_settled (Some (world.settlement (Rattle.world_laws.specs.run_model.Answers.unit_key u) settles.Abort settles.SegFail (next_moment n))) n.settled (h waits);
      rests = λ a n k h. h;
      none_ready = λ n e. tt;
      same_ready = λ n m e h. tt;
      comes = λ a n up h closed. h;
    }

    pub none_made : (slots : ℕ) → records_in (replicate slots None) ≡ []
    none_made zero = refl
    none_made (suc slots) = none_made slots

    made_backed : (slots journal : ℕ) (n : Node) → IsBacked (acted (world.Formats slots journal) n).durable (acted (world.Formats slots journal) n).settled
    made_backed slots journal n (r, i, s, t, w) = absurd (subst (λ rs. In r (committed_of rs)) (none_made slots) i)

    -- Tasks.

    takes_of : (rs : List Row) → RowsHold AnyBranch AnyNames rs → AllTake backing rs
    takes_of [] h = tt
    takes_of (r ∷ rs) h = (h.0, takes_of rs h.1)

    backing_tracks : (node : List ℕ) → Tracks backing backing_keeps node
    backing_tracks node = record {
      own = λ a s stops n task c rises named sound plain ready may h. any_effect backing backing_keeps s stops n tt sound.kept h (unused s n sound) (λ off slots journal m none. made_backed slots journal m) task
          (λ off. takes_of ((task_service task).rows s n) (task_holds AnyBranch AnyNames any_steady s n (λ b i. tt) task (any_task s n task off))) ready c rises may;
      beside = λ a s stops n m task c rises other sound may h. h;
    }

    plain_so : (node : List ℕ) (r : Reading) → IsPlainReading backing backing_keeps node (backing_tracks node) r
    plain_so node (Says (At other request)) = go (bytes_eq other node)
      where
        go : (b : Bool) → (b && false) ≡ false
        go true = refl
        go false = refl
    plain_so node (Says _) = tt
    plain_so node _ = tt

    pub backed_more : (F : Type 0) → (Else → F) → (d : Durable) (ss : List Settlement) → IsBacked d ss → Waits tid serial rm d → ((moment : ℕ) × In (commitment tid serial moment) ss) ⊎ F
    backed_more F f d ss h waits = elim (h waits) [ inl c ↦ inl c | inr was ↦ inr (f was) ]

-- New volumes.

-- a node whose volume was made anew
abbrev pub IsNew : Node → Type 0
IsNew m = (slots : ℕ) × (journal : ℕ) × (r : Node) × (m ≡ acted (world.Formats slots journal) r) × (r.under_way ≡ None) × (r.up ≡ false)

pub made_at : (w v : World) (node : List ℕ) (slots journal : ℕ) → IsSound w → Step w (At node (Init slots journal)) (line.Normal ∷ []) v → (m : Node) → find_node node v.nodes ≡ Some m → IsNew m
made_at w v node slots journal sound step m now = go (ended w v (At node (Init slots journal)) (line.Normal ∷ []) node (Serves (Init slots journal)) refl step)
  where
    go : Ended w v node (Serves (Init slots journal)) (line.Normal ∷ []) → IsNew m
    go (Refused refusal h shows goes) = let same : line.Normal ≡ refusal = (same_last [] [] line.Normal refusal shows).1 in let clash : false ≡ true = ap is_refusal same ∙ h in let no : ⊥ = cc in absurd no
    go (Turned n found c allowed shows goes) = subst IsNew (some_is e.node m (sym there ∙ now)) (done c allowed shows)
      where
        e : TaskEffect
        e = task_effect w.shared (stops_at node w) n (Serves (Init slots journal)) c

        there : find_node node v.nodes ≡ Some (task_effect w.shared (stops_at node w) n (Serves (Init slots journal)) c).node
        there = ap (λ (x : World). find_node node x.nodes) goes ∙ put_node node n e.node w.nodes (effect_name w.shared (stops_at node w) n (Serves (Init slots journal)) c) found

        known : IsSoundNode w.shared n
        known = sound_node w sound node n found

        whole_done : (o : Outturn) → MayTurnOut n o → (q : Option Line) → refused_before_reading w.shared n (service (Init slots journal)) ≡ q → let x = whole w.shared n (ready_node o (stops_at node w) (service (Init slots journal)) n) (service (Init slots journal)) q in line.Normal ∷ [] ≡ x.lines ++ x.answer ∷ [] → IsNew x.node
        whole_done o may (Some refusal) first k =
            let same : line.Normal ≡ refusal = (same_last [] [] line.Normal refusal k).1 in
            let clash : true ≡ false = sym ((refuses_first w.shared n (Serves (Init slots journal))).says refusal first) ∙ ap is_refusal (sym same) in let no : ⊥ = cc in absurd no
        whole_done o may None first k =
            let r = init_ready once once_keeps w.shared (stops_at node w) n (Serves (Init slots journal)) tt known.kept known.once (unused w.shared n known) slots journal o may first in
            (slots, journal, with_unknown_volume true (powered o (stops_at node w) n), refl, r.1, r.2)

        done : (c : Choice) → TaskAllowed w.shared (stops_at node w) n (Serves (Init slots journal)) (λ cause. RoseAt w node cause v.disks) c → line.Normal ∷ [] ≡ (task_effect w.shared (stops_at node w) n (Serves (Init slots journal)) c).lines ++ (task_effect w.shared (stops_at node w) n (Serves (Init slots journal)) c).answer ∷ [] →
            IsNew (task_effect w.shared (stops_at node w) n (Serves (Init slots journal)) c).node
        done (Whole o) may k = whole_done o may (refused_before_reading w.shared n (service (Init slots journal))) refl k
        done WithoutMemory may k = let no : ⊥ = cc in absurd no
        done Unpowered may k = let no : ⊥ = cc in absurd no
        done (Cut o j b cause) may k = let x = task_effect w.shared (stops_at node w) n (Serves (Init slots journal)) (Cut o j b cause) in let same : line.Normal ≡ line.Broken cause = (same_last [] x.lines line.Normal (line.Broken cause) k).1 in let no : ⊥ = cc in absurd no

-- on a new volume no record waits
made_new : (tid serial : Id) (rm : Name) (Else : Type 0) (w v : World) (slots journal : ℕ) → IsSound w → Step w (At serial.node (Init slots journal)) (line.Normal ∷ []) v → Tracked (backing tid serial rm Else) (backing_keeps tid serial rm Else) serial.node tt v
made_new tid serial rm Else w v slots journal sound step m now = go (made_at w v serial.node slots journal sound step m now)
  where
    go : IsNew m → Kept (backing tid serial rm Else) (backing_keeps tid serial rm Else) tt m
    go (s, j, r, is, none, down) = subst (Kept (backing tid serial rm Else) (backing_keeps tid serial rm Else) tt) (sym is) (record {
      disk = made_backed tid serial rm Else s j r;
      way = λ act under. let clash : ◌≡◌ {A = Option Act} None (Some act) = sym none ∙ under in let no : ⊥ = cc in absurd no;
      runs = λ up. made_backed tid serial rm Else s j r;
    })

-- So it is in each world.
module _ (nodes : List Node) (disks : List DiskCounts) (opening : AreOpening nodes) (tid serial : Id) (rm : Name) where
  abbrev Owed : List Entry → Type 0
  Owed es = WasOwed tid serial rm (opened nodes disks) es

  abbrev pub Backs : List Entry → World → Type 0
  Backs es w = Tracked (backing tid serial rm (Owed es)) (backing_keeps tid serial rm (Owed es)) serial.node tt w

  pub legal_backed : (es : List Entry) (w : World) → Legal (opened nodes disks) es w → Backs es w
  legal_backed [] w legal = subst (Backs []) (sym legal) (λ n found. at n found (each_opening nodes opening serial.node n found))
    where
      at : (n : Node) → find_node serial.node nodes ≡ Some n → IsOpening n → Kept (backing tid serial rm (Owed [])) (backing_keeps tid serial rm (Owed [])) tt n
      at n found o = record {
        disk = λ waits. inr (n, found, waits, tt);
        way = λ act e. let no : ◌≡◌ {A = Option Act} None (Some act) = sym o.under_way ∙ e in let none : ⊥ = cc in absurd none;
        runs = λ up. absurd (both_ways n.up o.down up);
      }
  legal_backed (e ∷ es) w legal = go (legal_backed es legal.0 legal.1) (made_anew serial.node (reading e.source.text) e.lines) refl
    where
      sound : IsSound legal.0
      sound = legal_sound (opened nodes disks) legal.0 es (opening_sound nodes disks opening) legal.1

      go : Backs es legal.0 → (b : Bool) → made_anew serial.node (reading e.source.text) e.lines ≡ b → Backs (e ∷ es) w
      go before true made =
          let x = made_says serial.node (reading e.source.text) e.lines made in
          made_new tid serial rm (Owed (e ∷ es)) legal.0 w x.0 x.1 sound (subst (λ ls. Step legal.0 (At serial.node (Init x.0 x.1)) ls w) x.3 (subst (λ r. Turn legal.0 r e.lines w) x.2 legal.2))
      go before false kept = λ n found.
          let h = turn_tracked (backing tid serial rm (Owed es)) (backing_keeps tid serial rm (Owed es)) serial.node (backing_tracks tid serial rm (Owed es) serial.node) legal.0 w (λ n found. tt) (reading e.source.text) e.lines tt
          (plain_so tid serial rm (Owed es) serial.node (reading e.source.text)) legal.2 sound before n found in
          record {
            disk = backed_more tid serial rm (Owed es) (Owed (e ∷ es)) later n.durable n.settled h.disk;
            way = λ act is. backed_more tid serial rm (Owed es) (Owed (e ∷ es)) later (acted act n).durable (acted act n).settled (h.way act is);
            runs = λ up. backed_more tid serial rm (Owed es) (Owed (e ∷ es)) later n.durable n.settled (h.runs up);
          }
        where
          later : Owed es → Owed (e ∷ es)
          later (n, found, waits, none) = (n, found, waits, (kept, none))
