-- At rest a committed transaction is whole, also where the node of a branch is not in the rack: no branch is prepared there.
use Rattle.std.specs.Prelude.{is_some, slice_get}
use Rattle.std.proofs.Common.{◌≡◌, ◌+◌, ◌⊎◌, Bool, true, false, not, List, [], ◌∷◌, Option, Some, None, if◌then◌else◌, take, inl, inr, refl, ap, sym, subst, ◌∙◌}
use Rattle.std.proofs.lemmas.Bool.{and_parts, both_ways}
use Rattle.vms_model.specs.Ids.{Id}
use Rattle.vms_model.specs.Transactions.{Commit as ToCommit}
use Rattle.commit_protocol.specs.Messages.{Message, Name}
use Rattle.commit_protocol.specs.Table.{Act, Key, branches_of, find, first, home_of, prepared_records}
use Rattle.commit_protocol.specs.Rows.{Authorise, Begin, Event, Start}
use Rattle.commit_protocol.specs.Allowed.{allowed}
use Rattle.commit_protocol.specs.World as protocol
use Rattle.commit_protocol.specs.World.{At, Boot, BootStops, Comes, Crash, Does, DirectChange, Given, Happening, In, Plan, StartBranch, StartTrans, AddBranch, Step, Stops, Swaps, acts_all, at_node, begins, boots, boots_some, comes, crashed, crashes, draws_none, given, happens, may_boot, plan_if, planned, raised, raised_node, run, swaps, undoes_lost}
use Rattle.commit_protocol.specs.Agreement.{Agrees, Commits, Ready, phase, view}
use Rattle.commit_protocol.specs.Opening.{Image, IsAgreeing, Opening, accepted_in, image_in, in_rack, opened, or_none}
use Rattle.commit_protocol.proofs.Acting.{Good}
use Rattle.commit_protocol.proofs.Bridge.{node_other, node_same, part_same}
use Rattle.commit_protocol.proofs.Following.{others_stay}
use Rattle.commit_protocol.proofs.Gathered.{is_shown}
use Rattle.commit_protocol.proofs.Lists.{cases_name, in_left, in_right}
use Rattle.commit_protocol.proofs.Opened.{good_opened}
use Rattle.commit_protocol.proofs.Running.{goes_run, goes_step}
use Rattle.run_model.specs.World.{Node, World, find_node}
use Rattle.run_model.specs.Transcript.{Entry}
use Rattle.run_agreement.specs.Seen.{Resolution}
use Rattle.run_agreement.specs.Following.{opening_of}
use Rattle.run_agreement.specs.Laws.{HasOutcome, IsAtRest, IsBranch, IsCommitted, IsRun}
use Rattle.run_agreement.proofs.Openings.{reached_by}
use Rattle.run_agreement.proofs.Staying.{at_rest_whole, outcome_shown, outcome_told}

-- A node that is not in the rack.
module _ (n : Name) where
  -- it is down, and knows no branch
  record Absent (x : protocol.Node) : Type 0 where
    down : x.up ≡ false
    empty : x.table ≡ []

  -- what a plan begins with changes neither
  record Same (x y : protocol.Node) : Type 0 where
    up : x.up ≡ y.up
    table : x.table ≡ y.table

  same_refl : (x : protocol.Node) → Same x x
  same_refl x = record { up = refl; table = refl }

  same_at : (m : Name) (x : protocol.Node) (nodes : Name → protocol.Node) → Same x (nodes m) → Same (at_node m x nodes n) (nodes n)
  same_at m x nodes h = record { up = part_same (λ y. y.up) m x nodes h.up n; table = part_same (λ y. y.table) m x nodes h.table n }

  base_if : (t : Bool) (m : Name) (w base : protocol.World) (e : Event) → Same (base.nodes n) (w.nodes n) → Same ((plan_if t m w base e).base.nodes n) (w.nodes n)
  base_if true m w base e h = h
  base_if false m w base e h = same_refl (w.nodes n)

  drawn_same : (m : Name) (w : protocol.World) → Same ((protocol.draws m w).nodes n) (w.nodes n)
  drawn_same m w = same_at m (record (w.nodes m) { seq = (w.nodes m).seq + 1 }) w.nodes (record { up = refl; table = refl })

  base_same : (w : protocol.World) (h : Happening) → Same ((planned w h).base.nodes n) (w.nodes n)
  base_same w (At m (StartTrans due)) = base_if (allowed (protocol.tm_at w m) (Start (protocol.next_id w m) due)) m w (protocol.draws m w) (Start (protocol.next_id w m) due) (drawn_same m w)
  base_same w (At m (AddBranch t)) = base_if (allowed (protocol.tm_at w m) (Authorise t (protocol.next_id w m))) m w (protocol.labelled m w t) (Authorise t (protocol.next_id w m)) (drawn_same m w)
  base_same w (At m (StartBranch which)) = go (slice_get w.labels which)
    where
      go : (o : Option (Id × Id)) → Same ((begins m w o).base.nodes n) (w.nodes n)
      go None = same_refl (w.nodes n)
      go (Some p) = base_if (allowed (protocol.tm_at w m) (Begin p.0 (protocol.next_id w m) p.1)) m w (protocol.draws m w) (Begin p.0 (protocol.next_id w m) p.1) (drawn_same m w)
  base_same w (At m DirectChange) = same_at m (record (w.nodes m) { seq = (w.nodes m).seq + 1; last = Some (first (protocol.next_id w m), ToCommit) }) w.nodes (record { up = refl; table = refl })
  base_same w (At m (Given e)) = go (draws_none e)
    where
      go : (t : Bool) → Same ((given t m w e).base.nodes n) (w.nodes n)
      go true = base_if (allowed (protocol.tm_at w m) e) m w w e (same_refl (w.nodes n))
      go false = same_refl (w.nodes n)
  base_same w (Comes which) = go (slice_get w.sent which)
    where
      go : (o : Option Message) → Same ((comes w o).base.nodes n) (w.nodes n)
      go None = same_refl (w.nodes n)
      go (Some m) = same_refl (w.nodes n)

  absent_same : (x y : protocol.Node) → Same x y → Absent y → Absent x
  absent_same x y h a = record { down = h.up ∙ a.down; empty = h.table ∙ a.empty }

  -- what another node does leaves it
  apart_up : (w : protocol.World) (m : Name) → Absent (w.nodes n) → (w.nodes m).up ≡ true → n ≡ m → ⊥
  apart_up w m a up same = both_ways (w.nodes n).up a.down (ap (λ y. (w.nodes y).up) same ∙ up)

  planned_leaves : (w : protocol.World) (h : Happening) (todo : List Act) → Absent (w.nodes n) → (w.nodes (planned w h).node).up ≡ true → Absent ((acts_all (planned w h).node todo (planned w h).base).nodes n)
  planned_leaves w h todo a up = subst Absent (sym (others_stay (planned w h).base (planned w h).node n todo (apart_up w (planned w h).node a up))) (absent_same ((planned w h).base.nodes n) (w.nodes n) (base_same w h) a)

  crash_leaves : (m : Name) (w : protocol.World) → Absent (w.nodes n) → Absent ((crashes m w).nodes n)
  crash_leaves m w a = elim (cases_name n m) [
    | inl same ↦ subst (λ y. Absent (at_node y (crashed (w.nodes y)) w.nodes n)) same (subst Absent (sym (node_same n (crashed (w.nodes n)) w.nodes)) (record { down = refl; empty = ap (λ bs. branches_of (prepared_records bs)) a.empty }))
    | inr apart ↦ subst Absent (sym (node_other m (crashed (w.nodes m)) w.nodes n apart)) a
  ]

  apart_rack : (w : protocol.World) (m : Name) → w.rack n ≡ false → may_boot m w ≡ true → n ≡ m → ⊥
  apart_rack w m out may same = both_ways (w.rack n) out (ap w.rack same ∙ (and_parts (w.rack m) (not (w.nodes m).up) may).0)

  raised_leaves : (w : protocol.World) (m : Name) (order : List Key) (todo : List Act) → w.rack n ≡ false → may_boot m w ≡ true → Absent (w.nodes n) → Absent ((acts_all m todo (raised m order w)).nodes n)
  raised_leaves w m order todo out may a =
      subst Absent (sym (others_stay (raised m order w) m n todo (apart_rack w m out may) ∙ node_other m (raised_node order (w.nodes m)) w.nodes n (apart_rack w m out may))) a

  step_leaves : (w : protocol.World) (s : Step) → w.rack n ≡ false → Absent (w.nodes n) → Absent ((happens w s).nodes n)
  step_leaves w (Does h) out a = go (w.nodes (planned w h).node).up refl
    where
      go : (b : Bool) → (w.nodes (planned w h).node).up ≡ b → Absent ((let x : protocol.World = if b then acts_all (planned w h).node (planned w h).todo (planned w h).base else w in x).nodes n)
      go true up = planned_leaves w h (planned w h).todo a up
      go false up = a
  step_leaves w (Stops j h) out a = go (w.nodes (planned w h).node).up refl
    where
      go : (b : Bool) → (w.nodes (planned w h).node).up ≡ b → Absent ((let x : protocol.World = if b then crashes (planned w h).node (acts_all (planned w h).node (take j (planned w h).todo) (planned w h).base) else w in x).nodes n)
      go true up = crash_leaves (planned w h).node (acts_all (planned w h).node (take j (planned w h).todo) (planned w h).base) (planned_leaves w h (take j (planned w h).todo) a up)
      go false up = a
  step_leaves w (Crash m) out a = crash_leaves m w a
  step_leaves w (Boot m order) out a = go (may_boot m w) refl
    where
      go : (b : Bool) → may_boot m w ≡ b → Absent ((let x : protocol.World = if b then acts_all m (undoes_lost m order w) (raised m order w) else w in x).nodes n)
      go true may = raised_leaves w m order (undoes_lost m order w) out may a
      go false may = a
  step_leaves w (BootStops j m order) out a = go (may_boot m w) refl
    where
      go : (b : Bool) → may_boot m w ≡ b → Absent ((let x : protocol.World = if b then crashes m (acts_all m (take j (undoes_lost m order w)) (raised m order w)) else w in x).nodes n)
      go true may = crash_leaves m (acts_all m (take j (undoes_lost m order w)) (raised m order w)) (raised_leaves w m order (take j (undoes_lost m order w)) out may a)
      go false may = a
  step_leaves w (Swaps i m) out a = absent_same ((swaps i m w).nodes n) (w.nodes n) (same_at m (record (w.nodes m) { records = protocol.swapped i (w.nodes m).records }) w.nodes (record { up = refl; table = refl })) a

  run_leaves : (steps : List Step) (w : protocol.World) → Good w → w.rack n ≡ false → Absent (w.nodes n) → Absent ((run steps w).nodes n)
  run_leaves [] w g out a = a
  run_leaves (s ∷ steps) w g out a =
      let goes = goes_step w s g in
      run_leaves steps (happens w s) goes.good (ap (λ (r : Name → Bool). r n) goes.rack ∙ out) (step_leaves w s out a)

  -- so it is in each world that is reached from an opening
  opened_absent : (o : Opening) → in_rack o n ≡ false → Absent ((opened o).nodes n)
  opened_absent o out = record { down = refl; empty = ap (λ q. branches_of (or_none q).prepared) (none_of (image_in n o.images) out) }
    where
      none_of : (q : Option Image) → is_some q ≡ false → q ≡ None
      none_of (Some i) e = let no : ⊥ = cc in absurd no
      none_of None e = refl

  pub never_prepared : (o : Opening) (steps : List Step) → Good (opened o) → in_rack o n ≡ false → (k : Key) → find k ((run steps (opened o)).nodes n).table ≡ None
  never_prepared o steps good out k = ap (find k) (run_leaves steps (opened o) good out (opened_absent o out)).empty

-- In a world at rest each accepted branch of a committed transaction is committed or read-only.
pub resting_whole : ((o : Opening) → IsAgreeing o → (steps : List Step) → Agrees (view (run steps (opened o)))) → (base v : World) (es : List Entry) → IsRun base es v → IsAtRest v → (r : Resolution) (k : Key) → IsBranch base v k → (k ≡ first k.tid → ⊥) → IsCommitted base r v k.tid → HasOutcome base r v k ToCommit ⊎ In k v.shared.read_only
resting_whole law base v es is_run rests r k branch other commits = go (find_node (home_of k) v.nodes) refl
  where
    -- what the protocol has of it, where its node is not in the rack
    absent : find_node (home_of k) v.nodes ≡ None → HasOutcome base r v k ToCommit ⊎ In k v.shared.read_only
    absent none =
        let x = reached_by base v es is_run r in
        let p : protocol.World = run x.steps (opened (opening_of base)) in
        let a = law (opening_of base) is_run.agrees x.steps in
        let good = good_opened (opening_of base) is_run.agrees (is_shown (opening_of base) is_run.agrees) in
        let goes = goes_run x.steps (opened (opening_of base)) good in
        let out : in_rack (opening_of base) (home_of k) ≡ false = ap (λ (f : Name → Bool). f (home_of k)) (sym goes.rack) ∙ x.shows.follows.rack (home_of k) ∙ ap is_some (x.shows.are.absent (home_of k) none) in
        let empty = never_prepared (home_of k) (opening_of base) x.steps good out k in
        let c : Commits (view p) k.tid = elim commits [ inl g ↦ inl (outcome_told base r v p x.shows (first k.tid) ToCommit g) | inr g ↦ inr (goes.later.shown k.tid g) ] in
        let accepted : In k p.accepted = elim branch [
          | inl e ↦ absurd (other e)
          | inr i ↦ subst (λ ks. In k ks) (sym x.shows.follows.accepted) (elim i [ inl s ↦ in_left k v.shared.accepted (accepted_in (opening_of base)) s | inr s ↦ in_right k v.shared.accepted (accepted_in (opening_of base)) s ])
        ] in
        elim (a.accepted k accepted c) [
          | inl ready ↦ absurd (let g : phase None ≡ Ready = sym (ap phase empty) ∙ ready in cc)
          | inr g ↦ elim g [ inl settled ↦ inl (outcome_shown base r v p x.shows k ToCommit settled) | inr read ↦ inr (subst (λ ks. In k ks) x.shows.follows.read_only read) ]
        ]

    go : (q : Option Node) → find_node (home_of k) v.nodes ≡ q → HasOutcome base r v k ToCommit ⊎ In k v.shared.read_only
    go (Some z) found = at_rest_whole law base v es is_run rests r k z found branch other commits
    go None none = absent none
