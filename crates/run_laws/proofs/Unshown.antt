-- How a settlement comes to stand at a node, and how one comes to be under way, which no line shows.
use Rattle.std.proofs.Common.{◌≡◌, ◌≤◌, ℕ, zero, suc, ◌⊎◌, List, [], ◌∷◌, ◌++◌, length, take, drop, inl, inr, Bool, true, false, Option, Some, None, if◌then◌else◌, refl, sym, ◌∙◌, ap, subst, arith}
use Rattle.std.proofs.lemmas.List.{append_assoc}
use Rattle.vms_model.specs.Ids.{Id}
use Rattle.vms_model.specs.Transactions.{Outcome, Commit, Abort, Reason, Aborted, SegFail}
use Rattle.run_said.specs.transcript_model.Lines as line
use Rattle.run_said.specs.transcript_model.Lines.{Line, Cause}
use Rattle.run_said.specs.script_model.Statements.{Init, Boot}
use Rattle.commit_protocol.specs.Table.{Key as BranchKey, Settles, Undoes, child}
use Rattle.commit_protocol.specs.World.{In}
use Rattle.commit_protocol.proofs.Lists.{in_left, in_right}
use Rattle.run_said.specs.run_model.World as world
use Rattle.run_said.specs.run_model.World.{Shared, Node, Act, Directs, Settlement, Tables, Outturn, Lost, Taken, Half, acted, fallen, next_id, next_moment, powered, unpowered}
use Rattle.run_said.specs.run_model.Answers.{Row, Service, Task, Serves, Restarts, powers, refused_before_reading, settled_line, spoils, task_service}
use Rattle.run_said.specs.run_model.Steps.{Choice, Cut, Unpowered, Whole, WithoutMemory, act_begun, begun, lines_of_rows, node_after, node_after_rows, ready_node, rows_to_cut, task_effect, whole, with_unknown_volume}
use Rattle.run_laws.specs.Promises.{abort, commitment, shown_in}
use Rattle.run_laws.proofs.EachRow.{EachRow, cut_each, is_quiet, take_each, task_each}
use Rattle.run_laws.proofs.EffectsTell.{after_under, rows_under}
use Rattle.run_laws.proofs.Keeping.{acted_settled, begun_act, settled_by}
use Rattle.recovery_laws.proofs.world_laws.FindLemmas.{some_is}

-- the settlement that an act makes
abbrev pub settles_so : Act → Option Settlement
settles_so (Tables a moment) = world.settlement_of a moment
settles_so (Directs file cs s) = Some s
settles_so _ = None

by_so : (act : Act) (ss : List Settlement) → settled_by act ss ≡ world.settled_more (settles_so act) ss
by_so (Tables a moment) ss = refl
by_so (Directs file cs s) ss = refl
by_so _ ss = refl

more_in : (o : Option Settlement) (ss : List Settlement) (s : Settlement) → In s (world.settled_more o ss) → In s ss ⊎ (o ≡ Some s)
more_in None ss s i = inl i
more_in (Some x) ss s i = elim i [ inl same ↦ inr (ap Some (sym same)) | inr j ↦ inl j ]

pub acted_in : (act : Act) (n : Node) (s : Settlement) → In s (acted act n).settled → In s n.settled ⊎ (settles_so act ≡ Some s)
acted_in act n s i = more_in (settles_so act) n.settled s (subst (In s) (acted_settled act n ∙ by_so act n.settled) i)

pub in_acted : (act : Act) (n : Node) (s : Settlement) → settles_so act ≡ Some s → In s (acted act n).settled
in_acted act n s e = subst (In s) (sym (acted_settled act n ∙ by_so act n.settled)) (subst (λ o. In s (world.settled_more o n.settled)) (sym e) (inl refl))

-- under way at a node
abbrev pub UnderAt : Node → Settlement → Type 0
UnderAt n s = (act : Act) × (n.under_way ≡ Some act) × (settles_so act ≡ Some s)

abbrev pub ShownBy : List Line → Settlement → Type 0
ShownBy ls s = (l : Line) × In l ls × (shown_in l ≡ Some s)

-- this is how that settlement is shown in its statement
abbrev pub IsLineOf : Settlement → Line → Type 0
IsLineOf s it = (k : BranchKey) (o : Outcome) (reason : Reason) (moment : ℕ) → world.settlement k o reason moment ≡ s → settled_line k o reason moment ≡ it

pub commit_line : (tid serial : Id) (moment : ℕ) → IsLineOf (commitment tid serial moment) (line.Committed tid serial moment)
commit_line tid serial moment k Commit why at e = ap (λ (x : Settlement). line.Committed x.tid x.serial x.moment) e
commit_line tid serial moment k Abort why at e = let clash : Abort ≡ Commit = ap (λ (x : Settlement). x.outcome) e in let no : ⊥ = cc in absurd no

pub abort_line : (tid serial : Id) (reason : Reason) (moment : ℕ) → IsLineOf (abort tid serial reason moment) (line.Aborted tid serial reason moment)
abort_line tid serial reason moment k Abort why at e = ap (λ (x : Settlement). line.Aborted x.tid x.serial (elim x.reason [ Some r ↦ r | None ↦ SegFail ]) x.moment) e
abort_line tid serial reason moment k Commit why at e = let clash : Commit ≡ Abort = ap (λ (x : Settlement). x.outcome) e in let no : ⊥ = cc in absurd no

module _ (s : Settlement) (it : Line) (is_line : IsLineOf s it) where
  -- a row whose act makes it shows it
  abbrev ShowsIt : Row → Node → Type 0
  ShowsIt r n = (act : Act) → r.act ≡ Some act → settles_so act ≡ Some s → r.lines ≡ it ∷ []

  none_settled : (act : Act) → is_quiet (Some act) ≡ true → settles_so act ≡ Some s → ⊥
  none_settled (Tables (Settles k o reason r) moment) q e = let no : ⊥ = cc in no
  none_settled (Tables (Undoes k) moment) q e = let no : ⊥ = cc in no
  none_settled (Tables _ moment) q e = let no : ⊥ = cc in no
  none_settled (Directs file cs x) q e = let no : ⊥ = cc in no
  none_settled _ q e = let no : ⊥ = cc in no

  shows_it : (sh : Shared) (n : Node) (t : Task) → EachRow ShowsIt ((task_service t).rows sh n) n
  shows_it sh n t = task_each ShowsIt (λ o ls m plain quiet votes act is e. absurd (none_settled act (subst (λ q. is_quiet q ≡ true) is quiet) e))
      (λ k o reason r m act is e. ap (λ l. l ∷ []) (is_line k o reason (next_moment m) (some_is _ s (ap settles_so (some_is _ act is) ∙ e))))
      (λ k m act is e. ap (λ l. l ∷ []) (is_line k Abort SegFail (next_moment m) (some_is _ s (ap settles_so (some_is _ act is) ∙ e))))
      (λ file cs m act is e. ap (λ l. l ∷ []) (is_line (child (next_id m) (next_id m)) Commit Aborted (next_moment m) (some_is _ s (ap settles_so (some_is _ act is) ∙ e))))
      (λ m act is e. let clash : ◌≡◌ {A = Option Settlement} None (Some s) = ap settles_so (some_is _ act is) ∙ e in let no : ⊥ = cc in absurd no)
      sh n t

  -- what stands behind rows stood there before, or their lines show it
  rows_in : (rs : List Row) (n : Node) → EachRow ShowsIt rs n → In s (node_after_rows rs n).settled → In s n.settled ⊎ In (it) (lines_of_rows rs)
  rows_in [] n t i = inl i
  rows_in (r ∷ rs) n t i = elim (rows_in rs (node_after r.act n) t.1 i) [
    | inl j ↦ first r.act r.lines t.0 j
    | inr j ↦ inr (in_right (it) r.lines (lines_of_rows rs) j)
  ]
    where
      first : (o : Option Act) (ls : List Line) → ShowsIt (record { act = o; lines = ls }) n → In s (node_after o n).settled → In s n.settled ⊎ In (it) (ls ++ lines_of_rows rs)
      first None ls t j = inl j
      first (Some act) ls t j = elim (acted_in act n s j) [
        | inl k ↦ inl k
        | inr e ↦ inr (in_left (it) ls (lines_of_rows rs) (subst (In (it)) (sym (t act refl e)) (inl refl)))
      ]

  -- at a disk that runs again
  pub powered_in : (o : Outturn) (stops : ℕ) (n : Node) → In s (powered o stops n).settled → In s n.settled ⊎ UnderAt n s
  powered_in Lost stops n i = inl i
  powered_in (Half standing) stops n i = inl i
  powered_in Taken stops n i = go n.under_way refl i
    where
      go : (w : Option Act) → n.under_way ≡ w → In s (powered Taken stops (record n { under_way = w })).settled → In s n.settled ⊎ UnderAt n s
      go None e j = inl j
      go (Some act) e j = elim (acted_in act (record n { under_way = Some act }) s j) [ inl k ↦ inl k | inr q ↦ inr (act, e, q) ]

  spoilt_in : (b : Bool) (n : Node) → In s (with_unknown_volume b n).settled → In s n.settled
  spoilt_in true n i = i
  spoilt_in false n i = i

  ready_in : (o : Outturn) (stops : ℕ) (e : Service) (n : Node) → In s (ready_node o stops e n).settled → In s n.settled ⊎ UnderAt n s
  ready_in o stops e n i = go (powers e) i
    where
      go : (b : Bool) → In s (if b then with_unknown_volume (spoils e) (powered o stops n) else n).settled → In s n.settled ⊎ UnderAt n s
      go true j = powered_in o stops n (spoilt_in (spoils e) (powered o stops n) j)
      go false j = inl j

  closing_in : (t : Task) (n : Node) → In s (node_after (task_service t).closing n).settled → In s n.settled
  closing_in (Serves (Init slots journal)) n i = i
  closing_in (Serves Boot) n i = i
  closing_in (Serves _) n i = i
  closing_in Restarts n i = i
  closing_in _ n i = i

  pub effect_in : (sh : Shared) (stops : ℕ) (n : Node) (t : Task) (c : Choice) → In s (task_effect sh stops n t c).node.settled → In s n.settled ⊎ UnderAt n s ⊎ In (it) (task_effect sh stops n t c).lines
  effect_in sh stops n t (Whole o) i = first (refused_before_reading sh n (task_service t)) i
    where
      ready : Node
      ready = ready_node o stops (task_service t) n

      before : In s (ready_node o stops (task_service t) n).settled → {A : Type 0} → In s n.settled ⊎ UnderAt n s ⊎ A
      before j = elim (ready_in o stops (task_service t) n j) [ inl k ↦ inl k | inr k ↦ inr (inl k) ]

      late : (q : Option Line) → In s (begun sh ready (task_service t) q).node.settled → In s n.settled ⊎ UnderAt n s ⊎ In (it) (begun sh ready (task_service t) q).lines
      late (Some refusal) j = before j
      late None j = elim (rows_in ((task_service t).rows sh ready) ready (shows_it sh ready t) (closing_in t (node_after_rows ((task_service t).rows sh ready) ready) j)) [
        | inl k ↦ before k
        | inr k ↦ inr (inr (in_left (it) (lines_of_rows ((task_service t).rows sh ready)) ((task_service t).closing_lines ready) k))
      ]

      first : (q : Option Line) → In s (whole sh n ready (task_service t) q).node.settled → In s n.settled ⊎ UnderAt n s ⊎ In (it) (whole sh n ready (task_service t) q).lines
      first (Some refusal) j = inl j
      first None j = late ((task_service t).refused_after_reading sh ready) j
  effect_in sh stops n t WithoutMemory i = inl i
  effect_in sh stops n t Unpowered i = inl (spoilt_in (spoils (task_service t)) (unpowered stops n) i)
  effect_in sh stops n t (Cut o j b cause) i =
      let ready = ready_node o stops (task_service t) n in
      let rs = rows_to_cut sh ready (task_service t) in
      elim (rows_in (take j rs) ready (take_each ShowsIt j rs ready (cut_each ShowsIt ((task_service t).refused_after_reading sh ready) ((task_service t).rows sh ready) ready (shows_it sh ready t))) i) [
        | inl k ↦ elim (ready_in o stops (task_service t) n k) [ inl q ↦ inl q | inr q ↦ inr (inl q) ]
        | inr k ↦ inr (inr (in_left (it) (lines_of_rows (take j rs)) (line.Down ready.name cause ∷ []) k))
      ]

  -- What becomes under way by a task whose rows are cut would have been shown, had one more of them been done.
  pub record CutThere (sh : Shared) (stops : ℕ) (n : Node) (t : Task) (o : Outturn) (j : ℕ) (cause : Cause) : Type 0 where
    pub more : suc j ≤ length (rows_to_cut sh (ready_node o stops (task_service t) n) (task_service t))
    pub lines : (task_effect sh stops n t (Cut o (suc j) false cause)).lines ≡ lines_of_rows (take j (rows_to_cut sh (ready_node o stops (task_service t) n) (task_service t))) ++ it ∷ line.Down (ready_node o stops (task_service t) n).name cause ∷ []
    pub settled : In s (task_effect sh stops n t (Cut o (suc j) false cause)).node.settled

  cut_rows : (rs : List Row) (j : ℕ) (n : Node) (act : Act) (down : Line) → EachRow ShowsIt rs n → act_begun true (drop j rs) ≡ Some act → settles_so act ≡ Some s →
      (suc j ≤ length rs) × (lines_of_rows (take (suc j) rs) ++ down ∷ [] ≡ lines_of_rows (take j rs) ++ it ∷ down ∷ []) × In s (node_after_rows (take (suc j) rs) n).settled
  cut_rows [] zero n act down t e so = let no : ⊥ = cc in absurd no
  cut_rows [] (suc j) n act down t e so = let no : ⊥ = cc in absurd no
  cut_rows (r ∷ rs) zero n act down t e so =
      let is = (begun_act r.act act e).0 in
      (omega arith, ap (λ ls. (ls ++ []) ++ down ∷ []) (t.0 act is so), subst (λ q. In s (node_after q n).settled) (sym is) (in_acted act n s so))
  cut_rows (r ∷ rs) (suc j) n act down t e so =
      let more = cut_rows rs j (node_after r.act n) act down t.1 e so in
      let less = more.0 in
      (omega (arith, less), append_assoc r.lines (lines_of_rows (take (suc j) rs)) (down ∷ []) ∙ ap (λ ls. r.lines ++ ls) more.1 ∙ sym (append_assoc r.lines (lines_of_rows (take j rs)) (it ∷ down ∷ [])), more.2)

  pub effect_under : (sh : Shared) (stops : ℕ) (n : Node) (t : Task) (c : Choice) → UnderAt (task_effect sh stops n t c).node s → UnderAt n s ⊎ ((o : Outturn) × (j : ℕ) × (cause : Cause) × (c ≡ Cut o j true cause) × CutThere sh stops n t o j cause)
  effect_under sh stops n t (Whole o) (act, e, so) = first (refused_before_reading sh n (task_service t)) e
    where
      ready : Node
      ready = ready_node o stops (task_service t) n

      from_ready : (ready_node o stops (task_service t) n).under_way ≡ Some act → {A : Type 0} → UnderAt n s ⊎ A
      from_ready e = inl (act, ready_under e, so)
        where
          powered_none : (o : Outturn) (w : Option Act) → (powered o stops (record n { under_way = w })).under_way ≡ None
          powered_none Lost w = refl
          powered_none (Half standing) w = refl
          powered_none Taken None = refl
          powered_none Taken (Some act) = refl

          spoilt_none : (b : Bool) (m : Node) → m.under_way ≡ None → (with_unknown_volume b m).under_way ≡ None
          spoilt_none true m q = q
          spoilt_none false m q = q

          ready_under : (ready_node o stops (task_service t) n).under_way ≡ Some act → n.under_way ≡ Some act
          ready_under e = go (powers (task_service t)) e
            where
              go : (b : Bool) → (if b then with_unknown_volume (spoils (task_service t)) (powered o stops n) else n).under_way ≡ Some act → n.under_way ≡ Some act
              go true q = let clash : ◌≡◌ {A = Option Act} None (Some act) = sym (spoilt_none (spoils (task_service t)) (powered o stops n) (powered_none o n.under_way)) ∙ q in let no : ⊥ = cc in absurd no
              go false q = q

      late : (q : Option Line) → (begun sh ready (task_service t) q).node.under_way ≡ Some act → {A : Type 0} → UnderAt n s ⊎ A
      late (Some refusal) e = from_ready e
      late None e = from_ready (sym (after_under (task_service t).closing (node_after_rows ((task_service t).rows sh ready) ready) ∙ rows_under ((task_service t).rows sh ready) ready) ∙ e)

      first : (q : Option Line) → (whole sh n ready (task_service t) q).node.under_way ≡ Some act → {A : Type 0} → UnderAt n s ⊎ A
      first (Some refusal) e = inl (act, e, so)
      first None e = late ((task_service t).refused_after_reading sh ready) e
  effect_under sh stops n t WithoutMemory u = inl u
  effect_under sh stops n t Unpowered (act, e, so) = inl (act, go (spoils (task_service t)) e, so)
    where
      go : (b : Bool) → (with_unknown_volume b (unpowered stops n)).under_way ≡ Some act → n.under_way ≡ Some act
      go true q = q
      go false q = q
  effect_under sh stops n t (Cut o j false cause) (act, e, so) = let no : ⊥ = cc in absurd no
  effect_under sh stops n t (Cut o j true cause) (act, e, so) =
      let ready = ready_node o stops (task_service t) n in
      let rs = rows_to_cut sh ready (task_service t) in
      let r = cut_rows rs j ready act (line.Down ready.name cause) (cut_each ShowsIt ((task_service t).refused_after_reading sh ready) ((task_service t).rows sh ready) ready (shows_it sh ready t)) e so in
      inr (o, j, cause, refl, record { more = r.0; lines = r.1; settled = r.2 })
