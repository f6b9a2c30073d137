-- What a boot shows as the last settlement of its disk is one of its node, or the last that the disk had at the opening.
use Rattle.std.proofs.Common.{◌≡◌, ℕ, ◌⊎◌, List, [], ◌∷◌, ◌++◌, inl, inr, take, Bool, true, false, Option, Some, None, if◌then◌else◌, refl, sym, ◌∙◌, ap, subst}
use Rattle.vms_model.specs.Ids.{Id}
use Rattle.vms_model.specs.Transactions.{Outcome, Commit, Abort, Reason, SegFail}
use Rattle.run_said.specs.transcript_model.Lines as line
use Rattle.run_said.specs.transcript_model.Lines.{Line, Cause}
use Rattle.run_said.specs.script_model.Statements.{Statement, At, Deliver, LinkDown, Settle, Reading, Blank, Says, Bad}
use Rattle.run_said.specs.script_model.Grammar.{reading}
use Rattle.unit_laws.specs.records_model.Records.{Change}
use Rattle.unit_laws.specs.Units.{Map}
use Rattle.commit_protocol.specs.Table.{Key as BranchKey, Settles, Undoes}
use Rattle.commit_protocol.specs.World.{In}
use Rattle.run_said.specs.run_model.World as world
use Rattle.run_said.specs.run_model.World.{World, Shared, Node, DiskCounts, Durable, Settlement, Act, Boots, Formats, Tables, Directs, Outturn, Lost, Taken, Half, acted, powered, unpowered, settled_more, settlement_of, with_settlement, aborted_prepared, with_half, next_moment, find_node, with_node, opened}
use Rattle.run_said.specs.run_model.Answers as answers
use Rattle.run_said.specs.run_model.Answers.{Row, Service, Task, task_service, refused_before_reading, powers, spoils, last_line, last_lines, settled_line}
use Rattle.run_said.specs.run_model.Steps.{Choice, Whole, WithoutMemory, Unpowered, Cut, task_effect, ready_node, node_after, node_after_rows, lines_of_rows, rows_to_cut, with_unknown_volume, whole, begun}
use Rattle.run_said.specs.run_model.Statements.{Part, PartEffect, Begins, Phases, Step, part_effect, put_into, stops_at, phases_of, refused_at_once, begun_with}
use Rattle.run_said.specs.run_model.Transcript.{Entry, Legal, Turn as LineTurn}
use Rattle.run_said.proofs.run_model.NodeLists.{put_node, some_is}
use Rattle.run_said.proofs.run_model.TaskLemmas.{effect_name}
use Rattle.run_said.proofs.run_model.PartLemmas.{phases_fold}
use Rattle.run_said.proofs.run_model.PartTasks.{View, Doing, Fixed, view}
use Rattle.run_said.proofs.run_model.Refusing.{each_phase}
use Rattle.run_laws.specs.Accounts.{made_anew}
use Rattle.run_laws.specs.Promises.{left_at, settlements_of, last_in}
use Rattle.run_laws.specs.Laws.{LastsAreSettled}
use Rattle.run_laws.proofs.EachRow.{ArePlain, EachRow, closing_plain, cut_each, is_plain, take_each, task_each}
use Rattle.run_laws.proofs.MadeAnew.{made_last}
use Rattle.run_laws.proofs.Staying.{Grows, Stay, find_put, found_settled, part_stays, rows_grow, after_grows, stays}
use Rattle.run_laws.proofs.ShownSettled.{in_append, answer_plain, here_in}

-- The last settlement of a node's disk is one of its own, or the one that it had at the opening.
abbrev pub HasLast : Option Node → Node → Type 0
HasLast o n = (t : Settlement) → n.durable.last ≡ Some t → In t n.settled ⊎ ((m : Node) × (o ≡ Some m) × (m.durable.last ≡ Some t))

module _ (o : Option Node) where
  settled_last : (r : Option Settlement) (d : Durable) (ss : List Settlement) → ((t : Settlement) → d.last ≡ Some t → In t ss ⊎ ((m : Node) × (o ≡ Some m) × (m.durable.last ≡ Some t))) →
      (t : Settlement) → (with_settlement r d).last ≡ Some t → In t (settled_more r ss) ⊎ ((m : Node) × (o ≡ Some m) × (m.durable.last ≡ Some t))
  settled_last None d ss h t e = h t e
  settled_last (Some s) d ss h t e = inl (inl (sym (some_is s t e)))

  pub acted_last : (act : Act) (n : Node) → HasLast o n → HasLast o (acted act n)
  acted_last (Tables a moment) n h t e = settled_last (settlement_of a moment) _ n.settled h t e
  acted_last (Directs file cs s) n h t e = inl (inl (sym (some_is s t e)))
  acted_last (Formats slots journal) n h t e = let no : ⊥ = cc in absurd no
  acted_last _ n h t e = h t e

  pub after_last : (act : Option Act) (n : Node) → HasLast o n → HasLast o (node_after act n)
  after_last None n h t e = h t e
  after_last (Some act) n h t e = acted_last act n h t e

  rows_last : (rs : List Row) (n : Node) → HasLast o n → HasLast o (node_after_rows rs n)
  rows_last [] n h t e = h t e
  rows_last (r ∷ rs) n h t e = rows_last rs (node_after r.act n) (after_last r.act n h) t e

  half_last : (r : Option Id) (standing : List ℕ → Map) (d : Durable) → (with_half r standing d).last ≡ d.last
  half_last None standing d = refl
  half_last (Some serial) standing d = refl

  pub powered_last : (outturn : Outturn) (stops : ℕ) (n : Node) → HasLast o n → HasLast o (powered outturn stops n)
  powered_last outturn stops n h = go outturn n.under_way
    where
      go : (r : Outturn) (act : Option Act) → HasLast o (powered r stops (record n { under_way = act }))
      go Taken (Some act) t e = acted_last act (record n { under_way = Some act }) h t e
      go Taken None t e = h t e
      go Lost act t e = h t e
      go (Half standing) act t e = h t (sym (half_last (aborted_prepared act n.durable) standing n.durable) ∙ e)

  spoilt_last : (b : Bool) (n : Node) → HasLast o n → HasLast o (with_unknown_volume b n)
  spoilt_last true n h t e = h t e
  spoilt_last false n h t e = h t e

  ready_last : (outturn : Outturn) (stops : ℕ) (e : Service) (n : Node) → HasLast o n → HasLast o (ready_node outturn stops e n)
  ready_last outturn stops e n h = go (powers e)
    where
      go : (b : Bool) → HasLast o (if b then with_unknown_volume (spoils e) (powered outturn stops n) else n)
      go true t f = spoilt_last (spoils e) (powered outturn stops n) (powered_last outturn stops n h) t f
      go false t f = h t f

  effect_last : (s : Shared) (stops : ℕ) (n : Node) (t : Task) (c : Choice) → HasLast o n → HasLast o (task_effect s stops n t c).node
  effect_last s stops n t (Whole outturn) h = go (refused_before_reading s n (task_service t))
    where
      ready : Node
      ready = ready_node outturn stops (task_service t) n

      late : (r : Option Line) → HasLast o (begun s ready (task_service t) r).node
      late (Some refusal) y e = ready_last outturn stops (task_service t) n h y e
      late None y e = after_last (task_service t).closing (node_after_rows ((task_service t).rows s ready) ready) (rows_last ((task_service t).rows s ready) ready (ready_last outturn stops (task_service t) n h)) y e

      go : (r : Option Line) → HasLast o (whole s n ready (task_service t) r).node
      go (Some refusal) y e = h y e
      go None y e = late ((task_service t).refused_after_reading s ready) y e
  effect_last s stops n t WithoutMemory h = h
  effect_last s stops n t Unpowered h = spoilt_last (spoils (task_service t)) (unpowered stops n) h
  effect_last s stops n t (Cut outturn done started cause) h =
      let ready = ready_node outturn stops (task_service t) n in
      rows_last (take done (rows_to_cut s ready (task_service t))) ready (ready_last outturn stops (task_service t) n h)

  -- A line of a last settlement is that of such a one.

  plain_shows : (l : Line) (s : Settlement) → is_plain l ≡ true → last_in l ≡ Some s → ⊥
  plain_shows (line.LastCommitted tid serial moment) s h e = cc
  plain_shows (line.LastAborted tid serial reason moment) s h e = cc
  plain_shows _ s h e = cc

  none_shown : (ls : List Line) → ArePlain ls → (l : Line) (s : Settlement) → In l ls → last_in l ≡ Some s → ⊥
  none_shown [] h l s i e = i
  none_shown (x ∷ ls) h l s (inl same) e = plain_shows x s h.0 (sym (ap last_in same) ∙ e)
  none_shown (x ∷ ls) h l s (inr i) e = none_shown ls h.1 l s i e

  -- it is settled by the node, or was the last at the opening
  abbrev Known : Line → Node → Type 0
  Known l n = ((t : Settlement) × In t n.settled × (last_line t ≡ l ∷ [])) ⊎ ((m : Node) × (o ≡ Some m) × (last_lines m ≡ l ∷ []))

  known_grows : (l : Line) (n m : Node) → Grows n m → Known l n → Known l m
  known_grows l n m grows (inl k) = inl (k.0, grows k.0 k.1, k.2)
  known_grows l n m grows (inr k) = inr k

  abbrev ShowsLast : Row → Node → Type 0
  ShowsLast r n = HasLast o n → (l : Line) (s : Settlement) → In l r.lines → last_in l ≡ Some s → Known l n

  quietly : (act : Option Act) (ls : List Line) (n : Node) → ArePlain ls → ShowsLast (record { act = act; lines = ls }) n
  quietly act ls n h last l s i e = absurd (none_shown ls h l s i e)

  settled_quietly : (k : BranchKey) (outcome : Outcome) (reason : Reason) (moment : ℕ) (act : Option Act) (n : Node) → ShowsLast (record { act = act; lines = settled_line k outcome reason moment ∷ [] }) n
  settled_quietly k outcome reason moment act n last l s (inr i) e = absurd i
  settled_quietly k Commit reason moment act n last l s (inl same) e = let none : None ≡ Some s = sym (ap last_in same) ∙ e in let no : ⊥ = cc in absurd no
  settled_quietly k Abort reason moment act n last l s (inl same) e = let none : None ≡ Some s = sym (ap last_in same) ∙ e in let no : ⊥ = cc in absurd no

  directed_quietly : (file : List ℕ) (cs : List Change) (n : Node) → ShowsLast (record { act = Some (Directs file cs (answers.commit_settlement n (world.next_id n) (world.next_id n))); lines = line.Committed (world.next_id n) (world.next_id n) (next_moment n) ∷ [] }) n
  directed_quietly file cs n last l s (inl same) e = let none : None ≡ Some s = sym (ap last_in same) ∙ e in let no : ⊥ = cc in absurd no
  directed_quietly file cs n last l s (inr i) e = absurd i

  -- the lines of a settlement are that one, where it is among them
  pub only_line : (t : Settlement) (l : Line) → In l (last_line t) → last_line t ≡ l ∷ []
  only_line t l = go t.outcome t.reason
    where
      go : (x : Outcome) (r : Option Reason) → In l (elim x [ Commit ↦ line.LastCommitted t.tid t.serial t.moment ∷ [] | Abort ↦ elim r [ Some reason ↦ line.LastAborted t.tid t.serial reason t.moment ∷ [] | None ↦ [] ] ]) →
          (elim x as (λ y. List Line) [ Commit ↦ line.LastCommitted t.tid t.serial t.moment ∷ [] | Abort ↦ elim r as (λ y. List Line) [ Some reason ↦ line.LastAborted t.tid t.serial reason t.moment ∷ [] | None ↦ [] ] ]) ≡ l ∷ []
      go Commit r (inl same) = ap (λ x. x ∷ []) (sym same)
      go Commit r (inr i) = absurd i
      go Abort (Some reason) (inl same) = ap (λ x. x ∷ []) (sym same)
      go Abort (Some reason) (inr i) = absurd i
      go Abort None i = absurd i

  pub lines_of_last : (n : Node) (t : Settlement) → n.durable.last ≡ Some t → last_lines n ≡ last_line t
  lines_of_last n t e = ap (λ (x : Option Settlement). elim x [ Some s ↦ last_line s | None ↦ [] ]) e

  boot_shows : (n : Node) → ShowsLast (record { act = Some Boots; lines = last_lines n }) n
  boot_shows n last l s i e = go n.durable.last refl
    where
      known : (t : Settlement) → In l (last_line t) → In t n.settled ⊎ ((m : Node) × (o ≡ Some m) × (m.durable.last ≡ Some t)) → Known l n
      known t j (inl k) = inl (t, k, only_line t l j)
      known t j (inr k) = inr (k.0, k.1, lines_of_last k.0 t k.2 ∙ only_line t l j)

      go : (x : Option Settlement) → n.durable.last ≡ x → Known l n
      go (Some t) is = known t (subst (In l) (lines_of_last n t is) i) (last t is)
      go None is = absurd (subst (λ (x : Option Settlement). In l (elim x [ Some s ↦ last_line s | None ↦ [] ])) is i)

  rows_show : (rs : List Row) (n : Node) → EachRow ShowsLast rs n → HasLast o n → (l : Line) (s : Settlement) → In l (lines_of_rows rs) → last_in l ≡ Some s → Known l (node_after_rows rs n)
  rows_show [] n h last l s i e = absurd i
  rows_show (r ∷ rs) n h last l s i e = elim (in_append l r.lines (lines_of_rows rs) i) [
    | inl j ↦ known_grows l n (node_after_rows rs (node_after r.act n)) (λ t k. rows_grow rs (node_after r.act n) t (after_grows r.act n t k)) (h.0 last l s j e)
    | inr j ↦ rows_show rs (node_after r.act n) h.1 (after_last r.act n last) l s j e
  ]

  shows_all : (s : Shared) (n : Node) (t : Task) → EachRow ShowsLast ((task_service t).rows s n) n
  shows_all s n t = task_each ShowsLast (λ act ls n h q v. quietly act ls n h) (λ k outcome reason r n. settled_quietly k outcome reason (next_moment n) (Some (Tables (Settles k outcome reason r) (next_moment n))) n)
      (λ k n. settled_quietly k Abort SegFail (next_moment n) (Some (Tables (Undoes k) (next_moment n))) n) directed_quietly boot_shows s n t

  behind_plain : (front back : List Line) (l : Line) → ArePlain back → (s : Settlement) → In l (front ++ back) → last_in l ≡ Some s → In l front
  behind_plain front back l h s i e = elim (in_append l front back i) [ inl j ↦ j | inr j ↦ absurd (none_shown back h l s j e) ]

  effect_shows : (s : Shared) (stops : ℕ) (n : Node) (t : Task) (c : Choice) → HasLast o n → (l : Line) (x : Settlement) → In l (task_effect s stops n t c).lines → last_in l ≡ Some x → Known l (task_effect s stops n t c).node
  effect_shows s stops n t (Whole outturn) h l x i e = go (refused_before_reading s n (task_service t)) i
    where
      ready : Node
      ready = ready_node outturn stops (task_service t) n

      late : (r : Option Line) → In l (begun s ready (task_service t) r).lines → Known l (begun s ready (task_service t) r).node
      late (Some refusal) j = absurd j
      late None j =
          let rs = (task_service t).rows s ready in
          known_grows l (node_after_rows rs ready) (node_after (task_service t).closing (node_after_rows rs ready)) (after_grows (task_service t).closing (node_after_rows rs ready))
          (rows_show rs ready (shows_all s ready t) (ready_last outturn stops (task_service t) n h) l x (behind_plain (lines_of_rows rs) ((task_service t).closing_lines ready) l (closing_plain ready t) x j e) e)

      go : (r : Option Line) → In l (whole s n ready (task_service t) r).lines → Known l (whole s n ready (task_service t) r).node
      go (Some refusal) j = absurd j
      go None j = late ((task_service t).refused_after_reading s ready) j
  effect_shows s stops n t WithoutMemory h l x i e = absurd i
  effect_shows s stops n t Unpowered h l x i e = absurd (none_shown (line.Down n.name line.Failed ∷ []) (refl, tt) l x i e)
  effect_shows s stops n t (Cut outturn done started cause) h l x i e =
      let ready = ready_node outturn stops (task_service t) n in
      let rs = take done (rows_to_cut s ready (task_service t)) in
      rows_show rs ready (take_each ShowsLast done (rows_to_cut s ready (task_service t)) ready (cut_each ShowsLast ((task_service t).refused_after_reading s ready) ((task_service t).rows s ready) ready (shows_all s ready t)))
      (ready_last outturn stops (task_service t) n h) l x (behind_plain (lines_of_rows rs) (line.Down ready.name cause ∷ []) l (refl, tt) x i e) e

-- In worlds.

-- the nodes at an opening, by their names, but for those whose volumes these entries made anew
abbrev pub left : List Entry → World → List ℕ → Option Node
left es opening node = left_at node es opening

pub left_found : (node : List ℕ) (es : List Entry) (opening : World) (n : Node) → left_at node es opening ≡ Some n → find_node node opening.nodes ≡ Some n
left_found node [] opening n e = e
left_found node (x ∷ es) opening n e = go (made_anew node (reading x.source.text) x.lines) e (left_found node es opening n)
  where
    go : (b : Bool) → ◌≡◌ {A = Option Node} (if b then None else left_at node es opening) (Some n) → (left_at node es opening ≡ Some n → find_node node opening.nodes ≡ Some n) → find_node node opening.nodes ≡ Some n
    go true k more = let no : ⊥ = cc in absurd no
    go false k more = more k

-- each node has such a last settlement
abbrev pub AllLast : (List ℕ → Option Node) → World → Type 0
AllLast o w = (node : List ℕ) (n : Node) → find_node node w.nodes ≡ Some n → HasLast (o node) n

-- the line of the last settlement of such a node
abbrev pub IsLastOf : (List ℕ → Option Node) → List ℕ → Line → Type 0
IsLastOf o node l = (m : Node) × (o node ≡ Some m) × (last_lines m ≡ l ∷ [])

-- each last settlement that these lines show is known so of a node
abbrev pub AreKnown : (List ℕ → Option Node) → List Line → World → Type 0
AreKnown o lines v = (l : Line) (x : Settlement) → In l lines → last_in l ≡ Some x → (node : List ℕ) × (((t : Settlement) × In t (settlements_of node v) × (last_line t ≡ l ∷ [])) ⊎ IsLastOf o node l)

known_stays : (o : List ℕ → Option Node) (w v : World) (lines : List Line) → Stay w v → AreKnown o lines w → AreKnown o lines v
known_stays o w v lines stay h l x i e = let r = h l x i e in (r.0, elim r.1 [ inl k ↦ inl (k.0, stay r.0 k.0 k.1, k.2) | inr k ↦ inr k ])

pub part_lasts : (o : List ℕ → Option Node) (w : World) (p : Part) (c : Choice) → AllLast o w → AllLast o (part_effect w p c).world × AreKnown o (part_effect w p c).lines (part_effect w p c).world
part_lasts o w p c all = go (view w p)
  where
    go : View w p → AllLast o (part_effect w p c).world × AreKnown o (part_effect w p c).lines (part_effect w p c).world
    go (Fixed answer ends kind is) = subst (λ (y : PartEffect). AllLast o y.world × AreKnown o y.lines y.world) (sym (is c)) (all, λ l x i e. absurd i)
    go (Doing node t n named found does may) =
        let e = task_effect w.shared (stops_at node w) n t c in
        let v = (put_into w node e).world in
        let name = effect_name w.shared (stops_at node w) n t c in
        subst (λ (y : PartEffect). AllLast o y.world × AreKnown o y.lines y.world) (sym (does c)) (
          λ other m there. elim (find_put other node n e.node w.nodes name found) [
            | inl same ↦ all other m (sym same ∙ there)
            | inr both ↦ subst (HasLast (o other)) (some_is e.node m (sym both.0 ∙ there)) (effect_last (o other) w.shared (stops_at node w) n t c (all other n both.1))
          ],
          λ l x i shown. (
            node,
            elim (effect_shows (o node) w.shared (stops_at node w) n t c (all node n found) l x i shown) [
              | inl k ↦ inl (k.0, subst (In k.0) (sym (found_settled node v e.node (put_node node n e.node w.nodes name found))) k.1, k.2)
              | inr k ↦ inr (k.0, k.1, k.2)
            ],
          ),
        )

abbrev Leads : (List ℕ → Option Node) → World → List Line → Line → World → Type 0
Leads o w lines answer v = AllLast o w → AllLast o v × AreKnown o lines v × Stay w v

then_lasts : (o : List ℕ → Option Node) (w u : World) (front rest : List Line) (answer : Line) (v : World) → (AllLast o w → AllLast o u × AreKnown o front u) → Stay w u → Leads o u rest answer v → Leads o w (front ++ rest) answer v
then_lasts o w u front rest answer v shown stay more all =
    let one = shown all in
    let two = more one.0 in (
      two.0,
      λ l x i e. elim (in_append l front rest i) [ inl j ↦ known_stays o u v front two.2 one.1 l x j e | inr j ↦ two.1 l x j e ],
      λ node t i. two.2 node t (stay node t i),
    )

pub begins_last : (o : List ℕ → Option Node) (s : Statement) (w : World) → AllLast o w → AllLast o (begun_with s w)
begins_last o Settle w all = all
begins_last o (At node request) w all = all
begins_last o (Deliver number) w all = all
begins_last o (LinkDown a b) w all = all

step_lasts : (o : List ℕ → Option Node) (w v : World) (s : Statement) (lines : List Line) → AllLast o w → (step : Step w s lines v) → AllLast o v × AreKnown o step.events v
step_lasts o w v s lines all step = subst (λ x. AllLast o x × AreKnown o step.events x) (sym step.goes) (go (refused_at_once w s) step.does)
  where
    go : (q : Option Line) → Begins q (Phases (phases_of s) v.disks (begun_with s w) line.Normal) w step.events step.answer step.world → AllLast o step.world × AreKnown o step.events step.world
    go (Some refusal) d = (subst (AllLast o) (sym d.2) all, subst (λ ls. AreKnown o ls step.world) (sym d.0) (λ l x i e. absurd i))
    go None d =
        let r = phases_fold v.disks (λ p. Unit {0}) (λ given. Unit {0}) (Leads o)
        (λ u given q h. (h, λ l x i e. absurd i, λ node t i. i))
        (λ u p c ok allowed ends h. let k = part_lasts o u p c h in (k.0, k.1, part_stays u p c))
        (λ u p c ok allowed on. (tt, λ rest answer x more. then_lasts o u (part_effect u p c).world (part_effect u p c).lines rest answer x (part_lasts o u p c) (part_stays u p c) more))
        (phases_of s) (each_phase s) (begun_with s w) line.Normal step.events step.answer step.world tt d (begins_last o s w all) in
        (r.0, r.1)

turn_lasts : (o : List ℕ → Option Node) (w v : World) (r : Reading) (lines : List Line) → AllLast o w → LineTurn w r lines v → AllLast o v × AreKnown o lines v
turn_lasts o w v Blank lines all t = (subst (AllLast o) (sym t.1) all, subst (λ ls. AreKnown o ls v) (sym t.0) (λ l x i e. absurd i))
turn_lasts o w v (Bad column) lines all t = absurd t
turn_lasts o w v (Says s) lines all t =
    let r = step_lasts o w v s lines all t in
    let plain = answer_plain w v s lines t in (
      r.0,
      subst (λ ls. AreKnown o ls v) (sym t.shows) (λ l x i e. elim (in_append l t.events (t.answer ∷ []) i) [
        | inl j ↦ r.1 l x j e
        | inr j ↦ absurd (none_shown None (t.answer ∷ []) (plain, tt) l x j e)
      ]),
    )

pub legal_lasts : (opening w : World) (es : List Entry) → Legal opening es w → AllLast (left es opening) w
legal_lasts opening w [] legal = subst (AllLast (left [] opening)) (sym legal) (λ node n found t e. inr (n, found, e))
legal_lasts opening w (e ∷ es) legal = behind (turn_lasts (left es opening) legal.0 w (reading e.source.text) e.lines (legal_lasts opening legal.0 es legal.1) legal.2).0
  where
    behind : AllLast (left es opening) w → AllLast (left (e ∷ es) opening) w
    behind h node n found = go (made_anew node (reading e.source.text) e.lines) refl
      where
        go : (b : Bool) → made_anew node (reading e.source.text) e.lines ≡ b → HasLast (left_at node (e ∷ es) opening) n
        go false off = subst (λ b. HasLast (if b then None else left_at node es opening) n) (sym off) (h node n found)
        go true on = λ t is. let clash : ◌≡◌ {A = Option Settlement} None (Some t) = sym (made_last legal.0 w node (reading e.source.text) e.lines legal.2 on n found) ∙ is in let no : ⊥ = cc in absurd no

pub lasts_settled : LastsAreSettled
lasts_settled nodes disks es closing areopening legal before said front behind this s there is =
    let opening = opened nodes disks in
    let r = stays opening closing there.after (there.entry ∷ before) (subst (λ es. Legal opening es closing) there.stands legal) in
    let l = r.1 in
    let here = (turn_lasts (left before opening) l.0 r.0 (reading there.entry.source.text) there.entry.lines (legal_lasts opening l.0 before l.1) l.2).1 in
    known_stays (left before opening) r.0 closing there.entry.lines r.2 here this s (subst (In this) (sym there.shown) (here_in front this behind)) is
