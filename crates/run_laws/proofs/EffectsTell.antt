-- The lines and the answer of a task tell what it does to what nodes share and to whether its node is up.
use Rattle.std.proofs.Common.{◌≡◌, ℕ, ◌+◌, zero, suc, List, [], ◌∷◌, ◌++◌, map, take, drop, Bool, true, false, not, ◌||◌, Option, Some, None, if◌then◌else◌, refl, sym, ◌∙◌, ap, subst, append-nil}
use Rattle.run_said.specs.transcript_model.Lines as line
use Rattle.run_said.specs.transcript_model.Lines.{Line, Cause, Failed}
use Rattle.run_said.specs.script_model.Statements.{Request, Init, Boot, StartTrans, AddBranch}
use Rattle.commit_protocol.specs.Table as table
use Rattle.commit_protocol.specs.Table.{Branch, Accepts}
use Rattle.commit_protocol.specs.Rows.{row}
use Rattle.run_said.specs.run_model.World.{Shared, Node, Label, Act, Boots, Tables, Labels, Draws, ComesUp, Falls, Formats, Outturn, Lost, Taken, Half, is_durable, acted, shared_after, fallen, powered, unpowered, next_id, tm_of}
use Rattle.run_said.specs.run_model.Operations.{first_of, refused_if}
use Rattle.run_said.specs.run_model.Answers.{Row, Service, Serves, Restarts, task_service, service, refused_before_reading, powers, spoils, occupies, branch_labelled, made_label, new_label, table_rows, silent, to_branch, adds, starts, in_state, is_first_active, prepared_lines}
use Rattle.run_said.specs.run_model.Steps.{Choice, Whole, WithoutMemory, Unpowered, Cut, ServiceAllowed, service_effect, ready_node, node_after, shared_then, node_after_rows, shared_after_rows, lines_of_rows, rows_if, rows_to_cut, act_begun, if_durable, with_unknown_volume, whole, begun, occupied, succeeded, cut}
use Rattle.run_said.proofs.run_model.NodeLists.{clash}
use Rattle.run_said.proofs.run_model.TaskLemmas.{rows_name, ready_name}
use Rattle.run_said.specs.run_model.StepLaws.{is_refusal}
use Rattle.run_said.proofs.run_model.CauseLemmas.{refuses_first, refuses_then}
use Rattle.run_said.proofs.run_model.Refusing.{not_ready}
use Rattle.run_said.specs.Said.{Said, SaidNode, with_up, with_use, with_unmade, with_label, lines_said, request_said}
use Rattle.run_said.proofs.Views.{node_told, label_told, shared_told, View, AllTell, rows_tell, take_tells, said_append, used_then, up_view, unmade_view, label_lines, neutral_lines}
use Rattle.run_laws.proofs.RowsTell.{makes_label, table_tells, boot_tells, prepared_neutral}

-- What may be under way at a node is one step of its disk.

abbrev pub IsStep : Option Act → Type 0
IsStep None = Unit {0}
IsStep (Some act) = is_durable act ≡ true

begun_step : (b : Bool) (rs : List Row) → IsStep (act_begun b rs)
begun_step false rs = tt
begun_step true [] = tt
begun_step true (r ∷ rs) = one r.act
  where
    filtered : (act : Act) (b : Bool) → is_durable act ≡ b → IsStep (if b then Some act else None)
    filtered act true e = e
    filtered act false e = tt

    one : (o : Option Act) → IsStep (if_durable o)
    one None = tt
    one (Some act) = filtered act (is_durable act) refl

acted_under : (act : Act) (n : Node) → (acted act n).under_way ≡ n.under_way
acted_under Boots n = refl
acted_under _ n = refl

pub after_under : (o : Option Act) (n : Node) → (node_after o n).under_way ≡ n.under_way
after_under None n = refl
after_under (Some act) n = acted_under act n

pub rows_under : (rs : List Row) (n : Node) → (node_after_rows rs n).under_way ≡ n.under_way
rows_under [] n = refl
rows_under (r ∷ rs) n = rows_under rs (node_after r.act n) ∙ after_under r.act n

spoilt_under : (b : Bool) (n : Node) → (with_unknown_volume b n).under_way ≡ n.under_way
spoilt_under true n = refl
spoilt_under false n = refl

ready_step : (outturn : Outturn) (stops : ℕ) (e : Service) (n : Node) → IsStep n.under_way → IsStep (ready_node outturn stops e n).under_way
ready_step outturn stops e n h = go (powers e)
  where
    go : (b : Bool) → IsStep (if b then with_unknown_volume (spoils e) (powered outturn stops n) else n).under_way
    go true = subst IsStep (sym (spoilt_under (spoils e) (powered outturn stops n))) tt
    go false = h

pub effect_step : (s : Shared) (stops : ℕ) (n : Node) (e : Service) (c : Choice) → IsStep n.under_way → IsStep (service_effect s stops n e c).node.under_way
effect_step s stops n e (Whole outturn) h = go (refused_before_reading s n e)
  where
    ready : Node
    ready = ready_node outturn stops e n

    late : (o : Option Line) → IsStep (begun s ready e o).node.under_way
    late (Some refusal) = ready_step outturn stops e n h
    late None = subst IsStep (sym (after_under e.closing (node_after_rows (e.rows s ready) ready) ∙ rows_under (e.rows s ready) ready)) (ready_step outturn stops e n h)

    go : (o : Option Line) → IsStep (whole s n ready e o).node.under_way
    go (Some refusal) = h
    go None = late (e.refused_after_reading s ready)
effect_step s stops n e WithoutMemory h = h
effect_step s stops n e Unpowered h = subst IsStep (sym (spoilt_under (spoils e) (unpowered stops n))) h
effect_step s stops n e (Cut outturn done begun cause) h = begun_step begun (drop done (rows_to_cut s (ready_node outturn stops e n) e))

-- a step of a disk leaves what is told of its node
step_told : (act : Act) (n : Node) → is_durable act ≡ true → node_told (acted act n) ≡ node_told n
step_told ComesUp n h = let no : ⊥ = cc in absurd no
step_told Falls n h = let no : ⊥ = cc in absurd no
step_told (Formats slots journal) n h = let no : ⊥ = cc in absurd no
step_told _ n h = refl

powered_told : (outturn : Outturn) (stops : ℕ) (n : Node) → IsStep n.under_way → node_told (powered outturn stops n) ≡ node_told n
powered_told outturn stops n h = go outturn n.under_way h
  where
    go : (t : Outturn) (o : Option Act) → IsStep o → node_told (powered t stops (record n { under_way = o })) ≡ node_told n
    go Taken (Some act) k = step_told act (record n { under_way = Some act }) k
    go Taken None k = refl
    go Lost o k = refl
    go (Half standing) o k = refl

-- Whether a node may be in use is no act's matter.

act_use : (act : Act) (s : Shared) → (shared_after act s).in_use ≡ s.in_use
act_use (Tables a moment) s = of_table a
  where
    of_table : (a : table.Act) → (shared_after (Tables a moment) s).in_use ≡ s.in_use
    of_table (Accepts b c) = refl
    of_table _ = refl
act_use _ s = refl

pub then_use : (o : Option Act) (s : Shared) → (shared_then o s).in_use ≡ s.in_use
then_use None s = refl
then_use (Some act) s = act_use act s

pub rows_use : (rs : List Row) (s : Shared) → (shared_after_rows rs s).in_use ≡ s.in_use
rows_use [] s = refl
rows_use (r ∷ rs) s = rows_use rs (shared_then r.act s) ∙ then_use r.act s

or_false : (b : Bool) → (b || false) ≡ b
or_false true = refl
or_false false = refl

or_true : (b : Bool) → (b || true) ≡ true
or_true true = refl
or_true false = refl

-- what nodes share after a task that leaves it, or from which on a node may be in use
use_as : (b : Bool) (s : Shared) → (s.in_use || b) ≡ s.in_use → shared_told (record s { in_use = s.in_use || b }) ≡ shared_told s
use_as b s e = ap (λ u. record (shared_told s) { in_use = u }) e

pub calm_use : (e : Service) (s : Shared) → occupies e ≡ false → shared_told (occupied e s) ≡ shared_told s
calm_use e s off = use_as (occupies e) s (ap (λ b. s.in_use || b) off ∙ or_false s.in_use)

taken_use : (e : Service) (s : Shared) → occupies e ≡ true → shared_told (occupied e s) ≡ record (shared_told s) { in_use = true }
taken_use e s on = ap (λ u. record (shared_told s) { in_use = u }) (ap (λ b. s.in_use || b) on ∙ or_true s.in_use)

-- Of a task, by the view of its node.
module _ (node : List ℕ) (base : List SaidNode) where
  abbrev at : Node → Shared → Said
  at n s = View node base (node_told n) (shared_told s)

  -- rows that were cut: their lines, and that the node is down
  cut_rows : (rs : List Row) (n : Node) (s : Shared) (cause : Cause) → n.name ≡ node → AllTell node base rs n s →
      lines_said (lines_of_rows rs ++ line.Down n.name cause ∷ []) (at n s) ≡ View node base (record (node_told (node_after_rows rs n)) { up = false }) (shared_told (shared_after_rows rs s))
  cut_rows rs n s cause named tell =
      said_append (lines_of_rows rs) (line.Down n.name cause ∷ []) (at n s) ∙ ap (with_up n.name false) (rows_tell node base rs n s tell)
      ∙ up_view node base n.name false (node_told (node_after_rows rs n)) (shared_told (shared_after_rows rs s)) (rows_name rs n ∙ named) named

  -- the rows that a failure may cut tell what they do where all rows do
  to_cut_tell : (o : Option Line) (rs : List Row) (n : Node) (s : Shared) → AllTell node base rs n s → AllTell node base (rows_if o rs) n s
  to_cut_tell (Some refusal) rs n s h = tt
  to_cut_tell None rs n s h = h

  -- a task that neither makes its disk run again nor does anything with its answer
  pub record Calm (e : Service) : Type 0 where
    pub off : powers e ≡ false
    pub closes : e.closing ≡ None
    pub shows : (n : Node) → e.closing_lines n ≡ []
    pub leaves : occupies e ≡ false
    pub tells : (s : Shared) (n : Node) → n.name ≡ node → AllTell node base (e.rows s n) n s

  calm_done : (s : Shared) (n : Node) (e : Service) → n.name ≡ node → Calm e → at (succeeded s n e).node (succeeded s n e).shared ≡ lines_said (succeeded s n e).lines (at n s)
  calm_done s n e named calm =
      let m = node_after_rows (e.rows s n) n in
      let u = shared_after_rows (e.rows s n) s in
      let lines : (succeeded s n e).lines ≡ lines_of_rows (e.rows s n) = ap (λ ls. lines_of_rows (e.rows s n) ++ ls) (calm.shows n) ∙ append-nil (lines_of_rows (e.rows s n)) in
      let left : at (succeeded s n e).node (succeeded s n e).shared ≡ at m u = (λ i. View node base (node_told (node_after (calm.closes i) m)) (shared_told (occupied e (shared_then (calm.closes i) u)))) ∙ ap (View node base (node_told m)) (calm_use e u calm.leaves) in
      left ∙ sym (rows_tell node base (e.rows s n) n s (calm.tells s n named)) ∙ ap (λ ls. lines_said ls (at n s)) (sym lines)

  calm_whole : (s : Shared) (n : Node) (e : Service) → n.name ≡ node → Calm e → (a b : Option Line) → at (whole s n n e a).node (whole s n n e a).shared ≡ lines_said (whole s n n e a).lines (at n s)
  calm_whole s n e named calm (Some refusal) b = refl
  calm_whole s n e named calm None b = go (e.refused_after_reading s n)
    where
      go : (o : Option Line) → at (begun s n e o).node (begun s n e o).shared ≡ lines_said (begun s n e o).lines (at n s)
      go (Some refusal) = refl
      go None = calm_done s n e named calm

  pub calm_told : (s : Shared) (stops : ℕ) (n : Node) (e : Service) (rises : Cause → Type 0) (c : Choice) → n.name ≡ node → Calm e → ServiceAllowed s stops n e rises c →
      at (service_effect s stops n e c).node (service_effect s stops n e c).shared ≡ lines_said (service_effect s stops n e c).lines (at n s)
  calm_told s stops n e rises (Whole outturn) named calm may =
      subst (λ m. at (whole s n m e (refused_before_reading s n e)).node (whole s n m e (refused_before_reading s n e)).shared ≡ lines_said (whole s n m e (refused_before_reading s n e)).lines (at n s)) (sym (not_ready outturn stops e n calm.off))
      (calm_whole s n e named calm (refused_before_reading s n e) None)
  calm_told s stops n e rises WithoutMemory named calm may = refl
  calm_told s stops n e rises Unpowered named calm may = absurd (clash _ may.1 calm.off)
  calm_told s stops n e rises (Cut outturn done begun cause) named calm may =
      subst (λ m. at (cut s m e (rows_to_cut s m e) done begun cause).node (cut s m e (rows_to_cut s m e) done begun cause).shared ≡ lines_said (cut s m e (rows_to_cut s m e) done begun cause).lines (at n s)) (sym (not_ready outturn stops e n calm.off))
      (ap (View node base (record (node_told (node_after_rows (take done (rows_to_cut s n e)) n)) { up = false })) (calm_use e (shared_after_rows (take done (rows_to_cut s n e)) s) calm.leaves)
      ∙ sym (cut_rows (take done (rows_to_cut s n e)) n s cause named (take_tells node base done (rows_to_cut s n e) n s (to_cut_tell (e.refused_after_reading s n) (e.rows s n) n s (calm.tells s n named)))))

  -- A boot.

  -- a task that boots its node
  pub record BootsNode (e : Service) : Type 0 where
    pub on : powers e ≡ true
    pub keeps : spoils e ≡ false
    pub closes : e.closing ≡ Some ComesUp
    pub takes : occupies e ≡ true
    pub tells : (s : Shared) (n : Node) → n.name ≡ node → AllTell node base (e.rows s n) n s

  boot_ready : (outturn : Outturn) (stops : ℕ) (e : Service) (n : Node) → BootsNode e → IsStep n.under_way → node_told (ready_node outturn stops e n) ≡ node_told n
  boot_ready outturn stops e n boots h = (λ i. node_told (if boots.on i then with_unknown_volume (boots.keeps i) (powered outturn stops n) else n)) ∙ powered_told outturn stops n h

  -- what a boot tells with its success, behind its rows: that the node is up
  boot_done : (s : Shared) (stops : ℕ) (outturn : Outturn) (n : Node) (e : Service) → n.name ≡ node → BootsNode e → IsStep n.under_way → (ready : Node) → ready ≡ ready_node outturn stops e n →
      at (succeeded s ready e).node (succeeded s ready e).shared ≡ with_up node true (with_use (lines_said (lines_of_rows (e.rows s ready)) (at n s)))
  boot_done s stops outturn n e named boots h ready is =
      let rs = e.rows s ready in
      let m = node_after_rows rs ready in
      let u = shared_after_rows rs s in
      let same : node_told ready ≡ node_told n = ap node_told is ∙ boot_ready outturn stops e n boots h in
      let name : ready.name ≡ node = ap (λ (x : SaidNode). x.name) same ∙ named in
      let shown : lines_said (lines_of_rows rs) (at n s) ≡ at m u = ap (λ x. lines_said (lines_of_rows rs) (View node base x (shared_told s))) (sym same) ∙ rows_tell node base rs ready s (boots.tells s ready name) in
      (λ i. View node base (node_told (node_after (boots.closes i) m)) (shared_told (occupied e (shared_then (boots.closes i) u))))
      ∙ ap (View node base (record (node_told m) { up = true })) (taken_use e u boots.takes)
      ∙ sym (up_view node base node true (node_told m) (record (shared_told u) { in_use = true }) (rows_name rs ready ∙ name) refl)
      ∙ ap (λ said. with_up node true (with_use said)) (sym shown)

  boot_cut : (s : Shared) (stops : ℕ) (outturn : Outturn) (n : Node) (e : Service) (done : ℕ) (begun : Bool) (cause : Cause) → n.name ≡ node → BootsNode e → IsStep n.under_way → (ready : Node) → ready ≡ ready_node outturn stops e n →
      at (cut s ready e (rows_to_cut s ready e) done begun cause).node (cut s ready e (rows_to_cut s ready e) done begun cause).shared ≡ with_use (lines_said (cut s ready e (rows_to_cut s ready e) done begun cause).lines (at n s))
  boot_cut s stops outturn n e done begun cause named boots h ready is =
      let rs = take done (rows_to_cut s ready e) in
      let same : node_told ready ≡ node_told n = ap node_told is ∙ boot_ready outturn stops e n boots h in
      let name : ready.name ≡ node = ap (λ (x : SaidNode). x.name) same ∙ named in
      let tell = take_tells node base done (rows_to_cut s ready e) ready s (to_cut_tell (e.refused_after_reading s ready) (e.rows s ready) ready s (boots.tells s ready name)) in
      ap (View node base (record (node_told (node_after_rows rs ready)) { up = false })) (taken_use e (shared_after_rows rs s) boots.takes)
      ∙ ap with_use (sym (cut_rows rs ready s cause name tell) ∙ ap (λ x. lines_said (lines_of_rows rs ++ line.Down ready.name cause ∷ []) (View node base x (shared_told s))) same)

  boot_dead : (s : Shared) (stops : ℕ) (n : Node) (e : Service) → n.name ≡ node → BootsNode e → at (with_unknown_volume (spoils e) (unpowered stops n)) (occupied e s) ≡ with_use (lines_said (line.Down n.name Failed ∷ []) (at n s))
  boot_dead s stops n e named boots =
      (λ i. View node base (node_told (with_unknown_volume (boots.keeps i) (unpowered stops n))) (shared_told (occupied e s)))
      ∙ ap (View node base (record (node_told n) { up = false })) (taken_use e s boots.takes)
      ∙ ap with_use (sym (up_view node base n.name false (node_told n) (shared_told s) named named))

  is_boot : BootsNode (service Boot)
  is_boot = record { on = refl; keeps = refl; closes = refl; takes = refl; tells = λ s n named. boot_tells node base s n }

  is_restart : BootsNode (task_service Restarts)
  is_restart = record { on = refl; keeps = refl; closes = refl; takes = refl; tells = λ s n named. boot_tells node base s n }

  -- what its answer says
  abbrev booted : Service → Shared → ℕ → Node → Choice → Said
  booted e s stops n c = request_said node Boot (service_effect s stops n e c).answer (lines_said (service_effect s stops n e c).lines (at n s))

  pub boot_told : (s : Shared) (stops : ℕ) (n : Node) (rises : Cause → Type 0) (c : Choice) → n.name ≡ node → IsStep n.under_way → ServiceAllowed s stops n (service Boot) rises c →
      at (service_effect s stops n (service Boot) c).node (service_effect s stops n (service Boot) c).shared ≡ booted (service Boot) s stops n c
  boot_told s stops n rises (Whole outturn) named h may = go (refused_before_reading s n e) refl
    where
      e : Service
      e = service Boot

      ready : Node
      ready = ready_node outturn stops e n

      refused_boot : (refusal : Line) (said : Said) → is_refusal refusal ≡ true → request_said node Boot refusal said ≡ said
      refused_boot (line.NormalCount count) said k = let no : ⊥ = cc in absurd no
      refused_boot (line.Broken cause) said k = let no : ⊥ = cc in absurd no
      refused_boot _ said k = refl

      late : (o : Option Line) → e.refused_after_reading s ready ≡ o → at (begun s ready e o).node (begun s ready e o).shared ≡ request_said node Boot (begun s ready e o).answer (lines_said (begun s ready e o).lines (at n s))
      late (Some refusal) is = ap (λ x. View node base x (shared_told s)) (boot_ready outturn stops e n is_boot h) ∙ sym (refused_boot refusal (at n s) ((refuses_then s ready (Serves Boot)).says refusal is))
      late None is = boot_done s stops outturn n e named is_boot h ready refl ∙ ap (λ said. with_up node true (with_use said)) (sym (said_append (lines_of_rows (e.rows s ready)) (prepared_lines ready) (at n s)
          ∙ neutral_lines (prepared_lines ready) (prepared_neutral _) (lines_said (lines_of_rows (e.rows s ready)) (at n s))))

      go : (o : Option Line) → refused_before_reading s n e ≡ o → at (whole s n ready e o).node (whole s n ready e o).shared ≡ request_said node Boot (whole s n ready e o).answer (lines_said (whole s n ready e o).lines (at n s))
      go (Some refusal) is = sym (refused_boot refusal (at n s) ((refuses_first s n (Serves Boot)).says refusal is))
      go None is = late (e.refused_after_reading s ready) refl
  boot_told s stops n rises WithoutMemory named h may = refl
  boot_told s stops n rises Unpowered named h may = boot_dead s stops n (service Boot) named is_boot
  boot_told s stops n rises (Cut outturn done begun cause) named h may = boot_cut s stops outturn n (service Boot) done begun cause named is_boot h (ready_node outturn stops (service Boot) n) refl

  -- where a node may be in use already, using changes nothing
  same_use : (said : Said) → said.shared.in_use ≡ true → with_use said ≡ said
  same_use said e = ap (λ u. record said { shared = record said.shared { in_use = u } }) (sym e)

  pub restart_told : (s : Shared) (stops : ℕ) (n : Node) (rises : Cause → Type 0) (c : Choice) → n.name ≡ node → IsStep n.under_way → s.in_use ≡ true → ServiceAllowed s stops n (task_service Restarts) rises c →
      at (service_effect s stops n (task_service Restarts) c).node (service_effect s stops n (task_service Restarts) c).shared ≡ lines_said (service_effect s stops n (task_service Restarts) c).lines (at n s)
  restart_told s stops n rises (Whole outturn) named h used may = go (refused_before_reading s n e)
    where
      e : Service
      e = task_service Restarts

      ready : Node
      ready = ready_node outturn stops e n

      last : Said → Said
      last said = lines_said (line.Booted ready.name (ready.durable.boot + 1) ∷ []) said

      late : (o : Option Line) → at (begun s ready e o).node (begun s ready e o).shared ≡ lines_said (begun s ready e o).lines (at n s)
      late (Some refusal) = ap (λ x. View node base x (shared_told s)) (boot_ready outturn stops e n is_restart h)
      late None =
          let front = lines_said (lines_of_rows (e.rows s ready)) (at n s) in
          let more : lines_said (prepared_lines ready ++ line.Booted ready.name (ready.durable.boot + 1) ∷ []) front ≡ with_up ready.name true front = said_append (prepared_lines ready) (line.Booted ready.name (ready.durable.boot + 1) ∷ []) front ∙ ap (with_up ready.name true) (neutral_lines (prepared_lines ready) (prepared_neutral _) front) in
          boot_done s stops outturn n e named is_restart h ready refl ∙ ap (with_up node true) (same_use front (used_then (lines_of_rows (e.rows s ready)) (at n s) used))
          ∙ ap (λ name. with_up name true front) (sym (ready_name outturn stops e n ∙ named)) ∙ sym more ∙ sym (said_append (lines_of_rows (e.rows s ready)) (prepared_lines ready ++ line.Booted ready.name (ready.durable.boot + 1) ∷ []) (at n s))

      go : (o : Option Line) → at (whole s n ready e o).node (whole s n ready e o).shared ≡ lines_said (whole s n ready e o).lines (at n s)
      go (Some refusal) = refl
      go None = late (e.refused_after_reading s ready)
  restart_told s stops n rises WithoutMemory named h used may = refl
  restart_told s stops n rises Unpowered named h used may = boot_dead s stops n (task_service Restarts) named is_restart ∙ same_use (lines_said (line.Down n.name Failed ∷ []) (at n s)) used
  restart_told s stops n rises (Cut outturn done begun cause) named h used may =
      let ready = ready_node outturn stops (task_service Restarts) n in
      let lines = (cut s ready (task_service Restarts) (rows_to_cut s ready (task_service Restarts)) done begun cause).lines in
      boot_cut s stops outturn n (task_service Restarts) done begun cause named is_restart h ready refl ∙ same_use (lines_said lines (at n s)) (used_then lines (at n s) used)

  -- An INIT.

  init_dead : (s : Shared) (stops slots blocks : ℕ) (n : Node) → n.name ≡ node →
      at (with_unknown_volume true (unpowered stops n)) (occupied (service (Init slots blocks)) s) ≡ with_unmade node true (lines_said (line.Down n.name Failed ∷ []) (at n s))
  init_dead s stops slots blocks n named =
      ap (View node base (record (node_told n) { up = false; unmade = true })) (calm_use (service (Init slots blocks)) s refl)
      ∙ sym (unmade_view node base true (record (node_told n) { up = false }) (shared_told s) named)
      ∙ ap (with_unmade node true) (sym (up_view node base n.name false (node_told n) (shared_told s) named named))

  pub init_told : (s : Shared) (stops slots blocks : ℕ) (n : Node) (rises : Cause → Type 0) (c : Choice) → n.name ≡ node → IsStep n.under_way → ServiceAllowed s stops n (service (Init slots blocks)) rises c →
      at (service_effect s stops n (service (Init slots blocks)) c).node (service_effect s stops n (service (Init slots blocks)) c).shared
      ≡ request_said node (Init slots blocks) (service_effect s stops n (service (Init slots blocks)) c).answer (lines_said (service_effect s stops n (service (Init slots blocks)) c).lines (at n s))
  init_told s stops slots blocks n rises (Whole outturn) named h may = go (refused_before_reading s n e) refl
    where
      e : Service
      e = service (Init slots blocks)

      refused_init : (refusal : Line) (said : Said) → is_refusal refusal ≡ true → request_said node (Init slots blocks) refusal said ≡ said
      refused_init line.Normal said k = let no : ⊥ = cc in absurd no
      refused_init (line.Broken cause) said k = let no : ⊥ = cc in absurd no
      refused_init _ said k = refl

      go : (o : Option Line) → refused_before_reading s n e ≡ o → at (whole s n (ready_node outturn stops e n) e o).node (whole s n (ready_node outturn stops e n) e o).shared
          ≡ request_said node (Init slots blocks) (whole s n (ready_node outturn stops e n) e o).answer (lines_said (whole s n (ready_node outturn stops e n) e o).lines (at n s))
      go (Some refusal) is = sym (refused_init refusal (at n s) ((refuses_first s n (Serves (Init slots blocks))).says refusal is))
      go None is =
          (λ i. View node base (record (powered_told outturn stops n h i) { unmade = false }) (calm_use e s refl i))
          ∙ sym (unmade_view node base false (node_told n) (shared_told s) named)
  init_told s stops slots blocks n rises WithoutMemory named h may = refl
  init_told s stops slots blocks n rises Unpowered named h may = init_dead s stops slots blocks n named
  init_told s stops slots blocks n rises (Cut outturn done started cause) named h may =
      let e = service (Init slots blocks) in
      let ready = ready_node outturn stops e n in
      let rs = take done (rows_to_cut s ready e) in
      let name = ready_name outturn stops e n in
      let none : rs ≡ [] = take_none done in
      (λ i. View node base (node_told (fallen (act_begun started (drop done (rows_to_cut s ready e))) (node_after_rows (none i) ready))) (shared_told (occupied e (shared_after_rows (none i) s))))
      ∙ (λ i. View node base (record (powered_told outturn stops n h i) { up = false; unmade = true }) (calm_use e s refl i))
      ∙ sym (unmade_view node base true (record (node_told n) { up = false }) (shared_told s) named)
      ∙ ap (with_unmade node true) (sym (up_view node base n.name false (node_told n) (shared_told s) named named) ∙ (λ i. lines_said (lines_of_rows (sym none i) ++ line.Down (sym name i) cause ∷ []) (at n s)))
    where
      take_none : (k : ℕ) → ◌≡◌ {A = List Row} (take k []) []
      take_none zero = refl
      take_none (suc k) = refl

  -- A label that is made.

  label_refused : (request : Request) (refusal : Line) (said : Said) → makes_label request ≡ true → is_refusal refusal ≡ true → request_said node request refusal said ≡ said
  label_refused (StartTrans label seconds) (line.NormalId id) said k h = let no : ⊥ = cc in absurd no
  label_refused (AddBranch label other new) (line.NormalId id) said k h = let no : ⊥ = cc in absurd no
  label_refused (StartTrans label seconds) _ said k h = refl
  label_refused (AddBranch label other new) _ said k h = refl
  label_refused _ refusal said k h = let no : ⊥ = cc in absurd no

  labels_tell : (name other : List ℕ) (l : Label) (todo : List table.Act) (n m : Node) (s : Shared) → l.name ≡ name → l.node ≡ other → node_told m ≡ node_told n →
      at (node_after_rows (table_rows todo (shared_after (Labels l) s) m) m) (shared_after_rows (table_rows todo (shared_after (Labels l) s) m) (shared_after (Labels l) s))
      ≡ with_label name other (lines_said (lines_of_rows (table_rows todo (shared_after (Labels l) s) m)) (at n s))
  labels_tell name other l todo n m s is there same =
      let rs = table_rows todo (shared_after (Labels l) s) m in
      sym (rows_tell node base rs m (shared_after (Labels l) s) (table_tells node base todo (shared_after (Labels l) s) m))
      ∙ (λ i. lines_said (lines_of_rows rs) (View node base (same i) (record (shared_told s) { labels = record { name = is i; node = there i } ∷ map label_told s.labels })))
      ∙ label_lines name other (lines_of_rows rs) (at n s)

  started : (s : Shared) (n : Node) (label : List ℕ) (seconds : Option ℕ) → n.name ≡ node →
      at (succeeded s n (service (StartTrans label seconds))).node (succeeded s n (service (StartTrans label seconds))).shared ≡ with_label label node (lines_said (succeeded s n (service (StartTrans label seconds))).lines (at n s))
  started s n label seconds named =
      let l : Label = record { name = label; node = n.name; tid = next_id n; bid = None; serial = Some (next_id n) } in
      let m = acted (Labels l) (acted Draws n) in
      let todo = row (tm_of m) (starts n label seconds).event in
      let rs = table_rows todo (shared_after (Labels l) s) m in
      ap (View node base (node_told (node_after_rows rs m))) (calm_use (service (StartTrans label seconds)) (shared_after_rows rs (shared_after (Labels l) s)) refl)
      ∙ labels_tell label node l todo n m s refl named refl ∙ ap (λ ls. with_label label node (lines_said ls (at n s))) (sym (append-nil (lines_of_rows rs)))

  added : (s : Shared) (n : Node) (label other new : List ℕ) (b : Branch) → branch_labelled s n label ≡ Some b →
      at (succeeded s n (service (AddBranch label other new))).node (succeeded s n (service (AddBranch label other new))).shared ≡ with_label new other (lines_said (succeeded s n (service (AddBranch label other new))).lines (at n s))
  added s n label other new b found =
      let e = service (AddBranch label other new) in
      let l : Label = record { name = new; node = other; tid = b.key.tid; bid = Some (next_id n); serial = None } in
      let m = acted (Labels l) (acted Draws n) in
      let todo = row (tm_of m) (adds n other new b).event in
      let rs = table_rows todo (shared_after (Labels l) s) m in
      let rows : e.rows s n ≡ silent Draws ∷ silent (Labels l) ∷ rs = rw (found, to_branch) refl in
      (λ i. at (node_after_rows (rows i) n) (occupied e (shared_after_rows (rows i) s)))
      ∙ ap (View node base (node_told (node_after_rows rs m))) (calm_use e (shared_after_rows rs (shared_after (Labels l) s)) refl)
      ∙ labels_tell new other l todo n m s refl refl refl ∙ ap (λ ls. with_label new other (lines_said ls (at n s))) (sym (append-nil (lines_of_rows rs)) ∙ (λ i. lines_of_rows (sym rows i) ++ []))

  -- the branch is there where nothing refuses the request first
  labelled_there : (s : Shared) (n : Node) (label other new : List ℕ) → refused_before_reading s n (service (AddBranch label other new)) ≡ None → (b : Branch) × (branch_labelled s n label ≡ Some b)
  labelled_there s n label other new first = go (branch_labelled s n label) refl (passed _ (in_state is_first_active (branch_labelled s n label)) (last (new_label s new) _ (last (made_label s n label) _ (last (refused_if (not (n.up || (service (AddBranch label other new)).while_down)) line.NodeDown) _ first))))
    where
      passed : (a b : Option Line) → first_of a b ≡ None → a ≡ None
      passed (Some refusal) b e = let no : ⊥ = cc in absurd no
      passed None b e = refl

      last : (a b : Option Line) → first_of a b ≡ None → b ≡ None
      last (Some refusal) b e = let no : ⊥ = cc in absurd no
      last None b e = e

      go : (o : Option Branch) → branch_labelled s n label ≡ o → ◌≡◌ {A = Option Line} (elim o [ Some b ↦ None | None ↦ Some line.NoSuchTransaction ]) None → (b : Branch) × (branch_labelled s n label ≡ Some b)
      go (Some b) found e = (b, found)
      go None found e = let no : ⊥ = cc in absurd no

  -- what a request by which a label is made shows and does
  labels_whole : (s : Shared) (n : Node) (request : Request) → n.name ≡ node → makes_label request ≡ true → (first : Option Line) → refused_before_reading s n (service request) ≡ first →
      at (whole s n n (service request) first).node (whole s n n (service request) first).shared ≡ request_said node request (whole s n n (service request) first).answer (lines_said (whole s n n (service request) first).lines (at n s))
  labels_whole s n request named makes (Some refusal) is = sym (label_refused request refusal (at n s) makes ((refuses_first s n (Serves request)).says refusal is))
  labels_whole s n request named makes None is = late request named makes is ((service request).refused_after_reading s n) refl
    where
      late : (request : Request) → n.name ≡ node → makes_label request ≡ true → refused_before_reading s n (service request) ≡ None → (o : Option Line) → (service request).refused_after_reading s n ≡ o →
          at (begun s n (service request) o).node (begun s n (service request) o).shared ≡ request_said node request (begun s n (service request) o).answer (lines_said (begun s n (service request) o).lines (at n s))
      late request named makes is (Some refusal) k = sym (label_refused request refusal (at n s) makes ((refuses_then s n (Serves request)).says refusal k))
      late (StartTrans label seconds) named makes is None k = started s n label seconds named
      late (AddBranch label other new) named makes is None k = let there = labelled_there s n label other new is in added s n label other new there.0 there.1
      late _ named makes is None k = let no : ⊥ = cc in absurd no

  pub label_told_so : (s : Shared) (stops : ℕ) (n : Node) (request : Request) (rises : Cause → Type 0) (c : Choice) → n.name ≡ node → makes_label request ≡ true → ServiceAllowed s stops n (service request) rises c →
      at (service_effect s stops n (service request) c).node (service_effect s stops n (service request) c).shared ≡ request_said node request (service_effect s stops n (service request) c).answer (lines_said (service_effect s stops n (service request) c).lines (at n s))
  label_told_so s stops n (StartTrans label seconds) rises (Whole outturn) named makes may = labels_whole s n (StartTrans label seconds) named refl (refused_before_reading s n (service (StartTrans label seconds))) refl
  label_told_so s stops n (AddBranch label other new) rises (Whole outturn) named makes may = labels_whole s n (AddBranch label other new) named refl (refused_before_reading s n (service (AddBranch label other new))) refl
  label_told_so s stops n (StartTrans label seconds) rises WithoutMemory named makes may = refl
  label_told_so s stops n (AddBranch label other new) rises WithoutMemory named makes may = refl
  label_told_so s stops n (StartTrans label seconds) rises Unpowered named makes may = let no : false ≡ true = may.1 in absurd (clash _ no refl)
  label_told_so s stops n (AddBranch label other new) rises Unpowered named makes may = let no : false ≡ true = may.1 in absurd (clash _ no refl)
  label_told_so s stops n (StartTrans label seconds) rises (Cut outturn done begun cause) named makes may = let no : false ≡ true = may.1 in absurd (clash _ no refl)
  label_told_so s stops n (AddBranch label other new) rises (Cut outturn done begun cause) named makes may = let no : false ≡ true = may.1 in absurd (clash _ no refl)
  label_told_so s stops n _ rises c named makes may = let no : ⊥ = cc in absurd no
