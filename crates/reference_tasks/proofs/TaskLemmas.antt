-- Tasks besides requests.
use Rattle.std.proofs.Common.{◌≡◌, ℕ, ◌+◌, List, [], ◌∷◌, ◌++◌, append_assoc, Bool, true, false, Some, None, refl, sym, ap, ◌∙◌, map}
use Rattle.std.specs.Prelude.{not, ◌||◌}
use Rattle.reference_index.specs.transcript_model.Lines as line
use Rattle.log_laws.specs.commit_protocol.Messages.{Message}
use Rattle.log_laws.specs.commit_protocol.Rows.{Event, Clock, Got, LinkDown, RunDown}
use Rattle.reference_index.specs.run_model.Answers as answers
use Rattle.reference_index.specs.run_model.Answers.{Restarts, Service, boot_rows, bootable, occupies, outcome_told, prepared_lines, refused_before_reading, task_service}
use Rattle.reference_index.specs.run_model.Operations.{first_of, refused_if}
use Rattle.reference_index.specs.run_model.Steps.{lines_of_rows, node_after, node_after_rows, occupied, ready_node, shared_after_rows, shared_then}
use Rattle.reference_index.specs.run_model.World.{Boots, Lost, Node, Shared, acted, powered}
use Rattle.reference_world.specs.Standing.{line_of}
use Rattle.reference_world.specs.declared.line.Line.{Line}
use Rattle.reference_tasks.specs.Tasks.{IsTelling, Performs}
use Rattle.reference_node.specs.Telling.{AppliesEvent, Restarts as HasRestarted}
use Rattle.reference_tasks.specs.declared.tasks.TaskShown.{TaskShown}
use Rattle.reference_node.proofs.BootLemmas.{undone_shares}
use Rattle.reference_tasks.proofs.ServeLemmas.{ready_still}

-- a task that is refused before the disk is read
pub refused_early : (s : Shared) (n : Node) (e : Service) (shown : TaskShown) (refusal : line.Line) → refused_before_reading s n e ≡ Some refusal → shown.lines.items ≡ [] → line_of shown.answer ≡ refusal → shown.ends ≡ true → Performs s n e shown n s
refused_early s n e shown refusal refuses lines answer ends = record { lines = rw refuses (ap (map line_of) lines); answer = rw refuses answer; ends = rw refuses ends; node = rw refuses refl; shared = rw refuses refl }

pub refused_late : (s : Shared) (n o : Node) (e : Service) (shown : TaskShown) (refusal : line.Line) → refused_before_reading s n e ≡ None → o ≡ ready_node Lost 0 e n → e.refused_after_reading s o ≡ Some refusal →
    shown.lines.items ≡ [] → line_of shown.answer ≡ refusal → shown.ends ≡ true → Performs s n e shown o s
refused_late s n o e shown refusal allowed readied refuses lines answer ends =
    let late : e.refused_after_reading s (ready_node Lost 0 e n) ≡ Some refusal = ap (e.refused_after_reading s) (sym readied) ∙ refuses in
    record { lines = rw (allowed, late) (ap (map line_of) lines); answer = rw (allowed, late) answer; ends = rw (allowed, late) ends; node = rw (allowed, late) readied; shared = rw (allowed, late) refl }

pub succeeds : (s t : Shared) (n o m : Node) (e : Service) (shown : TaskShown) → refused_before_reading s n e ≡ None → o ≡ ready_node Lost 0 e n → e.refused_after_reading s o ≡ None →
    map line_of shown.lines.items ≡ lines_of_rows (e.rows s o) ++ e.closing_lines o → line_of shown.answer ≡ e.answer s o → shown.ends ≡ false → m ≡ node_after e.closing (node_after_rows (e.rows s o) o) →
    t ≡ occupied e (shared_then e.closing (shared_after_rows (e.rows s o) s)) → Performs s n e shown m t
succeeds s t n o m e shown allowed readied refuses lines answer ends node shared =
    let ready = ready_node Lost 0 e n in
    let late : e.refused_after_reading s ready ≡ None = ap (e.refused_after_reading s) (sym readied) ∙ refuses in
    record {
      lines = rw (allowed, late) (lines ∙ ap (λ x. lines_of_rows (e.rows s x) ++ e.closing_lines x) readied);
      answer = rw (allowed, late) (answer ∙ ap (e.answer s) readied);
      ends = rw (allowed, late) ends;
      node = rw (allowed, late) (node ∙ ap (λ x. node_after e.closing (node_after_rows (e.rows s x) x)) readied);
      shared = rw (allowed, late) (shared ∙ ap (λ x. occupied e (shared_then e.closing (shared_after_rows (e.rows s x) s))) readied);
    }

-- A task that tells the table an event.

pub told_down : (s : Shared) (n : Node) (event : Event) (before : List line.Line) (e : Service) (shown : TaskShown) → IsTelling event before n e → n.up ≡ false → shown.lines.items ≡ [] → line_of shown.answer ≡ line.NodeDown → shown.ends ≡ true → Performs s n e shown n s
told_down s n event before e shown is down lines answer ends = refused_early s n e shown line.NodeDown (is.down s down) lines answer ends

not_more : (b : Bool) → (b || false) ≡ b
not_more true = refl
not_more false = refl

no_more : (xs : List line.Line) → xs ++ [] ≡ xs
no_more [] = refl
no_more (x ∷ xs) = ap (λ ys. x ∷ ys) (no_more xs)

pub told_up : (s t : Shared) (n m : Node) (event : Event) (before : List line.Line) (e : Service) (told : List Line) (shown : TaskShown) → IsTelling event before n e → n.up ≡ true → AppliesEvent event s n told t m →
    map line_of shown.lines.items ≡ before ++ map line_of told → line_of shown.answer ≡ line.Normal → shown.ends ≡ false → Performs s n e shown m t
told_up s t n m event before e told shown is up tells lines answer ends =
    let unoccupied : (u : Shared) → occupied e u ≡ u = λ u. ap (λ b. (let v : Shared = record u { in_use = u.in_use || b } in v)) is.occupies ∙ ap (λ b. (let v : Shared = record u { in_use = b } in v)) (not_more u.in_use) in
    succeeds s t n n m e shown (is.up s up) (sym (ready_still e n is.powers)) (is.late s)
    (lines ∙ ap (λ ls. before ++ ls) tells.shows ∙ sym (is.shows s) ∙ sym (no_more (lines_of_rows (e.rows s n))) ∙ ap (λ ls. lines_of_rows (e.rows s n) ++ ls) (sym is.closing_lines))
    (answer ∙ sym (is.answer s)) ends
    (tells.node ∙ sym (is.node s) ∙ ap (λ c. node_after c (node_after_rows (e.rows s n) n)) (sym is.closing))
    (tells.shared ∙ sym (is.shared s) ∙ ap (λ c. shared_then c (shared_after_rows (e.rows s n) s)) (sym is.closing) ∙ sym (unoccupied (shared_then e.closing (shared_after_rows (e.rows s n) s))))

down_at : (n : Node) → n.up ≡ false → first_of (refused_if (not (n.up || false)) line.NodeDown) None ≡ Some line.NodeDown
down_at n down = ap (λ b. first_of (refused_if (not (b || false)) line.NodeDown) None) down

up_at : (n : Node) → n.up ≡ true → first_of (refused_if (not (n.up || false)) line.NodeDown) None ≡ None
up_at n up = ap (λ b. first_of (refused_if (not (b || false)) line.NodeDown) None) up

pub tick_tells : (n : Node) → IsTelling (Clock n.clock) [] n (task_service answers.Ticks)
tick_tells n = record { powers = refl; occupies = refl; down = λ s d. down_at n d; up = λ s u. up_at n u; late = λ s. refl; closing = refl; closing_lines = refl; answer = λ s. refl; shows = λ s. refl; node = λ s. refl; shared = λ s. refl }

pub take_tells : (m : Message) (n : Node) → IsTelling (Got m) [] n (task_service (answers.Takes m))
take_tells m n = record { powers = refl; occupies = refl; down = λ s d. down_at n d; up = λ s u. up_at n u; late = λ s. refl; closing = refl; closing_lines = refl; answer = λ s. refl; shows = λ s. refl; node = λ s. refl; shared = λ s. refl }

pub hear_tells : (m : Message) (n : Node) → IsTelling (Got m) (line.Asked m.tid m.serial (outcome_told m.kind) ∷ []) n (task_service (answers.Hears m))
hear_tells m n = record { powers = refl; occupies = refl; down = λ s d. down_at n d; up = λ s u. up_at n u; late = λ s. refl; closing = refl; closing_lines = refl; answer = λ s. refl; shows = λ s. refl; node = λ s. refl; shared = λ s. refl }

pub link_tells : (other : List ℕ) (n : Node) → IsTelling (LinkDown other) [] n (task_service (answers.LosesLink other))
link_tells other n = record { powers = refl; occupies = refl; down = λ s d. down_at n d; up = λ s u. up_at n u; late = λ s. refl; closing = refl; closing_lines = refl; answer = λ s. refl; shows = λ s. refl; node = λ s. refl; shared = λ s. refl }

pub run_down_tells : (n : Node) → IsTelling RunDown [] n (task_service answers.RunsDown)
run_down_tells n = record { powers = refl; occupies = refl; down = λ s d. down_at n d; up = λ s u. up_at n u; late = λ s. refl; closing = refl; closing_lines = refl; answer = λ s. refl; shows = λ s. refl; node = λ s. refl; shared = λ s. refl }

-- A restart.

pub restart_early : (s : Shared) (n : Node) → refused_before_reading s n (task_service Restarts) ≡ (task_service Restarts).refused_before_reading s n
restart_early s n = go n.up
  where
    go : (b : Bool) → first_of (refused_if (not (b || true)) line.NodeDown) ((task_service Restarts).refused_before_reading s n) ≡ (task_service Restarts).refused_before_reading s n
    go true = refl
    go false = refl

boot_shares : (s : Shared) (n : Node) → shared_after_rows (boot_rows s n) s ≡ s
boot_shares s n = undone_shares (map answers.unit_key (answers.left_active n)) s (acted Boots n)

or_true : (b : Bool) → (b || true) ≡ true
or_true true = refl
or_true false = refl

pub has_restarted : (s t : Shared) (n o m : Node) (shown : TaskShown) (lines : List Line) → refused_before_reading s n (task_service Restarts) ≡ None → o ≡ powered Lost 0 n → bootable o ≡ None → HasRestarted s o lines m →
    map line_of shown.lines.items ≡ map line_of lines ++ line.Booted o.name (o.durable.boot + 1) ∷ [] → line_of shown.answer ≡ line.Normal → shown.ends ≡ false → t ≡ record s { in_use = true } → Performs s n (task_service Restarts) shown m t
has_restarted s t n o m shown lines allowed readied refuses restarts shows answer ends used =
    succeeds s t n o m (task_service Restarts) shown allowed readied refuses
    (shows ∙ ap (λ ls. ls ++ line.Booted o.name (o.durable.boot + 1) ∷ []) restarts.shows ∙ append_assoc (lines_of_rows (boot_rows s o)) (prepared_lines o) (line.Booted o.name (o.durable.boot + 1) ∷ []))
    answer ends restarts.node
    (used ∙ sym (ap (λ u. occupied (task_service Restarts) u) (boot_shares s o) ∙ ap (λ b. (let u : Shared = record s { in_use = b } in u)) (or_true s.in_use)))
