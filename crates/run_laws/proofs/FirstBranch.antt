-- The first branch of a transaction is never prepared.
use Rattle.std.proofs.Common.{◌≡◌, List, [], ◌∷◌, ◌++◌, true, false, Option, Some, refl, sym, ◌∙◌, ap, subst}
use Rattle.vms_model.specs.Ids.{Id}
use Rattle.run_said.specs.script_model.Statements.{EndBranch, AckEvent}
use Rattle.run_said.specs.script_model.Grammar.{reading}
use Rattle.commit_protocol.specs.Messages.{Message}
use Rattle.commit_protocol.specs.Table.{Branch, Key as BranchKey, Prepares}
use Rattle.commit_protocol.specs.Rows as rows
use Rattle.commit_protocol.specs.Rows.{Event, row}
use Rattle.commit_protocol.specs.Allowed.{is_prepared}
use Rattle.commit_protocol.specs.World.{In}
use Rattle.run_said.specs.run_model.World.{World, Shared, Node, Act, DiskCounts, Tables, opened}
use Rattle.run_said.specs.run_model.Answers.{Row, Task, Serves, Ticks, Takes, Hears, LosesLink, RunsDown, Restarts, powers, task_service}
use Rattle.run_said.specs.run_model.Transcript.{Entry, Legal, AreOpening}
use Rattle.run_laws.proofs.Contents.{IsTold}
use Rattle.run_laws.proofs.Keeping.{AllTake, Kept}
use Rattle.run_laws.proofs.Leading.{taken}
use Rattle.run_laws.proofs.OneBranch.{one, one_keeps}
use Rattle.run_laws.proofs.Paths.{IsOn, turn_on}
use Rattle.run_laws.proofs.Casting.{AllCast, CastsIn, TaskCasts, task_casts, thin_casts}
use Rattle.run_laws.proofs.Preparing.{PreparesBy, is_leading}
use Rattle.run_laws.proofs.Told.{IsApart}
use Rattle.run_laws.proofs.ToldParts.{IsThinning}
use Rattle.run_laws.proofs.ToldRuns.{legal_apart, legal_are_told}

module _ (x : Id) where
  -- what is known of it: it is of its own transaction, is not prepared, and is committed as the first one
  abbrev pub first : Rattle.run_laws.proofs.Keeping.Scheme
  first = one x (λ t. t ≡ x) (λ t. ⊥) (λ s. s.tid ≡ x)

  abbrev pub first_keeps : Rattle.run_laws.proofs.Keeping.Keeps (one x (λ t. t ≡ x) (λ t. ⊥) (λ s. s.tid ≡ x))
  first_keeps = one_keeps x (λ t. t ≡ x) (λ t. ⊥) (λ s. s.tid ≡ x) (λ t p. absurd p) (λ s e h. h)

  abbrev pub IsFirst : World → Type 0
  IsFirst w = IsOn first first_keeps x.node tt (λ ls. refl) (λ n. tt) w

  -- Rows by which no first branch is prepared.

  takes_of : (R : Branch → Type 0) (rs : List Row) → AllCast R rs → ((b : Branch) → R b → b.key.serial ≡ b.key.tid → ⊥) → AllTake first rs
  takes_of R [] h f = tt
  takes_of R (r ∷ rs) h f = (one_act r.act h.0, takes_of R rs h.1 f)
    where
      one_act : (o : Option Act) → CastsIn R o → first.Takes o
      one_act (Some (Tables (Prepares b) moment)) q = λ e t. f b q (e ∙ sym t)
      one_act _ q = tt

  -- what is prepared comes of a first branch where it is one
  comes_first : (n : Node) (e : Event) (b : Branch) → (q : PreparesBy n.volatile.branches e b) → b.key.serial ≡ b.key.tid → (q.0).key.serial ≡ (q.0).key.tid
  comes_first n e b q same = ap (λ (k : BranchKey). k.serial) (sym q.3) ∙ same ∙ ap (λ (k : BranchKey). k.tid) q.3

  -- no first branch was asked, and none is by the message that the node is told
  module _ (s : Shared) (n : Node) (unasked : (b : Branch) → In b n.volatile.branches → is_prepared b.state ≡ false → b.asked ≡ true → b.key.serial ≡ b.key.tid → ⊥) where
    message_casts : (m : Message) → IsApart m → (b : Branch) → PreparesBy n.volatile.branches (rows.Got m) b → b.key.serial ≡ b.key.tid → ⊥
    message_casts m apart b q same = apart (ap is_leading q.4.0) (ap (λ (k : BranchKey). k.serial) q.4.1 ∙ comes_first n (rows.Got m) b q same ∙ ap (λ (k : BranchKey). k.tid) (sym q.4.1))

    none_first : (t : Task) → ((m : Message) → IsTold s n t (rows.Got m) → IsApart m) → (b : Branch) → TaskCasts s n t b → b.key.serial ≡ b.key.tid → ⊥
    none_first (Serves (EndBranch label)) apart b (c, is, q) same = unasked q.0 q.1 q.2 q.4.0 (comes_first n (rows.EndBranch c.key.serial) b q same)
    none_first (Serves (AckEvent who rm reply)) apart b (serial, is, q) same = unasked q.0 q.1 q.2 q.4.0 (comes_first n (rows.Replied serial rm reply) b q same)
    none_first (Serves _) apart b q same = q
    none_first (Takes m) apart b q same = message_casts m (apart m refl) b q same
    none_first (Hears m) apart b q same = message_casts m (apart m refl) b q same
    none_first Ticks apart b q same = q
    none_first (LosesLink other) apart b q same = q
    none_first RunsDown apart b q same = q
    none_first Restarts apart b q same = q

    task_takes : (t : Task) → ((m : Message) → IsTold s n t (rows.Got m) → IsApart m) → powers (task_service t) ≡ false → AllTake first ((task_service t).rows s n)
    task_takes t apart off = takes_of (TaskCasts s n t) ((task_service t).rows s n) (task_casts s n t) (none_first t apart)

  -- a sweep and an answer prepare none
  pub thin_takes : (s : Shared) (n : Node) (t : Task) → IsThinning t → AllTake first ((task_service t).rows s n)
  thin_takes s n t h = takes_of (TaskCasts s n t) ((task_service t).rows s n) (task_casts s n t) (λ b q same. thin_casts s n t h b q)

  -- Runs.

  -- from a world in which it is known on, it stays so
  pub first_on : (nodes : List Node) (disks : List DiskCounts) (opening : AreOpening nodes) (before after : List Entry) (w v : World) → Legal (opened nodes disks) before w → Legal w after v → IsFirst w → IsFirst v
  first_on nodes disks opening before [] w v legal path h = subst IsFirst (sym path) h
  first_on nodes disks opening before (e ∷ after) w v legal path h =
      let mid = path.0 in
      let all = on_path before after w mid legal path.1 in
      let told = legal_are_told nodes disks (after ++ before) mid opening all in
      let apart = legal_apart nodes disks (after ++ before) mid opening all in
      turn_on first first_keeps x.node tt (λ ls. refl) (λ n. tt) thin_takes (λ s n now. (tt, tt)) mid v (reading e.source.text) e.lines
      (λ s is task n named found off. task_takes mid.shared n (λ b i u. (told.told x.node n found b i u).unasked) task (λ m t. apart m (taken mid s x.node n task m named t)) off) path.2
      (first_on nodes disks opening before after w mid legal path.1 h)
    where
      on_path : (before after : List Entry) (w u : World) → Legal (opened nodes disks) before w → Legal w after u → Legal (opened nodes disks) (after ++ before) u
      on_path before [] w u legal path = subst (Legal (opened nodes disks) before) (sym path) legal
      on_path before (e ∷ after) w u legal path = (path.0, on_path before after w path.0 legal path.1, path.2)
