-- What is known of a branch whose abort a fall found under way.
use Rattle.std.proofs.Common.{◌≡◌, ℕ, List, [], inl, inr, true, false, Option, Some, None, refl, sym, ◌∙◌, ap, subst}
use Rattle.std.proofs.lemmas.Bool.{both_ways, cases_Bool}
use Rattle.vms_model.specs.Ids.{Id}
use Rattle.vms_model.specs.Transactions.{Outcome, Commit, Abort, Reason}
use Rattle.commit_protocol.specs.Messages.{LogRecord}
use Rattle.commit_protocol.specs.Table.{Key as BranchKey}
use Rattle.commit_protocol.specs.World.{In}
use Rattle.run_said.specs.log_laws.Slots.{prepared_of, records_in}
use Rattle.run_said.specs.run_model.World.{World, Node, Act, Settlement, acted, find_node, settlement}
use Rattle.run_said.specs.run_model.Transcript.{Entry, Legal}
use Rattle.run_said.proofs.run_model.NodeLists.{found_name, some_is}
use Rattle.run_laws.specs.Promises.{IsNeverCommitted, settlements_of}
use Rattle.run_laws.proofs.Falling.{NoRecord, RecordsOf, aborting}
use Rattle.run_laws.proofs.Keeping.{Kept}
use Rattle.run_laws.proofs.Once.{IsOnceDisk}
use Rattle.run_laws.proofs.OneBranch as branch
use Rattle.run_laws.proofs.OneBranch.{one, one_keeps}
use Rattle.run_laws.proofs.Paths.{IsOn, path_on}
use Rattle.run_laws.proofs.SoundWorlds.{IsSound}

-- Of a branch x, which may be of these transactions, prepared or not: each commitment is so, along each run.
module _ (x : Id) (K : Id → Type 0) (C : Settlement → Type 0) (settles : (s : Settlement) → s.serial ≡ x → K s.tid → C s) where
  abbrev pub Known : World → Type 0
  Known w = IsOn (one x K K C) (one_keeps x K K C (λ t p. p) settles) x.node tt (λ ls. refl) (λ n. tt) w

  pub known_on : (w v : World) (es : List Entry) → Legal w es v → Known w → Known v
  known_on w v es legal h = path_on (one x K K C) (one_keeps x K K C (λ t p. p) settles) x.node tt (λ ls. refl) (λ n. tt) all w v es legal h
    where
      all : (o : Option Act) → (one x K K C).Takes o
      all (Some (Rattle.run_said.specs.run_model.World.Tables (Rattle.commit_protocol.specs.Table.Prepares b) moment)) = λ e h. h
      all (Some (Rattle.run_said.specs.run_model.World.Tables _ moment)) = tt
      all (Some _) = tt
      all None = tt

  pub commits_so : (v : World) → Known v → (s : Settlement) → In s (settlements_of x.node v) → s.serial ≡ x → s.outcome ≡ Commit → C s
  commits_so v h s i e c = go (find_node x.node v.nodes) refl i
    where
      go : (o : Option Node) → find_node x.node v.nodes ≡ o → In s (elim o as (λ y. List Settlement) [ Some n ↦ n.settled | None ↦ [] ]) → C s
      go (Some n) found j = (h.tracked n found).disk.commits s j e c
      go None found j = absurd j

-- where it is never committed
pub never_of : (x : Id) (v : World) → ((s : Settlement) → In s (settlements_of x.node v) → s.serial ≡ x → s.outcome ≡ Commit → ⊥) → IsNeverCommitted x v
never_of x v h s i e = go s.outcome refl
  where
    go : (o : Outcome) → s.outcome ≡ o → s.outcome ≡ Abort
    go Abort is = is
    go Commit is = absurd (h s i e is)

-- A node at which an abort is under way.
module _ (w : World) (sound : IsSound w) (node : List ℕ) (n : Node) (found : find_node node w.nodes ≡ Some n) (k : BranchKey) (reason : Reason) (r : Option LogRecord) (moment : ℕ) (under : n.under_way ≡ Some (aborting k reason r moment)) where
  abbrev act : Act
  act = aborting k reason r moment

  abbrev s_here : Settlement
  s_here = settlement k Abort reason moment

  landed : IsOnceDisk (acted act n).name (acted act n).durable (acted act n).settled
  landed = (sound.once node n found).way act under

  pub home : k.serial.node ≡ node
  home = (landed.own s_here (inl refl)).0 ∙ found_name node w.nodes n found

  pub used : w.shared.in_use ≡ true
  used = elim (cases_Bool w.shared.in_use) [
    | inl on ↦ on
    | inr off ↦ (let clash : ◌≡◌ {A = Option Act} None (Some act) = sym ((sound.kept node n found).unused off).1 ∙ under in let no : ⊥ = cc in absurd no)
  ]

  pub down : n.up ≡ false
  down = ((sound.kept node n found).way act under).2

  none_settled : (s : Settlement) → In s n.settled → s.serial ≡ k.serial → ⊥
  none_settled s i e = landed.once.0 s i e

  module _ (K : Id → Type 0) (C : Settlement → Type 0) (settles : (s : Settlement) → s.serial ≡ k.serial → K s.tid → C s) (recorded : (q : LogRecord) → In q (prepared_of (records_in n.durable.log)) → q.serial ≡ k.serial → K q.tid) where
    pub is_known : Known k.serial K C settles w
    is_known = record { sound = sound; used = used; tracked = λ m is. subst (Kept (one k.serial K K C) (one_keeps k.serial K K C (λ t p. p) settles) tt) (some_is n m (sym found ∙ subst (λ y. find_node y w.nodes ≡ Some m) home is)) here }
      where
        way : (a : Act) → n.under_way ≡ Some a → branch.IsDisk k.serial K K C (acted a n).name (acted a n).durable (acted a n).settled
        way a e = subst (λ b. branch.IsDisk k.serial K K C (acted b n).name (acted b n).durable (acted b n).settled) (some_is act a (sym under ∙ e)) (record {
          of = landed.own s_here (inl refl);
          prepared = λ q i same. absurd (landed.prepared s_here q (inl refl) i same);
          commits = λ s i same c. elim i [
            | inl is ↦ (let clash : Abort ≡ Commit = sym (ap (λ (y : Settlement). y.outcome) is) ∙ c in let no : ⊥ = cc in absurd no)
            | inr j ↦ absurd (none_settled s j same)
          ];
        })

        here : Kept (one k.serial K K C) (one_keeps k.serial K K C (λ t p. p) settles) tt n
        here = record {
          disk = record { of = landed.own s_here (inl refl); prepared = recorded; commits = λ s i same c. absurd (none_settled s i same) };
          way = way;
          runs = λ up. absurd (both_ways n.up down up);
        }

  -- A branch without a prepared record is never committed.
  pub gone : NoRecord n k.serial → (es : List Entry) (v : World) → Legal w es v → IsNeverCommitted k.serial v
  gone none es v legal = never_of k.serial v (λ s i e c. commits_so k.serial (λ t. ⊥) (λ y. ⊥) (λ y q p. p) v (known_on k.serial (λ t. ⊥) (λ y. ⊥) (λ y q p. p) w v es legal (is_known (λ t. ⊥) (λ y. ⊥) (λ y q p. p) none)) s i e c)

  -- And one with records of its transaction is committed only of that.
  pub of_its : RecordsOf n k → (es : List Entry) (v : World) → Legal w es v → (s : Settlement) → In s (settlements_of k.serial.node v) → s.serial ≡ k.serial → s.outcome ≡ Commit → s.tid ≡ k.tid
  of_its records es v legal s i e c = commits_so k.serial (λ t. t ≡ k.tid) (λ y. y.tid ≡ k.tid) (λ y q p. p) v (known_on k.serial (λ t. t ≡ k.tid) (λ y. y.tid ≡ k.tid) (λ y q p. p) w v es legal (is_known (λ t. t ≡ k.tid) (λ y. y.tid ≡ k.tid) (λ y q p. p) records)) s i e c
