-- The last settlement of a disk, where it is of one branch, is one of this run.
use Rattle.std.proofs.Common.{◌≡◌, ℕ, List, inl, false, Option, Some, None, refl, sym, subst}
use Rattle.vms_model.specs.Ids.{Id}
use Rattle.unit_laws.specs.Units.{Map}
use Rattle.commit_protocol.specs.Table as table
use Rattle.commit_protocol.specs.Table.{Settles, Undoes}
use Rattle.commit_protocol.specs.World.{In}
use Rattle.run_said.specs.run_model.World as world
use Rattle.run_said.specs.run_model.World.{Node, Act, Directs, Formats, Settlement, Tables, aborted_prepared, acted, with_half}
use Rattle.run_said.specs.run_model.Steps.{node_after}
use Rattle.run_laws.proofs.Keeping.{Keeps, Scheme, closes_plain}
use Rattle.recovery_laws.proofs.world_laws.FindLemmas.{some_is}

module _ (x : Id) where
  abbrev pub IsOwn : Option Settlement → List Settlement → Type 0
  IsOwn last ss = (s : Settlement) → last ≡ Some s → s.serial ≡ x → In s ss

  abbrev pub lasting : Scheme
  lasting = record {
    Told = Unit {0};
    more = λ ls a. a;
    Up = λ free a n. IsOwn n.durable.last n.settled;
    Disk = λ a n. IsOwn n.durable.last n.settled;
    Boots = λ a n. IsOwn n.durable.last n.settled;
    Ready = λ n. Unit {0};
    Takes = λ o. Unit {0};
    special = λ r. false;
  }

  acted_own : (act : Act) (n : Node) → IsOwn n.durable.last n.settled → IsOwn (acted act n).durable.last (acted act n).settled
  acted_own (Tables a moment) n h = go a
    where
      go : (a : table.Act) → IsOwn (acted (Tables a moment) n).durable.last (acted (Tables a moment) n).settled
      go (Settles k o reason r) = λ s e same. inl (sym (some_is _ s e))
      go (Undoes k) = λ s e same. inl (sym (some_is _ s e))
      go _ = h
  acted_own (Directs file cs t) n h = λ s e same. inl (sym (some_is _ s e))
  acted_own (Formats slots journal) n h = λ s e same. let no : ⊥ = cc in absurd no
  acted_own _ n h = h

  after_own : (o : Option Act) (n : Node) → IsOwn n.durable.last n.settled → IsOwn (node_after o n).durable.last (node_after o n).settled
  after_own None n h = h
  after_own (Some act) n h = acted_own act n h

  half_own : (o : Option Id) (standing : List ℕ → Map) (d : world.Durable) (ss : List Settlement) → IsOwn d.last ss → IsOwn (with_half o standing d).last ss
  half_own None standing d ss h = h
  half_own (Some serial) standing d ss h = h

  pub lasting_keeps : Keeps lasting
  lasting_keeps = record {
    none = λ a. refl;
    append = λ xs ys a. refl;
    plain = λ ls a h v. refl;
    closes = closes_plain lasting (λ ls a h. refl);
    same = λ a n m name durable settled h. subst (λ (d : world.Durable). IsOwn d.last m.settled) (sym durable) (subst (IsOwn n.durable.last) (sym settled) h);
    row = λ free r n a q f up h. after_own r.act n h;
    under = λ free r n a act q f is d up h. acted_own act n h;
    falls = λ free a n up h. h;
    weaken = λ free a n h. h;
    half = λ a n standing k ready may h. half_own (aborted_prepared n.under_way n.durable) standing n.durable n.settled h;
    spoils = λ a n h. h;
    boots = λ a n k h. h;
    booting = λ a n k h. h;
    undoes = λ a n u next h. acted_own (Tables (Undoes (Rattle.run_said.specs.run_model.Answers.unit_key u)) (world.next_moment n)) n h;
    undoing = λ a n u next h. acted_own (Tables (Undoes (Rattle.run_said.specs.run_model.Answers.unit_key u)) (world.next_moment n)) n h;
    rests = λ a n k h. h;
    none_ready = λ n e. tt;
    same_ready = λ n m e h. tt;
    comes = λ a n up h closed. h;
  }
