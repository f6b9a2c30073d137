-- A disk that has a last settlement has one from then on.
use Rattle.std.proofs.Common.{◌≡◌, ℕ, List, inl, inr, Bool, false, Option, Some, None, refl, sym, subst}
use Rattle.vms_model.specs.Ids.{Id}
use Rattle.vms_model.specs.Transactions.{Outcome, Commit, Abort, Reason, SegFail}
use Rattle.unit_laws.specs.Units.{Map}
use Rattle.commit_protocol.specs.Table as table
use Rattle.commit_protocol.specs.Table.{Key as BranchKey, Settles, Undoes}
use Rattle.run_said.specs.run_model.World as world
use Rattle.run_said.specs.run_model.World.{Node, Act, Directs, Formats, Settlement, Tables, aborted_prepared, acted, is_durable, next_moment, settlement, with_half}
use Rattle.run_said.specs.run_model.Answers.{unit_key}
use Rattle.run_said.specs.run_model.Steps.{node_after}
use Rattle.run_laws.proofs.AllShown.{IsFormed}
use Rattle.run_laws.proofs.Keeping.{Keeps, Scheme, closes_plain}
use Rattle.run_laws.proofs.RowFits.{Fits}

-- one that is told as it is
abbrev pub HasLast : Option Settlement → Type 0
HasLast last = (s : Settlement) × (last ≡ Some s) × IsFormed s

abbrev pub lasted : Scheme
lasted = record {
  Told = Unit {0};
  more = λ ls a. a;
  Up = λ free a n. HasLast n.durable.last;
  Disk = λ a n. HasLast n.durable.last;
  Boots = λ a n. HasLast n.durable.last;
  Ready = λ n. Unit {0};
  Takes = λ o. Unit {0};
  special = λ r. false;
}

formed : (k : BranchKey) (o : Outcome) (reason : Reason) (moment : ℕ) → IsFormed (settlement k o reason moment)
formed k Commit reason moment = inl refl
formed k Abort reason moment = inr (reason, refl)

acted_last : (free : Bool) (act : Act) (n : Node) → Fits free (Some act) n → HasLast n.durable.last → HasLast (acted act n).durable.last
acted_last free (Tables a moment) n f h = go a
  where
    go : (a : table.Act) → HasLast (acted (Tables a moment) n).durable.last
    go (Settles k o reason r) = (settlement k o reason moment, refl, formed k o reason moment)
    go (Undoes k) = (settlement k Abort SegFail moment, refl, formed k Abort SegFail moment)
    go _ = h
acted_last free (Directs file cs s) n f h = (s, refl, subst IsFormed (sym f) (inl refl))
acted_last free (Formats slots journal) n f h = absurd f
acted_last free _ n f h = h

after_last : (free : Bool) (o : Option Act) (n : Node) → Fits free o n → HasLast n.durable.last → HasLast (node_after o n).durable.last
after_last free None n f h = h
after_last free (Some act) n f h = acted_last free act n f h

half_last : (o : Option Id) (standing : List ℕ → Map) (d : world.Durable) → HasLast d.last → HasLast (with_half o standing d).last
half_last None standing d h = h
half_last (Some serial) standing d h = h

pub lasted_keeps : Keeps lasted
lasted_keeps = record {
  none = λ a. refl;
  append = λ xs ys a. refl;
  plain = λ ls a h v. refl;
  closes = closes_plain lasted (λ ls a h. refl);
  same = λ a n m name durable settled h. subst (λ (d : world.Durable). HasLast d.last) (sym durable) h;
  row = λ free r n a q f up h. after_last free r.act n f.fits h;
  under = λ free r n a act q f is d up h. acted_last free act n (subst (λ o. Fits free o n) is f.fits) h;
  falls = λ free a n up h. h;
  weaken = λ free a n h. h;
  half = λ a n standing k ready may h. half_last (aborted_prepared n.under_way n.durable) standing n.durable h;
  spoils = λ a n h. h;
  boots = λ a n k h. h;
  booting = λ a n k h. h;
  undoes = λ a n u next h. (settlement (unit_key u) Abort SegFail (next_moment n), refl, formed (unit_key u) Abort SegFail (next_moment n));
  undoing = λ a n u next h. (settlement (unit_key u) Abort SegFail (next_moment n), refl, formed (unit_key u) Abort SegFail (next_moment n));
  rests = λ a n k h. h;
  none_ready = λ n e. tt;
  same_ready = λ n m e h. tt;
  comes = λ a n up h closed. h;
}
