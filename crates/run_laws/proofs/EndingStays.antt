-- What is known of a first branch that is ending, over all restarts: while its node is up it is ending or gone, and no boot finds it prepared.
use Rattle.std.proofs.Common.{◌≡◌, ◌<◌, ℕ, List, [], ◌∷◌, ◌++◌, inl, inr, Bool, true, false, Option, Some, None, refl, sym, ◌∙◌, ap, subst, arith}
use Rattle.vms_model.specs.Ids.{Id}
use Rattle.run_said.specs.transcript_model.Lines.{Line}
use Rattle.unit_laws.specs.Units.{Map}
use Rattle.unit_laws.specs.Journal.{RecoveryUnit}
use Rattle.commit_protocol.specs.Messages.{LogRecord}
use Rattle.commit_protocol.specs.Table as table
use Rattle.commit_protocol.specs.Table.{Branch, Ending, Key as BranchKey, Prepared, Accepts, Acknowledges, Leaves, Notes, Prepares, Prints, Releases, Sends, Settles, Undoes, put}
use Rattle.commit_protocol.specs.World.{In}
use Rattle.run_said.specs.log_laws.Slots.{prepared_of, records_in}
use Rattle.run_said.specs.run_model.World as world
use Rattle.run_said.specs.run_model.World.{Node, Durable, Act, Arms, Boots, Changes, Clocks, ComesUp, Creates, Directs, Draws, Falls, Formats, Holds, Labels, Marks, Saves, Recovers, Numbers, Tables, Settlement, Half, MayTurnOut, Unknown, aborted_prepared, acted, is_durable, next_id, prepared_left, prepared_serials, with_half}
use Rattle.run_said.specs.run_model.Answers.{unit_key}
use Rattle.run_said.specs.run_model.Steps.{node_after}
use Rattle.recovery_laws.specs.world_laws.Nodes.{IsOf, IsUp}
use Rattle.recovery_laws.specs.world_laws.Running.{IsDrawn}
use Rattle.recovery_laws.proofs.world_laws.BootLemmas.{branch_in}
use Rattle.recovery_laws.proofs.world_laws.LogLemmas.{branch_of}
use Rattle.recovery_laws.proofs.world_laws.RestartLemmas.{undone_unit}
use Rattle.recovery_laws.proofs.world_laws.ServedLemmas.{undrawn}
use Rattle.recovery_laws.proofs.world_laws.UpLemmas.{drawn_more, drawn_of}
use Rattle.run_laws.proofs.EndingRows.{IsEnding}
use Rattle.run_laws.proofs.Keeping.{Keeps, Scheme, closes_plain}
use Rattle.run_laws.proofs.Moving.{in_cut, in_put}
use Rattle.run_laws.proofs.OneBranch.{changed_in, in_order}
use Rattle.run_laws.proofs.RowFits.{FitsTable, RowFits, free_after, latest_id}

module _ (x : Id) where
  pub record IsDisk (name : List ℕ) (d : Durable) : Type 0 where
    pub of : IsOf name d.boot x
    pub unprepared : (r : LogRecord) → In r (prepared_of (records_in d.log)) → r.serial ≡ x → ⊥

  pub record IsOn (free : Bool) (n : Node) : Type 0 where
    pub drawn : IsDrawn n.name n.durable.boot n.volatile.drawn x
    pub fresh : free ≡ true → x ≡ latest_id n → ⊥
    pub branch : (b : Branch) → In b n.volatile.branches → IsEnding x b

  -- while its node is booted it is not there
  pub record IsBooted (n : Node) : Type 0 where
    pub disk : IsDisk n.name n.durable
    pub earlier : x.boot < n.durable.boot
    pub none : (b : Branch) → In b n.volatile.branches → b.key.serial ≡ x → ⊥

  -- an act leaves it ending
  abbrev pub LeavesSo : Option Act → Type 0
  LeavesSo (Some (Tables (Notes b) moment)) = IsEnding x b
  LeavesSo (Some (Tables (Accepts b c) moment)) = IsEnding x b
  LeavesSo (Some (Tables (Prepares b) moment)) = b.key.serial ≡ x → ⊥
  LeavesSo _ = Unit {0}

  abbrev pub staying : Scheme
  staying = record { Told = Unit {0}; more = λ ls a. a; Up = λ free a n. IsOn free n; Disk = λ a n. IsDisk n.name n.durable; Boots = λ a n. IsBooted n; Ready = λ n. Unit {0}; Takes = LeavesSo; special = λ r. false }

  falls : (free : Bool) (n : Node) → IsUp n → IsOn free n → IsDisk n.name n.durable
  falls free n up h = record {
    of = drawn_of n.name n.durable.boot n.volatile.drawn x h.drawn;
    unprepared = λ r i e.
        let b = branch_of n up.table r i in
        let state : b.branch.state ≡ Ending = (h.branch b.branch b.there (sym (ap (λ (q : LogRecord). q.serial) b.is) ∙ e)).1 in
        let clash : Ending ≡ Prepared = sym state ∙ b.state in
        let no : ⊥ = cc in no;
  }

  half : (n : Node) (standing : List ℕ → Map) → IsDisk n.name n.durable → IsDisk n.name (with_half (aborted_prepared n.under_way n.durable) standing n.durable)
  half n standing h = go (aborted_prepared n.under_way n.durable)
    where
      go : (o : Option Id) → IsDisk n.name (with_half o standing n.durable)
      go None = h
      go (Some serial) = record { of = h.of; unprepared = h.unprepared }

  booting : (n : Node) → IsDisk n.name n.durable → IsDisk n.name (acted Boots n).durable
  booting n h = record { of = (h.of.0, (let low = h.of.1 in omega (arith, low))); unprepared = h.unprepared }

  boots : (n : Node) → IsDisk n.name n.durable → IsBooted (acted Boots n)
  boots n h = record {
    disk = booting n h;
    earlier = let low = h.of.1 in omega (arith, low);
    none = λ b i e.
        let r = branch_in (prepared_left n.durable) b i in
        let there = in_order (prepared_serials n.durable.units.entries) (prepared_of (records_in n.durable.log)) r.0 r.1 in
        h.unprepared r.0 there (ap (λ (c : Branch). c.key.serial) (sym r.2) ∙ e);
  }

  undoing : (n : Node) (u : RecoveryUnit) → IsDisk n.name n.durable → IsDisk (undone_unit n u).name (undone_unit n u).durable
  undoing n u h = record { of = h.of; unprepared = h.unprepared }

  undoes : (n : Node) (u : RecoveryUnit) → IsBooted n → IsBooted (undone_unit n u)
  undoes n u h = record { disk = undoing n u h.disk; earlier = h.earlier; none = λ b i e. h.none b (in_cut (unit_key u) b n.volatile.branches i) e }

  comes : (n : Node) → IsBooted n → IsOn false (acted ComesUp n)
  comes n h = record {
    drawn = (h.disk.of.0, inl h.earlier);
    fresh = λ e. let no : ⊥ = cc in absurd no;
    branch = λ b i e. absurd (h.none b i e);
  }

  -- Rows.

  less_free : (free : Bool) (n : Node) → IsOn free n → IsOn false n
  less_free free n h = record { drawn = h.drawn; fresh = λ e. let no : ⊥ = cc in absurd no; branch = h.branch }

  drew : (free : Bool) (n : Node) → IsOn free n → IsOn true (acted Draws n)
  drew free n h = record {
    drawn = drawn_more n.name n.durable.boot n.volatile.drawn x h.drawn;
    fresh = λ e same. undrawn n x h.drawn same;
    branch = h.branch;
  }

  directed : (n : Node) (file : List ℕ) (cs : List _) (s : Settlement) → IsOn false n → IsOn false (acted (Directs file cs s) n)
  directed n file cs s h = record {
    drawn = drawn_more n.name n.durable.boot n.volatile.drawn x h.drawn;
    fresh = λ e. let no : ⊥ = cc in absurd no;
    branch = h.branch;
  }

  -- a branch is put there
  puts : (n : Node) (new : Branch) → ((c : Branch) → In c n.volatile.branches → IsEnding x c) → IsEnding x new → (b : Branch) → In b (put new n.volatile.branches) → IsEnding x b
  puts n new h so b i = elim (in_put new b n.volatile.branches i) [ inl same ↦ subst (IsEnding x) (sym same) so | inr j ↦ h b j ]

  tabled : (free : Bool) (n : Node) (a : table.Act) (moment : ℕ) → LeavesSo (Some (Tables a moment)) → FitsTable free a moment n → IsOn free n → IsOn false (acted (Tables a moment) n)
  tabled free n a moment takes f h = go a takes f
    where
      with_branches : (a : table.Act) → world.settlement_of a moment ≡ None → ((b : Branch) → In b (table.table_after a n.volatile.branches) → IsEnding x b) → IsOn false (acted (Tables a moment) n)
      with_branches (Settles k o reason r) none so = let no : ⊥ = cc in absurd no
      with_branches (Undoes k) none so = let no : ⊥ = cc in absurd no
      with_branches _ none so = record { drawn = h.drawn; fresh = λ e. let no : ⊥ = cc in absurd no; branch = so }

      go : (a : table.Act) → LeavesSo (Some (Tables a moment)) → FitsTable free a moment n → IsOn false (acted (Tables a moment) n)
      go (Settles k o reason r) t g = record {
        drawn = h.drawn;
        fresh = λ e. let no : ⊥ = cc in absurd no;
        branch = λ b i. h.branch b (in_cut k b n.volatile.branches i);
      }
      go (Undoes k) t g = absurd g.row
      go (Notes b) t g = with_branches (Notes b) refl (puts n b h.branch t)
      go (Accepts b c) t g = with_branches (Accepts b c) refl (puts n (record b { accepted = b.accepted ++ c ∷ [] }) h.branch t)
      go (Prepares b) t g = with_branches (Prepares b) refl (puts n (record b { state = Prepared }) h.branch (λ e. absurd (t e)))
      go (Leaves k) t g = with_branches (Leaves k) refl (λ b i. h.branch b (in_cut k b n.volatile.branches i))
      go (Acknowledges k) t g = with_branches (Acknowledges k) refl h.branch
      go (Releases y rm) t g = with_branches (Releases y rm) refl h.branch
      go (Sends m) t g = with_branches (Sends m) refl h.branch
      go (Prints l) t g = with_branches (Prints l) refl h.branch

  quiet : (free : Bool) (n m : Node) → m.name ≡ n.name → m.durable.boot ≡ n.durable.boot → m.volatile.drawn ≡ n.volatile.drawn → m.volatile.branches ≡ n.volatile.branches → IsOn free n → IsOn false m
  quiet free n m name boot drawn branches h = record {
    drawn = subst (λ y. IsDrawn y m.durable.boot m.volatile.drawn x) (sym name) (subst (λ k. IsDrawn n.name k m.volatile.drawn x) (sym boot) (subst (λ k. IsDrawn n.name n.durable.boot k x) (sym drawn) h.drawn));
    fresh = λ e. let no : ⊥ = cc in absurd no;
    branch = λ b i. h.branch b (subst (In b) branches i);
  }

  done : (free : Bool) (ls : List Line) (o : Option Act) (n : Node) → LeavesSo o → RowFits free (record { act = o; lines = ls }) n → IsOn free n → IsOn (free_after free o) (node_after o n)
  done free ls None n t f h = less_free free n h
  done free ls (Some (Tables a moment)) n t f h = tabled free n a moment t f.fits h
  done free ls (Some (Directs file cs s)) n t f h = directed n file cs s (less_free free n h)
  done free ls (Some Draws) n t f h = drew free n h
  done free ls (Some (Labels l)) n t f h = h
  done free ls (Some (Numbers label serial)) n t f h = h
  done free ls (Some (Changes tid serial file cs keys)) n t f h = record {
    drawn = h.drawn;
    fresh = λ e. let no : ⊥ = cc in absurd no;
    branch = λ b i e. let old = changed_in serial n.volatile.branches b i in
        let k = h.branch old.0 old.1 (ap (λ (j : BranchKey). j.serial) (sym old.2) ∙ e) in
        (old.2 ∙ k.0, old.3 ∙ k.1);
  }
  done free ls (Some Boots) n t f h = absurd f.fits
  done free ls (Some (Formats slots journal)) n t f h = absurd f.fits
  done free ls (Some ComesUp) n t f h = absurd f.fits
  done free ls (Some (Creates place file)) n t f h = quiet free n (acted (Creates place file) n) refl refl refl refl h
  done free ls (Some (Marks file mark)) n t f h = quiet free n (acted (Marks file mark) n) refl refl refl refl h
  done free ls (Some (Saves file start)) n t f h = quiet free n (acted (Saves file start) n) refl refl refl refl h
  done free ls (Some (Recovers file start buckets m)) n t f h = quiet free n (acted (Recovers file start buckets m) n) refl refl refl refl h
  done free ls (Some (Holds serial file keys)) n t f h = quiet free n (acted (Holds serial file keys) n) refl refl refl refl h
  done free ls (Some (Arms writes choice)) n t f h = quiet free n (acted (Arms writes choice) n) refl refl refl refl h
  done free ls (Some (Clocks now)) n t f h = quiet free n (acted (Clocks now) n) refl refl refl refl h
  done free ls (Some (world.Declares rms)) n t f h = quiet free n (acted (world.Declares rms) n) refl refl refl refl h
  done free ls (Some Falls) n t f h = quiet free n (acted Falls n) refl refl refl refl h

  pub staying_keeps : Keeps staying
  staying_keeps = record {
    none = λ a. refl;
    append = λ xs ys a. refl;
    plain = λ ls a h v. refl;
    closes = closes_plain staying (λ ls a h. refl);
    same = λ a n m name durable settled h. subst (λ y. IsDisk y m.durable) (sym name) (subst (λ d. IsDisk n.name d) (sym durable) h);
    row = λ free r n a q f up h. done free r.lines r.act n q f h;
    under = λ free r n a act q f is d up h. falls (free_after free r.act) (acted act n) up (subst (λ o. IsOn (free_after free r.act) (node_after o n)) is (done free r.lines r.act n q f h));
    falls = λ free a n up h. falls free n up h;
    weaken = λ free a n h. less_free free n h;
    half = λ a n standing k ready may h. half n standing h;
    spoils = λ a n h. record { of = h.of; unprepared = h.unprepared };
    boots = λ a n k h. boots n h;
    booting = λ a n k h. booting n h;
    undoes = λ a n u next h. undoes n u h;
    undoing = λ a n u next h. undoing n u h.disk;
    rests = λ a n k h. h.disk;
    none_ready = λ n e. tt;
    same_ready = λ n m e h. tt;
    comes = λ a n up h closed. comes n h;
  }
