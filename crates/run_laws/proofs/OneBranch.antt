-- What is known of one branch of a node: of which transactions it may be, of which it may be prepared, and how it may be committed.
use Rattle.std.proofs.Common.{◌≡◌, ◌<◌, ℕ, List, [], ◌∷◌, ◌++◌, inl, inr, Bool, true, false, Option, Some, None, if◌then◌else◌, refl, sym, ◌∙◌, ap, subst, arith}
use Rattle.std.proofs.lemmas.Bool.{both_ways}
use Rattle.vms_model.specs.Ids.{Id}
use Rattle.vms_model.specs.Transactions.{Commit, Abort}
use Rattle.run_said.specs.transcript_model.Lines.{Line}
use Rattle.unit_laws.specs.records_model.History.{same_id}
use Rattle.unit_laws.specs.Units.{Map}
use Rattle.unit_laws.specs.Journal.{RecoveryUnit}
use Rattle.commit_protocol.specs.Messages.{LogRecord}
use Rattle.commit_protocol.specs.Table as table
use Rattle.commit_protocol.specs.Table.{Branch, Key as BranchKey, Prepared, Accepts, Acknowledges, Leaves, Notes, Prepares, Prints, Releases, Sends, Settles, Undoes, find, put, prepared_record}
use Rattle.commit_protocol.specs.Allowed.{is_prepared}
use Rattle.commit_protocol.specs.Standing.{Restates}
use Rattle.commit_protocol.specs.World.{In}
use Rattle.commit_protocol.proofs.Lists.{find-key}
use Rattle.run_said.specs.log_laws.Slots.{prepared_of, records_in}
use Rattle.run_said.specs.run_model.World as world
use Rattle.run_said.specs.run_model.World.{Node, Durable, Act, Arms, Boots, Changes, Clocks, ComesUp, Creates, Directs, Draws, Falls, Formats, Holds, Labels, Marks, Saves, Recovers, Numbers, Tables, Settlement, Half, MayTurnOut, Unknown, aborted_prepared, acted, find_record, is_durable, next_id, next_moment, prepared_left, prepared_serials, records_by, settlement, with_changed, with_half, without_record}
use Rattle.run_said.specs.run_model.Answers as answers
use Rattle.run_said.specs.run_model.Answers.{Row, last_lines, settled_line, unit_key}
use Rattle.run_said.specs.run_model.Steps.{node_after}
use Rattle.recovery_laws.specs.world_laws.Nodes.{IsOf, IsUp}
use Rattle.recovery_laws.specs.world_laws.Running.{IsDrawn}
use Rattle.recovery_laws.proofs.world_laws.BootLemmas.{branch_in}
use Rattle.recovery_laws.proofs.world_laws.FindLemmas.{some_is}
use Rattle.recovery_laws.proofs.world_laws.LogLemmas.{branch_of}
use Rattle.recovery_laws.proofs.world_laws.RestartLemmas.{undone_unit}
use Rattle.recovery_laws.proofs.world_laws.ServedLemmas.{undrawn}
use Rattle.recovery_laws.proofs.world_laws.TableLemmas.{found_in}
use Rattle.recovery_laws.proofs.world_laws.UpLemmas.{drawn_more, drawn_of}
use Rattle.run_laws.proofs.Moving.{in_cut, in_put}
use Rattle.run_laws.proofs.RowFits.{FitsTable, RowFits, free_after, latest_id}
use Rattle.run_laws.proofs.Keeping.{Keeps, Scheme, closes_plain}

-- Lists.

found_record : (serial : Id) (rs : List LogRecord) (r : LogRecord) → find_record serial rs ≡ Some r → In r rs
found_record serial [] r e = let no : ⊥ = cc in absurd no
found_record serial (q ∷ rs) r e = go (same_id serial q.serial) e (found_record serial rs r)
  where
    go : (b : Bool) → ◌≡◌ {A = Option LogRecord} (if b then Some q else find_record serial rs) (Some r) → (find_record serial rs ≡ Some r → In r rs) → In r (q ∷ rs)
    go true k more = inl (sym (some_is q r k))
    go false k more = inr (more k)

fewer_records : (serial : Id) (rs : List LogRecord) (r : LogRecord) → In r (without_record serial rs) → In r rs
fewer_records serial [] r i = i
fewer_records serial (q ∷ rs) r i = go (same_id serial q.serial) i (fewer_records serial rs r)
  where
    go : (b : Bool) → In r (if b then rs else q ∷ without_record serial rs) → (In r (without_record serial rs) → In r rs) → In r (q ∷ rs)
    go true j more = inr j
    go false j more = elim j [ inl same ↦ inl same | inr k ↦ inr (more k) ]

-- records in another order are no others
pub in_order : (xs : List Id) (rs : List LogRecord) (r : LogRecord) → In r (records_by xs rs) → In r rs
in_order [] rs r i = i
in_order (x ∷ xs) rs r i = go (find_record x rs) refl (λ qs. in_order xs qs r) i
  where
    go : (o : Option LogRecord) → find_record x rs ≡ o → ((qs : List LogRecord) → In r (records_by xs qs) → In r qs) → In r (elim o as (λ y. List LogRecord) [ Some q ↦ q ∷ records_by xs (without_record x rs) | None ↦ records_by xs rs ]) → In r rs
    go (Some q) e more j = elim j [ inl same ↦ subst (λ y. In y rs) (sym same) (found_record x rs q e) | inr k ↦ fewer_records x rs r (more (without_record x rs) k) ]
    go None e more j = more rs j

-- a branch that has perhaps changed something stood there
pub changed_in : (serial : Id) (bs : List Branch) (b : Branch) → In b (with_changed serial bs) → (old : Branch) × In old bs × (b.key ≡ old.key) × (b.state ≡ old.state)
changed_in serial [] b i = absurd i
changed_in serial (c ∷ bs) b i = go (same_id serial c.key.serial) i (changed_in serial bs b)
  where
    go : (t : Bool) → In b (if t then record c { changed = true } ∷ bs else c ∷ with_changed serial bs) → (In b (with_changed serial bs) → (old : Branch) × In old bs × (b.key ≡ old.key) × (b.state ≡ old.state)) → (old : Branch) × In old (c ∷ bs) × (b.key ≡ old.key) × (b.state ≡ old.state)
    go true (inl same) more = (c, inl refl, ap (λ (y : Branch). y.key) same, ap (λ (y : Branch). y.state) same)
    go true (inr j) more = (b, inr j, refl, refl)
    go false (inl same) more = (c, inl refl, ap (λ (y : Branch). y.key) same, ap (λ (y : Branch). y.state) same)
    go false (inr j) more = let r = more j in (r.0, inr r.1, r.2, r.3)

-- What is known. The branch x may be of the transactions K, and prepared of those P; and its commitments are so.
module _ (x : Id) (K P : Id → Type 0) (C : Settlement → Type 0) where
  abbrev pub CommitsSo : List Settlement → Type 0
  CommitsSo ss = (s : Settlement) → In s ss → s.serial ≡ x → s.outcome ≡ Commit → C s

  pub record IsDisk (name : List ℕ) (d : Durable) (ss : List Settlement) : Type 0 where
    pub of : IsOf name d.boot x
    pub prepared : (r : LogRecord) → In r (prepared_of (records_in d.log)) → r.serial ≡ x → P r.tid
    pub commits : CommitsSo ss

  -- how it may stand in the table
  abbrev pub StandsSo : Branch → Type 0
  StandsSo b = b.key.serial ≡ x → K b.key.tid × (is_prepared b.state ≡ true → P b.key.tid)

  pub record IsOn (free : Bool) (n : Node) : Type 0 where
    pub drawn : IsDrawn n.name n.durable.boot n.volatile.drawn x
    pub fresh : free ≡ true → x ≡ latest_id n → ⊥
    pub branch : (b : Branch) → In b n.volatile.branches → StandsSo b
    pub commits : CommitsSo n.settled

  -- while its node is booted it is prepared
  pub record IsBooted (n : Node) : Type 0 where
    pub disk : IsDisk n.name n.durable n.settled
    pub earlier : x.boot < n.durable.boot
    pub branch : (b : Branch) → In b n.volatile.branches → b.key.serial ≡ x → P b.key.tid

  -- it is prepared only of those
  abbrev pub PreparesSo : Option Act → Type 0
  PreparesSo (Some (Tables (Prepares b) moment)) = b.key.serial ≡ x → K b.key.tid → P b.key.tid
  PreparesSo _ = Unit {0}

  abbrev pub one : Scheme
  one = record { Told = Unit {0}; more = λ ls a. a; Up = λ free a n. IsOn free n; Disk = λ a n. IsDisk n.name n.durable n.settled; Boots = λ a n. IsBooted n; Ready = λ n. Unit {0}; Takes = PreparesSo; special = λ r. false }

  module _ (prepared_too : (t : Id) → P t → K t) (settles : (s : Settlement) → s.serial ≡ x → K s.tid → C s) where
    falls : (free : Bool) (n : Node) → IsUp n → IsOn free n → IsDisk n.name n.durable n.settled
    falls free n up h = record {
      of = drawn_of n.name n.durable.boot n.volatile.drawn x h.drawn;
      prepared = λ r i e.
          let b = branch_of n up.table r i in
          let serial : b.branch.key.serial ≡ x = sym (ap (λ (q : LogRecord). q.serial) b.is) ∙ e in
          subst P (sym (ap (λ (q : LogRecord). q.tid) b.is)) ((h.branch b.branch b.there serial).1 (ap is_prepared b.state));
      commits = h.commits;
    }

    half : (n : Node) (standing : List ℕ → Map) → IsDisk n.name n.durable n.settled → IsDisk n.name (with_half (aborted_prepared n.under_way n.durable) standing n.durable) n.settled
    half n standing h = go (aborted_prepared n.under_way n.durable)
      where
        go : (o : Option Id) → IsDisk n.name (with_half o standing n.durable) n.settled
        go None = h
        go (Some serial) = record { of = h.of; prepared = h.prepared; commits = h.commits }

    booting : (n : Node) → IsDisk n.name n.durable n.settled → IsDisk n.name (acted Boots n).durable n.settled
    booting n h = record { of = (h.of.0, (let low = h.of.1 in omega (arith, low))); prepared = h.prepared; commits = h.commits }

    boots : (n : Node) → IsDisk n.name n.durable n.settled → IsBooted (acted Boots n)
    boots n h = record {
      disk = booting n h;
      earlier = let low = h.of.1 in omega (arith, low);
      branch = λ b i e.
          let r = branch_in (prepared_left n.durable) b i in
          let there = in_order (prepared_serials n.durable.units.entries) (prepared_of (records_in n.durable.log)) r.0 r.1 in
          subst P (ap (λ (c : Branch). c.key.tid) (sym r.2)) (h.prepared r.0 there (ap (λ (c : Branch). c.key.serial) (sym r.2) ∙ e));
    }

    undoing : (n : Node) (u : RecoveryUnit) → IsDisk n.name n.durable n.settled → IsDisk (undone_unit n u).name (undone_unit n u).durable (undone_unit n u).settled
    undoing n u h = record {
      of = h.of;
      prepared = h.prepared;
      commits = λ s i e c. elim i [
        | inl same ↦ (let clash : Abort ≡ Commit = sym (ap (λ (y : Settlement). y.outcome) same) ∙ c in let no : ⊥ = cc in absurd no)
        | inr j ↦ h.commits s j e c
      ];
    }

    undoes : (n : Node) (u : RecoveryUnit) → IsBooted n → IsBooted (undone_unit n u)
    undoes n u h = record { disk = undoing n u h.disk; earlier = h.earlier; branch = λ b i e. h.branch b (in_cut (unit_key u) b n.volatile.branches i) e }

    comes : (n : Node) → IsBooted n → IsOn false (acted ComesUp n)
    comes n h = record {
      drawn = (h.disk.of.0, inl h.earlier);
      fresh = λ e. let no : ⊥ = cc in absurd no;
      branch = λ b i e. let p = h.branch b i e in (prepared_too b.key.tid p, λ q. p);
      commits = h.disk.commits;
    }

    -- Rows.

    less_free : (free : Bool) (n : Node) → IsOn free n → IsOn false n
    less_free free n h = record { drawn = h.drawn; fresh = λ e. let no : ⊥ = cc in absurd no; branch = h.branch; commits = h.commits }

    drew : (free : Bool) (n : Node) → IsOn free n → IsOn true (acted Draws n)
    drew free n h = record {
      drawn = drawn_more n.name n.durable.boot n.volatile.drawn x h.drawn;
      fresh = λ e same. undrawn n x h.drawn same;
      branch = h.branch;
      commits = h.commits;
    }

    directed : (n : Node) (file : List ℕ) (cs : List _) → IsOn false n → let s = answers.commit_settlement n (next_id n) (next_id n) in IsOn false (acted (Directs file cs s) n)
    directed n file cs h = record {
      drawn = drawn_more n.name n.durable.boot n.volatile.drawn x h.drawn;
      fresh = λ e. let no : ⊥ = cc in absurd no;
      branch = h.branch;
      commits = λ s i e c. elim i [ inl same ↦ absurd (undrawn n x h.drawn (sym e ∙ ap (λ (y : Settlement). y.serial) same)) | inr j ↦ h.commits s j e c ];
    }

    -- a branch of this key stands there, so it may be of its transaction
    stood : (n : Node) (k : BranchKey) (b : Branch) → ((c : Branch) → In c n.volatile.branches → StandsSo c) → find k n.volatile.branches ≡ Some b → k.serial ≡ x → K k.tid
    stood n k b h e same =
        let key = find-key k n.volatile.branches b e in
        subst (λ (j : BranchKey). K j.tid) key (h b (found_in k n.volatile.branches b e) (ap (λ (j : BranchKey). j.serial) key ∙ same)).0

    restated : (n : Node) (b new : Branch) → ((c : Branch) → In c n.volatile.branches → StandsSo c) → Restates n.volatile.branches b → new.key ≡ b.key → new.state ≡ b.state → StandsSo new
    restated n b new h r key state e = (
      subst (λ (j : BranchKey). K j.tid) (sym key) (stood n b.key r.old h r.there (ap (λ (j : BranchKey). j.serial) (sym key) ∙ e)),
      λ p. absurd (both_ways (is_prepared b.state) r.stays (ap is_prepared (sym state) ∙ p)),
    )

    -- a branch is put there
    puts : (n : Node) (new : Branch) → ((c : Branch) → In c n.volatile.branches → StandsSo c) → StandsSo new → (b : Branch) → In b (put new n.volatile.branches) → StandsSo b
    puts n new h so b i = elim (in_put new b n.volatile.branches i) [ inl same ↦ subst StandsSo (sym same) so | inr j ↦ h b j ]

    tabled : (free : Bool) (n : Node) (a : table.Act) (moment : ℕ) → PreparesSo (Some (Tables a moment)) → FitsTable free a moment n → IsOn free n → IsOn false (acted (Tables a moment) n)
    tabled free n a moment takes f h = go a takes f
      where
        with_branches : (a : table.Act) → world.settlement_of a moment ≡ None → ((b : Branch) → In b (table.table_after a n.volatile.branches) → StandsSo b) → IsOn false (acted (Tables a moment) n)
        with_branches (Settles k o reason r) none so = let no : ⊥ = cc in absurd no
        with_branches (Undoes k) none so = let no : ⊥ = cc in absurd no
        with_branches _ none so = record { drawn = h.drawn; fresh = λ e. let no : ⊥ = cc in absurd no; branch = so; commits = h.commits }

        begun : (b : Branch) → (free ≡ true) × (b.key.serial ≡ latest_id n) → StandsSo b
        begun b is e = absurd (h.fresh is.0 (sym e ∙ is.1))

        go : (a : table.Act) → PreparesSo (Some (Tables a moment)) → FitsTable free a moment n → IsOn false (acted (Tables a moment) n)
        go (Settles k o reason r) t g = elim g.stands [
          | inl stands ↦ record {
            drawn = h.drawn;
            fresh = λ e. let no : ⊥ = cc in absurd no;
            branch = λ b i. h.branch b (in_cut k b n.volatile.branches i);
            commits = λ s i e c. elim i [
              | inl same ↦ subst C (sym same) (settles (settlement k o reason moment) (ap (λ (y : Settlement). y.serial) (sym same) ∙ e) (stood n k stands.0.0 h.branch stands.0.1 (ap (λ (y : Settlement). y.serial) (sym same) ∙ e)))
              | inr j ↦ h.commits s j e c
            ];
          }
          | inr none ↦ absurd none
        ]
        go (Undoes k) t g = absurd g.row
        go (Notes b) t g = with_branches (Notes b) refl (puts n b h.branch (elim g.stands [ inl stands ↦ restated n b b h.branch stands refl refl | inr is ↦ begun b is ]))
        go (Accepts b c) t g = elim g.stands [ inl stands ↦ with_branches (Accepts b c) refl (puts n (record b { accepted = b.accepted ++ c ∷ [] }) h.branch (restated n b (record b { accepted = b.accepted ++ c ∷ [] }) h.branch stands refl refl)) | inr none ↦ absurd none ]
        go (Prepares b) t g = elim g.stands [
          | inl stands ↦ with_branches (Prepares b) refl (puts n (record b { state = Prepared }) h.branch (λ e. let k = stood n b.key stands.branch h.branch stands.there e in (k, λ p. t e k)))
          | inr none ↦ absurd none
        ]
        go (Leaves k) t g = with_branches (Leaves k) refl (λ b i. h.branch b (in_cut k b n.volatile.branches i))
        go (Acknowledges k) t g = with_branches (Acknowledges k) refl h.branch
        go (Releases y rm) t g = with_branches (Releases y rm) refl h.branch
        go (Sends m) t g = with_branches (Sends m) refl h.branch
        go (Prints l) t g = with_branches (Prints l) refl h.branch

    quiet : (free : Bool) (n m : Node) → m.name ≡ n.name → m.durable.boot ≡ n.durable.boot → m.volatile.drawn ≡ n.volatile.drawn → m.volatile.branches ≡ n.volatile.branches → m.settled ≡ n.settled → IsOn free n → IsOn false m
    quiet free n m name boot drawn branches settled h = record {
      drawn = subst (λ y. IsDrawn y m.durable.boot m.volatile.drawn x) (sym name) (subst (λ k. IsDrawn n.name k m.volatile.drawn x) (sym boot) (subst (λ k. IsDrawn n.name n.durable.boot k x) (sym drawn) h.drawn));
      fresh = λ e. let no : ⊥ = cc in absurd no;
      branch = λ b i. h.branch b (subst (In b) branches i);
      commits = λ s i. h.commits s (subst (In s) settled i);
    }

    done : (free : Bool) (ls : List Line) (o : Option Act) (n : Node) → PreparesSo o → RowFits free (record { act = o; lines = ls }) n → IsOn free n → IsOn (free_after free o) (node_after o n)
    done free ls None n t f h = less_free free n h
    done free ls (Some (Tables a moment)) n t f h = tabled free n a moment t f.fits h
    done free ls (Some (Directs file cs s)) n t f h = subst (λ (y : Settlement). IsOn false (acted (Directs file cs y) n)) (sym f.fits) (directed n file cs (less_free free n h))
    done free ls (Some Draws) n t f h = drew free n h
    done free ls (Some (Labels l)) n t f h = h
    done free ls (Some (Numbers label serial)) n t f h = h
    done free ls (Some (Changes tid serial file cs keys)) n t f h = record {
      drawn = h.drawn;
      fresh = λ e. let no : ⊥ = cc in absurd no;
      branch = λ b i e. let old = changed_in serial n.volatile.branches b i in
          let k = h.branch old.0 old.1 (ap (λ (j : BranchKey). j.serial) (sym old.2) ∙ e) in
          (subst (λ (j : BranchKey). K j.tid) (sym old.2) k.0, λ p. subst (λ (j : BranchKey). P j.tid) (sym old.2) (k.1 (ap is_prepared (sym old.3) ∙ p)));
      commits = h.commits;
    }
    done free ls (Some Boots) n t f h = absurd f.fits
    done free ls (Some (Formats slots journal)) n t f h = absurd f.fits
    done free ls (Some ComesUp) n t f h = absurd f.fits
    done free ls (Some (Creates place file)) n t f h = quiet free n (acted (Creates place file) n) refl refl refl refl refl h
    done free ls (Some (Marks file mark)) n t f h = quiet free n (acted (Marks file mark) n) refl refl refl refl refl h
    done free ls (Some (Saves file start)) n t f h = quiet free n (acted (Saves file start) n) refl refl refl refl refl h
    done free ls (Some (Recovers file start buckets m)) n t f h = quiet free n (acted (Recovers file start buckets m) n) refl refl refl refl refl h
    done free ls (Some (Holds serial file keys)) n t f h = quiet free n (acted (Holds serial file keys) n) refl refl refl refl refl h
    done free ls (Some (Arms writes choice)) n t f h = quiet free n (acted (Arms writes choice) n) refl refl refl refl refl h
    done free ls (Some (Clocks now)) n t f h = quiet free n (acted (Clocks now) n) refl refl refl refl refl h
    done free ls (Some (world.Declares rms)) n t f h = quiet free n (acted (world.Declares rms) n) refl refl refl refl refl h
    done free ls (Some Falls) n t f h = quiet free n (acted Falls n) refl refl refl refl refl h

    pub one_keeps : Keeps one
    one_keeps = record {
      none = λ a. refl;
      append = λ xs ys a. refl;
      plain = λ ls a h v. refl;
      closes = closes_plain one (λ ls a h. refl);
      same = λ a n m name durable settled h. subst (λ y. IsDisk y m.durable m.settled) (sym name) (subst (λ d. IsDisk n.name d m.settled) (sym durable) (subst (IsDisk n.name n.durable) (sym settled) h));
      row = λ free r n a q f up h. done free r.lines r.act n q f h;
      under = λ free r n a act q f is d up h. falls (free_after free r.act) (acted act n) up (subst (λ o. IsOn (free_after free r.act) (node_after o n)) is (done free r.lines r.act n q f h));
      falls = λ free a n up h. falls free n up h;
      weaken = λ free a n h. less_free free n h;
      half = λ a n standing k ready may h. half n standing h;
      spoils = λ a n h. record { of = h.of; prepared = h.prepared; commits = h.commits };
      boots = λ a n k h. boots n h;
      booting = λ a n k h. booting n h;
      undoes = λ a n u next h. undoes n u h;
      undoing = λ a n u next h. undoing n u h.disk;
      rests = λ a n k h. h.disk;
      none_ready = λ n e. tt;
      same_ready = λ n m e h. tt;
      comes = λ a n up h closed. comes n h;
    }
