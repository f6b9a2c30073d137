-- No branch of a node is settled twice: what is settled stands neither in the table, nor in the journal, nor in the log, and was drawn before.
use Rattle.std.proofs.Common.{◌≡◌, ◌≤◌, ◌<◌, ℕ, ◌+◌, ◌⊎◌, List, [], ◌∷◌, inl, inr, Bool, true, false, Option, Some, None, if◌then◌else◌, refl, sym, ◌∙◌, ap, subst, arith}
use Rattle.std.specs.Prelude.{is_some}
use Rattle.std.specs.List.{AllByRecursion}
use Rattle.std.proofs.lemmas.Bool.{both_ways, false_from_ne_true}
use Rattle.vms_model.specs.Ids.{Id}
use Rattle.vms_model.specs.Transactions.{Outcome, Reason}
use Rattle.run_said.specs.transcript_model.Lines.{Line}
use Rattle.unit_laws.specs.records_model.History.{same_id}
use Rattle.unit_laws.specs.Units.{Map}
use Rattle.unit_laws.specs.Journal.{RecoveryUnit, find_unit, units_in}
use Rattle.unit_laws.specs.JournalLaws.{is_unit}
use Rattle.commit_protocol.specs.Messages.{LogRecord}
use Rattle.commit_protocol.specs.Table as table
use Rattle.commit_protocol.specs.Table.{Branch, Key as BranchKey, Accepts, Acknowledges, Leaves, Notes, Prepares, Prints, Releases, Sends, Settles, Undoes, branch_serials, branches_of, cut, put, record_serials, table_after}
use Rattle.commit_protocol.specs.Allowed.{is_prepared}
use Rattle.commit_protocol.specs.Standing.{Stands}
use Rattle.commit_protocol.specs.World as protocol
use Rattle.commit_protocol.specs.World.{In}
use Rattle.commit_protocol.proofs.Lists.{find-key}
use Rattle.commit_protocol.proofs.Serials.{ApartAfter, act_apart, keyed, parts_apart}
use Rattle.run_said.specs.log_laws.Slots.{prepared_of, records_in}
use Rattle.run_said.proofs.log_laws.Reading.{is_prepared_one}
use Rattle.run_said.specs.run_model.World as world
use Rattle.run_said.specs.run_model.World.{Node, Durable, Act, Arms, Boots, Changes, Clocks, ComesUp, Creates, Directs, Draws, Falls, Formats, Holds, Labels, Marks, Saves, Recovers, Numbers, Tables, Settlement, Half, MayTurnOut, Unknown, aborted_prepared, acted, is_durable, next_id, next_moment, settlement, settlement_of, with_half, with_changed}
use Rattle.run_said.specs.run_model.Answers as answers
use Rattle.run_said.specs.run_model.Answers.{Row, last_lines, settled_line, unit_key}
use Rattle.run_said.specs.run_model.Steps.{node_after}
use Rattle.run_laws.specs.Promises.{SettledOnce}
use Rattle.recovery_laws.specs.world_laws.Nodes.{IsKeptDisk, IsOf, IsUp}
use Rattle.recovery_laws.specs.world_laws.Running.{IsDrawn}
use Rattle.recovery_laws.proofs.world_laws.IdLemmas.{id_is}
use Rattle.recovery_laws.proofs.world_laws.BootLemmas.{branch_in}
use Rattle.recovery_laws.proofs.world_laws.FindLemmas.{some_is}
use Rattle.recovery_laws.proofs.world_laws.LogLemmas.{branch_of, record_there, state_prepared}
use Rattle.recovery_laws.proofs.world_laws.RestartLemmas.{has_settled, undone_unit}
use Rattle.recovery_laws.proofs.world_laws.ServedLemmas.{undrawn}
use Rattle.recovery_laws.proofs.world_laws.TableLemmas.{changed_serials, found_in, in_cut, in_serials, of_serial, serials_apart}
use Rattle.recovery_laws.proofs.world_laws.UndoLemmas.{all_onto}
use Rattle.recovery_laws.proofs.world_laws.UpLemmas.{branch_drawn, differ, drawn_more}
use Rattle.run_laws.proofs.RowFits.{FitsTable, RowFits, free_after, latest_id}
use Rattle.run_laws.proofs.Keeping.{IsNextUnit, Keeps, Scheme, closes_plain}

-- What is known.

-- Of a disk: no branch is settled twice; each that is settled is of this node, of a boot that it has counted, and is no unit and has no prepared record; and the last
-- settlement is of this node.
pub record IsOnceDisk (name : List ℕ) (d : Durable) (ss : List Settlement) : Type 0 where
  pub once : SettledOnce ss
  pub own : (s : Settlement) → In s ss → IsOf name d.boot s.serial
  pub units : (s : Settlement) → In s ss → is_unit s.serial d.units ≡ false
  pub prepared : (s : Settlement) (r : LogRecord) → In s ss → In r (prepared_of (records_in d.log)) → r.serial ≡ s.serial → ⊥
  pub last : (s : Settlement) → d.last ≡ Some s → IsOf name d.boot s.serial

-- Of a node that is up: each that is settled was drawn, and is no branch; and so was the last that its disk has.
pub record IsOnceUp (free : Bool) (n : Node) : Type 0 where
  pub once : SettledOnce n.settled
  pub drawn : (s : Settlement) → In s n.settled → IsDrawn n.name n.durable.boot n.volatile.drawn s.serial
  pub apart : (s : Settlement) → In s n.settled → In s.serial (branch_serials n.volatile.branches) → ⊥
  pub fresh : free ≡ true → (s : Settlement) → In s n.settled → s.serial ≡ latest_id n → ⊥
  pub last : (s : Settlement) → n.durable.last ≡ Some s → IsDrawn n.name n.durable.boot n.volatile.drawn s.serial

-- Of a node that is booted: besides, each that is settled, or a unit, is of an earlier boot, and all branches are prepared.
pub record IsOnceBoot (n : Node) : Type 0 where
  pub disk : IsOnceDisk n.name n.durable n.settled
  pub earlier : (s : Settlement) → In s n.settled → s.serial.boot < n.durable.boot
  pub units : (x : Id) → is_unit x n.durable.units ≡ true → x.boot < n.durable.boot
  pub table : (b : Branch) → In b n.volatile.branches → is_prepared b.state ≡ true
  pub last : (s : Settlement) → n.durable.last ≡ Some s → s.serial.boot < n.durable.boot

abbrev pub once : Scheme
once = record { Told = Unit {0}; more = λ ls a. a; Up = λ free a n. IsOnceUp free n; Disk = λ a n. IsOnceDisk n.name n.durable n.settled; Boots = λ a n. IsOnceBoot n; Ready = λ n. Unit {0}; Takes = λ o. Unit {0}; special = λ r. false }

-- Disks.

pub of_drawn : (name : List ℕ) (boot drawn : ℕ) (x : Id) → IsDrawn name boot drawn x → IsOf name boot x
of_drawn name boot drawn x d = (d.0, elim d.1 [ inl earlier ↦ omega arith | inr here ↦ omega arith ])

pub unit_branch : (n : Node) → IsUp n → (x : Id) → is_unit x n.durable.units ≡ true → In x (branch_serials n.volatile.branches)
unit_branch n up x e = go (find_unit x (units_in n.durable.units.entries)) refl e
  where
    go : (o : Option RecoveryUnit) → find_unit x (units_in n.durable.units.entries) ≡ o → is_some o ≡ true → In x (branch_serials n.volatile.branches)
    go (Some u) f k = let b = up.table.branches x u f in subst (λ y. In y (branch_serials n.volatile.branches)) b.serial (in_serials b.branch n.volatile.branches b.there)
    go None f k = let no : ⊥ = cc in absurd no

falls_once : (free : Bool) (n : Node) → IsUp n → IsOnceUp free n → IsOnceDisk n.name n.durable n.settled
falls_once free n up h = record {
  once = h.once;
  own = λ s i. of_drawn n.name n.durable.boot n.volatile.drawn s.serial (h.drawn s i);
  units = λ s i. false_from_ne_true _ (λ e. h.apart s i (unit_branch n up s.serial e));
  prepared = λ s r i j e. let b = branch_of n up.table r j in
      h.apart s i (subst (λ y. In y (branch_serials n.volatile.branches)) (sym (ap (λ (q : LogRecord). q.serial) b.is) ∙ e) (in_serials b.branch n.volatile.branches b.there));
  last = λ s e. of_drawn n.name n.durable.boot n.volatile.drawn s.serial (h.last s e);
}

half_once : (n : Node) (standing : List ℕ → Map) → IsOnceDisk n.name n.durable n.settled → IsOnceDisk n.name (with_half (aborted_prepared n.under_way n.durable) standing n.durable) n.settled
half_once n standing h = go (aborted_prepared n.under_way n.durable)
  where
    go : (o : Option Id) → IsOnceDisk n.name (with_half o standing n.durable) n.settled
    go None = h
    go (Some serial) = record { once = h.once; own = h.own; units = h.units; prepared = h.prepared; last = h.last }

-- A boot.

booted_of : (name : List ℕ) (boot : ℕ) (x : Id) → IsOf name boot x → IsOf name (boot + 1) x
booted_of name boot x h = (h.0, omega arith)

booting_once : (n : Node) → IsOnceDisk n.name n.durable n.settled → IsOnceDisk n.name (acted Boots n).durable n.settled
booting_once n h = record {
  once = h.once;
  own = λ s i. booted_of n.name n.durable.boot s.serial (h.own s i);
  units = h.units;
  prepared = h.prepared;
  last = λ s e. booted_of n.name n.durable.boot s.serial (h.last s e);
}

pub unit_of : (n : Node) → IsKeptDisk n → (x : Id) → is_unit x n.durable.units ≡ true → IsOf n.name n.durable.boot x
unit_of n k x e = go (find_unit x (units_in n.durable.units.entries)) refl e
  where
    in_found : (us : List RecoveryUnit) (u : RecoveryUnit) → find_unit x us ≡ Some u → AllByRecursion (λ (v : RecoveryUnit). IsOf n.name n.durable.boot v.serial) us → IsOf n.name n.durable.boot x
    in_found [] u f all = let no : ⊥ = cc in absurd no
    in_found (v ∷ us) u f all = pick (same_id x v.serial) refl f (in_found us u)
      where
        pick : (b : Bool) → same_id x v.serial ≡ b → ◌≡◌ {A = Option RecoveryUnit} (if b then Some v else find_unit x us) (Some u) → (find_unit x us ≡ Some u → AllByRecursion (λ (w : RecoveryUnit). IsOf n.name n.durable.boot w.serial) us → IsOf n.name n.durable.boot x) → IsOf n.name n.durable.boot x
        pick true t g more = subst (IsOf n.name n.durable.boot) (sym (id_is x v.serial t)) all.0
        pick false t g more = more g all.1

    go : (o : Option RecoveryUnit) → find_unit x (units_in n.durable.units.entries) ≡ o → is_some o ≡ true → IsOf n.name n.durable.boot x
    go (Some u) f q = in_found (units_in n.durable.units.entries) u f (all_onto (IsOf n.name n.durable.boot) n.durable.units.entries [] k.filed.reached tt)
    go None f q = let no : ⊥ = cc in absurd no

boots_once : (n : Node) → IsKeptDisk n → IsOnceDisk n.name n.durable n.settled → IsOnceBoot (acted Boots n)
boots_once n k h = record {
  disk = booting_once n h;
  earlier = λ s i. let low = (h.own s i).1 in omega (arith, low);
  units = λ x e. let low = (unit_of n k x e).1 in omega (arith, low);
  table = λ b i. let r = branch_in (world.prepared_left n.durable) b i in ap (λ (c : Branch). is_prepared c.state) r.2;
  last = λ s e. let low = (h.last s e).1 in omega (arith, low);
}

undoing_once : (n : Node) (u : RecoveryUnit) → IsNextUnit n u → IsOnceDisk n.name n.durable n.settled → IsOnceDisk (undone_unit n u).name (undone_unit n u).durable (undone_unit n u).settled
undoing_once n u next h = record {
  once = ((λ s i e. both_ways _ (h.units s i) (subst (λ x. is_unit x n.durable.units ≡ true) (sym e) next.there)), h.once);
  own = λ s i. elim i [ inl e ↦ subst (λ (x : Settlement). IsOf n.name n.durable.boot x.serial) (sym e) next.of | inr j ↦ h.own s j ];
  units = λ s i. elim i [ inl e ↦ subst (λ (x : Settlement). is_unit x.serial (undone_unit n u).durable.units ≡ false) (sym e) (has_settled n u).gone | inr j ↦ fewer s.serial (h.units s j) ];
  prepared = λ s r i j e. elim i [
    | inl f ↦ no_record r j (e ∙ ap (λ (x : Settlement). x.serial) f) (find_unit u.serial (units_in n.durable.units.entries)) refl next.there
    | inr k ↦ h.prepared s r k j e
  ];
  last = λ s e. subst (λ (x : Settlement). IsOf n.name n.durable.boot x.serial) (some_is _ s e) next.of;
}
  where
    fewer : (x : Id) → is_unit x n.durable.units ≡ false → is_unit x (undone_unit n u).durable.units ≡ false
    fewer x none = go (same_id x u.serial) refl
      where
        go : (b : Bool) → same_id x u.serial ≡ b → is_unit x (undone_unit n u).durable.units ≡ false
        go true t = subst (λ y. is_unit y (undone_unit n u).durable.units ≡ false) (sym (id_is x u.serial t)) (has_settled n u).gone
        go false t = ap is_some ((has_settled n u).others x t) ∙ none

    no_record : (r : LogRecord) → In r (prepared_of (records_in n.durable.log)) → r.serial ≡ u.serial → (o : Option RecoveryUnit) → find_unit u.serial (units_in n.durable.units.entries) ≡ o → is_some o ≡ true → ⊥
    no_record r j e (Some v) f q = both_ways _ (next.unprepared v f) (next.kept.log.active r v j (ap (λ y. find_unit y (units_in n.durable.units.entries)) e ∙ f)).0
    no_record r j e None f q = cc

undoes_once : (n : Node) (u : RecoveryUnit) → IsNextUnit n u → IsOnceBoot n → IsOnceBoot (undone_unit n u)
undoes_once n u next h = record {
  disk = undoing_once n u next h.disk;
  earlier = λ s i. elim i [ inl e ↦ subst (λ (x : Settlement). x.serial.boot < n.durable.boot) (sym e) (h.units u.serial next.there) | inr j ↦ h.earlier s j ];
  units = λ x e. h.units x (older x e);
  table = λ b i. h.table b (in_cut (unit_key u) b n.volatile.branches i).0;
  last = λ s e. subst (λ (y : Settlement). y.serial.boot < n.durable.boot) (some_is _ s e) (h.units u.serial next.there);
}
  where
    older : (x : Id) → is_unit x (undone_unit n u).durable.units ≡ true → is_unit x n.durable.units ≡ true
    older x e = go (same_id x u.serial) refl
      where
        go : (b : Bool) → same_id x u.serial ≡ b → is_unit x n.durable.units ≡ true
        go true t = absurd (both_ways _ (has_settled n u).gone (subst (λ y. is_unit y (undone_unit n u).durable.units ≡ true) (id_is x u.serial t) e))
        go false t = ap is_some (sym ((has_settled n u).others x t)) ∙ e

comes_once : (n : Node) → IsUp (acted ComesUp n) → IsOnceBoot n → IsOnceUp false (acted ComesUp n)
comes_once n up h = record {
  once = h.disk.once;
  drawn = λ s i. ((h.disk.own s i).0, inl (h.earlier s i));
  apart = λ s i j.
      let b = of_serial s.serial n.volatile.branches j in
      let r = table.prepared_record b.branch in
      let state = state_prepared (b.branch).state (h.table b.branch b.there) in
      h.disk.prepared s r i (is_prepared_one (records_in n.durable.log) r (up.table.log.prepared r (record_there n.volatile.branches b.branch b.there state)) refl) b.serial;
  fresh = λ e. let no : ⊥ = cc in absurd no;
  last = λ s e. ((h.disk.last s e).0, inl (h.last s e));
}

-- Rows of a node that is up.

-- nothing is settled, and no branch comes
quiet_once : (free : Bool) (n m : Node) → m.name ≡ n.name → m.durable.boot ≡ n.durable.boot → m.durable.last ≡ n.durable.last → m.settled ≡ n.settled → m.volatile.drawn ≡ n.volatile.drawn →
    ((x : Id) → In x (branch_serials m.volatile.branches) → In x (branch_serials n.volatile.branches)) → IsOnceUp free n → IsOnceUp free m
quiet_once free n m name boot last settled drawn fewer h = record {
  once = subst SettledOnce (sym settled) h.once;
  drawn = λ s i. let d = h.drawn s (before s i) in ((d.0 ∙ sym name), elim d.1 [ inl e ↦ inl (subst (λ k. s.serial.boot < k) (sym boot) e) | inr e ↦ inr (e.0 ∙ sym boot, subst (λ k. s.serial.seq ≤ k) (sym drawn) e.1) ]);
  apart = λ s i j. h.apart s (before s i) (fewer s.serial j);
  fresh = λ f s i e. h.fresh f s (before s i) (e ∙ (λ j. record { node = name j; boot = boot j; seq = drawn j }));
  last = λ s e. let d = h.last s (sym last ∙ e) in ((d.0 ∙ sym name), elim d.1 [ inl a ↦ inl (subst (λ k. s.serial.boot < k) (sym boot) a) | inr a ↦ inr (a.0 ∙ sym boot, subst (λ k. s.serial.seq ≤ k) (sym drawn) a.1) ]);
}
  where
    before : (s : Settlement) → In s m.settled → In s n.settled
    before s i = subst (λ ss. In s ss) settled i

less_free : (free : Bool) (n : Node) → IsOnceUp free n → IsOnceUp false n
less_free free n h = record { once = h.once; drawn = h.drawn; apart = h.apart; fresh = λ e. let no : ⊥ = cc in absurd no; last = h.last }

drew_once : (free : Bool) (n : Node) → IsOnceUp free n → IsOnceUp true (acted Draws n)
drew_once free n h = record {
  once = h.once;
  drawn = λ s i. drawn_more n.name n.durable.boot n.volatile.drawn s.serial (h.drawn s i);
  apart = h.apart;
  fresh = λ e s i same. undrawn n s.serial (h.drawn s i) same;
  last = λ s e. drawn_more n.name n.durable.boot n.volatile.drawn s.serial (h.last s e);
}

-- the table's branches after an act, where its branch stands there
module _ (n : Node) (a : table.Act) (up : IsUp n) (stands : Stands n.volatile.branches a) where
  abbrev seen : protocol.Node
  seen = record { up = true; boot = 0; seq = 0; table = n.volatile.branches; records = n.volatile.records; lost = []; last = None }

  after : ApartAfter seen (protocol.node_after a seen)
  after = act_apart seen a (parts_apart (branch_serials n.volatile.branches) (record_serials n.volatile.records) up.table.apart) (keyed n.volatile.branches a stands)

  pub fewer_after : (x : Id) → In x (branch_serials (table_after a n.volatile.branches)) → In x (branch_serials n.volatile.branches)
  fewer_after x i = after.branches x i

-- a branch is settled
settled_once : (n : Node) (k : BranchKey) (o : Outcome) (reason : Reason) (r : Option LogRecord) (moment : ℕ) → IsUp n → Stands n.volatile.branches (Settles k o reason r) → IsOnceUp false n → IsOnceUp false (acted (Tables (Settles k o reason r) moment) n)
settled_once n k o reason r moment up stands h = record {
  once = ((λ s i e. h.apart s i (subst (λ x. In x (branch_serials n.volatile.branches)) (sym e) there)), h.once);
  drawn = λ s i. elim i [ inl e ↦ subst (λ (x : Settlement). IsDrawn n.name n.durable.boot n.volatile.drawn x.serial) (sym e) (branch_drawn n up.table k.serial there) | inr j ↦ h.drawn s j ];
  apart = λ s i j. elim i [ inl e ↦ gone (subst (λ (x : Settlement). In x.serial (branch_serials (cut k n.volatile.branches))) e j) | inr m ↦ h.apart s m (fewer_after n (Settles k o reason r) up stands s.serial j) ];
  fresh = λ e. let no : ⊥ = cc in absurd no;
  last = λ s e. subst (λ (x : Settlement). IsDrawn n.name n.durable.boot n.volatile.drawn x.serial) (some_is _ s e) (branch_drawn n up.table k.serial there);
}
  where
    found : (b : Branch) × In b n.volatile.branches × (b.key ≡ k)
    found = let t = stands.0 in (t.0, found_in k n.volatile.branches t.0 t.1, find-key k n.volatile.branches t.0 t.1)

    there : In k.serial (branch_serials n.volatile.branches)
    there = subst (λ (j : BranchKey). In j.serial (branch_serials n.volatile.branches)) found.2 (in_serials found.0 n.volatile.branches found.1)

    gone : In k.serial (branch_serials (cut k n.volatile.branches)) → ⊥
    gone i =
        let b = of_serial k.serial (cut k n.volatile.branches) i in
        let c = in_cut k b.branch n.volatile.branches b.there in
        serials_apart n.volatile.branches b.branch found.0 (differ n up.table) c.0 found.1 (λ e. c.1 (e ∙ found.2)) (b.serial ∙ ap (λ (j : BranchKey). j.serial) (sym found.2))

-- a change without a label
directed_once : (n : Node) (file : List ℕ) (cs : List _) → IsUp n → IsOnceUp false n → let s = answers.commit_settlement n (next_id n) (next_id n) in IsOnceUp false (acted (Directs file cs s) n)
directed_once n file cs up h =
    let s = answers.commit_settlement n (next_id n) (next_id n) in
    record {
      once = ((λ x i e. undrawn n x.serial (h.drawn x i) e), h.once);
      drawn = λ x i. elim i [
        | inl e ↦ subst (λ (y : Settlement). IsDrawn n.name n.durable.boot (n.volatile.drawn + 1) y.serial) (sym e) (refl, inr (refl, omega arith))
        | inr j ↦ drawn_more n.name n.durable.boot n.volatile.drawn x.serial (h.drawn x j)
      ];
      apart = λ x i j. elim i [
        | inl e ↦ undrawn n x.serial (branch_drawn n up.table x.serial j) (ap (λ (y : Settlement). y.serial) e)
        | inr m ↦ h.apart x m j
      ];
      fresh = λ e. let no : ⊥ = cc in absurd no;
      last = λ x e. subst (λ (y : Settlement). IsDrawn n.name n.durable.boot (n.volatile.drawn + 1) y.serial) (some_is s x e) (refl, inr (refl, omega arith));
    }

-- the serials of branches with one more
pub put_serials_new : (b : Branch) (x : Id) (bs : List Branch) → In x (branch_serials (put b bs)) → In x (branch_serials bs) ⊎ (x ≡ b.key.serial)
put_serials_new b x [] j = elim j [ inl e ↦ inr e | inr none ↦ absurd none ]
put_serials_new b x (c ∷ bs) j = pick (table.same_key c.key b.key) j (put_serials_new b x bs)
  where
    pick : (t : Bool) → In x (branch_serials (if t then b ∷ bs else c ∷ put b bs)) → (In x (branch_serials (put b bs)) → In x (branch_serials bs) ⊎ (x ≡ b.key.serial)) → In x (c.key.serial ∷ branch_serials bs) ⊎ (x ≡ b.key.serial)
    pick true k more = elim k [ inl e ↦ inr e | inr m ↦ inl (inr m) ]
    pick false k more = elim k [ inl e ↦ inl (inl e) | inr m ↦ elim (more m) [ inl old ↦ inl (inr old) | inr e ↦ inr e ] ]

-- a branch begins
begun_once : (n : Node) (b : Branch) (moment : ℕ) → b.key.serial ≡ latest_id n → IsOnceUp true n → IsOnceUp false (acted (Tables (Notes b) moment) n)
begun_once n b moment is h = record {
  once = h.once;
  drawn = h.drawn;
  apart = λ s i j. elim (put_serials_new b s.serial n.volatile.branches j) [ inl old ↦ h.apart s i old | inr e ↦ h.fresh refl s i (e ∙ is) ];
  fresh = λ e. let no : ⊥ = cc in absurd no;
  last = h.last;
}

tabled_once : (free : Bool) (n : Node) (a : table.Act) (moment : ℕ) → IsUp n → FitsTable free a moment n → IsOnceUp free n → IsOnceUp false (acted (Tables a moment) n)
tabled_once free n a moment up f h = go a f
  where
    quiet : (a : table.Act) → settlement_of a moment ≡ None → Stands n.volatile.branches a → IsOnceUp false (acted (Tables a moment) n)
    quiet a none stands = quiet_once false n (acted (Tables a moment) n) refl (boot a none) (last a none) (settled a none) refl (λ x i. fewer_after n a up stands x i) (less_free free n h)
      where
        boot : (a : table.Act) → settlement_of a moment ≡ None → (acted (Tables a moment) n).durable.boot ≡ n.durable.boot
        boot (Settles k o reason r) e = refl
        boot (Undoes k) e = refl
        boot _ e = refl

        last : (a : table.Act) → settlement_of a moment ≡ None → (acted (Tables a moment) n).durable.last ≡ n.durable.last
        last (Settles k o reason r) e = let no : ⊥ = cc in absurd no
        last (Undoes k) e = let no : ⊥ = cc in absurd no
        last _ e = refl

        settled : (a : table.Act) → settlement_of a moment ≡ None → (acted (Tables a moment) n).settled ≡ n.settled
        settled a e = ap (λ o. world.settled_more o n.settled) e

    go : (a : table.Act) → FitsTable free a moment n → IsOnceUp false (acted (Tables a moment) n)
    go (Settles k o reason r) g = elim g.stands [ inl stands ↦ settled_once n k o reason r moment up stands (less_free free n h) | inr none ↦ absurd none ]
    go (Undoes k) g = absurd g.row
    go (Notes b) g = elim g.stands [ inl stands ↦ quiet (Notes b) refl stands | inr begun ↦ begun_once n b moment begun.1 (subst (λ c. IsOnceUp c n) begun.0 h) ]
    go (Accepts b c) g = elim g.stands [ inl stands ↦ quiet (Accepts b c) refl stands | inr none ↦ absurd none ]
    go (Prepares b) g = elim g.stands [ inl stands ↦ quiet (Prepares b) refl stands | inr none ↦ absurd none ]
    go (Leaves k) g = elim g.stands [ inl stands ↦ quiet (Leaves k) refl stands | inr none ↦ absurd none ]
    go (Acknowledges k) g = elim g.stands [ inl stands ↦ quiet (Acknowledges k) refl stands | inr none ↦ absurd none ]
    go (Releases x rm) g = elim g.stands [ inl stands ↦ quiet (Releases x rm) refl stands | inr none ↦ absurd none ]
    go (Sends m) g = elim g.stands [ inl stands ↦ quiet (Sends m) refl stands | inr none ↦ absurd none ]
    go (Prints l) g = elim g.stands [ inl stands ↦ quiet (Prints l) refl stands | inr none ↦ absurd none ]

acted_once : (free : Bool) (ls : List Line) (o : Option Act) (n : Node) → RowFits free (record { act = o; lines = ls }) n → IsOnceUp free n → IsOnceUp (free_after free o) (node_after o n)
acted_once free ls None n f h = less_free free n h
acted_once free ls (Some (Tables a moment)) n f h = tabled_once free n a moment f.up f.fits h
acted_once free ls (Some (Directs file cs s)) n f h = subst (λ (x : Settlement). IsOnceUp false (acted (Directs file cs x) n)) (sym f.fits) (directed_once n file cs f.up (less_free free n h))
acted_once free ls (Some Draws) n f h = drew_once free n h
acted_once free ls (Some (Labels l)) n f h = h
acted_once free ls (Some (Numbers label serial)) n f h = h
acted_once free ls (Some (Changes tid serial file cs keys)) n f h = quiet_once false n (acted (Changes tid serial file cs keys) n) refl refl refl refl refl (λ x i. subst (λ xs. In x xs) (changed_serials serial n.volatile.branches) i) (less_free free n h)
acted_once free ls (Some Boots) n f h = absurd f.fits
acted_once free ls (Some (Formats slots journal)) n f h = absurd f.fits
acted_once free ls (Some ComesUp) n f h = absurd f.fits
acted_once free ls (Some (Creates place file)) n f h = quiet_once false n (acted (Creates place file) n) refl refl refl refl refl (λ x i. i) (less_free free n h)
acted_once free ls (Some (Marks file mark)) n f h = quiet_once false n (acted (Marks file mark) n) refl refl refl refl refl (λ x i. i) (less_free free n h)
acted_once free ls (Some (Saves file start)) n f h = quiet_once false n (acted (Saves file start) n) refl refl refl refl refl (λ x i. i) (less_free free n h)
acted_once free ls (Some (Recovers file start buckets m)) n f h = quiet_once false n (acted (Recovers file start buckets m) n) refl refl refl refl refl (λ x i. i) (less_free free n h)
acted_once free ls (Some (Holds serial file keys)) n f h = quiet_once false n (acted (Holds serial file keys) n) refl refl refl refl refl (λ x i. i) (less_free free n h)
acted_once free ls (Some (Arms writes choice)) n f h = quiet_once false n (acted (Arms writes choice) n) refl refl refl refl refl (λ x i. i) (less_free free n h)
acted_once free ls (Some (Clocks now)) n f h = quiet_once false n (acted (Clocks now) n) refl refl refl refl refl (λ x i. i) (less_free free n h)
acted_once free ls (Some (world.Declares rms)) n f h = quiet_once false n (acted (world.Declares rms) n) refl refl refl refl refl (λ x i. i) (less_free free n h)
acted_once free ls (Some Falls) n f h = quiet_once false n (acted Falls n) refl refl refl refl refl (λ x i. i) (less_free free n h)

pub once_keeps : Keeps once
once_keeps = record {
  none = λ a. refl;
  append = λ xs ys a. refl;
  plain = λ ls a h v. refl;
  closes = closes_plain once (λ ls a h. refl);
  same = λ a n m name durable settled h. subst (λ x. IsOnceDisk x m.durable m.settled) (sym name) (subst (λ d. IsOnceDisk n.name d m.settled) (sym durable) (subst (IsOnceDisk n.name n.durable) (sym settled) h));
  row = λ free r n a q f up h. acted_once free r.lines r.act n f h;
  under = λ free r n a act q f is d up h. falls_once (free_after free r.act) (acted act n) up (subst (λ o. IsOnceUp (free_after free r.act) (node_after o n)) is (acted_once free r.lines r.act n f h));
  falls = λ free a n up h. falls_once free n up h;
  weaken = λ free a n h. less_free free n h;
  half = λ a n standing k ready may h. half_once n standing h;
  spoils = λ a n h. record { once = h.once; own = h.own; units = h.units; prepared = h.prepared; last = h.last };
  boots = λ a n k h. boots_once n k h;
  booting = λ a n k h. booting_once n h;
  undoes = λ a n u next h. undoes_once n u next h;
  undoing = λ a n u next h. undoing_once n u next h.disk;
  rests = λ a n k h. h.disk;
  none_ready = λ n e. tt;
  same_ready = λ n m e h. tt;
  comes = λ a n up h closed. comes_once n up h;
}
