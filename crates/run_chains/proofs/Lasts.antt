-- The last settlement of a disk is of no unit of its journal and of no prepared record; and while its node is up, of no branch.
use Rattle.std.proofs.Common.{◌≡◌, ◌⊎◌, ◌≤◌, ◌<◌, ℕ, ◌+◌, List, [], ◌∷◌, inl, inr, Bool, true, false, Option, Some, None, if◌then◌else◌, refl, sym, ◌∙◌, ap, subst, arith}
use Rattle.std.specs.Prelude.{is_some, not, ◌||◌}
use Rattle.std.specs.Str.{bytes_eq}
use Rattle.std.proofs.lemmas.Bool.{both_ways, false_from_ne_true}
use Rattle.vms_model.specs.Ids.{Id}
use Rattle.vms_model.specs.Transactions.{Outcome, Reason}
use Rattle.world_laws.specs.transcript_model.Lines as line
use Rattle.world_laws.specs.transcript_model.Lines.{Line, Cause}
use Rattle.world_laws.specs.script_model.Statements.{Statement, At, Deliver, LinkDown, Settle, Reading, Blank, Says, Bad}
use Rattle.world_laws.specs.script_model.Grammar.{reading}
use Rattle.records_model.specs.History.{same_id}
use Rattle.unit_laws.specs.Units.{Map}
use Rattle.unit_laws.specs.Journal.{RecoveryUnit, find_unit, units_in}
use Rattle.unit_laws.specs.JournalLaws.{is_unit}
use Rattle.commit_protocol.specs.Messages.{LogRecord}
use Rattle.commit_protocol.specs.Table as table
use Rattle.commit_protocol.specs.Table.{Branch, Key as BranchKey, Accepts, Acknowledges, Leaves, Notes, Prepares, Prints, Releases, Sends, Settles, Undoes, branch_serials, cut}
use Rattle.commit_protocol.specs.Allowed.{is_prepared}
use Rattle.commit_protocol.specs.Standing.{Stands}
use Rattle.commit_protocol.specs.World.{In}
use Rattle.commit_protocol.proofs.Lists.{find-key}
use Rattle.world_laws.specs.log_laws.Slots.{prepared_of, records_in}
use Rattle.world_laws.proofs.log_laws.Reading.{is_prepared_one}
use Rattle.world_laws.specs.run_model.World as world
use Rattle.world_laws.specs.run_model.World.{World, Shared, Node, DiskCounts, Durable, Act, Arms, Boots, Changes, Clocks, ComesUp, Creates, Directs, Draws, Falls, Formats, Holds, IsOpening, Labels, LastIsReached, Marks, Saves, Recovers, Numbers, Tables, Settlement, aborted_prepared, acted, find_node, next_id, opened, settlement_of, with_half}
use Rattle.world_laws.specs.run_model.Answers as answers
use Rattle.world_laws.specs.run_model.Answers.{Task, task_service, unit_key}
use Rattle.world_laws.specs.run_model.Operations.{refused_if}
use Rattle.world_laws.specs.run_model.Steps.{Choice, TaskAllowed, node_after, task_effect, with_unknown_volume}
use Rattle.world_laws.specs.run_model.Statements.{Part, PartEffect, Begins, Phases, Step, Allowed, RoseAt, begun_with, part_effect, phases_of, refused_at_once, stops_at}
use Rattle.world_laws.specs.run_model.Transcript.{AreOpening, Entry, Legal, Turn}
use Rattle.world_laws.proofs.run_model.PartLemmas.{phases_fold}
use Rattle.world_laws.proofs.run_model.PartTasks.{View, Doing, Fixed, view}
use Rattle.world_laws.proofs.run_model.Refusing.{each_phase}
use Rattle.world_laws.proofs.run_model.TaskLemmas.{effect_name}
use Rattle.world_laws.specs.Nodes.{IsKeptDisk, IsOf, IsUp}
use Rattle.world_laws.specs.Running.{IsDrawn}
use Rattle.world_laws.proofs.AnswerLemmas.{neither, not_refused}
use Rattle.world_laws.proofs.BootLemmas.{branch_in}
use Rattle.world_laws.proofs.FindLemmas.{some_is}
use Rattle.world_laws.proofs.IdLemmas.{id_is}
use Rattle.world_laws.proofs.LogLemmas.{branch_of, record_there, state_prepared}
use Rattle.world_laws.proofs.RestartLemmas.{has_settled, undone_unit}
use Rattle.world_laws.proofs.ServedLemmas.{undrawn}
use Rattle.world_laws.proofs.TableLemmas.{changed_serials, found_in, in_cut, in_serials, of_serial, serials_apart}
use Rattle.world_laws.proofs.UpLemmas.{branch_drawn, differ, drawn_more}
use Rattle.world_laws.proofs.WorldLemmas.{each_opening}
use Rattle.run_laws.specs.Accounts.{made_anew}
use Rattle.run_laws.specs.Promises.{AreLastApart, IsLastApart}
use Rattle.run_laws.proofs.run_agreement.Barred.{quiet_powered}
use Rattle.run_laws.proofs.DumpsShown.{WasMade}
use Rattle.run_laws.proofs.Keeping.{IsNextUnit, Keeps, Kept, Scheme, all_take, any_effect, closes_plain}
use Rattle.run_laws.proofs.MadeAnew.{made_new}
use Rattle.run_laws.proofs.Once.{fewer_after, of_drawn, put_serials_new, unit_branch, unit_of}
use Rattle.run_laws.proofs.RowFits.{FitsTable, RowFits, free_after, latest_id}
use Rattle.run_laws.proofs.SoundWorlds.{Beside, Changed, Here, IsSound, IsSoundNode, begins_sound, changed, legal_sound, opening_sound, part_sound, sound_node, unused}
use Rattle.run_chains.specs.Chains.{LastsStayApart}

-- What is known.

-- Of a disk: its last settlement is of this node, of a boot that it has counted, and is of no unit and of no prepared record.
record IsLastDisk (name : List ℕ) (d : Durable) : Type 0 where
  own : (s : Settlement) → d.last ≡ Some s → IsOf name d.boot s.serial
  units : (s : Settlement) → d.last ≡ Some s → is_unit s.serial d.units ≡ false
  prepared : (s : Settlement) (r : LogRecord) → d.last ≡ Some s → In r (prepared_of (records_in d.log)) → r.serial ≡ s.serial → ⊥

-- Of a node that is up: the id of the last that its disk has was drawn, and is of no branch.
record IsLastUp (free : Bool) (n : Node) : Type 0 where
  drawn : (s : Settlement) → n.durable.last ≡ Some s → IsDrawn n.name n.durable.boot n.volatile.drawn s.serial
  apart : (s : Settlement) → n.durable.last ≡ Some s → In s.serial (branch_serials n.volatile.branches) → ⊥
  fresh : free ≡ true → (s : Settlement) → n.durable.last ≡ Some s → s.serial ≡ latest_id n → ⊥

-- Of a node that is booted: besides, its last settlement and each unit are of an earlier boot, and all branches are prepared.
record IsLastBoot (n : Node) : Type 0 where
  disk : IsLastDisk n.name n.durable
  earlier : (s : Settlement) → n.durable.last ≡ Some s → s.serial.boot < n.durable.boot
  units : (x : Id) → is_unit x n.durable.units ≡ true → x.boot < n.durable.boot
  table : (b : Branch) → In b n.volatile.branches → is_prepared b.state ≡ true

abbrev lasts : Scheme
lasts = record { Told = Unit {0}; more = λ ls a. a; Up = λ free a n. IsLastUp free n; Disk = λ a n. IsLastDisk n.name n.durable; Boots = λ a n. IsLastBoot n; Ready = λ n. Unit {0}; Takes = λ o. Unit {0}; special = λ r. false }

-- Disks.

falls_last : (free : Bool) (n : Node) → IsUp n → IsLastUp free n → IsLastDisk n.name n.durable
falls_last free n up h = record {
  own = λ s e. of_drawn n.name n.durable.boot n.volatile.drawn s.serial (h.drawn s e);
  units = λ s e. false_from_ne_true _ (λ there. h.apart s e (unit_branch n up s.serial there));
  prepared = λ s r e j same. let b = branch_of n up.table r j in
      h.apart s e (subst (λ y. In y (branch_serials n.volatile.branches)) (sym (ap (λ (q : LogRecord). q.serial) b.is) ∙ same) (in_serials b.branch n.volatile.branches b.there));
}

half_last : (n : Node) (standing : List ℕ → Map) → IsLastDisk n.name n.durable → IsLastDisk n.name (with_half (aborted_prepared n.under_way n.durable) standing n.durable)
half_last n standing h = go (aborted_prepared n.under_way n.durable)
  where
    go : (o : Option Id) → IsLastDisk n.name (with_half o standing n.durable)
    go None = h
    go (Some serial) = record { own = h.own; units = h.units; prepared = h.prepared }

-- A boot.

booting_last : (n : Node) → IsLastDisk n.name n.durable → IsLastDisk n.name (acted Boots n).durable
booting_last n h = record { own = λ s e. let o = h.own s e in (o.0, (let low = o.1 in omega (arith, low))); units = h.units; prepared = h.prepared }

boots_last : (n : Node) → IsKeptDisk n → IsLastDisk n.name n.durable → IsLastBoot (acted Boots n)
boots_last n k h = record {
  disk = booting_last n h;
  earlier = λ s e. let low = (h.own s e).1 in omega (arith, low);
  units = λ x e. let low = (unit_of n k x e).1 in omega (arith, low);
  table = λ b i. let r = branch_in (world.prepared_left n.durable) b i in ap (λ (c : Branch). is_prepared c.state) r.2;
}

undoing_last : (n : Node) (u : RecoveryUnit) → IsNextUnit n u → IsLastDisk n.name n.durable → IsLastDisk (undone_unit n u).name (undone_unit n u).durable
undoing_last n u next h = record {
  own = λ s e. subst (λ (x : Settlement). IsOf n.name n.durable.boot x.serial) (some_is _ s e) next.of;
  units = λ s e. subst (λ (x : Settlement). is_unit x.serial (undone_unit n u).durable.units ≡ false) (some_is _ s e) (has_settled n u).gone;
  prepared = λ s r e j same. no_record r j (same ∙ ap (λ (x : Settlement). x.serial) (sym (some_is _ s e))) (find_unit u.serial (units_in n.durable.units.entries)) refl next.there;
}
  where
    no_record : (r : LogRecord) → In r (prepared_of (records_in n.durable.log)) → r.serial ≡ u.serial → (o : Option RecoveryUnit) → find_unit u.serial (units_in n.durable.units.entries) ≡ o → is_some o ≡ true → ⊥
    no_record r j e (Some v) f q = both_ways _ (next.unprepared v f) (next.kept.log.active r v j (ap (λ y. find_unit y (units_in n.durable.units.entries)) e ∙ f)).0
    no_record r j e None f q = cc

undoes_last : (n : Node) (u : RecoveryUnit) → IsNextUnit n u → IsLastBoot n → IsLastBoot (undone_unit n u)
undoes_last n u next h = record {
  disk = undoing_last n u next h.disk;
  earlier = λ s e. subst (λ (y : Settlement). y.serial.boot < n.durable.boot) (some_is _ s e) (h.units u.serial next.there);
  units = λ x e. h.units x (older x e);
  table = λ b i. h.table b (in_cut (unit_key u) b n.volatile.branches i).0;
}
  where
    older : (x : Id) → is_unit x (undone_unit n u).durable.units ≡ true → is_unit x n.durable.units ≡ true
    older x e = go (same_id x u.serial) refl
      where
        go : (b : Bool) → same_id x u.serial ≡ b → is_unit x n.durable.units ≡ true
        go true t = absurd (both_ways _ (has_settled n u).gone (subst (λ y. is_unit y (undone_unit n u).durable.units ≡ true) (id_is x u.serial t) e))
        go false t = ap is_some (sym ((has_settled n u).others x t)) ∙ e

comes_last : (n : Node) → IsUp (acted ComesUp n) → IsLastBoot n → IsLastUp false (acted ComesUp n)
comes_last n up h = record {
  drawn = λ s e. ((h.disk.own s e).0, inl (h.earlier s e));
  apart = λ s e j.
      let b = of_serial s.serial n.volatile.branches j in
      let r = table.prepared_record b.branch in
      let state = state_prepared (b.branch).state (h.table b.branch b.there) in
      h.disk.prepared s r e (is_prepared_one (records_in n.durable.log) r (up.table.log.prepared r (record_there n.volatile.branches b.branch b.there state)) refl) b.serial;
  fresh = λ e. let no : ⊥ = cc in absurd no;
}

-- Rows of a node that is up.

-- nothing is settled, and no branch comes
quiet_last : (free : Bool) (n m : Node) → m.name ≡ n.name → m.durable.boot ≡ n.durable.boot → m.durable.last ≡ n.durable.last → m.volatile.drawn ≡ n.volatile.drawn →
    ((x : Id) → In x (branch_serials m.volatile.branches) → In x (branch_serials n.volatile.branches)) → IsLastUp free n → IsLastUp free m
quiet_last free n m name boot last drawn fewer h = record {
  drawn = λ s e. let d = h.drawn s (sym last ∙ e) in ((d.0 ∙ sym name), elim d.1 [ inl a ↦ inl (subst (λ k. s.serial.boot < k) (sym boot) a) | inr a ↦ inr (a.0 ∙ sym boot, subst (λ k. s.serial.seq ≤ k) (sym drawn) a.1) ]);
  apart = λ s e j. h.apart s (sym last ∙ e) (fewer s.serial j);
  fresh = λ f s e same. h.fresh f s (sym last ∙ e) (same ∙ (λ j. record { node = name j; boot = boot j; seq = drawn j }));
}

less_free : (free : Bool) (n : Node) → IsLastUp free n → IsLastUp false n
less_free free n h = record { drawn = h.drawn; apart = h.apart; fresh = λ e. let no : ⊥ = cc in absurd no }

drew_last : (free : Bool) (n : Node) → IsLastUp free n → IsLastUp true (acted Draws n)
drew_last free n h = record {
  drawn = λ s e. drawn_more n.name n.durable.boot n.volatile.drawn s.serial (h.drawn s e);
  apart = h.apart;
  fresh = λ f s e same. undrawn n s.serial (h.drawn s e) same;
}

-- a branch is settled
settled_last : (n : Node) (k : BranchKey) (o : Outcome) (reason : Reason) (r : Option LogRecord) (moment : ℕ) → IsUp n → Stands n.volatile.branches (Settles k o reason r) → IsLastUp false (acted (Tables (Settles k o reason r) moment) n)
settled_last n k o reason r moment up stands = record {
  drawn = λ s e. subst (λ (x : Settlement). IsDrawn n.name n.durable.boot n.volatile.drawn x.serial) (some_is _ s e) (branch_drawn n up.table k.serial there);
  apart = λ s e j. gone (subst (λ (x : Settlement). In x.serial (branch_serials (cut k n.volatile.branches))) (sym (some_is _ s e)) j);
  fresh = λ e. let no : ⊥ = cc in absurd no;
}
  where
    found : (b : Branch) × In b n.volatile.branches × (b.key ≡ k)
    found = let t = stands.0 in (t.0, found_in k n.volatile.branches t.0 t.1, find-key k n.volatile.branches t.0 t.1)

    there : In k.serial (branch_serials n.volatile.branches)
    there = subst (λ (j : BranchKey). In j.serial (branch_serials n.volatile.branches)) found.2 (in_serials found.0 n.volatile.branches found.1)

    gone : In k.serial (branch_serials (cut k n.volatile.branches)) → ⊥
    gone i =
        let b = of_serial k.serial (cut k n.volatile.branches) i in
        let c = in_cut k b.branch n.volatile.branches b.there in
        serials_apart n.volatile.branches b.branch found.0 (differ n up.table) c.0 found.1 (λ e. c.1 (e ∙ found.2)) (b.serial ∙ ap (λ (j : BranchKey). j.serial) (sym found.2))

-- a change without a label
directed_last : (n : Node) (file : List ℕ) (cs : List _) → IsUp n → let s = answers.commit_settlement n (next_id n) (next_id n) in IsLastUp false (acted (Directs file cs s) n)
directed_last n file cs up =
    let s = answers.commit_settlement n (next_id n) (next_id n) in
    record {
      drawn = λ x e. subst (λ (y : Settlement). IsDrawn n.name n.durable.boot (n.volatile.drawn + 1) y.serial) (some_is s x e) (refl, inr (refl, omega arith));
      apart = λ x e j. undrawn n x.serial (branch_drawn n up.table x.serial j) (ap (λ (y : Settlement). y.serial) (sym (some_is s x e)));
      fresh = λ e. let no : ⊥ = cc in absurd no;
    }

-- a branch begins
begun_last : (n : Node) (b : Branch) (moment : ℕ) → b.key.serial ≡ latest_id n → IsLastUp true n → IsLastUp false (acted (Tables (Notes b) moment) n)
begun_last n b moment is h = record {
  drawn = h.drawn;
  apart = λ s e j. elim (put_serials_new b s.serial n.volatile.branches j) [ inl old ↦ h.apart s e old | inr new ↦ h.fresh refl s e (new ∙ is) ];
  fresh = λ e. let no : ⊥ = cc in absurd no;
}

tabled_last : (free : Bool) (n : Node) (a : table.Act) (moment : ℕ) → IsUp n → FitsTable free a moment n → IsLastUp free n → IsLastUp false (acted (Tables a moment) n)
tabled_last free n a moment up f h = go a f
  where
    quiet : (a : table.Act) → settlement_of a moment ≡ None → Stands n.volatile.branches a → IsLastUp false (acted (Tables a moment) n)
    quiet a none stands = quiet_last false n (acted (Tables a moment) n) refl (boot a none) (last a none) refl (λ x i. fewer_after n a up stands x i) (less_free free n h)
      where
        boot : (a : table.Act) → settlement_of a moment ≡ None → (acted (Tables a moment) n).durable.boot ≡ n.durable.boot
        boot (Settles k o reason r) e = refl
        boot (Undoes k) e = refl
        boot _ e = refl

        last : (a : table.Act) → settlement_of a moment ≡ None → (acted (Tables a moment) n).durable.last ≡ n.durable.last
        last (Settles k o reason r) e = let no : ⊥ = cc in absurd no
        last (Undoes k) e = let no : ⊥ = cc in absurd no
        last _ e = refl

    go : (a : table.Act) → FitsTable free a moment n → IsLastUp false (acted (Tables a moment) n)
    go (Settles k o reason r) g = elim g.stands [ inl stands ↦ settled_last n k o reason r moment up stands | inr none ↦ absurd none ]
    go (Undoes k) g = absurd g.row
    go (Notes b) g = elim g.stands [ inl stands ↦ quiet (Notes b) refl stands | inr begun ↦ begun_last n b moment begun.1 (subst (λ c. IsLastUp c n) begun.0 h) ]
    go (Accepts b c) g = elim g.stands [ inl stands ↦ quiet (Accepts b c) refl stands | inr none ↦ absurd none ]
    go (Prepares b) g = elim g.stands [ inl stands ↦ quiet (Prepares b) refl stands | inr none ↦ absurd none ]
    go (Leaves k) g = elim g.stands [ inl stands ↦ quiet (Leaves k) refl stands | inr none ↦ absurd none ]
    go (Acknowledges k) g = elim g.stands [ inl stands ↦ quiet (Acknowledges k) refl stands | inr none ↦ absurd none ]
    go (Releases x rm) g = elim g.stands [ inl stands ↦ quiet (Releases x rm) refl stands | inr none ↦ absurd none ]
    go (Sends m) g = elim g.stands [ inl stands ↦ quiet (Sends m) refl stands | inr none ↦ absurd none ]
    go (Prints l) g = elim g.stands [ inl stands ↦ quiet (Prints l) refl stands | inr none ↦ absurd none ]

acted_last : (free : Bool) (ls : List Line) (o : Option Act) (n : Node) → RowFits free (record { act = o; lines = ls }) n → IsLastUp free n → IsLastUp (free_after free o) (node_after o n)
acted_last free ls None n f h = less_free free n h
acted_last free ls (Some (Tables a moment)) n f h = tabled_last free n a moment f.up f.fits h
acted_last free ls (Some (Directs file cs s)) n f h = subst (λ (x : Settlement). IsLastUp false (acted (Directs file cs x) n)) (sym f.fits) (directed_last n file cs f.up)
acted_last free ls (Some Draws) n f h = drew_last free n h
acted_last free ls (Some (Labels l)) n f h = h
acted_last free ls (Some (Numbers label serial)) n f h = h
acted_last free ls (Some (Changes tid serial file cs keys)) n f h = quiet_last false n (acted (Changes tid serial file cs keys) n) refl refl refl refl (λ x i. subst (λ xs. In x xs) (changed_serials serial n.volatile.branches) i) (less_free free n h)
acted_last free ls (Some Boots) n f h = absurd f.fits
acted_last free ls (Some (Formats slots journal)) n f h = absurd f.fits
acted_last free ls (Some ComesUp) n f h = absurd f.fits
acted_last free ls (Some (Creates place file)) n f h = quiet_last false n (acted (Creates place file) n) refl refl refl refl (λ x i. i) (less_free free n h)
acted_last free ls (Some (Marks file mark)) n f h = quiet_last false n (acted (Marks file mark) n) refl refl refl refl (λ x i. i) (less_free free n h)
acted_last free ls (Some (Saves file start)) n f h = quiet_last false n (acted (Saves file start) n) refl refl refl refl (λ x i. i) (less_free free n h)
acted_last free ls (Some (Recovers file start buckets m)) n f h = quiet_last false n (acted (Recovers file start buckets m) n) refl refl refl refl (λ x i. i) (less_free free n h)
acted_last free ls (Some (Holds serial file keys)) n f h = quiet_last false n (acted (Holds serial file keys) n) refl refl refl refl (λ x i. i) (less_free free n h)
acted_last free ls (Some (Arms writes choice)) n f h = quiet_last false n (acted (Arms writes choice) n) refl refl refl refl (λ x i. i) (less_free free n h)
acted_last free ls (Some (Clocks now)) n f h = quiet_last false n (acted (Clocks now) n) refl refl refl refl (λ x i. i) (less_free free n h)
acted_last free ls (Some (world.Declares rms)) n f h = quiet_last false n (acted (world.Declares rms) n) refl refl refl refl (λ x i. i) (less_free free n h)
acted_last free ls (Some Falls) n f h = quiet_last false n (acted Falls n) refl refl refl refl (λ x i. i) (less_free free n h)

lasts_keep : Keeps lasts
lasts_keep = record {
  none = λ a. refl;
  append = λ xs ys a. refl;
  plain = λ ls a h v. refl;
  closes = closes_plain lasts (λ ls a h. refl);
  same = λ a n m name durable settled h. subst (λ x. IsLastDisk x m.durable) (sym name) (subst (IsLastDisk n.name) (sym durable) h);
  row = λ free r n a q f up h. acted_last free r.lines r.act n f h;
  under = λ free r n a act q f is d up h. falls_last (free_after free r.act) (acted act n) up (subst (λ o. IsLastUp (free_after free r.act) (node_after o n)) is (acted_last free r.lines r.act n f h));
  falls = λ free a n up h. falls_last free n up h;
  weaken = λ free a n h. less_free free n h;
  half = λ a n standing k ready may h. half_last n standing h;
  spoils = λ a n h. record { own = h.own; units = h.units; prepared = h.prepared };
  boots = λ a n k h. boots_last n k h;
  booting = λ a n k h. booting_last n h;
  undoes = λ a n u next h. undoes_last n u next h;
  undoing = λ a n u next h. undoing_last n u next h.disk;
  rests = λ a n k h. h.disk;
  none_ready = λ n e. tt;
  same_ready = λ n m e h. tt;
  comes = λ a n up h closed. comes_last n up h;
}

-- Worlds.

abbrev HasApart : Node → Type 0
HasApart n = Kept lasts lasts_keep tt n

made_last : (slots journal : ℕ) (m : Node) → m.settled ≡ [] → IsLastDisk m.name (acted (Formats slots journal) m).durable
made_last slots journal m none = record {
  own = λ s e. let no : ⊥ = cc in absurd no;
  units = λ s e. let no : ⊥ = cc in absurd no;
  prepared = λ s r e. let no : ⊥ = cc in absurd no;
}

effect_last : (s : Shared) (stops : ℕ) (n : Node) (t : Task) (c : Choice) (rises : Cause → Type 0) → IsSoundNode s n → HasApart n → TaskAllowed s stops n t rises c → HasApart (task_effect s stops n t c).node
effect_last s stops n t c rises sound h may = any_effect lasts lasts_keep s stops n tt sound.kept h (unused s n sound) (λ off. made_last) t (λ off. all_take lasts (λ o. tt) ((task_service t).rows s n)) (λ on. tt) c rises may

-- of the node of this name
module _ (name : List ℕ) where
  abbrev HaveApart : World → Type 0
  HaveApart w = (n : Node) → find_node name w.nodes ≡ Some n → HasApart n

  part_last : (w : World) (p : Part) (c : Choice) (after : List DiskCounts) → Allowed w p after c → IsSound w → HaveApart w → HaveApart (part_effect w p c).world
  part_last w p c after allowed sound h = go (view w p)
    where
      go : View w p → HaveApart (part_effect w p c).world
      go (Fixed answer ends kind is) = subst (λ (x : PartEffect). HaveApart x.world) (sym (is c)) h
      go (Doing node t n named found does may) =
          let e = task_effect w.shared (stops_at node w) n t c in
          subst (λ (x : PartEffect). HaveApart x.world) (sym (does c)) (λ k is.
          at node n e.node k (λ same. effect_last w.shared (stops_at node w) n t c (λ cause. RoseAt w node cause after) (sound_node w sound node n found) (h n (subst (λ x. find_node x w.nodes ≡ Some n) (sym same) found)) (may after c allowed)) (changed node name n w.nodes e.node k (effect_name w.shared (stops_at node w) n t c) found is))
        where
          at : (node : List ℕ) (n m k : Node) → (name ≡ node → HasApart m) → Changed node name n w.nodes m k → HasApart k
          at node n m k new (Here same is) = subst HasApart (sym is) (new same)
          at node n m k new (Beside apart is) = h k is

  begins_last : (s : Statement) (w : World) → HaveApart w → HaveApart (begun_with s w)
  begins_last Settle w h = h
  begins_last (At other request) w h = h
  begins_last (Deliver number) w h = h
  begins_last (LinkDown a b) w h = h

  step_last : (w v : World) (s : Statement) (lines : List Line) → Step w s lines v → IsSound w → HaveApart w → HaveApart v
  step_last w v s lines step sound h = subst HaveApart (sym step.goes) (go (refused_at_once w s) step.does)
    where
      go : (o : Option Line) → Begins o (Phases (phases_of s) v.disks (begun_with s w) line.Normal) w step.events step.answer step.world → HaveApart step.world
      go (Some refusal) d = subst HaveApart (sym d.2) h
      go None d = phases_fold v.disks (λ p. Unit {0}) (λ given. Unit {0}) (λ u rest answer x. IsSound u → HaveApart u → HaveApart x)
          (λ u given q sd k. k)
          (λ u p c ok allowed ends sd k. part_last u p c v.disks allowed sd k)
          (λ u p c ok allowed on. (tt, λ rest answer x more sd k. more (part_sound u p c v.disks allowed sd) (part_last u p c v.disks allowed sd k)))
          (phases_of s) (each_phase s) (begun_with s w) line.Normal step.events step.answer step.world tt d (begins_sound s w sound) (begins_last s w h)

  turn_last : (w v : World) (r : Reading) (lines : List Line) → Turn w r lines v → IsSound w → HaveApart w → HaveApart v
  turn_last w v Blank lines t sound h = subst HaveApart (sym t.1) h
  turn_last w v (Says s) lines t sound h = step_last w v s lines t sound h
  turn_last w v (Bad column) lines t sound h = absurd t

  -- a volume that was just made has none
  made_apart : (w v : World) (e : Entry) → IsSound w → Turn w (reading e.source.text) e.lines v → made_anew name (reading e.source.text) e.lines ≡ true → HaveApart v
  made_apart w v e sound t made m found =
      let new = made_new w v name (reading e.source.text) e.lines t made m found in
      let off : w.shared.in_use ≡ false =
      not_refused w.shared.in_use line.VolumeInUse (neither (refused_if w.shared.in_use line.VolumeInUse) _ (neither (refused_if (not (new.old.up || true)) line.NodeDown) _ new.unrefused).1).0 in
      let unused = (sound.kept name new.old new.was).unused off in
      let z : Node = acted (Formats new.slots new.journal) (with_unknown_volume true (world.powered new.outturn new.stops new.old)) in
      let down : z.up ≡ false = ap (λ (y : Node). y.up) (quiet_powered new.outturn new.stops new.old unused.1) ∙ unused.0 in
      subst HasApart new.is (record {
        disk = record { own = λ s e. let no : ⊥ = cc in absurd no; units = λ s e. let no : ⊥ = cc in absurd no; prepared = λ s r e. let no : ⊥ = cc in absurd no };
        way = λ act under. let clash : ◌≡◌ {A = Option Act} None (Some act) = under in let no : ⊥ = cc in absurd no;
        runs = λ up. absurd (both_ways z.up down up);
      })

  -- from a world in which it is so, or where the entries make the volume
  legal_last : (opening w : World) (es : List Entry) → IsSound opening → HaveApart opening ⊎ WasMade name es → Legal opening es w → HaveApart w
  legal_last opening w [] sound (inl h) legal = subst HaveApart (sym legal) h
  legal_last opening w [] sound (inr none) legal = absurd none
  legal_last opening w (e ∷ es) sound start legal = go start (legal_last opening legal.0 es sound)
    where
      mid : IsSound legal.0
      mid = legal_sound opening legal.0 es sound legal.1

      go : HaveApart opening ⊎ WasMade name (e ∷ es) → (HaveApart opening ⊎ WasMade name es → Legal opening es legal.0 → HaveApart legal.0) → HaveApart w
      go (inl h) more = turn_last legal.0 w (reading e.source.text) e.lines legal.2 mid (more (inl h) legal.1)
      go (inr (inl now)) more = made_apart legal.0 w e mid legal.2 now
      go (inr (inr was)) more = turn_last legal.0 w (reading e.source.text) e.lines legal.2 mid (more (inr was) legal.1)

each_apart : (ns : List Node) → AreLastApart ns → (node : List ℕ) (n : Node) → find_node node ns ≡ Some n → IsLastApart n
each_apart [] h node n e = let none : ⊥ = cc in absurd none
each_apart (m ∷ ns) h node n e = go (bytes_eq node m.name) e (each_apart ns h.1 node n)
  where
    go : (b : Bool) → ◌≡◌ {A = Option Node} (if b then Some m else find_node node ns) (Some n) → (find_node node ns ≡ Some n → IsLastApart n) → IsLastApart n
    go true k more = subst IsLastApart (some_is m n k) h.0
    go false k more = more k

opening_last : (n : Node) → IsOpening n → IsLastApart n → HasApart n
opening_last n o h = record {
  disk = record {
    own = λ s e. let k : LastIsReached n (Some s) = subst (LastIsReached n) e o.last in k;
    units = λ s e. (h s e).0;
    prepared = λ s r e. (h s e).1 r;
  };
  way = λ act e. let clash : ◌≡◌ {A = Option Act} None (Some act) = sym o.under_way ∙ e in let no : ⊥ = cc in absurd no;
  runs = λ up. absurd (both_ways n.up o.down up);
}

disk_apart : (n : Node) → IsLastDisk n.name n.durable → IsLastApart n
disk_apart n d = λ s e. (d.units s e, λ r i. d.prepared s r e i)

-- of one node, whatever the others have; and so it is where entries make its volume
pub last_stays_apart : (nodes : List Node) (disks : List DiskCounts) (es : List Entry) (closing : World) → AreOpening nodes → (name : List ℕ) → ((n : Node) → find_node name nodes ≡ Some n → IsLastApart n) ⊎ WasMade name es → Legal (opened nodes disks) es closing →
    (n : Node) → find_node name closing.nodes ≡ Some n → IsLastApart n × ((act : Act) → n.under_way ≡ Some act → IsLastApart (acted act n))
last_stays_apart nodes disks es closing opening name start legal n found =
    let h = legal_last name (opened nodes disks) closing es (opening_sound nodes disks opening) (elim start [ inl apart ↦ inl (λ m is. opening_last m (each_opening nodes opening name m is) (apart m is)) | inr made ↦ inr made ]) legal n found in
    (disk_apart n h.disk, λ act e. disk_apart (acted act n) (h.way act e))

pub lasts_stay_apart : LastsStayApart
lasts_stay_apart nodes disks es closing opening apart legal name = last_stays_apart nodes disks es closing opening name (inl (each_apart nodes apart name)) legal
