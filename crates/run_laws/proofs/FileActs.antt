-- What is told of a file agrees with its node behind an operation on it, and where it is made.
use Rattle.std.proofs.Common.{◌≡◌, ◌⊎◌, ℕ, ◌+◌, List, [], ◌∷◌, ◌++◌, Bool, true, false, Option, Some, None, if◌then◌else◌, refl, sym, ◌∙◌, ap, subst, inl, inr, arith, append-nil}
use Rattle.std.specs.Prelude.{slice_set}
use Rattle.std.specs.Str.{bytes_eq}
use Rattle.std.specs.FinMap.{empty}
use Rattle.std.proofs.lemmas.Bool.{both_ways, false_from_ne_true}
use Rattle.std.proofs.lemmas.Slice.Eq.{bytes_eq-Decides}
use Rattle.vms_model.specs.Ids.{Id}
use Rattle.vms_model.specs.Keys.{Key}
use Rattle.vms_model.specs.Transactions.{Commit}
use Rattle.unit_laws.specs.records_model.Records.{Records, Change, applied}
use Rattle.unit_laws.specs.records_model.History.{History, LiveChanges, changed_with, changes_by, records, same_id, settled_at, with_changes}
use Rattle.unit_laws.specs.JournalLaws.{is_unit}
use Rattle.commit_protocol.specs.Messages.{LogRecord}
use Rattle.commit_protocol.specs.Table.{Branch, branch_serials}
use Rattle.commit_protocol.specs.Allowed.{is_prepared}
use Rattle.commit_protocol.specs.World.{In}
use Rattle.run_said.specs.log_laws.Slots.{prepared_of, records_in}
use Rattle.run_said.specs.run_model.Locks.{is_locked}
use Rattle.run_said.specs.run_model.World.{Node, Durable, File, Changes, Creates, Directs, Recovers, Settlement, acted, changed_file, directly_changed, find_file, recovered_file, free_place, next_id, with_file}
use Rattle.run_said.specs.run_model.Answers as answers
use Rattle.run_laws.specs.Accounts.{Account, MayHave, Set, Told, left_by, told_by, with_sets}
use Rattle.recovery_laws.specs.world_laws.Nodes.{IsOf, IsUp}
use Rattle.recovery_laws.specs.world_laws.Running.{IsDrawn, history_in, history_of}
use Rattle.recovery_laws.proofs.world_laws.IdLemmas.{id_is, id_itself}
use Rattle.recovery_laws.proofs.world_laws.DirectLemmas.{live_same, none_of}
use Rattle.recovery_laws.proofs.world_laws.FindLemmas.{either_way, placed_file, some_is}
use Rattle.recovery_laws.proofs.world_laws.HeldLemmas.{noted_at}
use Rattle.recovery_laws.proofs.world_laws.HistoryLemmas.{applied_append, by_with_changes, committed_leaves}
use Rattle.recovery_laws.proofs.world_laws.LogLemmas.{branch_of}
use Rattle.recovery_laws.proofs.world_laws.RunningLemmas.{none_after}
use Rattle.recovery_laws.proofs.world_laws.ServedLemmas.{undrawn}
use Rattle.recovery_laws.proofs.world_laws.TableLemmas.{changed_serials, in_serials, one_branch}
use Rattle.recovery_laws.proofs.world_laws.UpLemmas.{branch_drawn, differ, drawn_more}
use Rattle.run_laws.proofs.AccountLemmas.{IsUntold, TellSame, history_here, history_kept, history_placed, last_left, last_same, left_given, left_is, left_may, sure_still, left_others, left_told, shown_left}
use Rattle.run_laws.proofs.FileTelling.{IsTold, IsToldDisk, IsToldUp, falls_told, no_changes}
use Rattle.run_laws.proofs.Once.{unit_branch}

-- an account in which more is told of a branch
abbrev pub telling_more : Id → List Set → Account → Account
telling_more serial sets a = record a { told = record { serial = serial; sets = sets } ∷ a.told }

found_none : (file : List ℕ) (fs : List (Option File)) (f : File) → find_file file fs ≡ Some f → find_file file fs ≡ None → {A : Type 0} → A
found_none file fs f found none = let clash : ◌≡◌ {A = Option File} None (Some f) = sym none ∙ found in let no : ⊥ = cc in absurd no

module _ (node file : List ℕ) (D : Id → Type 0) where
  -- The same is told in other words.

  untold_same : (a : Account) (told : List Told) (x : Id) → TellSame a.told told → IsUntold a x → IsUntold (record a { told = told }) x
  untold_same a told x same u = ((λ m. same x m ∙ u.0 m), u.1)

  told_same : (a : Account) (told : List Told) (ls : List LiveChanges) (x : Id) → TellSame a.told told → IsTold node file D a ls x → IsTold node file D (record a { told = told }) ls x
  told_same a told ls x same t = record { tells = elim t.tells [ inl d ↦ inl d | inr tells ↦ inr (λ m. same x m ∙ tells m) ]; staying = t.staying }

  pub disk_same : (a : Account) (told : List Told) (name : List ℕ) (d : Durable) → TellSame a.told told → IsToldDisk node file D a name d → IsToldDisk node file D (record a { told = told }) name d
  disk_same a told name d same h = record {
    named = h.named;
    records_are = last_same node d.last a told (records (history_in file d.directory)) same h.records_are;
    still = h.still;
    quiet = λ gone x m. same x m ∙ h.quiet gone x m;
    own = h.own;
    apart = h.apart;
    only = λ x none. untold_same a told x same (h.only x none);
    prepared = λ r i. told_same a told (history_in file d.directory).live r.serial same (h.prepared r i);
  }

  pub up_same : (free : Bool) (a : Account) (told : List Told) (n : Node) → TellSame a.told told → IsToldUp node file D free a n → IsToldUp node file D free (record a { told = told }) n
  up_same free a told n same h = record {
    named = h.named;
    shown = h.shown;
    records_are = h.records_are;
    still = h.still;
    quiet = λ gone x m. same x m ∙ h.quiet gone x m;
    own = h.own;
    only = λ x none. untold_same a told x same (h.only x none);
    fresh = λ e. let u = h.fresh e in (untold_same a told (record { node = n.name; boot = n.durable.boot; seq = n.volatile.drawn }) same u.0, u.1);
    told = λ x i. told_same a told (history_in file n.durable.directory).live x same (h.told x i);
  }

  -- A branch changes the file.

  module _ (n : Node) (f : File) (found : find_file file n.durable.directory ≡ Some f) (up : IsUp n) (a : Account) (h : IsToldUp node file D false a n) where
    abbrev dir : List (Option File)
    dir = n.durable.directory

    module _ (tid serial : Id) (cs : List Change) (keys : List Key) (there : In serial (branch_serials n.volatile.branches)) where
      abbrev change : File → File
      change = changed_file (is_locked n.volatile.locks file) tid serial cs

      abbrev m : Node
      m = acted (Changes tid serial file cs keys) n

      same_records : records (history_in file (with_file file change dir)) ≡ records (history_in file dir)
      same_records = history_kept records file file change dir (λ g. refl) (λ g. refl)

      live_then : (history_in file (with_file file change dir)).live ≡ with_changes serial cs (history_in file dir).live
      live_then = ap (λ (k : History). k.live) (history_here file change dir f (λ g. refl) found) ∙ ap (λ o. with_changes serial cs (history_of o).live) (sym found)

      changes_then : (x : Id) → changes_by x (history_in file (with_file file change dir)).live ≡ (if same_id x serial then cs ++ changes_by x (history_in file dir).live else changes_by x (history_in file dir).live)
      changes_then x = ap (changes_by x) live_then ∙ by_with_changes x serial cs (history_in file dir).live

      pub entered_up : a.given ≡ None → (sets : List Set) → ((m : Records) → with_sets sets m ≡ applied cs m) → IsToldUp node file D false (telling_more serial sets a) m
      entered_up sure sets sets_are = record {
        named = h.named;
        shown = h.shown;
        records_are = subst (MayHave a) (sym same_records) h.records_are;
        still = sure_still (telling_more serial sets a) (history_in file (with_file file change dir)).live sure;
        quiet = λ gone. found_none file dir f found (none_after file file change dir (λ g. refl) gone);
        own = h.own;
        only = λ x none. let u = h.only x none in
            ((λ k. ap (λ b. if b then with_sets sets (told_by x a.told k) else told_by x a.told k) (false_from_ne_true _ (λ t. none (subst (IsDrawn n.name n.durable.boot n.volatile.drawn) (sym (id_is x serial t)) (branch_drawn n up.table serial there)))) ∙ u.0 k), u.1);
        fresh = λ e. let no : ⊥ = cc in absurd no;
        told = λ x i. let t = h.told x (subst (λ xs. In x xs) (changed_serials serial n.volatile.branches) i) in
            record { tells = elim t.tells [ inl d ↦ inl d | inr tells ↦ inr (λ k. own x k tells (same_id x serial) refl ∙ ap (λ ds. applied ds k) (sym (changes_then x))) ]; staying = t.staying };
      }
        where
          own : (x : Id) (k : Records) → ((m : Records) → told_by x a.told m ≡ applied (changes_by x (history_in file dir).live) m) → (c : Bool) → same_id x serial ≡ c →
              (if same_id x serial then with_sets sets (told_by x a.told k) else told_by x a.told k) ≡ applied (if same_id x serial then cs ++ changes_by x (history_in file dir).live else changes_by x (history_in file dir).live) k
          own x k tells true e = rw e (sets_are (told_by x a.told k) ∙ ap (applied cs) (tells k) ∙ sym (applied_append cs (changes_by x (history_in file dir).live) k))
          own x k tells false e = rw e (tells k)

      -- by an account in which nothing is told of that: its branch is not prepared
      pub entered_disk : a.given ≡ None → (b : Branch) → In b n.volatile.branches → b.key.serial ≡ serial → is_prepared b.state ≡ false → IsToldDisk node file D a m.name m.durable
      entered_disk sure b i is unprepared =
          let k = falls_told node file D false a n up h in
          record {
            named = k.named;
            records_are = subst (MayHave (last_left node n.durable.last a)) (sym same_records) k.records_are;
            still = sure_still a (history_in file (with_file file change dir)).live sure;
            quiet = λ gone. found_none file dir f found (none_after file file change dir (λ g. refl) gone);
            own = k.own;
            apart = k.apart;
            only = k.only;
            prepared = λ r j. let t = k.prepared r j in
                record { tells = elim t.tells [ inl d ↦ inl d | inr tells ↦ inr (λ q. tells q ∙ ap (λ ds. applied ds q) (sym (changes_then r.serial ∙ ap (λ c. if c then cs ++ changes_by r.serial (history_in file dir).live else changes_by r.serial (history_in file dir).live) (other r j)))) ]; staying = t.staying };
          }
        where
          other : (r : LogRecord) → In r (prepared_of (records_in n.durable.log)) → same_id r.serial serial ≡ false
          other r j = false_from_ne_true _ (λ t.
              let c = branch_of n up.table r j in
              let same : c.branch ≡ b = one_branch n.volatile.branches c.branch b (differ n up.table) c.there i (ap (λ (q : LogRecord). q.serial) (sym c.is) ∙ id_is r.serial serial t ∙ sym is) in
              both_ways _ unprepared (ap (λ (x : Branch). is_prepared x.state) (sym same) ∙ ap is_prepared c.state))

    -- The file is recovered.

    module _ (start buckets : ℕ) (m : Records) where
      abbrev recovering : File → File
      recovering = recovered_file start buckets m n.durable.greatest

      pub recovers_up : (r : Records) (given : Option Records) → (r ≡ m) ⊎ (given ≡ Some m) → (history_in file dir).live ≡ [] → IsToldUp node file D false (record a { records = r; given = given }) (acted (Recovers file start buckets m) n)
      recovers_up r given may rest = record {
        named = h.named;
        shown = h.shown;
        records_are = subst (MayHave (record a { records = r; given = given })) (sym (ap records (history_here file recovering dir f (λ g. refl) found))) may;
        still = λ k e. history_kept (λ (q : History). q.live) file file recovering dir (λ g. refl) (λ g. refl) ∙ rest;
        quiet = λ gone. found_none file dir f found (none_after file file recovering dir (λ g. refl) gone);
        own = h.own;
        only = h.only;
        fresh = λ e. let no : ⊥ = cc in absurd no;
        told = λ x i. subst (λ ls. IsTold node file D (record a { records = r; given = given }) ls x) (sym (history_kept (λ (k : History). k.live) file file recovering dir (λ g. refl) (λ g. refl)))
            (let t = h.told x i in record { tells = t.tells; staying = t.staying });
      }

    -- A branch of its own changes it, and is committed at once.

    module _ (c : Change) (cs : List Change) (sets : List Set) (sets_are : (m : Records) → with_sets sets m ≡ applied (c ∷ cs) m) where
      abbrev s : Settlement
      s = answers.commit_settlement n (next_id n) (next_id n)

      abbrev direct : File → File
      direct = directly_changed (is_locked n.volatile.locks file) s (c ∷ cs)

      abbrev b : Account
      b = telling_more (next_id n) sets a

      abbrev after : Node
      after = acted (Directs file (c ∷ cs) s) n

      next : IsUntold a (next_id n)
      next = h.only (next_id n) (λ d. undrawn n (next_id n) d refl)

      no_unit : is_unit (next_id n) n.durable.units ≡ false
      no_unit = false_from_ne_true _ (λ u. undrawn n (next_id n) (branch_drawn n up.table (next_id n) (unit_branch n up (next_id n) u)) refl)

      none_before : changes_by (next_id n) (history_in file dir).live ≡ []
      none_before = no_changes n.durable.units dir (next_id n) file up.filed.can no_unit

      history_then : history_in file (with_file file direct dir) ≡ settled_at (next_id n) Commit s.moment (changed_with (next_id n) (c ∷ cs) (history_in file dir))
      history_then = history_here file direct dir f (λ g. refl) found ∙ ap (λ o. settled_at (next_id n) Commit s.moment (changed_with (next_id n) (c ∷ cs) (history_of o))) (sym found)

      live_then_same : (history_in file (with_file file direct dir)).live ≡ (history_in file dir).live
      live_then_same = ap (λ (k : History). k.live) history_then ∙ at (find_file file dir) refl
        where
          at : (o : Option File) → find_file file dir ≡ o → (settled_at (next_id n) Commit s.moment (changed_with (next_id n) (c ∷ cs) (history_of o))).live ≡ (history_of o).live
          at (Some g) e = live_same (next_id n) c cs s.moment g.history (none_of n.durable.units (next_id n) g.history.live no_unit (noted_at n.durable.units file dir g up.filed.can e).units)
          at None e = found_none file dir f found e

      records_then : records (history_in file (with_file file direct dir)) ≡ applied (c ∷ cs) (records (history_in file dir))
      records_then = ap records history_then ∙ committed_leaves (next_id n) s.moment (changed_with (next_id n) (c ∷ cs) (history_in file dir))
          ∙ ap (λ ds. applied ds (records (history_in file dir))) (by_with_changes (next_id n) (next_id n) (c ∷ cs) (history_in file dir).live ∙ ap (λ t. if t then c ∷ cs ++ changes_by (next_id n) (history_in file dir).live else changes_by (next_id n) (history_in file dir).live) (id_itself (next_id n))
          ∙ ap (λ ds. c ∷ cs ++ ds) none_before ∙ ap (λ ds. c ∷ ds) (append-nil cs))

      own_told : (k : Records) → told_by (next_id n) b.told k ≡ applied (c ∷ cs) k
      own_told k = ap (λ t. if t then with_sets sets (told_by (next_id n) a.told k) else told_by (next_id n) a.told k) (id_itself (next_id n)) ∙ sets_are (told_by (next_id n) a.told k) ∙ ap (applied (c ∷ cs)) (next.0 k)

      others_told : (x : Id) → same_id x (next_id n) ≡ false → (k : Records) → told_by x b.told k ≡ told_by x a.told k
      others_told x other k = ap (λ t. if t then with_sets sets (told_by x a.told k) else told_by x a.told k) other

      drawn_apart : (x : Id) → IsDrawn n.name n.durable.boot n.volatile.drawn x → same_id x (next_id n) ≡ false
      drawn_apart x d = false_from_ne_true _ (λ t. undrawn n x d (id_is x (next_id n) t))

      pub directs_up : a.given ≡ None → IsToldUp node file D false (left_by node (next_id n) b) after
      directs_up sure = record {
        named = h.named;
        shown = left_is node (next_id n) b h.named;
        records_are = subst (MayHave (left_by node (next_id n) b)) (own_told (records (history_in file dir)) ∙ sym records_then) (left_may node (next_id n) b (records (history_in file dir)) h.named next.1 (λ e. let clash : ◌≡◌ {A = Option Records} None (Some (records (history_in file dir))) = sym sure ∙ e in let no : ⊥ = cc in absurd no) h.records_are);
        still = λ m e. live_then_same ∙ h.still m (sym (left_given node (next_id n) b) ∙ e);
        quiet = λ gone. found_none file dir f found (none_after file file direct dir (λ g. refl) gone);
        own = λ x e. subst (λ (y : Settlement). IsOf n.name n.durable.boot y.serial) (some_is s x e) (refl, omega arith);
        only = λ x none.
            let u = h.only x (λ d. none (drawn_more n.name n.durable.boot n.volatile.drawn x d)) in
            let other = false_from_ne_true _ (λ t. none (subst (IsDrawn n.name n.durable.boot (n.volatile.drawn + 1)) (sym (id_is x (next_id n) t)) (refl, inr (refl, omega arith)))) in
            ((λ k. ap (λ t. told_by x t k) (left_told node (next_id n) b) ∙ others_told x other k ∙ u.0 k), left_others node (next_id n) x b other u.1);
        fresh = λ e. let no : ⊥ = cc in absurd no;
        told = λ x i.
            let t = h.told x i in
            let other = drawn_apart x (branch_drawn n up.table x i) in
            record {
              tells = elim t.tells [ inl d ↦ inl d | inr tells ↦ inr (λ k. ap (λ u. told_by x u k) (left_told node (next_id n) b) ∙ others_told x other k ∙ tells k ∙ ap (λ ls. applied (changes_by x ls) k) (sym live_then_same)) ];
              staying = left_others node (next_id n) x b other t.staying;
            };
      }

      -- where its disk failed before it was begun
      pub broken_disk : IsToldDisk node file D b n.name n.durable
      broken_disk =
          let k = falls_told node file D false a n up h in
          record {
            named = k.named;
            records_are = subst (λ (x : Account). MayHave x (records (history_in file n.durable.directory))) (sym (shown_left node n.durable.last b h.shown)) h.records_are;
            still = h.still;
            quiet = λ gone. found_none file dir f found gone;
            own = k.own;
            apart = k.apart;
            only = λ x none. let u = k.only x none in ((λ q. others_told x (false_from_ne_true _ (λ t. none (subst (IsOf n.name n.durable.boot) (sym (id_is x (next_id n) t)) (refl, omega arith)))) q ∙ u.0 q), u.1);
            prepared = λ r j. let t = k.prepared r j in
                let i = branch_of n up.table r j in
                let drawn = subst (λ (q : LogRecord). IsDrawn n.name n.durable.boot n.volatile.drawn q.serial) (sym i.is) (branch_drawn n up.table (i.branch).key.serial (in_serials i.branch n.volatile.branches i.there)) in
                record { tells = elim t.tells [ inl d ↦ inl d | inr tells ↦ inr (λ q. others_told r.serial (drawn_apart r.serial drawn) q ∙ tells q) ]; staying = t.staying };
          }

  -- The file is made.

  module _ (n : Node) (g : File) (place : ℕ) (a : Account) (h : IsToldUp node file D false a n) (rest : g.history.live ≡ []) (bare : records g.history ≡ empty) (free : free_place n.durable.directory ≡ Some place) (none : find_file g.name n.durable.directory ≡ None) where
    placed : history_in file (slice_set n.durable.directory place (Some g)) ≡ (if bytes_eq file g.name then g.history else history_in file n.durable.directory)
    placed = history_placed file g n.durable.directory place free none

    pub created_up : bytes_eq g.name file ≡ true → IsToldUp node file D false (record a { records = empty }) (acted (Creates place g) n)
    created_up is = record {
      named = h.named;
      shown = h.shown;
      records_are = inl (sym (ap records now ∙ bare));
      still = λ m e. ap (λ (k : History). k.live) now ∙ rest;
      quiet = λ gone. h.quiet absent;
      own = h.own;
      only = h.only;
      fresh = λ e. let no : ⊥ = cc in absurd no;
      told = λ x i. let t = h.told x i in record { tells = inr (λ m. h.quiet absent x m ∙ ap (λ ls. applied (changes_by x ls) m) (sym (ap (λ (k : History). k.live) now ∙ rest))); staying = t.staying };
    }
      where
        same : g.name ≡ file
        same = (bytes_eq-Decides g.name file).0 is

        absent : find_file file n.durable.directory ≡ None
        absent = subst (λ y. find_file y n.durable.directory ≡ None) same none

        now : history_in file (slice_set n.durable.directory place (Some g)) ≡ g.history
        now = placed ∙ ap (λ b. if b then g.history else history_in file n.durable.directory) ((bytes_eq-Decides file g.name).1 (sym same))

    -- another file is made
    pub created_beside : bytes_eq g.name file ≡ false → IsToldUp node file D false a (acted (Creates place g) n)
    created_beside apart = record {
      named = h.named;
      shown = h.shown;
      records_are = subst (MayHave a) (sym (ap records now)) h.records_are;
      still = λ m e. ap (λ (k : History). k.live) now ∙ h.still m e;
      quiet = λ gone. h.quiet (sym found ∙ gone);
      own = h.own;
      only = h.only;
      fresh = λ e. let no : ⊥ = cc in absurd no;
      told = λ x i. subst (λ ls. IsTold node file D a ls x) (sym (ap (λ (k : History). k.live) now)) (h.told x i);
    }
      where
        other : bytes_eq file g.name ≡ false
        other = either_way file g.name ∙ apart

        found : find_file file (slice_set n.durable.directory place (Some g)) ≡ find_file file n.durable.directory
        found = placed_file file g n.durable.directory place free none ∙ ap (λ b. if b then Some g else find_file file n.durable.directory) other

        now : history_in file (slice_set n.durable.directory place (Some g)) ≡ history_in file n.durable.directory
        now = ap history_of found
