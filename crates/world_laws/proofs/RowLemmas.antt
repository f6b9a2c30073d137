-- What holds of a node that is up, act by act of a row of its table.
use Rattle.std.proofs.Common.{◌≡◌, ◌⊎◌, ◌≤◌, ℕ, List, [], ◌∷◌, ◌++◌, length, true, false, Option, Some, None, refl, sym, ◌∙◌, ap, subst, arith, inl, inr, ◌<◌, Bool}
use Rattle.std.specs.Prelude.{is_some, map}
use Rattle.std.specs.List.{AllByRecursion}
use Rattle.vms_model.specs.Ids.{Id}
use Rattle.vms_model.specs.Transactions.{Outcome, Reason}
use Rattle.vms_model.specs.Limits.{lock_limit}
use Rattle.run_model.specs.records_model.History.{same_id, changed_it}
use Rattle.run_model.specs.unit_laws.Journal.{JournalEntry, serial_in, RecoveryUnit, find_unit, units_in}
use Rattle.run_model.specs.unit_laws.JournalLaws.{is_unit}
use Rattle.run_model.proofs.unit_laws.NoteLemmas.{settles_keep_notes}
use Rattle.run_model.specs.commit_protocol.Messages.{LogRecord}
use Rattle.run_model.specs.commit_protocol.Table as table
use Rattle.run_model.specs.commit_protocol.Table.{Branch, Key as BranchKey, Notes, Accepts, Prepares, Settles, Leaves, Acknowledges, Releases, Undoes, Sends, Prints, Prepared, Tm, after_act, branch_serials, find, record_serials, records_after, table_after}
use Rattle.run_model.specs.commit_protocol.Allowed.{is_prepared}
use Rattle.run_model.specs.commit_protocol.Agreement.{Distinct}
use Rattle.run_model.specs.commit_protocol.Limits.{TmWithin}
use Rattle.run_model.specs.commit_protocol.Standing.{AllStand, HasApartLog, IsThere, Stands, IsUnchanged}
use Rattle.run_model.specs.commit_protocol.World as protocol
use Rattle.run_model.specs.commit_protocol.World.{In}
use Rattle.run_model.proofs.commit_protocol.Lists.{in_left, in_parts, in_right, find-key}
use Rattle.run_model.proofs.commit_protocol.Serials.{ApartAfter, act_apart, apart_distinct, keyed, parts_apart, serials_new, distinct_more}
use Rattle.run_model.proofs.commit_protocol.Within.{ActWithin, ActsWithin, act_within}
use Rattle.run_model.specs.log_laws.Slots.{AllTell, LogTells, slots_after}
use Rattle.run_model.specs.Locks.{Lock, released}
use Rattle.run_model.specs.World.{Node, Settlement, Shared, Tables, acted, next_moment, serials_of, settlement, shared_after, tm_of, settled_file, find_file, Durable, File}
use Rattle.run_model.specs.Answers.{table_rows}
use Rattle.run_model.specs.recovery_model.Journal as image
use Rattle.world_laws.specs.Running.{AllFound, FileImages, LeavesOpen, TellImages, IsDrawn, no_history, history_in, history_of}
use Rattle.world_laws.proofs.FileLemmas.{found_mapped}
use Rattle.world_laws.proofs.ImageLemmas.{images_settled}
use Rattle.world_laws.proofs.ToldImages.{stated_open, tell_cut, tell_files, tell_put}
use Rattle.world_laws.proofs.MomentLemmas.{next_later}
use Rattle.world_laws.proofs.EntryLemmas.{all_more, all_prepared, all_settled}
use Rattle.world_laws.proofs.DiskLemmas.{disk_acted}
use Rattle.world_laws.proofs.FindLemmas.{mapped_file}
use Rattle.world_laws.proofs.HeldLemmas.{noted_at}
use Rattle.world_laws.proofs.RowActs.{AreRowActs, IsRowAct}
use Rattle.world_laws.proofs.RunningLemmas.{by_released, cut_serials, files_left, files_prepared, files_settled, held_left, held_settled, put_serials, released_length, unnoted_prepared}
use Rattle.world_laws.proofs.SlotLemmas.{length_slots}
use Rattle.world_laws.proofs.TableLemmas.{found_in, in_serials, same_serials, in_cut, serials_apart}
use Rattle.world_laws.proofs.ToldLemmas.{UnitsTell, apart_id, begun_tell, left_tell, no_unit, prepared_tell, restated_tell, settled_tell, id_apart}
use Rattle.world_laws.proofs.UpLemmas.{branch_drawn, differ, drawn_of, tells}
use Rattle.run_model.specs.unit_laws.Units.{SerialsDiffer}
use Rattle.std.specs.Option.{option_map}
use Rattle.world_laws.specs.Nodes.{AreUp, IsOf, IsUp}

-- what an act of a row finds, and leaves of the log
pub record MayAct (n : Node) (a : table.Act) : Type 0 where
  pub stands : Stands n.volatile.branches a
  pub told : LogTells (after_act a (tm_of n)) (slots_after a n.volatile.records n.durable.log)
  pub within : ActWithin (tm_of n) a
  pub row : IsRowAct a

-- the log of a node after it, and the boot count
pub log_after : (a : table.Act) (moment : ℕ) (n : Node) → (acted (Tables a moment) n).durable.log ≡ slots_after a n.volatile.records n.durable.log
log_after (Settles k outcome reason r) moment n = refl
log_after (Undoes k) moment n = refl
log_after (Notes b) moment n = refl
log_after (Accepts b c) moment n = refl
log_after (Prepares b) moment n = refl
log_after (Leaves k) moment n = refl
log_after (Acknowledges k) moment n = refl
log_after (Releases s x) moment n = refl
log_after (Sends m) moment n = refl
log_after (Prints l) moment n = refl

module _ (n : Node) (a : table.Act) (moment : ℕ) (h : IsUp n) (p : MayAct n a) where
  -- the table, as the protocol sees it
  abbrev seen : protocol.Node
  seen = record { up = true; boot = 0; seq = 0; table = n.volatile.branches; records = n.volatile.records; lost = []; last = None }

  after : ApartAfter seen (protocol.node_after a seen)
  after = act_apart seen a (parts_apart (branch_serials n.volatile.branches) (record_serials n.volatile.records) h.table.apart) (keyed n.volatile.branches a p.stands)

  apart : HasApartLog (after_act a (tm_of n))
  apart = apart_distinct (branch_serials (table_after a n.volatile.branches)) (record_serials (records_after a n.volatile.records)) after.log

  limits : TmWithin (after_act a (tm_of n))
  limits = act_within (tm_of n) a h.table.limits p.within

  drawn : (x : Id) → In x (branch_serials (table_after a n.volatile.branches) ++ record_serials (records_after a n.volatile.records)) → IsDrawn n.name n.durable.boot n.volatile.drawn x
  drawn x i = elim (in_parts x (branch_serials (table_after a n.volatile.branches)) (record_serials (records_after a n.volatile.records)) i) [
    | inl j ↦ branch_drawn n h.table x (after.branches x j)
    | inr j ↦ elim (after.records x j) [
      | inl k ↦ branch_drawn n h.table x k
      | inr k ↦ h.table.drawn x (in_right x (branch_serials n.volatile.branches) (record_serials n.volatile.records) k)
    ]
  ]

  slots : length (slots_after a n.volatile.records n.durable.log) ≤ 512
  slots = let same = length_slots a n.volatile.records n.durable.log in let high = h.slots in omega (arith, same, high)

module _ (n : Node) (moment : ℕ) (h : IsUp n) where
  abbrev bs : List Branch
  bs = n.volatile.branches

  -- a branch is stated anew
  restated : (b old : Branch) → find b.key bs ≡ Some old → is_prepared b.state ≡ is_prepared old.state → b.changed ≡ old.changed → UnitsTell (table.put b bs) n.durable.units
  restated b old there state changed = restated_tell bs n.durable.units (differ n h.table) (tells n h.table) b old there state changed

  stated : (b old : Branch) → find b.key bs ≡ Some old → is_prepared b.state ≡ is_prepared old.state → is_prepared b.state ≡ false → AllFound (FileImages (LeavesOpen b.key.serial)) n.durable.directory
  stated b old there state = stated_open n.name n.durable.boot n.volatile.drawn b old bs n.durable.directory there state h.running.images

  by_put : (b : Branch) → AllByRecursion (λ (l : Lock). In l.by (serials_of (table.put b bs))) n.volatile.locks
  by_put b = all_more (λ (l : Lock). In l.by (serials_of bs)) (λ (l : Lock). In l.by (serials_of (table.put b bs))) n.volatile.locks
      (λ l i. subst (In l.by) (sym (same_serials (table.put b bs))) (put_serials b bs l.by (subst (In l.by) (same_serials bs) i))) h.holding.by

  by_cut : (k : BranchKey) → AllByRecursion (λ (l : Lock). In l.by (serials_of (table.cut k bs))) (released k.serial n.volatile.locks)
  by_cut k = by_released k.serial (λ x. In x (serials_of bs)) (λ x. In x (serials_of (table.cut k bs))) n.volatile.locks
      (λ x other i. subst (In x) (sym (same_serials (table.cut k bs))) (cut_serials k bs x (subst (In x) (same_serials bs) i) (λ e. apart_id k.serial x other (sym e)))) h.holding.by

  few_released : (x : Id) → length (released x n.volatile.locks) ≤ lock_limit
  few_released x = let less = released_length x n.volatile.locks in let most = h.holding.few_locks in omega (arith, less, most)

  -- a branch that stands there was drawn
  there_drawn : (k : BranchKey) → IsThere bs k → IsDrawn n.name n.durable.boot n.volatile.drawn k.serial
  there_drawn k there = subst (λ (j : BranchKey). IsDrawn n.name n.durable.boot n.volatile.drawn j.serial) (find-key k bs there.0 there.1)
      (branch_drawn n h.table (there.0).key.serial (in_serials there.0 bs (found_in k bs there.0 there.1)))

  there_of : (k : BranchKey) → IsThere bs k → IsOf n.name n.durable.boot k.serial
  there_of k there = drawn_of n.name n.durable.boot n.volatile.drawn k.serial (there_drawn k there)

  -- the files of a journal have each branch once
  all_differ : (file : List ℕ) → SerialsDiffer (history_in file n.durable.directory).live
  all_differ file = go (find_file file n.durable.directory) refl
    where
      go : (o : Option File) → find_file file n.durable.directory ≡ o → SerialsDiffer (history_of o).live
      go (Some f) found = (noted_at n.durable.units file n.durable.directory f h.filed.can found).differ
      go None found = tt

  none_mapped : (s : Settlement) (name : List ℕ) → find_file name (map (option_map (settled_file s)) n.durable.directory) ≡ None → find_file name n.durable.directory ≡ None
  none_mapped s name e = go (find_file name n.durable.directory) (sym (mapped_file name (settled_file s) n.durable.directory (λ f. refl)) ∙ e)
    where
      go : (o : Option File) → option_map (settled_file s) o ≡ None → o ≡ None
      go (Some f) k = let none : ⊥ = cc in absurd none
      go None k = refl

  no_unit_of : (k : BranchKey) → IsUnchanged bs k → is_unit k.serial n.durable.units ≡ false
  no_unit_of k s = go (find_unit k.serial (units_in n.durable.units.entries)) refl
    where
      go : (o : Option RecoveryUnit) → find_unit k.serial (units_in n.durable.units.entries) ≡ o → is_some o ≡ false
      go (Some u) e = absurd (no_unit bs n.durable.units (differ n h.table) (tells n h.table) k s u e)
      go None e = refl

  -- acts that state a branch anew, of which the disk sees nothing
  put_up : (a : table.Act) (b old : Branch) → table_after a bs ≡ table.put b bs → UnitsTell (table.put b bs) n.durable.units → (is_prepared b.state ≡ false → AllFound (FileImages (LeavesOpen b.key.serial)) n.durable.directory) → MayAct n a → (acted (Tables a moment) n).durable ≡ n.durable → (acted (Tables a moment) n).volatile.locks ≡ n.volatile.locks → IsUp (acted (Tables a moment) n)
  put_up a b old is u own p disk locks =
      let v = (acted (Tables a moment) n).volatile in
      subst IsUp (λ i. record (acted (Tables a moment) n) { durable = sym disk i; volatile = record v { branches = sym is i; locks = sym locks i } }) (record {
        filed = h.filed;
        slots = h.slots;
        table = record {
          log = subst (λ xs. LogTells (let t : Tm = record { node = n.name; table = xs; records = records_after a n.volatile.records } in t) n.durable.log) is (subst (LogTells (after_act a (tm_of n))) (sym (log_after a moment n) ∙ ap (λ (d : Durable). d.log) disk) p.told);
          apart = subst (λ xs. HasApartLog (let t : Tm = record { node = n.name; table = xs; records = records_after a n.volatile.records } in t)) is (apart n a moment h p);
          limits = subst (λ xs. TmWithin (let t : Tm = record { node = n.name; table = xs; records = records_after a n.volatile.records } in t)) is (limits n a moment h p);
          drawn = subst (λ xs. (x : Id) → In x (branch_serials xs ++ record_serials (records_after a n.volatile.records)) → IsDrawn n.name n.durable.boot n.volatile.drawn x) is (drawn n a moment h p);
          branches = u.branches;
          units = u.units;
          entries = u.entries;
        };
        running = record { drawn = h.running.drawn; held = h.running.held; unnoted = h.running.unnoted; images = tell_put n.name n.durable.boot n.volatile.drawn b bs n.durable.directory (differ n h.table) own h.running.images };
        holding = record { by = by_put b; files = h.holding.files; few_locks = h.holding.few_locks };
      })

  -- acts of records alone, and those that change nothing
  same_up : (a : table.Act) → table_after a bs ≡ bs → MayAct n a → (acted (Tables a moment) n).durable ≡ record n.durable { log = slots_after a n.volatile.records n.durable.log } → (acted (Tables a moment) n).volatile.locks ≡ n.volatile.locks → IsUp (acted (Tables a moment) n)
  same_up a is p disk locks =
      let v = (acted (Tables a moment) n).volatile in
      subst IsUp (λ i. record (acted (Tables a moment) n) { durable = sym disk i; volatile = record v { branches = sym is i; locks = sym locks i } }) (record {
        filed = record { can = h.filed.can; names = h.filed.names; reached = h.filed.reached; plain = h.filed.plain; carries = h.filed.carries; moments = h.filed.moments; images = h.filed.images; one = h.filed.one };
        slots = slots n a moment h p;
        table = record {
          log = subst (λ xs. LogTells (let t : Tm = record { node = n.name; table = xs; records = records_after a n.volatile.records } in t) (slots_after a n.volatile.records n.durable.log)) is p.told;
          apart = subst (λ xs. HasApartLog (let t : Tm = record { node = n.name; table = xs; records = records_after a n.volatile.records } in t)) is (apart n a moment h p);
          limits = subst (λ xs. TmWithin (let t : Tm = record { node = n.name; table = xs; records = records_after a n.volatile.records } in t)) is (limits n a moment h p);
          drawn = subst (λ xs. (x : Id) → In x (branch_serials xs ++ record_serials (records_after a n.volatile.records)) → IsDrawn n.name n.durable.boot n.volatile.drawn x) is (drawn n a moment h p);
          branches = h.table.branches;
          units = h.table.units;
          entries = h.table.entries;
        };
        running = record { drawn = h.running.drawn; held = h.running.held; unnoted = h.running.unnoted; images = h.running.images };
        holding = record { by = h.holding.by; files = h.holding.files; few_locks = h.holding.few_locks };
      })

  prepared_up : (b : Branch) → MayAct n (Prepares b) → IsUp (acted (Tables (Prepares b) moment) n)
  prepared_up b p =
      let s = p.stands in
      let u = prepared_tell bs n.durable.units (differ n h.table) (tells n h.table) b s.branch s.there s.unprepared in
      record {
        filed = disk_acted (Tables (Prepares b) moment) n.name n.volatile n.durable (there_of b.key (s.branch, s.there)) h.filed;
        slots = slots n (Prepares b) moment h p;
        table = record { log = p.told; apart = apart n (Prepares b) moment h p; limits = limits n (Prepares b) moment h p; drawn = drawn n (Prepares b) moment h p; branches = u.branches; units = u.units; entries = u.entries };
        running = record {
          drawn = all_prepared (λ e. IsDrawn n.name n.durable.boot n.volatile.drawn (serial_in e)) b n.durable.units h.running.drawn (there_drawn b.key (s.branch, s.there));
          held = h.running.held;
          unnoted = λ name e. unnoted_prepared name n.durable.units b (h.running.unnoted name e);
          images = tell_put n.name n.durable.boot n.volatile.drawn (record b { state = Prepared }) bs n.durable.directory (differ n h.table) (λ state. let none : ⊥ = cc in absurd none) h.running.images;
        };
        holding = record { by = by_put (record b { state = Prepared }); files = files_prepared n.volatile.locks n.durable.units n.durable.directory b h.holding.files; few_locks = h.holding.few_locks };
      }

  -- the images, where a branch goes that is settled
  images_settle : (k : BranchKey) (s : Settlement) → s.serial ≡ k.serial → IsThere bs k → TellImages n.name n.durable.boot n.volatile.drawn (table.cut k bs) (map (option_map (settled_file s)) n.durable.directory)
  images_settle k s same there =
      tell_files n.name n.durable.boot n.volatile.drawn (table.cut k bs) n.durable.directory (map (option_map (settled_file s)) n.durable.directory) (λ P. P (image.Settled s.serial s.outcome s.moment))
      (λ P p h. found_mapped (FileImages P) (FileImages P) (settled_file s) n.durable.directory (λ f. refl) (λ file f found k. images_settled P (changed_it f.history s.serial) s f.carried p k) h)
      (subst (IsDrawn n.name n.durable.boot n.volatile.drawn) (sym same) (there_drawn k there))
      (λ b i state. subst (λ y. same_id b.key.serial y ≡ false) (sym same) (other b i))
      (tell_cut n.name n.durable.boot n.volatile.drawn k bs n.durable.directory h.running.images)
    where
      other : (b : Branch) → In b (table.cut k bs) → same_id b.key.serial k.serial ≡ false
      other b i =
          let c = in_cut k b bs i in
          let own = find-key k bs there.0 there.1 in
          id_apart b.key.serial k.serial (λ e. serials_apart bs b there.0 (differ n h.table) c.0 (found_in k bs there.0 there.1) (λ f. c.1 (f ∙ own)) (e ∙ sym (ap (λ (j : BranchKey). j.serial) own)))

  settled_up : (k : BranchKey) (outcome : Outcome) (reason : Reason) (r : Option LogRecord) → n.durable.greatest < moment → MayAct n (Settles k outcome reason r) → IsUp (acted (Tables (Settles k outcome reason r) moment) n)
  settled_up k outcome reason r later p =
      let a = Settles k outcome reason r in
      let s = settlement k outcome reason moment in
      let there = p.stands.0 in
      let u = settled_tell bs n.durable.units (differ n h.table) (tells n h.table) k outcome moment there in
      record {
        filed = disk_acted (Tables a moment) n.name n.volatile n.durable (there_of k there, later) h.filed;
        slots = slots n a moment h p;
        table = record { log = p.told; apart = apart n a moment h p; limits = limits n a moment h p; drawn = drawn n a moment h p; branches = u.branches; units = u.units; entries = u.entries };
        running = record {
          drawn = all_settled (λ e. IsDrawn n.name n.durable.boot n.volatile.drawn (serial_in e)) k.tid k.serial outcome moment n.durable.units h.running.drawn (there_drawn k there);
          held = held_settled n.volatile.locks n.durable.directory h.running.held s all_differ;
          unnoted = λ name e. settles_keep_notes n.durable.units name no_history k.tid k.serial outcome moment (h.running.unnoted name (none_mapped s name e));
          images = images_settle k s refl there;
        };
        holding = record { by = by_cut k; files = files_settled n.volatile.locks n.durable.units n.durable.directory h.filed.can s h.holding.files; few_locks = few_released k.serial };
      }

  left_up : (k : BranchKey) → MayAct n (Leaves k) → IsUp (acted (Tables (Leaves k) moment) n)
  left_up k p =
      let u = left_tell bs n.durable.units (differ n h.table) (tells n h.table) k p.stands in
      let none = no_unit_of k p.stands in
      record {
        filed = disk_acted (Tables (Leaves k) moment) n.name n.volatile n.durable tt h.filed;
        slots = slots n (Leaves k) moment h p;
        table = record { log = p.told; apart = apart n (Leaves k) moment h p; limits = limits n (Leaves k) moment h p; drawn = drawn n (Leaves k) moment h p; branches = u.branches; units = u.units; entries = u.entries };
        running = record { drawn = h.running.drawn; held = held_left n.volatile.locks n.durable.units n.durable.directory h.filed.can k.serial none h.running.held; unnoted = h.running.unnoted; images = tell_cut n.name n.durable.boot n.volatile.drawn k bs n.durable.directory h.running.images };
        holding = record { by = by_cut k; files = files_left n.volatile.locks n.durable.units n.durable.directory h.filed.can k.serial none h.holding.files; few_locks = few_released k.serial };
      }

  pub tabled_up : (a : table.Act) → n.durable.greatest < moment → MayAct n a → IsUp (acted (Tables a moment) n)
  tabled_up (Notes b) later p = let s = p.stands in put_up (Notes b) b s.old refl (restated b s.old s.there (s.stays ∙ sym s.unprepared) s.changed) (stated b s.old s.there (s.stays ∙ sym s.unprepared)) p refl refl
  tabled_up (Accepts b c) later p = let s = p.stands in put_up (Accepts b c) (record b { accepted = b.accepted ++ c ∷ [] }) s.old refl (restated (record b { accepted = b.accepted ++ c ∷ [] }) s.old s.there (s.stays ∙ sym s.unprepared) s.changed) (stated (record b { accepted = b.accepted ++ c ∷ [] }) s.old s.there (s.stays ∙ sym s.unprepared)) p refl refl
  tabled_up (Prepares b) later p = prepared_up b p
  tabled_up (Settles k outcome reason r) later p = settled_up k outcome reason r later p
  tabled_up (Leaves k) later p = left_up k p
  tabled_up (Acknowledges k) later p = same_up (Acknowledges k) refl p refl refl
  tabled_up (Releases s x) later p = same_up (Releases s x) refl p refl refl
  tabled_up (Undoes k) later p = absurd p.row
  tabled_up (Sends m) later p = same_up (Sends m) refl p refl refl
  tabled_up (Prints l) later p = same_up (Prints l) refl p refl refl

  -- a branch begins
  pub begun_up : (b : Branch) → find b.key bs ≡ None → is_prepared b.state ≡ false → b.changed ≡ false → AllByRecursion (λ (e : JournalEntry). same_id b.key.serial (serial_in e) ≡ false) n.durable.units.entries →
      AllFound (FileImages (LeavesOpen b.key.serial)) n.durable.directory → (In b.key.serial (branch_serials bs ++ record_serials n.volatile.records) → ⊥) → IsDrawn n.name n.durable.boot n.volatile.drawn b.key.serial → LogTells (after_act (Notes b) (tm_of n)) n.durable.log → ActWithin (tm_of n) (Notes b) → IsUp (acted (Tables (Notes b) moment) n)
  begun_up b absent state changed others unsettled fresh made told within =
      let u = begun_tell bs n.durable.units (differ n h.table) (tells n h.table) b absent state changed others in
      let parts = parts_apart (branch_serials bs) (record_serials n.volatile.records) h.table.apart in
      let serials = serials_new b bs absent in
      let old : (x : Id) → In x (branch_serials (table.put b bs)) → (In x (branch_serials bs)) ⊎ (x ≡ b.key.serial) =
      λ x i. elim (in_parts x (branch_serials bs) (b.key.serial ∷ []) (subst (In x) serials i)) [ inl j ↦ inl j | inr j ↦ elim j [ inl e ↦ inr e | inr none ↦ absurd none ] ] in
      record {
        filed = h.filed;
        slots = h.slots;
        table = record {
          log = told;
          apart = apart_distinct (branch_serials (table.put b bs)) (record_serials n.volatile.records) (record {
            one = subst Distinct (sym serials) (distinct_more (branch_serials bs) b.key.serial parts.one (λ i. fresh (in_left b.key.serial (branch_serials bs) (record_serials n.volatile.records) i)));
            two = parts.two;
            apart = λ x i j. elim (old x i) [ inl k ↦ parts.apart x k j | inr e ↦ fresh (in_right b.key.serial (branch_serials bs) (record_serials n.volatile.records) (subst (λ y. In y (record_serials n.volatile.records)) e j)) ];
          });
          limits = act_within (tm_of n) (Notes b) h.table.limits within;
          drawn = λ x i. elim (in_parts x (branch_serials (table.put b bs)) (record_serials n.volatile.records) i) [
            | inl j ↦ elim (old x j) [ inl k ↦ branch_drawn n h.table x k | inr e ↦ subst (IsDrawn n.name n.durable.boot n.volatile.drawn) (sym e) made ]
            | inr j ↦ h.table.drawn x (in_right x (branch_serials bs) (record_serials n.volatile.records) j)
          ];
          branches = u.branches;
          units = u.units;
          entries = u.entries;
        };
        running = record { drawn = h.running.drawn; held = h.running.held; unnoted = h.running.unnoted; images = tell_put n.name n.durable.boot n.volatile.drawn b bs n.durable.directory (differ n h.table) (λ s. unsettled) h.running.images };
        holding = record { by = by_put b; files = h.holding.files; few_locks = h.holding.few_locks };
      }

-- Rows.

pub rows_up : (acts : List table.Act) (s : Shared) (n : Node) → IsUp n → AllStand n.volatile.branches acts → AllTell acts (tm_of n) n.durable.log → ActsWithin (tm_of n) acts → AreRowActs acts → AreUp (table_rows acts s n) n
rows_up [] s n h stand tell within row = h
rows_up (a ∷ acts) s n h stand tell within row =
    let m = acted (Tables a (next_moment n)) n in
    let up = tabled_up n (next_moment n) h a (next_later n) (record { stands = stand.0; told = tell.0; within = within.0; row = row.0 }) in
    (h, rows_up acts (shared_after (Tables a (next_moment n)) s) m up stand.1 (subst (AllTell acts (after_act a (tm_of n))) (sym (log_after a (next_moment n) n)) tell.1) within.1 row.1)
