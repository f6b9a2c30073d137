-- What an operation on records leaves of a node that is up.
use Rattle.std.proofs.Common.{◌≡◌, ℕ, ◌+◌, List, [], ◌∷◌, ◌++◌, length, Bool, true, false, not, Option, Some, None, refl, sym, ◌∙◌, subst, arith, inl, inr}
use Rattle.std.specs.Prelude.{is_some, nat_lt}
use Rattle.std.specs.List.{AllByRecursion}
use Rattle.std.proofs.lemmas.Bool.{and_parts, both_ways, ltb-false}
use Rattle.vms_model.specs.Ids.{Id}
use Rattle.vms_model.specs.Keys.{Key, End}
use Rattle.vms_model.specs.Limits.{lock_limit}
use Rattle.run_model.specs.transcript_model.Lines as line
use Rattle.run_model.specs.transcript_model.Lines.{Line}
use Rattle.run_model.specs.script_model.Statements.{Operation, Put, Update, Delete, Truncate, Get, Next}
use Rattle.run_model.specs.records_model.Records.{Change, Found}
use Rattle.run_model.specs.records_model.History.{LiveChanges, changes_by, changes_key, current}
use Rattle.run_model.specs.unit_laws.Units.{SerialsDiffer, end_is_free, is_free, moves_end, has_changes}
use Rattle.run_model.specs.unit_laws.Journal.{RecoveryUnit, find_unit, units_in}
use Rattle.run_model.specs.unit_laws.JournalLaws.{is_unit}
use Rattle.run_model.specs.commit_protocol.Table.{Branch, State, Active, Joining, Ending, Voting, Prepared}
use Rattle.run_model.specs.commit_protocol.Allowed.{is_active, is_prepared, is_working}
use Rattle.run_model.specs.commit_protocol.World.{In}
use Rattle.run_model.specs.Locks.{holder, not_locked}
use Rattle.run_model.specs.World.{File, Node, Organization, Sequential, find_file, next_id, serials_of, state_of}
use Rattle.run_model.specs.Operations.{changes_of, data_refused, delete_refused, form_refused, keys_asked, keys_found, keys_held, put_keys, count_of, update_refused, record_in, key_refused}
use Rattle.run_model.specs.Answers.{changes_at, commit_settlement, directed, held_against, is_marked, keys_at, keys_refused, more_locks, operated, operation_act, silent, full_line, images_full}
use Rattle.run_model.specs.recovery_model.File.{IsOpenIn}
use Rattle.run_model.specs.recovery_model.Room.{Full, full_of}
use Rattle.std.specs.Option.{option_map}
use Rattle.world_laws.specs.Entering.{MayEnterImages}
use Rattle.world_laws.proofs.ToldImages.{unsettled_in_images, undrawn_open}
use Rattle.world_laws.specs.Restarts.{AreHeld, MayChange, MayDirect}
use Rattle.world_laws.specs.Running.{AreHeldIn, history_of}
use Rattle.world_laws.proofs.MomentLemmas.{next_later}
use Rattle.world_laws.proofs.IdLemmas.{in_front}
use Rattle.world_laws.proofs.AnswerLemmas.{neither, not_refused}
use Rattle.world_laws.proofs.EntryLemmas.{all_more}
use Rattle.world_laws.proofs.FindLemmas.{some_is}
use Rattle.world_laws.proofs.FoundLemmas.{changes_asked, changes_found}
use Rattle.world_laws.proofs.HeldLemmas.{IsFreeFor, free_for, noted_at}
use Rattle.world_laws.proofs.LockLemmas.{held_free}
use Rattle.world_laws.proofs.PlainLemmas.{ArePlain, changes_plain}
use Rattle.world_laws.proofs.RunningLemmas.{end_is_free_for, own_changes}
use Rattle.world_laws.proofs.ServedLemmas.{RowsKeep, nothing_done, undrawn}
use Rattle.world_laws.proofs.TableLemmas.{in_serials, same_serials, length_changed}
use Rattle.world_laws.proofs.UpLemmas.{HasLocks, branch_drawn, differ, directed_up, drawn_of, entered_up, held_up}
use Rattle.world_laws.specs.Nodes.{IsRoomy, IsUp}

-- Operations.

abbrev set_from : Key → Option (List ℕ) → List ℕ → List Change
set_from key before after = record { key = key; before = before; after = Some after } ∷ []

-- a record that takes the place of one does not move the end
update_stays : (o : Organization) (key : Key) (before : Option (List ℕ)) (bytes : List ℕ) → update_refused o key before bytes ≡ None → moves_end (set_from key before bytes) ≡ true → ⊥
update_stays o key None bytes stands m = let none : ⊥ = cc in none
update_stays o key (Some old) bytes stands m = both_ways (moves_end (set_from key (Some old) bytes)) refl m

none_moves : moves_end [] ≡ true → ⊥
none_moves m = let none : ⊥ = cc in none

sequential_deletes : delete_refused Sequential ≡ None → ⊥
sequential_deletes e = let none : ⊥ = cc in none

-- an operation that moves the end of a sequential file asks for it
moving_asks : (f : File) (op : Operation) → form_refused f op ≡ None → data_refused f op ≡ None → f.organization ≡ Sequential → moves_end (changes_of f op) ≡ true → In End (keys_asked f op)
moving_asks f (Put number bytes) form stands is m = subst (λ o. In End (put_keys o (count_of f) number bytes)) (sym is) (inl refl)
moving_asks f (Update key bytes) form stands is m = absurd (update_stays f.organization key (record_in f key) bytes stands m)
moving_asks f (Delete key) form stands is m = absurd (sequential_deletes (subst (λ o. delete_refused o ≡ None) is (neither (key_refused f.organization key) (delete_refused f.organization) form).1))
moving_asks f (Truncate number) form stands is m = inl refl
moving_asks f (Get key) form stands is m = absurd (none_moves m)
moving_asks f (Next after) form stands is m = absurd (none_moves m)

at_key : (P : Key → Type 0) (key : Key) (ks : List Key) → AllByRecursion P ks → In key ks → P key
at_key P key [] h i = absurd i
at_key P key (k ∷ ks) h i = elim i [ inl e ↦ subst P (sym e) h.0 | inr more ↦ at_key P key ks h.1 more ]

pub changes_there : (n : Node) (file : List ℕ) (op : Operation) (f : File) → find_file file n.durable.directory ≡ Some f → changes_at n file op ≡ changes_of f op
changes_there n file op f found = rw (found, changes_at) refl

pub keys_there : (n : Node) (file : List ℕ) (op : Operation) (f : File) → find_file file n.durable.directory ≡ Some f → keys_at n file op ≡ keys_held f op
keys_there n file op f found = rw (found, keys_at) refl

pub held_of : (n : Node) (file : List ℕ) (f : File) → find_file file n.durable.directory ≡ Some f → AreHeldIn n.volatile.locks n.durable.directory → SerialsDiffer f.history.live → AreHeld n.volatile.locks file f.history.live
held_of n file f found held differ =
    all_more (λ (l : LiveChanges). changes_by l.serial f.history.live ≡ l.changes) (λ (l : LiveChanges). (key : Key) → changes_key key l.changes ≡ true → holder n.volatile.locks file key ≡ Some l.serial) f.history.live
    (λ l own key c. held file l.serial key (subst (λ o. changes_key key (changes_by l.serial (history_of o).live) ≡ true) (sym found) (subst (λ cs. changes_key key cs ≡ true) (sym own) c)))
    (own_changes f.history.live differ)

all_both : (P Q : Key → Type 0) (ks : List Key) → AllByRecursion P ks → AllByRecursion Q ks → AllByRecursion (λ (k : Key). P k × Q k) ks
all_both P Q [] p q = tt
all_both P Q (k ∷ ks) p q = ((p.0, q.0), all_both P Q ks p.1 q.1)

all_in_front : (ks more : List Key) → AllByRecursion (λ (k : Key). In k (ks ++ more)) ks
all_in_front [] more = tt
all_in_front (k ∷ ks) more = (inl refl, all_more (λ (x : Key). In x (ks ++ more)) (λ (x : Key). In x (k ∷ ks ++ more)) ks (λ x i. inr i) (all_in_front ks more))

-- keys that are refused to no branch are refused to none
pub refused_to_all : (n : Node) (serial : Id) (file : List ℕ) (ks : List Key) → keys_refused n None file ks ≡ None → keys_refused n (Some serial) file ks ≡ None
refused_to_all n serial file [] e = refl
refused_to_all n serial file (k ∷ ks) e =
    let parts = neither (held_against None (holder n.volatile.locks file k)) (keys_refused n None file ks) e in
    rw (nobody (holder n.volatile.locks file k) parts.0) (refused_to_all n serial file ks parts.1)
  where
    nobody : (o : Option Id) → held_against None o ≡ None → o ≡ None
    nobody None e = refl
    nobody (Some by) e = let none : ⊥ = cc in absurd none

-- a branch that works is not prepared
pub working : (b : Branch) → is_working b ≡ true → is_prepared b.state ≡ false
working b e = go b.state (and_parts (is_active b.state) (not b.ended) e).0
  where
    go : (s : State) → is_active s ≡ true → is_prepared s ≡ false
    go Active k = refl
    go Joining k = refl
    go Ending k = refl
    go Voting k = refl
    go Prepared k = let none : ⊥ = cc in absurd none

marked_is : (f : File) → is_marked f ≡ None → f.recovery_units ≡ true
marked_is f e = go f.recovery_units (not_refused (not f.recovery_units) line.NotForUnits e)
  where
    go : (b : Bool) → not b ≡ false → b ≡ true
    go true k = refl
    go false k = let none : ⊥ = cc in absurd none

no_full : (o : Option Full) → option_map full_line o ≡ None → o ≡ None
no_full (Some r) e = let none : ⊥ = cc in absurd none
no_full None e = refl

-- changes that no full ring refuses
pub fits_images : (serial : Id) (cs : List Change) (f : File) → has_changes cs ≡ true → images_full serial cs f ≡ None → full_of serial cs (state_of f) ≡ None
fits_images serial [] f some e = let none : ⊥ = cc in absurd none
fits_images serial (c ∷ cs) f some e = no_full (full_of serial (c ∷ cs) (state_of f)) e

module _ (n : Node) (h : IsUp n) (room : IsRoomy n) where
  -- the keys of changes that are refused to nobody are free
  free_keys : (serial : Id) (file : List ℕ) (op : Operation) (f : File) → find_file file n.durable.directory ≡ Some f → data_refused f op ≡ None → keys_refused n (Some serial) file (keys_asked f op) ≡ None →
      AllByRecursion (λ (c : Change). is_free serial f.history.live c.key ≡ true) (changes_of f op)
  free_keys serial file op f found passed e =
      let differ = (noted_at n.durable.units file n.durable.directory f h.filed.can found).differ in
      changes_asked (λ key. is_free serial f.history.live key ≡ true) f op passed (held_free n file f.history.live serial (keys_asked f op) (held_of n file f found h.running.held differ) differ e)

  own_keys : (serial : Id) (file : List ℕ) (op : Operation) (f : File) → data_refused f op ≡ None → keys_refused n (Some serial) file (keys_asked f op) ≡ None →
      AllByRecursion (λ (c : Change). In c.key (keys_held f op) × IsFreeFor n.volatile.locks file serial c.key) (changes_of f op)
  own_keys serial file op f passed e =
      changes_asked (λ key. In key (keys_held f op) × IsFreeFor n.volatile.locks file serial key) f op passed
      (all_both (λ key. In key (keys_held f op)) (IsFreeFor n.volatile.locks file serial) (keys_asked f op) (all_in_front (keys_asked f op) (keys_found f op)) (free_for n serial file (keys_asked f op) e))

  -- an operation that moves the end holds it
  own_end : (serial : Id) (file : List ℕ) (op : Operation) (f : File) → form_refused f op ≡ None → data_refused f op ≡ None → keys_refused n (Some serial) file (keys_asked f op) ≡ None → f.organization ≡ Sequential → moves_end (changes_of f op) ≡ true →
      In End (keys_held f op) × IsFreeFor n.volatile.locks file serial End
  own_end serial file op f form passed e is m =
      let i = moving_asks f op form passed is m in
      (in_front End (keys_asked f op) (keys_found f op) i, at_key (IsFreeFor n.volatile.locks file serial) End (keys_asked f op) (free_for n serial file (keys_asked f op) e) i)

  plain_changes : (file : List ℕ) (op : Operation) (f : File) → find_file file n.durable.directory ≡ Some f → data_refused f op ≡ None → ArePlain (changes_of f op)
  plain_changes file op f found passed = changes_plain f op (h.filed.plain file f found).absent passed

  -- changes may be entered in the images of their file
  pub enters : (serial : Id) (file : List ℕ) (op : Operation) (f : File) (cs : List Change) → find_file file n.durable.directory ≡ Some f → changes_of f op ≡ cs → has_changes cs ≡ true → IsOpenIn serial (state_of f) → data_refused f op ≡ None →
      keys_refused n (Some serial) file (keys_asked f op) ≡ None → images_full serial (changes_of f op) f ≡ None → (g : File) → find_file file n.durable.directory ≡ Some g → MayEnterImages serial cs g
  enters serial file op f cs found is some unsettled passed e full g at = subst (MayEnterImages serial cs) (some_is f g (sym found ∙ at)) (record {
    begins = λ none. unsettled;
    free = subst (AllByRecursion (λ (c : Change). is_free serial f.history.live c.key ≡ true)) is (free_keys serial file op f found passed e);
    found = subst (λ ds. Found ds (current f.history)) is (changes_found f op);
    fits = fits_images serial cs f some (subst (λ ds. images_full serial ds f ≡ None) is full);
  })

  pub operation_keeps : (b : Branch) (file : List ℕ) (op : Operation) (f : File) → In b n.volatile.branches → is_working b ≡ true → find_file file n.durable.directory ≡ Some f → form_refused f op ≡ None → data_refused f op ≡ None → is_marked f ≡ None →
      keys_refused n (Some b.key.serial) file (keys_asked f op) ≡ None → more_locks n file (keys_held f op) ≡ None → images_full b.key.serial (changes_of f op) f ≡ None → RowsKeep (operated n file op b ∷ []) n
  operation_keeps b file op f i works found form passed marked e locks full =
      subst (λ cs. RowsKeep (silent (operation_act b file cs (keys_at n file op)) ∷ []) n) (sym (changes_there n file op f found))
      (subst (λ keys. RowsKeep (silent (operation_act b file (changes_of f op) keys) ∷ []) n) (sym (keys_there n file op f found)) (go (changes_of f op) refl))
    where
      has : HasLocks n file (keys_held f op)
      has = ltb-false lock_limit _ (not_refused (nat_lt lock_limit (length n.volatile.locks + length (not_locked n.volatile.locks file (keys_held f op)))) (line.QuotaExceeded line.Locks lock_limit) locks)

      there : In b.key.serial (serials_of n.volatile.branches)
      there = subst (In b.key.serial) (sym (same_serials n.volatile.branches)) (in_serials b n.volatile.branches i)

      go : (cs : List Change) → changes_of f op ≡ cs → RowsKeep (silent (operation_act b file cs (keys_held f op)) ∷ []) n
      go [] is = record { up = (h, held_up b.key.serial file (keys_held f op) n there has h); room = room }
      go (c ∷ cs) is =
          let may : MayChange n.durable b.key.serial file (c ∷ cs) = record {
            some = refl;
            unsettled = (h.table.entries b i).unsettled;
            names = h.filed.names;
            free = λ g at. subst (λ (w : File). AllByRecursion (λ (c : Change). is_free b.key.serial w.history.live c.key ≡ true) (c ∷ cs)) (some_is f g (sym found ∙ at))
                (subst (AllByRecursion (λ (c : Change). is_free b.key.serial f.history.live c.key ≡ true)) is (free_keys b.key.serial file op f found passed e));
            found = λ g at. subst (λ (w : File). Found (c ∷ cs) (current w.history)) (some_is f g (sym found ∙ at)) (subst (λ ds. Found ds (current f.history)) is (changes_found f op));
          } in
          let of = drawn_of n.name n.durable.boot n.volatile.drawn b.key.serial (branch_drawn n h.table b.key.serial (in_serials b n.volatile.branches i)) in
          let ends : f.organization ≡ Sequential → moves_end (c ∷ cs) ≡ true → In End (keys_held f op) × IsFreeFor n.volatile.locks file b.key.serial End = λ q m. own_end b.key.serial file op f form passed e q (subst (λ ds. moves_end ds ≡ true) (sym is) m) in
          let up = entered_up b file (c ∷ cs) (keys_held f op) n i (working b works) (
            may,
            of,
            subst ArePlain is (plain_changes file op f found passed),
            λ g at q m. subst (λ (w : File). w.organization ≡ Sequential → moves_end (c ∷ cs) ≡ true → end_is_free b.key.serial w.history.live ≡ true) (some_is f g (sym found ∙ at))
                (λ q m. end_is_free_for n.volatile.locks file b.key.serial f (noted_at n.durable.units file n.durable.directory f h.filed.can found).differ q (h.holding.files file f found).end (ends q m).1) q m,
            enters b.key.serial file op f (c ∷ cs) found is refl (unsettled_in_images b.key.serial file f (h.running.images.unsettled b i (working b works) file f found)) passed e full,
          )
          f found (marked_is f marked) (subst (AllByRecursion (λ (c : Change). In c.key (keys_held f op) × IsFreeFor n.volatile.locks file b.key.serial c.key)) is (own_keys b.key.serial file op f passed e)) ends has h in
          record { up = (h, up); room = let l = length_changed b.key.serial n.volatile.branches in omega (arith, l, room) }

  next_fresh : is_unit (next_id n) n.durable.units ≡ false
  next_fresh = go (find_unit (next_id n) (units_in n.durable.units.entries)) refl
    where
      go : (o : Option RecoveryUnit) → find_unit (next_id n) (units_in n.durable.units.entries) ≡ o → is_some o ≡ false
      go (Some u) k = let r = h.table.branches (next_id n) u k in absurd (undrawn n (r.branch).key.serial (branch_drawn n h.table (r.branch).key.serial (in_serials r.branch n.volatile.branches r.there)) r.serial)
      go None k = refl

  pub direct_keeps : (file : List ℕ) (op : Operation) (f : File) → find_file file n.durable.directory ≡ Some f → data_refused f op ≡ None → keys_refused n None file (keys_asked f op) ≡ None → images_full (next_id n) (changes_of f op) f ≡ None → RowsKeep (directed n file (changes_at n file op)) n
  direct_keeps file op f found passed e full = subst (λ cs. RowsKeep (directed n file cs) n) (sym (changes_there n file op f found)) (go (changes_of f op) refl)
    where
      go : (cs : List Change) → changes_of f op ≡ cs → RowsKeep (directed n file cs) n
      go [] is = nothing_done n h room
      go (c ∷ cs) is =
          let free = free_keys (next_id n) file op f found passed (refused_to_all n (next_id n) file (keys_asked f op) e) in
          let may : MayDirect n.durable (next_id n) file (c ∷ cs) = record {
            some = refl;
            fresh = next_fresh;
            free = λ g at. subst (λ (w : File). AllByRecursion (λ (c : Change). is_free (next_id n) w.history.live c.key ≡ true) (c ∷ cs)) (some_is f g (sym found ∙ at))
                (subst (AllByRecursion (λ (c : Change). is_free (next_id n) f.history.live c.key ≡ true)) is free);
            found = λ g at. subst (λ (w : File). Found (c ∷ cs) (current w.history)) (some_is f g (sym found ∙ at)) (subst (λ ds. Found ds (current f.history)) is (changes_found f op));
          } in
          record {
            up = (
              h,
              directed_up file c cs (commit_settlement n (next_id n) (next_id n)) n (
                may,
                (refl, omega arith),
                subst ArePlain is (plain_changes file op f found passed),
                refl,
                refl,
                next_later n,
                enters (next_id n) file op f (c ∷ cs) found is refl (unsettled_in_images (next_id n) file f (undrawn_open n.name n.durable.boot n.volatile.drawn (next_id n) n.durable.directory (undrawn n) h.running.images.drawn file f found)) passed
                    (refused_to_all n (next_id n) file (keys_asked f op) e) full,
              ) (refl, inr (refl, omega arith)) (undrawn n) h,
            );
            room = room;
          }
