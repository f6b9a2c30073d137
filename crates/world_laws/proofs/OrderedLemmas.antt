-- The journal of a disk stays in order, act by act.
use Rattle.std.proofs.Common.{◌≡◌, ◌≤◌, ℕ, suc, ◌+◌, List, [], ◌∷◌, ◌++◌, map, length, Bool, true, false, cond, Option, Some, None, if◌then◌else◌, refl, sym, ◌∙◌, ap, subst, arith, append_assoc}
use Rattle.std.specs.Prelude.{is_some, slice_set}
use Rattle.std.specs.List.{AllByRecursion, list_any}
use Rattle.std.specs.Str.{bytes_eq}
use Rattle.std.specs.Option.{option_map}
use Rattle.std.proofs.lemmas.Bool.{both_ways, cond_both, or_parts}
use Rattle.vms_model.specs.Ids.{Id}
use Rattle.vms_model.specs.Keys.{Key}
use Rattle.vms_model.specs.Transactions.{Abort, SegFail}
use Rattle.vms_model.specs.Limits.{branch_limit, change_limit}
use Rattle.run_model.specs.records_model.Records.{Change}
use Rattle.run_model.specs.records_model.History.{same_id}
use Rattle.run_model.specs.unit_laws.Units.{has_changes}
use Rattle.run_model.specs.unit_laws.Journal.{ChangeEntry, JournalEntry, PreparedEntry, RecoveryUnit, SettledEntry, entries_for, entries_from, find_unit, is_of_file, is_of_units, is_settled_in, is_settling, owed, serial_in, trimmed, units_in, units_onto, with_entries, with_one_change, with_prepared, with_settled, without_unit}
use Rattle.run_model.specs.unit_laws.JournalLaws.{is_unit, unit_or_new, with_more}
use Rattle.run_model.proofs.unit_laws.TrimLemmas.{settles_unit, size_append, trim_keeps_units, trimmed_size}
use Rattle.run_model.proofs.unit_laws.UnitLemmas.{changes_make_unit, found_changed, found_prepared, found_settled, is_prepared, prepares_unit, units_follow}
use Rattle.run_model.proofs.unit_laws.Tests.{passed, picked}
use Rattle.run_model.specs.commit_protocol.Table as table
use Rattle.run_model.specs.commit_protocol.Table.{Branch, Prepares, Undoes}
use Rattle.run_model.specs.log_laws.Slots.{Slots, slots_after}
use Rattle.run_model.specs.World as world
use Rattle.run_model.specs.Locks.{is_locked}
use Rattle.run_model.specs.World.{Durable, File, IsOfTransaction, Settlement, changed_file, directly_changed, find_file, free_place, half_undone, marked_file, recovered_file, saved_file, settled_file, settlement, tid_in, with_file, with_settlement}
use Rattle.run_model.specs.Answers.{owed_first}
use Rattle.world_laws.specs.Ordered.{AreFew, AreFewOver, AreInOrder, BootsKeepOrder, ChangesKeepOrder, CreatesKeepOrder, DirectsKeepOrder, FormatsInOrder, IsNoteOf, IsSettledBy, HalvesKeepOrder, IsJournalInOrder, MarksKeepOrder, RecoversKeepOrder, SavesKeepOrder, MayFollow, MayPrepare, Suits, TablesKeepOrder, is_preparing}
use Rattle.world_laws.proofs.IdLemmas.{id_is, id_itself}
use Rattle.world_laws.proofs.FewLemmas.{few_entered, few_from, few_in, few_more}
use Rattle.world_laws.proofs.FindLemmas.{either_way, mapped_file, placed_file, some_is}
use Rattle.world_laws.proofs.EntryLemmas.{all_append, all_entered, all_more, all_settled, all_trimmed, none_prepares, none_settles}
use Rattle.world_laws.proofs.HeldLemmas.{file_after}

-- Entries and their files.

-- changes of a file that leave what its entries ask of it
abbrev LeavesNotes : (File → File) → Type 0
LeavesNotes change = (f : File) (key : Key) (before : Option (List ℕ)) → IsNoteOf f key before → IsNoteOf (change f) key before

suits_changed : (other : List ℕ) (change : File → File) (fs : List (Option File)) → ((f : File) → (change f).name ≡ f.name) → LeavesNotes change → (e : JournalEntry) → Suits fs e → Suits (with_file other change fs) e
suits_changed other change fs named same (ChangeEntry tid serial file key before) h = λ f e. go f (bytes_eq other file) (sym (file_after file other change fs named) ∙ e)
  where
    at : (f : File) (o : Option File) → find_file file fs ≡ o → ◌≡◌ {A = Option File} (option_map change o) (Some f) → IsNoteOf f key before
    at f (Some g) found k = subst (λ (x : File). IsNoteOf x key before) (some_is (change g) f k) (same g key before (h g found))
    at f None found k = let none : ⊥ = cc in absurd none

    go : (f : File) (b : Bool) → ◌≡◌ {A = Option File} (if b then option_map change (find_file file fs) else find_file file fs) (Some f) → IsNoteOf f key before
    go f true k = at f (find_file file fs) refl k
    go f false k = h f k
suits_changed other change fs named same (PreparedEntry tid serial) h = tt
suits_changed other change fs named same (SettledEntry tid serial outcome moment) h = tt

suits_mapped : (change : File → File) (fs : List (Option File)) → ((f : File) → (change f).name ≡ f.name) → LeavesNotes change → (e : JournalEntry) → Suits fs e → Suits (map (option_map change) fs) e
suits_mapped change fs named same (ChangeEntry tid serial file key before) h = λ f e. at f (find_file file fs) refl (sym (mapped_file file change fs named) ∙ e)
  where
    at : (f : File) (o : Option File) → find_file file fs ≡ o → ◌≡◌ {A = Option File} (option_map change o) (Some f) → IsNoteOf f key before
    at f (Some g) found k = subst (λ (x : File). IsNoteOf x key before) (some_is (change g) f k) (same g key before (h g found))
    at f None found k = let none : ⊥ = cc in absurd none
suits_mapped change fs named same (PreparedEntry tid serial) h = tt
suits_mapped change fs named same (SettledEntry tid serial outcome moment) h = tt

suits_placed : (f : File) (fs : List (Option File)) (place : ℕ) → free_place fs ≡ Some place → find_file f.name fs ≡ None → (e : JournalEntry) → is_of_file f.name e ≡ false → Suits fs e → Suits (slice_set fs place (Some f)) e
suits_placed f fs place free none (ChangeEntry tid serial file key before) other h = λ g e. go g (bytes_eq file f.name) refl (sym (placed_file file f fs place free none) ∙ e)
  where
    go : (g : File) (b : Bool) → bytes_eq file f.name ≡ b → ◌≡◌ {A = Option File} (if b then Some f else find_file file fs) (Some g) → IsNoteOf g key before
    go g true t k = absurd (both_ways _ other (either_way f.name file ∙ t))
    go g false t k = h g k
suits_placed f fs place free none (PreparedEntry tid serial) other h = tt
suits_placed f fs place free none (SettledEntry tid serial outcome moment) other h = tt

all_placed : (f : File) (fs : List (Option File)) (place : ℕ) (es : List JournalEntry) → free_place fs ≡ Some place → find_file f.name fs ≡ None → list_any (is_of_file f.name) es ≡ false → AllByRecursion (Suits fs) es →
    AllByRecursion (Suits (slice_set fs place (Some f))) es
all_placed f fs place [] free none other h = tt
all_placed f fs place (e ∷ es) free none other h =
    let parts = or_parts (is_of_file f.name e) (list_any (is_of_file f.name) es) other in
    (suits_placed f fs place free none e parts.0 h.0, all_placed f fs place es free none parts.1 h.1)

each_suits : (fs : List (Option File)) (tid serial : Id) (file : List ℕ) (cs : List Change) → ((f : File) → find_file file fs ≡ Some f → AllByRecursion (λ (c : Change). IsNoteOf f c.key c.before) cs) → AllByRecursion (Suits fs) (entries_for tid serial file cs)
each_suits fs tid serial file [] h = tt
each_suits fs tid serial file (c ∷ cs) h =
    all_append (Suits fs) (entries_for tid serial file cs) (ChangeEntry tid serial file c.key c.before ∷ []) (each_suits fs tid serial file cs (λ f e. (h f e).1)) ((λ f e. (h f e).0), tt)

-- The order of entries.

in_order_append : (es fs : List JournalEntry) → AreInOrder es → AreInOrder fs → AllByRecursion (λ (e : JournalEntry). AllByRecursion (MayFollow e) fs) es → AreInOrder (es ++ fs)
in_order_append [] fs h k a = k
in_order_append (e ∷ es) fs h k a = (all_append (MayFollow e) es fs h.0 a.0, in_order_append es fs h.1 k a.1)

in_order_from : (us : List RecoveryUnit) (es : List JournalEntry) → AreInOrder es → AreInOrder (entries_from us es)
in_order_from us [] h = tt
in_order_from us (e ∷ es) h = cond_both (is_of_units us e) (e ∷ es) (entries_from us es) AreInOrder (λ t. h) (λ t. in_order_from us es h.1)

entered_in_order : (tid serial : Id) (file : List ℕ) (cs : List Change) → AreInOrder (entries_for tid serial file cs)
entered_in_order tid serial file [] = tt
entered_in_order tid serial file (c ∷ cs) =
    let e = ChangeEntry tid serial file c.key c.before in
    in_order_append (entries_for tid serial file cs) (e ∷ []) (entered_in_order tid serial file cs) (tt, tt)
    (all_entered (λ (x : JournalEntry). AllByRecursion (MayFollow x) (e ∷ [])) tid serial file cs (λ d. (record { unsettled = refl; settles = λ p. let none : ⊥ = cc in absurd none; transaction = λ t. refl }, tt)))

-- an entry of this branch may follow others
all_follow : (e : JournalEntry) (es : List JournalEntry) → AllByRecursion (λ (x : JournalEntry). is_settling (serial_in e) x ≡ false) es →
    AllByRecursion (λ (x : JournalEntry). is_preparing (serial_in e) x ≡ true → is_settling (serial_in e) e ≡ true) es → AllByRecursion (IsOfTransaction (tid_in e) (serial_in e)) es → AllByRecursion (λ (x : JournalEntry). AllByRecursion (MayFollow x) (e ∷ [])) es
all_follow e [] h p k = tt
all_follow e (x ∷ es) h p k = ((record { unsettled = h.0; settles = p.0; transaction = k.0 }, tt), all_follow e es h.1 p.1 k.1)

all_any : (P : JournalEntry → Type 0) (es : List JournalEntry) → ((e : JournalEntry) → P e) → AllByRecursion P es
all_any P [] f = tt
all_any P (e ∷ es) f = (f e, all_any P es f)

-- Units.

count_one : (tid t : Id) (us : List RecoveryUnit) → length (with_one_change tid t us) ≡ length us + (if is_some (find_unit t us) then 0 else 1)
count_one tid t [] = refl
count_one tid t (u ∷ us) = step (same_id t u.serial) (count_one tid t us)
  where
    step : (b : Bool) → length (with_one_change tid t us) ≡ length us + (if is_some (find_unit t us) then 0 else 1) →
        length (if b then record u { changes = u.changes + 1 } ∷ us else u ∷ with_one_change tid t us) ≡ suc (length us) + (if is_some (if b then Some u else find_unit t us) then 0 else 1)
    step true later = omega arith
    step false later = omega (arith, later)

count_entered : (tid serial : Id) (file : List ℕ) (cs : List Change) (es : List JournalEntry) → has_changes cs ≡ true → length (units_in (es ++ entries_for tid serial file cs)) ≡ length (units_in es) + (if is_some (find_unit serial (units_in es)) then 0 else 1)
count_entered tid serial file [] es some = let none : ⊥ = cc in absurd none
count_entered tid serial file (c ∷ []) es some = ap length (units_follow es (ChangeEntry tid serial file c.key c.before ∷ [])) ∙ count_one tid serial (units_in es)
count_entered tid serial file (c ∷ d ∷ cs) es some =
    let longer = es ++ entries_for tid serial file (d ∷ cs) in
    let whole : units_in (es ++ entries_for tid serial file (c ∷ d ∷ cs)) ≡ with_one_change tid serial (units_in longer) =
    ap units_in (sym (append_assoc es (entries_for tid serial file (d ∷ cs)) (ChangeEntry tid serial file c.key c.before ∷ []))) ∙ units_follow longer (ChangeEntry tid serial file c.key c.before ∷ []) in
    ap length whole ∙ count_one tid serial (units_in longer)
    ∙ ap (λ (o : Option RecoveryUnit). length (units_in longer) + (if is_some o then 0 else 1)) (changes_make_unit tid serial file (d ∷ cs) es refl).own
    ∙ nothing_more (length (units_in longer)) ∙ count_entered tid serial file (d ∷ cs) es refl
  where
    nothing_more : (k : ℕ) → k + 0 ≡ k
    nothing_more k = omega arith

count_without : (serial : Id) (us : List RecoveryUnit) → length (without_unit serial us) ≤ length us
count_without serial [] = omega arith
count_without serial (u ∷ us) = step (same_id serial u.serial) (count_without serial us)
  where
    step : (b : Bool) → length (without_unit serial us) ≤ length us → length (if b then without_unit serial us else u ∷ without_unit serial us) ≤ suc (length us)
    step true later = omega (arith, later)
    step false later = omega (arith, later)

-- Acts.

pub changes_keep_order : ChangesKeepOrder
changes_keep_order d v tid serial file cs keys h m =
    let es = d.units.entries in
    let more = entries_for tid serial file cs in
    let change = changed_file (is_locked v.locks file) tid serial cs in
    let follows : (e : JournalEntry) → is_settling serial e ≡ false → is_preparing serial e ≡ false → IsOfTransaction tid serial e → AllByRecursion (MayFollow e) more =
    λ e u p t. all_entered (MayFollow e) tid serial file cs (λ c. record { unsettled = u; settles = λ q. absurd (both_ways _ p q); transaction = t }) in
    record {
      suit = all_more (Suits d.directory) (Suits (with_file file change d.directory)) (es ++ more) (suits_changed file change d.directory (λ f. refl) (λ f key before k. k))
          (all_append (Suits d.directory) es more h.suit (each_suits d.directory tid serial file cs m.suit));
      order = in_order_append es more h.order (entered_in_order tid serial file cs) (each_follows es follows (none_settles serial es m.unsettled) (none_prepares serial es m.unprepared) m.transaction);
      few = few_more es more h.few (few_entered tid serial file es cs few);
      moments = all_append (IsSettledBy d.greatest) es more h.moments (all_entered (IsSettledBy d.greatest) tid serial file cs (λ c. tt));
      fits = let size = size_append es more in let owing = (changes_make_unit tid serial file cs es m.some).owing in let first = first_is (find_unit serial (units_in es)) in let room = m.fits in omega (arith, size, owing, first, room);
    }
  where
    each_follows : (es : List JournalEntry) → ((e : JournalEntry) → is_settling serial e ≡ false → is_preparing serial e ≡ false → IsOfTransaction tid serial e → AllByRecursion (MayFollow e) (entries_for tid serial file cs)) →
        AllByRecursion (λ (e : JournalEntry). is_settling serial e ≡ false) es → AllByRecursion (λ (e : JournalEntry). is_preparing serial e ≡ false) es → AllByRecursion (IsOfTransaction tid serial) es →
        AllByRecursion (λ (e : JournalEntry). AllByRecursion (MayFollow e) (entries_for tid serial file cs)) es
    each_follows [] f u p t = tt
    each_follows (e ∷ es) f u p t = (f e u.0 p.0 t.0, each_follows es f u.1 p.1 t.1)

    old : AreFew (units_in d.units.entries)
    old = few_in d.units.entries h.few

    own : (o : Option RecoveryUnit) → find_unit serial (units_in d.units.entries) ≡ o → (elim o [ Some u ↦ u.changes | None ↦ 0 ]) ≡ (unit_or_new tid serial o).changes
    own (Some u) e = refl
    own None e = refl

    counted : (ds : List Change) → has_changes ds ≡ true → length ds ≤ length cs → (x : Id) (u : RecoveryUnit) (b : Bool) → same_id x serial ≡ b → find_unit x (units_in (d.units.entries ++ entries_for tid serial file ds)) ≡ Some u → u.changes ≤ change_limit
    counted ds some less x u true t e =
        let made = changes_make_unit tid serial file ds d.units.entries some in
        let is = some_is (with_more (length ds) (unit_or_new tid serial (find_unit serial (units_in d.units.entries)))) u
        (sym made.own ∙ subst (λ y. find_unit y (units_in (d.units.entries ++ entries_for tid serial file ds)) ≡ Some u) (id_is x serial t) e) in
        let most = subst (λ k. k + length cs ≤ change_limit) (own (find_unit serial (units_in d.units.entries)) refl) m.changes in
        subst (λ (v : RecoveryUnit). v.changes ≤ change_limit) is (omega (arith, most, less))
    counted ds some less x u false t e = old.changes x u (sym ((changes_make_unit tid serial file ds d.units.entries some).others x t) ∙ e)

    room : (ds : List Change) → has_changes ds ≡ true → (b : Bool) → is_unit serial d.units ≡ b → length (units_in (d.units.entries ++ entries_for tid serial file ds)) ≤ branch_limit
    room ds some true e = let count = count_entered tid serial file ds d.units.entries some ∙ ap (λ b. length (units_in d.units.entries) + (if b then 0 else 1)) e in let most = old.units in omega (arith, count, most)
    room ds some false e = let count = count_entered tid serial file ds d.units.entries some ∙ ap (λ b. length (units_in d.units.entries) + (if b then 0 else 1)) e in let less = m.units e in omega (arith, count, less)

    few : (ds : List Change) → has_changes ds ≡ true → length ds ≤ length cs → AreFew (units_in (d.units.entries ++ entries_for tid serial file ds))
    few ds some less = record { changes = λ x u e. counted ds some less x u (same_id x serial) refl e; units = room ds some (is_unit serial d.units) refl }

    first_is : (o : Option RecoveryUnit) → owed_first o ≡ (if is_some o then 0 else 96)
    first_is (Some u) = refl
    first_is None = refl

later_settled : (old new : ℕ) (e : JournalEntry) → old ≤ new → IsSettledBy old e → IsSettledBy new e
later_settled old new (ChangeEntry tid serial file key before) later h = tt
later_settled old new (PreparedEntry tid serial) later h = tt
later_settled old new (SettledEntry tid serial outcome moment) later h = omega (arith, later, h)

-- a branch is settled in the journal
settled_in_order : (d : Durable) (s : Settlement) (log : Slots) → IsJournalInOrder d → is_settled_in s.serial d.units.entries ≡ false → AllByRecursion (IsOfTransaction s.tid s.serial) d.units.entries → d.greatest ≤ s.moment →
    IsJournalInOrder (with_settlement (Some s) (record d { log = log }))
settled_in_order d s log h unsettled transaction later =
    let es = d.units.entries in
    let settles = settles_unit s.tid s.serial s.outcome s.moment d.units in
    let new = with_settled s.tid s.serial s.outcome s.moment d.units in
    record {
      suit = all_more (Suits d.directory) (Suits (map (option_map (settled_file s)) d.directory)) new.entries (suits_mapped (settled_file s) d.directory (λ f. refl) (λ f key before k. k))
          (all_settled (Suits d.directory) s.tid s.serial s.outcome s.moment d.units h.suit tt);
      order = ordered (find_unit s.serial (units_in es));
      few = few (find_unit s.serial (units_in es));
      moments = all_settled (IsSettledBy s.moment) s.tid s.serial s.outcome s.moment d.units (all_more (IsSettledBy d.greatest) (IsSettledBy s.moment) es (λ e k. later_settled d.greatest s.moment e later k) h.moments) (omega arith);
      fits = let less = settles.fits in let old = h.fits in omega (arith, less, old);
    }
  where
    ending : JournalEntry
    ending = SettledEntry s.tid s.serial s.outcome s.moment

    ordered : (o : Option RecoveryUnit) → AreInOrder (trimmed (elim o [ Some u ↦ with_entries (SettledEntry s.tid s.serial s.outcome s.moment ∷ []) d.units | None ↦ d.units ])).entries
    ordered (Some u) = in_order_from (units_in (d.units.entries ++ ending ∷ [])) (d.units.entries ++ ending ∷ [])
        (in_order_append d.units.entries (ending ∷ []) h.order (tt, tt) (all_follow ending d.units.entries (none_settles s.serial d.units.entries unsettled)
        (all_any (λ (x : JournalEntry). is_preparing s.serial x ≡ true → is_settling s.serial ending ≡ true) d.units.entries (λ x p. id_itself s.serial)) transaction))
    ordered None = in_order_from (units_in d.units.entries) d.units.entries h.order

    few : (o : Option RecoveryUnit) → AreFewOver [] (trimmed (elim o [ Some u ↦ with_entries (SettledEntry s.tid s.serial s.outcome s.moment ∷ []) d.units | None ↦ d.units ])).entries
    few (Some u) = few_from (units_in (d.units.entries ++ ending ∷ [])) (d.units.entries ++ ending ∷ []) (few_more d.units.entries (ending ∷ []) h.few (fewer (few_in d.units.entries h.few), tt))
      where
        fewer : AreFew (units_in d.units.entries) → AreFew (without_unit s.serial (units_in d.units.entries))
        fewer old = record {
          changes = λ x v e. left x v (same_id x s.serial) refl e;
          units = let less = count_without s.serial (units_in d.units.entries) in let most = old.units in omega (arith, less, most);
        }
          where
            found : (x : Id) (b : Bool) → same_id x s.serial ≡ b → find_unit x (without_unit s.serial (units_in d.units.entries)) ≡ cond b None (find_unit x (units_in d.units.entries))
            found x b t = found_settled x s.serial (units_in d.units.entries) ∙ ap (λ (b : Bool). cond b None (find_unit x (units_in d.units.entries))) t

            left : (x : Id) (v : RecoveryUnit) (b : Bool) → same_id x s.serial ≡ b → find_unit x (without_unit s.serial (units_in d.units.entries)) ≡ Some v → v.changes ≤ change_limit
            left x v true t e = let none : ◌≡◌ {A = Option RecoveryUnit} None (Some v) = sym (found x true t) ∙ e in let never : ⊥ = cc in absurd never
            left x v false t e = old.changes x v (sym (found x false t) ∙ e)
    few None = few_from (units_in d.units.entries) d.units.entries h.few

-- a branch is prepared in the journal

-- a unit is not prepared that no entry prepares
unprepared_onto : (x : Id) (us : List RecoveryUnit) (es : List JournalEntry) → ((u : RecoveryUnit) → find_unit x us ≡ Some u → u.prepared ≡ false) → AllByRecursion (λ (e : JournalEntry). is_preparing x e ≡ false) es →
    (u : RecoveryUnit) → find_unit x (units_onto us es) ≡ Some u → u.prepared ≡ false
unprepared_onto x us [] h p u k = h u k
unprepared_onto x us (ChangeEntry tid t file key before ∷ es) h p u k = unprepared_onto x (with_one_change tid t us) es (λ v e. changed v (same_id x t) refl e) p.1 u k
  where
    new : (o : Option RecoveryUnit) → find_unit x us ≡ o → (with_more 1 (unit_or_new tid x o)).prepared ≡ false
    new None e = refl
    new (Some v) e = h v e

    changed : (v : RecoveryUnit) (b : Bool) → same_id x t ≡ b → find_unit x (with_one_change tid t us) ≡ Some v → v.prepared ≡ false
    changed v true is e =
        let same = some_is (with_more 1 (unit_or_new tid t (find_unit t us))) v (sym (picked (same_id x t) _ _ is) ∙ sym (found_changed x tid t us) ∙ e) in
        subst (λ (w : RecoveryUnit). w.prepared ≡ false) same (subst (λ y. (with_more 1 (unit_or_new tid y (find_unit y us))).prepared ≡ false) (id_is x t is) (new (find_unit x us) refl))
    changed v false is e = h v (sym (found_changed x tid t us ∙ passed (same_id x t) _ _ is) ∙ e)
unprepared_onto x us (PreparedEntry tid t ∷ es) h p u k = unprepared_onto x (with_prepared t us) es (λ v e. h v (sym (found_prepared x t us ∙ passed (same_id x t) _ _ p.0) ∙ e)) p.1 u k
unprepared_onto x us (SettledEntry tid t outcome moment ∷ es) h p u k = unprepared_onto x (without_unit t us) es (λ v e. left v (same_id x t) refl e) p.1 u k
  where
    left : (v : RecoveryUnit) (b : Bool) → same_id x t ≡ b → find_unit x (without_unit t us) ≡ Some v → v.prepared ≡ false
    left v true is e = let none : ◌≡◌ {A = Option RecoveryUnit} None (Some v) = sym (found_settled x t us ∙ picked (same_id x t) _ _ is) ∙ e in let never : ⊥ = cc in absurd never
    left v false is e = h v (sym (found_settled x t us ∙ passed (same_id x t) _ _ is) ∙ e)

length_prepared : (x : Id) (us : List RecoveryUnit) → length (with_prepared x us) ≡ length us
length_prepared x [] = refl
length_prepared x (u ∷ us) = step (same_id x u.serial) (length_prepared x us)
  where
    step : (b : Bool) → length (with_prepared x us) ≡ length us → length (if b then record u { prepared = true } ∷ us else u ∷ with_prepared x us) ≡ suc (length us)
    step true later = refl
    step false later = ap suc later

prepared_in_order : (d : Durable) (b : Branch) (log : Slots) → IsJournalInOrder d → MayPrepare d b.key → IsJournalInOrder (record d { log = log; units = world.with_prepared (Prepares b) d.units })
prepared_in_order d b log h may = go (find_unit b.key.serial (units_in d.units.entries)) refl
  where
    x : Id
    x = b.key.serial

    entry : JournalEntry
    entry = PreparedEntry b.key.tid x

    old : AreFew (units_in d.units.entries)
    old = few_in d.units.entries h.few

    found : (y : Id) (v : RecoveryUnit) (t : Bool) → same_id y x ≡ t → find_unit y (with_prepared x (units_in d.units.entries)) ≡ Some v → v.changes ≤ change_limit
    found y v true t e = at (find_unit y (units_in d.units.entries)) refl (sym (found_prepared y x (units_in d.units.entries) ∙ picked (same_id y x) _ _ t) ∙ e)
      where
        at : (o : Option RecoveryUnit) → find_unit y (units_in d.units.entries) ≡ o → option_map is_prepared o ≡ Some v → v.changes ≤ change_limit
        at (Some w) is k = subst (λ (z : RecoveryUnit). z.changes ≤ change_limit) (some_is (is_prepared w) v k) (old.changes y w is)
        at None is k = let none : ⊥ = cc in absurd none
    found y v false t e = old.changes y v (sym (found_prepared y x (units_in d.units.entries) ∙ passed (same_id y x) _ _ t) ∙ e)

    few : AreFew (with_prepared x (units_in d.units.entries))
    few = record { changes = λ y v e. found y v (same_id y x) refl e; units = let same = length_prepared x (units_in d.units.entries) in let most = old.units in omega (arith, same, most) }

    go : (o : Option RecoveryUnit) → find_unit x (units_in d.units.entries) ≡ o → IsJournalInOrder (record d { log = log; units = elim o [ Some u ↦ with_entries (PreparedEntry b.key.tid x ∷ []) d.units | None ↦ d.units ] })
    go (Some u) is = record {
      suit = all_append (Suits d.directory) d.units.entries (entry ∷ []) h.suit (tt, tt);
      order = in_order_append d.units.entries (entry ∷ []) h.order (tt, tt) (all_follow entry d.units.entries (none_settles x d.units.entries may.unsettled)
          (all_more (λ (e : JournalEntry). is_preparing x e ≡ false) (λ (e : JournalEntry). is_preparing x e ≡ true → is_settling x entry ≡ true) d.units.entries (λ e p q. absurd (both_ways _ p q)) (none_prepares x d.units.entries may.unprepared)) may.transaction);
      few = few_more d.units.entries (entry ∷ []) h.few (few, tt);
      moments = all_append (IsSettledBy d.greatest) d.units.entries (entry ∷ []) h.moments (tt, tt);
      fits =
          let size = size_append d.units.entries (entry ∷ []) in
          let less = (prepares_unit b.key.tid x u d.units.entries is).owing (unprepared_onto x [] d.units.entries (λ v e. let none : ⊥ = cc in absurd none) (none_prepares x d.units.entries may.unprepared) u is) in
          let room = h.fits in
          omega (arith, size, less, room);
    }
    go None is = record { suit = h.suit; order = h.order; few = h.few; moments = h.moments; fits = h.fits }

pub tables_keep_order : TablesKeepOrder
tables_keep_order d v (Prepares b) moment h may = prepared_in_order d b (slots_after (Prepares b) v.records d.log) h may
tables_keep_order d v (table.Settles k outcome reason r) moment h may = settled_in_order d (settlement k outcome reason moment) (slots_after (table.Settles k outcome reason r) v.records d.log) h may.unsettled may.transaction may.later
tables_keep_order d v (Undoes k) moment h may = settled_in_order d (settlement k Abort SegFail moment) d.log h may.unsettled may.transaction may.later
tables_keep_order d v _ moment h may = record { suit = h.suit; order = h.order; few = h.few; moments = h.moments; fits = h.fits }

pub halves_keep_order : HalvesKeepOrder
halves_keep_order d serial standing h = record {
  suit = all_more (Suits d.directory) (Suits (map (option_map (half_undone serial standing)) d.directory)) d.units.entries (suits_mapped (half_undone serial standing) d.directory (λ f. refl) (λ f key before k. k)) h.suit;
  order = h.order;
  few = h.few;
  moments = h.moments;
  fits = h.fits;
}

pub directs_keep_order : DirectsKeepOrder
directs_keep_order d v file cs s h later =
    let es = d.units.entries in
    let t = trim_keeps_units d.units in
    let change = directly_changed (is_locked v.locks file) s cs in
    record {
      suit = all_more (Suits d.directory) (Suits (with_file file change d.directory)) (trimmed d.units).entries (suits_changed file change d.directory (λ f. refl) (λ f key before k. k)) (all_trimmed (Suits d.directory) d.units h.suit);
      order = in_order_from (units_in es) es h.order;
      few = few_from (units_in es) es h.few;
      moments = all_trimmed (IsSettledBy s.moment) d.units (all_more (IsSettledBy d.greatest) (IsSettledBy s.moment) es (λ e k. later_settled d.greatest s.moment e later k) h.moments);
      fits = let less = trimmed_size (units_in es) es in let same = ap owed t.units in let old = h.fits in omega (arith, less, same, old);
    }

pub formats_in_order : FormatsInOrder
formats_in_order d v slots journal = record { suit = tt; order = tt; few = tt; moments = tt; fits = omega arith }

pub boots_keep_order : BootsKeepOrder
boots_keep_order d v h = record { suit = h.suit; order = h.order; few = h.few; moments = h.moments; fits = h.fits }

pub marks_keep_order : MarksKeepOrder
marks_keep_order d v file mark h = record {
  suit = all_more (Suits d.directory) (Suits (with_file file (marked_file mark d.greatest) d.directory)) d.units.entries (suits_changed file (marked_file mark d.greatest) d.directory (λ f. refl) (λ f key before k. k)) h.suit;
  order = h.order;
  few = h.few;
  moments = h.moments;
  fits = h.fits;
}

pub saves_keep_order : SavesKeepOrder
saves_keep_order d v file start h = record {
  suit = all_more (Suits d.directory) (Suits (with_file file (saved_file start d.greatest) d.directory)) d.units.entries (suits_changed file (saved_file start d.greatest) d.directory (λ f. refl) (λ f key before k. k)) h.suit;
  order = h.order;
  few = h.few;
  moments = h.moments;
  fits = h.fits;
}

pub recovers_keep_order : RecoversKeepOrder
recovers_keep_order d v file start buckets m h = record {
  suit = all_more (Suits d.directory) (Suits (with_file file (recovered_file start buckets m d.greatest) d.directory)) d.units.entries
      (suits_changed file (recovered_file start buckets m d.greatest) d.directory (λ f. refl) (λ f key before k. k)) h.suit;
  order = h.order;
  few = h.few;
  moments = h.moments;
  fits = h.fits;
}

pub creates_keep_order : CreatesKeepOrder
creates_keep_order d v place f h free none other = record {
  suit = all_placed f d.directory place d.units.entries free none other h.suit;
  order = h.order;
  few = h.few;
  moments = h.moments;
  fits = h.fits;
}
