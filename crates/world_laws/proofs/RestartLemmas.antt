-- A restart undoes unit after unit.
use Rattle.std.proofs.Common.{◌≡◌, ℕ, zero, suc, List, [], ◌∷◌, map, take, Bool, true, false, Option, Some, None, if◌then◌else◌, refl, sym, ◌∙◌, ap, subst}
use Rattle.std.specs.Prelude.{is_some}
use Rattle.std.specs.Option.{option_map}
use Rattle.std.specs.List.{AllByRecursion}
use Rattle.std.proofs.lemmas.Bool.{both_ways}
use Rattle.vms_model.specs.Ids.{Id}
use Rattle.vms_model.specs.Transactions.{Abort, SegFail}
use Rattle.run_model.specs.records_model.History.{LiveChanges, records, same_id, settled_at}
use Rattle.run_model.specs.unit_laws.Journal.{Journal, RecoveryUnit, find_unit, units_in, with_settled}
use Rattle.run_model.specs.unit_laws.JournalLaws.{HasSettled, is_unit}
use Rattle.run_model.proofs.unit_laws.TrimLemmas.{settles_unit}
use Rattle.run_model.proofs.unit_laws.NoteLemmas.{settles_keep_notes}
use Rattle.run_model.specs.commit_protocol.Table.{Undoes}
use Rattle.run_model.specs.commit_protocol.World.{undo_all}
use Rattle.run_model.specs.World.{Shared, Node, File, IsPreparedUnit, Settlement, Boots, Tables, acted, next_moment, settled_file, settlement}
use Rattle.run_model.specs.Answers.{left_active, table_rows, unit_key}
use Rattle.run_model.specs.Steps.{node_after_rows}
use Rattle.world_laws.specs.Restarts.{AllNoted, CanRestart, HasRestarted, Keeps, KeepsFile, KeepFiles, OnlyPrepared, RestartRestores, RestartCutShort}
use Rattle.world_laws.proofs.IdLemmas.{id_is, id_itself}
use Rattle.world_laws.proofs.HistoryLemmas.{aborted_leaves, by_settled}
use Rattle.world_laws.proofs.UnitSets.{active_unprepared, unprepared_active, units_differ}

-- Files.

kept_itself : (units : Journal) (fs : List (Option File)) → KeepFiles units fs fs
kept_itself units [] = tt
kept_itself units (None ∷ fs) = kept_itself units fs
kept_itself units (Some f ∷ fs) = (record { name = refl; committed = refl; prepared = λ x p. refl }, kept_itself units fs)

file_on : (old mid : Journal) (f g h : File) → ((x : Id) → IsPreparedUnit old x → IsPreparedUnit mid x) → KeepsFile old f g → KeepsFile mid g h → KeepsFile old f h
file_on old mid f g h still j k = record { name = k.name ∙ j.name; committed = k.committed ∙ j.committed; prepared = λ x p. k.prepared x (still x p) ∙ j.prepared x p }

kept_on : (old mid : Journal) (fs gs hs : List (Option File)) → ((x : Id) → IsPreparedUnit old x → IsPreparedUnit mid x) → KeepFiles old fs gs → KeepFiles mid gs hs → KeepFiles old fs hs
kept_on old mid [] [] [] s h k = tt
kept_on old mid [] [] (x ∷ hs) s h k = absurd k
kept_on old mid [] (g ∷ gs) hs s h k = absurd h
kept_on old mid (None ∷ fs) [] hs s h k = absurd h
kept_on old mid (None ∷ fs) (None ∷ gs) [] s h k = absurd k
kept_on old mid (None ∷ fs) (None ∷ gs) (None ∷ hs) s h k = kept_on old mid fs gs hs s h k
kept_on old mid (None ∷ fs) (None ∷ gs) (Some x ∷ hs) s h k = absurd k
kept_on old mid (None ∷ fs) (Some g ∷ gs) hs s h k = absurd h
kept_on old mid (Some f ∷ fs) [] hs s h k = absurd h
kept_on old mid (Some f ∷ fs) (None ∷ gs) hs s h k = absurd h
kept_on old mid (Some f ∷ fs) (Some g ∷ gs) [] s h k = absurd k
kept_on old mid (Some f ∷ fs) (Some g ∷ gs) (None ∷ hs) s h k = absurd k
kept_on old mid (Some f ∷ fs) (Some g ∷ gs) (Some x ∷ hs) s h k = (file_on old mid f g x s h.0 k.0, kept_on old mid fs gs hs s h.1 k.1)

-- disks that keep, one after another
keeps_itself : (n : Node) → Keeps n.durable n.durable
keeps_itself n = record { files = kept_itself n.durable.units n.durable.directory; prepared = λ x u e p. e; log = refl }

keeps_on : (a b c : Node) → Keeps a.durable b.durable → Keeps b.durable c.durable → Keeps a.durable c.durable
keeps_on a b c h k = record {
  files = kept_on a.durable.units b.durable.units a.durable.directory b.durable.directory c.durable.directory (λ x p. (p.0, h.prepared x p.0 p.1 p.2, p.2)) h.files k.files;
  prepared = λ x u e p. k.prepared x u (h.prepared x u e p) p;
  log = k.log ∙ h.log;
}

-- a branch that is not prepared is aborted
abbrev pub IsUnprepared : Journal → Id → Type 0
IsUnprepared units x = (u : RecoveryUnit) → find_unit x (units_in units.entries) ≡ Some u → u.prepared ≡ false

apart_from : (units : Journal) (serial x : Id) → IsUnprepared units serial → IsPreparedUnit units x → same_id x serial ≡ false
apart_from units serial x a p = go (same_id x serial) refl
  where
    go : (b : Bool) → same_id x serial ≡ b → b ≡ false
    go true t = absurd (both_ways _ (a p.0 (ap (λ y. find_unit y (units_in units.entries)) (sym (id_is x serial t)) ∙ p.1)) p.2)
    go false t = refl

kept_settled : (units : Journal) (s : Settlement) (fs : List (Option File)) → s.outcome ≡ Abort → IsUnprepared units s.serial → KeepFiles units fs (map (option_map (settled_file s)) fs)
kept_settled units s [] is a = tt
kept_settled units s (None ∷ fs) is a = kept_settled units s fs is a
kept_settled units s (Some f ∷ fs) is a = (
  record {
    name = refl;
    committed = subst (λ o. records (settled_at s.serial o s.moment f.history) ≡ records f.history) (sym is) (aborted_leaves s.serial s.moment f.history);
    prepared = λ x p. by_settled x s.serial s.outcome s.moment f.history (apart_from units s.serial x a p);
  },
  kept_settled units s fs is a,
)

pub noted_settled : (units : Journal) (s : Settlement) (fs : List (Option File)) → AllNoted units fs → AllNoted (with_settled s.tid s.serial s.outcome s.moment units) (map (option_map (settled_file s)) fs)
noted_settled units s [] h = tt
noted_settled units s (None ∷ fs) h = noted_settled units s fs h
noted_settled units s (Some f ∷ fs) h = (settles_keep_notes units f.name f.history s.tid s.serial s.outcome s.moment h.0, noted_settled units s fs h.1)

-- only prepared branches have changes of a file where all units that are left are prepared
only_live : (units : Journal) (ls : List LiveChanges) → ((x : Id) (u : RecoveryUnit) → find_unit x (units_in units.entries) ≡ Some u → u.prepared ≡ true) → AllByRecursion (λ (l : LiveChanges). is_unit l.serial units ≡ true) ls →
    AllByRecursion (λ (l : LiveChanges). IsPreparedUnit units l.serial) ls
only_live units [] all h = tt
only_live units (l ∷ ls) all h = (go (find_unit l.serial (units_in units.entries)) refl h.0, only_live units ls all h.1)
  where
    go : (o : Option RecoveryUnit) → find_unit l.serial (units_in units.entries) ≡ o → is_some o ≡ true → IsPreparedUnit units l.serial
    go (Some u) e k = (u, e, all l.serial u e)
    go None e k = let none : ⊥ = cc in absurd none

only_left : (units : Journal) (fs : List (Option File)) → ((x : Id) (u : RecoveryUnit) → find_unit x (units_in units.entries) ≡ Some u → u.prepared ≡ true) → AllNoted units fs → OnlyPrepared units fs
only_left units [] all h = tt
only_left units (None ∷ fs) all h = only_left units fs all h
only_left units (Some f ∷ fs) all h = (only_live units f.history.live all h.0.units, only_left units fs all h.1)

-- Units.

-- a branch that is settled is no unit any more
not_that : (j new : Journal) (serial other : Id) → HasSettled serial j new → same_id other serial ≡ true → is_unit other new ≡ true → ⊥
not_that j new serial other h t e = both_ways _ h.gone (subst (λ x. is_unit x new ≡ true) (id_is other serial t) e)

-- these units are just those that are not prepared
pub record AreActive (us : List RecoveryUnit) (units : Journal) : Type 0 where
  pub all : (x : Id) (u : RecoveryUnit) → find_unit x (units_in units.entries) ≡ Some u → u.prepared ≡ false → is_some (find_unit x us) ≡ true
  pub only : (x : Id) → is_some (find_unit x us) ≡ true → IsUnprepared units x

pub active_settled : (u : RecoveryUnit) (us : List RecoveryUnit) (j new : Journal) → HasSettled u.serial j new → AreActive (u ∷ us) j → AreActive us new
active_settled u us j new h a = record { all = λ x v e p. all x v e p (same_id x u.serial) refl; only = λ x e v k. only x e v k (same_id x u.serial) refl }
  where
    all : (x : Id) (v : RecoveryUnit) → find_unit x (units_in new.entries) ≡ Some v → v.prepared ≡ false → (b : Bool) → same_id x u.serial ≡ b → is_some (find_unit x us) ≡ true
    all x v e p true t = absurd (not_that j new u.serial x h t (ap is_some e))
    all x v e p false t = subst (λ b. is_some (if b then Some u else find_unit x us) ≡ true) t (a.all x v (sym (h.others x t) ∙ e) p)

    only : (x : Id) → is_some (find_unit x us) ≡ true → (v : RecoveryUnit) → find_unit x (units_in new.entries) ≡ Some v → (b : Bool) → same_id x u.serial ≡ b → v.prepared ≡ false
    only x e v k true t = absurd (not_that j new u.serial x h t (ap is_some k))
    only x e v k false t = a.only x (subst (λ b. is_some (if b then Some u else find_unit x us) ≡ true) (sym t) e) v (sym (h.others x t) ∙ k)

pub first_active : (u : RecoveryUnit) (us : List RecoveryUnit) (units : Journal) → AreActive (u ∷ us) units → IsUnprepared units u.serial
first_active u us units a = a.only u.serial (rw (id_itself u.serial) refl)

-- One unit.

abbrev pub undone_unit : Node → RecoveryUnit → Node
undone_unit n u = acted (Tables (Undoes (unit_key u)) (next_moment n)) n

abbrev undoing : Node → RecoveryUnit → Settlement
undoing n u = settlement (unit_key u) Abort SegFail (next_moment n)

pub has_settled : (n : Node) (u : RecoveryUnit) → HasSettled u.serial n.durable.units (undone_unit n u).durable.units
has_settled n u = let s = undoing n u in settles_unit s.tid s.serial s.outcome s.moment n.durable.units

can_undone : (n : Node) (u : RecoveryUnit) → CanRestart n.durable → CanRestart (undone_unit n u).durable
can_undone n u h = noted_settled n.durable.units (undoing n u) n.durable.directory h

keeps_one : (n : Node) (u : RecoveryUnit) → IsUnprepared n.durable.units u.serial → Keeps n.durable (undone_unit n u).durable
keeps_one n u a = record {
  files = kept_settled n.durable.units (undoing n u) n.durable.directory refl a;
  prepared = λ x v e p. (has_settled n u).others x (apart_from n.durable.units u.serial x a (v, e, p)) ∙ e;
  log = refl;
}

-- All of them, or some.

undoes_all : (us : List RecoveryUnit) (s : Shared) (n : Node) → CanRestart n.durable → AreActive us n.durable.units → HasRestarted n.durable (node_after_rows (table_rows (undo_all (map unit_key us)) s n) n).durable
undoes_all [] s n h a = record { keeps = keeps_itself n; only = only_left n.durable.units n.durable.directory left h; units = left }
  where
    left : (x : Id) (u : RecoveryUnit) → find_unit x (units_in n.durable.units.entries) ≡ Some u → u.prepared ≡ true
    left x u e = go u.prepared refl
      where
        go : (b : Bool) → u.prepared ≡ b → b ≡ true
        go true p = refl
        go false p = let clash : false ≡ true = a.all x u e p in let never : ⊥ = cc in absurd never
undoes_all (u ∷ us) s n h a =
    let r = undoes_all us s (undone_unit n u) (can_undone n u h) (active_settled u us n.durable.units (undone_unit n u).durable.units (has_settled n u) a) in
    record {
      keeps = keeps_on n (undone_unit n u) (node_after_rows (table_rows (undo_all (map unit_key (u ∷ us))) s n) n) (keeps_one n u (first_active u us n.durable.units a)) r.keeps;
      only = r.only;
      units = r.units;
    }

undoes_some : (k : ℕ) (us : List RecoveryUnit) (s : Shared) (n : Node) → CanRestart n.durable → AreActive us n.durable.units →
    (let m = node_after_rows (take k (table_rows (undo_all (map unit_key us)) s n)) n in CanRestart m.durable × Keeps n.durable m.durable)
undoes_some zero us s n h a = (h, keeps_itself n)
undoes_some (suc k) [] s n h a = (h, keeps_itself n)
undoes_some (suc k) (u ∷ us) s n h a =
    let r = undoes_some k us s (undone_unit n u) (can_undone n u h) (active_settled u us n.durable.units (undone_unit n u).durable.units (has_settled n u) a) in
    (r.0, keeps_on n (undone_unit n u) (node_after_rows (take (suc k) (table_rows (undo_all (map unit_key (u ∷ us))) s n)) n) (keeps_one n u (first_active u us n.durable.units a)) r.1)

pub are_active : (n : Node) → AreActive (left_active n) n.durable.units
are_active n = record {
  all = λ x u e p. unprepared_active (units_in n.durable.units.entries) x u e p;
  only = λ x e v k. active_unprepared (units_in n.durable.units.entries) x v (units_differ n.durable.units.entries) e k;
}

booted_keeps : (n m : Node) → Keeps (acted Boots n).durable m.durable → Keeps n.durable m.durable
booted_keeps n m k = record { files = k.files; prepared = k.prepared; log = k.log }

pub restart_restores : RestartRestores
restart_restores s n h =
    let r = undoes_all (left_active n) s (acted Boots n) h (are_active n) in
    record { keeps = booted_keeps n (node_after_rows (table_rows (undo_all (map unit_key (left_active n))) s (acted Boots n)) (acted Boots n)) r.keeps; only = r.only; units = r.units }

pub restart_cut_short : RestartCutShort
restart_cut_short s n zero h = (h, keeps_itself n)
restart_cut_short s n (suc k) h =
    let r = undoes_some k (left_active n) s (acted Boots n) h (are_active n) in
    (r.0, booted_keeps n (node_after_rows (take k (table_rows (undo_all (map unit_key (left_active n))) s (acted Boots n))) (acted Boots n)) r.1)
