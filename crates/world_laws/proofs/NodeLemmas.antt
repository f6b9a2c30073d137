-- What holds of a node in every world, whatever a task makes of it.
use Rattle.std.proofs.Common.{◌≡◌, ℕ, zero, suc, List, [], ◌∷◌, map, take, drop, Bool, true, false, Option, Some, None, if◌then◌else◌, refl, sym, ◌∙◌, subst}
use Rattle.std.specs.Prelude.{slice_index_or}
use Rattle.std.specs.Option.{option_map}
use Rattle.vms_model.specs.Ids.{Id}
use Rattle.vms_model.specs.Keys.{Key}
use Rattle.run_model.specs.records_model.History.{changes_by, changes_key, same_id}
use Rattle.run_model.specs.unit_laws.Units.{Map, moves_end, IsImage}
use Rattle.run_model.specs.commit_protocol.Messages.{LogRecord}
use Rattle.run_model.specs.commit_protocol.World.{In}
use Rattle.run_model.specs.log_laws.Slots.{prepared_of, records_in}
use Rattle.run_model.specs.World.{Act, Boots, ComesUp, Changes, Creates, Directs, File, Formats, Half, IsHalfUndone, IsLogInOrder, Lost, Marks, Saves, Recovers, MayTurnOut, Node, Outturn, Shared, Tables, Taken, aborted_prepared, acted, durable_after, fallen, find_file, half_undone, is_durable, powered, with_half, Numbers, leaving, Labels, Clocks, Declares, Falls, Draws, Holds, Arms}
use Rattle.run_model.specs.Answers.{Row}
use Rattle.run_model.specs.Steps.{act_begun, if_durable, node_after, node_after_rows}
use Rattle.world_laws.proofs.DiskLemmas.{half_filed, place_of}
use Rattle.world_laws.proofs.FindLemmas.{mapped_file, some_is}
use Rattle.world_laws.proofs.HalfLemmas.{by_leaving, keys_leaving}
use Rattle.world_laws.proofs.PlainLemmas.{moves_leaving}
use Rattle.world_laws.proofs.UndoLemmas.{IsLess, few_less, kept_up}
use Rattle.world_laws.proofs.IdLemmas.{id_is}
use Rattle.world_laws.specs.Nodes.{AreKept, AreUp, IsKeptDisk, IsKeptNode, IsUp, on}

-- what holds of a node's disk, of another node with such a disk
pub kept_as : (n m : Node) → m.name ≡ n.name → m.durable ≡ n.durable → IsKeptDisk n → IsKeptDisk m
kept_as n m name durable k = subst IsKeptDisk (λ i. record m { name = sym name i; durable = sym durable i }) again
  where
    again : IsKeptDisk (record m { name = n.name; durable = n.durable })
    again = record {
      filed = k.filed;
      log = record { distinct = k.log.distinct; reached = k.log.reached; prepared_within = k.log.prepared_within; committed_within = k.log.committed_within; prepared = k.log.prepared; active = k.log.active; transactions = k.log.transactions; unsettled = k.log.unsettled; few = k.log.few; slots = k.log.slots };
      unnoted = k.unnoted;
      few = k.few;
    }

-- Rows.

pub last_up : (rs : List Row) (n : Node) → AreUp rs n → IsUp (node_after_rows rs n)
last_up [] n h = h
last_up (r ∷ rs) n h = last_up rs (node_after r.act n) h.1

pub up_kept : (rs : List Row) (n : Node) → AreUp rs n → AreKept rs n
up_kept [] n h = kept_up n h
up_kept (r ∷ rs) n h = (kept_up n h.0, up_kept rs (node_after r.act n) h.1)

acted_way : (act : Act) (n : Node) → (acted act n).under_way ≡ n.under_way
acted_way (Formats slots journal) n = refl
acted_way Boots n = refl
acted_way _ n = refl

pub rows_way : (rs : List Row) (n : Node) → (node_after_rows rs n).under_way ≡ n.under_way
rows_way [] n = refl
rows_way (r ∷ rs) n = rows_way rs (node_after r.act n) ∙ one r.act
  where
    one : (o : Option Act) → (node_after o n).under_way ≡ n.under_way
    one None = refl
    one (Some act) = acted_way act n

kept_at : (k : ℕ) (rs : List Row) (n : Node) → AreKept rs n → IsKeptDisk (node_after_rows (take k rs) n)
kept_at zero [] n h = h
kept_at zero (r ∷ rs) n h = h.0
kept_at (suc k) [] n h = h
kept_at (suc k) (r ∷ rs) n h = kept_at k rs (node_after r.act n) h.1

-- the disk of an act
pub acted_disk : (act : Act) (n : Node) → is_durable act ≡ true → (acted act n).durable ≡ durable_after act n.volatile n.durable
acted_disk Boots n e = refl
acted_disk (Creates place f) n e = refl
acted_disk (Marks file mark) n e = refl
acted_disk (Saves file start) n e = refl
acted_disk (Recovers file start buckets m) n e = refl
acted_disk (Changes tid serial file changes keys) n e = refl
acted_disk (Directs file changes s) n e = refl
acted_disk (Tables a moment) n e = refl
acted_disk (Formats slots journal) n e = let none : ⊥ = cc in absurd none
acted_disk ComesUp n e = let none : ⊥ = cc in absurd none
acted_disk Draws n e = let none : ⊥ = cc in absurd none
acted_disk (Labels l) n e = let none : ⊥ = cc in absurd none
acted_disk (Numbers label serial) n e = let none : ⊥ = cc in absurd none
acted_disk (Holds serial file keys) n e = let none : ⊥ = cc in absurd none
acted_disk (Arms writes choice) n e = let none : ⊥ = cc in absurd none
acted_disk (Clocks now) n e = let none : ⊥ = cc in absurd none
acted_disk (Declares rms) n e = let none : ⊥ = cc in absurd none
acted_disk Falls n e = let none : ⊥ = cc in absurd none

pub acted_name : (act : Act) (n : Node) → (acted act n).name ≡ n.name
acted_name (Formats slots journal) n = refl
acted_name Boots n = refl
acted_name _ n = refl

acted_up : (act : Act) (n : Node) → is_durable act ≡ true → (acted act n).up ≡ n.up
acted_up Boots n e = refl
acted_up (Creates place f) n e = refl
acted_up (Marks file mark) n e = refl
acted_up (Saves file start) n e = refl
acted_up (Recovers file start buckets m) n e = refl
acted_up (Changes tid serial file changes keys) n e = refl
acted_up (Directs file changes s) n e = refl
acted_up (Tables a moment) n e = refl
acted_up (Formats slots journal) n e = refl
acted_up ComesUp n e = let none : ⊥ = cc in absurd none
acted_up Draws n e = refl
acted_up (Labels l) n e = refl
acted_up (Numbers label serial) n e = refl
acted_up (Holds serial file keys) n e = refl
acted_up (Arms writes choice) n e = refl
acted_up (Clocks now) n e = refl
acted_up (Declares rms) n e = refl
acted_up Falls n e = let none : ⊥ = cc in absurd none

-- what may be under way behind some rows
way_at : (b : Bool) (k : ℕ) (rs : List Row) (n : Node) → AreKept rs n → (act : Act) → act_begun b (drop k rs) ≡ Some act → (is_durable act ≡ true) × IsKeptDisk (on (durable_after act (node_after_rows (take k rs) n).volatile (node_after_rows (take k rs) n).durable) (node_after_rows (take k rs) n))
way_at false k rs n h act e = let none : ⊥ = cc in absurd none
way_at true zero [] n h act e = let none : ⊥ = cc in absurd none
way_at true zero (r ∷ rs) n h act e = one r.act e (first rs h.1)
  where
    first : (rs : List Row) → AreKept rs (node_after r.act n) → IsKeptDisk (node_after r.act n)
    first [] k = k
    first (q ∷ qs) k = k.0

    filtered : (a : Act) (b : Bool) → is_durable a ≡ b → ◌≡◌ {A = Option Act} (if b then Some a else None) (Some act) → IsKeptDisk (acted a n) → (is_durable act ≡ true) × IsKeptDisk (on (durable_after act n.volatile n.durable) n)
    filtered a true d f k = subst (λ c. (is_durable c ≡ true) × IsKeptDisk (on (durable_after c n.volatile n.durable) n)) (some_is a act f) (d, kept_as (acted a n) (on (durable_after a n.volatile n.durable) n) (sym (acted_name a n)) (sym (acted_disk a n d)) k)
    filtered a false d f k = let none : ⊥ = cc in absurd none

    one : (o : Option Act) → if_durable o ≡ Some act → IsKeptDisk (node_after o n) → (is_durable act ≡ true) × IsKeptDisk (on (durable_after act n.volatile n.durable) n)
    one None f k = let none : ⊥ = cc in absurd none
    one (Some a) f k = filtered a (is_durable a) refl f k
way_at true (suc k) [] n h act e = let none : ⊥ = cc in absurd none
way_at true (suc k) (r ∷ rs) n h act e = way_at true k rs (node_after r.act n) h.1 act e

pub not_up : {A : Type 0} → false ≡ true → A
not_up e = let none : ⊥ = cc in absurd none

-- a cut
pub cut_kept : (s : Shared) (b : Bool) (k : ℕ) (rs : List Row) (n : Node) → AreKept rs n → (s.in_use ≡ false → act_begun b (drop k rs) ≡ None) → IsKeptNode s (fallen (act_begun b (drop k rs)) (node_after_rows (take k rs) n))
cut_kept s b k rs n h unused = record {
  disk = kept_as (node_after_rows (take k rs) n) (fallen (act_begun b (drop k rs)) (node_after_rows (take k rs) n)) refl refl (kept_at k rs n h);
  way = λ act e. let w = way_at b k rs n h act e in (
    w.0,
    kept_as (on (durable_after act (node_after_rows (take k rs) n).volatile (node_after_rows (take k rs) n).durable) (node_after_rows (take k rs) n))
        (on (durable_after act (node_after_rows (take k rs) n).volatile (node_after_rows (take k rs) n).durable) (fallen (act_begun b (drop k rs)) (node_after_rows (take k rs) n))) refl refl w.1,
    refl,
  );
  runs = λ e. not_up e;
  unused = λ e. (refl, unused e);
}

-- A node whose disk runs again, or does not.

half_less : (n : Node) (serial : Id) (standing : List ℕ → Map) → ((place : ℕ) (f : File) → slice_index_or n.durable.directory place None ≡ Some f → IsHalfUndone serial standing f) → IsLess n.durable (with_half (Some serial) standing n.durable)
half_less n serial standing may = record {
  records = λ r i. i;
  units = λ r i e. e;
  files = λ file f found. at file f (find_file file n.durable.directory) refl (sym (mapped_file file (half_undone serial standing) n.durable.directory (λ g. refl)) ∙ found);
}
  where
    same : (g : File) (file : List ℕ) → find_file file n.durable.directory ≡ Some g → (x : Id) → ((key : Key) → changes_key key (changes_by x (half_undone serial standing g).history.live) ≡ true → changes_key key (changes_by x g.history.live) ≡ true)
        × (moves_end (changes_by x (half_undone serial standing g).history.live) ≡ true → moves_end (changes_by x g.history.live) ≡ true)
    same g file found x = (
      (λ key e. keys (same_id x serial) key (subst (λ cs. changes_key key cs ≡ true) (by_leaving serial (standing g.name) x g.history.live) e)),
      (λ e. ends (same_id x serial) refl (subst (λ cs. moves_end cs ≡ true) (by_leaving serial (standing g.name) x g.history.live) e)),
    )
      where
        keys : (b : Bool) (key : Key) → changes_key key (if b then leaving (standing g.name) [] (changes_by x g.history.live) else changes_by x g.history.live) ≡ true → changes_key key (changes_by x g.history.live) ≡ true
        keys true key e = sym (keys_leaving serial (standing g.name) key [] (changes_by x g.history.live)) ∙ e
        keys false key e = e

        ends : (b : Bool) → same_id x serial ≡ b → moves_end (if b then leaving (standing g.name) [] (changes_by x g.history.live) else changes_by x g.history.live) ≡ true → moves_end (changes_by x g.history.live) ≡ true
        ends true t e =
            let place = place_of file n.durable.directory g found in
            moves_leaving (standing g.name) (changes_by x g.history.live) [] (changes_by x g.history.live)
            (subst (λ y. (key : Key) → changes_key key (changes_by y g.history.live) ≡ true → IsImage (changes_by y g.history.live) key (standing g.name key)) (sym (id_is x serial t)) (may place.0 g place.1).images) (λ key q. q) (λ q. q) e
        ends false t e = e

    at : (file : List ℕ) (f : File) (o : Option File) → find_file file n.durable.directory ≡ o → option_map (half_undone serial standing) o ≡ Some f → (g : File) × (find_file file n.durable.directory ≡ Some g) × (f.organization ≡ g.organization)
        × ((r : LogRecord) → In r (prepared_of (records_in n.durable.log)) → ((key : Key) → changes_key key (changes_by r.serial f.history.live) ≡ true → changes_key key (changes_by r.serial g.history.live) ≡ true)
        × (moves_end (changes_by r.serial f.history.live) ≡ true → moves_end (changes_by r.serial g.history.live) ≡ true))
    at file f (Some g) found e = subst (λ (w : File). (v : File) × (find_file file n.durable.directory ≡ Some v) × (w.organization ≡ v.organization)
        × ((r : LogRecord) → In r (prepared_of (records_in n.durable.log)) → ((key : Key) → changes_key key (changes_by r.serial w.history.live) ≡ true → changes_key key (changes_by r.serial v.history.live) ≡ true)
        × (moves_end (changes_by r.serial w.history.live) ≡ true → moves_end (changes_by r.serial v.history.live) ≡ true)))
        (some_is (half_undone serial standing g) f e) (g, found, refl, λ r i. same g file found r.serial)
    at file f None found e = let none : ⊥ = cc in absurd none

half_kept : (n : Node) (serial : Id) (standing : List ℕ → Map) → ((place : ℕ) (f : File) → slice_index_or n.durable.directory place None ≡ Some f → IsHalfUndone serial standing f) → IsKeptDisk n → IsKeptDisk (on (with_half (Some serial) standing n.durable) n)
half_kept n serial standing may k =
    let m = on (with_half (Some serial) standing n.durable) n in
    let filed = half_filed n.name serial standing n.durable may k.filed in
    let log : IsLogInOrder m = record { distinct = k.log.distinct; reached = k.log.reached; prepared_within = k.log.prepared_within; committed_within = k.log.committed_within; prepared = k.log.prepared; active = k.log.active; transactions = k.log.transactions; unsettled = k.log.unsettled; few = k.log.few; slots = k.log.slots } in
    record { filed = filed; log = log; unnoted = λ name e. k.unnoted name (absent name e); few = few_less n m k filed log (half_less n serial standing may) }
  where
    absent : (name : List ℕ) → find_file name (map (option_map (half_undone serial standing)) n.durable.directory) ≡ None → find_file name n.durable.directory ≡ None
    absent name e = go (find_file name n.durable.directory) (sym (mapped_file name (half_undone serial standing) n.durable.directory (λ f. refl)) ∙ e)
      where
        go : (o : Option File) → option_map (half_undone serial standing) o ≡ None → o ≡ None
        go (Some f) j = let none : ⊥ = cc in absurd none
        go None j = refl

-- what is known of a node whose disk runs again
pub record IsReady (n m : Node) : Type 0 where
  pub disk : IsKeptDisk m
  pub way : m.under_way ≡ None
  pub up : m.up ≡ n.up

pub powered_ready : (o : Outturn) (stops : ℕ) (s : Shared) (n : Node) → MayTurnOut n o → IsKeptNode s n → IsReady n (powered o stops n)
powered_ready Lost stops s n may h = record { disk = kept_as n (powered Lost stops n) refl refl h.disk; way = refl; up = refl }
powered_ready Taken stops s n may h = go n.under_way refl
  where
    go : (w : Option Act) → n.under_way ≡ w → IsReady n (powered Taken stops (record n { under_way = w }))
    go None e = record { disk = kept_as n (powered Taken stops (record n { under_way = None })) refl refl h.disk; way = refl; up = refl }
    go (Some act) e =
        let w = h.way act e in
        let m = record n { under_way = Some act } in
        record {
          disk = kept_as (on (durable_after act n.volatile n.durable) n) (powered Taken stops (record n { under_way = Some act })) (acted_name act m) (acted_disk act m w.0) w.1;
          way = refl;
          up = acted_up act m w.0;
        }
powered_ready (Half standing) stops s n may h = record {
  disk = kept_as (on (with_half (aborted_prepared n.under_way n.durable) standing n.durable) n) (powered (Half standing) stops n) refl refl
      (subst (λ o. IsKeptDisk (on (with_half o standing n.durable) n)) (sym may.1) (half_kept n may.0 standing may.2 h.disk));
  way = refl;
  up = refl;
}
