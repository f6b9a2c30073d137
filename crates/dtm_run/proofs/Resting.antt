-- A node over a volume that rests.
use Rattle.std.proofs.Common.{◌≡◌, inl, inr, ℕ, zero, suc, ◌+◌, ◌-◌, ◌<◌, ◌≤◌, List, [], ◌∷◌, false, Option, Some, None, IfSome, length, refl, sym, ap, subst, ◌∙◌, arith}
use Rattle.std.proofs.lemmas.Bool.{cases_lt}
use Rattle.careful_write.specs.State.{EachWhole}
use Rattle.file_base.specs.declared.head.FileHead.{FileHead}
use Rattle.journal_model.specs.Ring.{IsJournal, stream}
use Rattle.volume.specs.declared.catalog.Catalog.{Catalog}
use Rattle.volume.specs.Catalogs.{IsNew, IsSound}
use Rattle.unit_laws.proofs.NoteLemmas.{unchanged_has_notes}
use Rattle.std.specs.List.{AllByRecursion, list_any}
use Rattle.commit_protocol.specs.World.{In}
use Rattle.world_laws.specs.log_laws.Slots.{Slots, committed_of, prepared_of, records_in}
use Rattle.recovery_units.specs.lmcp_log.Keeping.{IsWhole as IsWholeLog, Keeps}
use Rattle.records_model.specs.History.{LiveChanges}
use Rattle.unit_laws.specs.Journal.{Journal, find_unit, is_of_file, units_in}
use Rattle.world_laws.specs.run_model.World.{AreUnitsOf, IsLogInOrder, IsPreparedUnit, booted, File, LastIsReached, Node, OneMovesEndOf, Organization, Sequential, Relative, Indexed, Settlement, Sound, TellsUnits}
use Rattle.directory_model.specs.Files.{AreFiles, IsPlace, file_at, head_at}
use Rattle.directory_model.specs.Restoring.{CanRestore, IsPlaceRestorable}
use Rattle.recovery_units.specs.volume_model.Homes.{last_of}
use Rattle.recovery_units.specs.volume_model.Volumes.{HasVolume}
use Rattle.dtm_run.specs.Openings.{Rests}

-- the journal without entries
abbrev pub resting_journal : ℕ → Journal
resting_journal first = record { first = first; entries = [] }

-- The files' names are different.

below_length : (hs : List (Option FileHead)) (f : ℕ) (h : FileHead) → head_at hs f ≡ Some h → f < length hs
below_length [] f h there = let none : ⊥ = cc in absurd none
below_length (x ∷ hs) zero h there = omega arith
below_length (x ∷ hs) (suc f) h there = let below = below_length hs f h there in omega (arith, below)

record HeadOf (heads : List (Option FileHead)) (f : ℕ) (name : List ℕ) : Type 0 where
  head : FileHead
  there : head_at heads f ≡ Some head
  named : name ≡ head.name

head_for : (c : List (List ℕ)) (heads : List (Option FileHead)) (directory : List (Option File)) (f : ℕ) (file : File) → AreFiles c heads directory → file_at directory f ≡ Some file → HeadOf heads f file.name
head_for c heads directory f file are there = go (head_at heads f) refl (subst (IsPlace c f (head_at heads f)) there (are.each f))
  where
    go : (o : Option FileHead) → head_at heads f ≡ o → IsPlace c f o (Some file) → HeadOf heads f file.name
    go None e is = absurd is
    go (Some h) e is = record { head = h; there = e; named = is.0.head.name }

names_differ : (c : List (List ℕ)) (v : Catalog) (name : List ℕ) (size : ℕ) (directory : List (Option File)) → IsSound name size v → AreFiles c v.heads directory → (p q : ℕ) (f g : File) → file_at directory p ≡ Some f → file_at directory q ≡ Some g → f.name ≡ g.name → p < q → ⊥
names_differ c v name size directory sound are p q f g at_p at_q same less =
    let a = head_for c v.heads directory p f are at_p in
    let b = head_for c v.heads directory q g are at_q in
    let below : q < 64 = subst (λ n. q < n) are.heads_long (below_length v.heads q b.head b.there) in
    subst (IsNew v.heads q) b.there (sound.names q below) p a.head less a.there (sym a.named ∙ same ∙ b.named)

none_moves : (o : Organization) → OneMovesEndOf o []
none_moves Sequential = tt
none_moves (Relative greatest) = tt
none_moves (Indexed position size) = tt

restorable_at : (c : List (List ℕ)) (o : Option FileHead) (p : Option File) → ((file : File) → p ≡ Some file → file.history.live ≡ []) → IsPlaceRestorable c o p
restorable_at c None p none = tt
restorable_at c (Some h) None none = tt
restorable_at c (Some h) (Some file) none = subst (CanRestore h c) (sym (none file refl)) tt

-- A journal whose bytes are none.
no_bytes : (c : List (List ℕ)) (v : Catalog) → v.ru.first ≡ v.ru.end → stream c v.ru v.ru.first (v.ru.end - v.ru.first) ≡ []
no_bytes c v empty = let none : v.ru.end - v.ru.first ≡ 0 = omega (arith, empty) in ap (λ k. stream c v.ru v.ru.first k) none

empty_journal : (c : List (List ℕ)) (v : Catalog) (name : List ℕ) (size : ℕ) → length c + 518 ≡ size → EachWhole c → IsSound name size v → v.ru.first ≡ v.ru.end → IsJournal c v.ru []
empty_journal c v name size long whole sound empty =
    let blocks = sound.ru_blocks in
    let start = sound.ru_start in
    let some = sound.sizes.least_journal in
    let room = sound.sizes.room in
    record {
      ring = record { some = omega (arith, blocks, some); within = omega (arith, blocks, start, room, long); whole = whole };
      order = omega (arith, empty);
      room = omega (arith, empty);
      spelled = no_bytes c v empty;
      each = tt;
    }

-- What a node has that is down before the first line, over such a volume.
module _ (c : List (List ℕ)) (v : Catalog) (n : Node) (rests : Rests c v) (sound : IsSound n.name n.blocks v) (long : length c + 518 ≡ n.blocks) (whole : EachWhole c) (are : AreFiles c v.heads n.durable.directory)
    (live : (p : ℕ) (f : File) → file_at n.durable.directory p ≡ Some f → f.history.live ≡ []) (units : n.durable.units ≡ resting_journal v.ru.first) where
  tells : (f : File) → f.history.live ≡ [] → TellsUnits n.durable.units f
  tells f none = rw units (record { notes = unchanged_has_notes (resting_journal v.ru.first) f.name f.history none refl; end = subst (OneMovesEndOf f.organization) (sym none) (none_moves f.organization) })

  units_of : AreUnitsOf n
  units_of = record {
    tells = λ place f there. tells f (live place f there);
    marked = λ up place f there unmarked. subst (λ (ls : List LiveChanges). AllByRecursion (λ (x : LiveChanges). IsPreparedUnit n.durable.units x.serial) ls) (sym (live place f there)) tt;
    reached = rw units tt;
    names = λ p q f g at_p at_q same. elim (cases_lt p q) [
      | inl less ↦ absurd (names_differ c v n.name n.blocks n.durable.directory sound are p q f g at_p at_q same less)
      | inr ge ↦ elim (cases_lt q p) [
        | inl less ↦ absurd (names_differ c v n.name n.blocks n.durable.directory sound are q p g f at_q at_p (sym same) less)
        | inr le ↦ omega (arith, ge, le)
      ]
    ];
  }

  -- a log without a record tells nothing
  told_none : n.durable.log ≡ rests.log.slots → IsLogInOrder n
  told_none log =
      let none : records_in n.durable.log ≡ [] = ap records_in log ∙ rests.log.none in
      record {
        distinct = rw none tt;
        reached = rw none tt;
        prepared_within = λ r i. absurd (subst (λ rs. In r (prepared_of rs)) none i);
        committed_within = λ r i. absurd (subst (λ rs. In r (committed_of rs)) none i);
        prepared = λ serial u there ready. (let e : None ≡ Some u = subst (λ (j : Journal). find_unit serial (units_in j.entries) ≡ Some u) units there in let never : ⊥ = cc in absurd never);
        active = λ r u i there. absurd (subst (λ rs. In r (prepared_of rs)) none i);
        transactions = rw none tt;
        unsettled = rw none tt;
        few = rw (none, units) (omega arith);
        slots = subst (λ (ss : Slots). length ss ≤ 512) (sym log) rests.log.few;
      }

  pub rests_in : n.durable.volume ≡ Sound → n.durable.log ≡ rests.log.slots → n.durable.journal ≡ v.home.ru_blocks → n.durable.boot ≡ v.home.boot → n.durable.greatest ≡ v.home.greatest_moment.0 → n.durable.last ≡ last_of v.home → HasVolume c v n
  rests_in volume log journal boot greatest last = record {
    home = record { volume = volume; slots = ap length log ∙ rests.log.count; journal = journal; boot = boot; greatest = greatest; last = last };
    log = record { keeps = subst (λ (ss : Slots). Keeps ss c) (sym log) rests.log.keeps; whole = subst (λ (ss : Slots). IsWholeLog ss c) (sym log) rests.log.whole };
    journal = record {
      entries = [];
      is = empty_journal c v n.name n.blocks long whole sound rests.empty;
      alike = rw units tt;
      first = ap (λ (j : Journal). j.first) (sym units);
      end = rw units (let empty = rests.empty in omega (arith, empty));
      low = rests.low;
    };
    units = units_of;
    order = rw units (record { suit = tt; order = tt; few = tt; moments = tt; fits = omega arith });
    told = told_none log;
    files = are;
    restorable = λ f. restorable_at c (head_at v.heads f) (file_at n.durable.directory f) (λ file there. live f file there);
  }

  pub told_rests : n.durable.log ≡ rests.log.slots → IsLogInOrder n
  told_rests log = told_none log

  -- a boot finds no lock there
  pub few_rest : n.durable.log ≡ rests.log.slots → length (booted n.durable).locks ≤ 4096
  few_rest log =
      let none : records_in n.durable.log ≡ [] = ap records_in log ∙ rests.log.none in
      rw (none, units) (omega arith)

  pub named_rest : (name : List ℕ) → list_any (is_of_file name) n.durable.units.entries ≡ false
  named_rest name = ap (λ (j : Journal). list_any (is_of_file name) j.entries) units

  pub units_rest : AreUnitsOf n
  units_rest = units_of

pub last_reached : (n : Node) (o : Option Settlement) (name : List ℕ) (boot : ℕ) → name ≡ n.name → boot ≡ n.durable.boot → IfSome o (λ s. (s.serial.node ≡ name) × (s.serial.boot ≤ boot)) → LastIsReached n o
last_reached n None name boot named counted h = tt
last_reached n (Some s) name boot named counted h = (h.0 ∙ named, subst (λ (x : ℕ). s.serial.boot ≤ x) counted h.1)
