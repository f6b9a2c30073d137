-- Nodes that differ in nothing that their disks have.
use Rattle.std.proofs.Common.{◌≡◌, inl, inr, ℕ, List, Bool, true, false, Option, refl, sym, subst}
use Rattle.volume.specs.declared.catalog.Catalog.{Catalog}
use Rattle.world_laws.specs.Ordered.{IsJournalInOrder}
use Rattle.unit_laws.specs.Units.{Map}
use Rattle.world_laws.specs.run_model.World.{Node, Act, Call, Durable, AreUnitsOf, ComesUp, Falls, Formats, IsLogInOrder, Sound, Tables, acted, fallen}
use Rattle.emitter_model.specs.commit_protocol.Table as table
use Rattle.emitter_model.specs.commit_protocol.Table.{Settles, Undoes}
use Rattle.node_files.specs.directory_model.Files.{AreFiles}
use Rattle.node_files.specs.directory_model.Restoring.{AreLeft, AreRestorable, StandPrepared}
use Rattle.recovery_units.specs.volume_model.Homes.{HasHome}
use Rattle.recovery_units.specs.volume_model.Volumes.{HasJournal, HasLog, HasVolume, IsEitherOf, IsLeftBy, LeavesVolume, half_done}

-- the parts of a node by which its disk is judged
pub record SameDisk (m n : Node) : Type 0 where
  pub name : m.name ≡ n.name
  pub blocks : m.blocks ≡ n.blocks
  pub durable : m.durable ≡ n.durable
  pub up : m.up ≡ true → n.up ≡ true

module _ (m n : Node) (s : SameDisk m n) where
  -- a node with these, and the rest of the other
  abbrev with_these : List ℕ → Durable → Node
  with_these name d = record n { name = name; durable = d }

  these : (P : Node → Type 0) → P n → P (with_these m.name m.durable)
  these P h = subst (λ x. P (with_these x m.durable)) (sym s.name) (subst (λ d. P (with_these n.name d)) (sym s.durable) h)

  pub same_told : IsLogInOrder n → IsLogInOrder m
  same_told h =
      let k : IsLogInOrder (with_these m.name m.durable) = these IsLogInOrder h in
      record { distinct = k.distinct; reached = k.reached; prepared_within = k.prepared_within; committed_within = k.committed_within; prepared = k.prepared; active = k.active; transactions = k.transactions; unsettled = k.unsettled; few = k.few; slots = k.slots }

  pub same_units : AreUnitsOf n → AreUnitsOf m
  same_units h =
      let k : AreUnitsOf (with_these m.name m.durable) = these AreUnitsOf h in
      record { tells = k.tells; marked = λ up. k.marked (s.up up); reached = k.reached; names = k.names }

  pub same_home : (v : Catalog) → HasHome v.home n → HasHome v.home m
  same_home v h =
      let k : HasHome v.home (with_these m.name m.durable) = these (HasHome v.home) h in
      record { volume = k.volume; slots = k.slots; journal = k.journal; boot = k.boot; greatest = k.greatest; last = k.last }

  pub same_journal : (c : List (List ℕ)) (v : Catalog) → HasJournal c v n → HasJournal c v m
  same_journal c v h =
      let k : HasJournal c v (with_these m.name m.durable) = these (HasJournal c v) h in
      record { entries = k.entries; is = k.is; alike = k.alike; first = k.first; end = k.end; low = k.low }

  pub same_log : (c : List (List ℕ)) → HasLog c n → HasLog c m
  same_log c h =
      let k : HasLog c (with_these m.name m.durable) = these (HasLog c) h in
      record { keeps = k.keeps; whole = k.whole }

  -- what is left of a volume is left by each of them
  pub same_leaves : (c : List (List ℕ)) (v : Catalog) → LeavesVolume c v n → LeavesVolume c v m
  same_leaves c v h = record {
    home = same_home v h.home;
    log = same_log c h.log;
    journal = same_journal c v h.journal;
    units = same_units h.units;
    order = subst IsJournalInOrder (sym s.durable) h.order;
    told = same_told h.told;
    files = subst (λ (d : Durable). AreLeft c v.heads d.directory) (sym s.durable) h.files;
    prepared = subst (λ (d : Durable). StandPrepared d.units c v.heads d.directory) (sym s.durable) h.prepared;
  }

  pub same_left : (c : List (List ℕ)) → IsLeftBy c n → IsLeftBy c m
  same_left c h = record { catalog = h.catalog; tells = h.tells; sound = rw (s.name, s.blocks) h.sound; leaves = λ whole. same_leaves c h.catalog (h.leaves whole) }

  -- and what is in a volume is in it
  pub same_volume : (c : List (List ℕ)) (v : Catalog) → HasVolume c v n → HasVolume c v m
  same_volume c v h = record {
    home = same_home v h.home;
    log = same_log c h.log;
    journal = same_journal c v h.journal;
    units = same_units h.units;
    order = subst IsJournalInOrder (sym s.durable) h.order;
    told = same_told h.told;
    files = subst (λ (d : Durable). AreFiles c v.heads d.directory) (sym s.durable) h.files;
    restorable = subst (λ (d : Durable). AreRestorable c v.heads d.directory) (sym s.durable) h.restorable;
  }

-- a fall changes nothing of that
pub same_fallen : (under : Option Act) (n : Node) → SameDisk (fallen under n) n
same_fallen under n = record { name = refl; blocks = refl; durable = refl; up = λ e. let none : ⊥ = cc in absurd none }

-- nor do calls of the disk
pub same_called : (u : Bool) (cs : List Call) (n : Node) → (u ≡ true → n.up ≡ true) → SameDisk (record n { up = u; calls = cs }) n
same_called u cs n up = record { name = refl; blocks = refl; durable = refl; up = up }

-- and an act under way is the same then
pub same_acted : (act : Act) (u : Bool) (cs : List Call) (n : Node) → (u ≡ true → n.up ≡ true) → SameDisk (acted act (record n { up = u; calls = cs })) (acted act n)
same_acted ComesUp u cs n up = record { name = refl; blocks = refl; durable = refl; up = λ e. refl }
same_acted Falls u cs n up = record { name = refl; blocks = refl; durable = refl; up = λ e. e }
same_acted _ u cs n up = record { name = refl; blocks = refl; durable = refl; up = up }

same_half : (standing : List ℕ → Map) (u : Bool) (cs : List Call) (n : Node) → (u ≡ true → n.up ≡ true) → SameDisk (half_done standing (record n { up = u; calls = cs })) (half_done standing n)
same_half standing u cs n up = record { name = refl; blocks = refl; durable = refl; up = up }

-- each content that may be left
pub same_either : (u : Bool) (cs : List Call) (n : Node) (c : List (List ℕ)) → (u ≡ true → n.up ≡ true) → IsEitherOf n c → IsEitherOf (record n { up = u; calls = cs }) c
same_either u cs n c up (inl h) = inl (same_left (record n { up = u; calls = cs }) n (same_called u cs n up) c h)
same_either u cs n c up (inr (inl h)) = inr (inl (h.0, h.1, same_left (acted h.0 (record n { up = u; calls = cs })) (acted h.0 n) (same_acted h.0 u cs n up) c h.2))
same_either u cs n c up (inr (inr h)) = inr (inr (h.0, h.1, same_left (half_done h.0 (record n { up = u; calls = cs })) (half_done h.0 n) (same_half h.0 u cs n up) c h.2))

-- nor does the clock
pub same_clocked : (now : ℕ) (n : Node) (c : List (List ℕ)) → IsEitherOf n c → IsEitherOf (record n { clock = now }) c
same_clocked now n c (inl h) = inl (same_left (record n { clock = now }) n (record { name = refl; blocks = refl; durable = refl; up = λ e. e }) c h)
same_clocked now n c (inr (inl h)) = inr (inl (h.0, h.1, same_left (acted h.0 (record n { clock = now })) (acted h.0 n) (clocked_act h.0) c h.2))
  where
    clocked_act : (act : Act) → SameDisk (acted act (record n { clock = now })) (acted act n)
    clocked_act Falls = record { name = refl; blocks = refl; durable = refl; up = λ e. e }
    clocked_act _ = record { name = refl; blocks = refl; durable = refl; up = λ e. e }
same_clocked now n c (inr (inr h)) = inr (inr (h.0, h.1, same_left (half_done h.0 (record n { clock = now })) (half_done h.0 n) (record { name = refl; blocks = refl; durable = refl; up = λ e. e }) c h.2))

-- a sound volume stays sound over an act
pub stays_sound : (act : Act) (n : Node) → n.durable.volume ≡ Sound → (acted act n).durable.volume ≡ Sound
stays_sound (Formats slots journal) n e = refl
stays_sound (Tables a moment) n e = tables_sound a
  where
    tables_sound : (x : table.Act) → (acted (Tables x moment) n).durable.volume ≡ Sound
    tables_sound (Settles k outcome reason r) = e
    tables_sound (Undoes k) = e
    tables_sound _ = e
stays_sound _ n e = e

-- no act unmakes a volume
pub stays_made : (act : Act) (n : Node) → n.unmade ≡ false → (acted act n).unmade ≡ false
stays_made (Formats slots journal) n e = refl
stays_made _ n e = e
