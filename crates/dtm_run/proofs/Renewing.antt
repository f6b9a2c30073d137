-- Where a run begins anew, nodes of whose disks something is known are kept.
use Rattle.std.specs.Prelude.{◌||◌}
use Rattle.std.proofs.Common.{◌≡◌, inl, inr, ℕ, List, [], ◌∷◌, Bool, true, false, Option, Some, None, if◌then◌else◌, is_some, refl, sym, ◌∙◌, ap, subst}
use Rattle.std.specs.List.{AllByRecursion}
use Rattle.std.specs.Str.{bytes_eq}
use Rattle.vms_model.specs.Ids.{Id}
use Rattle.block_disk.specs.Disk.{CallLog, DiskState}
use Rattle.volume.specs.declared.catalog.Catalog.{Catalog}
use Rattle.transcript_model.specs.Lines.{Line}
use Rattle.script_model.specs.Statements.{At, Boot, Says}
use Rattle.world_laws.specs.run_model.World.{Act, Barred, Faulty, IsOpening, Node, Sound, Unknown, Volume, aborted_prepared}
use Rattle.world_laws.specs.run_model.Transcript.{AreOpening}
use Rattle.run_laws.specs.run_said.Said.{Said}
use Rattle.recovery_units.specs.volume_model.Volumes.{HasDisk, IsEitherOf, IsLeftBy, LeavesVolume}
use Rattle.recovery_units.specs.Uses.{IsCounted}
use Rattle.day_run.proofs.dtm_node.DiskLemmas.{DiskBy}
use Rattle.day_run.specs.node_standing.Standing.{IsDown, IsRunning, NodeState, Place, PlaceRepresents, disk_in}
use Rattle.day_run.specs.run_nodes.Calls.{DisksFollowLine}
use Rattle.day_run.specs.run_nodes.Together.{StandAll, disks_of}
use Rattle.day_run.specs.run_nodes.Told.{kept_names}
use Rattle.dtm_run.specs.Headline.{DiskRepresents, DisksRepresent, is_known}
use Rattle.dtm_run.specs.Leading.{KeepKnown, as_first}
use Rattle.dtm_run.proofs.Opened.{nothing_opening, unknown_node, unknown_stands}
use Rattle.dtm_run.proofs.Unused.{IsFresh}

-- What a node's disk has it has as before a first line.

leaves_first : (content : List (List ℕ)) (v : Catalog) (n : Node) → LeavesVolume content v n → LeavesVolume content v (as_first n)
leaves_first content v n l = record {
  home = record { volume = l.home.volume; slots = l.home.slots; journal = l.home.journal; boot = l.home.boot; greatest = l.home.greatest; last = l.home.last };
  log = record { keeps = l.log.keeps; whole = l.log.whole };
  journal = record { entries = l.journal.entries; is = l.journal.is; alike = l.journal.alike; first = l.journal.first; end = l.journal.end; low = l.journal.low };
  units = record { tells = l.units.tells; marked = λ up. let none : ⊥ = cc in absurd none; reached = l.units.reached; names = l.units.names };
  order = l.order;
  told = record { distinct = l.told.distinct; reached = l.told.reached; prepared_within = l.told.prepared_within; committed_within = l.told.committed_within; prepared = l.told.prepared; active = l.told.active; transactions = l.told.transactions; unsettled = l.told.unsettled; few = l.told.few; slots = l.told.slots };
  files = l.files;
  prepared = l.prepared;
}

left_first : (content : List (List ℕ)) (n : Node) → IsLeftBy content n → IsLeftBy content (as_first n)
left_first content n l = record { catalog = l.catalog; tells = l.tells; sound = l.sound; leaves = λ whole. leaves_first content l.catalog n (l.leaves whole) }

-- nothing is under way that may have taken place, or in part
either_first : (content : List (List ℕ)) (n : Node) → n.under_way ≡ None → IsEitherOf n content → IsEitherOf (as_first n) content
either_first content n quiet (inl same) = inl (left_first content n same)
either_first content n quiet (inr (inl taken)) = let none : ◌≡◌ {A = Option Act} None (Some taken.0) = sym quiet ∙ taken.1 in let never : ⊥ = cc in absurd never
either_first content n quiet (inr (inr half)) = let none : ◌≡◌ {A = Option Id} None (Some half.1.0) = sym (ap (λ (o : Option Act). aborted_prepared o n.durable) quiet) ∙ half.1.1 in let never : ⊥ = cc in absurd never

first_disk : (n : Node) (d : DiskState) → n.under_way ≡ None → HasDisk n d → HasDisk (as_first n) d
first_disk n d quiet h = go n.durable.volume h
  where
    go : (v : Volume) → DiskBy n d v → DiskBy (as_first n) d v
    go Sound k = λ image may. let i = k image may in (i.0, either_first _ n quiet i.1)
    go (Faulty condition block) k = (k.0, refl)
    go (Barred bar) k = (k.0, refl)
    go Unknown k = tt

place_disk : (clock : ℕ) (p : Place) (n : Node) → n.up ≡ false → PlaceRepresents clock p n → HasDisk n (disk_in p)
place_disk clock (IsDown has_parts d) n down s = s.disk
place_disk clock (IsRunning r) n down s = let no : true ≡ false = sym s.stands.up ∙ down in let none : ⊥ = cc in absurd none

-- Nodes behind a BOOT that was refused.

-- a node of the disk of what is kept, of which nothing is known
abbrev pub unknown_of : NodeState → Node
unknown_of k = unknown_node k.name (disk_in k.place).size

-- each of these disks tells its content, and was counted
abbrev pub AreTold : List DiskState → Type 0
AreTold [] = Unit {0}
AreTold (d ∷ ds) = (is_some d.seen ≡ true) × IsCounted d × AreTold ds

-- a node that is kept, or of whose disk nothing is known
abbrev renewed_one : Node → NodeState → Node
renewed_one n l = if is_known n.durable.volume then as_first n else unknown_of l

abbrev pub renewed : List Node → List NodeState → List Node
renewed [] ls = []
renewed (n ∷ ns) [] = []
renewed (n ∷ ns) (l ∷ ls) = renewed_one n l ∷ renewed ns ls

pub renewed_opening : (ns : List Node) (ls : List NodeState) → AllByRecursion IsFresh ns → AreOpening (renewed ns ls)
renewed_opening [] ls h = tt
renewed_opening (n ∷ ns) [] h = tt
renewed_opening (n ∷ ns) (l ∷ ls) h = (one (is_known n.durable.volume), renewed_opening ns ls h.1)
  where
    one : (b : Bool) → IsOpening (if b then as_first n else unknown_of l)
    one true = h.0.first
    one false = nothing_opening l.name (disk_in l.place).size Unknown

-- the statement boots another node than each of whose disk something is known
abbrev pub AreOthers : List ℕ → List Node → Type 0
AreOthers node ns = AllByRecursion (λ (n : Node). is_known n.durable.volume ≡ true → bytes_eq n.name node ≡ false) ns

module _ (node : List ℕ) (said : Said) (lines : List Line) where
  pub renewed_stand : (logs : List CallLog) (ks ls : List NodeState) (ns : List Node) → StandAll logs ks ns → DisksFollowLine (kept_names ks) said (Says (At node Boot)) lines (disks_of ks) (disks_of ls) → kept_names ls ≡ kept_names ks → AllByRecursion IsFresh ns → AreOthers node ns → AreTold (disks_of ls) →
      DisksRepresent (kept_names ls) (disks_of ls) (renewed ns ls) × KeepKnown ns (renewed ns ls)
  renewed_stand [] [] [] [] stand tells named fresh others told = (tt, tt)
  renewed_stand [] [] (l ∷ ls) [] stand tells named fresh others told = absurd tells
  renewed_stand [] [] ls (n ∷ ns) stand tells named fresh others told = absurd stand
  renewed_stand [] (k ∷ ks) ls ns stand tells named fresh others told = absurd stand
  renewed_stand (log ∷ logs) [] ls ns stand tells named fresh others told = absurd stand
  renewed_stand (log ∷ logs) (k ∷ ks) ls [] stand tells named fresh others told = absurd stand
  renewed_stand (log ∷ logs) (k ∷ ks) [] (n ∷ ns) stand tells named fresh others told = absurd tells
  renewed_stand (log ∷ logs) (k ∷ ks) (l ∷ ls) (n ∷ ns) stand tells named fresh others told =
      let more = renewed_stand logs ks ls ns stand.1 tells.1 (ap (λ (xs : List (List ℕ)). elim xs [ [] ↦ [] | x ∷ rest ↦ rest ]) named) fresh.1 others.1 told.2 in
      ((one (is_known n.durable.volume) refl, more.0), (λ known. ap (λ (b : Bool). if b then as_first n else unknown_of l) known, more.1))
    where
      same_name : l.name ≡ k.name
      same_name = ap (λ (xs : List (List ℕ)). elim xs [ [] ↦ [] | x ∷ rest ↦ x ]) named

      one : (b : Bool) → is_known n.durable.volume ≡ b → DiskRepresents l.name (disk_in l.place) (if b then as_first n else unknown_of l)
      one false is = unknown_stands l.name (disk_in l.place) told.0 told.1
      one true is =
          let away : bytes_eq k.name node ≡ false = ap (λ (x : List ℕ). bytes_eq x node) (sym stand.0.name) ∙ others.0 is in
          let same : disk_in l.place ≡ disk_in k.place = tells.0.elsewhere (ap (λ (b : Bool). b || false) away) in
          record {
            name_is = stand.0.name ∙ sym same_name;
            blocks = stand.0.blocks ∙ ap (λ (d : DiskState). d.size) (sym same);
            told = told.0;
            counted = told.1;
            has = subst (HasDisk (as_first n)) (sym same) (first_disk n (disk_in k.place) fresh.0.quiet (place_disk k.clock k.place n fresh.0.down stand.0.place));
          }
