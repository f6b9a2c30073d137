-- A node before the first line, and what its disk has.
use Rattle.std.proofs.Common.{◌≡◌, ℕ, List, [], true, false, Option, Some, None, is_some, refl, ap, arith}
use Rattle.block_disk.specs.Disk.{DiskState}
use Rattle.careful_write.specs.Content.{content_of}
use Rattle.careful_write.specs.Load.{fitting}
use Rattle.careful_write.proofs.GroupParts.{stop_reading}
use Rattle.unit_laws.specs.Journal.{empty_journal}
use Rattle.world_laws.specs.run_model.World.{Durable, Node, IsOpening, Volume, Unknown, nothing_volatile}
use Rattle.recovery_units.specs.Uses.{IsCounted}
use Rattle.day_run.specs.dtm_node.Boots.{AllHave}
use Rattle.day_run.proofs.dtm_node.DiskLemmas.{as_it_was}
use Rattle.dtm_run.specs.Headline.{DiskRepresents}

-- each image of a disk on which nothing is pending is what it reads as
pub all_have : (d : DiskState) (image : List (List ℕ)) → d.seen ≡ Some image → d.pending ≡ [] → AllHave (fitting image) (content_of image) d
all_have d image told settled = as_it_was d.seen image d told (stop_reading d d settled refl refl)

pub is_told : (o : Option (List (List ℕ))) (image : List (List ℕ)) → o ≡ Some image → is_some o ≡ true
is_told o image e = ap (λ (x : Option (List (List ℕ))). is_some x) e

-- what a disk has that stands for nothing
abbrev pub nothing_durable : Volume → Durable
nothing_durable v = record { volume = v; log = []; journal = 0; boot = 0; greatest = 0; last = None; units = empty_journal; directory = [] }

-- a node before the first line, over this
abbrev pub resting_node : List ℕ → ℕ → Durable → Node
resting_node name blocks d = record { name = name; blocks = blocks; durable = d; volatile = nothing_volatile; unmade = false; up = false; was_up = false; clock = 0; settled = []; calls = []; under_way = None }

-- a node over a disk that stands for nothing is as before the first line
pub nothing_opening : (name : List ℕ) (blocks : ℕ) (v : Volume) → IsOpening (resting_node name blocks (nothing_durable v))
nothing_opening name blocks v = record {
  down = refl;
  made = refl;
  was_down = refl;
  clock = refl;
  volatile = refl;
  settled = refl;
  calls = refl;
  under_way = refl;
  resting = tt;
  last = tt;
  units = record {
    tells = λ place f there. let none : ⊥ = cc in absurd none;
    marked = λ up place f there unmarked. let none : ⊥ = cc in absurd none;
    reached = tt;
    names = λ p q f g there other same. let none : ⊥ = cc in absurd none;
  };
  log = record {
    distinct = tt;
    reached = tt;
    prepared_within = λ r i. absurd i;
    committed_within = λ r i. absurd i;
    prepared = λ serial u there ready. let none : ⊥ = cc in absurd none;
    active = λ r u i there. absurd i;
    transactions = tt;
    unsettled = tt;
    few = omega arith;
    slots = omega arith;
  };
  ends = tt;
  images = tt;
  named = λ file none. refl;
  few_locks = omega arith;
}

-- Of any disk that tells its content nothing may be known.

abbrev pub unknown_node : List ℕ → ℕ → Node
unknown_node name blocks = resting_node name blocks (nothing_durable Unknown)

pub unknown_stands : (name : List ℕ) (d : DiskState) → is_some d.seen ≡ true → IsCounted d → DiskRepresents name d (unknown_node name d.size)
unknown_stands name d told counted = record { name_is = refl; blocks = refl; told = told; counted = counted; has = tt }
