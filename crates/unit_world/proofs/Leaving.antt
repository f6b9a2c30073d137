-- What a node leaves of its volume: where it is down, where its boot count is raised, and of a new volume.
use Rattle.std.proofs.Common.{◌≡◌, ℕ, zero, suc, ◌+◌, ◌-◌, false, List, [], Option, None, refl, sym, ◌∙◌, ap, subst, arith, length, slice_set}
use Rattle.std.specs.Prelude.{option_map, replicate}
use Rattle.change_set.specs.careful_write.State.{EachWhole}
use Rattle.extents.specs.file_base.declared.head.FileHead.{FileHead}
use Rattle.recovery_units.specs.volume.declared.catalog.Catalog.{Catalog}
use Rattle.recovery_units.specs.volume.Catalogs.{IsSound}
use Rattle.volume_format.specs.declared.home.Home.{Home}
use Rattle.journal_model.specs.Ring.{IsJournal, stream}
use Rattle.recovery_units.specs.run_model.World.{Durable, Node, Boots, Formats, acted}
use Rattle.commit_protocol.specs.Messages.{LogRecord}
use Rattle.recovery_units.proofs.world_laws.EffectLemmas.{made_log}
use Rattle.recovery_units.proofs.world_laws.OrderedLemmas.{boots_keep_order, formats_in_order}
use Rattle.volume_laws.specs.directory_model.Files.{AreFiles}
use Rattle.volume_laws.specs.directory_model.Restoring.{AreRestorable}
use Rattle.volume_laws.proofs.directory_model.Acts.{keeps_files}
use Rattle.volume_laws.proofs.restart_laws.StayLemmas.{keeps_restorable}
use Rattle.volume_laws.proofs.restart_laws.StandLemmas.{left_stands, prepared_stays}
use Rattle.volume_laws.proofs.restart_laws.UnitLemmas.{keeps_units}
use Rattle.recovery_units.specs.volume_model.Homes.{HasHome, settlement_of}
use Rattle.recovery_units.specs.volume_model.Volumes.{HasLog, LeavesVolume}
use Rattle.volume_laws.proofs.FollowLemmas.{follow}
use Rattle.volume_laws.proofs.LogLemmas.{stays as log_stays, told}
use Rattle.volume_laws.proofs.ToldLemmas.{logs_follow}
use Rattle.volume_laws.proofs.WholeLemmas.{volume_falls}
use Rattle.recovery_units.specs.Laws.{IsMade}
use Rattle.unit_world.proofs.Blocks.{extents_behind, other_block, ring_behind, same_names, whole_set}

home_as : (h : Home) (n m : Node) → m.durable ≡ n.durable → HasHome h n → HasHome h m
home_as h n m same has = record {
  volume = ap (λ (d : Durable). d.volume) same ∙ has.volume;
  slots = ap (λ (d : Durable). length d.log) same ∙ has.slots;
  journal = ap (λ (d : Durable). d.journal) same ∙ has.journal;
  boot = ap (λ (d : Durable). d.boot) same ∙ has.boot;
  greatest = ap (λ (d : Durable). d.greatest) same ∙ has.greatest;
  last = ap (λ (d : Durable). d.last) same ∙ has.last;
}

pub down : (content : List (List ℕ)) (v : Catalog) (n m : Node) → LeavesVolume content v n → m.name ≡ n.name → m.durable ≡ n.durable → m.up ≡ false → LeavesVolume content v m
down content v n m left name same is = subst (LeavesVolume content v) (λ i. record m { name = sym name i; durable = sym same i; up = sym is i }) again
  where
    again : LeavesVolume content v (record m { name = n.name; durable = n.durable; up = false })
    again = record {
      home = home_as v.home n (record m { name = n.name; durable = n.durable; up = false }) refl left.home;
      log = record { keeps = left.log.keeps; whole = left.log.whole };
      journal = record { entries = left.journal.entries; is = left.journal.is; alike = left.journal.alike; first = left.journal.first; end = left.journal.end; low = left.journal.low };
      units = record { tells = left.units.tells; marked = λ up. let never : ⊥ = cc in absurd never; reached = left.units.reached; names = left.units.names };
      order = left.order;
      told = told n (record m { name = n.name; durable = n.durable; up = false }) left.told refl (omega arith) refl refl;
      files = left.files;
      prepared = left.prepared;
    }

-- BOOT
pub boots : (content : List (List ℕ)) (bytes : List ℕ) (v : Catalog) (n : Node) → LeavesVolume content v n → IsSound n.name n.blocks v → length bytes ≡ 512 →
    LeavesVolume (slice_set content 0 bytes) (record v { home = record v.home { boot = v.home.boot + 1 } }) (acted Boots n)
boots content bytes v n left sound whole =
    let more : Catalog = record v { home = record v.home { boot = v.home.boot + 1 } } in
    record {
      home = record { volume = left.home.volume; slots = left.home.slots; journal = left.home.journal; boot = ap (λ k. k + 1) left.home.boot; greatest = left.home.greatest; last = left.home.last };
      journal = follow.stays content (slice_set content 0 bytes) v more n (acted Boots n) left.journal refl refl (same_names v.heads)
          (ring_behind n.name n.blocks v sound content 0 bytes (omega arith) (whole_set content 0 bytes left.journal.is.ring.whole whole));
      log = log_stays content (slice_set content 0 bytes) n (acted Boots n) left.log refl (λ k below. other_block content 0 (66 + k) bytes (λ is. absurd (omega (arith, is))));
      units = keeps_units.boots n left.units;
      order = boots_keep_order n.durable n.volatile left.order;
      told = told n (acted Boots n) left.told refl (omega arith) refl refl;
      prepared = prepared_stays n.durable.units content (slice_set content 0 bytes) v.heads n.durable.directory (extents_behind n.name n.blocks v sound content 0 bytes (omega arith) (whole_set content 0 bytes left.journal.is.ring.whole whole) left.files.heads_long) left.files left.prepared;
      files = left_stands content (slice_set content 0 bytes) v.heads n.durable.directory (extents_behind n.name n.blocks v sound content 0 bytes (omega arith) (whole_set content 0 bytes left.journal.is.ring.whole whole) left.files.heads_long) left.files;
    }

-- INIT
pub formats : (content : List (List ℕ)) (v : Catalog) (n : Node) (slots journal : ℕ) → IsMade content v slots journal → EachWhole content → n.up ≡ false → LeavesVolume content v (acted (Formats slots journal) n)
formats content v n slots journal made whole is = volume_falls content v (acted (Formats slots journal) n) (record {
  home = record {
    volume = refl;
    slots = made_slots slots ∙ sym made.slots_are;
    journal = sym made.journal_is;
    boot = sym made.boot;
    greatest = sym made.greatest;
    last = ap (option_map (settlement_of v.home.greatest_moment.0)) (sym made.last);
  };
  journal = follow.formats content v n slots journal ring made.first made.end;
  units = keeps_units.formats n slots journal;
  order = formats_in_order n.durable n.volatile slots journal;
  log = subst (λ k. HasLog content (acted (Formats k journal) n)) made.slots_are (logs_follow.formats content v.home n journal made.log);
  told = made_log n slots journal made.few;
  files = subst (λ (heads : List (Option FileHead)). AreFiles content heads (acted (Formats slots journal) n).durable.directory) (sym made.heads) (keeps_files.formats content n slots journal);
  restorable = subst (λ (heads : List (Option FileHead)). AreRestorable content heads (acted (Formats slots journal) n).durable.directory) (sym made.heads) (keeps_restorable.formats content n slots journal);
})
  where
    made_slots : (k : ℕ) → length {A = Option LogRecord} (replicate k None) ≡ k
    made_slots zero = refl
    made_slots (suc k) = ap suc (made_slots k)

    ring : IsJournal content v.ru []
    ring = record {
      ring = record { some = made.some; within = made.within; whole = whole };
      order = (let first = made.first in omega (arith, first));
      room = (let end = made.end in omega (arith, end));
      spelled = (let none : v.ru.end - v.ru.first ≡ 0 = (let end = made.end in omega (arith, end)) in ap (λ (k : ℕ). stream content v.ru v.ru.first k) none);
      each = tt;
    }
