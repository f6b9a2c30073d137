-- What holds of each entry of a file's journals of images holds of each behind every act, if it does of the entries that the act makes.
use Rattle.std.proofs.Common.{◌≡◌, ℕ, ◌+◌, List, [], ◌∷◌, Bool, true, false, Option, if◌then◌else◌}
use Rattle.std.specs.List.{AllByRecursion}
use Rattle.vms_model.specs.Ids.{Id}
use Rattle.vms_model.specs.Keys.{Key}
use Rattle.run_model.specs.script_model.Statements.{AfterImages, BeforeImages}
use Rattle.run_model.specs.records_model.Records.{Change}
use Rattle.run_model.specs.recovery_model.Journal as image
use Rattle.run_model.specs.recovery_model.File.{ImageJournal, all_of, append, renewed, renewed_if_on}
use Rattle.run_model.specs.World.{BeginsImages, Carried, EndsImages, ForUnits, Mark, Settlement, carried_marked, carried_recovered, with_images, with_outcome}
use Rattle.world_laws.specs.Running.{AllImages}
use Rattle.world_laws.proofs.EntryLemmas.{all_more}

pub images_more : (P Q : image.Entry → Type 0) (r : Carried) → ((e : image.Entry) → P e → Q e) → AllImages P r → AllImages Q r
images_more P Q r f h = record { after = all_more P Q (all_of r.after.entries) f h.after; before = all_more P Q (all_of r.before.entries) f h.before }

module _ (P : image.Entry → Type 0) where
  abbrev AllOf : ImageJournal → Type 0
  AllOf j = AllByRecursion P (all_of j.entries)

  appended : (tid : Id) (e : image.Entry) (j : ImageJournal) → P e → AllOf j → AllOf (append tid e j)
  appended tid e j p h = go j.on
    where
      go : (b : Bool) → AllOf (if b then record j { end = j.end + image.entry_length e; entries = record { at = j.end; tid = tid; entry = e } ∷ j.entries } else j)
      go true = (p, h)
      go false = h

  again : (j : ImageJournal) → AllOf j → AllOf (renewed_if_on j)
  again j h = go j.on
    where
      go : (b : Bool) → AllOf (if b then renewed j.start j.blocks j else j)
      go true = tt
      go false = h

  pub images_changed : (tid serial : Id) (cs : List Change) (r : Carried) → ((key : Key) (v : Option (List ℕ)) → P (image.Changed serial key v)) → AllImages P r → AllImages P (with_images tid serial cs r)
  images_changed tid serial [] r p h = h
  images_changed tid serial (c ∷ cs) r p h =
      let k = images_changed tid serial cs r p h in
      record {
        after = appended tid (image.Changed serial c.key c.after) (with_images tid serial cs r).after (p c.key c.after) k.after;
        before = appended tid (image.Changed serial c.key c.before) (with_images tid serial cs r).before (p c.key c.before) k.before;
      }

  pub images_settled : (changed : Bool) (s : Settlement) (r : Carried) → P (image.Settled s.serial s.outcome s.moment) → AllImages P r → AllImages P (with_outcome changed s r)
  images_settled false s r p h = record { after = h.after; before = h.before }
  images_settled true s r p h = record {
    after = appended s.tid (image.Settled s.serial s.outcome s.moment) r.after p h.after;
    before = appended s.tid (image.Settled s.serial s.outcome s.moment) r.before p h.before;
  }

  pub images_marked : (mark : Mark) (greatest : ℕ) (r : Carried) → AllImages P r → AllImages P (carried_marked mark greatest r)
  images_marked (ForUnits units) greatest r h = h
  images_marked (BeginsImages AfterImages start blocks) greatest r h = record { after = tt; before = h.before }
  images_marked (BeginsImages BeforeImages start blocks) greatest r h = record { after = h.after; before = tt }
  images_marked (EndsImages AfterImages) greatest r h = record { after = tt; before = h.before }
  images_marked (EndsImages BeforeImages) greatest r h = record { after = h.after; before = tt }

  pub images_recovered : (greatest : ℕ) (r : Carried) → AllImages P r → AllImages P (carried_recovered greatest r)
  images_recovered greatest r h = record { after = again r.after h.after; before = again r.before h.before }
