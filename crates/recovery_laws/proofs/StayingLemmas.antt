-- A branch that is open in the journals of a file's images stays so.
use Rattle.std.proofs.Common.{◌≡◌, ℕ, ◌+◌, List, [], ◌∷◌, Bool, true, false, if◌then◌else◌, refl, sym, ◌∙◌, ap, subst}
use Rattle.vms_model.specs.Ids.{Id}
use Rattle.vms_model.specs.Transactions.{Outcome}
use Rattle.world_laws.specs.script_model.Statements.{AfterImages, BeforeImages}
use Rattle.unit_laws.specs.records_model.Records.{Change}
use Rattle.unit_laws.specs.records_model.History.{changed_it, same_id, settled_at}
use Rattle.world_laws.specs.recovery_model.Journal as image
use Rattle.world_laws.specs.recovery_model.Journal.{is_settled}
use Rattle.world_laws.specs.recovery_model.File.{FileState, ImageJournal, IsOpenIn, all_of, append, renewed, renewed_if_on}
use Rattle.world_laws.specs.recovery_model.Laws.{all_changed}
use Rattle.world_laws.specs.run_model.World.{BeginsImages, EndsImages, File, ForUnits, Mark, Settlement, marked_file, state_of}
use Rattle.recovery_laws.specs.States.{after_settlement}
use Rattle.recovery_laws.specs.Staying.{BranchesStayOpen}
use Rattle.recovery_laws.proofs.StateLemmas.{files_follow}

module _ (x : Id) where
  -- a journal that does not tell it to be settled
  abbrev IsOpenAt : ImageJournal → Type 0
  IsOpenAt j = is_settled (all_of j.entries) x ≡ false

  appended : (tid : Id) (e : image.Entry) (j : ImageJournal) → (IsOpenAt j → is_settled (e ∷ all_of j.entries) x ≡ false) → IsOpenAt j → IsOpenAt (append tid e j)
  appended tid e j more still = go j.on
    where
      go : (b : Bool) → IsOpenAt (if b then record j { end = j.end + image.entry_length e; entries = record { at = j.end; tid = tid; entry = e } ∷ j.entries } else j)
      go true = more still
      go false = still

  settled_more : (tid s : Id) (o : Outcome) (t : ℕ) (j : ImageJournal) → same_id x s ≡ false → IsOpenAt j → IsOpenAt (append tid (image.Settled s o t) j)
  settled_more tid s o t j other = appended tid (image.Settled s o t) j (λ h. ap (λ b. if b then true else is_settled (all_of j.entries) x) other ∙ h)

  begun_anew : (j : ImageJournal) → IsOpenAt j → IsOpenAt (renewed_if_on j)
  begun_anew j h = go j.on
    where
      go : (b : Bool) → IsOpenAt (if b then renewed j.start j.blocks j else j)
      go true = refl
      go false = h

  open_changed : (tid s : Id) (cs : List Change) (f : FileState) → IsOpenIn x f → IsOpenIn x (all_changed tid s cs f)
  open_changed tid s [] f h = h
  open_changed tid s (c ∷ cs) f h =
      let k = open_changed tid s cs f h in
      (appended tid (image.Changed s c.key c.after) (all_changed tid s cs f).ai (λ q. q) k.0, appended tid (image.Changed s c.key c.before) (all_changed tid s cs f).bi (λ q. q) k.1)

  open_settled : (s : Settlement) (f : FileState) → same_id x s.serial ≡ false → IsOpenIn x f → IsOpenIn x (after_settlement s f)
  open_settled s f other h = go (changed_it f.timeline.history s.serial)
    where
      go : (b : Bool) → IsOpenIn x (if b then (let g : FileState = record f {
        timeline = record f.timeline { history = settled_at s.serial s.outcome s.moment f.timeline.history };
        ai = append s.tid (image.Settled s.serial s.outcome s.moment) f.ai;
        bi = append s.tid (image.Settled s.serial s.outcome s.moment) f.bi;
      } in g) else f)
      go true = (settled_more s.tid s.serial s.outcome s.moment f.ai other h.0, settled_more s.tid s.serial s.outcome s.moment f.bi other h.1)
      go false = h

  open_marked : (mark : Mark) (g : ℕ) (f : File) → IsOpenIn x (state_of f) → IsOpenIn x (state_of (marked_file mark g f))
  open_marked (ForUnits units) g f h = h
  open_marked (BeginsImages AfterImages start blocks) g f h = (refl, h.1)
  open_marked (BeginsImages BeforeImages start blocks) g f h = (h.0, refl)
  open_marked (EndsImages AfterImages) g f h = (refl, h.1)
  open_marked (EndsImages BeforeImages) g f h = (h.0, refl)

pub branches_stay_open : BranchesStayOpen
branches_stay_open x f h = record {
  changes = λ held tid serial cs. subst (IsOpenIn x) (sym ((files_follow f).changes held tid serial cs)) (open_changed x tid serial cs (state_of f) h);
  directs = λ held s cs other. subst (IsOpenIn x) (sym ((files_follow f).directs held s cs)) (open_settled x s (all_changed s.tid s.serial cs (state_of f)) other (open_changed x s.tid s.serial cs (state_of f) h));
  settles = λ s other. subst (IsOpenIn x) (sym ((files_follow f).settles s)) (open_settled x s (state_of f) other h);
  halves = λ serial standing. h;
  marks = λ mark g. open_marked x mark g f h;
  saves = λ start g. h;
  recovers = λ start buckets m g. (begun_anew x f.carried.after h.0, begun_anew x f.carried.before h.1);
}
