-- That journals of images have entries of drawn ids alone, and leave branches of the table open that are not prepared, act by act.
use Rattle.std.proofs.Common.{◌≡◌, ℕ, List, [], ◌∷◌, Bool, true, false, Option, Some, if◌then◌else◌, refl, sym, ◌∙◌, ap, subst, inl, inr}
use Rattle.std.specs.List.{AllByRecursion}
use Rattle.std.proofs.lemmas.Bool.{false_from_ne_true}
use Rattle.vms_model.specs.Ids.{Id}
use Rattle.run_model.specs.records_model.History.{same_id}
use Rattle.run_model.specs.commit_protocol.Agreement.{Distinct}
use Rattle.run_model.specs.commit_protocol.Allowed.{is_prepared}
use Rattle.run_model.specs.commit_protocol.Table.{Branch, Key as BranchKey, branch_serials, cut, find, put}
use Rattle.run_model.specs.commit_protocol.World.{In}
use Rattle.run_model.proofs.commit_protocol.Lists.{find-key}
use Rattle.run_model.specs.recovery_model.Journal as image
use Rattle.run_model.specs.recovery_model.Journal.{is_settled}
use Rattle.run_model.specs.recovery_model.File.{IsOpenIn}
use Rattle.run_model.specs.World.{File, serial_of_image, state_of, with_changed}
use Rattle.world_laws.specs.Running.{AllFound, FileImages, IsDrawn, IsDrawnImage, LeavesOpen, TellImages}
use Rattle.world_laws.proofs.IdLemmas.{id_is}
use Rattle.world_laws.proofs.ImageLemmas.{images_more}
use Rattle.world_laws.proofs.TableLemmas.{found_in, in_changed, in_cut, in_put}

-- nothing settles a branch there
none_settled : (x : Id) (es : List image.Entry) → AllByRecursion (LeavesOpen x) es → is_settled es x ≡ false
none_settled x [] h = refl
none_settled x (image.Changed serial key value ∷ es) h = none_settled x es h.1
none_settled x (image.Settled serial outcome moment ∷ es) h = ap (λ b. if b then true else is_settled es x) h.0 ∙ none_settled x es h.1

pub unsettled_in_images : (x : Id) (file : List ℕ) (f : File) → FileImages (LeavesOpen x) file f → IsOpenIn x (state_of f)
unsettled_in_images x file f h = (none_settled x _ h.after, none_settled x _ h.before)

-- of a branch of which no entry is
leaves : (x : Id) (P : Id → Type 0) → ((y : Id) → P y → y ≡ x → ⊥) → (e : image.Entry) → P (serial_of_image e) → LeavesOpen x e
leaves x P apart (image.Changed serial key value) p = tt
leaves x P apart (image.Settled serial outcome moment) p = false_from_ne_true _ (λ t. apart serial p (sym (id_is x serial t)))

pub undrawn_open : (name : List ℕ) (boot drawn : ℕ) (x : Id) (fs : List (Option File)) → ((y : Id) → IsDrawn name boot drawn y → y ≡ x → ⊥) → AllFound (FileImages (IsDrawnImage name boot drawn)) fs → AllFound (FileImages (LeavesOpen x)) fs
undrawn_open name boot drawn x fs apart h file f e = images_more (IsDrawnImage name boot drawn) (LeavesOpen x) f.carried (leaves x (IsDrawn name boot drawn) apart) (h file f e)

module _ (name : List ℕ) (boot drawn : ℕ) where
  -- files are changed
  pub tell_files : (bs : List Branch) (fs gs : List (Option File)) (Q : (image.Entry → Type 0) → Type 0) → ((P : image.Entry → Type 0) → Q P → AllFound (FileImages P) fs → AllFound (FileImages P) gs) → Q (IsDrawnImage name boot drawn) →
      ((b : Branch) → In b bs → is_prepared b.state ≡ false → Q (LeavesOpen b.key.serial)) → TellImages name boot drawn bs fs → TellImages name boot drawn bs gs
  tell_files bs fs gs Q keeps here others h = record {
    drawn = keeps (IsDrawnImage name boot drawn) here h.drawn;
    unsettled = λ b i state. keeps (LeavesOpen b.key.serial) (others b i state) (h.unsettled b i state);
  }

  -- more ids are drawn
  pub tell_more : (more : ℕ) (bs : List Branch) (fs : List (Option File)) → ((x : Id) → IsDrawn name boot drawn x → IsDrawn name boot more x) → TellImages name boot drawn bs fs → TellImages name boot more bs fs
  tell_more more bs fs up h = record {
    drawn = λ file f e. images_more (IsDrawnImage name boot drawn) (IsDrawnImage name boot more) f.carried (λ x d. up (serial_of_image x) d) (h.drawn file f e);
    unsettled = h.unsettled;
  }

  -- a branch is stated anew, or begins
  pub tell_put : (b : Branch) (bs : List Branch) (fs : List (Option File)) → Distinct (branch_serials bs) → (is_prepared b.state ≡ false → AllFound (FileImages (LeavesOpen b.key.serial)) fs) → TellImages name boot drawn bs fs → TellImages name boot drawn (put b bs) fs
  tell_put b bs fs d own h = record {
    drawn = h.drawn;
    unsettled = λ c i state. elim (in_put b c bs d i) [
      | inl e ↦ subst (λ (x : Branch). AllFound (FileImages (LeavesOpen x.key.serial)) fs) (sym e) (own (sym (ap (λ (x : Branch). is_prepared x.state) e) ∙ state))
      | inr r ↦ h.unsettled c r.0 state
    ];
  }

  -- a branch goes
  pub tell_cut : (k : BranchKey) (bs : List Branch) (fs : List (Option File)) → TellImages name boot drawn bs fs → TellImages name boot drawn (cut k bs) fs
  tell_cut k bs fs h = record { drawn = h.drawn; unsettled = λ c i state. h.unsettled c (in_cut k c bs i).0 state }

  -- a branch has changed something
  pub tell_changed : (serial : Id) (bs : List Branch) (fs : List (Option File)) → Distinct (branch_serials bs) → TellImages name boot drawn bs fs → TellImages name boot drawn (with_changed serial bs) fs
  tell_changed serial bs fs d h = record {
    drawn = h.drawn;
    unsettled = λ c i state. elim (in_changed serial c bs d i) [
      | inl r ↦ subst (λ (x : Branch). AllFound (FileImages (LeavesOpen x.key.serial)) fs) (sym r.3) (h.unsettled r.0 r.1 (sym (ap (λ (x : Branch). is_prepared x.state) r.3) ∙ state))
      | inr r ↦ h.unsettled c r.0 state
    ];
  }

  -- what the branch had that is stated anew
  pub stated_open : (b old : Branch) (bs : List Branch) (fs : List (Option File)) → find b.key bs ≡ Some old → is_prepared b.state ≡ is_prepared old.state → TellImages name boot drawn bs fs → is_prepared b.state ≡ false → AllFound (FileImages (LeavesOpen b.key.serial)) fs
  stated_open b old bs fs there same h state = subst (λ (k : BranchKey). AllFound (FileImages (LeavesOpen k.serial)) fs) (find-key b.key bs old there) (h.unsettled old (found_in b.key bs old there) (sym same ∙ state))
