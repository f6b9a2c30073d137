-- Operations on records, from what calls on units answer.
use Rattle.std.proofs.Common.{◌≡◌, ℕ, List, [], ◌∷◌, Option, Some, None, Result, Ok, Err, refl, sym, subst}
use Rattle.careful_write.specs.declared.down.Down.{Down}
use Rattle.emitter_model.specs.transcript_model.Lines.{Line}
use Rattle.emitter_model.specs.Emitting.{Shown, Emits}
use Rattle.script_lang.specs.script_model.Statements.{Operation}
use Rattle.vms_model.specs.Ids.{Id}
use Rattle.emitter_model.specs.commit_protocol.Table.{Branch}
use Rattle.file_images.specs.run_model.World.{Act, File, Node}
use Rattle.file_images.specs.run_model.Operations.{changes_of, keys_held, operation_answer}
use Rattle.record_operations.specs.Causes.{down_in}
use Rattle.recovery_units.specs.Calls.{IsAsked, IsDone, IsNotDone, KeepsUp, refusal_of, unit_act, unit_refused_after_reading, unit_refused_before_reading}
use Rattle.recovery_units.specs.State.{IsInOrder, IsKept, WorksFor}
use Rattle.recovery_units.specs.Uses.{Caused, Grows, ImagesGrow}
use Rattle.record_operations.specs.declared.errors.RecErr.{RecErr}
use Rattle.record_operations.specs.declared.errors.RecErr.TheVariants as err
use Rattle.node_standing.specs.node_table.Standing.{Stored}
use Rattle.file_requests.specs.Acting.{ActsFor, branch_service}
use Rattle.file_requests.specs.Asking.{ShowsCause}
use Rattle.file_requests.specs.Replying.{IsPlain, RepliesIf}
use Rattle.file_requests.specs.Serving.{SameStored, disk_of}
use Rattle.file_requests.proofs.Operating.{act_shares, branch_up}
use Rattle.file_requests.proofs.Calls.{images_same}
use Rattle.file_requests.proofs.Reading.{order_still, volume_of_stored}
use Rattle.file_requests.proofs.Replied.{replies_one, since_emits}
use Rattle.file_requests.proofs.Served.{broken_comes, refusal_comes, served}

-- a refusal is not that the disk went down
pub no_down : (e : RecErr) (l : Line) → refusal_of e ≡ Some l → down_in e ≡ None
no_down (err.Down down) l h = let none : ⊥ = cc in absurd none
no_down err.BadParameter l h = refl
no_down err.BadOperation l h = refl
no_down err.BadRecordNumber l h = refl
no_down err.BadRecordSize l h = refl
no_down err.NotForUnits l h = refl
no_down err.NeedsUnit l h = refl
no_down (err.Locked by) l h = refl
no_down err.RecordExists l h = refl
no_down err.KeyExists l h = refl
no_down err.RecordNotFound l h = refl
no_down err.EndOfFile l h = refl
no_down err.KeyChanged l h = refl
no_down err.Changes l h = refl
no_down err.Locks l h = refl
no_down (err.FileFull free need) l h = refl
no_down (err.JournalFull free need) l h = refl
no_down (err.AfterImagesFull free need) l h = refl
no_down (err.BeforeImagesFull free need) l h = refl

-- what the units answered, at each node of the world that is asked so and is up behind the act too
abbrev pub ForAsked : (serial : Id) (f : ℕ) (op : Operation) (u : Stored) → ((n : Node) (early late : Option Line) (act : Act) (file : File) → Type 0) → Type 0
ForAsked serial f op u P = (n : Node) (name : List ℕ) (file : File) (branch : Branch) → IsAsked serial f u.units u.volume n name file branch → KeepsUp (unit_refused_before_reading n branch name file op) (unit_refused_after_reading n branch name file op) (unit_act branch name file op) n →
    P n (unit_refused_before_reading n branch name file op) (unit_refused_after_reading n branch name file op) (unit_act branch name file op) file

module _ (serial : Id) (f : ℕ) (op : Operation) (u new : Stored) (o : IsInOrder u.units u.volume) (doubts : new.in_doubt ≡ u.in_doubt) (works : WorksFor serial u.units new.units) (grows : Grows 0 0 u.volume new.volume) where
  -- it was done, and this was shown
  pub asked_done : (told : Line) (a b : Shown) → ImagesGrow u.volume new.volume → IsInOrder new.units new.volume → IsPlain told → Emits a (told ∷ []) b →
      ForAsked serial f op u (λ n early late act file. IsDone early late act (operation_answer file op) told n new.units new.volume) → ActsFor {T = Unit {0}} (Ok tt) serial f op u new a b
  asked_done told a b far order plain m done = record {
    keeps = record { order = order; in_doubt = doubts; grows = grows; images = far; cause = tt; since = since_emits a b _ m; replies = replies_one a b told m plain };
    works = works;
    acts = λ s n name file branch q up.
        let d = done n name file branch q (branch_up n branch name file op up) in
        served (branch_service n branch name file op) s n a b (SameStored u new) (IsKept new.units new.volume) (disk_of new) (Unit {0}) tt (unit_act branch name file op) [] d.allowed refl (act_shares branch name (changes_of file op) (keys_held file op) s) d.kept
        (subst (λ (l : Line). Emits a (l ∷ []) b) (sym d.answers) m);
  }

  -- it was not
  pub asked_err : (e : RecErr) (r : Result (Unit {0}) Down) (a b : Shown) → (down_in e ≡ None → SameStored u new) → Caused (down_in e) (disk_of u) (disk_of new) → RepliesIf r a b → ShowsCause e r a b →
      ForAsked serial f op u (λ n early late act file. IsNotDone e early late act n (disk_of new)) → ActsFor r serial f op u new a b
  asked_err e (Ok tt) a b same caused replies shows not_done =
      let is = same (no_down e shows.0 shows.1) in
      record {
        keeps = record { order = order_still u new is o; in_doubt = doubts; grows = grows; images = images_same u.volume new.volume (volume_of_stored u new is); cause = tt; since = since_emits a b _ shows.2; replies = replies };
        works = works;
        acts = λ s n name file branch q up.
            refusal_comes (branch_service n branch name file op) s n a b (SameStored u new) (IsKept new.units new.volume) (disk_of new) (Unit {0}) tt e shows.0 (unit_act branch name file op) (disk_of new) shows.1 (not_done n name file branch q (branch_up n branch name file op up)) is shows.2;
      }
  asked_err e (Err down) a b same caused replies shows not_done = record {
    keeps = record { order = tt; in_doubt = doubts; grows = grows; images = tt; cause = subst (λ o. Caused o (disk_of u) (disk_of new)) shows.1 caused; since = since_emits a b _ shows.2; replies = replies };
    works = works;
    acts = λ s n name file branch q up.
        broken_comes (branch_service n branch name file op) s n a b (SameStored u new) (IsKept new.units new.volume) (disk_of new) (Unit {0}) down e (unit_act branch name file op) [] shows.0 (not_done n name file branch q (branch_up n branch name file op up)) (λ none. refl) shows.2;
  }
