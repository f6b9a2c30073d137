-- The heads of entries of images on the disk.
use Rattle.std.proofs.Common.{◌≡◌, ℕ, Bool, List, Option, Some, None, refl, ◌∙◌, ap}
use Rattle.vms_model.specs.Ids.{Id}
use Rattle.vms_model.specs.Transactions as model
use Rattle.file_base.specs.vms_base.Ids.{serial_of}
use Rattle.file_base.specs.vms_base.declared.outcomes.Outcome.{Outcome}
use Rattle.file_base.specs.vms_base.declared.outcomes.Outcome.TheVariants.{Commit, Abort}
use Rattle.file_images.specs.journal_model.Entries.{Entry}
use Rattle.image_journals.specs.journal_format.Heads.{entry_of, kind_code, outcome_code, flag_of}
use Rattle.image_journals.specs.journal_format.declared.head.EntryKind.{EntryKind}
use Rattle.image_journals.specs.journal_format.declared.head.EntryKind.TheVariants as kind
use Rattle.image_journals.specs.journal_format.declared.head.EntryHead.{EntryHead}
use Rattle.file_images.specs.recovery_model.Journal.{Changed, Settled}
use Rattle.file_images.specs.recovery_model.Journal as model_entry
use Rattle.file_images.specs.recovery_model.Places.{Header, ChangeBy, SettlementOf, header_of}
use Rattle.file_images.specs.recovery_model.File.{Placed}
use Rattle.image_journals.specs.Headers.{header_by, header_told}
use Rattle.file_images.specs.Images.{disk_entry}
use Rattle.file_images.specs.Images as disk

change_kind : (k : EntryKind) (r : Id) (o : Option Outcome) (m : ℕ) → kind_code k ≡ 1 → header_by k r o m ≡ ChangeBy r
change_kind kind.Change r o m e = refl
change_kind kind.Prepared r o m e = let no : ⊥ = cc in absurd no
change_kind kind.Settled r o m e = let no : ⊥ = cc in absurd no

settled_flag : (o : Option Outcome) (r : Id) (m : ℕ) (outcome : model.Outcome) → outcome_code o ≡ disk.outcome_code outcome → header_by kind.Settled r o m ≡ SettlementOf r outcome m
settled_flag (Some Commit) r m model.Commit e = refl
settled_flag (Some Commit) r m model.Abort e = let no : ⊥ = cc in absurd no
settled_flag (Some Abort) r m model.Commit e = let no : ⊥ = cc in absurd no
settled_flag (Some Abort) r m model.Abort e = refl
settled_flag None r m model.Commit e = let no : ⊥ = cc in absurd no
settled_flag None r m model.Abort e = let no : ⊥ = cc in absurd no

settled_kind : (k : EntryKind) (present : Bool) (r : Id) (o : Option Outcome) (m : ℕ) (outcome : model.Outcome) → kind_code k ≡ 3 → flag_of k present o ≡ disk.outcome_code outcome →
    header_by k r o m ≡ SettlementOf r outcome m
settled_kind kind.Change present r o m outcome e f = let no : ⊥ = cc in absurd no
settled_kind kind.Prepared present r o m outcome e f = let no : ⊥ = cc in absurd no
settled_kind kind.Settled present r o m outcome e f = settled_flag o r m outcome f

pub head_tells : (h : EntryHead) (image : List ℕ) (f : ℕ) (x : Placed) → entry_of h image ≡ disk_entry f x → header_told h ≡ header_of x.entry
head_tells h image f x is = by_entry x.at x.tid x.entry is
  where
    by_entry : (at : ℕ) (tid : Id) (e : model_entry.Entry) → entry_of h image ≡ disk_entry f (record { at = at; tid = tid; entry = e }) → header_told h ≡ header_of e
    by_entry at tid (Changed s k v) is =
        change_kind h.kind (serial_of h.serial) h.outcome h.moment.0 (ap (λ (d : Entry). d.kind) is) ∙ ap ChangeBy (ap (λ (d : Entry). d.serial) is)
    by_entry at tid (Settled s outcome t) is =
        settled_kind h.kind h.present (serial_of h.serial) h.outcome h.moment.0 outcome (ap (λ (d : Entry). d.kind) is) (ap (λ (d : Entry). d.flag) is) ∙
        (λ i. SettlementOf (ap (λ (d : Entry). d.serial) is i) outcome (ap (λ (d : Entry). d.moment) is i))
