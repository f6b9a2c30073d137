-- The entry that a head and an image are.
use Rattle.std.specs.Prelude.{◌≡◌, ◌==◌, ℕ, Bool, List, [], length, Option, Some, None, Result, Ok, Err, unwrap_or, if◌then◌else◌}
use Rattle.vms_base.specs.Ids.{tid_of, serial_of}
use Rattle.vms_base.specs.declared.outcomes.Outcome.{Outcome}
use Rattle.vms_base.specs.declared.outcomes.Outcome.TheVariants.{Commit, Abort}
use Rattle.journal_model.specs.Entries.{Entry, spelling, has_image}
use Rattle.journal_format.specs.declared.head.EntryKind.{EntryKind}
use Rattle.journal_format.specs.declared.head.EntryKind.TheVariants.{Change, Prepared, Settled}
use Rattle.journal_format.specs.declared.head.EntryHead.{EntryHead}
use Rattle.journal_format.specs.declared.check.EntryErr.{EntryErr}

abbrev pub kind_code : EntryKind → ℕ
kind_code Change = 1
kind_code Prepared = 2
kind_code Settled = 3

-- 0 is the flag of no Settled entry
abbrev pub outcome_code : Option Outcome → ℕ
outcome_code (Some Commit) = 1
outcome_code (Some Abort) = 2
outcome_code None = 0

abbrev pub flag_of : EntryKind → (present : Bool) → Option Outcome → ℕ
flag_of Change present outcome = if present then 1 else 0
flag_of Prepared present outcome = 0
flag_of Settled present outcome = outcome_code outcome

abbrev pub entry_of : EntryHead → (image : List ℕ) → Entry
entry_of h image = record {
  kind = kind_code h.kind;
  flag = flag_of h.kind h.present h.outcome;
  file = h.file;
  tid = tid_of h.tid;
  serial = serial_of h.serial;
  moment = h.moment.0;
  key = unwrap_or h.key [];
  image = image;
}

-- the outcome of an entry with this kind and flag
abbrev pub outcome_said : (kind flag : ℕ) → Option Outcome
outcome_said kind flag = if kind == 3 then (if flag == 1 then Some Commit else (if flag == 2 then Some Abort else None)) else None

-- no field of a head says more than its entry: an image is there exactly in a Change that has one, and an outcome in a Settled alone
pub record IsPlain (h : EntryHead) (image : List ℕ) : Type 0 where
  pub image_len : h.image_len ≡ length image
  pub present : h.present ≡ has_image (entry_of h image).kind (entry_of h image).flag
  pub outcome : h.outcome ≡ outcome_said (entry_of h image).kind (entry_of h image).flag

-- an answer that reads this entry
abbrev pub Reads : Result (EntryHead × ℕ) EntryErr → (image : List ℕ) → Entry → Type 0
Reads (Ok r) image e = (entry_of r.0 image ≡ e) × (r.1 ≡ length (spelling e))
Reads (Err x) image e = ⊥
