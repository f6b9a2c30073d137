-- A file's history: its base, the branches settled since with their changes of it, and the unsettled ones with theirs. Settled branches and the
-- changes of a branch stand newest first; unsettled branches stand in the order of their first change, the newest last.
use Rattle.std.specs.Prelude.{ℕ, ◌==◌, ◌&&◌, List, [], ◌∷◌, Bool, true, false, Option, Some, None, if◌then◌else◌, nat_le}
use Rattle.std.specs.List.{list_any}
use Rattle.std.specs.Ordering.{eq_by_cmp}
use Rattle.std.specs.Str.{bytes_eq}
use Rattle.vms_model.specs.Keys.{Key}
use Rattle.vms_model.specs.Ids.{Id}
use Rattle.vms_model.specs.Transactions.{Outcome, Commit, Abort}
use Rattle.records_model.specs.Records.{Records, Change, key_cmp, applied}

-- whether two ids are one
abbrev pub same_id : Id → Id → Bool
same_id a b = bytes_eq a.node b.node && (a.boot == b.boot) && (a.seq == b.seq)

-- a branch that is settled, with its changes of the file
pub record SettledChanges : Type 0 where
  pub serial : Id
  pub outcome : Outcome
  pub moment : ℕ
  pub changes : List Change

-- a branch that is not settled, with its changes of the file
pub record LiveChanges : Type 0 where
  pub serial : Id
  pub changes : List Change

-- The base is the records that stood at a moment: none where the file was created then.
pub record History : Type 0 where
  pub base : Records
  pub moment : ℕ
  pub settled : List SettledChanges
  pub live : List LiveChanges

-- whether a moment is not past the last that counts; where none is said, all count
abbrev pub reached : Option ℕ → ℕ → Bool
reached None moment = true
reached (Some until) moment = nat_le moment until

-- the records that branches leave which committed by then, the oldest first, on top of others; aborted ones leave none
abbrev pub left_by : Option ℕ → List SettledChanges → Records → Records
left_by until [] m = m
left_by until (s ∷ ss) m = elim (s.outcome) [ Commit ↦ (if reached until s.moment then applied s.changes (left_by until ss m) else left_by until ss m) | Abort ↦ left_by until ss m ]

-- the records of a file: what all its committed branches leave on top of its base
abbrev pub records : History → Records
records h = left_by None h.settled h.base

-- records with the changes of unsettled branches on top
abbrev pub on_top : List LiveChanges → Records → Records
on_top [] m = m
on_top (l ∷ ls) m = applied l.changes (on_top ls m)

-- the records as they stand: those of the file with the changes of the unsettled branches on top
abbrev pub current : History → Records
current h = on_top h.live (records h)

-- the changes of one unsettled branch, the newest first; none where it has changed nothing
abbrev pub changes_by : Id → List LiveChanges → List Change
changes_by serial [] = []
changes_by serial (l ∷ ls) = if same_id serial l.serial then l.changes else changes_by serial ls

-- one more change of an unsettled branch
abbrev pub with_change : Id → Change → List LiveChanges → List LiveChanges
with_change serial c [] = record { serial = serial; changes = c ∷ [] } ∷ []
with_change serial c (l ∷ ls) = if same_id serial l.serial then record l { changes = c ∷ l.changes } ∷ ls else l ∷ with_change serial c ls

-- more changes of an unsettled branch, the newest first
abbrev pub with_changes : Id → List Change → List LiveChanges → List LiveChanges
with_changes serial [] ls = ls
with_changes serial (c ∷ cs) ls = with_change serial c (with_changes serial cs ls)

-- the unsettled branches but for one
abbrev pub without : Id → List LiveChanges → List LiveChanges
without serial [] = []
without serial (l ∷ ls) = if same_id serial l.serial then ls else l ∷ without serial ls

-- a file after more changes of an unsettled branch, the newest first
abbrev pub changed_with : Id → List Change → History → History
changed_with serial cs h = record h { live = with_changes serial cs h.live }

-- whether one of these changes is of this key
abbrev pub changes_key : Key → List Change → Bool
changes_key key cs = list_any (λ c. eq_by_cmp key_cmp key c.key) cs

-- whether a key is held: an unsettled branch changed it
abbrev pub is_held : History → Key → Bool
is_held h key = list_any (λ l. changes_key key l.changes) h.live

-- a file after a branch was settled that made these changes: it joins the settled ones, unless it changed nothing
abbrev pub settled_with : Id → Outcome → ℕ → List Change → History → History
settled_with serial outcome moment [] h = h
settled_with serial outcome moment (c ∷ cs) h = record h { settled = record { serial = serial; outcome = outcome; moment = moment; changes = c ∷ cs } ∷ h.settled; live = without serial h.live }

-- a file after a branch was settled so, at this moment
abbrev pub settled_at : Id → Outcome → ℕ → History → History
settled_at serial outcome moment h = settled_with serial outcome moment (changes_by serial h.live) h

-- whether an unsettled branch changed the file
abbrev pub changed_it : History → Id → Bool
changed_it h serial = elim (changes_by serial h.live) [ [] ↦ false | c ∷ cs ↦ true ]

-- the earliest begun of the unsettled branches that changed the file, of these in the order of their start
abbrev pub first_to_change : History → List Id → Option Id
first_to_change h [] = None
first_to_change h (serial ∷ serials) = if changed_it h serial then Some serial else first_to_change h serials
