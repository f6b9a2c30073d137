-- A worked script, computed: a file with both journals and a save. Three branches put a record each at 1000, 1100 and 1200, and one is aborted at 1101.
use Rattle.std.proofs.Common.{◌≡◌, ℕ, Bool, true, false, List, [], ◌∷◌, Option, Some, None, ◌||◌, inl, refl, sym, ◌∙◌, ap, arith}
use Rattle.std.specs.Prelude.{if◌then◌else◌}
use Rattle.std.specs.FinMap.{empty, insert, remove, get, get-empty}
use Rattle.unit_laws.specs.vms_model.Ids.{Id}
use Rattle.unit_laws.specs.vms_model.Keys.{Number}
use Rattle.unit_laws.specs.vms_model.Transactions.{Outcome, Commit, Abort}
use Rattle.unit_laws.specs.records_model.Records.{Records, Change, key_cmp, set_key}
use Rattle.unit_laws.proofs.records_model.RecordsLemmas.{get-set_key, set_back}
use Rattle.unit_laws.specs.Units.{is_of}
use Rattle.recovery_model.specs.Journal.{Changed, Settled}
use Rattle.recovery_model.specs.File.{FileState, created}
use Rattle.recovery_model.specs.Room.{full_of, AftersFull}
use Rattle.recovery_model.specs.Acts.{Changes, Settles, BeginsAfters, EndsAfters, BeginsBefores, Saves, Recovers, file_after, MayHalfAbort, Leads}
use Rattle.recovery_model.specs.Opening.{IsOpening, as_found}
use Rattle.recovery_model.specs.Recovery.{Forward, Backward, refusal, rolled, records_by, NoJournal, NoSave, InUse, TooEarly, PositionsMissing, MomentsMissing}
use Rattle.recovery_model.proofs.Recoveries.{created_is_found}

abbrev id : ℕ → Id
id n = record { node = 65 ∷ []; boot = 1; seq = n }

abbrev put : (number byte : ℕ) → Change
put number byte = record { key = Number number; before = None; after = Some (byte ∷ []) }

-- a branch puts a record and is settled
abbrev puts : (n : ℕ) → Outcome → (moment number byte g : ℕ) → FileState → FileState
puts n outcome moment number byte g f = file_after (Settles (id n) (id n) outcome moment) g (file_after (Changes (id n) (id n) (put number byte)) g f)

abbrev begun : FileState
begun = file_after (Saves 2200 1) 0 (file_after (BeginsBefores 2100 64) 0 (file_after (BeginsAfters 2000 64) 0 (created 0 (λ u. empty))))

begins : (begun.ai.first ≡ 512) × (begun.bi.end ≡ 512)
begins = (refl, refl)

abbrev once : FileState
once = puts 1 Commit 1000 1 97 0 begun

entered : once.ai.entries ≡ record { at = 565; tid = id 1; entry = Settled (id 1) Commit 1000 } ∷ record { at = 512; tid = id 1; entry = Changed (id 1) (Number 1) (Some (97 ∷ [])) } ∷ []
entered = refl

end_once : once.ai.end ≡ 613
end_once = refl

abbrev all : FileState
all = puts 4 Commit 1200 4 100 1101 (puts 3 Abort 1101 3 120 1100 (puts 2 Commit 1100 2 98 1000 once))

unrefused : (refusal (Forward (Some 1100)) None all ≡ None) × (refusal (Backward 1100) None all ≡ None)
unrefused = (refl, refl)

abbrev two : Records
two = insert (insert empty (Number 1) (97 ∷ [])) (Number 2) (98 ∷ [])

-- the save's records, with what the first two branches set
rolls_forward : (rolled (Forward (Some 1100)) all ≡ two) × (records_by (Forward (Some 1100)) all ≡ two)
rolls_forward = (refl, refl)

-- what stands, without what the last one set
rolls_back : rolled (Backward 1100) all ≡ remove (insert two (Number 4) (100 ∷ [])) (Number 4)
rolls_back = refl

no_fourth : get two (Number 4) ≡ None
no_fourth = get-set_key (insert empty (Number 1) (97 ∷ [])) (Number 2) (Number 4) (Some (98 ∷ [])) ∙ get-set_key empty (Number 1) (Number 4) (Some (97 ∷ [])) ∙ get-empty key_cmp (Number 4)

gives_back : rolled (Backward 1100) all ≡ two
gives_back = sym (ap (set_key (set_key two (Number 4) (Some (100 ∷ []))) (Number 4)) no_fourth) ∙ set_back two (Number 4) (Some (100 ∷ []))

abbrev after : FileState
after = file_after (Recovers (records_by (Forward (Some 1100)) all)) 1200 all

ends : (after.ai.end ≡ 1024) × (after.bi.end ≡ 1024)
ends = (refl, refl)

-- then the save is behind the journal's first position
missing : refusal (Forward None) None after ≡ Some (PositionsMissing 512 1024)
missing = refl

too_far : refusal (Backward 1199) None after ≡ Some (MomentsMissing 1199 1200)
too_far = refl

-- the causes come in their order
causes : (refusal (Forward None) (Some (id 9)) (file_after EndsAfters 1200 all) ≡ Some NoJournal) × (refusal (Forward None) (Some (id 9)) (record all { save = None }) ≡ Some NoSave) ×
    (refusal (Forward None) (Some (id 9)) all ≡ Some (InUse (id 9))) × (refusal (Forward (Some 3)) None (record after { save = Some (record { start = 1; buckets = 1; position = 0; moment = 4; records = empty }) }) ≡ Some (TooEarly 3 4))
causes = (refl, refl, refl, refl)

-- These acts may be done, one after another: so what the laws ask for can be met.

abbrev may : Id → Bool
may s = true

abbrev made : FileState
made = created 0 (λ u. empty)

abbrev marked : FileState
marked = file_after (BeginsAfters 2000 64) 0 made

abbrev both : FileState
both = file_after (BeginsBefores 2100 64) 0 marked

abbrev changed : FileState
changed = file_after (Changes (id 1) (id 1) (put 1 97)) 0 begun

to_marked : Leads may (BeginsAfters 2000 64 ∷ []) 0 made 0 marked
to_marked = (0, made, (refl, refl), λ s. refl, refl, refl)

to_begun : Leads may (Saves 2200 1 ∷ BeginsBefores 2100 64 ∷ BeginsAfters 2000 64 ∷ []) 0 made 0 begun
to_begun = (0, both, (0, marked, to_marked, λ s. refl, refl, refl), λ s. refl, refl, refl)

to_changed : Leads may (Changes (id 1) (id 1) (put 1 97) ∷ Saves 2200 1 ∷ BeginsBefores 2100 64 ∷ BeginsAfters 2000 64 ∷ []) 0 made 0 changed
to_changed = (0, begun, to_begun, record { begins = λ e. (refl, refl); found = sym (get-empty key_cmp (Number 1)); free = refl; fits = record { afters = λ on. omega arith; befores = λ on. omega arith } }, refl, refl)

to_once : Leads may (Settles (id 1) (id 1) Commit 1000 ∷ Changes (id 1) (id 1) (put 1 97) ∷ Saves 2200 1 ∷ BeginsBefores 2100 64 ∷ BeginsAfters 2000 64 ∷ []) 0 made 1000 once
to_once = (0, changed, to_changed, (omega arith, λ c e. refl), refl, refl)

abbrev again : FileState
again = file_after (BeginsAfters 2000 64) 1000 once

-- a span more, in which the save is not reached
to_again : Leads may (BeginsAfters 2000 64 ∷ Settles (id 1) (id 1) Commit 1000 ∷ Changes (id 1) (id 1) (put 1 97) ∷ Saves 2200 1 ∷ BeginsBefores 2100 64 ∷ BeginsAfters 2000 64 ∷ []) 0 made 1000 again
to_again = (1000, once, to_once, λ s. refl, refl, refl)

behind : refusal (Forward None) None again ≡ Some (PositionsMissing 512 1024)
behind = refl

-- The abort of a branch may be cut short: the record that it put is away, and the journals tell of its change as before.

abbrev may_not : Id → Bool
may_not s = false

abbrev nothing : Option (List ℕ)
nothing = None

abbrev undone_put : Change
undone_put = record { key = Number 1; before = None; after = None }

none_both : (b : Bool) → (if b then None else nothing) ≡ nothing
none_both true = refl
none_both false = refl

may_cut : MayHalfAbort may_not (id 1) (undone_put ∷ []) changed
may_cut = record {
  aborts = refl;
  same = refl;
  found = (sym (get-empty key_cmp (Number 1)), tt);
  images = λ key h. inl (or_same (is_of key (put 1 97)) h, inl (none_both (is_of key (put 1 97))));
}
  where
    or_same : (b : Bool) → (b || false) ≡ true → b ≡ true
    or_same true h = refl
    or_same false h = h

-- A ring of one block takes five records of branches of one statement, and is full then.

abbrev narrow : FileState
narrow = file_after (BeginsAfters 3000 1) 0 made

abbrev five : FileState
five = puts 5 Commit 5 5 97 4 (puts 4 Commit 4 4 97 3 (puts 3 Commit 3 3 97 2 (puts 2 Commit 2 2 97 1 (puts 1 Commit 1 1 97 0 narrow))))

full : full_of (id 6) (put 6 97 ∷ []) five ≡ Some (AftersFull 7 101)
full = refl

not_full_before : full_of (id 5) (put 5 97 ∷ []) (puts 4 Commit 4 4 97 3 (puts 3 Commit 3 3 97 2 (puts 2 Commit 2 2 97 1 (puts 1 Commit 1 1 97 0 narrow)))) ≡ None
not_full_before = refl

-- The next run finds the branch unsettled and commits it; then the after images since the save have its record.

abbrev found : FileState
found = as_found 0 changed

is_found : IsOpening may 0 found
is_found = created_is_found may may (Changes (id 1) (id 1) (put 1 97) ∷ Saves 2200 1 ∷ BeginsBefores 2100 64 ∷ BeginsAfters 2000 64 ∷ []) (λ u. empty) 0 0 changed (λ s e. e) to_changed

abbrev committed : FileState
committed = file_after (Settles (id 1) (id 1) Commit 1000) 0 found

commits_later : Leads may (Settles (id 1) (id 1) Commit 1000 ∷ []) 0 found 1000 committed
commits_later = (0, found, (refl, refl), (omega arith, λ c e. refl), refl, refl)

gives_later : (rolled (Forward None) committed ≡ insert empty (Number 1) (97 ∷ [])) × (records_by (Forward None) committed ≡ insert empty (Number 1) (97 ∷ []))
gives_later = (refl, refl)
