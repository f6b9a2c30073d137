-- What unsettled branches change and how they are settled leaves no gap in a sequential file.
use Rattle.std.proofs.Common.{◌≡◌, ℕ, List, [], ◌∷◌, Bool, true, false, cond, ◌||◌, Option, Some, None, refl, sym, ◌∙◌, ap, subst, inl, inr}
use Rattle.std.specs.Prelude.{is_some}
use Rattle.std.specs.Option.{is_none}
use Rattle.std.specs.List.{AllByRecursion}
use Rattle.std.specs.Ordering.{eq_by_cmp}
use Rattle.std.specs.FinMap.{get}
use Rattle.vms_model.specs.Ids.{Id}
use Rattle.vms_model.specs.Keys.{Key}
use Rattle.vms_model.specs.Transactions.{Abort, Commit, Outcome}
use Rattle.unit_laws.specs.records_model.Records.{Change, Found, Records, applied, key_cmp}
use Rattle.unit_laws.specs.records_model.History.{History, LiveChanges, changed_with, changes_by, changes_key, current, on_top, records, same_id, settled_at, settled_with, without}
use Rattle.unit_laws.proofs.records_model.RecordsLemmas.{alike, get-set_key, same_key}
use Rattle.unit_laws.specs.Laws.{Aborted, Committed}
use Rattle.unit_laws.specs.Units.{Apart, HasImages, IsImage, IsOrderly, Map, OneMovesEnd, earliest_before, is_changed, is_free, is_of, latest_after, map_in, moves_end, restored}
use Rattle.unit_laws.proofs.HistoryLaws.{aborts_one, changes_more, commits_one}
use Rattle.unit_laws.proofs.LiveLemmas.{clash}
use Rattle.unit_laws.proofs.RestoredLemmas.{changed_of}
use Rattle.unit_laws.proofs.Tests.{or_first, or_second}
use Rattle.world_laws.specs.run_model.World.{File, Indexed, IsKept, OneMovesEndOf, Organization, Relative, Sequential, half_undone, recovered_file}
use Rattle.world_laws.proofs.PlainLemmas.{end_changed}
use Rattle.recovery_laws.specs.Loading.{HasNoGap}
use Rattle.recovery_laws.specs.Gaps.{FilesStayGapless, IsGapless, MayChangeOn}
use Rattle.recovery_laws.proofs.PositionLemmas.{same_positions}

-- Changes that do not move the end.

abbrev moves : Change → Bool
moves c = is_none c.before || is_none c.after

there : (o : Option (List ℕ)) → is_none o ≡ false → is_some o ≡ true
there None e = let no : ⊥ = cc in absurd no
there (Some v) e = refl

had : (c : Change) → moves c ≡ false → is_some c.before ≡ true
had c still = there c.before (or_first (is_none c.before) (is_none c.after) still)

has : (c : Change) → moves c ≡ false → is_some c.after ≡ true
has c still = there c.after (or_second (is_none c.before) (is_none c.after) still)

-- they leave the same keys with records
pub stay_present : (cs : List Change) (m : Records) → Found cs m → moves_end cs ≡ false → (q : Key) → is_some (get (applied cs m) q) ≡ is_some (get m q)
stay_present [] m found still q = refl
stay_present (c ∷ cs) m found still q = ap is_some (get-set_key (applied cs m) c.key q c.after) ∙ go (eq_by_cmp key_cmp q c.key) refl (stay_present cs m found.1 (or_second (moves c) (moves_end cs) still))
  where
    go : (b : Bool) → eq_by_cmp key_cmp q c.key ≡ b → ((k : Key) → is_some (get (applied cs m) k) ≡ is_some (get m k)) → is_some (cond b c.after (get (applied cs m) q)) ≡ is_some (get m q)
    go true is later = has c (or_first (moves c) (moves_end cs) still)
        ∙ sym (ap (λ k. is_some (get m k)) (same_key q c.key is) ∙ sym (later c.key) ∙ ap is_some (sym found.0) ∙ had c (or_first (moves c) (moves_end cs) still))
    go false is later = later q

earliest_there : (cs : List Change) (q : Key) → moves_end cs ≡ false → changes_key q cs ≡ true → is_some (earliest_before cs q) ≡ true
earliest_there [] q still h = let no : ⊥ = cc in absurd no
earliest_there (c ∷ cs) q still h = go (changes_key q cs) refl (earliest_there cs q (or_second (moves c) (moves_end cs) still))
  where
    go : (b : Bool) → changes_key q cs ≡ b → (changes_key q cs ≡ true → is_some (earliest_before cs q) ≡ true) → is_some (cond b (earliest_before cs q) c.before) ≡ true
    go true is more = more is
    go false is more = had c (or_first (moves c) (moves_end cs) still)

latest_there : (cs : List Change) (q : Key) → moves_end cs ≡ false → changes_key q cs ≡ true → is_some (latest_after cs q) ≡ true
latest_there [] q still h = let no : ⊥ = cc in absurd no
latest_there (c ∷ cs) q still h = go (is_of q c) h (latest_there cs q (or_second (moves c) (moves_end cs) still))
  where
    go : (b : Bool) → (b || changes_key q cs) ≡ true → (changes_key q cs ≡ true → is_some (latest_after cs q) ≡ true) → is_some (cond b c.after (latest_after cs q)) ≡ true
    go true is more = has c (or_first (moves c) (moves_end cs) still)
    go false is more = more is

image_there : (cs : List Change) (q : Key) (v : Option (List ℕ)) → moves_end cs ≡ false → IsImage cs q v → is_some v ≡ true
image_there [] q v still h = absurd h
image_there (c ∷ cs) q v still (inl (at, inl is)) = ap is_some is ∙ had c (or_first (moves c) (moves_end cs) still)
image_there (c ∷ cs) q v still (inl (at, inr is)) = ap is_some is ∙ has c (or_first (moves c) (moves_end cs) still)
image_there (c ∷ cs) q v still (inr more) = image_there cs q v (or_second (moves c) (moves_end cs) still) more

-- Branches that do not move it.

-- a branch that changed this key did not move the end
abbrev Keeps : Key → LiveChanges → Type 0
Keeps q l = changes_key q l.changes ≡ true → moves_end l.changes ≡ false

-- where each such branch did not, the key has a record once all are undone just where it has one now
present : (ls : List LiveChanges) (q : Key) (m : Map) → AllByRecursion (λ (l : LiveChanges). HasImages m l.changes) ls → AllByRecursion (Keeps q) ls → is_some (restored ls q (m q)) ≡ is_some (m q)
present [] q m images keeps = refl
present (l ∷ ls) q m images keeps = go (changes_key q l.changes) refl (present ls q m images.1 keeps.1)
  where
    go : (b : Bool) → changes_key q l.changes ≡ b → is_some (restored ls q (m q)) ≡ is_some (m q) → is_some (cond b (earliest_before l.changes q) (restored ls q (m q))) ≡ is_some (m q)
    go true is more = earliest_there l.changes q (keeps.0 is) is ∙ sym (image_there l.changes q (m q) (keeps.0 is) (images.0 q is))
    go false is more = more

all_keep : (q : Key) (ls : List LiveChanges) → AllByRecursion (λ (l : LiveChanges). moves_end l.changes ≡ false) ls → AllByRecursion (Keeps q) ls
all_keep q [] h = tt
all_keep q (l ∷ ls) h = ((λ is. h.0), all_keep q ls h.1)

none_keeps : (q : Key) (ls : List LiveChanges) → is_changed ls q ≡ false → AllByRecursion (Keeps q) ls
none_keeps q [] h = tt
none_keeps q (l ∷ ls) h = ((λ is. clash (changes_key q l.changes) is (or_first (changes_key q l.changes) (is_changed ls q) h)), none_keeps q ls (or_second (changes_key q l.changes) (is_changed ls q) h))

-- the one branch that changed it is this
own_keeps : (s : Id) (q : Key) (ls : List LiveChanges) → Apart ls → changes_key q (changes_by s ls) ≡ true → moves_end (changes_by s ls) ≡ false → AllByRecursion (Keeps q) ls
own_keeps s q [] apart is still = tt
own_keeps s q (l ∷ ls) apart is still = go (same_id s l.serial) is still (own_keeps s q ls apart.1)
  where
    go : (b : Bool) → changes_key q (cond b l.changes (changes_by s ls)) ≡ true → moves_end (cond b l.changes (changes_by s ls)) ≡ false →
        (changes_key q (changes_by s ls) ≡ true → moves_end (changes_by s ls) ≡ false → AllByRecursion (Keeps q) ls) → AllByRecursion (Keeps q) (l ∷ ls)
    go true k m more = ((λ at. m), none_keeps q ls (apart.0 q k))
    go false k m more = ((λ at. clash (is_changed ls q) (changed_of s ls q k) (apart.0 q at)), more k m)

none_moved : (s : Id) (ls : List LiveChanges) → AllByRecursion (λ (l : LiveChanges). moves_end l.changes ≡ false) ls → moves_end (changes_by s ls) ≡ false
none_moved s [] h = refl
none_moved s (l ∷ ls) h = go (same_id s l.serial) (none_moved s ls h.1)
  where
    go : (b : Bool) → moves_end (changes_by s ls) ≡ false → moves_end (cond b l.changes (changes_by s ls)) ≡ false
    go true more = h.0
    go false more = more

-- where one branch moved the end, the others did not
others_still : (s : Id) (ls : List LiveChanges) → OneMovesEnd ls → moves_end (changes_by s ls) ≡ true → AllByRecursion (λ (l : LiveChanges). moves_end l.changes ≡ false) (without s ls)
others_still s [] one moved = tt
others_still s (l ∷ ls) one moved = go (same_id s l.serial) moved (others_still s ls one.1)
  where
    head : (b : Bool) → moves_end l.changes ≡ b → moves_end (changes_by s ls) ≡ true → b ≡ false
    head true is m = clash (moves_end (changes_by s ls)) m (none_moved s ls (one.0 is))
    head false is m = refl

    go : (b : Bool) → moves_end (cond b l.changes (changes_by s ls)) ≡ true → (moves_end (changes_by s ls) ≡ true → AllByRecursion (λ (k : LiveChanges). moves_end k.changes ≡ false) (without s ls)) →
        AllByRecursion (λ (k : LiveChanges). moves_end k.changes ≡ false) (cond b ls (l ∷ without s ls))
    go true m more = one.0 m
    go false m more = (head (moves_end l.changes) refl m, more m)

own_images : (s : Id) (m : Map) (ls : List LiveChanges) → AllByRecursion (λ (l : LiveChanges). HasImages m l.changes) ls → HasImages m (changes_by s ls)
own_images s m [] h = λ q is. let no : ⊥ = cc in absurd no
own_images s m (l ∷ ls) h = go (same_id s l.serial) (own_images s m ls h.1)
  where
    go : (b : Bool) → HasImages m (changes_by s ls) → HasImages m (cond b l.changes (changes_by s ls))
    go true more = h.0
    go false more = more

-- Histories.

committed_there : (h : History) → IsOrderly h → (q : Key) → AllByRecursion (Keeps q) h.live → is_some (get (records h) q) ≡ is_some (get (current h) q)
committed_there h orderly q keeps = ap is_some (sym (orderly.represents.restores q)) ∙ present h.live q (map_in (current h)) orderly.represents.images keeps

live_settled : (serial : Id) (outcome : Outcome) (moment : ℕ) (h : History) (cs : List Change) → moves_end cs ≡ true → (settled_with serial outcome moment cs h).live ≡ without serial h.live
live_settled serial outcome moment h [] moved = let no : ⊥ = cc in absurd no
live_settled serial outcome moment h (c ∷ cs) moved = refl

-- one of several branches is settled in a sequential file
module _ (h : History) (serial : Id) (moment : ℕ) (orderly : IsOrderly h) (one : OneMovesEnd h.live) (gapless : IsGapless Sequential h) where
  abbrev own : List Change
  own = changes_by serial h.live

  -- behind it no branch has moved the end, where this one had
  settled_keep : (outcome : Outcome) → moves_end own ≡ true → (q : Key) → AllByRecursion (Keeps q) (settled_at serial outcome moment h).live
  settled_keep outcome moved q = all_keep q _ (subst (AllByRecursion (λ (l : LiveChanges). moves_end l.changes ≡ false)) (sym (live_settled serial outcome moment h own moved)) (others_still serial h.live one moved))

  stands_there : moves_end own ≡ false → (q : Key) → changes_key q own ≡ true → is_some (get (current h) q) ≡ true
  stands_there still q is = image_there own q (get (current h) q) still (own_images serial (map_in (current h)) h.live orderly.represents.images q is)

  commits : IsGapless Sequential (settled_at serial Commit moment h)
  commits = record { stands = stands; committed = go (moves_end own) refl }
    where
      c : Committed h own (settled_at serial Commit moment h)
      c = commits_one h serial moment orderly

      stands : HasNoGap Sequential (current (settled_at serial Commit moment h))
      stands = same_positions Sequential (current h) (current (settled_at serial Commit moment h)) (λ q. ap is_some (c.current q)) gapless.stands

      at : moves_end own ≡ false → (q : Key) (b : Bool) → changes_key q own ≡ b → is_some (cond b (latest_after own q) (get (records h) q)) ≡ is_some (get (records h) q)
      at still q true is = latest_there own q still is ∙ sym (committed_there h orderly q (own_keeps serial q h.live orderly.represents.apart is still) ∙ stands_there still q is)
      at still q false is = refl

      go : (b : Bool) → moves_end own ≡ b → HasNoGap Sequential (records (settled_at serial Commit moment h))
      go true moved = same_positions Sequential (current (settled_at serial Commit moment h)) (records (settled_at serial Commit moment h)) (λ q. committed_there (settled_at serial Commit moment h) c.orderly q (settled_keep Commit moved q)) stands
      go false still = same_positions Sequential (records h) (records (settled_at serial Commit moment h)) (λ q. ap is_some (c.records q) ∙ at still q (changes_key q own) refl) gapless.committed

  aborts : IsGapless Sequential (settled_at serial Abort moment h)
  aborts = record { stands = go (moves_end own) refl; committed = committed }
    where
      a : Aborted h own (settled_at serial Abort moment h)
      a = aborts_one h serial moment orderly

      committed : HasNoGap Sequential (records (settled_at serial Abort moment h))
      committed = subst (HasNoGap Sequential) (sym a.records) gapless.committed

      at : moves_end own ≡ false → (q : Key) (b : Bool) → changes_key q own ≡ b → is_some (cond b (earliest_before own q) (get (current h) q)) ≡ is_some (get (current h) q)
      at still q true is = earliest_there own q still is ∙ sym (stands_there still q is)
      at still q false is = refl

      go : (b : Bool) → moves_end own ≡ b → HasNoGap Sequential (current (settled_at serial Abort moment h))
      go true moved = same_positions Sequential (records (settled_at serial Abort moment h)) (current (settled_at serial Abort moment h)) (λ q. sym (committed_there (settled_at serial Abort moment h) a.orderly q (settled_keep Abort moved q))) committed
      go false still = same_positions Sequential (current h) (current (settled_at serial Abort moment h)) (λ q. ap is_some (a.current q) ∙ at still q (changes_key q own) refl) gapless.stands

  settles : (outcome : Outcome) → IsGapless Sequential (settled_at serial outcome moment h)
  settles Commit = commits
  settles Abort = aborts

settled_gapless : (o : Organization) (h : History) (serial : Id) (outcome : Outcome) (moment : ℕ) → IsOrderly h → OneMovesEndOf o h.live → IsGapless o h → IsGapless o (settled_at serial outcome moment h)
settled_gapless Sequential h serial outcome moment orderly one gapless = settles h serial moment orderly one gapless outcome
settled_gapless (Relative greatest) h serial outcome moment orderly one gapless = record { stands = tt; committed = tt }
settled_gapless (Indexed position size) h serial outcome moment orderly one gapless = record { stands = tt; committed = tt }

changed_gapless : (o : Organization) (h : History) (serial : Id) (cs : List Change) → IsOrderly h → AllByRecursion (λ (c : Change). is_free serial h.live c.key ≡ true) cs → Found cs (current h) →
    (HasNoGap o (current h) → HasNoGap o (applied cs (current h))) → IsGapless o h → IsGapless o (changed_with serial cs h)
changed_gapless o h serial cs orderly free found keeps gapless =
    let c = changes_more h serial cs orderly free found in
    record {
      stands = subst (HasNoGap o) (sym (alike (current (changed_with serial cs h)) (applied cs (current h)) c.current)) (keeps gapless.stands);
      committed = subst (HasNoGap o) (sym c.records) gapless.committed;
    }

kept_has_none : (o : Organization) (h : History) → IsKept o h → HasNoGap o (current h)
kept_has_none Sequential h kept = kept
kept_has_none (Relative greatest) h kept = tt
kept_has_none (Indexed position size) h kept = tt

-- Files.

pub half_gapless : (f : File) (serial : Id) (standing : List ℕ → Map) → IsGapless f.organization f.history → IsKept f.organization (half_undone serial standing f).history → IsGapless f.organization (half_undone serial standing f).history
half_gapless f serial standing gapless kept = record { stands = kept_has_none f.organization (half_undone serial standing f).history kept; committed = gapless.committed }

pub recovered_gapless : (f : File) (start buckets g : ℕ) (m : Records) → f.history.live ≡ [] → HasNoGap f.organization m → IsGapless f.organization (recovered_file start buckets m g f).history
recovered_gapless f start buckets g m rests gaps = record { stands = subst (HasNoGap f.organization) (sym (ap (λ ls. on_top ls m) rests)) gaps; committed = gaps }

pub files_stay_gapless : FilesStayGapless
files_stay_gapless f shared gapless = record {
  changes = λ held tid serial cs may. changed serial cs may;
  directs = λ held s cs may. settled_gapless f.organization (changed_with s.serial cs f.history) s.serial s.outcome s.moment (changes_more f.history s.serial cs shared.orderly may.free may.found).orderly
      (end_changed f.organization f.history.live s.serial cs shared.differ may.gaps.end shared.one) (changed s.serial cs may);
  settles = λ s. settled_gapless f.organization f.history s.serial s.outcome s.moment shared.orderly shared.one gapless;
  halves = λ serial standing kept. half_gapless f serial standing gapless kept;
  marks = λ mark g. gapless;
  saves = λ start g. gapless;
  recovers = λ start buckets g m rests gaps. recovered_gapless f start buckets g m rests gaps;
}
  where
    changed : (serial : Id) (cs : List Change) → MayChangeOn serial cs f → IsGapless f.organization (changed_with serial cs f.history)
    changed serial cs may = changed_gapless f.organization f.history serial cs shared.orderly may.free may.found may.gaps.stands gapless
