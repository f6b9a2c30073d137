-- What holds where several branches of one file are unsettled at once.
use Rattle.std.specs.Prelude.{◌≡◌, ℕ, true, List, [], ◌∷◌, ◌++◌, IsPermutation}
use Rattle.std.specs.List.{AllByRecursion}
use Rattle.std.specs.FinMap.{get}
use Rattle.tree_model.specs.vms_model.Ids.{Id}
use Rattle.tree_model.specs.vms_model.Keys.{Key}
use Rattle.tree_model.specs.vms_model.Transactions.{Commit, Abort}
use Rattle.tree_model.specs.records_model.Records.{Change, Found, applied}
use Rattle.tree_model.specs.records_model.History.{History, LiveChanges, changes_by, current, records, settled_at, changed_with, with_changes, without}
use Rattle.unit_laws.specs.Units.{Map, map_in, is_of, with_key, with_after_images, with_before_images, Represents, IsOrderly, is_free, all_undone, IsUndoGroup, UndoGroups, SerialsDiffer, moves_end, OneMovesEnd, end_is_free}

-- One of several branches changes a key that is free for it, and notes what it found: that key alone is set, and nothing is committed.
pub record Changed (h : History) (c : Change) (new : History) : Type 0 where
  pub records : records new ≡ records h
  pub current : (key : Key) → get (current new) key ≡ with_key (map_in (current h)) c.key c.after key
  pub orderly : IsOrderly new

abbrev pub ChangesOne : Type 0
ChangesOne = (h : History) (serial : Id) (c : Change) → IsOrderly h → ((key : Key) → is_of key c ≡ true → is_free serial h.live key ≡ true) → c.before ≡ get (current h) c.key
    → Changed h c (changed_with serial (c ∷ []) h)

-- It makes several changes, of which each noted what it found: these are applied, and nothing is committed.
pub record ChangedBy (h : History) (cs : List Change) (new : History) : Type 0 where
  pub records : records new ≡ records h
  pub current : (key : Key) → get (current new) key ≡ get (applied cs (current h)) key
  pub orderly : IsOrderly new

abbrev pub ChangesMore : Type 0
ChangesMore = (h : History) (serial : Id) (cs : List Change) → IsOrderly h → AllByRecursion (λ (c : Change). is_free serial h.live c.key ≡ true) cs → Found cs (current h)
    → ChangedBy h cs (changed_with serial cs h)

-- It is committed, and made these changes: all keys have what they had, and its latest after images are committed.
pub record Committed (h : History) (cs : List Change) (new : History) : Type 0 where
  pub records : (key : Key) → get (records new) key ≡ with_after_images cs (map_in (records h)) key
  pub current : (key : Key) → get (current new) key ≡ get (current h) key
  pub orderly : IsOrderly new

abbrev pub CommitsOne : Type 0
CommitsOne = (h : History) (serial : Id) (moment : ℕ) → IsOrderly h → Committed h (changes_by serial h.live) (settled_at serial Commit moment h)

-- It is aborted: what was committed stays; each key that it changed has again its earliest before image, and each other key what it had, also where another
-- branch changed it.
pub record Aborted (h : History) (cs : List Change) (new : History) : Type 0 where
  pub records : records new ≡ records h
  pub current : (key : Key) → get (current new) key ≡ with_before_images cs (map_in (current h)) key
  pub orderly : IsOrderly new

abbrev pub AbortsOne : Type 0
AbortsOne = (h : History) (serial : Id) (moment : ℕ) → IsOrderly h → Aborted h (changes_by serial h.live) (settled_at serial Abort moment h)

-- A file that represents what has been committed, in whatever part of the branches' changes is undone: after any number of groups of an undo, over any number
-- of restarts, each of which may be cut short, it still does; and where all branches are undone then, one after another in any order, there is what has been
-- committed.
pub record Restarted (ls : List LiveChanges) (n committed : Map) : Type 0 where
  pub represents : Represents ls n committed
  pub restored : (order : List LiveChanges) → IsPermutation ls order → (key : Key) → all_undone order n key ≡ committed key

abbrev pub RestartsRestore : Type 0
RestartsRestore = (ls : List LiveChanges) (m n committed : Map) → Represents ls m committed → UndoGroups ls m n → Restarted ls n committed

-- The before image of one change of one branch is put back: that is a group of an undo.
abbrev pub BeforeImageIsGroup : Type 0
BeforeImageIsGroup = (ls front back : List LiveChanges) (l : LiveChanges) (newer older : List Change) (c : Change) (m committed : Map) → Represents ls m committed → ls ≡ front ++ l ∷ back → l.changes ≡ newer ++ c ∷ older
    → IsUndoGroup ls m (with_key m c.key c.before)

-- One branch is undone whole and settled, whatever part of it was undone before: the file still represents what has been committed, while the others are
-- unsettled.
pub record UndoneOf (h : History) (m : Map) (cs : List Change) (new : History) : Type 0 where
  pub represents : Represents new.live (with_before_images cs m) (map_in (records new))
  pub records : records new ≡ records h

abbrev pub UndoesOne : Type 0
UndoesOne = (h : History) (serial : Id) (moment : ℕ) (m : Map) → Represents h.live m (map_in (records h)) → UndoneOf h m (changes_by serial h.live) (settled_at serial Abort moment h)

-- A branch changes more, and the end of a sequential file stays one branch's: where these changes move it, no other branch has moved it.
abbrev pub ChangesKeepEnd : Type 0
ChangesKeepEnd = (ls : List LiveChanges) (serial : Id) (cs : List Change) → SerialsDiffer ls → OneMovesEnd ls → (moves_end cs ≡ true → end_is_free serial ls ≡ true) → OneMovesEnd (with_changes serial cs ls)

-- and so it does where one is settled
abbrev pub SettlesKeepEnd : Type 0
SettlesKeepEnd = (ls : List LiveChanges) (serial : Id) → OneMovesEnd ls → OneMovesEnd (without serial ls)
