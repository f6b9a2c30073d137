-- A branch that has changed something does not leave as read-only: what is known of the branches of a node while it is up.
use Rattle.std.proofs.Common.{◌≡◌, ℕ, ◌⊎◌, List, [], ◌∷◌, ◌++◌, inl, inr, map, Bool, true, false, Option, Some, None, if◌then◌else◌, refl, sym, ◌∙◌, ap, subst}
use Rattle.std.specs.List.{AllByRecursion}
use Rattle.std.specs.Str.{bytes_eq}
use Rattle.std.proofs.lemmas.Bool.{both_ways}
use Rattle.std.proofs.lemmas.Slice.Eq.{bytes_eq-Decides}
use Rattle.vms_model.specs.Ids.{Id}
use Rattle.run_said.specs.transcript_model.Lines as line
use Rattle.run_said.specs.transcript_model.Lines.{Line, Cause}
use Rattle.run_said.specs.script_model.Statements.{Request, StartTrans, StartBranch, Clock}
use Rattle.unit_laws.specs.records_model.History.{same_id}
use Rattle.commit_protocol.specs.Table as table
use Rattle.commit_protocol.specs.Table.{Branch, Child, Prepared, Key as BranchKey, child, table_after}
use Rattle.commit_protocol.specs.Allowed.{is_prepared}
use Rattle.commit_protocol.specs.World.{In}
use Rattle.run_said.specs.run_model.World as world
use Rattle.run_said.specs.run_model.World.{Shared, Node, Act, Tables, acted, booted, prepared_left, with_changed}
use Rattle.run_said.specs.run_model.Answers.{Row, Task, Serves, last_lines, powers, prepared_line, task_service}
use Rattle.run_said.specs.run_model.Steps.{Choice, TaskAllowed, node_after, task_effect}
use Rattle.recovery_laws.proofs.world_laws.BootLemmas.{branch_in}
use Rattle.recovery_laws.proofs.world_laws.TableLemmas.{found_in}
use Rattle.run_laws.proofs.Contents.{ArePutting, PutsIn, TaskAccepts, TaskNotes, begins_none, task_putting}
use Rattle.run_laws.proofs.EachRow.{AreVoteless, VotesSo, is_voteless}
use Rattle.run_laws.proofs.FallsBegun.{with_fall}
use Rattle.run_laws.proofs.Keeping.{AllTake, Keeps, Kept, Scheme, any_effect, down_effect, is_special}
use Rattle.run_laws.proofs.Moving.{in_cut, in_put}
use Rattle.run_laws.proofs.RowFits.{Fits, RowFits, lasts_voteless}
use Rattle.run_laws.proofs.SoundWorlds.{IsSoundNode, Tracks, unused}
use Rattle.run_laws.proofs.VoteOwners.{voter_in, vote_owns}

-- The branches of a node that a line shows to have left as read-only.

abbrev left_of : List ℕ → (tid serial : Id) → Option BranchKey
left_of node tid serial = if bytes_eq serial.node node then Some (child tid serial) else None

abbrev pub left_in : List ℕ → Line → Option BranchKey
left_in node (line.ReadOnly tid serial) = left_of node tid serial
left_in node _ = None

abbrev pub lefts_on : List ℕ → List Line → List BranchKey → List BranchKey
lefts_on node [] ks = ks
lefts_on node (l ∷ ls) ks = lefts_on node ls (with_fall (left_in node l) ks)

lefts_append : (node : List ℕ) (xs ys : List Line) (ks : List BranchKey) → lefts_on node (xs ++ ys) ks ≡ lefts_on node ys (lefts_on node xs ks)
lefts_append node [] ys ks = refl
lefts_append node (x ∷ xs) ys ks = lefts_append node xs ys (with_fall (left_in node x) ks)

voteless_left : (node : List ℕ) (l : Line) → is_voteless l ≡ true → left_in node l ≡ None
voteless_left node (line.ReadOnly tid serial) h = let no : ⊥ = cc in absurd no
voteless_left node _ h = refl

pub lefts_none : (node : List ℕ) (ls : List Line) (ks : List BranchKey) → AreVoteless ls → lefts_on node ls ks ≡ ks
lefts_none node [] ks h = refl
lefts_none node (l ∷ ls) ks h = ap (λ o. lefts_on node ls (with_fall o ks)) (voteless_left node l h.0) ∙ lefts_none node ls ks h.1

prepared_left_none : (node : List ℕ) (bs : List Branch) (ks : List BranchKey) → lefts_on node (map prepared_line bs) ks ≡ ks
prepared_left_none node [] ks = refl
prepared_left_none node (b ∷ bs) ks = prepared_left_none node bs ks

-- A request by which a branch begins.
abbrev pub is_beginning : Request → Bool
is_beginning (StartTrans label seconds) = true
is_beginning (StartBranch label) = true
is_beginning _ = false

-- a branch of those of which one was changed
changed_in : (serial : Id) (bs : List Branch) (x : Branch) → In x (with_changed serial bs) → In x bs ⊎ (x.changed ≡ true)
changed_in serial [] x i = absurd i
changed_in serial (b ∷ bs) x i = go (same_id serial b.key.serial) i (changed_in serial bs x)
  where
    go : (t : Bool) → In x (if t then record b { changed = true } ∷ bs else b ∷ with_changed serial bs) → (In x (with_changed serial bs) → In x bs ⊎ (x.changed ≡ true)) → In x (b ∷ bs) ⊎ (x.changed ≡ true)
    go true (inl same) more = inr (ap (λ (y : Branch). y.changed) same)
    go true (inr j) more = inl (inr j)
    go false (inl same) more = inl (inl same)
    go false (inr j) more = elim (more j) [ inl k ↦ inl (inr k) | inr c ↦ inr c ]

module _ (node : List ℕ) (K : BranchKey → Type 0) where
  abbrev pub NoneOf : List BranchKey → Type 0
  NoneOf ks = AllByRecursion (λ (k : BranchKey). K k → ⊥) ks

  -- each of these branches that is not prepared has changed something
  abbrev pub HaveChanged : List Branch → Type 0
  HaveChanged bs = (b : Branch) → In b bs → is_prepared b.state ≡ false → K b.key → b.changed ≡ true

  abbrev ArePrepared : Node → Type 0
  ArePrepared n = (b : Branch) → In b n.volatile.branches → is_prepared b.state ≡ true

  abbrev IsNoted : Branch → Type 0
  IsNoted b = is_prepared b.state ≡ false → K b.key → b.changed ≡ true

  abbrev NotesChanged : Option Act → Type 0
  NotesChanged (Some (Tables (table.Notes b) moment)) = IsNoted b
  NotesChanged (Some (Tables (table.Accepts b c) moment)) = IsNoted b
  NotesChanged _ = Unit {0}

  abbrev pub leaving : Scheme
  leaving = record {
    Told = List BranchKey;
    more = lefts_on node;
    Up = λ free ks n. NoneOf ks × HaveChanged n.volatile.branches;
    Disk = λ ks n. NoneOf ks;
    Boots = λ ks n. NoneOf ks × ArePrepared n;
    Ready = λ n. Unit {0};
    Takes = NotesChanged;
    special = is_beginning;
  }

  none_told : (ls : List Line) (ks : List BranchKey) → AreVoteless ls → NoneOf ks → NoneOf (lefts_on node ls ks)
  none_told ls ks none h = subst NoneOf (sym (lefts_none node ls ks none)) h

  row_told : (free : Bool) (r : Row) (n : Node) (ks : List BranchKey) → RowFits free r n → HaveChanged n.volatile.branches → NoneOf ks → NoneOf (lefts_on node r.lines ks)
  row_told free r n ks f known h = go r.act f.fits f.votes
    where
      one : (k : BranchKey) (t : Bool) → (K k → ⊥) → NoneOf (with_fall (if t then Some k else None) ks)
      one k true never = (never, h)
      one k false never = h

      tabled : (a : table.Act) (moment : ℕ) → Fits free (Some (Tables a moment)) n → VotesSo (Some (Tables a moment)) r.lines → NoneOf (lefts_on node r.lines ks)
      tabled (table.Prepares b) moment g t = subst (λ ls. NoneOf (lefts_on node ls ks)) (sym t) h
      tabled (table.Leaves k) moment g t = elim g.stands [
        | inl st ↦ subst (λ ls. NoneOf (lefts_on node ls ks)) (sym t) (one k (bytes_eq k.serial.node node) (λ is. both_ways st.branch.changed st.unchanged
            (known st.branch (found_in k n.volatile.branches st.branch st.there) st.unprepared (subst K (sym (Rattle.commit_protocol.proofs.Lists.find-key k n.volatile.branches st.branch st.there)) is))))
        | inr none ↦ absurd none
      ]
      tabled (table.Accepts b c) moment g t = subst (λ ls. NoneOf (lefts_on node ls ks)) (sym t) h
      tabled _ moment g t = none_told r.lines ks t h

      go : (o : Option Act) → Fits free o n → VotesSo o r.lines → NoneOf (lefts_on node r.lines ks)
      go None g t = none_told r.lines ks t h
      go (Some (Tables a moment)) g t = tabled a moment g t
      go (Some _) g t = none_told r.lines ks t h

  row_changed : (free : Bool) (o : Option Act) (n : Node) → NotesChanged o → Fits free o n → HaveChanged n.volatile.branches → HaveChanged (node_after o n).volatile.branches
  row_changed free None n q f h = h
  row_changed free (Some (Tables a moment)) n q f h = go a q
    where
      put_changed : (b x : Branch) → IsNoted b → In x (table.put b n.volatile.branches) → is_prepared x.state ≡ false → K x.key → x.changed ≡ true
      put_changed b x noted i u k = elim (in_put b x n.volatile.branches i) [
        | inl same ↦ ap (λ (y : Branch). y.changed) same ∙ noted (ap (λ (y : Branch). is_prepared y.state) (sym same) ∙ u) (subst K (ap (λ (y : Branch). y.key) same) k)
        | inr j ↦ h x j u k
      ]

      go : (a : table.Act) → NotesChanged (Some (Tables a moment)) → HaveChanged (table_after a n.volatile.branches)
      go (table.Notes b) p x i u k = put_changed b x p i u k
      go (table.Accepts b c) p x i u k = put_changed (record b { accepted = b.accepted ++ c ∷ [] }) x p i u k
      go (table.Prepares b) p x i u k = put_changed (record b { state = Prepared }) x (λ v w. let no : ⊥ = cc in absurd no) i u k
      go (table.Settles j o reason r) p x i u k = h x (in_cut j x n.volatile.branches i) u k
      go (table.Leaves j) p x i u k = h x (in_cut j x n.volatile.branches i) u k
      go (table.Undoes j) p x i u k = h x (in_cut j x n.volatile.branches i) u k
      go _ p x i u k = h x i u k
  row_changed free (Some (world.Changes tid serial file cs keys)) n q f h = λ x i u k. elim (changed_in serial n.volatile.branches x i) [ inl j ↦ h x j u k | inr c ↦ c ]
  row_changed free (Some world.Boots) n q f h = absurd f
  row_changed free (Some _) n q f h = h

  pub leaving_keeps : Keeps leaving
  leaving_keeps = record {
    none = λ a. refl;
    append = lefts_append node;
    plain = λ ls a h v. lefts_none node ls a v;
    same = λ a n m name durable settled h. h;
    row = λ free r n a q f up h. (row_told free r n a f h.1 h.0, row_changed free r.act n q f.fits h.1);
    under = λ free r n a act q f is d up h. h.0;
    falls = λ free a n up h. h.0;
    weaken = λ free a n h. h;
    half = λ a n standing k ready may h. h;
    spoils = λ a n h. h;
    boots = λ a n k h. (none_told (last_lines n) a (lasts_voteless n) h, λ b i. let r = branch_in (prepared_left n.durable) b i in ap (λ (c : Branch). is_prepared c.state) r.2);
    booting = λ a n k h. h;
    undoes = λ a n u next h. (h.0, λ b i. h.1 b (in_cut _ b n.volatile.branches i));
    undoing = λ a n u next h. h.0;
    rests = λ a n k h. h.0;
    none_ready = λ n e. tt;
    same_ready = λ n m e h. tt;
    closes = λ a n m log up h. (subst NoneOf (sym (prepared_left_none node (booted n.durable).branches a)) h.0, h.1);
    comes = λ a n up h closed. (h.0, λ b i u k. absurd (both_ways (is_prepared b.state) u (h.1 b i)));
  }

  -- Rows that it takes.

  old_noted : (s : Shared) (n : Node) (t : Task) → HaveChanged n.volatile.branches → (r : Row) → PutsIn (TaskNotes s n t) (TaskAccepts s n t) r.act r.lines → NotesChanged r.act
  old_noted s n t known r h = go r.act h
    where
      go : (o : Option Act) → PutsIn (TaskNotes s n t) (TaskAccepts s n t) o r.lines → NotesChanged o
      go (Some (Tables (table.Notes b) moment)) p = λ u k. let d = p.2 in d.3.changed ∙ known d.0 d.1 d.2 (subst K d.3.key k)
      go (Some (Tables (table.Accepts b c) moment)) p = λ u k. let a = p.0.2 in known b a.0 a.1 k
      go (Some (Tables _ moment)) p = tt
      go (Some _) p = tt
      go None p = tt

  all_noted : (s : Shared) (n : Node) (t : Task) → HaveChanged n.volatile.branches → (rs : List Row) → ArePutting (TaskNotes s n t) (TaskAccepts s n t) rs → AllTake leaving rs
  all_noted s n t known [] h = tt
  all_noted s n t known (r ∷ rs) h = (old_noted s n t known r h.0, all_noted s n t known rs h.1)

  takes : (s : Shared) (n : Node) (t : Task) → is_special leaving t ≡ false → HaveChanged n.volatile.branches → AllTake leaving ((task_service t).rows s n)
  takes s n t plain known = go t plain
    where
      of_old : (t : Task) → begins_none t ≡ true → AllTake leaving ((task_service t).rows s n)
      of_old t begins = all_noted s n t known ((task_service t).rows s n) (task_putting s n t begins)

      go : (t : Task) → is_special leaving t ≡ false → AllTake leaving ((task_service t).rows s n)
      go (Serves (StartTrans label seconds)) p = let no : ⊥ = cc in absurd no
      go (Serves (StartBranch label)) p = let no : ⊥ = cc in absurd no
      go (Serves (Clock now)) p = (tt, tt)
      go (Serves r) p = of_old (Serves r) refl
      go t p = of_old t refl

  -- a task of which this is said of its rows
  pub leaving_effect : (a : List BranchKey) (s : Shared) (stops : ℕ) (n : Node) (task : Task) (c : Choice) (rises : Cause → Type 0) → IsSoundNode s n → (HaveChanged n.volatile.branches → AllTake leaving ((task_service task).rows s n)) → TaskAllowed s stops n task rises c → Kept leaving leaving_keeps a n →
      Kept leaving leaving_keeps (lefts_on node (task_effect s stops n task c).lines a) (task_effect s stops n task c).node
  leaving_effect a s stops n task c rises sound takes_all may h = by_task n.up refl (powers (task_service task)) refl
    where
      by_task : (up : Bool) → n.up ≡ up → (on : Bool) → powers (task_service task) ≡ on → Kept leaving leaving_keeps (lefts_on node (task_effect s stops n task c).lines a) (task_effect s stops n task c).node
      by_task true up on power = any_effect leaving leaving_keeps s stops n a sound.kept h (unused s n sound) (λ off slots journal m none. h.disk) task (λ off. takes_all (h.runs up).1) (λ e. tt) c rises may
      by_task false down true on = any_effect leaving leaving_keeps s stops n a sound.kept h (unused s n sound) (λ off slots journal m none. h.disk) task (λ off. absurd (both_ways (powers (task_service task)) off on)) (λ e. tt) c rises may
      by_task false down false off = down_effect leaving leaving_keeps s stops n task a sound.kept h off down c rises may

  foreign : (ls : List Line) (ks : List BranchKey) → ((l : Line) (id : Id) → In l ls → voter_in l ≡ Some id → id.node ≡ node → ⊥) → lefts_on node ls ks ≡ ks
  foreign [] ks h = refl
  foreign (l ∷ ls) ks h = ap (λ o. lefts_on node ls (with_fall o ks)) (one l (λ id e own. h l id (inl refl) e own)) ∙ foreign ls ks (λ x id i. h x id (inr i))
    where
      one : (l : Line) → ((id : Id) → voter_in l ≡ Some id → id.node ≡ node → ⊥) → left_in node l ≡ None
      one (line.ReadOnly tid serial) g = other (bytes_eq serial.node node) refl
        where
          other : (b : Bool) → bytes_eq serial.node node ≡ b → ◌≡◌ {A = Option BranchKey} (if b then Some (child tid serial) else None) None
          other true e = absurd (g serial refl ((bytes_eq-Decides serial.node node).0 e))
          other false e = refl
      one _ g = refl

  pub leaving_tracks : Tracks leaving leaving_keeps node
  leaving_tracks = record {
    own = λ a s stops n task c rises named sound plain ready may h. leaving_effect a s stops n task c rises sound (λ known. takes s n task plain known) may h;
    beside = λ a s stops n m task c rises other sound may h. subst (λ ks. Kept leaving leaving_keeps ks n)
        (sym (foreign (task_effect s stops m task c).lines a (λ l id i e own. other (sym (vote_owns s stops m task c rises sound may l id i e) ∙ own)))) h;
  }
