-- A table notes that a branch has changed something, where its unit has.
use Rattle.std.proofs.Common.{◌≡◌, ◌≤◌, ◌+◌, ◌*◌, ◌^◌, ℕ, suc, Bool, true, false, List, [], ◌∷◌, ◌++◌, Option, Some, None, ◌⊎◌, inl, inr, refl, ap, sym, subst, ◌∙◌, length, arith}
use Rattle.std.specs.Prelude.{if◌then◌else◌, is_some}
use Rattle.vms_model.specs.Ids.{Id}
use Rattle.records_model.specs.History.{same_id}
use Rattle.emitter_model.specs.commit_protocol.Agreement.{Distinct}
use Rattle.emitter_model.specs.commit_protocol.Allowed.{allowed, is_prepared}
use Rattle.emitter_model.specs.commit_protocol.Limits.{TmWithin}
use Rattle.emitter_model.specs.commit_protocol.Messages.{LogRecord, PreparedRecord}
use Rattle.emitter_model.specs.commit_protocol.Rows.{Changed}
use Rattle.emitter_model.specs.commit_protocol.Table.{Branch, Key, State, Joining, Active, Ending, Voting, Prepared, Tm, branch_serials, find, holding, prepared_record, prepared_records, prepared_state, record_serials, same_key}
use Rattle.emitter_model.specs.commit_protocol.World.{In}
use Rattle.emitter_model.proofs.commit_protocol.WithinRows.{keeps_limits}
use Rattle.world_laws.specs.log_laws.Slots.{LogTells, Slots}
use Rattle.node_table.specs.row_laws.May.{IsTold}
use Rattle.world_laws.specs.run_model.World.{find_branch, with_changed}
use Rattle.unit_table.specs.Units.{OpenUnit}
use Rattle.node_table.specs.recovery_units.State.{AreLater, AreOfBranches, IsLater, IsOfBranch, are_there, has_changed_by, unit_of}
use Rattle.node_table.specs.Growing.{groups_left}
use Rattle.node_table.specs.Standing.{AreInDoubt, NamesPrepared, unsettled_serials}
use Rattle.node_table.proofs.Branching.{told_serial}
use Rattle.node_table.proofs.Noting.{changed_after}
use Rattle.node_requests.specs.Requests.{noted, with_noted}

-- Branches that differ in that alone.

pub record IsAlike (b c : Branch) : Type 0 where
  pub key : c.key ≡ b.key
  pub state : c.state ≡ b.state
  pub managers : c.managers ≡ b.managers

abbrev pub AreAlike : List Branch → List Branch → Type 0
AreAlike [] [] = Unit {0}
AreAlike [] (c ∷ cs) = ⊥
AreAlike (b ∷ bs) [] = ⊥
AreAlike (b ∷ bs) (c ∷ cs) = IsAlike b c × AreAlike bs cs

alike_same : (bs : List Branch) → AreAlike bs bs
alike_same [] = tt
alike_same (b ∷ bs) = (record { key = refl; state = refl; managers = refl }, alike_same bs)

alike_changed : (s : Id) (bs : List Branch) → AreAlike bs (with_changed s bs)
alike_changed s [] = tt
alike_changed s (b ∷ bs) = go (same_id s b.key.serial) (alike_changed s bs)
  where
    go : (t : Bool) → AreAlike bs (with_changed s bs) → AreAlike (b ∷ bs) (if t then record b { changed = true } ∷ bs else b ∷ with_changed s bs)
    go true rest = (record { key = refl; state = refl; managers = refl }, alike_same bs)
    go false rest = (record { key = refl; state = refl; managers = refl }, rest)

pub alike_noted : (s : Id) (us : List OpenUnit) (bs : List Branch) → AreAlike bs (with_noted s us bs)
alike_noted s us bs = go (has_changed_by s us)
  where
    go : (t : Bool) → AreAlike bs (if t then with_changed s bs else bs)
    go true = alike_changed s bs
    go false = alike_same bs

serials_alike : (bs cs : List Branch) → AreAlike bs cs → branch_serials cs ≡ branch_serials bs
serials_alike [] [] h = refl
serials_alike [] (c ∷ cs) h = absurd h
serials_alike (b ∷ bs) [] h = absurd h
serials_alike (b ∷ bs) (c ∷ cs) h = λ i. (h.0.key i).serial ∷ serials_alike bs cs h.1 i

length_alike : (bs cs : List Branch) → AreAlike bs cs → length cs ≡ length bs
length_alike [] [] h = refl
length_alike [] (c ∷ cs) h = absurd h
length_alike (b ∷ bs) [] h = absurd h
length_alike (b ∷ bs) (c ∷ cs) h = ap suc (length_alike bs cs h.1)

records_alike : (bs cs : List Branch) → AreAlike bs cs → prepared_records cs ≡ prepared_records bs
records_alike [] [] h = refl
records_alike [] (c ∷ cs) h = absurd h
records_alike (b ∷ bs) [] h = absurd h
records_alike (b ∷ bs) (c ∷ cs) h = ap (λ z. prepared_state c z (prepared_records cs)) h.0.state ∙ go b.state (records_alike bs cs h.1)
  where
    go : (z : State) → prepared_records cs ≡ prepared_records bs → prepared_state c z (prepared_records cs) ≡ prepared_state b z (prepared_records bs)
    go Prepared rest = λ i. record { kind = PreparedRecord; tid = (h.0.key i).tid; serial = (h.0.key i).serial; waiting = []; rms = holding (h.0.managers i) } ∷ rest i
    go Joining rest = rest
    go Active rest = rest
    go Ending rest = rest
    go Voting rest = rest

found_alike : (k : Key) (bs cs : List Branch) → AreAlike bs cs → is_some (find k cs) ≡ is_some (find k bs)
found_alike k [] [] h = refl
found_alike k [] (c ∷ cs) h = absurd h
found_alike k (b ∷ bs) [] h = absurd h
found_alike k (b ∷ bs) (c ∷ cs) h = ap (λ (x : Key). is_some (if same_key x k then Some c else find k cs)) h.0.key ∙ go (same_key b.key k) (found_alike k bs cs h.1)
  where
    go : (t : Bool) → is_some (find k cs) ≡ is_some (find k bs) → is_some (if t then Some c else find k cs) ≡ is_some (if t then Some b else find k bs)
    go true rest = refl
    go false rest = rest

pub standing_alike : (ks : List Key) (bs cs : List Branch) → AreAlike bs cs → unsettled_serials ks cs ≡ unsettled_serials ks bs
standing_alike [] bs cs h = refl
standing_alike (k ∷ ks) bs cs h = λ i. if found_alike k bs cs h i then k.serial ∷ standing_alike ks bs cs h i else standing_alike ks bs cs h i

in_alike : (c : Branch) (bs cs : List Branch) → AreAlike bs cs → In c cs → (b : Branch) × In b bs × IsAlike b c
in_alike c [] [] h i = absurd i
in_alike c [] (d ∷ cs) h i = absurd h
in_alike c (b ∷ bs) [] h i = absurd h
in_alike c (b ∷ bs) (d ∷ cs) h i = elim i [
  | inl e ↦ (b, inl refl, subst (λ x. IsAlike b x) (sym e) h.0)
  | inr j ↦ (let r = in_alike c bs cs h.1 j in (r.0, inr r.1, r.2))
]

alike_in : (b : Branch) (bs cs : List Branch) → AreAlike bs cs → In b bs → (c : Branch) × In c cs × IsAlike b c
alike_in b [] [] h i = absurd i
alike_in b [] (d ∷ cs) h i = absurd h
alike_in b (d ∷ bs) [] h i = absurd h
alike_in b (d ∷ bs) (c ∷ cs) h i = elim i [
  | inl e ↦ (c, inl refl, subst (λ x. IsAlike x c) (sym e) h.0)
  | inr j ↦ (let r = alike_in b bs cs h.1 j in (r.0, inr r.1, r.2))
]

pub names_alike : (ks : List Key) (bs cs : List Branch) → AreAlike bs cs → NamesPrepared ks bs → NamesPrepared ks cs
names_alike ks bs cs h n = record {
  named = λ c i p. (let r = in_alike c bs cs h i in subst (λ k. In k ks) (sym r.2.key) (n.named r.0 r.1 (subst (λ z. is_prepared z ≡ true) r.2.state p)));
  prepared = λ c i k. (let r = in_alike c bs cs h i in subst (λ z. is_prepared z ≡ true) (sym r.2.state) (n.prepared r.0 r.1 (subst (λ x. In x ks) r.2.key k)));
}

pub doubt_alike : (serials : List Id) (bs cs : List Branch) → AreAlike bs cs → AreInDoubt serials bs → AreInDoubt serials cs
doubt_alike serials bs cs h d = record {
  apart = d.apart;
  prepared = λ s i. (
      let p = d.prepared s i in
      let r = alike_in p.0 bs cs h p.1 in
      (r.0, r.1, ap (λ (k : Key). k.serial) r.2.key ∙ p.2, subst (λ z. is_prepared z ≡ true) (sym r.2.state) p.3));
}

pub told_alike : (tm : Tm) (cs : List Branch) (ss : Slots) → AreAlike tm.table cs → IsTold tm ss → IsTold (record tm { table = cs }) ss
told_alike tm cs ss h t =
    let recs = records_alike tm.table cs h in
    let count = length_alike tm.table cs h in
    let room = t.room in
    record {
      tells = record {
        from = λ q i. subst (λ rs. In q rs ⊎ In q tm.records) (sym recs) (t.tells.from q i);
        prepared = λ q i. t.tells.prepared q (subst (λ rs. In q rs) recs i);
        committed = t.tells.committed;
        distinct = t.tells.distinct;
      };
      apart = subst (λ xs. Distinct (xs ++ record_serials tm.records)) (sym (serials_alike tm.table cs h)) t.apart;
      room = omega arith;
    }

-- the limits of a table that notes it
pub within_noted : (s : Id) (us : List OpenUnit) (tm : Tm) → allowed tm (Changed s) ≡ true → TmWithin tm → TmWithin (noted s us tm)
within_noted s us tm allows within = go (has_changed_by s us)
  where
    go : (t : Bool) → TmWithin (record tm { table = if t then with_changed s tm.table else tm.table })
    go true = subst TmWithin (changed_after tm s allows) (keeps_limits tm (Changed s) within allows)
    go false = within

-- The units behind what was done for a branch are those of the branches of such a table.

-- the unit of another branch is as it was
others_same : (s : Id) (us ws : List OpenUnit) (bs : List Branch) → AreLater s us ws → AreOfBranches us bs → (In s (branch_serials bs) → ⊥) → ws ≡ us
others_same s [] [] bs l h none = refl
others_same s [] (w ∷ ws) bs l h none = absurd l
others_same s (u ∷ us) [] bs l h none = absurd l
others_same s (u ∷ us) (w ∷ ws) [] l h none = absurd h
others_same s (u ∷ us) (w ∷ ws) (b ∷ bs) l h none = elim (told_serial s u.serial) [
  | inl t ↦ absurd (none (inl (t.1 ∙ sym h.0.serial)))
  | inr t ↦ (λ i. l.0.others t.0 i ∷ others_same s us ws bs l.1 h.1 (λ j. none (inr j)) i)
]

-- what the first unit tells of a branch
first_own : (s : Id) (w : OpenUnit) (ws : List OpenUnit) → same_id s w.serial ≡ true → has_changed_by s (w ∷ ws) ≡ are_there w.positions
first_own s w ws e = ap (λ (t : Bool). elim (if t then Some w else unit_of s ws) [ Some u ↦ are_there u.positions | None ↦ false ]) e

first_other : (s : Id) (w : OpenUnit) (ws : List OpenUnit) → same_id s w.serial ≡ false → has_changed_by s (w ∷ ws) ≡ has_changed_by s ws
first_other s w ws e = ap (λ (t : Bool). elim (if t then Some w else unit_of s ws) [ Some u ↦ are_there u.positions | None ↦ false ]) e

none_before : (xs ys : List ℕ) → are_there (xs ++ ys) ≡ false → are_there xs ≡ false
none_before [] ys e = refl
none_before (x ∷ xs) ys e = absurd (let f : true ≡ false = e in let no : ⊥ = cc in no)

own_later : (u w : OpenUnit) (b : Branch) (s : Id) (rest : List Branch) (ws : List OpenUnit) → IsLater s u w → IsOfBranch u b → AreOfBranches ws rest → (t : Bool) → are_there w.positions ≡ t → AreOfBranches (w ∷ ws) (if t then record b { changed = true } ∷ rest else b ∷ rest)
own_later u w b s rest ws l h k true e = (record { tid = h.tid ∙ sym l.tid; serial = h.serial ∙ sym l.serial_is; prepared = h.prepared ∙ sym l.prepared; changed = λ _. sym e }, k)
own_later u w b s rest ws l h k false e =
    let none : are_there u.positions ≡ false = none_before u.positions l.own.0 (subst (λ ps. are_there ps ≡ false) l.own.1 e) in
    (record { tid = h.tid ∙ sym l.tid; serial = h.serial ∙ sym l.serial_is; prepared = h.prepared ∙ sym l.prepared; changed = λ p. h.changed (sym l.prepared ∙ p) ∙ none ∙ sym e }, k)

other_later : (w : OpenUnit) (b : Branch) (s : Id) (bs : List Branch) (ws : List OpenUnit) → IsOfBranch w b → (t : Bool) → AreOfBranches ws (if t then with_changed s bs else bs) → AreOfBranches (w ∷ ws) (if t then b ∷ with_changed s bs else b ∷ bs)
other_later w b s bs ws h true k = (h, k)
other_later w b s bs ws h false k = (h, k)

pub later_branches : (s : Id) (us ws : List OpenUnit) (bs : List Branch) → AreLater s us ws → AreOfBranches us bs → Distinct (branch_serials bs) → AreOfBranches ws (with_noted s ws bs)
later_branches s [] [] [] l h d = tt
later_branches s [] [] (b ∷ bs) l h d = absurd h
later_branches s [] (w ∷ ws) bs l h d = absurd l
later_branches s (u ∷ us) [] bs l h d = absurd l
later_branches s (u ∷ us) (w ∷ ws) [] l h d = absurd h
later_branches s (u ∷ us) (w ∷ ws) (b ∷ bs) l h d = elim (told_serial s u.serial) [
  | inl t ↦
      let same_w : same_id s w.serial ≡ true = subst (λ x. same_id s x ≡ true) (sym l.0.serial_is) t.0 in
      let same_b : same_id s b.key.serial ≡ true = subst (λ x. same_id s x ≡ true) (sym h.0.serial) t.0 in
      let none : In s (branch_serials bs) → ⊥ = λ i. d.0 (subst (λ x. In x (branch_serials bs)) (t.1 ∙ sym h.0.serial) i) in
      let rest : AreOfBranches ws bs = subst (λ xs. AreOfBranches xs bs) (sym (others_same s us ws bs l.1 h.1 none)) h.1 in
      subst (λ (t : Bool). AreOfBranches (w ∷ ws) (if t then with_changed s (b ∷ bs) else b ∷ bs)) (sym (first_own s w ws same_w)) (rw (same_b) (own_later u w b s bs ws l.0 h.0 rest (are_there w.positions) refl))
  | inr t ↦
      let is : w ≡ u = l.0.others t.0 in
      let other_w : same_id s w.serial ≡ false = subst (λ x. same_id s x ≡ false) (sym l.0.serial_is) t.0 in
      let other_b : same_id s b.key.serial ≡ false = subst (λ x. same_id s x ≡ false) (sym h.0.serial) t.0 in
      subst (λ (t : Bool). AreOfBranches (w ∷ ws) (if t then with_changed s (b ∷ bs) else b ∷ bs)) (sym (first_other s w ws other_w)) (rw (other_b) (other_later w b s bs ws (subst (λ x. IsOfBranch x b) (sym is) h.0) (has_changed_by s ws) (later_branches s us ws bs l.1 h.1 d.1)))
]

-- numbers that units let grow
pub later_groups : (s : Id) (us ws : List OpenUnit) → AreLater s us ws → (length ws ≡ length us) × (groups_left ws ≡ groups_left us)
later_groups s [] [] l = (refl, refl)
later_groups s [] (w ∷ ws) l = absurd l
later_groups s (u ∷ us) [] l = absurd l
later_groups s (u ∷ us) (w ∷ ws) l = let r = later_groups s us ws l.1 in (ap suc r.0, λ i. (if l.0.prepared i then 1 else 2) + r.1 i)

-- In the world a branch that is not prepared is noted just where its unit has changed something.

-- nothing more is to be noted
if_changed : (c : Branch) (rest : List Branch) (t : Bool) → c.changed ≡ t → ◌≡◌ {A = List Branch} (if t then record c { changed = true } ∷ rest else c ∷ rest) (c ∷ rest)
if_changed c rest true e = λ i. record c { changed = sym e i } ∷ rest
if_changed c rest false e = refl

behind_first : (c : Branch) (s : Id) (cs : List Branch) (t : Bool) → ◌≡◌ {A = List Branch} (if t then c ∷ with_changed s cs else c ∷ cs) (c ∷ (if t then with_changed s cs else cs))
behind_first c s cs true = refl
behind_first c s cs false = refl

pub noted_same : (s : Id) (ws : List OpenUnit) (cs : List Branch) (o : Branch) → AreOfBranches ws cs → find_branch s cs ≡ Some o → is_prepared o.state ≡ false → with_noted s ws cs ≡ cs
noted_same s [] [] o h f p = refl
noted_same s [] (c ∷ cs) o h f p = absurd h
noted_same s (w ∷ ws) [] o h f p = absurd h
noted_same s (w ∷ ws) (c ∷ cs) o h f p = elim (told_serial s c.key.serial) [
  | inl t ↦
      let same_w : same_id s w.serial ≡ true = subst (λ x. same_id s x ≡ true) h.0.serial t.0 in
      let f' : Some c ≡ Some o = rw (t.0) at f in
      let is : c ≡ o = cc in
      let active : w.prepared ≡ false = sym h.0.prepared ∙ subst (λ (x : Branch). is_prepared x.state ≡ false) (sym is) p in
      ap (λ (z : Bool). if z then with_changed s (c ∷ cs) else c ∷ cs) (first_own s w ws same_w) ∙ first_same c cs (are_there w.positions) (h.0.changed active) t.0
  | inr t ↦
      let other_w : same_id s w.serial ≡ false = subst (λ x. same_id s x ≡ false) h.0.serial t.0 in
      let f' : find_branch s cs ≡ Some o = rw (t.0) at f in
      ap (λ (z : Bool). if z then with_changed s (c ∷ cs) else c ∷ cs) (first_other s w ws other_w) ∙ other_first c cs (has_changed_by s ws) t.0 ∙ ap (λ (xs : List Branch). c ∷ xs) (noted_same s ws cs o h.1 f' p)
]
  where
    with_first : (x : Branch) (xs : List Branch) → same_id s x.key.serial ≡ true → with_changed s (x ∷ xs) ≡ record x { changed = true } ∷ xs
    with_first x xs same = rw same refl

    with_other : (x : Branch) (xs : List Branch) → same_id s x.key.serial ≡ false → with_changed s (x ∷ xs) ≡ x ∷ with_changed s xs
    with_other x xs other = rw other refl

    first_same : (x : Branch) (xs : List Branch) (z : Bool) → x.changed ≡ z → same_id s x.key.serial ≡ true → ◌≡◌ {A = List Branch} (if z then with_changed s (x ∷ xs) else x ∷ xs) (x ∷ xs)
    first_same x xs z e same = ap (λ (ys : List Branch). if z then ys else x ∷ xs) (with_first x xs same) ∙ if_changed x xs z e

    other_first : (x : Branch) (xs : List Branch) (z : Bool) → same_id s x.key.serial ≡ false → ◌≡◌ {A = List Branch} (if z then with_changed s (x ∷ xs) else x ∷ xs) (x ∷ (if z then with_changed s xs else xs))
    other_first x xs z other = ap (λ (ys : List Branch). if z then ys else x ∷ xs) (with_other x xs other) ∙ behind_first x s xs z

-- it has, where the world says so
pub has_noted : (s : Id) (ws : List OpenUnit) (bs : List Branch) (o : Branch) → AreOfBranches ws (with_changed s bs) → find_branch s bs ≡ Some o → is_prepared o.state ≡ false → has_changed_by s ws ≡ true
has_noted s ws [] o h f p = absurd (let g : None ≡ Some o = f in let no : ⊥ = cc in no)
has_noted s ws (b ∷ bs) o h f p = elim (told_serial s b.key.serial) [
  | inl t ↦
      let f' : Some b ≡ Some o = rw (t.0) at f in
      let is : b ≡ o = cc in
      let h' : AreOfBranches ws (record b { changed = true } ∷ bs) = rw (t.0) at h in
      first ws (record b { changed = true }) bs h' t.0 refl (subst (λ (x : Branch). is_prepared x.state ≡ false) (sym is) p)
  | inr t ↦
      let f' : find_branch s bs ≡ Some o = rw (t.0) at f in
      let h' : AreOfBranches ws (b ∷ with_changed s bs) = rw (t.0) at h in
      more ws h' t.0 (λ xs k. has_noted s xs bs o k f' p)
]
  where
    first : (xs : List OpenUnit) (c : Branch) (rest : List Branch) → AreOfBranches xs (c ∷ rest) → same_id s c.key.serial ≡ true → c.changed ≡ true → is_prepared c.state ≡ false → has_changed_by s xs ≡ true
    first [] c rest k same changed active = absurd k
    first (w ∷ xs) c rest k same changed active =
        let same_w : same_id s w.serial ≡ true = subst (λ x. same_id s x ≡ true) k.0.serial same in
        first_own s w xs same_w ∙ sym (k.0.changed (sym k.0.prepared ∙ active)) ∙ changed

    more : (xs : List OpenUnit) → AreOfBranches xs (b ∷ with_changed s bs) → same_id s b.key.serial ≡ false → ((ys : List OpenUnit) → AreOfBranches ys (with_changed s bs) → has_changed_by s ys ≡ true) → has_changed_by s xs ≡ true
    more [] k other rest = absurd k
    more (w ∷ xs) k other rest =
        let other_w : same_id s w.serial ≡ false = subst (λ x. same_id s x ≡ false) k.0.serial other in
        first_other s w xs other_w ∙ rest xs k.1

pub noted_changed : (s : Id) (ws : List OpenUnit) (bs : List Branch) (o : Branch) → AreOfBranches ws (with_changed s bs) → find_branch s bs ≡ Some o → is_prepared o.state ≡ false → with_noted s ws bs ≡ with_changed s bs
noted_changed s ws bs o h f p = ap (λ (t : Bool). if t then with_changed s bs else bs) (has_noted s ws bs o h f p)
