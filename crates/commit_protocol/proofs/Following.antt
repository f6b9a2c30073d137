-- The steps of the world are those of a node's table, and a restarted node knows the records of its log.
use Rattle.std.proofs.lemmas.Bool.{cases_Bool}
use Rattle.std.specs.Prelude.{if◌then◌else◌}
use Rattle.std.proofs.Common.{◌≡◌, ◌≢◌, true, List, [], ◌∷◌, ◌++◌, Option, Some, None, inl, inr, refl, ap, sym, subst, ◌∙◌}
use Rattle.commit_protocol.specs.Messages.{Name, LogRecord}
use Rattle.commit_protocol.specs.Table.{Key, Branch, State, Joining, Active, Ending, Voting, Prepared, Act, Notes, Accepts, Prepares, Settles, Leaves, Acknowledges, Releases, Undoes, Sends, Prints, Tm, after_act, after, restarted, same_key, find, cut, record_key, branch_of, branches_of}
use Rattle.commit_protocol.specs.World.{Node, World, In, node_after, touched, acts, acts_all, tm_at, Step, run, arranged, arranged_by, units_in_order, undo_all, undoes_lost, raised_node, raised, may_boot, boots}
use Rattle.commit_protocol.specs.Agreement.{Gone, phase_of, phase, view}
use Rattle.commit_protocol.specs.Rows.{up}
use Rattle.commit_protocol.proofs.Lists.{told_key, same_key-refl}
use Rattle.commit_protocol.proofs.Bridge.{node_same, node_other}
use Rattle.commit_protocol.proofs.Restarts.{find-arranged}
use Rattle.commit_protocol.proofs.Gathered.{is_shown}
use Rattle.commit_protocol.proofs.Running.{goes_run}
use Rattle.commit_protocol.proofs.Opened.{good_opened}
use Rattle.commit_protocol.proofs.Acting.{in_order, Good}
use Rattle.commit_protocol.specs.Opening.{Opening, DistinctKeys, IsAgreeing, record_keys, opened}

-- an act at a node, and all acts, are those of its table
tm_act : (n : Name) (a : Act) (w : World) → tm_at (acts n a w) n ≡ after_act a (tm_at w n)
tm_act n a w = go a
  where
    at : (a : Act) → (let x = touched n a w.nodes n in let t : Tm = record { node = n; table = x.table; records = x.records } in t) ≡ after_act a (tm_at w n)
    at a = ap (λ (x : Node). (let t : Tm = record { node = n; table = x.table; records = x.records } in t)) (node_same n (node_after a (w.nodes n)) w.nodes)

    go : (a : Act) → tm_at (acts n a w) n ≡ after_act a (tm_at w n)
    go (Notes b) = at (Notes b)
    go (Accepts b c) = at (Accepts b c)
    go (Prepares b) = at (Prepares b)
    go (Settles k o why r) = at (Settles k o why r)
    go (Leaves k) = at (Leaves k)
    go (Acknowledges k) = at (Acknowledges k)
    go (Releases s x) = at (Releases s x)
    go (Undoes k) = at (Undoes k)
    go (Sends m) = refl
    go (Prints l) = refl

pub tables_follow : (w : World) (n : Name) (todo : List Act) → tm_at (acts_all n todo w) n ≡ after todo (tm_at w n)
tables_follow w n [] = refl
tables_follow w n (a ∷ todo) = tables_follow (acts n a w) n todo ∙ ap (after todo) (tm_act n a w)

other_act : (n m : Name) (a : Act) (w : World) → (m ≡ n → ⊥) → (acts n a w).nodes m ≡ w.nodes m
other_act n m a w ne = go a
  where
    at : (a : Act) → touched n a w.nodes m ≡ w.nodes m
    at a = node_other n (node_after a (w.nodes n)) w.nodes m ne

    go : (a : Act) → (acts n a w).nodes m ≡ w.nodes m
    go (Notes b) = at (Notes b)
    go (Accepts b c) = at (Accepts b c)
    go (Prepares b) = at (Prepares b)
    go (Settles k o why r) = at (Settles k o why r)
    go (Leaves k) = at (Leaves k)
    go (Acknowledges k) = at (Acknowledges k)
    go (Releases s x) = at (Releases s x)
    go (Undoes k) = at (Undoes k)
    go (Sends m) = refl
    go (Prints l) = refl

pub others_stay : (w : World) (n m : Name) (todo : List Act) → (m ≡ n → ⊥) → (acts_all n todo w).nodes m ≡ w.nodes m
others_stay w n m [] ne = refl
others_stay w n m (a ∷ todo) ne = others_stay (acts n a w) n m todo ne ∙ other_act n m a w ne

-- the same records of distinct branches, in another order
pub record Rearranged (ps qs : List LogRecord) : Type 0 where
  pub distinct : DistinctKeys ps
  pub distinct_before : DistinctKeys qs
  pub there : (r : LogRecord) → In r ps → In r qs
  pub back : (r : LogRecord) → In r qs → In r ps

abbrev cut_records : Key → List LogRecord → List LogRecord
cut_records k [] = []
cut_records k (r ∷ rs) = if same_key (record_key r) k then cut_records k rs else r ∷ cut_records k rs

cut_branches : (k : Key) (rs : List LogRecord) → cut k (branches_of rs) ≡ branches_of (cut_records k rs)
cut_branches k [] = refl
cut_branches k (r ∷ rs) =
    elim (cases_Bool (same_key (record_key r) k)) [
      | inl e ↦ rw e (cut_branches k rs)
      | inr e ↦ rw e (ap (λ (bs : List Branch). branch_of r ∷ bs) (cut_branches k rs))
    ]

in_cut_records : (k : Key) (rs : List LogRecord) (r : LogRecord) → In r (cut_records k rs) → In r rs × (record_key r ≢ k)
in_cut_records k [] r h = absurd h
in_cut_records k (q ∷ rs) r h =
    elim (told_key (record_key q) k) [
      | inl e ↦ let h' : In r (cut_records k rs) = rw (e.0) at h in let z = in_cut_records k rs r h' in (inr z.0, z.1)
      | inr e ↦ let h' : In r (q ∷ cut_records k rs) = rw (e.0) at h in elim h' [
        | inl z ↦ (inl z, λ y. e.1 (ap record_key (sym z) ∙ y))
        | inr z ↦ let y = in_cut_records k rs r z in (inr y.0, y.1)
      ]
    ]

cut_records_in : (k : Key) (rs : List LogRecord) (r : LogRecord) → In r rs → record_key r ≢ k → In r (cut_records k rs)
cut_records_in k [] r h ne = h
cut_records_in k (q ∷ rs) r h ne =
    elim (told_key (record_key q) k) [
      | inl e ↦ rw (e.0) (elim h [ inl z ↦ absurd (ne (ap record_key z ∙ e.1)) | inr z ↦ cut_records_in k rs r z ne ])
      | inr e ↦ rw (e.0) (elim h [ inl z ↦ inl z | inr z ↦ inr (cut_records_in k rs r z ne) ])
    ]

distinct_cut : (k : Key) (rs : List LogRecord) → DistinctKeys rs → DistinctKeys (cut_records k rs)
distinct_cut k [] d = tt
distinct_cut k (r ∷ rs) d =
    elim (cases_Bool (same_key (record_key r) k)) [
      | inl e ↦ rw e (distinct_cut k rs d.1)
      | inr e ↦ rw e ((λ q i s. d.0 q (in_cut_records k rs q i).0 s), distinct_cut k rs d.1)
    ]

pub find_record : (rs : List LogRecord) (r : LogRecord) → DistinctKeys rs → In r rs → find (record_key r) (branches_of rs) ≡ Some (branch_of r)
find_record [] r d h = absurd h
find_record (q ∷ rs) r d (inl e) =
    let P : LogRecord → Type 0 = λ x. find (record_key x) (branches_of (q ∷ rs)) ≡ Some (branch_of x) in
    subst P (sym e) (rw (same_key-refl (record_key q)) refl)
find_record (q ∷ rs) r d (inr h) =
    elim (told_key (record_key q) (record_key r)) [
      | inl e ↦ absurd (d.0 r h (sym e.1))
      | inr e ↦ rw (e.0) (find_record rs r d.1 h)
    ]

rearranged_rest : (r : LogRecord) (ps qs : List LogRecord) → Rearranged (r ∷ ps) qs → Rearranged ps (cut_records (record_key r) qs)
rearranged_rest r ps qs a = record {
  distinct = a.distinct.1;
  distinct_before = distinct_cut (record_key r) qs a.distinct_before;
  there = λ x h. cut_records_in (record_key r) qs x (a.there x (inr h)) (a.distinct.0 x h);
  back = λ x h. let z = in_cut_records (record_key r) qs x h in elim (a.back x z.0) [ inl e ↦ absurd (z.1 (ap record_key e)) | inr e ↦ e ];
}

arranged_none : (us : List Key) → arranged us [] ≡ []
arranged_none [] = refl
arranged_none (k ∷ us) = arranged_none us

none_left : (us : List Key) (qs : List LogRecord) → Rearranged [] qs → arranged us (branches_of qs) ≡ []
none_left us [] a = arranged_none us
none_left us (q ∷ qs) a = absurd (a.back q (inl refl))

arranged_records : (ps : List LogRecord) (us : List Key) (qs : List LogRecord) → Rearranged ps qs → arranged (record_keys ps ++ us) (branches_of qs) ≡ branches_of ps
arranged_records [] us qs a = none_left us qs a
arranged_records (r ∷ ps) us qs a =
    let k : Key = record_key r in
    let here : find k (branches_of qs) ≡ Some (branch_of r) = find_record qs r a.distinct_before (a.there r (inl refl)) in
    let order : List Key = record_keys ps ++ us in
    let rest : arranged order (cut k (branches_of qs)) ≡ branches_of ps =
    ap (arranged order) (cut_branches k qs) ∙ arranged_records ps us (cut_records k qs) (rearranged_rest r ps qs a) in
    ap (λ (o : Option Branch). arranged_by o (arranged order (cut k (branches_of qs)))) here ∙ ap (λ (bs : List Branch). branch_of r ∷ bs) rest

-- units that are not in the table are undone without a change of it
cut_none : (k : Key) (bs : List Branch) → find k bs ≡ None → cut k bs ≡ bs
cut_none k [] h = refl
cut_none k (b ∷ bs) h =
    elim (cases_Bool (same_key b.key k)) [
      | inl e ↦ absurd (let z : Some b ≡ None = rw e at h in cc)
      | inr e ↦ let h' : find k bs ≡ None = rw e at h in rw e (ap (λ (xs : List Branch). b ∷ xs) (cut_none k bs h'))
    ]

after_undo : (ks : List Key) (tm : Tm) → ((k : Key) → In k ks → find k tm.table ≡ None) → after (undo_all ks) tm ≡ tm
after_undo [] tm h = refl
after_undo (k ∷ ks) tm h =
    let same : after_act (Undoes k) tm ≡ tm = ap (λ (bs : List Branch). (let t : Tm = record { node = tm.node; table = bs; records = tm.records } in t)) (cut_none k tm.table (h k (inl refl))) in
    ap (after (undo_all ks)) same ∙ after_undo ks tm (λ x i. h x (inr i))

pub gone_none : (o : Option Branch) → phase o ≡ Gone → o ≡ None
gone_none None h = refl
gone_none (Some b) h = go b.state h
  where
    go : (s : State) → phase_of s ≡ Gone → Some b ≡ None
    go Joining e = absurd cc
    go Active e = absurd cc
    go Ending e = absurd cc
    go Voting e = absurd cc
    go Prepared e = absurd cc

-- a restarted node knows the records of its log
pub restart_tm : (w : World) (n : Name) (ps qs : List LogRecord) (us : List Key) → (w.nodes n).table ≡ branches_of qs → Rearranged ps qs
    → tm_at (raised n (record_keys ps ++ us) w) n ≡ restarted n ps (w.nodes n).records
restart_tm w n ps qs us table a =
    let order : List Key = record_keys ps ++ us in
    ap (λ (x : Node). (let t : Tm = record { node = n; table = x.table; records = x.records } in t)) (node_same n (raised_node order (w.nodes n)) w.nodes)
    ∙ ap (λ (bs : List Branch). (let t : Tm = record { node = n; table = bs; records = (w.nodes n).records } in t)) (ap (arranged order) table ∙ arranged_records ps us qs a)

lost_gone : (w : World) (n : Name) (order : List Key) → Good w → (k : Key) → In k (units_in_order order (w.nodes n).lost) → find k (tm_at (raised n order w) n).table ≡ None
lost_gone w n order g k h =
    let l : In k (w.nodes n).lost = in_order order (w.nodes n).lost k h in
    let P : Name → Type 0 = λ m. find k (w.nodes m).table ≡ None in
    let none : find k (w.nodes n).table ≡ None = subst P (g.lost_home n k l) (gone_none ((view w).at k) (g.inv.lost n k l).gone) in
    ap (λ (x : Node). find k x.table) (node_same n (raised_node order (w.nodes n)) w.nodes) ∙ (find-arranged order (w.nodes n).table k ∙ none)

boots_when : (w : World) (n : Name) (order : List Key) → may_boot n w ≡ true → boots n order w ≡ acts_all n (undoes_lost n order w) (raised n order w)
boots_when w n order h = rw h refl

pub restarts_from : (o : Opening) → IsAgreeing o → (steps : List Step) (n : Name) (ps qs : List LogRecord) (us : List Key)
    → may_boot n (run steps (opened o)) ≡ true → ((run steps (opened o)).nodes n).table ≡ branches_of qs → Rearranged ps qs
    → tm_at (boots n (record_keys ps ++ us) (run steps (opened o))) n ≡ restarted n ps ((run steps (opened o)).nodes n).records
restarts_from o a steps n ps qs us up table same =
    let w : World = run steps (opened o) in
    let g = (goes_run steps (opened o) (good_opened o a (is_shown o a))).good in
    let order : List Key = record_keys ps ++ us in
    ap (λ (x : World). tm_at x n) (boots_when w n order up)
    ∙ (tables_follow (raised n order w) n (undoes_lost n order w)
    ∙ (after_undo (units_in_order order (w.nodes n).lost) (tm_at (raised n order w) n) (lost_gone w n order g)
    ∙ restart_tm w n ps qs us table same))
