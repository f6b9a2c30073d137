-- The image of one node alone agrees with itself.
use Rattle.std.proofs.Common.{◌≡◌, ◌≤◌, ◌⊎◌, List, [], ◌∷◌, ◌++◌, inl, inr, map, Bool, true, false, Option, Some, None, if◌then◌else◌, refl, sym, ◌∙◌, ap, subst}
use Rattle.std.specs.Option.{is_some, option_map}
use Rattle.std.specs.List.{AllByRecursion, last_or}
use Rattle.std.specs.Str.{bytes_eq}
use Rattle.std.proofs.lemmas.Bool.{both_ways}
use Rattle.vms_model.specs.Ids.{Id}
use Rattle.vms_model.specs.Transactions.{Outcome, Commit, Abort}
use Rattle.run_said.specs.transcript_model.Lines as line
use Rattle.run_said.specs.transcript_model.Lines.{Line}
use Rattle.run_said.specs.script_model.Statements.{At, Init, Reading, Says}
use Rattle.run_said.specs.script_model.Grammar.{reading}
use Rattle.unit_laws.specs.records_model.History.{same_id}
use Rattle.unit_laws.specs.Journal.{RecoveryUnit, active_units, find_unit, units_in}
use Rattle.unit_laws.proofs.LiveLemmas.{id_is, id_itself}
use Rattle.commit_protocol.specs.Messages.{LogRecord, Name, same_name}
use Rattle.commit_protocol.specs.Table.{Key, child, first, home_of, record_serials}
use Rattle.commit_protocol.specs.World.{In}
use Rattle.commit_protocol.specs.Agreement.{Distinct}
use Rattle.commit_protocol.specs.Opening.{Image, IsAgreeing, OldIn, OldKey, Opening, Shows, image_at, log_serials, no_image, or_none}
use Rattle.commit_protocol.proofs.Lists.{same_name-true}
use Rattle.commit_protocol.proofs.NewVolumes.{new_agree}
use Rattle.run_said.specs.log_laws.Slots.{committed_of, prepared_of}
use Rattle.run_said.specs.run_model.World as world
use Rattle.run_said.specs.run_model.World.{Durable, IsOpening, IsReached, LastIsReached, Node, Settlement, prepared_left}
use Rattle.run_said.specs.run_model.Answers.{unit_key}
use Rattle.run_said.specs.run_model.Transcript.{Entry}
use Rattle.run_said.proofs.run_model.NodeLists.{some_is}
use Rattle.run_agreement.specs.Seen.{has_volume, image_of, outcome_of}
use Rattle.run_agreement.specs.Laws.{image_after_init, image_here, image_told, volume_image, with_image}
use Rattle.run_laws.specs.Laws.{IsOfOneNode, OneNodeAgrees}
use Rattle.recovery_laws.proofs.world_laws.UndoLemmas.{all_onto}
use Rattle.recovery_laws.proofs.world_laws.UnitSets.{UnitsDiffer, units_differ}

-- one image
module _ (name : Name) (i : Image) where
  abbrev one : Opening
  one = record { images = (name, i) ∷ [] }

  at : (m : Name) → ((name ≡ m) × (image_at one m ≡ i)) ⊎ (image_at one m ≡ no_image)
  at m = go (same_name name m) refl
    where
      go : (b : Bool) → same_name name m ≡ b → ((name ≡ m) × (image_at one m ≡ i)) ⊎ (image_at one m ≡ no_image)
      go true e = inl (same_name-true name m e, ap (λ b. or_none (if b then Some i else None)) e)
      go false e = inr (ap (λ b. or_none (if b then Some i else None)) e)

  -- what no part of it has
  none : {A : Type 0} (part : Image → List A) → part i ≡ [] → part no_image ≡ [] → (m : Name) (x : A) → In x (part (image_at one m)) → ⊥
  none part own other m x h = elim (at m) [ inl e ↦ subst (λ xs. In x xs) (ap part e.1 ∙ own) h | inr e ↦ subst (λ xs. In x xs) (ap part e ∙ other) h ]

  last_own : (m : Name) (k : Key) (out : Outcome) → (image_at one m).last ≡ Some (k, out) → (name ≡ m) × (image_at one m ≡ i) × (i.last ≡ Some (k, out))
  last_own m k out e = elim (at m) [
    | inl q ↦ (q.0, q.1, sym (ap (λ (j : Image). j.last) q.1) ∙ e)
    | inr q ↦ (let no : ◌≡◌ {A = Option (Key × Outcome)} None (Some (k, out)) = sym (ap (λ (j : Image). j.last) q) ∙ e in let never : ⊥ = cc in absurd never)
  ]

  unit_own : (m : Name) (k : Key) → In k (image_at one m).units → (name ≡ m) × In k i.units
  unit_own m k h = elim (at m) [ inl q ↦ (q.0, subst (λ (j : Image). In k j.units) q.1 h) | inr q ↦ absurd (subst (λ (j : Image). In k j.units) q h) ]

  -- an id of a node of the rack is of this one
  old : (x : Id) → (x.node ≡ name → x.boot ≤ i.boot) → OldIn one x
  old x h inside = go (same_name name x.node) refl
    where
      go : (b : Bool) → same_name name x.node ≡ b → x.boot ≤ (image_at one x.node).boot
      go true e =
          let here : image_at one x.node ≡ i = ap (λ b. or_none (if b then Some i else None)) e in
          subst (λ (j : Image). x.boot ≤ j.boot) (sym here) (h (sym (same_name-true name x.node e)))
      go false e = let no : false ≡ true = sym (ap (λ b. is_some (if b then Some i else None)) e) ∙ inside in let never : ⊥ = cc in absurd never

  -- such an image agrees
  pub record IsAlone : Type 0 where
    pub prepared : i.prepared ≡ []
    pub committed : i.committed ≡ []
    pub units : (k : Key) → In k i.units → (k ≡ first k.serial) × (k.serial.node ≡ name) × (k.serial.boot ≤ i.boot)
    pub last : (k : Key) (out : Outcome) → i.last ≡ Some (k, out) → (k ≡ first k.serial) × (k.serial.node ≡ name) × (k.serial.boot ≤ i.boot)
    pub apart : (k : Key) (out : Outcome) → i.last ≡ Some (k, out) → In k i.units → ⊥

  pub alone_agrees : IsAlone → IsAgreeing one
  alone_agrees a =
      let prepared : (m : Name) (r : LogRecord) → In r (image_at one m).prepared → ⊥ = λ m r. none (λ (j : Image). j.prepared) a.prepared refl m r in
      let committed : (m : Name) (r : LogRecord) → In r (image_at one m).committed → ⊥ = λ m r. none (λ (j : Image). j.committed) a.committed refl m r in
      record {
        own_prepared = λ m r h. absurd (prepared m r h);
        own_committed = λ m r h. absurd (committed m r h);
        own_units = λ m k h. let u = unit_own m k h in (a.units k u.1).1 ∙ u.0;
        distinct = distinct;
        unprepared = λ m k h p. prepared (home_of k) p.0 p.1;
        owed = λ k p. absurd (prepared (home_of k) p.0 p.1);
        waited_last = λ k w l. committed w.0 w.1.0 w.1.1;
        waited_unit = λ m k w h. committed w.0 w.1.0 w.1.1;
        first_last = λ t s l. of_shows t s (λ k last same. let x = last_own l.0 (first t) Abort l.1 in let clash : Some (k, Commit) ≡ Some (first t, Abort) = sym last ∙ x.2 in let no : Commit ≡ Abort = ap (λ (p : Key × Outcome). p.1) (some_is _ _ clash) in cc);
        first_unit = λ m t s h. of_shows t s (λ k last same.
            let f = a.last k Commit last in
            let tid : k.serial ≡ t = sym (ap (λ (j : Key). j.tid) f.0) ∙ same in
            a.apart k Commit last (subst (λ j. In j i.units) (sym (f.0 ∙ ap first tid)) (unit_own m (first t) h).1));
        last_unit = λ m k out e h. a.apart k out (last_own m k out e).2 (unit_own m k h).1;
        last_prepared = λ m r out e h. prepared m r h;
        old_prepared = λ m r h. absurd (prepared m r h);
        old_waited = λ k w. absurd (committed w.0 w.1.0 w.1.1);
        old_committed = λ m r h. absurd (committed m r h);
        old_last = λ k out l. of_first k (a.last k out (last_own l.0 k out l.1).2);
        old_unit = λ m k h. of_first k (a.units k (unit_own m k h).1);
      }
    where
      distinct : (m : Name) → Distinct (log_serials (image_at one m))
      distinct m = elim (at m) [
        | inl q ↦ subst (λ (j : Image). Distinct (log_serials j)) (sym q.1) (subst (λ rs. Distinct (record_serials rs ++ record_serials i.committed)) (sym a.prepared) (subst (λ rs. Distinct (record_serials rs)) (sym a.committed) tt))
        | inr q ↦ subst (λ (j : Image). Distinct (log_serials j)) (sym q) tt
      ]

      of_first : (k : Key) → (k ≡ first k.serial) × (k.serial.node ≡ name) × (k.serial.boot ≤ i.boot) → OldKey one k
      of_first k f = record { tid = subst (OldIn one) (sym (ap (λ (j : Key). j.tid) f.0)) (old k.serial (λ own. f.2)); serial = old k.serial (λ own. f.2) }

      of_shows : (t : Id) → Shows one t → ((k : Key) → i.last ≡ Some (k, Commit) → k.tid ≡ t → ⊥) → ⊥
      of_shows t (inl s) f = f s.0 (last_own s.1.0 s.0 Commit s.1.1).2 s.2
      of_shows t (inr s) f = none (λ (j : Image). j.committed) a.committed refl s.0 s.1.0 s.1.1

-- The image of its disk.

key_in : (us : List RecoveryUnit) (k : Key) → In k (map unit_key us) → (u : RecoveryUnit) × In u us × (k ≡ unit_key u)
key_in [] k i = absurd i
key_in (u ∷ us) k (inl same) = (u, inl refl, same)
key_in (u ∷ us) k (inr i) = let r = key_in us k i in (r.0, inr r.1, r.2)

-- a unit that is one of those that are not prepared is found
unit_found : (us : List RecoveryUnit) (u : RecoveryUnit) → UnitsDiffer us → In u (active_units us) → find_unit u.serial us ≡ Some u
unit_found [] u d i = absurd i
unit_found (v ∷ us) u d i = go v.prepared i (unit_found us u d.1)
  where
    beside : find_unit u.serial us ≡ Some u → (b : Bool) → same_id u.serial v.serial ≡ b → (if b then Some v else find_unit u.serial us) ≡ Some u
    beside f true t = let clash : ◌≡◌ {A = Option RecoveryUnit} None (Some u) = sym d.0 ∙ ap (λ y. find_unit y us) (sym (id_is u.serial v.serial t)) ∙ f in let no : ⊥ = cc in absurd no
    beside f false t = f

    go : (b : Bool) → In u (if b then active_units us else v ∷ active_units us) → (In u (active_units us) → find_unit u.serial us ≡ Some u) → (if same_id u.serial v.serial then Some v else find_unit u.serial us) ≡ Some u
    go true j more = beside (more j) (same_id u.serial v.serial) refl
    go false (inl same) more = ap (λ b. if b then Some v else find_unit u.serial us) (ap (λ (w : RecoveryUnit). same_id w.serial v.serial) same ∙ id_itself v.serial) ∙ ap Some (sym same)
    go false (inr j) more = beside (more j) (same_id u.serial v.serial) refl

-- an opening node's image is so
opening_alone : (n : Node) → IsOpening n → IsOfOneNode n → IsAlone n.name (image_of n)
opening_alone n o h = record {
  prepared = ap (λ rs. world.records_by (world.prepared_serials n.durable.units.entries) (prepared_of rs)) h.log ∙ by_none (world.prepared_serials n.durable.units.entries);
  committed = ap committed_of h.log;
  units = λ k i. (of_unit k (key_in _ k i)).0;
  last = λ k out e. (of_last k out n.durable.last refl e).0;
  apart = λ k out e i. let l = of_last k out n.durable.last refl e in let u = of_unit k (key_in _ k i) in both_ways _ ((h.apart l.1.0 l.1.1).0) (ap (λ x. is_some (find_unit x (units_in n.durable.units.entries))) (sym l.1.2) ∙ ap is_some u.1.1);
}
  where
    by_none : (xs : List Id) → world.records_by xs [] ≡ []
    by_none [] = refl
    by_none (x ∷ xs) = by_none xs

    found_reached : (us : List RecoveryUnit) (u : RecoveryUnit) (x : Id) → find_unit x us ≡ Some u → AllByRecursion (λ (v : RecoveryUnit). IsReached n v.serial) us → IsReached n u.serial
    found_reached [] u x f all = let no : ⊥ = cc in absurd no
    found_reached (v ∷ us) u x f all = pick (same_id x v.serial) f (λ g. found_reached us u x g all.1)
      where
        pick : (b : Bool) → ◌≡◌ {A = Option RecoveryUnit} (if b then Some v else find_unit x us) (Some u) → (find_unit x us ≡ Some u → IsReached n u.serial) → IsReached n u.serial
        pick true g more = subst (λ (w : RecoveryUnit). IsReached n w.serial) (some_is v u g) all.0
        pick false g more = more g

    of_last : (k : Key) (out : Outcome) (s : Option Settlement) → n.durable.last ≡ s → option_map outcome_of s ≡ Some (k, out) →
        ((k ≡ first k.serial) × (k.serial.node ≡ n.name) × (k.serial.boot ≤ n.durable.boot)) × ((s : Settlement) × (n.durable.last ≡ Some s) × (k.serial ≡ s.serial))
    of_last k out None e f = let no : ⊥ = cc in absurd no
    of_last k out (Some s) e f =
        let same : child s.tid s.serial ≡ k = ap (λ (p : Key × Outcome). p.0) (some_is _ _ f) in
        let serial : k.serial ≡ s.serial = ap (λ (j : Key). j.serial) (sym same) in
        let own : k ≡ first k.serial = sym same ∙ (λ j. child (h.last s e j) s.serial) ∙ ap first (sym serial) in
        let of : LastIsReached n (Some s) = subst (LastIsReached n) e o.last in
        ((own, ap (λ (x : Id). x.node) serial ∙ of.0, subst (λ (x : Id). x.boot ≤ n.durable.boot) (sym serial) of.1), (s, e, serial))

    of_unit : (k : Key) → ((u : RecoveryUnit) × In u (active_units (units_in n.durable.units.entries)) × (k ≡ unit_key u)) → ((k ≡ first k.serial) × (k.serial.node ≡ n.name) × (k.serial.boot ≤ n.durable.boot)) × ((u : RecoveryUnit) × (find_unit k.serial (units_in n.durable.units.entries) ≡ Some u))
    of_unit k (u, i, same) =
        let found = unit_found (units_in n.durable.units.entries) u (units_differ n.durable.units.entries) i in
        let serial : k.serial ≡ u.serial = ap (λ (j : Key). j.serial) same in
        let own : k ≡ first k.serial = same ∙ (λ j. child (h.units u.serial u found j) u.serial) ∙ ap first (sym serial) in
        let of = found_reached (units_in n.durable.units.entries) u u.serial found (all_onto (IsReached n) n.durable.units.entries [] o.units.reached tt) in
        ((own, ap (λ (x : Id). x.node) serial ∙ of.0, subst (λ (x : Id). x.boot ≤ n.durable.boot) (sym serial) of.1), (u, subst (λ x. find_unit x (units_in n.durable.units.entries) ≡ Some u) (sym serial) found))

-- Whatever the lines tell.

told_image : (name : Name) (start : Option Image) (es : List Entry) → (image_told name start es ≡ None) ⊎ ((image_told name start es ≡ Some no_image) ⊎ (image_told name start es ≡ start))
told_image name start [] = inr (inr refl)
told_image name start (e ∷ es) = go (reading e.source.text) (last_or None e.lines) (image_told name start es) (told_image name start es)
  where
    by_answer : (a : Option Line) (i : Option Image) → (i ≡ None) ⊎ ((i ≡ Some no_image) ⊎ (i ≡ start)) → (image_after_init a i ≡ None) ⊎ ((image_after_init a i ≡ Some no_image) ⊎ (image_after_init a i ≡ start))
    by_answer (Some line.Normal) i h = inr (inl refl)
    by_answer (Some (line.Broken cause)) i h = inl refl
    by_answer (Some _) i h = h
    by_answer None i h = h

    go : (r : Reading) (a : Option Line) (i : Option Image) → (i ≡ None) ⊎ ((i ≡ Some no_image) ⊎ (i ≡ start)) → (image_here name r a i ≡ None) ⊎ ((image_here name r a i ≡ Some no_image) ⊎ (image_here name r a i ≡ start))
    go (Says (At m (Init slots journal))) a i h = by (bytes_eq m name)
      where
        by : (b : Bool) → ((if b then image_after_init a i else i) ≡ None) ⊎ (((if b then image_after_init a i else i) ≡ Some no_image) ⊎ ((if b then image_after_init a i else i) ≡ start))
        by true = by_answer a i h
        by false = h
    go (Says (At m _)) a i h = h
    go (Says _) a i h = h
    go _ a i h = h

pub one_node_agrees : OneNodeAgrees
one_node_agrees n es o h = elim (told_image n.name (volume_image n) es) [
  | inl lost ↦ subst (λ i. IsAgreeing (record { images = with_image n.name i [] })) (sym lost) (new_agree [])
  | inr (inl made) ↦ subst (λ i. IsAgreeing (record { images = with_image n.name i [] })) (sym made) (new_agree (n.name ∷ []))
  | inr (inr same) ↦ subst (λ i. IsAgreeing (record { images = with_image n.name i [] })) (sym same) (own (has_volume n))
]
  where
    own : (b : Bool) → IsAgreeing (record { images = with_image n.name (if b then Some (image_of n) else None) [] })
    own true = alone_agrees n.name (image_of n) (opening_alone n o h)
    own false = new_agree []
