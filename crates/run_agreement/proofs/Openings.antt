-- The opening, and what whole transcripts are promised.
use Rattle.std.specs.Prelude.{if◌then◌else◌, is_some, option_map}
use Rattle.std.specs.Str.{bytes_eq}
use Rattle.std.proofs.Common.{◌≡◌, Bool, true, false, List, [], ◌∷◌, ◌++◌, Option, Some, None, inl, inr, refl, ap, sym, subst, ◌∙◌}
use Rattle.std.proofs.lemmas.Bool.{both_ways, cases_Bool}
use Rattle.vms_model.specs.Transactions.{Outcome}
use Rattle.run_model.specs.script_model.Statements.{Reading, Blank, Says, Bad}
use Rattle.run_model.specs.script_model.Grammar.{reading}
use Rattle.run_model.specs.transcript_model.Lines.{Line}
use Rattle.run_model.specs.unit_laws.Journal.{units_in}
use Rattle.commit_protocol.specs.Messages.{Name, LogRecord, same_name}
use Rattle.commit_protocol.specs.Table.{Key}
use Rattle.commit_protocol.specs.World as protocol
use Rattle.commit_protocol.specs.World.{In, Step, run}
use Rattle.commit_protocol.specs.Opening.{Opening, Image, IsAgreeing, AreRearranged, DistinctKeys, image_in, image_at, in_rack, node_of, opened, settled_in, accepted_in}
use Rattle.commit_protocol.specs.Orders.{IsPermuted}
use Rattle.commit_protocol.proofs.Lists.{same_name-eq, same_name-ne}
use Rattle.run_model.specs.log_laws.Slots.{records_in, committed_of}
use Rattle.run_model.proofs.log_laws.Reading.{is_prepared_one}
use Rattle.run_model.specs.World as world
use Rattle.run_model.specs.World.{World, Node, Sound, Settlement, IsLogInOrder, find_node, prepared_left}
use Rattle.run_model.specs.Transcript.{Entry, Turn}
use Rattle.run_agreement.specs.Seen.{Resolution, Face, IsFace, IsDownFace, IsLeft, IsBarred, landed, left_keys, has_volume, image_of, outcome_of}
use Rattle.run_agreement.specs.Following.{Faces, AreFaces, Follows, Settled, Shows, images_of, opening_of}
use Rattle.run_agreement.specs.Laws.{NamesApart, IsBase, MakesNoVolume, RunsFrom, IsRun, IsReachedBy, IsSettled}
use Rattle.run_agreement.proofs.Found.{some_is, bytes_same, bytes_itself}
use Rattle.run_agreement.proofs.Events.{IsReached, face_down, up_of_face, down_of_face}
use Rattle.run_agreement.proofs.Changing.{unit_serial}
use Rattle.run_agreement.proofs.Booting.{IsReady, left_rearranged, quiet_lands}
use Rattle.run_agreement.proofs.Parts.{WorldSim, sim_same, sim_on, sim_to}
use Rattle.run_agreement.proofs.Runs.{step_sim}

-- Transcripts.

pub turn_sim : (o : Opening) (w : World) (r : Reading) (lines : List Line) (v : World) → MakesNoVolume w r → Turn w r lines v → WorldSim o w v
turn_sim o w Blank lines v none h = sim_to o w w v h.1 (sim_same o w)
turn_sim o w (Says s) lines v none h = step_sim o w s lines v (λ n slots journal e. none n slots journal e) h
turn_sim o w (Bad column) lines v none h = absurd h

pub runs_sim : (o : Opening) (es : List Entry) (w v : World) → RunsFrom w es v → WorldSim o w v
runs_sim o [] w v h = sim_to o w w v h (sim_same o w)
runs_sim o (e ∷ es) w v h = sim_on o w h.0 v (runs_sim o es w h.0 h.1) (turn_sim o h.0 (reading e.source.text) e.lines v h.2 h.3)

-- The opening.

ready_disk : (x : Node) → x.durable.volume ≡ Sound → IsLogInOrder x → IsReady x.durable
ready_disk x sound h = record {
  distinct = h.distinct;
  unwaiting = λ r i k. (h.prepared_within r (is_prepared_one (records_in x.durable.log) r i k)).waiting;
  units = λ s u e p. (let r = h.prepared s u e p in (r.0, r.1, r.2 ∙ unit_serial s (units_in x.durable.units.entries) u e));
  slots = h.slots;
  volume = sound;
}

permuted_same : (rs : List LogRecord) → IsPermuted rs rs
permuted_same [] = refl
permuted_same (r ∷ rs) = ([], rs, refl, permuted_same rs)

image_left_is : (x : Node) → IsReady x.durable → IsLeft x.durable (node_of (image_of x))
image_left_is x h = record {
  down = refl;
  boot = refl;
  last = refl;
  records = prepared_left x.durable;
  table = refl;
  prepared = record { distinct = (left_rearranged x.durable h).distinct; there = λ r i. i; back = λ r i. i };
  committed = permuted_same (committed_of (records_in x.durable.log));
  there = λ k i. i;
  back = λ k i. i;
  distinct = h.distinct;
  unwaiting = h.unwaiting;
  units = h.units;
  slots = h.slots;
  volume = h.volume;
}

pub sound_of : (x : Node) → has_volume x ≡ true → x.durable.volume ≡ Sound
sound_of x e = by x.durable.volume refl
  where
    by : (v : world.Volume) → x.durable.volume ≡ v → x.durable.volume ≡ Sound
    by Sound f = f
    by (world.Faulty condition block) f = absurd (both_ways (has_volume x) (ap (λ d. elim d [ Sound ↦ true | world.Faulty c b ↦ false | world.Barred bar ↦ false | world.Unknown ↦ false ]) f) e)
    by (world.Barred bar) f = absurd (both_ways (has_volume x) (ap (λ d. elim d [ Sound ↦ true | world.Faulty c b ↦ false | world.Barred b ↦ false | world.Unknown ↦ false ]) f) e)
    by world.Unknown f = absurd (both_ways (has_volume x) (ap (λ d. elim d [ Sound ↦ true | world.Faulty c b ↦ false | world.Barred bar ↦ false | world.Unknown ↦ false ]) f) e)

-- the image of a node is that of its name
none_later : (n : Name) (ns : List Node) → find_node n ns ≡ None → image_in n (images_of ns) ≡ None
none_later n [] e = refl
none_later n (x ∷ xs) e = go (bytes_eq n x.name) refl e
  where
    go : (b : Bool) → bytes_eq n x.name ≡ b → (let d : Option Node = if b then Some x else find_node n xs in d) ≡ None → image_in n (if has_volume x then (x.name, image_of x) ∷ images_of xs else images_of xs) ≡ None
    go true is k = absurd (let f : ⊥ = cc in f)
    go false is k = with_volume (has_volume x) (none_later_rest k)
      where
        apart : same_name x.name n ≡ false
        apart = same_name-ne x.name n (λ q. both_ways (bytes_eq n x.name) is (bytes_itself n x.name (sym q)))

        none_later_rest : find_node n xs ≡ None → image_in n (images_of xs) ≡ None
        none_later_rest f = rest xs f
          where
            rest : (ys : List Node) → find_node n ys ≡ None → image_in n (images_of ys) ≡ None
            rest [] f2 = refl
            rest (y ∷ ys) f2 = pick (bytes_eq n y.name) refl f2 (rest ys)
              where
                pick : (b : Bool) → bytes_eq n y.name ≡ b → (let d : Option Node = if b then Some y else find_node n ys in d) ≡ None → (find_node n ys ≡ None → image_in n (images_of ys) ≡ None) → image_in n (if has_volume y then (y.name, image_of y) ∷ images_of ys else images_of ys) ≡ None
                pick true is2 k2 more = absurd (let f3 : ⊥ = cc in f3)
                pick false is2 k2 more = choose (has_volume y)
                  where
                    choose : (v : Bool) → image_in n (if v then (y.name, image_of y) ∷ images_of ys else images_of ys) ≡ None
                    choose true = rw (same_name-ne y.name n (λ q. both_ways (bytes_eq n y.name) is2 (bytes_itself n y.name (sym q)))) (more k2)
                    choose false = more k2

        with_volume : (v : Bool) → image_in n (images_of xs) ≡ None → image_in n (if v then (x.name, image_of x) ∷ images_of xs else images_of xs) ≡ None
        with_volume true m = rw apart m
        with_volume false m = m

pub image_found : (n : Name) (ns : List Node) (x : Node) → NamesApart ns → find_node n ns ≡ Some x → image_in n (images_of ns) ≡ (if has_volume x then Some (image_of x) else None)
image_found n [] x apart e = absurd (let f : ⊥ = cc in f)
image_found n (y ∷ ys) x apart e = go (bytes_eq n y.name) refl e (image_found n ys x apart.1)
  where
    go : (b : Bool) → bytes_eq n y.name ≡ b → (let d : Option Node = if b then Some y else find_node n ys in d) ≡ Some x → (find_node n ys ≡ Some x → image_in n (images_of ys) ≡ (if has_volume x then Some (image_of x) else None))
        → image_in n (if has_volume y then (y.name, image_of y) ∷ images_of ys else images_of ys) ≡ (if has_volume x then Some (image_of x) else None)
    go true is k more =
        let same : y ≡ x = some_is y x k in
        let P : Node → Type 0 = λ z. image_in n (if has_volume y then (y.name, image_of y) ∷ images_of ys else images_of ys) ≡ (if has_volume z then Some (image_of z) else None) in
        let Q : Name → Type 0 = λ m. find_node m ys ≡ None in
        subst P same (first_one (has_volume y) (none_later n ys (subst Q (sym (bytes_same n y.name is)) apart.0)))
      where
        first_one : (v : Bool) → image_in n (images_of ys) ≡ None → image_in n (if v then (y.name, image_of y) ∷ images_of ys else images_of ys) ≡ (if v then Some (image_of y) else None)
        first_one true m = rw (same_name-eq y.name n (sym (bytes_same n y.name is))) refl
        first_one false m = m
    go false is k more = later (has_volume y) (more k)
      where
        later : (v : Bool) → image_in n (images_of ys) ≡ (if has_volume x then Some (image_of x) else None) → image_in n (if v then (y.name, image_of y) ∷ images_of ys else images_of ys) ≡ (if has_volume x then Some (image_of x) else None)
        later true m = rw (same_name-ne y.name n (λ q. both_ways (bytes_eq n y.name) is (bytes_itself n y.name (sym q)))) m
        later false m = m

-- what the protocol has before the first step
abbrev opening_faces : World → Faces
opening_faces w n = option_map (λ (i : Image). (let f : Face = record { node = node_of i; settled = [] } in f)) (image_in n (images_of w.nodes))

some_mapped : {A B : Type 0} (f : A → B) (d : Option A) (y : B) → option_map f d ≡ Some y → (x : A) × (d ≡ Some x) × (f x ≡ y)
some_mapped f None y e = absurd cc
some_mapped f (Some x) y e = let s : f x ≡ y = cc in (x, refl, s)

is_some_map : {A B : Type 0} (f : A → B) (d : Option A) → is_some (option_map f d) ≡ is_some d
is_some_map f None = refl
is_some_map f (Some x) = refl

pub opening_shows : (w : World) (r : Resolution) → IsBase w → Shows (opening_of w) r w (opened (opening_of w))
opening_shows w r h = record { faces = opening_faces w; are = are; follows = follows }
  where
    to_face : Image → Face
    to_face i = record { node = node_of i; settled = [] }

    are : AreFaces r w.nodes (opening_faces w)
    are = record {
      there = λ n x e v. (
          let u = h.nodes n x e in
          let f : Face = record { node = node_of (image_of x); settled = [] } in
          let lands = quiet_lands (r n) x u.quiet in
          let P : Node → Type 0 = λ z. IsLeft z.durable (node_of (image_of x)) in
          let sound = sound_of x v in
          let B : _ → Type 0 = λ a. Rattle.run_agreement.specs.Seen.IsBegun a in (
            f,
            ap (option_map (λ (i : Image). (let g : Face = record { node = node_of i; settled = [] } in g))) (image_found n w.nodes x h.apart e ∙ ap (λ b. if b then Some (image_of x) else None) v),
            face_down (r n) x f u.down (record {
              left = subst P (sym lands) (image_left_is x (ready_disk x sound (u.log sound)));
              settled = sym (ap (λ (z : Node). z.settled) lands ∙ u.settled);
              begun = subst B (sym u.quiet) tt;
            }),
          ));
      without = λ n x e v. (
          let u = h.nodes n x e in (
            ap (option_map (λ (i : Image). (let g : Face = record { node = node_of i; settled = [] } in g))) (image_found n w.nodes x h.apart e ∙ ap (λ b. if b then Some (image_of x) else None) v),
            record { down = u.down; quiet = u.quiet; none = u.settled; known = u.known },
          ));
      absent = λ n e. ap (option_map (λ (i : Image). (let g : Face = record { node = node_of i; settled = [] } in g))) (none_later n w.nodes e);
    }

    follows : Follows (opening_of w) (opening_faces w) w.shared (opened (opening_of w))
    follows = record {
      rack = λ n. sym (is_some_map (λ (i : Image). (let g : Face = record { node = node_of i; settled = [] } in g)) (image_in n (images_of w.nodes)));
      nodes = λ n f e. (
          let q = some_mapped (λ (i : Image). (let g : Face = record { node = node_of i; settled = [] } in g)) (image_in n (images_of w.nodes)) f e in
          ap (λ (d : Option Image). node_of (Rattle.commit_protocol.specs.Opening.or_none d)) q.1 ∙ ap (λ (g : Face). g.node) q.2);
      sent = λ m i. absurd (let P : List _ → Type 0 = λ ms. In m ms in subst P h.wire i);
      accepted = ap (λ ks. ks ++ accepted_in (opening_of w)) (sym h.accepted);
      read_only = sym h.read_only;
      labels = λ l bid i e. absurd (let P : List _ → Type 0 = λ ls. In l ls in subst P h.labels i);
      settled = λ n f t e i. (
          let q = some_mapped (λ (j : Image). (let g : Face = record { node = node_of j; settled = [] } in g)) (image_in n (images_of w.nodes)) f e in
          absurd (let P : List Settlement → Type 0 = λ ss. In t ss in subst P (ap (λ (g : Face). g.settled) (sym q.2)) i));
      given = λ k out i. i;
      back = λ k out i. inl i;
    }

pub reached_by : (base v : World) (es : List Entry) → IsRun base es v → (r : Resolution) → IsReachedBy base r v
reached_by base v es h r =
    let o : Opening = opening_of base in
    let s = runs_sim o es base v h.runs r in
    let first_world : IsReached o (opened o) = record { agrees = h.agrees; steps = []; is = refl } in
    let x = s.1 (opened o) tt first_world (opening_shows base s.0 h.base_is) in
    record { steps = x.0; shows = x.1 }

-- what a face has of settlements

pub face_settled : (b : Bool) (x : Node) (f : Face) → IsFace b x f → f.settled ≡ (landed b x).settled
face_settled b x f is = elim (cases_Bool x.up) [
  | inl up ↦ (let u = up_of_face b x f up is in u.settled ∙ ap (λ (z : Node). z.settled) (sym (quiet_lands b x u.quiet)))
  | inr down ↦ (down_of_face b x f down is).settled
]

-- what was settled at a node the protocol has settled
pub told_settled : (o : Opening) (r : Resolution) (v : World) (p : protocol.World) → Shows o r v p → (k : Key) (out : Outcome) → IsSettled r v k out → In (k, out) p.settled
told_settled o r v p h k out s = elim (cases_Bool (has_volume s.1)) [
  | inl sound ↦
      let f = h.are.there s.0 s.1 s.2 sound in
      let P : List Settlement → Type 0 = λ ss. In s.3.0 ss in
      let Q : Key × Outcome → Type 0 = λ y. In y p.settled in
      subst Q s.3.2 (h.follows.settled s.0 f.0 s.3.0 f.1 (subst P (sym (face_settled (r s.0) s.1 f.0 f.2)) s.3.1))
  | inr unsound ↦
      let b = h.are.without s.0 s.1 s.2 unsound in
      absurd (let P : List Settlement → Type 0 = λ ss. In s.3.0 ss in barred_settles s.1 b.1 s.3.0 (let e = quiet_lands (r s.0) s.1 b.1.quiet in subst P (ap (λ (z : Node). z.settled) e) s.3.1))
]
  where
    barred_settles : (x : Node) → IsBarred x → (t : Settlement) → In t x.settled → ⊥
    barred_settles x b t i = let P : List Settlement → Type 0 = λ ss. In t ss in subst P b.none i

pub shown_settled_by : (o : Opening) (r : Resolution) (v : World) (p : protocol.World) (h : Shows o r v p) (k : Key) (out : Outcome) → Settled h.faces k out → IsSettled r v k out
shown_settled_by o r v p h k out s = by (find_node s.0 v.nodes) refl
  where
    by : (d : Option Node) → find_node s.0 v.nodes ≡ d → IsSettled r v k out
    by None e = absurd (let z : None ≡ Some s.1 = sym (h.are.absent s.0 e) ∙ s.2 in let f : ⊥ = cc in f)
    by (Some x) e = elim (cases_Bool (has_volume x)) [
      | inl sound ↦
          let f = h.are.there s.0 x e sound in
          let same : f.0 ≡ s.1 = some_is f.0 s.1 (sym f.1 ∙ s.2) in
          let P : List Settlement → Type 0 = λ ss. In s.3.0 ss in
          (s.0, x, e, (s.3.0, subst P (ap (λ (g : Face). g.settled) (sym same) ∙ face_settled (r s.0) x f.0 f.2) s.3.1, s.3.2))
      | inr unsound ↦ absurd (let z : None ≡ Some s.1 = sym (h.are.without s.0 x e unsound).0 ∙ s.2 in let f : ⊥ = cc in f)
    ]
