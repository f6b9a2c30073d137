-- What a run leaves the next begins with: the image of each volume is that of the node which was left, as its act under way turned out.
use Rattle.std.proofs.Common.{◌≡◌, ◌≤◌, arith, ℕ, ◌⊎◌, List, [], ◌∷◌, inl, inr, Bool, true, false, Option, Some, None, if◌then◌else◌, refl, sym, ◌∙◌, ap, subst}
use Rattle.std.specs.Prelude.{is_some}
use Rattle.std.specs.List.{AllByRecursion}
use Rattle.std.specs.Option.{option_map}
use Rattle.std.specs.Str.{bytes_eq}
use Rattle.std.proofs.lemmas.Bool.{both_ways}
use Rattle.vms_model.specs.Ids.{Id}
use Rattle.vms_model.specs.Transactions.{Outcome}
use Rattle.unit_laws.specs.Units.{Map}
use Rattle.commit_protocol.specs.Messages.{Name}
use Rattle.commit_protocol.specs.Table.{Key}
use Rattle.commit_protocol.specs.World.{In}
use Rattle.commit_protocol.specs.Opening.{Image, IsAgreeing, OldIn, Opening, image_at, image_in, new_volumes, no_image, or_none}
use Rattle.commit_protocol.proofs.NewVolumes.{new_agree}
use Rattle.world_laws.specs.run_model.World.{World, Node, Durable, Volume, Sound, Faulty, Barred, Unknown, Act, Half, MayTurnOut, Settlement, aborted_prepared, acted, find_node, opened, with_half}
use Rattle.world_laws.specs.run_model.Transcript.{Entry}
use Rattle.world_laws.proofs.run_model.NodeLists.{found_name, some_is}
use Rattle.run_laws.specs.run_agreement.Seen.{Face, IsFace, IsKnown, Resolution, has_volume, image_of, landed, outcome_of}
use Rattle.run_laws.specs.run_agreement.Following.{opening_of}
use Rattle.run_laws.specs.run_agreement.Laws.{IsReplaced, IsRun, NamesApart, image_after, image_told, next_opening, opening_told, volume_image}
use Rattle.run_laws.proofs.run_agreement.Events.{down_of_face, up_of_face}
use Rattle.run_laws.proofs.run_agreement.Images.{after_in}
use Rattle.run_laws.proofs.run_agreement.Openings.{reached_by}
use Rattle.run_laws.specs.Anew.{AreKnownOrAnew}
use Rattle.run_laws.specs.Promises.{AreLastApart, IsLastApart}
use Rattle.run_laws.specs.Laws.{AgreedPromisesAreKept}
use Rattle.run_laws.proofs.AbortsStand.{made_or_none}
use Rattle.run_laws.proofs.Anewed.{fits_of}
use Rattle.run_laws.proofs.DumpsShown.{WasMade}
use Rattle.run_chains.specs.Reopenings.{IsReopened, reopened}
use Rattle.run_chains.specs.Chains.{Active, AgreeingAreNew, AreNext, ChainsAgree, Committed, Follow, IsNew, Last, MadeAreNew, MayAgree, NextRunsAgree, Prepared, RunOf, TellsBranch, TellsNoneOf, Waited, is_made}
use Rattle.run_chains.proofs.Anew.{Turns, agree_anew, told_old}
use Rattle.run_chains.proofs.Lasts.{last_stays_apart}
use Rattle.run_chains.proofs.Names.{Both, Nowhere, Place, all_apart, legal_names, next_names, node_at, place, same_apart}
use Rattle.run_laws.proofs.ToldImages.{face, in_base, told_found, told_nowhere, told_out}
use Rattle.run_chains.proofs.Told.{IsToldSo, replaced_told, told_so}

-- One node.

-- what a disk has besides its files
abbrev beside_files : Durable → Durable
beside_files d = record d { directory = [] }

-- A node without a volume has none again; of another the disk has, besides its files, what the node has whose act under way turned out so.
abbrev pub Lands : Node → Node → Bool → Type 0
Lands n m taken = ((has_volume n ≡ true) × (beside_files m.durable ≡ beside_files (landed taken n).durable)) ⊎ ((has_volume n ≡ false) × (has_volume m ≡ false))

-- an abort that is done in part changes files alone
half_disk : (n : Node) (standing : List ℕ → Map) → beside_files (with_half (aborted_prepared n.under_way n.durable) standing n.durable) ≡ beside_files n.durable
half_disk n standing = go (aborted_prepared n.under_way n.durable)
  where
    go : (o : Option Id) → beside_files (with_half o standing n.durable) ≡ beside_files n.durable
    go None = refl
    go (Some serial) = refl

-- a node after its act under way, where there is one
abbrev acted_if : Node → Option Act → Node
acted_if n o = elim o [ Some act ↦ acted act n | None ↦ n ]

-- whether this is a volume
abbrev volume_of : Volume → Bool
volume_of v = elim v [ Sound ↦ true | Faulty condition block ↦ false | Barred bar ↦ false | Unknown ↦ false ]

-- what a node is found as whose volume is so
abbrev ReopensAs : Volume → Node → Node → Type 0
ReopensAs v n m = elim v [
  | Sound ↦ (m ≡ reopened n) ⊎ (((act : Act) × (n.under_way ≡ Some act) × (m ≡ reopened (acted act n))) ⊎ ((standing : List ℕ → Map) × MayTurnOut n (Half standing) × (m ≡ reopened (record n { durable = with_half (aborted_prepared n.under_way n.durable) standing n.durable }))))
  | Faulty condition block ↦ m.durable.volume ≡ Faulty condition block
  | Barred bar ↦ m.durable.volume ≡ Barred bar
  | Unknown ↦ m.durable.volume ≡ Unknown
]

lands : (n m : Node) → IsReopened n m → (taken : Bool) × Lands n m taken
lands n m h = go n.durable.volume refl h
  where
    go : (v : Volume) → n.durable.volume ≡ v → ReopensAs v n m → (taken : Bool) × Lands n m taken
    go Sound e k = elim k [
      | inl same ↦ (false, inl (ap volume_of e, ap (λ (x : Node). beside_files x.durable) same))
      | inr (inl done) ↦ (true, inl (ap volume_of e, ap (λ (x : Node). beside_files x.durable) done.2 ∙ sym (ap (λ (o : Option Act). beside_files (acted_if n o).durable) done.1)))
      | inr (inr half) ↦ (false, inl (ap volume_of e, ap (λ (x : Node). beside_files x.durable) half.2 ∙ half_disk n half.0))
    ]
    go (Faulty condition block) e k = (false, inr (ap volume_of e, ap volume_of k))
    go (Barred bar) e k = (false, inr (ap volume_of e, ap volume_of k))
    go Unknown e k = (false, inr (ap volume_of e, ap volume_of k))

-- what such a disk has besides its files decides its image, its volume, and what its last settlement is of

same_image : (n m : Node) → beside_files m.durable ≡ beside_files n.durable → image_of m ≡ image_of n
same_image n m e = ap (λ (d : Durable). image_of (record n { durable = d })) e

same_volume : (n m : Node) → beside_files m.durable ≡ beside_files n.durable → has_volume m ≡ has_volume n
same_volume n m e = ap (λ (d : Durable). has_volume (record n { durable = d })) e

disk_apart : (n m : Node) → beside_files m.durable ≡ beside_files n.durable → IsLastApart n → IsLastApart m
disk_apart n m e h = subst (λ (d : Durable). IsLastApart (record n { durable = d })) (sym e) h

-- however its act under way turned out
landed_apart : (taken : Bool) (n : Node) → IsLastApart n → ((act : Act) → n.under_way ≡ Some act → IsLastApart (acted act n)) → IsLastApart (landed taken n)
landed_apart false n h way = h
landed_apart true n h way = go n.under_way refl
  where
    go : (o : Option Act) → n.under_way ≡ o → IsLastApart (acted_if n o)
    go (Some act) e = way act e
    go None e = h

-- All nodes.

-- the acts under way of these nodes turned out so, as those of the next run show
abbrev pub Turned : List Node → List Node → Resolution → Type 0
Turned ns ms r = (name : Name) (n m : Node) → find_node name ns ≡ Some n → find_node name ms ≡ Some m → Lands n m (r name)

pub turned : (ns ms : List Node) → AreNext ns ms → (r : Resolution) × Turned ns ms r
turned [] [] h = (λ name. false, λ name n m e. let no : ⊥ = cc in absurd no)
turned [] (m ∷ ms) h = absurd h
turned (n ∷ ns) [] h = absurd h
turned (n ∷ ns) (m ∷ ms) h = both (lands n m h.0.reopened) (turned ns ms h.1)
  where
    named : (name : Name) (b : Bool) → bytes_eq name n.name ≡ b → (y : Node) → find_node name (m ∷ ms) ≡ Some y → ◌≡◌ {A = Option Node} (if b then Some m else find_node name ms) (Some y)
    named name b e y f = ap (λ c. if c then Some m else find_node name ms) (sym (ap (bytes_eq name) h.0.named ∙ e)) ∙ f

    both : ((taken : Bool) × Lands n m taken) → ((r : Resolution) × Turned ns ms r) → (r : Resolution) × Turned (n ∷ ns) (m ∷ ms) r
    both (taken, own) (rest, others) = (λ name. if bytes_eq name n.name then taken else rest name, λ name x y e f. go name x y (bytes_eq name n.name) e (named name (bytes_eq name n.name) refl y f))
      where
        go : (name : Name) (x y : Node) (b : Bool) → ◌≡◌ {A = Option Node} (if b then Some n else find_node name ns) (Some x) → ◌≡◌ {A = Option Node} (if b then Some m else find_node name ms) (Some y) → Lands x y (if b then taken else rest name)
        go name x y true e f = subst (λ z. Lands z y taken) (some_is n x e) (subst (λ z. Lands n z taken) (some_is m y f) own)
        go name x y false e f = others name x y e f

-- a node with a volume has one however its act under way turns out
module _ (base v : World) (es : List Entry) (is_run : IsRun base es v) (r : Resolution) (name : Name) (x : Node) (found : find_node name v.nodes ≡ Some x) (has : has_volume x ≡ true) where
  left_image : image_in name (next_opening base r v).images ≡ Some (image_of (landed (r name) x))
  left_image = after_in r v (opening_of base).images name ∙ (λ i. if in_base base v es is_run r name x found has i then Some (image_after (r name) (found i)) else None)

  landed_volume : has_volume (landed (r name) x) ≡ true
  landed_volume = go x.up refl
    where
      had : (f : Face) × ((reached_by base v es is_run r).shows.faces name ≡ Some f) × IsFace (r name) x f
      had = face base v es is_run r name x found has

      go : (b : Bool) → x.up ≡ b → has_volume (landed (r name) x) ≡ true
      go true up = quiet (r name) (up_of_face (r name) x had.0 up had.2).quiet
        where
          quiet : (taken : Bool) → x.under_way ≡ None → has_volume (landed taken x) ≡ true
          quiet false e = has
          quiet true e = ap (λ (o : Option Act). has_volume (acted_if x o)) e ∙ has
      go false down = ap volume_of (down_of_face (r name) x had.0 down had.2).left.volume

-- The next run.

-- the images of the next run, by those that this one leaves, where the acts under way turned out so
module _ (base closing : World) (since : List Entry) (is_run : IsRun base since closing) (leaves : (r : Resolution) → IsAgreeing (next_opening base r closing)) (next : List Node) (are : AreNext closing.nodes next) (names : NamesApart next) where
  abbrev pub r : Resolution
  r = (turned closing.nodes next are).0

  pub turns : (es : List Entry) → MadeAreNew next es → (name : Name) → Turns (next_opening base r closing) (opening_told next es) name
  turns es new name = go (place name closing.nodes next are)
    where
      go : Place name closing.nodes next → Turns (next_opening base r closing) (opening_told next es) name
      go (Nowhere a b) = inr (inl (told_nowhere name next es b))
      go (Both n m a b is) = by (told_so name (volume_image m) es)
        where
          told : image_in name (opening_told next es).images ≡ image_told name (volume_image m) es
          told = told_found name next es m names b

          own : Lands n m (r name) → image_told name (volume_image m) es ≡ volume_image m → Turns (next_opening base r closing) (opening_told next es) name
          own (inl (has, disk)) e = inl (told ∙ e ∙ (λ i. if (same_volume (landed (r name) n) m disk ∙ landed_volume base closing since is_run r name n a has) i then Some (same_image (landed (r name) n) m disk i) else None) ∙ sym (left_image base closing since is_run r name n a has))
          own (inr (gone, none)) e = inr (inl (told ∙ e ∙ ap (λ c. if c then Some (image_of m) else None) none))

          by : IsToldSo (volume_image m) (is_made name es) (image_told name (volume_image m) es) → Turns (next_opening base r closing) (opening_told next es) name
          by (inl (made, e)) = inr (inr (told ∙ e, new name made))
          by (inr (other, inl e)) = own ((turned closing.nodes next are).1 name n m a b) e
          by (inr (other, inr e)) = inr (inl (told ∙ e))

  pub agrees_told : (es : List Entry) → MadeAreNew next es → IsAgreeing (opening_told next es)
  agrees_told es new = agree_anew (next_opening base r closing) (opening_told next es) (turns es new) (leaves r)

pub next_runs_agree : AgreedPromisesAreKept → NextRunsAgree
next_runs_agree promised nodes disks es closing may legal next are =
    let p = promised nodes disks es closing may.opening may.names may.disks may.agree legal in
    let names = same_apart nodes next (next_names closing.nodes next are ∙ legal_names (opened nodes disks) closing es legal) may.names in
    let told = agrees_told p.base closing p.since p.run.is_run p.run.leaves next are names in
    record {
      names = names;
      lasts = all_apart next names (λ name m e. apart p.base p.since p.run.is_run p.told name m e (place name closing.nodes next are));
      agree = told [] (λ n e. let no : ⊥ = cc in absurd no);
      told = told;
      known = λ none name m e f. absurd (known p.base p.since p.run.is_run none name m e f (place name closing.nodes next are));
    }
  where
    known : (base : World) (since : List Entry) → IsRun base since closing → ((name : List ℕ) (n : Node) → find_node name closing.nodes ≡ Some n → n.durable.volume ≡ Unknown → ⊥) → (name : Name) (m : Node) → find_node name next ≡ Some m → m.durable.volume ≡ Unknown → Place name closing.nodes next → ⊥
    known base since is_run none name m e f (Nowhere a b) = let clash : ◌≡◌ {A = Option Node} None (Some m) = sym b ∙ e in let no : ⊥ = cc in no
    known base since is_run none name m e f (Both n y a b is) = by (lands n y is.reopened).0 (lands n y is.reopened).1
      where
        unknown : y.durable.volume ≡ Unknown
        unknown = ap (λ (x : Node). x.durable.volume) (some_is y m (sym b ∙ e)) ∙ f

        has_none : has_volume y ≡ false
        has_none = ap volume_of unknown

        by : (taken : Bool) → Lands n y taken → ⊥
        by taken (inl (has, disk)) = both_ways (has_volume y) has_none (same_volume (landed taken n) y disk ∙ landed_volume base closing since is_run (λ x. taken) name n a has)
        by taken (inr (gone, same)) = none name n a (went n.durable.volume refl is.reopened)
          where
            went : (v : Volume) → n.durable.volume ≡ v → ReopensAs v n y → n.durable.volume ≡ Unknown
            went Sound q k = let clash : true ≡ false = sym (ap volume_of q) ∙ gone in let no : ⊥ = cc in absurd no
            went (Faulty condition block) q k = let clash : Faulty condition block ≡ Unknown = sym k ∙ unknown in let no : ⊥ = cc in absurd no
            went (Barred bar) q k = let clash : Barred bar ≡ Unknown = sym k ∙ unknown in let no : ⊥ = cc in absurd no
            went Unknown q k = q

    -- a node that is left with a volume began with an image
    began : (base : World) (since : List Entry) → IsRun base since closing → opening_of base ≡ opening_told nodes es → (name : Name) (n : Node) → find_node name closing.nodes ≡ Some n → has_volume n ≡ true → (k : Node) → find_node name nodes ≡ Some k → image_told name (volume_image k) es ≡ None → ⊥
    began base since is_run told name n a has k f none = both_ways (is_some (image_in name (opening_of base).images)) (ap (λ (o : Opening). is_some (image_in name o.images)) told ∙ told_out name nodes es k may.names f none) (in_base base closing since is_run (λ x. false) name n a has)

    -- so its last settlement was of no branch that stood unsettled then, or the run made its volume
    started : (base : World) (since : List Entry) → IsRun base since closing → opening_of base ≡ opening_told nodes es → (name : Name) (n : Node) → find_node name closing.nodes ≡ Some n → has_volume n ≡ true → (o : Option Node) → find_node name nodes ≡ o →
        ((k : Node) → find_node name nodes ≡ Some k → IsLastApart k) ⊎ WasMade name es
    started base since is_run told name n a has None none = inl (λ k f. let clash : ◌≡◌ {A = Option Node} None (Some k) = sym none ∙ f in let no : ⊥ = cc in absurd no)
    started base since is_run told name n a has (Some k) f = elim (fits_of es nodes may.disks name k f) [
      | inl last ↦ inl (λ j g. subst IsLastApart (some_is k j (sym f ∙ g)) last)
      | inr how ↦ elim how [
        | inl none ↦ absurd (began base since is_run told name n a has k f none)
        | inr replaced ↦ elim (made_or_none (opened nodes disks) closing name (volume_image k) es legal replaced) [ inl none ↦ absurd (began base since is_run told name n a has k f none) | inr made ↦ inr made ]
      ]
    ]

    apart : (base : World) (since : List Entry) → IsRun base since closing → opening_of base ≡ opening_told nodes es → (name : Name) (m : Node) → find_node name next ≡ Some m → Place name closing.nodes next → IsLastApart m
    apart base since is_run told name m e (Nowhere a b) = let clash : ◌≡◌ {A = Option Node} None (Some m) = sym b ∙ e in let no : ⊥ = cc in absurd no
    apart base since is_run told name m e (Both n y a b is) = subst IsLastApart (some_is y m (sym b ∙ e)) (by (lands n y is.reopened).0 (lands n y is.reopened).1)
      where
        kept : has_volume n ≡ true → IsLastApart n × ((act : Act) → n.under_way ≡ Some act → IsLastApart (acted act n))
        kept has = last_stays_apart nodes disks es closing may.opening name (started base since is_run told name n a has (find_node name nodes) refl) legal n a

        by : (taken : Bool) → Lands n y taken → IsLastApart y
        by taken (inl (has, disk)) = disk_apart (landed taken n) y disk (landed_apart taken n (kept has).0 (kept has).1)
        by taken (inr (gone, none)) = is.bare none

-- Any number of runs.

-- before the first run
new_apart : (n : Node) → IsNew n → IsLastApart n
new_apart n new = go (has_volume n) refl
  where
    none : (o : Option Settlement) → option_map outcome_of o ≡ None → (s : Settlement) → o ≡ Some s → ⊥
    none None e s f = let no : ⊥ = cc in no
    none (Some t) e s f = let no : ⊥ = cc in no

    go : (b : Bool) → has_volume n ≡ b → IsLastApart n
    go true has = λ s e. absurd (none n.durable.last (ap (λ (i : Image). i.last) (new.image has)) s e)
    go false has = new.bare has

module _ (nodes : List Node) (es : List Entry) (names : NamesApart nodes) (new : (name : List ℕ) (n : Node) → find_node name nodes ≡ Some n → IsNew n ⊎ IsReplaced name es) where
  -- each image is none, or that of a new volume
  nothing_told : (name : Name) → (image_in name (opening_told nodes es).images ≡ None) ⊎ (image_in name (opening_told nodes es).images ≡ Some no_image)
  nothing_told name = go (find_node name nodes) refl
    where
      go : (o : Option Node) → find_node name nodes ≡ o → (image_in name (opening_told nodes es).images ≡ None) ⊎ (image_in name (opening_told nodes es).images ≡ Some no_image)
      go None e = inl (told_nowhere name nodes es e)
      go (Some n) e = elim (new name n e) [
        | inl fresh ↦ elim (told_so name (volume_image n) es) [
          | inl made ↦ inr (told ∙ made.1)
          | inr other ↦ elim other.1 [ inl same ↦ first fresh (has_volume n) refl (told ∙ same) | inr gone ↦ inl (told ∙ gone) ]
        ]
        | inr replaced ↦ elim (replaced_told name (volume_image n) es replaced) [ inl none ↦ inl (told ∙ none) | inr anew ↦ inr (told ∙ anew) ]
      ]
        where
          told : image_in name (opening_told nodes es).images ≡ image_told name (volume_image n) es
          told = told_found name nodes es n names e

          first : IsNew n → (b : Bool) → has_volume n ≡ b → image_in name (opening_told nodes es).images ≡ volume_image n → (image_in name (opening_told nodes es).images ≡ None) ⊎ (image_in name (opening_told nodes es).images ≡ Some no_image)
          first fresh true has f = inr (f ∙ (λ i. if has i then Some (image_of n) else None) ∙ ap Some (fresh.image has))
          first fresh false has f = inl (f ∙ (λ i. if has i then Some (image_of n) else None))

  nothing_at : (name : Name) → image_at (opening_told nodes es) name ≡ no_image
  nothing_at name = elim (nothing_told name) [ inl e ↦ ap or_none e | inr e ↦ ap or_none e ]

  tells_none : (name : Name) → TellsNoneOf name (opening_told nodes es)
  tells_none name k told = absurd (nothing told)
    where
      nothing : TellsBranch (opening_told nodes es) k → ⊥
      nothing (Prepared m r i same) = subst (λ (j : Image). In r j.prepared) (nothing_at m) i
      nothing (Committed m r i same) = subst (λ (j : Image). In r j.committed) (nothing_at m) i
      nothing (Waited w) = subst (λ (j : Image). In w.1.0 j.committed) (nothing_at w.0) w.1.1
      nothing (Last out l) = let clash : ◌≡◌ {A = Option (Key × Outcome)} None (Some (k, out)) = sym (ap (λ (j : Image). j.last) (nothing_at l.0)) ∙ l.1 in let no : ⊥ = cc in no
      nothing (Active m i) = subst (λ (j : Image). In k j.units) (nothing_at m) i

  new_agrees : IsAgreeing (opening_told nodes es)
  new_agrees = agree_anew (new_volumes []) (opening_told nodes es) (λ name. inr (elim (nothing_told name) [ inl e ↦ inl e | inr e ↦ inr (e, tells_none name) ])) (new_agree [])

-- what is known of the disks of the first run, or is made on them
abbrev first_known : (es : List Entry) (ns : List Node) → AllByRecursion (λ (n : Node). (IsNew n × IsKnown n) ⊎ IsReplaced n.name es) ns → AreKnownOrAnew es ns
first_known es [] h = tt
first_known es (n ∷ ns) (inl (new, known), rest) = (inl (known, inl (new_apart n new)), first_known es ns rest)
first_known es (n ∷ ns) (inr made, rest) = (inr made, first_known es ns rest)

-- each of its nodes is new, or what its disk had is replaced
first_new : (es : List Entry) (ns : List Node) → AllByRecursion (λ (n : Node). (IsNew n × IsKnown n) ⊎ IsReplaced n.name es) ns → (name : List ℕ) (n : Node) → find_node name ns ≡ Some n → IsNew n ⊎ IsReplaced name es
first_new es ns h name n found =
    let one = node_at (λ (x : Node). (IsNew x × IsKnown x) ⊎ IsReplaced x.name es) ns name n h found in
    elim one [ inl k ↦ inl k.0 | inr made ↦ inr (subst (λ x. IsReplaced x es) (found_name name ns n found) made) ]

next_known : (es : List Entry) (ns : List Node) → AreLastApart ns → AllByRecursion (λ (n : Node). IsKnown n ⊎ IsReplaced n.name es) ns → AreKnownOrAnew es ns
next_known es [] lasts h = tt
next_known es (n ∷ ns) lasts (inl known, rest) = (inl (known, inl lasts.0), next_known es ns lasts.1 rest)
next_known es (n ∷ ns) lasts (inr made, rest) = (inr made, next_known es ns lasts.1 rest)

chain_agrees : AgreedPromisesAreKept → (r : RunOf) (rs : List RunOf) → Follow (r ∷ rs) → MayAgree r.nodes r.entries
chain_agrees promised r [] h =
    record { opening = h.2; names = h.1.0; disks = first_known r.entries r.nodes h.1.1; agree = new_agrees r.nodes r.entries h.1.0 (first_new r.entries r.nodes h.1.1) }
chain_agrees promised r (before ∷ rs) h =
    let left = next_runs_agree promised before.nodes before.disks before.entries before.closing (chain_agrees promised before rs h.0) h.0.3 r.nodes h.1.0 in
    record { opening = h.2; names = left.names; disks = next_known r.entries r.nodes left.lasts h.1.2; agree = left.told r.entries h.1.1 }

pub chains_agree : AgreedPromisesAreKept → ChainsAgree
chains_agree promised r rs h =
    let may = chain_agrees promised r rs h in
    (may, promised r.nodes r.disks r.entries r.closing may.opening may.names may.disks may.agree h.3)

-- Ids of a node whose volume is made.

pub agreeing_are_new : AgreeingAreNew
agreeing_are_new nodes es names agree name n found made k told =
    let old = told_old (opening_told nodes es) agree k told in
    (λ same. none k.tid same old.tid, λ same. none k.serial same old.serial)
  where
    by : IsToldSo (volume_image n) (is_made name es) (image_told name (volume_image n) es) → image_told name (volume_image n) es ≡ Some no_image
    by (inl (done, e)) = e
    by (inr (other, e)) = absurd (both_ways (is_made name es) other made)

    image : image_in name (opening_told nodes es).images ≡ Some no_image
    image = told_found name nodes es n names found ∙ by (told_so name (volume_image n) es)

    none : (x : Id) → x.node ≡ name → OldIn (opening_told nodes es) x → x.boot ≡ 0
    none x same old =
        let there : image_in x.node (opening_told nodes es).images ≡ Some no_image = ap (λ m. image_in m (opening_told nodes es).images) same ∙ image in
        let low : x.boot ≤ 0 = subst (λ (i : Image). x.boot ≤ i.boot) (ap or_none there) (old (ap is_some there)) in
        omega (arith, low)
