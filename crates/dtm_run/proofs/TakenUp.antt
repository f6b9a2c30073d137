-- A disk that the next run takes up: on it stands the node that the run left.
use Rattle.std.proofs.Common.{◌≡◌, ◌⊎◌, ⊎_elim, inl, inr, map, ℕ, List, [], ◌∷◌, Bool, true, false, Option, Some, None, refl, sym, ◌∙◌, ap, subst}
use Rattle.block_disk.specs.Disk.{DiskState}
use Rattle.careful_write.specs.Content.{content_of}
use Rattle.careful_write.specs.Load.{fitting}
use Rattle.careful_write.specs.State.{EachWhole}
use Rattle.volume.specs.Conditions.{IsFirstFinding}
use Rattle.unit_laws.specs.Units.{Map}
use Rattle.world_laws.specs.run_model.World.{Act, Barred, Boots, Durable, Faulty, Half, IsOpening, LastIsReached, MayTurnOut, Node, Settlement, Shared, Sound, Bar, Unknown, Volume, aborted_prepared, acted, durable_after, opened, powered, with_half}
use Rattle.world_laws.specs.run_model.World.{find_node}
use Rattle.world_laws.specs.run_model.Transcript.{AreOpening}
use Rattle.world_laws.proofs.run_model.NodeLists.{found_name}
use Rattle.statement_steps.specs.run_agreement.Laws.{NamesApart}
use Rattle.run_laws.proofs.Keeping.{Kept}
use Rattle.run_laws.proofs.Once.{once, once_keeps}
use Rattle.run_laws.proofs.SoundWorlds.{legal_sound, opening_sound}
use Rattle.vms_model.specs.Ids.{Id}
use Rattle.world_laws.specs.Nodes.{IsKeptDisk, IsKeptNode, IsOf, NodesAreKept, on}
use Rattle.world_laws.proofs.NodeLemmas.{acted_disk, acted_name, kept_as, powered_ready}
use Rattle.recovery_units.specs.volume_model.Volumes.{HasBarred, IsLeftBy, half_done}
use Rattle.volume_laws.specs.Falls.{VolumeFalls}
use Rattle.day_run.specs.node_standing.Standing.{counts_of}
use Rattle.day_run.proofs.dtm_node.DiskLemmas.{DiskBy, have_disk}
use Rattle.dtm_run.specs.Headline.{DiskRepresents, DisksRepresent, IsVolumeOf, LeaveNodes, LeavesNode}
use Rattle.recovery_runs.specs.run_chains.Chains.{AreNext, IsNext}
use Rattle.recovery_runs.specs.run_chains.Reopenings.{IsReopened, reopened}
use Rattle.recovery_runs.proofs.run_chains.Names.{found_behind, found_first, legal_names, names_of, same_apart}
use Rattle.dtm_run.specs.Reopenings.{AreTakenUp, IsTakenUp, LeftNodesOpen, LeftRacksOpen}
use Rattle.dtm_run.proofs.Contents.{content_is}
use Rattle.dtm_run.proofs.Opened.{all_have, is_told, nothing_durable, nothing_opening, resting_node, unknown_node, unknown_stands}
use Rattle.dtm_run.proofs.Reopening.{opens_again, stands_again}
use Rattle.dtm_run.proofs.TopLemmas.{stand_names}

abbrev ReopenedBy : Node → Node → Volume → Type 0
ReopenedBy n m v = elim v [
  | Sound ↦ (m ≡ reopened n) ⊎ (((act : Act) × (n.under_way ≡ Some act) × (m ≡ reopened (acted act n))) ⊎ ((standing : List ℕ → Map) × MayTurnOut n (Half standing) × (m ≡ reopened (half_done standing n))))
  | Faulty condition block ↦ m.durable.volume ≡ Faulty condition block
  | Barred bar ↦ m.durable.volume ≡ Barred bar
  | Unknown ↦ m.durable.volume ≡ Unknown
]

abbrev volume_of : Volume → Bool
volume_of v = elim v [ Sound ↦ true | Faulty condition block ↦ false | Barred bar ↦ false | Unknown ↦ false ]

same_blocks : (act : Act) (n : Node) → (acted act n).blocks ≡ n.blocks
same_blocks Boots n = refl
same_blocks _ n = refl

-- What is known of the node: of its disk, also after the act that was under way, and with a part of it; and the last settlement is of this node.

last_is : (n : Node) (o : Option Settlement) → ((s : Settlement) → o ≡ Some s → IsOf n.name n.durable.boot s.serial) → LastIsReached n o
last_is n None h = tt
last_is n (Some s) h = h s refl

half_last : (o : Option Id) (standing : List ℕ → Map) (d : Durable) → ((with_half o standing d).last ≡ d.last) × ((with_half o standing d).boot ≡ d.boot)
half_last None standing d = (refl, refl)
half_last (Some serial) standing d = (refl, refl)

half_kept : (n : Node) (s : Shared) (standing : List ℕ → Map) → IsKeptNode s n → MayTurnOut n (Half standing) → IsKeptDisk (half_done standing n)
half_kept n s standing k may = kept_as (powered (Half standing) 0 n) (half_done standing n) refl refl (powered_ready (Half standing) 0 s n may k).disk

acted_kept : (n : Node) (s : Shared) (act : Act) → IsKeptNode s n → n.under_way ≡ Some act → IsKeptDisk (acted act n)
acted_kept n s act k way = let w = k.way act way in kept_as (on (durable_after act n.volatile n.durable) n) (acted act n) (acted_name act n) (acted_disk act n w.0) w.1

-- On such a disk.
module _ (name : List ℕ) (n : Node) (shared : Shared) (named : n.name ≡ name) (kept : IsKeptNode shared n) (lasts : Kept once once_keeps tt n) (before left next : DiskState) (l : LeavesNode before n left) (t : IsTakenUp left next) where
  abbrev Opens : Type 0
  Opens = (m : Node) × IsOpening m × DiskRepresents name next m × IsNext n m

  content : List (List ℕ)
  content = content_of t.image

  whole : EachWhole (content_of t.image)
  whole = (content_is next.size t.image t.least t.whole t.bytes).whole

  sized : n.blocks ≡ next.size
  sized = l.blocks ∙ sym t.size

  stands : (m : Node) → m.name ≡ name → m.blocks ≡ next.size → fitting t.image ≡ true → IsLeftBy (content_of t.image) m → DiskRepresents name next (reopened m)
  stands m is_name is_sized fits has = stands_again name next m t.image is_name is_sized t.told t.settled t.counted whole fits has

  -- a node that has a volume
  with_volume : (x : Node) → x.name ≡ name → x.durable.volume ≡ Sound → IsReopened n (reopened x) → IsNext n (reopened x)
  with_volume x is_name sound again = record {
    named = is_name ∙ sym named;
    reopened = again;
    bare = λ none. (let clash : true ≡ false = sym (ap volume_of sound) ∙ none in let no : ⊥ = cc in absurd no);
  }

  -- one that has none, and whose disk tells no last settlement
  without : (m : Node) → m.name ≡ name → m.durable.last ≡ None → IsReopened n m → IsNext n m
  without m is_name none again = record {
    named = is_name ∙ sym named;
    reopened = again;
    bare = λ bare s e. (let clash : ◌≡◌ {A = Option Settlement} None (Some s) = sym none ∙ e in let no : ⊥ = cc in absurd no);
  }

  -- it left this
  same_opens : n.durable.volume ≡ Sound → fitting t.image ≡ true → IsLeftBy (content_of t.image) n → Opens
  same_opens sound fits has = (
    reopened n,
    opens_again (content_of t.image) has.catalog n (has.leaves whole) kept.disk (last_is n n.durable.last lasts.disk.last),
    stands n named sized fits has,
    with_volume n named sound (subst (ReopenedBy n (reopened n)) (sym sound) (inl refl)),
  )

  -- or this after the act that was under way
  acted_opens : n.durable.volume ≡ Sound → fitting t.image ≡ true → (act : Act) → n.under_way ≡ Some act → IsLeftBy (content_of t.image) (acted act n) → Opens
  acted_opens sound fits act way has = (
    reopened (acted act n),
    opens_again (content_of t.image) has.catalog (acted act n) (has.leaves whole) (acted_kept n shared act kept way) (last_is (acted act n) (acted act n).durable.last (lasts.way act way).last),
    stands (acted act n) (acted_name act n ∙ named) (same_blocks act n ∙ sized) fits has,
    with_volume (acted act n) (acted_name act n ∙ named) (has.leaves whole).home.volume (subst (ReopenedBy n (reopened (acted act n))) (sym sound) (inr (inl (act, way, refl)))),
  )

  -- or this with a part of it
  half_opens : n.durable.volume ≡ Sound → fitting t.image ≡ true → (standing : List ℕ → Map) → MayTurnOut n (Half standing) → IsLeftBy (content_of t.image) (half_done standing n) → Opens
  half_opens sound fits standing may has =
      let last = half_last (aborted_prepared n.under_way n.durable) standing n.durable in (
        reopened (half_done standing n),
        opens_again (content_of t.image) has.catalog (half_done standing n) (has.leaves whole) (half_kept n shared standing kept may)
            (last_is (half_done standing n) (half_done standing n).durable.last (λ s e. subst (λ b. IsOf n.name b s.serial) (sym last.1) (lasts.disk.last s (sym last.0 ∙ e)))),
        stands (half_done standing n) named sized fits has,
        with_volume (half_done standing n) named (has.leaves whole).home.volume (subst (ReopenedBy n (reopened (half_done standing n))) (sym sound) (inr (inr (standing, may, refl)))),
      )

  faulty_left : (condition block : ℕ) → n.durable.volume ≡ Faulty condition block → IsFirstFinding n.name (fitting t.image) (content_of t.image) condition block → Opens
  faulty_left condition block faulty first =
      let m : Node = resting_node name next.size (nothing_durable (Faulty condition block)) in (
        m,
        nothing_opening name next.size (Faulty condition block),
        record {
          name_is = refl;
          blocks = refl;
          told = is_told next.seen t.image t.told;
          counted = t.counted;
          has = have_disk m (fitting t.image) (content_of t.image) next refl (all_have next t.image t.told t.settled) (subst (λ x. IsFirstFinding x (fitting t.image) (content_of t.image) condition block) named first);
        },
        without m refl refl (subst (ReopenedBy n m) (sym faulty) refl),
      )

  barred_left : (bar : Bar) → n.durable.volume ≡ Barred bar → fitting t.image ≡ true → HasBarred n.name n.blocks bar (content_of t.image) → Opens
  barred_left bar barred fits has =
      let m : Node = resting_node name next.size (nothing_durable (Barred bar)) in (
        m,
        nothing_opening name next.size (Barred bar),
        record {
          name_is = refl;
          blocks = refl;
          told = is_told next.seen t.image t.told;
          counted = t.counted;
          has = have_disk m (fitting t.image) (content_of t.image) next refl (all_have next t.image t.told t.settled) (fits, subst (λ x. HasBarred x next.size bar (content_of t.image)) named (subst (λ x. HasBarred n.name x bar (content_of t.image)) sized has));
        },
        without m refl refl (subst (ReopenedBy n m) (sym barred) refl),
      )

  unknown_left : n.durable.volume ≡ Unknown → Opens
  unknown_left unknown = (
    unknown_node name next.size,
    nothing_opening name next.size Unknown,
    unknown_stands name next (is_told next.seen t.image t.told) t.counted,
    without (unknown_node name next.size) refl refl (subst (ReopenedBy n (unknown_node name next.size)) (sym unknown) refl),
  )

  down_opens : (v : Volume) → n.durable.volume ≡ v → DiskBy n left v → Opens
  down_opens Sound e has =
      let i = has t.image t.may in
      ⊎_elim (λ same. same_opens e i.0 same) (λ later. ⊎_elim (λ x. acted_opens e i.0 x.0 x.1 x.2) (λ y. half_opens e i.0 y.0 y.1 y.2) later) i.1
  down_opens (Faulty condition block) e has = faulty_left condition block e (has.0 t.image t.may)
  down_opens (Barred bar) e has = let i = has.0 t.image t.may in barred_left bar e i.0 i.1
  down_opens Unknown e has = unknown_left e

  pub taken_up : VolumeFalls → Opens
  taken_up falls = go n.up refl
    where
      up_opens : (fitting t.image ≡ true) × IsVolumeOf (content_of t.image) n → Opens
      up_opens i =
          let v = i.1 in
          same_opens v.has.home.volume i.0 (record { catalog = v.catalog; tells = v.tells; sound = v.sound; leaves = λ each. falls (content_of t.image) v.catalog n v.has })

      go : (b : Bool) → n.up ≡ b → Opens
      go true e = up_opens (l.up e t.image t.may)
      go false e = down_opens n.durable.volume refl (l.down e)

pub left_nodes_open : NodesAreKept → VolumeFalls → LeftNodesOpen
left_nodes_open law falls nodes disks es closing opening legal name n found before left next l t =
    taken_up name n closing.shared (found_name name closing.nodes n found) (law nodes disks es closing opening legal name n found) ((legal_sound (opened nodes disks) closing es (opening_sound nodes disks opening) legal).once name n found) before left next l t falls

-- So of a rack.

abbrev EachOpens : List Node → Type 0
EachOpens ns = (name : List ℕ) (n : Node) → find_node name ns ≡ Some n → (before left next : DiskState) → LeavesNode before n left → IsTakenUp left next → (m : Node) × IsOpening m × DiskRepresents name next m × IsNext n m

each_opens : (ns : List Node) → NamesApart ns → EachOpens ns → (before left next : List DiskState) → LeaveNodes before ns left → AreTakenUp left next → (ms : List Node) × AreOpening ms × DisksRepresent (names_of ns) next ms × AreNext ns ms
each_opens [] apart each [] [] [] l t = ([], tt, tt, tt)
each_opens [] apart each [] [] (x ∷ nexts) l t = absurd t
each_opens [] apart each [] (x ∷ lefts) nexts l t = absurd l
each_opens [] apart each (x ∷ before) lefts nexts l t = absurd l
each_opens (n ∷ ns) apart each [] lefts nexts l t = absurd (none lefts l)
  where
    none : (lefts : List DiskState) → LeaveNodes [] (n ∷ ns) lefts → ⊥
    none [] h = h
    none (x ∷ xs) h = h
each_opens (n ∷ ns) apart each (b ∷ before) [] nexts l t = absurd l
each_opens (n ∷ ns) apart each (b ∷ before) (x ∷ lefts) [] l t = absurd t
each_opens (n ∷ ns) apart each (b ∷ before) (x ∷ lefts) (y ∷ nexts) l t =
    let one = each n.name n (found_first n ns) b x y l.0 t.0 in
    let more = each_opens ns apart.1 (λ name m e. each name m (found_behind n ns apart.0 name m e)) before lefts nexts l.1 t.1 in
    (one.0 ∷ more.0, (one.1, more.1), (one.2, more.2), (one.3, more.3))

pub left_racks_open : LeftNodesOpen → LeftRacksOpen
left_racks_open law names nodes before left next es closing opening apart stand legal l t =
    let same : names_of closing.nodes ≡ names = legal_names (opened nodes (map counts_of before)) closing es legal ∙ sym (stand_names names before nodes stand) in
    let now = each_opens closing.nodes (same_apart nodes closing.nodes (legal_names (opened nodes (map counts_of before)) closing es legal) apart) (λ name n found b x y. law nodes (map counts_of before) es closing opening legal name n found b x y) before left next l t in
    (now.0, now.1, subst (λ xs. DisksRepresent xs next now.0) same now.2, now.3)
