-- What a run leaves whose files agree, the next run finds so again.
use Rattle.std.proofs.Common.{◌≡◌, ◌⊎◌, ℕ, List, [], ◌∷◌, inl, inr, Bool, true, false, ◌&&◌, ◌||◌, Option, Some, None, refl, sym, ◌∙◌, ap, subst}
use Rattle.std.specs.List.{list_any}
use Rattle.std.proofs.lemmas.Bool.{and_from, and_parts, false_from_ne_true}
use Rattle.vms_model.specs.Ids.{Id}
use Rattle.vms_model.specs.Transactions.{Commit}
use Rattle.unit_laws.specs.JournalLaws.{is_unit}
use Rattle.commit_protocol.specs.Messages.{LogRecord, same_id}
use Rattle.commit_protocol.specs.Opening.{Image, IsAgreeing, Opening, Shows as ShowsCommit, commits_in, image_at, no_image, opened as raised}
use Rattle.commit_protocol.specs.Table.{child}
use Rattle.commit_protocol.specs.World.{In, run}
use Rattle.commit_protocol.proofs.Gathered.{is_shown}
use Rattle.commit_protocol.proofs.Lists.{same_id-refl, same_id-true}
use Rattle.recovery_model.specs.Journal.{is_commit}
use Rattle.recovery_model.specs.Opening.{IsOpening}
use Rattle.world_laws.specs.run_model.World.{Act, DiskCounts, File, Node, Settlement, Sound, World, acted, find_node, opened, state_of}
use Rattle.world_laws.specs.run_model.Transcript.{Entry, Legal}
use Rattle.world_laws.proofs.run_model.NodeLists.{found_name, some_is}
use Rattle.world_laws.specs.Running.{AllFound}
use Rattle.world_laws.proofs.NodeLemmas.{acted_name}
use Rattle.run_laws.specs.run_agreement.Following.{opening_of}
use Rattle.run_laws.specs.run_agreement.Laws.{next_opening, opening_told}
use Rattle.run_laws.specs.run_agreement.Seen.{Resolution, has_volume, image_of, landed}
use Rattle.run_laws.proofs.run_agreement.Openings.{reached_by, sound_of}
use Rattle.run_laws.specs.Laws.{AgreedPromises, AgreedPromisesAreKept}
use Rattle.run_laws.specs.Promises.{settlements_of}
use Rattle.run_laws.proofs.Deciding.{any_in, in_any}
use Rattle.run_laws.proofs.SoundWorlds.{legal_sound, opening_sound}
use Rattle.run_laws.proofs.Staying.{after_grows, found_settled}
use Rattle.run_laws.proofs.Undecided.{home}
use Rattle.recovery_runs.specs.run_chains.Chains.{AreNext, Follow, LeftSo, MadeAreNew, MayAgree, RunOf}
use Rattle.recovery_runs.specs.run_chains.Reopenings.{IsReopened}
use Rattle.recovery_runs.proofs.run_chains.Anew.{Turns, prepared_before, shows_in}
use Rattle.recovery_runs.proofs.run_chains.Names.{Both, Nowhere, Place, place}
use Rattle.recovery_runs.proofs.run_chains.Next.{Lands, chains_agree, next_runs_agree, turned, turns}
use Rattle.recovery_runs.specs.LastImages.{LastImagesStand}
use Rattle.recovery_runs.specs.Promises.{FilesAgree, LastImagesAgree, may_yet_commit}
use Rattle.recovery_runs.specs.Runs.{AreLawful, EndMay, HasNoGaps, MayOnly, StandsAt}
use Rattle.recovery_runs.proofs.Awaited.{awaited, lawful_with, recorded}
use Rattle.recovery_runs.proofs.CommittedLemmas.{is_committed}
use Rattle.recovery_runs.proofs.PromiseLemmas.{recovery_promises_hold, whole_of}
use Rattle.recovery_runs.proofs.RunLemmas.{next_files_hold, next_files_whole, next_last_images_hold}
use Rattle.recovery_chains.specs.Chains.{AreBare, FilesAgreeAgain, FilesBegin, LastImageChainsAgree, LastImagesAgreeAgain, RecoveryChainsAgree}
use Rattle.recovery_chains.proofs.Bound.{IsBound, bound_commits, bound_known, bound_there, goes, of_node}
use Rattle.recovery_chains.proofs.Doomed.{doomed_apart, is_doomed}

-- Branches that may commit.

-- what a node has settled, with the act that is under way there
abbrev settled_then : Option Node → List Settlement
settled_then (Some n) = (landed true n).settled
settled_then None = []

-- whether a branch is committed there
abbrev ends_committed : World → Id → Bool
ends_committed w x = list_any (λ (s : Settlement). same_id x s.serial && is_commit s.outcome) (settled_then (find_node x.node w.nodes))

-- The branches that may commit in a run or in an act that is under way at its end, or in the next run.
abbrev may_commit : World → Opening → Id → Bool
may_commit w o x = ends_committed w x || may_yet_commit o x

or_either : (a b : Bool) → (a || b) ≡ true → (a ≡ true) ⊎ (b ≡ true)
or_either true b e = inl refl
or_either false b e = inr e

or_left : (a b : Bool) → a ≡ true → (a || b) ≡ true
or_left true b e = refl
or_left false b e = let no : ⊥ = cc in absurd no

or_right : (a b : Bool) → b ≡ true → (a || b) ≡ true
or_right true b e = refl
or_right false b e = e

-- what a node has settled stays so, whatever turns out of an act
landed_grows : (n : Node) (s : Settlement) → In s n.settled → In s (landed true n).settled
landed_grows n s i = go n.under_way
  where
    go : (o : Option Act) → (let z : Node = elim o [ Some act ↦ acted act n | None ↦ n ] in In s z.settled)
    go (Some act) = after_grows (Some act) n s i
    go None = i

ends_so : (w : World) (n : Node) (s : Settlement) → find_node s.serial.node w.nodes ≡ Some n → In s (landed true n).settled → s.outcome ≡ Commit → ends_committed w s.serial ≡ true
ends_so w n s found i commits = in_any (λ (t : Settlement). same_id s.serial t.serial && is_commit t.outcome) s (settled_then (find_node s.serial.node w.nodes))
    (subst (λ (o : Option Node). In s (settled_then o)) (sym found) i) (and_from _ _ (same_id-refl s.serial) (ap is_commit commits))

-- A run from images that agree, and the images of the next.
module _ (nodes : List Node) (disks : List DiskCounts) (es : List Entry) (closing : World) (may : MayAgree nodes es) (legal : Legal (opened nodes disks) es closing) (a : AgreedPromises (opened nodes disks) es closing)
    (r : Resolution) (next : Opening) (agrees : IsAgreeing next) (turn : (name : List ℕ) → Turns (next_opening a.base r closing) next name) where
  abbrev landing : Resolution
  landing = λ name. true

  -- a branch that may commit is left bound to commit, whether all acts take place that are under way or those that the next run shows
  abbrev Binds : Id → Type 0
  Binds x = (q : Resolution) × (t : Id) × IsBound a.base q closing x t

  ends_bind : (x : Id) → ends_committed closing x ≡ true → Binds x
  ends_bind x e = go (find_node x.node closing.nodes) refl (any_in (λ (s : Settlement). same_id x s.serial && is_commit s.outcome) (settled_then (find_node x.node closing.nodes)) e)
    where
      go : (o : Option Node) → find_node x.node closing.nodes ≡ o → (s : Settlement) × In s (settled_then (find_node x.node closing.nodes)) × ((same_id x s.serial && is_commit s.outcome) ≡ true) → Binds x
      go None is s = absurd (subst (λ (o : Option Node). In s.0 (settled_then o)) is s.1)
      go (Some n) is s =
          let parts = and_parts (same_id x s.0.serial) (is_commit s.0.outcome) s.2 in
          let serial : s.0.serial ≡ x = sym (same_id-true x s.0.serial parts.0) in
          let commits : s.0.outcome ≡ Commit = is_committed s.0.outcome parts.1 in
          (landing, s.0.tid, record { node = n; found = is; how = inl (s.0, subst (λ (o : Option Node). In s.0 (settled_then o)) is s.1, λ j. (child s.0.tid (serial j), commits j)) })

  next_binds : (x : Id) → may_yet_commit next x ≡ true → Binds x
  next_binds x e =
      let c = any_in (λ (q : LogRecord). same_id x q.serial && list_any (same_id q.tid) (commits_in next)) (image_at next x.node).prepared e in
      let parts = and_parts (same_id x c.0.serial) (list_any (same_id c.0.tid) (commits_in next)) c.2 in
      let t = any_in (same_id c.0.tid) (commits_in next) parts.1 in
      let shown : ShowsCommit next c.0.tid = subst (ShowsCommit next) (sym (same_id-true c.0.tid t.0 t.2)) ((is_shown next agrees).shown_is t.0 t.1) in
      by c.0 (prepared_before (next_opening a.base r closing) next turn x.node c.0 c.1) (sym (same_id-true x c.0.serial parts.0)) (shows_in (next_opening a.base r closing) next turn c.0.tid shown) (of_node a.base closing a.since a.run.is_run r x.node)
    where
      by : (q : LogRecord) → In q (image_at (next_opening a.base r closing) x.node).prepared → q.serial ≡ x → ShowsCommit (next_opening a.base r closing) q.tid →
          (image_at (next_opening a.base r closing) x.node ≡ no_image) ⊎ ((n : Node) × (find_node x.node closing.nodes ≡ Some n) × (has_volume n ≡ true) × (image_at (next_opening a.base r closing) x.node ≡ image_of (landed (r x.node) n))) → Binds x
      by q i serial shown (inl none) = absurd (subst (λ (j : Image). In q j.prepared) none i)
      by q i serial shown (inr n) =
          (r, q.tid, record { node = n.0; found = n.1; how = inr (n.2, (q, subst (λ (j : Image). In q j.prepared) n.3 i, λ j. child q.tid (serial j)), shown) })

  binds : (x : Id) → may_commit closing next x ≡ true → Binds x
  binds x e = elim (or_either (ends_committed closing x) (may_yet_commit next x) e) [ inl h ↦ ends_bind x h | inr h ↦ next_binds x h ]

  -- The run commits such branches alone, and aborts none of them whose abort a fall found under way.
  only : MayOnly (may_commit closing next) (opened nodes disks) es closing
  only = record {
    commits = λ s i commits. or_left (ends_committed closing s.serial) (may_yet_commit next s.serial) (settled s i commits);
    aborts = λ later after before w node n k reason q moment split first on found under. false_from_ne_true _ (λ e.
        let b = binds k.serial e in
        let sound = legal_sound (opened nodes disks) w before (opening_sound nodes disks may.opening) first in
        let here : find_node k.serial.node w.nodes ≡ Some n = subst (λ y. find_node y w.nodes ≡ Some n) (sym (home w sound node n found k reason q moment under)) found in
        let doomed = is_doomed nodes disks es closing may legal later after before w split first on n k reason q moment here under in
        doomed_apart a.base closing a.since a.run.is_run b.0 k doomed b.1 b.2);
  }
    where
      settled : (s : Settlement) → In s (settlements_of s.serial.node closing) → s.outcome ≡ Commit → ends_committed closing s.serial ≡ true
      settled s i commits = go (find_node s.serial.node closing.nodes) refl
        where
          go : (o : Option Node) → find_node s.serial.node closing.nodes ≡ o → ends_committed closing s.serial ≡ true
          go (Some n) is = ends_so closing n s is (landed_grows n s (subst (In s) (found_settled s.serial.node closing n is) i)) commits
          go None is = absurd (subst (λ (o : Option Node). In s (elim o as (λ z. List Settlement) [ Some n ↦ n.settled | None ↦ [] ])) is i)

  end_may : EndMay (may_commit closing next) closing
  end_may node n act s found under i commits = or_left (ends_committed closing s.serial) (may_yet_commit next s.serial) (ends_so closing n s here there commits)
    where
      own : s.serial.node ≡ node
      own = ((((legal_sound (opened nodes disks) closing es (opening_sound nodes disks may.opening) legal).once node n found).way act under).own s i).0 ∙ acted_name act n ∙ found_name node closing.nodes n found

      here : find_node s.serial.node closing.nodes ≡ Some n
      here = subst (λ y. find_node y closing.nodes ≡ Some n) (sym own) found

      there : In s (landed true n).settled
      there = subst (λ (o : Option Act). (let z : Node = elim o [ Some x ↦ acted x n | None ↦ n ] in In s z.settled)) (sym under) i

  -- One that had changed something before is one of those that may commit by the images with which the run began.
  waits : (x : Id) (n : Node) → StandsAt x.node es (opened nodes disks) n → is_unit x n.durable.units ≡ true → may_commit closing next x ≡ true → may_yet_commit (opening_of a.base) x ≡ true
  waits x n left unit e = by (binds x e)
    where
      by : Binds x → may_yet_commit (opening_of a.base) x ≡ true
      by (q, t, b) =
          let there = bound_there a.base closing a.since a.run.is_run q x t b in
          let goes_on = goes a.base closing a.since a.run.is_run q in
          let reached = reached_by a.base closing a.since a.run.is_run q in
          awaited nodes disks es closing may.opening may.names legal a x n left unit there t
          (bound_known a.base q closing x t b (λ u. (c : LogRecord) × In c (image_at (opening_of a.base) x.node).prepared × (c.serial ≡ x) × (c.tid ≡ u)) (recorded nodes disks es closing may.opening may.names legal a x n left unit there (q x.node) b.node b.found))
          (λ dead. (goes_on.later.dead t dead).commits (bound_commits a.base closing a.since a.run.is_run q (opening_of a.base) a.run.is_run.agrees (run reached.steps (raised (opening_of a.base))) goes_on reached.shows x t b).0)

  abbrev agreed : Id → Bool
  agreed = may_yet_commit (opening_told nodes es)

  lawful : FilesAgree (opened nodes disks) es → AreLawful (may_commit closing next) agreed (opened nodes disks) es
  lawful = lawful_with nodes disks es closing may.opening may.names legal a (may_commit closing next) waits

  next_may : (x : Id) → may_yet_commit next x ≡ true → may_commit closing next x ≡ true
  next_may x = or_right (ends_committed closing x) (may_yet_commit next x)

  left_agree : FilesAgree (opened nodes disks) es → (node : List ℕ) (n m : Node) → find_node node closing.nodes ≡ Some n → n.durable.volume ≡ Sound → IsReopened n m →
      AllFound (λ file f. IsOpening (may_yet_commit next) m.durable.greatest (state_of f) × HasNoGaps f) m.durable.directory
  left_agree agree node n m found sound again file f there = (
    next_files_hold nodes disks es closing (may_commit closing next) agreed (may_yet_commit next) may.opening (lawful agree) only end_may legal next_may node n m found sound again file f there,
    next_files_whole nodes disks es closing (may_commit closing next) agreed may.opening (lawful agree) (whole_of (opened nodes disks) es agree) only end_may legal node n m found sound again file f there,
  )

  left_stand : FilesAgree (opened nodes disks) es → LastImagesAgree (opened nodes disks) es → (node : List ℕ) (n m : Node) → find_node node closing.nodes ≡ Some n → n.durable.volume ≡ Sound → IsReopened n m →
      AllFound (λ file f. LastImagesStand (may_yet_commit next) (state_of f)) m.durable.directory
  left_stand agree stand node n m found sound again =
      next_last_images_hold nodes disks es closing (may_commit closing next) agreed (may_yet_commit next) may.opening (lawful agree) stand only legal next_may node n m found sound again

-- The next run.

module _ (promised : AgreedPromisesAreKept) (nodes : List Node) (disks : List DiskCounts) (es : List Entry) (closing : World) (may : MayAgree nodes es) (legal : Legal (opened nodes disks) es closing)
    (next : List Node) (are : AreNext closing.nodes next) (others : List DiskCounts) (fs : List Entry) (bare : AreBare (opened next others) fs) (new : MadeAreNew next fs) where
  a : AgreedPromises (opened nodes disks) es closing
  a = promised nodes disks es closing may.opening may.names may.disks may.agree legal

  so : LeftSo closing next
  so = next_runs_agree promised nodes disks es closing may legal next are

  abbrev told : Opening
  told = opening_told next fs

  abbrev turning : Resolution
  turning = (turned closing.nodes next are).0

  turn : (name : List ℕ) → Turns (next_opening a.base turning closing) told name
  turn = turns a.base closing a.since a.run.is_run a.run.leaves next are so.names fs new

  -- What holds of the files on a disk that this run leaves sound, as the next run finds it, holds of each file that this one finds.
  found_so : (Q : ℕ → File → Type 0) →
      ((node : List ℕ) (n m : Node) → find_node node closing.nodes ≡ Some n → n.durable.volume ≡ Sound → IsReopened n m → AllFound (λ file f. Q m.durable.greatest f) m.durable.directory) →
      (node : List ℕ) (m : Node) → StandsAt node fs (opened next others) m → AllFound (λ file f. Q m.durable.greatest f) m.durable.directory
  found_so Q leaves node m left = go (place node closing.nodes next are)
    where
      there : find_node node next ≡ Some m
      there = left.0

      go : Place node closing.nodes next → AllFound (λ file f. Q m.durable.greatest f) m.durable.directory
      go (Nowhere x y) = let clash : ◌≡◌ {A = Option Node} None (Some m) = sym y ∙ there in let no : ⊥ = cc in absurd no
      go (Both n y found at is) = by ((turned closing.nodes next are).1 node n m found there)
        where
          by : Lands n m ((turned closing.nodes next are).0 node) → AllFound (λ file f. Q m.durable.greatest f) m.durable.directory
          by (inl has) = leaves node n m found (sound_of n has.0) (subst (λ (x : Node). IsReopened n x) (some_is y m (sym at ∙ there)) is.reopened)
          by (inr none) = λ file f e. absurd (bare node m left none.1 file f e)

  again : FilesAgree (opened nodes disks) es → FilesAgree (opened next others) fs
  again agree = found_so (λ g f. IsOpening (may_yet_commit told) g (state_of f) × HasNoGaps f) (left_agree nodes disks es closing may legal a turning told (so.told fs new) turn agree)

  stand_again : FilesAgree (opened nodes disks) es → LastImagesAgree (opened nodes disks) es → LastImagesAgree (opened next others) fs
  stand_again agree stand = found_so (λ g f. LastImagesStand (may_yet_commit told) (state_of f)) (left_stand nodes disks es closing may legal a turning told (so.told fs new) turn agree stand)

pub files_agree_again : AgreedPromisesAreKept → FilesAgreeAgain
files_agree_again promised nodes disks es closing may legal agree next are others fs bare new = again promised nodes disks es closing may legal next are others fs bare new agree

pub last_images_agree_again : AgreedPromisesAreKept → LastImagesAgreeAgain
last_images_agree_again promised nodes disks es closing may legal agree stand next are others fs bare new = stand_again promised nodes disks es closing may legal next are others fs bare new agree stand

-- Any number of runs.

chain_files : AgreedPromisesAreKept → (r : RunOf) (rs : List RunOf) → Follow (r ∷ rs) → FilesBegin r rs → FilesAgree (opened r.nodes r.disks) r.entries
chain_files promised r [] follow begins = begins
chain_files promised r (before ∷ rs) follow begins =
    files_agree_again promised before.nodes before.disks before.entries before.closing (chains_agree promised before rs follow.0).0 follow.0.3 (chain_files promised before rs follow.0 begins.0)
    r.nodes follow.1.0 r.disks r.entries begins.1 follow.1.1

pub recovery_chains_agree : AgreedPromisesAreKept → RecoveryChainsAgree
recovery_chains_agree promised r rs follow begins =
    let files = chain_files promised r rs follow begins in
    let may = (chains_agree promised r rs follow).0 in
    (files, (recovery_promises_hold promised r.nodes r.disks r.entries r.closing may.opening follow.3).agree may.names may.disks may.agree files)

pub last_image_chains_agree : AgreedPromisesAreKept → LastImageChainsAgree
last_image_chains_agree promised r [] follow files stand = stand
last_image_chains_agree promised r (before ∷ rs) follow files stand =
    last_images_agree_again promised before.nodes before.disks before.entries before.closing (chains_agree promised before rs follow.0).0 follow.0.3 (chain_files promised before rs follow.0 files.0)
    (last_image_chains_agree promised before rs follow.0 files.0 stand) r.nodes follow.1.0 r.disks r.entries files.1 follow.1.1
