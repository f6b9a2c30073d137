-- Recoveries in whole runs.
use Rattle.std.proofs.Common.{◌≡◌, ◌⊎◌, append-nil, ℕ, List, [], ◌∷◌, ◌++◌, Bool, true, false, ◌&&◌, Option, Some, None, refl, sym, ◌∙◌, ap, subst, inl, inr}
use Rattle.std.specs.Str.{bytes_eq}
use Rattle.std.specs.List.{last_or}
use Rattle.std.proofs.lemmas.Bool.{both_ways, false_from_ne_true}
use Rattle.transcript_model.specs.Lines.{Broken, Cause, Normal}
use Rattle.vms_model.specs.Ids.{Id}
use Rattle.vms_model.specs.Transactions.{Abort, Commit, Reason}
use Rattle.script_model.specs.Statements.{At, Reading, Says}
use Rattle.script_model.specs.Grammar.{reading}
use Rattle.transcript_model.specs.commit_protocol.Messages.{LogRecord}
use Rattle.transcript_model.specs.commit_protocol.Table.{Key as BranchKey, Settles}
use Rattle.transcript_model.specs.commit_protocol.World.{In}
use Rattle.recovery_model.specs.unit_laws.Units.{Map}
use Rattle.recovery_model.specs.Opening.{IsOpening}
use Rattle.recovery_laws.specs.run_model.World.{Act, Barred, DiskCounts, Faulty, File, Half, MayTurnOut, Node, Settlement, Sound, Tables, Unknown, Volume, World, aborted_prepared, acted, find_node, opened, state_of, with_half}
use Rattle.recovery_laws.specs.run_model.Answers.{task_service}
use Rattle.recovery_laws.specs.run_model.Transcript.{AreOpening, Entry, Legal, Turn}
use Rattle.recovery_laws.proofs.run_model.NodeLists.{found_name}
use Rattle.recovery_laws.specs.world_laws.Running.{AllFound}
use Rattle.recovery_laws.proofs.world_laws.FileLemmas.{found_mapped, none_empty}
use Rattle.recovery_laws.proofs.world_laws.WorldLemmas.{each_opening}
use Rattle.run_laws.specs.run_agreement.Laws.{Replaces}
use Rattle.run_laws.specs.Accounts.{made_anew}
use Rattle.run_laws.specs.Promises.{settlements_of}
use Rattle.run_laws.proofs.run_agreement.Found.{bytes_itself}
use Rattle.run_laws.proofs.run_agreement.Told.{IsQuiet, replaces_or_quiet, replaces_tells}
use Rattle.run_laws.proofs.DumpsShown.{legal_on, split_on}
use Rattle.run_laws.proofs.Keeping.{Keeps, Kept, Scheme, all_take, any_effect}
use Rattle.run_laws.proofs.InitLines.{init_lines}
use Rattle.run_laws.proofs.MadeAnew.{made_empty, made_says}
use Rattle.run_laws.proofs.Spoilt.{IsShut, Shuts, spoilt_shuts, turn_shuts}
use Rattle.run_laws.proofs.SoundWorlds.{IsPlainReading, Tracked, Tracks, legal_sound, opening_sound, turn_tracked, unused}
use Rattle.run_laws.proofs.Staying.{Stay, found_settled, stays}
use Rattle.run_chains.specs.Reopenings.{IsReopened, rebased_file, reopened}
use Rattle.recovery_laws.specs.Led.{IsTold}
use Rattle.recovery_runs.specs.LastImages.{LastImagesStand}
use Rattle.recovery_runs.proofs.LastImageLemmas.{fewer_last_images, more_last_images}
use Rattle.recovery_laws.proofs.LedLemmas.{told_agree}
use Rattle.recovery_laws.proofs.MappedLemmas.{mapped_give}
use Rattle.recovery_laws.proofs.RecoveringLemmas.{recoveries_give_records}
use Rattle.recovery_runs.specs.Runs.{AreLawful, AreStanding, AreWhole, EndMay, FilesStayTold, FilesStayWhole, HasNoGaps, LastImagesHold, LeftFilesHold, MayOnly, NextFilesHold, NextFilesWhole, NextLastImagesHold, NoFileHasGaps, RecoveriesHold, StandsAt}
use Rattle.recovery_runs.proofs.FilesKept.{ActsKeep, AreSo, Betrays, half_known, scheme, scheme_keeps}
use Rattle.recovery_runs.proofs.ToldKept.{DoStand, HasNone, IsWhole, gapless_acts, standing_acts, told_acts, whole_acts}

stay_after : (w closing : World) (after : List Entry) → Legal w after closing → Stay w closing
stay_after w closing after legal = let r = stays w closing after [] (subst (λ es. Legal w es closing) (sym (append-nil after)) legal) in subst (λ x. Stay x closing) r.1 r.2

-- A fall cuts short the abort of doomed branches alone.
abbrev AbortsDoom : (Doomed : Id → Type 0) → World → List Entry → World → Type 0
AbortsDoom Doomed opening es closing = (later after before : List Entry) (w : World) (node : List ℕ) (n : Node) (k : BranchKey) (reason : Reason) (r : Option LogRecord) (moment : ℕ) → es ≡ later ++ (after ++ before) → Legal opening before w → Legal w after closing →
    find_node node w.nodes ≡ Some n → n.under_way ≡ Some (Tables (Settles k Abort reason r) moment) → Doomed k.serial

-- and it commits only branches that may
abbrev CommitsMay : (may : Id → Bool) → World → Type 0
CommitsMay may closing = (s : Settlement) → In s (settlements_of s.serial.node closing) → s.outcome ≡ Commit → may s.serial ≡ true

-- What each act keeps of a file holds of each file in each world, where it holds of each that the run finds.
module _ (may : Id → Bool) (Doomed : Id → Type 0) (Q : ℕ → File → Type 0) (keeps : ActsKeep may Doomed Q) (node : List ℕ) where
  abbrev Path : Scheme
  Path = scheme may Doomed Q keeps

  abbrev path_keeps : Keeps Path
  path_keeps = scheme_keeps may Doomed Q keeps

  tracks : Tracks Path path_keeps node
  tracks = record {
    own = λ a s stops n task c rises named sound plain ready allowed h. any_effect Path path_keeps s stops n a sound.kept h (unused s n sound)
        (λ off slots journal m none. inr (λ file f e. absurd (none_empty 64 file f e))) task (λ off. all_take Path (λ o. tt) ((task_service task).rows s n)) ready c rises allowed;
    beside = λ a s stops n m task c rises other sound allowed h. h;
  }

  plain_reading : (r : Reading) → IsPlainReading Path path_keeps node tracks r
  plain_reading (Says (At other request)) = go (bytes_eq other node)
    where
      go : (b : Bool) → (b && false) ≡ false
      go true = refl
      go false = refl
  plain_reading (Says _) = tt
  plain_reading _ = tt

  module _ (nodes : List Node) (disks : List DiskCounts) (later : List Entry) (closing : World) (opens : AreOpening nodes) where
    -- of this node's files, unless these entries replace what its disk had
    abbrev AreFound : List Entry → Type 0
    AreFound es = (n : Node) → StandsAt node es (opened nodes disks) n → AllFound (λ file f. Q n.durable.greatest f) n.durable.directory

    opening_kept : AreFound [] → (n : Node) → find_node node nodes ≡ Some n → Kept Path path_keeps tt n
    opening_kept finds n found = let o = each_opening nodes opens node n found in record {
      disk = inr (finds n (found, λ none. none));
      way = λ act e. let clash : ◌≡◌ {A = Option Act} None (Some act) = sym o.under_way ∙ e in let no : ⊥ = cc in absurd no;
      runs = λ up. absurd (both_ways n.up o.down up);
    }

    -- a volume that was just made has no files
    anew_kept : (mid w : World) (e : Entry) → Turn mid (reading e.source.text) e.lines w → made_anew node (reading e.source.text) e.lines ≡ true → Tracked Path path_keeps node tt w
    anew_kept mid w e turn made n found =
        let new = made_empty mid w node (reading e.source.text) e.lines turn made n found in
        let bare : AreSo may Doomed Q keeps n.durable.greatest n.durable.directory = subst (λ (fs : List (Option File)). AreSo may Doomed Q keeps n.durable.greatest fs) (sym new.0) (λ file f there. absurd (none_empty 64 file f there)) in record {
          disk = inr bare;
          way = λ act under. let clash : ◌≡◌ {A = Option Act} None (Some act) = sym new.1 ∙ under in let no : ⊥ = cc in absurd no;
          runs = λ up. inr bare;
        }

    -- or its disk is one whose INIT failed
    path_kept : (es after : List Entry) (w : World) → AreFound es → AbortsDoom Doomed (opened nodes disks) (later ++ (after ++ es)) closing → Legal (opened nodes disks) es w → Legal w after closing → Tracked Path path_keeps node tt w ⊎ Shuts node w
    path_kept [] after w finds doom legal on = inl (subst (Tracked Path path_keeps node tt) (sym legal) (opening_kept finds))
    path_kept (e ∷ es) after w finds doom legal on = by (replaces_or_quiet node e) finds (path_kept es (after ++ e ∷ []) mid)
      where
        mid : World
        mid = legal.0

        behind : Legal mid (after ++ e ∷ []) closing
        behind = legal_on mid w closing e after legal.2 on

        before : AbortsDoom Doomed (opened nodes disks) (later ++ ((after ++ e ∷ []) ++ es)) closing
        before = subst (λ xs. AbortsDoom Doomed (opened nodes disks) xs closing) (sym (ap (λ xs. later ++ xs) (split_on after e es))) doom

        on_from : Tracked Path path_keeps node tt mid → Tracked Path path_keeps node tt w
        on_from kept = turn_tracked Path path_keeps node tracks mid w
            (λ n found k reason r moment under. before later (after ++ e ∷ []) es mid node n k reason r moment refl legal.1 behind found under)
            (reading e.source.text) e.lines tt (plain_reading (reading e.source.text)) legal.2 (legal_sound (opened nodes disks) mid es (opening_sound nodes disks opens) legal.1) kept

        unmade : IsQuiet node e → made_anew node (reading e.source.text) e.lines ≡ false
        unmade quiet = false_from_ne_true _ (λ made.
            let x = made_says node (reading e.source.text) e.lines made in
            replaces_tells node e (record { slots = x.0; journal = x.1; says = x.2; answered = inl (ap (last_or None) x.3) }) quiet)

        inits : (r : Replaces node e) → (last_or None e.lines ≡ Some Normal) ⊎ ((cause : Cause) × (last_or None e.lines ≡ Some (Broken cause))) → Tracked Path path_keeps node tt w ⊎ Shuts node w
        inits r (inl made) =
            let lines : e.lines ≡ Normal ∷ [] = init_lines mid w node r.slots r.journal e.lines (subst (λ (q : Reading). Turn mid q e.lines w) r.says legal.2) made in
            inl (anew_kept mid w e legal.2 ((λ i. made_anew node (r.says i) (lines i)) ∙ bytes_itself node node refl))
        inits r (inr broken) = inr (spoilt_shuts node mid w e r.slots r.journal broken.0 r.says broken.1 legal.2)

        by : Replaces node e ⊎ IsQuiet node e → AreFound (e ∷ es) → (AreFound es → AbortsDoom Doomed (opened nodes disks) (later ++ ((after ++ e ∷ []) ++ es)) closing → Legal (opened nodes disks) es mid → Legal mid (after ++ e ∷ []) closing → Tracked Path path_keeps node tt mid ⊎ Shuts node mid) →
            Tracked Path path_keeps node tt w ⊎ Shuts node w
        by (inl r) law more = inits r r.answered
        by (inr quiet) law more = elim (more (λ n at. law n (at.0, λ k. elim k [ inl r ↦ replaces_tells node e r quiet | inr was ↦ at.1 was ])) before legal.1 behind) [
          | inl kept ↦ inl (on_from kept)
          | inr shut ↦ inr (turn_shuts node mid w (reading e.source.text) e.lines legal.2 (unmade quiet) shut)
        ]

  module _ (nodes : List Node) (disks : List DiskCounts) (later after es : List Entry) (w closing : World) (opens : AreOpening nodes) (finds : AreFound nodes disks later closing opens es) (commits : CommitsMay may closing)
      (doom : AbortsDoom Doomed (opened nodes disks) (later ++ (after ++ es)) closing) (legal : Legal (opened nodes disks) es w) (on : Legal w after closing) (n : Node) (found : find_node node w.nodes ≡ Some n) where
    home : (s : Settlement) → In s n.settled → s.serial.node ≡ node
    home s i = (((legal_sound (opened nodes disks) w es (opening_sound nodes disks opens) legal).once node n found).disk.own s i).0 ∙ found_name node w.nodes n found

    -- no branch was committed that may not
    never : Betrays may Doomed Q keeps n.settled → {A : Type 0} → A
    never b = absurd (both_ways _ b.3 (commits b.0 (subst (λ x. In b.0 (settlements_of x closing)) (sym (home b.0 b.1)) (stay_after w closing after on node b.0 (subst (In b.0) (sym (found_settled node w n found)) b.1))) b.2))

    kept : IsShut n ⊎ Kept Path path_keeps tt n
    kept = elim (path_kept nodes disks later closing opens es after w finds doom legal on) [ inl all ↦ inr (all n found) | inr shut ↦ inl (shut n found) ]

    pub stays_or_shut : IsShut n ⊎ AllFound (λ file f. Q n.durable.greatest f) n.durable.directory
    stays_or_shut = elim kept [ inl shut ↦ inl shut | inr k ↦ inr (elim k.disk [ inr files ↦ files | inl b ↦ never b ]) ]

    pub stays_so : n.unmade ≡ false → AllFound (λ file f. Q n.durable.greatest f) n.durable.directory
    stays_so made = elim stays_or_shut [ inl shut ↦ absurd (both_ways n.unmade made shut.unmade) | inr files ↦ files ]

  -- What of them holds behind the run holds of the files that the next run finds on a disk, whatever turned out of an act that was under way.
  module _ (nodes : List Node) (disks : List DiskCounts) (es : List Entry) (closing : World) (opens : AreOpening nodes) (finds : AreFound nodes disks [] closing opens es) (commits : CommitsMay may closing)
      (doom : AbortsDoom Doomed (opened nodes disks) es closing) (ends : EndMay may closing) (legal : Legal (opened nodes disks) es closing) (Next : ℕ → File → Type 0) (again : (g : ℕ) (f : File) → Q g f → Next g (rebased_file g f))
      (n m : Node) (found : find_node node closing.nodes ≡ Some n) (sound : n.durable.volume ≡ Sound) (reopens : IsReopened n m) where
    abbrev Opens : Type 0
    Opens = (m ≡ reopened n) ⊎ (((act : Act) × (n.under_way ≡ Some act) × (m ≡ reopened (acted act n)))
        ⊎ ((standing : List ℕ → Map) × MayTurnOut n (Half standing) × (m ≡ reopened (record n { durable = with_half (aborted_prepared n.under_way n.durable) standing n.durable }))))

    of_sound : (v : Volume) → v ≡ Sound → (elim v as (λ x. Type 0) [
      | Sound ↦ Opens
      | Faulty condition block ↦ m.durable.volume ≡ Faulty condition block
      | Barred bar ↦ m.durable.volume ≡ Barred bar
      | Unknown ↦ m.durable.volume ≡ Unknown
    ]) → Opens
    of_sound Sound e h = h
    of_sound (Faulty condition block) e h = let no : ⊥ = cc in absurd no
    of_sound (Barred bar) e h = let no : ⊥ = cc in absurd no
    of_sound Unknown e h = let no : ⊥ = cc in absurd no

    nothing_betrayed : Betrays may Doomed Q keeps n.settled → {A : Type 0} → A
    nothing_betrayed = never nodes disks [] [] es closing closing opens finds commits doom legal refl n found

    left : Kept Path path_keeps tt n
    left = elim (kept nodes disks [] [] es closing closing opens finds commits doom legal refl n found) [
      | inl shut ↦ (let clash : Sound ≡ Unknown = sym sound ∙ shut.volume in let no : ⊥ = cc in absurd no)
      | inr k ↦ k
    ]

    -- what holds of a node's files the next run finds
    opens_so : (x : Node) → AreSo may Doomed Q keeps x.durable.greatest x.durable.directory → m ≡ reopened x → AllFound (λ file f. Next m.durable.greatest f) m.durable.directory
    opens_so x h is = subst (λ (y : Node). AllFound (λ file f. Next y.durable.greatest f) y.durable.directory) (sym is)
        (found_mapped (λ file f. Q x.durable.greatest f) (λ file f. Next x.durable.greatest f) (rebased_file x.durable.greatest) x.durable.directory (λ f. refl) (λ file f there k. again x.durable.greatest f k) h)

    go : Opens → AllFound (λ file f. Next m.durable.greatest f) m.durable.directory
    go (inl is) = elim left.disk [ inr h ↦ opens_so n h is | inl b ↦ nothing_betrayed b ]
    go (inr (inl t)) = elim (left.way t.0 t.1) [ inr h ↦ opens_so (acted t.0 n) h t.2 | inl b ↦ absurd (both_ways _ b.3 (ends node n t.0 b.0 found t.1 b.1 b.2)) ]
    go (inr (inr t)) = elim (half_known may Doomed Q keeps n t.0 (λ k reason r moment under. doom [] [] es closing node n k reason r moment refl legal refl found under) t.1 left.disk) [
      | inr h ↦ opens_so (record n { durable = with_half (aborted_prepared n.under_way n.durable) t.0 n.durable }) h t.2
      | inl b ↦ nothing_betrayed b
    ]

    pub next_so : AllFound (λ file f. Next m.durable.greatest f) m.durable.directory
    next_so = go (of_sound n.durable.volume sound reopens)

-- Files of which recovery can tell.

module _ (may waits : Id → Bool) (nodes : List Node) (disks : List DiskCounts) (es : List Entry) (lawful : AreLawful may waits (opened nodes disks) es) (node : List ℕ) where
  found_told : (n : Node) → StandsAt node es (opened nodes disks) n → AllFound (λ file f. IsTold may waits n.durable.greatest f) n.durable.directory
  found_told n left file f there = let l = lawful node n left file f there in inl (record { acts = []; moment = n.durable.greatest; first = state_of f; opening = l.0; commits = l.1; leads = (refl, refl) })

  found_whole : AreWhole (opened nodes disks) es → (n : Node) → StandsAt node es (opened nodes disks) n → AllFound (λ file f. IsWhole may waits n.durable.greatest f) n.durable.directory
  found_whole whole n left file f there =
      let l = lawful node n left file f there in
      let w = whole node n left file f there in
      (inl (record { found = record { acts = []; moment = n.durable.greatest; first = state_of f; opening = l.0; commits = l.1; leads = (refl, refl) }; each = w.gapless.committed; given = w.given }), w.gapless)

  found_standing : AreStanding waits (opened nodes disks) es → (n : Node) → StandsAt node es (opened nodes disks) n → AllFound (λ file f. DoStand may n.durable.greatest f) n.durable.directory
  found_standing stands n left file f there = let l = lawful node n left file f there in more_last_images may waits (state_of f) l.1 l.0.lawful.ai_keys (stands node n left file f there)

pub files_stay_told : FilesStayTold
files_stay_told nodes disks later after es w closing may waits opens lawful only legal on node n found made =
    stays_so may (λ x. may x ≡ false) (IsTold may waits) (told_acts may waits) node nodes disks later after es w closing opens (found_told may waits nodes disks es lawful node) only.commits only.aborts legal on n found made

-- of a node that is up, whose disk is none whose INIT failed
up_files : (n : Node) → n.up ≡ true → {A : Type 0} → IsShut n ⊎ A → A
up_files n up h = elim h [ inl shut ↦ absurd (both_ways n.up shut.down up) | inr all ↦ all ]

whole_now : (may waits : Id → Bool) (n : Node) → AllFound (λ file f. IsWhole may waits n.durable.greatest f) n.durable.directory → AllFound (λ file f. HasNoGaps f) n.durable.directory
whole_now may waits n all file f there = let x = all file f there in record { gapless = x.1; given = (mapped_give may waits n.durable.greatest f x.0).now }

pub files_stay_whole : FilesStayWhole
files_stay_whole nodes disks later after es w closing may waits opens lawful whole only legal on node n found made =
    whole_now may waits n (stays_so may (λ x. may x ≡ false) (IsWhole may waits) (whole_acts may waits) node nodes disks later after es w closing opens (found_whole may waits nodes disks es lawful node whole) only.commits only.aborts legal on n found made)

pub up_files_whole : (nodes : List Node) (disks : List DiskCounts) (later after es : List Entry) (w closing : World) (may waits : Id → Bool) → AreOpening nodes → AreLawful may waits (opened nodes disks) es → AreWhole (opened nodes disks) es → MayOnly may (opened nodes disks) (later ++ (after ++ es)) closing →
    Legal (opened nodes disks) es w → Legal w after closing → (node : List ℕ) (n : Node) → find_node node w.nodes ≡ Some n → n.up ≡ true → AllFound (λ file f. HasNoGaps f) n.durable.directory
up_files_whole nodes disks later after es w closing may waits opens lawful whole only legal on node n found up =
    whole_now may waits n (up_files n up (stays_or_shut may (λ x. may x ≡ false) (IsWhole may waits) (whole_acts may waits) node nodes disks later after es w closing opens (found_whole may waits nodes disks es lawful node whole) only.commits only.aborts legal on n found))

-- without any premise on branches and journals
pub no_file_has_gaps : NoFileHasGaps
no_file_has_gaps nodes disks es w opens gapless legal node n found made =
    stays_so (λ x. true) (λ x. Unit {0}) HasNone (gapless_acts (λ x. true) (λ x. Unit {0})) node nodes disks [] [] es w w opens (gapless node) (λ s i commits. refl) (λ later after before v other m k reason r moment split first on at under. tt) legal refl n found made

pub recoveries_hold : RecoveriesHold
recoveries_hold nodes disks later after es w closing may waits opens lawful only legal on node n found up file way f there first =
    recoveries_give_records w.shared n file way f may waits ((legal_sound (opened nodes disks) w es (opening_sound nodes disks opens) legal).kept node n found) up there first
    (up_files n up (stays_or_shut may (λ x. may x ≡ false) (IsTold may waits) (told_acts may waits) node nodes disks later after es w closing opens (found_told may waits nodes disks es lawful node) only.commits only.aborts legal on n found) file f there)

pub left_files_hold : LeftFilesHold
left_files_hold nodes disks es closing may waits next opens lawful only legal fewer node n found made file f there =
    told_agree may waits next n.durable.greatest f (files_stay_told nodes disks [] [] es closing closing may waits opens lawful only legal refl node n found made file f there) fewer

-- The next run.

pub next_files_hold : NextFilesHold
next_files_hold nodes disks es closing may waits next opens lawful only ends legal fewer node n m found sound again =
    next_so may (λ x. may x ≡ false) (IsTold may waits) (told_acts may waits) node nodes disks es closing opens (found_told may waits nodes disks es lawful node) only.commits only.aborts ends legal (λ g f. IsOpening next g (state_of f))
    (λ g f k. told_agree may waits next g f k fewer) n m found sound again

pub next_files_whole : NextFilesWhole
next_files_whole nodes disks es closing may waits opens lawful whole only ends legal node n m found sound again =
    next_so may (λ x. may x ≡ false) (IsWhole may waits) (whole_acts may waits) node nodes disks es closing opens (found_whole may waits nodes disks es lawful node whole) only.commits only.aborts ends legal (λ g f. HasNoGaps f)
    (λ g f k. record { gapless = record { stands = k.1.stands; committed = k.1.committed }; given = (mapped_give may waits g f k.0).next }) n m found sound again

-- Last after images.

pub last_images_hold : LastImagesHold
last_images_hold nodes disks later after es w closing may waits opens lawful stands only legal on node n found made =
    stays_so (λ x. true) (λ x. may x ≡ false) (DoStand may) (standing_acts may) node nodes disks later after es w closing opens (found_standing may waits nodes disks es lawful node stands) (λ s i commits. refl) only.aborts legal on n found made

pub next_last_images_hold : NextLastImagesHold
next_last_images_hold nodes disks es closing may waits next opens lawful stands only legal fewer node n m found sound again =
    next_so (λ x. true) (λ x. may x ≡ false) (DoStand may) (standing_acts may) node nodes disks es closing opens (found_standing may waits nodes disks es lawful node stands) (λ s i commits. refl) only.aborts (λ other x act s at under i commits. refl) legal
    (λ g f. LastImagesStand next (state_of f)) (λ g f h. fewer_last_images may next (state_of f) fewer h) n m found sound again
