-- Where the images agree with which a run begins, aborts stand.
use Rattle.std.proofs.Common.{◌≡◌, ℕ, ◌⊎◌, List, [], ◌∷◌, ◌++◌, inl, inr, Bool, true, false, Option, Some, None, if◌then◌else◌, refl, sym, ◌∙◌, ap, subst}
use Rattle.std.specs.List.{last_or}
use Rattle.std.proofs.lemmas.Bool.{both_ways, cases_Bool}
use Rattle.std.proofs.lemmas.List.{append_assoc}
use Rattle.vms_model.specs.Ids.{Id}
use Rattle.vms_model.specs.Transactions.{Reason}
use Rattle.run_said.specs.transcript_model.Lines.{Broken, Cause, Line, Normal}
use Rattle.run_said.specs.script_model.Statements.{Reading, Blank, Says, Bad}
use Rattle.run_said.specs.script_model.Grammar.{reading}
use Rattle.commit_protocol.specs.Messages.{LogRecord, Name, same_id}
use Rattle.commit_protocol.specs.Table.{Key as BranchKey}
use Rattle.commit_protocol.specs.World as protocol
use Rattle.commit_protocol.specs.World.{In}
use Rattle.commit_protocol.specs.Agreement.{IsDead, view}
use Rattle.commit_protocol.proofs.Acting.{Good}
use Rattle.commit_protocol.proofs.Lists.{same_id-refl, same_id-true}
use Rattle.run_said.specs.log_laws.Slots.{prepared_of, records_in}
use Rattle.run_said.specs.run_model.World.{World, Node, Act, DiskCounts, find_node, opened}
use Rattle.run_said.specs.run_model.Transcript.{Entry, Legal, AreOpening, Turn}
use Rattle.run_agreement.specs.Seen.{Resolution, has_volume}
use Rattle.commit_protocol.specs.Opening.{Image, IsAgreeing, Opening, in_rack}
use Rattle.run_agreement.specs.Following.{Shows, opening_of}
use Rattle.run_agreement.specs.Laws.{AreKnownOrReplaced, IsReplaced, IsRun, NamesApart, Replaces, RunsFrom, image_here, image_told, opening_told, volume_image}
use Rattle.run_agreement.proofs.Found.{bytes_itself}
use Rattle.run_agreement.proofs.Openings.{reached_by}
use Rattle.run_agreement.proofs.Told.{IsQuiet, base_sure, quiet_images, replaces_or_quiet, runs_begin, runs_tell_no_more, unused_are_told, used_replace_none, used_sure, used_tell_no_more}
use Rattle.recovery_laws.proofs.world_laws.WorldLemmas.{each_opening}
use Rattle.run_laws.specs.Accounts.{made_anew}
use Rattle.run_laws.specs.Anew.{Makes}
use Rattle.run_laws.specs.Promises.{AbortsStand, IsNeverCommitted}
use Rattle.run_said.specs.Said.{Said}
use Rattle.run_laws.proofs.TurnsTell.{legal_told}
use Rattle.run_laws.specs.Laws.{AgreedAbortsStand, AgreedDumpsHold, AllAgree, ToldAgree}
use Rattle.run_laws.proofs.AbortsHeld.{IsAborting, Leaves, Told, same_leaves, step_leaves}
use Rattle.run_laws.proofs.DumpsShown.{IsUpOnceMade, WasMade, dumps_hold, legal_on}
use Rattle.run_laws.proofs.Dying.{dead_other, dead_own, dead_told, dies, runs_used}
use Rattle.run_laws.proofs.InitLines.{init_lines}
use Rattle.run_laws.proofs.Falling.{NoRecord, RecordsOf, aborting}
use Rattle.run_laws.proofs.SoundWorlds.{IsSound, legal_sound, opening_sound}
use Rattle.run_laws.proofs.ToldImages.{in_base, told_out}
use Rattle.run_laws.proofs.Undecided.{down, gone, home, never_of, of_its, used}

-- a record of this serial, or none
found_or_none : (x : Id) (rs : List LogRecord) → ((c : LogRecord) × In c rs × (c.serial ≡ x)) ⊎ ((c : LogRecord) → In c rs → c.serial ≡ x → ⊥)
found_or_none x [] = inr (λ c i e. i)
found_or_none x (r ∷ rs) = go (same_id r.serial x) refl (found_or_none x rs)
  where
    go : (b : Bool) → same_id r.serial x ≡ b → ((c : LogRecord) × In c rs × (c.serial ≡ x)) ⊎ ((c : LogRecord) → In c rs → c.serial ≡ x → ⊥) → ((c : LogRecord) × In c (r ∷ rs) × (c.serial ≡ x)) ⊎ ((c : LogRecord) → In c (r ∷ rs) → c.serial ≡ x → ⊥)
    go true is more = inl (r, inl refl, same_id-true r.serial x is)
    go false is (inl c) = inl (c.0, inr c.1, c.2)
    go false is (inr none) = inr (λ c i e. elim i [
      | inl same ↦ (let t : same_id r.serial x ≡ true = ap (λ y. same_id y x) (ap (λ (y : LogRecord). y.serial) (sym same) ∙ e) ∙ same_id-refl x in let clash : false ≡ true = sym is ∙ t in let no : ⊥ = cc in no)
      | inr j ↦ none c j e
    ])

turn_leaves : (k : BranchKey) (reason : Reason) (r : Option LogRecord) (moment : ℕ) (w v : World) (said : Reading) (lines : List Line) → IsSound w → Turn w said lines v → Leaves k reason r moment w v
turn_leaves k reason r moment w v Blank lines sound turn = same_leaves k reason r moment w v (ap (λ (x : World). x.nodes) turn.1)
turn_leaves k reason r moment w v (Says s) lines sound turn = step_leaves k reason r moment w v s lines sound turn
turn_leaves k reason r moment w v (Bad column) lines sound turn = absurd turn

-- Where a node may be in use in a world that the oldest of these entries lead to, something is known by then of each disk, or they replaced what it had.
abbrev pub AreSureInUse : List Node → List DiskCounts → List Entry → Type 0
AreSureInUse nodes disks es = (later before : List Entry) (w : World) → es ≡ later ++ before → Legal (opened nodes disks) before w → w.shared.in_use ≡ true → AreKnownOrReplaced before nodes

-- Of a branch whose abort is under way at a node that is down: it has no prepared record; or such records are of its transaction alone, and that is dead in each world of the
-- protocol that shows this one with the abort not taken.
pub data Fate (w : World) (n : Node) (k : BranchKey) : Type 0 where
  Bare : NoRecord n k.serial → Fate w n k
  Dead : RecordsOf n k → (base : World) (since : List Entry) → IsRun base since w → ((q : Resolution) (p : protocol.World) → q k.serial.node ≡ false → Good p → Shows (opening_of base) q w p → IsDead (view p) k.tid) → Fate w n k

-- So it was in a world from which entries lead to this one.
pub record IsDoomed (k : BranchKey) (closing : World) : Type 0 where
  pub world : World
  pub sound : IsSound world
  pub node : Node
  pub found : find_node k.serial.node world.nodes ≡ Some node
  pub reason : Reason
  pub noted : Option LogRecord
  pub moment : ℕ
  pub under : node.under_way ≡ Some (aborting k reason noted moment)
  pub after : List Entry
  pub leads : Legal world after closing
  pub fate : Fate world node k

-- Such a branch is never committed.
doomed_never : (k : BranchKey) (closing : World) → IsDoomed k closing → IsNeverCommitted k.serial closing
doomed_never k closing d = by d.fate
  where
    by : Fate d.world d.node k → IsNeverCommitted k.serial closing
    by (Bare none) = gone d.world d.sound k.serial.node d.node d.found k d.reason d.noted d.moment d.under none d.after closing d.leads
    by (Dead records base since is_run dead) = never_of k.serial closing (λ s i e commit.
        dies base d.world since is_run k.serial.node d.node d.found k refl d.reason d.noted d.moment d.under (down d.world d.sound k.serial.node d.node d.found k d.reason d.noted d.moment d.under) dead d.after closing
        (runs_used d.world closing d.after d.leads (used d.world d.sound k.serial.node d.node d.found k d.reason d.noted d.moment d.under)).0 s i e
        (of_its d.world d.sound k.serial.node d.node d.found k d.reason d.noted d.moment d.under records d.after closing d.leads s i e commit) commit)

module _ (nodes : List Node) (disks : List DiskCounts) (es : List Entry) (opening : AreOpening nodes) (apart : NamesApart nodes) (sure : AreSureInUse nodes disks es) (agree : AllAgree nodes disks es)
    (k : BranchKey) (reason : Reason) (r : Option LogRecord) (moment : ℕ) where
  abbrev first : World
  first = opened nodes disks

  -- what is known in the world after some entries, of a branch that was told to abort
  told_doomed : (later before : List Entry) (w : World) → es ≡ later ++ before → Legal first before w → IsSound w → (node : List ℕ) (n : Node) → IsAborting k reason r moment w node n → Told k reason r moment w node n → (after : List Entry) (closing : World) → Legal w after closing → IsDoomed k closing
  told_doomed later before w split legal sound node n at told after closing path = record {
    world = w;
    sound = sound;
    node = n;
    found = subst (λ y. find_node y w.nodes ≡ Some n) (sym h) at.0;
    reason = reason;
    noted = r;
    moment = moment;
    under = at.1;
    after = after;
    leads = path;
    fate = by told;
  }
    where
      h : k.serial.node ≡ node
      h = home w sound node n at.0 k reason r moment at.1

      in_use : w.shared.in_use ≡ true
      in_use = used w sound node n at.0 k reason r moment at.1

      is_down : n.up ≡ false
      is_down = down w sound node n at.0 k reason r moment at.1

      dead : RecordsOf n k → ((base : World) (since : List Entry) (is_run : IsRun base since w) (c : LogRecord) → In c (prepared_of (records_in n.durable.log)) → c.serial ≡ k.serial →
          (q : Resolution) (p : protocol.World) → q node ≡ false → Good p → Shows (opening_of base) q w p → IsDead (view p) k.tid) → Fate w n k
      dead records dying = go (found_or_none k.serial (prepared_of (records_in n.durable.log)))
        where
          go : ((c : LogRecord) × In c (prepared_of (records_in n.durable.log)) × (c.serial ≡ k.serial)) ⊎ ((c : LogRecord) → In c (prepared_of (records_in n.durable.log)) → c.serial ≡ k.serial → ⊥) → Fate w n k
          go (inr none) = Bare none
          go (inl c) =
              let b = runs_begin nodes disks before w opening apart (sure later before w split legal in_use) legal in
              let is_run : IsRun b.0 b.2 w = record { base_is = b.5; agrees = agree later b.2 b.1 b.0 w (split ∙ ap (λ xs. later ++ xs) b.3) b.4 b.5 b.7 b.6 in_use; runs = b.6 } in
              Dead records b.0 b.2 is_run (λ q p off. dying b.0 b.2 is_run c.0 c.1 c.2 q p (ap q (sym h) ∙ off))

      by : Told k reason r moment w node n → Fate w n k
      by (inl none) = Bare none
      by (inr (inl sent)) = dead sent.records (λ base since is_run c i e. dead_told base w since is_run node n at.0 k h reason r moment at.1 is_down sent.records c i e sent.message sent.sent sent.kind sent.key)
      by (inr (inr answered)) = dead answered.records (λ base since is_run c i e q p off good shows. elim answered.answered [
        | inl y ↦ dead_other base w since is_run node n at.0 k h reason r moment at.1 is_down answered.records c i e y.0 y.1 y.2 y.3 q p off good shows
        | inr own ↦ dead_own base w since is_run node n at.0 k h reason r moment at.1 is_down answered.records c i e own.0 own.2 own.1 q p off good shows
      ])

  doomed : (later before : List Entry) (w : World) → es ≡ later ++ before → Legal first before w → (node : List ℕ) (n : Node) → IsAborting k reason r moment w node n → (after : List Entry) (closing : World) → Legal w after closing → IsDoomed k closing
  doomed later [] w split legal node n at after closing path =
      let o = each_opening nodes opening node n (subst (λ (x : World). find_node node x.nodes ≡ Some n) legal at.0) in
      let clash : ◌≡◌ {A = Option Act} None (Some (aborting k reason r moment)) = sym o.under_way ∙ at.1 in
      let no : ⊥ = cc in
      absurd no
  doomed later (e ∷ before) w split legal node n at after closing path =
      let sound = legal_sound first legal.0 before (opening_sound nodes disks opening) legal.1 in
      let sound_w = legal_sound first w (e ∷ before) (opening_sound nodes disks opening) legal in
      elim (turn_leaves k reason r moment legal.0 w (reading e.source.text) e.lines sound legal.2 node n at) [
        | inl was ↦ doomed (later ++ e ∷ []) before legal.0 (split ∙ sym (append_assoc later (e ∷ []) before)) legal.1 node was.0 was.1 (after ++ e ∷ []) closing (legal_on legal.0 w closing e after legal.2 path)
        | inr told ↦ told_doomed later (e ∷ before) w split legal sound_w node n at told after closing path
      ]

-- Each branch whose abort a fall found under way is such a one.
pub agreed_doomed : (nodes : List Node) (disks : List DiskCounts) (es : List Entry) → AreOpening nodes → NamesApart nodes → AreSureInUse nodes disks es → AllAgree nodes disks es →
    (later after before : List Entry) (w closing : World) (n : Node) (k : BranchKey) (reason : Reason) (r : Option LogRecord) (moment : ℕ) → es ≡ later ++ (after ++ before) → Legal (opened nodes disks) before w → Legal w after closing →
    find_node k.serial.node w.nodes ≡ Some n → n.under_way ≡ Some (aborting k reason r moment) → IsDoomed k closing
agreed_doomed nodes disks es opening apart sure agree later after before w closing n k reason r moment split legal path found under =
    doomed nodes disks es opening apart sure agree k reason r moment (later ++ after) before w (split ∙ sym (append_assoc later after before)) legal k.serial.node n (found, under) after closing path

pub sure_aborts_stand : (nodes : List Node) (disks : List DiskCounts) (es : List Entry) → AreOpening nodes → NamesApart nodes → AreSureInUse nodes disks es → AllAgree nodes disks es → AbortsStand (opened nodes disks) es
sure_aborts_stand nodes disks es opening apart sure agree later after before w closing n k reason r moment split legal path found under =
    doomed_never k closing (agreed_doomed nodes disks es opening apart sure agree later after before w closing n k reason r moment split legal path found under)

pub agreed_aborts_stand : AgreedAbortsStand
agreed_aborts_stand nodes disks es opening apart known agree = sure_aborts_stand nodes disks es opening apart (λ later before w split legal used name n found. inl (known name n found)) agree

pub agreed_dumps_hold : AgreedDumpsHold
agreed_dumps_hold nodes disks es closing opening apart known lasts agree legal = dumps_hold nodes disks es closing opening lasts legal (agreed_aborts_stand nodes disks es opening apart known agree)

-- The images that lines tell.

-- a legal transcript in parts: where a node may be in use behind the first of them, one may be behind all, and the others tell of no image
pub legal_parts : (start : World) (later es : List Entry) (w : World) → Legal start (later ++ es) w → (v : World) × Legal start es v × Legal v later w × (v.shared.in_use ≡ true → (w.shared.in_use ≡ true) × ((nodes : List Node) → opening_told nodes (later ++ es) ≡ opening_told nodes es))
legal_parts start [] es w legal = (w, legal, refl, λ on. (on, λ nodes. refl))
legal_parts start (e ∷ later) es w legal =
    let r = legal_parts start later es legal.0 legal.1 in (
      r.0,
      r.1,
      (legal.0, r.2, legal.2),
      λ on.
          let s = r.3 on in
          let t = used_tell_no_more legal.0 w (reading e.source.text) e.lines legal.2 s.0 in
          (t.0, λ nodes. (λ j. record { images = quiet_images e (later ++ es) nodes t.1 j }) ∙ s.1 nodes),
    )

-- so a base from which entries lead to a world in which a node may be in use has the images that all entries tell
pub told_same : (nodes : List Node) (disks : List DiskCounts) (es : List Entry) (closing : World) → AreOpening nodes → NamesApart nodes → AreSureInUse nodes disks es → Legal (opened nodes disks) es closing → (later since before : List Entry) (base v : World) → es ≡ later ++ (since ++ before) →
    Legal (opened nodes disks) before base → base.shared.in_use ≡ false → RunsFrom base since v → v.shared.in_use ≡ true → opening_of base ≡ opening_told nodes es
told_same nodes disks es closing opening apart sure legal later since before base v split path off runs on = same ∙ sym (fewer ∙ told)
  where
    first : World
    first = opened nodes disks

    through : Legal first (since ++ before) v
    through = run_on since v runs
      where
        run_on : (since : List Entry) (v : World) → RunsFrom base since v → Legal first (since ++ before) v
        run_on [] v r = subst (Legal first before) (sym r) path
        run_on (e ∷ since) v r = (r.0, run_on since r.0 r.1, r.3)

    -- the base has the images that the entries before it tell
    same : opening_of base ≡ opening_told nodes before
    same = (unused_are_told nodes disks before base opening apart (base_sure nodes base v before since runs (sure later (since ++ before) v split through on)) path off).1

    -- and those behind it tell of no others, in its run or in the legal transcript
    told : opening_told nodes (since ++ before) ≡ opening_told nodes before
    told = runs_tell_no_more nodes base v before since runs

    fewer : opening_told nodes es ≡ opening_told nodes (since ++ before)
    fewer =
        let parts = legal_parts first later (since ++ before) closing (subst (λ xs. Legal first xs closing) split legal) in
        let in_use : parts.0.shared.in_use ≡ true =
        ap (λ (x : Said). x.shared.in_use) ((legal_told nodes disks parts.0 (since ++ before) opening parts.1).0 ∙ sym (legal_told nodes disks v (since ++ before) opening through).0) ∙ on in
        ap (opening_told nodes) split ∙ (parts.3 in_use).1 nodes

-- What is known where all entries are known is so where a node may be in use.
pub sure_in_use : (nodes : List Node) (disks : List DiskCounts) (es : List Entry) (closing : World) → AreOpening nodes → AreKnownOrReplaced es nodes → Legal (opened nodes disks) es closing → AreSureInUse nodes disks es
sure_in_use nodes disks es closing opening sure legal later before w split path on =
    let parts = legal_parts (opened nodes disks) later before closing (subst (λ xs. Legal (opened nodes disks) xs closing) split legal) in
    let in_use : parts.0.shared.in_use ≡ true = ap (λ (x : Said). x.shared.in_use) ((legal_told nodes disks parts.0 before opening parts.1).0 ∙ sym (legal_told nodes disks w before opening path).0) ∙ on in
    used_sure nodes parts.0 closing before later parts.2 in_use (subst (λ xs. AreKnownOrReplaced xs nodes) split sure)

pub told_agree : ToldAgree
told_agree nodes disks es closing opening apart sure legal agrees later since before base v split path base_is off runs on =
    subst IsAgreeing (sym (told_same nodes disks es closing opening apart (sure_in_use nodes disks es closing opening sure legal) legal later since before base v split path off runs on)) agrees

-- behind a world in which a node may be in use, no line tells of another image
told_no_more : (name : Name) (i : Option Image) (w v : World) (before later : List Entry) → Legal w later v → w.shared.in_use ≡ true → image_told name i (later ++ before) ≡ image_told name i before
told_no_more name i w v before [] legal on = refl
told_no_more name i w v before (e ∷ later) legal on =
    (used_tell_no_more legal.0 v (reading e.source.text) e.lines legal.2 (runs_used w legal.0 later legal.1 on).1).1 name (image_told name i (later ++ before)) ∙ told_no_more name i w legal.0 before later legal.1 on

-- Nodes of which no image is told.

-- a node of which a run has no image is down
down_without : (base w : World) (es : List Entry) (name : Name) (x : Node) → IsRun base es w → in_rack (opening_of base) name ≡ false → find_node name w.nodes ≡ Some x → x.up ≡ false
down_without base w es name x is_run out found =
    elim (cases_Bool (has_volume x)) [
      | inl sound ↦ absurd (both_ways (in_rack (opening_of base) name) out (in_base base w es is_run (λ m. false) name x found sound))
      | inr none ↦ ((reached_by base w es is_run (λ m. false)).shows.are.without name x found none).1.down
    ]

-- an entry makes the volume of a node, or tells of no image where none was told
here_none : (name : Name) (e : Entry) → (image_here name (reading e.source.text) (last_or None e.lines) None ≡ None) ⊎ Makes name e
here_none name e = go (replaces_or_quiet name e)
  where
    go : Replaces name e ⊎ IsQuiet name e → (image_here name (reading e.source.text) (last_or None e.lines) None ≡ None) ⊎ Makes name e
    go (inr quiet) = inl (quiet None)
    go (inl r) = by r.answered
      where
        by : (last_or None e.lines ≡ Some Normal) ⊎ ((cause : Cause) × (last_or None e.lines ≡ Some (Broken cause))) → (image_here name (reading e.source.text) (last_or None e.lines) None ≡ None) ⊎ Makes name e
        by (inl made) = inr (record { slots = r.slots; journal = r.journal; says = r.says; answered = made })
        by (inr broken) = let pick : Bool → Option Image = λ b. if b then None else None in inl ((λ i. image_here name (r.says i) (broken.1 i) None) ∙ ap pick (bytes_itself name name refl))

-- Entries that make the volume of a node, in a legal transcript; and where they replace what its disk had, and an image is told of it, they do.
makes_anew : (start w : World) (name : Name) (e : Entry) (es : List Entry) → Legal start (e ∷ es) w → Makes name e → made_anew name (reading e.source.text) e.lines ≡ true
makes_anew start w name e es legal m =
    let lines : e.lines ≡ Normal ∷ [] = init_lines legal.0 w name m.slots m.journal e.lines (subst (λ (q : Reading). Turn legal.0 q e.lines w) m.says legal.2) m.answered in
    (λ i. made_anew name (m.says i) (lines i)) ∙ bytes_itself name name refl

pub made_or_none : (start w : World) (name : Name) (i : Option Image) (es : List Entry) → Legal start es w → IsReplaced name es → (image_told name i es ≡ None) ⊎ WasMade name es
made_or_none start w name i [] legal none = absurd none
made_or_none start w name i (e ∷ es) legal replaced = go replaced (made_or_none start legal.0 name i es legal.1)
  where
    on_none : image_told name i es ≡ None → (image_told name i (e ∷ es) ≡ None) ⊎ WasMade name (e ∷ es)
    on_none none = elim (here_none name e) [
      | inl still ↦ inl (ap (image_here name (reading e.source.text) (last_or None e.lines)) none ∙ still)
      | inr m ↦ inr (inl (makes_anew start w name e es legal m))
    ]

    go : Replaces name e ⊎ IsReplaced name es → (IsReplaced name es → (image_told name i es ≡ None) ⊎ WasMade name es) → (image_told name i (e ∷ es) ≡ None) ⊎ WasMade name (e ∷ es)
    go (inr was) more = elim (more was) [ inl none ↦ on_none none | inr made ↦ inr (inr made) ]
    go (inl r) more = by r.answered
      where
        by : (last_or None e.lines ≡ Some Normal) ⊎ ((cause : Cause) × (last_or None e.lines ≡ Some (Broken cause))) → (image_told name i (e ∷ es) ≡ None) ⊎ WasMade name (e ∷ es)
        by (inl made) = inr (inl (makes_anew start w name e es legal (record { slots = r.slots; journal = r.journal; says = r.says; answered = made })))
        by (inr broken) = let pick : Bool → Option Image = λ b. if b then None else image_told name i es in inl ((λ j. image_here name (r.says j) (broken.1 j) (image_told name i es)) ∙ ap pick (bytes_itself name name refl))

module _ (nodes : List Node) (disks : List DiskCounts) (es : List Entry) (closing : World) (opening : AreOpening nodes) (apart : NamesApart nodes) (sure : AreKnownOrReplaced es nodes) (agrees : IsAgreeing (opening_told nodes es)) (legal : Legal (opened nodes disks) es closing) (name : Name) (n : Node) (found : find_node name nodes ≡ Some n) where
  in_time : AreSureInUse nodes disks es
  in_time = sure_in_use nodes disks es closing opening sure legal

  -- where none is told by then, it is down
  down_in_use : (later before : List Entry) (w : World) (x : Node) → es ≡ later ++ before → Legal (opened nodes disks) before w → find_node name w.nodes ≡ Some x → w.shared.in_use ≡ true → image_told name (volume_image n) before ≡ None → x.up ≡ false
  down_in_use later before w x split path there on none =
      let early = in_time later before w split path on in
      let b = runs_begin nodes disks before w opening apart early path in
      let same : opening_of b.0 ≡ opening_told nodes es = told_same nodes disks es closing opening apart in_time legal later b.2 b.1 b.0 w (split ∙ ap (λ xs. later ++ xs) b.3) b.4 b.7 b.6 on in
      let told : opening_of b.0 ≡ opening_told nodes before =
      (unused_are_told nodes disks b.1 b.0 opening apart (base_sure nodes b.0 w b.1 b.2 b.6 (subst (λ xs. AreKnownOrReplaced xs nodes) b.3 early)) b.4 b.7).1 ∙ sym (runs_tell_no_more nodes b.0 w b.1 b.2 b.6) ∙ ap (opening_told nodes) (sym b.3) in
      let is_run : IsRun b.0 b.2 w = record { base_is = b.5; agrees = subst IsAgreeing (sym same) agrees; runs = b.6 } in
      down_without b.0 w b.2 name x is_run (ap (λ (o : Opening). in_rack o name) told ∙ told_out name nodes before n apart found none) there

  -- A node of which no image is told, or whose disk these entries replace, is up only once they made its volume.
  pub up_once_made : (image_told name (volume_image n) es ≡ None) ⊎ IsReplaced name es → IsUpOnceMade (opened nodes disks) es name
  up_once_made how later before w x split path there up = by how
    where
      on : w.shared.in_use ≡ true
      on = elim (cases_Bool w.shared.in_use) [ inl is ↦ is | inr off ↦ absurd (both_ways x.up (((legal_sound (opened nodes disks) w before (opening_sound nodes disks opening) path).kept name x there).unused off).0 up) ]

      never : image_told name (volume_image n) before ≡ None → WasMade name before
      never none = absurd (both_ways x.up (down_in_use later before w x split path there on none) up)

      by : (image_told name (volume_image n) es ≡ None) ⊎ IsReplaced name es → WasMade name before
      by (inl none) =
          let parts = legal_parts (opened nodes disks) later before closing (subst (λ xs. Legal (opened nodes disks) xs closing) split legal) in
          let in_use : parts.0.shared.in_use ≡ true = ap (λ (y : Said). y.shared.in_use) ((legal_told nodes disks parts.0 before opening parts.1).0 ∙ sym (legal_told nodes disks w before opening path).0) ∙ on in
          never (sym (told_no_more name (volume_image n) parts.0 closing before later parts.2 in_use) ∙ sym (ap (image_told name (volume_image n)) split) ∙ none)
      by (inr replaced) =
          let parts = legal_parts (opened nodes disks) later before closing (subst (λ xs. Legal (opened nodes disks) xs closing) split legal) in
          let in_use : parts.0.shared.in_use ≡ true = ap (λ (y : Said). y.shared.in_use) ((legal_told nodes disks parts.0 before opening parts.1).0 ∙ sym (legal_told nodes disks w before opening path).0) ∙ on in
          elim (made_or_none (opened nodes disks) w name (volume_image n) before path ((used_replace_none name parts.0 closing before later parts.2 in_use).1 (subst (IsReplaced name) split replaced))) [ inl none ↦ never none | inr made ↦ made ]
