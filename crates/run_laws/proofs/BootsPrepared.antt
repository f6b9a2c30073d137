-- What a boot shows of prepared branches: each that was told to be so, unless it shows it as the last settlement of its disk.
use Rattle.std.proofs.Common.{◌≡◌, ℕ, zero, ◌⊎◌, List, [], ◌∷◌, ◌++◌, inl, inr, map, Bool, true, false, Option, Some, None, if◌then◌else◌, refl, sym, ◌∙◌, ap, subst}
use Rattle.std.proofs.lemmas.Bool.{both_ways}
use Rattle.vms_model.specs.Ids.{Id}
use Rattle.run_said.specs.transcript_model.Lines as line
use Rattle.run_said.specs.transcript_model.Lines.{Line, Cause}
use Rattle.unit_laws.specs.records_model.History.{same_id}
use Rattle.run_said.specs.script_model.Statements.{Statement, At, Settle, Boot}
use Rattle.commit_protocol.specs.Messages.{LogRecord}
use Rattle.commit_protocol.specs.Table.{branches_of}
use Rattle.commit_protocol.specs.World.{In}
use Rattle.commit_protocol.proofs.Lists.{in_left, in_right}
use Rattle.run_said.specs.log_laws.Slots.{prepared_of, records_in}
use Rattle.run_said.specs.run_model.World.{World, Shared, Node, DiskCounts, MayTurnOut, Outturn, Settlement, find_node, find_record, opened, powered, prepared_left, prepared_serials, records_by, without_record}
use Rattle.run_said.specs.run_model.Answers.{Serves, boot_rows, last_lines, prepared_line, prepared_lines}
use Rattle.run_said.specs.run_model.Steps.{Choice, TaskEffect, lines_of_rows, task_effect}
use Rattle.run_said.specs.run_model.Statements.{Part, PartEffect, Step, Allowed, RoseAt, begun_with, part_effect, phases_of, stops_at}
use Rattle.run_said.specs.run_model.Transcript.{Entry, Legal, AreOpening}
use Rattle.run_said.proofs.run_model.NodeLists.{some_is}
use Rattle.run_said.proofs.run_model.PartLemmas.{phases_fold}
use Rattle.run_said.proofs.run_model.PartTasks.{View, Doing, Fixed, view}
use Rattle.run_said.proofs.run_model.Refusing.{same_last}
use Rattle.run_said.proofs.run_model.TaskLemmas.{effect_name, outcome}
use Rattle.run_laws.specs.Promises.{Boots, ShowsPrepared, is_told_prepared, last_in}
use Rattle.run_laws.proofs.BootLines.{lasts_last, not_count}
use Rattle.run_laws.proofs.Deciding.{BootedAt, boot_whole, part_booted}
use Rattle.run_laws.proofs.Keeping.{powered_kept}
use Rattle.run_laws.proofs.Named.{Ended, Refused, Turned, ended}
use Rattle.run_laws.proofs.PreparedLines.{boot_other, part_prepared, passes_in}
use Rattle.run_laws.proofs.PreparedRuns.{legal_prepared}
use Rattle.run_laws.proofs.SettlingUp.{IsSettling, each_settling, settle_task, settle_up, settling_thin}
use Rattle.run_laws.proofs.ShownSettled.{in_append}
use Rattle.run_laws.proofs.SoundWorlds.{Changed, Here, Beside, IsSound, begins_sound, changed, legal_sound, opening_sound, part_sound, sound_node}
use Rattle.run_laws.proofs.StayPrepared.{HasRecord, IsLast, preparing, preparing_keeps}

-- Records in the order of their branches.

found_or : (x : Id) (rs : List LogRecord) (r q : LogRecord) → find_record x rs ≡ Some q → In r rs → (r ≡ q) ⊎ In r (without_record x rs)
found_or x [] r q e i = absurd i
found_or x (y ∷ rs) r q e i = go (same_id x y.serial) e i (found_or x rs r q)
  where
    go : (b : Bool) → ◌≡◌ {A = Option LogRecord} (if b then Some y else find_record x rs) (Some q) → In r (y ∷ rs) → (find_record x rs ≡ Some q → In r rs → (r ≡ q) ⊎ In r (without_record x rs)) → (r ≡ q) ⊎ In r (if b then rs else y ∷ without_record x rs)
    go true k (inl same) more = inl (same ∙ some_is y q k)
    go true k (inr j) more = inr j
    go false k (inl same) more = inr (inl same)
    go false k (inr j) more = elim (more k j) [ inl same ↦ inl same | inr l ↦ inr (inr l) ]

pub in_ordered : (xs : List Id) (rs : List LogRecord) (r : LogRecord) → In r rs → In r (records_by xs rs)
in_ordered [] rs r i = i
in_ordered (x ∷ xs) rs r i = go (find_record x rs) refl (λ qs. in_ordered xs qs r)
  where
    go : (o : Option LogRecord) → find_record x rs ≡ o → ((qs : List LogRecord) → In r qs → In r (records_by xs qs)) → In r (elim o as (λ y. List LogRecord) [ Some q ↦ q ∷ records_by xs (without_record x rs) | None ↦ records_by xs rs ])
    go (Some q) e more = elim (found_or x rs r q e i) [ inl same ↦ inl same | inr j ↦ inr (more (without_record x rs) j) ]
    go None e more = more rs i

record_shown : (rs : List LogRecord) (r : LogRecord) → In r rs → In (line.Prepared r.tid r.serial) (map prepared_line (branches_of rs))
record_shown [] r i = absurd i
record_shown (q ∷ rs) r (inl same) = inl (ap (λ (x : LogRecord). line.Prepared x.tid x.serial) same)
record_shown (q ∷ rs) r (inr j) = inr (record_shown rs r j)

-- what a disk has of a branch that is told to be prepared is shown as its node comes up
has_shown : (serial : Id) (n : Node) → HasRecord serial n.durable ⊎ IsLast serial n.durable →
    ((tid : Id) × In (line.Prepared tid serial) (prepared_lines n)) ⊎ ((l : Line) × (t : Settlement) × In l (last_lines n) × (last_in l ≡ Some t) × (t.serial ≡ serial))
has_shown serial n (inl (r, i, e)) =
    let there = in_ordered (prepared_serials n.durable.units.entries) (prepared_of (records_in n.durable.log)) r i in
    inl (r.tid, subst (λ s. In (line.Prepared r.tid s) (prepared_lines n)) e (record_shown (prepared_left n.durable) r there))
has_shown serial n (inr (s, last, e, formed)) = let l = lasts_last n s last formed in inr (l.0, s, l.1, l.2, e)

-- The node that a statement boots.

-- a node of the world before it, which is down, and what its disk has once it runs again
pub record BootsFrom (w : World) (y : List ℕ) : Type 0 where
  pub n : Node
  pub found : find_node y w.nodes ≡ Some n
  pub down : n.up ≡ false
  pub outturn : Outturn
  pub stops : ℕ
  pub may : MayTurnOut n outturn

abbrev pub disk_then : (w : World) (y : List ℕ) → BootsFrom w y → Node
disk_then w y b = powered b.outturn b.stops b.n

-- a boot that succeeded shows what is prepared there, and its last settlement
abbrev ShowsAll : (w : World) (y : List ℕ) → List Line → Type 0
ShowsAll w y ls = (b : BootsFrom w y) × ((l : Line) → In l (last_lines (disk_then w y b)) → In l ls) × ((l : Line) → In l (prepared_lines (disk_then w y b)) → In l ls)

-- what is shown to be prepared is so there
abbrev pub FindsIt : (w : World) (y : List ℕ) (tid serial : Id) → Type 0
FindsIt w y tid serial = (b : BootsFrom w y) × In (line.Prepared tid serial) (prepared_lines (disk_then w y b))

unprepared_rows : (s : Shared) (n : Node) (tid serial : Id) → In (line.Prepared tid serial) (lines_of_rows (boot_rows s n)) → ⊥
unprepared_rows s n tid serial i = let clash : false ≡ true = passes_in _ (lines_of_rows (boot_rows s n)) (line.Prepared tid serial) (boot_other s n zero).1 i in let no : ⊥ = cc in no

-- by a BOOT
module _ (w v : World) (y : List ℕ) (count : ℕ) (shown : List Line) (step : Step w (At y Boot) (shown ++ line.NormalCount count ∷ []) v) where
  record Whole : Type 0 where
    from : BootsFrom w y
    lines : shown ≡ lines_of_rows (boot_rows w.shared (disk_then w y from)) ++ prepared_lines (disk_then w y from)

  boots_whole : Whole
  boots_whole = go (ended w v (At y Boot) (shown ++ line.NormalCount count ∷ []) y (Serves Boot) refl step)
    where
      go : Ended w v y (Serves Boot) (shown ++ line.NormalCount count ∷ []) → Whole
      go (Refused refusal h shows goes) = not_count refusal count h (sym (same_last shown [] (line.NormalCount count) refusal shows).1)
      go (Turned n found c allowed shows goes) =
          let e = task_effect w.shared (stops_at y w) n (Serves Boot) c in
          let same = same_last shown e.lines (line.NormalCount count) e.answer shows in
          let x = boot_whole w.shared (stops_at y w) n (λ cause. RoseAt w y cause v.disks) count e (outcome w.shared (stops_at y w) n (Serves Boot) (λ cause. RoseAt w y cause v.disks) c allowed) (sym same.1) in
          record { from = record { n = n; found = found; down = x.2; outturn = x.0; stops = stops_at y w; may = x.1 }; lines = same.0 ∙ ap (λ (z : TaskEffect). z.lines) x.3 }

  boot_shows : ShowsAll w y shown
  boot_shows =
      let b = boots_whole in
      let r = disk_then w y b.from in
      let rows = lines_of_rows (boot_rows w.shared r) in
      (b.from, λ l i. subst (In l) (sym b.lines) (in_left l rows (prepared_lines r) (in_left l (last_lines r) _ i)), λ l i. subst (In l) (sym b.lines) (in_right l rows (prepared_lines r) i))

  boot_finds : (tid serial : Id) → In (line.Prepared tid serial) shown → FindsIt w y tid serial
  boot_finds tid serial i =
      let b = boots_whole in
      let r = disk_then w y b.from in
      (b.from, elim (in_append (line.Prepared tid serial) (lines_of_rows (boot_rows w.shared r)) (prepared_lines r) (subst (In (line.Prepared tid serial)) b.lines i)) [ inl j ↦ absurd (unprepared_rows w.shared r tid serial j) | inr j ↦ j ])

-- by a settling
module _ (w v : World) (y : List ℕ) (sound : IsSound w) where
  -- the node is as before where it is down
  abbrev Same : World → Type 0
  Same u = (n : Node) → find_node y u.nodes ≡ Some n → n.up ≡ false → find_node y w.nodes ≡ Some n

  same_on : (u : World) (p : Part) (c : Choice) → IsSettling p → (part_effect u p c).ends ≡ false → Same u → Same (part_effect u p c).world
  same_on u p c ok on same m is down = go (view u p)
    where
      go : View u p → find_node y w.nodes ≡ Some m
      go (Fixed answer ends kind fixed) = same m (subst (λ (e : PartEffect). find_node y e.world.nodes ≡ Some m) (fixed c) is) down
      go (Doing other t n named found does may) = at (changed other y n u.nodes (task_effect u.shared (stops_at other u) n t c).node m (effect_name u.shared (stops_at other u) n t c) found (subst (λ (e : PartEffect). find_node y e.world.nodes ≡ Some m) (does c) is))
        where
          at : Changed other y n u.nodes (task_effect u.shared (stops_at other u) n t c).node m → find_node y w.nodes ≡ Some m
          at (Beside apart there) = same m there down
          at (Here home there) = absurd (both_ways m.up down (ap (λ (k : Node). k.up) there ∙ settle_up u.shared (stops_at other u) n t c (settle_task u p other t ok named) (sym (ap (λ (e : PartEffect). e.ends) (does c)) ∙ on)))

  abbrev from_part : (u : World) (p : Part) (c : Choice) → Same u → BootedAt u p c y → BootsFrom w y
  from_part u p c same b = record { n = b.n; found = same b.n b.found b.booted.down; down = b.booted.down; outturn = b.booted.outturn; stops = stops_at y u; may = b.booted.may }

  part_shows : (u : World) (p : Part) (c : Choice) (count : ℕ) → IsSettling p → Allowed u p v.disks c → Same u → In (line.Booted y count) (part_effect u p c).lines → ShowsAll w y (part_effect u p c).lines
  part_shows u p c count ok allowed same i =
      let b = part_booted u p c v.disks y count (settling_thin p ok) allowed i in
      let r = powered b.booted.outturn (stops_at y u) b.n in
      let rows = lines_of_rows (boot_rows u.shared r) in
      let lines = ap (λ (e : PartEffect). e.lines) b.world ∙ b.booted.shows in (
        from_part u p c same b,
        λ l j. subst (In l) (sym lines) (in_left l rows _ (in_left l (last_lines r) _ j)),
        λ l j. subst (In l) (sym lines) (in_right l rows _ (in_left l (prepared_lines r) _ j)),
      )

  part_finds : (u : World) (p : Part) (c : Choice) (tid serial : Id) → serial.node ≡ y → IsSound u → IsSettling p → Allowed u p v.disks c → Same u → In (line.Prepared tid serial) (part_effect u p c).lines → FindsIt w y tid serial
  part_finds u p c tid serial home known ok allowed same i =
      let count = part_prepared u p c v.disks tid serial known (settling_thin p ok) allowed i in
      let b = part_booted u p c v.disks y count.0 (settling_thin p ok) allowed (subst (λ z. In (line.Booted z count.0) (part_effect u p c).lines) home count.1) in
      let r = powered b.booted.outturn (stops_at y u) b.n in
      let lines = ap (λ (e : PartEffect). e.lines) b.world ∙ b.booted.shows in (
        from_part u p c same b,
        elim (in_append (line.Prepared tid serial) (lines_of_rows (boot_rows u.shared r)) _ (subst (In (line.Prepared tid serial)) lines i)) [
          | inl j ↦ absurd (unprepared_rows u.shared r tid serial j)
          | inr j ↦ elim (in_append (line.Prepared tid serial) (prepared_lines r) _ j) [ inl k ↦ k | inr k ↦ elim k [ inl is ↦ (let no : ⊥ = cc in absurd no) | inr none ↦ absurd none ] ]
        ],
      )

  shows_left : (xs ys : List Line) → ShowsAll w y xs → ShowsAll w y (xs ++ ys)
  shows_left xs ys (b, f, g) = (b, λ l i. in_left l xs ys (f l i), λ l i. in_left l xs ys (g l i))

  shows_right : (xs ys : List Line) → ShowsAll w y ys → ShowsAll w y (xs ++ ys)
  shows_right xs ys (b, f, g) = (b, λ l i. in_right l xs ys (f l i), λ l i. in_right l xs ys (g l i))

  settle_shows : (lines : List Line) (count : ℕ) → (step : Step w Settle lines v) → In (line.Booted y count) step.events → ShowsAll w y step.events
  settle_shows lines count step i = phases_fold v.disks IsSettling (λ g. Unit {0}) (λ u rest a x. Same u → In (line.Booted y count) rest → ShowsAll w y rest)
      (λ u g q same j. absurd j)
      (λ u p c ok allowed ends same j. part_shows u p c count ok allowed same j)
      (λ u p c ok allowed on. (
        tt,
        λ rest a x more same j. elim (in_append (line.Booted y count) (part_effect u p c).lines rest j) [
          | inl k ↦ shows_left (part_effect u p c).lines rest (part_shows u p c count ok allowed same k)
          | inr k ↦ shows_right (part_effect u p c).lines rest (more (same_on u p c ok on same) k)
        ],
      ))
      (phases_of Settle) each_settling (begun_with Settle w) line.Normal step.events step.answer step.world tt step.does (λ n found down. found) i

  settle_finds : (lines : List Line) (tid serial : Id) → serial.node ≡ y → (step : Step w Settle lines v) → In (line.Prepared tid serial) step.events → FindsIt w y tid serial
  settle_finds lines tid serial home step i = phases_fold v.disks IsSettling (λ g. Unit {0}) (λ u rest a x. IsSound u → Same u → In (line.Prepared tid serial) rest → FindsIt w y tid serial)
      (λ u g q known same j. absurd j)
      (λ u p c ok allowed ends known same j. part_finds u p c tid serial home known ok allowed same j)
      (λ u p c ok allowed on. (
        tt,
        λ rest a x more known same j. elim (in_append (line.Prepared tid serial) (part_effect u p c).lines rest j) [
          | inl k ↦ part_finds u p c tid serial home known ok allowed same k
          | inr k ↦ more (part_sound u p c v.disks allowed known) (same_on u p c ok on same) k
        ],
      ))
      (phases_of Settle) each_settling (begun_with Settle w) line.Normal step.events step.answer step.world tt step.does (begins_sound Settle w sound) (λ n found down. found) i

-- by either
module _ (w v : World) (y : List ℕ) (sound : IsSound w) (s : Statement) (shown : List Line) (answer : Line) (step : Step w s (shown ++ answer ∷ []) v) (boots : Boots y s shown answer) where
  abbrev as_boot : (s ≡ At y Boot) → (answer ≡ line.NormalCount boots.0) → Step w (At y Boot) (shown ++ line.NormalCount boots.0 ∷ []) v
  as_boot is counted = subst (λ l. Step w (At y Boot) (shown ++ l ∷ []) v) counted (subst (λ x. Step w x (shown ++ answer ∷ []) v) is step)

  boots_show : ShowsAll w y shown
  boots_show = elim boots.1 [
    | inl boot ↦ boot_shows w v y boots.0 shown (as_boot boot.0 boot.1)
    | inr settle ↦ (
        let st = subst (λ x. Step w x (shown ++ answer ∷ []) v) settle.0 step in
        let events = (same_last shown st.events answer st.answer st.shows).0 in
        subst (ShowsAll w y) (sym events) (settle_shows w v y sound (shown ++ answer ∷ []) boots.0 st (subst (In (line.Booted y boots.0)) events settle.1))
        )
  ]

  pub boots_find : (tid serial : Id) → serial.node ≡ y → In (line.Prepared tid serial) shown → FindsIt w y tid serial
  boots_find tid serial home i = elim boots.1 [
    | inl boot ↦ boot_finds w v y boots.0 shown (as_boot boot.0 boot.1) tid serial i
    | inr settle ↦ (
        let st = subst (λ x. Step w x (shown ++ answer ∷ []) v) settle.0 step in
        let events = (same_last shown st.events answer st.answer st.shows).0 in
        settle_finds w v y sound (shown ++ answer ∷ []) tid serial home st (subst (In (line.Prepared tid serial)) events i)
        )
  ]

-- Each that is told to be prepared is shown.
pub told_shown : (nodes : List Node) (disks : List DiskCounts) (before : List Entry) (w v : World) (s : Statement) (shown : List Line) (answer : Line) (y : List ℕ) → AreOpening nodes → Legal (opened nodes disks) before w → Step w s (shown ++ answer ∷ []) v → Boots y s shown answer → (serial : Id) → serial.node ≡ y →
    is_told_prepared serial (opened nodes disks) before ≡ true → ShowsPrepared serial shown
told_shown nodes disks before w v s shown answer y opening legal step boots serial home told =
    let sound = legal_sound (opened nodes disks) w before (opening_sound nodes disks opening) legal in
    let b = boots_show w v y sound s shown answer step boots in
    let known = sound_node w sound y b.0.n b.0.found in
    let kept = legal_prepared nodes disks opening serial before w legal b.0.n (subst (λ z. find_node z w.nodes ≡ Some b.0.n) (sym home) b.0.found) in
    let has = (powered_kept (preparing serial) (preparing_keeps serial) b.0.outturn b.0.stops w.shared b.0.n (is_told_prepared serial (opened nodes disks) before) known.kept tt b.0.may kept).0 told in
    elim (has_shown serial (disk_then w y b.0) has) [
      | inl p ↦ inl (p.0, b.2 (line.Prepared p.0 serial) p.1)
      | inr l ↦ inr (l.0, l.1, b.1 l.0 l.2, l.3, l.4)
    ]
