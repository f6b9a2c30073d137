-- A boot that succeeds shows the last settlement of its disk, where there is one.
use Rattle.std.proofs.Common.{◌≡◌, ℕ, List, [], ◌∷◌, ◌++◌, inl, inr, true, Option, Some, None, refl, sym, ◌∙◌, ap, subst}
use Rattle.run_said.specs.transcript_model.Lines as line
use Rattle.run_said.specs.transcript_model.Lines.{Line, Cause}
use Rattle.run_said.specs.script_model.Statements.{At, Boot, Settle, Statement}
use Rattle.commit_protocol.specs.World.{In}
use Rattle.commit_protocol.proofs.Lists.{in_left, in_right}
use Rattle.run_said.specs.run_model.World.{World, Shared, Node, DiskCounts, MayTurnOut, Outturn, Settlement, acted, find_node, opened, powered}
use Rattle.run_said.specs.run_model.Answers.{Serves, boot_rows, last_line, last_lines, prepared_lines, task_service}
use Rattle.run_said.specs.run_model.Steps.{TaskEffect, lines_of_rows, task_effect}
use Rattle.run_said.specs.run_model.Statements.{PartEffect, Step, RoseAt, begun_with, part_effect, phases_of, stops_at}
use Rattle.run_said.specs.run_model.Transcript.{Legal, Turn}
use Rattle.run_said.specs.run_model.StepLaws.{is_refusal}
use Rattle.run_said.proofs.run_model.Refusing.{same_last}
use Rattle.run_said.proofs.run_model.NodeLists.{found_name}
use Rattle.run_said.proofs.run_model.TaskLemmas.{Outcome, outcome}
use Rattle.recovery_laws.proofs.world_laws.Induction.{powered_name}
use Rattle.run_laws.specs.Promises.{Boots, last_in}
use Rattle.run_laws.specs.Laws.{BootsShowLastHold}
use Rattle.run_laws.proofs.AllShown.{IsFormed, legal_shown, shown, shown_keeps, shown_of}
use Rattle.run_laws.proofs.Deciding.{boot_whole, part_booted}
use Rattle.run_laws.proofs.Keeping.{Kept, all_take, powered_kept}
use Rattle.run_laws.proofs.LastStays.{HasLast, lasted, lasted_keeps}
use Rattle.run_laws.proofs.Named.{Ended, Refused, Turned, ended}
use Rattle.run_laws.proofs.NewestLast.{legal_newest, newest, newest_keeps, told_of, was_told}
use Rattle.run_laws.proofs.Once.{once, once_keeps}
use Rattle.run_laws.proofs.Paths.{IsOn, part_on}
use Rattle.run_laws.proofs.SoundWorlds.{IsSound, begins_sound, legal_sound, opening_sound, sound_node}
use Rattle.run_laws.proofs.Staying.{stays}
use Rattle.run_laws.proofs.ToldParts.{IsThinPart, settle_phases}
use Rattle.run_laws.proofs.Walking.{Sighted, phases_walk, sighted, walk_keeps}
use Rattle.run_said.specs.run_model.Transcript.{Entry, AreOpening}

-- the line of a settlement shows it as a last one
line_last : (s : Settlement) → IsFormed s → (l : Line) × In l (last_line s) × (last_in l ≡ Some s)
line_last s (inl e) = subst (λ (x : Settlement). (l : Line) × In l (last_line x) × (last_in l ≡ Some x)) (sym e) (line.LastCommitted s.tid s.serial s.moment, inl refl, refl)
line_last s (inr r) = subst (λ (x : Settlement). (l : Line) × In l (last_line x) × (last_in l ≡ Some x)) (sym r.1) (line.LastAborted s.tid s.serial r.0 s.moment, inl refl, refl)

-- so does a disk that has one
pub lasts_last : (n : Node) (s : Settlement) → n.durable.last ≡ Some s → IsFormed s → (l : Line) × In l (last_lines n) × (last_in l ≡ Some s)
lasts_last n s e formed =
    let r = line_last s formed in
    (r.0, subst (λ ls. In r.0 ls) (ap (λ (o : Option Settlement). elim o as (λ x. List Line) [ Some t ↦ last_line t | None ↦ [] ]) (sym e)) r.1, r.2)

-- A boot that is answered with its count was whole, and nothing refused it.
abbrev HasLine : List ℕ → List Line → Type 0
HasLine node ls = (l : Line) × (s : Settlement) × In l ls × (last_in l ≡ Some s) × (s.serial.node ≡ node)

-- a count is no refusal
pub not_count : (l : Line) (count : ℕ) → is_refusal l ≡ true → l ≡ line.NormalCount count → {A : Type 0} → A
not_count l count h e = let same : is_refusal (line.NormalCount count) ≡ true = ap is_refusal (sym e) ∙ h in let no : ⊥ = cc in absurd no

boot_lines : (s : Shared) (stops : ℕ) (n : Node) (rises : Cause → Type 0) (node : List ℕ) (count : ℕ) (e : TaskEffect) → Outcome s stops n (Serves Boot) rises e → e.answer ≡ line.NormalCount count → ((o : Outturn) → MayTurnOut n o → HasLine node (last_lines (powered o stops n))) → HasLine node e.lines
boot_lines s stops n rises node count e outcome answer shows =
    let x = boot_whole s stops n rises count e outcome answer in
    let r = shows x.0 x.1 in
    let rs = boot_rows s (powered x.0 stops n) in
    (r.0, r.1, subst (λ (y : TaskEffect). In r.0 y.lines) (sym x.3) (in_left r.0 (lines_of_rows rs) (prepared_lines (powered x.0 stops n)) (in_left r.0 (last_lines (powered x.0 stops n)) _ r.2)), r.3, r.4)

module _ (nodes : List Node) (disks : List DiskCounts) (es : List Entry) (closing : World) (opening : AreOpening nodes) (legal : Legal (opened nodes disks) es closing) (before : List Entry) (node : List ℕ) (w : World) (earlier : Legal (opened nodes disks) before w) (t : Settlement) (was : Rattle.run_laws.specs.Promises.WasShownSo t before []) (own : t.serial.node ≡ node) where
  sound_w : IsSound w
  sound_w = legal_sound (opened nodes disks) w before (opening_sound nodes disks opening) earlier

  -- the disk of the node has a last settlement
  kept : (n : Node) → find_node node w.nodes ≡ Some n → Kept lasted lasted_keeps tt n
  kept n found = record {
    disk = from n a.disk b.disk;
    way = λ act e. from (acted act n) (a.way act e) (b.way act e);
    runs = λ up. from n (a.runs up) (record { formed = (b.runs up).formed; shown = λ s i. inl ((b.runs up).shown s i) });
  }
    where
      a : Kept (newest node) (newest_keeps node) (told_of node before) n
      a = legal_newest node nodes disks before w opening earlier n found

      b : Kept shown shown_keeps (shown_of before) n
      b = legal_shown nodes disks before w node opening earlier n found

      from : (m : Node) → Rattle.run_laws.proofs.NewestLast.NodeNewest node (told_of node before) m → Rattle.run_laws.proofs.AllShown.IsShownDisk (shown_of before) m.durable m.settled → HasLast m.durable.last
      from m f g =
          let told = was_told node t before [] was in
          let settled = f.told told.0 t told.1 told.2 own in
          elim f.last [
            | inl none ↦ absurd (subst (In t) none settled)
            | inr last ↦ (last.0, last.1, g.formed last.0 last.3)
          ]

  -- and the line of it is one of this node
  line_of : (u : World) (n : Node) (o : Outturn) → IsSound u → find_node node u.nodes ≡ Some n → MayTurnOut n o → Kept lasted lasted_keeps tt n → HasLine node (last_lines (powered o (stops_at node u) n))
  line_of u n o sound found may h =
      let known = sound_node u sound node n found in
      let has = (powered_kept lasted lasted_keeps o (stops_at node u) u.shared n tt known.kept tt may h).0 in
      let once_so = (powered_kept once once_keeps o (stops_at node u) u.shared n tt known.kept tt may known.once).0 in
      let l = lasts_last (powered o (stops_at node u) n) has.0 has.1 has.2 in
      (l.0, has.0, l.1, l.2, (once_so.last has.0 has.1).0 ∙ powered_name o (stops_at node u) n ∙ found_name node u.nodes n found)

  of_boot : (v : World) (count : ℕ) (shown_lines : List Line) → Step w (At node Boot) (shown_lines ++ line.NormalCount count ∷ []) v → HasLine node shown_lines
  of_boot v count shown_lines step = go (ended w v (At node Boot) (shown_lines ++ line.NormalCount count ∷ []) node (Serves Boot) refl step)
    where
      go : Ended w v node (Serves Boot) (shown_lines ++ line.NormalCount count ∷ []) → HasLine node shown_lines
      go (Refused refusal h shows goes) = not_count refusal count h (sym (same_last shown_lines [] (line.NormalCount count) refusal shows).1)
      go (Turned n found c allowed shows goes) =
          let e = task_effect w.shared (stops_at node w) n (Serves Boot) c in
          let same = same_last shown_lines e.lines (line.NormalCount count) e.answer shows in
          let x = boot_lines w.shared (stops_at node w) n (λ cause. RoseAt w node cause v.disks) node count e (outcome w.shared (stops_at node w) n (Serves Boot) (λ cause. RoseAt w node cause v.disks) c allowed) (sym same.1) (λ o may. line_of w n o sound_w found may (kept n found)) in
          (x.0, x.1, subst (In x.0) (sym same.0) x.2, x.3, x.4)

  of_settle : (v : World) (count : ℕ) (shown_lines : List Line) (answer : Line) → Step w Settle (shown_lines ++ answer ∷ []) v → In (line.Booted node count) shown_lines → HasLine node shown_lines
  of_settle v count shown_lines answer step i =
      let events = (same_last shown_lines step.events answer step.answer step.shows).0 in
      let walk = phases_walk IsThinPart v.disks (phases_of Settle) settle_phases (begun_with Settle w) line.Normal step.events step.answer step.world step.does in
      let x = at (sighted IsThinPart v.disks walk.0 (begun_with Settle w) step.events step.world (line.Booted node count) walk.1 (subst (In (line.Booted node count)) events i)) in
      (x.0, x.1, subst (In x.0) (sym events) x.2, x.3, x.4)
    where
      at : Sighted IsThinPart v.disks (begun_with Settle w) step.events step.world (line.Booted node count) → HasLine node step.events
      at sg =
          let start : IsOn lasted lasted_keeps node tt (λ ls. refl) (λ m. tt) (begun_with Settle w) = record { sound = begins_sound Settle w sound_w; used = refl; tracked = λ n found. kept n found } in
          let on = walk_keeps IsThinPart v.disks (λ u. IsOn lasted lasted_keeps node tt (λ ls. refl) (λ m. tt) u) (λ u p c ok allowed h. part_on lasted lasted_keeps node tt (λ ls. refl) (λ m. tt) u p c v.disks allowed (λ task n is found off. all_take lasted (λ o. tt) ((task_service task).rows u.shared n)) h) sg.front (begun_with Settle w) sg.before sg.there sg.first start in
          let b = part_booted sg.there sg.part sg.choice v.disks node count sg.ok sg.allowed sg.shown in
          let l = line_of sg.there b.n b.booted.outturn on.sound b.found b.booted.may (on.tracked b.n b.found) in
          let ls2 = (part_effect sg.there sg.part sg.choice).lines in
          let here : In l.0 ls2 = subst (λ (y : PartEffect). In l.0 y.lines) (sym b.world) (b.booted.lasts l.0 l.2) in
          (l.0, l.1, subst (In l.0) (sym sg.is) (in_right l.0 sg.before (ls2 ++ sg.rest) (in_left l.0 ls2 sg.rest here)), l.3, l.4)

pub boots_show_last : BootsShowLastHold
boots_show_last nodes disks es closing opening legal before node s shown_lines answer there boots t was own =
    let r = stays (opened nodes disks) closing there.after (there.entry ∷ before) (subst (λ x. Legal (opened nodes disks) x closing) there.stands legal) in
    at (r.1).0 r.0 (r.1).1 s answer (subst (λ lines. Step (r.1).0 s lines r.0) there.shown (subst (λ x. Turn (r.1).0 x there.entry.lines r.0) there.said (r.1).2)) boots
  where
    at : (w v : World) → Legal (opened nodes disks) before w → (s : Statement) (answer : Line) → Step w s (shown_lines ++ answer ∷ []) v → Boots node s shown_lines answer → HasLine node shown_lines
    at w v earlier s answer step (count, inl (is, counted)) = of_boot nodes disks es closing opening legal before node w earlier t was own v count shown_lines (subst (λ l. Step w (At node Boot) (shown_lines ++ l ∷ []) v) counted (subst (λ x. Step w x (shown_lines ++ answer ∷ []) v) is step))
    at w v earlier s answer step (count, inr (is, i)) = of_settle nodes disks es closing opening legal before node w earlier t was own v count shown_lines answer (subst (λ x. Step w x (shown_lines ++ answer ∷ []) v) is step) i
