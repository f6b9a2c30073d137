-- What a boot shows to be committed was asked for.
use Rattle.std.proofs.Common.{◌≡◌, ℕ, ◌⊎◌, List, [], ◌∷◌, inl, inr, true, false, Option, Some, None, refl, sym, ◌∙◌, ap, subst}
use Rattle.std.proofs.lemmas.Bool.{both_ways}
use Rattle.vms_model.specs.Ids.{Id}
use Rattle.vms_model.specs.Transactions.{Abort}
use Rattle.run_said.specs.transcript_model.Lines as line
use Rattle.run_said.specs.transcript_model.Lines.{Line, Cause}
use Rattle.run_said.specs.script_model.Statements.{At, Deliver, Direct, EndTrans, Settle, Boot, Says, AckEvent}
use Rattle.commit_protocol.specs.Messages.{Message}
use Rattle.commit_protocol.specs.World.{In}
use Rattle.commit_protocol.proofs.Lists.{in_left, in_right}
use Rattle.run_said.specs.run_model.World.{World, Shared, Node, DiskCounts, Settlement, find_node, opened}
use Rattle.run_said.specs.run_model.Answers.{Task, Restarts, last_line, settled_line}
use Rattle.run_said.specs.run_model.Steps.{Choice, task_effect}
use Rattle.run_said.specs.run_model.Statements.{Part, PartEffect, Step, Allowed, RoseAt, begun_with, part_effect, phases_of, stops_at}
use Rattle.run_said.specs.run_model.Transcript.{Entry, Legal, AreOpening, Turn}
use Rattle.run_said.proofs.run_model.NodeLists.{found_name}
use Rattle.run_said.proofs.run_model.PartLemmas.{phases_fold}
use Rattle.run_said.proofs.run_model.PartTasks.{View, Doing, Fixed, view}
use Rattle.run_said.proofs.run_model.TaskLemmas.{effect_name}
use Rattle.run_laws.specs.Causes.{CommitCause, DeliversTo, IsDirect}
use Rattle.run_laws.specs.Laws.{AskedHold}
use Rattle.run_laws.specs.Promises.{IsShown, WasChanging, WasEnding, WasLast, commitment, last_in, settlements_of}
use Rattle.run_laws.proofs.AllShown.{legal_shown}
use Rattle.run_laws.proofs.Asking.{IsAsked, StandsAt, UnderIt, asked_so}
use Rattle.run_laws.proofs.CauseRuns.{commits_hold}
use Rattle.run_laws.proofs.Deciding.{in_split, split_legal}
use Rattle.run_laws.proofs.LastBoots.{boots, lasts_hold, line_of, opening_own, plain_one, settled_own}
use Rattle.run_laws.proofs.LastSettled.{AllLast, begins_last, left, legal_lasts, part_lasts}
use Rattle.run_laws.proofs.Leaving.{step_in}
use Rattle.run_laws.proofs.OwnLines.{line_in, task_owns}
use Rattle.run_laws.proofs.Restarting.{last_seen}
use Rattle.run_laws.proofs.SettlingUp.{IsSettling, SettleTask, each_settling, settle_task, settle_up}
use Rattle.run_laws.proofs.ShownSettled.{answer_plain, in_append}
use Rattle.run_laws.proofs.SoundWorlds.{Changed, Here, Beside, IsSound, begins_sound, changed, legal_sound, opening_sound, part_sound, sound_node}
use Rattle.run_laws.proofs.Staying.{Stay, part_stays}
use Rattle.run_laws.proofs.TaskCauses.{effect_caused}
use Rattle.run_laws.proofs.Traces.{part_in, part_under}
use Rattle.run_laws.proofs.Unshown.{commit_line}

-- a restart shows no commitment
restart_commits_none : (s : Shared) (stops : ℕ) (n : Node) (c : Choice) (tid serial : Id) (moment : ℕ) → In (line.Committed tid serial moment) (task_effect s stops n Restarts c).lines → ⊥
restart_commits_none s stops n c tid serial moment i =
    let r = effect_caused s stops n Restarts c (line.Committed tid serial moment) (commitment tid serial moment) i refl in
    let same : line.Committed tid serial moment ≡ settled_line r.0 Abort r.2 r.3 = r.4 ∙ ap (λ o. settled_line r.0 o r.2 r.3) r.5.0 in
    let no : ⊥ = cc in
    no

module _ (nodes : List Node) (disks : List DiskCounts) (opening : AreOpening nodes) (before : List Entry) (w v : World) (legal : Legal (opened nodes disks) before w) (tid serial : Id) (moment : ℕ) where
  abbrev l : Line
  l = line.LastCommitted tid serial moment

  abbrev Asked : Type 0
  Asked = IsAsked tid serial moment (opened nodes disks) before

  -- at a node that is down it was asked for before
  abbrev Down : World → Type 0
  Down u = (n : Node) → find_node serial.node u.nodes ≡ Some n → n.up ≡ false → StandsAt tid serial moment u ⊎ UnderIt tid serial moment u → Asked

  -- a part that shows it as a last settlement, where it stands then
  shows_asked : (after : List DiskCounts) (u : World) (p : Part) (c : Choice) → IsSettling p → Allowed u p after c → IsSound u → Down u → In (line.LastCommitted tid serial moment) (part_effect u p c).lines → StandsAt tid serial moment (part_effect u p c).world → Asked
  shows_asked after u p c ok allowed sound known i stands = go (view u p)
    where
      go : View u p → Asked
      go (Fixed answer ends kind is) = absurd (subst (λ (e : PartEffect). In (line.LastCommitted tid serial moment) e.lines) (is c) i)
      go (Doing other t n named found does may) =
          let j = subst (λ (e : PartEffect). In (line.LastCommitted tid serial moment) e.lines) (does c) i in
          let at = sound_node u sound other n found in
          let seen = last_seen u.shared (stops_at other u) n t c (λ cause. RoseAt u other cause after) (line.LastCommitted tid serial moment) (commitment tid serial moment) at.kept (may after c allowed) j refl in
          let own = task_owns u.shared (stops_at other u) n t c (λ cause. RoseAt u other cause after) at (may after c allowed) (commitment tid serial moment) (line_in _ (line.LastCommitted tid serial moment) (commitment tid serial moment) [] j refl) in
          let home : other ≡ serial.node = sym (own ∙ found_name other u.nodes n found) in
          let here : find_node serial.node u.nodes ≡ Some n = subst (λ y. find_node y u.nodes ≡ Some n) home found in
          elim (part_in serial.node (commitment tid serial moment) (line.Committed tid serial moment) (commit_line tid serial moment) u p c stands) [
            | inl k ↦ known n here seen.down (inl k)
            | inr k ↦ elim k [
              | inl under ↦ known n here seen.down (inr under)
              | inr shown ↦ absurd (boot_none t seen.boots (settle_task u p other t ok named) (subst (λ (e : PartEffect). In (line.Committed tid serial moment) e.lines) (does c) shown))
            ]
          ]
        where
          boot_none : (t : Task) → boots t ≡ true → SettleTask t → In (line.Committed tid serial moment) (task_effect u.shared (stops_at other u) n t c).lines → ⊥
          boot_none t b (inl e) k = restart_commits_none u.shared (stops_at other u) n c tid serial moment (subst (λ y. In (line.Committed tid serial moment) (task_effect u.shared (stops_at other u) n y c).lines) e k)
          boot_none t b (inr (inl e)) k = let clash : true ≡ false = sym b ∙ ap boots e in let no : ⊥ = cc in no
          boot_none t b (inr (inr (m, e))) k = let clash : true ≡ false = sym b ∙ ap boots e in let no : ⊥ = cc in no

  -- a part with which the settling goes on
  goes_down : (after : List DiskCounts) (u : World) (p : Part) (c : Choice) → IsSettling p → Allowed u p after c → IsSound u → (part_effect u p c).ends ≡ false → Down u → Down (part_effect u p c).world
  goes_down after u p c ok allowed sound on known m is down h = go (view u p)
    where
      before_so : StandsAt tid serial moment u ⊎ UnderIt tid serial moment u ⊎ In (line.Committed tid serial moment) (part_effect u p c).lines
      before_so = elim h [
        | inl k ↦ part_in serial.node (commitment tid serial moment) (line.Committed tid serial moment) (commit_line tid serial moment) u p c k
        | inr k ↦ elim (part_under serial.node (commitment tid serial moment) (line.Committed tid serial moment) (commit_line tid serial moment) (inl refl) u p c after allowed k) [ inl r ↦ inr (inl r) | inr r ↦ absurd (both_ways (part_effect u p c).ends on r.ends) ]
      ]

      by : (n : Node) → find_node serial.node u.nodes ≡ Some n → n.up ≡ false → (In (line.Committed tid serial moment) (part_effect u p c).lines → ⊥) → Asked
      by n found off none = elim before_so [
        | inl k ↦ known n found off (inl k)
        | inr k ↦ elim k [ inl under ↦ known n found off (inr under) | inr shown ↦ absurd (none shown) ]
      ]

      go : View u p → Asked
      go (Fixed answer ends kind fixed) = by m (subst (λ (e : PartEffect). find_node serial.node e.world.nodes ≡ Some m) (fixed c) is) down (λ i. subst (λ (e : PartEffect). In (line.Committed tid serial moment) e.lines) (fixed c) i)
      go (Doing other t n named found does may) = at (changed other serial.node n u.nodes (task_effect u.shared (stops_at other u) n t c).node m (effect_name u.shared (stops_at other u) n t c) found (subst (λ (e : PartEffect). find_node serial.node e.world.nodes ≡ Some m) (does c) is))
        where
          kind : SettleTask t
          kind = settle_task u p other t ok named

          shown_here : In (line.Committed tid serial moment) (part_effect u p c).lines → In (line.Committed tid serial moment) (task_effect u.shared (stops_at other u) n t c).lines
          shown_here i = subst (λ (e : PartEffect). In (line.Committed tid serial moment) e.lines) (does c) i

          at : Changed other serial.node n u.nodes (task_effect u.shared (stops_at other u) n t c).node m → Asked
          at (Beside apart there) = by m there down (λ i. apart (task_owns u.shared (stops_at other u) n t c (λ cause. RoseAt u other cause after) (sound_node u sound other n found) (may after c allowed) (commitment tid serial moment) (line_in _ (line.Committed tid serial moment) (commitment tid serial moment) [] (shown_here i) refl) ∙ found_name other u.nodes n found))
          at (Here same there) = absurd (both_ways m.up down (ap (λ (k : Node). k.up) there ∙ settle_up u.shared (stops_at other u) n t c kind (sym (ap (λ (e : PartEffect). e.ends) (does c)) ∙ on)))

  -- a settling
  settle_asked : (lines : List Line) → (step : Step w Settle lines v) → ((node : List ℕ) (t : Settlement) → In t (settlements_of node v) → last_line t ≡ line.LastCommitted tid serial moment ∷ [] → In (commitment tid serial moment) (settlements_of serial.node v) → (t ≡ commitment tid serial moment) × (node ≡ serial.node)) →
      In (commitment tid serial moment) (settlements_of serial.node v) → In (line.LastCommitted tid serial moment) step.events → Asked ⊎ ((node : List ℕ) × WasLast node (line.LastCommitted tid serial moment) (opened nodes disks) before)
  settle_asked lines step final stands i = r.1 (begins_last (left before (opened nodes disks)) Settle w (legal_lasts (opened nodes disks) w before legal)) (begins_sound Settle w (legal_sound (opened nodes disks) w before (opening_sound nodes disks opening) legal)) (λ n found down h. asked_so tid serial moment nodes disks before w opening legal h) i
      (λ node t k e. final node t (subst (λ (x : World). In t (settlements_of node x)) (sym step.goes) k) e stands)
    where
      Goal : World → List Line → Line → World → Type 0
      Goal u rest answer x = Stay u x × (AllLast (left before (opened nodes disks)) u → IsSound u → Down u → In (line.LastCommitted tid serial moment) rest → ((node : List ℕ) (t : Settlement) → In t (settlements_of node x) → last_line t ≡ line.LastCommitted tid serial moment ∷ [] → (t ≡ commitment tid serial moment) × (node ≡ serial.node)) →
          Asked ⊎ ((node : List ℕ) × WasLast node (line.LastCommitted tid serial moment) (opened nodes disks) before))

      here : (u x : World) (p : Part) (c : Choice) → IsSettling p → Allowed u p v.disks c → Stay (part_effect u p c).world x → AllLast (left before (opened nodes disks)) u → IsSound u → Down u → In (line.LastCommitted tid serial moment) (part_effect u p c).lines → ((node : List ℕ) (t : Settlement) → In t (settlements_of node x) → last_line t ≡ line.LastCommitted tid serial moment ∷ [] → (t ≡ commitment tid serial moment) × (node ≡ serial.node)) →
          Asked ⊎ ((node : List ℕ) × WasLast node (line.LastCommitted tid serial moment) (opened nodes disks) before)
      here u x p c ok allowed stay last sound known i final =
          let k = (part_lasts (left before (opened nodes disks)) u p c last).1 (line.LastCommitted tid serial moment) (commitment tid serial moment) i refl in
          elim k.1 [
            | inl q ↦ (let f = final k.0 q.0 (stay k.0 q.0 q.1) q.2 in inl (shows_asked v.disks u p c ok allowed sound known i (subst (λ name. In (commitment tid serial moment) (settlements_of name (part_effect u p c).world)) f.1 (subst (λ t. In t (settlements_of k.0 (part_effect u p c).world)) f.0 q.1))))
            | inr was ↦ inr (k.0, was)
          ]

      r : Goal (begun_with Settle w) step.events step.answer step.world
      r = phases_fold v.disks IsSettling (λ g. Unit {0}) Goal
          (λ u g q. (λ node t k. k, λ last sound known j final. absurd j))
          (λ u p c ok allowed ends. (part_stays u p c, λ last sound known j final. here u (part_effect u p c).world p c ok allowed (λ node t k. k) last sound known j final))
          (λ u p c ok allowed on. (
            tt,
            λ rest answer x more. (
              λ node t k. more.0 node t (part_stays u p c node t k),
              λ last sound known j final. elim (in_append (line.LastCommitted tid serial moment) (part_effect u p c).lines rest j) [
                | inl k ↦ here u x p c ok allowed more.0 last sound known k final
                | inr k ↦ more.1 (part_lasts (left before (opened nodes disks)) u p c last).0 (part_sound u p c v.disks allowed sound) (goes_down v.disks u p c ok allowed sound on known) k final
              ],
            ),
          ))
          (phases_of Settle) each_settling (begun_with Settle w) line.Normal step.events step.answer step.world tt step.does

-- no BOOT commits a branch
boot_delivers_none : (es : List Entry) (node : List ℕ) (kind : Rattle.commit_protocol.specs.Messages.Kind) (tid serial : Id) → DeliversTo es (Says (At node Boot)) kind tid serial → ⊥
boot_delivers_none es node kind tid serial d = let e : Says (At node Boot) ≡ Says (Deliver d.0) = d.2 in let no : ⊥ = cc in no

boot_causes_none : (es : List Entry) (node : List ℕ) (front : List Line) (tid serial : Id) → CommitCause es (Says (At node Boot)) front tid serial ⊎ IsDirect (Says (At node Boot)) tid serial → ⊥
boot_causes_none es node front tid serial (inl (inl k)) = let e : Says (At node Boot) ≡ Says (At tid.node (EndTrans k.0)) = k.1 in let no : ⊥ = cc in no
boot_causes_none es node front tid serial (inl (inr (inl k))) = elim k.0 [ inl vote ↦ boot_delivers_none es node _ tid vote.0 vote.1 | inr vote ↦ boot_delivers_none es node _ tid vote.0 vote.1 ]
boot_causes_none es node front tid serial (inl (inr (inr (inl k)))) = let e : Says (At node Boot) ≡ Says (At serial.node (AckEvent (k.1).0 (k.1).1 k.0)) = (k.1).2 in let no : ⊥ = cc in no
boot_causes_none es node front tid serial (inl (inr (inr (inr (inl d))))) = boot_delivers_none es node _ tid serial d
boot_causes_none es node front tid serial (inl (inr (inr (inr (inr k))))) = let e : Says (At node Boot) ≡ Says Settle = k.0 in let no : ⊥ = cc in no
boot_causes_none es node front tid serial (inr d) = let e : Says (At node Boot) ≡ Says (At serial.node (Direct d.0 d.1)) = d.2 in let no : ⊥ = cc in no

pub asked_hold : AskedHold
asked_hold nodes disks es closing opening legal before said front behind tid serial moment there = elim lasts.1 [
  | inr was ↦ inl was
  | inl stands ↦ elim lasts.0 [ inl boot ↦ of_boot boot stands | inr settle ↦ of_settle settle stands ]
]
  where
    l : Line
    l = line.LastCommitted tid serial moment

    r : (v : World) × Legal (opened nodes disks) (there.entry ∷ before) v × Legal v there.after closing
    r = split_legal (opened nodes disks) closing there.after (there.entry ∷ before) (subst (λ es. Legal (opened nodes disks) es closing) there.stands legal)

    lasts : ((said ≡ Says (At serial.node Boot)) ⊎ (said ≡ Says Settle)) × (In (commitment tid serial moment) (settlements_of serial.node r.0) ⊎ WasLast serial.node (line.LastCommitted tid serial moment) (opened nodes disks) before)
    lasts =
        let h = lasts_hold nodes disks (there.entry ∷ before) r.0 opening r.1 before said front behind (line.LastCommitted tid serial moment) (commitment tid serial moment) (record { after = []; entry = there.entry; stands = refl; read = there.read; shown = there.shown }) refl in
        (h.0, h.1)

    Result : Type 0
    Result = WasLast serial.node (line.LastCommitted tid serial moment) (opened nodes disks) before ⊎ IsShown (commitment tid serial moment) before ⊎ WasEnding before tid serial ⊎ WasChanging (opened nodes disks) before serial

    told : IsAsked tid serial moment (opened nodes disks) before → WasLast serial.node (line.LastCommitted tid serial moment) (opened nodes disks) before ⊎ IsShown (commitment tid serial moment) before ⊎ WasEnding before tid serial ⊎ WasChanging (opened nodes disks) before serial
    told (inl (e, i, j)) = inr (inl (e, line.Committed tid serial moment, i, j, refl))
    told (inr (inl ending)) = inr (inr (inl ending))
    told (inr (inr changing)) = inr (inr (inr changing))

    of_boot : said ≡ Says (At serial.node Boot) → In (commitment tid serial moment) (settlements_of serial.node r.0) → WasLast serial.node (line.LastCommitted tid serial moment) (opened nodes disks) before ⊎ IsShown (commitment tid serial moment) before ⊎ WasEnding before tid serial ⊎ WasChanging (opened nodes disks) before serial
    of_boot boot stands =
        let step : Step (r.1).0 (At serial.node Boot) there.entry.lines r.0 = subst (λ x. Turn (r.1).0 x there.entry.lines r.0) (there.read ∙ boot) (r.1).2 in
        elim (step_in serial.node (commitment tid serial moment) (line.Committed tid serial moment) (commit_line tid serial moment) (inl refl) (r.1).0 r.0 (At serial.node Boot) there.entry.lines step stands) [
          | inl k ↦ told (asked_so tid serial moment nodes disks before (r.1).0 opening (r.1).1 (inl k))
          | inr k ↦ elim k [
            | inl under ↦ told (asked_so tid serial moment nodes disks before (r.1).0 opening (r.1).1 (inr under))
            | inr shown ↦ (
                let s = in_split (line.Committed tid serial moment) there.entry.lines (subst (In (line.Committed tid serial moment)) (sym step.shows) (in_left (line.Committed tid serial moment) step.events (step.answer ∷ []) shown)) in
                absurd (boot_causes_none before serial.node s.0 tid serial (commits_hold nodes disks (there.entry ∷ before) r.0 opening r.1 before (Says (At serial.node Boot)) s.0 s.1 tid serial moment (record { after = []; entry = there.entry; stands = refl; read = there.read ∙ boot; shown = s.2 })).0)
                )
          ]
        ]

    of_settle : said ≡ Says Settle → In (commitment tid serial moment) (settlements_of serial.node r.0) → WasLast serial.node (line.LastCommitted tid serial moment) (opened nodes disks) before ⊎ IsShown (commitment tid serial moment) before ⊎ WasEnding before tid serial ⊎ WasChanging (opened nodes disks) before serial
    of_settle settle stands = elim (settle_asked nodes disks opening before (r.1).0 r.0 (r.1).1 tid serial moment there.entry.lines step final stands there_in) [
      | inl asked ↦ told asked
      | inr (node, was) ↦ inl (subst (λ name. WasLast name (line.LastCommitted tid serial moment) (opened nodes disks) before) (sym (opening_own nodes disks node (commitment tid serial moment) (line.LastCommitted tid serial moment) before opening was refl)) was)
    ]
      where
        step : Step (r.1).0 Settle there.entry.lines r.0
        step = subst (λ x. Turn (r.1).0 x there.entry.lines r.0) (there.read ∙ settle) (r.1).2

        there_in : In (line.LastCommitted tid serial moment) step.events
        there_in = elim (in_append (line.LastCommitted tid serial moment) step.events (step.answer ∷ []) (subst (In (line.LastCommitted tid serial moment)) (sym there.shown ∙ step.shows) (in_right (line.LastCommitted tid serial moment) front (line.LastCommitted tid serial moment ∷ behind) (inl refl)))) [
          | inl i ↦ i
          | inr i ↦ elim i [ inl same ↦ absurd (plain_one step.answer (commitment tid serial moment) (answer_plain (r.1).0 r.0 Settle there.entry.lines step) (ap last_in (sym same))) | inr none ↦ absurd none ]
        ]

        final : (node : List ℕ) (t : Settlement) → In t (settlements_of node r.0) → last_line t ≡ line.LastCommitted tid serial moment ∷ [] → In (commitment tid serial moment) (settlements_of serial.node r.0) → (t ≡ commitment tid serial moment) × (node ≡ serial.node)
        final node t i e stands = (go (find_node node (r.0).nodes) refl i, sym (settled_own nodes disks (there.entry ∷ before) r.0 node (commitment tid serial moment) t (line.LastCommitted tid serial moment) opening r.1 i e refl).0)
          where
            go : (o : Option Node) → find_node node (r.0).nodes ≡ o → In t (elim o as (λ x. List Settlement) [ Some n ↦ n.settled | None ↦ [] ]) → t ≡ commitment tid serial moment
            go (Some n) found j = line_of t (commitment tid serial moment) (line.LastCommitted tid serial moment) ((legal_shown nodes disks (there.entry ∷ before) r.0 node opening r.1 n found).disk.formed t j) e refl
            go None found j = absurd j
