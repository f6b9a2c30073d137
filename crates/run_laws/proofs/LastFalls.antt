-- An abort for a fall that a boot shows as the last settlement of its disk is of a branch that began before, or that stood unsettled at the opening.
use Rattle.std.proofs.Common.{◌≡◌, ℕ, ◌⊎◌, List, [], ◌∷◌, ◌++◌, inl, inr, Option, Some, None, refl, sym, ◌∙◌, subst}
use Rattle.vms_model.specs.Ids.{Id}
use Rattle.vms_model.specs.Transactions.{SegFail}
use Rattle.run_said.specs.transcript_model.Lines as line
use Rattle.run_said.specs.transcript_model.Lines.{Line}
use Rattle.run_said.specs.script_model.Statements.{Reading, Blank, Says, Bad}
use Rattle.run_said.specs.script_model.Grammar.{reading}
use Rattle.commit_protocol.specs.World.{In}
use Rattle.commit_protocol.proofs.Lists.{in_left}
use Rattle.run_said.specs.run_model.World.{World, Node, Act, DiskCounts, Settlement, find_node, opened}
use Rattle.run_said.specs.run_model.Transcript.{Entry, AreOpening, Legal, Turn}
use Rattle.recovery_laws.proofs.world_laws.WorldLemmas.{each_opening}
use Rattle.run_laws.specs.Causes.{HasBegun}
use Rattle.run_laws.specs.Laws.{LastFallsBegunHold}
use Rattle.run_laws.specs.Promises.{WasLeft, abort, settlements_of}
use Rattle.run_laws.proofs.AbortsAsked.{Stands, last_known, stands_at}
use Rattle.run_laws.proofs.Deciding.{in_split}
use Rattle.run_laws.proofs.FallsRuns.{falls_begun}
use Rattle.run_laws.proofs.Leaving.{Another, step_in, step_under}
use Rattle.run_laws.proofs.Named.{born_later}
use Rattle.run_laws.proofs.Traces.{IsUnder}
use Rattle.run_laws.proofs.Unshown.{abort_line}

module _ (nodes : List Node) (disks : List DiskCounts) (opening : AreOpening nodes) (tid serial : Id) (moment : ℕ) where
  -- it began before, or stood unsettled at the opening
  abbrev May : List Entry → Type 0
  May es = HasBegun es tid serial ⊎ WasLeft tid serial (opened nodes disks)

  may_later : (e : Entry) (es : List Entry) → May es → May (e ∷ es)
  may_later e es (inl began) = inl (born_later e es tid serial began)
  may_later e es (inr left) = inr left

  -- where it was shown
  shown_may : (e : Entry) (es : List Entry) (w : World) (said : Reading) (front behind : List Line) → Legal (opened nodes disks) (e ∷ es) w → reading e.source.text ≡ said → e.lines ≡ front ++ line.Aborted tid serial SegFail moment ∷ behind → May es
  shown_may e es w said front behind legal read shown = falls_begun nodes disks (e ∷ es) w opening legal es said front behind tid serial moment (record { after = []; entry = e; stands = refl; read = read; shown = shown })

  -- where it stands, or is under way
  stood_may : (es : List Entry) (w : World) → Legal (opened nodes disks) es w → Stands tid serial SegFail moment w → May es
  stood_may [] w legal h = absurd (elim h [ inl i ↦ stands (find_node serial.node nodes) refl (subst (λ (x : World). In (abort tid serial SegFail moment) (settlements_of serial.node x)) legal i) | inr u ↦ under (subst (IsUnder serial.node (abort tid serial SegFail moment)) legal u) ])
    where
      stands : (o : Option Node) → find_node serial.node nodes ≡ o → In (abort tid serial SegFail moment) (elim o as (λ x. List Settlement) [ Some n ↦ n.settled | None ↦ [] ]) → ⊥
      stands (Some n) found i = subst (In (abort tid serial SegFail moment)) (each_opening nodes opening serial.node n found).settled i
      stands None found i = i

      under : IsUnder serial.node (abort tid serial SegFail moment) (opened nodes disks) → ⊥
      under (n, found, (act, is, so)) = let clash : ◌≡◌ {A = Option Act} None (Some act) = sym (each_opening nodes opening serial.node n found).under_way ∙ is in let no : ⊥ = cc in no
  stood_may (e ∷ es) w legal h = go (reading e.source.text) refl legal.2 (λ k. may_later e es (stood_may es legal.0 legal.1 k)) h
    where
      go : (r : Reading) → reading e.source.text ≡ r → Turn legal.0 r e.lines w → (Stands tid serial SegFail moment legal.0 → May (e ∷ es)) → Stands tid serial SegFail moment w → May (e ∷ es)
      go Blank said turn before k = before (subst (Stands tid serial SegFail moment) turn.1 k)
      go (Bad column) said turn before k = absurd turn
      go (Says st) said turn before (inl i) = elim (step_in serial.node (abort tid serial SegFail moment) (line.Aborted tid serial SegFail moment) (abort_line tid serial SegFail moment) (inr refl) legal.0 w st e.lines turn i) [
        | inl k ↦ before (inl k)
        | inr k ↦ elim k [
          | inl u ↦ before (inr u)
          | inr shown ↦ (
              let parts = in_split (line.Aborted tid serial SegFail moment) e.lines (subst (In (line.Aborted tid serial SegFail moment)) (sym turn.shows) (in_left (line.Aborted tid serial SegFail moment) turn.events (turn.answer ∷ []) shown)) in
              may_later e es (shown_may e es w (Says st) parts.0 parts.1 legal said parts.2)
              )
        ]
      ]
      go (Says st) said turn before (inr u) = elim (step_under serial.node (abort tid serial SegFail moment) (line.Aborted tid serial SegFail moment) (abort_line tid serial SegFail moment) (inr refl) legal.0 w st e.lines turn u) [
        | inl k ↦ before (inr k)
        | inr a ↦ may_later e es (another a)
      ]
        where
          another : Another serial.node (line.Aborted tid serial SegFail moment) legal.0 w st e.lines → May es
          another a = shown_may (record { source = e.source; lines = a.front ++ line.Aborted tid serial SegFail moment ∷ line.Down serial.node a.cause ∷ line.Broken a.cause ∷ [] }) es a.other (Says st) a.front (line.Down serial.node a.cause ∷ line.Broken a.cause ∷ [])
              (legal.0, legal.1, subst (λ r. Turn legal.0 r (a.front ++ line.Aborted tid serial SegFail moment ∷ line.Down serial.node a.cause ∷ line.Broken a.cause ∷ []) a.other) (sym said) a.step) said refl

pub last_falls_begun : LastFallsBegunHold
last_falls_begun nodes disks es closing opening legal before said front behind tid serial moment there =
    elim (last_known nodes disks es closing opening legal before said front behind tid serial SegFail moment there (HasBegun before tid serial ⊎ WasLeft tid serial (opened nodes disks))
    (λ w n led found has. stood_may nodes disks opening tid serial moment before w led (stands_at tid serial SegFail moment w n found has))) [
      | inl was ↦ inr (inr was)
      | inr may ↦ elim may [ inl began ↦ inl began | inr left ↦ inr (inl left) ]
    ]
