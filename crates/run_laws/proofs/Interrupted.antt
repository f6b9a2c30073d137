-- What the first boot behind a failure that ended an END_TRANS tells of its transaction.
use Rattle.std.proofs.Common.{◌≡◌, ℕ, ◌⊎◌, List, [], ◌∷◌, ◌++◌, inl, inr, true, Option, Some, None, refl, sym, ◌∙◌, ap, subst}
use Rattle.std.specs.List.{list_any}
use Rattle.std.specs.Str.{bytes_eq}
use Rattle.std.proofs.lemmas.Bool.{and_parts}
use Rattle.std.proofs.lemmas.List.{append_assoc}
use Rattle.std.proofs.lemmas.Slice.Eq.{bytes_eq-Decides}
use Rattle.vms_model.specs.Ids.{Id}
use Rattle.vms_model.specs.Transactions.{Commit, Abort}
use Rattle.run_said.specs.transcript_model.Lines as line
use Rattle.run_said.specs.transcript_model.Lines.{Line, Cause}
use Rattle.run_said.specs.script_model.Statements.{Statement, At, Settle, Deliver, LinkDown, Boot, EndTrans, StartTrans, Says}
use Rattle.run_said.specs.script_model.Grammar.{reading}
use Rattle.commit_protocol.specs.World.{In}
use Rattle.commit_protocol.proofs.Lists.{in_left}
use Rattle.run_said.specs.run_model.World.{World, Node, DiskCounts, Settlement, find_node, opened}
use Rattle.run_said.specs.run_model.Statements.{Step}
use Rattle.run_said.proofs.run_model.Refusing.{same_last}
use Rattle.run_said.specs.run_model.Transcript.{Entry, Legal, AreOpening, Turn}
use Rattle.run_laws.specs.Causes.{WasBegun}
use Rattle.run_laws.specs.Laws.{InterruptedHold}
use Rattle.run_laws.specs.Promises.{IsDecided, NoneCamePast, came_past, commitment, is_of_boot, last_in, settlements_of}
use Rattle.run_laws.proofs.Again.{IsGoneSo, boot_gone, gone_so_on}
use Rattle.run_laws.proofs.AgainSettled.{settle_gone}
use Rattle.run_laws.proofs.AllShown.{IsFormed, legal_shown}
use Rattle.run_laws.proofs.Beginning.{Begins, transaction_begins}
use Rattle.run_laws.proofs.Deciding.{commit_or_none, committed_after, join_legal, split_legal}
use Rattle.run_laws.proofs.EachRow.{is_plain}
use Rattle.run_laws.proofs.EndFalls.{FellEnding, ending_falls}
use Rattle.run_laws.proofs.FirstBranch.{IsFirst, first_on}
use Rattle.run_laws.proofs.LastShown.{IsLasting, lasting_on}
use Rattle.run_laws.proofs.NamedRuns.{legal_named}
use Rattle.run_laws.proofs.ShownSettled.{in_append, answer_plain}
use Rattle.run_laws.proofs.LastBoots.{plain_one}
use Rattle.run_laws.proofs.SoundWorlds.{IsSound, legal_sound, opening_sound}
use Rattle.run_laws.proofs.Undecided.{commits_so, never_of}
use Rattle.run_laws.proofs.Waiting.{Waits, between_waits, waits_from}

pub past_gone : (x : Id) (w v : World) (s : Statement) (lines : List Line) → Waits x [] w → Step w s lines v → came_past x.node (Says s) lines ≡ true → IsGoneSo x lines v
past_gone x w v Settle lines h step past = settle_gone x w v lines h step past
past_gone x w v (At node Boot) lines h step past =
    let parts = and_parts (bytes_eq node x.node) (list_any (is_of_boot x.node) lines) past in
    let same : node ≡ x.node = (bytes_eq-Decides node x.node).0 parts.0 in
    boot_gone x w v lines h (subst (λ name. Step w (At name Boot) lines v) same step) parts.1
past_gone x w v (At node _) lines h step past = let no : ⊥ = cc in absurd no
past_gone x w v (Deliver number) lines h step past = let no : ⊥ = cc in absurd no
past_gone x w v (LinkDown a b) lines h step past = let no : ⊥ = cc in absurd no

module _ (nodes : List Node) (disks : List DiskCounts) (es : List Entry) (closing : World) (opening : AreOpening nodes) (legal : Legal (opened nodes disks) es closing) (x : Id) where
  -- By what is known behind that boot it is decided.
  decided : (shown : List Line) (answer : Line) (w v : World) (s : Statement) (after : List Entry) → Step w s (shown ++ answer ∷ []) v → Legal v after closing → IsLasting x w → IsFirst x closing → IsGoneSo x (shown ++ answer ∷ []) v →
      (e : Entry) → reading e.source.text ≡ Says s → e.lines ≡ shown ++ answer ∷ [] → IsDecided x shown closing
  decided shown answer w v s after step path lasting first gone e said is = go (commit_or_none x (settlements_of x.node closing))
    where
      known : IsGoneSo x (shown ++ answer ∷ []) closing
      known = gone_so_on x (shown ++ answer ∷ []) v closing after path gone

      plain : is_plain answer ≡ true
      plain = ap is_plain (same_last shown step.events answer step.answer step.shows).1 ∙ answer_plain w v s (shown ++ answer ∷ []) step

      in_shown : (t y : Id) (moment : ℕ) → In (line.LastCommitted t y moment) (shown ++ answer ∷ []) → In (line.LastCommitted t y moment) shown
      in_shown t y moment i = elim (in_append (line.LastCommitted t y moment) shown (answer ∷ []) i) [
        | inl j ↦ j
        | inr j ↦ elim j [ inl same ↦ absurd (plain_one answer (commitment t y moment) plain (ap last_in (sym same))) | inr none ↦ absurd none ]
      ]

      -- a line that shows it tells that it is settled so
      settled : (t : Id) (moment : ℕ) → In (line.LastCommitted t x moment) shown → (y : Settlement) × In y (settlements_of x.node closing) × (y.serial ≡ x) × (y.outcome ≡ Commit)
      settled t moment i =
          let turn : Turn w (reading e.source.text) e.lines v = subst (λ r. Turn w r e.lines v) (sym said) (subst (λ ls. Step w s ls v) (sym is) step) in
          committed_after x w closing after [] e t moment lasting (join_legal w v closing after (e ∷ []) (w, refl, turn) path) (subst (In (line.LastCommitted t x moment)) (sym is) (in_left (line.LastCommitted t x moment) shown (answer ∷ []) i))

      by_node : (s : Settlement) → In s (settlements_of x.node closing) → s.serial ≡ x → s.outcome ≡ Commit → (s.tid ≡ x) × IsFormed s
      by_node s i e c = go (find_node x.node closing.nodes) refl i
        where
          go : (o : Option Node) → find_node x.node closing.nodes ≡ o → In s (elim o as (λ y. List Settlement) [ Some n ↦ n.settled | None ↦ [] ]) → (s.tid ≡ x) × IsFormed s
          go (Some n) found j = ((first.tracked n found).disk.commits s j e c, (legal_shown nodes disks es closing x.node opening legal n found).disk.formed s j)
          go None found j = absurd j

      so : (s : Settlement) → In s (settlements_of x.node closing) → s.serial ≡ x → s.outcome ≡ Commit → IsDecided x shown closing
      so s i e c =
          let r = by_node s i e c in
          let line_there : In (line.LastCommitted s.tid s.serial s.moment) (shown ++ answer ∷ []) = commits_so x (λ t. ⊥) (λ y. In (line.LastCommitted y.tid y.serial y.moment) (shown ++ answer ∷ [])) (λ y e h. absurd h) closing known s i e c in
          let formed : s ≡ commitment s.tid s.serial s.moment = elim r.1 [
            | inl is ↦ is
            | inr q ↦ (let clash : Abort ≡ Commit = sym (ap (λ (y : Settlement). y.outcome) q.1) ∙ c in let no : ⊥ = cc in absurd no)
          ] in
          inl (s.moment, in_shown x x s.moment (subst (λ y. In (line.LastCommitted x y s.moment) (shown ++ answer ∷ [])) e (subst (λ y. In (line.LastCommitted y s.serial s.moment) (shown ++ answer ∷ [])) r.0 line_there)), (s, i, formed ∙ (λ j. commitment (r.0 j) (e j) s.moment)))

      go : ((s : Settlement) × In s (settlements_of x.node closing) × (s.serial ≡ x) × (s.outcome ≡ Commit)) ⊎ ((s : Settlement) → In s (settlements_of x.node closing) → s.serial ≡ x → s.outcome ≡ Commit → ⊥) → IsDecided x shown closing
      go (inr none) = inr (never_of x closing none, λ moment i. let y = settled x moment i in none y.0 y.1 y.2 y.3)
      go (inl r) = so r.0 r.1 r.2 r.3

pub interrupted_hold : InterruptedHold
interrupted_hold nodes disks es closing opening legal before node label events cause there between s shown answer past came none =
    (fell.tid, fell.begun, decided nodes disks es closing opening legal fell.tid shown answer w2 v2 s past.after step2 (q.2) lasting first_closing gone past.entry past.said past.shown)
  where
    r : (v : World) × Legal (opened nodes disks) (there.entry ∷ before) v × Legal v there.after closing
    r = split_legal (opened nodes disks) closing there.after (there.entry ∷ before) (subst (λ es. Legal (opened nodes disks) es closing) there.stands legal)

    v1 : World
    v1 = r.0

    w1 : World
    w1 = (r.1).0

    q : (v : World) × Legal r.0 (past.entry ∷ between) v × Legal v past.after closing
    q = split_legal r.0 closing past.after (past.entry ∷ between) (subst (λ es. Legal r.0 es closing) past.stands r.2)

    v2 : World
    v2 = q.0

    w2 : World
    w2 = (q.1).0

    step1 : Step (r.1).0 (At node (EndTrans label)) (events ++ line.Broken cause ∷ []) r.0
    step1 = subst (λ lines. Step (r.1).0 (At node (EndTrans label)) lines r.0) there.shown (subst (λ y. Turn (r.1).0 y there.entry.lines r.0) there.said (r.1).2)

    step2 : Step (q.1).0 s (shown ++ answer ∷ []) q.0
    step2 = subst (λ lines. Step (q.1).0 s lines q.0) past.shown (subst (λ y. Turn (q.1).0 y past.entry.lines q.0) past.said (q.1).2)

    sound : (w : World) (es : List Entry) → Legal (opened nodes disks) es w → IsSound w
    sound w es legal = legal_sound (opened nodes disks) w es (opening_sound nodes disks opening) legal

    fell : FellEnding before node label r.0
    fell = ending_falls before (r.1).0 r.0 node label events cause (sound (r.1).0 before (r.1).1) (legal_named nodes disks before (r.1).0 opening (r.1).1) step1

    x : Id
    x = fell.tid

    begun : WasBegun before node label fell.tid
    begun = fell.begun

    b : (v0 : World) × Legal (opened nodes disks) (begun.2.entry ∷ begun.0) v0 × Legal v0 begun.2.after (r.1).0
    b = split_legal (opened nodes disks) (r.1).0 begun.2.after (begun.2.entry ∷ begun.0) (subst (λ es. Legal (opened nodes disks) es (r.1).0) begun.2.stands (r.1).1)

    started : (fell.tid.node ≡ node) × Begins fell.tid (b.1).0 b.0
    started = transaction_begins (b.1).0 b.0 node label begun.1 fell.tid (sound (b.1).0 begun.0 (b.1).1) (subst (λ lines. Step (b.1).0 (At node (StartTrans label begun.1)) lines b.0) begun.2.shown (subst (λ y. Turn (b.1).0 y begun.2.entry.lines b.0) begun.2.said (b.1).2))

    path01 : Legal b.0 (there.entry ∷ begun.2.after) r.0
    path01 = ((r.1).0, b.2, (r.1).2)

    first_v1 : IsFirst fell.tid r.0
    first_v1 = first_on fell.tid nodes disks opening (begun.2.entry ∷ begun.0) (there.entry ∷ begun.2.after) b.0 r.0 b.1 path01 started.1.is_first

    first_closing : IsFirst fell.tid closing
    first_closing = first_on fell.tid nodes disks opening (there.entry ∷ before) there.after r.0 closing r.1 r.2 first_v1

    lasting : IsLasting fell.tid (q.1).0
    lasting = lasting_on fell.tid r.0 (q.1).0 between (q.1).1 (lasting_on fell.tid b.0 r.0 (there.entry ∷ begun.2.after) path01 started.1.own)

    stands : es ≡ (past.after ++ past.entry ∷ []) ++ (between ++ there.entry ∷ before)
    stands = there.stands ∙ ap (λ ys. ys ++ there.entry ∷ before) past.stands ∙ append_assoc past.after (past.entry ∷ between) (there.entry ∷ before) ∙ sym (append_assoc past.after (past.entry ∷ []) (between ++ there.entry ∷ before))

    waits : Waits fell.tid [] (q.1).0
    waits = between_waits fell.tid nodes disks es closing opening legal between (past.after ++ past.entry ∷ []) (there.entry ∷ before) stands (subst (λ name. NoneCamePast name between) (sym fell.home) none) r.0 (q.1).0 (q.1).1
        (waits_from fell.tid r.0 fell.m first_v1 fell.found fell.down fell.last fell.way)

    gone : IsGoneSo fell.tid (shown ++ answer ∷ []) q.0
    gone = past_gone fell.tid (q.1).0 q.0 s (shown ++ answer ∷ []) waits step2 (subst (λ name. came_past name (Says s) (shown ++ answer ∷ []) ≡ true) (sym fell.home) came)
