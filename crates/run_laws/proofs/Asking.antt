-- Each commitment that stands at a node, or is under way there, was asked for.
use Rattle.std.proofs.Common.{◌≡◌, ℕ, zero, suc, ◌⊎◌, List, [], ◌∷◌, ◌++◌, take, inl, inr, true, false, Option, Some, None, refl, sym, ◌∙◌, ap, subst}
use Rattle.std.specs.Option.{option_map}
use Rattle.vms_model.specs.Ids.{Id}
use Rattle.run_said.specs.transcript_model.Lines as line
use Rattle.run_said.specs.transcript_model.Lines.{Line, Cause}
use Rattle.run_said.specs.script_model.Statements.{Statement, At, Direct, Operation, Put, Update, Delete, Truncate, Get, Next, Reading, Blank, Says, Bad}
use Rattle.run_said.specs.script_model.Grammar.{reading}
use Rattle.unit_laws.specs.records_model.Records.{Change}
use Rattle.commit_protocol.specs.World.{In}
use Rattle.commit_protocol.proofs.Lists.{in_left, in_right}
use Rattle.run_said.specs.run_model.World.{World, Shared, Node, Act, DiskCounts, File, Settlement, find_file, find_node, next_id, next_moment, opened}
use Rattle.run_said.specs.run_model.Operations.{changes_of, is_change}
use Rattle.run_said.specs.run_model.Answers.{Serves, changes_at, directed, refused_before_reading, service}
use Rattle.run_said.specs.run_model.Steps.{Choice, Cut, Unpowered, Whole, WithoutMemory, begun, lines_of_rows, rows_if, task_effect, whole}
use Rattle.run_said.specs.run_model.Statements.{Step, RoseAt, stops_at}
use Rattle.run_said.specs.run_model.StepLaws.{is_refusal}
use Rattle.run_said.specs.run_model.Transcript.{Entry, Legal, AreOpening, Turn}
use Rattle.run_said.proofs.run_model.NodeLists.{clash}
use Rattle.run_said.proofs.run_model.TaskLemmas.{outcome}
use Rattle.recovery_laws.proofs.world_laws.WorldLemmas.{each_opening}
use Rattle.run_laws.specs.Accounts.{broken_id}
use Rattle.run_laws.specs.Causes.{CommitCause, IsDirect}
use Rattle.run_laws.specs.Promises.{WasChanging, WasEnding, commitment, settlements_of}
use Rattle.run_laws.specs.SaidLaws.{SaidThere}
use Rattle.run_laws.proofs.CauseRuns.{commits_hold}
use Rattle.run_laws.proofs.EachRow.{is_plain}
use Rattle.run_laws.proofs.Leaving.{Another, step_in, step_under}
use Rattle.run_laws.proofs.Named.{Ended, Refused, Turned, ended}
use Rattle.run_laws.proofs.ShownSettled.{in_append, outcome_other}
use Rattle.run_laws.proofs.Traces.{IsUnder}
use Rattle.run_laws.proofs.Unshown.{commit_line}

-- A change without a label.
module _ (tid serial : Id) (moment : ℕ) where
  abbrev it : Line
  it = line.Committed tid serial moment

  abbrev IsNext : Node → List ℕ → Operation → Type 0
  IsNext n file op = (is_change op ≡ true) × (serial ≡ next_id n)

  changes_some : (n : Node) (file : List ℕ) (op : Operation) (c : Change) (cs : List Change) → changes_at n file op ≡ c ∷ cs → is_change op ≡ true
  changes_some n file op c cs e = go (find_file file n.durable.directory) op e
    where
      none : (f : File) → ◌≡◌ {A = List Change} [] (c ∷ cs) → {A : Type 0} → A
      none f q = let no : ⊥ = cc in absurd no

      go : (o : Option File) (op : Operation) → elim o as (λ x. List Change) [ Some f ↦ changes_of f op | None ↦ [] ] ≡ c ∷ cs → is_change op ≡ true
      go None op q = let no : ⊥ = cc in absurd no
      go (Some f) (Put number bytes) q = refl
      go (Some f) (Update key bytes) q = refl
      go (Some f) (Delete key) q = refl
      go (Some f) (Truncate number) q = refl
      go (Some f) (Get key) q = none f q
      go (Some f) (Next after) q = none f q

  rows_next : (n : Node) (file : List ℕ) (op : Operation) (j : ℕ) (q : Option Line) → (In (line.Committed tid serial moment) (lines_of_rows (take j (rows_if q (directed n file (changes_at n file op))))) ⊎ In (line.Committed tid serial moment) (lines_of_rows (directed n file (changes_at n file op)))) → IsNext n file op
  rows_next n file op j q i = go (changes_at n file op) refl j q i
    where
      one : (c : Change) (cs : List Change) → changes_at n file op ≡ c ∷ cs → In (line.Committed tid serial moment) (line.Committed (next_id n) (next_id n) (next_moment n) ∷ []) → IsNext n file op
      one c cs e k = elim k [
        | inl same ↦ (let is : line.Committed tid serial moment ≡ line.Committed (next_id n) (next_id n) (next_moment n) = same in (changes_some n file op c cs e, cc))
        | inr none ↦ absurd none
      ]

      go : (chs : List Change) → changes_at n file op ≡ chs → (j : ℕ) (q : Option Line) → (In (line.Committed tid serial moment) (lines_of_rows (take j (rows_if q (directed n file chs)))) ⊎ In (line.Committed tid serial moment) (lines_of_rows (directed n file chs))) → IsNext n file op
      go [] e zero (Some refusal) (inl k) = absurd k
      go [] e zero None (inl k) = absurd k
      go [] e (suc j) (Some refusal) (inl k) = absurd k
      go [] e (suc j) None (inl k) = absurd k
      go [] e j q (inr k) = absurd k
      go (c ∷ cs) e zero (Some refusal) (inl k) = absurd k
      go (c ∷ cs) e zero None (inl k) = absurd k
      go (c ∷ cs) e (suc j) (Some refusal) (inl k) = absurd k
      go (c ∷ cs) e (suc zero) None (inl k) = one c cs e k
      go (c ∷ cs) e (suc (suc j)) None (inl k) = one c cs e k
      go (c ∷ cs) e j q (inr k) = one c cs e k

  direct_next : (sh : Shared) (stops : ℕ) (n : Node) (file : List ℕ) (op : Operation) (c : Choice) → In (line.Committed tid serial moment) (task_effect sh stops n (Serves (Direct file op)) c).lines → IsNext n file op
  direct_next sh stops n file op (Whole o) i = first (refused_before_reading sh n (service (Direct file op))) i
    where
      late : (q : Option Line) → In (line.Committed tid serial moment) (begun sh n (service (Direct file op)) q).lines → IsNext n file op
      late (Some refusal) k = absurd k
      late None k = elim (in_append (line.Committed tid serial moment) (lines_of_rows (directed n file (changes_at n file op))) [] k) [ inl j ↦ rows_next n file op zero None (inr j) | inr none ↦ absurd none ]

      first : (q : Option Line) → In (line.Committed tid serial moment) (whole sh n n (service (Direct file op)) q).lines → IsNext n file op
      first (Some refusal) k = absurd k
      first None k = late ((service (Direct file op)).refused_after_reading sh n) k
  direct_next sh stops n file op WithoutMemory i = absurd i
  direct_next sh stops n file op Unpowered i = elim i [ inl same ↦ (let no : ⊥ = cc in absurd no) | inr none ↦ absurd none ]
  direct_next sh stops n file op (Cut o j b cause) i = elim (in_append (line.Committed tid serial moment) (lines_of_rows (take j (rows_if ((service (Direct file op)).refused_after_reading sh n) (directed n file (changes_at n file op))))) (line.Down n.name cause ∷ []) i) [
    | inl k ↦ rows_next n file op j ((service (Direct file op)).refused_after_reading sh n) (inl k)
    | inr k ↦ elim k [ inl same ↦ (let no : ⊥ = cc in absurd no) | inr none ↦ absurd none ]
  ]

  step_next : (w v : World) (node file : List ℕ) (op : Operation) (lines : List Line) → Step w (At node (Direct file op)) lines v → In (line.Committed tid serial moment) lines → (is_change op ≡ true) × (broken_id node w ≡ Some serial)
  step_next w v node file op lines step i = go (ended w v (At node (Direct file op)) lines node (Serves (Direct file op)) refl step)
    where
      go : Ended w v node (Serves (Direct file op)) lines → (is_change op ≡ true) × (broken_id node w ≡ Some serial)
      go (Refused refusal r shows goes) = elim (subst (In (line.Committed tid serial moment)) shows i) [ inl same ↦ absurd (clash _ (ap is_refusal same ∙ r) refl) | inr none ↦ absurd none ]
      go (Turned n found c allowed shows goes) =
          let e = task_effect w.shared (stops_at node w) n (Serves (Direct file op)) c in
          elim (in_append (line.Committed tid serial moment) e.lines (e.answer ∷ []) (subst (In (line.Committed tid serial moment)) shows i)) [
            | inl k ↦ (let r = direct_next w.shared (stops_at node w) n file op c k in (r.0, ap (option_map next_id) found ∙ ap Some (sym r.1)))
            | inr k ↦ elim k [
              | inl same ↦ (let p = outcome_other w.shared (stops_at node w) n (Serves (Direct file op)) (λ cause. RoseAt w node cause v.disks) e (outcome w.shared (stops_at node w) n (Serves (Direct file op)) (λ cause. RoseAt w node cause v.disks) c allowed) in
                  let no : false ≡ true = ap is_plain same ∙ p in let none : ⊥ = cc in absurd none)
              | inr none ↦ absurd none
            ]
          ]

-- Statements.
module _ (tid serial : Id) (moment : ℕ) where
  abbrev pub UnderIt : World → Type 0
  UnderIt w = IsUnder serial.node (commitment tid serial moment) w

  abbrev pub StandsAt : World → Type 0
  StandsAt w = In (commitment tid serial moment) (settlements_of serial.node w)

  -- Runs.

  -- it was shown in its statement, or a failure ended what was to commit it
  abbrev pub IsAsked : World → List Entry → Type 0
  IsAsked opening es = ((e : Entry) × In e es × In (line.Committed tid serial moment) e.lines) ⊎ WasEnding es tid serial ⊎ WasChanging opening es serial

  later : (opening : World) (e : Entry) (es : List Entry) → IsAsked opening es → IsAsked opening (e ∷ es)
  later opening e es (inl r) = inl (r.0, inr r.1, r.2)
  later opening e es (inr (inl (before, st, front, cause, there, by))) = inr (inl (before, st, front, cause, record { after = e ∷ there.after; entry = there.entry; stands = ap (λ xs. e ∷ xs) there.stands; said = there.said; shown = there.shown }, by))
  later opening e es (inr (inr (before, file, op, events, cause, w, there, is, legal, id))) = inr (inr (before, file, op, events, cause, w, record { after = e ∷ there.after; entry = there.entry; stands = ap (λ xs. e ∷ xs) there.stands; said = there.said; shown = there.shown }, is, legal, id))

  -- by the step that shows it
  another_asked : (nodes : List Node) (disks : List DiskCounts) (es : List Entry) (e : Entry) (w v : World) (st : Statement) → AreOpening nodes → Legal (opened nodes disks) es w → reading e.source.text ≡ Says st → Another serial.node (line.Committed tid serial moment) w v st e.lines → IsAsked (opened nodes disks) (e ∷ es)
  another_asked nodes disks es e w v st opening legal said a = elim cause [
    | inl c ↦ inr (inl (es, st, a.front, a.cause, there, c))
    | inr d ↦ inr (inr (direct d))
  ]
    where
      hyp : Entry
      hyp = record { source = e.source; lines = a.front ++ line.Committed tid serial moment ∷ line.Down serial.node a.cause ∷ line.Broken a.cause ∷ [] }

      legal_hyp : Legal (opened nodes disks) (record { source = e.source; lines = a.front ++ line.Committed tid serial moment ∷ line.Down serial.node a.cause ∷ line.Broken a.cause ∷ [] } ∷ es) a.other
      legal_hyp = (w, legal, subst (λ r. Turn w r (a.front ++ line.Committed tid serial moment ∷ line.Down serial.node a.cause ∷ line.Broken a.cause ∷ []) a.other) (sym said) a.step)

      cause : CommitCause es (Says st) a.front tid serial ⊎ IsDirect (Says st) tid serial
      cause = (commits_hold nodes disks (hyp ∷ es) a.other opening legal_hyp es (Says st) a.front (line.Down serial.node a.cause ∷ line.Broken a.cause ∷ []) tid serial moment (record { after = []; entry = hyp; stands = refl; read = said; shown = refl })).0

      there : SaidThere (e ∷ es) es st (a.front ++ line.Down serial.node a.cause ∷ []) (line.Broken a.cause)
      there = record { after = []; entry = e; stands = refl; said = said; shown = a.is }

      direct : IsDirect (Says st) tid serial → WasChanging (opened nodes disks) (e ∷ es) serial
      direct (file, op, is, same) =
          let at : st ≡ At serial.node (Direct file op) = cc in
          let r = step_next tid serial moment w a.other serial.node file op _ (subst (λ t. Step w t (a.front ++ line.Committed tid serial moment ∷ line.Down serial.node a.cause ∷ line.Broken a.cause ∷ []) a.other) at a.step) (in_right (line.Committed tid serial moment) a.front _ (inl refl)) in
          (es, file, op, a.front ++ line.Down serial.node a.cause ∷ [], a.cause, w, record { after = []; entry = e; stands = refl; said = said ∙ ap Says at; shown = a.is }, r.0, legal, r.1)

  pub asked_so : (nodes : List Node) (disks : List DiskCounts) (es : List Entry) (w : World) → AreOpening nodes → Legal (opened nodes disks) es w → StandsAt w ⊎ UnderIt w → IsAsked (opened nodes disks) es
  asked_so nodes disks [] w opening legal h = absurd (elim h [ inl i ↦ stands (find_node serial.node nodes) refl (subst StandsAt legal i) | inr u ↦ under (subst UnderIt legal u) ])
    where
      stands : (o : Option Node) → find_node serial.node nodes ≡ o → In (commitment tid serial moment) (elim o as (λ x. List Settlement) [ Some n ↦ n.settled | None ↦ [] ]) → ⊥
      stands (Some n) found i = subst (In (commitment tid serial moment)) (each_opening nodes opening serial.node n found).settled i
      stands None found i = i

      under : UnderIt (opened nodes disks) → ⊥
      under (n, found, (act, is, so)) = let clash : ◌≡◌ {A = Option Act} None (Some act) = sym (each_opening nodes opening serial.node n found).under_way ∙ is in let no : ⊥ = cc in no
  asked_so nodes disks (e ∷ es) w opening legal h = go (reading e.source.text) refl legal.2 (λ k. later (opened nodes disks) e es (asked_so nodes disks es legal.0 opening legal.1 k)) h
    where
      go : (r : Reading) → reading e.source.text ≡ r → Turn legal.0 r e.lines w → (StandsAt legal.0 ⊎ UnderIt legal.0 → IsAsked (opened nodes disks) (e ∷ es)) → StandsAt w ⊎ UnderIt w → IsAsked (opened nodes disks) (e ∷ es)
      go Blank said turn before (inl i) = before (inl (subst StandsAt turn.1 i))
      go Blank said turn before (inr u) = before (inr (subst UnderIt turn.1 u))
      go (Bad column) said turn before h = absurd turn
      go (Says st) said turn before (inl i) = elim (step_in serial.node (commitment tid serial moment) (line.Committed tid serial moment) (commit_line tid serial moment) (inl refl) legal.0 w st e.lines turn i) [
        | inl k ↦ before (inl k)
        | inr k ↦ elim k [
          | inl u ↦ before (inr u)
          | inr shown ↦ inl (e, inl refl, subst (In (line.Committed tid serial moment)) (sym turn.shows) (in_left (line.Committed tid serial moment) turn.events (turn.answer ∷ []) shown))
        ]
      ]
      go (Says st) said turn before (inr u) = elim (step_under serial.node (commitment tid serial moment) (line.Committed tid serial moment) (commit_line tid serial moment) (inl refl) legal.0 w st e.lines turn u) [
        | inl k ↦ before (inr k)
        | inr a ↦ another_asked nodes disks es e legal.0 w st opening legal.1 said a
      ]
