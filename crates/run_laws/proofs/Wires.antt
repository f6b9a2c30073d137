-- The messages of a run are those that its lines show, under their numbers.
use Rattle.std.proofs.Common.{◌≡◌, ℕ, ◌+◌, zero, suc, ◌⊎◌, List, [], ◌∷◌, ◌++◌, map, inl, inr, Bool, true, false, Option, Some, None, if◌then◌else◌, refl, sym, ◌∙◌, ap, arith}
use Rattle.std.specs.Prelude.{◌==◌, length, slice_get}
use Rattle.std.specs.List.{last_or}
use Rattle.std.proofs.lemmas.Bool.{eqb-true}
use Rattle.run_said.specs.transcript_model.Lines as line
use Rattle.run_said.specs.transcript_model.Lines.{Line}
use Rattle.run_said.specs.script_model.Statements.{Statement, At, Deliver, LinkDown, Settle, Request, Init, Boot, StartTrans, AddBranch, Reading, Blank, Says, Bad}
use Rattle.run_said.specs.script_model.Grammar.{reading}
use Rattle.commit_protocol.specs.Messages.{Message}
use Rattle.commit_protocol.specs.World.{In}
use Rattle.run_said.specs.run_model.World.{World, Node, DiskCounts, opened}
use Rattle.run_said.specs.run_model.Statements.{message_at}
use Rattle.run_said.specs.run_model.Transcript.{Entry, Legal, AreOpening}
use Rattle.run_said.specs.Said.{Said, answer_said, line_said, lines_said, request_said, said_here, said_of, with_sent}
use Rattle.run_laws.specs.Causes.{WasSent}
use Rattle.run_laws.proofs.TurnsTell.{legal_told}

got_append : (x m : Message) (wire : List Message) (k : ℕ) → slice_get (wire ++ x ∷ []) k ≡ Some m → (slice_get wire k ≡ Some m) ⊎ ((k ≡ length wire) × (x ≡ m))
got_append x m [] zero e = let same : x ≡ m = cc in inr (refl, same)
got_append x m [] (suc k) e = let no : ⊥ = cc in absurd no
got_append x m (y ∷ wire) zero e = inl e
got_append x m (y ∷ wire) (suc k) e = elim (got_append x m wire k e) [ inl f ↦ inl f | inr r ↦ inr (ap suc r.0, r.1) ]

-- a message that a line adds is shown by it, under its number
sent_got : (number : ℕ) (x m : Message) (wire : List Message) (k : ℕ) → slice_get (with_sent number x wire) k ≡ Some m → (slice_get wire k ≡ Some m) ⊎ (line.Sent number x ≡ line.Sent (suc k) m)
sent_got number x m wire k e = go (number == length wire + 1) refl e
  where
    go : (b : Bool) → (number == length wire + 1) ≡ b → slice_get (if b then wire ++ x ∷ [] else wire) k ≡ Some m → (slice_get wire k ≡ Some m) ⊎ (line.Sent number x ≡ line.Sent (suc k) m)
    go true is f = elim (got_append x m wire k f) [
      | inl g ↦ inl g
      | inr r ↦ (let same = eqb-true number (length wire + 1) is in let at = r.0 in let next : number ≡ suc k = omega (arith, same, at) in inr (λ i. line.Sent (next i) (r.1 i)))
    ]
    go false is f = inl f

line_got : (l : Line) (said : Said) (k : ℕ) (m : Message) → slice_get (line_said l said).shared.wire k ≡ Some m → (slice_get said.shared.wire k ≡ Some m) ⊎ (l ≡ line.Sent (suc k) m)
line_got (line.Sent number x) said k m e = sent_got number x m said.shared.wire k e
line_got (line.Down node cause) said k m e = inl e
line_got (line.Crashed node) said k m e = inl e
line_got (line.Booted node boot) said k m e = inl e
line_got _ said k m e = inl e

lines_got : (ls : List Line) (said : Said) (k : ℕ) (m : Message) → slice_get (lines_said ls said).shared.wire k ≡ Some m → (slice_get said.shared.wire k ≡ Some m) ⊎ In (line.Sent (suc k) m) ls
lines_got [] said k m e = inl e
lines_got (l ∷ ls) said k m e = elim (lines_got ls (line_said l said) k m e) [
  | inl f ↦ elim (line_got l said k m f) [ inl g ↦ inl g | inr same ↦ inr (inl (sym same)) ]
  | inr i ↦ inr (inr i)
]

-- an answer adds none
request_wire : (node : List ℕ) (request : Request) (answer : Line) (said : Said) → (request_said node request answer said).shared.wire ≡ said.shared.wire
request_wire node Boot (line.NormalCount boot) said = refl
request_wire node Boot (line.Broken cause) said = refl
request_wire node (Init slots journal) line.Normal said = refl
request_wire node (Init slots journal) (line.Broken cause) said = refl
request_wire node (StartTrans label seconds) (line.NormalId id) said = refl
request_wire node (AddBranch label other new) (line.NormalId id) said = refl
request_wire node Boot _ said = refl
request_wire node (Init slots journal) _ said = refl
request_wire node (StartTrans label seconds) _ said = refl
request_wire node (AddBranch label other new) _ said = refl
request_wire node _ answer said = refl

answer_wire : (s : Statement) (answer : Line) (said : Said) → (answer_said s answer said).shared.wire ≡ said.shared.wire
answer_wire (At node request) answer said = request_wire node request answer said
answer_wire (Deliver number) answer said = refl
answer_wire (LinkDown a b) answer said = refl
answer_wire Settle answer said = refl

here_got : (r : Reading) (lines : List Line) (said : Said) (k : ℕ) (m : Message) → slice_get (said_here r lines said).shared.wire k ≡ Some m → (slice_get said.shared.wire k ≡ Some m) ⊎ In (line.Sent (suc k) m) lines
here_got Blank lines said k m e = inl e
here_got (Bad column) lines said k m e = inl e
here_got (Says s) lines said k m e = go (last_or None lines) e
  where
    go : (o : Option Line) → slice_get (let y : Said = elim o [ Some answer ↦ answer_said s answer (lines_said lines said) | None ↦ said ] in y).shared.wire k ≡ Some m → (slice_get said.shared.wire k ≡ Some m) ⊎ In (line.Sent (suc k) m) lines
    go (Some answer) f = lines_got lines said k m (ap (λ wire. slice_get wire k) (sym (answer_wire s answer (lines_said lines said))) ∙ f)
    go None f = inl f

said_sent : (names : List (List ℕ)) (es : List Entry) (k : ℕ) (m : Message) → slice_get (said_of names es).shared.wire k ≡ Some m → WasSent es (suc k) m
said_sent names [] k m e = let no : ⊥ = cc in absurd no
said_sent names (e ∷ es) k m is = elim (here_got (reading e.source.text) e.lines (said_of names es) k m is) [
  | inl f ↦ (let r = said_sent names es k m f in (r.0, inr r.1, r.2))
  | inr i ↦ (e, inl refl, i)
]

-- a message that stands under a number was sent under it
pub was_sent : (nodes : List Node) (disks : List DiskCounts) (es : List Entry) (w : World) (number : ℕ) (m : Message) → AreOpening nodes → Legal (opened nodes disks) es w → message_at number w.shared.wire ≡ Some m → WasSent es number m
was_sent nodes disks es w zero m opening legal e = let no : ⊥ = cc in absurd no
was_sent nodes disks es w (suc k) m opening legal e = said_sent (map (λ n. n.name) nodes) es k m (ap (λ (said : Said). slice_get said.shared.wire k) (sym (legal_told nodes disks w es opening legal).0) ∙ e)
