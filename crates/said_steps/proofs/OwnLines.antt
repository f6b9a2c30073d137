-- Lines that tell of one node alone.
use Rattle.std.proofs.Common.{◌≡◌, ℕ, List, [], ◌∷◌, ◌++◌, Bool, true, false, Option, Some, None, if◌then◌else◌, inl, inr, refl, sym, ◌∙◌, ap, subst}
use Rattle.std.specs.List.{AllByRecursion, last_or}
use Rattle.std.specs.Str.{bytes_eq}
use Rattle.std.proofs.lemmas.Slice.Eq.{bytes_eq-Decides}
use Rattle.run_said.specs.transcript_model.Lines as line
use Rattle.run_said.specs.transcript_model.Lines.{Cause, Line}
use Rattle.commit_protocol.specs.World.{In}
use Rattle.run_said.specs.script_model.Statements.{AddBranch, At, Boot, Init, Request, StartTrans}
use Rattle.run_said.specs.Said.{Said, SaidNode, SaidShared, answer_said, line_said, lines_said, node_in, request_said, with_said, with_sent, with_unmade, with_up}
use Rattle.run_said.proofs.Views.{said_append, unmade_view, up_view}
use Rattle.said_steps.specs.Own.{IsOwn, OwnLinesSay, OwnRequestsSay, alone, among}

-- What is said of a node alone, and of it among all.

named_in : (name : List ℕ) (ns : List SaidNode) (n : SaidNode) → node_in name ns ≡ Some n → n.name ≡ name
named_in name [] n e = let none : ⊥ = cc in absurd none
named_in name (x ∷ ns) n e = go (bytes_eq name x.name) refl (named_in name ns n) e
  where
    go : (b : Bool) → bytes_eq name x.name ≡ b → (node_in name ns ≡ Some n → n.name ≡ name) → ◌≡◌ {A = Option SaidNode} (if b then Some x else node_in name ns) (Some n) → n.name ≡ name
    go true is more k = let same : x ≡ n = cc in ap (λ (y : SaidNode). y.name) (sym same) ∙ sym ((bytes_eq-Decides name x.name).0 is)
    go false is more k = more k

-- a node that is put in its own place
put_said : (name : List ℕ) (ns : List SaidNode) (n : SaidNode) → node_in name ns ≡ Some n → with_said name (λ k. n) ns ≡ ns
put_said name [] n e = refl
put_said name (x ∷ ns) n e = go (bytes_eq name x.name) (put_said name ns n) e
  where
    go : (b : Bool) → (node_in name ns ≡ Some n → with_said name (λ k. n) ns ≡ ns) → ◌≡◌ {A = Option SaidNode} (if b then Some x else node_in name ns) (Some n) → ◌≡◌ {A = List SaidNode} (if b then n ∷ ns else x ∷ with_said name (λ k. n) ns) (x ∷ ns)
    go true more k = let same : x ≡ n = cc in ap (λ y. y ∷ ns) (sym same)
    go false more k = ap (λ ys. x ∷ ys) (more k)

-- so it is alone
alone_put : (name : List ℕ) (n m : SaidNode) (s : SaidShared) → n.name ≡ name → among name (n ∷ []) m s ≡ alone m s
alone_put name n m s named = let here : bytes_eq name n.name ≡ true = (bytes_eq-Decides name n.name).1 (sym named) in ap (λ (b : Bool). record { nodes = (if b then m ∷ [] else n ∷ []); shared = s }) here

-- A change of what was said that is the same whichever nodes there are besides.
record Change (name : List ℕ) (f : Said → Said) (m : SaidNode) (s : SaidShared) : Type 0 where
  node : SaidNode
  shared : SaidShared
  named : node.name ≡ name
  says : (ns : List SaidNode) → f (among name ns m s) ≡ among name ns node shared

up_change : (name other : List ℕ) (up : Bool) (m : SaidNode) (s : SaidShared) → m.name ≡ name → other ≡ name → Change name (with_up other up) m s
up_change name other up m s named own = record { node = record m { up = up }; shared = s; named = named; says = λ ns. up_view name ns other up m s named own }

unmade_change : (name : List ℕ) (unmade : Bool) (m : SaidNode) (s : SaidShared) → m.name ≡ name → Change name (with_unmade name unmade) m s
unmade_change name unmade m s named = record { node = record m { unmade = unmade }; shared = s; named = named; says = λ ns. unmade_view name ns unmade m s named }

no_change : (name : List ℕ) (m : SaidNode) (s : SaidShared) → m.name ≡ name → Change name (λ said. said) m s
no_change name m s named = record { node = m; shared = s; named = named; says = λ ns. refl }

line_change : (name : List ℕ) (l : Line) (m : SaidNode) (s : SaidShared) → m.name ≡ name → IsOwn name l → Change name (line_said l) m s
line_change name (line.Sent number msg) m s named own = record { node = m; shared = record s { wire = with_sent number msg s.wire }; named = named; says = λ ns. refl }
line_change name (line.Down node cause) m s named own = up_change name node false m s named own
line_change name (line.Crashed node) m s named own = up_change name node false m s named own
line_change name (line.Booted node boot) m s named own = up_change name node true m s named own
line_change name _ m s named own = no_change name m s named

lines_change : (name : List ℕ) (ls : List Line) (m : SaidNode) (s : SaidShared) → m.name ≡ name → AllByRecursion (IsOwn name) ls → Change name (lines_said ls) m s
lines_change name [] m s named own = no_change name m s named
lines_change name (l ∷ ls) m s named own =
    let one = line_change name l m s named own.0 in
    let rest = lines_change name ls one.node one.shared one.named own.1 in
    record { node = rest.node; shared = rest.shared; named = rest.named; says = λ ns. ap (lines_said ls) (one.says ns) ∙ rest.says ns }

boot_change : (name : List ℕ) (answer : Line) (m : SaidNode) (s : SaidShared) → m.name ≡ name → Change name (request_said name Boot answer) m s
boot_change name (line.NormalCount boot) m s named =
    let up = up_change name name true m (record s { in_use = true }) named refl in
    record { node = up.node; shared = up.shared; named = up.named; says = λ ns. up.says ns }
boot_change name (line.Broken cause) m s named = record { node = m; shared = record s { in_use = true }; named = named; says = λ ns. refl }
boot_change name _ m s named = no_change name m s named

init_change : (name : List ℕ) (slots journal : ℕ) (answer : Line) (m : SaidNode) (s : SaidShared) → m.name ≡ name → Change name (request_said name (Init slots journal) answer) m s
init_change name slots journal line.Normal m s named = unmade_change name false m s named
init_change name slots journal (line.Broken cause) m s named = unmade_change name true m s named
init_change name slots journal _ m s named = no_change name m s named

start_change : (name label : List ℕ) (seconds : Option ℕ) (answer : Line) (m : SaidNode) (s : SaidShared) → m.name ≡ name → Change name (request_said name (StartTrans label seconds) answer) m s
start_change name label seconds (line.NormalId id) m s named = record { node = m; shared = record s { labels = record { name = label; node = name } ∷ s.labels }; named = named; says = λ ns. refl }
start_change name label seconds _ m s named = no_change name m s named

add_change : (name label other new : List ℕ) (answer : Line) (m : SaidNode) (s : SaidShared) → m.name ≡ name → Change name (request_said name (AddBranch label other new) answer) m s
add_change name label other new (line.NormalId id) m s named = record { node = m; shared = record s { labels = record { name = new; node = other } ∷ s.labels }; named = named; says = λ ns. refl }
add_change name label other new _ m s named = no_change name m s named

request_change : (name : List ℕ) (request : Request) (answer : Line) (m : SaidNode) (s : SaidShared) → m.name ≡ name → Change name (request_said name request answer) m s
request_change name Boot answer m s named = boot_change name answer m s named
request_change name (Init slots journal) answer m s named = init_change name slots journal answer m s named
request_change name (StartTrans label seconds) answer m s named = start_change name label seconds answer m s named
request_change name (AddBranch label other new) answer m s named = add_change name label other new answer m s named
request_change name _ answer m s named = no_change name m s named

-- What such a change says of a node alone it says of it among all.
change_says : (name : List ℕ) (f : Said → Said) (ns : List SaidNode) (n m : SaidNode) (s t : SaidShared) → Change name f n s → node_in name ns ≡ Some n → f (alone n s) ≡ alone m t → f (record { nodes = ns; shared = s }) ≡ among name ns m t
change_says name f ns n m s t c found e =
    let named = named_in name ns n found in
    let is : alone c.node c.shared ≡ alone m t = sym (alone_put name n c.node c.shared named) ∙ sym (c.says (n ∷ [])) ∙ ap f (alone_put name n n s named) ∙ e in
    let node : c.node ≡ m = (let heads : Some c.node ≡ Some m = ap (λ (x : Said). head x.nodes) is in cc) in
    let shared : c.shared ≡ t = ap (λ (x : Said). x.shared) is in
    ap (λ ms. f (record { nodes = ms; shared = s })) (sym (put_said name ns n found)) ∙ c.says ns ∙ (λ i. among name ns (node i) (shared i))
  where
    head : List SaidNode → Option SaidNode
    head [] = None
    head (x ∷ xs) = Some x

pub own_lines_say : OwnLinesSay
own_lines_say name ns lines n m s t own found e = change_says name (lines_said lines) ns n m s t (lines_change name lines n s (named_in name ns n found) own) found e

-- the answer stands last
pub last_is : (o : Option Line) (lines : List Line) (answer : Line) → last_or o (lines ++ answer ∷ []) ≡ Some answer
last_is o [] answer = refl
last_is o (l ∷ lines) answer = last_is (Some l) lines answer

-- what is said where the answer itself says nothing
pub here_said : (lines : List Line) (answer : Line) (said : Said) → ((x : Said) → line_said answer x ≡ x) → lines_said (lines ++ answer ∷ []) said ≡ lines_said lines said
here_said lines answer said quiet = said_append lines (answer ∷ []) said ∙ quiet (lines_said lines said)

pub own_requests_say : OwnRequestsSay
own_requests_say name request answer ns lines n m s t own found quiet e =
    let named = named_in name ns n found in
    let front = lines_change name lines n s named own in
    let back = request_change name request answer front.node front.shared front.named in
    let c : Change name (λ said. request_said name request answer (lines_said lines said)) n s = record { node = back.node; shared = back.shared; named = back.named; says = λ ms. ap (request_said name request answer) (front.says ms) ∙ back.says ms } in
    ap (λ (o : Option Line). elim o [ Some a ↦ answer_said (At name request) a (lines_said (lines ++ answer ∷ []) (record { nodes = ns; shared = s })) | None ↦ record { nodes = ns; shared = s } ]) (last_is None lines answer)
    ∙ ap (request_said name request answer) (here_said lines answer (record { nodes = ns; shared = s }) quiet) ∙ change_says name (λ said. request_said name request answer (lines_said lines said)) ns n m s t c found e

-- Lines of one node show no other that goes down.
pub own_down : (name other : List ℕ) (cause : Cause) (ls : List Line) → AllByRecursion (IsOwn other) ls → In (line.Down name cause) ls → name ≡ other
own_down name other cause [] own i = absurd i
own_down name other cause (l ∷ ls) own i = elim i [
  | inl e ↦ subst (IsOwn other) (sym e) own.0
  | inr j ↦ own_down name other cause ls own.1 j
]

pub own_crash : (name other : List ℕ) (ls : List Line) → AllByRecursion (IsOwn other) ls → In (line.Crashed name) ls → name ≡ other
own_crash name other [] own i = absurd i
own_crash name other (l ∷ ls) own i = elim i [
  | inl e ↦ subst (IsOwn other) (sym e) own.0
  | inr j ↦ own_crash name other ls own.1 j
]
