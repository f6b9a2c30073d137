-- What calm lines say.
use Rattle.std.proofs.Common.{◌≡◌, inl, inr, ℕ, List, [], ◌∷◌, ◌++◌, Bool, true, false, map, refl, ◌∙◌, ap, sym, subst, if◌then◌else◌}
use Rattle.std.specs.List.{AllByRecursion}
use Rattle.std.specs.Str.{bytes_eq}
use Rattle.std.proofs.lemmas.Slice.Eq.{bytes_eq-Decides}
use Rattle.emitter_model.specs.commit_protocol.Messages.{Message}
use Rattle.emitter_model.specs.commit_protocol.World.{In}
use Rattle.emitter_model.specs.transcript_model.Lines as line
use Rattle.emitter_model.specs.transcript_model.Lines.{Cause, Line}
use Rattle.file_requests.specs.run_said.Said.{Said, SaidNode, SaidShared, line_said, lines_said, with_said, with_up}
use Rattle.file_requests.specs.said_steps.Calls.{shows_boot}
use Rattle.file_requests.specs.said_steps.Own.{IsOwn, alone}
use Rattle.node_table.specs.Telling.{IsOfWork, wire_after, wire_behind}

-- what was said, with this wire
abbrev pub with_wire : List Message → Said → Said
with_wire wire s = record s { shared = record s.shared { wire = wire } }

line_calm : (l : Line) (s : Said) → IsOfWork l → line_said l s ≡ with_wire (wire_behind l s.shared.wire) s
line_calm (line.Sent number m) s c = refl
line_calm (line.Down node cause) s c = let f : ⊥ = cc in absurd f
line_calm (line.Broken cause) s c = let f : ⊥ = cc in absurd f
line_calm (line.Crashed node) s c = let f : ⊥ = cc in absurd f
line_calm (line.Booted node boot) s c = let f : ⊥ = cc in absurd f
line_calm _ s c = refl

pub lines_calm : (ls : List Line) (s : Said) → AllByRecursion IsOfWork ls → lines_said ls s ≡ with_wire (wire_after ls s.shared.wire) s
lines_calm [] s c = refl
lines_calm (l ∷ ls) s c = lines_calm ls (line_said l s) c.1 ∙ ap (λ (x : Said). with_wire (wire_after ls x.shared.wire) x) (line_calm l s c.0)

pub lines_on : (ls ks : List Line) (s : Said) → lines_said (ls ++ ks) s ≡ lines_said ks (lines_said ls s)
lines_on [] ks s = refl
lines_on (l ∷ ls) ks s = lines_on ls ks (line_said l s)

own_line : (name : List ℕ) (l : Line) → IsOfWork l → IsOwn name l
own_line name (line.Down node cause) c = let f : ⊥ = cc in absurd f
own_line name (line.Crashed node) c = let f : ⊥ = cc in absurd f
own_line name (line.Booted node boot) c = let f : ⊥ = cc in absurd f
own_line name _ c = tt

pub own_calm : (name : List ℕ) (ls : List Line) → AllByRecursion IsOfWork ls → AllByRecursion (IsOwn name) ls
own_calm name [] c = tt
own_calm name (l ∷ ls) c = (own_line name l c.0, own_calm name ls c.1)

pub all_on : (P : Line → Type 0) (xs ys : List Line) → AllByRecursion P xs → AllByRecursion P ys → AllByRecursion P (xs ++ ys)
all_on P [] ys h k = k
all_on P (x ∷ xs) ys h k = (h.0, all_on P xs ys h.1 k)

-- no node goes down by calm lines
pub calm_not_down : (ls : List Line) (name : List ℕ) (cause : Cause) → AllByRecursion IsOfWork ls → In (line.Down name cause) ls → ⊥
calm_not_down [] name cause c i = i
calm_not_down (l ∷ ls) name cause c (inl e) = let f : IsOfWork (line.Down name cause) = subst IsOfWork (sym e) c.0 in (let g : ⊥ = cc in g)
calm_not_down (l ∷ ls) name cause c (inr k) = calm_not_down ls name cause c.1 k

-- a failure that is shown behind calm lines is that of the line behind them
pub down_behind : (ls : List Line) (name other : List ℕ) (cause shown : Cause) → AllByRecursion IsOfWork ls → In (line.Down name cause) (ls ++ line.Down other shown ∷ []) → cause ≡ shown
down_behind [] name other cause shown c (inl e) = cause_in e
  where
    cause_in : line.Down name cause ≡ line.Down other shown → cause ≡ shown
    cause_in q = cc
down_behind [] name other cause shown c (inr i) = absurd i
down_behind (l ∷ ls) name other cause shown c (inl e) = absurd (let f : IsOfWork (line.Down name cause) = subst IsOfWork (sym e) c.0 in (let g : ⊥ = cc in g))
down_behind (l ∷ ls) name other cause shown c (inr i) = down_behind ls name other cause shown c.1 i

pub same_text : (xs : List ℕ) → bytes_eq xs xs ≡ true
same_text xs = (bytes_eq-Decides xs xs).1 refl

-- the node of this name goes down, where it is the only one
pub alone_down : (n : SaidNode) (s : SaidShared) (cause : Cause) → line_said (line.Down n.name cause) (alone n s) ≡ alone (record n { up = false }) s
alone_down n s cause = ap (λ (b : Bool). record { nodes = (if b then record n { up = false } ∷ [] else n ∷ []); shared = s }) (same_text n.name)

boots_behind : (name : List ℕ) (l : Line) (ls : List Line) → IsOfWork l → shows_boot name ls ≡ false → shows_boot name (l ∷ ls) ≡ false
boots_behind name (line.Booted node boot) ls c h = let f : ⊥ = cc in absurd f
boots_behind name _ ls c h = h

pub no_boot : (name : List ℕ) (ls : List Line) → AllByRecursion IsOfWork ls → shows_boot name ls ≡ false
no_boot name [] c = refl
no_boot name (l ∷ ls) c = boots_behind name l ls c.0 (no_boot name ls c.1)
