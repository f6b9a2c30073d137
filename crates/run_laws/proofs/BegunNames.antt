-- The label of a START_TRANS names its transaction behind it, for no label is made twice.
use Rattle.std.proofs.Common.{◌≡◌, ◌⊎◌, ℕ, List, [], ◌∷◌, ◌++◌, map, Bool, true, false, not, ◌||◌, Option, Some, None, if◌then◌else◌, inl, inr, refl, sym, ◌∙◌, ap}
use Rattle.std.specs.List.{last_or}
use Rattle.std.specs.Prelude.{length, nat_le}
use Rattle.std.specs.Str.{bytes_eq}
use Rattle.std.proofs.lemmas.Slice.Eq.{bytes_eq-Decides}
use Rattle.vms_model.specs.Ids.{Id}
use Rattle.vms_model.specs.Limits.{label_limit}
use Rattle.run_said.specs.transcript_model.Lines as line
use Rattle.run_said.specs.transcript_model.Lines.{Line}
use Rattle.run_said.specs.script_model.Statements.{At, Request, AddBranch, StartBranch, StartTrans, Reading, Says}
use Rattle.run_said.specs.script_model.Grammar.{reading}
use Rattle.run_said.specs.run_model.World.{World, Shared, Label, Node, DiskCounts, find_label, opened}
use Rattle.run_said.specs.run_model.Answers.{new_label}
use Rattle.run_said.specs.run_model.Operations.{refused_if}
use Rattle.run_said.specs.run_model.Statements.{Step}
use Rattle.run_said.specs.run_model.StepLaws.{is_refusal}
use Rattle.run_said.specs.run_model.Transcript.{AreOpening, Entry, Legal, Turn as LineTurn}
use Rattle.run_said.proofs.run_model.NodeLists.{clash, some_is}
use Rattle.run_laws.specs.Causes.{WasBegun}
use Rattle.run_laws.specs.Naming.{ToldLabel, find_told, labels_here, labels_told, numbered}
use Rattle.run_laws.proofs.Directed.{neither}
use Rattle.run_laws.proofs.Labelling.{Succeeds, refused_rest, request_ends}
use Rattle.run_laws.proofs.Named.{Named, told}
use Rattle.run_laws.proofs.NamedRuns.{legal_named}

-- Labels.

-- a label that is made does not stand there
unlabelled : (s : Shared) (name : List ℕ) → new_label s name ≡ None → find_label name s.labels ≡ None
unlabelled s name e = go (find_label name s.labels) refl e
  where
    go : (o : Option Label) → find_label name s.labels ≡ o → ◌≡◌ {A = Option Line} (elim o [ Some l ↦ Some line.BadLabel | None ↦ refused_if (nat_le label_limit (length s.labels)) line.BadLabel ]) None → find_label name s.labels ≡ None
    go (Some l) is k = let no : ⊥ = cc in absurd no
    go None is k = is

told_none : (name : List ℕ) (ls : List Label) → find_label name ls ≡ None → find_told name (map told ls) ≡ None
told_none name [] e = refl
told_none name (l ∷ ls) e = go (bytes_eq name l.name) e (told_none name ls)
  where
    go : (b : Bool) → ◌≡◌ {A = Option Label} (if b then Some l else find_label name ls) None → (find_label name ls ≡ None → find_told name (map told ls) ≡ None) → ◌≡◌ {A = Option ToldLabel} (if b then Some (told l) else find_told name (map told ls)) None
    go true k more = let no : ⊥ = cc in absurd no
    go false k more = more k

-- one of another name is found as before
beside : (label : List ℕ) (r : ToldLabel) (ls : List ToldLabel) → find_told r.name ls ≡ None → (l : ToldLabel) → find_told label ls ≡ Some l → find_told label (r ∷ ls) ≡ Some l
beside label r ls none l f = go (bytes_eq label r.name) refl
  where
    go : (b : Bool) → bytes_eq label r.name ≡ b → ◌≡◌ {A = Option ToldLabel} (if b then Some r else find_told label ls) (Some l)
    go true is = let absent : ◌≡◌ {A = Option ToldLabel} None (Some l) = sym none ∙ ap (λ y. find_told y ls) (sym ((bytes_eq-Decides label r.name).0 is)) ∙ f in let no : ⊥ = cc in absurd no
    go false is = f

-- and of its transaction where a branch took it
numbered_keeps : (label name : List ℕ) (serial : Id) (ls : List ToldLabel) (l : ToldLabel) → find_told label ls ≡ Some l → (k : ToldLabel) × (find_told label (numbered name serial ls) ≡ Some k) × (k.tid ≡ l.tid)
numbered_keeps label name serial [] l f = let no : ⊥ = cc in absurd no
numbered_keeps label name serial (y ∷ ls) l f = go (bytes_eq name y.name) (bytes_eq label y.name) f (numbered_keeps label name serial ls l)
  where
    go : (t u : Bool) → ◌≡◌ {A = Option ToldLabel} (if u then Some y else find_told label ls) (Some l) → (find_told label ls ≡ Some l → (k : ToldLabel) × (find_told label (numbered name serial ls) ≡ Some k) × (k.tid ≡ l.tid)) →
        (k : ToldLabel) × (find_told label (if t then record y { serial = Some serial } ∷ ls else y ∷ numbered name serial ls) ≡ Some k) × (k.tid ≡ l.tid)
    go true u g more = at u refl
      where
        at : (b : Bool) → u ≡ b → (k : ToldLabel) × (find_told label (record y { serial = Some serial } ∷ ls) ≡ Some k) × (k.tid ≡ l.tid)
        at b is = by (bytes_eq label y.name) f
          where
            by : (c : Bool) → ◌≡◌ {A = Option ToldLabel} (if c then Some y else find_told label ls) (Some l) → (k : ToldLabel) × (◌≡◌ {A = Option ToldLabel} (if c then Some (record y { serial = Some serial }) else find_told label ls) (Some k)) × (k.tid ≡ l.tid)
            by true q = (record y { serial = Some serial }, refl, ap (λ (z : ToldLabel). z.tid) (some_is y l q))
            by false q = (l, q, refl)
    go false u g more = by (bytes_eq label y.name) f
      where
        by : (c : Bool) → ◌≡◌ {A = Option ToldLabel} (if c then Some y else find_told label ls) (Some l) → (k : ToldLabel) × (◌≡◌ {A = Option ToldLabel} (if c then Some y else find_told label (numbered name serial ls)) (Some k)) × (k.tid ≡ l.tid)
        by true q = (y, refl, ap (λ (z : ToldLabel). z.tid) (some_is y l q))
        by false q = more q

-- Entries.

-- an answer that is no refusal was given by a request that nothing refused
unrefused : (w v : World) (node : List ℕ) (request : Request) (lines : List Line) (answer : Line) → last_or None lines ≡ Some answer → is_refusal answer ≡ false → ((refusal : Line) × (is_refusal refusal ≡ true) × (lines ≡ refusal ∷ []) × Rattle.run_laws.proofs.Named.Leads w v × (v ≡ record w { disks = v.disks })) ⊎ Succeeds w v node request lines → Succeeds w v node request lines
unrefused w v node request lines answer last fine (inl r) =
    let same : Some r.0 ≡ Some answer = ap (last_or None) (sym r.2) ∙ last in
    absurd (clash _ (ap is_refusal (sym (some_is r.0 answer same)) ∙ r.1) fine)
unrefused w v node request lines answer last fine (inr s) = s

module _ (e : Entry) (es : List Entry) (w v : World) (named : Named es w) (label : List ℕ) (l : ToldLabel) (f : find_told label (labels_told es) ≡ Some l) where
  abbrev Keeps : List ToldLabel → Type 0
  Keeps ls = (k : ToldLabel) × (find_told label ls ≡ Some k) × (k.tid ≡ l.tid)

  none_told : (name : List ℕ) → new_label w.shared name ≡ None → find_told name (labels_told es) ≡ None
  none_told name e = ap (find_told name) named.labels ∙ told_none name w.shared.labels (unlabelled w.shared name e)

  starts_keep : (node new : List ℕ) (seconds : Option ℕ) → Step w (At node (StartTrans new seconds)) e.lines v → (o : Option Line) → last_or None e.lines ≡ o → Keeps (labels_here (Says (At node (StartTrans new seconds))) o (labels_told es))
  starts_keep node new seconds step (Some (line.NormalId id)) is =
      let s = unrefused w v node (StartTrans new seconds) e.lines (line.NormalId id) is refl (request_ends w v node (StartTrans new seconds) e.lines refl refl refl step) in
      let none = none_told new (neither (new_label w.shared new) _ (refused_rest (not (s.n.up || false)) _ s.first)).0 in
      (l, beside label (record { name = new; node = node; tid = id; serial = Some id }) (labels_told es) none l f, refl)
  starts_keep node new seconds step _ is = (l, f, refl)

  adds_keep : (node of other new : List ℕ) → Step w (At node (AddBranch of other new)) e.lines v → (o : Option Line) → last_or None e.lines ≡ o → Keeps (labels_here (Says (At node (AddBranch of other new))) o (labels_told es))
  adds_keep node of other new step (Some (line.NormalId id)) is =
      let s = unrefused w v node (AddBranch of other new) e.lines (line.NormalId id) is refl (request_ends w v node (AddBranch of other new) e.lines refl refl refl step) in
      at (none_told new (neither (new_label w.shared new) _ (neither _ _ (refused_rest (not (s.n.up || false)) _ s.first)).1).0) (find_told of (labels_told es))
    where
      at : find_told new (labels_told es) ≡ None → (o : Option ToldLabel) → Keeps (elim o as (λ y. List ToldLabel) [ Some m ↦ record { name = new; node = other; tid = m.tid; serial = None } ∷ labels_told es | None ↦ labels_told es ])
      at none (Some m) = (l, beside label (record { name = new; node = other; tid = m.tid; serial = None }) (labels_told es) none l f, refl)
      at none None = (l, f, refl)
  adds_keep node of other new step _ is = (l, f, refl)

  takes_keep : (node of : List ℕ) (o : Option Line) → Keeps (labels_here (Says (At node (StartBranch of))) o (labels_told es))
  takes_keep node of (Some (line.Pending (serial ∷ []) [])) = numbered_keeps label of serial (labels_told es) l f
  takes_keep node of _ = (l, f, refl)

  turn_keeps : (r : Reading) → LineTurn w r e.lines v → Keeps (labels_here r (last_or None e.lines) (labels_told es))
  turn_keeps (Says (At node (StartTrans new seconds))) turn = starts_keep node new seconds turn (last_or None e.lines) refl
  turn_keeps (Says (At node (AddBranch of other new))) turn = adds_keep node of other new turn (last_or None e.lines) refl
  turn_keeps (Says (At node (StartBranch of))) turn = takes_keep node of (last_or None e.lines)
  turn_keeps _ turn = (l, f, refl)

-- Runs.

pub begun_named : (nodes : List Node) (disks : List DiskCounts) (es : List Entry) (w : World) → AreOpening nodes → Legal (opened nodes disks) es w → (node label : List ℕ) (tid : Id) → WasBegun es node label tid → (l : ToldLabel) × (find_told label (labels_told es) ≡ Some l) × (l.tid ≡ tid)
begun_named nodes disks [] w opening legal node label tid b = absurd (none b.2.entry b.0 b.2.after b.2.stands)
  where
    none : (entry : Entry) (before after : List Entry) → [] ≡ after ++ entry ∷ before → ⊥
    none entry before [] q = let no : ⊥ = cc in no
    none entry before (y ∷ after) q = let no : ⊥ = cc in no
begun_named nodes disks (e ∷ es) w opening legal node label tid (before, seconds, there) = go there.after there.stands (λ b. begun_named nodes disks es legal.0 opening legal.1 node label tid b)
  where
    named : ToldLabel
    named = record { name = label; node = node; tid = tid; serial = Some tid }

    go : (after : List Entry) → e ∷ es ≡ after ++ there.entry ∷ before → (WasBegun es node label tid → (l : ToldLabel) × (find_told label (labels_told es) ≡ Some l) × (l.tid ≡ tid)) → (l : ToldLabel) × (find_told label (labels_told (e ∷ es)) ≡ Some l) × (l.tid ≡ tid)
    go [] stands earlier =
        let same : e ≡ there.entry = cc in
        let said : reading e.source.text ≡ Says (At node (StartTrans label seconds)) = ap (λ (y : Entry). reading y.source.text) same ∙ there.said in
        let lines : e.lines ≡ line.NormalId tid ∷ [] = ap (λ (y : Entry). y.lines) same ∙ there.shown in
        let labels : labels_told (e ∷ es) ≡ named ∷ labels_told es = λ i. labels_here (said i) (last_or None (lines i)) (labels_told es) in
        (named, ap (find_told label) labels ∙ ap (λ b. if b then Some named else find_told label (labels_told es)) ((bytes_eq-Decides label label).1 refl), refl)
    go (y ∷ after) stands earlier =
        let rest : es ≡ after ++ there.entry ∷ before = cc in
        let old = earlier (before, seconds, record { after = after; entry = there.entry; stands = rest; said = there.said; shown = there.shown }) in
        let k = turn_keeps e es legal.0 w (legal_named nodes disks es legal.0 opening legal.1) label old.0 old.1 (reading e.source.text) legal.2 in
        (k.0, k.1, k.2 ∙ old.2)
