-- The images with which a run begins are those that its lines tell.
use Rattle.std.specs.Prelude.{if◌then◌else◌, not, ◌||◌, replicate}
use Rattle.std.specs.List.{last_or}
use Rattle.std.specs.Str.{bytes_eq}
use Rattle.std.proofs.Common.{◌≡◌, ℕ, Bool, true, false, List, [], ◌∷◌, ◌++◌, Option, Some, None, ◌⊎◌, inl, inr, refl, ap, sym, subst, ◌∙◌}
use Rattle.std.proofs.lemmas.Bool.{both_ways}
use Rattle.run_model.specs.transcript_model.Lines as line
use Rattle.run_model.specs.transcript_model.Lines.{Line, Cause}
use Rattle.run_model.specs.script_model.Statements.{Statement, At, Deliver, LinkDown, Settle, Init, Clock, Request, Reading, Blank, Says, Bad}
use Rattle.run_model.specs.script_model.Grammar.{reading}
use Rattle.commit_protocol.specs.Messages.{LogRecord, Message, Name}
use Rattle.commit_protocol.specs.Opening.{Image, no_image}
use Rattle.run_model.specs.log_laws.Slots.{records_in, prepared_of, committed_of}
use Rattle.run_model.specs.World as world
use Rattle.run_model.specs.World.{World, Node, Durable, Volume, DiskCounts, find_node, with_node, opened}
use Rattle.run_model.specs.Answers.{Task, Serves, Ticks, Takes, LosesLink, task_service, refused_before_reading}
use Rattle.run_model.specs.Operations.{first_of, refused_if}
use Rattle.run_model.specs.Steps.{Choice, Whole, WithoutMemory, Unpowered, Cut, TaskAllowed, TaskEffect, task_effect, whole, ready_node}
use Rattle.run_model.specs.Statements.{Part, Does, Asks, PartEffect, Phases, Step, Begins, Allowed, AllowedAt, Question, Heard, Unanswered, Doubtful, RoseAt, done_at, part_effect, phases_of, begun_with, refused_at_once, put_into, question, message_at, no_node, stops_at}
use Rattle.run_model.specs.StepLaws.{TaskAt, asked_by, is_refusal, task_of_part}
use Rattle.run_model.specs.Transcript.{Entry, Turn, Legal}
use Rattle.run_model.proofs.CauseLemmas.{refuses_first}
use Rattle.run_model.proofs.Failing.{once_refuses}
use Rattle.run_model.proofs.PartLemmas.{EachPart, EachPhase, allowed_here, done_here, ended, phases_fold}
use Rattle.run_model.proofs.PartTasks.{View, Doing, Fixed, view, each_restart, each_run_down, each_up, all_asked}
use Rattle.run_agreement.specs.Seen.{IsKnown, image_of, has_volume}
use Rattle.run_agreement.specs.Following.{images_of, opening_of}
use Rattle.run_agreement.specs.Laws.{AreKnownOrReplaced, IsBase, IsReplaced, NamesApart, MakesNoVolume, Replaces, RunsBegin, RunsFrom, RunsTellNoMore, UnusedAreTold, UsedTellNoMore, image_after_init, image_here, image_told, images_told, opening_told, volume_image, with_image}
use Rattle.run_agreement.proofs.Found.{some_is, bytes_same, bytes_itself}
use Rattle.run_agreement.proofs.Bases.{InitLeaves, IsRack, IsSameDisk, TaskLeaves, init_stays, no_records, task_turns, used_part}
use Rattle.run_agreement.proofs.Begun.{AnyPart, any_phases, disks_rack, opening_rack, rack_put, transcript_begins}

-- Images of a disk.

same_image : (x z : Node) → IsSameDisk x z → volume_image z ≡ volume_image x
same_image x z same = ap (λ (d : Durable). volume_image (record x { durable = d })) same

blank_image : (x : Node) (slots journal : ℕ) → x.durable ≡ world.made_volume slots journal → volume_image x ≡ Some no_image
blank_image x slots journal made = ap (λ (d : Durable). volume_image (record x { durable = d })) made ∙ ap Some (λ i. record { boot = 0; last = None; prepared = ordered (none_prepared i); committed = none_committed i; units = [] })
  where
    none_prepared : prepared_of (records_in (replicate slots None)) ≡ []
    none_prepared = ap prepared_of (no_records slots)

    none_committed : committed_of (records_in (replicate slots None)) ≡ []
    none_committed = ap committed_of (no_records slots)

    ordered : List LogRecord → List LogRecord
    ordered rs = world.records_by [] rs

lost_image : (x : Node) → x.durable.volume ≡ world.Unknown → volume_image x ≡ None
lost_image x unknown = ap (λ (v : Volume). volume_image (record x { durable = record x.durable { volume = v } })) unknown

init_image : (slots journal : ℕ) (x z : Node) (answer : Line) → InitLeaves slots journal x z answer → volume_image z ≡ image_after_init (Some answer) (volume_image x)
init_image slots journal x z line.Normal h = blank_image z slots journal h
init_image slots journal x z (line.Broken cause) h = lost_image z h.0
init_image slots journal x z _ h = same_image x z h

refused_image : (answer : Line) (i : Option Image) → is_refusal answer ≡ true → image_after_init (Some answer) i ≡ i
refused_image line.Normal i h = let no : ⊥ = cc in absurd no
refused_image (line.Broken cause) i h = let no : ⊥ = cc in absurd no
refused_image _ i h = refl

-- An entry that replaces what a disk had tells of another image.

pub replaces_tells : (n : Name) (e : Entry) → Replaces n e → ((i : Option Image) → image_here n (reading e.source.text) (last_or None e.lines) i ≡ i) → ⊥
replaces_tells n e r quiet = go r.answered
  where
    here : (o : Option Line) (i : Option Image) → last_or None e.lines ≡ o → image_after_init o i ≡ i
    here o i last = sym (ap (λ b. if b then image_after_init o i else i) (bytes_itself n n refl)) ∙ sym (λ j. image_here n (r.says j) (last j) i) ∙ quiet i

    go : (last_or None e.lines ≡ Some line.Normal) ⊎ ((cause : Cause) × (last_or None e.lines ≡ Some (line.Broken cause))) → ⊥
    go (inl made) = let clash : ◌≡◌ {A = Option Image} (Some no_image) None = here (Some line.Normal) None made in let no : ⊥ = cc in no
    go (inr broken) = let clash : ◌≡◌ {A = Option Image} None (Some no_image) = here (Some (line.Broken broken.0)) (Some no_image) broken.1 in let no : ⊥ = cc in no

-- Each other tells of none.

abbrev pub IsQuiet : Name → Entry → Type 0
IsQuiet n e = (i : Option Image) → image_here n (reading e.source.text) (last_or None e.lines) i ≡ i

pub replaces_or_quiet : (n : Name) (e : Entry) → Replaces n e ⊎ IsQuiet n e
replaces_or_quiet n e = go (reading e.source.text) refl
  where
    init : (m : Name) (slots journal : ℕ) → reading e.source.text ≡ Says (At m (Init slots journal)) → (b : Bool) → bytes_eq m n ≡ b → (o : Option Line) → last_or None e.lines ≡ o → Replaces n e ⊎ IsQuiet n e
    init m slots journal is b same o last = by b o same last
      where
        quiet : (b : Bool) (o : Option Line) → bytes_eq m n ≡ b → last_or None e.lines ≡ o → ((i : Option Image) → (if b then image_after_init o i else i) ≡ i) → (i : Option Image) → image_here n (reading e.source.text) (last_or None e.lines) i ≡ i
        quiet b o same last h i = (λ j. image_here n (is j) (last j) i) ∙ ap (λ c. if c then image_after_init o i else i) same ∙ h i

        named : bytes_eq m n ≡ true → reading e.source.text ≡ Says (At n (Init slots journal))
        named same = is ∙ ap (λ x. Says (At x (Init slots journal))) (bytes_same m n same)

        by : (b : Bool) (o : Option Line) → bytes_eq m n ≡ b → last_or None e.lines ≡ o → Replaces n e ⊎ IsQuiet n e
        by true (Some line.Normal) same last = inl (record { slots = slots; journal = journal; says = named same; answered = inl last })
        by true (Some (line.Broken cause)) same last = inl (record { slots = slots; journal = journal; says = named same; answered = inr (cause, last) })
        by true (Some l) same last = inr (quiet true (Some l) same last (λ i. refl))
        by true None same last = inr (quiet true None same last (λ i. refl))
        by false o same last = inr (quiet false o same last (λ i. refl))

    go : (r : Reading) → reading e.source.text ≡ r → Replaces n e ⊎ IsQuiet n e
    go (Says (At m (Init slots journal))) is = init m slots journal is (bytes_eq m n) refl (last_or None e.lines) refl
    go (Says (At m r)) is = inr (λ i. ap (λ x. image_here n x (last_or None e.lines) i) is)
    go (Says s) is = inr (λ i. ap (λ x. image_here n x (last_or None e.lines) i) is)
    go r is = inr (λ i. ap (λ x. image_here n x (last_or None e.lines) i) is)

-- Nodes, place by place: something is known of each disk of which it was, or that these entries replaced.

abbrev AreAs : List Entry → List Node → List Node → Type 0
AreAs es [] [] = Unit {0}
AreAs es (n ∷ ns) (x ∷ xs) = (x.name ≡ n.name) × (volume_image x ≡ image_told n.name (volume_image n) es) × (IsKnown n ⊎ IsReplaced n.name es → IsKnown x) × AreAs es ns xs
AreAs es [] (x ∷ xs) = ⊥
AreAs es (n ∷ ns) [] = ⊥

first_are : (ns : List Node) → AreAs [] ns ns
first_are [] = tt
first_are (n ∷ ns) = (refl, refl, λ k. elim k [ inl known ↦ known | inr none ↦ absurd none ], first_are ns)

images_are : (es : List Entry) (ns ws : List Node) → AreAs es ns ws → images_of ws ≡ images_told ns es
images_are es [] [] h = refl
images_are es [] (x ∷ xs) h = absurd h
images_are es (n ∷ ns) [] h = absurd h
images_are es (n ∷ ns) (x ∷ xs) h = head (has_volume x) refl ∙ (λ i. with_image (h.0 i) (h.1 i) (images_of xs)) ∙ ap (λ is. with_image n.name (image_told n.name (volume_image n) es) is) (images_are es ns xs h.3)
  where
    head : (b : Bool) → has_volume x ≡ b → images_of (x ∷ xs) ≡ with_image x.name (volume_image x) (images_of xs)
    head true e = ap (λ b. if b then (x.name, image_of x) ∷ images_of xs else images_of xs) e ∙ sym (ap (λ b. with_image x.name (if b then Some (image_of x) else None) (images_of xs)) e)
    head false e = ap (λ b. if b then (x.name, image_of x) ∷ images_of xs else images_of xs) e ∙ sym (ap (λ b. with_image x.name (if b then Some (image_of x) else None) (images_of xs)) e)

put_as : (es : List Entry) (m : Name) (x z : Node) (ns ws : List Node) → find_node m ws ≡ Some x → z.name ≡ x.name → volume_image z ≡ volume_image x → (IsKnown x → IsKnown z) → AreAs es ns ws → AreAs es ns (with_node m (λ y. z) ws)
put_as es m x z [] [] f named same keeps h = h
put_as es m x z [] (y ∷ ys) f named same keeps h = absurd h
put_as es m x z (n ∷ ns) [] f named same keeps h = absurd h
put_as es m x z (n ∷ ns) (y ∷ ys) f named same keeps h = go (bytes_eq m y.name) f (λ g. put_as es m x z ns ys g named same keeps h.3)
  where
    go : (b : Bool) → ◌≡◌ {A = Option Node} (if b then Some y else find_node m ys) (Some x) → (find_node m ys ≡ Some x → AreAs es ns (with_node m (λ u. z) ys)) → AreAs es (n ∷ ns) (if b then z ∷ ys else y ∷ with_node m (λ u. z) ys)
    go true k more = let q : x ≡ y = sym (some_is y x k) in (named ∙ ap (λ (u : Node). u.name) q ∙ h.0, same ∙ ap volume_image q ∙ h.1, λ k. keeps (subst IsKnown (sym q) (h.2 k)), h.3)
    go false k more = (h.0, h.1, h.2, more k)

-- an entry that tells of no image
quiet_as : (e : Entry) (es : List Entry) (ns ws : List Node) → ((n : Name) (i : Option Image) → image_here n (reading e.source.text) (last_or None e.lines) i ≡ i) → AreAs es ns ws → AreAs (e ∷ es) ns ws
quiet_as e es [] [] quiet h = h
quiet_as e es [] (x ∷ xs) quiet h = absurd h
quiet_as e es (n ∷ ns) [] quiet h = absurd h
quiet_as e es (n ∷ ns) (x ∷ xs) quiet h = (h.0, h.1 ∙ sym (quiet n.name (image_told n.name (volume_image n) es)), λ k. h.2 (fewer k), quiet_as e es ns xs quiet h.3)
  where
    fewer : IsKnown n ⊎ IsReplaced n.name (e ∷ es) → IsKnown n ⊎ IsReplaced n.name es
    fewer (inl known) = inl known
    fewer (inr (inl r)) = absurd (replaces_tells n.name e r (quiet n.name))
    fewer (inr (inr r)) = inr r

-- An INIT of one of them.
module _ (e : Entry) (es : List Entry) (m : Name) (slots journal : ℕ) (answer : Line) (says : reading e.source.text ≡ Says (At m (Init slots journal))) (last : last_or None e.lines ≡ Some answer) where
  here : (n : Name) (i : Option Image) → image_here n (reading e.source.text) (last_or None e.lines) i ≡ (if bytes_eq m n then image_after_init (Some answer) i else i)
  here n i = λ j. image_here n (says j) (last j) i

  -- it replaces what no other node has
  others_fewer : (n : Node) → bytes_eq m n.name ≡ false → IsKnown n ⊎ IsReplaced n.name (e ∷ es) → IsKnown n ⊎ IsReplaced n.name es
  others_fewer n other (inl known) = inl known
  others_fewer n other (inr (inl r)) =
      let same : ◌≡◌ {A = Reading} (Says (At m (Init slots journal))) (Says (At n.name (Init r.slots r.journal))) = sym says ∙ r.says in
      let named : m ≡ n.name = cc in
      absurd (both_ways (bytes_eq m n.name) other (bytes_itself m n.name named))
  others_fewer n other (inr (inr r)) = inr r

  beside_as : (ns ws : List Node) → find_node m ws ≡ None → AreAs es ns ws → AreAs (e ∷ es) ns ws
  beside_as [] [] f h = h
  beside_as [] (x ∷ xs) f h = absurd h
  beside_as (n ∷ ns) [] f h = absurd h
  beside_as (n ∷ ns) (y ∷ ys) f h = go (bytes_eq m y.name) refl f (beside_as ns ys)
    where
      go : (b : Bool) → bytes_eq m y.name ≡ b → ◌≡◌ {A = Option Node} (if b then Some y else find_node m ys) None → (find_node m ys ≡ None → AreAs es ns ys → AreAs (e ∷ es) ns ys) → AreAs (e ∷ es) (n ∷ ns) (y ∷ ys)
      go true is k more = let no : ⊥ = cc in absurd no
      go false is k more =
          let i = image_told n.name (volume_image n) es in
          let other : bytes_eq m n.name ≡ false = ap (bytes_eq m) (sym h.0) ∙ is in
          (h.0, h.1 ∙ sym (here n.name i ∙ ap (λ b. if b then image_after_init (Some answer) i else i) other), λ j. h.2 (others_fewer n other j), more k h.3)

  -- behind it something is known of its node's disk, where that was replaced, or something was known before
  init_known : (x z : Node) → InitLeaves slots journal x z answer → (IsKnown x → IsKnown z) → (n : Node) → (IsKnown n ⊎ IsReplaced n.name es → IsKnown x) → IsKnown n ⊎ IsReplaced n.name (e ∷ es) → IsKnown z
  init_known x z leaves keeps n before (inl known) = keeps (before (inl known))
  init_known x z leaves keeps n before (inr (inr r)) = keeps (before (inr r))
  init_known x z leaves keeps n before (inr (inl r)) = go r.answered
    where
      go : (last_or None e.lines ≡ Some line.Normal) ⊎ ((cause : Cause) × (last_or None e.lines ≡ Some (line.Broken cause))) → IsKnown z
      go (inl made) =
          let new : z.durable ≡ world.made_volume slots journal = subst (InitLeaves slots journal x z) (some_is answer line.Normal (sym last ∙ made)) leaves in
          λ unknown. let clash : world.Sound ≡ world.Unknown = ap (λ (d : Durable). d.volume) (sym new) ∙ unknown in let no : ⊥ = cc in absurd no
      go (inr broken) =
          let spoilt : (z.durable.volume ≡ world.Unknown) × (z.unmade ≡ true) = subst (InitLeaves slots journal x z) (some_is answer (line.Broken broken.0) (sym last ∙ broken.1)) leaves in
          λ unknown. spoilt.1

  init_as : (x z : Node) → z.name ≡ x.name → InitLeaves slots journal x z answer → (IsKnown x → IsKnown z) → (ns ws : List Node) → NamesApart ws → find_node m ws ≡ Some x → AreAs es ns ws → AreAs (e ∷ es) ns (with_node m (λ y. z) ws)
  init_as x z named leaves keeps [] [] apart f h = h
  init_as x z named leaves keeps [] (y ∷ ys) apart f h = absurd h
  init_as x z named leaves keeps (n ∷ ns) [] apart f h = absurd h
  init_as x z named leaves keeps (n ∷ ns) (y ∷ ys) apart f h = go (bytes_eq m y.name) refl f (init_as x z named leaves keeps ns ys apart.1)
    where
      i : Option Image
      i = image_told n.name (volume_image n) es

      go : (b : Bool) → bytes_eq m y.name ≡ b → ◌≡◌ {A = Option Node} (if b then Some y else find_node m ys) (Some x) → (find_node m ys ≡ Some x → AreAs es ns ys → AreAs (e ∷ es) ns (with_node m (λ u. z) ys)) →
          AreAs (e ∷ es) (n ∷ ns) (if b then z ∷ ys else y ∷ with_node m (λ u. z) ys)
      go true is k more =
          let q : x ≡ y = sym (some_is y x k) in
          let own : bytes_eq m n.name ≡ true = ap (bytes_eq m) (sym h.0) ∙ is in
          let told : volume_image x ≡ image_told n.name (volume_image n) es = ap volume_image q ∙ h.1 in (
            named ∙ ap (λ (u : Node). u.name) q ∙ h.0,
            init_image slots journal x z answer leaves ∙ ap (image_after_init (Some answer)) told ∙ sym (here n.name (image_told n.name (volume_image n) es) ∙ ap (λ b. if b then image_after_init (Some answer) (image_told n.name (volume_image n) es) else image_told n.name (volume_image n) es) own),
            init_known x z leaves keeps n (λ j. subst IsKnown (sym q) (h.2 j)),
            beside_as ns ys (subst (λ name. find_node name ys ≡ None) (sym (bytes_same m y.name is)) apart.0) h.3,
          )
      go false is k more =
          let other : bytes_eq m n.name ≡ false = ap (bytes_eq m) (sym h.0) ∙ is in
          (h.0, h.1 ∙ sym (here n.name (image_told n.name (volume_image n) es) ∙ ap (λ b. if b then image_after_init (Some answer) (image_told n.name (volume_image n) es) else image_told n.name (volume_image n) es) other), λ j. h.2 (others_fewer n other j), more k h.3)

  -- one that is refused
  refused_quiet : is_refusal answer ≡ true → (n : Name) (i : Option Image) → image_here n (reading e.source.text) (last_or None e.lines) i ≡ i
  refused_quiet is n i = here n i ∙ go (bytes_eq m n)
    where
      go : (b : Bool) → (if b then image_after_init (Some answer) i else i) ≡ i
      go true = refused_image answer i is
      go false = refl

-- Worlds.

-- a node may be in use; or none is, and the images are those that these entries tell
abbrev AreTold : List Entry → List Node → World → Type 0
AreTold es ns w = (w.shared.in_use ≡ true) ⊎ (IsRack w × (w.shared.in_use ≡ false) × AreAs es ns w.nodes)

abbrev pub is_init : Task → Bool
is_init (Serves (Init slots journal)) = true
is_init _ = false

leaves_same : (t : Task) (x : Node) (f : TaskEffect) → is_init t ≡ false → TaskLeaves t x f → IsSameDisk x f.node
leaves_same (Serves (Init slots journal)) x f off h = let no : ⊥ = cc in absurd no
leaves_same (Serves _) x f off h = h
leaves_same _ x f off h = h

-- a part that is no INIT
abbrev pub IsOther : Part → Type 0
IsOther (Does n t) = is_init t ≡ false
IsOther (Asks n serial) = Unit {0}

pub other_task : (w : World) (p : Part) (node : Name) (t : Task) → task_of_part w p ≡ Some (record { node = node; task = t }) → IsOther p → is_init t ≡ false
other_task w (Does n u) node t is other = subst (λ (y : TaskAt). is_init y.task ≡ false) (some_is _ _ is) other
other_task w (Asks n serial) node t is other = go (question w n serial) is
  where
    go : (q : Question) → asked_by q ≡ Some (record { node = node; task = t }) → is_init t ≡ false
    go (Heard m) e = ap (λ (y : TaskAt). is_init y.task) (sym (some_is _ _ e))
    go Unanswered e = let no : ⊥ = cc in absurd no
    go (Doubtful k) e = let no : ⊥ = cc in absurd no

part_told : (es : List Entry) (ns : List Node) (after : List DiskCounts) (w : World) (p : Part) (c : Choice) → IsOther p → Allowed w p after c → AreTold es ns w → AreTold es ns (part_effect w p c).world
part_told es ns after w p c other may (inl used) = inl (used_part w p c used)
part_told es ns after w p c other may (inr h) = by (view w p)
  where
    by : View w p → AreTold es ns (part_effect w p c).world
    by (Fixed answer ends kind is) = subst (λ (f : PartEffect). AreTold es ns f.world) (sym (is c)) (inr h)
    by (Doing node t x named found does allowed) =
        let f : TaskEffect = task_effect w.shared (stops_at node w) x t c in
        let turned = task_turns t x w.shared (stops_at node w) (λ cause. RoseAt w node cause after) c (h.0.nodes node x found) (allowed after c may) in
        subst (λ (f : PartEffect). AreTold es ns f.world) (sym (does c)) (elim turned [
          | inl used ↦ inl used
          | inr s ↦ inr (rack_put (TaskLeaves t x f) w node x f found s h.0, s.use_same ∙ h.1, put_as es node x f.node ns w.nodes found s.named (same_image x f.node (leaves_same t x f (other_task w p node t named other) s.disk)) s.known h.2)
        ])

-- Statements.

abbrev pub is_making : Statement → Bool
is_making (At node (Init slots journal)) = true
is_making _ = false

pub other_parts : (s : Statement) → is_making s ≡ false → EachPhase IsOther (phases_of s)
other_parts (At node request) off = go request off
  where
    go : (r : Request) → is_making (At node r) ≡ false → EachPhase IsOther (phases_of (At node r))
    go (Init slots journal) k = let no : ⊥ = cc in absurd no
    go (Clock now) k = ((λ u. (refl, tt)), ((λ u. each_up IsOther node Ticks refl u), tt))
    go _ k = ((λ u. (refl, tt)), tt)
other_parts (Deliver number) off = ((λ u. delivered (message_at number u.shared.wire)), tt)
  where
    delivered : (o : Option Message) → EachPart IsOther (elim o [ Some m ↦ Does m.to (Takes m) ∷ [] | None ↦ [] ])
    delivered (Some m) = (refl, tt)
    delivered None = tt
other_parts (LinkDown a b) off = ((λ u. each_up IsOther a (LosesLink b) refl u), ((λ u. each_up IsOther b (LosesLink a) refl u), tt))
other_parts Settle off = ((λ u. each_restart IsOther (λ x. refl) u.nodes), ((λ u. each_run_down IsOther (λ x. refl) u.nodes), ((λ u. all_asked IsOther (λ x y. tt) u.nodes), tt)))

begun_told : (es : List Entry) (ns : List Node) (s : Statement) (w : World) → AreTold es ns w → AreTold es ns (begun_with s w)
begun_told es ns Settle w h = inl refl
begun_told es ns (At node request) w h = h
begun_told es ns (Deliver number) w h = h
begun_told es ns (LinkDown a b) w h = h

disks_told : (es : List Entry) (ns : List Node) (w : World) (ds : List DiskCounts) → AreTold es ns w → AreTold es ns (record w { disks = ds })
disks_told es ns w ds (inl used) = inl used
disks_told es ns w ds (inr h) = inr (disks_rack w ds h.0, h.1, h.2)

other_told : (es : List Entry) (ns : List Node) (w v : World) (s : Statement) (lines : List Line) → is_making s ≡ false → Step w s lines v → AreTold es ns w → AreTold es ns v
other_told es ns w v s lines off step h = subst (AreTold es ns) (sym step.goes) (disks_told es ns step.world v.disks (by (refused_at_once w s) step.does))
  where
    by : (o : Option Line) → Begins o (Phases (phases_of s) v.disks (begun_with s w) line.Normal) w step.events step.answer step.world → AreTold es ns step.world
    by (Some refusal) d = subst (AreTold es ns) (sym d.2) h
    by None d = phases_fold v.disks IsOther (λ given. Unit {0}) (λ u rest answer x. AreTold es ns u → AreTold es ns x) (λ u given q k. k)
        (λ u p c ok allowed ends k. part_told es ns v.disks u p c ok allowed k)
        (λ u p c ok allowed on. (tt, λ rest answer x more k. more (part_told es ns v.disks u p c ok allowed k)))
        (phases_of s) (other_parts s off) (begun_with s w) line.Normal step.events step.answer step.world tt d (begun_told es ns s w h)

last_there : (o : Option Line) (xs : List Line) (x : Line) → last_or o (xs ++ x ∷ []) ≡ Some x
last_there o [] x = refl
last_there o (y ∷ xs) x = last_there (Some y) xs x

other_quiet : (said : Reading) (s : Statement) (answer : Option Line) → said ≡ Says s → is_making s ≡ false → (n : Name) (i : Option Image) → image_here n said answer i ≡ i
other_quiet said s answer is off n i = ap (λ r. image_here n r answer i) is ∙ go s off
  where
    go : (s : Statement) → is_making s ≡ false → image_here n (Says s) answer i ≡ i
    go (At m (Init slots journal)) k = let no : ⊥ = cc in absurd no
    go (At m _) k = refl
    go _ k = refl

-- an INIT where none may be in use
module _ (e : Entry) (es : List Entry) (ns : List Node) (w v : World) (m : Name) (slots journal : ℕ) (says : reading e.source.text ≡ Says (At m (Init slots journal))) (h : IsRack w × (w.shared.in_use ≡ false) × AreAs es ns w.nodes) (step : Step w (At m (Init slots journal)) e.lines v) where
  last : last_or None e.lines ≡ Some step.answer
  last = ap (last_or None) step.shows ∙ last_there None step.events step.answer

  kept_told : is_refusal step.answer ≡ true → AreTold (e ∷ es) ns w
  kept_told is = inr (h.0, h.1, quiet_as e es ns w.nodes (refused_quiet e es m slots journal step.answer says last is) h.2)

  done_told : (c : Choice) → AllowedAt w m (Serves (Init slots journal)) v.disks c → step.answer ≡ (done_at w m (Serves (Init slots journal)) c).answer → AreTold (e ∷ es) ns (done_at w m (Serves (Init slots journal)) c).world
  done_told c may answers = by (find_node m w.nodes) refl
    where
      by : (o : Option Node) → find_node m w.nodes ≡ o → AreTold (e ∷ es) ns (done_at w m (Serves (Init slots journal)) c).world
      by None none =
          let is : done_at w m (Serves (Init slots journal)) c ≡ no_node w = rw (none, done_at) refl in
          subst (λ (f : PartEffect). AreTold (e ∷ es) ns f.world) (sym is) (kept_told (ap is_refusal (answers ∙ ap (λ (f : PartEffect). f.answer) is)))
      by (Some x) found =
          let t : Task = Serves (Init slots journal) in
          let f : TaskEffect = task_effect w.shared (stops_at m w) x t c in
          let is : done_at w m t c ≡ put_into w m f = done_here w m t x c found in
          let s = init_stays x w.shared (stops_at m w) slots journal (λ cause. RoseAt w m cause v.disks) c (h.0.nodes m x found) (allowed_here w m t x v.disks c found may) in
          let same : f.answer ≡ step.answer = sym (answers ∙ ap (λ (y : PartEffect). y.answer) is) in
          subst (λ (y : PartEffect). AreTold (e ∷ es) ns y.world) (sym is)
          (inr (rack_put (InitLeaves slots journal x f.node f.answer) w m x f found s h.0, s.use_same ∙ h.1, init_as e es m slots journal step.answer says last x f.node s.named (subst (InitLeaves slots journal x f.node) same s.disk) s.known ns w.nodes h.0.apart found h.2))

  init_told : AreTold (e ∷ es) ns v
  init_told = subst (AreTold (e ∷ es) ns) (sym step.goes) (disks_told (e ∷ es) ns step.world v.disks (by (refused_at_once w (At m (Init slots journal))) refl step.does))
    where
      by : (o : Option Line) → refused_at_once w (At m (Init slots journal)) ≡ o → Begins o (Phases (phases_of (At m (Init slots journal))) v.disks w line.Normal) w step.events step.answer step.world → AreTold (e ∷ es) ns step.world
      by (Some refusal) once d = subst (AreTold (e ∷ es) ns) (sym d.2) (kept_told (ap is_refusal d.1 ∙ (once_refuses w (At m (Init slots journal))).says refusal once))
      by None once d =
          let r = ended (done_at w m (Serves (Init slots journal)) d.0) v.disks step.events step.answer step.world d.2 in
          subst (AreTold (e ∷ es) ns) (sym r.2) (done_told d.0 d.1 r.1)

-- Where a node may be in use an INIT is refused.

used_refused : (w v : World) (m : Name) (slots journal : ℕ) (lines : List Line) (step : Step w (At m (Init slots journal)) lines v) → w.shared.in_use ≡ true → is_refusal step.answer ≡ true
used_refused w v m slots journal lines step used = by (refused_at_once w (At m (Init slots journal))) refl step.does
  where
    t : Task
    t = Serves (Init slots journal)

    refused : (x : Node) (c : Choice) (rises : Cause → Type 0) → TaskAllowed w.shared (stops_at m w) x t rises c → is_refusal (task_effect w.shared (stops_at m w) x t c).answer ≡ true
    refused x c rises may = go c may
      where
        some : (l : Line) × (refused_before_reading w.shared x (task_service t) ≡ Some l)
        some = first_some (refused_if (not (x.up || true)) line.NodeDown) (refused_if w.shared.in_use line.VolumeInUse) _ (ap (λ b. refused_if b line.VolumeInUse) used)
          where
            first_some : (a b c : Option Line) → b ≡ Some line.VolumeInUse → (l : Line) × (first_of a (first_of b c) ≡ Some l)
            first_some (Some l) b c e = (l, refl)
            first_some None (Some l) c e = (l, refl)
            first_some None None c e = let no : ⊥ = cc in absurd no

        none : refused_before_reading w.shared x (task_service t) ≡ None → ⊥
        none e = let no : ◌≡◌ {A = Option Line} (Some some.0) None = sym some.1 ∙ e in cc

        go : (c : Choice) → TaskAllowed w.shared (stops_at m w) x t rises c → is_refusal (task_effect w.shared (stops_at m w) x t c).answer ≡ true
        go (Whole outturn) k = ap (λ o. is_refusal (whole w.shared x (ready_node outturn (stops_at m w) (task_service t) x) (task_service t) o).answer) some.1 ∙ (refuses_first w.shared x t).says some.0 some.1
        go WithoutMemory k = refl
        go Unpowered k = absurd (none k.0)
        go (Cut outturn done started cause) k = absurd (none k.0)

    done : (c : Choice) → AllowedAt w m t v.disks c → is_refusal (done_at w m t c).answer ≡ true
    done c may = at (find_node m w.nodes) refl
      where
        at : (o : Option Node) → find_node m w.nodes ≡ o → is_refusal (done_at w m t c).answer ≡ true
        at None none = let is : done_at w m t c ≡ no_node w = rw (none, done_at) refl in ap (λ (f : PartEffect). is_refusal f.answer) is
        at (Some x) found = ap (λ (f : PartEffect). is_refusal f.answer) (done_here w m t x c found) ∙ refused x c (λ cause. RoseAt w m cause v.disks) (allowed_here w m t x v.disks c found may)

    by : (o : Option Line) → refused_at_once w (At m (Init slots journal)) ≡ o → Begins o (Phases (phases_of (At m (Init slots journal))) v.disks w line.Normal) w step.events step.answer step.world → is_refusal step.answer ≡ true
    by (Some refusal) once d = ap is_refusal d.1 ∙ (once_refuses w (At m (Init slots journal))).says refusal once
    by None once d = ap is_refusal (ended (done_at w m t d.0) v.disks step.events step.answer step.world d.2).1 ∙ done d.0 d.1

-- and it may be from then on.
step_used : (w v : World) (s : Statement) (lines : List Line) → Step w s lines v → w.shared.in_use ≡ true → v.shared.in_use ≡ true
step_used w v s lines step used = ap (λ (x : World). x.shared.in_use) step.goes ∙ by (refused_at_once w s) step.does
  where
    begun : (s : Statement) → (begun_with s w).shared.in_use ≡ true
    begun Settle = refl
    begun (At node request) = used
    begun (Deliver number) = used
    begun (LinkDown a b) = used

    by : (o : Option Line) → Begins o (Phases (phases_of s) v.disks (begun_with s w) line.Normal) w step.events step.answer step.world → step.world.shared.in_use ≡ true
    by (Some refusal) d = ap (λ (x : World). x.shared.in_use) d.2 ∙ used
    by None d = phases_fold v.disks AnyPart (λ given. Unit {0}) (λ u rest answer x. u.shared.in_use ≡ true → x.shared.in_use ≡ true) (λ u given q k. k)
        (λ u p c ok allowed ends k. used_part u p c k)
        (λ u p c ok allowed on. (tt, λ rest answer x more k. more (used_part u p c k)))
        (phases_of s) (any_phases (phases_of s)) (begun_with s w) line.Normal step.events step.answer step.world tt d (begun s)

-- Runs.

turn_told : (e : Entry) (es : List Entry) (ns : List Node) (w v : World) (r : Reading) → reading e.source.text ≡ r → Turn w r e.lines v → AreTold es ns w → AreTold (e ∷ es) ns v
turn_told e es ns w v Blank is turn h = subst (AreTold (e ∷ es) ns) (sym turn.1) (still h)
  where
    still : AreTold es ns w → AreTold (e ∷ es) ns w
    still (inl used) = inl used
    still (inr k) = inr (k.0, k.1, quiet_as e es ns w.nodes (λ n i. ap (λ x. image_here n x (last_or None e.lines) i) is) k.2)
turn_told e es ns w v (Bad column) is turn h = absurd turn
turn_told e es ns w v (Says s) is step h = go s is step
  where
    other : (s : Statement) → is_making s ≡ false → reading e.source.text ≡ Says s → Step w s e.lines v → AreTold (e ∷ es) ns v
    other s off is step = later (other_told es ns w v s e.lines off step h)
      where
        later : AreTold es ns v → AreTold (e ∷ es) ns v
        later (inl used) = inl used
        later (inr k) = inr (k.0, k.1, quiet_as e es ns v.nodes (λ n i. other_quiet (reading e.source.text) s (last_or None e.lines) is off n i) k.2)

    making : (m : Name) (slots journal : ℕ) → reading e.source.text ≡ Says (At m (Init slots journal)) → Step w (At m (Init slots journal)) e.lines v → AreTold es ns w → AreTold (e ∷ es) ns v
    making m slots journal is step (inl used) = inl (step_used w v (At m (Init slots journal)) e.lines step used)
    making m slots journal is step (inr k) = init_told e es ns w v m slots journal is k step

    go : (s : Statement) → reading e.source.text ≡ Says s → Step w s e.lines v → AreTold (e ∷ es) ns v
    go (At m (Init slots journal)) is step = making m slots journal is step h
    go (At m r) is step = other (At m r) refl is step
    go s is step = other s refl is step

legal_are_told : (nodes : List Node) (disks : List DiskCounts) (es : List Entry) (w : World) → IsRack (opened nodes disks) → Legal (opened nodes disks) es w → AreTold es nodes w
legal_are_told nodes disks [] w base legal = subst (AreTold [] nodes) (sym legal) (inr (base, refl, first_are nodes))
legal_are_told nodes disks (e ∷ es) w base legal = turn_told e es nodes legal.0 w (reading e.source.text) refl legal.2 (legal_are_told nodes disks es legal.0 base legal.1)

-- what is known of the disk of a node, by its name
known_at : (es : List Entry) (ns ws : List Node) → AreAs es ns ws → (name : Name) (x : Node) → find_node name ws ≡ Some x → (n : Node) × (find_node name ns ≡ Some n) × (IsKnown n ⊎ IsReplaced name es → IsKnown x)
known_at es [] [] h name x f = let no : ⊥ = cc in absurd no
known_at es [] (y ∷ ys) h name x f = absurd h
known_at es (n ∷ ns) [] h name x f = absurd h
known_at es (n ∷ ns) (y ∷ ys) h name x f = go (bytes_eq name y.name) refl f (known_at es ns ys h.3 name x)
  where
    own : bytes_eq name n.name ≡ bytes_eq name y.name
    own = ap (bytes_eq name) (sym h.0)

    go : (b : Bool) → bytes_eq name y.name ≡ b → ◌≡◌ {A = Option Node} (if b then Some y else find_node name ys) (Some x) → (find_node name ys ≡ Some x → (m : Node) × (find_node name ns ≡ Some m) × (IsKnown m ⊎ IsReplaced name es → IsKnown x)) →
        (m : Node) × (find_node name (n ∷ ns) ≡ Some m) × (IsKnown m ⊎ IsReplaced name es → IsKnown x)
    go true is k more =
        let here : name ≡ n.name = bytes_same name y.name is ∙ h.0 in
        (n, ap (λ b. if b then Some n else find_node name ns) (own ∙ is), λ j. subst IsKnown (some_is y x k) (h.2 (elim j [ inl known ↦ inl known | inr r ↦ inr (subst (λ p. IsReplaced p es) here r) ])))
    go false is k more = let r = more k in (r.0, ap (λ b. if b then Some n else find_node name ns) (own ∙ is) ∙ r.1, r.2)

rack_base : (w : World) → IsRack w → ((name : Name) (x : Node) → find_node name w.nodes ≡ Some x → IsKnown x) → IsBase w
rack_base w rack known = record {
  nodes = λ name x found. let i = rack.nodes name x found in record { down = i.down; quiet = i.quiet; settled = i.settled; known = known name x found; log = i.log };
  apart = rack.apart;
  labels = rack.labels;
  wire = rack.wire;
  accepted = rack.accepted;
  read_only = rack.read_only;
}

pub unused_are_told : UnusedAreTold
unused_are_told nodes disks es w are apart sure legal off = go (legal_are_told nodes disks es w (opening_rack nodes disks are apart) legal)
  where
    go : AreTold es nodes w → IsBase w × (opening_of w ≡ opening_told nodes es)
    go (inl used) = absurd (both_ways w.shared.in_use off used)
    go (inr h) = (
      rack_base w h.0 (λ name x found. let k = known_at es nodes w.nodes h.2 name x found in k.2 (sure name k.0 k.1)),
      λ i. record { images = images_are es nodes w.nodes h.2 i },
    )

pub used_tell_no_more : UsedTellNoMore
used_tell_no_more w v Blank lines turn used = (ap (λ (x : World). x.shared.in_use) turn.1 ∙ used, λ n i. refl)
used_tell_no_more w v (Bad column) lines turn used = absurd turn
used_tell_no_more w v (Says s) lines step used = (step_used w v s lines step used, go s step)
  where
    go : (s : Statement) → Step w s lines v → (n : Name) (i : Option Image) → image_here n (Says s) (last_or None lines) i ≡ i
    go (At m (Init slots journal)) step n i =
        let last : last_or None lines ≡ Some step.answer = ap (last_or None) step.shows ∙ last_there None step.events step.answer in
        ap (λ o. image_here n (Says (At m (Init slots journal))) o i) last ∙ by (bytes_eq m n) step.answer (used_refused w v m slots journal lines step used)
      where
        by : (b : Bool) (l : Line) → is_refusal l ≡ true → (if b then image_after_init (Some l) i else i) ≡ i
        by true l is = refused_image l i is
        by false l is = refl
    go (At m r) step n i = other_quiet (Says (At m r)) (At m r) (last_or None lines) refl refl n i
    go s step n i = other_quiet (Says s) s (last_or None lines) refl refl n i

pub quiet_images : (e : Entry) (es : List Entry) (ns : List Node) → ((n : Name) (i : Option Image) → image_here n (reading e.source.text) (last_or None e.lines) i ≡ i) → images_told ns (e ∷ es) ≡ images_told ns es
quiet_images e es [] quiet = refl
quiet_images e es (n ∷ ns) quiet = λ j. with_image n.name (quiet n.name (image_told n.name (volume_image n) es) j) (quiet_images e es ns quiet j)

made_quiet : (w v : World) (r : Reading) (lines : List Line) → MakesNoVolume w r → Turn w r lines v → (n : Name) (i : Option Image) → image_here n r (last_or None lines) i ≡ i
made_quiet w v Blank lines none turn n i = refl
made_quiet w v (Bad column) lines none turn n i = absurd turn
made_quiet w v (Says (At m (Init slots journal))) lines none step n i = (used_tell_no_more w v (Says (At m (Init slots journal))) lines step (none m slots journal refl)).1 n i
made_quiet w v (Says (At m r)) lines none step n i = other_quiet (Says (At m r)) (At m r) (last_or None lines) refl refl n i
made_quiet w v (Says s) lines none step n i = other_quiet (Says s) s (last_or None lines) refl refl n i

pub runs_tell_no_more : RunsTellNoMore
runs_tell_no_more nodes base v before [] runs = refl
runs_tell_no_more nodes base v before (e ∷ since) runs =
    (λ j. record { images = quiet_images e (since ++ before) nodes (made_quiet runs.0 v (reading e.source.text) e.lines runs.2 runs.3) j }) ∙ runs_tell_no_more nodes base runs.0 before since runs.1

-- nor do they replace what a disk had
runs_replace_none : (n : Name) (base v : World) (before since : List Entry) → RunsFrom base since v → IsReplaced n (since ++ before) → IsReplaced n before
runs_replace_none n base v before [] runs r = r
runs_replace_none n base v before (e ∷ since) runs (inl r) = absurd (replaces_tells n e r (made_quiet runs.0 v (reading e.source.text) e.lines runs.2 runs.3 n))
runs_replace_none n base v before (e ∷ since) runs (inr r) = runs_replace_none n base runs.0 before since runs.1 r

pub base_sure : (nodes : List Node) (base v : World) (before since : List Entry) → RunsFrom base since v → AreKnownOrReplaced (since ++ before) nodes → AreKnownOrReplaced before nodes
base_sure nodes base v before since runs sure n x found = elim (sure n x found) [ inl known ↦ inl known | inr replaced ↦ inr (runs_replace_none n base v before since runs replaced) ]

-- Where a node may be in use, no entry does.
pub used_replace_none : (n : Name) (w v : World) (before later : List Entry) → Legal w later v → w.shared.in_use ≡ true → (v.shared.in_use ≡ true) × (IsReplaced n (later ++ before) → IsReplaced n before)
used_replace_none n w v before [] legal used = (subst (λ (x : World). x.shared.in_use ≡ true) (sym legal) used, λ r. r)
used_replace_none n w v before (e ∷ later) legal used =
    let more = used_replace_none n w legal.0 before later legal.1 used in
    let tell = used_tell_no_more legal.0 v (reading e.source.text) e.lines legal.2 more.0 in
    (tell.0, λ r. elim r [ inl here ↦ absurd (replaces_tells n e here (tell.1 n)) | inr there ↦ more.1 there ])

pub used_sure : (nodes : List Node) (w v : World) (before later : List Entry) → Legal w later v → w.shared.in_use ≡ true → AreKnownOrReplaced (later ++ before) nodes → AreKnownOrReplaced before nodes
used_sure nodes w v before later legal used sure n x found = elim (sure n x found) [ inl known ↦ inl known | inr replaced ↦ inr ((used_replace_none n w v before later legal used).1 replaced) ]

-- Each legal transcript has a base, and is a run from there on.

pub runs_begin : RunsBegin
runs_begin nodes disks es v are apart sure legal =
    let r = (transcript_begins (opened nodes disks) v es (opening_rack nodes disks are apart, refl) legal).1 in
    let before : AreKnownOrReplaced r.1 nodes = base_sure nodes r.0 v r.1 r.2 r.6 (subst (λ xs. AreKnownOrReplaced xs nodes) r.3 sure) in
    (r.0, r.1, r.2, r.3, r.4, (unused_are_told nodes disks r.1 r.0 are apart before r.4 r.7).0, r.6, r.7)
