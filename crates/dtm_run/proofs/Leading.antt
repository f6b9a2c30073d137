-- How far the lines of a run lead.
use Rattle.std.specs.Prelude.{slice_get}
use Rattle.std.proofs.Common.{◌≡◌, ◌⊎◌, inl, inr, ℕ, zero, suc, List, [], ◌∷◌, ◌++◌, ◌==◌, Bool, true, false, not, ◌&&◌, Option, Some, None, map, if◌then◌else◌, refl, sym, ◌∙◌, ap, subst}
use Rattle.std.specs.List.{AllByRecursion, last_or}
use Rattle.std.specs.Str.{bytes_eq}
use Rattle.std.proofs.lemmas.Bool.{eqb-true}
use Rattle.std.proofs.lemmas.Slice.Eq.{bytes_eq-Decides}
use Rattle.block_disk.specs.Disk.{DiskState, CallLog}
use Rattle.commit_protocol.specs.Messages.{Message}
use Rattle.transcript_model.specs.Lines as line
use Rattle.transcript_model.specs.Lines.{Line}
use Rattle.transcript_model.specs.Script.{ScriptLine}
use Rattle.emitter_model.specs.Emitting.{Shown, Emits}
use Rattle.script_model.specs.Statements.{Statement, At, Deliver, LinkDown, Settle, Request, Boot, Blank, Says}
use Rattle.script_model.specs.Grammar.{reading}
use Rattle.statement_steps.specs.run_agreement.Laws.{NamesApart}
use Rattle.world_laws.specs.run_model.World.{World, Node, Label, Volume, Sound, Faulty, Barred, Unknown, find_node, opened}
use Rattle.world_laws.specs.run_model.Transcript.{AreInLimits, AreOpening, Ends, Entry, Legal, Turn}
use Rattle.world_laws.proofs.run_model.NodeLists.{some_is}
use Rattle.run_laws.specs.run_said.Said.{Said, SaidLabel, answer_said, line_said, lines_said, nothing_said, request_said, said_here}
use Rattle.day_run.specs.run_shared.Sharing.{SharedState}
use Rattle.world_laws.specs.Nodes.{NodesAreKept}
use Rattle.day_run.specs.node_standing.Standing.{NodeState, Place, IsDown, IsRunning, PlaceRepresents, counts_of, disk_in, is_up, noted_all}
use Rattle.day_run.specs.node_standing.Telling.{said_label, said_node}
use Rattle.statement_steps.specs.Doing.{AllKept}
use Rattle.statement_steps.proofs.Keeping.{all_kept}
use Rattle.statement_steps.proofs.Places.{find_at}
use Rattle.day_run.specs.run_nodes.Calls.{DisksFollowLine, LineFollows}
use Rattle.day_run.specs.run_nodes.Held.{clocks_of}
use Rattle.day_run.specs.run_nodes.Names.{AreApart}
use Rattle.day_run.specs.run_nodes.Together.{AnswersTogether, ServesTogether, StandAll, StandsTogether, disks_of, said_together}
use Rattle.day_run.specs.run_nodes.Told.{kept_names}
use Rattle.day_run.specs.run_nodes.Untold.{BootsUnknown, IsUntold}
use Rattle.day_run.proofs.run_nodes.Places.{world_apart}
use Rattle.day_run.proofs.run_nodes.Telling.{passes_on, passes_same}
use Rattle.dtm_run.specs.Headline.{AllGo, DiskRepresents, DisksRepresent, Leaves, exit_of, is_known}
use Rattle.dtm_run.specs.Leading.{Beginning, Begins, IsUnknown, KeepKnown, Leads, LeadsNowhere, LeavesOver, RunsFrom, are_resting, are_unset, is_unused, is_unused_behind, said_node_of, said_world, world_at}
use Rattle.dtm_run.specs.Taking.{AreAtZero}
use Rattle.dtm_run.specs.declared.top.Exit.{Exit}
use Rattle.dtm_run.proofs.Entries.{EndsWith}
use Rattle.dtm_run.proofs.Renewing.{AreTold, renewed, renewed_opening, renewed_stand}
use Rattle.dtm_run.proofs.Unused as free
use Rattle.dtm_run.proofs.Unused.{unused_fresh}

pub not_both : (b : Bool) → b ≡ true → b ≡ false → ⊥
not_both b t f = let e : true ≡ false = sym t ∙ f in cc

-- Whether a statement may bring up a node of whose disk nothing is known.

pub is_unknown : (v : Volume) → (v ≡ Unknown) ⊎ (v ≡ Unknown → ⊥)
is_unknown Sound = inr (λ e. let none : ⊥ = cc in none)
is_unknown (Faulty condition block) = inr (λ e. let none : ⊥ = cc in none)
is_unknown (Barred bar) = inr (λ e. let none : ⊥ = cc in none)
is_unknown Unknown = inl refl

is_false : (b : Bool) → (b ≡ false) ⊎ (b ≡ false → ⊥)
is_false false = inl refl
is_false true = inr (λ e. let none : ⊥ = cc in none)

untold : (n : Node) → IsUntold n ⊎ (IsUntold n → ⊥)
untold n = elim (is_false n.up) [
  | inr other ↦ inr (λ u. other u.down)
  | inl down ↦ elim (is_unknown n.durable.volume) [
    | inr other ↦ inr (λ u. other u.unknown)
    | inl unknown ↦ elim (is_false n.unmade) [
      | inr other ↦ inr (λ u. other u.made)
      | inl made ↦ inl (record { down = down; unknown = unknown; made = made })
    ]
  ]
]

-- one of these nodes
record HasUntold (ns : List Node) : Type 0 where
  place : ℕ
  node : Node
  at : slice_get ns place ≡ Some node
  is : IsUntold node

some_untold : (ns : List Node) → HasUntold ns ⊎ ((place : ℕ) (n : Node) → slice_get ns place ≡ Some n → IsUntold n → ⊥)
some_untold [] = inr (λ place n e u. let none : ⊥ = cc in none)
some_untold (x ∷ ns) = elim (untold x) [
  | inl u ↦ inl (record { place = zero; node = x; at = refl; is = u })
  | inr other ↦ elim (some_untold ns) [
    | inl h ↦ inl (record { place = suc h.place; node = h.node; at = h.at; is = h.is })
    | inr others ↦ inr (by other others)
  ]
]
  where
    by : (IsUntold x → ⊥) → ((place : ℕ) (n : Node) → slice_get ns place ≡ Some n → IsUntold n → ⊥) → (place : ℕ) (n : Node) → slice_get (x ∷ ns) place ≡ Some n → IsUntold n → ⊥
    by other others zero n e u = other (subst IsUntold (sym (some_is x n e)) u)
    by other others (suc place) n e u = others place n e u

found_place : (name : List ℕ) (ns : List Node) (n : Node) → find_node name ns ≡ Some n → (place : ℕ) × (slice_get ns place ≡ Some n)
found_place name [] n e = let none : ⊥ = cc in absurd none
found_place name (x ∷ ns) n e = go (bytes_eq name x.name) e (found_place name ns n)
  where
    go : (b : Bool) → ◌≡◌ {A = Option Node} (if b then Some x else find_node name ns) (Some n) → (find_node name ns ≡ Some n → (place : ℕ) × (slice_get ns place ≡ Some n)) → (place : ℕ) × (slice_get (x ∷ ns) place ≡ Some n)
    go true f more = (zero, f)
    go false f more = let r = more f in (suc r.0, r.1)

abbrev MayBoot : World → Statement → Type 0
MayBoot w s = BootsUnknown w s ⊎ (BootsUnknown w s → ⊥)

boots_at : (w : World) (name : List ℕ) → MayBoot w (At name Boot)
boots_at w name = go (find_node name w.nodes) refl
  where
    go : (o : Option Node) → find_node name w.nodes ≡ o → MayBoot w (At name Boot)
    go None e = inr (λ b. let f : Some b.0 ≡ None = sym b.1 ∙ e in let none : ⊥ = cc in none)
    go (Some n) e = elim (untold n) [
      | inl u ↦ inl (n, e, u)
      | inr other ↦ inr (λ b. other (subst IsUntold (some_is b.0 n (sym b.1 ∙ e)) b.2))
    ]

request_boots : (w : World) (name : List ℕ) (r : Request) → MayBoot w (At name r)
request_boots w name Boot = boots_at w name
request_boots w name _ = inr (λ b. b)

pub boots_unknown : (w : World) → NamesApart w.nodes → (s : Statement) → MayBoot w s
boots_unknown w apart (At name r) = request_boots w name r
boots_unknown w apart (Deliver number) = inr (λ b. b)
boots_unknown w apart (LinkDown a b) = inr (λ x. x)
boots_unknown w apart Settle = elim (some_untold w.nodes) [
  | inl h ↦ inl (h.node.name, h.node, find_at w.nodes h.place h.node apart h.at, h.is)
  | inr others ↦ inr (λ b. let r = found_place b.0 w.nodes b.1 b.2 in others r.0 b.1 r.1 b.3)
]

-- Disks that go on.

pub all_stay : (ds : List DiskState) → AllGo ds ds
all_stay [] = tt
all_stay (d ∷ ds) = (passes_same d, all_stay ds)

pub go_on : (xs ys zs : List DiskState) → AllGo xs ys → AllGo ys zs → AllGo xs zs
go_on [] [] zs g h = h
go_on [] (y ∷ ys) zs g h = absurd g
go_on (x ∷ xs) [] zs g h = absurd g
go_on (x ∷ xs) (y ∷ ys) [] g h = absurd h
go_on (x ∷ xs) (y ∷ ys) (z ∷ zs) g h = (passes_on x y z g.0 h.0, go_on xs ys zs g.1 h.1)

pub tells_go : (names : List (List ℕ)) (said : Said) (s : Statement) (lines : List Line) (olds news : List DiskState) → DisksFollowLine names said (Says s) lines olds news → AllGo olds news
tells_go [] said s lines [] [] h = tt
tells_go [] said s lines [] (new ∷ news) h = absurd h
tells_go [] said s lines (old ∷ olds) news h = absurd h
tells_go (name ∷ names) said s lines [] news h = absurd h
tells_go (name ∷ names) said s lines (old ∷ olds) [] h = absurd h
tells_go (name ∷ names) said s lines (old ∷ olds) (new ∷ news) h = (h.0.passes, tells_go names said s lines olds news h.1)

-- What stands is what was said.

stand_said : (logs : List CallLog) (ks : List NodeState) (ns : List Node) → StandAll logs ks ns → map said_node ks ≡ map said_node_of ns
stand_said [] [] [] h = refl
stand_said [] [] (n ∷ ns) h = absurd h
stand_said [] (k ∷ ks) ns h = absurd h
stand_said (log ∷ logs) [] ns h = absurd h
stand_said (log ∷ logs) (k ∷ ks) [] h = absurd h
stand_said (log ∷ logs) (k ∷ ks) (n ∷ ns) h =
    let up = by k.place h.0.place in
    λ i. record { name = sym h.0.name i; up = up i; unmade = sym h.0.unmade i } ∷ stand_said logs ks ns h.1 i
  where
    by : (p : Place) → PlaceRepresents k.clock p n → is_up p ≡ n.up
    by (IsDown has_parts d) s = sym s.down
    by (IsRunning r) s = sym s.stands.up

pub together_said : (logs : List CallLog) (ks : List NodeState) (s : SharedState) (w : World) → StandsTogether logs ks s w → said_together ks s ≡ said_world w
together_said logs ks s w h = λ i. record {
  nodes = stand_said logs ks w.nodes h.nodes i;
  shared = record { labels = map said_label (sym h.shared.labels i); in_use = sym h.shared.in_use i; wire = sym h.shared.wire i };
}

-- Nodes as before a first line.

both : (a b : Bool) → (a && b) ≡ true → (a ≡ true) × (b ≡ true)
both true b e = (refl, e)
both false b e = let none : ⊥ = cc in absurd none

was_not : (b : Bool) → not b ≡ true → b ≡ false
was_not false e = refl
was_not true e = let none : ⊥ = cc in absurd none

no_labels : (ls : List Label) → map said_label ls ≡ [] → ls ≡ []
no_labels [] e = refl
no_labels (l ∷ ls) e = let none : ⊥ = cc in absurd none

-- nothing is shared, and each node is down, with no INIT that failed
pub record IsFresh (ks : List NodeState) (s : SharedState) : Type 0 where
  pub labels : s.labels ≡ []
  pub wire : s.wire ≡ []
  pub in_use : s.in_use ≡ false
  pub resting : are_resting (map said_node ks) ≡ true

pub fresh : (ks : List NodeState) (s : SharedState) → is_unused (said_together ks s) ≡ true → IsFresh ks s
fresh ks s e = go (map said_label s.labels) refl s.wire refl e
  where
    go : (ls : List SaidLabel) → map said_label s.labels ≡ ls → (ms : List Message) → s.wire ≡ ms →
        ◌≡◌ {A = Bool} (elim ls [ [] ↦ elim ms [ [] ↦ not s.in_use && are_resting (map said_node ks) | m ∷ more ↦ false ] | label ∷ labels ↦ false ]) true → IsFresh ks s
    go [] el [] em f = let h = both (not s.in_use) (are_resting (map said_node ks)) f in record { labels = no_labels s.labels el; wire = em; in_use = was_not s.in_use h.0; resting = h.1 }
    go [] el (m ∷ ms) em f = let none : ⊥ = cc in absurd none
    go (l ∷ ls) el ms em f = let none : ⊥ = cc in absurd none

unset_zero : (logs : List CallLog) (ks : List NodeState) (ns : List Node) → StandAll logs ks ns → are_unset ns ≡ true → AreAtZero ks
unset_zero [] [] [] h e = tt
unset_zero [] [] (n ∷ ns) h e = absurd h
unset_zero [] (k ∷ ks) ns h e = absurd h
unset_zero (log ∷ logs) [] ns h e = absurd h
unset_zero (log ∷ logs) (k ∷ ks) [] h e = absurd h
unset_zero (log ∷ logs) (k ∷ ks) (n ∷ ns) h e =
    let f = both (n.clock == 0) (are_unset ns) e in
    (sym h.0.clock ∙ eqb-true n.clock 0 f.0, unset_zero logs ks ns h.1 f.1)

zero_as : (ks ls : List NodeState) → clocks_of ls ≡ clocks_of ks → AreAtZero ks → AreAtZero ls
zero_as ks [] e h = tt
zero_as [] (l ∷ ls) e h = let none : ⊥ = cc in absurd none
zero_as (k ∷ ks) (l ∷ ls) e h = (ap (λ (xs : List ℕ). elim xs [ [] ↦ 0 | x ∷ more ↦ x ]) e ∙ h.0, zero_as ks ls (ap (λ (xs : List ℕ). elim xs [ [] ↦ [] | x ∷ more ↦ more ]) e) h.1)

stand_told : (names : List (List ℕ)) (ds : List DiskState) (ns : List Node) → DisksRepresent names ds ns → AreTold ds
stand_told [] [] [] h = tt
stand_told [] [] (n ∷ ns) h = absurd h
stand_told [] (d ∷ ds) ns h = absurd h
stand_told (name ∷ names) [] ns h = absurd h
stand_told (name ∷ names) (d ∷ ds) [] h = absurd h
stand_told (name ∷ names) (d ∷ ds) (n ∷ ns) h = (h.0.told, h.0.counted, stand_told names ds ns h.1)

told_on : (olds news : List DiskState) → AllGo olds news → AreTold olds → AreTold news
told_on [] [] g h = tt
told_on [] (new ∷ news) g h = absurd g
told_on (old ∷ olds) [] g h = absurd g
told_on (old ∷ olds) (new ∷ news) g h = (g.0.told ∙ h.0, g.0.counted h.1, told_on olds news g.1 h.2)

-- A node that was not booted, over its disk.

place_first : (name : List ℕ) (clock : ℕ) (p : Place) (n : Node) → is_up p ≡ false → DiskRepresents name (disk_in p) n → AreOpening (n ∷ []) → PlaceRepresents clock p n
place_first name clock (IsDown has_parts d) n down s o = record { down = o.0.down; reserved = λ was. absurd (not_both n.was_up was o.0.was_down); told = s.told; disk = s.has }
place_first name clock (IsRunning r) n down s o = let none : ⊥ = cc in absurd none

abbrev pub logs_of : List DiskState → List CallLog
logs_of ds = map (λ (d : DiskState). d.calls) ds

stand_first : (ks : List NodeState) (ns : List Node) → AreAtZero ks → are_resting (map said_node ks) ≡ true → AreOpening ns → DisksRepresent (kept_names ks) (disks_of ks) ns → StandAll (logs_of (disks_of ks)) ks ns
stand_first [] [] at_zero rest o h = tt
stand_first [] (n ∷ ns) at_zero rest o h = absurd h
stand_first (k ∷ ks) [] at_zero rest o h = absurd h
stand_first (k ∷ ks) (n ∷ ns) at_zero rest o h =
    let f = both (not (is_up k.place)) (not k.unmade && are_resting (map said_node ks)) rest in
    let g = both (not k.unmade) (are_resting (map said_node ks)) f.1 in (
      record {
        name = h.0.name_is;
        blocks = h.0.blocks;
        clock = o.0.clock ∙ sym at_zero.0;
        unmade = o.0.made ∙ sym (was_not k.unmade g.0);
        place = place_first k.name k.clock k.place n (was_not (is_up k.place) f.0) h.0 (o.0, tt);
        calls = ap (λ cs. noted_all cs (disk_in k.place).calls) (sym o.0.calls);
        counts = h.0.counted;
      },
      stand_first ks ns at_zero.1 g.1 o.1 h.1,
    )

pub stands_first : (names : List (List ℕ)) (ks : List NodeState) (s : SharedState) (ns : List Node) → names ≡ kept_names ks → AreAtZero ks → IsFresh ks s → AreOpening ns → DisksRepresent names (disks_of ks) ns →
    StandsTogether (logs_of (disks_of ks)) ks s (opened ns (map counts_of (disks_of ks)))
stands_first names ks s ns named at_zero f o h = record {
  nodes = stand_first ks ns at_zero f.resting o (subst (λ xs. DisksRepresent xs (disks_of ks) ns) named h);
  disks = refl;
  shared = record { labels = sym f.labels; in_use = sym f.in_use; wire = sym f.wire };
}

-- what is said of nodes before a first line
nothing_resting : (names : List (List ℕ)) → are_resting (nothing_said names).nodes ≡ true
nothing_resting [] = refl
nothing_resting (name ∷ names) = nothing_resting names

pub nothing_unused : (names : List (List ℕ)) → is_unused (nothing_said names) ≡ true
nothing_unused names = nothing_resting names

-- A BOOT behind which no node may be in use was asked in a world in which none may be.

line_use : (l : Line) (said : Said) → (line_said l said).shared.in_use ≡ said.shared.in_use
line_use (line.Sent number m) said = refl
line_use (line.Down node cause) said = refl
line_use (line.Crashed node) said = refl
line_use (line.Booted node boot) said = refl
line_use _ said = refl

lines_use : (ls : List Line) (said : Said) → (lines_said ls said).shared.in_use ≡ said.shared.in_use
lines_use [] said = refl
lines_use (l ∷ ls) said = lines_use ls (line_said l said) ∙ line_use l said

answer_use : (node : List ℕ) (answer : Line) (said : Said) → (request_said node Boot answer said).shared.in_use ≡ false → said.shared.in_use ≡ false
answer_use node (line.NormalCount boot) said e = let none : ⊥ = cc in absurd none
answer_use node (line.Broken cause) said e = let none : ⊥ = cc in absurd none
answer_use node _ said e = e

used_before : (node : List ℕ) (lines : List Line) (said : Said) → (said_here (Says (At node Boot)) lines said).shared.in_use ≡ false → said.shared.in_use ≡ false
used_before node lines said e = go (last_or None lines) e
  where
    go : (o : Option Line) → ◌≡◌ {A = Bool} (elim o as (λ x. Said) [ Some answer ↦ answer_said (At node Boot) answer (lines_said lines said) | None ↦ said ]).shared.in_use false → said.shared.in_use ≡ false
    go (Some answer) f = sym (lines_use lines said) ∙ answer_use node answer (lines_said lines said) f
    go None f = f

-- what is so at each place
each_of : (P : Node → Type 0) (ns : List Node) → ((place : ℕ) (n : Node) → slice_get ns place ≡ Some n → P n) → AllByRecursion P ns
each_of P [] h = tt
each_of P (n ∷ ns) h = (h zero n refl, each_of P ns (λ place m e. h (suc place) m e))

-- Between two lines.

-- the kept nodes stand for the world since the last beginning, or the entries lead nowhere
abbrev pub Stays : Beginning → World → List Entry → List NodeState → SharedState → Type 0
Stays last w [] ks s = AllGo last.disks (disks_of ks) × StandsTogether (logs_of last.disks) ks s w
Stays last w (e ∷ es) ks s = LeadsNowhere w (e ∷ es)

-- these entries were served
pub record Way (names : List (List ℕ)) (first : Beginning) (es : List Entry) (ks : List NodeState) (s : SharedState) : Type 0 where
  pub led : List Entry
  pub left_over : List Entry
  pub parts : es ≡ left_over ++ led
  pub last : Beginning
  pub since : List Entry
  pub closing : World
  pub begins : Begins names last
  pub leads : Leads names first led last since closing
  pub stays : Stays last closing left_over ks s

-- and one more, for which these lines were shown
pub record Next (names : List (List ℕ)) (first : Beginning) (source : ScriptLine) (es : List Entry) (a b : Shown) (ks : List NodeState) (s : SharedState) : Type 0 where
  pub lines : List Line
  pub emits : Emits a lines b
  pub way : Way names first (record { source = source; lines = lines } ∷ es) ks s

pub way_first : (names : List (List ℕ)) (ks : List NodeState) (s : SharedState) → said_together ks s ≡ nothing_said names → names ≡ kept_names ks → AreAtZero ks → (nodes : List Node) → AreOpening nodes → DisksRepresent names (disks_of ks) nodes →
    Way names (record { nodes = nodes; disks = disks_of ks }) [] ks s
way_first names ks s unsaid named at_zero nodes o stand = record {
  led = [];
  left_over = [];
  parts = refl;
  last = record { nodes = nodes; disks = disks_of ks };
  since = [];
  closing = opened nodes (map counts_of (disks_of ks));
  begins = record { opening = o; stand = stand };
  leads = (refl, refl, refl);
  stays = (all_stay (disks_of ks), stands_first names ks s nodes named at_zero (fresh ks s (ap is_unused unsaid ∙ nothing_unused names)) o stand);
}

pub way_blank : (names : List (List ℕ)) (first : Beginning) (source : ScriptLine) (es : List Entry) (ks : List NodeState) (s : SharedState) → reading source.text ≡ Blank → Way names first es ks s → Way names first (record { source = source; lines = [] } ∷ es) ks s
way_blank names first source es ks s blank g = go g.left_over g.parts g.stays
  where
    go : (left : List Entry) → es ≡ left ++ g.led → Stays g.last g.closing left ks s → Way names first (record { source = source; lines = [] } ∷ es) ks s
    go [] parts stays = record {
      led = record { source = source; lines = [] } ∷ g.led;
      left_over = [];
      parts = ap (λ (xs : List Entry). record { source = source; lines = [] } ∷ xs) parts;
      last = g.last;
      since = record { source = source; lines = [] } ∷ g.since;
      closing = g.closing;
      begins = g.begins;
      leads = (refl, g.closing, g.leads, subst (λ r. Turn g.closing r [] g.closing) (sym blank) (refl, refl));
      stays = stays;
    }
    go (x ∷ xs) parts stays = record {
      led = g.led;
      left_over = record { source = source; lines = [] } ∷ x ∷ xs;
      parts = ap (λ (ys : List Entry). record { source = source; lines = [] } ∷ ys) parts;
      last = g.last;
      since = g.since;
      closing = g.closing;
      begins = g.begins;
      leads = g.leads;
      stays = stays;
    }

-- The entries since the last beginning are legal.
pub since_legal : (names : List (List ℕ)) (first last : Beginning) (es since : List Entry) (w : World) → Leads names first es last since w → Legal (world_at last) since w
since_legal names first last [] since w h = subst (λ xs. Legal (world_at last) xs w) (sym h.1) (h.2 ∙ ap (λ (x : Beginning). world_at x) (sym h.0))
since_legal names first last (e ∷ es) [] w h = h.5
since_legal names first last (e ∷ es) (latest ∷ since) w h = subst (λ (x : Entry). Legal (world_at last) (x ∷ since) w) (sym h.0) (h.1, since_legal names first last es since h.1 h.2, h.3)

-- and they begin with nodes as before a first line
pub last_begins : (names : List (List ℕ)) (first last : Beginning) (es since : List Entry) (w : World) → AreOpening first.nodes → Leads names first es last since w → AreOpening last.nodes
last_begins names first last [] since w o h = subst (λ (x : Beginning). AreOpening x.nodes) (sym h.0) o
last_begins names first last (e ∷ es) [] w o h = h.4.begins.opening
last_begins names first last (e ∷ es) (latest ∷ since) w o h = last_begins names first last es since h.1 o h.2

-- A statement was served.
module _ (law : NodesAreKept) (names : List (List ℕ)) (apart : AreApart names) (first : Beginning) (source : ScriptLine) (es : List Entry) (ks ls : List NodeState) (s after : SharedState) (same : names ≡ kept_names ks) (named : names ≡ kept_names ls) (g : Way names first es ks s) (statement : Statement)
    (says : reading source.text ≡ Says statement) (a b : Shown) (serves : (logs : List CallLog) (w : World) → StandsTogether logs ks s w → AllKept w.shared w.nodes → (BootsUnknown w statement → ⊥) → ServesTogether logs w statement a b ls after)
    (answers : AnswersTogether names statement a b ks s ls after) (fine : (ds : List DiskState) (w : World) → StandsTogether (logs_of ds) ks s w → Leaves ds w (disks_of ks)) (clocks : (node : List ℕ) → statement ≡ At node Boot → clocks_of ls ≡ clocks_of ks) where
  abbrev answered : Entry
  answered = record { source = source; lines = answers.lines }

  abbrev Led : Type 0
  Led = Stays g.last g.closing [] ks s

  apart_kept : AreApart (kept_names ks)
  apart_kept = subst AreApart same apart

  goes : AllGo (disks_of ks) (disks_of ls)
  goes = tells_go names (said_together ks s) statement answers.lines (disks_of ks) (disks_of ls) answers.tells

  differ : Led → NamesApart g.closing.nodes
  differ stays = world_apart (logs_of g.last.disks) ks s g.closing stays.1 apart_kept

  kept : Led → AllKept g.closing.shared g.closing.nodes
  kept stays = all_kept g.closing.shared g.closing.nodes (differ stays) (law g.last.nodes (map counts_of g.last.disks) g.since g.closing g.begins.opening (since_legal names first g.last g.led g.since g.closing g.leads))

  -- it is a step of the world
  step_on : es ≡ g.led → Led → (BootsUnknown g.closing statement → ⊥) → Next names first source es a b ls after
  step_on parts stays never =
      let v = serves (logs_of g.last.disks) g.closing stays.1 (kept stays) never in
      let e : Entry = record { source = source; lines = v.lines } in
      record {
        lines = v.lines;
        emits = v.emits;
        way = record {
          led = e ∷ g.led;
          left_over = [];
          parts = ap (λ (xs : List Entry). e ∷ xs) parts;
          last = g.last;
          since = e ∷ g.since;
          closing = v.world;
          begins = g.begins;
          leads = (refl, g.closing, g.leads, subst (λ r. Turn g.closing r v.lines v.world) (sym says) v.step);
          stays = (go_on g.last.disks (disks_of ks) (disks_of ls) stays.0 goes, v.stands);
        };
      }

  module _ (parts : es ≡ g.led) (stays : Led) (boots : BootsUnknown g.closing statement) where
    -- what was said before
    said_is : said_together ks s ≡ said_world g.closing
    said_is = together_said (logs_of g.last.disks) ks s g.closing stays.1

    abbrev is : (unused : Bool) → is_unused_behind g.closing statement answers.lines ≡ unused → IsUnknown g.closing answered unused
    is unused e = record { statement = statement; says = says; boots = boots; follows = subst (λ (x : Said). LineFollows x (Says statement) answers.lines) said_is answers.follows; leaves = e }

    -- nodes are not unused behind it
    step_out : is_unused_behind g.closing statement answers.lines ≡ false → Next names first source es a b ls after
    step_out e = record {
      lines = answers.lines;
      emits = answers.emits;
      way = record { led = g.led; left_over = answered ∷ []; parts = ap (λ (xs : List Entry). answered ∷ xs) parts; last = g.last; since = g.since; closing = g.closing; begins = g.begins; leads = g.leads; stays = is false e };
    }

    -- what is said behind it
    behind : said_together ls after ≡ said_here (Says statement) answers.lines (said_world g.closing)
    behind = answers.says ∙ ap (said_here (Says statement) answers.lines) said_is

    -- the nodes again: those of whose disks something is known
    abbrev again : Beginning
    again = record { nodes = renewed g.closing.nodes ls; disks = disks_of ls }

    gone : AllGo g.last.disks (disks_of ls)
    gone = go_on g.last.disks (disks_of ks) (disks_of ls) stays.0 goes

    tells_said : DisksFollowLine names (said_world g.closing) (Says statement) answers.lines (disks_of ks) (disks_of ls)
    tells_said = subst (λ (x : Said). DisksFollowLine names x (Says statement) answers.lines (disks_of ks) (disks_of ls)) said_is answers.tells

    -- a node of whose disk something is known is not booted
    known_other : (node : List ℕ) → statement ≡ At node Boot → (place : ℕ) (n : Node) → slice_get g.closing.nodes place ≡ Some n → is_known n.durable.volume ≡ true → bytes_eq n.name node ≡ false
    known_other node boot place n at known = by (bytes_eq n.name node) refl
      where
        booted : BootsUnknown g.closing (At node Boot)
        booted = subst (BootsUnknown g.closing) boot boots

        by : (b : Bool) → bytes_eq n.name node ≡ b → bytes_eq n.name node ≡ false
        by false is = is
        by true is =
            let there = find_at g.closing.nodes place n (differ stays) at in
            let same : booted.0 ≡ n = some_is booted.0 n (sym booted.1 ∙ subst (λ (x : List ℕ). find_node x g.closing.nodes ≡ Some n) ((bytes_eq-Decides n.name node).0 is) there) in
            let no : false ≡ true = ap is_known (sym booted.2.unknown) ∙ ap (λ (x : Node). is_known x.durable.volume) same ∙ known in
            let none : ⊥ = cc in
            absurd none

    -- the boot was refused
    module _ (node : List ℕ) (boot : statement ≡ At node Boot) (e : is_unused_behind g.closing statement answers.lines ≡ true) where
      f : (is_unused (said_here (Says statement) answers.lines (said_world g.closing)) ≡ true) × (are_unset g.closing.nodes ≡ true)
      f = both (is_unused (said_here (Says statement) answers.lines (said_world g.closing))) (are_unset g.closing.nodes)
          (subst (λ (x : Statement). is_unused_behind g.closing x answers.lines ≡ true → (is_unused (said_here (Says x) answers.lines (said_world g.closing)) && are_unset g.closing.nodes) ≡ true) (sym boot) (λ y. y) e)

      unused : IsFresh ls after
      unused = fresh ls after (ap is_unused behind ∙ f.0)

      off : g.closing.shared.in_use ≡ false
      off = used_before node answers.lines (said_world g.closing) (subst (λ (x : Statement). (said_here (Says x) answers.lines (said_world g.closing)).shared.in_use ≡ false) boot (ap (λ (x : Said). x.shared.in_use) (sym behind) ∙ unused.in_use))

      each_fresh : (place : ℕ) (n : Node) → slice_get g.closing.nodes place ≡ Some n → free.IsFresh n
      each_fresh place n at = unused_fresh g.last.nodes (map counts_of g.last.disks) g.since g.closing g.begins.opening (since_legal names first g.last g.led g.since g.closing g.leads) off n.name n (find_at g.closing.nodes place n (differ stays) at)

      again_stand : DisksRepresent (kept_names ls) (disks_of ls) (renewed g.closing.nodes ls) × KeepKnown g.closing.nodes (renewed g.closing.nodes ls)
      again_stand = renewed_stand node (said_world g.closing) answers.lines (logs_of g.last.disks) ks ls g.closing.nodes stays.1.nodes
          (subst (λ (x : Statement). DisksFollowLine (kept_names ks) (said_world g.closing) (Says x) answers.lines (disks_of ks) (disks_of ls)) boot (subst (λ xs. DisksFollowLine xs (said_world g.closing) (Says statement) answers.lines (disks_of ks) (disks_of ls)) same tells_said))
          (sym named ∙ same) (each_of free.IsFresh g.closing.nodes each_fresh) (each_of (λ (n : Node). is_known n.durable.volume ≡ true → bytes_eq n.name node ≡ false) g.closing.nodes (known_other node boot))
          (told_on g.last.disks (disks_of ls) gone (stand_told names g.last.disks g.last.nodes g.begins.stand))

      begins_again : Begins names again
      begins_again = record {
        opening = renewed_opening g.closing.nodes ls (each_of free.IsFresh g.closing.nodes each_fresh);
        stand = subst (λ xs. DisksRepresent xs (disks_of ls) (renewed g.closing.nodes ls)) (sym named) again_stand.0;
      }

      step_anew : Next names first source es a b ls after
      step_anew =
          let at_zero = zero_as ks ls (clocks node boot) (unset_zero (logs_of g.last.disks) ks g.closing.nodes stays.1.nodes f.1) in
          record {
            lines = answers.lines;
            emits = answers.emits;
            way = record {
              led = answered ∷ g.led;
              left_over = [];
              parts = ap (λ (xs : List Entry). answered ∷ xs) parts;
              last = again;
              since = [];
              closing = world_at again;
              begins = begins_again;
              leads = (
                g.last,
                g.since,
                g.closing,
                g.leads,
                record { unknown = is true e; disks = disks_of ks; leaves = fine g.last.disks g.closing stays.1; tells = tells_said; goes = gone; begins = begins_again; keeps = again_stand.1 },
                refl,
              );
              stays = (all_stay (disks_of ls), stands_first names ls after (renewed g.closing.nodes ls) named at_zero unused begins_again.opening begins_again.stand);
            };
          }

    request_beyond : (name : List ℕ) (r : Request) → statement ≡ At name r → BootsUnknown g.closing (At name r) → Next names first source es a b ls after
    request_beyond name Boot is u = by (is_unused_behind g.closing statement answers.lines) refl
      where
        by : (unused : Bool) → is_unused_behind g.closing statement answers.lines ≡ unused → Next names first source es a b ls after
        by true e = step_anew name is e
        by false e = step_out e
    request_beyond name _ is u = absurd u

    step_beyond : (x : Statement) → statement ≡ x → BootsUnknown g.closing x → Next names first source es a b ls after
    step_beyond (At name r) same u = request_beyond name r same u
    step_beyond (Deliver number) same u = absurd u
    step_beyond (LinkDown x y) same u = absurd u
    step_beyond Settle same u = step_out (ap (λ (x : Statement). is_unused_behind g.closing x answers.lines) same)

  pub way_next : Next names first source es a b ls after
  way_next = go g.left_over g.parts g.stays
    where
      go : (left : List Entry) → es ≡ left ++ g.led → Stays g.last g.closing left ks s → Next names first source es a b ls after
      go [] parts stays = elim (boots_unknown g.closing (differ stays) statement) [ inl boots ↦ step_beyond parts stays boots statement refl boots | inr never ↦ step_on parts stays never ]
      go (x ∷ xs) parts stays = record {
        lines = answers.lines;
        emits = answers.emits;
        way = record { led = g.led; left_over = answered ∷ x ∷ xs; parts = ap (λ (ys : List Entry). answered ∷ ys) parts; last = g.last; since = g.since; closing = g.closing; begins = g.begins; leads = g.leads; stays = stays };
      }

-- A run that ended.
pub runs_from : (names : List (List ℕ)) (first : Beginning) (es : List Entry) (ks : List NodeState) (s : SharedState) (script : Option (List ScriptLine)) (old new : Option (List ℕ)) (ended : Exit) → Way names first es ks s → EndsWith es script old new (exit_of ended) →
    ((ds : List DiskState) (w : World) → StandsTogether (logs_of ds) ks s w → Leaves ds w (disks_of ks)) → RunsFrom names first script old new ended (disks_of ks)
runs_from names first es ks s script old new ended g e leaves = record {
  led = g.led;
  left_over = g.left_over;
  last = g.last;
  since = g.since;
  closing = g.closing;
  leads = g.leads;
  leaves = go g.left_over g.stays;
  in_limits = subst AreInLimits g.parts e.in_limits;
  added = e.added;
  shows = e.shows;
  ends = subst (λ xs. Ends (exit_of ended) script xs e.added) g.parts e.ends;
}
  where
    go : (left : List Entry) → Stays g.last g.closing left ks s → LeavesOver g.last g.closing left (disks_of ks)
    go [] stays = leaves g.last.disks g.closing stays.1
    go (x ∷ xs) stays = stays
