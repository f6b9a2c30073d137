-- A day in the world, line after line.
use Rattle.std.proofs.Common.{◌≡◌, ◌⊎◌, inl, inr, ℕ, ◌^◌, ◌<◌, ◌≤◌, List, [], ◌∷◌, ◌++◌, ◌||◌, Bool, true, false, Some, None, map, length, refl, sym, ◌∙◌, ap, subst, codes, arith}
use Rattle.std.specs.List.{last_or}
use Rattle.block_disk.specs.Disk.{CallLog}
use Rattle.emitter_model.specs.transcript_model.Lines.{Normal}
use Rattle.emitter_model.specs.Emitting.{Shown}
use Rattle.emitter_model.specs.Tally.{Tally, tallied_by}
use Rattle.script_lang.specs.script_model.Statements.{At, Boot, Deliver, Init, LinkDown, Request, Says, Settle, Statement}
use Rattle.script_lang.specs.script_model.Grammar.{reading}
use Rattle.run_laws.specs.run_agreement.Laws.{NamesApart}
use Rattle.run_laws.specs.Anew.{Makes}
use Rattle.world_laws.specs.run_model.World.{DiskCounts, Node, World, find_node, opened}
use Rattle.world_laws.specs.run_model.Statements.{Step}
use Rattle.world_laws.specs.run_model.Transcript.{AreOpening, Entry, Legal, Turn}
use Rattle.run_shared.specs.Sharing.{SharedState}
use Rattle.world_laws.specs.Nodes.{NodesAreKept}
use Rattle.run_nodes.specs.statement_steps.Doing.{AllKept}
use Rattle.run_nodes.proofs.statement_steps.Keeping.{all_kept}
use Rattle.run_nodes.specs.node_standing.Standing.{NodeState}
use Rattle.run_nodes.specs.Names.{AreApart}
use Rattle.run_nodes.specs.Together.{ServesTogether, StandsTogether, disks_of}
use Rattle.run_nodes.specs.Told.{kept_names}
use Rattle.run_nodes.specs.Untold.{BootsUnknown, IsUntold}
use Rattle.run_nodes.proofs.Places.{names_same, world_apart}
use Rattle.day_model.specs.Pieces.{Piece, Words, day, words_of, written}
use Rattle.day_model.specs.Days.{DayReached, counted, is_broken, is_refused, stops, tally_of}
use Rattle.day_model.specs.Readings.{MakesOnce, makes_volume}
use Rattle.day_run.specs.Serving.{AreLarge, BothMade, DayServed, MakesNone}
use Rattle.day_tally.specs.declared.counts.Ended.TheVariants as ended
use Rattle.day_run.proofs.Known.{KnownAt, turn_known}
use Rattle.day_run.proofs.Making.{IsIn, Made, both_known, found_large, found_of, made}
use Rattle.day_run.proofs.Going.{counted_on, first_piece, goes_on, left_speaks, second_piece, stops_here, tally_on}

-- What is known of the disks behind these entries: no volume is in use before both are made, and then both are known.
abbrev pub Ready : List Entry → World → Type 0
Ready [] w = w.shared.in_use ≡ false
Ready (e ∷ []) w = (w.shared.in_use ≡ false) × KnownAt (codes "A") w × Makes (codes "A") e
Ready (e ∷ f ∷ es) w = ((name : List ℕ) → KnownAt name w) × BothMade (e ∷ f ∷ es)

-- between two lines: these entries were legal so far, and this is counted of their lines
pub record Serving (logs : List CallLog) (opening : World) (count start : ℕ) (left : List Piece) (t : Tally) (counts : List ℕ) (ks : List NodeState) (s : SharedState) : Type 0 where
  pub entries : List Entry
  pub closing : World
  pub legal : Legal opening entries closing
  pub stands : StandsTogether logs ks s closing
  pub ready : Ready entries closing
  pub tallied : t ≡ tally_of entries
  pub goes : DayReached (day count start) entries left counts

pub serving_first : (logs : List CallLog) (first : List Node) (disks : List DiskCounts) (count start : ℕ) (left : List Piece) (t : Tally) (counts : List ℕ) (ks : List NodeState) (s : SharedState) → left ≡ day count start → t ≡ tally_of [] → counts ≡ [] → StandsTogether logs ks s (opened first disks) →
    Serving logs (opened first disks) count start left t counts ks s
serving_first logs first disks count start left t counts ks s all none empty stands = record { entries = []; closing = opened first disks; legal = refl; stands = stands; ready = refl; tallied = none; goes = (all, empty) }

says_is : (s t : Statement) → Says s ≡ Says t → s ≡ t
says_is s t e = cc

-- what the line of an INIT says
makes_it : (node text : List ℕ) (sent : ℕ) (p : Piece) (s : Statement) → reading text ≡ Says (At node (Init 128 1024)) → p ≡ Words text → reading (words_of sent p) ≡ Says s → s ≡ At node (Init 128 1024)
makes_it node text sent p s is e says = says_is s (At node (Init 128 1024)) (sym says ∙ ap (λ (x : Piece). reading (words_of sent x)) e ∙ is)

-- where all nodes are known none is booted of which nothing is
all_known : (w : World) (s : Statement) → ((name : List ℕ) → KnownAt name w) → BootsUnknown w s → ⊥
all_known w s known = by s
  where
    never : (name : List ℕ) (n : Node) → find_node name w.nodes ≡ Some n → IsUntold n → ⊥
    never name n found u = let no : true ≡ false = sym (known name n found u.unknown) ∙ u.made in let none : ⊥ = cc in none

    request : (name : List ℕ) (r : Request) → BootsUnknown w (At name r) → ⊥
    request name Boot b = never name b.0 b.1 b.2
    request name _ b = b

    by : (x : Statement) → BootsUnknown w x → ⊥
    by (At name r) b = request name r b
    by (Deliver number) b = b
    by (LinkDown x y) b = b
    by Settle b = never b.0 b.1 b.2 b.3

-- One line more.
module _ (law : NodesAreKept) (names : List (List ℕ)) (apart : AreApart names) (a_and_b : names ≡ codes "A" ∷ (codes "B" ∷ [])) (logs : List CallLog) (first : List Node) (disks : List DiskCounts) (opening : AreOpening first) (count start : ℕ) (p : Piece) (left : List Piece) (t u : Tally) (counts : List ℕ) (ks ls : List NodeState) (s after : SharedState)
    (same : names ≡ kept_names ks) (named : names ≡ kept_names ls) (large : AreLarge (disks_of ks)) (once : MakesOnce count start) (small : t.sent < 2 ^ 32) (g : Serving logs (opened first disks) count start (p ∷ left) t counts ks s) (statement : Statement) (says : reading (words_of t.sent p) ≡ Says statement) (a b : Shown) (at : a.tally ≡ Some t) (bt : b.tally ≡ Some u)
    (serves : (before : List CallLog) (w : World) → StandsTogether before ks s w → AllKept w.shared w.nodes → (BootsUnknown w statement → ⊥) → ServesTogether before w statement a b ls after) where
  differ : NamesApart g.closing.nodes
  differ = world_apart logs ks s g.closing g.stands (subst AreApart same apart)

  kept : AllKept g.closing.shared g.closing.nodes
  kept = all_kept g.closing.shared g.closing.nodes differ (law first disks g.entries g.closing opening g.legal)

  -- the first two lines make the volumes
  is_first : DayReached (day count start) [] (p ∷ left) counts → statement ≡ At (codes "A") (Init 128 1024)
  is_first goes = makes_it (codes "A") (codes "A: INIT") t.sent p statement once.first (first_piece (day count start) (Words (codes "A: INIT")) (Words (codes "B: INIT")) once.rest once.parts p left counts goes) says

  is_second : (e : Entry) → DayReached (day count start) (e ∷ []) (p ∷ left) counts → statement ≡ At (codes "B") (Init 128 1024)
  is_second e goes = makes_it (codes "B") (codes "B: INIT") t.sent p statement once.second (second_piece (day count start) (Words (codes "A: INIT")) (Words (codes "B: INIT")) once.rest once.parts e p left counts goes) says

  -- and the others none
  is_later : (e f : Entry) (es : List Entry) → DayReached (day count start) (e ∷ f ∷ es) (p ∷ left) counts → makes_volume statement ≡ false
  is_later e f es goes =
      let said = (left_speaks (day count start) (Words (codes "A: INIT")) (Words (codes "B: INIT")) once.rest once.parts e f es (p ∷ left) counts once.later goes).0 t.sent small in
      ap makes_volume (says_is statement said.0 (sym says ∙ said.1)) ∙ said.2

  never : BootsUnknown g.closing statement → ⊥
  never = by g.entries g.goes g.ready
    where
      by : (es : List Entry) → DayReached (day count start) es (p ∷ left) counts → Ready es g.closing → BootsUnknown g.closing statement → ⊥
      by [] goes ready = subst (λ (x : Statement). BootsUnknown g.closing x → ⊥) (sym (is_first goes)) (λ x. x)
      by (e ∷ []) goes ready = subst (λ (x : Statement). BootsUnknown g.closing x → ⊥) (sym (is_second e goes)) (λ x. x)
      by (e ∷ f ∷ es) goes ready = all_known g.closing statement ready.0

  served : ServesTogether logs g.closing statement a b ls after
  served = serves logs g.closing g.stands kept never

  abbrev entry : Entry
  entry = record { source = written t.sent p; lines = served.lines }

  count_is : u ≡ tallied_by entry.lines t
  count_is = tally_on a b served.lines t u served.emits at bt

  legal : Legal (opened first disks) (entry ∷ g.entries) served.world
  legal = (g.closing, g.legal, subst (λ r. Turn g.closing r served.lines served.world) (sym says) served.step)

  -- an INIT that was answered so made its volume
  makes_at : (node : List ℕ) → statement ≡ At node (Init 128 1024) → last_or None served.lines ≡ Some Normal → Makes node entry
  makes_at node is answered = record { slots = 128; journal = 1024; says = says ∙ ap Says is; answered = answered }

  makes_none : (e f : Entry) (es : List Entry) → DayReached (day count start) (e ∷ f ∷ es) (p ∷ left) counts → MakesNone entry
  makes_none e f es goes = (statement, says, is_later e f es goes)

  -- what was made behind this line, where it ends the day
  made_or_few : BothMade (entry ∷ g.entries) ⊎ (length (entry ∷ g.entries) ≤ 2)
  made_or_few = by g.entries g.goes g.ready
    where
      by : (es : List Entry) → DayReached (day count start) es (p ∷ left) counts → Ready es g.closing → BothMade (entry ∷ es) ⊎ (length (entry ∷ es) ≤ 2)
      by [] goes ready = inr (omega arith)
      by (e ∷ []) goes ready = inr (omega arith)
      by (e ∷ f ∷ es) goes ready = inl (makes_none e f es goes, ready.1)

  -- the line ended the day
  pub serving_stops : stops p u.last ≡ true → (more : List ℕ) → DayServed logs (opened first disks) count start u ended.Stopped more ls after
  serving_stops stop more = record {
    entries = entry ∷ g.entries;
    closing = served.world;
    legal = legal;
    stands = served.stands;
    counted = counted_on (day count start) left p g.entries counts t u g.goes g.tallied entry refl count_is;
    ends = stops_here (day count start) left p g.entries counts t u g.goes g.tallied entry refl count_is stop;
    made = made_or_few;
  }

  module _ (stop : stops p u.last ≡ false) where
    names_then : map (λ (n : Node). n.name) served.world.nodes ≡ codes "A" ∷ (codes "B" ∷ [])
    names_then = names_same logs ls served.world.nodes served.stands.nodes ∙ sym named ∙ a_and_b

    names_now : map (λ (n : Node). n.name) g.closing.nodes ≡ codes "A" ∷ (codes "B" ∷ [])
    names_now = names_same logs ks g.closing.nodes g.stands.nodes ∙ sym same ∙ a_and_b

    not_broken : (x y : Bool) → (x || y) ≡ false → x ≡ false
    not_broken false y e = refl
    not_broken true y e = let none : ⊥ = cc in absurd none

    going : is_broken (tallied_by served.lines t).last ≡ false
    going = ap (λ (x : Tally). is_broken x.last) (sym count_is) ∙ not_broken (is_broken u.last) (is_refused p u.last) stop

    -- an INIT of one of both made its volume
    made_at : (node : List ℕ) → IsIn node (codes "A" ∷ (codes "B" ∷ [])) → statement ≡ At node (Init 128 1024) → g.closing.shared.in_use ≡ false → Made node served.lines served.world
    made_at node there is unused =
        let n = found_of node g.closing.nodes (subst (IsIn node) (sym names_now) there) in
        made g.closing served.world node n.0 served.lines t (subst (λ (x : Statement). Step g.closing x served.lines served.world) is served.step) unused n.1 (found_large logs ks g.closing.nodes g.stands.nodes large node n.0 n.1) going

    turned : (name : List ℕ) → KnownAt name g.closing → KnownAt name served.world
    turned name known = turn_known name g.closing served.world (Says statement) served.lines served.step known

    ready : Ready (entry ∷ g.entries) served.world
    ready = by g.entries g.goes g.ready
      where
        by : (es : List Entry) → DayReached (day count start) es (p ∷ left) counts → Ready es g.closing → Ready (entry ∷ es) served.world
        by [] goes now =
            let m = made_at (codes "A") (inl refl) (is_first goes) now in
            (m.unused, m.known, makes_at (codes "A") (is_first goes) m.answered)
        by (e ∷ []) goes now =
            let m = made_at (codes "B") (inr (inl refl)) (is_second e goes) now.0 in
            (both_known served.world (codes "A") (codes "B") names_then (turned (codes "A") now.1) m.known, (makes_at (codes "B") (is_second e goes) m.answered, now.2))
        by (e ∷ f ∷ es) goes now = ((λ name. turned name (now.0 name)), (makes_none e f es goes, now.1))

    pub serving_on : (more : List ℕ) → more ≡ counts ++ counted p u.last → Serving logs (opened first disks) count start left u more ls after
    serving_on more is = record {
      entries = entry ∷ g.entries;
      closing = served.world;
      legal = legal;
      stands = served.stands;
      ready = ready;
      tallied = counted_on (day count start) left p g.entries counts t u g.goes g.tallied entry refl count_is;
      goes = goes_on (day count start) left p g.entries counts t u g.goes g.tallied entry refl count_is more stop is;
    }

-- All lines were served.
pub serving_whole : (logs : List CallLog) (opening : World) (count start : ℕ) (left : List Piece) (t : Tally) (counts : List ℕ) (ks : List NodeState) (s : SharedState) → left ≡ [] → Serving logs opening count start left t counts ks s → DayServed logs opening count start t ended.Whole counts ks s
serving_whole logs opening count start left t counts ks s none g = record {
  made = by g.entries g.ready;
  entries = g.entries;
  closing = g.closing;
  legal = g.legal;
  stands = g.stands;
  counted = g.tallied;
  ends = subst (λ ps. DayReached (day count start) g.entries ps counts) none g.goes;
}
  where
    by : (es : List Entry) → Ready es g.closing → BothMade es ⊎ (length es ≤ 2)
    by [] ready = inr (omega arith)
    by (e ∷ []) ready = inr (omega arith)
    by (e ∷ f ∷ es) ready = inl ready.1
