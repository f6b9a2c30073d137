-- A day over the nodes of a rack: from how it was served to what its run promises.
use Rattle.std.proofs.Common.{◌≡◌, ◌⊎◌, inl, inr, ◌++◌, ℕ, List, [], ◌∷◌, Bool, true, false, Option, map, codes, sym, ◌∙◌, ap, subst}
use Rattle.block_disk.specs.Disk.{DiskState}
use Rattle.transcript_model.specs.Lines.{Line}
use Rattle.emitter_model.specs.Emitting.{Adds, Puts, Shown}
use Rattle.emitter_model.specs.Tally.{Tally}
use Rattle.script_model.specs.Statements.{Bad, Blank, Reading, Says}
use Rattle.script_model.specs.Grammar.{reading}
use Rattle.world_laws.specs.run_model.World.{Node, opened}
use Rattle.world_laws.specs.run_model.Transcript.{AreOpening, Entry}
use Rattle.run_laws.specs.Laws.{AgreedPromisesAreKept, PromisesAreKept}
use Rattle.manager_laws.specs.Promises.{ManagerPromisesHold}
use Rattle.run_laws.specs.run_said.Said.{Said, said_of}
use Rattle.day_run.specs.run_shared.Sharing.{SharedState}
use Rattle.day_run.specs.node_standing.Standing.{NodeState, counts_of}
use Rattle.day_run.specs.node_standing.Telling.{DiskAdvancesOverCalls}
use Rattle.day_run.specs.run_nodes.Calls.{DisksFollowLine}
use Rattle.day_run.specs.run_nodes.Names.{AreApart}
use Rattle.day_run.proofs.run_nodes.Telling.{passes_same}
use Rattle.day_script.specs.day_model.Command.{Asked}
use Rattle.day_script.specs.day_model.Pieces.{day, dumps}
use Rattle.day_script.specs.day_model.Days.{DayEnds, answer_text, summary, tally_of}
use Rattle.day_tally.specs.Ends.{end_text}
use Rattle.day_tally.specs.declared.counts.Ended.{Ended}
use Rattle.day_tally.specs.declared.counts.Ended.TheVariants as ended
use Rattle.day_run.specs.Serving.{AreLarge, DayServed, DayTells, EndsSo}
use Rattle.day_run.specs.Tells.{EntriesTell}
use Rattle.dtm_run.specs.Days.{DayRan, DayTold, EndsDay}
use Rattle.dtm_run.specs.Headline.{AllGo, DisksRepresent, Leaves}
use Rattle.dtm_run.specs.Racks.{AreSized}
use Rattle.dtm_run.specs.declared.top.Exit.{Exit}
use Rattle.dtm_run.specs.declared.top.Exit.TheVariants as exit
use Rattle.dtm_run.proofs.Leading.{all_stay, go_on, logs_of, tells_go}
use Rattle.dtm_run.proofs.Agreeing.{day_agrees}
use Rattle.dtm_run.proofs.TopLemmas.{stand_apart, stand_names}

-- The disks of a rack are large enough for a day.
pub large_of : (ds : List DiskState) → AreSized ds → AreLarge ds
large_of [] h = tt
large_of (d ∷ ds) h = (h.0, large_of ds h.2)

-- The text that was written is that of how the day ended.
pub day_ends : (count start : ℕ) (es : List Entry) (t : Tally) (how : Ended) (counts : List ℕ) → t ≡ tally_of es → EndsSo (day count start) es how counts → DayEnds count start es (end_text count t how counts)
day_ends count start es t ended.Whole counts same goes = inl (counts, goes, ap (λ (x : Tally). summary count x.committed dumps counts) same)
day_ends count start es t ended.Stopped counts same stops = inr (stops, ap (λ (x : Tally). answer_text x.last) same)

-- it was written whole, or where a write failed a front of it

adds_all : (a b : Bool) (text added : List ℕ) → Adds a b text added → a ≡ false → b ≡ false → added ≡ text
adds_all false false text added h e f = h
adds_all false true text added h e f = let none : ⊥ = cc in absurd none
adds_all true b text added h e f = let none : ⊥ = cc in absurd none

adds_cut : (a b : Bool) (text added : List ℕ) → Adds a b text added → a ≡ false → b ≡ true → (rest : List ℕ) × (text ≡ added ++ rest)
adds_cut false true text added h e f = h
adds_cut false false text added h e f = let none : ⊥ = cc in absurd none
adds_cut true b text added h e f = let none : ⊥ = cc in absurd none

pub puts_all : (a b : Shown) (text : List ℕ) (p : Puts a text b) → a.failed ≡ false → b.failed ≡ false → EndsDay exit.Done text p.added
puts_all a b text p e f = adds_all a.failed b.failed text p.added p.adds e f

pub puts_cut : (a b : Shown) (text : List ℕ) (p : Puts a text b) → a.failed ≡ false → b.failed ≡ true → EndsDay exit.WriteFault text p.added
puts_cut a b text p e f = adds_cut a.failed b.failed text p.added p.adds e f

-- What a day promises over its nodes.

abbrev pub DayOver : (names : List (List ℕ)) (before after : List DiskState) (count start : ℕ) (old new : Option (List ℕ)) → Exit → Type 0
DayOver names before after count start old new x = (nodes : List Node) → AreOpening nodes → DisksRepresent names before nodes → (x ≡ exit.Memory) ⊎ DayRan nodes before after count start old new x

pub day_ran : (names : List (List ℕ)) (nodes : List Node) (before after : List DiskState) (count start : ℕ) (t : Tally) (how : Ended) (counts : List ℕ) (ks : List NodeState) (s : SharedState) (a b : Shown) (x : Exit) → PromisesAreKept × ManagerPromisesHold → AgreedPromisesAreKept → AreApart names → names ≡ codes "A" ∷ (codes "B" ∷ []) → AreOpening nodes →
    DisksRepresent names before nodes → (d : DayServed (logs_of before) (opened nodes (map counts_of before)) count start t how counts ks s) → Leaves before d.closing after → (p : Puts a (end_text count t how counts) b) → EndsDay x (end_text count t how counts) p.added →
    DayRan nodes before after count start a.text b.text x
day_ran names nodes before after count start t how counts ks s a b x law agreed apart a_and_b opening stand d leaves p ends = record {
  entries = d.entries;
  closing = d.closing;
  legal = d.legal;
  leaves = leaves;
  promises = law.0 nodes (map counts_of before) d.entries d.closing opening d.legal;
  managers = law.1 nodes (map counts_of before) d.entries d.closing opening d.legal;
  agreed = elim d.made [
    | inl both ↦
        let agrees = day_agrees nodes d.entries both (sym (stand_names names before nodes stand) ∙ a_and_b) in
        inl (agreed nodes (map counts_of before) d.entries d.closing opening (stand_apart names before nodes apart stand) agrees.0 agrees.1 d.legal)
    | inr few ↦ inr few
  ];
  text = end_text count t how counts;
  day = day_ends count start d.entries t how counts d.counted d.ends;
  added = p.added;
  shows = p.shows;
  ends = ends;
}

pub day_told : (names : List (List ℕ)) (before after : List DiskState) (count start : ℕ) (t : Tally) (how : Ended) (counts : List ℕ) (a b : Shown) (x : Exit) → (d : DayTells names before after count start t how counts) → (p : Puts a (end_text count t how counts) b) → EndsDay x (end_text count t how counts) p.added →
    DayTold names before after count start a.text b.text x
day_told names before after count start t how counts a b x d p ends = record {
  entries = d.entries;
  tell = d.tell;
  text = end_text count t how counts;
  day = day_ends count start d.entries t how counts d.counted d.ends;
  added = p.added;
  shows = p.shows;
  ends = ends;
}

-- under the names and with the disks of a rack

pub day_in : (names names' : List (List ℕ)) (before before' after after' : List DiskState) (count start : ℕ) (old new : Option (List ℕ)) (x : Exit) → names ≡ names' → before ≡ before' → after' ≡ after → DayOver names before after count start old new x → DayOver names' before' after' count start old new x
day_in names names' before before' after after' count start old new x e f k r =
    subst (λ ns. DayOver ns before' after' count start old new x) e (subst (λ ds. DayOver names ds after' count start old new x) f (subst (λ ds. DayOver names before ds count start old new x) (sym k) r))

pub told_in : (names names' : List (List ℕ)) (before before' after after' : List DiskState) (count start : ℕ) (old new : Option (List ℕ)) (x : Exit) → names ≡ names' → before ≡ before' → after' ≡ after → DayTold names before after count start old new x → DayTold names' before' after' count start old new x
told_in names names' before before' after after' count start old new x e f k r =
    subst (λ ns. DayTold ns before' after' count start old new x) e (subst (λ ds. DayTold names ds after' count start old new x) f (subst (λ ds. DayTold names before ds count start old new x) (sym k) r))

-- what the sink showed under other names

day_as : (nodes : List Node) (before after : List DiskState) (count start : ℕ) (old new old' new' : Option (List ℕ)) (x : Exit) → old' ≡ old → new' ≡ new → (x ≡ exit.Memory) ⊎ DayRan nodes before after count start old new x → (x ≡ exit.Memory) ⊎ DayRan nodes before after count start old' new' x
day_as nodes before after count start old new old' new' x e f r =
    subst (λ (z : Option (List ℕ)). (x ≡ exit.Memory) ⊎ DayRan nodes before after count start z new' x) (sym e) (subst (λ (z : Option (List ℕ)). (x ≡ exit.Memory) ⊎ DayRan nodes before after count start old z x) (sym f) r)

told_as : (names : List (List ℕ)) (before after : List DiskState) (count start : ℕ) (old new old' new' : Option (List ℕ)) (x : Exit) → old' ≡ old → new' ≡ new → (x ≡ exit.Memory) ⊎ DayTold names before after count start old new x → (x ≡ exit.Memory) ⊎ DayTold names before after count start old' new' x
told_as names before after count start old new old' new' x e f r =
    subst (λ (z : Option (List ℕ)). (x ≡ exit.Memory) ⊎ DayTold names before after count start z new' x) (sym e) (subst (λ (z : Option (List ℕ)). (x ≡ exit.Memory) ⊎ DayTold names before after count start old z x) (sym f) r)

-- and as another asks for the same day

pub day_for : (nodes : List Node) (before after : List DiskState) (d e : Asked) (old new old' new' : Option (List ℕ)) (x : Exit) → d ≡ e → old' ≡ old → new' ≡ new → (x ≡ exit.Memory) ⊎ DayRan nodes before after d.count d.start old new x → (x ≡ exit.Memory) ⊎ DayRan nodes before after e.count e.start old' new' x
day_for nodes before after d e old new old' new' x same f g r =
    subst (λ (a : Asked). (x ≡ exit.Memory) ⊎ DayRan nodes before after a.count a.start old' new' x) same (day_as nodes before after d.count d.start old new old' new' x f g r)

pub told_for : (names : List (List ℕ)) (before after : List DiskState) (d e : Asked) (old new old' new' : Option (List ℕ)) (x : Exit) → d ≡ e → old' ≡ old → new' ≡ new → (x ≡ exit.Memory) ⊎ DayTold names before after d.count d.start old new x → (x ≡ exit.Memory) ⊎ DayTold names before after e.count e.start old' new' x
told_for names before after d e old new old' new' x same f g r =
    subst (λ (a : Asked). (x ≡ exit.Memory) ⊎ DayTold names before after a.count a.start old' new' x) same (told_as names before after d.count d.start old new old' new' x f g r)

-- Each disk is a later state of the one at its place.

nothing_goes : (names : List (List ℕ)) (said : Said) (lines : List Line) (olds news : List DiskState) → DisksFollowLine names said Blank lines olds news → AllGo olds news
nothing_goes [] said lines [] [] h = tt
nothing_goes [] said lines [] (new ∷ news) h = absurd h
nothing_goes [] said lines (old ∷ olds) news h = absurd h
nothing_goes (name ∷ names) said lines [] news h = absurd h
nothing_goes (name ∷ names) said lines (old ∷ olds) [] h = absurd h
nothing_goes (name ∷ names) said lines (old ∷ olds) (new ∷ news) h = (subst (λ (d : DiskState). DiskAdvancesOverCalls old d) (sym h.0.1) (passes_same old), nothing_goes names said lines olds news h.1)

bad_goes : (names : List (List ℕ)) (said : Said) (column : ℕ) (lines : List Line) (olds news : List DiskState) → DisksFollowLine names said (Bad column) lines olds news → AllGo olds news
bad_goes [] said column lines [] [] h = tt
bad_goes [] said column lines [] (new ∷ news) h = absurd h
bad_goes [] said column lines (old ∷ olds) news h = absurd h
bad_goes (name ∷ names) said column lines [] news h = absurd h
bad_goes (name ∷ names) said column lines (old ∷ olds) [] h = absurd h
bad_goes (name ∷ names) said column lines (old ∷ olds) (new ∷ news) h = absurd h.0

line_goes : (names : List (List ℕ)) (said : Said) (r : Reading) (lines : List Line) (olds news : List DiskState) → DisksFollowLine names said r lines olds news → AllGo olds news
line_goes names said Blank lines olds news h = nothing_goes names said lines olds news h
line_goes names said (Says s) lines olds news h = tells_go names said s lines olds news h
line_goes names said (Bad column) lines olds news h = bad_goes names said column lines olds news h

pub entries_go : (names : List (List ℕ)) (before : List DiskState) (es : List Entry) (after : List DiskState) → EntriesTell names before es after → AllGo before after
entries_go names before [] after e = subst (AllGo before) (sym e) (all_stay before)
entries_go names before (e ∷ es) after h = go_on before h.0 after (entries_go names before es h.0 h.1) (line_goes names (said_of names es) (reading e.source.text) e.lines h.0 after h.2)
