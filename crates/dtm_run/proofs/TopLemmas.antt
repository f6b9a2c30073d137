-- The top call: from what its parts do to what a run promises.
use Rattle.std.specs.Prelude.{slice_get}
use Rattle.std.proofs.Common.{◌≡◌, ℕ, zero, suc, ◌≤◌, List, [], ◌∷◌, Option, Some, map, length, refl, sym, ◌∙◌, ap, subst}
use Rattle.std.specs.Option.{option_map}
use Rattle.block_disk.specs.Disk.{DiskState}
use Rattle.transcript_model.specs.Script.{ScriptLine, lines_of}
use Rattle.transcript_model.specs.Outside.{Rose}
use Rattle.statement_steps.specs.run_agreement.Laws.{NamesApart}
use Rattle.world_laws.specs.run_model.World.{Node, World}
use Rattle.world_laws.specs.run_model.Transcript.{AreOpening, Entry}
use Rattle.world_laws.proofs.run_model.NodeLists.{some_is}
use Rattle.run_laws.specs.Laws.{AgreedPromisesAreKept, PromisesAreKept}
use Rattle.manager_laws.specs.Promises.{ManagerPromisesHold}
use Rattle.recovery_runs.specs.Promises.{RecoveryPromisesHold}
use Rattle.day_run.specs.node_standing.Standing.{counts_of, noted_all}
use Rattle.day_run.specs.run_nodes.Names.{AreApart}
use Rattle.day_run.proofs.run_nodes.Places.{apart_nodes}
use Rattle.dtm_run.specs.Racks.{names_in, states_in, AreSized, IsRack}
use Rattle.dtm_run.specs.Headline.{AllGo, DisksRepresent, LeaveNodes}
use Rattle.dtm_run.specs.Leading.{Beginning, Leads, RunsFrom, RunOver, world_at}
use Rattle.dtm_run.specs.declared.rack.Rack.{Rack}
use Rattle.dtm_run.specs.declared.top.Exit.{Exit}
use Rattle.dtm_run.specs.declared.top.Exit.TheVariants as exit
use Rattle.dtm_run.proofs.Entries.{ends_memory}
use Rattle.dtm_run.proofs.Leading.{all_stay, last_begins, not_both, since_legal}

first_leave : (names : List (List ℕ)) (ds : List DiskState) (ns : List Node) → DisksRepresent names ds ns → AreOpening ns → LeaveNodes ds ns ds
first_leave [] [] [] s o = tt
first_leave [] [] (n ∷ ns) s o = absurd s
first_leave [] (d ∷ ds) ns s o = absurd s
first_leave (name ∷ names) [] ns s o = absurd s
first_leave (name ∷ names) (d ∷ ds) [] s o = absurd s
first_leave (name ∷ names) (d ∷ ds) (n ∷ ns) s o =
    (record { down = λ e. s.0.has; up = λ e. absurd (not_both n.up e o.0.down); blocks = s.0.blocks; calls = ap (λ cs. noted_all cs d.calls) (sym o.0.calls) }, first_leave names ds ns s.1 o.1)

-- Where memory is missing nothing was done.
pub memory_runs : (names : List (List ℕ)) (ds : List DiskState) (script : Option (List ScriptLine)) (old : Option (List ℕ)) (nodes : List Node) → AreOpening nodes → DisksRepresent names ds nodes → RunsFrom names (record { nodes = nodes; disks = ds }) script old old exit.Memory ds
memory_runs names ds script old nodes o s =
    let first : Beginning = record { nodes = nodes; disks = ds } in
    let ends = ends_memory script old in
    record {
      led = [];
      left_over = [];
      last = first;
      since = [];
      closing = world_at first;
      leads = (refl, refl, refl);
      leaves = record { counts = refl; nodes = first_leave names ds nodes s o };
      in_limits = ends.in_limits;
      added = ends.added;
      shows = ends.shows;
      ends = ends.ends;
    }

-- so where the nodes were only given room
pub memory_runs_on : {D : Type 0} (state : D → DiskState) (ps qs : List (List ℕ × D)) (script : Option (List ScriptLine)) (old : Option (List ℕ)) → qs ≡ ps → (nodes : List Node) → AreOpening nodes → DisksRepresent (map (λ p. p.0) ps) (map (λ p. state p.1) ps) nodes →
    RunsFrom (map (λ p. p.0) ps) (record { nodes = nodes; disks = map (λ p. state p.1) ps }) script old old exit.Memory (map (λ p. state p.1) qs)
memory_runs_on {D = D} state ps qs script old same nodes o s =
    subst (λ (l : List (List ℕ × D)). RunsFrom (map (λ p. p.0) ps) (record { nodes = nodes; disks = map (λ p. state p.1) ps }) script old old exit.Memory (map (λ p. state p.1) l)) (sym same) (memory_runs (map (λ p. p.0) ps) (map (λ p. state p.1) ps) script old nodes o s)

pub all_stay_on : {D : Type 0} (state : D → DiskState) (ps qs : List (List ℕ × D)) → qs ≡ ps → AllGo (map (λ p. state p.1) ps) (map (λ p. state p.1) qs)
all_stay_on {D = D} state ps qs same = subst (λ (l : List (List ℕ × D)). AllGo (map (λ p. state p.1) ps) (map (λ p. state p.1) l)) (sym same) (all_stay (map (λ p. state p.1) ps))

-- what a run of these nodes on these disks comes to, under the names and with the disks of a rack
abbrev pub RunsOver : List (List ℕ) → List DiskState → Option (List ScriptLine) → Option (List ℕ) → Option (List ℕ) → Exit → List DiskState → Type 0
RunsOver names before script old new x after = (nodes : List Node) → AreOpening nodes → DisksRepresent names before nodes → RunsFrom names (record { nodes = nodes; disks = before }) script old new x after

pub runs_in : (names names' : List (List ℕ)) (before before' : List DiskState) (script script' : Option (List ScriptLine)) (old new : Option (List ℕ)) (x : Exit) (after after' : List DiskState) → names ≡ names' → before ≡ before' → script ≡ script' → after' ≡ after → RunsOver names before script old new x after →
    RunsOver names' before' script' old new x after'
runs_in names names' before before' script script' old new x after after' e f h k r =
    subst (λ ns. RunsOver ns before' script' old new x after') e
    (subst (λ ds. RunsOver names ds script' old new x after') f (subst (λ l. RunsOver names before l old new x after') h (subst (λ ds. RunsOver names before script old new x ds) (sym k) r)))

-- The nodes of the last beginning stand on their disks.
last_stand : (names : List (List ℕ)) (first last : Beginning) (es since : List Entry) (w : World) → DisksRepresent names first.disks first.nodes → Leads names first es last since w → DisksRepresent names last.disks last.nodes
last_stand names first last [] since w s h = subst (λ (x : Beginning). DisksRepresent names x.disks x.nodes) (sym h.0) s
last_stand names first last (e ∷ es) [] w s h = h.4.begins.stand
last_stand names first last (e ∷ es) (latest ∷ since) w s h = last_stand names first last es since h.1 s h.2

pub stand_names : (names : List (List ℕ)) (ds : List DiskState) (ns : List Node) → DisksRepresent names ds ns → names ≡ map (λ (n : Node). n.name) ns
stand_names [] [] [] h = refl
stand_names [] [] (n ∷ ns) h = absurd h
stand_names [] (d ∷ ds) ns h = absurd h
stand_names (name ∷ names) [] ns h = absurd h
stand_names (name ∷ names) (d ∷ ds) [] h = absurd h
stand_names (name ∷ names) (d ∷ ds) (n ∷ ns) h = λ i. sym h.0.name_is i ∷ stand_names names ds ns h.1 i

pub stand_apart : (names : List (List ℕ)) (ds : List DiskState) (ns : List Node) → AreApart names → DisksRepresent names ds ns → NamesApart ns
stand_apart names ds ns apart h = apart_nodes ns (subst AreApart (stand_names names ds ns h) apart)

-- The whole run keeps its promises.
pub run_over : (names : List (List ℕ)) (nodes : List Node) (before after : List DiskState) (script old new old' new' : Option (List ℕ)) (x : Exit) → PromisesAreKept × ManagerPromisesHold × RecoveryPromisesHold → AgreedPromisesAreKept → AreApart names → AreOpening nodes → DisksRepresent names before nodes → old' ≡ old → new' ≡ new →
    RunsFrom names (record { nodes = nodes; disks = before }) (option_map lines_of script) old new x after → RunOver names nodes before after script old' new' x
run_over names nodes before after script old new old' new' x law agreed apart opening stand e f r =
    let first : Beginning = record { nodes = nodes; disks = before } in
    let begins = last_begins names first r.last r.led r.since r.closing opening r.leads in
    let legal = since_legal names first r.last r.led r.since r.closing r.leads in
    let differ = stand_apart names r.last.disks r.last.nodes apart (last_stand names first r.last r.led r.since r.closing stand r.leads) in
    subst (λ (z : Option (List ℕ)). RunOver names nodes before after script z new' x) (sym e) (subst (λ (z : Option (List ℕ)). RunOver names nodes before after script old z x) (sym f)
    record {
      run = r;
      promises = law.0 r.last.nodes (map counts_of r.last.disks) r.since r.closing begins legal;
      managers = law.1 r.last.nodes (map counts_of r.last.disks) r.since r.closing begins legal;
      recoveries = law.2 r.last.nodes (map counts_of r.last.disks) r.since r.closing begins legal;
      agreed = λ known agree. agreed r.last.nodes (map counts_of r.last.disks) r.since r.closing begins differ known agree legal;
    })

-- The rack stays a rack.
sized_on : (olds news : List DiskState) → AllGo olds news → AreSized olds → AreSized news
sized_on [] [] g h = tt
sized_on [] (new ∷ news) g h = absurd g
sized_on (old ∷ olds) [] g h = absurd g
sized_on (old ∷ olds) (new ∷ news) g h = (subst (λ n. 4096 ≤ n) (sym g.0.size) h.0, subst (λ n. n ≤ 65536) (sym g.0.size) h.1, sized_on olds news g.1 h.2)

pub rack_on : {D : Type 0} (state_of : D → DiskState) (old new : Rack D) → names_in new ≡ names_in old → AllGo (states_in state_of old) (states_in state_of new) → IsRack state_of old → IsRack state_of new
rack_on state_of old new names go r = record {
  apart = subst AreApart (sym names) r.apart;
  few = subst (λ (n : List (List ℕ)). length n ≤ 8) (sym names) r.few;
  sized = sized_on (states_in state_of old) (states_in state_of new) go r.sized;
}

pub rack_as : {D : Type 0} (state : D → DiskState) (old new : Rack D) → new.nodes.entries ≡ old.nodes.entries → IsRack state old → IsRack state new
rack_as {D = D} state old new same r = record {
  apart = subst (λ (l : List (List ℕ × D)). AreApart (map (λ p. p.0) l)) (sym same) r.apart;
  few = subst (λ (l : List (List ℕ × D)). length (map (λ p. p.0) l) ≤ 8) (sym same) r.few;
  sized = subst (λ (l : List (List ℕ × D)). AreSized (map (λ p. state p.1) l)) (sym same) r.sized;
}

-- one of so many disks is neither too small nor too large
pub sized_at : {D : Type 0} (state : D → DiskState) (ps : List (List ℕ × D)) (n : ℕ) (p : List ℕ × D) → AreSized (map (λ q. state q.1) ps) → slice_get ps n ≡ Some p → (4096 ≤ (state p.1).size) × ((state p.1).size ≤ 65536)
sized_at {D} state [] n p h e = let none : ⊥ = cc in absurd none
sized_at {D} state (q ∷ ps) zero p h e = subst (λ (x : List ℕ × D). (4096 ≤ (state x.1).size) × ((state x.1).size ≤ 65536)) (some_is q p e) (h.0, h.1)
sized_at {D} state (q ∷ ps) (suc n) p h e = sized_at state ps n p h.2 e

-- what the emitter tells of its sink is so of the sink itself

pub rose_as : (a b x y : ℕ) → x ≡ a → y ≡ b → Rose a b → Rose x y
rose_as a b x y e f r = subst (λ (n : ℕ). Rose n y) (sym e) (subst (λ (n : ℕ). Rose a n) (sym f) r)

pub shown_as : (a b x y : Option (List ℕ)) → x ≡ a → y ≡ b → b ≡ a → y ≡ x
shown_as a b x y e f g = f ∙ g ∙ sym e
