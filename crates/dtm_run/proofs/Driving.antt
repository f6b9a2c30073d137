-- A run of nodes over their disks, line by line: how far it is, and how it ends.
use Rattle.std.proofs.Common.{◌≡◌, ℕ, ◌+◌, ◌<◌, ◌≤◌, List, [], ◌∷◌, Bool, true, false, Option, Some, None, IfSome, Ok, if◌then◌else◌, refl, sym, ◌∙◌, ap, subst, arith}
use Rattle.std.specs.Option.{option_map}
use Rattle.block_disk.specs.Disk.{DiskState}
use Rattle.volume.specs.Catalogs.{TellsCatalog}
use Rattle.transcript_model.specs.Lines as line
use Rattle.transcript_model.specs.Script.{ScriptLine, size_of, IsWithinLimits, BeginsTooLong}
use Rattle.emitter_model.specs.Emitting.{Shown, Emits}
use Rattle.script_model.specs.Statements.{At, Bad, Blank, Clock, Deliver, LinkDown, Says, Settle, Statement}
use Rattle.script_model.specs.Grammar.{reading}
use Rattle.script_lang.specs.declared.literals.Literals.{Literals}
use Rattle.script_lang.specs.declared.statement.Statement as code
use Rattle.script_lang.specs.Statements.{reading_of, statement_of}
use Rattle.world_laws.specs.run_model.World.{World, Node}
use Rattle.world_laws.specs.run_model.Transcript as model
use Rattle.world_laws.specs.run_model.Transcript.{AreOpening, EndsTooLong, Entry}
use Rattle.run_laws.specs.run_said.Said.{nothing_said}
use Rattle.day_run.specs.run_shared.Sharing.{SharedState}
use Rattle.recovery_units.specs.State.{UnitsState}
use Rattle.day_run.specs.node_table.Code.{up_of}
use Rattle.day_run.specs.node_table.Standing.{IsUp, Up, UpRepresents}
use Rattle.day_run.specs.dtm_node.declared.node.Node as node
use Rattle.day_run.specs.dtm_node.declared.node.Place as place
use Rattle.day_run.specs.dtm_node.declared.node.Place.TheVariants as at
use Rattle.day_run.specs.dtm_node.Nodes.{IsPlaceOf, place_of}
use Rattle.day_run.specs.node_standing.Standing.{NodeState, PlaceRepresents, disk_in, noted_all}
use Rattle.day_run.specs.run_nodes.Held.{AreNodesIn}
use Rattle.day_run.specs.run_nodes.Together.{StandAll, StandsTogether, disks_of, said_together}
use Rattle.day_run.specs.run_nodes.Told.{kept_names}
use Rattle.day_run.proofs.run_nodes.Entries.{kept_in}
use Rattle.dtm_run.specs.Headline.{IsVolumeOf, Leaves, LeavesNode, LeaveNodes, DisksRepresent, exit_of}
use Rattle.dtm_run.specs.Leading.{Beginning, RunsFrom}
use Rattle.dtm_run.specs.Taking.{AreAtZero}
use Rattle.dtm_run.specs.declared.top.Exit.{Exit}
use Rattle.dtm_run.specs.declared.top.Exit.TheVariants as exit
use Rattle.dtm_run.proofs.Entries.{AreRead, EndsWith, ends_bad, ends_cut, ends_done, ends_read_fault, ends_too_long, next_bad, next_too_long, next_too_many, read_first, read_nothing, read_shown}
use Rattle.day_run.proofs.dtm_node.DiskLemmas.{idle_leaves}
use Rattle.dtm_run.proofs.Leading.{Next, Way, logs_of, not_both, runs_from, way_blank, way_first}

-- What the nodes stand for is what the run leaves.

volume_up : (clock : ℕ) (u : Up) (n : Node) (s : UpRepresents clock u n) → IsUp u → n.name ≡ u.tm.node → n.blocks ≡ u.stored.volume.store.disk.size → IsVolumeOf s.stands.kept.content n
volume_up clock u n s up named sized = record {
  catalog = u.stored.volume.catalog;
  tells = subst (λ o. IfSome o (TellsCatalog u.stored.volume.catalog)) s.stands.kept.told up.follows.order.holds;
  sound = rw (named, up.follows.node, sized) up.follows.order.sound;
  has = s.stands.kept.has;
}

place_leaves : {D U : Type 0} (state : D → DiskState) (units : U → UnitsState) (count : ℕ) (s : SharedState) (m : node.Node D U) (clock : ℕ) (p : place.Place D U) (n : Node) (before : DiskState) → IsPlaceOf state units count s m p → PlaceRepresents clock (place_of state units p) n → n.name ≡ m.name → n.blocks ≡ (disk_in (place_of state units p)).size →
    (disk_in (place_of state units p)).calls ≡ noted_all n.calls before.calls → LeavesNode before n (disk_in (place_of state units p))
place_leaves state units count shared m clock (at.Down disk parts) n before kept s named sized calls = record { down = λ e. s.disk; up = λ e. absurd (not_both n.up e s.down); blocks = sized; calls = calls }
place_leaves state units count shared m clock (at.Up r) n before kept s named sized calls = record {
  down = λ e. absurd (not_both n.up s.stands.up e);
  up = λ e. idle_leaves r.stored.volume.store s.stands.kept.content (λ content. IsVolumeOf content n) kept.0.follows.order.idle s.stands.kept.told (volume_up clock (up_of units r) n s kept.0 (named ∙ kept.1) sized);
  blocks = sized;
  calls = calls;
}

nodes_leave : {D U : Type 0} (state : D → DiskState) (units : U → UnitsState) (count : ℕ) (s : SharedState) (es : List (List ℕ × node.Node D U)) (ds : List DiskState) (ns : List Node) → AreNodesIn state units count s es → StandAll (logs_of ds) (kept_in state units es) ns → LeaveNodes ds ns (disks_of (kept_in state units es))
nodes_leave {D} {U} state units count s [] [] [] h stand = tt
nodes_leave {D} {U} state units count s [] [] (n ∷ ns) h stand = absurd stand
nodes_leave {D} {U} state units count s [] (d ∷ ds) ns h stand = absurd stand
nodes_leave {D} {U} state units count s (e ∷ es) [] ns h stand = absurd stand
nodes_leave {D} {U} state units count s (e ∷ es) (d ∷ ds) [] h stand = absurd stand
nodes_leave {D} {U} state units count s (e ∷ es) (d ∷ ds) (n ∷ ns) h stand =
    (place_leaves state units count s e.1 e.1.clock.0 e.1.place n d h.1.place stand.0.place stand.0.name stand.0.blocks stand.0.calls, nodes_leave state units count s es ds ns h.2 stand.1)

pub stands_leaves : {D U : Type 0} (state : D → DiskState) (units : U → UnitsState) (count : ℕ) (s : SharedState) (es : List (List ℕ × node.Node D U)) → AreNodesIn state units count s es → (ds : List DiskState) (w : World) → StandsTogether (logs_of ds) (kept_in state units es) s w →
    Leaves ds w (disks_of (kept_in state units es))
stands_leaves state units count s es h ds w stand = record { counts = stand.disks; nodes = nodes_leave state units count s es ds w.nodes h stand.nodes }

-- Between two lines: these entries were read and shown, and lead so far.
pub record Going (names : List (List ℕ)) (first : Beginning) (script ahead : Option (List ScriptLine)) (old now : Option (List ℕ)) (number taken : ℕ) (ks : List NodeState) (s : SharedState) : Type 0 where
  pub entries : List Entry
  pub read : AreRead entries script ahead old now number taken
  pub way : Way names first entries ks s

pub going_first : (names : List (List ℕ)) (ks : List NodeState) (s : SharedState) (script : Option (List ScriptLine)) (old : Option (List ℕ)) (taken : ℕ) → taken ≡ 0 → said_together ks s ≡ nothing_said names → names ≡ kept_names ks → AreAtZero ks → (nodes : List Node) → AreOpening nodes → DisksRepresent names (disks_of ks) nodes →
    Going names (record { nodes = nodes; disks = disks_of ks }) script script old old 1 taken ks s
going_first names ks s script old taken e unsaid named at_zero nodes o stand =
    subst (λ n. Going names (record { nodes = nodes; disks = disks_of ks }) script script old old 1 n ks s) (sym e) (record { entries = []; read = read_first script old; way = way_first names ks s unsaid named at_zero nodes o stand })

exit_if : (failed : Bool) (ended : Exit) → (if failed then model.WriteFault else exit_of ended) ≡ exit_of (if failed then exit.WriteFault else ended)
exit_if true ended = refl
exit_if false ended = refl

-- what is left of every world for which these stand
abbrev pub Leaving : List NodeState → SharedState → Type 0
Leaving ks s = (ds : List DiskState) (w : World) → StandsTogether (logs_of ds) ks s w → Leaves ds w (disks_of ks)

module _ (names : List (List ℕ)) (first : Beginning) (script ahead : Option (List ScriptLine)) (old now : Option (List ℕ)) (number taken : ℕ) (ks : List NodeState) (h : SharedState) (fine : Leaving ks h) (g : Going names first script ahead old now number taken ks h) where
  ended : (new : Option (List ℕ)) (x : Exit) → EndsWith g.entries script old new (exit_of x) → RunsFrom names first script old new x (disks_of ks)
  ended new x e = runs_from names first g.entries ks h script old new x g.way e fine

  pub going_done : IfSome ahead (λ more. more ≡ []) → RunsFrom names first script old now exit.Done (disks_of ks)
  going_done e = ended now exit.Done (ends_done g.entries script ahead old now number taken g.read e)

  pub going_read_fault : RunsFrom names first script old now exit.ReadFault (disks_of ks)
  going_read_fault = ended now exit.ReadFault (ends_read_fault g.entries script ahead old now number taken g.read)

  module _ (a b : Shown) (t : a.text ≡ now) (n : a.number ≡ number) (e : a.failed ≡ false) where
    -- the last line says that the script is too long
    too_long_at : Emits a (line.TooLong ∷ []) b → IfSome ahead (EndsTooLong g.entries) → RunsFrom names first script old b.text (if b.failed then exit.WriteFault else exit.TooLong) (disks_of ks)
    too_long_at m more = ended b.text (if b.failed then exit.WriteFault else exit.TooLong)
        (subst (λ x. EndsWith g.entries script old b.text x) (exit_if b.failed exit.TooLong) (ends_too_long g.entries script ahead old now number taken g.read a b t n e m more))

    pub going_too_long : Emits a (line.TooLong ∷ []) b → IfSome ahead (BeginsTooLong taken) → RunsFrom names first script old b.text (if b.failed then exit.WriteFault else exit.TooLong) (disks_of ks)
    going_too_long m more = too_long_at m (next_too_long g.entries script ahead old now number taken g.read more)

    module _ (source : ScriptLine) (later : Option (List ScriptLine)) (next : ahead ≡ option_map (λ more. source ∷ more) later) where
      pub going_too_many : Emits a (line.TooLong ∷ []) b → 1000000 < number → RunsFrom names first script old b.text (if b.failed then exit.WriteFault else exit.TooLong) (disks_of ks)
      going_too_many m many = too_long_at m (next_too_many g.entries script ahead old now number taken g.read source later next many)

      module _ (within : IsWithinLimits taken source) (few : number ≤ 1000000) where
        pub going_bad : (column : ℕ) → Emits a (line.BadLine column ∷ []) b → reading source.text ≡ Bad column → RunsFrom names first script old b.text (if b.failed then exit.WriteFault else exit.BadLine) (disks_of ks)
        going_bad column m bad = ended b.text (if b.failed then exit.WriteFault else exit.BadLine)
            (subst (λ x. EndsWith g.entries script old b.text x) (exit_if b.failed exit.BadLine)
            (ends_bad g.entries script ahead old now number taken g.read a b column t n e m (next_bad g.entries script ahead old now number taken g.read source later next within few column bad)))

        module _ (new : List NodeState) (shared : SharedState) (v : Next names first source g.entries a b new shared) where
          pub going_served : (i j : ℕ) → i ≡ number + 1 → j ≡ taken + size_of source → b.failed ≡ false → Going names first script later old b.text i j new shared
          going_served i j ei ej f = subst (λ i. Going names first script later old b.text i j new shared) (sym ei) (subst (λ j. Going names first script later old b.text (number + 1) j new shared) (sym ej)
              record { entries = record { source = source; lines = v.lines } ∷ g.entries; read = read_shown g.entries script ahead old now number taken g.read source later next within few a b v.lines t n e f v.emits; way = v.way })

          pub going_cut : Leaving new shared → b.failed ≡ true → RunsFrom names first script old b.text exit.WriteFault (disks_of new)
          going_cut ok f = runs_from names first (record { source = source; lines = v.lines } ∷ g.entries) new shared script old b.text exit.WriteFault v.way
              (ends_cut g.entries script ahead old now number taken g.read source later next within few a b v.lines t n e f v.emits) ok

  module _ (source : ScriptLine) (later : Option (List ScriptLine)) (next : ahead ≡ option_map (λ more. source ∷ more) later) (within : IsWithinLimits taken source) (few : number ≤ 1000000) where
    pub going_blank : (i j : ℕ) (text : Option (List ℕ)) → i ≡ number + 1 → j ≡ taken + size_of source → text ≡ now → reading source.text ≡ Blank → Going names first script later old text i j ks h
    going_blank i j text ei ej et blank =
        subst (λ (x : Option (List ℕ)). Going names first script later old x i j ks h) (sym et)
        (subst (λ (x : ℕ). Going names first script later old now x j ks h) (sym ei) (subst (λ (x : ℕ). Going names first script later old now (number + 1) x ks h) (sym ej)
        record { entries = record { source = source; lines = [] } ∷ g.entries; read = read_nothing g.entries script ahead old now number taken g.read source later next within few; way = way_blank names first source g.entries ks h blank g.way }))

-- the exit as it is given back
pub runs_as : (names : List (List ℕ)) (first : Beginning) (script : Option (List ScriptLine)) (old new : Option (List ℕ)) (x y : Exit) (ds : List DiskState) → y ≡ x → RunsFrom names first script old new x ds → RunsFrom names first script old new y ds
runs_as names first script old new x y ds is r = subst (λ z. RunsFrom names first script old new z ds) (sym is) r
