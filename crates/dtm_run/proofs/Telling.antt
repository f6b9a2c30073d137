-- What a run of nodes tells of their disks, line by line.
use Rattle.std.proofs.Common.{◌≡◌, ℕ, ◌+◌, ◌<◌, ◌≤◌, List, [], ◌∷◌, Bool, true, false, Option, IfSome, map, if◌then◌else◌, refl, sym, ◌∙◌, ap, subst}
use Rattle.std.specs.Option.{option_map}
use Rattle.block_disk.specs.Disk.{DiskState}
use Rattle.transcript_model.specs.Lines as line
use Rattle.transcript_model.specs.Script.{ScriptLine, size_of, IsWithinLimits, BeginsTooLong}
use Rattle.emitter_model.specs.Emitting.{Shown, Emits}
use Rattle.script_model.specs.Statements.{Statement, Blank, Says, Bad}
use Rattle.script_model.specs.Grammar.{reading}
use Rattle.run_laws.specs.run_said.Said.{Said, nothing_said, said_here, said_of}
use Rattle.world_laws.specs.run_model.Transcript as model
use Rattle.world_laws.specs.run_model.Transcript.{Entry}
use Rattle.day_run.specs.run_shared.Sharing.{SharedState}
use Rattle.day_run.specs.node_standing.Standing.{NodeState}
use Rattle.day_run.specs.run_nodes.Calls.{DisksFollowLine, LineFollows}
use Rattle.day_run.specs.Tells.{EntriesTell}
use Rattle.day_run.specs.run_nodes.Together.{AnswersTogether, disks_of, said_together}
use Rattle.day_run.specs.run_nodes.Told.{kept_names}
use Rattle.dtm_run.specs.Headline.{exit_of}
use Rattle.dtm_run.specs.Calls.{DisksFollowRun}
use Rattle.dtm_run.specs.declared.top.Exit.{Exit}
use Rattle.dtm_run.specs.declared.top.Exit.TheVariants as exit
use Rattle.dtm_run.proofs.Entries.{AreRead, EndsWith, ends_bad, ends_cut, ends_done, ends_memory, ends_read_fault, ends_too_long, next_bad, next_too_long, next_too_many, read_first, read_nothing, read_shown}

-- Between two lines: the entries so far tell of the disks from the first states to these, and said this.
pub record Telling (names : List (List ℕ)) (before : List DiskState) (script ahead : Option (List ScriptLine)) (old now : Option (List ℕ)) (number taken : ℕ) (ds : List DiskState) (said : Said) : Type 0 where
  pub entries : List Entry
  pub tell : EntriesTell names before entries ds
  pub read : AreRead entries script ahead old now number taken
  pub says : said ≡ said_of names entries

pub telling_first : (names : List (List ℕ)) (before : List DiskState) (script : Option (List ScriptLine)) (old : Option (List ℕ)) (taken : ℕ) (said : Said) → taken ≡ 0 → said ≡ nothing_said names → Telling names before script script old old 1 taken before said
telling_first names before script old taken said e unsaid = subst (λ n. Telling names before script script old old 1 n before said) (sym e) record { entries = []; tell = refl; read = read_first script old; says = unsaid }

-- a skipped line leaves each disk
blank_tells : (ks : List NodeState) (said : Said) → DisksFollowLine (kept_names ks) said Blank [] (disks_of ks) (disks_of ks)
blank_tells [] said = tt
blank_tells (k ∷ ks) said = ((refl, refl), blank_tells ks said)

over : (names : List (List ℕ)) (before after : List DiskState) (script : Option (List ScriptLine)) (old new : Option (List ℕ)) (ended : Exit) (es : List Entry) → EntriesTell names before es after → EndsWith es script old new (exit_of ended) → DisksFollowRun names before after script old new ended
over names before after script old new ended es tell e = record { entries = es; tell = tell; in_limits = e.in_limits; added = e.added; shows = e.shows; ends = e.ends }

exit_if : (failed : Bool) (ended : Exit) → (if failed then model.WriteFault else exit_of ended) ≡ exit_of (if failed then exit.WriteFault else ended)
exit_if true ended = refl
exit_if false ended = refl

pub tells_memory : (names : List (List ℕ)) (before : List DiskState) (script : Option (List ScriptLine)) (old : Option (List ℕ)) → DisksFollowRun names before before script old old exit.Memory
tells_memory names before script old = over names before before script old old exit.Memory [] refl (ends_memory script old)

-- so where the nodes were only given room
pub tells_memory_on : {D : Type 0} (state : D → DiskState) (ps qs : List (List ℕ × D)) (script : Option (List ScriptLine)) (old : Option (List ℕ)) → qs ≡ ps →
    DisksFollowRun (map (λ p. p.0) ps) (map (λ p. state p.1) ps) (map (λ p. state p.1) qs) script old old exit.Memory
tells_memory_on {D = D} state ps qs script old same =
    subst (λ (l : List (List ℕ × D)). DisksFollowRun (map (λ p. p.0) ps) (map (λ p. state p.1) ps) (map (λ p. state p.1) l) script old old exit.Memory) (sym same) (tells_memory (map (λ p. p.0) ps) (map (λ p. state p.1) ps) script old)

module _ (names : List (List ℕ)) (before : List DiskState) (script ahead : Option (List ScriptLine)) (old now : Option (List ℕ)) (number taken : ℕ) (ks : List NodeState) (said : Said) (g : Telling names before script ahead old now number taken (disks_of ks) said) where
  pub tells_done : IfSome ahead (λ more. more ≡ []) → DisksFollowRun names before (disks_of ks) script old now exit.Done
  tells_done h = over names before (disks_of ks) script old now exit.Done g.entries g.tell (ends_done g.entries script ahead old now number taken g.read h)

  pub tells_read_fault : DisksFollowRun names before (disks_of ks) script old now exit.ReadFault
  tells_read_fault = over names before (disks_of ks) script old now exit.ReadFault g.entries g.tell (ends_read_fault g.entries script ahead old now number taken g.read)

  module _ (a b : Shown) (t : a.text ≡ now) (n : a.number ≡ number) (e : a.failed ≡ false) where
    -- the last line says that the script is too long
    pub tells_too_long : Emits a (line.TooLong ∷ []) b → IfSome ahead (BeginsTooLong taken) → DisksFollowRun names before (disks_of ks) script old b.text (if b.failed then exit.WriteFault else exit.TooLong)
    tells_too_long m h = over names before (disks_of ks) script old b.text (if b.failed then exit.WriteFault else exit.TooLong) g.entries g.tell
        (subst (λ x. EndsWith g.entries script old b.text x) (exit_if b.failed exit.TooLong) (ends_too_long g.entries script ahead old now number taken g.read a b t n e m (next_too_long g.entries script ahead old now number taken g.read h)))

    module _ (source : ScriptLine) (later : Option (List ScriptLine)) (next : ahead ≡ option_map (λ more. source ∷ more) later) where
      pub tells_too_many : Emits a (line.TooLong ∷ []) b → 1000000 < number → DisksFollowRun names before (disks_of ks) script old b.text (if b.failed then exit.WriteFault else exit.TooLong)
      tells_too_many m many = over names before (disks_of ks) script old b.text (if b.failed then exit.WriteFault else exit.TooLong) g.entries g.tell
          (subst (λ x. EndsWith g.entries script old b.text x) (exit_if b.failed exit.TooLong) (ends_too_long g.entries script ahead old now number taken g.read a b t n e m (next_too_many g.entries script ahead old now number taken g.read source later next many)))

      module _ (within : IsWithinLimits taken source) (few : number ≤ 1000000) where
        pub tells_bad : (column : ℕ) → Emits a (line.BadLine column ∷ []) b → reading source.text ≡ Bad column → DisksFollowRun names before (disks_of ks) script old b.text (if b.failed then exit.WriteFault else exit.BadLine)
        tells_bad column m bad = over names before (disks_of ks) script old b.text (if b.failed then exit.WriteFault else exit.BadLine) g.entries g.tell
            (subst (λ x. EndsWith g.entries script old b.text x) (exit_if b.failed exit.BadLine) (ends_bad g.entries script ahead old now number taken g.read a b column t n e m (next_bad g.entries script ahead old now number taken g.read source later next within few column bad)))

        module _ (s : Statement) (shared : SharedState) (is : said ≡ said_together ks shared) (new : List NodeState) (after : SharedState) (says : reading source.text ≡ Says s) (h : AnswersTogether names s a b ks shared new after) where
          same : said_together ks shared ≡ said_of names g.entries
          same = sym is ∙ g.says

          told : EntriesTell names before (record { source = source; lines = h.lines } ∷ g.entries) (disks_of new)
          told = (
            disks_of ks,
            g.tell,
            subst (λ (z : Said). DisksFollowLine names z (reading source.text) h.lines (disks_of ks) (disks_of new)) same (subst (λ r. DisksFollowLine names (said_together ks shared) r h.lines (disks_of ks) (disks_of new)) (sym says) h.tells),
            subst (λ r. LineFollows (said_of names g.entries) r h.lines) (sym says) (subst (λ (z : Said). LineFollows z (Says s) h.lines) same h.follows),
          )

          follows : said_together new after ≡ said_of names (record { source = source; lines = h.lines } ∷ g.entries)
          follows = h.says ∙ ap (said_here (Says s) h.lines) same ∙ sym (ap (λ r. said_here r h.lines (said_of names g.entries)) says)

          pub telling_served : (i j : ℕ) → i ≡ number + 1 → j ≡ taken + size_of source → b.failed ≡ false → Telling names before script later old b.text i j (disks_of new) (said_together new after)
          telling_served i j ei ej f = subst (λ i. Telling names before script later old b.text i j (disks_of new) (said_together new after)) (sym ei) (subst (λ j. Telling names before script later old b.text (number + 1) j (disks_of new) (said_together new after)) (sym ej)
              record { entries = record { source = source; lines = h.lines } ∷ g.entries; tell = told; read = read_shown g.entries script ahead old now number taken g.read source later next within few a b h.lines t n e f h.emits; says = follows })

          pub tells_cut : b.failed ≡ true → DisksFollowRun names before (disks_of new) script old b.text exit.WriteFault
          tells_cut f = over names before (disks_of new) script old b.text exit.WriteFault (record { source = source; lines = h.lines } ∷ g.entries) told
              (ends_cut g.entries script ahead old now number taken g.read source later next within few a b h.lines t n e f h.emits)

  module _ (source : ScriptLine) (later : Option (List ScriptLine)) (next : ahead ≡ option_map (λ more. source ∷ more) later) (within : IsWithinLimits taken source) (few : number ≤ 1000000) where
    pub telling_blank : (i j : ℕ) (text : Option (List ℕ)) → i ≡ number + 1 → j ≡ taken + size_of source → text ≡ now → names ≡ kept_names ks → reading source.text ≡ Blank → Telling names before script later old text i j (disks_of ks) said
    telling_blank i j text ei ej et named blank =
        subst (λ (x : Option (List ℕ)). Telling names before script later old x i j (disks_of ks) said) (sym et)
        (subst (λ (x : ℕ). Telling names before script later old now x j (disks_of ks) said) (sym ei) (subst (λ (x : ℕ). Telling names before script later old now (number + 1) x (disks_of ks) said) (sym ej)
        record {
          entries = record { source = source; lines = [] } ∷ g.entries;
          tell = (
            disks_of ks,
            g.tell,
            subst (λ r. DisksFollowLine names (said_of names g.entries) r [] (disks_of ks) (disks_of ks)) (sym blank) (subst (λ xs. DisksFollowLine xs (said_of names g.entries) Blank [] (disks_of ks) (disks_of ks)) (sym named) (blank_tells ks (said_of names g.entries))),
            subst (λ r. LineFollows (said_of names g.entries) r []) (sym blank) tt,
          );
          says = g.says ∙ sym (ap (λ r. said_here r [] (said_of names g.entries)) blank);
          read = read_nothing g.entries script ahead old now number taken g.read source later next within few;
        }))

-- nodes under other names that are theirs
pub answers_in : (names names' : List (List ℕ)) (s : Statement) (a b : Shown) (ks : List NodeState) (k : SharedState) (ls : List NodeState) (t : SharedState) → names ≡ names' → AnswersTogether names s a b ks k ls t → AnswersTogether names' s a b ks k ls t
answers_in names names' s a b ks k ls t e h = subst (λ xs. AnswersTogether xs s a b ks k ls t) e h

-- the exit as it is given back
pub tells_as : (names : List (List ℕ)) (before : List DiskState) (script : Option (List ScriptLine)) (old new : Option (List ℕ)) (x y : Exit) (ds : List DiskState) → y ≡ x → DisksFollowRun names before ds script old new x → DisksFollowRun names before ds script old new y
tells_as names before script old new x y ds is r = subst (λ z. DisksFollowRun names before ds script old new z) (sym is) r

-- under the names and with the disks of a rack
pub tells_in : (names names' : List (List ℕ)) (before before' : List DiskState) (script script' : Option (List ScriptLine)) (old new : Option (List ℕ)) (x : Exit) (after after' : List DiskState) → names ≡ names' → before ≡ before' → script ≡ script' → after' ≡ after → DisksFollowRun names before after script old new x →
    DisksFollowRun names' before' after' script' old new x
tells_in names names' before before' script script' old new x after after' e f h k r =
    subst (λ ns. DisksFollowRun ns before' after' script' old new x) e
    (subst (λ ds. DisksFollowRun names ds after' script' old new x) f (subst (λ l. DisksFollowRun names before after' l old new x) h (subst (λ ds. DisksFollowRun names before ds script old new x) (sym k) r)))

-- the text of a script, and what its sink showed, under other names
pub tells_over : (names : List (List ℕ)) (before after : List DiskState) (script : Option (List ScriptLine)) (old new old' new' : Option (List ℕ)) (x : Exit) → old' ≡ old → new' ≡ new → DisksFollowRun names before after script old new x → DisksFollowRun names before after script old' new' x
tells_over names before after script old new old' new' x e f r =
    subst (λ (z : Option (List ℕ)). DisksFollowRun names before after script z new' x) (sym e) (subst (λ (z : Option (List ℕ)). DisksFollowRun names before after script old z x) (sym f) r)
