-- Each settlement is shown, but for the last of a node that is down.
use Rattle.std.proofs.Common.{◌≡◌, ℕ, ◌⊎◌, List, [], ◌∷◌, ◌++◌, inl, inr, Bool, true, false, ◌&&◌, Option, Some, None, refl, sym, ◌∙◌, ap, subst}
use Rattle.std.specs.Str.{bytes_eq}
use Rattle.std.proofs.lemmas.Bool.{both_ways}
use Rattle.vms_model.specs.Ids.{Id}
use Rattle.vms_model.specs.Transactions.{Outcome, Commit, Abort, Reason, SegFail}
use Rattle.run_said.specs.transcript_model.Lines as line
use Rattle.run_said.specs.transcript_model.Lines.{Line, Cause}
use Rattle.run_said.specs.script_model.Statements.{At, Reading, Says}
use Rattle.run_said.specs.script_model.Grammar.{reading}
use Rattle.commit_protocol.specs.Table as table
use Rattle.commit_protocol.specs.Table.{Key as BranchKey, Settles, Undoes}
use Rattle.commit_protocol.specs.World.{In}
use Rattle.run_said.specs.run_model.World as world
use Rattle.run_said.specs.run_model.World.{World, Node, Durable, DiskCounts, Act, Boots, ComesUp, Directs, Formats, Tables, Settlement, IsOpening, aborted_prepared, acted, find_node, next_moment, opened, settlement, settlement_of, settled_more, with_half}
use Rattle.run_said.specs.run_model.Answers as answers
use Rattle.run_said.specs.run_model.Answers.{Row, last_line, last_lines, settled_line, unit_key}
use Rattle.run_said.specs.run_model.Steps.{node_after}
use Rattle.run_said.specs.run_model.Transcript.{Entry, Legal, AreOpening}
use Rattle.run_said.proofs.run_model.NodeLists.{found_name}
use Rattle.unit_laws.specs.Units.{Map}
use Rattle.run_said.specs.run_model.Steps.{task_effect}
use Rattle.run_laws.specs.Promises.{IsShown, IsLastWhileDown, commitment, abort, settlement_in}
use Rattle.run_laws.specs.Laws.{ShownHold}
use Rattle.recovery_laws.proofs.world_laws.RestartLemmas.{undone_unit}
use Rattle.recovery_laws.proofs.world_laws.WorldLemmas.{each_opening}
use Rattle.run_laws.proofs.EachRow.{ArePlain, is_plain}
use Rattle.run_laws.proofs.RowFits.{Fits, RowFits, TellsAct}
use Rattle.run_laws.proofs.Keeping.{Kept, Keeps, Scheme, all_take, any_effect, closes_plain}
use Rattle.run_laws.proofs.SoundWorlds.{IsPlainReading, Tracked, Tracks, legal_sound, opening_sound, turn_tracked, unused}

-- Settlements that lines show.

-- with what one line shows, and lines one after another
abbrev pub shown_more : Line → List Settlement → List Settlement
shown_more l ss = elim (settlement_in l) [ Some s ↦ s ∷ ss | None ↦ ss ]

abbrev pub shown_on : List Line → List Settlement → List Settlement
shown_on [] ss = ss
shown_on (l ∷ ls) ss = shown_on ls (shown_more l ss)

pub shown_append : (xs ys : List Line) (ss : List Settlement) → shown_on (xs ++ ys) ss ≡ shown_on ys (shown_on xs ss)
shown_append [] ys ss = refl
shown_append (x ∷ xs) ys ss = shown_append xs ys (shown_more x ss)

plain_more : (l : Line) (ss : List Settlement) → is_plain l ≡ true → shown_more l ss ≡ ss
plain_more (line.Committed tid serial moment) ss h = let no : ⊥ = cc in absurd no
plain_more (line.Aborted tid serial reason moment) ss h = let no : ⊥ = cc in absurd no
plain_more (line.LastCommitted tid serial moment) ss h = let no : ⊥ = cc in absurd no
plain_more (line.LastAborted tid serial reason moment) ss h = let no : ⊥ = cc in absurd no
plain_more _ ss h = refl

pub shown_plain : (ls : List Line) (ss : List Settlement) → ArePlain ls → shown_on ls ss ≡ ss
shown_plain [] ss h = refl
shown_plain (l ∷ ls) ss h = ap (shown_on ls) (plain_more l ss h.0) ∙ shown_plain ls ss h.1

pub shown_stays : (ls : List Line) (ss : List Settlement) (s : Settlement) → In s ss → In s (shown_on ls ss)
shown_stays [] ss s i = i
shown_stays (l ∷ ls) ss s i = shown_stays ls (shown_more l ss) s (go (settlement_in l))
  where
    go : (o : Option Settlement) → In s (elim o [ Some t ↦ t ∷ ss | None ↦ ss ])
    go (Some t) = inr i
    go None = i

-- What was shown was so before, or by one of the lines.
pub shown_from : (ls : List Line) (ss : List Settlement) (s : Settlement) → In s (shown_on ls ss) → In s ss ⊎ ((l : Line) × In l ls × (settlement_in l ≡ Some s))
shown_from [] ss s i = inl i
shown_from (l ∷ ls) ss s i = elim (shown_from ls (shown_more l ss) s i) [
  | inl j ↦ go (settlement_in l) refl j
  | inr k ↦ inr (k.0, inr k.1, k.2)
]
  where
    go : (o : Option Settlement) → settlement_in l ≡ o → In s (elim o [ Some t ↦ t ∷ ss | None ↦ ss ]) → In s ss ⊎ ((m : Line) × In m (l ∷ ls) × (settlement_in m ≡ Some s))
    go (Some t) e (inl same) = inr (l, inl refl, e ∙ ap Some (sym same))
    go (Some t) e (inr j) = inl j
    go None e j = inl j

-- What is known.

-- only an abort has a reason
abbrev pub IsFormed : Settlement → Type 0
IsFormed s = (s ≡ commitment s.tid s.serial s.moment) ⊎ ((reason : Reason) × (s ≡ abort s.tid s.serial reason s.moment))

-- Of a disk: each that is settled is shown, or the last.
pub record IsShownDisk (ss : List Settlement) (d : Durable) (settled : List Settlement) : Type 0 where
  pub formed : (s : Settlement) → In s settled → IsFormed s
  pub shown : (s : Settlement) → In s settled → In s ss ⊎ (d.last ≡ Some s)

-- Of a node that is up or booted: each is shown.
pub record IsShownUp (ss : List Settlement) (settled : List Settlement) : Type 0 where
  pub formed : (s : Settlement) → In s settled → IsFormed s
  pub shown : (s : Settlement) → In s settled → In s ss

abbrev pub shown : Scheme
shown = record { Told = List Settlement; more = shown_on; Up = λ free ss n. IsShownUp ss n.settled; Disk = λ ss n. IsShownDisk ss n.durable n.settled; Boots = λ ss n. IsShownUp ss n.settled; Ready = λ n. Unit {0}; Takes = λ o. Unit {0}; special = λ r. false }

up_disk : (ss : List Settlement) (n : Node) → IsShownUp ss n.settled → IsShownDisk ss n.durable n.settled
up_disk ss n h = record { formed = h.formed; shown = λ s i. inl (h.shown s i) }

pub formed_settlement : (k : BranchKey) (o : Outcome) (reason : Reason) (moment : ℕ) → IsFormed (settlement k o reason moment)
formed_settlement k Commit reason moment = inl refl
formed_settlement k Abort reason moment = inr (reason, refl)

-- the line of a settlement shows it
line_shows : (k : BranchKey) (o : Outcome) (reason : Reason) (moment : ℕ) (ss : List Settlement) → In (settlement k o reason moment) (shown_on (settled_line k o reason moment ∷ []) ss)
line_shows k Commit reason moment ss = inl refl
line_shows k Abort reason moment ss = inl refl

-- a settlement that its line shows
settles_up : (ls : List Line) (s : Settlement) (ss settled : List Settlement) → IsFormed s → In s (shown_on ls ss) → IsShownUp ss settled → IsShownUp (shown_on ls ss) (s ∷ settled)
settles_up ls s ss settled formed here h = record {
  formed = λ x i. elim i [ inl e ↦ subst IsFormed (sym e) formed | inr j ↦ h.formed x j ];
  shown = λ x i. elim i [ inl e ↦ subst (λ y. In y (shown_on ls ss)) (sym e) here | inr j ↦ shown_stays ls ss x (h.shown x j) ];
}

more_up : (ls : List Line) (ss settled : List Settlement) → IsShownUp ss settled → IsShownUp (shown_on ls ss) settled
more_up ls ss settled h = record { formed = h.formed; shown = λ s i. shown_stays ls ss s (h.shown s i) }

-- a settlement that is the last
settles_disk : (s : Settlement) (ss settled : List Settlement) (d : Durable) → d.last ≡ Some s → IsFormed s → IsShownUp ss settled → IsShownDisk ss d (s ∷ settled)
settles_disk s ss settled d last formed h = record {
  formed = λ x i. elim i [ inl e ↦ subst IsFormed (sym e) formed | inr j ↦ h.formed x j ];
  shown = λ x i. elim i [ inl e ↦ inr (last ∙ ap Some (sym e)) | inr j ↦ inl (h.shown x j) ];
}

-- Rows.

row_up : (free : Bool) (r : Row) (n : Node) (ss : List Settlement) → RowFits free r n → IsShownUp ss n.settled → IsShownUp (shown_on r.lines ss) (node_after r.act n).settled
row_up free r n ss f h = go r.act f.fits f.tells
  where
    tabled : (a : table.Act) (moment : ℕ) → Fits free (Some (Tables a moment)) n → TellsAct (Some (Tables a moment)) r.lines n → IsShownUp (shown_on r.lines ss) (settled_more (settlement_of a moment) n.settled)
    tabled (Settles k o reason q) moment fits tells = settles_up r.lines (settlement k o reason moment) ss n.settled (formed_settlement k o reason moment) (subst (λ ls. In (settlement k o reason moment) (shown_on ls ss)) (sym tells) (line_shows k o reason moment ss)) h
    tabled (Undoes k) moment fits tells = settles_up r.lines (settlement k Abort SegFail moment) ss n.settled (formed_settlement k Abort SegFail moment) (subst (λ ls. In (settlement k Abort SegFail moment) (shown_on ls ss)) (sym tells) (line_shows k Abort SegFail moment ss)) h
    tabled _ moment fits tells = more_up r.lines ss n.settled h

    go : (o : Option Act) → Fits free o n → TellsAct o r.lines n → IsShownUp (shown_on r.lines ss) (node_after o n).settled
    go None fits tells = more_up r.lines ss n.settled h
    go (Some (Tables a moment)) fits tells = tabled a moment fits tells
    go (Some (Directs file cs s)) fits tells = settles_up r.lines s ss n.settled (inl (direct s fits)) (subst (λ ls. In s (shown_on ls ss)) (sym tells) (inl (direct s fits))) h
      where
        direct : (s : Settlement) → s ≡ answers.commit_settlement n (world.next_id n) (world.next_id n) → s ≡ commitment s.tid s.serial s.moment
        direct s e = e ∙ ap (λ (x : Settlement). commitment x.tid x.serial x.moment) (sym e)
    go (Some _) fits tells = more_up r.lines ss n.settled h

-- what is under way settles last
under_disk : (act : Act) (n : Node) (ss : List Settlement) → (free : Bool) → Fits free (Some act) n → IsShownUp ss n.settled → IsShownDisk ss (acted act n).durable (acted act n).settled
under_disk (Tables a moment) n ss free fits h = go a
  where
    go : (a : table.Act) → IsShownDisk ss (acted (Tables a moment) n).durable (settled_more (settlement_of a moment) n.settled)
    go (Settles k o reason q) = settles_disk (settlement k o reason moment) ss n.settled _ refl (formed_settlement k o reason moment) h
    go (Undoes k) = settles_disk (settlement k Abort SegFail moment) ss n.settled _ refl (formed_settlement k Abort SegFail moment) h
    go _ = record { formed = h.formed; shown = λ s i. inl (h.shown s i) }
under_disk (Directs file cs s) n ss free fits h = settles_disk s ss n.settled _ refl (inl (fits ∙ ap (λ (x : Settlement). commitment x.tid x.serial x.moment) (sym fits))) h
under_disk _ n ss free fits h = record { formed = h.formed; shown = λ s i. inl (h.shown s i) }

-- Boots.

half_disk : (ss : List Settlement) (o : Option Id) (standing : List ℕ → Map) (d : Durable) (settled : List Settlement) → IsShownDisk ss d settled → IsShownDisk ss (with_half o standing d) settled
half_disk ss None standing d settled h = h
half_disk ss (Some serial) standing d settled h = record { formed = h.formed; shown = h.shown }

-- the line of the last settlement of a disk shows it
last_shows : (s : Settlement) (ss : List Settlement) → IsFormed s → In s (shown_on (last_line s) ss)
last_shows s ss (inl e) = subst (λ (x : Settlement). In x (shown_on (last_line x) ss)) (sym e) (inl refl)
last_shows s ss (inr r) = subst (λ (x : Settlement). In x (shown_on (last_line x) ss)) (sym r.1) (inl refl)

boots_up : (ss : List Settlement) (n : Node) → IsShownDisk ss n.durable n.settled → IsShownUp (shown_on (last_lines n) ss) n.settled
boots_up ss n h = record {
  formed = h.formed;
  shown = λ s i. elim (h.shown s i) [
    | inl j ↦ shown_stays (last_lines n) ss s j
    | inr e ↦ subst (λ ls. In s (shown_on ls ss)) (ap (λ (o : Option Settlement). elim o as (λ x. List Line) [ Some t ↦ last_line t | None ↦ [] ]) (sym e)) (last_shows s ss (h.formed s i))
  ];
}

pub shown_keeps : Keeps shown
shown_keeps = record {
  none = λ a. refl;
  append = shown_append;
  plain = λ ls a h v. shown_plain ls a h;
  closes = closes_plain shown (λ ls a h. shown_plain ls a h);
  same = λ a n m name durable settled h. subst (λ d. IsShownDisk a d m.settled) (sym durable) (subst (IsShownDisk a n.durable) (sym settled) h);
  row = λ free r n a q f up h. row_up free r n a f h;
  under = λ free r n a act q f is d up h. under_disk act n a free (subst (λ o. Fits free o n) is f.fits) h;
  falls = λ free a n up h. up_disk a n h;
  weaken = λ free a n h. h;
  half = λ a n standing k ready may h. half_disk a (aborted_prepared n.under_way n.durable) standing n.durable n.settled h;
  spoils = λ a n h. record { formed = h.formed; shown = h.shown };
  boots = λ a n k h. boots_up a n h;
  booting = λ a n k h. record { formed = h.formed; shown = h.shown };
  undoes = λ a n u next h. settles_up (settled_line (unit_key u) Abort SegFail (next_moment n) ∷ []) (settlement (unit_key u) Abort SegFail (next_moment n)) a n.settled (formed_settlement (unit_key u) Abort SegFail (next_moment n)) (line_shows (unit_key u) Abort SegFail (next_moment n) a) h;
  undoing = λ a n u next h. settles_disk (settlement (unit_key u) Abort SegFail (next_moment n)) a n.settled (undone_unit n u).durable refl (formed_settlement (unit_key u) Abort SegFail (next_moment n)) h;
  rests = λ a n k h. up_disk a n h;
  none_ready = λ n e. tt;
  same_ready = λ n m e h. tt;
  comes = λ a n up h closed. h;
}

-- Transcripts.

more_kept : (ls : List Line) (ss : List Settlement) (n : Node) → Kept shown shown_keeps ss n → Kept shown shown_keeps (shown_on ls ss) n
more_kept ls ss n h = record { disk = more h.disk; way = λ act e. more (h.way act e); runs = λ up. more_up ls ss n.settled (h.runs up) }
  where
    more : {d : Durable} {settled : List Settlement} → IsShownDisk ss d settled → IsShownDisk (shown_on ls ss) d settled
    more k = record { formed = k.formed; shown = λ s i. elim (k.shown s i) [ inl j ↦ inl (shown_stays ls ss s j) | inr e ↦ inr e ] }

pub shown_tracks : (node : List ℕ) → Tracks shown shown_keeps node
shown_tracks node = record {
  own = λ a s stops n task c rises named sound plain ready may h. any_effect shown shown_keeps s stops n a sound.kept h (unused s n sound)
      (λ off slots journal m none. record { formed = λ x i. absurd (subst (In x) none i); shown = λ x i. absurd (subst (In x) none i) }) task (λ off. all_take shown (λ o. tt) ((answers.task_service task).rows s n)) ready c rises may;
  beside = λ a s stops n m task c rises other sound may h. more_kept (task_effect s stops m task c).lines a n h;
}

-- all that these entries show
abbrev pub shown_of : List Entry → List Settlement
shown_of [] = []
shown_of (e ∷ es) = shown_on e.lines (shown_of es)

pub shown_is : (es : List Entry) (s : Settlement) → In s (shown_of es) → IsShown s es
shown_is [] s i = absurd i
shown_is (e ∷ es) s i = elim (shown_from e.lines (shown_of es) s i) [
  | inl j ↦ let r = shown_is es s j in (r.0, r.1, inr r.2, r.3, r.4)
  | inr k ↦ (e, k.0, inl refl, k.1, k.2)
]

plain_reading : (node : List ℕ) (r : Reading) → IsPlainReading shown shown_keeps node (shown_tracks node) r
plain_reading node (Says (At other request)) = go (bytes_eq other node)
  where
    go : (b : Bool) → (b && false) ≡ false
    go true = refl
    go false = refl
plain_reading node (Says _) = tt
plain_reading node _ = tt

pub legal_shown : (nodes : List Node) (disks : List DiskCounts) (es : List Entry) (w : World) (node : List ℕ) → AreOpening nodes → Legal (opened nodes disks) es w → Tracked shown shown_keeps node (shown_of es) w
legal_shown nodes disks [] w node opening legal = subst (Tracked shown shown_keeps node []) (sym legal) (λ n found. at n (each_opening nodes opening node n found))
  where
    none : (n : Node) → IsOpening n → {A : Type 0} → (s : Settlement) → In s n.settled → A
    none n o s i = absurd (subst (In s) o.settled i)

    at : (n : Node) → IsOpening n → Kept shown shown_keeps [] n
    at n o = record {
      disk = record { formed = λ s i. none n o s i; shown = λ s i. none n o s i };
      way = λ act e. let clash : ◌≡◌ {A = Option Act} None (Some act) = sym o.under_way ∙ e in let no : ⊥ = cc in absurd no;
      runs = λ up. absurd (both_ways n.up o.down up);
    }
legal_shown nodes disks (e ∷ es) w node opening legal =
    turn_tracked shown shown_keeps node (shown_tracks node) legal.0 w (λ n found. tt) (reading e.source.text) e.lines (shown_of es) (plain_reading node (reading e.source.text)) legal.2 (legal_sound (opened nodes disks) legal.0 es (opening_sound nodes disks opening) legal.1) (legal_shown nodes disks es legal.0 node opening legal.1)

pub shown_hold : ShownHold
shown_hold nodes disks es closing opening legal node s i = go (find_node node closing.nodes) refl i
  where
    go : (o : Option Node) → find_node node closing.nodes ≡ o → In s (elim o [ Some n ↦ n.settled | None ↦ [] ]) → (s.serial.node ≡ node) × (IsShown s es ⊎ IsLastWhileDown node s closing)
    go (Some n) found j =
        let sound = legal_sound (opened nodes disks) closing es (opening_sound nodes disks opening) legal in
        let h = legal_shown nodes disks es closing node opening legal n found in
        (((sound.once node n found).disk.own s j).0 ∙ found_name node closing.nodes n found, either n found j h n.up refl)
      where
        either : (n : Node) → find_node node closing.nodes ≡ Some n → In s n.settled → Kept shown shown_keeps (shown_of es) n → (b : Bool) → n.up ≡ b → IsShown s es ⊎ IsLastWhileDown node s closing
        either n found j h true up = inl (shown_is es s ((h.runs up).shown s j))
        either n found j h false up = elim (h.disk.shown s j) [ inl k ↦ inl (shown_is es s k) | inr e ↦ inr (n, found, e, up) ]
    go None found j = absurd j
