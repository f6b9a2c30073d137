-- What a boot shows as the last settlement of its disk is later than all that were shown of its node in their statements.
use Rattle.std.proofs.Common.{◌≡◌, ◌≤◌, ◌<◌, ℕ, ◌⊎◌, List, [], ◌∷◌, ◌++◌, inl, inr, Bool, true, false, ◌&&◌, Option, Some, None, if◌then◌else◌, refl, sym, ◌∙◌, ap, subst, arith}
use Rattle.std.specs.Str.{bytes_eq}
use Rattle.std.proofs.lemmas.Bool.{both_ways}
use Rattle.vms_model.specs.Ids.{Id}
use Rattle.vms_model.specs.Transactions.{Outcome, Commit, Abort, Reason, SegFail}
use Rattle.run_said.specs.transcript_model.Lines as line
use Rattle.run_said.specs.transcript_model.Lines.{Line, Cause}
use Rattle.run_said.specs.script_model.Statements.{At, Reading, Says}
use Rattle.run_said.specs.script_model.Grammar.{reading}
use Rattle.unit_laws.specs.Units.{Map}
use Rattle.unit_laws.specs.Journal.{RecoveryUnit}
use Rattle.commit_protocol.specs.Table as table
use Rattle.commit_protocol.specs.Table.{Key as BranchKey, Settles, Undoes}
use Rattle.commit_protocol.specs.World.{In}
use Rattle.run_said.specs.run_model.World.{World, Node, Durable, DiskCounts, Act, Boots, ComesUp, Directs, Formats, Tables, Settlement, IsOpening, aborted_prepared, acted, find_node, next_moment, opened, settlement, with_half}
use Rattle.run_said.specs.run_model.Answers.{Row, last_line, last_lines, settled_line, task_service, unit_key}
use Rattle.run_said.specs.run_model.Steps.{node_after, task_effect}
use Rattle.run_said.specs.run_model.Transcript.{Entry, Legal, AreOpening}
use Rattle.run_laws.specs.Promises.{WasShownSo, abort, commitment, last_in, settlement_in, shown_in}
use Rattle.recovery_laws.proofs.world_laws.FindLemmas.{some_is}
use Rattle.recovery_laws.proofs.world_laws.RestartLemmas.{undone_unit}
use Rattle.recovery_laws.proofs.world_laws.WorldLemmas.{each_opening}
use Rattle.run_laws.proofs.EachRow.{ArePlain, is_plain}
use Rattle.run_laws.proofs.Keeping.{Keeps, Kept, Scheme, all_take, any_effect, closes_plain}
use Rattle.run_laws.proofs.Moments.{later_moment}
use Rattle.run_laws.proofs.OwnLines.{line_in, task_owns}
use Rattle.run_laws.proofs.RowFits.{Fits, RowFits, TellsAct}
use Rattle.run_laws.proofs.SoundWorlds.{IsPlainReading, Tracked, Tracks, legal_sound, opening_sound, turn_tracked, unused}

-- Lines that tell of settlements, the newest first.

abbrev pub told_more : Line → List Line → List Line
told_more l a = if is_plain l then a else l ∷ a

abbrev pub told_on : List Line → List Line → List Line
told_on [] a = a
told_on (l ∷ ls) a = told_on ls (told_more l a)

told_append : (xs ys : List Line) (a : List Line) → told_on (xs ++ ys) a ≡ told_on ys (told_on xs a)
told_append [] ys a = refl
told_append (x ∷ xs) ys a = told_append xs ys (told_more x a)

told_plain : (ls : List Line) (a : List Line) → ArePlain ls → told_on ls a ≡ a
told_plain [] a h = refl
told_plain (l ∷ ls) a h = ap (told_on ls) (ap (λ b. if b then a else l ∷ a) h.0) ∙ told_plain ls a h.1

told_stays : (ls : List Line) (a : List Line) (l : Line) → In l a → In l (told_on ls a)
told_stays [] a l i = i
told_stays (x ∷ ls) a l i = told_stays ls (told_more x a) l (go (is_plain x))
  where
    go : (b : Bool) → In l (if b then a else x ∷ a)
    go true = i
    go false = inr i

told_there : (ls : List Line) (a : List Line) (l : Line) → In l ls → is_plain l ≡ false → In l (told_on ls a)
told_there [] a l i e = absurd i
told_there (x ∷ ls) a l i e = elim i [
  | inl same ↦ told_stays ls (told_more x a) l (subst (λ b. In l (if b then a else x ∷ a)) (sym (ap is_plain (sym same) ∙ e)) (inl same))
  | inr j ↦ told_there ls (told_more x a) l j e
]

shown_told : (l : Line) (s : Settlement) → shown_in l ≡ Some s → is_plain l ≡ false
shown_told (line.Committed tid serial moment) s e = refl
shown_told (line.Aborted tid serial reason moment) s e = refl
shown_told _ s e = let no : ⊥ = cc in absurd no

last_told : (l : Line) (s : Settlement) → last_in l ≡ Some s → is_plain l ≡ false
last_told (line.LastCommitted tid serial moment) s e = refl
last_told (line.LastAborted tid serial reason moment) s e = refl
last_told _ s e = let no : ⊥ = cc in absurd no

-- What is known.

-- a last settlement is later than those of this node that are shown in these lines
abbrev IsLater : List ℕ → Line → List Line → Type 0
IsLater name l ls = (s : Settlement) → last_in l ≡ Some s → s.serial.node ≡ name → (m : Line) (t : Settlement) → In m ls → shown_in m ≡ Some t → t.serial.node ≡ name → t.moment ≤ s.moment

abbrev pub AreLater : List ℕ → List Line → Type 0
AreLater name [] = Unit {0}
AreLater name (l ∷ ls) = IsLater name l ls × AreLater name ls

pub record IsNewest (a : List Line) (node : List ℕ) (d : Durable) (ss : List Settlement) : Type 0 where
  pub within : (s : Settlement) → In s ss → s.moment ≤ d.greatest
  pub last : (ss ≡ []) ⊎ ((s : Settlement) × (d.last ≡ Some s) × (s.moment ≡ d.greatest) × In s ss)
  pub told : (l : Line) (s : Settlement) → In l a → shown_in l ≡ Some s → s.serial.node ≡ node → In s ss
  pub later : AreLater node a

abbrev pub NodeNewest : List ℕ → List Line → Node → Type 0
NodeNewest node a n = IsNewest a node n.durable n.settled

abbrev pub newest : List ℕ → Scheme
newest node = record { Told = List Line; more = told_on; Up = λ free a n. NodeNewest node a n; Disk = NodeNewest node; Boots = NodeNewest node; Ready = λ n. Unit {0}; Takes = λ o. Unit {0}; special = λ r. false }

-- Of one node.

module _ (node : List ℕ) where
  -- a line more that shows in its statement what is settled, or another node's
  shown_later : (l : Line) (a : List Line) → last_in l ≡ None → AreLater node a → AreLater node (l ∷ a)
  shown_later l a none h = ((λ s e. let clash : ◌≡◌ {A = Option Settlement} None (Some s) = sym none ∙ e in let no : ⊥ = cc in absurd no), h)

  -- what a disk has that is settled later
  settles_disk : (a : List Line) (s : Settlement) (d new : Durable) (ss : List Settlement) → d.greatest < s.moment → new.greatest ≡ s.moment → new.last ≡ Some s → IsNewest a node d ss → IsNewest a node new (s ∷ ss)
  settles_disk a s d new ss late greatest last h = record {
    within = λ x i. elim i [
      | inl e ↦ subst (λ (y : Settlement). y.moment ≤ new.greatest) (sym e) (omega (arith, greatest))
      | inr j ↦ (let w = h.within x j in omega (arith, w, late, greatest))
    ];
    last = inr (s, last, sym greatest, inl refl);
    told = λ l x i e own. inr (h.told l x i e own);
    later = h.later;
  }

  -- and shown so
  settles_told : (a : List Line) (l : Line) (s : Settlement) (d : Durable) (ss : List Settlement) → last_in l ≡ None → shown_in l ≡ Some s → IsNewest a node d (s ∷ ss) → IsNewest (l ∷ a) node d (s ∷ ss)
  settles_told a l s d ss none shows h = record {
    within = h.within;
    last = h.last;
    told = λ m x i e own. elim i [ inl same ↦ inl (some_is x s (sym e ∙ ap shown_in same ∙ shows)) | inr j ↦ h.told m x j e own ];
    later = shown_later l a none h.later;
  }

  settled_told : (a : List Line) (k : BranchKey) (o : Outcome) (reason : Reason) (moment : ℕ) (d : Durable) (ss : List Settlement) → IsNewest a node d (settlement k o reason moment ∷ ss) → IsNewest (told_on (settled_line k o reason moment ∷ []) a) node d (settlement k o reason moment ∷ ss)
  settled_told a k Commit reason moment d ss h = settles_told a (line.Committed k.tid k.serial moment) (settlement k Commit reason moment) d ss refl refl h
  settled_told a k Abort reason moment d ss h = settles_told a (line.Aborted k.tid k.serial reason moment) (settlement k Abort reason moment) d ss refl refl h

  -- nothing is settled
  rests_newest : (a : List Line) (n m : Node) → m.durable.greatest ≡ n.durable.greatest → m.durable.last ≡ n.durable.last → m.settled ≡ n.settled → NodeNewest node a n → NodeNewest node a m
  rests_newest a n m greatest last settled h = record {
    within = λ s i. subst (λ k. s.moment ≤ k) (sym greatest) (h.within s (before s i));
    last = elim h.last [ inl none ↦ inl (settled ∙ none) | inr r ↦ inr (r.0, last ∙ r.1, r.2 ∙ sym greatest, subst (In r.0) (sym settled) r.3) ];
    told = λ l s i e own. subst (In s) (sym settled) (h.told l s i e own);
    later = h.later;
  }
    where
      before : (s : Settlement) → In s m.settled → In s n.settled
      before s i = subst (In s) settled i

  -- Acts.

  -- what an act leaves that settles nothing
  abbrev settles : Act → Bool
  settles (Tables (Settles k o reason r) moment) = true
  settles (Tables (Undoes k) moment) = true
  settles (Directs file cs s) = true
  settles (Formats slots journal) = true
  settles _ = false

  quiet_act : (a : List Line) (act : Act) (n : Node) → settles act ≡ false → NodeNewest node a n → NodeNewest node a (acted act n)
  quiet_act a act n off h = rests_newest a n (acted act n) (greatest act off) (last act off) (settled act off) h
    where
      greatest : (act : Act) → settles act ≡ false → (acted act n).durable.greatest ≡ n.durable.greatest
      greatest (Tables (Settles k o reason r) moment) e = let no : ⊥ = cc in absurd no
      greatest (Tables (Undoes k) moment) e = let no : ⊥ = cc in absurd no
      greatest (Tables _ moment) e = refl
      greatest (Directs file cs s) e = let no : ⊥ = cc in absurd no
      greatest (Formats slots journal) e = let no : ⊥ = cc in absurd no
      greatest _ e = refl

      last : (act : Act) → settles act ≡ false → (acted act n).durable.last ≡ n.durable.last
      last (Tables (Settles k o reason r) moment) e = let no : ⊥ = cc in absurd no
      last (Tables (Undoes k) moment) e = let no : ⊥ = cc in absurd no
      last (Tables _ moment) e = refl
      last (Directs file cs s) e = let no : ⊥ = cc in absurd no
      last (Formats slots journal) e = let no : ⊥ = cc in absurd no
      last _ e = refl

      settled : (act : Act) → settles act ≡ false → (acted act n).settled ≡ n.settled
      settled (Tables (Settles k o reason r) moment) e = let no : ⊥ = cc in absurd no
      settled (Tables (Undoes k) moment) e = let no : ⊥ = cc in absurd no
      settled (Tables _ moment) e = refl
      settled (Directs file cs s) e = let no : ⊥ = cc in absurd no
      settled (Formats slots journal) e = let no : ⊥ = cc in absurd no
      settled _ e = refl

  now_later : (n : Node) (moment : ℕ) → moment ≡ next_moment n → n.durable.greatest < moment
  now_later n moment now = subst (λ k. n.durable.greatest < k) (sym now) (later_moment n)

  -- what an act leaves that a row has, where its lines are not told yet
  acted_newest : (free : Bool) (act : Act) (n : Node) (a : List Line) → Fits free (Some act) n → NodeNewest node a n → NodeNewest node a (acted act n)
  acted_newest free (Tables (Settles k o reason r) moment) n a f h = settles_disk a (settlement k o reason moment) n.durable _ n.settled (now_later n moment f.now) refl refl h
  acted_newest free (Tables (Undoes k) moment) n a f h = absurd f.row
  acted_newest free (Tables x moment) n a f h = quiet_act a (Tables x moment) n refl h
  acted_newest free (Directs file cs s) n a f h = settles_disk a s n.durable _ n.settled (now_later n s.moment (ap (λ (x : Settlement). x.moment) f)) refl refl h
  acted_newest free (Formats slots journal) n a f h = absurd f
  acted_newest free act n a f h = quiet_act a act n refl h

  -- and where they are
  row_newest : (free : Bool) (r : Row) (n : Node) (a : List Line) → RowFits free r n → NodeNewest node a n → NodeNewest node (told_on r.lines a) (node_after r.act n)
  row_newest free r n a f h = go r.act f.fits f.tells
    where
      plainly : (m : Node) → ArePlain r.lines → NodeNewest node a m → NodeNewest node (told_on r.lines a) m
      plainly m p k = subst (λ b. NodeNewest node b m) (sym (told_plain r.lines a p)) k

      tabled : (x : table.Act) (moment : ℕ) → Fits free (Some (Tables x moment)) n → TellsAct (Some (Tables x moment)) r.lines n → NodeNewest node (told_on r.lines a) (acted (Tables x moment) n)
      tabled (Settles k o reason q) moment g t = subst (λ ls. NodeNewest node (told_on ls a) (acted (Tables (Settles k o reason q) moment) n)) (sym t)
          (settled_told a k o reason moment (acted (Tables (Settles k o reason q) moment) n).durable n.settled (acted_newest free (Tables (Settles k o reason q) moment) n a g h))
      tabled (Undoes k) moment g t = absurd g.row
      tabled x moment g t = plainly (acted (Tables x moment) n) t (acted_newest free (Tables x moment) n a g h)

      go : (o : Option Act) → Fits free o n → TellsAct o r.lines n → NodeNewest node (told_on r.lines a) (node_after o n)
      go None g t = plainly n t h
      go (Some (Tables x moment)) g t = tabled x moment g t
      go (Some (Directs file cs s)) g t = subst (λ ls. NodeNewest node (told_on ls a) (acted (Directs file cs s) n)) (sym t)
          (settles_told a (line.Committed s.tid s.serial s.moment) s (acted (Directs file cs s) n).durable n.settled refl
          (ap Some (sym (g ∙ ap (λ (x : Settlement). commitment x.tid x.serial x.moment) (sym g)))) (acted_newest free (Directs file cs s) n a g h))
      go (Some Boots) g t = absurd g
      go (Some (Formats slots journal)) g t = absurd g
      go (Some ComesUp) g t = absurd g
      go (Some act) g t = plainly (acted act n) t (acted_newest free act n a g h)

  -- A boot.

  half_newest : (a : List Line) (o : Option Id) (standing : List ℕ → Map) (d : Durable) (ss : List Settlement) → IsNewest a node d ss → IsNewest a node (with_half o standing d) ss
  half_newest a None standing d ss h = h
  half_newest a (Some serial) standing d ss h = record { within = h.within; last = h.last; told = h.told; later = h.later }

  -- the line of a last settlement that its disk has
  lasts_newest : (a : List Line) (n : Node) → NodeNewest node a n → NodeNewest node (told_on (last_lines n) a) n
  lasts_newest a n h = go n.durable.last refl
    where
      line_newest : (s : Settlement) (l : Line) (x : Settlement) → n.durable.last ≡ Some s → x.moment ≡ s.moment → last_in l ≡ Some x → shown_in l ≡ None → NodeNewest node (l ∷ a) n
      line_newest s l x e same last none = record {
        within = h.within;
        last = h.last;
        told = λ m y i f own. elim i [ inl here ↦ (let clash : ◌≡◌ {A = Option Settlement} None (Some y) = sym (ap shown_in here ∙ none) ∙ f in let no : ⊥ = cc in absurd no) | inr j ↦ h.told m y j f own ];
        later = (
          (λ y f own m t i shows mine. elim h.last [
            | inl empty ↦ absurd (subst (In t) empty (h.told m t i shows mine))
            | inr r ↦ (let w = h.within t (h.told m t i shows mine) in
                let of : y.moment ≡ n.durable.greatest = ap (λ (z : Settlement). z.moment) (some_is y x (sym f ∙ last)) ∙ same ∙ ap (λ (z : Settlement). z.moment) (some_is s r.0 (sym e ∙ r.1)) ∙ r.2 in
                omega (arith, w, of))
          ]),
          h.later,
        );
      }

      go : (o : Option Settlement) → n.durable.last ≡ o → NodeNewest node (told_on (elim o as (λ x. List Line) [ Some s ↦ last_line s | None ↦ [] ]) a) n
      go None e = h
      go (Some s) e = at s.outcome s.reason
        where
          at : (o : Outcome) (r : Option Reason) → NodeNewest node (told_on (elim o as (λ x. List Line) [ Commit ↦ line.LastCommitted s.tid s.serial s.moment ∷ [] | Abort ↦ elim r as (λ x. List Line) [ Some reason ↦ line.LastAborted s.tid s.serial reason s.moment ∷ [] | None ↦ [] ] ]) a) n
          at Commit r = line_newest s (line.LastCommitted s.tid s.serial s.moment) (commitment s.tid s.serial s.moment) e refl refl refl
          at Abort (Some reason) = line_newest s (line.LastAborted s.tid s.serial reason s.moment) (abort s.tid s.serial reason s.moment) e refl refl refl
          at Abort None = h

  undoing_newest : (a : List Line) (n : Node) (u : RecoveryUnit) → NodeNewest node a n → NodeNewest node a (undone_unit n u)
  undoing_newest a n u h = settles_disk a (settlement (unit_key u) Abort SegFail (next_moment n)) n.durable (undone_unit n u).durable n.settled (later_moment n) refl refl h

  pub newest_keeps : Keeps (newest node)
  newest_keeps = record {
    none = λ a. refl;
    append = told_append;
    plain = λ ls a h v. told_plain ls a h;
    closes = closes_plain (newest node) (λ ls a h. told_plain ls a h);
    same = λ a n m name durable settled h. rests_newest a n m (ap (λ (d : Durable). d.greatest) durable) (ap (λ (d : Durable). d.last) durable) settled h;
    row = λ free r n a q f up h. row_newest free r n a f h;
    under = λ free r n a act q f is d up h. acted_newest free act n a (subst (λ o. Fits free o n) is f.fits) h;
    falls = λ free a n up h. h;
    weaken = λ free a n h. h;
    half = λ a n standing k ready may h. half_newest a (aborted_prepared n.under_way n.durable) standing n.durable n.settled h;
    spoils = λ a n h. record { within = h.within; last = h.last; told = h.told; later = h.later };
    boots = λ a n k h. rests_newest (told_on (last_lines n) a) n (acted Boots n) refl refl refl (lasts_newest a n h);
    booting = λ a n k h. rests_newest a n (acted Boots n) refl refl refl h;
    undoes = λ a n u next h. settled_told a (unit_key u) Abort SegFail (next_moment n) (undone_unit n u).durable n.settled (undoing_newest a n u h);
    undoing = λ a n u next h. undoing_newest a n u h;
    rests = λ a n k h. h;
    none_ready = λ n e. tt;
    same_ready = λ n m e h. tt;
    comes = λ a n up h closed. rests_newest a n (acted ComesUp n) refl refl refl h;
  }

  -- Transcripts.

  -- a node of another name tells nothing of this one
  foreign_newest : (ls : List Line) (a : List Line) (n : Node) → ((l : Line) (s : Settlement) → In l ls → settlement_in l ≡ Some s → s.serial.node ≡ node → ⊥) → NodeNewest node a n → NodeNewest node (told_on ls a) n
  foreign_newest [] a n other h = h
  foreign_newest (l ∷ ls) a n other h = foreign_newest ls (told_more l a) n (λ m s i. other m s (inr i)) (go (is_plain l))
    where
      both : (l : Line) (s : Settlement) → (shown_in l ≡ Some s) ⊎ (last_in l ≡ Some s) → settlement_in l ≡ Some s
      both (line.LastCommitted tid serial moment) s (inl e) = let no : ⊥ = cc in absurd no
      both (line.LastAborted tid serial reason moment) s (inl e) = let no : ⊥ = cc in absurd no
      both (line.LastCommitted tid serial moment) s (inr e) = e
      both (line.LastAborted tid serial reason moment) s (inr e) = e
      both (line.Committed tid serial moment) s (inl e) = e
      both (line.Aborted tid serial reason moment) s (inl e) = e
      both _ s (inl e) = let no : ⊥ = cc in absurd no
      both _ s (inr e) = let no : ⊥ = cc in absurd no

      go : (b : Bool) → NodeNewest node (if b then a else l ∷ a) n
      go true = h
      go false = record {
        within = h.within;
        last = h.last;
        told = λ m s i e own. elim i [ inl same ↦ absurd (other l s (inl refl) (both l s (inl (ap shown_in (sym same) ∙ e))) own) | inr j ↦ h.told m s j e own ];
        later = ((λ s e own m t i shows mine. absurd (other l s (inl refl) (both l s (inr e)) own)), h.later);
      }

  newest_tracks : Tracks (newest node) newest_keeps node
  newest_tracks = record {
    own = λ a s stops n task c rises named sound plain ready may h. any_effect (newest node) newest_keeps s stops n a sound.kept h (unused s n sound)
        (λ off slots journal m none. record {
          within = λ x i. absurd (subst (In x) none i);
          last = inl none;
          told = λ l x i e own. absurd (subst (In x) (unused s n sound off) (h.disk.told l x i e own));
          later = h.disk.later;
        }) task (λ off. all_take (newest node) (λ o. tt) ((task_service task).rows s n)) ready c rises may;
    beside = λ a s stops n m task c rises other sound may h. foreign (task_effect s stops m task c).lines a n (λ l x i e own. other (sym (task_owns s stops m task c rises sound may x (line_in (task_effect s stops m task c).lines l x [] i e)) ∙ own)) h;
  }
    where
      foreign : (ls : List Line) (a : List Line) (n : Node) → ((l : Line) (s : Settlement) → In l ls → settlement_in l ≡ Some s → s.serial.node ≡ node → ⊥) → Kept (newest node) newest_keeps a n → Kept (newest node) newest_keeps (told_on ls a) n
      foreign ls a n other h = record { disk = foreign_newest ls a n other h.disk; way = λ act e. foreign_newest ls a (acted act n) other (h.way act e); runs = λ up. foreign_newest ls a n other (h.runs up) }

  -- all that these entries tell, the newest first
  abbrev pub told_of : List Entry → List Line
  told_of [] = []
  told_of (e ∷ es) = told_on e.lines (told_of es)

  plain_reading : (r : Reading) → IsPlainReading (newest node) newest_keeps node newest_tracks r
  plain_reading (Says (At other request)) = go (bytes_eq other node)
    where
      go : (b : Bool) → (b && false) ≡ false
      go true = refl
      go false = refl
  plain_reading (Says _) = tt
  plain_reading _ = tt

  pub legal_newest : (nodes : List Node) (disks : List DiskCounts) (es : List Entry) (w : World) → AreOpening nodes → Legal (opened nodes disks) es w → Tracked (newest node) newest_keeps node (told_of es) w
  legal_newest nodes disks [] w opening legal = subst (Tracked (newest node) newest_keeps node []) (sym legal) (λ n found. at n (each_opening nodes opening node n found))
    where
      at : (n : Node) → IsOpening n → Kept (newest node) newest_keeps [] n
      at n o = record {
        disk = record { within = λ s i. absurd (subst (In s) o.settled i); last = inl o.settled; told = λ l s i e own. absurd i; later = tt };
        way = λ act e. let clash : ◌≡◌ {A = Option Act} None (Some act) = sym o.under_way ∙ e in let no : ⊥ = cc in absurd no;
        runs = λ up. absurd (both_ways n.up o.down up);
      }
  legal_newest nodes disks (e ∷ es) w opening legal =
      turn_tracked (newest node) newest_keeps node newest_tracks legal.0 w (λ n found. tt) (reading e.source.text) e.lines (told_of es) (plain_reading (reading e.source.text)) legal.2 (legal_sound (opened nodes disks) legal.0 es (opening_sound nodes disks opening) legal.1) (legal_newest nodes disks es legal.0 opening legal.1)

  -- what was shown before is told
  pub was_told : (s : Settlement) (es : List Entry) (front : List Line) → WasShownSo s es front → (l : Line) × In l (told_on front (told_of es)) × (shown_in l ≡ Some s)
  was_told s es front (inl r) = (r.1, told_stays front (told_of es) r.1 (entry es r.2), r.4)
    where
      entry : (es : List Entry) → In r.0 es → In r.1 (told_of es)
      entry [] i = absurd i
      entry (e ∷ es) i = elim i [
        | inl same ↦ told_there e.lines (told_of es) r.1 (subst (λ (x : Entry). In r.1 x.lines) same r.3) (shown_told r.1 s r.4)
        | inr j ↦ told_stays e.lines (told_of es) r.1 (entry es j)
      ]
  was_told s es front (inr r) = (r.0, told_there front (told_of es) r.0 r.1 (shown_told r.0 s r.2), r.2)

  -- what is so of lines is so of the older ones
  older : (ls : List Line) (b : List Line) → AreLater node (told_on ls b) → AreLater node b
  older [] b k = k
  older (x ∷ ls) b k = go (is_plain x) (older ls (told_more x b) k)
    where
      go : (t : Bool) → AreLater node (if t then b else x ∷ b) → AreLater node b
      go true j = j
      go false j = j.1

  -- so it is of a line among others
  among : (front behind : List Line) (l : Line) (a : List Line) (s : Settlement) → last_in l ≡ Some s → AreLater node (told_on (front ++ l ∷ behind) a) → IsLater node l (told_on front a)
  among front behind l a s e h =
      first (subst (AreLater node) (ap (λ b. if b then told_on front a else l ∷ told_on front a) (last_told l s e)) (older behind (told_more l (told_on front a)) (subst (AreLater node) (told_append front (l ∷ behind) a) h)))
    where
      first : AreLater node (l ∷ told_on front a) → IsLater node l (told_on front a)
      first k = k.0

  -- What is shown as a last one is the newest, in the world after these entries.
  pub newest_last : (nodes : List Node) (disks : List DiskCounts) (es after before : List Entry) (e : Entry) (closing : World) → AreOpening nodes → Legal (opened nodes disks) es closing → (n : Node) → find_node node closing.nodes ≡ Some n → es ≡ after ++ e ∷ before →
      (front behind : List Line) (l : Line) (s : Settlement) → e.lines ≡ front ++ l ∷ behind → last_in l ≡ Some s → s.serial.node ≡ node → (t : Settlement) → WasShownSo t before front → t.serial.node ≡ node → t.moment ≤ s.moment
  newest_last nodes disks es after before e closing opening legal n found stands front behind l s shown is own t was mine =
      let h = (legal_newest nodes disks es closing opening legal n found).disk.later in
      let k = at after (subst (λ x. AreLater node (told_of x)) stands h) in
      let w = was_told t before front was in
      among front behind l (told_of before) s is (subst (λ ls. AreLater node (told_on ls (told_of before))) shown k) s is own w.0 t w.1 w.2 mine
    where
      at : (after : List Entry) → AreLater node (told_of (after ++ e ∷ before)) → AreLater node (told_on e.lines (told_of before))
      at [] k = k
      at (x ∷ xs) k = at xs (older x.lines (told_of (xs ++ e ∷ before)) k)
