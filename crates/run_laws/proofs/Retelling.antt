-- A resource manager that is declared is told of each commitment that it is owed, and so again until it forgets.
use Rattle.std.proofs.Common.{◌≡◌, ℕ, List, [], ◌∷◌, ◌++◌, map, inl, inr, Bool, true, false, ◌||◌, Some, if◌then◌else◌, refl, sym, ◌∙◌, ap, subst}
use Rattle.std.proofs.lemmas.Bool.{both_ways}
use Rattle.std.specs.List.{list_any}
use Rattle.vms_model.specs.Ids.{Id}
use Rattle.run_said.specs.transcript_model.Lines as line
use Rattle.run_said.specs.transcript_model.Lines.{Line}
use Rattle.run_said.specs.script_model.Statements.{At, DeclareRm, Says}
use Rattle.run_said.specs.script_model.Grammar.{reading}
use Rattle.commit_protocol.specs.Messages.{CommitEvent, LogRecord, Name, same_name}
use Rattle.commit_protocol.specs.World.{In}
use Rattle.commit_protocol.proofs.Lists.{in_left, in_parts, in_right, same_name-refl, same_name-true}
use Rattle.commit_protocol.proofs.Serials.{in_serial}
use Rattle.commit_protocol.specs.Table.{branch_serials, record_serials}
use Rattle.run_said.specs.log_laws.Slots.{committed_of, records_in, waiting_for}
use Rattle.run_said.specs.run_model.World.{Node, World, find_node, opened}
use Rattle.run_said.specs.run_model.Answers.{declares, owed_line}
use Rattle.run_said.specs.run_model.Statements.{Step}
use Rattle.run_said.specs.run_model.Steps.{lines_of_rows}
use Rattle.run_said.specs.run_model.Transcript.{Legal, Turn}
use Rattle.run_said.proofs.run_model.NodeLists.{found_name, some_is}
use Rattle.recovery_laws.specs.world_laws.Nodes.{IsUp}
use Rattle.run_laws.specs.Owing.{IsOwed, MayForget, NoneForget, OwedStay, RetellsHold, Waits}
use Rattle.run_laws.proofs.Deciding.{in_any, split_legal}
use Rattle.run_laws.proofs.Ending.{Done, done}
use Rattle.run_laws.proofs.Labelling.{served_up}
use Rattle.run_laws.proofs.Owed.{in_table, kept_of, owed, owed_keeps, owed_of, owed_on, owed_tracks, plain_reading}
use Rattle.run_laws.proofs.SoundWorlds.{IsSound, Tracked, legal_sound, opening_sound, sound_node, turn_tracked}

pub owed_stay : OwedStay
owed_stay nodes disks after before w closing opening legal path tid serial rm n m here there none h =
    let sound = legal_sound (opened nodes disks) w before (opening_sound nodes disks opening) legal in
    owed_of tid serial rm m (owed_on tid serial rm w after closing sound path none (λ x found. kept_of tid serial rm x (subst (IsOwed tid serial rm) (some_is n x (sym here ∙ found)) h)) m there)

-- Lines of a DECLARE_RM.

module _ (rm : Name) where
  among : (xs : List Name) → list_any (λ x. same_name x rm) xs ≡ true → In rm xs
  among [] e = let no : ⊥ = cc in absurd no
  among (x ∷ xs) e = go (same_name x rm) refl e (among xs)
    where
      go : (b : Bool) → same_name x rm ≡ b → (b || list_any (λ y. same_name y rm) xs) ≡ true → (list_any (λ y. same_name y rm) xs ≡ true → In rm xs) → In rm (x ∷ xs)
      go true is k more = inl (sym (same_name-true x rm is))
      go false is k more = inr (more k)

  -- each record that waits for the manager is told
  owed_told : (rs : List LogRecord) (r : LogRecord) → In r rs → In rm r.rms → In (owed_line rm r) (map (owed_line rm) (waiting_for rm rs))
  owed_told [] r i w = absurd i
  owed_told (q ∷ rs) r i w = go (list_any (λ x. same_name x rm) q.rms) refl i (λ j. owed_told rs r j w)
    where
      go : (b : Bool) → list_any (λ x. same_name x rm) q.rms ≡ b → In r (q ∷ rs) → (In r rs → In (owed_line rm r) (map (owed_line rm) (waiting_for rm rs))) → In (owed_line rm r) (map (owed_line rm) (if b then q ∷ waiting_for rm rs else waiting_for rm rs))
      go true is (inl same) more = inl (ap (owed_line rm) same)
      go true is (inr j) more = inr (more j)
      go false is (inl same) more = absurd (both_ways (list_any (λ x. same_name x rm) q.rms) is (in_any (λ x. same_name x rm) rm q.rms (subst (λ (x : LogRecord). In rm x.rms) same w) (same_name-refl rm)))
      go false is (inr j) more = more j

  -- and what is told is of such a record
  told_owed : (rs : List LogRecord) (l : Line) → In l (map (owed_line rm) (waiting_for rm rs)) → (r : LogRecord) × In r rs × In rm r.rms × (l ≡ owed_line rm r)
  told_owed [] l i = absurd i
  told_owed (q ∷ rs) l i = go (list_any (λ x. same_name x rm) q.rms) refl i (told_owed rs l)
    where
      go : (b : Bool) → list_any (λ x. same_name x rm) q.rms ≡ b → In l (map (owed_line rm) (if b then q ∷ waiting_for rm rs else waiting_for rm rs)) → (In l (map (owed_line rm) (waiting_for rm rs)) → (r : LogRecord) × In r rs × In rm r.rms × (l ≡ owed_line rm r)) →
          (r : LogRecord) × In r (q ∷ rs) × In rm r.rms × (l ≡ owed_line rm r)
      go true is (inl e) more = (q, inl refl, among q.rms is, e)
      go true is (inr j) more = let x = more j in (x.0, inr x.1, x.2, x.3)
      go false is j more = let x = more j in (x.0, inr x.1, x.2, x.3)

  serial_told : (tid serial : Id) (r : LogRecord) → line.ManagerTold CommitEvent tid serial rm ≡ owed_line rm r → r.serial ≡ serial
  serial_told tid serial r e = cc

  tid_told : (tid serial : Id) (r : LogRecord) → line.ManagerTold CommitEvent tid serial rm ≡ owed_line rm r → r.tid ≡ tid
  tid_told tid serial r e = cc

  -- what was declared, and what was shown for it
  module _ (w v : World) (node : List ℕ) (events : List Line) (step : Step w (At node (DeclareRm rm)) (events ++ line.Normal ∷ []) v) where
    pub declared : Done w v node (DeclareRm rm) events line.Normal
    declared = done w v node (DeclareRm rm) events line.Normal refl refl refl refl (λ cause e. let no : ⊥ = cc in no) step

    abbrev lines : Node → List Line
    lines n = map (owed_line rm) (waiting_for rm (committed_of (records_in n.durable.log)))

    shows : events ≡ lines_of_rows (declares declared.n rm) ++ []
    shows = declared.shows

    pub shows_owed : (tid serial : Id) → Waits tid serial rm declared.n.durable → In (line.ManagerTold CommitEvent tid serial rm) events
    shows_owed tid serial (r, i, s, t, k) = subst (In (line.ManagerTold CommitEvent tid serial rm)) (sym shows)
        (in_left (line.ManagerTold CommitEvent tid serial rm) (lines_of_rows (declares declared.n rm)) [] (in_left (line.ManagerTold CommitEvent tid serial rm) (lines declared.n) []
        (subst (λ (x : Id × Id). In (line.ManagerTold CommitEvent x.0 x.1 rm) (lines declared.n)) (λ j. (t j, s j)) (owed_told (committed_of (records_in declared.n.durable.log)) r i k))))

    pub owed_shown : (tid serial : Id) → In (line.ManagerTold CommitEvent tid serial rm) events → Waits tid serial rm declared.n.durable
    owed_shown tid serial i = of (only (lines_of_rows (declares declared.n rm)) (subst (In (line.ManagerTold CommitEvent tid serial rm)) shows i))
      where
        only : (ls : List Line) → In (line.ManagerTold CommitEvent tid serial rm) (ls ++ []) → In (line.ManagerTold CommitEvent tid serial rm) ls
        only ls j = elim (in_parts (line.ManagerTold CommitEvent tid serial rm) ls [] j) [ inl k ↦ k | inr none ↦ absurd none ]

        of : In (line.ManagerTold CommitEvent tid serial rm) (lines declared.n ++ []) → Waits tid serial rm declared.n.durable
        of j = let x = told_owed (committed_of (records_in declared.n.durable.log)) (line.ManagerTold CommitEvent tid serial rm) (only (lines declared.n) j) in (x.0, x.1, serial_told tid serial x.0 x.3, tid_told tid serial x.0 x.3, x.2)

-- The record of a node that is up is of a branch of that node.
pub record_home : (n : Node) → IsUp n → (r : LogRecord) → In r n.volatile.records → r.serial.node ≡ n.name
record_home n up r i = (up.table.drawn r.serial (in_right r.serial (branch_serials n.volatile.branches) (record_serials n.volatile.records) (in_serial r n.volatile.records i))).0

not_forgetting : (node other : List ℕ) (rm : Name) → MayForget node rm (Says (At other (DeclareRm rm))) → ⊥
not_forgetting node other rm (inl (who, e)) = let no : ⊥ = cc in no
not_forgetting node other rm (inr (slots, journal, e)) = let no : ⊥ = cc in no

pub retells_hold : RetellsHold
retells_hold nodes disks es closing opening legal before node rm events tid serial there i between later again none =
    let start = opened nodes disks in
    let r = split_legal start closing there.after (there.entry ∷ before) (subst (λ xs. Legal start xs closing) there.stands legal) in
    let q = split_legal r.0 closing again.after (again.entry ∷ between) (subst (λ xs. Legal r.0 xs closing) again.stands r.2) in
    let w = (r.1).0 in
    let u = (q.1).0 in
    let first : Step w (At node (DeclareRm rm)) (events ++ line.Normal ∷ []) r.0 = subst (λ ls. Step w (At node (DeclareRm rm)) ls r.0) there.shown (subst (λ x. Turn w x there.entry.lines r.0) there.said (r.1).2) in
    let second : Step u (At node (DeclareRm rm)) (later ++ line.Normal ∷ []) q.0 = subst (λ ls. Step u (At node (DeclareRm rm)) ls q.0) again.shown (subst (λ x. Turn u x again.entry.lines q.0) again.said (q.1).2) in
    let sound = opening_sound nodes disks opening in
    let sound_w : IsSound w = legal_sound start w before sound (r.1).1 in
    let sound_v : IsSound r.0 = legal_sound start r.0 (there.entry ∷ before) sound r.1 in
    let d = declared rm w r.0 node events first in
    let n = d.n in
    let held : Waits tid serial rm n.durable = owed_shown rm w r.0 node events first tid serial i in
    let up : n.up ≡ true = served_up n _ d.first in
    let kept = (sound_node w sound_w node n d.found).kept in
    let is_up : IsUp n = (kept.runs up).0 in
    let x = in_table tid serial rm n is_up held in
    let home : serial.node ≡ node = ap (λ (z : Id). z.node) (sym x.2) ∙ record_home n is_up x.0 x.1 ∙ found_name node w.nodes n d.found in
    let is_owed : IsOwed tid serial rm n = record { disk = held; way = λ act e. absurd (both_ways n.up (kept.way act e).2 up) } in
    let before_it : Tracked (owed tid serial rm) (owed_keeps tid serial rm) serial.node tt w = λ m found. kept_of tid serial rm m (subst (IsOwed tid serial rm) (some_is n m (sym d.found ∙ subst (λ y. find_node y w.nodes ≡ Some m) home found)) is_owed) in
    let behind_it : Tracked (owed tid serial rm) (owed_keeps tid serial rm) serial.node tt r.0 =
    turn_tracked (owed tid serial rm) (owed_keeps tid serial rm) serial.node (owed_tracks tid serial rm) w r.0 (λ m found. tt) (reading there.entry.source.text) there.entry.lines tt
    (plain_reading tid serial rm (reading there.entry.source.text) (λ m. not_forgetting serial.node node rm (subst (MayForget serial.node rm) there.said m))) (r.1).2 sound_w before_it in
    let up_to_it : Tracked (owed tid serial rm) (owed_keeps tid serial rm) serial.node tt u = owed_on tid serial rm r.0 between u sound_v (q.1).1 (subst (λ y. NoneForget y rm between) (sym home) none) behind_it in
    let e = declared rm u q.0 node later second in
    shows_owed rm u q.0 node later second tid serial (up_to_it e.n (subst (λ y. find_node y u.nodes ≡ Some e.n) (sym home) e.found)).disk
