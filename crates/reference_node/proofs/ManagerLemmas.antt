-- What the table may be told of resource managers, where nothing refuses their statements.
use Rattle.std.proofs.Common.{◌≡◌, ◌&&◌, ◌||◌, ℕ, List, [], ◌∷◌, Bool, true, false, not, Option, Some, None, length, if◌then◌else◌, refl, sym, ap, ◌∙◌}
use Rattle.std.specs.Prelude.{◌++◌, map, nat_le, nat_lt}
use Rattle.std.specs.List.{list_any}
use Rattle.std.specs.Option.{option_and_then}
use Rattle.std.proofs.lemmas.Bool.{and_from, leb-false, lt-ltb}
use Rattle.vms_model.specs.Limits.{manager_limit}
use Rattle.world_laws.specs.transcript_model.Lines as line
use Rattle.world_laws.specs.transcript_model.Lines.{Line}
use Rattle.script_lang.specs.script_model.Statements.{AckEvent, DeclareRm, JoinRm, Named}
use Rattle.commit_protocol.specs.Allowed.{allowed, is_working, may_join, may_reply, reply_allowed, there_is}
use Rattle.commit_protocol.specs.Allowed as may_be
use Rattle.commit_protocol.specs.Messages.{CommitEvent, LogRecord, Name, Reply, same_id, same_name}
use Rattle.commit_protocol.specs.Rows.{Replied}
use Rattle.commit_protocol.specs.Table.{Branch, find_serial, holds}
use Rattle.vms_model.specs.Ids.{Id}
use Rattle.world_laws.specs.run_model.Answers as answers
use Rattle.world_laws.specs.run_model.Answers.{Known, Recorded, Unheard, Unsettled, awaited_reply, branch_labelled, declared_manager, has_joined, in_state, is_joinable, known, known_branch, known_manager, known_serial, made_label, made_name, more_managers, serial_named, service, unsettled_label}
use Rattle.world_laws.specs.run_model.Operations.{first_of, refused_if}
use Rattle.world_laws.specs.run_model.World.{Declares, Node, Shared, acted, find_branch, find_record, tm_of}
use Rattle.world_laws.specs.log_laws.Slots.{committed_of, records_in, waiting_for}
use Rattle.reference_world.specs.Standing.{line_of}
use Rattle.reference_world.specs.declared.line.Line.{Line as Shown}
use Rattle.reference_node.specs.Nodes.{Does}
use Rattle.reference_node.proofs.StateLemmas.{label_told}
use Rattle.tm_table.specs.Restarts.{record_of}
use Rattle.reference_node.proofs.TableLemmas.{found_by_serial, found_record}
use Rattle.reference_node.proofs.TransactionLemmas.{is_so}

-- of two refusals, where neither applies
pub none_first : (x y : Option Line) → first_of x y ≡ None → (x ≡ None) × (y ≡ None)
none_first None y e = (refl, e)
none_first (Some l) y e = let no : ⊥ = cc in absurd no

-- a branch that a manager may join, and that has room for it
may : (rm : Name) (b : Branch) → is_joinable rm b ≡ true → nat_le manager_limit (length b.managers) ≡ false → may_join rm b ≡ true
may rm b joinable few =
    let p = parts (is_working b) (not (has_joined rm b)) joinable in
    and_from _ _ (and_from (is_working b) (nat_lt (length b.managers) 8) p.0 (lt-ltb (length b.managers) 8 (leb-false 8 (length b.managers) few))) p.1
  where
    parts : (x y : Bool) → (x && y) ≡ true → (x ≡ true) × (y ≡ true)
    parts true true e = (refl, refl)
    parts true false e = let no : ⊥ = cc in absurd no
    parts false y e = let no : ⊥ = cc in absurd no

room : (b : Branch) (t : Bool) → nat_le manager_limit (length b.managers) ≡ t → refused_if t (line.QuotaExceeded line.Managers manager_limit) ≡ None → nat_le manager_limit (length b.managers) ≡ false
room b true is e = let no : ⊥ = cc in absurd no
room b false is e = is

pub join_told : (s : Shared) (n : Node) (label : List ℕ) (rm : Name) (b : Branch) → Some b ≡ branch_labelled s n label → (service (JoinRm label rm)).refused_before_reading s n ≡ None → (service (JoinRm label rm)).refused_after_reading s n ≡ None →
    there_is (find_serial b.key.serial n.volatile.branches) (may_join rm) ≡ true
join_told s n label rm b found early late =
    let state = in_state (is_joinable rm) (branch_labelled s n label) in
    let declared = first_of (declared_manager n rm) state in
    let so : in_state (is_joinable rm) (branch_labelled s n label) ≡ None = (none_first (declared_manager n rm) state (none_first (unsettled_label s n label) declared (none_first (made_label s n label) (first_of (unsettled_label s n label) declared) early).1).1).1 in
    let joinable : is_joinable rm b ≡ true = is_so (is_joinable rm) (branch_labelled s n label) b found so in
    let few : nat_le manager_limit (length b.managers) ≡ false = room b (nat_le manager_limit (length b.managers)) refl (ap (option_and_then more_managers) found ∙ late) in
    label_told s n label b (may_join rm) found (ap (in_state (may_join rm)) (sym found) ∙ ap (λ (t : Bool). refused_if (not t) line.WrongState) (may rm b joinable few))

-- A manager replies.

waited : (d j a : Bool) → first_of (refused_if (not d) line.NoSuchManager) (first_of (refused_if (not j) line.NoSuchManager) (refused_if (not a) line.WrongState)) ≡ None → (j ≡ true) × (a ≡ true)
waited true true true e = (refl, refl)
waited true true false e = let no : ⊥ = cc in absurd no
waited true false a e = let no : ⊥ = cc in absurd no
waited false j a e = let no : ⊥ = cc in absurd no

or_left : (a b : Bool) → a ≡ true → (a || b) ≡ true
or_left true b e = refl
or_left false b e = let no : ⊥ = cc in absurd no

or_right : (a b : Bool) → b ≡ true → (a || b) ≡ true
or_right true b e = refl
or_right false b e = e

-- the record of a serial that waits for a manager is among the committed ones
held : (serial : Id) (rm : Name) (rs : List LogRecord) (r : LogRecord) → record_of serial rs ≡ Some r → list_any (λ x. same_name x rm) r.rms ≡ true → list_any (λ q. holds serial rm q) rs ≡ true
held serial rm [] r e waits = let no : ⊥ = cc in absurd no
held serial rm (q ∷ rs) r e waits = go (same_id q.serial serial) refl e (held serial rm rs r)
  where
    go : (t : Bool) → same_id q.serial serial ≡ t → ◌≡◌ {A = Option LogRecord} (if t then Some q else record_of serial rs) (Some r) → (record_of serial rs ≡ Some r → list_any (λ x. same_name x rm) r.rms ≡ true → list_any (λ x. holds serial rm x) rs ≡ true) →
        (holds serial rm q || list_any (λ x. holds serial rm x) rs) ≡ true
    go true is f more = let same : q ≡ r = cc in or_left (holds serial rm q) _ (and_from (same_id q.serial serial) _ is (ap (λ (x : LogRecord). list_any (λ y. same_name y rm) x.rms) same ∙ waits))
    go false is f more = or_right (holds serial rm q) _ (more f waits)

-- What a node knows of a serial.

abbrev pub heard : Option Branch → Option LogRecord → Known
heard o q = elim o [ Some b ↦ Unsettled b | None ↦ elim q [ Some r ↦ Recorded r | None ↦ Unheard ] ]

pub knows_branch : (n : Node) (serial : Id) (b : Branch) → Some b ≡ find_serial serial n.volatile.branches → Unsettled b ≡ known_serial n serial
knows_branch n serial b e = ap (λ (o : Option Branch). heard o (find_record serial n.volatile.records)) (e ∙ found_by_serial serial n.volatile.branches)

knows_recorded : (n : Node) (serial : Id) (q : Option LogRecord) → ◌≡◌ {A = Option Branch} None (find_serial serial n.volatile.branches) → q ≡ record_of serial n.volatile.records → heard None q ≡ known_serial n serial
knows_recorded n serial q none e = ap (heard None) (e ∙ found_record serial n.volatile.records) ∙ ap (λ (o : Option Branch). heard o (find_record serial n.volatile.records)) (none ∙ found_by_serial serial n.volatile.branches)

pub knows_record : (n : Node) (serial : Id) (r : LogRecord) → ◌≡◌ {A = Option Branch} None (find_serial serial n.volatile.branches) → Some r ≡ record_of serial n.volatile.records → Recorded r ≡ known_serial n serial
knows_record n serial r none e = knows_recorded n serial (Some r) none e

pub knows_nothing : (n : Node) (serial : Id) → ◌≡◌ {A = Option Branch} None (find_serial serial n.volatile.branches) → ◌≡◌ {A = Option LogRecord} None (record_of serial n.volatile.records) → Unheard ≡ known_serial n serial
knows_nothing n serial none e = knows_recorded n serial None none e

-- what refuses a reply by what is known of its branch
abbrev refusal : Node → Name → Reply → Known → Option Line
refusal n rm reply k = first_of (known_branch k) (first_of (declared_manager n rm) (first_of (known_manager rm k) (awaited_reply rm reply k)))

pub reply_told : (s : Shared) (n : Node) (who : Named) (rm : Name) (reply : Reply) (serial : Id) → serial_named s n who ≡ Some serial → (service (AckEvent who rm reply)).refused_before_reading s n ≡ None → allowed (tm_of n) (Replied serial rm reply) ≡ true
reply_told s n who rm reply serial named early =
    ap (λ (o : Option Branch). reply_allowed serial rm reply o n.volatile.records) (found_by_serial serial n.volatile.branches)
    ∙ go (find_branch serial n.volatile.branches) (find_record serial n.volatile.records) refl (none_first (made_name s n who) (refusal n rm reply (known s n who)) early).1 (ap (λ (o : Option Id). elim o [ Some i ↦ known_serial n i | None ↦ Unheard ]) named)
  where
    go : (o : Option Branch) (q : Option LogRecord) → find_record serial n.volatile.records ≡ q → refusal n rm reply (known s n who) ≡ None → known s n who ≡ heard o q → reply_allowed serial rm reply o n.volatile.records ≡ true
    go (Some b) q found none is = (waited (answers.is_declared n rm) (has_joined rm b) (may_reply rm reply b) (ap (refusal n rm reply) (sym is) ∙ none)).1
    go None (Some r) found none is =
        let w = waited (answers.is_declared n rm) (list_any (λ x. same_name x rm) r.rms) (may_be.answers CommitEvent reply) (ap (refusal n rm reply) (sym is) ∙ none) in
        and_from _ _ (held serial rm n.volatile.records r (found_record serial n.volatile.records ∙ found) w.0) w.1
    go None None found none is = let no : ⊥ = (let f : Some line.NoSuchTransaction ≡ None = ap (refusal n rm reply) (sym is) ∙ none in cc) in absurd no

-- A manager is declared.

no_more : (xs : List Line) → xs ++ [] ≡ xs
no_more [] = refl
no_more (x ∷ xs) = ap (λ ys. x ∷ ys) (no_more xs)

pub declares : (s : Shared) (n m : Node) (rm : Name) (lines : List Shown) → (let owed = map (answers.owed_line rm) (waiting_for rm (committed_of (records_in n.durable.log))) in map line_of lines ≡ owed ++ line.Normal ∷ []) →
    m ≡ acted (Declares (n.volatile.declared ++ rm ∷ [])) n → Does s n (service (DeclareRm rm)) lines m s
declares s n m rm lines shown is =
    let owed = map (answers.owed_line rm) (waiting_for rm (committed_of (records_in n.durable.log))) in
    record { shows = shown ∙ ap (λ ls. ls ++ line.Normal ∷ []) (sym (no_more owed)); node = is; shared = refl }
