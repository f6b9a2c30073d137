-- What a request that may tell of a file leaves of it, whether it is done whole or cut short.
use Rattle.std.proofs.Common.{◌≡◌, ◌⊎◌, ℕ, zero, suc, List, [], ◌∷◌, ◌++◌, take, drop, Bool, true, false, not, ◌||◌, ◌&&◌, Option, Some, None, if◌then◌else◌, refl, sym, ◌∙◌, ap, subst, inl, inr}
use Rattle.std.specs.Prelude.{length, replicate}
use Rattle.std.specs.Str.{bytes_eq}
use Rattle.std.specs.FinMap.{empty, entries}
use Rattle.std.proofs.lemmas.Bool.{and_parts, both_ways}
use Rattle.std.proofs.lemmas.Slice.Eq.{bytes_eq-Decides}
use Rattle.vms_model.specs.Ids.{Id}
use Rattle.run_said.specs.transcript_model.Lines as line
use Rattle.run_said.specs.transcript_model.Lines.{Line, Cause}
use Rattle.run_said.specs.script_model.Statements.{At, Request, Init, Create, Records, Direct, Form, Operation, Recover, Recovery, Says}
use Rattle.unit_laws.specs.records_model.Records.{Records as TheRecords, Change, applied}
use Rattle.unit_laws.specs.records_model.History.{records}
use Rattle.commit_protocol.specs.Table.{Branch, State, Active, Ending, Joining, Prepared, Voting, branch_serials}
use Rattle.commit_protocol.specs.Allowed.{is_active, is_prepared, is_working}
use Rattle.commit_protocol.specs.World.{In}
use Rattle.run_said.specs.log_laws.Slots.{prepared_of}
use Rattle.run_said.specs.run_model.World as world
use Rattle.run_said.specs.run_model.World.{World, Shared, Node, File, Act, Changes, Creates, Directs, Formats, Holds, Outturn, Recovers, acted, fallen, find_file, find_node, free_place, is_durable, lowest_free, next_id, next_moment, powered}
use Rattle.run_said.specs.run_model.Operations.{changes_of, form_refused, operation_answer, refused_if}
use Rattle.run_said.specs.run_model.Answers as answers
use Rattle.run_said.specs.run_model.Answers.{Row, Service, Serves, blocks_for, branch_labelled, changes_at, commit_settlement, created, creates, directed, in_state, keys_at, made_label, needs_unit, new_file, of_file, operated, operation_act, operation_told, powers, records_recovered, refused_before_reading, service, silent, there_is_file, to_branch, unsettled_label}
use Rattle.run_said.specs.run_model.Steps.{Choice, Cut, TaskAllowed, Unpowered, Whole, WithoutMemory, act_begun, begun, if_durable, lines_of_rows, node_after, node_after_rows, ready_node, rows_if, rows_to_cut, task_effect, whole, with_unknown_volume}
use Rattle.run_said.specs.run_model.Transcript.{Entry}
use Rattle.run_said.specs.run_model.StepLaws.{is_refusal}
use Rattle.run_said.proofs.run_model.NodeLists.{found_name}
use Rattle.run_said.proofs.run_model.CauseLemmas.{refuses_first, refuses_then, task_succeeds}
use Rattle.run_laws.specs.Accounts.{Account, MayHave, Told, account_by, broken_id, broken_sets, commits_here, created_here, direct_told, file_of, given_in, left_by, made_anew, no_account, one_told, recovered_by, recovered_here, serial_told, sets_here, sets_of, with_sets}
use Rattle.run_laws.specs.Naming.{ToldLabel, find_told, labels_told}
use Rattle.recovery_laws.specs.world_laws.Nodes.{AreUp, IsUp}
use Rattle.recovery_laws.specs.world_laws.Running.{history_in, history_of}
use Rattle.recovery_laws.proofs.world_laws.AnswerLemmas.{neither, not_refused}
use Rattle.recovery_laws.proofs.world_laws.EffectLemmas.{none_in}
use Rattle.recovery_laws.proofs.world_laws.Induction.{powered_name}
use Rattle.recovery_laws.proofs.world_laws.FindLemmas.{some_is}
use Rattle.recovery_laws.proofs.world_laws.NodeLemmas.{last_up, rows_way}
use Rattle.recovery_laws.proofs.world_laws.OperationLemmas.{changes_there}
use Rattle.recovery_laws.proofs.world_laws.ServedLemmas.{file_says, not_there, recovery_rests, there_is as there_is_one}
use Rattle.recovery_laws.proofs.world_laws.TableLemmas.{in_serials}
use Rattle.recovery_laws.proofs.world_laws.TaskLemmas.{holds_it, task_rows}
use Rattle.run_laws.proofs.AccountLemmas.{TellSame, commits_plain, sure_records, sure_still}
use Rattle.run_laws.proofs.EachRow.{is_plain}
use Rattle.run_laws.proofs.FileActs.{broken_disk, created_beside, created_up, directs_up, disk_same, entered_disk, entered_up, recovers_up, telling_more, up_same}
use Rattle.run_laws.proofs.FileTelling.{Betrays, IsToldDisk, IsToldUp, beneath_left, betrays_acted, disk_of, falls_told, or_else, telling, telling_keeps, tells_file}
use Rattle.run_laws.proofs.Keeping.{Kept, fell, init_done, init_else, nothing_more}
use Rattle.run_laws.proofs.Labelling.{find_map, label_of}
use Rattle.run_laws.proofs.Named.{Named, told}
use Rattle.run_laws.proofs.SetsTold.{broken_are, direct_single, refused_same, set_none, sets_are}
use Rattle.run_laws.proofs.ShownSettled.{refusal_other, success_other}
use Rattle.run_laws.proofs.SoundWorlds.{IsSoundNode, unused}

same_text : (xs : List ℕ) → bytes_eq xs xs ≡ true
same_text xs = (bytes_eq-Decides xs xs).1 refl

-- a refusal makes neither a volume nor a file
made_refused : (node : List ℕ) (r : Request) (refusal : Line) → is_refusal refusal ≡ true → made_anew node (Says (At node r)) (refusal ∷ []) ≡ false
made_refused node (Init slots journal) line.Normal h = let no : ⊥ = cc in absurd no
made_refused node r refusal h = refl

created_refused : (node file : List ℕ) (r : Request) (refusal : Line) → is_refusal refusal ≡ true → created_here node file (Says (At node r)) (refusal ∷ []) ≡ false
created_refused node file (Create f bucket size form) line.Normal h = let no : ⊥ = cc in absurd no
created_refused node file r refusal h = refl

recovered_refused : (node file : List ℕ) (w : World) (r : Request) (refusal : Line) → is_refusal refusal ≡ true → (b : Account) → recovered_here node file w (Says (At node r)) (refusal ∷ []) b ≡ b
recovered_refused node file w (Recover f way) refusal h b = go (bytes_eq node node && bytes_eq f file) refusal h
  where
    go : (c : Bool) (refusal : Line) → is_refusal refusal ≡ true → (if c then recovered_by node file w way (refusal ∷ []) b else b) ≡ b
    go false refusal h = refl
    go true (line.NormalCount count) h = let no : ⊥ = cc in absurd no
    go true _ h = refl
recovered_refused node file w _ refusal h b = refl

-- the act of one row that is begun
one_begun : (b : Bool) (j : ℕ) (r : Row) (act : Act) → act_begun b (drop j (r ∷ [])) ≡ Some act → (j ≡ 0) × (r.act ≡ Some act)
one_begun false j r act e = let no : ⊥ = cc in absurd no
one_begun true zero r act e = (refl, go r.act e)
  where
    filtered : (x : Act) (b : Bool) → ◌≡◌ {A = Option Act} (if b then Some x else None) (Some act) → Some x ≡ Some act
    filtered x true k = k
    filtered x false k = let no : ⊥ = cc in absurd no

    go : (o : Option Act) → if_durable o ≡ Some act → o ≡ Some act
    go (Some x) k = filtered x (is_durable x) k
    go None k = let no : ⊥ = cc in absurd no
one_begun true (suc zero) r act e = let no : ⊥ = cc in absurd no
one_begun true (suc (suc j)) r act e = let no : ⊥ = cc in absurd no

none_begun : (b : Bool) (j : ℕ) (act : Act) → act_begun b (drop j []) ≡ Some act → {A : Type 0} → A
none_begun false j act e = let no : ⊥ = cc in absurd no
none_begun true zero act e = let no : ⊥ = cc in absurd no
none_begun true (suc j) act e = let no : ⊥ = cc in absurd no

-- rows without lines
abbrev AreSilent : List Row → Type 0
AreSilent [] = Unit {0}
AreSilent (r ∷ rs) = (r.lines ≡ []) × AreSilent rs

module _ (node file : List ℕ) (D : Id → Type 0) where
  abbrev pub IsKept : Account → Node → Type 0
  IsKept b m = Kept (telling node file D) (telling_keeps node file D) b m

  abbrev pub IsDisk : Account → Node → Type 0
  IsDisk b m = Betrays node file D m.settled ⊎ IsToldDisk node file D b m.name m.durable

  -- nothing is told of a file of a new volume
  pub new_told : (slots journal : ℕ) (m : Node) → (acted (Formats slots journal) m).name ≡ node → IsToldDisk node file D no_account (acted (Formats slots journal) m).name (acted (Formats slots journal) m).durable
  new_told slots journal m named = record {
    named = named;
    records_are = inl (sym (ap (λ q. records (history_of q)) (none_found 64)));
    still = sure_still no_account (history_in file (acted (Formats slots journal) m).durable.directory).live refl;
    quiet = λ gone x m. refl;
    own = λ x e. let no : ⊥ = cc in absurd no;
    apart = λ x r e commit i j. let no : ⊥ = cc in no;
    only = λ x none. ((λ m. refl), refl);
    prepared = λ r i. absurd (subst (λ rs. In r (prepared_of rs)) (none_in slots) i);
  }
    where
      none_found : (k : ℕ) → find_file file (replicate k None) ≡ None
      none_found zero = refl
      none_found (suc k) = none_found k

  abbrev pub IsUpTold : Account → Node → Type 0
  IsUpTold b m = Betrays node file D m.settled ⊎ IsToldUp node file D false b m

  -- the same is told in other words
  kept_same : (a : Account) (new : List Told) (n : Node) → TellSame a.told new → IsKept a n → IsKept (record a { told = new }) n
  kept_same a new n same h = record {
    disk = or_else node file D (λ b. b) (λ k. inr (disk_same node file D a new n.name n.durable same k)) h.disk;
    way = λ act e. or_else node file D (λ b. b) (λ k. inr (disk_same node file D a new (acted act n).name (acted act n).durable same k)) (h.way act e);
    runs = λ up. or_else node file D (λ b. b) (λ k. inr (up_same node file D false a new n same k)) (h.runs up);
  }

  module _ (es : List Entry) (w : World) (n : Node) (found : find_node node w.nodes ≡ Some n) (named : Named es w) (sound : IsSoundNode w.shared n) (stops : ℕ) (a : Account) (h : IsKept a n) (sure : n.up ≡ true → a.given ≡ None) where
    abbrev s : Shared
    s = w.shared

    abbrev by : Request → List Line → Account
    by r lines = recovered_here node file w (Says (At node r)) lines (account_by node file es w (Says (At node r)) lines a)

    -- a refusal leaves what is told
    refused_told : (r : Request) (refusal : Line) (m : Node) → is_refusal refusal ≡ true → IsKept a m → IsKept (by r (refusal ∷ [])) m
    refused_told r refusal m is k =
        let new = sets_here node file es w (Says (At node r)) (refusal ∷ []) a.told in
        subst (λ b. IsKept b m) (sym (recovered_refused node file w r refusal is (account_by node file es w (Says (At node r)) (refusal ∷ []) a)))
        (subst (λ b. IsKept (if b then no_account else (if created_here node file (Says (At node r)) (refusal ∷ []) then record a { records = empty } else commits_here node (refusal ∷ []) (record a { told = new }))) m) (sym (made_refused node r refusal is))
        (subst (λ b. IsKept (if b then record a { records = empty } else commits_here node (refusal ∷ []) (record a { told = new })) m) (sym (created_refused node file r refusal is))
        (subst (λ b. IsKept b m) (sym (commits_plain node (refusal ∷ []) (record a { told = new }) (refusal_other refusal is, tt))) (kept_same a new m (refused_same node file es w (Says (At node r)) refusal a.told is) k))))

    -- a node that is up with what is told of it
    abbrev Outcome : Request → List Row → Line → Type 0
    Outcome r rs answer = IsKept (by r (lines_of_rows rs ++ answer ∷ [])) (node_after_rows rs n)
        × ((j : ℕ) (b : Bool) (cause : Cause) → IsKept (by r ((lines_of_rows (take j rs) ++ line.Down n.name cause ∷ []) ++ line.Broken cause ∷ [])) (fallen (act_begun b (drop j rs)) (node_after_rows (take j rs) n)))

    abbrev Broken : Request → Type 0
    Broken r = (cause : Cause) → IsKept (by r (line.Down n.name cause ∷ line.Broken cause ∷ [])) (fallen None n)

    -- nothing is under way at a node that is up
    rests : n.up ≡ true → n.under_way ≡ None
    rests up = go n.under_way refl
      where
        go : (o : Option Act) → n.under_way ≡ o → o ≡ None
        go None q = refl
        go (Some act) q = absurd (both_ways n.up (sound.kept.way act q).2 up)

    up_kept : (b : Account) (rs : List Row) → n.up ≡ true → AreUp rs n → IsUpTold b (node_after_rows rs n) → IsKept b (node_after_rows rs n)
    up_kept b rs up all told =
        let m = node_after_rows rs n in
        record {
          disk = or_else node file D (λ x. x) (λ k. inr (falls_told node file D false b m (last_up rs n all) k)) told;
          way = λ act e. let clash : ◌≡◌ {A = Option Act} None (Some act) = sym (rows_way rs n ∙ rests up) ∙ e in let no : ⊥ = cc in absurd no;
          runs = λ u. told;
        }

    -- a node that fell before any row
    fell_first : (b : Account) → IsDisk b n → IsKept b (fallen None n)
    fell_first b disk = fell (telling node file D) (telling_keeps node file D) false 0 [] n b disk (λ act e. let no : ⊥ = cc in absurd no)

    -- Operations of a branch.

    named_serial : (label : List ℕ) (b : Branch) → branch_labelled s n label ≡ Some b → serial_told node label es ≡ Some b.key.serial
    named_serial label b e =
        let l = label_of s n label b e in
        let at : find_told label (labels_told es) ≡ Some (told l.label) = ap (find_told label) named.labels ∙ find_map label s.labels l.label l.found in
        ap (λ (o : Option ToldLabel). elim o as (λ x. Option Id) [ Some x ↦ (if bytes_eq node x.node then x.serial else None) | None ↦ None ]) at
        ∙ ap (λ c. if c then (l.label).serial else None) ((bytes_eq-Decides node (l.label).node).1 (sym (l.node ∙ named_here))) ∙ l.serial
      where
        named_here : n.name ≡ node
        named_here = found_name node w.nodes n found

    file_there : (f : File) → find_file file n.durable.directory ≡ Some f → file_of node file w ≡ Some f
    file_there f there = rw (found, file_of) there

    branch_serial : (label : List ℕ) (b : Branch) → branch_labelled s n label ≡ Some b → In b n.volatile.branches
    branch_serial label b e = (label_of s n label b e).branch

    -- what is told where it is done
    records_by : (label : List ℕ) (op : Operation) (b : Branch) (f : File) (answer : Line) → branch_labelled s n label ≡ Some b → find_file file n.durable.directory ≡ Some f → is_plain answer ≡ true →
        by (Records label file op) (answer ∷ []) ≡ telling_more b.key.serial (sets_of op answer f) a
    records_by label op b f answer e there plain =
        let told_now : sets_here node file es w (Says (At node (Records label file op))) (answer ∷ []) a.told ≡ record { serial = b.key.serial; sets = sets_of op answer f } ∷ a.told =
        ap (λ c. if c then one_told (serial_told node label es) (file_of node file w) (sets_of op answer) a.told else a.told) (ap (λ c. c && bytes_eq file file) (same_text node) ∙ same_text file)
        ∙ (λ i. one_told (named_serial label b e i) (file_there f there i) (sets_of op answer) a.told) in
        ap (λ t. commits_here node (answer ∷ []) (record a { told = t })) told_now ∙ commits_plain node (answer ∷ []) (telling_more b.key.serial (sets_of op answer f) a) (plain, tt)

    -- an operation of a branch
    module _ (label : List ℕ) (op : Operation) (b : Branch) (f : File) (up : n.up ≡ true) (e : branch_labelled s n label ≡ Some b) (working : is_working b ≡ true) (there : find_file file n.durable.directory ≡ Some f) (form : form_refused f op ≡ None) where
      is_up : IsUp n
      is_up = (sound.kept.runs up).0

      serial_there : In b.key.serial (branch_serials n.volatile.branches)
      serial_there = in_serials b n.volatile.branches (branch_serial label b e)

      -- where it is cut nothing is told of it
      broken_same : (cause : Cause) → by (Records label file op) (line.Down n.name cause ∷ line.Broken cause ∷ []) ≡ a
      broken_same cause = refl

      unprepared : is_prepared b.state ≡ false
      unprepared = go b.state (and_parts (is_active b.state) (not b.ended) working).0
        where
          go : (t : State) → is_active t ≡ true → is_prepared t ≡ false
          go Prepared k = let no : ⊥ = cc in absurd no
          go Joining k = refl
          go Active k = refl
          go Ending k = refl
          go Voting k = refl

      changed_disk : (c : Change) (cs : List Change) → IsDisk a (acted (Changes b.key.tid b.key.serial file (c ∷ cs) (keys_at n file op)) n)
      changed_disk c cs = or_else node file D (λ x. x) (λ k. inr (entered_disk node file D n f there is_up a k b.key.tid b.key.serial (c ∷ cs) (keys_at n file op) serial_there (sure up) b (branch_serial label b e) refl unprepared)) (h.runs up)

      operation_cut : (cs : List Change) (j : ℕ) (t : Bool) (cause : Cause) → IsKept (by (Records label file op) ((lines_of_rows (take j (silent (operation_act b file cs (keys_at n file op)) ∷ [])) ++ line.Down n.name cause ∷ []) ++ line.Broken cause ∷ []))
          (fallen (act_begun t (drop j (silent (operation_act b file cs (keys_at n file op)) ∷ []))) (node_after_rows (take j (silent (operation_act b file cs (keys_at n file op)) ∷ [])) n))
      operation_cut [] j t cause = subst (λ ls. IsKept (by (Records label file op) ((ls ++ line.Down n.name cause ∷ []) ++ line.Broken cause ∷ [])) (fallen (act_begun t (drop j rs)) (node_after_rows (take j rs) n))) (sym (no_lines j))
          (fell (telling node file D) (telling_keeps node file D) t j rs n a (held j) (λ act q. absurd (not_begun t j act q)))
        where
          rs : List Row
          rs = silent (Holds b.key.serial file (keys_at n file op)) ∷ []

          no_lines : (j : ℕ) → lines_of_rows (take j (silent (Holds b.key.serial file (keys_at n file op)) ∷ [])) ≡ []
          no_lines zero = refl
          no_lines (suc zero) = refl
          no_lines (suc (suc j)) = refl

          held : (j : ℕ) → IsDisk a (node_after_rows (take j (silent (Holds b.key.serial file (keys_at n file op)) ∷ [])) n)
          held zero = h.disk
          held (suc zero) = h.disk
          held (suc (suc j)) = h.disk

          not_begun : (t : Bool) (j : ℕ) (act : Act) → act_begun t (drop j (silent (Holds b.key.serial file (keys_at n file op)) ∷ [])) ≡ Some act → ⊥
          not_begun false j act q = cc
          not_begun true zero act q = cc
          not_begun true (suc zero) act q = cc
          not_begun true (suc (suc j)) act q = cc
      operation_cut (c ∷ cs) j t cause = subst (λ ls. IsKept (by (Records label file op) ((ls ++ line.Down n.name cause ∷ []) ++ line.Broken cause ∷ [])) (fallen (act_begun t (drop j (r ∷ []))) (node_after_rows (take j (r ∷ [])) n))) (sym (no_lines j))
          (fell (telling node file D) (telling_keeps node file D) t j (r ∷ []) n a (disk j) (λ act q. let o = one_begun t j r act q in way j act o.0 o.1))
        where
          r : Row
          r = silent (Changes b.key.tid b.key.serial file (c ∷ cs) (keys_at n file op))

          no_lines : (j : ℕ) → lines_of_rows (take j (silent (Changes b.key.tid b.key.serial file (c ∷ cs) (keys_at n file op)) ∷ [])) ≡ []
          no_lines zero = refl
          no_lines (suc zero) = refl
          no_lines (suc (suc j)) = refl

          disk : (j : ℕ) → IsDisk a (node_after_rows (take j (silent (Changes b.key.tid b.key.serial file (c ∷ cs) (keys_at n file op)) ∷ [])) n)
          disk zero = h.disk
          disk (suc zero) = changed_disk c cs
          disk (suc (suc j)) = changed_disk c cs

          way : (j : ℕ) (act : Act) → j ≡ 0 → Some (Changes b.key.tid b.key.serial file (c ∷ cs) (keys_at n file op)) ≡ Some act → IsDisk a (acted act (node_after_rows (take j (silent (Changes b.key.tid b.key.serial file (c ∷ cs) (keys_at n file op)) ∷ [])) n))
          way zero act z is = subst (λ x. IsDisk a (acted x n)) (some_is _ act is) (changed_disk c cs)
          way (suc j) act z is = let no : ⊥ = cc in absurd no

      operation_done : (cs : List Change) → changes_of f op ≡ cs → AreUp (silent (operation_act b file cs (keys_at n file op)) ∷ []) n → (answer : Line) → answer ≡ operation_answer f op → is_plain answer ≡ true →
          IsKept (by (Records label file op) (answer ∷ [])) (node_after_rows (silent (operation_act b file cs (keys_at n file op)) ∷ []) n)
      operation_done cs is all answer answered plain = subst (λ x. IsKept x (node_after_rows (silent (operation_act b file cs (keys_at n file op)) ∷ []) n)) (sym (records_by label op b f answer e there plain))
          (up_kept (telling_more b.key.serial (sets_of op answer f) a) (silent (operation_act b file cs (keys_at n file op)) ∷ []) up all (or_else node file D (λ x. betrays_rows cs x) (λ k. inr (go cs is k)) (h.runs up)))
        where
          betrays_rows : (cs : List Change) → Betrays node file D n.settled → Betrays node file D (node_after_rows (silent (operation_act b file cs (keys_at n file op)) ∷ []) n).settled
          betrays_rows [] x = x
          betrays_rows (c ∷ cs) x = x

          sets : (m : TheRecords) → with_sets (sets_of op answer f) m ≡ applied (changes_of f op) m
          sets m = ap (λ l. with_sets (sets_of op l f) m) answered ∙ sets_are f op form m

          go : (cs : List Change) → changes_of f op ≡ cs → IsToldUp node file D false a n → IsToldUp node file D false (telling_more b.key.serial (sets_of op answer f) a) (node_after_rows (silent (operation_act b file cs (keys_at n file op)) ∷ []) n)
          go [] is k = up_same node file D false a _ (acted (Holds b.key.serial file (keys_at n file op)) n) (set_none a.told b.key.serial (sets_of op answer f) (λ m. sets m ∙ ap (λ ds. applied ds m) is))
              (record { named = k.named; shown = k.shown; records_are = k.records_are; still = k.still; quiet = k.quiet; own = k.own; only = k.only; fresh = λ q. let no : ⊥ = cc in absurd no; told = k.told })
          go (c ∷ cs) is k = entered_up node file D n f there is_up a k b.key.tid b.key.serial (c ∷ cs) (keys_at n file op) serial_there (sure up) (sets_of op answer f) (λ m. sets m ∙ ap (λ ds. applied ds m) is)

    -- Changes without a label.

    module _ (op : Operation) (f : File) (up : n.up ≡ true) (there : find_file file n.durable.directory ≡ Some f) (form : form_refused f op ≡ None) where
      abbrev direct_act : Change → List Change → Act
      direct_act c cs = Directs file (c ∷ cs) (commit_settlement n (next_id n) (next_id n))

      abbrev direct_row : Change → List Change → Row
      direct_row c cs = record { act = Some (direct_act c cs); lines = line.Committed (next_id n) (next_id n) (next_moment n) ∷ [] }

      -- where its disk failed before it was begun
      broken_by : (cause : Cause) → by (Direct file op) (line.Down n.name cause ∷ line.Broken cause ∷ []) ≡ telling_more (next_id n) (broken_sets op f) a
      broken_by cause =
          ap (λ t. record a { told = t }) (ap (λ c. if c then one_told (broken_id node w) (file_of node file w) (broken_sets op) a.told else a.told) (ap (λ c. c && bytes_eq file file) (same_text node) ∙ same_text file)
          ∙ (λ i. one_told (broken i) (file_there f there i) (broken_sets op) a.told))
        where
          broken : broken_id node w ≡ Some (next_id n)
          broken = rw (found, broken_id) refl

      cut_by : (moment : ℕ) (cause : Cause) → by (Direct file op) (line.Committed (next_id n) (next_id n) moment ∷ line.Down n.name cause ∷ line.Broken cause ∷ []) ≡ left_by node (next_id n) (telling_more (next_id n) (broken_sets op f) a)
      cut_by moment cause =
          ap (λ t. left_by node (next_id n) (record a { told = t })) (ap (λ c. if c then one_told (Some (next_id n)) (file_of node file w) (broken_sets op) a.told else a.told) (ap (λ c. c && bytes_eq file file) (same_text node) ∙ same_text file)
          ∙ (λ i. one_told (Some (next_id n)) (file_there f there i) (broken_sets op) a.told))

      done_by : (moment : ℕ) (answer : Line) → is_plain answer ≡ true → by (Direct file op) (line.Committed (next_id n) (next_id n) moment ∷ answer ∷ []) ≡ left_by node (next_id n) (telling_more (next_id n) (sets_of op answer f) a)
      done_by moment answer plain =
          ap (λ t. commits_here node (answer ∷ []) (left_by node (next_id n) (record a { told = t }))) (ap (λ c. if c then one_told (Some (next_id n)) (file_of node file w) (sets_of op answer) a.told else a.told) (ap (λ c. c && bytes_eq file file) (same_text node) ∙ same_text file)
          ∙ (λ i. one_told (Some (next_id n)) (file_there f there i) (sets_of op answer) a.told))
          ∙ commits_plain node (answer ∷ []) (left_by node (next_id n) (telling_more (next_id n) (sets_of op answer f) a)) (plain, tt)

      read_by : (answer : Line) → is_plain answer ≡ true → by (Direct file op) (answer ∷ []) ≡ a
      read_by answer plain =
          ap (λ t. commits_here node (answer ∷ []) (record a { told = t })) (ap (λ c. if c then direct_told node file w op (answer ∷ []) a.told else a.told) (ap (λ c. c && bytes_eq file file) (same_text node) ∙ same_text file) ∙ direct_single node file w op answer a.told)
          ∙ commits_plain node (answer ∷ []) a (plain, tt)

      broken_told : (cs : List Change) → changes_of f op ≡ cs → (m : TheRecords) → with_sets (broken_sets op f) m ≡ applied cs m
      broken_told cs is m = broken_are f op m ∙ ap (λ ds. applied ds m) is

      -- with no change nothing is told
      no_change : (answer : Line) → is_plain answer ≡ true → IsKept (by (Direct file op) (answer ∷ [])) n
      no_change answer plain = subst (λ b. IsKept b n) (sym (read_by answer plain)) h

      broken_none : (cause : Cause) → changes_of f op ≡ [] → IsKept (by (Direct file op) (line.Down n.name cause ∷ line.Broken cause ∷ [])) (fallen None n)
      broken_none cause is = subst (λ b. IsKept b (fallen None n)) (sym (broken_by cause)) (kept_same a (record { serial = next_id n; sets = broken_sets op f } ∷ a.told) (fallen None n) (set_none a.told (next_id n) (broken_sets op f) (λ m. broken_told [] is m)) (fell_first a h.disk))

      module _ (c : Change) (cs : List Change) (is : changes_of f op ≡ c ∷ cs) where
        -- where its disk failed before it was begun, or in it
        first_disk : IsDisk (telling_more (next_id n) (broken_sets op f) a) n
        first_disk = or_else node file D (λ x. x) (λ k. inr (broken_disk node file D n f there (sound.kept.runs up).0 a k c cs (broken_sets op f) (broken_told (c ∷ cs) is))) (h.runs up)

        under_disk : IsUp (acted (direct_act c cs) n) → IsDisk (telling_more (next_id n) (broken_sets op f) a) (acted (direct_act c cs) n)
        under_disk all = or_else node file D (λ x. betrays_acted node file D (direct_act c cs) n x) (λ k. inr
            (disk_of node file D false (telling_more (next_id n) (broken_sets op f) a) (left_by node (next_id n) (telling_more (next_id n) (broken_sets op f) a)) (acted (direct_act c cs) n) (beneath_left node file D (next_id n) (telling_more (next_id n) (broken_sets op f) a)) refl all
            (directs_up node file D n f there (sound.kept.runs up).0 a k c cs (broken_sets op f) (broken_told (c ∷ cs) is) (sure up)))) (h.runs up)

        then_disk : IsUp (acted (direct_act c cs) n) → IsDisk (left_by node (next_id n) (telling_more (next_id n) (broken_sets op f) a)) (acted (direct_act c cs) n)
        then_disk all = or_else node file D (λ x. betrays_acted node file D (direct_act c cs) n x) (λ k. inr
            (falls_told node file D false (left_by node (next_id n) (telling_more (next_id n) (broken_sets op f) a)) (acted (direct_act c cs) n) all (directs_up node file D n f there (sound.kept.runs up).0 a k c cs (broken_sets op f) (broken_told (c ∷ cs) is) (sure up)))) (h.runs up)

        broken_first : (cause : Cause) → IsKept (by (Direct file op) (line.Down n.name cause ∷ line.Broken cause ∷ [])) (fallen None n)
        broken_first cause = subst (λ b. IsKept b (fallen None n)) (sym (broken_by cause)) (fell_first (telling_more (next_id n) (broken_sets op f) a) first_disk)

        direct_cut : IsUp (acted (direct_act c cs) n) → (j : ℕ) (t : Bool) (cause : Cause) →
            (let rs = direct_row c cs ∷ [] in IsKept (by (Direct file op) ((lines_of_rows (take j rs) ++ line.Down n.name cause ∷ []) ++ line.Broken cause ∷ [])) (fallen (act_begun t (drop j rs)) (node_after_rows (take j rs) n)))
        direct_cut all zero t cause = subst (λ b. IsKept b (fallen (act_begun t (direct_row c cs ∷ [])) n)) (sym (broken_by cause))
            (fell (telling node file D) (telling_keeps node file D) t 0 (direct_row c cs ∷ []) n (telling_more (next_id n) (broken_sets op f) a) first_disk
            (λ act q. let o = one_begun t 0 (direct_row c cs) act q in
            subst (λ x. IsDisk (telling_more (next_id n) (broken_sets op f) a) (acted x n)) (some_is (direct_act c cs) act o.1) (under_disk all)))
        direct_cut all (suc j) t cause = behind j
          where
            fallen_then : (j : ℕ) → IsKept (left_by node (next_id n) (telling_more (next_id n) (broken_sets op f) a)) (fallen (act_begun t (drop j [])) (node_after_rows (take j []) (acted (direct_act c cs) n)))
            fallen_then j = fell (telling node file D) (telling_keeps node file D) t j [] (acted (direct_act c cs) n) (left_by node (next_id n) (telling_more (next_id n) (broken_sets op f) a)) (at j) (λ act q. none_begun t j act q)
              where
                at : (j : ℕ) → IsDisk (left_by node (next_id n) (telling_more (next_id n) (broken_sets op f) a)) (node_after_rows (take j []) (acted (direct_act c cs) n))
                at zero = then_disk all
                at (suc i) = then_disk all

            behind : (j : ℕ) → (let rs = direct_row c cs ∷ [] in IsKept (by (Direct file op) ((lines_of_rows (take (suc j) rs) ++ line.Down n.name cause ∷ []) ++ line.Broken cause ∷ [])) (fallen (act_begun t (drop (suc j) rs)) (node_after_rows (take (suc j) rs) n)))
            behind zero = subst (λ b. IsKept b (fallen (act_begun t (drop 0 [])) (node_after_rows (take 0 []) (acted (direct_act c cs) n)))) (sym (cut_by (next_moment n) cause)) (fallen_then 0)
            behind (suc i) = subst (λ b. IsKept b (fallen (act_begun t (drop (suc i) [])) (node_after_rows (take (suc i) []) (acted (direct_act c cs) n)))) (sym (cut_by (next_moment n) cause)) (fallen_then (suc i))

        direct_done : AreUp (direct_row c cs ∷ []) n → (answer : Line) → answer ≡ operation_answer f op → is_plain answer ≡ true →
            IsKept (by (Direct file op) (line.Committed (next_id n) (next_id n) (next_moment n) ∷ answer ∷ [])) (acted (direct_act c cs) n)
        direct_done all answer answered plain = subst (λ b. IsKept b (acted (direct_act c cs) n)) (sym (done_by (next_moment n) answer plain))
            (up_kept (left_by node (next_id n) (telling_more (next_id n) (sets_of op answer f) a)) (direct_row c cs ∷ []) up all
            (or_else node file D (λ x. betrays_acted node file D (direct_act c cs) n x) (λ k. inr (directs_up node file D n f there (sound.kept.runs up).0 a k c cs (sets_of op answer f)
            (λ q. ap (λ l. with_sets (sets_of op l f) q) answered ∙ sets_are f op form q ∙ ap (λ ds. applied ds q) is) (sure up))) (h.runs up)))

    -- A file is made.

    module _ (f : List ℕ) (bucket size : ℕ) (form : Form) (up : n.up ≡ true) (none : find_file f n.durable.directory ≡ None) where
      abbrev request : Request
      request = Create f bucket size form

      abbrev new : ℕ → File
      new start = created f bucket size form start n.durable.greatest

      -- what is told where it is done
      made_by : by request (line.Normal ∷ []) ≡ (if bytes_eq f file then record a { records = empty } else a)
      made_by = ap (λ c. if c && bytes_eq f file then record a { records = empty } else a) (same_text node)

      absent : bytes_eq f file ≡ true → find_file file n.durable.directory ≡ None
      absent is = subst (λ y. find_file y n.durable.directory ≡ None) ((bytes_eq-Decides f file).0 is) none

      bare_before : bytes_eq f file ≡ true → IsToldUp node file D false a n → MayHave a empty
      bare_before is k = subst (MayHave a) (ap (λ o. records (history_of o)) (absent is)) k.records_are

      created_told : (place start : ℕ) → free_place n.durable.directory ≡ Some place → (b : Bool) → bytes_eq f file ≡ b → IsToldUp node file D false a n → IsToldUp node file D false (if b then record a { records = empty } else a) (acted (Creates place (new start)) n)
      created_told place start free true is k = created_up node file D n (new start) place a k refl refl free none is
      created_told place start free false is k = created_beside node file D n (new start) place a k refl refl free none is

      created_same : (place start : ℕ) → free_place n.durable.directory ≡ Some place → IsToldUp node file D false a n → IsToldUp node file D false a (acted (Creates place (new start)) n)
      created_same place start free k = go (bytes_eq f file) refl
        where
          go : (b : Bool) → bytes_eq f file ≡ b → IsToldUp node file D false a (acted (Creates place (new start)) n)
          go true is =
              let c = created_told place start free true is k in
              record { named = c.named; shown = c.shown; records_are = elim c.records_are [ inl none ↦ subst (MayHave a) none (bare_before is k) | inr given ↦ inr given ]; still = c.still; quiet = c.quiet; own = c.own; only = c.only; fresh = c.fresh; told = λ x i. let t = c.told x i in record { tells = t.tells; staying = t.staying } }
          go false is = created_told place start free false is k

      no_lines : (rs : List Row) → AreSilent rs → (j : ℕ) → lines_of_rows (take j rs) ≡ []
      no_lines [] q zero = refl
      no_lines [] q (suc j) = refl
      no_lines (r ∷ rs) q zero = refl
      no_lines (r ∷ rs) q (suc j) = rw q.0 (no_lines rs q.1 j)

      broken_still : (rs : List Row) → AreSilent rs → (j : ℕ) (cause : Cause) → by request ((lines_of_rows (take j rs) ++ line.Down n.name cause ∷ []) ++ line.Broken cause ∷ []) ≡ a
      broken_still rs q j cause = ap (λ ls. by request ((ls ++ line.Down n.name cause ∷ []) ++ line.Broken cause ∷ [])) (no_lines rs q j)

      one : (place start : ℕ) → free_place n.durable.directory ≡ Some place → AreUp (record { act = Some (Creates place (new start)); lines = [] } ∷ []) n → Outcome request (record { act = Some (Creates place (new start)); lines = [] } ∷ []) line.Normal
      one place start free all = (
        subst (λ x. IsKept x (acted (Creates place (new start)) n)) (sym made_by)
            (up_kept (if bytes_eq f file then record a { records = empty } else a) rs up all (or_else node file D (λ x. x) (λ k. inr (created_told place start free (bytes_eq f file) refl k)) (h.runs up))),
        λ j t cause. subst (λ x. IsKept x (fallen (act_begun t (drop j rs)) (node_after_rows (take j rs) n))) (sym (broken_still rs (refl, tt) j cause))
            (fell (telling node file D) (telling_keeps node file D) t j rs n a (disk j) (λ act q. let o = one_begun t j (record { act = Some (Creates place (new start)); lines = [] }) act q in way j act o.0 o.1)),
      )
        where
          rs : List Row
          rs = record { act = Some (Creates place (new start)); lines = [] } ∷ []

          after_disk : IsDisk a (acted (Creates place (new start)) n)
          after_disk = or_else node file D (λ x. x) (λ k. inr (falls_told node file D false a (acted (Creates place (new start)) n) all.1 (created_same place start free k))) (h.runs up)

          disk : (j : ℕ) → IsDisk a (node_after_rows (take j (record { act = Some (Creates place (new start)); lines = [] } ∷ [])) n)
          disk zero = h.disk
          disk (suc zero) = after_disk
          disk (suc (suc j)) = after_disk

          way : (j : ℕ) (act : Act) → j ≡ 0 → Some (Creates place (new start)) ≡ Some act → IsDisk a (acted act (node_after_rows (take j (record { act = Some (Creates place (new start)); lines = [] } ∷ [])) n))
          way zero act z is = subst (λ x. IsDisk a (acted x n)) (some_is _ act is) after_disk
          way (suc j) act z is = let no : ⊥ = cc in absurd no

      -- there is no room: nothing is made
      none_made : Outcome request [] line.Normal
      none_made = (
        subst (λ x. IsKept x n) (sym made_by) (up_kept (if bytes_eq f file then record a { records = empty } else a) [] up (sound.kept.runs up).0 (or_else node file D (λ x. x) (λ k. inr (bare (bytes_eq f file) refl k)) (h.runs up))),
        λ j t cause. subst (λ x. IsKept x (fallen (act_begun t (drop j [])) (node_after_rows (take j []) n))) (sym (broken_still [] tt j cause)) (fell (telling node file D) (telling_keeps node file D) t j [] n a (at j) (λ act q. none_begun t j act q)),
      )
        where
          at : (j : ℕ) → IsDisk a (node_after_rows (take j []) n)
          at zero = h.disk
          at (suc j) = h.disk

          bare : (b : Bool) → bytes_eq f file ≡ b → IsToldUp node file D false a n → IsToldUp node file D false (if b then record a { records = empty } else a) n
          bare true is k = record {
            named = k.named;
            shown = k.shown;
            records_are = inl (sym (ap (λ o. records (history_of o)) (absent is)));
            still = k.still;
            quiet = k.quiet;
            own = k.own;
            only = k.only;
            fresh = k.fresh;
            told = λ x i. let t = k.told x i in record { tells = t.tells; staying = t.staying };
          }
          bare false is k = k

      abbrev made : Option ℕ → Option ℕ → List Row
      made free low = elim free [ Some place ↦ elim low [ Some start ↦ record { act = Some (Creates place (new start)); lines = [] } ∷ [] | None ↦ [] ] | None ↦ [] ]

      create_outcome : AreUp (creates n new (blocks_for bucket size form)) n → Outcome request (creates n new (blocks_for bucket size form)) line.Normal
      create_outcome all = go (free_place n.durable.directory) refl all
        where
          at : (place : ℕ) → free_place n.durable.directory ≡ Some place → (low : Option ℕ) → AreUp (made (Some place) low) n → Outcome request (made (Some place) low) line.Normal
          at place free (Some start) q = one place start free q
          at place free None q = none_made

          go : (o : Option ℕ) → free_place n.durable.directory ≡ o → AreUp (made o (lowest_free n (blocks_for bucket size form))) n → Outcome request (made o (lowest_free n (blocks_for bucket size form))) line.Normal
          go (Some place) free q = at place free (lowest_free n (blocks_for bucket size form)) q
          go None free q = none_made

    -- Requests by their choices.

    -- one that its node serves while it is up
    module _ (r : Request) (off : powers (service r) ≡ false) (serves : (service r).while_down ≡ false) (closing : (service r).closing ≡ None) (closes : (m : Node) → (service r).closing_lines m ≡ [])
        (outcome : n.up ≡ true → refused_before_reading s n (service r) ≡ None → (service r).refused_after_reading s n ≡ None → Outcome r ((service r).rows s n) ((service r).answer s n))
        (broken : n.up ≡ true → refused_before_reading s n (service r) ≡ None → Broken r) where
      abbrev e : Service
      e = service r

      at_up : refused_before_reading s n e ≡ None → n.up ≡ true
      at_up first = go n.up (subst (λ b. not (n.up || b) ≡ false) serves (not_refused (not (n.up || e.while_down)) line.NodeDown (neither (refused_if (not (n.up || e.while_down)) line.NodeDown) (e.refused_before_reading s n) first).0))
        where
          go : (b : Bool) → not (b || false) ≡ false → b ≡ true
          go true k = refl
          go false k = let no : ⊥ = cc in absurd no

      abbrev Leaves : List Line → Line → Node → Type 0
      Leaves ls answer m = IsKept (by r (ls ++ answer ∷ [])) m

      done_up : refused_before_reading s n e ≡ None → e.refused_after_reading s n ≡ None → Leaves (lines_of_rows (e.rows s n) ++ e.closing_lines n) (e.answer s n) (node_after e.closing (node_after_rows (e.rows s n) n))
      done_up first late = subst (λ o. Leaves (lines_of_rows (e.rows s n) ++ e.closing_lines n) (e.answer s n) (node_after o (node_after_rows (e.rows s n) n))) (sym closing)
          (subst (λ ls. Leaves ls (e.answer s n) (node_after_rows (e.rows s n) n)) (sym (nothing_more (lines_of_rows (e.rows s n)) (e.closing_lines n) (closes n))) (outcome (at_up first) first late).0)

      begun_up : (o : Option Line) → e.refused_after_reading s n ≡ o → refused_before_reading s n e ≡ None → Leaves (begun s n e o).lines (begun s n e o).answer (begun s n e o).node
      begun_up (Some refusal) late first = refused_told r refusal n ((refuses_then s n (Serves r)).says refusal late) h
      begun_up None late first = done_up first late

      whole_up : (o : Option Line) → refused_before_reading s n e ≡ o → Leaves (whole s n n e o).lines (whole s n n e o).answer (whole s n n e o).node
      whole_up (Some refusal) first = refused_told r refusal n ((refuses_first s n (Serves r)).says refusal first) h
      whole_up None first = begun_up (e.refused_after_reading s n) refl first

      cut_up : (j : ℕ) (t : Bool) (cause : Cause) → refused_before_reading s n e ≡ None → (o : Option Line) → e.refused_after_reading s n ≡ o →
          (let rs = rows_if o (e.rows s n) in IsKept (by r ((lines_of_rows (take j rs) ++ line.Down n.name cause ∷ []) ++ line.Broken cause ∷ [])) (fallen (act_begun t (drop j rs)) (node_after_rows (take j rs) n)))
      cut_up j t cause first None late = (outcome (at_up first) first late).1 j t cause
      cut_up j t cause first (Some refusal) late = none j t
        where
          none : (j : ℕ) (t : Bool) → IsKept (by r ((lines_of_rows (take j []) ++ line.Down n.name cause ∷ []) ++ line.Broken cause ∷ [])) (fallen (act_begun t (drop j [])) (node_after_rows (take j []) n))
          none zero true = broken (at_up first) first cause
          none zero false = broken (at_up first) first cause
          none (suc j) true = broken (at_up first) first cause
          none (suc j) false = broken (at_up first) first cause

      same_ready : (o : Outturn) → ready_node o stops e n ≡ n
      same_ready o = ap (λ b. if b then with_unknown_volume (answers.spoils e) (powered o stops n) else n) off

      up_request : (goes : e.goes_on ≡ false) (c : Choice) (rises : Cause → Type 0) → TaskAllowed s stops n (Serves r) rises c → Leaves (task_effect s stops n (Serves r) c).lines (task_effect s stops n (Serves r) c).answer (task_effect s stops n (Serves r) c).node
      up_request goes (Whole o) rises may = subst (λ m. let x = whole s n m e (refused_before_reading s n e) in Leaves x.lines x.answer x.node) (sym (same_ready o)) (whole_up (refused_before_reading s n e) refl)
      up_request goes WithoutMemory rises may = refused_told r line.NoMemory n refl h
      up_request goes Unpowered rises may = absurd (both_ways (powers e) off may.1)
      up_request goes (Cut o j t cause) rises may = subst (λ b. Leaves (lines_of_rows (take j (rows_to_cut s (ready_node o stops e n) e)) ++ line.Down (ready_node o stops e n).name cause ∷ []) (if b then line.Normal else line.Broken cause)
          (fallen (act_begun t (drop j (rows_to_cut s (ready_node o stops e n) e))) (node_after_rows (take j (rows_to_cut s (ready_node o stops e n) e)) (ready_node o stops e n)))) (sym goes)
          (subst (λ m. let rs = rows_to_cut s m e in IsKept (by r ((lines_of_rows (take j rs) ++ line.Down m.name cause ∷ []) ++ line.Broken cause ∷ [])) (fallen (act_begun t (drop j rs)) (node_after_rows (take j rs) m))) (sym (same_ready o))
          (cut_up j t cause may.0 (e.refused_after_reading s n) refl))

    passes : (r : Request) → refused_before_reading s n (service r) ≡ None → (service r).refused_before_reading s n ≡ None
    passes r first = (neither (refused_if (not (n.up || (service r).while_down)) line.NodeDown) ((service r).refused_before_reading s n) first).1

    answer_plain : (r : Request) → is_plain ((service r).answer s n) ≡ true
    answer_plain r = success_other _ (task_succeeds s n (Serves r))

    -- an operation of a branch
    records_effect : (label : List ℕ) (op : Operation) (c : Choice) (rises : Cause → Type 0) → TaskAllowed s stops n (Serves (Records label file op)) rises c →
        (let x = task_effect s stops n (Serves (Records label file op)) c in IsKept (by (Records label file op) (x.lines ++ x.answer ∷ [])) x.node)
    records_effect label op c rises may = up_request (Records label file op) refl refl refl (λ m. refl) outcome (λ up first cause. fell_first a h.disk) refl c rises may
      where
        outcome : n.up ≡ true → refused_before_reading s n (service (Records label file op)) ≡ None → (service (Records label file op)).refused_after_reading s n ≡ None → Outcome (Records label file op) ((service (Records label file op)).rows s n) ((service (Records label file op)).answer s n)
        outcome up first late =
            let behind_label = (neither (made_label s n label) _ (passes (Records label file op) first)).1 in
            let behind_file = neither (there_is_file n file) _ behind_label in
            let behind_form = neither (of_file n file (λ g. form_refused g op)) _ behind_file.1 in
            let behind_branch = neither (unsettled_label s n label) _ behind_form.1 in
            let state = (neither (in_state is_working (branch_labelled s n label)) _ behind_branch.1).0 in
            let there = there_is_one n file behind_file.0 in
            let form = file_says n file there.0 (λ g. form_refused g op) there.1 behind_form.0 in
            go up there.0 there.1 form state (branch_labelled s n label) refl behind_branch.0 (task_rows s stops n sound.kept (Serves (Records label file op)) up first late).up
          where
            of_branch : n.up ≡ true → (f : File) → find_file file n.durable.directory ≡ Some f → form_refused f op ≡ None → (b : Branch) → branch_labelled s n label ≡ Some b → is_working b ≡ true → (cs : List Change) → changes_of f op ≡ cs → AreUp (silent (operation_act b file cs (keys_at n file op)) ∷ []) n →
                Outcome (Records label file op) (silent (operation_act b file cs (keys_at n file op)) ∷ []) (operation_told n file op)
            of_branch up f there form b e working cs is all = (
              operation_done label op b f up e working there form cs is all (operation_told n file op) (ap (λ (o : Option File). elim o as (λ x. Line) [ Some g ↦ operation_answer g op | None ↦ line.RecordNormal ]) there) (answer_plain (Records label file op)),
              operation_cut label op b f up e working there form cs,
            )

            go : n.up ≡ true → (f : File) → find_file file n.durable.directory ≡ Some f → form_refused f op ≡ None → in_state is_working (branch_labelled s n label) ≡ None → (o : Option Branch) → branch_labelled s n label ≡ o → ◌≡◌ {A = Option Line} (elim o [ Some b ↦ None | None ↦ Some line.NoSuchTransaction ]) None →
                AreUp (elim (branch_labelled s n label) [ Some b ↦ operated n file op b ∷ [] | None ↦ [] ]) n → Outcome (Records label file op) (elim (branch_labelled s n label) [ Some b ↦ operated n file op b ∷ [] | None ↦ [] ]) (operation_told n file op)
            go up f there form state (Some b) e q all =
                subst (λ o. AreUp (elim o [ Some b ↦ operated n file op b ∷ [] | None ↦ [] ]) n → Outcome (Records label file op) (elim o [ Some b ↦ operated n file op b ∷ [] | None ↦ [] ]) (operation_told n file op)) (sym e)
                (λ k. subst (λ cs. AreUp (silent (operation_act b file cs (keys_at n file op)) ∷ []) n → Outcome (Records label file op) (silent (operation_act b file cs (keys_at n file op)) ∷ []) (operation_told n file op)) (sym (changes_there n file op f there))
                (λ j. of_branch up f there form b e (holds_it is_working (branch_labelled s n label) b state e) (changes_of f op) refl j) k) all
            go up f there form state None e q all = let no : ⊥ = cc in absurd no

    -- a change without a label
    direct_effect : (op : Operation) (c : Choice) (rises : Cause → Type 0) → TaskAllowed s stops n (Serves (Direct file op)) rises c →
        (let x = task_effect s stops n (Serves (Direct file op)) c in IsKept (by (Direct file op) (x.lines ++ x.answer ∷ [])) x.node)
    direct_effect op c rises may = up_request (Direct file op) refl refl refl (λ m. refl) outcome broken refl c rises may
      where
        file_of_it : refused_before_reading s n (service (Direct file op)) ≡ None → (f : File) × (find_file file n.durable.directory ≡ Some f) × (form_refused f op ≡ None)
        file_of_it first =
            let behind_file = neither (there_is_file n file) _ (passes (Direct file op) first) in
            let behind_form = neither (of_file n file (λ g. form_refused g op)) _ behind_file.1 in
            let there = there_is_one n file behind_file.0 in
            (there.0, there.1, file_says n file there.0 (λ g. form_refused g op) there.1 behind_form.0)

        broken : n.up ≡ true → refused_before_reading s n (service (Direct file op)) ≡ None → Broken (Direct file op)
        broken up first cause = let f = file_of_it first in go f.0 f.1 f.2 (changes_of f.0 op) refl
          where
            go : (f : File) → find_file file n.durable.directory ≡ Some f → form_refused f op ≡ None → (cs : List Change) → changes_of f op ≡ cs → IsKept (by (Direct file op) (line.Down n.name cause ∷ line.Broken cause ∷ [])) (fallen None n)
            go f there form [] is = broken_none op f up there form cause is
            go f there form (x ∷ cs) is = broken_first op f up there form x cs is cause

        outcome : n.up ≡ true → refused_before_reading s n (service (Direct file op)) ≡ None → (service (Direct file op)).refused_after_reading s n ≡ None → Outcome (Direct file op) ((service (Direct file op)).rows s n) ((service (Direct file op)).answer s n)
        outcome up first late =
            let f = file_of_it first in
            let all = (task_rows s stops n sound.kept (Serves (Direct file op)) up first late).up in
            subst (λ cs. AreUp (directed n file cs) n → Outcome (Direct file op) (directed n file cs) (operation_told n file op)) (sym (changes_there n file op f.0 f.1)) (λ k. go f.0 f.1 f.2 (changes_of f.0 op) refl k) all
          where
            go : (f : File) → find_file file n.durable.directory ≡ Some f → form_refused f op ≡ None → (cs : List Change) → changes_of f op ≡ cs → AreUp (directed n file cs) n → Outcome (Direct file op) (directed n file cs) (operation_told n file op)
            go f there form [] is all = (
              no_change op f up there form (operation_told n file op) (answer_plain (Direct file op)),
              λ j t cause. none j t cause,
            )
              where
                none : (j : ℕ) (t : Bool) (cause : Cause) → IsKept (by (Direct file op) ((lines_of_rows (take j []) ++ line.Down n.name cause ∷ []) ++ line.Broken cause ∷ [])) (fallen (act_begun t (drop j [])) (node_after_rows (take j []) n))
                none zero true cause = broken_none op f up there form cause is
                none zero false cause = broken_none op f up there form cause is
                none (suc j) true cause = broken_none op f up there form cause is
                none (suc j) false cause = broken_none op f up there form cause is
            go f there form (x ∷ cs) is all = (
              direct_done op f up there form x cs is all (operation_told n file op) (ap (λ (o : Option File). elim o as (λ y. Line) [ Some g ↦ operation_answer g op | None ↦ line.RecordNormal ]) there) (answer_plain (Direct file op)),
              direct_cut op f up there form x cs is all.1,
            )

    create_effect : (f : List ℕ) (bucket size : ℕ) (form : Form) (c : Choice) (rises : Cause → Type 0) → TaskAllowed s stops n (Serves (Create f bucket size form)) rises c →
        (let x = task_effect s stops n (Serves (Create f bucket size form)) c in IsKept (by (Create f bucket size form) (x.lines ++ x.answer ∷ [])) x.node)
    create_effect f bucket size form c rises may = up_request (Create f bucket size form) refl refl refl (λ m. refl)
        (λ up first late. create_outcome f bucket size form up (absent_file first) (task_rows s stops n sound.kept (Serves (Create f bucket size form)) up first late).up) (λ up first cause. fell_first a h.disk) refl c rises may
      where
        absent_file : refused_before_reading s n (service (Create f bucket size form)) ≡ None → find_file f n.durable.directory ≡ None
        absent_file first = not_there n f (neither (new_file n f) _ (passes (Create f bucket size form) first)).0

    -- The file is recovered.

    abbrev doubted : TheRecords → Account
    doubted given = record a { given = Some given }

    -- what is told where it broke, and where it is done
    broken_recovery : (way : Recovery) (cause : Cause) → by (Recover file way) (line.Down n.name cause ∷ line.Broken cause ∷ []) ≡ doubted (given_in node file w way)
    broken_recovery way cause = ap (λ c. if c then record a { given = Some (given_in node file w way) } else a) (ap (λ c. c && bytes_eq file file) (same_text node) ∙ same_text file)

    given_there : (way : Recovery) (f : File) → find_file file n.durable.directory ≡ Some f → given_in node file w way ≡ records_recovered way f
    given_there way f there = ap (λ o. elim o as (λ x. TheRecords) [ Some g ↦ records_recovered way g | None ↦ empty ]) (file_there f there)

    done_recovery : (way : Recovery) (f : File) (count : ℕ) → find_file file n.durable.directory ≡ Some f → by (Recover file way) (line.NormalCount count ∷ []) ≡ record a { records = records_recovered way f }
    done_recovery way f count there = ap (λ c. if c then record a { records = given_in node file w way } else a) (ap (λ c. c && bytes_eq file file) (same_text node) ∙ same_text file) ∙ ap (λ m. record a { records = m }) (given_there way f there)

    -- nothing was in doubt before, while the node was up, and no unsettled branch had changed the file
    doubted_disk : n.up ≡ true → (history_in file n.durable.directory).live ≡ [] → (given : TheRecords) → IsDisk (doubted given) n
    doubted_disk up rest given = or_else node file D (λ x. x) (λ k. inr (falls_told node file D false (doubted given) n (sound.kept.runs up).0 (record {
      named = k.named;
      shown = k.shown;
      records_are = inl (sure_records a (records (history_in file n.durable.directory)) (sure up) k.records_are);
      still = λ m e. rest;
      quiet = k.quiet;
      own = k.own;
      only = k.only;
      fresh = λ e. let no : ⊥ = cc in absurd no;
      told = λ x i. let t = k.told x i in record { tells = t.tells; staying = t.staying };
    }))) (h.runs up)

    -- what it does to the file that is there
    module _ (way : Recovery) (f : File) (there : find_file file n.durable.directory ≡ Some f) (up : n.up ≡ true) (rest : (history_in file n.durable.directory).live ≡ []) where
      abbrev recovered_records : TheRecords
      recovered_records = records_recovered way f

      abbrev recovery_act : Act
      recovery_act = Recovers file (answers.start_of (world.lowest_free n (answers.blocks_recovered way f))) (world.buckets_loaded f recovered_records) recovered_records

      recovered_told : (r : TheRecords) (given : Option TheRecords) → (r ≡ recovered_records) ⊎ (given ≡ Some recovered_records) → IsUpTold (record a { records = r; given = given }) (acted recovery_act n)
      recovered_told r given may = or_else node file D (λ x. betrays_acted node file D recovery_act n x)
          (λ k. inr (recovers_up node file D n f there (sound.kept.runs up).0 a k (answers.start_of (world.lowest_free n (answers.blocks_recovered way f))) (world.buckets_loaded f recovered_records) recovered_records r given may rest)) (h.runs up)

      after_disk : IsUp (acted recovery_act n) → IsDisk (doubted recovered_records) (acted recovery_act n)
      after_disk all = or_else node file D (λ x. x) (λ k. inr (falls_told node file D false (doubted recovered_records) (acted recovery_act n) all k)) (recovered_told a.records (Some recovered_records) (inr refl))

      recovered_of : AreUp (silent recovery_act ∷ []) n → (count : ℕ) → Outcome (Recover file way) (silent recovery_act ∷ []) (line.NormalCount count)
      recovered_of all count = (
        subst (λ b. IsKept b (acted recovery_act n)) (sym (done_recovery way f count there)) (up_kept (record a { records = recovered_records }) (silent recovery_act ∷ []) up all (recovered_told recovered_records a.given (inl refl))),
        λ j t cause. subst (λ ls. IsKept (by (Recover file way) ((ls ++ line.Down n.name cause ∷ []) ++ line.Broken cause ∷ [])) (fallen (act_begun t (drop j (silent recovery_act ∷ []))) (node_after_rows (take j (silent recovery_act ∷ [])) n))) (sym (none j))
            (subst (λ b. IsKept b (fallen (act_begun t (drop j (silent recovery_act ∷ []))) (node_after_rows (take j (silent recovery_act ∷ [])) n))) (sym (broken_recovery way cause ∙ ap doubted (given_there way f there)))
            (fell (telling node file D) (telling_keeps node file D) t j (silent recovery_act ∷ []) n (doubted recovered_records) (disk j) (λ x q. let o = one_begun t j (silent recovery_act) x q in under j x o.0 o.1))),
      )
        where
          none : (j : ℕ) → lines_of_rows (take j (silent recovery_act ∷ [])) ≡ []
          none zero = refl
          none (suc zero) = refl
          none (suc (suc j)) = refl

          disk : (j : ℕ) → IsDisk (doubted recovered_records) (node_after_rows (take j (silent recovery_act ∷ [])) n)
          disk zero = doubted_disk up rest recovered_records
          disk (suc zero) = after_disk all.1
          disk (suc (suc j)) = after_disk all.1

          under : (j : ℕ) (x : Act) → j ≡ 0 → Some recovery_act ≡ Some x → IsDisk (doubted recovered_records) (acted x (node_after_rows (take j (silent recovery_act ∷ [])) n))
          under zero x z is = subst (λ y. IsDisk (doubted recovered_records) (acted y n)) (some_is _ x is) (after_disk all.1)
          under (suc j) x z is = let no : ⊥ = cc in absurd no

    recovers_rest : n.up ≡ true → (way : Recovery) → refused_before_reading s n (service (Recover file way)) ≡ None → (history_in file n.durable.directory).live ≡ []
    recovers_rest up way first =
        let behind_file = neither (there_is_file n file) _ (passes (Recover file way) first) in
        let there = there_is_one n file behind_file.0 in
        ap (λ o. (history_of o).live) there.1 ∙ recovery_rests n file (sound.kept.runs up).0 (sound.kept.runs up).1 way behind_file.1 there.0 there.1

    recover_effect : (way : Recovery) (c : Choice) (rises : Cause → Type 0) → TaskAllowed s stops n (Serves (Recover file way)) rises c →
        (let x = task_effect s stops n (Serves (Recover file way)) c in IsKept (by (Recover file way) (x.lines ++ x.answer ∷ [])) x.node)
    recover_effect way c rises may = up_request (Recover file way) refl refl refl (λ m. refl) outcome
        (λ up first cause. subst (λ b. IsKept b (fallen None n)) (sym (broken_recovery way cause)) (fell_first (doubted (given_in node file w way)) (doubted_disk up (recovers_rest up way first) (given_in node file w way)))) refl c rises may
      where
        outcome : n.up ≡ true → refused_before_reading s n (service (Recover file way)) ≡ None → (service (Recover file way)).refused_after_reading s n ≡ None →
            Outcome (Recover file way) ((service (Recover file way)).rows s n) ((service (Recover file way)).answer s n)
        outcome up first late =
            let there = there_is_one n file (neither (there_is_file n file) _ (passes (Recover file way) first)).0 in
            let all = (task_rows s stops n sound.kept (Serves (Recover file way)) up first late).up in
            subst (λ o. AreUp (elim o as (λ x. List Row) [ Some f ↦ answers.recovers n file way f | None ↦ [] ]) n →
            Outcome (Recover file way) (elim o as (λ x. List Row) [ Some f ↦ answers.recovers n file way f | None ↦ [] ]) (elim o as (λ x. Line) [ Some f ↦ line.NormalCount (length (entries (records_recovered way f))) | None ↦ line.Normal ])) (sym there.1)
            (λ k. recovered_of way there.0 there.1 up (recovers_rest up way first) k (length (entries (records_recovered way there.0)))) all

    -- a volume is made
    init_effect : (slots journal : ℕ) (c : Choice) (rises : Cause → Type 0) → TaskAllowed s stops n (Serves (Init slots journal)) rises c →
        (let x = task_effect s stops n (Serves (Init slots journal)) c in IsKept (by (Init slots journal) (x.lines ++ x.answer ∷ [])) x.node)
    init_effect slots journal (Whole o) rises may = go (refused_before_reading s n (service (Init slots journal))) refl
      where
        ready : Node
        ready = with_unknown_volume true (powered o stops n)

        made : by (Init slots journal) (line.Normal ∷ []) ≡ no_account
        made = ap (λ b. if b then no_account else a) (same_text node)

        disk : IsToldDisk node file D no_account (acted (Formats slots journal) (with_unknown_volume true (powered o stops n))).name (acted (Formats slots journal) (with_unknown_volume true (powered o stops n))).durable
        disk = new_told slots journal (with_unknown_volume true (powered o stops n)) (powered_name o stops n ∙ found_name node w.nodes n found)

        go : (q : Option Line) → refused_before_reading s n (service (Init slots journal)) ≡ q →
            (let x = whole s n (with_unknown_volume true (powered o stops n)) (service (Init slots journal)) q in IsKept (by (Init slots journal) (x.lines ++ x.answer ∷ [])) x.node)
        go (Some refusal) first = refused_told (Init slots journal) refusal n ((refuses_first s n (Serves (Init slots journal))).says refusal first) h
        go None first = subst (λ b. IsKept b (acted (Formats slots journal) (with_unknown_volume true (powered o stops n)))) (sym made)
            (init_done (telling node file D) (telling_keeps node file D) s stops n (Serves (Init slots journal)) a sound.kept h (unused s n sound) slots journal no_account o may first (inr disk))
    init_effect slots journal WithoutMemory rises may = refused_told (Init slots journal) line.NoMemory n refl h
    init_effect slots journal Unpowered rises may = init_else (telling node file D) (telling_keeps node file D) s stops n (Serves (Init slots journal)) a sound.kept h (unused s n sound) slots journal Unpowered rises may (λ o is. let no : ⊥ = cc in absurd no)
    init_effect slots journal (Cut o j t cause) rises may =
        subst (λ ls. IsKept (by (Init slots journal) ((ls ++ line.Down (with_unknown_volume true (powered o stops n)).name cause ∷ []) ++ line.Broken cause ∷ [])) (fallen (act_begun t (drop j [])) (node_after_rows (take j []) (with_unknown_volume true (powered o stops n))))) (sym (no_row j))
        (subst (λ ls. IsKept (commits_here node (ls ++ line.Down (with_unknown_volume true (powered o stops n)).name cause ∷ []) a) (fallen (act_begun t (drop j [])) (node_after_rows (take j []) (with_unknown_volume true (powered o stops n))))) (no_row j)
        (init_else (telling node file D) (telling_keeps node file D) s stops n (Serves (Init slots journal)) a sound.kept h (unused s n sound) slots journal (Cut o j t cause) rises may (λ q is. let no : ⊥ = cc in absurd no)))
      where
        no_row : (j : ℕ) → lines_of_rows (take j []) ≡ []
        no_row zero = refl
        no_row (suc j) = refl

    pub special_effect : (r : Request) → tells_file node file D r ≡ true → (c : Choice) (rises : Cause → Type 0) → TaskAllowed s stops n (Serves r) rises c → (let x = task_effect s stops n (Serves r) c in IsKept (by r (x.lines ++ x.answer ∷ [])) x.node)
    special_effect (Records label f op) is c rises may = subst (λ y. TaskAllowed s stops n (Serves (Records label y op)) rises c → (let x = task_effect s stops n (Serves (Records label y op)) c in IsKept (by (Records label y op) (x.lines ++ x.answer ∷ [])) x.node)) (sym ((bytes_eq-Decides f file).0 is))
        (λ k. records_effect label op c rises k) may
    special_effect (Direct f op) is c rises may = subst (λ y. TaskAllowed s stops n (Serves (Direct y op)) rises c → (let x = task_effect s stops n (Serves (Direct y op)) c in IsKept (by (Direct y op) (x.lines ++ x.answer ∷ [])) x.node)) (sym ((bytes_eq-Decides f file).0 is))
        (λ k. direct_effect op c rises k) may
    special_effect (Create f bucket size form) is c rises may = create_effect f bucket size form c rises may
    special_effect (Init slots journal) is c rises may = init_effect slots journal c rises may
    special_effect (Recover f way) is c rises may = subst (λ y. TaskAllowed s stops n (Serves (Recover y way)) rises c → (let x = task_effect s stops n (Serves (Recover y way)) c in IsKept (by (Recover y way) (x.lines ++ x.answer ∷ [])) x.node)) (sym ((bytes_eq-Decides f file).0 is))
        (λ k. recover_effect way c rises k) may
    special_effect _ is c rises may = let no : ⊥ = cc in absurd no
