-- INIT: an empty volume, and what the node's disk has then.
use Rattle.std.proofs.Common.{◌≡◌, inl, inr, ℕ, ◌+◌, ◌<◌, ◌≤◌, List, [], ◌∷◌, ◌++◌, Bool, true, false, not, Option, Some, None, IfSome, is_some, length, if◌then◌else◌, refl, sym, ap, subst, ◌∙◌, arith}
use Rattle.std.specs.Prelude.{◌&&◌, ◌||◌, nat_le, nat_lt}
use Rattle.std.proofs.lemmas.List.{length-drop}
use Rattle.std.proofs.lemmas.Bool.Decides.{nat_tests}
use Rattle.std.specs.List.{AllByRecursion}
use Rattle.vms_base.proofs.NameLemmas.{both}
use Rattle.block_disk.specs.Blocks.{IsWhole, laid_from}
use Rattle.block_disk.specs.Disk.{DiskState, CallLog, IsPowered, noted}
use Rattle.block_disk.specs.declared.disk.DiskCall.TheVariants as disk_call
use Rattle.block_disk.specs.declared.disk.DiskErr.{DiskErr}
use Rattle.careful_write.specs.Content.{content_of, fits, gate_open, home, intents}
use Rattle.careful_write.specs.Down.{CountsDown, down_of}
use Rattle.careful_write.specs.State.{EachWhole}
use Rattle.careful_write.specs.Steps.{Quiet}
use Rattle.careful_write.specs.declared.down.Down.{Down}
use Rattle.careful_write.proofs.GroupParts.{stop_reading}
use Rattle.careful_write.proofs.Images.{closed_fits}
use Rattle.emitter_model.specs.commit_protocol.World.{In}
use Rattle.volume.specs.declared.catalog.Catalog.{Catalog}
use Rattle.volume.specs.Catalogs.{IsSound, TellsCatalog}
use Rattle.volume.specs.Empty.{IsEmptyVolume, empty_catalog, empty_home}
use Rattle.volume.specs.Limits.{SizesFit}
use Rattle.emitter_model.specs.transcript_model.Outside.{Rose}
use Rattle.emitter_model.specs.transcript_model.Lines as line
use Rattle.emitter_model.specs.transcript_model.Lines.{Line, Cause, Failed}
use Rattle.emitter_model.specs.Emitting.{Shown, Emits}
use Rattle.script_lang.specs.script_model.Statements.{Init}
use Rattle.said_steps.specs.run_said.Said.{Said, SaidNode, SaidShared, is_of_lines, line_said, request_said, with_said}
use Rattle.said_steps.specs.Own.{IsOwn, alone}
use Rattle.world_laws.specs.run_model.World.{DiskCounts, Formats, Lost, Node, Power, Shared, Unknown, acted, fallen, powered, unpowered}
use Rattle.world_laws.specs.run_model.Answers.{Serves, is_volume_form, is_within, refused_before_reading, service}
use Rattle.world_laws.specs.run_model.Operations.{first_of, refused_if}
use Rattle.world_laws.specs.run_model.Steps.{Cut, NodeStep, Unpowered, Whole, count_of, with_unknown_volume}
use Rattle.recovery_units.specs.volume_model.Volumes.{IsLeftBy, LeavesVolume}
use Rattle.recovery_units.specs.Laws.{IsMade, KeepsNodes}
use Rattle.recovery_units.specs.Uses.{IsCounted}
use Rattle.run_shared.specs.Sharing.{IsShared, SharedState}
use Rattle.dtm_node.specs.declared.node.Formatted.{Formatted}
use Rattle.dtm_node.specs.declared.node.Formatted.TheVariants as formatted
use Rattle.dtm_node.specs.Causes.{cause_of}
use Rattle.dtm_node.specs.Formatting.{Formats as FormatsPlace, FormatsDisk, init_answer, init_lines, is_ended, kept_so, unmade_then}
use Rattle.node_requests.specs.node_standing.Keeping.{Performs, PerformsRequest}
use Rattle.node_requests.specs.node_standing.Standing.{IsDown, IsRunning, NodeState, Place, RepresentsNode, counts_of, disk_in, noted_all}
use Rattle.node_requests.specs.node_standing.Holding.{HoldsAs}
use Rattle.dtm_node.proofs.Answered.{calm_answers, fell_answers, refused_answers}
use Rattle.dtm_node.proofs.Held.{holds_is}
use Rattle.node_requests.specs.node_standing.Telling.{AnswersTask, DiskAdvancesOverCalls, TellsTask, task_used, powered_task, refused_task, said_alone, said_node, said_shared, task_said}
use Rattle.dtm_node.proofs.DiskLemmas.{as_it_was, disk_unknown}
use Rattle.dtm_node.proofs.Passing.{Unpowers, passes_counts, passes_on, passes_power, passes_same, power_calls, rose_after, rose_down}
use Rattle.node_requests.proofs.SaysLemmas.{alone_down, same_text}

-- a volume that was just made, on a disk of so many whole blocks
is_made : (name : List ℕ) (size slots journal : ℕ) (blocks : List (List ℕ)) → SizesFit size (record { blocks = size; slots = slots; ru_blocks = journal }) → IsWhole size blocks → 4096 ≤ size → IsEmptyVolume (empty_home name size slots journal) (home blocks) → IsMade (home blocks) (empty_catalog (empty_home name size slots journal)) slots journal
is_made name size slots journal blocks fit whole least empty = record {
  slots_are = refl;
  few = fit.most_slots;
  journal_is = refl;
  boot = refl;
  greatest = refl;
  last = refl;
  heads = refl;
  first = refl;
  end = refl;
  some = (let some = fit.least_journal in omega (arith, some));
  within = (let room = fit.room in let long = length-drop 518 blocks in let count = whole.count in omega (arith, room, long, count));
  log = empty;
}

-- whether a volume may be made so

le_of : (m n : ℕ) → nat_le m n ≡ true → m ≤ n
le_of m n e = grind (arith, nat_tests)

lt_of : (m n : ℕ) → nat_lt m n ≡ true → m < n
lt_of m n e = grind (arith, nat_tests)

all_three : (a b c : Bool) → (a && b && c) ≡ true → (a ≡ true) × (b ≡ true) × (c ≡ true)
all_three true true true e = (refl, refl, refl)
all_three true true false e = let none : ⊥ = cc in absurd none
all_three true false c e = let none : ⊥ = cc in absurd none
all_three false b c e = let none : ⊥ = cc in absurd none

three_true : (a b c : Bool) → a ≡ true → b ≡ true → c ≡ true → (a && b && c) ≡ true
three_true true true true p q r = refl
three_true true true false p q r = r
three_true true false c p q r = let none : ⊥ = cc in absurd none
three_true false b c p q r = let none : ⊥ = cc in absurd none

within_of : (from to n : ℕ) → from ≤ n → n ≤ to → (nat_le from n && nat_le n to) ≡ true
within_of from to n low high = grind (arith, nat_tests)

lt_true : (m n : ℕ) → m < n → nat_lt m n ≡ true
lt_true m n lt = grind (arith, nat_tests)

form_fits : (slots journal size : ℕ) (n : Node) → n.blocks ≡ size → is_volume_form slots journal n ≡ true → SizesFit size (record { blocks = size; slots = slots; ru_blocks = journal })
form_fits slots journal size n is e =
    let p = all_three (is_within 64 512 slots) (is_within 64 8192 journal) (nat_lt (584 + slots + journal) n.blocks) e in
    let s = both (nat_le 64 slots) (nat_le slots 512) p.0 in
    let j = both (nat_le 64 journal) (nat_le journal 8192) p.1 in
    record {
      blocks = refl;
      least_slots = le_of 64 slots s.0;
      most_slots = le_of slots 512 s.1;
      least_journal = le_of 64 journal j.0;
      most_journal = le_of journal 8192 j.1;
      room = subst (λ x. 584 + slots + journal < x) is (lt_of (584 + slots + journal) n.blocks p.2);
    }

fits_form : (slots journal size : ℕ) (n : Node) → n.blocks ≡ size → SizesFit size (record { blocks = size; slots = slots; ru_blocks = journal }) → is_volume_form slots journal n ≡ true
fits_form slots journal size n is f =
    three_true (is_within 64 512 slots) (is_within 64 8192 journal) (nat_lt (584 + slots + journal) n.blocks) (within_of 64 512 slots f.least_slots f.most_slots) (within_of 64 8192 journal f.least_journal f.most_journal)
    (lt_true (584 + slots + journal) n.blocks (subst (λ x. 584 + slots + journal < x) (sym is) f.room))

no_form : (slots journal size : ℕ) (n : Node) → n.blocks ≡ size → (SizesFit size (record { blocks = size; slots = slots; ru_blocks = journal }) → ⊥) → is_volume_form slots journal n ≡ false
no_form slots journal size n is misfit = go (is_volume_form slots journal n) refl
  where
    go : (b : Bool) → is_volume_form slots journal n ≡ b → is_volume_form slots journal n ≡ false
    go true e = absurd (misfit (form_fits slots journal size n is e))
    go false e = e

some_of : (o : Option (List (List ℕ))) → is_some o ≡ true → (b : List (List ℕ)) × (o ≡ Some b)
some_of (Some b) e = (b, refl)
some_of None e = let none : ⊥ = cc in absurd none

-- The steps of an INIT.

or_false : (b : Bool) → (b || false) ≡ b
or_false true = refl
or_false false = refl

module _ (s : Shared) (n : Node) (slots journal : ℕ) (old new : DiskCounts) (faults : old.faults ≤ new.faults) (stops : old.stops ≤ new.stops) where
  unoccupied : s ≡ record s { in_use = s.in_use || false }
  unoccupied = λ i. record s { in_use = sym (or_false s.in_use) i }

  step_early : (refusal : Line) → refused_before_reading s n (service (Init slots journal)) ≡ Some refusal → NodeStep s n old (Serves (Init slots journal)) [] refusal true n s new
  step_early refusal early = record { choice = Whole Lost; allowed = tt; faults = faults; stops = stops; shows = rw early refl; answers = rw early refl; over = rw early refl; node = rw early refl; shared = rw early refl }

  module _ (early : refused_before_reading s n (service (Init slots journal)) ≡ None) where
    step_dead : Rose (count_of Failed old) (count_of Failed new) → NodeStep s n old (Serves (Init slots journal)) (line.Down n.name Failed ∷ []) (line.Broken Failed) true (with_unknown_volume true (unpowered old.stops n)) s new
    step_dead rose = record { choice = Unpowered; allowed = (early, refl, rose); faults = faults; stops = stops; shows = refl; answers = refl; over = refl; node = refl; shared = unoccupied }

    step_fell : (cause : Cause) → Rose (count_of cause old) (count_of cause new) → NodeStep s n old (Serves (Init slots journal)) (line.Down n.name cause ∷ []) (line.Broken cause) true (fallen None (with_unknown_volume true (powered Lost old.stops n))) s new
    step_fell cause rose = record { choice = Cut Lost 0 false cause; allowed = (early, refl, tt, omega arith, rose); faults = faults; stops = stops; shows = refl; answers = refl; over = refl; node = refl; shared = unoccupied }

    step_made : NodeStep s n old (Serves (Init slots journal)) [] line.Normal false (acted (Formats slots journal) (with_unknown_volume true (powered Lost old.stops n))) s new
    step_made = record { choice = Whole Lost; allowed = tt; faults = faults; stops = stops; shows = rw early refl; answers = rw early refl; over = rw early refl; node = rw early refl; shared = rw early unoccupied }

early_by : (s : Shared) (n : Node) (slots journal : ℕ) (used form : Bool) → n.up ≡ false → s.in_use ≡ used → is_volume_form slots journal n ≡ form
    → refused_before_reading s n (service (Init slots journal)) ≡ first_of (refused_if used line.VolumeInUse) (refused_if (not form) line.BadParameter)
early_by s n slots journal used form down free is = λ i. first_of (refused_if (not (down i || true)) line.NodeDown) (first_of (refused_if (free i) line.VolumeInUse) (refused_if (not (is i)) line.BadParameter))

-- What an INIT says of a node that is down.

alone_unmade : (n : SaidNode) (s : SaidShared) (u : Bool) → (record { nodes = with_said n.name (λ m. record m { unmade = u }) (n ∷ []); shared = s }) ≡ alone (record n { unmade = u }) s
alone_unmade n s u = ap (λ (b : Bool). record { nodes = (if b then record n { unmade = u } ∷ [] else n ∷ []); shared = s }) (same_text n.name)

module _ (name : List ℕ) (slots journal : ℕ) (has_parts : Bool) (d0 : DiskState) where
  module _ (unmade : Bool) (clock : ℕ) (s : SharedState) (unused : s.in_use ≡ false) (a b : Shown) where
    abbrev before : NodeState
    before = kept_so name unmade clock has_parts d0

    unrefused : refused_task (said_shared s) (said_node before) (Serves (Init slots journal)) ≡ None
    unrefused = ap (λ (x : Bool). refused_if x line.VolumeInUse) unused

    none_some : (x : Line) → ◌≡◌ {A = Option Line} None (Some x) → ⊥
    none_some x e = cc

    tells : (done : Formatted) (d : DiskState) → Emits a (init_lines name done ++ init_answer done ∷ []) b → AllByRecursion (IsOwn name) (init_lines name done) → is_of_lines (init_answer done) ≡ false
        → task_said (Serves (Init slots journal)) (init_lines name done) (init_answer done) before s ≡ said_alone (kept_so name (unmade_then done unmade) clock has_parts d) s → ((u : Said) → line_said (init_answer done) u ≡ u)
        → d.calls ≡ (let cs : CallLog = if powered_task (Serves (Init slots journal)) (is_ended done) (init_answer done) then noted (disk_call.Power d0.stops) d0.calls else d0.calls in cs)
        → ((cause : Cause) → In (line.Down name cause) (init_lines name done) → IsCounted d0 → Rose (count_of cause (counts_of d0)) (count_of cause (counts_of d))) → DiskAdvancesOverCalls d0 d → (task_used (Serves (Init slots journal)) (is_ended done) (init_answer done) ≡ false → HoldsAs d0 d)
        → TellsTask (Serves (Init slots journal)) true (is_ended done) before s a b (kept_so name (unmade_then done unmade) clock has_parts d) s
    tells done d m own plain says quiet calls failures passes held = record {
      lines = init_lines name done;
      answer = init_answer done;
      emits = m;
      own = own;
      refused = λ refusal q. absurd (none_some refusal (sym unrefused ∙ q));
      others = λ none. plain;
      says = says;
      calls = calls;
      failures = failures;
      passes = passes;
      quiet = quiet;
      fused = λ writes choice q. (let f : ⊥ = cc in absurd f);
      boots = λ q. (let f : ⊥ = cc in absurd f);
      answered = init_tells done;
      held = λ down unused. (refl, held unused);
    }
      where
        init_tells : (x : Formatted) → AnswersTask (Serves (Init slots journal)) name (refused_task (said_shared s) (said_node before) (Serves (Init slots journal))) (init_lines name x) (init_answer x) (is_ended x)
        init_tells formatted.Refused = calm_answers (Serves (Init slots journal)) name (refused_task (said_shared s) (said_node before) (Serves (Init slots journal))) [] line.BadParameter true tt refl (λ q none. (let f : ⊥ = cc in f)) (λ none. refl)
        init_tells formatted.Made = calm_answers (Serves (Init slots journal)) name (refused_task (said_shared s) (said_node before) (Serves (Init slots journal))) [] line.Normal false tt refl (λ q none. (let f : ⊥ = cc in f)) (λ none. refl)
        init_tells (formatted.Failed down) = fell_answers (Serves (Init slots journal)) name (refused_task (said_shared s) (said_node before) (Serves (Init slots journal))) [] (cause_of down) tt (λ q. (let f : ⊥ = cc in f)) (λ none. refl)

    fell_says : (cause : Cause) (d : DiskState) → task_said (Serves (Init slots journal)) (line.Down name cause ∷ []) (line.Broken cause) before s ≡ said_alone (kept_so name true clock has_parts d) s
    fell_says cause d =
        ap (request_said name (Init slots journal) (line.Broken cause)) (alone_down (record { name = name; up = false; unmade = unmade }) (said_shared s) cause)
        ∙ alone_unmade (record { name = name; up = false; unmade = unmade }) (said_shared s) true

    fell_tells : (down : Down) (d : DiskState) → Emits a (line.Down name (cause_of down) ∷ line.Broken (cause_of down) ∷ []) b → d.calls ≡ noted (disk_call.Power d0.stops) d0.calls → (IsCounted d0 → Rose (count_of (cause_of down) (counts_of d0)) (count_of (cause_of down) (counts_of d))) → DiskAdvancesOverCalls d0 d
        → TellsTask (Serves (Init slots journal)) true true before s a b (kept_so name true clock has_parts d) s
    fell_tells down d m calls rose passes = tells (formatted.Failed down) d m (refl, tt) refl (fell_says (cause_of down) d) (λ u. refl) calls only passes (λ unused. (let f : ⊥ = cc in absurd f))
      where
        cause_in : (x y : Cause) → line.Down name x ≡ line.Down name y → x ≡ y
        cause_in x y e = cc

        only : (cause : Cause) → In (line.Down name cause) (line.Down name (cause_of down) ∷ []) → IsCounted d0 → Rose (count_of cause (counts_of d0)) (count_of cause (counts_of d))
        only cause (inl e) counted = subst (λ x. Rose (count_of x (counts_of d0)) (count_of x (counts_of d))) (sym (cause_in cause (cause_of down) e)) (rose counted)
        only cause (inr i) counted = absurd i

    -- In the world.
    module _ (log : CallLog) (w : Shared) (n : Node) (h : RepresentsNode log before n) (share : IsShared s w) where
      no_use : w.in_use ≡ false
      no_use = share.in_use ∙ unused

      misfit_performs : (SizesFit d0.size (record { blocks = d0.size; slots = slots; ru_blocks = journal }) → ⊥) → Emits a (line.BadParameter ∷ []) b → Performs log w n (counts_of d0) (Serves (Init slots journal)) true true a b before s
      misfit_performs misfit m = record {
        lines = [];
        answer = line.BadParameter;
        node = n;
        shared = w;
        step = step_early w n slots journal (counts_of d0) (counts_of d0) (omega arith) (omega arith) line.BadParameter (early_by w n slots journal false false h.place.down no_use (no_form slots journal d0.size n h.blocks misfit));
        emits = m;
        alike = share;
        stands = h;
      }

      module _ (fit : SizesFit d0.size (record { blocks = d0.size; slots = slots; ru_blocks = journal })) (d : DiskState) (passes : DiskAdvancesOverCalls d0 d) (calls : d.calls ≡ noted (disk_call.Power d0.stops) d0.calls) where
        none_early : refused_before_reading w n (service (Init slots journal)) ≡ None
        none_early = early_by w n slots journal false true h.place.down no_use (fits_form slots journal d0.size n h.blocks fit)

        -- a node whose last INIT failed
        spoilt_stands : (m : Node) → m.name ≡ n.name → m.blocks ≡ n.blocks → m.clock ≡ n.clock → m.durable.volume ≡ Unknown → m.unmade ≡ true → m.up ≡ false → (m.was_up ≡ true → n.was_up ≡ true) → m.calls ≡ Power d0.stops ∷ n.calls → RepresentsNode log (kept_so name true clock has_parts d) m
        spoilt_stands m same blocks clocked volume made down was noted_there = record {
          name = same ∙ h.name;
          blocks = blocks ∙ h.blocks ∙ sym passes.size;
          clock = clocked ∙ h.clock;
          unmade = made;
          place = record { down = down; reserved = λ e. h.place.reserved (was e); told = passes.told ∙ h.place.told; disk = disk_unknown m d volume };
          calls = calls ∙ ap (noted (disk_call.Power d0.stops)) h.calls ∙ ap (λ cs. noted_all cs log) (sym noted_there);
          counts = passes.counted h.counts;
        }

        -- the disk does not run again
        dead_performs : Rose (count_of Failed (counts_of d0)) (count_of Failed (counts_of d)) → Emits a (line.Down name Failed ∷ line.Broken Failed ∷ []) b → Performs log w n (counts_of d0) (Serves (Init slots journal)) true true a b (kept_so name true clock has_parts d) s
        dead_performs rose m = record {
          lines = line.Down name Failed ∷ [];
          answer = line.Broken Failed;
          node = with_unknown_volume true (unpowered d0.stops n);
          shared = w;
          step = subst (λ x. NodeStep w n (counts_of d0) (Serves (Init slots journal)) (line.Down x Failed ∷ []) (line.Broken Failed) true (with_unknown_volume true (unpowered d0.stops n)) w (counts_of d)) h.name
              (step_dead w n slots journal (counts_of d0) (counts_of d) (passes.faults h.counts) (passes.stops h.counts) none_early rose);
          emits = m;
          alike = share;
          stands = spoilt_stands (with_unknown_volume true (unpowered d0.stops n)) refl refl refl refl refl refl (λ e. e) refl;
        }

        -- it went down while the volume was written
        fell_performs : (cause : Cause) → Rose (count_of cause (counts_of d0)) (count_of cause (counts_of d)) → Emits a (line.Down name cause ∷ line.Broken cause ∷ []) b → Performs log w n (counts_of d0) (Serves (Init slots journal)) true true a b (kept_so name true clock has_parts d) s
        fell_performs cause rose m = record {
          lines = line.Down name cause ∷ [];
          answer = line.Broken cause;
          node = fallen None (with_unknown_volume true (powered Lost d0.stops n));
          shared = w;
          step = subst (λ x. NodeStep w n (counts_of d0) (Serves (Init slots journal)) (line.Down x cause ∷ []) (line.Broken cause) true (fallen None (with_unknown_volume true (powered Lost d0.stops n))) w (counts_of d)) h.name
              (step_fell w n slots journal (counts_of d0) (counts_of d) (passes.faults h.counts) (passes.stops h.counts) none_early cause rose);
          emits = m;
          alike = share;
          stands = spoilt_stands (fallen None (with_unknown_volume true (powered Lost d0.stops n))) refl refl refl refl refl refl (λ e. e) refl;
        }

        abbrev made : Node
        made = acted (Formats slots journal) (with_unknown_volume true (powered Lost d0.stops n))

        abbrev catalog : Catalog
        catalog = empty_catalog (empty_home name d0.size slots journal)

        made_left : (image : List (List ℕ)) → KeepsNodes → TellsCatalog catalog (content_of image) → IsEmptyVolume (empty_home name d0.size slots journal) (content_of image) → IsSound name d0.size catalog → gate_open image ≡ false → IsWhole d0.size image → 4096 ≤ d0.size → IsLeftBy (content_of image) made
        made_left image law told empty sound closed whole least =
            let content : content_of image ≡ home image = ap (λ (x : Bool). if x && fits (length image) (intents image) then laid_from 518 (intents image) (home image) else home image) closed in
            record {
              catalog = catalog;
              tells = told;
              sound = rw (h.name, h.blocks) sound;
              leaves = λ each. subst (λ (c : List (List ℕ)). LeavesVolume c catalog made) (sym content)
                  (law.formats (home image) catalog (with_unknown_volume true (powered Lost d0.stops n)) slots journal (is_made name d0.size slots journal image fit whole least (subst (IsEmptyVolume (empty_home name d0.size slots journal)) content empty)) (subst EachWhole content each) h.place.down);
            }

        made_performs : KeepsNodes → IfSome d.seen (λ image. TellsCatalog catalog (content_of image)) → IfSome d.seen (λ image. IsEmptyVolume (empty_home name d0.size slots journal) (content_of image)) → IsSound name d0.size catalog → IfSome d.seen (λ image. gate_open image ≡ false) → IfSome d.seen (IsWhole d.size) → 4096 ≤ d0.size
            → d.pending ≡ [] → Emits a (line.Normal ∷ []) b → Performs log w n (counts_of d0) (Serves (Init slots journal)) true false a b (kept_so name false clock has_parts d) s
        made_performs law told empty sound closed whole least settled m =
            let seen = some_of d.seen (passes.told ∙ h.place.told) in
            let image = seen.0 in
            let is_closed : gate_open image ≡ false = subst (λ o. IfSome o (λ x. gate_open x ≡ false)) seen.1 closed in
            let is_whole : IsWhole d0.size image = subst (λ x. IsWhole x image) passes.size (subst (λ o. IfSome o (IsWhole d.size)) seen.1 whole) in
            let left = made_left image law (subst (λ o. IfSome o (λ x. TellsCatalog catalog (content_of x))) seen.1 told) (subst (λ o. IfSome o (λ x. IsEmptyVolume (empty_home name d0.size slots journal) (content_of x))) seen.1 empty) sound is_closed is_whole least in
            let alike = as_it_was d.seen image d seen.1 (stop_reading d d settled refl refl) in
            record {
              lines = [];
              answer = line.Normal;
              node = made;
              shared = w;
              step = step_made w n slots journal (counts_of d0) (counts_of d) (passes.faults h.counts) (passes.stops h.counts) none_early;
              emits = m;
              alike = share;
              stands = record {
                name = h.name;
                blocks = h.blocks ∙ sym passes.size;
                clock = h.clock;
                unmade = refl;
                place = record {
                  down = h.place.down;
                  reserved = h.place.reserved;
                  told = passes.told ∙ h.place.told;
                  disk = λ i left_there. let x = alike i left_there in (x.0 ∙ closed_fits image is_closed, inl (subst (λ y. IsLeftBy y made) (sym x.1) left));
                };
                calls = calls ∙ ap (noted (disk_call.Power d0.stops)) h.calls;
                counts = passes.counted h.counts;
              };
            }

  -- What an INIT came to on a disk.

  pub format_misfits : (SizesFit d0.size (record { blocks = d0.size; slots = slots; ru_blocks = journal }) → ⊥) → FormatsDisk name slots journal has_parts d0 formatted.Refused d0
  format_misfits misfit = λ unmade clock s unused a b m. (
    tells unmade clock s unused a b formatted.Refused d0 m tt refl refl (λ u. refl) refl (λ cause i. absurd i) (passes_same d0) (λ unused. holds_is d0 d0 refl),
    λ log n w h share kept promised. misfit_performs unmade clock s unused a b log w n h share misfit m,
  )

  module _ (fit : SizesFit d0.size (record { blocks = d0.size; slots = slots; ru_blocks = journal })) where
    pub format_unpowered : (e : DiskErr) (d : DiskState) → Unpowers e d0 d → (down : Down) → down ≡ down_of e → FormatsDisk name slots journal has_parts d0 (formatted.Failed down) d
    format_unpowered e d u down is = λ unmade clock s unused a b m.
        let cause : cause_of down ≡ Failed = ap cause_of is ∙ u.cause in (
          fell_tells unmade clock s unused a b down d m u.calls (λ counted. subst (λ (x : Cause). Rose (count_of x (counts_of d0)) (count_of x (counts_of d))) (sym cause) u.rose) u.passes,
          λ log n w h share kept promised. dead_performs unmade clock s unused a b log w n h share fit d u.passes u.calls u.rose (subst (λ (x : Cause). Emits a (line.Down name x ∷ line.Broken x ∷ []) b) cause m),
        )

    module _ (mid : DiskState) (power : IsPowered d0 mid) (d : DiskState) where
      pub format_made : KeepsNodes → Quiet mid d → IfSome d.seen (λ image. TellsCatalog (empty_catalog (empty_home name d0.size slots journal)) (content_of image)) → IfSome d.seen (λ image. IsEmptyVolume (empty_home name d0.size slots journal) (content_of image))
          → IsSound name d0.size (empty_catalog (empty_home name d0.size slots journal)) → IfSome d.seen (λ image. gate_open image ≡ false) → IfSome d.seen (IsWhole d.size) → 4096 ≤ d0.size → d.pending ≡ [] → FormatsDisk name slots journal has_parts d0 formatted.Made d
      format_made law quiet told empty sound closed whole least settled = λ unmade clock s unused a b m.
          let passes = passes_on d0 mid d (passes_power d0 mid power) (passes_counts _ _ mid d quiet) in
          let calls = power_calls d0 mid d power quiet.calls in (
            tells unmade clock s unused a b formatted.Made d m tt refl (alone_unmade (record { name = name; up = false; unmade = unmade }) (said_shared s) false) (λ u. refl) calls (λ cause i. absurd i) passes (λ unused. (let f : ⊥ = cc in absurd f)),
            λ log n w h share kept promised. made_performs unmade clock s unused a b log w n h share fit d passes calls law told empty sound closed whole least settled m,
          )

      pub format_fell : (down : Down) → CountsDown down mid d → FormatsDisk name slots journal has_parts d0 (formatted.Failed down) d
      format_fell down counts = λ unmade clock s unused a b m.
          let passes = passes_on d0 mid d (passes_power d0 mid power) (passes_counts _ _ mid d counts) in
          let calls = power_calls d0 mid d power counts.calls in
          let rose = rose_after (cause_of down) d0 mid d power (rose_down down mid d counts) in (
            fell_tells unmade clock s unused a b down d m calls (λ counted. rose) passes,
            λ log n w h share kept promised. fell_performs unmade clock s unused a b log w n h share fit d passes calls (cause_of down) rose m,
          )

-- At a node.

or_true : (x : Bool) → (x || true) ≡ true
or_true true = refl
or_true false = refl

-- A node may have been in use.
pub init_in_use : (slots journal : ℕ) (k : NodeState) (s : SharedState) (a b : Shown) → s.in_use ≡ true → Emits a (line.VolumeInUse ∷ []) b → TellsTask (Serves (Init slots journal)) true true k s a b k s × PerformsRequest (Init slots journal) k s a b k s
init_in_use slots journal k s a b used m = (
  record {
    lines = [];
    answer = line.VolumeInUse;
    emits = m;
    own = tt;
    refused = λ refusal q. (refl, some_line line.VolumeInUse refusal (sym says ∙ q), refl, refl);
    others = λ none. absurd (let e : ◌≡◌ {A = Option Line} (Some line.VolumeInUse) None = sym says ∙ none in (let f : ⊥ = cc in f));
    says = refl;
    calls = refl;
    failures = λ cause i counted. absurd i;
    passes = passes_same (disk_in k.place);
    quiet = λ u. refl;
    fused = λ writes choice q. (let f : ⊥ = cc in absurd f);
    boots = λ q. (let f : ⊥ = cc in absurd f);
    answered = refused_answers (Serves (Init slots journal)) k.name (refused_task (said_shared s) (said_node k) (Serves (Init slots journal))) line.VolumeInUse true says refl;
    held = λ d unused. (d, holds_is (disk_in k.place) (disk_in k.place) refl);
  },
  λ log n w h share kept promised. (
    true,
    record {
      lines = [];
      answer = line.VolumeInUse;
      node = n;
      shared = w;
      step = step_early w n slots journal (counts_of (disk_in k.place)) (counts_of (disk_in k.place)) (omega arith) (omega arith) line.VolumeInUse
          (λ i. first_of (refused_if (not (or_true n.up i)) line.NodeDown) (first_of (refused_if ((share.in_use ∙ used) i) line.VolumeInUse) (refused_if (not (is_volume_form slots journal n)) line.BadParameter)));
      emits = m;
      alike = share;
      stands = h;
    },
  ),
)
  where
    says : refused_task (said_shared s) (said_node k) (Serves (Init slots journal)) ≡ Some line.VolumeInUse
    says = ap (λ (x : Bool). refused_if x line.VolumeInUse) used

    some_line : (x y : Line) → ◌≡◌ {A = Option Line} (Some x) (Some y) → x ≡ y
    some_line x y e = cc

-- None was, and it was refused, done or cut.
pub init_at : (slots journal : ℕ) (k : NodeState) (done : Formatted) (p : Place) → FormatsPlace k.name slots journal k.place done p → (s : SharedState) → s.in_use ≡ false → (a b : Shown) → Emits a (init_lines k.name done ++ init_answer done ∷ []) b
    → TellsTask (Serves (Init slots journal)) true (is_ended done) k s a b (record k { unmade = unmade_then done k.unmade; place = p }) s × PerformsRequest (Init slots journal) k s a b (record k { unmade = unmade_then done k.unmade; place = p }) s
init_at slots journal k done p h s unused a b m = go k.place p h
  where
    go : (x y : Place) → FormatsPlace k.name slots journal x done y → (let j : NodeState = record { name = k.name; unmade = k.unmade; clock = k.clock; place = x } in let l : NodeState = record { name = k.name; unmade = unmade_then done k.unmade; clock = k.clock; place = y } in
        TellsTask (Serves (Init slots journal)) true (is_ended done) j s a b l s × PerformsRequest (Init slots journal) j s a b l s)
    go (IsRunning r) y h = absurd h
    go (IsDown has_parts d0) (IsRunning r) h = absurd h
    go (IsDown has_parts d0) (IsDown has_then d) h =
        let does = h.1 k.unmade k.clock s unused a b m in
        subst (λ (x : Bool). TellsTask (Serves (Init slots journal)) true (is_ended done) (kept_so k.name k.unmade k.clock has_parts d0) s a b (kept_so k.name (unmade_then done k.unmade) k.clock x d) s
        × PerformsRequest (Init slots journal) (kept_so k.name k.unmade k.clock has_parts d0) s a b (kept_so k.name (unmade_then done k.unmade) k.clock x d) s) (sym h.0)
        (does.0, λ log n w stands share kept promised. (is_ended done, does.1 log n w stands share kept promised))
