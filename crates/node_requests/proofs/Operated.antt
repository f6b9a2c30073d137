-- An operation of a branch, or one that no branch is asked for, at a node that is up.
use Rattle.std.proofs.Common.{◌≡◌, ◌≤◌, ◌+◌, ◌*◌, ◌^◌, ℕ, Bool, true, false, List, [], ◌∷◌, ◌++◌, Option, Some, None, Result, Ok, Err, inl, inr, refl, ap, sym, subst, ◌∙◌, length, max, arith}
use Rattle.careful_write.specs.declared.down.Down.{Down}
use Rattle.emitter_model.specs.commit_protocol.Agreement.{Distinct}
use Rattle.std.specs.Prelude.{IfSome, ◌&&◌, not}
use Rattle.std.specs.List.{list_any}
use Rattle.emitter_model.specs.commit_protocol.Allowed.{allowed, is_active, is_prepared, is_working, there_is}
use Rattle.emitter_model.specs.commit_protocol.Rows.{Changed}
use Rattle.emitter_model.specs.commit_protocol.Table.{Branch, State, Joining, Active, Ending, Voting, Prepared, Tm, branch_serials, find_serial, record_serials}
use Rattle.emitter_model.proofs.commit_protocol.Lists.{told_id}
use Rattle.emitter_model.proofs.commit_protocol.Serials.{parts_apart}
use Rattle.world_laws.specs.log_laws.Slots.{Slots}
use Rattle.records_model.specs.Records.{Change}
use Rattle.node_table.specs.row_laws.May.{IsTold}
use Rattle.world_laws.specs.run_model.Answers.{commit_settlement, directed, operation_act}
use Rattle.world_laws.specs.run_model.Operations.{changes_of, first_of, is_change, keys_held}
use Rattle.world_laws.specs.run_model.Steps.{node_after_rows}
use Rattle.world_laws.specs.run_model.World as world
use Rattle.world_laws.specs.run_model.World.{File, Node, next_id, tm_of, with_changed}
use Rattle.script_lang.specs.script_model.Statements.{Operation}
use Rattle.emitter_model.specs.Emitting.{Shown}
use Rattle.vms_model.specs.Ids.{Id}
use Rattle.vms_model.specs.Keys as keys
use Rattle.node_table.specs.volume.State.{VolumeState}
use Rattle.world_laws.proofs.FindLemmas.{found_serial}
use Rattle.record_operations.specs.declared.ops.ReadOp.{ReadOp}
use Rattle.record_operations.specs.declared.ops.ReadOp.TheVariants as read
use Rattle.record_operations.specs.declared.ops.RecordOp.{RecordOp}
use Rattle.record_operations.specs.declared.ops.RecordOp.TheVariants as change
use Rattle.records_model.specs.History.{same_id}
use Rattle.unit_table.specs.Units.{OpenUnit}
use Rattle.node_table.specs.recovery_units.Calls.{IsAsked, IsAskedAlone, alone_refused_after_reading, alone_refused_before_reading, change_said, direct_act, read_said}
use Rattle.node_table.specs.recovery_units.State.{AreOfBranches, IsInOrder, IsKept, unit_of}
use Rattle.file_requests.specs.Acting.{ActsAlone, ActsFor, LooksAlone, StaysUp, alone_service, branch_service}
use Rattle.file_requests.specs.Serving.{KeepsStored, SameStored}
use Rattle.file_requests.proofs.Operating.{alone_row, looks_row}
use Rattle.node_table.specs.Growing.{end_to_come, groups_left, moment_to_come}
use Rattle.node_table.specs.Standing.{AreInDoubt, Follows, IsUp, NamesPrepared, Stored, Up, UpRepresents, unsettled_serials}
use Rattle.node_requests.specs.Operating.{DoesUp, OperatesAlone, OperatesFor}
use Rattle.node_requests.specs.Requests.{HasMoved, KeepsRequest, MayServe, noted, with_noted}
use Rattle.file_requests.specs.node_standing.Standing.{disk_of}
use Rattle.node_requests.proofs.Asides.{IsAside, aside_directs, keeps_beside, service_as, stands_aside, stands_still}
use Rattle.node_table.proofs.Branching.{told_serial}
use Rattle.node_requests.proofs.Noted.{alike_noted, doubt_alike, later_branches, later_groups, names_alike, noted_changed, noted_same, standing_alike, told_alike, within_noted}

-- a branch that may change records is not prepared
pub active_only : (b : Branch) → is_working b ≡ true → is_prepared b.state ≡ false
active_only b h = go b.state h
  where
    go : (z : State) → (is_active z && not b.ended) ≡ true → is_prepared z ≡ false
    go Prepared e = let no : ⊥ = cc in absurd no
    go Joining e = refl
    go Active e = refl
    go Ending e = refl
    go Voting e = refl

-- The unit of a branch that may change records is there, and not prepared.
pub unit_there : (s : Id) (us : List OpenUnit) (bs : List Branch) (o : Branch) → AreOfBranches us bs → find_serial s bs ≡ Some o → is_prepared o.state ≡ false → (list_any (λ (u : OpenUnit). same_id s u.serial) us ≡ true) × IfSome (unit_of s us) (λ u. u.prepared ≡ false)
unit_there s [] [] o h f p = absurd (let g : ◌≡◌ {A = Option Branch} None (Some o) = f in let no : ⊥ = cc in no)
unit_there s [] (b ∷ bs) o h f p = absurd h
unit_there s (u ∷ us) [] o h f p = absurd h
unit_there s (u ∷ us) (b ∷ bs) o h f p = elim (told_serial s u.serial) [
  | inl t ↦ elim (told_id b.key.serial s) [
    | inl q ↦
        let f' : ◌≡◌ {A = Option Branch} (Some b) (Some o) = rw (q.0) at f in
        let is : b ≡ o = cc in
        let active : u.prepared ≡ false = sym h.0.prepared ∙ subst (λ (x : Branch). is_prepared x.state ≡ false) (sym is) p in
        rw (t.0) (refl, active)
    | inr q ↦ absurd (q.1 (h.0.serial ∙ sym t.1))
  ]
  | inr t ↦ elim (told_id b.key.serial s) [
    | inl q ↦ absurd (t.1 (sym q.1 ∙ h.0.serial))
    | inr q ↦ (let f' : find_serial s bs ≡ Some o = rw (q.0) at f in rw (t.0) (unit_there s us bs o h.1 f' p))
  ]
]

-- what the table tells of the branch that may note a change
pub unit_works : (s : Id) (us : List OpenUnit) (tm : Tm) → AreOfBranches us tm.table → allowed tm (Changed s) ≡ true → (list_any (λ (u : OpenUnit). same_id s u.serial) us ≡ true) × IfSome (unit_of s us) (λ u. u.prepared ≡ false)
unit_works s us tm h allows = go (find_serial s tm.table) refl allows
  where
    go : (o : Option Branch) → find_serial s tm.table ≡ o → there_is o is_working ≡ true → (list_any (λ (u : OpenUnit). same_id s u.serial) us ≡ true) × IfSome (unit_of s us) (λ u. u.prepared ≡ false)
    go None f e = absurd (let g : false ≡ true = e in let no : ⊥ = cc in no)
    go (Some b) f e = unit_there s us tm.table b h f (active_only b e)

-- a read changes nothing, and a change does
pub reads_only : (op : ReadOp) → is_change (read_said op) ≡ false
reads_only (read.Get file key) = refl
reads_only (read.Next file after) = refl

pub changes_only : (op : RecordOp) (bytes : List ℕ) → is_change (change_said op bytes) ≡ true
changes_only (change.Put file key) bytes = refl
changes_only (change.Update file key) bytes = refl
changes_only (change.Delete file key) bytes = refl
changes_only (change.Truncate file from) bytes = refl

-- Of a branch.

module _ (serial : Id) (f : ℕ) (op : Operation) (clock : ℕ) (old : Up) (new : Stored) (a b : Shown) where
  -- the node behind it: the table notes what the branch has changed
  abbrev pub behind : Up
  behind = record { stored = new; tm = noted serial new.units.begun old.tm; drawn = old.drawn; declared = old.declared }

  abbrev pub stopped : Up
  stopped = record { stored = new; tm = old.tm; drawn = old.drawn; declared = old.declared }

  module _ (h : ActsFor {T = Unit {0}} (Ok tt) serial f op old.stored new a b) (up : IsUp old) (allows : allowed old.tm (Changed serial) ≡ true) where
    up_behind : IsUp behind
    up_behind = record {
      follows = record {
        order = h.keeps.order;
        node = up.follows.node ∙ sym h.keeps.grows.node;
        branches = later_branches serial old.stored.units.begun new.units.begun old.tm.table h.works.units up.follows.branches (parts_apart (branch_serials old.tm.table) (record_serials old.tm.records) up.follows.told.apart).one;
        told = told_alike old.tm (with_noted serial new.units.begun old.tm.table) new.units.log (alike_noted serial new.units.begun old.tm.table) (subst (λ (ss : Slots). IsTold old.tm ss) (sym h.works.log) up.follows.told);
        doubt = doubt_alike new.in_doubt old.tm.table (with_noted serial new.units.begun old.tm.table) (alike_noted serial new.units.begun old.tm.table) (subst (λ xs. AreInDoubt xs old.tm.table) (sym h.keeps.in_doubt) up.follows.doubt);
      };
      within = within_noted serial new.units.begun old.tm allows up.within;
    }

    moved_behind : HasMoved clock old behind
    moved_behind =
        let g = h.keeps.grows.greatest in
        let e = h.keeps.grows.end in
        let i = h.keeps.images in
        let same = later_groups serial old.stored.units.begun new.units.begun h.works.units in
        let count = same.0 in
        let groups = same.1 in
        record { moment = omega arith; end = omega arith }

    keeps_behind : KeepsRequest {T = Unit {0}} (Ok tt) clock old behind a b
    keeps_behind = record {
      up = up_behind;
      goes = h.keeps.grows.goes;
      cause = tt;
      pool = h.keeps.grows.pool;
      node = h.keeps.grows.node;
      boot = h.keeps.grows.boot;
      drawn = (omega arith, omega arith);
      moved = moved_behind;
      since = h.keeps.since;
    }

    module _ (n : Node) (name : List ℕ) (file : File) (branch : Branch) (stands : UpRepresents clock old n) (q : IsAsked serial f old.stored.units old.stored.volume n name file branch) where
      -- refused, all is as it was but for reads
      refused_behind : SameStored old.stored new → UpRepresents clock behind n
      refused_behind e =
          let same : with_noted serial old.stored.units.begun n.volatile.branches ≡ n.volatile.branches = noted_same serial old.stored.units.begun n.volatile.branches branch q.kept.branches q.branch q.unprepared in
          let table : n.volatile.branches ≡ old.tm.table = ap (λ (t : Tm). t.table) stands.stands.table in
          let noted_is : with_noted serial old.stored.units.begun old.tm.table ≡ old.tm.table = subst (λ bs. with_noted serial old.stored.units.begun bs ≡ bs) table same in
          let tm_is : noted serial new.units.begun old.tm ≡ old.tm = ap (λ (s : Stored). noted serial s.units.begun old.tm) e ∙ ap (λ bs. record old.tm { table = bs }) noted_is in
          subst (λ (t : Tm). UpRepresents clock (record { stored = new; tm = t; drawn = old.drawn; declared = old.declared }) n) (sym tm_is) (stands_still clock old new n e stands)

      -- done, by what it changed
      done_behind : (cs : List Change) (ks : List keys.Key) → IsKept new.units new.volume (world.acted (operation_act branch name cs ks) n) → UpRepresents clock behind (world.acted (operation_act branch name cs ks) n)
      done_behind [] ks kept = record {
        stands = record {
          kept = kept;
          table = (λ i. record (tm_of n) { table = sym (noted_same serial new.units.begun n.volatile.branches branch kept.branches q.branch q.unprepared) i }) ∙ ap (noted serial new.units.begun) stands.stands.table;
          clock_is = stands.stands.clock_is;
          doubt = stands.stands.doubt ∙ sym h.keeps.in_doubt;
          names = stands.stands.names;
          up = stands.stands.up;
          was_up = stands.stands.was_up;
          under_way = stands.stands.under_way;
        };
        drawn = stands.drawn;
        declared = stands.declared;
        preparation = stands.preparation;
      }
      done_behind (c ∷ cs) ks kept =
          let own : serial ≡ branch.key.serial = found_serial serial n.volatile.branches branch q.branch in
          let bs : List Branch = n.volatile.branches in
          let after : List Branch = with_changed branch.key.serial bs in
          let as_changed : after ≡ with_changed serial bs = ap (λ (x : Id). with_changed x bs) (sym own) in
          let noted_is : with_noted serial new.units.begun bs ≡ with_changed serial bs = noted_changed serial new.units.begun bs branch (subst (λ xs. AreOfBranches new.units.begun xs) as_changed kept.branches) q.branch q.unprepared in
          let is : after ≡ with_noted serial new.units.begun bs = as_changed ∙ sym noted_is in
          record {
            stands = record {
              kept = kept;
              table = (λ i. record (tm_of n) { table = is i }) ∙ ap (noted serial new.units.begun) stands.stands.table;
              clock_is = stands.stands.clock_is;
              doubt = ap (unsettled_serials n.volatile.preparation) is ∙ standing_alike n.volatile.preparation bs (with_noted serial new.units.begun bs) (alike_noted serial new.units.begun bs) ∙ stands.stands.doubt ∙ sym h.keeps.in_doubt;
              names = subst (λ xs. NamesPrepared n.volatile.preparation xs) (sym is) (names_alike n.volatile.preparation bs (with_noted serial new.units.begun bs) (alike_noted serial new.units.begun bs) stands.stands.names);
              up = stands.stands.up;
              was_up = stands.stands.was_up;
              under_way = stands.stands.under_way;
            };
            drawn = stands.drawn;
            declared = stands.declared;
            preparation = stands.preparation;
          }

    pub operated : OperatesFor {T = Unit {0}} (Ok tt) serial f op clock old behind a b
    operated = record {
      keeps = keeps_behind;
      replies = h.keeps.replies;
      acts = λ s n name file branch stands q stays.
          service_as {T = Unit {0}} (Ok tt) (branch_service n branch name file op) s n a b (SameStored old.stored new) (UpRepresents clock behind n) (λ t. t ≡ s) (λ t. t ≡ s) (IsKept new.units new.volume) (UpRepresents clock behind) (disk_of behind)
          (refused_behind n name file branch stands q)
          (λ t e. e)
          (done_behind n name file branch stands q (changes_of file op) (keys_held file op))
          (h.acts s n name file branch q stays);
    }

  -- the disk went down in it
  pub operation_stopped : (d : Down) → ActsFor {T = Unit {0}} (Err d) serial f op old.stored new a b → OperatesFor {T = Unit {0}} (Err d) serial f op clock old stopped a b
  operation_stopped d h = record {
    keeps = record {
      up = tt;
      goes = h.keeps.grows.goes;
      cause = h.keeps.cause;
      pool = h.keeps.grows.pool;
      node = h.keeps.grows.node;
      boot = h.keeps.grows.boot;
      drawn = (omega arith, omega arith);
      moved = tt;
      since = h.keeps.since;
    };
    replies = h.keeps.replies;
    acts = λ s n name file branch stands q stays. (let x = h.acts s n name file branch q stays in record { unrefused = x.unrefused; done = x.done; begun = x.begun; within = x.within; shows = x.shows; shared = x.shared; disk = x.disk });
  }

-- Without a branch.

module _ (f : ℕ) (op : Operation) (clock : ℕ) (old : Up) (new : Stored) (a b : Shown) (up : IsUp old) where
  abbrev pub at_ids : ℕ → Up
  at_ids drawn = record { stored = new; tm = old.tm; drawn = drawn; declared = old.declared }

  -- all is as it was but for reads
  as_before : (n : Node) → SameStored old.stored new → UpRepresents clock old n → UpRepresents clock (at_ids old.drawn) n
  as_before n e stands = stands_still clock old new n e stands

  -- a record was looked at
  pub looked : is_change op ≡ false → (r : Result (Unit {0}) Down) → LooksAlone r f op old.stored new a b → OperatesAlone r f op clock old (at_ids old.drawn) a b
  looked read (Ok v) h = record {
    keeps = keeps_beside old new old.drawn h.units up {T = Unit {0}} (Ok v) 0 0 clock a b (omega arith) (omega arith) (omega arith, omega arith) h.keeps;
    replies = h.keeps.replies;
    acts = λ s n name file stands q stays. elim (h.acts s n name file q) [
      | inl x ↦ inl (record { refusal = x.refusal; is = x.is; shows = x.shows; same = as_before n h.same stands })
      | inr x ↦ inr (record { allowed = x.allowed; shows = x.shows; shared = x.shared; node = subst (λ rs. UpRepresents clock (at_ids old.drawn) (node_after_rows rs n)) (sym (looks_row n name file op read)) (as_before n h.same stands) })
    ];
  }
  looked read (Err d) h = record {
    keeps = keeps_beside old new old.drawn h.units up {T = Unit {0}} (Err d) 0 0 clock a b (omega arith) (omega arith) (omega arith, omega arith) h.keeps;
    replies = h.keeps.replies;
    acts = λ s n name file stands q stays. (let x = h.acts s n name file q in record { unrefused = x.unrefused; done = x.done; begun = x.begun; within = x.within; shows = x.shows; shared = x.shared; disk = x.disk });
  }

  -- a change was made, or not
  module _ (id : Id) (id_is : id ≡ record { node = old.stored.volume.catalog.home.node; boot = old.stored.volume.catalog.home.boot; seq = old.drawn + 1 }) where
    next_is : (n : Node) → UpRepresents clock old n → next_id n ≡ id
    next_is n stands = (λ i. record { node = stands.stands.kept.name i; boot = stands.stands.kept.has.home.boot i; seq = stands.drawn i + 1 }) ∙ sym id_is

    pub changed_stopped : (d : Down) → ActsAlone (Err d) id clock f op old.stored new a b → OperatesAlone {T = Unit {0}} (Err d) f op clock old (at_ids old.drawn) a b
    changed_stopped d h = record {
      keeps = record {
        up = tt;
        goes = h.keeps.grows.goes;
        cause = h.keeps.cause;
        pool = h.keeps.grows.pool;
        node = h.keeps.grows.node;
        boot = h.keeps.grows.boot;
        drawn = (omega arith, omega arith);
        moved = tt;
        since = h.keeps.since;
      };
      replies = h.keeps.replies;
      acts = λ s n name file stands q stays. (let x = h.acts s n name file q (next_is n stands) stands.stands.clock_is stays in record { unrefused = x.unrefused; done = x.done; begun = x.begun; within = x.within; shows = x.shows; shared = x.shared; disk = x.disk });
    }

    pub changed_not : ActsAlone (Ok false) id clock f op old.stored new a b → OperatesAlone {T = Unit {0}} (Ok tt) f op clock old (at_ids old.drawn) a b
    changed_not h = record {
      keeps = keeps_as h;
      replies = h.keeps.replies;
      acts = λ s n name file stands q stays. elim (h.acts s n name file q (next_is n stands) stands.stands.clock_is stays) [
        | inl x ↦ inl (record { refusal = x.refusal; is = x.is; shows = x.shows; same = as_before n x.same.0 stands })
        | inr x ↦ absurd (let e : false ≡ true = x.node.1 in let no : ⊥ = cc in no)
      ];
    }
      where
        keeps_as : ActsAlone (Ok false) id clock f op old.stored new a b → KeepsRequest {T = Unit {0}} (Ok tt) clock old (at_ids old.drawn) a b
        keeps_as k = keeps_beside old new old.drawn k.units up {T = Unit {0}} (Ok tt) 1 clock clock a b (omega arith) (omega arith) (omega arith, omega arith)
            (record { order = k.keeps.order; in_doubt = k.keeps.in_doubt; grows = k.keeps.grows; images = k.keeps.images; cause = tt; since = k.keeps.since; replies = k.keeps.replies })

    pub changed_alone : is_change op ≡ true → ActsAlone (Ok true) id clock f op old.stored new a b → OperatesAlone {T = Unit {0}} (Ok tt) f op clock old (at_ids (old.drawn + 1)) a b
    changed_alone change h = record {
      keeps = keeps_as h;
      replies = h.keeps.replies;
      acts = λ s n name file stands q stays. elim (h.acts s n name file q (next_is n stands) stands.stands.clock_is stays) [
        | inl x ↦ absurd (let e : true ≡ false = x.same.1 in let no : ⊥ = cc in no)
        | inr x ↦ inr (record { allowed = x.allowed; shows = x.shows; shared = x.shared; node = made n name file stands x.allowed x.node.0 })
      ];
    }
      where
        keeps_as : ActsAlone (Ok true) id clock f op old.stored new a b → KeepsRequest {T = Unit {0}} (Ok tt) clock old (at_ids (old.drawn + 1)) a b
        keeps_as k = keeps_beside old new (old.drawn + 1) k.units up {T = Unit {0}} (Ok tt) 1 clock clock a b (omega arith) (omega arith) (omega arith, omega arith)
            (record { order = k.keeps.order; in_doubt = k.keeps.in_doubt; grows = k.keeps.grows; images = k.keeps.images; cause = tt; since = k.keeps.since; replies = k.keeps.replies })

        made : (n : Node) (name : List ℕ) (file : File) → UpRepresents clock old n → first_of (alone_refused_before_reading n name file op) (alone_refused_after_reading n name file op) ≡ None → IsKept new.units new.volume (node_after_rows (directed n name (changes_of file op)) n)
            → UpRepresents clock (at_ids (old.drawn + 1)) (node_after_rows (directed n name (changes_of file op)) n)
        made n name file stands none kept =
            let row = alone_row n name file op change none in
            let kept' : IsKept new.units new.volume (world.acted (direct_act n name file op) n) = subst (λ rs. IsKept new.units new.volume (node_after_rows rs n)) row kept in
            subst (λ rs. UpRepresents clock (at_ids (old.drawn + 1)) (node_after_rows rs n)) (sym row)
            (stands_aside clock old new 1 n (world.acted (direct_act n name file op) n) h.keeps.in_doubt stands (aside_directs n name (changes_of file op) (commit_settlement n (next_id n) (next_id n))) kept')
