-- What is followed, and what stands, behind each act.
use Rattle.std.proofs.Common.{◌≡◌, ◌≤◌, ℕ, suc, true, false, List, [], ◌∷◌, ◌++◌, Option, Some, inl, inr, refl, ap, sym, subst, ◌∙◌, length, arith}
use Rattle.vms_model.specs.Ids.{Id}
use Rattle.vms_model.specs.Transactions.{Outcome, Reason}
use Rattle.net_wire.specs.commit_protocol.Agreement.{Distinct}
use Rattle.net_wire.specs.commit_protocol.Allowed.{is_prepared}
use Rattle.net_wire.specs.commit_protocol.Messages.{LogRecord}
use Rattle.net_wire.specs.commit_protocol.Standing.{Stands}
use Rattle.net_wire.specs.commit_protocol.Table.{Act, Accepts, Acknowledges, Branch, Key, Leaves, Notes, Prepared, Prepares, Prints, Releases, Sends, Settles, Tm, Undoes, after_act, branch_serials, cut, find, put, record_serials, table_after, without}
use Rattle.net_wire.specs.commit_protocol.World.{In}
use Rattle.emitter_model.proofs.commit_protocol.Serials.{parts_apart}
use Rattle.emitter_model.proofs.commit_protocol.Lists.{find-key as found_key, in_left, in_parts, in_right}
use Rattle.emitter_model.proofs.commit_protocol.Within.{find_in}
use Rattle.row_laws.specs.log_laws.Slots.{Slots, slots_after}
use Rattle.row_laws.specs.run_model.World.{Node, Tables, acted, preparation_after}
use Rattle.row_laws.specs.May.{IsTold, MayDo}
use Rattle.row_laws.proofs.MayLemmas.{told_after}
use Rattle.recovery_units.specs.State.{AreOfBranches, IsInOrder, IsKept, with_prepared, without_unit}
use Rattle.node_table.specs.Standing.{AreInDoubt, Follows, NamesPrepared, Stored, StoredRepresents, unsettled_serials}
use Rattle.node_table.specs.Telling.{Leads}
use Rattle.node_table.proofs.Branching.{fewer_units, length_units, prepared_units, put_units}
use Rattle.node_table.proofs.Doubting.{doubt_left, doubt_prepared, doubt_put, doubt_room, doubt_settled, in_cut, in_put, standing_left, standing_more, standing_put, standing_settled}

-- no two branches that are followed have one serial
pub serials_apart : (tm : Tm) (s : Stored) → Follows tm s → Distinct (branch_serials tm.table)
serials_apart tm s f = (parts_apart (branch_serials tm.table) (record_serials tm.records) f.told.apart).one

-- What an act makes of the units' branches and of those in doubt, where units and in doubt become these.
pub record Moves (act : Act) (tm : Tm) (s t : Stored) : Type 0 where
  pub branches : AreOfBranches t.units.begun (after_act act tm).table
  pub log : t.units.log ≡ slots_after act tm.records s.units.log
  pub doubt : AreInDoubt t.in_doubt (after_act act tm).table

pub followed : (tid : Id) (act : Act) (tm : Tm) (s t : Stored) → Follows tm s → MayDo tid act tm s.units.log → IsInOrder t.units t.volume → t.volume.catalog.home.node ≡ s.volume.catalog.home.node → Moves act tm s t → Leads act tm s t
followed tid act tm s t f m order node moves = record {
  log = moves.log;
  follows = record {
    order = order;
    node = f.node ∙ sym node;
    branches = moves.branches;
    told = (let P : Slots → Type 0 = λ x. IsTold (after_act act tm) x in subst P (sym moves.log) (told_after tid tm act s.units.log f.told m));
    doubt = moves.doubt;
  };
}

-- Acts that leave the units as they are.

pub moves_note : (tm : Tm) (s : Stored) (b : Branch) → Follows tm s → Stands tm.table (Notes b) → Moves (Notes b) tm s s
moves_note tm s b f q = record {
  branches = put_units s.units.begun tm.table b q.old f.branches q.there (q.stays ∙ sym q.unprepared) (λ un. q.changed);
  log = refl;
  doubt = doubt_put b q.old tm.table s.in_doubt (serials_apart tm s f) q.there q.unprepared f.doubt;
}

-- an act of a quiet kind: none of the units'
abbrev pub IsQuiet : Act → Type 0
IsQuiet (Notes b) = Unit {0}
IsQuiet (Accepts b c) = Unit {0}
IsQuiet (Sends m) = Unit {0}
IsQuiet (Prints l) = Unit {0}
IsQuiet _ = ⊥

pub moves_quiet : (act : Act) (tm : Tm) (s : Stored) → Follows tm s → IsQuiet act → Stands tm.table act → Moves act tm s s
moves_quiet (Notes b) tm s f is q = moves_note tm s b f q
moves_quiet (Accepts b c) tm s f is q = (let o : Branch = record b { accepted = b.accepted ++ c ∷ [] } in record {
  branches = put_units s.units.begun tm.table o q.old f.branches q.there (q.stays ∙ sym q.unprepared) (λ un. q.changed);
  log = refl;
  doubt = doubt_put o q.old tm.table s.in_doubt (serials_apart tm s f) q.there q.unprepared f.doubt;
})
moves_quiet (Sends m) tm s f is q = record { branches = f.branches; log = refl; doubt = f.doubt }
moves_quiet (Prints l) tm s f is q = record { branches = f.branches; log = refl; doubt = f.doubt }
moves_quiet (Prepares b) tm s f is q = absurd is
moves_quiet (Settles k o why r) tm s f is q = absurd is
moves_quiet (Leaves k) tm s f is q = absurd is
moves_quiet (Acknowledges k) tm s f is q = absurd is
moves_quiet (Releases i x) tm s f is q = absurd is
moves_quiet (Undoes k) tm s f is q = absurd is

-- In the world.

-- the branches that were prepared stand in the same way
pub record Names (act : Act) (n : Node) (old new : List Id) : Type 0 where
  pub doubt : unsettled_serials (preparation_after act n.volatile.preparation) (table_after act n.volatile.branches) ≡ new
  pub names : NamesPrepared (preparation_after act n.volatile.preparation) (table_after act n.volatile.branches)

pub stood : (clock moment : ℕ) (act : Act) (tm : Tm) (s t : Stored) (n : Node) → StoredRepresents clock s tm n → IsKept t.units t.volume (acted (Tables act moment) n) → Names act n s.in_doubt t.in_doubt → StoredRepresents clock t (after_act act tm) (acted (Tables act moment) n)
stood clock moment act tm s t n h kept names = record {
  kept = kept;
  table = ap (after_act act) h.table;
  clock_is = h.clock_is;
  doubt = names.doubt;
  names = names.names;
  up = h.up;
  was_up = h.was_up;
  under_way = h.under_way;
}

-- what a branch is put for that stays unprepared
names_put : (b o : Branch) (ks : List Key) (bs : List Branch) (old : List Id) → Distinct (branch_serials bs) → find b.key bs ≡ Some o → is_prepared o.state ≡ false → is_prepared b.state ≡ false → unsettled_serials ks bs ≡ old → NamesPrepared ks bs → (unsettled_serials ks (put b bs) ≡ old) × NamesPrepared ks (put b bs)
names_put b o ks bs old d e un un' same h = (
  standing_put ks b o bs e ∙ same,
  record {
    named = λ x i p. elim (in_put b o x bs d e i) [
      | inl q ↦ absurd (let f : true ≡ false = sym p ∙ ap (λ (y : Branch). is_prepared y.state) q ∙ un' in cc)
      | inr q ↦ h.named x q.0 p
    ];
    prepared = λ x i k. elim (in_put b o x bs d e i) [
      | inl q ↦
          let here : In o bs = find_in b.key bs o e in
          let key : o.key ≡ b.key = find_key o e in
          absurd (let f : true ≡ false = sym (h.prepared o here (subst (λ j. In j ks) (ap (λ (y : Branch). y.key) q ∙ sym key) k)) ∙ un in cc)
      | inr q ↦ h.prepared x q.0 k
    ];
  },
)
  where
    find_key : (y : Branch) → find b.key bs ≡ Some y → y.key ≡ b.key
    find_key y f = found_key b.key bs y f

pub names_quiet : (act : Act) (n : Node) (old : List Id) → Distinct (branch_serials n.volatile.branches) → IsQuiet act → Stands n.volatile.branches act → unsettled_serials n.volatile.preparation n.volatile.branches ≡ old → NamesPrepared n.volatile.preparation n.volatile.branches → Names act n old old
names_quiet (Notes b) n old d is q same h = (let r = names_put b q.old n.volatile.preparation n.volatile.branches old d q.there q.unprepared q.stays same h in record { doubt = r.0; names = r.1 })
names_quiet (Accepts b c) n old d is q same h = (let r = names_put (record b { accepted = b.accepted ++ c ∷ [] }) q.old n.volatile.preparation n.volatile.branches old d q.there q.unprepared q.stays same h in record { doubt = r.0; names = r.1 })
names_quiet (Sends m) n old d is q same h = record { doubt = same; names = h }
names_quiet (Prints l) n old d is q same h = record { doubt = same; names = h }
names_quiet (Prepares b) n old d is q same h = absurd is
names_quiet (Settles k o why r) n old d is q same h = absurd is
names_quiet (Leaves k) n old d is q same h = absurd is
names_quiet (Acknowledges k) n old d is q same h = absurd is
names_quiet (Releases i x) n old d is q same h = absurd is
names_quiet (Undoes k) n old d is q same h = absurd is

-- a branch is prepared
pub names_prepared : (b o : Branch) (n : Node) (old : List Id) → Distinct (branch_serials n.volatile.branches) → find b.key n.volatile.branches ≡ Some o → is_prepared o.state ≡ false → unsettled_serials n.volatile.preparation n.volatile.branches ≡ old → NamesPrepared n.volatile.preparation n.volatile.branches → Names (Prepares b) n old (old ++ b.key.serial ∷ [])
names_prepared b o n old d e un same h =
    let ks = n.volatile.preparation in
    let bs = n.volatile.branches in
    let p : Branch = record b { state = Prepared } in
    record {
      doubt = standing_put (ks ++ b.key ∷ []) p o bs e ∙ (standing_more ks b.key o bs e ∙ ap (λ z. z ++ b.key.serial ∷ []) same);
      names = record {
        named = λ x i q. elim (in_put p o x bs d e i) [
          | inl r ↦ in_right x.key ks (b.key ∷ []) (inl (ap (λ (y : Branch). y.key) r))
          | inr r ↦ in_left x.key ks (b.key ∷ []) (h.named x r.0 q)
        ];
        prepared = λ x i k. elim (in_put p o x bs d e i) [
          | inl r ↦ ap (λ (y : Branch). is_prepared y.state) r
          | inr r ↦ elim (in_parts x.key ks (b.key ∷ []) k) [
            | inl j ↦ h.prepared x r.0 j
            | inr j ↦ elim j [
              | inl q ↦ absurd (r.1 q)
              | inr q ↦ absurd q
            ]
          ]
        ];
      };
    }

-- a branch is no more, prepared or not
names_cut : (k : Key) (ks : List Key) (bs : List Branch) → NamesPrepared ks bs → NamesPrepared ks (cut k bs)
names_cut k ks bs h = record { named = λ x i p. h.named x (in_cut k x bs i) p; prepared = λ x i j. h.prepared x (in_cut k x bs i) j }

pub names_settled : (k : Key) (outcome : Outcome) (reason : Reason) (r : Option LogRecord) (o : Branch) (n : Node) (old : List Id) → Distinct (branch_serials n.volatile.branches) → find k n.volatile.branches ≡ Some o → unsettled_serials n.volatile.preparation n.volatile.branches ≡ old → NamesPrepared n.volatile.preparation n.volatile.branches → Names (Settles k outcome reason r) n old (without k.serial old)
names_settled k outcome reason r o n old d e same h = record {
  doubt = standing_settled n.volatile.preparation k o n.volatile.branches d e ∙ ap (without k.serial) same;
  names = names_cut k n.volatile.preparation n.volatile.branches h;
}

pub names_left : (k : Key) (o : Branch) (n : Node) (old : List Id) → find k n.volatile.branches ≡ Some o → is_prepared o.state ≡ false → unsettled_serials n.volatile.preparation n.volatile.branches ≡ old → NamesPrepared n.volatile.preparation n.volatile.branches → Names (Leaves k) n old old
names_left k o n old e un same h = record {
  doubt = standing_left n.volatile.preparation k n.volatile.branches (λ i. let f : true ≡ false = sym (h.prepared o (find_in k n.volatile.branches o e) (subst (λ j. In j n.volatile.preparation) (sym (found_key k n.volatile.branches o e)) i)) ∙ un in cc) ∙ same;
  names = names_cut k n.volatile.preparation n.volatile.branches h;
}

-- Acts of the units.

pub moves_prepared : (tm : Tm) (s t : Stored) (b o : Branch) → Follows tm s → find b.key tm.table ≡ Some o → is_prepared o.state ≡ false → t.units.begun ≡ with_prepared b.key.serial s.units.begun → t.units.log ≡ slots_after (Prepares b) tm.records s.units.log → t.in_doubt ≡ s.in_doubt ++ b.key.serial ∷ [] → Moves (Prepares b) tm s t
moves_prepared tm s t b o f e un us log doubt = record {
  branches = subst (λ z. AreOfBranches z (put (record b { state = Prepared }) tm.table)) (sym us) (prepared_units s.units.begun tm.table b o f.branches (serials_apart tm s f) e);
  log = log;
  doubt = subst (λ z. AreInDoubt z (put (record b { state = Prepared }) tm.table)) (sym doubt) (doubt_prepared b o tm.table s.in_doubt (serials_apart tm s f) e un f.doubt);
}

pub moves_settled : (tm : Tm) (s t : Stored) (k : Key) (outcome : Outcome) (reason : Reason) (r : Option LogRecord) (o : Branch) → Follows tm s → find k tm.table ≡ Some o → t.units.begun ≡ without_unit k.serial s.units.begun → t.units.log ≡ slots_after (Settles k outcome reason r) tm.records s.units.log → t.in_doubt ≡ without k.serial s.in_doubt → Moves (Settles k outcome reason r) tm s t
moves_settled tm s t k outcome reason r o f e us log doubt = record {
  branches = subst (λ z. AreOfBranches z (cut k tm.table)) (sym us) (fewer_units s.units.begun tm.table k o f.branches (serials_apart tm s f) e);
  log = log;
  doubt = subst (λ z. AreInDoubt z (cut k tm.table)) (sym doubt) (doubt_settled k o tm.table s.in_doubt (serials_apart tm s f) e f.doubt);
}

pub moves_left : (tm : Tm) (s t : Stored) (k : Key) (o : Branch) → Follows tm s → find k tm.table ≡ Some o → is_prepared o.state ≡ false → t.units.begun ≡ without_unit k.serial s.units.begun → t.units.log ≡ s.units.log → t.in_doubt ≡ s.in_doubt → Moves (Leaves k) tm s t
moves_left tm s t k o f e un us log doubt = record {
  branches = subst (λ z. AreOfBranches z (cut k tm.table)) (sym us) (fewer_units s.units.begun tm.table k o f.branches (serials_apart tm s f) e);
  log = log;
  doubt = subst (λ z. AreInDoubt z (cut k tm.table)) (sym doubt) (doubt_left k o tm.table s.in_doubt (serials_apart tm s f) e un f.doubt);
}

-- there is room for the serial of one more that is prepared
pub room_prepared : (tm : Tm) (s : Stored) (b o : Branch) → Follows tm s → find b.key tm.table ≡ Some o → is_prepared o.state ≡ false → suc (length s.in_doubt) ≤ 64
room_prepared tm s b o f e un =
    let few = f.order.few in
    let same = length_units s.units.begun tm.table f.branches in
    let more = doubt_room b o tm.table s.in_doubt (serials_apart tm s f) e un f.doubt in
    let serials = length_serials tm.table in
    omega arith
  where
    length_serials : (bs : List Branch) → length (branch_serials bs) ≡ length bs
    length_serials [] = refl
    length_serials (b ∷ bs) = ap suc (length_serials bs)
