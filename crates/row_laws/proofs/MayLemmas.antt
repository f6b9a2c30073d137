-- Each act of a row may be done where its turn comes.
use Rattle.std.proofs.Common.{◌≡◌, ◌≤◌, ◌+◌, List, [], ◌∷◌, true, refl, sym, subst, length, arith}
use Rattle.vms_model.specs.Ids.{Id}
use Rattle.run_model.specs.commit_protocol.Allowed.{allowed}
use Rattle.run_model.specs.commit_protocol.Effects.{act_effects}
use Rattle.run_model.specs.commit_protocol.Limits.{ActsLawful, TmWithin}
use Rattle.run_model.specs.commit_protocol.Rows.{Event, row}
use Rattle.run_model.specs.commit_protocol.Standing.{AllStand, BeginsNothing, HasApartLog}
use Rattle.run_model.specs.commit_protocol.Table.{Act, Tm, after_act, branch_serials, record_serials}
use Rattle.run_model.proofs.commit_protocol.Serials.{apart_distinct, parts_apart, unique_of}
use Rattle.run_model.proofs.commit_protocol.StandingRows.{rows_stand}
use Rattle.run_model.proofs.commit_protocol.WithinRows.{effects_lawful}
use Rattle.run_model.specs.log_laws.Slots.{HasSlot, LogTells, Slots, size, slots_after}
use Rattle.run_model.proofs.log_laws.Slotting.{TmApart, act_tells}
use Rattle.run_model.proofs.log_laws.RowSlots.{act_size, apart_after, finds_slot, length_slots}
use Rattle.row_laws.specs.May.{AllNamed, IsOfMessage, IsTold, MayDo, MayDoAll}
use Rattle.row_laws.proofs.Naming.{rows_named}

apart_of : (tm : Tm) (ss : Slots) → IsTold tm ss → TmApart tm
apart_of tm ss h = parts_apart (branch_serials tm.table) (record_serials tm.records) h.apart

-- behind an act the log tells the table again
pub told_after : (tid : Id) (tm : Tm) (a : Act) (ss : Slots) → IsTold tm ss → MayDo tid a tm ss → IsTold (after_act a tm) (slots_after a tm.records ss)
told_after tid tm a ss h m =
    let apart : TmApart tm = apart_of tm ss h in
    let after : TmApart (after_act a tm) = apart_after tm a apart m.stands in
    let fewer : size (after_act a tm) ≤ size tm = act_size tm a m.stands in
    let same : length (slots_after a tm.records ss) ≡ length ss = length_slots a tm.records ss in
    let room = h.room in
    record {
      tells = act_tells tm ss a apart (unique_of tm.table apart.one) m.stands m.slot h.tells;
      apart = apart_distinct (branch_serials (after_act a tm).table) (record_serials (after_act a tm).records) after;
      room = subst (λ k. size (after_act a tm) ≤ k) (sym same) (omega arith);
    }

may_all : (tid : Id) (acts : List Act) (tm : Tm) (ss : Slots) → IsTold tm ss → AllStand tm.table acts → ActsLawful acts tm.records → AllNamed tid tm.table acts → MayDoAll tid acts tm ss
may_all tid [] tm ss h stands lawful named = tt
may_all tid (a ∷ acts) tm ss h stands lawful named =
    let may : MayDo tid a tm ss = record { stands = stands.0; slot = finds_slot tm ss a h.tells h.room stands.0; lawful = lawful.0; named = named.0 } in
    (may, may_all tid acts (after_act a tm) (slots_after a tm.records ss) (told_after tid tm a ss h may) stands.1 lawful.1 named.1)

pub may_row : (tid : Id) (tm : Tm) (e : Event) (ss : Slots) → IsTold tm ss → TmWithin tm → allowed tm e ≡ true → BeginsNothing e → IsOfMessage tid e → MayDoAll tid (row tm e) tm ss
may_row tid tm e ss h within allows none of =
    may_all tid (row tm e) tm ss h (rows_stand tm e (unique_of tm.table (apart_of tm ss h).one) none) (effects_lawful tm e within allows) (rows_named tid tm e none of)
