-- A branch that votes yes is prepared, as it is in the world, and keeps what it holds.
use Rattle.std.proofs.Common.{◌≡◌, ◌∙◌, ℕ, List, true, false, Option, Some, IfSome, slice_set, ◌⊎◌, get_or-set_same, ap, sym, subst, refl, arith}
use Rattle.std.specs.Prelude.{IsSome}
use Rattle.std.specs.List.{position, remove}
use Rattle.std.proofs.lemmas.Bool.{both_ways}
use Rattle.log_laws.specs.Slots.{has_free, has_slot}
use Rattle.unit_table.specs.Units as table
use Rattle.unit_table.specs.Units.{OpenUnit, begun, prepared_unit}
use Rattle.rms_units.specs.unit_votes.Voting.{vote_entry, vote_record}
use Rattle.rms_units.specs.Calls.{is_some_change}
use Rattle.vms_base.specs.Ids.{serial_of, tid_of}
use Rattle.vms_model.specs.Ids.{Id}
use Rattle.recovery_units.specs.Calls as calls
use Rattle.recovery_units.specs.State as calls_state
use Rattle.recovery_units.specs.State.{MayVote, UnitsState, voted, with_prepared}
use Rattle.rms_units.specs.State as rms
use Rattle.rms_units.specs.State.{unit_of}
use Rattle.rms_units.specs.Voting.{IfYes, IsReadOnly, Prepares, Votes as VotesBy, VotesNot, is_yes, votes_yes}
use Rattle.rms_units.specs.declared.tokens.Vote.{Vote}
use Rattle.node_units.specs.declared.begun.BegunUnit.{BegunUnit}
use Rattle.node_units.specs.declared.begun.Token.TheVariants as token
use Rattle.node_units.specs.Seen.{seen}
use Rattle.node_units.specs.Tokens.{TokensRepresent, is_of, place_in}
use Rattle.node_units.proofs.Writing.{remove_set, set_long, set_twice, vote_start, votes_same}
use Rattle.node_units.proofs.Seeing.{early_unseen, order_seen}
use Rattle.node_units.proofs.TokenLemmas.{begun_some, is_found, prepared_begun, prepared_then, stand_then}
use Rattle.node_units.proofs.Voting.{votes_not, votes_ok}
use Rattle.node_units.proofs.Voter.{Votes, vote_active, vote_ids, vote_logged, vote_may, voted_now, voter, voter_below, voter_serial, voter_tid}
use Rattle.node_units.proofs.units.NodeUnitsRecoveryUnits.prepare.Goals as goal

pub unreachable-requires : goal.unreachable-requires
unreachable-requires g c =
    let x = serial_of c.args.serial.now in
    let there = begun_some x (begun c.self.inside.units.units) (subst (λ (z : UnitsState). IsSome (calls_state.unit_of x z.begun)) (sym c.self.view_is) c.requires.unit) in
    is_found c.self.inside.begun.items c.self.inside.units c.self.inside.log x c.place_of.result c.self.invariant.0 (c.place_of.ensures ∙ ap (position (is_of x)) c.deref.ensures.value) there c.in_default.is

pub unreachable-requires-in_default-replace : goal.unreachable-requires-in_default-replace
unreachable-requires-in_default-replace g c =
    let ts = c.self.inside.begun.items in
    let s = c.self.inside.units in
    let log = c.self.inside.log in
    let v = c.args.volume.now in
    let x = serial_of c.args.serial.now in
    let i = c.in-Some.place in
    let b = c.index_mut.result.now in
    let rms_are = c.args.rms.now in
    let k : Votes ts s log v x i b c.args.self.now c.index.result.now rms_are = record {
      stand = c.self.invariant.0;
      places = c.stand_in_order.ensures;
      found = sym (ap (position (is_of (serial_of c.args.serial.now))) c.deref.ensures.value) ∙ sym c.place_of.ensures ∙ c.in-Some.is;
      at = c.index_mut.ensures.value;
      read_at = c.index.ensures;
      view = c.self.view_is;
      order = c.requires.order;
      early = c.requires.early;
      may = c.requires.may;
      parts = c.have_vote.ensures;
    } in
    let own = voter ts s log v x i b c.args.self.now c.index.result.now rms_are k in
    let active = vote_active ts s log v x i b c.args.self.now c.index.result.now rms_are k in
    c.in_default-replace.not-Active active.0 (c.replace.ensures.value ∙ active.1)

pub prepare-requires-clause-unit : goal.prepare-requires-clause-unit
prepare-requires-clause-unit g c =
    let ts = c.self.inside.begun.items in
    let s = c.self.inside.units in
    let log = c.self.inside.log in
    let v = c.args.volume.now in
    let x = serial_of c.args.serial.now in
    let i = c.in-Some.place in
    let b = c.index_mut.result.now in
    let rms_are = c.args.rms.now in
    let k : Votes ts s log v x i b c.args.self.now c.index.result.now rms_are = record {
      stand = c.self.invariant.0;
      places = c.stand_in_order.ensures;
      found = sym (ap (position (is_of (serial_of c.args.serial.now))) c.deref.ensures.value) ∙ sym c.place_of.ensures ∙ c.in-Some.is;
      at = c.index_mut.ensures.value;
      read_at = c.index.ensures;
      view = c.self.view_is;
      order = c.requires.order;
      early = c.requires.early;
      may = c.requires.may;
      parts = c.have_vote.ensures;
    } in
    let own = voter ts s log v x i b c.args.self.now c.index.result.now rms_are k in
    let token_is : b.token ≡ token.Active c.in-Active.unit = sym c.replace.ensures.value ∙ c.in-Active.is in
    let place_is : place_in b.token ≡ c.in-Active.unit = ap place_in token_is in
    let there : unit_of c.in-Active.unit s ≡ Some own.unit = ap (λ (q : ℕ). unit_of q s) (sym place_is) ∙ own.there in
    subst IsSome (sym there) refl

pub prepare-requires-clause-active : goal.prepare-requires-clause-active
prepare-requires-clause-active g c =
    let ts = c.self.inside.begun.items in
    let s = c.self.inside.units in
    let log = c.self.inside.log in
    let v = c.args.volume.now in
    let x = serial_of c.args.serial.now in
    let i = c.in-Some.place in
    let b = c.index_mut.result.now in
    let rms_are = c.args.rms.now in
    let k : Votes ts s log v x i b c.args.self.now c.index.result.now rms_are = record {
      stand = c.self.invariant.0;
      places = c.stand_in_order.ensures;
      found = sym (ap (position (is_of (serial_of c.args.serial.now))) c.deref.ensures.value) ∙ sym c.place_of.ensures ∙ c.in-Some.is;
      at = c.index_mut.ensures.value;
      read_at = c.index.ensures;
      view = c.self.view_is;
      order = c.requires.order;
      early = c.requires.early;
      may = c.requires.may;
      parts = c.have_vote.ensures;
    } in
    let own = voter ts s log v x i b c.args.self.now c.index.result.now rms_are k in
    let token_is : b.token ≡ token.Active c.in-Active.unit = sym c.replace.ensures.value ∙ c.in-Active.is in
    let place_is : place_in b.token ≡ c.in-Active.unit = ap place_in token_is in
    let there : unit_of c.in-Active.unit s ≡ Some own.unit = ap (λ (q : ℕ). unit_of q s) (sym place_is) ∙ own.there in
    subst (λ (o : Option OpenUnit). IfSome o (λ u. u.prepared ≡ false)) (sym there) (vote_may ts s log v x i b c.args.self.now c.index.result.now rms_are k).active

pub prepare-requires-clause-slot : goal.prepare-requires-clause-slot
prepare-requires-clause-slot g c =
    let ts = c.self.inside.begun.items in
    let s = c.self.inside.units in
    let log = c.self.inside.log in
    let v = c.args.volume.now in
    let x = serial_of c.args.serial.now in
    let i = c.in-Some.place in
    let b = c.index_mut.result.now in
    let rms_are = c.args.rms.now in
    let k : Votes ts s log v x i b c.args.self.now c.index.result.now rms_are = record {
      stand = c.self.invariant.0;
      places = c.stand_in_order.ensures;
      found = sym (ap (position (is_of (serial_of c.args.serial.now))) c.deref.ensures.value) ∙ sym c.place_of.ensures ∙ c.in-Some.is;
      at = c.index_mut.ensures.value;
      read_at = c.index.ensures;
      view = c.self.view_is;
      order = c.requires.order;
      early = c.requires.early;
      may = c.requires.may;
      parts = c.have_vote.ensures;
    } in
    let own = voter ts s log v x i b c.args.self.now c.index.result.now rms_are k in
    let token_is : b.token ≡ token.Active c.in-Active.unit = sym c.replace.ensures.value ∙ c.in-Active.is in
    let place_is : place_in b.token ≡ c.in-Active.unit = ap place_in token_is in
    let there : unit_of c.in-Active.unit s ≡ Some own.unit = ap (λ (q : ℕ). unit_of q s) (sym place_is) ∙ own.there in
    subst (λ (o : Option OpenUnit). IfSome o (λ u. votes_yes u.positions rms_are ≡ true → (has_slot u.serial log ≡ true) ⊎ (has_free log ≡ true))) (sym there) (λ yes. (vote_may ts s log v x i b c.args.self.now c.index.result.now rms_are k).slot)

pub prepare-requires-clause-order : goal.prepare-requires-clause-order
prepare-requires-clause-order g c =
    let ts = c.self.inside.begun.items in
    let s = c.self.inside.units in
    let log = c.self.inside.log in
    let v = c.args.volume.now in
    let x = serial_of c.args.serial.now in
    let i = c.in-Some.place in
    let b = c.index_mut.result.now in
    let rms_are = c.args.rms.now in
    let k : Votes ts s log v x i b c.args.self.now c.index.result.now rms_are = record {
      stand = c.self.invariant.0;
      places = c.stand_in_order.ensures;
      found = sym (ap (position (is_of (serial_of c.args.serial.now))) c.deref.ensures.value) ∙ sym c.place_of.ensures ∙ c.in-Some.is;
      at = c.index_mut.ensures.value;
      read_at = c.index.ensures;
      view = c.self.view_is;
      order = c.requires.order;
      early = c.requires.early;
      may = c.requires.may;
      parts = c.have_vote.ensures;
    } in
    let own = voter ts s log v x i b c.args.self.now c.index.result.now rms_are k in
    (vote_logged ts s log v x i b c.args.self.now c.index.result.now rms_are k).order

pub prepare-requires-clause-early : goal.prepare-requires-clause-early
prepare-requires-clause-early g c = early_unseen c.args.volume.now c.requires.early

pub invariant_of-self : goal.invariant_of-self
invariant_of-self g c =
    let ts = c.self.inside.begun.items in
    let s = c.self.inside.units in
    let log = c.self.inside.log in
    let v = c.args.volume.now in
    let x = serial_of c.args.serial.now in
    let i = c.in-Some.place in
    let b = c.index_mut.result.now in
    let rms_are = c.args.rms.now in
    let k : Votes ts s log v x i b c.args.self.now c.index.result.now rms_are = record {
      stand = c.self.invariant.0;
      places = c.stand_in_order.ensures;
      found = sym (ap (position (is_of (serial_of c.args.serial.now))) c.deref.ensures.value) ∙ sym c.place_of.ensures ∙ c.in-Some.is;
      at = c.index_mut.ensures.value;
      read_at = c.index.ensures;
      view = c.self.view_is;
      order = c.requires.order;
      early = c.requires.early;
      may = c.requires.may;
      parts = c.have_vote.ensures;
    } in
    let own = voter ts s log v x i b c.args.self.now c.index.result.now rms_are k in
    let token_is : b.token ≡ token.Active c.in-Active.unit = sym c.replace.ensures.value ∙ c.in-Active.is in
    let place_is : place_in b.token ≡ c.in-Active.unit = ap place_in token_is in
    let there : unit_of c.in-Active.unit s ≡ Some own.unit = ap (λ (q : ℕ). unit_of q s) (sym place_is) ∙ own.there in
    let t = c.prepare.new.self in
    let us = c.prepare.new.log in
    let w = c.prepare.new.volume in
    let fails : VotesNot c.in-Active.unit own.unit rms_are s log v t us w = c.in-Err.ensures.err own.unit there in
    let spent : t ≡ rms.without_place (place_in b.token) own.unit.serial s = fails.spent ∙ ap (λ (q : ℕ). rms.without_place q own.unit.serial s) (sym place_is) in
    let y : BegunUnit = record { tid = b.tid; serial = b.serial; token = c.replace.new.dest } in
    (subst (λ (zs : List BegunUnit). TokensRepresent zs t) (sym (c.remove.ensures.items ∙ remove_set ts i y)) (subst (TokensRepresent (remove ts i)) (sym spent) (stand_then ts s k.stand k.places x i b k.found k.at own.unit.serial own.serial)), (let more = c.remove.ensures.capacity in let room = c.self.invariant.1 in omega (arith, more, room)))

pub invariant_of-self-in-Ok-Yes : goal.invariant_of-self-in-Ok-Yes
invariant_of-self-in-Ok-Yes g c =
    let ts = c.self.inside.begun.items in
    let s = c.self.inside.units in
    let log = c.self.inside.log in
    let v = c.args.volume.now in
    let x = serial_of c.args.serial.now in
    let i = c.in-Some.place in
    let b = c.index_mut.result.now in
    let rms_are = c.args.rms.now in
    let k : Votes ts s log v x i b c.args.self.now c.index.result.now rms_are = record {
      stand = c.self.invariant.0;
      places = c.stand_in_order.ensures;
      found = sym (ap (position (is_of (serial_of c.args.serial.now))) c.deref.ensures.value) ∙ sym c.place_of.ensures ∙ c.in-Some.is;
      at = c.index_mut.ensures.value;
      read_at = c.index.ensures;
      view = c.self.view_is;
      order = c.requires.order;
      early = c.requires.early;
      may = c.requires.may;
      parts = c.have_vote.ensures;
    } in
    let own = voter ts s log v x i b c.args.self.now c.index.result.now rms_are k in
    let token_is : b.token ≡ token.Active c.in-Active.unit = sym c.replace.ensures.value ∙ c.in-Active.is in
    let place_is : place_in b.token ≡ c.in-Active.unit = ap place_in token_is in
    let there : unit_of c.in-Active.unit s ≡ Some own.unit = ap (λ (q : ℕ). unit_of q s) (sym place_is) ∙ own.there in
    let t = c.prepare.new.self in
    let us = c.prepare.new.log in
    let w = c.prepare.new.volume in
    let done : Prepares c.in-Active.unit own.unit rms_are s log v t us w = subst (λ (q : Vote). VotesBy (is_yes q) c.in-Active.unit own.unit rms_are s log v t us w) c.in-Ok-Yes.field-0-is (c.in-Ok-Yes.ensures.votes own.unit there) in
    let placed : t ≡ record s { units = table.with_unit (place_in b.token) (prepared_unit own.unit) s.units } = done.unit ∙ ap (λ (q : ℕ). record s { units = table.with_unit q (prepared_unit own.unit) s.units }) (sym place_is) in
    let y : BegunUnit = record { tid = b.tid; serial = b.serial; token = c.replace.new.dest } in
    let again = c.index_mut-in-Ok-Yes.result.now in
    let z : BegunUnit = record { tid = again.tid; serial = again.serial; token = token.Prepared c.in-Ok-Yes.unit } in
    let placed_at : c.in-Ok-Yes.unit ≡ c.in-Active.unit = subst (λ (q : Vote). IfYes q (λ p. p ≡ c.in-Active.unit)) c.in-Ok-Yes.field-0-is c.in-Ok-Yes.ensures.place in
    let same : again ≡ y = c.index_mut-in-Ok-Yes.ensures.value ∙ get_or-set_same ts i y again (voter_below ts s log v x i b c.args.self.now c.index.result.now rms_are k) in (
      subst (λ (zs : List BegunUnit). TokensRepresent zs t) (sym (set_twice ts i y z)) (subst (TokensRepresent (slice_set ts i z)) (sym placed)
          (prepared_then ts s k.stand k.places x i b k.found k.at own.unit own.there z (placed_at ∙ sym place_is) (ap (λ (q : BegunUnit). tid_of q.tid) same ∙ sym own.tid) (ap (λ (q : BegunUnit). serial_of q.serial) same ∙ voter_serial ts s log v x i b c.args.self.now c.index.result.now rms_are k ∙ sym own.serial) refl refl)),
      c.self.invariant.1,
    )

pub unreachable-requires-in-Ok-ReadOnly : goal.unreachable-requires-in-Ok-ReadOnly
unreachable-requires-in-Ok-ReadOnly g c =
    let ts = c.self.inside.begun.items in
    let s = c.self.inside.units in
    let log = c.self.inside.log in
    let v = c.args.volume.now in
    let x = serial_of c.args.serial.now in
    let i = c.in-Some.place in
    let b = c.index_mut.result.now in
    let rms_are = c.args.rms.now in
    let k : Votes ts s log v x i b c.args.self.now c.index.result.now rms_are = record {
      stand = c.self.invariant.0;
      places = c.stand_in_order.ensures;
      found = sym (ap (position (is_of (serial_of c.args.serial.now))) c.deref.ensures.value) ∙ sym c.place_of.ensures ∙ c.in-Some.is;
      at = c.index_mut.ensures.value;
      read_at = c.index.ensures;
      view = c.self.view_is;
      order = c.requires.order;
      early = c.requires.early;
      may = c.requires.may;
      parts = c.have_vote.ensures;
    } in
    let own = voter ts s log v x i b c.args.self.now c.index.result.now rms_are k in
    let token_is : b.token ≡ token.Active c.in-Active.unit = sym c.replace.ensures.value ∙ c.in-Active.is in
    let place_is : place_in b.token ≡ c.in-Active.unit = ap place_in token_is in
    let there : unit_of c.in-Active.unit s ≡ Some own.unit = ap (λ (q : ℕ). unit_of q s) (sym place_is) ∙ own.there in
    let only : IsReadOnly c.in-Active.unit own.unit rms_are s log v c.prepare.new.self c.prepare.new.log c.prepare.new.volume = subst (λ (q : Vote). VotesBy (is_yes q) c.in-Active.unit own.unit rms_are s log v c.prepare.new.self c.prepare.new.log c.prepare.new.volume) c.in-Ok-ReadOnly.field-0-is (c.in-Ok-ReadOnly.ensures.votes own.unit there) in
    both_ways _ only.no (votes_same own.unit.positions rms_are ∙ (vote_may ts s log v x i b c.args.self.now c.index.result.now rms_are k).yes)

pub returns-in-Err-clause-err : goal.returns-in-Err-clause-err
returns-in-Err-clause-err g c =
    let ts = c.self.inside.begun.items in
    let s = c.self.inside.units in
    let log = c.self.inside.log in
    let v = c.args.volume.now in
    let x = serial_of c.args.serial.now in
    let i = c.in-Some.place in
    let b = c.index_mut.result.now in
    let rms_are = c.args.rms.now in
    let k : Votes ts s log v x i b c.args.self.now c.index.result.now rms_are = record {
      stand = c.self.invariant.0;
      places = c.stand_in_order.ensures;
      found = sym (ap (position (is_of (serial_of c.args.serial.now))) c.deref.ensures.value) ∙ sym c.place_of.ensures ∙ c.in-Some.is;
      at = c.index_mut.ensures.value;
      read_at = c.index.ensures;
      view = c.self.view_is;
      order = c.requires.order;
      early = c.requires.early;
      may = c.requires.may;
      parts = c.have_vote.ensures;
    } in
    let own = voter ts s log v x i b c.args.self.now c.index.result.now rms_are k in
    let token_is : b.token ≡ token.Active c.in-Active.unit = sym c.replace.ensures.value ∙ c.in-Active.is in
    let place_is : place_in b.token ≡ c.in-Active.unit = ap place_in token_is in
    let there : unit_of c.in-Active.unit s ≡ Some own.unit = ap (λ (q : ℕ). unit_of q s) (sym place_is) ∙ own.there in
    let t = c.prepare.new.self in
    let us = c.prepare.new.log in
    let w = c.prepare.new.volume in
    let fails : VotesNot c.in-Active.unit own.unit rms_are s log v t us w = c.in-Err.ensures.err own.unit there in
    subst (λ (z : UnitsState). calls.VotesErr x rms_are z v w) c.self.view_is (subst (λ (y : Id). calls.VotesErr y rms_are (seen s log) v w) own.serial
    (votes_not c.in-Active.unit own.unit s t log us v w rms_are there k.places (vote_logged ts s log v x i b c.args.self.now c.index.result.now rms_are k) (early_unseen _ c.requires.early) (vote_ids ts s log v x i b c.args.self.now c.index.result.now rms_are k) fails))

pub returns-in-Ok-Yes-clause-units : goal.returns-in-Ok-Yes-clause-units
returns-in-Ok-Yes-clause-units g c =
    let ts = c.self.inside.begun.items in
    let s = c.self.inside.units in
    let log = c.self.inside.log in
    let v = c.args.volume.now in
    let x = serial_of c.args.serial.now in
    let i = c.in-Some.place in
    let b = c.index_mut.result.now in
    let rms_are = c.args.rms.now in
    let k : Votes ts s log v x i b c.args.self.now c.index.result.now rms_are = record {
      stand = c.self.invariant.0;
      places = c.stand_in_order.ensures;
      found = sym (ap (position (is_of (serial_of c.args.serial.now))) c.deref.ensures.value) ∙ sym c.place_of.ensures ∙ c.in-Some.is;
      at = c.index_mut.ensures.value;
      read_at = c.index.ensures;
      view = c.self.view_is;
      order = c.requires.order;
      early = c.requires.early;
      may = c.requires.may;
      parts = c.have_vote.ensures;
    } in
    let own = voter ts s log v x i b c.args.self.now c.index.result.now rms_are k in
    let token_is : b.token ≡ token.Active c.in-Active.unit = sym c.replace.ensures.value ∙ c.in-Active.is in
    let place_is : place_in b.token ≡ c.in-Active.unit = ap place_in token_is in
    let there : unit_of c.in-Active.unit s ≡ Some own.unit = ap (λ (q : ℕ). unit_of q s) (sym place_is) ∙ own.there in
    let t = c.prepare.new.self in
    let us = c.prepare.new.log in
    let w = c.prepare.new.volume in
    let done : Prepares c.in-Active.unit own.unit rms_are s log v t us w = subst (λ (q : Vote). VotesBy (is_yes q) c.in-Active.unit own.unit rms_are s log v t us w) c.in-Ok-Yes.field-0-is (c.in-Ok-Yes.ensures.votes own.unit there) in
    let placed : t ≡ record s { units = table.with_unit (place_in b.token) (prepared_unit own.unit) s.units } = done.unit ∙ ap (λ (q : ℕ). record s { units = table.with_unit q (prepared_unit own.unit) s.units }) (sym place_is) in
    voted_now ts s log v x i b c.args.self.now c.index.result.now rms_are k t us placed done.slots

pub returns-in-Ok-Yes-clause-tid : goal.returns-in-Ok-Yes-clause-tid
returns-in-Ok-Yes-clause-tid g c =
    let ts = c.self.inside.begun.items in
    let s = c.self.inside.units in
    let log = c.self.inside.log in
    let v = c.args.volume.now in
    let x = serial_of c.args.serial.now in
    let i = c.in-Some.place in
    let b = c.index_mut.result.now in
    let rms_are = c.args.rms.now in
    let k : Votes ts s log v x i b c.args.self.now c.index.result.now rms_are = record {
      stand = c.self.invariant.0;
      places = c.stand_in_order.ensures;
      found = sym (ap (position (is_of (serial_of c.args.serial.now))) c.deref.ensures.value) ∙ sym c.place_of.ensures ∙ c.in-Some.is;
      at = c.index_mut.ensures.value;
      read_at = c.index.ensures;
      view = c.self.view_is;
      order = c.requires.order;
      early = c.requires.early;
      may = c.requires.may;
      parts = c.have_vote.ensures;
    } in
    let own = voter ts s log v x i b c.args.self.now c.index.result.now rms_are k in
    subst (λ (z : UnitsState). IfSome (calls_state.unit_of x z.begun) (λ (u : OpenUnit). tid_of c.index.result.now.tid ≡ u.tid)) c.self.view_is
    (subst (λ (o : Option OpenUnit). IfSome o (λ (u : OpenUnit). tid_of c.index.result.now.tid ≡ u.tid)) (sym own.found) (voter_tid ts s log v x i b c.args.self.now c.index.result.now rms_are k))

pub returns-in-Ok-Yes-clause-order : goal.returns-in-Ok-Yes-clause-order
returns-in-Ok-Yes-clause-order g c =
    let ts = c.self.inside.begun.items in
    let s = c.self.inside.units in
    let log = c.self.inside.log in
    let v = c.args.volume.now in
    let x = serial_of c.args.serial.now in
    let i = c.in-Some.place in
    let b = c.index_mut.result.now in
    let rms_are = c.args.rms.now in
    let k : Votes ts s log v x i b c.args.self.now c.index.result.now rms_are = record {
      stand = c.self.invariant.0;
      places = c.stand_in_order.ensures;
      found = sym (ap (position (is_of (serial_of c.args.serial.now))) c.deref.ensures.value) ∙ sym c.place_of.ensures ∙ c.in-Some.is;
      at = c.index_mut.ensures.value;
      read_at = c.index.ensures;
      view = c.self.view_is;
      order = c.requires.order;
      early = c.requires.early;
      may = c.requires.may;
      parts = c.have_vote.ensures;
    } in
    let own = voter ts s log v x i b c.args.self.now c.index.result.now rms_are k in
    let token_is : b.token ≡ token.Active c.in-Active.unit = sym c.replace.ensures.value ∙ c.in-Active.is in
    let place_is : place_in b.token ≡ c.in-Active.unit = ap place_in token_is in
    let there : unit_of c.in-Active.unit s ≡ Some own.unit = ap (λ (q : ℕ). unit_of q s) (sym place_is) ∙ own.there in
    let t = c.prepare.new.self in
    let us = c.prepare.new.log in
    let w = c.prepare.new.volume in
    let done : Prepares c.in-Active.unit own.unit rms_are s log v t us w = subst (λ (q : Vote). VotesBy (is_yes q) c.in-Active.unit own.unit rms_are s log v t us w) c.in-Ok-Yes.field-0-is (c.in-Ok-Yes.ensures.votes own.unit there) in
    let placed : t ≡ record s { units = table.with_unit (place_in b.token) (prepared_unit own.unit) s.units } = done.unit ∙ ap (λ (q : ℕ). record s { units = table.with_unit q (prepared_unit own.unit) s.units }) (sym place_is) in
    let r = vote_record own.unit.tid own.unit.serial rms_are in
    let before = (vote_logged ts s log v x i b c.args.self.now c.index.result.now rms_are k).before in
    let long = set_long own.unit.serial (Some r) log us v done.makes.logged done.makes.log in
    let start = vote_start r (vote_entry (is_some_change own.unit.positions) own.unit.tid own.unit.serial) log us v w done.makes in
    order_seen t us w c.stand_in_order-in-Ok-Yes.ensures (omega (arith, before, long, start)) c.in-Ok-Yes.ensures.order

pub returns-in-Ok-Yes-clause-done : goal.returns-in-Ok-Yes-clause-done
returns-in-Ok-Yes-clause-done g c =
    let ts = c.self.inside.begun.items in
    let s = c.self.inside.units in
    let log = c.self.inside.log in
    let v = c.args.volume.now in
    let x = serial_of c.args.serial.now in
    let i = c.in-Some.place in
    let b = c.index_mut.result.now in
    let rms_are = c.args.rms.now in
    let k : Votes ts s log v x i b c.args.self.now c.index.result.now rms_are = record {
      stand = c.self.invariant.0;
      places = c.stand_in_order.ensures;
      found = sym (ap (position (is_of (serial_of c.args.serial.now))) c.deref.ensures.value) ∙ sym c.place_of.ensures ∙ c.in-Some.is;
      at = c.index_mut.ensures.value;
      read_at = c.index.ensures;
      view = c.self.view_is;
      order = c.requires.order;
      early = c.requires.early;
      may = c.requires.may;
      parts = c.have_vote.ensures;
    } in
    let own = voter ts s log v x i b c.args.self.now c.index.result.now rms_are k in
    let token_is : b.token ≡ token.Active c.in-Active.unit = sym c.replace.ensures.value ∙ c.in-Active.is in
    let place_is : place_in b.token ≡ c.in-Active.unit = ap place_in token_is in
    let there : unit_of c.in-Active.unit s ≡ Some own.unit = ap (λ (q : ℕ). unit_of q s) (sym place_is) ∙ own.there in
    let t = c.prepare.new.self in
    let us = c.prepare.new.log in
    let w = c.prepare.new.volume in
    let done : Prepares c.in-Active.unit own.unit rms_are s log v t us w = subst (λ (q : Vote). VotesBy (is_yes q) c.in-Active.unit own.unit rms_are s log v t us w) c.in-Ok-Yes.field-0-is (c.in-Ok-Yes.ensures.votes own.unit there) in
    let placed : t ≡ record s { units = table.with_unit (place_in b.token) (prepared_unit own.unit) s.units } = done.unit ∙ ap (λ (q : ℕ). record s { units = table.with_unit q (prepared_unit own.unit) s.units }) (sym place_is) in
    let now = ap (λ (z : rms.UnitsState). begun z.units) placed ∙ prepared_begun ts s k.stand k.places x i b k.found k.at own.unit own.there ∙ ap (λ (y : Id). with_prepared y (begun s.units)) (sym own.serial) in
    subst (λ (z : UnitsState). calls.VotesOk x rms_are z v (seen t us) w) c.self.view_is (subst (λ (y : Id). calls.VotesOk y rms_are (seen s log) v (seen t us) w) own.serial
    (votes_ok c.in-Active.unit own.unit s t log us v w rms_are there k.places (vote_logged ts s log v x i b c.args.self.now c.index.result.now rms_are k) (early_unseen _ c.requires.early) (vote_ids ts s log v x i b c.args.self.now c.index.result.now rms_are k) done now c.prepare.ensures.goes.size))
