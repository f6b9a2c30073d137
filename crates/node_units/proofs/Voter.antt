-- A call for the vote of a branch: what is known of its unit.
use Rattle.std.proofs.Common.{◌≡◌, ◌∙◌, ◌<◌, ℕ, List, Option, Some, IfSome, length, get_or, ap, sym, subst, refl}
use Rattle.std.specs.List.{position}
use Rattle.std.proofs.lemmas.List.Quantifiers.{position-Some}
use Rattle.rms_units.proofs.unit_cuts.Outcomes.{of_some}
use Rattle.commit_protocol.specs.Messages.{Name}
use Rattle.lmcp_log.specs.Slot.{IsParts}
use Rattle.log_laws.specs.Slots.{Slots, put_in}
use Rattle.unit_table.specs.Places.{AreInOrder}
use Rattle.unit_table.specs.Units as table
use Rattle.unit_table.specs.Units.{OpenUnit, begun, prepared_unit}
use Rattle.rms_units.specs.unit_votes.Voting.{vote_record}
use Rattle.vms_base.specs.Ids.{serial_of, tid_of}
use Rattle.vms_model.specs.Ids.{Id, IsId}
use Rattle.volume.specs.State.{VolumeState}
use Rattle.recovery_units.proofs.world_laws.IdLemmas.{id_is}
use Rattle.recovery_units.specs.State as calls
use Rattle.recovery_units.specs.State.{MayVote, UnitsState, voted, with_prepared}
use Rattle.rms_units.specs.State as rms
use Rattle.node_units.specs.declared.begun.BegunUnit.{BegunUnit}
use Rattle.node_units.specs.declared.begun.Token.TheVariants as token
use Rattle.node_units.specs.Seen.{seen}
use Rattle.node_units.specs.Tokens.{TokensRepresent, is_of, place_in}
use Rattle.node_units.proofs.Committing.{HasLogged}
use Rattle.node_units.proofs.Seeing.{order_unseen}
use Rattle.node_units.proofs.TokenLemmas.{HasUnit, active_is, active_of, own_unit, prepared_begun}

pub record Votes (ts : List BegunUnit) (s : rms.UnitsState) (log : Slots) (v : VolumeState) (x : Id) (i : ℕ) (b : BegunUnit) (was : UnitsState) (read : BegunUnit) (rms_are : List Name) : Type 0 where
  pub stand : TokensRepresent ts s
  pub places : AreInOrder s.units.places s.units.order
  pub found : position (is_of x) ts ≡ Some i
  pub at : b ≡ get_or ts i b
  pub read_at : read ≡ get_or ts i read
  pub view : seen s log ≡ was
  pub order : calls.IsInOrder was v
  pub early : calls.IsEarly v
  pub may : IfSome (calls.unit_of x was.begun) (λ (u : OpenUnit). MayVote u rms_are was.log)
  pub parts : IsParts (vote_record (tid_of read.tid) x rms_are)

one_tid : (u w : OpenUnit) → ◌≡◌ {A = Option OpenUnit} (Some u) (Some w) → u.tid ≡ w.tid
one_tid u w e = cc

module _ (ts : List BegunUnit) (s : rms.UnitsState) (log : Slots) (v : VolumeState) (x : Id) (i : ℕ) (b : BegunUnit) (was : UnitsState) (read : BegunUnit) (rms_are : List Name) (k : Votes ts s log v x i b was read rms_are) where
  pub voter : HasUnit x b s
  voter = own_unit ts s k.stand k.places x i b k.found k.at

  pub voter_below : i < length ts
  voter_below = (position-Some (is_of x) ts i b k.found).0

  pub voter_serial : serial_of b.serial ≡ x
  voter_serial = ap (λ (t : BegunUnit). serial_of t.serial) k.at ∙ sym (id_is x (serial_of (get_or ts i b).serial) (position-Some (is_of x) ts i b k.found).1)

  pub voter_tid : tid_of read.tid ≡ voter.unit.tid
  voter_tid = let r = own_unit ts s k.stand k.places x i read k.found k.read_at in sym r.tid ∙ one_tid r.unit voter.unit (sym r.found ∙ voter.found)

  pub vote_may : MayVote voter.unit rms_are log
  vote_may = of_some (λ (u : OpenUnit). MayVote u rms_are log) (calls.unit_of x (begun s.units)) voter.unit voter.found (subst (λ (z : UnitsState). IfSome (calls.unit_of x z.begun) (λ (u : OpenUnit). MayVote u rms_are z.log)) (sym k.view) k.may)

  pub vote_ids : IsId voter.unit.tid × IsId voter.unit.serial
  vote_ids = (subst IsId voter_tid k.parts.tid, subst IsId (sym voter.serial) k.parts.serial)

  pub vote_logged : HasLogged s log v (Some (vote_record voter.unit.tid voter.unit.serial rms_are))
  vote_logged =
      let order = subst (λ (z : UnitsState). calls.IsInOrder z v) (sym k.view) k.order in
      record {
        order = order_unseen s log v k.places order;
        before = order.slots;
        parts = (subst (λ (y : Id). IsParts (vote_record voter.unit.tid y rms_are)) (sym voter.serial) (subst (λ (y : Id). IsParts (vote_record y x rms_are)) voter_tid k.parts), refl);
      }

  pub vote_active : (p : ℕ) × (b.token ≡ token.Active p)
  vote_active = active_is b.token (active_of b.token voter.held (sym voter.prepared ∙ vote_may.active))

  pub voted_now : (t : rms.UnitsState) (us : Slots) → t ≡ record s { units = table.with_unit (place_in b.token) (prepared_unit voter.unit) s.units } → us ≡ put_in (vote_record voter.unit.tid voter.unit.serial rms_are) log →
      IfSome (calls.unit_of x was.begun) (λ (u : OpenUnit). seen t us ≡ voted u rms_are was)
  voted_now t us placed slots =
      let now = ap (λ (z : rms.UnitsState). begun z.units) placed ∙ prepared_begun ts s k.stand k.places x i b k.found k.at voter.unit voter.there ∙ ap (λ (y : Id). with_prepared y (begun s.units)) (sym voter.serial) in
      let is : seen t us ≡ voted voter.unit rms_are (seen s log) = λ j. record { begun = now j; locks = (placed j).locks; log = slots j } in
      subst (λ (z : UnitsState). IfSome (calls.unit_of x z.begun) (λ (u : OpenUnit). seen t us ≡ voted u rms_are z)) k.view (subst (λ (o : Option OpenUnit). IfSome o (λ (u : OpenUnit). seen t us ≡ voted u rms_are (seen s log))) (sym voter.found) is)
