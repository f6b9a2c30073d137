-- What the log has of branches and committed records.
use Rattle.std.proofs.Common.{◌≡◌, Bool, true, false, List, [], ◌∷◌, Some, None, inl, inr, refl, ap, sym, subst, ◌∙◌}
use Rattle.net_wire.specs.commit_protocol.Allowed.{is_prepared}
use Rattle.net_wire.specs.commit_protocol.Limits.{RecordWithin}
use Rattle.net_wire.specs.commit_protocol.Messages.{LogRecord, RecordKind}
use Rattle.net_wire.specs.commit_protocol.Table.{Branch, Key, Tm, branch_serials, find, prepared_records, record_serials}
use Rattle.net_wire.specs.commit_protocol.World.{In}
use Rattle.emitter_model.proofs.commit_protocol.Lists.{told_id}
use Rattle.emitter_model.proofs.commit_protocol.Serials.{in_serial, parts_apart, there_serial}
use Rattle.recovery_units.specs.lmcp_log.Log.{record_with}
use Rattle.recovery_units.specs.lmcp_log.Slot.{HasForm}
use Rattle.recovery_units.proofs.lmcp_log.SlotLemmas.{none_forgotten}
use Rattle.row_laws.specs.log_laws.Slots.{Slots, forgotten, has_slot, records_in}
use Rattle.row_laws.proofs.log_laws.Slotting.{in_state, slot_of}
use Rattle.row_laws.specs.May.{IsTold}
use Rattle.vms_model.specs.Ids.{Id}
use Rattle.node_table.proofs.Doubting.{one_key, stands}
use Rattle.node_table.proofs.Viewing.{with_serial}

-- a slot with a serial has a record of it
in_slot : (serial : Id) (ss : Slots) → has_slot serial ss ≡ true → (r : LogRecord) × In r (records_in ss) × (r.serial ≡ serial)
in_slot serial [] h = absurd (let f : false ≡ true = h in cc)
in_slot serial (None ∷ ss) h = in_slot serial ss h
in_slot serial (Some q ∷ ss) h = elim (told_id q.serial serial) [
  | inl t ↦ (q, inl refl, t.1)
  | inr t ↦ (let h' : has_slot serial ss ≡ true = rw (t.0) at h in (let r = in_slot serial ss h' in (r.0, inr r.1, r.2)))
]

-- a prepared record is of a prepared branch
of_prepared : (q : LogRecord) (bs : List Branch) → In q (prepared_records bs) → (b : Branch) × In b bs × (b.key.serial ≡ q.serial) × (is_prepared b.state ≡ true)
of_prepared q [] h = absurd h
of_prepared q (b ∷ bs) h = elim (in_state b b.state (prepared_records bs) q h) [
  | inl t ↦ (b, inl refl, ap (λ (r : LogRecord). r.serial) (sym t.1), ap is_prepared t.0)
  | inr j ↦ (let r = of_prepared q bs j in (r.0, inr r.1, r.2, r.3))
]

-- an unprepared branch has no slot
pub unlogged : (tm : Tm) (ss : Slots) (k : Key) (o : Branch) → IsTold tm ss → find k tm.table ≡ Some o → is_prepared o.state ≡ false → forgotten k.serial ss ≡ ss
unlogged tm ss k o h e un = (none_forgotten k.serial ss (go (has_slot k.serial ss) refl)).0
  where
    none : has_slot k.serial ss ≡ true → ⊥
    none f =
        let r = in_slot k.serial ss f in
        let apart = parts_apart (branch_serials tm.table) (record_serials tm.records) h.apart in
        elim (h.tells.from r.0 r.1) [
          | inl i ↦
              let w = of_prepared r.0 tm.table i in
              let found : find w.0.key tm.table ≡ Some w.0 = stands tm.table w.0 apart.one w.1 in
              let key : w.0.key ≡ k = one_key tm.table w.0.key k w.0 o apart.one found e (w.2 ∙ r.2) in
              let same : Some w.0 ≡ Some o = sym found ∙ ap (λ j. find j tm.table) key ∙ e in
              let is : w.0 ≡ o = cc in
              let f : true ≡ false = sym w.3 ∙ ap (λ (y : Branch). is_prepared y.state) is ∙ un in
              absurd (let g : ⊥ = cc in g)
          | inr i ↦ apart.apart k.serial (there_serial k tm.table (o, e)) (subst (λ z. In z (record_serials tm.records)) r.2 (in_serial r.0 tm.records i))
        ]

    go : (t : Bool) → has_slot k.serial ss ≡ t → has_slot k.serial ss ≡ false
    go true f = absurd (none f)
    go false f = f

-- a committed record has a slot, which has it
pub logged_slot : (tm : Tm) (ss : Slots) (q : LogRecord) → IsTold tm ss → In q tm.records → (has_slot q.serial ss ≡ true) × (record_with q.serial ss ≡ Some q)
logged_slot tm ss q h i =
    let here : In q (records_in ss) = h.tells.committed q i in
    (slot_of q.serial ss (in_serial q (records_in ss) here), with_serial q ss h.tells.distinct here)

-- the form of a committed record
pub form_within : (r : LogRecord) → RecordWithin r → HasForm r.kind r.waiting r.rms
form_within r w = subst (λ (k : RecordKind). HasForm k r.waiting r.rms) (sym w.kind) w.left
