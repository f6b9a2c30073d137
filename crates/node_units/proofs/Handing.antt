-- The tokens of the units that a restart hands out.
use Rattle.std.proofs.Common.{◌≡◌, ℕ, suc, ◌+◌, ◌<◌, ◌≤◌, List, [], ◌∷◌, true, length, map, refl, sym, ◌∙◌, ap, arith}
use Rattle.std.specs.List.{AllByRecursion}
use Rattle.std.proofs.lemmas.List.{length-map}
use Rattle.commit_protocol.specs.Messages.{LogRecord}
use Rattle.log_laws.specs.Slots.{Slots, records_in}
use Rattle.record_locks.specs.Locks.{Lock}
use Rattle.lmcp_log.specs.tm_types.Parts.{log_record_of}
use Rattle.rms_units.specs.unit_restarts.Restarting.{RestartTold, Restarts}
use Rattle.rms_units.specs.unit_returns.Returning.{AreOfRecords}
use Rattle.unit_table.specs.Places.{AreInOrder, occurrences}
use Rattle.unit_table.specs.Units.{OpenUnit, Units, begun, unit_at}
use Rattle.unit_table.proofs.OrderLemmas.{taken_is, units_many}
use Rattle.vms_base.specs.Ids.{serial_of, tid_of}
use Rattle.vms_base.specs.declared.protocol.LogRec.{LogRec}
use Rattle.volume.specs.State.{VolumeState}
use Rattle.rms_units.specs.State as rms
use Rattle.node_units.specs.declared.begun.BegunUnit.{BegunUnit}
use Rattle.node_units.specs.Tokens.{TokensRepresent, is_held, is_waiting, place_in, tokens_for}
use Rattle.node_units.proofs.Beginning.{long_kinds, long_records}

tokens_places : (rs : List LogRec) (ps : List ℕ) → length ps ≡ length rs → map (λ (t : BegunUnit). place_in t.token) (tokens_for rs ps) ≡ ps
tokens_places [] [] long = refl
tokens_places [] (p ∷ ps) long = absurd (omega (arith, long))
tokens_places (r ∷ rs) [] long = refl
tokens_places (r ∷ rs) (p ∷ ps) long = ap (λ (qs : List ℕ). p ∷ qs) (tokens_places rs ps (omega (arith, long)))

tokens_tids : (rs : List LogRec) (ps : List ℕ) (us : List OpenUnit) → length ps ≡ length rs → AreOfRecords (map log_record_of rs) us → map (λ (t : BegunUnit). tid_of t.tid) (tokens_for rs ps) ≡ map (λ (u : OpenUnit). u.tid) us
tokens_tids [] ps [] long of = refl
tokens_tids [] ps (u ∷ us) long of = absurd of
tokens_tids (r ∷ rs) ps [] long of = absurd of
tokens_tids (r ∷ rs) [] (u ∷ us) long of = absurd (omega (arith, long))
tokens_tids (r ∷ rs) (p ∷ ps) (u ∷ us) long of = (λ i. sym of.0.tid i ∷ tokens_tids rs ps us (omega (arith, long)) of.1 i)

tokens_serials : (rs : List LogRec) (ps : List ℕ) (us : List OpenUnit) → length ps ≡ length rs → AreOfRecords (map log_record_of rs) us → map (λ (t : BegunUnit). serial_of t.serial) (tokens_for rs ps) ≡ map (λ (u : OpenUnit). u.serial) us
tokens_serials [] ps [] long of = refl
tokens_serials [] ps (u ∷ us) long of = absurd of
tokens_serials (r ∷ rs) ps [] long of = absurd of
tokens_serials (r ∷ rs) [] (u ∷ us) long of = absurd (omega (arith, long))
tokens_serials (r ∷ rs) (p ∷ ps) (u ∷ us) long of = (λ i. sym of.0.serial i ∷ tokens_serials rs ps us (omega (arith, long)) of.1 i)

tokens_prepared : (rs : List LogRec) (ps : List ℕ) (us : List OpenUnit) → length ps ≡ length rs → AreOfRecords (map log_record_of rs) us → map (λ (t : BegunUnit). is_waiting t.token) (tokens_for rs ps) ≡ map (λ (u : OpenUnit). u.prepared) us
tokens_prepared [] ps [] long of = refl
tokens_prepared [] ps (u ∷ us) long of = absurd of
tokens_prepared (r ∷ rs) ps [] long of = absurd of
tokens_prepared (r ∷ rs) [] (u ∷ us) long of = absurd (omega (arith, long))
tokens_prepared (r ∷ rs) (p ∷ ps) (u ∷ us) long of = (λ i. sym of.0.prepared i ∷ tokens_prepared rs ps us (omega (arith, long)) of.1 i)

tokens_held : (rs : List LogRec) (ps : List ℕ) → AllByRecursion (λ (t : BegunUnit). is_held t.token ≡ true) (tokens_for rs ps)
tokens_held [] ps = tt
tokens_held (r ∷ rs) [] = tt
tokens_held (r ∷ rs) (p ∷ ps) = (refl, tokens_held rs ps)

as_many : (rs : List LogRecord) (us : List OpenUnit) → AreOfRecords rs us → length us ≡ length rs
as_many [] [] of = refl
as_many [] (u ∷ us) of = absurd of
as_many (r ∷ rs) [] of = absurd of
as_many (r ∷ rs) (u ∷ us) of = ap suc (as_many rs us of.1)

module _ (clock : ℕ) (v w : VolumeState) (found log : Slots) (units : Units) (locks : List Lock) (told : RestartTold) (is : Restarts clock v found log units locks w told) where
  -- there is a place for each record
  pub places_many : AreInOrder units.places units.order → length told.units ≡ length told.prepared
  places_many at =
      let many = units_many units.places units.order (λ p some. taken_is (unit_at units.places p) (occurrences p units.order) (at.each p) some) in
      let each = as_many (map log_record_of told.prepared) (begun units) is.records in
      let long = length-map told.prepared log_record_of in
      let places = ap length is.places in
      omega (arith, many, each, long, places)

  -- and the tokens are those of the units
  pub stand_returned : AreInOrder units.places units.order → TokensRepresent (tokens_for told.prepared told.units) (record { units = units; locks = locks })
  stand_returned at =
      let long = places_many at in
      record {
        places = tokens_places told.prepared told.units long ∙ is.places;
        tids = tokens_tids told.prepared told.units (begun units) long is.records;
        serials = tokens_serials told.prepared told.units (begun units) long is.records;
        prepared = tokens_prepared told.prepared told.units (begun units) long is.records;
        held = tokens_held told.prepared told.units;
      }

  pub few_committed : length log ≤ 512 → length told.committed ≤ 512
  few_committed few =
      let long = sym (length-map told.committed log_record_of) ∙ ap length is.committed in
      let kinds = long_kinds (records_in log) in
      let records = long_records log in
      omega (arith, long, kinds, records, few)

-- no token stands for no unit
pub no_tokens : (ts : List BegunUnit) (s : rms.UnitsState) → TokensRepresent ts s → s ≡ rms.nothing_begun → ts ≡ []
no_tokens [] s stand none = refl
no_tokens (t ∷ ts) s stand none = let never : ◌≡◌ {A = List ℕ} (place_in t.token ∷ map (λ (t : BegunUnit). place_in t.token) ts) [] = stand.places ∙ ap (λ (x : rms.UnitsState). x.units.order) none in let no : ⊥ = cc in absurd no
