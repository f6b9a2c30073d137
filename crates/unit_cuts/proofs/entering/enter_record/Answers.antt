-- The entry of a record is what it has, or nothing.
use Rattle.std.proofs.Common.{◌≡◌, ◌-◌, ℕ, List, ◌∙◌}
use Rattle.std.specs.Option.{option_copied}
use Rattle.std.proofs.lemmas.Result.{on_ok_weaker}
use Rattle.volume_files.specs.record_files.Any.{map_of}
use Rattle.unit_journal.specs.Entries.{change_entry}
use Rattle.vms_base.specs.Ids.{serial_of, tid_of}
use Rattle.vms_base.specs.Keys.{key_of}
use Rattle.vms_model.specs.Keys.{Number}
use Rattle.unit_cuts.specs.Records.{OfRecords}
use Rattle.unit_cuts.specs.Truncating.{EntersIfFits, told_map}
use Rattle.std.proofs.Common.{subst}
use Rattle.unit_cuts.proofs.Reading.{enters_from}
use Rattle.unit_cuts.proofs.entering.enter_record.Goals as goal

pub returns-clause-enters : goal.returns-clause-enters
returns-clause-enters g c =
    let v = c.args.volume.now in
    let h = c.args.cut.now.head in
    let file = c.args.cut.now.file in
    let tid = tid_of c.args.branch.now.tid in
    let serial = serial_of c.args.branch.now.serial in
    let k = Number (h.count - c.args.behind) in
    let before = option_copied c.record_if.result in
    let e = change_entry tid serial file (key_of c.key-key.result) before in
    let tells : OfRecords h v (λ m. e ≡ change_entry tid serial file k (told_map c.args.has_image m k)) = λ a told form laid.
    let had : before ≡ told_map c.args.has_image (map_of h a) k = c.record_if.ensures ∙ c.in-Ok.ensures.found a told form laid in
    (λ i. change_entry tid serial file (c.key-key.ensures i) (had i)) in
    on_ok_weaker c.append_within.result
    (λ enters. (
      e,
      c.encode_change.ensures.is,
      tells,
      subst (λ (bytes : List ℕ). EntersIfFits bytes c.args.limit c.args.span.now c.append_within.new.span c.args.room.now.positions c.append_within.new.room.positions v c.append_within.new.volume) c.encode_change.ensures.spelled
          (enters_from v c.read_image.new.volume c.in-Ok.ensures.same c.encode_change.new.out c.args.limit c.args.span.now c.append_within.new.span c.args.room.now.positions c.append_within.new.room.positions c.append_within.new.volume enters),
    ))
    c.append_within.ensures.enters
