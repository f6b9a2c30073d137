use Rattle.reference_index.specs.run_model.Locks.{is_locked}
use Rattle.vms_base.specs.Ids.{id_of}
use Rattle.reference_index.specs.Standing.{changes_of, locks_of}
use Rattle.reference_world.proofs.FileLemmas.{set_is}
use Rattle.reference_world.proofs.directory.set_file.Goals as goal

pub returns : goal.returns
returns c = set_is c.args.file (is_locked (locks_of c.args.locks.now) c.args.name.now) (id_of c.args.branch.now.tid) (id_of c.args.branch.now.serial) (changes_of c.args.changes.items) c.in_ok-f-3.field-0 c.in_ok-f.field-0
    c.bucket_sizes-sizes.result c.in_ok-f-2.field-0 c.bucket_sizes-sizes.ensures.capacity c.bucket_sizes-sizes.ensures.fan_out
    (rw c.replace-live.ensures.value at c.in_ok-f-3.ensures)
    (rw (c.as_slice.ensures.value, c.replace-layout.ensures.value) at c.in_ok-f.ensures)
    (rw (c.as_slice-2.ensures.value, c.replace-carried.ensures.value) at c.in_ok-f-2.ensures)
