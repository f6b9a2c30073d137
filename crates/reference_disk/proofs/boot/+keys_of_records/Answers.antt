use Rattle.std.proofs.Common.{◌≡◌, ◌∷◌, ◌∙◌, List, ap}
use Rattle.std.specs.Prelude.{map}
use Rattle.log_laws.specs.commit_protocol.Table.{Key, record_key}
use Rattle.tm_types.specs.Parts.{log_record_of}
use Rattle.reference_world.specs.declared.world.BranchKey.{BranchKey}
use Rattle.reference_world.specs.Standing.{branch_key_of}
use Rattle.reference_disk.proofs.DiskLemmas.{first_key}
use Rattle.reference_disk.proofs.boot.+keys_of_records.Goals as goal

pub returns-in_ok-push_front-in-len1-up : goal.returns-in_ok-push_front-in-len1-up
returns-in_ok-push_front-in-len1-up t c =
    let r = c.r-item.result in
    ap (λ (ks : List BranchKey). map branch_key_of ks) c.in_ok-push_front-in-len1-up.ensures
    ∙ ap (λ (ks : List Key). record_key (log_record_of r) ∷ ks) c.in_ok-all-in-len1-up.ensures
    ∙ first_key c.args.records.now r c.in-len1-up.len_at_least c.r-item.is
