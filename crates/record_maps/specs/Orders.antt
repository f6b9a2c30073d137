-- The order of keys is total.
use Rattle.std.specs.Cmp.{IsTotalOrder}
use Rattle.records_model.specs.Records.{key_cmp}
use Rattle.records_model.proofs.KeyLemmas.{key_cmp_total}

pub key_total : IsTotalOrder key_cmp
key_total = key_cmp_total
