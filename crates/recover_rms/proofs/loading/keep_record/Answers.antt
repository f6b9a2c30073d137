use Rattle.std.proofs.Common.{◌≡◌, length, rules}
use Rattle.recover_rms.proofs.LoadLemmas.{kept_so, left_so}
use Rattle.recover_rms.proofs.loading.keep_record.Goals as goal

pub returns-then-not-may_have-clause-kept : goal.returns-then-not-may_have-clause-kept
returns-then-not-may_have-clause-kept c =
    let count : c.len-count.result ≡ length c.args.records.now.items = search rules in
    left_so c.args.head.now c.args.records.now.items _ _ c.args.bytes.items c.deref.result.now c.len-count.result c.may_have.result c.next_key-key.ensures count c.deref.ensures.value c.may_have.ensures.exact c.if-not-may_have.true
