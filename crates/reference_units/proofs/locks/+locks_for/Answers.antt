use Rattle.std.proofs.Common.{◌≡◌, ◌∷◌, ◌∙◌, List, ap, sym, false}
use Rattle.std.specs.Prelude.{map}
use Rattle.reference_index.specs.run_model.Locks as locks
use Rattle.vms_base.specs.Ids.{id_of}
use Rattle.reference_index.specs.declared.locks.Lock.{Lock}
use Rattle.reference_index.specs.Standing.{key_of, locks_of}
use Rattle.reference_units.proofs.LockLemmas.{first_taken}
use Rattle.reference_units.proofs.locks.+locks_for.Goals as goal

pub returns-in_ok-push_front-in-len1-up : goal.returns-in_ok-push_front-in-len1-up
returns-in_ok-push_front-in-len1-up t c =
    let all = locks_of c.args.all.now in
    let free : locks.is_locked all c.args.file.now (key_of c.key-item.result) ≡ false =
    ap (λ k. locks.is_locked all c.args.file.now k) (sym c.lend.ensures) ∙ sym c.is_locked.ensures ∙ c.if-is_locked.false in
    ap (λ (ls : List Lock). locks_of ls) c.in_ok-push_front-in-len1-up.ensures
    ∙ ap (λ (l : locks.Lock). l ∷ locks_of c.in_ok-more-in-len1-up.more.items) c.in_ok-lock_of-in-len1-up.ensures
    ∙ ap (λ (ls : List locks.Lock). record { file = c.args.file.now; key = key_of c.key-item.result; by = id_of c.args.serial.now } ∷ ls) c.in_ok-more-in-len1-up.ensures
    ∙ first_taken all c.args.file.now (id_of c.args.serial.now) c.args.keys.now c.key-item.result c.in-len1-up.len_at_least c.key-item.is free
