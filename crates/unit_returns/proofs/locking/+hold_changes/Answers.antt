use Rattle.std.proofs.Common.{◌≡◌, ◌-◌, ◌^◌, ◌≤◌, ℕ, List, [], ◌∷◌, Option, length, take, drop, get_or, refl, ap, subst, sym, ◌∙◌, arith}
use Rattle.std.specs.Prelude.{option_copied}
use Rattle.careful_write.proofs.Reading.{ready_read}
use Rattle.file_base.specs.declared.head.FileHead.{FileHead}
use Rattle.journal_format.specs.Heads.{entry_of}
use Rattle.journal_store.specs.Rings.{IsRing}
use Rattle.record_locks.specs.Locks.{LockTable}
use Rattle.vms_base.specs.Ids.{serial_of}
use Rattle.volume.specs.Catalogs.{head_at}
use Rattle.volume.specs.State.{VolumeState}
use Rattle.volume.proofs.Reading.{store_of_same, volume_on}
use Rattle.unit_returns.specs.Locking.{Holds, keys_left}
use Rattle.unit_returns.specs.Returning.{HoldsKeys}
use Rattle.unit_returns.proofs.Units.{held_less, held_more, held_nothing, holds_read, if_ok, none_there, rest_all, shorter, split}
use Rattle.unit_returns.proofs.locking.+hold_changes.Goals as goal
use Rattle.unit_returns.proofs.locking.+hold_changes.Goals.{in-Some, in_default}

any_first : (ps : List ℕ) (d : ℕ) → 1 ≤ length ps → get_or ps 0 0 ≡ get_or ps 0 d
any_first [] d some = absurd (omega (arith, some))
any_first (p ∷ ps) d some = refl

pub hold_changes-requires : goal.hold_changes-requires
hold_changes-requires g t c κs within =
    let ps = c.args.positions.now in
    let some = c.in-len1-up.len_at_least in
    let less = shorter ps some in
    let same = c.in-Ok.ensures.same in (
      omega (arith, less, c.decreases),
      (
        within,
        (
          ready_read c.args.volume.now.store c.read_entry.new.volume.store (store_of_same c.args.volume.now c.read_entry.new.volume same) c.requires.ready,
          (
            subst (λ (x : VolumeState). IsRing x.catalog.ru x.store.disk) (sym same) c.requires.ring,
            rest_all (λ p. p ≤ 2 ^ 62) ps some c.requires.low,
          ),
        ),
      ),
    )

pub returns-in-empty-clause-held : goal.returns-in-empty-clause-held
returns-in-empty-clause-held g t c =
    subst (λ (ps : List ℕ). HoldsKeys c.args.volume.now ps (serial_of c.args.by.now) c.args.locks.now c.args.locks.now)
    (sym (none_there c.args.positions.now c.in-empty.len_below)) (held_nothing c.args.volume.now (serial_of c.args.by.now) c.args.locks.now)

pub returns-after-entry-clause-same : goal.returns-after-entry-clause-same
returns-after-entry-clause-same g t c =
    if_ok c.hold_changes.result c.hold_changes.ensures.same (λ later. volume_on c.args.volume.now c.read_entry.new.volume c.hold_changes.new.volume c.in-Ok.ensures.same later)

pub returns-after-entry-clause-held : goal.returns-after-entry-clause-held
returns-after-entry-clause-held g t c =
    let v = c.args.volume.now in
    let ps = c.args.positions.now in
    let p = get_or ps 0 0 in
    let rest = take (length ps - 1) (drop 1 ps) in
    let by = serial_of c.args.by.now in
    let image = c.read_entry.new.image in
    let held = c.hold_changes.new.locks in
    let same = c.in-Ok.ensures.same in
    let parts = split ps p c.in-len1-up.len_at_least (any_first ps p c.in-len1-up.len_at_least) in
    if_ok c.hold_changes.result c.hold_changes.ensures.held (λ later.
    subst (λ (qs : List ℕ). HoldsKeys v qs by c.args.locks.now held) (sym parts)
    (let rest_held : HoldsKeys v rest by c.match-entry.locks held = holds_read v c.read_entry.new.volume rest by c.match-entry.locks held same later in
    elim c.match-entry.branch [
      | in-Some w ↦
          let h = w.in-Some.e in
          let next = w.in-Some.field-0-1 in
          let head : Option FileHead = option_copied w.head.result in
          held_more v p rest by c.args.locks.now w.lock_entry.new.locks held h next image (rw w.in-Some.is at c.in-Ok.ensures.entry)
          (subst (λ (o : Option FileHead). (entry_of h []).kind ≡ 1 → 1 ≤ length (entry_of h []).key → Holds by h.file (keys_left o (entry_of h [])) c.args.locks.now w.lock_entry.new.locks)
          (w.head.ensures.value ∙ ap (λ (x : VolumeState). head_at x.catalog.heads h.file) same) w.lock_entry.ensures.held)
          (subst (λ (x : LockTable). HoldsKeys v rest by x held) w.locks-is rest_held)
      | in_default w ↦
          held_less v p rest by c.args.locks.now c.args.locks.now held image (rw w.in_default.is at c.in-Ok.ensures.entry)
          (subst (λ (x : LockTable). HoldsKeys v rest by x held) w.locks-is rest_held)
    ]))
