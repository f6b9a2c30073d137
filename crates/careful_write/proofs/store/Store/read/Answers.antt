use Rattle.std.proofs.Common.{◌≡◌, true, false, ◌∙◌, ◌-◌, ◌+◌, ◌≤◌, List, ℕ, IfSome, length, sym, ap, subst}
use Rattle.block_disk.specs.Blocks.{block_at, has_number}
use Rattle.block_disk.proofs.Laid.{none_has_not}
use Rattle.careful_write.specs.State.{EachWhole, StoreState, InHome}
use Rattle.block_disk.specs.Disk.{DiskState}
use Rattle.careful_write.proofs.Home.{read_staged, read_home, content_size, content_whole}
use Rattle.careful_write.proofs.store.Store.read.Goals as goal

pub returns-in-Some-clause-read : goal.returns-in-Some-clause-read
returns-in-Some-clause-read g c =
    let in_home : InHome (g.D.Disk.state c.self.inside.disk) c.args.n = subst (λ (s : StoreState). InHome s.disk c.args.n) (sym c.self.view_is) c.requires in
    subst (λ (s : StoreState). IfSome s.current (λ (blocks : List (List ℕ)). c.in-Some.bytes.now ≡ block_at blocks (c.args.n - 518))) c.self.view_is
    (read_staged c.args.n _ c.in-Some.bytes.now c.self.inside.staged.entries (g.D.Disk.state c.self.inside.disk).seen c.in-Some.ensures in_home.0 in_home.1 (g.met.D.Disk.whole c.self.inside.disk))

pub returns-in_ok-read-in-None-clause-read : goal.returns-in_ok-read-in-None-clause-read
returns-in_ok-read-in-None-clause-read g c =
    let in_home : InHome (g.D.Disk.state c.self.inside.disk) c.args.n = subst (λ (s : StoreState). InHome s.disk c.args.n) (sym c.self.view_is) c.requires in
    subst (λ (s : StoreState). IfSome s.current (λ (blocks : List (List ℕ)). c.read.new.out ≡ block_at blocks (c.args.n - 518))) c.self.view_is
    (read_home c.args.n c.read.new.out c.self.inside.staged.entries (g.D.Disk.state c.self.inside.disk).seen (sym c.in-None.ensures) in_home.0 c.in_ok-read-in-None.ensures.read)

pub returns-in-Some-clause-whole : goal.returns-in-Some-clause-whole
returns-in-Some-clause-whole g c = content_size c.self.inside.staged.entries _ _ (g.met.D.Disk.whole c.self.inside.disk) c.self.invariant.big

pub returns-in-Some-clause-each : goal.returns-in-Some-clause-each
returns-in-Some-clause-each g c = content_whole c.self.inside.staged.entries _ _ (g.met.D.Disk.whole c.self.inside.disk) c.self.invariant.whole

pub returns-in_ok-read-in-None-clause-whole : goal.returns-in_ok-read-in-None-clause-whole
returns-in_ok-read-in-None-clause-whole g c =
    content_size c.self.inside.staged.entries _ _ (g.met.D.Disk.whole c.read.new.self) (subst (λ (n : ℕ). 4096 ≤ n) (sym (ap (λ (t : DiskState). t.size) c.read.ensures.state)) c.self.invariant.big)

pub returns-in_ok-read-in-None-clause-each : goal.returns-in_ok-read-in-None-clause-each
returns-in_ok-read-in-None-clause-each g c = content_whole c.self.inside.staged.entries _ _ (g.met.D.Disk.whole c.read.new.self) c.self.invariant.whole

pub returns-in_err-read-in-None-clause-whole : goal.returns-in_err-read-in-None-clause-whole
returns-in_err-read-in-None-clause-whole g c =
    content_size c.self.inside.staged.entries _ _ (g.met.D.Disk.whole c.read.new.self) (subst (λ (n : ℕ). 4096 ≤ n) (sym (ap (λ (t : DiskState). t.size) c.read.ensures.state)) c.self.invariant.big)

pub returns-in_err-read-in-None-clause-each : goal.returns-in_err-read-in-None-clause-each
returns-in_err-read-in-None-clause-each g c = content_whole c.self.inside.staged.entries _ _ (g.met.D.Disk.whole c.read.new.self) c.self.invariant.whole

pub returns-in_err-read-in-None-clause-staged : goal.returns-in_err-read-in-None-clause-staged
returns-in_err-read-in-None-clause-staged g c = λ has.
    let none = none_has_not c.args.n c.self.inside.staged.entries (sym c.in-None.ensures) in
    let clash : true ≡ false = sym has ∙ sym (ap (λ (s : StoreState). has_number c.args.n s.touched) c.self.view_is) ∙ none in
    absurd (cc)
