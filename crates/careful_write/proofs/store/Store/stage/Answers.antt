use Rattle.std.proofs.Common.{◌≡◌, ◌-◌, ◌∙◌, ⊎_elim, false, length, sym, ap, subst, option_map, set, List, ℕ, IfSome, ◌+◌, arith}
use Rattle.block_disk.specs.Blocks.{Table, numbers_of, has_number, with_number, ascends}
use Rattle.block_disk.proofs.Laid.{length-numbers_of, numbers_of-upsert, ascends-upsert, length-upsert, none_has_not, whole-upsert}
use Rattle.careful_write.specs.Content.{laid_home}
use Rattle.careful_write.specs.State.{EachWhole, StoreState, InHome}
use Rattle.careful_write.proofs.Home.{laid_home-upsert, length_staged, each-upsert, content_size, content_whole}
use Rattle.careful_write.proofs.Images.{ready_kept}
use Rattle.careful_write.proofs.store.Store.stage.Goals as goal

pub returns-clause-ok : goal.returns-clause-ok
returns-clause-ok g c =
    let entries = c.self.inside.staged.entries in
    let disk = g.D.Disk.state c.self.inside.disk in
    let in_home : InHome disk c.args.n = subst (λ (s : StoreState). InHome s.disk c.args.n) (sym c.self.view_is) c.requires in
    let current = ap (λ (t : Table). laid_home t.entries disk.seen) c.put.ensures ∙ laid_home-upsert c.args.n c.args.bytes.now entries disk.seen in_home.0 in
    let touched = ap (λ (t : Table). numbers_of t.entries) c.put.ensures ∙ numbers_of-upsert c.args.n c.args.bytes.now entries in
    (λ i. record { disk = disk; current = current i; touched = touched i; pool = c.self.inside.pool; fits = c.self.inside.fits; reads = c.self.inside.reads })
    ∙ ap (λ (s : StoreState). record s { current = option_map (λ (blocks : List (List ℕ)). set blocks (c.args.n - 518) c.args.bytes.now) s.current; touched = with_number c.args.n s.touched }) c.self.view_is

pub returns-then-not-has_room-clause-full : goal.returns-then-not-has_room-clause-full
returns-then-not-has_room-clause-full g c =
    let entries = c.self.inside.staged.entries in
    let no = c.has_room.ensures.no c.if-not-has_room.true in
    λ _. (
      omega (arith, no.0, c.self.invariant.few, length-numbers_of entries, ap (λ (s : StoreState). length s.touched) c.self.view_is),
      subst (λ (s : StoreState). has_number c.args.n s.touched ≡ false) c.self.view_is (none_has_not c.args.n entries no.1),
    )

pub invariant_of-self : goal.invariant_of-self
invariant_of-self g c =
    let entries = c.self.inside.staged.entries in
    let disk = g.D.Disk.state c.self.inside.disk in
    let in_home : InHome disk c.args.n = subst (λ (s : StoreState). InHome s.disk c.args.n) (sym c.self.view_is) c.requires in
    let longer = length-upsert c.args.n c.args.bytes.now entries in
    let items = ap (λ (t : Table). t.entries) c.put.ensures in
    record {
      room = ap (λ (t : Table). t.room) c.put.ensures ∙ c.self.invariant.room;
      few = ⊎_elim
          (λ few. omega (arith, few, longer, ap length items))
          (λ there. omega (arith, length_staged c.args.n c.args.bytes.now entries c.self.invariant.ascending there, c.self.invariant.few, ap length items))
          (c.has_room.ensures.yes c.if-not-has_room.false);
      ascending = ap (ascends 0) items ∙ ascends-upsert 0 c.args.n c.args.bytes.now entries (omega arith) c.self.invariant.ascending;
      big = c.self.invariant.big;
      in_home = rw c.put.ensures (each-upsert (InHome disk) c.args.n c.args.bytes.now entries in_home c.self.invariant.in_home);
      whole = rw c.put.ensures (whole-upsert c.args.n c.args.bytes.now entries c.told-bytes c.self.invariant.whole);
    }

pub returns-then-not-has_room-clause-whole : goal.returns-then-not-has_room-clause-whole
returns-then-not-has_room-clause-whole g c =
    subst (λ (s : StoreState). IfSome s.current (λ (b : List (List ℕ)). length b + 518 ≡ s.disk.size)) c.self.view_is
    (content_size c.self.inside.staged.entries _ _ (g.met.D.Disk.whole c.self.inside.disk) c.self.invariant.big)

pub returns-then-not-has_room-clause-each : goal.returns-then-not-has_room-clause-each
returns-then-not-has_room-clause-each g c =
    subst (λ (s : StoreState). IfSome s.current EachWhole) c.self.view_is
    (content_whole c.self.inside.staged.entries _ _ (g.met.D.Disk.whole c.self.inside.disk) c.self.invariant.whole)

pub returns-clause-whole : goal.returns-clause-whole
returns-clause-whole g c = content_size c.put.new.self.entries _ _ (g.met.D.Disk.whole c.self.inside.disk) c.self.invariant.big

pub returns-clause-each : goal.returns-clause-each
returns-clause-each g c =
    content_whole c.put.new.self.entries _ _ (g.met.D.Disk.whole c.self.inside.disk)
    (rw c.put.ensures (whole-upsert c.args.n c.args.bytes.now c.self.inside.staged.entries c.told-bytes c.self.invariant.whole))

pub returns-clause-ready : goal.returns-clause-ready
returns-clause-ready g c = ready_kept c.args.self.now _ (ap (λ (s : StoreState). s.disk) (returns-clause-ok g c)) (ap (λ (s : StoreState). s.fits) (returns-clause-ok g c))
