use Rattle.std.proofs.Common.{◌≡◌, List, [], ℕ, Option, IfSome, true, false, inl, inr, length, ◌∙◌, sym, ap, subst, option_map}
use Rattle.block_disk.specs.Blocks.{Table, numbers_of}
use Rattle.careful_write.specs.Content.{home, laid_home, gate_open, IsFront}
use Rattle.careful_write.specs.State.{StoreState, IsEither, Leaves, content}
use Rattle.block_disk.proofs.Laid.{length-numbers_of}
use Rattle.careful_write.specs.Parts.{written_by, DataFirst}
use Rattle.careful_write.specs.Steps.{Touches}
use Rattle.careful_write.proofs.Touched.{touches_nothing}
use Rattle.careful_write.proofs.Exits.{on_err_so}
use Rattle.careful_write.proofs.Home.{laid_home-none, none_staged}
use Rattle.careful_write.proofs.Images.{closed_told}
use Rattle.careful_write.proofs.store.Store.apply.Goals as goal

pub returns-in_err-write_group-clause-err : goal.returns-in_err-write_group-clause-err
returns-in_err-write_group-clause-err g c =
    let disk = g.D.Disk.state c.self.inside.disk in
    let closed : IfSome disk.seen (λ b. gate_open b ≡ false) = subst (λ (s : StoreState). IfSome s.disk.seen (λ b. gate_open b ≡ false)) (sym c.self.view_is) c.requires.closed in
    let before : option_map home disk.seen ≡ content c.args.self.now = closed_told disk.seen closed ∙ ap content c.self.view_is in
    let after : laid_home c.self.inside.staged.entries disk.seen ≡ c.args.self.now.current = ap (λ (s : StoreState). s.current) c.self.view_is in
    on_err_so c.from_residual.result (subst (λ (o : Option (List (List ℕ))). Leaves (IsEither o c.args.self.now.current) (g.D.Disk.state c.write_group.new.disk)) before (subst (λ (o : Option (List (List ℕ))). Leaves (IsEither (option_map home disk.seen) o) (g.D.Disk.state c.write_group.new.disk)) after c.in_err-write_group.ensures.err))

pub returns-clause-current : goal.returns-clause-current
returns-clause-current g c =
    ap (λ (t : Table). laid_home t.entries (g.D.Disk.state c.write_group.new.disk).seen) c.clear.ensures
    ∙ laid_home-none (g.D.Disk.state c.write_group.new.disk).seen ∙ c.in_ok-write_group.ensures.content ∙ ap (λ (s : StoreState). s.current) c.self.view_is

pub returns-then-is_empty-clause-content : goal.returns-then-is_empty-clause-content
returns-then-is_empty-clause-content g c =
    let disk = g.D.Disk.state c.self.inside.disk in
    let empty : c.self.inside.staged.entries ≡ [] = c.is_empty.ensures.0 c.if-is_empty.true in
    let closed : IfSome disk.seen (λ b. gate_open b ≡ false) = subst (λ (s : StoreState). IfSome s.disk.seen (λ b. gate_open b ≡ false)) (sym c.self.view_is) c.requires.closed in
    ap content (sym c.self.view_is) ∙ sym (closed_told disk.seen closed) ∙ sym (laid_home-none disk.seen)
    ∙ sym (ap (λ (es : List (ℕ × List ℕ)). laid_home es disk.seen) empty) ∙ ap (λ (s : StoreState). s.current) c.self.view_is

pub returns-in_err-write_group-clause-nothing : goal.returns-in_err-write_group-clause-nothing
returns-in_err-write_group-clause-nothing g c = λ none.
    let empty = none_staged c.self.inside.staged.entries (ap (λ (s : StoreState). s.touched) c.self.view_is ∙ none) in
    let clash : true ≡ false = sym (c.is_empty.ensures.1 empty) ∙ c.if-is_empty.false in
    absurd (cc)

pub returns-clause-nothing : goal.returns-clause-nothing
returns-clause-nothing g c = λ none.
    let empty = none_staged c.self.inside.staged.entries (ap (λ (s : StoreState). s.touched) c.self.view_is ∙ none) in
    let clash : true ≡ false = sym (c.is_empty.ensures.1 empty) ∙ c.if-is_empty.false in
    absurd (cc)

pub returns-then-is_empty-clause-idle : goal.returns-then-is_empty-clause-idle
returns-then-is_empty-clause-idle g c = record {
  ready = c.requires;
  unstaged = sym (ap (λ (s : StoreState). s.touched) c.self.view_is) ∙ ap numbers_of (c.is_empty.ensures.0 c.if-is_empty.true);
  current = sym (returns-then-is_empty-clause-content g c);
}

pub returns-clause-idle : goal.returns-clause-idle
returns-clause-idle g c =
    let seen = (g.D.Disk.state c.write_group.new.disk).seen in
    let closed = c.in_ok-write_group.ensures.closed in
    record {
      ready = record { fitting = ap (λ (s : StoreState). s.fits) c.self.view_is ∙ c.requires.fitting; settled = c.in_ok-write_group.ensures.settled; closed = closed };
      unstaged = ap (λ (t : Table). numbers_of t.entries) c.clear.ensures;
      current = ap (λ (t : Table). laid_home t.entries seen) c.clear.ensures ∙ laid_home-none seen ∙ closed_told seen closed;
    }

pub returns-then-is_empty-clause-front : goal.returns-then-is_empty-clause-front
returns-then-is_empty-clause-front g c = inl (sym (ap (λ (s : StoreState). s.touched) c.self.view_is) ∙ ap numbers_of (c.is_empty.ensures.0 c.if-is_empty.true))

pub returns-clause-front : goal.returns-clause-front
returns-clause-front g c = inr (subst (λ (s : StoreState). IfSome (g.D.Disk.state c.write_group.new.disk).seen (IsFront s.touched)) c.self.view_is c.in_ok-write_group.ensures.front)

pub returns-in_err-write_group-clause-order : goal.returns-in_err-write_group-clause-order
returns-in_err-write_group-clause-order g c =
    let pending = (g.D.Disk.state c.write_group.new.disk).pending in
    on_err_so c.from_residual.result (subst (λ (s : StoreState). DataFirst (length s.touched) pending) c.self.view_is
    (subst (λ (n : ℕ). DataFirst n pending) (sym (length-numbers_of c.self.inside.staged.entries)) c.in_err-write_group.ensures.order))

pub returns-then-is_empty-clause-touches : goal.returns-then-is_empty-clause-touches
returns-then-is_empty-clause-touches g c = touches_nothing (written_by c.args.self.now.touched) c.args.self.now.disk

pub returns-in_err-write_group-clause-touches : goal.returns-in_err-write_group-clause-touches
returns-in_err-write_group-clause-touches g c = subst (λ (s : StoreState). Touches (written_by s.touched) s.disk (g.D.Disk.state c.write_group.new.disk)) c.self.view_is c.write_group.ensures.touches

pub returns-clause-touches : goal.returns-clause-touches
returns-clause-touches g c = subst (λ (s : StoreState). Touches (written_by s.touched) s.disk (g.D.Disk.state c.write_group.new.disk)) c.self.view_is c.write_group.ensures.touches
