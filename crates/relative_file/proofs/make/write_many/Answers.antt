use Rattle.std.proofs.Common.{◌≡◌, ℕ, List, Option, Result, Ok, Err, OnErr, sym, ap, subst, ◌∙◌}
use Rattle.change_set.specs.careful_write.Content.{content_of}
use Rattle.change_set.specs.careful_write.State.{StoreState, Leaves, IsEither, content}
use Rattle.change_set.specs.Files.{in_extent}
use Rattle.relative_file.proofs.MakeLaws.{either_agrees}
use Rattle.relative_file.proofs.make.write_many.Goals as goal

on_err_then : {T E A B : Type 0} (r : Result T E) → (A → B) → OnErr r A → OnErr r B
on_err_then (Ok x) f a = tt
on_err_then (Err e) f a = f a

pub returns-clause-down : goal.returns-clause-down
returns-clause-down g c =
    let s0 = c.args.store.now in
    let s1 = c.stage_many.new.store in
    let before : content s1 ≡ s0.current = ap (λ (s : StoreState). content s) c.stage_many.ensures.rest ∙ sym c.requires.idle.current in
    on_err_then c.apply.result (λ (leaves : Leaves (IsEither (content s1) s1.current) c.apply.new.self.disk) image left.
    let at = leaves image left in (at.0, either_agrees (in_extent c.args.head.now) s0.current s1.current (content_of image) c.stage_many.ensures.outside (subst (λ (o : Option (List (List ℕ))). IsEither o s1.current (content_of image)) before at.1)))
    c.apply.ensures.err
