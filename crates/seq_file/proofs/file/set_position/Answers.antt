use Rattle.std.proofs.Common.{List, ℕ, Option, IfSome, Result, Err, refl, ap, sym, subst}
use Rattle.std.specs.Option.{option_copied}
use Rattle.change_set.specs.careful_write.Down.{answered}
use Rattle.change_set.specs.careful_write.declared.down.Down.{Down}
use Rattle.change_set.specs.careful_write.State.{StoreState}
use Rattle.change_set.specs.Files.{IsPlaced}
use Rattle.change_set.proofs.Frames.{read_and_given}
use Rattle.seq_file.specs.Records.{list_set}
use Rattle.seq_file.specs.Layout.{CountsBefore, IsLaidOut, TakesAt}
use Rattle.seq_file.proofs.ChangeLaws.{changed_by}
use Rattle.seq_file.proofs.file.set_position.Goals as goal

pub set_at-requires-clause-placed : goal.set_at-requires-clause-placed
set_at-requires-clause-placed g c = subst (λ (s : StoreState). IsPlaced c.args.head.now s.disk) (sym c.take_frame-frame.ensures.state) c.requires.placed

pub returns-in-Ok-clause-done : goal.returns-in-Ok-clause-done
returns-in-Ok-clause-done g c =
    let h = c.args.head.now in
    let v = option_copied c.args.value in
    changed_by c.in-Ok.rewrite h c.write_back.new.head (TakesAt h c.args.n v) (list_set c.args.n v) c.take_frame-frame.result c.args.store.now c.take_frame-frame.new.store c.set_at.new.store c.write_back.new.store c.requires.placed c.requires.form c.take_frame-frame.ensures.whole
    c.take_frame-frame.ensures.free c.take_frame-frame.ensures.state c.in-Ok.ensures.state c.in-Ok.ensures.may c.in-Ok.ensures.leads c.in-Ok.ensures.none c.write_back.ensures.written c.write_back.ensures.tells c.write_back.ensures.given c.write_back.ensures.same

pub returns-in-Err-clause-down : goal.returns-in-Err-clause-down
returns-in-Err-clause-down g c =
    let r : Result (Unit {0}) Down = Err c.in-Err.down in
    read_and_given c.take_frame-frame.result c.args.store.now _ _ _ (answered r) _ c.take_frame-frame.ensures.free c.take_frame-frame.ensures.state c.in-Err.ensures.state refl c.give_frame.ensures

pub write_back-requires-clause-placed : goal.write_back-requires-clause-placed
write_back-requires-clause-placed g c =
    let h = c.args.head.now in
    subst (λ (s : StoreState). IsPlaced h s.disk) (sym c.in-Ok.ensures.state) (subst (λ (s : StoreState). IsPlaced h s.disk) (sym c.take_frame-frame.ensures.state) c.requires.placed)

pub set_at-requires-clause-before : goal.set_at-requires-clause-before
set_at-requires-clause-before g c =
    subst (λ (told : Option (List (List ℕ))). IfSome told (λ (b : List (List ℕ)). IsLaidOut c.args.head.now b → CountsBefore c.args.head.now b c.args.place))
    (sym (ap (λ (s : StoreState). s.current) c.take_frame-frame.ensures.state)) c.requires.before
