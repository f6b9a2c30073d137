use Rattle.std.proofs.Common.{◌≡◌, ℕ, List, Option, IfOk, IfSome, refl, sym, ap, subst}
use Rattle.change_set.specs.careful_write.Down.{answered}
use Rattle.change_set.specs.careful_write.State.{StoreState}
use Rattle.change_set.specs.Files.{IsPlaced}
use Rattle.change_set.proofs.Frames.{read_and_given}
use Rattle.seq_file.specs.Layout.{asks, IsLaidOut}
use Rattle.seq_file.proofs.file.need_of.Goals as goal

pub need_in_frame-need-requires-clause-placed : goal.need_in_frame-need-requires-clause-placed
need_in_frame-need-requires-clause-placed g c = subst (λ (s : StoreState). IsPlaced c.args.head.now s.disk) (sym c.take_frame-frame.ensures.state) c.requires.placed

pub returns-clause-state : goal.returns-clause-state
returns-clause-state g c =
    read_and_given c.take_frame-frame.result c.args.store.now _ _ _ (answered c.need_in_frame-need.result) _ c.take_frame-frame.ensures.free c.take_frame-frame.ensures.state c.need_in_frame-need.ensures.state refl c.give_frame.ensures

pub returns-clause-need : goal.returns-clause-need
returns-clause-need g c =
    subst (λ (told : Option (List (List ℕ))). IfOk c.need_in_frame-need.result (λ free. IfSome told (λ (b : List (List ℕ)). IsLaidOut c.args.head.now b → free ≡ asks c.args.head.now b c.args.size)))
    (ap (λ (s : StoreState). s.current) c.take_frame-frame.ensures.state) c.need_in_frame-need.ensures.need
