use Rattle.std.proofs.Common.{◌≡◌, ℕ, List, true, false, Option, Some, IfOk, IfSome, refl, sym, ap, subst, arith}
use Rattle.change_set.specs.careful_write.Down.{answered}
use Rattle.change_set.specs.careful_write.State.{StoreState}
use Rattle.change_set.specs.Files.{IsPlaced}
use Rattle.change_set.proofs.Frames.{read_and_given}
use Rattle.seq_file.specs.Records.{record_at}
use Rattle.seq_file.specs.Layout.{records_in, CountsBefore, IsLaidOut, Stands}
use Rattle.seq_file.proofs.file.read_position.Goals as goal

pub read_in_frame-found-requires-clause-placed : goal.read_in_frame-found-requires-clause-placed
read_in_frame-found-requires-clause-placed g c = subst (λ (s : StoreState). IsPlaced c.args.head.now s.disk) (sym c.take_frame-frame.ensures.state) c.requires.placed

pub returns-clause-state : goal.returns-clause-state
returns-clause-state g c =
    read_and_given c.take_frame-frame.result c.args.store.now _ _ _ (answered c.read_in_frame-found.result) _ c.take_frame-frame.ensures.free c.take_frame-frame.ensures.state c.read_in_frame-found.ensures.state refl c.give_frame.ensures

pub returns-clause-found : goal.returns-clause-found
returns-clause-found g c =
    subst (λ (told : Option (List (List ℕ))). IfOk c.read_in_frame-found.result (λ found. found ≡ true → IfSome told (λ (b : List (List ℕ)). IsLaidOut c.args.head.now b → record_at (records_in c.args.head.now b) c.args.n ≡ Some c.read_in_frame-found.new.out)))
    (ap (λ (s : StoreState). s.current) c.take_frame-frame.ensures.state) c.read_in_frame-found.ensures.found

pub returns-clause-absent : goal.returns-clause-absent
returns-clause-absent g c =
    subst (λ (told : Option (List (List ℕ))). IfOk c.read_in_frame-found.result (λ found. found ≡ false → IfSome told (λ (b : List (List ℕ)). IsLaidOut c.args.head.now b → ⊥)))
    (ap (λ (s : StoreState). s.current) c.take_frame-frame.ensures.state) c.read_in_frame-found.ensures.absent

pub returns-clause-stands : goal.returns-clause-stands
returns-clause-stands g c =
    subst (λ (told : Option (List (List ℕ))). IfOk c.read_in_frame-found.result (λ found. found ≡ true → IfSome told (Stands c.args.head.now c.read_in_frame-found.new.out)))
    (ap (λ (s : StoreState). s.current) c.take_frame-frame.ensures.state) c.read_in_frame-found.ensures.stands

pub read_in_frame-found-requires-clause-before : goal.read_in_frame-found-requires-clause-before
read_in_frame-found-requires-clause-before g c =
    subst (λ (told : Option (List (List ℕ))). IfSome told (λ (b : List (List ℕ)). IsLaidOut c.args.head.now b → CountsBefore c.args.head.now b c.args.place.now))
    (sym (ap (λ (s : StoreState). s.current) c.take_frame-frame.ensures.state)) c.requires.before

pub returns-clause-before : goal.returns-clause-before
returns-clause-before g c =
    subst (λ (told : Option (List (List ℕ))). IfOk c.read_in_frame-found.result (λ found. IfSome told (λ (b : List (List ℕ)). IsLaidOut c.args.head.now b → CountsBefore c.args.head.now b c.read_in_frame-found.new.place)))
    (ap (λ (s : StoreState). s.current) c.take_frame-frame.ensures.state) c.read_in_frame-found.ensures.before

pub returns-clause-reads : goal.returns-clause-reads
returns-clause-reads g c =
    let taken = ap (λ (s : StoreState). s.reads) c.take_frame-frame.ensures.state in
    let given = ap (λ (s : StoreState). s.reads) c.give_frame.ensures in omega (arith, taken, given, c.read_in_frame-found.ensures.reads)
