use Rattle.std.proofs.Common.{◌≡◌, ℕ, Result, Ok, Err, OnOk, OnErr, Option, List, sym, ap, subst, ◌∙◌, arith}
use Rattle.change_set.specs.careful_write.State.{StoreState, IsEither, content}
use Rattle.change_set.specs.careful_write.Content.{content_of}
use Rattle.change_set.specs.Buckets.{frame_of}
use Rattle.change_set.proofs.Extents.{either_out}
use Rattle.seq_file.proofs.MakeLaws.{staged_first, made, outside}
use Rattle.seq_file.proofs.make.make_file.Goals as goal

on_ok_then : {T E A B : Type 0} (r : Result T E) → (A → B) → OnOk r A → OnOk r B
on_ok_then (Ok x) f a = f a
on_ok_then (Err e) f a = tt

on_err_then : {T E A B : Type 0} (r : Result T E) → (A → B) → OnErr r A → OnErr r B
on_err_then (Ok x) f a = tt
on_err_then (Err e) f a = f a

pub returns-clause-made : goal.returns-clause-made
returns-clause-made g c =
    let h = c.args.head.now in
    let s0 = c.args.store.now in
    let bytes = frame_of c.clear_page.new.store.pool c.take_frame-frame.result in
    let end = staged_first h c.take_frame-frame.result s0 _ _ _ c.give_frame.new.store c.requires.placed.from c.take_frame-frame.ensures.free c.take_frame-frame.ensures.state c.clear_page.ensures.state c.stage_bucket.ensures c.give_frame.ensures in
    on_ok_then c.apply.result (λ (same : c.apply.new.self.current ≡ c.give_frame.new.store.current).
    made h s0.disk.size s0.current c.apply.new.self.current bytes c.requires.fresh (omega (arith, c.requires.form.one, c.requires.form.used)) c.requires.placed.from c.requires.placed.to c.take_frame-frame.ensures.whole
    (same ∙ ap (λ (s : StoreState). s.current) end) c.clear_page.ensures.page)
    c.apply.ensures.current

pub returns-clause-outside : goal.returns-clause-outside
returns-clause-outside g c =
    let h = c.args.head.now in
    let s0 = c.args.store.now in
    let bytes = frame_of c.clear_page.new.store.pool c.take_frame-frame.result in
    let end = staged_first h c.take_frame-frame.result s0 _ _ _ c.give_frame.new.store c.requires.placed.from c.take_frame-frame.ensures.free c.take_frame-frame.ensures.state c.clear_page.ensures.state c.stage_bucket.ensures c.give_frame.ensures in
    on_ok_then c.apply.result (λ (same : c.apply.new.self.current ≡ c.give_frame.new.store.current).
    outside h s0.current c.apply.new.self.current bytes (omega (arith, c.requires.form.one, c.requires.form.used)) (same ∙ ap (λ (s : StoreState). s.current) end))
    c.apply.ensures.current

pub returns-clause-down : goal.returns-clause-down
returns-clause-down g c =
    let h = c.args.head.now in
    let s0 = c.args.store.now in
    let bytes = frame_of c.clear_page.new.store.pool c.take_frame-frame.result in
    let end = staged_first h c.take_frame-frame.result s0 _ _ _ c.give_frame.new.store c.requires.placed.from c.take_frame-frame.ensures.free c.take_frame-frame.ensures.state c.clear_page.ensures.state c.stage_bucket.ensures c.give_frame.ensures in
    let before : content c.give_frame.new.store ≡ s0.current = ap content end ∙ sym c.requires.idle.current in
    let after = ap (λ (s : StoreState). s.current) end in
    on_err_then c.apply.result (λ leaves. λ image left. (
      (leaves image left).0,
      either_out h 0 bytes s0.current c.give_frame.new.store.current _ (omega (arith, c.requires.form.one, c.requires.form.used)) after
          (subst (λ (o : Option (List (List ℕ))). IsEither o c.give_frame.new.store.current (content_of image)) before (leaves image left).1),
    ))
    c.apply.ensures.err

pub returns-clause-pool : goal.returns-clause-pool
returns-clause-pool g c =
    let h = c.args.head.now in
    let end = staged_first h c.take_frame-frame.result c.args.store.now _ _ _ c.give_frame.new.store c.requires.placed.from c.take_frame-frame.ensures.free c.take_frame-frame.ensures.state c.clear_page.ensures.state c.stage_bucket.ensures c.give_frame.ensures in
    c.apply.ensures.pool ∙ ap (λ (s : StoreState). s.pool) end
