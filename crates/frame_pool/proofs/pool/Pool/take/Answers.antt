use Rattle.std.proofs.Common.{◌≡◌, ◌<◌, ℕ, length, true, false, [], None, Some, sym, ◌∙◌, ap, arith, get_or, set, List, Option, subst}
use Rattle.std.specs.Option.{IfNone}
use Rattle.frame_pool.specs.Pool.{IsOut}
use Rattle.frame_pool.proofs.OutFrames.{length-out_frames, out_frames-take, out_frames_free_at, out_frames_out_at, out_not_free}
use Rattle.frame_pool.proofs.pool.Pool.take.Goals as goal

none_so : {T P : Type 0} (o : Option T) → P → IfNone o P
none_so None p = p
none_so (Some x) p = tt

pub returns-in_err-number-clause-none : goal.returns-in_err-number-clause-none
returns-in_err-number-clause-none c = none_so c.from_residual.result (λ f within.
    let length_is : length c.args.self.now ≡ length c.self.inside.frames.items = ap length (sym c.self.view_is) ∙ length-out_frames _ _ c.self.invariant in
    let inside : f < length c.self.inside.frames.items = omega arith in
    let taken : get_or c.self.inside.out.items f false ≡ true = rw (← c.deref.ensures.value) (c.in_err-number.ensures.none f (rw c.deref.ensures.value (omega arith))) in
    subst (λ (p : List (Option (List ℕ))). IsOut p f) c.self.view_is (out_frames_out_at _ _ f inside c.self.invariant taken))

pub returns-clause-free : goal.returns-clause-free
returns-clause-free c =
    let free : get_or c.self.inside.out.items c.in_ok-number.number false ≡ false = rw (← c.deref.ensures.value) c.in_ok-number.ensures.found.1 in
    (λ i. get_or (sym c.self.view_is i) c.in_ok-number.number None) ∙ out_frames_free_at c.self.inside.out.items c.self.inside.frames.items c.in_ok-number.number free

pub returns-clause-within : goal.returns-clause-within
returns-clause-within c =
    let length_is : length c.args.self.now ≡ length c.self.inside.frames.items = ap length (sym c.self.view_is) ∙ length-out_frames _ _ c.self.invariant in
    let found = c.in_ok-number.ensures.found.0 in
    omega (arith, found, length_is, c.self.invariant, ap length c.deref.ensures.value)

pub returns-clause-taken : goal.returns-clause-taken
returns-clause-taken c = (
  get_or c.self.inside.frames.items c.in_ok-number.number [],
  out_frames-take c.self.inside.out.items c.self.inside.frames.items c.in_ok-number.number [] c.self.invariant ∙ (λ i. set (c.self.view_is i) c.in_ok-number.number (Some (get_or c.self.inside.frames.items c.in_ok-number.number []))),
)

pub returns-clause-distinct : goal.returns-clause-distinct
returns-clause-distinct c = λ other out same. out_not_free c.args.self.now c.in_ok-number.number other same out (returns-clause-free c)
