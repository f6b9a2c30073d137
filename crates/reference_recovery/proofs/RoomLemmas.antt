-- Which ring of a file's journals of images is full.
use Rattle.std.proofs.Common.{◌≡◌, ◌<◌, ◌≤◌, ◌+◌, ℕ, suc, List, [], ◌∷◌, Bool, true, false, Some, None, refl, ap, sym, ◌∙◌, arith, length, get_or}
use Rattle.std.specs.Prelude.{option_map, map, if◌then◌else◌}
use Rattle.vms_model.specs.Ids.{Id}
use Rattle.records_model.specs.Records.{Change}
use Rattle.reference_index.specs.recovery_model.Images.{afters, befores}
use Rattle.reference_index.specs.recovery_model.Journal.{Entry}
use Rattle.reference_index.specs.recovery_model.Room.{Full, AftersFull, BeforesFull, free_in, full_of, has_entry, is_short, need_in, unsettled_in}
use Rattle.reference_index.specs.run_model.World.{File, state_of}
use Rattle.reference_index.specs.run_model.Operations.{first_of, refused_if}
use Rattle.reference_index.specs.run_model.Answers.{full_line, images_full}
use Rattle.reference_index.specs.declared.changes.Change.{Change as Kept}
use Rattle.reference_index.specs.Standing.{changes_of}
use Rattle.reference_index.proofs.ListLemmas.{behind_first, parts}
use Rattle.reference_world.specs.declared.world.LiveChanges.{LiveChanges}
use Rattle.reference_world.specs.declared.world.Side.TheVariants as side
use Rattle.reference_world.specs.Standing.{live_of}
use Rattle.reference_recovery.specs.Rooms.{after_line, before_line, first_line, images_at}

are_afters : (cs : List Change) → images_at side.After cs ≡ afters cs
are_afters [] = refl
are_afters (c ∷ cs) = ap (λ is. (c.key, c.after) ∷ is) (are_afters cs)

are_befores : (cs : List Change) → images_at side.Before cs ≡ befores cs
are_befores [] = refl
are_befores (c ∷ cs) = ap (λ is. (c.key, c.before) ∷ is) (are_befores cs)

either : (a b : Bool) (x y : Full) → first_of (refused_if a (full_line x)) (refused_if b (full_line y)) ≡ option_map full_line (if a then Some x else (if b then Some y else None))
either true b x y = refl
either false true x y = refl
either false false x y = refl

full_is : (serial : Id) (cs : List Change) (f : File) → first_line serial cs f ≡ option_map full_line (full_of serial cs (state_of f))
full_is serial cs f = (λ i. first_of (after_line serial (are_afters cs i) f) (before_line serial (are_befores cs i) f))
    ∙ either (is_short serial (afters cs) f.carried.after f.history.live) (is_short serial (befores cs) f.carried.before f.history.live)
    (AftersFull (free_in f.carried.after f.history.live) (need_in serial (afters cs) f.carried.after))
    (BeforesFull (free_in f.carried.before f.history.live) (need_in serial (befores cs) f.carried.before))

-- no change is refused
pub no_change : (serial : Id) (cs : List Kept) (f : File) → length cs < 1 → None ≡ images_full serial (changes_of cs) f
no_change serial [] f none = refl
no_change serial (c ∷ cs) f none = absurd (omega arith)

-- and changes are by the first ring that is full
pub some_change : (serial : Id) (cs : List Kept) (f : File) → 1 ≤ length cs → first_line serial (changes_of cs) f ≡ images_full serial (changes_of cs) f
some_change serial [] f some = absurd (omega arith)
some_change serial (c ∷ cs) f some = full_is serial (changes_of (c ∷ cs)) f

-- the first of some unsettled branches has an entry
pub one_unsettled : (es : List Entry) (xs : List LiveChanges) (x : LiveChanges) (n : ℕ) → 1 ≤ length xs → x ≡ get_or xs 0 x → has_entry (live_of x).serial es ≡ true →
    n ≡ unsettled_in es (map live_of (behind_first xs)) → n + 1 ≡ unsettled_in es (map live_of xs)
one_unsettled es xs x n some is has behind =
    let rest = unsettled_in es (map live_of (behind_first xs)) in
    let more : n + 1 ≡ suc n = omega arith in
    more ∙ ap suc behind ∙ sym (ap (λ h. if h then suc rest else rest) has) ∙ ap (λ ys. unsettled_in es (map live_of ys)) (sym (parts xs x some is))

-- or none
pub none_unsettled : (es : List Entry) (xs : List LiveChanges) (x : LiveChanges) → 1 ≤ length xs → x ≡ get_or xs 0 x → has_entry (live_of x).serial es ≡ false →
    unsettled_in es (map live_of (behind_first xs)) ≡ unsettled_in es (map live_of xs)
none_unsettled es xs x some is none =
    let rest = unsettled_in es (map live_of (behind_first xs)) in
    sym (ap (λ h. if h then suc rest else rest) none) ∙ ap (λ ys. unsettled_in es (map live_of ys)) (sym (parts xs x some is))
