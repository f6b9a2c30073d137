use Rattle.std.proofs.Common.{◌≡◌, ◌≤◌, ◌<◌, ◌+◌, ◌++◌, ◌∷◌, ℕ, List, [], Option, Some, length, option_to_list, ◌∙◌, ap, arith}
use Rattle.day_tally.proofs.counts.Counts.note.Goals as goal

-- there is room for one count more
roomy : (o : Option ℕ) (n : ℕ) (items now counts : List ℕ) → o ≡ Some n → option_to_list o ≡ counts → length now + length counts ≤ 6 → items ≡ now → length items < 6
roomy o n items now counts e f h same = let one = rw e at f in omega (arith, ap length one, ap length same)

pub push-requires : goal.push-requires
push-requires c = (omega arith, roomy c.count_of.result _ c.self.inside.items.items c.args.self.now _ c.in-Some.is (c.count_of.ensures 0 0) (c.requires 0 0) c.self.view_is)

pub returns-in-Some : goal.returns-in-Some
returns-in-Some c = λ number key. rw (← c.count_of.ensures number key, c.in-Some.is) (c.push.ensures.items ∙ ap (λ (k : List ℕ). k ++ (c.in-Some.n ∷ [])) c.self.view_is)
