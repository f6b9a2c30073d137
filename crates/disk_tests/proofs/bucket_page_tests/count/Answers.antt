use Rattle.std.proofs.Common.{◌≡◌, ◌≤◌, ℕ, List, Option, Some, None, IfSome, length, take, sym, ap, ◌∙◌, subst, arith, rules}
use Rattle.std.proofs.lemmas.List.{take_all}
use Rattle.bucket_page.specs.declared.kind.PageKind.{PageKind}
use Rattle.bucket_page.specs.declared.kind.PageKind.TheVariants.{Seq}
use Rattle.bucket_page.specs.Pages.{slots_of, IsPacked, IsBucket}
use Rattle.disk_tests.proofs.bucket_page_tests.count.Goals as goal

packed_in : (o : Option ℕ) (kind : PageKind) (bytes : List ℕ) → length bytes ≡ 512 → IfSome o (λ n. IsBucket kind (length bytes) bytes) → IfSome o (λ n. IsPacked kind 512 (take 512 bytes))
packed_in None kind bytes long is = tt
packed_in (Some n) kind bytes long is =
    subst (IsPacked kind 512) (sym (take_all 512 bytes (omega (arith, long)))) (subst (λ m. IsPacked kind m bytes) long is.packed)

number_in : (o : Option ℕ) (kind : PageKind) (bytes : List ℕ) → length bytes ≡ 512 → IfSome o (λ n. n ≡ length (slots_of kind bytes)) → IfSome o (λ n. n ≡ length (slots_of kind (take 512 bytes)))
number_in None kind bytes long is = tt
number_in (Some n) kind bytes long is = is ∙ ap (λ x. length (slots_of kind x)) (sym (take_all 512 bytes (omega (arith, long))))

pub returns-clause-packed : goal.returns-clause-packed
returns-clause-packed c = packed_in _ Seq c.args.bytes.now (search rules) c.slots.ensures.some

pub returns-clause-number : goal.returns-clause-number
returns-clause-number c = number_in _ Seq c.args.bytes.now (search rules) c.slots.ensures.number
