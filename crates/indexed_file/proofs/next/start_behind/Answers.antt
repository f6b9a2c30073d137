use Rattle.std.proofs.Common.{Some, ap, sym, ◌∙◌}
use Rattle.std.specs.Option.{option_copied}
use Rattle.bucket_page.specs.Pages.{slots_of}
use Rattle.indexed_file.specs.Chain.{kind_of}
use Rattle.indexed_file.proofs.NextLaws.{starts_found, starts_missing}
use Rattle.indexed_file.proofs.next.start_behind.Goals as goal

pub returns-then-found : goal.returns-then-found
returns-then-found c =
    starts_found c.args.head.now (option_copied c.args.after) c.bytes.result.now (slots_of (kind_of c.args.head.now) c.args.bytes.now) c.find_place-i.result.0 c.find_place-i.result.1
    (ap option_copied c.in-Some.is ∙ ap Some (sym c.bytes.ensures.value)) c.if-found.true c.requires.bucket.order c.find_place-i.ensures

pub returns-else-found : goal.returns-else-found
returns-else-found c =
    starts_missing c.args.head.now (option_copied c.args.after) c.bytes.result.now (slots_of (kind_of c.args.head.now) c.args.bytes.now) c.find_place-i.result.0 c.find_place-i.result.1
    (ap option_copied c.in-Some.is ∙ ap Some (sym c.bytes.ensures.value)) c.if-found.false c.find_place-i.ensures
