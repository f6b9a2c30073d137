use Rattle.std.proofs.Common.{◌-◌, ◌*◌, ℕ, map, take, drop, length, nat_lt, List, subst}
use Rattle.bucket_page.specs.Pages.{Packs}
use Rattle.load_pages.specs.load_laws.Pages.{Slots}
use Rattle.load_pages.specs.load_laws.Chains.{next_for}
use Rattle.load_pages.specs.Given.{raw_of}
use Rattle.file_loads.proofs.chain.write_bucket.Goals as goal

pub returns-clause-to : goal.returns-clause-to
returns-clause-to g c = (c.fill_bucket-end.ensures.not_before, c.fill_bucket-end.ensures.to, c.fill_bucket-end.ensures.more)

pub returns-clause-filled : goal.returns-clause-filled
returns-clause-filled g c = c.fill_bucket-end.ensures.filled

pub returns-clause-adds : goal.returns-clause-adds
returns-clause-adds g c =
    let h = c.args.head.now in
    let kind = c.args.kind in
    let end = c.fill_bucket-end.result in
    let slots = take (end - c.args.from) (drop c.args.from (map (raw_of kind) c.args.records.now)) in
    let next = next_for kind (nat_lt end (length c.args.records.now)) c.args.n in
    c.in_ok-put_bucket.ensures.adds (Slots kind slots next)
    (subst (λ n. Packs kind (512 * h.bucket) slots n (take (512 * h.bucket) c.link_front.new.frame)) c.next_bucket.ensures
    (subst (λ (ss : List (List ℕ)). Packs kind (512 * h.bucket) ss c.next_bucket.result (take (512 * h.bucket) c.link_front.new.frame)) c.fill_bucket-end.ensures.packs.slots_are c.link_front.ensures.packed))
