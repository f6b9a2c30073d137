use Rattle.std.proofs.Common.{◌∙◌, ap, subst, take, List, ℕ}
use Rattle.bucket_page.specs.Pages.{slots_of, next_of, inserted, Packs}
use Rattle.load_laws.specs.Chains.{raw_for}
use Rattle.load_pages.proofs.FillLemmas.{inserted_last}
use Rattle.load_pages.proofs.slots.push_record.Goals as goal

pub returns-clause-yes : goal.returns-clause-yes
returns-clause-yes c = λ is.
    let slots = slots_of c.args.kind (take c.args.size c.args.bytes.now) in
    subst (λ (ss : List (List ℕ)). Packs c.args.kind c.args.size ss (next_of (take c.args.size c.args.bytes.now)) (take c.args.size c.insert_front.new.frame))
    (ap (inserted slots c.args.count) c.write_slot-long.ensures.slot ∙ inserted_last slots c.args.count (raw_for c.args.kind c.args.value.now) c.requires.counted) (c.insert_front.ensures.yes is)
