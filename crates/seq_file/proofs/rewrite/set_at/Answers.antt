use Rattle.std.proofs.Common.{ℕ, List, Option, IfOk, IfSome, ap, sym, subst}
use Rattle.std.specs.Option.{option_copied}
use Rattle.seq_file.specs.Records.{list_set}
use Rattle.seq_file.specs.Layout.{TakesAt}
use Rattle.seq_file.specs.Frames.{page_in, Leads}
use Rattle.seq_file.proofs.RewriteLaws.{last_leads}
use Rattle.seq_file.proofs.rewrite.set_at.Goals as goal

pub returns-else-n-head-2-clause-leads : goal.returns-else-n-head-2-clause-leads
returns-else-n-head-2-clause-leads g c =
    let h = c.args.head.now in
    let page = page_in h c.cut_off.new.store c.args.frame.now in
    subst (λ (v : Option (List ℕ)). IfOk c.cut_off.result (λ found. IfSome found (λ w. IfSome c.args.store.now.current (Leads h w page (TakesAt h c.args.n v) (list_set c.args.n v)))))
    (sym (ap option_copied c.in-None.is)) (last_leads c.cut_off.result c.args.store.now.current h c.args.n page c.cut_off.ensures.leads)
