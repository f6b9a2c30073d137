use Rattle.std.proofs.Common.{◌∙◌}
use Rattle.std.proofs.lemmas.List.{take-replicate}
use Rattle.load_pages.proofs.lowest.least.Goals as goal

pub returns : goal.returns
returns c = c.key_text.ensures ∙ take-replicate c.args.head.now.key_size 64 0 c.requires.keys.short
