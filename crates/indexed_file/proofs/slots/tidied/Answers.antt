use Rattle.std.proofs.Common.{take, sym, ◌∙◌, arith}
use Rattle.vms_base.specs.vms_model.Keys.{Text}
use Rattle.bucket_page.specs.Pages.{key_in}
use Rattle.indexed_file.specs.Chain.{kind_of}
use Rattle.indexed_file.proofs.RawLaws.{written_short}
use Rattle.indexed_file.proofs.slots.tidied.Goals as goal

pub returns : goal.returns
returns g c = record {
  slot = written_short c.args.head.now (g.H.Held.held c.args.held.now (Text (key_in (kind_of c.args.head.now) c.args.slot.now))) c.args.slot.now (take c.shorten.result c.shorten.new.out) (omega (arith, c.requires.whole))
      (sym c.holds_key.ensures ∙ c.if-holds_key.false) (λ e. c.if-number_at-eq0.false (c.number_at.ensures ∙ e)) c.shorten.ensures.slot;
  size = c.shorten.ensures.size;
}
