use Rattle.std.proofs.Common.{sym, ◌∙◌}
use Rattle.volume_format.specs.Head.{organization_number, marks_number}
use Rattle.volume_format.proofs.Heads.{head_parts, same_head}
use Rattle.volume_format.proofs.head.head_at.Goals as goal

pub returns-in_err-name : goal.returns-in_err-name
returns-in_err-name c = λ head is all.
    let p = head_parts head c.args.block.now all in
    let e = sym c.in_err-name.was ∙ c.file_at.ensures head.name is.form.name p.form.1.1.1.1.0 in cc

pub returns-in_err-organization : goal.returns-in_err-organization
returns-in_err-organization c = λ head is all.
    let p = head_parts head c.args.block.now all in
    let e = sym c.in_err-organization.was ∙ c.organization_of.ensures head.organization (c.number_8.ensures (organization_number head.organization) p.form.1.0) in cc

pub returns : goal.returns
returns c = λ head is all.
    let p = head_parts head c.args.block.now all in
    let after_name = p.form.1.1.1.1.1 in
    same_head head _ _ _ _ _ _ _ _ _ _ _ _ _ _ _ _ _ _
    (sym c.in_ok-name.was ∙ c.file_at.ensures head.name is.form.name p.form.1.1.1.1.0)
    (sym c.in_ok-organization.was ∙ c.organization_of.ensures head.organization (c.number_8.ensures (organization_number head.organization) p.form.1.0))
    (c.marks_of.ensures head.marks (c.number_8-2.ensures (marks_number head.marks) p.form.1.1.0))
    (c.number_16.ensures head.bucket is.form.bucket after_name.0)
    (c.number_16-2.ensures head.mrs is.form.mrs after_name.1.0)
    (c.number_32.ensures head.mrn is.form.mrn after_name.1.1.0)
    (c.number_16-3.ensures head.key_pos is.form.key_pos after_name.1.1.1.0)
    (c.number_16-4.ensures head.key_size is.form.key_size after_name.1.1.1.1.0)
    (c.number_32-2.ensures head.start is.extent.start p.extent.0)
    (c.number_32-3.ensures head.alloc is.extent.alloc p.extent.1.0)
    (c.number_32-4.ensures head.used is.extent.used p.extent.1.1.0)
    (c.number_32-5.ensures head.root is.extent.root p.extent.1.1.1.0)
    (c.number_32-6.ensures head.levels is.extent.levels p.extent.1.1.1.1.0)
    (c.number_32-7.ensures head.count is.extent.count p.extent.1.1.1.1.1.0)
    (c.span_at.ensures head.ai is.ai p.ai)
    (c.span_at-2.ensures head.bi is.bi p.bi)
    (c.number_64.ensures.value head.bi_since.0 is.bi_since p.bi_since.0)
    (c.save_at.ensures head.save is.save p.save)
