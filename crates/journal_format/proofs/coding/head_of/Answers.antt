use Rattle.std.proofs.Common.{◌∙◌, sym, ap, arith, List, ℕ, get_or, length}
use Rattle.journal_model.specs.Entries.{has_image}
use Rattle.journal_format.specs.Fronts.{read_entry}
use Rattle.journal_format.specs.Heads.{flag_of, outcome_said}
use Rattle.journal_format.proofs.FormLaws.{id_from_8, id_from_24, id_of}
use Rattle.journal_format.proofs.Decoding.{Limits, limits, flag_is, kind_low, kind_high, image_length}
use Rattle.journal_format.proofs.coding.head_of.Goals as goal

pub returns-clause-head : goal.returns-clause-head
returns-clause-head c = λ image is.
    let bytes : List ℕ = c.args.bytes.now in
    let l = limits bytes c.requires.begun c.requires.long (λ i. omega (arith, c.type_inv.bytes i)) in
    let flag = ap (λ b. flag_of c.kind_of.result b c.outcome_of.result) c.has_image.ensures ∙ ap (flag_of c.kind_of.result (has_image (get_or bytes 0 0) (get_or bytes 1 0))) c.outcome_of.ensures ∙ flag_is c.kind_of.result _ _ c.kind_of.ensures l.flag in
    λ k. record { kind = c.kind_of.ensures k; flag = flag k; file = (read_entry bytes).file; tid = c.id_at.ensures k; serial = c.id_at-2.ensures k; moment = c.moment_at.ensures k; key = c.key_at.ensures k; image = is k }

pub returns-clause-plain : goal.returns-clause-plain
returns-clause-plain c = λ image is.
    let e = returns-clause-head c image is in
    record {
      image_len = c.size_at.ensures ∙ sym (ap length is ∙ image_length c.args.bytes.now c.requires.whole);
      present = c.has_image.ensures ∙ sym (ap (λ x. has_image x.kind x.flag) e);
      outcome = c.outcome_of.ensures ∙ sym (ap (λ x. outcome_said x.kind x.flag) e);
    }

pub kind_of-requires : goal.kind_of-requires
kind_of-requires c =
    let l : Limits c.args.bytes.now = limits c.args.bytes.now c.requires.begun c.requires.long (λ i. omega (arith, c.type_inv.bytes i)) in
    record { low = kind_low _ l.kind; high = kind_high _ l.kind }

pub key_at-requires : goal.key_at-requires
key_at-requires c =
    let l : Limits c.args.bytes.now = limits c.args.bytes.now c.requires.begun c.requires.long (λ i. omega (arith, c.type_inv.bytes i)) in
    record { short = l.key; within = omega arith }

pub id_at-requires : goal.id_at-requires
id_at-requires c = let long = c.requires.long in record { within = omega arith; form = id_of 8 48 id_from_8 c.args.bytes.now (omega arith) (omega arith) c.requires.begun }

pub id_at-requires-2 : goal.id_at-requires-2
id_at-requires-2 c = let long = c.requires.long in record { within = omega arith; form = id_of 24 48 id_from_24 c.args.bytes.now (omega arith) (omega arith) c.requires.begun }
