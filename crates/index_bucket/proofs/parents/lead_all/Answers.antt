use Rattle.std.proofs.Common.{◌+◌, ◌∷◌, [], take, ap, ◌∙◌, List, ℕ}
use Rattle.std.proofs.lemmas.List.{take-replicate}
use Rattle.index_model.specs.Indexes.{Entry}
use Rattle.index_bucket.proofs.ParentLaws.{lead_of}
use Rattle.index_bucket.proofs.parents.lead_all.Goals as goal

pub returns-clause-entry : goal.returns-clause-entry
returns-clause-entry c =
    let h = c.args.head.now in
    lead_of h c.kind.result c.kind-2.result c.args.size (take (h.key_size + 4) c.entry_bytes-entry.result) c.args.root (take c.args.size c.clear_front.new.frame) (take c.args.size c.insert_front.new.frame) c.insert_front.result c.requires.one c.requires.key c.requires.sized c.kind.ensures c.kind-2.ensures c.clear_front.ensures.packed.slots_are c.entry_bytes-entry.ensures.suits c.insert_front.ensures.yes c.insert_front.ensures.full.0
    ∙ ap (λ (e : Entry). e ∷ []) (c.entry_bytes-entry.ensures.is ∙ ap (λ (s : List ℕ). record { separator = s; child = c.args.root }) (take-replicate h.key_size 64 0 c.requires.key))
