-- A chain in which new buckets follow one of the old ones.
use Rattle.std.proofs.Common.{◌≡◌, ℕ, List, [], ◌∷◌, ◌++◌, refl, sym, ◌∙◌}
use Rattle.file_base.specs.declared.head.FileHead.{FileHead}
use Rattle.indexed_file.specs.Chain.{first_or, Leads}

-- ways along buckets

first_or-append : (a c : List ℕ) (end : ℕ) → first_or (a ++ c) end ≡ first_or a (first_or c end)
first_or-append [] c end = refl
first_or-append (x ∷ xs) c end = refl

pub leads_parts : (h : FileHead) (b : List (List ℕ)) (a c : List ℕ) (end : ℕ) → Leads h b (a ++ c) end → Leads h b a (first_or c end) × Leads h b c end
leads_parts h b [] c end leads = (tt, leads)
leads_parts h b (x ∷ xs) c end leads =
    let rest = leads_parts h b xs c end leads.1 in
    ((leads.0 ∙ first_or-append xs c end, rest.0), rest.1)

pub leads_both : (h : FileHead) (b : List (List ℕ)) (a c : List ℕ) (end : ℕ) → Leads h b a (first_or c end) → Leads h b c end → Leads h b (a ++ c) end
leads_both h b [] c end first second = second
leads_both h b (x ∷ xs) c end first second = (first.0 ∙ sym (first_or-append xs c end), leads_both h b xs c end first.1 second)
