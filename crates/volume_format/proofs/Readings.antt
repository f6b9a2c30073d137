-- What is read is written again and compared.
use Rattle.std.proofs.Common.{◌≡◌, ◌↔◌, ap, sym, Some, None, Option, subst}
use Rattle.std.specs.Option.{option_map}
use Rattle.file_base.specs.vms_model.Ids as model
use Rattle.file_base.specs.vms_base.Ids.{id_of}
use Rattle.file_base.specs.vms_base.declared.ids.Id.{Id}

pub same_some : {H : Type 0} (a b : H) → Some a ≡ Some b → a ≡ b
same_some a b h = cc

-- where what was found holds, it is the only one that is read
pub only_one : {H : Type 0} (P : H → Type 0) (found : H) → P found → ((h : H) → P h → Some found ≡ Some h) → (h : H) → (Some found ≡ Some h) ↔ P h
only_one P found holds one h = ((λ e. subst P (same_some found h e) holds), (λ p. one h p))

-- where it does not hold, there is none
pub none_holds : {H : Type 0} (P : H → Type 0) (found : H) → (P found → ⊥) → ((h : H) → P h → Some found ≡ Some h) → (h : H) → (◌≡◌ {A = Option H} None (Some h)) ↔ P h
none_holds P found fails one h = ((λ e. cc), (λ p. absurd (fails (subst P (sym (same_some found h (one h p))) p))))

again : model.Id → Id
again i = record { node = i.node; boot = i.boot; seq = i.seq }

-- an id is told by its parts
pub same_id : (found : Option Id) (id : Id) → option_map id_of found ≡ Some (id_of id) → found ≡ Some id
unfolding again
same_id None id h = cc
same_id (Some f) id h = ap (λ i. Some (again i)) (same_some (id_of f) (id_of id) h)
