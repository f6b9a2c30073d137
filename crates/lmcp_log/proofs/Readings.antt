-- What is read is written again and compared.
use Rattle.std.proofs.Common.{◌≡◌, ◌↔◌, ap, sym, Some, None, Option, option_map, subst, ◌∙◌}

pub same_some : {H : Type 0} (a b : H) → Some a ≡ Some b → a ≡ b
same_some a b h = cc

-- where what was found holds, it is the only one that is read
pub only_one : {C H : Type 0} (f : C → H) (P : H → Type 0) (found : C) → P (f found) → ((h : H) → P h → option_map f (Some found) ≡ Some h) → (h : H) → (option_map f (Some found) ≡ Some h) ↔ P h
only_one f P found holds one h = ((λ e. subst P (same_some (f found) h e) holds), (λ p. one h p))

-- where it does not hold, there is none
pub none_holds : {C H : Type 0} (f : C → H) (P : H → Type 0) (found : C) → (P (f found) → ⊥) → ((h : H) → P h → option_map f (Some found) ≡ Some h) → (h : H) → (◌≡◌ {A = Option H} None (Some h)) ↔ P h
none_holds f P found fails one h = ((λ e. cc), (λ p. absurd (fails (subst P (sym (same_some (f found) h (one h p))) p))))

-- where nothing is found there is none
pub none_found : {H : Type 0} (P : H → Type 0) → ((h : H) → P h → ◌≡◌ {A = Option H} None (Some h)) → (h : H) → (◌≡◌ {A = Option H} None (Some h)) ↔ P h
none_found P one h = ((λ e. cc), one h)

-- none is not some, and some is that one
pub no_such : {C H : Type 0} (f : C → H) (o : Option C) (h : H) → o ≡ None → option_map f o ≡ Some h → ⊥
no_such f o h none e = let z : None ≡ Some h = ap (option_map f) (sym none) ∙ e in cc

pub some_is : {C H : Type 0} (f : C → H) (o : Option C) (c : C) (h : H) → o ≡ Some c → option_map f o ≡ Some h → f c ≡ h
some_is f o c h some e = same_some (f c) h (ap (option_map f) (sym some) ∙ e)
