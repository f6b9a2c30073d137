-- Lists, and lists of ids.
use Rattle.std.proofs.Common.{◌≡◌, List, [], ◌∷◌, ◌++◌, map, true, false, refl, sym, ap, subst, inl, inr}
use Rattle.std.proofs.lemmas.Bool.{and_parts, and_from, eqb-true, eq-eqb, false_from_ne_true, both_ways}
use Rattle.std.proofs.lemmas.Slice.Eq.{bytes_eq-Decides}
use Rattle.vms_model.specs.Ids.{Id}
use Rattle.run_model.specs.records_model.History.{same_id}
use Rattle.run_model.specs.commit_protocol.World.{In}
use Rattle.world_laws.specs.Running.{Each}

pub each_as : {A : Type 0} (P Q : A → Type 0) (xs : List A) → ((x : A) → P x → Q x) → Each P xs → Each Q xs
each_as P Q [] f h = tt
each_as P Q (x ∷ xs) f h = (f x h.0, each_as P Q xs f h.1)

pub each_at : {A : Type 0} (P : A → Type 0) (x : A) (xs : List A) → Each P xs → In x xs → P x
each_at P x [] h i = absurd i
each_at P x (y ∷ xs) h i = elim i [ inl e ↦ subst P (sym e) h.0 | inr more ↦ each_at P x xs h.1 more ]

pub each_push : {A : Type 0} (P : A → Type 0) (x : A) (xs : List A) → Each P xs → P x → Each P (xs ++ x ∷ [])
each_push P x [] h k = (k, tt)
each_push P x (y ∷ xs) h k = (h.0, each_push P x xs h.1 k)

pub each_of_map : {A B : Type 0} (P : A → Type 0) (Q : B → Type 0) (f : A → B) (xs : List A) → ((x : A) → P x → Q (f x)) → Each P xs → Each Q (map f xs)
each_of_map P Q f [] g h = tt
each_of_map P Q f (x ∷ xs) g h = (g x h.0, each_of_map P Q f xs g h.1)

pub in_front : {A : Type 0} (x : A) (xs ys : List A) → In x xs → In x (xs ++ ys)
in_front x [] ys i = absurd i
in_front x (y ∷ xs) ys i = elim i [ inl e ↦ inl e | inr more ↦ inr (in_front x xs ys more) ]

pub in_map : {A B : Type 0} (f : A → B) (x : A) (xs : List A) → In x xs → In (f x) (map f xs)
in_map f x [] i = absurd i
in_map f x (y ∷ xs) i = elim i [ inl e ↦ inl (ap f e) | inr more ↦ inr (in_map f x xs more) ]

-- ids that test as the same are the same, and no others
pub id_is : (a b : Id) → same_id a b ≡ true → a ≡ b
id_is a b h =
    let whole = and_parts _ _ h in
    let parts = and_parts _ _ whole.0 in
    let node = (bytes_eq-Decides a.node b.node).0 parts.0 in
    let boot = eqb-true a.boot b.boot parts.1 in
    let seq = eqb-true a.seq b.seq whole.1 in
    λ i. record { node = node i; boot = boot i; seq = seq i }

pub id_itself : (a : Id) → same_id a a ≡ true
id_itself a = and_from _ _ (and_from _ _ ((bytes_eq-Decides a.node a.node).1 refl) (eq-eqb a.boot a.boot refl)) (eq-eqb a.seq a.seq refl)

pub id_other : (a b : Id) → same_id a b ≡ false → same_id b a ≡ false
id_other a b h = false_from_ne_true _ (λ e. both_ways _ h (subst (λ x. same_id x b ≡ true) (id_is b a e) (id_itself b)))
