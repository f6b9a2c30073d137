-- A day makes both volumes anew, so that nothing need be known of their disks, and the images agree with which its run begins.
use Rattle.std.proofs.Common.{◌≡◌, ◌⊎◌, inl, inr, ℕ, List, [], ◌∷◌, ◌++◌, Bool, true, false, Option, Some, None, map, codes, if◌then◌else◌, refl, sym, ◌∙◌, ap, subst}
use Rattle.std.specs.List.{last_or}
use Rattle.std.specs.Str.{bytes_eq}
use Rattle.transcript_model.specs.Lines.{Line}
use Rattle.script_model.specs.Statements.{At, Boot, Deliver, Init, LinkDown, Reading, Request, Says, Settle, Statement}
use Rattle.script_model.specs.Grammar.{reading}
use Rattle.commit_protocol.specs.Messages.{Name}
use Rattle.commit_protocol.specs.Opening.{Image, IsAgreeing, Opening, new_volumes, no_image}
use Rattle.commit_protocol.proofs.NewVolumes.{new_agree}
use Rattle.world_laws.specs.run_model.World.{Node}
use Rattle.world_laws.specs.run_model.Transcript.{Entry}
use Rattle.statement_steps.specs.run_agreement.Laws.{IsReplaced, Replaces, image_after_init, image_here, image_told, opening_told, volume_image, with_image}
use Rattle.run_laws.specs.Anew.{AreKnownOrAnew, Makes}
use Rattle.day_script.specs.day_model.Readings.{makes_volume}
use Rattle.day_run.specs.Serving.{BothMade, MakesNone}

abbrev A : List ℕ
A = codes "A"

abbrev B : List ℕ
B = codes "B"

-- Both disks are replaced by these entries.
replaces : (node : List ℕ) (e : Entry) → Makes node e → Replaces node e
replaces node e m = record { slots = m.slots; journal = m.journal; says = m.says; answered = inl m.answered }

replaced_both : (es : List Entry) → BothMade es → IsReplaced A es × IsReplaced B es
replaced_both [] h = absurd h
replaced_both (e ∷ []) h = absurd h
replaced_both (e ∷ f ∷ []) h = (inr (inl (replaces A f h.1)), inl (replaces B e h.0))
replaced_both (e ∷ f ∷ g ∷ es) h = let m = replaced_both (f ∷ g ∷ es) h.1 in (inr m.0, inr m.1)

-- The images, as the lines tell them, are those of new volumes.

here_made : (n : Name) (e : Entry) (i : Option Image) → Makes n e → bytes_eq n n ≡ true → image_here n (reading e.source.text) (last_or None e.lines) i ≡ Some no_image
here_made n e i m same =
    ap (λ (r : Reading). image_here n r (last_or None e.lines) i) m.says ∙ ap (λ (b : Bool). if b then image_after_init (last_or None e.lines) i else i) same ∙ ap (λ (a : Option Line). image_after_init a i) m.answered

here_other : (n m : Name) (e : Entry) (i : Option Image) → Makes m e → bytes_eq m n ≡ false → image_here n (reading e.source.text) (last_or None e.lines) i ≡ i
here_other n m e i k differ = ap (λ (r : Reading). image_here n r (last_or None e.lines) i) k.says ∙ ap (λ (b : Bool). if b then image_after_init (last_or None e.lines) i else i) differ

here_none : (n : Name) (e : Entry) (i : Option Image) → MakesNone e → image_here n (reading e.source.text) (last_or None e.lines) i ≡ i
here_none n e i h = ap (λ (r : Reading). image_here n r (last_or None e.lines) i) h.1 ∙ by h.0 h.2
  where
    request : (m : Name) (r : Request) → makes_volume (At m r) ≡ false → image_here n (Says (At m r)) (last_or None e.lines) i ≡ i
    request m (Init slots journal) plain = let never : ⊥ = cc in absurd never
    request m _ plain = refl

    by : (x : Statement) → makes_volume x ≡ false → image_here n (Says x) (last_or None e.lines) i ≡ i
    by (At m r) plain = request m r plain
    by (Deliver number) plain = refl
    by (LinkDown a b) plain = refl
    by Settle plain = refl

told_new : (es : List Entry) (first second : Option Image) → BothMade es → (image_told A first es ≡ Some no_image) × (image_told B second es ≡ Some no_image)
told_new [] first second h = absurd h
told_new (e ∷ []) first second h = absurd h
told_new (e ∷ f ∷ []) first second h =
    (here_other A B e (image_here A (reading f.source.text) (last_or None f.lines) first) h.0 refl ∙ here_made A f first h.1 refl, here_made B e (image_here B (reading f.source.text) (last_or None f.lines) second) h.0 refl)
told_new (e ∷ f ∷ g ∷ es) first second h =
    let m = told_new (f ∷ g ∷ es) first second h.1 in
    (here_none A e (image_told A first (f ∷ g ∷ es)) h.0 ∙ m.0, here_none B e (image_told B second (f ∷ g ∷ es)) h.0 ∙ m.1)

abbrev opening_with : List (Name × Image) → Opening
opening_with is = record { images = is }

-- of two nodes of these names
module _ (n m : Node) (es : List Entry) (h : BothMade es) (first : n.name ≡ A) (second : m.name ≡ B) where
  two_anew : AreKnownOrAnew es (n ∷ m ∷ [])
  two_anew = let r = replaced_both es h in (inr (subst (λ (x : List ℕ). IsReplaced x es) (sym first) r.0), (inr (subst (λ (x : List ℕ). IsReplaced x es) (sym second) r.1), tt))

  told_are : (a b : List ℕ) (i j : Option Image) → a ≡ A → b ≡ B → with_image a (image_told a i es) (with_image b (image_told b j es) []) ≡ (new_volumes (A ∷ (B ∷ []))).images
  told_are a b i j e f =
      (λ k. with_image (e k) (image_told (e k) i es) (with_image (f k) (image_told (f k) j es) []))
      ∙ (λ k. with_image A ((told_new es i j h).0 k) (with_image B ((told_new es i j h).1 k) []))

  two_agree : IsAgreeing (opening_told (n ∷ m ∷ []) es)
  two_agree = subst IsAgreeing (sym (ap opening_with (told_are n.name m.name (volume_image n) (volume_image m) first second))) (new_agree (A ∷ (B ∷ [])))

name_is : (x y : List ℕ) (xs ys : List (List ℕ)) → x ∷ xs ≡ y ∷ ys → x ≡ y
name_is x y xs ys e = cc

names_are : (x y : List ℕ) (xs ys : List (List ℕ)) → x ∷ xs ≡ y ∷ ys → xs ≡ ys
names_are x y xs ys e = cc

no_name : (x : List ℕ) (xs : List (List ℕ)) → [] ≡ x ∷ xs → ⊥
no_name x xs e = let none : ⊥ = cc in none

-- So it is of the nodes of a day.
pub day_agrees : (ns : List Node) (es : List Entry) → BothMade es → map (λ (k : Node). k.name) ns ≡ A ∷ (B ∷ []) → AreKnownOrAnew es ns × IsAgreeing (opening_told ns es)
day_agrees [] es h e = absurd (no_name A (B ∷ []) e)
day_agrees (n ∷ []) es h e = absurd (no_name B [] (names_are n.name A [] (B ∷ []) e))
day_agrees (n ∷ m ∷ []) es h e =
    let first = name_is n.name A (m.name ∷ []) (B ∷ []) e in
    let second = name_is m.name B [] [] (names_are n.name A (m.name ∷ []) (B ∷ []) e) in
    (two_anew n m es h first second, two_agree n m es h first second)
day_agrees (n ∷ m ∷ k ∷ ns) es h e =
    let rest = map (λ (x : Node). x.name) ns in
    absurd (no_name k.name rest (sym (names_are m.name B (k.name ∷ rest) [] (names_are n.name A (m.name ∷ (k.name ∷ rest)) (B ∷ []) e))))
