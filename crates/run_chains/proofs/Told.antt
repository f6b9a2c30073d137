-- The images with which a run begins, as its lines tell them, node by node.
use Rattle.std.proofs.Common.{◌≡◌, ◌⊎◌, List, [], ◌∷◌, inl, inr, Bool, true, false, Option, Some, None, if◌then◌else◌, refl, ap, ◌∙◌}
use Rattle.std.specs.List.{last_or}
use Rattle.std.specs.Str.{bytes_eq}
use Rattle.world_laws.specs.transcript_model.Lines as line
use Rattle.world_laws.specs.transcript_model.Lines.{Cause, Line}
use Rattle.world_laws.specs.script_model.Statements.{At, Init, Reading, Says}
use Rattle.world_laws.specs.script_model.Grammar.{reading}
use Rattle.commit_protocol.specs.Messages.{Name}
use Rattle.commit_protocol.specs.Opening.{Image, no_image}
use Rattle.world_laws.specs.run_model.Transcript.{Entry}
use Rattle.run_laws.specs.run_agreement.Laws.{IsReplaced, Replaces, image_after_init, image_here, image_told}
use Rattle.run_laws.proofs.run_agreement.Found.{bytes_itself}
use Rattle.run_laws.proofs.run_agreement.Told.{IsQuiet, replaces_or_quiet}
use Rattle.run_chains.specs.Chains.{is_made, made_by, made_here}

-- that of a new volume, where the lines make one, or the one before the first line, or none
abbrev pub IsToldSo : Option Image → Bool → Option Image → Type 0
IsToldSo start made i = ((made ≡ true) × (i ≡ Some no_image)) ⊎ ((made ≡ false) × ((i ≡ start) ⊎ (i ≡ None)))

-- Where entries replace what a disk had, no image is told, or that of a new volume.
pub replaced_told : (name : Name) (start : Option Image) (es : List Entry) → IsReplaced name es → (image_told name start es ≡ None) ⊎ (image_told name start es ≡ Some no_image)
replaced_told name start [] none = absurd none
replaced_told name start (e ∷ es) h = go (replaces_or_quiet name e) h (replaced_told name start es)
  where
    now : Replaces name e → (image_told name start (e ∷ es) ≡ None) ⊎ (image_told name start (e ∷ es) ≡ Some no_image)
    now r = by r.answered
      where
        after : (o : Option Line) → last_or None e.lines ≡ o → image_told name start (e ∷ es) ≡ image_after_init o (image_told name start es)
        after o last = (λ i. image_here name (r.says i) (last i) (image_told name start es)) ∙ ap (λ (b : Bool). if b then image_after_init o (image_told name start es) else image_told name start es) (bytes_itself name name refl)

        by : (last_or None e.lines ≡ Some line.Normal) ⊎ ((cause : Cause) × (last_or None e.lines ≡ Some (line.Broken cause))) → (image_told name start (e ∷ es) ≡ None) ⊎ (image_told name start (e ∷ es) ≡ Some no_image)
        by (inl made) = inr (after (Some line.Normal) made)
        by (inr broken) = inl (after (Some (line.Broken broken.0)) broken.1)

    go : Replaces name e ⊎ IsQuiet name e → Replaces name e ⊎ IsReplaced name es → (IsReplaced name es → (image_told name start es ≡ None) ⊎ (image_told name start es ≡ Some no_image)) → (image_told name start (e ∷ es) ≡ None) ⊎ (image_told name start (e ∷ es) ≡ Some no_image)
    go (inl r) k more = now r
    go (inr quiet) (inl r) more = now r
    go (inr quiet) (inr was) more = elim (more was) [ inl none ↦ inl (quiet (image_told name start es) ∙ none) | inr new ↦ inr (quiet (image_told name start es) ∙ new) ]

pub told_so : (name : Name) (start : Option Image) (es : List Entry) → IsToldSo start (is_made name es) (image_told name start es)
told_so name start [] = inr (refl, inl refl)
told_so name start (e ∷ es) = go (reading e.source.text) (last_or None e.lines) (is_made name es) (image_told name start es) (told_so name start es)
  where
    by_answer : (a : Option Line) (b : Bool) (i : Option Image) → IsToldSo start b i → IsToldSo start (made_by a b) (image_after_init a i)
    by_answer (Some line.Normal) b i h = inl (refl, refl)
    by_answer (Some (line.Broken cause)) b i h = inr (refl, inr refl)
    by_answer (Some _) b i h = h
    by_answer None b i h = h

    go : (r : Reading) (a : Option Line) (b : Bool) (i : Option Image) → IsToldSo start b i → IsToldSo start (made_here name r a b) (image_here name r a i)
    go (Says (At m (Init slots journal))) a b i h = by (bytes_eq m name)
      where
        by : (t : Bool) → IsToldSo start (if t then made_by a b else b) (if t then image_after_init a i else i)
        by true = by_answer a b i h
        by false = h
    go (Says (At m _)) a b i h = h
    go (Says _) a b i h = h
    go _ a b i h = h
