-- Slots stay whole: each has its record's block, or zeros.
use Rattle.std.specs.Prelude.{IfSome, option_map}
use Rattle.std.proofs.Common.{◌≡◌, ◌≢◌, ℕ, ◌+◌, ◌<◌, ◌≤◌, List, [], length, set, replicate, Option, Some, None, inl, inr, ap, sym, subst, ◌∙◌, arith}
use Rattle.std.proofs.lemmas.Bool.{cases_eq}
use Rattle.std.proofs.lemmas.List.{length-set, get_or-set_same, get_or-set_other, length-replicate}
use Rattle.careful_write.specs.State.{StoreState}
use Rattle.volume.specs.Empty.{IsEmptyVolume}
use Rattle.volume_format.specs.declared.home.Home.{Home}
use Rattle.log_laws.specs.commit_protocol.Messages.{LogRecord}
use Rattle.log_laws.specs.Slots.{Slots}
use Rattle.lmcp_log.specs.Log.{slot_at, block_of_slot, block_of, StagesSlot}
use Rattle.lmcp_log.specs.Keeping.{IsWhole, SameSlots}
use Rattle.lmcp_log.proofs.Keepings.{free_at}

whole_set : (ss : Slots) (c : List (List ℕ)) (p : ℕ) (o : Option LogRecord) → IsWhole ss c → p < length ss → 66 + length ss ≤ length c → IsWhole (set ss p o) (set c (66 + p) (block_of o))
whole_set ss c p o w lt fits i below =
    let n = length-set ss p o in
    elim (cases_eq i p) [
      | inl e ↦ (let P : ℕ → Type 0 = λ m. block_of_slot (set c (66 + p) (block_of o)) m ≡ block_of (slot_at (set ss p o) m) in
          subst P (sym e) (get_or-set_same c (66 + p) (block_of o) [] (omega (arith, fits, lt)) ∙ ap block_of (sym (get_or-set_same ss p o None lt))))
      | inr e ↦ get_or-set_other c (66 + p) (66 + i) (block_of o) [] (λ f. e (omega (arith, f)))
          ∙ (w i (omega (arith, n, below)) ∙ ap block_of (sym (get_or-set_other ss p i o None e)))
    ]

told_whole : (told new : Option (List (List ℕ))) (ss ts : Slots) (p : ℕ) (o : Option LogRecord) → new ≡ option_map (λ c. set c (66 + p) (block_of o)) told → ts ≡ set ss p o → p < length ss
    → IfSome told (λ c. 66 + length ss ≤ length c) → IfSome told (IsWhole ss) → IfSome new (IsWhole ts)
told_whole None new ss ts p o is e lt fits w = let P : Option (List (List ℕ)) → Type 0 = λ x. IfSome x (IsWhole ts) in subst P (sym is) tt
told_whole (Some c) new ss ts p o is e lt fits w =
    let P : Option (List (List ℕ)) → Type 0 = λ x. IfSome x (IsWhole ts) in
    let W : Slots → Type 0 = λ x. IsWhole x (set c (66 + p) (block_of o)) in
    subst P (sym is) (subst W (sym e) (whole_set ss c p o w lt fits))

pub staged_whole : (before after : Slots) (old new : StoreState) (entry : Option LogRecord) → StagesSlot before after old new entry → IfSome old.current (λ c. 66 + length before ≤ length c)
    → IfSome old.current (IsWhole before) → IfSome new.current (IsWhole after)
staged_whole before after old new entry s fits w = told_whole old.current new.current before after s.place entry s.current s.slots s.within fits w

pub beside_whole : (ss : Slots) (c d : List (List ℕ)) → IsWhole ss c → SameSlots (length ss) c d → IsWhole ss d
beside_whole ss c d w same i lt = same i lt ∙ w i lt

pub empty_whole : (home : Home) (c : List (List ℕ)) → IsEmptyVolume home c → IsWhole (replicate home.slots None) c
empty_whole home c h i lt =
    let l : length (replicate {A = Option LogRecord} home.slots None) ≡ home.slots = length-replicate {A = Option LogRecord} home.slots None in
    h.zeros (66 + i) (omega arith) (omega (arith, lt, l)) ∙ ap block_of (sym (free_at home.slots i))
