-- The serials of the records that a restart told.
use Rattle.std.proofs.Common.{◌≡◌, ◌<◌, ◌+◌, ℕ, suc, List, [], ◌∷◌, ◌++◌, map, take, get_or, length, refl, ap, sym, ◌∙◌, arith}
use Rattle.std.proofs.Math.Seq.{take-suc}
use Rattle.std.proofs.lemmas.List.{map_push}
use Rattle.net_wire.specs.commit_protocol.Table.{record_serials}
use Rattle.tm_types.specs.Parts.{log_record_of}
use Rattle.vms_base.specs.Ids.{serial_of}
use Rattle.vms_base.specs.declared.ids.Serial.{Serial}
use Rattle.vms_base.specs.declared.protocol.LogRec.{LogRec}

-- the serials of records
abbrev pub serials_in : List LogRec → List Serial
serials_in xs = map (λ (r : LogRec). r.serial) xs

pub one_more : (xs : List LogRec) (i : ℕ) (x : LogRec) → i < length xs → x ≡ get_or xs i x → serials_in (take (i + 1) xs) ≡ serials_in (take i xs) ++ x.serial ∷ []
one_more xs i x below is =
    let next : i + 1 ≡ suc i = omega arith in
    ap (λ (k : ℕ). serials_in (take k xs)) next ∙ ap serials_in (take-suc xs i x below) ∙ map_push (λ (r : LogRec). r.serial) (take i xs) (get_or xs i x) ∙ ap (λ (y : LogRec). serials_in (take i xs) ++ y.serial ∷ []) (sym is)

pub told_serials : (xs : List LogRec) → map serial_of (serials_in xs) ≡ record_serials (map log_record_of xs)
told_serials [] = refl
told_serials (x ∷ xs) = ap (λ ss. serial_of x.serial ∷ ss) (told_serials xs)
