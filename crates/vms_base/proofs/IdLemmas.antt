-- What the 16 bytes of an id are read as.
use Rattle.std.proofs.Common.{◌≡◌, ◌^◌, ℕ, ◌-◌, ◌<◌, ◌≤◌, List, [], ◌∷◌, ◌++◌, true, false, refl, ap, sym, ◌∙◌, length, take, drop, arith, append_assoc, length-append, Some, None, replicate, suc}
use Rattle.std.specs.Prelude.{◌==◌, ◌&&◌, nat_le}
use Rattle.std.specs.List.{list_all}
use Rattle.std.specs.Int.{to_le_bytes, w32}
use Rattle.std.proofs.lemmas.List.{length-replicate}
use Rattle.std.proofs.Math.Seq.{drop-append_seam}
use Rattle.byteorder.specs.Endian.{little_number}
use Rattle.byteorder.specs.Numbers.{little_number-reads_back}
use Rattle.vms_model.specs.Names.{in_name, is_name, node_named, upper, begins_with_letter}
use Rattle.vms_model.specs.Ids.{Id}
use Rattle.vms_model.specs.Ids.{IsId, padded, id_bytes}
use Rattle.vms_base.specs.Ids.{until_zero}
use Rattle.vms_base.proofs.NameLemmas.{both, chosen}

not_zero : (x : ℕ) → in_name [] x ≡ true → (x == 0) ≡ false
not_zero x h = grind arith

until_front : (xs ys : List ℕ) → list_all (in_name []) xs ≡ true → until_zero (xs ++ 0 ∷ ys) ≡ xs
until_front [] ys h = refl
until_front (x ∷ xs) ys h = let b = both (in_name [] x) (list_all (in_name []) xs) h in rw (not_zero x b.0) (ap (λ t. x ∷ t) (until_front xs ys b.1))

le_six : (n : ℕ) → nat_le n 6 ≡ true → n ≤ 6
le_six n h = grind arith

-- a name has at most six bytes, which are letters and digits
name_is : (node : List ℕ) → node_named node ≡ Some node → (list_all (in_name []) node ≡ true) × (length node ≤ 6)
name_is node h =
    let c = chosen (is_name 6 [] node) (upper node) node h in
    let b = both (begins_with_letter node && list_all (in_name []) node) (nat_le (length node) 6) c.0 in
    ((both (begins_with_letter node) (list_all (in_name []) node) b.0).1, le_six (length node) b.1)

zeros_more : (n : ℕ) → n ≤ 6 → replicate {A = ℕ} (8 - n) 0 ≡ 0 ∷ replicate {A = ℕ} (7 - n) 0
zeros_more n h = let e : 8 - n ≡ suc (7 - n) = omega arith in rw e refl

padded_long : (node : List ℕ) → length node ≤ 6 → length (padded 8 node) ≡ 8
padded_long node h = simp (length-append, length-replicate) (omega arith)

padded_first : (node rest : List ℕ) → length node ≤ 6 → padded 8 node ++ rest ≡ node ++ (0 ∷ (replicate {A = ℕ} (7 - length node) 0 ++ rest))
padded_first node rest h = append_assoc node (replicate {A = ℕ} (8 - length node) 0) rest ∙ ap (λ z. node ++ (z ++ rest)) (zeros_more (length node) h)

pub node_read : (id : Id) (bytes : List ℕ) → IsId id → id_bytes id ≡ bytes → until_zero bytes ≡ id.node
node_read id bytes h e =
    let n = name_is id.node h.node in
    sym (ap until_zero e) ∙ ap until_zero (padded_first id.node (to_le_bytes w32 id.boot ++ to_le_bytes w32 id.seq) n.1) ∙ until_front id.node _ n.0

pub rest_read : (id : Id) (bytes : List ℕ) → IsId id → id_bytes id ≡ bytes → drop 8 bytes ≡ to_le_bytes w32 id.boot ++ to_le_bytes w32 id.seq
rest_read id bytes h e =
    let n = name_is id.node h.node in
    sym (ap (λ b. drop 8 b) e) ∙ ap (λ k. drop k (id_bytes id)) (sym (padded_long id.node n.1)) ∙ drop-append_seam (padded 8 id.node) (to_le_bytes w32 id.boot ++ to_le_bytes w32 id.seq)

-- the number in the first four bytes, and in the next
boot_of : (rest : List ℕ) (boot seq n : ℕ) → boot < 2 ^ 32 → rest ≡ to_le_bytes w32 boot ++ to_le_bytes w32 seq → n ≡ little_number 4 rest → n ≡ boot
boot_of rest boot seq n h e f = f ∙ ap (little_number 4) e ∙ little_number-reads_back 4 boot (to_le_bytes w32 seq) h

seq_of : (rest : List ℕ) (boot seq n : ℕ) → seq < 2 ^ 32 → rest ≡ to_le_bytes w32 boot ++ to_le_bytes w32 seq → n ≡ little_number 4 (take (length rest - 4) (drop 4 rest)) → n ≡ seq
seq_of rest boot seq n h e f = f ∙ ap (λ r. little_number 4 (take (length r - 4) (drop 4 r))) e ∙ little_number-reads_back 4 seq [] h

some_same : (xs ys : List ℕ) → Some xs ≡ Some ys → xs ≡ ys
some_same xs ys h = cc

-- what is read of an id's bytes has these bytes
pub read_again : (id : Id) (bytes node rest : List ℕ) (boot seq : ℕ) → IsId id → id_bytes id ≡ bytes → Some node ≡ node_named (until_zero bytes) → rest ≡ drop 8 bytes
    → boot ≡ little_number 4 rest → seq ≡ little_number 4 (take (length rest - 4) (drop 4 rest))
    → id_bytes (record { node = node; boot = boot; seq = seq }) ≡ bytes
read_again id bytes node rest boot seq h e n r b s =
    let back = r ∙ rest_read id bytes h e in
    let same : node ≡ id.node = some_same node id.node (n ∙ ap node_named (node_read id bytes h e) ∙ h.node) in
    rw (same, boot_of rest id.boot id.seq boot h.boot back b, seq_of rest id.boot id.seq seq h.seq back s) e

-- and a name
pub not_nameless : (id : Id) (bytes : List ℕ) → IsId id → id_bytes id ≡ bytes → node_named (until_zero bytes) ≡ None → ⊥
not_nameless id bytes h e n = let k : Some id.node ≡ None = sym (ap node_named (node_read id bytes h e) ∙ h.node) ∙ n in cc

same_parts : (a b : Id) → a.node ≡ b.node → a.boot ≡ b.boot → a.seq ≡ b.seq → a ≡ b
same_parts a b n t s = ap (λ (x : List ℕ). record { node = x; boot = a.boot; seq = a.seq }) n ∙ ap (λ (x : ℕ). record { node = b.node; boot = x; seq = a.seq }) t ∙ ap (λ (x : ℕ). record { node = b.node; boot = b.boot; seq = x }) s

-- two ids with the same bytes are one
pub id_bytes-injective : (a b : Id) → IsId a → IsId b → id_bytes a ≡ id_bytes b → a ≡ b
id_bytes-injective a b h k e =
    let rests = sym (rest_read a (id_bytes b) h e) ∙ rest_read b (id_bytes b) k refl in
    same_parts a b
    (sym (node_read a (id_bytes b) h e) ∙ node_read b (id_bytes b) k refl)
    (sym (boot_of _ a.boot a.seq _ h.boot refl refl) ∙ boot_of _ b.boot b.seq _ k.boot rests refl)
    (sym (seq_of _ a.boot a.seq _ h.seq refl refl) ∙ seq_of _ b.boot b.seq _ k.seq rests refl)

some_id : (a b : Id) → Some a ≡ Some b → a ≡ b
some_id a b h = cc

-- an id with these bytes is the only one
pub only_id : (found : Id) (bytes : List ℕ) → IsId found → id_bytes found ≡ bytes → (id : Id) → (Some found ≡ Some id → IsId id × (id_bytes id ≡ bytes)) × (IsId id × (id_bytes id ≡ bytes) → Some found ≡ Some id)
only_id found bytes h e id = ((λ s. rw (← some_id found id s) (h, e)), (λ k. ap Some (id_bytes-injective found id h k.0 (e ∙ sym k.1))))
