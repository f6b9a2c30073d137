-- What reads and one staged block leave of a store.
use Rattle.std.specs.Prelude.{Result, Ok, Err, OnOk, IsErr}
use Rattle.std.proofs.Common.{◌≡◌, ◌+◌, ◌-◌, refl, sym, subst, ap, ◌∙◌, arith, set, option_map, Option, List, ℕ}
use Rattle.block_disk.specs.Blocks.{with_number}
use Rattle.block_disk.specs.Disk.{DiskState}
use Rattle.careful_write.specs.declared.down.Down.{Down}
use Rattle.careful_write.specs.Down.{answered, Counts}
use Rattle.careful_write.specs.Reads.{SameButReads}
use Rattle.careful_write.specs.State.{StoreState}
use Rattle.lmcp_log.specs.Log.{SameDisk, OnlyRead}

pub same_disk : (s : StoreState) (current : Option (List (List ℕ))) (touched : List ℕ) → (let t : StoreState = record s { current = current; touched = touched } in SameDisk s t)
same_disk s current touched = record { content = refl; images = λ image m. m; size = refl; fits = refl; ready = λ h. record { fitting = h.fitting; settled = h.settled; closed = h.closed }; pool = refl }

pub only_read : {T : Type 0} (r : Result T Down) (s : StoreState) (reads : ℕ) → (let t : StoreState = record s { disk = answered r s.disk; reads = reads } in OnlyRead s t)
only_read r s reads = record {
  disk = record { content = refl; images = λ image m. m; size = refl; fits = refl; ready = λ h. record { fitting = h.fitting; settled = h.settled; closed = h.closed }; pool = refl };
  current = refl;
  touched = refl;
}

pub none_read : (s t : StoreState) → SameButReads s t → OnlyRead s t
none_read s t e = let P : StoreState → Type 0 = λ x. OnlyRead s x in subst P (sym e) (record {
  disk = record { content = refl; images = λ image m. m; size = refl; fits = refl; ready = λ h. record { fitting = h.fitting; settled = h.settled; closed = h.closed }; pool = refl };
  current = refl;
  touched = refl;
})

pub counts_answered : {T : Type 0} (r : Result T Down) (s : DiskState) → Counts r s (answered r s)
counts_answered r s = record { size = refl; calls = refl; faults = refl; stops = refl; told = refl }

pub ok_so : {T E : Type 0} {P : Type 0} (r : Result T E) → OnOk r P → (IsErr r → ⊥) → P
ok_so (Ok x) p n = p
ok_so (Err e) p n = absurd (n refl)

-- the store after the block of a slot was staged
pub record Staged (s t : StoreState) (place : ℕ) (block : List ℕ) : Type 0 where
  pub current : t.current ≡ option_map (λ c. set c (66 + place) block) s.current
  pub touched : t.touched ≡ with_number (584 + place) s.touched
  pub rest : t ≡ record s { current = t.current; touched = t.touched }
  pub disk : SameDisk s t

pub staged : (s t : StoreState) (place : ℕ) (bytes block : List ℕ) → bytes ≡ block → (let u : StoreState = record s { current = option_map (λ c. set c (584 + place - 518) bytes) s.current; touched = with_number (584 + place) s.touched } in t ≡ u) → Staged s t place block
staged s t place bytes block same e =
    let n : 584 + place - 518 ≡ 66 + place = omega arith in
    let P : StoreState → Type 0 = λ x. SameDisk s x in
    record {
      current = ap (λ (x : StoreState). x.current) e ∙ (λ k. option_map (λ c. set c (n k) (same k)) s.current);
      touched = ap (λ (x : StoreState). x.touched) e;
      rest = subst (λ (x : StoreState). x ≡ record s { current = x.current; touched = x.touched }) (sym e) refl;
      disk = subst P (sym e) (same_disk s _ _);
    }
