-- What an act of a node's table comes to, by its effect, and what the disk has that goes down in it.
use Rattle.std.proofs.Common.{◌≡◌, ℕ, List, [], ◌∷◌, Option, Some, refl, sym, ◌∙◌, subst, inl, inr}
use Rattle.careful_write.specs.State.{IsIdle, content}
use Rattle.vms_model.specs.Ids.{Id}
use Rattle.vms_model.specs.Transactions.{Outcome, Reason}
use Rattle.volume.specs.declared.catalog.Catalog.{Catalog}
use Rattle.volume.specs.Catalogs.{IsSound, TellsCatalog}
use Rattle.volume.specs.State.{Holds, VolumeState}
use Rattle.rms_units.specs.unit_journal.Groups.{Breaks}
use Rattle.commit_protocol.specs.Effects.{Effect, PrepareEffect, SettleEffect, act_effects, line_effect}
use Rattle.commit_protocol.specs.Messages.{LogRecord, Name}
use Rattle.commit_protocol.specs.Table as table
use Rattle.commit_protocol.specs.Table.{Accepts, Acknowledges, Branch, Ended, Key, Leaves, Line, Notes, Prepares, Prints, Releases, Sends, Settles, Started, Told, Undoes, holding}
use Rattle.recovery_units.specs.run_model.World.{Node, Tables, acted, fallen}
use Rattle.unit_world.proofs.volume_laws.WholeLemmas.{volume_falls}
use Rattle.recovery_units.specs.volume_model.Volumes.{HasDisk, HasVolume, IsLeftBy}
use Rattle.recovery_units.specs.State.{IsKept, UnitsState}
use Rattle.unit_world.proofs.Leaving.{down}
use Rattle.node_units.proofs.Ending.{of_acknowledged, of_released}
use Rattle.node_units.proofs.Falling.{disk_sound, leaves_kept, same_some}

-- Acts by their effects.

pub one_of : (d e : Effect) → ◌≡◌ {A = List Effect} (d ∷ []) (e ∷ []) → d ≡ e
one_of d e is = cc

-- an act settles a branch so
pub record Settling (a : table.Act) (x : Id) (outcome : Outcome) (reason : Reason) (r : Option LogRecord) : Type 0 where
  pub key : Key
  pub is : a ≡ Settles key outcome reason r
  pub serial : key.serial ≡ x

same_settled : (k : Key) (o : Outcome) (why : Reason) (q : Option LogRecord) (x : Id) (outcome : Outcome) (reason : Reason) (r : Option LogRecord) → SettleEffect k.serial o why q ≡ SettleEffect x outcome reason r → Settling (Settles k o why q) x outcome reason r
same_settled k o why q x outcome reason r e = record { key = k; is = λ i. Settles k (same_outcome e i) (same_reason e i) (same_record e i); serial = same_serial e }
  where
    same_outcome : SettleEffect k.serial o why q ≡ SettleEffect x outcome reason r → o ≡ outcome
    same_outcome e = cc

    same_reason : SettleEffect k.serial o why q ≡ SettleEffect x outcome reason r → why ≡ reason
    same_reason e = cc

    same_record : SettleEffect k.serial o why q ≡ SettleEffect x outcome reason r → q ≡ r
    same_record e = cc

    same_serial : SettleEffect k.serial o why q ≡ SettleEffect x outcome reason r → k.serial ≡ x
    same_serial e = cc

settle_line : (l : Line) (x : Id) (outcome : Outcome) (reason : Reason) (r : Option LogRecord) → line_effect l ≡ SettleEffect x outcome reason r → ⊥
settle_line (Started k) x outcome reason r e = cc
settle_line (Ended t why) x outcome reason r e = cc
settle_line (Told d k rm) x outcome reason r e = cc

pub settling : (a : table.Act) (rs : List LogRecord) (x : Id) (outcome : Outcome) (reason : Reason) (r : Option LogRecord) → act_effects a rs ≡ SettleEffect x outcome reason r ∷ [] → Settling a x outcome reason r
settling (Settles k o why q) rs x outcome reason r is = same_settled k o why q x outcome reason r (one_of (SettleEffect k.serial o why q) (SettleEffect x outcome reason r) is)
settling (Notes b) rs x outcome reason r is = let never : ⊥ = cc in absurd never
settling (Accepts b c) rs x outcome reason r is = let never : ⊥ = cc in absurd never
settling (Prepares b) rs x outcome reason r is = let never : ⊥ = cc in absurd never
settling (Leaves k) rs x outcome reason r is = let never : ⊥ = cc in absurd never
settling (Acknowledges k) rs x outcome reason r is = absurd (of_acknowledged k rs (SettleEffect x outcome reason r) is)
settling (Releases y rm) rs x outcome reason r is = absurd (of_released y rm rs (SettleEffect x outcome reason r) is)
settling (Undoes k) rs x outcome reason r is = let never : ⊥ = cc in absurd never
settling (Sends m) rs x outcome reason r is = let never : ⊥ = cc in absurd never
settling (Prints l) rs x outcome reason r is = absurd (settle_line l x outcome reason r (one_of (line_effect l) (SettleEffect x outcome reason r) is))

-- an act prepares a branch, with these managers
pub record Preparing (a : table.Act) (x : Id) (rms : List Name) : Type 0 where
  pub branch : Branch
  pub is : a ≡ Prepares branch
  pub serial : branch.key.serial ≡ x
  pub rms_are : holding branch.managers ≡ rms

same_prepared : (y x : Id) (xs ys : List Name) → PrepareEffect y xs ≡ PrepareEffect x ys → (y ≡ x) × (xs ≡ ys)
same_prepared y x xs ys e = (one e, other e)
  where
    one : PrepareEffect y xs ≡ PrepareEffect x ys → y ≡ x
    one e = cc

    other : PrepareEffect y xs ≡ PrepareEffect x ys → xs ≡ ys
    other e = cc

prepare_line : (l : Line) (x : Id) (rms : List Name) → line_effect l ≡ PrepareEffect x rms → ⊥
prepare_line (Started k) x rms e = cc
prepare_line (Ended t why) x rms e = cc
prepare_line (Told d k rm) x rms e = cc

pub preparing : (a : table.Act) (rs : List LogRecord) (x : Id) (rms : List Name) → act_effects a rs ≡ PrepareEffect x rms ∷ [] → Preparing a x rms
preparing (Prepares b) rs x rms is =
    let same = same_prepared b.key.serial x (holding b.managers) rms (one_of (PrepareEffect b.key.serial (holding b.managers)) (PrepareEffect x rms) is) in
    record { branch = b; is = refl; serial = same.0; rms_are = same.1 }
preparing (Settles k o why q) rs x rms is = let never : ⊥ = cc in absurd never
preparing (Notes b) rs x rms is = let never : ⊥ = cc in absurd never
preparing (Accepts b c) rs x rms is = let never : ⊥ = cc in absurd never
preparing (Leaves k) rs x rms is = let never : ⊥ = cc in absurd never
preparing (Acknowledges k) rs x rms is = absurd (of_acknowledged k rs (PrepareEffect x rms) is)
preparing (Releases y rm) rs x rms is = absurd (of_released y rm rs (PrepareEffect x rms) is)
preparing (Undoes k) rs x rms is = let never : ⊥ = cc in absurd never
preparing (Sends m) rs x rms is = let never : ⊥ = cc in absurd never
preparing (Prints l) rs x rms is = absurd (prepare_line l x rms (one_of (line_effect l) (PrepareEffect x rms) is))

-- Disks.

module _ (s : UnitsState) (v : VolumeState) (n : Node) (a : table.Act) (moment : ℕ) (kept : IsKept s v n) where
  -- an image that has the volume of the node after the act is left by it
  pub left_after : (b : List (List ℕ)) (w : Catalog) → HasVolume b w (acted (Tables a moment) n) → TellsCatalog w b → IsSound v.catalog.home.node v.store.disk.size w → IsLeftBy b (acted (Tables a moment) (fallen (Some (Tables a moment)) n))
  left_after b w has tells sound = record {
    catalog = w;
    tells = tells;
    sound = subst (λ (x : List ℕ). IsSound x n.blocks w) (sym kept.name) (subst (λ (x : ℕ). IsSound v.catalog.home.node x w) (sym kept.blocks) sound);
    leaves = λ whole. down b w (acted (Tables a moment) n) (acted (Tables a moment) (fallen (Some (Tables a moment)) n)) (volume_falls b w (acted (Tables a moment) n) has) refl refl refl;
  }

  -- so it is of each image where the act was perhaps under way
  pub broken : (P : VolumeState → Type 0) (w : VolumeState) → IsSound v.catalog.home.node v.store.disk.size v.catalog → Holds v → IsIdle v.store →
      ((made : VolumeState) (b : List (List ℕ)) → P made → made.store.current ≡ Some b → IsLeftBy b (acted (Tables a moment) (fallen (Some (Tables a moment)) n))) → Breaks P v w → HasDisk (fallen (Some (Tables a moment)) n) w.store.disk
  broken P w sound holds idle of breaks =
      disk_sound (fallen (Some (Tables a moment)) n) w.store.disk kept.has.home.volume (λ image may. elim breaks [
        | inl old ↦ let l = old image may in (l.0, inl (was _ l.1))
        | inr either ↦ let l = either.either image may in (l.0, elim l.1 [ inl e ↦ inl (was _ e) | inr e ↦ inr (inl (Tables a moment, refl, of either.made _ either.is (sym e))) ])
      ])
    where
      was : (x : List (List ℕ)) → Some x ≡ content v.store → IsLeftBy x (fallen (Some (Tables a moment)) n)
      was x e = subst (λ y. IsLeftBy y (fallen (Some (Tables a moment)) n)) (sym (same_some x kept.content (e ∙ sym idle.current ∙ kept.told))) (leaves_kept s v n (Some (Tables a moment)) sound holds kept)
