-- What the disk of a node that is down has.
use Rattle.std.proofs.Common.{◌≡◌, inl, ℕ, List, Bool, true, Option, Some, None, IsSomeAnd, sym, subst, ◌∙◌}
use Rattle.block_disk.specs.Blocks.{SameBut}
use Rattle.block_disk.specs.Disk.{DiskState, MayLeave}
use Rattle.careful_write.specs.Content.{content_of}
use Rattle.careful_write.specs.Load.{fitting}
use Rattle.careful_write.specs.State.{IsIdle, Leaves, LeavesAsItWas, StoreState}
use Rattle.careful_write.proofs.GroupParts.{stop_closed}
use Rattle.volume.specs.Conditions.{IsFirstFinding}
use Rattle.world_laws.specs.run_model.World.{Node, Act, Call, Volume, Sound, Faulty, Barred, Unknown, fallen}
use Rattle.recovery_units.specs.volume_model.Volumes.{BarsBoots, FailsFirst, HasBarred, HasDisk, IsEitherOf, IsLeftBy}
use Rattle.dtm_node.specs.Boots.{AllHave, HasContent}
use Rattle.dtm_node.proofs.SameNodes.{same_clocked, same_either, same_fallen, same_left}

abbrev pub Content : Type 0
Content = List (List ℕ)

pub same_some : (x y : Content) → ◌≡◌ {A = Option Content} (Some x) (Some y) → x ≡ y
same_some x y e = cc

-- what a node's disk has, and a content, by its volume
abbrev pub DiskBy : Node → DiskState → Volume → Type 0
DiskBy n d v = elim v [ Sound ↦ Leaves (IsEitherOf n) d | Faulty condition block ↦ FailsFirst n.name condition block d × (n.under_way ≡ None) | Barred bar ↦ BarsBoots n.name n.blocks bar d × (n.under_way ≡ None) | Unknown ↦ Unit {0} ]

abbrev pub ContentBy : Node → Bool → Content → Volume → Type 0
ContentBy n fits c v = elim v [ Sound ↦ (fits ≡ true) × IsLeftBy c n | Faulty condition block ↦ IsFirstFinding n.name fits c condition block | Barred bar ↦ (fits ≡ true) × HasBarred n.name n.blocks bar c | Unknown ↦ ⊥ ]

pub disk_sound : (n : Node) (d : DiskState) → n.durable.volume ≡ Sound → Leaves (IsEitherOf n) d → HasDisk n d
disk_sound n d e l = subst (DiskBy n d) (sym e) l

-- nothing is promised of a disk of which nothing is known
pub disk_unknown : (n : Node) (d : DiskState) → n.durable.volume ≡ Unknown → HasDisk n d
disk_unknown n d e = subst (DiskBy n d) (sym e) tt

pub have_disk : (n : Node) (fits : Bool) (c : Content) (d : DiskState) → n.under_way ≡ None → AllHave fits c d → HasContent n fits c → HasDisk n d
have_disk n fits c d none all has = go n.durable.volume has
  where
    go : (v : Volume) → ContentBy n fits c v → DiskBy n d v
    go Sound h = λ image left. let i = all image left in (i.0 ∙ h.0, inl (subst (λ x. IsLeftBy x n) (sym i.1) h.1))
    go (Faulty condition block) h = (λ image left. let i = all image left in subst (λ f. IsFirstFinding n.name f (content_of image) condition block) (sym i.0) (subst (λ x. IsFirstFinding n.name fits x condition block) (sym i.1) h), none)
    go (Barred bar) h = (λ image left. let i = all image left in (i.0 ∙ h.0, subst (λ x. HasBarred n.name n.blocks bar x) (sym i.1) h.1), none)
    go Unknown h = absurd h

-- a fall changes nothing of that
pub content_fallen : (n : Node) (under : Option Act) (fits : Bool) (c : Content) → HasContent n fits c → HasContent (fallen under n) fits c
content_fallen n under fits c has = go n.durable.volume has
  where
    go : (v : Volume) → ContentBy n fits c v → ContentBy (fallen under n) fits c v
    go Sound h = (h.0, same_left (fallen under n) n (same_fallen under n) c h.1)
    go (Faulty condition block) h = h
    go (Barred bar) h = h
    go Unknown h = absurd h

-- Images of disks.

-- what was read is seen as before
pub alike_on : (fits : Bool) (c : Content) (old new : DiskState) → new.pending ≡ old.pending → new.seen ≡ old.seen → AllHave fits c old → AllHave fits c new
alike_on fits c old new pending seen all = λ image left. all image (subst (λ o. IsSomeAnd o (λ b. SameBut old.pending b image)) seen (subst (λ p. IsSomeAnd new.seen (λ b. SameBut p b image)) pending left))

pub as_it_was : (before : Option Content) (b : Content) (d : DiskState) → before ≡ Some b → LeavesAsItWas before d → AllHave (fitting b) (content_of b) d
as_it_was before b d told all = λ image left.
    let h = subst (λ o. IsSomeAnd o (λ x. (content_of image ≡ content_of x) × (fitting image ≡ fitting x))) told (all image left) in
    (h.1, h.0)

-- the images of an idle store
pub idle_alike : (s : StoreState) (c : Content) → IsIdle s → s.current ≡ Some c → AllHave true c s.disk
idle_alike s c idle told = λ image left.
    let h = stop_closed s.disk idle.ready.settled idle.ready.closed image left in
    (h.0, same_some _ _ (h.1 ∙ sym idle.current ∙ told))

pub idle_leaves : (s : StoreState) (c : Content) (P : Content → Type 0) → IsIdle s → s.current ≡ Some c → P c → Leaves P s.disk
idle_leaves s c P idle told p = λ image left. let h = idle_alike s c idle told image left in (h.0, subst P (sym h.1) p)

-- The same disk, while only its counts and calls change.
pub disk_kept : (n : Node) (u : Bool) (cs : List Call) (d new : DiskState) → (u ≡ true → n.up ≡ true) → new.pending ≡ d.pending → new.seen ≡ d.seen → HasDisk n d → HasDisk (record n { up = u; calls = cs }) new
disk_kept n u cs d new up pending seen has = go n.durable.volume has
  where
    back : (image : Content) → MayLeave new image → MayLeave d image
    back image left = subst (λ o. IsSomeAnd o (λ b. SameBut d.pending b image)) seen (subst (λ p. IsSomeAnd new.seen (λ b. SameBut p b image)) pending left)

    go : (v : Volume) → DiskBy n d v → DiskBy (record n { up = u; calls = cs }) new v
    go Sound l = λ image left. let i = l image (back image left) in (i.0, same_either u cs n (content_of image) up i.1)
    go (Faulty condition block) f = (λ image left. f.0 image (back image left), f.1)
    go (Barred bar) f = (λ image left. f.0 image (back image left), f.1)
    go Unknown h = tt

-- The same disk, of a node whose clock is set.
pub disk_clocked : (now : ℕ) (n : Node) (d : DiskState) → HasDisk n d → HasDisk (record n { clock = now }) d
disk_clocked now n d has = go n.durable.volume has
  where
    go : (v : Volume) → DiskBy n d v → DiskBy (record n { clock = now }) d v
    go Sound l = λ image left. let i = l image left in (i.0, same_clocked now n (content_of image) i.1)
    go (Faulty condition block) f = f
    go (Barred bar) f = f
    go Unknown h = tt
