-- What a disk holds.
use Rattle.std.proofs.Common.{◌≡◌, ◌<◌, ◌^◌, ℕ, List, [], Bool, true, false, Option, Some, None, IfSome, IsSomeAnd, MatchOption, is_some, option_map, refl, sym, ◌∙◌, ap, subst}
use Rattle.block_disk.specs.Blocks.{SameBut}
use Rattle.block_disk.specs.Disk.{DiskState, IsPowered, MayLeave}
use Rattle.careful_write.specs.Content.{content_of}
use Rattle.careful_write.specs.Load.{fitting}
use Rattle.careful_write.specs.State.{IsIdle, StoreState}
use Rattle.careful_write.specs.Steps.{Quiet}
use Rattle.emitter_model.specs.transcript_model.Outside.{Rose}
use Rattle.emitter_model.specs.transcript_model.Lines.{Cause, Failed, Stopped}
use Rattle.world_laws.specs.run_model.Steps.{count_of}
use Rattle.recovery_units.specs.Uses.{IsCounted}
use Rattle.dtm_node.specs.declared.boot.Booted.{Booted}
use Rattle.dtm_node.specs.declared.boot.Booted.TheVariants as booted
use Rattle.dtm_node.specs.Boots.{AllHave, IsBooted}
use Rattle.dtm_node.specs.Causes.{cause_of}
use Rattle.node_requests.specs.node_standing.Standing.{counts_of}
use Rattle.node_requests.specs.node_standing.Holding.{HoldsAs, IsHeldBy}
use Rattle.dtm_node.proofs.DiskLemmas.{Content, idle_alike}

-- what is seen and pending is as it was
pub holds_same : (old new : DiskState) → new.pending ≡ old.pending → new.seen ≡ old.seen → HoldsAs old new
holds_same old new pending seen = λ image left. record {
  was = image;
  left = subst (λ o. IsSomeAnd o (λ b. SameBut old.pending b image)) seen (subst (λ p. IsSomeAnd new.seen (λ b. SameBut p b image)) pending left);
  content = refl;
  fits = refl;
}

pub holds_is : (old new : DiskState) → new ≡ old → HoldsAs old new
holds_is old new e = holds_same old new (ap (λ (d : DiskState). d.pending) e) (ap (λ (d : DiskState). d.seen) e)

pub holds_on : (a b c : DiskState) → HoldsAs a b → HoldsAs b c → HoldsAs a c
holds_on a b c h k = λ image left.
    let i = k image left in
    let j = h i.was i.left in
    record { was = j.was; left = j.left; content = i.content ∙ j.content; fits = i.fits ∙ j.fits }

both_but : (ns : List ℕ) (a b c : Content) → SameBut ns a b → SameBut [] b c → SameBut ns a c
both_but ns a b c h k = record { size = k.size ∙ h.size; others = λ n e. k.others n refl ∙ h.others n e }

-- the disk runs again
pub holds_power : (old new : DiskState) → IsPowered old new → HoldsAs old new
holds_power old new p = λ image left. record { was = image; left = go old.seen refl new.seen refl p.image image left; content = refl; fits = refl }
  where
    settled : new.pending ≡ []
    settled = ap (λ (t : DiskState). t.pending) p.state

    at : (seen b : Content) (image : Content) → old.seen ≡ Some seen → SameBut old.pending seen b → SameBut [] b image → MayLeave old image
    at seen b image is h k = subst (λ o. IsSomeAnd o (λ x. SameBut old.pending x image)) (sym is) (both_but old.pending seen b image h k)

    go : (o : Option Content) → old.seen ≡ o → (q : Option Content) → new.seen ≡ q → MatchOption o (q ≡ None) (λ seen. IsSomeAnd q (SameBut old.pending seen)) → (image : Content) → MayLeave new image → MayLeave old image
    go None is q iq h image left = absurd (subst (λ o. IsSomeAnd o (λ b. SameBut new.pending b image)) (iq ∙ h) left)
    go (Some seen) is None iq h image left = absurd h
    go (Some seen) is (Some b) iq h image left = at seen b image is h (subst (λ ns. SameBut ns b image) settled (subst (λ o. IsSomeAnd o (λ x. SameBut new.pending x image)) iq left))

-- an open group was finished, or does not fit
pub holds_open : (d : DiskState) (s : StoreState) → (s.fits ≡ true → IsIdle s) → s.current ≡ option_map content_of d.seen → IfSome d.seen (λ b. s.fits ≡ fitting b) → (s.fits ≡ false → s.disk ≡ d) → is_some s.disk.seen ≡ is_some d.seen → HoldsAs d s.disk
holds_open d s idle current fits unfit told = go s.fits refl
  where
    none_left : (e : DiskState) (image : Content) → e.seen ≡ None → MayLeave e image → ⊥
    none_left e image none left = subst (λ o. IsSomeAnd o (λ b. SameBut e.pending b image)) none left

    by : (f : Bool) → s.fits ≡ f → f ≡ true → (o : Option Content) → d.seen ≡ o → (image : Content) → MayLeave s.disk image → IsHeldBy d image
    by f e fitted None is image left = absurd (none_left s.disk image (untold s.disk.seen (told ∙ ap (λ (x : Option Content). is_some x) is)) left)
      where
        untold : (o : Option Content) → is_some o ≡ false → o ≡ None
        untold None q = refl
        untold (Some x) q = let no : ⊥ = cc in absurd no
    by f e fitted (Some b) is image left =
        let alike : AllHave true (content_of b) s.disk = idle_alike s (content_of b) (idle (e ∙ fitted)) (current ∙ ap (option_map content_of) is) in
        let i = alike image left in
        record {
          was = b;
          left = subst (λ o. IsSomeAnd o (λ x. SameBut d.pending x b)) (sym is) (record { size = refl; others = λ n h. refl });
          content = i.1;
          fits = i.0 ∙ sym (e ∙ fitted) ∙ subst (λ o. IfSome o (λ x. s.fits ≡ fitting x)) is fits;
        }

    go : (f : Bool) → s.fits ≡ f → HoldsAs d s.disk
    go true e = λ image left. by true e refl d.seen refl image left
    go false e = holds_is d s.disk (unfit e)

quiet_count : (cause : Cause) (old new : DiskState) → Quiet old new → count_of cause (counts_of new) ≡ count_of cause (counts_of old)
quiet_count Failed old new q = q.faults
quiet_count Stopped old new q = q.stops

-- a boot over a store whose opening raised no count and lost nothing
pub booted_over : {D : Type 0} (state : D → DiskState) (name : List ℕ) (d : DiskState) (s : DiskState) (r : Booted D) → Quiet d s → HoldsAs d s → IsBooted state name s r → IsBooted state name d r
booted_over state name d s (booted.Up v) q h b = b
booted_over state name d s (booted.Refused disk group pool form) q h b = (b.0, b.1, holds_on d s (state disk) h b.2)
booted_over state name d s (booted.Fell disk group pool down) q h b = λ counted.
    let there : IsCounted s = (subst (λ n. n < 2 ^ 64) (sym q.faults) counted.0, subst (λ n. n < 2 ^ 64) (sym q.stops) counted.1) in
    subst (λ n. Rose n (count_of (cause_of down) (counts_of (state disk)))) (quiet_count (cause_of down) d s q) (b there)
