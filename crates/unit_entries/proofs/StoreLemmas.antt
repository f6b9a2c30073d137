-- Reads of a store, one after another.
use Rattle.std.proofs.Common.{Option, Some, None, Ok, IfSome, option_map, refl, sym, subst, ap, ◌∙◌}
use Rattle.block_disk.specs.Disk.{DiskState}
use Rattle.careful_write.specs.Content.{home}
use Rattle.careful_write.specs.Down.{went_down}
use Rattle.careful_write.specs.State.{StoreState}
use Rattle.careful_write.specs.declared.down.Down.{Down}
use Rattle.file_base.specs.declared.head.Span.{Span}
use Rattle.journal_store.specs.Leaving.{OnlyReads, Fell}
use Rattle.journal_store.specs.Refusing.{Stays}
use Rattle.journal_store.specs.Rings.{IsRing}

pub stays_so : (s : StoreState) → Stays s s
stays_so s = record { current = refl; touched = refl; disk = refl; pool = refl; fits = refl }

module _ (a b c : StoreState) (s : Stays a b) where
  pub stays_read : {T : Type 0} (x : T) → OnlyReads (Ok x) b c → Stays a c
  stays_read x r = record { current = r.current ∙ s.current; touched = r.touched ∙ s.touched; disk = r.disk ∙ s.disk; pool = r.pool ∙ s.pool; fits = r.fits ∙ s.fits }

  pub fell_later : (down : Down) → Fell down b c → Fell down a c
  fell_later down f = record {
    current = f.current ∙ ap (λ (d : DiskState). option_map home d.seen) s.disk;
    touched = f.touched;
    disk = f.disk ∙ ap (went_down down) s.disk;
    pool = f.pool ∙ s.pool;
    fits = f.fits ∙ s.fits;
  }

module _ (a b : StoreState) (s : Stays a b) where
  pub only_reads : {T : Type 0} (x : T) → OnlyReads (Ok x) a b
  only_reads x = record { current = s.current; touched = s.touched; disk = s.disk; pool = s.pool; fits = s.fits }

  pub ring_stays : (span : Span) → IsRing span a.disk → IsRing span b.disk
  ring_stays span ring = subst (IsRing span) (sym s.disk) ring

-- What holds of a content, where one is known.

pub of_any : {X : Type 0} (o : Option X) {P : X → Type 0} → ((x : X) → P x) → IfSome o P
of_any None f = tt
of_any (Some x) f = f x

pub of_content : {X : Type 0} (o : Option X) {P Q : X → Type 0} → ((x : X) → P x → Q x) → IfSome o P → IfSome o Q
of_content None f p = tt
of_content (Some x) f p = f x p

pub of_both : {X : Type 0} (o : Option X) {P Q R : X → Type 0} → ((x : X) → P x → Q x → R x) → IfSome o P → IfSome o Q → IfSome o R
of_both None f p q = tt
of_both (Some x) f p q = f x p q
