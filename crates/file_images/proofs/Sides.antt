-- A head's journals of images and its save follow what is written.
use Rattle.std.proofs.Common.{◌≡◌, ℕ, ◌+◌, ◌-◌, ◌*◌, ◌<◌, ◌≤◌, Bool, true, false, List, ◌∷◌, Option, Some, None, length, refl, sym, ◌∙◌, ap, subst, arith}
use Rattle.std.specs.Prelude.{if◌then◌else◌, ◌&&◌, nat_le, nat_lt}
use Rattle.std.proofs.lemmas.Bool.Decides.{nat_tests}
use Rattle.std.specs.FinMap.{get}
use Rattle.unit_entries.specs.file_base.declared.head.FileHead.{FileHead}
use Rattle.unit_entries.specs.file_base.declared.head.Marks.{Marks}
use Rattle.unit_entries.specs.file_base.declared.head.Save.{Save as HeadSave}
use Rattle.unit_entries.specs.file_base.declared.head.Span.{Span}
use Rattle.unit_entries.specs.change_set.Files.{AgreesOn}
use Rattle.unit_entries.specs.change_set.Maps.{Map}
use Rattle.save_laws.specs.record_files.Any.{IsFile, IsLaidOut, map_of}
use Rattle.vms_model.specs.Ids.{Id}
use Rattle.vms_model.specs.Keys.{Key}
use Rattle.unit_entries.specs.records_model.Records.{Records}
use Rattle.unit_entries.specs.journal_model.Entries.{IsEntry, spelling}
use Rattle.unit_entries.specs.journal_model.Ring.{ring_size, put_stream, HasRing}
use Rattle.unit_entries.specs.recovery_model.Journal.{Entry, entry_length}
use Rattle.unit_entries.specs.recovery_model.File.{ImageJournal, Save, all_of, append, ended, renewed, next_span}
use Rattle.save_laws.specs.Saves.{IsOfNow, KeepsSave, StandAt, save_head}
use Rattle.save_laws.proofs.Copies.{saves_read, saves_stay}
use Rattle.file_images.specs.Images.{AreOf, AreSuited, IsOf, IsSuited, disk_entries, entry_by}
use Rattle.file_images.specs.Files.{HasSide, HasSave, SameRing}
use Rattle.file_images.specs.Laws.{SidesFollow, SavesFollow, next_placed}
use Rattle.file_images.proofs.Rings.{journal_stands}
use Rattle.file_images.proofs.Following.{append_on, images_begin, images_grow}

-- Journals of images.

stays : (a b : List (List ℕ)) (marked : Bool) (s : Span) (f : ℕ) (form : FileHead) (j : ImageJournal) → HasSide a marked s f form j → (marked ≡ true → SameRing s a b) → HasSide b marked s f form j
stays a b marked s f form j has same = record {
  on = has.on;
  start = has.start;
  blocks = has.blocks;
  first = has.first;
  end = has.end;
  images = λ m. let old = has.images m in record {
    on = old.on;
    start = old.start;
    blocks = old.blocks;
    first = old.first;
    end = old.end;
    spelled = journal_stands s a b (disk_entries f j.entries) old.spelled (same m);
    places = old.places;
  };
  bare = has.bare;
  of = has.of;
  suited = has.suited;
}

grows : (c : List (List ℕ)) (s : Span) (f : ℕ) (form : FileHead) (j : ImageJournal) (tid : Id) (e : Entry) → HasSide c true s f form j → IsEntry (entry_by f tid e) → IsOf form.organization e → IsSuited form e → s.end - s.first + entry_length e ≤ ring_size s →
    HasSide (put_stream c s s.end (spelling (entry_by f tid e))) true (record s { end = s.end + length (spelling (entry_by f tid e)) }) f form (append tid e j)
grows c s f form j tid e has is of suits room =
    let old = has.images refl in
    let new = images_grow c s f j tid e old is room in
    record {
      on = new.on;
      start = new.start;
      blocks = new.blocks;
      first = new.first;
      end = new.end;
      images = λ m. new;
      bare = λ m. let no : ⊥ = cc in absurd no;
      of = subst (λ (x : ImageJournal). AreOf form.organization (all_of x.entries)) (sym (append_on tid e j old.on)) (of, has.of);
      suited = subst (λ (x : ImageJournal). AreSuited form (all_of x.entries)) (sym (append_on tid e j old.on)) (suits, has.suited);
    }

off : (j : ImageJournal) (tid : Id) (e : Entry) → j.on ≡ false → append tid e j ≡ j
off j tid e is = ap (λ b. if b then record j { end = j.end + entry_length e; entries = next_placed j tid e ∷ j.entries } else j) is

begins : (c : List (List ℕ)) (s : Span) (f : ℕ) (form : FileHead) (j : ImageJournal) → HasRing c s → s.first ≡ next_span j.end → s.end ≡ s.first → HasSide c true s f form (renewed s.start s.blocks j)
begins c s f form j ring first end = record {
  on = refl;
  start = refl;
  blocks = refl;
  first = first;
  end = end ∙ first;
  images = λ m. images_begin c s f j ring first end;
  bare = λ m. let no : ⊥ = cc in absurd no;
  of = tt;
  suited = tt;
}

ends : (c : List (List ℕ)) (marked : Bool) (s : Span) (f : ℕ) (form : FileHead) (j : ImageJournal) → HasSide c marked s f form j → HasSide c false (record s { start = 0; blocks = 0 }) f form (ended j)
ends c marked s f form j has = record {
  on = refl;
  start = refl;
  blocks = refl;
  first = has.first;
  end = has.end;
  images = λ m. let no : ⊥ = cc in absurd no;
  bare = λ m. refl;
  of = tt;
  suited = tt;
}

pub sides_follow : SidesFollow
sides_follow = record { stays = stays; grows = grows; off = off; begins = begins; ends = ends }

-- Saves.

-- a block of the extent is one at a place of it
inside : (h : FileHead) (a b : List (List ℕ)) → AgreesOn h a b → StandAt h h.start a b
inside h a b agrees i less = sym (agrees (h.start - 518 + i) (within (h.start - 518) i (h.alloc * h.bucket) less))
  where
    within : (from i size : ℕ) → i < size → (nat_le from (from + i) && nat_lt (from + i) (from + size)) ≡ true
    within from i size less = grind (arith, nat_tests)

save_stays : (a b : List (List ℕ)) (marked : Bool) (h k : FileHead) (v : Option Save) → HasSave a marked h v → KeepsSave h k → (marked ≡ true → AgreesOn (save_head h) a b) → HasSave b marked k v
save_stays a b true h k None has keeps agrees = absurd has
save_stays a b true h k (Some v) has keeps agrees =
    let same = keeps.save in
    let stands = subst (λ (n : ℕ). StandAt (save_head h) n a b) (ap (λ (s : HeadSave). s.start) (sym same)) (inside (save_head h) a b (agrees refl)) in
    let reads = saves_stay h k a b keeps has.form stands in
    record {
      start = ap (λ (s : HeadSave). s.start) same ∙ has.start;
      buckets = ap (λ (s : HeadSave). s.alloc) same ∙ has.buckets;
      position = ap (λ (s : HeadSave). s.position) same ∙ has.position;
      moment = ap (λ (s : HeadSave). s.moment.0) same ∙ has.moment;
      form = reads.file;
      laid = reads.laid_out has.laid;
      records = λ key. ap (λ (m : Map). m key) (reads.map has.laid) ∙ has.records key;
    }
save_stays a b false h k None has keeps agrees = (ap (λ (s : HeadSave). s.start) keeps.save ∙ has.0, ap (λ (s : HeadSave). s.alloc) keeps.save ∙ has.1)
save_stays a b false h k (Some v) has keeps agrees = absurd has

save_made : (a b : List (List ℕ)) (h : FileHead) (marks : Marks) (s : HeadSave) (m : Records) → IsFile h → IsLaidOut h a → ((key : Key) → get m key ≡ map_of h a key) → IsOfNow h s → StandAt h s.start a b →
    HasSave b true (record h { marks = marks; save = s }) (Some (record { start = s.start; buckets = s.alloc; position = s.position; moment = s.moment.0; records = m }))
save_made a b h marks s m form laid records now stands =
    let reads = saves_read h marks s a b form now stands in
    record {
      start = refl;
      buckets = refl;
      position = refl;
      moment = refl;
      form = reads.file;
      laid = reads.laid_out laid;
      records = λ key. ap (λ (m : Map). m key) (reads.map laid) ∙ sym (records key);
    }

pub saves_follow : SavesFollow
saves_follow = record { stays = save_stays; made = save_made }
