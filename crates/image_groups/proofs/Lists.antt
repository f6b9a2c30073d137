-- Images that stand behind the ends of a file's journals are in them once the ends move.
use Rattle.std.proofs.Common.{◌≡◌, ℕ, suc, zero, ◌+◌, ◌-◌, ◌*◌, ◌/◌, ◌%◌, ◌<◌, ◌≤◌, ◌^◌, Bool, true, false, if◌then◌else◌, List, [], ◌∷◌, ◌++◌, Option, Some, None, length, slice_set, slice_index_or, refl, sym, ◌∙◌, ap, subst, arith, inl, inr, get_or-set_same, get_or-set_other}
use Rattle.std.specs.List.{AllByRecursion}
use Rattle.std.proofs.lemmas.Bool.{cases_lt}
use Rattle.std.proofs.lemmas.List.{length-append}
use Rattle.block_disk.specs.Blocks.{block_at}
use Rattle.extents.specs.declared.extent.Extent.{Extent as Area}
use Rattle.file_base.specs.declared.head.FileHead.{FileHead}
use Rattle.file_base.specs.declared.head.Span.{Span}
use Rattle.restart_laws.proofs.file_images.Sizes.{long_by}
use Rattle.journal_model.specs.Ring.{IsJournal, block_of, byte_at, place_of, put_byte, put_stream, ring_size, stream}
use Rattle.journal_store.proofs.Journals.{stream-add}
use Rattle.volume_format.specs.Head.{IsHead, IsSpan, head_block_of}
use Rattle.vms_model.specs.Ids.{Id}
use Rattle.records_model.specs.Records.{Change}
use Rattle.recovery_model.specs.Journal.{entry_length}
use Rattle.restart_laws.specs.run_model.World.{File, with_images}
use Rattle.image_room.specs.image_appends.declared.side.Side.{Side}
use Rattle.image_room.specs.image_appends.declared.side.Side.TheVariants.{After, Before}
use Rattle.image_room.specs.image_appends.Images.{content_grown, content_with, content_with_both, entered, files_grown, grown, heads_with, heads_with_both, is_kept, span_of, with_span}
use Rattle.restart_laws.specs.directory_model.Files.{file_at, head_at}
use Rattle.restart_laws.specs.directory_model.Laws.{carrying, spelled_entry}
use Rattle.restart_laws.proofs.directory_model.Apart.{after_is, before_is}
use Rattle.restart_laws.proofs.directory_model.Entering.{is_there}
use Rattle.restart_laws.proofs.directory_model.Places.{set_twice, within_list}
use Rattle.image_room.specs.unit_journal.Spans.{longer}
use Rattle.image_groups.proofs.Dressed.{all_after, all_same, sound_after, sound_same, tells_after, tells_same}
use Rattle.image_groups.proofs.Sides.{enters_change, head_long, ring_far, set_back}
use Rattle.image_groups.specs.Groups.{AreFitting, Enters, MayEnter, MayGrow}
use Rattle.image_groups.specs.Lists.{EntersMoved, IsImageOf, StandBehind, StandIfKept, image_of, images_bytes, moved_ends, moved_if}

-- Bytes that stand already.

put_there : {A : Type 0} (xs : List A) (i : ℕ) (x d : A) → slice_index_or xs i d ≡ x → slice_set xs i x ≡ xs
put_there [] i x d is = refl
put_there (y ∷ xs) zero x d is = ap (λ z. z ∷ xs) (sym is)
put_there (y ∷ xs) (suc i) x d is = ap (λ ys. y ∷ ys) (put_there xs i x d is)

beyond : (c : List (List ℕ)) (k : ℕ) → length c ≤ k → block_at c k ≡ []
beyond [] k past = refl
beyond (b ∷ c) zero past = absurd (omega (arith, past))
beyond (b ∷ c) (suc k) past = beyond c k (omega (arith, past))

heads_same : (x y : ℕ) (xs ys : List ℕ) → x ∷ xs ≡ y ∷ ys → x ≡ y
heads_same x y xs ys e = cc

tails_same : (x y : ℕ) (xs ys : List ℕ) → x ∷ xs ≡ y ∷ ys → xs ≡ ys
tails_same x y xs ys e = cc

stands : (bs : List ℕ) (c : List (List ℕ)) (s : Span) (p : ℕ) → stream c s p (length bs) ≡ bs → put_stream c s p bs ≡ c
stands [] c s p is = refl
stands (b ∷ bs) c s p is =
    let byte : byte_at c s p ≡ b = heads_same (byte_at c s p) b (stream c s (p + 1) (length bs)) bs is in
    let block : slice_set (block_at c (block_of s p)) (place_of s p) b ≡ block_at c (block_of s p) = put_there (block_at c (block_of s p)) (place_of s p) b 0 byte in
    let same : put_byte c s p b ≡ c = ap (slice_set c (block_of s p)) block ∙ put_there c (block_of s p) (block_at c (block_of s p)) [] refl in
    ap (λ (x : List (List ℕ)). put_stream x s (p + 1) bs) same ∙ stands bs c s (p + 1) (tails_same (byte_at c s p) b (stream c s (p + 1) (length bs)) bs is)

-- a block beside a ring is none of it
stream_beside : (n : ℕ) (c : List (List ℕ)) (s : Span) (p k : ℕ) (bytes : List ℕ) → k < s.start - 518 → stream (slice_set c k bytes) s p n ≡ stream c s p n
stream_beside zero c s p k bytes beside = refl
stream_beside (suc n) c s p k bytes beside =
    let other : block_at (slice_set c k bytes) (block_of s p) ≡ block_at c (block_of s p) = get_or-set_other c k (block_of s p) bytes [] (λ e. omega (arith, beside, e)) in
    (λ i. slice_index_or (other i) (place_of s p) 0 ∷ stream_beside n c s (p + 1) k bytes beside i)

-- where the journal ends does not matter
stream_longer : (n : ℕ) (c : List (List ℕ)) (s : Span) (more p : ℕ) → stream c (longer more s) p n ≡ stream c s p n
stream_longer zero c s more p = refl
stream_longer (suc n) c s more p = ap (λ (xs : List ℕ). byte_at c s p ∷ xs) (stream_longer n c s more (p + 1))

stream_long : (n : ℕ) (c : List (List ℕ)) (s : Span) (p : ℕ) → length (stream c s p n) ≡ n
stream_long zero c s p = refl
stream_long (suc n) c s p = ap suc (stream_long n c s (p + 1))

-- two parts of a list
first_part : (xs us ys bs : List ℕ) → length xs ≡ length us → xs ++ ys ≡ us ++ bs → xs ≡ us
first_part [] [] ys bs long is = refl
first_part [] (u ∷ us) ys bs long is = absurd (omega (arith, long))
first_part (x ∷ xs) [] ys bs long is = absurd (omega (arith, long))
first_part (x ∷ xs) (u ∷ us) ys bs long is =
    let one : x ≡ u = heads_same x u (xs ++ ys) (us ++ bs) is in
    let rest : xs ≡ us = first_part xs us ys bs (omega (arith, long)) (tails_same x u (xs ++ ys) (us ++ bs) is) in
    (λ i. one i ∷ rest i)

second_part : (xs us ys bs : List ℕ) → length xs ≡ length us → xs ++ ys ≡ us ++ bs → ys ≡ bs
second_part [] [] ys bs long is = is
second_part [] (u ∷ us) ys bs long is = absurd (omega (arith, long))
second_part (x ∷ xs) [] ys bs long is = absurd (omega (arith, long))
second_part (x ∷ xs) (u ∷ us) ys bs long is = second_part xs us ys bs (omega (arith, long)) (tails_same x u (xs ++ ys) (us ++ bs) is)

-- Heads whose journals end later.

moved_more : (b : Bool) (n m k : ℕ) (s : Span) → k ≡ n + m → moved_if b m (moved_if b n s) ≡ moved_if b k s
moved_more true n m k s is = ap (λ (e : ℕ). record s { end = e }) (let sum : s.end + n + m ≡ s.end + k = omega (arith, is) in sum)
moved_more false n m k s is = refl

moved_none : (b : Bool) (s : Span) → moved_if b 0 s ≡ s
moved_none true s = ap (λ (e : ℕ). record s { end = e }) (let sum : s.end + 0 ≡ s.end = omega arith in sum)
moved_none false s = refl

abbrev grow_if : Bool → Side → ℕ → FileHead → FileHead
grow_if true side n g = grown side n g
grow_if false side n g = g

after_if : (b : Bool) (n : ℕ) (g : FileHead) → grow_if b After n g ≡ record g { ai = moved_if b n g.ai }
after_if true n g = refl
after_if false n g = refl

before_if : (b : Bool) (n : ℕ) (g : FileHead) → grow_if b Before n g ≡ record g { bi = moved_if b n g.bi }
before_if true n g = refl
before_if false n g = refl

-- One journal, whose bytes stand behind its end.

heads_one : (side : Side) (f n : ℕ) (hs : List (Option FileHead)) (g : FileHead) → head_at hs f ≡ Some g → (b : Bool) → is_kept side g ≡ b → heads_with f side n hs ≡ slice_set hs f (Some (grow_if b side n g))
heads_one side f n hs g there b is = ap (λ (o : Option FileHead). files_grown o f side n hs) there ∙ ap (λ (k : Bool). if k then slice_set hs f (Some (grown side n g)) else hs) is ∙ go b
  where
    go : (b : Bool) → (if b then slice_set hs f (Some (grown side n g)) else hs) ≡ slice_set hs f (Some (grow_if b side n g))
    go true = refl
    go false = sym (set_back hs f g there)

content_one : (side : Side) (f : ℕ) (bytes : List ℕ) (hs : List (Option FileHead)) (g : FileHead) (c : List (List ℕ)) → head_at hs f ≡ Some g → (b : Bool) → is_kept side g ≡ b → (b ≡ true → put_stream c (span_of side g) (span_of side g).end bytes ≡ c) →
    block_at c (1 + f) ≡ head_block_of g → content_with f side bytes hs c ≡ slice_set c (1 + f) (head_block_of (grow_if b side (length bytes) g))
content_one side f bytes hs g c there b is stand block = ap (λ (o : Option FileHead). content_grown o f side bytes c) there ∙ ap (λ (k : Bool). if k then entered f side bytes g c else c) is ∙ go b stand
  where
    go : (b : Bool) → (b ≡ true → put_stream c (span_of side g) (span_of side g).end bytes ≡ c) → (if b then entered f side bytes g c else c) ≡ slice_set c (1 + f) (head_block_of (grow_if b side (length bytes) g))
    go true stand = ap (λ (x : List (List ℕ)). slice_set x (1 + f) (head_block_of (grown side (length bytes) g))) (stand refl)
    go false stand = sym (put_there c (1 + f) (head_block_of g) [] block)

module _ (c : List (List ℕ)) (area : Area) (heads : List (Option FileHead)) (directory : List (Option File)) (f : ℕ) (h : FileHead) (file : File) (tid serial : Id) (are : AreFitting c area heads directory) (low : f < 64) (there : head_at heads f ≡ Some h)
    (at : file_at directory f ≡ Some file) (is_head : IsHead h) (block : head_block_of h ≡ block_at c (1 + f)) where
  abbrev a_bytes : List Change → List ℕ
  a_bytes cs = images_bytes After f tid serial cs

  abbrev b_bytes : List Change → List ℕ
  b_bytes cs = images_bytes Before f tid serial cs

  -- the head, the heads and the content behind the images of some of the changes
  abbrev head_of : List Change → FileHead
  head_of cs = moved_ends (length (a_bytes cs)) (length (b_bytes cs)) h

  abbrev heads_of : List Change → List (Option FileHead)
  heads_of cs = slice_set heads f (Some (head_of cs))

  abbrev content_of : List Change → List (List ℕ)
  content_of cs = slice_set c (1 + f) (head_block_of (head_of cs))

  within : f < length heads
  within = within_list heads f h there

  -- the directory block is one of the content
  inside : 1 + f < length c
  inside = elim (cases_lt (1 + f) (length c)) [
    | inl below ↦ below
    | inr past ↦ (let none = ap length (block ∙ beyond c (1 + f) past) in let long = head_long h is_head in absurd (omega (arith, none, long)))
  ]

  placed : (cs : List Change) → head_at (heads_of cs) f ≡ Some (head_of cs)
  placed cs = get_or-set_same heads f (Some (head_of cs)) None within

  -- the rings lie behind the directory
  after_order : h.marks.ai ≡ true → (h.ai.first ≤ h.ai.end) × (1 + f < h.ai.start - 518)
  after_order on =
      let ring = ((is_there c heads directory f h file are.files there at).1.after.images on).spelled in
      let far = ring_far area heads are.fit (4 * f + 1) h.ai.start h.ai.blocks (omega (arith, low)) (after_is area heads are.fit f h there) ring.ring.some in
      let behind = are.behind in
      (ring.order, omega (arith, far, behind, low))

  before_order : h.marks.bi ≡ true → (h.bi.first ≤ h.bi.end) × (1 + f < h.bi.start - 518)
  before_order on =
      let ring = ((is_there c heads directory f h file are.files there at).1.before.images on).spelled in
      let far = ring_far area heads are.fit (4 * f + 2) h.bi.start h.bi.blocks (omega (arith, low)) (before_is area heads are.fit f h there) ring.ring.some in
      let behind = are.behind in
      (ring.order, omega (arith, far, behind, low))

  order_of : (side : Side) → is_kept side h ≡ true → ((span_of side h).first ≤ (span_of side h).end) × (1 + f < (span_of side h).start - 518)
  order_of After on = after_order on
  order_of Before on = before_order on

  -- the journal of a side, where it is kept
  span_kept : (side : Side) (cs : List Change) → is_kept side h ≡ true → span_of side (head_of cs) ≡ longer (length (images_bytes side f tid serial cs)) (span_of side h)
  span_kept After cs on = ap (λ (b : Bool). moved_if b (length (a_bytes cs)) h.ai) on
  span_kept Before cs on = ap (λ (b : Bool). moved_if b (length (b_bytes cs)) h.bi) on

  kept_same : (side : Side) (cs : List Change) → is_kept side (head_of cs) ≡ is_kept side h
  kept_same After cs = refl
  kept_same Before cs = refl

  -- what stands of fewer changes
  stand_less : (side : Side) (x : Change) (cs : List Change) → StandBehind side f c h tid serial (x ∷ cs) → StandBehind side f c h tid serial cs
  stand_less side x cs s = record {
    each = s.each.1;
    room = let room = s.room in omega (arith, room, long);
    low = let low = s.low in omega (arith, low, long);
    there = first_part (stream c (span_of side h) (span_of side h).end (length (images_bytes side f tid serial cs))) (images_bytes side f tid serial cs)
        (stream c (span_of side h) ((span_of side h).end + length (images_bytes side f tid serial cs)) (length (spelled_entry f tid (image_of side serial x)))) (spelled_entry f tid (image_of side serial x))
        (stream_long (length (images_bytes side f tid serial cs)) c (span_of side h) (span_of side h).end)
        (sym (stream-add (length (images_bytes side f tid serial cs)) (length (spelled_entry f tid (image_of side serial x))) c (span_of side h) (span_of side h).end) ∙ ap (stream c (span_of side h) (span_of side h).end) (sym long) ∙ s.there);
  }
    where
      long : length (images_bytes side f tid serial (x ∷ cs)) ≡ length (images_bytes side f tid serial cs) + length (spelled_entry f tid (image_of side serial x))
      long = length-append (images_bytes side f tid serial cs) (spelled_entry f tid (image_of side serial x))

  stand_last : (side : Side) (x : Change) (cs : List Change) → StandBehind side f c h tid serial (x ∷ cs) →
      stream c (span_of side h) ((span_of side h).end + length (images_bytes side f tid serial cs)) (length (spelled_entry f tid (image_of side serial x))) ≡ spelled_entry f tid (image_of side serial x)
  stand_last side x cs s =
      second_part (stream c (span_of side h) (span_of side h).end (length (images_bytes side f tid serial cs))) (images_bytes side f tid serial cs)
      (stream c (span_of side h) ((span_of side h).end + length (images_bytes side f tid serial cs)) (length (spelled_entry f tid (image_of side serial x)))) (spelled_entry f tid (image_of side serial x))
      (stream_long (length (images_bytes side f tid serial cs)) c (span_of side h) (span_of side h).end)
      (sym (stream-add (length (images_bytes side f tid serial cs)) (length (spelled_entry f tid (image_of side serial x))) c (span_of side h) (span_of side h).end)
      ∙ ap (stream c (span_of side h) (span_of side h).end) (sym (length-append (images_bytes side f tid serial cs) (spelled_entry f tid (image_of side serial x)))) ∙ s.there)

  -- the next image stands there too
  put_next : (side : Side) (x : Change) (cs : List Change) (block : List ℕ) → is_kept side h ≡ true → StandBehind side f c h tid serial (x ∷ cs) →
      put_stream (slice_set c (1 + f) block) (span_of side (head_of cs)) (span_of side (head_of cs)).end (spelled_entry f tid (image_of side serial x)) ≡ slice_set c (1 + f) block
  put_next side x cs block on s =
      subst (λ (r : Span). put_stream (slice_set c (1 + f) block) r r.end (spelled_entry f tid (image_of side serial x)) ≡ slice_set c (1 + f) block) (sym (span_kept side cs on))
      (stands (spelled_entry f tid (image_of side serial x)) (slice_set c (1 + f) block) (longer (length (images_bytes side f tid serial cs)) (span_of side h)) ((span_of side h).end + length (images_bytes side f tid serial cs))
      (stream_longer (length (spelled_entry f tid (image_of side serial x))) (slice_set c (1 + f) block) (span_of side h) (length (images_bytes side f tid serial cs)) ((span_of side h).end + length (images_bytes side f tid serial cs))
      ∙ stream_beside (length (spelled_entry f tid (image_of side serial x))) c (span_of side h) ((span_of side h).end + length (images_bytes side f tid serial cs)) (1 + f) block (order_of side on).1
      ∙ stand_last side x cs s))

  -- it may be entered
  may_next : (side : Side) (x : Change) (cs : List Change) → (is_kept side h ≡ true → StandBehind side f c h tid serial (x ∷ cs)) → IsHead (head_of cs) → MayEnter side f (heads_of cs) tid (image_of side serial x)
  may_next side x cs stand head k at_k kept =
      let same : head_of cs ≡ k = one (head_of cs) k (sym (placed cs) ∙ at_k) in
      let on : is_kept side h ≡ true = sym (kept_same side cs) ∙ ap (is_kept side) same ∙ kept in
      let s = stand on in
      let span = span_kept side cs on in
      let order = (order_of side on).0 in
      let room = s.room in
      let far = s.low in
      let is = s.each.0 in
      let long = length-append (images_bytes side f tid serial cs) (spelled_entry f tid (image_of side serial x)) in
      let size = long_by f tid (image_of side serial x) is.is in
      subst (λ (y : FileHead). MayGrow side f y tid (image_of side serial x)) same (record {
        can = record {
          is = is.is;
          of = is.of;
          suited = is.suited;
          room = subst (λ (r : Span). r.end - r.first + entry_length (image_of side serial x) ≤ ring_size r) (sym span) (omega (arith, order, room, long, size));
        };
        head = head;
        far = subst (λ (r : Span). r.end + length (spelled_entry f tid (image_of side serial x)) ≤ 2 ^ 62) (sym span) (omega (arith, far, long));
      })
    where
      one : (x y : FileHead) → ◌≡◌ {A = Option FileHead} (Some x) (Some y) → x ≡ y
      one x y e = cc

  -- a head with later ends can be spelled
  moved_head : (cs : List Change) → StandIfKept After f c h tid serial cs → StandIfKept Before f c h tid serial cs → IsHead (head_of cs)
  moved_head cs afters befores = record {
    form = record { name = is_head.form.name; bucket = is_head.form.bucket; mrs = is_head.form.mrs; mrn = is_head.form.mrn; key_pos = is_head.form.key_pos; key_size = is_head.form.key_size };
    extent = record { start = is_head.extent.start; alloc = is_head.extent.alloc; used = is_head.extent.used; root = is_head.extent.root; levels = is_head.extent.levels; count = is_head.extent.count };
    ai = after_span h.marks.ai refl;
    bi = before_span h.marks.bi refl;
    bi_since = is_head.bi_since;
    save = is_head.save;
  }
    where
      after_span : (b : Bool) → h.marks.ai ≡ b → IsSpan (moved_if b (length (a_bytes cs)) h.ai)
      after_span true on = let far = (afters on).low in record { start = is_head.ai.start; blocks = is_head.ai.blocks; first = is_head.ai.first; end = omega (arith, far) }
      after_span false off = is_head.ai

      before_span : (b : Bool) → h.marks.bi ≡ b → IsSpan (moved_if b (length (b_bytes cs)) h.bi)
      before_span true on = let far = (befores on).low in record { start = is_head.bi.start; blocks = is_head.bi.blocks; first = is_head.bi.first; end = omega (arith, far) }
      before_span false off = is_head.bi

  -- one change more
  head_more : (x : Change) (cs : List Change) →
      grow_if h.marks.bi Before (length (spelled_entry f tid (image_of Before serial x))) (grow_if h.marks.ai After (length (spelled_entry f tid (image_of After serial x))) (head_of cs)) ≡ head_of (x ∷ cs)
  head_more x cs =
      before_if h.marks.bi (length (spelled_entry f tid (image_of Before serial x))) (grow_if h.marks.ai After (length (spelled_entry f tid (image_of After serial x))) (head_of cs))
      ∙ ap (λ (g : FileHead). record g { bi = moved_if h.marks.bi (length (spelled_entry f tid (image_of Before serial x))) g.bi }) (after_if h.marks.ai (length (spelled_entry f tid (image_of After serial x))) (head_of cs))
      ∙ (λ i. record h {
        ai = moved_more h.marks.ai (length (a_bytes cs)) (length (spelled_entry f tid (image_of After serial x))) (length (a_bytes (x ∷ cs))) h.ai (length-append (a_bytes cs) (spelled_entry f tid (image_of After serial x))) i;
        bi = moved_more h.marks.bi (length (b_bytes cs)) (length (spelled_entry f tid (image_of Before serial x))) (length (b_bytes (x ∷ cs))) h.bi (length-append (b_bytes cs) (spelled_entry f tid (image_of Before serial x))) i;
      })

  head_none : head_of [] ≡ h
  head_none = λ i. record h { ai = moved_none h.marks.ai h.ai i; bi = moved_none h.marks.bi h.bi i }

  -- One change more.
  module _ (x : Change) (cs : List Change) (afters : StandIfKept After f c h tid serial (x ∷ cs)) (befores : StandIfKept Before f c h tid serial (x ∷ cs))
      (one : Enters c heads (content_of cs) area (heads_of cs) (slice_set directory f (Some (carrying (with_images tid serial cs file.carried) file)))) where
    abbrev a : List ℕ
    a = spelled_entry f tid (image_of After serial x)

    abbrev b : List ℕ
    b = spelled_entry f tid (image_of Before serial x)

    abbrev middle : File
    middle = carrying (with_images tid serial cs file.carried) file

    abbrev both : List (List ℕ)
    both = content_with_both f a b (heads_of cs) (content_of cs)

    abbrev new : List (Option FileHead)
    new = heads_with_both f (length a) (length b) (heads_of cs)

    afters_less : StandIfKept After f c h tid serial cs
    afters_less on = stand_less After x cs (afters on)

    befores_less : StandIfKept Before f c h tid serial cs
    befores_less on = stand_less Before x cs (befores on)

    head : IsHead (head_of cs)
    head = moved_head cs afters_less befores_less

    two : Enters (content_of cs) (heads_of cs) both area new (slice_set (slice_set directory f (Some middle)) f (Some (carrying (with_images tid serial (x ∷ cs) file.carried) file)))
    two = enters_change (content_of cs) area (heads_of cs) (slice_set directory f (Some middle)) f middle tid serial x one.fitting low (get_or-set_same directory f (Some middle) None (within_list directory f file at))
        (may_next After x cs afters head) (may_next Before x cs befores head)

    -- the head with the after image
    abbrev g : FileHead
    g = grow_if h.marks.ai After (length a) (head_of cs)

    first_heads : heads_with f After (length a) (heads_of cs) ≡ slice_set (heads_of cs) f (Some g)
    first_heads = heads_one After f (length a) (heads_of cs) (head_of cs) (placed cs) h.marks.ai refl

    here : (block : List ℕ) → block_at (slice_set c (1 + f) block) (1 + f) ≡ block
    here block = get_or-set_same c (1 + f) block [] inside

    first_content : content_with f After a (heads_of cs) (content_of cs) ≡ slice_set c (1 + f) (head_block_of g)
    first_content =
        content_one After f a (heads_of cs) (head_of cs) (content_of cs) (placed cs) h.marks.ai refl (λ on. put_next After x cs (head_block_of (head_of cs)) on (afters on)) (here (head_block_of (head_of cs)))
        ∙ set_twice c (1 + f) (head_block_of (head_of cs)) (head_block_of g)

    kept_g : is_kept Before g ≡ h.marks.bi
    kept_g = ap (λ (y : FileHead). y.marks.bi) (after_if h.marks.ai (length a) (head_of cs))

    span_g : g.bi ≡ (head_of cs).bi
    span_g = ap (λ (y : FileHead). y.bi) (after_if h.marks.ai (length a) (head_of cs))

    placed_g : head_at (slice_set (heads_of cs) f (Some g)) f ≡ Some g
    placed_g = get_or-set_same (heads_of cs) f (Some g) None (within_list (heads_of cs) f (head_of cs) (placed cs))

    heads_are : new ≡ heads_of (x ∷ cs)
    heads_are =
        ap (heads_with f Before (length b)) first_heads
        ∙ heads_one Before f (length b) (slice_set (heads_of cs) f (Some g)) g placed_g h.marks.bi kept_g
        ∙ set_twice (heads_of cs) f (Some g) (Some (grow_if h.marks.bi Before (length b) g))
        ∙ set_twice heads f (Some (head_of cs)) (Some (grow_if h.marks.bi Before (length b) g))
        ∙ ap (λ (y : FileHead). slice_set heads f (Some y)) (head_more x cs)

    content_is : both ≡ content_of (x ∷ cs)
    content_is =
        (λ i. content_with f Before b (first_heads i) (first_content i))
        ∙ content_one Before f b (slice_set (heads_of cs) f (Some g)) g (slice_set c (1 + f) (head_block_of g)) placed_g h.marks.bi kept_g
        (λ on. subst (λ (r : Span). put_stream (slice_set c (1 + f) (head_block_of g)) r r.end b ≡ slice_set c (1 + f) (head_block_of g)) (sym span_g) (put_next Before x cs (head_block_of g) on (befores on))) (here (head_block_of g))
        ∙ set_twice c (1 + f) (head_block_of g) (head_block_of (grow_if h.marks.bi Before (length b) g))
        ∙ ap (λ (y : FileHead). slice_set c (1 + f) (head_block_of y)) (head_more x cs)

    moved_more_of : Enters c heads (content_of (x ∷ cs)) area (heads_of (x ∷ cs)) (slice_set directory f (Some (carrying (with_images tid serial (x ∷ cs) file.carried) file)))
    moved_more_of =
        subst (λ (y : List (List ℕ)). Enters c heads y area (heads_of (x ∷ cs)) (slice_set directory f (Some (carrying (with_images tid serial (x ∷ cs) file.carried) file)))) content_is
        (subst (λ (hs : List (Option FileHead)). Enters c heads both area hs (slice_set directory f (Some (carrying (with_images tid serial (x ∷ cs) file.carried) file)))) heads_are (record {
          fitting = subst (AreFitting both area new) (set_twice directory f (Some middle) (Some (carrying (with_images tid serial (x ∷ cs) file.carried) file))) two.fitting;
          dressed = all_after c (content_of cs) both heads (heads_of cs) new one.dressed two.dressed;
          size = two.size ∙ one.size;
          front = λ k side near. two.front k side near ∙ one.front k side near;
          tells = tells_after c (content_of cs) both heads (heads_of cs) new one.tells two.tells;
          sound = sound_after heads (heads_of cs) new one.sound two.sound;
        }))

  pub moved : (cs : List Change) → StandIfKept After f c h tid serial cs → StandIfKept Before f c h tid serial cs →
      Enters c heads (content_of cs) area (heads_of cs) (slice_set directory f (Some (carrying (with_images tid serial cs file.carried) file)))
  moved [] afters befores =
      subst (λ (x : List (List ℕ)). Enters c heads x area (heads_of []) (slice_set directory f (Some file))) (sym (ap (λ (g : FileHead). slice_set c (1 + f) (head_block_of g)) head_none ∙ put_there c (1 + f) (head_block_of h) [] (sym block)))
      (subst (λ (hs : List (Option FileHead)). Enters c heads c area hs (slice_set directory f (Some file))) (sym (ap (λ (g : FileHead). slice_set heads f (Some g)) head_none ∙ set_back heads f h there))
      (record {
        fitting = subst (AreFitting c area heads) (sym (set_back directory f file at)) are;
        dressed = all_same c heads;
        size = refl;
        front = λ k side near. refl;
        tells = tells_same c heads;
        sound = sound_same heads;
      }))
  moved (x ∷ cs) afters befores = moved_more_of x cs afters befores (moved cs (λ on. stand_less After x cs (afters on)) (λ on. stand_less Before x cs (befores on)))

pub enters_moved : EntersMoved
enters_moved c area heads directory f h file tid serial cs are low there at is_head block afters befores = moved c area heads directory f h file tid serial are low there at is_head block cs afters befores
