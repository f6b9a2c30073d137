-- Buckets that are staged, and groups of them.
use Rattle.std.proofs.Common.{◌≡◌, ⊎_elim, ◌<◌, ◌≤◌, ◌+◌, ◌*◌, ℕ, Bool, List, [], length, set, Option, Some, None, IfSome, option_map, Result, Ok, Err, OnOk, OnErr, IfOk, refl, sym, ap, subst, ◌∙◌, arith}
use Rattle.block_disk.specs.Disk.{DiskState}
use Rattle.frame_pool.specs.Pool.{IsOut}
use Rattle.careful_write.specs.Content.{content_of}
use Rattle.careful_write.specs.declared.down.Down.{Down}
use Rattle.careful_write.specs.State.{StoreState, IsReady, IsIdle, IsEither, Leaves, content}
use Rattle.block_disk.specs.Counts.{counted}
use Rattle.careful_write.specs.Steps.{AgreesOff, Quiet, CountsOnce}
use Rattle.careful_write.proofs.Reading.{same_all}
use Rattle.file_base.specs.declared.head.FileHead.{FileHead}
use Rattle.change_set.specs.Buckets.{frame_of, with_frame, with_bucket, WasFree}
use Rattle.change_set.specs.Files.{IsPlaced, in_extent, AgreesOut, LeavesOut}
use Rattle.change_set.proofs.Extents.{agrees_bucket}
use Rattle.change_set.proofs.Frames.{lent_taken, lent_staged, lent_written, lent_given}
use Rattle.change_set.proofs.Loading.{length-with_numbers}
use Rattle.load_pages.proofs.relative_file.MakeLaws.{agrees_more}
use Rattle.index_blocks.specs.Buckets.{bucket_first, with_blocks_of}
use Rattle.file_loads.specs.Writes.{StagesBucket, IsApart, HasWritten, LeavesApart}

-- a frame that was taken, staged from and given back
staged_given : (h : FileHead) (f n : ℕ) (bytes : List ℕ) (s0 s1 s2 s3 : StoreState) → WasFree s0.pool f → IsOut s1.pool f → s1 ≡ with_frame f (frame_of s1.pool f) s0
    → s2 ≡ with_frame f (frame_of s2.pool f) (record s1 { current = option_map (λ b. with_bucket bytes b (bucket_first h n) h.bucket) s1.current; touched = with_blocks_of h n s1.touched })
    → s3 ≡ record s2 { pool = set s2.pool f None }
    → s3 ≡ record s0 { current = option_map (λ b. with_bucket bytes b (bucket_first h n) h.bucket) s0.current; touched = with_blocks_of h n s0.touched }
staged_given h f n bytes s0 s1 s2 s3 was out taken staged gave =
    let C = option_map (λ (b : List (List ℕ)). with_bucket bytes b (bucket_first h n) h.bucket) in
    let x : StoreState = record s1 { current = C s1.current; touched = with_blocks_of h n s1.touched } in
    let lent1 = lent_taken f s0 s1 was taken in
    let lent2 = lent_staged f s0 s1 x C (with_blocks_of h n) lent1 refl in
    let lent3 = lent_written f (frame_of s2.pool f) _ x s2 out lent2 staged in
    same_all _ s3 (lent_given f _ s2 s3 lent3 gave) (ap (λ (s : StoreState). s.reads) gave ∙ ap (λ (s : StoreState). s.reads) staged ∙ ap (λ (s : StoreState). s.reads) taken)

only_these : (old new : StoreState) (current : Option (List (List ℕ))) (touched : List ℕ) → new ≡ record old { current = current; touched = touched } → new ≡ record old { current = new.current; touched = new.touched }
only_these old new current touched is = is ∙ (λ k. let back = sym is in record old { current = (back k).current; touched = (back k).touched })

pub stages : (h : FileHead) (f n : ℕ) (bytes : List ℕ) (s0 s1 s2 s3 : StoreState) → WasFree s0.pool f → IsOut s1.pool f → s1 ≡ with_frame f (frame_of s1.pool f) s0
    → s2 ≡ with_frame f (frame_of s2.pool f) (record s1 { current = option_map (λ b. with_bucket bytes b (bucket_first h n) h.bucket) s1.current; touched = with_blocks_of h n s1.touched })
    → s3 ≡ record s2 { pool = set s2.pool f None } → IfSome s0.current (λ b. length b + 518 ≡ s0.disk.size) → StagesBucket h n bytes s0 s3
stages h f n bytes s0 s1 s2 s3 was out taken staged gave whole =
    let end = staged_given h f n bytes s0 s1 s2 s3 was out taken staged gave in
    record {
      rest = only_these s0 s3 _ _ end;
      current = ap (λ (s : StoreState). s.current) end;
      touched = let few = length-with_numbers (518 + bucket_first h n) h.bucket s0.touched in let same = ap (λ (s : StoreState). length s.touched) end in omega (arith, few, same);
      whole = whole;
    }

out_staged : (h : FileHead) (n : ℕ) (bytes : List ℕ) (old : Option (List (List ℕ))) → n < h.alloc → AgreesOut (in_extent h) old (option_map (λ b. with_bucket bytes b (bucket_first h n) h.bucket) old)
out_staged h n bytes None below = refl
out_staged h n bytes (Some b) below = agrees_bucket h n bytes b below

pub apart_staged : (h : FileHead) (n : ℕ) (bytes : List ℕ) (s0 s1 : StoreState) → n < h.alloc → StagesBucket h n bytes s0 s1 → (told : Option (List (List ℕ))) → IsApart h told s0 → IsApart h told s1
apart_staged h n bytes s0 s1 below stage told apart = record {
  current = subst (λ (x : Option (List (List ℕ))). AgreesOut (in_extent h) told x) (sym stage.current) (agrees_more (in_extent h) told s0.current _ apart.current (out_staged h n bytes s0.current below));
  content = subst (λ (x : Option (List (List ℕ))). AgreesOut (in_extent h) told x) (sym (ap (λ (s : StoreState). content s) stage.rest)) apart.content;
}

pub apart_applied : (h : FileHead) (s1 s2 : StoreState) → s2.current ≡ s1.current → content s2 ≡ s1.current → (told : Option (List (List ℕ))) → IsApart h told s1 → IsApart h told s2
apart_applied h s1 s2 same is told apart = record {
  current = subst (λ (x : Option (List (List ℕ))). AgreesOut (in_extent h) told x) (sym same) apart.current;
  content = subst (λ (x : Option (List (List ℕ))). AgreesOut (in_extent h) told x) (sym is) apart.current;
}

either_out : (p : ℕ → Bool) (told x y : Option (List (List ℕ))) (c : List (List ℕ)) → AgreesOut p told x → AgreesOut p told y → IsEither x y c → IfSome told (λ before. AgreesOff p before c)
either_out p None x y c first second e = tt
either_out p (Some a) x y c first second e = ⊎_elim
    (λ before. subst (λ (o : Option (List (List ℕ))). AgreesOut p (Some a) o) (sym before) first)
    (λ after. subst (λ (o : Option (List (List ℕ))). AgreesOut p (Some a) o) (sym after) second)
    e

pub leaves_apart : (h : FileHead) (s : StoreState) (disk : DiskState) → Leaves (IsEither (content s) s.current) disk → (told : Option (List (List ℕ))) → IsApart h told s → LeavesOut (in_extent h) told disk
leaves_apart h s disk leaves told apart image left = ((leaves image left).0, either_out (in_extent h) told (content s) s.current (content_of image) apart.content apart.current (leaves image left).1)

agrees_self : (p : ℕ → Bool) (told : Option (List (List ℕ))) → AgreesOut p told told
agrees_self p None = refl
agrees_self p (Some b) = record { size = refl; others = λ n off. refl }

-- a store between two groups is apart from what it reads
pub idle_apart : (h : FileHead) (s : StoreState) → IsIdle s → IsApart h s.current s
idle_apart h s idle = record { current = agrees_self (in_extent h) s.current; content = subst (λ (x : Option (List (List ℕ))). AgreesOut (in_extent h) s.current x) idle.current (agrees_self (in_extent h) s.current) }

pub ready_staged : (h : FileHead) (n : ℕ) (bytes : List ℕ) (s0 s1 : StoreState) → StagesBucket h n bytes s0 s1 → IsReady s0 → IsReady s1
ready_staged h n bytes s0 s1 stage ready =
    let P : StoreState → Type 0 = λ s. IsReady s in
    subst P (sym stage.rest) (record { fitting = ready.fitting; settled = ready.settled; closed = ready.closed })

-- One part of the buckets after another.

pub written_more : (h : FileHead) (a b : ℕ) (s0 s1 s2 : StoreState) → HasWritten h a s0 s1 → HasWritten h b s1 s2 → HasWritten h b s0 s2
written_more h a b s0 s1 s2 first second = record { apart = λ told apart. second.apart told (first.apart told apart); ready = second.ready; counted = second.counted; room = second.room }

pub leaves_later : (h : FileHead) (a : ℕ) (s0 s1 s2 : StoreState) → HasWritten h a s0 s1 → LeavesApart h s1 s2 → LeavesApart h s0 s2
leaves_later h a s0 s1 s2 first second told apart = second told (first.apart told apart)

pub none_written : (h : FileHead) (a : ℕ) (s : StoreState) → IsReady s → length s.touched ≤ a → a ≤ 496 → HasWritten h a s s
none_written h a s ready counted room = record { apart = λ told apart. apart; ready = ready; counted = counted; room = room }

pub quiet_self : (d : DiskState) → Quiet d d
quiet_self d = record { size = refl; calls = refl; faults = refl; stops = refl; told = refl }

pub quiet_more : (a b c : DiskState) → Quiet a b → Quiet b c → Quiet a c
quiet_more a b c first second = record { size = second.size ∙ first.size; calls = second.calls ∙ first.calls; faults = second.faults ∙ first.faults; stops = second.stops ∙ first.stops; told = second.told ∙ first.told }

pub counts_later : (failed stopped : Bool) (a b c : DiskState) → Quiet a b → CountsOnce failed stopped b c → CountsOnce failed stopped a c
counts_later failed stopped a b c first second = record {
  size = second.size ∙ first.size;
  calls = second.calls ∙ first.calls;
  faults = second.faults ∙ ap (counted failed) first.faults;
  stops = second.stops ∙ ap (counted stopped) first.stops;
  told = second.told ∙ first.told;
}

-- A bucket that was staged, and the group that was written where it was full.

abbrev Done : Type 0
Done = Result (Unit {0}) Down

pub disk_staged : (h : FileHead) (n : ℕ) (bytes : List ℕ) (s0 s1 : StoreState) → StagesBucket h n bytes s0 s1 → s1.disk ≡ s0.disk
disk_staged h n bytes s0 s1 stage = ap (λ (s : StoreState). s.disk) stage.rest

pub written_staged : (h : FileHead) (n staged : ℕ) (bytes : List ℕ) (s0 s1 : StoreState) → n < h.alloc → StagesBucket h n bytes s0 s1 → IsReady s0 → length s1.touched ≤ staged → staged ≤ 496 → HasWritten h staged s0 s1
written_staged h n staged bytes s0 s1 below stage ready counted room = record {
  apart = λ told apart. apart_staged h n bytes s0 s1 below stage told apart;
  ready = ready_staged h n bytes s0 s1 stage ready;
  counted = counted;
  room = room;
}

pub written_applied : (h : FileHead) (n : ℕ) (bytes : List ℕ) (s0 s1 s2 : StoreState) (r : Done) → n < h.alloc → StagesBucket h n bytes s0 s1 → OnOk r (content s2 ≡ s1.current) → OnOk r (s2.current ≡ s1.current) → OnOk r (s2.touched ≡ [])
    → OnOk r (IsReady s2) → OnOk r (HasWritten h 0 s0 s2)
written_applied h n bytes s0 s1 s2 (Ok x) below stage told now none ready = record {
  apart = λ apart is. apart_applied h s1 s2 now told apart (apart_staged h n bytes s0 s1 below stage apart is);
  ready = ready;
  counted = let same = ap (λ (ns : List ℕ). length ns) none in omega (arith, same);
  room = omega arith;
}
written_applied h n bytes s0 s1 s2 (Err e) below stage told now none ready = tt

pub down_applied : (h : FileHead) (n : ℕ) (bytes : List ℕ) (s0 s1 s2 : StoreState) (r : Done) → n < h.alloc → StagesBucket h n bytes s0 s1 → OnErr r (Leaves (IsEither (content s1) s1.current) s2.disk) → OnErr r (LeavesApart h s0 s2)
down_applied h n bytes s0 s1 s2 (Ok x) below stage leaves = tt
down_applied h n bytes s0 s1 s2 (Err e) below stage leaves = λ told apart. leaves_apart h s1 s2.disk leaves told (apart_staged h n bytes s0 s1 below stage told apart)

pub adds_applied : (r : Done) (A : Option (List (List ℕ)) → Type 0) (x y : Option (List (List ℕ))) → OnOk r (y ≡ x) → A x → OnOk r (A y)
adds_applied (Ok o) A x y same a = subst A (sym same) a
adds_applied (Err e) A x y same a = tt

-- Answers.

pub on_ok_then : {T E A B : Type 0} (r : Result T E) → (A → B) → OnOk r A → OnOk r B
on_ok_then (Ok x) f a = f a
on_ok_then (Err e) f a = tt

pub on_err_then : {T E A B : Type 0} (r : Result T E) → (A → B) → OnErr r A → OnErr r B
on_err_then (Ok x) f a = tt
on_err_then (Err e) f a = f a

pub on_err_any : {T E A : Type 0} (r : Result T E) → A → OnErr r A
on_err_any (Ok x) a = tt
on_err_any (Err e) a = a

pub if_ok_then : {T E : Type 0} {P Q : T → Type 0} (r : Result T E) → ((x : T) → P x → Q x) → IfOk r P → IfOk r Q
if_ok_then (Ok x) f p = f x p
if_ok_then (Err e) f p = tt

-- a file has its place as long as the disk has its size
pub placed_later : (h : FileHead) (a b : DiskState) → Quiet a b → IsPlaced h a → IsPlaced h b
placed_later h a b quiet placed = record {
  from = placed.from;
  to = subst (λ n. h.start + h.alloc * h.bucket ≤ n) (sym quiet.size) placed.to;
  fits = subst (λ n. n ≤ 65536) (sym quiet.size) placed.fits;
  blocks = placed.blocks;
  one = placed.one;
  least = placed.least;
  records = placed.records;
  greatest = placed.greatest;
}
