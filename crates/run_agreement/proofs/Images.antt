-- The images that a run leaves agree again.
use Rattle.std.specs.Prelude.{if◌then◌else◌, is_some, option_map, ◌≤◌}
use Rattle.std.proofs.Common.{◌≡◌, ℕ, Bool, true, false, List, [], ◌∷◌, Option, Some, None, inl, inr, refl, ap, sym, subst, ◌∙◌}
use Rattle.std.proofs.lemmas.Bool.{cases_Bool}
use Rattle.vms_model.specs.Ids.{Id}
use Rattle.vms_model.specs.Transactions.{Outcome, Commit as ToCommit, Abort as ToAbort}
use Rattle.commit_protocol.specs.Messages.{Name, LogRecord, same_name}
use Rattle.commit_protocol.specs.Table.{Key, first, home_of, coordinator_of, record_key, record_serials, prepared_records, branches_of}
use Rattle.commit_protocol.specs.World as protocol
use Rattle.commit_protocol.specs.World.{In, Step, run, crashed, units_of}
use Rattle.commit_protocol.specs.Agreement.{Distinct}
use Rattle.commit_protocol.specs.Opening.{Opening, Image, IsAgreeing, DistinctKeys, OldIn, OldKey, PreparedIn, WaitsIn, WaitedFor, LastIn, Shows as ShowsCommit, image_in, image_at, in_rack, image_left, images_left, left, log_serials, no_image, or_none, opened}
use Rattle.commit_protocol.proofs.Lists.{same_name-true, in_right}
use Rattle.commit_protocol.proofs.Running.{goes_run}
use Rattle.commit_protocol.proofs.Gathered.{is_shown}
use Rattle.commit_protocol.proofs.Opened.{good_opened}
use Rattle.commit_protocol.proofs.Serials.{parts_apart, apart_distinct, in_serial, serial_in}
use Rattle.run_model.specs.log_laws.Slots.{records_in, committed_of}
use Rattle.run_model.proofs.log_laws.Reading.{permuted_to, permuted_back, committed_distinct, all_again}
use Rattle.run_model.specs.World.{World, Node, Durable, find_node, prepared_left}
use Rattle.run_model.specs.Transcript.{Entry}
use Rattle.run_agreement.specs.Seen.{Resolution, Face, IsFace, IsLeft, landed, left_keys, has_volume, image_of, outcome_of, raw}
use Rattle.run_agreement.specs.Following.{opening_of}
use Rattle.run_agreement.specs.Laws.{IsRun, image_after, images_after, next_opening}
use Rattle.run_agreement.proofs.Events.{up_of_face, down_of_face}
use Rattle.run_agreement.proofs.Left.{told_left}
use Rattle.run_agreement.proofs.Booting.{ready_of, left_form, quiet_lands}
use Rattle.run_agreement.proofs.Openings.{reached_by}

-- Two images show the same, each in some order.
pub record SameImage (i j : Image) : Type 0 where
  pub boot : j.boot ≡ i.boot
  pub last : j.last ≡ i.last
  pub prepared : (r : LogRecord) → In r j.prepared → In r i.prepared
  pub prepared_back : (r : LogRecord) → In r i.prepared → In r j.prepared
  pub committed : (r : LogRecord) → In r j.committed → In r i.committed
  pub committed_back : (r : LogRecord) → In r i.committed → In r j.committed
  pub units : (k : Key) → In k j.units → In k i.units
  pub distinct : Distinct (log_serials i) → Distinct (log_serials j)

pub same_itself : (i : Image) → SameImage i i
same_itself i = record { boot = refl; last = refl; prepared = λ r h. h; prepared_back = λ r h. h; committed = λ r h. h; committed_back = λ r h. h; units = λ k h. h; distinct = λ d. d }

-- images that show the same agree where these do
pub agreeing_same : (o p : Opening) → ((n : Name) → in_rack p n ≡ in_rack o n) → ((n : Name) → SameImage (image_at o n) (image_at p n)) → IsAgreeing o → IsAgreeing p
agreeing_same o p rack same h =
    let prepared : (k : Key) → PreparedIn p k → PreparedIn o k = λ k x. (x.0, (same (home_of k)).prepared x.0 x.1, x.2) in
    let waits : (n : Name) (k : Key) → WaitsIn p n k → WaitsIn o n k = λ n k x. (x.0, (same n).committed x.0 x.1, x.2, x.3) in
    let waits_back : (n : Name) (k : Key) → WaitsIn o n k → WaitsIn p n k = λ n k x. (x.0, (same n).committed_back x.0 x.1, x.2, x.3) in
    let waited : (k : Key) → WaitedFor p k → WaitedFor o k = λ k x. (x.0, waits x.0 k x.1) in
    let last : (k : Key) (out : Outcome) → LastIn p k out → LastIn o k out = λ k out x. (x.0, sym (same x.0).last ∙ x.1) in
    let shows : (t : Id) → ShowsCommit p t → ShowsCommit o t = λ t x. elim x [
      | inl a ↦ inl (a.0, last a.0 ToCommit a.1, a.2)
      | inr a ↦ inr (a.0, (a.1.0, (same a.0).committed a.1.0 a.1.1, a.1.2))
    ] in
    let old : (i : Id) → OldIn o i → OldIn p i = λ i x e. (let P : ℕ → Type 0 = λ m. i.boot ≤ m in subst P (sym (same i.node).boot) (x (sym (rack i.node) ∙ e))) in
    let old_key : (k : Key) → OldKey o k → OldKey p k = λ k x. record { tid = old k.tid x.tid; serial = old k.serial x.serial } in
    record {
      own_prepared = λ n r i. h.own_prepared n r ((same n).prepared r i);
      own_committed = λ n r i. h.own_committed n r ((same n).committed r i);
      own_units = λ n k i. h.own_units n k ((same n).units k i);
      distinct = λ n. (same n).distinct (h.distinct n);
      unprepared = λ n k i x. h.unprepared n k ((same n).units k i) (prepared k x);
      owed = λ k x e. elim (h.owed k (prepared k x) (sym (rack (coordinator_of k)) ∙ e)) [ inl a ↦ inl (waits_back (coordinator_of k) k a) | inr a ↦ inr (λ s. a (shows k.tid s)) ];
      waited_last = λ k x l. h.waited_last k (waited k x) (last k ToAbort l);
      waited_unit = λ n k x i. h.waited_unit n k (waited k x) ((same n).units k i);
      first_last = λ t x l. h.first_last t (shows t x) (last (first t) ToAbort l);
      first_unit = λ n t x i. h.first_unit n t (shows t x) ((same n).units (first t) i);
      last_unit = λ n k out e i. h.last_unit n k out (sym (same n).last ∙ e) ((same n).units k i);
      last_prepared = λ n r out e i. h.last_prepared n r out (sym (same n).last ∙ e) ((same n).prepared r i);
      old_prepared = λ n r i. old_key (record_key r) (h.old_prepared n r ((same n).prepared r i));
      old_waited = λ k x. old_key k (h.old_waited k (waited k x));
      old_committed = λ n r i. old_key (record_key r) (h.old_committed n r ((same n).committed r i));
      old_last = λ k out l. old_key k (h.old_last k out (last k out l));
      old_unit = λ n k i. old_key k (h.old_unit n k ((same n).units k i));
    }

-- Serials of rearranged records.

one_of : (rs : List LogRecord) (q r : LogRecord) → Distinct (record_serials rs) → In q rs → In r rs → q.serial ≡ r.serial → q ≡ r
one_of [] q r d i j e = absurd i
one_of (x ∷ xs) q r d i j e = elim i [
  | inl a ↦ elim j [
    | inl b ↦ a ∙ sym b
    | inr b ↦ absurd (d.0 (let P : Id → Type 0 = λ s. In s (record_serials xs) in subst P (sym e ∙ ap (λ (y : LogRecord). y.serial) a) (in_serial r xs b)))
  ]
  | inr a ↦ elim j [
    | inl b ↦ absurd (d.0 (let P : Id → Type 0 = λ s. In s (record_serials xs) in subst P (e ∙ ap (λ (y : LogRecord). y.serial) b) (in_serial q xs a)))
    | inr b ↦ one_of xs q r d.1 a b e
  ]
]

serials_distinct : (ps qs : List LogRecord) → DistinctKeys ps → ((r : LogRecord) → In r ps → In r qs) → Distinct (record_serials qs) → Distinct (record_serials ps)
serials_distinct [] qs k there d = tt
serials_distinct (r ∷ ps) qs k there d = (
  (λ i. let q = serial_in r.serial ps i in k.0 q.0 q.1 (ap record_key (one_of qs q.0 r d (there q.0 (inr q.1)) (there r (inl refl)) q.2))),
  serials_distinct ps qs k.1 (λ q i. there q (inr i)) d,
)

-- A disk and what the protocol has of it leave the same image.
disk_image : (d : Durable) (y : protocol.Node) (i : Image) → IsLeft d y → i.boot ≡ y.boot → i.last ≡ y.last → prepared_records y.table ≡ i.prepared → i.committed ≡ y.records → ((k : Key) → In k y.lost → In k i.units)
    → (j : Image) → j.boot ≡ d.boot → j.last ≡ option_map outcome_of d.last → j.prepared ≡ prepared_left d → j.committed ≡ committed_of (records_in d.log) → j.units ≡ left_keys d → SameImage i j
disk_image d y i h boot last prepared committed units j jb jl jp jc ju =
    let ready = ready_of d y h in
    let again : prepared_records (branches_of h.records) ≡ h.records = all_again h.records (λ q a. left_form d ready q (h.prepared.back q a)) in
    let records : i.prepared ≡ h.records = sym prepared ∙ (ap prepared_records h.table ∙ again) in
    let there : (r : LogRecord) → In r j.prepared → In r i.prepared = λ r a. (let P : List LogRecord → Type 0 = λ rs. In r rs in subst P (sym records) (h.prepared.there r (subst P jp a))) in
    let c_there : (r : LogRecord) → In r j.committed → In r i.committed = λ r a. (let P : List LogRecord → Type 0 = λ rs. In r rs in subst P (sym committed) (permuted_to (committed_of (records_in d.log)) y.records h.committed r (subst P jc a))) in
    record {
      boot = jb ∙ sym (boot ∙ h.boot);
      last = jl ∙ sym (last ∙ h.last);
      prepared = there;
      prepared_back = λ r a. (let P : List LogRecord → Type 0 = λ rs. In r rs in subst P (sym jp) (h.prepared.back r (subst P records a)));
      committed = c_there;
      committed_back = λ r a. (let P : List LogRecord → Type 0 = λ rs. In r rs in subst P (sym jc) (permuted_back (committed_of (records_in d.log)) y.records h.committed r (subst P committed a)));
      units = λ k a. (let P : List Key → Type 0 = λ ks. In k ks in units k (h.back k (subst P ju a)));
      distinct = λ dist.
          let apart = parts_apart (record_serials i.prepared) (record_serials i.committed) dist in
          let P : List LogRecord → Type 0 = λ rs. DistinctKeys rs in
          let Q : List LogRecord → Type 0 = λ rs. Distinct (record_serials rs) in
          apart_distinct (record_serials j.prepared) (record_serials j.committed) (record {
            one = serials_distinct j.prepared i.prepared (subst P (sym jp) h.prepared.distinct) there apart.one;
            two = subst Q (sym jc) (committed_distinct (records_in d.log) h.distinct);
            apart = λ s a b.
                let q = serial_in s j.prepared a in
                let r = serial_in s j.committed b in
                let S : Id → Type 0 = λ z. In z (record_serials i.prepared) in
                let T : Id → Type 0 = λ z. In z (record_serials i.committed) in
                apart.apart s (subst S q.2 (in_serial q.0 i.prepared (there q.0 q.1))) (subst T r.2 (in_serial r.0 i.committed (c_there r.0 r.1)));
          });
    }

pub face_image : (taken : Bool) (x : Node) (f : Face) → IsFace taken x f → SameImage (image_left f.node) (image_of (landed taken x))
face_image taken x f is = elim (cases_Bool x.up) [
  | inl up ↦
      let u = up_of_face taken x f up is in
      let P : Node → Type 0 = λ z. SameImage (image_left f.node) (image_of z) in
      let Q : protocol.Node → Type 0 = λ y. SameImage (image_left y) (image_of x) in
      subst P (sym (quiet_lands taken x u.quiet)) (subst Q (sym u.node) (disk_image x.durable (crashed (raw [] x)) (image_left (raw [] x)) (told_left [] x u.told) refl refl (restored x.volatile.branches) refl (λ k i. i) (image_of x) refl refl refl refl refl))
  | inr down ↦
      let d = down_of_face taken x f down is in
      disk_image (landed taken x).durable f.node (image_left f.node) d.left refl refl refl refl (λ k i. in_right k (units_of f.node.table) f.node.lost i) (image_of (landed taken x)) refl refl refl refl refl
]
  where
    restored : (bs : List Rattle.commit_protocol.specs.Table.Branch) → prepared_records (branches_of (prepared_records bs)) ≡ prepared_records bs
    restored bs = Rattle.run_model.proofs.log_laws.Reading.kept_again bs (prepared_records bs) (λ q i. i)

-- The images of the nodes of a rack.

pub after_in : (r : Resolution) (v : World) (is : List (Name × Image)) (n : Name) → image_in n (images_after r v is) ≡ (if is_some (image_in n is) then Some (image_after (r n) (find_node n v.nodes)) else None)
after_in r v [] n = refl
after_in r v (i ∷ is) n = go (same_name i.0 n) refl (after_in r v is n)
  where
    go : (b : Bool) → same_name i.0 n ≡ b → image_in n (images_after r v is) ≡ (if is_some (image_in n is) then Some (image_after (r n) (find_node n v.nodes)) else None)
        → (let d : Option Image = if b then Some (image_after (r i.0) (find_node i.0 v.nodes)) else image_in n (images_after r v is) in d) ≡ (if is_some (if b then Some i.1 else image_in n is) then Some (image_after (r n) (find_node n v.nodes)) else None)
    go true e more = ap (λ m. Some (image_after (r m) (find_node m v.nodes))) (same_name-true i.0 n e)
    go false e more = more

left_in : (p : protocol.World) (is : List (Name × Image)) (n : Name) → image_in n (images_left p is) ≡ (if is_some (image_in n is) then Some (image_left (p.nodes n)) else None)
left_in p [] n = refl
left_in p (i ∷ is) n = go (same_name i.0 n) refl (left_in p is n)
  where
    go : (b : Bool) → same_name i.0 n ≡ b → image_in n (images_left p is) ≡ (if is_some (image_in n is) then Some (image_left (p.nodes n)) else None)
        → (let d : Option Image = if b then Some (image_left (p.nodes i.0)) else image_in n (images_left p is) in d) ≡ (if is_some (if b then Some i.1 else image_in n is) then Some (image_left (p.nodes n)) else None)
    go true e more = ap (λ m. Some (image_left (p.nodes m))) (same_name-true i.0 n e)
    go false e more = more

some_if : (b : Bool) (i : Image) → is_some (if b then Some i else None) ≡ b
some_if true i = refl
some_if false i = refl

pub images_of_run : ((o : Opening) → IsAgreeing o → (steps : List Step) → IsAgreeing (left (run steps (opened o)) o)) → (base v : World) (es : List Entry) → IsRun base es v → (r : Resolution) → IsAgreeing (next_opening base r v)
images_of_run law base v es h r = agreeing_same (left p o) (next_opening base r v) racks sames (law o h.agrees x.steps)
  where
    o : Opening
    o = opening_of base

    x : Rattle.run_agreement.specs.Laws.IsReachedBy base r v
    x = reached_by base v es h r

    p : protocol.World
    p = run (reached_by base v es h r).steps (opened (opening_of base))

    racks : (n : Name) → in_rack (next_opening base r v) n ≡ in_rack (left (run (reached_by base v es h r).steps (opened (opening_of base))) (opening_of base)) n
    racks n =
        let w : protocol.World = run (reached_by base v es h r).steps (opened (opening_of base)) in
        let b : Bool = is_some (image_in n (opening_of base).images) in
        (ap is_some (after_in r v (opening_of base).images n) ∙ some_if b (image_after (r n) (find_node n v.nodes))) ∙ sym (ap is_some (left_in w (opening_of base).images n) ∙ some_if b (image_left (w.nodes n)))

    at_name : (n : Name) → is_some (image_in n (opening_of base).images) ≡ true → SameImage (image_left ((run (reached_by base v es h r).steps (opened (opening_of base))).nodes n)) (image_after (r n) (find_node n v.nodes))
    at_name n there = by (find_node n v.nodes) refl
      where
        reached : Rattle.run_agreement.specs.Laws.IsReachedBy base r v
        reached = reached_by base v es h r

        rack : (run (reached_by base v es h r).steps (opened (opening_of base))).rack n ≡ true
        rack = ap (λ (g : Name → Bool). g n) (goes_run (reached_by base v es h r).steps (opened (opening_of base)) (good_opened (opening_of base) h.agrees (is_shown (opening_of base) h.agrees))).rack ∙ there

        seen : is_some ((reached_by base v es h r).shows.faces n) ≡ true
        seen = sym ((reached_by base v es h r).shows.follows.rack n) ∙ rack

        by : (d : Option Node) → find_node n v.nodes ≡ d → SameImage (image_left ((run (reached_by base v es h r).steps (opened (opening_of base))).nodes n)) (image_after (r n) d)
        by None e = absurd (let z : false ≡ true = ap is_some (sym ((reached_by base v es h r).shows.are.absent n e)) ∙ seen in let g : ⊥ = cc in g)
        by (Some y) e = elim (cases_Bool (has_volume y)) [
          | inl sound ↦
              let f = (reached_by base v es h r).shows.are.there n y e sound in
              let P : protocol.Node → Type 0 = λ z. SameImage (image_left z) (image_of (landed (r n) y)) in
              subst P (sym ((reached_by base v es h r).shows.follows.nodes n f.0 f.1)) (face_image (r n) y f.0 f.2)
          | inr unsound ↦ absurd (let z : false ≡ true = ap is_some (sym ((reached_by base v es h r).shows.are.without n y e unsound).0) ∙ seen in let g : ⊥ = cc in g)
        ]

    sames : (n : Name) → SameImage (image_at (left (run (reached_by base v es h r).steps (opened (opening_of base))) (opening_of base)) n) (image_at (next_opening base r v) n)
    sames n =
        let w : protocol.World = run (reached_by base v es h r).steps (opened (opening_of base)) in
        let P : Option Image → Type 0 = λ d. SameImage (or_none d) (image_at (next_opening base r v) n) in
        let Q : Option Image → Type 0 = λ d. SameImage (or_none (if is_some (image_in n (opening_of base).images) then Some (image_left (w.nodes n)) else None)) (or_none d) in
        subst P (sym (left_in w (opening_of base).images n)) (subst Q (sym (after_in r v (opening_of base).images n)) (by (is_some (image_in n (opening_of base).images)) refl))
      where
        by : (b : Bool) → is_some (image_in n (opening_of base).images) ≡ b
            → SameImage (or_none (if b then Some (image_left ((run (reached_by base v es h r).steps (opened (opening_of base))).nodes n)) else None)) (or_none (if b then Some (image_after (r n) (find_node n v.nodes)) else None))
        by true e = at_name n e
        by false e = same_itself no_image
