-- RECOVER, from what the code knows.
use Rattle.std.proofs.Common.{◌≡◌, ⊎_elim, ℕ, ◌+◌, ◌-◌, ◌*◌, ◌<◌, ◌≤◌, ◌^◌, List, [], ◌∷◌, Bool, true, false, Option, Some, None, IfSome, Result, Ok, Err, length, length-set, map, nat_lt, option_map, slice_set, refl, sym, ap, subst, ◌∙◌, arith, inl, inr}
use Rattle.std.specs.Prelude.{IsSomeAnd, MatchOption}
use Rattle.std.specs.FinMap.{entries}
use Rattle.std.proofs.lemmas.Bool.{cases_lt}
use Rattle.careful_write.specs.Content.{content_of}
use Rattle.careful_write.specs.State.{EachWhole, Leaves}
use Rattle.careful_write.specs.declared.down.Down.{Down}
use Rattle.file_base.specs.declared.head.FileHead.{FileHead}
use Rattle.file_base.specs.declared.head.Span.{Span}
use Rattle.file_recoveries.specs.Causes as causes
use Rattle.file_recoveries.specs.Causes.{cause_of, refusal_by, refusal_of}
use Rattle.file_recoveries.specs.declared.causes.Way.{Way}
use Rattle.file_recoveries.specs.declared.causes.Way.TheVariants as way
use Rattle.file_recoveries.specs.declared.errors.RecoverErr.{RecoverErr}
use Rattle.file_recoveries.specs.declared.errors.RecoverErr.TheVariants as err
use Rattle.file_recoveries.proofs.AllowedLemmas.{no_user, unused}
use Rattle.journal_format.specs.journal_model.Ring.{ring_size}
use Rattle.recovered_nodes.specs.load_laws.Records.{Keyed}
use Rattle.recovered_nodes.specs.recover_rms.Calls.{AreInRings, FellRecovering, HasNoRoom, IsRecovered, IsRefused, NotRecovered}
use Rattle.recovered_nodes.specs.recover_rms.Loading.{as_loaded}
use Rattle.recovered_nodes.specs.recover_rms.Replacing.{IsHeadWith, IsOldOrNew, ReplacesIn, wanted_buckets, with_head}
use Rattle.file_images.specs.recovery_model.Recovery.{rolled}
use Rattle.recovered_nodes.specs.Recovering.{IsRecoveredHead, IsRenewed}
use Rattle.recovered_nodes.specs.Laws.{IsAllowed, StandsThere, records_made, recovery_act}
use Rattle.emitter_model.specs.transcript_model.Lines as line
use Rattle.emitter_model.specs.transcript_model.Lines.{Line}
use Rattle.emitter_model.specs.Emitting.{Shown, Emits}
use Rattle.emitter_model.proofs.EmittingLemmas.{emits_nothing, since_same}
use Rattle.script_lang.specs.script_model.Statements.{Recover, Recovery}
use Rattle.vms_base.specs.Ids.{serial_of}
use Rattle.vms_base.specs.declared.ids.Serial.{Serial}
use Rattle.vms_model.specs.Ids.{Id}
use Rattle.volume.specs.declared.catalog.Catalog.{Catalog}
use Rattle.volume.specs.Catalogs.{IsSound}
use Rattle.volume.specs.State.{SameVolume}
use Rattle.recovery_units.specs.volume_model.Volumes.{HasDisk, IsEitherOf}
use Rattle.file_images.specs.run_model.World.{Node, Shared, acted, fallen, longest_free, state_of}
use Rattle.file_images.specs.run_model.Answers.{Service, blocks_recovered, records_recovered, recovers, recovery_refused, refusal_line, service, silent, volume_full, way_of}
use Rattle.file_images.specs.run_model.Operations.{first_of, refused_if}
use Rattle.directory_model.specs.Files.{IsNamed, NoneNamed, head_at}
use Rattle.recovery_units.specs.image_appends.declared.side.Side.TheVariants.{After, Before}
use Rattle.recovery_units.specs.image_room.Room.{AllSettlementsFit, images_end}
use Rattle.unit_table.specs.Units as units
use Rattle.recovery_units.specs.State.{IsEarly, IsInOrder, IsKept}
use Rattle.node_standing.specs.node_table.Serving.{service_at}
use Rattle.node_standing.specs.node_table.Standing.{Stored}
use Rattle.file_requests.specs.Recovering.{AnswersRecovery, LacksMemory, Recovers, cause_line}
use Rattle.file_requests.specs.Replying.{IsPlain}
use Rattle.file_requests.specs.Serving.{DoesThere, IsReady, SameStored, ServesFile, disk_of, name_of}
use Rattle.file_requests.specs.TheLaws.{TheLaws}
use Rattle.file_requests.specs.declared.recovery.Reply.{Reply}
use Rattle.file_requests.specs.declared.recovery.Reply.TheVariants.{Told, NoMemory}
use Rattle.file_requests.proofs.Calls.{caused_counts, goes_counts, grows_still}
use Rattle.file_requests.proofs.Filing.{recover_absent, recover_early, user_is}
use Rattle.file_requests.proofs.FileLemmas.{FileAt, file_at_name, no_file}
use Rattle.file_requests.proofs.HeadWrites.{Content, disk_sound, same_some}
use Rattle.file_requests.proofs.Kept.{keeps_same}
use Rattle.file_requests.proofs.Marking.{below_is, far_of, not_below, rings_of}
use Rattle.file_requests.proofs.Reading.{order_still}
use Rattle.file_requests.proofs.Replied.{quiet_none, replies_one, since_emits}
use Rattle.file_requests.proofs.RingHeads.{end_at, fits_within}
use Rattle.file_requests.proofs.Served.{cut_act, cut_first, first_is, refused, second_is, served}

-- How causes are shown.

-- whether the head of the file tells a cause alone
abbrev pub IsOfHead : RecoverErr → Type 0
IsOfHead err.Memory = ⊥
IsOfHead (err.Down down) = ⊥
IsOfHead (err.Full free needed) = ⊥
IsOfHead _ = Unit {0}

cause_said : (e : RecoverErr) (w : Way) (l : Line) → IsOfHead e → cause_line e w ≡ Some l → option_map refusal_line (refusal_of w e) ≡ Some l
cause_said err.NoJournal (way.Forward until) l of is = is
cause_said err.NoJournal (way.Backward until) l of is = is
cause_said err.NoSave (way.Forward until) l of is = is
cause_said err.NoSave (way.Backward until) l of is = is
cause_said (err.InUse serial) (way.Forward until) l of is = is
cause_said (err.InUse serial) (way.Backward until) l of is = is
cause_said (err.Early until save) (way.Forward u) l of is = is
cause_said (err.Early until save) (way.Backward u) l of is = is
cause_said (err.Span needed first) (way.Forward until) l of is = is
cause_said (err.Span needed first) (way.Backward until) l of is = is
cause_said err.Memory w l of is = absurd of
cause_said (err.Down down) w l of is = absurd of
cause_said (err.Full free needed) w l of is = absurd of

told_plain : (e : RecoverErr) (w : Way) (l : Line) → cause_line e w ≡ Some l → IsPlain l
told_plain err.NoJournal w l is = subst IsPlain (let same : line.NoJournal ≡ l = cc in same) (refl, refl)
told_plain err.NoSave w l is = subst IsPlain (let same : line.NoSave ≡ l = cc in same) (refl, refl)
told_plain (err.InUse serial) w l is = subst IsPlain (let same : line.FileLocked (serial_of serial) ≡ l = cc in same) (refl, refl)
told_plain (err.Early until save) w l is = subst IsPlain (let same : line.TooEarly until.0 save.0 ≡ l = cc in same) (refl, refl)
told_plain (err.Span needed first) (way.Forward until) l is = subst IsPlain (let same : line.PositionsMissing needed first ≡ l = cc in same) (refl, refl)
told_plain (err.Span needed first) (way.Backward until) l is = subst IsPlain (let same : line.MomentsMissing needed first ≡ l = cc in same) (refl, refl)
told_plain (err.Full free needed) w l is = subst IsPlain (let same : line.VolumeFull free needed ≡ l = cc in same) (refl, refl)
told_plain err.Memory w l is = let no : ⊥ = cc in absurd no
told_plain (err.Down down) w l is = let no : ⊥ = cc in absurd no

-- what is stored is the same but for reads
pub stored_same : (u after : Stored) → after.units ≡ u.units → after.in_doubt ≡ u.in_doubt → SameVolume u.volume after.volume → SameStored u after
stored_same u after units doubts same = λ i. record { volume = same i; units = units i; in_doubt = doubts i }

-- a file's journals lie in their rings, and end far before the greatest position
pub rings_at : (u : Stored) → IsInOrder u.units u.volume → IsEarly u.volume → (f : ℕ) (head : FileHead) → head_at u.volume.catalog.heads f ≡ Some head → AreInRings head
rings_at u o early f head there =
    let ends = end_at u.volume.catalog.heads f head there in
    let low = early.images in
    record {
      after = λ marked. fits_within After head f (map Some u.units.begun) (o.images f head there).0 marked;
      before = λ marked. fits_within Before head f (map Some u.units.begun) (o.images f head there).1 marked;
      after_low = (let end = ends.0 in omega (arith, low, end));
      before_low = (let end = ends.1 in omega (arith, low, end));
    }

some_line : {x y : Line} → ◌≡◌ {A = Option Line} (Some x) (Some y) → x ≡ y
some_line e = cc

-- a told content has another behind it
there_is : (old new : Option Content) (a : Content) (P : Content → Content → Type 0) → old ≡ Some a → MatchOption old (new ≡ None) (λ x. IsSomeAnd new (P x)) → (b : Content) × (new ≡ Some b) × P a b
there_is None new a P is m = let no : ⊥ = cc in absurd no
there_is (Some x) None a P is m = absurd m
there_is (Some x) (Some b) a P is m = (b, refl, subst (λ y. P y b) (same_some x a is) m)

-- rings that begin anew
renewed_fits : (marked : Bool) (s t : Span) → IsRenewed marked s t → marked ≡ true → t.end - t.first ≤ ring_size t
renewed_fits true s t is on = subst (λ (x : Span). x.end - x.first ≤ ring_size x) (sym is) (omega arith)
renewed_fits false s t is on = let no : ⊥ = cc in absurd no

renewed_end : (marked : Bool) (s t : Span) → IsRenewed marked s t → t.end ≤ s.end + 512
renewed_end true s t is = let end = ap (λ (x : Span). x.end) is in omega (arith, end)
renewed_end false s t is = let end = ap (λ (x : Span). x.end) is in omega (arith, end)

module _ (name : List ℕ) (u : Stored) (o : IsInOrder u.units u.volume) (laws : TheLaws) (r : Recovery) where
  abbrev asks : Service
  asks = service (Recover name r)

  -- it was refused, and all is as it was but for reads
  refused_by : (after : Stored) (l : Line) (a b : Shown) → after.units ≡ u.units → SameStored u after → IsPlain l → Emits a (l ∷ []) b → ((s : Shared) (n : Node) → IsReady u n → (let q = service_at asks s n in first_of q.early q.late ≡ Some l)) → ServesFile {T = Reply} (Ok Told) asks u after a b
  refused_by after l a b units same plain m is = record {
    keeps = keeps_same Told u after a b l o same plain m;
    units = units;
    serves = λ s n ready. refused (service_at asks s n) s n a b (SameStored u after) (IsKept after.units after.volume) (disk_of after) Reply Told l (is s n ready) same m;
  }

  pub recover_none : (a b : Shown) → NoneNamed u.volume.catalog.heads 64 name → Emits a (line.FileNotFound ∷ []) b → ServesFile {T = Reply} (Ok Told) asks u u a b
  recover_none a b none m = refused_by u line.FileNotFound a b refl refl (refl, refl) m (λ s n ready. let q = service_at asks s n in first_is q.early q.late line.FileNotFound (recover_absent s n name (no_file n u ready.kept laws name none) r))

  module _ (f : ℕ) (head : FileHead) (there : IsNamed u.volume.catalog.heads f head name) (w : Way) (said : causes.way_of w ≡ way_of r) (user : Option Serial) (used : option_map serial_of user ≡ units.first_to_change f u.units.begun)
      (each : IfSome u.volume.store.current EachWhole) (sized : IfSome u.volume.store.current (λ c. length c + 518 ≡ (disk_of u).size)) where
    module _ (n : Node) (ready : IsReady u n) where
      abbrev k : IsKept u.units u.volume n
      k = ready.kept

      abbrev at_name : FileAt n u k f head name
      at_name = file_at_name n u k laws f head name there

      stands : StandsThere u.units u.volume n f head name at_name.file k.content
      stands = record {
        kept = k;
        up = ready.up;
        order = o;
        named = there;
        found = at_name.at.found;
        told = k.told;
        whole = subst (λ x. IfSome x EachWhole) k.told each;
        long = subst (λ x. IfSome x (λ c. length c + 518 ≡ (disk_of u).size)) k.told sized;
      }

      early_is : (s : Shared) → (service_at asks s n).early ≡ option_map refusal_line (refusal_by w (cause_of head w user))
      early_is s = recover_early n u k laws f head name there s r
          ∙ laws.recoveries.refused u.units u.volume n f head name at_name.file k.content r w user stands said (used ∙ sym (user_is n f at_name.file at_name.at.there u.units.begun n.volatile.branches k.branches k.each))

      late_is : (s : Shared) → (service_at asks s n).late ≡ volume_full n (blocks_recovered r at_name.file)
      late_is s = λ i. elim (at_name.at.found i) [ Some g ↦ volume_full n (blocks_recovered r g) | None ↦ None ]

    -- What the head refuses.

    pub recover_refused : (e : RecoverErr) (l : Line) (after : Stored) (a b : Shown) → IsOfHead e → cause_line e w ≡ Some l → IsRefused e w user head u.volume after.volume → after.units ≡ u.units → after.in_doubt ≡ u.in_doubt → Emits a (l ∷ []) b → ServesFile {T = Reply} (Ok Told) asks u after a b
    recover_refused e l after a b of is refuses units doubts m =
        refused_by after l a b units (stored_same u after units doubts (subst (SameVolume u.volume) (sym refuses.0) refl)) (told_plain e w l is) m
        (λ s n ready. let q = service_at asks s n in first_is q.early q.late l (early_is n ready s ∙ ap (λ x. option_map refusal_line (refusal_by w x)) refuses.1 ∙ cause_said e w l of is))

    -- What it does not.
    module _ (allowed : cause_of head w user ≡ None) where
      is_allowed : IsAllowed head w r
      is_allowed = record { said = said; allowed = no_user head w user allowed }

      unchanged : units.first_to_change f u.units.begun ≡ None
      unchanged = sym used ∙ ap (option_map serial_of) (unused head w user allowed)

      unrefused : (s : Shared) (n : Node) → IsReady u n → (service_at asks s n).early ≡ None
      unrefused s n ready = early_is n ready s ∙ ap (λ x. option_map refusal_line (refusal_by w x)) allowed

      pub recover_lacks : (after : Stored) (a b : Shown) → after.units ≡ u.units → after.in_doubt ≡ u.in_doubt → SameVolume u.volume after.volume → b ≡ a → LacksMemory asks u after a b
      recover_lacks after a b units doubts same shown = record { order = order_still u after (stored_same u after units doubts same) o; same = stored_same u after units doubts same; shown = shown; unrefused = unrefused }

      needed_is : (n : Node) (ready : IsReady u n) → wanted_buckets head (records_made head r (at_name n ready).file) * head.bucket ≡ blocks_recovered r (at_name n ready).file
      needed_is n ready = laws.recoveries.needed u.units u.volume n f head name (at_name n ready).file (k n ready).content r w (stands n ready) is_allowed

      -- the records by the way of the statement
      made_as : (n : Node) (ready : IsReady u n) → as_loaded head (rolled (causes.way_of w) (state_of (at_name n ready).file)) ≡ records_made head r (at_name n ready).file
      made_as n ready = ap (λ x. as_loaded head (rolled x (state_of (at_name n ready).file))) said

      pub recover_full : (free needed : ℕ) (after : Stored) (a b : Shown) → HasNoRoom f w user head free needed u.volume after.volume → after.units ≡ u.units → after.in_doubt ≡ u.in_doubt → Emits a (line.VolumeFull free needed ∷ []) b → ServesFile {T = Reply} (Ok Told) asks u after a b
      recover_full free needed after a b lacks units doubts m =
          refused_by after (line.VolumeFull free needed) a b units (stored_same u after units doubts lacks.same) (refl, refl) m
          (λ s n ready.
          let q = service_at asks s n in
          let file = (at_name n ready).file in
          let longest = laws.recoveries.longest u.units u.volume n free ready.kept o lacks.longest in
          let need : needed ≡ blocks_recovered r file = lacks.needed_is (k n ready).content (state_of file) (laws.recoveries.asked u.units u.volume n f head name file (k n ready).content r w (stands n ready) is_allowed)
          ∙ ap (λ (es : List Keyed). wanted_buckets head es * head.bucket) (made_as n ready) ∙ needed_is n ready in
          second_is q.early q.late (line.VolumeFull free needed) (unrefused s n ready)
          (late_is n ready s ∙ (λ i. refused_if (nat_lt (longest i) (sym need i)) (line.VolumeFull (longest i) (sym need i))) ∙ ap (λ t. refused_if t (line.VolumeFull free needed)) (below_is free needed lacks.fewer)))

      -- Its act.

      rows_are : (s : Shared) (n : Node) (ready : IsReady u n) → (service_at asks s n).rows ≡ silent (recovery_act n name r (at_name n ready).file) ∷ []
      rows_are s n ready = λ i. elim ((at_name n ready).at.found i) [ Some g ↦ recovers n name r g | None ↦ [] ]

      answer_is : (s : Shared) (n : Node) (ready : IsReady u n) → (service_at asks s n).answer ≡ line.NormalCount (length (entries (records_recovered r (at_name n ready).file)))
      answer_is s n ready = λ i. elim ((at_name n ready).at.found i) [ Some g ↦ line.NormalCount (length (entries (records_recovered r g))) | None ↦ line.Normal ]

      -- Whether there is room at a node.

      late_none : (s : Shared) (n : Node) (ready : IsReady u n) → blocks_recovered r (at_name n ready).file ≤ longest_free n → (service_at asks s n).late ≡ None
      late_none s n ready enough = late_is n ready s ∙ ap (λ t. refused_if t (line.VolumeFull (longest_free n) (blocks_recovered r (at_name n ready).file))) (not_below (longest_free n) (blocks_recovered r (at_name n ready).file) enough)

      -- What is written.
      module _ (early : IsEarly u.volume) where
        ends_here : (head.ai.end ≤ images_end u.volume.catalog.heads) × (head.bi.end ≤ images_end u.volume.catalog.heads)
        ends_here = end_at u.volume.catalog.heads f head there.there

        rings : AreInRings head
        rings = rings_at u o early f head there.there

        -- a head with records that it makes has room at each node
        enough : (n : Node) (ready : IsReady u n) (new : FileHead) → IsHeadWith u.volume.catalog head (records_made head r (at_name n ready).file) new → blocks_recovered r (at_name n ready).file ≤ longest_free n
        enough n ready new with_it =
            let fits = laws.recoveries.enough u.units u.volume n head new (records_made head r (at_name n ready).file) ready.kept o with_it in
            let needed = needed_is n ready in
            let buckets = ap (λ (x : ℕ). x * head.bucket) with_it.buckets in
            omega (arith, fits, needed, buckets)

        -- The file is recovered.
        module _ (count : ℕ) (after : Stored) (units : after.units ≡ u.units) (doubts : after.in_doubt ≡ u.in_doubt) (it : IsRecovered f w user head count u.volume after.volume) (whole : IfSome after.volume.store.current EachWhole) where
          abbrev new : FileHead
          new = it.replaced.new

          catalog : after.volume.catalog ≡ with_head f new u.volume.catalog
          catalog = it.replaced.catalog

          size : (disk_of after).size ≡ (disk_of u).size
          size = it.replaced.quiet.size

          is_head : IsRecoveredHead u.volume.catalog.home.greatest_moment.0 head new
          is_head = laws.recoveries.heads u.volume.catalog head new it.records it.replaced.head

          sound : IsSound (name_of u) (disk_of u).size (with_head f new u.volume.catalog)
          sound = laws.recoveries.sound (name_of u) (disk_of u).size u.volume.catalog f head new it.records o.sound o.heads there.there rings it.replaced.head

          fit : AllSettlementsFit (map Some u.units.begun) (slice_set u.volume.catalog.heads f (Some new))
          fit = rings_of u o early laws f head there.there unchanged new
              (λ marked. renewed_fits head.marks.ai head.ai new.ai is_head.after (sym (ap (λ (x : FileHead). x.marks.ai) is_head.is) ∙ marked))
              (λ marked. renewed_fits head.marks.bi head.bi new.bi is_head.before (sym (ap (λ (x : FileHead). x.marks.bi) is_head.is) ∙ marked))

          far : images_end (slice_set u.volume.catalog.heads f (Some new)) ≤ images_end u.volume.catalog.heads + 2 ^ 24
          far = far_of u o early laws f head there.there unchanged new
              (let later = renewed_end head.marks.ai head.ai new.ai is_head.after in let e = ends_here.0 in omega (arith, later, e))
              (let later = renewed_end head.marks.bi head.bi new.bi is_head.before in let e = ends_here.1 in omega (arith, later, e))

          order : IsInOrder after.units after.volume
          order = subst (λ st. IsInOrder st after.volume) (sym units) (record {
            idle = it.replaced.idle;
            frames = rw it.replaced.pool o.frames;
            heads = rw catalog (length-set u.volume.catalog.heads f (Some new) ∙ o.heads);
            sound = subst (λ (c : Catalog). IsSound c.home.node (disk_of after).size c) (sym catalog) (subst (λ x. IsSound (name_of u) x (with_head f new u.volume.catalog)) (sym size) sound);
            holds = it.replaced.holds o.holds;
            least = subst (λ x. 4096 ≤ x) (sym size) o.least;
            most = subst (λ x. x ≤ 65536) (sym size) o.most;
            ascends = rw catalog o.ascends;
            room = rw catalog o.room;
            within = rw catalog o.within;
            few = o.few;
            slots = rw catalog o.slots;
            images = rw catalog fit;
          })

          -- at a node
          module _ (n : Node) (ready : IsReady u n) where
            abbrev content : Content
            content = (k n ready).content

            made : it.records ≡ records_made head r (at_name n ready).file
            made = it.made content (state_of (at_name n ready).file) (laws.recoveries.asked u.units u.volume n f head name (at_name n ready).file content r w (stands n ready) is_allowed) ∙ made_as n ready

            with_it : IsHeadWith u.volume.catalog head (records_made head r (at_name n ready).file) new
            with_it = subst (λ (es : List Keyed). IsHeadWith u.volume.catalog head es new) made it.replaced.head

            replaced : (b : Content) × (after.volume.store.current ≡ Some b) × ReplacesIn f u.volume.catalog head it.records content b new
            replaced = there_is u.volume.store.current after.volume.store.current content (λ a b. ReplacesIn f u.volume.catalog head it.records a b new) (k n ready).told it.replaced.told

            stood : IsKept after.units after.volume (acted (recovery_act n name r (at_name n ready).file) n)
            stood = subst (λ st. IsKept st after.volume (acted (recovery_act n name r (at_name n ready).file) n)) (sym units)
                (laws.recoveries.recovers u.units u.volume after.volume n f head new name (at_name n ready).file content replaced.0 r w (stands n ready) is_allowed unchanged
                (subst (λ (es : List Keyed). ReplacesIn f u.volume.catalog head es content replaced.0 new) made replaced.2) catalog size replaced.1 (subst (λ x. IfSome x EachWhole) replaced.1 whole))

            count_is : count ≡ length (entries (records_recovered r (at_name n ready).file))
            count_is = it.replaced.counted ∙ ap length made ∙ laws.recoveries.counted u.units u.volume n f head name (at_name n ready).file content r (stands n ready)

          pub recover_done : (a b : Shown) → Emits a (line.NormalCount count ∷ []) b → ServesFile {T = Reply} (Ok Told) asks u after a b
          recover_done a b m = record {
            keeps = record {
              order = order;
              in_doubt = doubts;
              grows = (let done : Result (Unit {0}) Down = Ok tt in grows_still u.volume after.volume (ap (λ (c : Catalog). c.home) catalog) (ap (λ (c : Catalog). c.ru) catalog) it.replaced.pool (goes_counts done (disk_of u) (disk_of after) it.replaced.quiet));
              images = rw catalog far;
              cause = tt;
              since = since_emits a b _ m;
              replies = replies_one a b (line.NormalCount count) m (refl, refl);
            };
            units = units;
            serves = λ s n ready.
                let q = service_at asks s n in
                served q s n a b (SameStored u after) (IsKept after.units after.volume) (disk_of after) Reply Told (recovery_act n name r (at_name n ready).file) []
                (ap (λ x. first_of x q.late) (unrefused s n ready) ∙ late_none s n ready (enough n ready new (with_it n ready))) (rows_are s n ready) refl (stood n ready)
                (subst (λ x. Emits a (x ∷ []) b) (ap line.NormalCount (count_is n ready) ∙ sym (answer_is s n ready)) m);
          }

        -- The disk went down.
        module _ (e : Down) (after : Stored) (units : after.units ≡ u.units) (doubts : after.in_doubt ≡ u.in_doubt) (it : FellRecovering f w user head e u.volume after.volume) where
          module _ (n : Node) (ready : IsReady u n) where
            left : Leaves (IsOldOrNew f u.volume.catalog head (records_made head r (at_name n ready).file) (k n ready).content) (disk_of after)
            left = subst (λ (es : List Keyed). Leaves (IsOldOrNew f u.volume.catalog head es (k n ready).content) (disk_of after)) (made_as n ready)
                (it.leaves (k n ready).content (state_of (at_name n ready).file) (laws.recoveries.asked u.units u.volume n f head name (at_name n ready).file (k n ready).content r w (stands n ready) is_allowed))

            -- where there is room, what is left is either
            has_either : HasDisk (fallen (Some (recovery_act n name r (at_name n ready).file)) n) (disk_of after)
            has_either = disk_sound (fallen (Some (recovery_act n name r (at_name n ready).file)) n) (disk_of after) (k n ready).has.home.volume
                (λ image may. let x = left image may in
                (x.0, laws.recoveries.left u.units u.volume n f head name (at_name n ready).file (k n ready).content (content_of image) r w (stands n ready) is_allowed unchanged rings x.1))

            -- and else what was there
            old_alone : (d : Content) → longest_free n < blocks_recovered r (at_name n ready).file → IsOldOrNew f u.volume.catalog head (records_made head r (at_name n ready).file) (k n ready).content d → IsEitherOf (fallen None n) d
            old_alone d few (inl agrees) = inl (laws.recoveries.stays u.units u.volume n (k n ready).content d None ready.kept o (k n ready).told agrees)
            old_alone d few (inr there_new) = let room = enough n ready there_new.0 there_new.1.head in absurd (omega (arith, room, few))

            has_old : longest_free n < blocks_recovered r (at_name n ready).file → HasDisk (fallen None n) (disk_of after)
            has_old few = disk_sound (fallen None n) (disk_of after) (k n ready).has.home.volume (λ image may. let x = left image may in (x.0, old_alone (content_of image) few x.1))

            cut : (s : Shared) (a : Shown) → DoesThere {T = Reply} (Err e) (service_at asks s n) s n u after a a
            cut s a = ⊎_elim
                (λ few. cut_first (service_at asks s n) s n a a (SameStored u after) (IsKept after.units after.volume) (disk_of after) Reply e (unrefused s n ready) (has_old few) (emits_nothing a))
                (λ room. cut_act (service_at asks s n) s n a a (SameStored u after) (IsKept after.units after.volume) (disk_of after) Reply e (recovery_act n name r (at_name n ready).file) [] (unrefused s n ready) (late_none s n ready room) (rows_are s n ready) refl has_either (emits_nothing a))
                (cases_lt (longest_free n) (blocks_recovered r (at_name n ready).file))

          pub recover_fell : (a : Shown) → ServesFile {T = Reply} (Err e) asks u after a a
          recover_fell a =
              let fell : Result (Unit {0}) Down = Err e in
              record {
                keeps = record {
                  order = tt;
                  in_doubt = doubts;
                  grows = grows_still u.volume after.volume it.home it.ru it.pool (goes_counts fell (disk_of u) (disk_of after) it.counts);
                  images = tt;
                  cause = caused_counts fell (disk_of u) (disk_of after) it.counts;
                  since = since_same a;
                  replies = quiet_none a a (emits_nothing a);
                };
                units = units;
                serves = λ s n ready. cut n ready s a;
              }

    -- By what the call answered.
    module _ (early : IsEarly u.volume) (after : Stored) (units : after.units ≡ u.units) (doubts : after.in_doubt ≡ u.in_doubt) (out : Result Reply Down) (a b : Shown) where
      by_head : (e : RecoverErr) → IsOfHead e → IsRefused e w user head u.volume after.volume → ((l : Line) × (cause_line e w ≡ Some l) × (out ≡ Ok Told) × Emits a (l ∷ []) b) → Recovers out asks u after a b
      by_head e of nr t = subst (λ x. Recovers x asks u after a b) (sym t.2) (recover_refused e t.0 after a b of t.1 nr units doubts t.3)

      pub recover_told : (e : RecoverErr) → NotRecovered f w user head e u.volume after.volume → AnswersRecovery e w out a b → Recovers out asks u after a b
      recover_told err.NoJournal nr t = by_head err.NoJournal tt nr t
      recover_told err.NoSave nr t = by_head err.NoSave tt nr t
      recover_told (err.InUse serial) nr t = by_head (err.InUse serial) tt nr t
      recover_told (err.Early until save) nr t = by_head (err.Early until save) tt nr t
      recover_told (err.Span needed first) nr t = by_head (err.Span needed first) tt nr t
      recover_told err.Memory nr t = subst (λ x. Recovers x asks u after a b) (sym t.0) (recover_lacks nr.allowed after a b units doubts nr.same t.1)
      recover_told (err.Full free needed) nr t =
          let l : line.VolumeFull free needed ≡ t.0 = some_line t.1 in
          subst (λ x. Recovers x asks u after a b) (sym t.2) (recover_full nr.allowed free needed after a b nr units doubts (subst (λ x. Emits a (x ∷ []) b) (sym l) t.3))
      recover_told (err.Down down) nr t =
          subst (λ x. Recovers x asks u after a b) (sym t.0) (subst (λ x. ServesFile {T = Reply} (Err down) asks u after a x) (sym t.1) (recover_fell nr.allowed early down after units doubts nr a))
