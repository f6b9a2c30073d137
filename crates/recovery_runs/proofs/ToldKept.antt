-- Recovery can tell of each file of a node, act by act; and where it gives no gap, it gives none behind each act.
use Rattle.std.proofs.Common.{◌≡◌, ◌⊎◌, ◌<◌, ℕ, List, [], ◌∷◌, Bool, true, false, ◌||◌, cond, Option, if◌then◌else◌, refl, sym, ◌∙◌, ap, subst, inl, inr}
use Rattle.std.specs.FinMap.{empty, get}
use Rattle.std.proofs.lemmas.Bool.{both_ways}
use Rattle.vms_model.specs.Ids.{Id}
use Rattle.vms_model.specs.Keys.{Key}
use Rattle.records_model.specs.Records.{Change, Found, Records, applied}
use Rattle.records_model.specs.History.{LiveChanges, changed_it, changes_by, changes_key, records}
use Rattle.records_model.proofs.RecordsLemmas.{get-set_key, same_key}
use Rattle.recovery_model.specs.unit_laws.Units.{IsImage, Map, is_of}
use Rattle.recovery_model.specs.Images.{befores}
use Rattle.recovery_model.specs.File.{FileState, IsStill}
use Rattle.recovery_model.proofs.FileLemmas.{settled_is}
use Rattle.recovery_model.proofs.ImageLemmas.{same_self}
use Rattle.recovery_model.proofs.HoldLemmas.{acts_hold, created_holds, found_holds}
use Rattle.recovery_laws.specs.run_model.World.{File, Settlement, leaving, settled_file, state_of}
use Rattle.recovery_laws.proofs.world_laws.HalfLemmas.{latest_leaving}
use Rattle.recovery_laws.proofs.world_laws.StateLemmas.{settled_follows}
use Rattle.recovery_laws.specs.Led.{IsTold, WasFound, WasMade}
use Rattle.recovery_laws.proofs.LedLemmas.{acts_keep_told}
use Rattle.recovery_model.specs.File as recovery
use Rattle.recovery_laws.specs.run_model.World.{IsHalfUndone}
use Rattle.recovery_laws.specs.Entering.{MayEnterFile}
use Rattle.recovery_laws.specs.Loading.{HasNoGap}
use Rattle.recovery_laws.specs.Gaps.{IsGapless, MayChangeOn}
use Rattle.recovery_laws.specs.Mapped.{IsMapped, WasFoundSo, WasMadeSo}
use Rattle.recovery_model.specs.Acts.{MayHalfAbort}
use Rattle.recovery_runs.specs.LastImages.{LastImagesStand}
use Rattle.recovery_laws.proofs.GapLemmas.{files_stay_gapless, half_gapless, recovered_gapless}
use Rattle.recovery_runs.proofs.LastImageLemmas.{acts_keep_last_images}
use Rattle.recovery_laws.proofs.MappedLemmas.{acts_keep_mapped, mapped_give}
use Rattle.recovery_laws.proofs.PositionLemmas.{no_positions}
use Rattle.recovery_runs.proofs.FilesKept.{ActsKeep}

-- a file that no unsettled branch changed
still_rests : (f : File) → f.history.live ≡ [] → IsStill (state_of f)
still_rests f rests x = ap (λ (ls : List LiveChanges). elim (changes_by x ls) as (λ y. Bool) [ [] ↦ false | c ∷ cs ↦ true ]) rests

-- Changes that leave something else.

-- they found the same
same_befores : (st : Map) (newer cs : List Change) → befores (leaving st newer cs) ≡ befores cs
same_befores st newer [] = refl
same_befores st newer (c ∷ cs) = go (changes_key c.key newer) (same_befores st (c ∷ newer) cs)
  where
    go : (b : Bool) → befores (leaving st (c ∷ newer) cs) ≡ befores cs → befores ((if b then c else record c { after = st c.key }) ∷ leaving st (c ∷ newer) cs) ≡ (c.key, c.before) ∷ befores cs
    go true more = ap (λ xs. (c.key, c.before) ∷ xs) more
    go false more = ap (λ xs. (c.key, c.before) ∷ xs) more

-- those of a key that newer ones changed too are as they were
newer_stay : (st : Map) (newer cs : List Change) (m : Records) (key : Key) → changes_key key newer ≡ true → get (applied (leaving st newer cs) m) key ≡ get (applied cs m) key
newer_stay st newer [] m key h = refl
newer_stay st newer (c ∷ cs) m key h = go (is_of key c) (changes_key c.key newer) refl refl (newer_stay st (c ∷ newer) cs m key (too (is_of key c)))
  where
    too : (b : Bool) → (b || changes_key key newer) ≡ true
    too true = refl
    too false = h

    go : (t b : Bool) → is_of key c ≡ t → changes_key c.key newer ≡ b → get (applied (leaving st (c ∷ newer) cs) m) key ≡ get (applied cs m) key →
        get (applied ((if b then c else record c { after = st c.key }) ∷ leaving st (c ∷ newer) cs) m) key ≡ get (applied (c ∷ cs) m) key
    go t true is new same = get-set_key (applied (leaving st (c ∷ newer) cs) m) c.key key c.after ∙ ap (λ (v : Option (List ℕ)). cond (is_of key c) c.after v) same ∙ sym (get-set_key (applied cs m) c.key key c.after)
    go false false is new same =
        get-set_key (applied (leaving st (c ∷ newer) cs) m) c.key key (st c.key) ∙ ap (λ b. cond b (st c.key) (get (applied (leaving st (c ∷ newer) cs) m) key)) is ∙ same
        ∙ sym (ap (λ b. cond b c.after (get (applied cs m) key)) is) ∙ sym (get-set_key (applied cs m) c.key key c.after)
    go true false is new same = absurd (both_ways _ new (subst (λ k. changes_key k newer ≡ true) (same_key key c.key is) h))

found_leaving : (st : Map) (newer cs : List Change) (m : Records) → Found cs m → Found (leaving st newer cs) m
found_leaving st newer [] m h = tt
found_leaving st newer (c ∷ cs) m h = go (changes_key c.key newer) (found_leaving st (c ∷ newer) cs m h.1)
  where
    own : changes_key c.key (c ∷ newer) ≡ true
    own = ap (λ b. b || changes_key c.key newer) (same_self c.key)

    before : c.before ≡ get (applied (leaving st (c ∷ newer) cs) m) c.key
    before = h.0 ∙ sym (newer_stay st (c ∷ newer) cs m c.key own)

    go : (b : Bool) → Found (leaving st (c ∷ newer) cs) m → Found ((if b then c else record c { after = st c.key }) ∷ leaving st (c ∷ newer) cs) m
    go true more = (before, more)
    go false more = (before, more)

-- Recovery can tell of a file.

module _ (may waits : Id → Bool) where
  -- what unsettled branches changed they found
  told_found : (g : ℕ) (f : File) → IsTold may waits g f → (s : Id) → Found (changes_by s f.history.live) (records f.history)
  told_found g f (inl w) s = (acts_hold may w.acts w.moment w.first g (state_of f) w.leads (found_holds may waits w.moment w.first w.commits w.opening)).kept.sound.found s
  told_found g f (inr w) s = (acts_hold may w.acts w.moment _ g (state_of f) w.leads (created_holds may w.moment w.past)).kept.sound.found s

  -- the abort of a branch that may not commit may be cut short so
  may_half : (g : ℕ) (f : File) (serial : Id) (standing : List ℕ → Map) → IsTold may waits g f → may serial ≡ false → IsHalfUndone serial standing f → MayHalfAbort may serial (leaving (standing f.name) [] (changes_by serial f.history.live)) (state_of f)
  may_half g f serial standing told dies half = record {
    aborts = dies;
    same = same_befores (standing f.name) [] (changes_by serial f.history.live);
    found = found_leaving (standing f.name) [] (changes_by serial f.history.live) (records f.history) (told_found g f told serial);
    images = λ key c. subst (IsImage (changes_by serial f.history.live) key) (sym (latest_leaving serial (standing f.name) key [] (changes_by serial f.history.live) refl c)) (half.images key c);
  }

  -- a settlement of a branch that did not change a file leaves what recovery knows of it
  passed_state : (s : Settlement) (f : File) → changed_it f.history s.serial ≡ false → state_of (settled_file s f) ≡ state_of f
  passed_state s f off = settled_follows s f.history (state_of f) refl ∙ settled_is s.tid s.serial s.outcome s.moment (state_of f) false off

  pub told_acts : ActsKeep may (λ x. may x ≡ false) (IsTold may waits)
  told_acts = record {
    changes = λ g f held tid serial cs shared h m. (acts_keep_told may waits).changes g f held tid serial cs h m.images;
    directs = λ g f held s cs shared h m later commits. (acts_keep_told may waits).directs g f held s cs h m.images later commits;
    settles = λ g f s shared h m. (acts_keep_told may waits).settles g f s h m;
    passes = λ g f s later off h. subst (λ (e : FileState). WasFound may waits s.moment e ⊎ WasMade may s.moment e) (passed_state s f off)
        ((acts_keep_told may waits).settles g f s h (record { later = later; commits = λ here is. absurd (both_ways _ off here) }));
    halves = λ g f serial standing h dies half. (acts_keep_told may waits).halves g f serial standing h (may_half g f serial standing h dies half);
    marks = λ g f mark h rests. (acts_keep_told may waits).marks g f mark h (still_rests f rests);
    saves = λ g f start h rests. (acts_keep_told may waits).saves g f start h (still_rests f rests);
    recovers = λ g f start buckets m h rests gaps. (acts_keep_told may waits).recovers g f start buckets m h (still_rests f rests);
    creates = λ g f made. inr (record { acts = []; moment = g; past = λ u. empty; leads = (refl, made) });
  }

-- A file has no gap.

abbrev pub HasNone : ℕ → File → Type 0
HasNone g f = IsGapless f.organization f.history

may_change : (serial : Id) (cs : List Change) (f : File) → MayEnterFile serial cs f → MayChangeOn serial cs f
may_change serial cs f m = record { free = m.images.free; found = m.images.found; gaps = m.gaps }

bare_gapless : (g : ℕ) (f : File) → state_of f ≡ recovery.created g (λ u. empty) → IsGapless f.organization f.history
bare_gapless g f made = subst (λ (e : FileState). IsGapless f.organization e.timeline.history) (sym made) (record { stands = no_positions f.organization; committed = no_positions f.organization })

pub gapless_acts : (may : Id → Bool) (Doomed : Id → Type 0) → ActsKeep may Doomed HasNone
gapless_acts may Doomed = record {
  changes = λ g f held tid serial cs shared h m. (files_stay_gapless f shared h).changes held tid serial cs (may_change serial cs f m);
  directs = λ g f held s cs shared h m later commits. (files_stay_gapless f shared h).directs held s cs (may_change s.serial cs f m);
  settles = λ g f s shared h m. (files_stay_gapless f shared h).settles s;
  passes = λ g f s later off h. h;
  halves = λ g f serial standing h dies half. half_gapless f serial standing h half.kept;
  marks = λ g f mark h rests. h;
  saves = λ g f start h rests. h;
  recovers = λ g f start buckets m h rests gaps. recovered_gapless f start buckets g m rests gaps;
  creates = λ g f made. bare_gapless g f made;
}

-- Last after images stand.

abbrev pub DoStand : (may : Id → Bool) → ℕ → File → Type 0
DoStand may g f = LastImagesStand may (state_of f)

bare_stands : (may : Id → Bool) (g : ℕ) → LastImagesStand may (recovery.created g (λ u. empty))
bare_stands may g on = let no : ⊥ = cc in absurd no

-- whichever branches are committed, where none of these aborts
pub standing_acts : (may : Id → Bool) → ActsKeep (λ x. true) (λ x. may x ≡ false) (DoStand may)
standing_acts may = record {
  changes = λ g f held tid serial cs shared h m. (acts_keep_last_images may f h).changes held tid serial cs;
  directs = λ g f held s cs shared h m later commits. (acts_keep_last_images may f h).directs held s cs;
  settles = λ g f s shared h m. (acts_keep_last_images may f h).settles s;
  passes = λ g f s later off h. h;
  halves = λ g f serial standing h dies half. (acts_keep_last_images may f h).halves serial standing dies;
  marks = λ g f mark h rests. (acts_keep_last_images may f h).marks mark g;
  saves = λ g f start h rests. (acts_keep_last_images may f h).saves start g;
  recovers = λ g f start buckets m h rests gaps. (acts_keep_last_images may f h).recovers start buckets g m;
  creates = λ g f made. subst (LastImagesStand may) (sym made) (bare_stands may g);
}

-- And what recoveries are to give has none.

module _ (may waits : Id → Bool) where
  abbrev pub IsWhole : ℕ → File → Type 0
  IsWhole g f = IsMapped may waits g f × IsGapless f.organization f.history

  told_of : (g : ℕ) (f : File) → IsMapped may waits g f → IsTold may waits g f
  told_of g f h = (mapped_give may waits g f h).told

  pub whole_acts : ActsKeep may (λ x. may x ≡ false) IsWhole
  whole_acts = record {
    changes = λ g f held tid serial cs shared h m. ((acts_keep_mapped may waits).changes g f held tid serial cs h.0 m.images, (none may).changes g f held tid serial cs shared h.1 m);
    directs = λ g f held s cs shared h m later commits. let gaps = (none may).directs g f held s cs shared h.1 m later commits in ((acts_keep_mapped may waits).directs g f held s cs h.0 m.images later commits gaps.committed, gaps);
    settles = λ g f s shared h m. let gaps = (none may).settles g f s shared h.1 m in ((acts_keep_mapped may waits).settles g f s h.0 m gaps.committed, gaps);
    passes = λ g f s later off h. (passed g f s later off h.0 h.1, h.1);
    halves = λ g f serial standing h dies half. ((acts_keep_mapped may waits).halves g f serial standing h.0 (may_half may waits g f serial standing (told_of g f h.0) dies half), (none may).halves g f serial standing h.1 dies half);
    marks = λ g f mark h rests. ((acts_keep_mapped may waits).marks g f mark h.0 (still_rests f rests), h.1);
    saves = λ g f start h rests. ((acts_keep_mapped may waits).saves g f start h.0 (still_rests f rests), h.1);
    recovers = λ g f start buckets m h rests gaps. ((acts_keep_mapped may waits).recovers g f start buckets m h.0 (still_rests f rests) gaps, (none may).recovers g f start buckets m h.1 rests gaps);
    creates = λ g f made. (inr (record { made = record { acts = []; moment = g; past = λ u. empty; leads = (refl, made) }; each = no_positions f.organization }), bare_gapless g f made);
  }
    where
      none : (m : Id → Bool) → ActsKeep m (λ x. m x ≡ false) HasNone
      none m = gapless_acts m (λ x. m x ≡ false)

      passed : (g : ℕ) (f : File) (s : Settlement) → g < s.moment → changed_it f.history s.serial ≡ false → IsMapped may waits g f → IsGapless f.organization f.history → IsMapped may waits s.moment f
      passed g f s later off h gaps =
          let state = passed_state may waits s f off in
          subst (λ (e : FileState). WasFoundSo f.organization may waits s.moment e ⊎ WasMadeSo f.organization may s.moment e) state
          ((acts_keep_mapped may waits).settles g f s h (record { later = later; commits = λ here is. absurd (both_ways _ off here) })
          (subst (λ (e : FileState). HasNoGap f.organization (records e.timeline.history)) (sym state) gaps.committed))
