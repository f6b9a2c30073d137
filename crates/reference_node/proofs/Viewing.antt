-- Which act has an effect; and what acts on committed records show.
use Rattle.std.proofs.Common.{◌≡◌, Bool, true, false, List, [], ◌∷◌, Option, inl, inr, refl, ap, sym, subst}
use Rattle.std.specs.Prelude.{if◌then◌else◌}
use Rattle.world_laws.specs.transcript_model.Lines as line
use Rattle.world_laws.specs.transcript_model.Lines.{Line}
use Rattle.commit_protocol.specs.Effects.{Effect, PrepareEffect, SettleEffect, KeepEffect, ForgetEffect, SendEffect, TellEffect, JoinedEffect, StartedEffect, ReadOnlyEffect, EndedEffect, act_effects, acknowledge_effects, record_effects, release_effects}
use Rattle.commit_protocol.specs.Messages.{LogRecord, Name}
use Rattle.commit_protocol.specs.Table.{Act, Accepts, Acknowledges, Branch, Child, Ended, Key, Leaves, Notes, Prepares, Prints, Releases, Sends, Settles, Started, Told, Undoes, acknowledge, acknowledged, holding, holds, keep_record, nothing_left, release, released, waits_for}
use Rattle.commit_protocol.specs.World.{In}
use Rattle.world_laws.specs.run_model.Answers.{acknowledged_lines, forgot_lines, released_lines}
use Rattle.vms_model.specs.Ids.{Id}

-- an act on committed records
abbrev pub IsOfRecords : Act → Type 0
IsOfRecords (Acknowledges k) = Unit {0}
IsOfRecords (Releases s x) = Unit {0}
IsOfRecords _ = ⊥

-- the act of an effect
abbrev pub View : Act → Effect → Type 0
View act (PrepareEffect serial rms) = (b : Branch) × (act ≡ Prepares b) × (b.key.serial ≡ serial) × (holding b.managers ≡ rms)
View act (SettleEffect serial outcome reason r) = (k : Key) × (act ≡ Settles k outcome reason r) × (k.serial ≡ serial)
View act (KeepEffect r) = IsOfRecords act
View act (ForgetEffect serial) = IsOfRecords act
View act (SendEffect m) = act ≡ Sends m
View act (TellEffect event tid serial rm) = act ≡ Prints (Told event (record { tid = tid; serial = serial }) rm)
View act (JoinedEffect serial) = (b : Branch) × (c : Child) × (act ≡ Accepts b c) × (c.serial ≡ serial)
View act (StartedEffect serial) = (k : Key) × (act ≡ Prints (Started k)) × (k.serial ≡ serial)
View act (ReadOnlyEffect serial) = (k : Key) × (act ≡ Leaves k) × (k.serial ≡ serial)
View act (EndedEffect tid reason) = act ≡ Prints (Ended tid reason)

one : (e x : Effect) → e ∷ [] ≡ x ∷ [] → e ≡ x
one e x q = cc

view_record : (act : Act) (r : LogRecord) (x : Effect) → IsOfRecords act → record_effects r ≡ x ∷ [] → View act x
view_record act r x is q = go (nothing_left r.waiting r.rms) q
  where
    go : (b : Bool) → (if b then ForgetEffect r.serial ∷ [] else KeepEffect r ∷ []) ≡ x ∷ [] → View act x
    go true e = subst (λ y. View act y) (one (ForgetEffect r.serial) x e) is
    go false e = subst (λ y. View act y) (one (KeepEffect r) x e) is

view_acknowledge : (act : Act) (k : Key) (rs : List LogRecord) (x : Effect) → IsOfRecords act → acknowledge_effects k rs ≡ x ∷ [] → View act x
view_acknowledge act k [] x is q = absurd (let f : [] ≡ x ∷ [] = q in cc)
view_acknowledge act k (r ∷ rs) x is q = go (waits_for k r) q (view_acknowledge act k rs x is)
  where
    go : (b : Bool) → (if b then record_effects (acknowledged k r) else acknowledge_effects k rs) ≡ x ∷ [] → (acknowledge_effects k rs ≡ x ∷ [] → View act x) → View act x
    go true e more = view_record act (acknowledged k r) x is e
    go false e more = more e

view_release : (act : Act) (s : Id) (m : Name) (rs : List LogRecord) (x : Effect) → IsOfRecords act → release_effects s m rs ≡ x ∷ [] → View act x
view_release act s m [] x is q = absurd (let f : [] ≡ x ∷ [] = q in cc)
view_release act s m (r ∷ rs) x is q = go (holds s m r) q (view_release act s m rs x is)
  where
    go : (b : Bool) → (if b then record_effects (released m r) else release_effects s m rs) ≡ x ∷ [] → (release_effects s m rs ≡ x ∷ [] → View act x) → View act x
    go true e more = view_record act (released m r) x is e
    go false e more = more e

pub view : (act : Act) (rs : List LogRecord) (x : Effect) → act_effects act rs ≡ x ∷ [] → View act x
view (Notes b) rs x q = absurd (let f : [] ≡ x ∷ [] = q in cc)
view (Accepts b c) rs x q = subst (λ y. View (Accepts b c) y) (one (JoinedEffect c.serial) x q) (b, c, refl, refl)
view (Prepares b) rs x q = subst (λ y. View (Prepares b) y) (one (PrepareEffect b.key.serial (holding b.managers)) x q) (b, refl, refl, refl)
view (Settles k o why r) rs x q = subst (λ y. View (Settles k o why r) y) (one (SettleEffect k.serial o why r) x q) (k, refl, refl)
view (Leaves k) rs x q = subst (λ y. View (Leaves k) y) (one (ReadOnlyEffect k.serial) x q) (k, refl, refl)
view (Acknowledges k) rs x q = view_acknowledge (Acknowledges k) k rs x tt q
view (Releases s m) rs x q = view_release (Releases s m) s m rs x tt q
view (Undoes k) rs x q = absurd (let f : [] ≡ x ∷ [] = q in cc)
view (Sends m) rs x q = subst (λ y. View (Sends m) y) (one (SendEffect m) x q) refl
view (Prints (Started k)) rs x q = subst (λ y. View (Prints (Started k)) y) (one (StartedEffect k.serial) x q) (k, refl, refl)
view (Prints (Ended t why)) rs x q = subst (λ y. View (Prints (Ended t why)) y) (one (EndedEffect t why) x q) refl
view (Prints (Told e k m)) rs x q = subst (λ y. View (Prints (Told e k m)) y) (one (TellEffect e k.tid k.serial m) x q) refl

-- Acts on committed records.

-- what one shows of the records by its effect: nothing where the record is kept, and that it is gone where it goes
abbrev Shows : List LogRecord → Effect → List Line → Type 0
Shows rs (KeepEffect r) ls = ls ≡ []
Shows rs (ForgetEffect serial) ls = (r : LogRecord) × In r rs × (r.serial ≡ serial) × (ls ≡ line.Forgot r.tid serial ∷ [])
Shows rs _ ls = Unit {0}

later : (r : LogRecord) (rs : List LogRecord) (x : Effect) (ls : List Line) → Shows rs x ls → Shows (r ∷ rs) x ls
later r rs (KeepEffect q) ls h = h
later r rs (ForgetEffect serial) ls h = (h.0, inr h.1, h.2, h.3)
later r rs (PrepareEffect serial rms) ls h = tt
later r rs (SettleEffect serial o why q) ls h = tt
later r rs (SendEffect m) ls h = tt
later r rs (TellEffect e tid serial m) ls h = tt
later r rs (JoinedEffect serial) ls h = tt
later r rs (StartedEffect serial) ls h = tt
later r rs (ReadOnlyEffect serial) ls h = tt
later r rs (EndedEffect t why) ls h = tt

shows_record : (q r : LogRecord) (rs : List LogRecord) (x : Effect) → q.tid ≡ r.tid → q.serial ≡ r.serial → record_effects q ≡ x ∷ [] → Shows (r ∷ rs) x (forgot_lines q)
shows_record q r rs x t s e = go (nothing_left q.waiting q.rms) e
  where
    go : (b : Bool) → (if b then ForgetEffect q.serial ∷ [] else KeepEffect q ∷ []) ≡ x ∷ [] → Shows (r ∷ rs) x (if b then line.Forgot q.tid q.serial ∷ [] else [])
    go true f = subst (λ y. Shows (r ∷ rs) y (line.Forgot q.tid q.serial ∷ [])) (one (ForgetEffect q.serial) x f) (r, inl refl, sym s, ap (λ z. line.Forgot z q.serial ∷ []) t)
    go false f = subst (λ y. Shows (r ∷ rs) y []) (one (KeepEffect q) x f) refl

shows_acknowledged : (k : Key) (rs : List LogRecord) (x : Effect) → acknowledge_effects k rs ≡ x ∷ [] → Shows rs x (acknowledged_lines k rs)
shows_acknowledged k [] x q = absurd (let f : [] ≡ x ∷ [] = q in cc)
shows_acknowledged k (r ∷ rs) x q = go (waits_for k r) q (shows_acknowledged k rs x)
  where
    go : (b : Bool) → (if b then record_effects (acknowledged k r) else acknowledge_effects k rs) ≡ x ∷ [] → (acknowledge_effects k rs ≡ x ∷ [] → Shows rs x (acknowledged_lines k rs)) → Shows (r ∷ rs) x (if b then forgot_lines (acknowledged k r) else acknowledged_lines k rs)
    go true e more = shows_record (acknowledged k r) r rs x refl refl e
    go false e more = later r rs x (acknowledged_lines k rs) (more e)

shows_released : (s : Id) (m : Name) (rs : List LogRecord) (x : Effect) → release_effects s m rs ≡ x ∷ [] → Shows rs x (released_lines s m rs)
shows_released s m [] x q = absurd (let f : [] ≡ x ∷ [] = q in cc)
shows_released s m (r ∷ rs) x q = go (holds s m r) q (shows_released s m rs x)
  where
    go : (b : Bool) → (if b then record_effects (released m r) else release_effects s m rs) ≡ x ∷ [] → (release_effects s m rs ≡ x ∷ [] → Shows rs x (released_lines s m rs)) → Shows (r ∷ rs) x (if b then forgot_lines (released m r) else released_lines s m rs)
    go true e more = shows_record (released m r) r rs x refl refl e
    go false e more = later r rs x (released_lines s m rs) (more e)

-- what an act on records shows
abbrev pub record_lines : Act → List LogRecord → List Line
record_lines (Acknowledges k) rs = acknowledged_lines k rs
record_lines (Releases s m) rs = released_lines s m rs
record_lines _ rs = []

shows_records : (act : Act) (rs : List LogRecord) (x : Effect) → IsOfRecords act → act_effects act rs ≡ x ∷ [] → Shows rs x (record_lines act rs)
shows_records (Acknowledges k) rs x is q = shows_acknowledged k rs x q
shows_records (Releases s m) rs x is q = shows_released s m rs x q
shows_records (Notes b) rs x is q = absurd is
shows_records (Accepts b c) rs x is q = absurd is
shows_records (Prepares b) rs x is q = absurd is
shows_records (Settles k o why r) rs x is q = absurd is
shows_records (Leaves k) rs x is q = absurd is
shows_records (Undoes k) rs x is q = absurd is
shows_records (Sends m) rs x is q = absurd is
shows_records (Prints l) rs x is q = absurd is

pub shows_kept : (act : Act) (rs : List LogRecord) (r : LogRecord) → act_effects act rs ≡ KeepEffect r ∷ [] → record_lines act rs ≡ []
shows_kept act rs r q = shows_records act rs (KeepEffect r) (view act rs (KeepEffect r) q) q

pub shows_forgotten : (act : Act) (rs : List LogRecord) (serial : Id) → act_effects act rs ≡ ForgetEffect serial ∷ [] → (r : LogRecord) × In r rs × (r.serial ≡ serial) × (record_lines act rs ≡ line.Forgot r.tid serial ∷ [])
shows_forgotten act rs serial q = shows_records act rs (ForgetEffect serial) (view act rs (ForgetEffect serial) q) q

-- An act on records that has no effect leaves them.

record_moves : (r : LogRecord) → record_effects r ≡ [] → ⊥
record_moves r e = go (nothing_left r.waiting r.rms) e
  where
    go : (b : Bool) → (if b then ForgetEffect r.serial ∷ [] else KeepEffect r ∷ []) ≡ [] → ⊥
    go true f = (let g : ForgetEffect r.serial ∷ [] ≡ [] = f in cc)
    go false f = (let g : KeepEffect r ∷ [] ≡ [] = f in cc)

pub acknowledge_still : (k : Key) (rs : List LogRecord) → acknowledge_effects k rs ≡ [] → (acknowledge k rs ≡ rs) × (acknowledged_lines k rs ≡ [])
acknowledge_still k [] e = (refl, refl)
acknowledge_still k (r ∷ rs) e = go (waits_for k r) e (acknowledge_still k rs)
  where
    go : (b : Bool) → (if b then record_effects (acknowledged k r) else acknowledge_effects k rs) ≡ [] → (acknowledge_effects k rs ≡ [] → (acknowledge k rs ≡ rs) × (acknowledged_lines k rs ≡ []))
        → ((if b then keep_record (acknowledged k r) rs else r ∷ acknowledge k rs) ≡ r ∷ rs) × ((if b then forgot_lines (acknowledged k r) else acknowledged_lines k rs) ≡ [])
    go true f more = absurd (record_moves (acknowledged k r) f)
    go false f more = (let s = more f in (ap (λ (z : List LogRecord). r ∷ z) s.0, s.1))

pub release_still : (s : Id) (m : Name) (rs : List LogRecord) → release_effects s m rs ≡ [] → (release s m rs ≡ rs) × (released_lines s m rs ≡ [])
release_still s m [] e = (refl, refl)
release_still s m (r ∷ rs) e = go (holds s m r) e (release_still s m rs)
  where
    go : (b : Bool) → (if b then record_effects (released m r) else release_effects s m rs) ≡ [] → (release_effects s m rs ≡ [] → (release s m rs ≡ rs) × (released_lines s m rs ≡ []))
        → ((if b then keep_record (released m r) rs else r ∷ release s m rs) ≡ r ∷ rs) × ((if b then forgot_lines (released m r) else released_lines s m rs) ≡ [])
    go true f more = absurd (record_moves (released m r) f)
    go false f more = (let t = more f in (ap (λ (z : List LogRecord). r ∷ z) t.0, t.1))
