-- The moments that the cause of a refused recovery tells can be shown.
use Rattle.std.proofs.Common.{◌≡◌, ℕ, ◌≤◌, Bool, true, false, Option, Some, None, if◌then◌else◌, nat_lt, not, refl, subst, arith}
use Rattle.file_base.specs.declared.head.FileHead.{FileHead}
use Rattle.file_recoveries.specs.Causes as causes
use Rattle.file_recoveries.specs.Causes.{cause_of, first_cause, in_use, save_cause, since_cause}
use Rattle.file_recoveries.specs.declared.causes.Way.{Way}
use Rattle.file_recoveries.specs.declared.causes.Way.TheVariants as way
use Rattle.file_recoveries.specs.declared.errors.RecoverErr.{RecoverErr}
use Rattle.file_recoveries.specs.declared.errors.RecoverErr.TheVariants as err
use Rattle.recovered_nodes.specs.recover_rms.Calls.{NotRecovered}
use Rattle.script_lang.specs.script_model.Statements.{Recovery, Forward, Backward}
use Rattle.file_images.specs.run_model.Answers.{way_of}
use Rattle.vms_base.specs.declared.ids.Serial.{Serial}
use Rattle.vms_base.specs.declared.moments.Moment.{Moment}
use Rattle.vms_model.specs.Times.{CanBeWritten}
use Rattle.volume.specs.Limits.{EntryFits, FileFits, SaveFits}
use Rattle.volume.specs.State.{VolumeState}
use Rattle.node_files.proofs.CatalogLemmas.{head_below}
use Rattle.directory_model.specs.Files.{head_at}
use Rattle.recovery_units.specs.State.{IsInOrder, UnitsState}
use Rattle.file_requests.specs.Recovering.{HasTimes}
use Rattle.node_standing.specs.Moments.{CanTell}

-- the moments of the cause that there is
abbrev Times : Way → Option RecoverErr → Type 0
Times w (Some e) = HasTimes w e
Times w None = Unit {0}

-- the moment up to which is recovered, where there is one, can be shown
abbrev CanTellUntil : Option Moment → Type 0
CanTellUntil (Some until) = CanBeWritten until.0
CanTellUntil None = Unit {0}

-- those of a recovery forward

span_times : (until : Option Moment) (t : Bool) (needed first : ℕ) → Times (way.Forward until) (if t then Some (err.Span needed first) else None)
span_times until true needed first = tt
span_times until false needed first = tt

early_times : (until saved : Moment) (early late : Bool) (needed first : ℕ) → CanBeWritten until.0 → CanBeWritten saved.0
    → Times (way.Forward (Some until)) (first_cause (if early then Some (err.Early until saved) else None) (if late then Some (err.Span needed first) else None))
early_times until saved true late needed first told written = (told, written)
early_times until saved false late needed first told written = span_times (Some until) late needed first

save_times : (h : FileHead) (until : Option Moment) → CanBeWritten h.save.moment.0 → CanTellUntil until → Times (way.Forward until) (save_cause h until)
save_times h None written told = span_times None (nat_lt h.save.position h.ai.first) h.save.position h.ai.first
save_times h (Some m) written told = early_times m h.save.moment (nat_lt m.0 h.save.moment.0) (nat_lt h.save.position h.ai.first) h.save.position h.ai.first told written

used_times : (w : Way) (user : Option Serial) (o : Option RecoverErr) → ((serial : Serial) → HasTimes w (err.InUse serial)) → Times w o → Times w (first_cause (in_use user) o)
used_times w None o used h = h
used_times w (Some serial) o used h = used serial

forward_times : (until : Option Moment) (marked saved : Bool) (o : Option RecoverErr) → (saved ≡ true → Times (way.Forward until) o)
    → Times (way.Forward until) (if not marked then Some err.NoJournal else (if not saved then Some err.NoSave else o))
forward_times until false saved o h = tt
forward_times until true false o h = tt
forward_times until true true o h = h refl

-- and of one backward

since_times : (until since : Moment) (t : Bool) → CanBeWritten until.0 → CanBeWritten since.0 → Times (way.Backward until) (if t then Some (err.Span until.0 since.0) else None)
since_times until since true told written = (told, written)
since_times until since false told written = tt

backward_times : (until : Moment) (marked : Bool) (o : Option RecoverErr) → Times (way.Backward until) o → Times (way.Backward until) (if not marked then Some err.NoJournal else o)
backward_times until false o h = tt
backward_times until true o h = h

-- The moment of the statement.
told_forward : (until : Option Moment) (r : Recovery) → causes.way_of (way.Forward until) ≡ way_of r → CanTell r → CanTellUntil until
told_forward None r said told = tt
told_forward (Some m) (Forward None) said told = let no : ⊥ = cc in absurd no
told_forward (Some m) (Forward (Some x)) said told = subst CanBeWritten (let same : x ≡ m.0 = cc in same) told
told_forward (Some m) (Backward x) said told = let no : ⊥ = cc in absurd no

told_backward : (until : Moment) (r : Recovery) → causes.way_of (way.Backward until) ≡ way_of r → CanTell r → CanBeWritten until.0
told_backward until (Forward x) said told = let no : ⊥ = cc in absurd no
told_backward until (Backward x) said told = subst CanBeWritten (let same : x ≡ until.0 = cc in same) told

saved_by : (marked : Bool) (greatest : ℕ) (h : FileHead) → marked ≡ true → SaveFits marked greatest h → h.save.moment.0 ≤ greatest
saved_by true greatest h is fits = fits.moment
saved_by false greatest h is fits = let no : ⊥ = cc in absurd no

module _ (s : UnitsState) (v : VolumeState) (o : IsInOrder s v) (f : ℕ) (h : FileHead) (there : head_at v.catalog.heads f ≡ Some h) where
  fits : FileFits v.catalog.home.greatest_moment.0 h
  fits = subst (EntryFits v.catalog.home.greatest_moment.0) there (o.sound.files f (head_below v.catalog.heads f h o.heads there))

  saved : h.marks.save ≡ true → CanBeWritten h.save.moment.0
  saved marked = let past = saved_by h.marks.save v.catalog.home.greatest_moment.0 h marked fits.save in let low = o.sound.home.moment in omega (arith, past, low)

  since : CanBeWritten h.bi_since.0
  since = let past = fits.since in let low = o.sound.home.moment in omega (arith, past, low)

  cause_times : (w : Way) (r : Recovery) (user : Option Serial) → causes.way_of w ≡ way_of r → CanTell r → Times w (cause_of h w user)
  cause_times (way.Forward until) r user said told =
      forward_times until h.marks.ai h.marks.save (first_cause (in_use user) (save_cause h until))
      (λ marked. used_times (way.Forward until) user (save_cause h until) (λ serial. tt) (save_times h until (saved marked) (told_forward until r said told)))
  cause_times (way.Backward until) r user said told =
      backward_times until h.marks.bi (first_cause (in_use user) (since_cause h until))
      (used_times (way.Backward until) user (since_cause h until) (λ serial. tt) (since_times until h.bi_since (nat_lt until.0 h.bi_since.0) (told_backward until r said told) since))

  -- Each cause for which a file was not recovered tells such alone.
  module _ (w : Way) (r : Recovery) (user : Option Serial) (said : causes.way_of w ≡ way_of r) (told : CanTell r) (before after : VolumeState) where
    by_head : (e : RecoverErr) → cause_of h w user ≡ Some e → HasTimes w e
    by_head e is = subst (Times w) is (cause_times w r user said told)

    pub has_times : (e : RecoverErr) → NotRecovered f w user h e before after → HasTimes w e
    has_times err.NoJournal it = by_head err.NoJournal it.1
    has_times err.NoSave it = by_head err.NoSave it.1
    has_times (err.InUse serial) it = by_head (err.InUse serial) it.1
    has_times (err.Early until save) it = by_head (err.Early until save) it.1
    has_times (err.Span needed first) it = by_head (err.Span needed first) it.1
    has_times err.Memory it = no_moment w
      where
        no_moment : (x : Way) → HasTimes x err.Memory
        no_moment (way.Forward until) = tt
        no_moment (way.Backward until) = tt
    has_times (err.Full free needed) it = no_moment w
      where
        no_moment : (x : Way) → HasTimes x (err.Full free needed)
        no_moment (way.Forward until) = tt
        no_moment (way.Backward until) = tt
    has_times (err.Down down) it = no_moment w
      where
        no_moment : (x : Way) → HasTimes x (err.Down down)
        no_moment (way.Forward until) = tt
        no_moment (way.Backward until) = tt
