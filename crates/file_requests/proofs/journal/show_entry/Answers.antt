use Rattle.std.proofs.Common.{◌≡◌, [], ◌∷◌, Option, Some, None, ap, subst}
use Rattle.transcript.specs.Forms.{line_of}
use Rattle.emitter_model.specs.Emitting.{Emits}
use Rattle.emitter_model.specs.transcript_model.Lines.{Line}
use Rattle.emitter_model.proofs.EmittingLemmas.{emits_nothing}
use Rattle.careful_write.specs.State.{StoreState}
use Rattle.file_images.specs.run_model.Answers.{entry_line}
use Rattle.file_requests.proofs.Replied.{quiet_none}
use Rattle.file_requests.proofs.EntryShown.{reads_it, reads_some}
use Rattle.file_requests.proofs.journal.show_entry.Goals as goal

some_line : (x y : Line) → ◌≡◌ {A = Option Line} (Some x) (Some y) → x ≡ y
some_line x y e = cc

pub returns-in-Err-clause-quiet : goal.returns-in-Err-clause-quiet
returns-in-Err-clause-quiet g c = quiet_none _ _ (emits_nothing _)

pub returns-in-Err-clause-shows : goal.returns-in-Err-clause-shows
returns-in-Err-clause-shows g c = λ content e f told file showable is stands. emits_nothing _

pub returns-in-Ok-None-clause-quiet : goal.returns-in-Ok-None-clause-quiet
returns-in-Ok-None-clause-quiet g c = quiet_none _ _ (emits_nothing _)

pub returns-in-Ok-None-clause-shows : goal.returns-in-Ok-None-clause-shows
returns-in-Ok-None-clause-shows g c = λ content e f told file showable is stands.
    absurd (reads_some c.args.stored.now.volume c.args.span.now c.args.position content e f told file is stands c.store.result.now.current c.in-Ok-None.field-0 c.entry_at.new.image (ap (λ (s : StoreState). s.current) c.store.ensures.value) c.in-Ok-None.ensures.entry c.in-Ok-None.field-0-is)

pub returns-in-None-clause-quiet : goal.returns-in-None-clause-quiet
returns-in-None-clause-quiet g c = quiet_none _ _ (emits_nothing _)

pub returns-in-None-clause-shows : goal.returns-in-None-clause-shows
returns-in-None-clause-shows g c = λ content e f told file showable is stands.
    let r = reads_it c.args.stored.now.volume c.args.span.now c.args.position content e f told file is stands c.store.result.now.current c.in-Ok-Some.field-0 c.entry_at.new.image (ap (λ (s : StoreState). s.current) c.store.ensures.value) c.in-Ok-Some.ensures.entry
    c.in-Ok-Some.head c.in-Ok-Some.next c.in-Ok-Some.field-0-is in
    let no_line : ◌≡◌ {A = Option Line} None (Some (entry_line c.args.position e)) = c.in-None.ensures.shows e f file r.0 showable in
    absurd (let none : ⊥ = cc in none)

pub returns-in-Some-clause-shows : goal.returns-in-Some-clause-shows
returns-in-Some-clause-shows g c = λ content e f told file showable is stands.
    let r = reads_it c.args.stored.now.volume c.args.span.now c.args.position content e f told file is stands c.store.result.now.current c.in-Ok-Some.field-0 c.entry_at.new.image (ap (λ (s : StoreState). s.current) c.store.ensures.value) c.in-Ok-Some.ensures.entry
    c.in-Ok-Some.head c.in-Ok-Some.next c.in-Ok-Some.field-0-is in
    (ap Some r.1, subst (λ (l : Line). Emits (g.E.Emit.shows c.args.out.now) (l ∷ []) (g.E.Emit.shows c.emit.new.self)) (some_line (line_of c.in-Some.form) (entry_line c.args.position e) (c.in-Some.ensures.shows e f file r.0 showable)) c.emit.ensures.emits)
