use Rattle.std.proofs.Common.{◌≡◌, [], ◌∷◌, sym, ap, refl, subst, ◌∙◌, arith, rules}
use Rattle.emitter_model.specs.Emitting.{Emits}
use Rattle.emitter_model.specs.transcript_model.Lines as line
use Rattle.emitter_model.specs.transcript_model.Lines.{Line}
use Rattle.emitter_model.proofs.EmittingLemmas.{emits_nothing, since_on}
use Rattle.node_standing.specs.node_table.Code.{stored_of}
use Rattle.node_standing.specs.node_table.Standing.{Stored}
use Rattle.file_requests.proofs.Reading.{order_still, stored_on, volume_of_stored}
use Rattle.file_requests.proofs.Replied.{quiet_none, quiet_on, replies_after}
use Rattle.file_requests.proofs.JournalShown.{HasShown, entry_cut, entry_done, entry_there, shown_all, shown_none}
use Rattle.file_requests.proofs.journal.show_entries.Goals as goal

pub loop-position-init : goal.loop-position-init
loop-position-init g c = record {
  same = refl;
  place = refl;
  since = search rules;
  quiet = quiet_none _ _ (emits_nothing _);
  shows = λ content j told h.
      let a = g.E.Emit.shows c.args.out.now in
      subst (λ p. HasShown j p a a) (sym h.first) (shown_none j a);
}

pub returns-in-Err-clause-replies : goal.returns-in-Err-clause-replies
returns-in-Err-clause-replies g c = quiet_on _ _ _ c.loop-position.invariant.quiet c.show_entry.ensures.quiet

pub returns-in-Err-clause-shows : goal.returns-in-Err-clause-shows
returns-in-Err-clause-shows g c = λ content j told h.
    entry_cut c.args.stored.now.volume _ (volume_of_stored (stored_of g.U.RecoveryUnits.state c.args.stored.now) (stored_of g.U.RecoveryUnits.state c.loop-position.stored) c.loop-position.invariant.same) c.args.span.now content j h told c.loop-position.position _ _ _ (c.loop-position.invariant.shows content j told h) c.loop-position-test.true c.in-Err.down c.in-Err.ensures.shows

pub returns-in-Ok-None-clause-same : goal.returns-in-Ok-None-clause-same
returns-in-Ok-None-clause-same g c =
    stored_on (stored_of g.U.RecoveryUnits.state c.args.stored.now) (stored_of g.U.RecoveryUnits.state c.loop-position.stored) (stored_of g.U.RecoveryUnits.state c.show_entry.new.stored) c.loop-position.invariant.same c.in-Ok-None.ensures.same

pub returns-in-Ok-None-clause-replies : goal.returns-in-Ok-None-clause-replies
returns-in-Ok-None-clause-replies g c = replies_after _ _ _ _ (quiet_on _ _ _ c.loop-position.invariant.quiet c.show_entry.ensures.quiet) c.emit.ensures.emits (refl, refl)

pub returns-in-Ok-None-clause-shows : goal.returns-in-Ok-None-clause-shows
returns-in-Ok-None-clause-shows g c = λ content j told h.
    absurd (entry_there c.args.stored.now.volume _ (volume_of_stored (stored_of g.U.RecoveryUnits.state c.args.stored.now) (stored_of g.U.RecoveryUnits.state c.loop-position.stored) c.loop-position.invariant.same) c.args.span.now content j h told c.loop-position.position _ _ _ (c.loop-position.invariant.shows content j told h) c.loop-position-test.true c.in-Ok-None.field-0 c.in-Ok-None.field-0-is
    c.in-Ok-None.ensures.shows)

pub loop-position-preserved : goal.loop-position-preserved
loop-position-preserved g c =
    record {
      same = stored_on (stored_of g.U.RecoveryUnits.state c.args.stored.now) (stored_of g.U.RecoveryUnits.state c.loop-position.stored) (stored_of g.U.RecoveryUnits.state c.show_entry.new.stored) c.loop-position.invariant.same c.in-Ok-Some.ensures.same;
      place = c.show_entry.ensures.place ∙ c.loop-position.invariant.place;
      since = since_on _ _ _ c.loop-position.invariant.since c.show_entry.ensures.since;
      quiet = quiet_on _ _ _ c.loop-position.invariant.quiet c.show_entry.ensures.quiet;
      shows = λ content j told h.
          entry_done c.args.stored.now.volume _ (volume_of_stored (stored_of g.U.RecoveryUnits.state c.args.stored.now) (stored_of g.U.RecoveryUnits.state c.loop-position.stored) c.loop-position.invariant.same) c.args.span.now content j h told c.loop-position.position _ _ _ (c.loop-position.invariant.shows content j told h) c.loop-position-test.true c.in-Ok-Some.field-0 c.in-Ok-Some.next c.in-Ok-Some.field-0-is
          c.in-Ok-Some.ensures.shows;
    }

pub returns-clause-replies : goal.returns-clause-replies
returns-clause-replies g c = replies_after _ _ _ _ c.loop-position.invariant.quiet c.emit-2.ensures.emits (refl, refl)

pub returns-clause-shows : goal.returns-clause-shows
returns-clause-shows g c = λ content j told h.
    let first = h.first in
    let end = h.end in
    let le = c.loop-position-test.false in
    shown_all j c.loop-position.position _ _ _ (c.loop-position.invariant.shows content j told h) (omega (arith, end, le))
    (subst (λ (l : Line). Emits (g.E.Emit.shows c.loop-position.out) (l ∷ []) (g.E.Emit.shows c.emit-2.new.self)) (λ i. line.NormalSpan (first i) (end i)) c.emit-2.ensures.emits)

pub show_entry-requires-clause-order : goal.show_entry-requires-clause-order
show_entry-requires-clause-order g c = order_still (stored_of g.U.RecoveryUnits.state c.args.stored.now) (stored_of g.U.RecoveryUnits.state c.loop-position.stored) c.loop-position.invariant.same c.requires.order
