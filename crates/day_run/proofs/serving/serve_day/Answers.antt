use Rattle.std.proofs.Common.{◌+◌, ◌^◌, ◌<◌, ◌++◌, length, length-append, refl, sym, ◌∙◌, ap, subst, arith}
use Rattle.std.specs.Option.{option_map}
use Rattle.script_lang.specs.script_model.Grammar.{reading}
use Rattle.script_lang.specs.Statements.{statement_of}
use Rattle.world_laws.specs.run_model.World.{opened}
use Rattle.run_nodes.specs.Held.{kept_all, names_of}
use Rattle.run_nodes.specs.Names.{AreApart}
use Rattle.run_nodes.specs.Together.{AnswersTogether, disks_of, said_together}
use Rattle.run_nodes.proofs.Entries.{same_names}
use Rattle.day_model.specs.Days.{counted, stops}
use Rattle.day_model.specs.Pieces.{day, words_of}
use Rattle.day_model.specs.Readings.{AllSpeak}
use Rattle.day_script.specs.Scripts.{ahead}
use Rattle.day_script.specs.Steps.{piece_of}
use Rattle.day_tally.specs.Answers.{answer_line}
use Rattle.day_tally.specs.Counters.{shown_of, tallied_in}
use Rattle.day_run.proofs.Going.{day_dumps, day_few, dump_few, dumps_in}
use Rattle.day_run.proofs.Reading.{timely}
use Rattle.day_run.proofs.Served.{Serving, serving_first, serving_on, serving_stops, serving_whole}
use Rattle.day_run.proofs.Telling.{Telling, large_on, telling_first, telling_on, telling_stops, telling_whole}
use Rattle.day_run.proofs.serving.serve_day.Goals as goal

pub loop-number-init : goal.loop-number-init
loop-number-init g c =
    let ks = kept_all g.D.Disk.state g.U.RecoveryUnits.state c.args.nodes.now in
    let count = c.args.asked.count in
    let start = c.args.asked.start in
    let all = c.new-script.ensures in
    record {
      room = omega (arith, ap length all, day_few count start c.requires.count);
      speaks = subst AllSpeak {x = day count start} (sym all) (c.days_speak.ensures count start c.requires.count);
      dumps = omega (arith, ap length c.requires.counts, ap dumps_in all, day_dumps count start);
      nodes = c.requires.nodes;
      names = refl;
      large = c.requires.large;
      served = λ logs first disks o stands. serving_first logs first disks count start _ _ _ ks c.args.shared.now all c.requires.lines c.requires.counts stands;
      told = telling_first (names_of c.args.nodes.now) (disks_of ks) count start _ _ _ _ all c.requires.lines c.requires.counts c.requires.unsaid;
    }

-- All lines were served.

pub returns-in_default-clause-nodes : goal.returns-in_default-clause-nodes
returns-in_default-clause-nodes g c = (c.loop-number._number, c.loop-number.invariant.nodes)

pub returns-in_default-clause-names : goal.returns-in_default-clause-names
returns-in_default-clause-names g c = c.loop-number.invariant.names

pub returns-in_default-clause-serves : goal.returns-in_default-clause-serves
returns-in_default-clause-serves g c = λ logs first disks o stands.
    let l = c.loop-number in
    serving_whole logs (opened first disks) c.args.asked.count c.args.asked.start (ahead l.script) (tallied_in l.lines) l.counts (kept_all g.D.Disk.state g.U.RecoveryUnits.state l.nodes) l.shared c.in_default.ensures.0 (l.invariant.served logs first disks o stands)

pub returns-in_default-clause-tells : goal.returns-in_default-clause-tells
returns-in_default-clause-tells g c =
    let l = c.loop-number in
    telling_whole _ _ _ c.args.asked.count c.args.asked.start (ahead l.script) (tallied_in l.lines) l.counts _ c.in_default.ensures.0 l.invariant.told

-- Each line says a statement.

pub statement_said-statement-requires : goal.statement_said-statement-requires
statement_said-statement-requires g c =
    let l = c.loop-number in
    let script = c.next.new.self in
    let p = piece_of script.number script.key c.in-Some.step in
    let says = (subst AllSpeak c.in-Some.ensures l.invariant.speaks).0 c.sent.result c.sent.type_inv in
    record { says = (says.0, ap reading c.write.ensures ∙ says.1) }

-- A line was served.

pub serve_statement-requires-clause-apart : goal.serve_statement-requires-clause-apart
serve_statement-requires-clause-apart g c = subst AreApart (sym c.loop-number.invariant.names) c.requires.apart

pub serve_statement-requires-clause-nodes : goal.serve_statement-requires-clause-nodes
serve_statement-requires-clause-nodes g c = (c.loop-number._number, omega (arith, c.loop-number.invariant.room), c.loop-number.invariant.nodes)

pub serve_statement-requires-clause-timely : goal.serve_statement-requires-clause-timely
serve_statement-requires-clause-timely g c =
    timely c.clocks_are_early.ensures c.write.new.text (statement_of c.statement_said-statement.new.literals c.statement_said-statement.result) c.statement_said-statement.ensures

pub returns-then-stops-clause-nodes : goal.returns-then-stops-clause-nodes
returns-then-stops-clause-nodes g c = (c.loop-number._number + 1, c.serve_statement.ensures.nodes c.loop-number._number c.loop-number.invariant.nodes)

pub returns-then-stops-clause-names : goal.returns-then-stops-clause-names
returns-then-stops-clause-names g c = c.serve_statement.ensures.names ∙ c.loop-number.invariant.names

pub returns-then-stops-clause-serves : goal.returns-then-stops-clause-serves
returns-then-stops-clause-serves g c = λ logs first disks o stands.
    let state = g.D.Disk.state in
    let units = g.U.RecoveryUnits.state in
    let l = c.loop-number in
    let script = c.next.new.self in
    let p = piece_of script.number script.key c.in-Some.step in
    let t = tallied_in l.lines in
    let u = tallied_in c.serve_statement.new.out in
    let names = names_of c.args.nodes.now in
    let ks = kept_all state units l.nodes in
    let ls = kept_all state units c.serve_statement.new.nodes in
    let after = c.serve_statement.new.shared in
    let same = sym l.invariant.names ∙ same_names state units l._number l.shared l.nodes.nodes.entries l.invariant.nodes in
    let later = c.serve_statement.ensures.nodes l._number l.invariant.nodes in
    let named = sym (c.serve_statement.ensures.names ∙ l.invariant.names) ∙ same_names state units (l._number + 1) after c.serve_statement.new.nodes.nodes.entries later in
    let statement = statement_of c.statement_said-statement.new.literals c.statement_said-statement.result in
    let says = ap (λ k. reading (words_of k p)) (sym c.sent.ensures) ∙ sym (ap reading c.write.ensures) ∙ c.statement_said-statement.ensures in
    let before = subst (λ ps. Serving logs (opened first disks) c.args.asked.count c.args.asked.start ps t l.counts ks l.shared) c.in-Some.ensures (l.invariant.served logs first disks o stands) in
    let stop = ap (stops p) (sym c.last.ensures) ∙ sym (c.stops.ensures script.number script.key) ∙ c.if-stops.true in
    serving_stops c.nodes_stay_kept.ensures.worlds names c.requires.apart c.requires.names logs first disks o c.args.asked.count c.args.asked.start p (ahead script) t u l.counts ks ls l.shared after same named l.invariant.large (c.days_make_once.ensures c.args.asked.count c.args.asked.start c.requires.count) (subst (λ n. n < 2 ^ 32) c.sent.ensures c.sent.type_inv) before statement says (shown_of l.lines) (shown_of c.serve_statement.new.out) refl refl
    (λ logs w h kept never. c.serve_statement.ensures.serves logs w h kept never) stop l.counts

pub returns-then-stops-clause-tells : goal.returns-then-stops-clause-tells
returns-then-stops-clause-tells g c =
    let state = g.D.Disk.state in
    let units = g.U.RecoveryUnits.state in
    let l = c.loop-number in
    let script = c.next.new.self in
    let p = piece_of script.number script.key c.in-Some.step in
    let t = tallied_in l.lines in
    let u = tallied_in c.serve_statement.new.out in
    let names = names_of c.args.nodes.now in
    let ks = kept_all state units l.nodes in
    let ls = kept_all state units c.serve_statement.new.nodes in
    let after = c.serve_statement.new.shared in
    let same = sym l.invariant.names ∙ same_names state units l._number l.shared l.nodes.nodes.entries l.invariant.nodes in
    let later = c.serve_statement.ensures.nodes l._number l.invariant.nodes in
    let named = sym (c.serve_statement.ensures.names ∙ l.invariant.names) ∙ same_names state units (l._number + 1) after c.serve_statement.new.nodes.nodes.entries later in
    let statement = statement_of c.statement_said-statement.new.literals c.statement_said-statement.result in
    let says = ap (λ k. reading (words_of k p)) (sym c.sent.ensures) ∙ sym (ap reading c.write.ensures) ∙ c.statement_said-statement.ensures in
    let told = subst (λ ps. Telling names (disks_of (kept_all state units c.args.nodes.now)) c.args.asked.count c.args.asked.start ps t l.counts (disks_of ks) (said_together ks l.shared)) c.in-Some.ensures l.invariant.told in
    let answers = subst (λ xs. AnswersTogether xs statement (shown_of l.lines) (shown_of c.serve_statement.new.out) ks l.shared ls after) l.invariant.names c.serve_statement.ensures.tells in
    let stop = ap (stops p) (sym c.last.ensures) ∙ sym (c.stops.ensures script.number script.key) ∙ c.if-stops.true in
    telling_stops names _ c.args.asked.count c.args.asked.start p (ahead script) t u l.counts ks ls l.shared after told statement says (shown_of l.lines) (shown_of c.serve_statement.new.out) refl refl answers stop l.counts

pub note-requires : goal.note-requires
note-requires g c = λ number key.
    let l = c.loop-number in
    let script = c.next.new.self in
    omega (arith, dump_few c.in-Some.step (option_map answer_line c.last-in-loop-number.result) number key script.number script.key, l.invariant.dumps, ap dumps_in c.in-Some.ensures)

pub loop-number-preserved : goal.loop-number-preserved
loop-number-preserved g c =
    let state = g.D.Disk.state in
    let units = g.U.RecoveryUnits.state in
    let l = c.loop-number in
    let script = c.next.new.self in
    let p = piece_of script.number script.key c.in-Some.step in
    let t = tallied_in l.lines in
    let u = tallied_in c.serve_statement.new.out in
    let names = names_of c.args.nodes.now in
    let ks = kept_all state units l.nodes in
    let ls = kept_all state units c.serve_statement.new.nodes in
    let after = c.serve_statement.new.shared in
    let same = sym l.invariant.names ∙ same_names state units l._number l.shared l.nodes.nodes.entries l.invariant.nodes in
    let later = c.serve_statement.ensures.nodes l._number l.invariant.nodes in
    let named = sym (c.serve_statement.ensures.names ∙ l.invariant.names) ∙ same_names state units (l._number + 1) after c.serve_statement.new.nodes.nodes.entries later in
    let statement = statement_of c.statement_said-statement.new.literals c.statement_said-statement.result in
    let says = ap (λ k. reading (words_of k p)) (sym c.sent.ensures) ∙ sym (ap reading c.write.ensures) ∙ c.statement_said-statement.ensures in
    let told = subst (λ ps. Telling names (disks_of (kept_all state units c.args.nodes.now)) c.args.asked.count c.args.asked.start ps t l.counts (disks_of ks) (said_together ks l.shared)) c.in-Some.ensures l.invariant.told in
    let answers = subst (λ xs. AnswersTogether xs statement (shown_of l.lines) (shown_of c.serve_statement.new.out) ks l.shared ls after) l.invariant.names c.serve_statement.ensures.tells in
    let stop = ap (stops p) (sym c.last.ensures) ∙ sym (c.stops.ensures script.number script.key) ∙ c.if-stops.false in
    let more = c.note.ensures script.number script.key ∙ ap (λ a. l.counts ++ counted p a) c.last-in-loop-number.ensures in
    let next = c.in-Some.ensures in
    record {
      room = omega (arith, l.invariant.room, ap length next);
      speaks = (subst AllSpeak next l.invariant.speaks).1;
      dumps = omega (arith, dump_few c.in-Some.step (option_map answer_line c.last-in-loop-number.result) script.number script.key script.number script.key, l.invariant.dumps, ap dumps_in next, ap length (c.note.ensures script.number script.key), length-append l.counts (counted p (option_map answer_line c.last-in-loop-number.result)));
      nodes = later;
      names = c.serve_statement.ensures.names ∙ l.invariant.names;
      large = large_on (names_of l.nodes) _ statement (disks_of ks) (disks_of ls) _ c.serve_statement.ensures.tells.tells l.invariant.large;
      served = λ logs first disks o stands. (
          let before = subst (λ ps. Serving logs (opened first disks) c.args.asked.count c.args.asked.start ps t l.counts ks l.shared) next (l.invariant.served logs first disks o stands) in
          serving_on c.nodes_stay_kept.ensures.worlds names c.requires.apart c.requires.names logs first disks o c.args.asked.count c.args.asked.start p (ahead script) t u l.counts ks ls l.shared after same named l.invariant.large (c.days_make_once.ensures c.args.asked.count c.args.asked.start c.requires.count) (subst (λ n. n < 2 ^ 32) c.sent.ensures c.sent.type_inv) before statement says (shown_of l.lines) (shown_of c.serve_statement.new.out) refl refl
          (λ logs w h kept never. c.serve_statement.ensures.serves logs w h kept never) stop c.note.new.self more);
      told = telling_on names _ c.args.asked.count c.args.asked.start p (ahead script) t u l.counts ks ls l.shared after told statement says (shown_of l.lines) (shown_of c.serve_statement.new.out) refl refl answers stop c.note.new.self more;
    }
