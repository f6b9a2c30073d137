use Rattle.std.proofs.Common.{◌∙◌, ◌+◌, sym, refl, ap, subst, arith}
use Rattle.script_lang.specs.Statements.{statement_of}
use Rattle.day_run.specs.run_nodes.Held.{kept_all, names_of}
use Rattle.day_run.specs.run_nodes.Names.{AreApart}
use Rattle.day_run.specs.run_nodes.Together.{disks_of, said_together}
use Rattle.day_run.proofs.run_nodes.Entries.{more_nodes, same_names}
use Rattle.day_run.proofs.Reading.{read_bad, read_blank, read_says, timely}
use Rattle.dtm_run.proofs.Driving.{going_bad, going_blank, going_cut, going_done, going_first, going_read_fault, going_served, going_too_long, going_too_many, runs_as, stands_leaves}
use Rattle.dtm_run.proofs.Leading.{all_stay, go_on, tells_go, way_next}
use Rattle.dtm_run.proofs.Telling.{answers_in, telling_blank, telling_first, telling_served, tells_as, tells_bad, tells_cut, tells_done, tells_read_fault, tells_too_long, tells_too_many}
use Rattle.dtm_run.proofs.top.drive.Goals as goal

pub returns-in-Failed-clause-runs : goal.returns-in-Failed-clause-runs
returns-in-Failed-clause-runs g c = λ said o stand.
    let state = g.D.Disk.state in
    let units = g.U.RecoveryUnits.state in
    let l = c.loop-number in
    let ks = kept_all state units l.nodes in
    let fine = stands_leaves state units l.number l.shared l.nodes.nodes.entries l.invariant.nodes in
    let going = l.invariant.going said o stand in
    going_read_fault _ _ _ _ _ _ _ _ ks l.shared fine going

pub returns-in-End-clause-runs : goal.returns-in-End-clause-runs
returns-in-End-clause-runs g c = λ said o stand.
    let state = g.D.Disk.state in
    let units = g.U.RecoveryUnits.state in
    let l = c.loop-number in
    let ks = kept_all state units l.nodes in
    let fine = stands_leaves state units l.number l.shared l.nodes.nodes.entries l.invariant.nodes in
    let going = l.invariant.going said o stand in
    going_done _ _ _ _ _ _ _ _ ks l.shared fine going c.in-End.ensures.tells

pub returns-in-TooLong-clause-runs : goal.returns-in-TooLong-clause-runs
returns-in-TooLong-clause-runs g c = λ said o stand.
    let state = g.D.Disk.state in
    let units = g.U.RecoveryUnits.state in
    let l = c.loop-number in
    let ks = kept_all state units l.nodes in
    let fine = stands_leaves state units l.number l.shared l.nodes.nodes.entries l.invariant.nodes in
    let at = c.at.ensures.at in
    let going = l.invariant.going said o stand in
    runs_as _ _ _ _ _ _ _ _ c.close.ensures.exit (going_too_long _ _ _ _ _ _ _ _ ks l.shared fine going _ _ (ap (λ s. s.text) at) (ap (λ s. s.number) at) (ap (λ s. s.failed) at ∙ l.invariant.failed) c.close.ensures.emits c.in-TooLong.ensures.tells)

pub returns-then-number-gt-MOST_LINES-clause-runs : goal.returns-then-number-gt-MOST_LINES-clause-runs
returns-then-number-gt-MOST_LINES-clause-runs g c = λ said o stand.
    let state = g.D.Disk.state in
    let units = g.U.RecoveryUnits.state in
    let l = c.loop-number in
    let ks = kept_all state units l.nodes in
    let fine = stands_leaves state units l.number l.shared l.nodes.nodes.entries l.invariant.nodes in
    let at = c.at-in-loop-number.ensures.at in
    let close = c.close-then-number-gt-MOST_LINES.ensures in
    let going = l.invariant.going said o stand in
    runs_as _ _ _ _ _ _ _ _ close.exit (going_too_many _ _ _ _ _ _ _ _ ks l.shared fine going _ _ (ap (λ s. s.text) at) (ap (λ s. s.number) at) (ap (λ s. s.failed) at ∙ l.invariant.failed) _ _ c.in-Line.ensures.tells close.emits c.if-number-gt-MOST_LINES.true)

pub returns-in-Err-clause-runs : goal.returns-in-Err-clause-runs
returns-in-Err-clause-runs g c = λ said o stand.
    let state = g.D.Disk.state in
    let units = g.U.RecoveryUnits.state in
    let l = c.loop-number in
    let ks = kept_all state units l.nodes in
    let fine = stands_leaves state units l.number l.shared l.nodes.nodes.entries l.invariant.nodes in
    let at = c.at-in-loop-number.ensures.at in
    let close = c.close-in-Err.ensures in
    let going = l.invariant.going said o stand in
    runs_as _ _ _ _ _ _ _ _ close.exit (going_bad _ _ _ _ _ _ _ _ ks l.shared fine going _ _ (ap (λ s. s.text) at) (ap (λ s. s.number) at) (ap (λ s. s.failed) at ∙ l.invariant.failed) _ _ c.in-Line.ensures.tells c.in-Line.ensures.taken.0 c.if-number-gt-MOST_LINES.false _ close.emits (read_bad c.in-Err.e.column _ _ c.line.ensures c.in-Err.ensures))

pub returns-then-failed-clause-runs : goal.returns-then-failed-clause-runs
returns-then-failed-clause-runs g c = λ said o stand.
    let state = g.D.Disk.state in
    let units = g.U.RecoveryUnits.state in
    let l = c.loop-number in
    let ks = kept_all state units l.nodes in
    let fine = stands_leaves state units l.number l.shared l.nodes.nodes.entries l.invariant.nodes in
    let at = c.at-in-loop-number.ensures.at in
    let some = c.in-Ok-Some in
    let ls = kept_all state units c.serve_statement.new.nodes in
    let t = c.serve_statement.new.shared in
    let statement = statement_of c.read_statement.new.lit some.statement in
    let says = read_says c.read_statement.new.lit some.field-0 some.statement _ _ some.field-0-is c.line.ensures some.ensures in
    let later = c.serve_statement.ensures.nodes l.number l.invariant.nodes in
    let names = names_of c.args.nodes.now in
    let same = sym l.invariant.names ∙ same_names state units l.number l.shared l.nodes.nodes.entries l.invariant.nodes in
    let named = sym (c.serve_statement.ensures.names ∙ l.invariant.names) ∙ same_names state units (l.number + 1) t c.serve_statement.new.nodes.nodes.entries later in
    let tells = answers_in _ _ statement _ _ ks l.shared ls t l.invariant.names c.serve_statement.ensures.tells in
    let going = l.invariant.going said o stand in
    going_cut _ _ _ _ _ _ _ _ ks l.shared fine going _ _ (ap (λ s. s.text) at) (ap (λ s. s.number) at) (ap (λ s. s.failed) at ∙ l.invariant.failed) _ _ c.in-Line.ensures.tells c.in-Line.ensures.taken.0 c.if-number-gt-MOST_LINES.false ls t
    (way_next c.nodes_stay_kept.ensures.worlds names c.requires.apart _ _ _ ks ls l.shared t same named going.way statement says _ _ (λ logs w h kept never. c.serve_statement.ensures.serves logs w h kept never) tells fine (λ node boot. c.serve_statement.ensures.clocks node boot))
    (stands_leaves state units (l.number + 1) t c.serve_statement.new.nodes.nodes.entries later) (sym c.failed.ensures ∙ c.if-failed.true)

pub returns-in-Failed-clause-calls : goal.returns-in-Failed-clause-calls
returns-in-Failed-clause-calls g c =
    let ks = kept_all g.D.Disk.state g.U.RecoveryUnits.state c.loop-number.nodes in
    let l = c.loop-number in
    let said = said_together ks l.shared in
    tells_read_fault _ _ _ _ _ _ _ _ ks said l.invariant.telling

pub returns-in-End-clause-calls : goal.returns-in-End-clause-calls
returns-in-End-clause-calls g c =
    let ks = kept_all g.D.Disk.state g.U.RecoveryUnits.state c.loop-number.nodes in
    let l = c.loop-number in
    let said = said_together ks l.shared in
    tells_done _ _ _ _ _ _ _ _ ks said l.invariant.telling c.in-End.ensures.tells

pub returns-in-TooLong-clause-calls : goal.returns-in-TooLong-clause-calls
returns-in-TooLong-clause-calls g c =
    let ks = kept_all g.D.Disk.state g.U.RecoveryUnits.state c.loop-number.nodes in
    let l = c.loop-number in
    let said = said_together ks l.shared in
    let at = c.at.ensures.at in
    tells_as _ _ _ _ _ _ _ _ c.close.ensures.exit (tells_too_long _ _ _ _ _ _ _ _ ks said l.invariant.telling _ _ (ap (λ s. s.text) at) (ap (λ s. s.number) at) (ap (λ s. s.failed) at ∙ l.invariant.failed) c.close.ensures.emits c.in-TooLong.ensures.tells)

pub returns-then-number-gt-MOST_LINES-clause-calls : goal.returns-then-number-gt-MOST_LINES-clause-calls
returns-then-number-gt-MOST_LINES-clause-calls g c =
    let ks = kept_all g.D.Disk.state g.U.RecoveryUnits.state c.loop-number.nodes in
    let l = c.loop-number in
    let said = said_together ks l.shared in
    let at = c.at-in-loop-number.ensures.at in
    let close = c.close-then-number-gt-MOST_LINES.ensures in
    tells_as _ _ _ _ _ _ _ _ close.exit (tells_too_many _ _ _ _ _ _ _ _ ks said l.invariant.telling _ _ (ap (λ s. s.text) at) (ap (λ s. s.number) at) (ap (λ s. s.failed) at ∙ l.invariant.failed) _ _ c.in-Line.ensures.tells close.emits c.if-number-gt-MOST_LINES.true)

pub returns-in-Err-clause-calls : goal.returns-in-Err-clause-calls
returns-in-Err-clause-calls g c =
    let ks = kept_all g.D.Disk.state g.U.RecoveryUnits.state c.loop-number.nodes in
    let l = c.loop-number in
    let said = said_together ks l.shared in
    let at = c.at-in-loop-number.ensures.at in
    let close = c.close-in-Err.ensures in
    tells_as _ _ _ _ _ _ _ _ close.exit (tells_bad _ _ _ _ _ _ _ _ ks said l.invariant.telling _ _ (ap (λ s. s.text) at) (ap (λ s. s.number) at) (ap (λ s. s.failed) at ∙ l.invariant.failed) _ _ c.in-Line.ensures.tells c.in-Line.ensures.taken.0 c.if-number-gt-MOST_LINES.false _ close.emits (read_bad c.in-Err.e.column _ _ c.line.ensures c.in-Err.ensures))

pub returns-then-failed-clause-calls : goal.returns-then-failed-clause-calls
returns-then-failed-clause-calls g c =
    let ks = kept_all g.D.Disk.state g.U.RecoveryUnits.state c.loop-number.nodes in
    let l = c.loop-number in
    let said = said_together ks l.shared in
    let at = c.at-in-loop-number.ensures.at in
    let some = c.in-Ok-Some in
    let ls = kept_all g.D.Disk.state g.U.RecoveryUnits.state c.serve_statement.new.nodes in
    let t = c.serve_statement.new.shared in
    let statement = statement_of c.read_statement.new.lit some.statement in
    let says = read_says c.read_statement.new.lit some.field-0 some.statement _ _ some.field-0-is c.line.ensures some.ensures in
    let later = c.serve_statement.ensures.nodes l.number l.invariant.nodes in
    let names = names_of c.args.nodes.now in
    let same = sym l.invariant.names ∙ same_names g.D.Disk.state g.U.RecoveryUnits.state l.number l.shared l.nodes.nodes.entries l.invariant.nodes in
    let named = sym (c.serve_statement.ensures.names ∙ l.invariant.names) ∙ same_names g.D.Disk.state g.U.RecoveryUnits.state (l.number + 1) t c.serve_statement.new.nodes.nodes.entries later in
    let tells = answers_in _ _ statement _ _ ks l.shared ls t l.invariant.names c.serve_statement.ensures.tells in
    tells_cut _ _ _ _ _ _ _ _ ks said l.invariant.telling _ _ (ap (λ s. s.text) at) (ap (λ s. s.number) at) (ap (λ s. s.failed) at ∙ l.invariant.failed) _ _ c.in-Line.ensures.tells c.in-Line.ensures.taken.0 c.if-number-gt-MOST_LINES.false statement l.shared refl ls t says tells (sym c.failed.ensures ∙ c.if-failed.true)

pub returns-then-failed-clause-disks : goal.returns-then-failed-clause-disks
returns-then-failed-clause-disks g c =
    let state = g.D.Disk.state in
    let units = g.U.RecoveryUnits.state in
    let l = c.loop-number in
    let ks = kept_all state units l.nodes in
    let ls = kept_all state units c.serve_statement.new.nodes in
    go_on _ (disks_of ks) (disks_of ls) l.invariant.goes (tells_go _ _ _ _ _ _ c.serve_statement.ensures.tells.tells)

pub serve_statement-requires-clause-apart : goal.serve_statement-requires-clause-apart
serve_statement-requires-clause-apart g c = subst AreApart (sym c.loop-number.invariant.names) c.requires.apart

pub serve_statement-requires-clause-nodes : goal.serve_statement-requires-clause-nodes
serve_statement-requires-clause-nodes g c = (c.loop-number.number, omega (arith, c.loop-number.invariant.few), c.loop-number.invariant.nodes)

pub serve_statement-requires-clause-timely : goal.serve_statement-requires-clause-timely
serve_statement-requires-clause-timely g c =
    let some = c.in-Ok-Some in
    timely c.clocks_are_early.ensures c.line.result.now (statement_of c.read_statement.new.lit some.statement) (read_says c.read_statement.new.lit some.field-0 some.statement c.line.result.now c.line.result.now some.field-0-is refl some.ensures)

pub loop-number-init : goal.loop-number-init
loop-number-init g c =
    let state = g.D.Disk.state in
    let units = g.U.RecoveryUnits.state in
    let ns = c.args.nodes.now in
    let s = c.args.shared.now in
    let ks = kept_all state units ns in
    record {
      sound = c.requires.sound;
      few = omega arith;
      nodes = more_nodes state units 0 s ns.nodes.entries c.requires.nodes;
      names = refl;
      goes = all_stay (disks_of ks);
      same_sink = refl;
      failed = c.requires.failed;
      read_count = omega arith;
      write_count = omega arith;
      going = λ said o stand. going_first (names_of ns) ks s _ _ _ c.requires.first c.requires.unsaid (same_names state units 0 s ns.nodes.entries c.requires.nodes) c.requires.zero said o stand;
      telling = telling_first (names_of ns) (disks_of ks) _ _ _ _ c.requires.first c.requires.unsaid;
    }

pub loop-number-preserved-in-Ok-None : goal.loop-number-preserved-in-Ok-None
loop-number-preserved-in-Ok-None g c =
    let state = g.D.Disk.state in
    let units = g.U.RecoveryUnits.state in
    let l = c.loop-number in
    let ks = kept_all state units l.nodes in
    let fine = stands_leaves state units l.number l.shared l.nodes.nodes.entries l.invariant.nodes in
    let at = c.at-in-loop-number.ensures.at in
    let same_count = ap (λ s. s.faults) at in
    let none = c.in-Ok-None in
    let blank = read_blank c.read_statement.new.lit none.field-0 _ _ none.field-0-is c.line.ensures none.ensures in
    record {
      sound = c.next.ensures.sound;
      few = omega (arith, c.if-number-gt-MOST_LINES.false);
      nodes = more_nodes state units l.number l.shared l.nodes.nodes.entries l.invariant.nodes;
      names = l.invariant.names;
      goes = l.invariant.goes;
      same_sink = c.at-in-loop-number.ensures.same_sink ∙ l.invariant.same_sink;
      failed = ap (λ s. s.failed) at ∙ l.invariant.failed;
      read_count = omega (arith, l.invariant.read_count, c.next.ensures.count);
      write_count = omega (arith, l.invariant.write_count, same_count);
      going = λ said o stand. going_blank _ _ _ _ _ _ _ _ ks l.shared fine (l.invariant.going said o stand) _ _ c.in-Line.ensures.tells c.in-Line.ensures.taken.0 c.if-number-gt-MOST_LINES.false _ _ _ refl c.in-Line.ensures.taken.1 (ap (λ s. s.text) at) blank;
      telling = telling_blank _ _ _ _ _ _ _ _ ks _ l.invariant.telling _ _ c.in-Line.ensures.tells c.in-Line.ensures.taken.0 c.if-number-gt-MOST_LINES.false _ _ _ refl c.in-Line.ensures.taken.1 (ap (λ s. s.text) at)
          (sym l.invariant.names ∙ same_names state units l.number l.shared l.nodes.nodes.entries l.invariant.nodes) blank;
    }

pub loop-number-preserved : goal.loop-number-preserved
loop-number-preserved g c =
    let state = g.D.Disk.state in
    let units = g.U.RecoveryUnits.state in
    let l = c.loop-number in
    let ks = kept_all state units l.nodes in
    let fine = stands_leaves state units l.number l.shared l.nodes.nodes.entries l.invariant.nodes in
    let at = c.at-in-loop-number.ensures.at in
    let some = c.in-Ok-Some in
    let ls = kept_all state units c.serve_statement.new.nodes in
    let t = c.serve_statement.new.shared in
    let statement = statement_of c.read_statement.new.lit some.statement in
    let says = read_says c.read_statement.new.lit some.field-0 some.statement _ _ some.field-0-is c.line.ensures some.ensures in
    let later = c.serve_statement.ensures.nodes l.number l.invariant.nodes in
    let names = names_of c.args.nodes.now in
    let same = sym l.invariant.names ∙ same_names state units l.number l.shared l.nodes.nodes.entries l.invariant.nodes in
    let named = sym (c.serve_statement.ensures.names ∙ l.invariant.names) ∙ same_names state units (l.number + 1) t c.serve_statement.new.nodes.nodes.entries later in
    let tells = answers_in _ _ statement _ _ ks l.shared ls t l.invariant.names c.serve_statement.ensures.tells in
    let same_count = ap (λ s. s.faults) at in
    record {
      sound = c.next.ensures.sound;
      few = omega (arith, c.if-number-gt-MOST_LINES.false);
      nodes = later;
      names = c.serve_statement.ensures.names ∙ l.invariant.names;
      goes = go_on _ (disks_of ks) (disks_of ls) l.invariant.goes (tells_go _ _ _ _ _ _ c.serve_statement.ensures.tells.tells);
      same_sink = c.serve_statement.ensures.place ∙ (c.at-in-loop-number.ensures.same_sink ∙ l.invariant.same_sink);
      failed = sym c.failed.ensures ∙ c.if-failed.false;
      read_count = omega (arith, l.invariant.read_count, c.next.ensures.count);
      write_count = omega (arith, l.invariant.write_count, c.serve_statement.ensures.since.counts, same_count);
      going = λ said o stand. (let going = l.invariant.going said o stand in going_served _ _ _ _ _ _ _ _ ks l.shared fine going _ _ (ap (λ s. s.text) at) (ap (λ s. s.number) at) (ap (λ s. s.failed) at ∙ l.invariant.failed) _ _ c.in-Line.ensures.tells c.in-Line.ensures.taken.0 c.if-number-gt-MOST_LINES.false ls t
          (way_next c.nodes_stay_kept.ensures.worlds names c.requires.apart _ _ _ ks ls l.shared t same named going.way statement says _ _ (λ logs w h kept never. c.serve_statement.ensures.serves logs w h kept never) tells fine (λ node boot. c.serve_statement.ensures.clocks node boot))
          _ _ refl c.in-Line.ensures.taken.1 (sym c.failed.ensures ∙ c.if-failed.false));
      telling = telling_served _ _ _ _ _ _ _ _ ks _ l.invariant.telling _ _ (ap (λ s. s.text) at) (ap (λ s. s.number) at) (ap (λ s. s.failed) at ∙ l.invariant.failed) _ _ c.in-Line.ensures.tells c.in-Line.ensures.taken.0 c.if-number-gt-MOST_LINES.false statement l.shared refl ls t says tells _ _ refl c.in-Line.ensures.taken.1 (sym c.failed.ensures ∙ c.if-failed.false);
    }
