use Rattle.std.proofs.Common.{◌≡◌, ◌⊎◌, inl, sym, refl, ap, subst, map, string_bytes, rules}
use Rattle.day_script.specs.Days.{asked_of}
use Rattle.day_script.specs.day_model.Command.{Asked, day_asked}
use Rattle.script_model.specs.Command.{is_run_form}
use Rattle.dtm_run.specs.Days.{DayRan, DayTold}
use Rattle.dtm_run.specs.Headline.{is_command}
use Rattle.dtm_run.specs.declared.top.Exit.TheVariants as exit
use Rattle.dtm_run.specs.Racks.{names_in, states_in}
use Rattle.dtm_run.proofs.Asking.{day_command, day_names, no_command, not_none, same_asked, script_command, script_no_day, true_false}
use Rattle.dtm_run.proofs.Days.{day_for, told_for}
use Rattle.dtm_run.proofs.Leading.{all_stay}
use Rattle.dtm_run.proofs.TopLemmas.{memory_runs, run_over}
use Rattle.dtm_run.proofs.Telling.{tells_memory, tells_over}
use Rattle.dtm_run.proofs.top.run.Goals as goal

pub command_of-requires : goal.command_of-requires
command_of-requires g c = record { few = c.requires.rack.few }

pub returns-in_default-clause-runs : goal.returns-in_default-clause-runs
returns-in_default-clause-runs g c = λ e nodes o s.
    run_over _ nodes _ _ _ _ _ _ _ _ (c.promises_hold.ensures.kept, c.manager_promises_hold.ensures, c.recovery_promises_hold.ensures) c.promises_hold.ensures.agreed c.requires.rack.apart o s refl refl (memory_runs (names_in c.args.rack.now) (states_in g.D.Disk.state c.args.rack.now) _ _ nodes o s)

pub returns-in_default-clause-calls : goal.returns-in_default-clause-calls
returns-in_default-clause-calls g c = λ e. tells_memory (names_in c.args.rack.now) (states_in g.D.Disk.state c.args.rack.now) _ _

pub returns-in_default-clause-makes : goal.returns-in_default-clause-makes
returns-in_default-clause-makes g c = λ asked e nodes o s. inl refl

pub returns-in_default-clause-made : goal.returns-in_default-clause-made
returns-in_default-clause-made g c = λ asked e. inl refl

pub returns-in_default-clause-disks : goal.returns-in_default-clause-disks
returns-in_default-clause-disks g c = all_stay (states_in g.D.Disk.state c.args.rack.now)

pub returns-in-Script-clause-runs : goal.returns-in-Script-clause-runs
returns-in-Script-clause-runs g c = λ e nodes o s.
    run_over (names_in c.args.rack.now) nodes (states_in g.D.Disk.state c.args.rack.now) (states_in g.D.Disk.state c.run_script-exit.new.rack) (g.S.Source.left c.args.source.now) (g.K.Sink.shown c.over-out.result.sink.now) (g.K.Sink.shown c.run_script-exit.new.out.sink.now)
    (g.K.Sink.shown c.args.sink.now) _ c.run_script-exit.result (c.promises_hold.ensures.kept, c.manager_promises_hold.ensures, c.recovery_promises_hold.ensures) c.promises_hold.ensures.agreed c.requires.rack.apart o s (sym (ap (λ s. s.text) c.over-out.ensures.now)) (search rules) (c.run_script-exit.ensures.runs nodes o s)

pub returns-in-Script-clause-calls : goal.returns-in-Script-clause-calls
returns-in-Script-clause-calls g c = λ e.
    tells_over (names_in c.args.rack.now) (states_in g.D.Disk.state c.args.rack.now) (states_in g.D.Disk.state c.run_script-exit.new.rack) _ (g.K.Sink.shown c.over-out.result.sink.now) (g.K.Sink.shown c.run_script-exit.new.out.sink.now)
    (g.K.Sink.shown c.args.sink.now) _ c.run_script-exit.result (sym (ap (λ s. s.text) c.over-out.ensures.now)) (search rules) c.run_script-exit.ensures.calls

pub returns-in-Script-clause-makes : goal.returns-in-Script-clause-makes
returns-in-Script-clause-makes g c = λ asked e. absurd (script_no_day (names_in c.args.rack.now) (map string_bytes c.args.words.now) asked c.in-Script.ensures e)

pub returns-in-Script-clause-made : goal.returns-in-Script-clause-made
returns-in-Script-clause-made g c = λ asked e. absurd (script_no_day (names_in c.args.rack.now) (map string_bytes c.args.words.now) asked c.in-Script.ensures e)

pub returns-in-Script-clause-unread_day : goal.returns-in-Script-clause-unread_day
returns-in-Script-clause-unread_day g c = λ e. absurd (true_false (is_run_form (names_in c.args.rack.now) (map string_bytes c.args.words.now)) c.in-Script.ensures e)

pub returns-in-Script-clause-usage : goal.returns-in-Script-clause-usage
returns-in-Script-clause-usage g c = λ e. absurd (true_false (is_command (names_in c.args.rack.now) (map string_bytes c.args.words.now)) (script_command (names_in c.args.rack.now) (map string_bytes c.args.words.now) c.in-Script.ensures) e)

pub returns-in-Script-clause-unread : goal.returns-in-Script-clause-unread
returns-in-Script-clause-unread g c = λ e. absurd (true_false (is_command (names_in c.args.rack.now) (map string_bytes c.args.words.now)) (script_command (names_in c.args.rack.now) (map string_bytes c.args.words.now) c.in-Script.ensures) e)

pub run_day-exit-requires-clause-names : goal.run_day-exit-requires-clause-names
run_day-exit-requires-clause-names g c = day_names (names_in c.args.rack.now) (map string_bytes c.args.words.now) (asked_of c.in-Day.asked) c.in-Day.ensures.1

pub returns-in-Day-clause-runs : goal.returns-in-Day-clause-runs
returns-in-Day-clause-runs g c = λ e. absurd (true_false (is_run_form (names_in c.args.rack.now) (map string_bytes c.args.words.now)) e c.in-Day.ensures.0)

pub returns-in-Day-clause-calls : goal.returns-in-Day-clause-calls
returns-in-Day-clause-calls g c = λ e. absurd (true_false (is_run_form (names_in c.args.rack.now) (map string_bytes c.args.words.now)) e c.in-Day.ensures.0)

pub returns-in-Day-clause-makes : goal.returns-in-Day-clause-makes
returns-in-Day-clause-makes g c = λ asked e nodes o s.
    day_for nodes (states_in g.D.Disk.state c.args.rack.now) (states_in g.D.Disk.state c.run_day-exit.new.rack) (asked_of c.in-Day.asked) asked (g.K.Sink.shown c.over-out.result.sink.now) (g.K.Sink.shown c.run_day-exit.new.out.sink.now) (g.K.Sink.shown c.args.sink.now) _ c.run_day-exit.result
    (same_asked (day_asked (names_in c.args.rack.now) (map string_bytes c.args.words.now)) (asked_of c.in-Day.asked) asked c.in-Day.ensures.1 e) (sym (ap (λ s. s.text) c.over-out.ensures.now)) (search rules) (c.run_day-exit.ensures.makes nodes o s)

pub returns-in-Day-clause-made : goal.returns-in-Day-clause-made
returns-in-Day-clause-made g c = λ asked e.
    told_for (names_in c.args.rack.now) (states_in g.D.Disk.state c.args.rack.now) (states_in g.D.Disk.state c.run_day-exit.new.rack) (asked_of c.in-Day.asked) asked (g.K.Sink.shown c.over-out.result.sink.now) (g.K.Sink.shown c.run_day-exit.new.out.sink.now) (g.K.Sink.shown c.args.sink.now) _ c.run_day-exit.result
    (same_asked (day_asked (names_in c.args.rack.now) (map string_bytes c.args.words.now)) (asked_of c.in-Day.asked) asked c.in-Day.ensures.1 e) (sym (ap (λ s. s.text) c.over-out.ensures.now)) (search rules) c.run_day-exit.ensures.calls

pub returns-in-Day-clause-usage : goal.returns-in-Day-clause-usage
returns-in-Day-clause-usage g c = λ e. absurd (true_false (is_command (names_in c.args.rack.now) (map string_bytes c.args.words.now)) (day_command (names_in c.args.rack.now) (map string_bytes c.args.words.now) (asked_of c.in-Day.asked) c.in-Day.ensures.0 c.in-Day.ensures.1) e)

pub returns-in-Day-clause-unread : goal.returns-in-Day-clause-unread
returns-in-Day-clause-unread g c = λ e. absurd (true_false (is_command (names_in c.args.rack.now) (map string_bytes c.args.words.now)) (day_command (names_in c.args.rack.now) (map string_bytes c.args.words.now) (asked_of c.in-Day.asked) c.in-Day.ensures.0 c.in-Day.ensures.1) e)

pub returns-in-Day-clause-commanded : goal.returns-in-Day-clause-commanded
returns-in-Day-clause-commanded g c = λ e. c.run_day-exit.ensures.ends.0

pub returns-in-Day-clause-read_fault : goal.returns-in-Day-clause-read_fault
returns-in-Day-clause-read_fault g c = λ e. absurd (c.run_day-exit.ensures.ends.1 e)

pub returns-in-Nothing-clause-runs : goal.returns-in-Nothing-clause-runs
returns-in-Nothing-clause-runs g c = λ e. absurd (true_false (is_run_form (names_in c.args.rack.now) (map string_bytes c.args.words.now)) e c.in-Nothing.ensures.0)

pub returns-in-Nothing-clause-calls : goal.returns-in-Nothing-clause-calls
returns-in-Nothing-clause-calls g c = λ e. absurd (true_false (is_run_form (names_in c.args.rack.now) (map string_bytes c.args.words.now)) e c.in-Nothing.ensures.0)

pub returns-in-Nothing-clause-makes : goal.returns-in-Nothing-clause-makes
returns-in-Nothing-clause-makes g c = λ asked e. absurd (not_none (day_asked (names_in c.args.rack.now) (map string_bytes c.args.words.now)) asked c.in-Nothing.ensures.1 e)

pub returns-in-Nothing-clause-made : goal.returns-in-Nothing-clause-made
returns-in-Nothing-clause-made g c = λ asked e. absurd (not_none (day_asked (names_in c.args.rack.now) (map string_bytes c.args.words.now)) asked c.in-Nothing.ensures.1 e)

pub returns-in-Nothing-clause-commanded : goal.returns-in-Nothing-clause-commanded
returns-in-Nothing-clause-commanded g c = λ e. absurd (true_false (is_command (names_in c.args.rack.now) (map string_bytes c.args.words.now)) e (no_command (names_in c.args.rack.now) (map string_bytes c.args.words.now) c.in-Nothing.ensures.0 c.in-Nothing.ensures.1))

pub returns-in-Nothing-clause-disks : goal.returns-in-Nothing-clause-disks
returns-in-Nothing-clause-disks g c = all_stay (states_in g.D.Disk.state c.args.rack.now)
