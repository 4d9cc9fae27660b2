use Rattle.std.proofs.Common.{refl}
use Rattle.fault_lines.specs.declared.program_io.command.Command.TheVariants as command
use Rattle.cli_commands.proofs.CommandsWords.Outcomes.{done_for_deck, front_by, front_for_deck, refused_for_deck}
use Rattle.fault_lines.proofs.ProgramIo.Stopping.{stops_for_deck}
use Rattle.cli_commands.proofs.CommandsWords.Stopping.{with_wiring}
use Rattle.cli_commands.proofs.CommandsWords.Streaming.{failed_by, refused_by, run_failed, run_refused, served_by}
use Rattle.cli_commands.proofs.commands.serving.carry_out.Goals as goal

pub returns-in-Check-clause-done : goal.returns-in-Check-clause-done
returns-in-Check-clause-done g c =
    served_by c.serve_check.result c.args.command command.Check c.args.text.now (g.R.Read.remaining c.args.deck) _ _ c.in-Check.is
    (done_for_deck c.serve_check.result command.Check command.Check c.args.text.now (g.R.Read.remaining c.args.deck) _ _ refl
    c.serve_check.ensures.done)

pub returns-in-Check-clause-refused : goal.returns-in-Check-clause-refused
returns-in-Check-clause-refused g c =
    refused_by c.serve_check.result c.args.command command.Check c.args.text.now (g.R.Read.remaining c.args.deck) _ _ _ c.in-Check.is
    (refused_for_deck c.serve_check.result command.Check command.Check c.args.text.now (g.R.Read.remaining c.args.deck) _ refl
    c.serve_check.ensures.refused)

pub returns-in-Check-clause-failed : goal.returns-in-Check-clause-failed
returns-in-Check-clause-failed g c =
    failed_by c.serve_check.result c.args.command command.Check c.args.text.now (g.R.Read.remaining c.args.deck) _ _ _ _ c.in-Check.is
    (stops_for_deck c.serve_check.result _ _ c.serve_check.ensures.stopped)

pub returns-in-Wire-clause-done : goal.returns-in-Wire-clause-done
returns-in-Wire-clause-done g c =
    served_by c.serve_wire.result c.args.command command.Wire c.args.text.now (g.R.Read.remaining c.args.deck) _ _ c.in-Wire.is
    (done_for_deck c.serve_wire.result command.Wire command.Wire c.args.text.now (g.R.Read.remaining c.args.deck) _ _ refl
    c.serve_wire.ensures.done)

pub returns-in-Wire-clause-refused : goal.returns-in-Wire-clause-refused
returns-in-Wire-clause-refused g c =
    refused_by c.serve_wire.result c.args.command command.Wire c.args.text.now (g.R.Read.remaining c.args.deck) _ _ _ c.in-Wire.is
    (refused_for_deck c.serve_wire.result command.Wire command.Wire c.args.text.now (g.R.Read.remaining c.args.deck) _ refl
    c.serve_wire.ensures.refused)

pub returns-in-Wire-clause-failed : goal.returns-in-Wire-clause-failed
returns-in-Wire-clause-failed g c =
    failed_by c.serve_wire.result c.args.command command.Wire c.args.text.now (g.R.Read.remaining c.args.deck) _ _ _ _ c.in-Wire.is
    (stops_for_deck c.serve_wire.result _ _ c.serve_wire.ensures.stopped)

pub returns-in-Upgrade-clause-done : goal.returns-in-Upgrade-clause-done
returns-in-Upgrade-clause-done g c =
    served_by c.serve_upgrade.result c.args.command command.Upgrade c.args.text.now (g.R.Read.remaining c.args.deck) _ _ c.in-Upgrade.is
    (done_for_deck c.serve_upgrade.result command.Upgrade command.Upgrade c.args.text.now (g.R.Read.remaining c.args.deck) _ _ refl
    c.serve_upgrade.ensures.done)

pub returns-in-Upgrade-clause-refused : goal.returns-in-Upgrade-clause-refused
returns-in-Upgrade-clause-refused g c =
    refused_by c.serve_upgrade.result c.args.command command.Upgrade c.args.text.now (g.R.Read.remaining c.args.deck) _ _ _ c.in-Upgrade.is
    (refused_for_deck c.serve_upgrade.result command.Upgrade command.Upgrade c.args.text.now (g.R.Read.remaining c.args.deck) _ refl
    c.serve_upgrade.ensures.refused)

pub returns-in-Upgrade-clause-failed : goal.returns-in-Upgrade-clause-failed
returns-in-Upgrade-clause-failed g c =
    failed_by c.serve_upgrade.result c.args.command command.Upgrade c.args.text.now (g.R.Read.remaining c.args.deck) _ _ _ _ c.in-Upgrade.is
    (stops_for_deck c.serve_upgrade.result _ _ c.serve_upgrade.ensures.stopped)

pub returns-in-Run-clause-done : goal.returns-in-Run-clause-done
returns-in-Run-clause-done g c =
    served_by c.print_run.result c.args.command command.Run c.args.text.now (g.R.Read.remaining c.args.deck) _ _ c.in-Run.is
    c.print_run.ensures.whole

pub returns-in-Run-clause-refused : goal.returns-in-Run-clause-refused
returns-in-Run-clause-refused g c =
    refused_by c.print_run.result c.args.command command.Run c.args.text.now (g.R.Read.remaining c.args.deck) _ _ _ c.in-Run.is
    (run_refused c.args.text.now (g.R.Read.remaining c.args.deck) _ _ _ _ c.print_run.result c.print_run.ensures.ends)

pub returns-in-Run-clause-failed : goal.returns-in-Run-clause-failed
returns-in-Run-clause-failed g c =
    failed_by c.print_run.result c.args.command command.Run c.args.text.now (g.R.Read.remaining c.args.deck) _ _ _ _ c.in-Run.is
    (run_failed c.args.text.now (g.R.Read.remaining c.args.deck) _ _ _ _ c.print_run.result c.print_run.ensures.ends)

pub returns-clause-done : goal.returns-clause-done
returns-clause-done g c =
    served_by c.serve_replay.result c.args.command command.Replay c.args.text.now (g.R.Read.remaining c.args.deck) _ _ c.in-Replay.is
    c.serve_replay.ensures.done

pub returns-clause-refused : goal.returns-clause-refused
returns-clause-refused g c =
    refused_by c.serve_replay.result c.args.command command.Replay c.args.text.now (g.R.Read.remaining c.args.deck) _ _ _ c.in-Replay.is
    c.serve_replay.ensures.refused

pub returns-clause-failed : goal.returns-clause-failed
returns-clause-failed g c =
    failed_by c.serve_replay.result c.args.command command.Replay c.args.text.now (g.R.Read.remaining c.args.deck) _ _ _ _ c.in-Replay.is
    (with_wiring c.serve_replay.result _ _ _ c.serve_replay.ensures.stopped c.serve_replay.ensures.unread)

pub returns-in-Check-clause-front : goal.returns-in-Check-clause-front
returns-in-Check-clause-front g c = λ other.
    front_for_deck c.args.command command.Check c.args.text.now (g.R.Read.remaining c.args.deck) _ _ _ c.in-Check.is c.serve_check.ensures.front

pub returns-in-Wire-clause-front : goal.returns-in-Wire-clause-front
returns-in-Wire-clause-front g c = λ other.
    front_for_deck c.args.command command.Wire c.args.text.now (g.R.Read.remaining c.args.deck) _ _ _ c.in-Wire.is c.serve_wire.ensures.front

pub returns-in-Upgrade-clause-front : goal.returns-in-Upgrade-clause-front
returns-in-Upgrade-clause-front g c = λ other.
    front_for_deck c.args.command command.Upgrade c.args.text.now (g.R.Read.remaining c.args.deck) _ _ _ c.in-Upgrade.is c.serve_upgrade.ensures.front

pub returns-clause-front : goal.returns-clause-front
returns-clause-front g c = λ other.
    front_by c.args.command command.Replay c.args.text.now (g.R.Read.remaining c.args.deck) _ _ _ c.in-Replay.is c.serve_replay.ensures.front

pub returns-in-Run-clause-front : goal.returns-in-Run-clause-front
returns-in-Run-clause-front g c = λ other. absurd (other c.in-Run.is)
