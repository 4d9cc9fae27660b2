use Rattle.std.proofs.Common.{◌≡◌, ◌∙◌, ap, refl, subst, List, ℕ, [], Some}
use Rattle.cli_commands.specs.CommandsWords.Streamed.{EndsRun, HasRunWhole}
use Rattle.std.proofs.lemmas.Result.{err_from_is_err_and}
use Rattle.cli_calls.proofs.WholeRuns.Printing.{chosen_front, ends_again, pages_stop, printed}
use Rattle.cli_calls.specs.WholeRuns.Whole.{run_stopped}
use Rattle.cli_calls.proofs.whole_runs.serving.print_whole_run.Goals as goal

pub returns-in_err-print_run-clause-stopped : goal.returns-in_err-print_run-clause-stopped
returns-in_err-print_run-clause-stopped g c =
    let exit = err_from_is_err_and c.from_residual.result c.from_residual.ensures.1 in
    rw exit.1
    (run_stopped c.in_err-print_run.field-0.0 c.print_run.new.out.items
    (subst (λ (begun : List ℕ). EndsRun c.args.chart.now (g.R.Read.remaining c.args.deck.now) (g.R.Read.remaining c.print_run.new.deck) (Some begun) (Some c.print_run.new.out.items)
    c.in_err-print_run.field-0.0 (c.print_run.new.out.items ≡ [])) c.new-report.ensures.items
    (ends_again c.args.chart.now (g.R.Read.remaining c.args.deck.now) _ _ _ c.in_err-print_run.field-0.0
    (λ same. ap (λ report. report.items) same ∙ c.new-report.ensures.items) c.in_err-print_run.ensures.ends))
    exit.2 refl)

pub returns-clause-printed : goal.returns-clause-printed
returns-clause-printed g c =
    printed c.print_chosen.result c.args.chart.now c.print_run.new.out.items c.as_slice.result.now (g.R.Read.remaining c.args.deck.now) c.args.pages
    (subst (λ (begun : List ℕ). HasRunWhole c.args.chart.now (g.R.Read.remaining c.args.deck.now) (Some begun) (Some c.print_run.new.out.items))
    c.new-report.ensures.items c.in_ok-print_run.ensures.whole)
    c.as_slice.ensures.value _ _ c.print_chosen.ensures.printed

pub returns-clause-stopped : goal.returns-clause-stopped
returns-clause-stopped g c =
    pages_stop c.print_chosen.result c.args.chart.now c.print_run.new.out.items c.as_slice.result.now (g.R.Read.remaining c.args.deck.now) c.args.pages
    (subst (λ (begun : List ℕ). HasRunWhole c.args.chart.now (g.R.Read.remaining c.args.deck.now) (Some begun) (Some c.print_run.new.out.items))
    c.new-report.ensures.items c.in_ok-print_run.ensures.whole)
    c.as_slice.ensures.value _ _ c.print_chosen.ensures.stopped

pub returns-clause-front : goal.returns-clause-front
returns-clause-front g c =
    chosen_front c.print_chosen.result c.args.chart.now c.print_run.new.out.items c.as_slice.result.now (g.R.Read.remaining c.args.deck.now) c.args.pages
    (subst (λ (begun : List ℕ). HasRunWhole c.args.chart.now (g.R.Read.remaining c.args.deck.now) (Some begun) (Some c.print_run.new.out.items))
    c.new-report.ensures.items c.in_ok-print_run.ensures.whole)
    c.as_slice.ensures.value _ _ c.print_chosen.ensures.front
