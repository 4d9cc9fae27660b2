use Rattle.cli_calls.proofs.browser_pages.pages.read_page.Goals as goal

pub returns-clause-shows : goal.returns-clause-shows
returns-clause-shows c = record {
  version = c.version_of_text.result;
  spelled = c.version_of_text.ensures c.args.setup.now;
  shows = rw (← c.as_bytes.ensures.value, ← c.chart.ensures.value, ← c.plan.ensures) c.in_ok-page.ensures;
}
