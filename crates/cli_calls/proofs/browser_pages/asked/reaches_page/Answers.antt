use Rattle.std.proofs.Common.{◌∙◌, ap, sym}
use Rattle.cli_calls.specs.BrowserPages.Asked.{reaches}
use Rattle.cli_calls.proofs.browser_pages.asked.reaches_page.Goals as goal

pub returns-clause-there : goal.returns-clause-there
returns-clause-there c = λ yes. record {
  lines = c.in_ok-lines.lines.items;
  run = c.in_ok-lines.ensures.lines;
  reached = ap (reaches c.args.page) (sym c.as_slice.ensures.value) ∙ sym c.reaches.ensures ∙ yes;
}

pub returns-clause-lacks : goal.returns-clause-lacks
returns-clause-lacks c = λ no. record {
  lines = c.in_ok-lines.lines.items;
  run = c.in_ok-lines.ensures.lines;
  short = ap (reaches c.args.page) (sym c.as_slice.ensures.value) ∙ sym c.reaches.ensures ∙ no;
}
