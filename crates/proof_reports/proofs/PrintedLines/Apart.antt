-- On each printed line of a lawful chart the items keep apart.
use Rattle.std.proofs.Common.{Bool, Option}
use Rattle.wiring_table.specs.Below.chart_lines.ChartsWords.Chart.{Chart}
use Rattle.wiring_table.specs.Below.chart_lines.declared.charts.statement.Statement.{Statement}
use Rattle.wiring_table.specs.Below.chart_line_rules.declared.print_rules.items.PrintedLine.{PrintedLine}
use Rattle.wiring_table.specs.Below.chart_rules.Rules.{IsLawful}
use Rattle.proof_reports.specs.PrintedLines.Laws.{HasItemSets, LawfulItemsKeepApart}
use Rattle.proof_reports.specs.PrintedLines.Shown.{Shown, card_sends, total_sends, heading_sends}
use Rattle.proof_reports.proofs.PrintedLines.Cards.{on_card_line, card-sending}
use Rattle.proof_reports.proofs.PrintedLines.Headings.{on_heading_line, heading-sending}
use Rattle.proof_reports.proofs.PrintedLines.Sending.{IsSending, sets_on, own-set, no-set}
use Rattle.proof_reports.proofs.PrintedLines.TotalLines.{on_total_line, total-sending}

-- what is sent to one printed line
item-sets : (chart : Chart) → IsLawful chart → (kind : PrintedLine → Bool) (sends : Statement → Option Shown)
    → IsSending chart.lines kind sends → HasItemSets chart.lines sends (sets_on chart sends)
item-sets chart lawful kind sends sending = record {
  own = λ line shown v there sent on. own-set chart lawful kind sends sending line shown v there sent on;
  none = λ v none. no-set sends v chart.lines none;
}

pub lawful_items : LawfulItemsKeepApart
lawful_items chart lawful = record {
  on_card = λ opens card.
      item-sets chart lawful on_card_line (card_sends chart.lines opens card) (card-sending chart.lines opens card);
  on_total = λ level held card.
      item-sets chart lawful (on_total_line level) (total_sends chart.lines level held card)
      (total-sending chart lawful level held card);
  on_heading = λ number. item-sets chart lawful (on_heading_line number) (heading_sends number) (heading-sending chart.lines number);
}
