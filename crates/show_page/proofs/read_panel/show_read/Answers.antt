use Rattle.std.proofs.Common.{◌≡◌, ◌∙◌, ◌++◌, ap, ℕ, List}
use Rattle.std.specs.String.{string_bytes}
use Rattle.explain_wheel_ledgers.specs.Totals.{totals_in}
use Rattle.show_page.specs.ReadPanel.{read_legend}
use Rattle.show_page.proofs.Parts.{made, same_page}
use Rattle.show_page.proofs.read_panel.show_read.Goals as goal

pub returns : goal.returns
returns c =
    let lines = c.args.chart.now.lines in
    let legend = c.in_ok-write_read_legend.ensures.legend in
    let written = read_legend legend c.args.wiring.now in
    let spelled : c.deref-4.result.now ≡ written =
    c.deref-4.ensures ∙ c.in_ok-write_read_legend.ensures.gained ∙ ap (λ (l : List ℕ). l ++ written) c.new-legend.ensures.bytes in
    made c.page.result
    (λ text is. record {
      wires = c.in_ok-wires.wires.items;
      are = c.in_ok-wires.ensures;
      legend = legend;
      is_legend = c.in_ok-write_read_legend.ensures.is_legend;
      asked = c.in_ok-asked.asked.items;
      are_asked = c.in_ok-asked.ensures;
      page = same_page c.args.setup.now c.deref.result.now c.in_ok-asked.asked.items c.deref-2.result.now (totals_in lines c.args.plan.now lines)
          c.args.cards.now c.lines.result.now lines c.deref-3.result.now c.in_ok-wires.wires.items c.deref-4.result.now written
          c.args.around (string_bytes text) c.deref.ensures.value (c.deref-2.ensures.value ∙ c.in_ok-totals.ensures.value)
          c.lines.ensures.value c.deref-3.ensures.value spelled is;
    })
    c.page.ensures
