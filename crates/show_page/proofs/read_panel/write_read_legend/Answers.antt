use Rattle.std.proofs.Common.{◌≡◌, ◌++◌}
use Rattle.std.specs.String.{string_bytes}
use Rattle.show_drawings.proofs.MarkupWords.Pieces.{and_more, where_ok}
use Rattle.show_page.specs.ReadPanel.{GainsReadLegend, given_text, read_legend, read_open}
use Rattle.show_page.proofs.read_panel.write_read_legend.Goals as goal

pub returns : goal.returns
unfolding read_legend
returns c =
    let old = string_bytes c.args.text.now in
    let opened = string_bytes c.write_read_open.new.text in
    let written = string_bytes c.write_legend.new.text in
    let new = string_bytes c.write_given.new.text in
    let legend = c.in_ok-write_legend.ensures.text in
    let given = given_text c.args.wiring.now in
    where_ok (new ≡ written ++ given)
    (GainsReadLegend c.args.version c.args.chart.now.lines c.args.plan.now c.args.source.now c.args.wiring.now old new)
    c.write_given.result
    (λ last. record {
      legend = legend;
      is_legend = c.in_ok-write_legend.ensures.each;
      gained = and_more old written new (read_open ++ legend) given
          (and_more old opened written read_open legend c.in_ok-write_read_open.ensures c.in_ok-write_legend.ensures.gained) last;
    })
    c.write_given.ensures
