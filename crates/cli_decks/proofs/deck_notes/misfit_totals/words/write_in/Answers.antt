use Rattle.std.proofs.Common.{◌≡◌, ◌∙◌, ◌<◌, ◌≤◌, ◌++◌, ap, sym, subst, get_or, length, List}
use Rattle.std.proofs.Math.Seq.{take_all}
use Rattle.std.specs.List.{flat_map}
use Rattle.std.specs.Prelude.{Contains}
use Rattle.chart_lines.specs.declared.charts.chart.Line.{Line}
use Rattle.cli_decks.proofs.DeckNotes.MisfitTotals.Good.{good_line}
use Rattle.cli_decks.specs.DeckNotes.MisfitTotals.Large.{large_on}
use Rattle.cli_sheets.proofs.SheetsWords.Growing.{piece_more}
use Rattle.cli_decks.proofs.deck_notes.misfit_totals.words.write_in.Goals as goal

pub write_on-requires-clause-good : goal.write_on-requires-clause-good
write_on-requires-clause-good c =
    good_line c.args.chart.now c.line-item.result c.lines-line-items.ensures.lawful
    (subst (λ (l : List Line). Contains l c.line-item.result) c.lines-line-items.ensures.value
    (c.loop-line.line-index, c.loop-line-test.true, sym c.line-item.is))

pub loop-line-preserved : goal.loop-line-preserved
loop-line-preserved c =
    let there = subst
    (λ (l : List Line). (c.loop-line.line-index < length l) × (get_or l c.loop-line.line-index c.line-item.result ≡ c.line-item.result))
    c.lines-line-items.ensures.value (c.loop-line-test.true, sym c.line-item.is) in
    piece_more (λ line. large_on c.args.chart.now.lines c.args.level c.args.number c.args.group.now line.statement) c.args.text.now.items
    c.loop-line.text.items c.write_on.new.text.items c.args.chart.now.lines c.loop-line.line-index c.line-item.result there.0 there.1
    c.loop-line.invariant c.in_ok-write_on.ensures

pub returns : goal.returns
returns c =
    c.loop-line.invariant
    ∙ ap (λ (l : List Line). c.args.text.now.items
    ++ flat_map (λ line. large_on c.args.chart.now.lines c.args.level c.args.number c.args.group.now line.statement) l)
    (take_all c.loop-line.line-index c.args.chart.now.lines
    (subst (λ (l : List Line). length l ≤ c.loop-line.line-index) c.lines-line-items.ensures.value c.loop-line-test.false))
