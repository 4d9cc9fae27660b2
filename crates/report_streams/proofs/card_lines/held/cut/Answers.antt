use Rattle.std.proofs.Common.{◌∙◌, ◌++◌, ap, drop, subst, sym}
use Rattle.report_streams.proofs.CardLines.Cuts.{cut_on, cut_stays}
use Rattle.report_streams.proofs.card_lines.held.cut.Goals as goal
use Rattle.report_streams.specs.CardLines.Front.{IsCut}

pub returns-clause-text : goal.returns-clause-text
returns-clause-text c =
    let count = c.go_on-count.result in
    ap (λ block. c.go_on-count.new.line.items ++ block) (c.use_up.ensures ∙ ap (drop count) (sym c.bytes.ensures))
    ∙ cut_stays c.args.line.now.items c.bytes.result.now _ count c.go_on-count.ensures.copied
    ∙ ap (λ block. c.args.line.now.items ++ block) c.bytes.ensures

pub returns-clause-cut : goal.returns-clause-cut
returns-clause-cut c =
    let on = c.go_on-count.ensures in
    let count = c.go_on-count.result in
    subst (IsCut c.go_on-count.new.line.items) (sym (c.use_up.ensures ∙ ap (drop count) (sym c.bytes.ensures)))
    (cut_on c.args.line.now.items c.bytes.result.now _ count c.requires on.copied on.few on.within on.unended on.whole)
