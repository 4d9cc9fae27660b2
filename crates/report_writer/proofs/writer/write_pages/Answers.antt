use Rattle.std.proofs.Common.{sym, subst, rules}
use Rattle.report_writer.proofs.Texts.{from_first}
use Rattle.report_writer.proofs.WholePages.{whole_pages}
use Rattle.report_writer.proofs.writer.write_pages.Goals as goal
use Rattle.page_text.specs.PlacedLines.InOrder.{FollowInOrder}

pub add_all-requires : goal.add_all-requires
add_all-requires g c =
    let pages = c.new-pages.result in
    subst (λ f. FollowInOrder f pages.page pages.line c.args.lines.now) (sym c.new-pages.ensures.form)
    (subst (λ p. FollowInOrder c.args.form_lines p pages.line c.args.lines.now) (sym c.new-pages.ensures.page)
    (subst (λ l. FollowInOrder c.args.form_lines 1 l c.args.lines.now) (sym c.new-pages.ensures.line)
    (from_first c.args.form_lines c.args.lines.now c.requires.order)))

pub returns-clause-bytes : goal.returns-clause-bytes
returns-clause-bytes g c =
    let written = whole_pages (λ sink. g.S.Sink.held sink.now) (λ sink. g.S.Sink.has_failed sink.now) c.args.form_lines c.args.lines.now
    c.new-pages.result c.add_all.new.self c.end-ended.new.self c.add_all.result c.end-ended.result c.requires.order
    c.new-pages.ensures.none_wait c.new-pages.ensures.none_written c.new-pages.ensures.form c.new-pages.ensures.page c.new-pages.ensures.line
    c.add_all.ensures.bytes c.add_all.ensures.line c.add_all.ensures.form c.end-ended.ensures.bytes c.end-ended.ensures.all
    c.end-ended.ensures.again in
    search rules
