use Rattle.std.proofs.Common.{◌+◌, ◌-◌, ◌<◌, ◌++◌, replicate, sym, arith}
use Rattle.std.proofs.lemmas.Result.{err_from_is_err_and}
use Rattle.report_writer.specs.Added.{blank_pages, page_end}
use Rattle.report_writer.proofs.Feeds.{feeds_here, feeds_later, here_long, later_long}
use Rattle.report_writer.proofs.Sending.{breaks_after, breaks_before, breaks_in, takes_then, total_after}
use Rattle.report_writer.proofs.feeding.feed.Goals as goal

pub repeat-requires : goal.repeat-requires
repeat-requires g c =
    omega (
      arith,
      here_long c.args.form_lines c.args.from.page c.args.from.lines c.args.to.page c.args.to.lines c.if-from-to.true,
      c.requires.fits,
    )

pub returns-then-from-to-clause-bytes : goal.returns-then-from-to-clause-bytes
returns-then-from-to-clause-bytes g c =
    rw (feeds_here c.args.form_lines c.args.from.page c.args.from.lines c.args.to.page c.args.to.lines c.if-from-to.true) c.repeat.ensures.bytes

pub end_page-requires-clause-fits : goal.end_page-requires-clause-fits
end_page-requires-clause-fits g c =
    let later : c.args.from.page < c.args.to.page = omega (arith, c.requires.later, c.if-from-to.false) in
    omega (
      arith,
      later_long c.args.form_lines c.args.from.page c.args.from.lines c.args.to.page c.args.to.lines later,
      c.requires.fits,
    )

pub returns-in_err-end_page-clause-bytes : goal.returns-in_err-end_page-clause-bytes
returns-in_err-end_page-clause-bytes g c =
    let later : c.args.from.page < c.args.to.page = omega (arith, c.requires.later, c.if-from-to.false) in
    let p = err_from_is_err_and c.from_residual.result c.from_residual.ensures.1 in
    rw (p.1, p.2) (
      c.in_err-end_page.ensures.bytes.0,
      breaks_in _ (sym (feeds_later c.args.form_lines c.args.from.page c.args.from.lines c.args.to.page c.args.to.lines later))
          c.in_err-end_page.ensures.bytes.1,
    )

pub feed_pages-requires : goal.feed_pages-requires
feed_pages-requires g c =
    let later : c.args.from.page < c.args.to.page = omega (arith, c.requires.later, c.if-from-to.false) in
    omega (
      arith,
      later_long c.args.form_lines c.args.from.page c.args.from.lines c.args.to.page c.args.to.lines later,
      total_after c.in_ok-end_page.ensures.bytes,
      c.requires.fits,
    )

pub returns-in_err-feed_pages-clause-bytes : goal.returns-in_err-feed_pages-clause-bytes
returns-in_err-feed_pages-clause-bytes g c =
    let later : c.args.from.page < c.args.to.page = omega (arith, c.requires.later, c.if-from-to.false) in
    let p = err_from_is_err_and c.from_residual-in_err-feed_pages.result c.from_residual-in_err-feed_pages.ensures.1 in
    rw (p.1, p.2) (
      c.in_err-feed_pages.ensures.bytes.0,
      rw (feeds_later c.args.form_lines c.args.from.page c.args.from.lines c.args.to.page c.args.to.lines later)
          (breaks_after c.in_ok-end_page.ensures.bytes (breaks_before (replicate c.args.to.lines 10) c.in_err-feed_pages.ensures.bytes.1)),
    )

pub repeat-requires-2 : goal.repeat-requires-2
repeat-requires-2 g c =
    let later : c.args.from.page < c.args.to.page = omega (arith, c.requires.later, c.if-from-to.false) in
    omega (
      arith,
      later_long c.args.form_lines c.args.from.page c.args.from.lines c.args.to.page c.args.to.lines later,
      total_after c.in_ok-end_page.ensures.bytes,
      total_after c.in_ok-feed_pages.ensures.bytes,
      c.requires.fits,
    )

pub returns-clause-bytes : goal.returns-clause-bytes
returns-clause-bytes g c =
    let later : c.args.from.page < c.args.to.page = omega (arith, c.requires.later, c.if-from-to.false) in
    let blank = blank_pages c.args.form_lines (c.args.to.page - (c.args.from.page + 1)) in
    rw (feeds_later c.args.form_lines c.args.from.page c.args.from.lines c.args.to.page c.args.to.lines later)
    (takes_then g.S.Sink.held g.S.Sink.has_failed (page_end c.args.form_lines c.args.from.lines)
    (blank ++ replicate c.args.to.lines 10) _ c.end_page.new.out _ c.in_ok-end_page.ensures.bytes c.repeat-2.result
    (takes_then g.S.Sink.held g.S.Sink.has_failed blank (replicate c.args.to.lines 10) _ c.feed_pages.new.out _
    c.in_ok-feed_pages.ensures.bytes c.repeat-2.result c.repeat-2.ensures.bytes))
