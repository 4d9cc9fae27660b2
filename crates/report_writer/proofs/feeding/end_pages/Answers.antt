use Rattle.std.proofs.Common.{arith}
use Rattle.std.proofs.lemmas.Result.{err_from_is_err_and}
use Rattle.report_writer.specs.Added.{last_end}
use Rattle.report_writer.proofs.Sending.{breaks_no_more, takes_no_more, takes_then_none, total_after}
use Rattle.report_writer.proofs.feeding.end_pages.Goals as goal

pub put_out-requires : goal.put_out-requires
put_out-requires g c = omega (arith, total_after c.in_ok-end_begun_page.ensures.bytes, c.requires.fits c.in_ok-check.ensures.well)

pub returns-in_err-put_out-clause-bytes : goal.returns-in_err-put_out-clause-bytes
returns-in_err-put_out-clause-bytes g c =
    let p = err_from_is_err_and c.from_residual-in_err-put_out.result c.from_residual-in_err-put_out.ensures.1 in
    rw (p.1, p.2) (c.in_err-put_out.ensures.bytes.0, breaks_no_more c.in_ok-end_begun_page.ensures.bytes c.in_err-put_out.ensures.bytes.1)

pub returns-clause-bytes : goal.returns-clause-bytes
returns-clause-bytes g c =
    takes_then_none g.S.Sink.held g.S.Sink.has_failed (last_end c.args.form_lines c.args.line) _ c.put_out.new.self _
    (takes_no_more c.in_ok-end_begun_page.ensures.bytes c.in_ok-put_out.ensures.bytes) c.flush.result c.flush.ensures.bytes
