use Rattle.report_writer.specs.Added.{added}
use Rattle.report_writer.proofs.Sending.{takes_then_none}
use Rattle.report_writer.proofs.writer.PageWriter.put.Goals as goal

pub returns-clause-bytes : goal.returns-clause-bytes
returns-clause-bytes g c =
    takes_then_none g.S.Sink.held g.S.Sink.has_failed
    (added c.args.self.now.form_lines c.args.self.now.page c.args.self.now.line c.args.placed.now) _ c.add.new.self.out _
    c.in_ok-add.ensures.bytes c.put_out.result c.put_out.ensures.bytes
