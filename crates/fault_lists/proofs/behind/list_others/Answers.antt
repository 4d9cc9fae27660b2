use Rattle.std.proofs.Common.{refl, []}
use Rattle.std.proofs.KnownBytes.{Appends-nil}
use Rattle.fault_lists.specs.Behind.{nothing}
use Rattle.fault_lists.proofs.Reading.{not_read}
use Rattle.fault_lists.proofs.Rests.{others_written}
use Rattle.fault_lists.proofs.behind.list_others.Goals as goal

pub returns-in-Ok-clause-listed : goal.returns-in-Ok-clause-listed
returns-in-Ok-clause-listed g c =
    others_written c.list_own.result c.args.text.now c.args.left.now c.in-Ok.raw (g.W.Write.contents c.args.out.now)
    (g.W.Write.contents c.list_own.new.out) c.in-Ok.ensures.read c.list_own.ensures.listed

pub returns-in_default-clause-listed : goal.returns-in_default-clause-listed
returns-in_default-clause-listed g c = record {
  told = [];
  tells = nothing
      (not_read c.args.left.now c.read_chart.result c.in-Err.fault c.in-Err.is c.in_default.not-Memory c.read_chart.ensures.only_read) refl;
  written = Appends-nil (g.W.Write.contents c.args.out.now);
}
