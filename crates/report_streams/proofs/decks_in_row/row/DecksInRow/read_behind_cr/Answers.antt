use Rattle.std.proofs.Common.{arith, subst}
use Rattle.std.specs.Io.KnownBytes.{Consumes}
use Rattle.std.proofs.lemmas.Grind.{common_steps}
use Rattle.report_streams.specs.DecksInRow.InRow.{left_of}
use Rattle.report_streams.specs.declared.decks_in_row.stand.Stand.TheVariants.{LineStart}
use Rattle.report_streams.proofs.DecksInRow.Reading.{first_is_set, gives_cr, one_read}
use Rattle.report_streams.proofs.decks_in_row.row.DecksInRow.read_behind_cr.Goals as goal

pub returns-clause-bytes : goal.returns-clause-bytes
returns-clause-bytes g c = (
  grind (arith, common_steps, c.requires.room),
  rw (c.requires.owed, c.requires.stand, c.in-Some.is, c.behind_byte-self.ensures, first_is_set c.args.buf.now 13 c.requires.room)
      (gives_cr _ _ _ (left_of g.R.Read.remaining LineStart c.args.self.now.next.items)
      (subst (Consumes (g.R.Read.remaining c.in-Some.deck) (g.R.Read.remaining c.read.new.self))
      (one_read c.read.new.buf c.in_ok-read.field-0 (grind (arith, c.read.auto.buf)) c.if-branch-eq0.false) c.in_ok-read.ensures.bytes.0)),
)
