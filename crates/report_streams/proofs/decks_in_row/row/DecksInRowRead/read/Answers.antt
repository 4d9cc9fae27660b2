use Rattle.std.proofs.Common.{arith}
use Rattle.std.proofs.lemmas.Grind.{common_steps}
use Rattle.report_streams.specs.DecksInRow.Rows.{left_behind}
use Rattle.report_streams.proofs.DecksInRow.Reading.{first_is_set, gives_owed}
use Rattle.report_streams.proofs.decks_in_row.row.DecksInRowRead.read.Goals as goal

pub returns-in-Some-clause-bytes : goal.returns-in-Some-clause-bytes
returns-in-Some-clause-bytes g c = (
  rw (
    ← c.in-Some.ensures.value,
    c.in-Some.ensures.after,
    first_is_set c.args.buf.now c.in-Some.byte (grind (arith, common_steps, c.if-is_empty.false, c.is_empty.ensures)),
  )
      (gives_owed c.in-Some.byte
      (left_behind g.R.Read.remaining c.args.self.now.stand c.args.self.now.deck c.args.self.now.next.items)),
  λ none room. absurd (omega (arith, none)),
)
