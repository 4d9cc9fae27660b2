use Rattle.std.proofs.Common.{◌≡◌, [], None, length}
use Rattle.std.specs.Io.KnownBytes.{Consumes}
use Rattle.report_streams.specs.DecksInRow.Rows.{reads_left, row_left}
use Rattle.report_streams.proofs.decks_in_row.row.DecksInRowRead.read.Given as goal

abbrev pub invariant-loop-self : goal.invariant-loop-self
invariant-loop-self g l = record {
  kept : Consumes (row_left g.R.Read.remaining l.initial.self.owed l.initial.self.stand l.initial.self.deck l.initial.self.next.items)
      (row_left g.R.Read.remaining l.self.owed l.self.stand l.self.deck l.self.next.items) [];
  owed : l.self.owed ≡ None;
  room : length l.buf ≡ length l.initial.buf;
}

abbrev pub decreases-loop-self : goal.decreases-loop-self
decreases-loop-self g l = reads_left l.self.stand l.self.deck l.self.next.items
