use Rattle.std.proofs.Common.{arith, ◌≡◌, ◌<◌, ◌-◌, length, [], sym, take}
use Rattle.std.proofs.lemmas.Grind.{common_steps}
use Rattle.report_streams.specs.DecksInRow.InRow.{left_of}
use Rattle.report_streams.specs.declared.decks_in_row.stand.Stand.TheVariants.{LineStart}
use Rattle.report_streams.proofs.DecksInRow.Reading.{first_is_set, given_front, given_le, passes_line, reads}
use Rattle.report_streams.proofs.decks_in_row.row.DecksInRow.read_deck.Goals as goal

pub returns-then-count-gt0-clause-bytes : goal.returns-then-count-gt0-clause-bytes
returns-then-count-gt0-clause-bytes g c =
    let front : _ = given_le c.in_ok-count.count c.behind_read-self.result in (
      grind (arith, c.given_of.ensures, front, c.in_ok-count.ensures.bound.0),
      rw (c.requires.owed, c.in-Some.is, c.given_of.ensures, ← given_front c.in_ok-count.count c.behind_read-self.result c.read.new.buf, c.behind_read-self.ensures)
          (reads c.args.self.now.stand _ _ (left_of g.R.Read.remaining LineStart c.args.self.now.next.items)
          (take c.in_ok-count.count c.read.new.buf) c.in_ok-count.count (length (take c.in_ok-count.count c.read.new.buf) - 1)
          c.requires.stand (grind (arith, c.in_ok-count.ensures.bound.1, c.if-count-gt0.true))
          (grind (arith, c.in_ok-count.ensures.bound.1, c.if-count-gt0.true)) c.in_ok-count.ensures.bytes.0),
    )

pub returns-clause-bytes : goal.returns-clause-bytes
returns-clause-bytes g c =
    let room : 0 < length c.read.new.buf = grind (arith, common_steps, c.requires.room, c.read.auto.buf) in
    let none : take c.in_ok-count.count c.read.new.buf ≡ [] = grind (arith, common_steps, c.if-count-gt0.false) in (
      grind (arith, common_steps, room),
      rw (c.requires.owed, c.in-Some.is, c.pass_end.ensures.owed, c.requires.owed, c.pass_end.ensures.deck)
          (passes_line c.args.self.now.stand _ _ (left_of g.R.Read.remaining LineStart c.args.self.now.next.items) _ _
          (sym c.if-not-lacks_end.ensures) none (first_is_set c.read.new.buf 10 room) c.in_ok-count.ensures.bytes.0
          (c.in_ok-count.ensures.bytes.1 (grind (arith, c.if-count-gt0.false)) room)),
    )
