use Rattle.std.proofs.Common.{◌≡◌, ◌+◌, ◌≤◌, length, ap, refl, arith}
use Rattle.browser407.proofs.answer.answer_task.Goals as goal

pub returns : goal.returns
returns c =
    let written = c.do_task-ending.new.out in
    let told = c.do_task-ending.new.faults in
    record {
      written = written;
      told = told;
      is_told = c.do_task-ending.result.is_told;
      unreadable = _;
      named = refl;
      does = rw (c.new-written.ensures, c.new-told.ensures) at c.do_task-ending.ensures;
      lengths = (ap length c.as_slice-3.ensures, ap length c.as_slice-4.ensures);
      stand = λ fits. rw (c.as_slice.ensures, c.as_slice-2.ensures) at (c.put_both-fits.ensures.stand fits);
      room = λ room. c.put_both-fits.ensures.room
          (omega (arith, room, c.put_both-fits.ensures.long, ap length c.as_slice.ensures, ap length c.as_slice-2.ensures));
    }
