use Rattle.selectors.proofs.LawLemmas.{pilots_moved, pilots_forgotten, pilots_left}
use Rattle.selectors.proofs.laws.pilots_follow_their_pickups.Goals as goal

pub returns : goal.returns
returns c = record { moved = pilots_moved; forgotten = pilots_forgotten; left = pilots_left }
