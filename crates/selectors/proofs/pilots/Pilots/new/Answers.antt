use Rattle.std.proofs.Common.{List, Bool, ap}
use Rattle.selectors.proofs.PickupLemmas.{no-bits}
use Rattle.selectors.proofs.pilots.Pilots.new.Goals as goal

pub returns : goal.returns
returns c = ap (λ (none : List Bool). record { transferred = none; picked_up = none }) no-bits
