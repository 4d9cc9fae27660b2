use Rattle.net.proofs.ImpulsedLaws.{wires_make}
use Rattle.net.proofs.laws.wires_make_the_picture.Goals as goal

pub returns : goal.returns
returns c = wires_make
