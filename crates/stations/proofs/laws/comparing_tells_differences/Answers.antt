use Rattle.stations.proofs.Differences.{tells_differences}
use Rattle.stations.proofs.laws.comparing_tells_differences.Goals as goal

pub returns : goal.returns
returns c = tells_differences
