use Rattle.compile407.proofs.Headline.{read_setups_print_alike}
use Rattle.compile407.proofs.laws.read_setups_print_alike.Goals as goal

pub returns : goal.returns
returns c = read_setups_print_alike
