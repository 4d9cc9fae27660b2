use Rattle.selectors.proofs.LawLemmas.{one_side_of_balance, one_side_of_pilot, one_side_of_split, no_split_at_control, no_split_at_closing}
use Rattle.selectors.proofs.laws.selectors_lead_to_one_side.Goals as goal

pub returns : goal.returns
returns c = record {
  balance = one_side_of_balance;
  pilots = one_side_of_pilot;
  splits = one_side_of_split;
  none_at_control = no_split_at_control;
  none_at_closing = no_split_at_closing;
}
