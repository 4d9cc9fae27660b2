use Rattle.wiring_text.proofs.WiringReader.Answered.{one_setup, no_fault, one_fault}
use Rattle.wire_chart.proofs.OneText.{one_text, one_text_in}
use Rattle.wire_chart.proofs.ReadBack.{read_back}
use Rattle.wire_chart.proofs.laws.wiring_texts_and_setups_are_one_to_one.Goals as goal

pub returns : goal.returns
returns c = record {
  read_back = read_back;
  one_setup = one_setup;
  one_text = one_text;
  one_text_in = one_text_in;
  no_fault = no_fault;
  one_fault = one_fault;
}
