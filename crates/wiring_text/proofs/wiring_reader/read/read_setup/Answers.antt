use Rattle.wiring_text.proofs.WiringReader.Answered.{read_by, fault_by, only_read, only_fault}
use Rattle.wiring_text.proofs.wiring_reader.read.read_setup.Goals as goal

pub returns : goal.returns
returns c = record {
  read = read_by c.args.text.now _ c.read_text.ensures;
  fault = fault_by c.args.text.now _ c.read_text.ensures;
  only_read = only_read c.args.text.now _ c.read_text.ensures;
  only_fault = only_fault c.args.text.now _ c.read_text.ensures;
}
