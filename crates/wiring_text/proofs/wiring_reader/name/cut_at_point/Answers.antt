use Rattle.wiring_text.proofs.WiringReader.NamePieces.{split_at_cut, split_of_one}
use Rattle.wiring_text.proofs.wiring_reader.name.cut_at_point.Goals as goal

pub returns-in-Some : goal.returns-in-Some
returns-in-Some c =
    split_at_cut c.args.bytes.now c.in-Some.place c.in-Some.ensures.within c.in-Some.ensures.found c.in-Some.ensures.before

pub returns-in-None : goal.returns-in-None
returns-in-None c = split_of_one c.args.bytes.now c.in-None.ensures.none
