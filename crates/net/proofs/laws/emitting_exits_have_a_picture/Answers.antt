use Rattle.net.proofs.EachPicture.{each_picture}
use Rattle.net.proofs.laws.emitting_exits_have_a_picture.Goals as goal

pub returns : goal.returns
returns c = each_picture
