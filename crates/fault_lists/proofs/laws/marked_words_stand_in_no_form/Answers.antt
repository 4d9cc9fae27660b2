use Rattle.fault_lists.proofs.MarkedWords.{marked_words}
use Rattle.fault_lists.proofs.laws.marked_words_stand_in_no_form.Goals as goal

pub returns : goal.returns
returns c = marked_words
