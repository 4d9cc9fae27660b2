use Rattle.explain_words.proofs.TracesWords.OneTrace.{traces-one}
use Rattle.explain_words.proofs.traces.laws.traces_are_one.Goals as goal

pub returns : goal.returns
returns c = traces-one
