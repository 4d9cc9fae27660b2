use Rattle.std.proofs.Common.{◌∙◌, ap, sym, List}
use Rattle.machine.specs.declared.kept.KeptPoint.{KeptPoint}
use Rattle.explain_words.specs.ExplanationText.ExplanationTexts.{text_of}
use Rattle.explain_words.proofs.explanation_text.text.told_wheel.Goals as goal

pub returns : goal.returns
returns c deck is =
    let told = c.in_ok-why.why in
    let explains = c.in_ok-why.ensures deck is in
    record {
      right = explains.is;
      spelled =
          c.in_ok-words.ensures
          ∙ ap (λ (points : List KeptPoint). text_of c.args.setup.now points c.args.asked.now told) (sym explains.by);
    }

pub wheel_text-requires : goal.wheel_text-requires
wheel_text-requires c = (c.in_ok-why.ensures c.requires.found.0 c.requires.found.1).is.long
