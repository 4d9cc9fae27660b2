use Rattle.std.proofs.Common.{refl}
use Rattle.card_code.proofs.OneToOne.{Contains-rows, Contains-character, rows_in-pair, character_in-pair, code-once}
use Rattle.card_code.specs.CardCode.{code, deck_character, rows_of}
use Rattle.card_code.proofs.code.code_is_one_to_one.Goals as goal

pub returns-clause-size : goal.returns-clause-size
unfolding code
returns-clause-size c = refl

pub returns-clause-distinct : goal.returns-clause-distinct
returns-clause-distinct c = code-once

pub returns-clause-pairs : goal.returns-clause-pairs
unfolding rows_of
returns-clause-pairs c =
    λ character set. (rows_in-pair code character set code-once, Contains-rows code character set)

pub returns-clause-inverse : goal.returns-clause-inverse
unfolding rows_of deck_character
returns-clause-inverse c =
    λ character set. (
      λ e. character_in-pair code character set code-once (Contains-rows code character set e),
      λ e. rows_in-pair code character set code-once (Contains-character code character set e),
    )
