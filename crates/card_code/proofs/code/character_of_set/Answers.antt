use Rattle.std.proofs.Common.{◌∙◌, refl}
use Rattle.card_code.proofs.Tables.{matching-right}
use Rattle.card_code.specs.CardCode.{code, deck_character}
use Rattle.card_code.specs.Columns.{column_of, set_of_column}
use Rattle.card_code.specs.declared.code.TheConstants.{CHARACTERS, SETS}
use Rattle.card_code.proofs.code.character_of_set.Goals as goal

pub returns : goal.returns
unfolding code deck_character column_of set_of_column
returns c = c.matching_character.ensures ∙ matching-right code SETS CHARACTERS c.args.set c.requires refl refl refl
