use Rattle.std.proofs.Common.{◌∙◌, ap, arith}
use Rattle.card_code.specs.CardCode.{print_character}
use Rattle.std.proofs.lemmas.List.{length-set}
use Rattle.print_unit.specs.RowSets.{rows_in}
use Rattle.print_unit.specs.ZeroControl.{character_of}
use Rattle.print_unit.proofs.Columns.{received-column}
use Rattle.print_unit.proofs.Ranges.{places-more}
use Rattle.print_unit.proofs.characters.fill.Goals as goal

pub loop-set-preserved : goal.loop-set-preserved
loop-set-preserved c =
    let characters = c.loop-set.characters in
    let number = c.loop-set.set in
    let long = c.loop-set.invariant.sets in
    let below = c.loop-set-test.true in
    record {
      characters = places-more (λ n. character_of (rows_in n)) characters number c.print_character.result (omega (arith, long, below)) (c.print_character.ensures ∙ ap print_character (c.of_set.ensures ∙ received-column number)) c.loop-set.invariant.characters;
      sets = length-set characters number c.print_character.result ∙ long;
    }
