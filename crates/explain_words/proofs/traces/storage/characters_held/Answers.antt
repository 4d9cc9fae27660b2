use Rattle.std.proofs.Common.{arith}
use Rattle.explain_words.specs.TracesWords.TracedUnits.{column_character}
use Rattle.explain_words.proofs.TracesWords.Pieces.{character_more, characters_all, characters_long}
use Rattle.explain_words.proofs.traces.storage.characters_held.Goals as goal

pub loop-place-preserved : goal.loop-place-preserved
loop-place-preserved c =
    let long = c.loop-place.invariant.1 in
    let low = c.loop-place-test.true in (
      character_more (column_character c.args.storage.now) c.loop-place.characters c.loop-place.place c.column_character.result
          (omega (arith, long, low)) c.loop-place.invariant.0 c.column_character.ensures,
      characters_long c.loop-place.characters c.loop-place.place c.column_character.result long,
    )

pub returns : goal.returns
returns c =
    characters_all (column_character c.args.storage.now) c.loop-place.place c.loop-place.characters c.loop-place.invariant.0
    c.loop-place.invariant.1 (omega (arith, c.loop-place-test.false))
