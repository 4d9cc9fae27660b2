use Rattle.std.proofs.Common.{◌∙◌, sym, rules, arith}
use Rattle.std.proofs.lemmas.Grind.{common_steps}
use Rattle.machine_sets.proofs.BitSets.PlaceLemmas.{has_place-word, has_place-past}
use Rattle.machine_sets.proofs.bit_sets.places.has_in.Goals as goal

pub returns-then-place-words : goal.returns-then-place-words
returns-then-place-words c = c.has_bit.ensures ∙ sym (has_place-word c.args.words.now c.args.place)

pub returns-else-place-words : goal.returns-else-place-words
returns-else-place-words c =
    let none = has_place-past c.args.words.now c.args.place (search rules) in
    grind (arith, common_steps)
