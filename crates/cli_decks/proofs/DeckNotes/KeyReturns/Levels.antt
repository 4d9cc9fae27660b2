-- The key of the level of a break.
use Rattle.std.proofs.Common.{◌≡◌, refl, ℕ, zero, suc, ◌≤◌, List, Option, arith, nat_lt}
use Rattle.chart_lines.specs.declared.charts.chart.Line.{Line}
use Rattle.cli_decks.specs.DeckNotes.KeyReturns.HelperKept.{at_level}
use Rattle.cli_decks.specs.DeckNotes.KeyReturns.Returns.{Earlier, cut, stood, stood_among}

-- the number of the first card with the key at the level of the break, where the groups above the lower levels have ended
pub at_its_level : (lines : List Line) (earlier : Earlier) (broken : ℕ) (card : List ℕ) (minor intermediate major : Option ℕ) → broken ≤ 3
    → minor ≡ stood_among lines 1 card (cut (nat_lt 1 broken) (earlier 1))
    → intermediate ≡ stood_among lines 2 card (cut (nat_lt 2 broken) (earlier 2))
    → major ≡ stood_among lines 3 card (cut (nat_lt 3 broken) (earlier 3))
    → at_level broken minor intermediate major ≡ stood lines earlier broken card
at_its_level lines earlier zero card minor intermediate major few one two three = refl
at_its_level lines earlier (suc zero) card minor intermediate major few one two three = one
at_its_level lines earlier (suc (suc zero)) card minor intermediate major few one two three = two
at_its_level lines earlier (suc (suc (suc zero))) card minor intermediate major few one two three = three
at_its_level lines earlier (suc (suc (suc (suc more)))) card minor intermediate major few one two three = absurd (omega (arith, few))
