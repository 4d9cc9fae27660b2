-- Into which sums something went: a card into those with an entry of its card cycle, a total into those with an entry of its cycle.
use Rattle.std.specs.Prelude.{ℕ, ◌==◌, ◌&&◌, ◌||◌, Bool, false, true, List, [], ◌∷◌, ◌++◌, Option, Some, None, codes, if◌then◌else◌}
use Rattle.std.specs.List.{flat_map}
use Rattle.explain_ledgers.specs.declared.ledgers.entry.Entry.{Entry}
use Rattle.net.specs.declared.cycle.Cycle.{Cycle}
use Rattle.net.specs.declared.cycle.Cycle.TheVariants as in_cycle
use Rattle.show_links.specs.SumPlaces.Places.{sum_open}
use Rattle.explain_wheel_ledgers.specs.declared.chart_totals.TitledAccount.{TitledAccount}
use Rattle.show_sums.specs.SumSections.Labels.{label_text}
use Rattle.show_sums.specs.SumSections.Targets.{same_amount}
use Rattle.show_sums.specs.declared.sum_sections.sums.PageSum.{PageSum}

-- one of some entries is that of the cycle behind so many others
abbrev pub has_entry : List Entry → (passed : ℕ) → Bool
has_entry [] passed = false
has_entry (entry ∷ others) passed = (entry.passed == passed) || has_entry others passed

-- something was added to a sum, or subtracted, in that cycle
abbrev pub takes : PageSum → (passed : ℕ) → Bool
takes sum passed = has_entry sum.ledger.first passed || has_entry sum.ledger.last passed

-- How it came into a sum: into one of an amount of a chart it went. Of a sum without a name it isn't known whether an amount went into it, or
-- only a count.
abbrev pub into_words : Option TitledAccount → List ℕ
into_words (Some total) = codes "<p>It went into "
into_words None = codes "<p>It was counted in "

-- a link to a sum, by what it is called
unfoldable pub sum_link : PageSum → List ℕ
sum_link sum = into_words sum.total ++ sum_open sum.at ++ label_text sum ++ codes "</a>.</p>\n"

-- one of some entries is of the card cycle of the card with this number
abbrev pub is_card_cycle : Cycle → Bool
is_card_cycle in_cycle.RunIn = false
is_card_cycle in_cycle.Card = true
is_card_cycle (in_cycle.Prog level ordinal) = false
is_card_cycle (in_cycle.Head heading) = false

abbrev pub is_of_card : Entry → (card : ℕ) → Bool
is_of_card entry card = is_card_cycle entry.cycle && entry.card == card

abbrev pub has_card : List Entry → (card : ℕ) → Bool
has_card [] card = false
has_card (entry ∷ others) card = is_of_card entry card || has_card others card

-- the card was added to a sum, or subtracted, by an entry that is told
abbrev pub takes_card : PageSum → (card : ℕ) → Bool
takes_card sum card = has_card sum.ledger.first card || has_card sum.ledger.last card

-- the sums into which a card went
abbrev pub card_link : (card : ℕ) → PageSum → List ℕ
card_link card sum = if takes_card sum card then sum_link sum else []

abbrev pub card_sums : List PageSum → (card : ℕ) → List ℕ
card_sums sums card = flat_map (card_link card) sums

-- the sums into which a total went: those of the same amount
abbrev pub higher_link : (lower : PageSum) → PageSum → List ℕ
higher_link lower sum = if takes sum lower.found.passed && same_amount sum.total lower.total then sum_link sum else []

abbrev pub higher_sums : List PageSum → (lower : PageSum) → List ℕ
higher_sums sums lower = flat_map (higher_link lower) sums
