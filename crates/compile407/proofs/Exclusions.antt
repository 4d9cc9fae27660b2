-- A text that compiles has no fault, and a deck that can be run has none.
use Rattle.std.proofs.Common.{◌≡◌, ◌∙◌, sym, ap, ℕ, List, Some, None, slice_get, subst, arith}
use Rattle.std.specs.List.{All}
use Rattle.std.proofs.lemmas.List.Elements.{All-get_or}
use Rattle.std.proofs.lemmas.Option.{slice_get_within, get_or_from_slice_get}
use Rattle.allocate.proofs.Exclusions.{fitting_charts_have_no_fault}
use Rattle.allocate.specs.Exceeded.{HasCapacityFault}
use Rattle.chart_plans.specs.WantedWords.Wanted.{wanted_of}
use Rattle.capacity.specs.Capacities.{standard}
use Rattle.chart_text.specs.Below.chart_lines.ChartsWords.Chart.{Chart}
use Rattle.chart_text.specs.declared.fault.TextFault.TheVariants as text
use Rattle.chart_text.proofs.ChartGrammar.{one_chart, no_chart}
use Rattle.chart_rules.specs.Rules.{Broken, IsKept, IsLawful}
use Rattle.chart_rules.specs.Below.chart_line_rules.FieldRules.Fields.{fields_of}
use Rattle.chart_rules.specs.ValidCard.{IsValidCard, IsFirstInvalid}
use Rattle.chart_rules.specs.declared.card.CardFault.{CardFault}
use Rattle.report_misfits.specs.Below.report_definition.Misfits.{first_of}
use Rattle.report_misfits.proofs.Below.report_definition.Fitting.{fit_without_misfits}
use Rattle.fault_lines.specs.declared.faults.chart.ChartFault.TheVariants as chart
use Rattle.fault_lines.specs.declared.faults.deck.RunFault.{RunFault}
use Rattle.fault_lines.specs.declared.faults.deck.RunFault.TheVariants as deck
use Rattle.compile407.specs.Outcomes.{CompiledTextsHaveNoFault, RunnableDecksHaveNoFault}
use Rattle.compile407.specs.RunFaults.{IsInvalidDeck}

-- what holds of all of a list holds of what is found at a place
at_place : {X : Type 0} (P : X → Type 0) (xs : List X) (place : ℕ) (x : X) → slice_get xs place ≡ Some x → All P xs → P x
at_place P xs place x is_there all =
    subst P (get_or_from_slice_get xs place x x is_there) (All-get_or P xs place x (slice_get_within xs place x is_there) all)

pub compiled_texts_have_no_fault : CompiledTextsHaveNoFault
unfolding IsLawful IsKept
compiled_texts_have_no_fault bytes compiled chart.TooLarge reads is has = (no_chart bytes compiled.chart text.TooLarge has reads)
compiled_texts_have_no_fault bytes compiled chart.NoFirstLine reads is has =
    (no_chart bytes compiled.chart text.NoFirstLine has reads)
compiled_texts_have_no_fault bytes compiled (chart.NotALine line) reads is has =
    (no_chart bytes compiled.chart (text.NotALine line) has reads)
compiled_texts_have_no_fault bytes compiled chart.NoEnd reads is has = (no_chart bytes compiled.chart text.NoEnd has reads)
compiled_texts_have_no_fault bytes compiled (chart.Rule broken line) reads is has =
    let P : Chart → Type 0 = λ c. Broken broken c line in
    (is.sound.lawful broken line (subst P (one_chart bytes has.read compiled.chart has.reads reads) has.first.broken))
compiled_texts_have_no_fault bytes compiled (chart.Capacity fault) reads is has =
    let P : Chart → Type 0 = λ c. HasCapacityFault (wanted_of c.lines) standard fault in
    let exceeds = subst P (one_chart bytes has.read compiled.chart has.reads reads) has.exceeds in
    (fitting_charts_have_no_fault (wanted_of compiled.chart.lines) standard fault is.fits exceeds)
compiled_texts_have_no_fault bytes compiled chart.Memory reads is has = has

-- nothing is told of a valid card
pub none_told : (of_cards : Chart) (card : List ℕ) (told : CardFault) → IsValidCard of_cards card →
    IsFirstInvalid (fields_of of_cards.lines) card told → ⊥
unfolding IsValidCard
none_told of_cards card told valid first =
    first.invalid (valid first.place (slice_get_within _ first.place first.field first.is_there) first.field first.is_there)

-- a deck of valid cards has no invalid one
pub none_invalid : (of_cards : Chart) (cards : List (List ℕ)) (fault : RunFault) → All (IsValidCard of_cards) cards →
    IsInvalidDeck of_cards cards fault → ⊥
none_invalid of_cards cards fault valid invalid =
    none_told of_cards invalid.card invalid.told
    (at_place (IsValidCard of_cards) cards invalid.place invalid.card invalid.is_there valid) invalid.first

pub runnable_decks_have_no_fault : RunnableDecksHaveNoFault
runnable_decks_have_no_fault of_cards cards deck.TooManyCards is has = (omega (arith, is.deck.long, has))
runnable_decks_have_no_fault of_cards cards (deck.NotText number column) is has = (none_invalid of_cards cards _ is.deck.valid has.1)
runnable_decks_have_no_fault of_cards cards (deck.NotAmount number column) is has = (none_invalid of_cards cards _ is.deck.valid has.1)
runnable_decks_have_no_fault of_cards cards (deck.DoesNotFit level name card) is has =
    let none : None ≡ Some has.1.misfit = ap first_of (sym ((fit_without_misfits of_cards.lines cards).0 is.fits)) ∙ has.1.is_first in cc
runnable_decks_have_no_fault of_cards cards deck.Memory is has = has
