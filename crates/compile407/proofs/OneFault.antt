-- A text has at most one fault of a chart, and a deck at most one fault.
use Rattle.std.proofs.Common.{◌≡◌, ◌∙◌, refl, sym, ap, subst, ℕ, ◌+◌, ◌<◌, ◌≤◌, ◌⊎◌, inl, inr, List, Some, length, take, slice_get, arith}
use Rattle.std.specs.List.{All}
use Rattle.std.proofs.lemmas.Bool.{cases_lt}
use Rattle.std.proofs.lemmas.List.{get_or-take, length-take-le}
use Rattle.std.proofs.lemmas.List.Elements.{All-get_or}
use Rattle.std.proofs.lemmas.Option.{slice_get_within, get_or_from_slice_get}
use Rattle.card_code.specs.MostCards.{most_cards}
use Rattle.allocate.proofs.OneFault.{charts_exceed_one_capacity}
use Rattle.allocate.specs.Exceeded.{HasCapacityFault}
use Rattle.chart_plans.specs.WantedWords.Wanted.{wanted_of}
use Rattle.allocate.specs.declared.fault.CapacityFault.{CapacityFault}
use Rattle.capacity.specs.Capacities.{standard}
use Rattle.chart_text.proofs.ChartGrammar.{one_chart, no_chart, one_fault}
use Rattle.chart_text.specs.Below.chart_lines.ChartsWords.Chart.{Chart}
use Rattle.chart_text.specs.ChartText.{Reads}
use Rattle.chart_text.specs.TextFaults.{HasTextFault}
use Rattle.chart_text.specs.declared.fault.TextFault.{TextFault}
use Rattle.chart_text.specs.declared.fault.TextFault.TheVariants as text
use Rattle.chart_rules.proofs.OneFault as rules
use Rattle.chart_rules.specs.Below.chart_line_rules.FieldRules.Fields.{fields_of}
use Rattle.chart_rules.specs.RuleFaults.{IsTold}
use Rattle.chart_rules.specs.Rules.{IsKept, IsLawful}
use Rattle.chart_rules.specs.ValidCard.{IsFirstInvalid, IsValidCard}
use Rattle.chart_rules.specs.declared.fault.RuleFault.{RuleFault}
use Rattle.chart_rules.specs.declared.fault.RuleFault.TheVariants as rule
use Rattle.compile407.proofs.Exclusions.{none_told, none_invalid}
use Rattle.fault_lines.specs.FaultsWords.ChartCauses.{of_text, of_rule}
use Rattle.compile407.specs.ChartFaults.{HasChartFault}
use Rattle.report_runs.specs.PrintPromises.Promises.{IsDeck}
use Rattle.compile407.specs.Outcomes.{ChartsHaveOneFault, DecksHaveOneFault}
use Rattle.compile407.specs.RunFaults.{HasRunFault, IsInvalidDeck, IsMisfit}
use Rattle.fault_lines.specs.FaultsWords.ToldFaults.{of_card}
use Rattle.fault_lines.specs.declared.faults.chart.ChartFault.{ChartFault}
use Rattle.fault_lines.specs.declared.faults.chart.ChartFault.TheVariants as chart
use Rattle.fault_lines.specs.declared.faults.deck.RunFault.{RunFault}
use Rattle.fault_lines.specs.declared.faults.deck.RunFault.TheVariants as deck

-- why a text has a fault: it is no chart, its chart breaks a rule, or its chart exceeds a capacity
data Cause (bytes : List ℕ) (fault : ChartFault) : Type 0 where
  by_text : (told : TextFault) → HasTextFault bytes told → fault ≡ of_text told → Cause bytes fault
  by_rule : (told : RuleFault) (read : Chart) → Reads bytes read → IsTold read told → fault ≡ of_rule told → Cause bytes fault
  by_capacity : (told : CapacityFault) (read : Chart) → Reads bytes read → IsLawful read → HasCapacityFault (wanted_of read.lines) standard told
      → fault ≡ chart.Capacity told → Cause bytes fault

-- each fault of a text has its cause
cause_of : (bytes : List ℕ) (fault : ChartFault) → HasChartFault bytes fault → Cause bytes fault
cause_of bytes chart.TooLarge has = by_text text.TooLarge has refl
cause_of bytes chart.NoFirstLine has = by_text text.NoFirstLine has refl
cause_of bytes (chart.NotALine line) has = by_text (text.NotALine line) has refl
cause_of bytes chart.NoEnd has = by_text text.NoEnd has refl
cause_of bytes (chart.Rule broken line) has = by_rule (rule.Rule broken line) has.read has.reads has.first refl
cause_of bytes (chart.Capacity fault) has = by_capacity fault has.read has.reads has.lawful has.exceeds refl
cause_of bytes chart.Memory has = absurd has

-- no rule is told of a lawful chart
none_broken : (read : Chart) (told : RuleFault) → IsLawful read → IsTold read told → ⊥
unfolding IsLawful IsKept
none_broken read (rule.Rule broken line) lawful is = lawful broken line is.broken
none_broken read rule.Memory lawful is = is

module _ (bytes : List ℕ) where
  -- a chart that a text reads as, which a rule is told of, isn't lawful as another that the text reads as
  not_both : (told : RuleFault) (read other : Chart) → Reads bytes read → IsTold read told → Reads bytes other → IsLawful other → ⊥
  not_both told read other reads is also lawful =
      none_broken other told lawful (subst (λ each. IsTold each told) (one_chart bytes read other reads also) is)

  -- what is told by a rule is one
  same_rule : (one other : RuleFault) (read its_read : Chart) → Reads bytes read → IsTold read one → Reads bytes its_read
      → IsTold its_read other → one ≡ other
  same_rule one other read its_read reads is also_reads also =
      rules.charts_have_one_fault its_read one other
      (subst (λ each. IsTold each one) (one_chart bytes read its_read reads also_reads) is) also

  -- and so is what is told of a capacity
  same_capacity : (one other : CapacityFault) (read its_read : Chart) → Reads bytes read → HasCapacityFault (wanted_of read.lines) standard one
      → Reads bytes its_read → HasCapacityFault (wanted_of its_read.lines) standard other → one ≡ other
  same_capacity one other read its_read reads is also_reads also =
      let P : Chart → Type 0 = λ each. HasCapacityFault (wanted_of each.lines) standard one in
      charts_exceed_one_capacity (wanted_of its_read.lines) standard one other
      (subst P (one_chart bytes read its_read reads also_reads) is) also

  -- so what has a cause is one
  same_fault : (one other : ChartFault) → Cause bytes one → Cause bytes other → one ≡ other
  same_fault one other (by_text told has is) (by_text its also its_is) = is ∙ ap of_text (one_fault bytes told its has also) ∙ sym its_is
  same_fault one other (by_text told has is) (by_rule its read reads also its_is) = absurd (no_chart bytes read told has reads)
  same_fault one other (by_text told has is) (by_capacity its read reads lawful also its_is) = absurd (no_chart bytes read told has reads)
  same_fault one other (by_rule told read reads has is) (by_text its also its_is) = absurd (no_chart bytes read its also reads)
  same_fault one other (by_rule told read reads has is) (by_rule its its_read its_reads also its_is) =
      is ∙ ap of_rule (same_rule told its read its_read reads has its_reads also) ∙ sym its_is
  same_fault one other (by_rule told read reads has is) (by_capacity its its_read its_reads lawful also its_is) =
      absurd (not_both told read its_read reads has its_reads lawful)
  same_fault one other (by_capacity told read reads lawful has is) (by_text its also its_is) = absurd (no_chart bytes read its also reads)
  same_fault one other (by_capacity told read reads lawful has is) (by_rule its its_read its_reads also its_is) =
      absurd (not_both its its_read read its_reads also reads lawful)
  same_fault one other (by_capacity told read reads lawful has is) (by_capacity its its_read its_reads its_lawful also its_is) =
      is ∙ ap chart.Capacity (same_capacity told its read its_read reads has its_reads also) ∙ sym its_is

pub charts_have_one_fault : ChartsHaveOneFault
charts_have_one_fault bytes one other is also = same_fault bytes one other (cause_of bytes one is) (cause_of bytes other also)

-- what holds of all of the first elements of a list holds of each that stands among them
before_place : {X : Type 0} (P : X → Type 0) (xs : List X) (count place : ℕ) (x : X) → count ≤ length xs → place < count
    → slice_get xs place ≡ Some x → All P (take count xs) → P x
before_place P xs count place x within before is_there all =
    subst P (get_or-take count xs place x before ∙ get_or_from_slice_get xs place x x is_there)
    (All-get_or P (take count xs) place x (omega (arith, length-take-le count xs within)) all)

module _ (of_cards : Chart) (cards : List (List ℕ)) where
  -- no card that isn't valid stands before the first
  place-lowest : (one other : RunFault) (is : IsInvalidDeck of_cards cards one) (also : IsInvalidDeck of_cards cards other)
      → is.place ≤ also.place
  place-lowest one other is also = by (cases_lt also.place is.place)
    where
      by : ((also.place < is.place) ⊎ (is.place ≤ also.place)) → is.place ≤ also.place
      by (inl before) =
          let within = slice_get_within cards is.place is.card is.is_there in
          absurd (none_told of_cards also.card also.told
          (before_place (IsValidCard of_cards) cards is.place also.place also.card (omega (arith, within)) before also.is_there is.valid_before)
          also.first)
      by (inr after) = after

  -- what is told of the first card that isn't valid is one
  same_invalid : (one other : RunFault) → IsInvalidDeck of_cards cards one → IsInvalidDeck of_cards cards other → one ≡ other
  same_invalid one other is also =
      let below = place-lowest one other is also in
      let above = place-lowest other one also is in
      let places : is.place ≡ also.place = omega (arith, below, above) in
      let found : Some is.card ≡ Some also.card = sym is.is_there ∙ ap (slice_get cards) places ∙ also.is_there in
      let card : is.card ≡ also.card = cc in
      let told = rules.cards_have_one_fault (fields_of of_cards.lines) also.card is.told also.told
      (subst (λ each. IsFirstInvalid (fields_of of_cards.lines) each is.told) card is.first) also.first in
      is.is_fault ∙ ap (λ each. of_card each (is.place + 1)) told ∙ ap (λ place. of_card also.told (place + 1)) places ∙ sym also.is_fault

  -- and so is what is told of the first total that doesn't fit
  same_misfit : (one other : RunFault) → IsMisfit of_cards cards one → IsMisfit of_cards cards other → one ≡ other
  same_misfit one other is also =
      let found : Some is.misfit ≡ Some also.misfit = sym is.is_first ∙ also.is_first in
      let misfit : is.misfit ≡ also.misfit = cc in
      is.is_fault ∙ ap (λ each. deck.DoesNotFit each.level each.name each.card) misfit ∙ sym also.is_fault

  -- why a deck has a fault: it has too many cards, one that isn't valid, or a total that doesn't fit
  data DeckCause (fault : RunFault) : Type 0 where
    by_count : most_cards < length cards → fault ≡ deck.TooManyCards → DeckCause fault
    by_card : length cards ≤ most_cards → IsInvalidDeck of_cards cards fault → DeckCause fault
    by_total : IsDeck of_cards cards → IsMisfit of_cards cards fault → DeckCause fault

  -- each fault of a deck has its cause
  deck_cause_of : (fault : RunFault) → HasRunFault of_cards cards fault → DeckCause fault
  deck_cause_of deck.TooManyCards has = by_count has refl
  deck_cause_of (deck.NotText number column) has = by_card has.0 has.1
  deck_cause_of (deck.NotAmount number column) has = by_card has.0 has.1
  deck_cause_of (deck.DoesNotFit level name card) has = by_total has.0 has.1
  deck_cause_of deck.Memory has = absurd has

  -- so what has a cause is one
  same_deck_fault : (one other : RunFault) → DeckCause one → DeckCause other → one ≡ other
  same_deck_fault one other (by_count many is) (by_count more also) = is ∙ sym also
  same_deck_fault one other (by_count many is) (by_card few also) = absurd (omega arith)
  same_deck_fault one other (by_count many is) (by_total fits also) = absurd (omega (arith, many, fits.long))
  same_deck_fault one other (by_card few is) (by_count many also) = absurd (omega arith)
  same_deck_fault one other (by_card few is) (by_card fewer also) = same_invalid one other is also
  same_deck_fault one other (by_card few is) (by_total fits also) = absurd (none_invalid of_cards cards one fits.valid is)
  same_deck_fault one other (by_total fits is) (by_count many also) = absurd (omega (arith, many, fits.long))
  same_deck_fault one other (by_total fits is) (by_card few also) = absurd (none_invalid of_cards cards other fits.valid also)
  same_deck_fault one other (by_total fits is) (by_total also_fits also) = same_misfit one other is also

pub decks_have_one_fault : DecksHaveOneFault
decks_have_one_fault of_cards cards one other is also =
    same_deck_fault of_cards cards one other (deck_cause_of of_cards cards one is) (deck_cause_of of_cards cards other also)
