-- The first card with each key, as cards are taken.
use Rattle.std.proofs.Common.{◌≡◌, ◌∙◌, refl, sym, ap, ℕ, Bool, true, false, cond, nat_eq, List, [], ◌∷◌, ◌++◌, Option, Some, None, is_some}
use Rattle.std.specs.Cmp.Lexicographic.{pointwise}
use Rattle.std.specs.Map.{lookup}
use Rattle.std.specs.Option.{option_or}
use Rattle.chart_lines.specs.declared.charts.chart.Line.{Line}
use Rattle.chart_rules.specs.Controls.{controls_of}
use Rattle.cli_decks.specs.DeckNotes.KeyReturns.HelperKept.{AreFirst}
use Rattle.cli_decks.specs.DeckNotes.KeyReturns.Keys.{AreSetsOf, key_on}
use Rattle.cli_decks.specs.DeckNotes.KeyReturns.Returns.{Numbered, stood_among, with_card}
use Rattle.cli_decks.specs.declared.deck_notes.key_returns.earlier.FirstCards.{FirstCards}
use Rattle.cli_decks.proofs.DeckNotes.KeyReturns.SameKeys.{one_key, same_at}
use Rattle.report_definition.specs.Groups.{is_same_at}

-- what is found in two lists of entries, one behind the other
pub lookup-append : {K X : Type 0} (test : K → Bool) (front back : List (K × X))
    → lookup test (front ++ back) ≡ option_or (lookup test front) (lookup test back)
lookup-append test [] back = refl
lookup-append {K} {X} test (entry ∷ front) back = by (test entry.0) (lookup test front) (lookup test (front ++ back)) (lookup-append test front back)
  where
    by : (is : Bool) (found whole : Option X) → whole ≡ option_or found (lookup test back)
        → cond is (Some entry.1) whole ≡ option_or (cond is (Some entry.1) found) (lookup test back)
    by true found whole same = refl
    by false found whole same = same

-- nothing comes after
or-none : {X : Type 0} (found : Option X) → option_or found None ≡ found
or-none None = refl
or-none (Some x) = refl

-- what is there is found
or-there : {X : Type 0} (found other : Option X) → is_some found ≡ true → option_or found other ≡ found
or-there None other is = cc
or-there (Some x) other is = refl

module _ (lines : List Line) (level : ℕ) (card sets : List ℕ) (number : ℕ) (cards : Numbered)
    (are_its : AreSetsOf (key_on (controls_of lines level) card) sets) where
  -- a card whose key stood before changes nothing
  pub kept_there : (first : FirstCards) → AreFirst lines level cards first → is_some (stood_among lines level card cards) ≡ true
      → AreFirst lines level (with_card card number cards) first
  kept_there first are there asked theirs so = are asked theirs so ∙ sym whole
    where
      mid : Bool → Option ℕ
      mid is = option_or (stood_among lines level asked cards) (cond is (Some number) None)

      by : (is : Bool) → is_same_at lines level asked card ≡ is → mid is ≡ stood_among lines level asked cards
      by false same = or-none (stood_among lines level asked cards)
      by true same =
          or-there (stood_among lines level asked cards) (Some number)
          (ap is_some
          (sym (are asked theirs so)
          ∙ ap (λ (k : List ℕ). lookup (λ key. pointwise nat_eq k key.items) first.numbers.entries)
          (one_key lines level asked card theirs sets so are_its same)
          ∙ are card sets are_its) ∙ there)

      whole : stood_among lines level asked (with_card card number cards) ≡ stood_among lines level asked cards
      whole =
          lookup-append (λ earlier. is_same_at lines level asked earlier) cards ((card, number) ∷ [])
          ∙ by (is_same_at lines level asked card) refl

  -- a card with a new key is put behind the others
  pub kept_added : (old new : FirstCards) → AreFirst lines level cards old
      → ((theirs : List ℕ) → lookup (λ key. pointwise nat_eq theirs key.items) new.numbers.entries
      ≡ option_or (lookup (λ key. pointwise nat_eq theirs key.items) old.numbers.entries) (cond (pointwise nat_eq theirs sets) (Some number) None))
      → AreFirst lines level (with_card card number cards) new
  kept_added old new are entries asked theirs so =
      entries theirs
      ∙ ap (λ (found : Option ℕ). option_or found (cond (pointwise nat_eq theirs sets) (Some number) None)) (are asked theirs so)
      ∙ ap (λ (is : Bool). option_or (stood_among lines level asked cards) (cond is (Some number) None))
      (same_at lines level asked card theirs sets so are_its)
      ∙ sym (lookup-append (λ earlier. is_same_at lines level asked earlier) cards ((card, number) ∷ []))
