-- One wheel more is printed, and a blank by a wheel that received nothing.
use Rattle.std.proofs.Common.{◌≡◌, ◌∙◌, ℕ, ◌+◌, ◌<◌, ap, arith, refl, sym, List, slice_index_or, slice_set}
use Rattle.std.proofs.lemmas.List.{length-set}
use Rattle.print_unit.proofs.Ranges.{places-more}
use Rattle.print_unit.specs.RowSets.{rows_in}
use Rattle.print_unit.specs.WheelWords.{HasPrinted, received_at}
use Rattle.print_unit.specs.ZeroControl.{character_of}
use Rattle.card_code.specs.CardCode.{print_character, deck_character, code}
use Rattle.net.specs.HubSets.{is_bit}

-- one wheel more is printed
pub printed-more : (sets line : List ℕ) (k character : ℕ) → k < 120 → character ≡ character_of (received_at sets k)
    → HasPrinted sets k line → HasPrinted sets (k + 1) (slice_set line k character)
printed-more sets line k character below is before =
    let long = before.wheels in
    record {
      characters =
          places-more (λ j. character_of (received_at sets j)) line k character (omega (arith, long, below)) is before.characters;
      wheels = length-set line k character ∙ long;
    }

-- where no row is received a blank is printed
blank : 32 ≡ character_of (rows_in 0)
unfolding print_character deck_character code is_bit
blank = refl

-- so is it by a wheel that received nothing
pub blank-printed : (sets : List ℕ) (k : ℕ) → slice_index_or sets k 0 ≡ 0 → 32 ≡ character_of (received_at sets k)
blank-printed sets k none = blank ∙ ap (λ (set : ℕ). character_of (rows_in set)) (sym none)
