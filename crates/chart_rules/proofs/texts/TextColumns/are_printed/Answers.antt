use Rattle.std.proofs.Common.{◌≡◌, ◌<◌, ◌∙◌, ap, arith, get_or, length, refl, sym, ℕ, List, slice_index}
use Rattle.std.proofs.lemmas.List.{get_or_default}
use Rattle.std.specs.Prelude.{is_some}
use Rattle.card_code.specs.CardCode.{deck_character}
use Rattle.card_code.specs.Columns.{column_of}
use Rattle.chart_rules.proofs.TextMarks.{printed-more}
use Rattle.chart_rules.specs.ValidCard.{is_printed}
use Rattle.chart_rules.proofs.texts.TextColumns.are_printed.Goals as goal

-- the set that is read is that of the card's column
read-is : (set place other : ℕ) (columns card : List ℕ) → place < length columns → column_of set ≡ get_or columns place other → columns ≡ card
    → column_of set ≡ slice_index card place
read-is set place other columns card inside value same =
    value ∙ get_or_default columns place other 0 inside ∙ ap (λ (l : List ℕ). slice_index l place) same

pub unprinted_bits-requires : goal.unprinted_bits-requires
unprinted_bits-requires c =
    let place = c.loop-place.place in
    let columns = c.columns-columns.result.now in
    let inside : place < length columns = omega arith in
    record {
      small = c.set.ensures.small;
      character =
          ap (λ (n : ℕ). is_some (deck_character n))
          (read-is c.set.result place c.index-columns-place.result columns c.args.card.now inside c.set.ensures.value c.columns-columns.ensures.columns)
          ∙ c.requires place;
    }

pub loop-place-preserved : goal.loop-place-preserved
loop-place-preserved c =
    let place = c.loop-place.place in
    let columns = c.columns-columns.result.now in
    let inside : place < length columns = omega arith in
    let read = read-is c.set.result place c.index-columns-place.result columns c.args.card.now inside c.set.ensures.value c.columns-columns.ensures.columns in
    printed-more c.args.self.now.masks c.args.card.now place c.loop-place.unprinted c.unprinted_bits.result _
    c.unprinted_bits.type_inv c.loop-place.invariant refl
    (λ none. sym (ap (λ (n : ℕ). is_printed (deck_character n)) read) ∙ c.unprinted_bits.ensures none)
