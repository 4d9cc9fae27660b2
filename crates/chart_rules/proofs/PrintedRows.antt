-- Sets of rows of deck characters, tested one by one: all but that of `!` are printed.
use Rattle.std.proofs.Common.{◌≡◌, ◌∙◌, refl, sym, ap₂, ℕ, ◌<◌, ◌==◌, ◌||◌, not, Bool, false, true, IsSome, is_some}
use Rattle.card_code.specs.AllSets.{passes_all, passes-at}
use Rattle.card_code.specs.CardCode.{code, deck_character}
use Rattle.card_code.specs.Columns.{column_of}
use Rattle.chart_rules.specs.ValidCard.{is_printed}

-- whether a set is that of `!`, or no deck character's, or printed
is_fair : ℕ → Bool
is_fair set = (set == 1536) || not (is_some (deck_character (column_of set))) || is_printed (deck_character (column_of set))

all_fair : passes_all 12 is_fair ≡ true
unfolding is_fair passes_all deck_character code column_of
all_fair = refl

pub printed : (set : ℕ) → set < 4096 → IsSome (deck_character (column_of set)) → (set == 1536) ≡ false
    → is_printed (deck_character (column_of set)) ≡ true
unfolding is_fair
printed set small some other =
    sym (ap₂ (λ (is has : Bool). is || not has || is_printed (deck_character (column_of set))) other some)
    ∙ passes-at 12 is_fair set all_fair small
