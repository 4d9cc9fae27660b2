-- Which words a title has.
use Rattle.std.proofs.Common.{◌≡◌, refl, arith, ℕ, List, [], ◌∷◌, length}
use Rattle.show_drawings.specs.MarkupWords.Escapes.{escaped}
use Rattle.show_page.specs.Titles.{plain_title, title_of, words_or}

-- where there are no words the others are taken
pub words_none : (words others : List ℕ) → length words ≡ 0 → words_or words others ≡ others
words_none [] others none = refl
words_none (first ∷ rest) others none = absurd (omega (arith, none))

pub words_some : (words others : List ℕ) → (length words ≡ 0 → ⊥) → words_or words others ≡ words
words_some [] others some = absurd (some refl)
words_some (first ∷ rest) others some = refl

-- the title without a heading, and with one
pub title_none : (heading : List ℕ) (cards : ℕ) → length heading ≡ 0
    → title_of heading cards ≡ plain_title cards
title_none [] cards none = refl
title_none (first ∷ rest) cards none = absurd (omega (arith, none))

pub title_some : (heading : List ℕ) (cards : ℕ) → (length heading ≡ 0 → ⊥) → title_of heading cards ≡ escaped heading
title_some [] cards some = absurd (some refl)
title_some (first ∷ rest) cards some = refl
