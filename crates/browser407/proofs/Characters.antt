-- Each character of a card is text by itself.
use Rattle.std.proofs.Common.{◌≡◌, ◌<◌, ◌&&◌, ℕ, Bool, true, false, List, [], ◌∷◌, IsSome, nat_lt, arith, refl}
use Rattle.std.proofs.lemmas.Bool.Decides.{nat_tests}
use Rattle.std.proofs.lemmas.Grind.{common_steps}
use Rattle.std.specs.Prelude.{IsUtf8}
use Rattle.std.proofs.lemmas.Str.{IsUtf8-from_ascii}
use Rattle.card_code.specs.CardCode.{code, rows_in, rows_of}

-- the characters of these pairs have one byte each
abbrev all_low : List (ℕ × ℕ) → Bool
all_low [] = true
all_low (pair ∷ pairs) = nat_lt pair.0 128 && all_low pairs

low_in : (pairs : List (ℕ × ℕ)) (character : ℕ) → all_low pairs ≡ true → IsSome (rows_in pairs character) → character < 128
low_in [] character low some = grind (arith, common_steps, low, some)
low_in (pair ∷ pairs) character low some =
    let later : all_low pairs ≡ true → IsSome (rows_in pairs character) → character < 128 = low_in pairs character in
    grind (arith, common_steps, nat_tests, low, some, later)

code_is_low : all_low code ≡ true
unfolding code
code_is_low = refl

low : (character : ℕ) → IsSome (rows_of character) → character < 128
unfolding rows_of
low character some = low_in code character code_is_low some

pub is_text : (character : ℕ) → IsSome (rows_of character) → IsUtf8 (character ∷ [])
is_text character some =
    let below : character < 128 = low character some in
    IsUtf8-from_ascii (character ∷ []) (λ k. grind (arith, common_steps, below))
