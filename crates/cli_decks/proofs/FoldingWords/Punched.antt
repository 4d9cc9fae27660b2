-- What stands in a folded line can be punched.
use Rattle.std.proofs.Common.{◌≡◌, ℕ, ◌+◌, ◌-◌, ◌%◌, ◌<◌, ◌≤◌, suc, zero, List, [], ◌∷◌, ◌++◌, length, drop, get_or, refl, ap, arith, ◌∙◌, Bool, cond, true, false, ◌==◌, ◌&&◌, Some, None, is_some}
use Rattle.std.specs.Prelude.{IsSome, codes}
use Rattle.std.proofs.lemmas.Bool.Decides.{nat_tests}
use Rattle.std.proofs.lemmas.Bool.{false≢true}
use Rattle.card_code.specs.CardCode.{code, rows_of}
use Rattle.cli_decks.specs.FoldingWords.Punchable.{ArePunchable}
use Rattle.std.specs.Char.{is_ascii_lowercase}
use Rattle.cli_decks.specs.FoldingWords.Changes.{change_of}
use Rattle.cli_decks.specs.FoldingWords.Folded.{changed_to, folded_from}
use Rattle.cli_decks.specs.declared.folding.changes.Change.TheVariants as change

-- whether so many characters from one on can be punched
abbrev all_punched : ℕ → ℕ → Bool
all_punched zero from = true
all_punched (suc n) from = is_some (rows_of from) && all_punched n (suc from)

both : (one other : Bool) → (one && other) ≡ true → (one ≡ true) × (other ≡ true)
both true true is = (refl, refl)
both true false is = absurd (false≢true is)
both false other is = absurd (false≢true is)

one_of_all : (n from character : ℕ) → all_punched n from ≡ true → from ≤ character → character < from + n → is_some (rows_of character) ≡ true
one_of_all zero from character all low high = absurd (omega (arith, low, high))
one_of_all (suc n) from character all low high =
    let parts = both (is_some (rows_of from)) (all_punched n (suc from)) all in
    by (λ apart. one_of_all n (suc from) character parts.1 apart (omega (arith, high))) parts.0 (character == from) refl
  where
    by : (suc from ≤ character → is_some (rows_of character) ≡ true) → is_some (rows_of from) ≡ true
        → (same : Bool) → (character == from) ≡ same → is_some (rows_of character) ≡ true
    by later first true is =
        let equal : character ≡ from = grind (arith, nat_tests) in
        ap (λ c. is_some (rows_of c)) equal ∙ first
    by later first false is =
        let apart : suc from ≤ character = grind (arith, nat_tests) in
        later apart

capitals_are_punched : all_punched 26 65 ≡ true
unfolding rows_of code
capitals_are_punched = refl

blank_is_punched : IsSome (rows_of 32)
unfolding rows_of code
blank_is_punched = refl

capital_is_punched : (byte : ℕ) → is_ascii_lowercase byte ≡ true → IsSome (rows_of (byte - 32))
capital_is_punched byte small =
    let low : 97 ≤ byte = grind (arith, nat_tests) in
    let high : byte ≤ 122 = grind (arith, nat_tests) in
    one_of_all 26 65 (byte - 32) capitals_are_punched (omega (arith, low)) (omega (arith, low, high))

behind : (byte : ℕ) (bytes : List ℕ) → IsSome (rows_of byte) → ArePunchable bytes
    → (k : ℕ) → k < length (byte ∷ bytes) → IsSome (rows_of (get_or (byte ∷ bytes) k 0))
behind byte bytes one others zero within = one
behind byte bytes one others (suc k) within = others k (omega (arith, within))

none : ArePunchable []
none k within = absurd (omega (arith, within))

single : (byte : ℕ) → IsSome (rows_of byte) → ArePunchable (byte ∷ [])
single byte one = behind byte [] one none

one_more : (bytes : List ℕ) → ArePunchable bytes → ArePunchable (32 ∷ bytes)
one_more bytes all = behind 32 bytes blank_is_punched all

eight_blanks : ArePunchable (codes "        ")
eight_blanks =
    one_more (codes "       ") (one_more (codes "      ") (one_more (codes "     ") (one_more (codes "    ")
    (one_more (codes "   ") (one_more (codes "  ") (one_more (codes " ") (one_more [] none)))))))

dropped : (n : ℕ) (bytes : List ℕ) → ArePunchable bytes → ArePunchable (drop n bytes)
dropped zero bytes all = all
dropped (suc n) [] all = none
dropped (suc n) (byte ∷ bytes) all = dropped n bytes (λ k within. all (suc k) (omega (arith, within)))

joined : (one other : List ℕ) → ArePunchable one → ArePunchable other
    → (k : ℕ) → k < length (one ++ other) → IsSome (rows_of (get_or (one ++ other) k 0))
joined [] other of_one of_other k within = of_other k within
joined (byte ∷ bytes) other of_one of_other zero within = of_one 0 (omega arith)
joined (byte ∷ bytes) other of_one of_other (suc k) within =
    joined bytes other (λ j inside. of_one (suc j) (omega (arith, inside))) of_other k (omega (arith, within))

changed : (fill column byte : ℕ) → IsSome (rows_of fill) → ArePunchable (changed_to fill column byte (change_of byte))
changed fill column byte filled = by (is_some (rows_of byte)) (is_ascii_lowercase byte) (byte == 9) refl refl
  where
    by : (stays small tab : Bool) → is_some (rows_of byte) ≡ stays → is_ascii_lowercase byte ≡ small
        → ArePunchable (changed_to fill column byte
        (cond stays None (cond small (Some change.Capital) (cond tab (Some change.Blanks) (Some change.Replaced)))))
    by true small tab is_card is_letter = single byte is_card
    by false true tab is_card is_letter = single (byte - 32) (capital_is_punched byte is_letter)
    by false false true is_card is_letter = dropped (column % 8) (codes "        ") eight_blanks
    by false false false is_card is_letter = single fill filled

-- each byte of a folded line
pub folded_is_punchable : (fill column : ℕ) (line : List ℕ) → IsSome (rows_of fill) → ArePunchable (folded_from fill column line)
folded_is_punchable fill column [] filled = none
folded_is_punchable fill column (byte ∷ bytes) filled =
    joined _ _ (changed fill column byte filled)
    (folded_is_punchable fill (column + length (changed_to fill column byte (change_of byte))) bytes filled)
