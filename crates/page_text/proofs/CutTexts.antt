-- Texts without their trailing blanks.
use Rattle.std.proofs.Common.{◌≡◌, ◌≢◌, ℕ, zero, suc, ◌+◌, ◌-◌, ◌*◌, ◌/◌, ◌%◌, ◌^◌, ◌<◌, ◌≤◌, Bool, true, false, inl, inr, subst, not, List, [], ◌∷◌, ◌++◌, length, get_or, slice_index_or, take, map, replicate, cond, eqb, refl, ap, sym, ◌∙◌, arith}
use Rattle.std.proofs.lemmas.List.{get_or-map, length-map, take_more}
use Rattle.std.proofs.lemmas.Bool.Decides.{nat_tests}
use Rattle.std.proofs.lemmas.Bool.{cases_lt}
use Rattle.std.proofs.lemmas.Simd.{bitmask_splat, bit_mask_l, get_or-chunk, length-chunk, mask_l-lt}
use Rattle.std.proofs.lemmas.Nat.{leading_length}
use Rattle.std.proofs.lemmas.Nat.Bits.{bit_at_above}
use Rattle.std.specs.Int.{leading_zeros, w64}
use lib.Pow.{pow_mono}
use lib.Lanes.{chunk, mask_l, top, zip2}
use mir.Syntax.{w8}
use Rattle.page_text.specs.Pages.{onto_cut, without_trailing_blanks}

-- a blank at the end is cut off
pub cut-blank : (text : List ℕ) → without_trailing_blanks (text ++ 32 ∷ []) ≡ without_trailing_blanks text
cut-blank [] = refl
cut-blank (character ∷ text) = ap (onto_cut character) (cut-blank text)

-- a text that ends in another character stays whole
pub cut-other : (text : List ℕ) (last : ℕ) → last ≢ 32 → without_trailing_blanks (text ++ last ∷ []) ≡ text ++ last ∷ []
cut-other [] last other = grind (arith, nat_tests, other)
cut-other (character ∷ []) last other = ap (onto_cut character) (cut-other [] last other)
cut-other (character ∷ next ∷ text) last other = ap (onto_cut character) (cut-other (next ∷ text) last other)

-- a character put before a text that is cut makes it longer by one at most
one_longer : (character : ℕ) (text : List ℕ) → length (onto_cut character text) ≤ suc (length text)
one_longer character [] = grind arith
one_longer character (next ∷ others) = omega arith

-- no text is longer without the blanks at its end
pub no_longer : (text : List ℕ) → length (without_trailing_blanks text) ≤ length text
no_longer [] = omega arith
no_longer (character ∷ text) = omega (arith, one_longer character (without_trailing_blanks text), no_longer text)

-- the text up to a place after 0 is the text up to the place before it and one character more
take_back : (text : List ℕ) (end : ℕ) → 0 < end → end ≤ length text → take end text
    ≡ take (end - 1) text ++ get_or text (end - 1) 0 ∷ []
take_back text end some within =
    let back : end - 1 + 1 ≡ end = omega arith in
    ap (λ n. take n text) (sym back) ∙ take_more text (end - 1) 0 (omega arith)

-- a text that ends in a blank there is cut there as well
pub cut_shorter : (text : List ℕ) (end : ℕ) → 0 < end → end ≤ length text → get_or text (end - 1) 0 ≡ 32
    → without_trailing_blanks (take (end - 1) text) ≡ without_trailing_blanks (take end text)
cut_shorter text end some within blank =
    sym (ap without_trailing_blanks (take_back text end some within ∙ ap (λ c. take (end - 1) text ++ c ∷ []) blank)
    ∙ cut-blank (take (end - 1) text))

-- a text that ends in another character there is whole
pub cut_whole : (text : List ℕ) (end : ℕ) → 0 < end → end ≤ length text → get_or text (end - 1) 0 ≢ 32
    → without_trailing_blanks (take end text) ≡ take end text
cut_whole text end some within other =
    ap without_trailing_blanks (take_back text end some within)
    ∙ cut-other (take (end - 1) text) (get_or text (end - 1) 0) other
    ∙ sym (take_back text end some within)

-- nothing is left to cut of a text of no characters
pub cut_none : (text : List ℕ) (end : ℕ) → end ≤ 0 → take end text ≡ without_trailing_blanks (take end text)
cut_none text end least =
    let none : end ≡ 0 = omega arith in
    ap (λ n. take n text) none ∙ sym (ap (λ n. without_trailing_blanks (take n text)) none)

-- blanks before a place are cut off
pub cut-blanks : (text : List ℕ) (end count : ℕ) → end + count ≤ length text
    → ((k : ℕ) → end ≤ k → k < end + count → slice_index_or text k 0 ≡ 32)
    → without_trailing_blanks (take end text) ≡ without_trailing_blanks (take (end + count) text)
cut-blanks text end zero within blank =
    let all : end ≡ end + 0 = omega arith in ap (λ (n : ℕ). without_trailing_blanks (take n text)) all
cut-blanks text end (suc count) within blank =
    let last : end + count ≡ end + suc count - 1 = omega arith in
    cut-blanks text end count (omega (arith, within)) (λ k low high. blank k low (omega (arith, high)))
    ∙ ap (λ (n : ℕ). without_trailing_blanks (take n text)) last
    ∙ cut_shorter text (end + suc count) (omega arith) within (blank (end + suc count - 1) (omega arith) (omega arith))

-- blanks before a place are cut off down to another place
pub cut-down : (text : List ℕ) (to end : ℕ) → to ≤ end → end ≤ length text
    → ((k : ℕ) → to ≤ k → k < end → slice_index_or text k 0 ≡ 32)
    → without_trailing_blanks (take to text) ≡ without_trailing_blanks (take end text)
cut-down text to end low within blank =
    let same : to + (end - to) ≡ end = omega (arith, low) in
    cut-blanks text to (end - to) (omega (arith, low, within)) (λ k from below. blank k from (omega (arith, below, same)))
    ∙ ap (λ (n : ℕ). without_trailing_blanks (take n text)) same

-- no bit of a word is set from its length on
no-bit-past : (word k : ℕ) → word < 2 ^ 64 → 64 - leading_zeros w64 word ≤ k → word / 2 ^ k % 2 ≡ 0
no-bit-past word k small past =
    let length = leading_length 64 word small in
    let sum = length.1 in
    bit_at_above word length.0 k length.2 (omega (arith, sum, past))

-- of sixteen characters those from the highest bit of the mask of the others on are blanks
pub blanks-masked : (text : List ℕ) (from mask printed : ℕ) → from + 16 ≤ length text
    → mask ≡ mask_l (map (top 7) (zip2 (λ a b. cond (not (eqb a b)) 255 0) (chunk from 16 text) (replicate 16 32))) % 2 ^ 64
    → printed ≡ 64 - leading_zeros w64 mask
    → (k : ℕ) → from + printed ≤ k → k < from + 16 → slice_index_or text k 0 ≡ 32
blanks-masked text from mask printed within masked is k low high = alike (slice_index_or text k 0) (lane (is_other (slice_index_or text k 0)) found)
  where
    is_other : ℕ → Bool
    is_other character = not (eqb character 32)

    read : List ℕ
    read = chunk from 16 text

    long : length read ≡ 16
    long = length-chunk from 16 text within

    others : mask ≡ mask_l (map is_other read)
    others = masked ∙ bitmask_splat w8 (λ a b. not (eqb a b)) read 16 32 long (omega arith)

    small : mask < 2 ^ 64
    small =
        let less = mask_l-lt (map is_other read) in
        let many = length-map read is_other in
        let count : length (map is_other read) ≡ 16 = many ∙ long in
        let below : mask_l (map is_other read) < 2 ^ 16 = subst (λ (n : ℕ). mask_l (map is_other read) < 2 ^ n) count less in
        omega (arith, others, below)

    index : from + (k - from) ≡ k
    index = omega (arith, low)

    inside : k - from < 16
    inside = omega (arith, low, high)

    found : cond {A = ℕ} (is_other (slice_index_or text k 0)) 1 0 ≡ 0
    found =
        sym (bit_mask_l (map is_other read) (k - from)
        ∙ ap (λ (b : Bool). cond {A = ℕ} b 1 0)
        (get_or-map is_other read (k - from) 0 false (omega (arith, inside, long))
        ∙ ap is_other (get_or-chunk from 16 text (k - from) 0 inside ∙ ap (λ (j : ℕ). slice_index_or text j 0) index)))
        ∙ ap (λ (m : ℕ). m / 2 ^ (k - from) % 2) (sym others)
        ∙ no-bit-past mask (k - from) small (omega (arith, is, low))

    lane : (b : Bool) → cond {A = ℕ} b 1 0 ≡ 0 → b ≡ false
    lane true e = absurd (omega (arith, e))
    lane false e = refl

    alike : (character : ℕ) → is_other character ≡ false → character ≡ 32
    alike character e = grind (arith, nat_tests, e)

-- no place is past the sixteenth
pub few-masked : (text : List ℕ) (from mask : ℕ) → from + 16 ≤ length text
    → mask ≡ mask_l (map (top 7) (zip2 (λ a b. cond (not (eqb a b)) 255 0) (chunk from 16 text) (replicate 16 32))) % 2 ^ 64
    → 64 - leading_zeros w64 mask ≤ 16
few-masked text from mask within masked =
    let long = length-chunk from 16 text within in
    let read = chunk from 16 text in
    let others = masked ∙ bitmask_splat w8 (λ a b. not (eqb a b)) read 16 32 long (omega arith) in
    let less = mask_l-lt (map (λ character. not (eqb character 32)) read) in
    let many = length-map read (λ character. not (eqb character 32)) in
    let below : mask_l (map (λ character. not (eqb character 32)) read) < 2 ^ 16 =
    subst (λ (n : ℕ). mask_l (map (λ character. not (eqb character 32)) read) < 2 ^ n) (many ∙ long) less in
    at_most mask (omega (arith, others, below))
  where
    at_most : (word : ℕ) → word < 2 ^ 16 → 64 - leading_zeros w64 word ≤ 16
    at_most word small =
        let length = leading_length 64 word (omega (arith, small)) in
        let sum = length.1 in
        bound length.0 word length.3 small sum
      where
        bound : (m word : ℕ) → 2 ^ m ≤ 2 * word + 1 → word < 2 ^ 16 → leading_zeros w64 word + m ≡ 64 → 64 - leading_zeros w64 word ≤ 16
        bound m word high_bit small sum = elim (cases_lt m 17) [
          | inl low ↦ omega (arith, sum, low)
          | inr high ↦ let more : 2 ^ 17 ≤ 2 ^ m = pow_mono high in absurd (omega (arith, more, high_bit, small))
        ]
