-- The first line of a text whose first bytes are held.
use Rattle.std.proofs.Common.{◌≡◌, ◌≢◌, ◌∙◌, ℕ, zero, suc, ◌+◌, ◌-◌, ◌<◌, ◌≤◌, ◌⊎◌, inl, inr, false, ◌==◌, List, [], ◌∷◌, ◌++◌, length, take, drop, get_or, refl, sym, ap, subst, arith, cond, length-append}
use Rattle.std.proofs.Math.Seq.{get_or-take, length-take-le, take-append-le, drop-append-le}
use Rattle.std.proofs.Math.ListN.{get_or-append}
use Rattle.std.proofs.lemmas.Bool.Decides.{nat_tests}
use Rattle.card_code.proofs.Pieces.{lines_at_first, lines_of_last}
use Rattle.card_code.specs.Lines.{lines_of, without_cr}
use Rattle.report_streams.proofs.CardLines.Numbers.{below_or_not, equal_or_not}
use Rattle.report_streams.specs.CardLines.Front.{IsLine, IsTooLong, line_end}
use Rattle.report_streams.specs.CardLines.Reading.{HasFirstLine}

-- no LF in some bytes
abbrev pub HasNone : List ℕ → Type 0
HasNone bytes = (place : ℕ) → place < length bytes → get_or bytes place 0 ≢ 10

-- the first LF of some bytes
pub record HasFirst (bytes : List ℕ) : Type 0 where
  pub end : ℕ
  pub within : end < length bytes
  pub found : get_or bytes end 0 ≡ 10
  pub before : (place : ℕ) → place < end → get_or bytes place 0 ≢ 10

-- a text has a first LF or none
pub feeds : (bytes : List ℕ) → HasFirst bytes ⊎ HasNone bytes
feeds [] = inr (λ place within. absurd (omega arith))
feeds (b ∷ bs) = elim (equal_or_not b 10) [
  | inl is ↦ inl (record { end = 0; within = omega arith; found = is; before = λ place below. absurd (omega arith) })
  | inr other ↦ elim (feeds bs) [
    | inl later ↦ inl (record {
      end = suc (later.end);
      within = omega (arith, later.within);
      found = later.found;
      before = first other (later.before);
    })
    | inr none ↦ inr (all other none)
  ]
] where
  first : (b ≢ 10) → {end : ℕ} → ((place : ℕ) → place < end → get_or bs place 0 ≢ 10) → (place : ℕ) → place < suc end → get_or (b ∷ bs) place 0 ≢ 10
  first other before zero below = other
  first other before (suc place) below = before place (omega arith)

  all : (b ≢ 10) → HasNone bs → HasNone (b ∷ bs)
  all other none zero within = other
  all other none (suc place) within = none place (omega arith)

-- a line has one byte less than its piece at most
without_cr_long : (bytes : List ℕ) → length bytes ≤ length (without_cr bytes) + 1
without_cr_long [] = omega arith
without_cr_long (b ∷ []) = omega arith
without_cr_long (b ∷ c ∷ bs) = omega (arith, without_cr_long (c ∷ bs))

-- a piece whose last byte is no CR is its line
without_cr_whole : (bytes : List ℕ) → 0 < length bytes → get_or bytes (length bytes - 1) 0 ≢ 13 → without_cr bytes ≡ bytes
without_cr_whole [] some other = absurd (omega arith)
without_cr_whole (b ∷ []) some other =
    let e : (b == 13) ≡ false = grind (arith, nat_tests) in
    ap (λ t. cond t [] (b ∷ [])) e
without_cr_whole (b ∷ c ∷ bs) some other =
    let next : length (b ∷ c ∷ bs) - 1 ≡ suc (length (c ∷ bs) - 1) = omega arith in
    ap (λ t. b ∷ t) (without_cr_whole (c ∷ bs) (omega arith) (subst (λ k. get_or (b ∷ c ∷ bs) k 0 ≢ 13) next other))

-- a piece of 82 bytes, or of 81 the last of which is no CR, has too long a line
long_line : (piece : List ℕ) → 81 ≤ length piece → (length piece ≡ 81 → get_or piece 80 0 ≢ 13) → 80 < length (without_cr piece)
long_line piece long last = elim (equal_or_not (length piece) 81) [
  | inl one ↦
      let index : length piece - 1 ≡ 80 = omega (arith, one) in
      let whole = without_cr_whole piece (omega (arith, one)) (subst (λ k. get_or piece k 0 ≢ 13) (sym index) (last one)) in
      omega (arith, ap length whole, one)
  | inr more ↦ omega (arith, without_cr_long piece, more, long)
]

-- a text whose front is surely too long has a first line, which is too long
pub record HasLongLine (text : List ℕ) : Type 0 where
  pub line : List ℕ
  pub others : List (List ℕ)
  pub cut : lines_of text ≡ line ∷ others
  pub long : 80 < length line

module _ (held rest : List ℕ) (front : IsTooLong held) where
  abbrev pub text : List ℕ
  text = held ++ rest

  byte_of : (place : ℕ) → place < length held → get_or text place 0 ≡ get_or held place 0
  byte_of place within = get_or-append held rest 0 place within

  -- its first LF is the 82nd byte at the earliest, and then all before it is held
  late : (first : HasFirst text) → (81 ≤ first.end) × (first.end ≡ 81 → length held ≡ 81)
  late first = elim (equal_or_not (length held) 81) [
    | inl one ↦ (
      elim (below_or_not 81 first.end) [
        | inl low ↦ absurd (early first (omega (arith, low, one)) (omega (arith, low)))
        | inr high ↦ high
      ],
      λ _. one,
    )
    | inr more ↦ (
      elim (below_or_not 82 first.end) [
        | inl low ↦ absurd (early first (omega (arith, low, more, front.long)) low)
        | inr high ↦ omega (arith, high)
      ],
      λ is. absurd (early first (omega (arith, is, more, front.long)) (omega (arith, is))),
    )
  ] where
    early : (first : HasFirst text) → first.end < length held → first.end < 82 → ⊥
    early first within low = front.unended (first.end) within low (sym (byte_of (first.end) within) ∙ first.found)

  pub long_first : HasLongLine text
  long_first = elim (feeds text) [
    | inl first ↦ ended first
    | inr none ↦ whole none
  ] where
    ended : HasFirst text → HasLongLine text
    ended first =
        let end = first.end in
        let size : length (take end text) ≡ end = length-take-le end text (omega (arith, first.within)) in
        let last : length (take end text) ≡ 81 → get_or (take end text) 80 0 ≢ 13 = λ one cr.
        let at : end ≡ 81 = sym size ∙ one in
        let held_is : length held ≡ 81 = (late first).1 at in
        front.no_cr held_is (sym (byte_of 80 (omega (arith, held_is))) ∙ sym (get_or-take end text 80 0 (omega (arith, at))) ∙ cr) in
        record {
          line = without_cr (take end text);
          others = lines_of (drop (end + 1) text);
          cut = lines_at_first text _ _ end first.within first.found first.before refl refl;
          long = long_line (take end text) (omega (arith, size, (late first).0)) last;
        }

    whole : HasNone text → HasLongLine text
    whole none =
        let size : length text ≡ length held + length rest = length-append held rest in
        let last : length text ≡ 81 → get_or text 80 0 ≢ 13 = λ one cr.
        let held_is : length held ≡ 81 = omega (arith, one, size, front.long) in
        front.no_cr held_is (sym (byte_of 80 (omega (arith, held_is))) ∙ cr) in
        let long : 80 < length (without_cr text) = long_line text (omega (arith, size, front.long)) last in
        record {
          line = without_cr text;
          others = lines_of [];
          cut = lines_of_last text _ [] none refl (grind (arith, nat_tests, long)) refl;
          long = long;
        }

-- a whole line that is held is the first line
pub held_line : (held rest : List ℕ) → IsLine held (line_end held) → HasFirstLine held rest
held_line held rest at =
    let end = line_end held in
    lines_at_first (held ++ rest) _ _ end (omega (arith, length-append held rest, at.within))
    (get_or-append held rest 0 end at.within ∙ at.found)
    (λ place below ten. at.before place below (sym (get_or-append held rest 0 place (omega (arith, below, at.within))) ∙ ten))
    (ap without_cr (sym (take-append-le end held rest (omega (arith, at.within)))))
    (sym (drop-append-le (end + 1) held rest (omega (arith, at.within))))
