-- An edited amount is a figure between blanks.
use Rattle.std.proofs.Common.{◌≡◌, ◌∙◌, refl, sym, ap, ℕ, zero, suc, ◌+◌, ◌==◌, Bool, true, false, List, [], ◌∷◌, ◌++◌, Option, Some, None, length, map, take, drop, replicate, if◌then◌else◌, arith}
use Rattle.std.specs.Prelude.{◌≢◌, All}
use Rattle.std.proofs.lemmas.List.{append_assoc}
use Rattle.std.proofs.lemmas.List.Elements.{All-append, All-cons, All-nil}
use Rattle.chart_lines.specs.declared.charts.statement.Mark.{Mark}
use Rattle.chart_lines.specs.declared.charts.statement.Mark.TheVariants as mark
use Rattle.report_definition.specs.Edits.{edited_digits, figure, free_digits, marked, point, without_leading_zeros}
use Rattle.proof_laws.specs.LedgerAmounts.Figures.{IsBetweenBlanks}

abbrev IsDark : ℕ → Type 0
IsDark character = character ≢ 32

figures-dark : (digits : List ℕ) → All IsDark (map figure digits)
figures-dark [] = All-nil IsDark
figures-dark (digit ∷ others) =
    All-cons IsDark (figure digit) (map figure others) (λ same. omega (arith, same)) (figures-dark others)

one-dark : (character : ℕ) → IsDark character → All IsDark (character ∷ [])
one-dark character is = All-cons IsDark character [] is (All-nil IsDark)

-- blank zeros come first
record Leading (text : List ℕ) : Type 0 where
  before : ℕ
  digits : List ℕ
  whole : text ≡ replicate before 32 ++ map figure digits

leading : (digits : List ℕ) → Leading (without_leading_zeros digits)
leading [] = record { before = 0; digits = []; whole = refl }
leading (digit ∷ others) = by (digit == 0) (leading others)
  where
    by : (b : Bool) → Leading (without_leading_zeros others)
        → Leading (if b then 32 ∷ without_leading_zeros others else map figure (digit ∷ others))
    by true more = record { before = suc more.before; digits = more.digits; whole = ap (λ (l : List ℕ). 32 ∷ l) more.whole }
    by false more = record { before = 0; digits = digit ∷ others; whole = refl }

-- blanks stand in the place of a mark
record Trailing (text : List ℕ) : Type 0 where
  front : List ℕ
  behind : ℕ
  whole : text ≡ front ++ replicate behind 32
  dark : All IsDark front

trailing : (mark : Option Mark) (negative : Bool) → Trailing (marked mark negative)
trailing None negative = record { front = []; behind = 0; whole = refl; dark = All-nil IsDark }
trailing (Some mark.Credit) true = record { front = 67 ∷ 82 ∷ []; behind = 0; whole = refl; dark = All-cons IsDark 67 (82 ∷ []) (λ same. omega (arith, same)) (one-dark 82 (λ same. omega (arith, same))) }
trailing (Some mark.Credit) false = record { front = []; behind = 2; whole = refl; dark = All-nil IsDark }
trailing (Some mark.Minus) true = record { front = 45 ∷ []; behind = 0; whole = refl; dark = one-dark 45 (λ same. omega (arith, same)) }
trailing (Some mark.Minus) false = record { front = []; behind = 1; whole = refl; dark = All-nil IsDark }

point-dark : (decimals : ℕ) → All IsDark (point decimals)
point-dark zero = All-nil IsDark
point-dark (suc decimals) = one-dark 46 (λ same. omega (arith, same))

parts : (a b p m t r : List ℕ) → (a ++ b) ++ (p ++ (m ++ (t ++ r))) ≡ a ++ ((b ++ (p ++ (m ++ t))) ++ r)
parts a b p m t r =
    append_assoc a b (p ++ (m ++ (t ++ r)))
    ∙ ap (λ (l : List ℕ). a ++ l)
    (ap (λ (l : List ℕ). b ++ l) (ap (λ (l : List ℕ). p ++ l) (sym (append_assoc m t r)) ∙ sym (append_assoc p (m ++ t) r))
    ∙ sym (append_assoc b (p ++ (m ++ t)) r))

pub edited-between : (digits : List ℕ) (decimals : ℕ) (mark : Option Mark) (negative : Bool)
    → (figure : List ℕ) × IsBetweenBlanks (edited_digits digits decimals mark negative) figure
edited-between digits decimals mark negative =
    let free = free_digits (length digits) decimals in
    let first = leading (take free digits) in
    let last = trailing mark negative in
    let middle = map figure (drop free digits) in (
      map figure first.digits ++ (point decimals ++ (middle ++ last.front)),
      record {
        before = first.before;
        behind = last.behind;
        whole =
            (λ i. first.whole i ++ (point decimals ++ (middle ++ last.whole i)))
            ∙ parts (replicate first.before 32) (map figure first.digits) (point decimals) middle last.front (replicate last.behind 32);
        no_blank =
            All-append IsDark (map figure first.digits) (point decimals ++ (middle ++ last.front)) (figures-dark first.digits)
            (All-append IsDark (point decimals) (middle ++ last.front) (point-dark decimals)
            (All-append IsDark middle last.front (figures-dark (drop free digits)) last.dark));
      },
    )
