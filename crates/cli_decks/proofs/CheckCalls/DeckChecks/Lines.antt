-- A line that is read byte by byte.
use Rattle.std.proofs.Common.{◌≡◌, ◌≢◌, ◌∙◌, ◌⊎◌, inl, inr, ℕ, suc, zero, ◌+◌, ◌<◌, ◌≤◌, Bool, true, false, not, ◌==◌, List, [], ◌∷◌, ◌++◌, Option, Some, None, IfSome, Result, Ok, Err, OnOk, OnErr, IsOk, length, take, get_or, refl, sym, ap, subst, arith, append-nil, append_assoc, length-append}
use Rattle.std.proofs.KnownBytes.{Consumes-nil, Consumes-trans}
use Rattle.std.proofs.Math.ListN.{get_or-append}
use Rattle.std.proofs.Math.Seq.{drop-append-add, get_or-append_seam, length-take-le, take-append-le, take-append_seam, take_all}
use Rattle.std.proofs.lemmas.Bool.Decides.{nat_tests}
use Rattle.std.specs.Io.KnownBytes.{Consumes, IsAtEnd}
use Rattle.card_code.proofs.Pieces.{lines_at_first, lines_of_last, lines_of_none}
use Rattle.card_code.specs.Lines.{lines_of, without_cr}
use Rattle.cli_decks.specs.CheckCalls.DeckChecks.HelperLines.{HasBegun, IsKeptOf, ReadsLine}

-- a number is below another or not
below_or_not : (most n : ℕ) → (n < most) ⊎ (most ≤ n)
below_or_not zero n = inr (omega arith)
below_or_not (suc most) zero = inl (omega arith)
below_or_not (suc most) (suc n) = elim (below_or_not most n) [ inl less ↦ inl (omega arith) | inr more ↦ inr (omega arith) ]

pub was_false : (b : Bool) → not b ≡ true → false ≡ b
was_false true is = is
was_false false is = refl

pub was_true : (b : Bool) → not b ≡ false → true ≡ b
was_true true is = refl
was_true false is = is

-- a line has one byte less than its piece at most
line_long : (piece : List ℕ) → length piece ≤ length (without_cr piece) + 1
line_long [] = omega arith
line_long (b ∷ []) = omega arith
line_long (b ∷ c ∷ bs) = omega (arith, line_long (c ∷ bs))

-- 82 bytes of a piece are its line, or enough to tell that it is too long
kept_of : (piece : List ℕ) → IsKeptOf (without_cr piece) (take 82 piece)
kept_of piece = elim (below_or_not 83 (length piece)) [
  | inl few ↦ inl (ap without_cr (take_all 82 piece (omega (arith, few))))
  | inr many ↦ inr (
    omega (arith, many, line_long piece),
    omega (arith, line_long (take 82 piece), length-take-le 82 piece (omega (arith, many))),
  )
]

-- before any byte
pub none_begun : (known : Option (List ℕ)) → HasBegun known known []
none_begun known = record {
  piece = [];
  unended = λ place within. absurd (omega (arith, within));
  consumed = Consumes-nil known;
  is_kept = refl;
}

pub on_err : {T E P Q : Type 0} → (P → Q) → (r : Result T E) → OnErr r P → OnErr r Q
on_err of (Ok x) is = tt
on_err of (Err e) is = of is

pub on_ok : {T E P : Type 0} → (r : Result T E) → (IsOk r → P) → OnOk r P
on_ok (Ok x) of = of refl
on_ok (Err e) of = tt

-- where a byte more is kept, or there is no room for it
pub begun_more : {E : Type 0} (old mid new : Option (List ℕ)) (kept more : List ℕ) (byte : ℕ) (result : Result Unit E) → HasBegun old mid kept
    → Consumes mid new (byte ∷ []) → byte ≢ 10 → OnOk result (more ≡ kept ++ byte ∷ []) → OnErr result (more ≡ kept)
    → OnErr result (length kept ≡ 82) → OnOk result (length kept < 82) → HasBegun old new more
begun_more {E} old mid new kept more byte result begun next other ok same no_room room = record {
  piece = begun.piece ++ byte ∷ [];
  unended = unended;
  consumed = Consumes-trans old mid new begun.piece (byte ∷ []) begun.consumed next;
  is_kept = kept_more result ok same no_room room;
}
  where
    unended : (place : ℕ) → place < length (begun.piece ++ byte ∷ []) → get_or (begun.piece ++ byte ∷ []) place 0 ≢ 10
    unended place within is = elim (below_or_not (length begun.piece) place) [
      | inl low ↦ begun.unended place low (sym (get_or-append begun.piece (byte ∷ []) 0 place low) ∙ is)
      | inr high ↦
          let last : place ≡ length begun.piece = omega (arith, high, within, length-append begun.piece (byte ∷ [])) in
          other (sym (get_or-append_seam begun.piece byte [] 0) ∙ ap (λ k. get_or (begun.piece ++ byte ∷ []) k 0) (sym last) ∙ is)
    ]

    short : length kept < 82 → length begun.piece < 82
    short low = elim (below_or_not 82 (length begun.piece)) [
      | inl is ↦ is
      | inr many ↦ absurd (omega (arith, low, ap length begun.is_kept, length-take-le 82 begun.piece many))
    ]

    full : length kept ≡ 82 → 82 ≤ length begun.piece
    full is = elim (below_or_not 82 (length begun.piece)) [
      | inl low ↦ absurd (omega (arith, is, ap length (begun.is_kept ∙ take_all 82 begun.piece (omega (arith, low))), low))
      | inr many ↦ many
    ]

    kept_more : (r : Result Unit E) → OnOk r (more ≡ kept ++ byte ∷ []) → OnErr r (more ≡ kept) → OnErr r (length kept ≡ 82)
        → OnOk r (length kept < 82) → more ≡ take 82 (begun.piece ++ byte ∷ [])
    kept_more (Ok x) is none never low =
        let few = short low in
        is ∙ ap (λ l. l ++ byte ∷ []) (begun.is_kept ∙ take_all 82 begun.piece (omega (arith, few)))
        ∙ sym (take_all 82 (begun.piece ++ byte ∷ []) (omega (arith, few, length-append begun.piece (byte ∷ []))))
    kept_more (Err e) none is size low =
        is ∙ begun.is_kept ∙ sym (take-append-le 82 begun.piece (byte ∷ []) (full size))

-- an LF comes next
pub line_ended : (old mid new : Option (List ℕ)) (kept : List ℕ) → HasBegun old mid kept → Consumes mid new (10 ∷ []) → ReadsLine old new kept
line_ended old mid new kept begun next = record {
  line = without_cr begun.piece;
  is_kept = subst (IsKeptOf (without_cr begun.piece)) (sym begun.is_kept) (kept_of begun.piece);
  cut = cut old new (Consumes-trans old mid new begun.piece (10 ∷ []) begun.consumed next);
}
  where
    first : (rest : List ℕ) → lines_of (begun.piece ++ 10 ∷ rest) ≡ without_cr begun.piece ∷ lines_of rest
    first rest =
        lines_at_first (begun.piece ++ 10 ∷ rest) _ _ (length begun.piece) (omega (arith, length-append begun.piece (10 ∷ rest)))
        (get_or-append_seam begun.piece 10 rest 0)
        (λ place below ten. begun.unended place below (sym (get_or-append begun.piece (10 ∷ rest) 0 place below) ∙ ten))
        (ap without_cr (sym (take-append_seam begun.piece (10 ∷ rest))))
        (sym (drop-append-add begun.piece (10 ∷ rest) 1))

    cut : (known left : Option (List ℕ)) → Consumes known left (begun.piece ++ 10 ∷ [])
        → IfSome known (λ text. (rest : List ℕ) × (left ≡ Some rest) × (lines_of text ≡ without_cr begun.piece ∷ lines_of rest))
    cut None left consumed = tt
    cut (Some text) None consumed = absurd consumed
    cut (Some text) (Some rest) consumed =
        (rest, refl, ap lines_of (consumed ∙ append_assoc begun.piece (10 ∷ []) rest) ∙ first rest)

-- where the end comes next, the bytes are all that was left
all_left : (known left : Option (List ℕ)) (piece : List ℕ) → Consumes known left (piece ++ []) → IsAtEnd left → (P : List ℕ → Type 0)
    → ((left ≡ Some []) → P piece) → IfSome known P
all_left None left piece consumed end P holds = tt
all_left (Some text) None piece consumed end P holds = absurd consumed
all_left (Some text) (Some rest) piece consumed end P holds =
    let whole : text ≡ piece =
    consumed ∙ ap (λ l. (piece ++ []) ++ l) end ∙ append-nil (piece ++ []) ∙ append-nil piece in
    subst P (sym whole) (holds (ap Some end))

-- the end comes next, and something is left of the line
pub last_line : (old mid new : Option (List ℕ)) (kept : List ℕ) → HasBegun old mid kept → Consumes mid new [] → IsAtEnd new
    → false ≡ (length (without_cr kept) == 0) → ReadsLine old new kept
last_line old mid new kept begun next end some =
    let is_kept : IsKeptOf (without_cr begun.piece) kept =
    subst (IsKeptOf (without_cr begun.piece)) (sym begun.is_kept) (kept_of begun.piece) in
    record {
      line = without_cr begun.piece;
      is_kept = is_kept;
      cut = all_left old new begun.piece (Consumes-trans old mid new begun.piece [] begun.consumed next) end
          (λ text. (rest : List ℕ) × (new ≡ Some rest) × (lines_of text ≡ without_cr begun.piece ∷ lines_of rest))
          (λ is. ([], is, lines_of_last begun.piece (without_cr begun.piece) [] begun.unended refl (something is_kept) refl));
    }
  where
    something : IsKeptOf (without_cr begun.piece) kept → false ≡ (length (without_cr begun.piece) == 0)
    something (inl same) = subst (λ (l : List ℕ). false ≡ (length l == 0)) same some
    something (inr long) = grind (arith, nat_tests, long.0)

-- the end comes next, and nothing is left
pub none_left : (old mid new : Option (List ℕ)) (kept : List ℕ) → HasBegun old mid kept → Consumes mid new [] → IsAtEnd new
    → true ≡ (length (without_cr kept) == 0) → IfSome old (λ text. lines_of text ≡ [])
none_left old mid new kept begun next end none =
    let is_kept : IsKeptOf (without_cr begun.piece) kept =
    subst (IsKeptOf (without_cr begun.piece)) (sym begun.is_kept) (kept_of begun.piece) in
    all_left old new begun.piece (Consumes-trans old mid new begun.piece [] begun.consumed next) end
    (λ text. lines_of text ≡ [])
    (λ is. lines_of_none begun.piece (without_cr begun.piece) begun.unended refl (nothing is_kept))
  where
    nothing : IsKeptOf (without_cr begun.piece) kept → true ≡ (length (without_cr begun.piece) == 0)
    nothing (inl same) = subst (λ (l : List ℕ). true ≡ (length l == 0)) same none
    nothing (inr long) = grind (arith, nat_tests, long.1, none)
