-- A line that was cut from the front of what came.
use Rattle.std.proofs.Common.{◌≡◌, ◌≢◌, ◌∙◌, ℕ, suc, ◌+◌, ◌-◌, ◌<◌, ◌≤◌, ◌==◌, ◌⊎◌, inl, inr, false, true, List, [], ◌∷◌, Option, Some, None, is_some, slice_get, ◌++◌, length, take, drop, get_or, refl, sym, ap, subst, arith, cond, append-nil, append_assoc, length-append, length-take, length-drop, take-append-drop}
use Rattle.std.proofs.Math.Seq.{drop-append-add, get_or-append_right, get_or-append_seam, get_or-take, take-append_seam}
use Rattle.std.proofs.lemmas.List.{get_or-drop}
use Rattle.std.proofs.Math.ListN.{get_or-append}
use Rattle.std.proofs.lemmas.Bool.{false≢true}
use Rattle.std.proofs.lemmas.Bool.Decides.{nat_tests}
use Rattle.report_streams.proofs.CardLines.Numbers.{below_or_not}
use Rattle.report_streams.specs.CardLines.Front.{IsCut, IsLine, IsPart, line_end}

-- a line without LF goes on with what comes behind it
pub end_behind : (line behind : List ℕ) → ((place : ℕ) → place < length line → get_or line place 0 ≢ 10)
    → line_end (line ++ behind) ≡ length line + line_end behind
end_behind [] behind unended = omega arith
end_behind (b ∷ bs) behind unended =
    let other : (b == 10) ≡ false = grind (arith, nat_tests, unended 0 (omega arith)) in
    let later = end_behind bs behind (λ place within. unended (suc place) (omega (arith, within))) in
    ap (λ t. cond t 0 (suc (line_end (bs ++ behind)))) other ∙ omega (arith, later)

-- without an LF all bytes are of the line
pub end_of_all : (held : List ℕ) → ((place : ℕ) → place < length held → get_or held place 0 ≢ 10) → line_end held ≡ length held
end_of_all held unended =
    ap line_end (sym (append-nil held)) ∙ end_behind held [] unended ∙ omega arith

-- an LF at the front ends a line
ended : (behind : List ℕ) → 0 < length behind → get_or behind 0 0 ≡ 10 → line_end behind ≡ 0
ended [] some is = refl
ended (b ∷ bs) some is =
    let same : (b == 10) ≡ true = grind (arith, nat_tests, is) in
    ap (λ t. cond t 0 (suc (line_end bs))) same

-- the line ends where it was cut, unless it is too long
pub end_of_cut : (line behind : List ℕ) → IsCut line behind → line_end (line ++ behind) ≤ 81 → line_end (line ++ behind) ≡ length line
end_of_cut line [] cut short = ap line_end (append-nil line) ∙ end_of_all line cut.unended
end_of_cut line (b ∷ bs) cut short =
    let sum = end_behind line (b ∷ bs) cut.unended in
    elim (cut.whole (omega arith)) [
      | inl is ↦ sum ∙ omega (arith, ended (b ∷ bs) (omega arith) is)
      | inr full ↦ omega (arith, sum, short, full)
    ]

-- then it is what was cut
pub line_of_cut : (line behind : List ℕ) → IsCut line behind → line_end (line ++ behind) ≤ 81
    → line ≡ take (line_end (line ++ behind)) (line ++ behind)
line_of_cut line behind cut short =
    sym (ap (λ k. take k (line ++ behind)) (end_of_cut line behind cut short) ∙ take-append_seam line behind)

-- and what comes behind it and its LF is what comes behind the cut and one byte
pub behind_cut : (line behind : List ℕ) → IsCut line behind → line_end (line ++ behind) ≤ 81
    → drop (line_end (line ++ behind) + 1) (line ++ behind) ≡ drop 1 behind
behind_cut line behind cut short =
    ap (λ k. drop (k + 1) (line ++ behind)) (end_of_cut line behind cut short) ∙ drop-append-add line behind 1

-- a line with its LF behind it
pub whole_line : (line behind : List ℕ) → IsCut line behind → 0 < length behind → get_or behind 0 0 ≡ 10
    → IsLine (line ++ behind) (line_end (line ++ behind))
whole_line line behind cut some is =
    let at : line_end (line ++ behind) ≡ length line =
    end_behind line behind cut.unended ∙ omega (arith, ended behind some is) in
    subst (IsLine (line ++ behind)) (sym at)
    (record {
      short = omega (arith, cut.few);
      within = omega (arith, length-append line behind, some);
      found = get_or-append_right line behind (length line) 0 (omega arith) ∙ ap (λ k. get_or behind k 0) (omega arith) ∙ is;
      before = λ place below ten. cut.unended place below (sym (get_or-append line behind 0 place below) ∙ ten);
    })

-- a part of a line is all that is held
pub part_alone : (line behind : List ℕ) → IsCut line behind → IsPart (line ++ behind) → behind ≡ []
part_alone line [] cut part = refl
part_alone line (b ∷ bs) cut part =
    let size = length-append line (b ∷ bs) in
    elim (cut.whole (omega arith)) [
      | inl is ↦ absurd (part.unended (length line) (omega (arith, size)) (get_or-append_seam line b bs 0 ∙ is))
      | inr full ↦ absurd (omega (arith, size, full, part.short))
    ]

-- what was cut goes on with bytes of a block, up to its first LF or as many as have room
pub cut_on : (line block more : List ℕ) (count : ℕ) → ((place : ℕ) → place < length line → get_or line place 0 ≢ 10)
    → more ≡ line ++ take count block → length more ≤ 81 → count ≤ length block
    → ((place : ℕ) → place < count → get_or block place 0 ≢ 10)
    → (count < length block → (get_or block count 0 ≡ 10) ⊎ (length more ≡ 81)) → IsCut more (drop count block)
cut_on line block more count unended is few within none whole =
    let size : length more ≡ length line + count =
    omega (arith, ap length is, length-append line (take count block), length-take count block) in
    record {
      few = few;
      unended = λ place low. elim (below_or_not (length line) place) [
        | inl before ↦ λ ten.
            unended place before (sym (ap (λ (t : List ℕ). get_or t place 0) is ∙ get_or-append line (take count block) 0 place before) ∙ ten)
        | inr behind ↦ λ ten.
            let low_behind : place - length line < count = omega (arith, size, low, behind) in
            let at : get_or more place 0 ≡ get_or block (place - length line) 0 =
            ap (λ (t : List ℕ). get_or t place 0) is ∙ get_or-append_right line (take count block) place 0 behind
            ∙ get_or-take count block (place - length line) 0 low_behind in
            none (place - length line) low_behind (sym at ∙ ten)
      ];
      whole = λ some. elim (whole (omega (arith, some, length-drop count block))) [
        | inl at ↦ inl (get_or-drop count block 0 0 ∙ ap (λ k. get_or block k 0) (omega arith) ∙ at)
        | inr full ↦ inr full
      ];
    }

-- and all that was held is held
pub cut_stays : (line block more : List ℕ) (count : ℕ) → more ≡ line ++ take count block → more ++ drop count block ≡ line ++ block
cut_stays line block more count is =
    ap (λ (t : List ℕ). t ++ drop count block) is ∙ append_assoc line (take count block) (drop count block)
    ∙ ap (λ (t : List ℕ). line ++ t) (take-append-drop count block)

-- the first byte of a block is there
pub first_of : (block : List ℕ) (byte : ℕ) → Some byte ≡ slice_get block 0 → (0 < length block) × (get_or block 0 0 ≡ byte)
first_of [] byte is = absurd (false≢true (sym (ap is_some is)))
first_of (b ∷ bs) byte is = (omega arith, sym (ap (or_else 0) is))
  where
    or_else : ℕ → Option ℕ → ℕ
    or_else other None = other
    or_else other (Some byte) = byte

-- a line and a block that was used up
pub alone : (line block : List ℕ) → block ≡ [] → line ++ block ≡ line
alone line block none = ap (λ (t : List ℕ). line ++ t) none ∙ append-nil line
