-- How the token of a hub falls into pieces at its points.
use Rattle.std.proofs.Common.{◌≡◌, ◌≢◌, ℕ, ◌+◌, ◌-◌, ◌<◌, suc, zero, Bool, true, false, not, cond, List, [], ◌∷◌, ◌++◌, length, take, drop, get_or, None, refl, ap, sym, ◌∙◌, arith}
use Rattle.std.proofs.lemmas.Bool.{eq-eqb, ne_eqb, and_parts, eqb-true}
use Rattle.std.proofs.lemmas.Grind.{common_steps}
use Rattle.std.proofs.lemmas.List.{take_rest}
use Rattle.std.proofs.lemmas.List.Splits.{slice_split-cons_no, slice_split-cons_yes}
use Rattle.std.specs.List.{slice_split, onto_first, list_all}
use Rattle.wiring_text.specs.WiringReader.Reading.{is_point, numbers_from_three}
use Rattle.wiring_text.proofs.WiringReader.LetterReading.{no_point}

-- up to the first point stands the first piece
pub split_at_first : (bytes : List ℕ) (place : ℕ) → place < length bytes → get_or bytes place 0 ≡ 46
    → ((k : ℕ) → k < place → get_or bytes k 0 ≢ 46)
    → slice_split is_point bytes ≡ take place bytes ∷ slice_split is_point (drop (place + 1) bytes)
split_at_first [] place within found before = grind (arith, common_steps)
split_at_first (b ∷ bs) zero within found before = slice_split-cons_yes is_point b bs (eq-eqb b 46 found)
split_at_first (b ∷ bs) (suc place) within found before =
    let others : (k : ℕ) → k < place → get_or bs k 0 ≢ 46 = λ k h. before (suc k) (omega arith) in
    let first : b ≢ 46 = before 0 (omega arith) in
    let more : suc (place + 1) ≡ suc place + 1 = omega arith in
    slice_split-cons_no is_point b bs (ne_eqb b 46 first)
    ∙ ap (onto_first b) (split_at_first bs place (omega arith) found others)
    ∙ ap (λ k. (b ∷ take place bs) ∷ slice_split is_point (drop k (b ∷ bs))) more

-- the same, where the rest is taken by its length
pub split_at_cut : (bytes : List ℕ) (place : ℕ) → place < length bytes → get_or bytes place 0 ≡ 46
    → ((k : ℕ) → k < place → get_or bytes k 0 ≢ 46)
    → slice_split is_point bytes
    ≡ take place bytes ∷ slice_split is_point (take (length bytes - (place + 1)) (drop (place + 1) bytes))
split_at_cut bytes place within found before =
    split_at_first bytes place within found before
    ∙ ap (λ r. take place bytes ∷ slice_split is_point r) (sym (take_rest bytes (place + 1)))

-- bytes without a point are one piece
pub split_of_one : (bytes : List ℕ) → ((k : ℕ) → k < length bytes → get_or bytes k 0 ≢ 46)
    → slice_split is_point bytes ≡ bytes ∷ []
split_of_one [] none = refl
split_of_one (b ∷ bs) none =
    let others : (k : ℕ) → k < length bs → get_or bs k 0 ≢ 46 = λ k h. none (suc k) (omega arith) in
    let first : b ≢ 46 = none 0 (omega arith) in
    slice_split-cons_no is_point b bs (ne_eqb b 46 first) ∙ ap (onto_first b) (split_of_one bs others)

-- there is a piece at least
no_more_numbers : (l m n b : ℕ) (pieces : List (List ℕ)) → numbers_from_three l m n (onto_first b pieces) ≡ None
no_more_numbers l m n b [] = refl
no_more_numbers l m n b (p ∷ ps) = refl

pub too_many_numbers : (l m n : ℕ) (bytes : List ℕ) → numbers_from_three l m n (slice_split is_point bytes) ≡ None
too_many_numbers l m n [] = refl
too_many_numbers l m n (b ∷ bs) = by_test (is_point b)
  where
    by_test : (t : Bool) → numbers_from_three l m n (cond t ([] ∷ slice_split is_point bs)
        (onto_first b (slice_split is_point bs))) ≡ None
    by_test true = refl
    by_test false = no_more_numbers l m n b (slice_split is_point bs)

-- a byte that is no point
plain_byte : (b : ℕ) → no_point b ≡ true → is_point b ≡ false
plain_byte b plain = by_test (is_point b) refl plain
  where
    by_test : (t : Bool) → is_point b ≡ t → not t ≡ true → is_point b ≡ false
    by_test true e f = cc
    by_test false e f = e

-- plain bytes before a point, and plain bytes alone
pub split_after : (plain bytes : List ℕ) → list_all no_point plain ≡ true
    → slice_split is_point (plain ++ 46 ∷ bytes) ≡ plain ∷ slice_split is_point bytes
split_after [] bytes all = refl
split_after (b ∷ bs) bytes all =
    let p = and_parts (no_point b) (list_all no_point bs) all in
    slice_split-cons_no is_point b (bs ++ 46 ∷ bytes) (plain_byte b p.0) ∙ ap (onto_first b) (split_after bs bytes p.1)

pub split_alone : (plain : List ℕ) → list_all no_point plain ≡ true → slice_split is_point plain ≡ plain ∷ []
split_alone [] all = refl
split_alone (b ∷ bs) all =
    let p = and_parts (no_point b) (list_all no_point bs) all in
    slice_split-cons_no is_point b bs (plain_byte b p.0) ∙ ap (onto_first b) (split_alone bs p.1)

-- pieces, each after a point
abbrev pub dotted : List (List ℕ) → List ℕ
dotted [] = []
dotted (piece ∷ pieces) = 46 ∷ (piece ++ dotted pieces)

-- pieces, a point between them
abbrev pub joined : List (List ℕ) → List ℕ
joined [] = []
joined (piece ∷ pieces) = piece ++ dotted pieces

joined_onto : (b : ℕ) (pieces : List (List ℕ)) → joined (onto_first b pieces) ≡ b ∷ joined pieces
joined_onto b [] = refl
joined_onto b (p ∷ ps) = refl

joined_cons : (bytes : List ℕ) → dotted (slice_split is_point bytes) ≡ 46 ∷ joined (slice_split is_point bytes)
joined_cons [] = refl
joined_cons (b ∷ bs) = by_test (is_point b)
  where
    of_onto : (pieces : List (List ℕ)) → dotted (onto_first b pieces) ≡ 46 ∷ joined (onto_first b pieces)
    of_onto [] = refl
    of_onto (p ∷ ps) = refl

    by_test : (t : Bool) → dotted (cond t ([] ∷ slice_split is_point bs) (onto_first b (slice_split is_point bs)))
        ≡ 46 ∷ joined (cond t ([] ∷ slice_split is_point bs) (onto_first b (slice_split is_point bs)))
    by_test true = refl
    by_test false = of_onto (slice_split is_point bs)

-- the pieces of bytes, joined, are the bytes
pub joined_pieces : (bytes : List ℕ) → joined (slice_split is_point bytes) ≡ bytes
joined_pieces [] = refl
joined_pieces (b ∷ bs) = by_test (is_point b) refl (joined_pieces bs)
  where
    by_test : (t : Bool) → is_point b ≡ t → joined (slice_split is_point bs) ≡ bs
        → joined (cond t ([] ∷ slice_split is_point bs) (onto_first b (slice_split is_point bs))) ≡ b ∷ bs
    by_test true e others = joined_cons bs ∙ ap (λ s. 46 ∷ s) others ∙ ap (λ x. x ∷ bs) (sym (eqb-true b 46 e))
    by_test false e others = joined_onto b (slice_split is_point bs) ∙ ap (λ s. b ∷ s) others
