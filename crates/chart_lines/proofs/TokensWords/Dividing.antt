-- The tokens of a line, by the token that it begins with.
use Rattle.std.proofs.lemmas.Bool.{eqb-true, eqb-false, eq-eqb, ne_eqb, lt-ltb, le-ltb}
use Rattle.std.proofs.lemmas.Bool.Decides.{nat_tests}
use Rattle.std.proofs.Common.{ltb, ◌≡◌, ℕ, ◌+◌, ◌<◌, ◌≤◌, Bool, true, false, cond, not, eqb, ◌&&◌, List, [], ◌∷◌, ◌++◌, length, take, drop, get_or, Option, Some, None, option_map, refl, ap, sym, ◌∙◌, arith, suc, append_assoc, append-nil, subst}
use Rattle.std.proofs.Math.Numerals.{one-add}
use Rattle.std.specs.List.{onto_first, prefix_len}
use denote.Ref.{Bor}
use Rattle.chart_lines.specs.TokensWords.Tokens.{is_plain, is_inside}
use Rattle.chart_lines.specs.TokensWords.Dividing.{in_plain, in_literal, closed, before, tokens_from, tokens_of, is_space, is_apart}
use Rattle.chart_lines.specs.TokensWords.Texts.{texts}

-- spaces that a line begins with have no tokens
by_space : (b : ℕ) (bs : List ℕ) (x : Bool) → eqb b 32 ≡ x
    → tokens_of (drop (prefix_len is_space bs) bs) ≡ tokens_of bs
    → tokens_of (drop (cond x (1 + prefix_len is_space bs) 0) (b ∷ bs)) ≡ tokens_of (b ∷ bs)
unfolding tokens_from
by_space b bs true e rest = rw (one-add (prefix_len is_space bs), e) rest
by_space b bs false e rest = refl

pub tokens_of-spaces : (line : List ℕ) → tokens_of (drop (prefix_len is_space line) line) ≡ tokens_of line
tokens_of-spaces [] = refl
tokens_of-spaces (b ∷ bs) = by_space b bs (eqb b 32) refl (tokens_of-spaces bs)

-- a byte before the token that is begun
byte_first : (b : ℕ) (token : List ℕ) (x : Bool) (others : Option (List (List ℕ)))
    → option_map (onto_first b) (cond x (option_map (before token) others) None)
    ≡ cond x (option_map (before (b ∷ token)) others) None
byte_first b token true None = refl
byte_first b token true (Some others) = refl
byte_first b token false others = refl

-- a token of this length, where what stands after it is apart
abbrev pub apart_then : ℕ → List ℕ → Option (List (List ℕ))
apart_then n line = cond (is_apart (drop n line)) (option_map (before (take n line)) (tokens_of (drop n line))) None

by_plain : (b : ℕ) (bs : List ℕ) (x y : Bool) → eqb b 32 ≡ x → eqb b 39 ≡ y
    → tokens_from in_plain bs ≡ apart_then (prefix_len is_plain bs) bs
    → cond x (option_map (before []) (tokens_of bs)) (cond y None (option_map (onto_first b) (tokens_from in_plain bs)))
    ≡ apart_then (cond (not x && not y) (1 + prefix_len is_plain bs) 0) (b ∷ bs)
unfolding tokens_from
by_plain b bs true y e f rest = rw e refl
by_plain b bs false true e f rest = rw e refl
by_plain b bs false false e f rest =
    rw (one-add (prefix_len is_plain bs), rest)
    (byte_first b (take (prefix_len is_plain bs) bs) (is_apart (drop (prefix_len is_plain bs) bs))
    (tokens_of (drop (prefix_len is_plain bs) bs)))

-- a plain token
pub tokens_from-plain : (line : List ℕ) → tokens_from in_plain line ≡ apart_then (prefix_len is_plain line) line
unfolding tokens_from
tokens_from-plain [] = refl
tokens_from-plain (b ∷ bs) = by_plain b bs (eqb b 32) (eqb b 39) refl refl (tokens_from-plain bs)

by_closed : (b : ℕ) (bs : List ℕ) (x : Bool) → eqb b 32 ≡ x
    → cond x (option_map (before []) (tokens_of bs)) None ≡ cond x (option_map (before []) (tokens_of (b ∷ bs))) None
unfolding tokens_from
by_closed b bs true e = rw e refl
by_closed b bs false e = refl

-- what stands after a literal
tokens_from-closed : (bs : List ℕ) → tokens_from closed bs ≡ cond (is_apart bs)
    (option_map (before []) (tokens_of bs)) None
unfolding tokens_from
tokens_from-closed [] = refl
tokens_from-closed (b ∷ bs) = by_closed b bs (eqb b 32) refl

-- the rest of a literal of this length and its second apostrophe
abbrev pub literal_then : ℕ → List ℕ → Option (List (List ℕ))
literal_then n bs = cond (ltb n (length bs)) (apart_then (suc n) bs) None

byte_first_if : (b : ℕ) (token : List ℕ) (w x : Bool) (others : Option (List (List ℕ)))
    → option_map (onto_first b) (cond w (cond x (option_map (before token) others) None) None)
    ≡ cond w (cond x (option_map (before (b ∷ token)) others) None) None
byte_first_if b token true x others = byte_first b token x others
byte_first_if b token false x others = refl

none_below : (m : ℕ) → ltb 0 (suc m) ≡ true
none_below m = grind (arith, nat_tests)

more_below : (n m : ℕ) → ltb (suc n) (suc m) ≡ ltb n m
more_below n m = grind (arith, nat_tests)

by_literal : (b : ℕ) (bs : List ℕ) (y : Bool) → eqb b 39 ≡ y
    → tokens_from in_literal bs ≡ literal_then (prefix_len is_inside bs) bs
    → cond y (option_map (onto_first b) (tokens_from closed bs)) (option_map (onto_first b) (tokens_from in_literal bs))
    ≡ literal_then (cond (not y) (1 + prefix_len is_inside bs) 0) (b ∷ bs)
by_literal b bs true e rest = rw (tokens_from-closed bs, none_below (length bs))
    (byte_first b [] (is_apart bs) (tokens_of bs))
by_literal b bs false e rest =
    rw (one-add (prefix_len is_inside bs), rest, more_below (prefix_len is_inside bs) (length bs))
    (byte_first_if b (take (suc (prefix_len is_inside bs)) bs) (ltb (prefix_len is_inside bs) (length bs))
    (is_apart (drop (suc (prefix_len is_inside bs)) bs)) (tokens_of (drop (suc (prefix_len is_inside bs)) bs)))

-- the rest of a literal
tokens_from-literal : (bs : List ℕ) → tokens_from in_literal bs ≡ literal_then (prefix_len is_inside bs) bs
unfolding tokens_from
tokens_from-literal [] = refl
tokens_from-literal (b ∷ bs) = by_literal b bs (eqb b 39) refl (tokens_from-literal bs)

two_more : (n : ℕ) → n + 2 ≡ suc (suc n)
two_more n = omega arith

-- a line that begins with an apostrophe, and has n bytes before the next
abbrev cut_at : ℕ → List ℕ → ℕ → Option (List (List ℕ))
cut_at b bs n = cond (ltb n (length bs)) (apart_then (suc (suc n)) (b ∷ bs)) None

-- a line that begins with a literal
tokens_of-apostrophe : (b : ℕ) (bs : List ℕ) → eqb b 32 ≡ false → eqb b 39 ≡ true
    → tokens_of (b ∷ bs) ≡ cut_at b bs (prefix_len is_inside bs)
unfolding tokens_from
tokens_of-apostrophe b bs e f = rw (e, f, tokens_from-literal bs)
    (byte_first_if b (take (suc (prefix_len is_inside bs)) bs) (ltb (prefix_len is_inside bs) (length bs))
    (is_apart (drop (suc (prefix_len is_inside bs)) bs)) (tokens_of (drop (suc (prefix_len is_inside bs)) bs)))

-- a line that begins with neither a space nor an apostrophe
tokens_of-plain : (b : ℕ) (bs : List ℕ) → eqb b 32 ≡ false → eqb b 39 ≡ false
    → tokens_of (b ∷ bs) ≡ apart_then (prefix_len is_plain (b ∷ bs)) (b ∷ bs)
unfolding tokens_from
tokens_of-plain b bs e f = let same : tokens_of (b ∷ bs) ≡ tokens_from in_plain (b ∷ bs) = rw (e, f) refl in same
    ∙ tokens_from-plain (b ∷ bs)

-- the tokens of a line that is cut after a plain token
pub tokens_of-cut_plain : (line token after : List ℕ) (n : ℕ) (apart : Bool) → 0 < length line
    → (get_or line 0 0 ≡ 32 → ⊥) → (get_or line 0 0 ≡ 39 → ⊥)
    → n ≡ prefix_len is_plain line → token ≡ take n line → after ≡ drop n line → apart ≡ is_apart after
    → tokens_of line ≡ cond apart (option_map (before token) (tokens_of after)) None
tokens_of-cut_plain [] token after n apart some no_space no_apostrophe counted front rest test = absurd (omega arith)
tokens_of-cut_plain (b ∷ bs) token after n apart some no_space no_apostrophe counted front rest test =
    rw (test, front, rest, counted) (tokens_of-plain b bs (ne_eqb b 32 no_space) (ne_eqb b 39 no_apostrophe))

-- a plain token is not empty
pub prefix_len-plain : (line : List ℕ) → 0 < length line → (get_or line 0 0 ≡ 32 → ⊥) → (get_or line 0 0 ≡ 39 → ⊥)
    → 0 < prefix_len is_plain line
prefix_len-plain [] some no_space no_apostrophe = absurd (omega arith)
prefix_len-plain (b ∷ bs) some no_space no_apostrophe = rw (ne_eqb b 32 no_space, ne_eqb b 39 no_apostrophe)
    (omega arith)

-- the tokens of a line that is cut after a literal
pub tokens_of-cut_literal : (line token after : List ℕ) (n : ℕ) (apart : Bool) → 0 < length line → get_or line 0 0 ≡ 39
    → n ≡ prefix_len is_inside (drop 1 line) → n + 2 ≤ length line → token ≡ take (n + 2) line
    → after ≡ drop (n + 2) line → apart ≡ is_apart after
    → tokens_of line ≡ cond apart (option_map (before token) (tokens_of after)) None
tokens_of-cut_literal [] token after n apart some apostrophe counted room front rest test = absurd (omega arith)
tokens_of-cut_literal (b ∷ bs) token after n apart some apostrophe counted room front rest test =
    tokens_of-apostrophe b bs (ne_eqb b 32 (λ is. absurd (omega (arith, is, apostrophe)))) (eq-eqb b 39 apostrophe)
    ∙ ap (cut_at b bs) (sym counted)
    ∙ (rw (lt-ltb n (length bs) (omega arith), test, front, rest, two_more n) refl)

-- a literal without its second apostrophe
pub tokens_of-open : (line : List ℕ) (n : ℕ) → 0 < length line → get_or line 0 0 ≡ 39
    → n ≡ prefix_len is_inside (drop 1 line) → length line < n + 2 → tokens_of line ≡ None
tokens_of-open [] n some apostrophe counted room = absurd (omega arith)
tokens_of-open (b ∷ bs) n some apostrophe counted room =
    tokens_of-apostrophe b bs (ne_eqb b 32 (λ is. absurd (omega (arith, is, apostrophe)))) (eq-eqb b 39 apostrophe)
    ∙ ap (cut_at b bs) (sym counted)
    ∙ (rw (le-ltb n (length bs) (omega arith)) refl)

-- tokens that are cut off, before those of the rest
abbrev pub led_by : List (List ℕ) → Option (List (List ℕ)) → Option (List (List ℕ))
led_by front rest = option_map (λ tokens. front ++ tokens) rest

-- The tokens so far, before those of the rest, are those of the line, and the rest begins with no space.
pub record SplitsSoFar (tokens : List (Bor (List ℕ))) (rest line : List ℕ) : Type 0 where
  pub same : led_by (texts tokens) (tokens_of rest) ≡ tokens_of line
  pub no_space : 0 < length rest → get_or rest 0 0 ≡ 32 → ⊥

led_by-none : (rest : Option (List (List ℕ))) → led_by [] rest ≡ rest
led_by-none None = refl
led_by-none (Some tokens) = refl

led_by-push : (front : List (List ℕ)) (token : List ℕ) (rest : Option (List (List ℕ)))
    → led_by (front ++ token ∷ []) rest ≡ led_by front (option_map (before token) rest)
led_by-push front token None = refl
led_by-push front token (Some tokens) = ap Some (append_assoc front (token ∷ []) tokens)

-- no rest is left
pub led_by-all : (front : List (List ℕ)) (rest line : List ℕ) → eqb (length rest) 0 ≡ true
    → led_by front (tokens_of rest) ≡ tokens_of line → Some front ≡ tokens_of line
unfolding tokens_from
led_by-all front [] line empty same = ap Some (sym (append-nil front)) ∙ same
led_by-all front (b ∷ bs) line empty same = absurd (omega (arith, eqb-true (suc (length bs)) 0 empty))

-- the rest begins with no token
pub led_by-no_token : (front : List (List ℕ)) (rest line : List ℕ) → tokens_of rest ≡ None
    → led_by front (tokens_of rest) ≡ tokens_of line → None ≡ tokens_of line
led_by-no_token front rest line read same = sym (ap (led_by front) read) ∙ same

-- what stands after the spaces that a line begins with is no space
by_no_space : (b : ℕ) (bs : List ℕ) (x : Bool) → eqb b 32 ≡ x
    → (0 < length (drop (prefix_len is_space bs) bs) → get_or (drop (prefix_len is_space bs) bs) 0 0 ≡ 32 → ⊥)
    → 0 < length (drop (cond x (1 + prefix_len is_space bs) 0) (b ∷ bs))
    → get_or (drop (cond x (1 + prefix_len is_space bs) 0) (b ∷ bs)) 0 0 ≡ 32 → ⊥
by_no_space b bs true e rest = rw (one-add (prefix_len is_space bs)) rest
by_no_space b bs false e rest = λ some space. eqb-false b 32 e space

spaces_stop : (line : List ℕ) → 0 < length (drop (prefix_len is_space line) line)
    → get_or (drop (prefix_len is_space line) line) 0 0 ≡ 32 → ⊥
spaces_stop [] some space = absurd (omega arith)
spaces_stop (b ∷ bs) some space = by_no_space b bs (eqb b 32) refl (spaces_stop bs) some space

pub no_space_after : (line after : List ℕ) (n : ℕ) → n ≡ prefix_len is_space line → after ≡ drop n line
    → 0 < length after → get_or after 0 0 ≡ 32 → ⊥
no_space_after line after n counted rest some space =
    let here : after ≡ drop (prefix_len is_space line) line = rest ∙ ap (λ k. drop k line) counted in
    spaces_stop line (let P : List ℕ → Type 0 = λ xs. 0 < length xs in subst P here some)
    (ap (λ xs. get_or xs 0 0) (sym here) ∙ space)
