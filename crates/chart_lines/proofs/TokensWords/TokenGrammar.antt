-- A line has exactly the tokens that the reader of lines answers.
use Rattle.std.proofs.Common.{◌≡◌, ℕ, Bool, true, false, cond, not, eqb, List, [], ◌∷◌, ◌++◌, Option, Some, None, option_map, refl, ap, sym, ◌∙◌, subst, inl, inr, arith, append_assoc}
use Rattle.std.proofs.lemmas.Bool.{eqb-true, eq-eqb, and_parts, not-true}
use Rattle.std.proofs.lemmas.Option.{same_Some}
use Rattle.std.specs.List.{list_all, onto_first}
use Rattle.chart_lines.specs.TokensWords.Tokens.{is_plain, is_inside, IsPlainToken, IsToken, IsApart, HasTokens, ended, spaced, led}
use Rattle.chart_lines.specs.TokensWords.Dividing.{TokenState, between, in_plain, in_literal, closed, before, tokens_from, tokens_of}

-- the same line, and the same tokens
has_same : {line other : List ℕ} {tokens others : List (List ℕ)} → line ≡ other → tokens ≡ others
    → HasTokens line tokens → HasTokens other others
has_same {line} {other} {tokens} {others} same_line same_tokens has =
    subst (λ (ts : List (List ℕ)). HasTokens other ts) same_tokens
    (subst (λ (l : List ℕ). HasTokens l tokens) same_line has)

-- the rest of a line from within a plain token on
record PlainRest (line : List ℕ) (tokens : List (List ℕ)) : Type 0 where
  token : List ℕ
  after : List ℕ
  others : List (List ℕ)
  tokens_are : tokens ≡ token ∷ others
  line_is : line ≡ token ++ after
  plain : list_all is_plain token ≡ true
  apart : IsApart after
  left : HasTokens after others

-- the rest of a line from within a literal on
record LiteralRest (line : List ℕ) (tokens : List (List ℕ)) : Type 0 where
  inside : List ℕ
  after : List ℕ
  others : List (List ℕ)
  tokens_are : tokens ≡ (inside ++ 39 ∷ []) ∷ others
  line_is : line ≡ inside ++ 39 ∷ after
  no_apostrophe : list_all is_inside inside ≡ true
  apart : IsApart after
  left : HasTokens after others

-- the rest of a line after a literal
record ClosedRest (line : List ℕ) (tokens : List (List ℕ)) : Type 0 where
  others : List (List ℕ)
  tokens_are : tokens ≡ [] ∷ others
  apart : IsApart line
  left : HasTokens line others

-- the rest of a line from a place on
abbrev IsRest : TokenState → List ℕ → List (List ℕ) → Type 0
IsRest between line tokens = HasTokens line tokens
IsRest in_plain line tokens = PlainRest line tokens
IsRest in_literal line tokens = LiteralRest line tokens
IsRest closed line tokens = ClosedRest line tokens

-- what an option was before it was mapped
pub mapped : {A B : Type 0} (f : A → B) (o : Option A) (y : B) → option_map f o ≡ Some y
    → (x : A) × (o ≡ Some x) × (f x ≡ y)
mapped f None y e = cc
mapped f (Some x) y e = (x, refl, same_Some (f x) y e)

-- a space at the front
space_first : (b : ℕ) (bs : List ℕ) (tokens : List (List ℕ)) → eqb b 32 ≡ true → HasTokens bs tokens
    → HasTokens (b ∷ bs) tokens
space_first b bs tokens e has = has_same (ap (λ c. c ∷ bs) (sym (eqb-true b 32 e))) refl (spaced bs tokens has)

-- a byte before a plain token
plain_byte : (b : ℕ) (token : List ℕ) → eqb b 32 ≡ false → eqb b 39 ≡ false → list_all is_plain token ≡ true
    → list_all is_plain (b ∷ token) ≡ true
plain_byte b token e f plain = rw (e, f) plain

plain_more : (b : ℕ) (bs : List ℕ) (tokens rest : List (List ℕ)) → eqb b 32 ≡ false → eqb b 39 ≡ false
    → onto_first b rest ≡ tokens → PlainRest bs rest → PlainRest (b ∷ bs) tokens
plain_more b bs tokens rest e f same is = record {
  token = b ∷ is.token;
  after = is.after;
  others = is.others;
  tokens_are = sym same ∙ ap (onto_first b) is.tokens_are;
  line_is = ap (λ l. b ∷ l) is.line_is;
  plain = plain_byte b is.token e f is.plain;
  apart = is.apart;
  left = is.left;
}

plain_has : (b : ℕ) (bs : List ℕ) (tokens rest : List (List ℕ)) → eqb b 32 ≡ false → eqb b 39 ≡ false
    → onto_first b rest ≡ tokens → PlainRest bs rest → HasTokens (b ∷ bs) tokens
plain_has b bs tokens rest e f same is =
    let token : List ℕ = b ∷ is.token in
    let plain : IsPlainToken token = record { some = omega arith; plain = plain_byte b is.token e f is.plain } in
    has_same (ap (λ l. b ∷ l) (sym is.line_is)) (ap (onto_first b) (sym is.tokens_are) ∙ same)
    (led token is.after is.others (inl plain) is.apart is.left)

literal_has : (b : ℕ) (bs : List ℕ) (tokens rest : List (List ℕ)) → eqb b 39 ≡ true → onto_first b rest ≡ tokens
    → LiteralRest bs rest → HasTokens (b ∷ bs) tokens
literal_has b bs tokens rest f same is =
    let is_apostrophe : b ≡ 39 = eqb-true b 39 f in
    let token : List ℕ = 39 ∷ (is.inside ++ 39 ∷ []) in
    let line_is : token ++ is.after ≡ b ∷ bs =
    ap (λ l. 39 ∷ l) (append_assoc is.inside (39 ∷ []) is.after ∙ sym is.line_is)
    ∙ ap (λ c. c ∷ bs) (sym is_apostrophe) in
    let tokens_are : token ∷ is.others ≡ tokens =
    ap (λ c. (c ∷ (is.inside ++ 39 ∷ [])) ∷ is.others) (sym is_apostrophe) ∙ ap (onto_first b) (sym is.tokens_are) ∙ same in
    has_same line_is tokens_are
    (led token is.after is.others
    (inr (record { inside = is.inside; no_apostrophe = is.no_apostrophe; spelled = refl })) is.apart is.left)

literal_more : (b : ℕ) (bs : List ℕ) (tokens rest : List (List ℕ)) → eqb b 39 ≡ false → onto_first b rest ≡ tokens
    → LiteralRest bs rest → LiteralRest (b ∷ bs) tokens
literal_more b bs tokens rest f same is = record {
  inside = b ∷ is.inside;
  after = is.after;
  others = is.others;
  tokens_are = sym same ∙ ap (onto_first b) is.tokens_are;
  line_is = ap (λ l. b ∷ l) is.line_is;
  no_apostrophe = rw f is.no_apostrophe;
  apart = is.apart;
  left = is.left;
}

literal_end : (b : ℕ) (bs : List ℕ) (tokens rest : List (List ℕ)) → eqb b 39 ≡ true → onto_first b rest ≡ tokens
    → ClosedRest bs rest → LiteralRest (b ∷ bs) tokens
literal_end b bs tokens rest f same is = record {
  inside = [];
  after = bs;
  others = is.others;
  tokens_are = sym same ∙ ap (onto_first b) is.tokens_are ∙ ap (λ c. (c ∷ []) ∷ is.others) (eqb-true b 39 f);
  line_is = ap (λ c. c ∷ bs) (eqb-true b 39 f);
  no_apostrophe = refl;
  apart = is.apart;
  left = is.left;
}

-- a token that ends before a space
ends_before : (b : ℕ) (bs : List ℕ) (tokens rest : List (List ℕ)) → eqb b 32 ≡ true → before [] rest ≡ tokens
    → HasTokens bs rest → ClosedRest (b ∷ bs) tokens
ends_before b bs tokens rest e same has = record {
  others = rest;
  tokens_are = sym same;
  apart = eqb-true b 32 e;
  left = space_first b bs rest e has;
}

plain_end : (line : List ℕ) (tokens : List (List ℕ)) → ClosedRest line tokens → PlainRest line tokens
plain_end line tokens is = record {
  token = [];
  after = line;
  others = is.others;
  tokens_are = is.tokens_are;
  line_is = refl;
  plain = refl;
  apart = is.apart;
  left = is.left;
}

nothing_left : (tokens : List (List ℕ)) → Some ([] ∷ []) ≡ Some tokens → ClosedRest [] tokens
nothing_left tokens same = record {
  others = [];
  tokens_are = sym
      (same_Some ([] ∷ []) tokens same);
  apart = tt;
  left = ended;
}

-- that what is read of these bytes are the tokens of them, from every place on
abbrev IsRead : List ℕ → Type 0
IsRead line = (place : TokenState) (tokens : List (List ℕ)) → tokens_from place line ≡ Some tokens → IsRest place line tokens

at_between : (b : ℕ) (bs : List ℕ) (tokens : List (List ℕ)) (x y : Bool) → eqb b 32 ≡ x → eqb b 39 ≡ y → IsRead bs
    → cond x (tokens_from between bs)
    (cond y (option_map (onto_first b) (tokens_from in_literal bs)) (option_map (onto_first b) (tokens_from in_plain bs)))
    ≡ Some tokens
    → HasTokens (b ∷ bs) tokens
at_between b bs tokens true y e f is read = space_first b bs tokens e (is between tokens read)
at_between b bs tokens false true e f is read =
    let m = mapped (onto_first b) (tokens_from in_literal bs) tokens read in
    literal_has b bs tokens m.0 f m.2 (is in_literal m.0 m.1)
at_between b bs tokens false false e f is read =
    let m = mapped (onto_first b) (tokens_from in_plain bs) tokens read in
    plain_has b bs tokens m.0 e f m.2 (is in_plain m.0 m.1)

at_plain : (b : ℕ) (bs : List ℕ) (tokens : List (List ℕ)) (x y : Bool) → eqb b 32 ≡ x → eqb b 39 ≡ y → IsRead bs
    → cond x (option_map (before []) (tokens_from between bs))
    (cond y None (option_map (onto_first b) (tokens_from in_plain bs))) ≡ Some tokens
    → PlainRest (b ∷ bs) tokens
at_plain b bs tokens true y e f is read =
    let m = mapped (before []) (tokens_from between bs) tokens read in
    plain_end (b ∷ bs) tokens (ends_before b bs tokens m.0 e m.2 (is between m.0 m.1))
at_plain b bs tokens false true e f is read = cc
at_plain b bs tokens false false e f is read =
    let m = mapped (onto_first b) (tokens_from in_plain bs) tokens read in
    plain_more b bs tokens m.0 e f m.2 (is in_plain m.0 m.1)

at_literal : (b : ℕ) (bs : List ℕ) (tokens : List (List ℕ)) (y : Bool) → eqb b 39 ≡ y → IsRead bs
    → cond y (option_map (onto_first b) (tokens_from closed bs)) (option_map (onto_first b) (tokens_from in_literal bs))
    ≡ Some tokens
    → LiteralRest (b ∷ bs) tokens
at_literal b bs tokens true f is read =
    let m = mapped (onto_first b) (tokens_from closed bs) tokens read in
    literal_end b bs tokens m.0 f m.2 (is closed m.0 m.1)
at_literal b bs tokens false f is read =
    let m = mapped (onto_first b) (tokens_from in_literal bs) tokens read in
    literal_more b bs tokens m.0 f m.2 (is in_literal m.0 m.1)

at_closed : (b : ℕ) (bs : List ℕ) (tokens : List (List ℕ)) (x : Bool) → eqb b 32 ≡ x → IsRead bs
    → cond x (option_map (before []) (tokens_from between bs)) None ≡ Some tokens → ClosedRest (b ∷ bs) tokens
at_closed b bs tokens true e is read =
    let m = mapped (before []) (tokens_from between bs) tokens read in
    ends_before b bs tokens m.0 e m.2 (is between m.0 m.1)
at_closed b bs tokens false e is read = cc

is_read : (line : List ℕ) → IsRead line
unfolding tokens_from
is_read [] between tokens read = has_same refl (same_Some [] tokens read) ended
is_read [] in_plain tokens read = plain_end [] tokens (nothing_left tokens read)
is_read [] in_literal tokens read = cc
is_read [] closed tokens read = nothing_left tokens read
is_read (b ∷ bs) between tokens read = at_between b bs tokens (eqb b 32) (eqb b 39) refl refl (is_read bs) read
is_read (b ∷ bs) in_plain tokens read = at_plain b bs tokens (eqb b 32) (eqb b 39) refl refl (is_read bs) read
is_read (b ∷ bs) in_literal tokens read = at_literal b bs tokens (eqb b 39) refl (is_read bs) read
is_read (b ∷ bs) closed tokens read = at_closed b bs tokens (eqb b 32) refl (is_read bs) read

-- what is read has these tokens
pub has_what_is_read : (line : List ℕ) (tokens : List (List ℕ)) → tokens_of line ≡ Some tokens → HasTokens line tokens
has_what_is_read line tokens read = is_read line between tokens read

-- a byte before a token that is read
onto_read : (b : ℕ) (token : List ℕ) (others : Option (List (List ℕ)))
    → option_map (onto_first b) (option_map (before token) others) ≡ option_map (before (b ∷ token)) others
onto_read b token None = refl
onto_read b token (Some others) = refl

closed_ahead : (after : List ℕ) → IsApart after → tokens_from closed after
    ≡ option_map (before []) (tokens_of after)
unfolding tokens_from
closed_ahead [] apart = refl
closed_ahead (c ∷ after) apart = rw (eq-eqb c 32 apart) refl

plain_apart : (after : List ℕ) → IsApart after → tokens_from in_plain after
    ≡ option_map (before []) (tokens_of after)
unfolding tokens_from
plain_apart [] apart = refl
plain_apart (c ∷ after) apart = rw (eq-eqb c 32 apart) refl

-- the tests of a plain byte
plain_tests : (b : ℕ) → is_plain b ≡ true → (eqb b 32 ≡ false) × (eqb b 39 ≡ false)
plain_tests b plain =
    let p = and_parts (not (eqb b 32)) (not (eqb b 39)) plain in
    (not-true (eqb b 32) p.0, not-true (eqb b 39) p.1)

plain_ahead : (token after : List ℕ) → list_all is_plain token ≡ true → IsApart after
    → tokens_from in_plain (token ++ after) ≡ option_map (before token) (tokens_of after)
unfolding tokens_from
plain_ahead [] after plain apart = plain_apart after apart
plain_ahead (b ∷ token) after plain apart =
    let parts = and_parts (is_plain b) (list_all is_plain token) plain in
    let tests = plain_tests b parts.0 in
    rw (tests.0, tests.1, plain_ahead token after parts.1 apart) (onto_read b token (tokens_of after))

literal_ahead : (inside after : List ℕ) → list_all is_inside inside ≡ true → IsApart after
    → tokens_from in_literal (inside ++ 39 ∷ after) ≡ option_map (before (inside ++ 39 ∷ [])) (tokens_of after)
unfolding tokens_from
literal_ahead [] after no_apostrophe apart = rw (closed_ahead after apart) (onto_read 39 [] (tokens_of after))
literal_ahead (b ∷ inside) after no_apostrophe apart =
    let parts = and_parts (is_inside b) (list_all is_inside inside) no_apostrophe in
    let test = not-true (eqb b 39) parts.0 in
    rw (test, literal_ahead inside after parts.1 apart) (onto_read b (inside ++ 39 ∷ []) (tokens_of after))

plain_token_ahead : (token after : List ℕ) → IsPlainToken token → IsApart after
    → tokens_of (token ++ after) ≡ option_map (before token) (tokens_of after)
unfolding tokens_from
plain_token_ahead [] after is apart = absurd (omega (arith, is.some))
plain_token_ahead (b ∷ token) after is apart =
    let parts = and_parts (is_plain b) (list_all is_plain token) is.plain in
    let tests = plain_tests b parts.0 in
    rw (tests.0, tests.1, plain_ahead token after parts.1 apart) (onto_read b token (tokens_of after))

literal_token_ahead : (inside after : List ℕ) → list_all is_inside inside ≡ true → IsApart after
    → tokens_of ((39 ∷ (inside ++ 39 ∷ [])) ++ after) ≡ option_map (before (39 ∷ (inside ++ 39 ∷ [])))
    (tokens_of after)
unfolding tokens_from
literal_token_ahead inside after no_apostrophe apart =
    rw (append_assoc inside (39 ∷ []) after, literal_ahead inside after no_apostrophe apart)
    (onto_read 39 (inside ++ 39 ∷ []) (tokens_of after))

token_ahead : (token after : List ℕ) → IsToken token → IsApart after
    → tokens_of (token ++ after) ≡ option_map (before token) (tokens_of after)
token_ahead token after (inl is) apart = plain_token_ahead token after is apart
token_ahead token after (inr is) apart =
    subst (λ (t : List ℕ). tokens_of (t ++ after) ≡ option_map (before t) (tokens_of after)) (sym is.spelled)
    (literal_token_ahead is.inside after is.no_apostrophe apart)

-- the tokens that a line has are read
pub read_what_it_has : {line : List ℕ} {tokens : List (List ℕ)} → HasTokens line tokens → tokens_of line ≡ Some tokens
unfolding tokens_from
read_what_it_has ended = refl
read_what_it_has (spaced line tokens has) = read_what_it_has has
read_what_it_has (led token after tokens is apart has) =
    token_ahead token after is apart ∙ ap (option_map (before token)) (read_what_it_has has)

-- a line has one list of tokens at most
pub one_division : {line : List ℕ} {a b : List (List ℕ)} → HasTokens line a → HasTokens line b → a ≡ b
one_division {line} {a} {b} has also = same_Some a b (sym (read_what_it_has has) ∙ read_what_it_has also)
