-- Single tokens are exactly the names, literals and marks that their readers answer.
use Rattle.std.proofs.Common.{◌≡◌, ℕ, ◌+◌, ◌-◌, ◌≤◌, Bool, true, false, cond, eqb, leb, ◌&&◌, List, [], ◌∷◌, ◌++◌, length, take, get_or, Option, Some, None, refl, ap, sym, ◌∙◌, subst, arith, suc, length-append, codes, replicate}
use Rattle.std.proofs.lemmas.Bool.{eqb-true, eq-eqb, and_parts, leb-true, le-leb}
use Rattle.std.proofs.lemmas.Option.{same_Some, cond_some}
use Rattle.std.proofs.lemmas.List.{take_all, take_more}
use Rattle.std.proofs.Math.Seq.{take-append_seam, get_or-append_seam}
use Rattle.std.proofs.Math.Numerals.{add-one}
use Rattle.std.specs.List.{list_all, slice_range}
use Rattle.std.specs.Str.{bytes_eq}
use Rattle.chart_lines.specs.ChartsWords.Name.{begins_with_letter, IsName, HasShape}
use Rattle.chart_lines.specs.ChartsWords.Literal.{is_printable, IsLiteralText}
use Rattle.chart_text.specs.Forms.{IsLiteral, IsMark, credit, minus}
use Rattle.chart_lines.specs.declared.charts.statement.Mark.{Mark}
use Rattle.chart_lines.specs.declared.charts.statement.Mark.TheVariants.{Credit, Minus}
use Rattle.chart_text.specs.HelperWords.{name_of, literal_of, is_literal_text, mark_of}
use Rattle.chart_lines.proofs.TokensWords.TokenWord.{is_word}

-- a token that is spelled as a name, filled with blanks
pub has_shape : (token : List ℕ) → begins_with_letter token ≡ true → length token ≤ 8
    → HasShape (token ++ replicate (8 - length token) 32)
has_shape token spelled short = record {
  token = token;
  is_name = record { spelled = spelled; short = short; filled = refl };
}

-- what is read as a name is this name
pub name_is : (token name : List ℕ) → name_of token ≡ Some name → IsName token name
unfolding name_of
name_is token name read =
    let p = cond_some (leb (length token) 8 && begins_with_letter token) _ name read in
    let parts = and_parts (leb (length token) 8) (begins_with_letter token) p.0 in
    record { spelled = parts.1; short = leb-true (length token) 8 parts.0; filled = sym p.1 }

pub name_read : (token name : List ℕ) → IsName token name → name_of token ≡ Some name
unfolding name_of
name_read token name is = rw (le-leb (length token) 8 is.short, is.spelled) (ap Some (sym is.filled))

-- the characters of a literal
literal_text : (characters : List ℕ) → is_literal_text characters ≡ true → IsLiteralText characters
literal_text characters test =
    let p = and_parts (leb 1 (length characters) && leb (length characters) 120)
    (list_all is_printable characters) test in
    let q = and_parts (leb 1 (length characters)) (leb (length characters) 120) p.0 in
    record { some = leb-true 1 (length characters) q.0; few = leb-true (length characters) 120 q.1; printable = p.1 }

literal_test : (characters : List ℕ) → IsLiteralText characters → is_literal_text characters ≡ true
literal_test characters is = rw
    (le-leb 1 (length characters) is.some, le-leb (length characters) 120 is.few, is.printable) refl

one_less : (n : ℕ) → suc n - 1 ≡ n
one_less n = omega arith

-- a list of at least two, from its first to its last
between_ends : (xs : List ℕ) (x y : ℕ) → 2 ≤ length xs → get_or xs 0 0 ≡ x → get_or xs (length xs - 1) 0 ≡ y
    → xs ≡ x ∷ (slice_range xs 1 (length xs - 1) ++ y ∷ [])
between_ends [] x y two first last = absurd (omega arith)
between_ends (a ∷ []) x y two first last = absurd (omega arith)
between_ends (a ∷ b ∷ cs) x y two first last =
    let n = length cs in
    let here : get_or (b ∷ cs) n 0 ≡ y = rw one_less at last in
    let whole : b ∷ cs ≡ take n (b ∷ cs) ++ get_or (b ∷ cs) n 0 ∷ [] =
    sym (take_all (n + 1) (b ∷ cs) (omega arith)) ∙ take_more (b ∷ cs) n 0 (omega arith) in
    rw (one_less (suc n), one_less n) (ap (λ l. l ∷ b ∷ cs) first
    ∙ ap (λ l. x ∷ l) (whole ∙ ap (λ l. take n (b ∷ cs) ++ l ∷ []) here))

-- what is read as a literal is this literal
pub literal_is : (token characters : List ℕ) → literal_of token ≡ Some characters → IsLiteral token characters
unfolding literal_of
literal_is token characters read =
    let size = length token in
    let inside = slice_range token 1 (size - 1) in
    let p = cond_some
    (((leb 2 size && eqb (get_or token 0 0) 39) && eqb (get_or token (size - 1) 0) 39) && is_literal_text inside)
    inside characters read in
    let q = and_parts ((leb 2 size && eqb (get_or token 0 0) 39) && eqb (get_or token (size - 1) 0) 39)
    (is_literal_text inside) p.0 in
    let r = and_parts (leb 2 size && eqb (get_or token 0 0) 39) (eqb (get_or token (size - 1) 0) 39) q.0 in
    let s = and_parts (leb 2 size) (eqb (get_or token 0 0) 39) r.0 in
    subst (IsLiteral token) p.1
    (record {
      text = literal_text inside q.1;
      spelled = between_ends token 39 39 (leb-true 2 size s.0) (eqb-true (get_or token 0 0) 39 s.1)
          (eqb-true (get_or token (size - 1) 0) 39 r.1);
    })

four_tests : (a b c d : Bool) (found wanted : List ℕ) → a ≡ true → b ≡ true → c ≡ true → d ≡ true → found ≡ wanted
    → cond (((a && b) && c) && d) (Some found) None ≡ Some wanted
four_tests a b c d found wanted p q r s same = rw (p, q, r, s) (ap Some same)

pub literal_read : (token characters : List ℕ) → IsLiteral token characters → literal_of token ≡ Some characters
unfolding literal_of
literal_read token characters is =
    let size : length token ≡ suc (suc (length characters)) = ap length is.spelled
    ∙ ap suc (length-append characters (39 ∷ []) ∙ add-one (length characters)) in
    let inside : slice_range token 1 (length token - 1) ≡ characters =
    ap (λ n. slice_range token 1 (n - 1)) size
    ∙ ap (λ l. slice_range l 1 (suc (suc (length characters)) - 1)) is.spelled
    ∙ (rw (one_less (suc (length characters)), one_less (length characters)) (take-append_seam characters (39 ∷ []))) in
    let last : get_or token (length token - 1) 0 ≡ 39 =
    ap (λ n. get_or token (n - 1) 0) size
    ∙ ap (λ l. get_or l (suc (suc (length characters)) - 1) 0) is.spelled
    ∙ (rw (one_less (suc (length characters))) (get_or-append_seam characters 39 [] 0)) in
    four_tests _ _ _ _ _ characters
    (le-leb 2 (length token) (omega (arith, size)))
    (eq-eqb (get_or token 0 0) 39 (ap (λ l. get_or l 0 0) is.spelled))
    (eq-eqb (get_or token (length token - 1) 0) 39 last)
    (ap is_literal_text inside ∙ literal_test characters is.text)
    inside

-- no name is a literal
no_letter : (token rest : List ℕ) → begins_with_letter token ≡ true → token ≡ 39 ∷ rest → ⊥
no_letter token rest spelled same =
    let apostrophe : begins_with_letter (39 ∷ rest) ≡ true = sym (ap begins_with_letter same) ∙ spelled in
    cc

no_literal : (token : List ℕ) (read : Option (List ℕ)) → begins_with_letter token ≡ true → literal_of token ≡ read
    → literal_of token ≡ None
no_literal token None spelled found = found
no_literal token (Some characters) spelled found = absurd
    (no_letter token _ spelled (literal_is token characters found).spelled)

pub name_no_literal : (token name : List ℕ) → IsName token name → literal_of token ≡ None
name_no_literal token name is = no_literal token (literal_of token) is.spelled refl

-- what is read as a mark is this mark
pub mark_is : (token : List ℕ) (mark : Mark) → mark_of token ≡ Some mark → IsMark token mark
mark_is token mark read = by_test (bytes_eq token (codes "CR")) (bytes_eq token (codes "-")) refl refl read
  where
    by_test : (x y : Bool) → bytes_eq token (codes "CR") ≡ x → bytes_eq token (codes "-") ≡ y
        → cond x (Some Credit) (cond y (Some Minus) None) ≡ Some mark → IsMark token mark
    by_test true y e f read = subst (IsMark token) (same_Some Credit mark read)
        (subst (λ (t : List ℕ). IsMark t Credit) (sym (is_word token (codes "CR") e)) credit)
    by_test false true e f read = subst (IsMark token) (same_Some Minus mark read)
        (subst (λ (t : List ℕ). IsMark t Minus) (sym (is_word token (codes "-") f)) minus)
    by_test false false e f read = cc

pub mark_read : {token : List ℕ} {mark : Mark} → IsMark token mark → mark_of token ≡ Some mark
mark_read credit = refl
mark_read minus = refl
