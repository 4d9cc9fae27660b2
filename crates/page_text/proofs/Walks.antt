-- Walks over the places of pages: their steps, and that lines in order are all met.
use Rattle.std.proofs.Common.{◌≡◌, ◌≢◌, ◌∙◌, refl, sym, ap, ap₂, ℕ, zero, suc, ◌+◌, ◌<◌, ◌≤◌, ◌==◌, ◌&&◌, ◌⊎◌, inl, inr, true, false, List, [], ◌∷◌, ◌++◌, arith, append_assoc, append-nil, if◌then◌else◌, subst, subst₂}
use Rattle.std.specs.List.{flat_map, range_with_len}
use Rattle.std.proofs.lemmas.Bool.Decides.{eqb_tells, nat_tests}
use Rattle.page_text.specs.declared.placed_lines.placed_line.PlacedLine.{PlacedLine}
use Rattle.page_text.specs.PlacedLines.InOrder.{IsAfter, FollowInOrder, IsInOrder}
use Rattle.page_text.specs.Pages.{Pages, page_bytes, line_bytes, text_at, last_page, without_trailing_blanks}
use Rattle.page_text.specs.Walking.{first_text, rest_after, rest_after_lines, rest_after_pages, walked_lines, walked_pages}
use Rattle.page_text.proofs.Parts.{flat_map-range_more}

-- a number and one is the next number
next : (n : ℕ) → suc n ≡ n + 1
next n = omega arith

-- a definition's step, by a number and one
walked_at_next : (left : List PlacedLine) (page n : ℕ)
    → walked_lines left page n
    ++ (without_trailing_blanks (first_text (rest_after_lines left page n) page (suc n)) ++ 10 ∷ [])
    ≡ walked_lines left page (suc n)
unfolding walked_lines
walked_at_next left page n = refl

walked_next : (left : List PlacedLine) (page n : ℕ)
    → walked_lines left page n
    ++ (without_trailing_blanks (first_text (rest_after_lines left page n) page (n + 1)) ++ 10 ∷ [])
    ≡ walked_lines left page (n + 1)
walked_next left page n = subst
    (λ k. walked_lines left page n ++ (without_trailing_blanks (first_text (rest_after_lines left page n) page k) ++ 10 ∷ []) ≡ walked_lines left page k)
    (next n) (walked_at_next left page n)

after_at_next : (left : List PlacedLine) (long n : ℕ)
    → rest_after_lines (rest_after_pages left long n) (suc n) long ≡ rest_after_pages left long (suc n)
unfolding rest_after_pages
after_at_next left long n = refl

after_next : (left : List PlacedLine) (long n : ℕ)
    → rest_after_lines (rest_after_pages left long n) (n + 1) long ≡ rest_after_pages left long (n + 1)
after_next left long n = subst (λ k. rest_after_lines (rest_after_pages left long n) k long ≡ rest_after_pages left long k) (next n)
    (after_at_next left long n)

pages_at_next : (left : List PlacedLine) (long n : ℕ)
    → walked_pages left long n ++ (walked_lines (rest_after_pages left long n) (suc n) long ++ 12 ∷ [])
    ≡ walked_pages left long (suc n)
unfolding walked_pages
pages_at_next left long n = refl

pages_next : (left : List PlacedLine) (long n : ℕ)
    → walked_pages left long n ++ (walked_lines (rest_after_pages left long n) (n + 1) long ++ 12 ∷ [])
    ≡ walked_pages left long (n + 1)
pages_next left long n = subst
    (λ k. walked_pages left long n ++ (walked_lines (rest_after_pages left long n) k long ++ 12 ∷ []) ≡ walked_pages left long k)
    (next n) (pages_at_next left long n)

line_at_next : (left now : List PlacedLine) (page n : ℕ) → now ≡ rest_after_lines left page n
    → rest_after now page (suc n) ≡ rest_after_lines left page (suc n)
unfolding rest_after_lines
line_at_next left now page n is = ap (λ l. rest_after l page (suc n)) is

-- a line more
pub rest_after_lines-more : (left now : List PlacedLine) (page n : ℕ) → now ≡ rest_after_lines left page n
    → rest_after now page (n + 1) ≡ rest_after_lines left page (n + 1)
rest_after_lines-more left now page n is =
    subst (λ k. rest_after now page k ≡ rest_after_lines left page k) (next n) (line_at_next left now page n is)

pub walked_lines-more :
    (left now : List PlacedLine) (page n : ℕ) (text old mid new : List ℕ) → now ≡ rest_after_lines left page n
    → text ≡ first_text now page (n + 1) → mid ≡ old ++ walked_lines left page n
    → new ≡ mid ++ (without_trailing_blanks text ++ 10 ∷ []) → new ≡ old ++ walked_lines left page (n + 1)
walked_lines-more left now page n text old mid new is shown so_far grown =
    grown ∙ ap (λ m. m ++ (without_trailing_blanks text ++ 10 ∷ [])) so_far
    ∙ append_assoc old (walked_lines left page n) (without_trailing_blanks text ++ 10 ∷ [])
    ∙ ap (λ t. old ++ (walked_lines left page n ++ (without_trailing_blanks t ++ 10 ∷ [])))
    (shown ∙ ap (λ l. first_text l page (n + 1)) is)
    ∙ ap (λ bytes. old ++ bytes) (walked_next left page n)

-- a page more
pub rest_after_pages-more : (left now new : List PlacedLine) (long n : ℕ) → now ≡ rest_after_pages left long n
    → new ≡ rest_after_lines now (n + 1) long → new ≡ rest_after_pages left long (n + 1)
rest_after_pages-more left now new long n is more = more ∙ ap (λ l. rest_after_lines l (n + 1) long) is ∙ after_next left long n

pub walked_pages-more :
    (left now : List PlacedLine) (long n : ℕ) (old new : List ℕ) → now ≡ rest_after_pages left long n
    → old ≡ walked_pages left long n → new ≡ old ++ (walked_lines now (n + 1) long ++ 12 ∷ [])
    → new ≡ walked_pages left long (n + 1)
walked_pages-more left now long n old new is so_far grown =
    grown ∙ ap₂ (λ o l. o ++ (walked_lines l (n + 1) long ++ 12 ∷ [])) so_far is ∙ pages_next left long n

-- nothing is after at first
pub none_after : (left : List PlacedLine) (page : ℕ) → left ≡ rest_after_lines left page 0
unfolding rest_after_lines
none_after left page = refl

pub none_walked : (left : List PlacedLine) (page : ℕ) (old : List ℕ) → old ≡ old ++ walked_lines left page 0
unfolding walked_lines
none_walked left page old = sym (append-nil old)

pub no_pages : (left : List PlacedLine) (long : ℕ) → (left ≡ rest_after_pages left long 0) × ([] ≡ walked_pages left long 0)
unfolding rest_after_pages walked_pages
no_pages left long = (refl, refl)

-- one list has the texts of another at the places after one
abbrev AgreeAfter : ℕ → ℕ → List PlacedLine → List PlacedLine → Type 0
AgreeAfter page line left all = (p l : ℕ) → IsAfter page line p l → text_at left p l ≡ text_at all p l

-- what is left of lines in order after a place
record IsLeft (long page line : ℕ) (left all : List PlacedLine) : Type 0 where
  order : FollowInOrder long page line left
  agree : AgreeAfter page line left all

-- a place after one after a place is after that
pub after-trans : (a b c d e f : ℕ) → IsAfter a b c d → IsAfter c d e f → IsAfter a b e f
after-trans a b c d e f (inl x) (inl y) = inl (omega (arith, x, y))
after-trans a b c d e f (inl x) (inr y) = inl (omega (arith, x, y.0))
after-trans a b c d e f (inr x) (inl y) = inl (omega (arith, x.0, y))
after-trans a b c d e f (inr x) (inr y) = inr (omega (arith, x.0, y.0), omega (arith, x.1, y.1))

-- whether a line stands at a place
pub at_place : (placed : PlacedLine) (page line : ℕ)
    → ((placed.page ≡ page) × (placed.line ≡ line) × ((placed.page == page && placed.line == line) ≡ true))
    ⊎ (((placed.page ≡ page) → (placed.line ≡ line) → ⊥) × ((placed.page == page && placed.line == line) ≡ false))
at_place placed page line = by_tests (eqb_tells placed.page page) (eqb_tells placed.line line)
  where
    by_tests : (((placed.page == page) ≡ true) × (placed.page ≡ page)) ⊎ (((placed.page == page) ≡ false) × (placed.page ≢ page))
        → (((placed.line == line) ≡ true) × (placed.line ≡ line)) ⊎ (((placed.line == line) ≡ false) × (placed.line ≢ line))
        → ((placed.page ≡ page) × (placed.line ≡ line) × ((placed.page == page && placed.line == line) ≡ true))
        ⊎ (((placed.page ≡ page) → (placed.line ≡ line) → ⊥) × ((placed.page == page && placed.line == line) ≡ false))
    by_tests (inl x) (inl y) = inl (x.1, y.1, grind (arith, nat_tests, x.0, y.0))
    by_tests (inl x) (inr y) = inr ((λ e f. y.1 f), grind (arith, nat_tests, x.0, y.0))
    by_tests (inr x) y = inr ((λ e f. x.1 e), grind (arith, nat_tests, x.0))

-- in lines after a place nothing stands at a place that is not after it
none_before :
    (long page line : ℕ) (lines : List PlacedLine) (p l : ℕ) → FollowInOrder long page line lines
    → (IsAfter page line p l → ⊥) → text_at lines p l ≡ []
none_before long page line [] p l order before = refl
none_before long page line (placed ∷ others) p l order before =
    by_place (none_before long placed.page placed.line others p l order.2) (at_place placed p l)
  where
    by_place : ((IsAfter placed.page placed.line p l → ⊥) → text_at others p l ≡ [])
        → ((placed.page ≡ p) × (placed.line ≡ l) × ((placed.page == p && placed.line == l) ≡ true))
        ⊎ (((placed.page ≡ p) → (placed.line ≡ l) → ⊥) × ((placed.page == p && placed.line == l) ≡ false))
        → text_at (placed ∷ others) p l ≡ []
    by_place further (inl here) = absurd (before (subst₂ (IsAfter page line) here.0 here.1 order.0))
    by_place further (inr other) =
        ap (λ b. if b then placed.text else text_at others p l) other.1
        ∙ further (λ after. before (after-trans page line placed.page placed.line p l order.0 after))

-- what is left is known by what it is
ap_left : {long page line : ℕ} {one other all : List PlacedLine} → one ≡ other → IsLeft long page line one all
    → IsLeft long page line other all
ap_left {long} {page} {line} {one} {other} {all} same is = subst (λ l. IsLeft long page line l all) same is

-- no place is after itself
pub not_itself : (page line p l : ℕ) → IsAfter page line p l → page ≡ p → line ≡ l → ⊥
not_itself page line p l (inl x) e f = omega (arith, x, e)
not_itself page line p l (inr x) e f = omega (arith, x.1, f)

-- what is after a place, and not on the next line, is after that line
further : (page line p l : ℕ) → IsAfter page line p l → ((p ≡ page) → (l ≡ line + 1) → ⊥) → IsAfter page (line + 1) p l
further page line p l (inl x) other = inl x
further page line p l (inr x) other = let apart : l ≢ line + 1 = other (sym x.0) in inr (x.0, omega (arith, x.1, apart))

-- one line more
one_line :
    (long page line : ℕ) (left all : List PlacedLine) → line < long → IsLeft long page line left all
    → (first_text left page (line + 1) ≡ text_at all page (line + 1)) × IsLeft long page (line + 1) (rest_after left page (line + 1)) all
one_line long page line [] all within is = (
  is.agree page (line + 1) (inr (refl, omega arith)),
  record {
    order = tt;
    agree = λ p l after. is.agree p l (after-trans page line page (line + 1) p l (inr (refl, omega arith)) after);
  },
)
one_line long page line (placed ∷ others) all within is = by_place (at_place placed page (line + 1))
  where
    to_next : IsAfter page line page (line + 1)
    to_next = inr (refl, omega arith)

    by_place : ((placed.page ≡ page) × (placed.line ≡ line + 1) × ((placed.page == page && placed.line == line + 1) ≡ true))
        ⊎ (((placed.page ≡ page) → (placed.line ≡ line + 1) → ⊥) × ((placed.page == page && placed.line == line + 1) ≡ false))
        → (first_text (placed ∷ others) page (line + 1) ≡ text_at all page (line + 1))
        × IsLeft long page (line + 1) (rest_after (placed ∷ others) page (line + 1)) all
    by_place (inl here) = (
      ap (λ b. if b then placed.text else []) here.2
          ∙ sym (ap (λ b. if b then placed.text else text_at others page (line + 1)) here.2)
          ∙ is.agree page (line + 1) to_next,
      ap_left (ap (λ b. if b then others else placed ∷ others) (sym here.2)) (record {
        order = subst₂ (λ p l. FollowInOrder long p l others) here.0 here.1 is.order.2;
        agree = λ p l after. passed p l after (at_place placed p l);
      }),
    )
      where
        passed : (p l : ℕ) → IsAfter page (line + 1) p l
            → ((placed.page ≡ p) × (placed.line ≡ l) × ((placed.page == p && placed.line == l) ≡ true))
            ⊎ (((placed.page ≡ p) → (placed.line ≡ l) → ⊥) × ((placed.page == p && placed.line == l) ≡ false))
            → text_at others p l ≡ text_at all p l
        passed p l after (inl there) = absurd (not_itself page (line + 1) p l after (sym here.0 ∙ there.0) (sym here.1 ∙ there.1))
        passed p l after (inr there) =
            sym (ap (λ b. if b then placed.text else text_at others p l) there.1)
            ∙ is.agree p l (after-trans page line page (line + 1) p l to_next after)
    by_place (inr other) =
        let order : FollowInOrder long page (line + 1) (placed ∷ others)
        = (further page line placed.page placed.line is.order.0 other.0, is.order.1, is.order.2) in (
          ap (λ b. if b then placed.text else []) other.1
              ∙ sym (none_before long page (line + 1) (placed ∷ others) page (line + 1) order
              (λ after. not_itself page (line + 1) page (line + 1) after refl refl))
              ∙ is.agree page (line + 1) to_next,
          ap_left (ap (λ b. if b then others else placed ∷ others) (sym other.1)) (record {
            order = order;
            agree = λ p l after. is.agree p l (after-trans page line page (line + 1) p l to_next after);
          }),
        )

-- so many lines more
lines_walked :
    (long page n : ℕ) (left all : List PlacedLine) → n ≤ long → IsLeft long page 0 left all
    → (walked_lines left page n ≡ flat_map (line_bytes all page) (range_with_len 1 n))
    × IsLeft long page n (rest_after_lines left page n) all
unfolding walked_lines rest_after_lines
lines_walked long page zero left all within is = (refl, is)
lines_walked long page (suc n) left all within is =
    let before = lines_walked long page n left all (omega (arith, within)) is in
    let step = one_line long page n (rest_after_lines left page n) all (omega (arith, within)) before.1 in
    let after : suc n ≡ n + 1 = next n in (
      ap₂ (λ b t. b ++ (without_trailing_blanks t ++ 10 ∷ [])) before.0
          (ap (first_text (rest_after_lines left page n) page) after ∙ step.0)
          ∙ sym (flat_map-range_more (line_bytes all page) n)
          ∙ ap (λ k. flat_map (line_bytes all page) (range_with_len 1 k)) (sym after),
      subst (λ k. IsLeft long page k (rest_after (rest_after_lines left page n) page k) all) (sym after) step.1,
    )

-- a line of a page or of one after it is after the page's place 0
after_page : (page p l : ℕ) → page ≤ p → 1 ≤ l → IsAfter page 0 p l
after_page page p l from low = by_test (eqb_tells page p)
  where
    by_test : (((page == p) ≡ true) × (page ≡ p)) ⊎ (((page == p) ≡ false) × (page ≢ p)) → IsAfter page 0 p l
    by_test (inl same) = inr (same.1, omega (arith, low))
    by_test (inr other) = inl (omega (arith, from, other.1))

-- what is after the end of a page, on the form, is on a page after it
new_page :
    (page line long p l : ℕ) → (page ≡ 0) ⊎ (line ≡ long) → IsAfter page line p l → 1 ≤ p → 1 ≤ l → l ≤ long
    → IsAfter (page + 1) 0 p l
new_page page line long p l (inr end) (inr x) from low high = absurd (omega (arith, x.1, end, high))
new_page page line long p l ended (inl x) from low high = after_page (page + 1) p l (omega (arith, x)) low
new_page page line long p l (inl none) (inr x) from low high = absurd (omega (arith, x.0, none, from))

-- the page after one that was walked to its end
to_next_page : (long page line : ℕ) (left all : List PlacedLine) → (page ≡ 0) ⊎ (line ≡ long)
    → IsLeft long page line left all → IsLeft long (page + 1) 0 left all
to_next_page long page line left all ended is = record {
  order = first left is.order;
  agree = λ p l after. is.agree p l (farther p l after);
}
  where
    first : (lines : List PlacedLine) → FollowInOrder long page line lines → FollowInOrder long (page + 1) 0 lines
    first [] order = order
    first (placed ∷ others) order = (
      new_page page line long placed.page placed.line ended order.0 order.1.page_from
          order.1.line_from order.1.line_to,
      order.1,
      order.2,
    )

    farther : (p l : ℕ) → IsAfter (page + 1) 0 p l → IsAfter page line p l
    farther p l (inl x) = inl (omega (arith, x))
    farther p l (inr x) = inl (omega (arith, x.0))

-- so many pages more
pages_walked :
    (long n : ℕ) (all : List PlacedLine) → IsInOrder long all
    → (walked_pages all long n ≡ flat_map (page_bytes all long) (range_with_len 1 n))
    × IsLeft long (n + 1) 0 (rest_after_pages all long n) all
unfolding walked_pages rest_after_pages
pages_walked long zero all order = (refl, to_next_page long 0 0 all all (inl refl) (record { order = order; agree = λ p l after. refl }))
pages_walked long (suc n) all order =
    let before = pages_walked long n all order in
    let after : suc n ≡ n + 1 = next n in
    let walked = lines_walked long (suc n) long (rest_after_pages all long n) all (omega arith)
    (subst (λ k. IsLeft long k 0 (rest_after_pages all long n) all) (sym after) before.1) in (
      ap₂ (λ b t. b ++ (t ++ 12 ∷ [])) before.0 walked.0
          ∙ ap (λ k. flat_map (page_bytes all long) (range_with_len 1 n) ++ page_bytes all long k) after
          ∙ sym (flat_map-range_more (page_bytes all long) n)
          ∙ ap (λ k. flat_map (page_bytes all long) (range_with_len 1 k)) (sym after),
      to_next_page long (suc n) long _ all (inr refl) walked.1,
    )

-- the pages of lines in order are those that are walked
pub pages_are_walked : (long : ℕ) (all : List PlacedLine) → IsInOrder long all
    → walked_pages all long (last_page all) ≡ Pages all long
unfolding Pages
pages_are_walked long all order = (pages_walked long (last_page all) all order).0
