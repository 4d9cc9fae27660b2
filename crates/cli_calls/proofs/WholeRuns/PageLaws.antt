-- The pages of lines.
use Rattle.std.proofs.Common.{◌≡◌, ◌∙◌, refl, sym, ap, subst, arith, ℕ, zero, suc, ◌+◌, ◌-◌, ◌<◌, ◌≤◌, ◌==◌, ◌||◌, Bool, true, false, not, List, [], ◌∷◌, ◌++◌, length, ◌↔◌, length-append, append_assoc, ◌&&◌, ◌⊎◌, inl, inr, cond}
use Rattle.std.proofs.lemmas.Bool.Decides.{nat_tests}
use Rattle.std.proofs.lemmas.List.Folds.{list_any-append}
use Rattle.std.specs.List.{flat_map, list_any, range_with_len}
use Rattle.page_text.specs.Pages.{Pages, last_page, line_bytes, onto_cut, page_bytes, text_at, without_trailing_blanks}
use Rattle.page_text.specs.declared.placed_lines.placed_line.PlacedLine.{PlacedLine}
use Rattle.cli_calls.specs.WholeRuns.PageLaws.{AllPagesAreTheText, PagesAreThere, PagesAreTheirBytes, HaveNoFormFeed, has_form_feed}
use Rattle.cli_calls.specs.WholeRuns.Pages.{first_pages, has_page, pages_behind}

-- A page ends in a form feed and has no other.
pub record IsPage (page : List ℕ) : Type 0 where
  pub inner : List ℕ
  pub is : page ≡ inner ++ 12 ∷ []
  pub none : has_form_feed inner ≡ false

neither : (one other : Bool) → (one || other) ≡ false → (one ≡ false) × (other ≡ false)
neither false other none = (refl, none)
neither true other none = cc

both : (one other : Bool) → one ≡ false → other ≡ false → (one || other) ≡ false
both one other is also = ap (λ b. b || other) is ∙ also

-- the first page comes first, and behind it the others
first_is : (inner rest : List ℕ) (count : ℕ) → has_form_feed inner ≡ false
    → first_pages (suc count) (inner ++ 12 ∷ rest) ≡ (inner ++ 12 ∷ []) ++ first_pages count rest
first_is [] rest count none = refl
first_is (b ∷ bs) rest count none =
    let parts = neither (b == 12) (has_form_feed bs) none in
    ap (λ t. b ∷ cond t (first_pages count (bs ++ 12 ∷ rest)) (first_pages (suc count) (bs ++ 12 ∷ rest))) parts.0
    ∙ ap (λ t. b ∷ t) (first_is bs rest count parts.1)

behind_is : (inner rest : List ℕ) (count : ℕ) → has_form_feed inner ≡ false → pages_behind (suc count) (inner ++ 12 ∷ rest) ≡ pages_behind count rest
behind_is [] rest count none = refl
behind_is (b ∷ bs) rest count none =
    let parts = neither (b == 12) (has_form_feed bs) none in
    ap (λ t. cond t (pages_behind count (bs ++ 12 ∷ rest)) (pages_behind (suc count) (bs ++ 12 ∷ rest))) parts.0
    ∙ behind_is bs rest count parts.1

module _ (page : ℕ → List ℕ) (each : (number : ℕ) → IsPage (page number)) where
  bytes : ℕ → ℕ → List ℕ
  bytes from count = flat_map page (range_with_len from count)

  -- a page and those behind it
  joined : (from : ℕ) (rest : List ℕ) → page from ++ rest ≡ (each from).inner ++ 12 ∷ rest
  joined from rest = ap (λ t. t ++ rest) (each from).is ∙ append_assoc (each from).inner (12 ∷ []) rest

  pub firsts : (from many count : ℕ) → count ≤ many → first_pages count (flat_map page (range_with_len from many)) ≡ flat_map page (range_with_len from count)
  firsts from many zero few = refl
  firsts from zero (suc count) few = absurd (omega (arith, few))
  firsts from (suc many) (suc count) few =
      ap (first_pages (suc count)) (joined from (flat_map page (range_with_len (from + 1) many)))
      ∙ first_is (each from).inner (flat_map page (range_with_len (from + 1) many)) count (each from).none
      ∙ ap (λ t. t ++ first_pages count (flat_map page (range_with_len (from + 1) many))) (sym (each from).is)
      ∙ ap (λ t. page from ++ t) (firsts (from + 1) many count (omega (arith, few)))

  pub behinds : (from many count : ℕ) → pages_behind count (flat_map page (range_with_len from many)) ≡ flat_map page (range_with_len (from + count) (many - count))
  behinds from many zero =
      let start : from ≡ from + 0 = omega arith in
      let size : many ≡ many - 0 = omega arith in
      ap (λ n. flat_map page (range_with_len n many)) start ∙ ap (λ n. flat_map page (range_with_len (from + 0) n)) size
  behinds from zero (suc count) =
      let none : 0 ≡ 0 - suc count = omega arith in
      ap (λ n. flat_map page (range_with_len (from + suc count) n)) none
  behinds from (suc many) (suc count) =
      let start : from + 1 + count ≡ from + suc count = omega arith in
      let size : many - count ≡ suc many - suc count = omega arith in
      let rest = flat_map page (range_with_len (from + 1) many) in
      ap (pages_behind (suc count)) (joined from rest) ∙ behind_is (each from).inner rest count (each from).none
      ∙ behinds (from + 1) many count
      ∙ ap (λ n. flat_map page (range_with_len n (many - count))) start
      ∙ ap (λ n. flat_map page (range_with_len (from + suc count) n)) size

  -- all pages of a text, and more that it doesn't have
  pub alls : (from many count : ℕ) → many ≤ count → first_pages count (flat_map page (range_with_len from many)) ≡ flat_map page (range_with_len from many)
  alls from zero zero enough = refl
  alls from zero (suc count) enough = refl
  alls from (suc many) zero enough = absurd (omega (arith, enough))
  alls from (suc many) (suc count) enough =
      ap (first_pages (suc count)) (joined from (flat_map page (range_with_len (from + 1) many)))
      ∙ first_is (each from).inner (flat_map page (range_with_len (from + 1) many)) count (each from).none
      ∙ ap (λ t. t ++ first_pages count (flat_map page (range_with_len (from + 1) many))) (sym (each from).is)
      ∙ ap (λ t. page from ++ t) (alls (from + 1) many count (omega (arith, enough)))

-- a cut text has no form feed where the text has none
onto_none : (character : ℕ) (text : List ℕ) → (character == 12) ≡ false → has_form_feed text ≡ false → has_form_feed (onto_cut character text) ≡ false
onto_none character [] one none = elim (character == 32) as (λ t. has_form_feed (cond t [] (character ∷ [])) ≡ false) [
  | true ↦ refl
  | false ↦ both (character == 12) false one refl
]
onto_none character (next ∷ others) one none = both (character == 12) (has_form_feed (next ∷ others)) one none

cut_none : (text : List ℕ) → has_form_feed text ≡ false → has_form_feed (without_trailing_blanks text) ≡ false
cut_none [] none = refl
cut_none (character ∷ text) none =
    let parts = neither (character == 12) (has_form_feed text) none in
    onto_none character (without_trailing_blanks text) parts.0 (cut_none text parts.1)

text_none : (placed : List PlacedLine) (page line : ℕ) → HaveNoFormFeed placed
    → has_form_feed (text_at placed page line) ≡ false
text_none [] page line none = refl
text_none (first ∷ others) page line none =
    let parts = neither (has_form_feed first.text) (list_any (λ line. has_form_feed line.text) others) none in
    elim (first.page == page && first.line == line) as (λ t. has_form_feed (cond t first.text (text_at others page line)) ≡ false) [
      | true ↦ parts.0
      | false ↦ text_none others page line parts.1
    ]

line_none : (placed : List PlacedLine) (page line : ℕ) → HaveNoFormFeed placed
    → has_form_feed (line_bytes placed page line) ≡ false
line_none placed page line none =
    let cut = without_trailing_blanks (text_at placed page line) in
    list_any-append (λ character. character == 12) cut (10 ∷ [])
    ∙ both (has_form_feed cut) false (cut_none (text_at placed page line) (text_none placed page line none)) refl

lines_none : (placed : List PlacedLine) (page : ℕ) (lines : List ℕ) → HaveNoFormFeed placed
    → has_form_feed (flat_map (line_bytes placed page) lines) ≡ false
lines_none placed page [] none = refl
lines_none placed page (line ∷ lines) none =
    list_any-append (λ character. character == 12) (line_bytes placed page line) (flat_map (line_bytes placed page) lines)
    ∙ both (has_form_feed (line_bytes placed page line)) (has_form_feed (flat_map (line_bytes placed page) lines))
    (line_none placed page line none) (lines_none placed page lines none)

each_page : (placed : List PlacedLine) (long : ℕ) → HaveNoFormFeed placed
    → (number : ℕ) → IsPage (page_bytes placed long number)
each_page placed long none number = record {
  inner = flat_map (line_bytes placed number) (range_with_len 1 long);
  is = refl;
  none = lines_none placed number (range_with_len 1 long) none;
}

pub pages_are_their_bytes : PagesAreTheirBytes
unfolding Pages
pages_are_their_bytes placed long first last none from to =
    let page = page_bytes placed long in
    let each = each_page placed long none in
    ap (first_pages (last - (first - 1))) (behinds page each 1 (last_page placed) (first - 1))
    ∙ firsts page each (1 + (first - 1)) (last_page placed - (first - 1)) (last - (first - 1)) (omega (arith, from, to))
    ∙ ap (λ n. flat_map page (range_with_len n (last - (first - 1)))) (omega (arith, from))

pub all_pages_are_the_text : AllPagesAreTheText
unfolding Pages
all_pages_are_the_text placed long last none enough =
    let page = page_bytes placed long in
    let count : last - (1 - 1) ≡ last = omega arith in
    ap (λ n. first_pages n (flat_map page (range_with_len 1 (last_page placed)))) count
    ∙ alls page (each_page placed long none) 1 (last_page placed) last enough

-- whether there is a page is told by what stands behind those before it
tested : (number size : ℕ) → (number ≡ 0) ⊎ (0 < size) → ((number == 0) || not (size == 0)) ≡ true
tested zero size some = refl
tested (suc number) size (inl none) = absurd (omega (arith, none))
tested (suc number) size (inr some) = grind (arith, nat_tests, some)

tells : (number size : ℕ) → ((number == 0) || not (size == 0)) ≡ true → (number ≡ 0) ⊎ (0 < size)
tells zero size is = inl refl
tells (suc number) zero is = absurd (grind (arith, nat_tests, is))
tells (suc number) (suc size) is = inr (omega arith)

module _ (page : ℕ → List ℕ) (each : (number : ℕ) → IsPage (page number)) where
  pub some_bytes : (from many : ℕ) → 0 < many → 0 < length (flat_map page (range_with_len from many))
  some_bytes from zero some = absurd (omega (arith, some))
  some_bytes from (suc many) some =
      let rest = flat_map page (range_with_len (from + 1) many) in
      let whole : flat_map page (range_with_len from (suc many)) ≡ page from ++ rest = refl in
      omega (arith, ap length whole, length-append (page from) rest, ap length (each from).is, length-append (each from).inner (12 ∷ []))

  pub some_pages : (from many : ℕ) → 0 < length (flat_map page (range_with_len from many)) → 0 < many
  some_pages from zero some = absurd (omega (arith, some))
  some_pages from (suc many) some = omega arith

  -- the page with a number is there where there are as many
  pub there_is : (many number : ℕ) → (has_page number (flat_map page (range_with_len 1 many)) ≡ true) ↔ (number ≤ many)
  there_is many zero = (λ there. omega arith, λ few. refl)
  there_is many (suc before) =
      let text = flat_map page (range_with_len 1 many) in
      let behind = behinds page each 1 many before in
      let one_less : suc before - 1 ≡ before = omega arith in
      let same : has_page (suc before) text ≡ ((suc before == 0) || not (length (pages_behind before text) == 0)) =
      ap (λ n. (suc before == 0) || not (length (pages_behind n text) == 0)) one_less in (
        λ there. elim (tells (suc before) (length (pages_behind before text)) (sym same ∙ there)) [
          | inl is ↦ absurd (omega (arith, is))
          | inr some ↦
              let more = some_pages (1 + before) (many - before) (subst (λ (t : List ℕ). 0 < length t) behind some) in
              omega (arith, more)
        ],
        λ few.
            let some = some_bytes (1 + before) (many - before) (omega (arith, few)) in
            same ∙ tested (suc before) (length (pages_behind before text)) (inr (subst (λ (t : List ℕ). 0 < length t) (sym behind) some)),
      )

pub pages_are_there : PagesAreThere
unfolding Pages
pages_are_there placed long number none = there_is (page_bytes placed long) (each_page placed long none) (last_page placed) number
