-- The bytes of pages up to a place: a line more, blank lines, pages.
use Rattle.std.proofs.Common.{◌≡◌, ◌∙◌, ℕ, zero, suc, ◌+◌, ◌-◌, ◌<◌, ◌≤◌, ◌⊎◌, inl, inr, List, [], ◌∷◌, ◌++◌, replicate, refl, sym, ap, ap₂, arith, append_assoc, append-nil}
use Rattle.std.specs.List.{flat_map, range_with_len}
use Rattle.std.proofs.lemmas.List.{replicate_more}
use Rattle.page_text.proofs.Parts.{flat_map-range_more}
use Rattle.page_text.specs.Pages.{line_bytes, page_bytes, text_at, without_trailing_blanks}
use Rattle.report_writer.proofs.Feeds.{feeds_here, feeds_later}
use Rattle.report_writer.proofs.Texts.{IsUpTo}
use Rattle.report_writer.specs.Added.{blank_pages, feeds, page_end}
use Rattle.report_writer.specs.Open.{bytes_to}
use Rattle.page_text.specs.declared.placed_lines.placed_line.PlacedLine.{PlacedLine}
use Rattle.page_text.specs.PlacedLines.InOrder.{IsAfter}

parts_agree : (f g : ℕ → List ℕ) (a n : ℕ) → ((k : ℕ) → a ≤ k → k < a + n → f k ≡ g k)
    → flat_map f (range_with_len a n) ≡ flat_map g (range_with_len a n)
parts_agree f g a zero same = refl
parts_agree f g a (suc n) same =
    ap₂ (λ s t. s ++ t) (same a (omega arith) (omega arith)) (parts_agree f g (a + 1) n (λ k low high. same k (omega arith) (omega arith)))

-- they hang on the texts up to the place alone
pub bytes_to_agree :
    (one other : List PlacedLine) (long page lines : ℕ) → ((p l : ℕ) → IsUpTo page lines p l → text_at one p l ≡ text_at other p l)
    → bytes_to one long page lines ≡ bytes_to other long page lines
unfolding bytes_to
bytes_to_agree one other long page lines same =
    ap₂ (λ s t. s ++ t)
    (parts_agree (page_bytes one long) (page_bytes other long) 1 (page - 1)
    (λ p low high. ap (λ t. t ++ 12 ∷ [])
    (parts_agree (line_bytes one p) (line_bytes other p) 1 long (λ l _ _. line_same p l (inl (omega arith))))))
    (parts_agree (line_bytes one page) (line_bytes other page) 1 lines (λ l low high. line_same page l (inr (refl, omega arith))))
  where
    line_same : (p l : ℕ) → IsUpTo page lines p l → line_bytes one p l ≡ line_bytes other p l
    line_same p l up = ap (λ t. without_trailing_blanks t ++ 10 ∷ []) (same p l up)

module _ (all : List PlacedLine) (long : ℕ) where
  -- a line more
  pub line_more : (page n : ℕ) → bytes_to all long page (n + 1) ≡ bytes_to all long page n ++ line_bytes all page (n + 1)
  unfolding bytes_to
  line_more page n =
      let pages = flat_map (page_bytes all long) (range_with_len 1 (page - 1)) in
      ap (λ t. pages ++ t) (flat_map-range_more (line_bytes all page) n)
      ∙ sym (append_assoc pages (flat_map (line_bytes all page) (range_with_len 1 n)) (line_bytes all page (n + 1)))

  -- a page more
  page_more : (page : ℕ) → 1 ≤ page → bytes_to all long (page + 1) 0 ≡ bytes_to all long page long ++ 12 ∷ []
  unfolding bytes_to
  page_more page low =
      let next : page + 1 - 1 ≡ page - 1 + 1 = omega arith in
      let same : page - 1 + 1 ≡ page = omega arith in
      let pages = flat_map (page_bytes all long) (range_with_len 1 (page - 1)) in
      append-nil (flat_map (page_bytes all long) (range_with_len 1 (page + 1 - 1)))
      ∙ ap (λ n. flat_map (page_bytes all long) (range_with_len 1 n)) next
      ∙ flat_map-range_more (page_bytes all long) (page - 1)
      ∙ ap (λ p. pages ++ page_bytes all long p) same
      ∙ sym (append_assoc pages (flat_map (line_bytes all page) (range_with_len 1 long)) (12 ∷ []))

  -- blank lines
  blank_lines : (page n k : ℕ) → ((l : ℕ) → n < l → l ≤ n + k → text_at all page l ≡ [])
      → bytes_to all long page (n + k) ≡ bytes_to all long page n ++ replicate k 10
  blank_lines page n zero blank =
      let same : n + zero ≡ n = omega arith in
      ap (bytes_to all long page) same ∙ sym (append-nil (bytes_to all long page n))
  blank_lines page n (suc k) blank =
      let next : n + suc k ≡ n + k + 1 = omega arith in
      let one : k + 1 ≡ suc k = omega arith in
      ap (bytes_to all long page) next ∙ line_more page (n + k)
      ∙ ap₂ (λ s t. s ++ (without_trailing_blanks t ++ 10 ∷ [])) (blank_lines page n k (λ l low high. blank l low (omega arith)))
      (blank (n + k + 1) (omega arith) (omega arith))
      ∙ append_assoc (bytes_to all long page n) (replicate k 10) (10 ∷ [])
      ∙ ap (λ t. bytes_to all long page n ++ t) (replicate_more k 10 ∙ ap (λ m. replicate m 10) one)

  -- the end of a page
  pub page_ends : (page n : ℕ) → 1 ≤ page → n ≤ long → ((l : ℕ) → n < l → text_at all page l ≡ [])
      → bytes_to all long (page + 1) 0 ≡ bytes_to all long page n ++ page_end long n
  page_ends page n low within blank =
      let whole : long ≡ n + (long - n) = omega arith in
      page_more page low
      ∙ ap (λ t. t ++ 12 ∷ []) (ap (bytes_to all long page) whole ∙ blank_lines page n (long - n) (λ l after _. blank l after))
      ∙ append_assoc (bytes_to all long page n) (replicate (long - n) 10) (12 ∷ [])

  -- blank pages
  pages_blank : (page k : ℕ) → 1 ≤ page → ((p l : ℕ) → page ≤ p → p < page + k → 0 < l → text_at all p l ≡ [])
      → bytes_to all long (page + k) 0 ≡ bytes_to all long page 0 ++ blank_pages long k
  pages_blank page zero low blank =
      let same : page + zero ≡ page = omega arith in
      ap (λ p. bytes_to all long p 0) same ∙ sym (append-nil (bytes_to all long page 0))
  pages_blank page (suc k) low blank =
      let next : page + suc k ≡ page + 1 + k = omega arith in
      ap (λ p. bytes_to all long p 0) next
      ∙ pages_blank (page + 1) k (omega arith) (λ p l from to some. blank p l (omega arith) (omega arith) some)
      ∙ ap (λ t. t ++ blank_pages long k) (page_ends page 0 low (omega arith) (λ l some. blank page l (omega arith) (omega arith) some))
      ∙ append_assoc (bytes_to all long page 0) (page_end long 0) (blank_pages long k)

  -- blank lines and pages between two places
  pub feeds_between :
      (page n later m : ℕ) → 1 ≤ page → n ≤ long → ((page < later) ⊎ ((page ≡ later) × (n ≤ m)))
      → ((p l : ℕ) → IsAfter page n p l → IsUpTo later m p l → text_at all p l ≡ [])
      → bytes_to all long later m ≡ bytes_to all long page n ++ feeds long page n later m
  feeds_between page n later m low within (inr here) blank =
      let whole : m ≡ n + (m - n) = omega (arith, here.1) in
      ap (λ p. bytes_to all long p m) (sym here.0)
      ∙ ap (bytes_to all long page) whole
      ∙ blank_lines page n (m - n) (λ l after to. blank page l (inr (refl, after)) (inr (here.0, omega (arith, here.1))))
      ∙ ap (λ t. bytes_to all long page n ++ t) (sym (feeds_here long page n later m here.0))
  feeds_between page n later m low within (inl less) blank =
      let whole : later ≡ page + 1 + (later - (page + 1)) = omega (arith, less) in
      let none : m ≡ 0 + m = omega arith in
      let start = bytes_to all long page n in
      let pages = blank_pages long (later - (page + 1)) in
      ap (bytes_to all long later) none
      ∙ blank_lines later 0 m (λ l some to. blank later l (inl less) (inr (refl, omega arith)))
      ∙ ap (λ t. t ++ replicate m 10)
      (ap (λ p. bytes_to all long p 0) whole
      ∙ pages_blank (page + 1) (later - (page + 1)) (omega arith)
      (λ p l from to some. blank p l (inl (omega arith)) (inl (omega (arith, less))))
      ∙ ap (λ t. t ++ pages) (page_ends page n low within (λ l after. blank page l (inr (refl, after)) (inl less)))
      ∙ append_assoc start (page_end long n) pages)
      ∙ append_assoc start (page_end long n ++ pages) (replicate m 10)
      ∙ ap (λ t. start ++ t)
      (append_assoc (page_end long n) pages (replicate m 10) ∙ sym (feeds_later long page n later m less))
