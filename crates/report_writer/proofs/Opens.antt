-- What is written so far of pages: it grows by what lines add, and the pages are it and the end of the last page.
use Rattle.std.proofs.Common.{◌≡◌, ◌∙◌, ℕ, ◌+◌, ◌-◌, ◌<◌, ◌≤◌, ◌==◌, ◌⊎◌, inl, inr, false, List, [], ◌∷◌, ◌++◌, refl, sym, ap, ap₂, subst, arith, append_assoc, append-nil, if◌then◌else◌}
use Rattle.std.specs.Io.{StartsWith}
use Rattle.std.specs.List.{flat_map, range_with_len}
use Rattle.std.proofs.Math.Seq.{take-append_seam}
use Rattle.std.proofs.lemmas.Bool.Decides.{nat_tests}
use Rattle.page_text.specs.Pages.{Pages, last_page, line_bytes, page_bytes, without_trailing_blanks}
use Rattle.report_writer.proofs.BytesTo.{bytes_to_agree, feeds_between, line_more, page_ends}
use Rattle.report_writer.proofs.Texts.{IsUpTo, from_first, in_parts, last_on_form, line_after-append, none_after, page_after-append, page_of_last, text_elsewhere, text_of_first, text_of_last, up_to_not_after}
use Rattle.report_writer.specs.Added.{added, added_all, feeds, last_end, line_after, page_after, page_end}
use Rattle.report_writer.specs.Laws.{OpenGrows, OpenGrowsByAll, OrderGoesOn, PagesBegin, PagesEnd}
use Rattle.report_writer.specs.Open.{Open, bytes_to}
use Rattle.page_text.specs.declared.placed_lines.placed_line.PlacedLine.{PlacedLine}
use Rattle.page_text.specs.PlacedLines.InOrder.{FollowInOrder, IsAfter, IsInOrder}

-- it is all up to the place of the last line
open_at : (long : ℕ) (lines : List PlacedLine) → IsInOrder long lines
    → Open lines long ≡ bytes_to lines long (page_after 1 lines) (line_after 0 lines)
unfolding bytes_to
open_at long [] order = refl
open_at long (placed ∷ others) order =
    ap (λ p. bytes_to (placed ∷ others) long p (line_after placed.line others))
    (page_of_last long placed.page placed.line others order.2)

-- a place up to the last line but the last is not that of a line after it
apart : (page line : ℕ) (placed : PlacedLine) (p l : ℕ) → IsAfter page line placed.page placed.line → IsUpTo page line p l
    → placed.page ≡ p → placed.line ≡ l → ⊥
apart page line placed p l after up here there =
    up_to_not_after page line p l up (subst (λ q. IsAfter page line q l) here (subst (IsAfter page line placed.page) there after))

above : (page line : ℕ) (placed : PlacedLine) → 1 ≤ placed.line → IsAfter page line placed.page placed.line
    → (page < placed.page) ⊎ ((page ≡ placed.page) × (line ≤ placed.line - 1))
above page line placed some (inl less) = inl less
above page line placed some (inr here) = inr (here.0, omega (arith, here.1))

-- the place of a line is not among the lines above it
not_above : (placed : PlacedLine) (p l : ℕ) → 1 ≤ placed.line → IsUpTo placed.page (placed.line - 1) p l → placed.page ≡ p → placed.line ≡ l → ⊥
not_above placed p l some (inl less) here there = omega (arith, less)
not_above placed p l some (inr up) here there = omega (arith, up.1)

pub open_grows : OpenGrows
open_grows long lines placed order =
    let all = lines ++ placed ∷ [] in
    let page = page_after 1 lines in
    let line = line_after 0 lines in
    let parts = in_parts long 1 0 lines (placed ∷ []) (from_first long all order) in
    let after = parts.1.0 in
    let on_form = parts.1.1 in
    let place = last_on_form long 1 0 lines parts.0 (omega arith) (omega arith) in
    let up = feeds long page line placed.page (placed.line - 1) in
    let last : placed.line ≡ placed.line - 1 + 1 = omega (arith, on_form.line_from) in
    let line_is : line_bytes all placed.page (placed.line - 1 + 1) ≡ without_trailing_blanks placed.text ++ 10 ∷ [] =
    ap (λ l. line_bytes all placed.page l) (sym last)
    ∙ ap (λ t. without_trailing_blanks t ++ 10 ∷ []) (text_of_last long 1 0 lines placed (from_first long all order)) in
    let start : bytes_to all long page line ≡ Open lines long =
    bytes_to_agree all lines long page line
    (λ p l up_to. text_of_first lines (placed ∷ []) p l (text_elsewhere placed p l (apart page line placed p l after up_to)))
    ∙ sym (open_at long lines (in_parts long 0 0 lines (placed ∷ []) order).0) in
    let fed : bytes_to all long placed.page (placed.line - 1) ≡ bytes_to all long page line ++ up =
    feeds_between all long page line placed.page (placed.line - 1) place.0 place.1 (above page line placed on_form.line_from after)
    (λ p l past up_to. text_of_first lines (placed ∷ []) p l (text_elsewhere placed p l (not_above placed p l on_form.line_from up_to))
    ∙ none_after long 1 0 lines p l parts.0 past) in
    open_at long all order
    ∙ ap₂ (bytes_to all long) (page_after-append 1 lines (placed ∷ [])) (line_after-append 0 lines (placed ∷ []) ∙ last)
    ∙ line_more all long placed.page (placed.line - 1)
    ∙ ap₂ (λ s t. s ++ t) (fed ∙ ap (λ t. t ++ up) start) line_is
    ∙ append_assoc (Open lines long) up (without_trailing_blanks placed.text ++ 10 ∷ [])

pub open_grows_by_all : OpenGrowsByAll
open_grows_by_all long lines [] order = ap (λ (l : List PlacedLine). Open l long) (append-nil lines) ∙ sym (append-nil (Open lines long))
open_grows_by_all long lines (placed ∷ others) order =
    let cut : lines ++ placed ∷ others ≡ (lines ++ placed ∷ []) ++ others = sym (append_assoc lines (placed ∷ []) others) in
    let whole : IsInOrder long ((lines ++ placed ∷ []) ++ others) = subst (IsInOrder long) cut order in
    let rest = added_all long placed.page placed.line others in
    ap (λ (l : List PlacedLine). Open l long) cut
    ∙ open_grows_by_all long (lines ++ placed ∷ []) others whole
    ∙ ap (λ p. Open (lines ++ placed ∷ []) long ++ added_all long p (line_after 0 (lines ++ placed ∷ [])) others)
    (page_after-append 1 lines (placed ∷ []))
    ∙ ap (λ l. Open (lines ++ placed ∷ []) long ++ added_all long placed.page l others) (line_after-append 0 lines (placed ∷ []))
    ∙ ap (λ t. t ++ rest) (open_grows long lines placed (in_parts long 0 0 (lines ++ placed ∷ []) others whole).0)
    ∙ append_assoc (Open lines long) (added long (page_after 1 lines) (line_after 0 lines) placed) rest

-- the line of the last line is no line 0
begun_line : (long page line : ℕ) (lines : List PlacedLine) → 1 ≤ line → FollowInOrder long page line lines → (line_after line lines == 0) ≡ false
begun_line long page line [] some order = grind (arith, nat_tests)
begun_line long page line (placed ∷ others) some order = begun_line long placed.page placed.line others order.1.line_from order.2

pub pages_end : PagesEnd
unfolding Pages bytes_to
pages_end long [] order = refl
pages_end long (placed ∷ others) order =
    let lines = placed ∷ others in
    let page = page_after placed.page others in
    let line = line_after placed.line others in
    let begun = from_first long lines order in
    let place = last_on_form long 1 0 lines begun (omega arith) (omega arith) in
    let next : last_page lines ≡ page + 1 - 1 = omega (arith, page_of_last long placed.page placed.line others order.2) in
    let some : (line == 0) ≡ false = begun_line long placed.page placed.line others order.1.line_from order.2 in
    ap (λ n. flat_map (page_bytes lines long) (range_with_len 1 n)) next
    ∙ sym (append-nil (flat_map (page_bytes lines long) (range_with_len 1 (page + 1 - 1))))
    ∙ page_ends lines long page line place.0 place.1 (λ l past. none_after long 1 0 lines page l begun (inr (refl, past)))
    ∙ ap₂ (λ s t. s ++ t) (sym (open_at long lines order)) (sym (ap (λ b. if b then [] else page_end long line) some))

pub pages_begin : PagesBegin
pages_begin long lines others order =
    let more = added_all long (page_after 1 lines) (line_after 0 lines) others in
    let end = last_end long (line_after 0 (lines ++ others)) in
    let whole = pages_end long (lines ++ others) order
    ∙ ap (λ t. t ++ end) (open_grows_by_all long lines others order)
    ∙ append_assoc (Open lines long) more end in
    subst (λ (bytes : List ℕ). StartsWith bytes (Open lines long)) (sym whole) (take-append_seam (Open lines long) (more ++ end))

pub order_goes_on : OrderGoesOn
order_goes_on long lines others order =
    ((in_parts long 0 0 lines others order).0, (in_parts long 1 0 lines others (from_first long (lines ++ others) order)).1)

-- the pages of lines are what they add after no line, and the end of the last page
pub pages_of : (long : ℕ) (lines : List PlacedLine) → IsInOrder long lines
    → added_all long 1 0 lines ++ last_end long (line_after 0 lines) ≡ Pages lines long
unfolding bytes_to
pages_of long lines order =
    sym (pages_end long lines order ∙ ap (λ t. t ++ last_end long (line_after 0 lines)) (open_grows_by_all long [] lines order))
