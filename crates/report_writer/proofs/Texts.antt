-- Which text stands at a place, for lines in order.
use Rattle.std.proofs.Common.{◌≡◌, ◌∙◌, ℕ, zero, suc, ◌<◌, ◌≤◌, ◌==◌, ◌&&◌, ◌⊎◌, inl, inr, true, false, max, List, [], ◌∷◌, ◌++◌, refl, ap, arith, if◌then◌else◌}
use Rattle.page_text.proofs.Walks.{after-trans, at_place, not_itself}
use Rattle.page_text.specs.Pages.{last_page, text_at}
use Rattle.report_writer.specs.Added.{line_after, page_after}
use Rattle.page_text.specs.declared.placed_lines.placed_line.PlacedLine.{PlacedLine}
use Rattle.page_text.specs.PlacedLines.InOrder.{FollowInOrder, IsAfter, IsInOrder}

-- a place is on an earlier page, or among the first so many lines of the page
abbrev pub IsUpTo : (page lines : ℕ) → ℕ → ℕ → Type 0
IsUpTo page lines p l = (p < page) ⊎ ((p ≡ page) × (l ≤ lines))

-- no place is up to a place and after it
pub up_to_not_after : (page lines p l : ℕ) → IsUpTo page lines p l → IsAfter page lines p l → ⊥
up_to_not_after page lines p l (inl x) (inl y) = omega (arith, x, y)
up_to_not_after page lines p l (inl x) (inr y) = omega (arith, x, y.0)
up_to_not_after page lines p l (inr x) (inl y) = omega (arith, x.0, y)
up_to_not_after page lines p l (inr x) (inr y) = omega (arith, x.1, y.1)

-- where the others have none, the text is that of the first lines
pub text_of_first : (one other : List PlacedLine) (p l : ℕ) → text_at other p l ≡ [] → text_at (one ++ other) p l ≡ text_at one p l
text_of_first [] other p l none = none
text_of_first (placed ∷ one) other p l none =
    ap (λ t. if placed.page == p && placed.line == l then placed.text else t) (text_of_first one other p l none)

-- a line has no text at another place
pub text_elsewhere : (placed : PlacedLine) (p l : ℕ) → ((placed.page ≡ p) → (placed.line ≡ l) → ⊥) → text_at (placed ∷ []) p l ≡ []
text_elsewhere placed p l other = by_place (at_place placed p l)
  where
    by_place : ((placed.page ≡ p) × (placed.line ≡ l) × ((placed.page == p && placed.line == l) ≡ true))
        ⊎ (((placed.page ≡ p) → (placed.line ≡ l) → ⊥) × ((placed.page == p && placed.line == l) ≡ false))
        → text_at (placed ∷ []) p l ≡ []
    by_place (inl here) = absurd (other here.0 here.1)
    by_place (inr there) = ap (λ b. if b then placed.text else []) there.1

-- another line has the text, where this one is not there
text_past : (placed : PlacedLine) (others : List PlacedLine) (p l : ℕ) → ((placed.page ≡ p) → (placed.line ≡ l) → ⊥)
    → text_at (placed ∷ others) p l ≡ text_at others p l
text_past placed others p l other = by_place (at_place placed p l)
  where
    by_place : ((placed.page ≡ p) × (placed.line ≡ l) × ((placed.page == p && placed.line == l) ≡ true))
        ⊎ (((placed.page ≡ p) → (placed.line ≡ l) → ⊥) × ((placed.page == p && placed.line == l) ≡ false))
        → text_at (placed ∷ others) p l ≡ text_at others p l
    by_place (inl here) = absurd (other here.0 here.1)
    by_place (inr there) = ap (λ b. if b then placed.text else text_at others p l) there.1

-- what is after the last of lines in order is after the place before them
pub after_last : (long page line : ℕ) (lines : List PlacedLine) (p l : ℕ) → FollowInOrder long page line lines
    → IsAfter (page_after page lines) (line_after line lines) p l → IsAfter page line p l
after_last long page line [] p l order after = after
after_last long page line (placed ∷ others) p l order after =
    after-trans page line placed.page placed.line p l order.0 (after_last long placed.page placed.line others p l order.2 after)

-- and there is no text there
pub none_after : (long page line : ℕ) (lines : List PlacedLine) (p l : ℕ) → FollowInOrder long page line lines
    → IsAfter (page_after page lines) (line_after line lines) p l → text_at lines p l ≡ []
none_after long page line [] p l order after = refl
none_after long page line (placed ∷ others) p l order after =
    text_past placed others p l
    (not_itself placed.page placed.line p l (after_last long placed.page placed.line others p l order.2 after))
    ∙ none_after long placed.page placed.line others p l order.2 after

-- lines in order in two parts
pub in_parts : (long page line : ℕ) (lines others : List PlacedLine) → FollowInOrder long page line (lines ++ others)
    → FollowInOrder long page line lines × FollowInOrder long (page_after page lines) (line_after line lines) others
in_parts long page line [] others order = (tt, order)
in_parts long page line (placed ∷ lines) others order =
    let parts = in_parts long placed.page placed.line lines others order.2 in
    ((order.0, order.1, parts.0), parts.1)

-- the text of the last line
pub text_of_last : (long page line : ℕ) (lines : List PlacedLine) (placed : PlacedLine) → FollowInOrder long page line (lines ++ placed ∷ [])
    → text_at (lines ++ placed ∷ []) placed.page placed.line ≡ placed.text
text_of_last long page line [] placed order = by_place (at_place placed placed.page placed.line)
  where
    by_place : ((placed.page ≡ placed.page) × (placed.line ≡ placed.line) × ((placed.page == placed.page && placed.line == placed.line) ≡ true))
        ⊎ (((placed.page ≡ placed.page) → (placed.line ≡ placed.line) → ⊥) × ((placed.page == placed.page && placed.line == placed.line) ≡ false))
        → text_at (placed ∷ []) placed.page placed.line ≡ placed.text
    by_place (inl here) = ap (λ b. if b then placed.text else []) here.2
    by_place (inr there) = absurd (there.0 refl refl)
text_of_last long page line (first ∷ lines) placed order =
    let parts = in_parts long first.page first.line lines (placed ∷ []) order.2 in
    text_past first (lines ++ placed ∷ []) placed.page placed.line
    (not_itself first.page first.line placed.page placed.line
    (after_last long first.page first.line lines placed.page placed.line parts.0 parts.1.0))
    ∙ text_of_last long first.page first.line lines placed order.2

place_from : (p l : ℕ) → 1 ≤ p → 1 ≤ l → IsAfter 1 0 p l
place_from zero l low some = absurd (omega arith)
place_from (suc zero) l low some = inr (omega arith, omega arith)
place_from (suc (suc p)) l low some = inl (omega arith)

-- lines in order follow the first page's beginning
pub from_first : (long : ℕ) (lines : List PlacedLine) → IsInOrder long lines → FollowInOrder long 1 0 lines
from_first long [] order = tt
from_first long (placed ∷ others) order =
    (place_from placed.page placed.line order.1.page_from order.1.line_from, order.1, order.2)

-- the last place is on the form
pub last_on_form : (long page line : ℕ) (lines : List PlacedLine) → FollowInOrder long page line lines → 1 ≤ page → line ≤ long
    → (1 ≤ page_after page lines) × (line_after line lines ≤ long)
last_on_form long page line [] order low within = (low, within)
last_on_form long page line (placed ∷ others) order low within =
    last_on_form long placed.page placed.line others order.2 order.1.page_from order.1.line_to

-- the last page is that of the last line
pub page_of_last : (long page line : ℕ) (lines : List PlacedLine) → FollowInOrder long page line lines
    → max page (last_page lines) ≡ page_after page lines
page_of_last long page line [] order = omega arith
page_of_last long page line (placed ∷ others) order =
    omega (arith, page_of_last long placed.page placed.line others order.2, not_before order.0)
  where
    not_before : IsAfter page line placed.page placed.line → page ≤ placed.page
    not_before (inl x) = omega (arith, x)
    not_before (inr x) = omega (arith, x.0)

-- lines one after another end where the last of them do
pub page_after-append : (page : ℕ) (lines others : List PlacedLine) → page_after page (lines ++ others) ≡ page_after (page_after page lines) others
page_after-append page [] others = refl
page_after-append page (placed ∷ lines) others = page_after-append placed.page lines others

pub line_after-append : (line : ℕ) (lines others : List PlacedLine) → line_after line (lines ++ others) ≡ line_after (line_after line lines) others
line_after-append line [] others = refl
line_after-append line (placed ∷ lines) others = line_after-append placed.line lines others
