-- Laws of the pages of lines.
use Rattle.std.specs.Prelude.{◌≡◌, ℕ, ◌-◌, ◌≤◌, ◌==◌, ◌↔◌, Bool, false, true, List}
use Rattle.std.specs.List.{flat_map, list_any, range_with_len}
use Rattle.page_text.specs.Pages.{Pages, last_page, page_bytes}
use Rattle.page_text.specs.declared.placed_lines.placed_line.PlacedLine.{PlacedLine}
use Rattle.cli_calls.specs.WholeRuns.Pages.{chosen_pages, has_page}

-- whether a form feed is among some characters
abbrev pub has_form_feed : List ℕ → Bool
has_form_feed = list_any (λ character. character == 12)

-- No line has a form feed among its characters: else it would end a page within the line.
abbrev pub HaveNoFormFeed : List PlacedLine → Type 0
HaveNoFormFeed placed = list_any (λ line. has_form_feed line.text) placed ≡ false

-- The pages from one to another are the bytes of each of these pages, in order; so a single page is its bytes.
abbrev pub PagesAreTheirBytes : Type 0
PagesAreTheirBytes =
    (placed : List PlacedLine) (long first last : ℕ) → HaveNoFormFeed placed → 1 ≤ first → last ≤ last_page placed
    → chosen_pages first last (Pages placed long) ≡ flat_map (page_bytes placed long) (range_with_len first (last - (first - 1)))

-- The pages up to the last one that has a line are there, and no others.
abbrev pub PagesAreThere : Type 0
PagesAreThere =
    (placed : List PlacedLine) (long number : ℕ) → HaveNoFormFeed placed
    → (has_page number (Pages placed long) ≡ true) ↔ (number ≤ last_page placed)

-- All pages are the whole text.
abbrev pub AllPagesAreTheText : Type 0
AllPagesAreTheText =
    (placed : List PlacedLine) (long last : ℕ) → HaveNoFormFeed placed → last_page placed ≤ last → chosen_pages 1 last (Pages placed long) ≡ Pages placed long
