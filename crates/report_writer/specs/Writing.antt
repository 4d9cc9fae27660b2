-- A writer of pages.
use Rattle.std.specs.Prelude.{◌≡◌, ℕ, ◌+◌, ◌*◌, ◌^◌, ◌<◌, ◌≤◌, false}
use Rattle.report_writer.specs.Outgoing.{Outgoing, total}

-- what goes out, the lines of a form, and the place of the last line
pub record Writing (S : Type 0) : Type 0 where
  pub out : Outgoing S
  pub form_lines : ℕ
  pub page : ℕ
  pub line : ℕ

-- The place is on the form, and so few bytes were taken up that their number has 64 bits: fewer than 20,000 for a page and 130 for a line.
pub record HasPlace {S : Type 0} (out : Outgoing S) (form_lines page line : ℕ) : Type 0 where
  pub form : form_lines ≤ 144
  pub page_from : 1 ≤ page
  pub page_to : page ≤ 2 ^ 32 + 1
  pub begun : 0 < line → page ≤ 2 ^ 32
  pub line_to : line ≤ form_lines
  pub few : out.has_failed ≡ false → total out ≤ 20000 * page + 130 * line
