-- What is written so far of the pages of some lines: all up to the last line, with its LF, and nothing where there is none.
use Rattle.std.specs.Prelude.{ℕ, ◌-◌, List, ◌++◌}
use Rattle.std.specs.List.{range_with_len, flat_map}
use Rattle.page_text.specs.Pages.{page_bytes, line_bytes, last_page}
use Rattle.report_writer.specs.Added.{line_after}
use Rattle.page_text.specs.declared.placed_lines.placed_line.PlacedLine.{PlacedLine}

-- the bytes of all pages before one, and of its first lines
unfoldable pub bytes_to : List PlacedLine → (form_lines page lines : ℕ) → List ℕ
bytes_to placed form_lines page lines =
    flat_map (page_bytes placed form_lines) (range_with_len 1 (page - 1)) ++ flat_map (line_bytes placed page) (range_with_len 1 lines)

-- what is written so far
abbrev pub Open : List PlacedLine → (form_lines : ℕ) → List ℕ
Open placed form_lines = bytes_to placed form_lines (last_page placed) (line_after 0 placed)
