-- Lines that are taken up one after another.
use Rattle.std.proofs.Common.{◌≡◌, ◌∙◌, ℕ, suc, ◌+◌, ◌<◌, Bool, List, ◌∷◌, ◌++◌, length, drop, get_or, Option, sym, ap, subst, arith, append_assoc}
use Rattle.std.proofs.Math.Seq.{drop-cons}
use Rattle.report_writer.proofs.Sending.{breaks_after, breaks_before, takes_after}
use Rattle.report_writer.specs.Added.{added, added_all, line_after, page_after}
use Rattle.report_writer.specs.Outgoing.{Breaks, Outgoing, TakesUp}
use Rattle.report_writer.specs.Writing.{Writing}
use Rattle.page_text.specs.declared.placed_lines.placed_line.PlacedLine.{PlacedLine}
use Rattle.page_text.specs.PlacedLines.InOrder.{FollowInOrder}

-- The first of some lines are taken up, and the rest follow them in order.
pub record IsAdding {S : Type 0} (held : S → Option (List ℕ)) (lines rest : List PlacedLine) (old now : Writing S) : Type 0 where
  pub bytes : List ℕ
  pub takes : TakesUp held bytes old.out now.out
  pub parts : added_all old.form_lines old.page old.line lines ≡ bytes ++ added_all now.form_lines now.page now.line rest
  pub form : now.form_lines ≡ old.form_lines
  pub page : page_after old.page lines ≡ page_after now.page rest
  pub line : line_after old.line lines ≡ line_after now.line rest
  pub order : FollowInOrder now.form_lines now.page now.line rest

-- the first of the rest, and the others
first_of : (lines : List PlacedLine) (place : ℕ) (none : PlacedLine) → place < length lines
    → drop place lines ≡ get_or lines place none ∷ drop (place + 1) lines
first_of lines place none within =
    let next : suc place ≡ place + 1 = omega arith in
    drop-cons lines place none within ∙ ap (λ n. get_or lines place none ∷ drop n lines) next

module _ {S : Type 0} {held : S → Option (List ℕ)} (lines : List PlacedLine) (place : ℕ) (none : PlacedLine)
    (old now : Writing S) (within : place < length lines) (is : IsAdding held lines (drop place lines) old now) where
  abbrev placed : PlacedLine
  placed = get_or lines place none

  parts_more : added_all old.form_lines old.page old.line lines
      ≡ (is.bytes ++ added now.form_lines now.page now.line placed)
      ++ added_all now.form_lines placed.page placed.line (drop (place + 1) lines)
  parts_more =
      is.parts ∙ ap (λ rest. is.bytes ++ added_all now.form_lines now.page now.line rest) (first_of lines place none within)
      ∙ sym (append_assoc is.bytes (added now.form_lines now.page now.line placed)
      (added_all now.form_lines placed.page placed.line (drop (place + 1) lines)))

  -- a line more
  pub adding_more : (new : Writing S) → TakesUp held (added now.form_lines now.page now.line placed) now.out new.out
      → new.form_lines ≡ now.form_lines → new.page ≡ placed.page → new.line ≡ placed.line
      → IsAdding held lines (drop (place + 1) lines) old new
  adding_more new takes form page line =
      let order = subst (FollowInOrder now.form_lines now.page now.line) (first_of lines place none within) is.order in
      record {
        bytes = is.bytes ++ added now.form_lines now.page now.line placed;
        takes = takes_after is.takes takes;
        parts = parts_more
            ∙ ap (λ t. (is.bytes ++ added now.form_lines now.page now.line placed) ++ t)
            (ap (λ f. added_all f placed.page placed.line (drop (place + 1) lines)) (sym form)
            ∙ ap (λ p. added_all new.form_lines p placed.line (drop (place + 1) lines)) (sym page)
            ∙ ap (λ l. added_all new.form_lines new.page l (drop (place + 1) lines)) (sym line));
        form = form ∙ is.form;
        page = is.page ∙ ap (page_after now.page) (first_of lines place none within)
            ∙ ap (λ p. page_after p (drop (place + 1) lines)) (sym page);
        line = is.line ∙ ap (line_after now.line) (first_of lines place none within)
            ∙ ap (λ l. line_after l (drop (place + 1) lines)) (sym line);
        order = subst (λ f. FollowInOrder f new.page new.line (drop (place + 1) lines)) (sym form)
            (subst (λ p. FollowInOrder now.form_lines p new.line (drop (place + 1) lines)) (sym page)
            (subst (λ l. FollowInOrder now.form_lines placed.page l (drop (place + 1) lines)) (sym line) order.2));
      }

  -- a failure while a line more is taken up
  pub adding_breaks : (has_failed : S → Bool) (new : Outgoing S)
      → Breaks held has_failed (added now.form_lines now.page now.line placed) now.out new
      → Breaks held has_failed (added_all old.form_lines old.page old.line lines) old.out new
  adding_breaks has_failed new breaks =
      subst (λ (bytes : List ℕ). Breaks held has_failed bytes old.out new) (sym parts_more)
      (breaks_before (added_all now.form_lines placed.page placed.line (drop (place + 1) lines)) (breaks_after is.takes breaks))
