-- What the end of a cycle makes of the carriage's place.
use Rattle.std.proofs.Common.{◌≡◌, ℕ, ◌+◌, ◌-◌, ◌^◌, ◌<◌, ◌≤◌, ◌⊎◌, inl, inr, Bool, true, false, nat_le, nat_lt, List, [], ◌∷◌, ◌++◌, Option, Some, None, ⊎_elim, refl, ◌∙◌, arith}
use Rattle.std.proofs.lemmas.Bool.Decides.{nat_tests}
use Rattle.std.proofs.lemmas.Bool.{or_parts}
use Rattle.carriage.proofs.Descents.{down_by-on_form, down_by-to_next}
use Rattle.carriage.proofs.StopSteps.{next_stop-tells}
use Rattle.carriage.specs.Carriage.{CarriageState, carriage_ended, moved, spaced, placed}
use Rattle.page_text.specs.PlacedLines.InOrder.{IsAfter, FollowInOrder}
use Rattle.carriage.specs.Moves.{down_by, next_page, next_stop, skipped, skipped_to, restored, latched, at_first_line}
use Rattle.page_text.specs.declared.placed_lines.placed_line.PlacedLine.{PlacedLine}
use Rattle.carriage.specs.declared.spot.Spot.{Spot}
use Rattle.hubs.specs.SetupsWords.Tapes.{CarriageTape, IsCarriageTape}
use Rattle.net.specs.Printing.{prints}
use Rattle.net.specs.declared.cycle.Cycle.{Cycle}
use Rattle.net.specs.declared.cycle.Cycle.TheVariants.{RunIn, Card, Prog, Head}
use Rattle.net.specs.declared.cycle.Ordinal.TheVariants.{First, Second, Third}
use Rattle.machine.specs.Cycles.{line_at}
use Rattle.machine.specs.Keeps.{AsksLines}

-- A move: at most to the next page, never back, and to a line of the form.
pub record Moves (form : CarriageTape) (old new : Spot) : Type 0 where
  pub page_from : old.page ≤ new.page
  pub page_to : new.page ≤ old.page + 1
  pub not_back : old.page ≡ new.page → old.line ≤ new.line
  pub inside : new.line ≤ form.lines
  pub latch : new.latch ≡ false → (old.latch ≡ false) ⊎ (1 ≤ new.page)

-- A move down: to a later place.
pub record MovesDown (form : CarriageTape) (old new : Spot) : Type 0 where
  pub moves : Moves form old new
  pub line : 1 ≤ new.line
  pub down : old.page ≡ new.page → old.line < new.line

next_page-up : (page : ℕ) → page < 2 ^ 32 → next_page page ≡ page + 1
next_page-up page below = grind (arith, nat_tests)

-- down by one to three lines
down_by-moves : (form : CarriageTape) (spot : Spot) (lines : ℕ) → IsCarriageTape form → AsksLines lines → spot.line ≤ form.lines
    → spot.page < 2 ^ 32 → MovesDown form spot (down_by form lines spot)
down_by-moves form spot lines is_form asks inside below = by (nat_le (spot.line + lines) form.lines) refl
  where
    by : (stays : Bool) → nat_le (spot.line + lines) form.lines ≡ stays → MovesDown form spot (down_by form lines spot)
    by true is =
        let fits : spot.line + lines ≤ form.lines = grind (arith, nat_tests) in
        rw (down_by-on_form form spot lines fits)
        (record {
          moves = record {
            page_from = omega arith;
            page_to = omega arith;
            not_back = λ same. omega arith;
            inside = fits;
            latch = λ reset. inl (or_parts spot.latch _ reset).0;
          };
          line = omega (arith, asks.from);
          down = λ same. omega (arith, asks.from);
        })
    by false is =
        let passes : form.lines < spot.line + lines = grind (arith, nat_tests) in
        let three : lines ≤ form.lines = omega (arith, asks.to, is_form.formed.lines_from) in
        let up = next_page-up spot.page below in
        rw (down_by-to_next form spot lines is_form inside passes three)
        (record {
          moves = record {
            page_from = omega (arith, up);
            page_to = omega (arith, up);
            not_back = λ same. absurd (omega (arith, up, same));
            inside = omega (arith, inside, three);
            latch = λ reset. inl (or_parts spot.latch _ reset).0;
          };
          line = omega (arith, passes);
          down = λ same. absurd (omega (arith, up, same));
        })

stays : (form : CarriageTape) (spot : Spot) → spot.line ≤ form.lines → Moves form spot spot
stays form spot inside = record {
  page_from = omega arith;
  page_to = omega arith;
  not_back = λ same. omega arith;
  inside = inside;
  latch = λ reset. inl reset;
}

-- a skip stays on its page
record Skips (form : CarriageTape) (old new : Spot) : Type 0 where
  page : new.page ≡ old.page
  line : old.line ≤ new.line
  inside : new.line ≤ form.lines
  latch : new.latch ≡ false → old.latch ≡ false

set_latch : (form : CarriageTape) (spot : Spot) → spot.line ≤ form.lines → Skips form spot (latched spot)
set_latch form spot inside = record { page = refl; line = omega arith; inside = inside; latch = λ reset. cc }

skipped-skips : (form : CarriageTape) (channel : Option ℕ) (spot : Spot) → spot.line ≤ form.lines
    → Skips form spot (skipped form channel spot)
skipped-skips form None spot inside = record { page = refl; line = omega arith; inside = inside; latch = λ reset. reset }
skipped-skips form (Some channel) spot inside = by (next_stop form channel spot.line) refl
  where
    by : (stop : Option ℕ) → next_stop form channel spot.line ≡ stop → Skips form spot (skipped_to form stop spot)
    by None is = set_latch form spot inside
    by (Some stop) is =
        let next = (next_stop-tells form channel spot.line stop).0 is in
        let to : spot.line + (stop - spot.line) ≡ stop = omega (arith, next.below) in
        rw (down_by-on_form form spot (stop - spot.line) (omega (arith, to, next.on_form)))
        (record {
          page = refl;
          line = omega arith;
          inside = omega (arith, to, next.on_form);
          latch = λ reset. (or_parts spot.latch _ reset).0;
        })

restored-skips : (form : CarriageTape) (restore : Bool) (spot : Spot) → spot.line ≤ form.lines → Skips form spot (restored restore spot)
restored-skips form true spot inside = set_latch form spot inside
restored-skips form false spot inside = record { page = refl; line = omega arith; inside = inside; latch = λ reset. reset }

-- what follows the first move
after-skips : (form : CarriageTape) (channel : Option ℕ) (restore : Bool) (spot : Spot) → spot.line ≤ form.lines
    → Skips form spot (restored restore (skipped form channel spot))
after-skips form channel restore spot inside =
    let first = skipped-skips form channel spot inside in
    let second = restored-skips form restore (skipped form channel spot) first.inside in
    record {
      page = second.page ∙ first.page;
      line = omega (arith, first.line, second.line);
      inside = second.inside;
      latch = λ reset. first.latch (second.latch reset);
    }

-- a place that is not before another
not_before : (p l q m r n : ℕ) → p ≤ q → (p ≡ q → l ≤ m) → IsAfter q m r n → IsAfter p l r n
not_before p l q m r n pages lines (inl after) = inl (omega (arith, pages, after))
not_before p l q m r n pages lines (inr after) = by (nat_lt p q) refl
  where
    by : (earlier : Bool) → nat_lt p q ≡ earlier → IsAfter p l r n
    by true is = inl (grind (arith, nat_tests))
    by false is =
        let same : p ≡ q = grind (arith, nat_tests) in
        let line = lines same in
        inr (omega (arith, same, after.0), omega (arith, line, after.1))

-- lines that follow a place follow each place that is not after it
pub follow-earlier : (form_lines page line later_page later_line : ℕ) (lines : List PlacedLine)
    → page ≤ later_page → (page ≡ later_page → line ≤ later_line)
    → FollowInOrder form_lines later_page later_line lines → FollowInOrder form_lines page line lines
follow-earlier form_lines page line later_page later_line [] pages not_back follow = tt
follow-earlier form_lines page line later_page later_line (placed ∷ others) pages not_back (next, on_form, follow) =
    (not_before page line later_page later_line placed.page placed.line pages not_back next, on_form, follow)

-- The first move at the end of a cycle, and the line that is placed there.
record FirstMove (form : CarriageTape) (cycle : Cycle) (printing : Bool) (old mid : Spot) : Type 0 where
  moves : Moves form old mid
  places :
      (text : List ℕ) (others : List PlacedLine) → FollowInOrder form.lines mid.page mid.line others
      → FollowInOrder form.lines old.page old.line (line_at (placed printing mid) text ++ others)
  turned : cycle ≡ Head First → old.page < mid.page

after-down : (form : CarriageTape) (old new : Spot) → MovesDown form old new → IsAfter old.page old.line new.page new.line
after-down form old new moves = by (nat_lt old.page new.page) refl
  where
    by : (earlier : Bool) → nat_lt old.page new.page ≡ earlier → IsAfter old.page old.line new.page new.line
    by true is = inl (grind (arith, nat_tests))
    by false is =
        let from = moves.moves.page_from in
        let same : old.page ≡ new.page = grind (arith, nat_tests, from) in
        inr (same, moves.down same)

spaced-first : (form : CarriageTape) (cycle : Cycle) (printing : Bool) (lines : ℕ) (spot : Spot)
    → IsCarriageTape form → AsksLines lines → spot.line ≤ form.lines → spot.page < 2 ^ 32 → (cycle ≡ Head First → ⊥)
    → (printing ≡ true → 1 ≤ spot.page) → FirstMove form cycle printing spot (spaced form printing lines spot)
spaced-first form cycle true lines spot is_form asks inside below other on_page =
    let down = down_by-moves form spot lines is_form asks inside below in
    let page = on_page refl in
    record {
      moves = down.moves;
      places = λ text others follow. (
        after-down form spot (down_by form lines spot) down,
        record {
          page_from = omega (arith, page, down.moves.page_from);
          page_to = omega (arith, below, down.moves.page_to);
          line_from = down.line;
          line_to = down.moves.inside;
        },
        follow,
      );
      turned = λ is. absurd (other is);
    }
spaced-first form cycle false lines spot is_form asks inside below other on_page = record {
  moves = stays form spot inside;
  places = λ text others follow. follow;
  turned = λ is. absurd (other is);
}

first_line-first : (form : CarriageTape) (printing : Bool) (spot : Spot) → IsCarriageTape form → spot.page < 2 ^ 32
    → FirstMove form (Head First) printing spot (at_first_line form spot)
first_line-first form printing spot is_form below =
    let up = next_page-up spot.page below in
    record {
      moves = record {
        page_from = omega (arith, up);
        page_to = omega (arith, up);
        not_back = λ same. absurd (omega (arith, up, same));
        inside = is_form.formed.first_to;
        latch = λ reset. inr (omega (arith, up));
      };
      places = λ text others follow. by printing text others follow up;
      turned = λ is. omega (arith, up);
    }
  where
    by : (p : Bool) (text : List ℕ) (others : List PlacedLine)
        → FollowInOrder form.lines (next_page spot.page) form.first others → next_page spot.page ≡ spot.page + 1
        → FollowInOrder form.lines spot.page spot.line (line_at (placed p (at_first_line form spot)) text ++ others)
    by true text others follow up = (
      inl (omega (arith, up)),
      record {
        page_from = omega (arith, up);
        page_to = omega (arith, up, below);
        line_from = is_form.formed.first_from;
        line_to = is_form.formed.first_to;
      },
      follow,
    )
    by false text others follow up =
        follow-earlier form.lines spot.page spot.line (next_page spot.page) form.first others (omega (arith, up))
        (λ same. absurd (omega (arith, up, same))) follow

moved-first : (form : CarriageTape) (cycle : Cycle) (printing : Bool) (lines : ℕ) (spot : Spot)
    → IsCarriageTape form → AsksLines lines → spot.line ≤ form.lines → spot.page < 2 ^ 32
    → (printing ≡ true → (cycle ≡ Head First) ⊎ (1 ≤ spot.page))
    → FirstMove form cycle printing spot (moved form cycle printing lines spot)
moved-first form RunIn printing lines spot is_form asks inside below on_page =
    spaced-first form RunIn printing lines spot is_form asks inside below (λ is. cc)
    (λ on. ⊎_elim (λ (is : RunIn ≡ Head First). cc) (λ (page : 1 ≤ spot.page). page) (on_page on))
moved-first form Card printing lines spot is_form asks inside below on_page =
    spaced-first form Card printing lines spot is_form asks inside below (λ is. cc)
    (λ on. ⊎_elim (λ (is : Card ≡ Head First). cc) (λ (page : 1 ≤ spot.page). page) (on_page on))
moved-first form (Prog level ordinal) printing lines spot is_form asks inside below on_page =
    spaced-first form (Prog level ordinal) printing lines spot is_form asks inside below (λ is. cc)
    (λ on. ⊎_elim (λ (is : Prog level ordinal ≡ Head First). cc) (λ (page : 1 ≤ spot.page). page) (on_page on))
moved-first form (Head First) printing lines spot is_form asks inside below on_page =
    first_line-first form printing spot is_form below
moved-first form (Head Second) printing lines spot is_form asks inside below on_page =
    spaced-first form (Head Second) printing lines spot is_form asks inside below (λ is. cc)
    (λ on. ⊎_elim (λ (is : Head Second ≡ Head First). cc) (λ (page : 1 ≤ spot.page). page) (on_page on))
moved-first form (Head Third) printing lines spot is_form asks inside below on_page =
    spaced-first form (Head Third) printing lines spot is_form asks inside below (λ is. cc)
    (λ on. ⊎_elim (λ (is : Head Third ≡ Head First). cc) (λ (page : 1 ≤ spot.page). page) (on_page on))

-- What the end of a cycle makes of the lines that follow: its own line first, then those after the new place.
pub record Ended (cycle : Cycle) (old new : CarriageState) : Type 0 where
  pub moves : Moves old.form old.spot new.spot
  pub places :
      (text : List ℕ) (others : List PlacedLine)
      → FollowInOrder old.form.lines new.spot.page new.spot.line others
      → FollowInOrder old.form.lines old.spot.page old.spot.line (line_at new.printed text ++ others)
  pub turned : cycle ≡ Head First → old.spot.page < new.spot.page

pub carriage_ended-ends : (carriage : CarriageState) (cycle : Cycle)
    → IsCarriageTape carriage.form → AsksLines carriage.asked.lines → carriage.spot.line ≤ carriage.form.lines
    → carriage.spot.page < 2 ^ 32
    → (prints carriage.printing cycle ≡ true → (cycle ≡ Head First) ⊎ (1 ≤ carriage.spot.page))
    → Ended cycle carriage (carriage_ended carriage cycle)
carriage_ended-ends carriage cycle is_form asks inside below on_page =
    let form = carriage.form in
    let printing = prints carriage.printing cycle in
    let mid = moved form cycle printing carriage.asked.lines carriage.spot in
    let first = moved-first form cycle printing carriage.asked.lines carriage.spot is_form asks inside below on_page in
    let skips = after-skips form carriage.asked.channel carriage.asked.restore mid first.moves.inside in
    record {
      moves = record {
        page_from = omega (arith, first.moves.page_from, skips.page);
        page_to = omega (arith, first.moves.page_to, skips.page);
        not_back = λ same.
            let line = first.moves.not_back (same ∙ skips.page) in omega (arith, line, skips.line);
        inside = skips.inside;
        latch = λ reset.
            ⊎_elim (λ (old : carriage.spot.latch ≡ false). inl old) (λ (page : 1 ≤ mid.page). inr (omega (arith, page, skips.page)))
            (first.moves.latch (skips.latch reset));
      };
      places = λ text others follow.
          first.places text others
          (follow-earlier form.lines mid.page mid.line
          (restored carriage.asked.restore (skipped form carriage.asked.channel mid)).page
          (restored carriage.asked.restore (skipped form carriage.asked.channel mid)).line others
          (omega (arith, skips.page)) (λ same. skips.line) follow);
      turned = λ is. let turns = first.turned is in omega (arith, turns, skips.page);
    }
