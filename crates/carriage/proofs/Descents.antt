-- Where so many lines down lead.
use Rattle.std.proofs.Common.{◌≡◌, ◌≢◌, ◌∙◌, ℕ, zero, suc, ◌+◌, ◌-◌, ◌<◌, ◌≤◌, ◌==◌, ◌&&◌, ◌||◌, ◌⊎◌, inl, inr, nat_le, nat_lt, Bool, true, false, refl, ap, arith}
use Rattle.std.proofs.lemmas.Bool.Decides.{eqb_tells, nat_tests}
use Rattle.hubs.specs.SetupsWords.Tapes.{CarriageTape, IsCarriageTape}
use Rattle.carriage.specs.Moves.{down, down_by, come_to, next_page}
use Rattle.carriage.specs.declared.spot.Spot.{Spot}

-- one line down where this form has one more
down-on_form : (form : CarriageTape) (page line next : ℕ) (latch : Bool) → next ≡ line + 1 → line < form.lines
    → down form (record { page = page; line = line; latch = latch }) ≡ come_to form page next latch
down-on_form form page line next latch is_next below =
    let test : nat_lt line form.lines ≡ true = grind (arith, nat_tests, below) in
    rw (test, is_next) refl

-- the overflow line is noticed at the line itself, or was before
latch-more : (latch : Bool) (from to next overflow : ℕ) → next ≡ to + 1 → from ≤ to
    → ((latch || (nat_lt from overflow && nat_le overflow to)) || (next == overflow)) ≡ (latch || (nat_lt from overflow && nat_le overflow next))
latch-more true from to next overflow is_next low = grind (arith, nat_tests)
latch-more false from to next overflow is_next low = grind (arith, nat_tests, is_next, low)

-- no line down notices nothing
latch-none : (latch : Bool) (line overflow : ℕ) → latch ≡ (latch || (nat_lt line overflow && nat_le overflow (line + 0)))
latch-none true line overflow = grind (arith, nat_tests)
latch-none false line overflow = grind (arith, nat_tests)

-- down by lines that this form still has
pub down_by-on_form : (form : CarriageTape) (spot : Spot) (lines : ℕ) → spot.line + lines ≤ form.lines
    → down_by form lines spot
    ≡ record {
      page = spot.page;
      line = spot.line + lines;
      latch = spot.latch || (nat_lt spot.line form.overflow && nat_le form.overflow (spot.line + lines));
    }
down_by-on_form form spot zero fits =
    let same : spot.line ≡ spot.line + 0 = omega arith in
    ap (λ n. record { page = spot.page; line = n; latch = spot.latch }) same
    ∙ ap (λ b. record { page = spot.page; line = spot.line + 0; latch = b }) (latch-none spot.latch spot.line form.overflow)
down_by-on_form form spot (suc lines) fits =
    let before = down_by-on_form form spot lines (omega (arith, fits)) in
    let next : spot.line + suc lines ≡ spot.line + lines + 1 = omega arith in
    let noticed = spot.latch || (nat_lt spot.line form.overflow && nat_le form.overflow (spot.line + lines)) in
    ap (down form) before
    ∙ down-on_form form spot.page (spot.line + lines) (spot.line + suc lines) noticed next (omega (arith, fits))
    ∙ ap (λ b. record { page = spot.page; line = spot.line + suc lines; latch = b }) (latch-more spot.latch spot.line (spot.line + lines) (spot.line + suc lines) form.overflow next (omega arith))

-- one line down from the last line
down-to_next : (form : CarriageTape) (page line : ℕ) (latch : Bool) → line ≡ form.lines
    → down form (record { page = page; line = line; latch = latch }) ≡ come_to form (next_page page) 1 latch
down-to_next form page line latch last =
    let test : nat_lt line form.lines ≡ false = grind (arith, nat_tests, last) in
    rw test refl

-- the overflow line was noticed on the form, or is line 1
latch-first : (latch : Bool) (from last overflow : ℕ) → 1 ≤ overflow → overflow ≤ last
    → ((latch || (nat_lt from overflow && nat_le overflow last)) || (1 == overflow)) ≡ (latch || (nat_lt from overflow || nat_le overflow 1))
latch-first true from last overflow low high = grind (arith, nat_tests)
latch-first false from last overflow low high =
    let on : nat_le overflow last ≡ true = grind (arith, nat_tests, high) in
    rw on (grind (arith, nat_tests, low))

-- the overflow line was noticed on the form or on the next page before, or is the line
latch-next : (latch : Bool) (from to next overflow : ℕ) → next ≡ to + 1
    → ((latch || (nat_lt from overflow || nat_le overflow to)) || (next == overflow)) ≡ (latch || (nat_lt from overflow || nat_le overflow next))
latch-next true from to next overflow is_next = grind (arith, nat_tests)
latch-next false from to next overflow is_next = grind (arith, nat_tests, is_next)

-- down past the last line, but not through a whole form
pub down_by-to_next : (form : CarriageTape) (spot : Spot) (lines : ℕ)
    → IsCarriageTape form → spot.line ≤ form.lines → form.lines < spot.line + lines → lines ≤ form.lines
    → down_by form lines spot
    ≡ record {
      page = next_page spot.page;
      line = spot.line + lines - form.lines;
      latch = spot.latch || (nat_lt spot.line form.overflow || nat_le form.overflow (spot.line + lines - form.lines));
    }
down_by-to_next form spot zero is_form on_form past short = absurd (omega (arith, on_form, past))
down_by-to_next form spot (suc lines) is_form on_form past short =
    by (λ more. down_by-to_next form spot lines is_form on_form more (omega (arith, short))) (eqb_tells (spot.line + lines) form.lines)
  where
    by : (form.lines < spot.line + lines
        → down_by form lines spot
        ≡ record {
          page = next_page spot.page;
          line = spot.line + lines - form.lines;
          latch = spot.latch || (nat_lt spot.line form.overflow || nat_le form.overflow (spot.line + lines - form.lines));
        })
        → ((spot.line + lines == form.lines) ≡ true) × (spot.line + lines ≡ form.lines)
        ⊎ ((spot.line + lines == form.lines) ≡ false) × (spot.line + lines ≢ form.lines)
        → down_by form (suc lines) spot
        ≡ record {
          page = next_page spot.page;
          line = spot.line + suc lines - form.lines;
          latch = spot.latch || (nat_lt spot.line form.overflow || nat_le form.overflow (spot.line + suc lines - form.lines));
        }
    by before (inl last) =
        let at_last = last.1 in
        let low = is_form.formed.overflow_from in
        let high = is_form.formed.overflow_to in
        let first : spot.line + suc lines - form.lines ≡ 1 = omega (arith, at_last) in
        let noticed = spot.latch || (nat_lt spot.line form.overflow && nat_le form.overflow (spot.line + lines)) in
        ap (down form) (down_by-on_form form spot lines (omega (arith, at_last)))
        ∙ down-to_next form spot.page (spot.line + lines) noticed at_last
        ∙ rw first (ap (λ b. record { page = next_page spot.page; line = 1; latch = b }) (latch-first spot.latch spot.line (spot.line + lines) form.overflow low (omega (arith, at_last, high))))
    by before (inr others) =
        let apart = others.1 in
        let to = spot.line + lines - form.lines in
        let next : spot.line + suc lines - form.lines ≡ spot.line + lines - form.lines + 1 = omega (arith, past, apart) in
        let noticed = spot.latch || (nat_lt spot.line form.overflow || nat_le form.overflow (spot.line + lines - form.lines)) in
        ap (down form) (before (omega (arith, past, apart)))
        ∙ down-on_form form (next_page spot.page) (spot.line + lines - form.lines) (spot.line + suc lines - form.lines) noticed next (omega (arith, on_form, short, past, apart))
        ∙ ap (λ b. record { page = next_page spot.page; line = spot.line + suc lines - form.lines; latch = b }) (latch-next spot.latch spot.line (spot.line + lines - form.lines) (spot.line + suc lines - form.lines) form.overflow next)
