-- The lines that are told of as cards which are too long, one after the other.
use Rattle.std.proofs.Common.{◌≡◌, ℕ, ◌+◌, ◌<◌, ◌≤◌, suc, zero, Bool, true, false, cond, Option, List, [], ◌∷◌, ◌++◌, length, take, refl, subst, arith, nat_lt}
use Rattle.std.proofs.KnownBytes.{Appends-nil, Appends-trans}
use Rattle.std.proofs.lemmas.Bool.Decides.{nat_tests}
use Rattle.std.specs.Io.KnownBytes.{Appends}
use Rattle.fault_lines.specs.FaultsWords.Lines.{fault_line}
use Rattle.fault_lines.specs.declared.faults.fault.Fault.TheVariants as fault
use Rattle.cli_decks.specs.FoldingWords.FoldCalls.LongCards.{long_cards}

-- Of so many lines, of which the first has this number, all is told that is wanted, if the rest of them is told.
abbrev pub LeavesToTell : (old now : Option (List ℕ)) (whole : List ℕ) (number left : ℕ) (lines : List (List ℕ)) → Type 0
LeavesToTell old now whole number left lines =
    (end : Option (List ℕ)) → Appends now end (long_cards number (take left lines)) → Appends old end whole

module _ (old now : Option (List ℕ)) (whole : List ℕ) (number : ℕ) where
  -- no line is left
  pub told-at_end : (left : ℕ) → LeavesToTell old now whole number left [] → Appends old now whole
  told-at_end zero tells = tells now (Appends-nil now)
  told-at_end (suc left) tells = tells now (Appends-nil now)

  -- no more lines are looked at
  pub told-of_most : (left : ℕ) (lines : List (List ℕ)) → left ≡ 0 → LeavesToTell old now whole number left lines → Appends old now whole
  told-of_most zero lines none tells = tells now (Appends-nil now)
  told-of_most (suc left) lines none tells = absurd (omega (arith, none))

  module _ (left after : ℕ) (line : List ℕ) (lines : List (List ℕ)) (one_more : left ≡ suc after)
      (tells : LeavesToTell old now whole number left (line ∷ lines)) where
    tells_of_both : (end : Option (List ℕ)) → Appends now end (long_cards number (line ∷ take after lines)) → Appends old end whole
    tells_of_both = subst (λ n. LeavesToTell old now whole number n (line ∷ lines)) one_more tells

    -- a line that is too long was told
    pub told-long : (next : Option (List ℕ)) → 80 < length line → Appends now next (fault_line (fault.Card 1 number))
        → LeavesToTell old next whole (number + 1) after lines
    told-long next long told end others =
        tells_of_both end (by (nat_lt 80 (length line)) refl)
      where
        by : (is_long : Bool) → nat_lt 80 (length line) ≡ is_long
            → Appends now end (cond is_long (fault_line (fault.Card 1 number) ++ long_cards (number + 1) (take after lines))
            (long_cards (number + 1) (take after lines)))
        by true is = Appends-trans now next end _ _ told others
        by false is =
            let short : length line ≤ 80 = grind (arith, nat_tests) in
            absurd (omega (arith, short, long))

    -- a line that fits was passed
    pub passed-short : length line ≤ 80 → LeavesToTell old now whole (number + 1) after lines
    passed-short short end others =
        tells_of_both end (by (nat_lt 80 (length line)) refl)
      where
        by : (is_long : Bool) → nat_lt 80 (length line) ≡ is_long
            → Appends now end (cond is_long (fault_line (fault.Card 1 number) ++ long_cards (number + 1) (take after lines))
            (long_cards (number + 1) (take after lines)))
        by true is =
            let long : 80 < length line = grind (arith, nat_tests) in
            absurd (omega (arith, short, long))
        by false is = others
