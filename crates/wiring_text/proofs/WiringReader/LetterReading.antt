-- Letters are told from how they are spelled, and no point stands in them.
use Rattle.std.proofs.Common.{◌≡◌, ◌≢◌, ℕ, Bool, true, false, not, cond, List, [], ◌∷◌, ◌++◌, Option, Some, None, IfSome, IfNone, refl, ap, sym, ◌∙◌}
use Rattle.std.proofs.lemmas.Option.{same_Some}
use Rattle.std.proofs.lemmas.Slice.Eq.{bytes_eq-Decides}
use Rattle.std.specs.List.{find, list_all}
use Rattle.std.specs.Str.{bytes_eq}
use Rattle.hubs.specs.HubTable.HubTable.{row_of, exit_kinds, entry_kinds}
use Rattle.hubs.specs.declared.hub_table.letters.Letters.{Letters}
use Rattle.hubs.specs.declared.hub_table.letters.Letters.TheVariants.{FR}
use Rattle.wiring_text.specs.WiringReader.Reading.{is_point, letters_spelled}

-- a byte that is no point
abbrev pub no_point : ℕ → Bool
no_point byte = not (is_point byte)

-- letters are read as they are spelled
pub letters_read : (letters : Letters) → letters_spelled (row_of letters).spelled ≡ Some letters
unfolding letters_spelled exit_kinds entry_kinds
letters_read FR = refl
letters_read other = refl

-- no point stands in letters
pub letters_plain : (letters : Letters) → list_all no_point (row_of letters).spelled ≡ true
letters_plain FR = refl
letters_plain other = refl

-- what is found among kinds is spelled so
found_is : (token : List ℕ) (kinds : List Letters) (letters : Letters)
    → find (λ l. bytes_eq (row_of l).spelled token) kinds ≡ Some letters → (row_of letters).spelled ≡ token
found_is token [] letters read = cc
found_is token (kind ∷ kinds) letters read =
    by_test (bytes_eq (row_of kind).spelled token) refl (found_is token kinds letters) read
  where
    by_test : (b : Bool) → bytes_eq (row_of kind).spelled token ≡ b
        → (find (λ l. bytes_eq (row_of l).spelled token) kinds ≡ Some letters → (row_of letters).spelled ≡ token)
        → cond b (Some kind) (find (λ l. bytes_eq (row_of l).spelled token) kinds) ≡ Some letters
        → (row_of letters).spelled ≡ token
    by_test true e others r = ap (λ l. (row_of l).spelled) (sym (same_Some kind letters r))
        ∙ (bytes_eq-Decides (row_of kind).spelled token).0 e
    by_test false e others r = others r

pub letters_is : (token : List ℕ) (letters : Letters) → letters_spelled token ≡ Some letters → (row_of letters).spelled ≡ token
unfolding letters_spelled
letters_is token letters read = found_is token (exit_kinds ++ entry_kinds) letters read

-- the letters that are answered
pub letters_answered : (token : List ℕ) (answer : Option Letters) → IfSome answer (λ letters. (row_of letters).spelled ≡ token)
    → IfNone answer ((letters : Letters) → (row_of letters).spelled ≢ token) → letters_spelled token ≡ answer
letters_answered token (Some letters) is none = ap letters_spelled (sym is) ∙ letters_read letters
letters_answered token None is none = by_letters (letters_spelled token) refl
  where
    by_letters : (o : Option Letters) → letters_spelled token ≡ o → letters_spelled token ≡ None
    by_letters None e = e
    by_letters (Some letters) e = absurd (none letters (letters_is token letters e))
