-- The kinds of hubs follow one another in the hub table.
use Rattle.std.proofs.Common.{◌≡◌, ◌⊎◌, ⊎_elim, inl, inr, refl, sym, ap, ◌∙◌, arith, ℕ, ◌+◌, ◌<◌, ◌≤◌, zero, suc, ◌==◌}
use Rattle.std.proofs.Common.{Bool, true, false, cond, ◌&&◌, List, [], ◌∷◌, ◌++◌, Option, Some, None, Contains}
use Rattle.std.proofs.lemmas.Bool.{and_parts, eqb-true}
use Rattle.std.proofs.lemmas.Bool.Decides.{nat_tests}
use Rattle.std.specs.Prelude.{if◌then◌else◌, nat_le, IfNone, All}
use Rattle.std.proofs.lemmas.List.Elements.{All-contains, All-from_recursion}
use Rattle.std.specs.Str.{bytes_eq}
use Rattle.hubs.specs.HubTable.HubTable.{row_of, is_unbroken, HasNumber, exit_kinds, entry_kinds}
use Rattle.hubs.specs.HubTable.Places.{count_of}
use Rattle.hubs.proofs.HubTable.PlaceLemmas.{has_small_lasts}
use Rattle.hubs.specs.declared.hub_table.letters.Letters.{Letters}
use Rattle.hubs.specs.declared.hub_table.letters.Letters.TheVariants.{FR, SR, CX, GX, CO, BAN, BAT, PIN, PIT, SX, IX, CSD, CSZ, EM, CC, PX, HX, CA, CB, GE, PL, MI, RO, BT, CI, BAC, PIC, PIX, SE, SI, SO, IE, CSE, W, ST, SP, SK, RS}

-- an element of a list is its first, or one of the others
pub first_or_other : {X : Type 0} (y : X) (xs : List X) (x : X) → Contains (y ∷ xs) x → (x ≡ y) ⊎ Contains xs x
first_or_other y xs x (zero, within, is) = inl (sym is)
first_or_other y xs x (suc k, within, is) = inr (k, omega arith, is)

-- the kinds of an unbroken list stand after those before the list
stands_after : (from to : ℕ) (kinds : List Letters) → is_unbroken from to kinds ≡ true → (one : Letters)
    → Contains kinds one → from ≤ (row_of one).before
stands_after from to [] unbroken one (k, within, is) = absurd (omega arith)
stands_after from to (first ∷ others) unbroken one listed =
    let parts = and_parts ((row_of first).before == from) _ unbroken in
    let starts : (row_of first).before ≡ from = eqb-true _ _ parts.0 in
    ⊎_elim
    (λ (here : one ≡ first). rw here (omega (arith, starts)))
    (λ later. let after = stands_after (from + count_of (row_of first).shape) to others parts.1 one later in omega (arith, after))
    (first_or_other first others one listed)

-- a number is of one kind of an unbroken list
one_of_list : (from to : ℕ) (kinds : List Letters) → is_unbroken from to kinds ≡ true → (one other : Letters) (n : ℕ)
    → Contains kinds one → Contains kinds other → HasNumber one n → HasNumber other n → one ≡ other
one_of_list from to [] unbroken one other n (k, within, is) and_listed has and_has = absurd (omega arith)
one_of_list from to (first ∷ others) unbroken one other n listed and_listed has and_has =
    let parts = and_parts ((row_of first).before == from) _ unbroken in
    let starts : (row_of first).before ≡ from = eqb-true _ _ parts.0 in
    let after : (kind : Letters) → Contains others kind → from + count_of (row_of first).shape ≤ (row_of kind).before =
    λ kind later. stands_after (from + count_of (row_of first).shape) to others parts.1 kind later in
    ⊎_elim
    (λ (here : one ≡ first).
    ⊎_elim
    (λ (too : other ≡ first). here ∙ sym too)
    (λ later. let has_first : HasNumber first n = rw here at has in absurd (omega (arith, after other later, has_first, and_has, starts)))
    (first_or_other first others other and_listed))
    (λ later.
    ⊎_elim
    (λ (too : other ≡ first). let has_first : HasNumber first n = rw too at and_has in absurd (omega (arith, after one later, has_first, has, starts)))
    (λ (too : Contains others other).
    one_of_list (from + count_of (row_of first).shape) to others parts.1 one other n later too has and_has)
    (first_or_other first others other and_listed))
    (first_or_other first others one listed)

-- each number of an unbroken list is of a kind
some_of_list : (from to : ℕ) (kinds : List Letters) → is_unbroken from to kinds ≡ true → (n : ℕ) → from < n → n ≤ to
    → (letters : Letters) × HasNumber letters n
some_of_list from to [] unbroken n after within =
    let ends : from ≡ to = eqb-true from to unbroken in absurd (omega (arith, ends))
some_of_list from to (first ∷ others) unbroken n after within =
    let parts = and_parts ((row_of first).before == from) _ unbroken in
    let starts : (row_of first).before ≡ from = eqb-true _ _ parts.0 in
    ⊎_elim
    (λ (here : n ≤ from + count_of (row_of first).shape). (first, (omega (arith, starts), omega (arith, starts))))
    (λ (later : from + count_of (row_of first).shape < n).
    some_of_list (from + count_of (row_of first).shape) to others parts.1 n later within)
    (le_or_lt n (from + count_of (row_of first).shape))
  where
    le_or_lt : (a b : ℕ) → (a ≤ b) ⊎ (b < a)
    le_or_lt a b = grind arith

-- the kind of a list that is written so
abbrev kind_spelled : List ℕ → List Letters → Option Letters
kind_spelled token [] = None
kind_spelled token (first ∷ others) =
    cond (bytes_eq (row_of first).spelled token) (Some first) (kind_spelled token others)

-- the table has a row for each kind
pub is_listed : (letters : Letters) → Contains (exit_kinds ++ entry_kinds) letters
unfolding exit_kinds entry_kinds
is_listed FR = (0, omega arith, refl)
is_listed SR = (1, omega arith, refl)
is_listed CX = (2, omega arith, refl)
is_listed GX = (3, omega arith, refl)
is_listed CO = (4, omega arith, refl)
is_listed BAN = (5, omega arith, refl)
is_listed BAT = (6, omega arith, refl)
is_listed PIN = (7, omega arith, refl)
is_listed PIT = (8, omega arith, refl)
is_listed SX = (9, omega arith, refl)
is_listed IX = (10, omega arith, refl)
is_listed CSD = (11, omega arith, refl)
is_listed CSZ = (12, omega arith, refl)
is_listed EM = (13, omega arith, refl)
is_listed CC = (14, omega arith, refl)
is_listed PX = (15, omega arith, refl)
is_listed HX = (16, omega arith, refl)
is_listed CA = (17, omega arith, refl)
is_listed CB = (18, omega arith, refl)
is_listed GE = (19, omega arith, refl)
is_listed PL = (20, omega arith, refl)
is_listed MI = (21, omega arith, refl)
is_listed RO = (22, omega arith, refl)
is_listed BT = (23, omega arith, refl)
is_listed CI = (24, omega arith, refl)
is_listed BAC = (25, omega arith, refl)
is_listed PIC = (26, omega arith, refl)
is_listed PIX = (27, omega arith, refl)
is_listed SE = (28, omega arith, refl)
is_listed SI = (29, omega arith, refl)
is_listed SO = (30, omega arith, refl)
is_listed IE = (31, omega arith, refl)
is_listed CSE = (32, omega arith, refl)
is_listed W = (33, omega arith, refl)
is_listed ST = (34, omega arith, refl)
is_listed SP = (35, omega arith, refl)
is_listed SK = (36, omega arith, refl)
is_listed RS = (37, omega arith, refl)

found_by_letters : (letters : Letters) → kind_spelled (row_of letters).spelled (exit_kinds ++ entry_kinds) ≡ Some letters
unfolding exit_kinds entry_kinds
found_by_letters FR = refl
found_by_letters other = refl

-- the exits, then the entries
pub exits_are_unbroken : is_unbroken 0 1040 exit_kinds ≡ true
unfolding exit_kinds
exits_are_unbroken = refl

pub entries_are_unbroken : is_unbroken 1040 1936 entry_kinds ≡ true
unfolding entry_kinds
entries_are_unbroken = refl

is_unbroken-all : is_unbroken 0 1936 (exit_kinds ++ entry_kinds) ≡ true
unfolding exit_kinds entry_kinds
is_unbroken-all = refl

-- a number is of one kind
pub HasNumber-same : (one other : Letters) (n : ℕ) → HasNumber one n → HasNumber other n → one ≡ other
HasNumber-same one other n has and_has =
    one_of_list 0 1936 (exit_kinds ++ entry_kinds) is_unbroken-all one other n (is_listed one) (is_listed other) has and_has

-- each number 1 to 1936 is of a kind
pub HasNumber-some : (n : ℕ) → 1 ≤ n → n ≤ 1936 → (letters : Letters) × HasNumber letters n
HasNumber-some n from to = some_of_list 0 1936 (exit_kinds ++ entry_kinds) is_unbroken-all n from to

-- no two kinds are spelled alike
pub spelled-injective : (one other : Letters) → (row_of one).spelled ≡ (row_of other).spelled → one ≡ other
spelled-injective one other alike =
    let found = found_by_letters one in
    let and_found = found_by_letters other in
    let same = ap (λ (token : List ℕ). kind_spelled token (exit_kinds ++ entry_kinds)) alike in
    cc

-- whether the hubs of a kind are on their side of the table: the exits up to 1040, the entries after
abbrev is_on_its_side : Letters → Bool
is_on_its_side letters =
    if (row_of letters).is_exit
    then nat_le ((row_of letters).before + count_of (row_of letters).shape) 1040
    else nat_le 1040 (row_of letters).before && nat_le ((row_of letters).before + count_of (row_of letters).shape) 1936

stands_on_its_side : (letters : Letters) → is_on_its_side letters ≡ true
stands_on_its_side FR = refl
stands_on_its_side other = refl

pub exits_end : (letters : Letters) → (row_of letters).is_exit ≡ true
    → (row_of letters).before + count_of (row_of letters).shape ≤ 1040
exits_end letters is_exit = on_side (row_of letters).is_exit _ _ is_exit (stands_on_its_side letters) where
  on_side : (is_exit : Bool) (before after : ℕ) → is_exit ≡ true
      → (if is_exit then nat_le after 1040 else nat_le 1040 before && nat_le after 1936) ≡ true → after ≤ 1040
  on_side is_exit before after is side = grind (arith, nat_tests)

pub entries_start : (letters : Letters) → (row_of letters).is_exit ≡ false
    → (1040 ≤ (row_of letters).before) × ((row_of letters).before + count_of (row_of letters).shape ≤ 1936)
entries_start letters is_entry = on_side (row_of letters).is_exit _ _ is_entry (stands_on_its_side letters) where
  on_side : (is_exit : Bool) (before after : ℕ) → is_exit ≡ false
      → (if is_exit then nat_le after 1040 else nat_le 1040 before && nat_le after 1936) ≡ true
      → (1040 ≤ before) × (after ≤ 1936)
  on_side is_exit before after is side = grind (arith, nat_tests)

-- no kind has a number above 255
pub kinds_have_small_lasts : (letters : Letters) → has_small_lasts (row_of letters).shape ≡ true
kinds_have_small_lasts FR = refl
kinds_have_small_lasts other = refl

-- what none of all kinds is, no kind is
pub none_of_all : (P : Letters → Type 0) (found : Option Letters) → IfNone found (All P (exit_kinds ++ entry_kinds))
    → IfNone found ((letters : Letters) → P letters)
none_of_all P (Some letters) all = tt
none_of_all P None all = λ letters. All-contains P (exit_kinds ++ entry_kinds) letters all (is_listed letters)

-- the kinds of each side of the table
pub exits_are_exits : All (λ letters. (row_of letters).is_exit ≡ true) exit_kinds
unfolding exit_kinds
exits_are_exits = All-from_recursion (λ letters. (row_of letters).is_exit ≡ true) exit_kinds (refl, (refl, (refl, (refl, (refl, (refl, (refl, (refl, (refl, (refl, (refl, (refl, (refl, (refl, (refl, (refl, (refl, tt)))))))))))))))))

pub entries_are_entries : All (λ letters. (row_of letters).is_exit ≡ false) entry_kinds
unfolding entry_kinds
entries_are_entries = All-from_recursion (λ letters. (row_of letters).is_exit ≡ false) entry_kinds (refl, (refl, (refl, (refl, (refl, (refl, (refl, (refl, (refl, (refl, (refl, (refl, (refl, (refl, (refl, (refl, (refl, (refl, (refl, (refl, (refl, tt)))))))))))))))))))))

-- no kind has a place behind the table
pub stands_within : (letters : Letters) → (row_of letters).before + count_of (row_of letters).shape ≤ 1936
stands_within letters = grind (arith, nat_tests, is_within letters) where
  is_within : (one : Letters) → nat_le ((row_of one).before + count_of (row_of one).shape) 1936 ≡ true
  is_within FR = refl
  is_within other = refl
