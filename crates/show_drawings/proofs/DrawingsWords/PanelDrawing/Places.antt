-- Each hub stands in its block, and no two at one place.
use Rattle.std.proofs.Common.{◌≡◌, inl, inr, ◌∙◌, refl, sym, ap, arith, ℕ, ◌+◌, ◌-◌, ◌*◌, ◌/◌, ◌%◌, ◌<◌, ◌≤◌, ◌==◌, Bool, true, false, ◌&&◌, ◌||◌, List, [], ◌∷◌, Option, Some, None}
use Rattle.std.specs.Prelude.{if◌then◌else◌, is_some, nat_le, nat_lt}
use Rattle.std.specs.List.{list_all}
use Rattle.std.proofs.Math.Nat.{mod-lt, div-add-mod, div-lt_iff_lt-mul}
use Rattle.std.proofs.lemmas.Bool.{and_parts, eqb-true, leb-true, or_cases, false≢true}
use Rattle.std.proofs.lemmas.Bool.Decides.{nat_tests}
use Rattle.std.proofs.lemmas.Nat.{mul-le}
use Rattle.std.proofs.lemmas.Option.{same_Some}
use Rattle.hubs.specs.Hubs.{number_of, is_hub_in_range, is_exit_hub, is_entry_hub}
use Rattle.hubs.specs.declared.hub.Hub.{Hub}
use Rattle.hubs.proofs.HubLemmas.{in_range, number_of-entry, number_of-exit, number_of-injective, number_of-range}
use Rattle.show_drawings.specs.DrawingsWords.PanelDrawing.Blocks.{height, lower_edge, middle, place_at, place_numbered, place_of, right_edge, width, are_apart, are_blocks, block_in, blocks, has_room, is_block, is_dotted, is_drawn, is_of_kind, is_on_its_side, place_in}
use Rattle.show_drawings.specs.declared.drawings.panel_drawing.blocks.Block.{Block}
use Rattle.show_drawings.specs.declared.drawings.panel_drawing.blocks.Coordinates.{Coordinates}

pub all_blocks : are_blocks 0 blocks ≡ true
unfolding blocks
all_blocks = refl

-- a number is that of a hub of a block
pub record IsOf (block : Block) (number : ℕ) : Type 0 where
  pub is : is_block block ≡ true
  pub behind : block.before < number
  pub within : number ≤ block.before + block.count

-- the block of a number has its hub, and passes each test that all blocks pass
pub in_block : (test : Block → Bool) (before : ℕ) (table : List Block) (number : ℕ) → are_blocks before table ≡ true
    → list_all test table ≡ true → before < number → number ≤ 1936
    → IsOf (block_in table number) number × (test (block_in table number) ≡ true)
in_block test before [] number are all less most =
    absurd (omega (arith, eqb-true before 1936 are, less, most))
in_block test before (first ∷ others) number are all less most =
    let one = and_parts (first.before == before) _ are in
    let two = and_parts (is_block first) _ one.1 in
    let three = and_parts (list_all (are_apart first) others) _ two.1 in
    let tests = and_parts (test first) _ all in
    by_test (nat_le number (first.before + first.count)) refl (eqb-true first.before before one.0) two.0 tests.0
    (λ beyond. in_block test (before + first.count) others number three.1 tests.1 beyond most)
  where
    by_test : (reaches : Bool) → nat_le number (first.before + first.count) ≡ reaches → first.before ≡ before
        → is_block first ≡ true → test first ≡ true
        → (before + first.count < number → IsOf (block_in others number) number × (test (block_in others number) ≡ true))
        → IsOf (block_in (first ∷ others) number) number × (test (block_in (first ∷ others) number) ≡ true)
    by_test true e at is passes next =
        let here : block_in (first ∷ others) number ≡ first = ap (λ (b : Bool). if b then first else block_in others number) e in
        rw here (record { is = is; behind = omega (arith, at, less); within = grind (arith, nat_tests, e) }, passes)
    by_test false e at is passes next =
        let later : block_in (first ∷ others) number ≡ block_in others number =
        ap (λ (b : Bool). if b then first else block_in others number) e in
        rw later (next (grind (arith, nat_tests, e, at)))

-- a place stands in a block
pub record StandsIn (block : Block) (place : Coordinates) : Type 0 where
  pub from_left : block.left ≤ place.x
  pub to_right : place.x < right_edge block
  pub from_top : block.top ≤ place.y
  pub to_bottom : place.y < lower_edge block

-- a step less than so many, each as long
within_steps : (left step less many : ℕ) → 1 ≤ step → less < many → left + step * less < left + step * many
within_steps left step less many some few =
    let more : step * (less + 1) ≤ step * many = mul-le step (less + 1) step many (omega arith) (omega (arith, few)) in
    let one : step * (less + 1) ≡ step * less + step = distributed step less in
    omega (arith, more, one, some)
  where
    distributed : (a b : ℕ) → a * (b + 1) ≡ a * b + a
    distributed a b = omega arith

-- the parts of what is known of a block
pub record IsRight (block : Block) : Type 0 where
  pub wide : 1 ≤ block.columns
  pub enough : block.count ≡ block.columns * block.rows
  pub spaced : 10 ≤ block.across
  pub from_left : 10 ≤ block.left
  pub to_right : right_edge block ≤ width
  pub from_top : 10 ≤ block.top
  pub to_bottom : lower_edge block ≤ height
  pub side : is_on_its_side block ≡ true

pub is_right : (block : Block) → is_block block ≡ true → IsRight block
is_right block is =
    let one = and_parts (is_of_kind block) _ is in
    let two = and_parts (has_room block) _ one.1 in
    let room = and_parts (nat_le 1 block.columns) (block.count == block.columns * block.rows) two.0 in
    let three = and_parts (is_dotted block) _ two.1 in
    let dotted = and_parts (nat_le 10 block.across) (block.run == block.across * (block.columns - 1) + 1) three.0 in
    let four = and_parts (is_drawn block) (is_on_its_side block) three.1 in
    let drawn = and_parts (nat_le 10 block.left) _ four.0 in
    let across = and_parts (nat_le (right_edge block) width) _ drawn.1 in
    let down = and_parts (nat_le 10 block.top) (nat_le (lower_edge block) height) across.1 in
    record {
      wide = leb-true 1 block.columns room.0;
      enough = eqb-true block.count (block.columns * block.rows) room.1;
      spaced = leb-true 10 block.across dotted.0;
      from_left = leb-true 10 block.left drawn.0;
      to_right = leb-true (right_edge block) width across.0;
      from_top = leb-true 10 block.top down.0;
      to_bottom = leb-true (lower_edge block) height down.1;
      side = four.1;
    }

-- the place of a block's hub stands in it
pub stands_in : (block : Block) (number : ℕ) → IsOf block number → StandsIn block (place_in block number)
stands_in block number of =
    let right = is_right block of.is in
    let passed : ℕ = number - block.before - 1 in
    let aside : passed % block.columns < block.columns = mod-lt passed right.wide in
    let few : passed < block.rows * block.columns = omega (arith, right.enough, of.behind, of.within) in
    let down : passed / block.columns < block.rows = (div-lt_iff_lt-mul right.wide).1 few in
    record {
      from_left = omega arith;
      to_right =
          within_steps block.left block.across (passed % block.columns) block.columns (omega (arith, right.spaced)) aside;
      from_top = omega arith;
      to_bottom = within_steps block.top 14 (passed / block.columns) block.rows (omega arith) down;
    }

-- no place stands in two blocks that are apart
pub stands_in_one : (one other : Block) (place : Coordinates) → are_apart one other ≡ true → StandsIn one place → StandsIn other place → ⊥
stands_in_one one other place apart here there =
    let right = nat_le (right_edge one) other.left in
    let left = nat_le (right_edge other) one.left in
    let under = nat_le (lower_edge one) other.top in
    let over = nat_le (lower_edge other) one.top in
    elim (or_cases (right || left) (under || over) apart) [
      | inl aside ↦ elim (or_cases right left aside) [
        | inl e ↦ omega (arith, leb-true (right_edge one) other.left e, here.to_right, there.from_left)
        | inr e ↦ omega (arith, leb-true (right_edge other) one.left e, there.to_right, here.from_left)
      ]
      | inr above ↦ elim (or_cases under over above) [
        | inl e ↦ omega (arith, leb-true (lower_edge one) other.top e, here.to_bottom, there.from_top)
        | inr e ↦ omega (arith, leb-true (lower_edge other) one.top e, there.to_bottom, here.from_top)
      ]
    ]

-- as many steps, where they come to the same place
same_steps : (left step one other : ℕ) → 1 ≤ step → left + step * one ≡ left + step * other → one ≡ other
same_steps left step one other some same = by_order (nat_lt one other) (nat_lt other one) refl refl
  where
    further : (less many : ℕ) → less < many → left + step * less ≡ left + step * many → ⊥
    further less many few is = omega (arith, within_steps left step less many some few, is)

    by_order : (less more : Bool) → nat_lt one other ≡ less → nat_lt other one ≡ more → one ≡ other
    by_order true more e f = absurd (further one other (grind (arith, nat_tests, e)) same)
    by_order false true e f = absurd (further other one (grind (arith, nat_tests, f)) (sym same))
    by_order false false e f = grind (arith, nat_tests, e, f)

-- two hubs of a block at one place are one
pub one_in_block : (block : Block) (m n : ℕ) → 1 ≤ block.across → block.before < m → block.before < n
    → place_in block m ≡ place_in block n → m ≡ n
one_in_block block m n spaced behind too same =
    let first : ℕ = m - block.before - 1 in
    let second : ℕ = n - block.before - 1 in
    let aside : first % block.columns ≡ second % block.columns =
    same_steps block.left block.across (first % block.columns) (second % block.columns) spaced (ap (λ (p : Coordinates). p.x) same) in
    let down : first / block.columns ≡ second / block.columns =
    same_steps block.top 14 (first / block.columns) (second / block.columns) (omega arith) (ap (λ (p : Coordinates). p.y) same) in
    let one : first ≡ second =
    sym (div-add-mod first block.columns) ∙ ap (λ (q : ℕ). block.columns * q + first % block.columns) down
    ∙ ap (λ (q : ℕ). block.columns * (second / block.columns) + q) aside ∙ div-add-mod second block.columns in
    omega (arith, one, behind, too)

-- two hubs at one place are one
pub one_at_place : (before : ℕ) (table : List Block) (m n : ℕ) → are_blocks before table ≡ true
    → before < m → m ≤ 1936 → before < n → n ≤ 1936 → place_in (block_in table m) m ≡ place_in (block_in table n) n → m ≡ n
one_at_place before [] m n are less most less_too most_too same =
    absurd (omega (arith, eqb-true before 1936 are, less, most))
one_at_place before (first ∷ others) m n are less most less_too most_too same =
    let one = and_parts (first.before == before) _ are in
    let two = and_parts (is_block first) _ one.1 in
    let three = and_parts (list_all (are_apart first) others) _ two.1 in
    by_tests (nat_le m (first.before + first.count)) (nat_le n (first.before + first.count)) refl refl
    (eqb-true first.before before one.0) two.0
    (λ beyond. in_block (are_apart first) (before + first.count) others m three.1 three.0 beyond most)
    (λ beyond. in_block (are_apart first) (before + first.count) others n three.1 three.0 beyond most_too)
    (λ beyond beyond_too same. one_at_place (before + first.count) others m n three.1 beyond most beyond_too most_too same)
  where
    chosen : (number : ℕ) (reaches : Bool) → nat_le number (first.before + first.count) ≡ reaches
        → block_in (first ∷ others) number ≡ (if reaches then first else block_in others number)
    chosen number reaches e = ap (λ (b : Bool). if b then first else block_in others number) e

    by_tests : (reaches also : Bool) → nat_le m (first.before + first.count) ≡ reaches → nat_le n (first.before + first.count) ≡ also
        → first.before ≡ before → is_block first ≡ true
        → (before + first.count < m → IsOf (block_in others m) m × (are_apart first (block_in others m) ≡ true))
        → (before + first.count < n → IsOf (block_in others n) n × (are_apart first (block_in others n) ≡ true))
        → (before + first.count < m → before + first.count < n
        → place_in (block_in others m) m ≡ place_in (block_in others n) n → m ≡ n)
        → m ≡ n
    by_tests true true e f at is one other next =
        one_in_block first m n (omega (arith, (is_right first is).spaced)) (omega (arith, at, less)) (omega (arith, at, less_too))
        (sym (ap (λ (b : Block). place_in b m) (chosen m true e)) ∙ same ∙ ap (λ (b : Block). place_in b n) (chosen n true f))
    by_tests true false e f at is one other next =
        let later = other (grind (arith, nat_tests, f, at)) in
        let here : IsOf first m = record { is = is; behind = omega (arith, at, less); within = leb-true _ _ e } in
        let there : place_in first m ≡ place_in (block_in others n) n =
        sym (ap (λ (b : Block). place_in b m) (chosen m true e)) ∙ same ∙ ap (λ (b : Block). place_in b n) (chosen n false f) in
        absurd (stands_in_one first (block_in others n) (place_in first m) later.1 (stands_in first m here)
        (rw there (stands_in (block_in others n) n later.0)))
    by_tests false true e f at is one other next =
        let later = one (grind (arith, nat_tests, e, at)) in
        let here : IsOf first n = record { is = is; behind = omega (arith, at, less_too); within = leb-true _ _ f } in
        let there : place_in first n ≡ place_in (block_in others m) m =
        sym (ap (λ (b : Block). place_in b n) (chosen n true f)) ∙ sym same ∙ ap (λ (b : Block). place_in b m) (chosen m false e) in
        absurd (stands_in_one first (block_in others m) (place_in first n) later.1 (stands_in first n here)
        (rw there (stands_in (block_in others m) m later.0)))
    by_tests false false e f at is one other next =
        next (grind (arith, nat_tests, e, at)) (grind (arith, nat_tests, f, at))
        (sym (ap (λ (b : Block). place_in b m) (chosen m false e)) ∙ same ∙ ap (λ (b : Block). place_in b n) (chosen n false f))

passes_all : list_all (λ (block : Block). true) blocks ≡ true
unfolding blocks
passes_all = refl

-- the hub of a number is in a block
pub in_blocks : (number : ℕ) → 1 ≤ number → number ≤ 1936 → IsOf (block_in blocks number) number
in_blocks number from most =
    (in_block (λ (block : Block). true) 0 blocks number all_blocks passes_all (omega (arith, from)) most).0

-- what stands before the place of a hub's number in its block: the block is where the number can be placed
pub in_its_block : (number : ℕ) → 1 ≤ number → number ≤ 1936 → (block : Block) → block ≡ block_in blocks number
    → (block.before < number) × (0 < block.columns) × (block.left ≤ 2000) × (block.top ≤ 2000) × (block.across ≤ 2000)
in_its_block number from most block is =
    let of = in_blocks number from most in
    let right = is_right (block_in blocks number) of.is in
    let one : (block_in blocks number).across * 1 ≤ (block_in blocks number).across * (block_in blocks number).columns =
    mul-le (block_in blocks number).across 1 (block_in blocks number).across (block_in blocks number).columns (omega arith) right.wide in
    rw is (
      of.behind,
      omega (arith, right.wide),
      omega (arith, right.to_right),
      omega (arith, right.to_bottom),
      omega (arith, right.to_right, one),
    )

-- a hub of the panel has a number
pub numbered : (hub : Hub) → is_hub_in_range hub ≡ true → (n : ℕ) × (number_of hub ≡ Some n) × (1 ≤ n) × (n ≤ 1936)
numbered hub is = by_number (number_of hub) refl is
  where
    by_number : (found : Option ℕ) → number_of hub ≡ found → is_some found ≡ true
        → (n : ℕ) × (number_of hub ≡ Some n) × (1 ≤ n) × (n ≤ 1936)
    by_number None e is = absurd (false≢true is)
    by_number (Some n) e is = let range = number_of-range hub n e in (n, e, range.0, range.1)

-- the place of a hub of a number
pub place_is : (hub : Hub) (n : ℕ) → number_of hub ≡ Some n → place_of hub ≡ place_at n
place_is hub n e = ap place_numbered e

pub places_of_their_own : (one other : Hub) → is_hub_in_range one ≡ true → is_hub_in_range other ≡ true
    → place_of one ≡ place_of other → one ≡ other
places_of_their_own one other is too same =
    let first = numbered one is in
    let second = numbered other too in
    let here : place_at first.0 ≡ place_at second.0 =
    sym (place_is one first.0 first.1) ∙ same ∙ place_is other second.0 second.1 in
    let numbers : first.0 ≡ second.0 =
    one_at_place 0 blocks first.0 second.0 all_blocks (omega (arith, first.2)) first.3 (omega (arith, second.2))
    second.3 here in
    number_of-injective one other second.0 (first.1 ∙ ap (λ (n : ℕ). Some n) numbers) second.1

-- the place of a hub stands in its block
pub record IsPlaced (hub : Hub) (number : ℕ) (place : Coordinates) : Type 0 where
  pub numbered : number_of hub ≡ Some number
  pub right : IsRight (block_in blocks number)
  pub of : IsOf (block_in blocks number) number
  pub stands : StandsIn (block_in blocks number) place

pub placed : (hub : Hub) → is_hub_in_range hub ≡ true → (number : ℕ) × IsPlaced hub number (place_of hub)
placed hub is =
    let found = numbered hub is in
    let of = in_blocks found.0 found.2 found.3 in (
      found.0,
      record {
        numbered = found.1;
        right = is_right (block_in blocks found.0) of.is;
        of = of;
        stands = rw (place_is hub found.0 found.1) (stands_in (block_in blocks found.0) found.0 of);
      },
    )

pub right_of_margin : (hub : Hub) → is_hub_in_range hub ≡ true → (10 ≤ (place_of hub).x) × ((place_of hub).x < width)
right_of_margin hub is =
    let at = (placed hub is).1 in
    (omega (arith, at.right.from_left, at.stands.from_left), omega (arith, at.right.to_right, at.stands.to_right))

pub under_margin : (hub : Hub) → is_hub_in_range hub ≡ true → (10 ≤ (place_of hub).y) × ((place_of hub).y < height)
under_margin hub is =
    let at = (placed hub is).1 in
    (omega (arith, at.right.from_top, at.stands.from_top), omega (arith, at.right.to_bottom, at.stands.to_bottom))

-- the blocks of exits end above the middle, those of entries begin under it
side_of_exit : (block : Block) (number : ℕ) → block.before < number → number ≤ 1040 → is_on_its_side block ≡ true
    → lower_edge block ≤ middle
side_of_exit block number behind exit side = by_side (nat_le (block.before + block.count) 1040) refl
  where
    by_side : (b : Bool) → nat_le (block.before + block.count) 1040 ≡ b → lower_edge block ≤ middle
    by_side true e =
        leb-true (lower_edge block) middle
        (sym (ap (λ (c : Bool). if c then nat_le (lower_edge block) middle else nat_le 1040 block.before && nat_lt middle block.top) e) ∙ side)
    by_side false e =
        let both = and_parts (nat_le 1040 block.before) (nat_lt middle block.top)
        (sym (ap (λ (c : Bool). if c then nat_le (lower_edge block) middle else nat_le 1040 block.before && nat_lt middle block.top) e) ∙ side) in
        absurd (omega (arith, leb-true 1040 block.before both.0, behind, exit))

side_of_entry : (block : Block) (number : ℕ) → number ≤ block.before + block.count → 1041 ≤ number → is_on_its_side block ≡ true
    → middle < block.top
side_of_entry block number within entry side = by_side (nat_le (block.before + block.count) 1040) refl
  where
    by_side : (b : Bool) → nat_le (block.before + block.count) 1040 ≡ b → middle < block.top
    by_side true e = absurd (omega (arith, leb-true (block.before + block.count) 1040 e, within, entry))
    by_side false e =
        let both = and_parts (nat_le 1040 block.before) (nat_lt middle block.top)
        (sym (ap (λ (c : Bool). if c then nat_le (lower_edge block) middle else nat_le 1040 block.before && nat_lt middle block.top) e) ∙ side) in
        grind (arith, nat_tests, both.1)

pub exit_above : (exit : Hub) → is_exit_hub exit ≡ true → (place_of exit).y < middle
exit_above exit is =
    let found = number_of-exit exit is in
    let at = placed exit (in_range exit found.0 found.1) in
    let same : at.0 ≡ found.0 = same_Some at.0 found.0 (sym at.1.numbered ∙ found.1) in
    let few : at.0 ≤ 1040 = omega (arith, same, found.2) in
    let side = side_of_exit (block_in blocks at.0) at.0 at.1.of.behind few at.1.right.side in
    omega (arith, side, at.1.stands.to_bottom)

pub entry_below : (entry : Hub) → is_entry_hub entry ≡ true → middle < (place_of entry).y
entry_below entry is =
    let found = number_of-entry entry is in
    let at = placed entry (in_range entry found.0 found.1) in
    let same : at.0 ≡ found.0 = same_Some at.0 found.0 (sym at.1.numbered ∙ found.1) in
    let many : 1041 ≤ at.0 = omega (arith, same, found.2) in
    let side = side_of_entry (block_in blocks at.0) at.0 at.1.of.within many at.1.right.side in
    omega (arith, side, at.1.stands.from_top)

pub above : (exit entry : Hub) → is_exit_hub exit ≡ true → is_entry_hub entry ≡ true → (place_of exit).y < (place_of entry).y
above exit entry is too = omega (arith, exit_above exit is, entry_below entry too)
