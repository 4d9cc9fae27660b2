-- What orders say of the lines that they were read from.
use Rattle.std.proofs.Common.{◌≡◌, ◌∙◌, ap, sym, subst, refl, arith, inl, inr, ℕ, suc, ◌+◌, ◌-◌, ◌<◌, ◌≤◌, List, [], ◌∷◌, ◌++◌, Bor, get_or, drop, length, All}
use Rattle.std.proofs.lemmas.Bool.{cases_eq}
use Rattle.std.proofs.lemmas.List.{drop_more, ext_get_or, get_or-map, get_or_default, get_or_append_left, get_or_push, length-append, length-drop}
use Rattle.cli_commands.specs.CommandsWords.UnitOrders.OrdersText.{IsLowestWithout, NameUnits, SayOrders, SaysOrder}
use Rattle.machine_served.specs.ServedWords.Orders.{AreOrders, IsOrder}
use Rattle.chart_lines.proofs.TokensWords.TokenGrammar.{one_division}
use Rattle.chart_lines.specs.TokensWords.Texts.{texts}
use Rattle.chart_lines.specs.TokensWords.Tokens.{HasTokens}

-- What holds at each place of two lists holds where one more is put behind the second.
pub each_more : {A B : Type 0} (Says : A → B → Type 0) (lines : List A) (bs : List B) (a : A) (b new : B) (count : ℕ)
    → length bs ≡ count → ((place : ℕ) → place < count → Says (get_or lines place a) (get_or bs place b)) → Says (get_or lines count a) new
    → (place : ℕ) → place < count + 1 → Says (get_or lines place a) (get_or (bs ++ new ∷ []) place b)
each_more {A} {B} Says lines bs a b new count long said says place low = elim (cases_eq place count) [
  | inl same ↦
      subst (λ (there : ℕ). Says (get_or lines there a) (get_or (bs ++ new ∷ []) there b)) (sym same)
      (subst (λ (one : B). Says (get_or lines count a) one) (sym (get_or_push bs new b count long)) says)
  | inr other ↦
      subst (λ (one : B). Says (get_or lines place a) one)
      (sym (get_or_append_left bs (new ∷ []) b place (omega (arith, long, low, other))))
      (said place (omega (arith, low, other)))
]

-- a list with one more behind it
pub length_more : {B : Type 0} (bs more : List B) (new : B) (count : ℕ) → length bs ≡ count → more ≡ bs ++ new ∷ [] → length more ≡ count + 1
length_more bs more new count long is = ap length is ∙ length-append bs (new ∷ []) ∙ ap (λ (least : ℕ). least + 1) long

-- a token of a text
pub token_is : (tokens : List (Bor (List ℕ))) (place : ℕ) (d : Bor (List ℕ)) → place < length tokens
    → get_or (texts tokens) place [] ≡ (get_or tokens place d).now
token_is tokens place d low = get_or-map (λ (token : Bor (List ℕ)). token.now) tokens place d [] low

-- tokens name one list of units at most
pub same_units : {tokens : List (List ℕ)} {one other : List ℕ} → NameUnits tokens one → NameUnits tokens other → one ≡ other
same_units {tokens} {one} {other} first second =
    ext_get_or 0 one other (first.long ∙ sym second.long)
    (λ place low.
    let there = subst (λ (long : ℕ). place < long) first.long low in
    (first.each place there).spelled.value ∙ sym (second.each place there).spelled.value)

-- a line whose tokens name no units says no order
pub no_units_no_order : {line : List ℕ} {tokens : List (List ℕ)} → HasTokens line tokens → ((others : List ℕ) → ¬ NameUnits tokens others)
    → (order : List ℕ) → ¬ SaysOrder line order
no_units_no_order divided none order says =
    none order (subst (λ (tokens : List (List ℕ)). NameUnits tokens order) (one_division says.divided divided) says.named)

-- nor does one whose units are no order
pub other_units_no_order : {line : List ℕ} {tokens : List (List ℕ)} {units : List ℕ} → HasTokens line tokens → NameUnits tokens units → ¬ IsOrder units
    → (order : List ℕ) → ¬ SaysOrder line order
other_units_no_order divided named not order says =
    not (subst IsOrder (same_units (subst (λ (tokens : List (List ℕ)). NameUnits tokens order) (one_division says.divided divided) says.named) named) says.whole)

-- The orders that were read so far are those of the lines that were read, and the others are left.
pub record HaveRead (lines rest : List (List ℕ)) (orders : List (List ℕ)) : Type 0 where
  pub few : length orders ≤ length lines
  pub left : rest ≡ drop (length orders) lines
  pub each : (place : ℕ) → place < length orders → SaysOrder (get_or lines place []) (get_or orders place [])

-- before any line is read
pub none_read : (lines : List (List ℕ)) → HaveRead lines lines []
none_read lines = record { few = omega arith; left = refl; each = λ place low. absurd (omega (arith, low)) }

-- the line that comes, where one is left
pub comes : {lines rest : List (List ℕ)} {orders : List (List ℕ)} (line : List ℕ) (after : List (List ℕ)) → HaveRead lines rest orders → rest ≡ line ∷ after
    → (length orders < length lines) × (get_or lines (length orders) [] ≡ line) × (drop (length orders + 1) lines ≡ after)
comes {lines} {rest} {orders} line after read is =
    let count = length orders in
    let long : length (drop count lines) ≡ suc (length after) = ap length (sym read.left ∙ is) in
    let there : count < length lines = omega (arith, long, length-drop count lines) in
    let same = sym (drop_more lines count [] there) ∙ sym read.left ∙ is in
    (there, ap (λ (all : List (List ℕ)). get_or all 0 []) same, ap (λ (all : List (List ℕ)). drop 1 all) same)

-- one line and its order more
pub one_read : {lines rest : List (List ℕ)} {orders : List (List ℕ)} (line : List ℕ) (after : List (List ℕ)) (order : List ℕ)
    → HaveRead lines rest orders → rest ≡ line ∷ after → SaysOrder line order → HaveRead lines after (orders ++ order ∷ [])
one_read {lines} {rest} {orders} line after order read is says =
    let come = comes line after read is in
    let long = length_more orders (orders ++ order ∷ []) order (length orders) refl refl in
    record {
      few = omega (arith, long, come.0);
      left = sym come.2 ∙ ap (λ (count : ℕ). drop count lines) (sym long);
      each = λ place low.
          each_more SaysOrder lines orders [] [] order (length orders) refl read.each
          (subst (λ (one : List ℕ). SaysOrder one order) (sym come.1) says) place (subst (λ (count : ℕ). place < count) long low);
    }

-- the line that comes says no order: it is the lowest
pub lowest : {lines rest : List (List ℕ)} {orders : List (List ℕ)} (line : List ℕ) (after : List (List ℕ)) → HaveRead lines rest orders → rest ≡ line ∷ after
    → ((order : List ℕ) → ¬ SaysOrder line order) → IsLowestWithout lines (length orders + 1)
lowest {lines} {rest} {orders} line after read is none =
    let come = comes line after read is in
    let back : length orders + 1 - 1 ≡ length orders = omega arith in
    let there = ap (λ (at : ℕ). get_or lines at []) back in
    record {
      there = record { from = omega arith; to = omega (arith, come.0) };
      without = λ order says. none order (subst (λ (one : List ℕ). SaysOrder one order) (there ∙ come.1) says);
      before = λ lower there low.
          (get_or orders (lower - 1) [], read.each (lower - 1) (omega (arith, there.from, low)));
    }

-- the orders of all lines, where none is left
pub all_read : {lines : List (List ℕ)} {orders : List (List ℕ)} → HaveRead lines [] orders → SayOrders lines orders
all_read {lines} {orders} read =
    let long : length orders ≡ length lines = omega (arith, read.few, ap length read.left, length-drop (length orders) lines) in
    record { long = long; each = λ place low. read.each place (omega (arith, long, low)) }

-- all of them are orders
pub all_orders : {lines rest : List (List ℕ)} {orders : List (List ℕ)} → HaveRead lines rest orders → All IsOrder orders
all_orders {orders = orders} read = λ place d low. subst IsOrder (get_or_default orders place [] d low) (read.each place low).whole

-- They are refused only where there is none, and so no line.
pub refused : (lines : List (List ℕ)) {orders : List (List ℕ)} → HaveRead lines [] orders → ¬ AreOrders orders → lines ≡ []
refused [] read not = refl
refused (line ∷ lines) {orders} read not =
    let long : length orders ≡ suc (length lines) = (all_read read).long in
    absurd (not (record { some = omega (arith, long); each = all_orders read }))
