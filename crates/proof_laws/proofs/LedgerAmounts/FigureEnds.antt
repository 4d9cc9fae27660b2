-- Where a figure begins and ends on a line.
use Rattle.std.proofs.Common.{◌≡◌, ◌∙◌, refl, sym, ap, subst, ℕ, zero, suc, ◌+◌, ◌-◌, ◌<◌, ◌≤◌, ◌||◌, not, nat_eq, nat_le, ◌⊎◌, inl, inr, Bool, true, false, List, ◌++◌, length, slice_index_or, take, drop, replicate, if◌then◌else◌, arith}
use Rattle.std.specs.Prelude.{◌≢◌}
use Rattle.std.proofs.lemmas.Bool.{both_ways, cases_lt, or_right}
use Rattle.std.proofs.lemmas.Bool.Decides.{nat_tests}
use Rattle.std.proofs.lemmas.Grind.{get_or_default_zero, same_number_lists}
use Rattle.std.proofs.lemmas.List.{get_or-append-add, get_or-drop, get_or-replicate, get_or-take, get_or_append_left, length-append, length-drop, length-replicate, length-take}
use Rattle.std.proofs.lemmas.List.Elements.{All-get_or}
use Rattle.explain_ledgers.specs.declared.ledgers.account.Account.{Account}
use Rattle.hubs.specs.SetupsWords.Wiring.{Wiring}
use Rattle.explain_wheel_ledgers.specs.Figures.{begin_of, end_of, figure_on, is_joined}
use Rattle.proof_laws.specs.LedgerAmounts.Figures.{IsBetweenBlanks}

-- a figure doesn't go on to a place over a wheel
abbrev pub is_cut : Wiring → Account → List ℕ → (place wheel : ℕ) → Bool
is_cut wiring account line place wheel = nat_eq (slice_index_or line place 32) 32 || not (is_joined wiring account wheel)

-- from a character of it back
begins-at : (wiring : Wiring) (account : Account) (text : List ℕ) (begin place : ℕ) → begin ≤ place
    → ((k : ℕ) → begin ≤ k → k < place → is_cut wiring account text k (k + 2) ≡ false)
    → ((k : ℕ) → begin ≡ suc k → is_cut wiring account text k (k + 2) ≡ true)
    → begin_of wiring account text place ≡ begin
unfolding begin_of
begins-at wiring account text begin zero low inside cut = omega (arith, low)
begins-at wiring account text begin (suc place) low inside cut =
    by (begins-at wiring account text begin place) (is_cut wiring account text place (place + 2)) refl (nat_le begin place) refl
  where
    by : (begin ≤ place → ((k : ℕ) → begin ≤ k → k < place → is_cut wiring account text k (k + 2) ≡ false)
        → ((k : ℕ) → begin ≡ suc k → is_cut wiring account text k (k + 2) ≡ true) → begin_of wiring account text place ≡ begin)
        → (a : Bool) → is_cut wiring account text place (place + 2) ≡ a → (b : Bool) → nat_le begin place ≡ b
        → (if a then suc place else begin_of wiring account text place) ≡ begin
    by before true is true within = absurd (both_ways (is_cut wiring account text place (place + 2)) (inside place (grind (arith, nat_tests, within)) (omega arith)) is)
    by before true is false past = grind (arith, nat_tests, past, low)
    by before false is true within =
        before (grind (arith, nat_tests, within)) (λ k from to. inside k from (omega (arith, to))) cut
    by before false is false past = absurd (both_ways (is_cut wiring account text place (place + 2)) is (cut place (grind (arith, nat_tests, past, low))))

-- and from there on
ends-at : (wiring : Wiring) (account : Account) (text : List ℕ) (end place others : ℕ) → place ≤ end → end ≤ place + others
    → ((k : ℕ) → place ≤ k → k < end → is_cut wiring account text k (k + 1) ≡ false)
    → (end < place + others → is_cut wiring account text end (end + 1) ≡ true)
    → end_of wiring account text place others ≡ end
unfolding end_of
ends-at wiring account text end place zero low high inside cut = omega (arith, low, high)
ends-at wiring account text end place (suc others) low high inside cut =
    by (ends-at wiring account text end (place + 1) others) (is_cut wiring account text place (place + 1)) refl (nat_le end place) refl
  where
    by : (place + 1 ≤ end → end ≤ place + 1 + others
        → ((k : ℕ) → place + 1 ≤ k → k < end → is_cut wiring account text k (k + 1) ≡ false)
        → (end < place + 1 + others → is_cut wiring account text end (end + 1) ≡ true) → end_of wiring account text (place + 1) others ≡ end)
        → (a : Bool) → is_cut wiring account text place (place + 1) ≡ a → (b : Bool) → nat_le end place ≡ b
        → (if a then place else end_of wiring account text (place + 1) others) ≡ end
    by behind true is true past = grind (arith, nat_tests, past, low)
    by behind true is false within =
        absurd (both_ways (is_cut wiring account text place (place + 1)) (inside place (omega arith) (grind (arith, nat_tests, within))) is)
    by behind false is true past =
        let same : end ≡ place = grind (arith, nat_tests, past, low) in
        absurd (both_ways (is_cut wiring account text place (place + 1)) is
        (subst (λ (k : ℕ). is_cut wiring account text k (k + 1) ≡ true) same (cut (omega (arith, same)))))
    by behind false is false within =
        behind (grind (arith, nat_tests, within)) (omega (arith, high))
        (λ k from to. inside k (omega (arith, from)) to) (λ less. cut (omega (arith, less)))

-- A text stands on the wheels of a line from the first one on, which are joined with one another, and with no character beside them.
pub record StandsAlone (wiring : Wiring) (account : Account) (line text : List ℕ) (first : ℕ) : Type 0 where
  pub long : length line ≡ 120
  pub from : 1 ≤ first
  pub to : first + length text ≤ 121
  pub there : (k : ℕ) → k < length text → slice_index_or line (first - 1 + k) 32 ≡ slice_index_or text k 32
  pub linked : (wheel : ℕ) → first < wheel → wheel < first + length text → is_joined wiring account wheel ≡ true
  pub before : 1 < first → is_cut wiring account line (first - 2) first ≡ true
  pub behind : first + length text ≤ 120 → is_joined wiring account (first + length text) ≡ false

-- the length of a text between blanks
long-between : (before behind : ℕ) (figure : List ℕ)
    → length (replicate before 32 ++ (figure ++ replicate behind 32)) ≡ before + (length figure + behind)
long-between before behind figure =
    length-append (replicate before 32) (figure ++ replicate behind 32)
    ∙ (λ i. length-replicate {A = ℕ} before 32 i + length-append figure (replicate behind 32) i)
    ∙ ap (λ (n : ℕ). before + (length figure + n)) (length-replicate {A = ℕ} behind 32)

-- its characters: blanks, the figure, blanks
blank-before : (before behind k : ℕ) (figure : List ℕ) → k < before
    → slice_index_or (replicate before 32 ++ (figure ++ replicate behind 32)) k 32 ≡ 32
blank-before before behind k figure low =
    get_or_append_left (replicate before 32) (figure ++ replicate behind 32) 32 k
    (subst (λ (n : ℕ). k < n) (sym (length-replicate {A = ℕ} before 32)) low)
    ∙ get_or-replicate before k 32 32 low

in-figure : (before behind k : ℕ) (figure : List ℕ) → k < length figure
    → slice_index_or (replicate before 32 ++ (figure ++ replicate behind 32)) (before + k) 32 ≡ slice_index_or figure k 32
in-figure before behind k figure low =
    ap (λ (n : ℕ). slice_index_or (replicate before 32 ++ (figure ++ replicate behind 32)) (n + k) 32) (sym (length-replicate {A = ℕ} before 32))
    ∙ get_or-append-add (replicate before 32) (figure ++ replicate behind 32) k 32
    ∙ get_or_append_left figure (replicate behind 32) 32 k low

blank-behind : (before behind k : ℕ) (figure : List ℕ) → k < behind
    → slice_index_or (replicate before 32 ++ (figure ++ replicate behind 32)) (before + (length figure + k)) 32 ≡ 32
blank-behind before behind k figure low =
    ap (λ (n : ℕ). slice_index_or (replicate before 32 ++ (figure ++ replicate behind 32)) (n + (length figure + k)) 32)
    (sym (length-replicate {A = ℕ} before 32))
    ∙ get_or-append-add (replicate before 32) (figure ++ replicate behind 32) (length figure + k) 32
    ∙ get_or-append-add figure (replicate behind 32) k 32
    ∙ get_or-replicate behind k 32 32 low

pub is-blank : (n : ℕ) → n ≡ 32 → nat_eq n 32 ≡ true
is-blank n same = grind (arith, nat_tests, same)

is-dark : (n : ℕ) → n ≢ 32 → nat_eq n 32 ≡ false
is-dark n other = by (nat_eq n 32) refl
  where
    by : (b : Bool) → nat_eq n 32 ≡ b → b ≡ false
    by true is = absurd (other (grind (arith, nat_tests, is)))
    by false is = refl

no-cut : (a b : Bool) → a ≡ false → b ≡ true → (a || not b) ≡ false
no-cut a b dark on = (λ i. dark i || not (on i))

pub cut-blank : (a b : Bool) → a ≡ true → (a || not b) ≡ true
cut-blank a b on = ap (λ (c : Bool). c || not b) on

pub cut-apart : (a b : Bool) → b ≡ false → (a || not b) ≡ true
cut-apart a b off = or_right a (not b) (ap not off)

-- Then a wheel of it that isn't blank has the figure of the text.
module _ (wiring : Wiring) (account : Account) (line text : List ℕ) (first : ℕ) (stands : StandsAlone wiring account line text first) (figure : List ℕ)
    (is : IsBetweenBlanks text figure) where
  long : length text ≡ is.before + (length figure + is.behind)
  long = ap length is.whole ∙ long-between is.before is.behind figure

  at : (k : ℕ) → k < length text
      → slice_index_or line (first - 1 + k) 32
      ≡ slice_index_or (replicate is.before 32 ++ (figure ++ replicate is.behind 32)) k 32
  at k low = stands.there k low ∙ ap (λ (t : List ℕ). slice_index_or t k 32) is.whole

  -- a character of the figure
  of-figure : (k : ℕ) → k < length figure → slice_index_or line (first - 1 + (is.before + k)) 32 ≡ slice_index_or figure k 32
  of-figure k low = at (is.before + k) (omega (arith, low, long)) ∙ in-figure is.before is.behind k figure low

  dark : (k : ℕ) → k < length figure → nat_eq (slice_index_or line (first - 1 + (is.before + k)) 32) 32 ≡ false
  dark k low =
      is-dark (slice_index_or line (first - 1 + (is.before + k)) 32)
      (λ same. All-get_or (λ character. character ≢ 32) figure k 32 low is.no_blank (sym (of-figure k low) ∙ same))

  dark-at : (place : ℕ) → first - 1 + is.before ≤ place → place < first - 1 + is.before + length figure
      → nat_eq (slice_index_or line place 32) 32 ≡ false
  dark-at place from to =
      let same : first - 1 + (is.before + (place - (first - 1 + is.before))) ≡ place = omega (arith, from) in
      subst (λ (p : ℕ). nat_eq (slice_index_or line p 32) 32 ≡ false) same
      (dark (place - (first - 1 + is.before)) (omega (arith, from, to)))

  -- a wheel that isn't blank is one of the figure's
  within : (k : ℕ) → k < length text → slice_index_or line (first - 1 + k) 32 ≢ 32 → (is.before ≤ k) × (k < is.before + length figure)
  within k low other = (above (cases_lt k is.before), below (cases_lt k (is.before + length figure)))
    where
      above : (k < is.before) ⊎ (is.before ≤ k) → is.before ≤ k
      above (inl less) = absurd (other (at k low ∙ blank-before is.before is.behind k figure less))
      above (inr more) = more

      below : (k < is.before + length figure) ⊎ (is.before + length figure ≤ k) → k < is.before + length figure
      below (inl less) = less
      below (inr more) =
          let same : is.before + (length figure + (k - (is.before + length figure))) ≡ k = omega (arith, more) in
          absurd (other (at k low
          ∙ ap (λ (n : ℕ). slice_index_or (replicate is.before 32 ++ (figure ++ replicate is.behind 32)) n 32) (sym same)
          ∙ blank-behind is.before is.behind (k - (is.before + length figure)) figure (omega (arith, more, low, long))))

  module _ (wheel : ℕ) (from : first ≤ wheel) (to : wheel < first + length text) (other : slice_index_or line (wheel - 1) 32 ≢ 32) where
    abbrev begin : ℕ
    begin = first - 1 + is.before

    abbrev end : ℕ
    end = begin + length figure

    inside : (begin ≤ wheel - 1) × (wheel - 1 < end)
    inside =
        let one = stands.from in
        let same : first - 1 + (wheel - first) ≡ wheel - 1 = omega (arith, from, one) in
        let found = within (wheel - first) (omega (arith, from, to))
        (subst (λ (p : ℕ). slice_index_or line p 32 ≢ 32) (sym same) other) in
        let low = found.0 in
        let high = found.1 in
        (omega (arith, low, from, one), omega (arith, high, from, one))

    begins : begin_of wiring account line (wheel - 1) ≡ begin
    begins =
        let low = inside.0 in
        let high = inside.1 in
        begins-at wiring account line begin (wheel - 1) low
        (λ k from_begin to_wheel.
        no-cut (nat_eq (slice_index_or line k 32) 32) (is_joined wiring account (k + 2)) (dark-at k from_begin (omega (arith, to_wheel, high)))
        (stands.linked (k + 2) (let one = stands.from in omega (arith, from_begin, one)) (omega (arith, to_wheel, to))))
        (λ k same. cut k same (is.before) refl)
      where
        cut : (k : ℕ) → begin ≡ suc k → (before : ℕ) → is.before ≡ before → is_cut wiring account line k (k + 2) ≡ true
        cut k same zero none =
            let one = stands.from in
            let place : first - 2 ≡ k = omega (arith, same, none) in
            let next : first ≡ k + 2 = omega (arith, same, none, one) in
            subst (λ (w : ℕ). is_cut wiring account line k w ≡ true) next
            (subst (λ (p : ℕ). is_cut wiring account line p first ≡ true) place (stands.before (omega (arith, same, none))))
        cut k same (suc before) some =
            let low = inside.0 in
            let place : first - 1 + before ≡ k = omega (arith, same, some) in
            cut-blank (nat_eq (slice_index_or line k 32) 32) (is_joined wiring account (k + 2))
            (is-blank (slice_index_or line k 32)
            (ap (λ (p : ℕ). slice_index_or line p 32) (sym place)
            ∙ at before (omega (arith, some, long))
            ∙ blank-before is.before is.behind before figure (omega (arith, some))))

    ends : end_of wiring account line wheel (120 - wheel) ≡ end
    ends =
        let low = inside.0 in
        let high = inside.1 in
        let one = stands.from in
        let last = stands.to in
        ends-at wiring account line end wheel (120 - wheel) (omega (arith, high, from, one)) (omega (arith, long, last, to, one, from))
        (λ k from_wheel to_end.
        no-cut (nat_eq (slice_index_or line k 32) 32) (is_joined wiring account (k + 1)) (dark-at k (omega (arith, low, from_wheel)) to_end)
        (stands.linked (k + 1) (omega (arith, from, from_wheel)) (omega (arith, to_end, long, one))))
        (λ less. cut is.behind refl less)
      where
        cut : (behind : ℕ) → is.behind ≡ behind → end < wheel + (120 - wheel) → is_cut wiring account line end (end + 1) ≡ true
        cut zero none less =
            let one = stands.from in
            let next : first + length text ≡ end + 1 = omega (arith, none, long, one) in
            cut-apart (nat_eq (slice_index_or line end 32) 32) (is_joined wiring account (end + 1))
            (subst (λ (w : ℕ). is_joined wiring account w ≡ false) next (stands.behind (let last = stands.to in omega (arith, next, less, to, last, from, one))))
        cut (suc behind) some less =
            let place : first - 1 + (is.before + (length figure + 0)) ≡ end = omega arith in
            cut-blank (nat_eq (slice_index_or line end 32) 32) (is_joined wiring account (end + 1))
            (is-blank (slice_index_or line end 32)
            (ap (λ (p : ℕ). slice_index_or line p 32) (sym place)
            ∙ at (is.before + (length figure + 0)) (omega (arith, some, long))
            ∙ blank-behind is.before is.behind 0 figure (omega (arith, some))))

    pub figure-stands : figure_on wiring account line wheel ≡ figure
    figure-stands =
        (λ i. take (ends i - begins i) (drop (begins i) line))
        ∙ same_number_lists (take (end - begin) (drop begin line)) figure size
        (λ k low.
        let few : k < length figure = subst (λ (n : ℕ). k < n) size low in
        sym (get_or_default_zero (take (end - begin) (drop begin line)) k 32 low)
        ∙ get_or-take (end - begin) (drop begin line) k 32 (omega (arith, few))
        ∙ get_or-drop begin line k 32
        ∙ ap (λ (p : ℕ). slice_index_or line p 32) (place k)
        ∙ of-figure k few
        ∙ get_or_default_zero figure k 32 few)
      where
        place : (k : ℕ) → begin + k ≡ first - 1 + (is.before + k)
        place k = omega arith

        size : length (take (end - begin) (drop begin line)) ≡ length figure
        size =
            let last = stands.to in
            let one = stands.from in
            let many = stands.long in
            length-take (end - begin) (drop begin line)
            ∙ (let cut : length (drop begin line) ≡ 120 - begin = length-drop begin line ∙ ap (λ (n : ℕ). n - begin) many in
            omega (arith, cut, last, long, one))
