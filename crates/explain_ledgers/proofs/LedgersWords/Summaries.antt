-- What is kept of a ledger, entry by entry.
use Rattle.std.proofs.Common.{◌≡◌, ◌∙◌, sym, ap, refl, ℕ, zero, suc, ◌+◌, ◌-◌, ◌<◌, ◌≤◌, ltb, Bool, true, false, List, [], ◌∷◌, ◌++◌, length, drop, take, arith, if◌then◌else◌, append-nil}
use Rattle.std.proofs.lemmas.Bool.Decides.{nat_tests}
use Rattle.std.proofs.lemmas.Grind.{common_steps}
use Rattle.std.specs.Prelude.{sum_by}
use Rattle.net.specs.declared.cycle.Cycle.{Cycle}
use Rattle.explain_ledgers.specs.LedgersWords.Entries.{entry_of, is_added, is_cleared, ledger_after}
use Rattle.explain_ledgers.specs.LedgersWords.Summaries.{Summary, between_of, emptied, entry_carry, entry_minus, entry_plus, kept_last, last_of, left_out_of, pushed, shifted, shifted_by, summary_after, summary_of, with_left_out}
use Rattle.explain_ledgers.specs.declared.ledgers.account.Account.{Account}
use Rattle.explain_ledgers.specs.declared.ledgers.entry.Entry.{Entry}
use Rattle.explain_ledgers.specs.declared.ledgers.entry.Movement.{Movement}
use Rattle.explain_ledgers.specs.declared.ledgers.ledger.LeftOut.{LeftOut}

module _ {X : Type 0} where
  take-none : (n : ℕ) → take {A = X} n [] ≡ []
  take-none zero = refl
  take-none (suc n) = refl

  drop-none : (n : ℕ) → drop {A = X} n [] ≡ []
  drop-none zero = refl
  drop-none (suc n) = refl

  take-short : (n : ℕ) (xs : List X) (x : X) → length xs < n → take n (xs ++ x ∷ []) ≡ xs ++ x ∷ []
  take-short zero xs x less = absurd (omega (arith, less))
  take-short (suc n) [] x less = ap (λ (l : List X). x ∷ l) (take-none n)
  take-short (suc n) (y ∷ xs) x less = ap (λ (l : List X). y ∷ l) (take-short n xs x (omega (arith, less)))

  take-all-of : (n : ℕ) (xs : List X) → length xs ≤ n → take n xs ≡ xs
  take-all-of n [] less = take-none n
  take-all-of zero (y ∷ xs) less = absurd (omega (arith, less))
  take-all-of (suc n) (y ∷ xs) less = ap (λ (l : List X). y ∷ l) (take-all-of n xs (omega (arith, less)))

  drop-all-of : (n : ℕ) (xs : List X) → length xs ≤ n → drop n xs ≡ []
  drop-all-of zero [] less = refl
  drop-all-of (suc n) [] less = refl
  drop-all-of zero (y ∷ xs) less = absurd (omega (arith, less))
  drop-all-of (suc n) (y ∷ xs) less = drop-all-of n xs (omega (arith, less))

  take-long : (n : ℕ) (xs : List X) (x : X) → n ≤ length xs → take n (xs ++ x ∷ []) ≡ take n xs
  take-long zero xs x less = refl
  take-long (suc n) [] x less = absurd (omega (arith, less))
  take-long (suc n) (y ∷ xs) x less = ap (λ (l : List X). y ∷ l) (take-long n xs x (omega (arith, less)))

  drop-long : (n : ℕ) (xs : List X) (x : X) → n ≤ length xs → drop n (xs ++ x ∷ []) ≡ drop n xs ++ x ∷ []
  drop-long zero xs x less = refl
  drop-long (suc n) [] x less = absurd (omega (arith, less))
  drop-long (suc n) (y ∷ xs) x less = drop-long n xs x (omega (arith, less))

  pub length-take-within : (n : ℕ) (xs : List X) → length (take n xs) ≤ length xs
  length-take-within zero xs = omega arith
  length-take-within (suc n) [] = omega arith
  length-take-within (suc n) (x ∷ xs) = let less = length-take-within n xs in omega (arith, less)

  pub length-drop-within : (n : ℕ) (xs : List X) → length (drop n xs) ≤ length xs
  length-drop-within zero xs = omega arith
  length-drop-within (suc n) [] = omega arith
  length-drop-within (suc n) (x ∷ xs) = let less = length-drop-within n xs in omega (arith, less)

  pub length-one : (xs : List X) (x : X) → length (xs ++ x ∷ []) ≡ length xs + 1
  length-one [] x = refl
  length-one (y ∷ xs) x = let is = length-one xs x in omega (arith, is)

  -- the first of what is behind so many
  take-one : (n : ℕ) (xs others : List X) (x : X) → drop n xs ≡ x ∷ others → take (suc n) xs ≡ take n xs ++ x ∷ []
  take-one zero [] others x is = absurd (grind (arith, is))
  take-one zero (y ∷ xs) others x is = grind (arith, is)
  take-one (suc n) [] others x is = absurd (grind (arith, is))
  take-one (suc n) (y ∷ xs) others x is = ap (λ (l : List X). y ∷ l) (take-one n xs others x is)

  drop-one : (n : ℕ) (xs others : List X) (x : X) → drop n xs ≡ x ∷ others → drop (suc n) xs ≡ others
  drop-one zero [] others x is = absurd (grind (arith, is))
  drop-one zero (y ∷ xs) others x is = grind (arith, is)
  drop-one (suc n) [] others x is = absurd (grind (arith, is))
  drop-one (suc n) (y ∷ xs) others x is = drop-one n xs others x is

  length-drop-of : (n : ℕ) (xs : List X) → n ≤ length xs → length (drop n xs) + n ≡ length xs
  length-drop-of zero xs less = omega arith
  length-drop-of (suc n) [] less = absurd (omega (arith, less))
  length-drop-of (suc n) (y ∷ xs) less = let is = length-drop-of n xs (omega (arith, less)) in omega (arith, is)

  sum-one : (f : X → ℕ) (xs : List X) (x : X) → sum_by f (xs ++ x ∷ []) ≡ sum_by f xs + f x
  sum-one f xs x = grind (arith, common_steps)

-- one entry more is left out
left-out-one : (entries : List Entry) (entry : Entry) → left_out_of (entries ++ entry ∷ []) ≡ with_left_out entry (left_out_of entries)
left-out-one entries entry =
    by (length (entries ++ entry ∷ [])) (sum_by entry_plus (entries ++ entry ∷ [])) (sum_by entry_minus (entries ++ entry ∷ []))
    (sum_by entry_carry (entries ++ entry ∷ []))
    (length-one entries entry) (sum-one entry_plus entries entry) (sum-one entry_minus entries entry) (sum-one entry_carry entries entry)
  where
    by : (count plus minus carries : ℕ) → count ≡ length entries + 1 → plus ≡ sum_by entry_plus entries + entry_plus entry
        → minus ≡ sum_by entry_minus entries + entry_minus entry → carries ≡ sum_by entry_carry entries + entry_carry entry
        → record { count = count; plus = plus; minus = minus; carries = carries } ≡ with_left_out entry (left_out_of entries)
    by count plus minus carries one two three four =
        let more_plus = sum_by entry_plus entries + entry_plus entry in
        let more_minus = sum_by entry_minus entries + entry_minus entry in
        ap (λ (n : ℕ). record { count = n; plus = plus; minus = minus; carries = carries }) one
        ∙ ap (λ (n : ℕ). record { count = length entries + 1; plus = n; minus = minus; carries = carries }) two
        ∙ ap (λ (n : ℕ). record { count = length entries + 1; plus = more_plus; minus = n; carries = carries }) three
        ∙ ap (λ (n : ℕ). record { count = length entries + 1; plus = more_plus; minus = more_minus; carries = n }) four

-- what is kept, by its parts
abbrev kept : Account → ℕ → List Entry → List Entry → List Entry → Summary
kept account ends first between last =
    record { account = account; ends = ends; first = first; left_out = left_out_of between; last = last }

same-kept : (account : Account) (ends : ℕ) (first other_first between other_between last other_last : List Entry) → first ≡ other_first
    → between ≡ other_between → last ≡ other_last
    → kept account ends first between last ≡ kept account ends other_first other_between other_last
same-kept account ends first other_first between other_between last other_last one two three =
    ap (λ (l : List Entry). kept account ends l between last) one
    ∙ ap (λ (l : List Entry). kept account ends other_first l last) two
    ∙ ap (λ (l : List Entry). kept account ends other_first other_between l) three

-- a ledger with no more entries than are kept at one end
summary-short : (account : Account) (ends : ℕ) (entries : List Entry) → length entries ≤ ends
    → summary_of account ends entries ≡ kept account ends entries [] []
summary-short account ends entries less =
    let none = drop-all-of ends entries less in
    same-kept account ends (take ends entries) entries (between_of ends (drop ends entries)) [] (last_of ends (drop ends entries)) []
    (take-all-of ends entries less)
    (ap (between_of ends) none ∙ take-none (0 - ends))
    (ap (last_of ends) none ∙ drop-none (0 - ends))

pushed-first : (account : Account) (ends : ℕ) (first : List Entry) (entry : Entry) → length first < ends
    → pushed entry (kept account ends first [] []) ≡ kept account ends (first ++ entry ∷ []) [] []
pushed-first account ends first entry less = by (ltb (length first) ends) (grind (arith, nat_tests, less))
  where
    by : (b : Bool) → b ≡ true
        → (if b then kept account ends (first ++ entry ∷ []) [] []
        else if ltb ends (length (kept_last entry (kept account ends first [] [])).last)
        then shifted (kept_last entry (kept account ends first [] [])) else kept_last entry (kept account ends first [] []))
        ≡ kept account ends (first ++ entry ∷ []) [] []
    by true is = refl
    by false is = absurd (grind (arith, nat_tests, is))

pushed-last : (account : Account) (ends : ℕ) (first between last : List Entry) (entry : Entry) → (length first < ends → ⊥)
    → length last < ends
    → pushed entry (kept account ends first between last) ≡ kept account ends first between (last ++ entry ∷ [])
pushed-last account ends first between last entry full less =
    by (ltb (length first) ends) (ltb ends (length (last ++ entry ∷ []))) (grind (arith, nat_tests, full))
    (let one = length-one last entry in grind (arith, nat_tests, less, one))
  where
    by : (b d : Bool) → b ≡ false → d ≡ false
        → (if b then record (kept account ends first between last) { first = first ++ entry ∷ [] }
        else if d then shifted (kept_last entry (kept account ends first between last))
        else kept_last entry (kept account ends first between last))
        ≡ kept account ends first between (last ++ entry ∷ [])
    by true d is other = absurd (grind (arith, nat_tests, is))
    by false true is other = absurd (grind (arith, nat_tests, other))
    by false false is other = refl

pushed-out : (account : Account) (ends : ℕ) (first between last others : List Entry) (entry gone : Entry) → (length first < ends → ⊥)
    → length last ≡ ends → last ++ entry ∷ [] ≡ gone ∷ others
    → pushed entry (kept account ends first between last) ≡ kept account ends first (between ++ gone ∷ []) others
pushed-out account ends first between last others entry gone full long is =
    by (ltb (length first) ends) (ltb ends (length (last ++ entry ∷ []))) (grind (arith, nat_tests, full))
    (let one = length-one last entry in grind (arith, nat_tests, long, one))
    ∙ ap (λ (l : List Entry). shifted_by (record (kept account ends first between last) { last = l }) l) is
    ∙ ap (λ (l : LeftOut). record { account = account; ends = ends; first = first; left_out = l; last = others })
    (sym (left-out-one between gone))
  where
    by : (b d : Bool) → b ≡ false → d ≡ true
        → (if b then record (kept account ends first between last) { first = first ++ entry ∷ [] }
        else if d then shifted (kept_last entry (kept account ends first between last))
        else kept_last entry (kept account ends first between last))
        ≡ shifted (kept_last entry (kept account ends first between last))
    by true d is other = absurd (grind (arith, nat_tests, is))
    by false true is other = refl
    by false false is other = absurd (grind (arith, nat_tests, other))

length-take-of : {X : Type 0} (n : ℕ) (xs : List X) → n ≤ length xs → length (take n xs) ≡ n
length-take-of zero xs within = refl
length-take-of (suc n) [] within = absurd (omega (arith, within))
length-take-of (suc n) (x ∷ xs) within = ap suc (length-take-of n xs (omega (arith, within)))

-- one entry more, where more than the first ones are there
module _ (account : Account) (ends : ℕ) (first rest : List Entry) (entry : Entry) (full : length first < ends → ⊥) where
  abbrev behind : ℕ
  behind = length rest - ends

  few : length rest < ends
      → pushed entry (kept account ends first (between_of ends rest) (last_of ends rest))
      ≡ kept account ends first (between_of ends (rest ++ entry ∷ [])) (last_of ends (rest ++ entry ∷ []))
  few low =
      let none : length rest - ends ≡ 0 = omega (arith, low) in
      let one = length-one rest entry in
      let none_yet : length (rest ++ entry ∷ []) - ends ≡ 0 = omega (arith, low, one) in
      ap (pushed entry)
      (same-kept account ends first first (between_of ends rest) [] (last_of ends rest) rest refl
      (ap (λ (n : ℕ). take n rest) none) (ap (λ (n : ℕ). drop n rest) none))
      ∙ pushed-last account ends first [] rest entry full low
      ∙ sym (same-kept account ends first first (between_of ends (rest ++ entry ∷ [])) [] (last_of ends (rest ++ entry ∷ []))
      (rest ++ entry ∷ []) refl (ap (λ (n : ℕ). take n (rest ++ entry ∷ [])) none_yet)
      (ap (λ (n : ℕ). drop n (rest ++ entry ∷ [])) none_yet))

  many : ends ≤ length rest → (tail : List Entry) → drop behind rest ++ entry ∷ [] ≡ tail
      → pushed entry (kept account ends first (between_of ends rest) (last_of ends rest))
      ≡ kept account ends first (between_of ends (rest ++ entry ∷ [])) (last_of ends (rest ++ entry ∷ []))
  many high [] is = absurd (let one = length-one (drop behind rest) entry in let none = ap length is in omega (arith, one, none))
  many high (gone ∷ others) is =
      let within : behind ≤ length rest = omega (arith, high) in
      let long = length-drop-of behind rest within in
      let split : drop behind (rest ++ entry ∷ []) ≡ gone ∷ others = drop-long behind rest entry within ∙ is in
      let one = length-one rest entry in
      let next : length (rest ++ entry ∷ []) - ends ≡ suc behind = omega (arith, one, high) in
      pushed-out account ends first (take behind rest) (drop behind rest) others entry gone full (omega (arith, long, high)) is
      ∙ sym (same-kept account ends first first (between_of ends (rest ++ entry ∷ [])) (take behind rest ++ gone ∷ [])
      (last_of ends (rest ++ entry ∷ [])) others refl
      (ap (λ (n : ℕ). take n (rest ++ entry ∷ [])) next
      ∙ take-one behind (rest ++ entry ∷ []) others gone split
      ∙ ap (λ (l : List Entry). l ++ gone ∷ []) (take-long behind rest entry within))
      (ap (λ (n : ℕ). drop n (rest ++ entry ∷ [])) next ∙ drop-one behind (rest ++ entry ∷ []) others gone split))

  pushed-behind : (b : Bool) → ltb (length rest) ends ≡ b
      → pushed entry (kept account ends first (between_of ends rest) (last_of ends rest))
      ≡ kept account ends first (between_of ends (rest ++ entry ∷ [])) (last_of ends (rest ++ entry ∷ []))
  pushed-behind true is = few (grind (arith, nat_tests, is))
  pushed-behind false is = many (grind (arith, nat_tests, is)) (drop behind rest ++ entry ∷ []) refl

pushed-long : (account : Account) (ends : ℕ) (entries : List Entry) (entry : Entry) → ends ≤ length entries
    → pushed entry (summary_of account ends entries) ≡ summary_of account ends (entries ++ entry ∷ [])
pushed-long account ends entries entry less =
    let first : List Entry = take ends entries in
    let rest : List Entry = drop ends entries in
    let long = length-take-of ends entries less in
    pushed-behind account ends first rest entry (λ low. omega (arith, low, long)) (ltb (length rest) ends) refl
    ∙ sym (same-kept account ends (take ends (entries ++ entry ∷ [])) first (between_of ends (drop ends (entries ++ entry ∷ [])))
    (between_of ends (rest ++ entry ∷ [])) (last_of ends (drop ends (entries ++ entry ∷ []))) (last_of ends (rest ++ entry ∷ []))
    (take-long ends entries entry less) (ap (between_of ends) (drop-long ends entries entry less))
    (ap (last_of ends) (drop-long ends entries entry less)))

-- one entry more
pub pushed-summary : (account : Account) (ends : ℕ) (entries : List Entry) (entry : Entry)
    → pushed entry (summary_of account ends entries) ≡ summary_of account ends (entries ++ entry ∷ [])
pushed-summary account ends entries entry = by (ltb (length entries) ends) refl
  where
    by : (b : Bool) → ltb (length entries) ends ≡ b
        → pushed entry (summary_of account ends entries) ≡ summary_of account ends (entries ++ entry ∷ [])
    by true is =
        let less : length entries < ends = grind (arith, nat_tests, is) in
        let one = length-one entries entry in
        ap (pushed entry) (summary-short account ends entries (omega (arith, less)))
        ∙ pushed-first account ends entries entry less
        ∙ sym (summary-short account ends (entries ++ entry ∷ []) (omega (arith, less, one)))
    by false is = pushed-long account ends entries entry (grind (arith, nat_tests, is))

emptied-summary : (account : Account) (ends : ℕ) (entries : List Entry) → emptied (summary_of account ends entries) ≡ summary_of account ends []
emptied-summary account ends entries =
    sym (summary-short account ends [] (omega arith))

-- one cycle more
pub summary-after : (account : Account) (ends : ℕ) (cycle : Cycle) (card passed : ℕ) (moved : Movement) (entries : List Entry)
    → summary_after cycle card passed moved (summary_of account ends entries)
    ≡ summary_of account ends (ledger_after cycle card passed moved entries)
summary-after account ends cycle card passed moved entries =
    by (is_cleared moved) (is_added moved) (entry_of cycle card passed moved)
  where
    by : (cleared added : Bool) (entry : Entry)
        → (if added then pushed entry (if cleared then emptied (summary_of account ends entries) else summary_of account ends entries)
        else if cleared then emptied (summary_of account ends entries) else summary_of account ends entries)
        ≡ summary_of account ends ((if cleared then [] else entries) ++ (if added then entry ∷ [] else []))
    by true true entry = ap (pushed entry) (emptied-summary account ends entries) ∙ pushed-summary account ends [] entry
    by true false entry = emptied-summary account ends entries
    by false true entry = pushed-summary account ends entries entry
    by false false entry = ap (summary_of account ends) (sym (append-nil entries))
