-- What comparing tells of a whole card cycle.
use Rattle.std.proofs.Common.{◌≡◌, ◌≢◌, ◌∙◌, ◌⊎◌, inl, inr, ◌&&◌, ◌||◌, ◌==◌, not, ℕ, ◌-◌, ◌<◌, suc, Bool, true, false, List, [], ◌∷◌, replicate, refl, sym, ap, arith, slice_index_or}
use Rattle.std.specs.List.{list_any}
use Rattle.std.proofs.Math.Bool.{or-false}
use Rattle.std.proofs.lemmas.Bool.Decides.{eqb_tells, nat_tests}
use Rattle.std.proofs.lemmas.List.{get_or-replicate}
use Rattle.card_code.specs.Rows.{passing_place, rows}
use Rattle.card_code.specs.declared.row.Row.{Row as CardRow}
use Rattle.card_code.specs.declared.row.Row.TheVariants.{Nine}
use Rattle.hubs.specs.HubTable.Ranges.{is_within}
use Rattle.hubs.specs.declared.hub.Hub.{Hub}
use Rattle.hubs.specs.declared.hub.Hub.TheVariants.{CA, CB}
use Rattle.net.specs.HubSets.{is_bit}
use Rattle.stations.specs.Comparing.{comparing_at_start, are_unlike, differ_at, set_after_point}
use Rattle.stations.specs.Laws.{ComparingTellsDifferences, compared_after}
use Rattle.stations.proofs.RowsCollected.{bit-after, set-after, set_after, sets_after}
use Rattle.stations.proofs.RowWords.{no_bit}

-- what is collected of an entry over a card cycle
abbrev collected : (CardRow → Bool) → ℕ
collected is_impulsed = set_after rows is_impulsed 0

-- it has a row exactly if the entry was impulsed there
collected-row : (is_impulsed : CardRow → Bool) (at : CardRow) → is_bit (collected is_impulsed) (passing_place at) ≡ is_impulsed at
collected-row is_impulsed at =
    bit-after rows is_impulsed 0 (passing_place at)
    ∙ ap (λ b. b || list_any (λ row. (passing_place at == passing_place row) && is_impulsed row) rows) (no_bit (passing_place at))
    ∙ own at
  where
    own : (at : CardRow) → list_any (λ row. (passing_place at == passing_place row) && is_impulsed row) rows ≡ is_impulsed at
    own Nine = or-false (is_impulsed Nine)
    own other = or-false (is_impulsed other)

-- where no row is unlike the same is collected
same-collected : (one other : CardRow → Bool) (list : List CardRow) (set : ℕ)
    → list_any (λ row. are_unlike (one row) (other row)) list ≡ false → set_after list one set ≡ set_after list other set
same-collected one other [] set none = refl
same-collected one other (row ∷ others) set none =
    let parts = alike (one row) (other row) (list_any (λ r. are_unlike (one r) (other r)) others) none in
    ap (λ (b : Bool). set_after others one (set_after_point (passing_place row) b set)) parts.0
    ∙ same-collected one other others (set_after_point (passing_place row) (other row) set) parts.1
  where
    alike : (a b c : Bool) → (are_unlike a b || c) ≡ false → (a ≡ b) × (c ≡ false)
    alike true true c e = (refl, e)
    alike true false c e = cc
    alike false true c e = cc
    alike false false c e = (refl, e)

-- the sets of two entries differ exactly if a row is unlike
unlike-collected : (one other : CardRow → Bool)
    → not (collected one == collected other) ≡ list_any (λ row. are_unlike (one row) (other row)) rows
unlike-collected one other = by (eqb_tells (collected one) (collected other))
  where
    unlike : CardRow → Bool
    unlike row = are_unlike (one row) (other row)

    alike : (a b : Bool) → a ≡ b → are_unlike a b ≡ false
    alike true true same = refl
    alike true false same = cc
    alike false true same = cc
    alike false false same = refl

    some : collected one ≢ collected other → (any : Bool) → list_any unlike rows ≡ any → true ≡ any
    some apart true is = refl
    some apart false is = absurd (apart (same-collected one other rows 0 is))

    by : ((collected one == collected other) ≡ true) × (collected one ≡ collected other)
        ⊎ ((collected one == collected other) ≡ false) × (collected one ≢ collected other)
        → not (collected one == collected other) ≡ list_any unlike rows
    by (inl same) =
        let each = λ (row : CardRow). alike (one row) (other row)
        (sym (collected-row one row) ∙ ap (λ (w : ℕ). is_bit w (passing_place row)) same.1 ∙ collected-row other row) in
        ap not same.0 ∙ sym (λ i. list_any (λ row. each row i) rows)
    by (inr apart) = ap not apart.0 ∙ some apart.1 (list_any unlike rows) refl

pub tells_differences : ComparingTellsDifferences
tells_differences pictures p = by (is_within p 30) refl
  where
    by : (within : Bool) → is_within p 30 ≡ within
        → (within && differ_at (compared_after rows pictures comparing_at_start) (p - 1))
        ≡ (within && list_any (λ row. are_unlike (pictures row (CA p)) (pictures row (CB p))) rows)
    by false is = refl
    by true is =
        (λ i. not (each CA i == each CB i)) ∙ unlike-collected (λ row. pictures row (CA p)) (λ row. pictures row (CB p))
      where
        low : p - 1 < 30
        low = grind (arith, nat_tests, is)

        each : (entry : ℕ → Hub)
            → slice_index_or (sets_after rows (λ row q. pictures row (entry q)) (replicate 30 0)) (p - 1) 0 ≡ collected (λ row. pictures row (entry p))
        each entry =
            let same : suc (p - 1) ≡ p = grind (arith, nat_tests, is) in
            set-after rows (λ row q. pictures row (entry q)) (replicate 30 0) (p - 1) low
            ∙ ap (set_after rows (λ row. pictures row (entry (suc (p - 1))))) (get_or-replicate {A = ℕ} 30 (p - 1) 0 0 low)
            ∙ ap (λ (q : ℕ). collected (λ row. pictures row (entry q))) same
