-- Steps of the loop that passes tokens.
use Rattle.std.proofs.Common.{◌≡◌, ℕ, suc, ◌+◌, ◌-◌, ◌<◌, ◌≤◌, List, length, drop, sym, ap, ◌∙◌, arith, length-drop}
use Rattle.std.specs.List.{prefix_len}
use Rattle.std.proofs.lemmas.List.{drop-drop}
use Rattle.chart_lines.specs.TokensWords.Dividing.{is_space}
use Rattle.fault_slips.specs.LineMarks.Spans.{first_end, token_start}

-- so many bytes are passed with so many of the tokens
pub record Passed (index place passed : ℕ) (line : List ℕ) : Type 0 where
  pub within : passed ≤ length line
  pub left : token_start index line ≡ passed + token_start (index - place) (drop passed line)

-- one token more
one_left : (left : ℕ) (passed : ℕ) (line : List ℕ) → passed + token_start (suc left) (drop passed line)
    ≡ (passed + first_end (drop passed line)) + token_start left (drop (passed + first_end (drop passed line)) line)
unfolding token_start
one_left left passed line =
    ap (λ (l : List ℕ). passed + (first_end (drop passed line) + token_start left l)) (drop-drop (first_end (drop passed line)) passed line)
    ∙ (omega arith)

pub Passed-more : (index place passed end : ℕ) (line : List ℕ) → place < index → end ≡ first_end (drop passed line)
    → end ≤ length (drop passed line) → Passed index place passed line → Passed index (place + 1) (passed + end) line
Passed-more index place passed end line more is within before = record {
  within = omega (arith, within, before.within, length-drop passed line);
  left =
      let one : index - place ≡ suc (index - (place + 1)) = omega (arith, more) in
      before.left
      ∙ ap (λ n. passed + token_start n (drop passed line)) one
      ∙ one_left (index - (place + 1)) passed line
      ∙ ap (λ n. (passed + n) + token_start (index - (place + 1)) (drop (passed + n) line)) (sym is);
}

-- no token more
pub Passed-all : (index place passed : ℕ) (line : List ℕ) → index ≤ place → Passed index place passed line
    → passed + prefix_len is_space (drop passed line) ≡ token_start index line
unfolding token_start
Passed-all index place passed line all before =
    let none : index - place ≡ 0 = omega (arith, all) in
    sym (before.left ∙ ap (λ n. passed + token_start n (drop passed line)) none)
