-- The rules that mark printed characters, line by line; and they hold no markup.
use Rattle.std.proofs.Common.{◌≡◌, ◌∙◌, refl, ap, arith, ℕ, ◌+◌, ◌<◌, ◌^◌, ◌%◌, Bool, true, false, List, [], ◌∷◌, ◌++◌, codes, decimal}
use Rattle.std.specs.Prelude.{◌&&◌, ◌==◌, if◌then◌else◌}
use Rattle.std.specs.List.{list_all}
use Rattle.std.proofs.lemmas.Bool.{and_from}
use Rattle.std.proofs.lemmas.Bool.Decides.{nat_tests}
use Rattle.std.proofs.lemmas.Fmt.{decimal_by_steps}
use Rattle.std.proofs.lemmas.List.Folds.{list_all-append}
use Rattle.page_text.specs.declared.placed_lines.placed_line.PlacedLine.{PlacedLine}
use Rattle.show_page.specs.Frame.{IsStyle, is_of_style}
use Rattle.show_page.specs.Marks.{page_rule, page_rules, rule_behind, rules_behind}

-- a style sheet behind another is one
pub style_append : (one other : List ℕ) → IsStyle one → IsStyle other → IsStyle (one ++ other)
style_append one other first next =
    list_all-append is_of_style one other ∙ ap (λ (b : Bool). b && list_all is_of_style other) first ∙ next

-- a digit, and a number
digit_is_of_style : (digit : ℕ) → digit < 10 → is_of_style (48 + digit) ≡ true
digit_is_of_style digit low = grind (arith, nat_tests, low)

digit_is_style : (digit : ℕ) → digit < 10 → IsStyle ((48 + digit) ∷ [])
digit_is_style digit low = and_from (is_of_style (48 + digit)) true (digit_is_of_style digit low) refl

number_is_style : (n : ℕ) → n < 2 ^ 64 → IsStyle (decimal n)
number_is_style n low =
    decimal_by_steps (λ m ds. IsStyle ds) digit_is_style
    (λ m ds more before. style_append ds ((48 + m % 10) ∷ []) before (digit_is_style (m % 10) (omega arith))) n low

-- a style sheet behind which a piece of one and a number stand
numbered : (one piece : List ℕ) (number : ℕ) → number < 2 ^ 64 → IsStyle one → IsStyle piece → IsStyle (one ++ piece ++ decimal number)
numbered one piece number low first second =
    style_append (one ++ piece) (decimal number) (style_append one piece first second) (number_is_style number low)

page_rule_is_style : (page : ℕ) → page < 2 ^ 64 → IsStyle (page_rule page)
unfolding page_rule
page_rule_is_style page low =
    let target = codes "body:has(>aside>:target[id^=p" ++ decimal page in
    let sheet = codes "l][id*=w]) #page" in
    style_append (target ++ sheet ++ decimal page) (codes "{--lt:inherit;--lu:inherit;--wt:inherit;--wu:inherit}\n")
    (numbered target sheet page low (style_append (codes "body:has(>aside>:target[id^=p") (decimal page) refl (number_is_style page low)) refl)
    refl

pub rule_behind_is_style : (before page : ℕ) → page < 2 ^ 64 → IsStyle (rule_behind before page)
rule_behind_is_style before page low = by (page == before) where
  by : (same : Bool) → IsStyle (if same then [] else page_rule page)
  by true = refl
  by false = page_rule_is_style page low

-- What is written so far, with the rules of the lines that are left, is what is to be written. These hold no markup if those don't.
pub record RulesLeft (old text : List ℕ) (before : ℕ) (left lines : List PlacedLine) : Type 0 where
  pub rules : text ++ rules_behind before left ≡ old ++ page_rules lines
  pub style : IsStyle (rules_behind before left) → IsStyle (page_rules lines)
