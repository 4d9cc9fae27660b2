-- Lists that a loop gathers.
use Rattle.std.proofs.Common.{◌≡◌, ◌∙◌, ◌<◌, ◌≤◌, ◌+◌, sym, ap, subst, refl, ℕ, List, [], ◌∷◌, ◌++◌, Option, Some, None, length, get_or, drop, append-nil}
use Rattle.std.proofs.lemmas.List.{append_assoc, at_drop_all, at_drop_more}
use Rattle.std.proofs.lemmas.List.Elements.{All-get_or, All-nil, All-push}
use Rattle.std.specs.Option.{option_to_list}
use Rattle.std.specs.Prelude.{IfSome}
use Rattle.chart_lines.specs.declared.charts.chart.Line.{Line}
use Rattle.chart_plans.specs.PlansWords.Plans.{Lists}
use Rattle.explain_ledgers.specs.LedgersWords.Accounts.{IsAccount}
use Rattle.explain_wheel_ledgers.specs.Totals.{AreAccounts, total_on, totals_in}
use Rattle.explain_wheel_ledgers.specs.declared.chart_totals.TitledAccount.{TitledAccount}

-- the totals of the first lines are gathered
pub record Gathers (all : List Line) (plan : Lists) (lines : List Line) (place : ℕ) (totals : List TitledAccount) : Type 0 where
  pub so_far : totals ++ totals_in all plan (drop place lines) ≡ totals_in all plan lines
  pub accounts : AreAccounts totals

-- before the first line
pub gathers_none : (all : List Line) (plan : Lists) (lines : List Line) (totals : List TitledAccount) → totals ≡ []
    → Gathers all plan lines 0 totals
gathers_none all plan lines totals is =
    subst (λ (so_far : List TitledAccount). Gathers all plan lines 0 so_far) (sym is)
    (record { so_far = refl; accounts = All-nil (λ (total : TitledAccount). IsAccount total.account) })

-- the totals on what is left of the lines, by the first of them
on_left : (all : List Line) (plan : Lists) (lines : List Line) (place : ℕ) (line : Line) (total : Option TitledAccount)
    → place < length lines → line ≡ get_or lines place line → total_on all plan line.number line.statement ≡ total
    → totals_in all plan (drop place lines) ≡ option_to_list total ++ totals_in all plan (drop (place + 1) lines)
on_left all plan lines place line total within at is =
    at_drop_more (totals_in all plan) lines place line within
    ∙ ap (λ (each : Line). totals_in all plan (each ∷ drop (place + 1) lines)) (sym at)
    ∙ ap (λ (one : Option TitledAccount). option_to_list one ++ totals_in all plan (drop (place + 1) lines)) is

-- one line more, with a total
pub gathers_total : (all : List Line) (plan : Lists) (lines : List Line) (place : ℕ) (line : Line) (old new : List TitledAccount)
    (known : Option TitledAccount) (total : TitledAccount) → place < length lines → line ≡ get_or lines place line
    → known ≡ total_on all plan line.number line.statement → IfSome known (λ one. IsAccount one.account) → known ≡ Some total
    → Gathers all plan lines place old → new ≡ old ++ total ∷ [] → Gathers all plan lines (place + 1) new
gathers_total all plan lines place line old new known total within at of account is gathered pushed = record {
  so_far =
      ap (λ (front : List TitledAccount). front ++ totals_in all plan (drop (place + 1) lines)) pushed
      ∙ append_assoc old (total ∷ []) (totals_in all plan (drop (place + 1) lines))
      ∙ ap (λ (behind : List TitledAccount). old ++ behind) (sym (on_left all plan lines place line (Some total) within at (sym of ∙ is)))
      ∙ gathered.so_far;
  accounts =
      subst AreAccounts (sym pushed)
      (All-push (λ (one : TitledAccount). IsAccount one.account) old total gathered.accounts
      (subst (λ (any : Option TitledAccount). IfSome any (λ one. IsAccount one.account)) is account));
}

-- or with none
pub gathers_other : (all : List Line) (plan : Lists) (lines : List Line) (place : ℕ) (line : Line) (old new : List TitledAccount)
    → place < length lines → line ≡ get_or lines place line → total_on all plan line.number line.statement ≡ None
    → Gathers all plan lines place old → new ≡ old → Gathers all plan lines (place + 1) new
gathers_other all plan lines place line old new within at is gathered same =
    subst (λ (any : List TitledAccount). Gathers all plan lines (place + 1) any) (sym same) (record {
      so_far =
          ap (λ (behind : List TitledAccount). old ++ behind) (sym (on_left all plan lines place line None within at is))
          ∙ gathered.so_far;
      accounts = gathered.accounts;
    })

-- all lines
pub gathers_all : (all : List Line) (plan : Lists) (lines : List Line) (place : ℕ) (totals : List TitledAccount) → length lines ≤ place
    → Gathers all plan lines place totals → totals ≡ totals_in all plan lines
gathers_all all plan lines place totals past gathered =
    sym (append-nil totals) ∙ ap (λ (behind : List TitledAccount). totals ++ behind) (sym (at_drop_all (totals_in all plan) lines place past))
    ∙ gathered.so_far

-- one of some totals
pub account_at : (totals : List TitledAccount) (place : ℕ) (total : TitledAccount) → place < length totals → total ≡ get_or totals place total
    → AreAccounts totals → IsAccount total.account
account_at totals place total within at are =
    subst (λ (known : TitledAccount). IsAccount known.account) (sym at)
    (All-get_or (λ (known : TitledAccount). IsAccount known.account) totals place total within are)
