use Rattle.std.proofs.Common.{◌∙◌, sym, ap, refl, Option}
use Rattle.explain_ledgers.specs.declared.ledgers.kept.AskedLedger.{AskedLedger}
use Rattle.explain_wheel_ledgers.proofs.Accounts.{is_account_told}
use Rattle.explain_wheel_ledgers.specs.ToldLedgers.{account_told}
use Rattle.explain_wheel_ledgers.specs.declared.chart_totals.TitledAccount.{TitledAccount}
use Rattle.show_sums.proofs.SumSections.FoundSums.{sum-for}
use Rattle.show_sums.proofs.sum_sections.sums.sum_of.Goals as goal

pub groups_of-requires : goal.groups_of-requires
groups_of-requires c =
    is_account_told c.find_total-total.result c.args.one.now.wanted.place c.args.kept.asked.account
    (ap (λ (a : AskedLedger). a.account) c.requires.asked
    ∙ ap (λ (t : Option TitledAccount). account_told t c.args.one.now.wanted.place) (sym c.find_total-total.ensures.value))
    c.find_total-total.ensures.account c.requires.place

pub positions_of-requires : goal.positions_of-requires
positions_of-requires c =
    is_account_told c.find_total-total.result c.args.one.now.wanted.place c.args.kept.asked.account
    (ap (λ (a : AskedLedger). a.account) c.requires.asked
    ∙ ap (λ (t : Option TitledAccount). account_told t c.args.one.now.wanted.place) (sym c.find_total-total.ensures.value))
    c.find_total-total.ensures.account c.requires.place

pub figure_of-requires : goal.figure_of-requires
figure_of-requires c =
    is_account_told c.find_total-total.result c.args.one.now.wanted.place c.args.kept.asked.account
    (ap (λ (a : AskedLedger). a.account) c.requires.asked
    ∙ ap (λ (t : Option TitledAccount). account_told t c.args.one.now.wanted.place) (sym c.find_total-total.ensures.value))
    c.find_total-total.ensures.account c.requires.place

pub returns : goal.returns
returns c =
    sum-for c.args.setup.now c.args.totals.now c.args.cards.now c.args.one.now c.args.kept _ c.requires.found c.requires.asked c.requires.kept
    refl c.find_total-total.ensures.value refl refl c.positions_of.ensures.value c.in_ok-groups.ensures c.in_ok-figure.ensures c.in_ok-ran.ensures
