use Rattle.std.proofs.Common.{AllPairs}
use Rattle.fault_chart_words.specs.Listed.{HasAllListed, ComesBefore, BeginsAsChecked}
use Rattle.fault_chart_words.specs.HelperLists.{faults_of}
use Rattle.fault_chart_words.proofs.Answered.{IfOk-list}
use Rattle.fault_chart_words.proofs.Members.{all_listed}
use Rattle.fault_chart_words.proofs.Order.{in_order_all}
use Rattle.fault_chart_words.proofs.Exact.{begins, nothing_else}
use Rattle.fault_chart_words.proofs.listing.broken_rules.Goals as goal

pub returns-clause-exact : goal.returns-clause-exact
returns-clause-exact c =
    IfOk-list (λ v. v.items) (HasAllListed c.args.raw.now) (faults_of c.args.raw.now) c.list_faults.result c.list_faults.ensures.list (all_listed c.args.raw.now)

pub returns-clause-ordered : goal.returns-clause-ordered
returns-clause-ordered c =
    IfOk-list (λ v. v.items) (AllPairs ComesBefore) (faults_of c.args.raw.now) c.list_faults.result c.list_faults.ensures.list
    (in_order_all c.args.raw.now c.list_faults.ensures.rising)

pub returns-clause-first : goal.returns-clause-first
returns-clause-first c =
    IfOk-list (λ v. v.items) (BeginsAsChecked c.args.raw.now) (faults_of c.args.raw.now) c.list_faults.result c.list_faults.ensures.list
    (begins c.args.raw.now (faults_of c.args.raw.now) (all_listed c.args.raw.now))

pub returns-clause-complete : goal.returns-clause-complete
returns-clause-complete c = nothing_else
