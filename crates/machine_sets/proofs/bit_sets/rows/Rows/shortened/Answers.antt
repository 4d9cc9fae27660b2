use Rattle.std.proofs.Common.{List, ℕ, ◌≡◌, ◌∙◌, [], sym, ap, subst, length, slice_index_or, rules}
use Rattle.std.proofs.lemmas.List.{get_or_read_under}
use Rattle.machine_sets.specs.BitSets.Shorts.{IsShort}
use Rattle.machine_sets.proofs.BitSets.ShortLemmas.{AreShorts-more}
use Rattle.machine_sets.proofs.bit_sets.rows.Rows.shortened.Goals as goal

pub loop-from-preserved : goal.loop-from-preserved
loop-from-preserved c =
    let row : c.index.result.now ≡ slice_index_or c.args.self.now (length c.loop-from.shorts.items) [] =
    get_or_read_under c.self.inside.rows.items c.loop-from.from c.len-from-end.result c.index.result.now [] c.index.ensures
    c.loop-from-test.true (search rules)
    ∙ ap (λ (rows : List (List ℕ)). slice_index_or rows c.loop-from.from []) c.self.view_is
    ∙ ap (λ n. slice_index_or c.args.self.now n []) (sym c.loop-from.invariant.long) in
    record {
      long = search rules;
      are = AreShorts-more c.args.self.now c.loop-from.shorts.items c.push.new.self.items c.short_of.result c.loop-from.invariant.are
          (subst (λ (r : List ℕ). IsShort r c.short_of.result) row c.short_of.ensures) c.in_ok-push.ensures.items;
    }
