use Rattle.std.proofs.Common.{arith}
use Rattle.chart_lines.proofs.TokensWords.Dividing.{tokens_of-cut_plain, prefix_len-plain}
use Rattle.chart_lines.proofs.tokens.line.first_plain.Goals as goal

pub returns-then-is_apart : goal.returns-then-is_apart
returns-then-is_apart c = record {
  shorter = omega
      (arith, prefix_len-plain c.args.line.now c.requires.some c.requires.no_space c.requires.no_apostrophe);
  tokens =
      tokens_of-cut_plain c.args.line.now _ _ _ _ c.requires.some c.requires.no_space c.requires.no_apostrophe
      c.plain_bytes_before.ensures.value c.split_at.ensures.front c.split_at.ensures.back c.if-is_apart.ensures;
}

pub returns-else-is_apart-clause-tokens : goal.returns-else-is_apart-clause-tokens
returns-else-is_apart-clause-tokens c =
    tokens_of-cut_plain c.args.line.now _ _ _ _ c.requires.some c.requires.no_space c.requires.no_apostrophe
    c.plain_bytes_before.ensures.value c.split_at.ensures.front c.split_at.ensures.back c.if-is_apart.ensures
