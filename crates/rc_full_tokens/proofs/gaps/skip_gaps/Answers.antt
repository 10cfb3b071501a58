use Rattle.std.proofs.Common.{subst, sym}
use Rattle.rc_full_tokens.specs.Gaps.{Gaps}
use Rattle.rc_full_tokens.proofs.GapLemmas.{gaps_end}
use Rattle.rc_full_tokens.proofs.gaps.skip_gaps.Goals as goal

pub returns : goal.returns
returns c = subst (λ u. Gaps c.args.text.now u) (sym c.behind_gaps.ensures) (gaps_end c.args.text.now)
