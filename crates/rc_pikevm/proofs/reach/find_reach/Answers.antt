use Rattle.std.proofs.Common.{◌≡◌, ◌∙◌, sym, true≢false}
use Rattle.rc_text.specs.declared.types.MatchKind.TheVariants.{LeftmostFirst, LeftmostLongest, All}
use Rattle.rc_pikevm.proofs.reach.find_reach.Goals as goal

longest_apart : LeftmostLongest ≡ LeftmostFirst → ⊥
longest_apart e = cc

all_apart : All ≡ LeftmostFirst → ⊥
all_apart e = cc

pub returns-then-program-clause-sharp : goal.returns-then-program-clause-sharp
returns-then-program-clause-sharp g c e free = absurd (true≢false (sym c.if-program.true ∙ free))

pub returns-in-LeftmostLongest-clause-sharp : goal.returns-in-LeftmostLongest-clause-sharp
returns-in-LeftmostLongest-clause-sharp g c e = absurd (longest_apart (sym c.in-LeftmostLongest.is ∙ e))

pub returns-in-All-clause-sharp : goal.returns-in-All-clause-sharp
returns-in-All-clause-sharp g c e = absurd (all_apart (sym c.in-All.is ∙ e))
