use Rattle.std.proofs.Common.{◌≡◌, ◌+◌, ◌*◌, arith}
use Rattle.rc_dfa.specs.declared.automaton.Direction.TheVariants.{Forwards}
use Rattle.rc_lazy_dfa.specs.Stores.{frame_of, minimum_of}
use Rattle.rc_lazy_dfa.proofs.lazy.minimum.Goals as goal
use Rattle.rc_lazy_dfa.proofs.lazy.minimum.Goals.{After-longest_list}

bytes : (c : After-longest_list) → 40 * (c.columns-width.result + 1) + 8 * c.in_ok-starts.starts + 160 + 40 * c.longest_list.result ≡ minimum_of (frame_of c.args.automaton.now Forwards)
bytes c =
    let width = c.columns-width.ensures.value in
    let starts = c.in_ok-starts.ensures in
    let entries = c.longest_list.ensures in
    omega (arith, width, starts, entries)

pub returns-then-bytes : goal.returns-then-bytes
returns-then-bytes c = let e = bytes (goal.at.returns-then-bytes c).After-longest_list in let more = c.if-bytes.true in omega (arith, e, more)

pub returns : goal.returns
returns c = bytes (goal.at.returns c).After-longest_list
