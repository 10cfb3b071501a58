use Rattle.std.proofs.Common.{map, arith}
use Rattle.rc_pattern.specs.Meaning.{char_range}
use Rattle.rc_program.specs.Places.{places_of}
use Rattle.rc_pikevm.proofs.FlagLemmas.{scalar_flag}
use Rattle.rc_pikevm.proofs.moves.takes_scalar.Goals as goal

pub returns : goal.returns
returns c n is =
    scalar_flag (places_of c.args.program.now.places.items) c.args.place c.args.c n (map char_range c.args.ranges.now.items) c.in-Some.goes is
    (omega arith) c.in-Some.ensures
