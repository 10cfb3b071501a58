use Rattle.std.proofs.Common.{map}
use Rattle.rc_pattern.specs.Meaning.{byte_range}
use Rattle.rc_program.specs.Places.{places_of}
use Rattle.rc_pikevm.proofs.FlagLemmas.{byte_flag}
use Rattle.rc_pikevm.proofs.moves.takes_byte.Goals as goal

pub returns : goal.returns
returns c n is =
    byte_flag (places_of c.args.program.now.places.items) c.args.place c.args.byte n (map byte_range c.args.ranges.now.items) c.in-Some.goes is
    c.in-Some.ensures
