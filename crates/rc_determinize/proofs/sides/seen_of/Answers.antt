use Rattle.std.proofs.Common.{ap, sym, ◌∙◌, false, nat_eq}
use Rattle.rc_determinize.specs.Sides.{seen_of}
use Rattle.rc_determinize.proofs.SidesLemmas.{byte_letter, byte_broken}
use Rattle.rc_determinize.proofs.sides.seen_of.Goals as goal

pub returns-in-Some : goal.returns-in-Some
returns-in-Some c =
    let found = c.in-Some.found in
    let word = c.is_word_byte-word.ensures in
    (λ i. record {
      edge = false;
      terminator = nat_eq found c.args.terminator;
      line_feed = nat_eq found 10;
      carriage_return = nat_eq found 13;
      word = word i;
      letter = (word ∙ byte_letter found) i;
      broken = byte_broken found i;
    })
    ∙ ap (seen_of c.args.terminator) (sym c.in-Some.is)
