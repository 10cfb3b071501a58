use Rattle.std.proofs.Common.{ap}
use Rattle.rc_text.specs.Text.{high}
use Rattle.api_meta.specs.Left.{left_in}
use Rattle.api_meta.proofs.Cuts.{cut, same_high}
use Rattle.api_meta.proofs.iterators.Pieces.next_piece.Goals as goal

pub returns-clause-limited : goal.returns-clause-limited
returns-clause-limited g c = λ n.
    let p = c.args.self.now in
    let i = c.args.input.now in
    cut n p.is_done p.start (high i) (high c.next_match.new.input) c.in-Some.found (left_in p.seeker i)
    (left_in c.next_match.new.self c.next_match.new.input) c.end-self.result (record { start = p.start; end = c.start.result }) c.if-self.false c.in-Some.ensures.steps
    (same_high i c.next_match.new.input c.next_match.ensures.moves) c.end-self.ensures.value
    (ap (λ end. record { start = p.start; end = end }) c.start.ensures.value)
