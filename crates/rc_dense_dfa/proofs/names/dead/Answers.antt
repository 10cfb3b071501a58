use Rattle.std.proofs.Common.{ap, List, ℕ, None, false}
use Rattle.rc_determinize.specs.States.{State}
use Rattle.rc_dense_dfa.proofs.names.dead.Goals as goal

pub returns : goal.returns
returns c =
    ap (λ (list : List ℕ). let s : State = record {
      list = list;
      beside = record { edge = false; terminator = false; line_feed = false; carriage_return = false; word = false; letter = false; broken = false };
      goes_on = false;
      matched = None;
    } in s) c.new.ensures.items
