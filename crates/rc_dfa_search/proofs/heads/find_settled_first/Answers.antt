use Rattle.std.proofs.Common.{rules, ◌≡◌, ◌+◌, ◌<◌, ◌≤◌, ℕ, List, length, slice_range, arith, inl, inr, subst, sym, ap, ◌∙◌}
use Rattle.std.proofs.lemmas.Bool.{cases_lt}
use Rattle.std.proofs.lemmas.List.{length-take-le}
use Rattle.rc_text.specs.Text.{Keeps, high, low}
use Rattle.rc_text.specs.declared.types.Span.{Span}
use Rattle.rc_dfa.specs.Inside.{IsPieceOf}
use Rattle.rc_pattern.specs.Re.{Re}
use Rattle.rc_program.specs.Answer.{HasNoWalkFrom, Search}
use Rattle.rc_program.specs.Program.{program}
use Rattle.rc_reach.specs.Settled.{AgreesBelow}
use Rattle.rc_dfa_reach.specs.RunReach.{seen_to}
use Rattle.rc_dfa_search.specs.Aims.{AreHalvesOf, search_for}
use Rattle.rc_dfa_search.specs.Firsts.{TellsOthers, starting_at}
use Rattle.rc_dfa_search.specs.Legs.{GoesByNeedles}
use Rattle.rc_dfa_search.specs.Reaches.{IsAnswerBelow, NoneBeginBelow}
use Rattle.rc_dfa_search.proofs.SeenLemmas.{seen_more, seen_past}
use Rattle.rc_dfa_search.proofs.SettledLemmas.{agrees_less, first_settles_some, goes_free, none_there, others_skipped}
use Rattle.rc_dfa_search.proofs.ToldLemmas.{kept_high, kept_low, kept_same, kept_search, kept_then}
use Rattle.rc_dfa_search.proofs.heads.find_settled_first.Given.{Over}
use Rattle.rc_dfa_search.proofs.heads.find_settled_first.Goals as goal
use Rattle.rc_dfa_search.proofs.heads.find_settled_first.Goals.{After-first_over-passed}

-- no match begins before the first byte over which one may
none : (g : Over) (c : After-first_over-passed g) (hs : List Re) (terminator : ℕ) (of : AreHalvesOf (g.H.Halves.AreOf c.args.halves.now) c.args.aim hs terminator) →
    TellsOthers (program hs) 0 c.args.tries.now.others.flags → (r : ℕ) → seen_to of.ahead.alphabet c.loop-left.reach ≤ r →
    c.loop-left.at + c.first_over-passed.result ≤ r →
    NoneBeginBelow (search_for c.args.aim hs terminator c.args.input.now) r (c.loop-left.at + c.first_over-passed.result)
none g c hs terminator of tells r less far t in2 agrees z above lt =
    let aim = c.args.aim in
    let s = c.args.input.now in
    let u = c.loop-left.input in
    let same = kept_search aim hs terminator s u c.loop-left.invariant.keeps in
    let here = kept_high s u c.loop-left.invariant.keeps in
    let high = c.loop-left.invariant.high in
    elim (cases_lt z c.loop-left.at) [
      | inl h ↦
          c.loop-left.invariant.passed hs terminator of tells t in2
          (agrees_less (search_for aim hs terminator s) t (seen_to of.ahead.alphabet c.loop-left.reach) r less agrees) z above h
      | inr h ↦
          others_skipped aim hs terminator u c.args.tries.now.others.flags tells c.piece_from-piece.result.now c.loop-left.at c.min-near.result
          c.first_over-passed.result c.piece_from-piece.ensures.bytes (omega (arith, c.piece_from-piece.ensures.within, high, c.requires.bounds, here))
          (omega (arith, c.min-near.ensures)) c.first_over-passed.ensures.within c.first_over-passed.ensures.passed r far t in2
          (subst (λ (q : Search). AgreesBelow r q t) (sym same) agrees) z (omega (arith, h)) lt
    ]

-- that byte is in the bounds
inside : (g : Over) (c : After-first_over-passed g) → ¬ (c.first_over-passed.result ≡ c.min-near.result) →
    c.loop-left.at + c.first_over-passed.result + 1 ≤ c.args.bounds.high
inside g c apart =
    let all = length-take-le c.min-near.result c.piece_from-piece.result.now (omega (arith, c.min-near.ensures)) in
    let here = kept_high c.args.input.now c.loop-left.input c.loop-left.invariant.keeps in
    let high = c.loop-left.invariant.high in
    let short : c.first_over-passed.result < c.min-near.result = omega (arith, apart, all, c.first_over-passed.ensures.within) in
    omega (arith, short, c.min-near.ensures, c.piece_from-piece.ensures.within, high, here, c.requires.bounds)

goes : (g : Over) (c : After-first_over-passed g) → GoesByNeedles c.args.aim c.args.input.now.anchored
goes g c =
    goes_free c.args.aim c.args.input.now.anchored c.get_anchored.result c.is_anchored.result c.requires.tells c.get_anchored.ensures c.is_anchored.ensures
    c.if-is_anchored.false

-- the input after the piece
kept : (g : Over) (c : After-first_over-passed g) → Keeps c.args.input.now c.piece_from-piece.follows.lender-at-none
kept g c =
    kept_then c.args.input.now c.loop-left.input c.piece_from-piece.follows.lender-at-none c.loop-left.invariant.keeps c.piece_from-piece.follows.holds-at-none

pub settle_unless-requires : goal.settle_unless-requires
settle_unless-requires g c κs within_κs =
    let k = (goal.at.settle_unless-requires g c).After-first_over-passed in
    let s = c.args.input.now in
    let u = c.piece_from-piece.follows.lender-at-none in
    let keeps = kept g k in
    let from = c.loop-left.at + c.first_over-passed.result in
    let above = c.loop-left.invariant.low in
    let within = inside g k c.if-passed-near.false in
    let low_here = kept_low s u keeps in
    let high_here = kept_high s u keeps in
    let low : low u ≤ from = omega (arith, low_here, above, c.requires.bounds) in
    let high : c.args.bounds.high ≡ high u = omega (arith, high_here, c.requires.bounds) in
    let in_slice = ap (λ (p : Span). p.start) keeps.slice in
    let piece : IsPieceOf u c.args.bounds.high c.loop-left.at c.piece_from-piece.result.now = record {
      is = subst (λ xs. c.piece_from-piece.result.now ≡ slice_range xs c.loop-left.at (c.loop-left.at + length c.piece_from-piece.result.now))
          (sym c.piece_from-piece.follows.holds-at-none.content) c.piece_from-piece.ensures.bytes;
      low = omega (arith, in_slice, above, c.requires.bounds);
      high = omega (arith, c.piece_from-piece.ensures.within, c.if-at-high.true);
    } in (
      search rules,
      (
        search rules,
        (
          search rules,
          (
            c.settle_inside-inside.ensures.cache,
            (
              kept_same u,
              (
                low,
                (
                  high,
                  (
                    omega (arith, within),
                    (
                      λ aim hs terminator of free. c.settle_inside-inside.ensures.settled u aim hs terminator of piece high low free,
                      c.settle_inside-inside.ensures.within,
                    ),
                  ),
                ),
              ),
            ),
          ),
        ),
      ),
    )

pub returns-then-is_some-clause-settled : goal.returns-then-is_some-clause-settled
returns-then-is_some-clause-settled g c hs terminator of tells =
    let k = (goal.at.returns-then-is_some-clause-settled g c).After-first_over-passed in
    let aim = c.args.aim in
    let s = c.args.input.now in
    let u = c.piece_from-piece.follows.lender-at-none in
    let from = c.loop-left.at + c.first_over-passed.result in
    let reach = c.max-reach.result in
    let alphabet = of.ahead.alphabet in
    let r = seen_to alphabet reach in
    let past = seen_past alphabet reach in
    let above = c.loop-left.invariant.low in
    first_settles_some aim hs terminator s (goes g k) from (omega (arith, above, c.requires.bounds)) r (seen_to alphabet c.in_ok-here.here.reach) r (omega arith)
    (seen_more alphabet c.in_ok-here.here.reach reach (omega (arith, c.max.ensures, c.max-reach.ensures)))
    (none g k hs terminator of tells r (seen_more alphabet c.loop-left.reach reach (omega (arith, c.max.ensures, c.max-reach.ensures)))
    (omega (arith, c.max-reach.ensures, past)))
    c.in_ok-here.here.found (sym c.is_some.ensures ∙ c.if-is_some.true)
    (subst (λ q. IsAnswerBelow aim.kind (starting_at from q) (seen_to alphabet c.in_ok-here.here.reach) c.in_ok-here.here.found)
    (kept_search aim hs terminator s u (kept g k))
    (c.in_ok-here.ensures.settled aim hs terminator of (subst (GoesByNeedles aim) (sym (kept g k).anchored) (goes g k))))

pub loop-left-preserved : goal.loop-left-preserved
loop-left-preserved g c =
    let k = (goal.at.loop-left-preserved g c).After-first_over-passed in
    let aim = c.args.aim in
    let s = c.args.input.now in
    let u = c.piece_from-piece.follows.lender-at-none in
    let keeps = kept g k in
    let from = c.loop-left.at + c.first_over-passed.result in
    let reach = c.max-reach.result in
    let above = c.loop-left.invariant.low in
    let within = inside g k c.if-passed-near.false in
    record {
      cache = c.in_ok-here.ensures.cache;
      keeps = kept_then s u c.settle_unless.new.input keeps c.in_ok-here.ensures.keeps;
      low = omega (arith, above);
      high = inside g k c.if-passed-near.false;
      passed = λ hs terminator of tells t in2 agrees z low lt.
          let alphabet = of.ahead.alphabet in
          let past = seen_past alphabet reach in
          elim (cases_lt z from) [
            | inl h ↦
                none g k hs terminator of tells (seen_to alphabet reach)
                (seen_more alphabet c.loop-left.reach reach (omega (arith, c.max.ensures, c.max-reach.ensures))) (omega (arith, c.max-reach.ensures, past)) t in2 agrees z low h
            | inr h ↦
                let e : from ≡ z = omega (arith, h, lt) in
                subst (λ x. HasNoWalkFrom t x) e
                (none_there aim hs terminator s (goes g k) from (omega (arith, above, c.requires.bounds)) (omega (arith, within, c.requires.bounds))
                (seen_to alphabet c.in_ok-here.here.reach) (seen_to alphabet reach)
                (seen_more alphabet c.in_ok-here.here.reach reach (omega (arith, c.max.ensures, c.max-reach.ensures))) (omega (arith, c.max-reach.ensures, past))
                c.in_ok-here.here.found (sym c.is_some.ensures ∙ c.if-is_some.false)
                (subst (λ q. IsAnswerBelow aim.kind (starting_at from q) (seen_to alphabet c.in_ok-here.here.reach) c.in_ok-here.here.found)
                (kept_search aim hs terminator s u keeps)
                (c.in_ok-here.ensures.settled aim hs terminator of (subst (GoesByNeedles aim) (sym keeps.anchored) (goes g k)))) t in2 agrees)
          ];
    }
