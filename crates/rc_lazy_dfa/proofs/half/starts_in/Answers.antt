use Rattle.std.proofs.Common.{◌≡◌, ◌+◌, ◌*◌, ◌<◌, ◌∙◌, ℕ, Option, Some, None, ap, arith}
use Rattle.std.specs.Option.{SomeIff, MatchOption}
use Rattle.rc_lazy_dfa.specs.Stores.{frame_of, starts_in}
use Rattle.rc_lazy_dfa.proofs.half.starts_in.Goals as goal

says : (o : Option ℕ) (p s : ℕ) → SomeIff o (p < 18446744073709551616) p → p ≡ s → MatchOption o (18446744073709551615 < s) (λ n. n ≡ s)
says None p s h e = grind (arith, h)
says (Some n) p s h e = h.1 ∙ e

pub returns : goal.returns
returns c =
    let p = c.pattern_len.ensures c.args.direction in
    says c.checked_mul.result (c.in-Some.ways * c.args.width) (starts_in (frame_of c.args.automaton.now c.args.direction)) c.checked_mul.ensures
    (ap (λ n. n * c.args.width) (c.in-Some.ensures.1 ∙ ap (λ k. k + 2) p) ∙ ap (λ w. starts_in (record (frame_of c.args.automaton.now c.args.direction) { width = w })) c.requires)
