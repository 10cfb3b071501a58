use Rattle.std.proofs.Common.{◌≡◌, ◌∙◌, ℕ, ◌+◌, length, ap, subst, arith}
use Rattle.std.proofs.lemmas.Result.{err_from_is_err_and}
use Rattle.rc_dfa.specs.Machine.{Machine}
use Rattle.rc_dfa.specs.Automata.{samples_of}
use Rattle.rc_dense_dfa.specs.Rows.{AreStarts}
use Rattle.rc_dense_dfa.proofs.ModeLemmas.{starts_kept}
use Rattle.rc_dense_dfa.proofs.PartLemmas.{refused_as}
use Rattle.rc_dense_dfa.proofs.build.parts_of.Goals as goal
use Rattle.rc_dense_dfa.proofs.build.parts_of.Goals.{In-Some}

count : (g : _) (c : In-Some g) → c.in-Some.modes ≡ length g.m.entries + 2
count g c =
    let entries = c.pattern_len.ensures c.args.direction ∙ ap (λ (n : Machine). length n.entries) c.requires.0 in
    let sum = c.in-Some.ensures in
    omega (arith, entries, sum)

pub begun-requires : goal.begun-requires
begun-requires g c = (c.requires.0, (c.requires.1.0, (c.requires.1.1, count g c)))

pub starts_of-requires : goal.starts_of-requires
starts_of-requires g c =
    (c.requires.0, (c.in_ok-maker.ensures.maker, (c.in_ok-maker.ensures.width, count g (goal.at.starts_of-requires g c).In-Some)))

pub returns-in_err-starts-clause-refused : goal.returns-in_err-starts-clause-refused
returns-in_err-starts-clause-refused g c =
    let p = err_from_is_err_and c.from_residual-in_err-starts.result c.from_residual-in_err-starts.ensures.1 in
    let first = c.in_ok-maker.ensures in
    rw (p.1, p.2) (refused_as g.m c.in_ok-maker.maker.names.width _ c.in_ok-maker.maker.names.limit _ _ first.width first.limit c.in_err-starts.ensures.refused)

pub returns-in_err-rows-clause-refused : goal.returns-in_err-rows-clause-refused
returns-in_err-rows-clause-refused g c =
    let p = err_from_is_err_and c.from_residual-in_err-rows.result c.from_residual-in_err-rows.ensures.1 in
    let first = c.in_ok-maker.ensures in
    let grows = c.in_ok-starts.ensures.grows in
    rw (p.1, p.2) (refused_as g.m c.starts_of.new.maker.names.width _ c.starts_of.new.maker.names.limit _ _ (grows.width ∙ first.width) (grows.limit ∙ first.limit)
    c.in_err-rows.ensures.refused)

pub returns-clause-parts : goal.returns-clause-parts
returns-clause-parts g c =
    let first = c.in_ok-maker.ensures in
    let starts = c.in_ok-starts.ensures in
    let rows = c.in_ok-rows.ensures in
    let samples = samples_of c.args.automaton.now in
    record {
      are_named = rows.maker.named;
      width = rows.grows.width ∙ starts.grows.width ∙ first.width;
      limited = rows.grows.limit ∙ starts.grows.limit ∙ first.limit;
      first = rows.grows.kept 0 _ (starts.grows.kept 0 _ first.first);
      are_starts = starts_kept g.m samples c.starts_of.new.maker.names.states c.rows_of.new.maker.names.states _ 0 c.in_ok-starts.starts.items rows.grows.kept
          (subst (λ (n : ℕ). AreStarts g.m samples c.starts_of.new.maker.names.states n 0 c.in_ok-starts.starts.items)
          (count g (goal.at.returns-clause-parts g c).In-Some) starts.starts);
      are_rows = rows.rows;
      are_ends = rows.ends.0;
      all_ends = rows.ends.1;
      are_tells = c.in_ok-tells.ensures.tells.1;
      all_tells = c.in_ok-tells.ensures.tells.0;
      are_idles = c.in_ok-idles.ensures.idles.1;
      all_idles = c.in_ok-idles.ensures.idles.0;
    }
