use Rattle.std.proofs.Common.{arith, ◌≡◌, ◌∙◌, sym, ap, Some, slice_index, option_map}
use Rattle.std.proofs.lemmas.Bool.{eqb-true}
use Rattle.std.proofs.lemmas.List.{get_or_read}
use Rattle.rc_text.specs.Text.{low, high}
use Rattle.rc_needles.specs.Prefilters.{needles_of}
use Rattle.rc_needles.proofs.FindLemmas.{same_at}
use Rattle.rc_literals.specs.Answers.{found_for, needles_for, owned_of}
use Rattle.rc_literals.proofs.OwnedLemmas.{at_prefix, hit_prefix, none_prefix, prefix_below, same_high}
use Rattle.rc_literals.proofs.search.search_pattern.Goals as goal

pub returns-in_err-hit-clause-value : goal.returns-in_err-hit-clause-value
returns-in_err-hit-clause-value g c =
    let s = c.args.input.now in
    let ns = c.args.needles.now in
    c.from_residual.ensures ∙ none_prefix (owned_of ns) s.content (high s) (low s) c.args.pattern ns.each c.in_err-hit.ensures.value

pub index-requires : goal.index-requires
index-requires g c =
    let s = c.args.input.now in
    let ns = c.args.needles.now in
    let below = prefix_below (needles_of ns.prefilter) s.content (low s) (high s) c.in_ok-hit.hit (sym c.in_ok-hit.ensures.value) in
    omega (arith, below, ns.each)

pub returns-then-eq-clause-value : goal.returns-then-eq-clause-value
returns-then-eq-clause-value g c =
    let s = c.args.input.now in
    let ns = c.args.needles.now in
    let hit = c.in_ok-hit.hit in
    let x = c.index.result.now in
    let below = prefix_below (needles_of ns.prefilter) s.content (low s) (high s) hit (sym c.in_ok-hit.ensures.value) in
    let there : x ≡ slice_index ns.owners.items hit.number =
    get_or_read ns.owners.items hit.number x (omega (arith, below, ns.each)) c.index.ensures 0 in
    let own : slice_index ns.owners.items hit.number ≡ c.args.pattern = sym there ∙ eqb-true x c.args.pattern (sym c.eq.ensures ∙ c.if-eq.true) in
    ap Some c.match_of.ensures ∙ hit_prefix (owned_of ns) s.content (high s) (low s) c.args.pattern ns.each hit c.in_ok-hit.ensures.value own

pub returns-clause-value : goal.returns-clause-value
returns-clause-value g c =
    let s = c.args.input.now in
    let ns = c.args.needles.now in
    let p = c.args.pattern in
    let own = needles_for (Some p) (owned_of ns) in
    let end : c.high-end.result ≡ high s = c.high-end.ensures.value ∙ same_high s c.prefix.new.input c.in_ok-hit.ensures.keeps in
    c.own_match.ensures.value
    ∙ ap (option_map (found_for (Some p) (owned_of ns)))
    (same_at own c.high-end.new.input.content s.content c.high-end.result (high s) c.in_ok-hit.hit.start (low s)
    (c.high-end.ensures.keeps.content ∙ c.in_ok-hit.ensures.keeps.content) end c.in_ok-hit.ensures.within.0)
    ∙ at_prefix (owned_of ns) s.content (high s) (low s) p ns.each
