use Rattle.std.proofs.Common.{◌≡◌, ◌∙◌, ap, drop, rules, true, false}
use Rattle.rc_tokens.specs.Text.{is_at}
use Rattle.rc_full_lists.specs.Read.{passed}
use Rattle.rc_explain.proofs.FullLists.{goes_there}
use Rattle.rc_explain.proofs.full_lists.upper_end.Goals as goal

pub returns-clause-goes_on : goal.returns-clause-goes_on
returns-clause-goes_on c =
    let t = c.args.text.now in
    let sign = c.passed.result.now in
    let behind = c.in_ok-behind.behind.now in
    let high = c.passed-high.result.now in
    let hyphen : is_at 45 sign ≡ true = search rules in
    let next : behind ≡ drop 1 sign = search rules in
    let closer : is_at 93 high ≡ false = search rules in
    let other : is_at 45 high ≡ false = search rules in
    goes_there c.args.verbose t sign behind high c.args.at c.saturating_sub.result (c.passed.ensures ∙ ap (passed c.args.verbose) c.from.ensures) hyphen next
    c.passed-high.ensures closer other c.saturating_sub.ensures
