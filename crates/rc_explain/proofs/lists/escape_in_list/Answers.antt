use Rattle.std.proofs.Common.{rules}
use Rattle.rc_tokens.specs.Said.{Asserts, Stands}
use Rattle.rc_explain.specs.Reading.{IsToken}
use Rattle.rc_explain.proofs.Tokens.{assertion_at}
use Rattle.rc_explain.proofs.lists.escape_in_list.Goals as goal

pub returns-in-Some-Assertion-default : goal.returns-in-Some-Assertion-default
returns-in-Some-Assertion-default c =
    let a = c.in-Some-Assertion-default.field-0-0-0 in
    let n = c.in-Some-Assertion-default.count in
    let token : IsToken (Stands (Asserts a)) c.args.mark.now 0 n = search rules in
    assertion_at c.args.mark.now a n token c.requires
