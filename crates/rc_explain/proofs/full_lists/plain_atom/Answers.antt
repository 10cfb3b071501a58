use Rattle.std.proofs.Common.{◌≡◌, is_none, rules, true, false}
use Rattle.rc_explain.specs.declared.faults.FaultKind.TheVariants.{MemberPastAscii}
use Rattle.rc_explain.proofs.FullLists.{first_shown, plain_past, plain_there}
use Rattle.rc_explain.proofs.full_lists.plain_atom.Goals as goal

pub returns-then-is_none : goal.returns-then-is_none
returns-then-is_none c =
    let t = c.args.text.now in
    let f = c.first in
    let none : is_none c.code_of-code.result ≡ true = search rules in
    first_shown MemberPastAscii f.result.kind t f.result.start f.result.end 1 f.ensures.kind f.ensures.start f.ensures.end
    (plain_past c.args.settings.unicode t c.args.c c.code_of-code.result c.requires.begins c.code_of-code.ensures none)

pub returns : goal.returns
returns c =
    let some : is_none c.code_of-code.result ≡ false = search rules in
    plain_there c.args.settings c.args.text.now c.args.c c.code_of-code.result c.requires.begins c.requires.plain c.code_of-code.ensures some
