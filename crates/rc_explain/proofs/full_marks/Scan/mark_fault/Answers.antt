use Rattle.std.proofs.Common.{◌≡◌, rules, string_bytes}
use Rattle.rc_tokens.specs.Said.{Named}
use Rattle.rc_full_parser.specs.Marks.{opens}
use Rattle.rc_full_parser.specs.View.{mark_of}
use Rattle.rc_explain.proofs.FullMarks.{opens_named}
use Rattle.rc_explain.proofs.full_marks.Scan.mark_fault.Goals as goal

pub returns-in-Opens-Named-default : goal.returns-in-Opens-Named-default
returns-in-Opens-Named-default c =
    let name = string_bytes c.in-Opens-Named-default.name in
    let x = c.in-Opens-Named-default.field-1 in
    let is : mark_of c.args.mark.now ≡ opens (Named name) x = search rules in
    c.name_of-start.ensures.full name c.requires.within (opens_named c.args.text.now (mark_of c.args.mark.now) name x c.args.count is c.requires.begins)
