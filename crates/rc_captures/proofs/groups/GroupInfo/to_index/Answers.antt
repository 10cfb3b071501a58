use Rattle.std.proofs.Common.{◌+◌, option_map, ap, sym, ◌∙◌}
use Rattle.rc_captures.specs.Groups.{names_of}
use Rattle.rc_captures.proofs.Finds.{to_index-texts}
use Rattle.rc_captures.proofs.groups.GroupInfo.to_index.Goals as goal

pub returns-in_err-before : goal.returns-in_err-before
returns-in_err-before c =
    c.from_residual-in_err-before.ensures ∙ sym (to_index-texts (names_of c.args.self.now) c.args.pattern c.args.name.now c.in_ok-names.names.now c.in_ok-names.ensures ∙ ap (option_map (λ n. n + 1)) (sym c.in_err-before.ensures))

pub returns : goal.returns
returns c =
    sym (to_index-texts (names_of c.args.self.now) c.args.pattern c.args.name.now c.in_ok-names.names.now c.in_ok-names.ensures ∙ ap (option_map (λ n. n + 1)) (sym c.in_ok-before.ensures))
