use Rattle.std.proofs.Common.{◌∙◌, arith}
use Rattle.rc_dense_dfa.proofs.SearchLemmas.{none_code, some_code}
use Rattle.rc_dense_dfa.proofs.look.find_in.Goals as goal

pub returns-then-code-gt0 : goal.returns-then-code-gt0
returns-then-code-gt0 c = λ found e. some_code c.code_of-code.result found c.if-code-gt0.true (c.code_of-code.ensures ∙ e)

pub returns : goal.returns
returns c = λ found e. none_code c.code_of-code.result found (let le = c.if-code-gt0.false in omega (arith, le)) (c.code_of-code.ensures ∙ e)
