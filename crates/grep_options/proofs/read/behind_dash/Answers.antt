use Rattle.std.proofs.Common.{lit<}
use Rattle.std.proofs.lemmas.Str.Pattern.{strip_prefix_char}
use Rattle.grep_options.proofs.WordLemmas.{dash_behind}
use Rattle.grep_options.proofs.read.behind_dash.Goals as goal

pub returns : goal.returns
returns c = dash_behind c.args.text.now c.strip_prefix.result (strip_prefix_char 45 c.args.text.now c.strip_prefix.result c.strip_prefix.ensures.cases (lit< tt))
