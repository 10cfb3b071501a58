use Rattle.chunk_replace.proofs.OneWay.{template_law}
use Rattle.chunk_replace.proofs.template.templates_are_read_in_one_way.Goals as goal

pub returns : goal.returns
returns c = template_law
