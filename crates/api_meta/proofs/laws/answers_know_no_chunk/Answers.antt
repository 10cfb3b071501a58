use Rattle.rc_program.specs.Program.{program, shown}
use Rattle.rc_program.specs.Sought.{passes_over}
use Rattle.rc_pikevm_search.proofs.Steps.{search_kept}
use Rattle.api_meta.proofs.laws.answers_know_no_chunk.Goals as goal

pub returns : goal.returns
returns c = λ q s t. search_kept (program (shown q.grouped q.patterns)) q.terminator (passes_over q) s t
