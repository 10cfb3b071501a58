use Rattle.rc_build.proofs.NamesLemmas.{slots_shown}
use Rattle.rc_build.proofs.Runnable as lemmas
use Rattle.rc_build.proofs.laws.built_patterns_run.Goals as goal

pub returns : goal.returns
returns c = record {
  runnable = lemmas.runnable;
  numbered = λ limit grouped hs ok. lemmas.numbered grouped hs ok.well_formed;
  bounded = λ limit grouped hs ok. lemmas.bounded grouped hs ok.well_formed;
  slots = slots_shown;
}
