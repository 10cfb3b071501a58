use Rattle.std.proofs.Common.{[], ap, ◌∙◌}
use Rattle.rc_build.specs.TextRefusals.{texts_of}
use Rattle.searcher.proofs.Texts.{first_broken, read_more, texts_more}
use Rattle.searcher.proofs.searches.texts_of.Goals as goal

pub returns-in-Err-clause-refused : goal.returns-in-Err-clause-refused
returns-in-Err-clause-refused c =
    first_broken c.args.patterns.now c.loop-i.i (record { ref_ptr = (0, 0); now = [] }) c.loop-i-test.true c.loop-i.invariant.read c.in-Err.ensures.cases.0

pub loop-i-preserved : goal.loop-i-preserved
loop-i-preserved c =
    let ts = c.args.patterns.now in
    let i = c.loop-i.i in
    let inside = c.loop-i-test.true in
    let told = c.in-Ok.ensures.cases in
    record {
      same = ap texts_of c.in_ok-push-in-Ok.ensures.items
          ∙ texts_more ts c.loop-i.texts.items i (record { ref_ptr = (0, 0); now = [] }) c.in-Ok.text inside told.0 c.loop-i.invariant.same;
      read = read_more ts i (record { ref_ptr = (0, 0); now = [] }) inside c.loop-i.invariant.read told.1;
    }
