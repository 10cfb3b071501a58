use Rattle.std.proofs.Common.{◌∙◌, refl, rules, sym}
use Rattle.api_meta.specs.Views.{regex_kind, sought}
use Rattle.searcher.proofs.Filling.{filled_none, goes_on_more, goes_on_none, listed_more}
use Rattle.searcher.proofs.batch.fill.Goals as goal

pub returns-in_default-clause-filled : goal.returns-in_default-clause-filled
returns-in_default-clause-filled g c =
    let l = c.loop-count in
    filled_none (regex_kind c.args.regex.now) (sought c.args.regex.now) c.args.input.now l.input l.last _ l.batch l.count c.start-from.result
    l.invariant.moved (sym c.in_default.is ∙ c.next_match.ensures.found) (search rules) c.start-from.ensures l.invariant.listed

pub loop-count-init : goal.loop-count-init
loop-count-init g c = record {
  made = search rules;
  moved = search rules;
  sized = search rules;
  listed = search rules;
  goes = goes_on_none c.args.batch.now c.args.input.now.span.start c.args.input.now.span.start c.args.before c.args.before refl refl;
}

pub loop-count-preserved : goal.loop-count-preserved
loop-count-preserved g c =
    let l = c.loop-count in
    record {
      made = search rules;
      moved = search rules;
      sized = search rules;
      listed = listed_more (regex_kind c.args.regex.now) (sought c.args.regex.now) c.args.input.now l.input l.last c.in-Some.found _ l.batch l.count c.of.result
          c.set_start.new.self.span.start c.end-in-loop-count.result l.invariant.moved (sym c.in-Some.is ∙ c.next_match.ensures.found)
          (search rules) c.of.ensures (c.set_start.ensures.start ∙ c.end.ensures.value) c.end-in-loop-count.ensures.value l.invariant.listed;
      goes = goes_on_more l.batch l.count c.of.result c.in-Some.found c.args.input.now.span.start c.args.before c.set_start.new.self.span.start
          c.end-in-loop-count.result (search rules) c.of.ensures (c.set_start.ensures.start ∙ c.end.ensures.value) c.end-in-loop-count.ensures.value;
    }
