use Rattle.std.proofs.Common.{rules, refl, sym, subst}
use Rattle.std.specs.List.{flat_map}
use Rattle.chunk_replace.specs.Template.{IsReadAs, items_of}
use Rattle.chunk_replace.proofs.Reading.{reads_all, reads_literal, reads_step, refused}
use Rattle.chunk_replace.proofs.template.Template.parse.Goals as goal

pub returns-in_default-marked : goal.returns-in_default-marked
returns-in_default-marked c =
    refused c.args.text.now _ c.in-Some.mark.now _
    (reads_literal c.args.text.now c.loop-literal.parts.items c.loop-literal.rest.now (c.in-Some.literal, c.in-Some.mark) c.loop-literal.invariant.reads c.in-Some.ensures.cases)
    c.in_default-marked.ensures refl

pub loop-literal-preserved : goal.loop-literal-preserved
loop-literal-preserved c = record {
  utf8 = search rules;
  reads =
      reads_step c.args.text.now c.loop-literal.parts.items c.push.new.self.items c.push-in-Some.new.self.items c.loop-literal.rest.now
      (c.in-Some.literal, c.in-Some.mark) c.in-Some-marked.part c.in-Some-marked.after.now c.loop-literal.invariant.reads c.in-Some.ensures.cases
      c.in_ok-push.ensures.items c.in_ok-push-2.ensures.items c.in-Some-marked.ensures;
}

pub returns : goal.returns
returns c =
    subst (λ ps. IsReadAs (flat_map items_of ps) c.args.text.now) (sym c.in_ok-push-3.ensures.items)
    (reads_all c.args.text.now c.loop-literal.parts.items c.loop-literal.rest c.loop-literal.invariant.reads c.in_default.ensures.cases)
