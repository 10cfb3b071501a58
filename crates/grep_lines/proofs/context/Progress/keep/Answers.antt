use Rattle.std.proofs.Common.{◌+◌, ◌≡◌, ◌<◌, ◌∙◌, ◌++◌, ◌∷◌, [], ap, arith, length, sym}
use Rattle.grep_lines.specs.Ahead.{ahead_of, contents}
use Rattle.grep_lines.proofs.ContextLemmas.{ahead_dropped}
use Rattle.grep_lines.proofs.context.Progress.keep.Goals as goal

-- the oldest line isn't kept any more
pub returns-in-Some-clause-ok : goal.returns-in-Some-clause-ok
returns-in-Some-clause-ok c = λ rest.
    let was = c.args.self.now in
    let line = c.args.line.now in
    let kept = was.kept.items in
    let pushed : c.push_back.new.self.items ≡ kept ++ line ∷ [] = c.in_ok-push_back.ensures.items ∙ ap (λ v. kept ++ v ∷ []) c.replace.ensures.value in
    let popped : c.push_back.new.self.items ≡ c.in-Some.oldest ∷ c.pop_front.new.self.items = c.in-Some.ensures.items in
    let many : c.args.extent.before < length c.push_back.new.self.items = omega (arith, c.if-len-extent.true, c.len.ensures, c.push_back.new.self.ok.0) in
    ahead_dropped c.args.extent was.behind was.left was.next was.place kept c.pop_front.new.self.items line c.in-Some.oldest rest c.requires.idle
    (sym pushed ∙ popped) c.requires.sound.within (omega (arith, many, ap length popped))
    ∙ ap (λ p. ahead_of c.args.extent was.behind was.left (was.next + 1) p (contents c.pop_front.new.self.items) rest)
    (omega (arith, c.len-in-Some.ensures, c.in-Some.oldest.ok.0))
