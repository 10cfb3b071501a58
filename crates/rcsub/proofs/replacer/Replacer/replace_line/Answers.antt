use Rattle.std.proofs.Common.{◌++◌, subst}
use Rattle.std.specs.Io.KnownBytes.{Appends}
use Rattle.regex_cursor.proofs.Grown.{Appends-trans}
use Rattle.rcsub.specs.Replaced.{IsReplaced}
use Rattle.rcsub.proofs.replacer.Replacer.replace_line.Goals as goal

pub returns-in-Ok-clause-put : goal.returns-in-Ok-clause-put
returns-in-Ok-clause-put g c =
    let (put, is, appended) = c.in_ok-count.ensures.put in
    let old = g.W.Sink.taken c.args.out.now in
    let mid = g.W.Sink.taken c.replace.new.out in
    let new = g.W.Sink.taken c.put_all.new.out in (
      put,
      subst (λ x. IsReplaced c.args.self.now x put c.in_ok-count.count) c.split_ending.ensures.body is,
      subst (λ x. Appends old new (put ++ x)) c.split_ending.ensures.ending (Appends-trans old mid new put _ appended c.in-Ok.ensures.appended),
    )
