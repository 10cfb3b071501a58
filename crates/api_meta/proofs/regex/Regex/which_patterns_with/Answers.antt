use Rattle.std.proofs.Common.{◌≡◌, length, subst, arith}
use Rattle.rc_program.specs.Places.{places_of}
use Rattle.rc_pikevm.specs.PatternSpans.{AreOfFirst}
use Rattle.api_meta.proofs.Cached.{keeps_room, stays_for}
use Rattle.api_meta.proofs.PatternSpans.{are_own, adds_for}
use Rattle.api_meta.proofs.regex.Regex.which_patterns_with.Goals as goal

pub which_patterns-requires-clause-first : goal.which_patterns-requires-clause-first
which_patterns-requires-clause-first g c =
    let r = c.args.self.now in
    let e : length r.hirs.items ≡ c.len.result = omega (arith, c.len.ensures) in
    subst (λ n. AreOfFirst n (places_of r.engines.engine.program.places.items)) e (are_own r)

pub returns-clause-adds : goal.returns-clause-adds
returns-clause-adds g c =
    adds_for c.args.self.now c.args.input.now c.args.set.now c.which_patterns.new.set c.which_patterns.ensures.adds

pub returns-clause-cache : goal.returns-clause-cache
returns-clause-cache g c =
    stays_for c.args.self.now c.args.cache.now.inner c.which_patterns.new.cache c.requires.made c.which_patterns.ensures.cache

pub returns-clause-room : goal.returns-clause-room
returns-clause-room g c = keeps_room c.args.self.now c.args.cache.now.inner c.which_patterns.new.cache c.which_patterns.ensures.cache
