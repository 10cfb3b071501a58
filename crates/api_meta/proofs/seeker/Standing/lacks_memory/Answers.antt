use Rattle.std.proofs.Common.{[], ◌∙◌, refl, sym}
use Rattle.api_meta.proofs.Going.{none_left, no_walks, some_left}
use Rattle.api_meta.proofs.seeker.Standing.lacks_memory.Goals as goal

pub returns-in-Some-clause-steps : goal.returns-in-Some-clause-steps
returns-in-Some-clause-steps g c =
    let f = c.args.self.now in
    (some_left c.args.regex.now c.args.input.now f.last f.is_done c.in-Some.field-0 c.requires.going (sym c.in-Some.is ∙ c.next_match.ensures.found), refl {a = []})

pub returns-clause-steps : goal.returns-clause-steps
returns-clause-steps g c =
    let f = c.args.self.now in (
      none_left c.args.regex.now c.args.input.now f.last f.is_done (sym c.in_default.is ∙ c.next_match.ensures.found),
      λ kind. no_walks c.args.regex.now c.args.input.now f.last f.is_done (sym c.in_default.is ∙ c.next_match.ensures.found) kind,
      refl {a = []},
    )
