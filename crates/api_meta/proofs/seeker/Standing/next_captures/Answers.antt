use Rattle.std.proofs.Common.{◌≡◌, ◌∙◌, [], IfSome, ap, refl, rules, subst, sym}
use Rattle.rc_pikevm_search.specs.Moved.{IsMoved}
use Rattle.rc_pikevm_search.specs.Tells.{TellsSpan}
use Rattle.api_meta.specs.Views.{sought}
use Rattle.rc_build.proofs.Fitted.{answer_same}
use Rattle.api_meta.proofs.Going.{none_left, no_walks, next_left, same_match, moved, tells_next, told_as}
use Rattle.rc_text.specs.Found.{Found}
use Rattle.rc_program.specs.Kinds.{answer_by}
use Rattle.rc_program.specs.Sought.{search_for}
use Rattle.rc_text.specs.declared.types.MatchKind.TheVariants.{All as all_matches}
use Rattle.api_meta.proofs.seeker.Standing.next_captures.Goals as goal

pub returns-in_default-next_groups-clause-steps : goal.returns-in_default-next_groups-clause-steps
returns-in_default-next_groups-clause-steps g c =
    let f = c.args.self.now in (
      none_left c.args.regex.now c.args.input.now f.last f.is_done (sym c.in_default-next_groups.is ∙ c.next_groups.ensures.found),
      λ kind. no_walks c.args.regex.now c.args.input.now f.last f.is_done (sym c.in_default-next_groups.is ∙ c.next_groups.ensures.found) kind,
      refl {a = []},
    )

pub returns-clause-steps : goal.returns-clause-steps
returns-clause-steps g c =
    let f = c.args.self.now in
    let r = c.args.regex.now in
    let i = c.args.input.now in
    let j = c.next_groups.new.input in
    let k = c.set_start.new.self in
    let caps = c.next_groups.new.caps in
    let told = c.next_groups.ensures.told in
    let kept = c.next_groups.ensures.whole in
    let finds = sym c.in-Some.is ∙ c.next_groups.ensures.found in
    let moves : IsMoved i k = search rules in
    let at = c.set_start.ensures.start ∙ c.end.ensures.value in
    let matched = same_match r j caps kept told ∙ sym (answer_same r.fits j) ∙ sym c.next_groups.ensures.there ∙ c.in-Some.is in
    (record {
      kept = kept;
      found = c.in-Some.found;
      matched = matched;
      left = next_left r i k f.last f.is_done c.in-Some.found c.end-2.result c.if-self.false finds moves at c.end-2.ensures.value;
      tells = λ kind.
          let next = tells_next r i j k f.last f.is_done c.in-Some.found c.end-2.result caps c.if-self.false finds c.next_groups.ensures.moves
          c.next_groups.ensures.start told moves at c.end-2.ensures.value kind in
          record { walk = next.walk; told = next.told; walks = next.walks };
      spans = λ kind.
          subst (λ o. TellsSpan o caps)
          (sym (ap (λ x. answer_by x (search_for (sought r) j)) kind) ∙ sym (same_match r j caps kept told) ∙ matched)
          (told_as r j caps all_matches kind told);
      regex = refl;
      start = k.span.start;
      search = moved r i k moves;
    })

pub returns-clause-start : goal.returns-clause-start
returns-clause-start g c =
    let j = c.next_groups.new.input in
    let caps = c.next_groups.new.caps in
    let r = c.args.regex.now in
    let matched = same_match r j caps c.next_groups.ensures.whole c.next_groups.ensures.told ∙ sym (answer_same r.fits j) ∙ sym c.next_groups.ensures.there ∙ c.in-Some.is in
    subst (λ o. IfSome o (λ (m : Found). c.set_start.new.self.span.start ≡ m.end)) (sym matched) (c.set_start.ensures.start ∙ c.end.ensures.value)
