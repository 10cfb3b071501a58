use Rattle.std.proofs.Common.{[], ◌∷◌, map, sym, ap, ◌∙◌}
use Rattle.std.proofs.lemmas.List.{map-append}
use Rattle.rc_pattern.specs.Meaning.{meaning, joined}
use Rattle.rc_pattern.proofs.PlainNodeLemmas.{plain_split, plain_one}
use Rattle.rc_pattern.proofs.hir.members.joined_literals.Goals as goal

pub loop-member-preserved : goal.loop-member-preserved
loop-member-preserved c = (
  c.in_ok-append.ensures.meaning (map meaning c.loop-member.yielded) c.loop-member.invariant.0
      ∙ ap joined (sym (map-append meaning c.loop-member.yielded (c.in-Some.member ∷ []))),
  λ h. let p = plain_split c.loop-member.yielded (c.in-Some.member ∷ []) h in
      c.in_ok-append.ensures.kind (c.loop-member.invariant.1 p.0) (plain_one c.in-Some.member p.1),
)
