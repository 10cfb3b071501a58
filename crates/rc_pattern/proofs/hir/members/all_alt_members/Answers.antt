use Rattle.std.proofs.Common.{[], ◌∷◌, map}
use Rattle.rc_pattern.specs.Meaning.{meaning, alt_members}
use Rattle.rc_pattern.proofs.JoinLemmas.{flat_push}
use Rattle.rc_pattern.proofs.PlainNodeLemmas.{plain_split, plain_one}
use Rattle.rc_pattern.proofs.hir.members.all_alt_members.Goals as goal

pub loop-sub-preserved : goal.loop-sub-preserved
loop-sub-preserved c = (
  flat_push alt_members c.loop-sub.yielded c.in-Some.sub (map meaning c.loop-sub.members.items) (map meaning c.put_alt_members.new.members.items)
      c.in_ok-put_alt_members.ensures.meaning c.loop-sub.invariant.0,
  λ h. let p = plain_split c.loop-sub.yielded (c.in-Some.sub ∷ []) h in
      c.in_ok-put_alt_members.ensures.kind (c.loop-sub.invariant.1 p.0) (plain_one c.in-Some.sub p.1),
)
