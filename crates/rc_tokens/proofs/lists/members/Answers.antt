use Rattle.std.proofs.Common.{◌≡◌, ◌==◌, ◌<◌, ◌∙◌, inr, length, sym, arith, false, ℕ}
use Rattle.std.proofs.lemmas.Bool.{eqb-false}
use Rattle.rc_tokens.proofs.MemberLemmas.{members_stuck, member_shorter}
use Rattle.rc_tokens.proofs.lists.members.Goals as goal

some_left : (n : ℕ) → (n == 0) ≡ false → 0 < n
some_left n e = let h = eqb-false n 0 e in omega (arith, h)

pub returns-in_default : goal.returns-in_default
returns-in_default c = inr (members_stuck c.args.text.now c.loop-rest.all.items c.loop-rest.rest.now c.loop-rest.invariant
    (some_left (length c.loop-rest.rest.now) (sym c.is_empty.ensures ∙ c.loop-rest-test.true)) c.in_default.ensures)

pub loop-rest-smaller : goal.loop-rest-smaller
loop-rest-smaller c = member_shorter c.loop-rest.rest.now c.in-Some.member c.in-Some.after.now c.in-Some.ensures
