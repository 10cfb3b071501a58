use Rattle.std.proofs.Common.{◌≡◌, drop, option_map}
use Rattle.rc_needles.specs.Tables.{needles_in}
use Rattle.rc_literals.proofs.RequiredLemmas.{of_each, of_one}
use Rattle.rc_literals.proofs.required.+needed.Given as goal

abbrev pub invariant-put_needed_by_one-loop-i : goal.invariant-put_needed_by_one-loop-i
invariant-put_needed_by_one-loop-i l = option_map (λ v. needles_in v.items) l.found ≡ of_one l.longer (drop l.i l.subs)

abbrev pub invariant-put_needed_by_each-loop-i : goal.invariant-put_needed_by_each-loop-i
invariant-put_needed_by_each-loop-i l = option_map (λ v. needles_in v.items) l.found ≡ of_each l.longer (drop l.i l.subs)
