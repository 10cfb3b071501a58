use Rattle.std.proofs.Common.{◌≡◌, Option, Some, None, arith, refl}
use Rattle.std.specs.Option.{option_map}
use Rattle.std.proofs.lemmas.Option.{none-some}
use Rattle.rc_needles.specs.Needles.{find_needle}
use Rattle.rc_needles.specs.Prefilters.{needles_of}
use Rattle.rc_needles.specs.declared.hit.Hit.{Hit}
use Rattle.rc_needles.proofs.StartLemmas.{needle_law}
use Rattle.rc_dfa_search.proofs.SettledLemmas.{hit_of}
use Rattle.rc_dfa_search.proofs.undecided.next_needle.Goals as goal

no_hit : (o : Option Hit) → None ≡ option_map (λ (h : Hit). h.start) o → o ≡ None
no_hit None e = refl
no_hit (Some h) e = absurd (none-some h.start e)

pub returns-in_default-clause-none : goal.returns-in_default-clause-none
returns-in_default-clause-none g c i above lt =
    let needles = needles_of c.args.needles.now in
    let content = c.args.input.now.content in
    (needle_law.not_found needles content c.args.at c.args.bound).0
    (no_hit (find_needle needles content c.args.at c.args.bound) c.in_default.ensures.needle) i above

pub returns-clause-none : goal.returns-clause-none
returns-clause-none g c i above lt =
    let needles = needles_of c.args.needles.now in
    let content = c.args.input.now.content in
    let h = hit_of c.in-Some.start.needle (find_needle needles content c.args.at c.args.bound) c.in-Some.ensures.needle in
    let same = h.2 in
    ((needle_law.found needles content c.args.at c.args.bound h.0).0 h.1).none_before i above (omega (arith, same, lt))
