use Rattle.std.proofs.Common.{◌≡◌, ◌∙◌, ◌<◌, Some, ap, arith, length, rules, sym}
use Rattle.std.specs.Char.{digit_value}
use Rattle.std.proofs.lemmas.Option.{slice_get-get_or}
use Rattle.rc_explain.specs.Shown.{Stands}
use Rattle.rc_explain.proofs.Numbers.{digit_more}
use Rattle.rc_explain.proofs.repetitions.number_at.Goals as goal

pub loop-i-preserved : goal.loop-i-preserved
loop-i-preserved c =
    let t = c.args.mark.now in
    let i = c.loop-i.i in
    let d = c.index-mark-i.result in
    let inside : i < length t = omega arith in
    let at : Stands t i d = slice_get-get_or t i d inside ∙ ap Some (sym c.index-mark-i.is) in
    let value : c.in-Some.digit ≡ digit_value d = search rules in
    let below : digit_value d < 10 = search rules in
    let times = c.saturating_mul.ensures in
    let plus = c.saturating_add-number.ensures in
    let bound = c.loop-i.invariant.1 in (
      digit_more t c.args.from i d c.loop-i.number c.saturating_add-number.result c.loop-i.invariant.0 at below (omega (arith, times, plus, value)),
      omega (arith, bound, inside),
    )
