use Rattle.std.proofs.Common.{◌≡◌, ◌+◌, ◌<◌, ◌≤◌, arith, drop, length, refl, rules, subst}
use Rattle.std.proofs.lemmas.List.{length-drop}
use Rattle.rc_explain.specs.Reading.{BeginsAtom}
use Rattle.rc_explain.proofs.FullLists.{first_shown, range_shown}
use Rattle.rc_explain.proofs.full_lists.part_fault.Goals as goal

pub returns-in-Some-range_kind : goal.returns-in-Some-range_kind
returns-in-Some-range_kind c =
    let t = c.args.text.now in
    let s = c.args.settings in
    let a = c.in-Ok.atom in
    let b = c.in-Ok-2.atom in
    let start = c.in-Some.start in
    let low : (0 < a.count) × (a.count ≤ length t) × BeginsAtom s t a = search rules in
    let read : (0 < b.count) × (b.count ≤ length c.from.result.now) × BeginsAtom s c.from.result.now b = search rules in
    let high : (0 < b.count) × (b.count ≤ length (drop start t)) × BeginsAtom s (drop start t) b =
    subst (λ u. (0 < b.count) × (b.count ≤ length u) × BeginsAtom s u b) c.from.ensures read in
    let inside = c.in-Some.ensures.within in
    let long = length-drop start t in
    let fits = c.requires.fits in
    let most = high.1 in
    let sum = c.saturating_add.ensures in
    let end : c.saturating_add.result ≡ start + b.count = omega (arith, inside, long, fits, most, sum) in
    let f = c.first in
    first_shown c.in-Some-range_kind.kind f.result.kind t f.result.start f.result.end c.saturating_add.result f.ensures.kind f.ensures.start f.ensures.end
    (range_shown s t a b start c.saturating_add.result c.in-Some-range_kind.kind low.2 high.2 inside high.0 most (c.in-Some.ensures.goes_on s refl) end
    (c.in-Some-range_kind.ensures low.2.value high.2.value low.2.coded high.2.coded))
