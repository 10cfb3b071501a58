use Rattle.api_meta.proofs.Reaching.{by_values, near_start}
use Rattle.api_meta.proofs.regex.Regex.reach_of.Goals as goal

pub returns-clause-settled : goal.returns-clause-settled
returns-clause-settled g c =
    (by_values c.args.self.now c.args.input.now c.args.found c.last_start.result c.reach_after-most.result c.up_to_slice_end.result c.up_to_slice_end.ensures.fits
    c.requires.answer c.requires.bounds c.last_start.ensures c.reach_after-most.ensures c.up_to_slice_end.ensures.value).0

pub returns-clause-near : goal.returns-clause-near
returns-clause-near g c =
    (by_values c.args.self.now c.args.input.now c.args.found c.last_start.result c.reach_after-most.result c.up_to_slice_end.result c.up_to_slice_end.ensures.fits
    c.requires.answer c.requires.bounds c.last_start.ensures c.reach_after-most.ensures c.up_to_slice_end.ensures.value).1

pub returns-clause-anchored : goal.returns-clause-anchored
returns-clause-anchored g c =
    near_start c.args.self.now c.args.input.now c.args.found c.last_start.result c.reach_after-most.result c.up_to_slice_end.result c.last_start.ensures
    c.reach_after-most.ensures c.up_to_slice_end.ensures.value
