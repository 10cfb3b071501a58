use Rattle.std.proofs.Common.{◌≤◌, ◌≢◌, ◌-◌, ap, sym, subst, ◌∙◌, arith, IfSome}
use Rattle.rc_text.specs.Found.{Found}
use Rattle.rc_text.specs.declared.types.MatchKind.TheVariants.{All as all_matches}
use Rattle.rc_settings.specs.Settings.{match_kind_of}
use Rattle.api_meta.specs.Partials.{far_on}
use Rattle.api_meta.specs.Views.{regex_kind}
use Rattle.api_meta.proofs.Partials.{from_far, from_there, is_far_on, no_length}
use Rattle.api_meta.proofs.regex.Regex.undecided_by_length.Goals as goal
use Rattle.api_meta.proofs.regex.Regex.undecided_by_length.Goals.{After-saturating_sub-far}

other_kind : (g : _) (c : After-saturating_sub-far g) → regex_kind c.args.self.now ≢ all_matches
other_kind g c e = c.in_default.not-All (c.get_match_kind.ensures ∙ ap match_kind_of c.get_config.ensures ∙ e)

pub returns-in-All-clause-told : goal.returns-in-All-clause-told
returns-in-All-clause-told g c = from_there c.args.self.now c.args.input.now c.low-from.result c.low-from.ensures

pub returns-in-All-clause-far : goal.returns-in-All-clause-far
returns-in-All-clause-far g c other n e =
    absurd (other (sym (c.get_match_kind.ensures ∙ ap match_kind_of c.get_config.ensures) ∙ c.in-All.is))

pub returns-in_default-longest : goal.returns-in_default-longest
returns-in_default-longest g c =
    let low_is = c.low-from.ensures in
    record {
      keeps = c.high-end.ensures.keeps;
      told = from_there c.args.self.now c.args.input.now c.low-from.result low_is;
      within = (omega (arith, low_is), omega (arith, low_is));
      far = no_length c.args.self.now c.args.input.now c.args.found c.in_default-longest.is c.low-from.result;
    }

pub returns-in-Some-found : goal.returns-in-Some-found
returns-in-Some-found g c =
    let low_is = c.low-from.ensures in
    let far = c.saturating_sub-far.ensures ∙ ap (λ n. c.high-end.result - n) c.saturating_add.ensures in
    let high_is = c.high-end.ensures.value in
    let fits = c.high-end.type_inv in
    let start = c.start.ensures.value in
    let least = c.min.ensures in
    let most = c.max.ensures in
    record {
      keeps = c.high-end.ensures.keeps;
      told = from_far c.args.self.now c.args.input.now (other_kind g (goal.at.returns-in-Some-found g c).After-saturating_sub-far) c.in-Some.longest c.in-Some.is c.args.found c.requires.answer
          c.low-from.result c.saturating_sub-far.result c.min.result low_is (omega (arith, high_is, fits)) (omega (arith, far, high_is)) (omega (arith, least))
          (subst (λ o. IfSome o (λ (m : Found). c.min.result ≤ m.start)) (sym c.in-Some-found.is) (omega (arith, least, start))) c.max.result most;
      within = (omega (arith, most, low_is), omega (arith, most, low_is, least, far, high_is));
      far = is_far_on c.args.self.now c.args.input.now c.args.found c.in-Some.longest c.in-Some.is c.max.result
          (subst (λ o. far_on c.in-Some.longest c.args.input.now o ≤ c.max.result) (sym c.in-Some-found.is) (omega (arith, most, least, start, far, high_is)));
    }

pub returns-in-None : goal.returns-in-None
returns-in-None g c =
    let low_is = c.low-from.ensures in
    let far = c.saturating_sub-far.ensures ∙ ap (λ n. c.high-end.result - n) c.saturating_add.ensures in
    let high_is = c.high-end.ensures.value in
    let fits = c.high-end.type_inv in
    let most = c.max-in-None.ensures in
    record {
      keeps = c.high-end.ensures.keeps;
      told = from_far c.args.self.now c.args.input.now (other_kind g (goal.at.returns-in-None g c).After-saturating_sub-far) c.in-Some.longest c.in-Some.is c.args.found c.requires.answer
          c.low-from.result c.saturating_sub-far.result c.saturating_sub-far.result low_is (omega (arith, high_is, fits)) (omega (arith, far, high_is)) (omega arith)
          (subst (λ o. IfSome o (λ (m : Found). c.saturating_sub-far.result ≤ m.start)) (sym c.in-None.is) tt) c.max-in-None.result most;
      within = (omega (arith, most, low_is), omega (arith, most, low_is, far, high_is));
      far = is_far_on c.args.self.now c.args.input.now c.args.found c.in-Some.longest c.in-Some.is c.max-in-None.result
          (subst (λ o. far_on c.in-Some.longest c.args.input.now o ≤ c.max-in-None.result) (sym c.in-None.is) (omega (arith, most, far, high_is)));
    }
