use Rattle.std.proofs.Common.{◌≡◌, ◌∙◌, ◌^◌, ◌-◌, ◌<◌, ap, length, min, subst, sym}
use Rattle.std.proofs.lemmas.List.{length-map}
use Rattle.rc_program.specs.Columns.{widest, widest_row}
use Rattle.rc_program.specs.Places.{place_of, places_of}
use Rattle.rc_program.proofs.columns.columns_of.Goals as goal

pub returns : goal.returns
unfolding widest_row
returns c =
    let same : length (places_of c.args.places.now) ≡ length c.args.places.now = length-map c.args.places.now place_of in
    record {
      ranges = c.in_ok-ranges.ensures;
      long = c.in_ok-of_places.ensures.long ∙ sym same;
      told = λ q l. c.in_ok-of_places.ensures.told q (subst (λ n. q < n) same l);
      wide = c.widest-widest.ensures ∙ ap (λ rs. min (widest rs) (2 ^ 64 - 1)) (c.deref-2.ensures.value ∙ c.in_ok-ranges.ensures);
    }
