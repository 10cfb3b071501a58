use Rattle.rcsub.proofs.Filled.{is_filled, is_some_length}
use Rattle.rcsub.proofs.replacer.may_be_empty.Goals as goal

pub returns : goal.returns
returns c none =
    is_filled _ c.properties.result c.minimum_len.result c.properties.ensures.exact c.properties.ensures.unknown c.minimum_len.ensures.exact
    c.minimum_len.ensures.unknown (is_some_length c.eq.result c.minimum_len.result c.eq.ensures none)
