use Rattle.api_meta.proofs.Preferred.{holds_groups}
use Rattle.api_meta.proofs.regex.Regex.captures.Goals as goal

pub returns-clause-preferred : goal.returns-clause-preferred
returns-clause-preferred g c kind plain =
    let told = c.in_ok-search_captures.ensures in
    holds_groups c.args.self.now c.args.input kind plain c.search_captures.new.caps told.still_made.named told.told_by told.matched_by
