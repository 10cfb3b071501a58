use Rattle.api_meta.proofs.finder.Finder.captures.Goals as goal

pub returns-clause-preferred : goal.returns-clause-preferred
returns-clause-preferred g c = rw (← c.self.view_is) c.search_captures_with.ensures.preferred
