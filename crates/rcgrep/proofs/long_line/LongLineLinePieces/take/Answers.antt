use Rattle.std.proofs.Common.{ℕ, ◌≡◌, ◌++◌, ◌∙◌, [], Bool, List, ap, sym, subst, false}
use Rattle.stream_search.specs.Searching.{Streaming, Takes, WasFed}
use Rattle.rcgrep.specs.Long.{IsKnown}
use Rattle.rcgrep.proofs.long_line.LongLineLinePieces.take.Goals as goal

-- the searcher was fed the piece
fed_more : (s t : Streaming) (bytes piece : List ℕ) (b : Bool) → b ≡ false → IsKnown b s bytes → (WasFed bytes [] s → WasFed (bytes ++ piece) [] t) → Takes piece s t →
    IsKnown b t (bytes ++ piece)
fed_more s t bytes piece b none known fed takes =
    let was : IsKnown false s bytes = subst (λ c. IsKnown c s bytes) none known in
    subst (λ c. IsKnown c t (bytes ++ piece)) (sym none) (fed was.0, ap (λ (x : Streaming). x.is_finished) takes.taken ∙ takes.going)

-- the piece is held
pub returns-then-kept_len-self-clause-told : goal.returns-then-kept_len-self-clause-told
returns-then-kept_len-self-clause-told c = λ bytes told.
    fed_more c.args.self.now.search c.feed.new.self bytes c.args.piece.now c.args.self.now.is_found c.if-self.false told (c.in-Ok.ensures.fed bytes []) c.in-Ok.ensures.takes

-- it is searched
pub returns-clause-told : goal.returns-clause-told
returns-clause-told c = λ bytes told.
    c.search_held.ensures.told (bytes ++ c.args.piece.now)
    (fed_more c.args.self.now.search c.feed.new.self bytes c.args.piece.now c.args.self.now.is_found c.if-self.false told (c.in-Ok.ensures.fed bytes []) c.in-Ok.ensures.takes)
