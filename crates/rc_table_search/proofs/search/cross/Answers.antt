use Rattle.std.proofs.Common.{rules, ◌≡◌, ℕ, ◌+◌, ◌<◌, ◌≤◌, ◌∙◌, length, slice_range, not, sym, subst, ap, arith}
use Rattle.rc_table_search.specs.Walks.{first_of, left_of}
use Rattle.rc_table_search.specs.Ways.{IsInSlice, IsNext, IsOn, LiesWithin, span}
use Rattle.rc_table_search.proofs.SpanLemmas.{between, first_here, inside_here, kept_then, left_on, next_here, on_both, piece_fits, read_here, span_within}
use Rattle.rc_table_search.specs.Searches.{IsAt}
use Rattle.rc_table_search.proofs.SearchLemmas.{rests_here}
use Rattle.rc_table_search.proofs.search.cross.Goals as goal
use Rattle.rc_table_search.proofs.search.cross.Goals.{After-piece_on-piece, After-reach-stop, After-start-start}

-- where the content ends
long : (g : _) (c : After-reach-stop g) → length c.loop-at.input.content ≡ length g.outset.seen.content
long g c = ap length (c.loop-at.invariant.keeps.content ∙ c.requires.1.1.1.1.1.0.content)

pub piece_on-piece-requires-clause-within : goal.piece_on-piece-requires-clause-within
piece_on-piece-requires-clause-within g c =
    let few = c.requires.1.1.1.1.1.1.1.1.1.1.0 in
    let le = between g.W.Way.BACKWARDS c.args.request.now.from c.loop-at.at c.args.request.now.end (length g.outset.seen.content) c.loop-at.invariant.on (on_both g.W.Way.BACKWARDS c.loop-at.at c.args.until c.args.request.now.end c.loop-at.invariant.within c.requires.1.1.1.1.1.1.1.1.1.0) few.0 few.1 in
    let same = long g (goal.at.piece_on-piece-requires-clause-within g c).After-reach-stop in
    omega (arith, le, same)

pub piece_on-piece-requires-clause-fits : goal.piece_on-piece-requires-clause-fits
piece_on-piece-requires-clause-fits g c =
    let few = c.requires.1.1.1.1.1.1.1.1.1.1.0 in
    let until = left_on g.W.Way.BACKWARDS c.loop-at.at c.reach-stop.result c.reach-stop.ensures.left in
    let on = on_both g.W.Way.BACKWARDS c.args.request.now.from c.loop-at.at c.reach-stop.result c.loop-at.invariant.on until in
    let le = between g.W.Way.BACKWARDS c.args.request.now.from c.reach-stop.result c.args.request.now.end (length g.outset.seen.content) on (on_both g.W.Way.BACKWARDS c.reach-stop.result c.args.until c.args.request.now.end c.reach-stop.ensures.on c.requires.1.1.1.1.1.1.1.1.1.0) few.0 few.1 in
    let same = long g (goal.at.piece_on-piece-requires-clause-fits g c).After-reach-stop in
    omega (arith, le, same)

-- some byte is left, and the piece has no more than are left
left : (g : _) (c : After-start-start g) → (0 < span g.W.Way.BACKWARDS c.loop-at.at c.args.request.now.end)
    × (length c.piece_on-piece.result.now ≤ span g.W.Way.BACKWARDS c.loop-at.at c.args.request.now.end)
left g c =
    let until = left_on g.W.Way.BACKWARDS c.loop-at.at c.reach-stop.result c.reach-stop.ensures.left in
    let le = span_within g.W.Way.BACKWARDS c.loop-at.at c.reach-stop.result c.args.request.now.end until (on_both g.W.Way.BACKWARDS c.reach-stop.result c.args.until c.args.request.now.end c.reach-stop.ensures.on c.requires.1.1.1.1.1.1.1.1.1.0) in
    (omega (arith, le, c.reach-stop.ensures.left), omega (arith, le, c.piece_on-piece.ensures.short))

-- it is a piece of what is searched, and not beyond the bound
bytes : (g : _) (c : After-start-start g) → c.piece_on-piece.result.now
    ≡ slice_range g.outset.seen.content c.start-start.result (c.start-start.result + length c.piece_on-piece.result.now)
bytes g c =
    subst (λ xs. c.piece_on-piece.result.now ≡ slice_range xs c.start-start.result (c.start-start.result + length c.piece_on-piece.result.now))
    (c.loop-at.invariant.keeps.content ∙ c.requires.1.1.1.1.1.0.content)
    (subst (λ n. c.piece_on-piece.result.now ≡ slice_range c.loop-at.input.content n (n + length c.piece_on-piece.result.now)) (sym c.start-start.ensures)
    c.piece_on-piece.ensures.bytes)

within : (g : _) (c : After-start-start g) → LiesWithin g.W.Way.BACKWARDS c.start-start.result (length c.piece_on-piece.result.now) c.args.request.now.end
within g c =
    let few = left g c in
    subst (λ n. LiesWithin g.W.Way.BACKWARDS n (length c.piece_on-piece.result.now) c.args.request.now.end) (sym c.start-start.ensures)
    (first_here g.W.Way.BACKWARDS (length c.piece_on-piece.result.now) c.loop-at.at c.args.request.now.end few.0 few.1).1

fits : (g : _) (c : After-start-start g) → c.start-start.result + length c.piece_on-piece.result.now ≤ 18446744073709551615
fits g c =
    let few = left g c in
    let among = c.requires.1.1.1.1.1.1.1.1.1.1.0 in
    let long = c.requires.1.1.1.1.1.1.1.1.1.1.1.0 in
    let from : c.args.request.now.from ≤ 18446744073709551615 = let k = among.0 in omega (arith, k, long) in
    let end : c.args.request.now.end ≤ 18446744073709551615 = let k = among.1 in omega (arith, k, long) in
    let at = between g.W.Way.BACKWARDS c.args.request.now.from c.loop-at.at c.args.request.now.end 18446744073709551615 c.loop-at.invariant.on (on_both g.W.Way.BACKWARDS c.loop-at.at c.args.until c.args.request.now.end c.loop-at.invariant.within c.requires.1.1.1.1.1.1.1.1.1.0) from end in
    let le = piece_fits g.W.Way.BACKWARDS (length c.piece_on-piece.result.now) c.loop-at.at c.args.request.now.end 18446744073709551615 few.0 few.1 at end in
    omega (arith, le, c.start-start.ensures)

pub read-requires : goal.read-requires
read-requires g c κs within_κs =
    let d = (goal.at.read-requires g c).After-start-start in
    let v = g.T.Transitions.view c.args.table.now g.W.Way.BACKWARDS in
    let few = left g d in
    let first = first_here g.W.Way.BACKWARDS (length c.piece_on-piece.result.now) c.loop-at.at c.args.request.now.end few.0 few.1 in
    let from = ap (λ n. n + first_of g.W.Way.BACKWARDS (length c.piece_on-piece.result.now)) c.start-start.ensures ∙ first.0 in
    let here = subst (λ i. IsAt v g.W.Way.BACKWARDS g.outset c.args.request.now c.loop-at.cache i c.loop-at.stand) (sym from) c.loop-at.invariant.here in
    (search rules, (search rules, (search rules, (here, (c.requires.1.1.1.1.1.1.0, (c.requires.1.1.1.1.1.1.1.0, (bytes g d, (within g d, (c.requires.1.1.1.1.1.1.1.1.1.1.1.1, (fits g d, c.piece_on-piece.ensures.some))))))))))

pub overflow_add-at : goal.overflow_add-at
overflow_add-at g c =
    let le = fits g (goal.at.overflow_add-at g c).After-start-start in
    omega (arith, le, c.in-Ok.ensures.read)

-- the slice has the byte that is read next
inside : (g : _) (c : After-start-start g) (place : ℕ) → place ≤ length c.piece_on-piece.result.now →
    0 < left_of g.W.Way.BACKWARDS (length c.piece_on-piece.result.now) place → IsInSlice g.W.Way.BACKWARDS g.outset.seen (c.start-start.result + place)
inside g c place le some =
    let given = c.requires.1.1.1.1.1.1 in
    let backwards = g.W.Way.BACKWARDS in
    let len = length c.piece_on-piece.result.now in
    let few = left g c in
    let first = first_here backwards len c.loop-at.at c.args.request.now.end few.0 few.1 in
    let from = ap (λ n. n + first_of backwards len) c.start-start.ensures ∙ first.0 in
    inside_here backwards g.outset.seen c.args.request.now.from c.args.request.now.end c.start-start.result place len given.1.0 given.0
    (subst (IsOn backwards c.args.request.now.from) (sym from) c.loop-at.invariant.on) (within g c) le some

pub step-requires : goal.step-requires
step-requires g c κs within_κs =
    let d = (goal.at.step-requires g c).After-start-start in
    let given = c.requires.1.1.1.1.1.1.1 in
    let piece = c.piece_on-piece.result.now in
    let some : 0 < left_of g.W.Way.BACKWARDS (length piece) c.in-Ok.there.0 = omega (arith, c.if-left-gt0.true, c.left.ensures) in
    let ahead = next_here g.W.Way.BACKWARDS g.outset.seen c.args.request.now.end c.start-start.result c.in-Ok.there.0 piece given.0 (bytes g d) (within g d)
    c.in-Ok.ensures.read some in
    let next = subst (IsNext g.W.Way.BACKWARDS g.outset.seen c.args.request.now.end (c.start-start.result + c.in-Ok.there.0)) (sym c.byte-byte.ensures) ahead in
    let among = given.1.1.1.0.1 in
    let long = given.1.1.1.1.0 in (
      search rules,
      (
        search rules,
        (
          search rules,
          (
            search rules,
            (
              c.in-Ok.ensures.at,
              (
                kept_then g.outset.seen c.loop-at.input c.piece_on-piece.follows.lender-at-none
                    (kept_then g.outset.seen c.args.input.now c.loop-at.input c.requires.1.1.1.1.1.0 c.loop-at.invariant.keeps) c.piece_on-piece.follows.holds-at-none,
                (
                  inside g d c.in-Ok.there.0 c.in-Ok.ensures.read some,
                  (
                    next,
                    (
                      given.1.1.1.1.1,
                      λ forwards. let left = subst (λ b. 0 < span b (c.start-start.result + c.in-Ok.there.0) c.args.request.now.end) forwards ahead.left in omega (arith, left, among, long),
                    ),
                  ),
                ),
              ),
            ),
          ),
        ),
      ),
    )

pub returns-then-is_idle-clause-leg : goal.returns-then-is_idle-clause-leg
returns-then-is_idle-clause-leg g c =
    let d = (goal.at.returns-then-is_idle-clause-leg g c).After-start-start in
    let backwards = g.W.Way.BACKWARDS in
    let few = left g d in
    let place = c.in-Ok.there.0 in
    let on = (read_here backwards (length c.piece_on-piece.result.now) c.loop-at.at c.args.request.now.end place few.0 few.1 c.in-Ok.ensures.read).1 in
    let within = subst (λ n. IsOn backwards (n + place) c.args.request.now.end) (sym c.start-start.ensures) on in
    rests_here _ (g.T.Transitions.view c.args.table.now backwards) (g.met.T.Transitions.lawful c.args.table.now backwards) backwards g.outset c.args.request.now
    c.read.new.cache (c.start-start.result + place) c.in-Ok.there.1 c.in-Ok.ensures.at within (c.requires.1.1.1.1.1.1.1.1.1.1.1.1 c.if-request.true)
    c.if-request.true (c.is_none.ensures ∙ ap not c.if-is_none.true) (c.is_idle.ensures c.if-is_idle.true)
