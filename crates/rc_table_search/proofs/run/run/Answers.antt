use Rattle.std.proofs.Common.{rules, Some, true, false, ◌≡◌, ◌+◌, ◌-◌, ◌<◌, ◌≤◌, ℕ, length, refl, sym, subst, ap, ◌∙◌, arith}
use Rattle.rc_table_search.specs.Walks.{HasByte, Reaches, Walk, begun, cell_by, cell_of, left_of, met, next_of, skip}
use Rattle.rc_table_search.proofs.RunLemmas.{goes_found, goes_leapt, forwards_on, goes_plain, reaches_on, read_here}
use Rattle.rc_table_search.proofs.RunLemmas as lemmas
use Rattle.rc_table_search.proofs.run.run.Goals as goal
use Rattle.rc_table_search.proofs.run.run.Goals.{After-byte}

pub loop-cells-init : goal.loop-cells-init
loop-cells-init g c = record { within = c.requires.from; on = omega arith; row = c.requires.row; reaches = begun }

-- the walk
abbrev walk : (g : _) → After-byte g → Walk
walk g c = record {
  backwards = g.W.Way.BACKWARDS;
  leaps = g.R.Rows.LEAPS;
  cells = g.R.Rows.cells c.args.rows.now;
  classes = c.args.classes.now;
  piece = c.args.piece.now;
  start = c.args.start;
  from = c.args.from;
  first = c.args.stand.row;
  before = c.args.stand.noted;
}

-- the cell that was read
abbrev cell : (g : _) → After-byte g → ℕ
cell g c = cell_by c.cells-cells.result.now c.args.classes.now c.loop-cells.row c.byte.result

is : (g : _) (c : After-byte g) → cell g c ≡ cell_of (walk g c) c.loop-cells.place c.loop-cells.row
is g c =
    read_here (walk g c) c.cells-cells.result.now c.args.classes.now c.args.piece.now c.loop-cells.row c.loop-cells.place c.byte.result c.cells-cells.ensures refl refl
    c.byte.ensures

some : (g : _) (c : After-byte g) → HasByte (walk g c) c.loop-cells.place
some g c = record { within = c.loop-cells.invariant.within; some = omega (arith, c.left.ensures, c.loop-cells-test.true) }

fits : (g : _) (c : After-byte g) → c.byte.result < 256
fits g c = omega (arith, c.byte.type_inv)

less : (g : _) (c : After-byte g) → (next_of g.W.Way.BACKWARDS c.loop-cells.place ≤ length c.args.piece.now)
    × (left_of g.W.Way.BACKWARDS (length c.args.piece.now) c.loop-cells.place
    ≡ left_of g.W.Way.BACKWARDS (length c.args.piece.now) (next_of g.W.Way.BACKWARDS c.loop-cells.place) + 1)
less g c = let h = some g c in lemmas.fewer g.W.Way.BACKWARDS (length c.args.piece.now) c.loop-cells.place h.within h.some

pub bounds-classes-byte : goal.bounds-classes-byte
bounds-classes-byte g c =
    let d = (goal.at.bounds-classes-byte g c).After-byte in
    (c.requires.rows.inside c.loop-cells.row c.byte.result c.loop-cells.invariant.row (fits g d)).0

pub stride-read-requires : goal.stride-read-requires
stride-read-requires g c κs within =
    let d = (goal.at.stride-read-requires g c).After-byte in
    let on = sym c.next-at.ensures in
    let row = c.requires.rows.plain c.loop-cells.row c.byte.result c.loop-cells.invariant.row (fits g d) in
    let here = subst (λ xs. cell_by xs c.args.classes.now c.loop-cells.row c.byte.result < skip
    → g.R.Rows.IsRow c.args.rows.now c.args.classes.now (cell_by xs c.args.classes.now c.loop-cells.row c.byte.result)) (sym c.cells-cells.ensures) row in
    let fewer = less g d in
    (search rules, (search rules, (refl, (refl, (c.cells-cells.ensures, (refl, (refl, (c.requires.rows, (here c.if-cell-lt-SKIP.true, (refl, (begun, omega (arith, fewer.0, on))))))))))))

pub loop-cells-preserved-then-cell-lt-SKIP : goal.loop-cells-preserved-then-cell-lt-SKIP
loop-cells-preserved-then-cell-lt-SKIP g c =
    let d = (goal.at.loop-cells-preserved-then-cell-lt-SKIP g c).After-byte in
    let fewer = less g d in
    let at = c.next-at.ensures in
    let now = subst (λ p. Reaches (walk g d) p (cell g d) c.loop-cells.noted) (sym at)
    (goes_plain (walk g d) c.loop-cells.place c.loop-cells.row (cell g d) c.loop-cells.noted c.loop-cells.invariant.reaches (some g d) (is g d) c.if-cell-lt-SKIP.true) in
    record {
      within = c.stride-read.ensures.within;
      on = omega (arith, ap (left_of g.W.Way.BACKWARDS (length c.args.piece.now)) at, fewer.1, c.stride-read.ensures.on, c.loop-cells.invariant.on);
      row = c.stride-read.ensures.row;
      reaches = reaches_on (walk g d) c.next-at.result (cell g d) c.loop-cells.noted now _ _ _ c.stride-read.ensures.reaches;
    }

pub loop-cells-preserved-then-cell-lt-MET : goal.loop-cells-preserved-then-cell-lt-MET
loop-cells-preserved-then-cell-lt-MET g c =
    let d = (goal.at.loop-cells-preserved-then-cell-lt-MET g c).After-byte in
    let fewer = less g d in
    let at = c.next-at-then-cell-lt-MET.ensures in
    let forwards : g.W.Way.BACKWARDS ≡ false = sym c.BACKWARDS.ensures ∙ c.if-BACKWARDS.false in
    let leaps : g.R.Rows.LEAPS ≡ true = cc in
    let read = c.in-Some.ensures.read in
    let left = ap (λ b. left_of b (length c.args.piece.now) c.in-Some.read) forwards in
    let before = ap (λ b. left_of b (length c.args.piece.now) c.next-at-then-cell-lt-MET.result) forwards in
    let now = subst (λ p. Reaches (walk g d) p (cell g d - skip) c.loop-cells.noted) (sym at)
    (goes_leapt (walk g d) c.loop-cells.place c.loop-cells.row (cell g d) c.loop-cells.noted c.loop-cells.invariant.reaches (some g d) (is g d) leaps
    c.if-cell-lt-SKIP.false c.if-cell-ge-DEAD.false) in
    record {
      within = read.1;
      on = omega (arith, ap (left_of g.W.Way.BACKWARDS (length c.args.piece.now)) at, fewer.1, read.0, left, before, c.loop-cells.invariant.on);
      row = c.in-Some.ensures.row;
      reaches = forwards_on (walk g d) false true forwards leaps c.next-at-then-cell-lt-MET.result (cell g d - skip) c.loop-cells.noted now _ _ _
          (c.in-Some.ensures.reaches c.loop-cells.noted);
    }

-- the row that a cell with a find names
named : (g : _) (c : After-byte g) → met ≤ cell g c → cell g c - met < skip → g.R.Rows.IsRow c.args.rows.now c.args.classes.now (cell g c - met)
named g c low high =
    subst (λ xs. met ≤ cell_by xs c.args.classes.now c.loop-cells.row c.byte.result → cell_by xs c.args.classes.now c.loop-cells.row c.byte.result - met < skip
    → g.R.Rows.IsRow c.args.rows.now c.args.classes.now (cell_by xs c.args.classes.now c.loop-cells.row c.byte.result - met)) (sym c.cells-cells.ensures)
    (c.requires.rows.found c.loop-cells.row c.byte.result c.loop-cells.invariant.row (fits g c)) low high

pub stay-read-requires : goal.stay-read-requires
stay-read-requires g c κs within =
    let d = (goal.at.stay-read-requires g c).After-byte in
    let on = sym c.next-at-else-cell-lt-MET.ensures in
    let fewer = less g d in
    let high : cell g d - met < skip = omega (arith, c.if-cell-stops.false, c.requires.limit) in (
      search rules,
      (
        search rules,
        (
          refl,
          (
            refl,
            (
              c.cells-cells.ensures,
              (
                refl,
                (
                  refl,
                  (
                    c.requires.rows,
                    (
                      named g d c.if-cell-lt-MET.false high,
                      (high, (refl, (begun, (omega (arith, fewer.0, on), c.requires.fits)))),
                    ),
                  ),
                ),
              ),
            ),
          ),
        ),
      ),
    )

pub loop-cells-preserved : goal.loop-cells-preserved
loop-cells-preserved g c =
    let d = (goal.at.loop-cells-preserved g c).After-byte in
    let fewer = less g d in
    let at = c.next-at-else-cell-lt-MET.ensures in
    let high : cell g d - met < skip = omega (arith, c.if-cell-stops.false, c.requires.limit) in
    let noted = Some (cell g d - met, c.args.start + c.loop-cells.place) in
    let now = subst (λ p. Reaches (walk g d) p (cell g d - met) noted) (sym at)
    (goes_found (walk g d) c.loop-cells.place c.loop-cells.row (cell g d) c.loop-cells.noted c.loop-cells.invariant.reaches (some g d) (is g d)
    c.if-cell-lt-MET.false high) in
    record {
      within = c.stay-read.ensures.within;
      on = omega (arith, ap (left_of g.W.Way.BACKWARDS (length c.args.piece.now)) at, fewer.1, c.stay-read.ensures.on, c.loop-cells.invariant.on);
      row = named g d c.if-cell-lt-MET.false high;
      reaches = reaches_on (walk g d) c.next-at-else-cell-lt-MET.result (cell g d - met) noted now _ _ _ c.stay-read.ensures.reaches;
    }
