-- What a search spends, and how it is given up.
use Rattle.std.proofs.Common.{◌≡◌, ℕ, ◌+◌, ◌-◌, ◌*◌, ◌≤◌, Result, Ok, Err, IfErr, ap, subst, sym, refl, arith, Bool, List}
use Rattle.std.specs.Result.{IsErrAnd}
use Rattle.std.proofs.Math.Nat.{add-mul, mul-le-mul, mul-le-mul_right}
use Rattle.rc_text.specs.Text.{Searched, Keeps, low, high}
use Rattle.rc_text.specs.declared.types.MatchError as error
use Rattle.rc_dfa_search.specs.Aims.{cost, search_for}
use Rattle.rc_dfa_search.specs.declared.search.Aim.{Aim}
use Rattle.rc_dfa_search.specs.Faults.{IsFault}
use Rattle.rc_pattern.specs.Re.{Re}
use Rattle.rc_dfa_search.specs.Ends.{cost_forwards, cost_from}
use Rattle.rc_dfa_search.proofs.ToldLemmas.{kept_high, kept_low, kept_search}

-- the exit of a `?` answers with the error
pub refused : {T : Type 0} → (r : Result T error.MatchError) (e : error.MatchError) → IsErrAnd r (λ f. f ≡ e) → (P : error.MatchError → Type 0) → P e → IfErr r P
refused (Ok x) e h P p = tt
refused (Err f) e h P p = subst P (sym h) p

-- where the shown chunk and the position alone change, a search costs the same, and fails alike
pub kept_cost : (a b : Searched) → Keeps a b → cost b ≡ cost a
kept_cost a b k = rw (kept_high a b k, kept_low a b k) refl

pub kept_fault : {T : Type 0} → (aim : Aim) (hs : List Re) (terminator : ℕ) (a b : Searched) → Keeps a b → (Gives : ℕ → Bool → Type 0) (r : Result T error.MatchError) →
    IfErr r (IsFault hs (search_for aim hs terminator b) (Gives (cost b))) → IfErr r (IsFault hs (search_for aim hs terminator a) (Gives (cost a)))
kept_fault aim hs terminator a b k Gives r h =
    subst (λ n. IfErr r (IsFault hs (search_for aim hs terminator a) (Gives n))) (kept_cost a b k)
    (subst (λ q. IfErr r (IsFault hs q (Gives (cost b)))) (kept_search aim hs terminator a b k) h)

step_cost : (n j k : ℕ) → k ≤ n + 2 → j * (n + 2) + k ≤ (j + 1) * (n + 2)
step_cost n j k le = let e = add-mul j 1 (n + 2) in omega (arith, e, le)

-- one run more forwards
pub next_cost : (s b : Searched) (from : ℕ) → Keeps s b → low s ≤ from → from ≤ high s →
    (from - low s) * (high s - low s + 2) + (high b - from + 2) ≤ (from + 1 - low s) * (high s - low s + 2)
next_cost s b from k above below =
    let same = kept_high s b k in
    let more = step_cost (high s - low s) (from - low s) (high b - from + 2) (omega (arith, same, above)) in
    let e : from - low s + 1 ≡ from + 1 - low s = omega (arith, above) in
    subst (λ j. (from - low s) * (high s - low s + 2) + (high b - from + 2) ≤ j * (high s - low s + 2)) e more

pub run_cost : (s b : Searched) (from : ℕ) → Keeps s b → low s ≤ from → from ≤ high s →
    (from - low s) * (high s - low s + 2) + (high b - from + 2) ≤ cost_forwards s
run_cost s b from k above below =
    let one = next_cost s b from k above below in
    let j : from + 1 - low s ≤ high s - low s + 1 = omega (arith, above, below) in
    let more = mul-le-mul_right (high s - low s + 2) j in
    omega (arith, one, more)

-- one run more from a later start, where so many starts before it cost a run each
pub next_later : (s b : Searched) (start from : ℕ) → Keeps s b → low s ≤ start → start ≤ from → from ≤ high s →
    (from - start) * (high s - low s + 2) + (high b - from + 2) ≤ (from + 1 - start) * (high s - low s + 2)
next_later s b start from k first above below =
    let same = kept_high s b k in
    let more = step_cost (high s - low s) (from - start) (high b - from + 2) (omega (arith, same, first, above)) in
    let e : from - start + 1 ≡ from + 1 - start = omega (arith, above) in
    subst (λ j. (from - start) * (high s - low s + 2) + (high b - from + 2) ≤ j * (high s - low s + 2)) e more

pub later_cost : (s b : Searched) (start from : ℕ) → Keeps s b → low s ≤ start → start ≤ from → from ≤ high s →
    (from - start) * (high s - low s + 2) + (high b - from + 2) ≤ cost_from s start
later_cost s b start from k first above below =
    let one = next_later s b start from k first above below in
    let j : from + 1 - start ≤ high s - start + 1 = omega (arith, above, below) in
    let more = mul-le-mul_right (high s - low s + 2) j in
    omega (arith, one, more)

-- the starts before one, and those from it on
pub cost_of_later : (s b : Searched) (start : ℕ) → Keeps s b → low s ≤ start → start ≤ high s →
    (start - low s) * (high s - low s + 2) + cost_from b start ≤ cost_forwards s
cost_of_later s b start k above below =
    let n : ℕ = high s - low s + 2 in
    let e = add-mul (start - low s) (high s - start + 1) n in
    let all : start - low s + (high s - start + 1) ≡ high s - low s + 1 = omega (arith, above, below) in
    let same : cost_from b start ≡ cost_from s start = rw (kept_high s b k, kept_low s b k) refl in
    let whole : (start - low s + (high s - start + 1)) * n ≡ cost_forwards s = ap (λ m. m * n) all in
    omega (arith, e, same, whole)

-- forwards alone
pub cost_of_forwards : (s : Searched) → cost_forwards s ≤ cost s
cost_of_forwards s =
    let n : ℕ = high s - low s in
    let a : n + 1 ≤ n + 4 = omega arith in
    let b : n + 2 ≤ n + 4 = omega arith in
    mul-le-mul a b

-- and then backwards
pub cost_of_both : (s b : Searched) → Keeps s b → cost_forwards s + (high b - low b + 2) ≤ cost s
cost_of_both s b k =
    let n : ℕ = high s - low s in
    let top = kept_high s b k in
    let bottom = kept_low s b k in
    let one = step_cost n (n + 1) (high b - low b + 2) (let le : high b - low b + 2 ≤ high s - low s + 2 = omega (arith, top, bottom) in le) in
    let a : n + 1 + 1 ≤ n + 4 = omega arith in
    let b : n + 2 ≤ n + 4 = omega arith in
    let more = mul-le-mul a b in
    omega (arith, one, more)
