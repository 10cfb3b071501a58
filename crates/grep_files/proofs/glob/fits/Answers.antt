use Rattle.std.proofs.Common.{ℕ, Bool, List, ◌≡◌, ◌-◌, ◌<◌, ◌+◌, ◌∙◌, false, ap, ap₂, arith, drop, length, sym}
use Rattle.std.proofs.Math.ListN.{get_or}
use Rattle.std.proofs.lemmas.List.{get_or_default, take_rest}
use Rattle.grep_files.specs.Globs.{fits}
use Rattle.grep_files.specs.Marks.{marks}
use Rattle.grep_files.proofs.GlobLemmas.{behind_first, mark_at, marks_length}
use Rattle.grep_files.proofs.glob.fits.Goals as goal

pub marked-requires-clause-long : goal.marked-requires-clause-long
marked-requires-clause-long c =
    ap length (c.deref.ensures.value ∙ c.loop-place.invariant) ∙ marks_length (drop c.loop-place.place c.as_bytes-glob.result.now) c.as_bytes-name.result.now

pub marked-requires-clause-behind : goal.marked-requires-clause-behind
marked-requires-clause-behind c =
    let glob = c.as_bytes-glob.result.now in
    let name = c.as_bytes-name.result.now in
    let p = c.loop-place.place - 1 in
    let back : c.loop-place.place ≡ p + 1 = omega (arith, c.loop-place-test.true) in
    c.deref.ensures.value ∙ c.loop-place.invariant ∙ ap (λ k. marks (drop k glob) name) back
    ∙ sym (ap (λ bs. marks bs name) (ap (drop 1) (take_rest glob p) ∙ behind_first glob p))

pub index-requires : goal.index-requires
index-requires c =
    omega (arith, c.loop-place.marks.ok.0, ap length c.loop-place.invariant, marks_length (drop c.loop-place.place c.as_bytes-glob.result.now) c.as_bytes-name.result.now)

-- the whole name
pub returns : goal.returns
returns c =
    let glob = c.as_bytes-glob.result.now in
    let name = c.as_bytes-name.result.now in
    let first : c.loop-place.place ≡ 0 = omega (arith, c.loop-place-test.false) in
    let same : fits glob name ≡ fits c.args.glob.now c.args.name.now = ap₂ fits c.as_bytes-glob.ensures.value c.as_bytes-name.ensures.value in
    let read : get_or c.loop-place.marks.items (length name) false ≡ fits glob name =
    ap₂ (λ (bs : List Bool) (i : ℕ). get_or bs i false) (c.loop-place.invariant ∙ ap (λ k. marks (drop k glob) name) first) (omega arith)
    ∙ mark_at glob name 0 (omega arith) in
    let within : length name < length c.loop-place.marks.items = omega (arith, ap length c.loop-place.invariant, marks_length (drop c.loop-place.place glob) name) in
    c.index.ensures ∙ get_or_default c.loop-place.marks.items (length name) _ false within ∙ read ∙ same
