use Rattle.std.proofs.Common.{Bool, List, ◌≡◌, ◌-◌, ◌<◌, ◌+◌, ◌∙◌, ◌++◌, ◌∷◌, ◌==◌, [], false, ap, ap₂, arith, cond, drop, length, sym}
use Rattle.std.proofs.Math.ListN.{get_or}
use Rattle.std.proofs.lemmas.Bool.{eq-eqb, ne_eqb}
use Rattle.std.proofs.lemmas.List.{drop_all}
use Rattle.grep_files.specs.Globs.{fits}
use Rattle.grep_files.specs.Marks.{marks}
use Rattle.grep_files.proofs.GlobLemmas.{first_fit, mark_at, mark_more, next_fit}
use Rattle.grep_files.proofs.glob.marked.Goals as goal
use Rattle.grep_files.proofs.glob.marked.Goals.{then-byte-eq42, else-byte-eq42}

-- the shortest end
pub loop-place-init : goal.loop-place-init
loop-place-init c =
    let glob = c.args.glob.now in
    let name = c.args.name.now in
    let is_fit = c.if-byte-eq42.is_fit in
    let x = get_or c.args.behind.now 0 false in
    let Chosen : Type 0 = is_fit ≡ cond (get_or glob 0 0 == 42) x false in
    let chosen : Chosen =
    elim c.if-byte-eq42.branch as (λ _. Chosen) [
      | then-byte-eq42 w ↦ w.is_fit-is ∙ ap (λ b. cond b x false) (sym (eq-eqb (get_or glob 0 0) 42 w.if-byte-eq42.true))
      | else-byte-eq42 w ↦
          let other = ne_eqb (get_or glob 0 0) 42 w.if-byte-eq42.false in
          w.is_fit-is ∙ other ∙ ap (λ b. cond b x false) (sym other)
    ] in
    let none : drop (length name) name ≡ [] = drop_all (length name) name (omega arith) in
    let read : x ≡ fits (drop 1 glob) (drop (length name) name) =
    ap (λ bs. get_or bs 0 false) c.requires.behind
    ∙ ap (λ i. get_or (marks (drop 1 glob) name) i false) (omega arith) ∙ mark_at (drop 1 glob) name (length name) (omega arith) in
    let fit : is_fit ≡ fits glob [] = chosen ∙ first_fit glob name x c.requires.some read in
    record {
      marks =
          c.in_ok-push.ensures.items ∙ ap₂ (λ (bs : List Bool) (b : Bool). bs ++ b ∷ []) c.new-marks.ensures.items fit
          ∙ sym (ap (marks glob) none);
      last = fit ∙ sym (ap (fits glob) none);
    }

-- a longer end
pub loop-place-preserved : goal.loop-place-preserved
loop-place-preserved c =
    let glob = c.args.glob.now in
    let name = c.args.name.now in
    let p = c.loop-place.place - 1 in
    let lt : p < length name = omega (arith, c.loop-place-test.true, c.loop-place.auto.place) in
    let back : c.loop-place.place ≡ p + 1 = omega (arith, c.loop-place-test.true) in
    let whole : get_or c.args.behind.now (length name - p) false ≡ fits (drop 1 glob) (drop p name) =
    ap (λ bs. get_or bs (length name - p) false) c.requires.behind ∙ mark_at (drop 1 glob) name p (omega (arith, lt)) in
    let rest : get_or c.args.behind.now (length name - p - 1) false ≡ fits (drop 1 glob) (drop (p + 1) name) =
    ap (λ bs. get_or bs (length name - p - 1) false) c.requires.behind
    ∙ ap (λ i. get_or (marks (drop 1 glob) name) i false) (omega arith) ∙ mark_at (drop 1 glob) name (p + 1) (omega (arith, lt)) in
    let shorter : c.loop-place.is_fit ≡ fits glob (drop (p + 1) name) = c.loop-place.invariant.last ∙ ap (λ k. fits glob (drop k name)) back in
    let fit : c.fits_longer-is_fit.result ≡ fits glob (drop p name) =
    c.fits_longer-is_fit.ensures ∙ next_fit glob name p _ _ _ c.requires.some lt whole rest shorter in
    record {
      marks =
          c.in_ok-push-2.ensures.items
          ∙ mark_more glob name p c.fits_longer-is_fit.result c.loop-place.marks.items lt (c.loop-place.invariant.marks ∙ ap (λ k. marks glob (drop k name)) back) fit;
      last = fit;
    }
