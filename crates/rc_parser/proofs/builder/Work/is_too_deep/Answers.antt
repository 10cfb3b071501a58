use Rattle.std.proofs.Common.{◌≡◌, ◌+◌, ◌-◌, ◌<◌, List, [], ◌∷◌, map, reverse, take, nat_lt, refl, ap, sym, ◌∙◌, arith}
use Rattle.std.proofs.lemmas.Bool.{lt-ltb}
use Rattle.std.proofs.lemmas.List.{take_all}
use Rattle.rc_parser.specs.Settings.{settings_of}
use Rattle.rc_parser.specs.Pieces.{depth_limit}
use Rattle.rc_parser.specs.Nesting.{closed_depth, least_depth}
use Rattle.rc_parser.specs.View.{outside, state}
use Rattle.rc_parser.proofs.DepthLemmas.{one_out, closed_above}
use Rattle.rc_parser.proofs.builder.Work.is_too_deep.Goals as goal

none_taken : {A : Type 0} (xs : List A) → take 0 xs ≡ []
none_taken [] = refl
none_taken (x ∷ xs) = refl

pub loop-left-init : goal.loop-left-init
loop-left-init c =
    let groups = c.args.self.now.outer.items in
    let all : take c.len-left.result groups ≡ groups = take_all c.len-left.result groups (omega arith) in
    record {
      within = omega arith;
      least = ap (λ xs. closed_depth c.depth-depth.result (map outside (reverse xs))) all ∙ ap (λ d. closed_depth d (map outside (reverse groups))) c.depth-depth.ensures.value;
      bound = omega arith;
    }

pub loop-left-preserved : goal.loop-left-preserved
loop-left-preserved c =
    let groups = c.args.self.now.outer.items in
    let i = c.loop-left.left - 1 in
    let depth = c.loop-left.depth in
    let next : i + 1 ≡ c.loop-left.left = omega arith in
    record {
      within = omega arith;
      least = ap (λ d. closed_depth d (map outside (reverse (take i groups)))) c.depth_with-depth.ensures.value
          ∙ sym (one_out depth groups i c.index.result.now (omega arith) c.index.ensures)
          ∙ ap (λ n. closed_depth depth (map outside (reverse (take n groups)))) next ∙ c.loop-left.invariant.least;
      bound = omega arith;
    }

pub returns-then-depth-limit : goal.returns-then-depth-limit
returns-then-depth-limit c =
    let more = closed_above c.loop-left.depth (map outside (reverse (take c.loop-left.left c.args.self.now.outer.items))) in
    let deep : depth_limit (settings_of c.args.self.now.config) < least_depth (state c.args.self.now) =
    omega (arith, more, c.loop-left.invariant.least, c.if-depth-limit.true, c.depth_limit-limit.ensures) in
    sym (lt-ltb (depth_limit (settings_of c.args.self.now.config)) (least_depth (state c.args.self.now)) deep)

pub returns : goal.returns
returns c =
    let groups = c.args.self.now.outer.items in
    let depth = c.loop-left.depth in
    let none : c.loop-left.left ≡ 0 = omega arith in
    let least : depth ≡ least_depth (state c.args.self.now) =
    sym (ap (λ xs. closed_depth depth (map outside (reverse xs))) (ap (λ n. take n groups) none ∙ none_taken groups)) ∙ c.loop-left.invariant.least in
    ap (λ n. nat_lt n depth) c.depth_limit-limit.ensures ∙ ap (nat_lt (depth_limit (settings_of c.args.self.now.config))) least
