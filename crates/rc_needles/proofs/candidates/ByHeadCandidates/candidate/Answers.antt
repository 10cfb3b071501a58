use Rattle.std.proofs.Common.{subst, arith, ◌<◌}
use Rattle.memchr.specs.Find.{is_byte, is_byte2, is_byte3}
use Rattle.rc_needles.specs.Tables.{needles_in}
use Rattle.rc_needles.specs.Scans.{AreFirstBytesOf}
use Rattle.rc_needles.proofs.ScanLemmas.{ruled_out_before, ruled_out_by_head}
use Rattle.rc_needles.proofs.StandLemmas.{needle_count}
use Rattle.rc_needles.proofs.candidates.ByHeadCandidates.candidate.Goals as goal

pub returns-in-One-clause-passed : goal.returns-in-One-clause-passed
returns-in-One-clause-passed c k l =
    let look = c.args.self.now in
    let searcher = look.searcher.now in
    let piece = c.args.piece.now in
    let needles = needles_in searcher.table.needles.items in
    ruled_out_before needles searcher.offset (is_byte c.in-One.one) piece c.memchr.result k look.from_start searcher.table.some
    (subst (AreFirstBytesOf needles) c.in-One.is look.are) c.memchr.ensures (let fits = c.type_inv.piece k in omega (arith, fits))
    (subst (λ r. k < r) c.unwrap_or.ensures l)

pub returns-in-Two-clause-passed : goal.returns-in-Two-clause-passed
returns-in-Two-clause-passed c k l =
    let look = c.args.self.now in
    let searcher = look.searcher.now in
    let piece = c.args.piece.now in
    let needles = needles_in searcher.table.needles.items in
    ruled_out_before needles searcher.offset (is_byte2 c.in-Two.one c.in-Two.two) piece c.memchr2.result k look.from_start
    searcher.table.some (subst (AreFirstBytesOf needles) c.in-Two.is look.are) c.memchr2.ensures
    (let fits = c.type_inv.piece k in omega (arith, fits)) (subst (λ r. k < r) c.unwrap_or-in-Two.ensures l)

pub returns-in-Three-clause-passed : goal.returns-in-Three-clause-passed
returns-in-Three-clause-passed c k l =
    let look = c.args.self.now in
    let searcher = look.searcher.now in
    let piece = c.args.piece.now in
    let needles = needles_in searcher.table.needles.items in
    ruled_out_before needles searcher.offset (is_byte3 c.in-Three.one c.in-Three.two c.in-Three.three) piece c.memchr3.result k
    look.from_start searcher.table.some (subst (AreFirstBytesOf needles) c.in-Three.is look.are) c.memchr3.ensures
    (let fits = c.type_inv.piece k in omega (arith, fits)) (subst (λ r. k < r) c.unwrap_or-in-Three.ensures l)

pub returns-in-Many-clause-passed : goal.returns-in-Many-clause-passed
returns-in-Many-clause-passed c k l =
    let look = c.args.self.now in
    let table = look.searcher.now.table in
    let piece = c.args.piece.now in
    let none = c.head_candidate.ensures.passed k l in
    ruled_out_by_head (needles_in table.needles.items) look.searcher.now.offset table.heads.items piece k look.from_start table.some table.headed
    (omega (arith, l, c.head_candidate.ensures.within)) (c.type_inv.piece k).fits (omega (arith, none, needle_count table.needles.items))
