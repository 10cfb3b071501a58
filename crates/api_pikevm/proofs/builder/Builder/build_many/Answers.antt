use Rattle.std.proofs.Common.{arith, ap, length}
use Rattle.rc_build.proofs.TextLemmas.{as_many}
use Rattle.rc_parser.specs.Settings.{settings_of as syntax_of}
use Rattle.api_pikevm.proofs.builder.Builder.build_many.Goals as goal

pub build_many_from_hir-requires : goal.build_many_from_hir-requires
build_many_from_hir-requires c =
    let many = as_many (syntax_of c.args.self.now.syntax) c.args.patterns.now c.in_ok-hirs.hirs.items c.in_ok-hirs.ensures.read in
    let same = ap length c.deref.ensures.value in
    omega (arith, c.requires, many, same)
