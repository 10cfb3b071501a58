use Rattle.std.proofs.Common.{length, sym}
use Rattle.rc_needles.specs.Tables.{needles_in}
use Rattle.rc_needles.proofs.StandLemmas.{needle_count}
use Rattle.rc_needles.proofs.ScanLemmas.{one_begins, two_begin, three_begin}
use Rattle.rc_needles.proofs.scan.first_bytes_of.Goals as goal

pub returns-in_default-first_byte_from : goal.returns-in_default-first_byte_from
returns-in_default-first_byte_from c =
    let table = c.args.table.now in
    one_begins (needles_in table.needles.items) table.heads.items (length table.needles.items) c.in-Some.one (sym (needle_count table.needles.items)) table.headed c.in-Some.ensures.0.before c.in_default-first_byte_from.ensures

pub returns-in_default-first_byte_from-2 : goal.returns-in_default-first_byte_from-2
returns-in_default-first_byte_from-2 c =
    let table = c.args.table.now in
    two_begin (needles_in table.needles.items) table.heads.items (length table.needles.items) c.in-Some.one c.in-Some-first_byte_from.two (sym (needle_count table.needles.items)) table.headed c.in-Some.ensures.0.before c.in-Some-first_byte_from.ensures.0.before c.in_default-first_byte_from-2.ensures

pub returns-in-None : goal.returns-in-None
returns-in-None c =
    let table = c.args.table.now in
    three_begin (needles_in table.needles.items) table.heads.items (length table.needles.items) c.in-Some.one c.in-Some-first_byte_from.two c.in-Some-first_byte_from-2.three (sym (needle_count table.needles.items)) table.headed c.in-Some.ensures.0.before c.in-Some-first_byte_from.ensures.0.before c.in-Some-first_byte_from-2.ensures.0.before c.in-None.ensures
