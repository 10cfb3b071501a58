use Rattle.regex_cursor.proofs.Puts.{puts_as}
use Rattle.chunk_replace.proofs.Replacing.{told_group, told_literal, told_name}
use Rattle.chunk_replace.proofs.put.put_part.Goals as goal

pub returns-in-Literal-clause-put : goal.returns-in-Literal-clause-put
returns-in-Literal-clause-put g c =
    puts_as c.put_bytes.result _ _ c.as_bytes.result.now _
    (told_literal (g.C.Cursor.content c.args.cursor.now) c.args.caps.now c.args.part.now c.in-Literal.text c.as_bytes.result.now c.in-Literal.is c.as_bytes.ensures.value)
    c.put_bytes.ensures.put

pub returns-in-Group-clause-put : goal.returns-in-Group-clause-put
returns-in-Group-clause-put g c =
    puts_as c.put_group.result _ _ _ _
    (told_group (g.C.Cursor.content c.args.cursor.now) c.args.caps.now c.args.part.now _ c.get_group.result c.in-Group.is c.get_group.ensures)
    c.put_group.ensures.put

pub returns-in-Name-clause-put : goal.returns-in-Name-clause-put
returns-in-Name-clause-put g c =
    puts_as c.put_group-in-Name.result _ _ _ _
    (told_name (g.C.Cursor.content c.args.cursor.now) c.args.caps.now c.args.part.now _ c.get_group_by_name.result c.in-Name.is c.get_group_by_name.ensures)
    c.put_group-in-Name.ensures.put
