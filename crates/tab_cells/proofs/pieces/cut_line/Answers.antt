use Rattle.std.proofs.lemmas.List.{take_rest}
use Rattle.tab_cells.proofs.FirstLine.{lines_of-cut, lines_of-uncut}
use Rattle.tab_cells.proofs.pieces.cut_line.Goals as goal

pub returns-in-Some : goal.returns-in-Some
returns-in-Some c =
    let bytes = c.args.bytes.now in
    rw (c.after_end.ensures, take_rest bytes c.in-Some.at) (lines_of-cut bytes c.in-Some.at c.in-Some.ensures.0.before c.in-Some.ensures.1)

pub returns-in-None : goal.returns-in-None
returns-in-None c = lines_of-uncut c.args.bytes.now c.requires c.in-None.ensures
