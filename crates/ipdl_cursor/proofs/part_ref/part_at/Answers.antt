use Rattle.std.proofs.Common.{◌∙◌, sym}
use Rattle.ipdl_cursor.specs.Views.{part_of}
use Rattle.ipdl_cursor.proofs.Steps.{term_at-ahead, term_at-no_child}
use Rattle.ipdl_cursor.proofs.part_ref.part_at.Goals as goal

pub loop-number-preserved : goal.loop-number-preserved
loop-number-preserved c =
    term_at-ahead c.args.place.now c.loop-number.number-index (part_of c.loop-number.part) (part_of c.in-Some.next) c.loop-number-test.true (sym c.in-Some.ensures)
    ∙ c.loop-number.invariant

pub returns-in-None : goal.returns-in-None
returns-in-None c =
    sym (term_at-no_child c.args.place.now c.loop-number.number-index (part_of c.loop-number.part) c.loop-number-test.true (sym c.in-None.ensures))
    ∙ c.loop-number.invariant
