use Rattle.std.proofs.Common.{◌≡◌, ◌+◌, ◌-◌, ◌∷◌, [], ◌++◌, drop, get_or, true, false, sym, ap, ◌∙◌, arith, append_assoc}
use Rattle.ipdl_truth.specs.FreeVariables.{free_of, occurs}
use Rattle.ipdl_truth.specs.Questions.{expressions_in}
use Rattle.ipdl_truth.specs.Views.{asked_of}
use Rattle.ipdl_truth.proofs.Walks.{free_of-used, free_of-unused}
use Rattle.ipdl_truth.proofs.free_variables.free_variables.Goals as goal
use Rattle.ipdl_truth.proofs.free_variables.free_variables.Goals.{then-is_used+in_ok-push, else-is_used}

pub loop-width-preserved : goal.loop-width-preserved
loop-width-preserved c =
    let es = expressions_in (asked_of c.args.question.now) in
    let i = c.loop-width.width-index in
    let inside = c.loop-width.inside in
    let xs = c.args.question.now.widths.now in
    elim c.if-is_used.branch [
      | then-is_used+in_ok-push w ↦
          let used : occurs es (inside - 1) ≡ true = sym c.is_used.ensures ∙ w.if-is_used.true in
          let step = free_of-used es i inside xs c.loop-width-test.true c.loop-width.invariant.inside used in
          let rest = free_of es (i + 1) (drop (i + 1) xs) in
          let before = c.loop-width.free.items in
          let pushed : c.if-is_used.free.items ≡ before ++ (i, get_or xs i 0) ∷ [] = ap (λ v. v.items) w.free-is ∙ w.in_ok-push.ensures.items ∙ ap (λ d. before ++ (d, get_or xs i 0) ∷ []) c.loop-width.invariant.depth in
          record {
            inside = omega arith;
            depth = omega arith;
            all = ap (λ l. l ++ rest) pushed ∙ append_assoc before ((i, get_or xs i 0) ∷ []) rest ∙ ap (λ l. before ++ l) (sym step) ∙ c.loop-width.invariant.all;
          }
      | else-is_used w ↦
          let unused : occurs es (inside - 1) ≡ false = sym c.is_used.ensures ∙ w.if-is_used.false in
          let step = free_of-unused es i inside xs c.loop-width-test.true c.loop-width.invariant.inside unused in
          record {
            inside = omega arith;
            depth = omega arith;
            all = ap (λ v. v.items ++ free_of es (i + 1) (drop (i + 1) xs)) w.free-is ∙ ap (λ l. c.loop-width.free.items ++ l) (sym step) ∙ c.loop-width.invariant.all;
          }
    ]
