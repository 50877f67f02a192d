use Rattle.std.proofs.Common.{◌≤◌, Some, sym, ap, ◌∙◌}
use Rattle.ipdl_sig.specs.Symbols.{greatest_argument}
use Rattle.ipdl_sig.proofs.Widths.{first_bad_width-values}
use Rattle.ipdl_sig.proofs.symbol.Symbol.bad_width.Goals as goal

pub returns-in-Some : goal.returns-in-Some
returns-in-Some c =
    let s = c.args.self.now in
    let argument : s.from ≤ greatest_argument s.values = rw c.greatest_argument.ensures at c.if-self-greatest_argument.false in
    c.other_width.ensures ∙ first_bad_width-values s.from s.to s.values c.as_slice.result.now (c.in-Some.is ∙ ap Some (sym c.as_slice.ensures)) argument c.if-self-gt-GREATEST_WIDTH.false
