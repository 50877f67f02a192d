use Rattle.std.proofs.Common.{◌^◌, ◌<◌, length, get_or, sym, ap, subst, ◌∙◌, arith}
use Rattle.std.proofs.lemmas.List.{get_or_default}
use Rattle.ipdl_base.specs.Bits.{number_of}
use Rattle.ipdl_term.specs.Interpretations.{zeros}
use Rattle.ipdl_truth.proofs.Bits.{number_of-below}
use Rattle.ipdl_truth.proofs.TableValues.{table_value}
use Rattle.ipdl_truth.proofs.tables.table_value.Goals as goal

pub returns : goal.returns
returns c =
    let values = c.args.values.now in
    let a = c.args.argument in
    let default = zeros c.args.to in
    let below : number_of a < length values = subst (λ n. number_of a < n) (ap (λ w. 2 ^ w) c.requires.width ∙ sym c.requires.table.count) (number_of-below a) in
    c.index-values-value.is
    ∙ ap (λ k. get_or values k c.index-values-value.result) c.value.ensures
    ∙ get_or_default values (number_of a) c.index-values-value.result default below
    ∙ sym (table_value c.args.from values a default c.requires.width below (omega (arith, c.requires.table.count)))
