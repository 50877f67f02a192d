use Rattle.std.proofs.Common.{ℕ, List, [], ◌∷◌, ◌++◌, ap, ◌∙◌, append_assoc}
use Rattle.std.specs.Fmt.{decimal}
use Rattle.ipdl_printing.proofs.PlainNames.{is_name-binder}
use Rattle.ipdl_printing.proofs.tokens.push_binder.Goals as goal

pub returns : goal.returns
returns c =
    let digits = decimal c.args.depth in record {
      text = c.in_ok-push_number.ensures ∙ ap (λ (s : List ℕ). s ++ digits) c.in_ok-push.ensures.items ∙ append_assoc c.args.text.now.items (120 ∷ []) digits;
      formed = is_name-binder c.args.depth c.ranges.depth.fits;
    }
