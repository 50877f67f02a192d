use Rattle.std.proofs.Common.{length, refl, ap}
use Rattle.std.proofs.lemmas.List.Elements.{All-same}
use Rattle.ipdl_script.specs.Ready.{setting_at}
use Rattle.ipdl_uses.specs.Views.{IsKept}
use Rattle.ipdl_script.proofs.theorem.setting_with.Goals as goal

pub returns-clause-value : goal.returns-clause-value
returns-clause-value c = ap (λ chains. setting_at c.args.book.now.document.now chains c.args.interface.now) c.as_slice.ensures

pub returns-clause-kept : goal.returns-clause-kept
returns-clause-kept c = λ bodies kept. record {
  symbols = refl;
  bodies = bodies;
  kept = All-same (λ chain. IsKept (length c.args.book.now.document.now.sig) chain) _ _ c.as_slice.ensures kept;
}
