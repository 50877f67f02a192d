use Rattle.std.proofs.Common.{[], ◌∙◌}
use Rattle.std.proofs.lemmas.Result.{IfOk-weaker}
use Rattle.ipdl_chain.specs.Views.{chain_of}
use Rattle.ipdl_term.specs.Steps.{lr, rl}
use Rattle.ipdl_uses.proofs.AddedLinks.{all_of_any}
use Rattle.ipdl_uses.specs.Views.{use_at}
use Rattle.ipdl_uses.proofs.adding.all_added.Goals as goal

pub returns-in-Lr-clause-links : goal.returns-in-Lr-clause-links
returns-in-Lr-clause-links c =
    rw c.in-Lr.is (IfOk-weaker c.all_forward.result _ _ (λ added h. h ∙ all_of_any (use_at [] c.args.site.now) c.args.name.now lr (chain_of c.args.chain.now)) c.all_forward.ensures.links)

pub returns-in-Rl-clause-links : goal.returns-in-Rl-clause-links
returns-in-Rl-clause-links c =
    rw c.in-Rl.is (IfOk-weaker c.all_back.result _ _ (λ added h. h ∙ all_of_any (use_at [] c.args.site.now) c.args.name.now rl (chain_of c.args.chain.now)) c.all_back.ensures.links)
