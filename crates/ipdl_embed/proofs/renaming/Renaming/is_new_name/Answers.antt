use Rattle.std.proofs.Common.{ap, ◌∙◌, is_some}
use Rattle.std.specs.Map.{values_of}
use Rattle.ipdl_term.specs.Channels.{has}
use Rattle.ipdl_embed.proofs.PairLaws.{is_some-old_name}
use Rattle.ipdl_embed.proofs.renaming.Renaming.is_new_name.Goals as goal

pub returns : goal.returns
returns c =
    c.contains_key.ensures
    ∙ ap is_some (c.self.invariant.finds_back c.args.name.now)
    ∙ is_some-old_name c.self.inside.pairs.items c.args.name.now
    ∙ ap (λ pairs. has (values_of pairs) c.args.name.now) c.self.view_is
