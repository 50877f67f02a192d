use Rattle.std.proofs.Common.{◌∙◌}
use Rattle.ipdl_read.proofs.SeenNames.{is_some-lookup_names}
use Rattle.ipdl_read.proofs.seen.Seen.has.Goals as goal

pub returns : goal.returns
returns c =
    c.contains_key.ensures ∙ is_some-lookup_names c.self.inside.names.entries c.args.self.now c.args.name.now c.self.view_is
