use Rattle.std.proofs.Common.{ap, ◌∙◌}
use Rattle.ipdl_forms.specs.Lookups.{protocol_named}
use Rattle.ipdl_forms.proofs.Lookups.{IsNone-protocol_named}
use Rattle.ipdl_forms.proofs.document.Document.protocol.Goals as goal

pub returns-clause-none : goal.returns-clause-none
returns-clause-none c =
    IsNone-protocol_named c.protocol_among.result c.args.self.now.items c.args.name.now (c.protocol_among.ensures ∙ ap (λ xs. protocol_named xs c.args.name.now) c.as_slice.ensures)
