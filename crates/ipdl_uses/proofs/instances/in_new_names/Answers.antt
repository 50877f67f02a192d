use Rattle.ipdl_term.specs.Renaming.{hidden_channels}
use Rattle.ipdl_term.specs.Views.{protocol_of}
use Rattle.ipdl_uses.proofs.Standing.{memory_alone}
use Rattle.ipdl_uses.proofs.instances.in_new_names.Goals as goal

pub no_memory-requires : goal.no_memory-requires
no_memory-requires c =
    memory_alone c.args.renaming.now (hidden_channels (protocol_of c.args.term.now)) _ c.requires c.in-Err.ensures.fault
