use Rattle.ipdl_instances.proofs.Composed.{renamed_same, renamed_context_same, renamed_in_own_names, renamed_by_no_pairs}
use Rattle.ipdl_instances.proofs.composition.renamed_by_own_names.Goals as goal

pub returns-clause-same : goal.returns-clause-same
returns-clause-same c = renamed_same

pub returns-clause-context : goal.returns-clause-context
returns-clause-context c = renamed_context_same

pub returns-clause-named : goal.returns-clause-named
returns-clause-named c = renamed_in_own_names

pub returns-clause-completed : goal.returns-clause-completed
returns-clause-completed c = renamed_by_no_pairs
