use Rattle.ipdl_rules_r.proofs.InjectiveMaps.{injective_maps_keep_sums}
use Rattle.ipdl_rules_r.proofs.rules.injective_maps_keep_sums.Goals as goal

pub returns : goal.returns
returns c = injective_maps_keep_sums
