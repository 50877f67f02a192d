use Rattle.ipdl_instances.proofs.Carried.{keys_of-followed, AreDisjoint-followed}
use Rattle.ipdl_instances.proofs.carrying.names_of_followed.Goals as goal

pub returns-clause-keys : goal.returns-clause-keys
returns-clause-keys c = keys_of-followed

pub returns-clause-values : goal.returns-clause-values
returns-clause-values c = AreDisjoint-followed
