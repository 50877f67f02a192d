use Rattle.ipdl_script.proofs.Leading.{step_leads}
use Rattle.ipdl_script.proofs.MeaningLaws.{step_means}
use Rattle.ipdl_script.proofs.steps.step_means.Goals as goal

pub returns-clause-means : goal.returns-clause-means
returns-clause-means c = step_means

pub returns-clause-leads : goal.returns-clause-leads
returns-clause-leads c = step_leads
