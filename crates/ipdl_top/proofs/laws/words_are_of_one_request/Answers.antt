use Rattle.ipdl_top.proofs.Requests.{one_request_exactly}
use Rattle.ipdl_top.proofs.laws.words_are_of_one_request.Goals as goal

pub returns : goal.returns
returns c = one_request_exactly
