use Rattle.std.proofs.Common.{map, string_bytes}
use Rattle.ipdl_top.proofs.Requests.{form_of_found, none_of_found, memory_of_found}
use Rattle.ipdl_top.proofs.request.request_in.Goals as goal

pub returns-clause-form : goal.returns-clause-form
returns-clause-form c = form_of_found (map string_bytes c.args.words.now) c.found_request.result c.found_request.ensures.found

pub returns-clause-none : goal.returns-clause-none
returns-clause-none c = none_of_found (map string_bytes c.args.words.now) c.found_request.result c.found_request.ensures.found

pub returns-clause-memory : goal.returns-clause-memory
returns-clause-memory c = memory_of_found (map string_bytes c.args.words.now) c.found_request.result c.found_request.ensures.memory
