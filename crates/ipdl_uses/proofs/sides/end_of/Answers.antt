use Rattle.std.proofs.Common.{◌≡◌, ◌-◌, suc, length, get_or, arith}
use Rattle.ipdl_uses.proofs.Ends.{last_end}
use Rattle.ipdl_uses.proofs.sides.end_of.Goals as goal

pub returns-in-Rl : goal.returns-in-Rl
returns-in-Rl c =
    let terms = c.args.chain.now.terms in
    let marks = c.args.chain.now.marks in
    let last = c.index-terms-terms.result in
    let n = length terms - 1 in
    let at : last ≡ get_or terms n last = (let is = c.index-terms-terms.is in let slice = c.as_slice-terms.ensures in cc) in
    let next : suc n ≡ length terms = omega (arith, c.requires) in
    rw c.in-Rl.is (last_end terms marks n last c.requires next at)
