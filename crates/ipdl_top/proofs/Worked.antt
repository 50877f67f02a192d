-- The tree of the worked example spells its document.
use Rattle.std.proofs.Common.{◌≤◌, refl, arith}
use Rattle.std.proofs.lemmas.Fmt.{decimal_digit}
use Rattle.ipdl_forms.specs.Items.{SpellsDocument}
use Rattle.ipdl_forms.specs.Limits.{IsWithinLimits}
use Rattle.ipdl_chain.specs.ChainTexts.{chain_text}
use Rattle.ipdl_script.proofs.ScriptLaws.{chain_exactly}
use Rattle.ipdl_top.specs.Scripts.{IsProvedDocument, HasShortChains}
use Rattle.ipdl_top.specs.Examples.{worked_document, worked_tree}

-- the head and the version; the two protocols, each with its name, its interface and its body; and the theorem
pub SpellsDocument-worked : SpellsDocument worked_document worked_tree
SpellsDocument-worked =
    let width : 1 ≤ 128 = omega arith in
    let parts : 2 ≤ 2 = omega arith in
    let items : 1 ≤ 4 = omega arith in (
      (refl, items),
      refl,
      refl,
      (
        (
          (refl, refl),
          (refl, refl),
          (refl, tt, refl, ((refl, refl, (refl, width)), refl, ((refl, refl, (refl, width)), refl, tt))),
          ((refl, parts), ((refl, refl), refl, ((refl, refl), refl)), ((refl, refl), refl, ((refl, refl), refl))),
        ),
        (
          (
            (refl, refl),
            (refl, refl),
            (refl, tt, refl, ((refl, refl, (refl, width)), refl, ((refl, refl, (refl, width)), refl, tt))),
            ((refl, parts), ((refl, refl), refl, ((refl, refl), refl)), ((refl, refl), refl, ((refl, refl), refl))),
          ),
          (((refl, refl), (refl, refl), (refl, refl, refl, refl), (refl, ((refl, (refl, tt), tt), tt)), (refl, tt)), tt),
        ),
      ),
      refl,
    )

pub IsWithinLimits-worked : IsWithinLimits worked_document
IsWithinLimits-worked = (omega arith, (omega arith, (omega arith, ((omega arith, (tt, tt), tt), tt))))

pub IsProvedDocument-worked : IsProvedDocument worked_document
IsProvedDocument-worked = (tt, (tt, ((chain_exactly _ 0 _ _).1 (refl, refl), tt)))

-- the chain is of so many bytes
pub HasShortChains-worked : HasShortChains worked_document
unfolding chain_text
HasShortChains-worked = rw (decimal_digit 0 (omega arith), decimal_digit 1 (omega arith)) (omega arith)
