use Rattle.std.proofs.Common.{◌≡◌, sym, ◌∙◌, false, subst}
use Rattle.std.specs.Result.{IfOk}
use Rattle.ipdl_embed.specs.Tables.{holds}
use Rattle.ipdl_embed.proofs.Captures.{new_name_here, own_name_here}
use Rattle.ipdl_embed.proofs.embedding.renamed_name.Goals as goal

pub returns-in-Some : goal.returns-in-Some
returns-in-Some c =
    let name = c.in-Some.name.now in
    let free : holds c.args.hidden.now c.args.channel.now ≡ false = sym c.contains.ensures ∙ c.if-contains.false in
    subst (λ n. IfOk c.copy-in-Some.result (λ copy. copy ≡ n)) (new_name_here (holds c.args.hidden.now) c.args.renaming.now c.args.channel.now name free c.in-Some.ensures) c.copy-in-Some.ensures

pub returns-in-None : goal.returns-in-None
returns-in-None c =
    let free : holds c.args.hidden.now c.args.channel.now ≡ false = sym c.contains.ensures ∙ c.if-contains.false in
    subst (λ n. IfOk c.copy-in-None.result (λ copy. copy ≡ n)) (own_name_here (holds c.args.hidden.now) c.args.renaming.now c.args.channel.now free c.in-None.ensures) c.copy-in-None.ensures
