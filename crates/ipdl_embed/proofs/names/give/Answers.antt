use Rattle.std.proofs.Common.{sym, ◌∙◌}
use Rattle.ipdl_embed.specs.Tables.{found_in}
use Rattle.ipdl_embed.proofs.NameSets.{given_before, given_now}
use Rattle.ipdl_embed.proofs.names.give.Goals as goal

pub returns-then-contains_key : goal.returns-then-contains_key
returns-then-contains_key c d =
    given_before c.args.pair.now.0 c.args.pair.now.1 d (found_in c.args.given.now) (sym c.contains_key.ensures ∙ c.if-contains_key.true)

pub returns : goal.returns
returns c d =
    given_now c.args.pair.now.0 c.args.pair.now.1 d (found_in c.args.given.now) (found_in c.insert.new.self d) (sym c.contains_key.ensures ∙ c.if-contains_key.false)
    (rw (← c.in_ok-copy.ensures, ← c.in_ok-copy-2.ensures) (c.in_ok-insert.ensures.updates.0 d))
